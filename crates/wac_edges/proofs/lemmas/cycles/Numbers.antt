-- Lists of numbers, as sets.
use Rattle.std.proofs.Common.{◌≡◌, ℕ, ◌<◌, Bool, true, false, ◌||◌, List, [], ◌∷◌, ◌++◌, refl, ap, ◌∙◌, ◌⊎◌, inl, inr, arith}
use Rattle.std.specs.List.{list_any}
use Rattle.std.specs.Ordering.{nat_cmp, is_eq, match_ordering}
use Rattle.std.specs.declared.cmp.Ordering.{Ordering}
use Rattle.std.specs.declared.cmp.Ordering.TheVariants.{Less, Equal, Greater}
use Rattle.std.specs.BTreeMap.{is_at}
use Rattle.std.specs.BTreeSet.{insert_key}
use Rattle.std.proofs.lemmas.Cmp.{ranked}
use Rattle.wac_edges.specs.private.cycles.Numbers.{Has}

abbrev at_key : ℕ → ℕ → Bool
at_key q = is_at (nat_cmp q)

pub same_key : (q k : ℕ) → at_key q k ≡ true → q ≡ k
same_key q k h = split (nat_cmp q k) refl h where
  split : (o : Ordering) → o ≡ nat_cmp q k → is_eq o ≡ true → q ≡ k
  split Less is e = cc
  split Equal is e = ranked q k Equal is
  split Greater is e = cc

itself : (k : ℕ) → at_key k k ≡ true
itself k = split (nat_cmp k k) refl where
  split : (o : Ordering) → o ≡ nat_cmp k k → is_eq o ≡ true
  split Less is = let h : k < k = ranked k k Less is in absurd (omega arith)
  split Equal is = refl
  split Greater is = let h : k < k = ranked k k Greater is in absurd (omega arith)

either : (a b : Bool) → (a || b) ≡ true → (a ≡ true) ⊎ (b ≡ true)
either true b h = inl refl
either false b h = inr h

or_true : (a : Bool) → (a || true) ≡ true
or_true true = refl
or_true false = refl

pub has_head : (q k : ℕ) (ks : List ℕ) → q ≡ k → Has (k ∷ ks) q
has_head q k ks e = rw (e, itself k) refl

pub has_tail : (q k : ℕ) (ks : List ℕ) → Has ks q → Has (k ∷ ks) q
has_tail q k ks h = ap (λ b. at_key q k || b) h ∙ or_true (at_key q k)

pub has_split : (q k : ℕ) (ks : List ℕ) → Has (k ∷ ks) q → (q ≡ k) ⊎ Has ks q
has_split q k ks h = split (either (at_key q k) (list_any (at_key q) ks) h) where
  split : (at_key q k ≡ true) ⊎ Has ks q → (q ≡ k) ⊎ Has ks q
  split (inl e) = inl (same_key q k e)
  split (inr r) = inr r

pub has_insert : (ks : List ℕ) (k q : ℕ) → Has (insert_key nat_cmp ks k) q → (q ≡ k) ⊎ Has ks q
has_insert [] k q h = has_split q k [] h
has_insert (x ∷ xs) k q h = split (nat_cmp k x) h (λ g. has_insert xs k q g) where
  split : (o : Ordering) → Has (match_ordering o (k ∷ x ∷ xs) (x ∷ xs) (x ∷ insert_key nat_cmp xs k)) q → (Has (insert_key nat_cmp xs k) q → (q ≡ k) ⊎ Has xs q) → (q ≡ k) ⊎ Has (x ∷ xs) q
  split Less g _ = has_split q k (x ∷ xs) g
  split Equal g _ = inr g
  split Greater g more = under (has_split q x (insert_key nat_cmp xs k) g) more where
    behind : (q ≡ k) ⊎ Has xs q → (q ≡ k) ⊎ Has (x ∷ xs) q
    behind (inl e) = inl e
    behind (inr r) = inr (has_tail q x xs r)

    under : (q ≡ x) ⊎ Has (insert_key nat_cmp xs k) q → (Has (insert_key nat_cmp xs k) q → (q ≡ k) ⊎ Has xs q) → (q ≡ k) ⊎ Has (x ∷ xs) q
    under (inl e) _ = inr (has_head q x xs e)
    under (inr r) more = behind (more r)

pub has_old : (ks : List ℕ) (k q : ℕ) → Has ks q → Has (insert_key nat_cmp ks k) q
has_old [] k q h = cc
has_old (x ∷ xs) k q h = split (nat_cmp k x) (has_split q x xs h) (λ r. has_old xs k q r) where
  split : (o : Ordering) → (q ≡ x) ⊎ Has xs q → (Has xs q → Has (insert_key nat_cmp xs k) q) → Has (match_ordering o (k ∷ x ∷ xs) (x ∷ xs) (x ∷ insert_key nat_cmp xs k)) q
  split Less _ _ = has_tail q k (x ∷ xs) h
  split Equal _ _ = h
  split Greater (inl e) _ = has_head q x (insert_key nat_cmp xs k) e
  split Greater (inr r) more = has_tail q x (insert_key nat_cmp xs k) (more r)

pub has_new : (ks : List ℕ) (k : ℕ) → Has (insert_key nat_cmp ks k) k
has_new [] k = has_head k k [] refl
has_new (x ∷ xs) k = split (nat_cmp k x) refl (has_new xs k) where
  split : (o : Ordering) → o ≡ nat_cmp k x → Has (insert_key nat_cmp xs k) k → Has (match_ordering o (k ∷ x ∷ xs) (x ∷ xs) (x ∷ insert_key nat_cmp xs k)) k
  split Less _ _ = has_head k k (x ∷ xs) refl
  split Equal is _ = has_head k x xs (ranked k x Equal is)
  split Greater _ more = has_tail k x (insert_key nat_cmp xs k) more

pub has_front : (ks : List ℕ) (k q : ℕ) → Has ks q → Has (ks ++ k ∷ []) q
has_front [] k q h = cc
has_front (x ∷ xs) k q h = split (has_split q x xs h) (λ r. has_front xs k q r) where
  split : (q ≡ x) ⊎ Has xs q → (Has xs q → Has (xs ++ k ∷ []) q) → Has (x ∷ (xs ++ k ∷ [])) q
  split (inl e) _ = has_head q x (xs ++ k ∷ []) e
  split (inr r) more = has_tail q x (xs ++ k ∷ []) (more r)

pub has_last : (ks : List ℕ) (k : ℕ) → Has (ks ++ k ∷ []) k
has_last [] k = has_head k k [] refl
has_last (x ∷ xs) k = has_tail k x (xs ++ k ∷ []) (has_last xs k)

pub has_either : (ks : List ℕ) (k q : ℕ) → Has (ks ++ k ∷ []) q → Has ks q ⊎ (q ≡ k)
has_either [] k q h = split (has_split q k [] h) where
  split : (q ≡ k) ⊎ Has [] q → Has [] q ⊎ (q ≡ k)
  split (inl e) = inr e
  split (inr r) = inl r
has_either (x ∷ xs) k q h = split (has_split q x (xs ++ k ∷ []) h) (λ r. has_either xs k q r) where
  behind : Has xs q ⊎ (q ≡ k) → Has (x ∷ xs) q ⊎ (q ≡ k)
  behind (inl r) = inl (has_tail q x xs r)
  behind (inr e) = inr e

  split : (q ≡ x) ⊎ Has (xs ++ k ∷ []) q → (Has (xs ++ k ∷ []) q → Has xs q ⊎ (q ≡ k)) → Has (x ∷ xs) q ⊎ (q ≡ k)
  split (inl e) _ = inl (has_head q x xs e)
  split (inr r) more = behind (more r)
