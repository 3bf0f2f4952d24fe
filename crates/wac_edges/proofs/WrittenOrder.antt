-- What the order of writing gives: which nodes are written, and that the sources of a node's edges are.
use Rattle.std.proofs.Common.{◌≡◌, ℕ, zero, suc, Bool, true, false, not, ◌&&◌, ◌||◌, cond, List, [], ◌∷◌, ◌++◌, length, refl, ap, ◌∙◌, sym, subst, arith, append_assoc, eqb, Some, ◌⊎◌, inl, inr}
use Rattle.std.specs.List.{list_any, filter}
use Rattle.std.specs.Prelude.{slice_get}
use Rattle.std.proofs.lemmas.List.{append-nil}
use Rattle.std.proofs.lemmas.Bool.{eqb-true}
use Rattle.std.proofs.lemmas.Bool.Decides.{nat_tests}
use Rattle.std.proofs.Math.Bool.{or-false}
use Rattle.wac_edges.specs.declared.node.NodeId.{NodeId}
use Rattle.wac_edges.specs.Order.{without, Writes, Edges}
use Rattle.wac_edges.proofs.EdgeLemmas.{same_node}

-- are the two one node
abbrev pub same : NodeId → NodeId → Bool
same m n = eqb m.0 n.0

pub same-true : (m n : NodeId) → same m n ≡ true → m ≡ n
same-true m n h = same_node m n (eqb-true m.0 n.0 h)

-- is the node in the list
abbrev pub has : List NodeId → NodeId → Bool
has done n = list_any (same n) done

-- those that are left without these
abbrev pub minus : (NodeId → Bool) → List NodeId → NodeId → Bool
minus left [] = left
minus left (d ∷ ds) = minus (without left d) ds

pub minus-push : (left : NodeId → Bool) (done : List NodeId) (n : NodeId) → minus left (done ++ n ∷ []) ≡ without (minus left done) n
minus-push left [] n = refl
minus-push left (d ∷ done) n = minus-push (without left d) done n

and_split : (a b : Bool) → (a && b) ≡ true → (a ≡ true) × (b ≡ true)
and_split true b h = (refl, h)
and_split false b h = cc

not_true : (b : Bool) → not b ≡ true → b ≡ false
not_true true h = cc
not_true false h = refl

pub minus-false : (left : NodeId → Bool) (done : List NodeId) (m : NodeId) → minus left done m ≡ false → left m ≡ true → has done m ≡ true
minus-false left [] m none here = cc
minus-false left (d ∷ done) m none here = split (same m d) refl (λ h. minus-false (without left d) done m none h) where
  split : (b : Bool) → same m d ≡ b → (without left d m ≡ true → has done m ≡ true) → has (d ∷ done) m ≡ true
  split true same _ = rw same refl
  split false other more = rw other (more (rw (here, other) refl))

pub minus-true : (left : NodeId → Bool) (done : List NodeId) (m : NodeId) → minus left done m ≡ true → (left m ≡ true) × (has done m ≡ false)
minus-true left [] m is = (is, refl)
minus-true left (d ∷ done) m is =
    let (both, not_later) = minus-true (without left d) done m is in
    let (here, other) = and_split (left m) (not (same m d)) both in
    (here, rw (not_true (same m d) other) not_later)

pub has-push : (done : List NodeId) (n m : NodeId) → has (done ++ n ∷ []) m ≡ (has done m || same m n)
has-push [] n m = or-false (same m n)
has-push (d ∷ done) n m = ap (λ b. same m d || b) (has-push done n m) ∙ or_assoc (same m d) (has done m) (same m n) where
  or_assoc : (a b c : Bool) → (a || (b || c)) ≡ ((a || b) || c)
  or_assoc true b c = refl
  or_assoc false b c = refl

pub eqb_same : (n : ℕ) → eqb n n ≡ true
eqb_same n = grind (arith, nat_tests)

pub same_itself : (n : NodeId) → same n n ≡ true
same_itself n = eqb_same n.0

-- two nodes of which one is in the list are two
pub apart : (done : List NodeId) (m n : NodeId) → has done m ≡ true → has done n ≡ false → same m n ≡ false
apart done m n here absent = split (same m n) refl where
  split : (b : Bool) → same m n ≡ b → b ≡ false
  split false _ = refl
  split true same = let e : m ≡ n = same-true m n same in let f : has done n ≡ true = rw (← e) here in cc

-- what is in a longer list is the last or was there
pub in_push : (done : List NodeId) (n m : NodeId) → has (done ++ n ∷ []) m ≡ true → (m ≡ n) ⊎ (has done m ≡ true)
in_push done n m h = split (same m n) refl (sym (has-push done n m) ∙ h) where
  split : (b : Bool) → same m n ≡ b → (has done m || b) ≡ true → (m ≡ n) ⊎ (has done m ≡ true)
  split true same _ = inl (same-true m n same)
  split false _ rest = inr (sym (or-false (has done m)) ∙ rest)

pub still_in : (done : List NodeId) (n m : NodeId) → has done m ≡ true → has (done ++ n ∷ []) m ≡ true
still_in done n m h = has-push done n m ∙ rw h refl

pub now_in : (done : List NodeId) (n : NodeId) → has (done ++ n ∷ []) n ≡ true
now_in done n = has-push done n n ∙ rw (same_itself n) (or_true (has done n)) where
  or_true : (b : Bool) → (b || true) ≡ true
  or_true true = refl
  or_true false = refl

-- what is left is written in the end
pub all_in : (edges : Edges) (left : NodeId → Bool) (rest done : List NodeId) → Writes edges (minus left done) rest → (m : NodeId) → left m ≡ true → has (done ++ rest) m ≡ true
all_in edges left [] done stop m here = rw append-nil (minus-false left done m (stop m) here)
all_in edges left (n ∷ rest) done (ready, later) m here =
    let more : Writes edges (minus left (done ++ n ∷ [])) rest = subst (λ l. Writes edges l rest) (sym (minus-push left done n)) later in
    ap (λ xs. has xs m) (sym (append_assoc done (n ∷ []) rest)) ∙ all_in edges left rest (done ++ n ∷ []) more m here

pub slice_get-middle : {A : Type 0} (xs : List A) (x : A) (ys : List A) → slice_get (xs ++ x ∷ ys) (length xs) ≡ Some x
slice_get-middle [] x ys = refl
slice_get-middle (y ∷ xs) x ys = slice_get-middle xs x ys

-- what is written later is left
pub written_left : (edges : Edges) (left : NodeId → Bool) (rest : List NodeId) → Writes edges left rest → (m : NodeId) → has rest m ≡ true → left m ≡ true
written_left edges left [] stop m wrong = cc
written_left edges left (n ∷ rest) (ready, later) m here = split (same m n) refl here (λ h. (and_split (left m) (not (same m n)) (written_left edges (without left n) rest later m h)).0) where
  split : (b : Bool) → same m n ≡ b → (b || has rest m) ≡ true → (has rest m ≡ true → left m ≡ true) → left m ≡ true
  split true same _ _ = ap left (same-true m n same) ∙ ready.here
  split false _ h more = more h

pub split_writes : (edges : Edges) (left : NodeId → Bool) (done rest : List NodeId) → Writes edges left (done ++ rest) → Writes edges (minus left done) rest
split_writes edges left [] rest w = w
split_writes edges left (d ∷ done) rest (ready, later) = split_writes edges (without left d) done rest later

-- an element of a list is in it
pub in_list : (xs : List NodeId) (k : ℕ) (n : NodeId) → slice_get xs k ≡ Some n → has xs n ≡ true
in_list [] k n h = cc
in_list (x ∷ xs) zero n h = let e : x ≡ n = cc in rw e (ap (λ b. b || has xs n) (same_itself n))
in_list (x ∷ xs) (suc k) n h = rw (in_list xs k n h) (or_yes (same n x)) where
  or_yes : (b : Bool) → (b || true) ≡ true
  or_yes true = refl
  or_yes false = refl

-- where a list has n in one place only
pub only_place : (xs ys : List NodeId) (n : NodeId) (k : ℕ) → has xs n ≡ false → has ys n ≡ false → slice_get (xs ++ n ∷ ys) k ≡ Some n → k ≡ length xs
only_place [] ys n zero _ _ _ = refl
only_place [] ys n (suc k) _ none at = absurd (clash (has ys n) none (in_list ys k n at)) where
  clash : (b : Bool) → b ≡ false → b ≡ true → ⊥
  clash true h _ = cc
  clash false _ h = cc
only_place (x ∷ xs) ys n zero none _ at = let e : x ≡ n = cc in let f : same n x ≡ true = rw e (same_itself n) in let g : has (x ∷ xs) n ≡ true = rw f refl in cc
only_place (x ∷ xs) ys n (suc k) none other at = ap suc (only_place xs ys n k (or_second (same n x) (has xs n) none) other at) where
  or_second : (a b : Bool) → (a || b) ≡ false → b ≡ false
  or_second true b h = cc
  or_second false b h = h

pub has-filter : (p : NodeId → Bool) (xs : List NodeId) (n : NodeId) → has xs n ≡ false → has (filter p xs) n ≡ false
has-filter p [] n h = refl
has-filter p (x ∷ xs) n h = split (p x) refl (has-filter p xs n (or_second (same n x) (has xs n) h)) where
  or_second : (a b : Bool) → (a || b) ≡ false → b ≡ false
  or_second true b h = cc
  or_second false b h = h

  or_first : (a b : Bool) → (a || b) ≡ false → a ≡ false
  or_first true b h = h
  or_first false b h = refl

  split : (b : Bool) → p x ≡ b → has (filter p xs) n ≡ false → has (cond b (x ∷ filter p xs) (filter p xs)) n ≡ false
  split true _ rest = rw (or_first (same n x) (has xs n) h) rest
  split false _ rest = rest
