-- The flags of nodes: a node has its own where it names a resource of a class, or a part of it has one.
use Rattle.std.proofs.Common.{◌≡◌, ℕ, zero, suc, ◌+◌, ◌<◌, Bool, true, false, ◌||◌, List, [], ◌∷◌, ◌++◌, length, Option, Some, None, is_some, refl, ap, sym, ◌∙◌, ◌⊎◌, inl, inr, subst, arith}
use Rattle.std.specs.Prelude.{slice_get, ◌↔◌}
use Rattle.std.specs.List.{list_any}
use Rattle.std.proofs.lemmas.List.{length-append}
use Rattle.wac_types_shapes.specs.primitives.Name.{option_case}
use Rattle.wac_types_shapes.specs.primitives.Tree.{absent}
use Rattle.wac_merge_tables.specs.private.tables.Nodes.{Node, and_optional, node_tree, tree_to, tree_at, IsTable}
use Rattle.wac_merge_tables.proofs.lemmas.tables.NodeLaws.{deep}
use Rattle.wac_edges.specs.private.cycles.Numbers.{Has}
use Rattle.wac_merge_agreement.specs.private.agreement.Reach.{Reaches, IsOfClass}
use Rattle.wac_merge_agreement.specs.private.agreement.ReachSteps.{node_class, parts, flag_of, AreFlags}
use Rattle.wac_edges.proofs.KeySets.{In}
use Rattle.wac_merge_agreement.proofs.lemmas.agreement.Reaching.{node_in, node_names, node_out, parts_low}

-- ---- one of a list passes
any_in : (f : ℕ → Bool) (ns : List ℕ) → list_any f ns ≡ true → (m : ℕ) × In ns m × (f m ≡ true)
any_in f [] h = cc h
any_in f (n ∷ ns) h = by (f n) refl h (any_in f ns) where
  by : (b : Bool) → f n ≡ b → (b || list_any f ns) ≡ true → (list_any f ns ≡ true → (m : ℕ) × In ns m × (f m ≡ true)) → (m : ℕ) × In (n ∷ ns) m × (f m ≡ true)
  by true is _ _ = (n, inl refl, is)
  by false _ h more = let (m, w, t) = more h in (m, inr w, t)

or_true : (a b : Bool) → b ≡ true → (a || b) ≡ true
or_true true b h = refl
or_true false b h = h

in_any : (f : ℕ → Bool) (ns : List ℕ) (m : ℕ) → In ns m → f m ≡ true → list_any f ns ≡ true
in_any f [] m w h = absurd w
in_any f (n ∷ ns) m (inl is) h = ap (λ b. b || list_any f ns) (ap f (sym is) ∙ h)
in_any f (n ∷ ns) m (inr w) h = or_true (f n) (list_any f ns) (in_any f ns m w h)

pub or_false : (b : Bool) → (b || false) ≡ b
or_false true = refl
or_false false = refl

-- what passes of a list that begins with a number that may be missing
pub any_optional_then : (f : ℕ → Bool) (o : Option ℕ) (rest : List ℕ) → list_any f (and_optional o rest) ≡ (list_any f (and_optional o []) || list_any f rest)
any_optional_then f None rest = refl
any_optional_then f (Some n) rest = ap (λ b. b || list_any f rest) (sym (or_false (f n)))

-- ---- a flag more
pub flag_before : (fs : List Bool) (x : Bool) (i : ℕ) → i < length fs → flag_of (fs ++ x ∷ []) i ≡ flag_of fs i
flag_before [] x i low = absurd (omega (arith, low))
flag_before (f ∷ fs) x zero low = refl
flag_before (f ∷ fs) x (suc i) low = flag_before fs x i (omega (arith, low))

pub flag_last : (fs : List Bool) (x : Bool) → flag_of (fs ++ x ∷ []) (length fs) ≡ x
flag_last [] x = refl
flag_last (f ∷ fs) x = flag_last fs x

abbrev HasClass : List Node → ℕ → Type 0
HasClass ns i = (b : ℕ) × Reaches (IsOfClass b) (tree_at ns i)

module _ (ns : List Node) (table : IsTable ns) (fs : List Bool) (old : AreFlags ns fs) (n : Node) (is : slice_get ns (length fs) ≡ Some n) where
  abbrev next : ℕ
  next = length fs

  tree_is : tree_at ns next ≡ node_tree (tree_to next ns) n
  tree_is = ap (λ o. option_case o absent (node_tree (tree_to next ns))) is

  low : (m : ℕ) → In (parts n) m → m < next
  low m w = parts_low next n m (table.lower next n is) w

  part_is : (m : ℕ) → m < next → tree_to next ns m ≡ tree_at ns m
  part_is m lower = deep ns table next (suc m) m lower (omega arith)

  abbrev flag : Bool
  flag = is_some (node_class n) || list_any (flag_of fs) (parts n)

  to_class : flag ≡ true → HasClass ns next
  to_class h = by (node_class n) refl h where
    by : (o : Option ℕ) → node_class n ≡ o → (is_some o || list_any (flag_of fs) (parts n)) ≡ true → HasClass ns next
    by (Some b) e _ = (b, subst (λ t. Reaches (IsOfClass b) t) (sym tree_is) (node_names (tree_to next ns) b n e))
    by None e h =
        let (m, w, t) = any_in (flag_of fs) (parts n) h in
        let (b, r) = (old.flagged m (low m w)).0 t in
        (b, subst (λ t. Reaches (IsOfClass b) t) (sym tree_is) (node_out (tree_to next ns) b n (table.sorted next n is) m w (subst (λ t. Reaches (IsOfClass b) t) (sym (part_is m (low m w))) r)))

  from_class : HasClass ns next → flag ≡ true
  from_class (b, r) = by (node_in (tree_to next ns) b n (subst (λ t. Reaches (IsOfClass b) t) tree_is r)) where
    by : (node_class n ≡ Some b) ⊎ ((m : ℕ) × In (parts n) m × Reaches (IsOfClass b) (tree_to next ns m)) → (is_some (node_class n) || list_any (flag_of fs) (parts n)) ≡ true
    by (inl e) = ap (λ o. is_some o || list_any (flag_of fs) (parts n)) e
    by (inr (m, w, g)) =
        or_true (is_some (node_class n)) (list_any (flag_of fs) (parts n))
        (in_any (flag_of fs) (parts n) m w ((old.flagged m (low m w)).1 (b, subst (λ t. Reaches (IsOfClass b) t) (part_is m (low m w)) g)))

  -- the next node has its flag
  pub flags_next : (x : Bool) → x ≡ (is_some (node_class n) || list_any (flag_of fs) (parts n)) → AreFlags ns (fs ++ x ∷ [])
  flags_next x same = record { flagged = λ i lower. by i (order i (length fs) (omega (arith, lower, length-append fs (x ∷ [])))) } where
    order : (i k : ℕ) → i < k + 1 → (i < k) ⊎ (i ≡ k)
    order zero zero l = inr refl
    order zero (suc k) l = inl (omega arith)
    order (suc i) zero l = absurd (omega (arith, l))
    order (suc i) (suc k) l = elim (order i k (omega (arith, l))) [ inl h ↦ inl (omega (arith, h)) | inr e ↦ inr (ap suc e) ]

    by : (i : ℕ) → (i < length fs) ⊎ (i ≡ length fs) → (flag_of (fs ++ x ∷ []) i ≡ true) ↔ HasClass ns i
    by i (inl less) = (λ h. (old.flagged i less).0 (sym (flag_before fs x i less) ∙ h), λ h. flag_before fs x i less ∙ (old.flagged i less).1 h)
    by i (inr e) = subst (λ k. (flag_of (fs ++ x ∷ []) k ≡ true) ↔ HasClass ns k) (sym e) (
      λ h. to_class (sym same ∙ sym (flag_last fs x) ∙ h),
      λ h. flag_last fs x ∙ same ∙ from_class h,
    )

-- a node that was looked at and has no flag reaches no resource of a class
pub no_classes : (ns : List Node) (fs : List Bool) → AreFlags ns fs → (i : ℕ) → i < length fs → false ≡ flag_of fs i → (ks : List ℕ) → ks ≡ [] → (b : ℕ) → (Has ks b) ↔ Reaches (IsOfClass b) (tree_at ns i)
no_classes ns fs are i low none ks empty b = (λ h. absurd (nothing (subst (λ xs. Has xs b) empty h)), λ r. absurd (clash r)) where
  nothing : Has [] b → ⊥
  nothing h = cc

  clash : Reaches (IsOfClass b) (tree_at ns i) → ⊥
  clash r = let yes : flag_of fs i ≡ true = (are.flagged i low).1 (b, r) in let wrong : false ≡ true = none ∙ yes in cc wrong

-- where no node was looked at
pub no_flags : (ns : List Node) (fs : List Bool) → fs ≡ [] → AreFlags ns fs
no_flags ns fs none = record { flagged = λ i low. absurd (omega (arith, low, ap length none)) }
