-- Steps to the items that bind the free resources of types.
use Rattle.std.proofs.Common.{ℕ, ◌+◌, ◌≤◌, Bool, true, false, cond, List, [], ◌∷◌, length, take, Contains, Option, Some, None, ◌≡◌, ◌⊎◌, ◌↔◌, inl, inr, refl, ap, sym, ◌∙◌, subst, slice_get}
use Rattle.std.proofs.lemmas.Bool.{eqb-true}
use Rattle.std.proofs.lemmas.List.{take_all}
use Rattle.std.specs.BTreeSet.{BTreeSet, insert_key}
use Rattle.std.specs.Ordering.{nat_cmp}
use Rattle.wac_edges.specs.cycles.Cycles.{IsStep}
use Rattle.wac_edges.specs.private.cycles.Numbers.{Has}
use Rattle.wac_edges.proofs.lemmas.cycles.Numbers.{has_head, has_tail, has_split, has_insert, has_old, has_new}
use Rattle.wac_edges.proofs.lemmas.cycles.StepLemmas.{has_none}
use Rattle.wac_types_shapes.specs.contracts.shapes.component.DefinedTypeIdPartialEq.TheImpl as DefinedEq
use Rattle.wac_types_shapes.specs.declared.shapes.component.DefinedTypeId.{DefinedTypeId}
use Rattle.wac_types_shapes.specs.declared.shapes.component.FuncTypeId.{FuncTypeId}
use Rattle.wac_types_shapes.specs.declared.shapes.component.InterfaceId.{InterfaceId}
use Rattle.wac_types_shapes.specs.declared.shapes.component.ResourceId.{ResourceId}
use Rattle.wac_types_shapes.specs.declared.shapes.component.ValueType.{ValueType}
use Rattle.wac_types_shapes.specs.declared.shapes.component.ValueType.TheVariants as val
use Rattle.wac_types_shapes.specs.declared.shapes.component.«Type».{«Type» as AnyType}
use Rattle.wac_types_shapes.specs.declared.shapes.component.«Type».TheVariants as ty
use Rattle.wac_types_collection.specs.collection.Collection.{Collection, IsWellFormed, holds_type}
use Rattle.wac_types_collection.specs.reach.Reach.{IsIn}
use Rattle.wac_types_collection.specs.private.reach.Found.{with_all}
use Rattle.wac_types_collection.proofs.lemmas.reach.Lists.{all_new, all_only}
use Rattle.wac_types_collection.proofs.lemmas.reach.Reaching.{mentioned_held}
use Rattle.wac_types_collection.proofs.lemmas.wide.Members.{in_none, in_first, in_rest, in_parts}
use Rattle.wac_encode_faults.specs.Cycle.{owner_of}
use Rattle.wac_encode_faults.specs.Free as free
use Rattle.wac_encode_faults.specs.Free.{parts, IsFree}
use Rattle.wac_encode_faults.specs.private.DefinitionOwners.{IsOwnerOfType, numbers_of, AreDefinitionOwners, definition_of}
use Rattle.wac_encode_faults.specs.private.Owners.{AddsSteps, IsTarget}
use Rattle.wac_encode_faults.specs.private.Sets.{value_of}
use Rattle.wac_encode_faults.proofs.Mentioned.{part_mentioned}
use Rattle.wac_encode_faults.proofs.Steps.{HasNumber, steps_none, steps_as, steps_both}
use Rattle.wac_encode_faults.proofs.Taken.{none_taken, taken_next}

one_number : (m n : ℕ) → Some m ≡ Some n → m ≡ n
one_number m n e = cc

no_number : (n : ℕ) → None ≡ Some n → ⊥
no_number n e = cc

-- ---- a number is added to a set

pub number_added : (o : Option ℕ) (n : ℕ) (old now : List ℕ) → o ≡ Some n → now ≡ insert_key nat_cmp old n → (b : ℕ) → Has now b ↔ (Has old b ⊎ (o ≡ Some b))
number_added o n old now is grown b = (
  λ h. elim (has_insert old n b (subst (λ ks. Has ks b) grown h)) [ inl e ↦ inr (is ∙ ap Some (sym e)) | inr w ↦ inl w ],
  λ h. subst (λ ks. Has ks b) (sym grown) (elim h [ inl w ↦ has_old old n b w | inr e ↦ subst (Has (insert_key nat_cmp old n)) (one_number n b (sym is ∙ e)) (has_new old n) ]),
)

pub number_none : (o : Option ℕ) (old : List ℕ) → o ≡ None → (b : ℕ) → Has old b ↔ (Has old b ⊎ (o ≡ Some b))
number_none o old is b = (λ h. inl h, λ h. elim h [ inl w ↦ w | inr e ↦ absurd (no_number b (sym is ∙ e)) ])

-- ---- the numbers of several

module _ {K : Type 0} (f : K → Option ℕ) where
  pub numbers_first : (xs : List K) (ns : List ℕ) → ns ≡ [] → (b : ℕ) → Has ns b ↔ HasNumber f 0 (take 0 xs) b
  numbers_first xs ns none b = (λ h. absurd (has_none ns b none h), λ h. absurd (none_taken xs h.0 h.1))

  pub numbers_next : (xs : List K) (n : ℕ) (x : K) (o : Option ℕ) (before now : List ℕ) → slice_get xs n ≡ Some x → o ≡ f x → ((b : ℕ) → Has before b ↔ HasNumber f 0 (take n xs) b)
      → ((b : ℕ) → Has now b ↔ (Has before b ⊎ (o ≡ Some b))) → (b : ℕ) → Has now b ↔ HasNumber f 0 (take (n + 1) xs) b
  numbers_next xs n x o before now at same was step b = (
    λ h. elim ((step b).0 h) [
      | inl w ↦ let k = (was b).0 w in (k.0, (taken_next xs n x k.0 at).1 (inl k.1), k.2)
      | inr e ↦ (x, (taken_next xs n x x at).1 (inr refl), sym same ∙ e)
    ],
    λ h. (step b).1 (elim ((taken_next xs n x h.0 at).0 h.1) [ inl w ↦ inl ((was b).1 (h.0, w, h.2)) | inr e ↦ inr (same ∙ ap f (sym e) ∙ h.2) ]),
  )

  pub numbers_all : (xs : List K) (n : ℕ) (ns : List ℕ) → length xs ≤ n → ((b : ℕ) → Has ns b ↔ HasNumber f 0 (take n xs) b) → (b : ℕ) → Has ns b ↔ HasNumber f 0 xs b
  numbers_all xs n ns past is b = subst (λ l. Has ns b ↔ HasNumber f 0 l b) (take_all n xs past) (is b)

-- ---- the owners of a definition are noted

one_set : (s t : BTreeSet ℕ) → Some s ≡ Some t → s ≡ t
one_set s t e = cc

no_set : (s : BTreeSet ℕ) → None ≡ Some s → ⊥
no_set s e = cc

same_defined : (d q : DefinedTypeId) → (DefinedEq.ghosts).eq d q ≡ true → d ≡ q
same_defined d q e = ap (λ n. record { 0 = n }) (eqb-true d.0 q.0 e)

pub value_no_interface : (v : ValueType) (i : InterfaceId) → ty.Value v ≡ ty.Interface i → ⊥
value_no_interface v i e = cc

pub nothing_known : (c : Collection) (owners : List (ResourceId × ℕ)) (entries : List (DefinedTypeId × BTreeSet ℕ)) → entries ≡ [] → AreDefinitionOwners c owners entries
nothing_known c owners entries none d s at = absurd (no_set s (sym (ap (λ (es : List (DefinedTypeId × BTreeSet ℕ)). numbers_of es d) none) ∙ at))

pub owners_noted : (c : Collection) (owners : List (ResourceId × ℕ)) (old now : List (DefinedTypeId × BTreeSet ℕ)) (d : DefinedTypeId) (s : BTreeSet ℕ) (start found : List ResourceId) → start ≡ []
    → ((r : ResourceId) → Contains found r ↔ (Contains start r ⊎ IsFree c (ty.Value (val.Defined d)) r)) → ((b : ℕ) → Has s.keys b ↔ ((r : ResourceId) × Contains found r × (owner_of owners r ≡ Some b)))
    → ((q : DefinedTypeId) → numbers_of now q ≡ cond ((DefinedEq.ghosts).eq d q) (Some s) (numbers_of old q)) → AreDefinitionOwners c owners old → AreDefinitionOwners c owners now
owners_noted c owners old now d s start found none frees numbers changed was q t at b = by ((DefinedEq.ghosts).eq d q) refl
  where
    here : Has s.keys b ↔ IsOwnerOfType c owners (ty.Value (val.Defined d)) b
    here = (
      λ h. let k = (numbers b).0 h in (k.0, elim ((frees k.0).0 k.1) [ inl n ↦ absurd (in_none k.0 (subst (λ l. Contains l k.0) none n)) | inr f ↦ f ], k.2),
      λ h. (numbers b).1 (h.0, (frees h.0).1 (inr h.1), h.2),
    )

    by : (x : Bool) → (DefinedEq.ghosts).eq d q ≡ x → Has t.keys b ↔ IsOwnerOfType c owners (ty.Value (val.Defined q)) b
    by true same =
        let is : s ≡ t = one_set s t (sym (changed q ∙ ap (λ x. cond x (Some s) (numbers_of old q)) same) ∙ at) in
        subst (λ (u : BTreeSet ℕ). Has u.keys b ↔ IsOwnerOfType c owners (ty.Value (val.Defined q)) b) is
        (subst (λ (z : DefinedTypeId). Has s.keys b ↔ IsOwnerOfType c owners (ty.Value (val.Defined z)) b) (same_defined d q same) here)
    by false other = was q t (sym (changed q ∙ ap (λ x. cond x (Some s) (numbers_of old q)) other) ∙ at) b

pub definition_is : (t : AnyType) (d : DefinedTypeId) → definition_of t ≡ Some d → t ≡ ty.Value (val.Defined d)
definition_is (ty.Value (val.Defined e)) d is = ap (λ (z : DefinedTypeId). ty.Value (val.Defined z)) (one_definition e d is)
  where
    one_definition : (e d : DefinedTypeId) → Some e ≡ Some d → e ≡ d
    one_definition e d same = cc
definition_is (ty.Value (val.Primitive p)) d is = let no : None ≡ Some d = is in cc
definition_is (ty.Value (val.Own r)) d is = let no : None ≡ Some d = is in cc
definition_is (ty.Value (val.Borrow r)) d is = let no : None ≡ Some d = is in cc
definition_is (ty.Resource r) d is = let no : None ≡ Some d = is in cc
definition_is (ty.Func f) d is = let no : None ≡ Some d = is in cc
definition_is (ty.Interface i) d is = let no : None ≡ Some d = is in cc
definition_is (ty.World w) d is = let no : None ≡ Some d = is in cc
definition_is (ty.Module m) d is = let no : None ≡ Some d = is in cc

-- ---- the parts of a function

contained_is : (ts : List AnyType) (t : AnyType) → Contains ts t → IsIn t ts
contained_is [] t h = absurd (in_none t h)
contained_is (u ∷ ts) t h = elim (in_parts u t ts h) [ inl e ↦ inl e | inr w ↦ inr (contained_is ts t w) ]

is_contained : (ts : List AnyType) (t : AnyType) → IsIn t ts → Contains ts t
is_contained [] t h = absurd h
is_contained (u ∷ ts) t (inl e) = subst (λ (z : AnyType). Contains (z ∷ ts) t) e (in_first t ts)
is_contained (u ∷ ts) t (inr w) = in_rest u t ts (is_contained ts t w)

func_free : (c : Collection) (t : AnyType) (r : ResourceId) → IsFree c t r → (f : FuncTypeId) → t ≡ ty.Func f → (u : AnyType) × Contains (parts c t) u × IsFree c u r
func_free c _ _ (free.itself q) f e = cc
func_free c t r (free.in_part _ u _ there more) f e = (u, there, more)
func_free c _ r (free.in_export i it n k _ at listed own more) f e = cc

module _ (c : Collection) (t : AnyType) (start keys found : List AnyType) (none : start ≡ []) (all : keys ≡ with_all start (parts c t)) (same : found ≡ keys) where
  found_part : (u : AnyType) → IsIn u found → IsIn u (parts c t)
  found_part u h = elim (all_only start (parts c t) u (subst (IsIn u) all (subst (IsIn u) same h))) [ inl n ↦ absurd (subst (IsIn u) none n) | inr w ↦ w ]

  part_found : (u : AnyType) → IsIn u (parts c t) → IsIn u found
  part_found u h = subst (IsIn u) (sym same) (subst (IsIn u) (sym all) (all_new start (parts c t) u h))

  pub parts_held : IsWellFormed c → holds_type c t ≡ true → (u : AnyType) → IsIn u found → holds_type c u ≡ true
  parts_held wf held u h = mentioned_held c wf t u held (part_mentioned c t u (found_part u h))

  -- What is free in the parts of a function is free in it.
  pub parts_owned : (owners : List (ResourceId × ℕ)) (f : FuncTypeId) → t ≡ ty.Func f → (b : ℕ) → ((u : AnyType) × Contains found u × IsOwnerOfType c owners u b) ↔ IsOwnerOfType c owners t b
  parts_owned owners f is b = (
    λ h. (h.2.0, free.in_part t h.0 h.2.0 (is_contained (parts c t) h.0 (found_part h.0 (contained_is found h.0 h.1))) h.2.1, h.2.2),
    λ h. let w = func_free c t h.0 h.1 f is in (w.0, is_contained found w.0 (part_found w.0 (contained_is (parts c t) w.0 w.1)), (h.0, w.2, h.2)),
  )

-- ---- steps to the numbers of a set, one after the other

-- Steps to numbers are added, where all are those and the rest.
abbrev pub SoFar : ℕ → List ℕ → List ℕ → List (BTreeSet ℕ) → List (BTreeSet ℕ) → Type 0
SoFar from all rest old now = (a b : ℕ) → (IsStep now a b ⊎ ((a ≡ from) × (b ≡ from → ⊥) × Has rest b)) ↔ (IsStep old a b ⊎ ((a ≡ from) × (b ≡ from → ⊥) × Has all b))

pub so_first : (from : ℕ) (all rest : List ℕ) (old : List (BTreeSet ℕ)) → rest ≡ all → SoFar from all rest old old
so_first from all rest old is a b = (
  λ h. elim h [ inl w ↦ inl w | inr w ↦ inr (w.0, w.1, subst (λ (ks : List ℕ). Has ks b) is w.2) ],
  λ h. elim h [ inl w ↦ inl w | inr w ↦ inr (w.0, w.1, subst (λ (ks : List ℕ). Has ks b) (sym is) w.2) ],
)

pub so_next : (from to : ℕ) (all before rest : List ℕ) (old now new : List (BTreeSet ℕ)) → before ≡ to ∷ rest → AddsSteps from (λ b. Some to ≡ Some b) now new → SoFar from all before old now → SoFar from all rest old new
so_next from to all before rest old now new is adds was a b = (
  λ h. (was a b).0 (elim h [
    | inl w ↦ elim ((adds a b).0 w) [
      | inl v ↦ inl v
      | inr v ↦ inr (v.0, v.1, subst (λ (ks : List ℕ). Has ks b) (sym is) (has_head b to rest (sym (one_number to b v.2))))
    ]
    | inr w ↦ inr (w.0, w.1, subst (λ (ks : List ℕ). Has ks b) (sym is) (has_tail b to rest w.2))
  ]),
  λ h. elim ((was a b).1 h) [
    | inl w ↦ inl ((adds a b).1 (inl w))
    | inr w ↦ elim (has_split b to rest (subst (λ (ks : List ℕ). Has ks b) is w.2)) [
      | inl e ↦ inl ((adds a b).1 (inr (w.0, w.1, ap Some (sym e))))
      | inr v ↦ inr (w.0, w.1, v)
    ]
  ],
)

pub so_all : (from : ℕ) (all rest : List ℕ) (old new : List (BTreeSet ℕ)) → rest ≡ [] → SoFar from all rest old new → AddsSteps from (Has all) old new
so_all from all rest old new none was a b = (
  λ h. elim ((was a b).0 (inl h)) [ inl w ↦ inl w | inr w ↦ inr w ],
  λ h. elim ((was a b).1 h) [ inl w ↦ w | inr w ↦ absurd (has_none rest b none w.2) ],
)

-- ---- steps to what several lead to

module _ {K : Type 0} (P : K → ℕ → Type 0) (from : ℕ) where
  -- One of these leads to the number.
  abbrev pub OneHas : List K → ℕ → Type 0
  OneHas xs b = (k : K) × Contains xs k × P k b

  pub ones_first : (xs : List K) (old : List (BTreeSet ℕ)) → AddsSteps from (OneHas (take 0 xs)) old old
  ones_first xs old = steps_none from (OneHas (take 0 xs)) old (λ b other h. none_taken xs h.0 h.1)

  pub ones_next : (xs : List K) (n : ℕ) (x : K) (old before now : List (BTreeSet ℕ)) → slice_get xs n ≡ Some x → AddsSteps from (OneHas (take n xs)) old before → AddsSteps from (P x) before now → AddsSteps from (OneHas (take (n + 1) xs)) old now
  ones_next xs n x old before now at was step =
      steps_as from (λ b. OneHas (take n xs) b ⊎ P x b) (OneHas (take (n + 1) xs)) old now (λ b. (
        λ h. elim h [ inl w ↦ (w.0, (taken_next xs n x w.0 at).1 (inl w.1), w.2) | inr p ↦ (x, (taken_next xs n x x at).1 (inr refl), p) ],
        λ h. elim ((taken_next xs n x h.0 at).0 h.1) [ inl w ↦ inl (h.0, w, h.2) | inr e ↦ inr (subst (λ (z : K). P z b) e h.2) ],
      )) (steps_both from (OneHas (take n xs)) (P x) old before now was step)

  pub ones_all : (xs : List K) (n : ℕ) (old now : List (BTreeSet ℕ)) → length xs ≤ n → AddsSteps from (OneHas (take n xs)) old now → AddsSteps from (OneHas xs) old now
  ones_all xs n old now past is = subst (λ l. AddsSteps from (OneHas l) old now) (take_all n xs past) is

-- ---- steps to the owners of what is free

pub steps_owned : (Free : ResourceId → Type 0) (owners : List (ResourceId × ℕ)) (from : ℕ) (start found : List ResourceId) (old now : List (BTreeSet ℕ)) → start ≡ [] → ((r : ResourceId) → Contains found r ↔ (Contains start r ⊎ Free r))
    → AddsSteps from (λ b. (r : ResourceId) × Contains found r × (owner_of owners r ≡ Some b)) old now → AddsSteps from (λ b. (r : ResourceId) × Free r × (owner_of owners r ≡ Some b)) old now
steps_owned Free owners from start found old now none frees steps =
    steps_as from (λ b. (r : ResourceId) × Contains found r × (owner_of owners r ≡ Some b)) (λ b. (r : ResourceId) × Free r × (owner_of owners r ≡ Some b)) old now (λ b. (
      λ h. (h.0, elim ((frees h.0).0 h.1) [ inl n ↦ absurd (in_none h.0 (subst (λ l. Contains l h.0) none n)) | inr f ↦ f ], h.2),
      λ h. (h.0, (frees h.0).1 (inr h.1), h.2),
    )) steps

pub steps_needed : (Uses : InterfaceId → Type 0) (Free : ResourceId → Type 0) (suppliers : List (InterfaceId × ℕ)) (owners : List (ResourceId × ℕ)) (from : ℕ) (used : List InterfaceId) (old mid now : List (BTreeSet ℕ)) → ((j : InterfaceId) → Contains used j ↔ Uses j)
    → AddsSteps from (λ b. (j : InterfaceId) × Contains used j × (value_of suppliers j ≡ Some b)) old mid → AddsSteps from (λ b. (r : ResourceId) × Free r × (owner_of owners r ≡ Some b)) mid now → AddsSteps from (IsTarget Uses Free suppliers owners) old now
steps_needed Uses Free suppliers owners from used old mid now uses first second =
    steps_as from (λ b. ((j : InterfaceId) × Contains used j × (value_of suppliers j ≡ Some b)) ⊎ ((r : ResourceId) × Free r × (owner_of owners r ≡ Some b))) (IsTarget Uses Free suppliers owners) old now (λ b. (
      λ h. elim h [ inl w ↦ inl (w.0, (uses w.0).0 w.1, w.2) | inr w ↦ inr w ],
      λ h. elim h [ inl w ↦ inl (w.0, (uses w.0).1 w.1, w.2) | inr w ↦ inr w ],
    )) (steps_both from (λ b. (j : InterfaceId) × Contains used j × (value_of suppliers j ≡ Some b)) (λ b. (r : ResourceId) × Free r × (owner_of owners r ≡ Some b)) old mid now first second)
