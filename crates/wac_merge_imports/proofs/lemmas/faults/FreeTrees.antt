-- What is free in a value type or a function type stands in its tree, and nothing else does.
use Rattle.std.proofs.Common.{◌≡◌, ◌==◌, ℕ, zero, suc, Bool, true, false, cond, eq-eqb, List, [], ◌∷◌, map, Contains, Option, Some, None, slice_get, ◌⊎◌, inl, inr, refl, sym, ap, ◌∙◌, subst}
use Rattle.std.proofs.lemmas.Bool.{eqb-true}
use Rattle.wac_types_shapes.specs.primitives.Name.{Name, option_case}
use Rattle.wac_types_shapes.specs.primitives.Tree.{Leaf, TypeTree, Tree, imported, absent, resource, own, borrow, record_of, variant_of, list_of, fixed_list_of, tuple_of, option_of, result_of, stream_of, future_of, function}
use Rattle.wac_types_shapes.specs.declared.shapes.component.DefinedType.{DefinedType}
use Rattle.wac_types_shapes.specs.declared.shapes.component.DefinedType.TheVariants as def
use Rattle.wac_types_shapes.specs.declared.shapes.component.FuncType.{FuncType}
use Rattle.wac_types_shapes.specs.declared.shapes.component.ResourceId.{ResourceId}
use Rattle.wac_types_shapes.specs.declared.shapes.component.ValueType.{ValueType}
use Rattle.wac_types_shapes.specs.declared.shapes.component.ValueType.TheVariants as val
use Rattle.wac_types_shapes.specs.declared.shapes.component.«Type».{«Type» as AnyType}
use Rattle.wac_types_shapes.specs.declared.shapes.component.«Type».TheVariants as ty
use Rattle.wac_types_collection.specs.declared.collection.collection.Held.{Held}
use Rattle.wac_types_collection.specs.collection.Collection.{Collection, IsWellFormed, holds_type, size, seconds, and_maybe, case_values, func_values, defined_values, value_types, func_mentions, defined_mentions, item_of}
use Rattle.wac_types_collection.specs.collection.Held.{resolved, part_at, option_tree, defined_tree, func_tree, of_held, step, unfolded_to, unfolded}
use Rattle.wac_types_collection.specs.collection.Bound.{Bindings, by_place, held_tree}
use Rattle.wac_types_collection.specs.reach.Reach.{IsIn, mentions}
use Rattle.wac_types_collection.proofs.lemmas.reach.Reaching.{mentioned_held}
use Rattle.wac_types_collection.proofs.lemmas.subtyping.Unfolding.{unfolded_step}
use Rattle.wac_types_collection.proofs.lemmas.wide.Members.{in_none, in_first, in_rest, in_one, in_parts}
use Rattle.wac_encode_faults.specs.Free.{parts, IsFree, in_part, in_export}
use Rattle.wac_encode_faults.specs.Free as free
use Rattle.wac_merge_classes.specs.terms.Renaming.{IsRenamed}

-- ---- what stands in a tree

module _ {L : Type 0} (P : L → Type 0) where
  -- a name for which P holds stands in the tree
  abbrev pub Has : TypeTree L → Type 0
  Has (resource l) = P l
  Has (own l) = P l
  Has (borrow l) = P l
  Has (record_of names parts) = (i : ℕ) × Has (parts i)
  Has (variant_of names parts) = (i : ℕ) × Has (parts i)
  Has (list_of t) = Has t
  Has (fixed_list_of n t) = Has t
  Has (tuple_of n parts) = (i : ℕ) × Has (parts i)
  Has (option_of t) = Has t
  Has (result_of t u) = Has t ⊎ Has u
  Has (stream_of t) = Has t
  Has (future_of t) = Has t
  Has (function is_async names parts t) = ((i : ℕ) × Has (parts i)) ⊎ Has t
  Has t = ⊥

  -- it stands in a type that is mentioned
  abbrev Among : (ValueType → TypeTree L) → List ValueType → Type 0
  Among t vs = (v : ValueType) × Contains vs v × Has (t v)

  behind : (o : Option ValueType) (vs : List ValueType) (v : ValueType) → Contains vs v → Contains (and_maybe o vs) v
  behind None vs v h = h
  behind (Some w) vs v h = in_rest w v vs h

  module _ (t : ValueType → TypeTree L) where
    has_part : (vs : List ValueType) (i : ℕ) → Has (part_at (map t vs) i) → Among t vs
    has_part [] i h = absurd h
    has_part (v ∷ vs) zero h = (v, in_first v vs, h)
    has_part (v ∷ vs) (suc i) h = let w = has_part vs i h in (w.0, in_rest v w.0 vs w.1, w.2)

    has_field : (es : List (Name × ValueType)) (i : ℕ) → Has (part_at (map (λ e. t e.1) es) i) → Among t (seconds es)
    has_field [] i h = absurd h
    has_field (e ∷ es) zero h = (e.1, in_first e.1 (seconds es), h)
    has_field (e ∷ es) (suc i) h = let w = has_field es i h in (w.0, in_rest e.1 w.0 (seconds es) w.1, w.2)

    has_maybe : (o : Option ValueType) (vs : List ValueType) → Has (option_tree t o) → Among t (and_maybe o vs)
    has_maybe None vs h = absurd h
    has_maybe (Some v) vs h = (v, in_first v vs, h)

    has_case : (es : List (Name × Option ValueType)) (i : ℕ) → Has (part_at (map (λ e. option_tree t e.1) es) i) → Among t (case_values es)
    has_case [] i h = absurd h
    has_case (e ∷ es) zero h = has_maybe e.1 (case_values es) h
    has_case (e ∷ es) (suc i) h = let w = has_case es i h in (w.0, behind e.1 (case_values es) w.0 w.1, w.2)

    has_defined : (y : DefinedType) → Has (defined_tree t y) → Among t (defined_values y)
    has_defined (def.Tuple vs) h = has_part vs h.0 h.1
    has_defined (def.List v) h = (v, in_first v [], h)
    has_defined (def.FixedSizeList v n) h = (v, in_first v [], h)
    has_defined (def.Option v) h = (v, in_first v [], h)
    has_defined (def.Result ok err) (inl h) = has_maybe ok (and_maybe err []) h
    has_defined (def.Result ok err) (inr h) = let w = has_maybe err [] h in (w.0, behind ok (and_maybe err []) w.0 w.1, w.2)
    has_defined (def.Variant v) h = has_case v.cases h.0 h.1
    has_defined (def.Record r) h = has_field r.fields h.0 h.1
    has_defined (def.Flags names) h = absurd h
    has_defined (def.Enum names) h = absurd h
    has_defined (def.Alias v) h = (v, in_first v [], h)
    has_defined (def.Stream v) h = has_maybe v [] h
    has_defined (def.Future v) h = has_maybe v [] h

    has_func : (f : FuncType) → Has (func_tree t f) → Among t (func_values f)
    has_func f (inl h) = let w = has_field f.params h.0 h.1 in (w.0, behind f.result (seconds f.params) w.0 w.1, w.2)
    has_func f (inr h) = has_maybe f.result (seconds f.params) h

    -- and the other way
    part_has : (vs : List ValueType) (v : ValueType) → Contains vs v → Has (t v) → (i : ℕ) × Has (part_at (map t vs) i)
    part_has [] v there h = absurd (in_none v there)
    part_has (w ∷ vs) v there h = elim (in_parts w v vs there) [
      | inl e ↦ (0, subst (λ z. Has (t z)) e h)
      | inr more ↦ let x = part_has vs v more h in (suc x.0, x.1)
    ]

    field_has : (es : List (Name × ValueType)) (v : ValueType) → Contains (seconds es) v → Has (t v) → (i : ℕ) × Has (part_at (map (λ e. t e.1) es) i)
    field_has [] v there h = absurd (in_none v there)
    field_has (e ∷ es) v there h = elim (in_parts e.1 v (seconds es) there) [
      | inl same ↦ (0, subst (λ z. Has (t z)) same h)
      | inr more ↦ let x = field_has es v more h in (suc x.0, x.1)
    ]

    maybe_has : (o : Option ValueType) (vs : List ValueType) (v : ValueType) → Contains (and_maybe o vs) v → Has (t v) → Has (option_tree t o) ⊎ Contains vs v
    maybe_has None vs v there h = inr there
    maybe_has (Some w) vs v there h = elim (in_parts w v vs there) [
      | inl same ↦ inl (subst (λ z. Has (t z)) same h)
      | inr more ↦ inr more
    ]

    only_has : (o : Option ValueType) (v : ValueType) → Contains (and_maybe o []) v → Has (t v) → Has (option_tree t o)
    only_has o v there h = elim (maybe_has o [] v there h) [ inl x ↦ x | inr none ↦ absurd (in_none v none) ]

    case_has : (es : List (Name × Option ValueType)) (v : ValueType) → Contains (case_values es) v → Has (t v) → (i : ℕ) × Has (part_at (map (λ e. option_tree t e.1) es) i)
    case_has [] v there h = absurd (in_none v there)
    case_has (e ∷ es) v there h = elim (maybe_has e.1 (case_values es) v there h) [
      | inl x ↦ (0, x)
      | inr more ↦ let x = case_has es v more h in (suc x.0, x.1)
    ]

    one_has : (w v : ValueType) → Contains (w ∷ []) v → Has (t v) → Has (t w)
    one_has w v there h = elim (in_parts w v [] there) [ inl same ↦ subst (λ z. Has (t z)) same h | inr none ↦ absurd (in_none v none) ]

    defined_has : (y : DefinedType) (v : ValueType) → Contains (defined_values y) v → Has (t v) → Has (defined_tree t y)
    defined_has (def.Tuple vs) v there h = part_has vs v there h
    defined_has (def.List w) v there h = one_has w v there h
    defined_has (def.FixedSizeList w n) v there h = one_has w v there h
    defined_has (def.Option w) v there h = one_has w v there h
    defined_has (def.Result ok err) v there h = elim (maybe_has ok (and_maybe err []) v there h) [ inl x ↦ inl x | inr more ↦ inr (only_has err v more h) ]
    defined_has (def.Variant w) v there h = case_has w.cases v there h
    defined_has (def.Record r) v there h = field_has r.fields v there h
    defined_has (def.Flags names) v there h = absurd (in_none v there)
    defined_has (def.Enum names) v there h = absurd (in_none v there)
    defined_has (def.Alias w) v there h = one_has w v there h
    defined_has (def.Stream w) v there h = only_has w v there h
    defined_has (def.Future w) v there h = only_has w v there h

    func_has : (f : FuncType) (v : ValueType) → Contains (func_values f) v → Has (t v) → Has (func_tree t f)
    func_has f v there h = elim (maybe_has f.result (seconds f.params) v there h) [ inl x ↦ inr x | inr more ↦ inl (field_has f.params v more h) ]

-- ---- mentioned types

in_values : (vs : List ValueType) (v : ValueType) → Contains vs v → Contains (value_types vs) (ty.Value v)
in_values [] v h = absurd (in_none v h)
in_values (w ∷ vs) v h = elim (in_parts w v vs h) [
  | inl same ↦ subst (λ z. Contains (ty.Value z ∷ value_types vs) (ty.Value v)) same (in_first (ty.Value v) (value_types vs))
  | inr more ↦ in_rest (ty.Value w) (ty.Value v) (value_types vs) (in_values vs v more)
]

values_in : (vs : List ValueType) (u : AnyType) → Contains (value_types vs) u → (v : ValueType) × Contains vs v × (u ≡ ty.Value v)
values_in [] u h = absurd (in_none u h)
values_in (w ∷ vs) u h = elim (in_parts (ty.Value w) u (value_types vs) h) [
  | inl same ↦ (w, in_first w vs, same)
  | inr more ↦ let x = values_in vs u more in (x.0, in_rest w x.0 vs x.1, x.2)
]

pub is_in : (ts : List AnyType) (t : AnyType) → Contains ts t → IsIn t ts
is_in [] t h = absurd (in_none t h)
is_in (u ∷ ts) t h = elim (in_parts u t ts h) [ inl same ↦ inl same | inr more ↦ inr (is_in ts t more) ]

-- The type is a value type or a function type.
abbrev pub IsOfValues : AnyType → Type 0
IsOfValues (ty.Value v) = Unit {0}
IsOfValues (ty.Func f) = Unit {0}
IsOfValues t = ⊥

-- The type opens no scope.
abbrev pub IsPlainType : AnyType → Type 0
IsPlainType (ty.Interface i) = ⊥
IsPlainType t = Unit {0}

module _ (c : Collection) where
  -- of a resource only the end of its aliases is free
  pub end_of : (t : AnyType) (r : ResourceId) → IsFree c t r → (q : ResourceId) → t ≡ ty.Resource q → r ≡ resolved c q
  end_of _ _ (free.itself q') q e = ap (resolved c) (same q' q e) where
    same : (a b : ResourceId) → ty.Resource a ≡ ty.Resource b → a ≡ b
    same a b e = cc
  end_of t r (in_part _ u _ there more) q e = absurd (in_none u (subst (λ z. Contains (parts c z) u) e there))
  end_of _ r (in_export i it n k _ there listed not_own more) q e = cc

  func_plain : (o : Option (Held FuncType)) (u : AnyType) → Contains (option_case (item_of o) [] func_mentions) u → IsPlainType u
  func_plain None u there = absurd (in_none u there)
  func_plain (Some x) u there = let w = values_in (func_values x.item) u there in subst IsPlainType (sym w.2) tt

  defined_plain : (o : Option (Held DefinedType)) (u : AnyType) → Contains (option_case (item_of o) [] defined_mentions) u → IsPlainType u
  defined_plain None u there = absurd (in_none u there)
  defined_plain (Some x) u there = let w = values_in (defined_values x.item) u there in subst IsPlainType (sym w.2) tt

  part_plain : (t u : AnyType) → Contains (parts c t) u → IsPlainType u
  part_plain (ty.Resource r) u there = absurd (in_none u there)
  part_plain (ty.Func f) u there = func_plain (slice_get c.funcs f.0) u there
  part_plain (ty.Value (val.Primitive p)) u there = absurd (in_none u there)
  part_plain (ty.Value (val.Own r)) u there = elim (in_parts (ty.Resource r) u [] there) [ inl same ↦ subst IsPlainType (sym same) tt | inr none ↦ absurd (in_none u none) ]
  part_plain (ty.Value (val.Borrow r)) u there = elim (in_parts (ty.Resource r) u [] there) [ inl same ↦ subst IsPlainType (sym same) tt | inr none ↦ absurd (in_none u none) ]
  part_plain (ty.Value (val.Defined d)) u there = defined_plain (slice_get c.defined d.0) u there
  part_plain (ty.Interface i) u there = absurd (in_none u there)
  part_plain (ty.World w) u there = absurd (in_none u there)
  part_plain (ty.Module k) u there = absurd (in_none u there)

  pub part_mentioned : (t u : AnyType) → Contains (parts c t) u → IsIn u (mentions c t)
  part_mentioned (ty.Resource r) u there = absurd (in_none u there)
  part_mentioned (ty.Func f) u there = is_in (mentions c (ty.Func f)) u there
  part_mentioned (ty.Value v) u there = is_in (mentions c (ty.Value v)) u there
  part_mentioned (ty.Interface i) u there = absurd (in_none u there)
  part_mentioned (ty.World w) u there = absurd (in_none u there)
  part_mentioned (ty.Module k) u there = absurd (in_none u there)

  module _ (m : Bindings) (P : Leaf → Type 0) where
    abbrev tree : AnyType → Tree
    tree t = unfolded (by_place c) c m t

    handle_has : (q r : ResourceId) (l : Leaf) → r ≡ resolved c q → m r ≡ Some l → P l → (f : Leaf → Tree) → ((k : Leaf) → P k → Has P (f k)) → Has P (option_case (m (resolved c q)) absent f)
    handle_has q r l same bound p f has = subst (λ (o : Option Leaf). Has P (option_case o absent f)) (sym bound ∙ ap m same) (has l p)

    module _ (wf : IsWellFormed c) where
      step_has : (t : AnyType) → holds_type c t ≡ true → Has P (step (by_place c) c (unfolded (by_place c) c) m t) → Has P (tree t)
      step_has t held h = subst (Has P) (sym (unfolded_step (by_place c) c wf m t held)) h

      abbrev value : ValueType → Tree
      value v = tree (ty.Value v)

      held_func : (o : Option (Held FuncType)) (u : AnyType) → Contains (option_case (item_of o) [] func_mentions) u → Has P (tree u) → Has P (of_held (func_tree value) o)
      held_func None u there h = absurd (in_none u there)
      held_func (Some x) u there h =
          let w = values_in (func_values x.item) u there in
          func_has P value x.item w.0 w.1 (subst (λ z. Has P (tree z)) w.2 h)

      held_defined : (o : Option (Held DefinedType)) (u : AnyType) → Contains (option_case (item_of o) [] defined_mentions) u → Has P (tree u) → Has P (of_held (defined_tree value) o)
      held_defined None u there h = absurd (in_none u there)
      held_defined (Some x) u there h =
          let w = values_in (defined_values x.item) u there in
          defined_has P value x.item w.0 w.1 (subst (λ z. Has P (tree z)) w.2 h)

      in_handle : (q r : ResourceId) (l : Leaf) (u : AnyType) → Contains (ty.Resource q ∷ []) u → IsFree c u r → m r ≡ Some l → P l → (f : Leaf → Tree) → ((k : Leaf) → P k → Has P (f k)) → Has P (option_case (m (resolved c q)) absent f)
      in_handle q r l u there more bound p f has = handle_has q r l (end_of u r more q (in_one (ty.Resource q) u there)) bound p f has

      part_step : (t u : AnyType) (r : ResourceId) (l : Leaf) → Contains (parts c t) u → IsFree c u r → m r ≡ Some l → P l → Has P (tree u) → Has P (step (by_place c) c (unfolded (by_place c) c) m t)
      part_step (ty.Resource q) u r l there more bound p h = absurd (in_none u there)
      part_step (ty.Func f) u r l there more bound p h = held_func (slice_get c.funcs f.0) u there h
      part_step (ty.Value (val.Primitive x)) u r l there more bound p h = absurd (in_none u there)
      part_step (ty.Value (val.Own q)) u r l there more bound p h = in_handle q r l u there more bound p own (λ k y. y)
      part_step (ty.Value (val.Borrow q)) u r l there more bound p h = in_handle q r l u there more bound p borrow (λ k y. y)
      part_step (ty.Value (val.Defined d)) u r l there more bound p h = held_defined (slice_get c.defined d.0) u there h
      part_step (ty.Interface i) u r l there more bound p h = absurd (in_none u there)
      part_step (ty.World w) u r l there more bound p h = absurd (in_none u there)
      part_step (ty.Module k) u r l there more bound p h = absurd (in_none u there)

      -- what is free stands in the tree
      pub free_has : (t : AnyType) (r : ResourceId) (l : Leaf) → IsPlainType t → holds_type c t ≡ true → IsFree c t r → m r ≡ Some l → P l → Has P (tree t)
      free_has _ _ l plain held (free.itself q) bound p = step_has (ty.Resource q) held (handle_has q (resolved c q) l refl bound p resource (λ k y. y))
      free_has t r l plain held (in_part _ u _ there more) bound p =
          step_has t held (part_step t u r l there more bound p
          (free_has u r l (part_plain t u there) (mentioned_held c wf t u held (part_mentioned t u there)) more bound p))
      free_has _ r l plain held (in_export i it n k _ there listed not_own more) bound p = absurd plain

    -- ---- what stands in the tree is free

    -- a resource that is free, and its leaf
    abbrev pub IsNamed : AnyType → Type 0
    IsNamed t = (r : ResourceId) × (l : Leaf) × IsFree c t r × (m r ≡ Some l) × P l

    abbrev to : ℕ → ValueType → Tree
    to k v = unfolded_to (by_place c) c k m (ty.Value v)

    of_handle : (q : ResourceId) (f : Leaf → Tree) → ((k : Leaf) → Has P (f k) → P k) → (o : Option Leaf) → m (resolved c q) ≡ o → Has P (option_case o absent f) → IsNamed (ty.Resource q)
    of_handle q f has None e h = absurd h
    of_handle q f has (Some l) e h = (resolved c q, l, free.itself q, e, has l h)

    -- what is named in a part is named
    named_on : (t u : AnyType) → Contains (parts c t) u → IsNamed u → IsNamed t
    named_on t u there x = (x.0, x.1, in_part t u x.0 there x.2, x.3, x.4)

    of_defined : (t : ValueType → Tree) (d : AnyType) (o : Option (Held DefinedType)) → ((v : ValueType) → Has P (t v) → IsNamed (ty.Value v)) → ((u : AnyType) → Contains (option_case (item_of o) [] defined_mentions) u → Contains (parts c d) u)
        → Has P (of_held (defined_tree t) o) → IsNamed d
    of_defined t d None each parts_of h = absurd h
    of_defined t d (Some x) each parts_of h =
        let w = has_defined P t x.item h in
        named_on d (ty.Value w.0) (parts_of (ty.Value w.0) (in_values (defined_values x.item) w.0 w.1)) (each w.0 w.2)

    of_func : (t : ValueType → Tree) (d : AnyType) (o : Option (Held FuncType)) → ((v : ValueType) → Has P (t v) → IsNamed (ty.Value v)) → ((u : AnyType) → Contains (option_case (item_of o) [] func_mentions) u → Contains (parts c d) u)
        → Has P (of_held (func_tree t) o) → IsNamed d
    of_func t d None each parts_of h = absurd h
    of_func t d (Some x) each parts_of h =
        let w = has_func P t x.item h in
        named_on d (ty.Value w.0) (parts_of (ty.Value w.0) (in_values (func_values x.item) w.0 w.1)) (each w.0 w.2)

    of_value : (k : ℕ) (v : ValueType) → Has P (to k v) → IsNamed (ty.Value v)
    of_value zero v h = absurd h
    of_value (suc k) (val.Primitive p) h = absurd h
    of_value (suc k) (val.Own q) h = named_on (ty.Value (val.Own q)) (ty.Resource q) (in_first (ty.Resource q) []) (of_handle q own (λ l y. y) (m (resolved c q)) refl h)
    of_value (suc k) (val.Borrow q) h = named_on (ty.Value (val.Borrow q)) (ty.Resource q) (in_first (ty.Resource q) []) (of_handle q borrow (λ l y. y) (m (resolved c q)) refl h)
    of_value (suc k) (val.Defined d) h = of_defined (to k) (ty.Value (val.Defined d)) (slice_get c.defined d.0) (λ v x. of_value k v x) (λ u there. there) h

    pub has_free : (t : AnyType) → IsOfValues t → Has P (tree t) → IsNamed t
    has_free (ty.Value v) of h = of_value (suc (size c)) v h
    has_free (ty.Func f) of h = of_func (to (size c)) (ty.Func f) (slice_get c.funcs f.0) (λ v x. of_value (size c) v x) (λ u there. there) h
    has_free (ty.Resource r) of h = absurd of
    has_free (ty.Interface i) of h = absurd of
    has_free (ty.World w) of h = absurd of
    has_free (ty.Module k) of h = absurd of

-- ---- what a type was rewritten from

values_plain : (t : AnyType) → IsOfValues t → IsPlainType t
values_plain (ty.Value v) of = tt
values_plain (ty.Func f) of = tt
values_plain (ty.Resource r) of = absurd of
values_plain (ty.Interface i) of = absurd of
values_plain (ty.World w) of = absurd of
values_plain (ty.Module k) of = absurd of

abbrev leaf : Bool → Leaf
leaf b = record { out = cond b 1 0; side = imported; path = [] }

abbrev IsMark : Leaf → Type 0
IsMark l = l.out ≡ 1

-- one resource is marked
abbrev marked : ResourceId → Bindings
marked q x = Some (leaf (x.0 == q.0))

same_leaf : (a b : Leaf) → Some a ≡ Some b → a ≡ b
same_leaf a b e = cc

is_marked : (s q : ResourceId) (l : Leaf) → marked q s ≡ Some l → IsMark l → s ≡ q
is_marked s q l is mark = go (s.0 == q.0) refl is where
  go : (b : Bool) → (s.0 == q.0) ≡ b → Some (leaf b) ≡ Some l → s ≡ q
  go true e _ = ap (λ n. record { 0 = n }) (eqb-true s.0 q.0 e)
  go false e same = let no : ◌≡◌ {A = ℕ} 0 1 = ap (λ (k : Leaf). k.out) (same_leaf (leaf false) l same) ∙ mark in cc

module _ (c m : Collection) (wf : IsWellFormed m) (f : ResourceId → ResourceId) (t u : AnyType) (renamed : IsRenamed c m f t u) where
  -- what is free in a rewritten type is what something free became
  pub renamed_free : IsOfValues t → IsOfValues u → (q : ResourceId) → IsFree m u q → (s : ResourceId) × IsFree c t s × (f s ≡ q)
  unfolding held_tree
  renamed_free of_t of_u q is =
      let has = free_has m (marked q) IsMark wf u q (leaf true) (values_plain u of_u) renamed.held is (ap (λ b. Some (leaf b)) (eq-eqb q.0 q.0 refl)) refl in
      let back : Has IsMark (unfolded (by_place c) c (λ r. marked q (f r)) t) = subst (Has IsMark) (renamed.placed (λ r. marked q (f r)) (marked q) (λ r held. refl)) has in
      let x = has_free c (λ r. marked q (f r)) IsMark t of_t back in
      (x.0, x.2, is_marked (f x.0) q x.1 x.3 x.4)
