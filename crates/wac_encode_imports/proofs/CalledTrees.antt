-- The tree of a value type under bindings, from its tree by what its resources are called.
use Rattle.std.proofs.Common.{ℕ, zero, suc, ◌≡◌, Bool, true, false, List, [], ◌∷◌, map, length, nat_lt, Option, Some, None, slice_get, refl, ap, sym, ◌∙◌}
use Rattle.std.proofs.Math.Path.{fun_ext}
use Rattle.std.proofs.lemmas.Bool.{false≢true}
use Rattle.wac_types_shapes.specs.primitives.Name.{option_case}
use Rattle.wac_types_shapes.specs.primitives.Tree.{TypeTree, Tree, Leaf, absent, resource, primitive, own, borrow, record_of, variant_of, list_of, fixed_list_of, tuple_of, flags_of, enum_of, option_of, result_of, stream_of, future_of, function, instance, component, module_of}
use Rattle.wac_types_shapes.specs.declared.shapes.component.ResourceId.{ResourceId}
use Rattle.wac_types_shapes.specs.declared.shapes.component.DefinedType.{DefinedType}
use Rattle.wac_types_shapes.specs.declared.shapes.component.DefinedType.TheVariants as def
use Rattle.wac_types_shapes.specs.declared.shapes.component.ValueType.{ValueType}
use Rattle.wac_types_shapes.specs.declared.shapes.component.ValueType.TheVariants as val
use Rattle.wac_types_shapes.specs.declared.shapes.component.«Type».{«Type» as AnyType}
use Rattle.wac_types_shapes.specs.declared.shapes.component.«Type».TheVariants as ty
use Rattle.wac_types_collection.specs.declared.collection.collection.Held.{Held}
use Rattle.wac_types_collection.specs.collection.Collection.{Collection, size, holds_type}
use Rattle.wac_types_collection.specs.collection.Held.{Names, resolved, part_at, option_tree, defined_tree, func_tree, interface_tree, world_tree, module_tree, of_held, unfolded, unfolded_to}
use Rattle.wac_types_collection.specs.collection.Bound.{Bindings, by_place, held_tree}
use Rattle.wac_types_collection.specs.subtyping.Called.{Called, by_binding}
use Rattle.wac_merge_classes.proofs.lemmas.entries.Opening.{there}

-- The tree of a value type in which each resource has the leaf of what it is called. What no value type has is left out.
abbrev pub placed : (Called → Option Leaf) → TypeTree Called → Tree
placed f (primitive p) = primitive p
placed f (own x) = option_case (f x) absent own
placed f (borrow x) = option_case (f x) absent borrow
placed f (record_of ns ps) = record_of ns (λ i. placed f (ps i))
placed f (variant_of ns ps) = variant_of ns (λ i. placed f (ps i))
placed f (list_of t) = list_of (placed f t)
placed f (fixed_list_of n t) = fixed_list_of n (placed f t)
placed f (tuple_of n ps) = tuple_of n (λ i. placed f (ps i))
placed f (flags_of ns) = flags_of ns
placed f (enum_of ns) = enum_of ns
placed f (option_of t) = option_of (placed f t)
placed f (result_of t u) = result_of (placed f t) (placed f u)
placed f (stream_of t) = stream_of (placed f t)
placed f (future_of t) = future_of (placed f t)
placed f t = absent

module _ (f : Called → Option Leaf) where
  placed-part : {A : Type 0} (g : A → TypeTree Called) (h : A → Tree) → ((a : A) → placed f (g a) ≡ h a) → (xs : List A) (i : ℕ) → placed f (part_at (map g xs) i) ≡ part_at (map h xs) i
  placed-part g h same [] i = refl
  placed-part g h same (x ∷ xs) zero = same x
  placed-part g h same (x ∷ xs) (suc i) = placed-part g h same xs i

  module _ (g : ValueType → TypeTree Called) (h : ValueType → Tree) (same : (v : ValueType) → placed f (g v) ≡ h v) where
    placed-option : (o : Option ValueType) → placed f (option_tree g o) ≡ option_tree h o
    placed-option None = refl
    placed-option (Some v) = same v

    placed-defined : (d : DefinedType) → placed f (defined_tree g d) ≡ defined_tree h d
    placed-defined (def.Tuple vs) = ap (tuple_of (length vs)) (fun_ext (placed-part g h same vs))
    placed-defined (def.List v) = ap list_of (same v)
    placed-defined (def.FixedSizeList v n) = ap (fixed_list_of n) (same v)
    placed-defined (def.Option v) = ap option_of (same v)
    placed-defined (def.Result ok err) = λ i. result_of (placed-option ok i) (placed-option err i)
    placed-defined (def.Variant v) = ap (variant_of (map (λ e. e.0) v.cases)) (fun_ext (placed-part (λ e. option_tree g e.1) (λ e. option_tree h e.1) (λ e. placed-option e.1) v.cases))
    placed-defined (def.Record r) = ap (record_of (map (λ e. e.0) r.fields)) (fun_ext (placed-part (λ e. g e.1) (λ e. h e.1) (λ e. same e.1) r.fields))
    placed-defined (def.Flags names) = refl
    placed-defined (def.Enum names) = refl
    placed-defined (def.Alias v) = same v
    placed-defined (def.Stream v) = ap stream_of (placed-option v)
    placed-defined (def.Future v) = ap future_of (placed-option v)

  placed-held : {A : Type 0} (g : A → TypeTree Called) (h : A → Tree) → ((a : A) → placed f (g a) ≡ h a) → (o : Option (Held A)) → placed f (of_held g o) ≡ of_held h o
  placed-held g h same None = refl
  placed-held g h same (Some x) = same x.item

  placed-leaf : (g : Called → TypeTree Called) (h : Leaf → Tree) → ((x : Called) → placed f (g x) ≡ option_case (f x) absent h) → (o : Option Called) (p : Option Leaf) → p ≡ option_case o None f → placed f (option_case o absent g) ≡ option_case p absent h
  placed-leaf g h same None p e = sym (ap (λ q. option_case q absent h) e)
  placed-leaf g h same (Some x) p e = same x ∙ sym (ap (λ q. option_case q absent h) e)

  module _ (c : Collection) (names : Names Called) (m : Bindings) (leaves : (r : ResourceId) → m r ≡ option_case (names r) None f) where
    placed-to : (k : ℕ) (v : ValueType) → placed f (unfolded_to (by_binding c) c k names (ty.Value v)) ≡ unfolded_to (by_place c) c k m (ty.Value v)
    placed-to zero v = refl
    placed-to (suc k) (val.Primitive p) = refl
    placed-to (suc k) (val.Own r) = placed-leaf own own (λ x. refl) (names (resolved c r)) (m (resolved c r)) (leaves (resolved c r))
    placed-to (suc k) (val.Borrow r) = placed-leaf borrow borrow (λ x. refl) (names (resolved c r)) (m (resolved c r)) (leaves (resolved c r))
    placed-to (suc k) (val.Defined d) =
        placed-held (defined_tree (λ v. unfolded_to (by_binding c) c k names (ty.Value v))) (defined_tree (λ v. unfolded_to (by_place c) c k m (ty.Value v)))
        (placed-defined (λ v. unfolded_to (by_binding c) c k names (ty.Value v)) (λ v. unfolded_to (by_place c) c k m (ty.Value v)) (λ v. placed-to k v))
        (slice_get c.defined d.0)

    -- If each resource has the leaf of what it is called, the tree of a value type is that by what its resources are called.
    pub placed-tree : (v : ValueType) → placed f (unfolded (by_binding c) c names (ty.Value v)) ≡ held_tree c m (ty.Value v)
    unfolding held_tree
    placed-tree v = placed-to (suc (size c)) v

-- A type that is called as a value type is one.

abbrev is_other : TypeTree Called → Bool
is_other (resource x) = true
is_other (function a ns ps t) = true
is_other (instance es) = true
is_other (component is es) = true
is_other (module_of is es) = true
is_other t = false

module _ (c : Collection) where
  value-leaf : (g : Called → TypeTree Called) → ((x : Called) → is_other (g x) ≡ false) → (o : Option Called) → is_other (option_case o absent g) ≡ false
  value-leaf g same None = refl
  value-leaf g same (Some x) = same x

  value-defined : (g : ValueType → TypeTree Called) → ((v : ValueType) → is_other (g v) ≡ false) → (d : DefinedType) → is_other (defined_tree g d) ≡ false
  value-defined g same (def.Alias v) = same v
  value-defined g same d = refl

  value-held : (g : DefinedType → TypeTree Called) → ((d : DefinedType) → is_other (g d) ≡ false) → (o : Option (Held DefinedType)) → is_other (of_held g o) ≡ false
  value-held g same None = refl
  value-held g same (Some x) = same x.item

  value-to : (names : Names Called) (k : ℕ) (v : ValueType) → is_other (unfolded_to (by_binding c) c k names (ty.Value v)) ≡ false
  value-to names zero v = refl
  value-to names (suc k) (val.Primitive p) = refl
  value-to names (suc k) (val.Own r) = value-leaf own (λ x. refl) (names (resolved c r))
  value-to names (suc k) (val.Borrow r) = value-leaf borrow (λ x. refl) (names (resolved c r))
  value-to names (suc k) (val.Defined d) =
      value-held (defined_tree (λ v. unfolded_to (by_binding c) c k names (ty.Value v)))
      (value-defined (λ v. unfolded_to (by_binding c) c k names (ty.Value v)) (λ v. value-to names k v)) (slice_get c.defined d.0)

  other-held : {A : Type 0} (g : A → TypeTree Called) → ((x : A) → is_other (g x) ≡ true) → (xs : List (Held A)) (i : ℕ) → nat_lt i (length xs) ≡ true → is_other (of_held g (slice_get xs i)) ≡ true
  other-held g other xs i low = let h = there xs i low in ap (λ o. is_other (of_held g o)) h.1 ∙ other (h.0).item

  module _ (names : Names Called) (all : (r : ResourceId) → (x : Called) × (names r ≡ Some x)) where
    other-type : (a : AnyType) → holds_type c a ≡ true → ((v : ValueType) → a ≡ ty.Value v → ⊥) → is_other (unfolded (by_binding c) c names a) ≡ true
    other-type (ty.Resource r) held not = let x = all (resolved c r) in ap (λ (o : Option Called). is_other (option_case o absent resource)) x.1
    other-type (ty.Value v) held not = absurd (not v refl)
    other-type (ty.Func g) held not = other-held (func_tree (λ v. unfolded_to (by_binding c) c (size c) names (ty.Value v))) (λ x. refl) c.funcs g.0 held
    other-type (ty.Interface i) held not = other-held (interface_tree (by_binding c) c (unfolded_to (by_binding c) c (size c)) names) (λ x. refl) c.interfaces i.0 held
    other-type (ty.World w) held not = other-held (world_tree (by_binding c) c (unfolded_to (by_binding c) c (size c)) names) (λ x. refl) c.worlds w.0 held
    other-type (ty.Module k) held not = other-held module_tree (λ x. refl) c.modules k.0 held

    wrong : {A : Type 0} (a : AnyType) (others : Names Called) (v : ValueType) → holds_type c a ≡ true → unfolded (by_binding c) c names a ≡ unfolded (by_binding c) c others (ty.Value v) → ((w : ValueType) → a ≡ ty.Value w → ⊥) → A
    wrong a others v held same not = absurd (false≢true (sym (value-to others (suc (size c)) v) ∙ sym (ap is_other same) ∙ other-type a held not))

    -- So is one that is called as a value type.
    pub called-value : (a : AnyType) (others : Names Called) (v : ValueType) → holds_type c a ≡ true → unfolded (by_binding c) c names a ≡ unfolded (by_binding c) c others (ty.Value v) → (w : ValueType) × (a ≡ ty.Value w)
    called-value (ty.Value w) others v held same = (w, refl)
    called-value (ty.Resource r) others v held same = wrong (ty.Resource r) others v held same (λ w e. cc)
    called-value (ty.Func g) others v held same = wrong (ty.Func g) others v held same (λ w e. cc)
    called-value (ty.Interface i) others v held same = wrong (ty.Interface i) others v held same (λ w e. cc)
    called-value (ty.World w) others v held same = wrong (ty.World w) others v held same (λ x e. cc)
    called-value (ty.Module k) others v held same = wrong (ty.Module k) others v held same (λ w e. cc)
