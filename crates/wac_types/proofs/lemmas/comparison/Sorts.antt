-- The tree of a held type is of the type's sort, so it is there.
use Rattle.std.proofs.Common.{ℕ, zero, suc, true, List, [], ◌∷◌, ◌≡◌, ◌≢◌, ◌<◌, length, refl, ap, sym, ◌∙◌, subst, Option, Some, None, arith, nat_lt, slice_get}
use Rattle.wac_types_shapes.specs.primitives.Name.{Name, option_case}
use Rattle.wac_types_collection.specs.declared.collection.collection.Held.{Held}
use Rattle.wac_types_shapes.specs.declared.shapes.component.Resource.{Resource}
use Rattle.wac_types_shapes.specs.declared.shapes.component.ResourceId.{ResourceId}
use Rattle.wac_types_shapes.specs.declared.shapes.component.DefinedType.{DefinedType}
use Rattle.wac_types_shapes.specs.declared.shapes.component.DefinedType.TheVariants as def
use Rattle.wac_types_shapes.specs.declared.shapes.component.ValueType.{ValueType}
use Rattle.wac_types_shapes.specs.declared.shapes.component.ValueType.TheVariants as val
use Rattle.wac_types_shapes.specs.declared.shapes.component.«Type».{«Type» as AnyType}
use Rattle.wac_types_shapes.specs.declared.shapes.component.«Type».TheVariants as ty
use Rattle.wac_types_collection.specs.collection.Collection.{Collection, size, defined_mentions, IsWellFormed, IsBefore, IsValueBefore, AreBefore, AddedBefore, holds_type}
use Rattle.wac_types_shapes.specs.primitives.Tree.{TypeTree, absent, own, borrow, resource, function, instance, component, module_of}
use Rattle.wac_types_collection.specs.collection.Held.{of_held, defined_tree, resolved, unfolded_to}
use Rattle.wac_types_collection.specs.subtyping.Subtype.{Sub, by_name, held_name, resource_names, type_tree}
use Rattle.wac_types_collection.proofs.lemmas.collection.Growth.{before_more, type_within, type_before}
use Rattle.wac_types_collection.proofs.lemmas.subtyping.Trees.{resolved_held}

-- what sort of thing a tree is of
abbrev pub tree_sort : {L : Type 0} → TypeTree L → ℕ
tree_sort absent = 0
tree_sort (resource l) = 1
tree_sort (function b ns ps r) = 2
tree_sort (instance es) = 4
tree_sort (component is es) = 5
tree_sort (module_of is es) = 6
tree_sort _ = 3

abbrev pub type_sort : AnyType → ℕ
type_sort (ty.Resource r) = 1
type_sort (ty.Func f) = 2
type_sort (ty.Value v) = 3
type_sort (ty.Interface i) = 4
type_sort (ty.World w) = 5
type_sort (ty.Module m) = 6

pub sub_sort : {L : Type 0} (a b : TypeTree L) → Sub a b → tree_sort a ≡ tree_sort b
sub_sort a b (Sub.same _ q) = refl
sub_sort a b _ = refl

name_there : (P : Option Name → Type 0) (xs : List (Held Resource)) (i : ℕ) → ((n : Name) → P (Some n)) → nat_lt i (length xs) ≡ true → P (held_name (slice_get xs i))
name_there P [] i f h = absurd (grind arith)
name_there P (x ∷ xs) zero f h = f x.item.name
name_there P (x ∷ xs) (suc i) f h = name_there P xs i f (grind arith)

-- what a held resource is called
pub name_of_resource : (c : Collection) → IsWellFormed c → (r : ResourceId) → (P : Option Name → Type 0) → ((n : Name) → P (Some n)) → holds_type c (ty.Resource r) ≡ true → P (resource_names c (resolved c r))
name_of_resource c wf r P f h = name_there P c.resources (resolved c r).0 f (resolved_held c wf r h)

sort_held : {A L : Type 0} (t : A → TypeTree L) (s : ℕ) (n : ℕ) (o : Option (Held A)) → ((h : Held A) → o ≡ Some h → h.before < n → tree_sort (t h.item) ≡ s) → AddedBefore n o → tree_sort (of_held t o) ≡ s
sort_held t s n None f h = absurd h
sort_held t s n (Some x) f h = f x refl h

sort_defined : {L : Type 0} (t : ValueType → TypeTree L) (d : DefinedType) → ((v : ValueType) → d ≡ def.Alias v → tree_sort (t v) ≡ 3) → tree_sort (defined_tree t d) ≡ 3
sort_defined t (def.Alias v) f = f v refl
sort_defined t _ f = refl

module _ (c : Collection) (wf : IsWellFormed c) where
  value_sort_to : (k : ℕ) (v : ValueType) → IsValueBefore c k v → tree_sort (unfolded_to by_name c (suc k) (resource_names c) (ty.Value v)) ≡ 3
  value_sort_to k (val.Primitive p) h = refl
  value_sort_to k (val.Own r) h = name_of_resource c wf r (λ o. tree_sort (option_case o absent own) ≡ 3) (λ n. refl) (type_within c k (ty.Resource r) h)
  value_sort_to k (val.Borrow r) h = name_of_resource c wf r (λ o. tree_sort (option_case o absent borrow) ≡ 3) (λ n. refl) (type_within c k (ty.Resource r) h)
  value_sort_to zero (val.Defined d) h = sort_held _ 3 0 (slice_get c.defined d.0) (λ x e lt. absurd (omega (arith, lt))) h
  value_sort_to (suc k) (val.Defined d) h = sort_held _ 3 (suc k) (slice_get c.defined d.0)
      (λ x e lt. sort_defined (λ v. unfolded_to by_name c (suc k) (resource_names c) (ty.Value v)) x.item
      (λ v is. let P : DefinedType → Type 0 = λ y. AreBefore c x.before (defined_mentions y) in
      let b = subst P is (wf.defined d.0 x e).1 in
      value_sort_to k v (before_more c x.before k (ty.Value v) (omega (arith, lt)) b.0))) h

  sort_to : (k : ℕ) (a : AnyType) → IsBefore c k a → tree_sort (unfolded_to by_name c (suc k) (resource_names c) a) ≡ type_sort a
  sort_to k (ty.Resource r) h = name_of_resource c wf r (λ o. tree_sort (option_case o absent resource) ≡ 1) (λ n. refl) (type_within c k (ty.Resource r) h)
  sort_to k (ty.Func f) h = sort_held _ 2 k (slice_get c.funcs f.0) (λ x e lt. refl) h
  sort_to k (ty.Value v) h = value_sort_to k v h
  sort_to k (ty.Interface f) h = sort_held _ 4 k (slice_get c.interfaces f.0) (λ x e lt. refl) h
  sort_to k (ty.World f) h = sort_held _ 5 k (slice_get c.worlds f.0) (λ x e lt. refl) h
  sort_to k (ty.Module f) h = sort_held _ 6 k (slice_get c.modules f.0) (λ x e lt. refl) h

  pub type_tree_sort : (a : AnyType) → holds_type c a ≡ true → tree_sort (type_tree c a) ≡ type_sort a
  unfolding type_tree
  type_tree_sort a h = sort_to (size c) a (type_before c wf a h)

some_sort : (a : AnyType) → 0 ≡ type_sort a → ⊥
some_sort (ty.Resource r) e = cc
some_sort _ e = cc

pub type_there : (c : Collection) → IsWellFormed c → (a : AnyType) → holds_type c a ≡ true → type_tree c a ≢ absent
type_there c wf a h e = some_sort a (sym (ap tree_sort e) ∙ type_tree_sort c wf a h)

-- types of different sorts are no subtypes
pub sorts_differ : (c d : Collection) → IsWellFormed c → IsWellFormed d → (a b : AnyType) → holds_type c a ≡ true → holds_type d b ≡ true → (type_sort a ≡ type_sort b → ⊥) → Sub (type_tree c a) (type_tree d b) → ⊥
sorts_differ c d wc wd a b ha hb n s = n (sym (type_tree_sort c wc a ha) ∙ sub_sort _ _ s ∙ type_tree_sort d wd b hb)
