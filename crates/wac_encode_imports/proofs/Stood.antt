-- What the index of an import refers to, by the tree of the import.
use Rattle.std.proofs.Common.{ℕ, ◌≡◌, Bool, true, false, cond, List, [], ◌∷◌, Option, Some, None, refl, ap, sym, ◌∙◌, subst}
use Rattle.std.specs.Prelude.{◌==◌, ◌&&◌}
use Rattle.std.proofs.lemmas.Bool.{and_parts, eqb-true, false≢true}
use Rattle.wac_types_shapes.specs.primitives.Name.{Name, option_case}
use Rattle.wac_types_shapes.specs.primitives.Tree.{Tree, Leaf, Place, Side, imported, exported, position, named, absent, fresh, resource, type_equal, instance, instance_item, taken_from, type_in}
use Rattle.wac_types_shapes.proofs.lemmas.shapes.Names.{same_name-true}
use Rattle.wac_types_shapes.specs.declared.shapes.component.InterfaceId.{InterfaceId}
use Rattle.wac_types_shapes.specs.declared.shapes.component.ResourceId.{ResourceId}
use Rattle.wac_types_shapes.specs.declared.shapes.component.ItemKind.{ItemKind}
use Rattle.wac_types_shapes.specs.declared.shapes.component.ItemKind.TheVariants as kind
use Rattle.wac_types_shapes.specs.declared.shapes.component.«Type».{«Type» as AnyType}
use Rattle.wac_types_shapes.specs.declared.shapes.component.«Type».TheVariants as ty
use Rattle.wac_types_collection.specs.collection.Collection.{Collection}
use Rattle.wac_types_collection.specs.collection.Held.{resolved}
use Rattle.wac_types_collection.specs.collection.Bound.{Bindings, binds_here, held_item, held_tree, is_here, same_path, same_place, same_side}
use Rattle.wac_binary.specs.Unfold.{Scope, bound_type}
use Rattle.wac_encode_stacks.specs.Good.{At, Stands}
use Rattle.wac_encode_stacks.specs.Scopes.{at_export}
use Rattle.wac_encode_stacks.proofs.Moved.{held-here}
use Rattle.wac_encode_interfaces.specs.private.Imports.{RefersToImport}

-- where a binding is

abbrev pub at-path : List Place → Leaf
at-path path = record { out = 0; side = imported; path = path }

same-place-is : (a b : Place) → same_place a b ≡ true → a ≡ b
same-place-is (position i) (position j) h = ap position (eqb-true i j h)
same-place-is (named m) (named n) h = ap named (same_name-true m n h)
same-place-is (position i) (named n) h = absurd (false≢true h)
same-place-is (named m) (position j) h = absurd (false≢true h)

same-path-is : (p q : List Place) → same_path p q ≡ true → p ≡ q
same-path-is [] [] h = refl
same-path-is [] (b ∷ q) h = absurd (false≢true h)
same-path-is (a ∷ p) [] h = absurd (false≢true h)
same-path-is (a ∷ p) (b ∷ q) h = by (same_place a b) refl h (same-path-is p q)
  where
    by : (x : Bool) → same_place a b ≡ x → cond x (same_path p q) false ≡ true → (same_path p q ≡ true → p ≡ q) → a ∷ p ≡ b ∷ q
    by true is e rest = let first = same-place-is a b is in let last = rest e in λ i. first i ∷ last i
    by false is e rest = absurd (false≢true e)

same-side-is : (s : Side) → same_side s imported ≡ true → s ≡ imported
same-side-is imported h = refl
same-side-is exported h = absurd (false≢true h)

pub here-leaf : (path : List Place) (o : Option Leaf) → is_here imported path o ≡ true → o ≡ Some (at-path path)
here-leaf path None h = absurd (false≢true h)
here-leaf path (Some l) h =
    let a = and_parts (l.out == 0) (same_side l.side imported && same_path l.path path) h in
    let b = and_parts (same_side l.side imported) (same_path l.path path) a.1 in
    λ i. Some (record { out = eqb-true l.out 0 a.0 i; side = same-side-is l.side b.0 i; path = same-path-is l.path path b.1 i })

-- which item has which tree

module _ (c : Collection) (m : Bindings) (path : List Place) where
  abbrev of-item : ItemKind → Tree
  of-item k = held_item c m imported path k

  instance-kind : (k : ItemKind) (u : Tree) → of-item k ≡ instance_item u → (i : InterfaceId) × (k ≡ kind.Instance i) × (held_tree c m (ty.Interface i) ≡ u)
  instance-kind (kind.TypeItem a) u h = by (binds_here c m imported path (kind.TypeItem a)) h
    where
      by : {A : Type 0} (b : Bool) → cond b fresh (type_equal (held_tree c m a)) ≡ instance_item u → A
      by true e = cc
      by false e = cc
  instance-kind (kind.Func f) u h = cc
  instance-kind (kind.Instance i) u h = (i, refl, ap type_in h)
  instance-kind (kind.Component w) u h = cc
  instance-kind (kind.Module x) u h = cc
  instance-kind (kind.Value v) u h = cc

  equal-kind : (k : ItemKind) (u : Tree) → of-item k ≡ type_equal u → (a : AnyType) × (k ≡ kind.TypeItem a) × (held_tree c m a ≡ u)
  equal-kind (kind.TypeItem a) u h = by (binds_here c m imported path (kind.TypeItem a)) h
    where
      by : (b : Bool) → cond b fresh (type_equal (held_tree c m a)) ≡ type_equal u → (x : AnyType) × (kind.TypeItem a ≡ kind.TypeItem x) × (held_tree c m x ≡ u)
      by true e = cc
      by false e = (a, refl, ap type_in e)
  equal-kind (kind.Func f) u h = cc
  equal-kind (kind.Instance i) u h = cc
  equal-kind (kind.Component w) u h = cc
  equal-kind (kind.Module x) u h = cc
  equal-kind (kind.Value v) u h = cc

  fresh-kind : (k : ItemKind) → of-item k ≡ fresh → (r : ResourceId) × (k ≡ kind.TypeItem (ty.Resource r)) × (m (resolved c r) ≡ Some (at-path path))
  fresh-kind (kind.TypeItem (ty.Resource r)) h = (r, refl, here-leaf path (m (resolved c r)) (by (is_here imported path (m (resolved c r))) h))
    where
      by : (b : Bool) → cond b fresh (type_equal (held_tree c m (ty.Resource r))) ≡ fresh → b ≡ true
      by true e = refl
      by false e = cc
  fresh-kind (kind.TypeItem (ty.Value v)) h = cc
  fresh-kind (kind.TypeItem (ty.Func f)) h = cc
  fresh-kind (kind.TypeItem (ty.Interface i)) h = cc
  fresh-kind (kind.TypeItem (ty.World w)) h = cc
  fresh-kind (kind.TypeItem (ty.Module x)) h = cc
  fresh-kind (kind.Func f) h = cc
  fresh-kind (kind.Instance i) h = cc
  fresh-kind (kind.Component w) h = cc
  fresh-kind (kind.Module x) h = cc
  fresh-kind (kind.Value v) h = cc

  resource-tree : (r : ResourceId) (l : Leaf) → m (resolved c r) ≡ Some l → held_tree c m (ty.Resource r) ≡ resource l
  unfolding held_tree
  resource-tree r l h = ap (λ (o : Option Leaf). option_case o absent resource) h

-- what an index refers to

module _ (c : Collection) (m : Bindings) (w : Scope) (place : Place) (k : ItemKind) (i : ℕ) (refers : RefersToImport c m w place k i) where
  abbrev tree : Tree
  tree = held_item c m imported (place ∷ []) k

  -- The index of an instance refers to the import.
  pub instance-stands : (u : Tree) → tree ≡ instance_item u → At w.instances i (record { type = u; side = imported; path = place ∷ [] })
  instance-stands u h =
      let x = instance-kind c m (place ∷ []) k u h in
      let y = subst (λ (z : ItemKind). RefersToImport c m w place z i) x.1 refers in
      y.2 ∙ ap (λ (t : Tree). Some (record { type = t; side = imported; path = place ∷ [] })) (sym (held-here c m (ty.Interface x.0) y.0 y.1) ∙ x.2)

  -- The index of a type item refers to its type.
  pub type-stands : (u : Tree) → tree ≡ type_equal u → At w.types i u
  type-stands u h =
      let x = equal-kind c m (place ∷ []) k u h in
      let y = subst (λ (z : ItemKind). RefersToImport c m w place z i) x.1 refers in
      y.2 ∙ ap Some (sym (held-here c m x.0 y.0 y.1) ∙ x.2)

  -- That of a fresh resource refers to the import.
  pub fresh-stands : tree ≡ fresh → At w.types i (resource (at-path (place ∷ [])))
  fresh-stands h =
      let x = fresh-kind c m (place ∷ []) k h in
      let y = subst (λ (z : ItemKind). RefersToImport c m w place z i) x.1 refers in
      y.2 ∙ ap Some (sym (held-here c m (ty.Resource x.0) y.0 y.1) ∙ resource-tree c m (place ∷ []) x.0 (at-path (place ∷ [])) x.2)

-- what an instance exports

module _ (w : Scope) (place : Place) (items : Name → Tree) (j : ℕ) (at : At w.instances j (record { type = instance items; side = imported; path = place ∷ [] })) (n : Name) where
  -- A fresh export is the resource at its path.
  pub fresh-export : items n ≡ fresh → Stands w (resource (at-path (place ∷ (named n ∷ [])))) (at_export j n)
  fresh-export h = (record { type = instance items; side = imported; path = place ∷ [] }, at, ap (λ (t : Tree). bound_type imported (place ∷ (named n ∷ [])) (taken_from imported (place ∷ []) t)) h)

  -- A type export has its tree as it is seen from outside the instance.
  pub type-export : (t : Tree) → items n ≡ type_equal t → Stands w (taken_from imported (place ∷ []) t) (at_export j n)
  type-export t h = (record { type = instance items; side = imported; path = place ∷ [] }, at, ap (λ (x : Tree). bound_type imported (place ∷ (named n ∷ [])) (taken_from imported (place ∷ []) x)) h)
