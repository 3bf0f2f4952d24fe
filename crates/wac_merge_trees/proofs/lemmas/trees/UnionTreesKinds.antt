-- Items under one name: of one sort where they agree, and what each became.
use Rattle.std.proofs.Common.{◌≡◌, Bool, true, false, cond, List, Option, Some, refl, sym, ap, ◌∙◌}
use Rattle.std.proofs.lemmas.Bool.{false≢true}
use Rattle.wac_types_shapes.specs.primitives.Name.{Name, option_case}
use Rattle.wac_types_shapes.specs.primitives.Tree.{TypeTree, Tree, Leaf, Place, Side, absent, fresh, resource, type_equal, function_item, component_item, module_item, value_item}
use Rattle.wac_types_collection.specs.collection.Collection.{Collection, HasResource, holds_type}
use Rattle.wac_types_shapes.specs.shapes.Kinds.{kind_type}
use Rattle.wac_types_collection.specs.collection.Held.{item_tree, resolved}
use Rattle.wac_types_collection.specs.collection.Bound.{Bindings, held_item, held_tree, is_here}
use Rattle.wac_types_shapes.specs.declared.shapes.component.InterfaceId.{InterfaceId}
use Rattle.wac_types_shapes.specs.declared.shapes.component.ResourceId.{ResourceId}
use Rattle.wac_types_shapes.specs.declared.shapes.component.WorldId.{WorldId}
use Rattle.wac_types_shapes.specs.declared.shapes.component.ModuleTypeId.{ModuleTypeId}
use Rattle.wac_types_shapes.specs.declared.shapes.component.«Type».{«Type» as AnyType}
use Rattle.wac_types_shapes.specs.declared.shapes.component.«Type».TheVariants as ty
use Rattle.wac_types_shapes.specs.declared.shapes.component.ItemKind.{ItemKind}
use Rattle.wac_types_shapes.specs.declared.shapes.component.ItemKind.TheVariants as kind
use Rattle.wac_types_collection.specs.subtyping.Called.{Called}
use Rattle.wac_merge_classes.specs.entries.Agreement.{Agree}
use Rattle.wac_merge_classes.specs.terms.Renaming.{Fits}
use Rattle.wac_types_collection.specs.private.subtyping.Extended.{IsExtended}
use Rattle.wac_merge_classes.specs.terms.Union.{union}
use Rattle.wac_merge_classes.specs.terms.Writing.{IsAliasOf, IsWrittenAs}
use Rattle.wac_merge_trees.proofs.lemmas.trees.UnionTreesNames.{is_fresh, union_type}

-- it cannot be that these do not agree
abbrev pub MustAgree : TypeTree Called → TypeTree Called → Type 0
MustAgree t u = (Agree t u → ⊥) → ⊥

-- ---- sorts

abbrev pub is_type : ItemKind → Bool
is_type (kind.TypeItem t) = true
is_type k = false

abbrev pub is_instance_item : ItemKind → Bool
is_instance_item (kind.Instance i) = true
is_instance_item k = false

-- what agrees with a type item is one
pub types_agree : (t u : AnyType → TypeTree Called) (k l : ItemKind) → MustAgree (item_tree t false k) (item_tree u false l) → is_type k ≡ true → is_type l ≡ true
types_agree t u (kind.TypeItem a) (kind.TypeItem b) h e = refl
types_agree t u (kind.TypeItem a) l h e = absurd (h (λ x. cc))
types_agree t u k l h e = absurd (false≢true e)

-- what agrees with an instance is one
pub instances_agree : (t u : AnyType → TypeTree Called) (k l : ItemKind) → MustAgree (item_tree t false k) (item_tree u false l) → is_instance_item k ≡ true → is_instance_item l ≡ true
instances_agree t u (kind.Instance a) (kind.Instance b) h e = refl
instances_agree t u (kind.Instance a) l h e = absurd (h (λ x. cc))
instances_agree t u k l h e = absurd (false≢true e)

-- ---- items that bind nothing

-- such an item is not fresh
pub stale_item : (t : AnyType → Tree) (k : ItemKind) → is_fresh (item_tree t false k) ≡ false
stale_item t (kind.TypeItem a) = refl
stale_item t k = refl

-- a union with others that are not fresh leaves an item that is no instance
pub union_item : (t : AnyType → Tree) (k : ItemKind) (u : Tree) → is_instance_item k ≡ false → is_fresh u ≡ false → union (item_tree t false k) u ≡ item_tree t false k
union_item t (kind.TypeItem a) u h e = union_type (t a) u e
union_item t (kind.Instance i) u h e = absurd (false≢true (sym h))
union_item t k u h e = refl

-- ---- what an item became

module _ (c m : Collection) (extended : IsExtended c m) (f : ResourceId → ResourceId) (n : Name) (inner : Option InterfaceId) (side : Side) (path : List Place) (outside inside : Bindings) (fits : Fits c outside inside f) where
  same_world : (w : WorldId) → holds_type c (ty.World w) ≡ true → held_tree m inside (ty.World w) ≡ held_tree c outside (ty.World w)
  unfolding held_tree
  same_world w held = extended.trees.1 inside (ty.World w) held

  same_module : (k : ModuleTypeId) → holds_type c (ty.Module k) ≡ true → held_tree m inside (ty.Module k) ≡ held_tree c outside (ty.Module k)
  unfolding held_tree
  same_module k held = extended.trees.1 inside (ty.Module k) held

  alias_same : (q a : ResourceId) → resolved m a ≡ f (resolved c q) → HasResource c q → held_item m inside side path (kind.TypeItem (ty.Resource a)) ≡ held_item c outside side path (kind.TypeItem (ty.Resource q))
  unfolding held_tree
  alias_same q a is held =
      let same : inside (resolved m a) ≡ outside (resolved c q) = ap inside is ∙ fits q held in
      ap (λ (o : Option Leaf). cond (is_here side path o) fresh (type_equal (option_case o absent resource))) same

  abbrev IsSameItem : ItemKind → ItemKind → Type 0
  IsSameItem k l = held_item m inside side path l ≡ held_item c outside side path k

  -- an item that is no instance has the same tree
  pub written_same : (k l : ItemKind) → is_instance_item k ≡ false → holds_type c (kind_type k) ≡ true → IsWrittenAs c m f inner n k l
      → ((q a : ResourceId) → k ≡ kind.TypeItem (ty.Resource q) → IsAliasOf m n (f (resolved c q)) a → (resolved m a ≡ f (resolved c q)) × HasResource c q)
      → ((i j : InterfaceId) → k ≡ kind.TypeItem (ty.Interface i) → inner ≡ Some j → held_tree m inside (ty.Interface j) ≡ held_tree c outside (ty.Interface i))
      → IsSameItem k l
  written_same (kind.TypeItem (ty.Resource q)) (kind.TypeItem (ty.Resource a)) e held w alias below = let x = alias q a refl w in alias_same q a x.0 x.1
  written_same (kind.TypeItem (ty.Interface i)) (kind.TypeItem (ty.Interface j)) e held w alias below = ap type_equal (below i j refl w)
  written_same (kind.TypeItem (ty.Func g)) (kind.TypeItem (ty.Func h)) e held w alias below = ap type_equal (w.placed outside inside fits)
  written_same (kind.TypeItem (ty.Value g)) (kind.TypeItem (ty.Value h)) e held w alias below = ap type_equal (w.placed outside inside fits)
  written_same (kind.TypeItem (ty.World v)) (kind.TypeItem (ty.World x)) e held w alias below = ap type_equal (ap (λ y. held_tree m inside (ty.World y)) (sym w) ∙ same_world v held)
  written_same (kind.TypeItem (ty.Module v)) (kind.TypeItem (ty.Module x)) e held w alias below = ap type_equal (ap (λ y. held_tree m inside (ty.Module y)) (sym w) ∙ same_module v held)
  written_same (kind.Func g) (kind.Func h) e held w alias below = ap function_item (w.placed outside inside fits)
  written_same (kind.Instance i) l e held w alias below = absurd (false≢true (sym e))
  written_same (kind.Component v) (kind.Component x) e held w alias below = ap component_item (ap (λ y. held_tree m inside (ty.World y)) (sym w) ∙ same_world v held)
  written_same (kind.Module v) (kind.Module x) e held w alias below = ap module_item (ap (λ y. held_tree m inside (ty.Module y)) (sym w) ∙ same_module v held)
  written_same (kind.Value v) (kind.Value x) e held w alias below = ap value_item (w.placed outside inside fits)
  written_same k l e held w alias below = absurd w

  -- an instance became one of the interface of what lies in it
  pub written_instance : (i : InterfaceId) (l : ItemKind) → IsWrittenAs c m f inner n (kind.Instance i) l → (j : InterfaceId) × (l ≡ kind.Instance j) × (inner ≡ Some j)
  written_instance i (kind.Instance j) w = (j, refl, w)
  written_instance i l w = absurd w
