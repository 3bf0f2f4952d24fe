-- An item and the same with uses bind the same, and have the same trees.
use Rattle.std.proofs.Common.{◌≡◌, false, List, refl, sym, ap, subst}
use Rattle.std.proofs.lemmas.Bool.{false≢true}
use Rattle.wac_types_shapes.specs.primitives.Name.{Name}
use Rattle.wac_types_shapes.specs.declared.shapes.component.InterfaceId.{InterfaceId}
use Rattle.wac_types_shapes.specs.declared.shapes.component.ResourceId.{ResourceId}
use Rattle.wac_types_shapes.specs.declared.shapes.component.UsedType.{UsedType}
use Rattle.wac_types_shapes.specs.declared.shapes.component.ItemKind.{ItemKind}
use Rattle.wac_types_shapes.specs.declared.shapes.component.ItemKind.TheVariants as kind
use Rattle.wac_types_shapes.specs.primitives.Tree.{Place, Side, instance_item}
use Rattle.wac_types_collection.specs.collection.Collection.{Collection}
use Rattle.wac_types_collection.specs.collection.Bound.{Bindings, held_item}
use Rattle.wac_types_collection.specs.subtyping.Subtype.{kind_tree}
use Rattle.wac_merge_classes.specs.entries.Binding.{kind_binds}
use Rattle.wac_merge_classes.specs.entries.Classes.{by_names, is_instance}
use Rattle.wac_merge_classes.specs.terms.Merge.{own_resource}
use Rattle.wac_merge_unions.specs.uses.Using.{IsKindUsing, IsUsing}
use Rattle.wac_merge_unions.proofs.lemmas.uses.NestedAlike.{named-same, placed-same}
use Rattle.wac_merge_unions.proofs.lemmas.uses.NestedBinds.{binds-same, resource-same}

-- by cases: instances with uses, and all else as it was
pub alike-cases : (c m : Collection) (f : List InterfaceId → List (Name × ItemKind) → List (Name × UsedType)) (is : List InterfaceId) (P : ItemKind → ItemKind → Type 0)
    → ((i w : InterfaceId) → IsUsing c m f i w is → P (kind.Instance i) (kind.Instance w)) → ((k : ItemKind) → is_instance k ≡ false → P k k) → (k l : ItemKind) → IsKindUsing c m f is k l → P k l
alike-cases c m f is P one same (kind.Instance i) (kind.Instance w) h = one i w h
alike-cases c m f is P one same (kind.Instance i) (kind.TypeItem t) h = absurd (false≢true (ap is_instance h))
alike-cases c m f is P one same (kind.Instance i) (kind.Func x) h = absurd (false≢true (ap is_instance h))
alike-cases c m f is P one same (kind.Instance i) (kind.Component w) h = absurd (false≢true (ap is_instance h))
alike-cases c m f is P one same (kind.Instance i) (kind.Module y) h = absurd (false≢true (ap is_instance h))
alike-cases c m f is P one same (kind.Instance i) (kind.Value v) h = absurd (false≢true (ap is_instance h))
alike-cases c m f is P one same (kind.TypeItem t) l h = subst (P (kind.TypeItem t)) (sym h) (same (kind.TypeItem t) refl)
alike-cases c m f is P one same (kind.Func x) l h = subst (P (kind.Func x)) (sym h) (same (kind.Func x) refl)
alike-cases c m f is P one same (kind.Component w) l h = subst (P (kind.Component w)) (sym h) (same (kind.Component w) refl)
alike-cases c m f is P one same (kind.Module y) l h = subst (P (kind.Module y)) (sym h) (same (kind.Module y) refl)
alike-cases c m f is P one same (kind.Value v) l h = subst (P (kind.Value v)) (sym h) (same (kind.Value v) refl)

module _ (c m : Collection) (f : List InterfaceId → List (Name × ItemKind) → List (Name × UsedType)) (is : List InterfaceId) (k l : ItemKind) (h : IsKindUsing c m f is k l) where
  pub alike-instance : is_instance l ≡ is_instance k
  alike-instance = alike-cases c m f is (λ a b. is_instance b ≡ is_instance a) (λ i w x. refl) (λ a other. refl) k l h

  pub alike-binds : (class : Name) (r : ResourceId) → kind_binds by_names m class l r ≡ kind_binds by_names m class k r
  alike-binds class r = alike-cases c m f is (λ a b. kind_binds by_names m class b r ≡ kind_binds by_names m class a r) (λ i w x. binds-same c m f i w is x class r) (λ a other. refl) k l h

  pub alike-resource : (id n : Name) → own_resource m id n l ≡ own_resource m id n k
  alike-resource id n = alike-cases c m f is (λ a b. own_resource m id n b ≡ own_resource m id n a) (λ i w x. resource-same c m f i w is x id n) (λ a other. refl) k l h

  pub alike-placed : (b : Bindings) (side : Side) (path : List Place) → held_item m b side path l ≡ held_item m b side path k
  alike-placed b side path = alike-cases c m f is (λ a d. held_item m b side path d ≡ held_item m b side path a) (λ i w x. ap instance_item (placed-same c m f i w is x b)) (λ a other. refl) k l h

  pub alike-named : kind_tree m l ≡ kind_tree m k
  alike-named = alike-cases c m f is (λ a b. kind_tree m b ≡ kind_tree m a) (λ i w x. ap instance_item (named-same c m f i w is x)) (λ a other. refl) k l h
