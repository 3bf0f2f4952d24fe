-- When a used resource is the one that is exported under its name.
use Rattle.std.specs.Prelude.{ℕ, ◌≡◌, true, false, List, [], ◌∷◌, map, Some, None, slice_get, Contains}
use Rattle.wac_types_shapes.specs.primitives.Name.{Name, find_name}
use Rattle.wac_types_shapes.specs.declared.shapes.component.Interface.{Interface}
use Rattle.wac_types_shapes.specs.declared.shapes.component.InterfaceId.{InterfaceId}
use Rattle.wac_types_shapes.specs.declared.shapes.component.ItemKind.{ItemKind}
use Rattle.wac_types_shapes.specs.declared.shapes.component.ItemKind.TheVariants as kind
use Rattle.wac_types_shapes.specs.declared.shapes.component.ResourceId.{ResourceId}
use Rattle.wac_types_shapes.specs.declared.shapes.component.UsedType.{UsedType}
use Rattle.wac_types_shapes.specs.declared.shapes.component.«Type».TheVariants as ty
use Rattle.wac_types_collection.specs.collection.Bound.{is_alias, own_name}
use Rattle.wac_types_collection.specs.collection.Collection.{Collection, IsWellFormed, interface_exports, item_at}
use Rattle.wac_types_collection.specs.collection.Held.{resolved}
use Rattle.wac_types_shapes.specs.primitives.Tree.{named}
use Rattle.wac_types_collection.specs.collection.Uses.{is_listed_as_used, name_there}
use Rattle.wac_merge_classes.specs.entries.Binding.{binding_class}
use Rattle.wac_merge_classes.specs.entries.Classes.{Entry, by_names, canonical, class_names, members}
use Rattle.wac_merge_classes.specs.terms.Merge.{IsMerge, Merged}
use Rattle.wac_merge_unions.specs.uses.KeptUses.{of_interface}
use Rattle.wac_merge_unions.specs.uses.United.{listed_by}
use Rattle.wac_merge_imports.specs.unions.OneId.{HasOneIdEach}
use Rattle.wac_merge.specs.Listed.{united_interfaces}

-- The import is an instance that exports a under this name, as an alias.
-- Its first entry that exports the name exports r there, with aliases resolved. No entry has r as its own.
pub record ListsResource (c : Collection) (es : List Entry) (m : Merged) (p : ℕ) (n : Name) (r a : ResourceId) : Type 0 where
  pub entry : Entry
  pub at : slice_get m.imports p ≡ Some entry
  pub interface : InterfaceId
  pub is : entry.kind ≡ kind.Instance interface
  pub merged : find_name (interface_exports m.types interface) n ≡ Some (kind.TypeItem (ty.Resource a))
  pub alias : is_alias m.types a ≡ true
  pub first : ResourceId
  pub more : List ItemKind
  pub listed : listed_by c (united_interfaces (map (λ x. x.kind) (members by_names es entry.name))) n ≡ kind.TypeItem (ty.Resource first) ∷ more
  pub end : resolved c first ≡ r
  pub free : (e : Entry) (i : InterfaceId) (it : Interface) → Contains (members by_names es entry.name) e → e.kind ≡ kind.Instance i → item_at c.interfaces i.0 ≡ Some it → own_name c it.uses it.exports r ≡ None

-- The import is an instance of the first class of the entries that binds r, and exports b under this name as its own.
pub record BindsResource (c : Collection) (es : List Entry) (m : Merged) (p : ℕ) (n : Name) (r b : ResourceId) : Type 0 where
  pub number : ℕ
  pub class : Name
  pub known : slice_get (class_names by_names es) number ≡ Some class
  pub first : binding_class by_names c es r ≡ Some (number, named n ∷ [])
  pub entry : Entry
  pub at : slice_get m.imports p ≡ Some entry
  pub name : entry.name ≡ canonical by_names es class
  pub interface : InterfaceId
  pub is : entry.kind ≡ kind.Instance interface
  pub listed : find_name (interface_exports m.types interface) n ≡ Some (kind.TypeItem (ty.Resource b))
  pub own : is_alias m.types b ≡ false

-- If one class exports a resource under the name of a use, and the used class is the first to bind it, they are one.
abbrev pub UsedResourceLaw : Type 0
UsedResourceLaw = (c : Collection) (es : List Entry) (m : Merged) → IsWellFormed m.types → IsMerge by_names c es m → HasOneIdEach c es m
    → (p q : ℕ) (n : Name) (u : UsedType) (r a b : ResourceId) (lists : ListsResource c es m p n r a) (binds : BindsResource c es m q (name_there n u) r b)
    → is_listed_as_used m.types (interface_exports m.types lists.interface) (n, of_interface binds.interface u) ≡ true
