-- When a used value type is the one that is exported under its name.
use Rattle.std.specs.Prelude.{ℕ, ◌≡◌, true, List, map, Some, slice_get, Contains}
use Rattle.wac_types_shapes.specs.primitives.Name.{Name, find_name}
use Rattle.wac_types_shapes.specs.declared.shapes.component.DefinedType.{DefinedType}
use Rattle.wac_types_shapes.specs.declared.shapes.component.DefinedTypeId.{DefinedTypeId}
use Rattle.wac_types_shapes.specs.declared.shapes.component.InterfaceId.{InterfaceId}
use Rattle.wac_types_shapes.specs.declared.shapes.component.ItemKind.{ItemKind}
use Rattle.wac_types_shapes.specs.declared.shapes.component.ItemKind.TheVariants as kind
use Rattle.wac_types_shapes.specs.declared.shapes.component.UsedType.{UsedType}
use Rattle.wac_types_shapes.specs.declared.shapes.component.ValueType.TheVariants as val
use Rattle.wac_types_shapes.specs.declared.shapes.component.«Type».TheVariants as ty
use Rattle.wac_types_collection.specs.collection.Collection.{Collection, IsWellFormed, interface_exports, item_at}
use Rattle.wac_types_collection.specs.collection.Uses.{is_listed_as_used, name_there}
use Rattle.wac_merge_classes.specs.entries.Classes.{Entry, by_names, members}
use Rattle.wac_merge_classes.specs.terms.Merge.{IsMerge, Merged}
use Rattle.wac_merge_classes.specs.terms.Values.{listed_value}
use Rattle.wac_merge_unions.specs.uses.KeptUses.{of_interface}
use Rattle.wac_merge_unions.specs.uses.United.{listed_by}
use Rattle.wac_merge_imports.specs.unions.OneId.{HasOneIdEach}
use Rattle.wac_merge.specs.Listed.{united_interfaces}

-- The import is an instance that exports the definition a under this name.
-- An entry of its class exports d there, and each entry that exports the name exports a definition there.
pub record ListsDefinition (c : Collection) (es : List Entry) (m : Merged) (p : ℕ) (n : Name) (d a : DefinedTypeId) : Type 0 where
  pub entry : Entry
  pub at : slice_get m.imports p ≡ Some entry
  pub interface : InterfaceId
  pub is : entry.kind ≡ kind.Instance interface
  pub merged : find_name (interface_exports m.types interface) n ≡ Some (kind.TypeItem (ty.Value (val.Defined a)))
  pub member : Entry
  pub among : Contains (members by_names es entry.name) member
  pub of : InterfaceId
  pub instance : member.kind ≡ kind.Instance of
  pub item : ItemKind
  pub listed : find_name (interface_exports c of) n ≡ Some item
  pub definition : listed_value c item ≡ Some d
  pub each : (k : ItemKind) → Contains (listed_by c (united_interfaces (map (λ x. x.kind) (members by_names es entry.name))) n) k → (e : DefinedTypeId) × (listed_value c k ≡ Some e)

-- A class and the used class may export one definition under the names of a use.
-- If the two merged definitions are equal, the use is of the exported type.
abbrev pub UsedValueLaw : Type 0
UsedValueLaw = (c : Collection) (es : List Entry) (m : Merged) → IsWellFormed c → IsMerge by_names c es m → HasOneIdEach c es m
    → (p q : ℕ) (n : Name) (u : UsedType) (d a b : DefinedTypeId) (x : DefinedType) (lists : ListsDefinition c es m p n d a) (there : ListsDefinition c es m q (name_there n u) d b)
    → item_at m.types.defined a.0 ≡ Some x → item_at m.types.defined b.0 ≡ Some x
    → is_listed_as_used m.types (interface_exports m.types lists.interface) (n, of_interface there.interface u) ≡ true
