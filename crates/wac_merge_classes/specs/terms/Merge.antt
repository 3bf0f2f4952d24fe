-- What a finished merge contains.
use Rattle.std.specs.Prelude.{ℕ, suc, ◌≡◌, ◌==◌, Bool, false, if◌then◌else◌, List, [], ◌∷◌, ◌++◌, map, length, Option, Some, None, slice_get}
use Rattle.std.specs.List.{AllByRecursion, list_any}
use Rattle.wac_types_shapes.specs.primitives.Name.{Name, same_name, find_name, option_case}
use Rattle.wac_types_shapes.specs.primitives.Tree.{imported, position}
use Rattle.wac_types_collection.specs.collection.Collection.{Collection, item_at, interface_exports}
use Rattle.wac_types_collection.specs.collection.Bound.{held_item, is_alias}
use Rattle.wac_types_shapes.specs.declared.shapes.component.Interface.{Interface}
use Rattle.wac_types_shapes.specs.declared.shapes.component.InterfaceId.{InterfaceId}
use Rattle.wac_types_shapes.specs.declared.shapes.component.ResourceId.{ResourceId}
use Rattle.wac_types_shapes.specs.declared.shapes.component.ItemKind.{ItemKind}
use Rattle.wac_types_shapes.specs.declared.shapes.component.ItemKind.TheVariants as kind
use Rattle.wac_types_shapes.specs.declared.shapes.component.«Type».TheVariants as ty
use Rattle.wac_types_collection.specs.subtyping.Subtype.{IsSubtype, kind_tree}
use Rattle.wac_merge_classes.specs.entries.Classes.{Entry, NameRules, same_track, is_instance, members, class_names, canonical}
use Rattle.wac_merge_classes.specs.entries.Binding.{root_bindings}
use Rattle.wac_merge_classes.specs.terms.Union.{merged}
use Rattle.wac_merge_classes.specs.terms.ClassOrder.{IsWrittenOrder}

-- The merged imports in their order, and the collection of their types.
pub record Merged : Type 0 where
  pub types : Collection
  pub imports : List Entry

-- Named items as entries.
abbrev pub import_entries : List (Name × ItemKind) → List Entry
import_entries es = map (λ e. record { name = e.0; kind = e.1 }) es

-- The position of a number in a list.
abbrev pub position_in : List ℕ → ℕ → ℕ
position_in [] n = 0
position_in (m ∷ rest) n = if m == n then 0 else suc (position_in rest n)

-- The names, after which the other names of these items are appended.
abbrev pub with_names : List Name → List (Name × ItemKind) → List Name
with_names ns [] = ns
with_names ns (e ∷ es) = with_names (if list_any (same_name e.0) ns then ns else ns ++ e.0 ∷ []) es

-- The names, after which the other names of these lists are appended in order of first appearance.
abbrev pub names_behind : List Name → List (List (Name × ItemKind)) → List Name
names_behind ns [] = ns
names_behind ns (es ∷ rest) = names_behind (with_names ns es) rest

-- The exports of an entry that is an instance, before those of the rest.
abbrev pub export_list : Collection → ItemKind → List (List (Name × ItemKind)) → List (List (Name × ItemKind))
export_list c (kind.Instance i) rest = interface_exports c i ∷ rest
export_list c k rest = rest

-- The exports of each entry that is an instance.
abbrev pub export_lists : Collection → List Entry → List (List (Name × ItemKind))
export_lists c [] = []
export_lists c (e ∷ es) = export_list c e.kind (export_lists c es)

-- The item is an instance whose interface id has the track of the class.
abbrev pub is_on_track : NameRules → Collection → Name → ItemKind → Bool
is_on_track rules c class (kind.Instance i) = option_case (item_at c.interfaces i.0) false (λ it. option_case it.id false (λ id. same_track (rules.track id) (rules.track class)))
is_on_track rules c class _ = false

-- The interface id of an instance.
abbrev pub instance_id : Collection → ItemKind → Option Name
instance_id c (kind.Instance i) = option_case (item_at c.interfaces i.0) None (λ it. it.id)
instance_id c k = None

-- The interface id of the first entry.
abbrev pub first_entry_id : Collection → List Entry → Option Name
first_entry_id c [] = None
first_entry_id c (e ∷ es) = instance_id c e.kind

-- The interface id of a class: its canonical name if an entry's id has its track, else the id of its first entry.
abbrev pub class_id : NameRules → Collection → List Entry → Name → Option Name
class_id rules c es class = if list_any (λ e. is_on_track rules c class e.kind) (members rules es class) then Some (canonical rules es class) else first_entry_id c (members rules es class)

-- The interface has the id of its class.
abbrev pub IsIdentified : NameRules → Collection → List Entry → Name → Collection → InterfaceId → Type 0
IsIdentified rules c es class m i = (it : Interface) × (item_at m.interfaces i.0 ≡ Some it) × (it.id ≡ class_id rules c es class)

-- An instance has the exports of the entries of its class, in order of first appearance, and the id of the class.
abbrev pub IsListed : NameRules → Collection → List Entry → Name → Collection → ItemKind → Type 0
IsListed rules c es class m (kind.Instance i) = (map (λ x. x.0) (interface_exports m i) ≡ names_behind [] (export_lists c (members rules es class))) × IsIdentified rules c es class m i
IsListed rules c es class m k = Unit {0}

-- The imports are the classes in order, each under its canonical name with its merged item, a subtype of each entry's.
pub record IsMerge (rules : NameRules) (c : Collection) (es : List Entry) (m : Merged) : Type 0 where
  pub order : List ℕ
  pub written : IsWrittenOrder rules c es order
  pub count : length m.imports ≡ length order
  pub names : (p k : ℕ) (class : Name) (e : Entry) → slice_get order p ≡ Some k → slice_get (class_names rules es) k ≡ Some class → slice_get m.imports p ≡ Some e
      → e.name ≡ canonical rules es class
  pub items : (p k : ℕ) (class : Name) (e : Entry) → slice_get order p ≡ Some k → slice_get (class_names rules es) k ≡ Some class → slice_get m.imports p ≡ Some e
      → held_item m.types (root_bindings rules m.types m.imports (λ i. i)) imported (position p ∷ []) e.kind
      ≡ merged rules c es (root_bindings rules c es (position_in order)) p class
  pub listed : (p k : ℕ) (class : Name) (e : Entry) → slice_get order p ≡ Some k → slice_get (class_names rules es) k ≡ Some class → slice_get m.imports p ≡ Some e
      → IsListed rules c es class m.types e.kind
  pub subtypes : (p k : ℕ) (class : Name) (e : Entry) → slice_get order p ≡ Some k → slice_get (class_names rules es) k ≡ Some class → slice_get m.imports p ≡ Some e
      → AllByRecursion (λ member. IsSubtype m.types e.kind c member.kind) (members rules es class)
  -- An item that is no instance equals the item of each entry, resources being compared by name.
  pub equal : (p k : ℕ) (class : Name) (e : Entry) → slice_get order p ≡ Some k → slice_get (class_names rules es) k ≡ Some class → slice_get m.imports p ≡ Some e
      → is_instance e.kind ≡ false → AllByRecursion (λ member. kind_tree m.types e.kind ≡ kind_tree c member.kind) (members rules es class)

-- The import of this name.
abbrev pub import_under : List Entry → Name → Option ItemKind
import_under [] n = None
import_under (e ∷ es) n = if same_name n e.name then Some e.kind else import_under es n

-- The resource of a type item that is not an alias.
abbrev pub listed_resource : Collection → ItemKind → Option ResourceId
listed_resource m (kind.TypeItem (ty.Resource q)) = if is_alias m q then None else Some q
listed_resource m k = None

-- The own resource that an instance exports under a name, if its interface has this id.
abbrev pub own_resource : Collection → Name → Name → ItemKind → Option ResourceId
own_resource c id n (kind.Instance i) = option_case (item_at c.interfaces i.0) None (λ it. option_case it.id None (λ text.
    if same_name id text then option_case (find_name it.exports n) None (listed_resource c) else None))
own_resource c id n k = None

-- The own resource under a name in the import of this id.
abbrev pub bound_resource : Merged → Name → Name → Option ResourceId
bound_resource m id n = option_case (import_under m.imports id) None (own_resource m.types id n)
