-- What the interfaces of a merge export: those of imports, of instances inside them, and interfaces as type items.
use Rattle.std.specs.Prelude.{ℕ, ◌≡◌, List, [], ◌∷◌, map, Option, Some, None, slice_get}
use Rattle.wac_types_shapes.specs.primitives.Name.{Name, find_name}
use Rattle.wac_types_shapes.specs.declared.shapes.component.Interface.{Interface}
use Rattle.wac_types_shapes.specs.declared.shapes.component.InterfaceId.{InterfaceId}
use Rattle.wac_types_shapes.specs.declared.shapes.component.ItemKind.{ItemKind}
use Rattle.wac_types_shapes.specs.declared.shapes.component.ItemKind.TheVariants as kind
use Rattle.wac_types_shapes.specs.declared.shapes.component.«Type».TheVariants as ty
use Rattle.wac_types_collection.specs.collection.Collection.{Collection, interface_exports, item_at}
use Rattle.wac_merge_classes.specs.entries.Classes.{Entry, NameRules, members}
use Rattle.wac_merge_classes.specs.terms.Merge.{Merged, names_behind}
use Rattle.wac_merge_unions.specs.uses.United.{instances_of, listed_by}

-- The interface of an instance, or of a type item.
abbrev pub interface_in : ItemKind → Option InterfaceId
interface_in (kind.Instance i) = Some i
interface_in (kind.TypeItem (ty.Interface i)) = Some i
interface_in k = None

-- The interfaces that are united under one name: those of all instances, or the first one that is a type item.
abbrev pub united_interfaces : List ItemKind → List InterfaceId
united_interfaces (kind.Instance i ∷ ks) = i ∷ instances_of ks
united_interfaces (kind.TypeItem (ty.Interface i) ∷ ks) = i ∷ []
united_interfaces ks = []

-- An interface of a merge unites these interfaces of the entries, in order.
-- That of an import unites those of its class's entries; one inside it unites those that these export under its name.
pub data Unites (rules : NameRules) (c : Collection) (es : List Entry) (m : Merged) : InterfaceId → List InterfaceId → Type 0 where
  as_import : (p : ℕ) (e : Entry) (w : InterfaceId) → slice_get m.imports p ≡ Some e → interface_in e.kind ≡ Some w → Unites rules c es m w (united_interfaces (map (λ x. x.kind) (members rules es e.name)))
  inside : (w v : InterfaceId) (is : List InterfaceId) (it : Interface) (n : Name) (k : ItemKind) → Unites rules c es m w is → item_at m.types.interfaces w.0 ≡ Some it → find_name it.exports n ≡ Some k → interface_in k ≡ Some v
      → Unites rules c es m v (united_interfaces (listed_by c is n))

-- Each interface of a merge exports the names of those that it unites, each once, in order of first appearance.
abbrev pub AreListedInOrder : NameRules → Collection → List Entry → Merged → Type 0
AreListedInOrder rules c es m = (w : InterfaceId) (is : List InterfaceId) (it : Interface) → Unites rules c es m w is → item_at m.types.interfaces w.0 ≡ Some it
    → map (λ e. e.0) it.exports ≡ names_behind [] (map (interface_exports c) is)
