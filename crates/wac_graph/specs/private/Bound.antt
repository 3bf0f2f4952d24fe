-- How the resources that classes bind are collected. Only private functions use these definitions.
use Rattle.std.specs.Prelude.{ℕ, ◌≡◌, ◌<◌, ◌⊎◌, ◌↔◌, List, Option, Some, None, IsSome, Contains, slice_get}
use Rattle.wac_types_shapes.specs.primitives.Name.{Name}
use Rattle.wac_types_shapes.specs.declared.shapes.component.ItemKind.{ItemKind}
use Rattle.wac_types_shapes.specs.declared.shapes.component.ItemKind.TheVariants as kind
use Rattle.wac_types_shapes.specs.declared.shapes.component.ResourceId.{ResourceId}
use Rattle.wac_types_shapes.specs.declared.shapes.component.«Type».TheVariants as ty
use Rattle.wac_types_collection.specs.collection.Collection.{Collection, interface_exports}
use Rattle.wac_merge_classes.specs.entries.Binding.{binding_class}
use Rattle.wac_merge_classes.specs.entries.Classes.{by_names}
use Rattle.wac_merge.specs.Aggregate.{Aggregate}
use Rattle.wac_graph_model.specs.nodes.Graph.{Graph}
use Rattle.wac_graph_model.specs.causes.TypeFaults.{class_bindings}

-- The resource of a type item.
abbrev pub item_resource : ItemKind → Option ResourceId
item_resource (kind.TypeItem (ty.Resource r)) = Some r
item_resource k = None

-- The relation holds between the resource and one of the first n elements.
abbrev pub IsListedBefore : {X : Type 0} → (X → ResourceId → Type 0) → List X → ℕ → ResourceId → Type 0
IsListedBefore {X} Lists xs n r = (j : ℕ) × (x : X) × (j < n) × (slice_get xs j ≡ Some x) × Lists x r

-- The relation holds between the resource and one of the elements.
abbrev pub IsListedBy : {X : Type 0} → (X → ResourceId → Type 0) → List X → ResourceId → Type 0
IsListedBy {X} Lists xs r = (j : ℕ) × (x : X) × (slice_get xs j ≡ Some x) × Lists x r

-- The item under a name is a type item of the resource.
abbrev pub IsResourceUnder : Name × ItemKind → ResourceId → Type 0
IsResourceUnder e r = item_resource e.1 ≡ Some r

-- The import is the resource as a type item, or an instance that exports it so.
abbrev pub ListsResource : Collection → ItemKind → ResourceId → Type 0
ListsResource c (kind.Instance i) r = IsListedBy IsResourceUnder (interface_exports c i) r
ListsResource c k r = item_resource k ≡ Some r

-- A class of the entries binds the resource.
abbrev pub IsBoundIn : Aggregate → ResourceId → Type 0
IsBoundIn a r = IsSome (binding_class by_names (a.merge).types a.entries r)

-- Those resources for which P holds were added.
abbrev pub AddsResources : (ResourceId → Type 0) → List ResourceId → List ResourceId → Type 0
AddsResources P old new = (r : ResourceId) → Contains new r ↔ (Contains old r ⊎ P r)

-- The resources are those that classes of the graph's imports bind.
abbrev pub AreBound : Graph → List ResourceId → Type 0
AreBound g rs = (r : ResourceId) → Contains rs r ↔ IsSome (class_bindings g r)
