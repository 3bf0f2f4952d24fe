-- The imports that are merged: the graph's imports, each after the interfaces that it uses widely.
use Rattle.std.specs.Prelude.{ℕ, zero, suc, Bool, false, not, ◌&&◌, ◌==◌, List, [], ◌∷◌, ◌++◌, length, map, filter}
use Rattle.std.specs.List.{flat_map}
use Rattle.wac_types_shapes.specs.primitives.Name.{Name, same_name, option_case}
use Rattle.wac_types_collection.specs.collection.Collection.{Collection, item_at}
use Rattle.wac_types_collection.specs.wide.Wide.{wide_uses}
use Rattle.wac_types_shapes.specs.declared.shapes.component.InterfaceId.{InterfaceId}
use Rattle.wac_types_shapes.specs.declared.shapes.component.ItemKind.{ItemKind}
use Rattle.wac_types_shapes.specs.declared.shapes.component.ItemKind.TheVariants as kind
use Rattle.wac_merge_classes.specs.entries.Classes as merge
use Rattle.wac_graph_model.specs.nodes.Graph.{Graph}
use Rattle.wac_graph_model.specs.nodes.Asked.{Entry, asked}

-- The instance of an interface under the interface's id.
abbrev pub under_id : Collection → InterfaceId → List (Name × ItemKind)
under_id c i = option_case (item_at c.interfaces i.0) [] (λ it. option_case it.id [] (λ id. (id, kind.Instance i) ∷ []))

-- The interfaces that an interface uses widely, each after those that it uses widely itself, down to the given depth.
abbrev pub used_to : ℕ → Collection → InterfaceId → List (Name × ItemKind)
used_to zero c i = []
used_to (suc k) c i = flat_map (λ j. used_to k c j ++ under_id c j) (wide_uses c i)

-- The interfaces that an instance uses widely; a chain of uses is no longer than the number of interfaces.
abbrev pub used_by : Collection → ItemKind → List (Name × ItemKind)
used_by c (kind.Instance i) = used_to (length c.interfaces) c i
used_by c k = []

-- An import after the interfaces that it uses widely.
abbrev pub with_used : Collection → Entry → List Entry
with_used c e = map (λ u. record { name = u.0; kind = u.1; node = e.node }) (used_by c e.kind) ++ e ∷ []

-- Both items are instances of one interface.
abbrev pub same_instance : ItemKind → ItemKind → Bool
same_instance (kind.Instance i) (kind.Instance j) = i.0 == j.0
same_instance _ _ = false

-- The two imports have one name and are instances of one interface.
abbrev pub asks_again : Entry → Entry → Bool
asks_again e x = same_name e.name x.name && same_instance e.kind x.kind

-- The imports without repeated instances: the first of equal name and interface remains.
abbrev pub once : List Entry → List Entry
once [] = []
once (e ∷ es) = e ∷ filter (λ x. not (asks_again e x)) (once es)

-- All imports of the graph that are merged, used interfaces before their users.
abbrev pub asked_entries : Graph → List Entry
asked_entries g = once (flat_map (with_used g.types) (asked g))

-- The imports without their nodes, as they are merged.
abbrev pub to_merge : List Entry → List merge.Entry
to_merge es = map (λ e. record { name = e.name; kind = e.kind }) es
