-- What interfaces export under a name.
use Rattle.std.specs.Prelude.{List, [], ◌∷◌}
use Rattle.wac_types_shapes.specs.primitives.Name.{Name, find_name, option_case}
use Rattle.wac_types_shapes.specs.declared.shapes.component.InterfaceId.{InterfaceId}
use Rattle.wac_types_shapes.specs.declared.shapes.component.ItemKind.{ItemKind}
use Rattle.wac_types_shapes.specs.declared.shapes.component.ItemKind.TheVariants as kind
use Rattle.wac_types_collection.specs.collection.Collection.{Collection, interface_exports}

-- The interfaces of the instances among items.
abbrev pub instances_of : List ItemKind → List InterfaceId
instances_of [] = []
instances_of (kind.Instance i ∷ ks) = i ∷ instances_of ks
instances_of (k ∷ ks) = instances_of ks

-- What these interfaces export under a name, in order.
abbrev pub listed_by : Collection → List InterfaceId → Name → List ItemKind
listed_by c [] n = []
listed_by c (i ∷ is) n = option_case (find_name (interface_exports c i) n) (listed_by c is n) (λ k. k ∷ listed_by c is n)
