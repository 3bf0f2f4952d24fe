-- A worked example: what a graph asks for with the interfaces that its imports use.
use Rattle.std.proofs.Common.{◌≡◌, ℕ, ◌++◌, List, [], ◌∷◌, map, Option, Some, None, codes, refl, ap, sym, ◌∙◌}
use Rattle.std.specs.FinMap as finite
use Rattle.std.specs.FinMap.{put}
use Rattle.std.specs.FinSet as set
use Rattle.std.specs.List.{flat_map}
use Rattle.std.specs.Ordering.{nat_cmp}
use Rattle.std.specs.Cmp.{nat_cmp_total}
use Rattle.wac_types_shapes.specs.primitives.Name.{Name}
use Rattle.wac_types_collection.specs.collection.Collection.{Collection}
use Rattle.wac_types_collection.specs.declared.collection.collection.Held.{Held}
use Rattle.wac_types_shapes.specs.declared.shapes.component.DefinedType.TheVariants as def
use Rattle.wac_types_shapes.specs.declared.shapes.component.Interface.{Interface}
use Rattle.wac_types_shapes.specs.declared.shapes.component.ItemKind.{ItemKind}
use Rattle.wac_types_shapes.specs.declared.shapes.component.ItemKind.TheVariants as kind
use Rattle.wac_types_shapes.specs.declared.primitives.component.PrimitiveType.TheVariants as primitive
use Rattle.wac_types_shapes.specs.declared.shapes.component.UsedType.{UsedType}
use Rattle.wac_types_shapes.specs.declared.shapes.component.ValueType.TheVariants as val
use Rattle.wac_types_shapes.specs.declared.shapes.component.«Type».TheVariants as ty
use Rattle.wac_graph_model.specs.nodes.Graph as graph
use Rattle.wac_edges.specs.Edge.{node_number}
use Rattle.wac_graph_model.specs.nodes.Graph.{Graph, GraphNode, node_at}
use Rattle.wac_graph_model.specs.nodes.Asked.{Entry, asked_by, imported_by}
use Rattle.wac_graph_model.specs.nodes.Entries.{once, with_used, asked_entries}
use Rattle.wac_graph_tests.proofs.lemmas.examples.ImportExample.{no_entries}
use Rattle.wac_graph_tests.proofs.lemmas.examples.Rows.{readme_graph}

-- the types `t` and `u`
abbrev byte_type : Name → Name × ItemKind
byte_type n = (n, kind.TypeItem (ty.Value (val.Primitive primitive.U8)))

-- the use of a type under a name, of an interface, by its name there
abbrev use_of : Name → ℕ → Option Name → Name × UsedType
use_of n i there = (n, record { interface = record { 0 = i }; name = there })

abbrev interface_of : Name → List (Name × UsedType) → List (Name × ItemKind) → ℕ → Held Interface
interface_of id uses exports before = record { item = record { id = Some id; uses = uses; exports = exports }; before = before }

-- `a:b/a` with the type `t`, `a:b/b`, which uses it, and uses it again as `u`, and `a:b/c`, which uses `u` of `a:b/b`
abbrev types : Collection
types = record {
  resources = [];
  funcs = [];
  defined = [];
  modules = [];
  interfaces =
      interface_of (codes "a:b/a") [] (byte_type (codes "t") ∷ []) 0
      ∷ interface_of (codes "a:b/b") (use_of (codes "t") 0 None ∷ use_of (codes "u") 0 (Some (codes "t")) ∷ []) (byte_type (codes "t") ∷ byte_type (codes "u") ∷ []) 1
      ∷ interface_of (codes "a:b/c") (use_of (codes "u") 1 None ∷ []) (byte_type (codes "u") ∷ []) 2 ∷ [];
  worlds = [];
}

-- an instance of an interface that the first node asks for under a name
abbrev asked_as : Name → ℕ → Entry
asked_as n i = record { name = n; kind = kind.Instance (record { 0 = i }); node = 0 }

abbrev all_three : List Entry
all_three = asked_as (codes "a:b/a") 0 ∷ asked_as (codes "a:b/b") 1 ∷ asked_as (codes "a:b/c") 2 ∷ []

-- with an instance of `a:b/c` come `a:b/a` and `a:b/b`, each before what uses it, and each once
pub used_before : once (with_used types (asked_as (codes "a:b/c") 2)) ≡ all_three
used_before = refl

-- the enum `t`, and an instance of an interface
abbrev enum_item : Name × ItemKind
enum_item = (codes "t", kind.TypeItem (ty.Value (val.Defined (record { 0 = 0 }))))

abbrev instance_item : Name → ℕ → Name × ItemKind
instance_item n i = (n, kind.Instance (record { 0 = i }))

abbrev bare_interface : List (Name × UsedType) → List (Name × ItemKind) → ℕ → Held Interface
bare_interface uses exports before = record { item = record { id = None; uses = uses; exports = exports }; before = before }

abbrev with_enum : List (Held Interface) → Collection
with_enum interfaces = record { resources = []; funcs = []; defined = record { item = def.Enum (record { 0 = codes "a" ∷ [] }); before = 0 } ∷ []; modules = []; interfaces = interfaces; worlds = [] }

-- `n:p/k` with the enum `t`, and `n:p/i`, which lists an instance that uses it
abbrev nested_types : Collection
nested_types =
    with_enum
    (interface_of (codes "n:p/k") [] (enum_item ∷ []) 1
    ∷ bare_interface (use_of (codes "t") 0 None ∷ []) (enum_item ∷ []) 2
    ∷ interface_of (codes "n:p/i") [] (instance_item (codes "x") 1 ∷ []) 3 ∷ [])

-- an instance of `n:p/i` comes after what the instance that it lists uses
pub used_inside : once (with_used nested_types (asked_as (codes "n:p/i") 2)) ≡ asked_as (codes "n:p/k") 0 ∷ asked_as (codes "n:p/i") 2 ∷ []
used_inside = refl

-- `n:p/b` lists an instance that uses `n:p/a`; `n:p/i` lists one that uses `n:p/b`, then one that uses `n:p/c`, and itself uses `n:p/d`
abbrev ordered_types : Collection
ordered_types =
    with_enum
    (interface_of (codes "n:p/a") [] (enum_item ∷ []) 1
    ∷ bare_interface (use_of (codes "t") 0 None ∷ []) (enum_item ∷ []) 2
    ∷ interface_of (codes "n:p/b") [] (enum_item ∷ instance_item (codes "x") 1 ∷ []) 3
    ∷ interface_of (codes "n:p/c") [] (enum_item ∷ []) 4
    ∷ interface_of (codes "n:p/d") [] (enum_item ∷ []) 5
    ∷ bare_interface (use_of (codes "t") 2 None ∷ []) (enum_item ∷ []) 6
    ∷ bare_interface (use_of (codes "t") 3 None ∷ []) (enum_item ∷ []) 7
    ∷ interface_of (codes "n:p/i") (use_of (codes "t") 4 None ∷ []) (instance_item (codes "x") 5 ∷ instance_item (codes "y") 6 ∷ enum_item ∷ []) 8 ∷ [])

-- own uses are first, then those of the instances in order, each after its own
pub used_in_order : once (with_used ordered_types (asked_as (codes "n:p/i") 7)) ≡ asked_as (codes "n:p/d") 4 ∷ asked_as (codes "n:p/a") 0 ∷ asked_as (codes "n:p/b") 2 ∷ asked_as (codes "n:p/c") 3 ∷ asked_as (codes "n:p/i") 7 ∷ []
used_in_order = refl

abbrev import_of_c : GraphNode
import_of_c = record { kind = graph.import (codes "a:b/c"); item_kind = kind.Instance (record { 0 = 2 }); owner = None; name = None; export_name = None; first_name = None }

abbrev nodes : List (ℕ × GraphNode)
nodes = (0, import_of_c) ∷ []

-- an import node `a:b/c`
abbrev asking : Graph
asking = record readme_graph { types = types; nodes = finite.from_entries nodes; next = 1; edges = set.from_list []; slots = []; vacant = [] }

entries_are : finite.entries (finite.from_entries {R = nat_cmp} nodes) ≡ nodes
entries_are =
    finite.entries-insert nat_cmp_total (finite.from_entries []) 0 import_of_c
    ∙ ap (put nat_cmp 0 import_of_c) (no_entries (finite.entries (finite.empty {R = nat_cmp})) (sym (finite.len-entries finite.empty) ∙ finite.len-empty nat_cmp GraphNode))

at_0 : node_at asking (node_number 0) ≡ Some import_of_c
at_0 = finite.get-from_entries nat_cmp_total nodes 0

-- the same is asked for by a graph with an import node `a:b/c`
pub asked_are : asked_entries asking ≡ all_three
asked_are =
    ap (λ es. once (flat_map (with_used types) (flat_map (λ n. asked_by asking n (node_at asking (node_number n))) (map (λ e. e.0) es) ++ flat_map (λ n. imported_by n (node_at asking (node_number n))) (map (λ e. e.0) es)))) entries_are
    ∙ rw at_0 refl
