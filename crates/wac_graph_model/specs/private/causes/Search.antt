-- Intermediate results of the search for causes. Only private functions use these definitions.
use Rattle.std.specs.Prelude.{ℕ, ◌≡◌, ◌≤◌, ◌<◌, Bool, false, List, Some, slice_get, ◌⊎◌}
use Rattle.wac_types_shapes.specs.primitives.Name.{Name, find_name}
use Rattle.wac_types_shapes.specs.declared.shapes.component.ItemKind.{ItemKind}
use Rattle.wac_graph_model.specs.declared.nodes.options.EncodeOptions.{EncodeOptions}
use Rattle.wac_graph_model.specs.declared.causes.errors.EncodeError.{EncodeError}
use Rattle.wac_graph_model.specs.declared.causes.errors.EncodeError.TheVariants.{OutOfMemory}
use Rattle.wac_edges.specs.declared.node.NodeId.{NodeId}
use Rattle.wac_graph_model.specs.nodes.Graph.{Graph}
use Rattle.wac_graph_model.specs.causes.Cause.{IsConflict, Cause, invalid, kind_of_cause, an_invalid_name, rank, Stands, cause_of}
use Rattle.wac_names.specs.validation.FirstFault.{Fault}

-- The import at position i is unsatisfied, and this node imports its name.
pub record Clashes (satisfied : ℕ → Bool) (imports : List (Name × ItemKind)) (nodes : List (Name × NodeId)) (i : ℕ) (node : NodeId) : Type 0 where
  pub name : Name
  pub kind : ItemKind
  pub asked : slice_get imports i ≡ Some (name, kind)
  pub unset : satisfied i ≡ false
  pub imported : find_name nodes name ≡ Some node

-- The conflict at this position is the first of the instantiation.
pub record IsFirstOf (g : Graph) (instantiation : NodeId) (position : ℕ) (import : NodeId) : Type 0 where
  pub name : Name
  pub here : IsConflict g import instantiation position name
  pub first : (other : NodeId) (i : ℕ) (text : Name) → IsConflict g other instantiation i text → position ≤ i

-- No lower instantiation has a conflict.
abbrev pub IsLowest : Graph → ℕ → Type 0
IsLowest g n = (import m : NodeId) (i : ℕ) (name : Name) → IsConflict g import m i name → n ≤ m.0

-- Memory ran out, or the error reports the cause to report, which is not an invalid name.
abbrev pub IsRefused : Graph → EncodeOptions → EncodeError → Type 0
IsRefused g o e = (e ≡ OutOfMemory) ⊎ ((cause : Cause) × (cause_of e ≡ Some cause) × (rank (kind_of_cause cause) < rank an_invalid_name) × Stands g o cause)

-- Memory ran out, or the error reports the only name fault with the property.
abbrev pub NamesFault : (Fault → Type 0) → EncodeError → Type 0
NamesFault P e = (e ≡ OutOfMemory) ⊎ ((f : Fault) × (cause_of e ≡ Some (invalid f)) × P f × ((other : Fault) → P other → other ≡ f))
