-- The causes of an error of `encode`, and which of them is reported.
use Rattle.std.specs.Prelude.{ℕ, ◌≡◌, ◌<◌, ◌≤◌, ◌⊎◌, [], Option, Some, None, IsSomeAnd, IsTrue, slice_get, string_bytes}
use Rattle.wac_types_shapes.specs.primitives.Name.{Name}
use Rattle.wac_types_shapes.specs.keys.Key.{Key}
use Rattle.wac_types_shapes.specs.declared.shapes.component.ItemKind.{ItemKind}
use Rattle.wac_merge_classes.specs.entries.Agreement.{IsDisagreement}
use Rattle.wac_merge_classes.specs.entries.Classes.{by_names}
use Rattle.wac_merge_classes.specs.terms.ClassOrder.{IsOnCircle}
use Rattle.wac_merge_classes.specs.terms.Faults.{Disagrees, HasNoCircle, UseEachOther}
use Rattle.wac_merge_classes.specs.terms.NoDisagreement.{HasNoDisagreement}
use Rattle.wac_merge_classes.specs.declared.terms.fault.MergeFault.{MergeFault}
use Rattle.wac_merge_classes.specs.declared.terms.fault.MergeFault.TheVariants as merge
use Rattle.wac_encode_faults.specs.declared.fault.WriteFault.{WriteFault}
use Rattle.wac_graph_model.specs.declared.nodes.options.EncodeOptions.{EncodeOptions}
use Rattle.wac_graph_model.specs.declared.causes.errors.EncodeError.{EncodeError}
use Rattle.wac_graph_model.specs.declared.causes.errors.EncodeError.TheVariants as error
use Rattle.wac_edges.specs.declared.node.NodeId.{NodeId}
use Rattle.wac_graph_model.specs.nodes.Graph as graph
use Rattle.wac_graph_model.specs.nodes.Graph.{Graph, GraphNode, node_at, imports_of, package_of, IsUnsatisfied, IsImportOf}
use Rattle.wac_edges.specs.Order.{IsOnCycle, IsLowestOnCycle}
use Rattle.wac_graph_model.specs.nodes.Asked.{Entry}
use Rattle.wac_graph_model.specs.nodes.Entries.{asked_entries, to_merge}
use Rattle.wac_graph_model.specs.causes.TypeFaults.{IsTypeFault, IsEntryFault, wanted_entries}
use Rattle.wac_graph_model.specs.causes.OuterNames.{IsOuterFault}
use Rattle.wac_names.specs.validation.FirstFault.{Fault, fault_view}

-- An unsatisfied import of an instantiation has the name of an import node.
pub record IsConflict (g : Graph) (import instantiation : NodeId) (position : ℕ) (name : Name) : Type 0 where
  pub node : GraphNode
  pub kind : ItemKind
  pub there : node_at g instantiation ≡ Some node
  pub instantiated : node.kind ≡ graph.instantiation
  pub asked : slice_get (imports_of g node) position ≡ Some (name, kind)
  pub unset : IsUnsatisfied g instantiation position
  pub imported : IsImportOf g name import

-- No unsatisfied import has the name of an import node.
abbrev pub HasNoConflict : Graph → Type 0
HasNoConflict g = (import instantiation : NodeId) (position : ℕ) (name : Name) → IsConflict g import instantiation position name → ⊥

-- The conflict is that of the lowest instantiation with one, and the first in world order; the key is its package's.
pub record IsFirstConflict (g : Graph) (import instantiation : NodeId) (key : Key) (name : Name) : Type 0 where
  pub position : ℕ
  pub conflict : IsConflict g import instantiation position name
  pub owned : IsSomeAnd (package_of g conflict.node) (λ p. (p.name, p.version) ≡ key)
  pub lowest : (other n : NodeId) (i : ℕ) (text : Name) → IsConflict g other n i text → instantiation.0 ≤ n.0
  pub first : (other : NodeId) (i : ℕ) (text : Name) → IsConflict g other instantiation i text → position ≤ i

-- The graph's imports can be merged: those of one class agree, and none depend on each other in a cycle.
abbrev pub HasMerge : Graph → Type 0
HasMerge g = HasNoDisagreement by_names g.types (to_merge (asked_entries g)) × HasNoCircle by_names g.types (to_merge (asked_entries g))

-- The import at `second` is the first that disagrees with an earlier one of its class. The first such one is at `first`.
pub record IsMergeConflict (g : Graph) (first second : ℕ) (export : Name) : Type 0 where
  pub disagree : Disagrees by_names g.types (to_merge (asked_entries g)) first second export
  pub earlier : Entry
  pub later : Entry
  pub at_first : slice_get (asked_entries g) first ≡ Some earlier
  pub at_second : slice_get (asked_entries g) second ≡ Some later

-- The import is an implicit one: the node is an instantiation.
pub record AsksImplicitly (g : Graph) (n : NodeId) : Type 0 where
  pub node : GraphNode
  pub there : node_at g n ≡ Some node
  pub instantiated : node.kind ≡ graph.instantiation

-- The import is an explicit one: the node is an import.
pub record AsksExplicitly (g : Graph) (n : NodeId) : Type 0 where
  pub node : GraphNode
  pub name : Name
  pub there : node_at g n ≡ Some node
  pub imported : node.kind ≡ graph.import name

-- A merge conflict whose later import is implicit: its name, and the nodes of both imports.
pub record IsImplicitMerge (g : Graph) (import : Name) (first second : NodeId) (p q : ℕ) (export : Name) : Type 0 where
  pub conflict : IsMergeConflict g p q export
  pub asked : AsksImplicitly g second
  pub name : import ≡ (conflict.later).name
  pub by_first : first.0 ≡ (conflict.earlier).node
  pub by_second : second.0 ≡ (conflict.later).node

-- A merge conflict whose later import is explicit: its name, and the nodes of both imports.
pub record IsExplicitMerge (g : Graph) (import : Name) (node other : NodeId) : Type 0 where
  pub first : ℕ
  pub second : ℕ
  pub export : Name
  pub conflict : IsMergeConflict g first second export
  pub asked : AsksExplicitly g node
  pub name : import ≡ (conflict.later).name
  pub by_node : node.0 ≡ (conflict.later).node
  pub by_other : other.0 ≡ (conflict.earlier).node

-- Imports depend on each other in a cycle; the name is the canonical one of the first import on a cycle.
abbrev pub IsImportCircle : Graph → Name → Type 0
IsImportCircle g import = UseEachOther by_names g.types (to_merge (asked_entries g)) import

-- A cause that an error reports.
pub data Cause : Type 0 where
  cycle : NodeId → Cause
  conflict : NodeId → NodeId → Key → Name → Cause
  implicit_merge : Name → NodeId → NodeId → ℕ → ℕ → Name → Cause
  explicit_merge : Name → NodeId → NodeId → Cause
  import_circle : Name → Cause
  unwritable : NodeId → WriteFault → Cause
  invalid : Fault → Cause

-- The kinds of causes.
pub data CauseKind : Type 0 where
  a_cycle : CauseKind
  a_conflict : CauseKind
  a_disagreement : CauseKind
  a_circle : CauseKind
  a_type_fault : CauseKind
  an_invalid_name : CauseKind

-- The kind of a cause.
abbrev pub kind_of_cause : Cause → CauseKind
kind_of_cause (cycle node) = a_cycle
kind_of_cause (conflict import instantiation key name) = a_conflict
kind_of_cause (implicit_merge import first second p q export) = a_disagreement
kind_of_cause (explicit_merge import node other) = a_disagreement
kind_of_cause (import_circle import) = a_circle
kind_of_cause (unwritable node fault) = a_type_fault
kind_of_cause (invalid fault) = an_invalid_name

-- The order in which kinds of causes are reported.
abbrev pub rank : CauseKind → ℕ
rank a_cycle = 0
rank a_conflict = 1
rank a_disagreement = 2
rank a_circle = 3
rank a_type_fault = 4
rank an_invalid_name = 5

-- The graph has a cause of this kind, under these options.
abbrev pub Occurs : Graph → EncodeOptions → CauseKind → Type 0
Occurs g o a_cycle = (n : NodeId) × IsOnCycle g.edges n
Occurs g o a_conflict = (import : NodeId) × (instantiation : NodeId) × (position : ℕ) × (name : Name) × IsConflict g import instantiation position name
Occurs g o a_disagreement = (first : ℕ) × (second : ℕ) × IsDisagreement by_names g.types (to_merge (asked_entries g)) first second
Occurs g o a_circle = (class : ℕ) × IsOnCircle by_names g.types (to_merge (asked_entries g)) class
Occurs g o a_type_fault = (position : ℕ) × (entry : Entry) × (fault : WriteFault) × (slice_get (wanted_entries g o.define_components) position ≡ Some entry) × IsEntryFault g entry fault
Occurs g o an_invalid_name = IsTrue o.validate × ((fault : Fault) × IsOuterFault g o fault)

-- The graph has a cause of this kind and of no kind before it.
abbrev pub IsFirstKind : Graph → EncodeOptions → CauseKind → Type 0
IsFirstKind g o kind = Occurs g o kind × ((below : CauseKind) → rank below < rank kind → Occurs g o below → ⊥)

-- Of the causes of its kind, this one is reported: that of the lowest node or the first import.
abbrev pub IsNamed : Graph → EncodeOptions → Cause → Type 0
IsNamed g o (cycle node) = IsLowestOnCycle g.edges node
IsNamed g o (conflict import instantiation key name) = IsFirstConflict g import instantiation key name
IsNamed g o (implicit_merge import first second p q export) = IsImplicitMerge g import first second p q export
IsNamed g o (explicit_merge import node other) = IsExplicitMerge g import node other
IsNamed g o (import_circle import) = IsImportCircle g import
IsNamed g o (unwritable node fault) = IsTypeFault g o.define_components node fault
IsNamed g o (invalid fault) = IsOuterFault g o fault

-- The cause is the one to report: its kind is the first that occurs, and it is the first of its kind.
abbrev pub Stands : Graph → EncodeOptions → Cause → Type 0
Stands g o cause = IsFirstKind g o (kind_of_cause cause) × IsNamed g o cause

-- The cause of a merge error with an implicit import; errors other than a disagreement never occur here.
abbrev pub implicit_cause : Name → NodeId → NodeId → MergeFault → Option Cause
implicit_cause import first second (merge.Disagree p q export) = Some (implicit_merge import first second p q (string_bytes export))
implicit_cause import first second fault = Some (implicit_merge import first second 0 0 [])

-- The cause that an error reports; `TooLarge` and `OutOfMemory` report none.
abbrev pub cause_of : EncodeError → Option Cause
cause_of (error.GraphContainsCycle node) = Some (cycle node)
cause_of (error.ImplicitImportConflict import instantiation key name) = Some (conflict import instantiation key (string_bytes name))
cause_of (error.ImportTypeMergeConflict import first second fault) = implicit_cause (string_bytes import) first second fault
cause_of (error.ExplicitImportMergeConflict import node other) = Some (explicit_merge (string_bytes import) node other)
cause_of (error.ImportsUseEachOther import) = Some (import_circle (string_bytes import))
cause_of (error.TypeNotWritable node fault) = Some (unwritable node fault)
cause_of error.TooLarge = None
cause_of error.OutOfMemory = None
cause_of (error.ValidationFailure fault) = Some (invalid (fault_view fault))

-- The error reports the cause, or memory ran out.
--
-- Names are validated last, so an invalid name may also be preceded by `TooLarge`.
abbrev pub AnswersFor : Cause → EncodeError → Type 0
AnswersFor cause e = (cause_of e ≡ Some cause) ⊎ ((e ≡ error.OutOfMemory) ⊎ ((kind_of_cause cause ≡ an_invalid_name) × (e ≡ error.TooLarge)))
