-- What `plug` adds to a graph, as steps of the graph, and its result.
use Rattle.std.specs.Prelude.{◌≡◌, ◌⊎◌, List, [], ◌∷◌, Result, Ok, Err, IsErr, IsSome, Some}
use Rattle.wac_types_shapes.specs.primitives.Name.{Name}
use Rattle.wac_types_shapes.specs.shapes.Named.{names_of}
use Rattle.wac_graph_model.specs.declared.nodes.errors.AliasError.{AliasError}
use Rattle.wac_graph_model.specs.declared.nodes.errors.ExportError.{ExportError}
use Rattle.wac_graph_model.specs.declared.nodes.errors.InstantiationArgumentError.{InstantiationArgumentError}
use Rattle.wac_edges.specs.declared.node.NodeId.{NodeId}
use Rattle.wac_graph_model.specs.declared.nodes.packages.PackageId.{PackageId}
use Rattle.wac_graph_model.specs.nodes.Graph.{Graph, GraphNode, node_at}
use Rattle.wac_graph_model.specs.nodes.Steps.{Instantiates, Aliases, SetsArgument, Exports}
use Rattle.wac_graph.specs.declared.plugs.errors.PlugError.{PlugError}
use Rattle.wac_graph.specs.declared.plugs.errors.PlugError.TheVariants.{NoPlugHappened, OutOfMemory}
use Rattle.wac_graph.specs.plugs.Matching.{Match, PlugMatches, AreAllMatches, exports_of_package}
use Rattle.wac_graph.specs.plugs.Precedence.{wired}
use Rattle.wac_graph.specs.plugs.Refusals.{of_alias, of_argument, of_export}

-- The result of `plug` and of its steps.
abbrev pub Answer : Type 0
Answer = Result (Unit {0}) PlugError

-- The result of a call on the graph, with its error as one of `plug`.
abbrev pub answered : {A E : Type 0} → (E → PlugError) → Result A E → Answer
answered refusal (Ok a) = Ok tt
answered refusal (Err e) = Err (refusal e)

-- The result of `plug` without the matches that it returns.
abbrev pub answer_of : {A : Type 0} → Result A PlugError → Answer
answer_of (Ok a) = Ok tt
answer_of (Err e) = Err e

-- A step for each item of the list, in order, up to the first error.
abbrev pub InOrder : {A : Type 0} → (Graph → A → Answer → Graph → Type 0) → Graph → List A → Answer → Graph → Type 0
InOrder Step old [] answer new = (answer ≡ Ok tt) × (new ≡ old)
InOrder Step old (a ∷ rest) answer new =
    (IsErr answer × Step old a answer new)
    ⊎ ((mid : Graph) × Step old a (Ok tt) mid × InOrder Step mid rest answer new)

-- Aliases an export of an instance and continues with the alias, unless aliasing fails.
abbrev pub AliasesAnd : Graph → NodeId → Name → (Graph → NodeId → Answer → Graph → Type 0) → Answer → Graph → Type 0
AliasesAnd old instance name Then answer new =
    ((e : AliasError) × Aliases old instance name (Err e) new × (answer ≡ Err (of_alias e)))
    ⊎ ((alias : NodeId) × (mid : Graph) × Aliases old instance name (Ok alias) mid × Then mid alias answer new)

-- Aliases the export of a match and sets the alias as the argument of the socket's node.
abbrev pub Wires : NodeId → NodeId → Graph → Match → Answer → Graph → Type 0
Wires plug socket old m answer new = AliasesAnd old plug m.export (λ mid alias a n. Sets mid alias a n) answer new
  where
    Sets : Graph → NodeId → Answer → Graph → Type 0
    Sets mid alias a n = (r : Result (Unit {0}) InstantiationArgumentError) × SetsArgument mid socket m.import alias r n × (a ≡ answered of_argument r)

-- Aliases an export of the socket's node and exports the alias under the same name.
abbrev pub PassesOn : NodeId → Graph → Name → Answer → Graph → Type 0
PassesOn socket old name answer new = AliasesAnd old socket name (λ mid alias a n. ExportsIt mid alias a n) answer new
  where
    ExportsIt : Graph → NodeId → Answer → Graph → Type 0
    ExportsIt mid alias a n = (r : Result (Unit {0}) ExportError) × Exports mid alias name r n × (a ≡ answered of_export r) × IsSome (node_at mid alias)

-- Instantiates a plug and wires its matches.
abbrev pub PlugsIn : NodeId → Graph → PlugMatches → Answer → Graph → Type 0
PlugsIn socket old p answer new =
    ((answer ≡ Err OutOfMemory) × (new ≡ old))
    ⊎ ((node : NodeId) × (mid : Graph) × Instantiates old p.plug (Ok node) mid × InOrder (Wires node socket) mid p.matches answer new)

-- Without a plug that is plugged in the result is `NoPlugHappened`; otherwise each export of the socket is exported.
abbrev pub Ends : NodeId → List Name → Graph → List PlugMatches → Answer → Graph → Type 0
Ends node exports old [] answer new = (answer ≡ Err NoPlugHappened) × (new ≡ old)
Ends node exports old (p ∷ ps) answer new = InOrder (PassesOn node) old exports answer new

-- Plugs each plug into the socket's node in order, and exports these exports of the node.
abbrev pub PlugsAndExports : NodeId → List Name → Graph → List PlugMatches → Answer → Graph → Type 0
PlugsAndExports node exports old ps answer new =
    (IsErr answer × InOrder (PlugsIn node) old ps answer new)
    ⊎ ((mid : Graph) × InOrder (PlugsIn node) old ps (Ok tt) mid × Ends node exports mid ps answer new)

-- Instantiates the socket, plugs in each plug in order, and exports the socket's exports.
abbrev pub Plugs : Graph → PackageId → List PlugMatches → Answer → Graph → Type 0
Plugs old socket ps answer new =
    ((answer ≡ Err OutOfMemory) × (new ≡ old))
    ⊎ ((node : NodeId) × (made : Graph) × Instantiates old socket (Ok node) made × PlugsAndExports node (names_of (exports_of_package old socket)) made ps answer new)

-- Memory runs out before the matches are found: nothing changes, or only the socket is instantiated.
abbrev pub RunsOutMatching : Graph → PackageId → Answer → Graph → Type 0
RunsOutMatching old socket answer new = (answer ≡ Err OutOfMemory) × ((new ≡ old) ⊎ ((node : NodeId) × Instantiates old socket (Ok node) new))

-- `plug`: instantiates the socket, finds the matches of all plugs, and wires those that win.
--
-- What the steps before an error added remains.
abbrev pub PlugsAll : Graph → List PackageId → PackageId → Answer → Graph → Type 0
PlugsAll old plugs socket answer new =
    RunsOutMatching old socket answer new
    ⊎ ((all : List PlugMatches) × AreAllMatches old socket plugs all × Plugs old socket (wired [] all) answer new)

-- Types and packages are unchanged, and each node remains with its item and package.
pub record Keeps (old new : Graph) : Type 0 where
  pub types : new.types ≡ old.types
  pub slots : new.slots ≡ old.slots
  pub nodes : (n : NodeId) → IsSome (node_at old n) → IsSome (node_at new n)
  pub same : (n : NodeId) (x y : GraphNode) → node_at old n ≡ Some x → node_at new n ≡ Some y → (y.item_kind ≡ x.item_kind) × (y.owner ≡ x.owner)
