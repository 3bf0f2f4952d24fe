-- The exports of the socket: the first that `export` refuses is what is answered, and no other fault.
use Rattle.std.proofs.Common.{◌≡◌, ℕ, cond, false, List, [], ◌∷◌, ◌++◌, refl, ap, ◌∙◌, sym, subst, Option, Some, None, Result, Ok, Err, IfSome, IsErr, IsSome, is_some, ◌⊎◌, inl, inr}
use Rattle.std.specs.Prelude.{IsSomeAnd}
use Rattle.std.specs.FinMap as map
use Rattle.std.specs.List.{AllByRecursion}
use Rattle.std.proofs.lemmas.Bool.{false≢true}
use Rattle.wac_types_shapes.specs.primitives.Name.{Name, same_name, find_name}
use Rattle.wac_types_shapes.specs.shapes.Named.{named_at, names_of, NoNameTwice}
use Rattle.wac_types_shapes.proofs.lemmas.shapes.Names.{none_behind, same_name-sym}
use Rattle.wac_types_shapes.specs.declared.shapes.component.InterfaceId.{InterfaceId}
use Rattle.wac_types_shapes.specs.declared.shapes.component.ItemKind.{ItemKind}
use Rattle.wac_types_collection.specs.collection.Collection.{Collection, interface_exports}
use Rattle.wac_types_collection.specs.collection.Package.{PackageParts}
use Rattle.wac_edges.specs.declared.node.NodeId.{NodeId}
use Rattle.wac_graph_model.specs.declared.nodes.errors.AliasError.{AliasError}
use Rattle.wac_graph_model.specs.declared.nodes.errors.AliasError.TheVariants as alias_error
use Rattle.wac_graph_model.specs.declared.nodes.errors.ExportError.{ExportError}
use Rattle.wac_graph_model.specs.declared.nodes.errors.ExportError.TheVariants as export_error
use Rattle.wac_graph_model.specs.declared.nodes.errors.InstantiationArgumentError.{InstantiationArgumentError}
use Rattle.wac_graph_model.specs.declared.nodes.packages.PackageId.{PackageId}
use Rattle.wac_graph_model.specs.nodes.ExternName.{IsExportName, IsExportDecided}
use Rattle.wac_graph_model.specs.nodes.Graph.{Graph, GraphNode, node_at, package_at, export_at}
use Rattle.wac_graph_model.specs.nodes.Sound.{IsSound}
use Rattle.wac_graph_model.specs.nodes.Steps.{Instantiates, instance_node, Aliases, AliasesOf, GivesAlias, export_named, Exports}
use Rattle.wac_graph.specs.declared.plugs.errors.PlugError.TheVariants.{GraphError, NoPlugHappened, OutOfMemory}
use Rattle.wac_graph.specs.declared.plugs.errors.PlugFault.{PlugFault}
use Rattle.wac_graph.specs.declared.plugs.errors.PlugFault.TheVariants.{Alias, Argument, Export}
use Rattle.wac_graph.specs.plugs.Matching.{PlugMatches, exports_of_package}
use Rattle.wac_graph.specs.plugs.Outcome.{IsRefusedExport, IsFirstRefused, IsFirstFault, IsExportRefused}
use Rattle.wac_graph.specs.plugs.Plugging.{Answer, answered, InOrder, PassesOn, PlugsIn, Plugs, Ends}
use Rattle.wac_graph.specs.plugs.Refusals.{of_alias, of_export}
use Rattle.wac_graph.proofs.lemmas.plugs.Alike.{exports-alike, names-alike}
use Rattle.wac_graph.proofs.lemmas.plugs.Passing.{IsInstanceAt, answer-of, one-error, not-ok, passes-keep, never-alias, are-exports}
use Rattle.wac_graph.proofs.lemmas.plugs.Steps.{some-of, instance-keeps}
use Rattle.wac_graph.proofs.lemmas.plugs.Nothing.{nothing-said}
use Rattle.wac_graph.proofs.lemmas.plugs.Plugged.{ArePluggable, begins, plugs-say, the-node}

-- ---- what one export answers
-- an alias leaves the exports
alias-given : (old new : Graph) (id : NodeId) (n : GraphNode) (position : ℕ) (kind : ItemKind) (alias : NodeId) → GivesAlias old id n position kind alias new → new.exports ≡ old.exports
alias-given old new id n position kind alias (inl h) = ap (λ (g : Graph). g.exports) h.1
alias-given old new id n position kind alias (inr h) = ap (λ (g : Graph). g.exports) h.3

alias-exports : (old new : Graph) (id : NodeId) (name : Name) (alias : NodeId) → IsSome (node_at old id) → Aliases old id name (Ok alias) new → new.exports ≡ old.exports
alias-exports old new id name alias there h =
    let n = some-of (node_at old id) there in
    let step : AliasesOf old id n.0 name (Ok alias) new = subst (λ o. IfSome o (λ n. AliasesOf old id n name (Ok alias) new)) n.1 h in
    by n.0 (export_named old n.0 name) step.1
  where
    by : (n : GraphNode) (o : Option (ℕ × ItemKind)) → IsSomeAnd o (λ e. GivesAlias old id n e.0 e.1 alias new) → new.exports ≡ old.exports
    by n None w = absurd w
    by n (Some e) w = alias-given old new id n e.0 e.1 alias w

alias-is-no-export : (f : AliasError) (e : ExportError) → GraphError (Export e) ≡ of_alias f → ⊥
alias-is-no-export (alias_error.NodeIsNotAnInstance node kind) e h = cc
alias-is-no-export (alias_error.InstanceMissingExport node text) e h = cc
alias-is-no-export alias_error.OutOfMemory e h = cc

same-refusal : (e f : ExportError) → GraphError (Export e) ≡ GraphError (Export f) → e ≡ f
same-refusal e f h = cc

not-memory : (e : ExportError) → GraphError (Export e) ≡ OutOfMemory → ⊥
not-memory e h = cc

-- an export that is made
passes-ok : (s : NodeId) (g new : Graph) (name : Name) → IsSome (node_at g s) → PassesOn s g name (Ok tt) new → (export_at g name ≡ None) × IsExportName name × ((a : NodeId) × (new.exports ≡ g.exports ++ (name, a) ∷ []))
passes-ok s g new name there (inl h) = absurd (not-ok (of_alias h.0) (sym h.2))
passes-ok s g new name there (inr h) = by h.3.0 h.3.1 h.3.2 where
  same : (h.1).exports ≡ g.exports
  same = alias-exports g h.1 s name h.0 there h.2

  by : (r : Result (Unit {0}) ExportError) → Exports h.1 h.0 name r new → Ok tt ≡ answered of_export r → (export_at g name ≡ None) × IsExportName name × ((a : NodeId) × (new.exports ≡ g.exports ++ (name, a) ∷ []))
  by (Ok tt) step is =
      let n = some-of (node_at h.1 h.0) h.3.3 in
      let made : new ≡ record h.1 { nodes = map.insert (h.1).nodes (h.0).0 (record (n.0) { export_name = Some name }); exports = (h.1).exports ++ (name, h.0) ∷ [] } =
      subst (λ o. IfSome o (λ n. new ≡ record h.1 { nodes = map.insert (h.1).nodes (h.0).0 (record n { export_name = Some name }); exports = (h.1).exports ++ (name, h.0) ∷ [] })) n.1 step.2 in
      (ap (λ xs. find_name xs name) (sym same) ∙ step.0, step.1, (h.0, ap (λ (k : Graph). k.exports) made ∙ ap (λ xs. xs ++ (name, h.0) ∷ []) same))
  by (Err e) step is = absurd (not-ok (of_export e) (sym is))

-- an export that is refused
passes-refused : (s : NodeId) (g new : Graph) (name : Name) (e : ExportError) → IsSome (node_at g s) → PassesOn s g name (answer-of (GraphError (Export e))) new → IsRefusedExport g name e
passes-refused s g new name e there (inl h) = absurd (alias-is-no-export h.0 e (one-error (GraphError (Export e)) (of_alias h.0) h.2))
passes-refused s g new name e there (inr h) = by h.3.0 h.3.1 h.3.2 where
  same : (h.1).exports ≡ g.exports
  same = alias-exports g h.1 s name h.0 there h.2

  refused : (f : ExportError) → Exports h.1 h.0 name (Err f) new → GraphError (Export e) ≡ of_export f → IsRefusedExport g name e
  refused (export_error.ExportAlreadyExists text node) step is =
      subst (IsRefusedExport g name) (sym (same-refusal e (export_error.ExportAlreadyExists text node) is)) (step.1, ap (λ xs. find_name xs name) (sym same) ∙ step.2)
  refused (export_error.InvalidExportName text source) step is =
      subst (IsRefusedExport g name) (sym (same-refusal e (export_error.InvalidExportName text source) is)) (step.1, ap (λ xs. find_name xs name) (sym same) ∙ step.2, step.3)
  refused export_error.OutOfMemory step is = absurd (not-memory e is)

  by : (r : Result (Unit {0}) ExportError) → Exports h.1 h.0 name r new → answer-of (GraphError (Export e)) ≡ answered of_export r → IsRefusedExport g name e
  by (Ok u) step is = absurd (not-ok (GraphError (Export e)) is)
  by (Err f) step is = refused f step (one-error (GraphError (Export e)) (of_export f) is)

-- ---- names among the exports of one graph as among those of another
abbrev AreExportedAlike : Graph → Graph → List Name → Type 0
AreExportedAlike old g names = AllByRecursion (λ name. export_at g name ≡ export_at old name) names

all-alike : (old g : Graph) → g.exports ≡ old.exports → (names : List Name) → AreExportedAlike old g names
all-alike old g same [] = tt
all-alike old g same (name ∷ names) = (ap (λ xs. find_name xs name) same, all-alike old g same names)

-- a new name behind the others is that of no other
find-behind : {V : Type 0} (es : List (Name × V)) (m n : Name) (v : V) → same_name m n ≡ false → find_name (es ++ (n, v) ∷ []) m ≡ find_name es m
find-behind [] m n v f = ap (λ b. cond b (Some v) None) f
find-behind (e ∷ es) m n v f = ap (λ o. cond (same_name m e.0) (Some e.1) o) (find-behind es m n v f)

alike-after : (old g new : Graph) (name : Name) (a : NodeId) (es : List (Name × ItemKind)) → find_name es name ≡ None → new.exports ≡ g.exports ++ (name, a) ∷ [] → AreExportedAlike old g (names_of es) → AreExportedAlike old new (names_of es)
alike-after old g new name a [] none is h = tt
alike-after old g new name a (e ∷ es) none is h =
    let behind = none_behind e es name none in
    (ap (λ xs. find_name xs e.0) is ∙ find-behind g.exports e.0 name a (same_name-sym name e.0 behind.0) ∙ h.0, alike-after old g new name a es behind.1 is h.1)

refused-alike : (old g : Graph) (name : Name) (e : ExportError) → export_at g name ≡ export_at old name → IsRefusedExport g name e → IsRefusedExport old name e
refused-alike old g name (export_error.ExportAlreadyExists text node) same h = (h.0, sym same ∙ h.1)
refused-alike old g name (export_error.InvalidExportName text source) same h = (h.0, sym same ∙ h.1, h.2)
refused-alike old g name export_error.OutOfMemory same h = absurd h

some-is-no-none : {A : Type 0} (o : Option A) (a : A) → o ≡ Some a → o ≡ None → ⊥
some-is-no-none o a is none = cc

-- a name that may be exported is not refused
not-refused : ((text : Name) → IsExportDecided text) → (g : Graph) (name : Name) (e : ExportError) → export_at g name ≡ None → IsExportName name → IsRefusedExport g name e → ⊥
not-refused decided g name (export_error.ExportAlreadyExists text node) free may h = some-is-no-none (export_at g name) node h.1 free
not-refused decided g name (export_error.InvalidExportName text source) free may h = (decided name).apart source may h.2
not-refused decided g name export_error.OutOfMemory free may h = h

-- ---- what the exports answer, one after another
module _ (s : NodeId) (i : InterfaceId) (old : Graph) (e : ExportError) where
  first-refused : (es : List (Name × ItemKind)) (g new : Graph) → IsInstanceAt g s i → NoNameTwice es → AreExportedAlike old g (names_of es) → InOrder (PassesOn s) g (names_of es) (answer-of (GraphError (Export e))) new → IsFirstRefused old (names_of es) e
  first-refused [] g new w once alike h = absurd (not-ok (GraphError (Export e)) h.0)
  first-refused (x ∷ es) g new w once alike (inl h) = inl (refused-alike old g x.0 e alike.0 (passes-refused s g new x.0 e (ap is_some w.there) h.1))
  first-refused (x ∷ es) g new w once alike (inr h) =
      let made = passes-ok s g h.0 x.0 (ap is_some w.there) h.1 in
      let kept = passes-keep s i g h.0 x.0 w h.1 in
      inr (sym alike.0 ∙ made.0, made.1, first-refused es h.0 new kept.0 once.1 (alike-after old g h.0 x.0 made.2.0 es once.0 made.2.1 alike.1) h.2)

  never-ok : ((text : Name) → IsExportDecided text) → (es : List (Name × ItemKind)) (g new : Graph) → IsInstanceAt g s i → NoNameTwice es → AreExportedAlike old g (names_of es) → IsFirstRefused old (names_of es) e → InOrder (PassesOn s) g (names_of es) (Ok tt) new → ⊥
  never-ok decided [] g new w once alike refused h = refused
  never-ok decided (x ∷ es) g new w once alike refused (inl h) = false≢true h.0
  never-ok decided (x ∷ es) g new w once alike refused (inr h) =
      let made = passes-ok s g h.0 x.0 (ap is_some w.there) h.1 in
      elim refused [
        | inl first ↦ not-refused decided old x.0 e (sym alike.0 ∙ made.0) made.1 first
        | inr later ↦ never-ok decided es h.0 new (passes-keep s i g h.0 x.0 w h.1).0 once.1 (alike-after old g h.0 x.0 made.2.0 es once.0 made.2.1 alike.1) later.2 h.2
      ]

-- ---- no export answers a fault of an argument
alias-argument : (e : AliasError) (f : InstantiationArgumentError) → of_alias e ≡ GraphError (Argument f) → ⊥
alias-argument (alias_error.NodeIsNotAnInstance node kind) f h = cc
alias-argument (alias_error.InstanceMissingExport node text) f h = cc
alias-argument alias_error.OutOfMemory f h = cc

export-argument : (e : ExportError) (f : InstantiationArgumentError) → of_export e ≡ GraphError (Argument f) → ⊥
export-argument (export_error.ExportAlreadyExists text node) f h = cc
export-argument (export_error.InvalidExportName text source) f h = cc
export-argument export_error.OutOfMemory f h = cc

passed-on : (socket : NodeId) (old new : Graph) (name : Name) (f : InstantiationArgumentError) → PassesOn socket old name (answer-of (GraphError (Argument f))) new → ⊥
passed-on socket old new name f (inl h) = alias-argument h.0 f (sym (one-error (GraphError (Argument f)) (of_alias h.0) h.2))
passed-on socket old new name f (inr h) = by h.3.0 h.3.2 where
  by : (r : Result (Unit {0}) ExportError) → answer-of (GraphError (Argument f)) ≡ answered of_export r → ⊥
  by (Ok a) is = cc
  by (Err e) is = export-argument e f (sym (one-error (GraphError (Argument f)) (of_export e) is))

all-passed-on : (socket : NodeId) (names : List Name) (old new : Graph) (f : InstantiationArgumentError) → InOrder (PassesOn socket) old names (answer-of (GraphError (Argument f))) new → ⊥
all-passed-on socket [] old new f h = not-ok (GraphError (Argument f)) h.0
all-passed-on socket (name ∷ names) old new f (inl h) = passed-on socket old new name f h.1
all-passed-on socket (name ∷ names) old new f (inr h) = all-passed-on socket names h.0 new f h.2

-- ---- the whole
abbrev pub fault-of : PlugFault → Answer
fault-of f = Err (GraphError f)

abbrev all-done : Answer
all-done = Ok tt

fault-is-no-memory : (f : PlugFault) → fault-of f ≡ Err OutOfMemory → ⊥
fault-is-no-memory f h = cc

fault-is-no-none : (f : PlugFault) → fault-of f ≡ Err NoPlugHappened → ⊥
fault-is-no-none f h = cc

fault-is-no-ok : (f : PlugFault) → fault-of f ≡ Ok tt → ⊥
fault-is-no-ok f h = cc

module _ (old : Graph) (socket : PackageId) (q : PackageParts) (sound : IsSound old) (registered : package_at old socket ≡ Some q) (once : NoNameTwice (exports_of_package old socket)) where
  there : IsSome (package_at old socket)
  there = ap is_some registered

  -- where all plugs are plugged in the socket's node is there, and the exports and types are as they were
  plugged-in : (s : NodeId) (made mid : Graph) (ps : List PlugMatches) → ArePluggable old q [] ps → Instantiates old socket (Ok s) made → InOrder (PlugsIn s) made ps (Ok tt) mid
      → IsInstanceAt mid s q.instance_type × (mid.exports ≡ old.exports) × (mid.types ≡ old.types)
  plugged-in s made mid ps can step order =
      let kept = (instance-keeps old made socket s there step).0 in
      elim (plugs-say s socket q old ps made mid [] (Ok tt) kept.types kept.slots can (begins old made socket q s sound registered step) order) [
        | inl memory ↦ absurd (not-ok OutOfMemory (sym memory))
        | inr done ↦ (
          record { node = instance_node socket q; there = done.1.1.there; kind = refl },
          done.1.3 ∙ ap (λ (k : Graph). k.exports) (the-node old made socket q s registered step).2,
          done.1.2,
        )
      ]

  -- what a fault says that the socket's exports answer
  faults : (f : PlugFault) (s : NodeId) (mid new : Graph) → IsInstanceAt mid s q.instance_type → mid.exports ≡ old.exports → mid.types ≡ old.types
      → InOrder (PassesOn s) mid (names_of (exports_of_package old socket)) (fault-of f) new → IsFirstFault old (names_of (exports_of_package old socket)) f
  faults (Export e) s mid new at exports types end = first-refused s q.instance_type old e (exports_of_package old socket) mid new at once (all-alike old mid exports (names_of (exports_of_package old socket))) end
  faults (Argument f) s mid new at exports types end = absurd (all-passed-on s (names_of (exports_of_package old socket)) mid new f end)
  faults (Alias f) s mid new at exports types end =
      let names = names_of (exports_of_package old socket) in
      let listed = names-alike (exports_of_package old socket) (interface_exports old.types q.instance_type) names (exports-alike old socket q sound registered) (are-exports (exports_of_package old socket)) in
      absurd (never-alias s q.instance_type f names mid new at (subst (λ (c : Collection). AllByRecursion (λ name. named_at 0 name (interface_exports c q.instance_type) ≡ None → ⊥) names) (sym types) listed) end)

  pub fault-said : (new : Graph) (ps : List PlugMatches) (f : PlugFault) → ArePluggable old q [] ps → Plugs old socket ps (fault-of f) new → IsFirstFault old (names_of (exports_of_package old socket)) f × (ps ≡ [] → ⊥)
  fault-said new ps f can (inl h) = absurd (fault-is-no-memory f h.0)
  fault-said new ps f can (inr h) = by h.3 where
    by : (IsErr (fault-of f) × InOrder (PlugsIn h.0) h.1 ps (fault-of f) new)
        ⊎ ((mid : Graph) × InOrder (PlugsIn h.0) h.1 ps (Ok tt) mid × Ends h.0 (names_of (exports_of_package old socket)) mid ps (fault-of f) new)
        → IsFirstFault old (names_of (exports_of_package old socket)) f × (ps ≡ [] → ⊥)
    by (inl refused) =
        let kept = (instance-keeps old h.1 socket h.0 there h.2).0 in
        elim (plugs-say h.0 socket q old ps h.1 new [] (fault-of f) kept.types kept.slots can (begins old h.1 socket q h.0 sound registered h.2) refused.1) [
          | inl memory ↦ absurd (fault-is-no-memory f memory)
          | inr done ↦ absurd (fault-is-no-ok f done.0)
        ]
    by (inr w) = ended ps can w.1 w.2 where
      ended : (ps : List PlugMatches) → ArePluggable old q [] ps → InOrder (PlugsIn h.0) h.1 ps (Ok tt) w.0 → Ends h.0 (names_of (exports_of_package old socket)) w.0 ps (fault-of f) new
          → IsFirstFault old (names_of (exports_of_package old socket)) f × (ps ≡ [] → ⊥)
      ended [] can order end = absurd (fault-is-no-none f end.0)
      ended (p ∷ ps) can order end =
          let begun = plugged-in h.0 h.1 w.0 (p ∷ ps) can h.2 order in
          (faults f h.0 w.0 new begun.0 begun.1 begun.2 end, (λ none. cc))

  -- where `export` refuses a name of the socket's exports, `plug` is refused
  refused-is-no-ok : (new : Graph) (ps : List PlugMatches) (e : ExportError) → ArePluggable old q [] ps → ((text : Name) → IsExportDecided text) → IsFirstRefused old (names_of (exports_of_package old socket)) e → Plugs old socket ps (Ok tt) new → ⊥
  refused-is-no-ok new ps e can decided refused (inl h) = not-ok OutOfMemory (sym h.0)
  refused-is-no-ok new ps e can decided refused (inr h) = by h.3 where
    by : (IsErr all-done × InOrder (PlugsIn h.0) h.1 ps (Ok tt) new) ⊎ ((mid : Graph) × InOrder (PlugsIn h.0) h.1 ps (Ok tt) mid × Ends h.0 (names_of (exports_of_package old socket)) mid ps (Ok tt) new) → ⊥
    by (inl h) = false≢true h.0
    by (inr w) = ended ps can w.1 w.2 where
      ended : (ps : List PlugMatches) → ArePluggable old q [] ps → InOrder (PlugsIn h.0) h.1 ps (Ok tt) w.0 → Ends h.0 (names_of (exports_of_package old socket)) w.0 ps (Ok tt) new → ⊥
      ended [] can order end = not-ok NoPlugHappened (sym end.0)
      ended (p ∷ ps) can order end =
          let begun = plugged-in h.0 h.1 w.0 (p ∷ ps) can h.2 order in
          never-ok h.0 q.instance_type old e decided (exports_of_package old socket) w.0 new begun.0 once (all-alike old w.0 begun.1 (names_of (exports_of_package old socket))) refused end

  pub says-refused : (new : Graph) (ps : List PlugMatches) (r : Answer) → ArePluggable old q [] ps → ((text : Name) → IsExportDecided text) → Plugs old socket ps r new → (e : ExportError) → IsFirstRefused old (names_of (exports_of_package old socket)) e
      → (ps ≡ [] → ⊥) → IsExportRefused r ⊎ (r ≡ Err OutOfMemory)
  says-refused new ps (Ok tt) can decided h e refused some = absurd (refused-is-no-ok new ps e can decided refused h)
  says-refused new ps (Err OutOfMemory) can decided h e refused some = inr refl
  says-refused new ps (Err NoPlugHappened) can decided h e refused some = absurd (some (nothing-said old new socket ps h))
  says-refused new ps (Err (GraphError (Alias f))) can decided h e refused some = absurd ((fault-said new ps (Alias f) can h).0)
  says-refused new ps (Err (GraphError (Argument f))) can decided h e refused some = absurd ((fault-said new ps (Argument f) can h).0)
  says-refused new ps (Err (GraphError (Export f))) can decided h e refused some = inl tt
