use Rattle.std.proofs.Common.{◌≡◌, List, [], map, Err, IfOk, ap, ◌∙◌, sym, subst, refl, inl, inr}
use Rattle.std.specs.Prelude.{slice_get}
use Rattle.wac_graph_model.specs.declared.nodes.packages.PackageId.{PackageId}
use Rattle.wac_types_shapes.specs.shapes.Named.{names_of}
use Rattle.wac_graph.specs.declared.plugs.errors.PlugError.TheVariants.{OutOfMemory}
use Rattle.wac_graph.specs.plugs.Matching.{PlugMatches, AreAllMatches, NothingMatches, exports_of_package}
use Rattle.wac_graph.specs.plugs.Outcome.{IsFirstFault}
use Rattle.wac_graph.specs.plugs.Plugging.{PlugsAll, answer_of}
use Rattle.wac_graph.specs.plugs.Precedence.{passed_over, named_by}
use Rattle.wac_graph.proofs.lemmas.plugs.Order.{exit-is}
use Rattle.wac_graph.proofs.graph.CompositionGraph.plug.Goals as goal

pub plug-requires-clause-plugs : goal.plug-requires-clause-plugs
plug-requires-clause-plugs c = λ i id at. c.requires.plugs i id (ap (λ (l : List PackageId). slice_get l i) (sym c.in_ok-all.ensures.items) ∙ at)

pub returns-in_err-all-clause-step : goal.returns-in_err-all-clause-step
returns-in_err-all-clause-step c = inl (ap answer_of (exit-is c.from_residual.result OutOfMemory c.from_residual.ensures.1), inl refl)

pub returns-in_err-all-clause-refused : goal.returns-in_err-all-clause-refused
returns-in_err-all-clause-refused c = λ e first some. inr (exit-is c.from_residual.result OutOfMemory c.from_residual.ensures.1)

pub returns-in_err-all-clause-only_refused : goal.returns-in_err-all-clause-only_refused
returns-in_err-all-clause-only_refused c = λ fault is.
    let other : c.from_residual.result ≡ Err OutOfMemory = exit-is c.from_residual.result OutOfMemory c.from_residual.ensures.1 in
    cc

pub returns-in_err-all-clause-nothing : goal.returns-in_err-all-clause-nothing
returns-in_err-all-clause-nothing c = λ none. inr (exit-is c.from_residual.result OutOfMemory c.from_residual.ensures.1)

pub returns-in_err-all-clause-only_nothing : goal.returns-in_err-all-clause-only_nothing
returns-in_err-all-clause-only_nothing c = λ is.
    let other : c.from_residual.result ≡ Err OutOfMemory = exit-is c.from_residual.result OutOfMemory c.from_residual.ensures.1 in
    cc

pub returns-clause-step : goal.returns-clause-step
returns-clause-step c = subst (λ (l : List PackageId). PlugsAll c.args.self.now l c.args.socket (answer_of c.plug.result) c.plug.new.graph) c.in_ok-all.ensures.items c.plug.ensures.step

pub returns-clause-passed_over : goal.returns-clause-passed_over
returns-clause-passed_over c =
    subst (λ (l : List PackageId). IfOk c.plug.result (λ passed. (all : List PlugMatches) → AreAllMatches c.args.self.now c.args.socket l all → map named_by passed.items ≡ passed_over [] all)) c.in_ok-all.ensures.items c.plug.ensures.passed_over

pub returns-clause-refused : goal.returns-clause-refused
returns-clause-refused c = λ e first some. c.plug.ensures.refused e first (λ none. some (subst (NothingMatches c.args.self.now c.args.socket) c.in_ok-all.ensures.items none))

pub returns-clause-only_refused : goal.returns-clause-only_refused
returns-clause-only_refused c = λ fault is.
    subst (λ (l : List PackageId). IsFirstFault c.args.self.now (names_of (exports_of_package c.args.self.now c.args.socket)) fault × (NothingMatches c.args.self.now c.args.socket l → ⊥)) c.in_ok-all.ensures.items (c.plug.ensures.only_refused fault is)

pub returns-clause-nothing : goal.returns-clause-nothing
returns-clause-nothing c = λ none. c.plug.ensures.nothing (subst (NothingMatches c.args.self.now c.args.socket) (sym c.in_ok-all.ensures.items) none)

pub returns-clause-only_nothing : goal.returns-clause-only_nothing
returns-clause-only_nothing c = λ is. subst (NothingMatches c.args.self.now c.args.socket) c.in_ok-all.ensures.items (c.plug.ensures.only_nothing is)
