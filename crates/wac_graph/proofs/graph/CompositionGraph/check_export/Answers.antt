use Rattle.std.proofs.Common.{refl, sym, subst, MatchOption}
use Rattle.wac_graph_model.specs.nodes.ExternName.{IsExportName, HasExportFault}
use Rattle.wac_graph_model.proofs.lemmas.nodes.NodeLemmas.{lookup_text}
use Rattle.wac_graph.proofs.graph.CompositionGraph.check_export.Goals as goal

pub returns-in-Some-clause-refused : goal.returns-in-Some-clause-refused
returns-in-Some-clause-refused c = λ _. (refl, c.in_ok-name.ensures.ok, rw (← c.self.view_is, lookup_text) (sym c.in-Some.ensures.value))

pub returns-in-Some-2-clause-refused : goal.returns-in-Some-2-clause-refused
returns-in-Some-2-clause-refused c = λ _. (
  refl,
  c.in_ok-name-2.ensures.ok,
  rw (← c.self.view_is, lookup_text) (sym c.in_default.ensures.value),
  subst (λ o. MatchOption o (IsExportName c.args.name.now) (HasExportFault c.args.name.now)) c.in-Some-2.is c.in_ok-source.ensures,
)

pub returns-clause-free : goal.returns-clause-free
returns-clause-free c = rw (← c.self.view_is, lookup_text) (sym c.in_default.ensures.value)

pub returns-clause-valid : goal.returns-clause-valid
returns-clause-valid c = subst (λ o. MatchOption o (IsExportName c.args.name.now) (HasExportFault c.args.name.now)) c.in_default-2.is c.in_ok-source.ensures
