use Rattle.std.proofs.Common.{refl, sym, subst, MatchOption}
use Rattle.wac_names.specs.Faults.{HasFault}
use Rattle.wac_graph_model.specs.nodes.ExternName.{IsImportName}
use Rattle.wac_graph_fields.proofs.ImportLemmas.{imported_already, not_imported}
use Rattle.wac_graph.specs.private.Inside.{fields_of}
use Rattle.wac_graph.proofs.graph.CompositionGraph.check_import.Goals as goal

pub returns-in-Some-clause-refused : goal.returns-in-Some-clause-refused
returns-in-Some-clause-refused c = λ _. (refl, c.in_ok-name.ensures.ok, rw (← c.self.view_is) (imported_already (fields_of c.self.inside) c.self.invariant c.args.name.now c.in-Some.other.now c.in-Some.ensures.value))

pub returns-in-Some-2-clause-refused : goal.returns-in-Some-2-clause-refused
returns-in-Some-2-clause-refused c = λ _. (
  refl,
  c.in_ok-name-2.ensures.ok,
  rw (← c.self.view_is) (not_imported (fields_of c.self.inside) c.self.invariant c.args.name.now (sym c.in_default.ensures.value)),
  subst (λ o. MatchOption o (IsImportName c.args.name.now) (HasFault c.args.name.now)) c.in-Some-2.is c.in_ok-source.ensures,
)

pub returns-clause-free : goal.returns-clause-free
returns-clause-free c = rw (← c.self.view_is) (not_imported (fields_of c.self.inside) c.self.invariant c.args.name.now (sym c.in_default.ensures.value))

pub returns-clause-valid : goal.returns-clause-valid
returns-clause-valid c = subst (λ o. MatchOption o (IsImportName c.args.name.now) (HasFault c.args.name.now)) c.in_default-2.is c.in_ok-source.ensures
