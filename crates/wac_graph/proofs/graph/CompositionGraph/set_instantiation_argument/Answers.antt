use Rattle.std.proofs.Common.{Err, ap, subst, sym}
use Rattle.wac_graph_fields.proofs.ArgumentLemmas.{can_be_given, has_instantiation, out_of_memory}
use Rattle.wac_graph_model.proofs.lemmas.nodes.ValidLemmas.{valid_edges, valid_same}
use Rattle.wac_graph_model.specs.declared.nodes.errors.InstantiationArgumentError.TheVariants.{OutOfMemory}
use Rattle.wac_graph_model.specs.nodes.Steps.{SetsArgument}
use Rattle.wac_graph.proofs.CheckedLemmas.{handed_on}
use Rattle.wac_graph.proofs.graph.CompositionGraph.set_instantiation_argument.Goals as goal

pub is_given-requires : goal.is_given-requires
is_given-requires c = has_instantiation c.args.self.now c.args.instantiation c.args.argument_name.now c.in_ok-position.position c.in_ok-position.kind c.in_ok-position.ensures.found

pub give_argument-requires : goal.give_argument-requires
give_argument-requires c = can_be_given c.args.self.now c.args.instantiation c.args.argument c.args.argument_name.now c.in_ok-position.position c.in_ok-position.kind c.in_ok-position.ensures.found c.in_ok-check_argument.ensures.fits c.requires.argument

pub returns-clause-valid : goal.returns-clause-valid
returns-clause-valid c =
    let given = c.in_ok-give_argument.ensures.given in
    valid_edges c.args.self.now c.give_argument.new.self (ap (λ g. g.types) given) (ap (λ g. g.nodes) given) (ap (λ g. g.slots) given)

pub returns-in_err-give_argument-clause-step : goal.returns-in_err-give_argument-clause-step
returns-in_err-give_argument-clause-step c =
    handed_on (λ r. SetsArgument c.args.self.now c.args.instantiation c.args.argument_name.now c.args.argument r c.give_argument.new.self) c.from_residual-in_err-give_argument.result OutOfMemory c.from_residual-in_err-give_argument.ensures.1
    (subst (λ g. SetsArgument c.args.self.now c.args.instantiation c.args.argument_name.now c.args.argument (Err OutOfMemory) g) (sym c.in_err-give_argument.ensures.kept)
    (out_of_memory c.args.self.now c.args.instantiation c.args.argument c.args.argument_name.now c.in_ok-position.position c.in_ok-position.kind c.in_ok-position.ensures.found (c.in_ok-check_argument.ensures.fits.0 c.args.argument)))

pub returns-in_err-give_argument-clause-valid : goal.returns-in_err-give_argument-clause-valid
returns-in_err-give_argument-clause-valid c = valid_same c.args.self.now c.give_argument.new.self c.in_err-give_argument.ensures.kept
