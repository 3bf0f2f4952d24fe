use Rattle.std.proofs.Common.{subst, sym}
use Rattle.wac_graph_fields.proofs.ArgumentLemmas.{can_be_given, has_instantiation}
use Rattle.wac_graph_fields.specs.private.Arguments.{HasImport}
use Rattle.wac_graph.proofs.FittingLemmas.{fits_named}
use Rattle.wac_graph.proofs.positions.set_argument_at.Goals as goal

pub import_name-requires-clause-import : goal.import_name-requires-clause-import
import_name-requires-clause-import c = let i = c.requires.import in (i.0, i.1, i.2)

pub check_unset-requires : goal.check_unset-requires
check_unset-requires c =
    let i = c.requires.import in
    let found = c.in_ok-name.ensures.found i.0 i.1 i.2 in
    (i.1, subst (λ n. HasImport c.args.graph.now c.args.instantiation n c.args.position i.1) (sym found.0) found.1)

pub give_argument-requires : goal.give_argument-requires
give_argument-requires c =
    let i = c.requires.import in
    let found = c.in_ok-name.ensures.found i.0 i.1 i.2 in
    can_be_given c.args.graph.now c.args.instantiation c.args.argument i.0 c.args.position i.1 found.1
    (fits_named c.args.graph.now c.args.instantiation c.args.argument i.0 c.args.position i.1 found.1 c.in-Ok.ensures.unset i.3) c.requires.argument

pub is_given-requires : goal.is_given-requires
is_given-requires c =
    let i = c.requires.import in
    let found = c.in_ok-name.ensures.found i.0 i.1 i.2 in
    has_instantiation c.args.graph.now c.args.instantiation i.0 c.args.position i.1 found.1
