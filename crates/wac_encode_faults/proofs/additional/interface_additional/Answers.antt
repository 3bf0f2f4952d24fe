use Rattle.std.proofs.lemmas.Result.{IfOk-weaker}
use Rattle.wac_types_collection.specs.wide.Wide.{wide_uses}
use Rattle.wac_encode_faults.proofs.Needed.{interface_reached, wide_once_there}
use Rattle.wac_encode_faults.proofs.UsedIds.{ids_there, interface_named}
use Rattle.wac_encode_faults.proofs.additional.interface_additional.Goals as goal

pub reach_uses-requires : goal.reach_uses-requires
reach_uses-requires c = wide_once_there c.args.types.now c.law.ensures c.args.id c.in_ok-wide.wide.keys c.in_ok-wide.ensures

pub returns-clause-interfaces : goal.returns-clause-interfaces
returns-clause-interfaces c =
    IfOk-weaker c.reach_uses.result _ _
    (λ s all. interface_reached c.args.types.now (wide_uses c.args.types.now c.args.id) c.in_ok-wide.wide.keys s.keys c.in_ok-wide.ensures all) c.reach_uses.ensures

pub returns-clause-there : goal.returns-clause-there
returns-clause-there c =
    IfOk-weaker c.reach_uses.result _ _
    (λ s all. ids_there c.args.types.now s.keys (interface_named c.args.types.now c.law.ensures c.uses_law.ensures c.args.id s.keys
    (interface_reached c.args.types.now (wide_uses c.args.types.now c.args.id) c.in_ok-wide.wide.keys s.keys c.in_ok-wide.ensures all))) c.reach_uses.ensures

pub returns-clause-named : goal.returns-clause-named
returns-clause-named c =
    IfOk-weaker c.reach_uses.result _ _
    (λ s all. interface_named c.args.types.now c.law.ensures c.uses_law.ensures c.args.id s.keys
    (interface_reached c.args.types.now (wide_uses c.args.types.now c.args.id) c.in_ok-wide.wide.keys s.keys c.in_ok-wide.ensures all)) c.reach_uses.ensures
