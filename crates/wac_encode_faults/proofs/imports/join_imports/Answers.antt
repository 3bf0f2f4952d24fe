use Rattle.std.proofs.Common.{arith, Err, ap}
use Rattle.wac_types_collection.proofs.lemmas.wide.Members.{at_in}
use Rattle.wac_encode_faults.proofs.Joined.{joined_first, joined_next, joined_all, joined_twice, handed}
use Rattle.wac_encode_faults.proofs.imports.join_imports.Goals as goal

pub loop-i-init : goal.loop-i-init
loop-i-init c = joined_first c.args.types.now c.args.imports.now c.args.additional.now c.in-Ok.all c.in-Ok.ensures

pub add_under_id-requires : goal.add_under_id-requires
add_under_id-requires c = c.requires c.id_at-id.result (at_in c.args.additional.now c.loop-i.i c.id_at-id.result c.id_at-id.ensures)

pub loop-i-preserved : goal.loop-i-preserved
loop-i-preserved c =
    joined_next c.args.types.now c.args.imports.now c.args.additional.now c.loop-i.i c.id_at-id.result c.loop-i.all c.add_under_id.new.all c.id_at-id.ensures c.loop-i.invariant c.in_ok-add_under_id.ensures.joined

pub returns-clause-joined : goal.returns-clause-joined
returns-clause-joined c =
    let past = c.loop-i-test.false in
    joined_all c.args.types.now c.args.imports.now c.args.additional.now c.loop-i.i c.loop-i.all (omega (arith, past)) c.loop-i.invariant

pub returns-in_err-add_under_id-clause-name_twice : goal.returns-in_err-add_under_id-clause-name_twice
returns-in_err-add_under_id-clause-name_twice c is once =
    joined_twice c.args.types.now c.args.imports.now c.args.additional.now c.loop-i.i c.id_at-id.result c.loop-i.all c.id_at-id.ensures c.loop-i.invariant (c.in_err-add_under_id.ensures.name_twice (ap Err (handed c.from_residual.result _ _ c.from_residual.ensures.1 is))) once
