use Rattle.std.proofs.Common.{arith}
use Rattle.wac_types_collection.proofs.lemmas.wide.Members.{at_in}
use Rattle.wac_encode_interfaces.specs.private.Worlds.{written_in}
use Rattle.wac_encode_interfaces.proofs.WorldsAhead.{none-written, first-none, first-inner, first-next, first-all}
use Rattle.wac_encode_interfaces.proofs.DefinitionCosts.{none-sizes}
use Rattle.wac_encode_interfaces.proofs.Heavy.{heavy-among}
use Rattle.wac_encode_interfaces.proofs.Answered.{exit-large, large-of}
use Rattle.wac_encode_interfaces.proofs.ahead.write_worlds.Goals as goal

pub loop-i-init : goal.loop-i-init
loop-i-init c = record {
  written = none-written c.args.types.now (written_in c.new-written.result) c.new-written.ensures;
  sizes = none-sizes c.args.types.now (written_in c.new-written.result) c.new-written.ensures;
  first = first-none c.args.types.now (written_in c.new-written.result) c.args.order.now;
}

pub add_world-requires-clause-clean : goal.add_world-requires-clause-clean
add_world-requires-clause-clean c = c.requires.clean c.type_at-ty.result (at_in c.args.order.now c.loop-i.i c.type_at-ty.result c.type_at-ty.ensures)

pub add_world-requires-clause-inner : goal.add_world-requires-clause-inner
add_world-requires-clause-inner c = first-inner c.args.types.now (written_in c.loop-i.written) c.args.order.now c.loop-i.i c.type_at-ty.result c.requires.sorted c.type_at-ty.ensures c.loop-i.invariant.first

pub loop-i-preserved : goal.loop-i-preserved
loop-i-preserved c = record {
  written = c.in_ok-add_world.ensures.written;
  sizes = c.in_ok-add_world.ensures.sizes;
  first = first-next c.args.types.now (written_in c.loop-i.written) (written_in c.add_world.new.written) c.args.order.now c.loop-i.i c.type_at-ty.result c.type_at-ty.ensures c.in_ok-add_world.ensures.kept c.in_ok-add_world.ensures.there c.loop-i.invariant.first;
}

pub returns : goal.returns
returns c =
    let past = c.loop-i-test.false in
    record {
      written = c.loop-i.invariant.written;
      small = λ h. absurd h;
      sizes = c.loop-i.invariant.sizes;
      there = first-all c.args.types.now (written_in c.loop-i.written) c.args.order.now c.loop-i.i (omega (arith, past)) c.loop-i.invariant.first;
    }

pub returns-in_err-add_world-clause-small : goal.returns-in_err-add_world-clause-small
returns-in_err-add_world-clause-small c =
    λ h. heavy-among c.args.types.now c.args.order.now c.loop-i.i c.type_at-ty.result c.type_at-ty.ensures (c.in_err-add_world.ensures.small (large-of _ (exit-large _ c.from_residual.result c.from_residual.ensures.1 h)))
