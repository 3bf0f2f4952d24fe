use Rattle.std.proofs.Common.{ℕ, ◌≡◌, Some, slice_get, arith}
use Rattle.std.proofs.lemmas.Option.{slice_get-get_or}
use Rattle.wac_encode_scopes.specs.Contents.{side_of}
use Rattle.wac_encode_interfaces.specs.private.Worlds.{written_in}
use Rattle.wac_encode_interfaces.proofs.Sided.{position-below, so-far-first, so-far-may, so-far-more, so-far-all}
use Rattle.wac_encode_interfaces.proofs.SideCosts.{side-begun, side-ended, side-further, side-no-room}
use Rattle.wac_encode_interfaces.proofs.Answered.{exit-room, no-room-of}
use Rattle.wac_encode_interfaces.specs.private.Paid.{side_total}
use Rattle.wac_encode_interfaces.proofs.writer.TypeWriter.write_side.Goals as goal

pub loop-i-init : goal.loop-i-init
loop-i-init c = record {
  written =
      so-far-first c.args.self.now.types.now c.args.self.now.merged (written_in c.args.self.now.worlds.now) c.args.parts.now c.requires.planned c.args.steps.now c.requires.steps (side_of c.args.side) c.args.order.now c.requires.order c.args.state.now;
  paid =
      side-begun c.args.self.now.types.now c.args.self.now.merged (written_in c.args.self.now.worlds.now) c.args.parts.now c.requires.planned (side_of c.args.side) c.args.steps.now c.args.order.now c.requires.order c.args.state.now c.requires.begins.2.around;
}

pub write_at-requires-clause-position : goal.write_at-requires-clause-position
write_at-requires-clause-position c =
    position-below c.args.self.now.types.now c.args.self.now.merged (written_in c.args.self.now.worlds.now) c.args.parts.now c.requires.planned c.args.steps.now c.requires.steps (side_of c.args.side) c.args.order.now c.requires.order c.loop-i.i _
    (slice_get-get_or c.args.order.now c.loop-i.i 0 c.loop-i-test.true)

pub write_at-requires-clause-next : goal.write_at-requires-clause-next
write_at-requires-clause-next c = λ n k here.
    so-far-may c.args.self.now.types.now c.args.self.now.merged (written_in c.args.self.now.worlds.now) c.args.parts.now c.requires.planned c.args.steps.now c.requires.steps (side_of c.args.side) c.args.order.now c.requires.order c.loop-i.i _ n k c.args.state.now c.loop-i.state
    c.requires.begins c.loop-i.invariant.written (slice_get-get_or c.args.order.now c.loop-i.i 0 c.loop-i-test.true) here

pub loop-i-preserved : goal.loop-i-preserved
loop-i-preserved c = record {
  written =
      so-far-more c.args.self.now.types.now c.args.self.now.merged (written_in c.args.self.now.worlds.now) c.args.parts.now c.requires.planned c.args.steps.now c.requires.steps (side_of c.args.side) c.args.order.now c.requires.order c.loop-i.i _ c.args.state.now c.loop-i.state c.write_at.new.state
      c.loop-i.invariant.written (slice_get-get_or c.args.order.now c.loop-i.i 0 c.loop-i-test.true) c.in_ok-write_at.ensures.writes;
  paid =
      side-further c.args.self.now.types.now c.args.self.now.merged (written_in c.args.self.now.worlds.now) c.args.parts.now c.requires.planned (side_of c.args.side) c.args.steps.now c.args.order.now c.requires.order c.args.state.now c.requires.begins.2.around c.loop-i.state c.write_at.new.state c.loop-i.i _ (slice_get-get_or c.args.order.now c.loop-i.i 0 c.loop-i-test.true) c.loop-i.invariant.paid c.in_ok-write_at.ensures.paid;
}

pub returns-clause-writes : goal.returns-clause-writes
returns-clause-writes c =
    let past = c.loop-i-test.false in
    so-far-all c.args.self.now.types.now c.args.self.now.merged (written_in c.args.self.now.worlds.now) c.args.parts.now c.requires.planned c.args.steps.now c.requires.steps (side_of c.args.side) c.args.order.now c.requires.order c.loop-i.i c.args.state.now c.loop-i.state (omega (arith, past)) c.loop-i.invariant.written

pub returns-clause-paid : goal.returns-clause-paid
returns-clause-paid c ts covers priced =
    side-ended c.args.self.now.types.now c.args.self.now.merged (written_in c.args.self.now.worlds.now) c.args.parts.now c.requires.planned (side_of c.args.side) c.args.steps.now c.args.order.now c.requires.order c.args.state.now c.requires.begins.2.around c.loop-i.state c.loop-i.i c.loop-i.invariant.paid ts covers

pub returns-in_err-write_at-clause-paid : goal.returns-in_err-write_at-clause-paid
returns-in_err-write_at-clause-paid c ts covers priced =
    exit-room c.args.self.now.types.now c.args.self.now.merged ts (side_total c.args.self.now.types.now c.args.parts.now (side_of c.args.side)) c.args.state.now c.write_at.new.state _ c.from_residual.result c.from_residual.ensures.1
    (λ is. side-no-room c.args.self.now.types.now c.args.self.now.merged (written_in c.args.self.now.worlds.now) c.args.parts.now c.requires.planned (side_of c.args.side) c.args.steps.now c.args.order.now c.requires.order c.args.state.now c.requires.begins.2.around c.loop-i.state c.loop-i.i _ (slice_get-get_or c.args.order.now c.loop-i.i 0 c.loop-i-test.true) c.loop-i.invariant.paid ts covers (λ n k here there alone. no-room-of c.args.self.now.types.now c.args.self.now.merged ts _ c.loop-i.state _ is (c.in_err-write_at.ensures.paid n k ts here there alone)))
