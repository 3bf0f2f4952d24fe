use Rattle.std.proofs.Common.{add-one, true, false}
use Rattle.wac_types_shapes.proofs.lemmas.shapes.EqualLemmas.{not_true, not_false, compared_more}
use Rattle.wac_types_shapes.proofs.shapes.named.NamedPartialEq.eq.Goals as goal

pub returns-then-ne : goal.returns-then-ne
returns-then-ne g c =
    compared_more _ c.args.self.now c.args.other.now c.loop-i.i (c.entry_at.result.0.now, c.entry_at.result.1.now) (c.entry_at-in-loop-i.result.0.now, c.entry_at-in-loop-i.result.1.now) false
    c.entry_at.ensures c.entry_at-in-loop-i.ensures (not_true _ c.if-ne.ensures) c.loop-i.invariant

pub loop-i-preserved : goal.loop-i-preserved
loop-i-preserved g c = rw add-one (compared_more _ c.args.self.now c.args.other.now c.loop-i.i (c.entry_at.result.0.now, c.entry_at.result.1.now) (c.entry_at-in-loop-i.result.0.now, c.entry_at-in-loop-i.result.1.now) true
    c.entry_at.ensures c.entry_at-in-loop-i.ensures (not_false _ c.if-ne.ensures) c.loop-i.invariant)
