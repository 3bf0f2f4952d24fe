use Rattle.std.proofs.Common.{◌+◌, refl, sym, ◌∙◌}
use Rattle.wac_encode.proofs.BoundResources.{below-first, below-next, below-all}
use Rattle.wac_encode.proofs.state.State.resources.Goals as goal

pub loop-i-init : goal.loop-i-init
loop-i-init c = below-first c.args.types.now c.args.merged c.args.is_bound c.args.self.now c.new-found.result.keys c.new-found.ensures.empty

pub loop-i-preserved : goal.loop-i-preserved
loop-i-preserved c = below-next c.args.types.now c.args.merged c.args.is_bound c.args.self.now c.loop-i.i (c.loop-i.i + 1) c.loop-i.found.keys c.add_if.new.found.keys refl (sym c.contains.ensures ∙ c.if-not-contains.false) c.loop-i.invariant c.in_ok-add_if.ensures

pub returns-then-not-contains : goal.returns-then-not-contains
returns-then-not-contains c = below-all c.args.types.now c.args.merged c.args.is_bound c.args.self.now c.loop-i.i c.loop-i.found.keys (sym c.contains.ensures ∙ c.if-not-contains.true) c.loop-i.invariant
