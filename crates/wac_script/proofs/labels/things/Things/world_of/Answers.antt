use Rattle.std.proofs.Common.{Some, ap, inr, ◌∙◌}
use Rattle.wac_script.specs.declared.labels.things.Thing.TheVariants as thing
use Rattle.wac_script.specs.labels.Things.{things_of, IsThing}
use Rattle.wac_script.proofs.LabelLemmas.{other-thing, thing-exit}
use Rattle.wac_script.proofs.labels.things.Things.world_of.Goals as goal

pub returns-in-World : goal.returns-in-World
returns-in-World c = c.in_ok-thing.ensures ∙ ap Some c.in-World.is

pub returns-in_err-thing : goal.returns-in_err-thing
returns-in_err-thing c = thing-exit thing.World (λ i. IsThing (things_of c.args.self.now) c.args.label.now (thing.World i)) (things_of c.args.self.now) c.args.label.now c.from_residual.result (c.in_err-thing.field-0).0 c.from_residual.ensures.1 c.in_err-thing.ensures

pub returns-in_default : goal.returns-in_default
returns-in_default c = inr (other-thing thing.World (things_of c.args.self.now) c.args.label.now c.in_ok-thing.thing c.in_ok-thing.ensures c.in_default.not-World)
