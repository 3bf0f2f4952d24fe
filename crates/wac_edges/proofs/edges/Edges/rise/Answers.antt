use Rattle.std.proofs.Common.{Bool, true, false}
use Rattle.std.specs.Bool.{OnTrue}
use Rattle.wac_edges.proofs.FallLemmas.{set_rises}
use Rattle.wac_edges.proofs.edges.Edges.rise.Goals as goal

-- what follows where the answer is yes
on_true : {P Q : Type 0} (b : Bool) → (P → Q) → OnTrue b P → OnTrue b Q
on_true true f p = f p
on_true false f p = tt

pub returns-then-not-self : goal.returns-then-not-self
returns-then-not-self c = set_rises c.self.inside.records c.args.self.now c.self.view_is (c.self.invariant.2.up c.if-not-self.true)

pub returns : goal.returns
returns c =
    on_true c.all_rise.result
    (λ rise. set_rises c.self.inside.records c.args.self.now c.self.view_is (λ e has. rise has.0 e has.1))
    c.all_rise.ensures
