use Rattle.wac_script.specs.declared.lines.calls.Line.TheVariants as said
use Rattle.wac_script.specs.labels.Things.{things_of, cores_of}
use Rattle.wac_script.specs.Runs.{state_of, Runs}
use Rattle.std.proofs.Common.{Ok, refl, subst, sym}
use Rattle.wac_script.proofs.RunLemmas.{core-alone, change-runs}
use Rattle.wac_script.proofs.script.Script.run.Goals as goal

pub returns-in-Nothing : goal.returns-in-Nothing
returns-in-Nothing c = subst (λ l. Runs c.args.number l c.args.bytes.items (state_of c.args.self.now) (Ok tt) (state_of c.args.self.now)) (sym c.in-Nothing.is) refl

pub returns-in-Make : goal.returns-in-Make
returns-in-Make c = subst (λ l. Runs c.args.number l c.args.bytes.items (state_of c.args.self.now) c.make.result (state_of c.make.new.self)) (sym c.in-Make.is) c.make.ensures

pub returns-in-Core : goal.returns-in-Core
returns-in-Core c = subst (λ l. Runs c.args.number l c.args.bytes.items (state_of c.args.self.now) c.keep_core.result (state_of c.keep_core.new.self)) (sym c.in-Core.is)
    (core-alone c.args.number c.in-Core.label c.in-Core.item c.args.bytes.items (state_of c.args.self.now) (state_of c.keep_core.new.self) c.keep_core.result c.keep_core.ensures)

pub returns-in-Change : goal.returns-in-Change
returns-in-Change c = subst (λ l. Runs c.args.number l c.args.bytes.items (state_of c.args.self.now) c.change.result (record (state_of c.args.self.now) { graph = c.change.new.graph })) (sym c.in-Change.is)
    (change-runs c.args.number c.in-Change.call c.args.bytes.items (things_of c.args.self.now.labels) (cores_of c.args.self.now.labels) c.args.self.now.graph c.change.new.graph c.change.result c.change.ensures)
