use Rattle.std.proofs.Common.{◌≤◌, ◌∙◌, refl, ap, sym, subst, take, drop, take-append-drop, slice_get}
use Rattle.wac_script.specs.labels.Things.{things_of, cores_of}
use Rattle.wac_script.specs.Naming.{AreNamed}
use Rattle.wac_script.specs.Runs.{state_of}
use Rattle.wac_script.proofs.RunLemmas.{named-step, named-end, names-failed}
use Rattle.wac_script.proofs.script.Script.name_nodes.Goals as goal

pub loop-i-init : goal.loop-i-init
loop-i-init c = record {
  labels = refl;
  cores = refl;
  named = refl;
}

pub loop-i-preserved : goal.loop-i-preserved
loop-i-preserved c = record {
  labels = c.loop-i.invariant.labels;
  cores = c.loop-i.invariant.cores;
  named = named-step (things_of c.args.self.now.labels) c.loop-i.i _ c.args.self.now.graph c.loop-i.self.graph c.name_thing.new.graph
      (ap (λ ls. slice_get ls c.loop-i.i) (sym c.loop-i.invariant.labels) ∙ c.entry_at.ensures) c.in_ok-name_thing.ensures.named c.loop-i.invariant.named;
}

pub returns : goal.returns
returns c = (
  named-end (things_of c.args.self.now.labels) c.loop-i.i c.args.self.now.graph c.loop-i.self.graph (subst (λ n. n ≤ c.loop-i.i) c.len-i-end.ensures c.loop-i-test.false) c.loop-i.invariant.named,
  (c.loop-i.invariant.labels, c.loop-i.invariant.cores),
)

pub returns-in_err-name_thing : goal.returns-in_err-name_thing
returns-in_err-name_thing c = names-failed (state_of c.args.self.now) (record { graph = c.name_thing.new.graph; labels = things_of c.loop-i.self.labels; cores = cores_of c.loop-i.self.labels }) c.from_residual.result c.from_residual.ensures.0
    (take c.loop-i.i (things_of c.args.self.now.labels), drop c.loop-i.i (things_of c.args.self.now.labels), sym (take-append-drop c.loop-i.i (things_of c.args.self.now.labels)), subst (λ g. AreNamed (take c.loop-i.i (things_of c.args.self.now.labels)) c.args.self.now.graph g) (sym c.in_err-name_thing.ensures.kept) c.loop-i.invariant.named)
    (c.loop-i.invariant.labels, c.loop-i.invariant.cores)
