use Rattle.std.proofs.Common.{arith, Some, ◌≡◌, sym, ◌∙◌}
use Rattle.wac_encode_faults.specs.private.Sets.{value_of}
use Rattle.wac_encode_faults.proofs.Steps.{steps_as, steps_first, steps_next, steps_all}
use Rattle.wac_encode_faults.proofs.cycle.add_steps_of_uses.Goals as goal

pub loop-i-init : goal.loop-i-init
loop-i-init c = steps_first (value_of c.args.suppliers.now.entries) c.args.from c.args.used.now.keys c.args.targets.now

pub interface_at-id-requires : goal.interface_at-id-requires
interface_at-id-requires c = let l = c.len-i-end.ensures.len in let t = c.loop-i-test.true in omega (arith, l, t)

pub loop-i-preserved : goal.loop-i-preserved
loop-i-preserved c =
    steps_next (value_of c.args.suppliers.now.entries) c.args.from c.args.used.now.keys c.loop-i.i c.interface_at-id.result c.args.targets.now c.loop-i.targets c.add_step_to.new.targets c.interface_at-id.ensures c.loop-i.invariant
    (steps_as c.args.from _ (λ b. value_of c.args.suppliers.now.entries c.interface_at-id.result ≡ Some b) c.loop-i.targets c.add_step_to.new.targets
    (λ b. (λ e. sym c.get.ensures.value ∙ sym c.copied.ensures ∙ e, λ e. c.copied.ensures ∙ c.get.ensures.value ∙ e)) c.in_ok-add_step_to.ensures)

pub returns : goal.returns
returns c =
    let past = c.loop-i-test.false in
    let counted = c.len-i-end.ensures.len in
    steps_all (value_of c.args.suppliers.now.entries) c.args.from c.args.used.now.keys c.loop-i.i c.args.targets.now c.loop-i.targets (omega (arith, past, counted)) c.loop-i.invariant
