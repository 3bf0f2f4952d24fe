use Rattle.std.proofs.Common.{arith, ◌∙◌}
use Rattle.wac_encode_faults.specs.Cycle.{owner_of}
use Rattle.wac_encode_faults.proofs.OwnedSteps.{numbers_first, numbers_next, numbers_all}
use Rattle.wac_encode_faults.proofs.definition_owners.owners_of.Goals as goal

pub loop-i-init : goal.loop-i-init
loop-i-init c = numbers_first (owner_of c.args.owners.now.entries) c.args.free.now.keys c.new-numbers.result.keys c.new-numbers.ensures.empty

pub resource_at-resource-requires : goal.resource_at-resource-requires
resource_at-resource-requires c = let l = c.len-i-end.ensures.len in let t = c.loop-i-test.true in omega (arith, l, t)

pub loop-i-preserved : goal.loop-i-preserved
loop-i-preserved c =
    numbers_next (owner_of c.args.owners.now.entries) c.args.free.now.keys c.loop-i.i c.resource_at-resource.result c.copied.result c.loop-i.numbers.keys c.add_number.new.numbers.keys c.resource_at-resource.ensures (c.copied.ensures ∙ c.get.ensures.value)
    c.loop-i.invariant c.in_ok-add_number.ensures

pub returns : goal.returns
returns c =
    let past = c.loop-i-test.false in
    let counted = c.len-i-end.ensures.len in
    numbers_all (owner_of c.args.owners.now.entries) c.args.free.now.keys c.loop-i.i c.loop-i.numbers.keys (omega (arith, past, counted)) c.loop-i.invariant
