use Rattle.std.proofs.Common.{◌≡◌, ◌∙◌, ap, ◌++◌, ◌∷◌, ◌+◌, ◌-◌, reverse, drop, arith}
use Rattle.std.proofs.lemmas.List.{drop_all}
use Rattle.wac_types_collection.specs.wide.Wide.{used_interfaces}
use Rattle.wac_encode_faults.specs.private.Order.{steps_into}
use Rattle.wac_encode_faults.proofs.Needed.{used_next}
use Rattle.wac_encode_faults.proofs.UseWalk.{turned_first, turned_next}
use Rattle.wac_encode_faults.proofs.uses.push_uses.Goals as goal

pub loop-left-init : goal.loop-left-init
loop-left-init c = record {
  in_range = let l = c.len-left.ensures in omega (arith, l);
  pushed = let l = c.len-left.ensures in turned_first (used_interfaces (drop c.len-left.result c.args.uses.now)) c.args.pending.now.items (ap used_interfaces (drop_all c.len-left.result c.args.uses.now (omega (arith, l))));
}

pub loop-left-preserved : goal.loop-left-preserved
loop-left-preserved c =
    let some = c.loop-left-test.true in
    let further : (c.loop-left.left - 1) + 1 ≡ c.loop-left.left = omega (arith, some) in
    record {
      in_range = let l = c.loop-left.invariant.in_range in omega (arith, l);
      pushed = turned_next (used_interfaces (drop (c.loop-left.left - 1) c.args.uses.now)) (used_interfaces (drop c.loop-left.left c.args.uses.now)) c.value_at.result.now.interface c.args.pending.now.items c.loop-left.pending.items c.push.new.self.items
          (used_next c.args.uses.now (c.loop-left.left - 1) c.value_at.result.now c.value_at.ensures ∙ ap (λ k. c.value_at.result.now.interface ∷ used_interfaces (drop k c.args.uses.now)) further)
          c.loop-left.invariant.pushed c.in_ok-push.ensures.items;
    }

pub returns : goal.returns
returns c =
    let none = c.loop-left-test.false in
    let zero_is : c.loop-left.left ≡ 0 = omega (arith, none) in
    c.loop-left.invariant.pushed ∙ ap (λ k. c.args.pending.now.items ++ reverse (steps_into (used_interfaces (drop k c.args.uses.now)))) zero_is
