use Rattle.std.proofs.Common.{◌≡◌, ◌∙◌, ap, ◌++◌, ◌∷◌, ◌+◌, ◌-◌, reverse, drop, arith}
use Rattle.std.proofs.lemmas.List.{drop_all}
use Rattle.wac_encode_faults.specs.private.Order.{steps_into}
use Rattle.wac_encode_faults.proofs.Needed.{drop_here}
use Rattle.wac_encode_faults.proofs.UseWalk.{turned_first, turned_next}
use Rattle.wac_encode_faults.proofs.uses.push_roots.Goals as goal

pub loop-left-init : goal.loop-left-init
loop-left-init c = record {
  in_range = let l = c.len-left.ensures.len in omega (arith, l);
  pushed = let l = c.len-left.ensures.len in turned_first (drop c.len-left.result c.args.roots.now.keys) c.args.pending.now.items (drop_all c.len-left.result c.args.roots.now.keys (omega (arith, l)));
}

pub interface_at-id-requires : goal.interface_at-id-requires
interface_at-id-requires c = let some = c.loop-left-test.true in let l = c.loop-left.invariant.in_range in omega (arith, some, l)

pub loop-left-preserved : goal.loop-left-preserved
loop-left-preserved c =
    let some = c.loop-left-test.true in
    let further : (c.loop-left.left - 1) + 1 ≡ c.loop-left.left = omega (arith, some) in
    record {
      in_range = let l = c.loop-left.invariant.in_range in omega (arith, l);
      pushed = turned_next (drop (c.loop-left.left - 1) c.args.roots.now.keys) (drop c.loop-left.left c.args.roots.now.keys) c.interface_at-id.result c.args.pending.now.items c.loop-left.pending.items c.push.new.self.items
          (drop_here c.args.roots.now.keys (c.loop-left.left - 1) c.interface_at-id.result c.interface_at-id.ensures ∙ ap (λ k. c.interface_at-id.result ∷ drop k c.args.roots.now.keys) further)
          c.loop-left.invariant.pushed c.in_ok-push.ensures.items;
    }

pub returns : goal.returns
returns c =
    let none = c.loop-left-test.false in
    let zero_is : c.loop-left.left ≡ 0 = omega (arith, none) in
    c.loop-left.invariant.pushed ∙ ap (λ k. c.args.pending.now.items ++ reverse (steps_into (drop k c.args.roots.now.keys))) zero_is
