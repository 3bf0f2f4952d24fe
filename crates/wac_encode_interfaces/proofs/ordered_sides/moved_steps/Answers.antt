use Rattle.std.proofs.Common.{ℕ, ◌≡◌, ◌+◌, true, List, Some, length, ap, sym, ◌∙◌, subst, arith}
use Rattle.std.proofs.lemmas.Option.{slice_get-get_or}
use Rattle.std.specs.BTreeSet.{BTreeSet, contains}
use Rattle.std.specs.Ordering.{nat_cmp}
use Rattle.std.proofs.lemmas.List.{with_items_is}
use Rattle.wac_encode_interfaces.specs.private.Ordered.{AddsMoved}
use Rattle.wac_encode_interfaces.proofs.Positions.{below-start, below-next, below-end}
use Rattle.wac_encode_interfaces.proofs.ordered_sides.moved_steps.Goals as goal

pub loop-from-init : goal.loop-from-init
loop-from-init c = record { counted = c.in_ok-moved.ensures.counted; below = below-start c.args.first c.args.count c.args.steps.now c.in_ok-moved.moved.items c.in_ok-moved.ensures.empty }

pub loop-from-preserved : goal.loop-from-preserved
loop-from-preserved c =
    let long : length c.add_all_moved.new.targets ≡ length c.loop-from.moved.items = c.add_all_moved.auto.targets ∙ ap length c.as_mut_slice.ensures.value in
    let same = with_items_is c.loop-from.moved c.add_all_moved.new.targets (omega (arith, long, c.loop-from.moved.ok.0)) in
    let adds : AddsMoved c.loop-from.from c.args.first (λ b. contains nat_cmp c.index-steps-first.result b ≡ true) c.loop-from.moved.items c.add_all_moved.new.targets
    = subst (λ (l : List (BTreeSet ℕ)). AddsMoved c.loop-from.from c.args.first (λ b. contains nat_cmp c.index-steps-first.result b ≡ true) l c.add_all_moved.new.targets) c.as_mut_slice.ensures.value c.in_ok-add_all_moved.ensures in
    let asked = c.requires in
    let low = c.loop-from-test.true in
    rw same (record {
      counted = long ∙ c.loop-from.invariant.counted;
      below = below-next c.args.first c.args.count c.loop-from.from c.args.steps.now c.index-steps-first.result c.loop-from.moved.items c.add_all_moved.new.targets (slice_get-get_or c.args.steps.now (c.args.first + c.loop-from.from) c.index-steps-first.result (omega (arith, asked, low)) ∙ ap Some (sym c.index-steps-first.is)) c.loop-from.invariant.counted adds c.loop-from.invariant.below;
    })

pub returns-clause-moved : goal.returns-clause-moved
returns-clause-moved c =
    let past = c.loop-from-test.false in
    below-end c.args.first c.args.count c.loop-from.from c.args.steps.now c.loop-from.moved.items (omega (arith, past)) c.loop-from.auto.from-end c.loop-from.invariant.below
