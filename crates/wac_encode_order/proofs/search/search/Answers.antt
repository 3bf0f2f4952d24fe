use Rattle.std.proofs.Common.{◌≤◌, length, arith, refl, sym, subst}
use Rattle.wac_types_collection.proofs.lemmas.reach.Lists.{read_at}
use Rattle.wac_types_collection.proofs.lemmas.reach.Universe.{types_of, found_few}
use Rattle.wac_encode_order.proofs.Searching.{search-first, next-held, search-next, search-done}
use Rattle.wac_encode_order.specs.private.Graph.{AreReached}
use Rattle.wac_encode_order.proofs.search.search.Goals as goal

pub loop-next-init : goal.loop-next-init
loop-next-init c = search-first c.args.types.now c.args.items.now c.add_items.new.found.keys c.in_ok-add_items.ensures.items c.in_ok-add_items.ensures.held

pub add_parts-requires : goal.add_parts-requires
add_parts-requires c =
    next-held c.args.types.now c.law.ensures c.args.items.now c.loop-next.found.keys c.loop-next.next _
    (read_at c.as_slice.result.now c.loop-next.found.keys c.loop-next.found.keys c.loop-next.next c.len.result _ c.loop-next-test.true c.len.ensures.len c.as_slice.ensures.keys refl) c.loop-next.invariant

pub loop-next-smaller : goal.loop-next-smaller
loop-next-smaller c =
    let low : length c.loop-next.found.keys ≤ length (types_of c.args.types.now) = found_few c.args.types.now c.loop-next.found.keys c.len.ensures.unique c.loop-next.invariant.held in
    let l = c.len.ensures.len in
    let t = c.loop-next-test.true in
    omega (arith, low, l, t)

pub loop-next-preserved : goal.loop-next-preserved
loop-next-preserved c =
    search-next c.args.types.now c.law.ensures c.args.items.now c.loop-next.found.keys c.loop-next.next _
    (read_at c.as_slice.result.now c.loop-next.found.keys c.loop-next.found.keys c.loop-next.next c.len.result _ c.loop-next-test.true c.len.ensures.len c.as_slice.ensures.keys refl)
    c.loop-next.invariant c.add_parts.new.found.keys c.in_ok-add_parts.ensures

pub returns : goal.returns
returns c =
    let past : length c.loop-next.found.keys ≤ c.loop-next.next = (let l = c.len.ensures.len in let f = c.loop-next-test.false in omega (arith, l, f)) in
    subst (AreReached c.args.types.now c.args.items.now) (sym c.of.ensures) (search-done c.args.types.now c.args.items.now c.loop-next.found.keys c.loop-next.next past c.loop-next.invariant)
