use Rattle.std.proofs.Common.{◌≤◌, length, arith, refl}
use Rattle.wac_types_collection.proofs.lemmas.reach.Lists.{in_at, read_at}
use Rattle.wac_types_collection.proofs.lemmas.reach.Universe.{types_of, found_few}
use Rattle.wac_encode_faults.proofs.Insides.{inside_first, inside_next, inside_all}
use Rattle.wac_encode_faults.proofs.inside.with_scopes_inside.Goals as goal

pub loop-next-init : goal.loop-next-init
loop-next-init c = inside_first c.args.types.now c.args.roots.keys c.requires

pub add_inner-requires : goal.add_inner-requires
add_inner-requires c =
    c.loop-next.invariant.held _ (in_at _ c.loop-next.found.keys c.loop-next.next
    (read_at c.as_slice.result.now c.loop-next.found.keys c.loop-next.found.keys c.loop-next.next c.len.result _ c.loop-next-test.true c.len.ensures.len c.as_slice.ensures.keys refl))

pub loop-next-smaller : goal.loop-next-smaller
loop-next-smaller c =
    let few : length c.loop-next.found.keys ≤ length (types_of c.args.types.now) = found_few c.args.types.now c.loop-next.found.keys c.len.ensures.unique c.loop-next.invariant.held in
    let l = c.len.ensures.len in
    let t = c.loop-next-test.true in
    omega (arith, few, l, t)

pub loop-next-preserved : goal.loop-next-preserved
loop-next-preserved c =
    inside_next c.args.types.now c.law.ensures c.args.roots.keys c.loop-next.found.keys c.loop-next.next _
    (read_at c.as_slice.result.now c.loop-next.found.keys c.loop-next.found.keys c.loop-next.next c.len.result _ c.loop-next-test.true c.len.ensures.len c.as_slice.ensures.keys refl)
    c.add_inner.new.found.keys c.in_ok-add_inner.ensures c.loop-next.invariant

pub returns : goal.returns
returns c =
    let past : length c.loop-next.found.keys ≤ c.loop-next.next = let l = c.len.ensures.len in let f = c.loop-next-test.false in omega (arith, l, f) in
    record { inside = c.loop-next.invariant.inside; scopes = inside_all c.args.types.now c.args.roots.keys c.loop-next.found.keys c.loop-next.next past c.loop-next.invariant; held = c.loop-next.invariant.held }
