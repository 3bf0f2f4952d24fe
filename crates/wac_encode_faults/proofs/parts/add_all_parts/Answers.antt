use Rattle.std.proofs.Common.{◌≤◌, length, arith, refl}
use Rattle.wac_types_collection.proofs.lemmas.reach.Lists.{in_at, read_at}
use Rattle.wac_types_collection.proofs.lemmas.reach.Universe.{types_of, found_few}
use Rattle.wac_encode_faults.proofs.Mentioned.{grown_not, parts_first, parts_grown, parts_next, parts_done}
use Rattle.wac_encode_faults.proofs.parts.add_all_parts.Goals as goal

pub loop-next-init : goal.loop-next-init
loop-next-init c = record {
  parts = parts_first c.args.types.now c.args.found.now.keys c.args.from c.requires.held c.requires.before;
  grown = grown_not c.args.found.now.keys;
}

pub add_parts-requires : goal.add_parts-requires
add_parts-requires c =
    c.loop-next.invariant.parts.held _ (in_at _ c.loop-next.found.keys c.loop-next.next
    (read_at c.as_slice.result.now c.loop-next.found.keys c.loop-next.found.keys c.loop-next.next c.len.result _ c.loop-next-test.true c.len.ensures.len c.as_slice.ensures.keys refl))

pub loop-next-smaller : goal.loop-next-smaller
loop-next-smaller c =
    let low : length c.loop-next.found.keys ≤ length (types_of c.args.types.now) = found_few c.args.types.now c.loop-next.found.keys c.len.ensures.unique c.loop-next.invariant.parts.held in
    let l = c.len.ensures.len in
    let t = c.loop-next-test.true in
    omega (arith, low, l, t)

pub loop-next-preserved : goal.loop-next-preserved
loop-next-preserved c = record {
  parts =
      parts_next c.args.types.now c.law.ensures c.args.found.now.keys c.loop-next.found.keys c.loop-next.next _
      (read_at c.as_slice.result.now c.loop-next.found.keys c.loop-next.found.keys c.loop-next.next c.len.result _ c.loop-next-test.true c.len.ensures.len c.as_slice.ensures.keys refl)
      c.loop-next.invariant.parts c.add_parts.new.found.keys c.in_ok-add_parts.ensures;
  grown =
      parts_grown c.args.types.now c.law.ensures c.args.found.now.keys c.loop-next.found.keys c.loop-next.next _
      (read_at c.as_slice.result.now c.loop-next.found.keys c.loop-next.found.keys c.loop-next.next c.len.result _ c.loop-next-test.true c.len.ensures.len c.as_slice.ensures.keys refl)
      c.loop-next.invariant.parts c.add_parts.new.found.keys c.loop-next.invariant.grown c.in_ok-add_parts.ensures;
}

pub returns : goal.returns
returns c =
    let past : length c.loop-next.found.keys ≤ c.loop-next.next = let l = c.len.ensures.len in let f = c.loop-next-test.false in omega (arith, l, f) in
    record { parts = parts_done c.args.types.now c.args.found.now.keys c.loop-next.found.keys c.loop-next.next past c.loop-next.invariant.parts; held = c.loop-next.invariant.parts.held; grown = c.loop-next.invariant.grown }
