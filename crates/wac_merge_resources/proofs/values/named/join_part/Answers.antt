use Rattle.std.proofs.Common.{◌≡◌, Some, slice_get, arith}
use Rattle.wac_types_collection.specs.collection.Collection.{interface_exports}
use Rattle.wac_merge_resources.specs.values.NamedTypes.{AreAllOne, IsListedIn, IsListedWith, no_join}
use Rattle.wac_merge_resources.proofs.lemmas.values.Links.{joins-for, joins-then}
use Rattle.wac_merge_resources.proofs.lemmas.values.Joining.{at-last, within, interface-lists, lists-interface}
use Rattle.wac_merge_resources.proofs.values.named.join_part.Goals as goal

pub loop-i-init : goal.loop-i-init
loop-i-init c = record { stay = λ a b o. o; one = λ j n k low at. absurd (omega (arith, low)); along = no_join }

pub loop-i-preserved : goal.loop-i-preserved
loop-i-preserved c =
    let t = c.args.types.now in
    let us = c.args.union.now.exports in
    let es = c.index.result.now.exports in
    let n = c.entry_at.result.0.now in
    let k = c.entry_at.result.1.now in
    record {
      stay = λ a b o. c.in_ok-join_listed.ensures.stay a b (c.loop-i.invariant.stay a b o);
      one = λ j m l low at.
          at-last es (λ n k. AreAllOne (IsListedWith t us n k) c.join_listed.new.named) c.loop-i.i n k c.entry_at.ensures c.in_ok-join_listed.ensures.one
          (λ j m l low at a b p. c.in_ok-join_listed.ensures.stay a b (c.loop-i.invariant.one j m l low at a b p)) j m l low at;
      along =
          joins-then (IsListedIn t us es) c.args.named.now c.loop-i.named c.join_listed.new.named c.loop-i.invariant.along
          (joins-for (IsListedWith t us n k) (IsListedIn t us es) c.loop-i.named c.join_listed.new.named (λ a b p. (c.loop-i.i, n, k, c.entry_at.ensures, p)) c.in_ok-join_listed.ensures.along);
    }

pub returns-clause-one : goal.returns-clause-one
returns-clause-one c a b (i, n, k, at, with) =
    let here : slice_get c.index.result.now.exports i ≡ Some (n, k) = interface-lists c.args.types.now c.args.part.now.interface c.index.result.now i n k c.index.ensures at in
    c.loop-i.invariant.one i n k (omega (arith, within c.index.result.now.exports i (n, k) here)) here a b with

pub returns-clause-along : goal.returns-clause-along
returns-clause-along c =
    let t = c.args.types.now in
    let i = c.args.part.now.interface in
    joins-for (IsListedIn t c.args.union.now.exports c.index.result.now.exports) (IsListedIn t c.args.union.now.exports (interface_exports t i)) c.args.named.now c.loop-i.named
    (λ a b (j, n, k, at, with). (j, n, k, lists-interface t i c.index.result.now j n k c.index.ensures at, with)) c.loop-i.invariant.along
