use Rattle.std.specs.Prelude.{ℕ, ◌≡◌, Bool, List, Some, length, nat_lt}
use Rattle.std.proofs.Common.{ap, sym, ◌∙◌, subst, arith}
use Rattle.wac_types_collection.specs.collection.Collection.{item_at}
use Rattle.wac_encode_scopes.specs.private.Bits.{SaysApartParts}
use Rattle.wac_encode_scopes.specs.private.Telling.{is_one_of}
use Rattle.wac_encode_scopes.proofs.ClosedBits.{fewer-left}
use Rattle.wac_encode_scopes.proofs.ApartBits.{apart-more, none-apart, all-apart}
use Rattle.wac_encode_scopes.proofs.closed.ClosedTypes.apart_from.Goals as goal

pub loop-closed-init : goal.loop-closed-init
loop-closed-init c = none-apart c.args.types.now (is_one_of c.args.these.now.keys) c.new-closed.result.items c.new-closed.ensures.items

pub loop-closed-smaller : goal.loop-closed-smaller
loop-closed-smaller c =
    let n : length c.loop-closed.closed.items ≡ c.len.result = (let o = c.loop-closed.closed.ok.0 in let l = c.len.ensures in omega (arith, o, l)) in
    fewer-left (length c.args.types.now.defined) c.loop-closed.closed.items c.push.new.self.items c.are_parts_apart-is_apart.result c.in_ok-push.ensures.items (ap (λ (k : ℕ). nat_lt k (length c.args.types.now.defined)) n ∙ sym c.contains.ensures ∙ c.loop-closed-test.true)

pub loop-closed-preserved : goal.loop-closed-preserved
loop-closed-preserved c =
    let these = is_one_of c.args.these.now.keys in
    let x = c.index-definition.result.now in
    let n : c.len-in-loop-closed.result ≡ length c.loop-closed.closed.items = (let o = c.loop-closed.closed.ok.0 in let l = c.len-in-loop-closed.ensures in omega (arith, o, l)) in
    apart-more c.args.types.now c.law.ensures these c.loop-closed.closed.items c.push.new.self.items x c.are_parts_apart-is_apart.result c.in_ok-push.ensures.items c.loop-closed.invariant
    (subst (λ (k : ℕ). item_at c.args.types.now.defined k ≡ Some x) n c.index-definition.ensures)
    (subst (λ (bits : List Bool). SaysApartParts c.args.types.now these bits x c.are_parts_apart-is_apart.result) c.as_slice.ensures.value c.are_parts_apart-is_apart.ensures)

pub returns : goal.returns
returns c =
    let n : length c.loop-closed.closed.items ≡ c.len.result = (let o = c.loop-closed.closed.ok.0 in let l = c.len.ensures in omega (arith, o, l)) in
    all-apart c.args.types.now (is_one_of c.args.these.now.keys) c.loop-closed.closed.items (ap (λ (k : ℕ). nat_lt k (length c.args.types.now.defined)) n ∙ sym c.contains.ensures ∙ c.loop-closed-test.false) c.loop-closed.invariant
