use Rattle.std.specs.Prelude.{ℕ, ◌≡◌, Bool, List, Some, length, nat_lt}
use Rattle.std.proofs.Common.{ap, sym, ◌∙◌, subst, arith}
use Rattle.wac_types_collection.specs.collection.Collection.{item_at}
use Rattle.wac_encode_scopes.specs.private.Bits.{SaysParts}
use Rattle.wac_encode_scopes.proofs.ClosedBits.{says-more, none-said, none-open, fewer-left, all-said}
use Rattle.wac_encode_scopes.proofs.closed.ClosedTypes.new.Goals as goal

pub returns-then-holds_no_resource : goal.returns-then-holds_no_resource
returns-then-holds_no_resource c = none-open c.args.types.now c.law.ensures (sym c.holds_no_resource.ensures ∙ c.if-holds_no_resource.true) c.new-closed.result.items c.new-closed.ensures.items

pub loop-closed-init : goal.loop-closed-init
loop-closed-init c = none-said c.args.types.now c.new-closed.result.items c.new-closed.ensures.items

pub loop-closed-smaller : goal.loop-closed-smaller
loop-closed-smaller c =
    let n : length c.loop-closed.closed.items ≡ c.len.result = (let o = c.loop-closed.closed.ok.0 in let l = c.len.ensures in omega (arith, o, l)) in
    fewer-left (length c.args.types.now.defined) c.loop-closed.closed.items c.push.new.self.items c.are_parts_closed-is_closed.result c.in_ok-push.ensures.items (ap (λ (k : ℕ). nat_lt k (length c.args.types.now.defined)) n ∙ sym c.contains.ensures ∙ c.loop-closed-test.true)

pub loop-closed-preserved : goal.loop-closed-preserved
loop-closed-preserved c =
    let x = c.index-definition.result.now in
    let n : c.len-in-loop-closed.result ≡ length c.loop-closed.closed.items = (let o = c.loop-closed.closed.ok.0 in let l = c.len-in-loop-closed.ensures in omega (arith, o, l)) in
    says-more c.args.types.now c.law.ensures c.loop-closed.closed.items c.push.new.self.items x c.are_parts_closed-is_closed.result c.in_ok-push.ensures.items c.loop-closed.invariant
    (subst (λ (k : ℕ). item_at c.args.types.now.defined k ≡ Some x) n c.index-definition.ensures)
    (subst (λ (bits : List Bool). SaysParts bits x c.are_parts_closed-is_closed.result) c.as_slice.ensures.value c.are_parts_closed-is_closed.ensures)

pub returns : goal.returns
returns c =
    let n : length c.loop-closed.closed.items ≡ c.len.result = (let o = c.loop-closed.closed.ok.0 in let l = c.len.ensures in omega (arith, o, l)) in
    all-said c.args.types.now c.loop-closed.closed.items (ap (λ (k : ℕ). nat_lt k (length c.args.types.now.defined)) n ∙ sym c.contains.ensures ∙ c.loop-closed-test.false) c.loop-closed.invariant
