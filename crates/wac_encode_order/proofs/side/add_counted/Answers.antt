use Rattle.std.proofs.Common.{ap, sym, ◌∙◌, ◌+◌, ◌≡◌, ◌++◌, [], ◌∷◌, ℕ, arith, append_assoc}
use Rattle.wac_encode_order.specs.private.SideOrder.{counted_from}
use Rattle.wac_encode_order.proofs.Siding.{counted-next}
use Rattle.wac_encode_order.proofs.side.add_counted.Goals as goal

pub loop-i-preserved : goal.loop-i-preserved
loop-i-preserved c =
    let old = c.args.numbers.now.items in
    let one = (c.args.start + c.loop-i.i) ∷ [] in
    c.in_ok-push.ensures.items ∙ ap (λ xs. xs ++ one) c.loop-i.invariant ∙ append_assoc old (counted_from c.args.start c.loop-i.i) one ∙ ap (λ xs. old ++ xs) (sym (counted-next c.args.start c.loop-i.i))

pub returns : goal.returns
returns c =
    let whole : c.loop-i.i ≡ c.args.count = (let f = c.loop-i-test.false in let m = c.loop-i.auto.i-end in omega (arith, f, m)) in
    c.loop-i.invariant ∙ ap (λ (n : ℕ). c.args.numbers.now.items ++ counted_from c.args.start n) whole
