use Rattle.std.proofs.Common.{◌≡◌, ◌∙◌, ◌++◌, ◌∷◌, [], ap, length, take, arith}
use Rattle.std.proofs.lemmas.List.{take_all}
use Rattle.wac_types_shapes.proofs.lemmas.shapes.Names.{element_at}
use Rattle.wac_merge_classes.specs.declared.terms.parts.Union.{Union}
use Rattle.wac_merge_unions.specs.private.uniting.UnionSteps.{numbered}
use Rattle.wac_merge_unions.proofs.lemmas.uniting.UnionLists.{both_next}
use Rattle.wac_merge_unions.proofs.uniting.unions.Unions.push.Goals as goal

pub loop-index-preserved : goal.loop-index-preserved
loop-index-preserved c =
    let ps = c.args.self.now.parts.items in
    let qs = c.loop-index.self.parts.items in
    let xs = c.args.parts.now in
    let i = c.loop-index.index in
    let h = c.loop-index.invariant in
    let counted : c.len.result ≡ length qs = omega (arith, c.len.ensures, c.loop-index.self.parts.ok.0) in
    let w = both_next ps qs c.push-in-loop-index.new.self.items xs c.loop-index.positions.items c.push.new.self.items i c.len.result _ (element_at xs i _ c.loop-index-test.true) h.1 c.in_ok-push-2.ensures.items counted h.2 c.in_ok-push.ensures.items in
    (h.0, w.0, w.1)

pub returns : goal.returns
returns c =
    let ps = c.args.self.now.parts.items in
    let xs = c.args.parts.now in
    let h = c.loop-index.invariant in
    let all : take c.loop-index.index xs ≡ xs = take_all c.loop-index.index xs (omega (arith, c.loop-index-test.false)) in
    let x : Union = record { parts = c.loop-index.positions; exports = c.new.result } in
    (x, c.in_ok-push-3.ensures.items ∙ ap (λ us. us.items ++ x ∷ []) h.0, h.2 ∙ ap (numbered (length ps)) all, h.1 ∙ ap (λ l. ps ++ l) all)
