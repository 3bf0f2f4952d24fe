use Rattle.std.proofs.Common.{◌≡◌, ◌∙◌, List, length, map, subst, take, arith}
use Rattle.std.proofs.lemmas.List.{take_all}
use Rattle.wac_types_shapes.proofs.lemmas.shapes.Under.{on_ok}
use Rattle.wac_merge_classes.specs.declared.terms.parts.Part.{Part}
use Rattle.wac_merge_unions.specs.private.uniting.UnionSteps.{inside_part, IsPushed}
use Rattle.wac_merge_unions.proofs.uniting.unions.Unions.push_inner.Goals as goal

pub returns : goal.returns
returns c =
    let us = c.args.self.now.unions.items in
    let ps = c.args.self.now.parts.items in
    let xs = c.args.interfaces.now in
    let all : take c.loop-index.index xs ≡ xs = take_all c.loop-index.index xs (omega (arith, c.loop-index-test.false)) in
    let number : c.len-union.result ≡ length us = omega (arith, c.len-union.ensures, c.args.self.now.unions.ok.0) in
    let is : c.loop-index.parts.items ≡ map (inside_part (length us)) xs = c.loop-index.invariant ∙ (λ t. map (inside_part (number t)) (all t)) in
    on_ok c.push-2.result (λ h. subst (λ (l : List Part). IsPushed us ps l c.push-2.new.self.unions.items c.push-2.new.self.parts.items) (c.as_slice.ensures.value ∙ is) h) c.push-2.ensures
