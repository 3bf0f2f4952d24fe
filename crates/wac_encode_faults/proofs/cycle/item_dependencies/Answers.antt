use Rattle.std.proofs.Common.{ℕ, ◌≡◌, ◌+◌, ◌<◌, length, ap, sym, ◌∙◌, subst, arith}
use Rattle.wac_edges.specs.cycles.Cycles.{IsStep}
use Rattle.std.proofs.lemmas.List.{with_items_is}
use Rattle.wac_encode_faults.proofs.Depending.{depends_within}
use Rattle.wac_encode_faults.proofs.cycle.item_dependencies.Goals as goal

pub add_dependencies-requires-clause-fits : goal.add_dependencies-requires-clause-fits
add_dependencies-requires-clause-fits c = let same = ap length c.deref_mut.ensures.value in let counted = c.in_ok-targets.ensures.counted in omega (arith, same, counted)

pub add_dependencies-requires-clause-empty : goal.add_dependencies-requires-clause-empty
add_dependencies-requires-clause-empty c = subst (λ l. (a b : ℕ) → IsStep l a b → ⊥) (sym c.deref_mut.ensures.value) c.in_ok-targets.ensures.empty

pub returns-clause-counted : goal.returns-clause-counted
returns-clause-counted c =
    let long : length c.add_dependencies.new.targets ≡ length c.in_ok-targets.targets.items = c.add_dependencies.auto.targets ∙ ap length c.deref_mut.ensures.value in
    let same = with_items_is c.in_ok-targets.targets c.add_dependencies.new.targets (omega (arith, long, c.in_ok-targets.targets.ok.0)) in
    let counted = c.in_ok-targets.ensures.counted in
    let sum = c.in-Some.ensures in
    let first = c.len.ensures in
    let second = c.len-2.ensures in
    rw same (omega (arith, long, counted, sum, first, second))

pub returns-clause-within : goal.returns-clause-within
returns-clause-within c =
    let long : length c.add_dependencies.new.targets ≡ length c.in_ok-targets.targets.items = c.add_dependencies.auto.targets ∙ ap length c.deref_mut.ensures.value in
    let same = with_items_is c.in_ok-targets.targets c.add_dependencies.new.targets (omega (arith, long, c.in_ok-targets.targets.ok.0)) in
    let counted = c.in_ok-targets.ensures.counted in
    let sum = c.in-Some.ensures in
    let first = c.len.ensures in
    let second = c.len-2.ensures in
    let whole : length c.args.imports.now + length c.args.exports.now ≡ length c.add_dependencies.new.targets = omega (arith, long, counted, sum, first, second) in
    rw same (λ a b h.
    subst (λ n. b < n) whole (depends_within c.args.types.now c.args.uses.now c.args.own c.args.imports.now c.args.exports.now a b ((c.in_ok-add_dependencies.ensures a b).0 h)))

pub returns-clause-steps : goal.returns-clause-steps
returns-clause-steps c =
    let long : length c.add_dependencies.new.targets ≡ length c.in_ok-targets.targets.items = c.add_dependencies.auto.targets ∙ ap length c.deref_mut.ensures.value in
    let same = with_items_is c.in_ok-targets.targets c.add_dependencies.new.targets (omega (arith, long, c.in_ok-targets.targets.ok.0)) in
    rw same c.in_ok-add_dependencies.ensures
