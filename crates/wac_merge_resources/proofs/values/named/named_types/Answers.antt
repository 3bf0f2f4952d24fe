use Rattle.std.proofs.Common.{ℕ, List, ◌⊎◌, inl, inr, subst}
use Rattle.wac_merge_resources.specs.values.NamedTypes.{AreAllOne, IsClassed, IsUnited, JoinsAlong}
use Rattle.wac_merge_resources.proofs.lemmas.values.Links.{either-one, joins-for, joins-then, linked-one, one-linked}
use Rattle.wac_merge_resources.proofs.values.named.named_types.Goals as goal

pub returns-clause-united : goal.returns-clause-united
returns-clause-united c p x u at there i n k listed e a b find is value =
    c.in_ok-join_entries.ensures.stay a b (c.in_ok-join_parts.ensures.one a b (p, x, at, (u, there, (i, n, k, listed, (value, inr (e, find, is))))))

pub returns-clause-classed : goal.returns-clause-classed
returns-clause-classed c i e a b at class value =
    let t = c.args.types.now in
    let es = c.args.entries.now in
    let one : AreAllOne (IsClassed t es c.args.classes.now.numbers.items c.args.classes.now.positions.items) c.join_entries.new.named =
    subst (λ (ns : List ℕ). AreAllOne (IsClassed t es ns c.args.classes.now.positions.items) c.join_entries.new.named) c.numbers.ensures
    (subst (λ (qs : List ℕ). AreAllOne (IsClassed t es c.numbers.result.now qs) c.join_entries.new.named) c.positions.ensures c.in_ok-join_entries.ensures.one) in
    one a b (i, e, at, (value, inr class))

pub returns-clause-named : goal.returns-clause-named
returns-clause-named c a b =
    let t = c.args.types.now in
    let us = c.args.unions.now in
    let ps = c.args.parts.now in
    let es = c.args.entries.now in
    let ns = c.args.classes.now.numbers.items in
    let qs = c.args.classes.now.positions.items in
    let start = c.new-named.result in
    let mid = c.join_parts.new.named in
    let end = c.join_entries.new.named in
    let classed : JoinsAlong (IsClassed t es ns qs) mid end =
    subst (λ (xs : List ℕ). JoinsAlong (IsClassed t es xs qs) mid end) c.numbers.ensures
    (subst (λ (xs : List ℕ). JoinsAlong (IsClassed t es c.numbers.result.now xs) mid end) c.positions.ensures c.in_ok-join_entries.ensures.along) in
    let one : AreAllOne (IsClassed t es ns qs) end =
    subst (λ (xs : List ℕ). AreAllOne (IsClassed t es xs qs) end) c.numbers.ensures
    (subst (λ (xs : List ℕ). AreAllOne (IsClassed t es c.numbers.result.now xs) end) c.positions.ensures c.in_ok-join_entries.ensures.one) in
    let along : JoinsAlong (λ a b. IsUnited t us ps a b ⊎ IsClassed t es ns qs a b) start end =
    joins-then (λ a b. IsUnited t us ps a b ⊎ IsClassed t es ns qs a b) start mid end
    (joins-for (IsUnited t us ps) (λ a b. IsUnited t us ps a b ⊎ IsClassed t es ns qs a b) start mid (λ a b p. inl p) c.in_ok-join_parts.ensures.along)
    (joins-for (IsClassed t es ns qs) (λ a b. IsUnited t us ps a b ⊎ IsClassed t es ns qs a b) mid end (λ a b p. inr p) classed) in
    let all : AreAllOne (λ a b. IsUnited t us ps a b ⊎ IsClassed t es ns qs a b) end =
    either-one (IsUnited t us ps) (IsClassed t es ns qs) end (λ a b p. c.in_ok-join_entries.ensures.stay a b (c.in_ok-join_parts.ensures.one a b p)) one in (
      λ one. one-linked (λ a b. IsUnited t us ps a b ⊎ IsClassed t es ns qs a b) start c.new-named.ensures end along a b one,
      λ linked. linked-one (λ a b. IsUnited t us ps a b ⊎ IsClassed t es ns qs a b) end all a b linked,
    )
