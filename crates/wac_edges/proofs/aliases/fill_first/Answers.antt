use Rattle.std.proofs.Common.{◌≡◌, ℕ, cond, nat_eq, List, Option, Some, None, IfOk, ap, sym, ◌∙◌}
use Rattle.std.specs.HashMap.{get}
use Rattle.std.proofs.lemmas.Bool.{OnTrue_at}
use Rattle.std.specs.Prelude.{OnErr}
use Rattle.std.specs.Bool.{OnTrue, OnFalse}
use Rattle.wac_edges.specs.private.Aliases.{place, first}
use Rattle.wac_edges.proofs.AliasLemmas.{Lists, read, both, is_there, put_here, put_elsewhere}
use Rattle.wac_edges.proofs.aliases.fill_first.Goals as goal

pub returns-in-Some : goal.returns-in-Some
returns-in-Some c =
    let old = c.args.firsts.now in
    let list = c.fill_place.new.places in
    let new : Lists = c.get_mut.follows.lender list in
    let puts = ((c.get_mut.follows.holds list).3 (is_there c.in-Some.ensures.value)).0 in
    let was : (i : ℕ) → place c.in-Some.places.now.items i ≡ first old c.args.source i = λ i. ap (λ o. read o i) c.in-Some.ensures.value in
    let now : (i : ℕ) → place list.items i ≡ first new c.args.source i = λ i. sym (put_here old new c.args.source list puts i) in
    record {
      filled = both (λ o n. IfOk c.fill_place.result (λ b. OnTrue b ((o ≡ None) × (n ≡ Some c.args.target)))) (was c.args.position) (now c.args.position) c.fill_place.ensures.filled;
      not = both (λ o n. IfOk c.fill_place.result (λ b. OnFalse b (n ≡ o))) (was c.args.position) (now c.args.position) c.fill_place.ensures.not;
      err = both (λ o n. OnErr c.fill_place.result (n ≡ o)) (was c.args.position) (now c.args.position) c.fill_place.ensures.err;
      others = put_elsewhere old new c.args.source list puts c.args.position (λ i away. c.fill_place.ensures.others i away ∙ was i);
    }

-- the list is the only one under its number now
puts : (c : goal.Joined-branch-3) (q : ℕ) → get nat_eq c.insert.new.self q ≡ cond (nat_eq c.args.source q) (Some c.fill_place-2.new.places) (get nat_eq c.args.firsts.now q)
puts c q = c.in_ok-insert.ensures.updates.0 q ∙ ap (λ (m : Lists). cond (nat_eq c.args.source q) (Some c.fill_place-2.new.places) (get nat_eq m q)) c.get_mut.follows.holds-at-none

-- there was none
was : (c : goal.Joined-branch-3) (i : ℕ) → place c.new-places.result.items i ≡ first c.args.firsts.now c.args.source i
was c i = ap (λ (l : List (Option ℕ)). place l i) c.new-places.ensures.items ∙ ap (λ o. read o i) c.in_default.ensures.value

pub returns-clause-filled : goal.returns-clause-filled
returns-clause-filled c =
    let (none, here) = OnTrue_at c.if-not-filled.false c.in_ok-filled.ensures.filled in
    (sym (was c c.args.position) ∙ none, put_here c.args.firsts.now c.insert.new.self c.args.source c.fill_place-2.new.places (puts c) c.args.position ∙ here)

pub returns-clause-others : goal.returns-clause-others
returns-clause-others c = put_elsewhere c.args.firsts.now c.insert.new.self c.args.source c.fill_place-2.new.places (puts c) c.args.position (λ i away. c.fill_place-2.ensures.others i away ∙ was c i)
