use Rattle.std.proofs.Common.{ℕ, List, ◌≡◌, ap, sym, ◌∙◌, ◌≤◌, ◌+◌, length, arith, subst}
use Rattle.wac_types_shapes.specs.declared.shapes.component.«Type».{«Type» as AnyType}
use Rattle.wac_types_collection.specs.reach.Reach.{IsIn}
use Rattle.wac_types_collection.proofs.lemmas.reach.Lists.{in_at, read_at}
use Rattle.wac_types_collection.proofs.lemmas.reach.Universe.{types_of, found_few}
use Rattle.wac_types_collection.proofs.lemmas.reach.Reaching.{AreFound, found_first, found_next, found_all, found_closed, found_behind}
use Rattle.wac_types_collection.proofs.reach.reached.Reached.find_from.Goals as goal

pub loop-next-init : goal.loop-next-init
loop-next-init c =
    let few : c.len-next.result ≡ length c.args.self.now = c.len-next.ensures.len ∙ ap length c.self.view_is in
    subst (λ n. AreFound c.args.types.now c.args.self.now c.args.ty c.put_mentions.new.self n) (sym few)
    (subst (λ ts. AreFound c.args.types.now c.args.self.now c.args.ty ts (length c.args.self.now)) (sym c.in_ok-put_mentions.ensures)
    (found_first c.args.types.now c.law.ensures c.args.self.now c.requires.closed c.args.ty c.requires.held))

pub put_mentions-requires-in-loop-next : goal.put_mentions-requires-in-loop-next
put_mentions-requires-in-loop-next c =
    c.loop-next.invariant.held _ (in_at _ c.loop-next.self c.loop-next.next
    (read_at c.as_slice.result.now c.self-in-loop-next.inside.types.keys c.loop-next.self c.loop-next.next c.len.result _ c.loop-next-test.true c.len.ensures.len c.as_slice.ensures.keys c.self-in-loop-next.view_is))

pub loop-next-smaller : goal.loop-next-smaller
loop-next-smaller c =
    let few : length c.self-in-loop-next.inside.types.keys ≤ length (types_of c.args.types.now) =
    found_few c.args.types.now c.self-in-loop-next.inside.types.keys c.len.ensures.unique (λ t h. c.loop-next.invariant.held t (subst (λ ts. IsIn t ts) c.self-in-loop-next.view_is h)) in
    let l = c.len.ensures.len in
    let t = c.loop-next-test.true in
    omega (arith, few, l, t)

pub loop-next-preserved : goal.loop-next-preserved
loop-next-preserved c =
    subst (λ ts. AreFound c.args.types.now c.args.self.now c.args.ty ts (c.loop-next.next + 1)) (sym c.in_ok-put_mentions-2.ensures)
    (found_next c.args.types.now c.law.ensures c.args.self.now c.requires.closed c.args.ty c.loop-next.self c.loop-next.next _
    (read_at c.as_slice.result.now c.self-in-loop-next.inside.types.keys c.loop-next.self c.loop-next.next c.len.result _ c.loop-next-test.true c.len.ensures.len c.as_slice.ensures.keys c.self-in-loop-next.view_is) c.loop-next.invariant)

-- all was looked at
past : (found keys : List AnyType) (next n : ℕ) → keys ≡ found → n ≡ length keys → n ≤ next → length found ≤ next
past found keys next n same count f = let e = ap length same in omega (arith, e, count, f)

pub returns-clause-reached : goal.returns-clause-reached
returns-clause-reached c = found_all c.args.types.now c.args.self.now c.args.ty c.loop-next.self c.loop-next.next (past _ _ _ _ c.self-in-loop-next.view_is c.len.ensures.len c.loop-next-test.false) c.loop-next.invariant

pub returns-clause-closed : goal.returns-clause-closed
returns-clause-closed c = found_closed c.args.types.now c.args.self.now c.args.ty c.loop-next.self c.loop-next.next (past _ _ _ _ c.self-in-loop-next.view_is c.len.ensures.len c.loop-next-test.false) c.loop-next.invariant

pub returns-clause-behind : goal.returns-clause-behind
returns-clause-behind c = found_behind c.args.types.now c.args.self.now c.args.ty c.loop-next.self c.loop-next.next (past _ _ _ _ c.self-in-loop-next.view_is c.len.ensures.len c.loop-next-test.false) c.loop-next.invariant
