use Rattle.std.proofs.Common.{◌+◌, ◌-◌, ◌*◌, ◌<◌, suc, arith, reverse, subst, sym, length}
use Rattle.wac_types_collection.proofs.lemmas.wide.Once.{few}
use Rattle.wac_types_collection.proofs.lemmas.wide.Members.{in_reversed}
use Rattle.wac_types_collection.proofs.lemmas.wide.WideWalk.{IsWalk, most, first_walk, popped_there, visited, visited_less, walk_done, empty_is}
use Rattle.wac_types_collection.proofs.wide.walk.Goals as goal

pub loop-id-init : goal.loop-id-init
loop-id-init c =
    first_walk c.args.types.now c.args.used.now.keys c.args.seen.now.keys (reverse c.args.pending.now.items) c.requires.whole c.requires.seen (λ v h. c.requires.pending v (in_reversed c.args.pending.now.items v h))

pub visit-requires : goal.visit-requires
visit-requires c =
    popped_there c.args.types.now c.args.used.now.keys (reverse c.args.pending.now.items) c.loop-id.used.keys c.loop-id.seen.keys c.pop.new.self.items c.in-Some.id
    (subst (λ l. IsWalk c.args.types.now c.args.used.now.keys (reverse c.args.pending.now.items) c.loop-id.used.keys c.loop-id.seen.keys (reverse l)) c.in-Some.ensures.items c.loop-id.invariant)

pub loop-id-preserved : goal.loop-id-preserved
loop-id-preserved c =
    visited c.args.types.now c.law.ensures c.args.used.now.keys (reverse c.args.pending.now.items) c.loop-id.used.keys c.loop-id.seen.keys c.pop.new.self.items c.visit.new.used.keys c.visit.new.seen.keys c.visit.new.pending.items c.in-Some.id
    (subst (λ l. IsWalk c.args.types.now c.args.used.now.keys (reverse c.args.pending.now.items) c.loop-id.used.keys c.loop-id.seen.keys (reverse l)) c.in-Some.ensures.items c.loop-id.invariant)
    c.in_ok-visit.ensures.seen c.in_ok-visit.ensures.known c.in_ok-visit.ensures.new

pub loop-id-smaller : goal.loop-id-smaller
loop-id-smaller c =
    let types = c.args.types.now in
    let walk = subst (λ l. IsWalk types c.args.used.now.keys (reverse c.args.pending.now.items) c.loop-id.used.keys c.loop-id.seen.keys (reverse l)) c.in-Some.ensures.items c.loop-id.invariant in
    let after = visited types c.law.ensures c.args.used.now.keys (reverse c.args.pending.now.items) c.loop-id.used.keys c.loop-id.seen.keys c.pop.new.self.items c.visit.new.used.keys c.visit.new.seen.keys c.visit.new.pending.items c.in-Some.id walk
    c.in_ok-visit.ensures.seen c.in_ok-visit.ensures.known c.in_ok-visit.ensures.new in
    subst (λ l. (length types.interfaces - length c.visit.new.seen.keys) * suc (most types.interfaces) + length c.visit.new.pending.items < (length types.interfaces - length c.loop-id.seen.keys) * suc (most types.interfaces) + length l) (sym c.in-Some.ensures.items)
    (visited_less types c.law.ensures c.args.used.now.keys (reverse c.args.pending.now.items) c.loop-id.used.keys c.loop-id.seen.keys c.pop.new.self.items c.visit.new.used.keys c.visit.new.seen.keys c.visit.new.pending.items c.in-Some.id walk
    c.in_ok-visit.ensures.seen c.in_ok-visit.ensures.known c.in_ok-visit.ensures.new
    (few (length types.interfaces) c.visit.new.seen.keys c.in_ok-visit.ensures.unique after.seen_there))

pub returns : goal.returns
returns c =
    let none = empty_is c.loop-id.pending.items (omega (arith, c.loop-id.pending.ok.0, c.in_default.ensures.cases.0)) in
    let done = walk_done c.args.types.now c.args.used.now.keys (reverse c.args.pending.now.items) c.loop-id.used.keys c.loop-id.seen.keys
    (subst (λ l. IsWalk c.args.types.now c.args.used.now.keys (reverse c.args.pending.now.items) c.loop-id.used.keys c.loop-id.seen.keys (reverse l)) none c.loop-id.invariant) in
    record { used = done.0; whole = done.1; seen = done.2 }
