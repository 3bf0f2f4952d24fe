use Rattle.std.specs.Prelude.{◌≡◌, ℕ, ◌-◌, List, [], ◌++◌, take, reverse, ◌+◌}
use Rattle.std.proofs.Common.{ap, sym, subst, ◌∙◌, refl}
use Rattle.wac_encode_interfaces.specs.declared.level.Level.{Level}
use Rattle.wac_encode_interfaces.specs.private.Nests.{Nest, IsFilled}
use Rattle.wac_encode_interfaces.proofs.Parts.{waited-held, waits-no-more}
use Rattle.wac_encode_interfaces.proofs.Ended.{first-nest, opened-inside, outer-waits, outer-nest, last-closed, last-level, recorded-as, inner-less, ended-less, waits-left}
use Rattle.wac_encode_interfaces.proofs.Refused.{err-of, levels-keep, levels-less}
use Rattle.wac_encode_interfaces.proofs.Charged.{LevelsPaid, close-no-room, exported-less, holds-next, inner-no-room, left-no-room, levels-closed, levels-ended, levels-exported, levels-filled, levels-first, levels-opened, near-covers, near_items, waited-no-room}
use Rattle.wac_encode_interfaces.proofs.Answered.{exit-room, large-of, level-open, levels-priced, more-room, no-room-by, no-room-of}
use Rattle.wac_encode_scopes.proofs.Paying.{memory-answer}
use Rattle.wac_encode_scopes.specs.private.Paid.{interface_cost, total}
use Rattle.wac_encode_interfaces.specs.private.Paid.{next_cost}
use Rattle.wac_binary.specs.declared.fault.BinaryFault.TheVariants.{OutOfMemory}
use Rattle.wac_encode_interfaces.proofs.writer.TypeWriter.interface.Goals as goal

pub levels-init : goal.levels-init
levels-init c = record {
  nest =
      subst (λ (ls : List Level). Nest c.args.self.now.types.now c.args.self.now.merged c.args.interface c.args.types_only c.args.state.now c.in_ok-level.level (reverse ls) c.open_level.new.state) (sym c.new-waiting.ensures.items)
      (first-nest c.args.self.now.types.now c.args.self.now.merged c.args.interface c.args.types_only c.args.state.now c.open_level.new.state c.in_ok-level.level c.in_ok-level.ensures.fresh c.in_ok-level.ensures.level c.in_ok-level.ensures.begins);
  paid = λ priced may.
      (subst (λ (ls : List Level). LevelsPaid c.args.self.now.types.now c.args.self.now.merged c.args.interface c.args.state.now 0 c.in_ok-level.level ls c.open_level.new.state) (sym c.new-waiting.ensures.items)
      (levels-first c.args.self.now.types.now c.args.self.now.merged c.args.interface c.args.types_only c.args.state.now c.open_level.new.state c.in_ok-level.level c.in_ok-level.ensures.fresh c.in_ok-level.ensures.level c.in_ok-level.ensures.begins c.in_ok-level.ensures.charged));
}

pub fill-requires-clause-under_way : goal.fill-requires-clause-under_way
fill-requires-clause-under_way c = (reverse c.levels.waiting.items, (c.args.interface, c.args.types_only, c.args.state.now, c.levels.invariant.nest, c.requires.ready, c.requires.worlds))

pub open_level-requires-in-Some : goal.open_level-requires-in-Some
open_level-requires-in-Some c =
    let keeps = c.in_ok-inside.ensures.keeps c.args.interface c.args.types_only c.args.state.now (reverse c.levels.waiting.items) c.levels.invariant.nest in
    let waits = subst (IsFilled c.args.self.now.types.now c.fill.new.level) c.in-Some.is c.in_ok-inside.ensures.filled in
    record { held = waited-held c.args.self.now.types.now c.law.ensures c.fill.new.level keeps.2.0 c.in-Some.inside waits }

pub levels-preserved-in-Continue-branch-5 : goal.levels-preserved-in-Continue-branch-5
levels-preserved-in-Continue-branch-5 c = record {
  nest =
      let keeps = c.in_ok-inside.ensures.keeps c.args.interface c.args.types_only c.args.state.now (reverse c.levels.waiting.items) c.levels.invariant.nest in
      let waits = subst (IsFilled c.args.self.now.types.now c.fill.new.level) c.in-Some.is c.in_ok-inside.ensures.filled in
      let inner = c.in_ok-inner-in-Some in
      opened-inside c.args.self.now.types.now c.args.self.now.merged c.args.interface c.args.types_only c.args.state.now c.fill.new.state c.open_level-in-Some.new.state c.fill.new.level inner.inner c.replace-outer.result c.replace-outer.new.dest c.levels.waiting.items c.push.new.self.items c.in-Some.inside keeps waits
      inner.ensures.fresh inner.ensures.level inner.ensures.begins c.replace-outer.ensures.value c.replace-outer.ensures.after c.in_ok-push-in-Some.ensures.items;
  paid = λ priced may.
      (let keeps = c.in_ok-inside.ensures.keeps c.args.interface c.args.types_only c.args.state.now (reverse c.levels.waiting.items) c.levels.invariant.nest in
      let before = c.levels.invariant.paid priced may in
      let paid = levels-filled c.weight_law.ensures.near_is_closed c.args.self.now.types.now c.law.ensures c.args.self.now.merged c.args.interface c.args.state.now c.levels.level c.levels.waiting.items c.levels.state c.fill.new.state c.fill.new.level before (levels-priced c.args.self.now.merged _ c.args.state.now c.levels.state c.levels.invariant.nest.0 priced may) c.in_ok-inside.ensures.paid c.in_ok-inside.ensures.same keeps.2.0 in
      let waits = subst (IsFilled c.args.self.now.types.now c.fill.new.level) c.in-Some.is c.in_ok-inside.ensures.filled in
      levels-opened c.args.self.now.types.now c.args.self.now.merged c.args.interface c.args.state.now c.fill.new.state c.open_level-in-Some.new.state c.fill.new.level c.in_ok-inner-in-Some.inner c.replace-outer.result c.replace-outer.new.dest c.levels.waiting.items c.push.new.self.items c.in-Some.inside paid waits
      c.in_ok-inner-in-Some.ensures.fresh c.in_ok-inner-in-Some.ensures.level c.in_ok-inner-in-Some.ensures.begins c.in_ok-inner-in-Some.ensures.charged c.replace-outer.ensures.value c.replace-outer.ensures.after c.in_ok-push-in-Some.ensures.items);
}

pub levels-smaller-in-Continue-branch-5 : goal.levels-smaller-in-Continue-branch-5
levels-smaller-in-Continue-branch-5 c =
    let keeps = c.in_ok-inside.ensures.keeps c.args.interface c.args.types_only c.args.state.now (reverse c.levels.waiting.items) c.levels.invariant.nest in
    let waits = subst (IsFilled c.args.self.now.types.now c.fill.new.level) c.in-Some.is c.in_ok-inside.ensures.filled in
    let fresh = c.in_ok-inner-in-Some.ensures.fresh in
    inner-less c.args.self.now.types.now c.law.ensures c.levels.waiting.items c.push.new.self.items c.levels.level c.fill.new.level c.replace-outer.result c.replace-outer.new.dest c.in-Some.inside keeps.2.0 waits
    c.in_ok-inside.ensures.same c.in_ok-inside.ensures.further c.replace-outer.ensures.value c.in_ok-push-in-Some.ensures.items
    (ap (λ (k : Level). k.interface) c.replace-outer.ensures.after ∙ fresh.0) (ap (λ (k : Level). k.next) c.replace-outer.ensures.after ∙ fresh.2)

pub close_level-requires-clause-under_way : goal.close_level-requires-clause-under_way
close_level-requires-clause-under_way c =
    let keeps = c.in_ok-inside.ensures.keeps c.args.interface c.args.types_only c.args.state.now (reverse c.levels.waiting.items) c.levels.invariant.nest in
    (reverse c.levels.waiting.items, (c.args.interface, c.args.types_only, c.args.state.now, keeps, c.requires.ready, c.requires.worlds))

pub close_level-requires-clause-ended : goal.close_level-requires-clause-ended
close_level-requires-clause-ended c = subst (IsFilled c.args.self.now.types.now c.fill.new.level) c.in-None.is c.in_ok-inside.ensures.filled

pub returns-in_default-clause-goes : goal.returns-in_default-clause-goes
returns-in_default-clause-goes c =
    let keeps = c.in_ok-inside.ensures.keeps c.args.interface c.args.types_only c.args.state.now (reverse c.levels.waiting.items) c.levels.invariant.nest in
    let closed = c.in_ok-index-in-None.ensures.closed c.args.interface c.args.types_only c.args.state.now (reverse c.levels.waiting.items) keeps c.requires.ready in
    let rest : c.pop.new.self.items ≡ [] = c.in_default.ensures.rest ∙ ap (λ (k : ℕ). take (k - 1) c.levels.waiting.items) c.in_default.ensures.cases.0 in
    let none : c.levels.waiting.items ≡ [] = c.in_default.ensures.items ∙ ap (λ (ls : List Level). ls ++ []) rest in
    (last-closed c.args.self.now.types.now c.args.self.now.merged c.args.interface c.args.types_only c.args.state.now c.close_level.new.state c.levels.waiting.items c.in_ok-index-in-None.index none closed).0

pub returns-in_default-clause-is : goal.returns-in_default-clause-is
returns-in_default-clause-is c =
    let keeps = c.in_ok-inside.ensures.keeps c.args.interface c.args.types_only c.args.state.now (reverse c.levels.waiting.items) c.levels.invariant.nest in
    let closed = c.in_ok-index-in-None.ensures.closed c.args.interface c.args.types_only c.args.state.now (reverse c.levels.waiting.items) keeps c.requires.ready in
    let rest : c.pop.new.self.items ≡ [] = c.in_default.ensures.rest ∙ ap (λ (k : ℕ). take (k - 1) c.levels.waiting.items) c.in_default.ensures.cases.0 in
    let none : c.levels.waiting.items ≡ [] = c.in_default.ensures.items ∙ ap (λ (ls : List Level). ls ++ []) rest in
    (last-closed c.args.self.now.types.now c.args.self.now.merged c.args.interface c.args.types_only c.args.state.now c.close_level.new.state c.levels.waiting.items c.in_ok-index-in-None.index none closed).1

pub returns-in_default-clause-recorded : goal.returns-in_default-clause-recorded
returns-in_default-clause-recorded c =
    let keeps = c.in_ok-inside.ensures.keeps c.args.interface c.args.types_only c.args.state.now (reverse c.levels.waiting.items) c.levels.invariant.nest in
    let rest : c.pop.new.self.items ≡ [] = c.in_default.ensures.rest ∙ ap (λ (k : ℕ). take (k - 1) c.levels.waiting.items) c.in_default.ensures.cases.0 in
    let none : c.levels.waiting.items ≡ [] = c.in_default.ensures.items ∙ ap (λ (ls : List Level). ls ++ []) rest in
    recorded-as c.args.self.now.types.now c.args.self.now.merged c.args.types_only c.args.interface c.close_level.new.state c.fill.new.level c.in_ok-index-in-None.index
    (last-level c.args.self.now.types.now c.args.self.now.merged c.args.interface c.args.types_only c.args.state.now c.fill.new.state c.fill.new.level c.levels.waiting.items none keeps c.requires.ready) c.in_ok-index-in-None.ensures.recorded

pub export_next-requires-clause-under_way : goal.export_next-requires-clause-under_way
export_next-requires-clause-under_way c =
    let keeps = c.in_ok-inside.ensures.keeps c.args.interface c.args.types_only c.args.state.now (reverse c.levels.waiting.items) c.levels.invariant.nest in
    let us = c.pop.new.self.items in
    let outer = c.in-Some-pop.outer in
    let closed = c.in_ok-index-in-None.ensures.closed c.args.interface c.args.types_only c.args.state.now (reverse c.levels.waiting.items) keeps c.requires.ready in
    let nest = outer-nest c.args.self.now.types.now c.args.self.now.merged c.args.interface c.args.types_only c.args.state.now c.fill.new.state c.close_level.new.state c.fill.new.level outer c.levels.waiting.items us c.in_ok-index-in-None.index c.in-Some-pop.ensures.items c.requires.ready closed in
    (reverse us, (c.args.interface, c.args.types_only, c.args.state.now, nest, c.requires.ready, c.requires.worlds))

pub export_next-requires-clause-known : goal.export_next-requires-clause-known
export_next-requires-clause-known c =
    let keeps = c.in_ok-inside.ensures.keeps c.args.interface c.args.types_only c.args.state.now (reverse c.levels.waiting.items) c.levels.invariant.nest in
    let waits = outer-waits c.args.self.now.types.now c.args.self.now.merged c.args.interface c.args.types_only c.args.state.now c.fill.new.state c.close_level.new.state c.fill.new.level c.in-Some-pop.outer c.levels.waiting.items c.pop.new.self.items c.in_ok-index-in-None.index c.in-Some-pop.ensures.items c.requires.ready keeps in
    let recorded = c.in_ok-index-in-None.ensures.recorded waits.1 in
    waits-no-more c.args.self.now.types.now c.args.self.now.merged c.close_level.new.state c.in-Some-pop.outer c.fill.new.level.interface waits.0 (recorded.0, c.in_ok-index-in-None.index, recorded.1)

pub export_next-requires-clause-left : goal.export_next-requires-clause-left
export_next-requires-clause-left c =
    let keeps = c.in_ok-inside.ensures.keeps c.args.interface c.args.types_only c.args.state.now (reverse c.levels.waiting.items) c.levels.invariant.nest in
    let waits = outer-waits c.args.self.now.types.now c.args.self.now.merged c.args.interface c.args.types_only c.args.state.now c.fill.new.state c.close_level.new.state c.fill.new.level c.in-Some-pop.outer c.levels.waiting.items c.pop.new.self.items c.in_ok-index-in-None.index c.in-Some-pop.ensures.items c.requires.ready keeps in
    waits-left c.args.self.now.types.now c.in-Some-pop.outer c.fill.new.level.interface waits.0

pub export_next-requires-clause-small : goal.export_next-requires-clause-small
export_next-requires-clause-small c =
    let keeps = c.in_ok-inside.ensures.keeps c.args.interface c.args.types_only c.args.state.now (reverse c.levels.waiting.items) c.levels.invariant.nest in
    let waits = outer-waits c.args.self.now.types.now c.args.self.now.merged c.args.interface c.args.types_only c.args.state.now c.fill.new.state c.close_level.new.state c.fill.new.level c.in-Some-pop.outer c.levels.waiting.items c.pop.new.self.items c.in_ok-index-in-None.index c.in-Some-pop.ensures.items c.requires.ready keeps in
    waits.0.4

pub levels-preserved : goal.levels-preserved
levels-preserved c = record {
  nest =
      let keeps = c.in_ok-inside.ensures.keeps c.args.interface c.args.types_only c.args.state.now (reverse c.levels.waiting.items) c.levels.invariant.nest in
      let us = c.pop.new.self.items in
      let outer = c.in-Some-pop.outer in
      let closed = c.in_ok-index-in-None.ensures.closed c.args.interface c.args.types_only c.args.state.now (reverse c.levels.waiting.items) keeps c.requires.ready in
      let nest = outer-nest c.args.self.now.types.now c.args.self.now.merged c.args.interface c.args.types_only c.args.state.now c.fill.new.state c.close_level.new.state c.fill.new.level outer c.levels.waiting.items us c.in_ok-index-in-None.index c.in-Some-pop.ensures.items c.requires.ready closed in
      c.in_ok-export_next-in-None.ensures.keeps c.args.interface c.args.types_only c.args.state.now (reverse us) nest;
  paid = λ priced may.
      (let keeps = c.in_ok-inside.ensures.keeps c.args.interface c.args.types_only c.args.state.now (reverse c.levels.waiting.items) c.levels.invariant.nest in
      let before = c.levels.invariant.paid priced may in
      let paid = levels-filled c.weight_law.ensures.near_is_closed c.args.self.now.types.now c.law.ensures c.args.self.now.merged c.args.interface c.args.state.now c.levels.level c.levels.waiting.items c.levels.state c.fill.new.state c.fill.new.level before (levels-priced c.args.self.now.merged _ c.args.state.now c.levels.state c.levels.invariant.nest.0 priced may) c.in_ok-inside.ensures.paid c.in_ok-inside.ensures.same keeps.2.0 in
      let priced_there = levels-priced c.args.self.now.merged _ c.args.state.now c.fill.new.state keeps.0 priced may in
      let open_there = level-open c.fill.new.state.here.content keeps.0.here in
      let closed = c.in_ok-index-in-None.ensures.closed c.args.interface c.args.types_only c.args.state.now (reverse c.levels.waiting.items) keeps c.requires.ready in
      let nest = outer-nest c.args.self.now.types.now c.args.self.now.merged c.args.interface c.args.types_only c.args.state.now c.fill.new.state c.close_level.new.state c.fill.new.level c.in-Some-pop.outer c.levels.waiting.items c.pop.new.self.items c.in_ok-index-in-None.index c.in-Some-pop.ensures.items c.requires.ready closed in
      let waits = (outer-waits c.args.self.now.types.now c.args.self.now.merged c.args.interface c.args.types_only c.args.state.now c.fill.new.state c.close_level.new.state c.fill.new.level c.in-Some-pop.outer c.levels.waiting.items c.pop.new.self.items c.in_ok-index-in-None.index c.in-Some-pop.ensures.items c.requires.ready keeps).0 in
      let closed_paid = levels-closed c.args.self.now.types.now c.args.self.now.merged c.args.interface c.args.state.now c.fill.new.level c.in-Some-pop.outer c.pop.new.self.items c.levels.waiting.items c.fill.new.state c.close_level.new.state c.in-Some-pop.ensures.items paid open_there (exported-less c.args.self.now.types.now c.fill.new.level) (c.in_ok-index-in-None.ensures.paid priced_there) in
      let priced_closed = levels-priced c.args.self.now.merged _ c.args.state.now c.close_level.new.state nest.0 priced may in
      let after = c.in_ok-export_next-in-None.ensures.keeps c.args.interface c.args.types_only c.args.state.now (reverse c.pop.new.self.items) nest in
      levels-exported c.weight_law.ensures.scope_weighs_its_parts c.args.self.now.types.now c.law.ensures c.args.self.now.merged c.args.interface c.fill.new.level.interface c.args.state.now c.in-Some-pop.outer c.pop.new.self.items c.close_level.new.state c.export_next.new.state c.export_next.new.level closed_paid waits c.in_ok-export_next-in-None.ensures.level after.2.0
      (c.in_ok-export_next-in-None.ensures.paid (near_items c.args.self.now.types.now c.in-Some-pop.outer.interface) (near-covers c.weight_law.ensures.near_is_closed c.args.self.now.types.now c.law.ensures c.in-Some-pop.outer.interface) priced_closed));
}

pub levels-smaller : goal.levels-smaller
levels-smaller c = ended-less c.args.self.now.types.now c.levels.waiting.items c.pop.new.self.items c.levels.level c.in-Some-pop.outer c.export_next.new.level c.in-Some-pop.ensures.items c.in_ok-export_next-in-None.ensures.level

pub returns-in_err-inside-clause-refused : goal.returns-in_err-inside-clause-refused
returns-in_err-inside-clause-refused c =
    err-of _
    (levels-keep c.args.self.now.merged _ c.args.state.now c.levels.state c.fill.new.state c.levels.invariant.nest.0 c.fill.ensures.kept)

pub returns-in_err-inner-in-Some-clause-refused : goal.returns-in_err-inner-in-Some-clause-refused
returns-in_err-inner-in-Some-clause-refused c =
    err-of _
    (levels-keep c.args.self.now.merged _ c.args.state.now c.fill.new.state c.open_level-in-Some.new.state (c.in_ok-inside.ensures.keeps c.args.interface c.args.types_only c.args.state.now (reverse c.levels.waiting.items) c.levels.invariant.nest).0 c.open_level-in-Some.ensures.kept)

pub returns-in_err-push-in-Some-clause-refused : goal.returns-in_err-push-in-Some-clause-refused
returns-in_err-push-in-Some-clause-refused c =
    err-of _
    (levels-keep c.args.self.now.merged _ c.args.state.now c.fill.new.state c.open_level-in-Some.new.state (c.in_ok-inside.ensures.keeps c.args.interface c.args.types_only c.args.state.now (reverse c.levels.waiting.items) c.levels.invariant.nest).0 c.open_level-in-Some.ensures.kept)

pub returns-in_err-index-in-None-clause-refused : goal.returns-in_err-index-in-None-clause-refused
returns-in_err-index-in-None-clause-refused c =
    err-of _
    (levels-less c.args.self.now.merged _ c.args.state.now c.fill.new.state c.close_level.new.state (c.in_ok-inside.ensures.keeps c.args.interface c.args.types_only c.args.state.now (reverse c.levels.waiting.items) c.levels.invariant.nest).0 c.in_err-index-in-None.ensures.refused)

pub returns-in_err-export_next-in-None-clause-refused : goal.returns-in_err-export_next-in-None-clause-refused
returns-in_err-export_next-in-None-clause-refused c =
    let keeps = c.in_ok-inside.ensures.keeps c.args.interface c.args.types_only c.args.state.now (reverse c.levels.waiting.items) c.levels.invariant.nest in
    let us = c.pop.new.self.items in
    let outer = c.in-Some-pop.outer in
    let closed = c.in_ok-index-in-None.ensures.closed c.args.interface c.args.types_only c.args.state.now (reverse c.levels.waiting.items) keeps c.requires.ready in
    let nest = outer-nest c.args.self.now.types.now c.args.self.now.merged c.args.interface c.args.types_only c.args.state.now c.fill.new.state c.close_level.new.state c.fill.new.level outer c.levels.waiting.items us c.in_ok-index-in-None.index c.in-Some-pop.ensures.items c.requires.ready closed in
    err-of _ (levels-keep c.args.self.now.merged _ c.args.state.now c.close_level.new.state c.export_next.new.state nest.0 c.export_next.ensures.kept)

pub returns-in_err-level-clause-refused : goal.returns-in_err-level-clause-refused
returns-in_err-level-clause-refused c = err-of _ c.open_level.ensures.kept

pub returns-in_err-level-clause-paid : goal.returns-in_err-level-clause-paid
returns-in_err-level-clause-paid c may priced =
    exit-room c.args.self.now.types.now c.args.self.now.merged [] (interface_cost c.args.self.now.types.now c.args.interface) c.args.state.now c.open_level.new.state _ c.from_residual.result c.from_residual.ensures.1
    (λ is. no-room-by c.args.self.now.types.now c.args.self.now.merged (interface_cost c.args.self.now.types.now c.args.interface) c.args.state.now (more-room (total c.args.self.now.types.now c.args.self.now.merged c.args.state.now) (interface_cost c.args.self.now.types.now c.args.interface) (c.in_err-level.ensures.room (large-of _ is))))

pub returns-in_err-inside-clause-paid : goal.returns-in_err-inside-clause-paid
returns-in_err-inside-clause-paid c may priced =
    let before = c.levels.invariant.paid priced may in
    exit-room c.args.self.now.types.now c.args.self.now.merged [] (interface_cost c.args.self.now.types.now c.args.interface) c.args.state.now c.fill.new.state _ c.from_residual-in_err-inside.result c.from_residual-in_err-inside.ensures.1
    (λ is. left-no-room c.weight_law.ensures.scope_weighs_its_parts c.weight_law.ensures.near_is_closed c.args.self.now.types.now c.law.ensures c.args.self.now.merged c.args.interface c.args.state.now c.levels.level c.levels.waiting.items c.levels.state before (levels-priced c.args.self.now.merged _ c.args.state.now c.levels.state c.levels.invariant.nest.0 priced may) (level-open c.levels.state.here.content c.levels.invariant.nest.0.here) (c.in_err-inside.ensures.room (large-of _ is)))

pub returns-in_err-inner-in-Some-clause-paid : goal.returns-in_err-inner-in-Some-clause-paid
returns-in_err-inner-in-Some-clause-paid c may priced =
    let keeps = c.in_ok-inside.ensures.keeps c.args.interface c.args.types_only c.args.state.now (reverse c.levels.waiting.items) c.levels.invariant.nest in
    let before = c.levels.invariant.paid priced may in
    let paid = levels-filled c.weight_law.ensures.near_is_closed c.args.self.now.types.now c.law.ensures c.args.self.now.merged c.args.interface c.args.state.now c.levels.level c.levels.waiting.items c.levels.state c.fill.new.state c.fill.new.level before (levels-priced c.args.self.now.merged _ c.args.state.now c.levels.state c.levels.invariant.nest.0 priced may) c.in_ok-inside.ensures.paid c.in_ok-inside.ensures.same keeps.2.0 in
    let priced_there = levels-priced c.args.self.now.merged _ c.args.state.now c.fill.new.state keeps.0 priced may in
    let open_there = level-open c.fill.new.state.here.content keeps.0.here in
    let waits = subst (IsFilled c.args.self.now.types.now c.fill.new.level) c.in-Some.is c.in_ok-inside.ensures.filled in
    exit-room c.args.self.now.types.now c.args.self.now.merged [] (interface_cost c.args.self.now.types.now c.args.interface) c.args.state.now c.open_level-in-Some.new.state _ c.from_residual-in_err-inner-in-Some.result c.from_residual-in_err-inner-in-Some.ensures.1
    (λ is. inner-no-room c.weight_law.ensures.scope_weighs_its_parts c.args.self.now.types.now c.law.ensures (holds-next c.args.self.now.types.now c.law.ensures) c.args.self.now.merged c.args.interface c.args.state.now c.fill.new.level c.levels.waiting.items c.fill.new.state c.in-Some.inside paid priced_there open_there waits (c.in_err-inner-in-Some.ensures.room (large-of _ is)))

pub returns-in_err-push-in-Some-clause-paid : goal.returns-in_err-push-in-Some-clause-paid
returns-in_err-push-in-Some-clause-paid c may priced =
    memory-answer c.args.self.now.types.now c.args.self.now.merged [] (interface_cost c.args.self.now.types.now c.args.interface) c.args.state.now _ OutOfMemory c.from_residual-in_err-push-in-Some.result c.from_residual-in_err-push-in-Some.ensures.1 refl

pub returns-in_err-index-in-None-clause-paid : goal.returns-in_err-index-in-None-clause-paid
returns-in_err-index-in-None-clause-paid c may priced =
    let keeps = c.in_ok-inside.ensures.keeps c.args.interface c.args.types_only c.args.state.now (reverse c.levels.waiting.items) c.levels.invariant.nest in
    let before = c.levels.invariant.paid priced may in
    let paid = levels-filled c.weight_law.ensures.near_is_closed c.args.self.now.types.now c.law.ensures c.args.self.now.merged c.args.interface c.args.state.now c.levels.level c.levels.waiting.items c.levels.state c.fill.new.state c.fill.new.level before (levels-priced c.args.self.now.merged _ c.args.state.now c.levels.state c.levels.invariant.nest.0 priced may) c.in_ok-inside.ensures.paid c.in_ok-inside.ensures.same keeps.2.0 in
    let priced_there = levels-priced c.args.self.now.merged _ c.args.state.now c.fill.new.state keeps.0 priced may in
    let open_there = level-open c.fill.new.state.here.content keeps.0.here in
    exit-room c.args.self.now.types.now c.args.self.now.merged [] (interface_cost c.args.self.now.types.now c.args.interface) c.args.state.now c.close_level.new.state _ c.from_residual-in_err-index-in-None.result c.from_residual-in_err-index-in-None.ensures.1
    (λ is. close-no-room c.weight_law.ensures.scope_weighs_its_parts c.args.self.now.types.now c.law.ensures (holds-next c.args.self.now.types.now c.law.ensures) c.args.self.now.merged c.args.interface c.args.state.now c.fill.new.level c.levels.waiting.items c.fill.new.state paid priced_there open_there (exported-less c.args.self.now.types.now c.fill.new.level) (c.in_err-index-in-None.ensures.room (large-of _ is) priced_there))

pub returns-in_default-clause-paid : goal.returns-in_default-clause-paid
returns-in_default-clause-paid c may priced =
    let keeps = c.in_ok-inside.ensures.keeps c.args.interface c.args.types_only c.args.state.now (reverse c.levels.waiting.items) c.levels.invariant.nest in
    let before = c.levels.invariant.paid priced may in
    let paid = levels-filled c.weight_law.ensures.near_is_closed c.args.self.now.types.now c.law.ensures c.args.self.now.merged c.args.interface c.args.state.now c.levels.level c.levels.waiting.items c.levels.state c.fill.new.state c.fill.new.level before (levels-priced c.args.self.now.merged _ c.args.state.now c.levels.state c.levels.invariant.nest.0 priced may) c.in_ok-inside.ensures.paid c.in_ok-inside.ensures.same keeps.2.0 in
    let priced_there = levels-priced c.args.self.now.merged _ c.args.state.now c.fill.new.state keeps.0 priced may in
    let open_there = level-open c.fill.new.state.here.content keeps.0.here in
    let closed = c.in_ok-index-in-None.ensures.closed c.args.interface c.args.types_only c.args.state.now (reverse c.levels.waiting.items) keeps c.requires.ready in
    let rest : c.pop.new.self.items ≡ [] = c.in_default.ensures.rest ∙ ap (λ (k : ℕ). take (k - 1) c.levels.waiting.items) c.in_default.ensures.cases.0 in
    let none : c.levels.waiting.items ≡ [] = c.in_default.ensures.items ∙ ap (λ (ls : List Level). ls ++ []) rest in
    let goes = (last-closed c.args.self.now.types.now c.args.self.now.merged c.args.interface c.args.types_only c.args.state.now c.close_level.new.state c.levels.waiting.items c.in_ok-index-in-None.index none closed).0 in
    levels-ended c.args.self.now.types.now c.args.self.now.merged c.args.interface c.args.state.now c.fill.new.level c.levels.waiting.items c.fill.new.state c.close_level.new.state none paid open_there (exported-less c.args.self.now.types.now c.fill.new.level) (c.in_ok-index-in-None.ensures.paid priced_there) goes.types

pub returns-in_err-export_next-in-None-clause-paid : goal.returns-in_err-export_next-in-None-clause-paid
returns-in_err-export_next-in-None-clause-paid c may priced =
    let keeps = c.in_ok-inside.ensures.keeps c.args.interface c.args.types_only c.args.state.now (reverse c.levels.waiting.items) c.levels.invariant.nest in
    let before = c.levels.invariant.paid priced may in
    let paid = levels-filled c.weight_law.ensures.near_is_closed c.args.self.now.types.now c.law.ensures c.args.self.now.merged c.args.interface c.args.state.now c.levels.level c.levels.waiting.items c.levels.state c.fill.new.state c.fill.new.level before (levels-priced c.args.self.now.merged _ c.args.state.now c.levels.state c.levels.invariant.nest.0 priced may) c.in_ok-inside.ensures.paid c.in_ok-inside.ensures.same keeps.2.0 in
    let priced_there = levels-priced c.args.self.now.merged _ c.args.state.now c.fill.new.state keeps.0 priced may in
    let open_there = level-open c.fill.new.state.here.content keeps.0.here in
    let closed = c.in_ok-index-in-None.ensures.closed c.args.interface c.args.types_only c.args.state.now (reverse c.levels.waiting.items) keeps c.requires.ready in
    let nest = outer-nest c.args.self.now.types.now c.args.self.now.merged c.args.interface c.args.types_only c.args.state.now c.fill.new.state c.close_level.new.state c.fill.new.level c.in-Some-pop.outer c.levels.waiting.items c.pop.new.self.items c.in_ok-index-in-None.index c.in-Some-pop.ensures.items c.requires.ready closed in
    let waits = (outer-waits c.args.self.now.types.now c.args.self.now.merged c.args.interface c.args.types_only c.args.state.now c.fill.new.state c.close_level.new.state c.fill.new.level c.in-Some-pop.outer c.levels.waiting.items c.pop.new.self.items c.in_ok-index-in-None.index c.in-Some-pop.ensures.items c.requires.ready keeps).0 in
    let closed_paid = levels-closed c.args.self.now.types.now c.args.self.now.merged c.args.interface c.args.state.now c.fill.new.level c.in-Some-pop.outer c.pop.new.self.items c.levels.waiting.items c.fill.new.state c.close_level.new.state c.in-Some-pop.ensures.items paid open_there (exported-less c.args.self.now.types.now c.fill.new.level) (c.in_ok-index-in-None.ensures.paid priced_there) in
    let priced_closed = levels-priced c.args.self.now.merged _ c.args.state.now c.close_level.new.state nest.0 priced may in
    exit-room c.args.self.now.types.now c.args.self.now.merged [] (interface_cost c.args.self.now.types.now c.args.interface) c.args.state.now c.export_next.new.state _ c.from_residual-in_err-export_next-in-None.result c.from_residual-in_err-export_next-in-None.ensures.1
    (λ is. waited-no-room c.weight_law.ensures.scope_weighs_its_parts c.args.self.now.types.now c.law.ensures c.args.self.now.merged c.args.interface c.fill.new.level.interface c.args.state.now c.in-Some-pop.outer c.pop.new.self.items c.close_level.new.state closed_paid priced_closed (level-open c.close_level.new.state.here.content nest.0.here) waits
    (no-room-of c.args.self.now.types.now c.args.self.now.merged (near_items c.args.self.now.types.now c.in-Some-pop.outer.interface) (next_cost c.args.self.now.types.now c.in-Some-pop.outer) c.close_level.new.state _ is (c.in_err-export_next-in-None.ensures.paid (near_items c.args.self.now.types.now c.in-Some-pop.outer.interface) (near-covers c.weight_law.ensures.near_is_closed c.args.self.now.types.now c.law.ensures c.in-Some-pop.outer.interface) priced_closed)))
