use Rattle.std.proofs.Common.{◌≡◌, ◌+◌, ◌-◌, sym, subst, arith, take}
use Rattle.wac_types_collection.proofs.lemmas.wide.Members.{at_in}
use Rattle.wac_encode_faults.specs.private.Binding.{Binds}
use Rattle.wac_encode_faults.specs.Cycle.{owner_of}
use Rattle.wac_encode_faults.specs.private.Owners.{group_of, AddsOwners, AreNoted}
use Rattle.wac_encode_faults.proofs.Owning.{owners_begin, owners_next, owners_all}
use Rattle.wac_encode_faults.proofs.owners.note_owners.Goals as goal

pub loop-number-init : goal.loop-number-init
loop-number-init c =
    let none : 0 ≡ c.args.first - c.args.first = omega arith in
    record {
      low = omega arith;
      added = subst (λ n. AddsOwners c.args.types.now c.args.uses.now c.args.first c.args.items.now (group_of c.args.type_items (take n c.args.items.now)) c.args.owners.now.entries c.args.owners.now.entries) none
          (owners_begin c.args.types.now c.args.uses.now c.args.first c.args.items.now c.args.type_items c.args.owners.now.entries);
    }

pub note_bound_in_group-requires : goal.note_bound_in_group-requires
note_bound_in_group-requires c = c.requires.held _ (at_in c.args.items.now (c.loop-number.number - c.args.first) _ c.entry_at.ensures)

pub loop-number-preserved : goal.loop-number-preserved
loop-number-preserved c =
    let low = c.loop-number.invariant.low in
    let here : c.args.first + (c.loop-number.number - c.args.first) ≡ c.loop-number.number = omega (arith, low) in
    let next : (c.loop-number.number - c.args.first) + 1 ≡ (c.loop-number.number + 1) - c.args.first = omega (arith, low) in
    record {
      low = omega (arith, low);
      added = subst (λ n. AddsOwners c.args.types.now c.args.uses.now c.args.first c.args.items.now (group_of c.args.type_items (take n c.args.items.now)) c.args.owners.now.entries c.note_bound_in_group.new.owners.entries) next
          (owners_next c.args.types.now c.args.uses.now c.args.first c.args.items.now c.args.type_items (c.loop-number.number - c.args.first) _ c.args.owners.now.entries c.loop-number.owners.entries c.note_bound_in_group.new.owners.entries c.entry_at.ensures
          c.in_ok-note_bound_in_group.ensures.other
          (λ e side. subst (λ n. AreNoted (Binds c.args.types.now c.args.uses.now side (c.entry_at.result.0.now, c.entry_at.result.1.now)) n (owner_of c.loop-number.owners.entries) (owner_of c.note_bound_in_group.new.owners.entries)) (sym here) (c.in_ok-note_bound_in_group.ensures.noted e side))
          c.loop-number.invariant.added);
    }

pub returns : goal.returns
returns c =
    let past = c.loop-number-test.false in
    let end = c.requires.end in
    owners_all c.args.types.now c.args.uses.now c.args.first c.args.items.now c.args.type_items (c.loop-number.number - c.args.first) c.args.owners.now.entries c.loop-number.owners.entries (omega (arith, past, end)) c.loop-number.invariant.added
