use Rattle.std.proofs.Common.{◌≡◌, ◌+◌, ◌-◌, sym, subst, arith, Contains}
use Rattle.wac_types_collection.proofs.lemmas.wide.Members.{at_in}
use Rattle.wac_encode_faults.specs.Sides.{listed_interface}
use Rattle.wac_encode_faults.specs.private.Owners.{IsListedTo, AreNoted, AddsNumbers}
use Rattle.wac_encode_faults.specs.private.Sets.{value_of}
use Rattle.wac_encode_faults.proofs.Owning.{numbers_first, numbers_next, numbers_all}
use Rattle.wac_encode_faults.proofs.owners.note_suppliers.Goals as goal

pub loop-number-init : goal.loop-number-init
loop-number-init c =
    let none : 0 ≡ c.args.first - c.args.first = omega arith in
    record {
      low = omega arith;
      high = omega arith;
      added = subst (λ n. AddsNumbers (IsListedTo c.args.types.now c.args.first c.args.items.now n) c.args.suppliers.now.entries c.args.suppliers.now.entries) none
          (numbers_first c.args.types.now c.args.first c.args.items.now c.args.suppliers.now.entries);
    }

pub note_listed-requires : goal.note_listed-requires
note_listed-requires c = c.requires.held _ (at_in c.args.items.now (c.loop-number.number - c.args.first) _ c.entry_at.ensures)

pub loop-number-preserved : goal.loop-number-preserved
loop-number-preserved c =
    let low = c.loop-number.invariant.low in
    let end = c.requires.end in
    let test = c.loop-number-test.true in
    let here : c.args.first + (c.loop-number.number - c.args.first) ≡ c.loop-number.number = omega (arith, low) in
    let next : (c.loop-number.number - c.args.first) + 1 ≡ (c.loop-number.number + 1) - c.args.first = omega (arith, low) in
    record {
      low = omega (arith, low);
      high = omega (arith, end, test);
      added = subst (λ n. AddsNumbers (IsListedTo c.args.types.now c.args.first c.args.items.now n) c.args.suppliers.now.entries c.note_listed.new.suppliers.entries) next
          (numbers_next c.args.types.now c.args.first c.args.items.now (c.loop-number.number - c.args.first) _ c.args.suppliers.now.entries c.loop-number.suppliers.entries c.note_listed.new.suppliers.entries c.entry_at.ensures
          c.loop-number.invariant.added
          (subst (λ n. AreNoted (Contains (listed_interface c.args.types.now (c.entry_at.result.0.now, c.entry_at.result.1.now))) n (value_of c.loop-number.suppliers.entries) (value_of c.note_listed.new.suppliers.entries)) (sym here) c.in_ok-note_listed.ensures));
    }

pub returns : goal.returns
returns c =
    let low = c.loop-number.invariant.low in
    let high = c.loop-number.invariant.high in
    let past = c.loop-number-test.false in
    let end = c.requires.end in
    numbers_all c.args.types.now c.args.first c.args.items.now (c.loop-number.number - c.args.first) c.args.suppliers.now.entries c.loop-number.suppliers.entries (omega (arith, low, high, past, end)) c.loop-number.invariant.added
