use Rattle.std.proofs.Common.{◌≡◌, ◌⊎◌, ap, sym, ◌∙◌, ◌+◌, subst, take, Some, arith}
use Rattle.wac_encode_faults.specs.declared.fault.WriteFault.{WriteFault}
use Rattle.wac_encode_faults.specs.Faults.{listed_fault, IsLowest, IsFaultOfListed}
use Rattle.wac_encode_faults.specs.private.Search.{lower_of}
use Rattle.wac_encode_faults.proofs.Lowest.{lowest_same, lowest_itself, lowest_of_both}
use Rattle.wac_encode_faults.proofs.Listing.{fault_of_next, fault_of_taken, listed_none}
use Rattle.wac_encode_faults.proofs.inside.find_listed_fault.Goals as goal

pub loop-i-init : goal.loop-i-init
loop-i-init c = λ f h. listed_none h.0 h.1

pub loop-i-preserved : goal.loop-i-preserved
loop-i-preserved c =
    let es = c.args.items.now in
    let i = c.loop-i.i in
    let v = c.value_at.result.now in
    let before : WriteFault → Type 0 = IsFaultOfListed (take i es) in
    let here : WriteFault → Type 0 = λ f. listed_fault v ≡ Some f in
    let low = lowest_of_both before here c.loop-i.lowest (listed_fault v) c.loop-i.invariant (lowest_itself (listed_fault v)) in
    subst (IsLowest (IsFaultOfListed (take (i + 1) es))) (sym (c.lower-lowest.ensures ∙ ap (λ z. lower_of c.loop-i.lowest z) c.listed_fault.ensures))
    (lowest_same (λ f. before f ⊎ here f) (IsFaultOfListed (take (i + 1) es)) (lower_of c.loop-i.lowest (listed_fault v)) (fault_of_next es i v c.value_at.ensures) low)

pub returns : goal.returns
returns c =
    let past = c.loop-i-test.false in
    let counted = c.len-i-end.ensures in
    fault_of_taken c.args.items.now c.loop-i.i c.loop-i.lowest (omega (arith, past, counted)) c.loop-i.invariant
