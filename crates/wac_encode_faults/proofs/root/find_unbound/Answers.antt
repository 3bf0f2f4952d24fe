use Rattle.wac_encode_faults.specs.declared.fault.WriteFault.TheVariants as fault
use Rattle.wac_encode_faults.specs.Free.{IsUnbound}
use Rattle.wac_encode_faults.proofs.Lowest.{lowest_if}
use Rattle.wac_encode_faults.proofs.root.find_unbound.Goals as goal

pub returns : goal.returns
returns c = λ root same.
    lowest_if (IsUnbound c.args.types.now root c.args.ty) fault.UnboundResource c.in_ok-has_unbound.has_unbound c.fault_if.result (c.in_ok-has_unbound.ensures root same) c.fault_if.ensures
