use Rattle.std.proofs.Common.{ap, sym, ◌∙◌, subst}
use Rattle.wac_encode_faults.specs.Faults.{IsLowest, IsDefinitionFault}
use Rattle.wac_encode_faults.specs.private.Search.{lower_of}
use Rattle.wac_encode_faults.proofs.RootFaults.{lowest_definition}
use Rattle.wac_encode_faults.proofs.root.find_definition_fault.Goals as goal

pub returns : goal.returns
returns c = λ root same.
    subst (IsLowest (IsDefinitionFault c.args.types.now root c.args.ty)) (sym (c.lower.ensures ∙ ap (λ z. lower_of z c.in_ok-defined.defined) c.definition_fault-own.ensures))
    (lowest_definition c.args.types.now root c.args.ty c.in_ok-defined.defined (c.in_ok-defined.ensures root same))
