use Rattle.std.proofs.Common.{sym, subst}
use Rattle.std.proofs.lemmas.Result.{IfOk-weaker}
use Rattle.wac_encode_faults.specs.Faults.{IsLowest, IsDefinitionFault, HasFault}
use Rattle.wac_encode_faults.proofs.root.lowest_fault.Goals as goal

pub returns-in-Imported : goal.returns-in-Imported
returns-in-Imported c =
    IfOk-weaker c.find_import_fault.result _ _ (λ o low root same. subst (λ r. IsLowest (HasFault c.args.types.now root r c.args.item) o) (sym c.in-Imported.is) (low root same)) c.find_import_fault.ensures

pub returns-in-Defined : goal.returns-in-Defined
returns-in-Defined c =
    IfOk-weaker c.find_definition_fault.result _ _
    (λ o low root same. subst (λ r. IsLowest (HasFault c.args.types.now root r c.args.item) o) (sym c.in-Defined.is) (subst (λ t. IsLowest (IsDefinitionFault c.args.types.now root t) o) c.ty-ty.ensures (low root same))) c.find_definition_fault.ensures
