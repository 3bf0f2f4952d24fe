use Rattle.std.proofs.Common.{◌≡◌, ap, sym, ◌∙◌, subst}
use Rattle.wac_encode_faults.specs.declared.fault.WriteFault.TheVariants as fault
use Rattle.wac_encode_faults.specs.Faults.{IsLowest, IsImportFault, IsFaultInside}
use Rattle.wac_encode_faults.specs.Free.{IsUnbound}
use Rattle.wac_encode_faults.specs.private.Search.{lower_of}
use Rattle.wac_encode_faults.proofs.RootFaults.{lowest_import}
use Rattle.wac_encode_faults.proofs.root.find_import_fault.Goals as goal

pub returns : goal.returns
returns c = λ root same.
    let all = c.lower.ensures ∙ ap (λ z. lower_of z c.in_ok-inside.inside) (c.lower-outside.ensures ∙ ap (λ z. lower_of z c.in_ok-unbound.unbound) c.import_fault-own.ensures) in
    subst (IsLowest (IsImportFault c.args.types.now root c.args.item)) (sym all)
    (lowest_import c.args.types.now root c.args.item c.in_ok-unbound.unbound c.in_ok-inside.inside
    (subst (λ t. IsLowest (λ f. IsUnbound c.args.types.now root t × (fault.UnboundResource ≡ f)) c.in_ok-unbound.unbound) c.ty-ty.ensures (c.in_ok-unbound.ensures root same))
    (subst (λ t. IsLowest (IsFaultInside c.args.types.now t) c.in_ok-inside.inside) c.ty-ty.ensures c.in_ok-inside.ensures))
