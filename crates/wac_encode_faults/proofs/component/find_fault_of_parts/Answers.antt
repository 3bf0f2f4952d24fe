use Rattle.std.proofs.Common.{ap, sym, ◌∙◌, subst}
use Rattle.wac_encode_faults.specs.Faults.{IsLowest}
use Rattle.wac_encode_faults.specs.private.Binding.{sides_with}
use Rattle.wac_encode_faults.specs.private.Roots.{IsFaultOfParts}
use Rattle.wac_encode_faults.specs.private.Search.{lower_of}
use Rattle.wac_encode_faults.proofs.ComponentFaults.{roots_held, lowest_of_parts}
use Rattle.wac_encode_faults.proofs.component.find_fault_of_parts.Goals as goal

pub find_fault_inside-requires : goal.find_fault_inside-requires
find_fault_inside-requires c =
    roots_held c.args.types.now c.args.imports.now c.args.additional.now.keys c.args.exports.now c.in_ok-roots.roots.keys c.in_ok-roots.ensures c.law.ensures c.requires.imports c.requires.additional c.requires.exports

pub returns : goal.returns
returns c = λ uses.
    let all = c.lower.ensures ∙ ap (λ z. lower_of z c.in_ok-inside.inside) (c.lower-outside.ensures ∙ ap (λ z. lower_of z c.fault_if-of_types.result) c.lower-listed.ensures) in
    subst (IsLowest (IsFaultOfParts c.args.types.now (sides_with c.args.types.now uses c.args.imports.now c.args.additional.now.keys c.args.exports.now))) (sym all)
    (lowest_of_parts c.args.types.now c.args.imports.now c.args.additional.now.keys c.args.exports.now c.in_ok-roots.roots.keys c.in_ok-roots.ensures uses c.find_listed_fault-of_imports.result c.find_listed_fault-of_exports.result
    c.has_module_type-has_module.result c.fault_if-of_types.result c.in_ok-inside.inside c.find_listed_fault-of_imports.ensures c.find_listed_fault-of_exports.ensures c.has_module_type-has_module.ensures c.fault_if-of_types.ensures
    c.in_ok-inside.ensures)
