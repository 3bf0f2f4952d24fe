use Rattle.std.proofs.Common.{sym, subst}
use Rattle.wac_encode_faults.specs.Faults.{IsLowest, IsSidesFault}
use Rattle.wac_encode_faults.specs.private.Binding.{sides_with}
use Rattle.wac_encode_faults.proofs.ComponentFaults.{sides_unbound, sides_bound}
use Rattle.wac_encode_faults.proofs.WorldFaults.{not_true}
use Rattle.wac_encode_faults.proofs.component.find_sides_fault.Goals as goal

pub returns-then-branch : goal.returns-then-branch
returns-then-branch c =
    sides_unbound c.args.types.now (sides_with c.args.types.now c.args.uses.now c.args.imports.now c.args.additional.now.keys c.args.exports.now) (c.in_ok-sides_have_unbound.ensures.0 c.if-branch.true)

pub returns : goal.returns
returns c =
    let s = sides_with c.args.types.now c.args.uses.now c.args.imports.now c.args.additional.now.keys c.args.exports.now in
    subst (IsLowest (IsSidesFault c.args.types.now s)) (sym c.lower.ensures)
    (sides_bound c.args.types.now s (not_true _ _ c.if-branch.false c.in_ok-sides_have_unbound.ensures) c.in_ok-of_parts.of_parts c.in_ok-of_names.of_names (c.in_ok-of_parts.ensures c.args.uses.now) c.in_ok-of_names.ensures)
