use Rattle.std.proofs.Common.{◌↔◌, IsTrue, sym, subst}
use Rattle.std.specs.Prelude.{IfOk}
use Rattle.wac_types_collection.specs.wide.Wide.{AreThere}
use Rattle.wac_encode_faults.specs.Cycle.{HasItemCycle}
use Rattle.wac_encode_faults.proofs.Parted.{parted_with, joined_held}
use Rattle.wac_encode_faults.proofs.cycle.sides_have_cycle.Goals as goal

pub join_imports-requires : goal.join_imports-requires
join_imports-requires c = subst (AreThere c.args.types.now) (sym c.as_slice.ensures.keys) c.requires.additional

pub has_item_cycle-requires-clause-imports : goal.has_item_cycle-requires-clause-imports
has_item_cycle-requires-clause-imports c =
    joined_held c.args.types.now c.args.imports.now c.as_slice.result.now c.in-Ok.all c.requires.imports (subst (AreThere c.args.types.now) (sym c.as_slice.ensures.keys) c.requires.additional) c.in-Ok.ensures.joined

pub returns : goal.returns
returns c =
    let same = parted_with c.args.types.now c.args.uses.now c.len-own.result c.args.imports.now c.in-Ok.all c.args.exports.now c.args.additional.now.keys c.as_slice.result.now c.len-own.ensures c.as_slice.ensures.keys c.in-Ok.ensures.joined in
    subst (λ s. IfOk c.has_item_cycle.result (λ b. IsTrue b ↔ HasItemCycle c.args.types.now s)) same c.has_item_cycle.ensures
