use Rattle.std.proofs.Common.{◌≡◌, true, sym, subst}
use Rattle.std.proofs.lemmas.Result.{on_ok_weaker}
use Rattle.wac_types_shapes.specs.shapes.Kinds.{kind_type}
use Rattle.wac_types_shapes.specs.declared.shapes.component.«Type».{«Type» as AnyType}
use Rattle.wac_types_collection.specs.collection.Collection.{holds_type}
use Rattle.wac_encode_faults.specs.Free.{IsFree}
use Rattle.wac_encode_faults.specs.private.DefinitionOwners.{IsOwnerOfType}
use Rattle.wac_encode_faults.specs.private.Owners.{AddsSteps, KindUses}
use Rattle.wac_encode_faults.proofs.OwnedSteps.{steps_needed}
use Rattle.wac_encode_faults.proofs.cycle.add_steps_of_item.Goals as goal

pub add_steps_of_kind-requires-clause-held : goal.add_steps_of_kind-requires-clause-held
add_steps_of_kind-requires-clause-held c = subst (λ t. holds_type c.args.types.now t ≡ true) (sym c.ty.ensures) c.requires.held

pub returns : goal.returns
returns c =
    on_ok_weaker c.add_steps_of_kind.result
    (λ second. steps_needed (KindUses c.args.types.now c.args.item) (IsFree c.args.types.now (kind_type c.args.item)) c.args.suppliers.now.entries c.args.owners.now.entries c.args.from c.in_ok-used.used.keys c.args.targets.now c.add_steps_of_uses.new.targets c.add_steps_of_kind.new.targets c.in_ok-used.ensures c.in_ok-add_steps_of_uses.ensures
    (subst (λ (t : AnyType). AddsSteps c.args.from (IsOwnerOfType c.args.types.now c.args.owners.now.entries t) c.add_steps_of_uses.new.targets c.add_steps_of_kind.new.targets) c.ty.ensures second))
    c.add_steps_of_kind.ensures
