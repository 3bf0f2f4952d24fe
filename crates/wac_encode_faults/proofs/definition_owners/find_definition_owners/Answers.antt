use Rattle.wac_encode_faults.proofs.ItemSteps.{value_held}
use Rattle.wac_encode_faults.proofs.OwnedSteps.{nothing_known}
use Rattle.wac_encode_faults.proofs.definition_owners.find_definition_owners.Goals as goal

pub loop-i-init : goal.loop-i-init
loop-i-init c = nothing_known c.args.types.now c.args.owners.now.entries c.new-known.result.entries c.new-known.ensures.empty

pub note_item-requires-clause-held : goal.note_item-requires-clause-held
note_item-requires-clause-held c = value_held c.args.types.now c.args.items.now c.loop-i.i c.value_at-item.result.now c.requires c.value_at-item.ensures
