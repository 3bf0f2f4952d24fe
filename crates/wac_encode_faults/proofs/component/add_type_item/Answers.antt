use Rattle.std.proofs.lemmas.Result.{on_ok_weaker}
use Rattle.wac_encode_faults.proofs.ComponentFaults.{type_added, no_type_added}
use Rattle.wac_encode_faults.proofs.component.add_type_item.Goals as goal

pub returns-in-TypeItem : goal.returns-in-TypeItem
returns-in-TypeItem c = on_ok_weaker c.add_type.result (λ adds. type_added c.args.item c.args.found.now.keys c.in-TypeItem.ty c.add_type.new.found.keys c.in-TypeItem.is adds) c.add_type.ensures

pub returns-in_default : goal.returns-in_default
returns-in_default c = no_type_added c.args.item c.args.found.now.keys c.in_default.not-TypeItem
