use Rattle.std.proofs.lemmas.Result.{on_ok_weaker}
use Rattle.wac_encode_imports.proofs.Noted.{item-added, item-binds, item-has-none}
use Rattle.wac_encode_imports.proofs.told.Teller.note_item.Goals as goal

pub returns-in_default : goal.returns-in_default
returns-in_default c = item-has-none c.args.self.now c.args.position c.args.uses.now (c.args.name.now, c.args.item) c.args.others.now.items c.own_resource.result c.own_resource.ensures c.in_default.not-Some

pub returns-then-is_export : goal.returns-then-is_export
returns-then-is_export c = item-binds c.args.self.now c.args.position c.args.uses.now (c.args.name.now, c.args.item) c.args.others.now.items c.own_resource.result c.own_resource.ensures c.in-Some.resource c.in-Some.is (c.is_export.ensures c.if-is_export.true)

pub returns : goal.returns
returns c = on_ok_weaker c.add_other.result (λ adds. item-added c.args.self.now c.args.position c.args.uses.now (c.args.name.now, c.args.item) c.args.others.now.items c.add_other.new.others.items c.own_resource.result c.own_resource.ensures c.in-Some.resource c.in-Some.is adds) c.add_other.ensures
