use Rattle.std.proofs.Common.{◌∙◌, sym, rules}
use Rattle.wac_encode_tests.proofs.RootItems.{interface-there, interface-at, instance-told, on-ok-is}
use Rattle.wac_encode_tests.proofs.opened.import_instance.Goals as goal

pub tell_instance-requires-clause-closed : goal.tell_instance-requires-clause-closed
tell_instance-requires-clause-closed g c = c.requires.closed

pub tell_instance-requires-clause-held : goal.tell_instance-requires-clause-held
tell_instance-requires-clause-held g c = interface-there c.args.items.now.types c.args.id (sym c.contains.ensures ∙ search rules)

pub returns : goal.returns
returns g c =
    let k = c.args.items.now.types in
    let it = interface-at k c.args.id (interface-there k c.args.id (sym c.contains.ensures ∙ search rules)) in
    instance-told c.instance_law.ensures.shows_whole k c.law.ensures c.args.merged c.import_item-imported.new.state c.tell_instance.new.self c.args.id it.0 c.import_item-imported.result c.unbound_resources-own.result.keys
    it.1 c.unbound_resources-own.ensures c.import_item-imported.ensures.root c.import_item-imported.ensures.refers
    (on-ok-is c.tell_instance.result c.expect.result c.expect.ensures c.tell_instance.ensures.tells it.0 it.1) c.tell_instance.ensures.types
