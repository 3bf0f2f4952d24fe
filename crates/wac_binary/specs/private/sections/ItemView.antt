-- The values of the items that are to be written.
use Rattle.wac_binary.specs.Items.{Item, custom, core_type, nested, instantiate, alias_item, type_item, import_item, export_item}
use Rattle.wac_binary.specs.Views.{arguments_of}
use Rattle.wac_binary.specs.private.declarations.DeclView.{alias_of, type_of}
use Rattle.wac_binary.specs.declared.sections.item.ItemRef.{ItemRef}
use Rattle.wac_binary.specs.declared.sections.item.ItemRef.TheVariants as h
use Rattle.wac_binary.specs.declared.sections.item.AloneRef.{AloneRef}
use Rattle.wac_binary.specs.declared.sections.item.AloneRef.TheVariants as o

abbrev pub item_of : ItemRef → Item
item_of (h.CoreModule ds) = core_type ds.now
item_of (h.Instance c args) = instantiate c (arguments_of args.now)
item_of (h.Alias a) = alias_item (alias_of a)
item_of (h.Type t) = type_item (type_of t)
item_of (h.Import name d) = import_item name.now d
item_of (h.Export name t i) = export_item name.now t i

abbrev pub alone_of : AloneRef → Item
alone_of (o.Component bytes) = nested bytes.now
alone_of (o.Custom name bytes) = custom name.now bytes.now
