use Rattle.std.proofs.Common.{sym}
use Rattle.wac_merge_tables.specs.private.tables.NodeViews.{item_view, listed}
use Rattle.wac_merge_agreement.proofs.lemmas.agreeing.Comparing.{open_sorted}
use Rattle.wac_merge_agreement.proofs.agreement.apart.export_of.Goals as goal

pub find_export-requires : goal.find_export-requires
find_export-requires c = open_sorted c.args.nodes.now c.table_law.ensures (item_view c.args.item) (listed c.in_ok-exports.field-0.now) (sym c.in_ok-exports.ensures)
