-- The input of an item's hash. Only contracts inside the merge cite this file.
use Rattle.std.proofs.Common.{◌≡◌, true, ap}
use Rattle.std.proofs.lemmas.Bool.{eqb-true}
use Rattle.std.specs.Hash as fed
use Rattle.std.specs.Hash.{HashWrites}
use Rattle.wac_merge_tables.specs.contracts.tables.nodes.ItemPartialEq.TheImpl as ItemEq
use Rattle.wac_merge_tables.specs.declared.tables.nodes.Item.{Item}
use Rattle.wac_merge_tables.specs.declared.tables.nodes.Item.TheVariants as item
use Rattle.wac_merge_tables.specs.private.tables.Nodes.{type_of}
use Rattle.wac_merge_tables.specs.private.tables.NodeViews.{item_view}

-- The number of its type, without the sort.
abbrev pub item_writes : Item → HashWrites
item_writes x = fed.usize (type_of (item_view x))

-- Equal items have the same input.
pub item_alike : (a b : Item) → (ItemEq.ghosts).eq a b ≡ true → item_writes a ≡ item_writes b
item_alike (item.«Type» a) (item.«Type» b) e = ap fed.usize (eqb-true a b e)
item_alike (item.Func a) (item.Func b) e = ap fed.usize (eqb-true a b e)
item_alike (item.Instance a) (item.Instance b) e = ap fed.usize (eqb-true a b e)
item_alike (item.Component a) (item.Component b) e = ap fed.usize (eqb-true a b e)
item_alike (item.Module a) (item.Module b) e = ap fed.usize (eqb-true a b e)
item_alike (item.Value a) (item.Value b) e = ap fed.usize (eqb-true a b e)
item_alike _ _ e = cc e
