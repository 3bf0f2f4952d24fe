-- The nodes of the table as values.
use Rattle.std.specs.Global.{Global}
use Rattle.std.specs.Prelude.{Vec, List, map, string_bytes, ℕ}
use Rattle.std.specs.Borrow.{Bor}
use Rattle.std.specs.declared.string.String.{String}
use Rattle.wac_types_shapes.specs.primitives.Name.{Name}
use Rattle.wac_types_shapes.specs.primitives.Core.{CoreItem, core_function, core_table, core_memory, core_global, core_tag}
use Rattle.wac_types_collection.specs.subtyping.CalledViews.{called_view}
use Rattle.wac_merge_tables.specs.declared.tables.nodes.Core.{Core}
use Rattle.wac_merge_tables.specs.declared.tables.nodes.Core.TheVariants as core
use Rattle.wac_merge_tables.specs.declared.tables.nodes.Item.{Item}
use Rattle.wac_merge_tables.specs.declared.tables.nodes.Item.TheVariants as item
use Rattle.wac_merge_tables.specs.declared.tables.nodes.Node.{Node}
use Rattle.wac_merge_tables.specs.declared.tables.nodes.Node.TheVariants as node
use Rattle.wac_merge_tables.specs.private.tables.Nodes as table

abbrev pub named : {V : Type 0} → List (Bor (List ℕ) × V) → List (Name × V)
named es = map (λ e. (e.0.now, e.1)) es

abbrev pub item_view : Item → table.Item
item_view (item.«Type» n) = table.a_type n
item_view (item.Func n) = table.a_func n
item_view (item.Instance n) = table.an_instance n
item_view (item.Component n) = table.a_component n
item_view (item.Module n) = table.a_module n
item_view (item.Value n) = table.a_value n

abbrev pub listed : List (Bor (List ℕ) × Item) → List (Name × table.Item)
listed es = map (λ e. (e.0.now, item_view e.1)) es

abbrev pub core_view : Core → CoreItem
core_view (core.Func params results) = core_function params.items results.items
core_view (core.Table element wide shared least most) = core_table element wide shared least most
core_view (core.Memory wide shared least most page) = core_memory wide shared least most page
core_view (core.Global value mutable shared) = core_global value mutable shared
core_view (core.Tag params results) = core_tag params.items results.items

abbrev pub core_items : {A : Type 0} → List (String A × Core) → List (Name × CoreItem)
core_items es = map (λ e. (string_bytes e.0, core_view e.1)) es

abbrev pub core_modules : List (String Global × Vec (String Global × Core) Global) → List (Name × List (Name × CoreItem))
core_modules ms = map (λ e. (string_bytes e.0, core_items e.1.items)) ms

abbrev pub node_view : Node → table.Node
node_view (node.Resource r) = table.of_resource (called_view r)
node_view (node.Primitive p) = table.of_primitive p
node_view (node.Own r) = table.of_own (called_view r)
node_view (node.Borrow r) = table.of_borrow (called_view r)
node_view (node.Record fields) = table.of_record (named fields.items)
node_view (node.Variant cases) = table.of_variant (named cases.items)
node_view (node.List n) = table.of_list n
node_view (node.FixedSizeList n k) = table.of_fixed_list k n
node_view (node.Tuple ns) = table.of_tuple ns.items
node_view (node.Flags names) = table.of_flags (map (λ n. n.now) names.items)
node_view (node.Enum names) = table.of_enum (map (λ n. n.now) names.items)
node_view (node.Option n) = table.of_option n
node_view (node.Result ok err) = table.of_result ok err
node_view (node.Stream n) = table.of_stream n
node_view (node.Future n) = table.of_future n
node_view (node.Func is_async params result) = table.of_function is_async (named params.items) result
node_view (node.Instance exports) = table.of_instance (listed exports.items)
node_view (node.Component imports exports) = table.of_component (listed imports.items) (listed exports.items)
node_view (node.Module imports exports) = table.of_module (core_modules imports.items) (core_items exports.items)
