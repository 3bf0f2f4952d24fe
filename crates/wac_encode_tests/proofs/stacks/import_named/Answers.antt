use Rattle.wac_types_shapes.specs.declared.shapes.component.ValueType.TheVariants as val
use Rattle.wac_binary.specs.declared.sorts.Description.TheVariants as e
use Rattle.std.proofs.Common.{true, subst}
use Rattle.wac_encode_scopes.specs.Roots.{ImportsItem}
use Rattle.wac_encode_values.specs.private.Values.{IsWrittenAs}
use Rattle.wac_encode_tests.proofs.OpenScopes.{named-good, root-types, right-import, on-ok-is, if-ok-is}
use Rattle.wac_encode_tests.proofs.stacks.import_named.Goals as goal

pub import-item-requires : goal.import-item-requires
import-item-requires g c = root-types c.args.state.now.here.content c.write_value.new.state.here.content c.write_value.ensures.types.0 c.requires.right.root

pub returns : goal.returns
returns g c =
    let t = c.args.types.now in
    let a = c.write_value.new.state in
    let b = c.import-item.new.self in
    let d = c.record.new.self in
    let v = val.Defined c.args.id in
    let w = subst (IsWrittenAs t true a v) c.in-Index.is c.write_value.ensures.written in
    let imports = if-ok-is (ImportsItem (e.Equal c.in-Index.index) a b) c.import-item.result c.expect-item.result c.expect-item.ensures c.import-item.ensures.imports in
    let good = named-good c.bringing_law.ensures.good_once t a b d v c.in-Index.index c.expect-item.result c.write_value.ensures.good.0 c.write_value.ensures.good.1 w imports (on-ok-is c.record.result c.expect.result c.expect.ensures c.record.ensures.goes t) in
    right-import t c.args.state.now a b d c.args.name.now (e.Equal c.in-Index.index) c.requires.right.bottom c.write_value.ensures.types (on-ok-is c.import-item.result c.expect-item.result c.expect-item.ensures c.import-item.ensures.content) (on-ok-is c.import-item.result c.expect-item.result c.expect-item.ensures c.import-item.ensures.records).0 c.record.ensures.types good
