use Rattle.std.proofs.Common.{◌+◌, [], ◌∷◌, take, get_or}
use Rattle.wac_types_shapes.specs.declared.primitives.component.PrimitiveType.TheVariants as primitive
use Rattle.wac_types_shapes.specs.declared.shapes.component.ValueType.{ValueType}
use Rattle.wac_types_shapes.specs.declared.shapes.component.ValueType.TheVariants as val
use Rattle.wac_merge_tables.proofs.lemmas.tables.TaskOpenings.{openings_more, values_take}
use Rattle.wac_merge_tables.proofs.tables.tasks.open_values.Goals as goal

pub loop-i-preserved : goal.loop-i-preserved
loop-i-preserved c =
    let vs = c.args.values.now in
    let i = c.loop-i.i in
    let d : ValueType = val.Primitive primitive.Bool in
    openings_more c.args.tasks.now.items c.loop-i.tasks.items c.open_value.new.tasks.items (take i vs) (get_or vs i d ∷ []) (take (i + 1) vs) (values_take vs i d c.loop-i-test.true) c.loop-i.invariant c.in_ok-open_value.ensures
