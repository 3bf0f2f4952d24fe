use Rattle.std.proofs.Common.{◌∙◌, sym, rules}
use Rattle.wac_types_shapes.specs.declared.shapes.component.«Type».TheVariants as ty
use Rattle.wac_types_collection.specs.collection.Held.{resolved}
use Rattle.wac_encode_tests.proofs.HandWritten.{held-as, import-after, ready-as}
use Rattle.wac_encode_tests.proofs.by_hand.imported.Goals as goal

pub import_resource-written-requires-clause-held : goal.import_resource-written-requires-clause-held
import_resource-written-requires-clause-held g c = held-as c.args.items.now.types c.new-encoder.result.types.now (ty.Resource c.resource-resource.result) c.new-encoder.ensures.types (sym c.contains.ensures ∙ search rules)

pub import_resource-written-requires-clause-state : goal.import_resource-written-requires-clause-state
import_resource-written-requires-clause-state g c = ready-as c.args.items.now.types c.new-encoder.result.types.now c.args.merged c.new-encoder.result.merged c.args.state.now c.new-encoder.ensures.types c.new-encoder.ensures.merged c.requires

pub returns : goal.returns
returns g c =
    import-after c.args.items.now.types c.new-encoder.result.types.now c.args.merged c.new-encoder.result.merged c.args.name.now (resolved c.new-encoder.result.types.now c.resource-resource.result)
    c.args.state.now c.import_resource-written.new.state c.import_resource-written.result c.expect.result c.new-encoder.ensures.types c.new-encoder.ensures.merged c.expect.ensures c.import_resource-written.ensures.imports c.requires
