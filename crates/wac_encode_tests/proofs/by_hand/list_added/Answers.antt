use Rattle.wac_types_shapes.specs.declared.shapes.component.DefinedType.TheVariants as def
use Rattle.wac_encode_tests.proofs.HandWritten.{grown-ready}
use Rattle.wac_encode_tests.proofs.by_hand.list_added.Goals as goal

pub returns : goal.returns
returns g c =
    grown-ready c.growth_law.ensures.grown c.growth_law.ensures.added c.args.types.now c.add_defined_type-list.new.self c.args.merged c.args.state.now (def.List c.args.part) c.add_defined_type-list.result c.expect.result c.expect.ensures
    c.add_defined_type-list.ensures.added c.law.ensures c.requires
