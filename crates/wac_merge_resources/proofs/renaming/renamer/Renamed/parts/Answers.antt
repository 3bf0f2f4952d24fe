use Rattle.wac_types_shapes.specs.declared.primitives.component.PrimitiveType.TheVariants as primitive
use Rattle.wac_types_shapes.specs.declared.shapes.component.ValueType.TheVariants as val
use Rattle.wac_merge_resources.specs.private.renaming.RenamingSteps.{IsBecome}
use Rattle.wac_merge_resources.proofs.lemmas.renaming.RenamingLoops.{parts_further}
use Rattle.wac_merge_resources.proofs.renaming.renamer.Renamed.parts.Goals as goal

pub loop-i-preserved : goal.loop-i-preserved
loop-i-preserved c =
    parts_further (IsBecome c.args.renaming.now c.args.self.now) c.args.values.now c.loop-i.i (val.Primitive primitive.Bool) c.loop-i.renamed.items c.push.new.self.items c.part.result c.loop-i-test.true c.in_ok-push.ensures.items c.loop-i.invariant c.part.ensures
