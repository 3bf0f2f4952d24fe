use Rattle.wac_types_shapes.specs.declared.primitives.component.PrimitiveType.TheVariants as primitive
use Rattle.wac_types_shapes.specs.declared.shapes.component.ValueType.TheVariants as val
use Rattle.wac_merge_trees.specs.private.coding.Coding.{source_tree, values_of}
use Rattle.wac_merge_trees.proofs.lemmas.coding.CodingGrowth.{grown_twice, right_grown}
use Rattle.wac_merge_trees.proofs.lemmas.coding.CodingLoops.{parts_more}
use Rattle.wac_merge_trees.proofs.coding.memo.Memo.parts.Goals as goal

pub part-requires-clause-right : goal.part-requires-clause-right
part-requires-clause-right c = right_grown (source_tree c.args.source.now) c.args.self.now c.args.nodes.now c.loop-i.nodes c.loop-i.invariant.grown c.requires.right

pub loop-i-preserved : goal.loop-i-preserved
loop-i-preserved c = record {
  grown = grown_twice c.args.nodes.now c.loop-i.nodes c.part.new.nodes c.loop-i.invariant.grown c.part.ensures.grown;
  numbers = parts_more (values_of (source_tree c.args.source.now)) c.loop-i.nodes c.part.new.nodes c.part.ensures.grown c.args.values.now c.loop-i.i (val.Primitive primitive.Bool) c.loop-i.numbers.items c.push.new.self.items c.in_ok-number.number
      c.loop-i-test.true c.in_ok-push.ensures.items c.loop-i.invariant.numbers c.in_ok-number.ensures.number;
}
