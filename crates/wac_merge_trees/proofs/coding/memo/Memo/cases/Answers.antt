use Rattle.std.proofs.Common.{◌≡◌, true, ap, refl}
use Rattle.std.specs.Option.{option_map}
use Rattle.wac_types_collection.specs.collection.Collection.{holds_value}
use Rattle.wac_merge_trees.specs.private.coding.Coding.{source_tree, values_of, IsReady}
use Rattle.wac_merge_trees.proofs.lemmas.coding.CodingGrowth.{grown_twice, right_grown}
use Rattle.wac_merge_trees.proofs.lemmas.coding.CodingLoops.{cases_more}
use Rattle.wac_merge_tables.proofs.lemmas.tables.TaskOpenings.{each_case}
use Rattle.wac_merge_trees.proofs.coding.memo.Memo.cases.Goals as goal

pub optional-requires-clause-ready : goal.optional-requires-clause-ready
optional-requires-clause-ready c = each_case (IsReady c.args.self.now) c.args.cases.now c.loop-i.i c.entry_at.result.1.now (ap (option_map (λ e. e.1)) c.entry_at.ensures) c.requires.ready

pub optional-requires-clause-right : goal.optional-requires-clause-right
optional-requires-clause-right c = right_grown (source_tree c.args.source.now) c.args.self.now c.args.nodes.now c.loop-i.nodes c.loop-i.invariant.grown c.requires.right

pub loop-i-preserved : goal.loop-i-preserved
loop-i-preserved c = record {
  grown = grown_twice c.args.nodes.now c.loop-i.nodes c.optional.new.nodes c.loop-i.invariant.grown c.optional.ensures.grown;
  numbers = cases_more (values_of (source_tree c.args.source.now)) c.loop-i.nodes c.optional.new.nodes c.optional.ensures.grown c.args.cases.now c.loop-i.i c.entry_at.result.0.now c.entry_at.result.1.now c.loop-i.numbers.items c.push.new.self.items c.entry_at.result.0 c.in_ok-number.number
      (ap (option_map (λ e. e.0)) c.entry_at.ensures) (ap (option_map (λ e. e.1)) c.entry_at.ensures) c.in_ok-push.ensures.items refl c.loop-i.invariant.numbers c.in_ok-number.ensures.number;
}

pub optional-requires-clause-held : goal.optional-requires-clause-held
optional-requires-clause-held c = each_case (λ v. holds_value c.args.source.now.types.now v ≡ true) c.args.cases.now c.loop-i.i c.entry_at.result.1.now (ap (option_map (λ e. e.1)) c.entry_at.ensures) c.requires.held
