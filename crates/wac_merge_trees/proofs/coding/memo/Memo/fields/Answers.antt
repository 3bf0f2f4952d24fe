use Rattle.std.proofs.Common.{◌≡◌, ℕ, [], List, true, ap, refl, sym, subst}
use Rattle.std.specs.Borrow.{Bor}
use Rattle.std.specs.Option.{option_map}
use Rattle.wac_types_collection.specs.collection.Collection.{holds_value}
use Rattle.wac_merge_trees.specs.private.coding.Coding.{source_tree, values_of, AreFields, IsReady}
use Rattle.wac_merge_trees.proofs.lemmas.coding.CodingGrowth.{grown_none, grown_twice, right_grown}
use Rattle.wac_merge_trees.proofs.lemmas.coding.CodingLoops.{fields_more}
use Rattle.wac_merge_tables.proofs.lemmas.tables.TaskOpenings.{each_field}
use Rattle.wac_merge_trees.proofs.coding.memo.Memo.fields.Goals as goal

pub part-requires-clause-ready : goal.part-requires-clause-ready
part-requires-clause-ready c = each_field (IsReady c.args.self.now) c.args.fields.now c.loop-i.i c.entry_at.result.1.now (ap (option_map (λ e. e.1)) c.entry_at.ensures) c.requires.ready

pub part-requires-clause-right : goal.part-requires-clause-right
part-requires-clause-right c = right_grown (source_tree c.args.source.now) c.args.self.now c.args.nodes.now c.loop-i.nodes c.loop-i.invariant.grown c.requires.right

pub loop-i-preserved : goal.loop-i-preserved
loop-i-preserved c = record {
  grown = grown_twice c.args.nodes.now c.loop-i.nodes c.part.new.nodes c.loop-i.invariant.grown c.part.ensures.grown;
  numbers = fields_more (values_of (source_tree c.args.source.now)) c.loop-i.nodes c.part.new.nodes c.part.ensures.grown c.args.fields.now c.loop-i.i c.entry_at.result.0.now c.entry_at.result.1.now c.loop-i.numbers.items c.push.new.self.items c.entry_at.result.0 c.in_ok-number.number
      (ap (option_map (λ e. e.0)) c.entry_at.ensures) (ap (option_map (λ e. e.1)) c.entry_at.ensures) c.in_ok-push.ensures.items refl c.loop-i.invariant.numbers c.in_ok-number.ensures.number;
}

pub part-requires-clause-held : goal.part-requires-clause-held
part-requires-clause-held c = each_field (λ v. holds_value c.args.source.now.types.now v ≡ true) c.args.fields.now c.loop-i.i c.entry_at.result.1.now (ap (option_map (λ e. e.1)) c.entry_at.ensures) c.requires.held

pub loop-i-init : goal.loop-i-init
loop-i-init c = record {
  grown = grown_none c.args.nodes.now c.take_fields-numbers.new.self c.take_fields-numbers.ensures.same;
  numbers = subst (λ (es : List (Bor (List ℕ) × ℕ)). AreFields c.take_fields-numbers.new.self (values_of (source_tree c.args.source.now)) [] es) (sym c.take_fields-numbers.ensures.none) tt;
}
