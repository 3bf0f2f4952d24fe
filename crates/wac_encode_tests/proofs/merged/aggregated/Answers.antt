use Rattle.std.specs.Prelude.{◌≡◌, true}
use Rattle.std.proofs.Common.{◌∙◌, ap, sym, subst, rules}
use Rattle.wac_types_shapes.specs.declared.shapes.component.«Type».{«Type» as AnyType}
use Rattle.wac_types_collection.specs.collection.Collection.{holds_type}
use Rattle.wac_merge.specs.Aggregate.{Aggregate}
use Rattle.wac_encode_tests.proofs.RootItems.{if-ok-is}
use Rattle.wac_encode_tests.proofs.RootMerges.{held-more}
use Rattle.wac_encode_tests.proofs.merged.aggregated.Goals as goal

pub loop-i-preserved : goal.loop-i-preserved
loop-i-preserved g c =
    let t = c.args.items.now.types in
    let made = if-ok-is _ c.aggregate.result c.expect-aggregator.result c.expect-aggregator.ensures c.aggregate.ensures in
    let held = subst (λ (a : AnyType). holds_type t a ≡ true) c.ty.ensures (sym c.contains.ensures ∙ search rules) in
    held-more t c.loop-i.aggregator.entries c.expect-aggregator.result.entries _ (ap (λ (a : Aggregate). a.entries) made) held c.loop-i.invariant
