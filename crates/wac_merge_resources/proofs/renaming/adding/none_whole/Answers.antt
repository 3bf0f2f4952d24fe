use Rattle.std.proofs.Common.{◌≡◌, ◌+◌, List, [], ◌∷◌, ◌++◌, length, Option, None, ap, ◌∙◌, subst, arith}
use Rattle.std.proofs.lemmas.List.{length-append}
use Rattle.wac_types_shapes.specs.declared.shapes.component.ResourceId.{ResourceId}
use Rattle.wac_merge_resources.specs.private.renaming.FreshSteps.{IsWhole}
use Rattle.wac_merge_resources.proofs.lemmas.renaming.FreshAdding.{none-begun, none-push}
use Rattle.wac_merge_resources.proofs.renaming.adding.none_whole.Goals as goal

pub loop-init : goal.loop-init
loop-init c = record { counted = ap length c.new-whole.ensures.items; none = none-begun c.new-whole.result.items c.new-whole.ensures.items }

pub loop-preserved : goal.loop-preserved
loop-preserved c =
    let whole : List (Option ResourceId) = c.loop.whole.items in
    let items : c.push.new.self.items ≡ whole ++ None ∷ [] = c.in_ok-push.ensures.items in
    record {
      counted = ap length items ∙ (length-append whole (None ∷ []) ∙ ap (λ n. n + 1) c.loop.invariant.counted);
      none = λ k w. none-push whole c.loop.invariant.none k (subst (λ (l : List (Option ResourceId)). IsWhole l k) items w);
    }

pub returns-clause-counted : goal.returns-clause-counted
returns-clause-counted c = let e = c.loop.invariant.counted in omega arith

pub returns-clause-none : goal.returns-clause-none
returns-clause-none c = c.loop.invariant.none
