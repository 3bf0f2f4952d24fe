use Rattle.std.proofs.Common.{◌≡◌, ◌+◌, List, [], ◌∷◌, ◌++◌, slice_get, length, sym, ap, ◌∙◌, inl, inr}
use Rattle.std.proofs.lemmas.List.{length-append}
use Rattle.wac_types_shapes.specs.primitives.Tree.{Leaf}
use Rattle.wac_types_shapes.specs.declared.shapes.component.ResourceId.{ResourceId}
use Rattle.wac_merge_classes.proofs.lemmas.entries.Lists.{push-cases}
use Rattle.wac_merge_classes.proofs.entries.bindings.unbound.Goals as goal

pub loop-preserved : goal.loop-preserved
loop-preserved c =
    let classes : List (List (ResourceId × Leaf)) = c.loop.classes.items in
    let items : c.push.new.self.items ≡ classes ++ c.new.result ∷ [] = c.in_ok-push.ensures.items in
    record {
      counted = ap length items ∙ (length-append classes (c.new.result ∷ []) ∙ ap (λ n. n + 1) c.loop.invariant.counted);
      empty = λ k m at. elim (push-cases classes c.new.result k m (ap (λ l. slice_get l k) (sym items) ∙ at)) [
        | inl x ↦ c.loop.invariant.empty k m x
        | inr x ↦ x.1 ∙ c.new.ensures
      ];
    }
