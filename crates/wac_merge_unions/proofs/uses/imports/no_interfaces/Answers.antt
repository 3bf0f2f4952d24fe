use Rattle.std.proofs.Common.{◌≡◌, ◌+◌, List, Vec, [], ◌∷◌, ◌++◌, slice_get, length, map, sym, ap, ◌∙◌, inl, inr}
use Rattle.std.proofs.lemmas.List.{length-append, map-append}
use Rattle.std.specs.Global.{Global}
use Rattle.wac_types_shapes.specs.declared.shapes.component.InterfaceId.{InterfaceId}
use Rattle.wac_merge_classes.proofs.lemmas.entries.Lists.{push-cases}
use Rattle.wac_merge_unions.proofs.uses.imports.no_interfaces.Goals as goal

pub loop-preserved : goal.loop-preserved
loop-preserved c =
    let lists : List (Vec InterfaceId Global) = c.loop.lists.items in
    let items : c.push.new.self.items ≡ lists ++ c.new.result ∷ [] = c.in_ok-push.ensures.items in
    record {
      counted = ap length items ∙ (length-append lists (c.new.result ∷ []) ∙ ap (λ n. n + 1) c.loop.invariant.counted);
      empty = λ k is at. elim (push-cases (map (λ v. v.items) lists) c.new.result.items k is (ap (λ l. slice_get l k) (sym (ap (map (λ v. v.items)) items ∙ map-append (λ v. v.items) lists (c.new.result ∷ []))) ∙ at)) [
        | inl x ↦ c.loop.invariant.empty k is x
        | inr x ↦ x.1 ∙ c.new.ensures.items
      ];
    }
