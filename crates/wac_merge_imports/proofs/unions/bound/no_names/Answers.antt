use Rattle.std.proofs.Common.{◌≡◌, ◌+◌, List, [], ◌∷◌, ◌++◌, slice_get, length, sym, ap, ◌∙◌, inl, inr}
use Rattle.std.proofs.lemmas.List.{length-append}
use Rattle.wac_merge_classes.proofs.lemmas.entries.Lists.{push-cases}
use Rattle.wac_merge_imports.specs.private.unions.BoundNames.{NameSet}
use Rattle.wac_merge_imports.proofs.unions.bound.no_names.Goals as goal

pub loop-preserved : goal.loop-preserved
loop-preserved c =
    let all : List NameSet = c.loop.all.items in
    let items : c.push.new.self.items ≡ all ++ c.new.result ∷ [] = c.in_ok-push.ensures.items in
    record {
      counted = ap length items ∙ (length-append all (c.new.result ∷ []) ∙ ap (λ n. n + 1) c.loop.invariant.counted);
      empty = λ k ns at. elim (push-cases all c.new.result k ns (ap (λ l. slice_get l k) (sym items) ∙ at)) [
        | inl x ↦ c.loop.invariant.empty k ns x
        | inr x ↦ x.1 ∙ c.new.ensures
      ];
    }
