use Rattle.std.proofs.Common.{◌≡◌, ◌+◌, ℕ, List, [], ◌∷◌, ◌++◌, Option, slice_get, length, map, string_bytes, sym, ap, ◌∙◌, subst, inl, inr, arith}
use Rattle.std.specs.Global.{Global}
use Rattle.std.specs.Option.{option_map}
use Rattle.std.specs.declared.string.String.{String}
use Rattle.std.proofs.lemmas.List.{length-append, map-append}
use Rattle.wac_types_shapes.specs.primitives.Name.{Name}
use Rattle.wac_merge_imports.specs.unions.MergedClasses.{IsUnionId}
use Rattle.wac_merge_classes.proofs.lemmas.entries.Lists.{push-cases}
use Rattle.wac_merge_classes.proofs.lemmas.terms.Found.{mapped_length}
use Rattle.wac_merge_imports.proofs.unions.merged.union_ids.Goals as goal

pub loop-position-preserved : goal.loop-position-preserved
loop-position-preserved c =
    let ids : List (Option (String Global)) = c.loop-position.ids.items in
    let id : Option (String Global) = c.in_ok-union_id.field-0 in
    let items : c.push.new.self.items ≡ ids ++ id ∷ [] = c.in_ok-push.ensures.items in
    let view = option_map string_bytes in
    record {
      counted = ap length items ∙ (length-append ids (id ∷ []) ∙ ap (λ n. n + 1) c.loop-position.invariant.counted);
      ids = λ u x o here at. elim (push-cases (map view ids) (view id) u o (ap (λ l. slice_get l u) (sym (ap (map view) items ∙ map-append view ids (id ∷ []))) ∙ at)) [
        | inl before ↦ c.loop-position.invariant.ids u x o here before
        | inr last ↦
            let same : u ≡ c.loop-position.position = last.0 ∙ mapped_length view ids ∙ c.loop-position.invariant.counted in
            subst (λ (v : ℕ). IsUnionId c.args.types.now c.args.entries.now c.args.unions.now.parts.items v x o) (sym same)
            (subst (λ (y : Option Name). IsUnionId c.args.types.now c.args.entries.now c.args.unions.now.parts.items c.loop-position.position x y) (sym last.1)
            (c.in_ok-union_id.ensures x (ap (slice_get c.args.unions.now.unions.items) (sym same) ∙ here)))
      ];
    }

pub returns : goal.returns
returns c =
    let view = option_map string_bytes in
    record {
      counted = omega (arith, mapped_length view c.loop-position.ids.items, c.loop-position.invariant.counted);
      classes = λ k class x o known here at. (c.loop-position.invariant.ids k x o here at).0 class known;
      inner = λ u x o low here at. (c.loop-position.invariant.ids u x o here at).1 low;
    }
