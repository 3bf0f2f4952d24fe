-- Types of a collection weigh no more in a collection that begins with it.
use Rattle.std.proofs.Common.{ℕ, zero, suc, ◌+◌, ◌<◌, ◌≤◌, true, if◌then◌else◌, is_some, List, [], ◌++◌, length, ◌≡◌, inl, inr, refl, ap, subst, arith}
use Rattle.std.proofs.lemmas.Bool.{cases_Bool}
use Rattle.std.specs.List.{sum_by}
use Rattle.wac_types_shapes.specs.primitives.Name.{option_case}
use Rattle.wac_types_shapes.specs.declared.shapes.component.DefinedType.{DefinedType}
use Rattle.wac_types_shapes.specs.declared.shapes.component.FuncType.{FuncType}
use Rattle.wac_types_shapes.specs.declared.shapes.component.ValueType.TheVariants as val
use Rattle.wac_types_shapes.specs.declared.shapes.component.«Type».{«Type» as AnyType}
use Rattle.wac_types_shapes.specs.declared.shapes.component.«Type».TheVariants as ty
use Rattle.wac_types_collection.specs.collection.Collection.{Collection, IsWellFormed, defined_mentions, func_mentions, holds_type, interface_mentions, item_of, kind_types, resource_mentions, world_mentions}
use Rattle.wac_types_collection.specs.collection.Held.{source_of}
use Rattle.wac_types_collection.specs.reach.Reach.{IsIn, mentions}
use Rattle.wac_types_collection.specs.subtyping.Ranks.{type_rank}
use Rattle.wac_types_collection.specs.private.subtyping.Extended.{IsExtended}
use Rattle.wac_types_collection.proofs.lemmas.reach.Reaching.{mentioned_held}
use Rattle.wac_types_weight.specs.Weight.{defined_parts, interface_parts, is_scope, module_parts, named_parts, near_all, world_parts}
use Rattle.wac_types_weight.specs.Text.{entry_weight, inner_weight, item_types, items_of, own_text, own_texts, scope_weight}
use Rattle.wac_types_weight.specs.private.Laws.{Covers, IsNearClosed}
use Rattle.wac_types_weight.proofs.Near.{from_contains, near-is-least, near_closed, near_holds, near_there}
use Rattle.wac_types_weight.proofs.Scopes.{item_held, item_rank, plain-has-none, scope-weighs-its-parts}
use Rattle.wac_types_weight.proofs.Sums.{sum_in, sum_same}
use Rattle.wac_merge_classes.proofs.lemmas.entries.Opening.{below}
use Rattle.wac_merge_tables.proofs.lemmas.made.Extending.{kept_get, still_holds}

-- what is near held types is held
pub near_held : (c : Collection) → IsWellFormed c → (ts : List AnyType) → ((t : AnyType) → IsIn t ts → holds_type c t ≡ true) → (t : AnyType) → IsIn t (near_all c ts) → holds_type c t ≡ true
near_held c wf ts held = near_holds c (λ t. holds_type c t ≡ true) (λ t u h w plain. mentioned_held c wf t u h w) ts (λ t h plain. held t h)

module _ (c m : Collection) (wf : IsWellFormed c) (wfm : IsWellFormed m) (x : IsExtended c m) where
  same_mentions : (t : AnyType) → holds_type c t ≡ true → mentions m t ≡ mentions c t
  same_mentions (ty.Resource r) h = ap (λ o. option_case (item_of o) [] resource_mentions) (kept_get c.resources m.resources x.kept.resources r.0 (below r.0 (length c.resources) h))
  same_mentions (ty.Func f) h = ap (λ o. option_case (item_of o) [] func_mentions) (kept_get c.funcs m.funcs x.kept.funcs f.0 (below f.0 (length c.funcs) h))
  same_mentions (ty.Value (val.Primitive p)) h = refl
  same_mentions (ty.Value (val.Own r)) h = refl
  same_mentions (ty.Value (val.Borrow r)) h = refl
  same_mentions (ty.Value (val.Defined d)) h = ap (λ o. option_case (item_of o) [] defined_mentions) (kept_get c.defined m.defined x.kept.defined d.0 (below d.0 (length c.defined) h))
  same_mentions (ty.Interface i) h = ap (λ o. option_case (item_of o) [] interface_mentions) (kept_get c.interfaces m.interfaces x.kept.interfaces i.0 (below i.0 (length c.interfaces) h))
  same_mentions (ty.World w) h = ap (λ o. option_case (item_of o) [] world_mentions) (kept_get c.worlds m.worlds x.kept.worlds w.0 (below w.0 (length c.worlds) h))
  same_mentions (ty.Module k) h = refl

  same_text : (t : AnyType) → holds_type c t ≡ true → own_text m t ≡ own_text c t
  same_text (ty.Resource r) h = ap (λ o. if is_some (source_of o) then 0 else option_case (item_of o) 0 (λ z. 1)) (kept_get c.resources m.resources x.kept.resources r.0 (below r.0 (length c.resources) h))
  same_text (ty.Func f) h = ap (λ o. option_case (item_of o) 0 (λ (z : FuncType). 1 + named_parts z.params)) (kept_get c.funcs m.funcs x.kept.funcs f.0 (below f.0 (length c.funcs) h))
  same_text (ty.Value (val.Primitive p)) h = refl
  same_text (ty.Value (val.Own r)) h = refl
  same_text (ty.Value (val.Borrow r)) h = refl
  same_text (ty.Value (val.Defined d)) h = ap (λ o. option_case (item_of o) 0 (λ (z : DefinedType). 1 + defined_parts z)) (kept_get c.defined m.defined x.kept.defined d.0 (below d.0 (length c.defined) h))
  same_text (ty.Interface i) h = ap (λ o. option_case (item_of o) 0 (λ z. 1 + interface_parts z)) (kept_get c.interfaces m.interfaces x.kept.interfaces i.0 (below i.0 (length c.interfaces) h))
  same_text (ty.World w) h = ap (λ o. option_case (item_of o) 0 (λ z. 1 + world_parts z)) (kept_get c.worlds m.worlds x.kept.worlds w.0 (below w.0 (length c.worlds) h))
  same_text (ty.Module k) h = ap (λ o. option_case (item_of o) 0 (λ z. 1 + module_parts z)) (kept_get c.modules m.modules x.kept.modules k.0 (below k.0 (length c.modules) h))

  pub same_items : (t : AnyType) → holds_type c t ≡ true → items_of m t ≡ items_of c t
  same_items (ty.Resource r) h = refl
  same_items (ty.Func f) h = refl
  same_items (ty.Value v) h = refl
  same_items (ty.Interface i) h = ap (λ o. option_case (item_of o) [] (λ z. z.exports)) (kept_get c.interfaces m.interfaces x.kept.interfaces i.0 (below i.0 (length c.interfaces) h))
  same_items (ty.World w) h = ap (λ o. option_case (item_of o) [] (λ z. z.imports) ++ option_case (item_of o) [] (λ z. z.exports)) (kept_get c.worlds m.worlds x.kept.worlds w.0 (below w.0 (length c.worlds) h))
  same_items (ty.Module k) h = refl

  -- what is near held types weighs no more
  near_kept : (ts : List AnyType) → ((t : AnyType) → IsIn t ts → holds_type c t ≡ true) → own_texts m (near_all m ts) ≤ own_texts c (near_all c ts)
  near_kept ts held =
      let least = near-is-least m ts (near_all c ts) covered in
      let same = sum_same (own_text m) (own_text c) (near_all c ts) (λ t h. same_text t (near_held c wf ts held t (from_contains t (near_all c ts) h))) in
      omega (arith, least, same)
    where
      closed : IsNearClosed m (near_all c ts)
      closed t u h w plain = near_closed c wf ts t u h (subst (IsIn u) (same_mentions t (near_held c wf ts held t h)) w) plain

      covered : (t : AnyType) → IsIn t ts → Covers m (near_all c ts) t
      covered t h = record { closed = closed; there = λ plain. near_there c ts t h plain }

  -- an interface or a world weighs no more inside, if those in it do not
  inside_kept : (t : AnyType) → holds_type c t ≡ true → ((u : AnyType) → IsIn u (item_types c t) → scope_weight m u ≤ scope_weight c u) → inner_weight m t ≤ inner_weight c t
  inside_kept t held less =
      let types : item_types m t ≡ item_types c t = ap kind_types (same_items t held) in
      let near = near_kept (item_types c t) (λ u h. item_held c wf t u held h) in
      let sums = sum_in (scope_weight m) (scope_weight c) (item_types c t) (λ u h. less u (from_contains u (item_types c t) h)) in
      let here : inner_weight m t ≡ own_texts m (near_all m (item_types c t)) + sum_by (scope_weight m) (item_types c t) = ap (λ us. own_texts m (near_all m us) + sum_by (scope_weight m) us) types in
      omega (arith, near, sums, here)

  scope_to : (n : ℕ) (t : AnyType) → holds_type c t ≡ true → type_rank c t < n → scope_weight m t ≤ scope_weight c t
  scope_to zero t held low = absurd (omega (arith, low))
  scope_to (suc n) t held low =
      let inside = inside_kept t held (λ u h. let less = item_rank c wf t u h in scope_to n u (item_held c wf t u held h) (omega (arith, less, low))) in
      elim (cases_Bool (is_scope t)) [
        | inl scope ↦
            let here = scope-weighs-its-parts m t wfm (still_holds c m x t held) scope in
            let there = scope-weighs-its-parts c t wf held scope in
            let items : entry_weight m t ≡ entry_weight c t = ap named_parts (same_items t held) in
            omega (arith, inside, here, there, items)
        | inr plain ↦ let none = plain-has-none m t plain in omega (arith, none)
      ]

  pub scope_kept : (t : AnyType) → holds_type c t ≡ true → scope_weight m t ≤ scope_weight c t
  scope_kept t held = scope_to (suc (type_rank c t)) t held (omega arith)

  pub inner_kept : (t : AnyType) → holds_type c t ≡ true → inner_weight m t ≤ inner_weight c t
  inner_kept t held = inside_kept t held (λ u h. scope_kept u (item_held c wf t u held h))
