-- The types that are found.
use Rattle.std.specs.Prelude.{slice_get}
use Rattle.std.proofs.Common.{ℕ, zero, suc, ◌+◌, ◌<◌, ◌≤◌, ◌≡◌, ◌⊎◌, inl, inr, true, List, [], ◌∷◌, ◌++◌, Option, Some, None, length, map, refl, ap, sym, ◌∙◌, subst, arith}
use Rattle.wac_types_shapes.specs.primitives.Name.{Name, option_case}
use Rattle.wac_types_shapes.specs.declared.shapes.component.Interface.{Interface}
use Rattle.wac_types_shapes.specs.declared.shapes.component.ItemKind.{ItemKind}
use Rattle.wac_types_shapes.specs.declared.shapes.component.ItemKind.TheVariants as kind
use Rattle.wac_types_shapes.specs.declared.shapes.component.ValueType.{ValueType}
use Rattle.wac_types_shapes.specs.declared.shapes.component.ValueType.TheVariants as val
use Rattle.wac_types_shapes.specs.declared.shapes.component.«Type».{«Type» as AnyType}
use Rattle.wac_types_shapes.specs.declared.shapes.component.«Type».TheVariants as ty
use Rattle.wac_types_collection.specs.collection.Collection.{Collection, IsWellFormed, holds_type, holds_value, item_at, used_types, kind_types, interface_mentions}
use Rattle.wac_types_collection.specs.collection.Aliases.{value_resolved, handle_resolved, type_resolved}
use Rattle.wac_types_collection.specs.reach.Reach.{IsIn}
use Rattle.wac_types_collection.specs.private.reach.Found.{with_all}
use Rattle.wac_types_collection.proofs.lemmas.collection.Ends.{end_is_held, resource_end_is_held}
use Rattle.wac_types_collection.proofs.lemmas.reach.Lists.{in_right, in_at, at_in, all_old, all_new, all_only, all_grown}
use Rattle.wac_types_collection.proofs.lemmas.reach.Reaching.{mentioned_held}
use Rattle.wac_encode_order.specs.private.TypeItems.{made_of, IsTypeItemAt}
use Rattle.wac_encode_order.specs.private.Graph.{AllHeld, HaveItems, AreReached}
use Rattle.wac_encode_order.proofs.Lists.{within, below-or-last}

-- ---- resolved types are of the collection
handle-held : (c : Collection) → IsWellFormed c → (v : ValueType) → holds_value c v ≡ true → holds_value c (handle_resolved c v) ≡ true
handle-held c wf (val.Primitive p) h = h
handle-held c wf (val.Defined d) h = h
handle-held c wf (val.Own r) h = resource_end_is_held c wf r true h ∙ h
handle-held c wf (val.Borrow r) h = resource_end_is_held c wf r true h ∙ h

pub resolved-held : (c : Collection) → IsWellFormed c → (t : AnyType) → holds_type c t ≡ true → holds_type c (type_resolved c t) ≡ true
resolved-held c wf (ty.Resource r) h = resource_end_is_held c wf r true h ∙ h
resolved-held c wf (ty.Value v) h = handle-held c wf (value_resolved c v) (end_is_held c wf v true h ∙ h)
resolved-held c wf (ty.Func f) h = h
resolved-held c wf (ty.Interface i) h = h
resolved-held c wf (ty.World w) h = h
resolved-held c wf (ty.Module m) h = h

exports-mentioned : (o : Option Interface) (u : AnyType) → IsIn u (kind_types (option_case o [] (λ x. x.exports))) → IsIn u (option_case o [] interface_mentions)
exports-mentioned None u h = h
exports-mentioned (Some it) u h = in_right u (used_types it.uses) (kind_types it.exports) h

pub part-held : (c : Collection) → IsWellFormed c → (t u : AnyType) → holds_type c t ≡ true → IsIn u (made_of c t) → holds_type c u ≡ true
part-held c wf (ty.Func f) u held h = mentioned_held c wf (ty.Func f) u held h
part-held c wf (ty.Value v) u held h = mentioned_held c wf (ty.Value v) u held h
part-held c wf (ty.Interface i) u held h = mentioned_held c wf (ty.Interface i) u held (exports-mentioned (item_at c.interfaces i.0) u h)
part-held c wf (ty.Resource r) u held h = absurd h
part-held c wf (ty.World w) u held h = absurd h
part-held c wf (ty.Module m) u held h = absurd h

-- ---- the type items
pub no-items : (c : Collection) (es : List (Name × ItemKind)) (ts : List AnyType) → HaveItems c es 0 ts
no-items c es ts p t less item = absurd (omega (arith, less))

pub item-passed : (c : Collection) (es : List (Name × ItemKind)) (n : ℕ) (ts : List AnyType) → ((t : AnyType) → IsTypeItemAt es n t → ⊥) → HaveItems c es n ts → HaveItems c es (n + 1) ts
item-passed c es n ts none before p t less item = elim (below-or-last p n less) [ inl low ↦ before p t low item | inr same ↦ absurd (none t (subst (λ (q : ℕ). IsTypeItemAt es q t) same item)) ]

pub item-added : (c : Collection) (es : List (Name × ItemKind)) (n : ℕ) (t : AnyType) (ts new : List AnyType) → ((s : AnyType) → IsTypeItemAt es n s → s ≡ t) → HaveItems c es n ts → new ≡ with_all ts (type_resolved c t ∷ []) → HaveItems c es (n + 1) new
item-added c es n t ts new one before is p s less item = subst (IsIn (type_resolved c s)) (sym is) (by_place (below-or-last p n less))
  where
    by_place : (p < n) ⊎ (p ≡ n) → IsIn (type_resolved c s) (with_all ts (type_resolved c t ∷ []))
    by_place (inl low) = all_old ts (type_resolved c t ∷ []) (type_resolved c s) (before p s low item)
    by_place (inr same) = all_new ts (type_resolved c t ∷ []) (type_resolved c s) (inl (ap (type_resolved c) (one s (subst (λ (q : ℕ). IsTypeItemAt es q s) same item))))

pub held-added : (c : Collection) → IsWellFormed c → (t : AnyType) (ts new : List AnyType) → holds_type c t ≡ true → AllHeld c ts → new ≡ with_all ts (type_resolved c t ∷ []) → AllHeld c new
held-added c wf t ts new holds before is u h = elim (all_only ts (type_resolved c t ∷ []) u (subst (IsIn u) is h)) [
  | inl old ↦ before u old
  | inr (inl same) ↦ subst (λ (x : AnyType). holds_type c x ≡ true) (sym same) (resolved-held c wf t holds)
  | inr (inr none) ↦ absurd none
]

-- ---- the search
pub record IsSearched (c : Collection) (es : List (Name × ItemKind)) (ts : List AnyType) (next : ℕ) : Type 0 where
  pub items : HaveItems c es (length es) ts
  pub held : AllHeld c ts
  pub closed : (i : ℕ) (t u : AnyType) → i < next → slice_get ts i ≡ Some t → IsIn u (made_of c t) → IsIn (type_resolved c u) ts

pub search-first : (c : Collection) (es : List (Name × ItemKind)) (ts : List AnyType) → HaveItems c es (length es) ts → AllHeld c ts → IsSearched c es ts 0
search-first c es ts items held = record { items = items; held = held; closed = λ i t u less. absurd (omega (arith, less)) }

resolved-in : (c : Collection) (u : AnyType) (us : List AnyType) → IsIn u us → IsIn (type_resolved c u) (map (type_resolved c) us)
resolved-in c u [] h = absurd h
resolved-in c u (v ∷ us) (inl same) = inl (ap (type_resolved c) same)
resolved-in c u (v ∷ us) (inr h) = inr (resolved-in c u us h)

in-resolved : (c : Collection) (t : AnyType) (us : List AnyType) → IsIn t (map (type_resolved c) us) → (u : AnyType) × IsIn u us × (t ≡ type_resolved c u)
in-resolved c t [] h = absurd h
in-resolved c t (v ∷ us) (inl same) = (v, inl refl, same)
in-resolved c t (v ∷ us) (inr h) = let found = in-resolved c t us h in (found.0, inr found.1, found.2)

lower-place : (xs more : List AnyType) (i n : ℕ) (a b : AnyType) → i < n → slice_get xs n ≡ Some a → slice_get (xs ++ more) i ≡ Some b → slice_get xs i ≡ Some b
lower-place [] more i n a b less is also = let none_some : None ≡ Some a = is in cc
lower-place (x ∷ xs) more zero n a b less is also = also
lower-place (x ∷ xs) more (suc i) zero a b less is also = absurd (omega (arith, less))
lower-place (x ∷ xs) more (suc i) (suc n) a b less is also = lower-place xs more i n a b (omega (arith, less)) is also

same-place : (xs more : List AnyType) (n : ℕ) (a b : AnyType) → slice_get xs n ≡ Some a → slice_get (xs ++ more) n ≡ Some b → b ≡ a
same-place [] more n a b is also = let none_some : None ≡ Some a = is in cc
same-place (x ∷ xs) more zero a b is also = let one : Some x ≡ Some a = is in let two : Some x ≡ Some b = also in let left : x ≡ a = cc in let right : x ≡ b = cc in sym right ∙ left
same-place (x ∷ xs) more (suc n) a b is also = same-place xs more n a b is also

module _ (c : Collection) (wf : IsWellFormed c) (es : List (Name × ItemKind)) (ts : List AnyType) (n : ℕ) (s : AnyType) (at : slice_get ts n ≡ Some s) (before : IsSearched c es ts n) where
  added : List AnyType
  added = map (type_resolved c) (made_of c s)

  pub next-held : holds_type c s ≡ true
  next-held = before.held s (in_at s ts n at)

  pub search-next : (new : List AnyType) → new ≡ with_all ts (map (type_resolved c) (made_of c s)) → IsSearched c es new (n + 1)
  unfolding added
  search-next new is = subst (λ (xs : List AnyType). IsSearched c es xs (n + 1)) (sym is) (record {
    items = λ p t less item. all_old ts added (type_resolved c t) (before.items p t less item);
    held = held_;
    closed = closed_;
  })
    where
      held_ : AllHeld c (with_all ts added)
      held_ t h = by_side (all_only ts added t h)
        where
          by_side : IsIn t ts ⊎ IsIn t added → holds_type c t ≡ true
          by_side (inl old) = before.held t old
          by_side (inr more) = let u = in-resolved c t (made_of c s) more in subst (λ (x : AnyType). holds_type c x ≡ true) (sym u.2) (resolved-held c wf u.0 (part-held c wf s u.0 next-held u.1))

      closed_ : (i : ℕ) (t u : AnyType) → i < n + 1 → slice_get (with_all ts added) i ≡ Some t → IsIn u (made_of c t) → IsIn (type_resolved c u) (with_all ts added)
      closed_ i t u less there part = by_place (below-or-last i n less)
        where
          grown : (more : List AnyType) × (with_all ts added ≡ ts ++ more)
          grown = all_grown ts added

          there_ : slice_get (ts ++ grown.0) i ≡ Some t
          there_ = ap (λ (xs : List AnyType). slice_get xs i) (sym grown.1) ∙ there

          by_place : (i < n) ⊎ (i ≡ n) → IsIn (type_resolved c u) (with_all ts added)
          by_place (inl low) = all_old ts added (type_resolved c u) (before.closed i t u low (lower-place ts grown.0 i n s t low at there_) part)
          by_place (inr same) =
              let one : t ≡ s = same-place ts grown.0 n s t at (ap (slice_get (ts ++ grown.0)) (sym same) ∙ there_) in
              all_new ts added (type_resolved c u) (resolved-in c u (made_of c s) (subst (λ (x : AnyType). IsIn u (made_of c x)) one part))

pub search-done : (c : Collection) (es : List (Name × ItemKind)) (ts : List AnyType) (n : ℕ) → length ts ≤ n → IsSearched c es ts n → AreReached c es ts
search-done c es ts n past s = record {
  items = λ p t item. s.items p t (item-low p t item) item;
  parts = λ t u h part. let at = at_in t ts h in s.closed at.0 t u (let low = at.1 in omega (arith, low, past)) at.2 part;
  held = s.held;
}
  where
    item-low : (p : ℕ) (t : AnyType) → IsTypeItemAt es p t → p < length es
    item-low p t item = within es p (item.0, kind.TypeItem t) item.1
