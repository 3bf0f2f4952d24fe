-- Fewer are left with each union that is opened.
use Rattle.std.proofs.Common.{◌≡◌, ◌≢◌, inl, inr, ℕ, zero, suc, ◌+◌, ◌<◌, ◌≤◌, true, List, [], ◌∷◌, ◌++◌, map, length, slice_get, Some, refl, ap, ◌∙◌, arith}
use Rattle.std.proofs.Math.ListN.{set}
use Rattle.std.specs.List.{AllByRecursion}
use Rattle.wac_types_shapes.specs.primitives.Name.{option_case}
use Rattle.wac_types_collection.specs.collection.Collection.{Collection, IsWellFormed, holds_type, interface_exports}
use Rattle.wac_types_shapes.specs.declared.shapes.component.InterfaceId.{InterfaceId}
use Rattle.wac_types_shapes.specs.declared.shapes.component.ItemKind.{ItemKind}
use Rattle.wac_types_shapes.specs.declared.shapes.component.ItemKind.TheVariants as kind
use Rattle.wac_types_shapes.specs.declared.shapes.component.«Type».TheVariants as ty
use Rattle.wac_merge_classes.specs.declared.entries.scopes.Opener.TheVariants as opener
use Rattle.wac_merge_classes.specs.declared.terms.parts.Part.{Part}
use Rattle.wac_merge_classes.specs.declared.terms.parts.Union.{Union}
use Rattle.wac_merge_classes.specs.entries.Scopes.{opened}
use Rattle.wac_merge_classes.specs.entries.Opening.{total, count_in}
use Rattle.wac_merge_classes.specs.terms.Unions.{part_lists, instances_in, united}
use Rattle.wac_merge_unions.specs.private.uniting.UnionSteps.{IsHeldPart, IsHeldListing, numbered, inside_part, IsPushed, IsUnited, Extends, AreSeated, listed_weight, parts_weight, kind_weight, group_weight, left_over}
use Rattle.wac_merge_classes.proofs.lemmas.entries.Opening.{count-inner}
use Rattle.wac_merge_unions.proofs.lemmas.uniting.UnionLists.{some-same, append_left, append_right, get_map}
use Rattle.wac_merge_unions.proofs.lemmas.uniting.UnionPlaces.{part_still, members_held, after_push}

module _ (c : Collection) where
  -- ---- what stays

  weight_still : (ps qs : List Part) (xs : List ℕ) → Extends ps qs → AllByRecursion (IsHeldPart c ps) xs → parts_weight c qs xs ≡ parts_weight c ps xs
  weight_still ps qs [] more h = refl
  weight_still ps qs (x ∷ xs) more h = λ i. listed_weight c (part_still c ps qs x more h.0 i) + weight_still ps qs xs more h.1 i

  left_still : (us : List Union) (ps qs : List Part) (n : ℕ) → Extends ps qs → ((u : ℕ) (x : Union) → slice_get us u ≡ Some x → AllByRecursion (IsHeldPart c ps) x.parts.items) → left_over c us qs n ≡ left_over c us ps n
  unfolding left_over
  left_still [] ps qs n more h = refl
  left_still (x ∷ us) ps qs zero more h = λ i. suc (weight_still ps qs x.parts.items more (h 0 x refl) i) + left_still us ps qs zero more (λ u y at. h (suc u) y at) i
  left_still (x ∷ us) ps qs (suc n) more h = left_still us ps qs n more (λ u y at. h (suc u) y at)

  left_push : (us : List Union) (x : Union) (ps : List Part) (n : ℕ) → n ≤ length us → left_over c (us ++ x ∷ []) ps n ≡ left_over c us ps n + suc (parts_weight c ps x.parts.items)
  unfolding left_over
  left_push [] x ps zero le = omega arith
  left_push [] x ps (suc n) le = absurd (omega (arith, le))
  left_push (y ∷ us) x ps zero le = let r = left_push us x ps zero (omega arith) in omega (arith, r)
  left_push (y ∷ us) x ps (suc n) le = left_push us x ps n (omega (arith, le))

  pub left_at : (us : List Union) (ps : List Part) (n : ℕ) (x : Union) → slice_get us n ≡ Some x → left_over c us ps n ≡ suc (parts_weight c ps x.parts.items) + left_over c us ps (suc n)
  unfolding left_over
  left_at [] ps n x at = cc
  left_at (y ∷ us) ps zero x at = ap (λ (t : Union). suc (parts_weight c ps t.parts.items) + left_over c us ps 0) (some-same y x at)
  left_at (y ∷ us) ps (suc n) x at = left_at us ps n x at

  pub left_set : (us : List Union) (ps : List Part) (n : ℕ) (y : Union) → left_over c (set us n y) ps (suc n) ≡ left_over c us ps (suc n)
  unfolding left_over
  left_set [] ps n y = refl
  left_set (x ∷ us) ps zero y = refl
  left_set (x ∷ us) ps (suc n) y = left_set us ps n y

  -- ---- a new union

  -- what the interfaces list, alone and with one for each
  abbrev inner_weight : List (ℕ × InterfaceId) → ℕ
  inner_weight [] = 0
  inner_weight (i ∷ is) = listed_weight c (interface_exports c i.1) + inner_weight is

  abbrev with_themselves : List (ℕ × InterfaceId) → ℕ
  with_themselves [] = 0
  with_themselves (i ∷ is) = suc (listed_weight c (interface_exports c i.1)) + with_themselves is

  less_alone : (is : List (ℕ × InterfaceId)) → inner_weight is ≤ with_themselves is
  less_alone [] = omega arith
  less_alone (i ∷ is) = let r = less_alone is in omega (arith, r)

  numbered_weight : (qs : List Part) (n u : ℕ) (is : List (ℕ × InterfaceId)) → ((j : ℕ) (i : ℕ × InterfaceId) → slice_get is j ≡ Some i → slice_get qs (n + j) ≡ Some (inside_part u i)) → parts_weight c qs (numbered n (map (inside_part u) is)) ≡ inner_weight is
  numbered_weight qs n u [] h = refl
  numbered_weight qs n u (i ∷ is) h =
      let zero_more : n ≡ n + 0 = omega arith in
      let here : slice_get qs n ≡ Some (inside_part u i) = ap (slice_get qs) zero_more ∙ h 0 i refl in
      let first : part_lists c qs n ≡ interface_exports c i.1 = ap (λ o. option_case o [] (λ (x : Part). interface_exports c x.interface)) here in
      let rest = numbered_weight qs (suc n) u is (λ j k at. let e : suc n + j ≡ n + suc j = omega arith in ap (slice_get qs) e ∙ h (suc j) k at) in
      λ t. listed_weight c (first t) + rest t

  module _ (wf : IsWellFormed c) where
    inner_less : (i : InterfaceId) → holds_type c (ty.Interface i) ≡ true → suc (suc (listed_weight c (interface_exports c i))) ≤ kind_weight c (kind.Instance i)
    inner_less i held =
        let lt : total (count_in c) (opened (interface_exports c i)) < count_in c (opener.Interface i) = count-inner c wf (opener.Interface i) held in
        omega (arith, lt)

    type_less : (i : InterfaceId) → holds_type c (ty.Interface i) ≡ true → suc (suc (listed_weight c (interface_exports c i))) ≤ kind_weight c (kind.TypeItem (ty.Interface i))
    type_less i held =
        let lt : total (count_in c) (opened (interface_exports c i)) < count_in c (opener.Interface i) = count-inner c wf (opener.Interface i) held in
        omega (arith, lt)

    instances_less : (ps : List Part) (ls : List (ℕ × ItemKind)) → AllByRecursion (IsHeldListing c ps) ls → with_themselves (instances_in ls) ≤ group_weight c ls
    instances_less ps [] h = omega arith
    instances_less ps ((p, kind.Instance i) ∷ ls) h = let a = inner_less i h.0.1 in let r = instances_less ps ls h.1 in omega (arith, a, r)
    instances_less ps ((p, kind.TypeItem t) ∷ ls) h = let r = instances_less ps ls h.1 in omega (arith, r)
    instances_less ps ((p, kind.Func f) ∷ ls) h = let r = instances_less ps ls h.1 in omega (arith, r)
    instances_less ps ((p, kind.Component w) ∷ ls) h = let r = instances_less ps ls h.1 in omega (arith, r)
    instances_less ps ((p, kind.Module m) ∷ ls) h = let r = instances_less ps ls h.1 in omega (arith, r)
    instances_less ps ((p, kind.Value v) ∷ ls) h = let r = instances_less ps ls h.1 in omega (arith, r)

    united_less : (ps : List Part) (ls : List (ℕ × ItemKind)) → AllByRecursion (IsHeldListing c ps) ls → with_themselves (united ls) ≤ group_weight c ls
    united_less ps [] h = omega arith
    united_less ps ((p, kind.Instance i) ∷ ls) h = let a = inner_less i h.0.1 in let r = instances_less ps ls h.1 in omega (arith, a, r)
    united_less ps ((p, kind.TypeItem (ty.Interface i)) ∷ ls) h = let a = type_less i h.0.1 in omega (arith, a)
    united_less ps ((p, kind.TypeItem (ty.Resource r)) ∷ ls) h = omega arith
    united_less ps ((p, kind.TypeItem (ty.Func f)) ∷ ls) h = omega arith
    united_less ps ((p, kind.TypeItem (ty.Value v)) ∷ ls) h = omega arith
    united_less ps ((p, kind.TypeItem (ty.World w)) ∷ ls) h = omega arith
    united_less ps ((p, kind.TypeItem (ty.Module m)) ∷ ls) h = omega arith
    united_less ps ((p, kind.Func f) ∷ ls) h = omega arith
    united_less ps ((p, kind.Component w) ∷ ls) h = omega arith
    united_less ps ((p, kind.Module m) ∷ ls) h = omega arith
    united_less ps ((p, kind.Value v) ∷ ls) h = omega arith

    module _ (us vs : List Union) (ps qs : List Part) (n : ℕ) (le : n ≤ length us) (seated : AreSeated c us ps) where
      left_pushed : (is : List (ℕ × InterfaceId)) (w : ℕ) → is ≢ [] → with_themselves is ≤ w → IsPushed us ps (map (inside_part (length us)) is) vs qs → left_over c vs qs n ≤ left_over c us ps n + w
      left_pushed [] w some most pushed = absurd (some refl)
      left_pushed (i ∷ is) w some most pushed =
          let more = map (inside_part (length us)) (i ∷ is) in
          after_push (λ l m. left_over c l m n ≤ left_over c us ps n + w) us vs ps qs more pushed (λ x named.
          let a = left_push us x (ps ++ more) n le in
          let b = left_still us ps (ps ++ more) n (append_left ps more) (λ u y at. members_held c us ps u y seated at) in
          let d : parts_weight c (ps ++ more) x.parts.items ≡ inner_weight (i ∷ is) =
          ap (parts_weight c (ps ++ more)) named
          ∙ numbered_weight (ps ++ more) (length ps) (length us) (i ∷ is) (λ j k at. append_right ps more j ∙ get_map (inside_part (length us)) (i ∷ is) j k at) in
          let e = less_alone is in
          omega (arith, a, b, d, e, most))

      pub left_united : (ls : List (ℕ × ItemKind)) → AllByRecursion (IsHeldListing c ps) ls → IsUnited us ps (united ls) vs qs → left_over c vs qs n ≤ left_over c us ps n + group_weight c ls
      left_united ls held h = elim h [
        | inl same ↦ let e : left_over c vs qs n ≡ left_over c us ps n = (λ i. left_over c (same.0 i) (same.1 i) n) in omega (arith, e)
        | inr put ↦ left_pushed (united ls) (group_weight c ls) put.0 (united_less ps ls held) put.1
      ]
