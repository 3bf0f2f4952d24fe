-- Additional imports: what is not known among interfaces, and what a world's definition needs.
use Rattle.std.proofs.Common.{ℕ, zero, suc, ◌+◌, Bool, true, false, not, cond, if◌then◌else◌, List, [], ◌∷◌, ◌++◌, drop, append_assoc, Contains, Some, ◌≡◌, inl, inr, refl, ap, sym, ◌∙◌, subst, arith, slice_get}
use Rattle.std.proofs.lemmas.List.{append-nil}
use Rattle.std.specs.Option.{option_map}
use Rattle.wac_types_shapes.specs.primitives.Name.{Name}
use Rattle.wac_types_shapes.specs.declared.shapes.component.InterfaceId.{InterfaceId}
use Rattle.wac_types_shapes.specs.declared.shapes.component.ItemKind.{ItemKind}
use Rattle.wac_types_shapes.specs.declared.shapes.component.UsedType.{UsedType}
use Rattle.wac_types_shapes.specs.declared.shapes.component.World.{World}
use Rattle.wac_types_collection.specs.collection.Collection.{Collection, IsWellFormed, size}
use Rattle.wac_types_collection.proofs.lemmas.reach.Lists.{drop_second}
use Rattle.wac_types_collection.specs.wide.Wide.{AreThere, used_interfaces, instances_of, wide_uses, wide_uses_of_items, is_among, with_each, each_once}
use Rattle.wac_types_collection.proofs.lemmas.wide.Members.{in_none, in_first, in_rest, in_parts, in_one, in_either, flat_in, flat_joined}
use Rattle.wac_types_collection.proofs.lemmas.wide.Wide.{wide_law}
use Rattle.wac_types_collection.proofs.lemmas.wide.Once.{among_in, in_among, each_new, each_only, each_joined, each_known}
use Rattle.wac_encode_faults.specs.Sides.{listed_interface, listed_interfaces, needed_by_imports, needed_by_exports, reached, without, unlisted}
use Rattle.wac_encode_faults.proofs.Reached.{wide_there}
use Rattle.wac_encode_faults.proofs.UseWalk.{reached_joined, reached_within}

-- ---- what is not known
module _ (known : List InterfaceId) where
  parted : (i : InterfaceId) (is : List InterfaceId) → without known (i ∷ is) ≡ without known (i ∷ []) ++ without known is
  parted i is = by (is_among known i)
    where
      by : (b : Bool) → cond (not b) (i ∷ without known is) (without known is) ≡ cond (not b) (i ∷ []) [] ++ without known is
      by true = refl
      by false = refl

  pub unknown_none : (i : InterfaceId) → is_among known i ≡ true → without known (i ∷ []) ≡ []
  unknown_none i e = ap (λ b. cond (not b) (i ∷ []) []) e

  pub unknown_one : (i : InterfaceId) → is_among known i ≡ false → without known (i ∷ []) ≡ i ∷ []
  unknown_one i e = ap (λ b. cond (not b) (i ∷ []) []) e

  pub unknown_in : (is : List InterfaceId) (k : InterfaceId) → Contains (without known is) k → Contains is k × (Contains known k → ⊥)
  unknown_in [] k h = absurd (in_none k h)
  unknown_in (i ∷ is) k h = by (is_among known i) refl (unknown_in is k) h
    where
      by : (b : Bool) → is_among known i ≡ b → (Contains (without known is) k → Contains is k × (Contains known k → ⊥)) → Contains (cond (not b) (i ∷ without known is) (without known is)) k
          → Contains (i ∷ is) k × (Contains known k → ⊥)
      by true e rest g = let (there, other) = rest g in (in_rest i k is there, other)
      by false e rest g = elim (in_parts i k (without known is) g) [
        | inl same ↦ (subst (λ z. Contains (z ∷ is) k) same (in_first k is), λ w. let wrong : true ≡ false = sym (in_among known i (subst (Contains known) same w)) ∙ e in cc)
        | inr w ↦ let (there, other) = rest w in (in_rest i k is there, other)
      ]

  pub in_unknown : (is : List InterfaceId) (k : InterfaceId) → Contains is k → (Contains known k → ⊥) → Contains (without known is) k
  in_unknown [] k h other = absurd (in_none k h)
  in_unknown (i ∷ is) k h other = by (is_among known i) refl (in_unknown is k)
    where
      by : (b : Bool) → is_among known i ≡ b → (Contains is k → (Contains known k → ⊥) → Contains (without known is) k) → Contains (cond (not b) (i ∷ without known is) (without known is)) k
      by true e rest = elim (in_parts i k is h) [ inl same ↦ absurd (other (subst (Contains known) (sym same) (among_in known i e))) | inr w ↦ rest w other ]
      by false e rest = elim (in_parts i k is h) [ inl same ↦ subst (λ z. Contains (z ∷ without known is) k) same (in_first k (without known is)) | inr w ↦ in_rest i k (without known is) (rest w other) ]

  -- one item more
  pub unknown_next : (is rest start found now : List InterfaceId) (i : InterfaceId) → is ≡ i ∷ rest → now ≡ with_each found (without known (i ∷ [])) → (goal : List InterfaceId)
      → with_each found (without known is) ≡ goal → with_each now (without known rest) ≡ goal
  unknown_next is rest start found now i parts grown goal was =
      ap (λ l. with_each l (without known rest)) grown ∙ sym (each_joined found (without known (i ∷ [])) (without known rest)) ∙ ap (with_each found) (sym (ap (without known) parts ∙ parted i rest)) ∙ was

pub drop_here : {A : Type 0} (xs : List A) (i : ℕ) (x : A) → slice_get xs i ≡ Some x → drop i xs ≡ x ∷ drop (i + 1) xs
drop_here [] i x h = cc
drop_here (y ∷ xs) zero x h = ap (λ z. z ∷ xs) (inner h) where
  inner : Some y ≡ Some x → y ≡ x
  inner h = cc
drop_here (y ∷ xs) (suc i) x h =
    let same : suc (i + 1) ≡ suc i + 1 = omega arith in
    drop_here xs i x h ∙ ap (λ n. x ∷ drop n (y ∷ xs)) same

pub used_next : (uses : List (Name × UsedType)) (i : ℕ) (u : UsedType) → option_map (λ e. e.1) (slice_get uses i) ≡ Some u → used_interfaces (drop i uses) ≡ u.interface ∷ used_interfaces (drop (i + 1) uses)
used_next uses i u at = let (n, is) = drop_second uses i u at in ap used_interfaces is

-- ---- lists of which each interface counts once
drops : (start first other rest : List InterfaceId) → ((k : InterfaceId) → Contains other k → Contains first k) → with_each start (first ++ (other ++ rest)) ≡ with_each start (first ++ rest)
drops start first other rest sub =
    each_joined start first (other ++ rest) ∙ each_joined (with_each start first) other rest
    ∙ ap (λ l. with_each l rest) (each_known (with_each start first) other (λ k h. each_new start first k (sub k h))) ∙ sym (each_joined start first rest)

module _ (f : List InterfaceId → List InterfaceId) (joined : (is js : List InterfaceId) → f (is ++ js) ≡ f is ++ f js)
    (within : (is : List InterfaceId) (i k : InterfaceId) → Contains is i → Contains (f (i ∷ [])) k → Contains (f is) k) where
  with_once : (is found start : List InterfaceId) → with_each start (f (with_each found is)) ≡ with_each start (f (found ++ is))
  with_once [] found start = ap (λ l. with_each start (f l)) (sym (append-nil found))
  with_once (i ∷ is) found start = by (is_among found i) refl (with_once is found start) (with_once is (found ++ i ∷ []) start)
    where
      by : (b : Bool) → is_among found i ≡ b → with_each start (f (with_each found is)) ≡ with_each start (f (found ++ is)) → with_each start (f (with_each (found ++ i ∷ []) is)) ≡ with_each start (f ((found ++ i ∷ []) ++ is))
          → with_each start (f (with_each (if b then found else found ++ i ∷ []) is)) ≡ with_each start (f (found ++ i ∷ is))
      by true e known _ =
          known
          ∙ sym (ap (with_each start) (joined found (i ∷ is) ∙ ap (λ l. f found ++ l) (joined (i ∷ []) is))
          ∙ drops start (f found) (f (i ∷ [])) (f is) (λ k h. within found i k (among_in found i e) h) ∙ ap (with_each start) (sym (joined found is)))
      by false e _ new = new ∙ ap (λ l. with_each start (f l)) (append_assoc found (i ∷ []) is)

  once : (is start : List InterfaceId) → with_each start (f (each_once is)) ≡ with_each start (f is)
  once is start = with_once is [] start

-- what is not known of two lists is not known of each
unknown_joined : (known is js : List InterfaceId) → without known (is ++ js) ≡ without known is ++ without known js
unknown_joined known [] js = refl
unknown_joined known (i ∷ is) js = by (is_among known i) (unknown_joined known is js)
  where
    by : (b : Bool) → without known (is ++ js) ≡ without known is ++ without known js
        → cond (not b) (i ∷ without known (is ++ js)) (without known (is ++ js)) ≡ cond (not b) (i ∷ without known is) (without known is) ++ without known js
    by true rest = rest
    by false rest = ap (λ l. i ∷ l) rest

unknown_within : (known is : List InterfaceId) (i k : InterfaceId) → Contains is i → Contains (without known (i ∷ [])) k → Contains (without known is) k
unknown_within known is i k there h = let (here, other) = unknown_in known (i ∷ []) k h in in_unknown known is k (subst (Contains is) (sym (in_one i k here)) there) other

-- what is known once is known
module _ (is : List InterfaceId) where
  among_once : (i : InterfaceId) → is_among (each_once is) i ≡ is_among is i
  among_once i = by (is_among (each_once is) i) refl (is_among is i) refl
    where
      only : Contains (each_once is) i → Contains is i
      only h = elim (each_only [] is i h) [ inl n ↦ absurd (in_none i n) | inr w ↦ w ]

      by : (a : Bool) → is_among (each_once is) i ≡ a → (b : Bool) → is_among is i ≡ b → is_among (each_once is) i ≡ is_among is i
      by true e true f = e ∙ sym f
      by false e false f = e ∙ sym f
      by true e false f = let wrong : true ≡ false = sym (in_among is i (only (among_in (each_once is) i e))) ∙ f in cc
      by false e true f = let wrong : true ≡ false = sym (in_among (each_once is) i (each_new [] is i (among_in is i f))) ∙ e in cc

  known_once : (js : List InterfaceId) → without (each_once is) js ≡ without is js
  known_once [] = refl
  known_once (j ∷ js) =
      ap (λ b. cond (not b) (j ∷ without (each_once is) js) (without (each_once is) js)) (among_once j) ∙ ap (λ l. cond (not (is_among is j)) (j ∷ l) l) (known_once js)

-- ---- steps of the functions
pub items_added : (c : Collection) (items : List (Name × ItemKind)) (known found now used : List InterfaceId) → used ≡ each_once (wide_uses_of_items c items) → now ≡ with_each found (without known used)
    → now ≡ with_each found (without known (wide_uses_of_items c items))
items_added c items known found now used is grown =
    grown ∙ ap (λ l. with_each found (without known l)) is ∙ once (without known) (unknown_joined known) (unknown_within known) (wide_uses_of_items c items) found

pub imports_added : (c : Collection) (x : World) (known found middle now : List InterfaceId) → known ≡ each_once (listed_interfaces c x.imports) → middle ≡ with_each found (without known (used_interfaces x.uses))
    → now ≡ with_each middle (without known (wide_uses_of_items c x.imports)) → now ≡ with_each found (needed_by_imports c x)
imports_added c x known found middle now listed uses items =
    let own = used_interfaces x.uses in
    let wide = wide_uses_of_items c x.imports in
    items ∙ ap (λ l. with_each l (without known wide)) uses ∙ sym (each_joined found (without known own) (without known wide)) ∙ ap (with_each found) (sym (unknown_joined known own wide))
    ∙ ap (λ l. with_each found (without l (own ++ wide))) listed ∙ ap (with_each found) (known_once (listed_interfaces c x.imports) (own ++ wide))

pub listed_one : (c : Collection) (x : World) (start one : List InterfaceId) → start ≡ [] → one ≡ with_each start (listed_interfaces c x.imports) → one ≡ each_once (listed_interfaces c x.imports)
listed_one c x start one none is = is ∙ ap (λ l. with_each l (listed_interfaces c x.imports)) none

pub listed_both : (c : Collection) (x : World) (start one both : List InterfaceId) → start ≡ [] → one ≡ with_each start (listed_interfaces c x.imports) → both ≡ with_each one (listed_interfaces c x.exports)
    → both ≡ each_once (listed_interfaces c (x.imports ++ x.exports))
listed_both c x start one both none is more =
    more ∙ ap (λ l. with_each l (listed_interfaces c x.exports)) (listed_one c x start one none is) ∙ sym (each_joined [] (listed_interfaces c x.imports) (listed_interfaces c x.exports))
    ∙ ap each_once (sym (flat_joined (listed_interface c) x.imports x.exports))

pub exports_added : (c : Collection) (x : World) (known found now : List InterfaceId) → known ≡ each_once (listed_interfaces c (x.imports ++ x.exports))
    → now ≡ with_each found (without known (wide_uses_of_items c x.exports)) → now ≡ with_each found (needed_by_exports c x)
exports_added c x known found now listed items =
    let wide = wide_uses_of_items c x.exports in
    items ∙ ap (λ l. with_each found (without l wide)) listed ∙ ap (with_each found) (known_once (listed_interfaces c (x.imports ++ x.exports)) wide)

-- what the definition of an interface imports
pub interface_reached : (c : Collection) (wide found now : List InterfaceId) → found ≡ each_once wide → now ≡ each_once (reached c found) → now ≡ each_once (reached c wide)
interface_reached c wide found now is all = all ∙ ap (λ l. each_once (reached c l)) is ∙ once (reached c) (reached_joined (size c) c) (reached_within (size c) c) wide []

module _ (c : Collection) (wf : IsWellFormed c) where
  pub wide_list_there : (i : InterfaceId) → AreThere c (wide_uses c i)
  wide_list_there i k h = wide_there c wf i k ((wide_law c wf i k).1 h)

  pub wide_once_there : (i : InterfaceId) (found : List InterfaceId) → found ≡ each_once (wide_uses c i) → AreThere c found
  wide_once_there i found is k h = elim (each_only [] (wide_uses c i) k (subst (λ l. Contains l k) is h)) [ inl n ↦ absurd (in_none k n) | inr w ↦ wide_list_there i k w ]

  pub wide_items_there : (items : List (Name × ItemKind)) → AreThere c (wide_uses_of_items c items)
  wide_items_there items k h = let (i, there, is) = flat_in (wide_uses c) (instances_of items) k h in wide_list_there i k is

  module _ (x : World) (uses_there : AreThere c (used_interfaces x.uses)) (start one two : List InterfaceId) (none : start ≡ []) (first_is : one ≡ with_each start (needed_by_imports c x)) (second_is : two ≡ with_each one (needed_by_exports c x)) where
    imports_there : AreThere c (needed_by_imports c x)
    imports_there k h = elim (in_either (used_interfaces x.uses) (wide_uses_of_items c x.imports) k (unknown_in (listed_interfaces c x.imports) (used_interfaces x.uses ++ wide_uses_of_items c x.imports) k h).0) [
      | inl g ↦ uses_there k g
      | inr g ↦ wide_items_there x.imports k g
    ]

    needed_is : two ≡ each_once (needed_by_imports c x ++ needed_by_exports c x)
    needed_is =
        second_is ∙ ap (λ l. with_each l (needed_by_exports c x)) (first_is ∙ ap (λ l. with_each l (needed_by_imports c x)) none)
        ∙ sym (each_joined [] (needed_by_imports c x) (needed_by_exports c x))

    pub two_there : AreThere c two
    two_there k h = elim (each_only one (needed_by_exports c x) k (subst (λ l. Contains l k) second_is h)) [
      | inl w ↦ elim (each_only start (needed_by_imports c x) k (subst (λ l. Contains l k) first_is w)) [ inl n ↦ absurd (in_none k (subst (λ l. Contains l k) none n)) | inr g ↦ imports_there k g ]
      | inr w ↦ wide_items_there x.exports k (unknown_in (listed_interfaces c (x.imports ++ x.exports)) (wide_uses_of_items c x.exports) k w).0
    ]

    pub unlisted_added : (all known found now : List InterfaceId) → all ≡ each_once (reached c two) → known ≡ each_once (listed_interfaces c x.imports) → now ≡ with_each found (without known all)
        → now ≡ with_each found (without (listed_interfaces c x.imports) (reached c (needed_by_imports c x ++ needed_by_exports c x)))
    unlisted_added all known found now is listed grown =
        let needed = needed_by_imports c x ++ needed_by_exports c x in
        let listed_now = listed_interfaces c x.imports in
        grown ∙ ap (λ l. with_each found (without known l)) is ∙ ap (λ l. with_each found (without l (each_once (reached c two)))) listed
        ∙ ap (with_each found) (known_once listed_now (each_once (reached c two)))
        ∙ once (without listed_now) (unknown_joined listed_now) (unknown_within listed_now) (reached c two) found
        ∙ ap (λ l. with_each found (without listed_now (reached c l))) needed_is
        ∙ once (λ l. without listed_now (reached c l)) both_joined both_within needed found
      where
        both_joined : (is js : List InterfaceId) → without (listed_interfaces c x.imports) (reached c (is ++ js)) ≡ without (listed_interfaces c x.imports) (reached c is) ++ without (listed_interfaces c x.imports) (reached c js)
        both_joined is js = ap (without (listed_interfaces c x.imports)) (reached_joined (size c) c is js) ∙ unknown_joined (listed_interfaces c x.imports) (reached c is) (reached c js)

        both_within : (is : List InterfaceId) (i k : InterfaceId) → Contains is i → Contains (without (listed_interfaces c x.imports) (reached c (i ∷ []))) k → Contains (without (listed_interfaces c x.imports) (reached c is)) k
        both_within is i k there h =
            let (here, other) = unknown_in (listed_interfaces c x.imports) (reached c (i ∷ [])) k h in
            in_unknown (listed_interfaces c x.imports) (reached c is) k (reached_within (size c) c is i k there here) other

-- of a world without interfaces before
pub world_unlisted : (c : Collection) (x y : World) (start now : List InterfaceId) → start ≡ [] → x ≡ y → now ≡ with_each start (without (listed_interfaces c x.imports) (reached c (needed_by_imports c x ++ needed_by_exports c x))) → now ≡ unlisted c y
world_unlisted c x y start now none same is =
    is ∙ ap (λ l. with_each l (without (listed_interfaces c x.imports) (reached c (needed_by_imports c x ++ needed_by_exports c x)))) none ∙ ap (unlisted c) same
