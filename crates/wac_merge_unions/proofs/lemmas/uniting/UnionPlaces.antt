-- Unions and parts that stay while more come behind them.
use Rattle.std.proofs.Common.{◌≡◌, ◌≢◌, ℕ, zero, suc, ◌+◌, ◌<◌, ◌≤◌, Bool, true, false, ◌||◌, List, [], ◌∷◌, ◌++◌, map, take, length, slice_get, get_or, Option, Some, None, is_some, inl, inr, refl, sym, ap, ◌∙◌, subst, arith, add-one}
use Rattle.std.proofs.Math.ListN.{set}
use Rattle.std.specs.List.{AllByRecursion, AllZip, Contains, list_any}
use Rattle.std.proofs.lemmas.Bool.{or_parts, or_from}
use Rattle.std.proofs.lemmas.Option.{slice_get_within}
use Rattle.std.proofs.lemmas.List.{length-append, append-nil}
use Rattle.wac_types_shapes.proofs.lemmas.shapes.Names.{take_at}
use Rattle.wac_types_shapes.specs.primitives.Name.{Name, find_name, option_case}
use Rattle.wac_types_collection.specs.collection.Collection.{Collection, HasInterface, holds_type, interface_exports, item_at}
use Rattle.wac_types_shapes.specs.declared.shapes.component.Interface.{Interface}
use Rattle.wac_types_shapes.specs.declared.shapes.component.InterfaceId.{InterfaceId}
use Rattle.wac_types_shapes.specs.declared.shapes.component.ItemKind.{ItemKind}
use Rattle.wac_types_shapes.specs.declared.shapes.component.ItemKind.TheVariants as kind
use Rattle.wac_types_shapes.specs.declared.shapes.component.«Type».TheVariants as ty
use Rattle.wac_merge_classes.specs.entries.Places.{own_resource}
use Rattle.wac_merge_classes.specs.declared.terms.parts.Part.{Part}
use Rattle.wac_merge_classes.specs.declared.terms.parts.Export.{Export}
use Rattle.wac_merge_classes.specs.declared.terms.parts.Union.{Union}
use Rattle.wac_merge_classes.specs.terms.Unions.{part, part_lists, listed_under, instances_in, united, is_own_of, AreParts, IsInner, IsExport}
use Rattle.wac_merge_unions.specs.private.uniting.UnionSteps.{IsHeldPart, IsHeldListing, numbered, IsPushed, inside_part, root_part, Extends, KeepsParts, AreSeated, ArePlaced, AreRoots}
use Rattle.wac_merge_classes.proofs.lemmas.entries.Lists.{at-push, at-end, push-cases, set-cases}
use Rattle.wac_merge_unions.proofs.lemmas.uniting.UnionLists.{some-same, contains_at, at_contains, append_left, append_right, append_cases, all_from, all_at, numbered_at, at_numbered, get_map, map_cases, zip_all, numbered_zip}

-- ---- parts that stay

pub held_still : (c : Collection) (ps qs : List Part) (p : ℕ) → Extends ps qs → IsHeldPart c ps p → IsHeldPart c qs p
held_still c ps qs p more h = (h.0, more p h.0 h.1, h.2)

pub part_still : (c : Collection) (ps qs : List Part) (p : ℕ) → Extends ps qs → IsHeldPart c ps p → part_lists c qs p ≡ part_lists c ps p
part_still c ps qs p more h = ap (λ o. option_case o [] (λ (x : Part). interface_exports c x.interface)) (more p h.0 h.1 ∙ sym h.1)

pub parts_still : (c : Collection) (ps qs : List Part) (xs : List ℕ) → Extends ps qs → AllByRecursion (IsHeldPart c ps) xs → map (part_lists c qs) xs ≡ map (part_lists c ps) xs
parts_still c ps qs [] more h = refl
parts_still c ps qs (x ∷ xs) more h = λ i. part_still c ps qs x more h.0 i ∷ parts_still c ps qs xs more h.1 i

pub listed_still : (c : Collection) (ps qs : List Part) (xs : List ℕ) (n : Name) → Extends ps qs → AllByRecursion (IsHeldPart c ps) xs → listed_under c qs xs n ≡ listed_under c ps xs n
listed_still c ps qs [] n more h = refl
listed_still c ps qs (x ∷ xs) n more h = λ i. option_case (find_name (part_still c ps qs x more h.0 i) n) (listed_still c ps qs xs n more h.1 i) (λ k. (x, k) ∷ listed_still c ps qs xs n more h.1 i)

pub own_still : (c : Collection) (ps qs : List Part) (n : Name) (ls : List (ℕ × ItemKind)) → Extends ps qs → AllByRecursion (λ l. IsHeldPart c ps l.0) ls → list_any (is_own_of c qs n) ls ≡ list_any (is_own_of c ps n) ls
own_still c ps qs n [] more h = refl
own_still c ps qs n (l ∷ ls) more h =
    let e : slice_get qs l.0 ≡ slice_get ps l.0 = more l.0 h.0.0 h.0.1 ∙ sym h.0.1 in
    λ i. option_case (e i) false (λ (x : Part). option_case (item_at c.interfaces x.interface.0) false (λ it. is_some (own_resource c it.uses (n, l.1)))) || own_still c ps qs n ls more h.1 i

parts_of : (ps qs : List Part) (u : ℕ) (is : List (ℕ × InterfaceId)) (xs : List ℕ) → Extends ps qs → AreParts ps u is xs → AreParts qs u is xs
parts_of ps qs u is xs more h = zip_all (λ i q. slice_get ps q ≡ Some (part i.1 (Some i.0) u)) (λ i q. slice_get qs q ≡ Some (part i.1 (Some i.0) u)) (λ i q at. more q (part i.1 (Some i.0) u) at) is xs h

pub inner_still : (us vs : List Union) (ps qs : List Part) (u : ℕ) (is : List (ℕ × InterfaceId)) (o : Option ℕ) → KeepsParts us vs → Extends ps qs → IsInner us ps u is o → IsInner vs qs u is o
inner_still us vs ps qs u [] o keeps more h = h
inner_still us vs ps qs u (i ∷ is) o keeps more (v, x, is-v, lt, at, parts) =
    let y = keeps v x at in
    (v, y.0, is-v, lt, y.1, subst (λ (l : List ℕ). AreParts qs v (i ∷ is) l) (sym y.2) (parts_of ps qs v (i ∷ is) x.parts.items more parts))

pub export_still : (c : Collection) (us vs : List Union) (ps qs : List Part) (u : ℕ) (n : Name) (ls : List (ℕ × ItemKind)) (e : Export) → KeepsParts us vs → Extends ps qs → AllByRecursion (λ l. IsHeldPart c ps l.0) ls
    → IsExport c us ps u n ls e → IsExport c vs qs u n ls e
export_still c us vs ps qs u n ls e keeps more held h = record {
  more = h.more;
  first = h.first;
  own = h.own ∙ sym (own_still c ps qs n ls more held);
  inner = inner_still us vs ps qs u (united ls) e.inner keeps more h.inner;
}

pub keeps_from : (us vs : List Union) → Extends us vs → KeepsParts us vs
keeps_from us vs more u x at = (x, more u x at, refl)

-- the parts of a union are held
pub members_held : (c : Collection) (us : List Union) (ps : List Part) (u : ℕ) (x : Union) → AreSeated c us ps → slice_get us u ≡ Some x → AllByRecursion (IsHeldPart c ps) x.parts.items
members_held c us ps u x seated at = all_from (IsHeldPart c ps) x.parts.items (λ k p there.
    let y = seated.placed u p x at (contains_at x.parts.items k p there) in
    (y.0, y.1, seated.held p y.0 y.1))

-- ---- a union more

module _ (c : Collection) (us : List Union) (ps more : List Part) (x : Union) (is : x.parts.items ≡ numbered (length ps) more) (each : (j : ℕ) (y : Part) → slice_get more j ≡ Some y → (y.union ≡ length us) × HasInterface c y.interface) where
  seated_push : AreSeated c us ps → AreSeated c (us ++ x ∷ []) (ps ++ more)
  seated_push was = record {
    held = λ p y at. elim (append_cases ps more p y at) [
      | inl h ↦ was.held p y h
      | inr h ↦ (each h.0 y h.2).1
    ];
    within = λ p y at. elim (append_cases ps more p y at) [
      | inl h ↦ let w = was.within p y h in (w.0, at-push us x y.union w.0 w.1, w.2)
      | inr h ↦
          let there : slice_get x.parts.items h.0 ≡ Some p = ap (λ l. slice_get l h.0) is ∙ numbered_at (length ps) more h.0 y h.2 ∙ ap Some (sym h.1) in
          (x, ap (slice_get (us ++ x ∷ [])) (each h.0 y h.2).0 ∙ at-end us x, contains_at x.parts.items h.0 p there)
    ];
    placed = λ u p z at there. elim (push-cases us x u z at) [
      | inl h ↦ let w = was.placed u p z h there in (w.0, append_left ps more p w.0 w.1, w.2)
      | inr h ↦
          let k = at_contains z.parts.items p there in
          let m : slice_get (numbered (length ps) more) k.0 ≡ Some p = ap (λ l. slice_get l k.0) (sym is) ∙ ap (λ (t : Union). slice_get t.parts.items k.0) (sym h.1) ∙ k.1 in
          let w = at_numbered (length ps) more k.0 p m in
          (w.1, ap (slice_get (ps ++ more)) w.0 ∙ append_right ps more k.0 ∙ w.2, (each k.0 w.1 w.2).0 ∙ sym h.0)
    ];
  }

-- the last union and the parts behind the others
module _ (P : List Union → List Part → Type 0) (us vs : List Union) (ps qs more : List Part) (pushed : IsPushed us ps more vs qs) where
  pub after_push : ((x : Union) → x.parts.items ≡ numbered (length ps) more → P (us ++ x ∷ []) (ps ++ more)) → P vs qs
  after_push f = subst (λ (l : List Union). P l qs) (sym pushed.1) (subst (λ (l : List Part). P (us ++ pushed.0 ∷ []) l) (sym pushed.3) (f pushed.0 pushed.2))

pub push_extends : (us vs : List Union) (ps qs more : List Part) → IsPushed us ps more vs qs → Extends us vs × Extends ps qs
push_extends us vs ps qs more pushed = after_push (λ l m. Extends us l × Extends ps m) us vs ps qs more pushed (λ x is. (append_left us (x ∷ []), append_left ps more))

-- ---- what is united is held

-- the part in which an interface is listed, and the interface
abbrev pub IsHeldInner : Collection → List Part → ℕ × InterfaceId → Type 0
IsHeldInner c ps i = IsHeldPart c ps i.0 × HasInterface c i.1

has_interface : (c : Collection) (i : InterfaceId) → holds_type c (ty.Interface i) ≡ true → HasInterface c i
has_interface c i h = grind (arith, h)

instances_held : (c : Collection) (ps : List Part) (ls : List (ℕ × ItemKind)) → AllByRecursion (IsHeldListing c ps) ls → AllByRecursion (IsHeldInner c ps) (instances_in ls)
instances_held c ps [] h = tt
instances_held c ps ((p, kind.Instance i) ∷ ls) h = ((h.0.0, has_interface c i h.0.1), instances_held c ps ls h.1)
instances_held c ps ((p, kind.TypeItem t) ∷ ls) h = instances_held c ps ls h.1
instances_held c ps ((p, kind.Func f) ∷ ls) h = instances_held c ps ls h.1
instances_held c ps ((p, kind.Component w) ∷ ls) h = instances_held c ps ls h.1
instances_held c ps ((p, kind.Module m) ∷ ls) h = instances_held c ps ls h.1
instances_held c ps ((p, kind.Value v) ∷ ls) h = instances_held c ps ls h.1

pub united_held : (c : Collection) (ps : List Part) (ls : List (ℕ × ItemKind)) → AllByRecursion (IsHeldListing c ps) ls → AllByRecursion (IsHeldInner c ps) (united ls)
united_held c ps [] h = tt
united_held c ps ((p, kind.Instance i) ∷ ls) h = ((h.0.0, has_interface c i h.0.1), instances_held c ps ls h.1)
united_held c ps ((p, kind.TypeItem (ty.Interface i)) ∷ ls) h = ((h.0.0, has_interface c i h.0.1), tt)
united_held c ps ((p, kind.TypeItem (ty.Resource r)) ∷ ls) h = tt
united_held c ps ((p, kind.TypeItem (ty.Func f)) ∷ ls) h = tt
united_held c ps ((p, kind.TypeItem (ty.Value v)) ∷ ls) h = tt
united_held c ps ((p, kind.TypeItem (ty.World w)) ∷ ls) h = tt
united_held c ps ((p, kind.TypeItem (ty.Module m)) ∷ ls) h = tt
united_held c ps ((p, kind.Func f) ∷ ls) h = tt
united_held c ps ((p, kind.Component w) ∷ ls) h = tt
united_held c ps ((p, kind.Module m) ∷ ls) h = tt
united_held c ps ((p, kind.Value v) ∷ ls) h = tt

-- ---- an inner union more

module _ (c : Collection) (us : List Union) (ps : List Part) (is : List (ℕ × InterfaceId)) (held : AllByRecursion (IsHeldInner c ps) is) where
  abbrev inner_parts : List Part
  inner_parts = map (inside_part (length us)) is

  inner_each : (j : ℕ) (y : Part) → slice_get inner_parts j ≡ Some y → (y.union ≡ length us) × HasInterface c y.interface
  inner_each j y at =
      let w = map_cases (inside_part (length us)) is j y at in
      (ap (λ (t : Part). t.union) w.2, subst (λ (t : Part). HasInterface c t.interface) (sym w.2) (all_at (IsHeldInner c ps) is j w.0 held w.1).1)

  pub inner_seated : (vs : List Union) (qs : List Part) → IsPushed us ps inner_parts vs qs → AreSeated c us ps → AreSeated c vs qs
  inner_seated vs qs pushed was = after_push (AreSeated c) us vs ps qs inner_parts pushed (λ x named. seated_push c us ps inner_parts x named inner_each was)

  -- a new part is inside one that was there
  record IsNew (p : ℕ) (y : Part) : Type 0 where
    outer : ℕ
    around : Part
    is-outer : y.outer ≡ Some outer
    at : slice_get ps outer ≡ Some around
    behind : length ps ≤ p
    of : y.union ≡ length us

  new_part : (p : ℕ) (y : Part) (j : ℕ) → p ≡ length ps + j → slice_get inner_parts j ≡ Some y → IsNew p y
  new_part p y j e at =
      let w = map_cases (inside_part (length us)) is j y at in
      let h = (all_at (IsHeldInner c ps) is j w.0 held w.1).0 in
      record { outer = w.0.0; around = h.0; is-outer = ap (λ (t : Part). t.outer) w.2; at = h.1; behind = omega (arith, e); of = ap (λ (t : Part). t.union) w.2 }

  some_outer : (y : Part) (o n : ℕ) → y.outer ≡ Some n → y.outer ≡ Some o → o ≡ n
  some_outer y o n e f = some-same o n (sym f ∙ e)

  placed_push : (count : ℕ) (x : Union) → AreSeated c us ps → ArePlaced c count us ps → ArePlaced c count (us ++ x ∷ []) (ps ++ inner_parts)
  placed_push count x seated was = record {
    counted = let a = was.counted in let b = length-append us (x ∷ []) in omega (arith, a, b);
    around = λ p o y at outer. elim (append_cases ps inner_parts p y at) [
      | inl h ↦ was.around p o y h outer
      | inr h ↦
          let n = new_part p y h.0 h.1 h.2 in
          let e = some_outer y o n.outer n.is-outer outer in
          let lt = slice_get_within ps n.outer n.around n.at in
          let b = n.behind in
          omega (arith, e, lt, b)
    ];
    outermost = λ p y at none. elim (append_cases ps inner_parts p y at) [
      | inl h ↦ was.outermost p y h none
      | inr h ↦ let n = new_part p y h.0 h.1 h.2 in let no : Some n.outer ≡ None = sym n.is-outer ∙ none in cc
    ];
    inner = λ p o y z at outer there. elim (append_cases ps inner_parts p y at) [
      | inl h ↦
          let lt = was.around p o y h outer in
          let within = slice_get_within ps p y h in
          was.inner p o y z h outer (old o z (omega (arith, lt, within)) there)
      | inr h ↦
          let n = new_part p y h.0 h.1 h.2 in
          let e = some_outer y o n.outer n.is-outer outer in
          let within = slice_get_within ps n.outer n.around n.at in
          let before = old o z (omega (arith, e, within)) there in
          let w = seated.within o z before in
          let lt = slice_get_within us z.union w.0 w.1 in
          let of = n.of in
          let counted = was.counted in
          (omega (arith, of, counted), omega (arith, of, lt))
    ];
  } where
    old : (o : ℕ) (z : Part) → o < length ps → slice_get (ps ++ inner_parts) o ≡ Some z → slice_get ps o ≡ Some z
    old o z lt at = elim (append_cases ps inner_parts o z at) [
      | inl h ↦ h
      | inr h ↦ let e = h.1 in absurd (omega (arith, lt, e))
    ]

  pub inner_placed : (count : ℕ) (vs : List Union) (qs : List Part) → IsPushed us ps inner_parts vs qs → AreSeated c us ps → ArePlaced c count us ps → ArePlaced c count vs qs
  inner_placed count vs qs pushed seated was = after_push (ArePlaced c count) us vs ps qs inner_parts pushed (λ x named. placed_push count x seated was)

-- ---- the union of a root more

module _ (c : Collection) (roots : List (List InterfaceId)) (us : List Union) (ps : List Part) (is : List InterfaceId) (held : AllByRecursion (HasInterface c) is) where
  abbrev root_parts : List Part
  root_parts = map (root_part (length us)) is

  root_each : (j : ℕ) (y : Part) → slice_get root_parts j ≡ Some y → (y.union ≡ length us) × HasInterface c y.interface
  root_each j y at =
      let w = map_cases (root_part (length us)) is j y at in
      (ap (λ (t : Part). t.union) w.2, subst (λ (t : Part). HasInterface c t.interface) (sym w.2) (all_at (HasInterface c) is j w.0 held w.1))

  roots_push : (x : Union) → x.parts.items ≡ numbered (length ps) root_parts → AreRoots c roots us ps → AreRoots c (roots ++ is ∷ []) (us ++ x ∷ []) (ps ++ root_parts)
  roots_push x named was = record {
    counted = let a = length-append us (x ∷ []) in let b = length-append roots (is ∷ []) in let e = was.counted in omega (arith, a, b, e);
    rooted = λ k js at. elim (push-cases roots is k js at) [
      | inl h ↦
          let w = was.rooted k js h in
          (w.0, at-push us x k w.0 w.1, zip_all (λ i q. slice_get ps q ≡ Some (part i None k)) (λ i q. slice_get (ps ++ root_parts) q ≡ Some (part i None k)) (λ i q there. append_left ps root_parts q (part i None k) there) js w.0.parts.items w.2)
      | inr h ↦
          let number : k ≡ length us = h.0 ∙ sym was.counted in
          let zip = numbered_zip (root_part (length us)) (ps ++ root_parts) (length ps) is (λ j i there. append_right ps root_parts j ∙ get_map (root_part (length us)) is j i there) in (
            x,
            ap (slice_get (us ++ x ∷ [])) number ∙ at-end us x,
            subst (λ (n : ℕ). AllZip (λ i q. slice_get (ps ++ root_parts) q ≡ Some (part i None n)) js x.parts.items) (sym number)
                (subst (λ (l : List InterfaceId). AllZip (λ i q. slice_get (ps ++ root_parts) q ≡ Some (part i None (length us))) l x.parts.items) (sym h.1)
                (subst (λ (l : List ℕ). AllZip (λ i q. slice_get (ps ++ root_parts) q ≡ Some (part i None (length us))) is l) (sym named) zip)),
          )
    ];
    seated = seated_push c us ps root_parts x named root_each was.seated;
    flat = λ p y at. elim (append_cases ps root_parts p y at) [
      | inl h ↦ was.flat p y h
      | inr h ↦ let w = map_cases (root_part (length us)) is h.0 y h.2 in ap (λ (t : Part). t.outer) w.2
    ];
  }

  pub roots_next : (vs : List Union) (qs : List Part) → IsPushed us ps root_parts vs qs → AreRoots c roots us ps → AreRoots c (roots ++ is ∷ []) vs qs
  roots_next vs qs pushed was = after_push (AreRoots c (roots ++ is ∷ [])) us vs ps qs root_parts pushed (λ x named. roots_push x named was)

pub no_roots : (c : Collection) → AreRoots c [] [] []
no_roots c = record {
  counted = refl;
  rooted = λ k is at. cc;
  seated = record { held = λ p x at. cc; within = λ p x at. cc; placed = λ u p x at. cc };
  flat = λ p x at. cc;
}

-- the unions of roots alone are in place
pub roots_placed : (c : Collection) (roots : List (List InterfaceId)) (us : List Union) (ps : List Part) → AreRoots c roots us ps → ArePlaced c (length roots) us ps
roots_placed c roots us ps was = record {
  counted = let e = was.counted in omega (arith, e);
  around = λ p o x at outer. let no : Some o ≡ None = sym outer ∙ was.flat p x at in cc;
  outermost = λ p x at none.
      let w = was.seated.within p x at in
      let lt = slice_get_within us x.union w.0 w.1 in
      let e = was.counted in
      omega (arith, lt, e);
  inner = λ p o x y at outer there. let no : Some o ≡ None = sym outer ∙ was.flat p x at in cc;
}

-- ---- a union whose exports are written

module _ (c : Collection) (us : List Union) (ps : List Part) (n : ℕ) (x y : Union) (at : slice_get us n ≡ Some x) (same : y.parts.items ≡ x.parts.items) where
  pub set_same : (us : List Union) (n : ℕ) (x : Union) → slice_get us n ≡ Some x → slice_get (set us n y) n ≡ Some y
  set_same [] n x at = cc
  set_same (z ∷ us) zero x at = refl
  set_same (z ∷ us) (suc n) x at = set_same us n x at

  pub set_kept : KeepsParts us (set us n y)
  set_kept = kept us n at
    where
      kept : (us : List Union) (n : ℕ) → slice_get us n ≡ Some x → KeepsParts us (set us n y)
      kept [] n at u z there = cc
      kept (w ∷ us) zero at zero z there = (y, refl, same ∙ ap (λ (t : Union). t.parts.items) (some-same x z (sym at ∙ there)))
      kept (w ∷ us) zero at (suc u) z there = (z, there, refl)
      kept (w ∷ us) (suc n) at zero z there = (z, there, refl)
      kept (w ∷ us) (suc n) at (suc u) z there = kept us n at u z there

  back : (u : ℕ) (z : Union) → slice_get (set us n y) u ≡ Some z → (w : Union) × (slice_get us u ≡ Some w) × (z.parts.items ≡ w.parts.items)
  back u z there = elim (set-cases us n y u z there) [
    | inl h ↦ (x, ap (slice_get us) h.0 ∙ at, ap (λ (t : Union). t.parts.items) h.1 ∙ same)
    | inr h ↦ (z, h.1, refl)
  ]

  pub set_seated : AreSeated c us ps → AreSeated c (set us n y) ps
  set_seated was = record {
    held = was.held;
    within = λ p z there.
        let w = was.within p z there in
        let k = set_kept z.union w.0 w.1 in
        (k.0, k.1, subst (λ (l : List ℕ). Contains l p) (sym k.2) w.2);
    placed = λ u p z there inside.
        let w = back u z there in
        was.placed u p w.0 w.1 (subst (λ (l : List ℕ). Contains l p) w.2 inside);
  }

  set_length : (us : List Union) (n : ℕ) → length (set us n y) ≡ length us
  set_length [] n = refl
  set_length (w ∷ us) zero = refl
  set_length (w ∷ us) (suc n) = ap suc (set_length us n)

  pub set_placed : (count : ℕ) → ArePlaced c count us ps → ArePlaced c count (set us n y) ps
  set_placed count was = record {
    counted = let a = was.counted in let b = set_length us n in omega (arith, a, b);
    around = was.around;
    outermost = was.outermost;
    inner = was.inner;
  }

-- ---- what is read of a listing, one after another

instances_both : (ls ms : List (ℕ × ItemKind)) → instances_in (ls ++ ms) ≡ instances_in ls ++ instances_in ms
instances_both [] ms = refl
instances_both ((p, kind.Instance i) ∷ ls) ms = ap (λ r. (p, i) ∷ r) (instances_both ls ms)
instances_both ((p, kind.TypeItem t) ∷ ls) ms = instances_both ls ms
instances_both ((p, kind.Func f) ∷ ls) ms = instances_both ls ms
instances_both ((p, kind.Component w) ∷ ls) ms = instances_both ls ms
instances_both ((p, kind.Module m) ∷ ls) ms = instances_both ls ms
instances_both ((p, kind.Value v) ∷ ls) ms = instances_both ls ms

-- an instance more
pub instance_next : (ls : List (ℕ × ItemKind)) (is js : List (ℕ × InterfaceId)) (i p : ℕ) (k : ItemKind) (id : InterfaceId) → slice_get ls i ≡ Some (p, k) → k ≡ kind.Instance id
    → is ≡ instances_in (take i ls) → js ≡ is ++ (p, id) ∷ [] → js ≡ instances_in (take (i + 1) ls)
instance_next ls is js i p k id at same was next =
    rw (add-one, take_at ls i (p, k) at)
    (next ∙ ap (λ l. l ++ (p, id) ∷ []) was ∙ sym (instances_both (take i ls) ((p, k) ∷ []) ∙ ap (λ j. instances_in (take i ls) ++ instances_in ((p, j) ∷ [])) same))

-- no instance
no_instance : (p : ℕ) (k : ItemKind) → ((i : InterfaceId) → k ≡ kind.Instance i → ⊥) → instances_in ((p, k) ∷ []) ≡ []
no_instance p (kind.Instance i) other = absurd (other i refl)
no_instance p (kind.TypeItem t) other = refl
no_instance p (kind.Func f) other = refl
no_instance p (kind.Component w) other = refl
no_instance p (kind.Module m) other = refl
no_instance p (kind.Value v) other = refl

pub no_instance_next : (ls : List (ℕ × ItemKind)) (is : List (ℕ × InterfaceId)) (i p : ℕ) (k : ItemKind) → slice_get ls i ≡ Some (p, k) → ((i : InterfaceId) → k ≡ kind.Instance i → ⊥)
    → is ≡ instances_in (take i ls) → is ≡ instances_in (take (i + 1) ls)
no_instance_next ls is i p k at other was =
    rw (add-one, take_at ls i (p, k) at)
    (was ∙ sym (instances_both (take i ls) ((p, k) ∷ []) ∙ ap (λ l. instances_in (take i ls) ++ l) (no_instance p k other) ∙ append-nil (instances_in (take i ls))))

-- ---- what is united, in one step

-- whether a part lists its own resource under a name
pub own_is : (c : Collection) (ps : List Part) (n : Name) (l : ℕ × ItemKind) (x : Part) (it : Interface) → slice_get ps l.0 ≡ Some x → item_at c.interfaces x.interface.0 ≡ Some it → is_own_of c ps n l ≡ is_some (own_resource c it.uses (n, l.1))
own_is c ps n l x it at there =
    ap (λ o. option_case o false (λ (y : Part). option_case (item_at c.interfaces y.interface.0) false (λ i. is_some (own_resource c i.uses (n, l.1))))) at
    ∙ ap (λ o. option_case o false (λ (i : Interface). is_some (own_resource c i.uses (n, l.1)))) there

pub any_next : {A : Type 0} (f : A → Bool) (xs : List A) (i : ℕ) (x : A) → slice_get xs i ≡ Some x → list_any f (take i xs) ≡ false → f x ≡ false → list_any f (take (i + 1) xs) ≡ false
any_next {A = A} f xs i x at was none = rw (add-one, take_at xs i x at) (any_both (take i xs) was)
  where
    any_both : (ys : List A) → list_any f ys ≡ false → list_any f (ys ++ x ∷ []) ≡ false
    any_both [] h = or_from (f x) false none refl
    any_both (y ∷ ys) h = let q = or_parts (f y) (list_any f ys) h in or_from (f y) (list_any f (ys ++ x ∷ [])) q.0 (any_both ys q.1)

-- the union that was put behind the others is that of what is united
pub put_inner : (us vs : List Union) (ps qs : List Part) (u : ℕ) (is : List (ℕ × InterfaceId)) → u < length us → is ≢ [] → IsPushed us ps (map (inside_part (length us)) is) vs qs → IsInner vs qs u is (Some (length us))
put_inner us vs ps qs u [] before some pushed = absurd (some refl)
put_inner us vs ps qs u (i ∷ is) before some pushed =
    let new = map (inside_part (length us)) (i ∷ is) in
    let there : slice_get vs (length us) ≡ Some pushed.0 = ap (λ l. slice_get l (length us)) pushed.1 ∙ at-end us pushed.0 in
    let zip = numbered_zip (inside_part (length us)) qs (length ps) (i ∷ is) (λ k j at. ap (λ l. slice_get l (length ps + k)) pushed.3 ∙ append_right ps new k ∙ get_map (inside_part (length us)) (i ∷ is) k j at) in
    (length us, pushed.0, refl, before, there, subst (λ (l : List ℕ). AreParts qs (length us) (i ∷ is) l) (sym pushed.2) zip)

-- the first of those that are listed
pub first_listed : (ls : List (ℕ × ItemKind)) (d : ℕ × ItemKind) → ls ≢ [] → (more : List (ℕ × ItemKind)) × (ls ≡ ((get_or ls 0 d).0, (get_or ls 0 d).1) ∷ more)
first_listed [] d some = absurd (some refl)
first_listed (l ∷ ls) d some = (ls, refl)
