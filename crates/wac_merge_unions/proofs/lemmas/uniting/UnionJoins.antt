-- Unions whose exports are found, one after another.
use Rattle.std.proofs.Common.{◌≡◌, ◌≢◌, ℕ, zero, suc, ◌+◌, ◌<◌, ◌≤◌, Bool, true, false, cond, List, [], ◌∷◌, ◌++◌, map, length, slice_get, Option, Some, None, ◌⊎◌, inl, inr, refl, sym, ap, ◌∙◌, subst, arith}
use Rattle.std.proofs.Math.ListN.{set}
use Rattle.std.specs.List.{AllByRecursion, AllZip}
use Rattle.std.specs.Option.{MatchOption}
use Rattle.std.proofs.lemmas.Option.{slice_get_within}
use Rattle.wac_types_shapes.specs.primitives.Name.{Name, same_name, find_name, option_case}
use Rattle.wac_types_shapes.specs.shapes.Named.{NoNameTwice, names_of}
use Rattle.wac_types_collection.specs.collection.Collection.{Collection, IsWellFormed, HasInterface}
use Rattle.wac_types_shapes.specs.declared.shapes.component.InterfaceId.{InterfaceId}
use Rattle.wac_types_shapes.specs.declared.shapes.component.ItemKind.{ItemKind}
use Rattle.wac_types_shapes.proofs.lemmas.shapes.Names.{same_name-true}
use Rattle.wac_types_collection.proofs.lemmas.collection.Growth.{map_all}
use Rattle.wac_merge_classes.specs.declared.terms.parts.Part.{Part}
use Rattle.wac_merge_classes.specs.declared.terms.parts.Export.{Export}
use Rattle.wac_merge_classes.specs.declared.terms.parts.Union.{Union}
use Rattle.wac_merge_classes.specs.terms.Merge.{names_behind}
use Rattle.wac_merge_classes.specs.terms.Unions.{part, part_lists, listed_under, united, IsExport, AreUnions}
use Rattle.wac_merge_unions.specs.private.uniting.UnionSteps.{grouped, IsHeldPart, IsHeldListing, IsHeldGroup, inside_part, IsUnited, Extends, KeepsParts, AreSeated, ArePlaced, AreRoots, AreExports, AreJoined, IsExportOf, AreOpen, IsJoined, group_weight, groups_weight}
use Rattle.wac_merge_classes.proofs.lemmas.entries.Lists.{some-at}
use Rattle.wac_merge_unions.proofs.lemmas.uniting.UnionLists.{some-same, extends_refl, zip_all, zip_known, zip_push}
use Rattle.wac_merge_unions.proofs.lemmas.uniting.UnionGroups.{under, under_grouped, names_grouped, each_grouped, weight_grouped}
use Rattle.wac_merge_unions.proofs.lemmas.uniting.UnionPlaces.{held_still, parts_still, listed_still, export_still, keeps_from, members_held, push_extends, united_held, inner_seated, inner_placed, roots_placed, set_kept, set_seated, set_placed, set_same}
use Rattle.wac_merge_unions.proofs.lemmas.uniting.UnionWeights.{left_at, left_set, left_united}

-- ---- what is united comes behind

module _ (c : Collection) (us vs : List Union) (ps qs : List Part) (is : List (ℕ × InterfaceId)) where
  pub extends_united : IsUnited us ps is vs qs → Extends us vs × Extends ps qs
  extends_united h = elim h [
    | inl same ↦ (subst (λ (l : List Union). Extends us l) (sym same.0) (extends_refl us), subst (λ (l : List Part). Extends ps l) (sym same.1) (extends_refl ps))
    | inr put ↦ push_extends us vs ps qs (map (inside_part (length us)) is) put.1
  ]

  seated_united : AllByRecursion (λ i. IsHeldPart c ps i.0 × HasInterface c i.1) is → IsUnited us ps is vs qs → AreSeated c us ps → AreSeated c vs qs
  seated_united held h was = elim h [
    | inl same ↦ subst (λ (l : List Union). AreSeated c l qs) (sym same.0) (subst (λ (l : List Part). AreSeated c us l) (sym same.1) was)
    | inr put ↦ inner_seated c us ps is held vs qs put.1 was
  ]

  placed_united : (count : ℕ) → AllByRecursion (λ i. IsHeldPart c ps i.0 × HasInterface c i.1) is → IsUnited us ps is vs qs → AreSeated c us ps → ArePlaced c count us ps → ArePlaced c count vs qs
  placed_united count held h seated was = elim h [
    | inl same ↦ subst (λ (l : List Union). ArePlaced c count l qs) (sym same.0) (subst (λ (l : List Part). ArePlaced c count us l) (sym same.1) was)
    | inr put ↦ inner_placed c us ps is held count vs qs put.1 seated was
  ]

-- ---- one export more

pub open_first : (c : Collection) (us : List Union) (ps : List Part) (u : ℕ) → AreSeated c us ps → AreOpen c us ps u [] us ps []
open_first c us ps u seated = record {
  unions = extends_refl us;
  parts = extends_refl ps;
  seated = seated;
  placed = λ count h. h;
  exports = tt;
  lighter = omega arith;
}

module _ (c : Collection) where
  groups_push : (gs : List (Name × List (ℕ × ItemKind))) (g : Name × List (ℕ × ItemKind)) → groups_weight c (gs ++ g ∷ []) ≡ groups_weight c gs + group_weight c g.1
  groups_push [] g = omega arith
  groups_push (h ∷ gs) g = let r = groups_push gs g in omega (arith, r)

  pub listing_still : (ps qs : List Part) → Extends ps qs → (ls : List (ℕ × ItemKind)) → AllByRecursion (IsHeldListing c ps) ls → AllByRecursion (IsHeldListing c qs) ls
  listing_still ps qs more ls h = map_all (IsHeldListing c ps) (IsHeldListing c qs) (λ l k. (held_still c ps qs l.0 more k.0, k.1)) ls h

  pub listing_parts : (ps : List Part) (ls : List (ℕ × ItemKind)) → AllByRecursion (IsHeldListing c ps) ls → AllByRecursion (λ l. IsHeldPart c ps l.0) ls
  listing_parts ps ls h = map_all (IsHeldListing c ps) (λ l. IsHeldPart c ps l.0) (λ l k. k.0) ls h

  pub open_next : IsWellFormed c → (us vs ws : List Union) (ps qs rs : List Part) (u : ℕ) (gs : List (Name × List (ℕ × ItemKind))) (es : List (Name × Export)) (g : Name × List (ℕ × ItemKind)) (e : Export) → u < length us
      → AllByRecursion (IsHeldGroup c ps) gs → AllByRecursion (IsHeldListing c ps) g.1 → AreOpen c us ps u gs vs qs es → IsUnited vs qs (united g.1) ws rs → IsExport c ws rs u g.0 g.1 e
      → AreOpen c us ps u (gs ++ g ∷ []) ws rs (es ++ (g.0, e) ∷ [])
  open_next wf us vs ws ps qs rs u gs es g e lt groups held was joined export =
      let more = extends_united c vs ws qs rs (united g.1) joined in
      let now = listing_still ps qs was.parts g.1 held in
      let inner = united_held c qs g.1 now in
      let vs-length : suc u ≤ length vs = (let x = some-at us u lt in let w = slice_get_within vs u x.0 (was.unions u x.0 x.1) in omega (arith, w)) in
      record {
        unions = λ i x at. more.0 i x (was.unions i x at);
        parts = λ i x at. more.1 i x (was.parts i x at);
        seated = seated_united c vs ws qs rs (united g.1) inner joined was.seated;
        placed = λ count h. placed_united c vs ws qs rs (united g.1) count inner joined was.seated (was.placed count h);
        exports = zip_push (IsExportOf c ws rs u) gs es g (g.0, e)
            (zip_known (IsHeldGroup c ps) (IsExportOf c vs qs u) (IsExportOf c ws rs u)
            (λ f d h k. (k.0, export_still c vs ws qs rs u f.0 f.1 d.1 (keeps_from vs ws more.0) more.1 (listing_parts qs f.1 (listing_still ps qs was.parts f.1 h.1)) k.1)) gs es groups was.exports)
            (refl, export);
        lighter =
            let a = was.lighter in
            let b = left_united c wf vs ws qs rs (suc u) vs-length was.seated g.1 now joined in
            let d = groups_push gs g in
            omega (arith, a, b, d);
      }

  -- ---- all exports of a union

  found_zip : (us : List Union) (ps : List Part) (u : ℕ) (gs : List (Name × List (ℕ × ItemKind))) (es : List (Name × Export)) (n : Name) → AllZip (IsExportOf c us ps u) gs es → MatchOption (find_name es n) (under gs n ≡ []) (λ e. IsExport c us ps u n (under gs n) e)
  found_zip us ps u [] [] n z = refl
  found_zip us ps u [] (e ∷ es) n z = absurd z
  found_zip us ps u (g ∷ gs) [] n z = absurd z
  found_zip us ps u (g ∷ gs) (e ∷ es) n z =
      subst (λ (b : Bool). MatchOption (cond b (Some e.1) (find_name es n)) (under (g ∷ gs) n ≡ []) (λ d. IsExport c us ps u n (under (g ∷ gs) n) d)) (ap (same_name n) (sym z.0.0))
      (by (same_name n g.0) (λ t. same_name-true n g.0 t) (found_zip us ps u gs es n z.1))
    where
      by : (b : Bool) → (b ≡ true → n ≡ g.0) → MatchOption (find_name es n) (under gs n ≡ []) (λ d. IsExport c us ps u n (under gs n) d) → MatchOption (cond b (Some e.1) (find_name es n)) (option_case (cond b (Some g.1) (find_name gs n)) [] (λ ls. ls) ≡ []) (λ d. IsExport c us ps u n (option_case (cond b (Some g.1) (find_name gs n)) [] (λ ls. ls)) d)
      by true same rest = subst (λ (m : Name). IsExport c us ps u m g.1 e.1) (sym (same refl)) z.0.1
      by false same rest = rest

  -- the exports have the names that are listed
  pub names_zip : (us : List Union) (ps : List Part) (u : ℕ) (gs : List (Name × List (ℕ × ItemKind))) (es : List (Name × Export)) → AllZip (IsExportOf c us ps u) gs es → map (λ e. e.0) es ≡ names_of gs
  names_zip us ps u [] [] z = refl
  names_zip us ps u [] (e ∷ es) z = absurd z
  names_zip us ps u (g ∷ gs) [] z = absurd z
  names_zip us ps u (g ∷ gs) (e ∷ es) z = λ i. z.0.0 i ∷ names_zip us ps u gs es z.1 i

  -- the exports of a union stay its exports
  listed_parts : (ps : List Part) (xs : List ℕ) (n : Name) → AllByRecursion (IsHeldPart c ps) xs → AllByRecursion (λ l. IsHeldPart c ps l.0) (listed_under c ps xs n)
  listed_parts ps [] n h = tt
  listed_parts ps (x ∷ xs) n h = by (find_name (part_lists c ps x) n) (listed_parts ps xs n h.1)
    where
      by : (o : Option ItemKind) → AllByRecursion (λ l. IsHeldPart c ps l.0) (listed_under c ps xs n) → AllByRecursion (λ l. IsHeldPart c ps l.0) (option_case o (listed_under c ps xs n) (λ k. (x, k) ∷ listed_under c ps xs n))
      by None rest = rest
      by (Some k) rest = (h.0, rest)

  matched : (P Q : Type 0) (R S : Export → Type 0) (o : Option Export) → (P → Q) → ((e : Export) → R e → S e) → MatchOption o P R → MatchOption o Q S
  matched P Q R S None f g h = f h
  matched P Q R S (Some e) f g h = g e h

  pub exports_still : (us vs : List Union) (ps qs : List Part) (u : ℕ) (xs : List ℕ) (es : List (Name × Export)) → KeepsParts us vs → Extends ps qs → AllByRecursion (IsHeldPart c ps) xs → AreExports c us ps u xs es → AreExports c vs qs u xs es
  exports_still us vs ps qs u xs es keeps more held was = record {
    found = λ n.
        let e = listed_still c ps qs xs n more held in
        matched (listed_under c ps xs n ≡ []) (listed_under c qs xs n ≡ []) (λ d. IsExport c us ps u n (listed_under c ps xs n) d) (λ d. IsExport c vs qs u n (listed_under c qs xs n) d) (find_name es n)
        (λ none. e ∙ none)
        (λ d h. subst (λ (ls : List (ℕ × ItemKind)). IsExport c vs qs u n ls d) (sym e) (export_still c us vs ps qs u n (listed_under c ps xs n) d keeps more (listed_parts ps xs n held) h))
        (was.found n);
    names = was.names ∙ ap (names_behind []) (sym (parts_still c ps qs xs more held));
  }

  module _ (wf : IsWellFormed c) (us : List Union) (ps : List Part) (u : ℕ) (x : Union) (at : slice_get us u ≡ Some x) (seated : AreSeated c us ps) where
    pub groups_held : AllByRecursion (IsHeldGroup c ps) (grouped c ps [] x.parts.items)
    groups_held = each_grouped c wf ps [] x.parts.items tt (members_held c us ps u x seated at)

    open_exports : AllByRecursion (λ p. NoNameTwice (part_lists c ps p)) x.parts.items → (vs : List Union) (qs : List Part) (es : List (Name × Export)) → AreOpen c us ps u (grouped c ps [] x.parts.items) vs qs es → AreExports c vs qs u x.parts.items es
    open_exports once vs qs es h =
        let held = members_held c us ps u x seated at in
        record {
          found = λ n.
              let e : under (grouped c ps [] x.parts.items) n ≡ listed_under c qs x.parts.items n = under_grouped c ps [] x.parts.items n once ∙ sym (listed_still c ps qs x.parts.items n h.parts held) in
              subst (λ (ls : List (ℕ × ItemKind)). MatchOption (find_name es n) (ls ≡ []) (λ d. IsExport c vs qs u n ls d)) e (found_zip vs qs u (grouped c ps [] x.parts.items) es n h.exports);
          names =
              names_zip vs qs u (grouped c ps [] x.parts.items) es h.exports
              ∙ names_grouped c ps [] x.parts.items
              ∙ ap (names_behind []) (sym (parts_still c ps qs x.parts.items h.parts held));
        }

    pub join_done : AllByRecursion (λ p. NoNameTwice (part_lists c ps p)) x.parts.items → (vs : List Union) (qs : List Part) (es : List (Name × Export)) (z : Union) → z.parts.items ≡ x.parts.items → z.exports ≡ es
        → AreOpen c us ps u (grouped c ps [] x.parts.items) vs qs es → IsJoined c us ps u (set vs u z) qs
    join_done once vs qs es z same written h =
        let there : slice_get vs u ≡ Some x = h.unions u x at in
        let kept = set_kept c vs qs u x z there same in
        let written-at : slice_get (set vs u z) u ≡ Some z = set_same c vs qs u x z there same vs u x there in
        let ready = exports_still vs (set vs u z) qs qs u x.parts.items es kept (extends_refl qs)
        (map_all (IsHeldPart c ps) (IsHeldPart c qs) (λ p k. held_still c ps qs p h.parts k) x.parts.items (members_held c us ps u x seated at))
        (open_exports once vs qs es h) in
        record {
          kept = λ i y y-at. kept i y (h.unions i y y-at);
          others = λ i y ne y-at. set_other vs u i z ne ∙ h.unions i y y-at;
          parts = h.parts;
          seated = set_seated c vs qs u x z there same h.seated;
          placed = λ count k. set_placed c vs qs u x z there same count (h.placed count k);
          exported = λ y y-at.
              let e : z ≡ y = some-same z y (sym written-at ∙ y-at) in
              subst (λ (t : Union). AreExports c (set vs u z) qs u t.parts.items t.exports) e
              (subst (λ (l : List ℕ). AreExports c (set vs u z) qs u l z.exports) (sym same)
              (subst (λ (l : List (Name × Export)). AreExports c (set vs u z) qs u x.parts.items l) (sym written) ready));
          lighter =
              let a = h.lighter in
              let b = left_at c us ps u x at in
              let d = weight_grouped c ps [] x.parts.items in
              let e = left_set c vs qs u z in
              omega (arith, a, b, d, e);
        } where
          set_other : (xs : List Union) (n i : ℕ) (y : Union) → i ≢ n → slice_get (set xs n y) i ≡ slice_get xs i
          set_other [] n i y ne = refl
          set_other (z ∷ xs) zero zero y ne = absurd (ne refl)
          set_other (z ∷ xs) zero (suc i) y ne = refl
          set_other (z ∷ xs) (suc n) zero y ne = refl
          set_other (z ∷ xs) (suc n) (suc i) y ne = set_other xs n i y (λ e. ne (ap suc e))

  -- ---- one union after another

  pub joined_first : (roots : List (List InterfaceId)) (us : List Union) (ps : List Part) → AreRoots c roots us ps → AreJoined c roots 0 us ps
  joined_first roots us ps was = record {
    rooted = was.rooted;
    seated = was.seated;
    placed = roots_placed c roots us ps was;
    exported = λ u x lt at. absurd (omega (arith, lt));
  }

  earlier : (u n : ℕ) → u < suc n → (u ≡ n) ⊎ (u < n)
  earlier zero zero lt = inl refl
  earlier zero (suc n) lt = inr (omega arith)
  earlier (suc u) zero lt = absurd (omega (arith, lt))
  earlier (suc u) (suc n) lt = elim (earlier u n (omega (arith, lt))) [ inl e ↦ inl (ap suc e) | inr h ↦ inr (omega (arith, h)) ]

  pub joined_next : (roots : List (List InterfaceId)) (n : ℕ) (us vs : List Union) (ps qs : List Part) → n < length us → AreJoined c roots n us ps → IsJoined c us ps n vs qs → AreJoined c roots (suc n) vs qs
  joined_next roots n us vs ps qs within was h = record {
    rooted = λ k is at.
        let w = was.rooted k is at in
        let y = h.kept k w.0 w.1 in (
          y.0,
          y.1,
          subst (λ (l : List ℕ). AllZip (λ i q. slice_get qs q ≡ Some (part i None k)) is l) (sym y.2)
              (zip_all (λ i q. slice_get ps q ≡ Some (part i None k)) (λ i q. slice_get qs q ≡ Some (part i None k)) (λ i q there. h.parts q (part i None k) there) is w.0.parts.items w.2),
        );
    seated = h.seated;
    placed = h.placed (length roots) was.placed;
    exported = λ u x lt at. elim (earlier u n lt) [
      | inl e ↦
          let here : slice_get vs n ≡ Some x = ap (slice_get vs) (sym e) ∙ at in
          subst (λ (k : ℕ). AreExports c vs qs k x.parts.items x.exports) (sym e) (h.exported x here)
      | inr less ↦
          let w = some-at us u (omega (arith, less, within)) in
          let still = h.others u w.0 (λ e. omega (arith, e, less)) w.1 in
          let same : w.0 ≡ x = some-same w.0 x (sym still ∙ at) in
          let before : slice_get us u ≡ Some x = w.1 ∙ ap Some same in
          exports_still us vs ps qs u x.parts.items x.exports h.kept h.parts (members_held c us ps u x was.seated before) (was.exported u x less before)
    ];
  }

  pub all_joined : (roots : List (List InterfaceId)) (n : ℕ) (us : List Union) (ps : List Part) → length us ≤ n → AreJoined c roots n us ps → AreUnions c roots us ps
  all_joined roots n us ps most was = record {
    rooted = was.rooted;
    exported = λ u x m at. (was.exported u x (let lt = slice_get_within us u x at in omega (arith, lt, most)) at).found m;
    ordered = λ u x at. (was.exported u x (let lt = slice_get_within us u x at in omega (arith, lt, most)) at).names;
    held = was.seated.held;
    within = was.seated.within;
    around = was.placed.around;
    placed = was.seated.placed;
    outermost = was.placed.outermost;
    inner = was.placed.inner;
  }
