-- Names that are found among the imports of a merge.
use Rattle.std.proofs.Common.{◌≡◌, ℕ, zero, suc, ◌+◌, ◌<◌, ◌≤◌, Bool, true, false, if◌then◌else◌, List, [], ◌∷◌, ◌++◌, length, map, take, refl, ap, ◌∙◌, sym, arith, Option, Some, None}
use Rattle.std.specs.Prelude.{slice_get}
use Rattle.std.proofs.lemmas.List.{map-append, take_all}
use Rattle.std.specs.Borrow.{Bor}
use Rattle.std.specs.Option.{option_map}
use Rattle.std.proofs.lemmas.Option.{slice_get_within}
use Rattle.wac_types_shapes.specs.primitives.Name.{Name, same_name}
use Rattle.wac_types_shapes.specs.shapes.Named.{named_at}
use Rattle.wac_types_shapes.proofs.lemmas.shapes.Names.{same_name-true, same_name-from}
use Rattle.wac_types_shapes.specs.declared.shapes.component.ItemKind.{ItemKind}
use Rattle.wac_names.specs.private.validation.Views.{texts}
use Rattle.wac_merge_classes.specs.entries.Classes.{Entry, by_names, imported_as}
use Rattle.wac_merge_classes.specs.terms.Merge.{import_entries}
use Rattle.wac_merge.specs.Aggregate.{Aggregate}
use Rattle.wac_binary.specs.declared.sorts.Sort.{Sort}
use Rattle.wac_graph_encode.specs.private.places.Places.{IsImportedName, IsPlaceOf}

-- what stands under a name
stands_under : (i : ℕ) (n : Name) (es : List (Name × ItemKind)) (p : ℕ) (v : ItemKind) → named_at i n es ≡ Some (p, v) → (j : ℕ) × (p ≡ i + j) × (slice_get (import_entries es) j ≡ Some (record { name = n; kind = v }))
stands_under i n [] p v h = cc
stands_under i n (e ∷ es) p v h = split (same_name n e.0) refl h (stands_under (suc i) n es p v) where
  split : (b : Bool) → same_name n e.0 ≡ b → (if b then Some (i, e.1) else named_at (suc i) n es) ≡ Some (p, v)
      → (named_at (suc i) n es ≡ Some (p, v) → (j : ℕ) × (p ≡ suc i + j) × (slice_get (import_entries es) j ≡ Some (record { name = n; kind = v })))
      → (j : ℕ) × (p ≡ i + j) × (slice_get (import_entries (e ∷ es)) j ≡ Some (record { name = n; kind = v }))
  split true is h _ =
      let both : ◌≡◌ {A = ℕ × ItemKind} (i, e.1) (p, v) = cc in
      let here : i ≡ p = ap (λ (x : ℕ × ItemKind). x.0) both in
      let kind : e.1 ≡ v = ap (λ (x : ℕ × ItemKind). x.1) both in
      let name : e.0 ≡ n = sym (same_name-true n e.0 is) in
      (0, omega (arith, here), λ k. Some (record { name = name k; kind = kind k }))
  split false _ h more = let (j, at, there) = more h in (suc j, omega (arith, at), there)

-- nothing stands under a name that is not found
nothing_under : (i : ℕ) (n : Name) (es : List (Name × ItemKind)) → named_at i n es ≡ None → (p : ℕ) (e : Entry) → slice_get (import_entries es) p ≡ Some e → e.name ≡ n → ⊥
nothing_under i n [] h p e at named = cc
nothing_under i n (x ∷ es) h p e at named = split p at (same_name n x.0) refl h (λ q none there. nothing_under (suc i) n es none q e there named) where
  split : (p : ℕ) → slice_get (import_entries (x ∷ es)) p ≡ Some e → (b : Bool) → same_name n x.0 ≡ b → (if b then Some (i, x.1) else named_at (suc i) n es) ≡ None
      → ((q : ℕ) → named_at (suc i) n es ≡ None → slice_get (import_entries es) q ≡ Some e → ⊥) → ⊥
  split p at true is h more = cc
  split zero at false is h more =
      let same : ◌≡◌ {A = Entry} (record { name = x.0; kind = x.1 }) e = cc in
      let other : same_name n x.0 ≡ true = same_name-from n x.0 (sym (ap (λ (y : Entry). y.name) same ∙ named)) in
      cc
  split (suc q) at false is h more = more q h at

module _ (a : Aggregate) (name canonical : Name) (is : canonical ≡ imported_as by_names a.entries name) (imports : List (Name × ItemKind)) (are : import_entries imports ≡ (a.merge).imports) (found : Option (ℕ × Bor ItemKind)) (finds : option_map (λ p. (p.0, p.1.now)) found ≡ named_at 0 canonical imports) where
  -- what is imported is found
  pub never_missed : IsImportedName a name → found ≡ None → ⊥
  never_missed h none =
      nothing_under 0 canonical imports (sym finds ∙ ap (option_map (λ p. (p.0, p.1.now))) none) h.p h.entry (ap (λ es. slice_get es h.p) are ∙ h.there) (h.named ∙ sym is)

  module _ (position : ℕ) (kind : Bor ItemKind) (there : found ≡ Some (position, kind)) where
    entry_there : slice_get (a.merge).imports position ≡ Some (record { name = canonical; kind = kind.now })
    entry_there =
        let (j, at, stands) = stands_under 0 canonical imports position kind.now (sym finds ∙ ap (option_map (λ p. (p.0, p.1.now))) there) in
        let here : j ≡ position = omega (arith, at) in
        ap (λ es. slice_get es position) (sym are) ∙ ap (slice_get (import_entries imports)) (sym here) ∙ stands

    pub position_within : (places : List (Sort × ℕ)) → length places ≡ length (a.merge).imports → position < length places
    position_within places counted = let low : position < length (a.merge).imports = slice_get_within (a.merge).imports position (record { name = canonical; kind = kind.now }) entry_there in omega (arith, low, counted)

    pub is_place : (places : List (Sort × ℕ)) (place : Sort × ℕ) → slice_get places position ≡ Some place → IsPlaceOf a places name place
    is_place places place at = record { p = position; entry = record { name = canonical; kind = kind.now }; there = entry_there; named = is; placed = at }

-- ---- names in a row
pub name_more : (imports : List (Name × ItemKind)) (i : ℕ) (text : Bor (List ℕ)) (old new : List (Bor (List ℕ))) → option_map (λ e. e.0) (slice_get imports i) ≡ Some text.now → new ≡ old ++ text ∷ [] → texts old ≡ map (λ e. e.0) (take i imports)
    → texts new ≡ map (λ e. e.0) (take (i + 1) imports)
name_more imports i text old new at added before =
    let next : i + 1 ≡ suc i = omega arith in
    ap texts added ∙ map-append (λ (t : Bor (List ℕ)). t.now) old (text ∷ []) ∙ ap (λ xs. xs ++ text.now ∷ []) before ∙ sym (one_more imports i text.now at) ∙ ap (λ k. map (λ (e : Name × ItemKind). e.0) (take k imports)) (sym next) where
      one_more : (es : List (Name × ItemKind)) (i : ℕ) (n : Name) → option_map (λ e. e.0) (slice_get es i) ≡ Some n → map (λ e. e.0) (take (suc i) es) ≡ map (λ e. e.0) (take i es) ++ n ∷ []
      one_more [] i n h = cc
      one_more (e ∷ es) zero n h = let same : e.0 ≡ n = cc in ap (λ x. x ∷ []) same
      one_more (e ∷ es) (suc i) n h = ap (λ xs. e.0 ∷ xs) (one_more es i n h)

pub names_all : (imports : List (Name × ItemKind)) (i : ℕ) (names : List (Bor (List ℕ))) → length imports ≤ i → texts names ≡ map (λ e. e.0) (take i imports) → texts names ≡ map (λ e. e.0) imports
names_all imports i names past is = is ∙ ap (map (λ e. e.0)) (take_all i imports past)
