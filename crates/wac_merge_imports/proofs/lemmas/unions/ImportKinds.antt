-- What classes are imported as, one after another.
use Rattle.std.proofs.Common.{◌≡◌, ℕ, zero, suc, ◌+◌, ◌<◌, true, false, List, [], ◌∷◌, ◌++◌, length, take, get_or, slice_get, Option, Some, None, IsSome, sym, ap, ◌∙◌, subst, inl, inr, arith}
use Rattle.std.specs.Option.{MatchOption}
use Rattle.std.proofs.lemmas.List.{length-append, map-append}
use Rattle.std.proofs.lemmas.Option.{slice_get_within, slice_get-get_or}
use Rattle.wac_types_shapes.specs.primitives.Name.{Name, find_name}
use Rattle.wac_types_collection.specs.collection.Collection.{Collection}
use Rattle.wac_types_shapes.specs.declared.shapes.component.InterfaceId.{InterfaceId}
use Rattle.wac_types_shapes.specs.declared.shapes.component.ResourceId.{ResourceId}
use Rattle.wac_types_shapes.specs.declared.shapes.component.ItemKind.{ItemKind}
use Rattle.wac_types_shapes.specs.declared.shapes.component.ItemKind.TheVariants as kind
use Rattle.wac_types_shapes.specs.declared.shapes.component.«Type».TheVariants as ty
use Rattle.wac_types_shapes.proofs.lemmas.shapes.Names.{take_at}
use Rattle.wac_merge_classes.specs.terms.Merge.{import_entries}
use Rattle.wac_merge_classes.specs.entries.Bindings.{ClassBindings}
use Rattle.wac_merge_classes.specs.terms.Became.{became, whole_in}
use Rattle.wac_merge_classes.specs.entries.Classes.{Entry, AreClasses, by_names, canonical, class_names, members, names_instance, same_class}
use Rattle.wac_merge_imports.specs.unions.MergedClasses.{AreImports, IsClassKind}
use Rattle.wac_types_collection.specs.private.subtyping.Extended.{IsExtended}
use Rattle.wac_merge_classes.specs.terms.Writing.{IsGiven, IsWrittenAs}
use Rattle.wac_merge_classes.specs.declared.terms.fresh.Fresh.{Fresh}
use Rattle.wac_merge_classes.specs.declared.terms.parts.Part.{Part}
use Rattle.wac_merge_classes.proofs.lemmas.entries.ClassFacts.{class-refl, class-sym, class-trans, one-position}
use Rattle.wac_merge_classes.proofs.lemmas.entries.ClassPaths.{newest-class}
use Rattle.wac_merge_classes.proofs.lemmas.terms.Found.{find_at, no_some, one_some}
use Rattle.wac_merge_tables.proofs.lemmas.made.Extending.{still_interface}
use Rattle.wac_merge_resources.proofs.lemmas.renaming.FreshAdding.{some-of}
use Rattle.wac_merge_classes.proofs.lemmas.entries.Lists.{push-cases, some-at}
use Rattle.wac_merge_classes.proofs.lemmas.terms.Found.{get_map, mapped_length}
use Rattle.wac_merge_imports.proofs.lemmas.unions.WritingItems.{still-written}

-- what stands among the first i is one of them
taken : (xs : List ℕ) (i j x : ℕ) → slice_get (take i xs) j ≡ Some x → (slice_get xs j ≡ Some x) × (j < i)
taken [] zero j x at = absurd (no_some x at)
taken [] (suc i) j x at = absurd (no_some x at)
taken (y ∷ xs) zero j x at = absurd (no_some x at)
taken (y ∷ xs) (suc i) zero x at = (at, omega arith)
taken (y ∷ xs) (suc i) (suc j) x at = let h = taken xs i j x at in (h.0, omega (arith, h.1))

-- the entry of a class with its canonical name
pub record IsNamesake (es : List Entry) (k p : ℕ) : Type 0 where
  pub class : Name
  pub entry : Entry
  pub numbered : slice_get (class_names by_names es) k ≡ Some class
  pub there : slice_get es p ≡ Some entry
  pub member : same_class by_names es class entry.name ≡ true
  pub named : entry.name ≡ canonical by_names es class

pub namesake : (es : List Entry) (numbers positions : List ℕ) (names : List (Name × ℕ)) → AreClasses by_names es numbers positions names → (k : ℕ) → k < length (class_names by_names es) → IsNamesake es k (get_or positions k 0)
namesake es numbers positions names a k low =
    let at : slice_get positions k ≡ Some (get_or positions k 0) = slice_get-get_or positions k 0 (omega (arith, low, a.positioned)) in
    let (class, known) = some-at (class_names by_names es) k low in
    let g = a.greatest k (get_or positions k 0) class known at in
    record {
      class = class;
      entry = g.0;
      numbered = known;
      there = g.1;
      member = subst (λ (n : Name). same_class by_names es class n ≡ true) (sym g.2) (newest-class es class class es (class-refl by_names es class));
      named = g.2;
    }

-- what is given stays given
pub still-given : (m more : Collection) → IsExtended m more → (k : ItemKind) (o : Option InterfaceId) → IsGiven m k o → IsGiven more k o
still-given m more x (kind.Instance i) o h = (h.0, h.1, still_interface m more x h.0 h.2)
still-given m more x (kind.TypeItem (ty.Interface i)) o h = (h.0, h.1, still_interface m more x h.0 h.2)
still-given m more x (kind.TypeItem (ty.Resource r)) o h = h
still-given m more x (kind.TypeItem (ty.Func f)) o h = h
still-given m more x (kind.TypeItem (ty.Value v)) o h = h
still-given m more x (kind.TypeItem (ty.World w)) o h = h
still-given m more x (kind.TypeItem (ty.Module y)) o h = h
still-given m more x (kind.Func f) o h = h
still-given m more x (kind.Component w) o h = h
still-given m more x (kind.Module y) o h = h
still-given m more x (kind.Value v) o h = h

module _ (c : Collection) (es : List Entry) (ps : List Part) (bs : ClassBindings) (f : Fresh) (ws : List InterfaceId) where
  -- what a class became stays so
  pub still-kind : (m more : Collection) → IsExtended m more → (k : ℕ) (e : Entry) (l : ItemKind) → IsClassKind c m ps bs f ws k e l → IsClassKind c more ps bs f ws k e l
  still-kind m more x k e l = by (whole_in f k) where
    by : (o : Option ResourceId) → MatchOption o (IsWrittenAs c m (became c ps bs f None) (slice_get ws k) e.name e.kind l) (λ q. l ≡ kind.TypeItem (ty.Resource q))
        → MatchOption o (IsWrittenAs c more (became c ps bs f None) (slice_get ws k) e.name e.kind l) (λ q. l ≡ kind.TypeItem (ty.Resource q))
    by None h = still-written m more x c (became c ps bs f None) (slice_get ws k) e.name e.kind l h
    by (Some q) h = h

  module _ (order : List ℕ) (once : (i j k : ℕ) → slice_get order i ≡ Some k → slice_get order j ≡ Some k → i ≡ j) where
    -- with the next class
    pub imports-more : (m more : Collection) → IsExtended m more → (i k p : ℕ) (is : List (Name × ItemKind)) (l : ItemKind) (w : IsNamesake es k p) → slice_get order i ≡ Some k
        → ((e : Entry) (rest : List Entry) → names_instance es w.class ≡ false → members by_names es w.class ≡ e ∷ rest → w.entry ≡ e)
        → IsClassKind c more ps bs f ws k w.entry l → AreImports c m es ps bs f ws (take i order) (import_entries is)
        → AreImports c more es ps bs f ws (take (suc i) order) (import_entries (is ++ (w.entry.name, l) ∷ []))
    imports-more m more x i k p is l w at first kind all = record {
      counted = mapped_length entry (is ++ (w.entry.name, l) ∷ []) ∙ length-append is ((w.entry.name, l) ∷ []) ∙ ap (λ n. n + 1) (sym (mapped_length entry is) ∙ all.counted) ∙ sym (length-append (take i order) (k ∷ [])) ∙ ap length (sym (take_at order i k at));
      each = λ q j class y at_q numbered at_y.
          elim (push-cases (take i order) k q j (ap (λ ns. slice_get ns q) (sym (take_at order i k at)) ∙ at_q)) [
            | inl before ↦
                let early : q < length (import_entries is) = omega (arith, slice_get_within (take i order) q j before, all.counted) in
                let (z, at_z) = some-at (import_entries is) q early in
                let same : z ≡ y = elim (push-cases (import_entries is) (entry (w.entry.name, l)) q y (ap (λ ns. slice_get ns q) (sym (map-append entry is ((w.entry.name, l) ∷ []))) ∙ at_y)) [
                  | inl there ↦ one_some (slice_get (import_entries is) q) z y at_z there
                  | inr last ↦ absurd (omega (arith, last.0, early))
                ] in
                let h = all.each q j class z before numbered at_z in
                (h.0, h.1, h.2, h.3, h.4, ap (λ (e : Entry). e.name) (sym same) ∙ h.5, still-kind m more x j h.1 y.kind (subst (λ (e : Entry). IsClassKind c m ps bs f ws j h.1 e.kind) same h.6))
            | inr last ↦
                let same : y ≡ entry (w.entry.name, l) = elim (push-cases (import_entries is) (entry (w.entry.name, l)) q y (ap (λ ns. slice_get ns q) (sym (map-append entry is ((w.entry.name, l) ∷ []))) ∙ at_y)) [
                  | inl there ↦ absurd (omega (arith, slice_get_within (import_entries is) q y there, last.0, all.counted))
                  | inr now ↦ now.1
                ] in
                let of_class : w.class ≡ class = one_some (slice_get (class_names by_names es) k) w.class class w.numbered (ap (slice_get (class_names by_names es)) (sym last.1) ∙ numbered) in (
                  p,
                  w.entry,
                  w.there,
                  subst (λ (n : Name). same_class by_names es n w.entry.name ≡ true) of_class w.member,
                  w.named ∙ ap (canonical by_names es) of_class,
                  ap (λ (e : Entry). e.name) same,
                  subst (λ (n : ℕ). IsClassKind c more ps bs f ws n w.entry y.kind) (sym last.1) (subst (λ (e : Entry). IsClassKind c more ps bs f ws k w.entry e.kind) (sym same) kind),
                )
          ];
      firsts = λ q j class y e rest at_q numbered at_y plain are.
          elim (push-cases (take i order) k q j (ap (λ ns. slice_get ns q) (sym (take_at order i k at)) ∙ at_q)) [
            | inl before ↦
                let early : q < length (import_entries is) = omega (arith, slice_get_within (take i order) q j before, all.counted) in
                let (z, at_z) = some-at (import_entries is) q early in
                let same : z ≡ y = elim (push-cases (import_entries is) (entry (w.entry.name, l)) q y (ap (λ ns. slice_get ns q) (sym (map-append entry is ((w.entry.name, l) ∷ []))) ∙ at_y)) [
                  | inl there ↦ one_some (slice_get (import_entries is) q) z y at_z there
                  | inr last ↦ absurd (omega (arith, last.0, early))
                ] in
                still-kind m more x j e y.kind (subst (λ (v : Entry). IsClassKind c m ps bs f ws j e v.kind) same (all.firsts q j class z e rest before numbered at_z plain are))
            | inr last ↦
                let same : y ≡ entry (w.entry.name, l) = elim (push-cases (import_entries is) (entry (w.entry.name, l)) q y (ap (λ ns. slice_get ns q) (sym (map-append entry is ((w.entry.name, l) ∷ []))) ∙ at_y)) [
                  | inl there ↦ absurd (omega (arith, slice_get_within (import_entries is) q y there, last.0, all.counted))
                  | inr now ↦ now.1
                ] in
                let of_class : class ≡ w.class = one_some (slice_get (class_names by_names es) k) class w.class (ap (slice_get (class_names by_names es)) (sym last.1) ∙ numbered) w.numbered in
                let is_first : w.entry ≡ e = first e rest (ap (names_instance es) (sym of_class) ∙ plain) (ap (members by_names es) (sym of_class) ∙ are) in
                subst (λ (n : ℕ). IsClassKind c more ps bs f ws n e y.kind) (sym last.1) (subst (λ (v : Entry). IsClassKind c more ps bs f ws k v y.kind) is_first (subst (λ (v : Entry). IsClassKind c more ps bs f ws k w.entry v.kind) (sym same) kind))
          ];
    } where
      entry : Name × ItemKind → Entry
      entry e = record { name = e.0; kind = e.1 }

    -- no class before it is imported under its name
    pub imported-once : (m : Collection) (i k p : ℕ) (is : List (Name × ItemKind)) (w : IsNamesake es k p) → slice_get order i ≡ Some k → AreImports c m es ps bs f ws (take i order) (import_entries is)
        → ((j l : ℕ) → slice_get order j ≡ Some l → l < length (class_names by_names es)) → IsSome (find_name is w.entry.name) → ⊥
    imported-once m i k p is w at all low found =
        let (l, is_l) = some-of (find_name is w.entry.name) found in
        let (j, at_j) = find_at is w.entry.name l is_l in
        let there : slice_get (import_entries is) j ≡ Some (record { name = w.entry.name; kind = l }) = get_map (λ (e : Name × ItemKind). record { name = e.0; kind = e.1 }) is j (w.entry.name, l) at_j in
        let early : j < length (take i order) = omega (arith, slice_get_within (import_entries is) j (record { name = w.entry.name; kind = l }) there, all.counted) in
        let (n, at_n) = some-at (take i order) j early in
        let (whole, before) = taken order i j n at_n in
        let (class, numbered) = some-at (class_names by_names es) n (low j n whole) in
        let h = all.each j n class (record { name = w.entry.name; kind = l }) at_n numbered there in
        let one : same_class by_names es class w.entry.name ≡ true = subst (λ (y : Name). same_class by_names es class y ≡ true) (sym h.5) h.3 in
        let same : n ≡ k = one-position by_names es es n k class w.class numbered w.numbered (class-trans by_names es class w.entry.name w.class one (class-sym by_names es w.class w.entry.name w.member)) in
        omega (arith, before, once j i k (whole ∙ ap (λ (y : ℕ). Some y) same) at)
