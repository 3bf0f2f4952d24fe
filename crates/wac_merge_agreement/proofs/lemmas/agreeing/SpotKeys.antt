-- A map by spots, as a table.
use Rattle.std.proofs.Common.{◌≡◌, ℕ, zero, suc, Bool, true, false, Global, Vec, List, [], ◌∷◌, ◌++◌, map, Some, None, refl, ap, sym, ◌∙◌, subst, eq-eqb, inl, inr, if◌then◌else◌}
use Rattle.std.specs.Prelude.{slice_get}
use Rattle.std.specs.Map.{lookup, values_of}
use Rattle.std.proofs.lemmas.Bool.{eqb-true, cases_Bool}
use Rattle.std.proofs.lemmas.List.{map-append}
use Rattle.indexmap.specs.IndexMap.{insert_entry, set_value_at}
use Rattle.wac_merge_tables.specs.declared.tables.nodes.Item.{Item as AnItem}
use Rattle.wac_types_collection.proofs.lemmas.subtyping.Telling.{borrowed_tells}
use Rattle.wac_merge_classes.proofs.lemmas.terms.Found.{no_some, some_same}
use Rattle.wac_merge_agreement.specs.declared.agreeing.rows.Spot.{Spot as ASpot}
use Rattle.wac_merge_agreement.specs.declared.agreeing.rows.Spot.TheVariants as spot
use Rattle.wac_merge_agreement.specs.contracts.agreeing.rows.SpotPartialEq.TheImpl as SpotEq
use Rattle.wac_merge_agreement.specs.private.agreeing.Rows as spec
use Rattle.wac_merge_agreement.specs.private.agreeing.Rows.{Spot, Row, Table, spot_view, row_view, table_view, IsFree, IsLonger, here, there}

abbrev Entries : Type 0
Entries = List (ASpot × Vec (ℕ × AnItem) Global)

abbrev pub spot_eq : ASpot → ASpot → Bool
spot_eq = (SpotEq.ghosts).eq

pub spot_there : (a b : ASpot) → spot_eq a b ≡ true → spot_view a ≡ spot_view b
spot_there (spot.Class k) (spot.Class l) e = ap spec.of_class (eqb-true k l e)
spot_there (spot.Export n) (spot.Export m) e = ap spec.export ((borrowed_tells n m).0 e)
spot_there _ _ e = cc e

pub spot_back : (a b : ASpot) → spot_view a ≡ spot_view b → spot_eq a b ≡ true
spot_back (spot.Class k) (spot.Class l) e = eq-eqb k l (inner e) where
  inner : spec.of_class k ≡ spec.of_class l → k ≡ l
  inner e = cc
spot_back (spot.Export n) (spot.Export m) e = (borrowed_tells n m).1 (name e) where
  name : spec.export n.now ≡ spec.export m.now → n.now ≡ m.now
  name e = cc
spot_back _ _ e = cc e

clash : (b : Bool) → b ≡ true → b ≡ false → ⊥
clash true _ h = cc
clash false h _ = cc

-- where nothing passes the test of a spot, it is free
pub free_of : (es : Entries) (sp : ASpot) → lookup (spot_eq sp) es ≡ None → IsFree (table_view es) (spot_view sp)
free_of [] sp none = tt
free_of (e ∷ es) sp none = elim (cases_Bool (spot_eq sp e.0)) [
  | inl t ↦ absurd (no_some e.1 (sym none ∙ ap (λ b. if b then Some e.1 else lookup (spot_eq sp) es) t))
  | inr f ↦ ((λ same. clash (spot_eq sp e.0) (spot_back sp e.0 (sym same)) f), free_of es sp (sym (ap (λ b. if b then Some e.1 else lookup (spot_eq sp) es) f) ∙ none))
]

pub value_at : (es : Entries) (i : ℕ) (k : ASpot) (v : Vec (ℕ × AnItem) Global) → slice_get es i ≡ Some (k, v) → slice_get (values_of es) i ≡ Some v
value_at [] i k v at = absurd (no_some (k, v) at)
value_at (e ∷ es) zero k v at = ap (λ x. Some x.1) (some_same e (k, v) at)
value_at (e ∷ es) (suc i) k v at = value_at es i k v at

pub push_view : (xs ys : List (ℕ × AnItem)) (z : ℕ × AnItem) → ys ≡ xs ++ z ∷ [] → map row_view ys ≡ map row_view xs ++ row_view z ∷ []
push_view xs ys z is = ap (map row_view) is ∙ map-append row_view xs (z ∷ [])

here_at : (s q : Spot) (r : Row) (rows more : List Row) (t : Table) → s ≡ q → more ≡ rows ++ r ∷ [] → IsLonger s r ((q, rows) ∷ t) ((q, more) ∷ t)
here_at s q r rows more t same is = subst (λ (z : Spot). IsLonger s r ((z, rows) ∷ t) ((z, more) ∷ t)) same (subst (λ (l : List Row). IsLonger s r ((s, rows) ∷ t) ((s, l) ∷ t)) (sym is) (here rows t))

-- one more behind those at a spot
pub longer_at : (es : Entries) (i : ℕ) (sp k : ASpot) (v w : Vec (ℕ × AnItem) Global) (r : Row) → slice_get es i ≡ Some (k, v) → spot_eq sp k ≡ true → map row_view w.items ≡ map row_view v.items ++ r ∷ []
    → IsLonger (spot_view sp) r (table_view es) (table_view (set_value_at es i w))
longer_at [] i sp k v w r at same is = absurd (no_some (k, v) at)
longer_at (e ∷ es) zero sp k v w r at same is =
    let first : e ≡ (k, v) = some_same e (k, v) at in
    here_at (spot_view sp) (spot_view e.0) r (map row_view e.1.items) (map row_view w.items) (table_view es) (spot_there sp k same ∙ ap (λ (x : ASpot × Vec (ℕ × AnItem) Global). spot_view x.0) (sym first))
    (is ∙ ap (λ (x : ASpot × Vec (ℕ × AnItem) Global). map row_view x.1.items ++ r ∷ []) (sym first))
longer_at (e ∷ es) (suc i) sp k v w r at same is = there (spot_view e.0, map row_view e.1.items) (table_view es) (table_view (set_value_at es i w)) (longer_at es i sp k v w r at same is)

-- a free spot is put behind the others
pub put_new : (es : Entries) (sp : ASpot) (w : Vec (ℕ × AnItem) Global) → IsFree (table_view es) (spot_view sp) → table_view (insert_entry spot_eq es sp w) ≡ table_view es ++ (spot_view sp, map row_view w.items) ∷ []
put_new [] sp w free = refl
put_new (e ∷ es) sp w free = elim (cases_Bool (spot_eq sp e.0)) [
  | inl t ↦ absurd (free.0 (sym (spot_there sp e.0 t)))
  | inr f ↦
      ap (λ b. table_view (if b then (e.0, w) ∷ es else e ∷ insert_entry spot_eq es sp w)) f
      ∙ ap (λ l. (spot_view e.0, map row_view e.1.items) ∷ l) (put_new es sp w free.1)
]

pub viewed_at : (es : Entries) (i : ℕ) (k : ASpot) (v : Vec (ℕ × AnItem) Global) → slice_get es i ≡ Some (k, v) → slice_get (table_view es) i ≡ Some (spot_view k, map row_view v.items)
viewed_at [] i k v at = absurd (no_some (k, v) at)
viewed_at (e ∷ es) zero k v at = ap (λ (x : ASpot × Vec (ℕ × AnItem) Global). Some (spot_view x.0, map row_view x.1.items)) (some_same e (k, v) at)
viewed_at (e ∷ es) (suc i) k v at = viewed_at es i k v at
