-- What is asked of definitions and of function types, part by part.
use Rattle.std.proofs.Common.{ℕ, suc, Bool, List, [], ◌∷◌, map, ◌≡◌, length, refl, ap, sym, ◌∙◌, Option}
use Rattle.std.proofs.lemmas.List.{length-map}
use mathlib.Core.List.{map-map}
use Rattle.wac_types_shapes.specs.primitives.Name.{Name}
use Rattle.wac_types.specs.declared.comparison.questions.Asked.{Asked}
use Rattle.wac_types_shapes.specs.declared.shapes.component.ValueType.{ValueType}
use Rattle.wac_types_shapes.specs.declared.shapes.component.Record.{Record}
use Rattle.wac_types_shapes.specs.declared.shapes.component.DefinedType.TheVariants as def
use Rattle.wac_types_shapes.specs.declared.shapes.component.FuncType.{FuncType}
use Rattle.wac_types_collection.specs.collection.Collection.{Collection, seconds, and_maybe, value_types, func_mentions}
use Rattle.wac_types_shapes.specs.primitives.Tree.{TypeTree, absent, record_of, variant_of, tuple_of, flags_of, enum_of, result_of, function}
use Rattle.wac_types_collection.specs.collection.Held.{part_at}
use Rattle.wac_types.specs.private.comparison.Compare.{value_in, optional_in, func_in, defined_in, entry_in}
use Rattle.wac_types.specs.private.comparison.Settling.{Asks}
use Rattle.wac_types.proofs.lemmas.comparison.Values.{asks_iff, asks_of, asks_then}
use Rattle.wac_types.proofs.lemmas.comparison.Agreeing.{maybe_first, maybe_rest}

module _ {L : Type 0} where
  -- the names, the trees and the last tree in a tree of several
  abbrev pub names_in : TypeTree L → List Name
  names_in (record_of names parts) = names
  names_in (variant_of names parts) = names
  names_in (flags_of names) = names
  names_in (enum_of names) = names
  names_in (function is_async names params result) = names
  names_in _ = []

  abbrev pub parts_in : TypeTree L → ℕ → TypeTree L
  parts_in (record_of names parts) = parts
  parts_in (variant_of names parts) = parts
  parts_in (function is_async names params result) = params
  parts_in (tuple_of n parts) = parts
  parts_in _ = λ _. absent

  abbrev pub last_in : TypeTree L → TypeTree L
  last_in (result_of t u) = u
  last_in (function is_async names params result) = result
  last_in _ = absent

  abbrev size_in : TypeTree L → ℕ
  size_in (tuple_of n parts) = n
  size_in _ = 0

  parts_inj : (xs ys : List (TypeTree L)) → length xs ≡ length ys → part_at xs ≡ part_at ys → xs ≡ ys
  parts_inj [] [] e f = refl
  parts_inj [] (y ∷ ys) e f = cc
  parts_inj (x ∷ xs) [] e f = cc
  parts_inj (x ∷ xs) (y ∷ ys) e f =
      let lens : length xs ≡ length ys = cc in
      let head : x ≡ y = ap (λ p. p 0) f in
      let rest = parts_inj xs ys lens (λ i k. f i (suc k)) in
      (λ i. head i ∷ rest i)

  -- a name and a tree
  abbrev pub entry : {V : Type 0} → (V → TypeTree L) → Name × V → Name × TypeTree L
  entry t e = (e.0, t e.1)

  module _ {V : Type 0} (t u : V → TypeTree L) where
    pub tuples_from : (vs ws : List V) → map t vs ≡ map u ws → tuple_of (length vs) (part_at (map t vs)) ≡ tuple_of (length ws) (part_at (map u ws))
    tuples_from vs ws h = let n = sym (length-map vs t) ∙ ap length h ∙ length-map ws u in (λ i. tuple_of (n i) (part_at (h i)))

    pub tuples_back : (vs ws : List V) → tuple_of (length vs) (part_at (map t vs)) ≡ tuple_of (length ws) (part_at (map u ws)) → map t vs ≡ map u ws
    tuples_back vs ws h = parts_inj (map t vs) (map u ws) (length-map vs t ∙ ap size_in h ∙ sym (length-map ws u)) (ap parts_in h)

    -- what is made of names and trees is the same where both are
    pub entries_from : (make : List Name → (ℕ → TypeTree L) → TypeTree L) (es fs : List (Name × V)) → map (entry t) es ≡ map (entry u) fs
        → make (map (λ e. e.0) es) (part_at (map (λ e. t e.1) es)) ≡ make (map (λ e. e.0) fs) (part_at (map (λ e. u e.1) fs))
    entries_from make es fs h =
        let name : Name × TypeTree L → Name = λ e. e.0 in
        let tree : Name × TypeTree L → TypeTree L = λ e. e.1 in
        let names = sym (map-map name (entry t) es) ∙ ap (map name) h ∙ map-map name (entry u) fs in
        let trees = sym (map-map tree (entry t) es) ∙ ap (map tree) h ∙ map-map tree (entry u) fs in
        (λ i. make (names i) (part_at (trees i)))

    pub entries_back : (es fs : List (Name × V)) → map (λ e. e.0) es ≡ map (λ e. e.0) fs → part_at (map (λ e. t e.1) es) ≡ part_at (map (λ e. u e.1) fs) → map (entry t) es ≡ map (entry u) fs
    entries_back [] [] n p = refl
    entries_back [] (f ∷ fs) n p = cc
    entries_back (e ∷ es) [] n p = cc
    entries_back (e ∷ es) (f ∷ fs) n p =
        let names : map (λ e. e.0) es ≡ map (λ e. e.0) fs = cc in
        let head : e.0 ≡ f.0 = cc in
        let value : t e.1 ≡ u f.1 = ap (λ q. q 0) p in
        let rest = entries_back es fs names (λ i k. p i (suc k)) in
        (λ i. (head i, value i) ∷ rest i)

pub records_back : (x y : Collection) (r s : Record) → defined_in x (def.Record r) ≡ defined_in y (def.Record s) → map (entry_in x) r.fields ≡ map (entry_in y) s.fields
records_back x y r s h = entries_back (value_in x) (value_in y) r.fields s.fields (ap names_in h) (ap parts_in h)

pub params_back : (x y : Collection) (f g : FuncType) → func_in x f ≡ func_in y g → map (entry_in x) f.params ≡ map (entry_in y) g.params
params_back x y f g h = entries_back (value_in x) (value_in y) f.params g.params (ap names_in h) (ap parts_in h)

module _ {t : Bool} {x y : Collection} {o l k : Asked} where
  -- of what may be there, and of what follows
  pub asks_both : {E F : Type 0} (v w : Option ValueType) (vs ws : List ValueType) → Asks t x y (value_types (and_maybe v [])) (value_types (and_maybe w [])) o l E → Asks t x y (value_types vs) (value_types ws) l k F
      → Asks t x y (value_types (and_maybe v vs)) (value_types (and_maybe w ws)) o k (E × F)
  asks_both v w vs ws s r = asks_then
      (asks_of (value_types (and_maybe v vs)) (value_types (and_maybe w ws)) (λ P. maybe_first P v vs) (λ P. maybe_first P w ws) s)
      (asks_of (value_types (and_maybe v vs)) (value_types (and_maybe w ws)) (λ P. maybe_rest P v vs) (λ P. maybe_rest P w ws) r)

  pub asks_funcs : (f g : FuncType) → f.is_async ≡ g.is_async
      → Asks t x y (value_types (and_maybe f.result [])) (value_types (and_maybe g.result [])) o l (optional_in x f.result ≡ optional_in y g.result)
      → Asks t x y (value_types (seconds f.params)) (value_types (seconds g.params)) l k (map (entry_in x) f.params ≡ map (entry_in y) g.params)
      → Asks t x y (func_mentions f) (func_mentions g) o k (func_in x f ≡ func_in y g)
  asks_funcs f g a s r = asks_iff
      (λ h i. entries_from (value_in x) (value_in y) (λ names parts. function (a i) names parts (h.0 i)) f.params g.params h.1 i)
      (λ h. (ap last_in h, params_back x y f g h))
      (asks_both f.result g.result (seconds f.params) (seconds g.params) s r)
