-- Items that begin a component, one more at a time.
use Rattle.std.proofs.Common.{◌≡◌, ℕ, ◌+◌, ◌<◌, List, [], ◌∷◌, ◌++◌, length, map, refl, ap, ◌∙◌, sym, subst, arith, append_assoc, Some, None, ◌⊎◌, inl, inr}
use Rattle.std.specs.Prelude.{slice_get}
use Rattle.std.specs.List.{AllByRecursion}
use Rattle.std.proofs.lemmas.List.{append-nil, length-append}
use Rattle.std.proofs.lemmas.Option.{slice_get_within}
use Rattle.wac_types_shapes.specs.primitives.Name.{Name}
use Rattle.wac_types_shapes.specs.primitives.Tree.{imported, position, Tree, type_equal, instance_item, type_in}
use Rattle.wac_binary.specs.declared.sorts.Sort.{Sort}
use Rattle.wac_binary.specs.declared.sorts.Sort.TheVariants as sort
use Rattle.wac_binary.specs.declared.sorts.Description.{Description}
use Rattle.wac_binary.specs.declared.sorts.Description.TheVariants as e
use Rattle.wac_binary.specs.Items.{Item, TypeDef, type_item, import_item}
use Rattle.wac_binary.specs.Indexes.{space, described_sort, indexes}
use Rattle.wac_binary.specs.Unfold.{Scope, Bound, bound_at, type_at, described_item, with_bound}
use Rattle.wac_binary.specs.Meaning.{Thing, import_at, Root, start, stands_for, things, thing_at, meaning}
use Rattle.wac_binary.specs.HasMeaning.{ItemHasMeaning, AllHaveMeaning, HasMeaning}
use Rattle.wac_graph_model.specs.private.meaning.Beginning.{Places, HasImport, Begins}
use Rattle.wac_graph_model.proofs.lemmas.meaning.MeaningLemmas.{Laws, Rest, rest, meaning-push, rest-with_thing, things-with_thing, thing_at-last, bound_at-last, indexes-push, counted_up}
use Rattle.wac_graph_model.proofs.lemmas.meaning.MeantLemmas.{meant-push}
use Rattle.wac_graph_model.proofs.lemmas.meaning.QuietLemmas.{IsQuiet, quiet_rest, all_behind, first_all}
use Rattle.wac_graph_model.proofs.lemmas.meaning.ListLemmas.{slice_get-push}

-- nothing is written yet
pub nothing_begins : Begins [] [] []
nothing_begins = record {
  meant = tt;
  imports_are = refl;
  components = refl;
  instantiations = refl;
  exports = refl;
  customs = refl;
  count = refl;
  stand = λ p t i wrong. no_such (t, i) wrong;
  own = λ p t i wrong. no_such (t, i) wrong;
  typed = λ p i x wrong _. no_such (_, i) wrong;
  equal = λ p i x t wrong _ _. no_such (_, i) wrong;
} where
  no_such : {A : Type 0} {P : Type 0} (x : A) → None ≡ Some x → P
  no_such x h = cc

things-imported : (r : Root) (c : Scope) (is : List (Name × Tree)) (t : Sort) → things (record r { scope = c; imports = is }) t ≡ things r t
things-imported r c is sort.CoreModule = refl
things-imported r c is sort.Func = refl
things-imported r c is sort.Value = refl
things-imported r c is sort.«Type» = refl
things-imported r c is sort.Component = refl
things-imported r c is sort.Instance = refl

-- an imported instance is bound where it is imported
import_bound : Laws → (items : List Item) (n : Name) (j : ℕ)
    → bound_at (meaning (items ++ import_item n (e.Instance j) ∷ [])).scope.instances (indexes (space sort.Instance) items) ≡ record { type = type_at (meaning items).scope.types j; side = imported; path = position (length (meaning items).imports) ∷ [] }
import_bound laws items n j =
    let b : Bound = record { type = type_at (meaning items).scope.types j; side = imported; path = position (length (meaning items).imports) ∷ [] } in
    ap (λ r. bound_at r.scope.instances (indexes (space sort.Instance) items)) (meaning-push items (import_item n (e.Instance j)))
    ∙ bound_at-last (meaning items).scope.instances b (indexes (space sort.Instance) items) (sym (laws.bounds_counted items))

-- a type item that is imported has its type
type_at-last : (ts : List Tree) (t : Tree) (i : ℕ) → i ≡ length ts → type_at (ts ++ t ∷ []) i ≡ t
type_at-last ts t i is = ap (type_at (ts ++ t ∷ [])) is ∙ last ts where
  last : (us : List Tree) → type_at (us ++ t ∷ []) (length us) ≡ t
  last [] = refl
  last (u ∷ us) = last us

import_type : Laws → (items : List Item) (n : Name) (j : ℕ) → type_at (meaning (items ++ import_item n (e.Equal j) ∷ [])).scope.types (indexes (space sort.«Type») items) ≡ type_at (meaning items).scope.types j
import_type laws items n j =
    ap (λ r. type_at r.scope.types (indexes (space sort.«Type») items)) (meaning-push items (import_item n (e.Equal j)))
    ∙ type_at-last (meaning items).scope.types (type_at (meaning items).scope.types j) (indexes (space sort.«Type») items) (sym (laws.types_counted items))

-- the index that an import adds stands for it
pub import_stands : Laws → (items : List Item) (n : Name) (d : Description) → stands_for (meaning (items ++ import_item n d ∷ [])) (described_sort d) (indexes (space (described_sort d)) items) ≡ import_at (length (meaning items).imports)
import_stands laws items n d =
    let t : Sort = described_sort d in
    let x : Thing = import_at (length (meaning items).imports) in
    ap (λ r. stands_for r t (indexes (space t) items)) (meaning-push items (import_item n d))
    ∙ ap (λ ts. thing_at ts (indexes (space t) items)) (things-with_thing _ t x ∙ ap (λ ts. ts ++ x ∷ []) (things-imported (meaning items) (with_bound (meaning items).scope imported (position (length (meaning items).imports) ∷ []) (described_item (meaning items).scope d)) ((meaning items).imports ++ (n, described_item (meaning items).scope d) ∷ []) t))
    ∙ ap (thing_at (things (meaning items) t ++ x ∷ [])) (sym (laws.counted items t))
    ∙ thing_at-last (things (meaning items) t) x

-- what an import adds
pub import_rest : (items : List Item) (n : Name) (d : Description) → rest (meaning (items ++ import_item n d ∷ [])) ≡ record (rest (meaning items)) { imports = (meaning items).imports ++ (n, described_item (meaning items).scope d) ∷ [] }
import_rest items n d = ap rest (meaning-push items (import_item n d)) ∙ rest-with_thing _ (described_sort d) _

-- an import stays where it is
HasImport-push : (items : List Item) (x : Item) (t : Sort) (i k : ℕ) → HasImport items t i k → HasImport (items ++ x ∷ []) t i k
HasImport-push items x t i k h = record {
  name = h.name;
  description = h.description;
  before = h.before;
  after = h.after ++ x ∷ [];
  split = ap (λ xs. xs ++ x ∷ []) h.split ∙ append_assoc h.before (import_item h.name h.description ∷ h.after) (x ∷ []);
  here = h.here;
  sorted = h.sorted;
  counted = h.counted;
}

module _ (laws : Laws) (imports : List (Name × Tree)) (places : Places) (items : List Item) (b : Begins imports places items) where
  -- what is imported stays where it is
  stays : (x : Item) (p : ℕ) (t : Sort) (i : ℕ) → slice_get places p ≡ Some (t, i) → (i < indexes (space t) (items ++ x ∷ [])) × (stands_for (meaning (items ++ x ∷ [])) t i ≡ import_at p)
  stays x p t i placed =
      let s = b.stand p t i placed in
      (omega (arith, s.0, indexes-push (space t) items x), laws.earlier items (x ∷ []) t i s.0 ∙ s.1)

  still_own : (x : Item) (p : ℕ) (t : Sort) (i : ℕ) → slice_get places p ≡ Some (t, i) → (k : ℕ) × HasImport (items ++ x ∷ []) t i k
  still_own x p t i placed = let (k, h) = b.own p t i placed in (k, HasImport-push items x t i k h)

  still_typed : (x : Item) (p i : ℕ) (y : Name × Tree) → slice_get places p ≡ Some (sort.Instance, i) → slice_get imports p ≡ Some y → y.1 ≡ instance_item (bound_at (meaning (items ++ x ∷ [])).scope.instances i).type
  still_typed x p i y placed there = b.typed p i y placed there ∙ ap (λ (z : Bound). instance_item z.type) (sym (laws.bounds_earlier items (x ∷ []) i (b.stand p sort.Instance i placed).0))

  still_equal : (x : Item) (p i : ℕ) (y : Name × Tree) (t : Tree) → slice_get places p ≡ Some (sort.«Type», i) → slice_get imports p ≡ Some y → y.1 ≡ type_equal t → type_at (meaning (items ++ x ∷ [])).scope.types i ≡ t
  still_equal x p i y t placed there is = laws.types_earlier items (x ∷ []) i (b.stand p sort.«Type» i placed).0 ∙ b.equal p i y t placed there is

  -- one type or alias more
  pub begins_quiet : (x : Item) → IsQuiet x → ItemHasMeaning (meaning items) x → Begins imports places (items ++ x ∷ [])
  begins_quiet x quiet meant =
      let same = quiet_rest items x quiet in
      record {
        meant = meant-push items x b.meant meant;
        imports_are = ap (λ r. r.imports) same ∙ b.imports_are;
        components = ap (λ r. r.nested_bytes) same ∙ b.components;
        instantiations = ap (λ r. r.instantiations) same ∙ b.instantiations;
        exports = ap (λ r. r.exports) same ∙ b.exports;
        customs = ap (λ r. r.customs) same ∙ b.customs;
        count = b.count;
        stand = stays x;
        own = still_own x;
        typed = still_typed x;
        equal = still_equal x;
      }

  -- one import more
  pub begins_import : (n : Name) (d : Description) → ItemHasMeaning (meaning items) (import_item n d)
      → Begins (imports ++ (n, described_item (meaning items).scope d) ∷ []) (places ++ (described_sort d, indexes (space (described_sort d)) items) ∷ []) (items ++ import_item n d ∷ [])
  begins_import n d meant =
      let x : Item = import_item n d in
      let same = import_rest items n d in
      record {
        meant = meant-push items x b.meant meant;
        imports_are = ap (λ (r : Rest). r.imports) same ∙ ap (λ is. is ++ (n, described_item (meaning items).scope d) ∷ []) b.imports_are;
        components = ap (λ (r : Rest). r.nested_bytes) same ∙ b.components;
        instantiations = ap (λ (r : Rest). r.instantiations) same ∙ b.instantiations;
        exports = ap (λ (r : Rest). r.exports) same ∙ b.exports;
        customs = ap (λ (r : Rest). r.customs) same ∙ b.customs;
        count = length-append places _ ∙ ap (λ k. k + 1) b.count ∙ sym (length-append imports _);
        stand = λ p t i placed. stand p t i (slice_get-push places (described_sort d, indexes (space (described_sort d)) items) p (t, i) placed);
        own = λ p t i placed. own p t i (slice_get-push places (described_sort d, indexes (space (described_sort d)) items) p (t, i) placed);
        typed = λ p i y placed there. typed p i y (slice_get-push places (described_sort d, indexes (space (described_sort d)) items) p (sort.Instance, i) placed) (slice_get-push imports (n, described_item (meaning items).scope d) p y there);
        equal = λ p i y t placed there is. equal p i y t (slice_get-push places (described_sort d, indexes (space (described_sort d)) items) p (sort.«Type», i) placed) (slice_get-push imports (n, described_item (meaning items).scope d) p y there) is;
      } where
        stand : (p : ℕ) (t : Sort) (i : ℕ) → (slice_get places p ≡ Some (t, i)) ⊎ ((p ≡ length places) × (◌≡◌ {A = Sort × ℕ} (t, i) (described_sort d, indexes (space (described_sort d)) items)))
            → (i < indexes (space t) (items ++ import_item n d ∷ [])) × (stands_for (meaning (items ++ import_item n d ∷ [])) t i ≡ import_at p)
        stand p t i (inl before) = stays (import_item n d) p t i before
        stand p t i (inr (last, is)) = subst (λ (x : Sort × ℕ). (x.1 < indexes (space x.0) (items ++ import_item n d ∷ [])) × (stands_for (meaning (items ++ import_item n d ∷ [])) x.0 x.1 ≡ import_at p)) (sym is)
            (counted_up (described_sort d) items (import_item n d) refl, import_stands laws items n d ∙ ap import_at (ap length b.imports_are ∙ sym b.count ∙ sym last))

        own : (p : ℕ) (t : Sort) (i : ℕ) → (slice_get places p ≡ Some (t, i)) ⊎ ((p ≡ length places) × (◌≡◌ {A = Sort × ℕ} (t, i) (described_sort d, indexes (space (described_sort d)) items)))
            → (k : ℕ) × HasImport (items ++ import_item n d ∷ []) t i k
        own p t i (inl before) = still_own (import_item n d) p t i before
        own p t i (inr (last, is)) = subst (λ (x : Sort × ℕ). (k : ℕ) × HasImport (items ++ import_item n d ∷ []) x.0 x.1 k) (sym is)
            (length items, record { name = n; description = d; before = items; after = []; split = refl; here = refl; sorted = refl; counted = refl })

        typed : (p i : ℕ) (y : Name × Tree) → (slice_get places p ≡ Some (sort.Instance, i)) ⊎ ((p ≡ length places) × (◌≡◌ {A = Sort × ℕ} (sort.Instance, i) (described_sort d, indexes (space (described_sort d)) items)))
            → (slice_get imports p ≡ Some y) ⊎ ((p ≡ length imports) × (y ≡ (n, described_item (meaning items).scope d))) → y.1 ≡ instance_item (bound_at (meaning (items ++ import_item n d ∷ [])).scope.instances i).type
        typed p i y (inl placed) (inl there) = still_typed (import_item n d) p i y placed there
        typed p i y (inl placed) (inr (last, _)) = let within = slice_get_within places p (sort.Instance, i) placed in absurd (omega (arith, within, last, b.count))
        typed p i y (inr (last, _)) (inl there) = let within = slice_get_within imports p y there in absurd (omega (arith, within, last, b.count))
        typed p i y (inr (_, placed)) (inr (_, is)) = of_instance d placed is where
          of_instance : (d' : Description) → ◌≡◌ {A = Sort × ℕ} (sort.Instance, i) (described_sort d', indexes (space (described_sort d')) items) → y ≡ (n, described_item (meaning items).scope d') → y.1 ≡ instance_item (bound_at (meaning (items ++ import_item n d' ∷ [])).scope.instances i).type
          of_instance (e.Instance j) placed is =
              ap (λ (x : Name × Tree). x.1) is
              ∙ ap (λ (z : Bound). instance_item z.type) (sym (ap (bound_at (meaning (items ++ import_item n (e.Instance j) ∷ [])).scope.instances) (ap (λ (x : Sort × ℕ). x.1) placed) ∙ import_bound laws items n j))
          of_instance d' placed is = let no : sort.Instance ≡ described_sort d' = ap (λ (x : Sort × ℕ). x.0) placed in cc

        equal : (p i : ℕ) (y : Name × Tree) (t : Tree) → (slice_get places p ≡ Some (sort.«Type», i)) ⊎ ((p ≡ length places) × (◌≡◌ {A = Sort × ℕ} (sort.«Type», i) (described_sort d, indexes (space (described_sort d)) items)))
            → (slice_get imports p ≡ Some y) ⊎ ((p ≡ length imports) × (y ≡ (n, described_item (meaning items).scope d))) → y.1 ≡ type_equal t → type_at (meaning (items ++ import_item n d ∷ [])).scope.types i ≡ t
        equal p i y t (inl placed) (inl there) is_type = still_equal (import_item n d) p i y t placed there is_type
        equal p i y t (inl placed) (inr (last, _)) is_type = let within = slice_get_within places p (sort.«Type», i) placed in absurd (omega (arith, within, last, b.count))
        equal p i y t (inr (last, _)) (inl there) is_type = let within = slice_get_within imports p y there in absurd (omega (arith, within, last, b.count))
        equal p i y t (inr (_, placed)) (inr (_, is)) is_type = of_type d placed (sym (ap (λ (x : Name × Tree). x.1) is) ∙ is_type) where
          of_type : (d' : Description) → ◌≡◌ {A = Sort × ℕ} (sort.«Type», i) (described_sort d', indexes (space (described_sort d')) items) → described_item (meaning items).scope d' ≡ type_equal t → type_at (meaning (items ++ import_item n d' ∷ [])).scope.types i ≡ t
          of_type (e.Equal j) placed is = ap (type_at (meaning (items ++ import_item n (e.Equal j) ∷ [])).scope.types) (ap (λ (x : Sort × ℕ). x.1) placed) ∙ import_type laws items n j ∙ ap type_in is
          of_type e.Fresh placed is = cc
          of_type d' placed is = let no : sort.«Type» ≡ described_sort d' = ap (λ (x : Sort × ℕ). x.0) placed in cc

module _ (laws : Laws) (imports : List (Name × Tree)) (places : Places) where
  quiet_all : (more items : List Item) → AllByRecursion IsQuiet more → AllHaveMeaning (meaning items) more → Begins imports places items → Begins imports places (items ++ more)
  quiet_all [] items quiet meant b = subst (Begins imports places) (sym (append-nil items)) b
  quiet_all (x ∷ more) items quiet meant b =
      subst (Begins imports places) (append_assoc items (x ∷ []) more)
      (quiet_all more (items ++ x ∷ []) quiet.1 (subst (λ r. AllHaveMeaning r more) (sym (meaning-push items x)) meant.1) (begins_quiet laws imports places items b x quiet.0 meant.0))

  -- types and aliases, and one import behind them, whose item is this tree
  pub begins_next : (items more : List Item) (n : Name) (d : Description) (t : Tree) → Begins imports places items → AllByRecursion IsQuiet more → HasMeaning ((items ++ more) ++ import_item n d ∷ [])
      → (meaning ((items ++ more) ++ import_item n d ∷ [])).imports ≡ imports ++ (n, t) ∷ []
      → Begins (imports ++ (n, t) ∷ []) (places ++ (described_sort d, indexes (space (described_sort d)) (items ++ more)) ∷ []) ((items ++ more) ++ import_item n d ∷ [])
  begins_next items more n d t b quiet meant listed =
      let before : AllHaveMeaning (meaning items) (more ++ import_item n d ∷ []) = all_behind start items (more ++ import_item n d ∷ []) (subst HasMeaning (append_assoc items more (import_item n d ∷ [])) meant) in
      let mid : Begins imports places (items ++ more) = quiet_all more items quiet (first_all (meaning items) more (import_item n d ∷ []) before) b in
      let next = begins_import laws imports places (items ++ more) mid n d (all_behind start (items ++ more) (import_item n d ∷ []) meant).0 in
      subst (λ is. Begins is (places ++ (described_sort d, indexes (space (described_sort d)) (items ++ more)) ∷ []) ((items ++ more) ++ import_item n d ∷ [])) (sym next.imports_are ∙ listed) next

  -- and so where types alone stand before it
  pub begins_behind_types : (items : List Item) (types : List TypeDef) (n : Name) (d : Description) (t : Tree) → Begins imports places items → HasMeaning ((items ++ map type_item types) ++ import_item n d ∷ [])
      → (meaning ((items ++ map type_item types) ++ import_item n d ∷ [])).imports ≡ imports ++ (n, t) ∷ []
      → Begins (imports ++ (n, t) ∷ []) (places ++ (described_sort d, indexes (space (described_sort d)) (items ++ map type_item types)) ∷ []) ((items ++ map type_item types) ++ import_item n d ∷ [])
  begins_behind_types items types n d t b meant listed = begins_next items (map type_item types) n d t b (all_types types) meant listed where
    all_types : (types : List TypeDef) → AllByRecursion IsQuiet (map type_item types)
    all_types [] = tt
    all_types (x ∷ types) = (tt, all_types types)
