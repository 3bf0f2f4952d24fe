-- Where value types are listed by the entries that were seen, and by one more.
use Rattle.std.proofs.Common.{◌≡◌, ℕ, zero, suc, ◌+◌, ◌<◌, ◌≤◌, nat_lt, Bool, true, false, not, cond, List, [], ◌∷◌, ◌++◌, take, slice_get, Option, Some, None, refl, sym, ap, ◌∙◌, arith, zero-add}
use Rattle.std.specs.Option.{option_map}
use Rattle.std.proofs.lemmas.Bool.{false_from_ne_true, le-ltb, lt-ltb}
use Rattle.std.proofs.lemmas.List.{append-nil}
use Rattle.std.proofs.lemmas.List.Elements.{filter-append}
use Rattle.wac_types_shapes.specs.primitives.Name.{Name, option_case, first_some}
use Rattle.wac_types_shapes.proofs.lemmas.shapes.Names.{take_at}
use Rattle.wac_types_shapes.specs.primitives.Tree.{Place}
use Rattle.wac_types_collection.specs.collection.Collection.{Collection}
use Rattle.wac_types_shapes.specs.declared.shapes.component.DefinedTypeId.{DefinedTypeId}
use Rattle.wac_types_shapes.specs.declared.shapes.component.ItemKind.{ItemKind}
use Rattle.wac_merge_classes.specs.entries.Classes.{Entry, IsClassOf, by_names, class_names, same_class}
use Rattle.wac_merge_classes.specs.private.entries.Numbering.{members_in}
use Rattle.wac_merge_classes.proofs.lemmas.entries.ClassFacts.{class-sym, class-trans, one-position}
use Rattle.wac_merge_classes.proofs.lemmas.entries.Places.{first-none}
use Rattle.wac_merge_classes.specs.private.terms.ValueBindings.{AreValueBindings, find_value, first_path, is_used, listed_path, listing_from, own_path, used_path}
use Rattle.wac_merge_resources.specs.private.values.Listings.{Found, better, either, found, listed_by, place, places, seen, seen_from}
use Rattle.wac_merge_resources.proofs.lemmas.values.Tables.{find-map}

-- ---- of two the lower class, and the first where both are one

abbrev lower : Option (ℕ × List Place) → Option (ℕ × List Place) → Option (ℕ × List Place)
lower o None = o
lower None (Some b) = Some b
lower (Some a) (Some b) = cond (nat_lt b.0 a.0) (Some b) (Some a)

abbrev in_class : ℕ → Option (List Place) → Option (ℕ × List Place)
in_class k o = option_case o None (λ p. Some (k, p))

first-lower : (o : Option (ℕ × List Place)) (b : ℕ × List Place) → ((a : ℕ × List Place) → o ≡ Some a → b.0 < a.0) → lower o (Some b) ≡ Some b
first-lower None b h = refl
first-lower (Some a) b h = ap (λ t. cond t (Some b) (Some a)) (lt-ltb b.0 a.0 (h a refl))

-- a higher class changes nothing
first-stays : (k l : ℕ) (p : List Place) (o : Option (List Place)) → k ≤ l → lower (Some (k, p)) (in_class l o) ≡ Some (k, p)
first-stays k l p None h = refl
first-stays k l p (Some q) h = ap (λ t. cond t (Some (l, q)) (Some (k, p))) (le-ltb l k h)

-- a listing that does not use the value type comes first
either-more : (u : Bool) (k : ℕ) (p : Option (List Place)) (a b : Option (ℕ × List Place))
    → either (lower a (in_class k (cond u None p))) (lower b (in_class k (cond u p None))) ≡ better (either a b) (option_case p None (λ path. Some (found u k path)))
either-more true k None a b = refl
either-more false k None a b = refl
either-more true k (Some q) (Some a) b = refl
either-more true k (Some q) None None = refl
either-more true k (Some q) None (Some b) = by (nat_lt k b.0) where
  by : (t : Bool) → either None (cond t (Some (k, q)) (Some b)) ≡ cond (not t) (Some (found true b.0 b.1)) (Some (found true k q))
  by true = refl
  by false = refl
either-more false k (Some q) None None = refl
either-more false k (Some q) None (Some b) = refl
either-more false k (Some q) (Some a) b = by (nat_lt k a.0) where
  by : (t : Bool) → either (cond t (Some (k, q)) (Some a)) b ≡ cond (not t) (Some (found false a.0 a.1)) (Some (found false k q))
  by true = refl
  by false = refl

-- ---- one more entry

path-append : (path : ItemKind → Option (List Place)) (xs : List Entry) (e : Entry) → first_path path (xs ++ e ∷ []) ≡ first_some (first_path path xs) (path e.kind)
path-append path [] e = first-none (path e.kind)
path-append path (x ∷ xs) e = by (path x.kind) (path-append path xs e) where
  by : (o : Option (List Place)) → first_path path (xs ++ e ∷ []) ≡ first_some (first_path path xs) (path e.kind)
      → first_some o (first_path path (xs ++ e ∷ [])) ≡ first_some (first_some o (first_path path xs)) (path e.kind)
  by None h = h
  by (Some p) h = refl

module _ (es before : List Entry) (e : Entry) where
  in-class : (n : Name) → same_class by_names es n e.name ≡ true → members_in es (before ++ e ∷ []) n ≡ members_in es before n ++ e ∷ []
  in-class n t = filter-append (λ x. same_class by_names es n x.name) before (e ∷ []) ∙ ap (λ b. members_in es before n ++ cond b (e ∷ []) []) t

  not-in-class : (n : Name) → same_class by_names es n e.name ≡ false → members_in es (before ++ e ∷ []) n ≡ members_in es before n
  not-in-class n f =
      filter-append (λ x. same_class by_names es n x.name) before (e ∷ []) ∙ ap (λ b. members_in es before n ++ cond b (e ∷ []) []) f
      ∙ append-nil (members_in es before n)

  module _ (path : ItemKind → Option (List Place)) where
    -- a class has no lower number than the first
    number : (ns : List Name) (k : ℕ) (a : ℕ × List Place) → seen_from es before path k ns ≡ Some a → k ≤ a.0
    number [] k a h = cc
    number (n ∷ ns) k a h = by (first_path path (members_in es before n)) h (λ r. number ns (suc k) a r) where
      by : (o : Option (List Place)) → option_case o (seen_from es before path (suc k) ns) (λ p. Some (k, p)) ≡ Some a
          → (seen_from es before path (suc k) ns ≡ Some a → suc k ≤ a.0) → k ≤ a.0
      by None h next = let lt = next h in omega (arith, lt)
      by (Some p) h next = let same : k ≡ a.0 = ap (λ (o : Option (ℕ × List Place)). option_case o k (λ x. x.0)) h in omega (arith, same)

    -- where none is the class of the entry
    none-more : (ns : List Name) (k : ℕ) → ((l : ℕ) (n : Name) → slice_get ns l ≡ Some n → same_class by_names es n e.name ≡ true → ⊥)
        → seen_from es (before ++ e ∷ []) path k ns ≡ seen_from es before path k ns
    none-more [] k none = refl
    none-more (n ∷ ns) k none =
        let other : same_class by_names es n e.name ≡ false = false_from_ne_true _ (none 0 n refl) in
        let same = not-in-class n other in
        let rest = none-more ns (suc k) (λ l m at t. none (suc l) m at t) in
        (λ i. option_case (first_path path (same i)) (rest i) (λ p. Some (k, p)))

    -- where one is
    one-more : (ns : List Name) (k j : ℕ) (m : Name) → slice_get ns j ≡ Some m → same_class by_names es m e.name ≡ true
        → ((l : ℕ) (n : Name) → slice_get ns l ≡ Some n → same_class by_names es n e.name ≡ true → l ≡ j)
        → seen_from es (before ++ e ∷ []) path k ns ≡ lower (seen_from es before path k ns) (in_class (k + j) (path e.kind))
    one-more [] k j m at t only = cc at
    one-more (n ∷ ns) k zero m at t only =
        let name : n ≡ m = cc in
        let here = in-class n (ap (λ x. same_class by_names es x e.name) name ∙ t) in
        let first = ap (first_path path) here ∙ path-append path (members_in es before n) e in
        let rest = none-more ns (suc k) (λ l x there same. let no = only (suc l) x there same in omega (arith, no)) in
        (λ i. option_case (first i) (rest i) (λ p. Some (k, p)))
        ∙ by (first_path path (members_in es before n)) (path e.kind) (seen_from es before path (suc k) ns) (λ a there. number ns (suc k) a there)
      where
        by : (o x : Option (List Place)) (r : Option (ℕ × List Place)) → ((a : ℕ × List Place) → r ≡ Some a → suc k ≤ a.0)
            → option_case (first_some o x) r (λ p. Some (k, p)) ≡ lower (option_case o r (λ p. Some (k, p))) (in_class (k + 0) x)
        by (Some p) x r above = sym (first-stays k (k + 0) p x (omega arith))
        by None None r above = refl
        by None (Some q) r above =
            let same : k ≡ k + 0 = omega arith in
            ap (λ l. Some (l, q)) same ∙ sym (first-lower r (k + 0, q) (λ a there. let lt = above a there in omega (arith, lt)))
    one-more (n ∷ ns) k (suc j) m at t only =
        let other : same_class by_names es n e.name ≡ false = false_from_ne_true _ (λ h. let no = only 0 n refl h in omega (arith, no)) in
        let same = not-in-class n other in
        let rest = one-more ns (suc k) j m at t (λ l x there h. let next = only (suc l) x there h in omega (arith, next)) in
        (λ i. option_case (first_path path (same i)) (rest i) (λ p. Some (k, p)))
        ∙ by (first_path path (members_in es before n)) (path e.kind) (seen_from es before path (suc k) ns)
      where
        by : (o x : Option (List Place)) (r : Option (ℕ × List Place))
            → option_case o (lower r (in_class (suc k + j) x)) (λ p. Some (k, p)) ≡ lower (option_case o r (λ p. Some (k, p))) (in_class (k + suc j) x)
        by None x r = let same : suc k + j ≡ k + suc j = omega arith in ap (λ l. lower r (in_class l x)) same
        by (Some p) x r = sym (first-stays k (k + suc j) p x (omega arith))

-- one more entry, of the class with the number k
pub seen-step : (c : Collection) (es : List Entry) (i k : ℕ) (e : Entry) → slice_get es i ≡ Some e → IsClassOf by_names es e.name k
    → (d : DefinedTypeId) → seen c es (take (suc i) es) d ≡ better (seen c es (take i es) d) (listed_by c k e.kind d)
seen-step c es i k e at w d =
    ap (λ l. seen c es l d) (take_at es i e at)
    ∙ (λ j. either (step (own_path c d) j) (step (used_path c d) j))
    ∙ either-more (is_used c e.kind d) k (listed_path c e.kind d) (seen_from es (take i es) (own_path c d) 0 (class_names by_names es)) (seen_from es (take i es) (used_path c d) 0 (class_names by_names es))
  where
    alone : (l : ℕ) (n : Name) → slice_get (class_names by_names es) l ≡ Some n → same_class by_names es n e.name ≡ true → l ≡ k
    alone l n there t = one-position by_names es es l k n w.0 there w.1 (class-trans by_names es n e.name w.0 t (class-sym by_names es w.0 e.name w.2))

    step : (path : ItemKind → Option (List Place))
        → seen_from es (take i es ++ e ∷ []) path 0 (class_names by_names es) ≡ lower (seen_from es (take i es) path 0 (class_names by_names es)) (in_class k (path e.kind))
    step path =
        one-more es (take i es) e path (class_names by_names es) 0 k w.0 w.1 w.2 alone
        ∙ ap (λ l. lower (seen_from es (take i es) path 0 (class_names by_names es)) (in_class l (path e.kind))) (zero-add k)

-- ---- all entries

all-seen : (es : List Entry) (path : ItemKind → Option (List Place)) (ns : List Name) (k : ℕ) → seen_from es es path k ns ≡ listing_from by_names es path k ns
all-seen es path [] k = refl
all-seen es path (n ∷ ns) k = ap (λ r. option_case (first_path path (members_in es es n)) r (λ p. Some (k, p))) (all-seen es path ns (suc k))

place-either : (a b : Option (ℕ × List Place)) → option_map place (either a b) ≡ first_some a b
place-either (Some a) b = refl
place-either None (Some b) = refl
place-either None None = refl

pub are-bindings : (c : Collection) (es : List Entry) (table : List (DefinedTypeId × Found)) → ((d : DefinedTypeId) → find_value table d ≡ seen c es es d) → AreValueBindings c es (places table)
are-bindings c es table known d =
    find-map place table d ∙ ap (option_map place) (known d)
    ∙ place-either (seen_from es es (own_path c d) 0 (class_names by_names es)) (seen_from es es (used_path c d) 0 (class_names by_names es))
    ∙ (λ i. first_some (all-seen es (own_path c d) (class_names by_names es) 0 i) (all-seen es (used_path c d) (class_names by_names es) 0 i))

-- no entry was seen
pub none-seen : (c : Collection) (es : List Entry) (d : DefinedTypeId) → seen c es [] d ≡ None
none-seen c es d = (λ i. either (none (own_path c d) (class_names by_names es) 0 i) (none (used_path c d) (class_names by_names es) 0 i)) where
  none : (path : ItemKind → Option (List Place)) (ns : List Name) (k : ℕ) → seen_from es [] path k ns ≡ None
  none path [] k = refl
  none path (n ∷ ns) k = none path ns (suc k)
