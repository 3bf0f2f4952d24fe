-- How classes come into their groups, entry by entry.
use Rattle.std.proofs.Common.{◌≡◌, ℕ, zero, suc, ◌+◌, ◌<◌, ◌≤◌, ◌==◌, if◌then◌else◌, Bool, true, false, List, [], ◌∷◌, ◌++◌, take, ◌-◌, length, slice_get, Some, refl, ap, sym, ◌∙◌, ◌⊎◌, inl, inr, arith, add-one, append-nil, length-append}
use Rattle.std.proofs.lemmas.Bool.{cases_Bool, false≢true}
use Rattle.std.proofs.lemmas.List.{take_all}
use Rattle.std.proofs.lemmas.Option.{slice_get_within}
use Rattle.wac_types_shapes.specs.primitives.Name.{Name, same_name}
use Rattle.wac_types_shapes.specs.declared.shapes.component.InterfaceId.{InterfaceId}
use Rattle.wac_types_shapes.specs.declared.shapes.component.ItemKind.{ItemKind}
use Rattle.wac_types_shapes.specs.declared.shapes.component.ItemKind.TheVariants as kind
use Rattle.wac_types_shapes.specs.declared.shapes.component.«Type».{«Type» as AnyType}
use Rattle.wac_types_shapes.proofs.lemmas.shapes.Names.{same_name-true, same_name-refl, take_at}
use Rattle.wac_merge_classes.specs.entries.Classes.{Entry, IsClassOf, by_names, class_names, names_of_classes, same_class}
use Rattle.wac_merge_classes.specs.terms.ClassOrder.{group_of, group_under, in_group}
use Rattle.wac_merge_classes.specs.private.entries.Numbering.{class_names_to}
use Rattle.wac_merge_classes.proofs.lemmas.entries.ClassFacts.{added, has_class, class-sym, class-trans, names_of_classes-push, one-position}
use Rattle.wac_merge_classes.proofs.lemmas.entries.Lists.{any-found, at-end, some-at}
use Rattle.wac_merge_classes.proofs.lemmas.entries.Numbers.{has_prior, name-stays}

-- a number, where the kind is of the group
abbrev pub where_of : ℕ → ItemKind → ℕ → List ℕ
where_of g k n = if group_of k == g then n ∷ [] else []

-- what is neither an instance nor a type item is of the last group
pub record IsOther (k : ItemKind) (n : ℕ) : Type 0 where
  pub first : where_of 0 k n ≡ []
  pub second : where_of 1 k n ≡ []
  pub third : where_of 2 k n ≡ n ∷ []

pub is_other : (k : ItemKind) (n : ℕ) → ((i : InterfaceId) → k ≡ kind.Instance i → ⊥) → ((t : AnyType) → k ≡ kind.TypeItem t → ⊥) → IsOther k n
is_other (kind.Instance i) n f g = absurd (f i refl)
is_other (kind.TypeItem t) n f g = absurd (g t refl)
is_other (kind.Func x) n f g = record { first = refl; second = refl; third = refl }
is_other (kind.Component x) n f g = record { first = refl; second = refl; third = refl }
is_other (kind.Module x) n f g = record { first = refl; second = refl; third = refl }
is_other (kind.Value x) n f g = record { first = refl; second = refl; third = refl }

module _ (es : List Entry) where
  -- ---- the class names of the first entries
  names_more : (i : ℕ) (e : Entry) → slice_get es i ≡ Some e → class_names_to es (i + 1) ≡ class_names_to es i ++ added (has_class by_names es (class_names_to es i) e.name) e.name
  names_more i e at = rw (add-one, take_at es i e at) (names_of_classes-push by_names es (take i es) e)

  names_same : (i : ℕ) (e : Entry) → slice_get es i ≡ Some e → has_class by_names es (class_names_to es i) e.name ≡ true → class_names_to es (i + 1) ≡ class_names_to es i
  names_same i e at t = names_more i e at ∙ ap (λ b. class_names_to es i ++ added b e.name) t ∙ append-nil (class_names_to es i)

  names_new : (i : ℕ) (e : Entry) → slice_get es i ≡ Some e → has_class by_names es (class_names_to es i) e.name ≡ false → class_names_to es (i + 1) ≡ class_names_to es i ++ e.name ∷ []
  names_new i e at f = names_more i e at ∙ ap (λ b. class_names_to es i ++ added b e.name) f

  all_names : (i : ℕ) → i ≡ length es → class_names_to es i ≡ class_names by_names es
  all_names i is = ap (names_of_classes by_names es) (take_all i es (omega (arith, is)))

  -- a class name stays to the end
  stays : (left i k : ℕ) (m : Name) → i + left ≡ length es → slice_get (class_names_to es i) k ≡ Some m → slice_get (class_names by_names es) k ≡ Some m
  stays zero i k m end at = ap (λ l. slice_get l k) (sym (all_names i (omega (arith, end)))) ∙ at
  stays (suc left) i k m end at =
      let w = some-at es i (omega (arith, end)) in
      stays left (i + 1) k m (omega (arith, end)) (name-stays es i k w.0 m w.1 at)

  -- ---- which entries begin a class
  is_new : (i k : ℕ) (e : Entry) → slice_get es i ≡ Some e → IsClassOf by_names es e.name k → has_class by_names es (class_names_to es i) e.name ≡ false → k ≡ length (class_names_to es i)
  is_new i k e at (m, there, same) f =
      let ms = class_names_to es i in
      let low = slice_get_within es i e at in
      let end : i + 1 + (length es - (i + 1)) ≡ length es = omega (arith, low) in
      let last : slice_get (class_names_to es (i + 1)) (length ms) ≡ Some e.name = ap (λ l. slice_get l (length ms)) (names_new i e at f) ∙ at-end ms e.name in
      one-position by_names es es k (length ms) m e.name there (stays (length es - (i + 1)) (i + 1) (length ms) e.name end last) same

  is_old : (i k : ℕ) (e : Entry) → slice_get es i ≡ Some e → IsClassOf by_names es e.name k → has_class by_names es (class_names_to es i) e.name ≡ true → k < length (class_names_to es i)
  is_old i k e at (m, there, same) t =
      let ms = class_names_to es i in
      let low = slice_get_within es i e at in
      let w = any-found (λ n. same_class by_names es n e.name) ms t in
      let end : i + (length es - i) ≡ length es = omega (arith, low) in
      let one = one-position by_names es es k w.0 m w.1 there (stays (length es - i) i w.0 w.1 end w.2) (class-trans by_names es m e.name w.1 same (class-sym by_names es w.1 e.name w.3)) in
      let less = slice_get_within ms w.0 w.1 w.2 in
      omega (arith, one, less)

  group_at : (xs : List Entry) (i : ℕ) (e : Entry) (n : Name) → slice_get xs i ≡ Some e → same_name e.name n ≡ true → ((j : ℕ) (x : Entry) → j < i → slice_get xs j ≡ Some x → same_name x.name n ≡ false)
      → group_under xs n ≡ group_of e.kind
  group_at [] i e n at same before = cc
  group_at (x ∷ xs) zero e n at same before =
      let one : x ≡ e = cc in
      ap (λ b. if b then group_of x.kind else group_under xs n) (ap (λ (y : Entry). same_name y.name n) one ∙ same) ∙ ap (λ (y : Entry). group_of y.kind) one
  group_at (x ∷ xs) (suc i) e n at same before =
      ap (λ b. if b then group_of x.kind else group_under xs n) (before 0 x (omega arith) refl) ∙ group_at xs i e n at same (λ j y less there. before (suc j) y (omega (arith, less)) there)

  -- the first entry of a class tells its group
  group_new : (i : ℕ) (e : Entry) → slice_get es i ≡ Some e → has_class by_names es (class_names_to es i) e.name ≡ false → group_under es e.name ≡ group_of e.kind
  group_new i e at f = group_at es i e e.name at (same_name-refl e.name) (λ j x less there. on j x less there (cases_Bool (same_name x.name e.name))) where
    low : i < length es
    low = slice_get_within es i e at

    on : (j : ℕ) (x : Entry) → j < i → slice_get es j ≡ Some x → (same_name x.name e.name ≡ true) ⊎ (same_name x.name e.name ≡ false) → same_name x.name e.name ≡ false
    on j x less there (inl t) =
        let prior = has_prior es i j x less (omega (arith, low)) there in
        absurd (false≢true (sym f ∙ (ap (has_class by_names es (class_names_to es i)) (sym (same_name-true x.name e.name t)) ∙ prior)))
    on j x less there (inr g) = g

  -- ---- one more class
  group_push : (g i : ℕ) (ns : List Name) (n : Name) → in_group g es i (ns ++ n ∷ []) ≡ in_group g es i ns ++ (if group_under es n == g then (i + length ns) ∷ [] else [])
  group_push g i [] n = let same : i ≡ i + 0 = omega arith in ap (λ k. if group_under es n == g then k ∷ [] else []) same
  group_push g i (m ∷ ns) n =
      let next : suc i + length ns ≡ i + suc (length ns) = omega arith in
      split (group_under es m == g) (group_push g (suc i) ns n ∙ ap (λ k. in_group g es (suc i) ns ++ (if group_under es n == g then k ∷ [] else [])) next) where
        split : (b : Bool) → in_group g es (suc i) (ns ++ n ∷ []) ≡ in_group g es (suc i) ns ++ (if group_under es n == g then (i + suc (length ns)) ∷ [] else [])
            → (if b then i ∷ in_group g es (suc i) (ns ++ n ∷ []) else in_group g es (suc i) (ns ++ n ∷ []))
            ≡ (if b then i ∷ in_group g es (suc i) ns else in_group g es (suc i) ns) ++ (if group_under es n == g then (i + suc (length ns)) ∷ [] else [])
        split true h = ap (λ l. i ∷ l) h
        split false h = h

  -- the classes of the first entries are in their groups
  pub record IsGrouping (i begun : ℕ) (instances type_items others : List ℕ) : Type 0 where
    pub at_most : begun ≤ i
    pub begins : begun ≡ length (class_names_to es i)
    pub first : instances ≡ in_group 0 es 0 (class_names_to es i)
    pub second : type_items ≡ in_group 1 es 0 (class_names_to es i)
    pub third : others ≡ in_group 2 es 0 (class_names_to es i)

  -- an entry whose class was begun
  pub grouping_same : (i k begun : ℕ) (e : Entry) (a b d : List ℕ) → slice_get es i ≡ Some e → IsClassOf by_names es e.name k → (k ≡ begun → ⊥) → IsGrouping i begun a b d → IsGrouping (i + 1) begun a b d
  grouping_same i k begun e a b d at class other old = on (cases_Bool (has_class by_names es (class_names_to es i) e.name)) where
    on : (has_class by_names es (class_names_to es i) e.name ≡ true) ⊎ (has_class by_names es (class_names_to es i) e.name ≡ false) → IsGrouping (i + 1) begun a b d
    on (inl t) =
        let same = sym (names_same i e at t) in
        let most = old.at_most in
        record { at_most = omega (arith, most); begins = old.begins ∙ ap length same; first = old.first ∙ ap (in_group 0 es 0) same; second = old.second ∙ ap (in_group 1 es 0) same; third = old.third ∙ ap (in_group 2 es 0) same }
    on (inr f) = absurd (other (is_new i k e at class f ∙ sym old.begins))

  -- an entry that begins a class
  pub grouping_new : (i k begun : ℕ) (e : Entry) (a b d p q r : List ℕ) → slice_get es i ≡ Some e → IsClassOf by_names es e.name k → k ≡ begun → IsGrouping i begun a b d
      → p ≡ a ++ where_of 0 e.kind begun → q ≡ b ++ where_of 1 e.kind begun → r ≡ d ++ where_of 2 e.kind begun → IsGrouping (i + 1) (begun + 1) p q r
  grouping_new i k begun e a b d p q r at class same old x y z = on (cases_Bool (has_class by_names es (class_names_to es i) e.name)) where
    grown : (g : ℕ) (l : List ℕ) → has_class by_names es (class_names_to es i) e.name ≡ false → l ≡ in_group g es 0 (class_names_to es i) → l ++ where_of g e.kind begun ≡ in_group g es 0 (class_names_to es (i + 1))
    grown g l f is =
        let count : 0 + length (class_names_to es i) ≡ begun = omega (arith, old.begins) in
        ap (λ m. m ++ where_of g e.kind begun) is
        ∙ (ap (λ n. in_group g es 0 (class_names_to es i) ++ (if group_of e.kind == g then n ∷ [] else [])) (sym count)
        ∙ (ap (λ h. in_group g es 0 (class_names_to es i) ++ (if h == g then (0 + length (class_names_to es i)) ∷ [] else [])) (sym (group_new i e at f))
        ∙ (sym (group_push g 0 (class_names_to es i) e.name) ∙ ap (in_group g es 0) (sym (names_new i e at f)))))

    on : (has_class by_names es (class_names_to es i) e.name ≡ true) ⊎ (has_class by_names es (class_names_to es i) e.name ≡ false) → IsGrouping (i + 1) (begun + 1) p q r
    on (inl t) = let less = is_old i k e at class t in let begins = old.begins in absurd (omega (arith, less, same, begins))
    on (inr f) =
        let most = old.at_most in
        let begins = old.begins in
        let long = length-append (class_names_to es i) (e.name ∷ []) in
        let more = ap length (names_new i e at f) in
        record { at_most = omega (arith, most); begins = omega (arith, begins, long, more); first = x ∙ grown 0 a f old.first; second = y ∙ grown 1 b f old.second; third = z ∙ grown 2 d f old.third }
