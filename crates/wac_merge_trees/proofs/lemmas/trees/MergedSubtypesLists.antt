-- What stands in the lists of unions: what parts list under a name, and what two lists have place by place.
use Rattle.std.proofs.Common.{◌≡◌, ℕ, zero, suc, Bool, true, false, if◌then◌else◌, List, [], ◌∷◌, length, Option, Some, None, slice_get, refl, sym, ap, ◌∙◌, subst, inl, inr}
use Rattle.std.specs.List.{AllZip, Contains, list_all, list_any}
use Rattle.std.proofs.lemmas.Bool.{and_parts, cases_Bool, false≢true, or_cases}
use Rattle.std.proofs.lemmas.Option.{get_or_from_slice_get, slice_get_read, slice_get_within}
use Rattle.wac_types_shapes.proofs.lemmas.shapes.Names.{same_name-from, same_name-true}
use Rattle.wac_types_shapes.specs.primitives.Name.{Name, find_name, option_case, same_name}
use Rattle.wac_types_collection.specs.collection.Collection.{Collection}
use Rattle.wac_types_shapes.specs.declared.shapes.component.InterfaceId.{InterfaceId}
use Rattle.wac_types_shapes.specs.declared.shapes.component.ItemKind.{ItemKind}
use Rattle.wac_types_shapes.specs.declared.shapes.component.ItemKind.TheVariants as kind
use Rattle.wac_merge_classes.specs.entries.Bindings.{ClassBindings}
use Rattle.wac_merge_classes.specs.terms.Unions.{instances_in, listed_under, part_lists}
use Rattle.wac_merge_classes.specs.terms.Writing.{IsWrittenExport}
use Rattle.wac_merge_classes.specs.declared.terms.fresh.Fresh.{Fresh}
use Rattle.wac_merge_classes.specs.declared.terms.parts.Export.{Export}
use Rattle.wac_merge_classes.specs.declared.terms.parts.Part.{Part}
use Rattle.wac_merge_classes.proofs.lemmas.terms.Found.{no_some, some_same}

-- it stands at some position
abbrev pub IsIn : {A : Type 0} → List A → A → Type 0
IsIn xs x = (k : ℕ) × (slice_get xs k ≡ Some x)

pub in_contains : {A : Type 0} (xs : List A) (x : A) → IsIn xs x → Contains xs x
in_contains xs x (k, at) = (k, slice_get_within xs k x at, get_or_from_slice_get xs k x x at)

pub contains_in : {A : Type 0} (xs : List A) (x : A) → Contains xs x → IsIn xs x
contains_in xs x (k, low, is) = (k, slice_get_read xs (length xs) k x refl low (sym is))

-- what alone stands there
pub only_in : {A : Type 0} (a x : A) → IsIn (a ∷ []) x → a ≡ x
only_in a x (zero, at) = some_same a x at
only_in a x (suc k, at) = absurd (no_some x at)

pub any_in : {A : Type 0} (test : A → Bool) (xs : List A) → list_any test xs ≡ true → (k : ℕ) × (x : A) × (slice_get xs k ≡ Some x) × (test x ≡ true)
any_in test [] some = absurd (false≢true some)
any_in test (x ∷ xs) some = elim (or_cases (test x) (list_any test xs) some) [
  | inl passes ↦ (zero, x, refl, passes)
  | inr later ↦ let h = any_in test xs later in (suc h.0, h.1, h.2, h.3)
]

pub all_in : {A : Type 0} (test : A → Bool) (xs : List A) (k : ℕ) (x : A) → list_all test xs ≡ true → slice_get xs k ≡ Some x → test x ≡ true
all_in test [] k x all at = absurd (no_some x at)
all_in test (y ∷ xs) zero x all at = ap test (sym (some_same y x at)) ∙ (and_parts (test y) (list_all test xs) all).0
all_in test (y ∷ xs) (suc k) x all at = all_in test xs k x (and_parts (test y) (list_all test xs) all).1 at

-- ---- place by place

module _ {A B : Type 0} (R : A → B → Type 0) where
  pub zip_left : (xs : List A) (ys : List B) → AllZip R xs ys → (k : ℕ) (x : A) → slice_get xs k ≡ Some x → (y : B) × (slice_get ys k ≡ Some y) × R x y
  zip_left [] ys h k x at = absurd (no_some x at)
  zip_left (a ∷ xs) [] h k x at = absurd h
  zip_left (a ∷ xs) (b ∷ ys) h zero x at = (b, refl, subst (λ z. R z b) (some_same a x at) h.0)
  zip_left (a ∷ xs) (b ∷ ys) h (suc k) x at = zip_left xs ys h.1 k x at

  pub zip_right : (xs : List A) (ys : List B) → AllZip R xs ys → (k : ℕ) (y : B) → slice_get ys k ≡ Some y → (x : A) × (slice_get xs k ≡ Some x) × R x y
  zip_right xs [] h k y at = absurd (no_some y at)
  zip_right [] (b ∷ ys) h k y at = absurd h
  zip_right (a ∷ xs) (b ∷ ys) h zero y at = (a, refl, subst (λ z. R a z) (some_same b y at) h.0)
  zip_right (a ∷ xs) (b ∷ ys) h (suc k) y at = zip_right xs ys h.1 k y at

  -- with one
  pub zip_one : (a : A) (ys : List B) → AllZip R (a ∷ []) ys → (b : B) × (ys ≡ b ∷ []) × R a b
  zip_one a [] h = absurd h
  zip_one a (b ∷ []) h = (b, refl, h.0)
  zip_one a (b ∷ y ∷ ys) h = absurd h.1

-- ---- what is written under a name

module _ (c m : Collection) (ps : List Part) (bs : ClassBindings) (f : Fresh) (ws : List InterfaceId) (u : ℕ) where
  abbrev Written : Name × Export → Name × ItemKind → Type 0
  Written = IsWrittenExport c m ps bs f ws u

  pub zip_found : (xs : List (Name × Export)) (ys : List (Name × ItemKind)) → AllZip (IsWrittenExport c m ps bs f ws u) xs ys → (n : Name) (e : Export) → find_name xs n ≡ Some e
      → (k : ItemKind) × (find_name ys n ≡ Some k) × IsWrittenExport c m ps bs f ws u (n, e) (n, k)
  zip_found [] ys h n e found = absurd (no_some e found)
  zip_found (x ∷ xs) [] h n e found = absurd h
  zip_found ((a, x) ∷ xs) ((o, k) ∷ ys) h n e found = elim (cases_Bool (same_name n a)) [
    | inl t ↦
        let name : n ≡ a = same_name-true n a t in
        let other : n ≡ o = name ∙ h.0.0 in
        let value : x ≡ e = some_same x e (sym (ap (λ b. if b then Some x else find_name xs n) t) ∙ found) in
        let first : Written (n, x) (o, k) = subst (λ z. Written (z, x) (o, k)) (sym name) h.0 in
        let second : Written (n, e) (o, k) = subst (λ z. Written (n, z) (o, k)) value first in
        (k, ap (λ b. if b then Some k else find_name ys n) (same_name-from n o other), subst (λ z. Written (n, e) (z, k)) (sym other) second)
    | inr t ↦
        let rest = zip_found xs ys h.1 n e (sym (ap (λ b. if b then Some x else find_name xs n) t) ∙ found) in
        let apart : same_name n o ≡ false = ap (same_name n) (sym h.0.0) ∙ t in
        (rest.0, ap (λ b. if b then Some k else find_name ys n) apart ∙ rest.1, rest.2)
  ]

  pub zip_missing : (xs : List (Name × Export)) (ys : List (Name × ItemKind)) → AllZip (IsWrittenExport c m ps bs f ws u) xs ys → (n : Name) → find_name xs n ≡ None → find_name ys n ≡ None
  zip_missing [] [] h n none = refl
  zip_missing [] (y ∷ ys) h n none = absurd h
  zip_missing (x ∷ xs) [] h n none = absurd h
  zip_missing ((a, x) ∷ xs) ((o, k) ∷ ys) h n none = elim (cases_Bool (same_name n a)) [
    | inl t ↦ absurd (no_some x (sym none ∙ ap (λ b. if b then Some x else find_name xs n) t))
    | inr t ↦
        let apart : same_name n o ≡ false = ap (same_name n) (sym h.0.0) ∙ t in
        ap (λ b. if b then Some k else find_name ys n) apart ∙ zip_missing xs ys h.1 n (sym (ap (λ b. if b then Some x else find_name xs n) t) ∙ none)
  ]

-- ---- what parts list under a name

module _ (c : Collection) (ps : List Part) where
  abbrev IsListed : List ℕ → Name → ℕ × ItemKind → Type 0
  IsListed parts n e = (k : ℕ) × (slice_get parts k ≡ Some e.0) × (find_name (part_lists c ps e.0) n ≡ Some e.1)

  pub listed_from : (parts : List ℕ) (n : Name) (e : ℕ × ItemKind) (j : ℕ) → slice_get (listed_under c ps parts n) j ≡ Some e
      → (k : ℕ) × (slice_get parts k ≡ Some e.0) × (find_name (part_lists c ps e.0) n ≡ Some e.1)
  listed_from [] n e j at = absurd (no_some e at)
  listed_from (p ∷ rest) n e j at = by (λ i there. listed_from rest n e i there) (find_name (part_lists c ps p) n) refl j at where
    later : IsListed rest n e → IsListed (p ∷ rest) n e
    later h = (suc h.0, h.1, h.2)

    by : ((i : ℕ) → slice_get (listed_under c ps rest n) i ≡ Some e → IsListed rest n e) → (o : Option ItemKind) → find_name (part_lists c ps p) n ≡ o → (i : ℕ)
        → slice_get (option_case o (listed_under c ps rest n) (λ k. (p, k) ∷ listed_under c ps rest n)) i ≡ Some e → IsListed (p ∷ rest) n e
    by more None is i there = later (more i there)
    by more (Some k) is zero there =
        let same : (p, k) ≡ e = some_same (p, k) e there in
        (zero, ap (λ (x : ℕ × ItemKind). Some x.0) same, subst (λ (x : ℕ × ItemKind). find_name (part_lists c ps x.0) n ≡ Some x.1) same is)
    by more (Some k) is (suc i) there = later (more i there)

  pub listed_to : (parts : List ℕ) (n : Name) (p : ℕ) (k : ItemKind) (j : ℕ) → slice_get parts j ≡ Some p → find_name (part_lists c ps p) n ≡ Some k → IsIn (listed_under c ps parts n) (p, k)
  listed_to [] n p k j at found = absurd (no_some p at)
  listed_to (q ∷ rest) n p k zero at found =
      let same : q ≡ p = some_same q p at in
      let here : find_name (part_lists c ps q) n ≡ Some k = ap (λ z. find_name (part_lists c ps z) n) same ∙ found in
      (zero, ap (λ o. slice_get (option_case o (listed_under c ps rest n) (λ l. (q, l) ∷ listed_under c ps rest n)) zero) here ∙ ap (λ z. Some (z, k)) same)
  listed_to (q ∷ rest) n p k (suc j) at found = behind (find_name (part_lists c ps q) n) (listed_to rest n p k j at found) where
    behind : (o : Option ItemKind) → IsIn (listed_under c ps rest n) (p, k) → IsIn (option_case o (listed_under c ps rest n) (λ l. (q, l) ∷ listed_under c ps rest n)) (p, k)
    behind None h = h
    behind (Some l) h = (suc h.0, h.1)

  -- what one part lists
  pub listed_one : (p : ℕ) (n : Name) (k : ItemKind) → find_name (part_lists c ps p) n ≡ Some k → listed_under c ps (p ∷ []) n ≡ (p, k) ∷ []
  listed_one p n k found = ap (λ o. option_case o [] (λ l. (p, l) ∷ [])) found

  pub listed_none : (p : ℕ) (n : Name) → find_name (part_lists c ps p) n ≡ None → listed_under c ps (p ∷ []) n ≡ []
  listed_none p n missing = ap (λ o. option_case o [] (λ l. (p, l) ∷ [])) missing

-- ---- the instances among what is listed

pub instances_from : (ls : List (ℕ × ItemKind)) (e : ℕ × InterfaceId) (j : ℕ) → slice_get (instances_in ls) j ≡ Some e → IsIn ls (e.0, kind.Instance e.1)
instances_from [] e j at = absurd (no_some e at)
instances_from ((p, kind.Instance i) ∷ rest) e zero at = (zero, ap (λ (x : ℕ × InterfaceId). Some (x.0, kind.Instance x.1)) (some_same (p, i) e at))
instances_from ((p, kind.Instance i) ∷ rest) e (suc j) at = let h = instances_from rest e j at in (suc h.0, h.1)
instances_from ((p, kind.TypeItem t) ∷ rest) e j at = let h = instances_from rest e j at in (suc h.0, h.1)
instances_from ((p, kind.Func t) ∷ rest) e j at = let h = instances_from rest e j at in (suc h.0, h.1)
instances_from ((p, kind.Component t) ∷ rest) e j at = let h = instances_from rest e j at in (suc h.0, h.1)
instances_from ((p, kind.Module t) ∷ rest) e j at = let h = instances_from rest e j at in (suc h.0, h.1)
instances_from ((p, kind.Value t) ∷ rest) e j at = let h = instances_from rest e j at in (suc h.0, h.1)

one_instance : (q p : ℕ) (k : ItemKind) (i : InterfaceId) → (let first : ℕ × ItemKind = (q, k) in let second : ℕ × ItemKind = (p, kind.Instance i) in Some first ≡ Some second) → (q ≡ p) × (k ≡ kind.Instance i)
one_instance q p k i at =
    let first : ℕ × ItemKind = (q, k) in
    let second : ℕ × ItemKind = (p, kind.Instance i) in
    let same : first ≡ second = some_same first second at in
    (ap (λ (x : ℕ × ItemKind). x.0) same, ap (λ (x : ℕ × ItemKind). x.1) same)

same_id : (i j : InterfaceId) → kind.Instance i ≡ kind.Instance j → i ≡ j
same_id i j e = cc

pub instances_to : (ls : List (ℕ × ItemKind)) (p : ℕ) (i : InterfaceId) (j : ℕ) → slice_get ls j ≡ Some (p, kind.Instance i) → IsIn (instances_in ls) (p, i)
instances_to [] p i j at = absurd (no_some (p, kind.Instance i) at)
instances_to ((q, kind.Instance l) ∷ rest) p i zero at =
    let e = one_instance q p (kind.Instance l) i at in
    let ids : l ≡ i = same_id l i e.1 in
    (zero, λ d. Some (e.0 d, ids d))
instances_to ((q, kind.Instance l) ∷ rest) p i (suc j) at = let h = instances_to rest p i j at in (suc h.0, h.1)
instances_to ((q, kind.TypeItem t) ∷ rest) p i zero at = let e = (one_instance q p (kind.TypeItem t) i at).1 in cc
instances_to ((q, kind.Func t) ∷ rest) p i zero at = let e = (one_instance q p (kind.Func t) i at).1 in cc
instances_to ((q, kind.Component t) ∷ rest) p i zero at = let e = (one_instance q p (kind.Component t) i at).1 in cc
instances_to ((q, kind.Module t) ∷ rest) p i zero at = let e = (one_instance q p (kind.Module t) i at).1 in cc
instances_to ((q, kind.Value t) ∷ rest) p i zero at = let e = (one_instance q p (kind.Value t) i at).1 in cc
instances_to ((q, kind.TypeItem t) ∷ rest) p i (suc j) at = instances_to rest p i j at
instances_to ((q, kind.Func t) ∷ rest) p i (suc j) at = instances_to rest p i j at
instances_to ((q, kind.Component t) ∷ rest) p i (suc j) at = instances_to rest p i j at
instances_to ((q, kind.Module t) ∷ rest) p i (suc j) at = instances_to rest p i j at
instances_to ((q, kind.Value t) ∷ rest) p i (suc j) at = instances_to rest p i j at

-- ---- under double negation

-- what is not denied of any is not denied of all
pub all_not_not : {A : Type 0} (P : A → Type 0) (xs : List A) → ((x : A) → IsIn xs x → (P x → ⊥) → ⊥) → (((x : A) → IsIn xs x → P x) → ⊥) → ⊥
all_not_not P [] each none = none (λ x there. absurd (no_some x there.1))
all_not_not P (a ∷ xs) each none =
    each a (zero, refl) (λ first. all_not_not P xs (λ x there. each x (suc there.0, there.1)) (λ rest. none (both first rest))) where
      both : P a → ((x : _) → IsIn xs x → P x) → (x : _) → IsIn (a ∷ xs) x → P x
      both first rest x (zero, at) = subst P (some_same a x at) first
      both first rest x (suc k, at) = rest x (k, at)
