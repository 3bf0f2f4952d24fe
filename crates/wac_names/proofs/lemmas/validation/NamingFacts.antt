-- What reading names, and looking for one that can't be exported, comes to.
use Rattle.std.proofs.Common.{◌≡◌, ℕ, ◌+◌, ◌<◌, List, [], ◌∷◌, ◌++◌, length, take, slice_index_or, Option, Some, None, MatchOption, Result, Ok, Err, MatchResult, sym, ap, ◌∙◌, subst, ◌⊎◌, inl, inr, below_more}
use Rattle.std.proofs.lemmas.List.{map-append, map_more}
use Rattle.std.specs.Borrow.{Bor}
use Rattle.wac_names.specs.Faults.{HasFault}
use Rattle.wac_names.specs.Grammar.{HasKind}
use Rattle.wac_names.specs.Kind.{Kind, IsExportable}
use Rattle.wac_names.specs.NameView.{text_of}
use Rattle.wac_names.specs.declared.fault.NameFault.{NameFault}
use Rattle.wac_names.specs.declared.fault.NameFault.TheVariants as fault
use Rattle.wac_names.specs.declared.name.ComponentName.{ComponentName}
use Rattle.wac_names.specs.validation.FirstFault.{Fault, bad_name, clash, IsExportFault, IsFirstClash, IsFirstFault, IsFirstWithout, IsNameFault, IsRefusal, of_imports, of_exports, of_exporting}
use Rattle.wac_names.specs.validation.Valid.{Text, at, IsName, IsExportName, Each, AreApart, AreNames, AreValid}
use Rattle.wac_names.specs.private.validation.Views.{name_texts, texts}
use Rattle.wac_names.specs.declared.validation.fault.ValidationError.{ValidationError}
use Rattle.wac_names.specs.declared.validation.fault.ValidationError.TheVariants as error
use Rattle.wac_names.proofs.lemmas.validation.KeyFacts.{AreDecided}
use Rattle.wac_names.proofs.lemmas.validation.ViewFacts.{at-texts, at-names, length-texts, length-names}

-- ---- reading

pub names-more : (names : List ComponentName) (n : ComponentName) (written : List (Bor Text)) (i : ℕ) (t : Bor Text) → i < length written
    → name_texts names ≡ texts (take i written) → text_of n ≡ (slice_index_or written i t).now → name_texts (names ++ n ∷ []) ≡ texts (take (i + 1) written)
names-more names n written i t h same here =
    map-append text_of names (n ∷ [])
    ∙ (ap (λ (ts : List Text). ts ++ text_of n ∷ []) same
    ∙ (ap (λ (x : Text). texts (take i written) ++ x ∷ []) here
    ∙ sym (map_more (λ (x : Bor Text). x.now) written i t h)))

pub named-more : (written : List (Bor Text)) (i : ℕ) (t : Bor Text) (k : Kind) → i < length written
    → ((j : ℕ) → j < i → IsName (at (texts written) j)) → HasKind (slice_index_or written i t).now k → (j : ℕ) → j < i + 1 → IsName (at (texts written) j)
named-more written i t k h before here =
    below_more (λ j. IsName (at (texts written) j)) i before (k, subst (λ (x : Text). HasKind x k) (sym (at-texts written i t h)) here)

pub named-all : (written : List (Bor Text)) → ((j : ℕ) → j < length written → IsName (at (texts written) j)) → Each IsName (texts written)
named-all written all j h = all j (subst (λ (n : ℕ). j < n) (length-texts written) h)

bad_name-first : AreDecided → (written : List (Bor Text)) (i : ℕ) (t : Bor Text) (f : NameFault) → i < length written
    → ((j : ℕ) → j < i → IsName (at (texts written) j)) → ((f ≡ fault.OutOfMemory) ⊎ HasFault (slice_index_or written i t).now f) → (f ≡ fault.OutOfMemory → ⊥)
    → IsFirstWithout IsName (texts written) (slice_index_or written i t).now
bad_name-first d written i t f h before why real = record {
  position = i;
  within = subst (λ (n : ℕ). i < n) (sym (length-texts written)) h;
  named = at-texts written i t h;
  without = λ w. elim why [
    | inl m ↦ real m
    | inr m ↦ (d (slice_index_or written i t).now).apart w.0 f w.1 m
  ];
  before = before;
}

pub unnamed-first : AreDecided → (written : List (Bor Text)) (i : ℕ) (t : Bor Text) (f : NameFault) (e : ValidationError) → i < length written
    → ((j : ℕ) → j < i → IsName (at (texts written) j)) → ((f ≡ fault.OutOfMemory) ⊎ HasFault (slice_index_or written i t).now f)
    → IsRefusal (λ g. (g ≡ bad_name (slice_index_or written i t).now) × (f ≡ fault.OutOfMemory → ⊥)) e → IsRefusal (IsNameFault (texts written)) e
unnamed-first d written i t f (error.Fault g) h before why w =
    subst (IsNameFault (texts written)) (sym w.0) (bad_name-first d written i t f h before why w.1)
unnamed-first d written i t f error.OutOfMemory h before why w = tt

-- ---- exporting

pub exportable-more : (names : List ComponentName) (i : ℕ) (n : ComponentName) (k : Kind) → i < length names → n ≡ slice_index_or names i n
    → ((j : ℕ) → j < i → IsExportName (at (name_texts names) j)) → HasKind (text_of n) k → IsExportable k → (j : ℕ) → j < i + 1 → IsExportName (at (name_texts names) j)
exportable-more names i n k h e before here able =
    below_more (λ j. IsExportName (at (name_texts names) j)) i before (k, subst (λ (x : Text). HasKind x k) (sym (at-names names i n h e)) here, able)

pub exportable-all : (names : List ComponentName) → ((j : ℕ) → j < length names → IsExportName (at (name_texts names) j)) → Each IsExportName (name_texts names)
exportable-all names all j h = all j (subst (λ (n : ℕ). j < n) (length-names names) h)

pub unexportable-first : AreDecided → (names : List ComponentName) (i : ℕ) (n : ComponentName) (k : Kind) (x : Text) → i < length names → n ≡ slice_index_or names i n → x ≡ text_of n
    → ((j : ℕ) → j < i → IsExportName (at (name_texts names) j)) → HasKind (text_of n) k → ¬ IsExportable k → IsFirstWithout IsExportName (name_texts names) x
unexportable-first d names i n k x h e same before here unable = record {
  position = i;
  within = subst (λ (m : ℕ). i < m) (sym (length-names names)) h;
  named = at-names names i n h e ∙ sym same;
  without = λ w. unable (subst IsExportable ((d (text_of n)).one_kind w.0 k (subst (λ (y : Text). HasKind y w.0) same w.1) here) w.2);
  before = before;
}

-- ---- names that are apart

pub are_names : (written read : List Text) → read ≡ written → Each IsName written → AreApart read → AreNames written
are_names written read e named apart = record { named = named; apart = subst AreApart e apart }

pub clash_fault : (written one other : List Text) (i j : ℕ) (f : Fault) → one ≡ written → other ≡ written → Each IsName written
    → IsFirstClash one (at one i) (at one j) → f ≡ clash (at other i) (at other j) → IsNameFault written f
clash_fault written one other i j f e g named found same =
    let here : IsFirstClash written (at written i) (at written j) = subst (λ (ts : List Text). IsFirstClash ts (at ts i) (at ts j)) e found in
    let is : f ≡ clash (at written i) (at written j) = subst (λ (ts : List Text). f ≡ clash (at ts i) (at ts j)) g same in
    subst (IsNameFault written) (sym is) (named, here)

pub clash_same : (x y u v : Text) → x ≡ u → y ≡ v → clash x y ≡ clash u v
clash_same x y u v e f = ap (λ (t : Text). clash t y) e ∙ ap (λ (t : Text). clash u t) f

-- what a search says that found nothing, and of what it found
pub none_of : {T : Type 0} (r : Option T) (P : Type 0) (Q : T → Type 0) → r ≡ None → MatchOption r P Q → P
none_of {T} r P Q e h = subst (λ (o : Option T). MatchOption o P Q) e h

pub some_of : {T : Type 0} (r : Option T) (x : T) (P : Type 0) (Q : T → Type 0) → r ≡ Some x → MatchOption r P Q → Q x
some_of {T} r x P Q e h = subst (λ (o : Option T). MatchOption o P Q) e h

-- ---- the answer

refusal-by : (P Q : Fault → Type 0) → ((f : Fault) → P f → Q f) → (e : ValidationError) → IsRefusal P e → IsRefusal Q e
refusal-by P Q to (error.Fault f) h = to _ h
refusal-by P Q to error.OutOfMemory h = h

pub refused_imports : (imports exports : List Text) (e : ValidationError) → IsRefusal (IsNameFault imports) e → IsRefusal (IsFirstFault imports exports) e
refused_imports imports exports e h = refusal-by (IsNameFault imports) (IsFirstFault imports exports) (λ f w. of_imports w) e h

pub refused_exports : (imports exports : List Text) (e : ValidationError) → AreNames imports → IsRefusal (IsNameFault exports) e → IsRefusal (IsFirstFault imports exports) e
refused_exports imports exports e names h = refusal-by (IsNameFault exports) (IsFirstFault imports exports) (λ f w. of_exports names w) e h

pub answered : {T : Type 0} (imports exports read : List Text) (r : Result T ValidationError) → read ≡ exports → AreNames imports → AreNames exports
    → MatchResult r (λ _. Each IsExportName read) (IsRefusal (IsExportFault read)) → MatchResult r (λ _. AreValid imports exports) (IsRefusal (IsFirstFault imports exports))
answered imports exports read (Ok x) e into out h = record { imported = into; exported = out; exportable = subst (Each IsExportName) e h }
answered imports exports read (Err f) e into out h =
    refusal-by (IsExportFault exports) (IsFirstFault imports exports) (λ f w. of_exporting into out w) f (subst (λ (ts : List Text). IsRefusal (IsExportFault ts) f) e h)
