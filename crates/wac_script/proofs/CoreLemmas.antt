-- Words that say no core module.
use Rattle.std.proofs.Common.{◌≡◌, ◌≢◌, ◌⊎◌, ◌<◌, ◌++◌, ◌∷◌, [], ◌∙◌, refl, ap, sym, subst, inl, inr, arith, ℕ, zero, suc, List, Option, Some, None, Result, Ok, Err, Bool, true, false, codes, length, get_or, map, slice_get}
use Rattle.std.specs.Prelude.{IsSome, MatchResult, ◌↔◌}
use Rattle.wac_script.specs.declared.labels.faults.WordError.{WordError}
use Rattle.wac_script.specs.private.Unread.{IsUnread}
use Rattle.std.specs.Borrow.{Bor}
use Rattle.std.proofs.lemmas.Bool.{false≢true}
use Rattle.std.proofs.lemmas.List.{append_cancel_left}
use Rattle.wac_types_shapes.specs.primitives.Name.{Name, find_name}
use Rattle.wac_types_shapes.specs.shapes.Imports.{find_import}
use Rattle.wac_types_shapes.specs.declared.primitives.CoreType.{CoreType}
use Rattle.wac_types_shapes.specs.declared.shapes.core_types.CoreExtern.{CoreExtern}
use Rattle.wac_types_shapes.specs.declared.shapes.core_types.ModuleType.{ModuleType}
use Rattle.wac_script.specs.declared.labels.cores.Marks.{Marks}
use Rattle.wac_script.specs.declared.labels.things.Thing.{Thing}
use Rattle.wac_script.specs.declared.labels.things.Thing.TheVariants as thing
use Rattle.wac_script.specs.lines.Words.{Word, spelled, IsPair, HasNoPair, HasNoPrefix, WordByWord}
use Rattle.wac_script.specs.lines.Numbers.{IsNumber}
use Rattle.wac_script.specs.labels.Things.{Labelling, IsThing, SayNone}
use Rattle.wac_script.specs.labels.Cores.{reference_word, core_word, AreCoreTypes, IsPage, IsMark, wide, shared, mutable, page, AreMarks, IsMaximum, IsCore, AddsImport, Importing, TakesImport, name, next, import, AddImports, AddsExport, IsModule}
use Rattle.wac_script.proofs.LabelLemmas.{one-thing}
use Rattle.wac_script.proofs.ReadLemmas.{split-once, no-split, IsOneWay, walk-once}

-- Each word of core types is one.
types-taken : (words : List (Bor (List ℕ))) (i : ℕ) (d : Bor (List ℕ)) (types : List CoreType) → i < length words → spelled words ≡ map core_word types → (t : CoreType) × ((get_or words i d).now ≡ core_word t)
types-taken [] i d types below h = absurd (none i below)
  where
    none : (i : ℕ) → i < 0 → ⊥
    none i l = omega arith
types-taken (w ∷ words) i d [] below h = cc
types-taken (w ∷ words) zero d (t ∷ types) below h = (t, cc)
types-taken (w ∷ words) (suc i) d (t ∷ types) below h = types-taken words i d types (omega arith) cc

pub no-types : (words : List (Bor (List ℕ))) (i : ℕ) (d : Bor (List ℕ)) → i < length words → SayNone (λ t. (get_or words i d).now ≡ core_word t) → SayNone (AreCoreTypes (spelled words))
no-types words i d below none types h = let taken = types-taken words i d types below h in none taken.0 taken.1

-- A word that is no mark.
pub no-page-number : (word digits : Word) → word ≡ codes "page=" ++ digits → SayNone (IsNumber 32 digits) → (old : Marks) → SayNone (IsPage word old)
no-page-number word digits is none old new h = none h.1 (subst (λ l. IsNumber 32 l h.1) (append_cancel_left (codes "page=") h.0 digits (sym h.2 ∙ is)) h.3)

pub no-page : (word : Word) → HasNoPrefix (codes "page=") word → (old : Marks) → SayNone (IsPage word old)
no-page word plain old new h = plain h.0 h.2

pub no-mark : (word : Word) → word ≢ codes "64" → word ≢ codes "shared" → word ≢ codes "mut" → ((old : Marks) → SayNone (IsPage word old)) → (old : Marks) → SayNone (IsMark word old)
no-mark word not_wide not_shared not_mutable none old new (wide e _) = not_wide e
no-mark word not_wide not_shared not_mutable none old new (shared e _) = not_shared e
no-mark word not_wide not_shared not_mutable none old new (mutable e _) = not_mutable e
no-mark word not_wide not_shared not_mutable none old new (page h) = none old new h

-- A word that is no greatest size.
pub no-maximum : (word w : Word) → w ≡ word → word ≢ codes "_" → SayNone (IsNumber 64 w) → SayNone (IsMaximum word)
no-maximum word w same plain none None h = plain h
no-maximum word w same plain none (Some n) h = none n (subst (λ x. IsNumber 64 x n) (sym same) h)

-- A mark is one of the words, or a size of pages.
pub marked : (word : Word) (old : Marks) (r : Result Marks WordError) → word ≢ codes "64" → word ≢ codes "shared" → word ≢ codes "mut"
    → MatchResult r (λ m. IsPage word old m) (IsUnread ((o : Marks) → SayNone (IsPage word o))) → MatchResult r (λ m. IsMark word old m) (IsUnread ((o : Marks) → SayNone (IsMark word o)))
marked word old (Ok m) not_wide not_shared not_mutable h = page h
marked word old (Err e) not_wide not_shared not_mutable h = elim h [ inl m ↦ inl m | inr none ↦ inr (no-mark word not_wide not_shared not_mutable none) ]

-- A label of another thing, or of a core item that is not there.
pub no-core-thing : (labels : Labelling) (cores : List CoreExtern) (label : Word) → SayNone (IsThing labels label) → SayNone (IsCore labels cores label)
no-core-thing labels cores label none item h = none (thing.Core h.0) h.1

pub no-core-other : (labels : Labelling) (cores : List CoreExtern) (label : Word) (t : Thing) → IsThing labels label t → ((n : ℕ) → t ≡ thing.Core n → ⊥) → SayNone (IsCore labels cores label)
no-core-other labels cores label t is other item h = other h.0 (one-thing labels label t (thing.Core h.0) is h.1)

core-number : (labels : Labelling) (label : Word) (n m : ℕ) → IsThing labels label (thing.Core n) → IsThing labels label (thing.Core m) → n ≡ m
core-number labels label n m h k = let same : thing.Core n ≡ thing.Core m = one-thing labels label (thing.Core n) (thing.Core m) h k in cc

pub no-core-there : (labels : Labelling) (cores : List CoreExtern) (label : Word) (n : ℕ) → IsThing labels label (thing.Core n) → slice_get cores n ≡ None → SayNone (IsCore labels cores label)
no-core-there labels cores label n is none item h =
    let e : None ≡ Some item = sym none ∙ ap (slice_get cores) (core-number labels label n h.0 is h.1) ∙ h.2 in cc

-- A label is one core item.
one-core : (labels : Labelling) (cores : List CoreExtern) (label : Word) (a b : CoreExtern) → IsCore labels cores label a → IsCore labels cores label b → a ≡ b
one-core labels cores label a b h k =
    let e : Some a ≡ Some b = sym h.2 ∙ ap (slice_get cores) (core-number labels label h.0 k.0 h.1 k.1) ∙ k.2 in cc

-- What is not twice is not there.
pub none-twice : {A X : Type 0} (o : Option A) → (X ↔ IsSome o) → (X → ⊥) → o ≡ None
none-twice None told not = refl
none-twice (Some a) told not = absurd (not (told.1 refl))

-- Nothing is there twice.
none-some : {A : Type 0} (o : Option A) → o ≡ None → IsSome o → ⊥
none-some o none some = false≢true (subst (λ x. IsSome x) none some)

-- A word that adds no import.
pub no-import-pair : (labels : Labelling) (cores : List CoreExtern) (source word : Word) (old : ModuleType) → HasNoPair word → SayNone (AddsImport labels cores source word old)
no-import-pair labels cores source word old lacks new h = no-split 61 word h.0 h.1 lacks h.3

pub no-import-core : (labels : Labelling) (cores : List CoreExtern) (source word n label : Word) (old : ModuleType) → IsPair word n label → SayNone (IsCore labels cores label) → SayNone (AddsImport labels cores source word old)
no-import-core labels cores source word n label old is none new h = none h.2 (subst (λ l. IsCore labels cores l h.2) (split-once 61 word h.0 h.1 n label h.3 is).1 h.4)

pub no-import-twice : (labels : Labelling) (cores : List CoreExtern) (source word n label : Word) (old : ModuleType) → IsPair word n label → IsSome (find_import old.imports source n) → SayNone (AddsImport labels cores source word old)
no-import-twice labels cores source word n label old is there new h =
    none-some (find_import old.imports source n) (subst (λ m. find_import old.imports source m ≡ None) (split-once 61 word h.0 h.1 n label h.3 is).0 h.5) there

-- The same of exports.
pub no-export-pair : (labels : Labelling) (cores : List CoreExtern) (word : Word) (old : ModuleType) → HasNoPair word → SayNone (AddsExport labels cores word old)
no-export-pair labels cores word old lacks new h = no-split 61 word h.0 h.1 lacks h.3

pub no-export-core : (labels : Labelling) (cores : List CoreExtern) (word n label : Word) (old : ModuleType) → IsPair word n label → SayNone (IsCore labels cores label) → SayNone (AddsExport labels cores word old)
no-export-core labels cores word n label old is none new h = none h.2 (subst (λ l. IsCore labels cores l h.2) (split-once 61 word h.0 h.1 n label h.3 is).1 h.4)

pub no-export-twice : (labels : Labelling) (cores : List CoreExtern) (word n label : Word) (old : ModuleType) → IsPair word n label → IsSome (find_name old.exports n) → SayNone (AddsExport labels cores word old)
no-export-twice labels cores word n label old is there new h =
    none-some (find_name old.exports n) (subst (λ m. find_name old.exports m ≡ None) (split-once 61 word h.0 h.1 n label h.3 is).0 h.5) there

-- A word adds one import, and one export.
import-once : (labels : Labelling) (cores : List CoreExtern) (source word : Word) (a b c : ModuleType) → AddsImport labels cores source word a b → AddsImport labels cores source word a c → b ≡ c
import-once labels cores source word a b c h k =
    let pair = split-once 61 word h.0 h.1 k.0 k.1 h.3 k.3 in
    let item = one-core labels cores k.1 h.2 k.2 (subst (λ l. IsCore labels cores l h.2) pair.1 h.4) k.4 in
    h.6 ∙ ap (λ n. record a { imports = a.imports ++ ((source, n), h.2) ∷ [] }) pair.0 ∙ ap (λ i. record a { imports = a.imports ++ ((source, k.0), i) ∷ [] }) item ∙ sym k.6

pub export-once : (labels : Labelling) (cores : List CoreExtern) → IsOneWay (AddsExport labels cores)
export-once labels cores word a b c h k =
    let pair = split-once 61 word h.0 h.1 k.0 k.1 h.3 k.3 in
    let item = one-core labels cores k.1 h.2 k.2 (subst (λ l. IsCore labels cores l h.2) pair.1 h.4) k.4 in
    h.6 ∙ ap (λ n. record a { exports = a.exports ++ (n, h.2) ∷ [] }) pair.0 ∙ ap (λ i. record a { exports = a.exports ++ (k.0, i) ∷ [] }) item ∙ sym k.6

both-ways : (b : Bool) → b ≡ true → b ≡ false → ⊥
both-ways b yes_is no_is = false≢true (sym no_is ∙ yes_is)

-- A word is taken in one way.
pub takes-once : (labels : Labelling) (cores : List CoreExtern) → IsOneWay (TakesImport labels cores)
takes-once labels cores word a b c (name n e) (name m f) = e ∙ sym f
takes-once labels cores word a b c (name n e) (next m _ _) = absurd (both-ways a.is_next n m)
takes-once labels cores word a b c (name n e) (import m _ _ _) = absurd (both-ways a.is_next n m)
takes-once labels cores word a b c (next n _ _) (name m _) = absurd (both-ways a.is_next m n)
takes-once labels cores word a b c (next n is e) (next m _ f) = e ∙ sym f
takes-once labels cores word a b c (next n is e) (import m not _ _) = absurd (not is)
takes-once labels cores word a b c (import n _ _ _) (name m _) = absurd (both-ways a.is_next m n)
takes-once labels cores word a b c (import n not _ _) (next m is _) = absurd (not is)
takes-once labels cores word a b c (import n _ h e) (import m _ k f) =
    e ∙ ap (λ t. record a { ty = t }) (import-once labels cores a.name word a.ty b.ty c.ty h k) ∙ sym f

-- A word that is not taken.
pub no-taken : (labels : Labelling) (cores : List CoreExtern) (word : Word) (old : Importing) → old.is_next ≡ false → word ≢ codes "from" → SayNone (AddsImport labels cores old.name word old.ty)
    → SayNone (TakesImport labels cores word old)
no-taken labels cores word old plain not none new (name n _) = both-ways old.is_next n plain
no-taken labels cores word old plain not none new (next _ is _) = not is
no-taken labels cores word old plain not none new (import _ _ h _) = none new.ty h

-- Words lead to one module with imports.
pub imports-once : (labels : Labelling) (cores : List CoreExtern) (words : List Word) (old a b : ModuleType) → AddImports labels cores words old a → AddImports labels cores words old b → a ≡ b
imports-once labels cores words old a b h k =
    h.3 ∙ ap (λ (x : Importing). x.ty) (walk-once (TakesImport labels cores) words (record { name = []; is_next = false; ty = old }) h.0 k.0 (takes-once labels cores) h.1 k.1) ∙ sym k.3
