-- What a name says, from its kind as the code has it, and its key.
use Rattle.std.proofs.Common.{◌≡◌, ◌∷◌, ◌++◌, Option, Some, None, Result, Ok, Err, IfOk, String, Global, string_bytes, refl, sym, ap, ◌∙◌}
use Rattle.std.proofs.lemmas.List.{map-append}
use Rattle.std.specs.Borrow.{Bor}
use Rattle.std.specs.Char.{to_ascii_lowercase}
use Rattle.std.specs.declared.alloc.AllocError.{AllocError}
use Rattle.wac_names.specs.Clash.{lowered, plain}
use Rattle.wac_names.specs.Grammar.{HasKind}
use Rattle.wac_names.specs.Kind.{Kind}
use Rattle.wac_names.specs.Views.{kind_view}
use Rattle.wac_names.specs.declared.kind.ComponentNameKind.{ComponentNameKind}
use Rattle.wac_names.specs.declared.kind.ComponentNameKind.TheVariants as kind
use Rattle.wac_names.specs.declared.kind.DependencyName.TheVariants as dependency
use Rattle.wac_names.specs.private.validation.Key.{HasKey, keyed}
use Rattle.wac_names.specs.validation.Valid.{Text}

plain-label : (k : ComponentNameKind) (x : Bor Text) → k ≡ kind.Label x → plain (kind_view k) ≡ Some x.now
unfolding plain
plain-label k x e = rw e refl

plain-constructor : (k : ComponentNameKind) (x : Bor Text) → k ≡ kind.Constructor x → plain (kind_view k) ≡ Some x.now
unfolding plain
plain-constructor k x e = rw e refl

plain-method : (k : ComponentNameKind) (x y : Bor Text) → k ≡ kind.Method x y → plain (kind_view k) ≡ Some (x.now ++ 46 ∷ y.now)
unfolding plain
plain-method k x y e = rw e refl

plain-static : (k : ComponentNameKind) (x y : Bor Text) → k ≡ kind.Static x y → plain (kind_view k) ≡ Some (x.now ++ 46 ∷ y.now)
unfolding plain
plain-static k x y e = rw e refl

plain-other : (k : ComponentNameKind) → ((x : Bor Text) → k ≡ kind.Label x → ⊥) → ((x : Bor Text) → k ≡ kind.Constructor x → ⊥)
    → ((x y : Bor Text) → k ≡ kind.Method x y → ⊥) → ((x y : Bor Text) → k ≡ kind.Static x y → ⊥) → plain (kind_view k) ≡ None
unfolding plain
plain-other (kind.Label x) a b c d = absurd (a x refl)
plain-other (kind.Constructor x) a b c d = absurd (b x refl)
plain-other (kind.Method x y) a b c d = absurd (c x y refl)
plain-other (kind.Static x y) a b c d = absurd (d x y refl)
plain-other (kind.Interface i) a b c d = refl
plain-other (kind.Dependency (dependency.Unlocked p r)) a b c d = refl
plain-other (kind.Dependency (dependency.Locked p v h)) a b c d = refl
plain-other (kind.Url u) a b c d = refl
plain-other (kind.Hash h) a b c d = refl

-- an answer with the bytes of the key has the key
with_key : (text : Text) (k : Kind) (o : Option Text) (key : Text) (r : Result (String Global) AllocError) → HasKind text k → plain k ≡ o → keyed o text ≡ key
    → IfOk r (λ s. string_bytes s ≡ key) → IfOk r (λ s. HasKey text (string_bytes s))
with_key text k o key (Ok s) named said is h = record { kind = k; named = named; is = ap (λ (p : Option Text). keyed p text) said ∙ (is ∙ sym h) }
with_key text k o key (Err e) named said is h = tt

pub key-label : (text : Text) (k : ComponentNameKind) (x : Bor Text) (r : Result (String Global) AllocError) → HasKind text (kind_view k) → k ≡ kind.Label x
    → IfOk r (λ s. string_bytes s ≡ 46 ∷ lowered x.now) → IfOk r (λ s. HasKey text (string_bytes s))
key-label text k x r named e h = with_key text (kind_view k) (Some x.now) (46 ∷ lowered x.now) r named (plain-label k x e) refl h

pub key-constructor : (text : Text) (k : ComponentNameKind) (x : Bor Text) (r : Result (String Global) AllocError) → HasKind text (kind_view k) → k ≡ kind.Constructor x
    → IfOk r (λ s. string_bytes s ≡ 46 ∷ lowered x.now) → IfOk r (λ s. HasKey text (string_bytes s))
key-constructor text k x r named e h = with_key text (kind_view k) (Some x.now) (46 ∷ lowered x.now) r named (plain-constructor k x e) refl h

lowered-path : (x y : Text) → 46 ∷ lowered (x ++ 46 ∷ y) ≡ 46 ∷ (lowered x ++ 46 ∷ lowered y)
lowered-path x y = ap (λ (t : Text). 46 ∷ t) (map-append to_ascii_lowercase x (46 ∷ y))

pub key-method : (text : Text) (k : ComponentNameKind) (x y : Bor Text) (r : Result (String Global) AllocError) → HasKind text (kind_view k) → k ≡ kind.Method x y
    → IfOk r (λ s. string_bytes s ≡ 46 ∷ (lowered x.now ++ 46 ∷ lowered y.now)) → IfOk r (λ s. HasKey text (string_bytes s))
key-method text k x y r named e h =
    with_key text (kind_view k) (Some (x.now ++ 46 ∷ y.now)) (46 ∷ (lowered x.now ++ 46 ∷ lowered y.now)) r named (plain-method k x y e) (lowered-path x.now y.now) h

pub key-static : (text : Text) (k : ComponentNameKind) (x y : Bor Text) (r : Result (String Global) AllocError) → HasKind text (kind_view k) → k ≡ kind.Static x y
    → IfOk r (λ s. string_bytes s ≡ 46 ∷ (lowered x.now ++ 46 ∷ lowered y.now)) → IfOk r (λ s. HasKey text (string_bytes s))
key-static text k x y r named e h =
    with_key text (kind_view k) (Some (x.now ++ 46 ∷ y.now)) (46 ∷ (lowered x.now ++ 46 ∷ lowered y.now)) r named (plain-static k x y e) (lowered-path x.now y.now) h

pub key-other : (text said : Text) (k : ComponentNameKind) (r : Result (String Global) AllocError) → HasKind text (kind_view k)
    → ((x : Bor Text) → k ≡ kind.Label x → ⊥) → ((x : Bor Text) → k ≡ kind.Constructor x → ⊥)
    → ((x y : Bor Text) → k ≡ kind.Method x y → ⊥) → ((x y : Bor Text) → k ≡ kind.Static x y → ⊥)
    → said ≡ text → IfOk r (λ s. string_bytes s ≡ 61 ∷ said) → IfOk r (λ s. HasKey text (string_bytes s))
key-other text said k r named a b c d e h =
    with_key text (kind_view k) None (61 ∷ said) r named (plain-other k a b c d) (ap (λ (t : Text). 61 ∷ t) (sym e)) h
