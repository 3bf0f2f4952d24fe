-- A name is read if its bytes are UTF-8.
use Rattle.std.proofs.Common.{◌≡◌, ℕ, List, Bool, true, false, Ok, refl}
use Rattle.std.specs.Str.{IsUtf8, is_utf8}
use Rattle.std.proofs.lemmas.Str.{IsUtf8-from_is_utf8, is_utf8-from_IsUtf8}
use Rattle.wac_component.specs.declared.fault.TextFault.TheVariants.{NotUtf8}
use Rattle.wac_reader_parts.specs.declared.fault.ReadFault.{ReadFault}
use Rattle.wac_reader_parts.specs.declared.fault.ReadFault.TheVariants as errors
use Rattle.wac_reader_parts.specs.private.Gives.{Fails}
use Rattle.wac_component.specs.Numbers.{sized_at, name_at}

false_from_not : (b : Bool) → ¬ (b ≡ true) → b ≡ false
false_from_not true h = absurd (h refl)
false_from_not false h = refl

pub name_found : (bytes text found rest : List ℕ) → (found ≡ text) × IsUtf8 text → sized_at bytes ≡ Ok (text, rest) → name_at bytes ≡ Ok (found, rest)
unfolding name_at
name_found bytes text found rest h e = rw (e, is_utf8-from_IsUtf8 text h.1, h.0) refl

pub name_lost : (e : ReadFault) (left : ℕ) (bytes text rest : List ℕ) → e ≡ errors.Text NotUtf8 left → ¬ (IsUtf8 text) → sized_at bytes ≡ Ok (text, rest) → Fails e (name_at bytes)
unfolding name_at
name_lost e left bytes text rest is h found = rw (is, found, false_from_not (is_utf8 text) (λ t. h (IsUtf8-from_is_utf8 text t))) refl
