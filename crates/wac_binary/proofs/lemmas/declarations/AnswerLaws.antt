-- What the exits of a `?` answer.
use Rattle.std.proofs.Common.{◌≡◌, sym, ◌∙◌, true}
use Rattle.std.specs.Prelude.{Result, Ok, Err, OnErr, Bool, false, IsTrue, IsErrAnd, ◌↔◌}
use Rattle.std.proofs.lemmas.Bool.{true≢false}
use Rattle.wac_binary.specs.Fits.{TooLargeUnless}
use Rattle.wac_binary.specs.declared.fault.BinaryFault.{BinaryFault}
use Rattle.wac_binary.specs.declared.fault.BinaryFault.TheVariants.{TooLarge, OutOfMemory}

pub on_err : {T E P : Type 0} (r : Result T E) → P → OnErr r P
on_err (Ok x) p = tt
on_err (Err e) p = p

-- what the exit of a `?` answers where memory is refused
pub out_of_memory : {T : Type 0} (r : Result T BinaryFault) (P : Type 0) → IsErrAnd r (λ e. e ≡ OutOfMemory) → P → TooLargeUnless r P
out_of_memory (Ok x) P h p = p
out_of_memory (Err TooLarge) P h p = cc
out_of_memory (Err OutOfMemory) P h p = p

-- what the exit of a `?` answers where it does not fit
pub too_large : {T : Type 0} (r : Result T BinaryFault) (e : BinaryFault) (P : Type 0) → IsErrAnd r (λ y. y ≡ e) → e ≡ TooLarge → ¬ P → TooLargeUnless r P
too_large (Ok x) e P h is none = absurd h
too_large (Err TooLarge) e P h is none = none
too_large (Err OutOfMemory) e P h is none = cc

-- a test that failed, of what holds
pub refuted : {P Q : Type 0} (b : Bool) → IsTrue b ↔ Q → b ≡ false → (P → Q) → ¬ P
refuted b i e f = λ p. true≢false (sym (i.1 (f p)) ∙ e)
