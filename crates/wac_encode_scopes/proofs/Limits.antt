-- What does not fit 32 bits, and what the exit of a `?` answers then.
use Rattle.std.specs.Prelude.{ℕ, ◌≡◌, ◌≤◌, ◌<◌, ◌^◌, Result, Ok, Err, IfErr, IsErrAnd}
use Rattle.std.proofs.Common.{◌∙◌, sym, subst, arith}
use Rattle.wac_binary.specs.Fits.{TooLargeUnless}
use Rattle.wac_binary.specs.declared.fault.BinaryFault.{BinaryFault}
use Rattle.wac_binary.specs.declared.fault.BinaryFault.TheVariants.{TooLarge, OutOfMemory}
use Rattle.wac_encode_scopes.specs.private.Limits.{IsLarge, IsTooLarge}

pub small-or : (n : ℕ) (P : Type 0) → (n < 2 ^ 32 → P) → (P → ⊥) → 2 ^ 32 ≤ n
small-or n P f none = let h : n < 2 ^ 32 → ⊥ = λ g. none (f g) in omega (arith, h)

pub unless-none : {T : Type 0} (r : Result T BinaryFault) (P : Type 0) → TooLargeUnless r P → IsTooLarge r → P → ⊥
unless-none (Ok x) P h g = absurd g
unless-none (Err TooLarge) P h g = h
unless-none (Err OutOfMemory) P h g = absurd g

-- the exit of a `?` after a call that only takes memory
pub memory-fits : {U : Type 0} (e : BinaryFault) (r : Result U BinaryFault) (P : Type 0) → IsErrAnd r (λ y. y ≡ e) → e ≡ OutOfMemory → P → TooLargeUnless r P
memory-fits e (Ok x) P h g p = p
memory-fits e (Err TooLarge) P h g p = let both : TooLarge ≡ OutOfMemory = h ∙ g in cc
memory-fits e (Err OutOfMemory) P h g p = p

pub memory-small : {U : Type 0} (e : BinaryFault) (r : Result U BinaryFault) (P : Type 0) → IsErrAnd r (λ y. y ≡ e) → e ≡ OutOfMemory → IsTooLarge r → P → ⊥
memory-small e (Ok x) P h g l = absurd l
memory-small e (Err TooLarge) P h g l = let both : TooLarge ≡ OutOfMemory = h ∙ g in cc
memory-small e (Err OutOfMemory) P h g l = absurd l

-- a fault that is `TooLarge` if and only if P does not hold
abbrev pub FaultUnless : BinaryFault → Type 0 → Type 0
FaultUnless TooLarge P = P → ⊥
FaultUnless OutOfMemory P = P

pub exit-none : {U : Type 0} (e : BinaryFault) (r : Result U BinaryFault) (P : Type 0) → IsErrAnd r (λ y. y ≡ e) → FaultUnless e P → IsTooLarge r → P → ⊥
exit-none e (Ok x) P h g l = absurd l
exit-none e (Err TooLarge) P h g l = subst (λ (y : BinaryFault). FaultUnless y P) (sym h) g
exit-none e (Err OutOfMemory) P h g l = absurd l

-- the exit of a `?`
pub exit-large : {U : Type 0} (e : BinaryFault) (r : Result U BinaryFault) → IsErrAnd r (λ y. y ≡ e) → IsTooLarge r → IsLarge e
exit-large e (Ok x) h l = absurd l
exit-large e (Err y) h l = subst IsLarge h l

pub memory-never : {T : Type 0} (r : Result T BinaryFault) (P : Type 0) → IfErr r (λ y. y ≡ OutOfMemory) → IsTooLarge r → P
memory-never (Ok x) P h l = absurd l
memory-never (Err TooLarge) P h l = let both : TooLarge ≡ OutOfMemory = h in cc
memory-never (Err OutOfMemory) P h l = absurd l
