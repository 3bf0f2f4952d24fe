-- Results of the writers below, as those of a type encoder.
use Rattle.std.proofs.Common.{◌≡◌, Option, Some, None, Result, Ok, Err, IfOk, OnOk, OnErr, IfSome, sym, subst}
use Rattle.wac_binary.specs.declared.fault.BinaryFault.{BinaryFault}
use Rattle.wac_binary.specs.declared.fault.BinaryFault.TheVariants as binary
use Rattle.wac_encode_faults.specs.declared.fault.EncodeFault.{EncodeFault}
use Rattle.wac_encode_faults.specs.declared.fault.EncodeFault.TheVariants as e
use Rattle.wac_encode_faults.specs.declared.fault.WriteFault.{WriteFault}
use Rattle.wac_encode_faults.specs.Faults.{IsLowest}
use Rattle.wac_encode.specs.Errors.{NamesLowest}
use Rattle.wac_encode.specs.private.Ready.{encode_fault, encode_result}

pub on-ok : {A E P Q : Type 0} → (r : Result A E) → (P → Q) → OnOk r P → OnOk r Q
on-ok (Ok x) f h = f h
on-ok (Err e) f h = tt

pub on-err : {A E P Q : Type 0} → (r : Result A E) → (P → Q) → OnErr r P → OnErr r Q
on-err (Ok x) f h = tt
on-err (Err e) f h = f h

pub if-ok : {A E : Type 0} → (P Q : A → Type 0) (r : Result A E) → ((x : A) → P x → Q x) → IfOk r P → IfOk r Q
if-ok P Q (Ok x) f h = f x h
if-ok P Q (Err e) f h = tt

pub ok-of : {A E : Type 0} → (P : A → Type 0) (Q : Type 0) (r : Result A E) → ((x : A) → P x → Q) → IfOk r P → OnOk r Q
ok-of P Q (Ok x) f h = f x h
ok-of P Q (Err e) f h = tt

pub if-with : {A E S : Type 0} → (P R : A → Type 0) (r : Result A E) → ((x : A) → P x → S → R x) → IfOk r P → OnOk r S → IfOk r R
if-with P R (Ok x) f h k = f x h k
if-with P R (Err e) f h k = tt

pub on-with : {A E R S : Type 0} → (P : A → Type 0) (r : Result A E) → ((x : A) → P x → S → R) → IfOk r P → OnOk r S → OnOk r R
on-with P (Ok x) f h k = f x h k
on-with P (Err e) f h k = tt

pub on-both : {A E P Q R : Type 0} → (r : Result A E) → (P → Q → R) → OnOk r P → OnOk r Q → OnOk r R
on-both (Ok x) f h k = f h k
on-both (Err e) f h k = tt

pub on-three : {A E P Q S R : Type 0} → (r : Result A E) → (P → Q → S → R) → OnOk r P → OnOk r Q → OnOk r S → OnOk r R
on-three (Ok x) f h k l = f h k l
on-three (Err e) f h k l = tt

pub err-of : {A E P : Type 0} → (r : Result A E) → P → OnErr r P
err-of (Ok x) h = tt
err-of (Err e) h = h

pub if-some : {A : Type 0} → (P Q : A → Type 0) (o : Option A) → ((x : A) → P x → Q x) → IfSome o P → IfSome o Q
if-some P Q None f h = tt
if-some P Q (Some x) f h = f x h

-- the same of the result as a type encoder returns it

pub ok-encoded : {A : Type 0} → (P : Type 0) (r : Result A BinaryFault) (s : Result A EncodeFault) → s ≡ encode_result r → OnOk r P → OnOk s P
ok-encoded {A} P r s is h = subst (λ (x : Result A EncodeFault). OnOk x P) (sym is) (by r h)
  where
    by : (q : Result A BinaryFault) → OnOk q P → OnOk (encode_result q) P
    by (Ok x) h = h
    by (Err f) h = tt

pub if-encoded : {A : Type 0} → (P : A → Type 0) (r : Result A BinaryFault) (s : Result A EncodeFault) → s ≡ encode_result r → IfOk r P → IfOk s P
if-encoded {A} P r s is h = subst (λ (x : Result A EncodeFault). IfOk x P) (sym is) (by r h)
  where
    by : (q : Result A BinaryFault) → IfOk q P → IfOk (encode_result q) P
    by (Ok x) h = h
    by (Err f) h = tt

pub err-encoded : {A P Q : Type 0} → (r : Result A BinaryFault) (s : Result A EncodeFault) → s ≡ encode_result r → (P → Q) → OnErr r P → OnErr s Q
err-encoded {A} {P} {Q} r s is f h = subst (λ (x : Result A EncodeFault). OnErr x Q) (sym is) (by r h)
  where
    by : (q : Result A BinaryFault) → OnErr q P → OnErr (encode_result q) Q
    by (Ok x) h = tt
    by (Err g) h = f h

-- Where no fault is there, the error of a writer names none.
names-error : (A : Type 0) (Is : WriteFault → Type 0) → IsLowest Is None → (f : BinaryFault) → NamesLowest {A = A} Is (Err (encode_fault f))
names-error A Is none binary.TooLarge = none
names-error A Is none binary.OutOfMemory = tt

pub names-encoded : {A : Type 0} → (Is : WriteFault → Type 0) (r : Result A BinaryFault) (s : Result A EncodeFault) → s ≡ encode_result r → IsLowest Is None → NamesLowest Is s
names-encoded {A} Is r s is none = subst (NamesLowest {A = A} Is) (sym is) (by r)
  where
    by : (q : Result A BinaryFault) → NamesLowest {A = A} Is (encode_result q)
    by (Ok x) = none
    by (Err f) = names-error A Is none f

-- An error of a writer names no fault.
pub encoded-no-write : {A : Type 0} → (r : Result A BinaryFault) (w : WriteFault) → encode_result r ≡ Err (e.Write w) → ⊥
encoded-no-write {A} (Ok x) w is = let wrong : ◌≡◌ {A = Result A EncodeFault} (Ok x) (Err (e.Write w)) = is in cc
encoded-no-write {A} (Err binary.TooLarge) w is = let wrong : ◌≡◌ {A = Result A EncodeFault} (Err e.TooLarge) (Err (e.Write w)) = is in cc
encoded-no-write {A} (Err binary.OutOfMemory) w is = let wrong : ◌≡◌ {A = Result A EncodeFault} (Err e.OutOfMemory) (Err (e.Write w)) = is in cc

pub none-is : (Is : WriteFault → Type 0) (o : Option WriteFault) → o ≡ None → IsLowest Is o → IsLowest Is None
none-is Is o is low = subst (IsLowest Is) is low

pub some-is : (Is : WriteFault → Type 0) (o : Option WriteFault) (f : WriteFault) → o ≡ Some f → IsLowest Is o → IsLowest Is (Some f)
some-is Is o f is low = subst (IsLowest Is) is low
