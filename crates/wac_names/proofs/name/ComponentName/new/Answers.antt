use Rattle.std.proofs.Common.{◌≡◌, ℕ, List, Err, refl, inl, inr, ◌⊎◌}
use Rattle.std.proofs.lemmas.Bool.{false≢true}
use Rattle.std.proofs.lemmas.Result.{err_from_is_err_and}
use Rattle.wac_names.proofs.KindFacts.{kind-read, read-has_kind}
use Rattle.wac_names.proofs.FaultFacts.{has_fault-read, read-has_fault}
use Rattle.wac_names.specs.Views.{kind_view}
use Rattle.wac_names.specs.Faults.{HasFault}
use Rattle.wac_names.specs.Grammar.{HasKind}
use Rattle.wac_names.specs.Kind.{Kind}
use Rattle.wac_names.specs.Plain.{AnswersPlain, IsPlainKind}
use Rattle.wac_names.specs.Reading.{read}
use Rattle.wac_names.specs.declared.kind.ComponentNameKind.{ComponentNameKind}
use Rattle.wac_names.specs.declared.fault.NameFault.{NameFault}
use Rattle.wac_names.specs.declared.fault.NameFault.TheVariants as fault
use Rattle.wac_names.proofs.name.ComponentName.new.Goals as goal

refused : (text : List ℕ) (f : NameFault) → (f ≡ fault.OutOfMemory) ⊎ (read text ≡ Err f) → (f ≡ fault.OutOfMemory) ⊎ HasFault text f
refused text f (inl memory) = inl memory
refused text f (inr e) = inr (has_fault-read f text e)

has_kind : (text : List ℕ) (f : NameFault) (k : Kind) → HasKind text k → (f ≡ fault.OutOfMemory) ⊎ (read text ≡ Err f) → f ≡ fault.OutOfMemory
has_kind text f k h (inl memory) = memory
has_kind text f k h (inr e) = let r = read-has_kind text k h in cc

has_fault : (text : List ℕ) (f g : NameFault) → HasFault text g → (f ≡ fault.OutOfMemory) ⊎ (read text ≡ Err f) → (f ≡ fault.OutOfMemory) ⊎ (f ≡ g)
has_fault text f g h (inl memory) = inl memory
has_fault text f g h (inr e) = let r = read-has_fault g text h in inr (cc)

plain-refused : (text : List ℕ) (f : NameFault) (k : Kind) → HasKind text k → IsPlainKind k → AnswersPlain {X = ComponentNameKind} IsPlainKind (read text) (Err f) → ⊥
plain-refused text f k h plain answer = false≢true ((rw (read-has_kind text k h) at answer) plain)

pub returns-in_err-kind-clause-fault : goal.returns-in_err-kind-clause-fault
returns-in_err-kind-clause-fault c =
    let p = err_from_is_err_and c.from_residual.result c.from_residual.ensures.1 in
    rw (p.1, p.2) (refused c.args.text.now _ c.in_err-kind.ensures.value)

pub returns-in_err-kind-clause-accepts : goal.returns-in_err-kind-clause-accepts
returns-in_err-kind-clause-accepts c = λ k h.
    let p = err_from_is_err_and c.from_residual.result c.from_residual.ensures.1 in
    rw (p.1, p.2) (has_kind c.args.text.now _ k h c.in_err-kind.ensures.value)

pub returns-in_err-kind-clause-plain : goal.returns-in_err-kind-clause-plain
returns-in_err-kind-clause-plain c = λ k h plain. absurd (plain-refused c.args.text.now _ k h plain c.in_err-kind.ensures.plain)

pub returns-in_err-kind-clause-refuses : goal.returns-in_err-kind-clause-refuses
returns-in_err-kind-clause-refuses c = λ g h.
    let p = err_from_is_err_and c.from_residual.result c.from_residual.ensures.1 in
    elim (has_fault c.args.text.now _ g h c.in_err-kind.ensures.value) [
      | inl memory ↦ inl (rw (p.1, p.2, memory) refl)
      | inr same ↦ inr (rw (p.1, p.2, same) refl)
    ]

pub returns-clause-ok : goal.returns-clause-ok
returns-clause-ok c = (refl, kind-read c.args.text.now (kind_view c.in_ok-kind.kind) c.in_ok-kind.ensures.value)

pub returns-clause-refuses : goal.returns-clause-refuses
returns-clause-refuses c = λ f h. let e = read-has_fault f c.args.text.now h in let k = c.in_ok-kind.ensures.value in absurd (cc)
