-- Each text has exactly one answer, and what was read of it is that answer.
use Rattle.std.proofs.Common.{◌≡◌, ℕ, List, Ok, Err, refl, inl, inr, ◌⊎◌}
use Rattle.wac_names.specs.Kind.{Kind}
use Rattle.wac_names.specs.Grammar.{HasKind}
use Rattle.wac_names.specs.Faults.{HasFault}
use Rattle.wac_names.specs.Name.{IsDecided}
use Rattle.wac_names.specs.Reading.{Read, read}
use Rattle.wac_names.specs.declared.fault.NameFault.{NameFault}
use Rattle.wac_names.proofs.FaultFacts.{has_fault-read, read-has_fault}
use Rattle.wac_names.proofs.OwnFaults.{own}
use Rattle.wac_names.proofs.KindFacts.{kind-read, read-has_kind}

decided-by : (text : List ℕ) (r : Read Kind) → read text ≡ r → ((k : Kind) × HasKind text k) ⊎ ((f : NameFault) × HasFault text f)
decided-by text (Ok k) e = inl (k, kind-read text k e)
decided-by text (Err f) e = inr (f, has_fault-read f text e)

pub decided : (text : List ℕ) → IsDecided text
decided text = record {
  some = decided-by text (read text) refl;
  one_kind = λ j k x y. let a = read-has_kind text j x in let b = read-has_kind text k y in cc;
  one_fault = λ f g x y. let a = read-has_fault f text x in let b = read-has_fault g text y in cc;
  apart = λ k f x y. let a = read-has_kind text k x in let b = read-has_fault f text y in cc;
  own = own text;
}
