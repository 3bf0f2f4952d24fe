-- A core instance, by its first byte.
use Rattle.std.proofs.Common.{◌≡◌, ℕ, List, Result, Ok, refl, subst}
use Rattle.wac_component.specs.Parts.{CoreInstance}
use Rattle.wac_component.specs.Reader.{byte}
use Rattle.wac_component.specs.Reading.{core_instance_at}
use Rattle.wac_reader_parts.specs.declared.fault.ReadFault.{ReadFault}
use Rattle.wac_reader_parts.specs.private.Gives.{Gives}
use Rattle.wac_reader_parts.specs.private.Cores.{core_export_at, core_exports_at}

exports_at : (bytes : List ℕ) (first : ℕ) (rest : List ℕ) → byte bytes ≡ Ok (first, rest) → first ≡ 1 → core_exports_at rest ≡ core_instance_at bytes
unfolding core_instance_at core_exports_at core_export_at
exports_at bytes first rest found one = rw (found, one) refl

pub gives_exports : {X : Type 0} (view : X → CoreInstance × List ℕ) (r : Result X ReadFault) (bytes : List ℕ) (first : ℕ) (rest : List ℕ) → byte bytes ≡ Ok (first, rest) → first ≡ 1 → Gives view r (core_exports_at rest) → Gives view r (core_instance_at bytes)
gives_exports view r bytes first rest found one h = subst (Gives view r) (exports_at bytes first rest found one) h
