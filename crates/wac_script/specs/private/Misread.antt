-- Words that no call takes.
use Rattle.std.specs.Prelude.{List, string_bytes}
use Rattle.wac_script.specs.lines.Words.{Word}
use Rattle.wac_script.specs.lines.Called.{IsCall, IsCalled}
use Rattle.wac_script.specs.declared.refusal.LineError.{LineError}
use Rattle.wac_script.specs.declared.refusal.LineError.TheVariants as error
use Rattle.wac_script.specs.declared.refusal.Refusal.TheVariants as refusal

-- The error names the call of the words, or there was no memory to name it.
abbrev pub IsMisread : List Word → LineError → Type 0
IsMisread words (error.OtherWords call) = IsCalled words (string_bytes call) × IsCall (string_bytes call)
IsMisread words (error.UnknownCall call) = IsCalled words (string_bytes call) × (IsCall (string_bytes call) → ⊥)
IsMisread words (error.Call refusal.OutOfMemory) = Unit {0}
IsMisread words (error.Call _) = ⊥
