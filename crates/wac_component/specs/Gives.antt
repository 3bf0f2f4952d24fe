-- What the reader returns, against what the bytes are the text of.
use Rattle.std.specs.Prelude.{◌≡◌, Result, Ok, Err}
use Rattle.wac_component.specs.declared.fault.TextFault.{TextFault}
use Rattle.wac_component.specs.declared.error.ReadError.{ReadError}
use Rattle.wac_component.specs.declared.error.ReadReason.{ReadReason}
use Rattle.wac_component.specs.declared.error.ReadReason.TheVariants as r
use Rattle.wac_component.specs.declared.parts.Parts.{Parts as ReadParts}
use Rattle.wac_component.specs.Parts.{Parts}
use Rattle.wac_component.specs.PartViews.{parts_view}

-- The fault of the text is that of the bytes, unless memory ran out.
abbrev pub IsReason : ReadReason → Result Parts TextFault → Type 0
IsReason r.OutOfMemory read = Unit {0}
IsReason (r.Text fault) read = read ≡ Err fault

-- What is returned is what the bytes are read as, unless memory ran out.
abbrev pub GivesParts : Result ReadParts ReadError → Result Parts TextFault → Type 0
GivesParts (Ok x) read = read ≡ Ok (parts_view x)
GivesParts (Err e) read = IsReason e.reason read
