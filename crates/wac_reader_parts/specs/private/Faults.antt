-- Faults, but for their place.
use Rattle.std.specs.Prelude.{◌≡◌}
use Rattle.wac_reader_parts.specs.declared.fault.ReadFault.{ReadFault}
use Rattle.wac_reader_parts.specs.declared.fault.ReadFault.TheVariants as errors

-- Both are out of memory, or both have the same fault of the text.
abbrev pub SameText : ReadFault → ReadFault → Type 0
SameText errors.Memory errors.Memory = Unit {0}
SameText (errors.Text f left) (errors.Text g there) = f ≡ g
SameText errors.Memory (errors.Text g there) = ⊥
SameText (errors.Text f left) errors.Memory = ⊥
