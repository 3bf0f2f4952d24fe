-- The open section: its id and count, and the bytes of its items.
use Rattle.std.specs.Prelude.{ℕ, List, [], ◌∷◌, Option, Some, None}
use Rattle.wac_binary.specs.Bytes.{Section, preamble}
use Rattle.wac_binary.specs.declared.sections.section.Open.{Open}

abbrev pub section : Open → List ℕ → Section
section o things = record { id = o.id; count = o.count; things = things }

abbrev pub section_of : Option Open → List ℕ → Option Section
section_of None things = None
section_of (Some o) things = Some (section o things)

-- The bytes so far, or the preamble if nothing is written yet.
abbrev pub begun : List ℕ → List ℕ
begun [] = preamble
begun (b ∷ bs) = b ∷ bs
