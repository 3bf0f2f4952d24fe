-- The file of a line.
use Rattle.std.specs.Prelude.{◌≡◌, ℕ, List, Option, Some, None, codes}
use Rattle.wac_script.specs.lines.Words.{Word, HasNoPrefix, AreWords}
use Rattle.wac_script.specs.lines.Says.{SaysLine}
use Rattle.wac_script.specs.declared.lines.calls.Call.TheVariants as said
use Rattle.wac_script.specs.declared.lines.calls.Line.{Line}
use Rattle.wac_script.specs.declared.lines.calls.Line.TheVariants as line

-- The line is a package whose bytes are in this file.
abbrev pub IsFileOf : Line → Word → Type 0
IsFileOf (line.Make label (said.Package p)) file = (file ≡ p.file.now) × HasNoPrefix (codes "hex:") file
IsFileOf _ file = ⊥

-- The words say a package whose bytes are in this file, or, for no file, they say no package whose bytes are in a file.
abbrev pub SayFile : List Word → Option Word → Type 0
SayFile words (Some file) = (l : Line) × SaysLine words l × IsFileOf l file
SayFile words None = (l : Line) (file : Word) → SaysLine words l → IsFileOf l file → ⊥

-- The same of a line of text.
abbrev pub NamesFile : List ℕ → Option Word → Type 0
NamesFile text file = (words : List Word) × AreWords text words × SayFile words file
