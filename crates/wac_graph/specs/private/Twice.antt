-- Errors that say which name occurs twice. Only private functions use these definitions.
use Rattle.std.specs.Prelude.{◌≡◌, ◌⊎◌, List, IsSome, string_bytes}
use Rattle.wac_types_shapes.specs.primitives.Name.{Name, find_name}
use Rattle.wac_types_shapes.specs.shapes.Named.{NoNameTwice, labelled}
use Rattle.wac_graph.specs.declared.errors.Error.{Error}
use Rattle.wac_graph.specs.declared.errors.Error.TheVariants as error
use Rattle.wac_graph.specs.Building.{IsFirstTwice}

-- The error names the first of the names that occurs twice, or memory ran out.
abbrev pub IsNameError : List Name → Error → Type 0
IsNameError names (error.NameTwice text) = IsFirstTwice names (string_bytes text)
IsNameError names error.OutOfMemory = Unit {0}
IsNameError names _ = ⊥

-- The error names the first name that occurs twice in the imports or else in the exports, or memory ran out.
abbrev pub IsSideError : (imports exports : List Name) → Error → Type 0
IsSideError imports exports (error.NameTwice text) =
    IsFirstTwice imports (string_bytes text) ⊎ (NoNameTwice (labelled imports) × IsFirstTwice exports (string_bytes text))
IsSideError imports exports error.OutOfMemory = Unit {0}
IsSideError imports exports _ = ⊥

-- The error names this name, or memory ran out.
abbrev pub IsThatName : Name → Error → Type 0
IsThatName name (error.NameTwice text) = string_bytes text ≡ name
IsThatName name error.OutOfMemory = Unit {0}
IsThatName name _ = ⊥

-- The error of a name after these, which are distinct: the name is among them, or memory ran out.
abbrev pub IsRefusedAfter : List (Name × Unit {0}) → Name → Error → Type 0
IsRefusedAfter found name (error.NameTwice text) = (string_bytes text ≡ name) × NoNameTwice found × IsSome (find_name found name)
IsRefusedAfter found name error.OutOfMemory = Unit {0}
IsRefusedAfter found name _ = ⊥
