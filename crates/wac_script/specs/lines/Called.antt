-- The word of a line that names its call.
use Rattle.std.specs.Prelude.{◌≡◌, ◌⊎◌, List, [], ◌∷◌, codes}
use Rattle.wac_script.specs.lines.Words.{Word}

-- The word is one of these.
abbrev pub IsOneOf : List Word → Word → Type 0
IsOneOf [] word = ⊥
IsOneOf (first ∷ rest) word = (word ≡ first) ⊎ IsOneOf rest word

-- The names of the calls that make a value type.
abbrev pub shape_calls : List Word
shape_calls = codes "record" ∷ codes "variant" ∷ codes "enum" ∷ codes "flags" ∷ codes "tuple" ∷ codes "list" ∷ codes "option" ∷ codes "result" ∷ codes "type" ∷ codes "stream" ∷ codes "future" ∷ []

-- The names of the calls that make another type, or an import or export of core modules.
abbrev pub type_calls : List Word
type_calls = codes "resource" ∷ codes "func" ∷ codes "async" ∷ codes "interface" ∷ codes "world" ∷ codes "core" ∷ codes "module" ∷ []

-- The names of the calls on the graph.
abbrev pub graph_calls : List Word
graph_calls = codes "package" ∷ codes "new" ∷ codes "alias" ∷ codes "import" ∷ codes "define" ∷ codes "set" ∷ codes "export" ∷ codes "name" ∷ codes "plug" ∷ []

-- The word is the name of a call.
abbrev pub IsCall : Word → Type 0
IsCall word = IsOneOf shape_calls word ⊎ (IsOneOf type_calls word ⊎ IsOneOf graph_calls word)

-- The word follows `LABEL =`.
abbrev pub FollowsLabel : List Word → Word → Type 0
FollowsLabel words call = (label : Word) × (rest : List Word) × (words ≡ label ∷ codes "=" ∷ call ∷ rest)

-- The word is where a line has the name of its call: after `LABEL =`, or else it is the first.
abbrev pub IsCalled : List Word → Word → Type 0
IsCalled words call =
    FollowsLabel words call ⊎ (((other : Word) → FollowsLabel words other → ⊥) × ((rest : List Word) × (words ≡ call ∷ rest)))
