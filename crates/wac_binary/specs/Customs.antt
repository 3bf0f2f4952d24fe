-- The contents of the custom sections `component-name` and `producers`.
use Rattle.std.specs.Prelude.{ℕ, ◌<◌, List, [], ◌∷◌, ◌++◌, length, if◌then◌else◌, Bool, eqb, codes}
use Rattle.std.specs.List.{AllByRecursion, flat_map}
use Rattle.wac_types_shapes.specs.primitives.Name.{Name}
use Rattle.wac_binary.specs.Leb.{unsigned}
use Rattle.wac_binary.specs.Bytes.{text, vector, sort}
use Rattle.wac_binary.specs.Indexes.{space}
use Rattle.wac_binary.specs.declared.sorts.Sort.{Sort}
use Rattle.wac_binary.specs.declared.sorts.Sort.TheVariants as s

-- The names of the two custom sections.
abbrev pub component_name : Name
component_name = codes "component-name"

abbrev pub producers : Name
producers = codes "producers"

abbrev pub same_sort : Sort → Sort → Bool
same_sort t u = eqb (space t) (space u)

-- The named indexes of one sort, with their names.
abbrev pub of_sort : Sort → List (Sort × ℕ × Name) → List (ℕ × Name)
of_sort t [] = []
of_sort t (e ∷ es) = if same_sort e.0 t then (e.1, e.2) ∷ of_sort t es else of_sort t es

-- An index and its name.
abbrev pub naming : ℕ × Name → List ℕ
naming e = unsigned e.0 ++ text e.1

-- The contents of a subsection: its sort, then the named indexes.
abbrev pub names_in : Sort → List (ℕ × Name) → List ℕ
names_in t es = sort t ++ vector naming es

-- The subsection of a sort, which is left out if the sort has no names.
abbrev pub subsection : Sort → List (ℕ × Name) → List ℕ
subsection t [] = []
subsection t (e ∷ es) = 1 ∷ (unsigned (length (names_in t (e ∷ es))) ++ names_in t (e ∷ es))

-- The order of the subsections.
abbrev pub sorts_in_order : List Sort
sorts_in_order = s.Type ∷ s.Func ∷ s.Instance ∷ s.Component ∷ s.CoreModule ∷ s.Value ∷ []

-- The contents of the custom section `component-name` with these names.
unfoldable pub names_bytes : List (Sort × ℕ × Name) → List ℕ
names_bytes es = flat_map (λ t. subsection t (of_sort t es)) sorts_in_order

-- The contents of the custom section `producers` that names a processor and its version.
unfoldable pub producers_bytes : (name version : Name) → List ℕ
producers_bytes name version = 1 ∷ (text (codes "processed-by") ++ 1 ∷ (text name ++ text version))

-- The indexes are strictly increasing and above i.
abbrev pub RiseFrom : ℕ → List (ℕ × Name) → Type 0
RiseFrom i [] = Unit
RiseFrom i (e ∷ es) = (i < e.0) × RiseFrom e.0 es

-- The indexes are strictly increasing.
abbrev pub Rising : List (ℕ × Name) → Type 0
Rising [] = Unit
Rising (e ∷ es) = RiseFrom e.0 es

-- The indexes of each sort are strictly increasing.
abbrev pub AreRising : List (Sort × ℕ × Name) → Type 0
AreRising es = AllByRecursion (λ t. Rising (of_sort t es)) sorts_in_order
