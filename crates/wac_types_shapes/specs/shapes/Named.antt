-- Values by name, in order.
use Rattle.std.specs.Prelude.{ℕ, suc, ◌≡◌, if◌then◌else◌, List, [], ◌∷◌, map, string_bytes, Option, Some, None, Box}
use Rattle.std.specs.List.{AllZip}
use Rattle.std.specs.Borrow.{Bor}
use Rattle.std.specs.declared.string.String.{String}
use Rattle.std.specs.Option.{option_copied}
use Rattle.indexmap.specs.IndexMap.{IndexMap}
use Rattle.wac_types_shapes.specs.primitives.Name.{Name, same_name, find_name}
use Rattle.wac_types_shapes.specs.declared.shapes.component.InterfaceId.{InterfaceId}
use Rattle.wac_types_shapes.specs.declared.shapes.component.UsedType.{UsedType}

-- The entries, with names as bytes.
abbrev pub by_bytes : {A V : Type 0} → List (String A × V) → List (Name × V)
by_bytes es = map (λ e. (string_bytes e.0, e.1)) es

-- The entries that pairs with borrowed names hold.
abbrev pub named_pairs : {V : Type 0} → List (Bor (List ℕ) × V) → List (Name × V)
named_pairs es = map (λ e. (e.0.now, e.1)) es

-- The index and the value of a name, if counting starts at i; of several, the first.
abbrev pub named_at : {V : Type 0} → ℕ → Name → List (Name × V) → Option (ℕ × V)
named_at i n [] = None
named_at i n (e ∷ rest) = if same_name n e.0 then Some (i, e.1) else named_at (suc i) n rest

-- No name occurs twice.
abbrev pub NoNameTwice : {V : Type 0} → List (Name × V) → Type 0
NoNameTwice [] = Unit {0}
NoNameTwice (e ∷ rest) = (find_name rest e.0 ≡ None) × NoNameTwice rest

-- The names of the entries.
abbrev pub names_of : {V : Type 0} → List (Name × V) → List Name
names_of es = map (λ e. e.0) es

-- The second list clones the first: it has the same names in the same order, with clones of the values.
abbrev pub AreNamedClones : {V : Type 0} → (V → V → Type 0) → List (Name × V) → List (Name × V) → Type 0
AreNamedClones C es fs = AllZip (λ e f. (f.0 ≡ e.0) × C e.1 f.1) es fs

-- Names as entries without values.
abbrev pub labelled : List Name → List (Name × Unit {0})
labelled names = map (λ n. (n, tt)) names

-- Borrowed names as bytes.
abbrev pub given_names : List (Bor (List ℕ)) → List Name
given_names names = map (λ n. n.now) names

-- The used types that triples hold: the name in the user, the interface, and the name there if it differs.
abbrev pub used_pairs : List (Bor (List ℕ) × InterfaceId × Option (Bor (List ℕ))) → List (Name × UsedType)
used_pairs es = map (λ e. (e.0.now, record { interface = e.1; name = option_copied e.2 })) es

-- The entries of a map, with names as bytes; none if there is no map.
abbrev pub mapped : {A V S Z : Type 0} → Option (Box (IndexMap (String A) V S) Z) → List (Name × V)
mapped None = []
mapped (Some b) = by_bytes b.value.entries
