-- Values by module and name, in the order given.
use Rattle.std.specs.Prelude.{◌≡◌, Bool, true, false, ◌&&◌, ◌++◌, if◌then◌else◌, List, [], ◌∷◌, map, string_bytes, Option, Some, None}
use Rattle.std.specs.Cmp.{IsEquivalence, IsPartialEquivalence, on_per, on_equiv, and_per, and_equiv, partial_equiv_from_equiv}
use Rattle.std.specs.Cmp.Lexicographic.{bytes_decides}
use Rattle.std.specs.Hash as fed
use Rattle.std.specs.declared.string.String.{String}
use Rattle.std.proofs.Common.{ap}
use Rattle.std.proofs.lemmas.Bool.{and_parts}
use Rattle.wac_types_shapes.specs.primitives.Name.{Name, same_name}
use Rattle.wac_types_shapes.specs.private.shapes.Equal.{same_text, text_equiv}
use Rattle.wac_types_shapes.specs.declared.shapes.imports.ImportKey.{ImportKey}

-- A module, and a name in it.
abbrev pub Pair : Type 0
Pair = Name × Name

-- The pair has this module and this name.
abbrev pub same_pair : Name → Name → Pair → Bool
same_pair m n p = if same_name m p.0 then same_name n p.1 else false

-- The value of a module and a name; of several, the first.
abbrev pub find_import : {V : Type 0} → List (Pair × V) → Name → Name → Option V
find_import [] m n = None
find_import (e ∷ rest) m n = if same_pair m n e.0 then Some e.1 else find_import rest m n

-- No name of a module occurs twice.
abbrev pub NoImportTwice : {V : Type 0} → List (Pair × V) → Type 0
NoImportTwice [] = Unit {0}
NoImportTwice (e ∷ rest) = (find_import rest e.0.0 e.0.1 ≡ None) × NoImportTwice rest

-- The pair of names that a key of two strings holds.
abbrev pub pair_of : {A : Type 0} → String A × String A → Pair
pair_of k = (string_bytes k.0, string_bytes k.1)

-- The pair of names that a borrowed key holds.
abbrev pub borrowed_pair : ImportKey → Pair
borrowed_pair k = (k.source.now, k.name.now)

-- The entries of a map, with modules and names as bytes.
abbrev pub by_pairs : {A V : Type 0} → List ((String A × String A) × V) → List (Pair × V)
by_pairs es = map (λ e. (pair_of e.0, e.1)) es

-- Keys are equal if both modules and both names are.
abbrev pub same_key : Pair → Pair → Bool
same_key a b = same_text a.0 b.0 && same_text a.1 b.1

-- Equality of keys is an equivalence.
pub key_equiv : IsEquivalence same_key
key_equiv = and_equiv (on_equiv (λ p. p.0) text_equiv) (on_equiv (λ p. p.1) text_equiv)

-- Keys that are the same are equal.
pub same_key-true : (a b : Pair) → same_key a b ≡ true → a ≡ b
same_key-true a b e =
    let parts = and_parts (same_text a.0 b.0) (same_text a.1 b.1) e in
    let source = (bytes_decides a.0 b.0).0 parts.0 in
    let name = (bytes_decides a.1 b.1).0 parts.1 in
    (λ i. (source i, name i))

-- The input of the hash of a key.
abbrev pub key_writes : Pair → fed.HashWrites
key_writes p = fed.str p.0 ++ fed.str p.1

-- Keys that are the same have the same hash input.
pub same_key_writes : (a b : Pair) → same_key a b ≡ true → key_writes a ≡ key_writes b
same_key_writes a b e = ap key_writes (same_key-true a b e)

-- The second entry is a clone of the first: it has the same key, and a clone of the value.
abbrev pub IsImportClone : {V : Type 0} → (V → V → Type 0) → Pair × V → Pair × V → Type 0
IsImportClone C e f = (f.0 ≡ e.0) × C e.1 f.1

module _ {V : Type 0} where
  -- Entries are equal if their keys and their values are.
  abbrev pub same_import : (V → V → Bool) → Pair × V → Pair × V → Bool
  same_import E a b = same_key a.0 b.0 && E a.1 b.1

  -- Equality of entries is a partial equivalence if equality of values is.
  pub import_per : {E : V → V → Bool} → IsPartialEquivalence E → IsPartialEquivalence (same_import E)
  import_per laws = and_per (on_per (λ e. e.0) (partial_equiv_from_equiv key_equiv)) (on_per (λ e. e.1) laws)

  -- Equality of entries is an equivalence if equality of values is.
  pub import_equiv : {E : V → V → Bool} → IsEquivalence E → IsEquivalence (same_import E)
  import_equiv laws = and_equiv (on_equiv (λ e. e.0) key_equiv) (on_equiv (λ e. e.1) laws)
