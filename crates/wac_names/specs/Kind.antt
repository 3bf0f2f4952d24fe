-- The kind of a name with its pieces as bytes, and the text that the pieces make.
-- Bytes: 32 is a space, 44 is `,`, 46 is `.`, 47 is `/`, 58 is `:`, 60 is `<`, 62 is `>`, 64 is `@`.
use Rattle.std.specs.Prelude.{ℕ, List, [], ◌∷◌, ◌++◌, codes, Option, Some, None}

-- A package: `namespace:name`.
pub record Package : Type 0 where
  pub namespace : List ℕ
  pub name : List ℕ

-- A range of versions: `*`, `{>=low}`, `{<high}` or `{>=low <high}`.
pub data Range : Type 0 where
  any : Range
  at_least : List ℕ → Range
  below : List ℕ → Range
  between : List ℕ → List ℕ → Range

-- The kinds of names, with their pieces.
pub data Kind : Type 0 where
  -- A label.
  label : List ℕ → Kind
  -- `[constructor]` and a resource.
  constructor : List ℕ → Kind
  -- `[method]`, a resource and a name.
  method : List ℕ → List ℕ → Kind
  -- `[static]`, a resource and a name.
  static : List ℕ → List ℕ → Kind
  -- A package, an interface and an optional version.
  interface : Package → List ℕ → Option (List ℕ) → Kind
  -- A package and an optional range of versions.
  unlocked : Package → Option Range → Kind
  -- A package, an optional version and an optional hash.
  locked : Package → Option (List ℕ) → Option (List ℕ) → Kind
  -- A location and an optional hash.
  url : List ℕ → Option (List ℕ) → Kind
  -- A hash.
  hash : List ℕ → Kind

-- Nothing, or a mark and the piece after it.
abbrev pub marked : List ℕ → Option (List ℕ) → List ℕ
marked mark None = []
marked mark (Some piece) = mark ++ piece

-- The text of a package: `namespace:name`.
abbrev pub package_text : Package → List ℕ
package_text p = p.namespace ++ 58 ∷ p.name

-- The text of a range.
abbrev pub range_text : Range → List ℕ
range_text any = codes "*"
range_text (at_least low) = codes "{>=" ++ (low ++ codes "}")
range_text (below high) = codes "{<" ++ (high ++ codes "}")
range_text (between low high) = codes "{>=" ++ (low ++ 32 ∷ 60 ∷ (high ++ codes "}"))

-- The text of an optional range, after its `@`.
abbrev pub range_part : Option Range → List ℕ
range_part None = []
range_part (Some r) = 64 ∷ range_text r

-- The text of a hash: `integrity=<..>`.
abbrev pub integrity_text : List ℕ → List ℕ
integrity_text h = codes "integrity=<" ++ (h ++ codes ">")

-- The text of an optional hash at the end of a name, after its `,`.
abbrev pub integrity_part : Option (List ℕ) → List ℕ
integrity_part None = []
integrity_part (Some h) = 44 ∷ integrity_text h

-- The text that the pieces of a kind make.
unfoldable pub joined : Kind → List ℕ
joined (label l) = l
joined (constructor r) = codes "[constructor]" ++ r
joined (method r n) = codes "[method]" ++ (r ++ 46 ∷ n)
joined (static r n) = codes "[static]" ++ (r ++ 46 ∷ n)
joined (interface p i v) = package_text p ++ 47 ∷ (i ++ marked (codes "@") v)
joined (unlocked p r) = codes "unlocked-dep=<" ++ ((package_text p ++ range_part r) ++ codes ">")
joined (locked p v h) = codes "locked-dep=<" ++ ((package_text p ++ marked (codes "@") v) ++ 62 ∷ integrity_part h)
joined (url u h) = codes "url=<" ++ (u ++ 62 ∷ integrity_part h)
joined (hash h) = integrity_text h

-- A name of this kind can be exported: it is not a hash, a URL or a dependency.
abbrev pub IsExportable : Kind → Type 0
IsExportable (label l) = Unit {0}
IsExportable (constructor r) = Unit {0}
IsExportable (method r n) = Unit {0}
IsExportable (static r n) = Unit {0}
IsExportable (interface p i v) = Unit {0}
IsExportable (unlocked p r) = ⊥
IsExportable (locked p v h) = ⊥
IsExportable (url u h) = ⊥
IsExportable (hash h) = ⊥
