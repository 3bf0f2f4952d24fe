-- What a definition refers to: a new type, or what an import already has.
use Rattle.std.specs.Prelude.{ℕ, ◌≡◌, List, [], ◌∷◌, ◌++◌, Some, slice_get}
use Rattle.wac_types_shapes.specs.primitives.Name.{Name}
use Rattle.wac_types_shapes.specs.primitives.Tree.{imported, Place, position, named, Tree, absent, type_equal, instance_item, taken_from, items_in}
use Rattle.wac_binary.specs.Meaning.{Thing, import_at, projection, written}

-- The thing at a path of names, each the name of an instance's export.
abbrev pub along : Thing → List Name → Thing
along x [] = x
along x (n ∷ names) = along (projection x n) names

-- The item at a path of names inside an item at a place of the root. Resources are given by the bindings of the root.
abbrev pub item_along : List Place → List Name → Tree → Tree
item_along place [] item = item
item_along place (n ∷ names) (instance_item t) = item_along (place ++ named n ∷ []) names (taken_from imported place (items_in t n))
item_along place (n ∷ names) _ = absent

-- What a definition with this tree refers to, given the imports.
--
-- It is a new type, or an import, or the export of an import at a path of names, that is a type with this tree.
pub data IsDefined (imports : List (Name × Tree)) (tree : Tree) (x : Thing) : Type 0 where
  as_new : x ≡ written tree → IsDefined imports tree x
  as_listed : (p : ℕ) (names : List Name) (e : Name × Tree) → slice_get imports p ≡ Some e → item_along (position p ∷ []) names e.1 ≡ type_equal tree → x ≡ along (import_at p) names → IsDefined imports tree x
