-- Lists of types that were found.
use Rattle.std.specs.Prelude.{List}
use Rattle.std.specs.List.{IsDistinct}
use Rattle.indexmap.specs.IndexSet.{insert_all}
use Rattle.wac_types_shapes.specs.contracts.shapes.component.TypePartialEq.TheImpl as TypeEq
use Rattle.wac_types_shapes.specs.declared.shapes.component.«Type».{«Type» as AnyType}

-- The types, with each of these appended that is not there yet.
abbrev pub with_all : List AnyType → List AnyType → List AnyType
with_all found ts = insert_all (TypeEq.ghosts).eq found ts

-- No type occurs twice in the list.
abbrev pub NoneTwice : List AnyType → Type 0
NoneTwice ts = IsDistinct (TypeEq.ghosts).eq ts
