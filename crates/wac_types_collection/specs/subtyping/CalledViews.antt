-- The definitions that the Rust types of bindings represent.
use Rattle.std.specs.Prelude.{List, map, string_bytes}
use Rattle.std.specs.declared.string.String.{String}
use Rattle.wac_types_shapes.specs.primitives.Tree.{Side, imported, exported, Place, named}
use Rattle.wac_types_collection.specs.subtyping.Called as spec
use Rattle.wac_types_collection.specs.declared.subtyping.called.Side.{Side as ASide}
use Rattle.wac_types_collection.specs.declared.subtyping.called.Side.TheVariants.{Imported, Exported}
use Rattle.wac_types_collection.specs.declared.subtyping.called.Called.{Called}
use Rattle.wac_types_collection.specs.declared.subtyping.called.Called.TheVariants as called

-- The side that a value represents.
abbrev pub side_view : ASide → Side
side_view Imported = imported
side_view Exported = exported

-- The path that a list of names represents.
abbrev pub path_view : {A : Type 0} → List (String A) → List Place
path_view path = map (λ s. named (string_bytes s)) path

-- The binding that a value represents.
abbrev pub called_view : Called → spec.Called
called_view (called.Bound out side path name) = spec.bound_at (record { out = out; side = side_view side; path = path_view path.items }) (string_bytes name)
called_view (called.OfClass class path name) = spec.of_class class (path_view path.items) (string_bytes name)
called_view (called.Itself resource name) = spec.itself resource (string_bytes name)
