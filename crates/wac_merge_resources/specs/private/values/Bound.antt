-- The value of a `ValueBinding`.
use Rattle.std.specs.Prelude.{ℕ, List}
use Rattle.std.specs.Option.{option_copied}
use Rattle.wac_types_shapes.specs.primitives.Tree.{Place}
use Rattle.wac_merge_resources.specs.declared.values.bindings.ValueBinding.{ValueBinding}
use Rattle.wac_merge_resources.specs.private.values.Listings.{path_of}

-- The class, and the path of the name in it.
abbrev pub binding_view : ValueBinding → ℕ × List Place
binding_view b = (b.class, path_of (option_copied b.name))
