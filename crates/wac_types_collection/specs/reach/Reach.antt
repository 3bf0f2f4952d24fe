-- The types that a type mentions, and those that it reaches.
use Rattle.std.specs.Prelude.{◌≡◌, ◌⊎◌, true, List, [], ◌∷◌}
use Rattle.wac_types_shapes.specs.primitives.Name.{option_case}
use Rattle.wac_types_shapes.specs.declared.shapes.component.«Type».{«Type» as AnyType}
use Rattle.wac_types_shapes.specs.declared.shapes.component.«Type».TheVariants as ty
use Rattle.wac_types_shapes.specs.declared.shapes.component.ValueType.TheVariants as val
use Rattle.wac_types_collection.specs.collection.Collection.{Collection, holds_type, item_at, resource_mentions, func_mentions, defined_mentions, interface_mentions, world_mentions}

-- The types that a type mentions: those whose ids are in it.
abbrev pub mentions : Collection → AnyType → List AnyType
mentions c (ty.Resource r) = option_case (item_at c.resources r.0) [] resource_mentions
mentions c (ty.Func f) = option_case (item_at c.funcs f.0) [] func_mentions
mentions c (ty.Value (val.Primitive p)) = []
mentions c (ty.Value (val.Borrow r)) = ty.Resource r ∷ []
mentions c (ty.Value (val.Own r)) = ty.Resource r ∷ []
mentions c (ty.Value (val.Defined d)) = option_case (item_at c.defined d.0) [] defined_mentions
mentions c (ty.Interface i) = option_case (item_at c.interfaces i.0) [] interface_mentions
mentions c (ty.World w) = option_case (item_at c.worlds w.0) [] world_mentions
mentions c (ty.Module m) = []

-- The type is in the list.
abbrev pub IsIn : AnyType → List AnyType → Type 0
IsIn t [] = ⊥
IsIn t (u ∷ us) = (t ≡ u) ⊎ IsIn t us

-- A type reaches the types that it mentions, and those that they reach.
pub data Reaches (c : Collection) : AnyType → AnyType → Type 0 where
  at_once : (a b : AnyType) → IsIn b (mentions c a) → Reaches c a b
  further : (a b d : AnyType) → IsIn b (mentions c a) → Reaches c b d → Reaches c a d

-- The types are of the collection, and mention only each other.
pub record AreClosed (c : Collection) (ts : List AnyType) : Type 0 where
  pub held : (t : AnyType) → IsIn t ts → holds_type c t ≡ true
  pub mentioned : (u t : AnyType) → IsIn u ts → IsIn t (mentions c u) → IsIn t ts
