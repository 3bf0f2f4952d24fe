-- The rank of a type: the number of items added until the item that it names was there.
use Rattle.std.specs.Prelude.{ℕ, suc, Option, Some, None, slice_get}
use Rattle.wac_types_shapes.specs.declared.shapes.component.ValueType.{ValueType}
use Rattle.wac_types_shapes.specs.declared.shapes.component.ValueType.TheVariants as val
use Rattle.wac_types_shapes.specs.declared.shapes.component.«Type».{«Type» as AnyType}
use Rattle.wac_types_shapes.specs.declared.shapes.component.«Type».TheVariants as ty
use Rattle.wac_types_collection.specs.declared.collection.collection.Held.{Held}
use Rattle.wac_types_collection.specs.collection.Collection.{Collection}

-- The rank of an item, if there is one.
abbrev pub rank_of_held : {A : Type 0} → Option (Held A) → ℕ
rank_of_held None = 0
rank_of_held (Some h) = suc h.before

-- The rank of a value type.
abbrev pub value_rank : Collection → ValueType → ℕ
value_rank c (val.Primitive p) = 0
value_rank c (val.Own r) = rank_of_held (slice_get c.resources r.0)
value_rank c (val.Borrow r) = rank_of_held (slice_get c.resources r.0)
value_rank c (val.Defined d) = rank_of_held (slice_get c.defined d.0)

-- The rank of a type.
abbrev pub type_rank : Collection → AnyType → ℕ
type_rank c (ty.Resource r) = rank_of_held (slice_get c.resources r.0)
type_rank c (ty.Func f) = rank_of_held (slice_get c.funcs f.0)
type_rank c (ty.Value v) = value_rank c v
type_rank c (ty.Interface i) = rank_of_held (slice_get c.interfaces i.0)
type_rank c (ty.World w) = rank_of_held (slice_get c.worlds w.0)
type_rank c (ty.Module m) = rank_of_held (slice_get c.modules m.0)
