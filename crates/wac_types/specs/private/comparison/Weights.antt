-- The weight of a type: greater than that of each type that it mentions. Equal types have equal weights.
use Rattle.std.specs.Prelude.{ℕ, zero, suc, ◌+◌, length}
use Rattle.wac_types_shapes.specs.primitives.Tree.{TypeTree, record_of, variant_of, list_of, fixed_list_of, tuple_of, option_of, result_of, stream_of, future_of, function}
use Rattle.wac_types_collection.specs.collection.Collection.{Collection}
use Rattle.wac_types_collection.specs.subtyping.Subtype.{type_tree}
use Rattle.wac_types_collection.specs.subtyping.Ranks.{type_rank}
use Rattle.wac_types_shapes.specs.declared.shapes.component.ValueType.TheVariants as val
use Rattle.wac_types_shapes.specs.declared.shapes.component.«Type».{«Type» as AnyType}
use Rattle.wac_types_shapes.specs.declared.shapes.component.«Type».TheVariants as ty

-- The sum of the first n numbers.
abbrev pub total : ℕ → (ℕ → ℕ) → ℕ
total zero f = 0
total (suc n) f = f 0 + total n (λ i. f (suc i))

-- The weight of a tree: for a value type or a function, greater than the sum of its parts.
abbrev pub weight : {L : Type 0} → TypeTree L → ℕ
weight (record_of names parts) = suc (total (length names) (λ i. weight (parts i)))
weight (variant_of names parts) = suc (total (length names) (λ i. weight (parts i)))
weight (list_of t) = suc (weight t)
weight (fixed_list_of n t) = suc (weight t)
weight (tuple_of n parts) = suc (total n (λ i. weight (parts i)))
weight (option_of t) = suc (weight t)
weight (result_of t u) = suc (weight t + weight u)
weight (stream_of t) = suc (weight t)
weight (future_of t) = suc (weight t)
weight (function is_async names params result) = suc (total (length names) (λ i. weight (params i)) + weight result)
weight _ = 0

-- A bound of the weights of all value types and function types of the collection.
abbrev pub heaviest : Collection → ℕ
heaviest c = total (length c.defined) (λ i. weight (type_tree c (ty.Value (val.Defined (record { 0 = i }))))) + total (length c.funcs) (λ i. weight (type_tree c (ty.Func (record { 0 = i }))))

-- The weight of a type of the collection.
abbrev pub type_weight : Collection → AnyType → ℕ
type_weight c (ty.Interface i) = suc (heaviest c + type_rank c (ty.Interface i))
type_weight c (ty.World w) = suc (heaviest c + type_rank c (ty.World w))
type_weight c (ty.Module m) = suc (heaviest c + type_rank c (ty.Module m))
type_weight c t = weight (type_tree c t)
