-- The ends of aliases that a collection keeps. No public contract cites them.
use Rattle.std.specs.Prelude.{ℕ, ◌≡◌, List, length, get_or, Some, slice_get}
use Rattle.wac_types_collection.specs.collection.Collection.{Collection}
use Rattle.wac_types_collection.specs.collection.Held.{resolved}
use Rattle.wac_types_collection.specs.collection.Aliases.{value_resolved}
use Rattle.wac_types_collection.specs.private.collection.Lawful.{IsLawful}
use Rattle.wac_types_shapes.specs.declared.shapes.component.ResourceId.{ResourceId}
use Rattle.wac_types_shapes.specs.declared.shapes.component.ValueType.{ValueType}
use Rattle.wac_types_shapes.specs.declared.shapes.component.ValueType.TheVariants as val

-- The end of the definition at an index. A definition without an end in the list is its own.
abbrev pub end_at : List ValueType → ℕ → ValueType
end_at values i = get_or values i (val.Defined (record { 0 = i }))

-- The resource at the end of each resource's aliases, and the value type at the end of each definition's.
pub record AreEnds (c : Collection) (resources : List ResourceId) (values : List ValueType) : Type 0 where
  pub resources_counted : length resources ≡ length c.resources
  pub resource_end : (i : ℕ) (e : ResourceId) → slice_get resources i ≡ Some e → e ≡ resolved c (record { 0 = i })
  pub value_end : (i : ℕ) → end_at values i ≡ value_resolved c (val.Defined (record { 0 = i }))

-- The collection is lawful, and these are the ends of its aliases.
pub record HasEnds (c : Collection) (resources : List ResourceId) (values : List ValueType) : Type 0 where
  pub lawful : IsLawful c
  pub ends : AreEnds c resources values
