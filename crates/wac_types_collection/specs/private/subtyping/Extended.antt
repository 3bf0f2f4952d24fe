-- Collections that extend others.
use Rattle.std.specs.Prelude.{◌≡◌, true, List}
use Rattle.std.specs.List.{AllByRecursion}
use Rattle.wac_types_collection.specs.collection.Collection.{Collection, holds_value, IsKeptBy}
use Rattle.wac_types_shapes.specs.declared.shapes.component.ValueType.{ValueType}
use Rattle.wac_types_collection.specs.subtyping.TreeLaws.{KeepsTrees}

-- The second collection has the items of the first with the same ids, and the same trees of their types.
pub record IsExtended (c m : Collection) : Type 0 where
  pub kept : IsKeptBy c m
  pub trees : KeepsTrees c m

-- All these value types are of the collection.
abbrev pub AreHeldValues : Collection → List ValueType → Type 0
AreHeldValues c vs = AllByRecursion (λ v. holds_value c v ≡ true) vs
