-- The types that were rewritten so far. Only contracts inside the merge cite this file.
use Rattle.std.specs.Prelude.{ℕ, ◌≡◌, List, Option, Some}
use Rattle.std.specs.Option.{option_map}
use Rattle.wac_types_collection.specs.collection.Collection.{Collection}
use Rattle.wac_types_collection.specs.collection.Held.{resolved}
use Rattle.wac_types_shapes.specs.declared.shapes.component.ResourceId.{ResourceId}
use Rattle.wac_types_shapes.specs.declared.shapes.component.DefinedTypeId.{DefinedTypeId}
use Rattle.wac_types_shapes.specs.declared.shapes.component.FuncTypeId.{FuncTypeId}
use Rattle.wac_types_shapes.specs.declared.shapes.component.«Type».TheVariants as ty
use Rattle.wac_types_shapes.specs.declared.shapes.component.ValueType.{ValueType}
use Rattle.wac_types_shapes.specs.declared.shapes.component.ValueType.TheVariants as val
use Rattle.wac_merge_tables.specs.private.tables.Numbers.{number_at}
use Rattle.wac_merge_classes.specs.terms.Unions.{AreAround, IsPart}
use Rattle.wac_merge_classes.specs.terms.Became.{AreBoundParts, became}
use Rattle.wac_merge_resources.specs.declared.renaming.became.Became.{Became}
use Rattle.wac_merge_resources.specs.declared.renaming.renamer.Renamed.{Renamed}
use Rattle.wac_merge_resources.specs.declared.renaming.renamer.Renaming.{Renaming}
use Rattle.wac_merge_resources.specs.renaming.MadeOf.{AreMade, IsFuncMadeOf, IsMadeOf}
use Rattle.wac_merge_resources.specs.private.renaming.Ways.{AreOutward}
use Rattle.wac_merge_classes.specs.terms.Renaming.{AreEnds, IsRenamed}
use Rattle.wac_types_collection.specs.private.subtyping.Extended.{IsExtended}

-- What a resource without alias becomes, where types are rewritten.
abbrev pub becomes : Renaming → ResourceId → ResourceId
becomes s = became s.types.now s.became.now.parts.now s.became.now.bindings.now s.became.now.fresh.now s.part

-- Types can be rewritten in this part: the merged collection begins with theirs and holds what its resources become.
pub record CanRename (m : Collection) (s : Renaming) : Type 0 where
  pub extended : IsExtended s.types.now m
  pub ends : AreEnds s.types.now m (becomes s)
  pub bound : AreBoundParts s.types.now s.became.now.parts.now s.became.now.bound.now
  pub outward : AreOutward s.became.now.parts.now s.became.now.bound.now s.became.now.outward.now
  pub around : AreAround s.became.now.parts.now
  pub within : IsPart s.became.now.parts.now s.part

-- Types can be rewritten in each part and outside all parts.
pub record CanRenameAll (m c : Collection) (b : Became) : Type 0 where
  pub extended : IsExtended c m
  pub ends : (part : Option ℕ) → IsPart b.parts.now part → AreEnds c m (became c b.parts.now b.bindings.now b.fresh.now part)
  pub bound : AreBoundParts c b.parts.now b.bound.now
  pub outward : AreOutward b.parts.now b.bound.now b.outward.now
  pub around : AreAround b.parts.now

-- The rewritten definition or function type, by a list of the indices of all of them.
abbrev pub defined_at : List (Option ℕ) → DefinedTypeId → Option DefinedTypeId
defined_at ns d = option_map (λ n. record { 0 = n }) (number_at ns d.0)

abbrev pub func_at : List (Option ℕ) → FuncTypeId → Option FuncTypeId
func_at ns f = option_map (λ n. record { 0 = n }) (number_at ns f.0)

-- The rewritten definition or function type of a memo.
abbrev pub defined_in : Renamed → DefinedTypeId → Option DefinedTypeId
defined_in memo d = defined_at memo.defined d

abbrev pub func_in : Renamed → FuncTypeId → Option FuncTypeId
func_in memo f = func_at memo.funcs f

-- The rewritten value type: a handle is of what its resource becomes, a definition is looked up in the memo.
abbrev pub value_in : Renaming → Renamed → ValueType → Option ValueType
value_in s memo (val.Primitive p) = Some (val.Primitive p)
value_in s memo (val.Own r) = Some (val.Own (becomes s (resolved s.types.now r)))
value_in s memo (val.Borrow r) = Some (val.Borrow (becomes s (resolved s.types.now r)))
value_in s memo (val.Defined d) = option_map val.Defined (defined_in memo d)

-- All recorded types are rewritten correctly, and what was made has the recorded ids.
pub record AreRenamed (m : Collection) (s : Renaming) (memo : Renamed) : Type 0 where
  pub defined : (d e : DefinedTypeId) → defined_in memo d ≡ Some e → IsRenamed s.types.now m (becomes s) (ty.Value (val.Defined d)) (ty.Value (val.Defined e))
  pub funcs : (f g : FuncTypeId) → func_in memo f ≡ Some g → IsRenamed s.types.now m (becomes s) (ty.Func f) (ty.Func g)
  pub made : AreMade s.types.now s.became.now.named.now m memo.made
  -- Each rewritten definition has the id that was made for its named type.
  pub once : (d e : DefinedTypeId) → defined_in memo d ≡ Some e → IsMadeOf s.types.now (becomes s) s.became.now.named.now memo.made (val.Defined d) (val.Defined e)
  pub once_funcs : (f g : FuncTypeId) → func_in memo f ≡ Some g → IsFuncMadeOf s.types.now m (becomes s) s.became.now.named.now memo.made f g
