-- The steps in which types are rewritten. Only contracts inside the merge cite this file.
use Rattle.std.specs.Prelude.{ℕ, ◌≡◌, ◌++◌, ◌⊎◌, true, cond, nat_eq, List, ◌∷◌, [], Option, Some, None, IsSome}
use Rattle.std.specs.List.{AllByRecursion, AllZip}
use Rattle.wac_types_shapes.specs.primitives.Name.{Name}
use Rattle.wac_types_collection.specs.collection.Collection.{Collection, holds_value}
use Rattle.wac_types_shapes.specs.declared.shapes.component.DefinedType.{DefinedType}
use Rattle.wac_types_shapes.specs.declared.shapes.component.DefinedType.TheVariants as def
use Rattle.wac_types_shapes.specs.declared.shapes.component.DefinedTypeId.{DefinedTypeId}
use Rattle.wac_types_shapes.specs.declared.shapes.component.Enum.{Enum}
use Rattle.wac_types_shapes.specs.declared.shapes.component.Flags.{Flags}
use Rattle.wac_types_shapes.specs.declared.shapes.component.FuncType.{FuncType}
use Rattle.wac_types_shapes.specs.declared.shapes.component.FuncTypeId.{FuncTypeId}
use Rattle.wac_types_shapes.specs.declared.shapes.component.Record.{Record}
use Rattle.wac_types_shapes.specs.declared.shapes.component.ResourceId.{ResourceId}
use Rattle.wac_types_shapes.specs.declared.shapes.component.ValueType.{ValueType}
use Rattle.wac_types_shapes.specs.declared.shapes.component.ValueType.TheVariants as val
use Rattle.wac_types_shapes.specs.declared.shapes.component.Variant.{Variant}
use Rattle.wac_types_shapes.specs.declared.shapes.component.«Type».TheVariants as ty
use Rattle.wac_merge_resources.specs.private.renaming.RenamedTypes.{AreRenamed, becomes, defined_in, func_in, value_in}
use Rattle.wac_merge_resources.specs.renaming.MadeOf.{IsMadeOf}
use Rattle.wac_merge_tables.specs.made.Made.{StayMade}
use Rattle.wac_merge_tables.specs.declared.made.made.Made.{Made}
use Rattle.wac_types_collection.specs.private.subtyping.Extended.{IsExtended}
use Rattle.wac_merge_classes.specs.terms.Renaming.{IsRenamed}
use Rattle.wac_merge_tables.specs.private.tables.Tasks.{task_id, parts_of, openings, IsHeldTask, HasTask}
use Rattle.wac_merge_resources.specs.declared.renaming.renamer.Renamed.{Renamed}
use Rattle.wac_merge_resources.specs.declared.renaming.renamer.Renaming.{Renaming}
use Rattle.wac_merge_tables.specs.declared.tables.tasks.Task.{Task}
use Rattle.wac_merge_tables.specs.declared.tables.tasks.Task.TheVariants.{Open, Close}

-- The second value type is the first, rewritten.
abbrev pub IsRenamedValue : Collection → Collection → (ResourceId → ResourceId) → ValueType → ValueType → Type 0
IsRenamedValue c m f v w = IsRenamed c m f (ty.Value v) (ty.Value w)

-- The second value type is the first, rewritten in this collection with what was made.
abbrev pub IsRenamedIn : Renaming → Collection → Made → ValueType → ValueType → Type 0
IsRenamedIn s m made v w = IsRenamedValue s.types.now m (becomes s) v w × IsMadeOf s.types.now (becomes s) s.became.now.named.now made v w

-- The rewritten value type of one of the collection.
abbrev pub IsBecome : Renaming → Renamed → ValueType → ValueType → Type 0
IsBecome s memo v w = (holds_value s.types.now v ≡ true) × (value_in s memo v ≡ Some w)

-- Rewriting leaves a value type unchanged.
abbrev pub Stays : Renaming → Renamed → ValueType → Type 0
Stays s memo v = value_in s memo v ≡ Some v

-- Rewriting leaves each value type unchanged.
abbrev pub AllStay : Renaming → Renamed → List ValueType → Type 0
AllStay s memo vs = AllByRecursion (Stays s memo) vs

-- The memo records one more rewritten definition, or one more rewritten function type.
pub record HasDefinedToo (old : Renamed) (d e : DefinedTypeId) (new : Renamed) : Type 0 where
  pub defined : (k : DefinedTypeId) → defined_in new k ≡ cond (nat_eq d.0 k.0) (Some e) (defined_in old k)
  pub funcs : new.funcs ≡ old.funcs
  pub made : new.made ≡ old.made

pub record HasFuncToo (old : Renamed) (f g : FuncTypeId) (new : Renamed) : Type 0 where
  pub funcs : (k : FuncTypeId) → func_in new k ≡ cond (nat_eq f.0 k.0) (Some g) (func_in old k)
  pub defined : new.defined ≡ old.defined
  pub made : new.made ≡ old.made

-- The memo differs in its buffer for tasks only.
pub record HasSame (old new : Renamed) : Type 0 where
  pub defined : new.defined ≡ old.defined
  pub funcs : new.funcs ≡ old.funcs
  pub made : new.made ≡ old.made

-- Both are none, or both are value types that correspond.
abbrev pub GoTogether : (ValueType → ValueType → Type 0) → Option ValueType → Option ValueType → Type 0
GoTogether R None None = Unit {0}
GoTogether R (Some v) (Some w) = R v w
GoTogether R _ _ = ⊥

-- Fields or cases have the same names, and their value types correspond.
abbrev pub FieldsGoTogether : (ValueType → ValueType → Type 0) → List (Name × ValueType) → List (Name × ValueType) → Type 0
FieldsGoTogether R = AllZip (λ e f. (f.0 ≡ e.0) × R e.1 f.1)

abbrev pub CasesGoTogether : (ValueType → ValueType → Type 0) → List (Name × Option ValueType) → List (Name × Option ValueType) → Type 0
CasesGoTogether R = AllZip (λ e f. (f.0 ≡ e.0) × GoTogether R e.1 f.1)

-- Definitions have one constructor and the same names, and their value types correspond.
pub data HaveOneShape (R : ValueType → ValueType → Type 0) (d e : DefinedType) : Type 0 where
  tuples : (vs ws : List ValueType) → d ≡ def.Tuple vs → e ≡ def.Tuple ws → AllZip R vs ws → HaveOneShape R d e
  lists : (v w : ValueType) → d ≡ def.List v → e ≡ def.List w → R v w → HaveOneShape R d e
  fixed_lists : (v w : ValueType) (n : ℕ) → d ≡ def.FixedSizeList v n → e ≡ def.FixedSizeList w n → R v w → HaveOneShape R d e
  options : (v w : ValueType) → d ≡ def.Option v → e ≡ def.Option w → R v w → HaveOneShape R d e
  results : (v w p q : Option ValueType) → d ≡ def.Result v p → e ≡ def.Result w q → GoTogether R v w → GoTogether R p q → HaveOneShape R d e
  variants : (x y : Variant) → d ≡ def.Variant x → e ≡ def.Variant y → CasesGoTogether R x.cases y.cases → HaveOneShape R d e
  records : (x y : Record) → d ≡ def.Record x → e ≡ def.Record y → FieldsGoTogether R x.fields y.fields → HaveOneShape R d e
  flags : (x y : Flags) → d ≡ def.Flags x → e ≡ def.Flags y → y.0 ≡ x.0 → HaveOneShape R d e
  enums : (x y : Enum) → d ≡ def.Enum x → e ≡ def.Enum y → y.0 ≡ x.0 → HaveOneShape R d e
  aliases : (v w : ValueType) → d ≡ def.Alias v → e ≡ def.Alias w → R v w → HaveOneShape R d e
  streams : (v w : Option ValueType) → d ≡ def.Stream v → e ≡ def.Stream w → GoTogether R v w → HaveOneShape R d e
  futures : (v w : Option ValueType) → d ≡ def.Future v → e ≡ def.Future w → GoTogether R v w → HaveOneShape R d e

-- Function types have the same parameter names, and their value types correspond.
pub record HaveOneFuncShape (R : ValueType → ValueType → Type 0) (x y : FuncType) : Type 0 where
  pub params : FieldsGoTogether R x.params y.params
  pub result : GoTogether R x.result y.result
  pub sort : y.is_async ≡ x.is_async

-- All that was rewritten and made before is still recorded.
pub record IsMore (old new : Renamed) : Type 0 where
  pub defined : (d : DefinedTypeId) → IsSome (defined_in old d) → IsSome (defined_in new d)
  pub made : StayMade old.made new.made

-- A value type can be rewritten without a task: if it is a definition, its rewritten form is recorded.
abbrev pub IsReady : Renamed → ValueType → Type 0
IsReady memo (val.Primitive p) = Unit {0}
IsReady memo (val.Own r) = Unit {0}
IsReady memo (val.Borrow r) = Unit {0}
IsReady memo (val.Defined d) = IsSome (defined_in memo d)

abbrev pub AreReady : Renamed → List ValueType → Type 0
AreReady memo vs = AllByRecursion (IsReady memo) vs

-- The definition of a task was rewritten.
abbrev pub IsDone : Renamed → Task → Type 0
IsDone memo t = IsSome (defined_in memo (task_id t))

-- A task that closes a definition needs its parts rewritten.
abbrev pub MayBeDone : Collection → Renamed → Task → Type 0
MayBeDone c memo (Open d) = Unit {0}
MayBeDone c memo (Close d) = AreReady memo (parts_of c d)

-- A task was performed: its definition was rewritten, or it was pushed again with its parts after it.
pub data Did (c : Collection) (t : Task) (old new : Renamed) (left now : List Task) : Type 0 where
  renamed : IsMore old new → IsDone new t → now ≡ left → Did c t old new left now
  put_off : (d : DefinedTypeId) → t ≡ Open d → new ≡ old → now ≡ left ++ Close d ∷ openings (parts_of c d) → Did c t old new left now

-- A value type can be rewritten, or a task for its definition waits.
abbrev pub IsAwaited : Renamed → List Task → ValueType → Type 0
IsAwaited memo ts (val.Primitive p) = Unit {0}
IsAwaited memo ts (val.Own r) = Unit {0}
IsAwaited memo ts (val.Borrow r) = Unit {0}
IsAwaited memo ts (val.Defined d) = IsSome (defined_in memo d) ⊎ HasTask d ts

-- The parts of each definition to close were rewritten, or their tasks come after it.
abbrev pub AreCovered : Collection → Renamed → List Task → Type 0
AreCovered c memo [] = Unit {0}
AreCovered c memo (Open d ∷ ts) = AreCovered c memo ts
AreCovered c memo (Close d ∷ ts) = AllByRecursion (IsAwaited memo ts) (parts_of c d) × AreCovered c memo ts

-- The invariant of the loop over tasks: each wanted definition was rewritten or waits.
pub record IsUnderWay (s : Renaming) (first : Collection) (wanted : List Task) (m : Collection) (memo : Renamed) (tasks : List Task) : Type 0 where
  pub extended : IsExtended first m
  pub right : AreRenamed m s memo
  pub held : AllByRecursion (IsHeldTask s.types.now) tasks
  pub covered : AreCovered s.types.now memo tasks
  pub awaited : AllByRecursion (λ w. IsAwaited memo tasks (val.Defined (task_id w))) wanted
