-- Types of a scope in an interning table. Only contracts inside the merge cite this file.
use Rattle.std.specs.Prelude.{ℕ, ◌≡◌, ◌<◌, ◌++◌, ◌⊎◌, cond, nat_eq, List, [], ◌∷◌, length, Option, Some, None, IsSome}
use Rattle.std.specs.Borrow.{Bor}
use Rattle.std.specs.List.{AllByRecursion, AllZip}
use Rattle.wac_types_shapes.specs.primitives.Name.{Name}
use Rattle.wac_types_shapes.specs.primitives.Tree.{TypeTree}
use Rattle.wac_types_collection.specs.collection.Collection.{Collection}
use Rattle.wac_types_collection.specs.collection.Held.{Names, unfolded}
use Rattle.wac_types_collection.specs.subtyping.Called.{Called, by_binding}
use Rattle.wac_types_shapes.specs.declared.shapes.component.DefinedType.{DefinedType}
use Rattle.wac_types_shapes.specs.declared.shapes.component.DefinedType.TheVariants as def
use Rattle.wac_types_shapes.specs.declared.shapes.component.DefinedTypeId.{DefinedTypeId}
use Rattle.wac_types_shapes.specs.declared.shapes.component.FuncTypeId.{FuncTypeId}
use Rattle.wac_types_shapes.specs.declared.shapes.component.ValueType.{ValueType}
use Rattle.wac_types_shapes.specs.declared.shapes.component.ValueType.TheVariants as val
use Rattle.wac_types_shapes.specs.declared.shapes.component.«Type».{«Type» as AnyType}
use Rattle.wac_types_shapes.specs.declared.shapes.component.«Type».TheVariants as ty
use Rattle.wac_merge_trees.specs.declared.coding.memo.Memo.{Memo}
use Rattle.wac_merge_trees.specs.declared.coding.coder.Source.{Source}
use Rattle.wac_merge_trees.specs.declared.coding.coder.Meaning.{Meaning}
use Rattle.wac_merge_trees.specs.declared.coding.coder.Meaning.TheVariants as meaning
use Rattle.wac_merge_tables.specs.declared.tables.tasks.Task.{Task}
use Rattle.wac_merge_tables.specs.declared.tables.tasks.Task.TheVariants.{Open, Close}
use Rattle.wac_merge_tables.specs.private.tables.Nodes.{Node, mentions, IsSorted, node_tree, tree_at}
use Rattle.wac_merge_tables.specs.private.tables.NodeViews.{node_view}
use Rattle.wac_merge_trees.specs.private.coding.CallsView.{names_in}
use Rattle.wac_merge_tables.specs.private.tables.Numbers.{number_at}
use Rattle.wac_merge_tables.specs.private.tables.Tasks.{task_id, parts_of, openings, HasTask, IsHeldTask}

-- The tree of each type, with resources named in this way.
unfoldable pub tree_in : Collection → Names Called → AnyType → TypeTree Called
tree_in c m t = unfolded (by_binding c) c m t

-- The tree of each type of a scope.
abbrev pub source_tree : Source → AnyType → TypeTree Called
source_tree s = tree_in s.types.now (names_in s.types.now s.calls.now)

-- The tree of each value type.
abbrev pub values_of : (AnyType → TypeTree Called) → ValueType → TypeTree Called
values_of t v = t (ty.Value v)

-- The table may have more nodes, appended, and the trees of the old nodes are the same.
pub record IsGrown (old new : List Node) : Type 0 where
  pub more : List Node
  pub is : new ≡ old ++ more
  pub trees : (i : ℕ) → i < length old → tree_at new i ≡ tree_at old i

-- The node with this number has this tree.
pub record HasTree (ns : List Node) (t : TypeTree Called) (i : ℕ) : Type 0 where
  pub there : i < length ns
  pub is : tree_at ns i ≡ t

-- The number of a definition in the memo.
abbrev pub defined_number : Memo → DefinedTypeId → Option ℕ
defined_number memo d = number_at memo.defined d.0

-- The number of a function type in the memo.
abbrev pub func_number : Memo → FuncTypeId → Option ℕ
func_number memo f = number_at memo.funcs f.0

-- The new memo has the number of one more definition.
pub record HasDefinedToo (old : Memo) (d : DefinedTypeId) (n : ℕ) (new : Memo) : Type 0 where
  pub defined : (k : DefinedTypeId) → defined_number new k ≡ cond (nat_eq d.0 k.0) (Some n) (defined_number old k)
  pub funcs : new.funcs ≡ old.funcs

-- The new memo has the number of one more function type.
pub record HasFuncToo (old : Memo) (f : FuncTypeId) (n : ℕ) (new : Memo) : Type 0 where
  pub funcs : (k : FuncTypeId) → func_number new k ≡ cond (nat_eq f.0 k.0) (Some n) (func_number old k)
  pub defined : new.defined ≡ old.defined

-- The two memos have the same numbers.
pub record HasSame (old new : Memo) : Type 0 where
  pub defined : new.defined ≡ old.defined
  pub funcs : new.funcs ≡ old.funcs

-- Each number in the memo has the tree of its type.
pub record IsRight (t : AnyType → TypeTree Called) (memo : Memo) (ns : List Node) : Type 0 where
  pub defined : (d : DefinedTypeId) (n : ℕ) → defined_number memo d ≡ Some n → HasTree ns (t (ty.Value (val.Defined d))) n
  pub funcs : (f : FuncTypeId) (n : ℕ) → func_number memo f ≡ Some n → HasTree ns (t (ty.Func f)) n

-- A definition that had a number has one.
pub record IsMore (old new : Memo) : Type 0 where
  pub defined : (d : DefinedTypeId) → IsSome (defined_number old d) → IsSome (defined_number new d)

-- The value type is no definition, or it has a number.
abbrev pub IsReady : Memo → ValueType → Type 0
IsReady memo (val.Primitive p) = Unit {0}
IsReady memo (val.Own r) = Unit {0}
IsReady memo (val.Borrow r) = Unit {0}
IsReady memo (val.Defined d) = IsSome (defined_number memo d)

abbrev pub AreReady : Memo → List ValueType → Type 0
AreReady memo vs = AllByRecursion (IsReady memo) vs

-- The part of a list, option or alias.
abbrev pub only_part : DefinedType → Option ValueType
only_part (def.Tuple vs) = None
only_part (def.List v) = Some v
only_part (def.FixedSizeList v n) = Some v
only_part (def.Option v) = Some v
only_part (def.Result ok err) = None
only_part (def.Variant v) = None
only_part (def.Record r) = None
only_part (def.Flags names) = None
only_part (def.Enum names) = None
only_part (def.Alias v) = Some v
only_part (def.Stream v) = None
only_part (def.Future v) = None

-- The definition of the task has a number.
abbrev pub IsDone : Memo → Task → Type 0
IsDone memo t = IsSome (defined_number memo (task_id t))

-- A task that closes a definition needs the numbers of its parts.
abbrev pub MayBeDone : Collection → Memo → Task → Type 0
MayBeDone c memo (Open d) = Unit {0}
MayBeDone c memo (Close d) = AreReady memo (parts_of c d)

-- The task was performed: its definition has a number, or it was pushed again with its parts after it.
pub data Did (c : Collection) (t : Task) (old new : Memo) (left now : List Task) : Type 0 where
  numbered : IsMore old new → IsDone new t → now ≡ left → Did c t old new left now
  put_off : (d : DefinedTypeId) → t ≡ Open d → new ≡ old → now ≡ left ++ Close d ∷ openings (parts_of c d) → Did c t old new left now

-- The number of an optional value type.
abbrev pub HasOption : List Node → (ValueType → TypeTree Called) → Option ValueType → Option ℕ → Type 0
HasOption ns t None None = Unit {0}
HasOption ns t (Some v) (Some i) = HasTree ns (t v) i
HasOption ns t _ _ = ⊥

-- The numbers of value types in order.
abbrev pub AreParts : List Node → (ValueType → TypeTree Called) → List ValueType → List ℕ → Type 0
AreParts ns t = AllZip (λ v i. HasTree ns (t v) i)

-- The names of fields or parameters and the numbers of their types.
abbrev pub AreFields : List Node → (ValueType → TypeTree Called) → List (Name × ValueType) → List (Bor (List ℕ) × ℕ) → Type 0
AreFields ns t = AllZip (λ f e. (e.0.now ≡ f.0) × HasTree ns (t f.1) e.1)

-- The names of cases and the numbers of their payloads.
abbrev pub AreCases : List Node → (ValueType → TypeTree Called) → List (Name × Option ValueType) → List (Bor (List ℕ) × Option ℕ) → Type 0
AreCases ns t = AllZip (λ f e. (e.0.now ≡ f.0) × HasOption ns t f.1 e.1)

-- The node may be added to the table, and has this tree.
pub record Fits (ns : List Node) (t : TypeTree Called) (n : Node) : Type 0 where
  pub lower : AllByRecursion (λ m. m < length ns) (mentions n)
  pub sorted : IsSorted n
  pub is : node_tree (tree_at ns) n ≡ t

-- The definition has this node, or the number of the type that it is an alias of.
abbrev pub Means : List Node → TypeTree Called → Meaning → Type 0
Means ns t (meaning.New n) = Fits ns t (node_view n)
Means ns t (meaning.Same i) = HasTree ns t i

-- A value type has a number, or its definition has a task.
abbrev pub IsAwaited : Memo → List Task → ValueType → Type 0
IsAwaited memo ts (val.Primitive p) = Unit {0}
IsAwaited memo ts (val.Own r) = Unit {0}
IsAwaited memo ts (val.Borrow r) = Unit {0}
IsAwaited memo ts (val.Defined d) = IsSome (defined_number memo d) ⊎ HasTask d ts

-- The parts of a definition that is to be closed have numbers, or later tasks.
abbrev pub AreCovered : Collection → Memo → List Task → Type 0
AreCovered c memo [] = Unit {0}
AreCovered c memo (Open d ∷ ts) = AreCovered c memo ts
AreCovered c memo (Close d ∷ ts) = AllByRecursion (IsAwaited memo ts) (parts_of c d) × AreCovered c memo ts

-- The invariant while tasks are performed: each wanted definition has a number or a task.
pub record IsUnderWay (c : Collection) (t : AnyType → TypeTree Called) (first : List Node) (wanted : List Task) (ns : List Node) (memo : Memo) (tasks : List Task) : Type 0 where
  pub grown : IsGrown first ns
  pub right : IsRight t memo ns
  pub held : AllByRecursion (IsHeldTask c) tasks
  pub covered : AreCovered c memo tasks
  pub awaited : AllByRecursion (λ w. IsAwaited memo tasks (val.Defined (task_id w))) wanted
