-- Tasks that number the definitions that a type reaches. Only contracts inside the merge cite this file.
use Rattle.std.specs.Prelude.{ℕ, zero, suc, ◌+◌, ◌≡◌, ◌⊎◌, List, [], ◌∷◌, ◌++◌}
use Rattle.wac_types_shapes.specs.primitives.Name.{option_case}
use Rattle.wac_types_collection.specs.collection.Collection.{Collection, HasDefined, item_at, defined_values}
use Rattle.wac_types_shapes.specs.declared.shapes.component.DefinedTypeId.{DefinedTypeId}
use Rattle.wac_types_shapes.specs.declared.shapes.component.ValueType.{ValueType}
use Rattle.wac_types_shapes.specs.declared.shapes.component.ValueType.TheVariants as val
use Rattle.wac_merge_tables.specs.declared.tables.tasks.Task.{Task}
use Rattle.wac_merge_tables.specs.declared.tables.tasks.Task.TheVariants.{Open, Close}

-- The definition of a task.
abbrev pub task_id : Task → DefinedTypeId
task_id (Open d) = d
task_id (Close d) = d

-- The tasks that open the definition of a value type.
abbrev pub opening : ValueType → List Task
opening (val.Primitive p) = []
opening (val.Own r) = []
opening (val.Borrow r) = []
opening (val.Defined d) = Open d ∷ []

-- The tasks that open the definitions of value types.
abbrev pub openings : List ValueType → List Task
openings [] = []
openings (v ∷ vs) = opening v ++ openings vs

-- The parts of a definition of the collection.
abbrev pub parts_of : Collection → DefinedTypeId → List ValueType
parts_of c d = option_case (item_at c.defined d.0) [] defined_values

-- The sum of f over a list.
abbrev pub total : {A : Type 0} → (A → ℕ) → List A → ℕ
total f [] = 0
total f (x ∷ xs) = f x + total f xs

-- The number of tasks that opening a definition leads to, down to depth k.
abbrev pub weight_to : ℕ → Collection → ValueType → ℕ
weight_to zero c v = 0
weight_to (suc k) c (val.Defined d) = suc (suc (total (weight_to k c) (parts_of c d)))
weight_to (suc k) c v = 0

-- The number of tasks that a task leads to, itself included.
abbrev pub task_weight : Collection → Task → ℕ
task_weight c (Open d) = weight_to (suc d.0) c (val.Defined d)
task_weight c (Close d) = 1

abbrev pub tasks_weight : Collection → List Task → ℕ
tasks_weight c ts = total (task_weight c) ts

-- The collection holds the definition of the task.
abbrev pub IsHeldTask : Collection → Task → Type 0
IsHeldTask c t = HasDefined c (task_id t)

-- The task opens its definition.
abbrev pub IsOpening : Task → Type 0
IsOpening (Open d) = Unit {0}
IsOpening (Close d) = ⊥

-- One of the tasks has this definition.
abbrev pub HasTask : DefinedTypeId → List Task → Type 0
HasTask d [] = ⊥
HasTask d (t ∷ ts) = (task_id t ≡ d) ⊎ HasTask d ts
