-- Laws of the steps of a type encoder. Resources are bound by m in the innermost scope and by ms in enclosing scopes.
use Rattle.std.specs.Prelude.{ℕ, suc, ◌≡◌, List, ◌∷◌, Some}
use Rattle.wac_types_shapes.specs.primitives.Name.{Name}
use Rattle.wac_types_shapes.specs.declared.primitives.component.PrimitiveType.{PrimitiveType}
use Rattle.wac_types_shapes.specs.declared.shapes.component.ResourceId.{ResourceId}
use Rattle.wac_types_shapes.specs.declared.shapes.component.DefinedTypeId.{DefinedTypeId}
use Rattle.wac_types_shapes.specs.declared.shapes.component.FuncTypeId.{FuncTypeId}
use Rattle.wac_types_shapes.specs.declared.shapes.component.FuncType.{FuncType}
use Rattle.wac_types_shapes.specs.declared.shapes.component.DefinedType.{DefinedType}
use Rattle.wac_types_shapes.specs.declared.shapes.component.ValueType.{ValueType}
use Rattle.wac_types_shapes.specs.declared.shapes.component.ValueType.TheVariants as val
use Rattle.wac_types_shapes.specs.declared.shapes.component.«Type».{«Type» as AnyType}
use Rattle.wac_types_shapes.specs.declared.shapes.component.«Type».TheVariants as ty
use Rattle.wac_types_shapes.specs.primitives.Tree.{Leaf, Tree, resource, primitive, own, borrow, out_by, seen_from}
use Rattle.wac_types_collection.specs.collection.Collection.{Collection, IsWellFormed, item_at}
use Rattle.wac_types_collection.specs.collection.Held.{resolved}
use Rattle.wac_types_collection.specs.collection.Aliases.{value_resolved}
use Rattle.wac_types_collection.specs.collection.Bound.{Bindings, held_tree}
use Rattle.wac_binary.specs.declared.sorts.Sort.TheVariants as s
use Rattle.wac_binary.specs.declared.types.ComponentValType.{ComponentValType}
use Rattle.wac_binary.specs.declared.types.ComponentValType.TheVariants.{Index}
use Rattle.wac_binary.specs.Items.{ValueDef, own_def, borrow_def, primitive_def, TypeDef, value_def, export_alias, outer_alias}
use Rattle.wac_binary.specs.Unfold.{scope_at}
use Rattle.wac_binary.specs.HasMeaning.{IsValue, IsFunction, IsType}
use Rattle.wac_encode_stacks.specs.Scopes.{Where, at_type, at_export, How, defined, Indexed, Open, Stack, env, envs, next_type, with_def, with_alias_of, bind_at, index_at, export_at}
use Rattle.wac_encode_stacks.specs.Good.{At, Stands, IsHeld, IsOf, Good, top, Onward, innermost}
use Rattle.wac_encode_stacks.specs.private.Parts.{Is, IsWritten, IsWrittenFunc, IsReached}

-- A step after which the type index i of the innermost scope refers to the tree t.
abbrev pub Adds : Collection → List Bindings → Stack → Stack → ℕ → Tree → Type 0
Adds c ms st st' i t = Onward c ms st st' × At ((innermost st').types) i t

-- A value type definition with parts in scope may be added and recorded; its index refers to that value type.
abbrev pub DefinesValue : Type 0
DefinesValue = (c : Collection) → IsWellFormed c → (m : Bindings) (ms : List Bindings) (o : Open) (os : Stack) (d : DefinedTypeId) (x : DefinedType) (y : ValueDef)
    → Good c (m ∷ ms) (o ∷ os) → item_at c.defined d.0 ≡ Some x → IsWritten c m (env o (envs os)) x y
    → (t : Tree) × IsHeld c m (ty.Value (val.Defined d)) t × IsValue t × Adds c (m ∷ ms) (o ∷ os) (index_at (ty.Value (val.Defined d)) defined (next_type o) (with_def (value_def y) o) ∷ os) (next_type o) t

-- A function type with parts in scope may be added and recorded; its index refers to that function type.
abbrev pub DefinesFunc : Type 0
DefinesFunc = (c : Collection) → IsWellFormed c → (m : Bindings) (ms : List Bindings) (o : Open) (os : Stack) (f : FuncTypeId) (x : FuncType) (d : TypeDef)
    → Good c (m ∷ ms) (o ∷ os) → item_at c.funcs f.0 ≡ Some x → IsWrittenFunc c m (env o (envs os)) x d
    → (t : Tree) × IsHeld c m (ty.Func f) t × IsFunction t × Adds c (m ∷ ms) (o ∷ os) (index_at (ty.Func f) defined (next_type o) (with_def d o) ∷ os) (next_type o) t

-- A primitive type may be defined under a type index of its own.
abbrev pub DefinesPrimitive : Type 0
DefinesPrimitive = (c : Collection) (m : Bindings) (ms : List Bindings) (o : Open) (os : Stack) (p : PrimitiveType)
    → Good c (m ∷ ms) (o ∷ os) → Adds c (m ∷ ms) (o ∷ os) (with_def (value_def (primitive_def p)) o ∷ os) (next_type o) (primitive p)

-- Handles to a resource with a type index may be defined and recorded.
abbrev pub DefinesHandles : Type 0
DefinesHandles = (c : Collection) (m : Bindings) (ms : List Bindings) (o : Open) (os : Stack) (r : ResourceId) (i : ℕ) (l : Leaf)
    → Good c (m ∷ ms) (o ∷ os) → m (resolved c r) ≡ Some l → At ((env o (envs os)).types) i (resource l)
    → (IsHeld c m (ty.Value (val.Own r)) (own l) × Adds c (m ∷ ms) (o ∷ os) (index_at (ty.Value (val.Own r)) defined (next_type o) (with_def (value_def (own_def i)) o) ∷ os) (next_type o) (own l))
    × (IsHeld c m (ty.Value (val.Borrow r)) (borrow l) × Adds c (m ∷ ms) (o ∷ os) (index_at (ty.Value (val.Borrow r)) defined (next_type o) (with_def (value_def (borrow_def i)) o) ∷ os) (next_type o) (borrow l))

-- A resource is at the place where the innermost scope that records it has it, as the leaf to which it is bound.
abbrev pub Reaches : Type 0
Reaches = (c : Collection) (ms : List Bindings) (st : Stack) (r : ResourceId) (k : ℕ) (w : Where)
    → Good c ms st → IsReached st r k w
    → (l : Leaf) × (top ms r ≡ Some (out_by k l)) × Stands (scope_at (envs st) k) (resource l) w

-- A resource with an index k + 1 scopes out may be aliased here, and recorded at the alias.
abbrev pub BringsResource : Type 0
BringsResource = (c : Collection) (m : Bindings) (ms : List Bindings) (o : Open) (os : Stack) (r : ResourceId) (k i : ℕ) (l : Leaf)
    → Good c (m ∷ ms) (o ∷ os) → m r ≡ Some (out_by (suc k) l) → At ((scope_at (envs os) k).types) i (resource l)
    → Adds c (m ∷ ms) (o ∷ os) (bind_at r (at_type (next_type o)) (with_alias_of (outer_alias s.Type (suc k) i) o) ∷ os) (next_type o) (resource (out_by (suc k) l))

-- Any type with an index k + 1 scopes out may be aliased here; the alias has its tree as seen from here.
abbrev pub BringsType : Type 0
BringsType = (c : Collection) (m : Bindings) (ms : List Bindings) (o : Open) (os : Stack) (k i : ℕ) (t : Tree)
    → Good c (m ∷ ms) (o ∷ os) → IsType t → At ((scope_at (envs os) k).types) i t
    → Adds c (m ∷ ms) (o ∷ os) (with_alias_of (outer_alias s.Type (suc k) i) o ∷ os) (next_type o) (seen_from (suc k) t)

-- A resource that is an instance's export may be aliased, and recorded at the alias.
abbrev pub SettlesResource : Type 0
SettlesResource = (c : Collection) (m : Bindings) (ms : List Bindings) (o : Open) (os : Stack) (r : ResourceId) (j : ℕ) (n : Name) (l : Leaf)
    → Good c (m ∷ ms) (o ∷ os) → m r ≡ Some l → Stands (env o (envs os)) (resource l) (at_export j n)
    → Adds c (m ∷ ms) (o ∷ os) (bind_at r (at_type (next_type o)) (with_alias_of (export_alias s.Type j n) o) ∷ os) (next_type o) (resource l)

-- A value type that is recorded as an instance's export may be aliased, and recorded at the alias.
abbrev pub SettlesValue : Type 0
SettlesValue = (c : Collection) (m : Bindings) (ms : List Bindings) (o : Open) (os : Stack) (d : DefinedTypeId) (j : ℕ) (n : Name)
    → Good c (m ∷ ms) (o ∷ os) → o.exports d ≡ Some (at_export j n)
    → (t : Tree) × IsHeld c m (ty.Value (val.Defined d)) t × IsValue t × Adds c (m ∷ ms) (o ∷ os) (export_at d (at_type (next_type o)) (with_alias_of (export_alias s.Type j n) o) ∷ os) (next_type o) t

-- A type may be recorded at an index that refers to its tree.
abbrev pub RecordsType : Type 0
RecordsType = (c : Collection) (m : Bindings) (ms : List Bindings) (o : Open) (os : Stack) (a : AnyType) (how : How) (i : ℕ) (t : Tree)
    → Good c (m ∷ ms) (o ∷ os) → IsHeld c m a t → IsOf a t → At ((env o (envs os)).types) i t → Onward c (m ∷ ms) (o ∷ os) (index_at a how i o ∷ os)

-- A step in the enclosing scopes leaves the innermost scope good.
abbrev pub GoesOnAround : Type 0
GoesOnAround = (c : Collection) (m : Bindings) (ms : List Bindings) (o : Open) (os os' : Stack)
    → Good c (m ∷ ms) (o ∷ os) → Onward c ms os os' → Onward c (m ∷ ms) (o ∷ os) (o ∷ os')

-- Two steps make one step.
abbrev pub Follows : Type 0
Follows = (c : Collection) (ms : List Bindings) (a b d : Stack) → Onward c ms a b → Onward c ms b d → Onward c ms a d

-- After a step, a written value type still has the tree of the same type.
abbrev pub StaysIs : Type 0
StaysIs = (c : Collection) (ms : List Bindings) (st st' : Stack) (a : AnyType) (x : ComponentValType) → Onward c ms st st' → Is c (top ms) (innermost st) a x → Is c (top ms) (innermost st') a x

-- A recorded value type may be written by its index.
abbrev pub IsRecorded : Type 0
IsRecorded = (c : Collection) (m : Bindings) (ms : List Bindings) (o : Open) (os : Stack) (v : ValueType) (x : Indexed)
    → Good c (m ∷ ms) (o ∷ os) → o.types (ty.Value v) ≡ Some x → Is c m (env o (envs os)) (ty.Value v) (Index x.index)

-- A value type that is recorded at an alias of an instance's export may be written by the alias's index.
abbrev pub IsExported : Type 0
IsExported = (c : Collection) (m : Bindings) (ms : List Bindings) (o : Open) (os : Stack) (d : DefinedTypeId) (i : ℕ)
    → Good c (m ∷ ms) (o ∷ os) → o.exports d ≡ Some (at_type i) → Is c m (env o (envs os)) (ty.Value (val.Defined d)) (Index i)

-- At the recorded index of a type is its tree.
abbrev pub StandsRecorded : Type 0
StandsRecorded = (c : Collection) (m : Bindings) (ms : List Bindings) (o : Open) (os : Stack) (a : AnyType) (x : Indexed)
    → Good c (m ∷ ms) (o ∷ os) → o.types a ≡ Some x → (t : Tree) × IsHeld c m a t × IsOf a t × At ((env o (envs os)).types) x.index t

-- A tree of the type under m is the type's tree.
abbrev pub IsItsTree : Type 0
IsItsTree = (c : Collection) (m : Bindings) (a : AnyType) (t : Tree) → IsHeld c m a t → held_tree c m a ≡ t

-- An alias of a value type has the tree of the type at the end of its chain of aliases.
abbrev pub IsItsEnd : Type 0
IsItsEnd = (c : Collection) → IsWellFormed c → (m : Bindings) (v : ValueType) (t : Tree) → IsHeld c m (ty.Value (value_resolved c v)) t → IsHeld c m (ty.Value v) t

-- A good stack that does not change makes a step to itself.
abbrev pub StaysOnward : Type 0
StaysOnward = (c : Collection) (ms : List Bindings) (st : Stack) → Good c ms st → Onward c ms st st
