-- Value types and function types as they are written, compared with those of the collection part by part.
use Rattle.std.specs.Prelude.{ℕ, suc, zero, ◌≡◌, List, [], ◌∷◌, Option, Some, None}
use Rattle.std.specs.List.{AllZip}
use Rattle.wac_types_shapes.specs.primitives.Name.{Name}
use Rattle.wac_types_shapes.specs.declared.shapes.component.ResourceId.{ResourceId}
use Rattle.wac_types_shapes.specs.declared.shapes.component.FuncType.{FuncType}
use Rattle.wac_types_shapes.specs.declared.shapes.component.DefinedType.{DefinedType}
use Rattle.wac_types_shapes.specs.declared.shapes.component.DefinedType.TheVariants as def
use Rattle.wac_types_shapes.specs.declared.shapes.component.ValueType.{ValueType}
use Rattle.wac_types_shapes.specs.declared.shapes.component.«Type».{«Type» as AnyType}
use Rattle.wac_types_shapes.specs.declared.shapes.component.«Type».TheVariants as ty
use Rattle.wac_types_shapes.specs.primitives.Tree.{Tree}
use Rattle.wac_types_collection.specs.collection.Collection.{Collection}
use Rattle.wac_types_collection.specs.collection.Bound.{Bindings}
use Rattle.wac_binary.specs.declared.types.ComponentValType.{ComponentValType}
use Rattle.wac_binary.specs.Items.{ValueDef, record_def, variant_def, list_def, fixed_list_def, tuple_def, flags_def, enum_def, option_def, result_def, stream_def, future_def, TypeDef, func_def}
use Rattle.wac_binary.specs.Unfold.{Scope}
use Rattle.wac_encode_stacks.specs.Scopes.{Where, Stack}
use Rattle.wac_encode_stacks.specs.Good.{Means, IsHeld}

-- A value type that is written in this scope has the tree of a type of the collection.
abbrev pub Is : Collection → Bindings → Scope → AnyType → ComponentValType → Type 0
Is c m e a x = (t : Tree) × IsHeld c m a t × Means e t x

abbrev pub MaybeIs : Collection → Bindings → Scope → Option ValueType → Option ComponentValType → Type 0
MaybeIs c m e None None = Unit {0}
MaybeIs c m e (Some v) (Some x) = Is c m e (ty.Value v) x
MaybeIs c m e _ _ = ⊥

abbrev pub AreValues : Collection → Bindings → Scope → List ValueType → List ComponentValType → Type 0
AreValues c m e vs xs = AllZip (λ v x. Is c m e (ty.Value v) x) vs xs

abbrev pub AreFields : Collection → Bindings → Scope → List (Name × ValueType) → List (Name × ComponentValType) → Type 0
AreFields c m e vs xs = AllZip (λ v x. (x.0 ≡ v.0) × Is c m e (ty.Value v.1) x.1) vs xs

abbrev pub AreCases : Collection → Bindings → Scope → List (Name × Option ValueType) → List (Name × Option ComponentValType) → Type 0
AreCases c m e vs xs = AllZip (λ v x. (x.0 ≡ v.0) × MaybeIs c m e v.1 x.1) vs xs

-- A value type definition is written with parts that are in scope. An alias has no definition of its own.
abbrev pub IsWritten : Collection → Bindings → Scope → DefinedType → ValueDef → Type 0
IsWritten c m e (def.Tuple vs) (tuple_def xs) = AreValues c m e vs xs
IsWritten c m e (def.List v) (list_def x) = Is c m e (ty.Value v) x
IsWritten c m e (def.FixedSizeList v n) (fixed_list_def x k) = (k ≡ n) × Is c m e (ty.Value v) x
IsWritten c m e (def.Option v) (option_def x) = Is c m e (ty.Value v) x
IsWritten c m e (def.Result ok err) (result_def x y) = MaybeIs c m e ok x × MaybeIs c m e err y
IsWritten c m e (def.Variant v) (variant_def xs) = AreCases c m e v.cases xs
IsWritten c m e (def.Record v) (record_def xs) = AreFields c m e v.fields xs
IsWritten c m e (def.Flags names) (flags_def xs) = xs ≡ names.0
IsWritten c m e (def.Enum names) (enum_def xs) = xs ≡ names.0
IsWritten c m e (def.Stream v) (stream_def x) = MaybeIs c m e v x
IsWritten c m e (def.Future v) (future_def x) = MaybeIs c m e v x
IsWritten c m e _ _ = ⊥

-- A function type is written with parts that are in scope.
abbrev pub IsWrittenFunc : Collection → Bindings → Scope → FuncType → TypeDef → Type 0
IsWrittenFunc c m e f (func_def is_async xs y) = (is_async ≡ f.is_async) × AreFields c m e f.params xs × MaybeIs c m e f.result y
IsWrittenFunc c m e f _ = ⊥

-- The innermost scope that records the resource is k scopes out, and records it at the place w.
abbrev pub IsReached : Stack → ResourceId → ℕ → Where → Type 0
IsReached [] r k w = ⊥
IsReached (o ∷ os) r zero w = o.binds r ≡ Some w
IsReached (o ∷ os) r (suc k) w = (o.binds r ≡ None) × IsReached os r k w
