-- Definitions whose parts are written one after the other. Only contracts of private functions use this.
use Rattle.std.specs.Prelude.{ℕ, ◌+◌, ◌^◌, ◌<◌, ◌≤◌, ◌≡◌, Bool, List, [], ◌∷◌, ◌++◌, true, length, take, Option, Some, None, slice_get}
use Rattle.std.specs.Borrow.{Bor}
use Rattle.std.specs.List.{AllZip, AllByRecursion}
use Rattle.wac_types_shapes.specs.primitives.Name.{Name}
use Rattle.wac_types_shapes.specs.declared.shapes.component.DefinedType.{DefinedType}
use Rattle.wac_types_shapes.specs.declared.shapes.component.DefinedType.TheVariants as def
use Rattle.wac_types_shapes.specs.declared.shapes.component.DefinedTypeId.{DefinedTypeId}
use Rattle.wac_types_shapes.specs.declared.shapes.component.ValueType.{ValueType}
use Rattle.wac_types_shapes.specs.declared.shapes.component.ValueType.TheVariants as val
use Rattle.wac_types_shapes.specs.declared.shapes.component.«Type».TheVariants as ty
use Rattle.wac_types_collection.specs.collection.Collection.{Collection, HasDefined, item_at, holds_value}
use Rattle.wac_types_collection.specs.collection.Aliases.{target_of, value_resolved}
use Rattle.wac_binary.specs.declared.types.ComponentValType.{ComponentValType}
use Rattle.wac_binary.specs.Bytes.{value}
use Rattle.wac_binary.specs.Items.{ValueDef, record_def, variant_def, list_def, fixed_list_def, tuple_def, flags_def, enum_def, option_def, result_def, stream_def, future_def}
use Rattle.wac_encode_stacks.specs.Scopes.{at_type}
use Rattle.wac_encode_scopes.specs.declared.state.State.{State}
use Rattle.wac_encode_scopes.specs.declared.closed.ClosedTypes.{ClosedTypes}
use Rattle.wac_encode_scopes.specs.Books.{opened}
use Rattle.wac_encode_scopes.specs.States.{named_in}
use Rattle.wac_encode_scopes.specs.private.Parts.{parts}
use Rattle.wac_encode_values.specs.declared.task.Part.{Part}
use Rattle.wac_encode_values.specs.declared.task.Part.TheVariants.{Written, Missing}
use Rattle.wac_encode_values.specs.declared.task.Task.{Task}
use Rattle.wac_encode_values.specs.private.Values.{IsReady, IsWrittenAs, HasName, IsByName}

-- The same of an optional value type.
abbrev pub MaybeWrittenAs : Collection → Bool → State → Option ValueType → Option ComponentValType → Type 0
MaybeWrittenAs c b s None None = Unit {0}
MaybeWrittenAs c b s (Some v) (Some x) = IsWrittenAs c b s v x
MaybeWrittenAs c b s _ _ = ⊥

-- A parameter of a function type as it is written.
abbrev pub IsParam : Collection → Bool → State → Name × ValueType → Bor (List ℕ) × ComponentValType → Type 0
IsParam c b s e y = (y.0.now ≡ e.0) × IsWrittenAs c b s e.1 y.1

-- The value type is written; or the definition at its end is neither written nor an alias.
abbrev pub IsFound : Collection → Bool → State → ValueType → Part → Type 0
IsFound c b s v (Written x) = IsWrittenAs c b s v x
IsFound c b s v (Missing d) = (value_resolved c v ≡ val.Defined d) × (target_of c (val.Defined d) ≡ None) × HasDefined c d

-- A part that may be missing is of the collection and may be written; then each of these parameters.
abbrev pub IsPartReady : Collection → Bool → State → Option ValueType → Type 0
IsPartReady c b s p = (v : ValueType) → p ≡ Some v → (holds_value c v ≡ true) × IsReady c b s (ty.Value v)

abbrev pub AreReady : Collection → Bool → State → List (Name × ValueType) → Type 0
AreReady c b s es = (k : ℕ) (e : Name × ValueType) → slice_get es k ≡ Some e → (holds_value c e.1 ≡ true) × IsReady c b s (ty.Value e.1)

-- If the definition at the end has a name, the value type is written by it.
abbrev pub IsFoundByName : Collection → ClosedTypes → Bool → State → State → ValueType → Part → Type 0
IsFoundByName c closed b old new v (Written x) = IsByName c closed b old new v x
IsFoundByName c closed b old new v (Missing d) = HasName closed b old d → ⊥

-- If the definition has a name, the index is that of its name.
abbrev pub IsNameFirst : ClosedTypes → Bool → State → State → DefinedTypeId → Option ℕ → Type 0
IsNameFirst closed b old new d o = HasName closed b old d → (i : ℕ) × (o ≡ Some i) × (named_in d (opened b new.here) ≡ Some (at_type i))

-- These are the first parts of the definition as they are written; then all of them.
abbrev pub AreFirstParts : Collection → Bool → State → DefinedTypeId → List (Option ComponentValType) → Type 0
AreFirstParts c b s d ps = (x : DefinedType) → item_at c.defined d.0 ≡ Some x → AllZip (MaybeWrittenAs c b s) (take (length ps) (parts x)) ps

abbrev pub AreParts : Collection → Bool → State → DefinedTypeId → List (Option ComponentValType) → Type 0
AreParts c b s d ps = (x : DefinedType) → item_at c.defined d.0 ≡ Some x → AllZip (MaybeWrittenAs c b s) (parts x) ps

-- A definition that is no alias, and may be written.
pub record CanBegin (c : Collection) (b : Bool) (s : State) (d : DefinedTypeId) : Type 0 where
  pub held : HasDefined c d
  pub plain : target_of c (val.Defined d) ≡ None
  pub ready : IsReady c b s (ty.Value (val.Defined d))

-- The next part of a definition ends at this definition, which is no alias and may be written.
pub record WaitsFor (c : Collection) (d : DefinedTypeId) (ps : List (Option ComponentValType)) (e : DefinedTypeId) : Type 0 where
  pub definition : DefinedType
  pub found : item_at c.defined d.0 ≡ Some definition
  pub value : ValueType
  pub part : slice_get (parts definition) (length ps) ≡ Some (Some value)
  pub end : value_resolved c value ≡ val.Defined e
  pub plain : target_of c (val.Defined e) ≡ None
  pub held : HasDefined c e
  pub small : length ps + 1 < 2 ^ 64

-- All parts are there, or the next one waits for a definition.
abbrev pub IsFilled : Collection → Bool → State → DefinedTypeId → List (Option ComponentValType) → Option DefinedTypeId → Type 0
IsFilled c b s d ps None = AreParts c b s d ps
IsFilled c b s d ps (Some e) = AreFirstParts c b s d ps × WaitsFor c d ps e

-- One more part is appended as it is written; or nothing, and the definition at the end of that part is to be written.
abbrev pub IsAdded : Collection → Bool → State → Option ValueType → List (Option ComponentValType) → List (Option ComponentValType) → Option DefinedTypeId → Type 0
IsAdded c b s part old new None = (p : Option ComponentValType) × (new ≡ old ++ p ∷ []) × MaybeWrittenAs c b s part p
IsAdded c b s part old new (Some e) = (new ≡ old) × (v : ValueType) × (part ≡ Some v) × (value_resolved c v ≡ val.Defined e) × (target_of c (val.Defined e) ≡ None) × HasDefined c e

-- A definition is written, or waits for another.
abbrev pub IsAdvanced : Collection → Bool → State → DefinedTypeId → List (Option ComponentValType) → Part → Type 0
IsAdvanced c b s d ps (Written x) = IsWrittenAs c b s (val.Defined d) x
IsAdvanced c b s d ps (Missing e) = AreFirstParts c b s d ps × WaitsFor c d ps e

-- Definitions that wait, each for the next one and the last for e. The first is d.
abbrev pub AreWaiting : Collection → Bool → State → DefinedTypeId → List Task → DefinedTypeId → Type 0
AreWaiting c b s d [] e = e ≡ d
AreWaiting c b s d (t ∷ ts) e = (t.id ≡ d) × CanBegin c b s t.id × AreFirstParts c b s t.id t.parts.items
    × (n : DefinedTypeId) × WaitsFor c t.id t.parts.items n × AreWaiting c b s n ts e

-- The definition is written with these as its parts, in order.
abbrev pub IsMadeOf : DefinedType → List (Option ComponentValType) → ValueDef → Type 0
IsMadeOf (def.Tuple vs) ps (tuple_def xs) = AllZip (λ p x. p ≡ Some x) ps xs
IsMadeOf (def.List v) ps (list_def x) = slice_get ps 0 ≡ Some (Some x)
IsMadeOf (def.FixedSizeList v n) ps (fixed_list_def x k) = (k ≡ n) × (slice_get ps 0 ≡ Some (Some x))
IsMadeOf (def.Option v) ps (option_def x) = slice_get ps 0 ≡ Some (Some x)
IsMadeOf (def.Result ok err) ps (result_def x y) = (slice_get ps 0 ≡ Some x) × (slice_get ps 1 ≡ Some y)
IsMadeOf (def.Variant v) ps (variant_def xs) = AllZip (λ e x. x.0 ≡ e.0) v.cases xs × AllZip (λ p x. p ≡ x.1) ps xs
IsMadeOf (def.Record r) ps (record_def xs) = AllZip (λ e x. x.0 ≡ e.0) r.fields xs × AllZip (λ p x. p ≡ Some x.1) ps xs
IsMadeOf (def.Flags names) ps (flags_def xs) = xs ≡ names.0
IsMadeOf (def.Enum names) ps (enum_def xs) = xs ≡ names.0
IsMadeOf (def.Stream v) ps (stream_def x) = slice_get ps 0 ≡ Some x
IsMadeOf (def.Future v) ps (future_def x) = slice_get ps 0 ≡ Some x
IsMadeOf _ ps _ = ⊥

-- There is a value type at each position.
abbrev pub IsPresent : Option ComponentValType → Type 0
IsPresent None = ⊥
IsPresent (Some x) = Unit {0}

abbrev pub ArePresent : List (Option ComponentValType) → Type 0
ArePresent ps = AllByRecursion IsPresent ps

-- A definition of at most two parts, without names; and its parts.
abbrev pub IsPlain : DefinedType → List (Option ComponentValType) → Type 0
IsPlain (def.List v) ps = (x : ComponentValType) × (slice_get ps 0 ≡ Some (Some x))
IsPlain (def.FixedSizeList v n) ps = (x : ComponentValType) × (slice_get ps 0 ≡ Some (Some x))
IsPlain (def.Option v) ps = (x : ComponentValType) × (slice_get ps 0 ≡ Some (Some x))
IsPlain (def.Result ok err) ps = 1 < length ps
IsPlain (def.Stream v) ps = 0 < length ps
IsPlain (def.Future v) ps = 0 < length ps
IsPlain d ps = ⊥

-- A name as it is written; that of a field, a parameter or a case.
abbrev pub IsText : Name → Bor (List ℕ) → Type 0
IsText n y = y.now ≡ n

abbrev pub IsFieldName : Name × ValueType → Bor (List ℕ) × ComponentValType → Type 0
IsFieldName e y = y.0.now ≡ e.0

abbrev pub IsCaseName : Name × Option ValueType → Bor (List ℕ) × Option ComponentValType → Type 0
IsCaseName e y = y.0.now ≡ e.0

-- A part as it is written: of a tuple, a record or a variant.
abbrev pub IsValue : Option ComponentValType → ComponentValType → Type 0
IsValue p x = p ≡ Some x

abbrev pub IsFieldValue : Option ComponentValType → Bor (List ℕ) × ComponentValType → Type 0
IsFieldValue p y = p ≡ Some y.1

abbrev pub IsCaseValue : Option ComponentValType → Bor (List ℕ) × Option ComponentValType → Type 0
IsCaseValue p y = p ≡ y.1

-- A value type in use has at most 5 bytes; then an optional one.
abbrev pub IsShort : ComponentValType → Type 0
IsShort x = length (value x) ≤ 5

abbrev pub IsShortPart : Option ComponentValType → Type 0
IsShortPart None = Unit {0}
IsShortPart (Some x) = IsShort x

abbrev pub IsShortField : Bor (List ℕ) × ComponentValType → Type 0
IsShortField y = IsShort y.1

abbrev pub IsShortCase : Bor (List ℕ) × Option ComponentValType → Type 0
IsShortCase y = IsShortPart y.1
