-- The values of the borrowed types that the writers take.
use Rattle.std.specs.Prelude.{ℕ, List, map}
use Rattle.std.specs.Borrow.{Bor}
use Rattle.wac_types_shapes.specs.primitives.Name.{Name}
use Rattle.wac_binary.specs.declared.sorts.Sort.{Sort}
use Rattle.wac_binary.specs.declared.types.FuncType.{FuncType}
use Rattle.wac_binary.specs.declared.types.DefinedType.{DefinedType}
use Rattle.wac_binary.specs.declared.types.DefinedType.TheVariants as d
use Rattle.wac_binary.specs.Items.{ValueDef, primitive_def, record_def, variant_def, list_def, fixed_list_def, tuple_def, flags_def, enum_def, option_def, result_def, own_def, borrow_def, stream_def, future_def, TypeDef, func_def}

-- Names, each with what it names.
abbrev pub named : {A : Type 0} → List (Bor (List ℕ) × A) → List (Name × A)
named = map (λ f. (f.0.now, f.1))

-- Names.
abbrev pub texts_of : List (Bor (List ℕ)) → List Name
texts_of = map (λ t. t.now)

-- The arguments of an instantiation: name, sort and index.
abbrev pub arguments_of : List (Bor (List ℕ) × Sort × ℕ) → List (Name × Sort × ℕ)
arguments_of = map (λ a. (a.0.now, a.1, a.2))

-- Named indexes: sort, index and name.
abbrev pub names_of : List (Sort × ℕ × Bor (List ℕ)) → List (Sort × ℕ × Name)
names_of = map (λ e. (e.0, e.1, e.2.now))

abbrev pub func_of : FuncType → TypeDef
func_of f = func_def f.is_async (named f.params.now) f.result

abbrev pub defined_of : DefinedType → ValueDef
defined_of (d.Primitive p) = primitive_def p
defined_of (d.Record fs) = record_def (named fs.now)
defined_of (d.Variant cs) = variant_def (named cs.now)
defined_of (d.List t) = list_def t
defined_of (d.FixedSizeList t n) = fixed_list_def t n
defined_of (d.Tuple ts) = tuple_def ts.now
defined_of (d.Flags ns) = flags_def (texts_of ns.now)
defined_of (d.Enum ns) = enum_def (texts_of ns.now)
defined_of (d.Option t) = option_def t
defined_of (d.Result ok err) = result_def ok err
defined_of (d.Own i) = own_def i
defined_of (d.Borrow i) = borrow_def i
defined_of (d.Stream t) = stream_def t
defined_of (d.Future t) = future_def t
