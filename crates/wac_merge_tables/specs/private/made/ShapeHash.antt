-- The input of the hash of a shape. Only contracts inside the merge cite this file.
use Rattle.std.proofs.Common.{◌≡◌, ◌++◌, ◌&&◌, true, List, [], ◌∷◌, Option, Some, None, nat_eq, pos, flat_map, ap, refl, rules}
use Rattle.std.proofs.lemmas.Bool.{eqb-true}
use Rattle.std.specs.Global.{Global}
use Rattle.std.specs.Prelude.{string_bytes}
use Rattle.std.specs.declared.string.String.{String}
use Rattle.std.specs.Option.{option_eq}
use Rattle.std.specs.Cmp.Lexicographic.{pointwise, bytes_decides}
use Rattle.std.specs.Cmp.Rules.{hashing}
use Rattle.std.specs.Hash as fed
use Rattle.std.specs.Cmp.{first_so, second_so}
use Rattle.std.specs.Hash.{HashWrites, Alike, same_Alike, on_Alike, and-Alike, items_Alike}
use Rattle.wac_types_shapes.specs.contracts.primitives.component.PrimitiveTypeHash.TheImpl as PrimitiveHash
use Rattle.wac_types_shapes.specs.contracts.primitives.component.PrimitiveTypePartialEq.TheImpl as PrimitiveEq
use Rattle.wac_types_shapes.specs.contracts.shapes.component.ValueTypeHash.TheImpl as ValueHash
use Rattle.wac_types_shapes.specs.contracts.shapes.component.ValueTypeHash.TheImpl.Laws as value_laws
use Rattle.wac_types_shapes.specs.contracts.shapes.component.ValueTypePartialEq.TheImpl as ValueEq
use Rattle.wac_types_shapes.specs.declared.shapes.component.ValueType.{ValueType}
use Rattle.wac_types_shapes.specs.declared.shapes.component.ValueType.TheVariants as val
use Rattle.wac_merge_tables.specs.contracts.made.shapes.ShapePartialEq.TheImpl as ShapeEq
use Rattle.wac_merge_tables.specs.declared.made.shapes.Shape.{Shape}
use Rattle.wac_merge_tables.specs.declared.made.shapes.Shape.TheVariants as shape

-- A primitive type, or the id of a handle or definition.
abbrev pub value_writes : ValueType → HashWrites
value_writes (val.Primitive p) = (PrimitiveHash.ghosts).hash_input p
value_writes (val.Borrow r) = fed.usize r.0
value_writes (val.Own r) = fed.usize r.0
value_writes (val.Defined d) = fed.usize d.0

abbrev pub optional_writes : Option ValueType → HashWrites
optional_writes None = []
optional_writes (Some v) = value_writes v

abbrev text_writes : String Global → HashWrites
text_writes s = fed.str (string_bytes s)

abbrev field_writes : String Global × ValueType → HashWrites
field_writes e = fed.str (string_bytes e.0) ++ (ValueHash.ghosts).hash_input e.1

abbrev case_writes : String Global × Option ValueType → HashWrites
case_writes e = fed.str (string_bytes e.0) ++ fed.option (ValueHash.ghosts).hash_input e.1

-- The parts of a shape, without its variant. Few variants have parts that are equal.
abbrev pub shape_writes : Shape → HashWrites
shape_writes (shape.Tuple vs) = flat_map value_writes vs.items
shape_writes (shape.List v) = value_writes v
shape_writes (shape.FixedSizeList v n) = value_writes v
shape_writes (shape.Option v) = value_writes v
shape_writes (shape.Result ok err) = optional_writes ok ++ optional_writes err
shape_writes (shape.Variant cases) = fed.slice case_writes cases.items
shape_writes (shape.Record fields) = fed.slice field_writes fields.items
shape_writes (shape.Flags names) = fed.slice text_writes names.items
shape_writes (shape.Enum names) = fed.slice text_writes names.items
shape_writes (shape.Alias v) = value_writes v
shape_writes (shape.Stream v) = optional_writes v
shape_writes (shape.Future v) = optional_writes v

-- ---- Equal shapes have the same input.
texts_alike : Alike (pointwise nat_eq) fed.str
texts_alike = same_Alike fed.str bytes_decides

names_alike : Alike (λ (x y : String Global). pointwise nat_eq (string_bytes x) (string_bytes y)) text_writes
names_alike = on_Alike (λ (s : String Global). string_bytes s) texts_alike

primitives_alike : Alike (PrimitiveEq.ghosts).eq (PrimitiveHash.ghosts).hash_input
primitives_alike = search (hashing, rules)

whole_values_alike : Alike (ValueEq.ghosts).eq (ValueHash.ghosts).hash_input
whole_values_alike = record { fed = λ x y e. value_laws.respects_eq-law x y e }

fields_alike : Alike (λ (x y : String Global × ValueType). pointwise nat_eq (string_bytes x.0) (string_bytes y.0) && (ValueEq.ghosts).eq x.1 y.1) field_writes
fields_alike = and-Alike {F = λ (e : String Global × ValueType). fed.str (string_bytes e.0)} (on_Alike (λ (e : String Global × ValueType). string_bytes e.0) texts_alike) (on_Alike (λ (e : String Global × ValueType). e.1) whole_values_alike)

options_alike : Alike (option_eq (ValueEq.ghosts).eq) (fed.option (ValueHash.ghosts).hash_input)
options_alike = record { fed = maybe } where
  maybe : (x y : Option ValueType) → option_eq (ValueEq.ghosts).eq x y ≡ true → fed.option (ValueHash.ghosts).hash_input x ≡ fed.option (ValueHash.ghosts).hash_input y
  maybe None None e = refl
  maybe None (Some b) e = cc e
  maybe (Some a) None e = cc e
  maybe (Some a) (Some b) e = let p = whole_values_alike.fed a b e in (λ i. fed.isize (pos 1) ++ p i)

cases_alike : Alike (λ (x y : String Global × Option ValueType). pointwise nat_eq (string_bytes x.0) (string_bytes y.0) && option_eq (ValueEq.ghosts).eq x.1 y.1) case_writes
cases_alike = and-Alike {F = λ (e : String Global × Option ValueType). fed.str (string_bytes e.0)} (on_Alike (λ (e : String Global × Option ValueType). string_bytes e.0) texts_alike) (on_Alike (λ (e : String Global × Option ValueType). e.1) options_alike)

value_alike : (a b : ValueType) → (ValueEq.ghosts).eq a b ≡ true → value_writes a ≡ value_writes b
value_alike (val.Primitive a) (val.Primitive b) e = primitives_alike.fed a b e
value_alike (val.Borrow a) (val.Borrow b) e = ap fed.usize (eqb-true a.0 b.0 e)
value_alike (val.Own a) (val.Own b) e = ap fed.usize (eqb-true a.0 b.0 e)
value_alike (val.Defined a) (val.Defined b) e = ap fed.usize (eqb-true a.0 b.0 e)
value_alike _ _ e = cc e

pub optional_alike : (a b : Option ValueType) → option_eq (ValueEq.ghosts).eq a b ≡ true → optional_writes a ≡ optional_writes b
optional_alike None None e = refl
optional_alike None (Some b) e = cc e
optional_alike (Some a) None e = cc e
optional_alike (Some a) (Some b) e = value_alike a b e

pub values_alike : (vs ws : List ValueType) → pointwise (ValueEq.ghosts).eq vs ws ≡ true → flat_map value_writes vs ≡ flat_map value_writes ws
values_alike [] [] e = refl
values_alike [] (w ∷ ws) e = cc e
values_alike (v ∷ vs) [] e = cc e
values_alike (v ∷ vs) (w ∷ ws) e =
    let p = value_alike v w (first_so ((ValueEq.ghosts).eq v w) (pointwise (ValueEq.ghosts).eq vs ws) e) in
    let q = values_alike vs ws (second_so ((ValueEq.ghosts).eq v w) (pointwise (ValueEq.ghosts).eq vs ws) e) in
    λ i. p i ++ q i

pub shape_alike : (a b : Shape) → (ShapeEq.ghosts).eq a b ≡ true → shape_writes a ≡ shape_writes b
shape_alike (shape.Tuple a) (shape.Tuple b) e = values_alike a.items b.items e
shape_alike (shape.List a) (shape.List b) e = value_alike a b e
shape_alike (shape.FixedSizeList a x) (shape.FixedSizeList b y) e = value_alike a b (first_so ((ValueEq.ghosts).eq a b) (nat_eq x y) e)
shape_alike (shape.Option a) (shape.Option b) e = value_alike a b e
shape_alike (shape.Result a x) (shape.Result b y) e =
    let p = optional_alike a b (first_so (option_eq (ValueEq.ghosts).eq a b) (option_eq (ValueEq.ghosts).eq x y) e) in
    let q = optional_alike x y (second_so (option_eq (ValueEq.ghosts).eq a b) (option_eq (ValueEq.ghosts).eq x y) e) in
    λ i. p i ++ q i
shape_alike (shape.Variant a) (shape.Variant b) e = (items_Alike cases_alike).fed a.items b.items e
shape_alike (shape.Record a) (shape.Record b) e = (items_Alike fields_alike).fed a.items b.items e
shape_alike (shape.Flags a) (shape.Flags b) e = (items_Alike names_alike).fed a.items b.items e
shape_alike (shape.Enum a) (shape.Enum b) e = (items_Alike names_alike).fed a.items b.items e
shape_alike (shape.Alias a) (shape.Alias b) e = value_alike a b e
shape_alike (shape.Stream a) (shape.Stream b) e = optional_alike a b e
shape_alike (shape.Future a) (shape.Future b) e = optional_alike a b e
shape_alike _ _ e = cc e
