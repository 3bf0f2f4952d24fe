-- The sizes of definitions and function types as they are written.
use Rattle.std.specs.Prelude.{ℕ, ◌≡◌, ◌≤◌, ◌<◌, ◌+◌, ◌*◌, ◌^◌, Bool, List, [], ◌∷◌, ◌++◌, length, map, Option, Some, None}
use Rattle.std.specs.List.{AllZip, AllByRecursion, flat_map, sum_by}
use Rattle.std.specs.Borrow.{Bor}
use Rattle.std.proofs.Common.{ap, sym, subst, arith, length-append}
use Rattle.std.proofs.lemmas.List.Sums.{sum_by-cons}
use Rattle.wac_types_shapes.specs.primitives.Name.{Name}
use Rattle.wac_types_shapes.specs.declared.shapes.component.Record.{Record}
use Rattle.wac_types_shapes.specs.declared.shapes.component.Variant.{Variant}
use Rattle.wac_types_shapes.specs.declared.shapes.component.Flags.{Flags}
use Rattle.wac_types_shapes.specs.declared.shapes.component.Enum.{Enum}
use Rattle.wac_types_shapes.specs.declared.shapes.component.DefinedType.{DefinedType}
use Rattle.wac_types_shapes.specs.declared.shapes.component.DefinedType.TheVariants as def
use Rattle.wac_types_shapes.specs.declared.shapes.component.FuncType.{FuncType}
use Rattle.wac_types_shapes.specs.declared.shapes.component.ValueType.{ValueType}
use Rattle.wac_types_collection.specs.collection.Collection.{Collection}
use Rattle.wac_types_weight.specs.Weight.{named_part, named_parts, label}
use Rattle.wac_binary.specs.declared.types.ComponentValType.{ComponentValType}
use Rattle.wac_binary.specs.Items.{ValueDef, record_def, variant_def, list_def, fixed_list_def, tuple_def, flags_def, enum_def, option_def, result_def, stream_def, future_def, func_def}
use Rattle.wac_binary.specs.Bytes.{text, vector, value, optional, field, case, value_def_bytes, outcome}
use Rattle.wac_binary.specs.Leb.{unsigned}
use Rattle.wac_binary.specs.private.LebLaws.{leb_length}
use Rattle.wac_binary.specs.Views.{named, texts_of}
use Rattle.wac_encode_scopes.specs.declared.state.State.{State}
use Rattle.wac_encode_scopes.specs.private.Paid.{IsSizedAs, IsFuncSizedAs}
use Rattle.wac_encode_scopes.specs.private.Parts.{parts, some_of}
use Rattle.wac_encode_stacks.proofs.Sizes.{text_short, unsigned_short}
use Rattle.wac_encode_values.specs.private.Parts.{IsParam, MaybeWrittenAs, IsText, IsFieldName, IsCaseName, IsShort, IsShortPart, IsShortField, IsShortCase}
use Rattle.wac_encode_values.proofs.Made.{zip-long, map-long, texts-are}

-- lists of short elements stay so

pub all-push : {A : Type 0} (P : A → Type 0) (xs ys : List A) (x : A) → AllByRecursion P xs → P x → ys ≡ xs ++ x ∷ [] → AllByRecursion P ys
all-push {A} P xs ys x h p is = subst (AllByRecursion P) (sym is) (both xs h)
  where
    both : (zs : List A) → AllByRecursion P zs → AllByRecursion P (zs ++ x ∷ [])
    both [] g = (p, tt)
    both (z ∷ zs) g = (g.0, both zs g.1)

pub all-none : {A : Type 0} (P : A → Type 0) (xs : List A) → xs ≡ [] → AllByRecursion P xs
all-none P xs is = subst (AllByRecursion P) (sym is) tt

-- a vector is its number and its elements
vector-most : {A : Type 0} (f : A → List ℕ) (xs : List A) → length (vector f xs) ≤ 1 + length xs + length (flat_map f xs)
vector-most f xs = let both = length-append (unsigned (length xs)) (flat_map f xs) in let few = leb_length 128 (length xs) in omega (arith, both, few)

values-size : (xs : List ComponentValType) → AllByRecursion IsShort xs → length (flat_map value xs) ≤ 5 * length xs
values-size [] h = omega arith
values-size (x ∷ xs) h =
    let both = length-append (value x) (flat_map value xs) in
    let one : length (value x) ≤ 5 = h.0 in
    let rest = values-size xs h.1 in
    omega (arith, both, one, rest)

fields-size : (es : List (Name × ValueType)) (ys : List (Bor (List ℕ) × ComponentValType)) → AllZip IsFieldName es ys → AllByRecursion IsShortField ys → length (flat_map field (named ys)) ≤ 6 * named_parts es
fields-size [] [] z h = omega arith
fields-size (e ∷ es) (y ∷ ys) z h =
    let both = length-append (field (y.0.now, y.1)) (flat_map field (named ys)) in
    let parts = length-append (text y.0.now) (value y.1) in
    let short = text_short y.0.now in
    let same : length y.0.now ≡ length e.0 = ap (λ (n : Name). length n) z.0 in
    let one : length (value y.1) ≤ 5 = h.0 in
    let sum = sum_by-cons {X = Name × ValueType} named_part e es in
    let rest = fields-size es ys z.1 h.1 in
    omega (arith, both, parts, short, same, one, sum, rest)
fields-size [] (y ∷ ys) z h = absurd z
fields-size (e ∷ es) [] z h = absurd z

optional-size : (x : Option ComponentValType) → IsShortPart x → length (optional x) ≤ 6
optional-size None h = omega arith
optional-size (Some x) h = let one : length (value x) ≤ 5 = h in omega (arith, one)

cases-size : (es : List (Name × Option ValueType)) (ys : List (Bor (List ℕ) × Option ComponentValType)) → AllZip IsCaseName es ys → AllByRecursion IsShortCase ys → length (flat_map case (named ys)) ≤ 8 * named_parts es
cases-size [] [] z h = omega arith
cases-size (e ∷ es) (y ∷ ys) z h =
    let both = length-append (case (y.0.now, y.1)) (flat_map case (named ys)) in
    let parts = length-append (text y.0.now ++ optional y.1) (0 ∷ []) in
    let first = length-append (text y.0.now) (optional y.1) in
    let short = text_short y.0.now in
    let same : length y.0.now ≡ length e.0 = ap (λ (n : Name). length n) z.0 in
    let one = optional-size y.1 h.0 in
    let sum = sum_by-cons {X = Name × Option ValueType} named_part e es in
    let rest = cases-size es ys z.1 h.1 in
    omega (arith, both, parts, first, short, same, one, sum, rest)
cases-size [] (y ∷ ys) z h = absurd z
cases-size (e ∷ es) [] z h = absurd z

labels-size : (ns : List Name) → length (flat_map text ns) ≤ 2 * sum_by label ns
labels-size [] = omega arith
labels-size (n ∷ ns) =
    let both = length-append (text n) (flat_map text ns) in
    let short = text_short n in
    let sum = sum_by-cons label n ns in
    let rest = labels-size ns in
    omega (arith, both, short, sum, rest)

-- no more elements than their parts
few-named : {A : Type 0} (es : List (Name × A)) → length es ≤ named_parts es
few-named [] = omega arith
few-named {A} (e ∷ es) = let sum = sum_by-cons {X = Name × A} named_part e es in let rest = few-named es in omega (arith, sum, rest)

few-labels : (ns : List Name) → length ns ≤ sum_by label ns
few-labels [] = omega arith
few-labels (n ∷ ns) = let sum = sum_by-cons label n ns in let rest = few-labels ns in omega (arith, sum, rest)

-- definitions

pub tuple-sized : (x : DefinedType) (vs : List ValueType) (ps : List (Option ComponentValType)) (xs ys : List ComponentValType) (c : Collection) (b : Bool) (st : State) → x ≡ def.Tuple vs → ys ≡ xs → AllZip (MaybeWrittenAs c b st) (parts x) ps → AllZip (λ p v. p ≡ Some v) ps xs → AllByRecursion IsShort xs → IsSizedAs x (tuple_def ys)
tuple-sized x vs ps xs ys c b st is same z values short =
    subst (λ (zs : List ComponentValType). IsSizedAs x (tuple_def zs)) (sym same)
    (subst (λ (y : DefinedType). IsSizedAs y (tuple_def xs)) (sym is)
    (let written = subst (λ (y : DefinedType). AllZip (MaybeWrittenAs c b st) (parts y) ps) is z in
    let a = zip-long (MaybeWrittenAs c b st) (map some_of vs) ps written in
    let d = zip-long (λ (p : Option ComponentValType) (v : ComponentValType). p ≡ Some v) ps xs values in
    let e = map-long some_of vs in
    let most = vector-most value xs in
    let flat = values-size xs short in
    omega (arith, a, d, e, most, flat)))

pub record-sized : (x : DefinedType) (r : Record) (xs ys : List (Bor (List ℕ) × ComponentValType)) → x ≡ def.Record r → ys ≡ xs → AllZip IsFieldName r.fields xs → AllByRecursion IsShortField xs → IsSizedAs x (record_def (named ys))
record-sized x r xs ys is same names short =
    subst (λ (zs : List (Bor (List ℕ) × ComponentValType)). IsSizedAs x (record_def (named zs))) (sym same)
    (subst (λ (y : DefinedType). IsSizedAs y (record_def (named xs))) (sym is)
    (let most = vector-most field (named xs) in
    let flat = fields-size r.fields xs names short in
    let few = few-named r.fields in
    let a = zip-long IsFieldName r.fields xs names in
    let e = map-long {B = Name × ComponentValType} (λ (f : Bor (List ℕ) × ComponentValType). (f.0.now, f.1)) xs in
    omega (arith, most, flat, few, a, e)))

pub variant-sized : (x : DefinedType) (v : Variant) (xs ys : List (Bor (List ℕ) × Option ComponentValType)) → x ≡ def.Variant v → ys ≡ xs → AllZip IsCaseName v.cases xs → AllByRecursion IsShortCase xs → IsSizedAs x (variant_def (named ys))
variant-sized x v xs ys is same names short =
    subst (λ (zs : List (Bor (List ℕ) × Option ComponentValType)). IsSizedAs x (variant_def (named zs))) (sym same)
    (subst (λ (y : DefinedType). IsSizedAs y (variant_def (named xs))) (sym is)
    (let most = vector-most case (named xs) in
    let flat = cases-size v.cases xs names short in
    let few = few-named v.cases in
    let a = zip-long IsCaseName v.cases xs names in
    let e = map-long {B = Name × Option ComponentValType} (λ (f : Bor (List ℕ) × Option ComponentValType). (f.0.now, f.1)) xs in
    omega (arith, most, flat, few, a, e)))

texts-sized : (ns : List Name) → length (vector text ns) ≤ 1 + 3 * sum_by label ns
texts-sized ns = let most = vector-most text ns in let flat = labels-size ns in let few = few-labels ns in omega (arith, most, flat, few)

pub flags-sized : (x : DefinedType) (f : Flags) (xs ys : List (Bor (List ℕ))) → x ≡ def.Flags f → ys ≡ xs → AllZip IsText f.0 xs → IsSizedAs x (flags_def (texts_of ys))
flags-sized x f xs ys is same names =
    subst (λ (zs : List (Bor (List ℕ))). IsSizedAs x (flags_def (texts_of zs))) (sym same)
    (subst (λ (y : DefinedType). IsSizedAs y (flags_def (texts_of xs))) (sym is)
    (subst (λ (ns : List Name). IsSizedAs (def.Flags f) (flags_def ns)) (sym (texts-are f.0 xs names)) (let most = texts-sized f.0 in omega (arith, most))))

pub enum-sized : (x : DefinedType) (f : Enum) (xs ys : List (Bor (List ℕ))) → x ≡ def.Enum f → ys ≡ xs → AllZip IsText f.0 xs → IsSizedAs x (enum_def (texts_of ys))
enum-sized x f xs ys is same names =
    subst (λ (zs : List (Bor (List ℕ))). IsSizedAs x (enum_def (texts_of zs))) (sym same)
    (subst (λ (y : DefinedType). IsSizedAs y (enum_def (texts_of xs))) (sym is)
    (subst (λ (ns : List Name). IsSizedAs (def.Enum f) (enum_def ns)) (sym (texts-are f.0 xs names)) (let most = texts-sized f.0 in omega (arith, most))))

-- a definition of at most two parts

pub list-short : (x : ComponentValType) → IsShort x → length (value_def_bytes (list_def x)) ≤ 13
list-short x h = let one : length (value x) ≤ 5 = h in omega (arith, one)

pub fixed-short : (x : ComponentValType) (n : ℕ) → IsShort x → n < 2 ^ 32 → length (value_def_bytes (fixed_list_def x n)) ≤ 13
fixed-short x n h small =
    let both = length-append (value x) (unsigned n) in
    let one : length (value x) ≤ 5 = h in
    let two = unsigned_short n small in
    omega (arith, both, one, two)

pub option-short : (x : ComponentValType) → IsShort x → length (value_def_bytes (option_def x)) ≤ 13
option-short x h = let one : length (value x) ≤ 5 = h in omega (arith, one)

pub result-short : (x y : Option ComponentValType) → IsShortPart x → IsShortPart y → length (value_def_bytes (result_def x y)) ≤ 13
result-short x y h g =
    let both = length-append (optional x) (optional y) in
    let one = optional-size x h in
    let two = optional-size y g in
    omega (arith, both, one, two)

pub stream-short : (x : Option ComponentValType) → IsShortPart x → length (value_def_bytes (stream_def x)) ≤ 13
stream-short x h = let one = optional-size x h in omega (arith, one)

pub future-short : (x : Option ComponentValType) → IsShortPart x → length (value_def_bytes (future_def x)) ≤ 13
future-short x h = let one = optional-size x h in omega (arith, one)

pub plain-sized : (x : DefinedType) (y : ValueDef) → length (value_def_bytes y) ≤ 13 → IsSizedAs x y
plain-sized x y short = omega (arith, short)

-- a function type

params-names : (c : Collection) (b : Bool) (st : State) (es : List (Name × ValueType)) (ys : List (Bor (List ℕ) × ComponentValType)) → AllZip (IsParam c b st) es ys → AllZip IsFieldName es ys
params-names c b st [] [] z = tt
params-names c b st (e ∷ es) (y ∷ ys) z = (z.0.0, params-names c b st es ys z.1)
params-names c b st [] (y ∷ ys) z = absurd z
params-names c b st (e ∷ es) [] z = absurd z

outcome-size : (y : Option ComponentValType) → IsShortPart y → length (outcome y) ≤ 6
outcome-size None h = omega arith
outcome-size (Some x) h = let one : length (value x) ≤ 5 = h in omega (arith, one)

pub func-sized : (c : Collection) (b : Bool) (st : State) (x : FuncType) (a : Bool) (xs ys : List (Bor (List ℕ) × ComponentValType)) (y : Option ComponentValType) → ys ≡ xs → AllZip (IsParam c b st) x.params xs → AllByRecursion IsShortField xs → IsShortPart y → IsFuncSizedAs x (func_def a (named ys) y)
func-sized c b st x a xs ys y same written short last =
    subst (λ (zs : List (Bor (List ℕ) × ComponentValType)). IsFuncSizedAs x (func_def a (named zs) y)) (sym same)
    (let names = params-names c b st x.params xs written in
    let both = length-append (vector field (named xs)) (outcome y) in
    let most = vector-most field (named xs) in
    let flat = fields-size x.params xs names short in
    let few = few-named x.params in
    let l = zip-long IsFieldName x.params xs names in
    let e = map-long {B = Name × ComponentValType} (λ (f : Bor (List ℕ) × ComponentValType). (f.0.now, f.1)) xs in
    let end = outcome-size y last in
    omega (arith, both, most, flat, few, l, e, end))
