-- How many bytes the declarations of a core module have at most.
use Rattle.std.proofs.Common.{ℕ, suc, ◌+◌, ◌*◌, ◌/◌, ◌<◌, ◌≤◌, ◌^◌, true, false, ltb, Bool, List, [], ◌∷◌, ◌++◌, length, flat_map, Option, Some, None, IfSome, ◌≡◌, refl, ap, ◌∙◌, arith, length-append, subst, take}
use Rattle.std.specs.List.{AllByRecursion, sum_by}
use Rattle.std.proofs.lemmas.Bool.{ltb-true, ltb-false}
use Rattle.std.proofs.lemmas.Grind.{flat_map-append}
use Rattle.std.proofs.lemmas.List.{append-nil}
use Rattle.std.proofs.lemmas.List.Sums.{sum_by-cons, sum_by-take-le}
use Rattle.wac_types_shapes.specs.primitives.Name.{Name}
use Rattle.wac_types_shapes.specs.shapes.Imports.{Pair}
use Rattle.wac_types_shapes.specs.declared.primitives.core_types.CoreType.{CoreType}
use Rattle.wac_types_shapes.specs.declared.shapes.core_types.CoreExtern.{CoreExtern}
use Rattle.wac_types_shapes.specs.declared.shapes.core_types.CoreExtern.TheVariants as core
use Rattle.wac_types_shapes.specs.declared.shapes.core_types.ModuleType.{ModuleType}
use Rattle.wac_types_weight.specs.Weight.{named_part, core_values, module_parts}
use Rattle.wac_binary.specs.Bytes.{module_bytes, text, vector, core_val, number, limits, entity as entity_bytes, module_decl_bytes}
use Rattle.wac_binary.specs.Fits.{ModuleFits}
use Rattle.wac_binary.specs.Indexes.{function_types}
use Rattle.wac_binary.specs.Items.{ModuleDecl, module_import, module_func, module_export}
use Rattle.wac_binary.specs.Leb.{leb, unsigned}
use Rattle.wac_binary.specs.private.LebLaws.{leb_last, leb_more, leb_length}
use Rattle.wac_binary.proofs.lemmas.bytes.Short.{unsigned_length}
use Rattle.wac_modules.specs.private.Declarations.{entity, type_before, import_of, export_of, in_order, declarations_of}
use Rattle.wac_modules.specs.private.Limits.{HasLimits}
use Rattle.wac_modules.proofs.Declared.{function_types-append}
use Rattle.wac_modules.proofs.Limited.{HaveLimits, Limited}

-- ---- numbers
Short : (bound bytes : ℕ) → Type 0
Short bound bytes = (n : ℕ) → n < bound → length (leb 128 n) ≤ bytes

one_group : Short 128 1
unfolding Short
one_group n h = rw (leb_last 128 n h) (omega arith)

more_groups : (bound bytes : ℕ) → 1 ≤ bytes → Short bound bytes → Short (128 * bound) (bytes + 1)
unfolding Short
more_groups bound bytes p s n h =
    elim (ltb n 128) as (λ t. ltb n 128 ≡ t → length (leb 128 n) ≤ bytes + 1) [
      | true ↦ λ l. rw (leb_last 128 n (ltb-true n 128 l)) (omega arith)
      | false ↦ λ l. rw (leb_more 128 n (omega arith) (ltb-false n 128 l)) (omega (arith, s (n / 128) (omega arith)))
    ] refl

index_short : (n : ℕ) → n < 2 ^ 32 → length (unsigned n) ≤ 5
unfolding Short
index_short n h =
    let m = λ (b k : ℕ) (q : 1 ≤ k) (s : Short b k). more_groups b k q s in
    m _ 4 (omega arith) (m _ 3 (omega arith) (m _ 2 (omega arith) (m _ 1 (omega arith) one_group))) n (omega arith)

-- ---- parts
text_short : (n : Name) → length (text n) ≤ 1 + 2 * length n
text_short n = omega (arith, length-append (unsigned (length n)) n, leb_length 128 (length n))

values_long : (vs : List CoreType) → length (flat_map core_val vs) ≡ length vs
values_long [] = refl
values_long (v ∷ vs) = ap suc (values_long vs)

values_short : (vs : List CoreType) → length (vector core_val vs) ≤ 1 + 2 * length vs
values_short vs = omega (arith, length-append (unsigned (length vs)) (flat_map core_val vs), leb_length 128 (length vs), values_long vs)

func_short : (ps rs : List CoreType) → length (module_decl_bytes (module_func ps rs)) ≤ 4 + 2 * (length ps + length rs)
func_short ps rs = omega (arith, length-append (vector core_val ps) (vector core_val rs), values_short ps, values_short rs)

number_short : (o : Option ℕ) → IfSome o (λ n. n < 2 ^ 64) → length (number o) ≤ 10
number_short None h = omega arith
number_short (Some n) h = unsigned_length n h

page_short : (o : Option ℕ) → IfSome o (λ n. n < 2 ^ 32) → length (number o) ≤ 5
page_short None h = omega arith
page_short (Some n) h = index_short n h

limits_short : (shared wide : Bool) (least : ℕ) (most page : Option ℕ) (bytes : ℕ) → least < 2 ^ 64 → IfSome most (λ n. n < 2 ^ 64) → length (number page) ≤ bytes → length (limits shared wide least most page) ≤ 21 + bytes
limits_short shared wide least most page bytes low high short =
    let a = unsigned_length least low in
    let b = number_short most high in
    let one = length-append (unsigned least) (number most ++ number page) in
    let two = length-append (number most) (number page) in
    omega (arith, a, b, short, one, two, length-append (unsigned least ++ number most) (number page), length-append (unsigned least) (number most))

-- the declarations
size : List ModuleDecl → ℕ
size ds = length (flat_map module_decl_bytes ds)

size-append : (xs ys : List ModuleDecl) → size (xs ++ ys) ≡ size xs + size ys
unfolding size
size-append xs ys = ap length (flat_map-append module_decl_bytes xs ys) ∙ length-append (flat_map module_decl_bytes xs) (flat_map module_decl_bytes ys)

size-one : (d : ModuleDecl) → size (d ∷ []) ≡ length (module_decl_bytes d)
unfolding size
size-one d = let e = length-append (module_decl_bytes d) [] in omega (arith, e)

size-none : size [] ≡ 0
unfolding size
size-none = refl

-- what describes a core item, with the function type before it
item_short : (x : CoreExtern) (i : ℕ) → HasLimits x → i < 2 ^ 32 → size (type_before x) + length (entity_bytes (entity i x)) ≤ 27 + 2 * core_values x
item_short (core.Func f) i h low =
    let a = func_short f.params f.results in
    let b = index_short i low in
    let e = size-one (module_func f.params f.results) in
    omega (arith, a, b, e)
item_short (core.Tag f) i h low =
    let a = func_short f.params f.results in
    let b = index_short i low in
    let e = size-one (module_func f.params f.results) in
    omega (arith, a, b, e)
item_short (core.Table element least most wide shared) i h low =
    let l = limits_short shared wide least most None 0 h.0 h.1 (omega arith) in
    omega (arith, l, size-none)
item_short (core.Memory wide shared least most page) i h low =
    let l = limits_short shared wide least most page 5 h.0 h.1 (page_short page h.2) in
    omega (arith, l, size-none)
item_short (core.Global value mutable shared) i h low = omega (arith, size-none)

few_types : (x : CoreExtern) → function_types (type_before x) ≤ 1
few_types (core.Func f) = omega arith
few_types (core.Tag f) = omega arith
few_types (core.Table element least most wide shared) = omega arith
few_types (core.Memory wide shared least most page) = omega arith
few_types (core.Global value mutable shared) = omega arith

one_before : (x : CoreExtern) → length (type_before x) ≤ 1
one_before (core.Func f) = omega arith
one_before (core.Tag f) = omega arith
one_before (core.Table element least most wide shared) = omega arith
one_before (core.Memory wide shared least most page) = omega arith
one_before (core.Global value mutable shared) = omega arith

-- the weight of an import and of an export
import_part : Pair × CoreExtern → ℕ
import_part e = 1 + length e.0.0 + length e.0.1 + core_values e.1

export_part : Name × CoreExtern → ℕ
export_part e = named_part e + core_values e.1

-- What is declared of an item is short, and declares one function type at most.
record IsShort (ds : List ModuleDecl) (part : ℕ) : Type 0 where
  short : size ds ≤ 30 * part
  types : function_types ds ≤ 1
  count : length ds ≤ 2

import_short : (i : ℕ) (e : Pair × CoreExtern) → HasLimits e.1 → i < 2 ^ 32 → IsShort (import_of i e) (import_part e)
unfolding import_part
import_short i e h low = record {
  short =
      let item = item_short e.1 i h low in
      let both = size-append (type_before e.1) (module_import e.0.0 e.0.1 (entity i e.1) ∷ []) in
      let one = size-one (module_import e.0.0 e.0.1 (entity i e.1)) in
      let long = length-append (text e.0.0) (text e.0.1 ++ entity_bytes (entity i e.1)) in
      let rest = length-append (text e.0.1) (entity_bytes (entity i e.1)) in
      let a = text_short e.0.0 in
      let b = text_short e.0.1 in
      omega (arith, item, both, one, long, rest, a, b, length-append (text e.0.0 ++ text e.0.1) (entity_bytes (entity i e.1)), length-append (text e.0.0) (text e.0.1));
  types = let few = few_types e.1 in let both = function_types-append (type_before e.1) (module_import e.0.0 e.0.1 (entity i e.1) ∷ []) in omega (arith, few, both);
  count = let few = one_before e.1 in let both = length-append (type_before e.1) (module_import e.0.0 e.0.1 (entity i e.1) ∷ []) in omega (arith, few, both);
}

export_short : (i : ℕ) (e : Name × CoreExtern) → HasLimits e.1 → i < 2 ^ 32 → IsShort (export_of i e) (export_part e)
unfolding export_part
export_short i e h low = record {
  short =
      let item = item_short e.1 i h low in
      let both = size-append (type_before e.1) (module_export e.0 (entity i e.1) ∷ []) in
      let one = size-one (module_export e.0 (entity i e.1)) in
      let long = length-append (text e.0) (entity_bytes (entity i e.1)) in
      let a = text_short e.0 in
      omega (arith, item, both, one, long, a);
  types = let few = few_types e.1 in let both = function_types-append (type_before e.1) (module_export e.0 (entity i e.1) ∷ []) in omega (arith, few, both);
  count = let few = one_before e.1 in let both = length-append (type_before e.1) (module_export e.0 (entity i e.1) ∷ []) in omega (arith, few, both);
}

-- ---- all items of a list
-- What is declared of a list of so many items is short.
record AreShort (ds : List ModuleDecl) (items parts : ℕ) : Type 0 where
  short : size ds ≤ 30 * parts
  types : function_types ds ≤ items
  count : length ds ≤ 2 * items

module _ {A : Type 0} (f : ℕ → A → List ModuleDecl) (part : A → ℕ) (Fit : A → Type 0) (each : (i : ℕ) (x : A) → Fit x → i < 2 ^ 32 → IsShort (f i x) (part x)) where
  all_short : (i : ℕ) (xs : List A) → AllByRecursion Fit xs → i + length xs ≤ 2 ^ 32 → AreShort (in_order f i xs) (length xs) (sum_by part xs)
  all_short i [] h low = record { short = omega (arith, size-none); types = omega arith; count = omega arith }
  all_short i (x ∷ xs) h low =
      let one = each i x h.0 (low_enough i (length xs) low) in
      let rest = all_short (i + function_types (f i x)) xs h.1 (still_low i (function_types (f i x)) (length xs) one.types low) in
      let sizes = size-append (f i x) (in_order f (i + function_types (f i x)) xs) in
      let types = function_types-append (f i x) (in_order f (i + function_types (f i x)) xs) in
      let counts = length-append (f i x) (in_order f (i + function_types (f i x)) xs) in
      let a = one.short in
      let b = rest.short in
      let s = one.types in
      let t = rest.types in
      let m = one.count in
      let n = rest.count in
      record {
        short = omega (arith, sizes, a, b, sum_by-cons part x xs);
        types = omega (arith, types, s, t);
        count = omega (arith, counts, m, n);
      }
    where
      low_enough : (i n : ℕ) → i + suc n ≤ 2 ^ 32 → i < 2 ^ 32
      low_enough i n h = omega (arith, h)

      still_low : (i k n : ℕ) → k ≤ 1 → i + suc n ≤ 2 ^ 32 → (i + k) + n ≤ 2 ^ 32
      still_low i k n few h = omega (arith, few, h)

-- each item has a declaration at least, and a unit of weight
few_items : {A : Type 0} (f : ℕ → A → List ModuleDecl) → ((i : ℕ) (x : A) → 1 ≤ length (f i x)) → (i : ℕ) (xs : List A) → length xs ≤ length (in_order f i xs)
few_items f some i [] = omega arith
few_items f some i (x ∷ xs) =
    let rest = few_items f some (i + function_types (f i x)) xs in
    let one = some i x in
    let counts = length-append (f i x) (in_order f (i + function_types (f i x)) xs) in
    omega (arith, rest, one, counts)

few_parts : {A : Type 0} (part : A → ℕ) → ((x : A) → 1 ≤ part x) → (xs : List A) → length xs ≤ sum_by part xs
few_parts part some [] = omega arith
few_parts part some (x ∷ xs) =
    let rest = few_parts part some xs in
    let one = some x in
    omega (arith, rest, one, sum_by-cons part x xs)

import_some : (i : ℕ) (e : Pair × CoreExtern) → 1 ≤ length (import_of i e)
import_some i e = let both = length-append (type_before e.1) (module_import e.0.0 e.0.1 (entity i e.1) ∷ []) in omega (arith, both)

export_some : (i : ℕ) (e : Name × CoreExtern) → 1 ≤ length (export_of i e)
export_some i e = let both = length-append (type_before e.1) (module_export e.0 (entity i e.1) ∷ []) in omega (arith, both)

import_weighs : (e : Pair × CoreExtern) → 1 ≤ import_part e
unfolding import_part
import_weighs e = omega arith

export_weighs : (e : Name × CoreExtern) → 1 ≤ export_part e
unfolding export_part
export_weighs e = omega arith

-- ---- a module
module _ (m : ModuleType) (h : HaveLimits m) where
  both_short : length m.imports + length m.exports ≤ 2 ^ 32 → AreShort (declarations_of m) (length m.imports + length m.exports) (module_parts m)
  unfolding import_part export_part
  both_short low =
      let first = all_short import_of import_part (λ e. HasLimits e.1) import_short 0 m.imports h.imports (omega (arith, low)) in
      let t = first.types in
      let second = all_short export_of export_part (λ e. HasLimits e.1) export_short (function_types (in_order import_of 0 m.imports)) m.exports h.exports (omega (arith, t, low)) in
      let sizes = size-append (in_order import_of 0 m.imports) (in_order export_of (function_types (in_order import_of 0 m.imports)) m.exports) in
      let types = function_types-append (in_order import_of 0 m.imports) (in_order export_of (function_types (in_order import_of 0 m.imports)) m.exports) in
      let counts = length-append (in_order import_of 0 m.imports) (in_order export_of (function_types (in_order import_of 0 m.imports)) m.exports) in
      let a = first.short in
      let b = second.short in
      let u = second.types in
      let c = first.count in
      let d = second.count in
      record {
        short = omega (arith, sizes, a, b);
        types = omega (arith, types, t, u);
        count = omega (arith, counts, c, d);
      }

  -- a module that fits has few items, and so has one of little weight
  items_fit : ModuleFits (declarations_of m) → length m.imports + length m.exports ≤ 2 ^ 32
  items_fit fits =
      let first = few_items import_of import_some 0 m.imports in
      let second = few_items export_of export_some (function_types (in_order import_of 0 m.imports)) m.exports in
      let counts = length-append (in_order import_of 0 m.imports) (in_order export_of (function_types (in_order import_of 0 m.imports)) m.exports) in
      let count = fits.count in
      omega (arith, first, second, counts, count)

  parts_many : length m.imports + length m.exports ≤ module_parts m
  unfolding import_part export_part
  parts_many =
      let first = few_parts import_part import_weighs m.imports in
      let second = few_parts export_part export_weighs m.exports in
      omega (arith, first, second)

-- A module that fits has at most 6 bytes, and 30 for each unit of the weight of its parts.
pub modules-are-small : (m : ModuleType) → HaveLimits m → ModuleFits (declarations_of m) → length (module_bytes (declarations_of m)) ≤ 6 + 30 * module_parts m
unfolding size
modules-are-small m h fits =
    let short = (both_short m h (items_fit m h fits)).short in
    let head = index_short (length (declarations_of m)) fits.count in
    let whole = length-append (unsigned (length (declarations_of m))) (flat_map module_decl_bytes (declarations_of m)) in
    omega (arith, short, head, whole)

-- A module fits if its parts weigh little.
small-modules-fit : (m : ModuleType) → HaveLimits m → 30 * module_parts m < 2 ^ 32 → ModuleFits (declarations_of m)
unfolding size
small-modules-fit m h light =
    let many = parts_many m h in
    let all = both_short m h (omega (arith, many, light)) in
    let short = all.short in
    let count = all.count in
    record { count = omega (arith, many, light, count); size = omega (arith, short, light) }

-- ---- the first items of a module, which do not fit
heavy-from : (few all : ℕ) → few ≤ all → (30 * few < 2 ^ 32 → ⊥) → 2 ^ 32 ≤ 30 * all
heavy-from few all less none = let many = not-less (30 * few) none in omega (arith, less, many)
  where
    not-less : (n : ℕ) → (n < 2 ^ 32 → ⊥) → 2 ^ 32 ≤ n
    not-less n f = omega (arith, f)

fewer-imports : (m : ModuleType) (k : ℕ) → module_parts (record { imports = take k m.imports; exports = [] }) ≤ module_parts m
unfolding import_part export_part
fewer-imports m k = plus (sum_by import_part (take k m.imports)) (sum_by import_part m.imports) (sum_by export_part m.exports) (sum_by-take-le import_part m.imports k)
  where
    plus : (a b c : ℕ) → a ≤ b → a + 0 ≤ b + c
    plus a b c h = omega (arith, h)

fewer-exports : (m : ModuleType) (k : ℕ) → module_parts (record { imports = m.imports; exports = take k m.exports }) ≤ module_parts m
unfolding import_part export_part
fewer-exports m k = plus (sum_by import_part m.imports) (sum_by export_part (take k m.exports)) (sum_by export_part m.exports) (sum_by-take-le export_part m.exports k)
  where
    plus : (a b c : ℕ) → b ≤ c → a + b ≤ a + c
    plus a b c h = omega (arith, h)

-- the first imports
pub heavy-imports : (m : ModuleType) (k : ℕ) → Limited (take k m.imports) → (ModuleFits (in_order import_of 0 (take k m.imports)) → ⊥) → 2 ^ 32 ≤ 30 * module_parts m
heavy-imports m k limits large =
    let few : ModuleType = record { imports = take k m.imports; exports = [] } in
    heavy-from (module_parts few) (module_parts m) (fewer-imports m k)
    (λ light. large (subst ModuleFits (append-nil (in_order import_of 0 (take k m.imports))) (small-modules-fit few (record { imports = limits; exports = tt }) light)))

-- all imports, and the first exports
pub heavy-exports : (m : ModuleType) (k : ℕ) → Limited m.imports → Limited (take k m.exports)
    → (ModuleFits (in_order import_of 0 m.imports ++ in_order export_of (function_types (in_order import_of 0 m.imports)) (take k m.exports)) → ⊥) → 2 ^ 32 ≤ 30 * module_parts m
heavy-exports m k imports exports large =
    let few : ModuleType = record { imports = m.imports; exports = take k m.exports } in
    heavy-from (module_parts few) (module_parts m) (fewer-exports m k) (λ light. large (small-modules-fit few (record { imports = imports; exports = exports }) light))
