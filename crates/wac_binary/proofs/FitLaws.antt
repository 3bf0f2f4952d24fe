-- What has fewer than 2 ^ 32 bytes fits.
use Rattle.std.proofs.Common.{◌≡◌, ℕ, zero, suc, ◌+◌, ◌/◌, ◌%◌, ◌<◌, ◌≤◌, ◌^◌, List, [], ◌∷◌, ◌++◌, length, refl, ap, sym, ◌∙◌, arith, length-append, Bool, true, false, ltb}
use Rattle.std.specs.Prelude.{Option, Some, None, if◌then◌else◌, eqb, ◌&&◌}
use Rattle.std.specs.List.{AllByRecursion, flat_map}
use Rattle.wac_binary.specs.Leb.{groups, leb, unsigned}
use Rattle.wac_binary.specs.Items.{ValueDef, primitive_def, TypeDef, value_def, ModuleDecl, module_func, Decl, type_decl, decls, export_alias, outer_alias, Item, custom, core_type, nested, instantiate, alias_item, type_item, import_item, export_item}
use Rattle.wac_binary.specs.Bytes.{text, sort, value_def_bytes, type_bytes, module_decl_bytes, decl_bytes, decls_bytes, item_bytes, section_id, is_shared, Section, alone, joins, joined, sections_from, sections, contents, section_bytes, preamble, bytes_of}
use Rattle.wac_binary.specs.Indexes.{adds, is_in, indexes, decl_adds, declared}
use Rattle.wac_binary.specs.Fits.{SectionFits, Fits, DeclarationsFit, ModuleFits}
use Rattle.wac_binary.proofs.DeclBytes.{bytes_all}
use Rattle.wac_binary.proofs.SectionLaws.{joins_id}

-- no part is empty

groups_some : (limit k n : ℕ) → 1 ≤ length (groups limit k n)
unfolding groups
groups_some limit zero n = omega arith
groups_some limit (suc k) n = elim (ltb n limit) as (λ b. 1 ≤ length (if b then n ∷ [] else (n % 128 + 128) ∷ groups limit k (n / 128))) [ true ↦ omega arith | false ↦ omega arith ]

leb_some : (limit n : ℕ) → 1 ≤ length (leb limit n)
unfolding leb
leb_some limit n = groups_some limit n n

value_some : (t : ValueDef) → 1 ≤ length (value_def_bytes t)
value_some (primitive_def t) = omega arith
value_some _ = omega arith

type_some : (t : TypeDef) → 1 ≤ length (type_bytes t)
type_some (value_def t) = value_some t
type_some _ = omega arith

module_decl_some : (d : ModuleDecl) → 1 ≤ length (module_decl_bytes d)
module_decl_some (module_func ps rs) = omega arith
module_decl_some _ = omega arith

decl_some : (d : Decl) → 1 ≤ length (decl_bytes d)
decl_some (type_decl t) = omega arith
decl_some _ = omega arith

item_some : (x : Item) → is_shared (section_id x) ≡ true → 1 ≤ length (item_bytes x)
item_some (custom n bs) h = cc
item_some (core_type m) h = omega arith
item_some (nested bs) h = cc
item_some (instantiate c args) h = omega arith
item_some (alias_item (export_alias t i n)) h = omega (arith, length-append (sort t) (0 ∷ (unsigned i ++ text n)))
item_some (alias_item (outer_alias t k i)) h = omega (arith, length-append (sort t) (2 ∷ (unsigned k ++ unsigned i)))
item_some (type_item t) h = type_some t
item_some (import_item n d) h = omega arith
item_some (export_item n t i) h = omega arith

at_least : {A : Type 0} (f : A → List ℕ) → ((x : A) → 1 ≤ length (f x)) → (xs : List A) → length xs ≤ length (flat_map f xs)
at_least f p [] = omega arith
at_least f p (x ∷ xs) = omega (arith, length-append (f x) (flat_map f xs), p x, at_least f p xs)

-- core module types

pub module_fits : (ds : List ModuleDecl) → length (flat_map module_decl_bytes ds) < 2 ^ 32 → ModuleFits ds
module_fits ds h = let few = at_least module_decl_bytes module_decl_some ds in record { count = omega arith; size = h }

-- declarations

declared_few : (k : ℕ) (ds : List Decl) → declared k ds ≤ length ds
declared_few k [] = omega arith
declared_few k (d ∷ ds) =
    elim (eqb (decl_adds d) k) as (λ b. (if b then 1 else 0) + declared k ds ≤ suc (length ds)) [ true ↦ omega (arith, declared_few k ds) | false ↦ omega (arith, declared_few k ds) ]

pub declarations_fit : (ds : List Decl) → length (decls_bytes (decls ds)) < 2 ^ 32 → DeclarationsFit ds
declarations_fit ds h =
    let size : length (flat_map decl_bytes ds) < 2 ^ 32 = rw (← bytes_all ds) h in
    let few = at_least decl_bytes decl_some ds in
    record { count = omega arith; size = size; indexes_fit = λ k. omega (arith, declared_few k ds) }

-- items

one_index : (k : ℕ) (o : Option ℕ) → is_in k o ≤ 1
one_index k None = omega arith
one_index k (Some j) = elim (eqb j k) as (λ b. (if b then 1 else 0) ≤ 1) [ true ↦ omega arith | false ↦ omega arith ]

indexes_few : (k : ℕ) (xs : List Item) → indexes k xs ≤ length xs
indexes_few k [] = omega arith
indexes_few k (x ∷ xs) = omega (arith, one_index k (adds x), indexes_few k xs)

abbrev total : List Section → ℕ
total ss = length (flat_map section_bytes ss)

contents_longer : (s : Section) → length s.things ≤ length (contents s)
contents_longer s =
    elim (is_shared s.id) as (λ b. length s.things ≤ length ((if b then unsigned s.count else []) ++ s.things)) [ true ↦ omega (arith, length-append (unsigned s.count) s.things) | false ↦ omega arith ]

section_longer : (s : Section) → length (contents s) + 2 ≤ length (section_bytes s)
section_longer s = omega (arith, length-append (unsigned (length (contents s))) (contents s), leb_some 128 (length (contents s)))

and_left : (a b : Bool) → (a && b) ≡ true → a ≡ true
and_left true b e = refl
and_left false b e = e

joined_some : (s : Section) (x : Item) → joins s x ≡ true → 1 ≤ length (item_bytes x)
joined_some s x h = item_some x (sym (ap is_shared (joins_id (is_shared s.id) s.id (section_id x) h)) ∙ and_left (is_shared s.id) (eqb s.id (section_id x)) h)

-- the bytes of sections are more than the things of the first and the items after it
total_from : (s : Section) (xs : List Item) → length s.things + 1 + length xs ≤ total (sections_from s xs)
total_from s [] = omega (arith, length-append (section_bytes s) [], contents_longer s, section_longer s)
total_from s (x ∷ xs) =
    elim (joins s x) as (λ b. joins s x ≡ b → length s.things + 1 + suc (length xs) ≤ total (if b then sections_from (joined s x) xs else s ∷ sections_from (alone x) xs)) [
      | true ↦ λ e. omega (arith, length-append s.things (item_bytes x), joined_some s x e, total_from (joined s x) xs)
      | false ↦ λ e. omega (arith, length-append (section_bytes s) (flat_map section_bytes (sections_from (alone x) xs)), contents_longer s, section_longer s, total_from (alone x) xs)
    ] refl

one_fits : (s : Section) (n : ℕ) → s.count ≤ length s.things + 1 → length (section_bytes s) ≤ n → n < 2 ^ 32 → SectionFits s
one_fits s n c l h = record { count = omega (arith, contents_longer s, section_longer s); size = omega (arith, section_longer s) }

all_fit : (s : Section) (xs : List Item) → s.count ≤ length s.things + 1 → total (sections_from s xs) < 2 ^ 32 → AllByRecursion SectionFits (sections_from s xs)
all_fit s [] c h = (one_fits s (length (section_bytes s ++ [])) c (omega (arith, length-append (section_bytes s) [])) h, tt)
all_fit s (x ∷ xs) c h =
    elim (joins s x) as (λ b. joins s x ≡ b → total (if b then sections_from (joined s x) xs else s ∷ sections_from (alone x) xs) < 2 ^ 32 → AllByRecursion SectionFits (if b then sections_from (joined s x) xs else s ∷ sections_from (alone x) xs)) [
      | true ↦ λ e h. all_fit (joined s x) xs (omega (arith, length-append s.things (item_bytes x), joined_some s x e)) h
      | false ↦ λ e h.
          let l = length-append (section_bytes s) (flat_map section_bytes (sections_from (alone x) xs)) in
          (one_fits s (total (s ∷ sections_from (alone x) xs)) c (omega arith) h, all_fit (alone x) xs (omega arith) (omega arith))
    ] refl h

sections_fit : (items : List Item) → total (sections items) < 2 ^ 32 → AllByRecursion SectionFits (sections items)
sections_fit [] h = tt
sections_fit (x ∷ xs) h = all_fit (alone x) xs (omega arith) h

items_few : (items : List Item) → length items ≤ total (sections items)
items_few [] = omega arith
items_few (x ∷ xs) = omega (arith, total_from (alone x) xs)

pub items_fit : (items : List Item) → length (bytes_of items) < 2 ^ 32 → Fits items
unfolding bytes_of
items_fit items h =
    let l = length-append preamble (flat_map section_bytes (sections items)) in
    let t : total (sections items) < 2 ^ 32 = omega arith in
    record { sections_fit = sections_fit items t; indexes_fit = λ k. omega (arith, indexes_few k items, items_few items) }

-- what does not fit has as many bytes

from_none : (n : ℕ) (P : Type 0) → (n < 2 ^ 32 → P) → ¬ P → 2 ^ 32 ≤ n
from_none n P f none = let h : n < 2 ^ 32 → ⊥ = λ g. none (f g) in omega arith

pub items_large : (items : List Item) → ¬ Fits items → 2 ^ 32 ≤ length (bytes_of items)
items_large items = from_none (length (bytes_of items)) (Fits items) (items_fit items)

pub declarations_large : (ds : List Decl) → ¬ DeclarationsFit ds → 2 ^ 32 ≤ length (decls_bytes (decls ds))
declarations_large ds = from_none (length (decls_bytes (decls ds))) (DeclarationsFit ds) (declarations_fit ds)

pub module_large : (ds : List ModuleDecl) → ¬ ModuleFits ds → 2 ^ 32 ≤ length (flat_map module_decl_bytes ds)
module_large ds = from_none (length (flat_map module_decl_bytes ds)) (ModuleFits ds) (module_fits ds)
