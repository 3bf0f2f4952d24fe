-- The sizes of numbers, texts, items and contents.
use Rattle.std.proofs.Common.{◌≡◌, ℕ, ◌+◌, ◌*◌, ◌/◌, ◌<◌, ◌≤◌, ◌^◌, List, [], ◌∷◌, ◌++◌, length, refl, ap, sym, subst, arith, length-append, true, false, ltb}
use Rattle.std.specs.Prelude.{if◌then◌else◌, eqb, Option, Some, None}
use Rattle.std.specs.List.{AllByRecursion, flat_map, sum_by}
use Rattle.std.proofs.lemmas.Bool.{ltb-true, ltb-false}
use Rattle.std.proofs.lemmas.List.Sums.{sum_by-cons, sum_by_push}
use Rattle.wac_types_shapes.specs.primitives.Name.{Name}
use Rattle.wac_types_shapes.specs.primitives.Tree.{Side, imported, exported}
use Rattle.wac_binary.specs.Leb.{leb, unsigned, signed}
use Rattle.wac_binary.specs.private.LebLaws.{leb_last, leb_more, leb_length}
use Rattle.wac_binary.specs.declared.sorts.Sort.TheVariants as s
use Rattle.wac_binary.specs.declared.sorts.Description.{Description}
use Rattle.wac_binary.specs.Items.{TypeDef, Alias, export_alias, outer_alias, component_def, instance_def, Decl, decls, type_decl, alias_decl, Item, type_item, alias_item, import_item}
use Rattle.wac_binary.specs.Bytes.{text, described, count, section_id, type_bytes, alias_bytes, decl_bytes, decls_bytes, item_bytes, is_shared, Section, alone, joins, joined, sections_from, sections, contents, section_bytes, preamble, bytes_of}
use Rattle.wac_binary.specs.Indexes.{adds, is_in, indexes}
use Rattle.wac_binary.specs.Fits.{SectionFits, Fits, DeclarationsFit}
use Rattle.wac_encode_stacks.specs.Scopes.{Content, declarations, root, and_def, and_alias}
use Rattle.wac_encode_stacks.specs.Listed.{side_decl}
use Rattle.wac_encode_stacks.specs.private.Sizes.{item_size, size_of, ContentFits, BytesAreLess, SmallFits}

-- how long the numbers below a bound are, seven bits a byte

Short : (limit bound bytes : ℕ) → Type 0
Short limit bound bytes = (n : ℕ) → n < bound → length (leb limit n) ≤ bytes

one_group : (limit : ℕ) → Short limit limit 1
unfolding Short
one_group limit n h = rw (leb_last limit n h) (omega arith)

more_groups : (limit bound bytes : ℕ) → 0 < limit → 1 ≤ bytes → Short limit bound bytes → Short limit (128 * bound) (bytes + 1)
unfolding Short
more_groups limit bound bytes p q s n h =
    elim (ltb n limit) as (λ t. ltb n limit ≡ t → length (leb limit n) ≤ bytes + 1) [
      | true ↦ λ l. rw (leb_last limit n (ltb-true n limit l)) (omega arith)
      | false ↦ λ l. rw (leb_more limit n p (ltb-false n limit l)) (omega (arith, s (n / 128) (omega arith)))
    ] refl

pub unsigned_short : (n : ℕ) → n < 2 ^ 32 → length (unsigned n) ≤ 5
unfolding Short
unsigned_short n h =
    let m = λ (b k : ℕ) (q : 1 ≤ k) (s : Short 128 b k). more_groups 128 b k (omega arith) q s in
    m _ 4 (omega arith) (m _ 3 (omega arith) (m _ 2 (omega arith) (m _ 1 (omega arith) (one_group 128)))) n (omega arith)

pub signed_short : (n : ℕ) → n < 2 ^ 32 → length (signed n) ≤ 5
unfolding Short
signed_short n h =
    let m = λ (b k : ℕ) (q : 1 ≤ k) (s : Short 64 b k). more_groups 64 b k (omega arith) q s in
    m _ 4 (omega arith) (m _ 3 (omega arith) (m _ 2 (omega arith) (m _ 1 (omega arith) (one_group 64)))) n (omega arith)

-- texts, descriptions, value types and aliases

pub text_short : (n : Name) → length (text n) ≤ 1 + 2 * length n
text_short n = omega (arith, length-append (unsigned (length n)) n, leb_length 128 (length n))

pub outer_alias_short : (k i : ℕ) → k < 2 ^ 32 → i < 2 ^ 32 → length (alias_bytes (outer_alias s.Type k i)) ≤ 12
outer_alias_short k i h g = omega (arith, length-append (unsigned k) (unsigned i), unsigned_short k h, unsigned_short i g)

pub export_alias_short : (j : ℕ) (n : Name) → j < 2 ^ 32 → length (alias_bytes (export_alias s.Type j n)) ≤ 8 + 2 * length n
export_alias_short j n h = omega (arith, length-append (unsigned j) (text n), unsigned_short j h, text_short n)

-- sections of the root

one_index : (k : ℕ) (o : Option ℕ) → is_in k o ≤ 1
one_index k None = omega arith
one_index k (Some j) = elim (eqb j k) as (λ b. (if b then 1 else 0) ≤ 1) [ true ↦ omega arith | false ↦ omega arith ]

indexes_small : (k : ℕ) (xs : List Item) → indexes k xs ≤ sum_by item_size xs
indexes_small k [] = omega arith
indexes_small k (x ∷ xs) = omega (arith, one_index k (adds x), indexes_small k xs, sum_by-cons item_size x xs)

contents_short : (s : Section) → s.count < 2 ^ 32 → length (contents s) ≤ 5 + length s.things
contents_short s h =
    elim (is_shared s.id) as (λ b. length ((if b then unsigned s.count else []) ++ s.things) ≤ 5 + length s.things) [
      | true ↦ omega (arith, length-append (unsigned s.count) s.things, unsigned_short s.count h)
      | false ↦ omega arith
    ]

one_small : (s : Section) → 1 ≤ s.count → 11 * s.count + length s.things < 2 ^ 32 → SectionFits s
one_small s c h = let few : s.count < 2 ^ 32 = omega (arith, h) in record { count = few; size = omega (arith, contents_short s few, h, c) }

all_small : (s : Section) (xs : List Item) → 1 ≤ s.count → 11 * s.count + length s.things + sum_by item_size xs < 2 ^ 32 → AllByRecursion SectionFits (sections_from s xs)
all_small s [] c h = (one_small s c (omega (arith, h)), tt)
all_small s (x ∷ xs) c h =
    let l = sum_by-cons item_size x xs in
    elim (joins s x) as (λ b. AllByRecursion SectionFits (if b then sections_from (joined s x) xs else s ∷ sections_from (alone x) xs)) [
      | true ↦ all_small (joined s x) xs (omega arith) (omega (arith, length-append s.things (item_bytes x), l, h))
      | false ↦ (one_small s c (omega (arith, l, h)), all_small (alone x) xs (omega arith) (omega (arith, l, h)))
    ]

sections_small : (items : List Item) → sum_by item_size items < 2 ^ 32 → AllByRecursion SectionFits (sections items)
sections_small [] h = tt
sections_small (x ∷ xs) h = all_small (alone x) xs (omega arith) (omega (arith, sum_by-cons item_size x xs, h))

section_short : (s : Section) → 1 ≤ s.count → SectionFits s → length (section_bytes s) ≤ 11 * s.count + length s.things
section_short s c f = omega (arith, length-append (unsigned (length (contents s))) (contents s), unsigned_short (length (contents s)) f.size, contents_short s f.count, c)

all_short : (s : Section) (xs : List Item) → 1 ≤ s.count → AllByRecursion SectionFits (sections_from s xs) → length (flat_map section_bytes (sections_from s xs)) ≤ 11 * s.count + length s.things + sum_by item_size xs
all_short s [] c f = omega (arith, length-append (section_bytes s) [], section_short s c f.0)
all_short s (x ∷ xs) c f =
    let l = sum_by-cons item_size x xs in
    elim (joins s x) as (λ b. AllByRecursion SectionFits (if b then sections_from (joined s x) xs else s ∷ sections_from (alone x) xs)
    → length (flat_map section_bytes (if b then sections_from (joined s x) xs else s ∷ sections_from (alone x) xs)) ≤ 11 * s.count + length s.things + sum_by item_size (x ∷ xs)) [
      | true ↦ λ g. omega (arith, all_short (joined s x) xs (omega arith) g, length-append s.things (item_bytes x), l)
      | false ↦ λ g. omega (arith, length-append (section_bytes s) (flat_map section_bytes (sections_from (alone x) xs)), section_short s c g.0, all_short (alone x) xs (omega arith) g.1, l)
    ] f

sections_short : (items : List Item) → AllByRecursion SectionFits (sections items) → length (flat_map section_bytes (sections items)) ≤ sum_by item_size items
sections_short [] f = omega arith
sections_short (x ∷ xs) f = omega (arith, all_short (alone x) xs (omega arith) f, sum_by-cons item_size x xs)

pub bytes_are_less : BytesAreLess
unfolding bytes_of
bytes_are_less items f = omega (arith, length-append preamble (flat_map section_bytes (sections items)), sections_short items f.sections_fit)

-- contents

bytes_together : (ds : List Decl) → decls_bytes (decls ds) ≡ flat_map decl_bytes ds
bytes_together [] = refl
bytes_together (d ∷ ds) = ap (λ t. decl_bytes d ++ t) (bytes_together ds)

pub small_fits : ((ds : List Decl) → length (decls_bytes (decls ds)) < 2 ^ 32 → DeclarationsFit ds) → SmallFits
small_fits law (declarations ds) h = law ds (rw (bytes_together ds) h)
small_fits law (root items) h = record { sections_fit = sections_small items h; indexes_fit = λ k. omega (arith, indexes_small k items, h) }

pub size_decl : (ds : List Decl) (d : Decl) → length (flat_map decl_bytes (ds ++ d ∷ [])) ≡ length (flat_map decl_bytes ds) + length (decl_bytes d)
size_decl [] d = omega (arith, length-append (decl_bytes d) [])
size_decl (x ∷ ds) d = omega (arith, length-append (decl_bytes x) (flat_map decl_bytes (ds ++ d ∷ [])), length-append (decl_bytes x) (flat_map decl_bytes ds), size_decl ds d)

pub size_item : (items : List Item) (i : Item) → sum_by item_size (items ++ i ∷ []) ≡ sum_by item_size items + item_size i
size_item items i = sum_by_push item_size items i

-- what goes before a type or an alias in such a content
abbrev pub head_of : Content → ℕ
head_of (declarations ds) = 1
head_of (root items) = 11

pub size_def : (t : TypeDef) (x : Content) → size_of (and_def t x) ≡ size_of x + head_of x + length (type_bytes t)
size_def t (declarations ds) = omega (arith, size_decl ds (type_decl t))
size_def t (root items) = omega (arith, size_item items (type_item t))

pub size_alias : (a : Alias) (x : Content) → size_of (and_alias a x) ≡ size_of x + head_of x + length (alias_bytes a)
size_alias a (declarations ds) = omega (arith, size_decl ds (alias_decl a))
size_alias a (root items) = omega (arith, size_item items (alias_item a))

pub size_listed : (side : Side) (n : Name) (d : Description) (ds : List Decl) → length (described d) ≤ 7 → size_of (declarations (ds ++ side_decl side n d ∷ [])) ≤ size_of (declarations ds) + (10 + 2 * length n)
size_listed imported n d ds h = omega (arith, size_decl ds (side_decl imported n d), length-append (text n) (described d), text_short n, h)
size_listed exported n d ds h = omega (arith, size_decl ds (side_decl exported n d), length-append (text n) (described d), text_short n, h)

-- the declarations of a type are no more than their bytes
decl_some : (d : Decl) → 1 ≤ length (decl_bytes d)
decl_some (type_decl t) = omega arith
decl_some _ = omega arith

pub decls_few : (ds : List Decl) → length ds ≤ length (flat_map decl_bytes ds)
decls_few [] = omega arith
decls_few (d ∷ ds) = omega (arith, length-append (decl_bytes d) (flat_map decl_bytes ds), decl_some d, decls_few ds)

-- what is added to a content that fits is small

grown_small : (s : Section) (ys : List ℕ) → SectionFits (record { id = s.id; count = s.count + 1; things = s.things ++ ys }) → length ys < 2 ^ 32
grown_small s ys f =
    elim (is_shared s.id) as (λ b. length ((if b then unsigned (s.count + 1) else []) ++ (s.things ++ ys)) < 2 ^ 32 → length ys < 2 ^ 32) [
      | true ↦ λ g. omega (arith, length-append (unsigned (s.count + 1)) (s.things ++ ys), length-append s.things ys, g)
      | false ↦ λ g. omega (arith, length-append s.things ys, g)
    ] f.size

alone_small : (x : Item) → SectionFits (alone x) → length (item_bytes x) < 2 ^ 32
alone_small x f =
    elim (is_shared (section_id x)) as (λ b. length ((if b then unsigned 1 else []) ++ item_bytes x) < 2 ^ 32 → length (item_bytes x) < 2 ^ 32) [
      | true ↦ λ g. omega (arith, length-append (unsigned 1) (item_bytes x), g)
      | false ↦ λ g. g
    ] f.size

last_small : (s : Section) (xs : List Item) (x : Item) → AllByRecursion SectionFits (sections_from s (xs ++ x ∷ [])) → length (item_bytes x) < 2 ^ 32
last_small s [] x f =
    elim (joins s x) as (λ b. AllByRecursion SectionFits (if b then joined s x ∷ [] else s ∷ alone x ∷ []) → length (item_bytes x) < 2 ^ 32) [
      | true ↦ λ g. grown_small s (item_bytes x) g.0
      | false ↦ λ g. alone_small x g.1.0
    ] f
last_small s (y ∷ ys) x f =
    elim (joins s y) as (λ b. AllByRecursion SectionFits (if b then sections_from (joined s y) (ys ++ x ∷ []) else s ∷ sections_from (alone y) (ys ++ x ∷ [])) → length (item_bytes x) < 2 ^ 32) [
      | true ↦ λ g. last_small (joined s y) ys x g
      | false ↦ λ g. last_small (alone y) ys x g.1
    ] f

item_small : (xs : List Item) (x : Item) → Fits (xs ++ x ∷ []) → length (item_bytes x) < 2 ^ 32
item_small [] x f = alone_small x f.sections_fit.0
item_small (y ∷ ys) x f = last_small (alone y) ys x f.sections_fit

pub def_small : (t : TypeDef) (x : Content) → ContentFits (and_def t x) → length (type_bytes t) < 2 ^ 32
def_small t (declarations ds) f = let size = size_decl ds (type_decl t) in let small = f.size in omega (arith, size, small)
def_small t (root items) f = item_small items (type_item t) f

-- a component type or an instance type, by its declarations

count_is : (ds : List Decl) → count (decls ds) ≡ length ds
count_is [] = refl
count_is (d ∷ ds) = let rest = count_is ds in omega (arith, rest)

pub component_short : (ds : List Decl) → length ds < 2 ^ 32 → length (type_bytes (component_def (decls ds))) ≤ 6 + length (flat_map decl_bytes ds)
component_short ds few =
    let both = length-append (unsigned (count (decls ds))) (decls_bytes (decls ds)) in
    let same = ap length (bytes_together ds) in
    let short : length (unsigned (count (decls ds))) ≤ 5 = subst (λ (n : ℕ). length (unsigned n) ≤ 5) (sym (count_is ds)) (unsigned_short (length ds) few) in
    omega (arith, both, same, short)

pub instance_short : (ds : List Decl) → length ds < 2 ^ 32 → length (type_bytes (instance_def (decls ds))) ≤ 6 + length (flat_map decl_bytes ds)
instance_short ds few =
    let both = length-append (unsigned (count (decls ds))) (decls_bytes (decls ds)) in
    let same = ap length (bytes_together ds) in
    let short : length (unsigned (count (decls ds))) ≤ 5 = subst (λ (n : ℕ). length (unsigned n) ≤ 5) (sym (count_is ds)) (unsigned_short (length ds) few) in
    omega (arith, both, same, short)

-- at least their declarations
pub component_long : (ds : List Decl) → length (flat_map decl_bytes ds) ≤ length (type_bytes (component_def (decls ds)))
component_long ds = let both = length-append (unsigned (count (decls ds))) (decls_bytes (decls ds)) in let same = ap length (bytes_together ds) in omega (arith, both, same)

pub instance_long : (ds : List Decl) → length (flat_map decl_bytes ds) ≤ length (type_bytes (instance_def (decls ds)))
instance_long ds = let both = length-append (unsigned (count (decls ds))) (decls_bytes (decls ds)) in let same = ap length (bytes_together ds) in omega (arith, both, same)

-- imports of the root, core module types and primitive types

pub size_import : (n : Name) (d : Description) (items : List Item) → length (described d) ≤ 7 → sum_by item_size (items ++ import_item n d ∷ []) ≤ sum_by item_size items + (20 + 2 * length n)
size_import n d items h = let size = size_item items (import_item n d) in omega (arith, size, length-append (text n) (described d), text_short n, h)
