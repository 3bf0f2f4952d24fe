-- How many bytes the custom sections of a component have.
use Rattle.std.proofs.Common.{ℕ, ◌+◌, ◌*◌, ◌/◌, ◌<◌, ◌≤◌, ◌^◌, Bool, true, false, List, [], ◌∷◌, ◌++◌, length, refl, ap, sym, subst, arith, ◌≡◌, ◌⊎◌, inl, inr, length-append}
use Rattle.std.specs.Prelude.{Result, IsErrAnd, if◌then◌else◌, codes}
use Rattle.std.specs.Borrow.{Bor}
use Rattle.std.specs.List.{AllByRecursion, flat_map, sum_by}
use Rattle.std.proofs.lemmas.Bool.{cases_lt}
use Rattle.std.proofs.lemmas.List.Sums.{sum_by-cons}
use Rattle.wac_types_shapes.specs.primitives.Name.{Name}
use Rattle.wac_binary.specs.Leb.{unsigned}
use Rattle.wac_binary.specs.private.LebLaws.{leb_last, leb_more, leb_length}
use Rattle.wac_binary.specs.declared.sorts.Sort.{Sort}
use Rattle.wac_binary.specs.declared.sorts.Sort.TheVariants as s
use Rattle.wac_binary.specs.declared.fault.BinaryFault.{BinaryFault}
use Rattle.wac_binary.specs.declared.fault.BinaryFault.TheVariants as fault
use Rattle.wac_binary.specs.Fits.{SectionFits, Fits}
use Rattle.wac_binary.specs.Items.{Item, custom}
use Rattle.wac_binary.specs.Views.{names_of}
use Rattle.wac_binary.specs.Bytes.{text, sort, vector, item_bytes, section_id, is_shared, Section, alone, joins, joined, sections_from}
use Rattle.wac_binary.specs.Customs as custom_section
use Rattle.wac_binary.specs.Customs.{same_sort, of_sort, naming, names_in, subsection, sorts_in_order, names_bytes, producers_bytes}
use Rattle.wac_encode_stacks.specs.private.Sizes.{item_size, SmallFits}
use Rattle.wac_encode_stacks.proofs.Sizes.{unsigned_short, text_short}
use Rattle.wac_graph_model.specs.declared.causes.errors.EncodeError.{EncodeError}
use Rattle.wac_graph_model.specs.declared.causes.errors.EncodeError.TheVariants as error
use Rattle.wac_graph_model.specs.private.causes.Faults.{encode_error}
use Rattle.wac_graph_model.specs.private.weight.Written.{indexes_cost}
use Rattle.wac_graph_reader.specs.private.writing.Sizes.{items_size, AddsWithin, FaultUnless, AreShortNames}
use Rattle.wac_graph_reader.proofs.lemmas.writing.ItemSizes.{sort_short, added_size, no_room, exit_within, exit_memory}

-- ---- numbers and texts
unsigned_few : (k : ℕ) → 1 ≤ k → length (unsigned k) ≤ k
unsigned_few k some = elim (cases_lt k 128) [
  | inl small ↦ rw (leb_last 128 k small) some
  | inr large ↦ let more = ap length (leb_more 128 k (omega arith) large) in let rest = leb_length 128 (k / 128) in omega (arith, more, rest, large)
]

text_few : (t : Name) → length t < 128 → length (text t) ≡ 1 + length t
text_few t few = let both = length-append (unsigned (length t)) t in let one = ap length (leb_last 128 (length t) few) in omega (arith, both, one)

-- ---- the last section
grown_small : (s : Section) (ys : List ℕ) → SectionFits (record { id = s.id; count = s.count + 1; things = s.things ++ ys }) → length ys < 2 ^ 32
grown_small s ys f =
    elim (is_shared s.id) as (λ b. length ((if b then unsigned (s.count + 1) else []) ++ (s.things ++ ys)) < 2 ^ 32 → length ys < 2 ^ 32) [
      | true ↦ λ g. omega (arith, length-append (unsigned (s.count + 1)) (s.things ++ ys), length-append s.things ys, g)
      | false ↦ λ g. omega (arith, length-append s.things ys, g)
    ] f.size

alone_small : (x : Item) → SectionFits (alone x) → length (item_bytes x) < 2 ^ 32
alone_small x f =
    elim (is_shared (section_id x)) as (λ b. length ((if b then unsigned 1 else []) ++ item_bytes x) < 2 ^ 32 → length (item_bytes x) < 2 ^ 32) [
      | true ↦ λ g. omega (arith, length-append (unsigned 1) (item_bytes x), g)
      | false ↦ λ g. g
    ] f.size

last_small : (s : Section) (xs : List Item) (x : Item) → AllByRecursion SectionFits (sections_from s (xs ++ x ∷ [])) → length (item_bytes x) < 2 ^ 32
last_small s [] x f =
    elim (joins s x) as (λ b. AllByRecursion SectionFits (if b then joined s x ∷ [] else s ∷ alone x ∷ []) → length (item_bytes x) < 2 ^ 32) [
      | true ↦ λ g. grown_small s (item_bytes x) g.0
      | false ↦ λ g. alone_small x g.1.0
    ] f
last_small s (y ∷ ys) x f =
    elim (joins s y) as (λ b. AllByRecursion SectionFits (if b then sections_from (joined s y) (ys ++ x ∷ []) else s ∷ sections_from (alone y) (ys ++ x ∷ [])) → length (item_bytes x) < 2 ^ 32) [
      | true ↦ λ g. last_small (joined s y) ys x g
      | false ↦ λ g. last_small (alone y) ys x g.1
    ] f

item_small : (xs : List Item) (x : Item) → Fits (xs ++ x ∷ []) → length (item_bytes x) < 2 ^ 32
item_small [] x f = alone_small x f.sections_fit.0
item_small (y ∷ ys) x f = last_small (alone y) ys x f.sections_fit

-- ---- the names of a sort
abbrev index_cost : ℕ × Name → ℕ
index_cost e = 41 + 2 * length e.1

naming_size : (e : ℕ × Name) → e.0 < 2 ^ 32 → length (naming e) ≤ 6 + 2 * length e.1
naming_size e short = omega (arith, length-append (unsigned e.0) (text e.1), unsigned_short e.0 short, text_short e.1)

namings_size : (es : List (ℕ × Name)) → AllByRecursion (λ e. e.0 < 2 ^ 32) es → 35 * length es + length (flat_map naming es) ≤ sum_by index_cost es
namings_size [] short = omega arith
namings_size (e ∷ es) short =
    let first = naming_size e short.0 in
    let rest = namings_size es short.1 in
    let both = length-append (naming e) (flat_map naming es) in
    omega (arith, first, rest, both, sum_by-cons (λ x. 41 + 2 * length x.1) e es)

-- the subsection of a sort is paid by its names, each of which has 34 bytes to spare
content_size : (t : Sort) (es : List (ℕ × Name)) → 1 ≤ length es → AllByRecursion (λ e. e.0 < 2 ^ 32) es → 34 * length es + length (names_in t es) ≤ 2 + sum_by index_cost es
content_size t es some short =
    let whole = length-append (sort t) (vector naming es) in
    let listed = length-append (unsigned (length es)) (flat_map naming es) in
    omega (arith, whole, listed, sort_short t, unsigned_few (length es) some, namings_size es short)

-- what is left of the names of a sort, once for the section
abbrev spare : List (ℕ × Name) → ℕ
spare [] = 0
spare (e ∷ es) = 26

Paid : (sum spared bytes : ℕ) → Type 0
Paid sum spared bytes = (spared + bytes ≤ sum) ⊎ ((2 ^ 32 ≤ sum) × (2 ^ 32 ≤ bytes))

subsection_size : (t : Sort) (es : List (ℕ × Name)) → AllByRecursion (λ e. e.0 < 2 ^ 32) es → Paid (sum_by index_cost es) (spare es) (length (subsection t es))
unfolding Paid
subsection_size t [] short = inl (omega arith)
subsection_size t (e ∷ es) short =
    let content = content_size t (e ∷ es) (omega arith) short in
    let both = length-append (unsigned (length (names_in t (e ∷ es)))) (names_in t (e ∷ es)) in
    elim (cases_lt (length (names_in t (e ∷ es))) (2 ^ 32)) [
      | inl small ↦ let head = unsigned_short (length (names_in t (e ∷ es))) small in inl (omega (arith, content, both, head))
      | inr large ↦ inr (omega (arith, content, large), omega (arith, both, large))
    ]

-- ---- all sorts
of_sort_short : (t : Sort) (names : List (Sort × ℕ × Name)) → AreShortNames names → AllByRecursion (λ e. e.0 < 2 ^ 32) (of_sort t names)
of_sort_short t [] short = tt
of_sort_short t (e ∷ names) short = by (same_sort e.0 t) (of_sort_short t names short.1)
  where
    by : (b : Bool) → AllByRecursion (λ x. x.0 < 2 ^ 32) (of_sort t names) → AllByRecursion (λ x. x.0 < 2 ^ 32) (if b then (e.1, e.2) ∷ of_sort t names else of_sort t names)
    by true rest = (short.0, rest)
    by false rest = rest

paid_both : (a b x y m n : ℕ) → Paid a x m → Paid b y n → Paid (a + b) (x + y) (m + n)
unfolding Paid
paid_both a b x y m n (inl p) (inl q) = inl (omega (arith, p, q))
paid_both a b x y m n (inl p) (inr q) = inr (omega (arith, q.0), omega (arith, q.1))
paid_both a b x y m n (inr p) q = inr (omega (arith, p.0), omega (arith, p.1))

nothing_paid : Paid 0 0 0
unfolding Paid
nothing_paid = inl (omega arith)

module _ (names : List (Sort × ℕ × Name)) (short : AreShortNames names) where
  sections_size : (ts : List Sort)
      → Paid (sum_by (λ t. sum_by index_cost (of_sort t names)) ts) (sum_by (λ t. spare (of_sort t names)) ts) (length (flat_map (λ t. subsection t (of_sort t names)) ts))
  sections_size [] = nothing_paid
  sections_size (t ∷ ts) =
      let first = subsection_size t (of_sort t names) (of_sort_short t names short) in
      let rest = sections_size ts in
      let both = length-append (subsection t (of_sort t names)) (flat_map (λ u. subsection u (of_sort u names)) ts) in
      let sums = sum_by-cons (λ u. sum_by index_cost (of_sort u names)) t ts in
      let spares = sum_by-cons (λ u. spare (of_sort u names)) t ts in
      alike _ _ _ _ _ _ sums spares both (paid_both _ _ _ _ _ _ first rest)
    where
      alike : (a b x y m n : ℕ) → b ≡ a → y ≡ x → n ≡ m → Paid a x m → Paid b y n
      alike a b x y m n e f h paid = subst (λ k. Paid k y n) (sym e) (subst (λ k. Paid a k n) (sym f) (subst (λ k. Paid a x k) (sym h) paid))

-- where there is a name, its sort has some to spare
first_spare : (e : Sort × ℕ × Name) (names : List (Sort × ℕ × Name)) (t : Sort) → (if same_sort e.0 t then 26 else 0) ≤ spare (of_sort t (e ∷ names))
first_spare e names t = by (same_sort e.0 t)
  where
    by : (b : Bool) → (if b then 26 else 0) ≤ spare (if b then (e.1, e.2) ∷ of_sort t names else of_sort t names)
    by true = omega arith
    by false = omega arith

six : (f : Sort → ℕ) → sum_by f sorts_in_order ≡ f s.«Type» + f s.Func + f s.Instance + f s.Component + f s.CoreModule + f s.Value
six f = omega arith

one_sort : (t : Sort) → sum_by (λ u. if same_sort t u then 26 else 0) sorts_in_order ≡ 26
one_sort s.«Type» = omega (arith, six (λ u. if same_sort s.«Type» u then 26 else 0))
one_sort s.Func = omega (arith, six (λ u. if same_sort s.Func u then 26 else 0))
one_sort s.Instance = omega (arith, six (λ u. if same_sort s.Instance u then 26 else 0))
one_sort s.Component = omega (arith, six (λ u. if same_sort s.Component u then 26 else 0))
one_sort s.CoreModule = omega (arith, six (λ u. if same_sort s.CoreModule u then 26 else 0))
one_sort s.Value = omega (arith, six (λ u. if same_sort s.Value u then 26 else 0))

all_spare : (e : Sort × ℕ × Name) (names : List (Sort × ℕ × Name)) → 26 ≤ sum_by (λ t. spare (of_sort t (e ∷ names))) sorts_in_order
all_spare e names =
    let one = one_sort e.0 in
    let a = six (λ u. if same_sort e.0 u then 26 else 0) in
    let b = six (λ t. spare (of_sort t (e ∷ names))) in
    omega (arith, one, a, b, first_spare e names s.«Type», first_spare e names s.Func, first_spare e names s.Instance, first_spare e names s.Component, first_spare e names s.CoreModule, first_spare e names s.Value)

-- the item of the custom section
names_paid : (names : List (Sort × ℕ × Name)) → (names ≡ [] → ⊥) → AreShortNames names → (26 + length (names_bytes names) ≤ indexes_cost names) ⊎ ((2 ^ 32 ≤ indexes_cost names) × (2 ^ 32 ≤ length (names_bytes names)))
unfolding names_bytes Paid
names_paid [] some short = absurd (some refl)
names_paid (e ∷ names) some short = elim (sections_size (e ∷ names) short sorts_in_order) [
  | inl paid ↦ let more = all_spare e names in inl (omega (arith, paid, more))
  | inr large ↦ inr large
]

names_item : (bytes : List ℕ) → item_size (custom custom_section.component_name bytes) ≡ 26 + length bytes
names_item bytes = let both = length-append (text custom_section.component_name) bytes in let head = text_few custom_section.component_name (omega arith) in omega (arith, both, head)

-- If the bytes of the section are below 2 ^ 32, it is paid by the names. Else the names are as heavy.
pub names_fit : (names : List (Sort × ℕ × Name)) → (names ≡ [] → ⊥) → AreShortNames names → length (names_bytes names) < 2 ^ 32 → item_size (custom custom_section.component_name (names_bytes names)) ≤ indexes_cost names
names_fit names some short few =
    let item = names_item (names_bytes names) in
    elim (names_paid names some short) [
      | inl paid ↦ omega (arith, paid, item)
      | inr large ↦ omega (arith, few, large.1)
    ]

pub names_heavy : (names : List (Sort × ℕ × Name)) → (names ≡ [] → ⊥) → AreShortNames names → (n : ℕ) → 2 ^ 32 ≤ n + item_size (custom custom_section.component_name (names_bytes names)) → 2 ^ 32 ≤ n + indexes_cost names
names_heavy names some short n large =
    let item = names_item (names_bytes names) in
    elim (names_paid names some short) [
      | inl paid ↦ omega (arith, paid, item, large)
      | inr heavy ↦ omega (arith, heavy.0)
    ]

pub names_added : (old new : List Item) (names : List (Sort × ℕ × Name)) (bytes : List ℕ) (n : ℕ) → (names ≡ [] → ⊥) → AreShortNames names → bytes ≡ names_bytes names → new ≡ old ++ custom custom_section.component_name bytes ∷ [] → Fits new → indexes_cost names ≤ n
    → items_size new ≤ items_size old + n
names_added old new names bytes n some short same is fit less =
    let whole = item_small old (custom custom_section.component_name bytes) (subst Fits is fit) in
    let both = length-append (text custom_section.component_name) bytes in
    let few : length (names_bytes names) < 2 ^ 32 = subst (λ b. length b < 2 ^ 32) same (omega (arith, whole, both)) in
    let paid = names_fit names some short few in
    added_size old new (custom custom_section.component_name bytes) n is (omega (arith, subst (λ b. item_size (custom custom_section.component_name b) ≤ indexes_cost names) (sym same) paid, less))

pub exit_names : SmallFits → {U : Type 0} (old new : List Item) (names : List (Sort × ℕ × Name)) (bytes : List ℕ) (n : ℕ) (f : BinaryFault) (r : Result U EncodeError) → IsErrAnd r (λ y. y ≡ encode_error f) → (names ≡ [] → ⊥) → AreShortNames names → bytes ≡ names_bytes names
    → indexes_cost names ≤ n → FaultUnless f (Fits (old ++ custom custom_section.component_name bytes ∷ [])) → AddsWithin n old new r
exit_names fits old new names bytes n fault.TooLarge r h some short same less none =
    let x = custom custom_section.component_name (names_bytes names) in
    let many = no_room fits old x (item_size x) (omega arith) (subst (λ b. Fits (old ++ custom custom_section.component_name b ∷ []) → ⊥) same none) in
    let heavy = names_heavy names some short (items_size old) many in
    exit_within n old new r error.TooLarge h (λ large. omega (arith, heavy, less))
exit_names fits old new names bytes n fault.OutOfMemory r h some short same less none = exit_memory n old new r h

-- ---- the processor
pub processor_item : (name version : Name) → item_size (custom custom_section.producers (producers_bytes name version)) ≤ 48 + 2 * (length name + length version)
unfolding producers_bytes
processor_item name version =
    let whole = length-append (text custom_section.producers) (producers_bytes name version) in
    let head = text_few custom_section.producers (omega arith) in
    let field = length-append (text (codes "processed-by")) (1 ∷ (text name ++ text version)) in
    let by = text_few (codes "processed-by") (omega arith) in
    let both = length-append (text name) (text version) in
    omega (arith, whole, head, field, by, both, text_short name, text_short version)

-- ---- names that are pushed
pub short_push : (names : List (Sort × ℕ × Bor (List ℕ))) (t : Sort) (i : ℕ) (n : Bor (List ℕ)) → AreShortNames (names_of names) → i < 2 ^ 32 → AreShortNames (names_of (names ++ (t, i, n) ∷ []))
short_push [] t i n all small = (small, tt)
short_push (e ∷ names) t i n all small = (all.0, short_push names t i n all.1 small)

pub short_joined : (names more : List (Sort × ℕ × Name)) → AreShortNames names → AreShortNames more → AreShortNames (names ++ more)
short_joined [] more a b = b
short_joined (e ∷ names) more a b = (a.0, short_joined names more a.1 b)
