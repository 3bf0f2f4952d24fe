-- The bytes of a component determine its items.
use Rattle.std.proofs.Common.{◌≡◌, ℕ, List, [], ◌∷◌, ◌++◌, length, refl, ap, sym, ◌∙◌, subst, arith, append_assoc, append-nil, length-append, Bool, true, false}
use Rattle.std.specs.Prelude.{if◌then◌else◌, ◌&&◌, eqb}
use Rattle.std.specs.List.{flat_map, AllByRecursion}
use Rattle.std.proofs.lemmas.Bool.Decides.{nat_tests}
use Rattle.std.proofs.lemmas.List.{append_cancel_left}
use Rattle.wac_binary.specs.declared.sorts.Sort.{Sort}
use Rattle.wac_binary.specs.Leb.{unsigned}
use Rattle.wac_binary.specs.Items.{Item, custom, core_type, nested, instantiate, alias_item, type_item, import_item, export_item}
use Rattle.wac_binary.specs.Bytes.{text, sort, argument, item_bytes, section_id, is_shared, Section, alone, joins, joined, sections_from, sections, contents, section_bytes, preamble, bytes_of}
use Rattle.wac_binary.specs.private.OneReading.{OneReading, one_unsigned, one_pair, one_vector, one_text, heads, same_length}
use Rattle.wac_binary.specs.private.OneModule.{one_module}
use Rattle.wac_binary.specs.private.OneItem.{one_sort, one_described, one_alias, one_type}

one_argument_at : (s t : List ℕ × Sort × ℕ) (x y : List ℕ) → argument s ++ x ≡ argument t ++ y → (s ≡ t) × (x ≡ y)
one_argument_at s t x y h =
    let r = (one_pair one_text (one_pair one_sort one_unsigned)).one (s.0, (s.1, s.2)) (t.0, (t.1, t.2)) x y
    (ap (λ l. l ++ x) (sym (append_assoc (text s.0) (sort s.1) (unsigned s.2))) ∙ h ∙ ap (λ l. l ++ y) (append_assoc (text t.0) (sort t.1) (unsigned t.2))) in
    (λ i. ((r.0 i).0, (r.0 i).1.0, (r.0 i).1.1), r.1)

one_argument : OneReading argument
one_argument = record { one = one_argument_at }

one_end : OneReading (λ (n : ℕ). unsigned n ++ 0 ∷ [])
one_end = record {
  one = λ a b x y e.
      let r = one_unsigned.one a b (0 ∷ x) (0 ∷ y) (sym (append_assoc (unsigned a) (0 ∷ []) x) ∙ e ∙ append_assoc (unsigned b) (0 ∷ []) y) in
      (r.0, (heads 0 0 x y r.1).1);
}

regroup : (a b c d x : List ℕ) → (((a ++ b) ++ c) ++ d) ++ x ≡ (a ++ (b ++ (c ++ d))) ++ x
regroup a b c d x = grind (arith, append_assoc)

-- Items of one section that can contain several.
one_item : (a b : Item) (x y : List ℕ) → section_id a ≡ section_id b → is_shared (section_id a) ≡ true → item_bytes a ++ x ≡ item_bytes b ++ y → (a ≡ b) × (x ≡ y)
one_item (core_type s) (core_type t) x y i k h = let r = one_module.one s t x y h in (ap core_type r.0, r.1)
one_item (instantiate c s) (instantiate g t) x y i k h = let r = (one_pair one_unsigned (one_vector one_argument)).one (c, s) (g, t) x y (heads _ _ _ _ h).1 in (λ j. instantiate (r.0 j).0 (r.0 j).1, r.1)
one_item (alias_item s) (alias_item t) x y i k h = let r = one_alias.one s t x y h in (ap alias_item r.0, r.1)
one_item (type_item s) (type_item t) x y i k h = let r = one_type.one s t x y h in (ap type_item r.0, r.1)
one_item (import_item n s) (import_item m t) x y i k h = let r = (one_pair one_text one_described).one (n, s) (m, t) x y (heads _ _ _ _ h).1 in (λ j. import_item (r.0 j).0 (r.0 j).1, r.1)
one_item (export_item n s c) (export_item m t g) x y i k h =
    let r = (one_pair one_text (one_pair one_sort one_end)).one (n, (s, c)) (m, (t, g)) x y (sym (regroup (text n) (sort s) (unsigned c) (0 ∷ []) x) ∙ (heads _ _ _ _ h).1 ∙ regroup (text m) (sort t) (unsigned g) (0 ∷ []) y) in
    (λ j. export_item (r.0 j).0 (r.0 j).1.0 (r.0 j).1.1, r.1)
one_item (custom n s) b x y i k h = absurd (cc)
one_item (nested s) b x y i k h = absurd (cc)
one_item _ _ x y i k h = absurd (omega arith)

-- The items of a section.
pub record Made (s : Section) : Type 0 where
  pub items : List Item
  pub ids : AllByRecursion (λ x. section_id x ≡ s.id) items
  pub count_is : s.count ≡ length items
  pub things_are : s.things ≡ flat_map item_bytes items
  pub one_alone : is_shared s.id ≡ false → length items ≡ 1

one_items : (id : ℕ) (us vs : List Item) → is_shared id ≡ true → AllByRecursion (λ x. section_id x ≡ id) us → AllByRecursion (λ x. section_id x ≡ id) vs
    → length us ≡ length vs → flat_map item_bytes us ≡ flat_map item_bytes vs → us ≡ vs
one_items id [] [] k a b l h = refl
one_items id [] (v ∷ vs) k a b l h = absurd (omega arith)
one_items id (u ∷ us) [] k a b l h = absurd (omega arith)
one_items id (u ∷ us) (v ∷ vs) k a b l h =
    let r = one_item u v (flat_map item_bytes us) (flat_map item_bytes vs) (a.0 ∙ sym b.0) (ap is_shared a.0 ∙ k) h in
    let q = one_items id us vs k a.1 b.1 (omega arith) r.1 in
    λ i. r.0 i ∷ q i

-- Items that have a section of their own.
one_single : (u v : Item) → section_id u ≡ section_id v → is_shared (section_id u) ≡ false → item_bytes u ≡ item_bytes v → u ≡ v
one_single (custom n s) (custom m t) i k h = let r = one_text.one n m s t h in λ j. custom (r.0 j) (r.1 j)
one_single (nested s) (nested t) i k h = ap nested h
one_single (core_type s) b i k h = absurd (cc)
one_single (instantiate c s) b i k h = absurd (cc)
one_single (alias_item s) b i k h = absurd (cc)
one_single (type_item s) b i k h = absurd (cc)
one_single (import_item n s) b i k h = absurd (cc)
one_single (export_item n s c) b i k h = absurd (cc)
one_single _ _ i k h = absurd (omega arith)

single_items : (id : ℕ) (us vs : List Item) → is_shared id ≡ false → AllByRecursion (λ x. section_id x ≡ id) us → AllByRecursion (λ x. section_id x ≡ id) vs
    → length us ≡ 1 → length vs ≡ 1 → flat_map item_bytes us ≡ flat_map item_bytes vs → us ≡ vs
single_items id (u ∷ []) (v ∷ []) k a b l m h =
    ap (λ t. t ∷ []) (one_single u v (a.0 ∙ sym b.0) (ap is_shared a.0 ∙ k) (sym (append-nil (item_bytes u)) ∙ h ∙ append-nil (item_bytes v)))
single_items id [] vs k a b l m h = absurd (omega arith)
single_items id us [] k a b l m h = absurd (omega arith)
single_items id (u ∷ w ∷ us) vs k a b l m h = absurd (omega arith)
single_items id us (v ∷ w ∷ vs) k a b l m h = absurd (omega arith)

-- The contents of a section determine its items.
in_contents : (s t : Section) (a : Made s) (b : Made t) → s.id ≡ t.id → contents s ≡ contents t → a.items ≡ b.items
in_contents s t a b i h = by (is_shared s.id) refl
  where
    ids_b : AllByRecursion (λ x. section_id x ≡ s.id) b.items
    ids_b = subst (λ (n : ℕ). AllByRecursion (λ x. section_id x ≡ n) b.items) (sym i) b.ids

    opened : (s : Section) (c : Bool) → is_shared s.id ≡ c → contents s ≡ (if c then unsigned s.count else []) ++ s.things
    opened s c k = ap (λ (c : Bool). (if c then unsigned s.count else []) ++ s.things) k

    by : (c : Bool) → is_shared s.id ≡ c → a.items ≡ b.items
    by true k =
        let r = one_unsigned.one s.count t.count s.things t.things (sym (opened s true k) ∙ h ∙ opened t true (sym (ap is_shared i) ∙ k)) in
        one_items s.id a.items b.items k a.ids ids_b (sym a.count_is ∙ r.0 ∙ b.count_is) (sym a.things_are ∙ r.1 ∙ b.things_are)
    by false k =
        let r = sym (opened s false k) ∙ h ∙ opened t false (sym (ap is_shared i) ∙ k) in
        single_items s.id a.items b.items k a.ids ids_b (a.one_alone k) (b.one_alone (sym (ap is_shared i) ∙ k)) (sym a.things_are ∙ r ∙ b.things_are)

one_section : (s t : Section) (a : Made s) (b : Made t) (x y : List ℕ) → section_bytes s ++ x ≡ section_bytes t ++ y → (a.items ≡ b.items) × (x ≡ y)
one_section s t a b x y h =
    let e = heads _ _ _ _ h in
    let r = one_unsigned.one (length (contents s)) (length (contents t)) (contents s ++ x) (contents t ++ y) (sym (append_assoc (unsigned (length (contents s))) (contents s) x) ∙ e.1 ∙ append_assoc (unsigned (length (contents t))) (contents t) y) in
    let q = same_length (contents s) (contents t) x y r.0 r.1 in
    (in_contents s t a b e.0 q.0, q.1)

-- The items of a list of sections.
items_in : (ss : List Section) → AllByRecursion Made ss → List Item
items_in [] a = []
items_in (s ∷ ss) a = a.0.items ++ items_in ss a.1

one_sections : (ss ts : List Section) (a : AllByRecursion Made ss) (b : AllByRecursion Made ts) → flat_map section_bytes ss ≡ flat_map section_bytes ts → items_in ss a ≡ items_in ts b
unfolding items_in
one_sections [] [] a b h = refl
one_sections [] (t ∷ ts) a b h = cc
one_sections (s ∷ ss) [] a b h = cc
one_sections (s ∷ ss) (t ∷ ts) a b h =
    let r = one_section s t a.0 b.0 (flat_map section_bytes ss) (flat_map section_bytes ts) h in
    let q = one_sections ss ts a.1 b.1 r.1 in
    λ i. r.0 i ++ q i

made_alone : (x : Item) → Made (alone x)
made_alone x = record { items = x ∷ []; ids = (refl, tt); count_is = refl; things_are = sym (append-nil (item_bytes x)); one_alone = λ _. refl }

-- A list of sections with their items.
record Filled (items : List Item) (ss : List Section) : Type 0 where
  all : AllByRecursion Made ss
  is : items_in ss all ≡ items

all_snoc : (id : ℕ) (xs : List Item) (x : Item) → AllByRecursion (λ x. section_id x ≡ id) xs → section_id x ≡ id → AllByRecursion (λ x. section_id x ≡ id) (xs ++ x ∷ [])
all_snoc id [] x a h = (h, tt)
all_snoc id (y ∷ ys) x a h = (a.0, all_snoc id ys x a.1 h)

joins_id : (c : Bool) (m n : ℕ) → (c && eqb m n) ≡ true → (c ≡ true) × (n ≡ m)
joins_id true m n e = (refl, grind (arith, nat_tests))
joins_id false m n e = cc

things_snoc : (xs : List Item) (x : Item) → flat_map item_bytes (xs ++ x ∷ []) ≡ flat_map item_bytes xs ++ item_bytes x
things_snoc [] x = append-nil (item_bytes x)
things_snoc (y ∷ ys) x = ap (λ t. item_bytes y ++ t) (things_snoc ys x) ∙ sym (append_assoc (item_bytes y) (flat_map item_bytes ys) (item_bytes x))

made_joined : (s : Section) (x : Item) → joins s x ≡ true → Made s → Made (joined s x)
made_joined s x e a =
    let j = joins_id (is_shared s.id) s.id (section_id x) e in
    record {
      items = a.items ++ x ∷ [];
      ids = all_snoc s.id a.items x a.ids j.1;
      count_is = omega (arith, a.count_is, length-append a.items (x ∷ []));
      things_are = ap (λ t. t ++ item_bytes x) a.things_are ∙ sym (things_snoc a.items x);
      one_alone = λ n. absurd (contradict (is_shared s.id) j.0 n);
    }
  where
    contradict : (c : Bool) → c ≡ true → c ≡ false → ⊥
    contradict c p q = cc

filled_from : (s : Section) (xs : List Item) (a : Made s) → Filled (a.items ++ xs) (sections_from s xs)
unfolding items_in made_alone made_joined
filled_from s [] a = record { all = (a, tt); is = refl }
filled_from s (x ∷ xs) a =
    elim (joins s x) as (λ c. joins s x ≡ c → Filled (a.items ++ x ∷ xs) (if c then sections_from (joined s x) xs else s ∷ sections_from (alone x) xs)) [
      | true ↦ λ e. let r = filled_from (joined s x) xs (made_joined s x e a) in record { all = r.all; is = r.is ∙ append_assoc a.items (x ∷ []) xs }
      | false ↦ λ e. let r = filled_from (alone x) xs (made_alone x) in record { all = (a, r.all); is = ap (λ t. a.items ++ t) r.is }
    ] refl

filled : (xs : List Item) → Filled xs (sections xs)
unfolding items_in made_alone
filled [] = record { all = tt; is = refl }
filled (x ∷ xs) = filled_from (alone x) xs (made_alone x)

-- Different lists of items have different bytes.
pub one_reading : (xs ys : List Item) → bytes_of xs ≡ bytes_of ys → xs ≡ ys
unfolding bytes_of
one_reading xs ys h =
    let a = filled xs in
    let b = filled ys in
    sym a.is ∙ one_sections (sections xs) (sections ys) a.all b.all (append_cancel_left preamble (flat_map section_bytes (sections xs)) (flat_map section_bytes (sections ys)) h) ∙ b.is
