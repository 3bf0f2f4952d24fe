-- Entries that a sort puts in the order of their names, where no name stands twice.
use Rattle.std.proofs.Common.{◌≡◌, ℕ, zero, suc, ◌+◌, ◌<◌, Bool, true, false, if◌then◌else◌, List, [], ◌∷◌, ◌++◌, length, map, take, drop, get_or, Some, None, inl, inr, ◌⊎◌, refl, ap, sym, ◌∙◌, subst, add-one, arith}
use denote.Param.Members.{Mut}
use Rattle.std.specs.Fn.{Called}
use Rattle.std.proofs.lemmas.Fn.{always_returns_same}
use Rattle.std.specs.Option.{option_map}
use Rattle.std.specs.Prelude.{slice_get}
use Rattle.std.specs.Borrow.{Bor}
use Rattle.std.specs.List.{AllByRecursion, AllZip, Contains, IsDistinct}
use Rattle.std.specs.List.Sorted.{IsPermutation, IsSortedBy, IsSortedByClosure, IsStrictlySortedBy}
use Rattle.std.specs.Ordering.{is_lt, ordering_reverse}
use Rattle.std.specs.declared.cmp.Ordering.{Ordering}
use Rattle.std.specs.declared.cmp.Ordering.TheVariants.{Less, Equal, Greater}
use Rattle.std.specs.Cmp.Lexicographic.{nat_list_cmp_total}
use Rattle.std.specs.FinMap.{nat_cmp-IsAntisymmetric, slice_cmp-IsAntisymmetric}
use Rattle.std.specs.Map.{keys_of}
use Rattle.std.proofs.lemmas.Bool.{cases_Bool, false≢true}
use Rattle.std.proofs.lemmas.List.Sorted.{IsPermutation-map, IsPermutation-refl, IsPermutation-sym, Contains-permutation, ranks_by}
use Rattle.std.proofs.Math.Seq.{take-append_seam}
use Rattle.std.proofs.lemmas.Map.Keys.{IsDistinct-IsPermutation}
use Rattle.wac_types_shapes.specs.primitives.Name.{Name, same_name, find_name}
use Rattle.wac_types_shapes.specs.shapes.Named.{NoNameTwice}
use Rattle.wac_merge_trees.proofs.lemmas.coding.CodingModules.{name_itself, same_is}
use Rattle.wac_types_shapes.specs.primitives.Tree.{TypeTree, absent}
use Rattle.wac_types_collection.specs.subtyping.Called as called
use Rattle.wac_types_shapes.specs.declared.shapes.component.«Type».{«Type» as AnyType}
use Rattle.wac_types_shapes.specs.declared.shapes.component.ItemKind.{ItemKind}
use Rattle.wac_types_shapes.proofs.lemmas.shapes.Loops.{take_more}
use Rattle.wac_merge_tables.specs.declared.tables.nodes.Item.{Item as AnItem}
use Rattle.wac_merge_tables.specs.private.tables.Nodes.{Node}
use Rattle.wac_merge_tables.specs.private.tables.NodeViews.{item_view, listed}
use Rattle.wac_types_collection.proofs.lemmas.subtyping.Telling.{Borrowed}
use Rattle.wac_merge_classes.proofs.lemmas.entries.Lists.{zip_push}
use Rattle.wac_merge_tables.proofs.lemmas.tables.TaskOpenings.{each_value}
use Rattle.wac_merge_trees.specs.private.coding.ItemCoding.{HasItem, AreItems, Lists, listing_under}
use Rattle.wac_merge_trees.proofs.lemmas.coding.CodingListing.{borrowed_cmp, borrowed_total, look, item_there, kind_there, item_seen, IsLow, lists}

-- where nothing changes places
pub none_moved : {X : Type 0} (xs : List X) → IsPermutation xs xs
none_moved xs = IsPermutation-refl xs

-- what was written through a slice of a whole list
pub written_back : {A : Type 0} (n : ℕ) (xs ys : List A) → length xs ≡ length ys → n ≡ length ys → take n (xs ++ drop (length xs) ys) ≡ xs
written_back n xs ys same is = ap (λ k. take k (xs ++ drop (length xs) ys)) (is ∙ sym same) ∙ take-append_seam xs (drop (length xs) ys)

-- texts of the same name
abbrev pub alike : Borrowed → Borrowed → Bool
alike a b = same_name a.now b.now

same_back : (a b : Name) → same_name a b ≡ true → same_name b a ≡ true
same_back a b e = subst (λ x. same_name x a ≡ true) (same_is a b e) (name_itself a)

alike_turned : (a b : Borrowed) → alike a b ≡ alike b a
alike_turned a b = elim (cases_Bool (alike a b)) [
  | inl t ↦ t ∙ sym (same_back a.now b.now t)
  | inr f ↦ elim (cases_Bool (alike b a)) [
    | inl u ↦ absurd (false≢true (sym f ∙ same_back b.now a.now u))
    | inr g ↦ f ∙ sym g
  ]
]

module _ {V K : Type 0} where
  none_alike : (a : Borrowed) (es : List (Borrowed × V)) (ks : List (Name × K)) → map (λ e. e.0.now) es ≡ map (λ k. k.0) ks → find_name ks a.now ≡ None → AllByRecursion (λ y. alike a y ≡ false) (keys_of es)
  none_alike a [] ks names none = tt
  none_alike a (e ∷ es) [] names none = cc
  none_alike a (e ∷ es) (k ∷ ks) names none =
      let first : e.0.now ≡ k.0 = cc in
      let rest : map (λ e. e.0.now) es ≡ map (λ k. k.0) ks = cc in
      elim (cases_Bool (same_name a.now k.0)) [
        | inl t ↦ let found : Some k.1 ≡ None = sym (ap (λ b. if b then Some k.1 else find_name ks a.now) t) ∙ none in cc
        | inr f ↦ (ap (λ n. same_name a.now n) first ∙ f, none_alike a es ks rest (sym (ap (λ b. if b then Some k.1 else find_name ks a.now) f) ∙ none))
      ]

  -- names that do not stand twice
  pub distinct : (es : List (Borrowed × V)) (ks : List (Name × K)) → map (λ e. e.0.now) es ≡ map (λ k. k.0) ks → NoNameTwice ks → IsDistinct alike (keys_of es)
  unfolding IsDistinct
  distinct [] ks names once = tt
  distinct (e ∷ es) [] names once = cc
  distinct (e ∷ es) (k ∷ ks) names once =
      let first : e.0.now ≡ k.0 = cc in
      let rest : map (λ e. e.0.now) es ≡ map (λ k. k.0) ks = cc in
      (none_alike e.0 es ks rest (ap (λ n. find_name ks n) first ∙ once.0), distinct es ks rest once.1)

not_after : (a b : Borrowed) → is_lt (borrowed_cmp b a) ≡ false → alike a b ≡ false → borrowed_cmp a b ≡ Less
not_after a b up apart = by (borrowed_cmp a b) refl where
  by : (o : Ordering) → borrowed_cmp a b ≡ o → borrowed_cmp a b ≡ Less
  by Less is = is
  by Equal is =
      let same : a.now ≡ b.now = slice_cmp-IsAntisymmetric nat_cmp-IsAntisymmetric a.now b.now is in
      absurd (false≢true (sym apart ∙ subst (λ n. same_name a.now n ≡ true) same (name_itself a.now)))
  by Greater is =
      let turned : borrowed_cmp b a ≡ Less = nat_list_cmp_total.antisymm b.now a.now ∙ ap ordering_reverse is in
      absurd (false≢true (sym up ∙ ap is_lt turned))

all_after : (a b : Borrowed) (ks : List Borrowed) → borrowed_cmp a b ≡ Less → AllByRecursion (λ y. borrowed_cmp b y ≡ Less) ks → AllByRecursion (λ y. borrowed_cmp a y ≡ Less) ks
all_after a b [] less h = tt
all_after a b (k ∷ ks) less h = (nat_list_cmp_total.trans a.now b.now k.now less h.0, all_after a b ks less h.1)

module _ {V : Type 0} where
  abbrev pub before : Borrowed × V → Borrowed × V → Bool
  before x y = is_lt (borrowed_cmp x.0 y.0)

  -- what does not fall, and differs, ascends
  pub ascends : (es : List (Borrowed × V)) → IsSortedBy before es → IsDistinct alike (keys_of es) → IsStrictlySortedBy borrowed_cmp (keys_of es)
  unfolding IsDistinct IsStrictlySortedBy
  ascends [] up apart = tt
  ascends (x ∷ []) up apart = (tt, tt)
  ascends (x ∷ y ∷ es) up apart =
      let rest = ascends (y ∷ es) (λ k d low lt.
      (let e : suc k + 1 ≡ suc (k + 1) = omega arith in
      subst (λ n. before (get_or (x ∷ y ∷ es) n d) (get_or (y ∷ es) k d) ≡ false) e (up (suc k) d (omega arith) (omega (arith, lt))))) apart.1 in
      let first = not_after x.0 y.0 (up 0 x (omega arith) (omega arith)) apart.0.0 in
      ((first, all_after x.0 y.0 (keys_of es) first rest.0), rest)

module _ {V T : Type 0} (none : T) (view : V → T) where
  missing : (e : Borrowed × V) (es : List (Borrowed × V)) → AllByRecursion (λ y. alike e.0 y ≡ false) (keys_of es) → (k : ℕ) (d : Borrowed × V) → k < length es → alike e.0 (get_or es k d).0 ≡ false
  missing e [] h k d lt = absurd (omega (arith, lt))
  missing e (x ∷ es) h zero d lt = h.0
  missing e (x ∷ es) h (suc k) d lt = missing e es h.1 k d (omega (arith, lt))

  -- the value of an entry is seen under its name
  look_at : (es : List (Borrowed × V)) → IsDistinct alike (keys_of es) → (n : Name) (k : ℕ) (d : Borrowed × V) → k < length es → same_name n (get_or es k d).0.now ≡ true → look none view es n ≡ view (get_or es k d).1
  unfolding IsDistinct
  look_at [] apart n k d lt is = absurd (omega (arith, lt))
  look_at (x ∷ es) apart n zero d lt is = ap (λ b. if b then view x.1 else look none view es n) is
  look_at (x ∷ es) apart n (suc k) d lt is =
      let other = missing x es apart.0 k d (omega (arith, lt)) in
      let name = same_is n (get_or es k d).0.now is in
      let not : same_name n x.0.now ≡ false = ap (λ m. same_name m x.0.now) name ∙ (alike_turned (get_or es k d).0 x.0 ∙ other) in
      ap (λ b. if b then view x.1 else look none view es n) not ∙ look_at es apart.1 n k d (omega (arith, lt)) is

  -- it is there, or nothing is
  seen : (es : List (Borrowed × V)) (n : Name) → ((e : Borrowed × V) × Contains es e × (same_name n e.0.now ≡ true)) ⊎ (look none view es n ≡ none)
  seen [] n = inr refl
  seen (x ∷ es) n = elim (cases_Bool (same_name n x.0.now)) [
    | inl t ↦ inl (x, (0, omega arith, refl), t)
    | inr f ↦ elim (seen es n) [
      | inl w ↦ inl (w.0, (suc w.1.0, omega (arith, w.1.1), w.1.2), w.2)
      | inr missed ↦ inr (ap (λ b. if b then view x.1 else look none view es n) f ∙ missed)
    ]
  ]

  look_of : (es : List (Borrowed × V)) → IsDistinct alike (keys_of es) → (n : Name) (e : Borrowed × V) → Contains es e → same_name n e.0.now ≡ true → look none view es n ≡ view e.1
  look_of es apart n e c is =
      let named = ap (λ (x : Borrowed × V). same_name n x.0.now) c.2 ∙ is in
      look_at es apart n c.0 e c.1 named ∙ ap (λ (x : Borrowed × V). view x.1) c.2

  -- entries that change places are seen as before
  pub look_moved : (es fs : List (Borrowed × V)) → IsPermutation es fs → IsDistinct alike (keys_of es) → IsDistinct alike (keys_of fs) → (n : Name) → look none view fs n ≡ look none view es n
  look_moved es fs moved p q n = elim (seen es n) [
    | inl w ↦ look_of fs q n w.0 (Contains-permutation es fs w.0 moved w.1) w.2 ∙ sym (look_of es p n w.0 w.1 w.2)
    | inr nothing ↦ elim (seen fs n) [
      | inl w ↦ look_of fs q n w.0 w.1 w.2 ∙ sym (look_of es p n w.0 (Contains-permutation fs es w.0 (IsPermutation-sym es fs moved) w.1) w.2)
      | inr none_too ↦ none_too ∙ sym nothing
    ]
  ]

pub still_distinct : {V : Type 0} (es fs : List (Borrowed × V)) → IsPermutation es fs → IsDistinct alike (keys_of es) → IsDistinct alike (keys_of fs)
still_distinct {V} es fs moved apart = IsDistinct-IsPermutation alike alike_turned (keys_of es) (keys_of fs) (IsPermutation-map {P = Borrowed × V} {X = Borrowed} (λ e. e.0) es fs moved) apart

-- what a sort by name leaves does not fall
pub sorted_by_name : {V F : Type 0} {g : Mut F (Bor (Borrowed × V) × (Bor (Borrowed × V) × Unit {0})) Ordering} {f : F} (es : List (Borrowed × V)) → IsSortedByClosure g f es
    → ((a : Bor (Borrowed × V) × (Bor (Borrowed × V) × Unit {0})) (r : Ordering) (f' : F) → Called g f a r f' → (r ≡ borrowed_cmp a.0.now.0 a.1.0.now.0) × (f' ≡ f)) → IsSortedBy before es
sorted_by_name {V} {g = g} {f = f} es up h = up before (ranks_by borrowed_total (λ e. e.0))
    (always_returns_same g (λ a r. is_lt r ≡ before a.0.now a.1.0.now) f (λ a r f' k. (ap is_lt (h a r f' k).0, (h a r f' k).1)))

-- ---- what holds of each entry holds of each when they change places
each_contained : {A : Type 0} (P : A → Type 0) (es : List A) → ((e : A) → Contains es e → P e) → AllByRecursion P es
each_contained P [] h = tt
each_contained P (x ∷ es) h = (h x (0, omega arith, refl), each_contained P es (λ e c. h e (suc c.0, omega (arith, c.1), c.2)))

each_moved : {A : Type 0} (P : A → Type 0) (es fs : List A) → IsPermutation es fs → AllByRecursion P es → AllByRecursion P fs
each_moved P es fs moved h = each_contained P fs (λ e c.
    let back = Contains-permutation fs es e (IsPermutation-sym es fs moved) c in
    subst P back.2 (each_value P es back.0 e back.1 h))

-- ---- the kinds with their items, before they are sorted
abbrev pub AreEntries : List Node → (AnyType → TypeTree called.Called) → List (Name × ItemKind) → List (Borrowed × AnItem) → Type 0
AreEntries ns t = AllZip (λ k e. (e.0.now ≡ k.0) × HasItem ns t k.1 (item_view e.1))

pub entries_next : (ns : List Node) (t : AnyType → TypeTree called.Called) (kinds : List (Name × ItemKind)) (xs : List AnItem) (i : ℕ) (nm : Name) (d : AnItem) (s : Borrowed) (es more : List (Borrowed × AnItem))
    → option_map (λ e. e.0) (slice_get kinds i) ≡ Some nm → AreItems ns t kinds xs → s.now ≡ nm → more ≡ es ++ (s, get_or xs i d) ∷ [] → AreEntries ns t (take i kinds) es → AreEntries ns t (take (i + 1) kinds) more
entries_next ns t kinds xs i nm d s es more named items text push h =
    let (k, is) = kind_there kinds i nm named in
    let one = item_there ns t kinds xs i (nm, k) d is items in
    let left : take (i + 1) kinds ≡ take i kinds ++ (nm, k) ∷ [] = rw add-one (take_more kinds i nm k named (ap (option_map (λ e. e.1)) is)) in
    subst (λ ks. AreEntries ns t ks more) (sym left)
    (subst (λ l. AreEntries ns t (take i kinds ++ (nm, k) ∷ []) l) (sym push)
    (zip_push (λ k e. (e.0.now ≡ k.0) × HasItem ns t k.1 (item_view e.1)) (take i kinds) es (nm, k) (s, get_or xs i d) h (text, one)))

module _ (ns : List Node) (t : AnyType → TypeTree called.Called) where
  entry_names : (kinds : List (Name × ItemKind)) (es : List (Borrowed × AnItem)) → AreEntries ns t kinds es → map (λ e. e.0.now) es ≡ map (λ k. k.0) kinds
  entry_names [] [] h = refl
  entry_names [] (e ∷ es) h = absurd h
  entry_names (k ∷ kinds) [] h = absurd h
  entry_names (k ∷ kinds) (e ∷ es) h = let rest = entry_names kinds es h.1 in λ i. h.0.0 i ∷ rest i

  entry_low : (kinds : List (Name × ItemKind)) (es : List (Borrowed × AnItem)) → AreEntries ns t kinds es → AllByRecursion (λ e. IsLow ns e.1) es
  entry_low [] [] h = tt
  entry_low [] (e ∷ es) h = absurd h
  entry_low (k ∷ kinds) [] h = absurd h
  entry_low (k ∷ kinds) (e ∷ es) h = (h.0.1.there, entry_low kinds es h.1)

  entry_under : (kinds : List (Name × ItemKind)) (es : List (Borrowed × AnItem)) → AreEntries ns t kinds es → (n : Name) → look absent (item_seen ns) es n ≡ listing_under t kinds n
  entry_under [] [] h n = refl
  entry_under [] (e ∷ es) h n = absurd h
  entry_under (k ∷ kinds) [] h n = absurd h
  entry_under (k ∷ kinds) (e ∷ es) h n =
      let rest = entry_under kinds es h.1 n in
      let name = h.0.0 in
      let seen = h.0.1.is in
      λ i. if same_name n (name i) then seen i else rest i

  -- sorted they are what is listed
  pub lists_sorted : (kinds : List (Name × ItemKind)) (es fs : List (Borrowed × AnItem)) → NoNameTwice kinds → AreEntries ns t kinds es → IsPermutation es fs → IsSortedBy before fs → Lists ns t kinds (listed fs)
  lists_sorted kinds es fs once are moved up =
      let apart = distinct es kinds (entry_names kinds es are) once in
      let apart_too = still_distinct es fs moved apart in
      lists ns t kinds fs (ascends fs up apart_too) (each_moved (λ e. IsLow ns e.1) es fs moved (entry_low kinds es are))
      (λ n. look_moved absent (item_seen ns) es fs moved apart apart_too n ∙ entry_under kinds es are n)
