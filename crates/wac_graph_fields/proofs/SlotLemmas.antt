-- Packages that are put into slots, and taken out of them.
use Rattle.std.proofs.Common.{◌≡◌, ◌≢◌, ℕ, zero, suc, ◌+◌, ◌-◌, ◌^◌, ◌<◌, ◌≤◌, Bool, true, false, cond, eqb, get_or, ◌||◌, List, [], ◌∷◌, ◌++◌, length, reverse, refl, ap, ◌∙◌, sym, subst, arith, ◌==◌, Option, Some, None, IsSome, IfSome, ◌⊎◌, inl, inr}
use Rattle.std.specs.Prelude.{slice_get, slice_set, IsSomeAnd}
use Rattle.std.specs.Map.{lookup}
use Rattle.std.proofs.lemmas.Bool.{eqb-true}
use Rattle.std.proofs.lemmas.List.{reverse-append, length-set, length_push}
use Rattle.std.proofs.lemmas.Option.{slice_get_within, get_or_from_slice_get}
use Rattle.std.specs.List.{AllByRecursion, IsDistinct, list_any}
use Rattle.std.proofs.lemmas.Bool.Decides.{nat_tests}
use Rattle.std.proofs.lemmas.Map.Steps.{length-le_from_distinct_below}
use Rattle.indexmap.specs.IndexMap.{insert_entry}
use Rattle.wac_types_shapes.specs.private.keys.KeyLaws.{same_key-true, same_key_equiv}
use Rattle.wac_types_collection.specs.collection.Package.{PackageParts, HoldsPackage}
use Rattle.wac_types_shapes.specs.keys.Key.{Key, same_key}
use Rattle.wac_edges.proofs.WrittenOrder.{eqb_same}
use Rattle.wac_graph_model.specs.declared.nodes.packages.PackageId.{PackageId}
use Rattle.wac_graph_model.specs.declared.nodes.packages.Slot.{Slot}
use Rattle.wac_graph_model.specs.nodes.Graph.{Graph, GraphNode, package_in, imports_of, IsRegistered}
use Rattle.wac_graph_model.specs.nodes.Sound.{IsSound, IsInstance}
use Rattle.wac_graph_model.specs.nodes.Steps.{TakesSlot, freed, added}
use Rattle.wac_graph_model.proofs.lemmas.nodes.Added.{by_eq, one_more}
use Rattle.wac_graph_model.proofs.lemmas.nodes.JoinLemmas.{alike_itself, joins_kept, imports_of_instance}
use Rattle.wac_graph_fields.specs.private.Slots.{key_of, AreKeyed, AreVacant, IsNext}
use Rattle.wac_graph_fields.specs.private.Slots as next
use Rattle.wac_graph_fields.specs.Unregistering.{FreesSlot}
use Rattle.wac_graph_fields.specs.Unregistering as gone
use Rattle.wac_graph_fields.proofs.TiedLemmas.{clash}

none_some : {A : Type 0} (o : Option A) (x : A) → o ≡ None → o ≡ Some x → ⊥
none_some o x p q = cc

-- ---- lists
module _ {X : Type 0} where
  pub set_here : (xs : List X) (k : ℕ) (x y : X) → slice_get xs k ≡ Some x → slice_get (slice_set xs k y) k ≡ Some y
  set_here [] k x y h = cc
  set_here (z ∷ xs) zero x y h = refl
  set_here (z ∷ xs) (suc k) x y h = set_here xs k x y h

  pub set_other : (xs : List X) (k i : ℕ) (y : X) → i ≢ k → slice_get (slice_set xs k y) i ≡ slice_get xs i
  set_other [] k i y differ = refl
  set_other (z ∷ xs) zero zero y differ = absurd (differ refl)
  set_other (z ∷ xs) zero (suc i) y differ = refl
  set_other (z ∷ xs) (suc k) zero y differ = refl
  set_other (z ∷ xs) (suc k) (suc i) y differ = set_other xs k i y (λ same. differ (ap suc same))

  pub last_here : (xs : List X) (y : X) → slice_get (xs ++ y ∷ []) (length xs) ≡ Some y
  last_here [] y = refl
  last_here (z ∷ xs) y = last_here xs y

  pub last_other : (xs : List X) (y : X) (i : ℕ) → i ≢ length xs → slice_get (xs ++ y ∷ []) i ≡ slice_get xs i
  last_other [] y zero differ = absurd (differ refl)
  last_other [] y (suc i) differ = refl
  last_other (z ∷ xs) y zero differ = refl
  last_other (z ∷ xs) y (suc i) differ = last_other xs y i (λ same. differ (ap suc same))

  pub past : (xs : List X) → slice_get xs (length xs) ≡ None
  past [] = refl
  past (z ∷ xs) = past xs

  -- what is last is first the other way round
  pub reverse_last : (xs rest : List X) (x : X) → xs ≡ rest ++ x ∷ [] → reverse xs ≡ x ∷ reverse rest
  reverse_last xs rest x is = ap reverse is ∙ reverse-append rest (x ∷ [])

  last_split : (xs : List X) (x : X) → slice_get xs (length xs - 1) ≡ Some x → (rest : List X) × (xs ≡ rest ++ x ∷ [])
  last_split [] x h = cc
  last_split (y ∷ []) x h = let same : y ≡ x = cc in ([], ap (λ z. z ∷ []) same)
  last_split (y ∷ z ∷ zs) x h =
      let count : length (y ∷ z ∷ zs) - 1 ≡ suc (length (z ∷ zs) - 1) = omega arith in
      let (rest, is) = last_split (z ∷ zs) x (ap (slice_get (y ∷ z ∷ zs)) (sym count) ∙ h) in
      (y ∷ rest, ap (λ l. y ∷ l) is)

  pub first_is : (xs ys : List X) (x y : X) → x ∷ xs ≡ y ∷ ys → x ≡ y
  first_is xs ys x y h = cc

  pub rest_is : (xs ys : List X) (x y : X) → x ∷ xs ≡ y ∷ ys → xs ≡ ys
  rest_is xs ys x y h = cc

  pub no_first : (xs : List X) (x : X) → x ∷ xs ≡ [] → ⊥
  no_first xs x h = cc

-- ---- the slot that is used next
abbrev IsEmptySlot : Slot → Type 0
IsEmptySlot slot = slot.«package» ≡ None

the_vacant : (o : Option Slot) → IsSomeAnd o IsEmptySlot → (x : Slot) × (o ≡ Some x) × (x.«package» ≡ None)
the_vacant None h = absurd h
the_vacant (Some x) h = (x, refl, h)

-- what is read from a slot that is there
pub read_is : (slots : List Slot) (i : ℕ) (x y : Slot) → slice_get slots i ≡ Some y → x ≡ get_or slots i x → x ≡ y
read_is slots i x y at read = read ∙ get_or_from_slice_get slots i y x at

module _ (slots : List Slot) (vacant : List ℕ) where
  pub next_within : (number : ℕ) → AreVacant slots (reverse vacant) → Some number ≡ slice_get vacant (length vacant - 1) → number < length slots
  next_within number unused at =
      let (rest, is) = last_split vacant number (sym at) in
      let (x, there, none) = the_vacant (slice_get slots number) (unused 0 number (ap (λ xs. slice_get xs 0) (reverse_last vacant rest number is))) in
      slice_get_within slots number x there

  pub next_freed : (number : ℕ) (x : Slot) → AreVacant slots (reverse vacant) → Some number ≡ slice_get vacant (length vacant - 1) → x ≡ get_or slots number x → IsNext slots (reverse vacant) (record { slot = number; generation = x.generation })
  next_freed number x unused at read =
      let (rest, is) = last_split vacant number (sym at) in
      let listed : reverse vacant ≡ number ∷ reverse rest = reverse_last vacant rest number is in
      let (y, there, none) = the_vacant (slice_get slots number) (unused 0 number (ap (λ xs. slice_get xs 0) listed)) in
      let same : x ≡ y = read_is slots number x y there read in
      next.freed (reverse rest) listed (there ∙ (λ j. Some (record { generation = (sym same j).generation; «package» = none j })))

  -- the next slot is the one that is noted last
  module _ (id : PackageId) (rest : List ℕ) (number : ℕ) (is : vacant ≡ rest ++ number ∷ []) where
    pub taken_within : IsNext slots (reverse vacant) id → number < length slots
    taken_within (next.freed more listed at) =
        let same : number ≡ id.slot = first_is (reverse rest) more number id.slot (sym (reverse_last vacant rest number is) ∙ listed) in
        slice_get_within slots number (record { generation = id.generation; «package» = None }) (ap (slice_get slots) same ∙ at)
    taken_within (next.added none new) = absurd (no_first (reverse rest) number (sym (reverse_last vacant rest number is) ∙ none))

    pub taken_freed : (x : Slot) (p : PackageParts) → IsNext slots (reverse vacant) id → x ≡ get_or slots number x → (g : Graph) → g.slots ≡ slots → g.vacant ≡ reverse vacant
        → TakesSlot g p id (record g { slots = slice_set slots number (record { generation = x.generation; «package» = Some p }); vacant = reverse rest })
    taken_freed x p (next.freed more listed at) read g g_slots g_vacant =
        let same : number ≡ id.slot = first_is (reverse rest) more number id.slot (sym (reverse_last vacant rest number is) ∙ listed) in
        let here : slice_get slots number ≡ Some (record { generation = id.generation; «package» = None }) = ap (slice_get slots) same ∙ at in
        let of : x.generation ≡ id.generation = ap (λ (y : Slot). y.generation) (read_is slots number x (record { generation = id.generation; «package» = None }) here read) in
        freed number x.generation (reverse rest) (g_vacant ∙ reverse_last vacant rest number is)
        (ap (λ xs. slice_get xs number) g_slots ∙ here ∙ (λ j. Some (record { generation = sym of j; «package» = None })))
        (λ j. record { slot = sym same j; generation = sym of j })
        (λ j. record g { slots = slice_set (sym g_slots j) number (record { generation = x.generation; «package» = Some p }); vacant = reverse rest })
    taken_freed x p (next.added none new) read g g_slots g_vacant = absurd (no_first (reverse rest) number (sym (reverse_last vacant rest number is) ∙ none))

-- ---- a slot that is freed
-- the slot of an id that is valid
pub held_slot : (slots : List Slot) (id : PackageId) → IsSome (package_in (slice_get slots id.slot) id) → (x : Slot) × (slice_get slots id.slot ≡ Some x) × (x.generation ≡ id.generation) × (package_in (slice_get slots id.slot) id ≡ x.«package»)
held_slot slots id there = by_slot (slice_get slots id.slot) refl there where
  by_slot : (o : Option Slot) → slice_get slots id.slot ≡ o → IsSome (package_in o id) → (x : Slot) × (slice_get slots id.slot ≡ Some x) × (x.generation ≡ id.generation) × (package_in (slice_get slots id.slot) id ≡ x.«package»)
  by_slot None at h = cc
  by_slot (Some x) at h = split (x.generation == id.generation) refl h where
    split : (b : Bool) → (x.generation == id.generation) ≡ b → IsSome (cond b x.«package» None) → (y : Slot) × (slice_get slots id.slot ≡ Some y) × (y.generation ≡ id.generation) × (package_in (slice_get slots id.slot) id ≡ y.«package»)
    split true is k = (x, at, eqb-true x.generation id.generation is, ap (λ o. package_in o id) at ∙ ap (λ b. cond b x.«package» None) is)
    split false is k = cc

pub held_within : (slots : List Slot) (id : PackageId) → IsSome (package_in (slice_get slots id.slot) id) → id.slot < length slots
held_within slots id there = let h = held_slot slots id there in slice_get_within slots id.slot h.0 h.1

pub held_parts : (slots : List Slot) (id : PackageId) (x : Slot) → IsSome (package_in (slice_get slots id.slot) id) → x ≡ get_or slots id.slot x → package_in (slice_get slots id.slot) id ≡ x.«package»
held_parts slots id x there read = let h = held_slot slots id there in h.3 ∙ ap (λ (y : Slot). y.«package») (sym (read_is slots id.slot x h.0 h.1 read))

pub held_generation : (slots : List Slot) (id : PackageId) (x : Slot) → IsSome (package_in (slice_get slots id.slot) id) → x ≡ get_or slots id.slot x → x.generation ≡ id.generation
held_generation slots id x there read = let h = held_slot slots id there in ap (λ (y : Slot). y.generation) (read_is slots id.slot x h.0 h.1 read) ∙ h.2

pub held_some : (slots : List Slot) (id : PackageId) (x : Slot) → IsSome (package_in (slice_get slots id.slot) id) → x ≡ get_or slots id.slot x → x.«package» ≡ None → ⊥
held_some slots id x there read none = nothing (package_in (slice_get slots id.slot) id) there (held_parts slots id x there read ∙ none) where
  nothing : (o : Option PackageParts) → IsSome o → o ≡ None → ⊥
  nothing None h is = cc
  nothing (Some p) h is = cc

pub frees_last : (slots : List Slot) (vacant : List ℕ) (id : PackageId) (generation : ℕ) → generation ≡ id.generation → (generation + 1 < 2 ^ 64 → ⊥) → FreesSlot slots vacant id (slice_set slots id.slot (record { generation = generation; «package» = None })) vacant
frees_last slots vacant id generation of none = gone.spent (λ small. none (subst (λ n. n + 1 < 2 ^ 64) (sym of) small)) (ap (λ n. let x : Slot = record { generation = n; «package» = None } in slice_set slots id.slot x) of) refl

-- no package is in it, and all others are where they were
module _ (slots : List Slot) (vacant : List ℕ) (id : PackageId) (now : List Slot) (free : List ℕ) (there : IsSome (package_in (slice_get slots id.slot) id)) (f : FreesSlot slots vacant id now free) where
  abbrev empty_slot : ℕ → Slot
  empty_slot n = record { generation = n; «package» = None }

  set_to : FreesSlot slots vacant id now free → (n : ℕ) × (now ≡ slice_set slots id.slot (empty_slot n))
  set_to (gone.freed small is noted) = (id.generation + 1, is)
  set_to (gone.spent none is noted) = (id.generation, is)

  emptied : slice_get now id.slot ≡ Some (empty_slot (set_to f).0)
  emptied = let h = held_slot slots id there in ap (λ xs. slice_get xs id.slot) (set_to f).1 ∙ set_here slots id.slot h.0 (empty_slot (set_to f).0) h.1

  elsewhere : (k : ℕ) → k ≢ id.slot → slice_get now k ≡ slice_get slots k
  elsewhere k differ = ap (λ xs. slice_get xs k) (set_to f).1 ∙ set_other slots id.slot k (empty_slot (set_to f).0) differ

  none_in : (other : PackageId) (q : PackageParts) → other.slot ≡ id.slot → package_in (slice_get now other.slot) other ≡ Some q → ⊥
  none_in other q same at = none ((set_to f).0 == other.generation) (sym (ap (λ o. package_in o other) (ap (slice_get now) same ∙ emptied)) ∙ at) where
    none : (b : Bool) → cond b None None ≡ Some q → ⊥
    none true h = cc
    none false h = cc

  pub freed_was : (other : PackageId) (q : PackageParts) → package_in (slice_get now other.slot) other ≡ Some q → (package_in (slice_get slots other.slot) other ≡ Some q) × (other.slot ≢ id.slot)
  freed_was other q at = by_eq other.slot id.slot
      (λ same. absurd (none_in other q same at))
      (λ differ. (ap (λ o. package_in o other) (sym (elsewhere other.slot differ)) ∙ at, differ))

  -- one slot holds one package
  one_held : (other : PackageId) (q : PackageParts) → package_in (slice_get slots other.slot) other ≡ Some q → other.slot ≡ id.slot → other ≡ id
  one_held other q at same =
      let h = held_slot slots id there in
      let k = held_slot slots other (subst IsSome (sym at) refl) in
      let alike : k.0 ≡ h.0 = the_same (sym k.1 ∙ ap (slice_get slots) same ∙ h.1) in
      λ j. record { slot = same j; generation = (sym k.2 ∙ ap (λ (x : Slot). x.generation) alike ∙ h.2) j }
    where
      the_same : {x y : Slot} → Some x ≡ Some y → x ≡ y
      the_same e = cc

  pub freed_still : (other : PackageId) (q : PackageParts) → (other ≡ id → ⊥) → package_in (slice_get slots other.slot) other ≡ Some q → package_in (slice_get now other.slot) other ≡ Some q
  freed_still other q differ at = ap (λ o. package_in o other) (elsewhere other.slot (λ same. differ (one_held other q at same))) ∙ at

  -- what is found under keys
  module _ (p : PackageParts) (is : package_in (slice_get slots id.slot) id ≡ Some p) (names left : List (Key × PackageId)) (k : AreKeyed slots names) (taken : (key : Key) → lookup (same_key key) left ≡ cond (same_key (key_of p) key) None (lookup (same_key key) names)) where
    pub keyed_freed : AreKeyed now left
    keyed_freed = record {
      keyed = λ other q at. let (was, differ) = freed_was other q at in taken (key_of q) ∙ keyed other q was differ (same_key (key_of p) (key_of q)) refl;
      found = λ key other at. found key other (same_key (key_of p) key) refl (sym (taken key) ∙ at);
    } where
      one_id : {x y : PackageId} → Some x ≡ Some y → x ≡ y
      one_id e = cc

      keyed : (other : PackageId) (q : PackageParts) → package_in (slice_get slots other.slot) other ≡ Some q → other.slot ≢ id.slot → (b : Bool) → same_key (key_of p) (key_of q) ≡ b → cond b None (lookup (same_key (key_of q)) names) ≡ Some other
      keyed other q was differ false _ = k.keyed other q was
      keyed other q was differ true same =
          let keys : key_of p ≡ key_of q = same_key-true (key_of p) (key_of q) same in
          absurd (differ (ap (λ (x : PackageId). x.slot) (one_id (sym (k.keyed other q was) ∙ ap (λ (x : Key). lookup (same_key x) names) (sym keys) ∙ k.keyed id p is))))

      found : (key : Key) (other : PackageId) (b : Bool) → same_key (key_of p) key ≡ b → cond b None (lookup (same_key key) names) ≡ Some other → (q : PackageParts) × (package_in (slice_get now other.slot) other ≡ Some q) × (same_key key (key_of q) ≡ true)
      found key other true _ at = cc
      found key other false differs at =
          let (q, was, same) = k.found key other at in
          (q, freed_still other q (λ alike. clash (same_key (key_of p) key) (here q (ap (λ (x : PackageId). package_in (slice_get slots x.slot) x) (sym alike) ∙ was) (same_key-true key (key_of q) same)) differs) was, same) where
            here : (q : PackageParts) → package_in (slice_get slots id.slot) id ≡ Some q → key ≡ key_of q → same_key (key_of p) key ≡ true
            here q at alike = ap (same_key (key_of p)) (alike ∙ ap key_of (the_parts (sym at ∙ is))) ∙ same_key_equiv.refl (key_of p) where
              the_parts : {x y : PackageParts} → Some x ≡ Some y → x ≡ y
              the_parts e = cc

  -- what is vacant
  pub no_package : (k : ℕ) → IsSomeAnd (slice_get slots k) IsEmptySlot → k ≡ id.slot → ⊥
  no_package k h same = let held = held_slot slots id there in let (x, at, none) = the_vacant (slice_get slots k) h in
      wrong (package_in (slice_get slots id.slot) id) there (held.3 ∙ ap (λ (y : Slot). y.«package») (the_same (sym held.1 ∙ ap (slice_get slots) (sym same) ∙ at)) ∙ none) where
        the_same : {x y : Slot} → Some x ≡ Some y → x ≡ y
        the_same e = cc

        wrong : (o : Option PackageParts) → IsSome o → o ≡ None → ⊥
        wrong None h is = cc
        wrong (Some p) h is = cc

  module _ (unused : AreVacant slots vacant) where
    still_unused : (i k : ℕ) → slice_get vacant i ≡ Some k → IsSomeAnd (slice_get now k) IsEmptySlot
    still_unused i k at = subst (λ o. IsSomeAnd o IsEmptySlot) (sym (elsewhere k (no_package k (unused i k at)))) (unused i k at)

    vacant_freed : FreesSlot slots vacant id now free → AreVacant now free
    vacant_freed (gone.spent none is noted) i k at = still_unused i k (ap (λ xs. slice_get xs i) (sym noted) ∙ at)
    vacant_freed (gone.freed small is noted) i k at = by_place i (ap (λ xs. slice_get xs i) (sym noted) ∙ at) where
      by_place : (i : ℕ) → slice_get (id.slot ∷ vacant) i ≡ Some k → IsSomeAnd (slice_get now k) IsEmptySlot
      by_place zero h = let same : id.slot ≡ k = cc in subst (λ o. IsSomeAnd o IsEmptySlot) (sym emptied ∙ ap (slice_get now) same) refl
      by_place (suc i) h = still_unused i k h

    once_freed : ((i j k : ℕ) → slice_get vacant i ≡ Some k → slice_get vacant j ≡ Some k → i ≡ j) → FreesSlot slots vacant id now free → (i j k : ℕ) → slice_get free i ≡ Some k → slice_get free j ≡ Some k → i ≡ j
    once_freed once (gone.spent none is noted) i j k p q = once i j k (ap (λ xs. slice_get xs i) (sym noted) ∙ p) (ap (λ xs. slice_get xs j) (sym noted) ∙ q)
    once_freed once (gone.freed small is noted) i j k p q = by_place i j (ap (λ xs. slice_get xs i) (sym noted) ∙ p) (ap (λ xs. slice_get xs j) (sym noted) ∙ q) where
      by_place : (i j : ℕ) → slice_get (id.slot ∷ vacant) i ≡ Some k → slice_get (id.slot ∷ vacant) j ≡ Some k → i ≡ j
      by_place zero zero a b = refl
      by_place zero (suc j) a b = let same : id.slot ≡ k = cc in absurd (no_package k (unused j k b) (sym same))
      by_place (suc i) zero a b = let same : id.slot ≡ k = cc in absurd (no_package k (unused i k a) (sym same))
      by_place (suc i) (suc j) a b = ap suc (once i j k a b)

    pub vacancy_freed : ((i j k : ℕ) → slice_get vacant i ≡ Some k → slice_get vacant j ≡ Some k → i ≡ j) → AreVacant now free × ((i j k : ℕ) → slice_get free i ≡ Some k → slice_get free j ≡ Some k → i ≡ j)
    vacancy_freed once = (vacant_freed f, once_freed once f)

-- ---- room for the link to a slot
no_other : (x : ℕ) (xs : List ℕ) → ((i : ℕ) → slice_get xs i ≡ Some x → ⊥) → AllByRecursion (λ y. eqb x y ≡ false) xs
no_other x [] none = tt
no_other x (y ∷ ys) none = (by_eq x y (λ same. absurd (none 0 (ap Some (sym same)))) (λ differ. grind (arith, nat_tests)), no_other x ys (λ i. none (suc i)))

distinct_once : (xs : List ℕ) → ((i j k : ℕ) → slice_get xs i ≡ Some k → slice_get xs j ≡ Some k → i ≡ j) → IsDistinct eqb xs
unfolding IsDistinct
distinct_once [] once = tt
distinct_once (x ∷ xs) once = (
  no_other x xs (λ i at. apart i (once 0 (suc i) x refl at)),
  distinct_once xs (λ i j k a b. let e = once (suc i) (suc j) k a b in omega (arith, e)),
) where
  apart : (i : ℕ) → 0 ≡ suc i → ⊥
  apart i e = omega (arith, e)

distinct_more : (x : ℕ) (xs : List ℕ) → ((i : ℕ) → slice_get xs i ≡ Some x → ⊥) → IsDistinct eqb xs → IsDistinct eqb (x ∷ xs)
unfolding IsDistinct
distinct_more x xs absent more = (no_other x xs absent, more)

any_at : (q : ℕ) (xs : List ℕ) → list_any (eqb q) xs ≡ true → (i : ℕ) × (slice_get xs i ≡ Some q)
any_at q [] h = cc
any_at q (x ∷ xs) h = split (eqb q x) refl h (any_at q xs) where
  split : (b : Bool) → eqb q x ≡ b → (b || list_any (eqb q) xs) ≡ true → (list_any (eqb q) xs ≡ true → (i : ℕ) × (slice_get xs i ≡ Some q)) → (i : ℕ) × (slice_get (x ∷ xs) i ≡ Some q)
  split true is k more = (0, ap Some (sym (eqb-true q x is)))
  split false is k more = let (i, at) = more k in (suc i, at)

-- fewer slots are vacant than there are, where one holds a package
pub vacant_fewer : (slots : List Slot) (vacant : List ℕ) (id : PackageId) → IsSome (package_in (slice_get slots id.slot) id) → AreVacant slots vacant → ((i j k : ℕ) → slice_get vacant i ≡ Some k → slice_get vacant j ≡ Some k → i ≡ j) → length vacant < length slots
vacant_fewer slots vacant id there unused once =
    let few = length-le_from_distinct_below (id.slot ∷ vacant) (length slots) (distinct_more id.slot vacant absent (distinct_once vacant once)) (λ q h. let (i, at) = any_at q (id.slot ∷ vacant) h in below q i at) in
    let count : length (id.slot ∷ vacant) ≡ suc (length vacant) = refl in omega (arith, few, count) where
      below : (q i : ℕ) → slice_get (id.slot ∷ vacant) i ≡ Some q → q < length slots
      below q zero at = let same : id.slot ≡ q = cc in subst (λ n. n < length slots) same (held_within slots id there)
      below q (suc i) at = let (x, here, none) = the_vacant (slice_get slots q) (unused i q at) in slice_get_within slots q x here

      absent : (i : ℕ) → slice_get vacant i ≡ Some id.slot → ⊥
      absent i at = let held = held_slot slots id there in let (x, here, none) = the_vacant (slice_get slots id.slot) (unused i id.slot at) in
          wrong (package_in (slice_get slots id.slot) id) there (held.3 ∙ ap (λ (y : Slot). y.«package») (the_same (sym held.1 ∙ here)) ∙ none) where
            the_same : {x y : Slot} → Some x ≡ Some y → x ≡ y
            the_same e = cc

            wrong : (o : Option PackageParts) → IsSome o → o ≡ None → ⊥
            wrong None h is = cc
            wrong (Some p) h is = cc

-- ---- a slot holds one package more
-- the packages of the slots are those that were there, and one more, in a slot where none was
pub record IsPut (slots : List Slot) (id : PackageId) (p : PackageParts) (now : List Slot) : Type 0 where
  pub others : (other : PackageId) → (other.slot ≢ id.slot) → package_in (slice_get now other.slot) other ≡ package_in (slice_get slots other.slot) other
  pub free : (other : PackageId) → other.slot ≡ id.slot → package_in (slice_get slots other.slot) other ≡ None
  pub here : slice_get now id.slot ≡ Some (record { generation = id.generation; «package» = Some p })

pub put_again : (slots : List Slot) (s generation : ℕ) (p : PackageParts) → slice_get slots s ≡ Some (record { generation = generation; «package» = None }) → IsPut slots (record { slot = s; generation = generation }) p (slice_set slots s (record { generation = generation; «package» = Some p }))
put_again slots s generation p at = record {
  others = λ other differ. ap (λ o. package_in o other) (set_other slots s other.slot (record { generation = generation; «package» = Some p }) differ);
  free = λ other same. ap (λ o. package_in o other) (ap (slice_get slots) same ∙ at) ∙ none (generation == other.generation) None refl;
  here = set_here slots s (record { generation = generation; «package» = None }) (record { generation = generation; «package» = Some p }) at;
} where
  none : (b : Bool) (o : Option PackageParts) → o ≡ None → cond b o None ≡ None
  none true o is = is
  none false o is = refl

pub put_last : (slots : List Slot) (p : PackageParts) → IsPut slots (record { slot = length slots; generation = 0 }) p (slots ++ record { generation = 0; «package» = Some p } ∷ [])
put_last slots p = record {
  others = λ other differ. ap (λ o. package_in o other) (last_other slots (record { generation = 0; «package» = Some p }) other.slot differ);
  free = λ other same. ap (λ o. package_in o other) (ap (slice_get slots) same ∙ past slots);
  here = last_here slots (record { generation = 0; «package» = Some p });
}

module _ (slots : List Slot) (id : PackageId) (p : PackageParts) (now : List Slot) (u : IsPut slots id p now) where
  pub put_before : (other : PackageId) (q : PackageParts) → package_in (slice_get slots other.slot) other ≡ Some q → package_in (slice_get now other.slot) other ≡ Some q
  put_before other q at = u.others other (λ same. none_some (package_in (slice_get slots other.slot) other) q (u.free other same) at) ∙ at

  pub put_here : package_in (slice_get now id.slot) id ≡ Some p
  put_here = ap (λ o. package_in o id) u.here ∙ ap (λ b. cond b (Some p) None) (eqb_same id.generation)

  pub put_after : (other : PackageId) (q : PackageParts) → package_in (slice_get now other.slot) other ≡ Some q → (package_in (slice_get slots other.slot) other ≡ Some q) ⊎ ((other ≡ id) × (p ≡ q))
  put_after other q at = by_eq other.slot id.slot
      (λ same. inr (new same (id.generation == other.generation) refl (sym (ap (λ o. package_in o other) (ap (slice_get now) same ∙ u.here)) ∙ at)))
      (λ differ. inl (sym (u.others other differ) ∙ at)) where
        new : other.slot ≡ id.slot → (b : Bool) → (id.generation == other.generation) ≡ b → cond b (Some p) None ≡ Some q → (other ≡ id) × (p ≡ q)
        new same true is h = (λ j. record { slot = same j; generation = sym (eqb-true id.generation other.generation is) j }, cc)
        new same false is h = cc

  -- under its key, where there was none of it
  module _ (names : List (Key × PackageId)) (k : AreKeyed slots names) (absent : lookup (same_key (key_of p)) names ≡ None) where
    pub free_key : (other : PackageId) (q : PackageParts) → package_in (slice_get slots other.slot) other ≡ Some q → key_of q ≡ key_of p → ⊥
    free_key other q at same = none_some (lookup (same_key (key_of p)) names) other absent (ap (λ (x : Key). lookup (same_key x) names) (sym same) ∙ k.keyed other q at)

    look : (q key : Key) (es : List (Key × PackageId)) → lookup (same_key key) es ≡ None → lookup (same_key q) (insert_entry same_key es key id) ≡ cond (same_key q key) (Some id) (lookup (same_key q) es)
    look q key [] none = refl
    look q key (e ∷ es) none = split (same_key key e.0) refl none (look q key es) where
      swap : (x y : Bool) → (x ≡ true → y ≡ true → ⊥) → (o : Option PackageId) → cond x (Some e.1) (cond y (Some id) o) ≡ cond y (Some id) (cond x (Some e.1) o)
      swap true true wrong o = absurd (wrong refl refl)
      swap true false _ o = refl
      swap false y _ o = refl

      split : (b : Bool) → same_key key e.0 ≡ b → cond b (Some e.1) (lookup (same_key key) es) ≡ None → (lookup (same_key key) es ≡ None → lookup (same_key q) (insert_entry same_key es key id) ≡ cond (same_key q key) (Some id) (lookup (same_key q) es))
          → lookup (same_key q) (cond b ((e.0, id) ∷ es) (e ∷ insert_entry same_key es key id)) ≡ cond (same_key q key) (Some id) (cond (same_key q e.0) (Some e.1) (lookup (same_key q) es))
      split true is wrong _ = cc
      split false is at more =
          ap (cond (same_key q e.0) (Some e.1)) (more at)
          ∙ swap (same_key q e.0) (same_key q key) (λ a b. clash (same_key key e.0) (ap (λ (x : Key). same_key x e.0) (sym (same_key-true q key b)) ∙ a) is) (lookup (same_key q) es)

    pub keyed_put : AreKeyed now (insert_entry same_key names (key_of p) id)
    keyed_put = record {
      keyed = λ other q at. look (key_of q) (key_of p) names absent ∙ keyed other q (put_after other q at);
      found = λ q other at. found q other (same_key q (key_of p)) refl (sym (look q (key_of p) names absent) ∙ at);
    } where
      keyed : (other : PackageId) (q : PackageParts) → (package_in (slice_get slots other.slot) other ≡ Some q) ⊎ ((other ≡ id) × (p ≡ q)) → cond (same_key (key_of q) (key_of p)) (Some id) (lookup (same_key (key_of q)) names) ≡ Some other
      keyed other q (inl was) = split (same_key (key_of q) (key_of p)) refl where
        split : (b : Bool) → same_key (key_of q) (key_of p) ≡ b → cond b (Some id) (lookup (same_key (key_of q)) names) ≡ Some other
        split false _ = k.keyed other q was
        split true same = absurd (free_key other q was (same_key-true (key_of q) (key_of p) same))
      keyed other q (inr (is, same)) =
          ap (λ b. cond b (Some id) (lookup (same_key (key_of q)) names)) (ap (λ x. same_key (key_of q) (key_of x)) same ∙ same_key_equiv.refl (key_of q)) ∙ ap Some (sym is)

      found : (q : Key) (other : PackageId) (b : Bool) → same_key q (key_of p) ≡ b → cond b (Some id) (lookup (same_key q) names) ≡ Some other → (x : PackageParts) × (package_in (slice_get now other.slot) other ≡ Some x) × (same_key q (key_of x) ≡ true)
      found q other true same at = let is : id ≡ other = cc in (p, subst (λ (x : PackageId). package_in (slice_get now x.slot) x ≡ Some p) is put_here, same)
      found q other false differ at = let (x, there, same) = k.found q other at in (x, put_before other x there, same)

-- ---- the law of graphs
module _ (g : Graph) (s : IsSound g) (id : PackageId) (p : PackageParts) (holds : HoldsPackage g.types p) (free : (other : PackageId) → IsRegistered g (p.name, p.version) other → ⊥) where
  abbrev with_slots : List Slot → List ℕ → Graph
  with_slots now vacant = record g { slots = now; vacant = vacant }

  module _ (now : List Slot) (u : IsPut g.slots id p now) (vacant : List ℕ) (unused : AreVacant now vacant) (once : (i j k : ℕ) → slice_get vacant i ≡ Some k → slice_get vacant j ≡ Some k → i ≡ j) where
    abbrev still : (node : GraphNode) → IsInstance g node → IsInstance (with_slots now vacant) node
    still node i = record { id = i.id; parts = i.parts; owned = i.owned; registered = put_before g.slots id p now u i.id i.parts i.registered; typed = i.typed }

    same_imports : (node : GraphNode) → IsInstance g node → imports_of (with_slots now vacant) node ≡ imports_of g node
    same_imports node i = imports_of_instance (with_slots now vacant) node (still node i) ∙ sym (imports_of_instance g node i)

    cases : (key : Key) (other : PackageId) → IsRegistered (with_slots now vacant) key other → IsRegistered g key other ⊎ ((other ≡ id) × ((x : PackageId) → IsRegistered g key x → ⊥))
    cases key other (q, at, is) = split (put_after g.slots id p now u other q at) where
      split : (package_in (slice_get g.slots other.slot) other ≡ Some q) ⊎ ((other ≡ id) × (p ≡ q)) → IsRegistered g key other ⊎ ((other ≡ id) × ((x : PackageId) → IsRegistered g key x → ⊥))
      split (inl was) = inl (q, was, is)
      split (inr (same, parts)) = inr (same, λ x r. free x (subst (λ k. IsRegistered g k x) (sym (ap key_of parts ∙ is)) r))

    held : (other : PackageId) (q : PackageParts) → (package_in (slice_get g.slots other.slot) other ≡ Some q) ⊎ ((other ≡ id) × (p ≡ q)) → HoldsPackage g.types q
    held other q (inl was) = s.packages other q was
    held other q (inr (_, same)) = subst (HoldsPackage g.types) same holds

    pub sound_put : IsSound (with_slots now vacant)
    sound_put = record {
      ends = s.ends;
      joins = λ e a b stands from to. joins_kept g (with_slots now vacant) e.label a b a b (alike_itself a) (alike_itself b) refl (λ is. same_imports b (s.instances e.target b to is)) (λ i x _ fits. fits) (s.joins e a b stands from to);
      exported = s.exported;
      held = s.held;
      packages = λ other q at. held other q (put_after g.slots id p now u other q at);
      instances = λ n node there is. still node (s.instances n node there is);
      aliases = λ n node there is. let a = s.aliases n node there is in record { instance = a.instance; source = a.source; position = a.position; name = a.name; aliased = a.aliased; there = a.there; exported = a.exported; owned = a.owned };
      one_argument = s.one_argument;
      one_alias = s.one_alias;
      one_source = s.one_source;
      one_import = s.one_import;
      one_definition = s.one_definition;
      one_export = s.one_export;
      one_package = λ key a b x y. one_more (IsRegistered g key) (IsRegistered (with_slots now vacant) key) id (cases key) (s.one_package key) a b x y;
      first_names = s.first_names;
      definitions = s.definitions;
      vacant = unused;
      vacant_once = once;
    }

  -- the slots that are vacant still
  still_vacant : (now : List Slot) (k : ℕ) → slice_get now k ≡ slice_get g.slots k → IsSomeAnd (slice_get g.slots k) (λ slot. slot.«package» ≡ None) → IsSomeAnd (slice_get now k) (λ slot. slot.«package» ≡ None)
  still_vacant now k same h = subst (λ o. IsSomeAnd o (λ slot. slot.«package» ≡ None)) (sym same) h

  some_number : (vacant rest : List ℕ) (x i k : ℕ) → vacant ≡ x ∷ rest → slice_get rest i ≡ Some k → slice_get vacant (suc i) ≡ Some k
  some_number vacant rest x i k is at = ap (λ xs. slice_get xs (suc i)) is ∙ at

  -- a step that puts it into a slot
  pub sound_takes : (h : Graph) → TakesSlot g p id h → IsSound h
  sound_takes h (freed number generation rest listed at is new) = subst IsSound (sym new)
      (sound_put (slice_set g.slots number (record { generation = generation; «package» = Some p })) (subst (λ x. IsPut g.slots x p (slice_set g.slots number (record { generation = generation; «package» = Some p }))) (sym is) (put_again g.slots number generation p at)) rest
      (λ i k there. still_vacant (slice_set g.slots number (record { generation = generation; «package» = Some p })) k (set_other g.slots number k (record { generation = generation; «package» = Some p }) (λ same. twice i k there same)) (s.vacant (suc i) k (later i k there)))
      (λ i j k a b. parts i j (s.vacant_once (suc i) (suc j) k (later i k a) (later j k b)))) where
        later : (i k : ℕ) → slice_get rest i ≡ Some k → slice_get g.vacant (suc i) ≡ Some k
        later i k there = some_number g.vacant rest number i k listed there

        twice : (i k : ℕ) → slice_get rest i ≡ Some k → k ≡ number → ⊥
        twice i k there same = apart (s.vacant_once 0 (suc i) number (ap (λ xs. slice_get xs 0) listed) (later i number (there ∙ ap Some same))) where
          apart : 0 ≡ suc i → ⊥
          apart e = omega (arith, e)

        parts : (i j : ℕ) → suc i ≡ suc j → i ≡ j
        parts i j e = omega (arith, e)
  sound_takes h (added none is new) = subst IsSound (sym new)
      (sound_put (g.slots ++ record { generation = 0; «package» = Some p } ∷ []) (subst (λ x. IsPut g.slots x p (g.slots ++ record { generation = 0; «package» = Some p } ∷ [])) (sym is) (put_last g.slots p)) g.vacant
      (λ i k there. absurd (nothing i k (ap (λ xs. slice_get xs i) (sym none) ∙ there)))
      s.vacant_once) where
        nothing : (i k : ℕ) → slice_get [] i ≡ Some k → ⊥
        nothing i k h = cc

-- and then it is one more
pub put_takes : (g h : Graph) (p : PackageParts) (id : PackageId) → TakesSlot g p id h → IsPut g.slots id p h.slots
put_takes g h p id (freed number generation rest listed at is new) =
    subst (λ (x : Graph). IsPut g.slots id p x.slots) (sym new) (subst (λ x. IsPut g.slots x p (slice_set g.slots number (record { generation = generation; «package» = Some p }))) (sym is) (put_again g.slots number generation p at))
put_takes g h p id (added none is new) =
    subst (λ (x : Graph). IsPut g.slots id p x.slots) (sym new) (subst (λ x. IsPut g.slots x p (g.slots ++ record { generation = 0; «package» = Some p } ∷ [])) (sym is) (put_last g.slots p))

-- there is room still to note each slot as vacant
pub room_takes : (g h : Graph) (p : PackageParts) (id : PackageId) (room more : ℕ) → TakesSlot g p id h → length g.slots ≤ room → room ≤ more → (g.vacant ≡ [] → length g.slots < more) → length h.slots ≤ more
room_takes g h p id room more (freed number generation rest listed at is new) small grown link =
    let count : length h.slots ≡ length g.slots = ap (λ (x : Graph). length x.slots) new ∙ length-set g.slots number (record { generation = generation; «package» = Some p }) in omega (arith, small, grown, count)
room_takes g h p id room more (added none is new) small grown link =
    let count : length h.slots ≡ length g.slots + 1 = ap (λ (x : Graph). length x.slots) new ∙ length_push g.slots (record { generation = 0; «package» = Some p }) in
    let free = link none in omega (arith, free, count)

-- what is so of the package of an id that is valid
pub if_held : (slots : List Slot) (id : PackageId) (P : PackageParts → Type 0) → IsSome (package_in (slice_get slots id.slot) id) → IfSome (package_in (slice_get slots id.slot) id) P → (p : PackageParts) × (package_in (slice_get slots id.slot) id ≡ Some p) × P p
if_held slots id P there holds = by_package (package_in (slice_get slots id.slot) id) refl there holds where
  by_package : (o : Option PackageParts) → package_in (slice_get slots id.slot) id ≡ o → IsSome o → IfSome o P → (p : PackageParts) × (package_in (slice_get slots id.slot) id ≡ Some p) × P p
  by_package None at h k = cc
  by_package (Some p) at h k = (p, at, k)
