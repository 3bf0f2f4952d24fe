-- A table with one more node.
use Rattle.std.proofs.Common.{◌≡◌, ℕ, zero, suc, ◌<◌, ◌||◌, Bool, true, false, get_or, List, [], ◌∷◌, ◌++◌, length, map, Option, Some, None, ◌⊎◌, inl, inr, refl, ap, sym, ◌∙◌, subst, arith}
use Rattle.std.specs.Prelude.{slice_get, if◌then◌else◌}
use Rattle.std.proofs.lemmas.List.Quantifiers.{position-Some}
use Rattle.std.specs.List.{AllByRecursion, list_any, position}
use Rattle.indexmap.specs.IndexSet.{insert_key}
use Rattle.wac_merge_tables.specs.private.tables.Nodes.{Node, mentions, IsSorted, IsTable, Added}
use Rattle.wac_merge_tables.specs.private.tables.NotedNodes.{IsNoted}

-- what stands in a list with one more
get_push : (ns : List Node) (n m : Node) (i : ℕ) → slice_get (ns ++ n ∷ []) i ≡ Some m → ((i < length ns) × (slice_get ns i ≡ Some m)) ⊎ ((i ≡ length ns) × (m ≡ n))
get_push [] n m zero e = inr (refl, sym (only e)) where
  only : Some n ≡ Some m → n ≡ m
  only e = cc
get_push [] n m (suc i) e = cc
get_push (x ∷ ns) n m zero e = inl (omega arith, e)
get_push (x ∷ ns) n m (suc i) e = next (get_push ns n m i e) where
  next : ((i < length ns) × (slice_get ns i ≡ Some m)) ⊎ ((i ≡ length ns) × (m ≡ n)) → ((suc i < suc (length ns)) × (slice_get ns i ≡ Some m)) ⊎ ((suc i ≡ suc (length ns)) × (m ≡ n))
  next (inl (low, is)) = inl (omega arith, is)
  next (inr (last, is)) = inr (ap suc last, is)

get_last : (ns : List Node) (n : Node) → slice_get (ns ++ n ∷ []) (length ns) ≡ Some n
get_last [] n = refl
get_last (x ∷ ns) n = get_last ns n

pub push_table : (ns : List Node) (n : Node) → IsTable ns → IsSorted n → AllByRecursion (λ m. m < length ns) (mentions n) → ((i : ℕ) → slice_get ns i ≡ Some n → ⊥) → IsTable (ns ++ n ∷ [])
push_table ns n table ordered low new = record {
  sorted = λ i m is. sorted i m (get_push ns n m i is);
  lower = λ i m is. lower i m (get_push ns n m i is);
  once = λ i j m is also. once i j m (get_push ns n m i is) (get_push ns n m j also);
} where
  sorted : (i : ℕ) (m : Node) → ((i < length ns) × (slice_get ns i ≡ Some m)) ⊎ ((i ≡ length ns) × (m ≡ n)) → IsSorted m
  sorted i m (inl (_, is)) = table.sorted i m is
  sorted i m (inr (_, is)) = subst IsSorted (sym is) ordered

  lower : (i : ℕ) (m : Node) → ((i < length ns) × (slice_get ns i ≡ Some m)) ⊎ ((i ≡ length ns) × (m ≡ n)) → AllByRecursion (λ k. k < i) (mentions m)
  lower i m (inl (_, is)) = table.lower i m is
  lower i m (inr (last, is)) = subst (λ k. AllByRecursion (λ q. q < k) (mentions m)) (sym last) (subst (λ x. AllByRecursion (λ q. q < length ns) (mentions x)) (sym is) low)

  once : (i j : ℕ) (m : Node) → ((i < length ns) × (slice_get ns i ≡ Some m)) ⊎ ((i ≡ length ns) × (m ≡ n)) → ((j < length ns) × (slice_get ns j ≡ Some m)) ⊎ ((j ≡ length ns) × (m ≡ n)) → i ≡ j
  once i j m (inl (_, is)) (inl (_, also)) = table.once i j m is also
  once i j m (inl (_, is)) (inr (_, same)) = absurd (new i (is ∙ ap Some same))
  once i j m (inr (_, same)) (inl (_, also)) = absurd (new j (also ∙ ap Some same))
  once i j m (inr (last, _)) (inr (end, _)) = last ∙ sym end

-- ---- what is noted
still_at : (ns : List Node) (n m : Node) (i : ℕ) → slice_get ns i ≡ Some m → slice_get (ns ++ n ∷ []) i ≡ Some m
still_at [] n m i is = cc
still_at (x ∷ ns) n m zero is = is
still_at (x ∷ ns) n m (suc i) is = still_at ns n m i is

still_added : (old new : List Node) (n m : Node) (i j : ℕ) → Added old n new j → slice_get old i ≡ Some m → slice_get new i ≡ Some m
still_added old new n m i j added is = elim added.1 [
  | inl same ↦ subst (λ ns. slice_get ns i ≡ Some m) (sym same) is
  | inr more ↦ subst (λ ns. slice_get ns i ≡ Some m) (sym more) (still_at old n m i is)
]

-- where a node was added
noted_added : (old new : List Node) (n : Node) (j : ℕ) → Added old n new j → IsTable new → (lists options : List (Option ℕ)) → IsNoted old lists options → IsNoted new lists options
noted_added old new n j added table lists options noted = record {
  table = table;
  lists = λ part i is. still_added old new n _ i j added (noted.lists part i is);
  options = λ part i is. still_added old new n _ i j added (noted.options part i is);
}

module _ {R : Type 0} (view : R → Node) (eq : R → R → Bool) (same : (a b : R) → eq a b ≡ true → view a ≡ view b) (itself : (a b : R) → view a ≡ view b → eq a b ≡ true) where
  or_first : (a b : Bool) → (a || b) ≡ false → a ≡ false
  or_first true b h = h
  or_first false b h = refl

  or_second : (a b : Bool) → (a || b) ≡ false → b ≡ false
  or_second true b h = cc
  or_second false b h = h

  clash : (b : Bool) → b ≡ true → b ≡ false → ⊥
  clash true _ h = cc
  clash false h _ = cc

  absent : (ks : List R) (k : R) → list_any (eq k) ks ≡ false → (i : ℕ) → slice_get (map view ks) i ≡ Some (view k) → ⊥
  absent [] k none i is = cc
  absent (x ∷ ks) k none zero is = clash (eq k x) (itself k x (sym (inner is))) (or_first (eq k x) (list_any (eq k) ks) none) where
    inner : Some (view x) ≡ Some (view k) → view x ≡ view k
    inner e = cc
  absent (x ∷ ks) k none (suc i) is = absent ks k (or_second (eq k x) (list_any (eq k) ks) none) i is

  map_push : (ks : List R) (k : R) → map view (ks ++ k ∷ []) ≡ map view ks ++ view k ∷ []
  map_push [] k = refl
  map_push (x ∷ ks) k = ap (λ r. view x ∷ r) (map_push ks k)

  get_map : (ks : List R) (i : ℕ) (k : R) → slice_get ks i ≡ Some k → slice_get (map view ks) i ≡ Some (view k)
  get_map [] i k is = cc
  get_map (x ∷ ks) zero k is = ap (λ o. seen o) is where
    seen : Option R → Option Node
    seen None = None
    seen (Some r) = Some (view r)
  get_map (x ∷ ks) (suc i) k is = get_map ks i k is

  pub inserted_table : (ks : List R) (k : R) → IsTable (map view ks) → IsSorted (view k) → AllByRecursion (λ m. m < length (map view ks)) (mentions (view k)) → IsTable (map view (insert_key eq ks k))
  inserted_table ks k table ordered low =
      elim (list_any (eq k) ks) as (λ b. list_any (eq k) ks ≡ b → IsTable (map view (if b then ks else ks ++ k ∷ []))) [
        | true ↦ λ _. table
        | false ↦ λ none. subst IsTable (sym (map_push ks k)) (push_table (map view ks) (view k) table ordered low (absent ks k none))
      ] refl

  pub inserted_added : (ks : List R) (k : R) (i : ℕ) (x : R) → slice_get (insert_key eq ks k) i ≡ Some x → eq k x ≡ true → Added (map view ks) (view k) (map view (insert_key eq ks k)) i
  inserted_added ks k i x is one = (get_map (insert_key eq ks k) i x is ∙ ap Some (sym (same k x one)), grown) where
    grown : (map view (insert_key eq ks k) ≡ map view ks) ⊎ (map view (insert_key eq ks k) ≡ map view ks ++ view k ∷ [])
    grown = elim (list_any (eq k) ks) as (λ b. (map view (if b then ks else ks ++ k ∷ []) ≡ map view ks) ⊎ (map view (if b then ks else ks ++ k ∷ []) ≡ map view ks ++ view k ∷ [])) [
      | true ↦ inl refl
      | false ↦ inr (map_push ks k)
    ]

  there : (ks : List R) (i : ℕ) (d : R) → i < length ks → slice_get ks i ≡ Some (get_or ks i d)
  there [] i d lt = absurd (omega (arith, lt))
  there (x ∷ ks) zero d lt = refl
  there (x ∷ ks) (suc i) d lt = there ks i d (omega (arith, lt))

  -- a node that is found stands where it was found
  pub found_at : (ks : List R) (k : R) (i : ℕ) → position (eq k) ks ≡ Some i → slice_get (map view ks) i ≡ Some (view k)
  found_at ks k i is =
      let (low, one, _) = position-Some (eq k) ks i k is in
      get_map ks i (get_or ks i k) (there ks i k low) ∙ ap Some (sym (same k (get_or ks i k) one))

  -- where a node is put, what is noted stays so
  pub inserted_noted : (ks : List R) (k : R) (i : ℕ) (x : R) (more : List R) → more ≡ insert_key eq ks k → slice_get more i ≡ Some x → eq k x ≡ true → (lists options : List (Option ℕ)) → IsNoted (map view ks) lists options → IsSorted (view k)
      → AllByRecursion (λ m. m < length (map view ks)) (mentions (view k)) → IsNoted (map view more) lists options
  inserted_noted ks k i x more keys is one lists options noted ordered low =
      let added = inserted_added ks k i x (ap (λ l. slice_get l i) (sym keys) ∙ is) one in
      subst (λ l. IsNoted (map view l) lists options) (sym keys)
      (noted_added (map view ks) (map view (insert_key eq ks k)) (view k) i added (inserted_table ks k noted.table ordered low) lists options noted)
