-- Edges of a list that are added one by one.
use Rattle.std.proofs.Common.{◌≡◌, ℕ, zero, suc, ◌+◌, ◌<◌, ◌≤◌, ◌||◌, Bool, true, false, List, [], ◌∷◌, ◌++◌, length, slice_get, get_or, eqb, ◌≢◌, refl, ap, ◌∙◌, sym, subst, arith, Some, ◌⊎◌, inl, inr}
use Rattle.std.specs.Prelude.{◌↔◌, Contains}
use Rattle.std.specs.Bool.{OnFalse}
use Rattle.std.specs.FinSet.{contains}
use Rattle.std.proofs.lemmas.Bool.{eqb-true, or_parts, OnFalse_at}
use Rattle.std.proofs.lemmas.Bool.Decides.{nat_tests}
use Rattle.std.proofs.lemmas.Option.{slice_get_within, slice_get-get_or}
use Rattle.slab.specs.Slab.{Slab, get}
use Rattle.wac_edges.specs.declared.aliases.Aliases.{Aliases}
use Rattle.wac_edges.specs.declared.edges.Edge.{Edge}
use Rattle.wac_edges.specs.declared.records.Record.{Record}
use Rattle.wac_edges.specs.declared.edges.Label.TheVariants.{Alias}
use Rattle.wac_edges.specs.Edge.{node_number, alias_edge, AreOnce, IsAlias}
use Rattle.wac_edges.specs.Order.{Edges}
use Rattle.wac_edges.specs.private.Aliases.{AreNoted}
use Rattle.wac_edges.specs.private.Records.{Table, HasEdge, HaveFirsts, RiseUnless}
use Rattle.wac_edges.proofs.SetLemmas.{the_set, in_table, of_table}

-- one of the first so many
abbrev pub Among : List Edge → ℕ → Edge → Type 0
Among xs k e = (i : ℕ) × (i < k) × (slice_get xs i ≡ Some e)

by_eq : {P : Type 0} (m n : ℕ) → (m ≡ n → P) → (m ≢ n → P) → P
by_eq {P} m n same other = elim (eqb m n) as (λ b. eqb m n ≡ b → P) [ true ↦ λ e. same (eqb-true m n e) | false ↦ λ e. other (grind (arith, nat_tests)) ] refl

get_at : (xs : List Edge) (i : ℕ) (e : Edge) → slice_get xs i ≡ Some e → get_or xs i e ≡ e
get_at [] i e h = cc
get_at (x ∷ xs) zero e h = cc
get_at (x ∷ xs) (suc i) e h = get_at xs i e h

pub among_contains : (xs : List Edge) (k : ℕ) (e : Edge) → Among xs k e → Contains xs e
among_contains xs k e (i, small, at) = (i, slice_get_within xs i e at, get_at xs i e at)

pub contains_among : (xs : List Edge) (k : ℕ) (e : Edge) → length xs ≤ k → Contains xs e → Among xs k e
contains_among xs k e all (i, small, is) = (i, omega (arith, small, all), slice_get-get_or xs i e small ∙ ap Some is)

some_same : {x y : Edge} → Some x ≡ Some y → x ≡ y
some_same h = cc

none_among : (xs : List Edge) (e : Edge) → Among xs 0 e → ⊥
none_among xs e (i, small, _) = omega (arith, small)

-- the edge at a place of the list
abbrev pub edge_in : List Edge → ℕ → Edge
edge_in xs k = get_or xs k (record { source = node_number 0; target = node_number 0; label = Alias 0 })

pub at_place : (xs : List Edge) (k : ℕ) → k < length xs → slice_get xs k ≡ Some (edge_in xs k)
at_place xs k small = slice_get-get_or xs k (record { source = node_number 0; target = node_number 0; label = Alias 0 }) small

pub contains_place : (xs : List Edge) (k : ℕ) → k < length xs → Contains xs (edge_in xs k)
contains_place xs k small = among_contains xs (k + 1) (edge_in xs k) (k, omega arith, at_place xs k small)

-- with one more
pub among_more : (xs : List Edge) (k : ℕ) (x e : Edge) → slice_get xs k ≡ Some x → Among xs (k + 1) e ↔ (Among xs k e ⊎ (e ≡ x))
among_more xs k x e at = (
  λ (i, small, h). by_eq i k
      (λ same. inr (some_same (sym h ∙ ap (slice_get xs) same ∙ at)))
      (λ differ. inl (i, omega (arith, small, differ), h)),
  back,
) where
  back : Among xs k e ⊎ (e ≡ x) → Among xs (k + 1) e
  back (inl (i, small, h)) = (i, omega (arith, small), h)
  back (inr is) = (k, omega arith, at ∙ ap Some (sym is))

-- ---- the nodes at both ends have lists
abbrev pub HaveFirstsAmong : ℕ → List Edge → ℕ → Type 0
HaveFirstsAmong n xs k = (e : Edge) → Among xs k e → (e.source.0 < n) × (e.target.0 < n)

pub firsts_none : (n : ℕ) (xs : List Edge) → HaveFirstsAmong n xs 0
firsts_none n xs e a = absurd (none_among xs e a)

pub firsts_more : (l m n : ℕ) (xs : List Edge) (k : ℕ) (x : Edge) → slice_get xs k ≡ Some x → l ≤ m → m ≤ n → x.source.0 < m → x.target.0 < n → HaveFirstsAmong l xs k → HaveFirstsAmong n xs (k + 1)
firsts_more l m n xs k x at longer still source target so e a = by ((among_more xs k x e at).0 a) where
  by : Among xs k e ⊎ (e ≡ x) → (e.source.0 < n) × (e.target.0 < n)
  by (inl was) = let (p, q) = so e was in (omega (arith, p, longer, still), omega (arith, q, longer, still))
  by (inr is) = (
    subst (λ (v : Edge). v.source.0 < n) (sym is) (omega (arith, source, still)),
    subst (λ (v : Edge). v.target.0 < n) (sym is) target,
  )

pub firsts_all : (n : ℕ) (xs : List Edge) (k : ℕ) → length xs ≤ k → HaveFirstsAmong n xs k → HaveFirsts n xs
firsts_all n xs k all so e c = so e (contains_among xs k e all c)

-- ---- edges that rise
abbrev pub RiseAmong : List Edge → ℕ → Type 0
RiseAmong xs k = (e : Edge) → Among xs k e → e.source.0 < e.target.0

pub rise_first : (xs : List Edge) → RiseAmong xs 0
rise_first xs e a = absurd (none_among xs e a)

pub rise_more : (xs : List Edge) (k : ℕ) (x : Edge) → slice_get xs k ≡ Some x → x.source.0 < x.target.0 → RiseAmong xs k → RiseAmong xs (k + 1)
rise_more xs k x at up so e a = elim ((among_more xs k x e at).0 a) [
  | inl was ↦ so e was
  | inr is ↦ subst (λ (v : Edge). v.source.0 < v.target.0) (sym is) up
]

pub rise_all : (xs : List Edge) (k : ℕ) → length xs ≤ k → RiseAmong xs k → (e : Edge) → Contains xs e → e.source.0 < e.target.0
rise_all xs k all so e c = so e (contains_among xs k e all c)

-- ---- the edges of a table are added
abbrev pub AreAdded : Table → List Edge → ℕ → Table → Type 0
AreAdded old xs k now = (e : Edge) → HasEdge now e ↔ (HasEdge old e ⊎ Among xs k e)

pub added_first : (old : Table) (xs : List Edge) → AreAdded old xs 0 old
added_first old xs e = (inl, λ h. elim h [ inl was ↦ was | inr a ↦ absurd (none_among xs e a) ])

pub added_more : (old now new : Table) (xs : List Edge) (k : ℕ) (x : Edge) → slice_get xs k ≡ Some x → ((e : Edge) → HasEdge new e ↔ (HasEdge now e ⊎ (e ≡ x))) → AreAdded old xs k now → AreAdded old xs (k + 1) new
added_more old now new xs k x at step so e = (λ h. onward ((step e).0 h), λ h. (step e).1 (back h)) where
  more : Among xs (k + 1) e ↔ (Among xs k e ⊎ (e ≡ x))
  more = among_more xs k x e at

  either : HasEdge old e ⊎ Among xs k e → HasEdge old e ⊎ Among xs (k + 1) e
  either (inl was) = inl was
  either (inr a) = inr (more.1 (inl a))

  onward : HasEdge now e ⊎ (e ≡ x) → HasEdge old e ⊎ Among xs (k + 1) e
  onward (inl h) = either ((so e).0 h)
  onward (inr same) = inr (more.1 (inr same))

  by_place : Among xs k e ⊎ (e ≡ x) → HasEdge now e ⊎ (e ≡ x)
  by_place (inl a) = inl ((so e).1 (inr a))
  by_place (inr same) = inr same

  back : HasEdge old e ⊎ Among xs (k + 1) e → HasEdge now e ⊎ (e ≡ x)
  back (inl was) = inl ((so e).1 (inl was))
  back (inr a) = by_place (more.0 a)

pub all_added : (old now : Table) (xs : List Edge) (k : ℕ) → length xs ≤ k → AreAdded old xs k now → (e : Edge) → HasEdge now e ↔ (HasEdge old e ⊎ Contains xs e)
all_added old now xs k all so e = (λ h. onward ((so e).0 h), λ h. (so e).1 (back h)) where
  onward : HasEdge old e ⊎ Among xs k e → HasEdge old e ⊎ Contains xs e
  onward (inl was) = inl was
  onward (inr a) = inr (among_contains xs k e a)

  back : HasEdge old e ⊎ Contains xs e → HasEdge old e ⊎ Among xs k e
  back (inl was) = inl was
  back (inr c) = inr (contains_among xs k e all c)

-- the next edge has no record yet
pub not_yet : (old now : Table) (xs : List Edge) (k : ℕ) (x : Edge) → slice_get xs k ≡ Some x → AreOnce xs → ((e : Edge) → Contains xs e → HasEdge old e → ⊥) → AreAdded old xs k now → HasEdge now x → ⊥
not_yet old now xs k x at once none so has = wrong ((so x).0 has) where
  wrong : HasEdge old x ⊎ Among xs k x → ⊥
  wrong (inl was) = none x (among_contains xs (k + 1) x (k, omega arith, at)) was
  wrong (inr (i, small, also)) = let same = once i k x also at in omega (arith, small, same)

-- ---- what is kept beside the records
pub noted_with_all : (crowded : List Bool) (aliases : Aliases) (t u : Table) (xs : List Edge) → AreNoted crowded aliases t → ((e : Edge) → Contains xs e → IsAlias e → ⊥)
    → ((e : Edge) → HasEdge u e ↔ (HasEdge t e ⊎ Contains xs e)) → AreNoted crowded aliases u
noted_with_all crowded aliases t u xs noted none edges = record {
  sound = λ source target i w. (edges (alias_edge source target i)).1 (inl (noted.sound source target i w));
  all = λ source target i many h. elim ((edges (alias_edge source target i)).0 h) [
    | inl was ↦ noted.all source target i many was
    | inr there ↦ absurd (none (alias_edge source target i) there (i, refl))
  ];
}

pub rise_with_all : (falls more : Bool) (t u : Table) (xs : List Edge) → RiseUnless falls t → ((e : Edge) → HasEdge u e ↔ (HasEdge t e ⊎ Contains xs e)) → OnFalse more ((e : Edge) → Contains xs e → e.source.0 < e.target.0) → RiseUnless (falls || more) u
rise_with_all falls more t u xs rise edges up = record { up = λ still e has. at e still ((edges e).0 has) } where
  at : (e : Edge) → (falls || more) ≡ false → HasEdge t e ⊎ Contains xs e → e.source.0 < e.target.0
  at e still (inl was) = rise.up (or_parts falls more still).0 e was
  at e still (inr c) = OnFalse_at (or_parts falls more still).1 up e c

-- the set has them too
pub value_with_all : (old new : Slab Record) (xs : List Edge) (s : Edges) → the_set old ≡ s → ((e : Edge) → HasEdge (get new) e ↔ (HasEdge (get old) e ⊎ Contains xs e)) → (e : Edge) → (contains (the_set new) e ≡ true) ↔ (Contains xs e ⊎ (contains s e ≡ true))
value_with_all old new xs s is edges e = (λ w. to ((edges e).0 (in_table new e w)), λ h. of_table new e ((edges e).1 (from h))) where
  same : contains (the_set old) e ≡ contains s e
  same = ap (λ (v : Edges). contains v e) is

  to : HasEdge (get old) e ⊎ Contains xs e → Contains xs e ⊎ (contains s e ≡ true)
  to (inl was) = inr (sym same ∙ of_table old e was)
  to (inr c) = inl c

  from : Contains xs e ⊎ (contains s e ≡ true) → HasEdge (get old) e ⊎ Contains xs e
  from (inl c) = inr c
  from (inr w) = inl (in_table old e (same ∙ w))

-- ---- lists in which no edge is twice
pushed_at : (xs : List Edge) (x : Edge) (i : ℕ) (e : Edge) → slice_get (xs ++ x ∷ []) i ≡ Some e → (slice_get xs i ≡ Some e) ⊎ ((i ≡ length xs) × (x ≡ e))
pushed_at [] x zero e h = inr (refl, some_same h)
pushed_at [] x (suc i) e h = cc
pushed_at (y ∷ ys) x zero e h = inl h
pushed_at (y ∷ ys) x (suc i) e h = elim (pushed_at ys x i e h) [ inl at ↦ inl at | inr (last, is) ↦ inr (ap suc last, is) ]

pub once_push : (xs : List Edge) (x : Edge) → AreOnce xs → (Contains xs x → ⊥) → AreOnce (xs ++ x ∷ [])
once_push xs x once out i j e a b = by (pushed_at xs x i e a) (pushed_at xs x j e b) where
  wrong : (k : ℕ) → slice_get xs k ≡ Some e → x ≡ e → ⊥
  wrong k at is = out (subst (Contains xs) (sym is) (among_contains xs (k + 1) e (k, omega arith, at)))

  by : (slice_get xs i ≡ Some e) ⊎ ((i ≡ length xs) × (x ≡ e)) → (slice_get xs j ≡ Some e) ⊎ ((j ≡ length xs) × (x ≡ e)) → i ≡ j
  by (inl at) (inl also) = once i j e at also
  by (inl at) (inr (_, is)) = absurd (wrong i at is)
  by (inr (_, is)) (inl at) = absurd (wrong j at is)
  by (inr (last, _)) (inr (also, _)) = last ∙ sym also
