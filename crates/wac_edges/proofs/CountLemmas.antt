-- How many edges lead to a number: from those that are left, and from one that is written.
use Rattle.std.proofs.Common.{◌≡◌, ◌≢◌, ℕ, zero, suc, ◌+◌, ◌-◌, ◌<◌, ◌≤◌, Bool, true, false, not, ◌&&◌, List, [], ◌∷◌, Contains, AllPairs, All, Option, Some, None, length, map, slice_index_or, refl, sym, ap, ◌∙◌, subst, ◌⊎◌, inl, inr, arith, eqb}
use Rattle.std.specs.Prelude.{slice_set, slice_index}
use Rattle.std.specs.List.{sum_by}
use Rattle.std.proofs.lemmas.Bool.{eqb-true, eq-eqb, cases_lt}
use Rattle.std.proofs.lemmas.List.Elements.{All-contains_itself}
use Rattle.std.proofs.lemmas.List.Kept.{AllPairs-cons}
use Rattle.std.proofs.lemmas.List.Sums.{sum_by-cons}
use Rattle.slab.specs.Slab.{Slab, get, entries, entries_from}
use Rattle.slab.proofs.SlabLemmas.{Contains-cons, Contains-cons_cases}
use Rattle.wac_edges.specs.declared.edges.Edge.{Edge}
use Rattle.wac_edges.specs.declared.edges.End.TheVariants.{Outgoing}
use Rattle.wac_edges.specs.declared.node.NodeId.{NodeId}
use Rattle.wac_edges.specs.declared.records.Record.{Record}
use Rattle.wac_edges.specs.declared.records.Firsts.{Firsts}
use Rattle.wac_edges.specs.Edge.{is_left, node_number}
use Rattle.wac_edges.specs.Ends.{AreAt}
use Rattle.wac_edges.specs.Order.{Edges}
use Rattle.wac_edges.specs.private.Records.{AreListed, all_edges, edge_at}
use Rattle.wac_edges.specs.private.Ready.{AreAll, AreCounted, leads_to, leads_from, leading, incoming, is_set, one}
use Rattle.wac_edges.proofs.OrderLemmas.{flag_after}
use Rattle.wac_edges.proofs.EdgeLemmas.{in_set, from_set}
use Rattle.wac_edges.proofs.SetLemmas.{the_set, to_slot}

-- ---- sums over lists in which no edge stands twice
module _ (f : Edge → ℕ) where
  -- the list without the element at a place
  without_at : List Edge → ℕ → List Edge
  without_at [] i = []
  without_at (x ∷ xs) zero = xs
  without_at (x ∷ xs) (suc i) = x ∷ without_at xs i

  sum_without : (xs : List Edge) (i : ℕ) (d : Edge) → i < length xs → sum_by f xs ≡ f (slice_index_or xs i d) + sum_by f (without_at xs i)
  unfolding without_at
  sum_without [] i d low = absurd (omega arith)
  sum_without (x ∷ xs) zero d low = sum_by-cons f x xs
  sum_without (x ∷ xs) (suc i) d low = let rest = sum_without xs i d (omega arith) in let all = sum_by-cons f x xs in let fewer = sum_by-cons f x (without_at xs i) in omega arith

  still_in : (xs : List Edge) (i : ℕ) (d e : Edge) → Contains xs e → (slice_index_or xs i d ≡ e → ⊥) → Contains (without_at xs i) e
  unfolding without_at
  still_in [] i d e w other = w
  still_in (x ∷ xs) zero d e w other = elim (Contains-cons_cases x e xs w) [ inl same ↦ absurd (other same) | inr rest ↦ rest ]
  still_in (x ∷ xs) (suc i) d e w other = elim (Contains-cons_cases x e xs w) [
    | inl same ↦ (0, omega arith, same)
    | inr rest ↦ Contains-cons x e (without_at xs i) (still_in xs i d e rest other)
  ]

  pub once_tail : (x : Edge) (xs : List Edge) → AllPairs (λ a b. a ≢ b) (x ∷ xs) → AllPairs (λ a b. a ≢ b) xs
  once_tail x xs once i j d low within = once (suc i) (suc j) d (omega arith) (omega arith)

  pub once_head : (x : Edge) (xs : List Edge) → AllPairs (λ a b. a ≢ b) (x ∷ xs) → (e : Edge) → Contains xs e → x ≡ e → ⊥
  once_head x xs once e (i, within, at) same = once 0 (suc i) e (omega arith) (omega arith) (same ∙ sym at)

  pub sum_included : (xs ys : List Edge) → AllPairs (λ a b. a ≢ b) xs → ((e : Edge) → Contains xs e → 0 < f e → Contains ys e) → sum_by f xs ≤ sum_by f ys
  sum_included [] ys once in_ys = omega arith
  sum_included (x ∷ xs) ys once in_ys = split (cases_lt 0 (f x)) (sum_included xs) where
    all : sum_by f (x ∷ xs) ≡ f x + sum_by f xs
    all = sum_by-cons f x xs

    split : (0 < f x) ⊎ (f x ≤ 0) → ((ys : List Edge) → AllPairs (λ a b. a ≢ b) xs → ((e : Edge) → Contains xs e → 0 < f e → Contains ys e) → sum_by f xs ≤ sum_by f ys) → sum_by f (x ∷ xs) ≤ sum_by f ys
    split (inl some) more =
        let (i, within, at) = in_ys x (0, omega arith, refl) some in
        let rest = more (without_at ys i) (once_tail x xs once) (λ e w positive. still_in ys i x e (in_ys e (Contains-cons x e xs w) positive) (λ same. once_head x xs once e w (sym at ∙ same))) in
        let whole = sum_without ys i x within in
        let same : f (slice_index_or ys i x) ≡ f x = ap f at in
        omega (arith, all, whole, same, rest)
    split (inr none) more = let rest = more ys (once_tail x xs once) (λ e w positive. in_ys e (Contains-cons x e xs w) positive) in omega (arith, all, none, rest)

-- ---- edges that are counted
one_some : (b : Bool) → 0 < one b → b ≡ true
one_some true h = refl
one_some false h = absurd (omega arith)

one_true : (b : Bool) → b ≡ true → one b ≡ 1
one_true b h = rw h refl

both : (a b : Bool) → (a && b) ≡ true → (a ≡ true) × (b ≡ true)
both true b h = (refl, h)
both false b h = cc

pub incoming_none : (flags : List Bool) (es : List Edge) (b : ℕ) → incoming flags es b ≡ 0 → (e : Edge) → Contains es e → b ≡ e.target.0 → is_left flags e.source ≡ true → ⊥
incoming_none flags [] b none e (i, within, _) leads from = absurd (omega arith)
incoming_none flags (x ∷ xs) b none e w leads from = elim (Contains-cons_cases x e xs w) [
  | inl same ↦
      let all = sum_by-cons (λ e. one (leads_from flags b e)) x xs in
      let some : one (leads_from flags b x) ≡ 1 = ap (λ (x : Edge). one (leads_from flags b x)) same ∙ rw (from, eq-eqb b e.target.0 leads) refl in
      absurd (omega arith)
  | inr rest ↦ incoming_none flags xs b (let all = sum_by-cons (λ e. one (leads_from flags b e)) x xs in omega arith) e rest leads from
]

pub incoming_some : (flags : List Bool) (es : List Edge) (b : ℕ) → 0 < incoming flags es b → (e : Edge) × Contains es e × (b ≡ e.target.0) × (is_left flags e.source ≡ true)
incoming_some flags [] b some = absurd (omega arith)
incoming_some flags (x ∷ xs) b some = split (cases_lt 0 (one (leads_from flags b x))) (incoming_some flags xs b) where
  split : (0 < one (leads_from flags b x)) ⊎ (one (leads_from flags b x) ≤ 0) → (0 < incoming flags xs b → (e : Edge) × Contains xs e × (b ≡ e.target.0) × (is_left flags e.source ≡ true)) → (e : Edge) × Contains (x ∷ xs) e × (b ≡ e.target.0) × (is_left flags e.source ≡ true)
  split (inl h) _ = let (from, to) = both (is_set flags x.source.0) (eqb b x.target.0) (one_some (leads_from flags b x) h) in (x, (0, omega arith, refl), eqb-true b x.target.0 to, from)
  split (inr none) more =
      let all = sum_by-cons (λ e. one (leads_from flags b e)) x xs in
      let (e, w, to, from) = more (omega arith) in
      (e, Contains-cons x e xs w, to, from)

-- ---- one is written
-- leads the edge from n to b
abbrev leads_out : ℕ → ℕ → Edge → Bool
leads_out n b e = eqb e.source.0 n && leads_to b e

one_parts : (left out to : Bool) → (out ≡ true → left ≡ true) → one (left && to) ≡ one (out && to) + one ((left && not out) && to)
one_parts true true true h = refl
one_parts true true false h = refl
one_parts true false true h = refl
one_parts true false false h = refl
one_parts false true to h = let wrong = h refl in cc
one_parts false false to h = refl

-- the edges from those that are left are those from one of them and those from the others
incoming_parts : (flags : List Bool) (es : List Edge) (n b : ℕ) → is_set flags n ≡ true → incoming flags es b ≡ sum_by (λ e. one (leads_out n b e)) es + incoming (slice_set flags n false) es b
incoming_parts flags [] n b here = refl
incoming_parts flags (x ∷ xs) n b here =
    let all = sum_by-cons (λ e. one (leads_from flags b e)) x xs in
    let out = sum_by-cons (λ e. one (leads_out n b e)) x xs in
    let others = sum_by-cons (λ e. one (leads_from (slice_set flags n false) b e)) x xs in
    let rest = incoming_parts flags xs n b here in
    let after : one (leads_from (slice_set flags n false) b x) ≡ one ((is_set flags x.source.0 && not (eqb x.source.0 n)) && leads_to b x) = ap (λ (f : Bool). one (f && leads_to b x)) (flag_after flags n x.source.0) in
    let parts = one_parts (is_set flags x.source.0) (eqb x.source.0 n) (leads_to b x) (λ same. ap (is_set flags) (eqb-true x.source.0 n same) ∙ here) in
    omega arith

out_leading : (n b : ℕ) (ws : List Edge) → ((e : Edge) → Contains ws e → e.source.0 ≡ n) → sum_by (λ e. one (leads_out n b e)) ws ≡ leading ws b
out_leading n b [] from = refl
out_leading n b (x ∷ xs) from =
    let out = sum_by-cons (λ e. one (leads_out n b e)) x xs in
    let to = sum_by-cons (λ e. one (leads_to b e)) x xs in
    let same : one (leads_out n b x) ≡ one (leads_to b x) = rw (eq-eqb x.source.0 n (from x (0, omega arith, refl))) refl in
    let rest = out_leading n b xs (λ e w. from e (Contains-cons x e xs w)) in
    omega arith

from_same : (e : Edge) (n : NodeId) → e.source.0 ≡ n.0 → e.source ≡ n
from_same e n same = ap node_number same

incoming_written : (flags : List Bool) (edges : Edges) (es ws : List Edge) (n : NodeId) → AreAll edges es → AreAt edges n Outgoing ws → is_set flags n.0 ≡ true → (b : ℕ) → incoming flags es b ≡ leading ws b + incoming (slice_set flags n.0 false) es b
incoming_written flags edges es ws n all at here b =
    let parts = incoming_parts flags es n.0 b here in
    let out = out_leading n.0 b ws (λ e w. ap (λ (k : NodeId). k.0) ((at.all e).0 w).1) in
    let most = sum_included (λ e. one (leads_out n.0 b e)) es ws all.once (λ e w some. (at.all e).1 ((all.all e).0 w, from_same e n (eqb-true e.source.0 n.0 (both (eqb e.source.0 n.0) (leads_to b e) (one_some (leads_out n.0 b e) some)).0))) in
    let least = sum_included (λ e. one (leads_out n.0 b e)) ws es at.once (λ e w some. (all.all e).1 ((at.all e).0 w).0) in
    omega arith

-- the counts once one is written
pub counted_next : (flags : List Bool) (edges : Edges) (old new : List ℕ) (n : ℕ) (ws : List Edge) → is_set flags n ≡ true → AreAt edges (node_number n) Outgoing ws → length new ≡ length old → AreCounted flags edges old
    → ((b : ℕ) → b < length old → slice_index new b ≡ slice_index old b - leading ws b) → AreCounted (slice_set flags n false) edges new
counted_next flags edges old new n ws here at long (es, all, counted) away = (
  es,
  all,
  λ b low.
      let small : b < length old = omega (arith, long) in
      let was : slice_index old b ≡ incoming flags es b = counted b small in
      let now : slice_index new b ≡ slice_index old b - leading ws b = away b small in
      let both = incoming_written flags edges es ws (node_number n) all at here b in
      omega arith,
)

-- ---- the edges of a table
abbrev pub edges_of : List (ℕ × Record) → List Edge
edges_of xs = map (λ x. x.1.edge) xs

edges_of_entries : (key : ℕ) (slots : List (Option Record)) → edges_of (entries_from key slots) ≡ all_edges slots
edges_of_entries key [] = refl
edges_of_entries key (None ∷ slots) = edges_of_entries (key + 1) slots
edges_of_entries key (Some r ∷ slots) = ap (λ (l : List Edge). r.edge ∷ l) (edges_of_entries (key + 1) slots)

all_once : (slots : List (Option Record)) → ((j k : ℕ) (e : Edge) → edge_at (λ q. slice_index_or slots q None) j ≡ Some e → edge_at (λ q. slice_index_or slots q None) k ≡ Some e → j ≡ k) → AllPairs (λ a b. a ≢ b) (all_edges slots)
all_once [] once i j d low within = absurd (omega (arith, within))
all_once (None ∷ slots) once i j d low within = all_once slots (λ j k e a b. let same = once (suc j) (suc k) e a b in omega arith) i j d low within
all_once (Some r ∷ slots) once i j d low within = AllPairs-cons (λ a b. a ≢ b) r.edge (all_edges slots) apart (all_once slots (λ j k e a b. let same = once (suc j) (suc k) e a b in omega arith)) i j d low within where
  apart_from : (e : Edge) → Contains (all_edges slots) e → r.edge ≢ e
  apart_from e w same = let (k, at) = to_slot slots e w in let wrong = once 0 (suc k) e (ap (λ (v : Edge). Some v) same) at in omega arith

  apart : All (λ e. r.edge ≢ e) (all_edges slots)
  apart = λ i d low. apart_from _ (All-contains_itself (all_edges slots) i d low)

-- the edges of all records are those of the set
pub all_of_table : (s : Slab Record) (firsts : List Firsts) → AreListed (get s) firsts → AreAll (the_set s) (edges_of (entries s))
all_of_table s firsts listed = subst (λ (es : List Edge). AreAll (the_set s) es) (sym (edges_of_entries 0 s.slots)) (record {
  all = λ e. (λ w. in_set (all_edges s.slots) e w, λ h. from_set (all_edges s.slots) e h);
  once = all_once s.slots listed.once;
})

-- one more of the edges is counted
pub counted_more : (flags : List Bool) (r : Record) (k : ℕ) (left rest : List (ℕ × Record)) (b old new total : ℕ) → left ≡ (k, r) ∷ rest → new ≡ one (leads_from flags b r.edge) + old → old + incoming flags (edges_of left) b ≡ total → new + incoming flags (edges_of rest) b ≡ total
counted_more flags r k left rest b old new total is more counted =
    let first : incoming flags (edges_of left) b ≡ one (leads_from flags b r.edge) + incoming flags (edges_of rest) b = ap (λ (xs : List (ℕ × Record)). incoming flags (edges_of xs) b) is ∙ sum_by-cons (λ e. one (leads_from flags b e)) r.edge (edges_of rest) in
    omega (arith, first, more, counted)

-- none is left to be counted
pub counted_last : (flags : List Bool) (all start left : List (ℕ × Record)) (b count : ℕ) → left ≡ [] → start ≡ all → count + incoming flags (edges_of left) b ≡ incoming flags (edges_of start) b → count ≡ incoming flags (edges_of all) b
counted_last flags all start left b count none is counted =
    let rest : incoming flags (edges_of left) b ≡ 0 = ap (λ (xs : List (ℕ × Record)). incoming flags (edges_of xs) b) none in
    let whole : incoming flags (edges_of start) b ≡ incoming flags (edges_of all) b = ap (λ (xs : List (ℕ × Record)). incoming flags (edges_of xs) b) is in
    omega (arith, rest, whole, counted)
