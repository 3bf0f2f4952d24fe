-- Aliases that are noted.
use Rattle.std.proofs.Common.{◌≡◌, ◌≢◌, eqb, ◌↔◌, ◌⊎◌, ℕ, ◌<◌, ◌||◌, Bool, true, false, cond, List, [], ◌∷◌, Option, Some, None, Result, Ok, Err, refl, sym, ap, ◌∙◌, subst, inl, inr, arith}
use Rattle.std.specs.List.{list_any}
use Rattle.std.specs.BTreeSet.{BTreeSet, contains, IsKeyRangeOf, IsKeyInRange}
use Rattle.std.specs.BTreeMap.Range.{IsLeBy}
use Rattle.std.specs.declared.ops.Bound.TheVariants.{Included, Unbounded}
use Rattle.std.specs.Prelude.{◌==◌, ◌&&◌, nat_eq, slice_get, Vec, IfSome, IfNone, OnErr}
use Rattle.std.specs.BTreeMap.{is_at}
use Rattle.std.specs.declared.cmp.Ordering.{Ordering}
use Rattle.std.specs.declared.cmp.Ordering.TheVariants.{Less, Equal, Greater}
use Rattle.std.specs.Ordering.{nat_cmp, ordering_then, is_gt, is_eq, MatchOrdering}
use Rattle.std.specs.Cmp.{ranks, tied_itself}
use Rattle.std.proofs.lemmas.Bool.{and_parts, false_from_ne_true, cases_Bool, eq-eqb, eqb-true, or_cases}
use Rattle.std.proofs.lemmas.Bool.Decides.{nat_tests}
use Rattle.std.proofs.lemmas.Cmp.{nat_cmp_total}
use Rattle.std.proofs.lemmas.Map.Lookups.{exact_unsigned}
use Rattle.std.specs.FinSet as set
use Rattle.std.specs.HashMap as hash
use Rattle.std.specs.HashMap.{HashMap}
use Rattle.std.specs.Map.{lookup}
use Rattle.std.specs.Option.{MatchOption, IsSomeAnd, IsSome, is_some}
use Rattle.std.specs.List.{AllZip}
use Rattle.std.proofs.lemmas.Map.Entries.{lookup_clone}
use Rattle.std.specs.Global.{Global}
use Rattle.std.specs.declared.hash.BuildHasherDefault.{BuildHasherDefault}
use Rattle.std.specs.declared.hash.FoldHasher.{FoldHasher}
use Rattle.wac_edges.specs.declared.aliases.Aliases.{Aliases}
use Rattle.slab.specs.Slab.{Slab, get}
use Rattle.wac_edges.specs.declared.records.Record.{Record}
use Rattle.wac_edges.specs.Order.{Edges}
use Rattle.wac_edges.proofs.SetLemmas.{the_set, in_table, of_table}
use Rattle.wac_edges.specs.declared.edges.Label.TheVariants.{Alias}
use Rattle.wac_edges.specs.declared.edges.Edge.{Edge}
use Rattle.wac_edges.specs.declared.node.NodeId.{NodeId}
use Rattle.wac_edges.specs.Edge.{node_number, alias_edge}
use Rattle.std.proofs.Common.{◌++◌, length, take, drop, map, Contains}
use Rattle.std.proofs.Math.Seq.{take-append_seam}
use Rattle.wac_edges.specs.declared.records.Firsts.{Firsts}
use Rattle.wac_edges.specs.private.Records.{Table, HasEdge, AreListed, edge_at, list_at, first_at}
use Rattle.wac_edges.specs.private.Aliases.{triple_cmp, place, first, is_number, is_first, is_among, is_noted, is_crowded, AreNoted}
use Rattle.wac_edges.specs.declared.edges.End.TheVariants.{Outgoing}
use Rattle.slab.proofs.SlabLemmas.{Contains-cons, Contains-cons_cases}
use Rattle.wac_edges.proofs.EdgeLemmas.{same_node}
use Rattle.wac_edges.proofs.ListLemmas.{in_list, edge_of_list}

-- ---- triples
then_equal : (r s : Ordering) → is_eq (ordering_then r s) ≡ true → (r ≡ Equal) × (s ≡ Equal)
then_equal Less s h = cc
then_equal Greater s h = cc
then_equal Equal Less h = cc
then_equal Equal Greater h = cc
then_equal Equal Equal h = (refl, refl)

is_eq_of : (r : Ordering) → r ≡ Equal → is_eq r ≡ true
is_eq_of r h = ap is_eq h

triple_parts : (a b c x y z : ℕ) → is_at (triple_cmp (a, b, c)) (x, y, z) ≡ true → (a ≡ x) × (b ≡ y) × (c ≡ z)
triple_parts a b c x y z h =
    let (first, third) = then_equal (ordering_then (nat_cmp a x) (nat_cmp b y)) (nat_cmp c z) h in
    let (one, two) = then_equal (nat_cmp a x) (nat_cmp b y) (is_eq_of (ordering_then (nat_cmp a x) (nat_cmp b y)) first) in
    (exact_unsigned a x one, exact_unsigned b y two, exact_unsigned c z third)

triple_itself : (a b c x y z : ℕ) → a ≡ x → b ≡ y → c ≡ z → is_at (triple_cmp (a, b, c)) (x, y, z) ≡ true
triple_itself a b c x y z p q r = rw (sym p, sym q, sym r, tied_itself nat_cmp_total a, tied_itself nat_cmp_total b, tied_itself nat_cmp_total c) refl

-- ---- an alias's edge
the_edge : (edge : Edge) (position : ℕ) (source target : NodeId) (i : ℕ) → edge.label ≡ Alias position → edge.source.0 ≡ source.0 → position ≡ i → edge.target.0 ≡ target.0 → alias_edge source target i ≡ edge
the_edge edge position source target i is s p t =
    let from : source ≡ edge.source = sym (same_node edge.source source s) in
    let to : target ≡ edge.target = sym (same_node edge.target target t) in
    let label : Alias i ≡ edge.label = ap (λ (k : ℕ). Alias k) (sym p) ∙ sym is in
    λ j. record { source = from j; target = to j; label = label j }

same_position : (i j : ℕ) → Alias i ≡ Alias j → i ≡ j
same_position i j h = cc

is_the_triple : (edge : Edge) (position : ℕ) (source target : NodeId) (i : ℕ) → edge.label ≡ Alias position → alias_edge source target i ≡ edge → is_at (triple_cmp (edge.source.0, position, edge.target.0)) (source.0, i, target.0) ≡ true
is_the_triple edge position source target i is same =
    triple_itself edge.source.0 position edge.target.0 source.0 i target.0
    (ap (λ (e : Edge). e.source.0) (sym same))
    (same_position position i (sym is ∙ ap (λ (e : Edge). e.label) (sym same)))
    (ap (λ (e : Edge). e.target.0) (sym same))

-- ---- one more, and one less
module _ (old new : BTreeSet (ℕ × ℕ × ℕ)) (edge : Edge) (position : ℕ) (is : edge.label ≡ Alias position) (source target : NodeId) (i : ℕ) where
  abbrev tied : Bool
  tied = is_at (triple_cmp (edge.source.0, position, edge.target.0)) (source.0, i, target.0)

  its_edge : tied ≡ true → alias_edge source target i ≡ edge
  its_edge h = let (s, p, t) = triple_parts edge.source.0 position edge.target.0 source.0 i target.0 h in the_edge edge position source target i is s p t

  pub noted_more : is_among new source i target ≡ cond tied true (is_among old source i target) → (is_among new source i target ≡ true) ↔ ((is_among old source i target ≡ true) ⊎ (alias_edge source target i ≡ edge))
  noted_more now = split tied refl now where
    split : (b : Bool) → tied ≡ b → is_among new source i target ≡ cond b true (is_among old source i target) → (is_among new source i target ≡ true) ↔ ((is_among old source i target ≡ true) ⊎ (alias_edge source target i ≡ edge))
    split true same h = (λ _. inr (its_edge same), λ _. h)
    split false differ h = (λ w. inl (sym h ∙ w), λ w. elim w [ inl was ↦ h ∙ was | inr here ↦ absurd (clash here) ]) where
      clash : alias_edge source target i ≡ edge → ⊥
      clash here = let wrong : true ≡ false = sym (is_the_triple edge position source target i is here) ∙ differ in cc

  pub noted_less : is_among new source i target ≡ cond tied false (is_among old source i target) → (is_among new source i target ≡ true) ↔ ((is_among old source i target ≡ true) × (alias_edge source target i ≡ edge → ⊥))
  noted_less now = split tied refl now where
    split : (b : Bool) → tied ≡ b → is_among new source i target ≡ cond b false (is_among old source i target) → (is_among new source i target ≡ true) ↔ ((is_among old source i target ≡ true) × (alias_edge source target i ≡ edge → ⊥))
    split true same h = (λ w. absurd (let wrong : false ≡ true = sym h ∙ w in cc), λ w. absurd (w.1 (its_edge same)))
    split false differ h = (λ w. (sym h ∙ w, λ here. let wrong : true ≡ false = sym (is_the_triple edge position source target i is here) ∙ differ in cc), λ w. h ∙ w.0)

-- an edge of another label is none of an alias
module _ (s : Aliases) (edge : Edge) (other : (position : ℕ) → edge.label ≡ Alias position → ⊥) (source target : NodeId) (i : ℕ) where
  none_here : alias_edge source target i ≡ edge → ⊥
  none_here here = other i (ap (λ (e : Edge). e.label) (sym here))

  pub noted_same : (is_noted s source i target ≡ true) ↔ ((is_noted s source i target ≡ true) ⊎ (alias_edge source target i ≡ edge))
  noted_same = (λ w. inl w, λ w. elim w [ inl was ↦ was | inr here ↦ absurd (none_here here) ])

  pub noted_still : (is_noted s source i target ≡ true) ↔ ((is_noted s source i target ≡ true) × (alias_edge source target i ≡ edge → ⊥))
  noted_still = (λ w. (w, none_here), λ w. w.0)

-- ---- lists of places under numbers
abbrev Places : Type 0
Places = Vec (Option ℕ) Global

abbrev pub Lists : Type 0
Lists = HashMap ℕ Places (BuildHasherDefault FoldHasher)

abbrev pub read : Option Places → ℕ → Option ℕ
read o i = elim o as (λ _. Option ℕ) [ None ↦ None | Some places ↦ place places.items i ]

pub is_there : {v : Places} {o : Option Places} → Some v ≡ o → IsSome o
is_there h = ap (λ (o : Option Places). is_some o) (sym h)

-- the list of one number is another one now
module _ (old new : Lists) (source : ℕ) (list : Places) (puts : (q : ℕ) → hash.get nat_eq new q ≡ cond (nat_eq source q) (Some list) (hash.get nat_eq old q)) where
  pub put_here : (i : ℕ) → first new source i ≡ place list.items i
  put_here i = ap (λ o. read o i) (puts source ∙ ap (λ (b : Bool). cond b (Some list) (hash.get nat_eq old source)) (eq-eqb source source refl))

  -- which differs at one position from the one before
  pub put_elsewhere : (position : ℕ) → ((i : ℕ) → i ≢ position → place list.items i ≡ first old source i) → (s i : ℕ) → (s ≡ source → i ≢ position) → first new s i ≡ first old s i
  put_elsewhere position others s i away = elim (cases_Bool (nat_eq source s)) [
    | inl same ↦
        let is : s ≡ source = sym (eqb-true source s same) in
        ap (λ n. first new n i) is ∙ put_here i ∙ others i (away is) ∙ ap (λ n. first old n i) (sym is)
    | inr differ ↦ ap (λ o. read o i) (puts s ∙ ap (λ (b : Bool). cond b (Some list) (hash.get nat_eq old s)) differ)
  ]

-- what is said of two places is said of two that have the same
pub both : (P : Option ℕ → Option ℕ → Type 0) {a b x y : Option ℕ} → a ≡ x → b ≡ y → P a b → P x y
both P {a} {b} {x} {y} p q h = subst (λ z. P z y) p (subst (λ z. P a z) q h)

-- a list of clones has the same at each position
pub same_option : (R : Option ℕ → Option ℕ → Type 0) → ((y : ℕ) → R None (Some y) → ⊥) → ((x : ℕ) → R (Some x) None → ⊥) → ((x y : ℕ) → R (Some x) (Some y) → y ≡ x) → (a b : Option ℕ) → R a b → b ≡ a
same_option R more less same None None h = refl
same_option R more less same None (Some y) h = absurd (more y h)
same_option R more less same (Some x) None h = absurd (less x h)
same_option R more less same (Some x) (Some y) h = ap (λ (n : ℕ). Some n) (same x y h)

read_clone : (D : Places → Places → Type 0) → ((v w : Places) → D v w → w.items ≡ v.items) → (o p : Option Places) → MatchOption o (p ≡ None) (λ v. IsSomeAnd p (D v)) → (i : ℕ) → read p i ≡ read o i
read_clone D same None p h i = ap (λ q. read q i) h
read_clone D same (Some v) None h i = absurd h
read_clone D same (Some v) (Some w) h i = ap (λ (l : List (Option ℕ)). place l i) (same v w h)

pub first_clone : (C : ℕ → ℕ → Type 0) (D : Places → Places → Type 0) → ((x y : ℕ) → C x y → y ≡ x) → ((v w : Places) → D v w → w.items ≡ v.items) → (old new : Lists) → AllZip (λ p q. C p.0 q.0 × D p.1 q.1) old.entries new.entries → (s i : ℕ) → first new s i ≡ first old s i
first_clone C D keys same old new zip s i =
    read_clone D same (lookup (nat_eq s) old.entries) (lookup (nat_eq s) new.entries) (lookup_clone C D (nat_eq s) (λ x y c. ap (nat_eq s) (keys x y c)) old.entries new.entries zip) i

-- ---- aliases that were noted first
-- both numbers are equal
abbrev pair_eq : ℕ × ℕ → ℕ × ℕ → Bool
pair_eq x y = (x.0 == y.0) && (x.1 == y.1)

pair_parts : (a b x y : ℕ) → pair_eq (a, b) (x, y) ≡ true → (a ≡ x) × (b ≡ y)
pair_parts a b x y h = let (p, q) = and_parts (a == x) (b == y) h in (eqb-true a x p, eqb-true b y q)

pair_itself : (a b x y : ℕ) → a ≡ x → b ≡ y → pair_eq (a, b) (x, y) ≡ true
pair_itself a b x y p q = rw (eq-eqb a x p, eq-eqb b y q) refl

number_is : (k : ℕ) (o : Option ℕ) → is_number k o ≡ true → o ≡ Some k
number_is k None h = cc
number_is k (Some x) h = ap (λ (n : ℕ). Some n) (eqb-true x k h)

the_number : (k : ℕ) (o : Option ℕ) → o ≡ Some k → is_number k o ≡ true
the_number k o h = ap (is_number k) h ∙ eq-eqb k k refl

or_left : (a b : Bool) → a ≡ true → (a || b) ≡ true
or_left true b h = refl
or_left false b h = cc

or_right : (a b : Bool) → b ≡ true → (a || b) ≡ true
or_right true b h = refl
or_right false b h = h

clash : (b : Bool) → b ≡ true → b ≡ false → ⊥
clash true h k = cc
clash false h k = cc

-- one more among the others, or among the first ones
more_others : (a b c : Bool) (E : Type 0) → (c ≡ true) ↔ ((b ≡ true) ⊎ E) → ((a || c) ≡ true) ↔ (((a || b) ≡ true) ⊎ E)
more_others true b c E h = (λ _. inl refl, λ _. refl)
more_others false b c E h = h

more_firsts : (a b c : Bool) (E : Type 0) → (c ≡ true) ↔ ((a ≡ true) ⊎ E) → ((c || b) ≡ true) ↔ (((a || b) ≡ true) ⊎ E)
more_firsts a b c E h = (to, from) where
  was : (a ≡ true) ⊎ E → ((a || b) ≡ true) ⊎ E
  was (inl w) = inl (or_left a b w)
  was (inr e) = inr e

  to : (c || b) ≡ true → ((a || b) ≡ true) ⊎ E
  to w = elim (or_cases c b w) [ inl x ↦ was (h.0 x) | inr y ↦ inl (or_right a b y) ]

  from : ((a || b) ≡ true) ⊎ E → (c || b) ≡ true
  from (inl w) = elim (or_cases a b w) [ inl x ↦ or_left c b (h.1 (inl x)) | inr y ↦ or_right c b y ]
  from (inr e) = or_left c b (h.1 (inr e))

-- one less among both
less_both : (a b c d : Bool) (N : Type 0) → (c ≡ true) ↔ ((a ≡ true) × N) → (d ≡ true) ↔ ((b ≡ true) × N) → ((c || d) ≡ true) ↔ (((a || b) ≡ true) × N)
less_both a b c d N h k = (to, from) where
  to : (c || d) ≡ true → ((a || b) ≡ true) × N
  to w = elim (or_cases c d w) [ inl x ↦ (or_left a b (h.0 x).0, (h.0 x).1) | inr y ↦ (or_right a b (k.0 y).0, (k.0 y).1) ]

  from : ((a || b) ≡ true) × N → (c || d) ≡ true
  from (w, n) = elim (or_cases a b w) [ inl x ↦ or_left c d (h.1 (x, n)) | inr y ↦ or_right c d (k.1 (y, n)) ]

module _ (old new : Aliases) (edge : Edge) (position : ℕ) (is : edge.label ≡ Alias position) (source target : NodeId) (i : ℕ) where
  abbrev paired : Bool
  paired = pair_eq (edge.source.0, position) (source.0, i)

  edge_parts : alias_edge source target i ≡ edge → (edge.source.0 ≡ source.0) × (position ≡ i) × (edge.target.0 ≡ target.0)
  edge_parts same = (
    ap (λ (e : Edge). e.source.0) (sym same),
    same_position position i (sym is ∙ ap (λ (e : Edge). e.label) (sym same)),
    ap (λ (e : Edge). e.target.0) (sym same),
  )

  pairs : alias_edge source target i ≡ edge → paired ≡ true
  pairs same = let (s, p, t) = edge_parts same in pair_itself edge.source.0 position source.0 i s p

  -- what is at the edge's place is at the place of the node
  moved : (a : Aliases) → paired ≡ true → first a.firsts source.0 i ≡ first a.firsts edge.source.0 position
  moved a h = let (s, p) = pair_parts edge.source.0 position source.0 i h in λ j. first a.firsts (sym s j) (sym p j)

  -- where one place is written, and no other
  pub written : (v : Option ℕ) → first new.firsts edge.source.0 position ≡ v → ((s k : ℕ) → (s ≡ edge.source.0 → k ≢ position) → first new.firsts s k ≡ first old.firsts s k) → first new.firsts source.0 i ≡ cond paired v (first old.firsts source.0 i)
  written v here others = split paired refl where
    split : (b : Bool) → paired ≡ b → first new.firsts source.0 i ≡ cond b v (first old.firsts source.0 i)
    split true h = moved new h ∙ here
    split false h = others source.0 i (λ s k. clash paired (pair_itself edge.source.0 position source.0 i (sym s) (sym k)) h)

  -- none is
  pub kept : first new.firsts edge.source.0 position ≡ first old.firsts edge.source.0 position → ((s k : ℕ) → (s ≡ edge.source.0 → k ≢ position) → first new.firsts s k ≡ first old.firsts s k) → first new.firsts source.0 i ≡ first old.firsts source.0 i
  kept here others = split paired refl where
    split : (b : Bool) → paired ≡ b → first new.firsts source.0 i ≡ first old.firsts source.0 i
    split true h = moved new h ∙ here ∙ sym (moved old h)
    split false h = others source.0 i (λ s k. clash paired (pair_itself edge.source.0 position source.0 i (sym s) (sym k)) h)

  is_edge : paired ≡ true → edge.target.0 ≡ target.0 → alias_edge source target i ≡ edge
  is_edge h t = let (s, p) = pair_parts edge.source.0 position source.0 i h in the_edge edge position source target i is s p t

  first_more : first old.firsts edge.source.0 position ≡ None → first new.firsts source.0 i ≡ cond paired (Some edge.target.0) (first old.firsts source.0 i) → (is_first new source i target ≡ true) ↔ ((is_first old source i target ≡ true) ⊎ (alias_edge source target i ≡ edge))
  first_more none now = split paired refl now where
    split : (b : Bool) → paired ≡ b → first new.firsts source.0 i ≡ cond b (Some edge.target.0) (first old.firsts source.0 i) → (is_first new source i target ≡ true) ↔ ((is_first old source i target ≡ true) ⊎ (alias_edge source target i ≡ edge))
    split true h put = (to, from) where
      to : is_first new source i target ≡ true → (is_first old source i target ≡ true) ⊎ (alias_edge source target i ≡ edge)
      to w = let same : Some edge.target.0 ≡ Some target.0 = sym put ∙ number_is target.0 _ w in inr (is_edge h (cc))

      from : (is_first old source i target ≡ true) ⊎ (alias_edge source target i ≡ edge) → is_first new source i target ≡ true
      from (inl was) = let wrong : None ≡ Some target.0 = sym none ∙ sym (moved old h) ∙ number_is target.0 _ was in absurd (cc)
      from (inr same) = the_number target.0 _ (put ∙ ap (λ (n : ℕ). Some n) (edge_parts same).2)
    split false h put = (λ w. inl (ap (is_number target.0) (sym put) ∙ w), λ w. elim w [ inl was ↦ ap (is_number target.0) put ∙ was | inr same ↦ absurd (clash paired (pairs same) h) ])

  -- one that was noted first is struck out
  first_less : is_number edge.target.0 (first old.firsts edge.source.0 position) ≡ true → first new.firsts source.0 i ≡ cond paired None (first old.firsts source.0 i) → (is_first new source i target ≡ true) ↔ ((is_first old source i target ≡ true) × (alias_edge source target i ≡ edge → ⊥))
  first_less there now = split paired refl now where
    split : (b : Bool) → paired ≡ b → first new.firsts source.0 i ≡ cond b None (first old.firsts source.0 i) → (is_first new source i target ≡ true) ↔ ((is_first old source i target ≡ true) × (alias_edge source target i ≡ edge → ⊥))
    split true h gone = (to, from) where
      to : is_first new source i target ≡ true → (is_first old source i target ≡ true) × (alias_edge source target i ≡ edge → ⊥)
      to w = let wrong : None ≡ Some target.0 = sym gone ∙ number_is target.0 _ w in absurd (cc)

      from : (is_first old source i target ≡ true) × (alias_edge source target i ≡ edge → ⊥) → is_first new source i target ≡ true
      from (was, other) =
          let both : Some edge.target.0 ≡ Some target.0 = sym (number_is edge.target.0 _ there) ∙ sym (moved old h) ∙ number_is target.0 _ was in
          absurd (other (is_edge h (cc)))
    split false h kept = (λ w. (ap (is_number target.0) (sym kept) ∙ w, λ same. clash paired (pairs same) h), λ w. ap (is_number target.0) kept ∙ w.0)

  -- or it was not the first
  first_same : is_number edge.target.0 (first old.firsts edge.source.0 position) ≡ false → (is_first old source i target ≡ true) ↔ ((is_first old source i target ≡ true) × (alias_edge source target i ≡ edge → ⊥))
  first_same differ = (λ w. (w, other w), λ w. w.0) where
    other : is_first old source i target ≡ true → alias_edge source target i ≡ edge → ⊥
    other w same =
        let at : first old.firsts edge.source.0 position ≡ Some target.0 = sym (moved old (pairs same)) ∙ number_is target.0 _ w in
        clash (is_number edge.target.0 (first old.firsts edge.source.0 position)) (the_number edge.target.0 _ (at ∙ ap (λ (n : ℕ). Some n) (sym (edge_parts same).2))) differ

  -- ---- an edge is noted
  pub noted_first : new.others ≡ old.others → first old.firsts edge.source.0 position ≡ None → first new.firsts source.0 i ≡ cond paired (Some edge.target.0) (first old.firsts source.0 i) → (is_noted new source i target ≡ true) ↔ ((is_noted old source i target ≡ true) ⊎ (alias_edge source target i ≡ edge))
  noted_first others none now =
      subst (λ (s : BTreeSet (ℕ × ℕ × ℕ)). ((is_first new source i target || is_among s source i target) ≡ true) ↔ ((is_noted old source i target ≡ true) ⊎ (alias_edge source target i ≡ edge))) (sym others)
      (more_firsts (is_first old source i target) (is_among old.others source i target) (is_first new source i target) (alias_edge source target i ≡ edge) (first_more none now))

  -- an edge is struck out
  pub struck_first : is_number edge.target.0 (first old.firsts edge.source.0 position) ≡ true → first new.firsts source.0 i ≡ cond paired None (first old.firsts source.0 i) → (is_among new.others source i target ≡ true) ↔ ((is_among old.others source i target ≡ true) × (alias_edge source target i ≡ edge → ⊥))
      → (is_noted new source i target ≡ true) ↔ ((is_noted old source i target ≡ true) × (alias_edge source target i ≡ edge → ⊥))
  struck_first there now others = less_both (is_first old source i target) (is_among old.others source i target) (is_first new source i target) (is_among new.others source i target) (alias_edge source target i ≡ edge → ⊥) (first_less there now) others

  pub struck_other : is_number edge.target.0 (first old.firsts edge.source.0 position) ≡ false → first new.firsts source.0 i ≡ first old.firsts source.0 i → (is_among new.others source i target ≡ true) ↔ ((is_among old.others source i target ≡ true) × (alias_edge source target i ≡ edge → ⊥))
      → (is_noted new source i target ≡ true) ↔ ((is_noted old source i target ≡ true) × (alias_edge source target i ≡ edge → ⊥))
  struck_other differ same others = less_both (is_first old source i target) (is_among old.others source i target) (is_first new source i target) (is_among new.others source i target) (alias_edge source target i ≡ edge → ⊥)
      (subst (λ (o : Option ℕ). (is_number target.0 o ≡ true) ↔ ((is_first old source i target ≡ true) × (alias_edge source target i ≡ edge → ⊥))) (sym same) (first_same differ)) others

  -- the first one is struck out where it is this one
  pub struck : (first old.firsts edge.source.0 position ≡ Some edge.target.0 → first new.firsts edge.source.0 position ≡ None) → (first old.firsts edge.source.0 position ≢ Some edge.target.0 → first new.firsts edge.source.0 position ≡ first old.firsts edge.source.0 position)
      → ((s k : ℕ) → (s ≡ edge.source.0 → k ≢ position) → first new.firsts s k ≡ first old.firsts s k) → (is_among new.others source i target ≡ true) ↔ ((is_among old.others source i target ≡ true) × (alias_edge source target i ≡ edge → ⊥))
      → (is_noted new source i target ≡ true) ↔ ((is_noted old source i target ≡ true) × (alias_edge source target i ≡ edge → ⊥))
  struck gone other rest others = elim (cases_Bool (is_number edge.target.0 (first old.firsts edge.source.0 position))) [
    | inl there ↦ struck_first there (written None (gone (number_is edge.target.0 _ there)) rest) others
    | inr differ ↦ struck_other differ (kept (other (λ same. clash (is_number edge.target.0 (first old.firsts edge.source.0 position)) (the_number edge.target.0 _ same) differ)) rest) others
  ]

-- another one is noted
pub noted_other : (old new : Aliases) (edge : Edge) (source target : NodeId) (i : ℕ) → first new.firsts source.0 i ≡ first old.firsts source.0 i → (is_among new.others source i target ≡ true) ↔ ((is_among old.others source i target ≡ true) ⊎ (alias_edge source target i ≡ edge))
    → (is_noted new source i target ≡ true) ↔ ((is_noted old source i target ≡ true) ⊎ (alias_edge source target i ≡ edge))
noted_other old new edge source target i same others =
    subst (λ (o : Option ℕ). ((is_number target.0 o || is_among new.others source i target) ≡ true) ↔ ((is_noted old source i target ≡ true) ⊎ (alias_edge source target i ≡ edge))) (sym same)
    (more_others (is_first old source i target) (is_among old.others source i target) (is_among new.others source i target) (alias_edge source target i ≡ edge) others)

-- the same are noted where the same stand in both
pub noted_kept : (old new : Aliases) (source target : NodeId) (i : ℕ) → first new.firsts source.0 i ≡ first old.firsts source.0 i → new.others.keys ≡ old.others.keys → is_noted new source i target ≡ is_noted old source i target
noted_kept old new source target i firsts others = λ j. is_number target.0 (firsts j) || list_any (is_at (triple_cmp (source.0, i, target.0))) (others j)

pub noted_empty : (a : Aliases) → a.firsts.entries ≡ [] → a.others.keys ≡ [] → (source target : NodeId) (i : ℕ) → is_noted a source i target ≡ false
noted_empty a firsts others source target i = λ j. is_number target.0 (read (lookup (nat_eq source.0) (firsts j)) i) || list_any (is_at (triple_cmp (source.0, i, target.0))) (others j)

-- ---- the first of those of an export
-- what stands between two triples of the same two numbers has them too
between : (s p n i m t : ℕ) → is_gt (triple_cmp (s, p, 0) (n, i, m)) ≡ false → is_gt (triple_cmp (n, i, m) (s, p, t)) ≡ false → (n ≡ s) × (i ≡ p)
between s p n i m t = by_cases (nat_cmp s n) (nat_cmp n s) (nat_cmp p i) (nat_cmp i p) (nat_cmp 0 m) (nat_cmp m t) (ranks s n) (ranks n s) (ranks p i) (ranks i p) where
  by_cases : (r1 r1' r2 r2' r3 r3' : Ordering) → MatchOrdering r1 (s < n) (s ≡ n) (n < s) → MatchOrdering r1' (n < s) (n ≡ s) (s < n) → MatchOrdering r2 (p < i) (p ≡ i) (i < p) → MatchOrdering r2' (i < p) (i ≡ p) (p < i)
      → is_gt (ordering_then (ordering_then r1 r2) r3) ≡ false → is_gt (ordering_then (ordering_then r1' r2') r3') ≡ false → (n ≡ s) × (i ≡ p)
  by_cases Greater r1' r2 r2' r3 r3' a b c d h g = cc
  by_cases Less Greater r2 r2' r3 r3' a b c d h g = cc
  by_cases Less Less r2 r2' r3 r3' a b c d h g = absurd (omega (arith, a, b))
  by_cases Less Equal r2 r2' r3 r3' a b c d h g = absurd (omega (arith, a, b))
  by_cases Equal Less r2 r2' r3 r3' a b c d h g = absurd (omega (arith, a, b))
  by_cases Equal Greater r2 r2' r3 r3' a b c d h g = cc
  by_cases Equal Equal Greater r2' r3 r3' a b c d h g = cc
  by_cases Equal Equal Less Greater r3 r3' a b c d h g = cc
  by_cases Equal Equal Less Less r3 r3' a b c d h g = absurd (omega (arith, c, d))
  by_cases Equal Equal Less Equal r3 r3' a b c d h g = absurd (omega (arith, c, d))
  by_cases Equal Equal Equal r2' r3 r3' a b c d h g = (b, sym c)

-- no triple of these two numbers is below the one that ends with 0
pub begins : (s p t : ℕ) → is_gt (triple_cmp (s, p, 0) (s, p, t)) ≡ false
begins s p t = rw (tied_itself nat_cmp_total s, tied_itself nat_cmp_total p) (at_zero (nat_cmp 0 t) (ranks 0 t)) where
  at_zero : (r : Ordering) → MatchOrdering r (0 < t) (0 ≡ t) (t < 0) → is_gt r ≡ false
  at_zero Less h = refl
  at_zero Equal h = refl
  at_zero Greater h = absurd (omega (arith, h))

-- where the first has other numbers, none has these
pub none_of : (aliases : BTreeSet (ℕ × ℕ × ℕ)) (s p : ℕ) (k : ℕ × ℕ × ℕ) → is_gt (triple_cmp (s, p, 0) k) ≡ false → ((q : ℕ × ℕ × ℕ) → is_gt (triple_cmp (s, p, 0) q) ≡ false → contains triple_cmp aliases q ≡ true → is_gt (triple_cmp k q) ≡ false)
    → ((k.0 ≡ s) → (k.1 ≡ p) → ⊥) → (target : NodeId) → is_among aliases (node_number s) p target ≡ false
none_of aliases s p k from least other target = false_from_ne_true (is_among aliases (node_number s) p target) wrong where
  wrong : is_among aliases (node_number s) p target ≡ true → ⊥
  wrong there =
      let (one, two) = between s p k.0 k.1 k.2 target.0 from (least (s, p, target.0) (begins s p target.0) there) in
      other one two

pub none_at : (aliases : BTreeSet (ℕ × ℕ × ℕ)) (s p : ℕ) (r : List (ℕ × ℕ × ℕ)) → IsKeyRangeOf triple_cmp (Included (s, p, 0)) Unbounded aliases r → r ≡ [] → (target : NodeId) → is_among aliases (node_number s) p target ≡ false
none_at aliases s p r range empty target = range.5 empty (s, p, target.0) (begins s p target.0, tt)

pub none_first : (aliases : BTreeSet (ℕ × ℕ × ℕ)) (s p : ℕ) (r rest : List (ℕ × ℕ × ℕ)) (k : ℕ × ℕ × ℕ) → IsKeyRangeOf triple_cmp (Included (s, p, 0)) Unbounded aliases r → r ≡ k ∷ rest → (k.0 ≡ s → k.1 ≡ p → ⊥) → (target : NodeId) → is_among aliases (node_number s) p target ≡ false
none_first aliases s p r rest k range is other =
    let first : IsKeyInRange triple_cmp (Included (s, p, 0)) Unbounded aliases k = subst (λ (l : List (ℕ × ℕ × ℕ)). IfSome (slice_get l 0) (IsKeyInRange triple_cmp (Included (s, p, 0)) Unbounded aliases)) is range.1 in
    none_of aliases s p k first.0.0 (λ q from there. subst (λ (l : List (ℕ × ℕ × ℕ)). IfSome (slice_get l 0) (λ x. IsLeBy triple_cmp x q)) is (range.2 q (from, tt) there)) other

pub if_err : {T E : Type 0} (r : Result T E) {P : Type 0} → P → OnErr r P
if_err (Ok x) p = tt
if_err (Err e) p = p

pub if_none : {T : Type 0} (o : Option T) {P : Type 0} → P → IfNone o P
if_none None p = p
if_none (Some x) p = tt

-- ---- an edge of a crowded node
module _ (crowded : List Bool) (old new : Aliases) (edge : Edge) (source target : NodeId) (i : ℕ) where
  from_crowded : alias_edge source target i ≡ edge → is_crowded crowded source ≡ is_crowded crowded edge.source
  from_crowded same = ap (λ (e : Edge). is_crowded crowded e.source) same

  pub noted_in : is_crowded crowded edge.source ≡ true → (is_noted new source i target ≡ true) ↔ ((is_noted old source i target ≡ true) ⊎ (alias_edge source target i ≡ edge))
      → (is_noted new source i target ≡ true) ↔ ((is_noted old source i target ≡ true) ⊎ ((is_crowded crowded source ≡ true) × (alias_edge source target i ≡ edge)))
  noted_in many now = (
    λ w. elim (now.0 w) [ inl was ↦ inl was | inr same ↦ inr (from_crowded same ∙ many, same) ],
    λ h. now.1 (elim h [ inl was ↦ inl was | inr both ↦ inr both.1 ]),
  )

  pub noted_out : is_crowded crowded edge.source ≡ false → (is_noted old source i target ≡ true) ↔ ((is_noted old source i target ≡ true) ⊎ ((is_crowded crowded source ≡ true) × (alias_edge source target i ≡ edge)))
  noted_out few = (
    λ w. inl w,
    λ h. elim h [ inl was ↦ was | inr both ↦ absurd (let wrong : true ≡ false = sym both.0 ∙ from_crowded both.1 ∙ few in cc) ],
  )

-- ---- some edges, one after another
-- of all of these edges those are noted that are not left
pub record AreNoting (all left : List Edge) (old now : Aliases) : Type 0 where
  pub within : (e : Edge) → Contains left e → Contains all e
  pub more : (source target : NodeId) (i : ℕ) → is_noted now source i target ≡ true → (is_noted old source i target ≡ true) ⊎ Contains all (alias_edge source target i)
  pub kept : (source target : NodeId) (i : ℕ) → is_noted old source i target ≡ true → is_noted now source i target ≡ true
  pub done : (source target : NodeId) (i : ℕ) → Contains all (alias_edge source target i) → Contains left (alias_edge source target i) ⊎ (is_noted now source i target ≡ true)

pub noting_start : (all left : List Edge) (aliases : Aliases) → left ≡ all → AreNoting all left aliases aliases
noting_start all left aliases is = record {
  within = λ e w. subst (λ (l : List Edge). Contains l e) is w;
  more = λ source target i w. inl w;
  kept = λ source target i w. w;
  done = λ source target i w. inl (subst (λ (l : List Edge). Contains l (alias_edge source target i)) (sym is) w);
}

pub noting_next : (all left rest : List Edge) (edge : Edge) (old now new : Aliases) → left ≡ edge ∷ rest → AreNoting all left old now
    → ((source target : NodeId) (i : ℕ) → (is_noted new source i target ≡ true) ↔ ((is_noted now source i target ≡ true) ⊎ (alias_edge source target i ≡ edge))) → AreNoting all rest old new
noting_next all left rest edge old now new is a step = record {
  within = λ e w. a.within e (subst (λ (l : List Edge). Contains l e) (sym is) (Contains-cons edge e rest w));
  more = λ source target i w. elim ((step source target i).0 w) [
    | inl was ↦ a.more source target i was
    | inr same ↦ inr (subst (λ (e : Edge). Contains all e) (sym same) (a.within edge (subst (λ (l : List Edge). Contains l edge) (sym is) (0, omega arith, refl))))
  ];
  kept = λ source target i w. (step source target i).1 (inl (a.kept source target i w));
  done = λ source target i w. elim (a.done source target i w) [
    | inl there ↦ elim (Contains-cons_cases edge (alias_edge source target i) rest (subst (λ (l : List Edge). Contains l (alias_edge source target i)) is there)) [
      | inl same ↦ inr ((step source target i).1 (inr (sym same)))
      | inr behind ↦ inl behind
    ]
    | inr noted ↦ inr ((step source target i).1 (inl noted))
  ];
}

pub noting_done : (all left : List Edge) (old now : Aliases) → left ≡ [] → AreNoting all left old now → (source target : NodeId) (i : ℕ) → Contains all (alias_edge source target i) → is_noted now source i target ≡ true
noting_done all left old now is a source target i w = elim (a.done source target i w) [
  | inl there ↦ absurd (let (k, within, _) = subst (λ (l : List Edge). Contains l (alias_edge source target i)) is there in omega arith)
  | inr noted ↦ noted
]

-- ---- one crowded node more
pub crowded_more : (crowded then : List Bool) (node : NodeId) → ((n : NodeId) → n.0 ≢ node.0 → is_crowded then n ≡ is_crowded crowded n) → (source : NodeId) → is_crowded then source ≡ true → (is_crowded crowded source ≡ true) ⊎ (source.0 ≡ node.0)
crowded_more crowded then node others source many = elim (cases_Bool (eqb source.0 node.0)) [
  | inl same ↦ inr (eqb-true source.0 node.0 same)
  | inr differ ↦ inl (sym (others source (grind (arith, nat_tests))) ∙ many)
]

-- ---- the notes of a table
pub noted_with : (crowded marks : List Bool) → marks ≡ crowded → (old new : Aliases) (t u : Table) (edge : Edge) → AreNoted crowded old t
    → ((source target : NodeId) (i : ℕ) → (is_noted new source i target ≡ true) ↔ ((is_noted old source i target ≡ true) ⊎ ((is_crowded marks source ≡ true) × (alias_edge source target i ≡ edge))))
    → ((e : Edge) → HasEdge u e ↔ (HasEdge t e ⊎ (e ≡ edge))) → AreNoted crowded new u
noted_with crowded marks read old new t u edge noted now edges = record {
  sound = λ source target i w. (edges (alias_edge source target i)).1 (elim ((now source target i).0 w) [ inl was ↦ inl (noted.sound source target i was) | inr both ↦ inr both.1 ]);
  all = λ source target i many h. (now source target i).1 (elim ((edges (alias_edge source target i)).0 h) [ inl was ↦ inl (noted.all source target i many was) | inr same ↦ inr (ap (λ l. is_crowded l source) read ∙ many, same) ]);
}

pub noted_without : (crowded : List Bool) (old new : Aliases) (t u : Table) (edge : Edge) (key : ℕ) → edge_at t key ≡ Some edge → AreNoted crowded old t
    → ((source target : NodeId) (i : ℕ) → (is_noted new source i target ≡ true) ↔ ((is_noted old source i target ≡ true) × (alias_edge source target i ≡ edge → ⊥)))
    → ((e : Edge) → HasEdge u e ↔ (HasEdge t e × (edge_at t key ≡ Some e → ⊥))) → AreNoted crowded new u
noted_without crowded old new t u edge key at noted now edges = record {
  sound = λ source target i w.
      let (was, other) = (now source target i).0 w in
      (edges (alias_edge source target i)).1 (noted.sound source target i was, λ here. other (let both : Some edge ≡ Some (alias_edge source target i) = sym at ∙ here in let same : edge ≡ alias_edge source target i = cc in sym same));
  all = λ source target i many h.
      let (was, other) = (edges (alias_edge source target i)).0 h in
      (now source target i).1 (noted.all source target i many was, λ same. other (at ∙ ap (λ (e : Edge). Some e) (sym same)));
}

pub noted_as : (crowded : List Bool) (old new : Aliases) (t : Table) → AreNoted crowded old t → ((source target : NodeId) (i : ℕ) → is_noted new source i target ≡ is_noted old source i target) → AreNoted crowded new t
noted_as crowded old new t noted same = record {
  sound = λ source target i w. noted.sound source target i (sym (same source target i) ∙ w);
  all = λ source target i many h. same source target i ∙ noted.all source target i many h;
}

pub noted_with_same : (crowded then : List Bool) (old new : Aliases) (t : Table) → ((n : NodeId) → is_crowded then n ≡ is_crowded crowded n) → AreNoted crowded old t → ((source target : NodeId) (i : ℕ) → is_noted new source i target ≡ is_noted old source i target) → AreNoted then new t
noted_with_same crowded then old new t numbers noted same = record {
  sound = λ source target i w. noted.sound source target i (sym (same source target i) ∙ w);
  all = λ source target i many h. same source target i ∙ noted.all source target i (sym (numbers source) ∙ many) h;
}

pub noted_none : (s : Slab Record) (crowded : List Bool) (aliases : Aliases) → s.slots ≡ [] → crowded ≡ [] → ((source target : NodeId) (i : ℕ) → is_noted aliases source i target ≡ false) → AreNoted crowded aliases (get s)
noted_none s crowded aliases empty few none = record {
  sound = λ source target i w. absurd (clash (is_noted aliases source i target) w (none source target i));
  all = λ source target i many h. let wrong : false ≡ true = sym (ap (λ (l : List Bool). is_crowded l source) few) ∙ many in cc;
}

-- ---- the aliases of one node more
module _ (s : Slab Record) (firsts : List Firsts) (listed : AreListed (get s) firsts) (crowded : List Bool) (old new : Aliases) (noted : AreNoted crowded old (get s)) (node : NodeId) (es : List Edge)
    (at : es ≡ map (λ (x : ℕ × Edge). x.1) (list_at s Outgoing (first_at Outgoing firsts node.0)))
    (more : (source target : NodeId) (i : ℕ) → is_noted new source i target ≡ true → (is_noted old source i target ≡ true) ⊎ Contains es (alias_edge source target i))
    (kept : (source target : NodeId) (i : ℕ) → is_noted old source i target ≡ true → is_noted new source i target ≡ true) where
  more_sound : (source target : NodeId) (i : ℕ) → is_noted new source i target ≡ true → HasEdge (get s) (alias_edge source target i)
  more_sound source target i w = elim (more source target i w) [
    | inl was ↦ noted.sound source target i was
    | inr there ↦ (in_list s firsts listed node.0 Outgoing (alias_edge source target i) (subst (λ (l : List Edge). Contains l (alias_edge source target i)) at there)).0
  ]

  -- some of them are noted
  pub noted_some : AreNoted crowded new (get s)
  noted_some = record { sound = more_sound; all = λ source target i many h. kept source target i (noted.all source target i many h) }

  -- all of them are
  pub noted_node : ((source target : NodeId) (i : ℕ) → Contains es (alias_edge source target i) → is_noted new source i target ≡ true)
      → (then : List Bool) → ((source : NodeId) → is_crowded then source ≡ true → (is_crowded crowded source ≡ true) ⊎ (source.0 ≡ node.0)) → AreNoted then new (get s)
  noted_node every then crowd = record {
    sound = more_sound;
    all = λ source target i many h. elim (crowd source many) [
      | inl was ↦ kept source target i (noted.all source target i was h)
      | inr here ↦ every source target i (subst (λ (l : List Edge). Contains l (alias_edge source target i)) (sym at) (edge_of_list s firsts listed node.0 Outgoing (alias_edge source target i) h here))
    ];
  }

-- ---- the alias that a look-up answers
module _ (s : Slab Record) (crowded : List Bool) (aliases : Aliases) (edges : Edges) (noted : AreNoted crowded aliases (get s)) (shown : the_set s ≡ edges) (source : NodeId) (i : ℕ) where
  pub alias_found : (target : ℕ) → is_noted aliases source i (node_number target) ≡ true → set.contains edges (alias_edge source (node_number target) i) ≡ true
  alias_found target there = ap (λ (v : Edges). set.contains v (alias_edge source (node_number target) i)) (sym shown) ∙ of_table s (alias_edge source (node_number target) i) (noted.sound source (node_number target) i there)

  pub alias_absent : is_crowded crowded source ≡ true → ((target : NodeId) → is_noted aliases source i target ≡ false) → (target : NodeId) → set.contains edges (alias_edge source target i) ≡ false
  alias_absent many none target = false_from_ne_true (set.contains edges (alias_edge source target i)) (λ h.
      let there : is_noted aliases source i target ≡ true = noted.all source target i many (in_table s (alias_edge source target i) (ap (λ (v : Edges). set.contains v (alias_edge source target i)) shown ∙ h)) in
      let wrong : false ≡ true = sym (none target) ∙ there in cc)

-- ---- the first records that were written through a borrow of all of them
pub listed_back : (t : Table) (xs ys : List Firsts) (n : ℕ) → length xs ≡ n → AreListed t xs → AreListed t (take n (xs ++ drop (length xs) ys))
listed_back t xs ys n long listed = subst (λ (zs : List Firsts). AreListed t zs) (sym (ap (λ k. take k (xs ++ drop (length xs) ys)) (sym long) ∙ take-append_seam xs (drop (length xs) ys))) listed
