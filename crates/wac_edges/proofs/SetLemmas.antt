-- The set of the edges of all records.
use Rattle.std.proofs.Common.{◌≡◌, ◌↔◌, ℕ, zero, suc, Bool, true, false, not, ◌&&◌, ◌||◌, List, [], ◌∷◌, map, Contains, slice_index_or, Option, Some, None, option_map, is_some, IfSome, IfNone, refl, sym, ap, ◌∙◌, subst, ◌⊎◌, inl, inr, arith}
use Rattle.std.specs.Cmp.{tied_itself}
use Rattle.std.specs.Ordering.{eq_by_cmp, is_eq}
use Rattle.std.specs.FinSet.{contains, from_list, insert, remove, contains-insert, contains-remove, same_set}
use Rattle.std.proofs.lemmas.Bool.{and_parts, or_cases, false_from_ne_true}
use Rattle.slab.specs.Slab.{Slab, get}
use Rattle.slab.proofs.SlabLemmas.{Contains-cons, Contains-cons_cases}
use Rattle.wac_edges.specs.declared.edges.Edge.{Edge}
use Rattle.wac_edges.specs.declared.node.NodeId.{NodeId}
use Rattle.wac_edges.specs.declared.edges.End.{End}
use Rattle.wac_edges.specs.declared.records.Record.{Record}
use Rattle.wac_edges.specs.declared.records.Firsts.{Firsts}
use Rattle.wac_edges.specs.Edge.{edge_cmp}
use Rattle.wac_edges.specs.Order.{Edges}
use Rattle.wac_edges.specs.Ends.{at_end, AreAt}
use Rattle.wac_edges.specs.private.Records.{AreListed, HasEdge, all_edges, edge_at, list_at, first_at}
use Rattle.wac_edges.proofs.EdgeLemmas.{edge_cmp_total, edge_cmp-IsAntisymmetric, same_node, in_set, from_set, exact_edges}
use Rattle.wac_edges.proofs.ListLemmas.{in_list, edge_of_list, each_once}

-- ---- the edges of slots
from_slot : (slots : List (Option Record)) (k : ℕ) (e : Edge) → option_map (λ (r : Record). r.edge) (slice_index_or slots k None) ≡ Some e → Contains (all_edges slots) e
from_slot [] k e h = absurd (cc)
from_slot (None ∷ slots) zero e h = absurd (cc)
from_slot (None ∷ slots) (suc k) e h = from_slot slots k e h
from_slot (Some r ∷ slots) zero e h = (0, omega arith, cc)
from_slot (Some r ∷ slots) (suc k) e h = Contains-cons r.edge e (all_edges slots) (from_slot slots k e h)

pub to_slot : (slots : List (Option Record)) (e : Edge) → Contains (all_edges slots) e → (k : ℕ) × (option_map (λ (r : Record). r.edge) (slice_index_or slots k None) ≡ Some e)
to_slot [] e (i, within, _) = absurd (omega arith)
to_slot (None ∷ slots) e w = let (k, at) = to_slot slots e w in (suc k, at)
to_slot (Some r ∷ slots) e w = elim (Contains-cons_cases r.edge e (all_edges slots) w) [
  | inl same ↦ (0, ap (λ (v : Edge). Some v) same)
  | inr rest ↦ let (k, at) = to_slot slots e rest in (suc k, at)
]

abbrev pub the_set : Slab Record → Edges
the_set s = from_list (all_edges s.slots)

pub in_table : (s : Slab Record) (e : Edge) → contains (the_set s) e ≡ true → HasEdge (get s) e
in_table s e h = to_slot s.slots e (from_set (all_edges s.slots) e h)

pub of_table : (s : Slab Record) (e : Edge) → HasEdge (get s) e → contains (the_set s) e ≡ true
of_table s e (k, at) = in_set (all_edges s.slots) e (from_slot s.slots k e at)

-- ---- sets
both_ways : (a b : Bool) → (a ≡ true → b ≡ true) → (b ≡ true → a ≡ true) → a ≡ b
both_ways true b f g = sym (f refl)
both_ways false true f g = g refl
both_ways false false f g = refl

same_sets : (s t : Edges) → ((e : Edge) → contains s e ≡ true → contains t e ≡ true) → ((e : Edge) → contains t e ≡ true → contains s e ≡ true) → s ≡ t
same_sets s t f g = same_set edge_cmp_total edge_cmp-IsAntisymmetric s t (λ e. both_ways (contains s e) (contains t e) (f e) (g e))

tied : (e edge : Edge) → e ≡ edge → eq_by_cmp edge_cmp e edge ≡ true
tied e edge same = subst (λ (x : Edge). eq_by_cmp edge_cmp e x ≡ true) same (ap is_eq (tied_itself edge_cmp_total e))

or_second : (a b : Bool) → b ≡ true → (a || b) ≡ true
or_second true b h = refl
or_second false b h = h

has_inserted : (s : Edges) (edge e : Edge) → (contains (insert s edge) e ≡ true) ↔ ((contains s e ≡ true) ⊎ (e ≡ edge))
has_inserted s edge e = (to, from) where
  is : contains (insert s edge) e ≡ (eq_by_cmp edge_cmp e edge || contains s e)
  is = contains-insert edge_cmp_total s edge e

  to : contains (insert s edge) e ≡ true → (contains s e ≡ true) ⊎ (e ≡ edge)
  to h = elim (or_cases (eq_by_cmp edge_cmp e edge) (contains s e) (sym is ∙ h)) [ inl t ↦ inr (exact_edges e edge t) | inr w ↦ inl w ]

  from : (contains s e ≡ true) ⊎ (e ≡ edge) → contains (insert s edge) e ≡ true
  from (inl w) = is ∙ or_second (eq_by_cmp edge_cmp e edge) (contains s e) w
  from (inr same) = is ∙ ap (λ b. b || contains s e) (tied e edge same)

has_removed : (s : Edges) (edge e : Edge) → (contains (remove s edge) e ≡ true) ↔ ((contains s e ≡ true) × (e ≡ edge → ⊥))
has_removed s edge e = (to, from) where
  is : contains (remove s edge) e ≡ (not (eq_by_cmp edge_cmp e edge) && contains s e)
  is = contains-remove edge_cmp_total s edge e

  clash : not (eq_by_cmp edge_cmp e edge) ≡ true → e ≡ edge → ⊥
  clash h same = let t = tied e edge same in cc

  to : contains (remove s edge) e ≡ true → (contains s e ≡ true) × (e ≡ edge → ⊥)
  to h = let (differ, there) = and_parts (not (eq_by_cmp edge_cmp e edge)) (contains s e) (sym is ∙ h) in (there, clash differ)

  from : (contains s e ≡ true) × (e ≡ edge → ⊥) → contains (remove s edge) e ≡ true
  from (there, other) = let differ : eq_by_cmp edge_cmp e edge ≡ false = false_from_ne_true (eq_by_cmp edge_cmp e edge) (λ t. other (exact_edges e edge t)) in is ∙ rw (differ, there) refl

-- the table with one edge more, and with one less
pub value_with : (old new : Slab Record) (edge : Edge) → ((e : Edge) → HasEdge (get new) e ↔ (HasEdge (get old) e ⊎ (e ≡ edge))) → the_set new ≡ insert (the_set old) edge
value_with old new edge h = same_sets (the_set new) (insert (the_set old) edge) to from where
  to : (e : Edge) → contains (the_set new) e ≡ true → contains (insert (the_set old) edge) e ≡ true
  to e w = (has_inserted (the_set old) edge e).1 (elim ((h e).0 (in_table new e w)) [ inl was ↦ inl (of_table old e was) | inr same ↦ inr same ])

  from : (e : Edge) → contains (insert (the_set old) edge) e ≡ true → contains (the_set new) e ≡ true
  from e w = of_table new e ((h e).1 (elim ((has_inserted (the_set old) edge e).0 w) [ inl was ↦ inl (in_table old e was) | inr same ↦ inr same ]))

pub value_without : (old new : Slab Record) (edge : Edge) → ((e : Edge) → HasEdge (get new) e ↔ (HasEdge (get old) e × (e ≡ edge → ⊥))) → the_set new ≡ remove (the_set old) edge
value_without old new edge h = same_sets (the_set new) (remove (the_set old) edge) to from where
  to : (e : Edge) → contains (the_set new) e ≡ true → contains (remove (the_set old) edge) e ≡ true
  to e w = let (was, other) = (h e).0 (in_table new e w) in (has_removed (the_set old) edge e).1 (of_table old e was, other)

  from : (e : Edge) → contains (remove (the_set old) edge) e ≡ true → contains (the_set new) e ≡ true
  from e w = let (was, other) = (has_removed (the_set old) edge e).0 w in of_table new e ((h e).1 (in_table old e was, other))

pub inserted_same : (s : Edges) (edge : Edge) → contains s edge ≡ true → s ≡ insert s edge
inserted_same s edge there = same_sets s (insert s edge) (λ e w. (has_inserted s edge e).1 (inl w))
    (λ e w. elim ((has_inserted s edge e).0 w) [ inl was ↦ was | inr same ↦ ap (contains s) same ∙ there ])

pub removed_same : (s : Edges) (edge : Edge) → (contains s edge ≡ true → ⊥) → s ≡ remove s edge
removed_same s edge absent = same_sets s (remove s edge) (λ e w. (has_removed s edge e).1 (w, λ same. absent (sym (ap (contains s) same) ∙ w)))
    (λ e w. ((has_removed s edge e).0 w).0)

-- ---- the edges at an end of a node
pub are_at : (s : Slab Record) (firsts : List Firsts) → AreListed (get s) firsts → (node : NodeId) (end : End) (edges : Edges) → the_set s ≡ edges → (es : List Edge) → es ≡ map (λ (x : ℕ × Edge). x.1) (list_at s end (first_at end firsts node.0)) → AreAt edges node end es
are_at s firsts listed node end edges is es at =
    subst (λ (l : List Edge). AreAt edges node end l) (sym at) (subst (λ (v : Edges). AreAt v node end (map (λ (x : ℕ × Edge). x.1) (list_at s end (first_at end firsts node.0)))) is (record {
      all = λ e. (
        λ w. let (has, there) = in_list s firsts listed node.0 end e w in (of_table s e has, same_node (at_end end e) node there),
        λ w. edge_of_list s firsts listed node.0 end e (in_table s e w.0) (ap (λ (n : NodeId). n.0) w.1),
      );
      once = each_once s firsts listed node.0 end;
    }))

-- ---- what is known while an edge is looked for among those at an end of a node
pub record Seeks (edges : Edges) (node : NodeId) (end : End) (P : Edge → Type 0) (left : List Edge) : Type 0 where
  pub sound : (e : Edge) → Contains left e → (contains edges e ≡ true) × (at_end end e ≡ node)
  pub rest : (e : Edge) → contains edges e ≡ true → at_end end e ≡ node → P e → Contains left e

module _ (edges : Edges) (node : NodeId) (end : End) (P : Edge → Type 0) where
  pub seeks_start : (es left : List Edge) → left ≡ es → AreAt edges node end es → Seeks edges node end P left
  seeks_start es left is a = subst (λ (l : List Edge). Seeks edges node end P l) (sym is) (record { sound = λ e w. (a.all e).0 w; rest = λ e w at _. (a.all e).1 (w, at) })

  pub seeks_next : (x : Edge) (es left : List Edge) → left ≡ x ∷ es → (P x → ⊥) → Seeks edges node end P left → Seeks edges node end P es
  seeks_next x es left is other s = record {
    sound = λ e w. s.sound e (subst (λ (l : List Edge). Contains l e) (sym is) (Contains-cons x e es w));
    rest = λ e w at p. elim (Contains-cons_cases x e es (subst (λ (l : List Edge). Contains l e) is (s.rest e w at p))) [
      | inl same ↦ absurd (other (subst (λ (v : Edge). P v) (sym same) p))
      | inr within ↦ within
    ];
  }

  pub seeks_found : (x : Edge) (es left : List Edge) → left ≡ x ∷ es → Seeks edges node end P left → (contains edges x ≡ true) × (at_end end x ≡ node)
  seeks_found x es left is s = s.sound x (subst (λ (l : List Edge). Contains l x) (sym is) (0, omega arith, refl))

  pub seeks_none : (left : List Edge) → left ≡ [] → Seeks edges node end P left → (e : Edge) → contains edges e ≡ true → at_end end e ≡ node → P e → ⊥
  seeks_none left is s e w at p = let (i, within, _) = subst (λ (l : List Edge). Contains l e) is (s.rest e w at p) in omega arith

-- ---- what is found
pub found_is : (s : Slab Record) (edge : Edge) (o : Option ℕ) → IfSome o (λ k. edge_at (get s) k ≡ Some edge) → IfNone o ((k : ℕ) → edge_at (get s) k ≡ Some edge → ⊥) → is_some o ≡ contains (the_set s) edge
found_is s edge None some none = sym (false_from_ne_true (contains (the_set s) edge) (λ h. let (k, at) = in_table s edge h in none k at))
found_is s edge (Some k) some none = sym (of_table s edge (k, some))

pub value_taken : (old new : Slab Record) (edge : Edge) (key : ℕ) → edge_at (get old) key ≡ Some edge → ((e : Edge) → HasEdge (get new) e ↔ (HasEdge (get old) e × (edge_at (get old) key ≡ Some e → ⊥))) → the_set new ≡ remove (the_set old) edge
value_taken old new edge key at edges = value_without old new edge (λ e. (
  λ h. let (was, other) = (edges e).0 h in (was, λ same. other (at ∙ ap (λ (v : Edge). Some v) (sym same))),
  λ h. (edges e).1 (h.0, λ is. let both : Some edge ≡ Some e = sym at ∙ is in let one : edge ≡ e = cc in h.1 (sym one)),
))
