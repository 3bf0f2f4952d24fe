-- The rows of a graph's imports, number by number.
use Rattle.std.proofs.Common.{◌≡◌, ℕ, zero, suc, ◌+◌, ◌-◌, ◌<◌, ◌≤◌, Bool, true, false, cond, eqb, ◌&&◌, ◌||◌, List, [], ◌∷◌, ◌++◌, map, length, drop, get_or, refl, ap, ◌∙◌, sym, arith, Option, Some, None, MatchOption, ◌⊎◌, inl, inr}
use Rattle.std.proofs.Math.Path.{fun_ext}
use Rattle.std.specs.Prelude.{slice_get}
use Rattle.std.specs.Borrow.{Bor}
use Rattle.std.specs.Option.{option_map}
use Rattle.std.specs.List.{flat_map, range_with_len, list_any, Contains}
use Rattle.std.specs.Ordering.{nat_cmp, eq_by_cmp, is_eq}
use Rattle.std.specs.Cmp.{nat_cmp_total, nat_cmp_is, tied_itself}
use Rattle.std.specs.declared.cmp.Ordering.TheVariants.{Less}
use Rattle.std.specs.FinMap as finite
use Rattle.std.specs.FinMap.{put}
use Rattle.std.specs.FinSet as set
use Rattle.std.proofs.lemmas.Bool.{cases_lt, eqb-true}
use Rattle.std.proofs.lemmas.List.{drop_all}
use Rattle.std.proofs.lemmas.List.Folds.{list_any_at}
use Rattle.slab.specs.Slab.{get, entries_from}
use Rattle.wac_types_shapes.specs.primitives.Name.{Name}
use Rattle.wac_types_shapes.specs.declared.shapes.component.ItemKind.{ItemKind}
use Rattle.wac_edges.specs.declared.edges.Edge.{Edge}
use Rattle.wac_edges.specs.declared.edges.Label.{Label}
use Rattle.wac_edges.specs.declared.edges.Label.TheVariants.{Alias, Argument, Dependency}
use Rattle.wac_graph_model.specs.declared.nodes.node.Node.{Node}
use Rattle.wac_edges.specs.declared.node.NodeId.{NodeId}
use Rattle.wac_graph_model.specs.declared.nodes.node.NodeKind.TheVariants as code
use Rattle.wac_edges.specs.Edge.{edge_cmp, argument_edge}
use Rattle.wac_graph_model.specs.nodes.Graph as graph
use Rattle.wac_edges.specs.Edge.{node_number}
use Rattle.wac_graph_model.specs.nodes.Graph.{Graph, GraphNode, Kind, node_at, imports_of, import_name, IsUnsatisfied}
use Rattle.wac_graph_model.specs.nodes.Nodes.{node_of, nodes_of, kind_of, satisfied, satisfied_at, has_position, Positions}
use Rattle.wac_graph_fields.specs.private.Fields.{Fields, graph_of, Invariant}
use Rattle.wac_graph_model.specs.nodes.Asked.{is_argument, is_argument_label, is_satisfied, unsatisfied, asked_by, imported_by}
use Rattle.wac_graph_model.specs.nodes.Imports.{unset_row, node_row, unset_rows, node_rows, asked_rows}
use Rattle.wac_graph_fields.specs.private.ImportsLeft.{unset, unset_from, row_of, node_left, instantiations_left, nodes_left, left}
use Rattle.wac_edges.proofs.EdgeLemmas.{edge_cmp_total}
use Rattle.wac_graph_model.proofs.lemmas.meaning.AskedLemmas.{satisfied as set_by_edge}
use Rattle.wac_graph_reader.proofs.lemmas.writing.EncodingLemmas.{node_is}

abbrev Row : Type 0
Row = Name × ItemKind × Option NodeId

-- the rest of a list from an element on
pub at_drop : {X : Type 0} (xs : List X) (i : ℕ) (x : X) → slice_get xs i ≡ Some x → drop i xs ≡ x ∷ drop (suc i) xs
at_drop [] i x h = cc
at_drop (y ∷ xs) zero x h = let e : y ≡ x = cc in ap (λ z. z ∷ xs) e
at_drop (y ∷ xs) (suc i) x h = at_drop xs i x h

-- the first import from a position on
module _ (inside : ℕ → Bool) (imports : List (Name × ItemKind)) where
  at_suc : (i : ℕ) → unset_from inside imports (suc i) ≡ unset_from inside imports (i + 1)
  at_suc i = let e : suc i ≡ i + 1 = omega arith in ap (unset_from inside imports) e

  pub skipped : (i : ℕ) (e : Name × ItemKind) → slice_get imports i ≡ Some e → inside i ≡ true → unset_from inside imports i ≡ unset_from inside imports (i + 1)
  skipped i e at is = ap (unset inside i) (at_drop imports i e at) ∙ ap (λ b. cond b (unset_from inside imports (suc i)) (e ∷ unset_from inside imports (suc i))) is ∙ at_suc i

  pub found : (i : ℕ) (e : Name × ItemKind) → slice_get imports i ≡ Some e → inside i ≡ false → unset_from inside imports i ≡ e ∷ unset_from inside imports (i + 1)
  found i e at is = ap (unset inside i) (at_drop imports i e at) ∙ ap (λ b. cond b (unset_from inside imports (suc i)) (e ∷ unset_from inside imports (suc i))) is ∙ ap (λ rest. e ∷ rest) (at_suc i)

  pub none_from : (i : ℕ) → length imports ≤ i → unset_from inside imports i ≡ []
  none_from i past = ap (unset inside i) (drop_all i imports past)

-- an entry by its name and its kind
pub entry_by : (o : Option (Name × ItemKind)) (name : Name) (kind : ItemKind) → option_map (λ e. e.0) o ≡ Some name → option_map (λ e. e.1) o ≡ Some kind → o ≡ Some (name, kind)
entry_by None name kind p q = cc
entry_by (Some e) name kind p q = let n : e.0 ≡ name = same_Some e.0 name p in let k : e.1 ≡ kind = same_Some e.1 kind q in λ i. Some (n i, k i) where
  same_Some : {X : Type 0} (x y : X) → Some x ≡ Some y → x ≡ y
  same_Some x y h = cc

pub some_entry : {X : Type 0} (xs : List X) (i : ℕ) → i < length xs → (x : X) × (slice_get xs i ≡ Some x)
some_entry [] i h = absurd (omega arith)
some_entry (x ∷ xs) zero h = (x, refl)
some_entry (x ∷ xs) (suc i) h = some_entry xs i (omega arith)

-- what comes first from a position on comes first from a later one, where all between are inside; where all are nothing comes
module _ (inside : ℕ → Bool) (imports : List (Name × ItemKind)) where
  pub skipped_to : (n from i : ℕ) → from + n ≡ i → i ≤ length imports → ((j : ℕ) → from ≤ j → j < i → inside j ≡ true) → unset_from inside imports from ≡ unset_from inside imports i
  skipped_to zero from i is low all = let same : from ≡ i = omega arith in ap (unset_from inside imports) same
  skipped_to (suc n) from i is low all =
      let (e, at) = some_entry imports from (omega arith) in
      skipped inside imports from e at (all from (omega arith) (omega arith)) ∙ skipped_to n (from + 1) i (omega arith) low (λ j high less. all j (omega arith) less)

  pub none_left : (from : ℕ) → ((j : ℕ) → from ≤ j → j < length imports → inside j ≡ true) → unset_from inside imports from ≡ []
  none_left from all = split (cases_lt from (length imports)) where
    split : (from < length imports) ⊎ (length imports ≤ from) → unset_from inside imports from ≡ []
    split (inl low) = skipped_to (length imports - from) from (length imports) (omega arith) (omega arith) all ∙ none_from inside imports (length imports) (omega arith)
    split (inr past) = none_from inside imports from past

-- which arguments are set: the edges say it
one_passing : (p : Edge → Bool) (es : List Edge) → list_any p es ≡ true → (e : Edge) × Contains es e × (p e ≡ true)
one_passing p [] h = cc
one_passing p (x ∷ es) h = split (p x) refl h (one_passing p es) where
  split : (t : Bool) → p x ≡ t → (t || list_any p es) ≡ true → (list_any p es ≡ true → (e : Edge) × Contains es e × (p e ≡ true)) → (e : Edge) × Contains (x ∷ es) e × (p e ≡ true)
  split true here _ _ = (x, (zero, omega arith, refl), here)
  split false _ later more = let (e, there, passes) = more later in (e, (suc there.0, omega arith, there.2), passes)

and_both : (a b : Bool) → (a && b) ≡ true → (a ≡ true) × (b ≡ true)
and_both true b h = (refl, h)
and_both false b h = cc

label_is : (i : ℕ) (l : Label) → is_argument_label i l ≡ true → l ≡ Argument i
label_is i (Argument j) h = ap Argument (sym (eqb-true i j h))
label_is i (Alias j) h = cc
label_is i Dependency h = cc

pub edge_is : (n i : ℕ) (e : Edge) → is_argument n i e ≡ true → e ≡ argument_edge e.source (node_number n) i
edge_is n i e h =
    let (at, labelled) = and_both (eqb e.target.0 n) (is_argument_label i e.label) h in
    let target : e.target.0 ≡ n = eqb-true e.target.0 n at in
    let label : e.label ≡ Argument i = label_is i e.label labelled in
    λ d. record { source = e.source; target = node_number (target d); label = label d }

edge_there : (edges : set.FinSet edge_cmp) (n i : ℕ) → list_any (is_argument n i) (set.items edges) ≡ true → (source : NodeId) × (set.contains edges (argument_edge source (node_number n) i) ≡ true)
edge_there edges n i h =
    let (e, there, passes) = one_passing (is_argument n i) (set.items edges) h in
    let inside : set.contains edges e ≡ true = set.contains-items edges e ∙ list_any_at (eq_by_cmp edge_cmp e) (set.items edges) there.0 e there.1 (ap (λ (x : Edge). eq_by_cmp edge_cmp e x) there.2 ∙ ap is_eq (tied_itself edge_cmp_total e)) in
    (e.source, ap (set.contains edges) (sym (edge_is n i e passes)) ∙ inside)

-- a position without an argument is not satisfied
pub unsatisfied_false : (g : Graph) (n : NodeId) (i : ℕ) → IsUnsatisfied g n i → is_satisfied g n.0 i ≡ false
unsatisfied_false g n i none = split (is_satisfied g n.0 i) refl where
  split : (b : Bool) → is_satisfied g n.0 i ≡ b → b ≡ false
  split true is = let (source, stands) = edge_there g.edges n.0 i is in absurd (none source stands)
  split false is = refl

-- what a node of each kind has
left_by_kind : (g : Graph) (n i : ℕ) (x : GraphNode) → x.kind ≡ graph.instantiation → node_left g n i (Some x) ≡ map row_of (unset_from (is_satisfied g n) (imports_of g x) i)
left_by_kind g n i x e = rw e refl

none_by_kind : (g : Graph) (n i : ℕ) (x : GraphNode) → (x.kind ≡ graph.instantiation → ⊥) → (k : Kind) → x.kind ≡ k → node_left g n i (Some x) ≡ []
none_by_kind g n i x other graph.instantiation e = absurd (other e)
none_by_kind g n i x other graph.definition e = rw e refl
none_by_kind g n i x other (graph.import name) e = rw e refl
none_by_kind g n i x other graph.alias e = rw e refl

unnamed_by_kind : (n : ℕ) (x : GraphNode) (k : Kind) → x.kind ≡ k → None ≡ import_name k → map node_row (imported_by n (Some x)) ≡ []
unnamed_by_kind n x graph.instantiation e h = rw e refl
unnamed_by_kind n x graph.definition e h = rw e refl
unnamed_by_kind n x (graph.import name) e h = cc
unnamed_by_kind n x graph.alias e h = rw e refl

named_by_kind : (n : ℕ) (x : GraphNode) (name : Name) (k : Kind) → x.kind ≡ k → Some name ≡ import_name k → map node_row (imported_by n (Some x)) ≡ (name, x.item_kind, Some (node_number n)) ∷ []
named_by_kind n x name graph.instantiation e h = cc
named_by_kind n x name graph.definition e h = cc
named_by_kind n x name (graph.import text) e h = let is : text ≡ name = cc in rw e (ap (λ (t : Name). let row : Row = (t, x.item_kind, Some (node_number n)) in row ∷ []) is)
named_by_kind n x name graph.alias e h = cc

-- a row of a number is that of its import node
pub node_row_at : (g : Graph) (n : ℕ) (node : GraphNode) (name : Name) → node_at g (node_number n) ≡ Some node → node.kind ≡ graph.import name → node_rows g n ≡ (name, node.item_kind, Some (node_number n)) ∷ []
node_row_at g n node name there is = ap (λ o. map node_row (imported_by n o)) there ∙ named_by_kind n node name (graph.import name) is refl

one_name : (x y : Row) → ◌≡◌ {A = List Row} (x ∷ []) (y ∷ []) → x.0 ≡ y.0
one_name x y h = let same : x ≡ y = cc in ap (λ (r : Row). r.0) same

pub row_node : (g : Graph) (n : ℕ) (name : Name) (k : ItemKind) → node_rows g n ≡ (name, k, Some (node_number n)) ∷ [] → (node : GraphNode) × (node_at g (node_number n) ≡ Some node) × (node.kind ≡ graph.import name)
row_node g n name k rows = by_node (node_at g (node_number n)) refl rows where
  row : Row
  row = (name, k, Some (node_number n))

  by_kind : (node : GraphNode) → node_at g (node_number n) ≡ Some node → (kind : Kind) → node.kind ≡ kind → map node_row (imported_by n (Some node)) ≡ row ∷ [] → (node : GraphNode) × (node_at g (node_number n) ≡ Some node) × (node.kind ≡ graph.import name)
  by_kind node there (graph.import text) is rows = (node, there, is ∙ ap graph.import (one_name (text, node.item_kind, Some (node_number n)) row (sym (named_by_kind n node text (graph.import text) is refl) ∙ rows)))
  by_kind node there graph.instantiation is rows = let none : ◌≡◌ {A = List Row} [] (row ∷ []) = sym (unnamed_by_kind n node graph.instantiation is refl) ∙ rows in cc
  by_kind node there graph.definition is rows = let none : ◌≡◌ {A = List Row} [] (row ∷ []) = sym (unnamed_by_kind n node graph.definition is refl) ∙ rows in cc
  by_kind node there graph.alias is rows = let none : ◌≡◌ {A = List Row} [] (row ∷ []) = sym (unnamed_by_kind n node graph.alias is refl) ∙ rows in cc

  by_node : (o : Option GraphNode) → node_at g (node_number n) ≡ o → map node_row (imported_by n o) ≡ row ∷ [] → (node : GraphNode) × (node_at g (node_number n) ≡ Some node) × (node.kind ≡ graph.import name)
  by_node None there rows = let none : ◌≡◌ {A = List Row} [] (row ∷ []) = rows in cc
  by_node (Some node) there rows = by_kind node there node.kind refl rows

module _ (a : Fields) (v : Invariant a) (n : ℕ) (node : Node) (had : get a.nodes n ≡ Some node) where
  module _ (s : Positions) (is : node.kind ≡ code.Instantiation s) where
    same_set : has_position s ≡ is_satisfied (graph_of a) n
    same_set = fun_ext (λ i. same i (has_position s i) refl (is_satisfied (graph_of a) n i) refl) where
      marked : (i : ℕ) (b : Bool) → has_position s i ≡ b → satisfied_at (get a.nodes n) i ≡ b
      marked i b h = ap (λ x. satisfied_at x i) had ∙ ap (λ k. satisfied k i) is ∙ h

      same : (i : ℕ) (b : Bool) → has_position s i ≡ b → (c : Bool) → is_satisfied (graph_of a) n i ≡ c → has_position s i ≡ is_satisfied (graph_of a) n i
      same i true h c k = h ∙ sym (set_by_edge (graph_of a) (node_number n) i (v.edged (node_number n) i (marked i true h)))
      same i false h false k = h ∙ sym k
      same i false h true k = let (source, stands) = edge_there a.edges n i k in clash (satisfied_at (get a.nodes n) i) (v.marked source (node_number n) i stands) (marked i false h) where
        clash : (b : Bool) → b ≡ true → b ≡ false → has_position s i ≡ is_satisfied (graph_of a) n i
        clash true _ q = cc
        clash false q _ = cc

    -- the rows of the node by the set of positions that it keeps
    module _ (imports : List (Name × ItemKind)) (are : imports ≡ imports_of (graph_of a) (node_of node)) where
      by_positions : (i : ℕ) → node_left (graph_of a) n i (node_at (graph_of a) (node_number n)) ≡ map row_of (unset_from (has_position s) imports i)
      by_positions i =
          ap (node_left (graph_of a) n i) (node_is a n (Some node) had)
          ∙ left_by_kind (graph_of a) n i (node_of node) (ap kind_of is)
          ∙ ap (λ t. map row_of (unset_from t (imports_of (graph_of a) (node_of node)) i)) (sym same_set)
          ∙ ap (λ xs. map row_of (unset_from (has_position s) xs i)) (sym are)

      abbrev From : ℕ → Option (ℕ × Bor (List ℕ) × ItemKind) → Type 0
      From i o = MatchOption o (unset_from (has_position s) imports i ≡ []) (λ r. unset_from (has_position s) imports i ≡ (r.1.now, r.2) ∷ unset_from (has_position s) imports r.0)

      abbrev Left : ℕ → Option (ℕ × Bor (List ℕ) × ItemKind) → Type 0
      Left i o = MatchOption o (node_left (graph_of a) n i (node_at (graph_of a) (node_number n)) ≡ []) (λ r. node_left (graph_of a) n i (node_at (graph_of a) (node_number n)) ≡ (r.1.now, r.2, None) ∷ node_left (graph_of a) n r.0 (node_at (graph_of a) (node_number n)))

      pub first_left : (i : ℕ) (o : Option (ℕ × Bor (List ℕ) × ItemKind)) → From i o → Left i o
      first_left i None h = by_positions i ∙ ap (map row_of) h
      first_left i (Some r) h = by_positions i ∙ ap (map row_of) h ∙ ap (λ rest. (r.1.now, r.2, None) ∷ rest) (sym (by_positions r.0))

  -- no other kind of node has imports
  pub other_left : (i : ℕ) → (kind_of node.kind ≡ graph.instantiation → ⊥) → node_left (graph_of a) n i (node_at (graph_of a) (node_number n)) ≡ []
  other_left i other = ap (node_left (graph_of a) n i) (node_is a n (Some node) had) ∙ none_by_kind (graph_of a) n i (node_of node) other (kind_of node.kind) refl

pub nothing_left : (a : Fields) (n i : ℕ) → get a.nodes n ≡ None → node_left (graph_of a) n i (node_at (graph_of a) (node_number n)) ≡ []
nothing_left a n i none = ap (node_left (graph_of a) n i) (node_is a n None none)

-- the row of an import node
module _ (a : Fields) (n : ℕ) where
  pub no_node_row : get a.nodes n ≡ None → node_rows (graph_of a) n ≡ []
  no_node_row none = ap (λ o. map node_row (imported_by n o)) (node_is a n None none)

  pub no_unset_row : get a.nodes n ≡ None → unset_rows (graph_of a) n ≡ []
  no_unset_row none = ap (λ o. map unset_row (asked_by (graph_of a) n o)) (node_is a n None none)

  module _ (node : Node) (had : get a.nodes n ≡ Some node) where
    pub no_name : None ≡ import_name (kind_of node.kind) → node_rows (graph_of a) n ≡ []
    no_name none = ap (λ o. map node_row (imported_by n o)) (node_is a n (Some node) had) ∙ unnamed_by_kind n (node_of node) (kind_of node.kind) refl none

    pub named_row : (name : Name) → Some name ≡ import_name (kind_of node.kind) → node_rows (graph_of a) n ≡ (name, node.item_kind, Some (node_number n)) ∷ []
    named_row name named = ap (λ o. map node_row (imported_by n o)) (node_is a n (Some node) had) ∙ named_by_kind n (node_of node) name (kind_of node.kind) refl named

-- number by number
module _ (g : Graph) where
  one_more : (n end : ℕ) → n < end → end - n ≡ suc (end - (n + 1))
  one_more n end h = omega arith

  no_more : (n end : ℕ) → end ≤ n → end - n ≡ 0
  no_more n end h = omega arith

  by_unset : (n i : ℕ) (imports : List (Name × ItemKind)) → map row_of (unset (is_satisfied g n) i imports) ≡ map unset_row (unsatisfied g n i imports)
  by_unset n i [] = refl
  by_unset n i (e ∷ imports) = split (is_satisfied g n i) (by_unset n (suc i) imports) where
    split : (b : Bool) → map row_of (unset (is_satisfied g n) (suc i) imports) ≡ map unset_row (unsatisfied g n (suc i) imports)
        → map row_of (cond b (unset (is_satisfied g n) (suc i) imports) (e ∷ unset (is_satisfied g n) (suc i) imports)) ≡ map unset_row (cond b (unsatisfied g n (suc i) imports) (record { name = e.0; kind = e.1; node = n } ∷ unsatisfied g n (suc i) imports))
    split true h = h
    split false h = ap (λ rest. (e.0, e.1, None) ∷ rest) h

  whole : (n : ℕ) (o : Option GraphNode) → node_left g n 0 o ≡ map unset_row (asked_by g n o)
  whole n None = refl
  whole n (Some node) = by_kind node.kind refl where
    by_kind : (k : Kind) → node.kind ≡ k → node_left g n 0 (Some node) ≡ map unset_row (asked_by g n (Some node))
    by_kind graph.instantiation e = rw e (by_unset n 0 (imports_of g node))
    by_kind graph.definition e = rw e refl
    by_kind (graph.import name) e = rw e refl
    by_kind graph.alias e = rw e refl

  fresh : (n count : ℕ) → instantiations_left g n 0 count ≡ flat_map (unset_rows g) (range_with_len n count)
  fresh n zero = refl
  fresh n (suc count) = ap (λ rows. rows ++ flat_map (unset_rows g) (range_with_len (n + 1) count)) (whole n (node_at g (node_number n)))

  pub none_past_end : (n i end : ℕ) → end ≤ n → instantiations_left g n i (end - n) ≡ []
  none_past_end n i end h = ap (instantiations_left g n i) (no_more n end h)

  pub passed : (n i end : ℕ) → n < end → node_left g n i (node_at g (node_number n)) ≡ [] → instantiations_left g n i (end - n) ≡ instantiations_left g (n + 1) 0 (end - (n + 1))
  passed n i end h none =
      ap (instantiations_left g n i) (one_more n end h)
      ∙ ap (λ rows. rows ++ flat_map (unset_rows g) (range_with_len (n + 1) (end - (n + 1)))) none
      ∙ sym (fresh (n + 1) (end - (n + 1)))

  pub taken : (n i j end : ℕ) (row : Row) → n < end → node_left g n i (node_at g (node_number n)) ≡ row ∷ node_left g n j (node_at g (node_number n)) → instantiations_left g n i (end - n) ≡ row ∷ instantiations_left g n j (end - n)
  taken n i j end row h first =
      ap (instantiations_left g n i) (one_more n end h)
      ∙ ap (λ rows. rows ++ flat_map (unset_rows g) (range_with_len (n + 1) (end - (n + 1)))) first
      ∙ ap (λ rest. row ∷ rest) (sym (ap (instantiations_left g n j) (one_more n end h)))

  pub no_nodes_left : (n end : ℕ) → end ≤ n → nodes_left g n (end - n) ≡ []
  no_nodes_left n end h = ap (nodes_left g n) (no_more n end h)

  pub node_passed : (n end : ℕ) → n < end → node_rows g n ≡ [] → nodes_left g n (end - n) ≡ nodes_left g (n + 1) (end - (n + 1))
  node_passed n end h none = ap (nodes_left g n) (one_more n end h) ∙ ap (λ rows. rows ++ nodes_left g (n + 1) (end - (n + 1))) none

  pub node_taken : (n end : ℕ) (row : Row) → n < end → node_rows g n ≡ row ∷ [] → nodes_left g n (end - n) ≡ row ∷ nodes_left g (n + 1) (end - (n + 1))
  node_taken n end row h first = ap (nodes_left g n) (one_more n end h) ∙ ap (λ rows. rows ++ nodes_left g (n + 1) (end - (n + 1))) first

-- the numbers of the nodes are those of the occupied slots, in order
abbrev pub entries_of : ℕ → List (Option Node) → List (ℕ × GraphNode)
entries_of j slots = map (λ e. (e.0, node_of e.1)) (entries_from j slots)

put_first : (slots : List (Option Node)) (j k : ℕ) (node : GraphNode) → k < j → put nat_cmp k node (entries_of j slots) ≡ (k, node) ∷ entries_of j slots
put_first [] j k node h = refl
put_first (None ∷ slots) j k node h = put_first slots (j + 1) k node (omega arith)
put_first (Some x ∷ slots) j k node h = let e : Less ≡ nat_cmp k j = nat_cmp_is k j Less h in rw (← e) refl

no_entries : (es : List (ℕ × GraphNode)) → length es ≡ 0 → es ≡ []
no_entries [] h = refl
no_entries (e ∷ es) h = absurd (omega arith)

pub entries_are : (slots : List (Option Node)) (j : ℕ) → finite.entries (finite.from_entries {R = nat_cmp} (entries_of j slots)) ≡ entries_of j slots
entries_are [] j = no_entries (finite.entries (finite.empty {R = nat_cmp})) (sym (finite.len-entries finite.empty) ∙ finite.len-empty nat_cmp GraphNode)
entries_are (None ∷ slots) j = entries_are slots (j + 1)
entries_are (Some x ∷ slots) j =
    finite.entries-insert nat_cmp_total (finite.from_entries (entries_of (j + 1) slots)) j (node_of x)
    ∙ ap (put nat_cmp j (node_of x)) (entries_are slots (j + 1))
    ∙ put_first slots (j + 1) j (node_of x) (omega arith)

-- rows that vacant numbers don't have, by all numbers below an end
spread : {X : Type 0} (f : ℕ → List X) (slots : List (Option Node)) (j count : ℕ) → length slots ≤ count → ((k : ℕ) → get_or slots k None ≡ None → f (j + k) ≡ []) → flat_map f (map (λ e. e.0) (entries_of j slots)) ≡ flat_map f (range_with_len j count)
spread f [] j zero h vacant = refl
spread f [] j (suc count) h vacant =
    let here : f j ≡ [] = (let e : j + 0 ≡ j = omega arith in ap f (sym e) ∙ vacant 0 refl) in
    spread f [] (j + 1) count (omega arith) (λ k _. let e : (j + 1) + k ≡ j + suc k = omega arith in ap f e ∙ vacant (suc k) refl) ∙ ap (λ rows. rows ++ flat_map f (range_with_len (j + 1) count)) (sym here)
spread f (s ∷ slots) j zero h vacant = absurd (omega arith)
spread f (None ∷ slots) j (suc count) h vacant =
    let here : f j ≡ [] = (let e : j + 0 ≡ j = omega arith in ap f (sym e) ∙ vacant 0 refl) in
    spread f slots (j + 1) count (omega arith) (λ k none. let e : (j + 1) + k ≡ j + suc k = omega arith in ap f e ∙ vacant (suc k) none) ∙ ap (λ rows. rows ++ flat_map f (range_with_len (j + 1) count)) (sym here)
spread f (Some x ∷ slots) j (suc count) h vacant =
    ap (λ rows. f j ++ rows) (spread f slots (j + 1) count (omega arith) (λ k none. let e : (j + 1) + k ≡ j + suc k = omega arith in ap f e ∙ vacant (suc k) none))

module _ (a : Fields) (end : ℕ) (slots : length a.nodes.slots ≤ end) where
  pub by_numbers : {X : Type 0} (f : ℕ → List X) → ((n : ℕ) → get a.nodes n ≡ None → f n ≡ []) → flat_map f (finite.keys (nodes_of a.nodes.slots)) ≡ flat_map f (range_with_len 0 end)
  by_numbers f vacant =
      ap (λ es. flat_map f (map (λ e. e.0) es)) (entries_are a.nodes.slots 0)
      ∙ spread f a.nodes.slots 0 end slots (λ k none. let e : 0 + k ≡ k = omega arith in ap f e ∙ vacant k none)

  pub all_left : left (graph_of a) 0 0 0 end ≡ asked_rows (graph_of a)
  all_left =
      let all : end - 0 ≡ end = omega arith in
      ap (λ count. instantiations_left (graph_of a) 0 0 count ++ nodes_left (graph_of a) 0 count) all
      ∙ ap (λ rows. rows ++ nodes_left (graph_of a) 0 end) (fresh (graph_of a) 0 end ∙ sym (by_numbers (unset_rows (graph_of a)) (no_unset_row a)))
      ∙ ap (λ rows. flat_map (unset_rows (graph_of a)) (finite.keys (nodes_of a.nodes.slots)) ++ rows) (sym (by_numbers (node_rows (graph_of a)) (no_node_row a)))
