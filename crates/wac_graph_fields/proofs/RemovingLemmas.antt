-- A node is taken out with all that goes with it.
use Rattle.std.proofs.Common.{◌≡◌, ◌≢◌, ℕ, zero, suc, ◌+◌, ◌-◌, ◌*◌, ◌<◌, ◌≤◌, List, [], ◌∷◌, length, refl, ap, ◌∙◌, sym, subst, arith, ◌⊎◌, inl, inr, Option, Some, None, IsSome, get_or}
use Rattle.std.specs.Option.{option_map}
use Rattle.std.specs.FinSet as set
use Rattle.slab.specs.Slab.{Slab, get, Updates}
use Rattle.wac_edges.specs.declared.edges.Edge.{Edge}
use Rattle.wac_edges.specs.declared.edges.Label.{Label}
use Rattle.wac_edges.specs.declared.edges.Label.TheVariants as label
use Rattle.wac_edges.specs.declared.node.NodeId.{NodeId}
use Rattle.wac_edges.specs.Order.{Edges}
use Rattle.wac_graph_model.specs.declared.nodes.node.Node.{Node}
use Rattle.wac_graph_model.specs.nodes.Nodes.{node_of}
use Rattle.wac_graph_fields.specs.Removal.{Follows, GoesWith, itself, behind}
use Rattle.wac_graph_fields.specs.private.Removing.{AreTied, AreTaken, IsWay}
use Rattle.wac_graph_fields.proofs.WayLemmas.{IsIn, by_eq, by_node, same_id, one_depth, way_goes, way_kept, way_short, goes_kept, goes_into, goes_or_is, goes_alone}
use Rattle.wac_graph_fields.proofs.TiedLemmas.{none_some, by_edge, removed_edge, left_edge, some_same, AreSame, tied_gone, fewer_then}

-- what is there keeps its number below the count of slots
pub within : (xs : List (Option Node)) (q : ℕ) → IsSome (get_or xs q None) → q < length xs
within xs q h = by_slot xs q h where
  by_slot : (ys : List (Option Node)) (k : ℕ) → IsSome (get_or ys k None) → k < length ys
  by_slot [] k h = absurd (none_some {A = Node} None refl h)
  by_slot (y ∷ ys) zero h = omega arith
  by_slot (y ∷ ys) (suc k) h = let small = by_slot ys k h in omega (arith, small)

-- ---- a node is taken out with what goes with it
module _ (old : Slab Node) (were : Edges) (id : NodeId) where
  -- what was taken so far goes with the node; what goes is gone, or goes still; and the way from the node to here
  pub record IsTaking (nodes : Slab Node) (edges : Edges) (here : NodeId) (depth : ℕ) : Type 0 where
    pub tied : AreTied nodes edges
    pub others : (n : NodeId) → (option_map node_of (get nodes n.0) ≡ option_map node_of (get old n.0)) ⊎ ((get nodes n.0 ≡ None) × GoesWith were id n)
    pub less : (e : Edge) → IsIn edges e → IsIn were e
    pub taken : (e : Edge) → IsIn were e → IsIn edges e ⊎ (GoesWith were id e.source ⊎ GoesWith were id e.target)
    pub left : (n : NodeId) → GoesWith were id n → (get nodes n.0 ≡ None) ⊎ GoesWith edges id n
    pub way : IsWay edges id depth here
    pub there : IsSome (get nodes here.0)

  abbrev Taken : Edges → Edge → Type 0
  Taken edges e = IsIn edges e ⊎ (GoesWith were id e.source ⊎ GoesWith were id e.target)

  was_some : (nodes : Slab Node) (n : NodeId) → (option_map node_of (get nodes n.0) ≡ option_map node_of (get old n.0)) ⊎ ((get nodes n.0 ≡ None) × GoesWith were id n) → IsSome (get nodes n.0) → IsSome (get old n.0)
  was_some nodes n (inl same) h = some_same (get old n.0) (get nodes n.0) (sym same) h
  was_some nodes n (inr gone) h = absurd (none_some (get nodes n.0) gone.0 h)

  module _ (nodes : Slab Node) (edges : Edges) (here : NodeId) (depth : ℕ) (t : IsTaking nodes edges here depth) where
    here_goes : GoesWith were id here
    here_goes = goes_kept edges were id here (λ e h _. t.less e h) (way_goes edges id depth here t.way)

    pub shallow : depth < length old.slots
    shallow = way_short edges id (length old.slots) depth here t.way (λ j y way. within old.slots y.0 (was_some nodes y (t.others y) (on_way j y way))) where
      on_way : (j : ℕ) (y : NodeId) → IsWay edges id j y → IsSome (get nodes y.0)
      on_way zero y way = root depth here t.way y way.0 t.there where
        root : (k : ℕ) (x : NodeId) → IsWay edges id k x → (y : NodeId) → y ≡ id → IsSome (get nodes x.0) → IsSome (get nodes y.0)
        root zero x w y is h = subst (λ (m : NodeId). IsSome (get nodes m.0)) (w.0 ∙ sym is) h
        root (suc k) x w y is h = root k (w.0).source w.5 y is (t.tied.ends w.0 w.1).0
      on_way (suc j) y way = subst (λ (m : NodeId). IsSome (get nodes m.0)) way.3 (t.tied.ends way.0 way.1).1

    same_others : (now : Slab Node) → AreSame now nodes → (n : NodeId) → (option_map node_of (get nodes n.0) ≡ option_map node_of (get old n.0)) ⊎ ((get nodes n.0 ≡ None) × GoesWith were id n) → (option_map node_of (get now n.0) ≡ option_map node_of (get old n.0)) ⊎ ((get now n.0 ≡ None) × GoesWith were id n)
    same_others now same n (inl is) = inl (same n.0 ∙ is)
    same_others now same n (inr gone) = inr (still_none (get now n.0) (get nodes n.0) (same n.0) gone.0, gone.1) where
      still_none : (o p : Option Node) → option_map node_of o ≡ option_map node_of p → p ≡ None → o ≡ None
      still_none None p same is = refl
      still_none (Some x) None same is = cc
      still_none (Some x) (Some y) same is = cc

    same_left : (now : Slab Node) (less : Edges) → AreSame now nodes → (n : NodeId) → (GoesWith edges id n → GoesWith less id n) → (get nodes n.0 ≡ None) ⊎ GoesWith edges id n → (get now n.0 ≡ None) ⊎ GoesWith less id n
    same_left now less same n onward (inl gone) = inl (still_none (get now n.0) (get nodes n.0) (same n.0) gone) where
      still_none : (o p : Option Node) → option_map node_of o ≡ option_map node_of p → p ≡ None → o ≡ None
      still_none None p same is = refl
      still_none (Some x) None same is = cc
      still_none (Some x) (Some y) same is = cc
    same_left now less same n onward (inr goes) = inr (onward goes)

    still_taken : (less : Edges) → ((e : Edge) → IsIn edges e → Taken less e) → (e : Edge) → Taken edges e → Taken less e
    still_taken less step e (inl h) = step e h
    still_taken less step e (inr goes) = inr goes

    -- an argument of a node that goes is taken
    pub taking_argument : (now : Slab Node) (e : Edge) (i : ℕ) → IsIn edges e → e.source ≡ here → e.label ≡ label.Argument i → AreSame now nodes → AreTied now (set.remove edges e) → IsTaking now (set.remove edges e) here depth
    taking_argument now e i stands from is same tied =
        let keep : (x : Edge) → IsIn edges x → Follows x.label → IsIn (set.remove edges e) x = λ x h follows. left_edge edges e x h (λ alike. follows_no (ap (λ (y : Edge). y.label) alike ∙ is) follows) in
        record {
          tied = tied;
          others = λ n. same_others now same n (t.others n);
          less = λ x h. t.less x (removed_edge edges e x h).0;
          taken = λ x h. still_taken (set.remove edges e) (λ y stands. by_edge y e (λ alike. inr (inl (subst (GoesWith were id) (sym (ap (λ (z : Edge). z.source) alike ∙ from)) here_goes))) (λ differ. inl (left_edge edges e y stands differ))) x (t.taken x h);
          left = λ n h. same_left now (set.remove edges e) same n (goes_kept edges (set.remove edges e) id n keep) (t.left n h);
          way = way_kept edges id (set.remove edges e) (λ x h. (removed_edge edges e x h).0) depth here t.way (λ j x _ h follows _ _. keep x h follows);
          there = some_same (get now here.0) (get nodes here.0) (same here.0) t.there;
        } where
          follows_no : {l : Label} → l ≡ label.Argument i → Follows l → ⊥
          follows_no is follows = subst Follows is follows

    -- a node is entered, and all edges into it are taken but that one
    pub taking_behind : (now : Slab Node) (less : Edges) (e : Edge) → IsIn edges e → e.source ≡ here → Follows e.label → ((x : Edge) → IsIn less x → IsIn edges x) → ((x : Edge) → IsIn edges x → (x.target ≡ e.target → ⊥) → IsIn less x)
        → ((x : Edge) → IsIn edges x → Some e ≡ Some x → IsIn less x) → ((x : Edge) → IsIn less x → x.target ≡ e.target → Some e ≡ Some x) → AreSame now nodes → AreTied now less → IsTaking now less e.target (suc depth)
    taking_behind now less e stands from follows fewer others kept only same tied =
        let still : IsIn less e = kept e stands refl in
        let way : IsWay less id depth e.source = subst (IsWay less id depth) (sym from) (way_kept edges id less fewer depth here t.way (λ j x _ h _ alone _. by_node x.target e.target (λ at. kept x h (ap Some (alone e stands (sym at)))) (others x h))) in
        let goes : GoesWith less id e.target = behind e (way_goes less id depth e.source way) still follows in
        record {
          tied = tied;
          others = λ n. same_others now same n (t.others n);
          less = λ x h. t.less x (fewer x h);
          taken = λ x h. still_taken less (λ y stands. by_node y.target e.target (λ at. inr (inr (subst (GoesWith were id) (sym at) (goes_kept less were id e.target (λ z k _. t.less z (fewer z k)) goes)))) (λ differ. inl (others y stands differ))) x (t.taken x h);
          left = λ n h. same_left now less same n (goes_into edges less id n e.target goes others) (t.left n h);
          way = (e, still, follows, refl, λ x h at. one x (only x h at), way);
          there = (tied.ends e still).1;
        } where
          one : (x : Edge) → Some e ≡ Some x → x ≡ e
          one x h = cc

    -- a node is left from which no edge leads any more
    pub taking_back : (k : ℕ) → depth ≡ suc k → (now : Slab Node) (e : Edge) → ((x : Edge) → IsIn edges x → x.source ≡ here → ⊥) → IsIn edges e → e.target ≡ here → get now here.0 ≡ None → ((q : ℕ) → q ≢ here.0 → option_map node_of (get now q) ≡ option_map node_of (get nodes q)) → AreTied now (set.remove edges e) → IsTaking now (set.remove edges e) e.source k
    taking_back k is now e none stands into gone_now same tied =
        let w : IsWay edges id (suc k) here = subst (λ d. IsWay edges id d here) is t.way in
        let alone : w.0 ≡ e = sym (w.4 e stands into) in
        let before : IsWay edges id k e.source = subst (λ (x : Edge). IsWay edges id k x.source) alone w.5 in
        let keep : (x : Edge) → IsIn edges x → (x.target ≡ here → ⊥) → IsIn (set.remove edges e) x = λ x h differ. left_edge edges e x h (λ alike. differ (ap (λ (y : Edge). y.target) alike ∙ into)) in
        record {
          tied = tied;
          others = λ n. by_eq n.0 here.0 (λ at. inr (ap (λ q. get now q) at ∙ gone_now, subst (GoesWith were id) (sym (same_id n here at)) here_goes)) (λ differ. still_others n (same n.0 differ) (t.others n));
          less = λ x h. t.less x (removed_edge edges e x h).0;
          taken = λ x h. still_taken (set.remove edges e) (λ y stands. by_node y.target here (λ at. inr (inr (subst (GoesWith were id) (sym at) here_goes))) (λ differ. inl (keep y stands differ))) x (t.taken x h);
          left = λ n h. still_left n (t.left n h);
          way = way_kept edges id (set.remove edges e) (λ x h. (removed_edge edges e x h).0) k e.source before (λ j x small h _ _ at. keep x h (λ same. let depth_is : j ≡ suc k = one_depth edges id j (suc k) here (subst (IsWay edges id j) same at) w in absurd (omega (arith, small, depth_is))));
          there = some_same (get now e.source.0) (get nodes e.source.0) (same e.source.0 (λ at. none e stands (same_id e.source here at))) (t.tied.ends e stands).0;
        } where
          still_none : (o p : Option Node) → option_map node_of o ≡ option_map node_of p → p ≡ None → o ≡ None
          still_none None p same is = refl
          still_none (Some x) None same is = cc
          still_none (Some x) (Some y) same is = cc

          still_others : (n : NodeId) → option_map node_of (get now n.0) ≡ option_map node_of (get nodes n.0) → (option_map node_of (get nodes n.0) ≡ option_map node_of (get old n.0)) ⊎ ((get nodes n.0 ≡ None) × GoesWith were id n) → (option_map node_of (get now n.0) ≡ option_map node_of (get old n.0)) ⊎ ((get now n.0 ≡ None) × GoesWith were id n)
          still_others n at (inl is) = inl (at ∙ is)
          still_others n at (inr gone) = inr (still_none (get now n.0) (get nodes n.0) at gone.0, gone.1)

          keep_too : (x : Edge) → IsIn edges x → (x.target ≡ here → ⊥) → IsIn (set.remove edges e) x
          keep_too x h differ = left_edge edges e x h (λ alike. differ (ap (λ (y : Edge). y.target) alike ∙ into))

          none_now : (n : NodeId) → get nodes n.0 ≡ None → get now n.0 ≡ None
          none_now n gone = by_eq n.0 here.0 (λ at. ap (λ q. get now q) at ∙ gone_now) (λ differ. still_none (get now n.0) (get nodes n.0) (same n.0 differ) gone)

          still_left : (n : NodeId) → (get nodes n.0 ≡ None) ⊎ GoesWith edges id n → (get now n.0 ≡ None) ⊎ GoesWith (set.remove edges e) id n
          still_left n (inl gone) = inl (none_now n gone)
          still_left n (inr goes) = split (goes_or_is edges (set.remove edges e) id n here none keep_too goes) where
            split : (n ≡ here) ⊎ GoesWith (set.remove edges e) id n → (get now n.0 ≡ None) ⊎ GoesWith (set.remove edges e) id n
            split (inl at) = inl (ap (λ (m : NodeId). get now m.0) at ∙ gone_now)
            split (inr more) = inr more

    pub taking_given : (now : Slab Node) (less : Edges) (e : Edge) (i : ℕ) → IsIn edges e → e.source ≡ here → e.label ≡ label.Argument i → less ≡ set.remove edges e → AreSame now nodes → AreTied now less → IsTaking now less here depth
    taking_given now less e i stands from is cut same tied = subst (λ s. IsTaking now s here depth) (sym cut) (taking_argument now e i stands from is same (subst (AreTied now) cut tied))

    abbrev Leaves : Edges → NodeId → Type 0
    Leaves less to = (e : Edge) × IsIn edges e × (e.source ≡ to) × (e.target ≡ here) × (less ≡ set.remove edges e)

    pub taking_left : (now : Slab Node) (less : Edges) (to : NodeId) → depth ≢ 0 → ((x : Edge) → IsIn edges x → x.source ≡ here → ⊥) → Leaves less to → get now here.0 ≡ None → ((q : ℕ) → q ≢ here.0 → option_map node_of (get now q) ≡ option_map node_of (get nodes q)) → AreTied now less → IsTaking now less to (depth - 1)
    taking_left now less to deep none (e, stands, from, into, cut) gone same tied =
        let count : depth ≡ suc (depth - 1) = omega (arith, deep) in
        let back = taking_back (depth - 1) count now e none stands into gone same (subst (AreTied now) cut tied) in
        subst (λ n. IsTaking now less n (depth - 1)) from (subst (λ s. IsTaking now s e.source (depth - 1)) (sym cut) back)

    -- each step takes an edge, or goes one further
    pub smaller_given : (less : Edges) (e : Edge) → IsIn edges e → less ≡ set.remove edges e → 2 * set.len less + (length old.slots - depth) < 2 * set.len edges + (length old.slots - depth)
    smaller_given less e stands cut = let few = fewer_then edges less e stands cut in omega (arith, few)

    pub smaller_left : (less : Edges) (to : NodeId) → depth ≢ 0 → Leaves less to → 2 * set.len less + (length old.slots - (depth - 1)) < 2 * set.len edges + (length old.slots - depth)
    smaller_left less to deep (e, stands, _, _, cut) = let few = fewer_then edges less e stands cut in let small = shallow in omega (arith, few, small, deep)

    pub smaller_behind : (less : Edges) → set.len less ≤ set.len edges → 2 * set.len less + (length old.slots - (depth + 1)) < 2 * set.len edges + (length old.slots - depth)
    smaller_behind less few = let small = shallow in omega (arith, few, small)

    -- the node itself is taken out last
    pub taken_last : depth ≡ 0 → (now : Slab Node) → ((x : Edge) → IsIn edges x → x.source ≡ here → ⊥) → Updates nodes now here.0 None → AreTaken (GoesWith were id) old were now edges × AreTied now edges × (here ≡ id)
    taken_last is now none u =
        let w : IsWay edges id 0 here = subst (λ d. IsWay edges id d here) is t.way in
        let gone : (n : NodeId) → (get nodes n.0 ≡ None) ⊎ GoesWith edges id n → get now n.0 ≡ None = λ n h. by_eq n.0 here.0 (λ at. ap (λ q. get now q) at ∙ u.changed) (λ differ. u.others n.0 differ ∙ was_gone w.0 none n differ h) in (
          record {
            gone = λ n h. gone n (t.left n h);
            others = λ n. by_eq n.0 here.0 (λ at. inr (ap (λ q. get now q) at ∙ u.changed, subst (GoesWith were id) (sym (same_id n here at)) here_goes)) (λ differ. still_others n (u.others n.0 differ) (t.others n));
            less = t.less;
            taken = t.taken;
          },
          tied_gone nodes now edges here.0 t.tied u (λ e h at. none e h (same_id e.source here at)) (λ e h at. w.1 e h (same_id e.target here at ∙ w.0)),
          w.0,
        ) where
          was_gone : here ≡ id → ((x : Edge) → IsIn edges x → x.source ≡ here → ⊥) → (n : NodeId) → n.0 ≢ here.0 → (get nodes n.0 ≡ None) ⊎ GoesWith edges id n → get nodes n.0 ≡ None
          was_gone at none n differ (inl h) = h
          was_gone at none n differ (inr goes) = absurd (differ (ap (λ (m : NodeId). m.0) (goes_alone edges id n (λ e h from. none e h (from ∙ sym at)) goes ∙ sym at)))

          still_others : (n : NodeId) → get now n.0 ≡ get nodes n.0 → (option_map node_of (get nodes n.0) ≡ option_map node_of (get old n.0)) ⊎ ((get nodes n.0 ≡ None) × GoesWith were id n) → (option_map node_of (get now n.0) ≡ option_map node_of (get old n.0)) ⊎ ((get now n.0 ≡ None) × GoesWith were id n)
          still_others n at (inl same) = inl (ap (option_map node_of) at ∙ same)
          still_others n at (inr gone) = inr (at ∙ gone.0, gone.1)

  -- at the beginning all edges into the node are taken
  pub taking_first : (now : Slab Node) (less : Edges) → IsSome (get old id.0) → ((x : Edge) → IsIn less x → IsIn were x) → ((x : Edge) → IsIn were x → (x.target ≡ id → ⊥) → IsIn less x)
      → ((x : Edge) → IsIn less x → x.target ≡ id → None ≡ Some x) → AreSame now old → AreTied now less → IsTaking now less id 0
  taking_first now less there fewer others only same tied = record {
    tied = tied;
    others = λ n. inl (same n.0);
    less = fewer;
    taken = λ x h. by_node x.target id (λ at. inr (inr (subst (GoesWith were id) (sym at) itself))) (λ differ. inl (others x h differ));
    left = λ n h. inr (goes_into were less id n id itself others h);
    way = (refl, λ e h at. wrong e (only e h at));
    there = some_same (get now id.0) (get old id.0) (same id.0) there;
  } where
    wrong : (e : Edge) → None ≡ Some e → ⊥
    wrong e h = cc

  -- the node that is taken out last was there
  pub last_was : (nodes : Slab Node) (edges : Edges) (here : NodeId) (t : IsTaking nodes edges here 0) (node : Node) → get nodes here.0 ≡ Some node → option_map node_of (get old id.0) ≡ Some (node_of node)
  last_was nodes edges here t node at = split (t.others here) where
    is : here ≡ id
    is = t.way.0

    split : (option_map node_of (get nodes here.0) ≡ option_map node_of (get old here.0)) ⊎ ((get nodes here.0 ≡ None) × GoesWith were id here) → option_map node_of (get old id.0) ≡ Some (node_of node)
    split (inl same) = ap (λ (n : NodeId). option_map node_of (get old n.0)) (sym is) ∙ sym same ∙ ap (option_map node_of) at
    split (inr gone) = absurd (none_some (get nodes here.0) gone.0 t.there)

-- an edge of no argument is followed
pub follows : (l : Label) → ((i : ℕ) → l ≡ label.Argument i → ⊥) → Follows l
follows (label.Alias i) h = tt
follows label.Dependency h = tt
follows (label.Argument i) h = absurd (h i refl)
