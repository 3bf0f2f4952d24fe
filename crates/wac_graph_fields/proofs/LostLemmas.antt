-- Exports whose nodes are taken out, and their positions.
use Rattle.std.proofs.Common.{◌≡◌, ◌≢◌, ℕ, zero, suc, ◌+◌, ◌-◌, ◌<◌, ◌≤◌, Bool, true, false, cond, eqb, not, ◌||◌, List, [], ◌∷◌, ◌++◌, length, get_or, refl, ap, ◌∙◌, sym, subst, arith, ◌⊎◌, inl, inr, Option, Some, None, IsSome, is_some, IsTrue, ◌↔◌, take, String, Global, string_bytes}
use Rattle.std.specs.Prelude.{slice_get, slice_set, swap_remove, position, nat_lt}
use Rattle.std.proofs.Common.{lt-ltb}
use Rattle.std.specs.List.{Contains, IsDistinct, AllByRecursion, position_or_len}
use Rattle.std.specs.List.Sorted.{IsSorted, IsPermutation, IsNonDecreasing}
use Rattle.std.specs.Map.{keys_of}
use Rattle.std.specs.Option.{option_map}
use Rattle.std.specs.Ordering.{nat_cmp}
use Rattle.std.specs.Str.{bytes_eq}
use Rattle.std.specs.String.{string_eq}
use Rattle.std.proofs.lemmas.List.{get_or_append_left, get_or_push, length_push}
use Rattle.std.proofs.lemmas.List.Elements.{Contains-append_left, Contains-append_right, Contains-append_cases}
use Rattle.std.proofs.lemmas.List.Sorted.{Contains-permutation, IsNonDecreasingBy-from_sort}
use Rattle.std.proofs.lemmas.Option.{slice_get_within}
use Rattle.slab.specs.Slab.{Slab, get, Updates}
use Rattle.wac_types_shapes.specs.primitives.Name.{Name, same_name}
use Rattle.wac_types_shapes.proofs.lemmas.shapes.Names.{same_name-true, same_name-from, same_name-bytes_eq}
use Rattle.wac_edges.specs.declared.node.NodeId.{NodeId}
use Rattle.wac_graph_model.specs.declared.nodes.node.Node.{Node}
use Rattle.wac_graph_model.specs.nodes.Graph.{GraphNode}
use Rattle.wac_graph_model.specs.nodes.Nodes.{node_of, names_of}
use Rattle.wac_graph_model.specs.nodes.TakenOut.{taken_at, taken_below, without}
use Rattle.wac_graph_model.proofs.lemmas.nodes.Added.{by_eq}
use Rattle.std.proofs.lemmas.List.{take-map, map-set, length-map}
use Rattle.std.proofs.Math.ListN.{get_or-map}
use Rattle.std.proofs.lemmas.Option.{slice_get-map}
use Rattle.wac_graph_fields.proofs.TiedLemmas.{clash}
use Rattle.wac_graph_model.proofs.lemmas.nodes.TakenOut.{turn, was_at}
use Rattle.wac_edges.proofs.WrittenOrder.{eqb_same}
use Rattle.std.proofs.lemmas.Bool.Decides.{nat_tests}
use Rattle.std.proofs.lemmas.List.{length-take, length-set}
use Rattle.wac_graph_fields.specs.declared.lost.Lost.{Lost}
use Rattle.wac_graph_fields.specs.private.Told.{is_name, tells}
use Rattle.wac_graph_fields.specs.private.Lost.{is_again, AreTold, IsNoted, IsToldOf, AreNoted}

-- an entry is taken out of a map as out of its names
pub names_taken : (entries : List (String Global × NodeId)) (k : ℕ) (e : String Global × NodeId) → names_of (swap_remove entries k e) ≡ swap_remove (names_of entries) k (string_bytes e.0, e.1)
names_taken entries k e =
    sym (take-map pair (length entries - 1) (slice_set entries k (get_or entries (length entries - 1) e)))
    ∙ ap (take (length entries - 1)) (map-set pair entries k (get_or entries (length entries - 1) e) ∙ ap (slice_set (names_of entries) k) (sym (get_or-map pair entries (length entries - 1) e)))
    ∙ ap (λ n. take (n - 1) (slice_set (names_of entries) k (get_or (names_of entries) (length entries - 1) (pair e)))) (sym (length-map entries pair))
    ∙ ap (λ n. take (length (names_of entries) - 1) (slice_set (names_of entries) k (get_or (names_of entries) (n - 1) (pair e)))) (sym (length-map entries pair)) where
      pair : String Global × NodeId → Name × NodeId
      pair x = (string_bytes x.0, x.1)

-- ---- lists of exports
abbrev Alike : (NodeId → Bool) → (NodeId → Bool) → List (Name × NodeId) → Type 0
Alike f g es = (i : ℕ) (e : Name × NodeId) → slice_get es i ≡ Some e → f e.1 ≡ g e.1

alike_taken : (f g : NodeId → Bool) (k : ℕ) (es : List (Name × NodeId)) → Alike f g es → (taken_at f k (slice_get es k) es ≡ taken_at g k (slice_get es k) es) × Alike f g (taken_at g k (slice_get es k) es)
alike_taken f g k es alike = by_entry (slice_get es k) refl where
  by_gone : (e : Name × NodeId) → slice_get es k ≡ Some e → (b : Bool) → Alike f g (cond b (swap_remove es k e) es)
  by_gone e at false = alike
  by_gone e at true = λ i x h. alike _ x (was_at es k e at i x h)

  by_entry : (o : Option (Name × NodeId)) → slice_get es k ≡ o → (taken_at f k o es ≡ taken_at g k o es) × Alike f g (taken_at g k o es)
  by_entry None at = (refl, alike)
  by_entry (Some e) at = (ap (λ b. cond b (swap_remove es k e) es) (alike k e at), by_gone e at (g e.1))

alike_below : (f g : NodeId → Bool) (k : ℕ) (es : List (Name × NodeId)) → Alike f g es → taken_below f k es ≡ taken_below g k es
alike_below f g zero es alike = refl
alike_below f g (suc k) es alike =
    let (same, still) = alike_taken f g k es alike in
    ap (taken_below f k) same ∙ alike_below f g k (taken_at g k (slice_get es k) es) still

-- tests that agree on a list's nodes leave the same of it
pub alike_without : (f g : NodeId → Bool) (es : List (Name × NodeId)) → Alike f g es → without f es ≡ without g es
alike_without f g es alike = alike_below f g (length es) es alike

-- the node is not there
abbrev pub lost : Slab Node → NodeId → Bool
lost nodes m = not (is_some (get nodes m.0))

pub absent : (nodes : Slab Node) (k : ℕ) (b : Bool) → IsTrue b ↔ IsSome (get nodes k) → b ≡ false → not (is_some (get nodes k)) ≡ true
absent nodes k b h is = none (is_some (get nodes k)) (λ there. clash b (h.1 there) is) where
  none : (x : Bool) → (x ≡ true → ⊥) → not x ≡ true
  none true h = absurd (h refl)
  none false h = refl

pub stored : (nodes : Slab Node) (k : ℕ) (b : Bool) → IsTrue b ↔ IsSome (get nodes k) → b ≡ true → not (is_some (get nodes k)) ≡ false
stored nodes k b h is = ap not (h.0 is)

-- one entry of a map, where its node is gone and where it is not
module _ (gone : NodeId → Bool) (entries : List (String Global × NodeId)) (k : ℕ) where
  at_names : (o : Option (String Global × NodeId)) → slice_get entries k ≡ o → taken_at gone k (slice_get (names_of entries) k) (names_of entries) ≡ taken_at gone k (option_map (λ x. (string_bytes x.0, x.1)) o) (names_of entries)
  at_names o at = ap (λ p. taken_at gone k p (names_of entries)) (slice_get-map (λ x. (string_bytes x.0, x.1)) entries k ∙ ap (option_map (λ x. (string_bytes x.0, x.1))) at)

  pub entry_gone : (now : List (String Global × NodeId)) (e : String Global × NodeId) → slice_get entries k ≡ Some e → gone e.1 ≡ true → now ≡ swap_remove entries k e → names_of now ≡ taken_at gone k (slice_get (names_of entries) k) (names_of entries)
  entry_gone now e at is taken = ap names_of taken ∙ names_taken entries k e ∙ sym (at_names (Some e) at ∙ ap (λ b. cond b (swap_remove (names_of entries) k (string_bytes e.0, e.1)) (names_of entries)) is)

  pub entry_stays : (e : String Global × NodeId) → slice_get entries k ≡ Some e → gone e.1 ≡ false → names_of entries ≡ taken_at gone k (slice_get (names_of entries) k) (names_of entries)
  entry_stays e at is = sym (at_names (Some e) at ∙ ap (λ b. cond b (swap_remove (names_of entries) k (string_bytes e.0, e.1)) (names_of entries)) is)

  pub entry_none : slice_get entries k ≡ None → names_of entries ≡ taken_at gone k (slice_get (names_of entries) k) (names_of entries)
  entry_none at = sym (at_names None at)

-- ---- what is noted
-- where all is told, none has to be noted
pub noted_told : (nodes : Slab Node) (before lost : Lost) (exports : List (String Global × NodeId)) → ((q : ℕ) → is_again lost q ≡ is_again before q) → AreTold before nodes exports → AreNoted nodes lost exports
noted_told nodes before lost exports same told i name n at = split (option_map node_of (get nodes n.0)) (ap (λ b. tells b (option_map node_of (get nodes n.0)) name) (same n.0) ∙ told i name n at) where
  split : (o : Option GraphNode) → tells (is_again lost n.0) o name ≡ true → IsToldOf lost i name n o
  split None h = cc
  split (Some node) h = h

-- what is there tells
pub told_there : (lost : Lost) (i : ℕ) (name : Name) (n : NodeId) (o : Option GraphNode) → IsToldOf lost i name n o → IsSome o → tells (is_again lost n.0) o name ≡ true
told_there lost i name n None h there = cc
told_there lost i name n (Some node) h there = h

-- and what is not there is noted
pub noted_gone : (nodes : Slab Node) (lost : Lost) (i : ℕ) (name : Name) (n : NodeId) → IsToldOf lost i name n (option_map node_of (get nodes n.0)) → get nodes n.0 ≡ None → IsNoted lost i
noted_gone nodes lost i name n told gone = subst (λ o. IsToldOf lost i name n (option_map node_of o)) gone told

abbrev SameNodes : Slab Node → Slab Node → Type 0
SameNodes now nodes = (q : ℕ) → option_map node_of (get now q) ≡ option_map node_of (get nodes q)

-- where a graph sees the same of the nodes
pub noted_same : (nodes now : Slab Node) (lost : Lost) (exports : List (String Global × NodeId)) → AreNoted nodes lost exports → SameNodes now nodes → AreNoted now lost exports
noted_same nodes now lost exports noted same i name n at = subst (IsToldOf lost i name n) (sym (same n.0)) (noted i name n at)

-- a node is taken out, and its exports are noted
pub noted_without : (nodes now : Slab Node) (lost more : Lost) (exports : List (String Global × NodeId)) (number : ℕ) (node : Node) → AreNoted nodes lost exports → get nodes number ≡ Some node → Updates nodes now number None
    → ((i : ℕ) → IsNoted lost i → IsNoted more i) → ((q : ℕ) → q ≢ number → is_again more q ≡ is_again lost q)
    → ((i : ℕ) (name : Name) (n : NodeId) → slice_get (names_of exports) i ≡ Some (name, n) → tells (is_again lost number) (Some (node_of node)) name ≡ true → IsNoted more i) → AreNoted now more exports
noted_without nodes now lost more exports number node noted had u kept others new i name n at = by_eq n.0 number
    (λ same. subst (λ o. IsToldOf more i name n (option_map node_of o)) (sym (ap (get now) same ∙ u.changed))
    (new i name n at (ap (λ k. tells (is_again lost k) (Some (node_of node)) name) (sym same) ∙ subst (λ o. IsToldOf lost i name n (option_map node_of o)) (ap (get nodes) same ∙ had) (noted i name n at))))
    (λ differ. subst (λ o. IsToldOf more i name n (option_map node_of o)) (sym (u.others n.0 differ)) (more_told (others n.0 differ) (option_map node_of (get nodes n.0)) (noted i name n at))) where
      more_told : is_again more n.0 ≡ is_again lost n.0 → (o : Option GraphNode) → IsToldOf lost i name n o → IsToldOf more i name n o
      more_told same None h = kept i h
      more_told same (Some x) h = ap (λ b. tells b (Some x) name) same ∙ h

-- ---- where a name stands
-- the name of an entry
abbrev name_in : Option (Name × NodeId) → Name
name_in None = []
name_in (Some e) = e.0

module _ (q : Name) where
  abbrev test : String Global → Bool
  test k = bytes_eq q (string_bytes k)

  apart : (e : String Global) (es : List (String Global × NodeId)) (i : ℕ) (n : NodeId) → AllByRecursion (λ y. string_eq e y ≡ false) (keys_of es) → slice_get (names_of es) i ≡ Some (q, n) → bytes_eq (string_bytes e) q ≡ false
  apart e [] i n all h = cc
  apart e (x ∷ es) zero n all h = let same : string_bytes x.0 ≡ q = ap name_in h in ap (bytes_eq (string_bytes e)) (sym same) ∙ all.0
  apart e (x ∷ es) (suc i) n all h = apart e es i n all.1 h

  turned : (a b : Name) → bytes_eq a b ≡ false → bytes_eq b a ≡ false
  turned a b h = split (same_name b a) refl where
    split : (x : Bool) → same_name b a ≡ x → bytes_eq b a ≡ false
    split false is = same_name-bytes_eq b a ∙ is
    split true is = let same : b ≡ a = same_name-true b a is in ap (λ z. bytes_eq z a) same ∙ ap (bytes_eq a) (sym same) ∙ h

  place : (es : List (String Global × NodeId)) → IsDistinct string_eq (keys_of es) → (i : ℕ) (n : NodeId) → slice_get (names_of es) i ≡ Some (q, n) → (position_or_len test (keys_of es) ≡ i) × (i < length (keys_of es))
  unfolding IsDistinct
  place [] d i n h = cc
  place (e ∷ es) d zero n h = let same : string_bytes e.0 ≡ q = ap name_in h in (ap (λ b. cond (not b) (1 + position_or_len test (keys_of es)) 0) (same_name-bytes_eq q (string_bytes e.0) ∙ same_name-from q (string_bytes e.0) (sym same)), omega arith)
  place (e ∷ es) d (suc i) n h =
      let (at, within) = place es d.1 i n h in
      (let one = ap (λ b. cond (not b) (1 + position_or_len test (keys_of es)) 0) (turned (string_bytes e.0) q (apart e.0 es i n d.0 h)) in omega (arith, one, at), omega (arith, within))

  -- it is found there
  pub placed : (es : List (String Global × NodeId)) → IsDistinct string_eq (keys_of es) → (i : ℕ) (n : NodeId) → slice_get (names_of es) i ≡ Some (q, n) → position test (keys_of es) ≡ Some i
  placed es d i n h =
      let (at, within) = place es d i n h in
      ap (λ k. cond (nat_lt k (length (keys_of es))) (Some k) None) at ∙ ap (λ b. cond b (Some i) None) (lt-ltb i (length (keys_of es)) within)

-- the name that a node keeps is found where its export stands, so it is noted
module _ (es : List (String Global × NodeId)) (d : IsDistinct string_eq (keys_of es)) (node : Node) (more : Lost) (again : Bool) (once : again ≡ false) where
  kept_is : (o : Option Name) (name : Name) → (node_of node).export_name ≡ o → tells again (Some (node_of node)) name ≡ true → is_name o name ≡ true
  kept_is o name is told = ap (λ x. is_name x name) (sym is) ∙ ap (λ b. b || is_name (node_of node).export_name name) (sym once) ∙ told

  module _ (key : Name) (is : (node_of node).export_name ≡ Some key) where
    found_at : (i : ℕ) (name : Name) (n : NodeId) → slice_get (names_of es) i ≡ Some (name, n) → tells again (Some (node_of node)) name ≡ true → position (test key) (keys_of es) ≡ Some i
    found_at i name n at told =
        let same : name ≡ key = same_name-true name key (kept_is (Some key) name is told) in
        placed key es d i n (at ∙ ap (λ q. Some (q, n)) same)

    pub noted_found : (p : ℕ) → Some p ≡ position (test key) (keys_of es) → IsNoted more p → (i : ℕ) (name : Name) (n : NodeId) → slice_get (names_of es) i ≡ Some (name, n) → tells again (Some (node_of node)) name ≡ true → IsNoted more i
    noted_found p found noted i name n at told = subst (IsNoted more) (the_same (found ∙ found_at i name n at told)) noted where
      the_same : Some p ≡ Some i → p ≡ i
      the_same h = cc

    pub noted_missing : None ≡ position (test key) (keys_of es) → (i : ℕ) (name : Name) (n : NodeId) → slice_get (names_of es) i ≡ Some (name, n) → tells again (Some (node_of node)) name ≡ true → IsNoted more i
    noted_missing missing i name n at told = absurd (nothing (missing ∙ found_at i name n at told)) where
      nothing : None ≡ Some i → ⊥
      nothing h = cc

  -- a node that keeps no name, and has no further ones, tells of none
  pub noted_none : (node_of node).export_name ≡ None → (i : ℕ) (name : Name) → tells again (Some (node_of node)) name ≡ true → IsNoted more i
  noted_none is i name told = absurd (wrong (kept_is None name is told)) where
    wrong : false ≡ true → ⊥
    wrong h = cc

-- where some are missing, nothing is promised
pub noted_incomplete : (lost : Lost) (i : ℕ) → lost.is_complete ≡ false → IsNoted lost i
noted_incomplete lost i missing complete = absurd (wrong (sym complete ∙ missing)) where
  wrong : true ≡ false → ⊥
  wrong h = cc

-- ---- exports that are taken from noted positions, the highest first
module _ (gone : NodeId → Bool) where
  abbrev Exports : Type 0
  Exports = List (Name × NodeId)

  -- no entry from position k on is of such a node
  abbrev StaysFrom : ℕ → Exports → Type 0
  StaysFrom k es = (i : ℕ) (e : Name × NodeId) → k ≤ i → slice_get es i ≡ Some e → gone e.1 ≡ false

  past_end : (es : Exports) → StaysFrom (length es) es
  past_end es i e from at = let small = slice_get_within es i e at in absurd (omega (arith, from, small))

  untaken : (k : ℕ) (es : Exports) (o : Option (Name × NodeId)) → slice_get es k ≡ o → StaysFrom k es → taken_at gone k o es ≡ es
  untaken k es None at stays = refl
  untaken k es (Some e) at stays = ap (λ b. cond b (swap_remove es k e) es) (stays k e (omega arith) at)

  -- where nothing from a position on is of such a node, the rest is looked at alone
  skip : (k n : ℕ) (es : Exports) → k ≤ n → StaysFrom k es → taken_below gone n es ≡ taken_below gone k es
  skip k zero es small stays = let none : zero ≡ k = omega (arith, small) in ap (λ m. taken_below gone m es) none
  skip k (suc n) es small stays = by_eq k (suc n)
      (λ same. ap (λ m. taken_below gone m es) (sym same))
      (λ differ. let below : k ≤ n = omega (arith, small, differ) in
      ap (taken_below gone n) (untaken n es (slice_get es n) refl (λ i e from at. stays i e (omega (arith, below, from)) at)) ∙ skip k n es below stays)

  same_length : (es : Exports) (k : ℕ) (x : Name × NodeId) → k < length es → length (swap_remove es k x) ≡ length es - 1
  same_length es k x small = omega (arith, length-take (length es - 1) (slice_set es k (get_or es (length es - 1) x)), length-set es k (get_or es (length es - 1) x))

  turn_here : (k l : ℕ) → turn k l k ≡ l
  turn_here k l = ap (λ b. cond b l (cond (eqb k l) k k)) (eqb_same k)

  turn_past : (k l i : ℕ) → i ≢ k → i ≢ l → turn k l i ≡ i
  turn_past k l i p q = let e : eqb i k ≡ false = grind (arith, nat_tests) in let f : eqb i l ≡ false = grind (arith, nat_tests) in ap (λ b. cond b l (cond (eqb i l) k i)) e ∙ ap (λ b. cond b k i) f

  -- what stands where an entry was taken, or behind, stood behind it
  one_less : (es : Exports) (p : ℕ) (x : Name × NodeId) → slice_get es p ≡ Some x → StaysFrom (suc p) es → StaysFrom p (swap_remove es p x)
  one_less es p x at stays i e from h =
      let within = slice_get_within (swap_remove es p x) i e h in
      let count = same_length es p x (slice_get_within es p x at) in
      by_eq i p
      (λ same. stays (length es - 1) e (omega (arith, within, count, same)) (ap (slice_get es) (sym (ap (turn p (length es - 1)) same ∙ turn_here p (length es - 1))) ∙ was_at es p x at i e h))
      (λ differ. stays i e (omega (arith, from, differ)) (ap (slice_get es) (sym (turn_past p (length es - 1) i differ (λ last. absurd (omega (arith, within, count, last))))) ∙ was_at es p x at i e h))

  -- the highest of them is taken
  highest : (es : Exports) (p : ℕ) (e : Name × NodeId) → slice_get es p ≡ Some e → gone e.1 ≡ true → StaysFrom (suc p) es → without gone es ≡ without gone (swap_remove es p e)
  highest es p e at is stays =
      let small = slice_get_within es p e at in
      let now : taken_at gone p (slice_get es p) es ≡ swap_remove es p e = ap (λ o. taken_at gone p o es) at ∙ ap (λ b. cond b (swap_remove es p e) es) is in
      let later : StaysFrom p (swap_remove es p e) = one_less es p e at stays in
      let room : p ≤ length (swap_remove es p e) = let count = same_length es p e small in omega (arith, count, small) in
      skip (suc p) (length es) es (omega (arith, small)) stays ∙ ap (taken_below gone p) now ∙ sym (skip p (length (swap_remove es p e)) (swap_remove es p e) room later)

  -- the same is left in the end, and what is to be taken stands at these positions, which rise
  pub record IsEmptying (old es : Exports) (positions : List ℕ) : Type 0 where
    pub same : without gone es ≡ without gone old
    pub listed : (i : ℕ) (e : Name × NodeId) → slice_get es i ≡ Some e → gone e.1 ≡ true → Contains positions i
    pub rising : IsNonDecreasing positions

  pub emptying_first : (es : Exports) (positions sorted : List ℕ) → ((i : ℕ) (e : Name × NodeId) → slice_get es i ≡ Some e → gone e.1 ≡ true → Contains positions i) → IsPermutation positions sorted → IsSorted nat_cmp sorted → IsEmptying es es sorted
  emptying_first es positions sorted listed moved ranked = record {
    same = refl;
    listed = λ i e at is. Contains-permutation positions sorted i moved (listed i e at is);
    rising = IsNonDecreasingBy-from_sort (λ n. n) sorted ranked;
  }

  one_of : (p i : ℕ) → Contains (p ∷ []) i → i ≡ p
  one_of p i (zero, small, at) = sym at
  one_of p i (suc k, small, at) = absurd (omega (arith, small))

  module _ (old es : Exports) (rest : List ℕ) (p : ℕ) (t : IsEmptying old es (rest ++ p ∷ [])) where
    -- no listed position is above the last
    below : (i : ℕ) → Contains (rest ++ p ∷ []) i → i ≤ p
    below i (k, small, at) =
        let count : length (rest ++ p ∷ []) ≡ length rest + 1 = length_push rest p in
        let up = t.rising k (length rest) i (omega (arith, small, count)) (omega (arith, count)) in
        let last : get_or (rest ++ p ∷ []) (length rest) i ≡ p = get_or_push rest p i (length rest) refl in
        omega (arith, up, at, last)

    rising : IsNonDecreasing rest
    rising i j d small within =
        let up = t.rising i j d small (let count : length (rest ++ p ∷ []) ≡ length rest + 1 = length_push rest p in omega (arith, count, within)) in
        let a : get_or (rest ++ p ∷ []) i d ≡ get_or rest i d = get_or_append_left rest (p ∷ []) d i (omega (arith, small, within)) in
        let b : get_or (rest ++ p ∷ []) j d ≡ get_or rest j d = get_or_append_left rest (p ∷ []) d j within in
        omega (arith, up, a, b)

    earlier : (i : ℕ) → Contains (rest ++ p ∷ []) i → i ≢ p → Contains rest i
    earlier i has differ = split (Contains-append_cases rest (p ∷ []) i has) where
      split : Contains rest i ⊎ Contains (p ∷ []) i → Contains rest i
      split (inl h) = h
      split (inr h) = absurd (differ (one_of p i h))

    stays : StaysFrom (suc p) es
    stays i e from at = off (gone e.1) refl where
      off : (b : Bool) → gone e.1 ≡ b → b ≡ false
      off false is = refl
      off true is = let small = below i (t.listed i e at is) in absurd (omega (arith, small, from))

    by_entry : (o : Option (Name × NodeId)) → slice_get es p ≡ o → IsEmptying old (taken_at gone p o es) rest
    by_entry None at = record { same = t.same; listed = λ i e h is. earlier i (t.listed i e h is) (λ same. nothing (sym at ∙ ap (slice_get es) (sym same) ∙ h)); rising = rising } where
      nothing : {e : Name × NodeId} → None ≡ Some e → ⊥
      nothing h = cc
    by_entry (Some x) at = by_gone (gone x.1) refl where
      the_same : {e : Name × NodeId} → Some x ≡ Some e → x ≡ e
      the_same h = cc

      wrong : true ≡ false → ⊥
      wrong h = cc

      by_gone : (b : Bool) → gone x.1 ≡ b → IsEmptying old (cond b (swap_remove es p x) es) rest
      by_gone false is = record {
        same = t.same;
        listed = λ i e h gone_is. earlier i (t.listed i e h gone_is) (λ same. wrong (sym gone_is ∙ ap (λ (y : Name × NodeId). gone y.1) (sym (the_same (sym at ∙ ap (slice_get es) (sym same) ∙ h))) ∙ is));
        rising = rising;
      }
      by_gone true is = record { same = sym (highest es p x at is stays) ∙ t.same; listed = listed; rising = rising } where
        later : StaysFrom p (swap_remove es p x)
        later = one_less es p x at stays

        listed : (i : ℕ) (e : Name × NodeId) → slice_get (swap_remove es p x) i ≡ Some e → gone e.1 ≡ true → Contains rest i
        listed i e h gone_is = by_eq i p
            (λ same. absurd (wrong (sym gone_is ∙ later i e (omega (arith, same)) h)))
            (λ differ. above i e h gone_is differ)
          where
            above : (i : ℕ) (e : Name × NodeId) → slice_get (swap_remove es p x) i ≡ Some e → gone e.1 ≡ true → i ≢ p → Contains rest i
            above i e h gone_is differ = by_eq i (length es - 1)
                (λ same. let count = same_length es p x (slice_get_within es p x at) in let small = slice_get_within (swap_remove es p x) i e h in absurd (omega (arith, same, count, small)))
                (λ other. earlier i (t.listed i e (ap (slice_get es) (sym (turn_past p (length es - 1) i differ other)) ∙ was_at es p x at i e h) gone_is) differ)

    pub emptying_next : (now : Exports) → now ≡ taken_at gone p (slice_get es p) es → IsEmptying old now rest
    emptying_next now is = subst (λ xs. IsEmptying old xs rest) (sym is) (by_entry (slice_get es p) refl)

  pub emptying_last : (old es : Exports) (positions : List ℕ) → IsEmptying old es positions → positions ≡ [] → es ≡ without gone old
  emptying_last old es positions t none = sym (skip 0 (length es) es (omega arith) all) ∙ t.same where
    nothing : (i : ℕ) → Contains [] i → ⊥
    nothing i (k, small, at) = omega (arith, small)

    all : StaysFrom 0 es
    all i e from at = off (gone e.1) refl where
      off : (b : Bool) → gone e.1 ≡ b → b ≡ false
      off false is = refl
      off true is = absurd (nothing i (subst (λ xs. Contains xs i) none (t.listed i e at is)))

pub lost_none : (o : Option Node) → not (is_some o) ≡ true → o ≡ None
lost_none None h = refl
lost_none (Some x) h = cc

pub no_items : (xs : List ℕ) → length xs ≡ 0 → xs ≡ []
no_items [] h = refl
no_items (x ∷ xs) h = absurd (omega (arith, h))

pub pushed_last : (xs ys : List ℕ) (x : ℕ) → ys ≡ xs ++ x ∷ [] → Contains ys x
pushed_last xs ys x is = subst (λ zs. Contains zs x) (sym is) (Contains-append_right xs (x ∷ []) x (0, omega arith, refl))

pub pushed_kept : (xs ys : List ℕ) (x i : ℕ) → ys ≡ xs ++ x ∷ [] → Contains xs i → Contains ys i
pushed_kept xs ys x i is h = subst (λ zs. Contains zs i) (sym is) (Contains-append_left xs (x ∷ []) i h)
