-- Exports by other names than definitions' first ones, one after another, and the first names of definitions.
use Rattle.std.proofs.Common.{◌≡◌, ℕ, zero, suc, ◌+◌, ◌<◌, ◌≤◌, Bool, true, false, not, cond, List, [], ◌∷◌, ◌++◌, length, take, map, refl, ap, ◌∙◌, sym, subst, arith, append_assoc, Option, Some, None, IsSome, String, Global, string_bytes}
use Rattle.std.specs.Borrow.{Bor}
use Rattle.std.specs.List.{flat_map}
use Rattle.std.specs.Option.{option_map}
use Rattle.std.specs.Prelude.{slice_get, MatchOption}
use Rattle.std.proofs.lemmas.List.{append-nil, map-append, take_all, length-map}
use Rattle.std.proofs.lemmas.List.Concat.{flat_map-append}
use Rattle.std.proofs.lemmas.List.Elements.{filter-append}
use Rattle.slab.specs.Slab.{get, ContainsKey}
use Rattle.wac_types_shapes.specs.primitives.Name.{Name, option_case}
use Rattle.wac_binary.specs.declared.sorts.Sort.{Sort}
use Rattle.wac_binary.specs.Items.{Item, export_item}
use Rattle.wac_edges.specs.declared.node.NodeId.{NodeId}
use Rattle.wac_edges.specs.Edge.{node_number}
use Rattle.wac_graph_model.specs.declared.nodes.node.Node.{Node}
use Rattle.wac_graph_model.specs.nodes.Graph.{Graph, GraphNode, node_at}
use Rattle.wac_graph_model.specs.nodes.Nodes.{node_of}
use Rattle.wac_graph_model.specs.nodes.Sound.{IsSound}
use Rattle.wac_graph_model.proofs.lemmas.nodes.NodeLemmas.{text_pair}
use Rattle.wac_graph_fields.specs.private.Fields.{Fields, graph_of, Invariant}
use Rattle.wac_graph_model.specs.meaning.Means.{is_first, is_further, further_exports, sort_of_kind, export_item_of}
use Rattle.wac_graph_model.specs.private.meaning.Encoding.{HasRoom}
use Rattle.wac_graph_model.specs.causes.OuterNames.{first_name_of}
use Rattle.wac_graph_reader.specs.private.writing.Further.{further_of, further_at}
use Rattle.wac_graph_reader.proofs.lemmas.writing.EncodingLemmas.{node_is, has_number}
use Rattle.wac_graph_reader.proofs.lemmas.writing.WriteAliasLemmas.{take_at, entry_at}

the_entry : {A : Type 0} (xs : List A) (p : ℕ) → p < length xs → (x : A) × (slice_get xs p ≡ Some x)
the_entry [] p h = absurd (omega (arith, h))
the_entry (x ∷ xs) zero h = (x, refl)
the_entry (x ∷ xs) (suc p) h = the_entry xs p (omega (arith, h))

pub exports_length : (a : Fields) (g : Graph) → graph_of a ≡ g → length g.exports ≡ length a.exports.entries
exports_length a g e = ap (λ (x : Graph). length x.exports) (sym e) ∙ length-map a.exports.entries (λ e. text_pair e)

module _ (g : Graph) where
  -- one export more
  pub further_next : (i : ℕ) → i < length g.exports → further_of g (take (i + 1) g.exports) ≡ further_of g (take i g.exports) ++ further_at g i
  further_next i small =
      let (x, at) = the_entry g.exports i small in
      let next : i + 1 ≡ suc i = omega arith in
      ap (λ k. further_of g (take k g.exports)) next
      ∙ ap (further_of g) (take_at g.exports i x at)
      ∙ filter-append (is_further g) (take i g.exports) (x ∷ [])
      ∙ ap (λ o. further_of g (take i g.exports) ++ further_of g (option_case o [] (λ e. e ∷ []))) (sym at)

  pub further_all : (i : ℕ) → length g.exports ≤ i → further_of g (take i g.exports) ≡ further_exports g
  further_all i past = ap (further_of g) (take_all i g.exports past)

  abbrev fst : Name × NodeId → Name
  fst e = e.0

  pub names_next : (i : ℕ) → i < length g.exports → (before old now : List Name) → old ≡ before ++ map (λ e. e.0) (further_of g (take i g.exports)) → now ≡ old ++ map (λ e. e.0) (further_at g i)
      → now ≡ before ++ map (λ e. e.0) (further_of g (take (i + 1) g.exports))
  names_next i small before old now was added =
      added ∙ ap (λ xs. xs ++ map fst (further_at g i)) was
      ∙ append_assoc before (map fst (further_of g (take i g.exports))) (map fst (further_at g i))
      ∙ ap (λ xs. before ++ xs) (sym (map-append fst (further_of g (take i g.exports)) (further_at g i)) ∙ ap (map fst) (sym (further_next i small)))

  pub items_next : (F : Name × NodeId → List Item) (i : ℕ) → i < length g.exports → (before old now : List Item) → old ≡ before ++ flat_map F (further_of g (take i g.exports)) → now ≡ old ++ flat_map F (further_at g i)
      → now ≡ before ++ flat_map F (further_of g (take (i + 1) g.exports))
  items_next F i small before old now was added =
      added ∙ ap (λ xs. xs ++ flat_map F (further_at g i)) was
      ∙ append_assoc before (flat_map F (further_of g (take i g.exports))) (flat_map F (further_at g i))
      ∙ ap (λ xs. before ++ xs) (sym (flat_map-append F (further_of g (take i g.exports)) (further_at g i)) ∙ ap (flat_map F) (sym (further_next i small)))

  -- an export that is such is one
  pub further_is : (i : ℕ) (e : Name × NodeId) → further_at g i ≡ e ∷ [] → slice_get g.exports i ≡ Some e
  further_is i e is = split (slice_get g.exports i) refl is where
    split : (o : Option (Name × NodeId)) → slice_get g.exports i ≡ o → further_of g (option_case o [] (λ x. x ∷ [])) ≡ e ∷ [] → slice_get g.exports i ≡ Some e
    split None at h = cc
    split (Some x) at h = by (is_further g x) h where
      by : (b : Bool) → cond b (x ∷ []) [] ≡ e ∷ [] → slice_get g.exports i ≡ Some e
      by true k = let same : x ≡ e = cc in at ∙ ap Some same
      by false k = cc

  -- the names of definitions, one more
  first_next : (order : List NodeId) (i : ℕ) (n : NodeId) → slice_get order i ≡ Some n → flat_map (first_name_of g) (take (i + 1) order) ≡ flat_map (first_name_of g) (take i order) ++ first_name_of g n
  first_next order i n at =
      let next : i + 1 ≡ suc i = omega arith in
      ap (λ k. flat_map (first_name_of g) (take k order)) next ∙ ap (flat_map (first_name_of g)) (take_at order i n at) ∙ flat_map-append (first_name_of g) (take i order) (n ∷ [])
      ∙ ap (λ xs. flat_map (first_name_of g) (take i order) ++ xs) (append-nil (first_name_of g n))

  pub firsts_next : (order : List NodeId) (i : ℕ) (n : NodeId) → slice_get order i ≡ Some n → (old now : List Name) → old ≡ flat_map (first_name_of g) (take i order) → now ≡ old ++ first_name_of g n → now ≡ flat_map (first_name_of g) (take (i + 1) order)
  firsts_next order i n at old now was added = added ∙ ap (λ xs. xs ++ first_name_of g n) was ∙ sym (first_next order i n at)

-- an exported node is there
pub exported_number : (a : Fields) → Invariant a → (i : ℕ) (name : String Global) (id : NodeId) → Some (name, id) ≡ slice_get a.exports.entries i → ContainsKey a.nodes id.0
exported_number a v i name id h = has_number a id.0 ((v.sound).exported i (string_bytes name) id (entry_at a i name id h))

-- ---- as the fields have them
module _ (a : Fields) (v : Invariant a) (g : Graph) (view : graph_of a ≡ g) where
  further_now : (i : ℕ) (name : String Global) (id : NodeId) (node : Node) → Some (name, id) ≡ slice_get a.exports.entries i → get a.nodes id.0 ≡ Some node → (b : Bool) → b ≡ is_first (node_of node) (string_bytes name)
      → further_at (graph_of a) i ≡ cond (not b) ((string_bytes name, id) ∷ []) []
  further_now i name id node h had b is =
      ap (λ o. further_of (graph_of a) (option_case o [] (λ e. e ∷ []))) (entry_at a i name id h)
      ∙ ap (λ o. cond (not (option_case o false (λ x. is_first x (string_bytes name)))) ((string_bytes name, id) ∷ []) []) (node_is a id.0 (Some node) had)
      ∙ ap (λ c. cond (not c) ((string_bytes name, id) ∷ []) []) (sym is)

  -- the export at a position by a definition's first name, by another, and none past the last
  pub at_first : (i : ℕ) (name : String Global) (id : NodeId) (node : Node) → Some (name, id) ≡ slice_get a.exports.entries i → get a.nodes id.0 ≡ Some node → (b : Bool) → b ≡ is_first (node_of node) (string_bytes name) → b ≡ true → further_at g i ≡ []
  at_first i name id node h had b is so = subst (λ x. further_at x i ≡ []) view (further_now i name id node h had b is ∙ ap (λ c. cond (not c) ((string_bytes name, id) ∷ []) []) so)

  pub at_further : (i : ℕ) (name : String Global) (id : NodeId) (node : Node) → Some (name, id) ≡ slice_get a.exports.entries i → get a.nodes id.0 ≡ Some node → (b : Bool) → b ≡ is_first (node_of node) (string_bytes name) → b ≡ false → further_at g i ≡ (string_bytes name, id) ∷ []
  at_further i name id node h had b is other = subst (λ x. further_at x i ≡ (string_bytes name, id) ∷ []) view (further_now i name id node h had b is ∙ ap (λ c. cond (not c) ((string_bytes name, id) ∷ []) []) other)

  -- its node is there, and has an index
  pub further_noted : (i : ℕ) (e : Name × NodeId) → further_at g i ≡ e ∷ [] → (xs : List ℕ) → HasRoom g xs → e.1.0 < length xs
  further_noted i e is xs room = room e.1 ((subst IsSound view v.sound).exported i e.0 e.1 (further_is g i e is))

  pub further_number : (i : ℕ) (e : Name × NodeId) → further_at g i ≡ e ∷ [] → ContainsKey a.nodes e.1.0
  further_number i e is = has_number a e.1.0 (subst (λ x. IsSome (node_at x e.1)) (sym view) ((subst IsSound view v.sound).exported i e.0 e.1 (further_is g i e is)))

  -- and is written
  pub further_written : (f : NodeId → ℕ) (i : ℕ) (e : Name × NodeId) (node : Node) (s : Sort) (index : ℕ) (old new : List Item) → further_at g i ≡ e ∷ [] → get a.nodes e.1.0 ≡ Some node → s ≡ sort_of_kind node.item_kind → index ≡ f e.1 → new ≡ old ++ export_item e.0 s index ∷ []
      → new ≡ old ++ flat_map (export_item_of g f) (further_at g i)
  further_written f i e node s index old new is had sorted placed added =
      let there : node_at g e.1 ≡ Some (node_of node) = subst (λ x. node_at x e.1 ≡ Some (node_of node)) view (node_is a e.1.0 (Some node) had) in
      let one : export_item_of g f e ≡ export_item e.0 (sort_of_kind node.item_kind) (f e.1) ∷ [] = ap (λ o. option_case o [] (λ (x : GraphNode). export_item e.0 (sort_of_kind x.item_kind) (f e.1) ∷ [])) there in
      added ∙ ap (λ xs. old ++ xs) ((λ j. export_item e.0 (sorted j) (placed j) ∷ []) ∙ sym one ∙ sym (append-nil (export_item_of g f e)) ∙ ap (flat_map (export_item_of g f)) (sym is))

  -- ---- the first name of a node
  abbrev names_first : Option GraphNode → List Name
  names_first o = option_case o [] (λ x. option_case x.first_name [] (λ t. t ∷ []))

  first_is : (n : ℕ) (o : Option Node) → get a.nodes n ≡ o → first_name_of g (node_number n) ≡ names_first (option_map node_of o)
  first_is n o had = subst (λ x. first_name_of x (node_number n) ≡ names_first (option_map node_of o)) view (ap names_first (node_is a n o had))

  pub nothing_first : (n : ℕ) → get a.nodes n ≡ None → first_name_of g (node_number n) ≡ []
  nothing_first n had = first_is n None had

  pub some_first : (n : ℕ) (node : Node) (text : Option (Bor Name)) → get a.nodes n ≡ Some node → option_map (λ s. s.now) text ≡ (node_of node).first_name → MatchOption text (first_name_of g (node_number n) ≡ []) (λ name. first_name_of g (node_number n) ≡ name.now ∷ [])
  some_first n node None had is = first_is n (Some node) had ∙ ap (λ o. option_case o [] (λ t. t ∷ [])) (sym is)
  some_first n node (Some name) had is = first_is n (Some node) had ∙ ap (λ o. option_case o [] (λ t. t ∷ [])) (sym is)
