-- The names of exports that are no definition's first: each is exported once, and no definition has it as its first.
use Rattle.std.proofs.Common.{◌≡◌, ℕ, zero, suc, ◌<◌, Bool, true, false, not, cond, List, [], ◌∷◌, ◌++◌, length, refl, ap, ◌∙◌, sym, arith, Option, Some, IsSome}
use Rattle.std.specs.List.{filter}
use Rattle.std.specs.Prelude.{slice_get}
use Rattle.std.proofs.lemmas.Option.{slice_get_within}
use Rattle.wac_types_shapes.specs.primitives.Name.{Name, same_name, option_case}
use Rattle.wac_types_shapes.proofs.lemmas.shapes.Names.{same_name-refl, find_position}
use Rattle.wac_merge_classes.proofs.lemmas.terms.Found.{at-filter}
use Rattle.wac_edges.specs.declared.node.NodeId.{NodeId}
use Rattle.wac_edges.proofs.WrittenOrder.{slice_get-middle}
use Rattle.wac_graph_model.specs.nodes.Graph.{Graph, GraphNode, node_at}
use Rattle.wac_graph_model.specs.nodes.Sound.{IsSound}
use Rattle.wac_graph_model.specs.meaning.Means.{is_first, is_further, further_exports}
use Rattle.wac_graph_model.proofs.lemmas.meaning.MeantLemmas.{IsAmong}
use Rattle.wac_graph_model.proofs.lemmas.meaning.ListLemmas.{slice_get-prefix}

-- no name stands twice
abbrev IsOnce : List (Name × NodeId) → Type 0
IsOnce es = (i j : ℕ) (name : Name) (n m : NodeId) → slice_get es i ≡ Some (name, n) → slice_get es j ≡ Some (name, m) → i ≡ j

once_filter : (test : Name × NodeId → Bool) (es : List (Name × NodeId)) → IsOnce es → IsOnce (filter test es)
once_filter test [] once = λ i j name n m a b. cc
once_filter test (e ∷ es) once = split (test e) (once_filter test es (λ i j name n m a b. omega (arith, once (suc i) (suc j) name n m a b))) where
  kept : IsOnce (filter test es) → IsOnce (e ∷ filter test es)
  kept rest zero zero name n m a b = refl
  kept rest zero (suc j) name n m a b = let (k, at, _) = at-filter test es j (name, m) b in absurd (omega (arith, once zero (suc k) name n m a at))
  kept rest (suc i) zero name n m a b = let (k, at, _) = at-filter test es i (name, n) a in absurd (omega (arith, once (suc k) zero name n m at b))
  kept rest (suc i) (suc j) name n m a b = ap suc (rest i j name n m a b)

  split : (b : Bool) → IsOnce (filter test es) → IsOnce (cond b (e ∷ filter test es) (filter test es))
  split false rest = rest
  split true rest = kept rest

module _ (g : Graph) (sound : IsSound g) where
  abbrev further : Name × NodeId → Bool
  further = is_further g

  -- it is exported
  pub further_there : (k : ℕ) (x : Name × NodeId) → slice_get (further_exports g) k ≡ Some x → IsSome (node_at g x.1)
  further_there k x at = let (j, there, _) = at-filter further g.exports k x at in sound.exported j x.0 x.1 there

  -- its name is none of those before it
  pub further_new : (es : List (Name × NodeId)) (x : Name × NodeId) (rest : List (Name × NodeId)) → further_exports g ≡ es ++ x ∷ rest → IsAmong es x.0 → ⊥
  further_new es x rest here (i, n, at) =
      let first : slice_get (further_exports g) i ≡ Some (x.0, n) = ap (λ xs. slice_get xs i) here ∙ slice_get-prefix es (x ∷ rest) i (x.0, n) at in
      let last : slice_get (further_exports g) (length es) ≡ Some (x.0, x.1) = ap (λ xs. slice_get xs (length es)) here ∙ slice_get-middle es x rest in
      let same : i ≡ length es = once_filter further g.exports (λ i j name n m a b. sound.one_export name i j n m a b) i (length es) x.0 n x.1 first last in
      let within : i < length es = slice_get_within es i (x.0, n) at in
      omega (arith, same, within)

  -- and no definition's first
  pub further_no_first : (k : ℕ) (x : Name × NodeId) → slice_get (further_exports g) k ≡ Some x → (m : NodeId) (node : GraphNode) → node_at g m ≡ Some node → node.first_name ≡ Some x.0 → ⊥
  further_no_first k x at m node there first =
      let (j, exported, passes) = at-filter further g.exports k x at in
      let (i, _, found) = find_position g.exports x.0 m (sound.first_names m node x.0 there first).1 in
      let same : i ≡ j = sound.one_export x.0 i j m x.1 found exported in
      let node_is : m ≡ x.1 = one_node (slice_get g.exports j) m x.1 (ap (slice_get g.exports) (sym same) ∙ found) exported in
      let test : further x ≡ false = ap (λ o. not (option_case o false (λ z. is_first z x.0))) (ap (node_at g) (sym node_is) ∙ there) ∙ ap (λ o. not (option_case o false (same_name x.0))) first ∙ ap not (same_name-refl x.0) in
      clash (further x) passes test where
        one_node : (o : Option (Name × NodeId)) (a b : NodeId) → o ≡ Some (x.0, a) → o ≡ Some (x.0, b) → a ≡ b
        one_node o a b p q = ap (λ (z : Option (Name × NodeId)). option_case z a (λ (e : Name × NodeId). e.1)) (sym p ∙ q)

        clash : (b : Bool) → b ≡ true → b ≡ false → ⊥
        clash true _ h = cc
        clash false h _ = cc
