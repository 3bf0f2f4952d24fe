-- What a call on a graph answers that is made once more, where node 3 was answered before.
use Rattle.std.proofs.Common.{◌≡◌, ℕ, suc, Bool, true, false, refl, ap, sym, arith, ◌⊎◌, inl, inr}
use Rattle.std.specs.Prelude.{Result, Ok, Err}
use Rattle.wac_edges.specs.declared.node.NodeId.{NodeId}
use Rattle.wac_edges.specs.Edge.{node_number}
use Rattle.wac_graph_model.specs.declared.nodes.errors.AliasError.{AliasError}
use Rattle.wac_graph_model.specs.declared.nodes.errors.AliasError.TheVariants as alias_error
use Rattle.wac_graph_model.specs.nodes.Graph.{Graph}
use Rattle.wac_graph_model.specs.nodes.Stays.{GivesAgain}
use Rattle.wac_merge_tests.proofs.lemmas.examples.Apart.{no_flag, two_numbers}

abbrev Answer : Type 0
Answer = Result NodeId AliasError

-- the number of the node that is answered
abbrev answered : Answer → ℕ
answered (Ok n) = n.0
answered (Err e) = 0

abbrev is_refused : Answer → Bool
is_refused (Ok n) = false
is_refused (Err e) = true

module _ (g : Graph) where
  abbrev Again : Answer → Graph → Type 0
  Again r new = GivesAgain g (node_number 3) alias_error.OutOfMemory r new

  -- it is answered again; or memory was refused
  pub same_answer : Again (Ok (node_number 3)) g
  same_answer = (refl, inl refl)

  pub want_of_memory : Again (Err alias_error.OutOfMemory) g
  want_of_memory = (refl, inr refl)

  -- no other node is
  pub no_other_node : Again (Ok (node_number 4)) g → ⊥
  no_other_node h = by_answer h.1 where
    by_answer : (let r : Answer = Ok (node_number 4) in r ≡ Ok (node_number 3)) ⊎ (let r : Answer = Ok (node_number 4) in r ≡ Err alias_error.OutOfMemory) → ⊥
    by_answer (inl is) = two_numbers 4 3 refl (ap answered is)
    by_answer (inr is) = no_flag (sym (ap is_refused is))

  -- no refusal is but for memory
  pub no_other_refusal : (e : AliasError) → (e ≡ alias_error.OutOfMemory → ⊥) → Again (Err e) g → ⊥
  no_other_refusal e other h = by_answer h.1 where
    fault : Answer → AliasError
    fault (Err x) = x
    fault (Ok n) = e

    by_answer : (let r : Answer = Err e in r ≡ Ok (node_number 3)) ⊎ (let r : Answer = Err e in r ≡ Err alias_error.OutOfMemory) → ⊥
    by_answer (inl is) = no_flag (ap is_refused is)
    by_answer (inr is) = other (ap fault is)

  -- and the graph does not change
  pub no_other_graph : Again (Ok (node_number 3)) (record g { next = suc g.next }) → ⊥
  no_other_graph h = let same : suc g.next ≡ g.next = ap (λ (x : Graph). x.next) h.0 in omega (arith, same)
