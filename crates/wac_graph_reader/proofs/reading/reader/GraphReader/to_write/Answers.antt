use Rattle.std.proofs.Common.{◌≡◌, ◌<◌, ◌+◌, [], ◌∷◌, true, false, length, arith, ap, ◌∙◌, subst, sym}
use Rattle.std.specs.List.{flat_map, range_with_len}
use Rattle.std.proofs.lemmas.List.{length-append}
use Rattle.std.proofs.lemmas.Bool.{false≢true}
use Rattle.wac_binary.specs.declared.sorts.Sort.{Sort}
use Rattle.wac_edges.specs.declared.node.NodeId.{NodeId}
use Rattle.wac_edges.specs.Edge.{is_left, node_number}
use Rattle.wac_graph_model.specs.meaning.Means.{is_written}
use Rattle.wac_graph_model.specs.nodes.Graph.{Graph}
use Rattle.wac_graph_reader.proofs.lemmas.writing.EncodingLemmas.{all_flags, next_flag, by_lt, none_past}
use Rattle.wac_graph_reader.specs.private.writing.Naming.{IsNamed}
use Rattle.wac_graph_reader.proofs.lemmas.writing.NamingLemmas.{none_there}
use Rattle.wac_graph_reader.specs.private.reading.Inside.{fields_of}
use Rattle.wac_graph_reader.specs.private.reading.Seen.{open_at, open_numbers}
use Rattle.wac_graph_reader.proofs.lemmas.reading.SeenLemmas.{IsDefinition, no_definition_there, open_next, all_open}
use Rattle.wac_graph_reader.proofs.reading.reader.GraphReader.to_write.Goals as goal
use Rattle.wac_graph_reader.proofs.reading.reader.GraphReader.to_write.Goals.{then-named, else-named, then-defined, else-defined}

pub returns-clause-left : goal.returns-clause-left
returns-clause-left c =
    subst (λ g. (m : NodeId) → is_left c.loop-n.left.items m ≡ is_written g m) c.self.view_is
    (all_flags (fields_of c.self.inside) c.loop-n.left.items c.loop-n.n c.loop-n.invariant.counted (omega (arith, c.loop-n-test.false, c.capacity-n-end.ensures.slots))
    (subst (λ g. (m : NodeId) → m.0 < c.loop-n.n → is_left c.loop-n.left.items m ≡ is_written g m) (sym c.self.view_is) c.loop-n.invariant.written))

pub returns-clause-named : goal.returns-clause-named
returns-clause-named c = λ none sort m is. by_lt m.0 c.loop-n.n
    (λ small. c.loop-n.invariant.named none sort m small is)
    (λ past. none_there (fields_of c.self.inside) m sort (none_past (fields_of c.self.inside) m.0 (omega (arith, c.capacity-n-end.ensures.slots, c.loop-n-test.false, past))) (subst (λ g. IsNamed g sort m) (sym c.self.view_is) is))

pub returns-clause-defined : goal.returns-clause-defined
returns-clause-defined c = λ none m is. by_lt m.0 c.loop-n.n
    (λ small. c.loop-n.invariant.defined none m small is)
    (λ past. no_definition_there (fields_of c.self.inside) m (none_past (fields_of c.self.inside) m.0 (omega (arith, c.capacity-n-end.ensures.slots, c.loop-n-test.false, past))) (subst (λ g. IsDefinition g m) (sym c.self.view_is) is))

pub returns-clause-numbers : goal.returns-clause-numbers
returns-clause-numbers c =
    let all = subst (λ (g : Graph). open_numbers g ≡ flat_map (open_at g) (range_with_len 0 c.loop-n.n)) c.self.view_is (all_open (fields_of c.self.inside) c.loop-n.n (omega (arith, c.loop-n-test.false, c.capacity-n-end.ensures.slots))) in
    c.loop-n.invariant.numbers ∙ sym all

pub loop-n-init : goal.loop-n-init
loop-n-init c = record {
  counted = ap length c.new-left.ensures.items;
  written = λ m low. absurd (omega (arith, low));
  named = λ none sort m low is. absurd (omega (arith, low));
  defined = λ none m low is. absurd (omega (arith, low));
  numbers = c.new-numbers.ensures.items;
}

pub loop-n-preserved : goal.loop-n-preserved
loop-n-preserved c =
    let g = c.args.self.now in
    let before : c.if-named.named ≡ false → (c.loop-n.named ≡ false) × ((sort : Sort) → IsNamed g sort (node_number c.loop-n.n) → ⊥) = elim c.if-named.branch [
      | then-named w ↦ λ none. let last = w.named-is in let was = w.if-named.true in let both : false ≡ true = cc in absurd (false≢true both)
      | else-named w ↦ λ none. (w.if-named.false, λ sort is. false≢true (sym (sym w.named-is ∙ none) ∙ w.has_name-named.ensures sort is))
    ] in
    let none_yet : c.if-defined.defined ≡ false → (c.loop-n.defined ≡ false) × (IsDefinition g (node_number c.loop-n.n) → ⊥) = elim c.if-defined.branch [
      | then-defined w ↦ λ none. let last = w.defined-is in let was = w.if-defined.true in let both : false ≡ true = cc in absurd (false≢true both)
      | else-defined w ↦ λ none. (w.if-defined.false, λ is. false≢true (sym (sym w.defined-is ∙ none) ∙ w.is_definition-defined.ensures is))
    ] in
    record {
      counted = ap length c.in_ok-push.ensures.items ∙ length-append c.loop-n.left.items (c.is_to_write.result ∷ []) ∙ ap (λ k. k + 1) c.loop-n.invariant.counted;
      written = subst (λ xs. (m : NodeId) → m.0 < c.loop-n.n + 1 → is_left xs m ≡ is_written g m) (sym c.in_ok-push.ensures.items)
          (next_flag g c.loop-n.left.items c.loop-n.n c.is_to_write.result c.loop-n.invariant.counted c.loop-n.invariant.written c.is_to_write.ensures);
      named = λ none sort m low is. by_lt m.0 c.loop-n.n
          (λ small. c.loop-n.invariant.named (before none).0 sort m small is)
          (λ past. let here : m.0 ≡ c.loop-n.n = omega (arith, low, past) in (before none).1 sort (subst (λ x. IsNamed g sort x) (ap node_number here) is));
      defined = λ none m low is. by_lt m.0 c.loop-n.n
          (λ small. c.loop-n.invariant.defined (none_yet none).0 m small is)
          (λ past. let here : m.0 ≡ c.loop-n.n = omega (arith, low, past) in (none_yet none).1 (subst (λ x. IsDefinition g x) (ap node_number here) is));
      numbers = open_next g c.loop-n.n c.loop-n.numbers.items c.note_open.new.numbers.items c.loop-n.invariant.numbers c.in_ok-note_open.ensures;
    }
