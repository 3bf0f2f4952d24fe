use Rattle.std.proofs.Common.{◌≡◌, ◌++◌, ◌+◌, ap, sym, subst, arith}
use Rattle.std.specs.List.{flat_map, range_with_len}
use Rattle.std.proofs.lemmas.List.{append-nil}
use Rattle.wac_types_shapes.specs.primitives.Name.{Name}
use Rattle.wac_edges.specs.declared.node.NodeId.{NodeId}
use Rattle.wac_types_collection.specs.collection.Collection.{Collection}
use Rattle.wac_graph_fields.specs.declared.asked.Asking.{Asking}
use Rattle.wac_graph_model.specs.nodes.Asked.{Entry}
use Rattle.wac_graph_model.specs.nodes.Entries.{with_used}
use Rattle.wac_graph_model.specs.nodes.Graph.{Graph, IsImportOf}
use Rattle.wac_graph_fields.proofs.EntryLists.{stands_itself}
use Rattle.wac_graph_fields.specs.private.EntriesLeft.{entries_of, imported_at, all_imported_by, all_with_used, IsRight, IsHeldKind, IsSettled, AsksAlike}
use Rattle.wac_graph_model.specs.nodes.Sound.{IsSound}
use Rattle.wac_graph_reader.proofs.lemmas.writing.AskingWalk.{nothing_asked, number_asked, number_passed, one_number, asked_node, no_node, all_imported}
use Rattle.wac_graph.specs.private.Inside.{fields_of}
use Rattle.wac_graph_reader.proofs.lemmas.writing.NoImportLemmas.{no_import}
use Rattle.wac_graph.proofs.WantedAskedLemmas.{none_imported}
use Rattle.wac_graph.proofs.graph.CompositionGraph.ask_nodes.Goals as goal
use Rattle.wac_graph.proofs.graph.CompositionGraph.ask_nodes.Goals.{in-Some+in_ok-ask, in_default}

pub returns-then-is_empty-clause-stands : goal.returns-then-is_empty-clause-stands
returns-then-is_empty-clause-stands c =
    let g = c.args.self.now in
    let old = entries_of c.args.asking.now in
    let no = no_import (fields_of c.self.inside) c.self.invariant (c.is_empty.ensures.0 c.if-is_empty.true) in
    let none = none_imported g (subst (λ h. (name : Name) (n : NodeId) → IsImportOf h name n → ⊥) c.self.view_is no) in
    subst (λ es. AsksAlike g.types (old ++ all_with_used g.types es) old) (sym none) (subst (λ es. AsksAlike g.types es old) (sym (append-nil old)) (stands_itself g.types old))

pub loop-node-init : goal.loop-node-init
loop-node-init c = record { right = c.requires.right; settled = c.requires.settled; stands = nothing_asked c.args.self.now.types (imported_at c.args.self.now) (entries_of c.args.asking.now) }

pub ask-requires-clause-held : goal.ask-requires-clause-held
ask-requires-clause-held c =
    let g = c.args.self.now in
    let sound : IsSound g = subst (λ (h : Graph). IsSound h) c.self.view_is c.self.invariant.sound in
    let (_, held) = asked_node g c.loop-node.node sound c.in-Some.name.now c.in-Some.kind c.in-Some.ensures in
    subst (λ (h : Graph). IsHeldKind h.types c.in-Some.kind) (sym c.self.view_is) held

pub loop-node-preserved : goal.loop-node-preserved
loop-node-preserved c =
    let g = c.args.self.now in
    let n = c.loop-node.node in
    let old = entries_of c.args.asking.now in
    let mid = entries_of c.loop-node.asking in
    let sound : IsSound g = subst (λ (h : Graph). IsSound h) c.self.view_is c.self.invariant.sound in
    let types : c.self.inside.types ≡ g.types = ap (λ (h : Graph). h.types) c.self.view_is in
    let Goal : Asking → Type 0 = λ a. IsRight a × IsSettled g.types a × AsksAlike g.types (old ++ all_with_used g.types (flat_map (imported_at g) (range_with_len 0 (n + 1)))) (entries_of a) in
    let h : Goal c.match-import_node_at.asking = elim c.match-import_node_at.branch [
      | in-Some+in_ok-ask w ↦
          let e : Entry = record { name = w.in-Some.name.now; kind = w.in-Some.kind; node = n } in
          let new = entries_of w.ask.new.self in
          let (is, _) = asked_node g n sound w.in-Some.name.now w.in-Some.kind w.in-Some.ensures in
          let stands = subst (λ (t : Collection). AsksAlike t (mid ++ with_used t e) new) types w.in_ok-ask.ensures.stands in
          subst Goal (sym w.asking-is) (
            w.in_ok-ask.ensures.right,
            subst (λ (t : Collection). IsSettled t w.ask.new.self) types w.in_ok-ask.ensures.settled,
            number_asked g.types (imported_at g) old mid new n c.loop-node.invariant.stands (one_number g.types mid new e (imported_at g n) is stands),
          )
      | in_default w ↦
          subst Goal (sym w.asking-is) (c.loop-node.invariant.right, c.loop-node.invariant.settled, number_passed g.types (imported_at g) old mid n c.loop-node.invariant.stands (no_node g n w.in_default.ensures))
    ] in
    record { right = h.0; settled = h.1; stands = h.2 }

pub returns-clause-stands : goal.returns-clause-stands
returns-clause-stands c =
    let g = c.args.self.now in
    let old = entries_of c.args.asking.now in
    let all = subst (λ (h : Graph). all_imported_by h ≡ flat_map (imported_at h) (range_with_len 0 c.loop-node.node)) c.self.view_is (all_imported (fields_of c.self.inside) c.loop-node.node (omega (arith, c.loop-node-test.false, c.capacity-node-end.ensures.slots))) in
    subst (λ es. AsksAlike g.types (old ++ all_with_used g.types es) (entries_of c.loop-node.asking)) (sym all) c.loop-node.invariant.stands
