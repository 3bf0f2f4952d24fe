use Rattle.std.proofs.Common.{◌≡◌, ◌++◌, map, ap, subst}
use Rattle.std.specs.List.{AllByRecursion}
use Rattle.wac_types_collection.specs.collection.Collection.{Collection, IsWellFormed}
use Rattle.wac_edges.specs.Edge.{node_number}
use Rattle.wac_graph_model.specs.nodes.Graph.{Graph, node_at}
use Rattle.wac_graph_model.specs.nodes.Asked.{Entry}
use Rattle.wac_graph_model.specs.nodes.Entries.{with_used}
use Rattle.wac_graph_fields.specs.private.EntriesLeft.{entries_of, row_entry, left_entries, asked_at, all_with_used, IsHeldKind, AsksAlike}
use Rattle.wac_graph_fields.proofs.EntryLists.{stands_itself}
use Rattle.wac_graph_reader.proofs.lemmas.writing.AskingWalk.{first_entries, first_held, one_asked}
use Rattle.wac_graph.proofs.graph.CompositionGraph.ask_unset.Goals as goal

pub loop-behind-init : goal.loop-behind-init
loop-behind-init c =
    let g = c.args.self.now in
    let n = c.args.n in
    let old = entries_of c.args.asking.now in
    let wf : IsWellFormed g.types = subst (λ (h : Graph). IsWellFormed h.types) c.self.view_is c.law.ensures in
    record {
      right = c.requires.right;
      settled = c.requires.settled;
      held = first_held g n wf (node_at g (node_number n));
      stands = subst (λ es. AsksAlike g.types (old ++ all_with_used g.types (asked_at g n)) (old ++ all_with_used g.types es)) (first_entries g n (node_at g (node_number n))) (stands_itself g.types (old ++ all_with_used g.types (asked_at g n)));
    }

pub loop-behind-preserved : goal.loop-behind-preserved
loop-behind-preserved c =
    let g = c.args.self.now in
    let n = c.args.n in
    let old = entries_of c.args.asking.now in
    let mid = entries_of c.loop-behind.asking in
    let new = entries_of c.ask.new.self in
    let e : Entry = record { name = c.in-Some.name.now; kind = c.in-Some.kind; node = n } in
    let left = left_entries g n c.in-Some.behind in
    let held = subst (AllByRecursion (λ r. IsHeldKind g.types r.1)) c.in-Some.ensures c.loop-behind.invariant.held in
    let types : c.self.inside.types ≡ g.types = ap (λ (h : Graph). h.types) c.self.view_is in
    record {
      right = c.in_ok-ask.ensures.right;
      settled = rw types at c.in_ok-ask.ensures.settled;
      held = held.1;
      stands = one_asked g.types (old ++ all_with_used g.types (asked_at g n)) mid new e (left_entries g n c.loop-behind.from) left (ap (map (row_entry n)) c.in-Some.ensures) c.loop-behind.invariant.stands
          (subst (λ (t : Collection). AsksAlike t (mid ++ with_used t e) new) types c.in_ok-ask.ensures.stands);
    }
