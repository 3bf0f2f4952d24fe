use Rattle.std.proofs.Common.{◌≡◌, ◌∙◌, [], sym, subst, arith}
use Rattle.std.specs.List.{flat_map, range_with_len}
use Rattle.std.specs.FinMap as finite
use Rattle.wac_graph_model.specs.nodes.Graph.{Graph}
use Rattle.wac_graph_fields.specs.private.EntriesLeft.{entries_of, all_with_used, AsksAlike}
use Rattle.wac_graph_fields.proofs.EntryLists.{stands_itself, stands_once}
use Rattle.wac_graph_fields.proofs.AskingTasks.{nothing_settled}
use Rattle.wac_graph_model.specs.causes.TypeFaults.{wanted_at}
use Rattle.wac_graph_reader.proofs.lemmas.writing.AskingWalk.{number_asked, all_wanted}
use Rattle.wac_graph.specs.private.Inside.{fields_of}
use Rattle.wac_graph.proofs.graph.CompositionGraph.wanted_entries.Goals as goal

pub loop-n-preserved : goal.loop-n-preserved
loop-n-preserved c =
    let g = c.args.self.now in
    record {
      right = c.in_ok-ask_wanted.ensures.right;
      settled = c.in_ok-ask_wanted.ensures.settled;
      stands = number_asked g.types (wanted_at g c.args.define_components) [] (entries_of c.loop-n.asking) (entries_of c.ask_wanted.new.asking) c.loop-n.n c.loop-n.invariant.stands c.in_ok-ask_wanted.ensures.stands;
    }

pub returns : goal.returns
returns c =
    let g = c.args.self.now in
    let all = subst (λ (h : Graph). flat_map (wanted_at h c.args.define_components) (finite.keys h.nodes) ≡ flat_map (wanted_at h c.args.define_components) (range_with_len 0 c.loop-n.n)) c.self.view_is (all_wanted (fields_of c.self.inside) c.loop-n.n (omega (arith, c.loop-n-test.false, c.capacity-n-end.ensures.slots)) c.args.define_components) in
    c.into_entries.ensures ∙ stands_once g.types (all_with_used g.types (flat_map (wanted_at g c.args.define_components) (finite.keys g.nodes))) (entries_of c.loop-n.asking)
    (subst (λ es. AsksAlike g.types (all_with_used g.types es) (entries_of c.loop-n.asking)) (sym all) c.loop-n.invariant.stands) c.loop-n.invariant.right.apart

pub loop-n-init : goal.loop-n-init
loop-n-init c =
    let g = c.args.self.now in
    record {
      right = c.new-asking.ensures.right;
      settled = nothing_settled g.types c.new-asking.result c.new-asking.ensures.empty c.new-asking.ensures.visited;
      stands = subst (λ es. AsksAlike g.types [] es) (sym c.new-asking.ensures.empty) (stands_itself g.types []);
    }
