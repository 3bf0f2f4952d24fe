-- The names so far are those of the first nodes.
use Rattle.std.proofs.Common.{◌++◌, [], ◌∷◌, ap, ◌∙◌, sym, arith, slice_index_or}
use Rattle.std.specs.Borrow.{Bor}
use Rattle.std.specs.List.{flat_map}
use Rattle.std.proofs.lemmas.List.{append-nil, map-append, take_all}
use Rattle.wac_types_shapes.specs.primitives.Name.{Name}
use Rattle.wac_edges.specs.Edge.{node_number}
use Rattle.wac_names.specs.private.validation.Views.{texts}
use Rattle.wac_graph_model.specs.causes.OuterNames.{first_name_of}
use Rattle.wac_graph_reader.proofs.lemmas.writing.FurtherRows.{firsts_next}
use Rattle.wac_graph_reader.proofs.lemmas.writing.WriteArgumentsLemmas.{element}
use Rattle.wac_graph_reader.proofs.reading.reader.GraphReader.first_names.Goals as goal
use Rattle.wac_graph_reader.proofs.reading.reader.GraphReader.first_names.Goals.{in-Some+in_ok-push, in_default}

pub loop-n-init : goal.loop-n-init
loop-n-init c = ap texts c.new-names.ensures.items

pub loop-n-preserved : goal.loop-n-preserved
loop-n-preserved c =
    firsts_next c.args.self.now c.args.order.now c.loop-n.n-index (slice_index_or c.args.order.now c.loop-n.n-index (node_number 0)) (element c.args.order.now c.loop-n.n-index c.loop-n-test.true) (texts c.loop-n.names.items) (texts c.match-first_name.names.items) c.loop-n.invariant (elim c.match-first_name.branch [
      | in-Some+in_ok-push w ↦
          ap (λ v. texts v.items) w.names-is ∙ ap texts w.in_ok-push.ensures.items ∙ map-append (λ (t : Bor Name). t.now) c.loop-n.names.items (w.in-Some.name ∷ []) ∙ ap (λ es. texts c.loop-n.names.items ++ es) (sym w.in-Some.ensures)
      | in_default w ↦ ap (λ v. texts v.items) w.names-is ∙ sym (ap (λ es. texts c.loop-n.names.items ++ es) w.in_default.ensures ∙ append-nil (texts c.loop-n.names.items))
    ])

pub returns : goal.returns
returns c = c.loop-n.invariant ∙ ap (flat_map (first_name_of c.args.self.now)) (take_all c.loop-n.n-index c.args.order.now (omega (arith, c.loop-n-test.false)))
