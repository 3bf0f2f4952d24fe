-- The names so far are the first names of definitions, and those of the first exports by other names.
use Rattle.std.proofs.Common.{◌<◌, ◌≤◌, ◌++◌, [], ◌∷◌, length, map, ap, ◌∙◌, sym, arith}
use Rattle.std.specs.Borrow.{Bor}
use Rattle.std.specs.List.{flat_map}
use Rattle.std.proofs.lemmas.List.{append-nil, map-append}
use Rattle.wac_types_shapes.specs.primitives.Name.{Name}
use Rattle.wac_edges.specs.declared.node.NodeId.{NodeId}
use Rattle.wac_names.specs.private.validation.Views.{texts}
use Rattle.wac_graph_model.specs.causes.OuterNames.{first_name_of}
use Rattle.wac_graph_reader.proofs.lemmas.writing.FurtherRows.{exports_length, names_next, further_all}
use Rattle.wac_graph_reader.specs.private.reading.Inside.{fields_of}
use Rattle.wac_graph_reader.proofs.reading.reader.GraphReader.export_names.Goals as goal
use Rattle.wac_graph_reader.proofs.reading.reader.GraphReader.export_names.Goals.{in-Some+in_ok-push, in_default}

pub loop-i-init : goal.loop-i-init
loop-i-init c = c.in_ok-names.ensures ∙ sym (append-nil _)

pub loop-i-preserved : goal.loop-i-preserved
loop-i-preserved c =
    let small : c.loop-i.i < length c.args.self.now.exports = omega (arith, c.loop-i-test.true, c.len-i-end.ensures.len, exports_length (fields_of c.self.inside) c.args.self.now c.self.view_is) in
    names_next c.args.self.now c.loop-i.i small (flat_map (first_name_of c.args.self.now) c.args.order.now) (texts c.loop-i.names.items) (texts c.match-further_export.names.items) c.loop-i.invariant (elim c.match-further_export.branch [
      | in-Some+in_ok-push w ↦
          ap (λ v. texts v.items) w.names-is ∙ ap texts w.in_ok-push.ensures.items ∙ map-append (λ (t : Bor Name). t.now) c.loop-i.names.items (w.in-Some.name ∷ [])
          ∙ ap (λ es. texts c.loop-i.names.items ++ map (λ (e : Name × NodeId). e.0) es) (sym w.in-Some.ensures)
      | in_default w ↦
          ap (λ v. texts v.items) w.names-is ∙ sym (ap (λ es. texts c.loop-i.names.items ++ map (λ (e : Name × NodeId). e.0) es) w.in_default.ensures ∙ append-nil (texts c.loop-i.names.items))
    ])

pub returns : goal.returns
returns c =
    let past : length c.args.self.now.exports ≤ c.loop-i.i = omega (arith, c.loop-i-test.false, c.len-i-end.ensures.len, exports_length (fields_of c.self.inside) c.args.self.now c.self.view_is) in
    c.loop-i.invariant ∙ ap (λ es. flat_map (first_name_of c.args.self.now) c.args.order.now ++ map (λ (e : Name × NodeId). e.0) es) (further_all c.args.self.now c.loop-i.i past)
