use Rattle.std.proofs.Common.{[], ◌∷◌, ◌∙◌, ap, sym}
use Rattle.wac_graph_model.specs.meaning.Means.{is_first}
use Rattle.wac_graph_model.specs.nodes.Nodes.{node_of}
use Rattle.wac_graph_reader.proofs.lemmas.writing.FurtherRows.{at_first, at_further, exported_number}
use Rattle.wac_graph_reader.specs.private.reading.Inside.{fields_of}
use Rattle.wac_graph_reader.proofs.reading.reader.GraphReader.further_export.Goals as goal

pub index-requires : goal.index-requires
index-requires c = exported_number (fields_of c.self.inside) c.self.invariant c.args.i c.in_ok-name.name.now c.in_ok-name.id.now c.in_ok-name.ensures.entry

pub returns-then-is_first_name : goal.returns-then-is_first_name
returns-then-is_first_name c =
    at_first (fields_of c.self.inside) c.self.invariant c.args.self.now c.self.view_is c.args.i c.in_ok-name.name.now c.in_ok-name.id.now c.index.result.now c.in_ok-name.ensures.entry c.index.ensures
    c.is_first_name.result (c.is_first_name.ensures ∙ ap (is_first (node_of c.index.result.now)) c.as_str.ensures.value) c.if-is_first_name.true

pub returns : goal.returns
returns c =
    at_further (fields_of c.self.inside) c.self.invariant c.args.self.now c.self.view_is c.args.i c.in_ok-name.name.now c.in_ok-name.id.now c.index.result.now c.in_ok-name.ensures.entry c.index.ensures
    c.is_first_name.result (c.is_first_name.ensures ∙ ap (is_first (node_of c.index.result.now)) c.as_str.ensures.value) c.if-is_first_name.false
    ∙ ap (λ t. (t, c.in_ok-name.id.now) ∷ []) (sym c.as_str-2.ensures.value)
