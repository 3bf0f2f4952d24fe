use Rattle.std.proofs.Common.{Some, None, false, not, sym, ap, ◌∙◌}
use Rattle.wac_types_shapes.specs.primitives.Name.{option_case}
use Rattle.wac_graph_model.specs.meaning.Means.{is_import}
use Rattle.wac_graph_model.specs.nodes.Nodes.{kind_of}
use Rattle.wac_graph_reader.proofs.lemmas.writing.EncodingLemmas.{node_is}
use Rattle.wac_graph_reader.specs.private.reading.Inside.{fields_of}
use Rattle.wac_graph_reader.proofs.reading.reader.GraphReader.is_to_write.Goals as goal

pub returns-in-None : goal.returns-in-None
returns-in-None c = rw (← c.self.view_is) (sym (ap (λ o. option_case o false (λ x. not (is_import x.kind))) (node_is (fields_of c.self.inside) c.args.n None (sym c.in-None.ensures))))

pub returns-in-Some : goal.returns-in-Some
returns-in-Some c = rw (← c.self.view_is) (ap not c.is_import.ensures ∙ ap (λ k. not (is_import (kind_of k))) c.kind.ensures ∙ sym (ap (λ o. option_case o false (λ x. not (is_import x.kind))) (node_is (fields_of c.self.inside) c.args.n (Some c.in-Some.node.now) (sym c.in-Some.ensures))))
