use Rattle.std.proofs.Common.{◌∙◌, ap, sym, subst}
use Rattle.wac_types_shapes.specs.primitives.Name.{Name}
use Rattle.wac_edges.specs.declared.node.NodeId.{NodeId}
use Rattle.wac_graph_model.specs.nodes.Graph.{IsImportOf}
use Rattle.wac_graph_model.specs.causes.TypeFaults.{wanted_entries}
use Rattle.wac_graph.specs.private.Inside.{fields_of}
use Rattle.wac_graph_reader.proofs.lemmas.writing.NoImportLemmas.{no_import}
use Rattle.wac_graph.proofs.WantedAskedLemmas.{wanted_is_asked}
use Rattle.wac_graph.proofs.graph.CompositionGraph.wanted_of_asked.Goals as goal

pub returns-then-define_components : goal.returns-then-define_components
returns-then-define_components c =
    let none = no_import (fields_of c.self.inside) c.self.invariant (c.is_empty.ensures.0 c.if-is_empty.true) in
    c.requires.asked ∙ wanted_is_asked c.args.self.now (subst (λ g. (name : Name) (n : NodeId) → IsImportOf g name n → ⊥) c.self.view_is none) (c.requires.definitions c.if-not-defined.true)
    ∙ ap (wanted_entries c.args.self.now) (sym c.if-define_components.true)
