use Rattle.std.proofs.Common.{◌≡◌, ◌∙◌, ap, sym}
use Rattle.wac_graph_model.specs.nodes.Graph.{instantiation}
use Rattle.wac_graph_model.specs.nodes.Nodes.{kind_of}
use Rattle.wac_graph_model.proofs.lemmas.nodes.NodeLemmas.{there}
use Rattle.wac_graph_reader.proofs.lemmas.writing.EncodingLemmas.{some_and}
use Rattle.wac_graph_fields.proofs.ArgumentLemmas.{not_instantiation}
use Rattle.wac_graph.specs.private.Inside.{fields_of}
use Rattle.wac_graph.proofs.PositionLemmas.{has_import, import_at, name_is, within}
use Rattle.wac_graph.proofs.graph.CompositionGraph.import_name.Goals as goal

pub index-requires : goal.index-requires
index-requires c = there c.self.inside.nodes.slots c.args.instantiation.0 (rw (← c.self.view_is) at c.requires.instantiation)

pub returns-in_default-clause-refused : goal.returns-in_default-clause-refused
returns-in_default-clause-refused c =
    rw (← c.self.view_is) (λ name argument. not_instantiation (fields_of c.self.inside) c.args.instantiation argument c.index.result.now name c.index.ensures (λ s is. c.in_default.not-Instantiation s (c.kind.ensures ∙ is)))

pub imports_at-requires : goal.imports_at-requires
imports_at-requires c = rw (← c.self.view_is) (some_and (fields_of c.self.inside) c.args.instantiation.0 c.index.result.now (λ node. node.kind ≡ instantiation) c.index.ensures (ap kind_of (sym c.kind.ensures ∙ c.in-Instantiation.is)))

pub name_at-requires : goal.name_at-requires
name_at-requires c =
    within c.imports_at.result.now c.args.position (c.requires.import.0, c.requires.import.1)
    (import_at c.args.self.now c.args.instantiation c.imports_at.result.now c.requires.import.0 c.args.position c.requires.import.1 c.requires.instantiation c.imports_at.ensures c.requires.import.2)

pub returns-clause-found : goal.returns-clause-found
returns-clause-found c =
    λ name kind has. (
      name_is c.imports_at.result.now c.args.position name c.name_at.result.now kind (import_at c.args.self.now c.args.instantiation c.imports_at.result.now name c.args.position kind c.requires.instantiation c.imports_at.ensures has) c.name_at.ensures,
      has_import c.args.self.now c.args.instantiation name c.args.position kind
          (rw (← c.self.view_is) (some_and (fields_of c.self.inside) c.args.instantiation.0 c.index.result.now (λ node. node.kind ≡ instantiation) c.index.ensures (ap kind_of (sym c.kind.ensures ∙ c.in-Instantiation.is)))) has,
    )
