use Rattle.std.proofs.Common.{◌≡◌, ap, sym, subst, arith, false}
use Rattle.wac_graph_reader.specs.declared.reading.encoder.Encoder.{Encoder}
use Rattle.wac_graph_model.specs.meaning.Means.{is_import}
use Rattle.wac_graph_model.specs.nodes.Graph.{instantiation, alias, definition}
use Rattle.wac_graph_model.specs.nodes.Nodes.{kind_of}
use Rattle.wac_graph_reader.specs.private.reading.EncoderView.{progress}
use Rattle.wac_graph_reader.proofs.lemmas.writing.WriteArgumentsLemmas.{noted, is_there_of}
use Rattle.wac_graph_encode.specs.private.encoding.Root.{KeepsRoot}
use Rattle.wac_graph_encode.proofs.lemmas.encoding.NodeLemmas.{of_kind, no_import}
use Rattle.wac_graph_encode.proofs.lemmas.encoding.RootLemmas.{appended-open}
use Rattle.wac_graph_encode.proofs.lemmas.encoding.RootCosts.{packages-exit, packages-same, alias-packages, alias-refused, definition-packages, definition-refused}
use Rattle.wac_graph_encode.proofs.encoding.writer.GraphWriter.write_node.Goals as goal
use Rattle.wac_graph_encode.proofs.encoding.writer.GraphWriter.write_node.Goals.{in-Instantiation+in_ok-index-in-Instantiation, in-Alias+in_ok-index-in-Alias, in-Definition+in_ok-index-in-Definition}

pub kind-requires : goal.kind-requires
kind-requires c = is_there_of c.args.self.now.reader.now c.args.n (λ node. is_import node.kind ≡ false) c.requires.node

pub write_instantiation-requires-clause-instantiation :
    goal.write_instantiation-requires-clause-instantiation
write_instantiation-requires-clause-instantiation c = of_kind c.args.self.now.reader.now c.args.n c.kind.result.now c.requires.node c.kind.ensures instantiation (ap kind_of c.in-Instantiation.is)

pub write_alias-requires-clause-alias : goal.write_alias-requires-clause-alias
write_alias-requires-clause-alias c = of_kind c.args.self.now.reader.now c.args.n c.kind.result.now c.requires.node c.kind.ensures alias (ap kind_of c.in-Alias.is)

pub write_alias-requires-clause-root : goal.write_alias-requires-clause-root
write_alias-requires-clause-root c = ((c.requires.ready).open_root).root

pub write_definition-requires-clause-definition : goal.write_definition-requires-clause-definition
write_definition-requires-clause-definition c = of_kind c.args.self.now.reader.now c.args.n c.kind.result.now c.requires.node c.kind.ensures definition (ap kind_of c.in-Definition.is)

pub unreachable-requires : goal.unreachable-requires
unreachable-requires c = no_import c.args.self.now.reader.now c.args.n c.kind.result.now c.requires.node c.kind.ensures c.in-Import.field-0 c.in-Import.is

pub returns-clause-written : goal.returns-clause-written
returns-clause-written c = elim c.match-kind.branch [
  | in-Instantiation+in_ok-index-in-Instantiation w ↦ λ o same m open_root. noted c.args.self.now.reader.now o m c.args.self.now.imports.now.places.items c.args.n.0 (progress c.args.encoder.now) (progress w.write_instantiation.new.encoder) (progress c.match-kind.encoder) _ c.match-kind.index (ap progress w.encoder-is) w.index-is (w.in_ok-index-in-Instantiation.ensures.written o same m open_root) (ap (λ v. v.items) w.in_ok-index-in-Instantiation.ensures.kept)
  | in-Alias+in_ok-index-in-Alias w ↦ λ o same m open_root. noted c.args.self.now.reader.now o m c.args.self.now.imports.now.places.items c.args.n.0 (progress c.args.encoder.now) (progress w.write_alias.new.encoder) (progress c.match-kind.encoder) _ c.match-kind.index (ap progress w.encoder-is) w.index-is (w.in_ok-index-in-Alias.ensures.written o m c.args.self.now.imports.now.places.items) (ap (λ v. v.items) w.in_ok-index-in-Alias.ensures.kept)
  | in-Definition+in_ok-index-in-Definition w ↦ λ o same m open_root. noted c.args.self.now.reader.now o m c.args.self.now.imports.now.places.items c.args.n.0 (progress c.args.encoder.now) (progress w.write_definition.new.encoder) (progress c.match-kind.encoder) _ c.match-kind.index (ap progress w.encoder-is) w.index-is (w.in_ok-index-in-Definition.ensures.written o same m open_root) (ap (λ v. v.items) w.in_ok-index-in-Definition.ensures.kept)
]

pub returns-clause-root : goal.returns-clause-root
returns-clause-root c = elim c.match-kind.branch [
  | in-Instantiation+in_ok-index-in-Instantiation w ↦ subst (λ (e : Encoder). KeepsRoot c.args.self.now.reader.now c.args.encoder.now.state e.state) (sym w.encoder-is) w.in_ok-index-in-Instantiation.ensures.root
  | in-Alias+in_ok-index-in-Alias w ↦ subst (λ (e : Encoder). KeepsRoot c.args.self.now.reader.now c.args.encoder.now.state e.state) (sym w.encoder-is) (appended-open c.lending_law.ensures c.args.self.now.reader.now c.args.encoder.now.state w.write_alias.new.encoder.state w.in_ok-index-in-Alias.ensures.appended)
  | in-Definition+in_ok-index-in-Definition w ↦ subst (λ (e : Encoder). KeepsRoot c.args.self.now.reader.now c.args.encoder.now.state e.state) (sym w.encoder-is) w.in_ok-index-in-Definition.ensures.root
]

pub returns-clause-cost : goal.returns-clause-cost
returns-clause-cost c = elim c.match-kind.branch [
  | in-Instantiation+in_ok-index-in-Instantiation w ↦ λ o same. packages-same c.args.self.now.reader.now o _ c.args.encoder.now w.write_instantiation.new.encoder c.match-kind.encoder w.encoder-is w.in_ok-index-in-Instantiation.index (w.in_ok-index-in-Instantiation.ensures.cost o same)
  | in-Alias+in_ok-index-in-Alias w ↦ λ o same. packages-same c.args.self.now.reader.now o _ c.args.encoder.now w.write_alias.new.encoder c.match-kind.encoder w.encoder-is w.in_ok-index-in-Alias.index
      (alias-packages c.args.self.now.reader.now o c.args.n c.args.encoder.now w.write_alias.new.encoder c.order_law.ensures.components (((c.requires.ready).open_root).root) (of_kind c.args.self.now.reader.now c.args.n c.kind.result.now c.requires.node c.kind.ensures alias (ap kind_of w.in-Alias.is)) w.in_ok-index-in-Alias.index w.in_ok-index-in-Alias.ensures.written w.in_ok-index-in-Alias.ensures.appended w.in_ok-index-in-Alias.ensures.cost)
  | in-Definition+in_ok-index-in-Definition w ↦ λ o same. packages-same c.args.self.now.reader.now o _ c.args.encoder.now w.write_definition.new.encoder c.match-kind.encoder w.encoder-is w.in_ok-index-in-Definition.index
      (definition-packages c.args.self.now.reader.now o c.args.self.now.define_components c.args.self.now.imports.now.places.items c.args.n c.args.encoder.now w.write_definition.new.encoder c.order_law.ensures.components c.requires.ready.bindings c.requires.ready.open_root same (of_kind c.args.self.now.reader.now c.args.n c.kind.result.now c.requires.node c.kind.ensures definition (ap kind_of w.in-Definition.is)) w.in_ok-index-in-Definition.index w.in_ok-index-in-Definition.ensures.written (w.in_ok-index-in-Definition.ensures.cost o))
]

pub returns-in_err-index-in-Instantiation-clause-cost : goal.returns-in_err-index-in-Instantiation-clause-cost
returns-in_err-index-in-Instantiation-clause-cost c = λ o same. packages-exit c.args.self.now.reader.now o _ _ c.args.encoder.now c.write_instantiation.new.encoder c.write_instantiation.new.encoder (c.in_err-index-in-Instantiation.field-0).0 c.from_residual.result c.from_residual.ensures.1 (omega arith) (c.in_err-index-in-Instantiation.ensures.cost o same)

pub returns-in_err-index-in-Alias-clause-cost : goal.returns-in_err-index-in-Alias-clause-cost
returns-in_err-index-in-Alias-clause-cost c = λ o same. alias-refused c.args.self.now.reader.now o c.args.n c.args.encoder.now c.write_alias.new.encoder (c.in_err-index-in-Alias.field-0).0 c.from_residual-in_err-index-in-Alias.result c.from_residual-in_err-index-in-Alias.ensures.1 c.order_law.ensures.components (((c.requires.ready).open_root).root)
    (of_kind c.args.self.now.reader.now c.args.n c.kind.result.now c.requires.node c.kind.ensures alias (ap kind_of c.in-Alias.is)) c.in_err-index-in-Alias.ensures.cost

pub returns-in_err-index-in-Definition-clause-cost : goal.returns-in_err-index-in-Definition-clause-cost
returns-in_err-index-in-Definition-clause-cost c = λ o same. definition-refused c.args.self.now.reader.now o c.args.n c.args.encoder.now c.write_definition.new.encoder (c.in_err-index-in-Definition.field-0).0 c.from_residual-in_err-index-in-Definition.result c.from_residual-in_err-index-in-Definition.ensures.1 c.order_law.ensures.components (c.in_err-index-in-Definition.ensures.cost o)
