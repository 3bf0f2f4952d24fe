use Rattle.wac_edges.specs.Edge.{argument_edge}
use Rattle.wac_graph_model.specs.nodes.Graph.{IsArgumentOf, IsUnsatisfied}
use Rattle.wac_graph_reader.proofs.lemmas.writing.MeansLemmas.{when_some, when_none}
use Rattle.wac_graph_encode.proofs.lemmas.places.FoundLemmas.{unset_imported, unset_argument}
use Rattle.wac_graph_encode.proofs.lemmas.encoding.NodeLemmas.{set_argument}
use Rattle.wac_graph_encode.proofs.encoding.writer.argument.Goals as goal

pub item_kind-requires : goal.item_kind-requires
item_kind-requires c = ((c.law.ensures).ends (argument_edge c.in-Some.source c.args.n c.args.position) (when_some c.args.source c.in-Some.source (IsArgumentOf c.args.reader.now c.args.n c.args.position) c.in-Some.is c.requires.set)).0

pub returns-in-Some : goal.returns-in-Some
returns-in-Some c =
    let given = when_some c.args.source c.in-Some.source (IsArgumentOf c.args.reader.now c.args.n c.args.position) c.in-Some.is c.requires.set in
    set_argument c.args.reader.now c.args.imports.now.places.items c.args.indexes.now c.args.n c.in-Some.source c.args.position c.args.name.now c.sort_of.result c.item_kind.result
    ((c.law.ensures).ends (argument_edge c.in-Some.source c.args.n c.args.position) given).0 c.item_kind.ensures given c.sort_of.ensures c.requires.asked

pub place_of-requires-clause-imported : goal.place_of-requires-clause-imported
place_of-requires-clause-imported c = unset_imported c.class_laws.ensures (λ t es order w. (c.order_law.ensures t es order w).each) c.args.reader.now c.args.imports.now c.requires.placed c.args.n c.args.position c.args.name.now c.requires.asked
    (when_none c.args.source (IsUnsatisfied c.args.reader.now c.args.n c.args.position) c.in-None.is c.requires.unset)

pub returns-in-None : goal.returns-in-None
returns-in-None c = unset_argument c.class_laws.ensures (λ t es order w. (c.order_law.ensures t es order w).each) c.args.reader.now c.args.imports.now c.requires.placed c.args.n c.args.position c.args.name.now c.requires.asked
    (when_none c.args.source (IsUnsatisfied c.args.reader.now c.args.n c.args.position) c.in-None.is c.requires.unset) _ c.place_of.result c.place_of.ensures
