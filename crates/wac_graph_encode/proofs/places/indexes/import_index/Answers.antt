use Rattle.wac_edges.specs.Edge.{node_number}
use Rattle.wac_graph_reader.proofs.lemmas.writing.ImportRows.{row_node}
use Rattle.wac_graph_encode.proofs.lemmas.places.FoundLemmas.{node_imported, node_found}
use Rattle.wac_graph_encode.proofs.places.indexes.import_index.Goals as goal

pub place_of-requires-clause-imported : goal.place_of-requires-clause-imported
place_of-requires-clause-imported c =
    let (node, there, is) = row_node c.args.reader.now c.args.n c.in-Some.name.now c.in-Some.field-0-1 c.in-Some.ensures in
    node_imported c.class_laws.ensures (λ t es order w. (c.order_law.ensures t es order w).each) c.args.reader.now c.args.imports.now c.requires (node_number c.args.n) node c.in-Some.name.now there is

pub returns-in-Some : goal.returns-in-Some
returns-in-Some c = node_found c.class_laws.ensures (λ t es order w. (c.order_law.ensures t es order w).each) c.args.reader.now c.args.imports.now c.requires c.args.n c.in-Some.name.now c.in-Some.field-0-1 c.in-Some.ensures c.place_of.result c.place_of.ensures
