-- The fields of a graph.
use Rattle.wac_graph_fields.specs.private.Fields.{Fields}
use Rattle.wac_graph.specs.declared.graph.CompositionGraph.TheInside.{Inside}

-- The fields of a graph.
abbrev pub fields_of : Inside → Fields
fields_of a = record {
  types = a.types;
  nodes = a.nodes;
  edges = a.edges;
  imports = a.imports;
  exports = a.exports;
  package_map = a.package_map;
  slots = a.slots;
  vacant = a.vacant;
  lost = a.lost;
}
