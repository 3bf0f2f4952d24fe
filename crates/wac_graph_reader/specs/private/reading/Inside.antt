-- The value of a reader.
use Rattle.wac_graph_fields.specs.private.Fields.{Fields}
use Rattle.wac_graph_reader.specs.declared.reading.reader.GraphReader.TheInside.{Inside}

-- The fields that the reader borrows.
abbrev pub fields_of : Inside → Fields
fields_of a = record {
  types = a.types.now;
  nodes = a.nodes.now;
  edges = a.edges.now;
  imports = a.imports.now;
  exports = a.exports.now;
  package_map = a.package_map.now;
  slots = a.slots.now;
  vacant = a.vacant.now;
  lost = a.lost.now;
}
