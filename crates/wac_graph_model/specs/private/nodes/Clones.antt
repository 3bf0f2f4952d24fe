-- Clones of a node's names.
use Rattle.std.specs.Prelude.{◌≡◌, string_bytes}
use Rattle.std.specs.Option.{option_map}
use Rattle.wac_graph_model.specs.declared.nodes.node.NodeNames.{NodeNames}

-- The clone has the same names.
pub record AreNamesClone (names copy : NodeNames) : Type 0 where
  pub name : option_map string_bytes copy.name ≡ option_map string_bytes names.name
  pub export_name : option_map string_bytes copy.export_name ≡ option_map string_bytes names.export_name
  pub first_name : option_map string_bytes copy.first_name ≡ option_map string_bytes names.first_name
