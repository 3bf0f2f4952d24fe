use Rattle.wac_binary.proofs.AddedLaws.{alias_type, alias_instance, outer_type, import_equal, import_fresh, import_instance, export_type, export_instance, instantiation}
use Rattle.wac_binary.proofs.laws.added_law.Goals as goal

pub returns : goal.returns
returns c = record {
  alias_type = alias_type;
  alias_instance = alias_instance;
  outer_type = outer_type;
  import_equal = import_equal;
  import_fresh = import_fresh;
  import_instance = import_instance;
  export_type = export_type;
  export_instance = export_instance;
  instantiation = instantiation;
}
