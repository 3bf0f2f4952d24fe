use Rattle.wac_binary.proofs.AddedLaws.{declared_alias_type, declared_alias_instance, declared_outer_type, declared_import_equal, declared_import_fresh, declared_import_instance, declared_export_equal, declared_export_fresh, declared_export_instance}
use Rattle.wac_binary.proofs.laws.declared_law.Goals as goal

pub returns : goal.returns
returns c = record {
  alias_type = declared_alias_type;
  alias_instance = declared_alias_instance;
  outer_type = declared_outer_type;
  import_equal = declared_import_equal;
  import_fresh = declared_import_fresh;
  import_instance = declared_import_instance;
  export_equal = declared_export_equal;
  export_fresh = declared_export_fresh;
  export_instance = declared_export_instance;
}
