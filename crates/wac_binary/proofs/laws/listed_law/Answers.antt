use Rattle.wac_binary.proofs.ListedLaws.{imports_one_more, exports_one_more, root_imports, root_exports, declared_imports, declared_exports}
use Rattle.wac_binary.proofs.laws.listed_law.Goals as goal

pub returns : goal.returns
returns c = record {
  imports = imports_one_more;
  exports = exports_one_more;
  scope_imports = root_imports;
  scope_exports = root_exports;
  declared_imports = declared_imports;
  declared_exports = declared_exports;
}
