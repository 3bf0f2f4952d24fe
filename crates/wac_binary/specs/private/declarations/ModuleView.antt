-- The value of a core module type's declaration that is to be written.
use Rattle.wac_binary.specs.Items.{ModuleDecl, module_import, module_func, module_export}
use Rattle.wac_binary.specs.declared.declarations.core_decl.ModuleDeclRef.{ModuleDeclRef}
use Rattle.wac_binary.specs.declared.declarations.core_decl.ModuleDeclRef.TheVariants as h

abbrev pub module_decl_of : ModuleDeclRef → ModuleDecl
module_decl_of (h.Func ps rs) = module_func ps.now rs.now
module_decl_of (h.Import m n x) = module_import m.now n.now x
module_decl_of (h.Export n x) = module_export n.now x
