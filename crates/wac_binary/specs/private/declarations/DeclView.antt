-- The values of the declarations, types and aliases that are to be written.
use Rattle.std.specs.Prelude.{ℕ}
use Rattle.wac_binary.specs.Items.{Alias, export_alias, outer_alias, TypeDef, value_def, component_def, instance_def, Decls, decls, Decl, core_type_decl, type_decl, alias_decl, import_decl, export_decl}
use Rattle.wac_binary.specs.Views.{func_of, defined_of}
use Rattle.wac_binary.specs.declared.declarations.decl.AliasRef.{AliasRef}
use Rattle.wac_binary.specs.declared.declarations.decl.AliasRef.TheVariants as a
use Rattle.wac_binary.specs.declared.declarations.decl.TypeRef.{TypeRef}
use Rattle.wac_binary.specs.declared.declarations.decl.TypeRef.TheVariants as t
use Rattle.wac_binary.specs.declared.declarations.decl.Scope.{Scope}
use Rattle.wac_binary.specs.declared.declarations.decl.Scope.TheVariants as o
use Rattle.wac_binary.specs.declared.declarations.decl.DeclRef.{DeclRef}
use Rattle.wac_binary.specs.declared.declarations.decl.DeclRef.TheVariants as h

abbrev pub alias_of : AliasRef → Alias
alias_of (a.Export t i name) = export_alias t i name.now
alias_of (a.Outer t k i) = outer_alias t k i

-- A type with these declarations.
abbrev pub scope_def : Scope → Decls → TypeDef
scope_def o.Component ds = component_def ds
scope_def o.Instance ds = instance_def ds

abbrev pub type_of : TypeRef → TypeDef
type_of (t.Defined d) = value_def (defined_of d.now)
type_of (t.Func f) = func_of f.now
type_of (t.Scope o ds) = scope_def o (decls ds.now)

abbrev pub decl_of : DeclRef → Decl
decl_of (h.CoreModule ds) = core_type_decl ds.now
decl_of (h.Type x) = type_decl (type_of x)
decl_of (h.Alias x) = alias_decl (alias_of x)
decl_of (h.Import name d) = import_decl name.now d
decl_of (h.Export name d) = export_decl name.now d

-- The first byte of such a type.
abbrev pub scope_byte : Scope → ℕ
scope_byte o.Component = 0x41
scope_byte o.Instance = 0x42
