-- Printed by print_parts.py.
use Rattle.std.proofs.Common.{◌≡◌, ℕ, List, [], ◌∷◌, Some, None, Ok, codes, refl, true}
use Rattle.wac_types_shapes.specs.declared.primitives.component.PrimitiveType.TheVariants as p
use Rattle.wac_binary.specs.declared.types.ComponentValType.TheVariants.{Primitive, Index}
use Rattle.wac_binary.specs.declared.sorts.Sort.TheVariants as s
use Rattle.wac_binary.specs.declared.sorts.Description.TheVariants as e
use Rattle.wac_binary.specs.Items.{record_def, export_alias, outer_alias, value_def, func_def, component_def, instance_def, decls, type_decl, alias_decl, import_decl, export_decl}
use Rattle.wac_component.specs.Parts.{component_alias, component_part, instantiate_part, alias_part, type_part, import_part, export_part, parts}
use Rattle.wac_component.specs.Reading.{parts_of}
use Rattle.wac_component.proofs.Computing.{read}

-- outer-dep.wasm: 218 bytes
abbrev pub outer_dep_bytes : List ℕ
outer_dep_bytes = (codes "\0asm\r\0\u{1}\0\u{7}=\u{3}r\u{1}\u{1}a}B\u{4}\u{2}\u{3}\u{2}\u{1}\0\u{4}\0\u{1}t\u{3}\0\0\u{1}C\u{1}\u{1}x\u{1}\0\u{1}\u{4}\0\u{1}f\u{1}\u{2}A\u{3}\u{2}\u{3}\u{2}\u{1}\u{1}\u{3}\0\u{5}n:p/a\u{5}\0\u{4}\0\u{5}n:p/b\u{5}\0\n*\u{2}\0\u{1c}unlocked-dep=<x:y@{>=1.0.0}>\u{4}\u{2}\0\u{5}n:p/a\u{5}\u{1}\u{4}'\0asm\r\0\u{1}\0\u{6}\u{5}\u{1}\u{3}\u{2}\u{1}\u{1}\n\u{7}\u{1}\0\u{2}in\u{5}\0\u{b}\r\u{1}\0\u{5}n:p/c\u{5}\0\u{1}\u{5}\0\u{5}\u{c}\u{1}\0\0\u{1}\u{5}n:p/a\u{5}\0\u{6}\n\u{1}\u{5}\0\u{1}\u{5}n:p/b\u{5}\t\u{1}\0\u{1}\u{1}\u{2}in\u{5}\u{2}\u{6}\n\u{1}\u{5}\0\u{3}\u{5}n:p/c\u{b}\u{b}\u{1}\0\u{5}n:p/c\u{5}\u{4}\0")

pub outer_dep_parts : parts_of outer_dep_bytes ≡ Ok (parts ((type_part (value_def (record_def (((codes "a"), (Primitive p.U8)) ∷ [])))) ∷ (type_part (instance_def (decls ((alias_decl (outer_alias s.«Type» 1 0)) ∷ (export_decl (codes "t") (e.Equal 0)) ∷ (type_decl (func_def true (((codes "x"), (Index 1)) ∷ []) (Some (Index 1)))) ∷ (export_decl (codes "f") (e.Func 2)) ∷ [])))) ∷ (type_part (component_def (decls ((alias_decl (outer_alias s.«Type» 1 1)) ∷ (import_decl (codes "n:p/a") (e.Instance 0)) ∷ (export_decl (codes "n:p/b") (e.Instance 0)) ∷ [])))) ∷ (import_part (codes "unlocked-dep=<x:y@{>=1.0.0}>") (e.Component 2)) ∷ (import_part (codes "n:p/a") (e.Instance 1)) ∷ (component_part (parts ((alias_part (component_alias (outer_alias s.«Type» 1 1))) ∷ (import_part (codes "in") (e.Instance 0)) ∷ (export_part (codes "n:p/c") s.Instance 0 (Some (e.Instance 0))) ∷ []))) ∷ (instantiate_part 0 (((codes "n:p/a"), s.Instance, 0) ∷ [])) ∷ (alias_part (component_alias (export_alias s.Instance 1 (codes "n:p/b")))) ∷ (instantiate_part 1 (((codes "in"), s.Instance, 2) ∷ [])) ∷ (alias_part (component_alias (export_alias s.Instance 3 (codes "n:p/c")))) ∷ (export_part (codes "n:p/c") s.Instance 4 None) ∷ []))
unfolding read
outer_dep_parts = refl
