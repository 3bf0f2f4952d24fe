-- The value and the invariant of `ModuleType`.
use Rattle.std.specs.Prelude.{List}
use Rattle.wac_binary.specs.Items.{ModuleDecl}
use Rattle.wac_binary.specs.private.declarations.WrittenModule.{declarations, ModuleState}
use Rattle.wac_binary.specs.declared.declarations.module_type.ModuleType.TheInside.{Inside}

abbrev pub view : Inside → List ModuleDecl
view t = declarations t.written

abbrev pub IsWritten : Inside → Type 0
IsWritten t = ModuleState (view t) t.bytes.items t.count t.types
