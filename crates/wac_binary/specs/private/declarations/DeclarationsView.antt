-- The value and the invariant of `Declarations`.
use Rattle.std.specs.Prelude.{List}
use Rattle.wac_binary.specs.Items.{Decl}
use Rattle.wac_binary.specs.private.declarations.WrittenDecls.{declarations, DeclState}
use Rattle.wac_binary.specs.declared.declarations.declarations.Declarations.TheInside.{Inside}

abbrev pub view : Inside → List Decl
view t = declarations t.written

abbrev pub IsWritten : Inside → Type 0
IsWritten t = DeclState (view t) t.bytes t.count t.counts
