use Rattle.std.proofs.Common.{◌≡◌, ◌++◌, take}
use Rattle.wac_binary.specs.Indexes.{function_types}
use Rattle.wac_modules.specs.private.Declarations.{import_of, export_of, in_order}
use Rattle.wac_modules.proofs.Limited.{Limited}
use Rattle.wac_modules.proofs.writer.module_type.Given as goal

abbrev pub invariant-loop-i : goal.invariant-loop-i
invariant-loop-i l = (l.written ≡ in_order import_of 0 (take l.i l.held.imports)) × Limited (take l.i l.held.imports)

abbrev pub invariant-loop-j : goal.invariant-loop-j
invariant-loop-j l =
    (l.written ≡ in_order import_of 0 l.held.imports ++ in_order export_of (function_types (in_order import_of 0 l.held.imports)) (take l.j l.held.exports)) ×
    Limited l.held.imports × Limited (take l.j l.held.exports)
