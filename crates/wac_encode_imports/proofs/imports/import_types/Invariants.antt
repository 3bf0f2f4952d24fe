use Rattle.std.proofs.Common.{◌≡◌, map, take}
use Rattle.wac_types_shapes.specs.shapes.Kinds.{kind_type}
use Rattle.wac_encode_imports.proofs.imports.import_types.Given as goal

abbrev pub invariant-loop-i : goal.invariant-loop-i
invariant-loop-i l = l.types.items ≡ map (λ e. kind_type e.1) (take l.i l.fn.imports)
