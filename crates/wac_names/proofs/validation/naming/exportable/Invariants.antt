use Rattle.std.proofs.Common.{ℕ, ◌<◌}
use Rattle.wac_names.specs.validation.Valid.{IsExportName, at}
use Rattle.wac_names.specs.private.validation.Views.{name_texts}
use Rattle.wac_names.proofs.validation.naming.exportable.Given as goal

abbrev pub invariant-loop-name : goal.invariant-loop-name
invariant-loop-name l = (k : ℕ) → k < l.name-index → IsExportName (at (name_texts l.names) k)
