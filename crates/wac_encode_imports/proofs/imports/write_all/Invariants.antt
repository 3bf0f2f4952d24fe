use Rattle.wac_encode_imports.specs.private.Modules.{AreModulesAt, module_index}
use Rattle.wac_encode_imports.specs.private.Small.{AreFirstWithin}
use Rattle.wac_encode_imports.specs.private.Written.{merge_of, AreWritten}
use Rattle.wac_encode_imports.proofs.imports.write_all.Given as goal

abbrev pub invariant-loop-i : goal.invariant-loop-i
invariant-loop-i l = AreWritten (merge_of l.fn.writer l.fn.imports) l.i l.places.items l.state × AreModulesAt l.fn.writer l.state (module_index l.modules) × AreFirstWithin (merge_of l.fn.writer l.fn.imports) l.i (module_index l.modules) l.state
