use Rattle.wac_encode_imports.specs.private.Imports.{AreImported}
use Rattle.wac_encode_imports.specs.declared.imports.WrittenImports.{WrittenImports}
use Rattle.wac_encode_tests.proofs.RootItems.{if-ok-is}
use Rattle.wac_encode_tests.proofs.RootMerges.{no-import-fault}
use Rattle.wac_encode_tests.proofs.merged.write_merge.Goals as goal

pub write_imports-requires-clause-finished : goal.write_imports-requires-clause-finished
write_imports-requires-clause-finished g c = c.requires.merge.finished

pub write_imports-requires-clause-held : goal.write_imports-requires-clause-held
write_imports-requires-clause-held g c = c.requires.merge.imports

pub write_imports-requires-clause-distinct : goal.write_imports-requires-clause-distinct
write_imports-requires-clause-distinct g c = c.distinct_classes_law.ensures _ _ (c.args.merge.now).merge c.requires.merge.merged c.requires.merge.ordered

pub write_imports-requires-clause-before : goal.write_imports-requires-clause-before
write_imports-requires-clause-before g c = c.requires.merge.before

pub write_imports-requires-clause-clean : goal.write_imports-requires-clause-clean
write_imports-requires-clause-clean g c = no-import-fault c.import_fault_law.ensures c.args.types.now c.args.merge.now c.requires.merge c.requires.faultless

pub returns : goal.returns
returns g c = if-ok-is (λ (w : WrittenImports). AreImported (c.args.merge.now).merge w.places.items w.state) c.write_imports.result c.expect.result c.expect.ensures c.write_imports.ensures.imported
