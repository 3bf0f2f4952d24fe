use Rattle.wac_graph.proofs.BeginLemmas.{no_import_fault, placed_imports}
use Rattle.wac_graph.proofs.WithinLemmas.{imports_exit}
use Rattle.wac_graph.proofs.graph.CompositionGraph.begin.Goals as goal

pub write_imports-requires-clause-held : goal.write_imports-requires-clause-held
write_imports-requires-clause-held c = c.requires.merged.whole.held

pub write_imports-requires-clause-distinct : goal.write_imports-requires-clause-distinct
write_imports-requires-clause-distinct c = c.distinct_classes_law.ensures _ _ c.args.merge.merge c.requires.merged.whole.merge c.requires.merges.1

pub write_imports-requires-clause-clean : goal.write_imports-requires-clause-clean
write_imports-requires-clause-clean c = no_import_fault c.args.self.now c.law.ensures c.import_fault_law.ensures c.args.merge c.requires.kept c.requires.writable

pub returns-clause-placed : goal.returns-clause-placed
returns-clause-placed c = placed_imports c.args.self.now _ c.in_ok-state.field-0.state c.requires.merged c.in_ok-state.ensures.imported

pub returns-in_err-state-clause-too_large : goal.returns-in_err-state-clause-too_large
returns-in_err-state-clause-too_large c = imports_exit c.args.merge.merge (c.in_err-state.field-0).0 c.from_residual.result c.from_residual.ensures.1 c.in_err-state.ensures.small
