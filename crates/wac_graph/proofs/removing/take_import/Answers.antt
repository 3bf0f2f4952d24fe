use Rattle.wac_graph_fields.proofs.RemovedLemmas.{left_named}
use Rattle.wac_graph.proofs.removing.take_import.Goals as goal

pub returns-in-Import : goal.returns-in-Import
returns-in-Import c = left_named c.args.kind.now c.in-Import.name c.as_str.result.now c.args.imports.now.entries c.swap_remove.new.self.entries c.in-Import.is c.as_str.ensures.value c.swap_remove.ensures.updates.1 c.swap_remove.ensures.updates.3
