use Rattle.wac_graph_model.specs.nodes.ExternName.{unnamed}
use Rattle.wac_graph_model.proofs.lemmas.nodes.ExternNameLemmas.{real_fault, not_exportable}
use Rattle.wac_graph_model.proofs.nodes.names.export_fault.Goals as goal

pub returns-else-is_exportable : goal.returns-else-is_exportable
returns-else-is_exportable c = not_exportable c.args.name.now _ _ c.is_exportable.result c.in-Ok.ensures.ok.1 c.kind.ensures.value c.is_exportable.ensures c.if-is_exportable.false

pub returns-in_ok-but_memory-in-Err : goal.returns-in_ok-but_memory-in-Err
returns-in_ok-but_memory-in-Err c = unnamed (real_fault c.args.name.now c.in-Err.fault c.in_ok-but_memory-in-Err.field-0 c.in-Err.ensures.fault c.in_ok-but_memory-in-Err.ensures.same c.in_ok-but_memory-in-Err.ensures.real)
