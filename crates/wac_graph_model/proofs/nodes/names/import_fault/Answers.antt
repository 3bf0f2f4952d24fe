use Rattle.wac_graph_model.proofs.lemmas.nodes.ExternNameLemmas.{real_fault}
use Rattle.wac_graph_model.proofs.nodes.names.import_fault.Goals as goal

pub returns-in_ok-but_memory-in-Err : goal.returns-in_ok-but_memory-in-Err
returns-in_ok-but_memory-in-Err c = real_fault c.args.name.now c.in-Err.fault c.in_ok-but_memory-in-Err.field-0 c.in-Err.ensures.fault c.in_ok-but_memory-in-Err.ensures.same c.in_ok-but_memory-in-Err.ensures.real
