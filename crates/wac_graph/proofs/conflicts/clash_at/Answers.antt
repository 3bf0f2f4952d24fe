use Rattle.std.proofs.Common.{◌∙◌, sym}
use Rattle.wac_graph_reader.proofs.lemmas.writing.ConflictLemmas.{clash_some, clash_none}
use Rattle.wac_graph.proofs.conflicts.clash_at.Goals as goal
use Rattle.wac_graph_model.specs.nodes.Nodes.{has_position}

pub returns-clause-some : goal.returns-clause-some
returns-clause-some c = clash_some (has_position c.args.satisfied.now) c.args.imports.now c.args.nodes.now.entries c.args.i c.name_at.result.now c.name_at.ensures (sym c.contains.ensures ∙ c.if-contains.false) c.copied.result (c.copied.ensures ∙ c.get.ensures.value)

pub returns-clause-none : goal.returns-clause-none
returns-clause-none c = clash_none (has_position c.args.satisfied.now) c.args.imports.now c.args.nodes.now.entries c.args.i c.name_at.result.now c.name_at.ensures c.copied.result (c.copied.ensures ∙ c.get.ensures.value)
