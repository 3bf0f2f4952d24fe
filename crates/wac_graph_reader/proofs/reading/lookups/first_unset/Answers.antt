use Rattle.std.proofs.Common.{◌-◌, ◌∙◌, arith}
use Rattle.wac_graph_reader.proofs.lemmas.writing.ImportRows.{skipped_to, found, none_left, entry_by}
use Rattle.wac_graph_reader.proofs.reading.lookups.first_unset.Goals as goal
use Rattle.wac_graph_model.specs.nodes.Nodes.{has_position}

pub returns-in_err-i : goal.returns-in_err-i
returns-in_err-i c =
    let inside = has_position c.args.satisfied.now in
    let imports = c.args.imports.now in
    rw c.from_residual.ensures (none_left inside imports c.args.from (λ i high low. c.in_err-i.ensures.none i high (omega (arith, low, c.len.ensures))))

pub returns : goal.returns
returns c =
    let inside = has_position c.args.satisfied.now in
    let imports = c.args.imports.now in
    let i = c.in_ok-i.i in
    let gap = c.in_ok-i.ensures.some in
    skipped_to inside imports (i - c.args.from) c.args.from i (omega (arith, gap.above)) (omega (arith, gap.below, c.len.ensures)) gap.before
    ∙ found inside imports i (c.name_at.result.now, c.value_at.result.now) (entry_by _ c.name_at.result.now c.value_at.result.now c.name_at.ensures c.value_at.ensures) gap.absent
