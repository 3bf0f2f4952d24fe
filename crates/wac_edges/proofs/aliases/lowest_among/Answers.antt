use Rattle.wac_edges.proofs.AliasLemmas.{none_at, none_first, if_none}
use Rattle.wac_edges.proofs.aliases.lowest_among.Goals as goal
use Rattle.wac_edges.proofs.aliases.lowest_among.Goals.{else-number-source-via-then-number-source+else-i-position, else-number-source-via-else-number-source}

pub returns-in_err-number-clause-none : goal.returns-in_err-number-clause-none
returns-in_err-number-clause-none c = if_none c.from_residual.result (none_at c.args.aliases.now c.args.source c.args.position c.range-noted.result (c.range-noted.ensures.in_range tt) c.in_err-number.ensures.steps.0)

pub returns-else-number-source-clause-none : goal.returns-else-number-source-clause-none
returns-else-number-source-clause-none c =
    none_first c.args.aliases.now c.args.source c.args.position c.range-noted.result c.next.new.self c.in_ok-number.field-0.now (c.range-noted.ensures.in_range tt) c.in_ok-number.ensures.steps
    (λ number position. elim c.else-number-source.branch [
      | else-number-source-via-then-number-source+else-i-position w ↦ w.if-i-position.false position
      | else-number-source-via-else-number-source w ↦ w.if-number-source.false number
    ])
