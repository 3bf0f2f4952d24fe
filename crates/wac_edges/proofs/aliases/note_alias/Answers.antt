use Rattle.std.proofs.Common.{Some, refl}
use Rattle.std.proofs.lemmas.Bool.{OnTrue_at, OnFalse_at}
use Rattle.wac_edges.specs.declared.aliases.Aliases.{Aliases}
use Rattle.wac_edges.proofs.AliasLemmas.{if_err, written, kept, noted_first, noted_kept, noted_more, noted_other}
use Rattle.wac_edges.proofs.aliases.note_alias.Goals as goal

pub returns-then-branch-clause-ok : goal.returns-then-branch-clause-ok
returns-then-branch-clause-ok c source target i =
    let a = c.args.aliases.now in
    let new : Aliases = record a { firsts = c.fill_first.new.firsts } in
    let (none, here) = OnTrue_at c.if-branch.true c.in_ok-fill_first.ensures.filled in
    noted_first a new c.args.edge c.in-Alias.position c.in-Alias.is source target i refl none
    (written a new c.args.edge c.in-Alias.position c.in-Alias.is source target i (Some c.args.edge.target.0) here c.fill_first.ensures.others)

pub returns-clause-ok : goal.returns-clause-ok
returns-clause-ok c source target i =
    let a = c.args.aliases.now in
    let new : Aliases = record a { firsts = c.fill_first.new.firsts; others = c.insert.new.self } in
    noted_other a new c.args.edge source target i (kept a new c.args.edge c.in-Alias.position c.in-Alias.is source target i (OnFalse_at c.if-branch.false c.in_ok-fill_first.ensures.not) c.fill_first.ensures.others)
    (noted_more a.others c.insert.new.self c.args.edge c.in-Alias.position c.in-Alias.is source target i (c.in_ok-insert.ensures.updates.0 (source.0, i, target.0)))

pub returns-in_err-fill_first-clause-err : goal.returns-in_err-fill_first-clause-err
returns-in_err-fill_first-clause-err c =
    let a = c.args.aliases.now in
    let new : Aliases = record a { firsts = c.fill_first.new.firsts } in
    if_err c.from_residual.result (λ source target i. noted_kept a new source target i (kept a new c.args.edge c.in-Alias.position c.in-Alias.is source target i c.in_err-fill_first.ensures.err c.fill_first.ensures.others) refl)

pub returns-in_err-insert-clause-err : goal.returns-in_err-insert-clause-err
returns-in_err-insert-clause-err c =
    let a = c.args.aliases.now in
    let new : Aliases = record a { firsts = c.fill_first.new.firsts; others = c.insert.new.self } in
    if_err c.from_residual-in_err-insert.result (λ source target i. noted_kept a new source target i (kept a new c.args.edge c.in-Alias.position c.in-Alias.is source target i (OnFalse_at c.if-branch.false c.in_ok-fill_first.ensures.not) c.fill_first.ensures.others) c.in_err-insert.ensures.err)
