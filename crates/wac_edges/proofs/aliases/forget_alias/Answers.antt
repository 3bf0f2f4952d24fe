use Rattle.wac_edges.specs.declared.aliases.Aliases.{Aliases}
use Rattle.wac_edges.proofs.AliasLemmas.{noted_less, struck}
use Rattle.wac_edges.proofs.aliases.forget_alias.Goals as goal

pub returns : goal.returns
returns c source target i =
    let a = c.args.aliases.now in
    let new : Aliases = record a { firsts = c.empty_first.new.firsts; others = c.remove.new.self } in
    struck a new c.args.edge c.in-Alias.position c.in-Alias.is source target i c.empty_first.ensures.gone c.empty_first.ensures.other c.empty_first.ensures.others
    (noted_less a.others c.remove.new.self c.args.edge c.in-Alias.position c.in-Alias.is source target i (c.remove.ensures.updates.0 (source.0, i, target.0)))
