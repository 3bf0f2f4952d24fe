use Rattle.wac_edges.specs.declared.aliases.Aliases.{Aliases}
use Rattle.wac_edges.proofs.AliasLemmas.{noted_empty}
use Rattle.wac_edges.proofs.aliases.Aliases.new.Goals as goal

pub returns : goal.returns
returns c source target i = let new : Aliases = record { firsts = c.new.result; others = c.new-2.result; alloc = c.args.alloc } in noted_empty new c.new.ensures.empty c.new-2.ensures.empty source target i
