use Rattle.wac_merge_imports.proofs.lemmas.unions.AssembledMerge.{roots-held}
use Rattle.wac_merge_imports.proofs.unions.merged.class_unions.Goals as goal

pub new-requires : goal.new-requires
new-requires c = rw c.as_slice.ensures.value (roots-held c.args.types.now c.args.entries.now c.in_ok-roots.roots.items c.in_ok-roots.ensures c.requires.held)

pub returns-clause-listed : goal.returns-clause-listed
returns-clause-listed c p x it at there = c.names_law.ensures.interfaces x.interface it there
