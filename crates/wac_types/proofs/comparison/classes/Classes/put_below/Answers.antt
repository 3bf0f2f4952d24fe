use Rattle.std.proofs.Common.{ap, ◌∙◌, arith, length}
use Rattle.indexmap.specs.Layout.{length-set_value_at}
use Rattle.wac_types.proofs.lemmas.comparison.Joining.{puts_below}
use Rattle.wac_types.proofs.comparison.classes.Classes.put_below.Goals as goal

pub set-requires-2 : goal.set-requires-2
set-requires-2 c = let e = ap length c.set.ensures ∙ length-set_value_at _ _ _ in omega (arith, c.requires.high, e)

pub returns : goal.returns
returns c = puts_below c.args.self.now.links.entries c.set.new.self.links.entries c.set-2.new.self.links.entries c.args.low c.args.high _ _ c.set.ensures c.set-2.ensures
