use Rattle.std.proofs.Common.{ap, ◌∙◌}
use Rattle.wac_merge_classes.specs.terms.Became.{own_in}
use Rattle.wac_merge_classes.proofs.lemmas.terms.NewUnder.{new-under}
use Rattle.wac_merge_classes.proofs.terms.fresh.Fresh.at.Goals as goal

pub returns-in-len1 : goal.returns-in-len1
returns-in-len1 c =
    c.own_in.ensures ∙ ap (own_in c.args.self.now c.args.number) c.as_str.ensures.value
    ∙ new-under c.args.self.now c.args.number c.args.path.now c.name-item.result c.in-len1.len_at_least c.in-len1.len_below c.name-item.is
