use Rattle.std.proofs.Common.{ap, ◌∙◌}
use Rattle.wac_merge_classes.specs.entries.Bindings.{first_from}
use Rattle.wac_merge_classes.proofs.lemmas.entries.ClassPaths.{are-bindings}
use Rattle.wac_merge_classes.proofs.entries.bindings.Bindings.new.Goals as goal

pub returns : goal.returns
returns c =
    are-bindings c.args.types.now c.args.entries.now c.in_ok-classes.classes.items c.in_ok-firsts.firsts.entries c.in_ok-classes.ensures.counted c.in_ok-classes.ensures.bound
    (λ r. c.in_ok-firsts.ensures r ∙ ap (λ l. first_from 0 l r) c.as_slice.ensures.value)
