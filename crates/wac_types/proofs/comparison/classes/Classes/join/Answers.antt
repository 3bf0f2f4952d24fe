use Rattle.std.proofs.Common.{inl, inr}
use Rattle.wac_types.proofs.lemmas.comparison.Joining.{one_class, two_classes}
use Rattle.wac_types.proofs.comparison.classes.Classes.join.Goals as goal

pub returns-then-first-second : goal.returns-then-first-second
returns-then-first-second c = one_class _ _ _ c.args.a c.args.b _ _ _ _ c.position-first.ensures.adds c.position-second.ensures.adds c.top-first.ensures.leads c.top-second.ensures.leads c.if-first-second.true

pub returns-then-link : goal.returns-then-link
returns-then-link c = two_classes _ _ _ c.args.a c.args.b _ _ _ _ c.position-first.ensures.adds c.position-second.ensures.adds c.top-first.ensures.leads c.top-second.ensures.leads _ (inl c.put_below.ensures)

pub returns-else-link : goal.returns-else-link
returns-else-link c = two_classes _ _ _ c.args.a c.args.b _ _ _ _ c.position-first.ensures.adds c.position-second.ensures.adds c.top-first.ensures.leads c.top-second.ensures.leads _ (inr c.put_below-else-link.ensures)
