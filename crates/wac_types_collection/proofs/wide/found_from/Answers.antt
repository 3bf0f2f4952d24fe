use Rattle.std.proofs.Common.{reverse, ap, ◌∙◌, subst, flat_map, Contains}
use Rattle.wac_types_collection.specs.wide.Wide.{wide_uses, with_each}
use Rattle.wac_types_collection.proofs.lemmas.wide.Members.{in_none}
use Rattle.wac_types_collection.proofs.wide.found_from.Goals as goal

pub walk-requires-clause-whole : goal.walk-requires-clause-whole
walk-requires-clause-whole c = λ v k h. absurd (in_none v (subst (λ l. Contains l v) c.new-seen.ensures.empty h))

pub walk-requires-clause-seen : goal.walk-requires-clause-seen
walk-requires-clause-seen c = λ v h. absurd (in_none v (subst (λ l. Contains l v) c.new-seen.ensures.empty h))

pub returns : goal.returns
returns c = c.in_ok-walk.ensures.used ∙ ap (λ l. with_each l (flat_map (wide_uses c.args.types.now) (reverse c.args.pending.items))) c.new-used.ensures.empty
