use Rattle.wac_merge_resources.proofs.lemmas.renaming.BecameWalks.{IsAround}
use Rattle.wac_merge_resources.proofs.renaming.became.Became.resource.Given as goal

abbrev pub invariant-outward : goal.invariant-outward
invariant-outward l = IsAround l.types l.self.parts.now l.self.bound.now l.self.bindings.now l.self.fresh.now l.start l.position l.resource

abbrev pub decreases-outward : goal.decreases-outward
decreases-outward l = l.position
