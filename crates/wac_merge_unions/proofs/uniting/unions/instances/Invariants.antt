use Rattle.std.proofs.Common.{◌≡◌, take}
use Rattle.wac_merge_classes.specs.terms.Unions.{instances_in}
use Rattle.wac_merge_unions.proofs.uniting.unions.instances.Given as goal

abbrev pub invariant-loop-index : goal.invariant-loop-index
invariant-loop-index l = l.instances.items ≡ instances_in (take l.index l.listed)
