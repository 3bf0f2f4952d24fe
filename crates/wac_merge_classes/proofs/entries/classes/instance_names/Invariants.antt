use Rattle.std.proofs.Common.{take}
use Rattle.wac_merge_classes.specs.private.entries.Numbering.{AreInstances}
use Rattle.wac_merge_classes.proofs.entries.classes.instance_names.Given as goal

abbrev pub invariant-loop-entry : goal.invariant-loop-entry
invariant-loop-entry l = AreInstances (take l.entry-index l.entries) l.names
