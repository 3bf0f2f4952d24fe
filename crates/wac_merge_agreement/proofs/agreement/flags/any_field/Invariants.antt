use Rattle.std.proofs.Common.{◌≡◌, drop}
use Rattle.std.specs.List.{list_any}
use Rattle.wac_merge_tables.specs.private.tables.Nodes.{seconds}
use Rattle.wac_merge_tables.specs.private.tables.NodeViews.{named}
use Rattle.wac_merge_agreement.specs.private.agreement.ReachSteps.{flag_of}
use Rattle.wac_merge_agreement.proofs.agreement.flags.any_field.Given as goal

abbrev pub invariant-loop-field : goal.invariant-loop-field
invariant-loop-field l = list_any (flag_of l.flags) (seconds (named (drop l.field-index l.fields))) ≡ list_any (flag_of l.flags) (seconds (named l.fields))
