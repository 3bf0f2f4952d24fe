use Rattle.std.proofs.Common.{◌≡◌, drop}
use Rattle.std.specs.List.{list_any}
use Rattle.wac_merge_tables.specs.private.tables.Nodes.{optionals}
use Rattle.wac_merge_tables.specs.private.tables.NodeViews.{named}
use Rattle.wac_merge_agreement.specs.private.agreement.ReachSteps.{flag_of}
use Rattle.wac_merge_agreement.proofs.agreement.flags.any_case.Given as goal

abbrev pub invariant-loop-case : goal.invariant-loop-case
invariant-loop-case l = list_any (flag_of l.flags) (optionals (named (drop l.case-index l.cases))) ≡ list_any (flag_of l.flags) (optionals (named l.cases))
