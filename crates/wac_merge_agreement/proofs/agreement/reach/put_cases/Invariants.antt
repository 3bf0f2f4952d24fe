use Rattle.std.proofs.Common.{◌≡◌, drop}
use Rattle.wac_merge_tables.specs.private.tables.Nodes.{optionals}
use Rattle.wac_merge_tables.specs.private.tables.NodeViews.{named}
use Rattle.wac_edges.specs.private.Arranging.{with_all}
use Rattle.wac_merge_agreement.proofs.agreement.reach.put_cases.Given as goal

abbrev pub invariant-loop-case : goal.invariant-loop-case
invariant-loop-case l = with_all l.numbers.keys (optionals (named (drop l.case-index l.cases))) ≡ with_all l.initial.numbers.keys (optionals (named l.cases))
