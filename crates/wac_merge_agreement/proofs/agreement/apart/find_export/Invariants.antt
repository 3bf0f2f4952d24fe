use Rattle.std.proofs.Common.{◌-◌, ◌≤◌, length}
use Rattle.wac_merge_tables.specs.private.tables.NodeViews.{listed}
use Rattle.wac_merge_agreement.specs.private.agreement.Shapes.{AreBefore, AreBehind}
use Rattle.wac_merge_agreement.proofs.agreement.apart.find_export.Given as goal

abbrev pub invariant-loop-low : goal.invariant-loop-low
invariant-loop-low l = record {
  within : l.high ≤ length l.exports;
  before : AreBefore (listed l.exports) l.name l.low;
  behind : AreBehind (listed l.exports) l.name l.high;
}

abbrev pub decreases-loop-low : goal.decreases-loop-low
decreases-loop-low l = l.high - l.low
