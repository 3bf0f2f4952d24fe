use Rattle.std.proofs.Common.{◌≡◌, drop}
use Rattle.wac_merge_tables.specs.private.tables.Nodes.{seconds}
use Rattle.wac_merge_tables.specs.private.tables.NodeViews.{named}
use Rattle.wac_edges.specs.private.Arranging.{with_all}
use Rattle.wac_merge_agreement.proofs.agreement.reach.put_fields.Given as goal

abbrev pub invariant-loop-field : goal.invariant-loop-field
invariant-loop-field l = with_all l.numbers.keys (seconds (named (drop l.field-index l.fields))) ≡ with_all l.initial.numbers.keys (seconds (named l.fields))
