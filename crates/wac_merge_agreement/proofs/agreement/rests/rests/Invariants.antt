use Rattle.std.proofs.Common.{◌≡◌, ℕ, length, map}
use Rattle.std.specs.Prelude.{◌↔◌}
use Rattle.wac_edges.specs.cycles.Cycles.{IsStep}
use Rattle.wac_merge_classes.specs.entries.Classes.{by_names, class_names}
use Rattle.wac_merge_tables.specs.private.tables.NodeViews.{item_view}
use Rattle.wac_merge_agreement.specs.private.agreement.ReachSteps.{AreFlags}
use Rattle.wac_merge_agreement.specs.private.agreement.Resting.{EntryLeads}
use Rattle.wac_merge_agreement.proofs.agreement.rests.rests.Given as goal

abbrev pub invariant-loop-i : goal.invariant-loop-i
invariant-loop-i l = record {
  counted : length l.rests.items ≡ length (class_names by_names l.entries);
  flags : AreFlags l.nodes l.flags.items;
  leads : (a b : ℕ) → IsStep l.rests.items a b ↔ EntryLeads l.nodes l.types l.entries (map item_view l.items) l.classes.numbers.items l.classes.names l.bindings l.i a b;
}
