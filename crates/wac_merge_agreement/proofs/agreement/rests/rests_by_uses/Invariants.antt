use Rattle.std.proofs.Common.{◌≡◌, ℕ, length}
use Rattle.std.specs.Prelude.{◌↔◌}
use Rattle.wac_edges.specs.cycles.Cycles.{IsStep}
use Rattle.wac_merge_classes.specs.entries.Classes.{by_names, class_names}
use Rattle.wac_merge_agreement.proofs.lemmas.agreement.RestUses.{UsesLead}
use Rattle.wac_merge_agreement.proofs.agreement.rests.rests_by_uses.Given as goal

abbrev pub invariant-loop-i : goal.invariant-loop-i
invariant-loop-i l = record {
  counted : length l.rests.items ≡ length (class_names by_names l.entries);
  leads : (a b : ℕ) → IsStep l.rests.items a b ↔ UsesLead l.types l.entries l.classes.numbers.items l.classes.names l.i a b;
}
