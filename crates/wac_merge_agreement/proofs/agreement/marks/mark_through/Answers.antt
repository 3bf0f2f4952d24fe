use Rattle.std.proofs.Common.{◌≡◌, Bool, List, length, ap, sym, ◌∙◌, subst}
use Rattle.std.specs.Prelude.{slice_get}
use Rattle.wac_merge_tables.specs.private.tables.NodeViews.{node_view}
use Rattle.wac_merge_agreement.specs.private.agreement.Marks.{AreMarks, is_marked}
use Rattle.wac_merge_agreement.proofs.lemmas.agreement.Marking.{marks_next}
use Rattle.wac_merge_agreement.proofs.agreement.marks.mark_through.Goals as goal

pub loop-marks-preserved : goal.loop-marks-preserved
loop-marks-preserved c =
    let ns = c.args.nodes.now in
    let ms = c.loop-marks.marks.items in
    let n = node_view c.node-node.result.now in
    let count : length ms ≡ c.len-in-loop-marks.result = ap length (sym c.as_slice.ensures.value) ∙ c.as_slice.ensures.len ∙ sym c.len-in-loop-marks.ensures in
    let at = ap (slice_get ns) count ∙ c.node-node.ensures in
    let same = c.is_marked-mark.ensures ∙ ap (λ (xs : List Bool). is_marked xs n) c.as_slice.ensures.value in
    subst (AreMarks ns) (sym c.in_ok-push.ensures.items) (marks_next ns c.table_law.ensures ms c.loop-marks.invariant n at _ same)
