use Rattle.std.proofs.Common.{◌≡◌, Bool, List, length, ap, sym, ◌∙◌, subst, ◌||◌, is_some}
use Rattle.std.specs.Prelude.{slice_get}
use Rattle.std.specs.List.{list_any}
use Rattle.wac_merge_tables.specs.private.tables.NodeViews.{node_view}
use Rattle.wac_merge_agreement.specs.private.agreement.ReachSteps.{AreFlags, flag_of, node_class, parts}
use Rattle.wac_merge_agreement.proofs.lemmas.agreement.Flagging.{flags_next}
use Rattle.wac_merge_agreement.proofs.agreement.flags.flag_through.Goals as goal

pub loop-flags-preserved : goal.loop-flags-preserved
loop-flags-preserved c =
    let ns = c.args.nodes.now in
    let fs = c.loop-flags.flags.items in
    let n = node_view c.node-node.result.now in
    let count : length fs ≡ c.len-in-loop-flags.result = ap length (sym c.as_slice.ensures.value) ∙ c.as_slice.ensures.len ∙ sym c.len-in-loop-flags.ensures in
    let at = ap (slice_get ns) count ∙ c.node-node.ensures in
    let same = c.is_flagged-flag.ensures ∙ ap (λ (xs : List Bool). is_some (node_class n) || list_any (flag_of xs) (parts n)) c.as_slice.ensures.value in
    subst (AreFlags ns) (sym c.in_ok-push.ensures.items) (flags_next ns c.table_law.ensures fs c.loop-flags.invariant n at _ same)
