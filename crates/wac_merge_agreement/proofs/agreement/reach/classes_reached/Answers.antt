use Rattle.std.proofs.Common.{subst}
use Rattle.wac_merge_agreement.specs.private.agreement.ReachSteps.{AreReached}
use Rattle.wac_merge_agreement.proofs.lemmas.agreement.Flagging.{no_classes}
use Rattle.wac_merge_agreement.proofs.lemmas.agreement.Reaching.{none_left, first_reached, next_reached, fewer, all_reached}
use Rattle.wac_merge_agreement.proofs.agreement.reach.classes_reached.Goals as goal

pub loop-next-preserved : goal.loop-next-preserved
loop-next-preserved c =
    rw (c.in_ok-put_optional.ensures, c.node_class.ensures, c.in_ok-put_parts.ensures)
    (next_reached c.args.nodes.now c.table_law.ensures c.args.number c.in-Some.next _ c.node-node.ensures c.loop-next.classes.keys c.loop-next.pending.keys c.pop_last.new.self.keys c.in-Some.ensures.removal c.loop-next.invariant)

pub loop-next-smaller : goal.loop-next-smaller
loop-next-smaller c =
    rw (c.in_ok-put_parts.ensures)
    (fewer c.args.nodes.now c.table_law.ensures c.args.number c.in-Some.next _ c.node-node.ensures c.loop-next.classes.keys c.loop-next.pending.keys c.pop_last.new.self.keys c.in-Some.ensures.removal c.loop-next.invariant c.in-Some.ensures.all_below)

pub loop-next-init : goal.loop-next-init
loop-next-init c = rw (c.new-classes.ensures.empty, c.in_ok-put.ensures, c.new-pending.ensures.empty) (first_reached c.args.nodes.now c.args.number c.requires.there)

pub returns : goal.returns
returns c = all_reached c.args.nodes.now c.args.number c.loop-next.classes.keys
    (subst (λ ks. AreReached c.args.nodes.now c.args.number c.loop-next.classes.keys ks) (none_left c.loop-next.pending.keys c.in_default.ensures.variant.1) c.loop-next.invariant)

pub returns-then-not-flag_of : goal.returns-then-not-flag_of
returns-then-not-flag_of c = no_classes c.args.nodes.now c.args.flags.now c.requires.flags c.args.number c.requires.flagged c.if-not-flag_of.ensures c.new-classes.result.keys c.new-classes.ensures.empty
