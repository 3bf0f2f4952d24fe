use Rattle.std.proofs.Common.{ap, sym, ◌∙◌}
use Rattle.wac_edges.specs.Ends.{Walked}
use Rattle.wac_edges.proofs.AliasLemmas.{noting_start, noting_next, noting_done}
use Rattle.wac_edges.proofs.aliases.note_all.Goals as goal

pub loop-edge-init : goal.loop-edge-init
loop-edge-init c = (tt, tt, noting_start c.args.walk.left c.into_iter-edge-iterator.result.left c.args.aliases.now (ap (λ (w : Walked). w.left) c.into_iter-edge-iterator.ensures.into_iter_gives))

pub loop-edge-preserved : goal.loop-edge-preserved
loop-edge-preserved c =
    (tt, tt, noting_next c.args.walk.left c.loop-edge.edge-iterator.left c.next.new.self.left c.in-Some.edge c.args.aliases.now c.loop-edge.aliases c.note_alias.new.aliases c.in-Some.ensures.steps.0 c.loop-edge.invariant.2 c.in_ok-note_alias.ensures.ok)

pub returns-in_err-note_alias-clause-more : goal.returns-in_err-note_alias-clause-more
returns-in_err-note_alias-clause-more c source target i w = (c.loop-edge.invariant.2).more source target i (sym (c.in_err-note_alias.ensures.err source target i) ∙ w)

pub returns-in_err-note_alias-clause-kept : goal.returns-in_err-note_alias-clause-kept
returns-in_err-note_alias-clause-kept c source target i w = c.in_err-note_alias.ensures.err source target i ∙ (c.loop-edge.invariant.2).kept source target i w

pub returns-clause-more : goal.returns-clause-more
returns-clause-more c = (c.loop-edge.invariant.2).more

pub returns-clause-kept : goal.returns-clause-kept
returns-clause-kept c = (c.loop-edge.invariant.2).kept

pub returns-clause-all : goal.returns-clause-all
returns-clause-all c = noting_done c.args.walk.left c.loop-edge.edge-iterator.left c.args.aliases.now c.loop-edge.aliases c.in-None.ensures.steps.0.0 c.loop-edge.invariant.2
