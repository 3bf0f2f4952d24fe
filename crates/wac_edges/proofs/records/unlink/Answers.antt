use Rattle.std.proofs.Common.{sym, ap, ◌∙◌}
use Rattle.slab.specs.Slab.{get}
use Rattle.wac_edges.specs.declared.records.Links.{Links}
use Rattle.wac_edges.specs.private.Records.{first_at, with_next}
use Rattle.wac_edges.proofs.TableLemmas.{unlinked_all, previous_there, next_there, first_there, first_within, changed_there}
use Rattle.wac_edges.proofs.records.unlink.Goals as goal

pub set_next-requires-clause-there : goal.set_next-requires-clause-there
set_next-requires-clause-there c =
    λ j h. previous_there (get c.args.records.now) (first_at c.args.end c.args.firsts.now) c.args.end c.requires.linked c.args.key c.index.result.now c.index.ensures j (sym (ap (λ (l : Links). l.previous) c.links-links.ensures) ∙ h)

pub set_next-requires-clause-node : goal.set_next-requires-clause-node
set_next-requires-clause-node c =
    λ none. first_within c.args.end c.args.firsts.now c.number-node.result c.args.key
    (ap (first_at c.args.end c.args.firsts.now) c.number-node.ensures ∙ first_there (get c.args.records.now) (first_at c.args.end c.args.firsts.now) c.args.end c.requires.linked c.args.key c.index.result.now c.index.ensures (sym (ap (λ (l : Links). l.previous) c.links-links.ensures) ∙ none))

pub set_previous-requires : goal.set_previous-requires
set_previous-requires c =
    λ j h. changed_there (with_next c.args.end c.links-links.result.next) c.links-links.result.previous (get c.args.records.now) (get c.set_next.new.records) c.set_next.ensures.records j
    (next_there (get c.args.records.now) (first_at c.args.end c.args.firsts.now) c.args.end c.requires.linked c.args.key c.index.result.now c.index.ensures j (sym (ap (λ (l : Links). l.next) c.links-links.ensures) ∙ h))

pub returns-clause-others : goal.returns-clause-others
returns-clause-others c =
    unlinked_all (get c.args.records.now) (first_at c.args.end c.args.firsts.now) c.args.end c.requires.linked c.args.key c.index.result.now c.index.ensures c.links-links.result c.number-node.result
    c.links-links.ensures c.number-node.ensures (get c.set_next.new.records) (get c.set_previous.new.records) (first_at c.args.end c.set_next.new.firsts)
    c.set_next.ensures.records c.set_previous.ensures.records c.set_next.ensures.firsts
