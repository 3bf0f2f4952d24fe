use Rattle.std.proofs.Common.{None, refl}
use Rattle.slab.specs.Slab.{get}
use Rattle.wac_edges.specs.private.Records.{first_at}
use Rattle.wac_edges.proofs.TableLemmas.{linked_all}
use Rattle.wac_edges.proofs.records.link.Goals as goal

pub returns-clause-linked : goal.returns-clause-linked
returns-clause-linked c =
    linked_all (get c.args.records.now) (first_at c.args.end c.args.firsts.now) c.args.end c.args.key c.index.result.now c.index.ensures c.requires.others
    (record { previous = None; next = c.first-next.result }) c.number-node.result c.first-next.result refl c.number-node.ensures c.first-next.ensures
    (get c.set_links.new.records) (get c.set_previous.new.records) (first_at c.args.end c.set_first.new.firsts)
    c.set_links.ensures.records c.set_previous.ensures.records c.set_first.ensures.here
