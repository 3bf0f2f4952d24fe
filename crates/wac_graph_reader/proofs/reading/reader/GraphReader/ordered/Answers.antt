use Rattle.wac_edges.specs.Edge.{is_left}
use Rattle.wac_edges.specs.Order.{Writes}
use Rattle.wac_graph_model.proofs.lemmas.meaning.OrderLemmas.{written_acyclic}
use Rattle.wac_graph_reader.proofs.lemmas.writing.MeansLemmas.{when_some, sound_now, ordered_now}
use Rattle.wac_graph_reader.specs.private.reading.Inside.{fields_of}
use Rattle.wac_graph_reader.proofs.reading.reader.GraphReader.ordered.Goals as goal

pub returns-in-Some-clause-whole : goal.returns-in-Some-clause-whole
returns-in-Some-clause-whole c =
    ordered_now (fields_of c.self.inside) c.self.invariant c.args.self.now c.self.view_is c.in_ok-seen.seen.left.items c.in-Some.order.items c.in_ok-seen.ensures.left
    (when_some c.in_ok-order.field-0 c.in-Some.order (λ ns. Writes ((fields_of c.self.inside)).edges (is_left c.in_ok-seen.seen.left.items) ns.items) c.in-Some.is c.in_ok-order.ensures.whole)

pub returns-in-Some-clause-acyclic : goal.returns-in-Some-clause-acyclic
returns-in-Some-clause-acyclic c =
    written_acyclic c.args.self.now (sound_now (fields_of c.self.inside) c.self.invariant c.args.self.now c.self.view_is) c.in-Some.order.items
    (ordered_now (fields_of c.self.inside) c.self.invariant c.args.self.now c.self.view_is c.in_ok-seen.seen.left.items c.in-Some.order.items c.in_ok-seen.ensures.left
    (when_some c.in_ok-order.field-0 c.in-Some.order (λ ns. Writes ((fields_of c.self.inside)).edges (is_left c.in_ok-seen.seen.left.items) ns.items) c.in-Some.is c.in_ok-order.ensures.whole))
