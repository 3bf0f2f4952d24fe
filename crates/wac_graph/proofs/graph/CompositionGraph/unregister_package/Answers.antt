use Rattle.wac_graph_fields.proofs.RemovedLemmas.{tied_inside}
use Rattle.wac_graph_fields.proofs.UnregisteredLemmas.{noted_room, unregisters, invariant_unregistered}
use Rattle.wac_graph.specs.private.Inside.{fields_of}
use Rattle.wac_graph.proofs.graph.CompositionGraph.unregister_package.Goals as goal

pub take_owned-requires : goal.take_owned-requires
take_owned-requires c = tied_inside (fields_of c.self.inside) c.self.invariant

pub take_package-requires-clause-there : goal.take_package-requires-clause-there
take_package-requires-clause-there c = rw (← c.self.view_is) at c.requires

pub take_package-requires-clause-keyed : goal.take_package-requires-clause-keyed
take_package-requires-clause-keyed c = c.self.invariant.keyed

pub take_package-requires-clause-room : goal.take_package-requires-clause-room
take_package-requires-clause-room c = noted_room (fields_of c.self.inside) c.self.invariant c.args.«package» (rw (← c.self.view_is) at c.requires) c.self.inside.vacant.ok.0

pub invariant_of-self : goal.invariant_of-self
invariant_of-self c =
    invariant_unregistered (fields_of c.self.inside) c.self.invariant c.args.«package» (rw (← c.self.view_is) at c.requires) c.take_owned.new.nodes c.take_owned.new.edges c.take_owned.new.lost c.take_owned_exports.new.exports c.take_package.new.names c.take_package.new.slots c.take_package.new.vacant
    c.take_owned.ensures.taken c.take_owned.ensures.tied c.take_owned.ensures.marks c.take_owned_exports.ensures c.take_package.ensures.freed c.take_package.ensures.keyed c.take_package.ensures.capacity

pub returns : goal.returns
returns c =
    rw (← c.self.view_is)
    (unregisters (fields_of c.self.inside) c.self.invariant c.args.«package» (rw (← c.self.view_is) at c.requires) c.take_owned.new.nodes c.take_owned.new.edges c.take_owned.new.lost c.take_owned_exports.new.exports c.take_package.new.names c.take_package.new.slots c.take_package.new.vacant
    c.take_owned.ensures.taken c.take_owned.ensures.tied c.take_owned.ensures.marks c.take_owned_exports.ensures c.take_package.ensures.freed c.take_package.ensures.keyed c.take_package.ensures.capacity
    c.take_owned.ensures.highest c.take_owned.ensures.same)
