use Rattle.std.proofs.Common.{◌≡◌, true, List, Contains, subst, sym, arith, slice_index_or}
use Rattle.wac_types_shapes.specs.declared.shapes.component.«Type».{«Type» as AnyType}
use Rattle.wac_types_collection.specs.collection.Collection.{Collection, holds_type}
use Rattle.wac_types_collection.proofs.lemmas.wide.Members.{at_in}
use Rattle.wac_edges.specs.Edge.{node_number}
use Rattle.wac_encode_scopes.specs.private.Closed.{AreClosedTypes}
use Rattle.wac_encode_interfaces.specs.private.Ready.{IsClean}
use Rattle.wac_encode_interfaces.specs.private.Worlds.{AreWorldTypes, HaveWorlds, written_in}
use Rattle.wac_graph_reader.proofs.lemmas.writing.WriteArgumentsLemmas.{element}
use Rattle.wac_graph_encode.proofs.lemmas.encoding.NeededLemmas.{RootsSoFar, no-roots-yet, roots-more, roots-all}
use Rattle.wac_encode_interfaces.specs.private.Paid.{AreSmallWorlds, IsHeavy}
use Rattle.wac_graph_encode.proofs.lemmas.encoding.RootCosts.{heavy-roots, heavy-exit, memory-exit}
use Rattle.wac_graph_encode.proofs.encoding.writer.node_worlds.Goals as goal

pub loop-n-init : goal.loop-n-init
loop-n-init c = subst (λ (xs : List AnyType). RootsSoFar c.args.reader.now c.args.define_components c.args.order.now 0 xs) (sym c.new-roots.ensures.items) (no-roots-yet c.args.reader.now c.args.define_components c.args.order.now)

pub push_roots-requires-clause-there : goal.push_roots-requires-clause-there
push_roots-requires-clause-there c =
    let n = slice_index_or c.args.order.now c.loop-n.n-index (node_number 0) in
    c.requires.nodes n (at_in c.args.order.now c.loop-n.n-index n (element c.args.order.now c.loop-n.n-index c.loop-n-test.true))

pub push_roots-requires-clause-faultless : goal.push_roots-requires-clause-faultless
push_roots-requires-clause-faultless c =
    let n = slice_index_or c.args.order.now c.loop-n.n-index (node_number 0) in
    c.requires.faultless n (at_in c.args.order.now c.loop-n.n-index n (element c.args.order.now c.loop-n.n-index c.loop-n-test.true))

pub loop-n-preserved : goal.loop-n-preserved
loop-n-preserved c =
    let n = slice_index_or c.args.order.now c.loop-n.n-index (node_number 0) in
    roots-more c.args.reader.now c.args.define_components c.args.order.now c.loop-n.n-index n c.loop-n.roots.items c.push_roots.new.found.items (element c.args.order.now c.loop-n.n-index c.loop-n-test.true) c.in_ok-push_roots.ensures c.loop-n.invariant

pub world_types-requires-clause-closed : goal.world_types-requires-clause-closed
world_types-requires-clause-closed c = subst (λ (x : Collection). AreClosedTypes x c.args.closed.now) (sym c.types.ensures) c.requires.closed

pub world_types-requires-clause-held : goal.world_types-requires-clause-held
world_types-requires-clause-held c = λ t h. subst (λ (x : Collection). holds_type x t ≡ true) (sym c.types.ensures) (c.loop-n.invariant.held t (subst (λ (xs : List AnyType). Contains xs t) c.as_slice.ensures.value h))

pub world_types-requires-clause-clean : goal.world_types-requires-clause-clean
world_types-requires-clause-clean c = λ t h. subst (λ (x : Collection). IsClean x t) (sym c.types.ensures) (c.loop-n.invariant.clean t (subst (λ (xs : List AnyType). Contains xs t) c.as_slice.ensures.value h))

pub returns-clause-written : goal.returns-clause-written
returns-clause-written c = subst (λ (x : Collection). AreWorldTypes x (written_in c.in_ok-worlds.worlds)) c.types.ensures c.in_ok-worlds.ensures.written

pub returns-clause-there : goal.returns-clause-there
returns-clause-there c =
    let ws = written_in c.in_ok-worlds.worlds in
    roots-all c.args.reader.now c.args.define_components c.args.order.now c.loop-n.n-index c.loop-n.roots.items ws (omega (arith, c.loop-n-test.false)) c.loop-n.invariant
    (λ t h. subst (λ (x : Collection). HaveWorlds x ws t) c.types.ensures (c.in_ok-worlds.ensures.there t (subst (λ (xs : List AnyType). Contains xs t) (sym c.as_slice.ensures.value) h)))

pub returns-clause-sizes : goal.returns-clause-sizes
returns-clause-sizes c = subst (λ (x : Collection). AreSmallWorlds x (written_in c.in_ok-worlds.worlds)) c.types.ensures c.in_ok-worlds.ensures.sizes

pub returns-in_err-push_roots-clause-heavy : goal.returns-in_err-push_roots-clause-heavy
returns-in_err-push_roots-clause-heavy c = memory-exit _ c.from_residual.result c.from_residual.ensures.1

pub returns-in_err-worlds-clause-heavy : goal.returns-in_err-worlds-clause-heavy
returns-in_err-worlds-clause-heavy c = heavy-exit (c.in_err-worlds.field-0).0 c.from_residual-in_err-worlds.result c.from_residual-in_err-worlds.ensures.1
    (λ large o. heavy-roots c.args.reader.now c.args.define_components c.args.order.now c.loop-n.n-index c.loop-n.roots.items c.loop-n.invariant (subst (λ (x : Collection). IsHeavy x c.loop-n.roots.items) c.types.ensures (subst (λ (xs : List AnyType). IsHeavy c.types.result.now xs) c.as_slice.ensures.value (c.in_err-worlds.ensures.small large))) o)
