use Rattle.std.proofs.Common.{ap, sym, subst, ◌∙◌, ◌<◌, ◌+◌, ◌≡◌, ℕ, Some, arith}
use Rattle.std.specs.Prelude.{slice_get}
use Rattle.wac_types_shapes.specs.declared.shapes.component.«Type».{«Type» as AnyType}
use Rattle.wac_types_collection.specs.collection.Aliases.{type_resolved}
use Rattle.wac_types_collection.specs.reach.Reach.{IsIn}
use Rattle.wac_encode_order.proofs.Lists.{within}
use Rattle.wac_encode_order.proofs.Edging.{on-ok, first-low, unnamed-adds, named-adds}
use Rattle.wac_encode_order.proofs.graph.Graph.add_part.Goals as goal

pub node-source-requires : goal.node-source-requires
node-source-requires c = subst (λ (t : AnyType). IsIn t c.args.self.now.found.now) (sym c.resolve.ensures) c.requires.reached

pub name_of-requires : goal.name_of-requires
name_of-requires c = subst (λ (n : ℕ). c.node-source.result < n) (sym c.requires.named.long) (within c.args.self.now.found.now c.node-source.result _ c.node-source.ensures.there)

pub overflow_add-count : goal.overflow_add-count
overflow_add-count c =
    let types = c.args.self.now.types.now in
    let t = type_resolved types c.args.part in
    let there : slice_get c.args.self.now.found.now c.node-source.result ≡ Some t = c.node-source.ensures.there ∙ ap Some c.resolve.ensures in
    let first = c.requires.named.first c.node-source.result t c.name_of.result there c.name_of.ensures in
    let low = first-low types c.args.self.now.items.now c.args.self.now.found.now c.in-Some.item t c.name_of.result first c.in-Some.is in
    let count = c.count.ensures in
    let room = c.requires.room in
    omega (arith, low, count, room)

pub returns-in-Some : goal.returns-in-Some
returns-in-Some c =
    let types = c.args.self.now.types.now in
    let es = c.args.self.now.items.now in
    let ts = c.args.self.now.found.now in
    let t = type_resolved types c.args.part in
    let there : slice_get ts c.node-source.result ≡ Some t = c.node-source.ensures.there ∙ ap Some c.resolve.ensures in
    let first = c.requires.named.first c.node-source.result t c.name_of.result there c.name_of.ensures in
    on-ok c.depend-in-Some.result
    (λ two. named-adds types es ts t c.node-source.result there (λ j at. c.node-source.ensures.alone j (at ∙ ap Some (sym c.resolve.ensures))) c.name_of.result first c.args.place c.in-Some.item (c.count.result + c.in-Some.item) c.in-Some.is (ap (λ (n : ℕ). n + c.in-Some.item) c.count.ensures) c.args.edges.now c.depend.new.edges c.depend-in-Some.new.edges c.in_ok-depend.ensures two)
    c.depend-in-Some.ensures

pub returns-in-None : goal.returns-in-None
returns-in-None c =
    let types = c.args.self.now.types.now in
    let es = c.args.self.now.items.now in
    let ts = c.args.self.now.found.now in
    let t = type_resolved types c.args.part in
    let there : slice_get ts c.node-source.result ≡ Some t = c.node-source.ensures.there ∙ ap Some c.resolve.ensures in
    let first = c.requires.named.first c.node-source.result t c.name_of.result there c.name_of.ensures in
    unnamed-adds types es ts t c.node-source.result there (λ j at. c.node-source.ensures.alone j (at ∙ ap Some (sym c.resolve.ensures))) c.name_of.result first c.args.place c.args.edges.now c.depend.new.edges c.in-None.is c.in_ok-depend.ensures
