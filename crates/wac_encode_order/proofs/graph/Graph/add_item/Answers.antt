use Rattle.std.proofs.Common.{ap, sym, subst, ◌∙◌, ◌+◌, ℕ, Some}
use Rattle.wac_types_shapes.specs.declared.shapes.component.«Type».{«Type» as AnyType}
use Rattle.wac_types_collection.specs.reach.Reach.{IsIn}
use Rattle.wac_encode_order.proofs.Naming.{listed-here, listed-none, item-one}
use Rattle.wac_encode_order.proofs.Edging.{on-ok, item-none, item-adds}
use Rattle.wac_encode_order.proofs.graph.Graph.add_item.Goals as goal

pub returns-in_default : goal.returns-in_default
returns-in_default c = item-none c.args.self.now.types.now c.args.self.now.items.now c.args.self.now.found.now c.args.edges.now c.args.position (listed-none c.args.self.now.items.now c.args.position c.value_at.result.now c.listed_type.result c.value_at.ensures c.listed_type.ensures c.in_default.is)

pub node-source-requires : goal.node-source-requires
node-source-requires c =
    let item = listed-here c.args.self.now.items.now c.args.position c.value_at.result.now c.listed_type.result c.in-Some.ty c.value_at.ensures c.listed_type.ensures c.in-Some.is in
    subst (λ (t : AnyType). IsIn t c.args.self.now.found.now) (sym c.resolve.ensures) (c.requires.reached.items c.args.position c.in-Some.ty item)

pub returns : goal.returns
returns c =
    let types = c.args.self.now.types.now in
    let es = c.args.self.now.items.now in
    let ts = c.args.self.now.found.now in
    let item = listed-here es c.args.position c.value_at.result.now c.listed_type.result c.in-Some.ty c.value_at.ensures c.listed_type.ensures c.in-Some.is in
    on-ok c.depend.result
    (item-adds types es ts c.args.position c.node-source.result (c.count.result + c.args.position) c.in-Some.ty c.args.edges.now c.depend.new.edges item (λ s other. item-one es c.args.position c.in-Some.ty s item other)
    (c.node-source.ensures.there ∙ ap Some c.resolve.ensures) (λ j at. c.node-source.ensures.alone j (at ∙ ap Some (sym c.resolve.ensures))) (ap (λ (n : ℕ). n + c.args.position) c.count.ensures))
    c.depend.ensures
