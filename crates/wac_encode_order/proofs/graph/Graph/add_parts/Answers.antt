use Rattle.std.proofs.Common.{ap, sym, subst, ◌∙◌, ◌≡◌, Some, length, arith}
use Rattle.std.specs.Prelude.{slice_get}
use Rattle.wac_types_collection.specs.reach.Reach.{IsIn}
use Rattle.wac_types_collection.proofs.lemmas.reach.Lists.{in_at}
use Rattle.wac_encode_order.proofs.Edging.{FromPart, adds-none, adds-next, part-adds, parts-add}
use Rattle.wac_encode_order.proofs.graph.Graph.add_parts.Goals as goal

pub parts_of-requires : goal.parts_of-requires
parts_of-requires c = c.requires.reached.held c.type_at.result (in_at c.type_at.result c.args.self.now.found.now c.args.place (ap (λ ts. slice_get ts c.args.place) (sym c.as_slice.ensures.types) ∙ c.type_at.ensures))

pub loop-i-init : goal.loop-i-init
loop-i-init c = adds-none c.args.edges.now (FromPart c.args.self.now.types.now c.args.self.now.items.now c.args.self.now.found.now c.in_ok-parts.parts.items c.args.place)

pub add_part-requires-clause-reached : goal.add_part-requires-clause-reached
add_part-requires-clause-reached c =
    let t = c.type_at.result in
    let ts = c.args.self.now.found.now in
    let at : slice_get ts c.args.place ≡ Some t = ap (λ ts. slice_get ts c.args.place) (sym c.as_slice.ensures.types) ∙ c.type_at.ensures in
    let there : slice_get c.in_ok-parts.parts.items c.loop-i.i ≡ Some c.type_at-part.result = ap (λ us. slice_get us c.loop-i.i) (sym c.as_slice-in-loop-i.ensures.value) ∙ c.type_at-part.ensures in
    c.requires.reached.parts t c.type_at-part.result (in_at t ts c.args.place at) (subst (IsIn c.type_at-part.result) c.in_ok-parts.ensures (in_at c.type_at-part.result c.in_ok-parts.parts.items c.loop-i.i there))

pub loop-i-preserved : goal.loop-i-preserved
loop-i-preserved c =
    let types = c.args.self.now.types.now in
    let es = c.args.self.now.items.now in
    let ts = c.args.self.now.found.now in
    let us = c.in_ok-parts.parts.items in
    let there : slice_get us c.loop-i.i ≡ Some c.type_at-part.result = ap (λ us. slice_get us c.loop-i.i) (sym c.as_slice-in-loop-i.ensures.value) ∙ c.type_at-part.ensures in
    adds-next c.args.edges.now c.loop-i.edges c.add_part.new.edges (FromPart types es ts us c.args.place) c.loop-i.i c.loop-i.invariant
    (part-adds types es ts us c.args.place c.loop-i.i c.type_at-part.result c.loop-i.edges c.add_part.new.edges there c.in_ok-add_part.ensures)

pub returns : goal.returns
returns c =
    let at : slice_get c.args.self.now.found.now c.args.place ≡ Some c.type_at.result = ap (λ ts. slice_get ts c.args.place) (sym c.as_slice.ensures.types) ∙ c.type_at.ensures in
    let whole : c.loop-i.i ≡ length c.in_ok-parts.parts.items = (let l = c.len-i-end.ensures in let f = c.loop-i-test.false in let m = c.loop-i.auto.i-end in omega (arith, l, f, m)) in
    parts-add c.args.self.now.types.now c.args.self.now.items.now c.args.self.now.found.now c.type_at.result c.in_ok-parts.parts.items c.args.place c.loop-i.i c.args.edges.now c.loop-i.edges at c.in_ok-parts.ensures whole c.loop-i.invariant
