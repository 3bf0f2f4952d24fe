use Rattle.std.proofs.Common.{sym, subst, ◌<◌, ℕ}
use Rattle.wac_encode_order.proofs.Lists.{within}
use Rattle.wac_encode_order.proofs.Naming.{names-none, names-here, named-in, unnamed-next, named-next}
use Rattle.wac_encode_order.proofs.graph.Graph.name_item.Goals as goal

pub returns-in_default : goal.returns-in_default
returns-in_default c =
    let types = c.args.self.now.types.now in
    let es = c.args.self.now.items.now in
    unnamed-next types es c.args.self.now.found.now c.args.position c.args.named.now (names-none types es c.args.position c.value_at.result.now c.type_named.result c.value_at.ensures c.type_named.ensures c.in_default.is) c.requires.named

pub node-requires : goal.node-requires
node-requires c =
    let types = c.args.self.now.types.now in
    let es = c.args.self.now.items.now in
    named-in types es c.args.self.now.found.now c.args.position c.in-Some.ty c.requires.reached (names-here types es c.args.position c.value_at.result.now c.type_named.result c.in-Some.ty c.value_at.ensures c.type_named.ensures c.in-Some.is)

pub name-requires : goal.name-requires
name-requires c = subst (λ (n : ℕ). c.node.result < n) (sym c.requires.named.long) (within c.args.self.now.found.now c.node.result c.in-Some.ty c.node.ensures.there)

pub returns : goal.returns
returns c =
    let types = c.args.self.now.types.now in
    let es = c.args.self.now.items.now in
    named-next types es c.args.self.now.found.now c.args.position c.in-Some.ty c.node.result c.args.named.now c.name.new.named
    (names-here types es c.args.position c.value_at.result.now c.type_named.result c.in-Some.ty c.value_at.ensures c.type_named.ensures c.in-Some.is)
    c.node.ensures.there c.node.ensures.alone c.requires.named c.name.ensures.long c.name.ensures.here c.name.ensures.others
