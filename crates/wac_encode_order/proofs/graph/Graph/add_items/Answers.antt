use Rattle.std.proofs.Common.{subst, ◌≡◌, ℕ, length, arith}
use Rattle.wac_encode_order.specs.private.Graph.{Adds, Below, ItemComesAfter}
use Rattle.wac_encode_order.proofs.Edging.{adds-none, adds-next}
use Rattle.wac_encode_order.proofs.graph.Graph.add_items.Goals as goal

pub loop-position-init : goal.loop-position-init
loop-position-init c = adds-none c.args.edges.now (ItemComesAfter c.args.self.now.types.now c.args.self.now.items.now c.args.self.now.found.now)

pub loop-position-preserved : goal.loop-position-preserved
loop-position-preserved c = adds-next c.args.edges.now c.loop-position.edges c.add_item.new.edges (ItemComesAfter c.args.self.now.types.now c.args.self.now.items.now c.args.self.now.found.now) c.loop-position.position c.loop-position.invariant c.in_ok-add_item.ensures

pub returns : goal.returns
returns c =
    let whole : c.loop-position.position ≡ length c.args.self.now.items.now = (let l = c.len-position-end.ensures in let f = c.loop-position-test.false in let m = c.loop-position.auto.position-end in omega (arith, l, f, m)) in
    subst (λ (n : ℕ). Adds c.args.edges.now c.loop-position.edges (λ a b. Below n (λ p. ItemComesAfter c.args.self.now.types.now c.args.self.now.items.now c.args.self.now.found.now p a b))) whole c.loop-position.invariant
