use Rattle.std.specs.Prelude.{◌≡◌, ◌↔◌, ℕ, true, Contains, List}
use Rattle.std.proofs.lemmas.Result.{IfOk-weaker}
use Rattle.wac_types_shapes.specs.declared.shapes.component.Interface.{Interface}
use Rattle.wac_encode_order.specs.private.Interfaces.{IsInterfaceOrder, is_later_at}
use Rattle.wac_encode_order.proofs.Listing.{exports-held, of-interface}
use Rattle.wac_encode_order.proofs.Exporting.{position-each, position-once}
use Rattle.wac_encode_order.proofs.interface.interface_order.Goals as goal

pub order_items-requires : goal.order_items-requires
order_items-requires c = exports-held c.args.types.now c.law.ensures c.args.id c.index.result.now c.requires c.index.ensures

pub returns-clause-order : goal.returns-clause-order
returns-clause-order c = of-interface c.args.types.now c.args.id c.index.result.now (λ (it : Interface) (order : List ℕ). IsInterfaceOrder c.args.types.now it c.args.types_only order) c.index.ensures c.order_items.result c.order_items.ensures

pub returns-clause-each : goal.returns-clause-each
returns-clause-each c = of-interface c.args.types.now c.args.id c.index.result.now (λ (it : Interface) (order : List ℕ). (p : ℕ) → (Contains order p ↔ is_later_at c.args.types.now it c.args.types_only p ≡ true)) c.index.ensures c.order_items.result
    (IfOk-weaker c.order_items.result _ _ (λ o h. position-each c.args.types.now c.index.result.now c.args.types_only o.items h) c.order_items.ensures)

pub returns-clause-once : goal.returns-clause-once
returns-clause-once c = IfOk-weaker c.order_items.result _ _ (λ o h. position-once c.args.types.now c.index.result.now c.args.types_only o.items h) c.order_items.ensures
