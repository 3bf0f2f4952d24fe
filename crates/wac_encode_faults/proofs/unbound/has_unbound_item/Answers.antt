use Rattle.std.proofs.Common.{◌≡◌, Bool, true, false, Some, IsTrue, refl, sym, ◌∙◌, ◌↔◌}
use Rattle.std.proofs.lemmas.Result.{IfOk-weaker}
use Rattle.wac_types_shapes.specs.declared.shapes.component.World.{World}
use Rattle.wac_types_collection.specs.collection.Collection.{item_at}
use Rattle.wac_encode_faults.specs.Free.{HasUnboundItem}
use Rattle.wac_encode_faults.specs.Sides.{world_sides}
use Rattle.wac_encode_faults.specs.private.Binding.{HasUnboundIn}
use Rattle.wac_encode_faults.proofs.Binding.{from_imports, by_exports_alone, world_same}
use Rattle.wac_encode_faults.proofs.Dependencies.{imports_held, exports_held}
use Rattle.wac_encode_faults.proofs.unbound.has_unbound_item.Goals as goal

pub add_bound-requires : goal.add_bound-requires
add_bound-requires c = imports_held c.args.types.now c.law.ensures c.args.id c.requires c.index-world.result.now c.index-world.ensures

pub have_unbound-requires : goal.have_unbound-requires
have_unbound-requires c = imports_held c.args.types.now c.law.ensures c.args.id c.requires c.index-world.result.now c.index-world.ensures

pub add_bound-requires-2 : goal.add_bound-requires-2
add_bound-requires-2 c = exports_held c.args.types.now c.law.ensures c.args.id c.requires c.index-world.result.now c.index-world.ensures

pub have_unbound-requires-2 : goal.have_unbound-requires-2
have_unbound-requires-2 c = exports_held c.args.types.now c.law.ensures c.args.id c.requires c.index-world.result.now c.index-world.ensures

pub returns-then-branch : goal.returns-then-branch
returns-then-branch c x at =
    world_same c.args.types.now c.index-world.result.now x (item_at c.args.types.now.worlds c.args.id.0) true c.index-world.ensures at (
      λ t. from_imports c.args.types.now c.index-world.result.now c.new-bound.result.keys c.add_bound.new.found.keys c.new-bound.ensures.empty c.in_ok-add_bound.ensures (c.in_ok-have_unbound.ensures.0 c.if-branch.true),
      λ h. refl,
    )

pub returns : goal.returns
returns c =
    let both = by_exports_alone c.args.types.now c.index-world.result.now c.new-bound.result.keys c.add_bound.new.found.keys c.new-bound.ensures.empty c.in_ok-add_bound.ensures c.add_bound-2.new.found.keys c.in_ok-add_bound-2.ensures
    (λ h. let wrong : false ≡ true = sym c.if-branch.false ∙ c.in_ok-have_unbound.ensures.1 h in cc) in
    IfOk-weaker c.have_unbound-2.result (λ (b : Bool). IsTrue b ↔ HasUnboundIn c.args.types.now c.index-world.result.now.exports c.add_bound-2.new.found.keys)
    (λ (b : Bool). (x : World) → item_at c.args.types.now.worlds c.args.id.0 ≡ Some x → IsTrue b ↔ HasUnboundItem c.args.types.now (world_sides x))
    (λ b decided x at. world_same c.args.types.now c.index-world.result.now x (item_at c.args.types.now.worlds c.args.id.0) b c.index-world.ensures at (λ t. both.0 (decided.0 t), λ h. decided.1 (both.1 h)))
    c.have_unbound-2.ensures
