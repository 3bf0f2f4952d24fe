use Rattle.std.proofs.Common.{◌≡◌, Bool, true, false, IsTrue, refl, sym, ◌∙◌, ◌↔◌}
use Rattle.std.proofs.lemmas.Result.{IfOk-weaker}
use Rattle.wac_encode_faults.specs.Free.{HasUnboundItem}
use Rattle.wac_encode_faults.specs.private.Binding.{HasUnboundIn, sides_with}
use Rattle.wac_encode_faults.proofs.TypeItems.{from_import, by_exports_alone}
use Rattle.wac_encode_faults.proofs.sides.sides_have_unbound.Goals as goal

pub returns-then-branch : goal.returns-then-branch
returns-then-branch c = (
  λ t. from_import c.args.types.now c.args.uses.now c.args.imports.now c.args.additional.now.keys c.args.exports.now c.new-bound.result.keys c.add_bound.new.found.keys c.add_bound_additional.new.found.keys
      c.new-bound.ensures.empty c.in_ok-add_bound.ensures c.in_ok-add_bound_additional.ensures (c.in_ok-imports_have_unbound.ensures.0 c.if-branch.true),
  λ h. refl,
)

pub returns : goal.returns
returns c =
    let both = by_exports_alone c.args.types.now c.args.uses.now c.args.imports.now c.args.additional.now.keys c.args.exports.now c.new-bound.result.keys c.add_bound.new.found.keys c.add_bound_additional.new.found.keys
    c.new-bound.ensures.empty c.in_ok-add_bound.ensures c.in_ok-add_bound_additional.ensures c.add_bound-2.new.found.keys c.in_ok-add_bound-2.ensures
    (λ h. let wrong : false ≡ true = sym c.if-branch.false ∙ c.in_ok-imports_have_unbound.ensures.1 h in cc) in
    IfOk-weaker c.have_unbound.result (λ (b : Bool). IsTrue b ↔ HasUnboundIn c.args.types.now c.args.exports.now c.add_bound-2.new.found.keys)
    (λ (b : Bool). IsTrue b ↔ HasUnboundItem c.args.types.now (sides_with c.args.types.now c.args.uses.now c.args.imports.now c.args.additional.now.keys c.args.exports.now))
    (λ b decided. (λ t. both.0 (decided.0 t), λ h. decided.1 (both.1 h)))
    c.have_unbound.ensures
