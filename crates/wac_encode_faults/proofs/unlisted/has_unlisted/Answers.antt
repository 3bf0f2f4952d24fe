use Rattle.std.proofs.Common.{◌≡◌, Bool, true, false, IsTrue, refl, sym, ◌∙◌, ◌↔◌}
use Rattle.std.proofs.lemmas.Result.{IfOk-weaker}
use Rattle.wac_types_collection.specs.wide.Wide.{wide_uses_of_items}
use Rattle.wac_encode_faults.specs.Faults.{HasUnlisted}
use Rattle.wac_encode_faults.specs.private.Search.{HasOther}
use Rattle.wac_encode_faults.proofs.Dependencies.{imports_held, exports_held, from_uses, from_imports, by_exports_alone}
use Rattle.wac_encode_faults.proofs.unlisted.has_unlisted.Goals as goal

pub add_listed-requires : goal.add_listed-requires
add_listed-requires c = imports_held c.args.types.now c.law.ensures c.args.id c.requires c.index-world.result.now c.index-world.ensures

pub items_use_other-requires : goal.items_use_other-requires
items_use_other-requires c = imports_held c.args.types.now c.law.ensures c.args.id c.requires c.index-world.result.now c.index-world.ensures

pub add_listed-requires-2 : goal.add_listed-requires-2
add_listed-requires-2 c = exports_held c.args.types.now c.law.ensures c.args.id c.requires c.index-world.result.now c.index-world.ensures

pub items_use_other-requires-2 : goal.items_use_other-requires-2
items_use_other-requires-2 c = exports_held c.args.types.now c.law.ensures c.args.id c.requires c.index-world.result.now c.index-world.ensures

pub returns-then-uses_other : goal.returns-then-uses_other
returns-then-uses_other c =
    (λ t. from_uses c.args.types.now c.law.ensures c.args.id c.requires c.index-world.result.now c.index-world.ensures _ c.add_listed.new.listed.keys c.new-listed.ensures.empty c.in_ok-add_listed.ensures (c.uses_other.ensures.0 c.if-uses_other.true), λ h. refl)

pub returns-then-branch : goal.returns-then-branch
returns-then-branch c =
    (λ t. from_imports c.args.types.now c.law.ensures c.args.id c.requires c.index-world.result.now c.index-world.ensures _ c.add_listed.new.listed.keys c.new-listed.ensures.empty c.in_ok-add_listed.ensures (c.in_ok-items_use_other.ensures.0 c.if-branch.true), λ h. refl)

pub returns : goal.returns
returns c =
    let both = by_exports_alone c.args.types.now c.law.ensures c.args.id c.requires c.index-world.result.now c.index-world.ensures _ c.add_listed.new.listed.keys c.new-listed.ensures.empty c.in_ok-add_listed.ensures
    c.add_listed-2.new.listed.keys c.in_ok-add_listed-2.ensures
    (λ h. let wrong : false ≡ true = sym c.if-uses_other.false ∙ c.uses_other.ensures.1 h in cc)
    (λ h. let wrong : false ≡ true = sym c.if-branch.false ∙ c.in_ok-items_use_other.ensures.1 h in cc) in
    IfOk-weaker c.items_use_other-2.result (λ (b : Bool). IsTrue b ↔ HasOther c.add_listed-2.new.listed.keys (wide_uses_of_items c.args.types.now c.index-world.result.now.exports)) (λ (b : Bool). IsTrue b ↔ HasUnlisted c.args.types.now c.args.id)
    (λ b decided. (λ t. both.0 (decided.0 t), λ h. decided.1 (both.1 h)))
    c.items_use_other-2.ensures
