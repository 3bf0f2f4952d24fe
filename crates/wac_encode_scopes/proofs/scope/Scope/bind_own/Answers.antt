use Rattle.std.proofs.Common.{◌≡◌, ◌≤◌, ◌+◌, suc, List, [], refl, ◌∙◌, subst, length, arith}
use Rattle.std.proofs.lemmas.List.{take_all}
use Rattle.wac_types_shapes.specs.primitives.Name.{Name}
use Rattle.wac_types_shapes.specs.declared.shapes.component.ItemKind.{ItemKind}
use Rattle.wac_encode_scopes.specs.private.Telling.{is_one_of, binding_own}
use Rattle.wac_encode_scopes.specs.private.Steps.{ScopeChanges}
use Rattle.wac_encode_scopes.proofs.Told.{binding-none}
use Rattle.wac_encode_scopes.proofs.Telling.{changes-none, binding-next}
use Rattle.wac_encode_scopes.proofs.scope.Scope.bind_own.Goals as goal

pub loop-i-init : goal.loop-i-init
loop-i-init c =
    let it = c.args.interface.now in
    let test = is_one_of c.args.own.now.keys in
    record {
      recorded = changes-none c.args.merged (binding_own c.args.types.now it.uses [] test c.args.instance) c.args.self.now (binding-none c.args.types.now it.uses test c.args.instance);
      content = refl;
    }

pub loop-i-preserved : goal.loop-i-preserved
loop-i-preserved c =
    let it = c.args.interface.now in
    let x : Name × ItemKind = (c.entry_at.result.0.now, c.entry_at.result.1.now) in
    let one : c.loop-i.i + 1 ≡ suc c.loop-i.i = omega arith in
    record {
      recorded = binding-next c.args.types.now it.uses (is_one_of c.args.own.now.keys) c.args.instance it.exports c.loop-i.i (c.loop-i.i + 1) x c.resource_of-resource.result c.args.merged c.args.self.now c.loop-i.self c.bind_to.new.self c.requires c.law.ensures one c.entry_at.ensures c.resource_of-resource.ensures c.loop-i.invariant.recorded c.in_ok-bind_to.ensures.recorded;
      content = c.bind_to.ensures.content ∙ c.loop-i.invariant.content;
    }

pub returns-in_err-bind_to-clause-content : goal.returns-in_err-bind_to-clause-content
returns-in_err-bind_to-clause-content c = c.bind_to.ensures.content ∙ c.loop-i.invariant.content

pub returns-clause-recorded : goal.returns-clause-recorded
returns-clause-recorded c =
    let it = c.args.interface.now in
    let past : length it.exports ≤ c.loop-i.i = (let f = c.loop-i-test.false in let n = c.len-i-end.ensures in omega (arith, f, n)) in
    subst (λ (l : List (Name × ItemKind)). ScopeChanges c.args.merged (binding_own c.args.types.now it.uses l (is_one_of c.args.own.now.keys) c.args.instance) c.args.self.now c.loop-i.self) (take_all c.loop-i.i it.exports past) c.loop-i.invariant.recorded
