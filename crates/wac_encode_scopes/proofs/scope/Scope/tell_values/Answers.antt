use Rattle.std.proofs.Common.{◌≡◌, ◌≤◌, ◌+◌, suc, Bool, List, [], refl, ◌∙◌, subst, length, arith}
use Rattle.std.proofs.lemmas.List.{take_all}
use Rattle.wac_types_shapes.specs.primitives.Name.{Name}
use Rattle.wac_types_shapes.specs.declared.shapes.component.DefinedTypeId.{DefinedTypeId}
use Rattle.wac_types_shapes.specs.declared.shapes.component.ItemKind.{ItemKind}
use Rattle.wac_encode_scopes.specs.private.Closed.{is_closed_in}
use Rattle.wac_encode_scopes.specs.private.Telling.{exporting_values}
use Rattle.wac_encode_scopes.specs.private.Steps.{ScopeChanges}
use Rattle.wac_encode_scopes.proofs.Told.{exporting-none}
use Rattle.wac_encode_scopes.proofs.Telling.{changes-none, exporting-next}
use Rattle.wac_encode_scopes.proofs.scope.Scope.tell_values.Goals as goal

pub loop-i-init : goal.loop-i-init
loop-i-init c =
    let test : DefinedTypeId → Bool = is_closed_in c.args.told.now in
    record {
      recorded = changes-none c.args.merged (exporting_values c.args.types.now [] test c.args.instance) c.args.self.now (exporting-none c.args.types.now test c.args.instance);
      content = refl;
    }

pub loop-i-preserved : goal.loop-i-preserved
loop-i-preserved c =
    let it = c.args.interface.now in
    let x : Name × ItemKind = (c.entry_at.result.0.now, c.entry_at.result.1.now) in
    let one : c.loop-i.i + 1 ≡ suc c.loop-i.i = omega arith in
    record {
      recorded = exporting-next c.args.types.now (is_closed_in c.args.told.now) c.args.instance it.exports c.loop-i.i (c.loop-i.i + 1) x c.definition_to_tell-definition.result c.args.merged c.args.self.now c.loop-i.self c.tell_of.new.self one c.entry_at.ensures (c.definition_to_tell-definition.ensures x.0) c.loop-i.invariant.recorded c.in_ok-tell_of.ensures.recorded;
      content = c.tell_of.ensures.content ∙ c.loop-i.invariant.content;
    }

pub returns-in_err-tell_of-clause-content : goal.returns-in_err-tell_of-clause-content
returns-in_err-tell_of-clause-content c = c.tell_of.ensures.content ∙ c.loop-i.invariant.content

pub returns-clause-recorded : goal.returns-clause-recorded
returns-clause-recorded c =
    let it = c.args.interface.now in
    let past : length it.exports ≤ c.loop-i.i = (let f = c.loop-i-test.false in let n = c.len-i-end.ensures in omega (arith, f, n)) in
    subst (λ (l : List (Name × ItemKind)). ScopeChanges c.args.merged (exporting_values c.args.types.now l (is_closed_in c.args.told.now) c.args.instance) c.args.self.now c.loop-i.self) (take_all c.loop-i.i it.exports past) c.loop-i.invariant.recorded
