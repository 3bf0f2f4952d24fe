use Rattle.std.proofs.Common.{ℕ, length, Option, IfSome, sym, subst}
use Rattle.wac_types_collection.proofs.lemmas.collection.Steady.{within}
use Rattle.wac_encode_scopes.specs.private.Components.{DefinesModuleType}
use Rattle.wac_encode_scopes.specs.States.{Goes}
use Rattle.wac_encode_scopes.proofs.Stepped.{all-none, goes-none}
use Rattle.wac_encode_interfaces.specs.private.Paid.{module_cost}
use Rattle.wac_encode_interfaces.specs.private.Imports.{IsModuleAt}
use Rattle.wac_encode_interfaces.proofs.Written.{if-ok, ok-of}
use Rattle.wac_encode_interfaces.proofs.Importing.{module-goes, module-at}
use Rattle.wac_encode_interfaces.proofs.Answered.{exit-room, no-room-alone, pays-any, same-answer, up-to-answer}
use Rattle.wac_encode_interfaces.proofs.ModuleCosts.{module-bytes, module-room, unknown-cost}
use Rattle.std.specs.Prelude.{◌+◌, ◌*◌, ◌^◌, ◌≤◌, []}
use Rattle.wac_types_shapes.specs.declared.shapes.component.«Type».TheVariants as ty
use Rattle.wac_types_weight.specs.Weight.{own}
use Rattle.wac_binary.specs.Bytes.{module_bytes}
use Rattle.wac_encode_interfaces.proofs.writer.TypeWriter.core_module.Goals as goal

pub index-module-requires : goal.index-module-requires
index-module-requires c = within c.args.id.0 (length c.args.self.now.types.now.modules) c.requires.held

pub returns-in-Some-clause-goes : goal.returns-in-Some-clause-goes
returns-in-Some-clause-goes c = goes-none c.still_law.ensures c.args.self.now.merged c.args.state.now c.args.self.now.types.now

pub returns-in-Some-clause-is : goal.returns-in-Some-clause-is
returns-in-Some-clause-is c = subst (λ (o : Option ℕ). IfSome o (IsModuleAt c.args.self.now.types.now c.args.self.now.merged c.args.state.now c.args.id)) c.in-Some.is c.requires.known

pub returns-clause-goes : goal.returns-clause-goes
returns-clause-goes c =
    let t = c.args.self.now.types.now in
    let b = c.args.self.now.merged in
    ok-of (DefinesModuleType c.in_ok-written.written c.args.state.now c.define_module.new.self) (Goes t b c.args.state.now c.define_module.new.self) c.define_module.result
    (λ k defines. module-goes t b c.index-module.result.now c.in_ok-written.written c.args.state.now c.define_module.new.self k c.in_ok-written.ensures.means defines) c.define_module.ensures.defines

pub returns-clause-is : goal.returns-clause-is
returns-clause-is c =
    let t = c.args.self.now.types.now in
    let b = c.args.self.now.merged in
    if-ok (DefinesModuleType c.in_ok-written.written c.args.state.now c.define_module.new.self) (IsModuleAt t b c.define_module.new.self c.args.id) c.define_module.result
    (λ k defines. module-at c.module_law.ensures.holds_module t b c.args.id c.index-module.result.now c.in_ok-written.written c.args.state.now c.define_module.new.self k c.index-module.ensures c.requires.ready c.in_ok-written.ensures.means defines) c.define_module.ensures.defines

pub returns-in_err-written-clause-types : goal.returns-in_err-written-clause-types
returns-in_err-written-clause-types c = all-none c.args.state.now

pub returns-in-Some-clause-types : goal.returns-in-Some-clause-types
returns-in-Some-clause-types c = all-none c.args.state.now

pub returns-in-Some-clause-paid : goal.returns-in-Some-clause-paid
returns-in-Some-clause-paid c priced =
    pays-any c.args.self.now.types.now c.args.self.now.merged [] (module_cost c.args.self.now.types.now c.args.id c.args.known) c.args.state.now

pub returns-in_err-written-clause-paid : goal.returns-in_err-written-clause-paid
returns-in_err-written-clause-paid c priced =
    exit-room c.args.self.now.types.now c.args.self.now.merged [] (module_cost c.args.self.now.types.now c.args.id c.args.known) c.args.state.now c.args.state.now _ c.from_residual.result c.from_residual.ensures.1
    (λ is. no-room-alone c.args.self.now.types.now c.args.self.now.merged [] (module_cost c.args.self.now.types.now c.args.id c.args.known) c.args.state.now
    (subst (λ (n : ℕ). 2 ^ 32 ≤ n) (sym (unknown-cost c.args.self.now.types.now c.args.id c.args.known c.in_default.is)) (module-room c.args.self.now.types.now c.args.id c.index-module.result.now c.index-module.ensures _ is c.in_err-written.ensures.heavy)))

pub returns-clause-paid : goal.returns-clause-paid
returns-clause-paid c priced =
    let n = 11 + length (module_bytes c.in_ok-written.written) in
    same-answer c.args.self.now.types.now c.args.self.now.merged [] (34 * own c.args.self.now.types.now (ty.Module c.args.id)) (module_cost c.args.self.now.types.now c.args.id c.args.known) c.args.state.now c.define_module.new.self c.define_module.result (sym (unknown-cost c.args.self.now.types.now c.args.id c.args.known c.in_default.is))
    (up-to-answer c.args.self.now.types.now c.args.self.now.merged [] n (34 * own c.args.self.now.types.now (ty.Module c.args.id)) c.args.state.now c.define_module.new.self c.define_module.result
    (module-bytes c.args.self.now.types.now c.args.id c.index-module.result.now c.in_ok-written.written c.index-module.ensures c.in_ok-written.ensures.small)
    (c.define_module.ensures.paid c.args.self.now.types.now c.args.self.now.merged priced))
