use Rattle.std.specs.Prelude.{ℕ, ◌≡◌, ◌≤◌, ◌-◌, List, [], ◌++◌, length, take, Option, Some}
use Rattle.std.proofs.Common.{refl, ap, sym, subst, ◌∙◌}
use Rattle.wac_binary.specs.declared.types.ComponentValType.{ComponentValType}
use Rattle.wac_encode_scopes.proofs.Stepped.{goes-none, goes-both, all-both}
use Rattle.wac_encode_values.specs.declared.task.Task.{Task}
use Rattle.wac_encode_values.specs.private.Parts.{IsAdvanced, AreFirstParts, WaitsFor}
use Rattle.wac_encode_values.proofs.Waiting.{under-way-first, missing-step, missing-less, written-step, written-smaller, written-last}
use Rattle.wac_encode_scopes.proofs.Paying.{pays-nothing, priced-stays, memory-answer, exit-then}
use Rattle.wac_encode_values.proofs.Covered.{paid-step, task-covers}
use Rattle.wac_binary.specs.declared.fault.BinaryFault.TheVariants.{OutOfMemory}
use Rattle.wac_encode_values.proofs.encoder.ValueEncoder.write.Goals as goal

pub tasks-init : goal.tasks-init
tasks-init c = record {
  under_way = under-way-first c.args.self.now.types.now c.args.self.now.merged c.args.state.now c.args.id c.new-waiting.result.items c.new-task.result (goes-none c.still_law.ensures c.args.self.now.merged c.args.state.now c.args.self.now.types.now) c.requires.begin c.new-waiting.ensures.items c.new-task.ensures.id c.new-task.ensures.parts;
  paid = λ ts covers priced. pays-nothing c.args.self.now.types.now c.args.self.now.merged ts c.args.state.now;
}

pub advance-requires-clause-begin : goal.advance-requires-clause-begin
advance-requires-clause-begin c = c.tasks.invariant.under_way.begin

pub advance-requires-clause-parts : goal.advance-requires-clause-parts
advance-requires-clause-parts c = c.tasks.invariant.under_way.first

pub returns-in_err-missing-clause-types : goal.returns-in_err-missing-clause-types
returns-in_err-missing-clause-types c = all-both c.args.state.now c.tasks.state c.advance.new.state c.tasks.invariant.under_way.goes.types c.advance.ensures.types

pub returns-in_err-push-in-Missing-clause-types : goal.returns-in_err-push-in-Missing-clause-types
returns-in_err-push-in-Missing-clause-types c = all-both c.args.state.now c.tasks.state c.advance.new.state c.tasks.invariant.under_way.goes.types c.advance.ensures.types

pub returns-in_err-push-in-Written-clause-types : goal.returns-in_err-push-in-Written-clause-types
returns-in_err-push-in-Written-clause-types c = all-both c.args.state.now c.tasks.state c.advance.new.state c.tasks.invariant.under_way.goes.types c.advance.ensures.types

pub returns-in_default-clause-types : goal.returns-in_default-clause-types
returns-in_default-clause-types c = all-both c.args.state.now c.tasks.state c.advance.new.state c.tasks.invariant.under_way.goes.types c.advance.ensures.types

pub returns-in_default-clause-goes : goal.returns-in_default-clause-goes
returns-in_default-clause-goes c = goes-both c.step_law.ensures.follows c.args.self.now.types.now c.args.self.now.merged c.args.state.now c.tasks.state c.advance.new.state c.tasks.invariant.under_way.goes c.in_ok-missing.ensures.goes

pub returns-in_default-clause-written : goal.returns-in_default-clause-written
returns-in_default-clause-written c =
    let t = c.args.self.now.types.now in
    let b = c.args.self.now.merged in
    let rest : c.pop.new.self.items ≡ [] = c.in_default.ensures.rest ∙ ap (λ (k : ℕ). take (k - 1) c.tasks.waiting.items) c.in_default.ensures.cases.0 in
    let none : c.tasks.waiting.items ≡ [] = c.in_default.ensures.items ∙ ap (λ (ts : List Task). ts ++ []) rest in
    written-last t b c.args.state.now c.tasks.state c.advance.new.state c.args.id c.tasks.waiting.items c.tasks.task c.in-Written.written c.tasks.invariant.under_way none
    (subst (IsAdvanced t b c.advance.new.state c.tasks.task.id c.advance.new.parts.items) c.in-Written.is c.in_ok-missing.ensures.advanced)

pub tasks-smaller-in-Continue-branch-3 : goal.tasks-smaller-in-Continue-branch-3
tasks-smaller-in-Continue-branch-3 c =
    let t = c.args.self.now.types.now in
    let e = c.in-Missing.missing in
    let w = c.replace-outer.result in
    let u = c.replace-outer.new.dest in
    let kept : w.parts.items ≡ c.advance.new.parts.items = ap (λ (k : Task). k.parts.items) c.replace-outer.ensures.value in
    let a = subst (IsAdvanced t c.args.self.now.merged c.advance.new.state c.tasks.task.id c.advance.new.parts.items) c.in-Missing.is c.in_ok-missing.ensures.advanced in
    missing-less t c.law.ensures e c.tasks.waiting.items c.push.new.self.items c.tasks.task u w
    (subst (λ (ps : List (Option ComponentValType)). WaitsFor t c.tasks.task.id ps e) (sym kept) a.1)
    (subst (λ (ps : List (Option ComponentValType)). length c.tasks.task.parts.items ≤ length ps) (sym kept) c.in_ok-missing.ensures.longer)
    (ap (λ (k : Task). k.id) c.replace-outer.ensures.value) c.in_ok-push-in-Missing.ensures.items
    (ap (λ (k : Task). k.id) c.replace-outer.ensures.after ∙ c.new.ensures.id) (ap (λ (k : Task). k.parts.items) c.replace-outer.ensures.after ∙ c.new.ensures.parts)

pub tasks-preserved-in-Continue-branch-3 : goal.tasks-preserved-in-Continue-branch-3
tasks-preserved-in-Continue-branch-3 c =
    let t = c.args.self.now.types.now in
    let b = c.args.self.now.merged in
    let e = c.in-Missing.missing in
    let w = c.replace-outer.result in
    let u = c.replace-outer.new.dest in
    let kept : w.parts.items ≡ c.advance.new.parts.items = ap (λ (k : Task). k.parts.items) c.replace-outer.ensures.value in
    let a = subst (IsAdvanced t b c.advance.new.state c.tasks.task.id c.advance.new.parts.items) c.in-Missing.is c.in_ok-missing.ensures.advanced in
    record {
      under_way = missing-step c.bringing_law.ensures.good_once c.step_law.ensures.stays_is c.part_law.ensures.holds_parts c.step_law.ensures.follows t c.law.ensures b c.args.state.now c.tasks.state c.advance.new.state c.args.id e c.tasks.waiting.items c.push.new.self.items c.tasks.task u w
          c.tasks.invariant.under_way c.in_ok-missing.ensures.goes
          (subst (λ (ps : List (Option ComponentValType)). AreFirstParts t b c.advance.new.state c.tasks.task.id ps × WaitsFor t c.tasks.task.id ps e) (sym kept) a)
          (ap (λ (k : Task). k.id) c.replace-outer.ensures.value) c.in_ok-push-in-Missing.ensures.items
          (ap (λ (k : Task). k.id) c.replace-outer.ensures.after ∙ c.new.ensures.id) (ap (λ (k : Task). k.parts.items) c.replace-outer.ensures.after ∙ c.new.ensures.parts);
      paid = paid-step c.weight_law.ensures.covers_mention c.weight_law.ensures.covers_end t b c.args.state.now c.tasks.state c.advance.new.state c.args.id c.tasks.waiting.items c.tasks.task c.tasks.invariant.under_way c.tasks.invariant.paid c.in_ok-missing.ensures.paid;
    }

pub tasks-smaller : goal.tasks-smaller
tasks-smaller c =
    let u : Task = record { id = c.in-Some.outer.id; parts = c.push-in-Written.new.self } in
    written-smaller c.tasks.waiting.items c.pop.new.self.items c.tasks.task u c.in-Some.outer (Some c.in-Written.written) c.in-Some.ensures.items refl c.in_ok-push-in-Written.ensures.items

pub tasks-preserved : goal.tasks-preserved
tasks-preserved c =
    let t = c.args.self.now.types.now in
    let b = c.args.self.now.merged in
    let u : Task = record { id = c.in-Some.outer.id; parts = c.push-in-Written.new.self } in
    record {
      under_way = written-step c.bringing_law.ensures.good_once c.step_law.ensures.stays_is c.alias_law.ensures c.step_law.ensures.follows t c.law.ensures b c.args.state.now c.tasks.state c.advance.new.state c.args.id c.tasks.waiting.items c.pop.new.self.items c.tasks.task u c.in-Some.outer c.in-Written.written
          c.tasks.invariant.under_way c.in_ok-missing.ensures.goes
          (subst (IsAdvanced t b c.advance.new.state c.tasks.task.id c.advance.new.parts.items) c.in-Written.is c.in_ok-missing.ensures.advanced)
          c.in-Some.ensures.items refl c.in_ok-push-in-Written.ensures.items;
      paid = paid-step c.weight_law.ensures.covers_mention c.weight_law.ensures.covers_end t b c.args.state.now c.tasks.state c.advance.new.state c.args.id c.tasks.waiting.items c.tasks.task c.tasks.invariant.under_way c.tasks.invariant.paid c.in_ok-missing.ensures.paid;
    }

pub returns-in_err-missing-clause-paid : goal.returns-in_err-missing-clause-paid
returns-in_err-missing-clause-paid c ts covers priced =
    let t = c.args.self.now.types.now in
    let b = c.args.self.now.merged in
    exit-then t b ts 0 0 c.args.state.now c.tasks.state _ _ c.from_residual.result c.from_residual.ensures.1
    (c.tasks.invariant.paid ts covers priced)
    (c.in_err-missing.ensures.paid ts (task-covers c.weight_law.ensures.covers_mention c.weight_law.ensures.covers_end t b c.args.state.now c.tasks.state ts c.args.id c.tasks.waiting.items c.tasks.task c.tasks.invariant.under_way covers) (priced-stays b c.args.state.now c.tasks.state c.tasks.invariant.under_way.goes.types priced))

pub returns-in_err-push-in-Missing-clause-paid : goal.returns-in_err-push-in-Missing-clause-paid
returns-in_err-push-in-Missing-clause-paid c ts covers priced = memory-answer c.args.self.now.types.now c.args.self.now.merged ts 0 c.args.state.now _ OutOfMemory c.from_residual-in_err-push-in-Missing.result c.from_residual-in_err-push-in-Missing.ensures.1 refl

pub returns-in_err-push-in-Written-clause-paid : goal.returns-in_err-push-in-Written-clause-paid
returns-in_err-push-in-Written-clause-paid c ts covers priced = memory-answer c.args.self.now.types.now c.args.self.now.merged ts 0 c.args.state.now _ OutOfMemory c.from_residual-in_err-push-in-Written.result c.from_residual-in_err-push-in-Written.ensures.1 refl

pub returns-in_default-clause-paid : goal.returns-in_default-clause-paid
returns-in_default-clause-paid c = paid-step c.weight_law.ensures.covers_mention c.weight_law.ensures.covers_end c.args.self.now.types.now c.args.self.now.merged c.args.state.now c.tasks.state c.advance.new.state c.args.id c.tasks.waiting.items c.tasks.task c.tasks.invariant.under_way c.tasks.invariant.paid c.in_ok-missing.ensures.paid
