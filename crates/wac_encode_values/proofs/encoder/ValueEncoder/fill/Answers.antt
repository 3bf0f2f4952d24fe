use Rattle.std.specs.Prelude.{ℕ, ◌≡◌, ◌+◌, ◌<◌, ◌^◌, Some, None, slice_get, length}
use Rattle.std.proofs.Common.{sym, ◌∙◌, subst, arith}
use Rattle.wac_encode_scopes.specs.private.Parts.{parts}
use Rattle.wac_encode_scopes.proofs.Stepped.{goes-none, goes-both, all-both}
use Rattle.wac_encode_values.specs.private.Parts.{IsAdded}
use Rattle.wac_encode_values.proofs.Waiting.{filling-first, filling-ready, filling-step, filling-waits, fewer-parts, all-parts}
use Rattle.wac_encode_scopes.proofs.Paying.{pays-nothing, pays-both, priced-stays, exit-then}
use Rattle.wac_encode_values.proofs.Covered.{next-covers}
use Rattle.wac_encode_values.proofs.encoder.ValueEncoder.fill.Goals as goal

pub loop-part-init : goal.loop-part-init
loop-part-init c = record {
  filling = filling-first c.args.self.now.types.now c.args.self.now.merged c.args.state.now c.args.id c.args.parts.now.items (goes-none c.still_law.ensures c.args.self.now.merged c.args.state.now c.args.self.now.types.now) c.requires.parts;
  paid = λ ts covers priced. pays-nothing c.args.self.now.types.now c.args.self.now.merged ts c.args.state.now;
}

pub add-requires-clause-ready : goal.add-requires-clause-ready
add-requires-clause-ready c =
    let x = c.index.result.now in
    let n : c.len.result ≡ length c.loop-part.parts.items = (let o = c.loop-part.parts.ok.0 in let l = c.len.ensures in omega (arith, o, l)) in
    filling-ready c.part_law.ensures.holds_parts c.args.self.now.types.now c.law.ensures c.args.self.now.merged c.args.state.now c.loop-part.state c.args.id c.args.parts.now.items c.loop-part.parts.items x c.in-Some.part c.requires.begin c.loop-part.invariant.filling c.index.ensures
    (subst (λ (k : ℕ). slice_get (parts x) k ≡ Some c.in-Some.part) n (sym c.part_at.ensures.is ∙ c.in-Some.is))

pub loop-part-smaller : goal.loop-part-smaller
loop-part-smaller c =
    let x = c.index.result.now in
    let n : c.len.result ≡ length c.loop-part.parts.items = (let o = c.loop-part.parts.ok.0 in let l = c.len.ensures in omega (arith, o, l)) in
    let a = subst (IsAdded c.args.self.now.types.now c.args.self.now.merged c.add.new.state c.in-Some.part c.loop-part.parts.items c.add.new.parts.items) c.in_default-2.is c.in_ok-missing.ensures.added in
    fewer-parts c.args.self.now.types.now c.args.id x c.in-Some.part a.0 c.loop-part.parts.items c.add.new.parts.items c.index.ensures
    (subst (λ (k : ℕ). slice_get (parts x) k ≡ Some c.in-Some.part) n (sym c.part_at.ensures.is ∙ c.in-Some.is)) a.1

pub loop-part-preserved : goal.loop-part-preserved
loop-part-preserved c =
    let x = c.index.result.now in
    let n : c.len.result ≡ length c.loop-part.parts.items = (let o = c.loop-part.parts.ok.0 in let l = c.len.ensures in omega (arith, o, l)) in
    record {
      filling = filling-step c.bringing_law.ensures.good_once c.step_law.ensures.stays_is c.step_law.ensures.follows c.args.self.now.types.now c.args.self.now.merged c.args.state.now c.loop-part.state c.add.new.state c.args.id c.args.parts.now.items c.loop-part.parts.items c.add.new.parts.items x c.in-Some.part c.requires.begin c.loop-part.invariant.filling c.index.ensures
          (subst (λ (k : ℕ). slice_get (parts x) k ≡ Some c.in-Some.part) n (sym c.part_at.ensures.is ∙ c.in-Some.is)) c.in_ok-missing.ensures.goes
          (subst (IsAdded c.args.self.now.types.now c.args.self.now.merged c.add.new.state c.in-Some.part c.loop-part.parts.items c.add.new.parts.items) c.in_default-2.is c.in_ok-missing.ensures.added);
      paid = λ ts covers priced. pays-both c.args.self.now.types.now c.args.self.now.merged ts 0 0 c.args.state.now c.loop-part.state c.add.new.state (c.loop-part.invariant.paid ts covers priced) (c.in_ok-missing.ensures.paid ts (next-covers c.weight_law.ensures.covers_mention c.args.self.now.types.now ts c.args.id x (length c.loop-part.parts.items) c.in-Some.part c.index.ensures (subst (λ (k : ℕ). slice_get (parts x) k ≡ Some c.in-Some.part) n (sym c.part_at.ensures.is ∙ c.in-Some.is)) covers) (priced-stays c.args.self.now.merged c.args.state.now c.loop-part.state c.loop-part.invariant.filling.goes.types priced));
    }

pub returns-in_err-missing-clause-types : goal.returns-in_err-missing-clause-types
returns-in_err-missing-clause-types c = all-both c.args.state.now c.loop-part.state c.add.new.state c.loop-part.invariant.filling.goes.types c.add.ensures.types

pub returns-in-Some-2-clause-goes : goal.returns-in-Some-2-clause-goes
returns-in-Some-2-clause-goes c = goes-both c.step_law.ensures.follows c.args.self.now.types.now c.args.self.now.merged c.args.state.now c.loop-part.state c.add.new.state c.loop-part.invariant.filling.goes c.in_ok-missing.ensures.goes

pub returns-in-Some-2-clause-filled : goal.returns-in-Some-2-clause-filled
returns-in-Some-2-clause-filled c =
    let x = c.index.result.now in
    let n : c.len.result ≡ length c.loop-part.parts.items = (let o = c.loop-part.parts.ok.0 in let l = c.len.ensures in omega (arith, o, l)) in
    filling-waits c.bringing_law.ensures.good_once c.step_law.ensures.stays_is c.args.self.now.types.now c.args.self.now.merged c.args.state.now c.loop-part.state c.add.new.state c.args.id c.in-Some-2.missing c.args.parts.now.items c.loop-part.parts.items c.add.new.parts.items x c.in-Some.part c.requires.begin c.loop-part.invariant.filling c.index.ensures
    (subst (λ (k : ℕ). slice_get (parts x) k ≡ Some c.in-Some.part) n (sym c.part_at.ensures.is ∙ c.in-Some.is)) (subst (λ (k : ℕ). k + 1 < 2 ^ 64) n c.in-Some.ensures.small) c.in_ok-missing.ensures.goes
    (subst (IsAdded c.args.self.now.types.now c.args.self.now.merged c.add.new.state c.in-Some.part c.loop-part.parts.items c.add.new.parts.items) c.in-Some-2.is c.in_ok-missing.ensures.added)

pub returns-in-Some-2-clause-types : goal.returns-in-Some-2-clause-types
returns-in-Some-2-clause-types c = all-both c.args.state.now c.loop-part.state c.add.new.state c.loop-part.invariant.filling.goes.types c.add.ensures.types

pub returns-clause-filled : goal.returns-clause-filled
returns-clause-filled c =
    let x = c.index.result.now in
    let n : c.len.result ≡ length c.loop-part.parts.items = (let o = c.loop-part.parts.ok.0 in let l = c.len.ensures in omega (arith, o, l)) in
    all-parts c.args.self.now.types.now c.args.self.now.merged c.loop-part.state c.args.id x c.loop-part.parts.items c.index.ensures
    (subst (λ (k : ℕ). slice_get (parts x) k ≡ None) n (sym c.part_at.ensures.is ∙ c.in_default.is)) c.loop-part.invariant.filling.first

pub returns-in_err-missing-clause-paid : goal.returns-in_err-missing-clause-paid
returns-in_err-missing-clause-paid c ts covers priced =
    let x = c.index.result.now in
    let n : c.len.result ≡ length c.loop-part.parts.items = (let o = c.loop-part.parts.ok.0 in let l = c.len.ensures in omega (arith, o, l)) in
    exit-then c.args.self.now.types.now c.args.self.now.merged ts 0 0 c.args.state.now c.loop-part.state _ _ c.from_residual.result c.from_residual.ensures.1
    (c.loop-part.invariant.paid ts covers priced) (c.in_err-missing.ensures.paid ts (next-covers c.weight_law.ensures.covers_mention c.args.self.now.types.now ts c.args.id x (length c.loop-part.parts.items) c.in-Some.part c.index.ensures (subst (λ (k : ℕ). slice_get (parts x) k ≡ Some c.in-Some.part) n (sym c.part_at.ensures.is ∙ c.in-Some.is)) covers) (priced-stays c.args.self.now.merged c.args.state.now c.loop-part.state c.loop-part.invariant.filling.goes.types priced))

pub returns-in-Some-2-clause-paid : goal.returns-in-Some-2-clause-paid
returns-in-Some-2-clause-paid c ts covers priced =
    let x = c.index.result.now in
    let n : c.len.result ≡ length c.loop-part.parts.items = (let o = c.loop-part.parts.ok.0 in let l = c.len.ensures in omega (arith, o, l)) in
    pays-both c.args.self.now.types.now c.args.self.now.merged ts 0 0 c.args.state.now c.loop-part.state c.add.new.state (c.loop-part.invariant.paid ts covers priced) (c.in_ok-missing.ensures.paid ts (next-covers c.weight_law.ensures.covers_mention c.args.self.now.types.now ts c.args.id x (length c.loop-part.parts.items) c.in-Some.part c.index.ensures (subst (λ (k : ℕ). slice_get (parts x) k ≡ Some c.in-Some.part) n (sym c.part_at.ensures.is ∙ c.in-Some.is)) covers) (priced-stays c.args.self.now.merged c.args.state.now c.loop-part.state c.loop-part.invariant.filling.goes.types priced))

pub returns-clause-paid : goal.returns-clause-paid
returns-clause-paid c = c.loop-part.invariant.paid
