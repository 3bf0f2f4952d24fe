use Rattle.std.proofs.Common.{refl, sym, ◌∙◌, arith, length, ◌-◌, ◌+◌, ⊎_elim, inl, inr}
use Rattle.std.proofs.lemmas.Option.{slice_get_read}
use Rattle.wac_encode_scopes.specs.Books.{opened}
use Rattle.wac_encode_scopes.specs.States.{stack, named_in}
use Rattle.wac_encode_scopes.proofs.Outward.{place-found, place-none}
use Rattle.wac_encode_scopes.proofs.Looked.{found-before, passes-by-before, found-named, each-one, each-crossed, each-stopped, none-named, none-crossed}
use Rattle.wac_encode_scopes.proofs.state.State.find_named.Goals as goal

pub returns-in-Some-named-clause-found : goal.returns-in-Some-named-clause-found
returns-in-Some-named-clause-found c =
    let ss = c.args.self.now.around.items in
    let t = c.loop-left-test.true in
    let n = c.loop-left.invariant.counted in
    let at = slice_get_read ss (length ss) (c.loop-left.left - 1) c.index.result.now refl (omega (arith, t, n)) c.index.ensures in
    let w = place-found (named_in c.args.definition (opened c.args.merged c.index.result.now)) c.in-Some-named.index c.in-Some-named.is_type (sym c.named-in-loop-left.ensures ∙ c.in-Some-named.is) in (
      w.0,
      found-named c.args.definition (stack c.args.merged c.args.self.now) (c.loop-left.out + 1) w.0 (found-before c.args.merged (named_in c.args.definition) (opened c.args.merged c.args.self.now.here) ss c.loop-left.left c.loop-left.out c.index.result.now w.0 t n at w.1 c.loop-left.invariant.passed),
      w.2,
      ⊎_elim (λ closed. inl closed) (λ each. inr (each-crossed c.args.merged (opened c.args.merged c.args.self.now.here) ss c.loop-left.left c.loop-left.out t n each)) (c.loop-left.invariant.crossed c.if-not-crosses.false),
    )

pub returns-then-not-crosses-clause-none : goal.returns-then-not-crosses-clause-none
returns-then-not-crosses-clause-none c is = none-crossed c.args.merged c.args.is_closed c.args.definition (opened c.args.merged c.args.self.now.here) c.args.self.now.around.items c.loop-left.left c.loop-left.invariant.passed (c.loop-left.invariant.stopped c.if-not-crosses.true)

pub returns-clause-none : goal.returns-clause-none
returns-clause-none c is k w n x = none-named c.args.merged c.args.definition (opened c.args.merged c.args.self.now.here) c.args.self.now.around.items c.loop-left.left c.loop-left-test.false c.loop-left.invariant.passed k w n

pub loop-left-preserved : goal.loop-left-preserved
loop-left-preserved c =
    let ss = c.args.self.now.around.items in
    let o = opened c.args.merged c.args.self.now.here in
    let t = c.loop-left-test.true in
    let n = c.loop-left.invariant.counted in
    let at = slice_get_read ss (length ss) (c.loop-left.left - 1) c.index.result.now refl (omega (arith, t, n)) c.index.ensures in
    let there = slice_get_read ss (length ss) (c.loop-left.left - 1) c.index-in-loop-left.result.now refl (omega (arith, t, n)) c.index-in-loop-left.ensures in
    record {
      counted = omega (arith, t, n);
      passed = passes-by-before c.args.merged (named_in c.args.definition) o ss c.loop-left.left c.loop-left.out c.index.result.now t n at (place-none (named_in c.args.definition (opened c.args.merged c.index.result.now)) (sym c.named-in-loop-left.ensures ∙ c.in_default-named.is)) c.loop-left.invariant.passed;
      crossed = λ on. ⊎_elim (λ closed. inl closed) (λ p. ⊎_elim (λ closed. inl closed) (λ each. inr (each-one c.args.merged o ss c.loop-left.left c.index-in-loop-left.result.now t (omega (arith, n)) there p each)) (c.loop-left.invariant.crossed c.if-not-crosses.false)) (c.may_cross-crosses-in-loop-left.ensures.crosses on);
      stopped = λ off. let two = c.may_cross-crosses-in-loop-left.ensures.stays off in (two.0, each-stopped c.args.merged o ss c.loop-left.left c.index-in-loop-left.result.now t (omega (arith, n)) there two.1);
    }
