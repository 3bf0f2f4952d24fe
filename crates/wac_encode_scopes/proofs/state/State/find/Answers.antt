use Rattle.std.proofs.Common.{refl, sym, ◌∙◌, arith, length, ◌-◌}
use Rattle.std.proofs.lemmas.Option.{slice_get_read}
use Rattle.wac_encode_scopes.specs.Books.{opened}
use Rattle.wac_encode_scopes.proofs.Outward.{outward-length, reaches-before, passes-before, passed-all, place-found, place-none}
use Rattle.wac_encode_scopes.proofs.state.State.find.Goals as goal

pub returns-in-Some-resource-clause-found : goal.returns-in-Some-resource-clause-found
returns-in-Some-resource-clause-found c =
    let ss = c.args.self.now.around.items in
    let t = c.loop-left-test.true in
    let n = c.loop-left.invariant.counted in
    let at = slice_get_read ss (length ss) (c.loop-left.left - 1) c.index-then-has_resources.result.now refl (omega (arith, t, n)) c.index-then-has_resources.ensures in
    let w = place-found ((opened c.args.merged c.index-then-has_resources.result.now).binds c.args.resource) c.in-Some-resource.index c.in-Some-resource.is_type (sym c.resource-then-has_resources.ensures ∙ c.in-Some-resource.is) in
    (w.0, reaches-before c.args.merged c.args.resource (opened c.args.merged c.args.self.now.here) ss c.loop-left.left c.loop-left.out c.index-then-has_resources.result.now w.0 t n at w.1 c.loop-left.invariant.passed, w.2)

pub returns-in-Some-resource-clause-probes : goal.returns-in-Some-resource-clause-probes
returns-in-Some-resource-clause-probes c =
    let l = outward-length c.args.merged c.args.self.now.around.items in
    let t = c.loop-left-test.true in
    let n = c.loop-left.invariant.counted in
    let a = c.loop-left.invariant.asked in
    omega (arith, l, t, n, a)

pub loop-left-preserved-in_default-resource : goal.loop-left-preserved-in_default-resource
loop-left-preserved-in_default-resource c =
    let ss = c.args.self.now.around.items in
    let t = c.loop-left-test.true in
    let n = c.loop-left.invariant.counted in
    let a = c.loop-left.invariant.asked in
    let at = slice_get_read ss (length ss) (c.loop-left.left - 1) c.index-then-has_resources.result.now refl (omega (arith, t, n)) c.index-then-has_resources.ensures in
    record {
      counted = omega (arith, t, n);
      asked = omega (arith, a);
      passed = passes-before c.args.merged c.args.resource (opened c.args.merged c.args.self.now.here) ss c.loop-left.left c.loop-left.out c.index-then-has_resources.result.now t n at (place-none ((opened c.args.merged c.index-then-has_resources.result.now).binds c.args.resource) (sym c.resource-then-has_resources.ensures ∙ c.in_default-resource.is)) c.loop-left.invariant.passed;
    }

pub loop-left-preserved : goal.loop-left-preserved
loop-left-preserved c =
    let ss = c.args.self.now.around.items in
    let t = c.loop-left-test.true in
    let n = c.loop-left.invariant.counted in
    let a = c.loop-left.invariant.asked in
    let at = slice_get_read ss (length ss) (c.loop-left.left - 1) c.index.result.now refl (omega (arith, t, n)) c.index.ensures in
    record {
      counted = omega (arith, t, n);
      asked = omega (arith, a);
      passed = passes-before c.args.merged c.args.resource (opened c.args.merged c.args.self.now.here) ss c.loop-left.left c.loop-left.out c.index.result.now t n at (c.has_resources.ensures c.if-has_resources.false c.args.resource) c.loop-left.invariant.passed;
    }

pub returns-clause-none : goal.returns-clause-none
returns-clause-none c is = passed-all c.args.merged c.args.resource (opened c.args.merged c.args.self.now.here) c.args.self.now.around.items c.loop-left.left c.loop-left-test.false c.loop-left.invariant.passed

pub returns-clause-probes : goal.returns-clause-probes
returns-clause-probes c =
    let l = outward-length c.args.merged c.args.self.now.around.items in
    let n = c.loop-left.invariant.counted in
    let a = c.loop-left.invariant.asked in
    omega (arith, l, n, a)
