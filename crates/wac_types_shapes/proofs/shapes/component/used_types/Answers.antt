use Rattle.std.proofs.Common.{◌≡◌, ap, Err}
use Rattle.std.specs.Option.{option_copied}
use Rattle.wac_types_shapes.specs.declared.shapes.named.ShapeError.TheVariants.{NameTwice}
use Rattle.wac_types_shapes.proofs.lemmas.shapes.AsGiven.{given_twice}
use Rattle.wac_types_shapes.proofs.shapes.component.used_types.Goals as goal

pub returns-in-Err-clause-name_twice : goal.returns-in-Err-clause-name_twice
returns-in-Err-clause-name_twice c e once =
    let fault : c.in-Err.fault ≡ NameTwice = cc e in
    given_twice (λ e. (e.0.now, record { interface = e.1; name = option_copied e.2 })) c.args.uses.now c.loop-used.used-index _ _ c.loop-used-test.true c.loop-used.invariant (c.in-Err.ensures.name_twice.0 (ap Err fault)) once
