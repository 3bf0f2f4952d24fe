use Rattle.std.proofs.Common.{◌≡◌, Err, ap}
use Rattle.wac_types_shapes.specs.declared.shapes.named.ShapeError.TheVariants.{NameTwice}
use Rattle.wac_types_shapes.proofs.lemmas.shapes.AsGiven.{given_twice}
use Rattle.wac_types_shapes.proofs.shapes.named.Named.from_pairs.Goals as goal

pub returns-in-Err-clause-name_twice : goal.returns-in-Err-clause-name_twice
returns-in-Err-clause-name_twice g c e once =
    let fault : c.in-Err.fault ≡ NameTwice = cc e in
    given_twice (λ e. (e.0.now, e.1)) c.args.pairs.now c.loop-pair.pair-index c.pair-item.result _ c.loop-pair-test.true c.loop-pair.invariant (rw c.pair-item.is at (c.in-Err.ensures.name_twice.0 (ap Err fault))) once
