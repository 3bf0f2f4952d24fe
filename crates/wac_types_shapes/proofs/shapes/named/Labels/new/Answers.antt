use Rattle.std.proofs.Common.{◌≡◌, ◌∙◌, ap, sym, subst, Err, List}
use Rattle.std.proofs.lemmas.Simd.{map-map}
use Rattle.wac_types_shapes.specs.primitives.Name.{Name}
use Rattle.wac_types_shapes.specs.shapes.Named.{NoNameTwice, names_of}
use Rattle.wac_types_shapes.specs.declared.shapes.named.ShapeError.TheVariants.{NameTwice}
use Rattle.wac_types_shapes.proofs.lemmas.shapes.AsGiven.{given_all, given_twice}
use Rattle.wac_types_shapes.proofs.shapes.named.Labels.new.Goals as goal

pub returns-in-Err-clause-name_twice : goal.returns-in-Err-clause-name_twice
returns-in-Err-clause-name_twice c e once =
    let fault : c.in-Err.fault ≡ NameTwice = cc e in
    let P : List (Name × Unit {0}) → Type 0 = λ es. NoNameTwice es in
    given_twice (λ n. (n.now, tt)) c.args.names.now c.loop-name.name-index _ _ c.loop-name-test.true c.loop-name.invariant (c.in-Err.ensures.name_twice.0 (ap Err fault)) (subst P (map-map _ _ c.args.names.now) once)

pub returns-clause-built : goal.returns-clause-built
returns-clause-built c = ap names_of (given_all _ c.args.names.now c.loop-name.name-index c.loop-name.labels c.loop-name-test.false c.loop-name.invariant) ∙ map-map _ _ c.args.names.now

pub returns-clause-names : goal.returns-clause-names
returns-clause-names c =
    let P : List (Name × Unit {0}) → Type 0 = λ es. NoNameTwice es in
    subst P (given_all _ c.args.names.now c.loop-name.name-index c.loop-name.labels c.loop-name-test.false c.loop-name.invariant ∙ sym (map-map _ _ c.args.names.now)) c.law.ensures
