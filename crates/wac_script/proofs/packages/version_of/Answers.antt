use Rattle.std.proofs.Common.{◌≡◌, Ok, subst, inl, inr}
use Rattle.semver.specs.Identifiers.{parts_of}
use Rattle.semver.specs.Parse.{version_parts}
use Rattle.wac_script.proofs.StepLemmas.{no-version}
use Rattle.wac_script.proofs.packages.version_of.Goals as goal

pub returns-in-Ok : goal.returns-in-Ok
returns-in-Ok c = (c.in-Some.ensures.1, subst (λ w. version_parts w ≡ Ok (parts_of c.in-Ok.version)) c.in-Some.ensures.0 c.in-Ok.ensures.ok)

pub returns-in-Err : goal.returns-in-Err
returns-in-Err c = elim c.version_error.ensures [ inl m ↦ inl m | inr not ↦ inr (no-version c.args.word.now c.in-Some.text.now c.in-Err.e c.in-Some.ensures.0 c.in-Some.ensures.1 c.in-Err.ensures.err not) ]
