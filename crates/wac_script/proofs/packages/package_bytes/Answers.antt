use Rattle.std.proofs.Common.{inl, inr, refl}
use Rattle.wac_script.proofs.StepLemmas.{no-bytes}
use Rattle.wac_script.proofs.packages.package_bytes.Goals as goal

pub returns-in_default : goal.returns-in_default
returns-in_default c = inr (c.in_default.ensures, refl)

pub returns-in-Ok : goal.returns-in-Ok
returns-in-Ok c = inl (c.in-Some.digits.now, c.in-Some.ensures, c.in-Ok.ensures.ok)
