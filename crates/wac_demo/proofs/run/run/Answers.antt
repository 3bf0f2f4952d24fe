use Rattle.std.proofs.Common.{subst, IfOk, string_bytes}
use Rattle.wac_demo.specs.Printed.{IsPrinted}
use Rattle.wac_demo.proofs.Weakening.{printed, cycle_unprinted}
use Rattle.wac_demo.proofs.run.run.Goals as goal

pub returns-in-Ok-clause-composed : goal.returns-in-Ok-clause-composed
returns-in-Ok-clause-composed g c =
    printed c.args.word.now (string_bytes c.in-Ok.text) c.as_str.result.now c.print-in-Ok.result _ _
    (subst (λ r. IfOk r (λ text. IsPrinted c.args.word.now (string_bytes text))) c.in-Ok.is c.in-Some.ensures.1)
    c.as_str.ensures.value c.print-in-Ok.ensures

pub returns-in-Ok-clause-cycle : goal.returns-in-Ok-clause-cycle
returns-in-Ok-clause-cycle g c = λ is zero.
    cycle_unprinted c.args.word.now (string_bytes c.in-Ok.text) (subst (λ r. IfOk r (λ text. IsPrinted c.args.word.now (string_bytes text))) c.in-Ok.is c.in-Some.ensures.1) is
