use Rattle.std.proofs.Common.{ℕ, Ok, ap, sym, ◌∙◌, arith}
use Rattle.std.proofs.lemmas.Result.{err_from_is_err_and}
use Rattle.wac_reader_parts.proofs.Passed.{signed_short, signed_fails}
use Rattle.wac_reader_parts.proofs.bytes.signed.Goals as goal

pub returns-in_err-b : goal.returns-in_err-b
returns-in_err-b c =
    let p = err_from_is_err_and c.from_residual.result c.from_residual.ensures.1 in
    rw (p.1, p.2) (signed_fails c.in_err-b.field-0.0 c.args.bytes.now c.in_err-b.ensures)

pub returns-then-b-lt64 : goal.returns-then-b-lt64
returns-then-b-lt64 c =
    signed_short c.in_ok-b.b c.args.bytes.now c.in_ok-b.rest.now c.in_ok-b.ensures (omega (arith, c.if-b-lt64.true))
    ∙ ap (λ (n : ℕ). Ok (n, c.in_ok-b.rest.now)) (sym c.from.ensures)
