use Rattle.std.proofs.Common.{◌-◌, arith}
use Rattle.std.proofs.lemmas.Result.{err_from_is_err_and}
use Rattle.wac_reader_parts.proofs.Passed.{leb_fails}
use Rattle.wac_reader_parts.proofs.bytes.+leb_of.Goals as goal

pub returns-in_err-high-in-len1-up-clause-read : goal.returns-in_err-high-in-len1-up-clause-read
returns-in_err-high-in-len1-up-clause-read t c =
    let p = err_from_is_err_and c.from_residual.result c.from_residual.ensures.1 in
    rw (p.1, p.2) (leb_fails c.in_err-high-in-len1-up.field-0.0 c.args.limit c.args.last (c.args.k - 1) c.args.k c.args.bytes.now (omega (arith, c.if-k-eq0.false)) c.in-len1-up.len_at_least (omega (arith, c.if-b-lt128.false)) c.in_err-high-in-len1-up.ensures.read)
