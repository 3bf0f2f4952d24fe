use Rattle.std.proofs.lemmas.Result.{err_from_is_err_and}
use Rattle.wac_reader_parts.proofs.Rows.{value_short}
use Rattle.wac_reader_parts.proofs.types.value.Goals as goal

pub returns-in_err-b : goal.returns-in_err-b
returns-in_err-b c =
    let p = err_from_is_err_and c.from_residual.result c.from_residual.ensures.1 in
    rw (p.1, p.2) (value_short c.in_err-b.field-0.0 c.args.bytes.now c.in_err-b.ensures)
