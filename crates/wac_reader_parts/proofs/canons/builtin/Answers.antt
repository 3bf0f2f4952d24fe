use Rattle.std.proofs.Common.{map}
use Rattle.std.proofs.lemmas.Result.{err_from_is_err_and}
use Rattle.wac_component.specs.CoreViews.{operand_of}
use Rattle.wac_reader_parts.specs.private.Canons.{reader_of}
use Rattle.wac_reader_parts.proofs.Builtins.{builtin_lost, builtin_fails, builtin_found}
use Rattle.wac_reader_parts.proofs.canons.builtin.Goals as goal

pub returns-in-None : goal.returns-in-None
returns-in-None c = builtin_lost c.text_fault.result c.args.left c.args.opcode c.args.bytes.now c.text_fault.ensures c.in-None.ensures

pub returns-in_err-operands-in-Some : goal.returns-in_err-operands-in-Some
returns-in_err-operands-in-Some c =
    let p = err_from_is_err_and c.from_residual.result c.from_residual.ensures.1 in
    rw (p.1, p.2) (builtin_fails c.in_err-operands-in-Some.field-0.0 c.args.opcode (map reader_of c.in-Some.kinds.now) c.args.bytes.now c.in-Some.ensures c.in_err-operands-in-Some.ensures)

pub returns-in_ok-operands-in-Some : goal.returns-in_ok-operands-in-Some
returns-in_ok-operands-in-Some c = builtin_found c.args.opcode (map reader_of c.in-Some.kinds.now) c.args.bytes.now (map operand_of c.in_ok-operands-in-Some.operands.items) c.in_ok-operands-in-Some.rest.now c.in-Some.ensures c.in_ok-operands-in-Some.ensures
