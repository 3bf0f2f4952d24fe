use Rattle.wac_reader_parts.proofs.Names.{name_found, name_lost}
use Rattle.std.proofs.Common.{length}
use Rattle.wac_reader_parts.proofs.bytes.name.Goals as goal

pub returns-in-Ok : goal.returns-in-Ok
returns-in-Ok c = name_found c.args.bytes.now c.in_ok-text.text.now c.in-Ok.name.now c.in_ok-text.rest.now c.in-Ok.ensures.cases c.in_ok-text.ensures

pub returns-in-Err : goal.returns-in-Err
returns-in-Err c = name_lost c.text_fault.result (length c.args.bytes.now) c.args.bytes.now c.in_ok-text.text.now c.in_ok-text.rest.now c.text_fault.ensures c.in-Err.ensures.cases.0 c.in_ok-text.ensures
