use Rattle.std.proofs.Common.{arith}
use Rattle.wac_component.specs.CoreViews.{canon_of}
use Rattle.wac_reader_parts.proofs.Builtins.{gives_builtin}
use Rattle.wac_reader_parts.proofs.canons.canon.Goals as goal

pub returns-in_default : goal.returns-in_default
returns-in_default c = gives_builtin (λ x. (canon_of x.0, x.1.now)) c.builtin.result c.args.bytes.now c.in_ok-opcode.opcode c.in_ok-opcode.rest.now c.in_ok-opcode.ensures (omega (arith, c.in_default)) c.builtin.ensures
