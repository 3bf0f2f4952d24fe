use Rattle.std.proofs.Common.{sym}
use Rattle.wac_binary.specs.private.builder.Written.{text_is}
use Rattle.wac_binary.proofs.lemmas.builder.WrittenLaws.{room}
use Rattle.wac_binary.proofs.builder.builder.ComponentBuilder.into_bytes.Goals as goal

pub put_open-requires : goal.put_open-requires
put_open-requires c = rw c.deref.ensures.value (room c.self.invariant)

pub returns-clause-bytes : goal.returns-clause-bytes
returns-clause-bytes c =
    rw (← c.self.view_is, c.in_ok-put_open.ensures.written, c.in_ok-begin.ensures.begun, c.deref.ensures.value) (sym (text_is c.self.inside.written))

pub returns-clause-in_format : goal.returns-clause-in_format
returns-clause-in_format c = rw (← c.self.view_is) c.self.invariant.in_format
