use Rattle.std.proofs.lemmas.Str.{is_utf8-from_IsUtf8}
use Rattle.wac_binary.proofs.declarations.size.text_size.Goals as goal

pub returns-clause-in_format : goal.returns-clause-in_format
returns-clause-in_format c = rw (← c.as_bytes-bytes.ensures.value) (is_utf8-from_IsUtf8 c.as_bytes-bytes.result.now c.as_bytes-bytes.ensures.utf8)
