use Rattle.std.specs.Prelude.{codes}
use Rattle.wac_binary.specs.Bytes.{text}
use Rattle.wac_binary.specs.Customs.{producers_bytes}
use Rattle.wac_binary.proofs.lemmas.builder.CustomLaws.{field_of}
use Rattle.wac_binary.proofs.builder.customs.producers.Goals as goal

pub returns-clause-content : goal.returns-clause-content
unfolding producers_bytes
returns-clause-content c =
    rw (c.in_ok-put_text-3.ensures.written, c.in_ok-put_text-2.ensures.written, c.in_ok-push-2.ensures.items, c.in_ok-put_text.ensures.written, c.in_ok-push.ensures.items, c.new-out.ensures.items)
    (field_of (text (codes "processed-by")) (text c.args.name.now) (text c.args.version.now))
