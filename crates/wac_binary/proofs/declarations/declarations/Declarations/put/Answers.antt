use Rattle.wac_binary.specs.Leb.{unsigned}
use Rattle.wac_binary.proofs.lemmas.declarations.DeclLaws.{behind, joins_two}
use Rattle.wac_binary.proofs.declarations.declarations.Declarations.put.Goals as goal

pub returns-clause-written : goal.returns-clause-written
returns-clause-written c =
    rw (← c.self.view_is, behind c.self.inside.written, joins_two c.args.out.now.items (unsigned c.self.inside.count) c.self.inside.bytes, ← c.in_ok-put_unsigned.ensures.written)
    c.put.ensures.written
