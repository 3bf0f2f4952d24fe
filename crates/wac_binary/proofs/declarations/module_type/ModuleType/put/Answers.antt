use Rattle.wac_binary.specs.Leb.{unsigned}
use Rattle.wac_binary.specs.private.declarations.WrittenModule.{module_is}
use Rattle.wac_binary.proofs.lemmas.declarations.DeclLaws.{joins, on_ok}
use Rattle.wac_binary.proofs.declarations.module_type.ModuleType.put.Goals as goal

pub returns-clause-written : goal.returns-clause-written
returns-clause-written c =
    rw (← c.self.view_is, module_is c.self.inside.written, joins c.args.out.now.items 0x50 (unsigned c.self.inside.count) c.self.inside.bytes.items, ← c.in_ok-push.ensures.items, ← c.in_ok-put_unsigned.ensures.written, ← c.deref.ensures.value)
    (on_ok _ _ c.put_unsigned.new.out.items c.extend_from_slice.result c.extend_from_slice.ensures.items)
