use Rattle.std.proofs.lemmas.Result.{on_ok_weaker}
use Rattle.wac_merge_imports.proofs.lemmas.unions.BoundNames.{names-instance, names-other}
use Rattle.wac_merge_imports.proofs.unions.bound.put_member.Goals as goal

pub returns-in_default : goal.returns-in_default
returns-in_default c = names-other c.args.bindings.now c.args.number c.args.types.now c.args.kind c.args.names.now (λ i is. c.in_default.not-Instance i is)

pub returns : goal.returns
returns c =
    on_ok_weaker c.put_names.result (λ adds.
    names-instance c.args.bindings.now c.args.number c.args.types.now c.in-Instance.id c.index.result.now c.args.kind c.args.names.now c.put_names.new.names c.in-Instance.is c.index.ensures adds) c.put_names.ensures
