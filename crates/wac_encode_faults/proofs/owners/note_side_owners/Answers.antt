use Rattle.std.proofs.lemmas.Result.{on_ok_weaker}
use Rattle.wac_encode_faults.proofs.Owning.{side_owners}
use Rattle.wac_encode_faults.proofs.owners.note_side_owners.Goals as goal

pub returns : goal.returns
returns c =
    on_ok_weaker c.note_owners-2.result
    (λ types. side_owners c.args.types.now c.args.uses.now c.args.first c.args.items.now c.args.owners.now.entries c.note_owners.new.owners.entries c.note_owners-2.new.owners.entries c.in_ok-note_owners.ensures types)
    c.note_owners-2.ensures
