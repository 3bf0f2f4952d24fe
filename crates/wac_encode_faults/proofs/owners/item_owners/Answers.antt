use Rattle.std.proofs.Common.{◌≡◌, length, subst}
use Rattle.wac_encode_faults.specs.private.Owners.{AddsSideOwners}
use Rattle.wac_encode_faults.proofs.Supplying.{numbered_owners}
use Rattle.wac_encode_faults.proofs.owners.item_owners.Goals as goal

pub returns : goal.returns
returns c = λ own.
    let end : c.len-end.result ≡ length c.args.imports.now = c.len-end.ensures in
    numbered_owners c.args.types.now c.args.uses.now own c.args.imports.now c.args.exports.now c.new-owners.result.entries c.note_side_owners.new.owners.entries c.note_side_owners-2.new.owners.entries c.new-owners.ensures.empty
    c.in_ok-note_side_owners.ensures
    (subst (λ n. AddsSideOwners c.args.types.now c.args.uses.now n c.args.exports.now c.note_side_owners.new.owners.entries c.note_side_owners-2.new.owners.entries) end c.in_ok-note_side_owners-2.ensures)
