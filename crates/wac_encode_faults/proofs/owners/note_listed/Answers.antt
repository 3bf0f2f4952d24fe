use Rattle.std.proofs.Common.{◌≡◌, true, false, sym, ◌∙◌, length}
use Rattle.std.proofs.lemmas.Result.{on_ok_weaker}
use Rattle.wac_encode_faults.proofs.Owning.{some_of, listed_none, listed_one}
use Rattle.wac_encode_faults.proofs.owners.note_listed.Goals as goal

pub returns-then-is_empty : goal.returns-then-is_empty
returns-then-is_empty c =
    listed_none c.args.types.now (c.args.name.now, c.args.item) c.args.number c.new-listed.result.keys c.add_item.new.listed.keys c.args.suppliers.now.entries c.new-listed.ensures.empty c.in_ok-add_item.ensures (c.is_empty.ensures.0 c.if-is_empty.true)

pub interface_at-id-requires : goal.interface_at-id-requires
interface_at-id-requires c = some_of (length c.add_item.new.listed.keys) (λ h. let wrong : false ≡ true = sym c.if-is_empty.false ∙ c.is_empty.ensures.1 h in cc)

pub returns : goal.returns
returns c =
    on_ok_weaker c.note_supplier.result
    (λ noted. listed_one c.args.types.now (c.args.name.now, c.args.item) c.args.number c.new-listed.result.keys c.add_item.new.listed.keys c.interface_at-id.result c.args.suppliers.now.entries c.note_supplier.new.suppliers.entries
    c.new-listed.ensures.empty c.in_ok-add_item.ensures c.interface_at-id.ensures noted)
    c.note_supplier.ensures
