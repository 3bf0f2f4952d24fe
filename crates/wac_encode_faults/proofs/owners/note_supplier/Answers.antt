use Rattle.std.proofs.Common.{◌≡◌, sym, subst, refl}
use Rattle.std.specs.Prelude.{IsSome}
use Rattle.wac_types_shapes.specs.contracts.shapes.component.InterfaceIdPartialEq.TheImpl as IdEq
use Rattle.wac_types_collection.proofs.lemmas.wide.Once.{same_id, id_itself}
use Rattle.wac_encode_faults.specs.private.Sets.{value_of}
use Rattle.wac_encode_faults.proofs.Owning.{noted_none, noted_one}
use Rattle.wac_encode_faults.proofs.owners.note_supplier.Goals as goal

pub returns-in-Some : goal.returns-in-Some
returns-in-Some c =
    noted_none (λ j. j ≡ c.args.id) c.args.number (value_of c.args.suppliers.now.entries)
    (λ j e. subst (λ z. IsSome (value_of c.args.suppliers.now.entries z)) (sym e) (subst IsSome c.in-Some.ensures.value refl))

pub returns : goal.returns
returns c =
    noted_one (IdEq.ghosts).eq same_id id_itself c.args.id c.args.number (value_of c.args.suppliers.now.entries) (value_of c.insert.new.self.entries) (sym c.in_default.ensures.value) c.in_ok-insert.ensures.updates.0
