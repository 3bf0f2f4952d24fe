use Rattle.std.proofs.Common.{◌≡◌, sym, subst, refl}
use Rattle.std.specs.Prelude.{IsSome}
use Rattle.wac_types_shapes.specs.contracts.shapes.component.ResourceIdPartialEq.TheImpl as IdEq
use Rattle.wac_encode_faults.specs.Cycle.{owner_of}
use Rattle.wac_encode_faults.proofs.FreeParts.{same_id, resource_itself}
use Rattle.wac_encode_faults.proofs.Owning.{noted_none, noted_one}
use Rattle.wac_encode_faults.proofs.owners.note_owner.Goals as goal

pub returns-in-Some : goal.returns-in-Some
returns-in-Some c =
    noted_none (λ r. r ≡ c.args.resource) c.args.number (owner_of c.args.owners.now.entries)
    (λ r e. subst (λ z. IsSome (owner_of c.args.owners.now.entries z)) (sym e) (subst IsSome c.in-Some.ensures.value refl))

pub returns : goal.returns
returns c =
    noted_one (IdEq.ghosts).eq same_id resource_itself c.args.resource c.args.number (owner_of c.args.owners.now.entries) (owner_of c.insert.new.self.entries) (sym c.in_default.ensures.value) c.in_ok-insert.ensures.updates.0
