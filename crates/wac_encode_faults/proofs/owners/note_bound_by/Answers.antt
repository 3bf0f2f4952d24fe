use Rattle.std.proofs.Common.{Contains, subst, inl, inr}
use Rattle.std.proofs.lemmas.Result.{on_ok_weaker}
use Rattle.wac_types_collection.proofs.lemmas.wide.Members.{in_none}
use Rattle.wac_encode_faults.specs.private.Binding.{Binds}
use Rattle.wac_encode_faults.specs.Cycle.{owner_of}
use Rattle.wac_encode_faults.proofs.Owning.{noted_as}
use Rattle.wac_encode_faults.proofs.owners.note_bound_by.Goals as goal

pub returns : goal.returns
returns c =
    on_ok_weaker c.note_resources.result
    (λ noted side. noted_as (Contains c.add_bound_by.new.found.keys) (Binds c.args.types.now c.args.uses.now side (c.args.name.now, c.args.item)) c.args.number (owner_of c.args.owners.now.entries) (owner_of c.note_resources.new.owners.entries)
    (λ r. (
      λ h. elim ((c.in_ok-add_bound_by.ensures side r).0 h) [ inl w ↦ absurd (in_none r (subst (λ l. Contains l r) c.new-bound.ensures.empty w)) | inr w ↦ w ],
      λ h. (c.in_ok-add_bound_by.ensures side r).1 (inr h),
    )) noted)
    c.note_resources.ensures
