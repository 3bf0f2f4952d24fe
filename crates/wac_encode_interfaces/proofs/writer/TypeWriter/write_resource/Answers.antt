use Rattle.std.proofs.Common.{◌≡◌, ℕ, true, false, sym, ap, ◌∙◌, subst, refl}
use Rattle.wac_types_shapes.specs.declared.shapes.component.ResourceId.{ResourceId}
use Rattle.wac_types_shapes.specs.declared.shapes.component.ItemKind.TheVariants as kind
use Rattle.wac_types_shapes.specs.declared.shapes.component.«Type».TheVariants as ty
use Rattle.wac_types_collection.specs.collection.Held.{resolved}
use Rattle.wac_encode_scopes.specs.Contents.{side_of}
use Rattle.wac_encode_faults.specs.Cycle.{owner_of}
use Rattle.wac_encode_interfaces.specs.private.Worlds.{written_in}
use Rattle.wac_encode_interfaces.specs.private.Parts.{sides_in, is_number}
use Rattle.wac_encode_interfaces.proofs.Writes.{number-made, alias-nothing}
use Rattle.wac_encode_interfaces.proofs.writer.TypeWriter.write_resource.Goals as goal

pub write_fresh-requires-clause-made : goal.write_fresh-requires-clause-made
write_fresh-requires-clause-made c =
    let t = c.args.self.now.types.now in
    sym (number-made t c.law.ensures c.args.self.now.merged (written_in c.args.self.now.worlds.now) c.args.parts.now c.requires.planned (side_of c.args.side) c.args.name.now c.args.number (resolved t c.args.resource) c.requires.number)
    ∙ ap (λ (r : ResourceId). is_number c.args.number (owner_of c.args.parts.now.owners.now.entries r)) (sym c.resolve_resource-end.ensures.end)
    ∙ sym c.has_number.ensures ∙ c.if-has_number.true

pub write_other-requires-clause-other : goal.write_other-requires-clause-other
write_other-requires-clause-other c =
    let t = c.args.self.now.types.now in
    alias-nothing t c.law.ensures c.args.self.now.merged (written_in c.args.self.now.worlds.now) c.args.parts.now c.requires.planned (side_of c.args.side) c.args.name.now c.args.number (kind.TypeItem (ty.Resource c.args.resource)) c.args.resource c.requires.number refl c.requires.item
    (ap (λ (r : ResourceId). is_number c.args.number (owner_of c.args.parts.now.owners.now.entries r)) (sym c.resolve_resource-end.ensures.end) ∙ sym c.has_number.ensures ∙ c.if-has_number.false)
