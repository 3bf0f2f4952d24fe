use Rattle.std.proofs.Common.{◌≡◌, false, sym, ◌∙◌, subst}
use Rattle.wac_types_shapes.specs.declared.shapes.component.ItemKind.{ItemKind}
use Rattle.wac_encode_scopes.specs.Contents.{side_of}
use Rattle.wac_encode_interfaces.specs.private.Worlds.{written_in}
use Rattle.wac_encode_interfaces.specs.private.Written.{IsItemOf}
use Rattle.wac_encode_interfaces.specs.private.Parts.{sides_in}
use Rattle.wac_encode_interfaces.proofs.Others.{resource-is}
use Rattle.wac_encode_interfaces.proofs.Writes.{plain-nothing}
use Rattle.wac_types_shapes.specs.shapes.Kinds.{kind_type}
use Rattle.wac_types_weight.specs.private.Laws.{Covers}
use Rattle.wac_encode_scopes.specs.private.Paid.{IsAnswerPaid}
use Rattle.wac_encode_interfaces.specs.private.Paid.{side_cost}
use Rattle.wac_encode_interfaces.proofs.writer.TypeWriter.write_plain.Goals as goal

pub write_resource-requires-clause-item : goal.write_resource-requires-clause-item
write_resource-requires-clause-item c =
    subst (λ (k : ItemKind). IsItemOf (sides_in c.args.parts.now) (side_of c.args.side) c.args.name.now k false) (resource-is c.args.item c.in-Some.id (sym c.resource_in.ensures ∙ c.in-Some.is)) c.requires.item

pub write_other-requires-clause-other : goal.write_other-requires-clause-other
write_other-requires-clause-other c =
    plain-nothing c.args.self.now.types.now c.law.ensures c.args.self.now.merged (written_in c.args.self.now.worlds.now) c.args.parts.now c.requires.planned (side_of c.args.side) c.args.name.now c.args.item c.requires.plain (sym c.resource_in.ensures ∙ c.in-None.is) c.requires.item

pub returns-in-Some-clause-paid : goal.returns-in-Some-clause-paid
returns-in-Some-clause-paid c ts covers priced =
    subst (λ (k : ItemKind). IsAnswerPaid c.args.self.now.types.now c.args.self.now.merged ts (side_cost c.args.self.now.types.now c.args.name.now k false) c.args.state.now c.write_resource.new.state c.write_resource.result) (sym (resource-is c.args.item c.in-Some.id (sym c.resource_in.ensures ∙ c.in-Some.is)))
    (c.write_resource.ensures.paid ts (subst (λ (k : ItemKind). Covers c.args.self.now.types.now ts (kind_type k)) (resource-is c.args.item c.in-Some.id (sym c.resource_in.ensures ∙ c.in-Some.is)) covers) priced)
