use Rattle.std.proofs.Common.{◌≡◌, sym, ◌∙◌, subst}
use Rattle.wac_types_shapes.specs.declared.shapes.component.ItemKind.{ItemKind}
use Rattle.wac_encode_scopes.specs.Contents.{side_of}
use Rattle.wac_encode_interfaces.specs.private.Worlds.{written_in}
use Rattle.wac_encode_interfaces.specs.private.Written.{IsItemOf}
use Rattle.wac_encode_interfaces.specs.private.Parts.{sides_in}
use Rattle.wac_encode_interfaces.proofs.Others.{instance-is, plain-item}
use Rattle.wac_types_shapes.specs.declared.shapes.component.ItemKind.TheVariants as kind
use Rattle.wac_encode_interfaces.proofs.Answered.{same-answer, with-more-answer}
use Rattle.wac_encode_interfaces.proofs.Costs.{side-other, side-plain}
use Rattle.std.specs.Prelude.{false}
use Rattle.wac_encode_scopes.specs.private.Paid.{IsAnswerPaid}
use Rattle.wac_encode_interfaces.specs.private.Paid.{side_cost}
use Rattle.wac_encode_interfaces.proofs.writer.TypeWriter.write_item.Goals as goal

pub write_instance-requires-clause-item : goal.write_instance-requires-clause-item
write_instance-requires-clause-item c =
    subst (λ (k : ItemKind). IsItemOf (sides_in c.args.parts.now) (side_of c.args.side) c.args.name.now k c.args.additional) (instance-is c.args.item c.in-Some.id (sym c.instance_in.ensures ∙ c.in-Some.is)) c.requires.item

pub write_plain-requires-clause-item : goal.write_plain-requires-clause-item
write_plain-requires-clause-item c =
    plain-item c.args.self.now.types.now (written_in c.args.self.now.worlds.now) (sides_in c.args.parts.now) c.requires.planned.writable (side_of c.args.side) c.args.name.now c.args.item c.args.additional (sym c.instance_in.ensures ∙ c.in-None.is) c.requires.item

pub write_plain-requires-clause-plain : goal.write_plain-requires-clause-plain
write_plain-requires-clause-plain c = sym c.instance_in.ensures ∙ c.in-None.is

pub returns-in-Some-clause-paid : goal.returns-in-Some-clause-paid
returns-in-Some-clause-paid c ts covers priced =
    let n = side_cost c.args.self.now.types.now c.args.name.now (kind.Instance c.in-Some.id) c.args.additional in
    subst (λ (k : ItemKind). IsAnswerPaid c.args.self.now.types.now c.args.self.now.merged ts (side_cost c.args.self.now.types.now c.args.name.now k c.args.additional) c.args.state.now c.write_instance.new.state c.write_instance.result) (sym (instance-is c.args.item c.in-Some.id (sym c.instance_in.ensures ∙ c.in-Some.is)))
    (with-more-answer c.args.self.now.types.now c.args.self.now.merged ts n c.args.state.now c.write_instance.new.state c.write_instance.result (c.write_instance.ensures.paid priced))

pub returns-in-None-clause-paid : goal.returns-in-None-clause-paid
returns-in-None-clause-paid c ts covers priced =
    let none = sym c.instance_in.ensures ∙ c.in-None.is in
    same-answer c.args.self.now.types.now c.args.self.now.merged ts (side_cost c.args.self.now.types.now c.args.name.now c.args.item false) (side_cost c.args.self.now.types.now c.args.name.now c.args.item c.args.additional) c.args.state.now c.write_plain.new.state c.write_plain.result (side-plain c.args.self.now.types.now c.args.name.now c.args.item ∙ sym (side-other c.args.self.now.types.now c.args.name.now c.args.item c.args.additional none))
    (c.write_plain.ensures.paid ts covers priced)
