use Rattle.std.proofs.Common.{IfOk, sym, ◌∙◌, subst}
use Rattle.wac_types_shapes.specs.declared.shapes.component.ItemKind.{ItemKind}
use Rattle.wac_encode_imports.specs.private.Written.{MayWrite, WritesImport}
use Rattle.wac_encode_imports.specs.private.Small.{IsImportPaid}
use Rattle.wac_encode_imports.proofs.Bound.{no-some}
use Rattle.wac_encode_imports.proofs.Writing.{instance-is, none-of, resource-is}
use Rattle.wac_encode_imports.proofs.import.ImportWriter.import_plain.Goals as goal

pub import_instance-requires : goal.import_instance-requires
import_instance-requires c = subst (λ (k : ItemKind). MayWrite c.args.self.now c.args.position c.args.name.now k c.args.state.now) (instance-is c.args.item c.in-Some.interface (sym c.instance_in.ensures ∙ c.in-Some.is)) c.requires.next

pub returns-in-Some-clause-written : goal.returns-in-Some-clause-written
returns-in-Some-clause-written c =
    subst (λ (k : ItemKind). IfOk c.import_instance.result (WritesImport c.args.self.now c.args.position c.args.name.now k c.args.state.now c.import_instance.new.state)) (sym (instance-is c.args.item c.in-Some.interface (sym c.instance_in.ensures ∙ c.in-Some.is))) c.import_instance.ensures.written

pub import_resource-requires : goal.import_resource-requires
import_resource-requires c = subst (λ (k : ItemKind). MayWrite c.args.self.now c.args.position c.args.name.now k c.args.state.now) (resource-is c.args.item c.in-Some-resource_in.resource (sym c.resource_in.ensures ∙ c.in-Some-resource_in.is)) c.requires.next

pub returns-in-Some-resource_in-clause-written : goal.returns-in-Some-resource_in-clause-written
returns-in-Some-resource_in-clause-written c =
    subst (λ (k : ItemKind). IfOk c.import_resource.result (WritesImport c.args.self.now c.args.position c.args.name.now k c.args.state.now c.import_resource.new.state)) (sym (resource-is c.args.item c.in-Some-resource_in.resource (sym c.resource_in.ensures ∙ c.in-Some-resource_in.is))) c.import_resource.ensures.written

-- What is neither an instance nor a resource.
pub import_other-requires-clause-plain : goal.import_other-requires-clause-plain
import_other-requires-clause-plain c = sym c.instance_in.ensures ∙ none-of c.instance_in.result c.in_default.not-Some

pub import_other-requires-clause-other : goal.import_other-requires-clause-other
import_other-requires-clause-other c = λ m h r is. no-some r (sym (sym c.resource_in.ensures ∙ none-of c.resource_in.result c.in_default-resource_in.not-Some) ∙ is)

pub returns-in-Some-clause-paid : goal.returns-in-Some-clause-paid
returns-in-Some-clause-paid c =
    subst (λ (k : ItemKind). IsImportPaid c.args.self.now c.args.position c.args.name.now k c.args.state.now c.import_instance.new.state c.import_instance.result) (sym (instance-is c.args.item c.in-Some.interface (sym c.instance_in.ensures ∙ c.in-Some.is))) c.import_instance.ensures.paid

pub returns-in-Some-resource_in-clause-paid : goal.returns-in-Some-resource_in-clause-paid
returns-in-Some-resource_in-clause-paid c =
    subst (λ (k : ItemKind). IsImportPaid c.args.self.now c.args.position c.args.name.now k c.args.state.now c.import_resource.new.state c.import_resource.result) (sym (resource-is c.args.item c.in-Some-resource_in.resource (sym c.resource_in.ensures ∙ c.in-Some-resource_in.is))) c.import_resource.ensures.paid
