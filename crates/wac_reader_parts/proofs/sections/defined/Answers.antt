use Rattle.std.proofs.Common.{Ok, ap, sym, ◌∙◌}
use Rattle.std.proofs.lemmas.Result.{err_from_is_err_and}
use Rattle.wac_component.specs.Parts.{Part}
use Rattle.wac_component.specs.CoreViews.{resource_of}
use Rattle.wac_component.specs.Views.{type_of}
use Rattle.wac_reader_parts.proofs.Elements.{defined_short, resource_fails, resource_read, type_fails, type_read}
use Rattle.wac_reader_parts.proofs.Views.{resource_is, type_is}
use Rattle.wac_reader_parts.proofs.sections.defined.Goals as goal

pub returns-in_err-b : goal.returns-in_err-b
returns-in_err-b c =
    let p = err_from_is_err_and c.from_residual.result c.from_residual.ensures.1 in
    rw (p.1, p.2) (defined_short c.in_err-b.field-0.0 c.args.depth c.args.bytes.now c.in_err-b.ensures)

pub returns-in_err-definition : goal.returns-in_err-definition
returns-in_err-definition c =
    let p = err_from_is_err_and c.from_residual-in_err-definition.result c.from_residual-in_err-definition.ensures.1 in
    rw (p.1, p.2) (resource_fails c.in_err-definition.field-0.0 c.args.depth c.args.bytes.now c.in_ok-b.rest.now c.in_ok-b.b c.in_ok-b.ensures (sym c.is_resource.ensures ∙ c.if-is_resource.true) c.in_err-definition.ensures)

pub returns-then-is_resource : goal.returns-then-is_resource
returns-then-is_resource c =
    resource_read c.args.depth c.args.bytes.now c.in_ok-b.rest.now c.in_ok-b.b (resource_of c.in_ok-definition.definition) c.in_ok-definition.rest.now c.in_ok-b.ensures (sym c.is_resource.ensures ∙ c.if-is_resource.true) c.in_ok-definition.ensures
    ∙ ap (λ (x : Part). Ok (x, c.in_ok-definition.rest.now)) (sym (resource_is c.in_ok-definition.definition))

pub returns-in_err-definition-2 : goal.returns-in_err-definition-2
returns-in_err-definition-2 c =
    let p = err_from_is_err_and c.from_residual-in_err-definition-2.result c.from_residual-in_err-definition-2.ensures.1 in
    rw (p.1, p.2) (type_fails c.in_err-definition-2.field-0.0 c.args.depth c.args.bytes.now c.in_ok-b.rest.now c.in_ok-b.b c.in_ok-b.ensures (sym c.is_resource.ensures ∙ c.if-is_resource.false) c.in_err-definition-2.ensures)

pub returns : goal.returns
returns c =
    type_read c.args.depth c.args.bytes.now c.in_ok-b.rest.now c.in_ok-b.b (type_of c.in_ok-definition-2.definition) c.in_ok-definition-2.rest.now c.in_ok-b.ensures (sym c.is_resource.ensures ∙ c.if-is_resource.false) c.in_ok-definition-2.ensures
    ∙ ap (λ (x : Part). Ok (x, c.in_ok-definition-2.rest.now)) (sym (type_is c.in_ok-definition-2.definition))
