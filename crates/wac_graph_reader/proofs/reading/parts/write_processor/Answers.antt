use Rattle.std.proofs.Common.{ap, ◌≤◌, ◌+◌, ◌∙◌, sym, subst, refl, arith, ◌++◌, ◌∷◌, [], map}
use Rattle.wac_binary.specs.Items.{custom}
use Rattle.wac_binary.specs.Customs as custom_section
use Rattle.wac_graph_model.specs.meaning.Means.{custom_item, processor_customs}
use Rattle.wac_types_shapes.specs.primitives.Name.{option_case}
use Rattle.wac_encode_stacks.specs.private.Sizes.{item_size}
use Rattle.wac_graph_model.specs.private.weight.Costs.{processor_cost}
use Rattle.wac_graph_reader.proofs.lemmas.writing.ItemSizes.{added_size, exit_added, exit_fault}
use Rattle.wac_graph_reader.proofs.lemmas.writing.NameSizes.{processor_item}
use Rattle.wac_graph_reader.proofs.reading.parts.write_processor.Goals as goal

pub returns-clause-written : goal.returns-clause-written
returns-clause-written c =
    c.in_ok-custom.ensures.appended
    ∙ ap (λ bytes. c.args.component.now ++ custom custom_section.producers bytes ∷ []) (c.deref.ensures.value ∙ c.in_ok-content.ensures.content)
    ∙ ap (λ p. c.args.component.now ++ map custom_item (processor_customs p)) (sym c.in-Some.is)

pub returns-in_default-clause-cost : goal.returns-in_default-clause-cost
returns-in_default-clause-cost c = omega arith

pub returns-in_err-content-clause-cost : goal.returns-in_err-content-clause-cost
returns-in_err-content-clause-cost c = exit_fault (option_case c.args.processor 0 processor_cost) c.args.component.now c.args.component.now c.from_residual.result (c.in_err-content.field-0).0 c.from_residual.ensures.1 c.in_err-content.ensures.memory

pub returns-clause-cost : goal.returns-clause-cost
returns-clause-cost c =
    let x = custom custom_section.producers c.deref.result.now in
    let p = c.in-Some.processor in
    let size = subst (λ b. item_size (custom custom_section.producers b) ≤ processor_cost p) (sym (c.deref.ensures.value ∙ c.in_ok-content.ensures.content)) (processor_item p.name.now p.version.now) in
    let cost = ap (λ o. option_case o 0 processor_cost) c.in-Some.is in
    added_size c.args.component.now c.custom.new.self x (option_case c.args.processor 0 processor_cost) c.in_ok-custom.ensures.appended (omega (arith, size, cost))

pub returns-in_err-custom-clause-cost : goal.returns-in_err-custom-clause-cost
returns-in_err-custom-clause-cost c =
    let x = custom custom_section.producers c.deref.result.now in
    let p = c.in-Some.processor in
    let size = subst (λ b. item_size (custom custom_section.producers b) ≤ processor_cost p) (sym (c.deref.ensures.value ∙ c.in_ok-content.ensures.content)) (processor_item p.name.now p.version.now) in
    let cost = ap (λ o. option_case o 0 processor_cost) c.in-Some.is in
    exit_added c.size_law.ensures.fits c.args.component.now c.args.component.now c.custom.new.self x (option_case c.args.processor 0 processor_cost) (c.in_err-custom.field-0).0 c.from_residual-in_err-custom.result c.from_residual-in_err-custom.ensures.1 refl (omega (arith, size, cost)) c.in_err-custom.ensures.too_large
