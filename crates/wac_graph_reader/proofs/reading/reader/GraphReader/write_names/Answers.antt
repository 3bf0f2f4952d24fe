use Rattle.std.proofs.Common.{◌≡◌, ◌+◌, ◌==◌, false, ap, subst, ◌∙◌, sym, ◌++◌, ◌∷◌, [], map}
use Rattle.wac_binary.specs.Items.{custom}
use Rattle.wac_binary.specs.Views.{names_of}
use Rattle.wac_binary.specs.Customs as custom_section
use Rattle.wac_binary.specs.Customs.{names_bytes}
use Rattle.wac_graph_model.specs.meaning.Means.{custom_item}
use Rattle.wac_graph_model.specs.private.meaning.Encoding.{index_in}
use Rattle.wac_graph_reader.proofs.lemmas.writing.NamingLemmas.{some_names, not_empty}
use Rattle.wac_graph_model.specs.private.weight.Written.{names_cost}
use Rattle.wac_graph_reader.proofs.lemmas.writing.ItemSizes.{exit_memory, exit_fault}
use Rattle.wac_graph_reader.proofs.lemmas.writing.NameSizes.{names_added, exit_names}
use Rattle.wac_graph_reader.proofs.reading.reader.GraphReader.write_names.Goals as goal

pub returns-clause-written : goal.returns-clause-written
returns-clause-written c = (
  names_of c.in_ok-names.names.items,
  c.in_ok-names.ensures.names,
  c.in_ok-custom.ensures.appended
      ∙ ap (λ bytes. c.args.component.now ++ custom custom_section.component_name bytes ∷ []) (c.deref-2.ensures.value ∙ c.in_ok-content.ensures.content ∙ ap (λ names. names_bytes (names_of names)) c.deref.ensures.value)
      ∙ ap (λ cs. c.args.component.now ++ map custom_item cs)
      (sym (some_names (names_of c.in_ok-names.names.items) (not_empty c.in_ok-names.names.items (subst (λ k. (k == 0) ≡ false) c.in_ok-names.names.ok.0 (sym c.is_empty.ensures ∙ c.if-is_empty.false))))),
)

pub returns-clause-cost : goal.returns-clause-cost
returns-clause-cost c =
    let names = names_of c.in_ok-names.names.items in
    let some = not_empty c.in_ok-names.names.items (subst (λ k. (k == 0) ≡ false) c.in_ok-names.names.ok.0 (sym c.is_empty.ensures ∙ c.if-is_empty.false)) in
    let less = c.order_law.ensures.names c.args.self.now (index_in c.args.indexes.now) names c.in_ok-names.ensures.names in
    let bytes = c.deref-2.ensures.value ∙ c.in_ok-content.ensures.content ∙ ap (λ ns. names_bytes (names_of ns)) c.deref.ensures.value in
    names_added c.args.component.now c.custom.new.self names c.deref-2.result.now (names_cost c.args.self.now) some c.in_ok-names.ensures.short bytes c.in_ok-custom.ensures.appended c.in_ok-custom.ensures.fits less

pub returns-in_err-names-clause-cost : goal.returns-in_err-names-clause-cost
returns-in_err-names-clause-cost c = exit_memory (names_cost c.args.self.now) c.args.component.now c.args.component.now c.from_residual.result c.from_residual.ensures.1

pub returns-in_err-content-clause-cost : goal.returns-in_err-content-clause-cost
returns-in_err-content-clause-cost c = exit_fault (names_cost c.args.self.now) c.args.component.now c.args.component.now c.from_residual-in_err-content.result (c.in_err-content.field-0).0 c.from_residual-in_err-content.ensures.1 c.in_err-content.ensures.memory

pub returns-in_err-custom-clause-cost : goal.returns-in_err-custom-clause-cost
returns-in_err-custom-clause-cost c =
    let names = names_of c.in_ok-names.names.items in
    let some = not_empty c.in_ok-names.names.items (subst (λ k. (k == 0) ≡ false) c.in_ok-names.names.ok.0 (sym c.is_empty.ensures ∙ c.if-is_empty.false)) in
    let less = c.order_law.ensures.names c.args.self.now (index_in c.args.indexes.now) names c.in_ok-names.ensures.names in
    let bytes = c.deref-2.ensures.value ∙ c.in_ok-content.ensures.content ∙ ap (λ ns. names_bytes (names_of ns)) c.deref.ensures.value in
    exit_names c.size_law.ensures.fits c.args.component.now c.custom.new.self names c.deref-2.result.now (names_cost c.args.self.now) (c.in_err-custom.field-0).0 c.from_residual-in_err-custom.result c.from_residual-in_err-custom.ensures.1 some c.in_ok-names.ensures.short bytes less c.in_err-custom.ensures.too_large
