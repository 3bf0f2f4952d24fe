-- Names are apart, or the first two that clash are the fault.
use Rattle.std.proofs.Common.{ap, ◌∙◌}
use Rattle.wac_names.specs.validation.FirstFault.{fault_view}
use Rattle.wac_names.specs.private.validation.Views.{name_texts, texts}
use Rattle.wac_names.proofs.lemmas.validation.NamingFacts.{are_names, clash_fault, none_of, some_of}
use Rattle.wac_names.proofs.validation.outer.names_apart.Goals as goal

pub returns-in_default-clause-apart : goal.returns-in_default-clause-apart
returns-in_default-clause-apart c =
    are_names (texts c.args.written.now) (name_texts c.deref.result.now) (ap name_texts c.deref.ensures.value ∙ c.in_ok-names.ensures.same) c.in_ok-names.ensures.named
    (none_of c.in_ok-pair.field-0 _ _ c.in_default.is c.in_ok-pair.ensures)

pub returns-clause-fault : goal.returns-clause-fault
returns-clause-fault c =
    let found = some_of c.in_ok-pair.field-0 c.in-Some.pair _ _ c.in-Some.is c.in_ok-pair.ensures in
    clash_fault (texts c.args.written.now) (name_texts c.deref.result.now) (name_texts c.deref-2.result.now) c.in-Some.pair.0 c.in-Some.pair.1 (fault_view c.in_ok-source.source)
    (ap name_texts c.deref.ensures.value ∙ c.in_ok-names.ensures.same) (ap name_texts c.deref-2.ensures.value ∙ c.in_ok-names.ensures.same) c.in_ok-names.ensures.named found.2 c.in_ok-source.ensures
