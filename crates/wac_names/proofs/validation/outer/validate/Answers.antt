-- Each refusal is the first fault.
use Rattle.std.proofs.Common.{ap, ◌∙◌}
use Rattle.wac_names.specs.private.validation.Views.{name_texts, texts}
use Rattle.wac_names.proofs.lemmas.validation.NamingFacts.{answered}
use Rattle.wac_names.proofs.validation.outer.validate.Goals as goal

pub returns : goal.returns
returns c =
    answered (texts c.args.imports.now) (texts c.args.exports.now) (name_texts c.deref.result.now) c.exportable.result
    (ap name_texts c.deref.ensures.value ∙ c.in_ok-exports.ensures.same) c.in_ok-names_apart.ensures.apart c.in_ok-exports.ensures.apart c.exportable.ensures
