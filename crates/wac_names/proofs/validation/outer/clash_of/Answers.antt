-- The texts of the fault are those at the positions.
use Rattle.std.proofs.Common.{◌∙◌, sym}
use Rattle.wac_names.proofs.lemmas.validation.NamingFacts.{clash_same}
use Rattle.wac_names.proofs.lemmas.validation.ViewFacts.{at-names}
use Rattle.wac_names.proofs.validation.outer.clash_of.Goals as goal

pub returns : goal.returns
returns c =
    clash_same _ _ _ _
    (c.in_ok-first.ensures.ok ∙ (c.as_str.ensures.value ∙ sym (at-names c.args.names.now c.args.one c.index-names-one.result c.requires.one c.index-names-one.is)))
    (c.in_ok-second.ensures.ok ∙ (c.as_str-2.ensures.value ∙ sym (at-names c.args.names.now c.args.other c.index-names-other.result c.requires.other c.index-names-other.is)))
