-- The name at the position is that of the list.
use Rattle.std.proofs.Common.{◌↔◌, IsTrue, subst, sym}
use Rattle.wac_names.specs.Clash.{Clash}
use Rattle.wac_names.specs.NameView.{text_of}
use Rattle.wac_names.specs.validation.Valid.{Text}
use Rattle.wac_names.proofs.lemmas.validation.ViewFacts.{at-names}
use Rattle.wac_names.proofs.validation.clashes.clashes_at.Goals as goal

pub returns : goal.returns
returns c =
    subst (λ (t : Text). IsTrue c.clash.result ↔ Clash t (text_of c.args.name.now))
    (sym (at-names c.args.names.now c.args.position c.index-names-position.result c.requires c.index-names-position.is)) c.clash.ensures
