use Rattle.std.proofs.Common.{◌∙◌, arith}
use Rattle.wac_binary.proofs.lemmas.declarations.DeclLaws.{written_type, declarations_kept, type_kept, type_same}
use Rattle.wac_binary.proofs.declarations.declarations.Declarations.share.Goals as goal

pub share-requires : goal.share-requires
share-requires c = rw (c.self.invariant.bytes_are) (omega (arith, c.self.invariant.fits.size))

pub invariant_of-result : goal.invariant_of-result
invariant_of-result c = (written_type (type_same c.self.invariant c.in_ok-share.ensures), tt)

pub invariant_of-result-2 : goal.invariant_of-result-2
invariant_of-result-2 c = type_kept (type_same c.self.invariant c.in_ok-share.ensures) _

pub returns : goal.returns
returns c = declarations_kept (type_same c.self.invariant c.in_ok-share.ensures) _ ∙ c.self.view_is
