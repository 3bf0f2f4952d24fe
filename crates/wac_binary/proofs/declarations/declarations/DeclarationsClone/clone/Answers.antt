use Rattle.std.proofs.Common.{◌∙◌}
use Rattle.wac_binary.proofs.lemmas.declarations.DeclLaws.{written_type, declarations_kept, type_kept, type_same}
use Rattle.wac_binary.proofs.declarations.declarations.DeclarationsClone.clone.Goals as goal

pub invariant_of-result : goal.invariant_of-result
invariant_of-result c = (written_type (type_same c.self.invariant c.in_ok-clone.ensures.cases), tt)

pub invariant_of-result-2 : goal.invariant_of-result-2
invariant_of-result-2 c = type_kept (type_same c.self.invariant c.in_ok-clone.ensures.cases) _

pub returns : goal.returns
returns c = record { cases = declarations_kept (type_same c.self.invariant c.in_ok-clone.ensures.cases) _ ∙ c.self.view_is }
