use Rattle.std.proofs.Common.{[], ◌∷◌}
use Rattle.wac_binary.specs.private.declarations.WrittenDecls.{DeclState}
use Rattle.wac_binary.proofs.lemmas.declarations.DeclLaws.{type_none, declarations_kept, type_kept}
use Rattle.wac_binary.proofs.declarations.declarations.Declarations.new.Goals as goal

none : (c : goal.After-result-1) → DeclState [] c.new.result 0 (0 ∷ 0 ∷ 0 ∷ 0 ∷ 0 ∷ 0 ∷ 0 ∷ [])
none c = rw c.new.ensures type_none

pub invariant_of-result-2 : goal.invariant_of-result-2
invariant_of-result-2 c = type_kept (none c) _

pub returns : goal.returns
returns c = declarations_kept (none c) _
