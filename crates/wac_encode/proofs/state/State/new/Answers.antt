use Rattle.std.proofs.Common.{ap, sym, subst}
use Rattle.wac_encode_scopes.specs.Roots.{IsRoot, items_of}
use Rattle.wac_encode.proofs.Roots.{no-some}
use Rattle.wac_encode.proofs.state.State.new.Goals as goal

pub returns-clause-state : goal.returns-clause-state
returns-clause-state c = λ types b. record { root = subst IsRoot (sym c.root.ensures.content) tt; good = c.root.ensures.good types b; held = λ r l is. absurd (no-some l is) }

pub returns-clause-empty : goal.returns-clause-empty
returns-clause-empty c = ap items_of c.root.ensures.content
