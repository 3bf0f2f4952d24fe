use Rattle.wac_encode.proofs.Roots.{lent}
use Rattle.wac_encode.proofs.laws.lending_law.Goals as goal

pub returns : goal.returns
returns c = lent c.lending_law.ensures
