use Rattle.wac_encode_scopes.proofs.Rooted.{goes-on-lent}
use Rattle.wac_encode_scopes.proofs.root.lending_law.Goals as goal

pub returns : goal.returns
returns c = goes-on-lent c.root_law.ensures.root_goes_on
