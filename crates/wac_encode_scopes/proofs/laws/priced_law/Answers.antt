use Rattle.wac_encode_scopes.proofs.Priced.{opens-priced, closes-priced}
use Rattle.wac_encode_scopes.proofs.laws.priced_law.Goals as goal

pub returns : goal.returns
returns c = record { opens = opens-priced; closes = closes-priced }
