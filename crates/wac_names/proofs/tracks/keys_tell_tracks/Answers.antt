use Rattle.wac_names.proofs.KeyFacts.{keys}
use Rattle.wac_names.proofs.tracks.keys_tell_tracks.Goals as goal

pub returns : goal.returns
returns c = keys
