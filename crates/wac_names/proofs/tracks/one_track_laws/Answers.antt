use Rattle.wac_names.proofs.TrackFacts.{laws}
use Rattle.wac_names.proofs.tracks.one_track_laws.Goals as goal

pub returns : goal.returns
returns c = laws
