use Rattle.wac_names.proofs.TrackFacts.{track-had, version-had}
use Rattle.wac_names.proofs.tracks.reading_laws.Goals as goal

pub returns : goal.returns
returns c = record { track = track-had; version = version-had }
