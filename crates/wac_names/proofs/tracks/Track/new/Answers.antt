use Rattle.wac_names.specs.Reading.{read_track}
use Rattle.wac_names.proofs.TrackFacts.{track-had}
use Rattle.wac_names.proofs.tracks.Track.new.Goals as goal

pub returns-clause-value : goal.returns-clause-value
unfolding read_track
returns-clause-value c =
    rw (c.track_at.ensures, c.versioned.ensures.before, c.in_ok-version.ensures.value) (track-had c.args.text.now)
