-- What is read from a text is true of the text.
use Rattle.std.specs.Prelude.{ℕ, List}
use Rattle.wac_names.specs.Track.{HasTrack, HasVersion}
use Rattle.wac_names.specs.Reading.{read_track, read_version}

-- The track and the version that are read from a text are its own.
pub record ReadingLaws : Type 0 where
  pub track : (s : List ℕ) → HasTrack s (read_track s)
  pub version : (s : List ℕ) → HasVersion s (read_version s)
