use Rattle.std.proofs.Common.{◌≡◌, ℕ, List, Bool, true, sym, ◌∙◌}
use Rattle.wac_names.specs.declared.tracks.Track.{Track}
use Rattle.wac_names.specs.contracts.tracks.TrackPartialEq as equal
use Rattle.wac_names.specs.Track.{HasTrack, OneTrack}
use Rattle.wac_names.specs.Views.{track_view}
use Rattle.wac_names.proofs.ReadFacts.{Iff}
use Rattle.wac_names.proofs.SameTrack.{same-track}
use Rattle.wac_names.proofs.TrackFacts.{had-track, one_track-read}
use Rattle.wac_names.proofs.tracks.are_semver_compatible.Goals as goal

compatible : (s t : List ℕ) (a b : Track) (r : Bool) → HasTrack s (track_view a) → HasTrack t (track_view b) → r ≡ (equal.TheImpl.eq-value).it a b
    → Iff (r ≡ true) (OneTrack s t)
compatible s t a b r h g e = (
  λ y. let same : track_view a ≡ track_view b = (same-track a b).0 (sym e ∙ y) in (track_view b, rw same at h, g),
  λ w. e ∙ (same-track a b).1 (had-track s (track_view a) h ∙ (one_track-read s t w ∙ sym (had-track t (track_view b) g))),
)

pub returns-clause-value : goal.returns-clause-value
returns-clause-value c = compatible c.args.a.now c.args.b.now c.in_ok-a.a c.in_ok-b.b c.eq.result c.in_ok-a.ensures.value c.in_ok-b.ensures.value c.eq.ensures
