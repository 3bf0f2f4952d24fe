-- Two tracks are `==` exactly where they are the same track.
use Rattle.std.proofs.Common.{◌≡◌, ℕ, true, false, ◌&&◌, eqb, List, ap, ◌∙◌}
use Rattle.std.proofs.lemmas.Bool.{and_from, and_parts, eq-eqb, eqb-true, false≢true}
use Rattle.std.specs.Cmp.Lexicographic.{pointwise, bytes_decides}
use Rattle.wac_names.specs.Track as spec
use Rattle.wac_names.specs.Views.{track_view}
use Rattle.wac_names.specs.declared.tracks.Track.{Track}
use Rattle.wac_names.specs.declared.tracks.Track.TheVariants as track
use Rattle.wac_names.specs.contracts.tracks.TrackPartialEq as equal
use Rattle.wac_names.proofs.ReadFacts.{Iff}

never : {P : Type 0} → (P → ⊥) → Iff (false ≡ true) P
never n = ((λ e. absurd (false≢true e)), λ p. absurd (n p))

numbered : (make : List ℕ → ℕ → spec.Track) (x y : List ℕ) (m n : ℕ) → (make x m ≡ make y n → (x ≡ y) × (m ≡ n))
    → Iff ((pointwise eqb x y && eqb m n) ≡ true) (make x m ≡ make y n)
numbered make x y m n parts = (
  λ e. let p = and_parts (pointwise eqb x y) (eqb m n) e in
      ap (λ (a : List ℕ). make a m) ((bytes_decides x y).0 p.0) ∙ ap (λ (k : ℕ). make y k) (eqb-true m n p.1),
  λ e. let p = parts e in and_from (pointwise eqb x y) (eqb m n) ((bytes_decides x y).1 p.0) (eq-eqb m n p.1),
)

pub same-track : (a b : Track) → Iff ((equal.TheImpl.eq-value).it a b ≡ true) (track_view a ≡ track_view b)
same-track (track.Text x) (track.Text y) = ((λ e. ap spec.whole ((bytes_decides x.now y.now).0 e)), λ e. (bytes_decides x.now y.now).1 (cc))
same-track (track.Major x m) (track.Major y n) = numbered spec.major x.now y.now m n (λ e. (cc, cc))
same-track (track.Minor x m) (track.Minor y n) = numbered spec.minor x.now y.now m n (λ e. (cc, cc))
same-track (track.Patch x m) (track.Patch y n) = numbered spec.patch x.now y.now m n (λ e. (cc, cc))
same-track (track.Text x) (track.Major y n) = never (λ e. cc)
same-track (track.Text x) (track.Minor y n) = never (λ e. cc)
same-track (track.Text x) (track.Patch y n) = never (λ e. cc)
same-track (track.Major x m) (track.Text y) = never (λ e. cc)
same-track (track.Major x m) (track.Minor y n) = never (λ e. cc)
same-track (track.Major x m) (track.Patch y n) = never (λ e. cc)
same-track (track.Minor x m) (track.Text y) = never (λ e. cc)
same-track (track.Minor x m) (track.Major y n) = never (λ e. cc)
same-track (track.Minor x m) (track.Patch y n) = never (λ e. cc)
same-track (track.Patch x m) (track.Text y) = never (λ e. cc)
same-track (track.Patch x m) (track.Major y n) = never (λ e. cc)
same-track (track.Patch x m) (track.Minor y n) = never (λ e. cc)
