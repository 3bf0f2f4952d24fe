-- The version and the track that are read of a text are those that it has.
use Rattle.std.proofs.Common.{◌≡◌, ℕ, true, List, ◌∷◌, ◌++◌, codes, Option, Some, None, Result, Ok, Err, refl, sym, ap, ◌∙◌, inl, inr, append_assoc, subst}
use Rattle.std.specs.Result.{result_ok}
use Rattle.std.proofs.lemmas.Bool.{and_from, and_parts, cases_Bool, false≢true}
use Rattle.semver.specs.Parse.{Parts, version_parts}
use Rattle.semver.specs.declared.error.Error.{Error}
use Rattle.wac_names.specs.Text.{after, before, is_empty}
use Rattle.wac_names.specs.Kind.{Package, interface, joined, marked}
use Rattle.wac_names.specs.Grammar.{HasKind, IsKind, IsPackage}
use Rattle.wac_names.specs.Reading.{is_interface_name, is_label, is_package, is_version_piece, package_of, read_interface, read_track, read_version, track_at, version_piece}
use Rattle.wac_names.specs.Track.{HasTrack, HasVersion, IsVersioned, OneTrack, OneTrackLaws, Track, parts_piece}
use Rattle.wac_names.specs.declared.fault.NameFault.TheVariants as fault
use Rattle.wac_names.proofs.KindFacts.{append-lacks, before-marked, cons-lacks, interface-read, interface-whole, labels-of, lacks, piece-marked, shape, test-of_package}
use Rattle.wac_names.proofs.LabelFacts.{test-of_label}
use Rattle.wac_names.proofs.ReadFacts.{needs-true}
use Rattle.wac_names.proofs.TextFacts.{after-there, before-there, is_empty-nil}

ok-part : (r : Result Parts Error) (p : Parts) → result_ok r ≡ Some p → r ≡ Ok p
ok-part (Ok q) p e = cc
ok-part (Err f) p e = cc

-- what was read as the version of a piece
pub record IsPiece (piece : Option (List ℕ)) (parts : Parts) : Type 0 where
  pub version : List ℕ
  pub there : piece ≡ Some version
  pub reads : version_parts version ≡ Ok parts

piece-of : (piece : Option (List ℕ)) (parts : Parts) → parts_piece piece ≡ Some parts → IsPiece piece parts
unfolding parts_piece
piece-of None parts e = cc
piece-of (Some v) parts e = record { version = v; there = refl; reads = ok-part (version_parts v) parts e }

-- the version that was read is that of the text
pub version-read : (text : List ℕ) (parts : Parts) → read_version text ≡ Some parts → IsVersioned text (before 64 text) parts
unfolding read_version is_interface_name is_version_piece read_interface
version-read text parts e = elim (cases_Bool (is_interface_name (before 64 text))) [
  | inl named ↦
      let name = before 64 text in
      let p = package_of (before 58 name) (before 47 (after 58 name)) in
      let i = after 47 (after 58 name) in
      let q = and_parts (is_package p) (is_label i) named in
      let piece = piece-of (version_piece text) parts (rw named at e) in
      let good : is_version_piece (version_piece text) ≡ true = rw (piece.there, piece.reads) refl in
      let made : read_interface text ≡ Ok (interface p i (version_piece text)) =
      needs-true (is_package p) fault.BadPackage _ q.0 ∙ (needs-true (is_label i) fault.BadLabel _ q.1 ∙ needs-true (is_version_piece (version_piece text)) fault.BadVersion _ good) in
      let kind = interface-read text (interface p i (version_piece text)) made in
      record {
        of = p;
        interface_name = i;
        version = piece.version;
        kind = subst (λ (v : Option (List ℕ)). HasKind text (interface p i v)) piece.there kind;
        reads = piece.reads;
        named = append_assoc (before 58 name) (58 ∷ before 47 (after 58 name)) (47 ∷ i) ∙ interface-whole name q.1;
      }
  | inr other ↦ cc (rw other at e)
]

allowed-of : (text : List ℕ) (p : Package) (i v : List ℕ) → HasKind text (interface p i (Some v)) → IsPackage p × (is_label i ≡ true)
unfolding IsKind
allowed-of text p i v h = (h.allowed.0, test-of_label i h.allowed.1)

makes-of : (text : List ℕ) (p : Package) (i v : List ℕ) → HasKind text (interface p i (Some v)) → (p.namespace ++ 58 ∷ (p.name ++ 47 ∷ i)) ++ marked (codes "@") (Some v) ≡ text
unfolding joined
makes-of text p i v h = sym (shape p.namespace p.name i (marked (codes "@") (Some v))) ∙ h.makes

interface_name-made : (p : Package) (i : List ℕ) → IsPackage p → is_label i ≡ true → is_interface_name (p.namespace ++ 58 ∷ (p.name ++ 47 ∷ i)) ≡ true
unfolding is_interface_name
interface_name-made p i g h =
    let l = labels-of p g in
    let no_colon = lacks 58 p.namespace l.namespace refl in
    let no_slash = lacks 47 p.name l.name refl in
    rw (before-there 58 p.namespace (p.name ++ 47 ∷ i) no_colon, after-there 58 p.namespace (p.name ++ 47 ∷ i) no_colon, before-there 47 p.name i no_slash, after-there 47 p.name i no_slash)
    (and_from (is_package p) (is_label i) (test-of_package p g) h)

-- the version of a text is what was read
pub read-version : (text name : List ℕ) (parts : Parts) → IsVersioned text name parts → (read_version text ≡ Some parts) × (before 64 text ≡ name)
unfolding read_version parts_piece
read-version text name parts v =
    let p = v.of in
    let i = v.interface_name in
    let a = allowed-of text p i v.version v.kind in
    let l = labels-of p a.0 in
    let front : List ℕ = p.namespace ++ 58 ∷ (p.name ++ 47 ∷ i) in
    let no_at = append-lacks 64 p.namespace (58 ∷ (p.name ++ 47 ∷ i)) (lacks 64 p.namespace l.namespace refl)
    (cons-lacks 64 58 (p.name ++ 47 ∷ i) refl (append-lacks 64 p.name (47 ∷ i) (lacks 64 p.name l.name refl) (cons-lacks 64 47 i refl (lacks 64 i a.1 refl)))) in
    let m = makes-of text p i v.version v.kind in
    let name_is : before 64 text ≡ front = sym (ap (before 64) m) ∙ before-marked front (Some v.version) no_at in
    let piece_is : version_piece text ≡ Some v.version = sym (ap version_piece m) ∙ piece-marked front (Some v.version) no_at in (
      rw (name_is, interface_name-made p i a.0 a.1, piece_is, v.reads) refl,
      name_is ∙ (sym (append_assoc p.namespace (58 ∷ p.name) (47 ∷ i)) ∙ v.named),
    )

-- the version that a text has
version-by : (text : List ℕ) (o : Option Parts) → read_version text ≡ o → HasVersion text o
version-by text None e = λ w. let r = read-version text w.0 w.1 w.2 in cc
version-by text (Some parts) e = (before 64 text, version-read text parts e)

pub version-had : (text : List ℕ) → HasVersion text (read_version text)
version-had text = version-by text (read_version text) refl

-- the track that a text has
track-by : (text : List ℕ) (o : Option Parts) → read_version text ≡ o → HasTrack text (track_at text (before 64 text) o)
track-by text None e = inr ((λ w. let r = read-version text w.0 w.1 w.2.0 in cc), refl)
track-by text (Some parts) e = elim (cases_Bool (is_empty parts.3)) [
  | inl release ↦ rw release (inl (before 64 text, parts, (version-read text parts e, is_empty-nil parts.3 release), refl))
  | inr pre ↦ rw pre (inr (
    (λ w. let r = read-version text w.0 w.1 w.2.0 in
        let same : parts ≡ w.1 = some-value parts w.1 (sym e ∙ r.0) in
        false≢true (sym pre ∙ (ap (λ (q : Parts). is_empty q.3) same ∙ ap is_empty w.2.1))),
    refl,
  ))
]
  where
    some-value : (x y : Parts) → Some x ≡ Some y → x ≡ y
    some-value x y e = cc

pub track-had : (text : List ℕ) → HasTrack text (read_track text)
unfolding read_track
track-had text = track-by text (read_version text) refl

-- a track that a text has is the one that is read
pub had-track : (text : List ℕ) (t : Track) → HasTrack text t → t ≡ read_track text
unfolding read_track
had-track text t (inl w) =
    let r = read-version text w.0 w.1 w.2.0 in
    let nothing : is_empty w.1.3 ≡ true = ap is_empty w.2.1 in
    w.3 ∙ sym (rw (r.0, r.1, nothing) refl)
had-track text t (inr w) = had-by (read_version text) refl
  where
    had-by : (o : Option Parts) → read_version text ≡ o → t ≡ track_at text (before 64 text) o
    had-by None e = w.1
    had-by (Some parts) e = elim (cases_Bool (is_empty parts.3)) [
      | inl release ↦ absurd (w.0 (before 64 text, parts, (version-read text parts e, is_empty-nil parts.3 release)))
      | inr pre ↦ rw pre w.1
    ]

-- two texts have one track exactly where the tracks that are read are the same
pub one_track-read : (s t : List ℕ) → OneTrack s t → read_track s ≡ read_track t
one_track-read s t w = sym (had-track s w.0 w.1) ∙ had-track t w.0 w.2

pub read-one_track : (s t : List ℕ) → read_track s ≡ read_track t → OneTrack s t
read-one_track s t e = (read_track s, track-had s, subst (HasTrack t) (sym e) (track-had t))

pub laws : OneTrackLaws
laws = record {
  reflexive = λ s. read-one_track s s refl;
  symmetric = λ s t w. read-one_track t s (sym (one_track-read s t w));
  transitive = λ s t u v w. read-one_track s u (one_track-read s t v ∙ one_track-read t u w);
  some = λ s. (read_track s, track-had s);
  one = λ s j k v w. had-track s j v ∙ sym (had-track s k w);
}
