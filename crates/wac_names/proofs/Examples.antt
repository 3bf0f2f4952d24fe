-- Worked examples, by computing: the kind or the fault of a text, pairs that clash, pairs of one track.
use Rattle.std.proofs.Common.{codes, Some, None, refl}
use Rattle.semver.specs.Parse.{digits_from, scan}
use Rattle.wac_names.specs.Text.{after, before, begins, ends, front, has}
use Rattle.wac_names.specs.Kind.{Package, hash, interface, label, method, url}
use Rattle.wac_names.specs.Grammar.{HasKind}
use Rattle.wac_names.specs.Faults.{HasFault}
use Rattle.wac_names.specs.Track.{OneTrack, parts_piece, series}
use Rattle.wac_names.specs.Reading.{has_algorithm, is_digest, is_hash, is_hash_item, is_interface_name, is_label, is_lower_label, is_package, is_padding, is_version_piece, read, read_bracketed, read_hash, read_interface, read_marked, read_placed, read_plain, read_range, read_tail, read_track, read_unlocked, read_unlocked_inside, read_url, read_version, version_piece}
use Rattle.wac_names.specs.declared.fault.NameFault.TheVariants as fault
use Rattle.wac_names.proofs.FaultFacts.{has_fault-read}
use Rattle.wac_names.proofs.KindFacts.{kind-read}
use Rattle.wac_names.proofs.TrackFacts.{read-one_track, one_track-read}

-- the package `a:b`
ab : Package
ab = record { namespace = codes "a"; name = codes "b" }

pub label_of_fragments : HasKind (codes "a-1b") (label (codes "a-1b"))
unfolding read read_marked read_placed read_plain begins has is_label
label_of_fragments = kind-read (codes "a-1b") (label (codes "a-1b")) refl

pub label_of_two_cases : HasKind (codes "A-b") (label (codes "A-b"))
unfolding read read_marked read_placed read_plain begins has is_label
label_of_two_cases = kind-read (codes "A-b") (label (codes "A-b")) refl

pub fragment_of_two_cases : HasFault (codes "aB") fault.BadLabel
unfolding read read_marked read_placed read_plain begins has is_label
fragment_of_two_cases = has_fault-read fault.BadLabel (codes "aB") refl

pub label_from_digit : HasFault (codes "1a") fault.BadLabel
unfolding read read_marked read_placed read_plain begins has is_label
label_from_digit = has_fault-read fault.BadLabel (codes "1a") refl

pub empty_text : HasFault (codes "") fault.Empty
unfolding read
empty_text = has_fault-read fault.Empty (codes "") refl

pub constructor_of_nothing : HasFault (codes "[constructor]") fault.BadLabel
unfolding read read_bracketed begins is_label
constructor_of_nothing = has_fault-read fault.BadLabel (codes "[constructor]") refl

pub method_of_resource : HasKind (codes "[method]a.b") (method (codes "a") (codes "b"))
unfolding read read_bracketed begins before after is_label
method_of_resource = kind-read (codes "[method]a.b") (method (codes "a") (codes "b")) refl

pub package_in_upper_case : HasFault (codes "a:B/c") fault.BadPackage
unfolding read read_marked read_placed read_plain read_interface begins has before after is_label is_lower_label is_package
package_in_upper_case = has_fault-read fault.BadPackage (codes "a:B/c") refl

pub interface_with_version : HasKind (codes "a:b/c@1.0.0") (interface (record { namespace = codes "a"; name = codes "b" }) (codes "c") (Some (codes "1.0.0")))
unfolding read read_marked read_placed read_plain read_interface begins has before after is_label is_lower_label is_package version_piece is_version_piece digits_from scan
interface_with_version = kind-read (codes "a:b/c@1.0.0") (interface (record { namespace = codes "a"; name = codes "b" }) (codes "c") (Some (codes "1.0.0"))) refl

pub version_of_two_numbers : HasFault (codes "a:b/c@1.0") fault.BadVersion
unfolding read read_marked read_placed read_plain read_interface begins has before after is_label is_lower_label is_package version_piece is_version_piece digits_from scan
version_of_two_numbers = has_fault-read fault.BadVersion (codes "a:b/c@1.0") refl

pub range_without_braces : HasFault (codes "unlocked-dep=<a:b@1.0.0>") fault.BadRange
unfolding read read_marked read_unlocked read_unlocked_inside read_range begins has before after ends front is_label is_lower_label is_package version_piece
range_without_braces = has_fault-read fault.BadRange (codes "unlocked-dep=<a:b@1.0.0>") refl

pub dependency_not_closed : HasFault (codes "unlocked-dep=<a:b") fault.Unclosed
unfolding read read_marked read_unlocked begins ends
dependency_not_closed = has_fault-read fault.Unclosed (codes "unlocked-dep=<a:b") refl

pub empty_url : HasKind (codes "url=<>") (url (codes "") None)
unfolding read read_marked read_placed read_url read_tail begins has before after
empty_url = kind-read (codes "url=<>") (url (codes "") None) refl

pub url_with_rest : HasFault (codes "url=<u>x") fault.Trailing
unfolding read read_marked read_placed read_url read_tail begins has before after
url_with_rest = has_fault-read fault.Trailing (codes "url=<u>x") refl

pub padded_hash : HasKind (codes "integrity=<sha256-aa==>") (hash (codes "sha256-aa=="))
unfolding read read_marked read_placed read_hash is_hash is_hash_item has_algorithm is_digest is_padding begins has before after
padded_hash = kind-read (codes "integrity=<sha256-aa==>") (hash (codes "sha256-aa==")) refl

pub hash_of_another_algorithm : HasFault (codes "integrity=<md5-a>") fault.BadHash
unfolding read read_marked read_placed read_hash is_hash is_hash_item has_algorithm begins has before after
hash_of_another_algorithm = has_fault-read fault.BadHash (codes "integrity=<md5-a>") refl

pub one_minor_track : OneTrack (codes "a:b/c@0.2.0") (codes "a:b/c@0.2.9+x")
unfolding read_track read_version is_interface_name parts_piece version_piece series has before after is_label is_lower_label is_package digits_from scan
one_minor_track = read-one_track (codes "a:b/c@0.2.0") (codes "a:b/c@0.2.9+x") refl

pub one_major_track : OneTrack (codes "a:b/c@1.0.0") (codes "a:b/c@1.9.0")
unfolding read_track read_version is_interface_name parts_piece version_piece series has before after is_label is_lower_label is_package digits_from scan
one_major_track = read-one_track (codes "a:b/c@1.0.0") (codes "a:b/c@1.9.0") refl

pub two_patch_tracks : OneTrack (codes "a:b/c@0.0.1") (codes "a:b/c@0.0.2") → ⊥
unfolding read_track read_version is_interface_name parts_piece version_piece series has before after is_label is_lower_label is_package digits_from scan
two_patch_tracks w = let e = one_track-read (codes "a:b/c@0.0.1") (codes "a:b/c@0.0.2") w in cc

pub pre_release_apart : OneTrack (codes "a:b/c@1.0.0-rc") (codes "a:b/c@1.0.0") → ⊥
unfolding read_track read_version is_interface_name parts_piece version_piece series has before after is_label is_lower_label is_package digits_from scan
pre_release_apart w = let e = one_track-read (codes "a:b/c@1.0.0-rc") (codes "a:b/c@1.0.0") w in cc
