-- A text has a fault exactly where reading it answers that fault.
use Rattle.std.proofs.Common.{◌≡◌, ℕ, Bool, true, false, not, List, [], codes, Option, Some, None, Err, refl, ap, inl, inr}
use Rattle.std.proofs.lemmas.Bool.{cases_Bool, false≢true}
use Rattle.wac_names.specs.Text.{after, before, behind, ends, front, has, is_empty}
use Rattle.wac_names.specs.Label.{IsLabel, IsLowerLabel}
use Rattle.wac_names.specs.Kind.{Kind, hash, method, static}
use Rattle.wac_names.specs.Grammar.{IsHash, IsVersion}
use Rattle.wac_names.specs.Faults.{BracketFault, FaultOf, HasFault, HashFault, IfVersioned, InterfaceFault, LockedFault, Must, PathFault, TailFault, UnlockedFault, UrlFault}
use Rattle.wac_names.specs.Reading.{is_hash, is_label, is_package, is_version_piece, package_of, read, read_bracketed, read_hash, read_interface, read_locked, read_locked_inside, read_marked, read_path, read_placed, read_plain, read_tail, read_unlocked, read_unlocked_inside, read_url, version_piece}
use Rattle.wac_names.specs.declared.fault.NameFault.{NameFault}
use Rattle.wac_names.specs.declared.fault.NameFault.TheVariants as fault
use Rattle.wac_names.proofs.HashFacts.{hash-of_test, test-of_hash}
use Rattle.wac_names.proofs.LabelFacts.{label-of_test, lower_label-of_test, test-of_label, test-of_lower_label}
use Rattle.wac_names.proofs.RangeFacts.{range-fault}
use Rattle.wac_names.proofs.ReadFacts.{Iff, Tests, both_test, front_line, itself, line, must, must_both, no_fault, this_fault, with_fault}
use Rattle.wac_names.proofs.TextFacts.{is_empty-nil}

hash-tests : (text : List ℕ) → Tests (is_hash text) (IsHash text)
hash-tests text = (hash-of_test text, test-of_hash text)

label-tests : (text : List ℕ) → Tests (is_label text) (IsLabel text)
label-tests text = (label-of_test text, test-of_label text)

empty-tests : (text : List ℕ) → Tests (is_empty text) (text ≡ [])
empty-tests text = (is_empty-nil text, λ e. ap is_empty e)

package-tests : (a b : List ℕ) → Tests (is_package (package_of a b)) (IsLowerLabel a × IsLowerLabel b)
unfolding is_package
package-tests a b = both_test (lower_label-of_test a, test-of_lower_label a) (lower_label-of_test b, test-of_lower_label b)

-- what follows the first `@`, where there is one
version-tests : (text : List ℕ) → Tests (is_version_piece (version_piece text)) (IfVersioned text IsVersion)
unfolding version_piece is_version_piece
version-tests text = elim (cases_Bool (has 64 text)) [
  | inl there ↦ rw there ((λ e _. e), λ h. h refl)
  | inr absent ↦ rw absent ((λ _ e. absurd (false≢true e)), λ _. refl)
]

hash-fault : (f : NameFault) (text : List ℕ) → Iff (HashFault f text) (read_hash text ≡ Err f)
unfolding read_hash
hash-fault f text = must (itself (has 62 text)) (must (hash-tests (before 62 text)) (must (empty-tests (after 62 text)) (no_fault (before 62 text) f)))

tail-fault : (f : NameFault) (text : List ℕ) → Iff (TailFault f text) (read_tail text ≡ Err f)
unfolding read_tail
tail-fault f text =
    line (empty-tests text) (no_fault {A = Option (List ℕ)} None f)
    (front_line (codes ",integrity=<") text (HashFault f) (with_fault {B = Option (List ℕ)} Some (hash-fault f (behind (codes ",integrity=<") text)))
    (this_fault f fault.Trailing))

locked-fault : (f : NameFault) (text : List ℕ) → Iff (LockedFault f text) (read_locked text ≡ Err f)
unfolding read_locked read_locked_inside
locked-fault f text =
    must (itself (has 62 text))
    (must (package-tests (before 58 (before 64 (before 62 text))) (after 58 (before 64 (before 62 text))))
    (must (version-tests (before 62 text))
    (with_fault _ (tail-fault f (after 62 text)))))

url-fault : (f : NameFault) (text : List ℕ) → Iff (UrlFault f text) (read_url text ≡ Err f)
unfolding read_url
url-fault f text =
    must_both (itself (has 62 text)) (not-tests (has 60 (before 62 text)))
    (with_fault _ (tail-fault f (after 62 text)))
  where
    not-tests : (b : Bool) → Tests (not b) (¬ (b ≡ true))
    not-tests true = ((λ e. absurd (false≢true e)), λ n. absurd (n refl))
    not-tests false = ((λ _ e. false≢true e), λ _. refl)

interface-fault : (f : NameFault) (text : List ℕ) → Iff (InterfaceFault f text) (read_interface text ≡ Err f)
unfolding read_interface
interface-fault f text =
    must (package-tests (before 58 (before 64 text)) (before 47 (after 58 (before 64 text))))
    (must (label-tests (after 47 (after 58 (before 64 text))))
    (must (version-tests text) (no_fault _ f)))

path-fault : (make : List ℕ → List ℕ → Kind) (f : NameFault) (text : List ℕ) → Iff (PathFault f text) (read_path make text ≡ Err f)
path-fault make f text = must_both (label-tests (before 46 text)) (label-tests (after 46 text)) (no_fault _ f)

bracket-fault : (f : NameFault) (text : List ℕ) → Iff (BracketFault f text) (read_bracketed text ≡ Err f)
unfolding read_bracketed
bracket-fault f text =
    front_line (codes "[constructor]") text (λ rest. Must f (IsLabel rest) fault.BadLabel ⊥) (must (label-tests (behind (codes "[constructor]") text)) (no_fault _ f))
    (front_line (codes "[method]") text (PathFault f) (path-fault method f (behind (codes "[method]") text))
    (front_line (codes "[static]") text (PathFault f) (path-fault static f (behind (codes "[static]") text))
    (this_fault f fault.BadLabel)))

unlocked-fault : (f : NameFault) (text : List ℕ) → Iff (UnlockedFault f text) (read_unlocked text ≡ Err f)
unfolding read_unlocked read_unlocked_inside
unlocked-fault f text =
    must (itself (ends 62 text))
    (must (package-tests (before 58 (before 64 (front text))) (after 58 (before 64 (front text))))
    (with_fault _ (range-fault f (front text))))

fault-read : (f : NameFault) (text : List ℕ) → Iff (FaultOf f text) (read text ≡ Err f)
unfolding read read_marked read_placed read_plain
fault-read f text =
    line (empty-tests text) (this_fault f fault.Empty)
    (front_line (codes "[") text (λ _. BracketFault f text) (bracket-fault f text)
    (front_line (codes "unlocked-dep=<") text (UnlockedFault f) (unlocked-fault f (behind (codes "unlocked-dep=<") text))
    (front_line (codes "locked-dep=<") text (LockedFault f) (locked-fault f (behind (codes "locked-dep=<") text))
    (front_line (codes "url=<") text (UrlFault f) (url-fault f (behind (codes "url=<") text))
    (front_line (codes "integrity=<") text (HashFault f) (with_fault hash (hash-fault f (behind (codes "integrity=<") text)))
    (line (itself (has 58 text)) (interface-fault f text)
    (must (label-tests text) (no_fault _ f))))))))

-- the fault of a text is what reading it answers
pub read-has_fault : (f : NameFault) (text : List ℕ) → HasFault text f → read text ≡ Err f
read-has_fault f text h = (fault-read f text).0 h.fault_of

pub has_fault-read : (f : NameFault) (text : List ℕ) → read text ≡ Err f → HasFault text f
has_fault-read f text e = record { fault_of = (fault-read f text).1 e }
