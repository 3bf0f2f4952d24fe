-- A text never has the faults of memory and of exporting.
use Rattle.std.proofs.Common.{◌≡◌, ◌≢◌, ℕ, List, codes, sym, subst, inl, inr}
use Rattle.wac_names.specs.Faults.{BracketFault, Front, HasFault, HashFault, InterfaceFault, Line, LockedFault, Must, PathFault, TailFault, UnlockedFault, UrlFault}
use Rattle.wac_names.specs.declared.fault.NameFault.{NameFault}
use Rattle.wac_names.specs.declared.fault.NameFault.TheVariants as fault

-- a fault that a text may have
abbrev pub IsOwn : NameFault → Type 0
IsOwn f = (f ≢ fault.OutOfMemory) × (f ≢ fault.NotExportable)

this : (f g : NameFault) → IsOwn g → f ≡ g → IsOwn f
this f g o e = subst IsOwn (sym e) o

must : {f : NameFault} {H later : Type 0} (g : NameFault) → IsOwn g → (later → IsOwn f) → Must f H g later → IsOwn f
must {f} g o l (inl m) = this f g o m.1
must {f} g o l (inr m) = l m.1

line : {f : NameFault} {fits here later : Type 0} → (here → IsOwn f) → (later → IsOwn f) → Line fits here later → IsOwn f
line h l (inl m) = h m.1
line h l (inr m) = l m.1

front : {f : NameFault} {later : Type 0} (start text : List ℕ) (here : List ℕ → Type 0) → ((rest : List ℕ) → here rest → IsOwn f) → (later → IsOwn f) → Front start text here later → IsOwn f
front start text here h l (inl m) = h m.1.0 m.1.2
front start text here h l (inr m) = l m.1

empty : IsOwn fault.Empty
empty = ((λ e. cc), λ e. cc)

label : IsOwn fault.BadLabel
label = ((λ e. cc), λ e. cc)

version : IsOwn fault.BadVersion
version = ((λ e. cc), λ e. cc)

bad_package : IsOwn fault.BadPackage
bad_package = ((λ e. cc), λ e. cc)

range : IsOwn fault.BadRange
range = ((λ e. cc), λ e. cc)

hash : IsOwn fault.BadHash
hash = ((λ e. cc), λ e. cc)

unclosed : IsOwn fault.Unclosed
unclosed = ((λ e. cc), λ e. cc)

trailing : IsOwn fault.Trailing
trailing = ((λ e. cc), λ e. cc)

hash-own : (f : NameFault) (text : List ℕ) → HashFault f text → IsOwn f
hash-own f text h = must fault.Unclosed unclosed (must fault.BadHash hash (must fault.Trailing trailing (λ b. absurd b))) h

tail-own : (f : NameFault) (text : List ℕ) → TailFault f text → IsOwn f
tail-own f text h = line (λ b. absurd b) (front (codes ",integrity=<") text (HashFault f) (hash-own f) (this f fault.Trailing trailing)) h

path-own : (f : NameFault) (text : List ℕ) → PathFault f text → IsOwn f
path-own f text h = must fault.BadLabel label (λ b. absurd b) h

unlocked-own : (f : NameFault) (text : List ℕ) → UnlockedFault f text → IsOwn f
unlocked-own f text h = must fault.Unclosed unclosed (must fault.BadPackage bad_package (must fault.BadRange range (λ b. absurd b))) h

locked-own : (f : NameFault) (text : List ℕ) → LockedFault f text → IsOwn f
locked-own f text h = must fault.Unclosed unclosed (must fault.BadPackage bad_package (must fault.BadVersion version (tail-own f _))) h

url-own : (f : NameFault) (text : List ℕ) → UrlFault f text → IsOwn f
url-own f text h = must fault.Unclosed unclosed (tail-own f _) h

interface-own : (f : NameFault) (text : List ℕ) → InterfaceFault f text → IsOwn f
interface-own f text h = must fault.BadPackage bad_package (must fault.BadLabel label (must fault.BadVersion version (λ b. absurd b))) h

bracket-own : (f : NameFault) (text : List ℕ) → BracketFault f text → IsOwn f
bracket-own f text h =
    front (codes "[constructor]") text _ (λ rest. must fault.BadLabel label (λ b. absurd b))
    (front (codes "[method]") text (PathFault f) (path-own f)
    (front (codes "[static]") text (PathFault f) (path-own f)
    (this f fault.BadLabel label))) h

pub own : (text : List ℕ) (f : NameFault) → HasFault text f → IsOwn f
own text f h =
    line (this f fault.Empty empty)
    (front (codes "[") text _ (λ _. bracket-own f text)
    (front (codes "unlocked-dep=<") text (UnlockedFault f) (unlocked-own f)
    (front (codes "locked-dep=<") text (LockedFault f) (locked-own f)
    (front (codes "url=<") text (UrlFault f) (url-own f)
    (front (codes "integrity=<") text (HashFault f) (hash-own f)
    (line (interface-own f text) (must fault.BadLabel label (λ b. absurd b)))))))) h.fault_of
