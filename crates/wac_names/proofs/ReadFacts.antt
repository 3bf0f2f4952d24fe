-- What a test, a front and a fault say of what was read.
use Rattle.std.proofs.Common.{◌≡◌, ℕ, Bool, true, false, ◌&&◌, List, ◌++◌, Ok, Err, refl, sym, ap, ◌∙◌, inl, inr, cond, subst}
use Rattle.std.proofs.Math.Seq.{drop-append_seam}
use Rattle.std.proofs.lemmas.Bool.{and_parts, and_from, false≢true}
use Rattle.wac_names.specs.Text.{begins, behind}
use Rattle.wac_names.specs.Faults.{Follows, Front, Line, Must}
use Rattle.wac_names.specs.Reading.{Read, needs, with}
use Rattle.wac_names.specs.declared.fault.NameFault.{NameFault}
use Rattle.wac_names.proofs.TextFacts.{begins-there, begins-whole}

-- two facts, each from the other
abbrev pub Iff : Type 0 → Type 0 → Type 0
Iff A B = (A → B) × (B → A)

-- a test, and what it tests
abbrev pub Tests : Bool → Type 0 → Type 0
Tests b P = Iff (b ≡ true) P

-- what was read, and a fault
abbrev pub ok : {A : Type 0} → A → Read A
ok x = Ok x

abbrev pub bad : {A : Type 0} → NameFault → Read A
bad f = Err f

pub ok-value : {A : Type 0} (x y : A) → ok x ≡ ok y → x ≡ y
ok-value x y e = cc

-- what was read behind a test
pub needs-ok : {A : Type 0} (b : Bool) (g : NameFault) (r : Read A) (x : A) → needs b g r ≡ Ok x → (b ≡ true) × (r ≡ Ok x)
needs-ok true g r x e = (refl, e)
needs-ok false g r x e = cc

pub needs-true : {A : Type 0} (b : Bool) (g : NameFault) (r : Read A) → b ≡ true → needs b g r ≡ r
needs-true b g r e = rw e refl

-- what was made of what was read
pub with-ok : {A B : Type 0} (make : A → B) (r : Read A) (y : B) → with make r ≡ Ok y → (x : A) × (r ≡ Ok x) × (make x ≡ y)
with-ok make (Ok x) y e = (x, refl, ok-value (make x) y e)
with-ok make (Err f) y e = cc

pub with-made : {A B : Type 0} (make : A → B) (r : Read A) (x : A) → r ≡ Ok x → with make r ≡ Ok (make x)
with-made make r x e = rw e refl

pub if-true : {A : Type 0} (b : Bool) (x y : A) → b ≡ true → cond b x y ≡ x
if-true b x y e = rw e refl

pub if-false : {A : Type 0} (b : Bool) (x y : A) → b ≡ false → cond b x y ≡ y
if-false b x y e = rw e refl

-- what stands behind a front that stands there
pub behind-there : (start rest : List ℕ) → behind start (start ++ rest) ≡ rest
behind-there start rest = drop-append_seam start rest

-- ---- the faults

-- nothing stands against what was read
pub no_fault : {A : Type 0} (x : A) (f : NameFault) → Iff ⊥ (ok x ≡ bad f)
no_fault x f = (λ b. absurd b, λ e. cc)

-- a fault, whatever else
pub this_fault : {A : Type 0} (f g : NameFault) → Iff (f ≡ g) (bad {A = A} g ≡ bad f)
this_fault {A} f g = (λ e. ap (bad {A = A}) (sym e), λ e. cc)

-- what must hold, and its test
must-by : {A : Type 0} (f g : NameFault) (b : Bool) (H later : Type 0) (r : Read A) → Tests b H → Iff later (r ≡ Err f)
    → Iff (Must f H g later) (needs b g r ≡ Err f)
must-by {A} f g true H later r t l = (to, λ e. inr (t.0 refl, l.1 e))
  where
    to : Must f H g later → r ≡ Err f
    to (inl refused) = absurd (refused.0 (t.0 refl))
    to (inr there) = l.0 there.1
must-by {A} f g false H later r t l = (to, λ e. inl (λ h. absurd (false≢true (t.1 h)), cc))
  where
    to : Must f H g later → bad {A = A} g ≡ bad f
    to (inl refused) = ap (bad {A = A}) (sym refused.1)
    to (inr there) = absurd (false≢true (t.1 there.0))

pub must : {A : Type 0} {f g : NameFault} {b : Bool} {H later : Type 0} {r : Read A} → Tests b H → Iff later (r ≡ Err f)
    → Iff (Must f H g later) (needs b g r ≡ Err f)
must {A} {f} {g} {b} {H} {later} {r} t l = must-by f g b H later r t l

-- two things that must hold, with one fault
must_both-by : {A : Type 0} (f g : NameFault) (b c : Bool) (G H later : Type 0) (r : Read A) → Tests b G → Tests c H → Iff later (r ≡ Err f)
    → Iff (Must f (G × H) g later) (needs b g (needs c g r) ≡ Err f)
must_both-by f g true c G H later r s t l = must-by f g c (G × H) later r ((λ e. (s.0 refl, t.0 e)), λ h. t.1 h.1) l
must_both-by f g false c G H later r s t l = must-by f g false (G × H) later r ((λ e. absurd (false≢true e)), λ h. s.1 h.0) l

pub must_both : {A : Type 0} {f g : NameFault} {b c : Bool} {G H later : Type 0} {r : Read A} → Tests b G → Tests c H → Iff later (r ≡ Err f)
    → Iff (Must f (G × H) g later) (needs b g (needs c g r) ≡ Err f)
must_both {A} {f} {g} {b} {c} {G} {H} {later} {r} s t l = must_both-by f g b c G H later r s t l

-- a line, and the test whether it fits
line-by : {A : Type 0} (f : NameFault) (b : Bool) (fits here later : Type 0) (x y : Read A) → Tests b fits → (b ≡ true → Iff here (x ≡ Err f)) → Iff later (y ≡ Err f)
    → Iff (Line fits here later) (cond b x y ≡ Err f)
line-by f true fits here later x y t h l = (to, λ e. inl (t.0 refl, (h refl).1 e))
  where
    to : Line fits here later → x ≡ Err f
    to (inl it) = (h refl).0 it.1
    to (inr other) = absurd (other.0 (t.0 refl))
line-by f false fits here later x y t h l = (to, λ e. inr (λ p. absurd (false≢true (t.1 p)), l.1 e))
  where
    to : Line fits here later → y ≡ Err f
    to (inl it) = absurd (false≢true (t.1 it.0))
    to (inr other) = l.0 other.1

pub line : {A : Type 0} {f : NameFault} {b : Bool} {fits here later : Type 0} {x y : Read A} → Tests b fits → Iff here (x ≡ Err f) → Iff later (y ≡ Err f)
    → Iff (Line fits here later) (cond b x y ≡ Err f)
line {A} {f} {b} {fits} {here} {later} {x} {y} t h l = line-by f b fits here later x y t (λ _. h) l

-- a text begins with a front where something follows it
pub follows-test : (start text : List ℕ) → Tests (begins start text) (Follows start text (λ _. Unit {0}))
follows-test start text =
    (λ e. (behind start text, begins-whole start text e, tt), λ p. ap (begins start) p.1 ∙ begins-there start p.0)

-- a line of the texts that begin with a front
pub front_line : {A : Type 0} {f : NameFault} {later : Type 0} {x y : Read A} (start text : List ℕ) (here : List ℕ → Type 0)
    → Iff (here (behind start text)) (x ≡ Err f) → Iff later (y ≡ Err f)
    → Iff (Front start text here later) (cond (begins start text) x y ≡ Err f)
front_line {A} {f} {later} {x} {y} start text here h l =
    line-by f (begins start text) (Follows start text (λ _. Unit {0})) (Follows start text here) later x y (follows-test start text)
    (λ e. (λ p. h.0 (subst here (sym (behind-there start p.0) ∙ sym (ap (behind start) p.1)) p.2), λ k. (behind start text, begins-whole start text e, h.1 k))) l

-- a fault behind what is made
pub with_fault : {A B : Type 0} {f : NameFault} {P : Type 0} {r : Read A} (make : A → B) → Iff P (r ≡ Err f) → Iff P (with make r ≡ Err f)
with_fault {A} {B} {f} {P} {r} make h = (λ p. rw (h.0 p) refl, λ e. h.1 (back r e))
  where
    back : (s : Read A) → with make s ≡ Err f → s ≡ Err f
    back (Ok x) e = cc
    back (Err g) e = cc

-- a test of itself
pub itself : (b : Bool) → Tests b (b ≡ true)
itself b = (λ e. e, λ e. e)

-- two tests
pub both_test : {b c : Bool} {G H : Type 0} → Tests b G → Tests c H → Tests (b && c) (G × H)
both_test {b} {c} s t = ((λ e. let p = and_parts b c e in (s.0 p.0, t.0 p.1)), λ h. and_from b c (s.1 h.0) (t.1 h.1))
