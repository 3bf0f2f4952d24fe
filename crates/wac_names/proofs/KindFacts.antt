-- A text has a kind exactly where reading it answers that kind.
use Rattle.std.proofs.Common.{◌≡◌, ℕ, Bool, true, false, ◌==◌, ◌||◌, not, List, [], ◌∷◌, ◌++◌, codes, Option, Some, None, Ok, refl, sym, ap, ◌∙◌, inl, inr, cond, append_assoc, append-nil, subst, arith}
use Rattle.std.specs.Option.{IfSome}
use Rattle.std.specs.Char.{is_ascii_alphanumeric}
use Rattle.std.proofs.lemmas.Bool.{and_parts, and_from, cases_Bool, false≢true, not-true, or_from}
use Rattle.wac_names.specs.Text.{after, before, begins, behind, ends, front, has, is_empty}
use Rattle.wac_names.specs.Label.{begins_with_letter}
use Rattle.wac_names.specs.Kind.{Kind, Package, Range, constructor, hash, integrity_part, interface, joined, label, locked, marked, method, package_text, range_part, range_text, static, unlocked, url}
use Rattle.wac_names.specs.Grammar.{HasKind, IsHash, IsKind, IsPackage, IsRange, IsUrl, IsVersion}
use Rattle.wac_names.specs.Reading.{Read, is_hash, is_label, is_lower_label, is_package, is_version_piece, named_package, package_of, read, read_bracketed, read_hash, read_interface, read_label, read_locked, read_locked_inside, read_marked, read_path, read_placed, read_plain, read_range, read_range_piece, read_tail, read_unlocked, read_unlocked_inside, read_url, version_piece, with}
use Rattle.wac_names.specs.declared.fault.NameFault.TheVariants as fault
use Rattle.wac_names.proofs.HashFacts.{hash-lacks, hash-of_test, test-of_hash}
use Rattle.wac_names.proofs.LabelFacts.{label-lacks, label-letter, label-of_test, lower_label-label, lower_label-of_test, test-of_label, test-of_lower_label}
use Rattle.wac_names.proofs.RangeFacts.{range-read, read-range_text}
use Rattle.wac_names.proofs.ReadFacts.{if-false, if-true, needs-ok, needs-true, ok-value, with-ok, with-made}
use Rattle.wac_names.proofs.TextFacts.{after-none, after-there, before-none, before-there, begins-lacks, begins-other, begins-whole, cut-whole, ends-there, ends-whole, front-there, has-append, has-before, has-there, is_empty-nil}
use Rattle.wac_names.proofs.VersionFacts.{version-lacks}

-- ---- what was read has the kind

lacks-nil : (c : ℕ) → has c [] ≡ false
unfolding has
lacks-nil c = refl

-- a label after a byte shows that the byte stands there
cut-label : (c : ℕ) (text : List ℕ) → is_label (after c text) ≡ true → has c text ≡ true
cut-label c text l = elim (cases_Bool (has c text)) [
  | inl there ↦ there
  | inr absent ↦
      let none = after-none c text absent in
      let letter : begins_with_letter [] ≡ true = subst (λ (t : List ℕ). begins_with_letter t ≡ true) none (label-letter (after c text) l) in
      absurd (false≢true letter)
]

package-parts : (p : Package) → is_package p ≡ true → (is_lower_label p.namespace ≡ true) × (is_lower_label p.name ≡ true)
unfolding is_package
package-parts p h = and_parts (is_lower_label p.namespace) (is_lower_label p.name) h

package-of_test : (p : Package) → is_package p ≡ true → IsPackage p
package-of_test p h = let q = package-parts p h in (lower_label-of_test p.namespace q.0, lower_label-of_test p.name q.1)

pub test-of_package : (p : Package) → IsPackage p → is_package p ≡ true
unfolding is_package
test-of_package p h = and_from (is_lower_label p.namespace) (is_lower_label p.name) (test-of_lower_label p.namespace h.0) (test-of_lower_label p.name h.1)

-- a text that names a package is that package's
named-text : (text : List ℕ) → is_package (named_package text) ≡ true → package_text (named_package text) ≡ text
named-text text h =
    let q = package-parts (named_package text) h in
    sym (cut-whole 58 text (cut-label 58 text (lower_label-label (after 58 text) q.1)))

-- a text is what stands before the first `@`, and the rest
versioned-whole : (text : List ℕ) → before 64 text ++ marked (codes "@") (version_piece text) ≡ text
unfolding version_piece
versioned-whole text = elim (cases_Bool (has 64 text)) [
  | inl there ↦ rw there (sym (cut-whole 64 text there))
  | inr absent ↦ rw absent (append-nil (before 64 text) ∙ before-none 64 text absent)
]

version-of_piece : (v : Option (List ℕ)) → is_version_piece v ≡ true → IfSome v IsVersion
unfolding is_version_piece
version-of_piece None h = tt
version-of_piece (Some v) h = h

piece-of_version : (v : Option (List ℕ)) → IfSome v IsVersion → is_version_piece v ≡ true
unfolding is_version_piece
piece-of_version None h = refl
piece-of_version (Some v) h = h

hash-read : (text h : List ℕ) → read_hash text ≡ Ok h → IsHash h × (h ++ codes ">" ≡ text)
unfolding read_hash
hash-read text h e =
    let n1 = needs-ok (has 62 text) fault.Unclosed _ h e in
    let n2 = needs-ok (is_hash (before 62 text)) fault.BadHash _ h n1.1 in
    let n3 = needs-ok (is_empty (after 62 text)) fault.Trailing _ h n2.1 in
    let made = ok-value (before 62 text) h n3.1 in
    let whole : before 62 text ++ codes ">" ≡ text =
    sym (cut-whole 62 text n1.0 ∙ ap (λ (l : List ℕ). before 62 text ++ 62 ∷ l) (is_empty-nil (after 62 text) n3.0)) in
    (subst IsHash made (hash-of_test (before 62 text) n2.0), ap (λ (l : List ℕ). l ++ codes ">") (sym made) ∙ whole)

-- an optional integrity that was read
pub record IsTail (t : Option (List ℕ)) (text : List ℕ) : Type 0 where
  pub allowed : IfSome t IsHash
  pub makes : integrity_part t ≡ text

tail-read : (text : List ℕ) (t : Option (List ℕ)) → read_tail text ≡ Ok t → IsTail t text
unfolding read_tail
tail-read text t e = elim (cases_Bool (is_empty text)) [
  | inl none ↦
      let made = ok-value {A = Option (List ℕ)} None t (sym (if-true (is_empty text) _ _ none) ∙ e) in
      subst (λ (q : Option (List ℕ)). IsTail q text) made (record { allowed = tt; makes = sym (is_empty-nil text none) })
  | inr some ↦ elim (cases_Bool (begins (codes ",integrity=<") text)) [
    | inl there ↦
        let rest = behind (codes ",integrity=<") text in
        let e1 = sym (if-true (begins (codes ",integrity=<") text) _ _ there) ∙ (sym (if-false (is_empty text) _ _ some) ∙ e) in
        let w = with-ok {B = Option (List ℕ)} Some (read_hash rest) t e1 in
        let h = hash-read rest w.0 w.1 in
        subst (λ (q : Option (List ℕ)). IsTail q text) w.2
        (record { allowed = h.0; makes = ap (λ (l : List ℕ). codes ",integrity=<" ++ l) h.1 ∙ sym (begins-whole (codes ",integrity=<") text there) })
    | inr other ↦ cc (sym (if-false (begins (codes ",integrity=<") text) _ _ other) ∙ (sym (if-false (is_empty text) _ _ some) ∙ e))
  ]
]

-- an optional range that was read
pub record IsRangePart (r : Option Range) (piece : Option (List ℕ)) : Type 0 where
  pub allowed : IfSome r IsRange
  pub makes : range_part r ≡ marked (codes "@") piece

range_part-read : (piece : Option (List ℕ)) (r : Option Range) → read_range_piece piece ≡ Ok r → IsRangePart r piece
range_part-read None r e =
    subst (λ (q : Option Range). IsRangePart q None) (ok-value {A = Option Range} None r e) (record { allowed = tt; makes = refl })
range_part-read (Some text) r e =
    let w = with-ok {B = Option Range} Some (read_range text) r e in
    let i = range-read text w.0 w.1 in
    subst (λ (q : Option Range). IsRangePart q (Some text)) w.2 (record { allowed = i.allowed; makes = ap (λ (l : List ℕ). 64 ∷ l) i.makes })

-- a kind of what stands behind a front
pub record IsBehind (start text : List ℕ) (k : Kind) : Type 0 where
  pub allowed : IsKind k
  pub makes : joined k ≡ start ++ text

behind-kind : (start text : List ℕ) (k : Kind) → begins start text ≡ true → IsBehind start (behind start text) k → HasKind text k
behind-kind start text k b i = record { allowed = i.allowed; makes = i.makes ∙ sym (begins-whole start text b) }

unlocked-read : (text : List ℕ) (k : Kind) → read_unlocked text ≡ Ok k → IsBehind (codes "unlocked-dep=<") text k
unfolding read_unlocked read_unlocked_inside IsKind joined
unlocked-read text k e =
    let inside = front text in
    let n1 = needs-ok (ends 62 text) fault.Unclosed _ k e in
    let n2 = needs-ok (is_package (named_package (before 64 inside))) fault.BadPackage _ k n1.1 in
    let w = with-ok (λ r. unlocked (named_package (before 64 inside)) r) (read_range_piece (version_piece inside)) k n2.1 in
    let r = range_part-read (version_piece inside) w.0 w.1 in
    let whole : package_text (named_package (before 64 inside)) ++ range_part w.0 ≡ inside =
    ap (λ (l : List ℕ). l ++ range_part w.0) (named-text (before 64 inside) n2.0) ∙ (ap (λ (l : List ℕ). before 64 inside ++ l) r.makes ∙ versioned-whole inside) in
    subst (λ (q : Kind). IsBehind (codes "unlocked-dep=<") text q) w.2 (record {
      allowed = (package-of_test (named_package (before 64 inside)) n2.0, r.allowed);
      makes = ap (λ (l : List ℕ). codes "unlocked-dep=<" ++ l) (ap (λ (l : List ℕ). l ++ codes ">") whole ∙ sym (ends-whole 62 text n1.0));
    })

locked-read : (text : List ℕ) (k : Kind) → read_locked text ≡ Ok k → IsBehind (codes "locked-dep=<") text k
unfolding read_locked read_locked_inside IsKind joined
locked-read text k e =
    let inside = before 62 text in
    let n1 = needs-ok (has 62 text) fault.Unclosed _ k e in
    let n2 = needs-ok (is_package (named_package (before 64 inside))) fault.BadPackage _ k n1.1 in
    let n3 = needs-ok (is_version_piece (version_piece inside)) fault.BadVersion _ k n2.1 in
    let w = with-ok (λ h. locked (named_package (before 64 inside)) (version_piece inside) h) (read_tail (after 62 text)) k n3.1 in
    let t = tail-read (after 62 text) w.0 w.1 in
    let whole : package_text (named_package (before 64 inside)) ++ marked (codes "@") (version_piece inside) ≡ inside =
    ap (λ (l : List ℕ). l ++ marked (codes "@") (version_piece inside)) (named-text (before 64 inside) n2.0) ∙ versioned-whole inside in
    subst (λ (q : Kind). IsBehind (codes "locked-dep=<") text q) w.2 (record {
      allowed = (package-of_test (named_package (before 64 inside)) n2.0, version-of_piece (version_piece inside) n3.0, t.allowed);
      makes = ap (λ (l : List ℕ). codes "locked-dep=<" ++ l)
          (ap (λ (l : List ℕ). l ++ 62 ∷ integrity_part w.0) whole ∙ (ap (λ (l : List ℕ). inside ++ 62 ∷ l) t.makes ∙ sym (cut-whole 62 text n1.0)));
    })

url-read : (text : List ℕ) (k : Kind) → read_url text ≡ Ok k → IsBehind (codes "url=<") text k
unfolding read_url IsKind joined
url-read text k e =
    let n1 = needs-ok (has 62 text) fault.Unclosed _ k e in
    let n2 = needs-ok (not (has 60 (before 62 text))) fault.Unclosed _ k n1.1 in
    let w = with-ok (λ h. url (before 62 text) h) (read_tail (after 62 text)) k n2.1 in
    let t = tail-read (after 62 text) w.0 w.1 in
    subst (λ (q : Kind). IsBehind (codes "url=<") text q) w.2 (record {
      allowed = ((not-true (has 60 (before 62 text)) n2.0, has-before 62 text), t.allowed);
      makes = ap (λ (l : List ℕ). codes "url=<" ++ l) (ap (λ (l : List ℕ). before 62 text ++ 62 ∷ l) t.makes ∙ sym (cut-whole 62 text n1.0));
    })

integrity-read : (text : List ℕ) (k : Kind) → with hash (read_hash text) ≡ Ok k → IsBehind (codes "integrity=<") text k
unfolding IsKind joined
integrity-read text k e =
    let w = with-ok hash (read_hash text) k e in
    let h = hash-read text w.0 w.1 in
    subst (λ (q : Kind). IsBehind (codes "integrity=<") text q) w.2 (record { allowed = h.0; makes = ap (λ (l : List ℕ). codes "integrity=<" ++ l) h.1 })

-- the parts of an interface, grouped in two ways
pub shape : (a b c d : List ℕ) → (a ++ 58 ∷ b) ++ 47 ∷ (c ++ d) ≡ (a ++ 58 ∷ (b ++ 47 ∷ c)) ++ d
shape a b c d =
    append_assoc a (58 ∷ b) (47 ∷ (c ++ d)) ∙ (ap (λ (l : List ℕ). a ++ 58 ∷ l) (sym (append_assoc b (47 ∷ c) d)) ∙ sym (append_assoc a (58 ∷ (b ++ 47 ∷ c)) d))

-- a name whose parts are labels is its parts
pub interface-whole : (name : List ℕ) → is_label (after 47 (after 58 name)) ≡ true
    → before 58 name ++ 58 ∷ (before 47 (after 58 name) ++ 47 ∷ after 47 (after 58 name)) ≡ name
interface-whole name h =
    let rest = after 58 name in
    let slash = cut-label 47 rest h in
    let colon : has 58 name ≡ true = elim (cases_Bool (has 58 name)) [
      | inl there ↦ there
      | inr absent ↦
          let none = after-none 58 name absent in
          let nothing : after 47 [] ≡ [] = after-none 47 [] (lacks-nil 47) in
          let letter : begins_with_letter [] ≡ true = subst (λ (t : List ℕ). begins_with_letter t ≡ true) (ap (after 47) none ∙ nothing) (label-letter (after 47 rest) h) in
          absurd (false≢true letter)
    ] in
    ap (λ (l : List ℕ). before 58 name ++ 58 ∷ l) (sym (cut-whole 47 rest slash)) ∙ sym (cut-whole 58 name colon)

pub interface-read : (text : List ℕ) (k : Kind) → read_interface text ≡ Ok k → HasKind text k
unfolding read_interface IsKind joined
interface-read text k e =
    let name = before 64 text in
    let rest = after 58 name in
    let p = package_of (before 58 name) (before 47 rest) in
    let v = version_piece text in
    let n1 = needs-ok (is_package p) fault.BadPackage _ k e in
    let n2 = needs-ok (is_label (after 47 rest)) fault.BadLabel _ k n1.1 in
    let n3 = needs-ok (is_version_piece v) fault.BadVersion _ k n2.1 in
    let made = ok-value (interface p (after 47 rest) v) k n3.1 in
    subst (HasKind text) made (record {
      allowed = (package-of_test p n1.0, label-of_test (after 47 rest) n2.0, version-of_piece v n3.0);
      makes = shape (before 58 name) (before 47 rest) (after 47 rest) (marked (codes "@") v) ∙ (ap (λ (l : List ℕ). l ++ marked (codes "@") v) (interface-whole name n2.0) ∙ versioned-whole text);
    })

label-read : (text : List ℕ) (k : Kind) → read_label label text ≡ Ok k → HasKind text k
unfolding IsKind joined
label-read text k e =
    let n = needs-ok (is_label text) fault.BadLabel _ k e in
    subst (HasKind text) (ok-value (label text) k n.1) (record { allowed = label-of_test text n.0; makes = refl })

constructor-read : (text : List ℕ) (k : Kind) → read_label constructor text ≡ Ok k → IsBehind (codes "[constructor]") text k
unfolding IsKind joined
constructor-read text k e =
    let n = needs-ok (is_label text) fault.BadLabel _ k e in
    subst (λ (q : Kind). IsBehind (codes "[constructor]") text q) (ok-value (constructor text) k n.1) (record { allowed = label-of_test text n.0; makes = refl })

method-read : (text : List ℕ) (k : Kind) → read_path method text ≡ Ok k → IsBehind (codes "[method]") text k
unfolding IsKind joined
method-read text k e =
    let n1 = needs-ok (is_label (before 46 text)) fault.BadLabel _ k e in
    let n2 = needs-ok (is_label (after 46 text)) fault.BadLabel _ k n1.1 in
    subst (λ (q : Kind). IsBehind (codes "[method]") text q) (ok-value (method (before 46 text) (after 46 text)) k n2.1) (record {
      allowed = (label-of_test (before 46 text) n1.0, label-of_test (after 46 text) n2.0);
      makes = ap (λ (l : List ℕ). codes "[method]" ++ l) (sym (cut-whole 46 text (cut-label 46 text n2.0)));
    })

static-read : (text : List ℕ) (k : Kind) → read_path static text ≡ Ok k → IsBehind (codes "[static]") text k
unfolding IsKind joined
static-read text k e =
    let n1 = needs-ok (is_label (before 46 text)) fault.BadLabel _ k e in
    let n2 = needs-ok (is_label (after 46 text)) fault.BadLabel _ k n1.1 in
    subst (λ (q : Kind). IsBehind (codes "[static]") text q) (ok-value (static (before 46 text) (after 46 text)) k n2.1) (record {
      allowed = (label-of_test (before 46 text) n1.0, label-of_test (after 46 text) n2.0);
      makes = ap (λ (l : List ℕ). codes "[static]" ++ l) (sym (cut-whole 46 text (cut-label 46 text n2.0)));
    })

-- a test, and what was read where it holds and where it doesn't
by_test : {P : Type 0} (b : Bool) (x y : Read Kind) (k : Kind) → cond b x y ≡ Ok k → (b ≡ true → x ≡ Ok k → P) → (b ≡ false → y ≡ Ok k → P) → P
by_test true x y k e f g = f refl e
by_test false x y k e f g = g refl e

bracketed-read : (text : List ℕ) (k : Kind) → read_bracketed text ≡ Ok k → HasKind text k
unfolding read_bracketed
bracketed-read text k e =
    by_test (begins (codes "[constructor]") text) _ _ k e (λ b e1. behind-kind (codes "[constructor]") text k b (constructor-read _ k e1)) (λ _ e1.
    by_test (begins (codes "[method]") text) _ _ k e1 (λ b e2. behind-kind (codes "[method]") text k b (method-read _ k e2)) (λ _ e2.
    by_test (begins (codes "[static]") text) _ _ k e2 (λ b e3. behind-kind (codes "[static]") text k b (static-read _ k e3)) (λ _ e3. cc)))

-- what was read is the kind of the text
pub kind-read : (text : List ℕ) (k : Kind) → read text ≡ Ok k → HasKind text k
unfolding read read_marked read_placed read_plain
kind-read text k e =
    by_test (is_empty text) _ _ k e (λ _ e1. cc) (λ _ e1.
    by_test (begins (codes "[") text) _ _ k e1 (λ _ e2. bracketed-read text k e2) (λ _ e2.
    by_test (begins (codes "unlocked-dep=<") text) _ _ k e2 (λ b e3. behind-kind (codes "unlocked-dep=<") text k b (unlocked-read _ k e3)) (λ _ e3.
    by_test (begins (codes "locked-dep=<") text) _ _ k e3 (λ b e4. behind-kind (codes "locked-dep=<") text k b (locked-read _ k e4)) (λ _ e4.
    by_test (begins (codes "url=<") text) _ _ k e4 (λ b e5. behind-kind (codes "url=<") text k b (url-read _ k e5)) (λ _ e5.
    by_test (begins (codes "integrity=<") text) _ _ k e5 (λ b e6. behind-kind (codes "integrity=<") text k b (integrity-read _ k e6)) (λ _ e6.
    by_test (has 58 text) _ _ k e6 (λ _ e7. interface-read text k e7) (λ _ e7. label-read text k e7)))))))

-- ---- the text of a kind is read as that kind

pub append-lacks : (c : ℕ) (a b : List ℕ) → has c a ≡ false → has c b ≡ false → has c (a ++ b) ≡ false
append-lacks c a b h k = has-append c a b ∙ or_from (has c a) (has c b) h k

pub cons-lacks : (c x : ℕ) (a : List ℕ) → (x == c) ≡ false → has c a ≡ false → has c (x ∷ a) ≡ false
unfolding has
cons-lacks c x a h k = or_from (x == c) (has c a) h k

-- a label lacks a byte
pub lacks : (c : ℕ) (l : List ℕ) → is_label l ≡ true → ((c == 45) || is_ascii_alphanumeric c) ≡ false → has c l ≡ false
lacks c l h out = label-lacks c l h out

-- a package of labels
pub record Labels (p : Package) : Type 0 where
  pub namespace : is_label p.namespace ≡ true
  pub name : is_label p.name ≡ true

pub labels-of : (p : Package) → IsPackage p → Labels p
labels-of p i = record {
  namespace = lower_label-label p.namespace (test-of_lower_label p.namespace i.0);
  name = lower_label-label p.name (test-of_lower_label p.name i.1);
}

package-lacks : (c : ℕ) (p : Package) → Labels p → ((c == 45) || is_ascii_alphanumeric c) ≡ false → (58 == c) ≡ false → has c (package_text p) ≡ false
package-lacks c p l out colon =
    append-lacks c p.namespace (58 ∷ p.name) (lacks c p.namespace l.namespace out) (cons-lacks c 58 p.name colon (lacks c p.name l.name out))

named-package_text : (p : Package) → Labels p → named_package (package_text p) ≡ p
named-package_text p l =
    let no_colon = lacks 58 p.namespace l.namespace refl in
    ap (λ (a : List ℕ). package_of a (after 58 (package_text p))) (before-there 58 p.namespace p.name no_colon)
    ∙ ap (λ (b : List ℕ). package_of p.namespace b) (after-there 58 p.namespace p.name no_colon)

-- a text and an optional version, cut at the `@`
pub before-marked : (a : List ℕ) (v : Option (List ℕ)) → has 64 a ≡ false → before 64 (a ++ marked (codes "@") v) ≡ a
before-marked a None h = ap (before 64) (append-nil a) ∙ before-none 64 a h
before-marked a (Some v) h = before-there 64 a v h

pub piece-marked : (a : List ℕ) (v : Option (List ℕ)) → has 64 a ≡ false → version_piece (a ++ marked (codes "@") v) ≡ v
unfolding version_piece
piece-marked a None h = rw (append-nil a, h) refl
piece-marked a (Some v) h = rw (has-there 64 a v, after-there 64 a v h) refl

hash-made : (h : List ℕ) → IsHash h → read_hash (h ++ codes ">") ≡ Ok h
unfolding read_hash
hash-made h i =
    let no_end = hash-lacks h i in
    rw (has-there 62 h [], before-there 62 h [] no_end, after-there 62 h [] no_end) (needs-true (is_hash h) fault.BadHash (Ok h) (test-of_hash h i))

tail-made : (t : Option (List ℕ)) → IfSome t IsHash → read_tail (integrity_part t) ≡ Ok t
unfolding read_tail begins
tail-made None i = refl
tail-made (Some h) i = with-made {B = Option (List ℕ)} Some (read_hash (h ++ codes ">")) h (hash-made h i)

-- the optional piece of a range
range_piece : Option Range → Option (List ℕ)
range_piece None = None
range_piece (Some r) = Some (range_text r)

part-piece : (r : Option Range) → range_part r ≡ marked (codes "@") (range_piece r)
unfolding range_piece
part-piece None = refl
part-piece (Some r) = refl

range_part-made : (r : Option Range) → IfSome r IsRange → read_range_piece (range_piece r) ≡ Ok r
unfolding range_piece
range_part-made None i = refl
range_part-made (Some r) i = with-made {B = Option Range} Some (read_range (range_text r)) r (read-range_text r i)

unlocked-made : (p : Package) (r : Option Range) → IsPackage p → IfSome r IsRange → read_unlocked ((package_text p ++ range_part r) ++ codes ">") ≡ Ok (unlocked p r)
unfolding read_unlocked read_unlocked_inside
unlocked-made p r i j =
    let l = labels-of p i in
    let no_at = package-lacks 64 p l refl refl in
    let inside : List ℕ = package_text p ++ marked (codes "@") (range_piece r) in
    let made : with (λ q. unlocked p q) (read_range_piece (range_piece r)) ≡ Ok (unlocked p r) = with-made (λ q. unlocked p q) (read_range_piece (range_piece r)) r (range_part-made r j) in
    rw (part-piece r, ends-there 62 inside, front-there 62 inside, before-marked (package_text p) (range_piece r) no_at, piece-marked (package_text p) (range_piece r) no_at, named-package_text p l)
    (needs-true (is_package p) fault.BadPackage _ (test-of_package p i) ∙ made)

version-has_no_end : (v : Option (List ℕ)) → IfSome v IsVersion → has 62 (marked (codes "@") v) ≡ false
version-has_no_end None i = lacks-nil 62
version-has_no_end (Some v) i = cons-lacks 62 64 v refl (version-lacks 62 v i refl)

locked-made : (p : Package) (v t : Option (List ℕ)) → IsPackage p → IfSome v IsVersion → IfSome t IsHash
    → read_locked ((package_text p ++ marked (codes "@") v) ++ 62 ∷ integrity_part t) ≡ Ok (locked p v t)
unfolding read_locked read_locked_inside
locked-made p v t i j k =
    let l = labels-of p i in
    let no_at = package-lacks 64 p l refl refl in
    let inside : List ℕ = package_text p ++ marked (codes "@") v in
    let no_end = append-lacks 62 (package_text p) (marked (codes "@") v) (package-lacks 62 p l refl refl) (version-has_no_end v j) in
    let made : with (λ q. locked p v q) (read_tail (integrity_part t)) ≡ Ok (locked p v t) = with-made (λ q. locked p v q) (read_tail (integrity_part t)) t (tail-made t k) in
    rw (
      has-there 62 inside (integrity_part t),
      before-there 62 inside (integrity_part t) no_end,
      after-there 62 inside (integrity_part t) no_end,
      before-marked (package_text p) v no_at,
      piece-marked (package_text p) v no_at,
      named-package_text p l,
    )
    (needs-true (is_package p) fault.BadPackage _ (test-of_package p i) ∙ (needs-true (is_version_piece v) fault.BadVersion _ (piece-of_version v j) ∙ made))

url-made : (u : List ℕ) (t : Option (List ℕ)) → IsUrl u → IfSome t IsHash → read_url (u ++ 62 ∷ integrity_part t) ≡ Ok (url u t)
unfolding read_url
url-made u t i k =
    rw (has-there 62 u (integrity_part t), before-there 62 u (integrity_part t) i.1, after-there 62 u (integrity_part t) i.1, i.0)
    (with-made (λ h. url u h) (read_tail (integrity_part t)) t (tail-made t k))

-- an interface, from its parts in a row
interface-made : (p : Package) (n : List ℕ) (v : Option (List ℕ)) → IsPackage p → is_label n ≡ true → IfSome v IsVersion
    → read_interface ((p.namespace ++ 58 ∷ (p.name ++ 47 ∷ n)) ++ marked (codes "@") v) ≡ Ok (interface p n v)
unfolding read_interface
interface-made p n v i h j =
    let l = labels-of p i in
    let whole : List ℕ = p.namespace ++ 58 ∷ (p.name ++ 47 ∷ n) in
    let no_at = append-lacks 64 p.namespace (58 ∷ (p.name ++ 47 ∷ n)) (lacks 64 p.namespace l.namespace refl)
    (cons-lacks 64 58 (p.name ++ 47 ∷ n) refl (append-lacks 64 p.name (47 ∷ n) (lacks 64 p.name l.name refl) (cons-lacks 64 47 n refl (lacks 64 n h refl)))) in
    let no_colon = lacks 58 p.namespace l.namespace refl in
    let no_slash = lacks 47 p.name l.name refl in
    rw (
      before-marked whole v no_at,
      piece-marked whole v no_at,
      before-there 58 p.namespace (p.name ++ 47 ∷ n) no_colon,
      after-there 58 p.namespace (p.name ++ 47 ∷ n) no_colon,
      before-there 47 p.name n no_slash,
      after-there 47 p.name n no_slash,
    )
    (needs-true (is_package p) fault.BadPackage _ (test-of_package p i) ∙ (needs-true (is_label n) fault.BadLabel _ h ∙ needs-true (is_version_piece v) fault.BadVersion _ (piece-of_version v j)))

path-made : (make : List ℕ → List ℕ → Kind) (r n : List ℕ) → is_label r ≡ true → is_label n ≡ true → read_path make (r ++ 46 ∷ n) ≡ Ok (make r n)
path-made make r n h k =
    let no_dot = lacks 46 r h refl in
    rw (before-there 46 r n no_dot, after-there 46 r n no_dot) (needs-true (is_label r) fault.BadLabel _ h ∙ needs-true (is_label n) fault.BadLabel _ k)

-- a text that begins with a label and a `:` fits none of the lines before
plain-colon : (a b : List ℕ) → is_label a ≡ true → read (a ++ 58 ∷ b) ≡ read_interface (a ++ 58 ∷ b)
unfolding read read_marked read_placed read_plain has
plain-colon a b h =
    let no_equals = lacks 61 a h refl in
    rw (
      not-empty a b,
      begins-other [] 91 [] a 58 b (lacks 91 a h refl) (lacks-nil 58) (λ e. omega arith),
      begins-other (codes "unlocked-dep") 61 (codes "<") a 58 b no_equals refl (λ e. omega arith),
      begins-other (codes "locked-dep") 61 (codes "<") a 58 b no_equals refl (λ e. omega arith),
      begins-other (codes "url") 61 (codes "<") a 58 b no_equals refl (λ e. omega arith),
      begins-other (codes "integrity") 61 (codes "<") a 58 b no_equals refl (λ e. omega arith),
      has-there 58 a b,
    ) refl
  where
    not-empty : (a b : List ℕ) → is_empty (a ++ 58 ∷ b) ≡ false
    not-empty [] b = refl
    not-empty (x ∷ a) b = refl

-- a label fits none of the lines before
plain-label : (l : List ℕ) → is_label l ≡ true → read l ≡ Ok (label l)
unfolding read read_marked read_placed read_plain
plain-label l h =
    let no_equals = lacks 61 l h refl in
    rw (
      not-empty l (label-letter l h),
      begins-lacks [] 91 [] l (lacks 91 l h refl),
      begins-lacks (codes "unlocked-dep") 61 (codes "<") l no_equals,
      begins-lacks (codes "locked-dep") 61 (codes "<") l no_equals,
      begins-lacks (codes "url") 61 (codes "<") l no_equals,
      begins-lacks (codes "integrity") 61 (codes "<") l no_equals,
      lacks 58 l h refl,
    )
    (needs-true (is_label l) fault.BadLabel (Ok (label l)) h)
  where
    not-empty : (l : List ℕ) → begins_with_letter l ≡ true → is_empty l ≡ false
    not-empty [] e = absurd (false≢true e)
    not-empty (b ∷ rest) e = refl

interface-joined : (p : Package) (n : List ℕ) (v : Option (List ℕ)) → IsPackage p → is_label n ≡ true → IfSome v IsVersion
    → read (package_text p ++ 47 ∷ (n ++ marked (codes "@") v)) ≡ Ok (interface p n v)
interface-joined p n v i h j =
    let l = labels-of p i in
    let tail : List ℕ = p.name ++ 47 ∷ (n ++ marked (codes "@") v) in
    let colon : package_text p ++ 47 ∷ (n ++ marked (codes "@") v) ≡ p.namespace ++ 58 ∷ tail = append_assoc p.namespace (58 ∷ p.name) (47 ∷ (n ++ marked (codes "@") v)) in
    ap read colon ∙ (plain-colon p.namespace tail l.namespace ∙ (ap read_interface (sym colon ∙ shape p.namespace p.name n (marked (codes "@") v)) ∙ interface-made p n v i h j))

-- the text that the pieces of a kind make is read as that kind
pub read-joined : (k : Kind) → IsKind k → read (joined k) ≡ Ok k
unfolding read read_marked read_placed read_plain read_bracketed begins joined IsKind
read-joined (label l) i = plain-label l (test-of_label l i)
read-joined (constructor r) i = needs-true (is_label r) fault.BadLabel (Ok (constructor r)) (test-of_label r i)
read-joined (method r n) i = path-made method r n (test-of_label r i.0) (test-of_label n i.1)
read-joined (static r n) i = path-made static r n (test-of_label r i.0) (test-of_label n i.1)
read-joined (interface p n v) i = interface-joined p n v i.0 (test-of_label n i.1) i.2
read-joined (unlocked p r) i = unlocked-made p r i.0 i.1
read-joined (locked p v h) i = locked-made p v h i.0 i.1 i.2
read-joined (url u h) i = url-made u h i.0 i.1
read-joined (hash h) i = with-made hash (read_hash (h ++ codes ">")) h (hash-made h i)

-- the kind of a text is what reading it answers
pub read-has_kind : (text : List ℕ) (k : Kind) → HasKind text k → read text ≡ Ok k
read-has_kind text k h = ap read (sym h.makes) ∙ read-joined k h.allowed
