use Rattle.std.proofs.Common.{◌≡◌, ℕ, List, ◌∷◌, ◌++◌, true, false, codes, Option, Some, None, MatchOption, Bor, refl, sym, ap, ◌∙◌}
use Rattle.std.specs.Option.{option_copied}
use Rattle.std.proofs.lemmas.Bool.{false≢true}
use Rattle.wac_names.specs.Clash.{plain}
use Rattle.wac_names.specs.Grammar.{HasKind}
use Rattle.wac_names.specs.Kind.{Kind, joined, method, static}
use Rattle.wac_names.specs.Text.{begins, behind}
use Rattle.wac_names.specs.Views.{kind_view}
use Rattle.wac_names.proofs.ReadFacts.{behind-there}
use Rattle.wac_names.proofs.TextFacts.{begins-there}
use Rattle.wac_names.specs.declared.kind.ComponentNameKind.{ComponentNameKind}
use Rattle.wac_names.specs.declared.kind.ComponentNameKind.TheVariants as kind
use Rattle.wac_names.specs.declared.kind.DependencyName.TheVariants as dependency
use Rattle.wac_names.proofs.clashes.plain.Goals as goal

pub returns-in-Label : goal.returns-in-Label
unfolding plain
returns-in-Label c = rw c.in-Label.is refl

pub returns-in-Constructor : goal.returns-in-Constructor
unfolding plain
returns-in-Constructor c = rw c.in-Constructor.is refl

-- what stands behind the bracket of a text that begins with it
stripped : (start text rest : List ℕ) (r : Option (Bor (List ℕ))) → start ++ rest ≡ text
    → MatchOption r (begins start text ≡ false) (λ x. (begins start text ≡ true) × (x.now ≡ behind start text)) → option_copied r ≡ Some rest
stripped start text rest None e h = absurd (false≢true (sym h ∙ (ap (begins start) (sym e) ∙ begins-there start rest)))
stripped start text rest (Some x) e h = ap Some (h.1 ∙ (ap (behind start) (sym e) ∙ behind-there start rest))

method-made : (text : List ℕ) (k : Kind) (r n : List ℕ) → HasKind text k → k ≡ method r n → codes "[method]" ++ (r ++ 46 ∷ n) ≡ text
unfolding joined
method-made text k r n h e = sym (ap joined e) ∙ h.makes

static-made : (text : List ℕ) (k : Kind) (r n : List ℕ) → HasKind text k → k ≡ static r n → codes "[static]" ++ (r ++ 46 ∷ n) ≡ text
unfolding joined
static-made text k r n h e = sym (ap joined e) ∙ h.makes

plain-method : (k : Kind) (r n : List ℕ) → k ≡ method r n → Some (r ++ 46 ∷ n) ≡ plain k
unfolding plain
plain-method k r n e = rw e refl

plain-static : (k : Kind) (r n : List ℕ) → k ≡ static r n → Some (r ++ 46 ∷ n) ≡ plain k
unfolding plain
plain-static k r n e = rw e refl

pub returns-in-Method : goal.returns-in-Method
returns-in-Method c =
    let r = c.in-Method.resource.now in
    let n = c.in-Method.name.now in
    let e : kind_view c.args.kind ≡ method r n = ap kind_view c.in-Method.is in
    stripped (codes "[method]") c.args.text.now (r ++ 46 ∷ n) c.strip.result (method-made c.args.text.now (kind_view c.args.kind) r n c.requires e) c.strip.ensures
    ∙ plain-method (kind_view c.args.kind) r n e

pub returns-in-Static : goal.returns-in-Static
returns-in-Static c =
    let r = c.in-Static.resource.now in
    let n = c.in-Static.name.now in
    let e : kind_view c.args.kind ≡ static r n = ap kind_view c.in-Static.is in
    stripped (codes "[static]") c.args.text.now (r ++ 46 ∷ n) c.strip-in-Static.result (static-made c.args.text.now (kind_view c.args.kind) r n c.requires e) c.strip-in-Static.ensures
    ∙ plain-static (kind_view c.args.kind) r n e

other-kind : (k : ComponentNameKind) → ((x : Bor (List ℕ)) → k ≡ kind.Label x → ⊥) → ((x : Bor (List ℕ)) → k ≡ kind.Constructor x → ⊥)
    → ((x y : Bor (List ℕ)) → k ≡ kind.Method x y → ⊥) → ((x y : Bor (List ℕ)) → k ≡ kind.Static x y → ⊥) → None ≡ plain (kind_view k)
unfolding plain
other-kind (kind.Label x) a b c d = absurd (a x refl)
other-kind (kind.Constructor x) a b c d = absurd (b x refl)
other-kind (kind.Method x y) a b c d = absurd (c x y refl)
other-kind (kind.Static x y) a b c d = absurd (d x y refl)
other-kind (kind.Interface i) a b c d = refl
other-kind (kind.Dependency (dependency.Unlocked p r)) a b c d = refl
other-kind (kind.Dependency (dependency.Locked p v h)) a b c d = refl
other-kind (kind.Url u) a b c d = refl
other-kind (kind.Hash h) a b c d = refl

pub returns-in_default : goal.returns-in_default
returns-in_default c = other-kind c.args.kind c.in_default.not-Label c.in_default.not-Constructor c.in_default.not-Method c.in_default.not-Static
