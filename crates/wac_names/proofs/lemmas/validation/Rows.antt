-- Worked examples: names that may stand together, and the first fault of others.
use Rattle.std.proofs.Common.{◌≡◌, zero, suc, List, [], ◌∷◌, codes, slice_index_or, None, refl, ap, subst, arith, inl, inr, lit<}
use Rattle.wac_names.specs.Clash.{Clash, KindsClash, plain}
use Rattle.wac_names.specs.Grammar.{HasKind, IsKind}
use Rattle.wac_names.specs.Kind.{Kind, constructor, joined, label, url, IsExportable}
use Rattle.wac_names.specs.Text.{has}
use Rattle.wac_names.specs.validation.FirstFault.{Fault, clash, not_exportable, IsFirstFault, IsNameFault, of_imports, of_exporting}
use Rattle.wac_names.specs.validation.Valid.{Text, IsName, IsExportName, Each, AreApartTo, AreNames, AreValid}
use Rattle.wac_names.proofs.lemmas.validation.AnswerFacts.{has_one_answer}
use Rattle.wac_names.proofs.lemmas.validation.KeyFacts.{AreDecided}

-- the names of the examples
abbrev a : Text
a = codes "a"

abbrev upper : Text
upper = codes "A"

abbrev made : Text
made = codes "[constructor]a"

abbrev place : Text
place = codes "url=<u>"

label_a : HasKind a (label a)
unfolding joined IsKind
label_a = record { allowed = (a, [], inl (lit< tt, refl), refl, tt, refl); makes = refl }

label_upper : HasKind upper (label upper)
unfolding joined IsKind
label_upper = record { allowed = (upper, [], inr (lit< tt, refl), refl, tt, refl); makes = refl }

constructor_a : HasKind made (constructor a)
unfolding joined IsKind
constructor_a = record { allowed = (a, [], inl (lit< tt, refl), refl, tt, refl); makes = refl }

url_u : HasKind place (url (codes "u") None)
unfolding joined IsKind has
url_u = record { allowed = ((refl, refl), tt); makes = refl }

-- a fact of each of two
each-two : (P : Text → Type 0) (x y : Text) → P x → P y → Each P (x ∷ y ∷ [])
each-two P x y p q zero h = p
each-two P x y p q (suc zero) h = q
each-two P x y p q (suc (suc i)) h = absurd (omega arith)

each-one : (P : Text → Type 0) (x : Text) → P x → Each P (x ∷ [])
each-one P x p zero h = p
each-one P x p (suc i) h = absurd (omega arith)

two-apart : (x y : Text) → ¬ Clash x y → AreApartTo (x ∷ y ∷ []) 2
two-apart x y none zero (suc zero) h b = none
two-apart x y none zero zero h b = absurd (omega arith)
two-apart x y none (suc i) (suc zero) h b = absurd (omega arith)
two-apart x y none (suc i) zero h b = absurd (omega arith)
two-apart x y none i (suc (suc j)) h b = absurd (omega arith)

-- of one name no two clash
one-apart : (names : List Text) → AreApartTo names 1
one-apart names i j h b = absurd (omega arith)

-- `a` and `A` clash
two_cases : Clash a upper
unfolding plain
two_cases = record {
  one = label a;
  other = label upper;
  of_one = label_a;
  of_other = label_upper;
  clash = (refl, λ w. elim w [ inl c ↦ (let e = c.2 in cc) | inr c ↦ (let e = c.2 in cc) ]);
}

clash_of_two_cases : IsNameFault (a ∷ upper ∷ []) (clash a upper)
clash_of_two_cases = (
  each-two IsName a upper (label a, label_a) (label upper, label_upper),
  record {
    one = 0;
    other = 1;
    ordered = lit< tt;
    within = lit< tt;
    first_named = refl;
    second_named = refl;
    clashes = two_cases;
    earliest_second = one-apart (a ∷ upper ∷ []);
    earliest_first = λ i h. absurd (omega arith);
  },
)

-- `a` and `A`, imported: that they clash
pub imports_of_two_cases : IsFirstFault (a ∷ upper ∷ []) [] (clash a upper)
imports_of_two_cases = of_imports clash_of_two_cases

-- and nothing else is answered: not the other name first, nor that they are valid
pub not_exchanged : IsFirstFault (a ∷ upper ∷ []) [] (clash upper a) → ⊥
not_exchanged f =
    let e : clash a upper ≡ clash upper a = (has_one_answer (a ∷ upper ∷ []) []).one_fault (clash a upper) (clash upper a) imports_of_two_cases f in
    let g : a ≡ upper = cc in
    absurd (omega (arith, ap (λ (t : Text). slice_index_or t 0 0) g))

pub two_cases_not_valid : AreValid (a ∷ upper ∷ []) [] → ⊥
two_cases_not_valid v = (has_one_answer (a ∷ upper ∷ []) []).apart (clash a upper) v imports_of_two_cases

-- a clash of imports comes before an export outside the grammar
pub imports_come_first : (f : Fault) → IsFirstFault (a ∷ upper ∷ []) (codes "1a" ∷ []) f → f ≡ clash a upper
imports_come_first f w = (has_one_answer (a ∷ upper ∷ []) (codes "1a" ∷ [])).one_fault f (clash a upper) w (of_imports clash_of_two_cases)

-- `a` beside its constructor is valid, on both sides
apart_kinds : ¬ KindsClash (label a) (constructor a)
unfolding plain
apart_kinds h = h.1 (inl (a, refl, refl))

apart_from_constructor : AreDecided → ¬ Clash a made
apart_from_constructor d c =
    let one : c.one ≡ label a = (d a).one_kind c.one (label a) c.of_one label_a in
    let other : c.other ≡ constructor a = (d made).one_kind c.other (constructor a) c.of_other constructor_a in
    apart_kinds (subst (λ (k : Kind). KindsClash (label a) k) other (subst (λ (k : Kind). KindsClash k c.other) one c.clash))

pub constructor_beside_its_label : AreDecided → AreValid (a ∷ made ∷ []) (a ∷ made ∷ [])
constructor_beside_its_label d =
    let named : Each IsName (a ∷ made ∷ []) = each-two IsName a made (label a, label_a) (constructor a, constructor_a) in
    let names : AreNames (a ∷ made ∷ []) = record { named = named; apart = two-apart a made (apart_from_constructor d) } in
    record {
      imported = names;
      exported = names;
      exportable = each-two IsExportName a made (label a, label_a, tt) (constructor a, constructor_a, tt);
    }

-- an exported url is the fault, an imported one is none
url_not_exportable : AreDecided → ¬ IsExportName place
url_not_exportable d w = subst IsExportable ((d place).one_kind w.0 (url (codes "u") None) w.1 url_u) w.2

one-name : (x : Text) → IsName x → AreNames (x ∷ [])
one-name x named = record { named = each-one IsName x named; apart = one-apart (x ∷ []) }

pub exported_url : AreDecided → IsFirstFault (place ∷ []) (place ∷ []) (not_exportable place)
exported_url d = of_exporting (one-name place (url (codes "u") None, url_u)) (one-name place (url (codes "u") None, url_u)) (record {
  position = 0;
  within = lit< tt;
  named = refl;
  without = url_not_exportable d;
  before = λ i h. absurd (omega arith);
})

no_names : AreNames []
no_names = record { named = λ i h. absurd (omega arith); apart = λ i j h b. absurd (omega arith) }

pub imported_url : AreValid (place ∷ []) []
imported_url = record {
  imported = one-name place (url (codes "u") None, url_u);
  exported = no_names;
  exportable = λ i h. absurd (omega arith);
}
