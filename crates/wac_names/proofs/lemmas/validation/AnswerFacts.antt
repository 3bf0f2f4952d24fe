-- Outer names have one answer.
use Rattle.std.proofs.Common.{◌≡◌, ◌<◌, List, sym, ap, ◌∙◌, subst, inl, inr}
use Rattle.std.proofs.lemmas.Bool.{cases_order}
use Rattle.wac_names.specs.Clash.{Clash}
use Rattle.wac_names.specs.validation.FirstFault.{Fault, bad_name, clash, not_exportable, IsExportFault, IsFirstClash, IsFirstFault, IsFirstWithout, IsNameFault, HasOneAnswer, of_imports, of_exports, of_exporting}
use Rattle.wac_names.specs.validation.Valid.{Text, at, IsName, IsExportName, Each, AreNames, AreValid}

-- the first without a fact is one
without-one : (P : Text → Type 0) (names : List Text) (x y : Text) → IsFirstWithout P names x → IsFirstWithout P names y → x ≡ y
without-one P names x y a b =
    elim (cases_order a.position b.position) [
      | inl e ↦ sym a.named ∙ (ap (at names) e ∙ b.named)
      | inr w ↦ elim w [
        | inl h ↦ absurd (a.without (subst P a.named (b.before a.position h)))
        | inr h ↦ absurd (b.without (subst P b.named (a.before b.position h)))
      ]
    ]

-- where each has the fact none is without
without-none : (P : Text → Type 0) (names : List Text) (x : Text) → Each P names → IsFirstWithout P names x → ⊥
without-none P names x all a = a.without (subst P a.named (all a.position a.within))

clash-at : (names : List Text) (x y : Text) (a : IsFirstClash names x y) → Clash (at names a.one) (at names a.other)
clash-at names x y a = subst (λ (t : Text). Clash t (at names a.other)) (sym a.first_named) (subst (λ (t : Text). Clash x t) (sym a.second_named) a.clashes)

clash-none : (names : List Text) (x y : Text) → AreNames names → IsFirstClash names x y → ⊥
clash-none names x y all a = all.apart a.one a.other a.ordered a.within (clash-at names x y a)

-- of two first clashes none has the earlier second
second-least : (names : List Text) (x y u v : Text) (a : IsFirstClash names x y) (b : IsFirstClash names u v) → a.other < b.other → ⊥
second-least names x y u v a b h = b.earliest_second a.one a.other a.ordered h (clash-at names x y a)

-- nor, for one second, the earlier first
first-least : (names : List Text) (x y u v : Text) (a : IsFirstClash names x y) (b : IsFirstClash names u v) → a.other ≡ b.other → a.one < b.one → ⊥
first-least names x y u v a b e h =
    let same : y ≡ v = sym a.second_named ∙ (ap (at names) e ∙ b.second_named) in
    b.earliest_first a.one h (subst (λ (t : Text). Clash (at names a.one) t) same (subst (λ (t : Text). Clash t y) (sym a.first_named) a.clashes))

clash-same : (names : List Text) (x y u v : Text) (a : IsFirstClash names x y) (b : IsFirstClash names u v) → a.one ≡ b.one → a.other ≡ b.other → clash x y ≡ clash u v
clash-same names x y u v a b e f =
    let one : x ≡ u = sym a.first_named ∙ (ap (at names) e ∙ b.first_named) in
    let other : y ≡ v = sym a.second_named ∙ (ap (at names) f ∙ b.second_named) in
    cc

clash-one : (names : List Text) (x y u v : Text) → IsFirstClash names x y → IsFirstClash names u v → clash x y ≡ clash u v
clash-one names x y u v a b =
    elim (cases_order a.other b.other) [
      | inl f ↦ elim (cases_order a.one b.one) [
        | inl e ↦ clash-same names x y u v a b e f
        | inr w ↦ elim w [
          | inl h ↦ absurd (first-least names x y u v a b f h)
          | inr h ↦ absurd (first-least names u v x y b a (sym f) h)
        ]
      ]
      | inr w ↦ elim w [
        | inl h ↦ absurd (second-least names x y u v a b h)
        | inr h ↦ absurd (second-least names u v x y b a h)
      ]
    ]

name_fault-one : (names : List Text) (f g : Fault) → IsNameFault names f → IsNameFault names g → f ≡ g
name_fault-one names (bad_name x) (bad_name y) a b = ap bad_name (without-one IsName names x y a b)
name_fault-one names (bad_name x) (clash u v) a b = absurd (without-none IsName names x b.0 a)
name_fault-one names (clash x y) (bad_name u) a b = absurd (without-none IsName names u a.0 b)
name_fault-one names (clash x y) (clash u v) a b = clash-one names x y u v a.1 b.1
name_fault-one names (not_exportable x) g a b = absurd a
name_fault-one names (bad_name x) (not_exportable y) a b = absurd b
name_fault-one names (clash x y) (not_exportable z) a b = absurd b

name_fault-none : (names : List Text) (f : Fault) → AreNames names → IsNameFault names f → ⊥
name_fault-none names (bad_name x) all a = without-none IsName names x all.named a
name_fault-none names (clash x y) all a = clash-none names x y all a.1
name_fault-none names (not_exportable x) all a = absurd a

export_fault-one : (names : List Text) (f g : Fault) → IsExportFault names f → IsExportFault names g → f ≡ g
export_fault-one names (not_exportable x) (not_exportable y) a b = ap not_exportable (without-one IsExportName names x y a b)
export_fault-one names (bad_name x) g a b = absurd a
export_fault-one names (clash x y) g a b = absurd a
export_fault-one names (not_exportable x) (bad_name y) a b = absurd b
export_fault-one names (not_exportable x) (clash y z) a b = absurd b

export_fault-none : (names : List Text) (f : Fault) → Each IsExportName names → IsExportFault names f → ⊥
export_fault-none names (not_exportable x) all a = without-none IsExportName names x all a
export_fault-none names (bad_name x) all a = absurd a
export_fault-none names (clash x y) all a = absurd a

fault-one : (imports exports : List Text) (f g : Fault) → IsFirstFault imports exports f → IsFirstFault imports exports g → f ≡ g
fault-one imports exports f g (of_imports a) (of_imports b) = name_fault-one imports f g a b
fault-one imports exports f g (of_imports a) (of_exports m b) = absurd (name_fault-none imports f m a)
fault-one imports exports f g (of_imports a) (of_exporting m n b) = absurd (name_fault-none imports f m a)
fault-one imports exports f g (of_exports m a) (of_imports b) = absurd (name_fault-none imports g m b)
fault-one imports exports f g (of_exports m a) (of_exports _ b) = name_fault-one exports f g a b
fault-one imports exports f g (of_exports m a) (of_exporting _ n b) = absurd (name_fault-none exports f n a)
fault-one imports exports f g (of_exporting m n a) (of_imports b) = absurd (name_fault-none imports g m b)
fault-one imports exports f g (of_exporting m n a) (of_exports _ b) = absurd (name_fault-none exports g n b)
fault-one imports exports f g (of_exporting m n a) (of_exporting _ _ b) = export_fault-one exports f g a b

fault-none : (imports exports : List Text) (f : Fault) → AreValid imports exports → IsFirstFault imports exports f → ⊥
fault-none imports exports f all (of_imports a) = name_fault-none imports f all.imported a
fault-none imports exports f all (of_exports m a) = name_fault-none exports f all.exported a
fault-none imports exports f all (of_exporting m n a) = export_fault-none exports f all.exportable a

pub has_one_answer : (imports exports : List Text) → HasOneAnswer imports exports
has_one_answer imports exports = record { one_fault = fault-one imports exports; apart = fault-none imports exports }
