-- What a list of mentions says of its parts.
use Rattle.std.proofs.Common.{Bool, true, false, ◌&&◌, List, [], ◌∷◌, ◌++◌, ◌≡◌, refl, ap, ◌∙◌, Option, Some, None}
use Rattle.std.specs.List.{list_all}
use Rattle.std.proofs.lemmas.List.Folds.{list_all-append}
use Rattle.wac_types_shapes.specs.primitives.Name.{Name}
use Rattle.wac_types_shapes.specs.declared.shapes.component.UsedType.{UsedType}
use Rattle.wac_types_shapes.specs.declared.shapes.component.ValueType.{ValueType}
use Rattle.wac_types_shapes.specs.declared.shapes.component.«Type».TheVariants as ty
use Rattle.wac_types_shapes.specs.declared.shapes.component.ItemKind.{ItemKind}
use Rattle.wac_types_shapes.specs.shapes.Kinds.{kind_type}
use Rattle.wac_types_collection.specs.collection.Collection.{Collection, holds_value, holds_type, holds_all, value_types, seconds, case_values, used_types, kind_types, and_maybe}

and_true : (p q : Bool) → (p && q) ≡ ((p && true) && q)
and_true true q = refl
and_true false q = refl

-- an optional value type before others
pub maybe_first : (c : Collection) (v : Option ValueType) (vs : List ValueType) → holds_all c (value_types (and_maybe v vs)) ≡ (holds_all c (value_types (and_maybe v [])) && holds_all c (value_types vs))
maybe_first c None vs = refl
maybe_first c (Some v) vs = and_true (holds_value c v) (holds_all c (value_types vs))

-- those of two lists
pub all_append : {A : Type 0} (p : A → Bool) (xs ys : List A) → list_all p (xs ++ ys) ≡ (list_all p xs && list_all p ys)
all_append p xs ys = list_all-append p xs ys

-- all mentions of a list are held where those of each of its items are
pub values_held : (c : Collection) (vs : List ValueType) → holds_all c (value_types vs) ≡ list_all (holds_value c) vs
values_held c [] = refl
values_held c (v ∷ vs) = ap (λ b. holds_value c v && b) (values_held c vs)

pub params_held : (c : Collection) (es : List (Name × ValueType)) → holds_all c (value_types (seconds es)) ≡ list_all (λ e. holds_value c e.1) es
params_held c [] = refl
params_held c (e ∷ es) = ap (λ b. holds_value c e.1 && b) (params_held c es)

pub cases_held : (c : Collection) (es : List (Name × Option ValueType)) → holds_all c (value_types (case_values es)) ≡ list_all (λ e. holds_all c (value_types (and_maybe e.1 []))) es
cases_held c [] = refl
cases_held c (e ∷ es) = maybe_first c e.1 (case_values es) ∙ ap (λ b. holds_all c (value_types (and_maybe e.1 [])) && b) (cases_held c es)

pub used_held : (c : Collection) (es : List (Name × UsedType)) → holds_all c (used_types es) ≡ list_all (λ e. holds_type c (ty.Interface e.1.interface)) es
used_held c [] = refl
used_held c (e ∷ es) = ap (λ b. holds_type c (ty.Interface e.1.interface) && b) (used_held c es)

pub items_held : (c : Collection) (es : List (Name × ItemKind)) → holds_all c (kind_types es) ≡ list_all (λ e. holds_type c (kind_type e.1)) es
items_held c [] = refl
items_held c (e ∷ es) = ap (λ b. holds_type c (kind_type e.1) && b) (items_held c es)
