-- The definitions at the ends of items' value types are of the collection.
use Rattle.std.specs.Prelude.{ℕ, zero, suc, ◌≡◌, ◌&&◌, Bool, true, false, List, [], ◌∷◌, length, slice_get, Option, Some, None, Contains}
use Rattle.std.specs.List.{list_all}
use Rattle.std.proofs.Common.{refl, ap, ◌∙◌, sym}
use Rattle.std.proofs.lemmas.Bool.{ltb-true}
use Rattle.wac_types_shapes.specs.primitives.Name.{Name}
use Rattle.wac_types_shapes.specs.shapes.Kinds.{kind_type}
use Rattle.wac_types_shapes.specs.declared.shapes.component.DefinedTypeId.{DefinedTypeId}
use Rattle.wac_types_shapes.specs.declared.shapes.component.ItemKind.{ItemKind}
use Rattle.wac_types_shapes.specs.declared.shapes.component.ItemKind.TheVariants as kind
use Rattle.wac_types_shapes.specs.declared.shapes.component.ValueType.{ValueType}
use Rattle.wac_types_shapes.specs.declared.shapes.component.ValueType.TheVariants as val
use Rattle.wac_types_shapes.specs.declared.shapes.component.«Type».TheVariants as ty
use Rattle.wac_types_collection.specs.collection.Aliases.{value_resolved}
use Rattle.wac_types_collection.specs.collection.Collection.{Collection, HasDefined, IsWellFormed, holds_type, holds_value, kind_types}
use Rattle.wac_types_collection.proofs.lemmas.collection.Ends.{end_is_held}
use Rattle.wac_types_collection.proofs.lemmas.wide.Members.{in_at}
use Rattle.wac_encode_scopes.specs.private.Telling.{definition_in, definition_of}

pub all-at : {A : Type 0} (p : A → Bool) (xs : List A) (i : ℕ) (y : A) → list_all p xs ≡ true → slice_get xs i ≡ Some y → p y ≡ true
all-at p [] i y h at = let no : None ≡ Some y = at in cc
all-at p (z ∷ xs) zero y h at =
    let some : Some z ≡ Some y = at in
    let same : z ≡ y = cc in
    ap p (sym same) ∙ first (p z) (list_all p xs) h
  where
    first : (a b : Bool) → (a && b) ≡ true → a ≡ true
    first true b e = refl
    first false b e = let both : false ≡ true = e in cc
all-at p (z ∷ xs) (suc i) y h at = all-at p xs i y (second (p z) (list_all p xs) h) at
  where
    second : (a b : Bool) → (a && b) ≡ true → b ≡ true
    second true b e = e
    second false b e = let both : false ≡ true = e in cc

kinds-at : (es : List (Name × ItemKind)) (i : ℕ) (y : Name × ItemKind) → slice_get es i ≡ Some y → slice_get (kind_types es) i ≡ Some (kind_type y.1)
kinds-at [] i y at = let no : None ≡ Some y = at in cc
kinds-at (z ∷ es) zero y at = let some : Some z ≡ Some y = at in let same : z ≡ y = cc in ap (λ (k : Name × ItemKind). Some (kind_type k.1)) same
kinds-at (z ∷ es) (suc i) y at = kinds-at es i y at

definition-is : (w : ValueType) (d : DefinedTypeId) → definition_of w ≡ Some d → w ≡ val.Defined d
definition-is (val.Defined e) d h = let some : Some e ≡ Some d = h in let same : e ≡ d = cc in ap val.Defined same
definition-is w d h = let no : None ≡ Some d = h in cc

pub definition-some : (c : Collection) (n : Name) (k : ItemKind) (d : DefinedTypeId) → definition_in c (n, k) ≡ Some d → (v : ValueType) × (k ≡ kind.TypeItem (ty.Value v)) × (value_resolved c v ≡ val.Defined d)
definition-some c n (kind.TypeItem (ty.Value v)) d h = (v, refl, definition-is (value_resolved c v) d h)
definition-some c n k d h = let no : None ≡ Some d = h in cc

pub definition-holds : (c : Collection) → IsWellFormed c → (es : List (Name × ItemKind)) → list_all (holds_type c) (kind_types es) ≡ true → (i : ℕ) (e : Name × ItemKind) (d : DefinedTypeId) → slice_get es i ≡ Some e → definition_in c e ≡ Some d → holds_value c (val.Defined d) ≡ true
definition-holds c wf es held i e d at is =
    let v = definition-some c e.0 e.1 d is in
    let holds : holds_value c v.0 ≡ true = ap (λ (k : ItemKind). holds_type c (kind_type k)) (sym v.1) ∙ all-at (holds_type c) (kind_types es) i (kind_type e.1) held (kinds-at es i e at) in
    ap (holds_value c) (sym v.2) ∙ end_is_held c wf v.0 true holds ∙ holds

pub definition-has : (c : Collection) → IsWellFormed c → (es : List (Name × ItemKind)) → list_all (holds_type c) (kind_types es) ≡ true → (e : Name × ItemKind) (d : DefinedTypeId) → Contains es e → definition_in c e ≡ Some d → HasDefined c d
definition-has c wf es held e d there is = let at = in_at es e there in ltb-true d.0 (length c.defined) (definition-holds c wf es held at.0 e d at.2 is)
