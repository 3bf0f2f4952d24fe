-- Interfaces that `==` tells apart, and what a union becomes that lists other than the first that is one interface alone.
use Rattle.std.proofs.Common.{◌≡◌, Bool, true, ◌&&◌, List, [], ◌∷◌, Option, Some, None, inl, refl, sym, ap, ◌∙◌, subst, eq-eqb, rules}
use Rattle.std.proofs.lemmas.Bool.{eqb-true, and_parts as both}
use Rattle.std.specs.Cmp.Lexicographic.{bytes_decides, pointwise, pointwise_decides}
use Rattle.std.specs.Option.{option_eq}
use denote.Enum.Bare.{same_true, true_same}
use Rattle.wac_types_shapes.specs.private.shapes.Equal.{same_named, same_text}
use Rattle.wac_types_shapes.specs.primitives.Name.{Name}
use Rattle.wac_types_shapes.specs.contracts.shapes.component.InterfacePartialEq.TheImpl as InterfaceEq
use Rattle.wac_types_shapes.specs.contracts.shapes.component.ItemKindPartialEq.TheImpl as KindEq
use Rattle.wac_types_shapes.specs.contracts.primitives.component.PrimitiveType.{the_type}
use Rattle.wac_types_shapes.specs.contracts.shapes.component.TypePartialEq.TheImpl as TypeEq
use Rattle.wac_types_shapes.specs.contracts.shapes.component.UsedTypePartialEq.TheImpl as UsedEq
use Rattle.wac_types_shapes.specs.contracts.shapes.component.ValueTypePartialEq.TheImpl as ValueEq
use Rattle.wac_types_shapes.specs.declared.shapes.component.Interface.{Interface}
use Rattle.wac_types_shapes.specs.declared.shapes.component.InterfaceId.{InterfaceId}
use Rattle.wac_types_shapes.specs.declared.shapes.component.ItemKind.{ItemKind}
use Rattle.wac_types_shapes.specs.declared.shapes.component.ItemKind.TheVariants as kind
use Rattle.wac_types_shapes.specs.declared.shapes.component.UsedType.{UsedType}
use Rattle.wac_types_shapes.specs.declared.shapes.component.ValueType.{ValueType}
use Rattle.wac_types_shapes.specs.declared.shapes.component.ValueType.TheVariants as val
use Rattle.wac_types_shapes.specs.declared.shapes.component.«Type».{«Type» as AnyType}
use Rattle.wac_types_shapes.specs.declared.shapes.component.«Type».TheVariants as ty
use Rattle.wac_types_collection.specs.collection.Collection.{Collection, HasInterface, item_at}
use Rattle.wac_types_collection.proofs.lemmas.subtyping.Telling.{and_true}
use Rattle.wac_merge_classes.proofs.lemmas.terms.Found.{some_same}
use Rattle.wac_merge_imports.specs.unions.SharedUnions.{Shares}

-- ---- interfaces that use no other are equal where `==` says so

same_value : (v w : ValueType) → (ValueEq.ghosts).eq v w ≡ true → v ≡ w
same_value (val.Primitive p) (val.Primitive q) e = ap val.Primitive (same_true the_type (search rules) p q e)
same_value (val.Own r) (val.Own s) e = ap (λ n. val.Own (record { 0 = n })) (eqb-true r.0 s.0 e)
same_value (val.Borrow r) (val.Borrow s) e = ap (λ n. val.Borrow (record { 0 = n })) (eqb-true r.0 s.0 e)
same_value (val.Defined r) (val.Defined s) e = ap (λ n. val.Defined (record { 0 = n })) (eqb-true r.0 s.0 e)
same_value _ _ e = cc e

same_type : (v w : AnyType) → (TypeEq.ghosts).eq v w ≡ true → v ≡ w
same_type (ty.Resource r) (ty.Resource s) e = ap (λ n. ty.Resource (record { 0 = n })) (eqb-true r.0 s.0 e)
same_type (ty.Func r) (ty.Func s) e = ap (λ n. ty.Func (record { 0 = n })) (eqb-true r.0 s.0 e)
same_type (ty.Value v) (ty.Value w) e = ap ty.Value (same_value v w e)
same_type (ty.Interface r) (ty.Interface s) e = ap (λ n. ty.Interface (record { 0 = n })) (eqb-true r.0 s.0 e)
same_type (ty.World r) (ty.World s) e = ap (λ n. ty.World (record { 0 = n })) (eqb-true r.0 s.0 e)
same_type (ty.Module r) (ty.Module s) e = ap (λ n. ty.Module (record { 0 = n })) (eqb-true r.0 s.0 e)
same_type _ _ e = cc e

same_kind : (v w : ItemKind) → (KindEq.ghosts).eq v w ≡ true → v ≡ w
same_kind (kind.TypeItem s) (kind.TypeItem t) e = ap kind.TypeItem (same_type s t e)
same_kind (kind.Func r) (kind.Func s) e = ap (λ n. kind.Func (record { 0 = n })) (eqb-true r.0 s.0 e)
same_kind (kind.Instance r) (kind.Instance s) e = ap (λ n. kind.Instance (record { 0 = n })) (eqb-true r.0 s.0 e)
same_kind (kind.Component r) (kind.Component s) e = ap (λ n. kind.Component (record { 0 = n })) (eqb-true r.0 s.0 e)
same_kind (kind.Module r) (kind.Module s) e = ap (λ n. kind.Module (record { 0 = n })) (eqb-true r.0 s.0 e)
same_kind (kind.Value v) (kind.Value w) e = ap kind.Value (same_value v w e)
same_kind _ _ e = cc e

value_itself : (v : ValueType) → (ValueEq.ghosts).eq v v ≡ true
value_itself (val.Primitive p) = true_same the_type p p refl
value_itself (val.Own r) = eq-eqb r.0 r.0 refl
value_itself (val.Borrow r) = eq-eqb r.0 r.0 refl
value_itself (val.Defined r) = eq-eqb r.0 r.0 refl

type_itself : (v : AnyType) → (TypeEq.ghosts).eq v v ≡ true
type_itself (ty.Resource r) = eq-eqb r.0 r.0 refl
type_itself (ty.Func r) = eq-eqb r.0 r.0 refl
type_itself (ty.Value v) = value_itself v
type_itself (ty.Interface r) = eq-eqb r.0 r.0 refl
type_itself (ty.World r) = eq-eqb r.0 r.0 refl
type_itself (ty.Module r) = eq-eqb r.0 r.0 refl

kind_itself : (v : ItemKind) → (KindEq.ghosts).eq v v ≡ true
kind_itself (kind.TypeItem t) = type_itself t
kind_itself (kind.Func r) = eq-eqb r.0 r.0 refl
kind_itself (kind.Instance r) = eq-eqb r.0 r.0 refl
kind_itself (kind.Component r) = eq-eqb r.0 r.0 refl
kind_itself (kind.Module r) = eq-eqb r.0 r.0 refl
kind_itself (kind.Value v) = value_itself v

abbrev item_eq : Name × ItemKind → Name × ItemKind → Bool
item_eq a b = same_text a.0 b.0 && (KindEq.ghosts).eq a.1 b.1

item_tells : (a b : Name × ItemKind) → (item_eq a b ≡ true → a ≡ b) × (a ≡ b → item_eq a b ≡ true)
item_tells a b = (there, back) where
  there : item_eq a b ≡ true → a ≡ b
  there e =
      let (p, q) = both (same_text a.0 b.0) ((KindEq.ghosts).eq a.1 b.1) e in
      let n = (bytes_decides a.0 b.0).0 p in
      let k = same_kind a.1 b.1 q in
      (λ i. (n i, k i))

  back : a ≡ b → item_eq a b ≡ true
  back e = subst (λ (x : Name × ItemKind). item_eq a x ≡ true) e (and_true (same_text a.0 a.0) ((KindEq.ghosts).eq a.1 a.1) ((bytes_decides a.0 a.0).1 refl) (kind_itself a.1))

pub id_tells : (x y : Option Name) → (option_eq same_text x y ≡ true → x ≡ y) × (x ≡ y → option_eq same_text x y ≡ true)
id_tells None None = (λ _. refl, λ _. refl)
id_tells None (Some b) = (λ e. cc e, λ e. cc e)
id_tells (Some a) None = (λ e. cc e, λ e. cc e)
id_tells (Some a) (Some b) = (λ e. ap Some ((bytes_decides a b).0 e), λ e. (bytes_decides a b).1 (some_same a b e))

abbrev uses_eq : List (Name × UsedType) → List (Name × UsedType) → Bool
uses_eq = same_named (UsedEq.ghosts).eq

none-used : (xs : List (Name × UsedType)) → uses_eq xs [] ≡ true → xs ≡ []
none-used [] e = refl
none-used (x ∷ xs) e = cc e

pub same-interface : (x y : Interface) → y.uses ≡ [] → (InterfaceEq.ghosts).eq x y ≡ true → x ≡ y
same-interface x y unused e =
    let (p, rest) = both (option_eq same_text x.id y.id) (uses_eq x.uses y.uses && pointwise item_eq x.exports y.exports) e in
    let (q, r) = both (uses_eq x.uses y.uses) (pointwise item_eq x.exports y.exports) rest in
    let id = (id_tells x.id y.id).0 p in
    let uses = none-used x.uses (ap (uses_eq x.uses) (sym unused) ∙ q) ∙ sym unused in
    let exports = (pointwise_decides item_tells x.exports y.exports).0 r in
    (λ i. record { id = id i; uses = uses i; exports = exports i })

pub interface-itself : (x y : Interface) → y.uses ≡ [] → x ≡ y → (InterfaceEq.ghosts).eq x y ≡ true
interface-itself x y unused e =
    let used = ap (λ (z : Interface). z.uses) e ∙ unused in
    and_true (option_eq same_text x.id y.id) (uses_eq x.uses y.uses && pointwise item_eq x.exports y.exports) ((id_tells x.id y.id).1 (ap (λ (z : Interface). z.id) e))
    (and_true (uses_eq x.uses y.uses) (pointwise item_eq x.exports y.exports) (ap (λ us. uses_eq us y.uses) used ∙ ap (uses_eq []) unused) ((pointwise_decides item_tells x.exports y.exports).1 (ap (λ (z : Interface). z.exports) e)))

-- ---- a union that is alone an interface

-- one that lists other than what the first such union became
pub alone-other : (alone : Option InterfaceId) (m more : Collection) (old : InterfaceId → Option InterfaceId) (s : InterfaceId) → alone ≡ Some s → (f : InterfaceId) → old s ≡ Some f → (w : InterfaceId) (x y : Interface)
    → item_at more.interfaces f.0 ≡ Some x → item_at more.interfaces w.0 ≡ Some y → (x ≡ y → ⊥) → (HasInterface m w → ⊥) → Shares (λ i. alone ≡ Some i) m more old old w
alone-other alone m more old s is_alone f known w x y first second other fresh = record {
  stay = λ i v is. is;
  known = λ i v is. inl is;
  first = λ i is. (f, ap old (sym (some_same s i (sym is_alone ∙ is))) ∙ known, record { first = x; second = y; first_at = first; second_at = second; one = λ e. absurd (other e) });
  apart = inl fresh;
}
