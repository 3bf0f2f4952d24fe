-- `==` tells types apart.
use Rattle.std.proofs.Common.{eq-eqb, Bool, true, false, ◌≡◌, refl, ap, sym, subst, rules}
use Rattle.std.proofs.lemmas.Bool.{eqb-true}
use denote.Enum.Bare.{same_true, true_same}
use Rattle.std.specs.Cmp.{IsEquivalence}
use Rattle.wac_types_shapes.specs.contracts.primitives.component.PrimitiveType.{the_type}
use Rattle.wac_types_shapes.specs.contracts.shapes.component.ValueTypePartialEq.TheImpl as ValueEq
use Rattle.wac_types_shapes.specs.contracts.shapes.component.TypePartialEq.TheImpl as TypeEq
use Rattle.wac_types_shapes.specs.declared.shapes.component.ValueType.{ValueType}
use Rattle.wac_types_shapes.specs.declared.shapes.component.ValueType.TheVariants as val
use Rattle.wac_types_shapes.specs.declared.shapes.component.«Type».{«Type» as AnyType}
use Rattle.wac_types_shapes.specs.declared.shapes.component.«Type».TheVariants as ty

same_value : (v w : ValueType) → (ValueEq.ghosts).eq v w ≡ true → v ≡ w
same_value (val.Primitive p) (val.Primitive q) e = ap val.Primitive (same_true the_type (search rules) p q e)
same_value (val.Own r) (val.Own s) e = ap (λ n. val.Own (record { 0 = n })) (eqb-true r.0 s.0 e)
same_value (val.Borrow r) (val.Borrow s) e = ap (λ n. val.Borrow (record { 0 = n })) (eqb-true r.0 s.0 e)
same_value (val.Defined r) (val.Defined s) e = ap (λ n. val.Defined (record { 0 = n })) (eqb-true r.0 s.0 e)
same_value _ _ e = cc e

pub same_type : (v w : AnyType) → (TypeEq.ghosts).eq v w ≡ true → v ≡ w
same_type (ty.Resource r) (ty.Resource s) e = ap (λ n. ty.Resource (record { 0 = n })) (eqb-true r.0 s.0 e)
same_type (ty.Func r) (ty.Func s) e = ap (λ n. ty.Func (record { 0 = n })) (eqb-true r.0 s.0 e)
same_type (ty.Value v) (ty.Value w) e = ap ty.Value (same_value v w e)
same_type (ty.Interface r) (ty.Interface s) e = ap (λ n. ty.Interface (record { 0 = n })) (eqb-true r.0 s.0 e)
same_type (ty.World r) (ty.World s) e = ap (λ n. ty.World (record { 0 = n })) (eqb-true r.0 s.0 e)
same_type (ty.Module r) (ty.Module s) e = ap (λ n. ty.Module (record { 0 = n })) (eqb-true r.0 s.0 e)
same_type _ _ e = cc e

value_itself : (v : ValueType) → (ValueEq.ghosts).eq v v ≡ true
value_itself (val.Primitive p) = true_same the_type p p refl
value_itself (val.Own r) = eq-eqb r.0 r.0 refl
value_itself (val.Borrow r) = eq-eqb r.0 r.0 refl
value_itself (val.Defined r) = eq-eqb r.0 r.0 refl

pub type_itself : (v : AnyType) → (TypeEq.ghosts).eq v v ≡ true
type_itself (ty.Resource r) = eq-eqb r.0 r.0 refl
type_itself (ty.Func r) = eq-eqb r.0 r.0 refl
type_itself (ty.Value v) = value_itself v
type_itself (ty.Interface r) = eq-eqb r.0 r.0 refl
type_itself (ty.World r) = eq-eqb r.0 r.0 refl
type_itself (ty.Module r) = eq-eqb r.0 r.0 refl

pub type_laws : IsEquivalence (TypeEq.ghosts).eq
type_laws = record {
  refl = type_itself;
  symm = λ x y. by (E x y) (E y x) (λ h. subst (λ z. E z x ≡ true) (same_type x y h) (type_itself x)) (λ h. subst (λ z. E z y ≡ true) (same_type y x h) (type_itself y));
  congr = λ x y z h. ap (λ w. E w z) (same_type x y h);
}
  where
    E : AnyType → AnyType → Bool
    E = (TypeEq.ghosts).eq

    by : (p q : Bool) → (p ≡ true → q ≡ true) → (q ≡ true → p ≡ true) → p ≡ q
    by true q f g = sym (f refl)
    by false true f g = g refl
    by false false f g = refl
