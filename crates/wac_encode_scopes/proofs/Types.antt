-- `==` on types compares what the definitions compare.
use Rattle.std.proofs.Common.{◌≡◌, Bool, true, false, nat_eq, refl, ap, sym, subst, eq-eqb, rules}
use Rattle.std.proofs.lemmas.Bool.{eqb-true}
use denote.Enum.Bare.{same_true, true_same}
use Rattle.wac_types_shapes.specs.contracts.primitives.component.PrimitiveType.{the_type}
use Rattle.wac_types_shapes.specs.contracts.shapes.component.ValueTypePartialEq.TheImpl as ValueEq
use Rattle.wac_types_shapes.specs.contracts.shapes.component.TypePartialEq.TheImpl as TypeEq
use Rattle.wac_types_shapes.specs.declared.shapes.component.ValueType.{ValueType}
use Rattle.wac_types_shapes.specs.declared.shapes.component.ValueType.TheVariants as val
use Rattle.wac_types_shapes.specs.declared.shapes.component.«Type».{«Type» as AnyType}
use Rattle.wac_types_shapes.specs.declared.shapes.component.«Type».TheVariants as ty
use Rattle.wac_types_collection.specs.collection.Uses.{primitive_number, same_value, same_type}
use Rattle.wac_types_collection.proofs.lemmas.collection.Ids.{same_value-true}

abbrev pub value_eq : ValueType → ValueType → Bool
value_eq = (ValueEq.ghosts).eq

abbrev pub type_eq : AnyType → AnyType → Bool
type_eq = (TypeEq.ghosts).eq

-- two tests are the same where each holds if the other does
pub either-way : (a b : Bool) → (a ≡ true → b ≡ true) → (b ≡ true → a ≡ true) → a ≡ b
either-way true b f g = sym (f refl)
either-way false true f g = g refl
either-way false false f g = refl

pub eqb-swap : (m n : _) → nat_eq m n ≡ nat_eq n m
eqb-swap m n = either-way (nat_eq m n) (nat_eq n m) (λ h. eq-eqb n m (sym (eqb-true m n h))) (λ h. eq-eqb m n (sym (eqb-true n m h)))

value-there : (v w : ValueType) → value_eq v w ≡ true → v ≡ w
value-there (val.Primitive p) (val.Primitive q) e = ap val.Primitive (same_true the_type (search rules) p q e)
value-there (val.Own r) (val.Own s) e = ap (λ n. val.Own (record { 0 = n })) (eqb-true r.0 s.0 e)
value-there (val.Borrow r) (val.Borrow s) e = ap (λ n. val.Borrow (record { 0 = n })) (eqb-true r.0 s.0 e)
value-there (val.Defined r) (val.Defined s) e = ap (λ n. val.Defined (record { 0 = n })) (eqb-true r.0 s.0 e)
value-there _ _ e = cc e

value-itself : (v : ValueType) → value_eq v v ≡ true
value-itself (val.Primitive p) = true_same the_type p p refl
value-itself (val.Own r) = eq-eqb r.0 r.0 refl
value-itself (val.Borrow r) = eq-eqb r.0 r.0 refl
value-itself (val.Defined r) = eq-eqb r.0 r.0 refl

same-itself : (v : ValueType) → same_value v v ≡ true
same-itself (val.Primitive p) = eq-eqb (primitive_number p) (primitive_number p) refl
same-itself (val.Own r) = eq-eqb r.0 r.0 refl
same-itself (val.Borrow r) = eq-eqb r.0 r.0 refl
same-itself (val.Defined r) = eq-eqb r.0 r.0 refl

value-same : (v w : ValueType) → value_eq v w ≡ same_value w v
value-same v w = either-way (value_eq v w) (same_value w v)
    (λ h. subst (λ x. same_value x v ≡ true) (value-there v w h) (same-itself v))
    (λ h. subst (λ x. value_eq v x ≡ true) (sym (same_value-true w v h)) (value-itself v))

pub type-same : (a b : AnyType) → type_eq a b ≡ same_type b a
type-same (ty.Resource r) (ty.Resource q) = eqb-swap r.0 q.0
type-same (ty.Func r) (ty.Func q) = eqb-swap r.0 q.0
type-same (ty.Value v) (ty.Value w) = value-same v w
type-same (ty.Interface r) (ty.Interface q) = eqb-swap r.0 q.0
type-same (ty.World r) (ty.World q) = eqb-swap r.0 q.0
type-same (ty.Module r) (ty.Module q) = eqb-swap r.0 q.0
type-same _ _ = refl

pub type-itself : (a : AnyType) → type_eq a a ≡ true
type-itself (ty.Resource r) = eq-eqb r.0 r.0 refl
type-itself (ty.Func r) = eq-eqb r.0 r.0 refl
type-itself (ty.Value v) = value-itself v
type-itself (ty.Interface r) = eq-eqb r.0 r.0 refl
type-itself (ty.World r) = eq-eqb r.0 r.0 refl
type-itself (ty.Module r) = eq-eqb r.0 r.0 refl
