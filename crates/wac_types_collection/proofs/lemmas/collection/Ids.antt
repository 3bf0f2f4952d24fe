-- Items of the same sort and id are equal.
use Rattle.std.proofs.Common.{true, rules, List, [], ◌∷◌, ◌≡◌, refl, ap, sym, ◌∙◌, Some, slice_get}
use Rattle.std.proofs.lemmas.Bool.{eqb-true, eq-eqb}
use Rattle.std.proofs.lemmas.Option.{same_Some}
use Rattle.wac_types_shapes.specs.declared.primitives.component.PrimitiveType.{PrimitiveType}
use Rattle.wac_types_shapes.specs.declared.primitives.component.PrimitiveType.TheVariants as prim
use Rattle.wac_types_shapes.specs.declared.shapes.component.ValueType.{ValueType}
use Rattle.wac_types_shapes.specs.declared.shapes.component.ValueType.TheVariants as val
use Rattle.wac_types_shapes.specs.declared.shapes.component.«Type».{«Type» as AnyType}
use Rattle.wac_types_shapes.specs.declared.shapes.component.«Type».TheVariants as ty
use Rattle.wac_types_shapes.specs.declared.shapes.component.ItemKind.{ItemKind}
use Rattle.wac_types_shapes.specs.declared.shapes.component.ItemKind.TheVariants as kind
use Rattle.wac_types_shapes.specs.contracts.shapes.component.ItemKindPartialEq.TheImpl as KindEq
use Rattle.wac_types_shapes.proofs.lemmas.shapes.Names.{same_name-bytes_eq}
use Rattle.wac_types_collection.specs.collection.Uses.{primitive_number, same_value, same_type, same_item}

primitives : List PrimitiveType
primitives = prim.Bool ∷ prim.S8 ∷ prim.U8 ∷ prim.S16 ∷ prim.U16 ∷ prim.S32 ∷ prim.U32 ∷ prim.S64 ∷ prim.U64 ∷ prim.F32 ∷ prim.F64 ∷ prim.Char ∷ prim.String ∷ prim.ErrorContext ∷ []

at_number : (p : PrimitiveType) → slice_get primitives (primitive_number p) ≡ Some p
unfolding primitives
at_number prim.Bool = refl
at_number _ = refl

pub same_value-true : (a b : ValueType) → same_value a b ≡ true → a ≡ b
same_value-true (val.Primitive p) (val.Primitive q) h = ap val.Primitive (same_Some p q (sym (at_number p) ∙ ap (slice_get primitives) (eqb-true _ _ h) ∙ at_number q))
same_value-true (val.Borrow r) (val.Borrow q) h = ap (λ i. val.Borrow (record { 0 = i })) (eqb-true r.0 q.0 h)
same_value-true (val.Own r) (val.Own q) h = ap (λ i. val.Own (record { 0 = i })) (eqb-true r.0 q.0 h)
same_value-true (val.Defined d) (val.Defined e) h = ap (λ i. val.Defined (record { 0 = i })) (eqb-true d.0 e.0 h)
same_value-true _ _ h = cc

pub same_type-true : (a b : AnyType) → same_type a b ≡ true → a ≡ b
same_type-true (ty.Resource r) (ty.Resource q) h = ap (λ i. ty.Resource (record { 0 = i })) (eqb-true r.0 q.0 h)
same_type-true (ty.Func r) (ty.Func q) h = ap (λ i. ty.Func (record { 0 = i })) (eqb-true r.0 q.0 h)
same_type-true (ty.Value v) (ty.Value w) h = ap ty.Value (same_value-true v w h)
same_type-true (ty.Interface r) (ty.Interface q) h = ap (λ i. ty.Interface (record { 0 = i })) (eqb-true r.0 q.0 h)
same_type-true (ty.World r) (ty.World q) h = ap (λ i. ty.World (record { 0 = i })) (eqb-true r.0 q.0 h)
same_type-true (ty.Module r) (ty.Module q) h = ap (λ i. ty.Module (record { 0 = i })) (eqb-true r.0 q.0 h)
same_type-true _ _ h = cc

pub same_item-true : (a b : ItemKind) → same_item a b ≡ true → a ≡ b
same_item-true (kind.TypeItem s) (kind.TypeItem t) h = ap kind.TypeItem (same_type-true s t h)
same_item-true (kind.Func r) (kind.Func q) h = ap (λ i. kind.Func (record { 0 = i })) (eqb-true r.0 q.0 h)
same_item-true (kind.Instance r) (kind.Instance q) h = ap (λ i. kind.Instance (record { 0 = i })) (eqb-true r.0 q.0 h)
same_item-true (kind.Component r) (kind.Component q) h = ap (λ i. kind.Component (record { 0 = i })) (eqb-true r.0 q.0 h)
same_item-true (kind.Module r) (kind.Module q) h = ap (λ i. kind.Module (record { 0 = i })) (eqb-true r.0 q.0 h)
same_item-true (kind.Value v) (kind.Value w) h = ap kind.Value (same_value-true v w h)
same_item-true _ _ h = cc

same_value-refl : (a : ValueType) → same_value a a ≡ true
same_value-refl (val.Primitive p) = eq-eqb _ _ refl
same_value-refl _ = eq-eqb _ _ refl

same_type-refl : (a : AnyType) → same_type a a ≡ true
same_type-refl (ty.Value v) = same_value-refl v
same_type-refl _ = eq-eqb _ _ refl

pub same_item-refl : (a : ItemKind) → same_item a a ≡ true
same_item-refl (kind.TypeItem s) = same_type-refl s
same_item-refl (kind.Value v) = same_value-refl v
same_item-refl _ = eq-eqb _ _ refl

-- the derived `==` is that of sorts and ids
pub kind_eq : (a b : ItemKind) → (KindEq.ghosts).eq a b ≡ same_item a b
kind_eq a b = search rules

-- names are the same where their bytes are
pub ruleset same_bytes = (same_name-bytes_eq)
