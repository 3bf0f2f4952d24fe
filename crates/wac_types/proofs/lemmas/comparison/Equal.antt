-- What `==` answers of questions, and of what stands in types.
use Rattle.std.proofs.Common.{Bool, true, false, ◌≡◌, refl, ap, sym, subst, ◌∙◌, List, rules}
use Rattle.std.proofs.lemmas.Bool.{and_parts, eqb-true}
use Rattle.std.proofs.lemmas.Slice.Eq.{slice_eq-Decides, bytes_eq-Decides}
use denote.Enum.Bare.{same_true, true_same}
use Rattle.std.specs.Bool.{beq, Decides}
use Rattle.std.specs.Cmp.Lexicographic.{pointwise}
use Rattle.wac_types_shapes.specs.primitives.Name.{Name}
use Rattle.wac_types_shapes.specs.contracts.primitives.component.PrimitiveType.{the_type}
use Rattle.wac_types_shapes.specs.contracts.primitives.component.PrimitiveTypePartialEq.TheImpl as PrimitiveEq
use Rattle.wac_types_shapes.specs.contracts.primitives.core_types.CoreTypePartialEq.TheImpl as CoreEq
use Rattle.wac_types_shapes.specs.declared.primitives.component.PrimitiveType.{PrimitiveType}
use Rattle.wac_types_shapes.specs.declared.primitives.core_types.CoreType.{CoreType}
use Rattle.wac_types_shapes.specs.declared.primitives.core_types.CoreType.TheVariants.{I32, I64, F32, F64, V128, Ref}
use Rattle.wac_types_shapes.specs.declared.primitives.core_types.CoreRefType.TheVariants.{FuncRef, ExternRef}
use Rattle.wac_types_shapes.specs.private.shapes.Equal.{same_labels}
use Rattle.wac_types_shapes.specs.contracts.shapes.component.ValueTypePartialEq.TheImpl as ValueEq
use Rattle.wac_types_shapes.specs.contracts.shapes.component.TypePartialEq.TheImpl as TypeEq
use Rattle.wac_types.specs.contracts.comparison.questions.QuestionPartialEq.TheImpl as QuestionEq
use Rattle.wac_types.specs.contracts.comparison.classes.NodePartialEq.TheImpl as NodeEq
use Rattle.wac_types.specs.declared.comparison.classes.Node.{Node}
use Rattle.wac_types.specs.declared.comparison.questions.Question.{Question}
use Rattle.wac_types_shapes.specs.declared.shapes.component.ValueType.{ValueType}
use Rattle.wac_types_shapes.specs.declared.shapes.component.ValueType.TheVariants as val
use Rattle.wac_types_shapes.specs.declared.shapes.component.«Type».{«Type» as AnyType}
use Rattle.wac_types_shapes.specs.declared.shapes.component.«Type».TheVariants as ty

same_value : (v w : ValueType) → (ValueEq.ghosts).eq v w ≡ true → v ≡ w
same_value (val.Primitive p) (val.Primitive q) e = ap val.Primitive (same_true the_type (search rules) p q e)
same_value (val.Own r) (val.Own s) e = ap (λ n. val.Own (record { 0 = n })) (eqb-true r.0 s.0 e)
same_value (val.Borrow r) (val.Borrow s) e = ap (λ n. val.Borrow (record { 0 = n })) (eqb-true r.0 s.0 e)
same_value (val.Defined r) (val.Defined s) e = ap (λ n. val.Defined (record { 0 = n })) (eqb-true r.0 s.0 e)
same_value _ _ e = cc e

same_type : (v w : AnyType) → (TypeEq.ghosts).eq v w ≡ true → v ≡ w
same_type (ty.Resource r) (ty.Resource s) e = ap (λ n. ty.Resource (record { 0 = n })) (eqb-true r.0 s.0 e)
same_type (ty.Func r) (ty.Func s) e = ap (λ n. ty.Func (record { 0 = n })) (eqb-true r.0 s.0 e)
same_type (ty.Value v) (ty.Value w) e = ap ty.Value (same_value v w e)
same_type (ty.Interface r) (ty.Interface s) e = ap (λ n. ty.Interface (record { 0 = n })) (eqb-true r.0 s.0 e)
same_type (ty.World r) (ty.World s) e = ap (λ n. ty.World (record { 0 = n })) (eqb-true r.0 s.0 e)
same_type (ty.Module r) (ty.Module s) e = ap (λ n. ty.Module (record { 0 = n })) (eqb-true r.0 s.0 e)
same_type _ _ e = cc e

same_flag : (a b : Bool) → beq a b ≡ true → a ≡ b
same_flag true true e = refl
same_flag false false e = refl
same_flag _ _ e = cc e

pub same_question : (a b : Question) → (QuestionEq.eq-value).it a b ≡ true → a ≡ b
same_question a b e =
    let h = and_parts (beq a.turned b.turned) _ e in
    let k = and_parts ((TypeEq.ghosts).eq a.first b.first) _ h.1 in
    let t = same_flag a.turned b.turned h.0 in
    let f = same_type a.first b.first k.0 in
    let s = same_type a.second b.second k.1 in
    (λ i. record { turned = t i; first = f i; second = s i })

pub same_node : (a b : Node) → (NodeEq.eq-value).it a b ≡ true → a ≡ b
same_node a b e =
    let h = and_parts (beq a.turned b.turned) _ e in
    let t = same_flag a.turned b.turned h.0 in
    let f = same_type a.ty b.ty h.1 in
    (λ i. record { turned = t i; ty = f i })

pub primitives_told : (p q : PrimitiveType) (r : Bool) → r ≡ (PrimitiveEq.ghosts).eq p q → Decides r (p ≡ q)
primitives_told p q r e = (λ t. same_true the_type (search rules) p q (sym e ∙ t), λ s. e ∙ true_same the_type p q s)

pub labels_told : (xs ys : List Name) (r : Bool) → r ≡ same_labels xs ys → Decides r (xs ≡ ys)
labels_told = slice_eq-Decides bytes_eq-Decides

core_type_same : (a b : CoreType) → (CoreEq.ghosts).eq a b ≡ true → a ≡ b
core_type_same I32 I32 e = refl
core_type_same I64 I64 e = refl
core_type_same F32 F32 e = refl
core_type_same F64 F64 e = refl
core_type_same V128 V128 e = refl
core_type_same (Ref FuncRef) (Ref FuncRef) e = refl
core_type_same (Ref ExternRef) (Ref ExternRef) e = refl
core_type_same _ _ e = cc e

core_type_itself : (a : CoreType) → (CoreEq.ghosts).eq a a ≡ true
core_type_itself (Ref FuncRef) = refl
core_type_itself (Ref _) = refl
core_type_itself _ = refl

core_type_decides : (a b : CoreType) → Decides ((CoreEq.ghosts).eq a b) (a ≡ b)
core_type_decides a b = (core_type_same a b, λ e. let P : CoreType → Type 0 = λ z. (CoreEq.ghosts).eq a z ≡ true in subst P e (core_type_itself a))

pub core_types_told : (xs ys : List CoreType) (r : Bool) → r ≡ pointwise (CoreEq.ghosts).eq xs ys → Decides r (xs ≡ ys)
core_types_told = slice_eq-Decides core_type_decides
