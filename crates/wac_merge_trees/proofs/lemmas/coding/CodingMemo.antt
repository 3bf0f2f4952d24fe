-- One more number in a memo.
use Rattle.std.proofs.Common.{◌≡◌, ℕ, Bool, true, false, cond, nat_eq, List, [], ◌∷◌, Some, Result, Ok, Err, OnOk, refl, ap, sym, ◌∙◌, subst, eq-eqb}
use Rattle.std.proofs.lemmas.Bool.{eqb-true}
use Rattle.std.specs.Prelude.{IsSome}
use Rattle.std.specs.List.{AllByRecursion}
use Rattle.std.specs.declared.alloc.AllocError.{AllocError}
use Rattle.wac_types_shapes.specs.primitives.Tree.{TypeTree}
use Rattle.wac_types_collection.specs.subtyping.Called.{Called}
use Rattle.wac_types_shapes.specs.declared.shapes.component.DefinedTypeId.{DefinedTypeId}
use Rattle.wac_types_shapes.specs.declared.shapes.component.FuncTypeId.{FuncTypeId}
use Rattle.wac_types_shapes.specs.declared.shapes.component.ValueType.TheVariants as val
use Rattle.wac_types_shapes.specs.declared.shapes.component.«Type».{«Type» as AnyType}
use Rattle.wac_types_shapes.specs.declared.shapes.component.«Type».TheVariants as ty
use Rattle.wac_merge_trees.specs.declared.coding.memo.Memo.{Memo}
use Rattle.wac_merge_tables.specs.private.tables.Nodes.{Node}
use Rattle.wac_merge_tables.specs.private.tables.Numbers.{number_at}
use Rattle.wac_merge_tables.specs.private.tables.Tasks.{task_id}
use Rattle.wac_merge_tables.specs.declared.tables.tasks.Task.{Task}
use Rattle.wac_merge_trees.specs.private.coding.Coding.{HasTree, defined_number, func_number, HasDefinedToo, HasFuncToo, HasSame, IsRight, IsMore, IsDone}

same_defined : (a b : DefinedTypeId) → nat_eq a.0 b.0 ≡ true → a ≡ b
same_defined a b e = rw (eqb-true a.0 b.0 e) refl

same_func : (a b : FuncTypeId) → nat_eq a.0 b.0 ≡ true → a ≡ b
same_func a b e = rw (eqb-true a.0 b.0 e) refl

one_some : {A : Type 0} (a b : A) → Some a ≡ Some b → a ≡ b
one_some a b e = cc

module _ (t : AnyType → TypeTree Called) (ns : List Node) (old new : Memo) where
  module _ (d : DefinedTypeId) (n : ℕ) (put : HasDefinedToo old d n new) where
    split_right : IsRight t old ns → HasTree ns (t (ty.Value (val.Defined d))) n → (k : DefinedTypeId) (i : ℕ) (b : Bool) → nat_eq d.0 k.0 ≡ b → cond b (Some n) (defined_number old k) ≡ Some i
        → HasTree ns (t (ty.Value (val.Defined k))) i
    split_right r h k i true e is = subst (λ x. HasTree ns (t (ty.Value (val.Defined x))) i) (same_defined d k e) (subst (HasTree ns (t (ty.Value (val.Defined d)))) (one_some n i is) h)
    split_right r h k i false e is = r.defined k i is

    pub defined_right : IsRight t old ns → HasTree ns (t (ty.Value (val.Defined d))) n → IsRight t new ns
    defined_right r h = record {
      defined = λ k i is. split_right r h k i (nat_eq d.0 k.0) refl (sym (put.defined k) ∙ is);
      funcs = λ f i is. r.funcs f i (ap (λ m. number_at m f.0) (sym put.funcs) ∙ is);
    }

    split_more : (k : DefinedTypeId) (b : Bool) → IsSome (defined_number old k) → IsSome (cond b (Some n) (defined_number old k))
    split_more k true s = refl
    split_more k false s = s

    pub defined_more : IsMore old new
    defined_more = record { defined = λ k s. subst (λ o. IsSome o) (sym (put.defined k)) (split_more k (nat_eq d.0 k.0) s) }

    pub defined_there : IsSome (defined_number new d)
    defined_there = subst (λ o. IsSome o) (sym (put.defined d ∙ ap (λ b. cond b (Some n) (defined_number old d)) (eq-eqb d.0 d.0 refl))) refl

  module _ (f : FuncTypeId) (n : ℕ) (put : HasFuncToo old f n new) where
    split_func : IsRight t old ns → HasTree ns (t (ty.Func f)) n → (k : FuncTypeId) (i : ℕ) (b : Bool) → nat_eq f.0 k.0 ≡ b → cond b (Some n) (func_number old k) ≡ Some i → HasTree ns (t (ty.Func k)) i
    split_func r h k i true e is = subst (λ x. HasTree ns (t (ty.Func x)) i) (same_func f k e) (subst (HasTree ns (t (ty.Func f))) (one_some n i is) h)
    split_func r h k i false e is = r.funcs k i is

    pub func_right : IsRight t old ns → HasTree ns (t (ty.Func f)) n → IsRight t new ns
    func_right r h = record {
      defined = λ d i is. r.defined d i (ap (λ m. number_at m d.0) (sym put.defined) ∙ is);
      funcs = λ k i is. split_func r h k i (nat_eq f.0 k.0) refl (sym (put.funcs k) ∙ is);
    }

  -- where a number is given
  pub defined_put : (d : DefinedTypeId) (n : ℕ) (r : Result (Unit {0}) AllocError) → OnOk r (HasDefinedToo old d n new) → IsRight t old ns → HasTree ns (t (ty.Value (val.Defined d))) n → OnOk r (IsRight t new ns)
  defined_put d n (Ok _) put r h = defined_right d n put r h
  defined_put d n (Err _) put r h = put

-- where the numbers are the same
pub same_right : (t : AnyType → TypeTree Called) (ns : List Node) (old new : Memo) → HasSame old new → IsRight t old ns → IsRight t new ns
same_right t ns old new same r = record {
  defined = λ d i is. r.defined d i (ap (λ m. number_at m d.0) (sym same.defined) ∙ is);
  funcs = λ f i is. r.funcs f i (ap (λ m. number_at m f.0) (sym same.funcs) ∙ is);
}

pub same_done : (old new : Memo) (ts : List Task) → HasSame old new → AllByRecursion (IsDone old) ts → AllByRecursion (IsDone new) ts
same_done old new [] same h = tt
same_done old new (t ∷ ts) same h = (subst (λ m. IsSome (number_at m (task_id t).0)) (sym same.defined) h.0, same_done old new ts same h.1)
