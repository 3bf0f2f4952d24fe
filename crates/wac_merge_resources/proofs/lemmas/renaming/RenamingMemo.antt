-- One more definition, or function type, that became another.
use Rattle.std.proofs.Common.{◌≡◌, List, [], ◌∷◌, Bool, true, false, cond, nat_eq, None, Some, Result, Ok, Err, OnOk, refl, ap, sym, ◌∙◌, subst}
use Rattle.std.proofs.lemmas.Bool.{eqb-true}
use Rattle.std.specs.List.{AllByRecursion}
use Rattle.std.specs.Prelude.{IsSome}
use Rattle.std.specs.declared.alloc.AllocError.{AllocError}
use Rattle.wac_types_collection.specs.collection.Collection.{Collection, item_at}
use Rattle.wac_types_shapes.specs.declared.shapes.component.DefinedType.{DefinedType}
use Rattle.wac_types_shapes.specs.declared.shapes.component.DefinedTypeId.{DefinedTypeId}
use Rattle.wac_types_shapes.specs.declared.shapes.component.FuncType.{FuncType}
use Rattle.wac_types_shapes.specs.declared.shapes.component.FuncTypeId.{FuncTypeId}
use Rattle.wac_types_shapes.specs.declared.shapes.component.ValueType.{ValueType}
use Rattle.wac_types_shapes.specs.declared.shapes.component.ValueType.TheVariants as val
use Rattle.wac_types_shapes.specs.declared.shapes.component.«Type».TheVariants as ty
use Rattle.wac_merge_tables.specs.made.Made.{AreApart, AreThere, IsMadeFor, StayMade, IsDefinedBehind, IsFuncBehind}
use Rattle.wac_merge_resources.specs.renaming.MadeOf.{AreMade, IsFuncMadeOf, IsMadeOf, anew, other_name}
use Rattle.wac_merge_tables.specs.declared.made.made.Made.{Made}
use Rattle.wac_merge_resources.specs.private.renaming.RenamedTypes.{AreRenamed, becomes, defined_at, defined_in, func_at, func_in}
use Rattle.wac_merge_tables.specs.private.tables.Tasks.{task_id}
use Rattle.wac_merge_tables.specs.declared.tables.tasks.Task.{Task}
use Rattle.wac_types_collection.specs.private.subtyping.Extended.{IsExtended}
use Rattle.wac_merge_classes.specs.terms.Renaming.{IsRenamed}
use Rattle.wac_merge_resources.specs.private.renaming.RenamingSteps.{HasDefinedToo, HasFuncToo, HasSame, HaveOneFuncShape, HaveOneShape, IsDone, IsMore, IsRenamedIn, IsRenamedValue}
use Rattle.wac_merge_resources.specs.declared.renaming.renamer.Renamed.{Renamed}
use Rattle.wac_merge_resources.specs.declared.renaming.renamer.Renaming.{Renaming}
use Rattle.wac_merge_resources.proofs.lemmas.renaming.StillRenamed.{still_all_renamed, still_renamed}
use Rattle.wac_merge_resources.proofs.lemmas.renaming.OneIds.{shape_pairs, still_func_of, still_of}
use Rattle.wac_merge_resources.proofs.lemmas.renaming.Outlines.{outlined}
use Rattle.wac_merge_resources.proofs.lemmas.renaming.RenamingShapes.{fields_more, option_more, shape_more}
use Rattle.wac_merge_resources.proofs.lemmas.renaming.RenamingTrees.{AreWhole, defined_renamed, func_renamed}
use Rattle.wac_merge_resources.specs.values.NamedTypes.{named_type}

same_defined : (a b : DefinedTypeId) → nat_eq a.0 b.0 ≡ true → a ≡ b
same_defined a b e = rw (eqb-true a.0 b.0 e) refl

same_func : (a b : FuncTypeId) → nat_eq a.0 b.0 ≡ true → a ≡ b
same_func a b e = rw (eqb-true a.0 b.0 e) refl

one_some : {A : Type 0} (a b : A) → Some a ≡ Some b → a ≡ b
one_some a b e = cc

module _ (s : Renaming) (m : Collection) (old new : Renamed) where
  module _ (d e : DefinedTypeId) (put : HasDefinedToo old d e new) where
    split_defined : AreRenamed m s old → IsRenamedIn s m old.made (val.Defined d) (val.Defined e) → (k i : DefinedTypeId) (b : Bool) → nat_eq d.0 k.0 ≡ b → cond b (Some e) (defined_in old k) ≡ Some i → IsRenamedIn s m old.made (val.Defined k) (val.Defined i)
    split_defined r h k i true same is = subst (λ (x : DefinedTypeId). IsRenamedIn s m old.made (val.Defined x) (val.Defined i)) (same_defined d k same) (subst (λ (x : DefinedTypeId). IsRenamedIn s m old.made (val.Defined d) (val.Defined x)) (one_some e i is) h)
    split_defined r h k i false same is = (r.defined k i is, r.once k i is)

    became_now : AreRenamed m s old → IsRenamedIn s m old.made (val.Defined d) (val.Defined e) → (k i : DefinedTypeId) → defined_in new k ≡ Some i → IsRenamedIn s m old.made (val.Defined k) (val.Defined i)
    became_now r h k i is = split_defined r h k i (nat_eq d.0 k.0) refl (sym (put.defined k) ∙ is)

    defined_right : AreRenamed m s old → IsRenamedIn s m old.made (val.Defined d) (val.Defined e) → AreRenamed m s new
    defined_right r h = record {
      defined = λ k i is. (became_now r h k i is).0;
      funcs = λ f i is. r.funcs f i (ap (λ x. func_at x f) (sym put.funcs) ∙ is);
      made = subst (AreMade s.types.now s.became.now.named.now m) (sym put.made) r.made;
      once = λ k i is. subst (λ (made : Made). IsMadeOf s.types.now (becomes s) s.became.now.named.now made (val.Defined k) (val.Defined i)) (sym put.made) (became_now r h k i is).1;
      once_funcs = λ f i is. subst (λ (made : Made). IsFuncMadeOf s.types.now m (becomes s) s.became.now.named.now made f i) (sym put.made) (r.once_funcs f i (ap (λ x. func_at x f) (sym put.funcs) ∙ is));
    }

  module _ (f g : FuncTypeId) (put : HasFuncToo old f g new) where
    split_func : (P : FuncTypeId → FuncTypeId → Type 0) → ((k i : FuncTypeId) → func_in old k ≡ Some i → P k i) → P f g → (k i : FuncTypeId) (b : Bool) → nat_eq f.0 k.0 ≡ b → cond b (Some g) (func_in old k) ≡ Some i → P k i
    split_func P r h k i true same is = subst (λ (x : FuncTypeId). P x i) (same_func f k same) (subst (λ (x : FuncTypeId). P f x) (one_some g i is) h)
    split_func P r h k i false same is = r k i is

    pub func_right : AreRenamed m s old → IsRenamed s.types.now m (becomes s) (ty.Func f) (ty.Func g) → IsFuncMadeOf s.types.now m (becomes s) s.became.now.named.now old.made f g → AreRenamed m s new
    func_right r h o = record {
      defined = λ d i is. r.defined d i (ap (λ x. defined_at x d) (sym put.defined) ∙ is);
      funcs = λ k i is. split_func (λ a b. IsRenamed s.types.now m (becomes s) (ty.Func a) (ty.Func b)) r.funcs h k i (nat_eq f.0 k.0) refl (sym (put.funcs k) ∙ is);
      made = subst (AreMade s.types.now s.became.now.named.now m) (sym put.made) r.made;
      once = λ d i is. subst (λ (made : Made). IsMadeOf s.types.now (becomes s) s.became.now.named.now made (val.Defined d) (val.Defined i)) (sym put.made) (r.once d i (ap (λ x. defined_at x d) (sym put.defined) ∙ is));
      once_funcs = λ k i is. subst (λ (made : Made). IsFuncMadeOf s.types.now m (becomes s) s.became.now.named.now made k i) (sym put.made)
          (split_func (λ a b. IsFuncMadeOf s.types.now m (becomes s) s.became.now.named.now old.made a b) r.once_funcs o k i (nat_eq f.0 k.0) refl (sym (put.funcs k) ∙ is));
    }

  -- where a definition was put
  pub defined_put : (d e : DefinedTypeId) (r : Result (Unit {0}) AllocError) → OnOk r (HasDefinedToo old d e new) → AreRenamed m s old → IsRenamedIn s m old.made (val.Defined d) (val.Defined e) → OnOk r (AreRenamed m s new)
  defined_put d e (Ok _) put r h = defined_right d e put r h
  defined_put d e (Err _) put r h = put

-- with one more definition there are more, and what was made still is
module _ (old mid new : Renamed) (d e : DefinedTypeId) (same : mid.defined ≡ old.defined) (stay : StayMade old.made mid.made) where
  is_some_more : (put : HasDefinedToo mid d e new) (k : DefinedTypeId) → IsSome (defined_in old k) → IsSome (defined_in new k)
  is_some_more put k h = subst IsSome (sym (put.defined k)) (by (nat_eq d.0 k.0) (subst (λ x. IsSome (defined_at x k)) (sym same) h)) where
    by : (b : Bool) → IsSome (defined_in mid k) → IsSome (cond b (Some e) (defined_in mid k))
    by true h = refl
    by false h = h

  pub more_put : (r : Result (Unit {0}) AllocError) → OnOk r (HasDefinedToo mid d e new) → OnOk r (IsMore old new)
  more_put (Ok _) put = record { defined = is_some_more put; made = subst (StayMade old.made) (sym put.made) stay }
  more_put (Err _) put = put

-- where more was made, and the collection grew
pub still_with : (s : Renaming) (m more : Collection) (x : IsExtended m more) (memo : Renamed) (new : Made) → StayMade memo.made new → AreThere more new → AreApart s.types.now (named_type s.became.now.named.now) new → AreRenamed m s memo → AreRenamed more s (record { defined = memo.defined; funcs = memo.funcs; made = new; tasks = memo.tasks })
still_with s m more x memo new stay there apart r =
    let t = s.became.now.named.now in
    let still = still_all_renamed m more x s memo r in
    record {
      defined = still.defined;
      funcs = still.funcs;
      made = record { there = there; apart = apart };
      once = λ d e is. still_of s.types.now (becomes s) t memo.made new stay (val.Defined d) (val.Defined e) (still.once d e is);
      once_funcs = λ f g is. still_func_of s.types.now (becomes s) t memo.made new stay m more x f g (r.once_funcs f g is);
    }

-- where the memory for tasks is another
module _ (old new : Renamed) (same : HasSame old new) where
  pub same_right : (m : Collection) (s : Renaming) → AreRenamed m s old → AreRenamed m s new
  same_right m s r =
      let t = s.became.now.named.now in
      let were : (d e : DefinedTypeId) → defined_in new d ≡ Some e → defined_in old d ≡ Some e = λ d e is. ap (λ x. defined_at x d) (sym same.defined) ∙ is in
      let became : (f g : FuncTypeId) → func_in new f ≡ Some g → func_in old f ≡ Some g = λ f g is. ap (λ x. func_at x f) (sym same.funcs) ∙ is in
      record {
        defined = λ d e is. r.defined d e (were d e is);
        funcs = λ f g is. r.funcs f g (became f g is);
        made = subst (AreMade s.types.now t m) (sym same.made) r.made;
        once = λ d e is. subst (λ (made : Made). IsMadeOf s.types.now (becomes s) t made (val.Defined d) (val.Defined e)) (sym same.made) (r.once d e (were d e is));
        once_funcs = λ f g is. subst (λ (made : Made). IsFuncMadeOf s.types.now m (becomes s) t made f g) (sym same.made) (r.once_funcs f g (became f g is));
      }

  pub same_done : (ts : List Task) → AllByRecursion (IsDone old) ts → AllByRecursion (IsDone new) ts
  same_done [] h = tt
  same_done (t ∷ ts) h = (subst (λ x. IsSome (defined_at x (task_id t))) (sym same.defined) h.0, same_done ts h.1)

  pub same_stay : (made : Made) → StayMade made old.made → StayMade made new.made
  same_stay made stay = subst (StayMade made) (sym same.made) stay

  pub same_first : (made : Made) → StayMade new.made made → StayMade old.made made
  same_first made stay = subst (λ (x : Made). StayMade x made) same.made stay

-- ---- what was added behind is what it was made of
module _ (s : Renaming) (m more : Collection) (wc : AreWhole s.types.now) (wm : AreWhole more) (made : Made) where
  on : IsExtended m more → (v w : ValueType) → IsRenamedIn s m made v w → IsRenamedValue s.types.now more (becomes s) v w
  on x v w r = still_renamed m more x s.types.now (becomes s) (ty.Value v) (ty.Value w) r.0

  pub defined_closed : (d e : DefinedTypeId) (x y : DefinedType) → item_at s.types.now.defined d.0 ≡ Some x → IsDefinedBehind m more y e → HaveOneShape (IsRenamedIn s m made) x y → IsRenamedValue s.types.now more (becomes s) (val.Defined d) (val.Defined e)
  defined_closed d e x y at behind shape =
      defined_renamed s.types.now more (becomes s) wc wm d e x y at behind.there (shape_more (IsRenamedIn s m made) (IsRenamedValue s.types.now more (becomes s)) (on behind.extended) x y shape)

  pub func_closed : (f g : FuncTypeId) (x y : FuncType) → item_at s.types.now.funcs f.0 ≡ Some x → IsFuncBehind m more y g → HaveOneFuncShape (IsRenamedIn s m made) x y → IsRenamed s.types.now more (becomes s) (ty.Func f) (ty.Func g)
  func_closed f g x y at behind shape =
      let R = IsRenamedIn s m made in
      let S = IsRenamedValue s.types.now more (becomes s) in
      func_renamed s.types.now more (becomes s) wc wm f g x y at behind.there (fields_more R S (on behind.extended) x.params y.params shape.params) (option_more R S (on behind.extended) x.result y.result shape.result) shape.sort

-- a definition that is no other name became what was made of it
pub closed : (s : Renaming) (m more : Collection) → AreWhole s.types.now → AreWhole more → (memo : Renamed) (made : Made) (new : Renamed) (d e : DefinedTypeId) (x y : DefinedType) → item_at s.types.now.defined d.0 ≡ Some x → other_name x ≡ None → IsDefinedBehind m more y e
    → IsMadeFor made (named_type s.became.now.named.now d) y e → StayMade memo.made made → AreThere more made → AreApart s.types.now (named_type s.became.now.named.now) made → HaveOneShape (IsRenamedIn s m memo.made) x y → AreRenamed m s memo
    → (r : Result (Unit {0}) AllocError) → OnOk r (HasDefinedToo (record { defined = memo.defined; funcs = memo.funcs; made = made; tasks = memo.tasks }) d e new) → OnOk r (AreRenamed more s new)
closed s m more wc wm memo made new d e x y at other behind made_for stay there apart shape right r put =
    let t = s.became.now.named.now in
    let R = IsRenamedIn s m memo.made in
    let mid : Renamed = record { defined = memo.defined; funcs = memo.funcs; made = made; tasks = memo.tasks } in
    let once : IsMadeOf s.types.now (becomes s) t made (val.Defined d) (val.Defined e) =
    anew (val.Defined d) (val.Defined e) d e x y refl refl at other made_for (outlined R x y shape) (λ i a b p q. still_of s.types.now (becomes s) t memo.made made stay a b (shape_pairs R x y shape i a b p q).1) in
    defined_put s more mid new d e r put (still_with s m more behind.extended memo made stay there apart right) (defined_closed s m more wc wm memo.made d e x y at behind shape, once)
