-- Tasks: their parts are held, and there is less to do each time.
use Rattle.std.proofs.Common.{◌≡◌, ℕ, zero, suc, ◌+◌, ◌<◌, ◌≤◌, List, [], ◌∷◌, ◌++◌, length, Option, Some, None, true, nat_lt, ◌⊎◌, inl, inr, refl, ap, ◌∙◌, subst, arith}
use Rattle.std.specs.Prelude.{slice_get}
use Rattle.std.specs.List.{AllByRecursion}
use Rattle.wac_types_shapes.specs.primitives.Name.{option_case}
use Rattle.wac_types_collection.specs.collection.Collection.{Collection, item_at, item_of, defined_values, defined_mentions, func_values, func_mentions, holds_value, value_types, AddedBefore, AreBefore, IsPartBelow, IsValueBefore, IsWellFormed}
use Rattle.wac_types_collection.specs.declared.collection.collection.Held.{Held}
use Rattle.wac_types_shapes.specs.declared.shapes.component.FuncType.{FuncType}
use Rattle.wac_types_shapes.specs.declared.shapes.component.FuncTypeId.{FuncTypeId}
use Rattle.wac_types_shapes.specs.declared.shapes.component.DefinedType.{DefinedType}
use Rattle.wac_types_shapes.specs.declared.shapes.component.DefinedTypeId.{DefinedTypeId}
use Rattle.wac_types_shapes.specs.declared.shapes.component.ValueType.{ValueType}
use Rattle.wac_types_shapes.specs.declared.shapes.component.ValueType.TheVariants as val
use Rattle.wac_merge_tables.specs.declared.tables.tasks.Task.{Task}
use Rattle.wac_merge_tables.specs.declared.tables.tasks.Task.TheVariants.{Open, Close}
use Rattle.wac_merge_tables.specs.private.tables.Tasks.{task_id, opening, openings, parts_of, total, weight_to, task_weight, tasks_weight, HasTask, IsHeldTask, IsOpening}
use Rattle.wac_types_collection.specs.private.subtyping.Extended.{AreHeldValues}

-- ---- lists
pub all_each : {A : Type 0} (P Q : A → Type 0) → ((x : A) → P x → Q x) → (xs : List A) → AllByRecursion P xs → AllByRecursion Q xs
all_each P Q f [] h = tt
all_each P Q f (x ∷ xs) h = (f x h.0, all_each P Q f xs h.1)

pub all_front : {A : Type 0} (P : A → Type 0) (xs ys : List A) → AllByRecursion P (xs ++ ys) → AllByRecursion P xs
all_front P [] ys h = tt
all_front P (x ∷ xs) ys h = (h.0, all_front P xs ys h.1)

pub all_last : {A : Type 0} (P : A → Type 0) (xs : List A) (y : A) → AllByRecursion P (xs ++ y ∷ []) → P y
all_last P [] y h = h.0
all_last P (x ∷ xs) y h = all_last P xs y h.1

pub all_joined : {A : Type 0} (P : A → Type 0) (xs ys : List A) → AllByRecursion P xs → AllByRecursion P ys → AllByRecursion P (xs ++ ys)
all_joined P [] ys h g = g
all_joined P (x ∷ xs) ys h g = (h.0, all_joined P xs ys h.1 g)

-- ---- parts of held definitions stand below them
pub parts_below : (c : Collection) → IsWellFormed c → (d : DefinedTypeId) → AllByRecursion (IsPartBelow d.0) (parts_of c d)
parts_below c wf d = at (slice_get c.defined d.0) refl where
  at : (o : Option (Held DefinedType)) → slice_get c.defined d.0 ≡ o → AllByRecursion (IsPartBelow d.0) (option_case (item_of o) [] defined_values)
  at None is = tt
  at (Some h) is = wf.parts d.0 h is

part_less : (i k : ℕ) (v : ValueType) → i ≤ k → IsPartBelow i v → IsPartBelow k v
part_less i k (val.Primitive p) le h = tt
part_less i k (val.Own r) le h = tt
part_less i k (val.Borrow r) le h = tt
part_less i k (val.Defined d) le h = omega (arith, le, h)

-- ---- weights
total_same : {A : Type 0} (f g : A → ℕ) (xs : List A) → AllByRecursion (λ x. f x ≡ g x) xs → total f xs ≡ total g xs
total_same f g [] h = refl
total_same f g (x ∷ xs) h = rw (h.0, total_same f g xs h.1) refl

pub total_joined : {A : Type 0} (f : A → ℕ) (xs ys : List A) → total f (xs ++ ys) ≡ total f xs + total f ys
total_joined f [] ys = omega arith
total_joined f (x ∷ xs) ys = let e = total_joined f xs ys in omega (arith, e)

module _ (c : Collection) (wf : IsWellFormed c) where
  weighs_same : (k l : ℕ) (v : ValueType) → IsPartBelow k v → IsPartBelow l v → weight_to k c v ≡ weight_to l c v
  weighs_same zero zero v h g = refl
  weighs_same zero (suc l) (val.Primitive p) h g = refl
  weighs_same zero (suc l) (val.Own p) h g = refl
  weighs_same zero (suc l) (val.Borrow p) h g = refl
  weighs_same zero (suc l) (val.Defined d) h g = absurd (omega arith)
  weighs_same (suc k) zero (val.Primitive p) h g = refl
  weighs_same (suc k) zero (val.Own p) h g = refl
  weighs_same (suc k) zero (val.Borrow p) h g = refl
  weighs_same (suc k) zero (val.Defined d) h g = absurd (omega arith)
  weighs_same (suc k) (suc l) (val.Primitive p) h g = refl
  weighs_same (suc k) (suc l) (val.Own p) h g = refl
  weighs_same (suc k) (suc l) (val.Borrow p) h g = refl
  weighs_same (suc k) (suc l) (val.Defined d) h g =
      let low : d.0 ≤ k = omega arith in
      let also : d.0 ≤ l = omega arith in
      ap (λ n. suc (suc n)) (total_same (weight_to k c) (weight_to l c) (parts_of c d)
      (all_each (IsPartBelow d.0) (λ v. weight_to k c v ≡ weight_to l c v) (λ v b. weighs_same k l v (part_less d.0 k v low b) (part_less d.0 l v also b)) (parts_of c d) (parts_below c wf d)))

  opening_weighs : (k : ℕ) (v : ValueType) → IsPartBelow k v → tasks_weight c (opening v) ≡ weight_to k c v
  opening_weighs k (val.Primitive p) h = weighs_same 0 k (val.Primitive p) tt tt
  opening_weighs k (val.Own p) h = weighs_same 0 k (val.Own p) tt tt
  opening_weighs k (val.Borrow p) h = weighs_same 0 k (val.Borrow p) tt tt
  opening_weighs k (val.Defined d) h = let below : d.0 < suc d.0 = omega arith in let e = weighs_same (suc d.0) k (val.Defined d) below h in omega (arith, e)

  pub openings_weigh : (k : ℕ) (vs : List ValueType) → AllByRecursion (IsPartBelow k) vs → tasks_weight c (openings vs) ≡ total (weight_to k c) vs
  openings_weigh k [] h = refl
  openings_weigh k (v ∷ vs) h =
      let first = opening_weighs k v h.0 in
      let rest = openings_weigh k vs h.1 in
      total_joined (task_weight c) (opening v) (openings vs) ∙ (λ i. first i + rest i)

  pub some_weight : (t : Task) → 0 < task_weight c t
  some_weight (Open d) = omega arith
  some_weight (Close d) = omega arith

  opening_held : (i : ℕ) (v : ValueType) → i < length c.defined → IsPartBelow i v → AllByRecursion (IsHeldTask c) (opening v)
  opening_held i (val.Primitive p) low h = tt
  opening_held i (val.Own p) low h = tt
  opening_held i (val.Borrow p) low h = tt
  opening_held i (val.Defined d) low h = (omega (arith, low, h), tt)

  pub openings_held : (i : ℕ) (vs : List ValueType) → i < length c.defined → AllByRecursion (IsPartBelow i) vs → AllByRecursion (IsHeldTask c) (openings vs)
  openings_held i [] low h = tt
  openings_held i (v ∷ vs) low h = all_joined (IsHeldTask c) (opening v) (openings vs) (opening_held i v low h.0) (openings_held i vs low h.1)

-- ---- what waits
pub has_behind : (d : DefinedTypeId) (xs ys : List Task) → HasTask d ys → HasTask d (xs ++ ys)
has_behind d [] ys h = h
has_behind d (x ∷ xs) ys h = inr (has_behind d xs ys h)

pub has_front : (d : DefinedTypeId) (xs ys : List Task) → HasTask d xs → HasTask d (xs ++ ys)
has_front d [] ys h = absurd h
has_front d (x ∷ xs) ys (inl e) = inl e
has_front d (x ∷ xs) ys (inr h) = inr (has_front d xs ys h)

pub has_parted : (d : DefinedTypeId) (xs ys : List Task) → HasTask d (xs ++ ys) → HasTask d xs ⊎ HasTask d ys
has_parted d [] ys h = inr h
has_parted d (x ∷ xs) ys (inl e) = inl (inl e)
has_parted d (x ∷ xs) ys (inr h) = on (has_parted d xs ys h) where
  on : HasTask d xs ⊎ HasTask d ys → ((task_id x ≡ d) ⊎ HasTask d xs) ⊎ HasTask d ys
  on (inl a) = inl (inr a)
  on (inr b) = inr b

module _ (c : Collection) where
  pub all_openings : (vs : List ValueType) → AllByRecursion IsOpening (openings vs)
  all_openings [] = tt
  all_openings (val.Primitive p ∷ vs) = all_openings vs
  all_openings (val.Own p ∷ vs) = all_openings vs
  all_openings (val.Borrow p ∷ vs) = all_openings vs
  all_openings (val.Defined d ∷ vs) = (tt, all_openings vs)

-- ---- the values of a function type
before_there : {A : Type 0} (n : ℕ) (xs : List (Held A)) (i : ℕ) → AddedBefore n (slice_get xs i) → i < length xs
before_there n [] i h = absurd h
before_there n (x ∷ xs) zero h = omega arith
before_there n (x ∷ xs) (suc i) h = let r = before_there n xs i h in omega (arith, r)

values_held : (c : Collection) (n : ℕ) (vs : List ValueType) → AreBefore c n (value_types vs) → AllByRecursion (IsHeldTask c) (openings vs)
values_held c n [] h = tt
values_held c n (val.Primitive p ∷ vs) h = values_held c n vs h.1
values_held c n (val.Own p ∷ vs) h = values_held c n vs h.1
values_held c n (val.Borrow p ∷ vs) h = values_held c n vs h.1
values_held c n (val.Defined d ∷ vs) h = (before_there n c.defined d.0 h.0, values_held c n vs h.1)

pub func_held : (c : Collection) → IsWellFormed c → (f : FuncTypeId) (x : FuncType) → item_at c.funcs f.0 ≡ Some x → AllByRecursion (IsHeldTask c) (openings (func_values x))
func_held c wf f x is = at (slice_get c.funcs f.0) refl is where
  at : (o : Option (Held FuncType)) → slice_get c.funcs f.0 ≡ o → item_of o ≡ Some x → AllByRecursion (IsHeldTask c) (openings (func_values x))
  at None _ e = cc
  at (Some h) there e = let same : h.item ≡ x = cc in values_held c h.before (func_values x) (subst (λ y. AreBefore c h.before (func_mentions y)) same (wf.funcs f.0 h there).1)

-- ---- what the values of a held function type or definition mention is held
module _ (c : Collection) (n : ℕ) where
  tested : {A : Type 0} (xs : List (Held A)) (i : ℕ) → AddedBefore n (slice_get xs i) → nat_lt i (length xs) ≡ true
  tested xs i h = let low = before_there n xs i h in grind (arith, low)

  value_holds : (v : ValueType) → IsValueBefore c n v → holds_value c v ≡ true
  value_holds (val.Primitive p) h = refl
  value_holds (val.Own r) h = tested c.resources r.0 h
  value_holds (val.Borrow r) h = tested c.resources r.0 h
  value_holds (val.Defined d) h = tested c.defined d.0 h

  values_hold : (vs : List ValueType) → AreBefore c n (value_types vs) → AreHeldValues c vs
  values_hold [] h = tt
  values_hold (v ∷ vs) h = (value_holds v h.0, values_hold vs h.1)

pub func_values_hold : (c : Collection) → IsWellFormed c → (f : FuncTypeId) (x : FuncType) → item_at c.funcs f.0 ≡ Some x → AreHeldValues c (func_values x)
func_values_hold c wf f x is = at (slice_get c.funcs f.0) refl is where
  at : (o : Option (Held FuncType)) → slice_get c.funcs f.0 ≡ o → item_of o ≡ Some x → AreHeldValues c (func_values x)
  at None _ e = cc
  at (Some h) there e = let same : h.item ≡ x = cc in values_hold c h.before (func_values x) (subst (λ y. AreBefore c h.before (func_mentions y)) same (wf.funcs f.0 h there).1)

pub defined_values_hold : (c : Collection) → IsWellFormed c → (d : DefinedTypeId) (x : DefinedType) → item_at c.defined d.0 ≡ Some x → AreHeldValues c (defined_values x)
defined_values_hold c wf d x is = at (slice_get c.defined d.0) refl is where
  at : (o : Option (Held DefinedType)) → slice_get c.defined d.0 ≡ o → item_of o ≡ Some x → AreHeldValues c (defined_values x)
  at None _ e = cc
  at (Some h) there e = let same : h.item ≡ x = cc in values_hold c h.before (defined_values x) (subst (λ y. AreBefore c h.before (defined_mentions y)) same (wf.defined d.0 h there).1)
