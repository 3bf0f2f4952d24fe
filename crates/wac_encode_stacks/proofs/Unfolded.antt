-- What is held unfolds to its parts unfolded.
use Rattle.std.proofs.Common.{ℕ, zero, suc, Bool, true, false, List, [], ◌∷◌, ◌++◌, map, ◌≡◌, ◌<◌, ◌≤◌, length, refl, ap, Option, Some, None, arith, nat_lt, slice_get}
use Rattle.std.specs.List.{AllByRecursion}
use Rattle.wac_types_shapes.specs.primitives.Name.{Name}
use Rattle.wac_types_collection.specs.declared.collection.collection.Held.{Held}
use Rattle.wac_types_shapes.specs.declared.shapes.component.FuncType.{FuncType}
use Rattle.wac_types_shapes.specs.declared.shapes.component.DefinedType.{DefinedType}
use Rattle.wac_types_shapes.specs.declared.shapes.component.DefinedType.TheVariants as def
use Rattle.wac_types_shapes.specs.declared.shapes.component.ValueType.{ValueType}
use Rattle.wac_types_shapes.specs.declared.shapes.component.ValueType.TheVariants as val
use Rattle.wac_types_shapes.specs.declared.shapes.component.«Type».{«Type» as AnyType}
use Rattle.wac_types_shapes.specs.declared.shapes.component.«Type».TheVariants as ty
use Rattle.wac_types_shapes.specs.declared.shapes.component.ItemKind.{ItemKind}
use Rattle.wac_types_shapes.specs.declared.shapes.component.ItemKind.TheVariants as kind
use Rattle.wac_types_collection.specs.collection.Collection.{Collection, size, seconds, and_maybe, case_values, func_values, defined_values, value_types, used_types, kind_types, IsWellFormed, IsBefore, IsValueBefore, AreBefore, AddedBefore, holds_type, item_of}
use Rattle.wac_types_shapes.specs.shapes.Kinds.{kind_type}
use Rattle.wac_types_shapes.specs.primitives.Tree.{imported, exported, TypeTree, record_of, variant_of, list_of, fixed_list_of, tuple_of, option_of, result_of, stream_of, future_of, function, instance, component, type_equal, function_item, instance_item, component_item, module_item, value_item}
use Rattle.wac_types_collection.specs.collection.Held.{Naming, Names, Unfolding, part_at, items_under, option_tree, func_tree, defined_tree, item_tree, of_held, step, unfolded_to, unfolded}

pub all_map : {A : Type 0} (P Q : A → Type 0) → ((x : A) → P x → Q x) → (xs : List A) → AllByRecursion P xs → AllByRecursion Q xs
all_map P Q f [] h = tt
all_map P Q f (x ∷ xs) h = (f x h.0, all_map P Q f xs h.1)

pub all_left : {A : Type 0} (P : A → Type 0) (xs ys : List A) → AllByRecursion P (xs ++ ys) → AllByRecursion P xs
all_left P [] ys h = tt
all_left P (x ∷ xs) ys h = (h.0, all_left P xs ys h.1)

pub all_right : {A : Type 0} (P : A → Type 0) (xs ys : List A) → AllByRecursion P (xs ++ ys) → AllByRecursion P ys
all_right P [] ys h = h
all_right P (x ∷ xs) ys h = all_right P xs ys h.1

pub all_both : {A : Type 0} (P : A → Type 0) (xs ys : List A) → AllByRecursion P xs → AllByRecursion P ys → AllByRecursion P (xs ++ ys)
all_both P [] ys h k = k
all_both P (x ∷ xs) ys h k = (h.0, all_both P xs ys h.1 k)

-- what is held was added before the end
pub held_before : {A : Type 0} (N : ℕ) (xs : List (Held A)) (i : ℕ) → ((j : ℕ) (h : Held A) → slice_get xs j ≡ Some h → h.before < N) → nat_lt i (length xs) ≡ true → AddedBefore N (slice_get xs i)
held_before N [] i each lt = absurd (grind arith)
held_before N (x ∷ xs) zero each lt = each zero x refl
held_before N (x ∷ xs) (suc i) each lt = held_before N xs i (λ j h is. each (suc j) h is) (grind arith)

pub type_before : (c : Collection) → IsWellFormed c → (t : AnyType) → holds_type c t ≡ true → IsBefore c (size c) t
type_before c wf (ty.Resource i) h = held_before _ c.resources i.0 (λ j x is. (wf.resources j x is).0) h
type_before c wf (ty.Func i) h = held_before _ c.funcs i.0 (λ j x is. (wf.funcs j x is).0) h
type_before c wf (ty.Value (val.Primitive p)) h = tt
type_before c wf (ty.Value (val.Own i)) h = held_before _ c.resources i.0 (λ j x is. (wf.resources j x is).0) h
type_before c wf (ty.Value (val.Borrow i)) h = held_before _ c.resources i.0 (λ j x is. (wf.resources j x is).0) h
type_before c wf (ty.Value (val.Defined i)) h = held_before _ c.defined i.0 (λ j x is. (wf.defined j x is).0) h
type_before c wf (ty.Interface i) h = held_before _ c.interfaces i.0 (λ j x is. (wf.interfaces j x is).0) h
type_before c wf (ty.World i) h = held_before _ c.worlds i.0 (λ j x is. (wf.worlds j x is).0) h
type_before c wf (ty.Module i) h = held_before _ c.modules i.0 (λ j x is. wf.modules j x is) h

added_more : {A : Type 0} (m n : ℕ) (o : Option (Held A)) → m ≤ n → AddedBefore m o → AddedBefore n o
added_more m n None le h = h
added_more m n (Some x) le h = omega (arith, h, le)

pub value_more : (c : Collection) (m n : ℕ) (v : ValueType) → m ≤ n → IsValueBefore c m v → IsValueBefore c n v
value_more c m n (val.Primitive p) le h = tt
value_more c m n (val.Own r) le h = added_more m n _ le h
value_more c m n (val.Borrow r) le h = added_more m n _ le h
value_more c m n (val.Defined r) le h = added_more m n _ le h

pub before_more : (c : Collection) (m n : ℕ) (t : AnyType) → m ≤ n → IsBefore c m t → IsBefore c n t
before_more c m n (ty.Resource r) le h = added_more m n _ le h
before_more c m n (ty.Func r) le h = added_more m n _ le h
before_more c m n (ty.Value v) le h = value_more c m n v le h
before_more c m n (ty.Interface r) le h = added_more m n _ le h
before_more c m n (ty.World r) le h = added_more m n _ le h
before_more c m n (ty.Module r) le h = added_more m n _ le h

module _ {L : Type 0} where
  module _ (t u : ValueType → TypeTree L) where
    values_same : (vs : List ValueType) → AllByRecursion (λ v. t v ≡ u v) vs → map t vs ≡ map u vs
    values_same [] h = refl
    values_same (v ∷ vs) h = rw (h.0, values_same vs h.1) refl

    seconds_same : (es : List (Name × ValueType)) → AllByRecursion (λ v. t v ≡ u v) (seconds es) → map (λ p. t p.1) es ≡ map (λ p. u p.1) es
    seconds_same [] h = refl
    seconds_same (e ∷ es) h = rw (h.0, seconds_same es h.1) refl

    optional_same : (o : Option ValueType) (vs : List ValueType) → AllByRecursion (λ v. t v ≡ u v) (and_maybe o vs) → (option_tree t o ≡ option_tree u o) × AllByRecursion (λ v. t v ≡ u v) vs
    optional_same None vs h = (refl, h)
    optional_same (Some v) vs h = (h.0, h.1)

    cases_same : (es : List (Name × Option ValueType)) → AllByRecursion (λ v. t v ≡ u v) (case_values es) → map (λ e. option_tree t e.1) es ≡ map (λ e. option_tree u e.1) es
    cases_same [] h = refl
    cases_same (e ∷ es) h = let o = optional_same e.1 (case_values es) h in rw (o.0, cases_same es o.1) refl

    pub func_same : (f : FuncType) → AllByRecursion (λ v. t v ≡ u v) (func_values f) → func_tree t f ≡ func_tree u f
    func_same f h =
        let o = optional_same f.result (seconds f.params) h in
        let p = seconds_same f.params o.1 in
        (λ i. function f.is_async (map (λ p. p.0) f.params) (part_at (p i)) (o.0 i))

    pub defined_same : (d : DefinedType) → AllByRecursion (λ v. t v ≡ u v) (defined_values d) → defined_tree t d ≡ defined_tree u d
    defined_same (def.Tuple vs) h = let e = values_same vs h in (λ i. tuple_of (length vs) (part_at (e i)))
    defined_same (def.List v) h = ap list_of h.0
    defined_same (def.FixedSizeList v n) h = ap (fixed_list_of n) h.0
    defined_same (def.Option v) h = ap option_of h.0
    defined_same (def.Result ok err) h = let o = optional_same ok _ h in let p = optional_same err _ o.1 in (λ i. result_of (o.0 i) (p.0 i))
    defined_same (def.Variant v) h = let e = cases_same v.cases h in (λ i. variant_of (map (λ e. e.0) v.cases) (part_at (e i)))
    defined_same (def.Record r) h = let e = seconds_same r.fields h in (λ i. record_of (map (λ e. e.0) r.fields) (part_at (e i)))
    defined_same (def.Flags names) h = refl
    defined_same (def.Enum names) h = refl
    defined_same (def.Alias v) h = h.0
    defined_same (def.Stream v) h = ap stream_of (optional_same v _ h).0
    defined_same (def.Future v) h = ap future_of (optional_same v _ h).0

  -- trees of items agree where those of their types do
  pub item_same : (t u : AnyType → TypeTree L) (b : Bool) (k : ItemKind) → t (kind_type k) ≡ u (kind_type k) → item_tree t b k ≡ item_tree u b k
  item_same t u true (kind.TypeItem a) h = refl
  item_same t u false (kind.TypeItem a) h = ap type_equal h
  item_same t u b (kind.Func f) h = ap function_item h
  item_same t u b (kind.Instance i) h = ap instance_item h
  item_same t u b (kind.Component w) h = ap component_item h
  item_same t u b (kind.Module w) h = ap module_item h
  item_same t u b (kind.Value w) h = ap value_item h

  pub entries_same : (t u : AnyType → TypeTree L) (f : Name × ItemKind → Bool) (es : List (Name × ItemKind)) → AllByRecursion (λ a. t a ≡ u a) (kind_types es)
      → map {B = Name × TypeTree L} (λ e. (e.0, item_tree t (f e) e.1)) es ≡ map (λ e. (e.0, item_tree u (f e) e.1)) es
  entries_same t u f [] h = refl
  entries_same t u f (e ∷ es) h = let x = item_same t u (f e) e.1 h.0 in let r = entries_same t u f es h.1 in (λ i. (e.0, x i) ∷ r i)

  -- trees of what is held agree where those of the item do
  pub held_same : {A : Type 0} (t u : A → TypeTree L) (j k : ℕ) (o : Option (Held A)) → ((h : Held A) → o ≡ Some h → h.before < j → h.before < k → t h.item ≡ u h.item) → AddedBefore j o → AddedBefore k o
      → of_held t o ≡ of_held u o
  held_same t u j k None s hj hk = absurd hj
  held_same t u j k (Some h) s hj hk = s h refl hj hk

pub values_all : (c : Collection) (P : ValueType → Type 0) (n : ℕ) → ((v : ValueType) → IsValueBefore c n v → P v) → (vs : List ValueType) → AreBefore c n (value_types vs) → AllByRecursion P vs
values_all c P n f [] h = tt
values_all c P n f (v ∷ vs) h = (f v h.0, values_all c P n f vs h.1)

module _ {L : Type 0} (naming : Naming L) (c : Collection) (wf : IsWellFormed c) where
  step_same : (t u : Unfolding L) (j k : ℕ) → ((s : ℕ) (m : Names L) (a : AnyType) → s < j → s < k → IsBefore c s a → t m a ≡ u m a)
      → (m : Names L) (a : AnyType) → IsBefore c j a → IsBefore c k a → step naming c t m a ≡ step naming c u m a
  step_same t u j k ih m (ty.Resource r) hj hk = refl
  step_same t u j k ih m (ty.Value (val.Primitive p)) hj hk = refl
  step_same t u j k ih m (ty.Value (val.Own r)) hj hk = refl
  step_same t u j k ih m (ty.Value (val.Borrow r)) hj hk = refl
  step_same t u j k ih m (ty.Value (val.Defined d)) hj hk = held_same _ _ j k _
      (λ h is lj lk. defined_same (λ v. t m (ty.Value v)) (λ v. u m (ty.Value v)) h.item
      (values_all c (λ v. t m (ty.Value v) ≡ u m (ty.Value v)) h.before (λ v b. ih h.before m (ty.Value v) lj lk b) (defined_values h.item) (wf.defined d.0 h is).1)) hj hk
  step_same t u j k ih m (ty.Func r) hj hk = held_same _ _ j k _
      (λ h is lj lk. func_same (λ v. t m (ty.Value v)) (λ v. u m (ty.Value v)) h.item
      (values_all c (λ v. t m (ty.Value v) ≡ u m (ty.Value v)) h.before (λ v b. ih h.before m (ty.Value v) lj lk b) (func_values h.item) (wf.funcs r.0 h is).1)) hj hk
  step_same t u j k ih m (ty.Interface r) hj hk = held_same _ _ j k _
      (λ h is lj lk.
      let n = naming.in_instance h.item m in
      let b = all_right (IsBefore c h.before) (used_types h.item.uses) (kind_types h.item.exports) (wf.interfaces r.0 h is).1 in
      let e = entries_same (t n) (u n) (naming.is_fresh n exported) h.item.exports (all_map (IsBefore c h.before) (λ a. t n a ≡ u n a) (λ a q. ih h.before n a lj lk q) (kind_types h.item.exports) b) in
      (λ i. instance (items_under (e i)))) hj hk
  step_same t u j k ih m (ty.World r) hj hk = held_same _ _ j k _
      (λ h is lj lk.
      let n = naming.in_imports h.item m in
      let l = naming.in_exports h.item m in
      let b = all_right (IsBefore c h.before) (used_types h.item.uses) _ (wf.worlds r.0 h is).1 in
      let bi = all_left (IsBefore c h.before) (kind_types h.item.imports) (kind_types h.item.exports) b in
      let be = all_right (IsBefore c h.before) (kind_types h.item.imports) (kind_types h.item.exports) b in
      let x = entries_same (t n) (u n) (naming.is_fresh n imported) h.item.imports (all_map (IsBefore c h.before) (λ a. t n a ≡ u n a) (λ a q. ih h.before n a lj lk q) (kind_types h.item.imports) bi) in
      let y = entries_same (t l) (u l) (naming.is_fresh l exported) h.item.exports (all_map (IsBefore c h.before) (λ a. t l a ≡ u l a) (λ a q. ih h.before l a lj lk q) (kind_types h.item.exports) be) in
      (λ i. component (items_under (x i)) (items_under (y i)))) hj hk
  step_same t u j k ih m (ty.Module r) hj hk = refl

  -- to any two depths that are enough
  pub unfold_same : (j k : ℕ) (m : Names L) (a : AnyType) → IsBefore c j a → IsBefore c k a → unfolded_to naming c (suc j) m a ≡ unfolded_to naming c (suc k) m a
  unfold_same j k m a hj hk = step_same (unfolded_to naming c j) (unfolded_to naming c k) j k (below j k) m a hj hk
    where
      below : (j k s : ℕ) (m : Names L) (a : AnyType) → s < j → s < k → IsBefore c s a → unfolded_to naming c j m a ≡ unfolded_to naming c k m a
      below zero k s m a lj lk b = absurd (omega (arith, lj))
      below (suc j) zero s m a lj lk b = absurd (omega (arith, lk))
      below (suc j) (suc k) s m a lj lk b = step_same (unfolded_to naming c j) (unfolded_to naming c k) j k (below j k) m a (before_more c s j a (omega (arith, lj)) b) (before_more c s k a (omega (arith, lk)) b)

  -- what is held unfolds to its parts unfolded
  pub unfolded_step : (m : Names L) (a : AnyType) → holds_type c a ≡ true → unfolded naming c m a ≡ step naming c (unfolded naming c) m a
  unfolded_step m a h =
      let at = type_before c wf a h in
      unfold_same (size c) (suc (size c)) m a at (before_more c (size c) (suc (size c)) a (omega arith) at)

pub held_item : {A : Type 0} (o : Option (Held A)) (x : A) → item_of o ≡ Some x → (h : Held A) × (o ≡ Some h) × (h.item ≡ x)
held_item None x e = cc
held_item (Some h) x e = let same : h.item ≡ x = cc in (h, refl, same)

pub within : {A : Type 0} (xs : List A) (i : ℕ) (x : A) → slice_get xs i ≡ Some x → nat_lt i (length xs) ≡ true
within [] i x e = cc
within (y ∷ xs) zero x e = grind arith
within (y ∷ xs) (suc i) x e = let h = within xs i x e in grind arith
