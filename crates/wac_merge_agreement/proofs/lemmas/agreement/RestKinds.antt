-- Where entries of a class agree, all of them are instances, all are resources, or none is either.
use Rattle.std.proofs.Common.{◌≡◌, ℕ, zero, suc, Bool, true, false, cond, if◌then◌else◌, List, [], ◌∷◌, filter, map, Option, Some, None, slice_get, refl, ap, sym, ◌∙◌, subst, inl, inr, arith}
use Rattle.std.specs.List.{AllByRecursion}
use Rattle.std.specs.Ordering.{nat_cmp}
use Rattle.std.specs.declared.cmp.Ordering.{Ordering}
use Rattle.std.specs.declared.cmp.Ordering.TheVariants.{Less, Equal, Greater}
use Rattle.std.proofs.lemmas.Bool.{cases_Bool}
use Rattle.std.proofs.lemmas.Cmp.{ranked}
use Rattle.wac_types_shapes.specs.primitives.Name.{Name, option_case}
use Rattle.wac_types_shapes.specs.primitives.Tree.{TypeTree, absent, resource, own, borrow, instance, type_equal, instance_item}
use Rattle.wac_types_collection.specs.collection.Collection.{Collection, item_at, size}
use Rattle.wac_types_collection.specs.collection.Held.{Names, Naming, resolved, of_held, defined_tree, func_tree, module_tree, interface_tree, world_tree, item_tree, items_under, unfolded_to, unfolded}
use Rattle.wac_types_collection.specs.subtyping.Called.{Called, by_binding}
use Rattle.wac_types_collection.specs.declared.collection.collection.Held.{Held}
use Rattle.wac_types_shapes.specs.declared.shapes.component.ResourceId.{ResourceId}
use Rattle.wac_types_shapes.specs.declared.shapes.component.InterfaceId.{InterfaceId}
use Rattle.wac_types_shapes.specs.declared.shapes.component.Interface.{Interface}
use Rattle.wac_types_shapes.specs.declared.shapes.component.DefinedType.{DefinedType}
use Rattle.wac_types_shapes.specs.declared.shapes.component.DefinedType.TheVariants as def
use Rattle.wac_types_shapes.specs.declared.shapes.component.ValueType.{ValueType}
use Rattle.wac_types_shapes.specs.declared.shapes.component.ValueType.TheVariants as val
use Rattle.wac_types_shapes.specs.declared.shapes.component.«Type».TheVariants as ty
use Rattle.wac_types_shapes.specs.declared.shapes.component.ItemKind.{ItemKind}
use Rattle.wac_types_shapes.specs.declared.shapes.component.ItemKind.TheVariants as kind
use Rattle.wac_merge_classes.specs.entries.Classes.{Entry, by_names, same_class, members}
use Rattle.wac_merge_classes.specs.entries.Agreement.{Agree, called_inside, called_outside, compared}
use Rattle.wac_merge_classes.specs.terms.NoDisagreement.{HasNoDisagreement}
use Rattle.wac_merge_classes.proofs.lemmas.entries.ClassFacts.{class-sym, class-trans}
use Rattle.wac_merge_agreement.proofs.lemmas.agreement.Resting.{BindsNothing}

-- ---- the shapes of items
module _ {L : Type 0} where
  abbrev pub is_resource : TypeTree L → Bool
  is_resource (resource l) = true
  is_resource _ = false

  -- 0 an instance or nothing, 1 a resource, 2 another item
  abbrev pub shape : TypeTree L → ℕ
  shape absent = 0
  shape (instance_item t) = 0
  shape (type_equal t) = if is_resource t then 1 else 2
  shape _ = 2

  held-plain : {A : Type 0} (t : A → TypeTree L) → ((a : A) → is_resource (t a) ≡ false) → (o : Option (Held A)) → is_resource (of_held t o) ≡ false
  held-plain t h None = refl
  held-plain t h (Some x) = h x.item

  defined-plain : (t : ValueType → TypeTree L) → ((v : ValueType) → is_resource (t v) ≡ false) → (d : DefinedType) → is_resource (defined_tree t d) ≡ false
  defined-plain t h (def.Tuple vs) = refl
  defined-plain t h (def.List v) = refl
  defined-plain t h (def.FixedSizeList v n) = refl
  defined-plain t h (def.Option v) = refl
  defined-plain t h (def.Result ok err) = refl
  defined-plain t h (def.Variant v) = refl
  defined-plain t h (def.Record r) = refl
  defined-plain t h (def.Flags names) = refl
  defined-plain t h (def.Enum names) = refl
  defined-plain t h (def.Alias v) = h v
  defined-plain t h (def.Stream v) = refl
  defined-plain t h (def.Future v) = refl

  own-plain : (o : Option L) → is_resource (option_case o absent own) ≡ false
  own-plain None = refl
  own-plain (Some l) = refl

  borrow-plain : (o : Option L) → is_resource (option_case o absent borrow) ≡ false
  borrow-plain None = refl
  borrow-plain (Some l) = refl

  module _ (naming : Naming L) (c : Collection) where
    value-plain : (k : ℕ) (m : Names L) (v : ValueType) → is_resource (unfolded_to naming c k m (ty.Value v)) ≡ false
    value-plain zero m v = refl
    value-plain (suc k) m (val.Primitive p) = refl
    value-plain (suc k) m (val.Own r) = own-plain (m (resolved c r))
    value-plain (suc k) m (val.Borrow r) = borrow-plain (m (resolved c r))
    value-plain (suc k) m (val.Defined d) =
        held-plain (defined_tree (λ w. unfolded_to naming c k m (ty.Value w))) (defined-plain (λ w. unfolded_to naming c k m (ty.Value w)) (λ w. value-plain k m w)) (slice_get c.defined d.0)

    -- the item of what is neither an instance nor a resource
    shape-plain : (m : Names L) (k : ItemKind) → BindsNothing k → shape (item_tree (unfolded naming c m) false k) ≡ 2
    shape-plain m (kind.Instance i) h = absurd h
    shape-plain m (kind.TypeItem (ty.Resource q)) h = absurd h
    shape-plain m (kind.TypeItem (ty.Func f)) h =
        ap (λ b. if b then 1 else 2) (held-plain (func_tree (λ v. unfolded_to naming c (size c) m (ty.Value v))) (λ x. refl) (slice_get c.funcs f.0))
    shape-plain m (kind.TypeItem (ty.Value v)) h = ap (λ b. if b then 1 else 2) (value-plain (suc (size c)) m v)
    shape-plain m (kind.TypeItem (ty.Interface i)) h =
        ap (λ b. if b then 1 else 2) (held-plain (interface_tree naming c (unfolded_to naming c (size c)) m) (λ x. refl) (slice_get c.interfaces i.0))
    shape-plain m (kind.TypeItem (ty.World w)) h =
        ap (λ b. if b then 1 else 2) (held-plain (world_tree naming c (unfolded_to naming c (size c)) m) (λ x. refl) (slice_get c.worlds w.0))
    shape-plain m (kind.TypeItem (ty.Module x)) h = ap (λ b. if b then 1 else 2) (held-plain module_tree (λ y. refl) (slice_get c.modules x.0))
    shape-plain m (kind.Func f) h = refl
    shape-plain m (kind.Component w) h = refl
    shape-plain m (kind.Module x) h = refl
    shape-plain m (kind.Value v) h = refl

-- items that agree are of one shape
agree-shape : (t u : TypeTree Called) → Agree t u → shape t ≡ shape u
agree-shape (instance f) (instance g) h = refl
agree-shape (instance_item t) (instance_item u) h = refl
agree-shape t u h = ap shape h

module _ (c : Collection) (es : List Entry) where
  of_instance : (n : Name) (i : InterfaceId) → shape (compared by_names c es n (kind.Instance i)) ≡ 0
  of_instance n i = at (λ it. instance (items_under (map (λ e. (e.0, item_tree (unfolded (by_binding c) c (called_inside by_names c es n it)) false e.1)) it.exports))) (item_at c.interfaces i.0) where
    at : (f : Interface → TypeTree Called) (o : Option Interface) → shape (option_case o absent (λ it. instance_item (f it))) ≡ 0
    at f None = refl
    at f (Some it) = refl

  of_resource : (n : Name) (q : ResourceId) → shape (compared by_names c es n (kind.TypeItem (ty.Resource q))) ≡ 1
  of_resource n q = refl

  of_other : (n : Name) (k : ItemKind) → BindsNothing k → shape (compared by_names c es n k) ≡ 2
  of_other n (kind.Instance i) h = absurd h
  of_other n (kind.TypeItem t) h = shape-plain (by_binding c) c (called_outside by_names c es) (kind.TypeItem t) h
  of_other n (kind.Func f) h = refl
  of_other n (kind.Component w) h = refl
  of_other n (kind.Module x) h = refl
  of_other n (kind.Value v) h = refl

  -- what cannot be of another shape binds nothing
  nothing : (n : Name) (k : ItemKind) → ((shape (compared by_names c es n k) ≡ 2 → ⊥) → ⊥) → BindsNothing k
  nothing n (kind.Instance i) h = absurd (h (λ e. let z : 0 ≡ 2 = sym (of_instance n i) ∙ e in absurd (omega (arith, z))))
  nothing n (kind.TypeItem (ty.Resource q)) h = absurd (h (λ e. let z : 1 ≡ 2 = sym (of_resource n q) ∙ e in absurd (omega (arith, z))))
  nothing n (kind.TypeItem (ty.Func f)) h = tt
  nothing n (kind.TypeItem (ty.Value v)) h = tt
  nothing n (kind.TypeItem (ty.Interface i)) h = tt
  nothing n (kind.TypeItem (ty.World w)) h = tt
  nothing n (kind.TypeItem (ty.Module x)) h = tt
  nothing n (kind.Func f) h = tt
  nothing n (kind.Component w) h = tt
  nothing n (kind.Module x) h = tt
  nothing n (kind.Value v) h = tt

  -- beside an entry that is neither an instance nor a resource each is such
  beside : HasNoDisagreement by_names c es → (i j : ℕ) (a b : Entry) → slice_get es i ≡ Some a → slice_get es j ≡ Some b → same_class by_names es a.name b.name ≡ true → BindsNothing a.kind → BindsNothing b.kind
  beside agree i j a b at bt one h = split (nat_cmp i j) refl where
    split : (o : Ordering) → o ≡ nat_cmp i j → BindsNothing b.kind
    split Less is =
        nothing a.name b.kind (λ no. agree i j (record {
          earlier = a;
          later = b;
          at_first = at;
          at_second = bt;
          before = ranked i j Less is;
          one_class = one;
          apart = λ g. no (sym (agree-shape (compared by_names c es a.name a.kind) (compared by_names c es a.name b.kind) g) ∙ of_other a.name a.kind h);
        }))
    split Equal is =
        let same : i ≡ j = ranked i j Equal is in
        let some : Some a ≡ Some b = sym at ∙ (ap (slice_get es) same ∙ bt) in
        let it : a ≡ b = cc in
        subst (λ (e : Entry). BindsNothing e.kind) it h
    split Greater is =
        nothing b.name b.kind (λ no. agree j i (record {
          earlier = b;
          later = a;
          at_first = bt;
          at_second = at;
          before = ranked i j Greater is;
          one_class = class-sym by_names es a.name b.name one;
          apart = λ g. no (agree-shape (compared by_names c es b.name b.kind) (compared by_names c es b.name a.kind) g ∙ of_other b.name a.kind h);
        }))

-- ---- what passes a test
module _ {X : Type 0} (f : X → Bool) where
  pub filter-at : (xs : List X) (j : ℕ) (x : X) → slice_get xs j ≡ Some x → f x ≡ true → (k : ℕ) × (slice_get (filter f xs) k ≡ Some x)
  filter-at [] j x at t = cc
  filter-at (y ∷ xs) zero x at t =
      let same : y ≡ x = cc in
      let here : f y ≡ true = ap f same ∙ t in
      (0, subst (λ (b : Bool). slice_get (cond b (y ∷ filter f xs) (filter f xs)) 0 ≡ Some x) (sym here) at)
  filter-at (y ∷ xs) (suc j) x at t = elim (cases_Bool (f y)) [
    | inl h ↦ let w = filter-at xs j x at t in (suc w.0, subst (λ (b : Bool). slice_get (cond b (y ∷ filter f xs) (filter f xs)) (suc w.0) ≡ Some x) (sym h) w.1)
    | inr h ↦ let w = filter-at xs j x at t in (w.0, subst (λ (b : Bool). slice_get (cond b (y ∷ filter f xs) (filter f xs)) w.0 ≡ Some x) (sym h) w.1)
  ]

  pub all-filtered : (P : X → Type 0) (xs : List X) → ((j : ℕ) (x : X) → slice_get xs j ≡ Some x → f x ≡ true → P x) → AllByRecursion P (filter f xs)
  all-filtered P [] h = tt
  all-filtered P (x ∷ xs) h = elim (cases_Bool (f x)) [
    | inl t ↦ subst (λ (b : Bool). AllByRecursion P (cond b (x ∷ filter f xs) (filter f xs))) (sym t) (h 0 x refl t, all-filtered P xs (λ j y at. h (suc j) y at))
    | inr t ↦ subst (λ (b : Bool). AllByRecursion P (cond b (x ∷ filter f xs) (filter f xs))) (sym t) (all-filtered P xs (λ j y at. h (suc j) y at))
  ]

-- so is each member of its class
pub all_nothing : (c : Collection) (es : List Entry) → HasNoDisagreement by_names c es → (class : Name) (i : ℕ) (a : Entry) → slice_get es i ≡ Some a → same_class by_names es class a.name ≡ true → BindsNothing a.kind
    → AllByRecursion (λ e. BindsNothing e.kind) (members by_names es class)
all_nothing c es agree class i a at of h =
    all-filtered (λ e. same_class by_names es class e.name) (λ e. BindsNothing e.kind) es
    (λ j b bt also. beside c es agree i j a b at bt (class-trans by_names es a.name class b.name (class-sym by_names es class a.name of) also) h)
