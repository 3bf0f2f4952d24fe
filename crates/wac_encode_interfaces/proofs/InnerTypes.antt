-- The walk that puts interfaces and worlds in order: what is done, and which steps are pending.
use Rattle.std.proofs.Common.{ℕ, zero, suc, ◌+◌, ◌<◌, ◌≤◌, true, false, Bool, if◌then◌else◌, List, [], ◌∷◌, ◌++◌, take, drop, length, append_assoc, reverse, Contains, Option, Some, None, ◌≡◌, ◌⊎◌, inl, inr, refl, ap, sym, ◌∙◌, subst, arith, slice_get, flat_map}
use Rattle.std.specs.Option.{option_map}
use Rattle.std.proofs.lemmas.List.{reverse-append, reverse-reverse, append-nil, map-append}
use Rattle.indexmap.specs.IndexSet.{insert_key}
use Rattle.wac_types_shapes.specs.primitives.Name.{Name, option_case}
use Rattle.wac_types_shapes.specs.shapes.Kinds.{kind_type}
use Rattle.wac_types_shapes.specs.contracts.shapes.component.TypePartialEq.TheImpl as TypeEq
use Rattle.wac_types_shapes.specs.declared.shapes.component.Interface.{Interface}
use Rattle.wac_types_shapes.specs.declared.shapes.component.World.{World}
use Rattle.wac_types_shapes.specs.declared.shapes.component.ItemKind.{ItemKind}
use Rattle.wac_types_shapes.specs.declared.shapes.component.«Type».{«Type» as AnyType}
use Rattle.wac_types_shapes.specs.declared.shapes.component.«Type».TheVariants as ty
use Rattle.wac_types_collection.specs.declared.collection.collection.Held.{Held}
use Rattle.wac_types_collection.specs.collection.Collection.{Collection, IsWellFormed, IsBefore, holds_type, item_of, kind_types, used_types}
use Rattle.wac_types_collection.specs.subtyping.Ranks.{rank_of_held, type_rank}
use Rattle.wac_types_collection.proofs.lemmas.collection.Growth.{get_where, type_within}
use Rattle.wac_types_collection.proofs.lemmas.collection.Steady.{all_left, all_right}
use Rattle.wac_types_collection.proofs.lemmas.subtyping.Unfolding.{before_rank}
use Rattle.wac_types_collection.proofs.lemmas.reach.Lists.{drop_second, tested, at_in as position_in}
use Rattle.wac_types_collection.proofs.lemmas.wide.Members.{in_none, in_first, in_rest, in_parts, in_one, in_left, in_right, in_either, in_map, map_in, in_flat, flat_in, in_reversed, at_in}
use Rattle.wac_types_collection.proofs.lemmas.wide.Wide.{all_at}
use Rattle.wac_encode_faults.specs.Faults.{listed_items, IsListed, in_item}
use Rattle.wac_encode_interfaces.specs.declared.inside.Step.{Step}
use Rattle.wac_encode_interfaces.specs.declared.inside.Step.TheVariants as step
use Rattle.wac_encode_interfaces.specs.private.Ready.{IsClean}
use Rattle.wac_encode_interfaces.specs.private.InnerTypes.{interface_or_world, interfaces_and_worlds, inner_types, is_done, enter_all, step_type, IsInnerFirst, IsCleanType, AreCleanTypes, TakesStep}

-- ---- interfaces and worlds among items
scope-is : (t u : AnyType) → Contains (interface_or_world t) u → t ≡ u
scope-is (ty.Interface i) u h = sym (in_one (ty.Interface i) u h)
scope-is (ty.World w) u h = sym (in_one (ty.World w) u h)
scope-is (ty.Resource r) u h = absurd (in_none u h)
scope-is (ty.Func f) u h = absurd (in_none u h)
scope-is (ty.Value v) u h = absurd (in_none u h)
scope-is (ty.Module m) u h = absurd (in_none u h)

pub inner-listed : (c : Collection) (t u : AnyType) → Contains (inner_types c t) u → (e : Name × ItemKind) × Contains (listed_items c t) e × (kind_type e.1 ≡ u)
inner-listed c t u h =
    let (e, there, here) = flat_in (λ (e : Name × ItemKind). interface_or_world (kind_type e.1)) (listed_items c t) u h in
    (e, there, scope-is (kind_type e.1) u here)

pub listed-inner : (c : Collection) (t u : AnyType) (k : ItemKind) → IsListed k (listed_items c t) → Contains (interface_or_world (kind_type k)) u → Contains (inner_types c t) u
listed-inner c t u k (n, h) w = in_flat (λ (e : Name × ItemKind). interface_or_world (kind_type e.1)) (listed_items c t) (n, k) u h w

-- ---- what is inside was added before
-- A type has no imports and exports, or those were added before it.
abbrev IsRanked : Collection → AnyType → Type 0
IsRanked c t = (listed_items c t ≡ []) ⊎ ((n : ℕ) × (type_rank c t ≡ suc n) × ((e : Name × ItemKind) → Contains (listed_items c t) e → IsBefore c n (kind_type e.1)))

ranked : (c : Collection) → IsWellFormed c → (t : AnyType) → IsRanked c t
ranked c wf (ty.Interface i) = by (slice_get c.interfaces i.0) refl
  where
    by : (o : Option (Held Interface)) → slice_get c.interfaces i.0 ≡ o → IsRanked c (ty.Interface i)
    by None is = inl (ap (λ (o : Option (Held Interface)). option_case (item_of o) [] (λ x. x.exports)) is)
    by (Some h) is = inr (
      h.before,
      ap rank_of_held is,
      λ e w.
          all_at (IsBefore c h.before) h.item.exports e
          (all_right (IsBefore c h.before) (used_types h.item.uses) (kind_types h.item.exports) (wf.interfaces i.0 h is).1)
          (subst (λ es. Contains es e) (ap (λ (o : Option (Held Interface)). option_case (item_of o) [] (λ x. x.exports)) is) w),
    )
ranked c wf (ty.World i) = by (slice_get c.worlds i.0) refl
  where
    by : (o : Option (Held World)) → slice_get c.worlds i.0 ≡ o → IsRanked c (ty.World i)
    by None is = inl (ap (λ (o : Option (Held World)). option_case (item_of o) [] (λ x. x.imports) ++ option_case (item_of o) [] (λ x. x.exports)) is)
    by (Some h) is =
        let sides = all_right (IsBefore c h.before) (used_types h.item.uses) (kind_types h.item.imports ++ kind_types h.item.exports) (wf.worlds i.0 h is).1 in
        inr (
          h.before,
          ap rank_of_held is,
          λ e w. elim (in_either h.item.imports h.item.exports e (subst (λ es. Contains es e) (ap (λ (o : Option (Held World)). option_case (item_of o) [] (λ x. x.imports) ++ option_case (item_of o) [] (λ x. x.exports)) is) w)) [
            | inl l ↦ all_at (IsBefore c h.before) h.item.imports e (all_left (IsBefore c h.before) (kind_types h.item.imports) (kind_types h.item.exports) sides) l
            | inr r ↦ all_at (IsBefore c h.before) h.item.exports e (all_right (IsBefore c h.before) (kind_types h.item.imports) (kind_types h.item.exports) sides) r
          ],
        )
ranked c wf (ty.Resource r) = inl refl
ranked c wf (ty.Func f) = inl refl
ranked c wf (ty.Value v) = inl refl
ranked c wf (ty.Module m) = inl refl

pub listed-held : (c : Collection) → IsWellFormed c → (t : AnyType) (e : Name × ItemKind) → Contains (listed_items c t) e → holds_type c (kind_type e.1) ≡ true
listed-held c wf t e w = by (ranked c wf t)
  where
    by : IsRanked c t → holds_type c (kind_type e.1) ≡ true
    by (inl none) = absurd (in_none e (subst (λ es. Contains es e) none w))
    by (inr (n, is, before)) = type_within c n (kind_type e.1) (before e w)

listed-clean : (c : Collection) (t : AnyType) (e : Name × ItemKind) → Contains (listed_items c t) e → IsClean c t → IsClean c (kind_type e.1)
listed-clean c t e w clean f (s, within, has) = clean f (s, in_item s t e.1 (e.0, w) within, has)

inner-clean : (c : Collection) → IsWellFormed c → (t u : AnyType) → IsCleanType c t → Contains (inner_types c t) u → IsCleanType c u
inner-clean c wf t u h w =
    let (e, there, is) = inner-listed c t u w in
    subst (IsCleanType c) is (listed-held c wf t e there, listed-clean c t e there h.1)

-- ---- what is open
-- The type is done, or is that of one of the steps.
abbrev pub IsPending : List AnyType → List Step → AnyType → Type 0
IsPending done steps u = Contains done u ⊎ ((g : Step) × Contains steps g × (step_type g ≡ u))

-- Where a type is left, those inside it are done or among the steps before.
abbrev IsOpenAt : Collection → List AnyType → List Step → Step → Type 0
IsOpenAt c done above (step.Enter u) = Unit {0}
IsOpenAt c done above (step.Leave v) = (u : AnyType) → Contains (inner_types c v) u → IsPending done above u

abbrev IsOpenFrom : Collection → List AnyType → List Step → List Step → Type 0
IsOpenFrom c done above [] = Unit {0}
IsOpenFrom c done above (f ∷ todo) = IsOpenAt c done above f × IsOpenFrom c done (f ∷ above) todo

pending-more : (done : List AnyType) (steps : List Step) (f : Step) (u : AnyType) → IsPending done steps u → IsPending done (f ∷ steps) u
pending-more done steps f u (inl h) = inl h
pending-more done steps f u (inr (g, w, is)) = inr (g, in_rest f g steps w, is)

-- Other steps stand for those before, and more is done.
abbrev Covers : List AnyType → List AnyType → List Step → List Step → Type 0
Covers done new above over = (u : AnyType) → IsPending done above u → IsPending new over u

covers-more : (done new : List AnyType) (above over : List Step) (f : Step) → Covers done new above over → Covers done new (f ∷ above) (f ∷ over)
covers-more done new above over f k u (inl d) = pending-more new over f u (k u (inl d))
covers-more done new above over f k u (inr (g, w, is)) = elim (in_parts f g above w) [
  | inl same ↦ inr (f, in_first f over, ap step_type (sym same) ∙ is)
  | inr n ↦ pending-more new over f u (k u (inr (g, n, is)))
]

moved-at : (c : Collection) (done new : List AnyType) (above over : List Step) (f : Step) → Covers done new above over → IsOpenAt c done above f → IsOpenAt c new over f
moved-at c done new above over (step.Enter u) k h = tt
moved-at c done new above over (step.Leave v) k h = λ u w. k u (h u w)

moved-from : (c : Collection) (done new : List AnyType) (todo above over : List Step) → Covers done new above over → IsOpenFrom c done above todo → IsOpenFrom c new over todo
moved-from c done new [] above over k h = tt
moved-from c done new (f ∷ todo) above over k h = (moved-at c done new above over f k h.0, moved-from c done new todo (f ∷ above) (f ∷ over) (covers-more done new above over f k) h.1)

-- all of these are steps into types
abbrev AreEnters : List Step → Type 0
AreEnters steps = (g : Step) → Contains steps g → (u : AnyType) × (g ≡ step.Enter u)

open-enter : (c : Collection) (done : List AnyType) (above : List Step) (g : Step) (u : AnyType) → g ≡ step.Enter u → IsOpenAt c done above g
open-enter c done above g u e = subst (IsOpenAt c done above) (sym e) tt

enters-open : (c : Collection) (done : List AnyType) (inner above todo : List Step) → AreEnters inner
    → ((over : List Step) → ((g : Step) → Contains inner g → Contains over g) → ((g : Step) → Contains above g → Contains over g) → IsOpenFrom c done over todo)
    → IsOpenFrom c done above (inner ++ todo)
enters-open c done [] above todo enters rest = rest above (λ g n. absurd (in_none g n)) (λ g w. w)
enters-open c done (f ∷ inner) above todo enters rest = (
  (let (u, e) = enters f (in_first f inner) in open-enter c done above f u e),
  enters-open c done inner (f ∷ above) todo (λ g h. enters g (in_rest f g inner h)) (λ over has grown. rest over
      (λ g w. elim (in_parts f g inner w) [ inl same ↦ subst (Contains over) (sym same) (grown f (in_first f above)) | inr n ↦ has g n ])
      (λ g w. grown g (in_rest f g above w))),
)

-- ---- the state of the walk
pub record IsWalk (c : Collection) (roots done : List AnyType) (todo : List Step) : Type 0 where
  pub sorted : IsInnerFirst c done
  pub opened : IsOpenFrom c done [] todo
  pub roots_in : (t : AnyType) → Contains roots t → IsPending done todo t
  pub clean : (t : AnyType) → IsPending done todo t → IsCleanType c t

is-one : (ts : List AnyType) (t : AnyType) → is_done ts t ≡ true → Contains ts t
is-one ts t h = let (i, l, at) = position_in t ts (tested t ts h) in at_in ts i t at

-- a step for a type that is done
past-step : (done : List AnyType) (f : Step) (steps : List Step) → Contains done (step_type f) → Covers done done (f ∷ steps) steps
past-step done f steps there u (inl d) = inl d
past-step done f steps there u (inr (g, w, is)) = elim (in_parts f g steps w) [
  | inl same ↦ inl (subst (Contains done) (ap step_type (sym same) ∙ is) there)
  | inr n ↦ inr (g, n, is)
]

dropped : (c : Collection) (roots done : List AnyType) (f : Step) (rest : List Step) → Contains done (step_type f) → IsWalk c roots done (f ∷ rest) → IsWalk c roots done rest
dropped c roots done f rest there o = record {
  sorted = o.sorted;
  opened = moved-from c done done rest (f ∷ []) [] (past-step done f [] there) o.opened.1;
  roots_in = λ t h. past-step done f rest there t (o.roots_in t h);
  clean = λ t h. o.clean t (pending-more done rest f t h);
}

-- a type that is not done: those inside it come before it is left
module _ (c : Collection) (wf : IsWellFormed c) (roots done : List AnyType) (rest : List Step) (v : AnyType) (o : IsWalk c roots done (step.Enter v ∷ rest))
    (inner : List Step) (enters : AreEnters inner) (kids : (g : Step) → Contains inner g → Contains (inner_types c v) (step_type g))
    (all : (u : AnyType) → Contains (inner_types c v) u → (g : Step) × Contains inner g × (step_type g ≡ u)) where
  to-leave : (over : List Step) → Covers done done (step.Enter v ∷ []) (step.Leave v ∷ over)
  to-leave over u (inl d) = inl d
  to-leave over u (inr (g, w, is)) = inr (step.Leave v, in_first (step.Leave v) over, ap step_type (sym (in_one (step.Enter v) g w)) ∙ is)

  onward : Covers done done (step.Enter v ∷ rest) (inner ++ step.Leave v ∷ rest)
  onward u (inl d) = inl d
  onward u (inr (g, w, is)) = elim (in_parts (step.Enter v) g rest w) [
    | inl same ↦ inr (step.Leave v, in_right inner (step.Leave v ∷ rest) (step.Leave v) (in_first (step.Leave v) rest), ap step_type (sym same) ∙ is)
    | inr n ↦ inr (g, in_right inner (step.Leave v ∷ rest) g (in_rest (step.Leave v) g rest n), is)
  ]

  back : (t : AnyType) → IsPending done (inner ++ step.Leave v ∷ rest) t → IsCleanType c t
  back t (inl d) = o.clean t (inl d)
  back t (inr (g, w, is)) = elim (in_either inner (step.Leave v ∷ rest) g w) [
    | inl i ↦ inner-clean c wf v t (o.clean v (inr (step.Enter v, in_first (step.Enter v) rest, refl))) (subst (Contains (inner_types c v)) is (kids g i))
    | inr r ↦ elim (in_parts (step.Leave v) g rest r) [
      | inl same ↦ o.clean t (inr (step.Enter v, in_first (step.Enter v) rest, ap step_type (sym same) ∙ is))
      | inr n ↦ o.clean t (inr (g, in_rest (step.Enter v) g rest n, is))
    ]
  ]

  entered : IsWalk c roots done (inner ++ step.Leave v ∷ rest)
  entered = record {
    sorted = o.sorted;
    opened = enters-open c done inner [] (step.Leave v ∷ rest) enters (λ over has grown. (
      λ u w. (let (g, there, is) = all u w in inr (g, has g there, is)),
      moved-from c done done rest (step.Enter v ∷ []) (step.Leave v ∷ over) (to-leave over) o.opened.1,
    ));
    roots_in = λ t h. onward t (o.roots_in t h);
    clean = back;
  }

-- a type that is left is after those inside it
module _ (c : Collection) (roots done : List AnyType) (rest : List Step) (v : AnyType) (o : IsWalk c roots done (step.Leave v ∷ rest)) where
  kids-done : (u : AnyType) → Contains (inner_types c v) u → Contains done u
  kids-done u h = elim (o.opened.0 u h) [ inl w ↦ w | inr w ↦ absurd (in_none w.0 w.1) ]

  take-same : (xs : List AnyType) (y : AnyType) (p : ℕ) (x : AnyType) → slice_get xs p ≡ Some x → take p (xs ++ y ∷ []) ≡ take p xs
  take-same [] y p x e = cc
  take-same (z ∷ xs) y zero x e = refl
  take-same (z ∷ xs) y (suc p) x e = ap (λ l. z ∷ l) (take-same xs y p x e)

  take-whole : (xs : List AnyType) (y : AnyType) → take (length xs) (xs ++ y ∷ []) ≡ xs
  take-whole [] y = refl
  take-whole (z ∷ xs) y = ap (λ l. z ∷ l) (take-whole xs y)

  pushed : IsInnerFirst c (done ++ v ∷ [])
  pushed p t u at h = elim (get_where done v p t at) [
    | inl old ↦ subst (λ l. Contains l u) (sym (take-same done v p t old)) (o.sorted p t u old h)
    | inr e ↦ subst (λ (q : ℕ). Contains (take q (done ++ v ∷ [])) u) (sym e.0) (subst (λ l. Contains l u) (sym (take-whole done v)) (kids-done u (subst (λ z. Contains (inner_types c z) u) (sym e.1) h)))
  ]

  wider : (steps : List Step) → Covers done (done ++ v ∷ []) steps steps
  wider steps u (inl d) = inl (in_left done (v ∷ []) u d)
  wider steps u (inr s) = inr s

  narrow : (t : AnyType) → IsPending (done ++ v ∷ []) (step.Leave v ∷ rest) t → IsCleanType c t
  narrow t (inl d) = elim (in_either done (v ∷ []) t d) [
    | inl old ↦ o.clean t (inl old)
    | inr one ↦ o.clean t (inr (step.Leave v, in_first (step.Leave v) rest, sym (in_one v t one)))
  ]
  narrow t (inr s) = o.clean t (inr s)

  grown : IsWalk c roots (done ++ v ∷ []) (step.Leave v ∷ rest)
  grown = record {
    sorted = pushed;
    opened = moved-from c done (done ++ v ∷ []) (step.Leave v ∷ rest) [] [] (wider []) o.opened;
    roots_in = λ t h. wider (step.Leave v ∷ rest) t (o.roots_in t h);
    clean = narrow;
  }

  is-left : IsWalk c roots (insert_key (TypeEq.ghosts).eq done v) rest
  is-left = by (is_done done v) refl
    where
      by : (b : Bool) → is_done done v ≡ b → IsWalk c roots (insert_key (TypeEq.ghosts).eq done v) rest
      by true e = subst (λ l. IsWalk c roots l rest) (sym (ap (λ b. if b then done else done ++ v ∷ []) e)) (dropped c roots done (step.Leave v) rest (is-one done v e) o)
      by false e = subst (λ l. IsWalk c roots l rest) (sym (ap (λ b. if b then done else done ++ v ∷ []) e)) (dropped c roots (done ++ v ∷ []) (step.Leave v) rest (in_right done (v ∷ []) v (in_first v [])) grown)

-- ---- the beginning
turned-enters : (ts : List AnyType) → AreEnters (reverse (enter_all ts))
turned-enters ts g h = let w = map_in (λ t. step.Enter t) ts g (in_reversed (enter_all ts) g h) in (w.0, w.2)

in-turned : {A : Type 0} (xs : List A) (x : A) → Contains xs x → Contains (reverse xs) x
in-turned xs x h = in_reversed (reverse xs) x (subst (λ l. Contains l x) (sym (reverse-reverse xs)) h)

pub first-walk : (c : Collection) (done given : List AnyType) → done ≡ [] → AreCleanTypes c given → IsWalk c (flat_map interface_or_world given) done (reverse (enter_all (flat_map interface_or_world given)))
first-walk c done given none all = record {
  sorted = λ p t u at h. absurd (no-place p t (subst (λ l. slice_get l p ≡ Some t) none at));
  opened = subst (IsOpenFrom c done []) (append-nil (reverse (enter_all roots))) (enters-open c done (reverse (enter_all roots)) [] [] (turned-enters roots) (λ over has grown. tt));
  roots_in = λ t h. inr (step.Enter t, in-turned (enter_all roots) (step.Enter t) (in_map (λ t. step.Enter t) roots t h), refl);
  clean = of;
}
  where
    roots : List AnyType
    roots = flat_map interface_or_world given

    no-place : (p : ℕ) (t : AnyType) → slice_get [] p ≡ Some t → ⊥
    no-place p t e = cc

    of : (t : AnyType) → IsPending done (reverse (enter_all roots)) t → IsCleanType c t
    of t (inl d) = absurd (in_none t (subst (λ l. Contains l t) none d))
    of t (inr (g, w, is)) =
        let (x, there, same) = map_in (λ t. step.Enter t) roots g (in_reversed (enter_all roots) g w) in
        let (y, one, here) = flat_in interface_or_world given t (subst (Contains roots) (ap step_type (sym same) ∙ is) there) in
        subst (IsCleanType c) (scope-is y t here) (all y one)

-- ---- how much is left
-- The sum over types.
abbrev sum_of : (AnyType → ℕ) → List AnyType → ℕ
sum_of f [] = 0
sum_of f (t ∷ ts) = f t + sum_of f ts

-- The number of steps that a step into a type brings, if each type is entered anew, down to a depth.
abbrev cost_to : ℕ → Collection → AnyType → ℕ
cost_to zero c t = 2
cost_to (suc n) c t = 2 + sum_of (cost_to n c) (inner_types c t)

abbrev cost : Collection → Step → ℕ
cost c (step.Enter t) = cost_to (type_rank c t) c t
cost c (step.Leave t) = 1

-- The number of steps that are left.
abbrev pub total : Collection → List Step → ℕ
total c [] = 0
total c (g ∷ gs) = cost c g + total c gs

sum-less : (f g : AnyType → ℕ) (ts : List AnyType) → ((t : AnyType) → Contains ts t → f t ≤ g t) → sum_of f ts ≤ sum_of g ts
sum-less f g [] h = omega arith
sum-less f g (t ∷ ts) h = let a = h t (in_first t ts) in let b = sum-less f g ts (λ u w. h u (in_rest t u ts w)) in omega (arith, a, b)

cost-low : (n : ℕ) (c : Collection) (t : AnyType) → 2 ≤ cost_to n c t
cost-low zero c t = omega arith
cost-low (suc n) c t = omega arith

cost-more : (n m : ℕ) (c : Collection) (t : AnyType) → n ≤ m → cost_to n c t ≤ cost_to m c t
cost-more zero m c t l = cost-low m c t
cost-more (suc n) zero c t l = absurd (omega (arith, l))
cost-more (suc n) (suc m) c t l =
    let s = sum-less (cost_to n c) (cost_to m c) (inner_types c t) (λ u w. cost-more n m c u (omega (arith, l))) in
    omega (arith, s)

total-joined : (c : Collection) (xs ys : List Step) → total c (xs ++ ys) ≡ total c xs + total c ys
total-joined c [] ys = omega arith
total-joined c (g ∷ xs) ys = let r = total-joined c xs ys in omega (arith, r)

total-enters : (c : Collection) (ts : List AnyType) → total c (enter_all ts) ≡ sum_of (λ t. cost_to (type_rank c t) c t) ts
total-enters c [] = refl
total-enters c (t ∷ ts) = ap (λ (n : ℕ). cost_to (type_rank c t) c t + n) (total-enters c ts)

inner-cost : (c : Collection) → IsWellFormed c → (t : AnyType) → total c (enter_all (inner_types c t)) + 2 ≤ cost_to (type_rank c t) c t
inner-cost c wf t = by (ranked c wf t)
  where
    lower : (n : ℕ) → ((e : Name × ItemKind) → Contains (listed_items c t) e → IsBefore c n (kind_type e.1)) → (u : AnyType) → Contains (inner_types c t) u → cost_to (type_rank c u) c u ≤ cost_to n c u
    lower n before u w =
        let (e, there, is) = inner-listed c t u w in
        cost-more (type_rank c u) n c u (subst (λ z. type_rank c z ≤ n) is (before_rank c n (kind_type e.1) (before e there)))

    by : IsRanked c t → total c (enter_all (inner_types c t)) + 2 ≤ cost_to (type_rank c t) c t
    by (inl none) =
        let z : total c (enter_all (inner_types c t)) ≡ 0 = ap (λ es. total c (enter_all (interfaces_and_worlds es))) none in
        let low = cost-low (type_rank c t) c t in
        omega (arith, z, low)
    by (inr (n, is, before)) =
        let a = total-enters c (inner_types c t) in
        let b = sum-less (λ u. cost_to (type_rank c u) c u) (cost_to n c) (inner_types c t) (lower n before) in
        let e : cost_to (type_rank c t) c t ≡ 2 + sum_of (cost_to n c) (inner_types c t) = ap (λ (r : ℕ). cost_to r c t) is in
        omega (arith, a, b, e)

-- ---- one step
module _ (c : Collection) (wf : IsWellFormed c) (roots done done_now : List AnyType) (popped pending_now : List Step) where
  pub popped-held : (f : Step) → IsWalk c roots done (reverse (popped ++ f ∷ [])) → holds_type c (step_type f) ≡ true
  popped-held f o = (o.clean (step_type f) (inr (f, subst (λ l. Contains l f) (sym (reverse-append popped (f ∷ []))) (in_first f (reverse popped)), refl))).0

  pub stepped : (f : Step) → IsWalk c roots done (reverse (popped ++ f ∷ [])) → TakesStep c f done popped done_now pending_now → IsWalk c roots done_now (reverse pending_now)
  stepped (step.Leave v) o t =
      let first = subst (IsWalk c roots done) (reverse-append popped (step.Leave v ∷ [])) o in
      let past = is-left c roots done (reverse popped) v first in
      subst (λ l. IsWalk c roots l (reverse pending_now)) (sym t.0) (subst (λ l. IsWalk c roots (insert_key (TypeEq.ghosts).eq done v) (reverse l)) (sym t.1) past)
  stepped (step.Enter v) o t = by (is_done done v) refl
    where
      first : IsWalk c roots done (step.Enter v ∷ reverse popped)
      first = subst (IsWalk c roots done) (reverse-append popped (step.Enter v ∷ [])) o

      kid : (g : Step) → Contains (reverse (enter_all (inner_types c v))) g → Contains (inner_types c v) (step_type g)
      kid g h = let w = map_in (λ u. step.Enter u) (inner_types c v) g (in_reversed (enter_all (inner_types c v)) g h) in subst (λ z. Contains (inner_types c v) (step_type z)) (sym w.2) w.1

      all : (u : AnyType) → Contains (inner_types c v) u → (g : Step) × Contains (reverse (enter_all (inner_types c v))) g × (step_type g ≡ u)
      all u h = (step.Enter u, in-turned (enter_all (inner_types c v)) (step.Enter u) (in_map (λ u. step.Enter u) (inner_types c v) u h), refl)

      by : (b : Bool) → is_done done v ≡ b → IsWalk c roots done_now (reverse pending_now)
      by true e =
          let past = dropped c roots done (step.Enter v) (reverse popped) (is-one done v e) first in
          subst (λ l. IsWalk c roots l (reverse pending_now)) (sym t.0) (subst (λ l. IsWalk c roots done (reverse l)) (sym (t.1 e)) past)
      by false e =
          let turned : reverse pending_now ≡ reverse (enter_all (inner_types c v)) ++ step.Leave v ∷ reverse popped =
          ap reverse (t.2 e) ∙ reverse-append (popped ++ step.Leave v ∷ []) (enter_all (inner_types c v)) ∙ ap (λ l. reverse (enter_all (inner_types c v)) ++ l) (reverse-append popped (step.Leave v ∷ [])) in
          let past = entered c wf roots done (reverse popped) v first (reverse (enter_all (inner_types c v))) (turned-enters (inner_types c v)) kid all in
          subst (λ l. IsWalk c roots l (reverse pending_now)) (sym t.0) (subst (IsWalk c roots done) (sym turned) past)

  pub stepped-less : (f : Step) → TakesStep c f done popped done_now pending_now → total c pending_now < total c (popped ++ f ∷ [])
  stepped-less (step.Leave v) t =
      let same = ap (total c) t.1 in
      let one : total c (popped ++ step.Leave v ∷ []) ≡ total c popped + (1 + 0) = total-joined c popped (step.Leave v ∷ []) in
      omega (arith, same, one)
  stepped-less (step.Enter v) t = by (is_done done v) refl
    where
      was : total c (popped ++ step.Enter v ∷ []) ≡ total c popped + (cost_to (type_rank c v) c v + 0)
      was = total-joined c popped (step.Enter v ∷ [])

      by : (b : Bool) → is_done done v ≡ b → total c pending_now < total c (popped ++ step.Enter v ∷ [])
      by true e =
          let same = ap (total c) (t.1 e) in
          let low = cost-low (type_rank c v) c v in
          let before = was in
          omega (arith, same, low, before)
      by false e =
          let same = ap (total c) (t.2 e) in
          let one : total c (popped ++ step.Leave v ∷ []) ≡ total c popped + (1 + 0) = total-joined c popped (step.Leave v ∷ []) in
          let two = total-joined c (popped ++ step.Leave v ∷ []) (enter_all (inner_types c v)) in
          let less = inner-cost c wf v in
          let before = was in
          omega (arith, same, one, two, less, before)

pub no-steps : (steps : List Step) → length steps ≡ 0 → steps ≡ []
no-steps [] h = refl
no-steps (f ∷ steps) h = cc

-- ---- steps that are appended one by one
pub steps-next : (es : List (Name × ItemKind)) (n : ℕ) (k : ItemKind) (pending now all : List Step) → option_map (λ e. e.1) (slice_get es n) ≡ Some k → now ≡ pending ++ enter_all (interface_or_world (kind_type k))
    → pending ++ enter_all (interfaces_and_worlds (drop n es)) ≡ all → now ++ enter_all (interfaces_and_worlds (drop (n + 1) es)) ≡ all
steps-next es n k pending now all at is was =
    let (a, parts) = drop_second es n k at in
    let here = enter_all (interface_or_world (kind_type k)) in
    let rest = interfaces_and_worlds (drop (n + 1) es) in
    let whole : enter_all (interfaces_and_worlds (drop n es)) ≡ here ++ enter_all rest = ap (λ xs. enter_all (interfaces_and_worlds xs)) parts ∙ map-append (λ t. step.Enter t) (interface_or_world (kind_type k)) rest in
    ap (λ l. l ++ enter_all rest) is ∙ append_assoc pending here (enter_all rest) ∙ ap (λ l. pending ++ l) (sym whole) ∙ was

drop-here : (ts : List AnyType) (n : ℕ) (t : AnyType) → slice_get ts n ≡ Some t → drop n ts ≡ t ∷ drop (n + 1) ts
drop-here [] n t h = cc
drop-here (x ∷ ts) zero t h = ap (λ z. z ∷ ts) (first h)
  where
    first : Some x ≡ Some t → x ≡ t
    first h = cc
drop-here (x ∷ ts) (suc n) t h =
    let same : suc (n + 1) ≡ suc n + 1 = omega arith in
    drop-here ts n t h ∙ ap (λ (m : ℕ). t ∷ drop m (x ∷ ts)) same

pub types-next : (ts : List AnyType) (n : ℕ) (t : AnyType) (pending now all : List Step) → slice_get ts n ≡ Some t → now ≡ pending ++ enter_all (interface_or_world t)
    → pending ++ enter_all (flat_map interface_or_world (drop n ts)) ≡ all → now ++ enter_all (flat_map interface_or_world (drop (n + 1) ts)) ≡ all
types-next ts n t pending now all at is was =
    let here = enter_all (interface_or_world t) in
    let rest = flat_map interface_or_world (drop (n + 1) ts) in
    let whole : enter_all (flat_map interface_or_world (drop n ts)) ≡ here ++ enter_all rest = ap (λ xs. enter_all (flat_map interface_or_world xs)) (drop-here ts n t at) ∙ map-append (λ t. step.Enter t) (interface_or_world t) rest in
    ap (λ l. l ++ enter_all rest) is ∙ append_assoc pending here (enter_all rest) ∙ ap (λ l. pending ++ l) (sym whole) ∙ was

-- ---- the steps into what a type lists
pub interface-steps : (c : Collection) (t u : AnyType) (pending now : List Step) (es : List (Name × ItemKind)) → u ≡ t → listed_items c t ≡ es → now ≡ pending ++ enter_all (interfaces_and_worlds es) → now ≡ pending ++ enter_all (inner_types c u)
interface-steps c t u pending now es same is grown = grown ∙ ap (λ xs. pending ++ enter_all (interfaces_and_worlds xs)) (sym is ∙ ap (listed_items c) (sym same))

scopes-joined : (es fs : List (Name × ItemKind)) → interfaces_and_worlds (es ++ fs) ≡ interfaces_and_worlds es ++ interfaces_and_worlds fs
scopes-joined [] fs = refl
scopes-joined (e ∷ es) fs = ap (λ l. interface_or_world (kind_type e.1) ++ l) (scopes-joined es fs) ∙ sym (append_assoc (interface_or_world (kind_type e.1)) (interfaces_and_worlds es) (interfaces_and_worlds fs))

pub world-steps : (c : Collection) (t u : AnyType) (pending between now : List Step) (es fs : List (Name × ItemKind)) → u ≡ t → listed_items c t ≡ es ++ fs → between ≡ pending ++ enter_all (interfaces_and_worlds es) → now ≡ between ++ enter_all (interfaces_and_worlds fs) → now ≡ pending ++ enter_all (inner_types c u)
world-steps c t u pending between now es fs same is one two =
    let both : enter_all (interfaces_and_worlds (es ++ fs)) ≡ enter_all (interfaces_and_worlds es) ++ enter_all (interfaces_and_worlds fs) = ap enter_all (scopes-joined es fs) ∙ map-append (λ t. step.Enter t) (interfaces_and_worlds es) (interfaces_and_worlds fs) in
    interface-steps c t u pending now (es ++ fs) same is
    (two ∙ ap (λ l. l ++ enter_all (interfaces_and_worlds fs)) one ∙ append_assoc pending (enter_all (interfaces_and_worlds es)) (enter_all (interfaces_and_worlds fs)) ∙ ap (λ l. pending ++ l) (sym both))

pub nothing-listed : (c : Collection) (t : AnyType) → ((i : _) → t ≡ ty.Interface i → ⊥) → ((i : _) → t ≡ ty.World i → ⊥) → listed_items c t ≡ []
nothing-listed c (ty.Interface i) not_interface not_world = absurd (not_interface i refl)
nothing-listed c (ty.World i) not_interface not_world = absurd (not_world i refl)
nothing-listed c (ty.Resource r) not_interface not_world = refl
nothing-listed c (ty.Func r) not_interface not_world = refl
nothing-listed c (ty.Value r) not_interface not_world = refl
nothing-listed c (ty.Module r) not_interface not_world = refl

pub no-more-steps : (c : Collection) (t : AnyType) (pending : List Step) → listed_items c t ≡ [] → pending ≡ pending ++ enter_all (inner_types c t)
no-more-steps c t pending none = sym (append-nil pending) ∙ ap (λ xs. pending ++ enter_all (interfaces_and_worlds xs)) (sym none)

-- ---- the end
pub all-done : (c : Collection) (roots done : List AnyType) → IsWalk c roots done [] → (t : AnyType) → Contains roots t → Contains done t
all-done c roots done o t h = elim (o.roots_in t h) [ inl w ↦ w | inr w ↦ absurd (in_none w.0 w.1) ]
