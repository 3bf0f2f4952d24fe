-- Types that are so heavy that they may not fit, and those inside them.
use Rattle.std.specs.Prelude.{ℕ, ◌≡◌, ◌≤◌, ◌+◌, ◌*◌, ◌^◌, ◌⊎◌, Bool, true, false, if◌then◌else◌, List, [], ◌∷◌, ◌++◌, Some, Contains, slice_get}
use Rattle.std.specs.List.{flat_map}
use Rattle.std.proofs.Common.{refl, ap, ◌∙◌, sym, subst, arith, ⊎_elim, le_refl, le_trans}
use Rattle.wac_types_shapes.specs.primitives.Name.{Name}
use Rattle.wac_types_shapes.specs.shapes.Kinds.{kind_type}
use Rattle.wac_types_shapes.specs.declared.shapes.component.ItemKind.{ItemKind}
use Rattle.wac_types_shapes.specs.declared.shapes.component.«Type».{«Type» as AnyType}
use Rattle.wac_types_shapes.specs.declared.shapes.component.«Type».TheVariants as ty
use Rattle.wac_types_collection.specs.collection.Collection.{Collection, IsWellFormed, holds_type}
use Rattle.wac_types_collection.proofs.lemmas.wide.Members.{in_none, in_one, in_first, in_either, in_left, in_right, at_in, map_in, flat_in}
use Rattle.wac_types_weight.specs.Text.{scope_weight}
use Rattle.wac_types_weight.specs.private.Laws.{NestsLess}
use Rattle.wac_encode_faults.specs.Faults.{listed_items}
use Rattle.wac_encode_interfaces.specs.declared.inside.Step.{Step}
use Rattle.wac_encode_interfaces.specs.declared.inside.Step.TheVariants as step
use Rattle.wac_encode_interfaces.specs.private.InnerTypes.{TakesStep, enter_all, inner_types, interface_or_world, is_done, step_type}
use Rattle.wac_encode_interfaces.specs.private.Paid.{IsHeavy, WeighNoMore}
use Rattle.wac_encode_interfaces.proofs.InnerTypes.{inner-listed}
use Rattle.wac_encode_interfaces.proofs.SideCosts.{contained-in}

-- The type weighs no more than a root.
abbrev pub Weighs : Collection → List AnyType → AnyType → Type 0
Weighs c roots t = (r : AnyType) × Contains roots r × (scope_weight c t ≤ scope_weight c r)

-- Types that are done, and those of pending steps, weigh no more than roots.
pub record WeighSteps (c : Collection) (roots done : List AnyType) (pending : List Step) : Type 0 where
  pub done_light : (t : AnyType) → Contains done t → Weighs c roots t
  pub pending_light : (g : Step) → Contains pending g → Weighs c roots (step_type g)

-- What is inside an interface or a world weighs less.
inner-lighter : NestsLess → (c : Collection) → IsWellFormed c → (v u : AnyType) → holds_type c v ≡ true → Contains (inner_types c v) u → scope_weight c u ≤ scope_weight c v
inner-lighter law c wf v u held h =
    let (e, there, is) = inner-listed c v u h in
    subst (λ (z : AnyType). scope_weight c z ≤ scope_weight c v) is (by_type v e held there)
  where
    less : (x y : ℕ) → 1 + x ≤ y → x ≤ y
    less x y g = omega (arith, g)

    by_type : (t : AnyType) (e : Name × ItemKind) → holds_type c t ≡ true → Contains (listed_items c t) e → scope_weight c (kind_type e.1) ≤ scope_weight c t
    by_type (ty.Interface i) e hold w = less (scope_weight c (kind_type e.1)) (scope_weight c (ty.Interface i)) (law c (ty.Interface i) (kind_type e.1) wf hold refl (contained-in (listed_items c (ty.Interface i)) e.0 e.1 w))
    by_type (ty.World x) e hold w = less (scope_weight c (kind_type e.1)) (scope_weight c (ty.World x)) (law c (ty.World x) (kind_type e.1) wf hold refl (contained-in (listed_items c (ty.World x)) e.0 e.1 w))
    by_type (ty.Resource r) e hold w = absurd (in_none e w)
    by_type (ty.Func f) e hold w = absurd (in_none e w)
    by_type (ty.Value x) e hold w = absurd (in_none e w)
    by_type (ty.Module m) e hold w = absurd (in_none e w)

scope-same : (t u : AnyType) → Contains (interface_or_world t) u → u ≡ t
scope-same (ty.Interface i) u h = in_one (ty.Interface i) u h
scope-same (ty.World w) u h = in_one (ty.World w) u h
scope-same (ty.Resource r) u h = absurd (in_none u h)
scope-same (ty.Func f) u h = absurd (in_none u h)
scope-same (ty.Value v) u h = absurd (in_none u h)
scope-same (ty.Module m) u h = absurd (in_none u h)

-- The first steps.
pub begun-light : (c : Collection) (roots done : List AnyType) (pending : List Step) → done ≡ [] → pending ≡ enter_all (flat_map interface_or_world roots) → WeighSteps c roots done pending
begun-light c roots done pending none all = record {
  done_light = λ t h. absurd (in_none t (subst (λ (l : List AnyType). Contains l t) none h));
  pending_light = λ g h.
      (let (u, there, is) = map_in (λ (t : AnyType). step.Enter t) (flat_map interface_or_world roots) g (subst (λ (l : List Step). Contains l g) all h) in
      let (r, among, inside) = flat_in interface_or_world roots u there in
      let same : step_type g ≡ r = ap step_type is ∙ scope-same r u inside in
      (r, among, subst (λ (z : AnyType). scope_weight c z ≤ scope_weight c r) (sym same) (le_refl (scope_weight c r))));
}

-- One step.
pub step-light : NestsLess → (c : Collection) → IsWellFormed c → (roots done done_now : List AnyType) (popped pending_now : List Step) (f : Step) → holds_type c (step_type f) ≡ true → WeighSteps c roots done (popped ++ f ∷ []) → TakesStep c f done popped done_now pending_now → WeighSteps c roots done_now pending_now
step-light law c wf roots done done_now popped pending_now (step.Leave v) held was t = record {
  done_light = λ u h. by_case (is_done done v) u (subst (λ (l : List AnyType). Contains l u) t.0 h);
  pending_light = λ g h. was.pending_light g (in_left popped (step.Leave v ∷ []) g (subst (λ (l : List Step). Contains l g) t.1 h));
}
  where
    by_case : (b : Bool) (u : AnyType) → Contains (if b then done else done ++ v ∷ []) u → Weighs c roots u
    by_case true u h = was.done_light u h
    by_case false u h = ⊎_elim (λ old. was.done_light u old) (λ one. subst (Weighs c roots) (sym (in_one v u one)) (was.pending_light (step.Leave v) (in_right popped (step.Leave v ∷ []) (step.Leave v) (in_first (step.Leave v) [])))) (in_either done (v ∷ []) u h)
step-light law c wf roots done done_now popped pending_now (step.Enter v) held was t = record {
  done_light = λ u h. was.done_light u (subst (λ (l : List AnyType). Contains l u) t.0 h);
  pending_light = by_case (is_done done v) refl;
}
  where
    here : Weighs c roots v
    here = was.pending_light (step.Enter v) (in_right popped (step.Enter v ∷ []) (step.Enter v) (in_first (step.Enter v) []))

    kid : (g : Step) → Contains (enter_all (inner_types c v)) g → Weighs c roots (step_type g)
    kid g h =
        let (u, there, is) = map_in (λ (t : AnyType). step.Enter t) (inner_types c v) g h in
        subst (λ (z : Step). Weighs c roots (step_type z)) (sym is) (here.0, here.1, le_trans (inner-lighter law c wf v u held there) here.2)

    by_case : (b : Bool) → is_done done v ≡ b → (g : Step) → Contains pending_now g → Weighs c roots (step_type g)
    by_case true e g h = was.pending_light g (in_left popped (step.Enter v ∷ []) g (subst (λ (l : List Step). Contains l g) (t.1 e) h))
    by_case false e g h =
        ⊎_elim
        (λ before. ⊎_elim (λ old. was.pending_light g (in_left popped (step.Enter v ∷ []) g old)) (λ one. subst (λ (z : Step). Weighs c roots (step_type z)) (sym (in_one (step.Leave v) g one)) here) (in_either popped (step.Leave v ∷ []) g before))
        (λ inside. kid g inside)
        (in_either (popped ++ step.Leave v ∷ []) (enter_all (inner_types c v)) g (subst (λ (l : List Step). Contains l g) (t.2 e) h))

-- A heavy type among others, and one inside a root.
pub heavy-among : (c : Collection) (ts : List AnyType) (p : ℕ) (t : AnyType) → slice_get ts p ≡ Some t → IsHeavy c (t ∷ []) → IsHeavy c ts
heavy-among c ts p t at h = (h.0, subst (Contains ts) (sym (in_one t h.0 h.1)) (at_in ts p t at), h.2)

pub heavy-root : (c : Collection) (roots ts : List AnyType) → WeighNoMore c roots ts → IsHeavy c ts → IsHeavy c roots
heavy-root c roots ts light h =
    let root = light h.0 h.1 in
    (root.0, root.1, heavier (2 ^ 32) (scope_weight c h.0) (scope_weight c root.0) h.2 root.2)
  where
    heavier : (m x y : ℕ) → m ≤ 27 * x → x ≤ y → m ≤ 27 * y
    heavier m x y f g = omega (arith, f, g)
