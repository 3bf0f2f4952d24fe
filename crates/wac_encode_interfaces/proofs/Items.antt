-- The next item of a component type is written.
use Rattle.std.proofs.Common.{ℕ, zero, suc, ◌≡◌, ◌&&◌, ◌||◌, Bool, true, false, if◌then◌else◌, List, [], ◌∷◌, ◌++◌, Option, Some, None, Contains, refl, ap, sym, ◌∙◌, subst, inl, inr, slice_get}
use Rattle.std.specs.Prelude.{◌==◌, is_none}
use Rattle.std.proofs.Math.Path.{fun_ext}
use Rattle.std.specs.List.{AllZip, AllByRecursion, list_any}
use Rattle.std.proofs.lemmas.Bool.{eqb-true}
use Rattle.wac_types_shapes.specs.primitives.Name.{Name, same_name, find_name, option_case}
use Rattle.wac_types_shapes.specs.primitives.Tree.{Side, imported, exported, Place, named, Leaf, Tree, absent, fresh, type_equal, function_item, instance_item, component_item, module_item, value_item, moved}
use Rattle.wac_types_shapes.specs.shapes.Kinds.{kind_type}
use Rattle.wac_types_shapes.specs.declared.shapes.component.ResourceId.{ResourceId}
use Rattle.wac_types_shapes.specs.declared.shapes.component.InterfaceId.{InterfaceId}
use Rattle.wac_types_shapes.specs.declared.shapes.component.Interface.{Interface}
use Rattle.wac_types_shapes.specs.declared.shapes.component.ItemKind.{ItemKind}
use Rattle.wac_types_shapes.specs.declared.shapes.component.ItemKind.TheVariants as kind
use Rattle.wac_types_shapes.specs.declared.shapes.component.«Type».{«Type» as AnyType}
use Rattle.wac_types_shapes.specs.declared.shapes.component.«Type».TheVariants as ty
use Rattle.wac_types_collection.specs.collection.Collection.{Collection, IsWellFormed, item_at, holds_type}
use Rattle.wac_types_collection.specs.collection.Held.{resolved, items_under, item_tree}
use Rattle.wac_types_collection.specs.collection.Bound.{Bindings, own_name, same_side, same_path, is_here, binds_here, held_tree, held_item, bound_by}
use Rattle.wac_types_collection.proofs.lemmas.wide.Members.{in_none, in_left, in_right}
use Rattle.wac_binary.specs.declared.sorts.Description.{Description}
use Rattle.wac_binary.specs.HasMeaning.{IsFree as IsFreeName}
use Rattle.wac_binary.specs.Unfold.{Scope, Bound, with_item}
use Rattle.wac_encode_stacks.specs.Scopes.{Where, Open, Stack, env, envs}
use Rattle.wac_encode_stacks.specs.Good.{At, Good, Grown, Kept, Keeps, IsHeld, Onward, innermost, top}
use Rattle.wac_encode_stacks.specs.Listed.{IsItem, on_side, other}
use Rattle.wac_encode_stacks.specs.Instances.{Shows, ShowsWhole, taken_leaf}
use Rattle.wac_encode_stacks.proofs.Moved.{held-here}
use Rattle.wac_encode_stacks.proofs.Unfolded.{item_same}
use Rattle.wac_encode_scopes.specs.declared.encodable.Encodable.{Encodable}
use Rattle.wac_encode_scopes.specs.declared.encodable.Encodable.TheVariants.{Builder, Instance, Component}
use Rattle.wac_encode_scopes.specs.declared.scope.Scope.{Scope as OpenScope}
use Rattle.wac_encode_scopes.specs.declared.state.State.{State}
use Rattle.wac_encode_scopes.specs.Books.{opened}
use Rattle.wac_encode_scopes.specs.private.Components.{IsComponentType}
use Rattle.wac_encode_scopes.specs.Contents.{AddsTypes, and_item}
use Rattle.wac_encode_scopes.specs.States.{outward, stack, AllAddTypes, Goes}
use Rattle.wac_encode_scopes.specs.private.Telling.{is_one_of, with_own_names, MayBind, TellsInstance}
use Rattle.wac_encode_values.specs.private.Values.{IsReady}
use Rattle.wac_encode_faults.specs.declared.fault.WriteFault.{WriteFault}
use Rattle.wac_encode_faults.specs.Faults.{listed_fault, of_items, of_additional}
use Rattle.wac_encode_faults.specs.Sides.{Sides, all_imports, export_bindings, side_bindings}
use Rattle.wac_encode_faults.specs.Free.{SideItem, IsFree, IsFreeInTypes, IsFreeInItem}
use Rattle.wac_encode_faults.specs.Free as free
use Rattle.wac_encode_faults.specs.Cycle.{ItemDependsOn}
use Rattle.wac_encode_interfaces.specs.private.Items.{IsItemReady, HasInterfaceOf, AddsItem, AddsBeside, AddsTree}
use Rattle.wac_encode_interfaces.specs.private.Ready.{IsClean, IsInterfaceClean, IsInterfaceReady, AreSidesClean}
use Rattle.wac_encode_faults.specs.Trees.{types_tree, additional_tree, side_trees}
use Rattle.wac_encode_interfaces.specs.private.Trees.{interface_tree, IsInterfaceHeld}
use Rattle.wac_encode_interfaces.specs.private.Worlds.{Worlds, HaveWorlds, HaveInterfaceWorlds}
use Rattle.wac_encode_interfaces.specs.private.Written.{side_item, is_bound_at, begins_with, bound_so_far, listed_so_far, IsWritten, IsNext, IsItemOf, AreWritable, AddsToSide}
use Rattle.wac_encode_interfaces.specs.private.Parts.{ListsInterface}
use Rattle.wac_encode_interfaces.proofs.Adding.{side-kept}
use Rattle.wac_encode_scopes.proofs.FreeAgreeing.{HasFree, held-agree, held-free}
use Rattle.wac_encode_interfaces.proofs.Agreeing.{IsFreeInInterface, interface-agree, interface-free, interface-here, shows-types}
use Rattle.wac_encode_interfaces.proofs.Bound.{true-false, no-some, one-some, both-true, true-both, bound-at, bound-before, bound-next, unbound-yet, side-final, instance-leaf}
use Rattle.wac_encode_interfaces.proofs.SideTrees.{final_tree, under-name, written-next, not-listed}

-- a component type without enclosing scope

more-than-none : (c : Collection) (xs : Stack) (o : Open) → Good c [] (xs ++ o ∷ []) → ⊥
more-than-none c [] o h = h
more-than-none c (x ∷ xs) o h = h

none-outward : (c : Collection) (b : Bool) (ss : List OpenScope) → Good c [] (outward b ss) → ss ≡ []
none-outward c b [] h = refl
none-outward c b (s ∷ ss) h = absurd (more-than-none c (outward b ss) (opened b s) h)

pub bottom-alone : (c : Collection) (b : Bool) (m : Bindings) (st : State) → Good c (m ∷ []) (stack b st) → st.around.items ≡ []
bottom-alone c b m st h = none-outward c b st.around.items h.1

pub component-more : (x y : Encodable) → AddsTypes x y → IsComponentType x → IsComponentType y
component-more (Component ds) (Component es) h is = tt
component-more (Component ds) (Builder es) h is = absurd h
component-more (Component ds) (Instance es) h is = absurd h
component-more (Builder ds) y h is = absurd is
component-more (Instance ds) y h is = absurd is

pub component-item : (side : Side) (n : Name) (d : Description) (x : Encodable) → IsComponentType x → IsComponentType (and_item side n d x)
component-item side n d (Component ds) is = tt
component-item side n d (Builder ds) is = absurd is
component-item side n d (Instance ds) is = absurd is

-- Types that are added change nothing of what is written.
pub goes-written : (c : Collection) (b : Bool) (s : Sides) (xs : List SideItem) (old new : State) → Goes c b old new → IsWritten c b s xs old → IsWritten c b s xs new
goes-written c b s xs old new goes was =
    let on = goes.onward (bound_so_far c s xs ∷ []) was.good in
    record {
      around = bottom-alone c b (bound_so_far c s xs) new on.0;
      content = component-more old.here.content new.here.content goes.types.0 was.content;
      good = on.0;
      listed = λ side n. ap (λ (items : Name → Tree). items n) (side-kept side (innermost (stack b old)) (innermost (stack b new)) on.1.0) ∙ was.listed side n;
    }

-- The name of the next item is free.
pub free-name : (c : Collection) (b : Bool) (s : Sides) (xs : List SideItem) (side : Side) (n : Name) (st : State) → IsNext c b s xs (side_item side n) st → IsFreeName (on_side side (innermost (stack b st)) n)
free-name c b s xs side n st next = subst IsFreeName (sym (next.written.listed side n ∙ not-listed c s xs side n next.new)) tt

-- Inside an interface nothing of its own is free.

no-resource : (q : ResourceId) (i : InterfaceId) → ty.Resource q ≡ ty.Interface i → ⊥
no-resource q i h = cc

one-interface : (j i : InterfaceId) → ty.Interface j ≡ ty.Interface i → j ≡ i
one-interface j i h = cc

no-part : (c : Collection) (t u : AnyType) (i : InterfaceId) → t ≡ ty.Interface i → Contains (free.parts c t) u → ⊥
no-part c t u i is h = in_none u (subst (λ (z : AnyType). Contains (free.parts c z) u) is h)

pub free-not-own : (c : Collection) (t : AnyType) (i : InterfaceId) (it : Interface) (r : ResourceId) → t ≡ ty.Interface i → item_at c.interfaces i.0 ≡ Some it → IsFree c t r → own_name c it.uses it.exports r ≡ None
free-not-own c _ i it _ is at (free.itself q) = absurd (no-resource q i is)
free-not-own c t i it r is at (free.in_part _ u _ part f) = absurd (no-part c t u i is part)
free-not-own c _ i it r is at (free.in_export j other n k _ there listed not_own f) =
    let same : j ≡ i = one-interface j i is in
    subst (λ (x : Interface). own_name c x.uses x.exports r ≡ None) (one-some other it (sym there ∙ ap (λ (z : InterfaceId). item_at c.interfaces z.0) same ∙ at)) not_own

pub some-at : (o : Option Leaf) (x : SideItem) → is_bound_at o x ≡ true → (l : Leaf) × (o ≡ Some l)
some-at None x h = true-false false h refl
some-at (Some l) x h = (l, refl)

pub bool-of : (b : Bool) → (b ≡ true → ⊥) → b ≡ false
bool-of true h = absurd (h refl)
bool-of false h = refl

-- the next item of a component type that can be written
module _ (c : Collection) (wf : IsWellFormed c) (ws : Worlds) (s : Sides) (can : AreWritable c ws s) (side : Side) (n : Name) where
  -- The binding of a resource, in the end; whether the item has it.
  abbrev bound : ResourceId → Option Leaf
  bound r = export_bindings c s r

  abbrev here : ResourceId → Bool
  here r = is_bound_at (bound r) (side_item side n)

  pub item-free : (side : Side) (n : Name) (k : ItemKind) (r : ResourceId) → IsItemOf s side n k false → IsFree c (kind_type k) r → IsFreeInItem c s (side_item side n) r
  item-free imported n k r item f = free.of_import n k r item f
  item-free exported n k r item f = free.of_export n k r item f

  instance-free : (side : Side) (n : Name) (i : InterfaceId) (a : Bool) (r : ResourceId) → IsItemOf s side n (kind.Instance i) a → IsFreeInInterface c a i r → IsFreeInItem c s (side_item side n) r
  instance-free side n i false r item f = item-free side n (kind.Instance i) r item f
  instance-free imported n i true r item f = free.of_additional n i r item f
  instance-free exported n i true r item f = absurd item

  free-interface-not-own : (i : InterfaceId) (a : Bool) (it : Interface) (r : ResourceId) → item_at c.interfaces i.0 ≡ Some it → IsFreeInInterface c a i r → own_name c it.uses it.exports r ≡ None
  free-interface-not-own i false it r at f = free-not-own c (ty.Interface i) i it r refl at f
  free-interface-not-own i true it r at f = subst (λ (x : Interface). own_name c x.uses x.exports r ≡ None) (one-some f.interface it (sym f.there ∙ at)) f.not_own

  -- An instance binds own resources alone.
  instance-made : (i : InterfaceId) (a : Bool) (r : ResourceId) → IsItemOf s side n (kind.Instance i) a → here r ≡ true
      → (it : Interface) × (item_at c.interfaces i.0 ≡ Some it) × (q : Name) × (own_name c it.uses it.exports r ≡ Some q) × (Some (record { out = 0; side = side; path = named n ∷ named q ∷ [] }) ≡ bound r)
  instance-made i a r item h =
      let (l, is) = some-at (bound r) (side_item side n) h in
      let made = bound-at c s can.imports_once can.exports_once side n (kind.Instance i) a r item h in
      let (it, at, q, own, leaf) = instance-leaf c s.uses side n i r l (made ∙ is) in
      (it, at, q, own, leaf ∙ sym is)

  instance-not-here : (i : InterfaceId) (a : Bool) (r : ResourceId) → IsItemOf s side n (kind.Instance i) a → IsFreeInInterface c a i r → here r ≡ false
  instance-not-here i a r item f = bool-of (here r) (λ h.
      let (it, at, q, own, leaf) = instance-made i a r item h in
      no-some q (sym (free-interface-not-own i a it r at f) ∙ own))

  module _ (b : Bool) (xs : List SideItem) (st : State) (next : IsNext c b s xs (side_item side n) st) where
    abbrev now_bound : Bindings
    now_bound = bound_so_far c s xs

    instance-bound : (i : InterfaceId) (a : Bool) → IsItemOf s side n (kind.Instance i) a → (r : ResourceId) → IsFreeInInterface c a i r → (l : Leaf) × (now_bound r ≡ Some l) × (side_bindings c s side r ≡ Some l)
    instance-bound i a item r f = bound-before c s can.clean xs (side_item side n) next.after r (instance-free side n i a r item f) (instance-not-here i a r item f)

    instance-bound-now : (i : InterfaceId) (a : Bool) → IsItemOf s side n (kind.Instance i) a → (r : ResourceId) → IsFreeInInterface c a i r → (l : Leaf) × (now_bound r ≡ Some l)
    instance-bound-now i a item r f = let (l, now, end) = instance-bound i a item r f in (l, now)

    instance-same : (i : InterfaceId) (a : Bool) → IsItemOf s side n (kind.Instance i) a → (r : ResourceId) → IsFreeInInterface c a i r → now_bound r ≡ side_bindings c s side r
    instance-same i a item r f = let (l, now, end) = instance-bound i a item r f in now ∙ sym end

    both-there : (side : Side) (n : Name) (k : ItemKind) → IsItemOf s side n k false → Contains (s.imports ++ s.exports) (n, k)
    both-there imported n k item = in_left s.imports s.exports (n, k) item
    both-there exported n k item = in_right s.imports s.exports (n, k) item

    instance-clean : (side : Side) (n : Name) (i : InterfaceId) (a : Bool) → IsItemOf s side n (kind.Instance i) a → IsInterfaceClean c a i
    instance-clean side n i false item = λ f h. can.clean f (of_items f (inr (kind.Instance i, (n, both-there side n (kind.Instance i) item), h)))
    instance-clean imported n i true item = λ f h. can.clean f (of_additional n i f item h)
    instance-clean exported n i true item = absurd item

    -- The instance can be written.
    pub instance-ready : (i : InterfaceId) (a : Bool) → IsItemOf s side n (kind.Instance i) a → IsInterfaceReady c b st a i
    instance-ready i a item = record {
      bindings = now_bound ∷ [];
      good = next.written.good;
      tree = interface_tree c a now_bound i;
      held = interface-free c a now_bound i (instance-bound-now i a item);
      clean = instance-clean side n i a item;
    }

    instance-tree : (side : Side) (n : Name) (i : InterfaceId) (a : Bool) → IsItemOf s side n (kind.Instance i) a → instance_item (interface_tree c a (side_bindings c s side) i) ≡ final_tree c s side n (kind.Instance i) a
    instance-tree side n i false item = refl
    instance-tree side n i true item = refl

    -- Its tree is the final one.
    instance-final : (i : InterfaceId) (a : Bool) (t : Tree) → IsItemOf s side n (kind.Instance i) a → IsInterfaceHeld c a now_bound i t → instance_item t ≡ items_under (side_trees c s side) n
    instance-final i a t item held =
        ap instance_item (sym (interface-here c a now_bound i t held) ∙ interface-agree c a now_bound (side_bindings c s side) i (instance-same i a item))
        ∙ instance-tree side n i a item
        ∙ sym (under-name c s can.imports_once can.exports_once side n (kind.Instance i) a item)

    shows : ShowsWhole → (i : InterfaceId) (a : Bool) (it : Interface) (x : Bound) → item_at c.interfaces i.0 ≡ Some it → IsItemOf s side n (kind.Instance i) a → IsInterfaceHeld c a now_bound i x.type → Shows c now_bound it x
    shows whole i false it x at item held = whole c wf now_bound i it x at held
    shows whole i true it x at item held = shows-types c now_bound i it x at (instance-bound-now i true item) held

    -- what an instance binds

    -- The test says which own resources are bound at the item.
    abbrev pub IsOwnTest : Interface → (ResourceId → Bool) → Type 0
    IsOwnTest it test = (r : ResourceId) (q : Name) → own_name c it.uses it.exports r ≡ Some q → test r ≡ here r

    may-bind : (it : Interface) (test : ResourceId → Bool) → IsOwnTest it test → MayBind c it test now_bound []
    may-bind it test is = λ r q own named_so. (unbound-yet c s xs (side_item side n) r next.new (sym (is r q named_so) ∙ own), refl)

    no-place : (mid : State) → Good c (now_bound ∷ []) (stack b mid) → (r : ResourceId) → now_bound r ≡ None → (o : Option Where) → (opened b mid.here).binds r ≡ o → o ≡ None
    no-place mid good r none None at = refl
    no-place mid good r none (Some w) at = let (l, bound_now, stands) = good.0.binds r w at in absurd (no-leaf l (sym none ∙ bound_now))
      where
        no-leaf : (l : Leaf) → None ≡ Some l → ⊥
        no-leaf l h = cc

    -- What the instance binds is not recorded where it is listed.
    pub instance-unrecorded : (i : InterfaceId) (a : Bool) (test : ResourceId → Bool) (mid : State) (k : ℕ) → ListsInterface c b side n a i st mid k → ((r : ResourceId) → test r ≡ true → here r ≡ true) → (r : ResourceId) → test r ≡ true → (opened b mid.here).binds r ≡ None
    instance-unrecorded i a test mid k lists is r own =
        let (t, held, adds, index) = lists now_bound next.written.around next.written.good (free-name c b s xs side n st next) in
        no-place mid adds.good r (unbound-yet c s xs (side_item side n) r next.new (is r own)) ((opened b mid.here).binds r) refl

    instance-binds : (i : InterfaceId) (a : Bool) (it : Interface) (t : Tree) (test : ResourceId → Bool) → item_at c.interfaces i.0 ≡ Some it → IsItemOf s side n (kind.Instance i) a → IsOwnTest it test
        → with_own_names c it.uses it.exports test (taken_leaf (record { type = t; side = side; path = named n ∷ [] })) now_bound ≡ bound_so_far c s (xs ++ side_item side n ∷ [])
    instance-binds i a it t test at item is = bound-next c s xs (side_item side n) (with_own_names c it.uses it.exports test (taken_leaf (record { type = t; side = side; path = named n ∷ [] })) now_bound) bound-here bound-there
      where
        bound-here : (r : ResourceId) → here r ≡ true → (if test r then option_case (own_name c it.uses it.exports r) (now_bound r) (λ q. Some (taken_leaf (record { type = t; side = side; path = named n ∷ [] }) q)) else now_bound r) ≡ bound r
        bound-here r h =
            let (other, there, q, own, leaf) = instance-made i a r item h in
            let owned : own_name c it.uses it.exports r ≡ Some q = subst (λ (x : Interface). own_name c x.uses x.exports r ≡ Some q) (one-some other it (sym there ∙ at)) own in
            ap (λ z. if z then option_case (own_name c it.uses it.exports r) (now_bound r) (λ q. Some (taken_leaf (record { type = t; side = side; path = named n ∷ [] }) q)) else now_bound r) (is r q owned ∙ h)
            ∙ ap (λ (o : Option Name). option_case o (now_bound r) (λ q. Some (taken_leaf (record { type = t; side = side; path = named n ∷ [] }) q))) owned
            ∙ leaf

        by : (r : ResourceId) (o : Option Name) (z : Bool) → ((q : Name) → o ≡ Some q → z ≡ false) → (if z then option_case o (now_bound r) (λ q. Some (taken_leaf (record { type = t; side = side; path = named n ∷ [] }) q)) else now_bound r) ≡ now_bound r
        by r None true other = refl
        by r None false other = refl
        by r (Some q) true other = true-false true refl (other q refl)
        by r (Some q) false other = refl

        bound-there : (r : ResourceId) → here r ≡ false → (if test r then option_case (own_name c it.uses it.exports r) (now_bound r) (λ q. Some (taken_leaf (record { type = t; side = side; path = named n ∷ [] }) q)) else now_bound r) ≡ now_bound r
        bound-there r h = by r (own_name c it.uses it.exports r) (test r) (λ q own. is r q own ∙ h)

    -- The instance is listed and told.
    pub instance-written : ShowsWhole → (i : InterfaceId) (a : Bool) (it : Interface) (test : ResourceId → Bool) (mid new : State) (k : ℕ) → item_at c.interfaces i.0 ≡ Some it → IsItemOf s side n (kind.Instance i) a
        → ListsInterface c b side n a i st mid k → IsOwnTest it test → TellsInstance c b it test k mid new → AllAddTypes mid new → IsWritten c b s (xs ++ side_item side n ∷ []) new
    instance-written whole i a it test mid new k at item lists is tells types =
        let (t, held, adds, index) = lists now_bound next.written.around next.written.good (free-name c b s xs side n st next) in
        let x : Bound = record { type = t; side = side; path = named n ∷ [] } in
        let on = tells now_bound [] x adds.good index (shows whole i a it x at item held) (may-bind it test is) in
        let m = with_own_names c it.uses it.exports test (taken_leaf x) now_bound in
        let told : AddsToSide c b side n m (instance_item t) st new = record {
          around = bottom-alone c b m new on.0;
          content = component-more mid.here.content new.here.content types.0 adds.content;
          good = on.0;
          this = side-kept side (innermost (stack b mid)) (innermost (stack b new)) on.1.0 ∙ adds.this;
          that = side-kept (other side) (innermost (stack b mid)) (innermost (stack b new)) on.1.0 ∙ adds.that;
        } in
        written-next c b s xs side n m (instance_item t) st new next.written told (instance-binds i a it t test at item is) (instance-final i a t item held)
