-- Instances that are listed, fresh resources, and items that bind nothing.
use Rattle.std.proofs.Common.{ℕ, zero, suc, eq-eqb, ◌≡◌, ◌&&◌, ◌||◌, not, Bool, true, false, if◌then◌else◌, List, [], ◌∷◌, ◌++◌, Option, Some, None, Contains, refl, ap, sym, ◌∙◌, subst, inl, inr, slice_get}
use Rattle.std.specs.Prelude.{◌==◌, is_none, is_some, length}
use Rattle.std.proofs.Math.Path.{fun_ext}
use Rattle.std.specs.List.{AllZip, AllByRecursion, list_any}
use Rattle.std.proofs.lemmas.Bool.{eqb-true}
use Rattle.wac_types_shapes.specs.primitives.Name.{Name, same_name, find_name, option_case}
use Rattle.wac_types_shapes.proofs.lemmas.shapes.Names.{same_name-refl}
use Rattle.wac_types_shapes.specs.declared.shapes.component.UsedType.{UsedType}
use Rattle.wac_types_shapes.specs.primitives.Tree.{Side, imported, exported, Place, named, Leaf, Tree, absent, fresh, type_equal, function_item, instance_item, component_item, module_item, value_item, moved}
use Rattle.wac_types_shapes.specs.shapes.Kinds.{kind_type}
use Rattle.wac_types_shapes.specs.declared.shapes.component.ResourceId.{ResourceId}
use Rattle.wac_types_shapes.specs.declared.shapes.component.InterfaceId.{InterfaceId}
use Rattle.wac_types_shapes.specs.declared.shapes.component.Interface.{Interface}
use Rattle.wac_types_shapes.specs.declared.shapes.component.ItemKind.{ItemKind}
use Rattle.wac_types_shapes.specs.declared.shapes.component.ItemKind.TheVariants as kind
use Rattle.wac_types_shapes.specs.declared.shapes.component.«Type».{«Type» as AnyType}
use Rattle.wac_types_shapes.specs.declared.shapes.component.«Type».TheVariants as ty
use Rattle.wac_types_collection.specs.collection.Collection.{Collection, IsWellFormed, item_at, holds_type}
use Rattle.wac_types_collection.specs.collection.Held.{resolved, resolved_in, source_of, items_under, item_tree}
use Rattle.wac_types_collection.specs.collection.Bound.{Bindings, lists_own, is_alias, own_name, same_side, same_path, is_here, binds_here, held_tree, held_item, bound_by}
use Rattle.wac_types_collection.proofs.lemmas.wide.Members.{in_none, in_left, in_right}
use Rattle.wac_binary.specs.HasMeaning.{IsFree as IsFreeName}
use Rattle.wac_binary.specs.Unfold.{Scope, Bound, with_item}
use Rattle.wac_encode_stacks.specs.Scopes.{Open, Stack, env, envs}
use Rattle.wac_encode_stacks.specs.Good.{At, Good, Grown, Kept, Keeps, IsHeld, Onward, innermost, top}
use Rattle.wac_encode_stacks.specs.Listed.{IsItem, on_side, other}
use Rattle.wac_encode_stacks.specs.Instances.{Shows, ShowsWhole, taken_leaf}
use Rattle.wac_encode_stacks.proofs.Moved.{held-here}
use Rattle.wac_encode_stacks.proofs.Unfolded.{item_same}
use Rattle.wac_encode_scopes.specs.declared.encodable.Encodable.{Encodable}
use Rattle.wac_encode_scopes.specs.declared.encodable.Encodable.TheVariants.{Builder, Instance, Component}
use Rattle.wac_encode_scopes.specs.declared.scope.Scope.{Scope as OpenScope}
use Rattle.wac_encode_scopes.specs.declared.state.State.{State}
use Rattle.wac_encode_scopes.specs.Books.{opened}
use Rattle.wac_encode_scopes.specs.private.Components.{IsComponentType}
use Rattle.wac_encode_scopes.specs.Contents.{AddsTypes, and_item}
use Rattle.wac_encode_scopes.specs.States.{outward, stack, AllAddTypes, Goes}
use Rattle.wac_encode_scopes.specs.States.{KeepsRecords}
use Rattle.wac_encode_scopes.specs.private.Listing.{ListsItem, ListsResource}
use Rattle.wac_binary.specs.declared.sorts.Description.{Description}
use Rattle.wac_binary.specs.declared.sorts.Description.TheVariants as e
use Rattle.wac_encode_stacks.specs.Listed.{calling, listed_leaf}
use Rattle.wac_encode_interfaces.specs.private.Ready.{IsInterfaceAt}
use Rattle.wac_encode_values.specs.private.Values.{IsReady}
use Rattle.wac_encode_faults.specs.declared.fault.WriteFault.{WriteFault}
use Rattle.wac_encode_faults.specs.Faults.{listed_fault, unbound, of_items}
use Rattle.wac_encode_faults.specs.declared.fault.WriteFault.TheVariants as fault
use Rattle.wac_encode_faults.specs.Sides.{Sides, all_imports, export_bindings, side_bindings}
use Rattle.wac_encode_faults.specs.Free.{SideItem, IsFree, IsFreeInTypes, IsFreeInItem}
use Rattle.wac_encode_faults.specs.Free as free
use Rattle.wac_encode_faults.specs.Cycle.{ItemDependsOn}
use Rattle.wac_encode_interfaces.specs.private.Items.{IsItemReady, HasInterfaceOf, AddsItem, AddsBeside, AddsTree}
use Rattle.wac_encode_interfaces.specs.private.Ready.{IsClean, IsInterfaceClean, IsInterfaceReady, AreSidesClean}
use Rattle.wac_encode_faults.specs.Trees.{types_tree, additional_tree, side_trees}
use Rattle.wac_encode_interfaces.specs.private.Trees.{interface_tree, IsInterfaceHeld}
use Rattle.wac_encode_interfaces.specs.private.Worlds.{Worlds, HaveWorlds, HaveInterfaceWorlds}
use Rattle.wac_encode_interfaces.specs.private.Written.{side_item, is_bound_at, begins_with, bound_so_far, listed_so_far, IsWritten, IsNext, IsItemOf, AreWritable, AddsToSide}
use Rattle.wac_encode_interfaces.specs.private.Parts.{ListsInterface, interface_of, resource_of}
use Rattle.wac_encode_interfaces.proofs.Adding.{side-kept}
use Rattle.wac_encode_scopes.proofs.FreeAgreeing.{HasFree, held-agree, held-free}
use Rattle.wac_encode_interfaces.proofs.Agreeing.{IsFreeInInterface, interface-agree, interface-free, interface-here, shows-types}
use Rattle.wac_encode_interfaces.proofs.Bound.{true-false, no-some, one-some, both-true, true-both, bound-at, bound-before, bound-next, unbound-yet, side-final, type-leaf}
use Rattle.wac_encode_interfaces.proofs.SideTrees.{final_tree, under-name, written-next, not-listed}
use Rattle.wac_encode_interfaces.proofs.Items.{bottom-alone, component-more, component-item, goes-written, free-name, some-at, bool-of, item-free}

-- an instance is listed after its type

same-items : (s t : State) → s.around ≡ t.around → s.around.items ≡ t.around.items
same-items s t h = cc

pub lists-interface : (c : Collection) (b : Bool) (side : Side) (n : Name) (a : Bool) (i : InterfaceId) (old mid new : State) (p k : ℕ) → IsComponentType old.here.content
    → Goes c b old mid → IsInterfaceAt c b mid a i p → ListsItem side n (e.Instance p) mid new k → KeepsRecords mid new → new.here.content ≡ and_item side n (e.Instance p) mid.here.content → ListsInterface c b side n a i old new k
lists-interface c b side n a i old mid new p k is goes at lists keeps content m alone good name =
    let on = goes.onward (m ∷ []) good in
    let (t, held, sort, there) = at (m ∷ []) on.0 in
    let free = subst (λ (items : Name → Tree). IsFreeName (items n)) (sym (side-kept side (innermost (stack b old)) (innermost (stack b mid)) on.1.0)) name in
    let step = lists c b m [] (instance_item t) on.0 free (sort, there) in
    let around = same-items new mid keeps.0 in
    let after : Good c (m ∷ []) (stack b new) = subst (λ (ss : List OpenScope). Good c (m ∷ []) (opened b new.here ∷ outward b ss)) (sym around) step.0.good in
    let this : on_side side (innermost (stack b new)) ≡ with_item (on_side side (innermost (stack b mid))) n (instance_item t) = subst (λ (ss : List OpenScope). on_side side (env (opened b new.here) (envs (outward b ss))) ≡ with_item (on_side side (innermost (stack b mid))) n (instance_item t)) (sym around) step.0.this in
    let that : on_side (other side) (innermost (stack b new)) ≡ on_side (other side) (innermost (stack b mid)) = subst (λ (ss : List OpenScope). on_side (other side) (env (opened b new.here) (envs (outward b ss))) ≡ on_side (other side) (innermost (stack b mid))) (sym around) step.0.that in
    let now_component = subst IsComponentType (sym content) (component-item side n (e.Instance p) mid.here.content (component-more old.here.content mid.here.content goes.types.0 is)) in
    let added : AddsToSide c b side n m (instance_item t) old new = record {
      around = bottom-alone c b m new after;
      content = now_component;
      good = after;
      this = this ∙ ap (λ (items : Name → Tree). with_item items n (instance_item t)) (side-kept side (innermost (stack b old)) (innermost (stack b mid)) on.1.0);
      that = that ∙ side-kept (other side) (innermost (stack b old)) (innermost (stack b mid)) on.1.0;
    } in
    (t, held, added, step.1)

-- a fresh resource

here-self : (side : Side) (n : Name) → is_here side (named n ∷ []) (Some (record { out = 0; side = side; path = named n ∷ [] })) ≡ true
here-self imported n = ap (λ b. if b then true else false) (same_name-refl n)
here-self exported n = ap (λ b. if b then true else false) (same_name-refl n)

-- What is bound here at the item is bound at it.
here-bound : (side : Side) (n : Name) (o : Option Leaf) → is_here side (named n ∷ []) o ≡ true → is_bound_at o (side_item side n) ≡ true
here-bound side n None h = h
here-bound side n (Some l) h =
    let (out, rest) = both-true (l.out == 0) (same_side l.side side && same_path l.path (named n ∷ [])) h in
    let (sides, path) = both-true (same_side l.side side) (same_path l.path (named n ∷ [])) rest in
    true-both (same_side l.side side) (begins_with n l.path) sides (begins l.path path)
  where
    first : (z : Bool) (more : Bool) → (if z then more else false) ≡ true → z ≡ true
    first true more h = refl
    first false more h = h

    begins : (p : List Place) → same_path p (named n ∷ []) ≡ true → begins_with n p ≡ true
    begins [] h = h
    begins (named k ∷ rest) h = first (same_name k n) (same_path rest []) h
    begins (p ∷ rest) h = h

same-id : (q r : ResourceId) → (q.0 == r.0) ≡ true → q ≡ r
same-id q r h = ap (λ k. record { 0 = k }) (eqb-true q.0 r.0 h)

own-self : (c : Collection) (uses : List (Name × UsedType)) (n : Name) (r q : ResourceId) → lists_own c uses r (n, kind.TypeItem (ty.Resource q)) ≡ true → q ≡ r
own-self c uses n r q h = let (same, rest) = both-true (q.0 == r.0) (not (is_alias c q) && is_none (find_name uses n)) h in same-id q r same

-- An own resource is no alias, and so its own end.
own-end : (c : Collection) (uses : List (Name × UsedType)) (n : Name) (r q : ResourceId) → lists_own c uses r (n, kind.TypeItem (ty.Resource q)) ≡ true → is_alias c q ≡ false
own-end c uses n r q h =
    let (same, rest) = both-true (q.0 == r.0) (not (is_alias c q) && is_none (find_name uses n)) h in
    let (other, unused) = both-true (not (is_alias c q)) (is_none (find_name uses n)) rest in
    not-true (is_alias c q) other
  where
    not-true : (b : Bool) → not b ≡ true → b ≡ false
    not-true true h = sym h
    not-true false h = refl

resolved-self : (c : Collection) (k : ℕ) (r : ResourceId) → is_alias c r ≡ false → resolved_in k c r ≡ r
resolved-self c zero r h = refl
resolved-self c (suc k) r h = by (source_of (slice_get c.resources r.0)) h
  where
    by : (o : Option ResourceId) → is_some o ≡ false → option_case o r (λ source. resolved_in k c source) ≡ r
    by None h = refl
    by (Some x) h = true-false true refl h

id-itself : (n : ℕ) → (n == n) ≡ true
id-itself n = eq-eqb n n refl

module _ (c : Collection) (wf : IsWellFormed c) (ws : Worlds) (s : Sides) (can : AreWritable c ws s) (side : Side) (n : Name) (b : Bool) (xs : List SideItem) (st : State) (next : IsNext c b s xs (side_item side n) st) where
  abbrev far : Bindings
  far = bound_so_far c s xs

  abbrev end : ResourceId → Option Leaf
  end r = export_bindings c s r

  abbrev is_made : ResourceId → Bool
  is_made r = is_bound_at (end r) (side_item side n)

  -- The type item binds a resource: it is the item's own.
  type-made : (t : AnyType) (r : ResourceId) → IsItemOf s side n (kind.TypeItem t) false → is_made r ≡ true → (lists_own c s.uses r (n, kind.TypeItem t) ≡ true) × (Some (listed_leaf side n) ≡ end r)
  type-made t r item h =
      let (l, is) = some-at (end r) (side_item side n) h in
      let made = bound-at c s can.imports_once can.exports_once side n (kind.TypeItem t) false r item h in
      let (own, leaf) = type-leaf c s.uses side n t r l (made ∙ is) in
      (own, leaf ∙ sym is)

  -- Both bindings of a free resource of the item, if there is one at the end.
  side-there : (x : SideItem) (r : ResourceId) → IsFreeInItem c s x r → (l : Leaf) × (side_bindings c s x.side r ≡ Some l)
  side-there x r f = by (side_bindings c s x.side r) refl
    where
      by : (o : Option Leaf) → side_bindings c s x.side r ≡ o → (l : Leaf) × (o ≡ Some l)
      by None is = absurd (can.clean fault.UnboundResource (unbound (x, r, f, is)))
      by (Some l) is = (l, refl)

  -- The fresh resource is added.
  pub fresh-written : (r : ResourceId) (new : State) (k : ℕ) → IsItemOf s side n (kind.TypeItem (ty.Resource r)) false → is_made (resolved c r) ≡ true
      → ListsResource b side n r st new k → new.here.content ≡ and_item side n e.Fresh st.here.content → IsWritten c b s (xs ++ side_item side n ∷ []) new
  fresh-written r new k item made lists content =
      let (own, leaf) = type-made (ty.Resource r) (resolved c r) item made in
      let self : r ≡ resolved c r = own-self c s.uses n (resolved c r) r own in
      let not_yet : far r ≡ None = ap far self ∙ unbound-yet c s xs (side_item side n) (resolved c r) next.new made in
      let step = lists.unbound c far [] next.written.good (free-name c b s xs side n st next) not_yet in
      let m = calling r (listed_leaf side n) far in
      let around = same-items new st lists.around in
      let after : Good c (m ∷ []) (stack b new) = subst (λ (ss : List OpenScope). Good c (m ∷ []) (opened b new.here ∷ outward b ss)) (sym around) step.good in
      let this : on_side side (innermost (stack b new)) ≡ with_item (on_side side (innermost (stack b st))) n fresh = subst (λ (ss : List OpenScope). on_side side (env (opened b new.here) (envs (outward b ss))) ≡ with_item (on_side side (innermost (stack b st))) n fresh) (sym around) step.this in
      let that : on_side (other side) (innermost (stack b new)) ≡ on_side (other side) (innermost (stack b st)) = subst (λ (ss : List OpenScope). on_side (other side) (env (opened b new.here) (envs (outward b ss))) ≡ on_side (other side) (innermost (stack b st))) (sym around) step.that in
      let adds : AddsToSide c b side n m fresh st new = record {
        around = bottom-alone c b m new after;
        content = subst IsComponentType (sym content) (component-item side n e.Fresh st.here.content next.written.content);
        good = after;
        this = this;
        that = that;
      } in
      written-next c b s xs side n m fresh st new next.written adds (bound-next c s xs (side_item side n) m (bound-here self leaf) (bound-there self)) (tree self leaf)
    where
      one-there : (q : ResourceId) → is_made q ≡ true → (q.0 == r.0) ≡ true
      one-there q h =
          let (own, leaf) = type-made (ty.Resource r) q item h in
          ap (λ (z : ResourceId). q.0 == z.0) (own-self c s.uses n q r own) ∙ id-itself q.0

      bound-here : r ≡ resolved c r → Some (listed_leaf side n) ≡ end (resolved c r) → (q : ResourceId) → is_made q ≡ true → (if q.0 == r.0 then Some (listed_leaf side n) else far q) ≡ end q
      bound-here self leaf q h =
          let (own, there) = type-made (ty.Resource r) q item h in
          ap (λ z. if z then Some (listed_leaf side n) else far q) (one-there q h) ∙ there

      bound-there : r ≡ resolved c r → (q : ResourceId) → is_made q ≡ false → (if q.0 == r.0 then Some (listed_leaf side n) else far q) ≡ far q
      bound-there self q h = ap (λ z. if z then Some (listed_leaf side n) else far q) (bool-of (q.0 == r.0) (λ same. true-false (is_made q) (ap is_made (same-id q r same ∙ self) ∙ made) h))

      tree : r ≡ resolved c r → Some (listed_leaf side n) ≡ end (resolved c r) → fresh ≡ items_under (side_trees c s side) n
      tree self leaf =
          let (l, is) = side-there (side_item side n) (resolved c r) (item-free c wf ws s can side n side n (kind.TypeItem (ty.Resource r)) (resolved c r) item (free.itself r)) in
          let final = leaf ∙ side-final c s side (resolved c r) l is in
          let same : side_bindings c s side (resolved c r) ≡ Some (listed_leaf side n) = is ∙ sym final in
          sym (ap (λ z. if z then fresh else type_equal (held_tree c (side_bindings c s side) (ty.Resource r))) (ap (is_here side (named n ∷ [])) same ∙ here-self side n))
          ∙ sym (under-name c s can.imports_once can.exports_once side n (kind.TypeItem (ty.Resource r)) false item)

  -- an item that binds nothing

  pub other-bound : (k : ItemKind) → IsItemOf s side n k false → ((r : ResourceId) → is_made r ≡ false) → (r : ResourceId) → IsFree c (kind_type k) r → (l : Leaf) × (far r ≡ Some l) × (side_bindings c s side r ≡ Some l)
  other-bound k item nothing r f = bound-before c s can.clean xs (side_item side n) next.after r (item-free c wf ws s can side n side n k r item f) (nothing r)

  pub other-ready : (k : ItemKind) (st' : State) → Good c (far ∷ []) (stack b st') → IsItemOf s side n k false → ((r : ResourceId) → is_made r ≡ false) → HasInterfaceOf b st' k → IsItemReady c b ws st' k
  other-ready k st' good item nothing has = record {
    held = can.held side n k false item;
    ready = (far ∷ [], good, (held_tree c far (kind_type k), held-free c far (kind_type k) (λ r f. let (l, now, there) = other-bound k item nothing r f in (l, now))));
    writable = no-fault side n k item;
    worlds = can.worlds side n k item;
    interface = has;
  }
    where
      none-of : (o : Option WriteFault) → ((f : WriteFault) → o ≡ Some f → ⊥) → o ≡ None
      none-of None h = refl
      none-of (Some f) h = absurd (h f refl)

      no-fault : (side : Side) (n : Name) (k : ItemKind) → IsItemOf s side n k false → listed_fault k ≡ None
      no-fault imported n k item = none-of (listed_fault k) (λ f is. can.clean f (of_items f (inl (k, (n, in_left s.imports s.exports (n, k) item), is))))
      no-fault exported n k item = none-of (listed_fault k) (λ f is. can.clean f (of_items f (inl (k, (n, in_right s.imports s.exports (n, k) item), is))))

  -- What is not bound at the item is not bound here by it.
  not-here : (m : Bindings) (k : ItemKind) → ((r : ResourceId) → is_made r ≡ false) → ((r : ResourceId) (l : Leaf) → m r ≡ Some l → end r ≡ Some l) → binds_here c m side (named n ∷ []) k ≡ false
  not-here m (kind.TypeItem (ty.Resource r)) nothing extends = bool-of (is_here side (named n ∷ []) (m (resolved c r))) (λ h. by (m (resolved c r)) refl h)
    where
      by : (o : Option Leaf) → m (resolved c r) ≡ o → is_here side (named n ∷ []) o ≡ true → ⊥
      by None is h = true-false false h refl
      by (Some l) is h = true-false (is_made (resolved c r)) (ap (λ (o : Option Leaf). is_bound_at o (side_item side n)) (extends (resolved c r) l is) ∙ here-bound side n (Some l) h) (nothing (resolved c r))
  not-here m (kind.TypeItem (ty.Func f)) nothing extends = refl
  not-here m (kind.TypeItem (ty.Value f)) nothing extends = refl
  not-here m (kind.TypeItem (ty.Interface f)) nothing extends = refl
  not-here m (kind.TypeItem (ty.World f)) nothing extends = refl
  not-here m (kind.TypeItem (ty.Module f)) nothing extends = refl
  not-here m (kind.Func f) nothing extends = refl
  not-here m (kind.Instance f) nothing extends = refl
  not-here m (kind.Component f) nothing extends = refl
  not-here m (kind.Module f) nothing extends = refl
  not-here m (kind.Value f) nothing extends = refl

  far-end : (r : ResourceId) (l : Leaf) → far r ≡ Some l → end r ≡ Some l
  far-end r l h = by (list_any (is_bound_at (end r)) xs) h
    where
      by : (z : Bool) → (if z then end r else None) ≡ Some l → end r ≡ Some l
      by true h = h
      by false h = absurd (no-some l h)

  item-here : (m : Bindings) (k : ItemKind) (t : Tree) → binds_here c m side (named n ∷ []) k ≡ false → IsItem c m side n k t → item_tree (held_tree c m) false k ≡ t
  item-here m (kind.TypeItem a) fresh not_here h = true-false (binds_here c m side (named n ∷ []) (kind.TypeItem a)) h not_here
  item-here m (kind.TypeItem a) (type_equal t) not_here h = ap type_equal (held-here c m a t h.1)
  item-here m (kind.Func g) (function_item t) not_here h = ap function_item (held-here c m (ty.Func g) t h)
  item-here m (kind.Instance i) (instance_item t) not_here h = ap instance_item (held-here c m (ty.Interface i) t h)
  item-here m (kind.Component w) (component_item t) not_here h = ap component_item (held-here c m (ty.World w) t h)
  item-here m (kind.Module k) (module_item t) not_here h = ap module_item (held-here c m (ty.Module k) t h)
  item-here m (kind.Value v) (value_item t) not_here h = ap value_item (held-here c m (ty.Value v) t h)
  item-here m k t not_here h = absurd h

  -- The item is added after its type.
  pub other-written : (k : ItemKind) (mid new : State) (p : ℕ) → IsItemOf s side n k false → ((r : ResourceId) → is_made r ≡ false) → Good c (far ∷ []) (stack b mid)
      → IsWritten c b s xs mid → AddsItem c b side n k mid new p → AddsBeside b side n mid new → IsWritten c b s (xs ++ side_item side n ∷ []) new
  other-written k mid new p item nothing good was adds beside =
      let here_not = not-here far k nothing far-end in
      let there_not = not-here (side_bindings c s side) k nothing (side-final c s side) in
      let name = subst IsFreeName (sym (was.listed side n ∙ not-listed c s xs side n next.new)) tt in
      let (t, is, tree) = adds far [] good name here_not in
      let same : (r : ResourceId) → IsFree c (kind_type k) r → far r ≡ side_bindings c s side r = (λ r f. let (l, now, there) = other-bound k item nothing r f in now ∙ sym there) in
      let added : AddsToSide c b side n far t mid new = record {
        around = bottom-alone c b far new tree.good;
        content = subst IsComponentType (sym beside.content) (component-item side n beside.description beside.between (component-more mid.here.content beside.between beside.types was.content));
        good = tree.good;
        this = tree.this;
        that = tree.that;
      } in
      let final : t ≡ items_under (side_trees c s side) n = sym (item-here far k t here_not is)
      ∙ item_same (held_tree c far) (held_tree c (side_bindings c s side)) false k (held-agree c far (side_bindings c s side) (kind_type k) same)
      ∙ ap (λ z. item_tree (held_tree c (side_bindings c s side)) z k) (sym there_not)
      ∙ sym (under-name c s can.imports_once can.exports_once side n k false item) in
      written-next c b s xs side n far t mid new was added (bound-next c s xs (side_item side n) far (λ r h. true-false (is_made r) h (nothing r)) (λ r h. refl)) final

-- kinds of items

pub instance-is : (k : ItemKind) (i : InterfaceId) → interface_of k ≡ Some i → k ≡ kind.Instance i
instance-is (kind.Instance j) i h = ap (λ (z : InterfaceId). kind.Instance z) (one-some j i h)
instance-is (kind.TypeItem t) i h = absurd (no-some i h)
instance-is (kind.Func t) i h = absurd (no-some i h)
instance-is (kind.Component t) i h = absurd (no-some i h)
instance-is (kind.Module t) i h = absurd (no-some i h)
instance-is (kind.Value t) i h = absurd (no-some i h)

pub resource-is : (k : ItemKind) (r : ResourceId) → resource_of k ≡ Some r → k ≡ kind.TypeItem (ty.Resource r)
resource-is (kind.TypeItem (ty.Resource q)) r h = ap (λ (z : ResourceId). kind.TypeItem (ty.Resource z)) (one-some q r h)
resource-is (kind.TypeItem (ty.Value q)) r h = absurd (no-some r h)
resource-is (kind.TypeItem (ty.Func q)) r h = absurd (no-some r h)
resource-is (kind.TypeItem (ty.Interface q)) r h = absurd (no-some r h)
resource-is (kind.TypeItem (ty.World q)) r h = absurd (no-some r h)
resource-is (kind.TypeItem (ty.Module q)) r h = absurd (no-some r h)
resource-is (kind.Instance t) r h = absurd (no-some r h)
resource-is (kind.Func t) r h = absurd (no-some r h)
resource-is (kind.Component t) r h = absurd (no-some r h)
resource-is (kind.Module t) r h = absurd (no-some r h)
resource-is (kind.Value t) r h = absurd (no-some r h)

some-none : {A : Type 0} (x : A) → Some x ≡ None → ⊥
some-none x h = no-some x (sym h)

module _ (c : Collection) (ws : Worlds) (s : Sides) (can : AreWritable c ws s) (side : Side) (n : Name) where
  -- What is no instance is no additional import.
  pub plain-item : (k : ItemKind) (a : Bool) → interface_of k ≡ None → IsItemOf s side n k a → IsItemOf s side n k false
  plain-item k false none item = item
  plain-item k true none item = by side item
    where
      by : (x : Side) → IsItemOf s x n k true → IsItemOf s x n k false
      by imported there = let (i, is) = can.instances n k there in absurd (some-none i (sym (ap interface_of is) ∙ none))
      by exported there = absurd there

  -- An item that is neither an instance nor a resource binds nothing.
  nothing-made : (k : ItemKind) (r : ResourceId) (l : Leaf) → interface_of k ≡ None → resource_of k ≡ None → bound_by c s.uses side (n, k) r ≡ Some l → ⊥
  nothing-made (kind.Instance i) r l no_instance no_resource h = some-none i no_instance
  nothing-made (kind.TypeItem (ty.Resource q)) r l no_instance no_resource h = some-none q no_resource
  nothing-made (kind.TypeItem (ty.Value q)) r l no_instance no_resource h = no-some l h
  nothing-made (kind.TypeItem (ty.Func q)) r l no_instance no_resource h = no-some l h
  nothing-made (kind.TypeItem (ty.Interface q)) r l no_instance no_resource h = no-some l h
  nothing-made (kind.TypeItem (ty.World q)) r l no_instance no_resource h = no-some l h
  nothing-made (kind.TypeItem (ty.Module q)) r l no_instance no_resource h = no-some l h
  nothing-made (kind.Func f) r l no_instance no_resource h = no-some l h
  nothing-made (kind.Component f) r l no_instance no_resource h = no-some l h
  nothing-made (kind.Module f) r l no_instance no_resource h = no-some l h
  nothing-made (kind.Value f) r l no_instance no_resource h = no-some l h

  pub nothing-bound : (k : ItemKind) → interface_of k ≡ None → resource_of k ≡ None → IsItemOf s side n k false → (r : ResourceId) → is_bound_at (export_bindings c s r) (side_item side n) ≡ false
  nothing-bound k no_instance no_resource item r = bool-of (is_bound_at (export_bindings c s r) (side_item side n)) (λ h.
      let (l, is) = some-at (export_bindings c s r) (side_item side n) h in
      nothing-made k r l no_instance no_resource (bound-at c s can.imports_once can.exports_once side n k false r item h ∙ is))

  -- A resource that is not bound at its own type item: the item binds nothing.
  pub aliased-bound : (q : ResourceId) → IsItemOf s side n (kind.TypeItem (ty.Resource q)) false → is_bound_at (export_bindings c s (resolved c q)) (side_item side n) ≡ false → (r : ResourceId) → is_bound_at (export_bindings c s r) (side_item side n) ≡ false
  aliased-bound q item not_own r = bool-of (is_bound_at (export_bindings c s r) (side_item side n)) (λ h.
      let (l, is) = some-at (export_bindings c s r) (side_item side n) h in
      let (own, leaf) = type-leaf c s.uses side n (ty.Resource q) r l (bound-at c s can.imports_once can.exports_once side n (kind.TypeItem (ty.Resource q)) false r item h ∙ is) in
      let same = own-self c s.uses n r q own in
      let end = self-resolved q (own-end c s.uses n r q own) in
      true-false (is_bound_at (export_bindings c s r) (side_item side n)) h (ap (λ (z : ResourceId). is_bound_at (export_bindings c s z) (side_item side n)) (sym (end ∙ same)) ∙ not_own))
    where
      self-resolved : (q : ResourceId) → is_alias c q ≡ false → resolved c q ≡ q
      self-resolved q h = resolved-self c (length c.resources) q h
