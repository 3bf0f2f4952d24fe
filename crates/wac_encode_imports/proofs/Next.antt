-- The three ways to write an import.
use Rattle.std.specs.Prelude.{◌==◌}
use Rattle.std.proofs.Common.{ℕ, zero, suc, eq-eqb, ◌≡◌, Bool, true, false, if◌then◌else◌, List, [], ◌∷◌, ◌++◌, Option, Some, None, slice_get, refl, ap, sym, ◌∙◌, subst}
use Rattle.std.proofs.lemmas.Bool.{eqb-true}
use Rattle.wac_types_shapes.specs.primitives.Name.{Name, option_case}
use Rattle.wac_types_shapes.specs.primitives.Tree.{imported, Place, position, named, Leaf, Tree, fresh, resource, type_equal}
use Rattle.wac_types_shapes.specs.declared.shapes.component.Interface.{Interface}
use Rattle.wac_types_shapes.specs.declared.shapes.component.InterfaceId.{InterfaceId}
use Rattle.wac_types_shapes.specs.declared.shapes.component.ItemKind.{ItemKind}
use Rattle.wac_types_shapes.specs.declared.shapes.component.ItemKind.TheVariants as kind
use Rattle.wac_types_shapes.specs.declared.shapes.component.ResourceId.{ResourceId}
use Rattle.wac_types_shapes.specs.declared.shapes.component.«Type».TheVariants as ty
use Rattle.wac_types_collection.specs.collection.Collection.{Collection, item_at}
use Rattle.wac_types_collection.specs.collection.Held.{resolved}
use Rattle.wac_types_collection.specs.collection.Bound.{Bindings, own_name, binds_here, is_here, same_path, held_tree, held_item}
use Rattle.wac_binary.specs.declared.sorts.Description.TheVariants as e
use Rattle.wac_binary.specs.declared.sorts.Sort.{Sort}
use Rattle.wac_binary.specs.Indexes.{space, described_sort}
use Rattle.wac_binary.specs.Meaning.{meaning}
use Rattle.wac_binary.specs.Unfold.{Bound}
use Rattle.wac_merge_classes.specs.entries.Classes.{Entry}
use Rattle.wac_merge_classes.specs.terms.Merge.{Merged}
use Rattle.wac_encode_stacks.specs.private.Beside.{written_as, all_written_as}
use Rattle.wac_encode_stacks.specs.Good.{At, Good, IsHeld, Onward, innermost}
use Rattle.wac_encode_stacks.specs.Instances.{Shows, ShowsWhole, ListsImport, taken_leaf, import_leaf}
use Rattle.wac_encode_stacks.specs.Listed.{calling}
use Rattle.wac_encode_stacks.specs.Scopes.{Open, Stack, Content, envs}
use Rattle.wac_encode_stacks.proofs.Values.{resource-held}
use Rattle.wac_encode_scopes.specs.declared.encodable.Encodable.{Encodable}
use Rattle.wac_encode_scopes.specs.declared.scope.Scope.{Scope as OpenScope}
use Rattle.wac_encode_scopes.specs.declared.state.State.{State}
use Rattle.wac_encode_scopes.specs.Books.{opened}
use Rattle.wac_encode_scopes.specs.Contents.{content_of, count_of}
use Rattle.wac_encode_scopes.specs.Roots.{ImportsResource, and_import, items_of}
use Rattle.wac_encode_scopes.specs.States.{outward, stack, RecordsHere}
use Rattle.wac_encode_scopes.specs.private.Telling.{MayBind, TellsInstance, with_own_names}
use Rattle.wac_encode_scopes.proofs.Added.{adds-none}
use Rattle.wac_encode_scopes.proofs.Stepped.{same-as, same-stack}
use Rattle.wac_encode_interfaces.specs.private.FreeTrees.{TreesByFree}
use Rattle.wac_encode_interfaces.specs.private.Imports.{ImportsBeside, ImportsOf, ImportsTree, RefersToImport, next_place}
use Rattle.wac_encode_interfaces.specs.private.Worlds.{Worlds}
use Rattle.wac_encode_interfaces.proofs.Adding.{grown-on}
use Rattle.wac_encode_imports.specs.private.Imports.{merged_bindings, import_tree}
use Rattle.wac_encode_imports.specs.private.Classes.{interface_of, resource_of}
use Rattle.wac_encode_imports.specs.private.Written.{is_bound_at, bound_before, AreWritten, AreWritable, Brings}
use Rattle.wac_encode_imports.proofs.Binders.{binder-here, instance-binds, resource-binds}
use Rattle.wac_encode_imports.proofs.Bound.{true-false, no-some, one-some, bound-more, bound-next, bound-still, unbound-yet}
use Rattle.wac_encode_imports.proofs.Ready.{BindsNoFree, final, instance-other, not-bound-here}
use Rattle.wac_encode_imports.proofs.Steps.{place-is}

same-items : (s t : State) → s.around ≡ t.around → s.around.items ≡ t.around.items
same-items s t h = cc

module _ (m : Merged) (ws : Worlds) (can : AreWritable m ws) (p : ℕ) (n : Name) (k : ItemKind) (there : slice_get m.imports p ≡ Some (record { name = n; kind = k })) where
  abbrev entry : Entry
  entry = record { name = n; kind = k }

  abbrev c : Collection
  c = m.types

  abbrev far : Bindings
  far = merged_bindings m

  abbrev now : Bindings
  now = bound_before m p

  module _ (other : BindsNoFree m ws can p entry there) (trees : TreesByFree) (places : List (Sort × ℕ)) (old mid : State) (i : ℕ) (w : AreWritten m p places old) (imports : ImportsOf c true n k old mid i) where
    here : next_place old ≡ position p
    here = place-is m p places old w

    -- What the import of an item gives, with its final tree.
    pub item-tree : ImportsTree c true n k i now old mid
    item-tree = imports now w.good (ap (λ (q : Place). binds_here c now imported (q ∷ []) k) here ∙ not-bound-here m ws can p entry there other)

    pub item-imports : (meaning (items_of mid.here.content)).imports ≡ (meaning (items_of old.here.content)).imports ++ (n, import_tree m p k) ∷ []
    item-imports =
        item-tree.imports
        ∙ ap (λ (t : Tree). (meaning (items_of old.here.content)).imports ++ (n, t) ∷ []) (ap (λ (q : Place). held_item c now imported (q ∷ []) k) here ∙ final m ws can p entry there other trees)

    pub item-refers : RefersToImport c now (innermost (stack true mid)) (position p) k i
    item-refers = subst (λ (q : Place). RefersToImport c now (innermost (stack true mid)) q k i) here item-tree.refers

    -- An item that binds nothing.
    pub other-brings : ((r : ResourceId) → is_bound_at p (far r) ≡ false) → ImportsBeside true n k i old mid → Brings m p entry i old mid
    other-brings none beside =
        let still : now ≡ bound_before m (suc p) = bound-still m p none in
        record {
          beside = beside;
          onward = subst (λ (b : Bindings). Onward c (b ∷ []) (stack true old) (stack true mid)) still item-tree.onward;
          imports = item-imports;
          refers = subst (λ (b : Bindings). RefersToImport c b (innermost (stack true mid)) (position p) k i) still item-refers;
        }

-- records of the root leave what is written

same-written : (f : Open → Open) (mid new : State) → RecordsHere true f mid new → (os : Stack) → all_written_as (stack true mid) os ≡ all_written_as (stack true new) os
same-written f mid new h [] = refl
same-written f mid new h (o ∷ os) =
    ap (λ (x : Encodable). record o { content = content_of x } ∷ all_written_as (outward true mid.around.items) os) (sym h.content)
    ∙ ap (λ (ss : List OpenScope). written_as (opened true new.here) o ∷ all_written_as (outward true ss) os) (sym (same-items new mid h.around))

told-beside : (n : Name) (k : ItemKind) (i : ℕ) (f : Open → Open) (old mid new : State) → ImportsBeside true n k i old mid → RecordsHere true f mid new → ImportsBeside true n k i old new
told-beside n k i f old mid new b h = record {
  other =
      ap (λ (o : Open). o ∷ outward false new.around.items) h.other
      ∙ ap (λ (ss : List OpenScope). opened false mid.here ∷ outward false ss) (same-items new mid h.around)
      ∙ b.other
      ∙ same-written f mid new h (stack false old);
  between = b.between;
  types = b.types;
  description = b.description;
  content = h.content ∙ b.content;
  sorted = b.sorted;
  index = b.index;
}

-- an instance

-- The test says which own resources the import binds.
abbrev pub IsOwnTest : Merged → ℕ → Interface → (ResourceId → Bool) → Type 0
IsOwnTest m p it test = (r : ResourceId) (q : Name) → own_name m.types it.uses it.exports r ≡ Some q → test r ≡ is_bound_at p (merged_bindings m r)

module _ (m : Merged) (ws : Worlds) (can : AreWritable m ws) (p : ℕ) (n : Name) (j : InterfaceId) (there : slice_get m.imports p ≡ Some (record { name = n; kind = kind.Instance j })) (it : Interface) (at : item_at m.types.interfaces j.0 ≡ Some it) (test : ResourceId → Bool) (is : IsOwnTest m p it test) where
  abbrev instance_entry : Entry
  instance_entry = record { name = n; kind = kind.Instance j }

  abbrev before : Bindings
  before = bound_before m p

  abbrev shown : Tree → Bound
  shown t = record { type = t; side = imported; path = position p ∷ [] }

  instance-made : (r : ResourceId) → is_bound_at p (merged_bindings m r) ≡ true → (q : Name) × (own_name m.types it.uses it.exports r ≡ Some q) × (Some (record { out = 0; side = imported; path = position p ∷ named q ∷ [] }) ≡ merged_bindings m r)
  instance-made r h =
      let b = binder-here m can.distinct p instance_entry r there h in
      let w = instance-binds m.types n j r b.0 b.1 in
      let same : w.0 ≡ it = one-some w.0 it (sym w.1 ∙ at) in
      (w.2, subst (λ (x : Interface). own_name m.types x.uses x.exports r ≡ Some w.2) same w.3, sym (b.2 ∙ ap (λ (path : List Place). Some (record { out = 0; side = imported; path = position p ∷ path })) w.4))

  may-bind : MayBind m.types it test before []
  may-bind = λ r q own listed. (unbound-yet m p r (sym (is r q listed) ∙ own), refl)

  -- What the instance binds is what the import binds.
  instance-bound : (t : Tree) → with_own_names m.types it.uses it.exports test (taken_leaf (shown t)) before ≡ bound_before m (suc p)
  instance-bound t = bound-next m p (with_own_names m.types it.uses it.exports test (taken_leaf (shown t)) before) here there_bound
    where
      here : (r : ResourceId) → is_bound_at p (merged_bindings m r) ≡ true → (if test r then option_case (own_name m.types it.uses it.exports r) (before r) (λ q. Some (taken_leaf (shown t) q)) else before r) ≡ merged_bindings m r
      here r h =
          let (q, own, leaf) = instance-made r h in
          ap (λ b. if b then option_case (own_name m.types it.uses it.exports r) (before r) (λ q. Some (taken_leaf (shown t) q)) else before r) (is r q own ∙ h)
          ∙ ap (λ (o : Option Name). option_case o (before r) (λ q. Some (taken_leaf (shown t) q))) own
          ∙ leaf

      by : (r : ResourceId) (o : Option Name) (b : Bool) → ((q : Name) → o ≡ Some q → b ≡ false) → (if b then option_case o (before r) (λ q. Some (taken_leaf (shown t) q)) else before r) ≡ before r
      by r None true none = refl
      by r None false none = refl
      by r (Some q) true none = true-false true refl (none q refl)
      by r (Some q) false none = refl

      there_bound : (r : ResourceId) → is_bound_at p (merged_bindings m r) ≡ false → (if test r then option_case (own_name m.types it.uses it.exports r) (before r) (λ q. Some (taken_leaf (shown t) q)) else before r) ≡ before r
      there_bound r h = by r (own_name m.types it.uses it.exports r) (test r) (λ q own. is r q own ∙ h)

  pub instance-brings : ShowsWhole → TreesByFree → (places : List (Sort × ℕ)) (f : Open → Open) (old mid new : State) (i : ℕ) → AreWritten m p places old → ImportsOf m.types true n (kind.Instance j) old mid i → ImportsBeside true n (kind.Instance j) i old mid
      → TellsInstance m.types true it test i mid new → RecordsHere true f mid new → Brings m p instance_entry i old new
  instance-brings whole trees places f old mid new i w imports beside tells records =
      let other = instance-other m ws can p n j there in
      let tree = item-tree m ws can p n (kind.Instance j) there other trees places old mid i w imports in
      let refers = item-refers m ws can p n (kind.Instance j) there other trees places old mid i w imports in
      let shows : Shows m.types before it (shown refers.0) = whole m.types can.ordered before j it (shown refers.0) at refers.1 in
      let on = tells before [] (shown refers.0) tree.onward.0 refers.2 shows may-bind in
      let bound = instance-bound refers.0 in
      let both : Onward m.types (bound_before m (suc p) ∷ []) (stack true old) (stack true new) = (
        subst (λ (b : Bindings). Good m.types (b ∷ []) (stack true new)) bound on.0,
        grown-on (envs (stack true old)) (envs (stack true mid)) (envs (stack true new)) tree.onward.1 on.1,
      ) in
      record {
        beside = told-beside n (kind.Instance j) i f old mid new beside records;
        onward = both;
        imports = ap (λ (x : Encodable). (meaning (items_of x)).imports) records.content ∙ item-imports m ws can p n (kind.Instance j) there other trees places old mid i w imports;
        refers = (refers.0, more-held refers.0 refers.1, on.1.0.keeps.instances i (shown refers.0) refers.2);
      }
    where
      more-held : (t : Tree) → IsHeld m.types before (ty.Interface j) t → IsHeld m.types (bound_before m (suc p)) (ty.Interface j) t
      more-held t h f n x = h f n (λ r l e. x r l (bound-more m p r l e))

-- a fresh resource

module _ (m : Merged) (ws : Worlds) (can : AreWritable m ws) (p : ℕ) (n : Name) (q : ResourceId) (there : slice_get m.imports p ≡ Some (record { name = n; kind = kind.TypeItem (ty.Resource q) })) (made : is_bound_at p (merged_bindings m (resolved m.types q)) ≡ true) where
  abbrev resource_entry : Entry
  resource_entry = record { name = n; kind = kind.TypeItem (ty.Resource q) }

  abbrev leaf_here : Leaf
  leaf_here = record { out = 0; side = imported; path = position p ∷ [] }

  bound-so : (r : ResourceId) → is_bound_at p (merged_bindings m r) ≡ true → (q ≡ r) × (merged_bindings m r ≡ Some leaf_here)
  bound-so r h =
      let b = binder-here m can.distinct p resource_entry r there h in
      let w = resource-binds m.types n q r b.0 b.1 in
      (w.0, b.2 ∙ ap (λ (path : List Place). Some (record { out = 0; side = imported; path = position p ∷ path })) w.2)

  ends : q ≡ resolved m.types q
  ends = (bound-so (resolved m.types q) made).0

  fresh-bound : calling (resolved m.types q) leaf_here (bound_before m p) ≡ bound_before m (suc p)
  fresh-bound = bound-next m p (calling (resolved m.types q) leaf_here (bound_before m p)) here there_bound
    where
      here : (r : ResourceId) → is_bound_at p (merged_bindings m r) ≡ true → (if r.0 == (resolved m.types q).0 then Some leaf_here else bound_before m p r) ≡ merged_bindings m r
      here r h =
          let (one, leaf) = bound-so r h in
          ap (λ b. if b then Some leaf_here else bound_before m p r) (eq-eqb r.0 (resolved m.types q).0 (ap (λ (x : ResourceId). x.0) (sym one ∙ ends))) ∙ sym leaf

      by : (r : ResourceId) (b : Bool) → (r.0 == (resolved m.types q).0) ≡ b → is_bound_at p (merged_bindings m r) ≡ false → (if b then Some leaf_here else bound_before m p r) ≡ bound_before m p r
      by r false is h = refl
      by r true is h =
          let same : r ≡ resolved m.types q = ap (λ k. record { 0 = k }) (eqb-true r.0 (resolved m.types q).0 is) in
          true-false (is_bound_at p (merged_bindings m r)) (ap (λ (x : ResourceId). is_bound_at p (merged_bindings m x)) same ∙ made) h

      there_bound : (r : ResourceId) → is_bound_at p (merged_bindings m r) ≡ false → (if r.0 == (resolved m.types q).0 then Some leaf_here else bound_before m p r) ≡ bound_before m p r
      there_bound r h = by r (r.0 == (resolved m.types q).0) refl h

  same-path-here : same_path (position p ∷ []) (position p ∷ []) ≡ true
  same-path-here = ap (λ b. if b then true else false) (eq-eqb p p refl)

  is-fresh : import_tree m p (kind.TypeItem (ty.Resource q)) ≡ fresh
  is-fresh = ap (λ b. if b then fresh else type_equal (held_tree m.types (merged_bindings m) (ty.Resource q)))
      (ap (is_here imported (position p ∷ [])) (bound-so (resolved m.types q) made).1 ∙ same-path-here)

  pub fresh-brings : ListsImport → (places : List (Sort × ℕ)) (old new : State) (i : ℕ) → AreWritten m p places old → ImportsResource true (resolved m.types q) old new i → new.here.content ≡ and_import n e.Fresh old.here.content
      → i ≡ count_of (space (described_sort e.Fresh)) old.here.content → Brings m p resource_entry i old new
  fresh-brings lists places old new i w imports content index =
      let place = place-is m p places old w in
      let leaf : import_leaf (items_of old.here.content) ≡ leaf_here = ap (λ (x : Place). record { out = 0; side = imported; path = x ∷ [] }) place in
      let adds = imports.adds m.types (bound_before m p) [] w.good (unbound-yet m p (resolved m.types q) made) in
      let bound : calling (resolved m.types q) (import_leaf (items_of old.here.content)) (bound_before m p) ≡ bound_before m (suc p) = ap (λ (l : Leaf). calling (resolved m.types q) l (bound_before m p)) leaf ∙ fresh-bound in
      let now_bound : bound_before m (suc p) (resolved m.types q) ≡ Some leaf_here = ap (λ (b : Bindings). b (resolved m.types q)) (sym fresh-bound) ∙ ap (λ b. if b then Some leaf_here else bound_before m p (resolved m.types q)) (eq-eqb (resolved m.types q).0 (resolved m.types q).0 refl) in
      record {
        beside = record {
          other = other-of imports.other (same-items new old imports.around);
          between = old.here.content;
          types = adds-none old.here.content;
          description = e.Fresh;
          content = content;
          sorted = refl;
          index = index;
        };
        onward = subst (λ (b : Bindings). Onward m.types (b ∷ []) (stack true old) (stack true new)) bound adds.0;
        imports =
            ap (λ (x : Encodable). (meaning (items_of x)).imports) content
            ∙ (lists (items_of old.here.content) n e.Fresh).0
            ∙ ap (λ (t : Tree). (meaning (items_of old.here.content)).imports ++ (n, t) ∷ []) (sym is-fresh);
        refers = (resource leaf_here, resource-held m.types (bound_before m (suc p)) q leaf_here now_bound, subst (λ (l : Leaf). At ((innermost (stack true new)).types) i (resource l)) leaf adds.1);
      }
    where
      other-of : opened false new.here ≡ written_as (opened true new.here) (opened false old.here) → new.around.items ≡ old.around.items → stack false new ≡ all_written_as (stack true new) (stack false old)
      other-of h around =
          ap (λ (o : Open). o ∷ outward false new.around.items) h
          ∙ ap (λ (zs : Stack). written_as (opened true new.here) (opened false old.here) ∷ zs) (sym (same-as (outward true new.around.items) (outward false new.around.items) (same-stack true false new).1))
          ∙ ap (λ (ss : List OpenScope). written_as (opened true new.here) (opened false old.here) ∷ all_written_as (outward true new.around.items) (outward false ss)) around
