-- Interfaces that are used have ids, and so have the additional imports of definitions.
use Rattle.std.proofs.Common.{ℕ, zero, suc, ◌<◌, ◌&&◌, Bool, true, false, List, [], ◌∷◌, ◌++◌, length, Contains, Option, Some, None, ◌≡◌, inl, inr, refl, sym, subst, arith, slice_get}
use Rattle.std.specs.Prelude.{is_some}
use Rattle.std.specs.List.{list_all}
use Rattle.wac_types_shapes.specs.primitives.Name.{Name, option_case, first_some}
use Rattle.wac_types_shapes.specs.declared.shapes.component.Interface.{Interface}
use Rattle.wac_types_shapes.specs.declared.shapes.component.InterfaceId.{InterfaceId}
use Rattle.wac_types_shapes.specs.declared.shapes.component.ItemKind.{ItemKind}
use Rattle.wac_types_shapes.specs.declared.shapes.component.UsedType.{UsedType}
use Rattle.wac_types_shapes.specs.declared.shapes.component.World.{World}
use Rattle.wac_types_shapes.specs.declared.shapes.component.WorldId.{WorldId}
use Rattle.wac_types_collection.specs.declared.collection.collection.Held.{Held}
use Rattle.wac_types_collection.specs.declared.collection.collection.AddTypeError.{AddTypeError}
use Rattle.wac_types_collection.specs.declared.collection.collection.AddTypeError.TheVariants as fault
use Rattle.wac_types_collection.specs.collection.Collection.{Collection, IsWellFormed, size, item_of, item_at, interface_mentions, world_mentions}
use Rattle.wac_types_collection.specs.collection.Uses.{IsSound, is_used_by_id, used_by_id, are_there, listed_as_used, named_right, unless, mention_fault, uses_fault}
use Rattle.wac_types_collection.specs.wide.Wide.{AreThere, interface_uses, used_interfaces, instances_of, wide_uses, wide_uses_of_items, UsesWidely, by_itself, by_instance, each_once}
use Rattle.wac_types_collection.proofs.lemmas.wide.Members.{in_none, in_one, in_parts, in_either, in_map, map_in, flat_in}
use Rattle.wac_types_collection.proofs.lemmas.wide.Once.{each_only}
use Rattle.wac_types_collection.proofs.lemmas.wide.Wide.{wide_law}
use Rattle.wac_encode_faults.specs.private.Ids.{HasInterfaceId, HaveIds}
use Rattle.wac_encode_faults.specs.Sides.{listed_interfaces, reached_to, reached, without, needed_by_imports, needed_by_exports, unlisted}
use Rattle.wac_encode_faults.proofs.Needed.{unknown_in}

-- ---- a sound collection
passed : (b : Bool) (e : AddTypeError) → unless b e ≡ None → b ≡ true
passed true e h = refl
passed false e h = let wrong : Some e ≡ None = h in cc

first_none : (o p : Option AddTypeError) → first_some o p ≡ None → o ≡ None
first_none None p h = refl
first_none (Some e) p h = h

second_none : (o p : Option AddTypeError) → first_some o p ≡ None → p ≡ None
second_none None p h = h
second_none (Some e) p h = let wrong : Some e ≡ None = h in cc

-- Nothing that is used has a fault, so each interface that it is used from has an id.
by_id : (c : Collection) (uses : List (Name × UsedType)) (listed : List (Name × ItemKind)) → uses_fault c uses listed ≡ None → used_by_id c uses ≡ true
by_id c uses listed h =
    passed (used_by_id c uses) fault.UsedInterfaceUnnamed
    (first_none (unless (used_by_id c uses) fault.UsedInterfaceUnnamed) (first_some (unless (are_there c uses) fault.UsedTypeMissing) (unless (listed_as_used c uses listed) fault.UsedTypeDiffers)) h)

-- The uses of an item with a fault of what it mentions, then one of its uses, then one of its names.
uses_none : (mentions uses names : Option AddTypeError) → first_some mentions (first_some uses names) ≡ None → uses ≡ None
uses_none mentions uses names h = first_none uses names (second_none mentions (first_some uses names) h)

module _ (c : Collection) (sound : IsSound c) where
  interface_by_id : (i : InterfaceId) → used_by_id c (interface_uses c i) ≡ true
  interface_by_id i = by (slice_get c.interfaces i.0) refl
    where
      by : (o : Option (Held Interface)) → slice_get c.interfaces i.0 ≡ o → used_by_id c (option_case (item_of o) [] (λ (x : Interface). x.uses)) ≡ true
      by None is = refl
      by (Some h) is =
          by_id c h.item.uses h.item.exports
          (uses_none (mention_fault c (interface_mentions h.item)) (uses_fault c h.item.uses h.item.exports) (unless (named_right c h.item.uses h.item.exports) fault.ResourceMisnamed) (sound.interfaces i.0 h is))

  world_by_id : (w : WorldId) (x : World) → item_at c.worlds w.0 ≡ Some x → used_by_id c x.uses ≡ true
  world_by_id w x at = by (slice_get c.worlds w.0) refl at
    where
      one : (y : World) → Some y ≡ Some x → y ≡ x
      one y e = cc

      by : (o : Option (Held World)) → slice_get c.worlds w.0 ≡ o → item_of o ≡ Some x → used_by_id c x.uses ≡ true
      by None is e = let wrong : None ≡ Some x = e in cc
      by (Some h) is e =
          subst (λ (y : World). used_by_id c y.uses ≡ true) (one h.item e)
          (by_id c h.item.uses h.item.imports
          (uses_none (mention_fault c (world_mentions h.item)) (uses_fault c h.item.uses h.item.imports) (unless (named_right c h.item.uses h.item.imports && named_right c h.item.uses h.item.exports) fault.ResourceMisnamed) (sound.worlds w.0 h is)))

-- ---- an interface that a type is used from
and_parts : (a b : Bool) → (a && b) ≡ true → (a ≡ true) × (b ≡ true)
and_parts true b h = (refl, h)
and_parts false b h = let wrong : false ≡ true = h in cc

all_pass : {A : Type 0} (p : A → Bool) (xs : List A) (x : A) → list_all p xs ≡ true → Contains xs x → p x ≡ true
all_pass {A} p [] x h there = absurd (in_none x there)
all_pass {A} p (y ∷ xs) x h there =
    let parts = and_parts (p y) (list_all p xs) h in
    elim (in_parts y x xs there) [ inl same ↦ subst (λ (z : A). p z ≡ true) (sym same) parts.0 | inr w ↦ all_pass p xs x parts.1 w ]

id_of_used : (c : Collection) (i : InterfaceId) → option_case (item_at c.interfaces i.0) false (λ (x : Interface). is_some x.id) ≡ true → HasInterfaceId c i
id_of_used c i = by (item_at c.interfaces i.0) refl
  where
    some : (x : Interface) (o : Option Name) → item_at c.interfaces i.0 ≡ Some x → x.id ≡ o → is_some o ≡ true → HasInterfaceId c i
    some x None at is h = let wrong : false ≡ true = h in cc
    some x (Some n) at is h = (x, n, at, is)

    by : (o : Option Interface) → item_at c.interfaces i.0 ≡ o → option_case o false (λ (x : Interface). is_some x.id) ≡ true → HasInterfaceId c i
    by None at h = let wrong : false ≡ true = h in cc
    by (Some x) at h = some x x.id at refl h

used_have_ids : (c : Collection) (uses : List (Name × UsedType)) → used_by_id c uses ≡ true → HaveIds c (used_interfaces uses)
used_have_ids c uses h k there =
    let (u, listed, is) = map_in (λ (e : Name × UsedType). e.1.interface) uses k there in
    subst (HasInterfaceId c) (sym is) (id_of_used c u.1.interface (all_pass (λ (e : Name × UsedType). is_used_by_id c e.1) uses u h listed))

-- ---- interfaces with an id are of the collection
within : (xs : List (Held Interface)) (n : ℕ) (x : Interface) → item_at xs n ≡ Some x → n < length xs
within [] n x h = let wrong : None ≡ Some x = h in cc
within (y ∷ xs) zero x h = omega arith
within (y ∷ xs) (suc n) x h = let l = within xs n x h in omega (arith, l)

pub ids_there : (c : Collection) (is : List InterfaceId) → HaveIds c is → AreThere c is
ids_there c is named i there = let (x, n, at, id) = named i there in within c.interfaces i.0 x at

-- ---- additional imports
module _ (c : Collection) (wf : IsWellFormed c) (sound : IsSound c) where
  used_is_named : (i : InterfaceId) → HaveIds c (used_interfaces (interface_uses c i))
  used_is_named i = used_have_ids c (interface_uses c i) (interface_by_id c sound i)

  wide_is_named : (i k : InterfaceId) → UsesWidely c i k → HasInterfaceId c k
  wide_is_named i _ (by_itself _ n u h) = used_is_named i u.interface (in_map (λ (e : Name × UsedType). e.1.interface) (interface_uses c i) (n, u) h)
  wide_is_named i k (by_instance _ j _ n h further) = wide_is_named j k further

  wide_named : (i : InterfaceId) → HaveIds c (wide_uses c i)
  wide_named i k h = wide_is_named i k ((wide_law c wf i k).1 h)

  items_named : (items : List (Name × ItemKind)) → HaveIds c (wide_uses_of_items c items)
  items_named items k h = let (i, there, here) = flat_in (wide_uses c) (instances_of items) k h in wide_named i k here

  reached_named : (d : ℕ) (is : List InterfaceId) → HaveIds c is → HaveIds c (reached_to d c is)
  reached_named zero is all k h = absurd (in_none k h)
  reached_named (suc d) is all k h =
      let (i, there, here) = flat_in (λ i. reached_to d c (used_interfaces (interface_uses c i)) ++ i ∷ []) is k h in
      elim (in_either (reached_to d c (used_interfaces (interface_uses c i))) (i ∷ []) k here) [
        | inl g ↦ reached_named d (used_interfaces (interface_uses c i)) (used_is_named i) k g
        | inr g ↦ subst (HasInterfaceId c) (sym (in_one i k g)) (all i there)
      ]

  once_named : (is keys : List InterfaceId) → HaveIds c is → keys ≡ each_once is → HaveIds c keys
  once_named is keys all e k h = elim (each_only [] is k (subst (λ l. Contains l k) e h)) [ inl n ↦ absurd (in_none k n) | inr w ↦ all k w ]

  pub interface_named : (i : InterfaceId) (keys : List InterfaceId) → keys ≡ each_once (reached c (wide_uses c i)) → HaveIds c keys
  interface_named i keys e = once_named (reached c (wide_uses c i)) keys (reached_named (size c) (wide_uses c i) (wide_named i)) e

  needed_named : (x : World) → HaveIds c (used_interfaces x.uses) → HaveIds c (needed_by_imports c x ++ needed_by_exports c x)
  needed_named x uses k h = elim (in_either (needed_by_imports c x) (needed_by_exports c x) k h) [
    | inl g ↦ elim (in_either (used_interfaces x.uses) (wide_uses_of_items c x.imports) k (unknown_in (listed_interfaces c x.imports) (used_interfaces x.uses ++ wide_uses_of_items c x.imports) k g).0) [
      | inl w ↦ uses k w
      | inr w ↦ items_named x.imports k w
    ]
    | inr g ↦ items_named x.exports k (unknown_in (listed_interfaces c (x.imports ++ x.exports)) (wide_uses_of_items c x.exports) k g).0
  ]

  pub world_named : (w : WorldId) (x : World) (keys : List InterfaceId) → item_at c.worlds w.0 ≡ Some x → keys ≡ unlisted c x → HaveIds c keys
  world_named w x keys at e =
      let needed = needed_by_imports c x ++ needed_by_exports c x in
      let all = reached_named (size c) needed (needed_named x (used_have_ids c x.uses (world_by_id c sound w x at))) in
      once_named (without (listed_interfaces c x.imports) (reached c needed)) keys (λ k h. all k (unknown_in (listed_interfaces c x.imports) (reached c needed) k h).0) e
