-- A free resource that is bound stands in the tree of its type.
use Rattle.std.proofs.Common.{ℕ, zero, suc, ◌≡◌, ◌⊎◌, inl, inr, Bool, true, false, if◌then◌else◌, List, [], ◌∷◌, map, Contains, Option, Some, None, refl, ap, sym, ◌∙◌, subst}
use Rattle.wac_types_shapes.specs.primitives.Name.{Name, same_name, find_name, option_case}
use Rattle.wac_types_shapes.proofs.lemmas.shapes.Names.{same_name-refl, same_name-true}
use Rattle.wac_types_shapes.specs.primitives.Tree.{Side, imported, exported, Place, position, named, Leaf, TypeTree, Tree, absent, resource, own, borrow, record_of, variant_of, list_of, fixed_list_of, tuple_of, option_of, result_of, stream_of, future_of, function, instance, fresh, type_equal, instance_item, further_out}
use Rattle.wac_types_shapes.specs.shapes.Kinds.{kind_type}
use Rattle.wac_types_shapes.specs.shapes.Named.{NoNameTwice}
use Rattle.wac_types_shapes.specs.declared.shapes.component.Interface.{Interface}
use Rattle.wac_types_shapes.specs.declared.shapes.component.InterfaceId.{InterfaceId}
use Rattle.wac_types_shapes.specs.declared.shapes.component.ItemKind.{ItemKind}
use Rattle.wac_types_shapes.specs.declared.shapes.component.ItemKind.TheVariants as kind
use Rattle.wac_types_shapes.specs.declared.shapes.component.ResourceId.{ResourceId}
use Rattle.wac_types_shapes.specs.declared.shapes.component.«Type».{«Type» as AnyType}
use Rattle.wac_types_shapes.specs.declared.shapes.component.«Type».TheVariants as ty
use Rattle.wac_types_collection.specs.collection.Collection.{Collection, IsWellFormed, holds_type, item_at, interface_exports}
use Rattle.wac_types_collection.specs.collection.Held.{resolved, item_tree, items_under, interface_tree}
use Rattle.wac_types_collection.specs.collection.Bound.{Bindings, own_name, inside_interface, binds_here, is_here, by_place, held_tree, held_item}
use Rattle.wac_types_collection.specs.collection.Names.{ExportsOnce}
use Rattle.wac_types_collection.proofs.lemmas.wide.Members.{in_none, in_parts}
use Rattle.wac_encode_faults.specs.Free.{parts, IsFree, in_part, in_export}
use Rattle.wac_encode_faults.specs.Free as free
use Rattle.wac_encode_interfaces.proofs.InnerTypes.{listed-held}
use Rattle.wac_encode_stacks.proofs.Whole.{interface-step, items-found, not-here}
use Rattle.wac_merge_classes.specs.terms.ClassOrder.{Mentions, as_resource, as_own, as_borrow, in_field, in_case, in_list, in_fixed_list, in_tuple, in_option, in_ok, in_err, in_stream, in_future, in_parameter, in_result, in_instance, in_type_item, in_function_item, in_instance_item, in_component_item, in_module_item, in_value_item}
use Rattle.wac_merge_imports.proofs.lemmas.faults.FreeTrees.{Has, IsPlainType, end_of, free_has}
use Rattle.wac_encode_imports.proofs.Bound.{true-false, no-some, one-some}

-- what stands in a tree is mentioned there

mentioned : {L : Type 0} (P : L → Type 0) (t : TypeTree L) → Has P t → Mentions P t
mentioned P (resource l) h = as_resource l h
mentioned P (own l) h = as_own l h
mentioned P (borrow l) h = as_borrow l h
mentioned P (record_of names parts) h = in_field names parts h.0 (mentioned P (parts h.0) h.1)
mentioned P (variant_of names parts) h = in_case names parts h.0 (mentioned P (parts h.0) h.1)
mentioned P (list_of t) h = in_list t (mentioned P t h)
mentioned P (fixed_list_of n t) h = in_fixed_list n t (mentioned P t h)
mentioned P (tuple_of n parts) h = in_tuple n parts h.0 (mentioned P (parts h.0) h.1)
mentioned P (option_of t) h = in_option t (mentioned P t h)
mentioned P (result_of t u) (inl h) = in_ok t u (mentioned P t h)
mentioned P (result_of t u) (inr h) = in_err t u (mentioned P u h)
mentioned P (stream_of t) h = in_stream t (mentioned P t h)
mentioned P (future_of t) h = in_future t (mentioned P t h)
mentioned P (function is_async names parts t) (inl h) = in_parameter is_async names parts t h.0 (mentioned P (parts h.0) h.1)
mentioned P (function is_async names parts t) (inr h) = in_result is_async names parts t (mentioned P t h)
mentioned P t h = absurd h

-- a name that is once is found

found-once : (es : List (Name × ItemKind)) (n : Name) (k : ItemKind) → NoNameTwice es → Contains es (n, k) → find_name es n ≡ Some k
found-once [] n k once there = absurd (in_none (n, k) there)
found-once (e ∷ es) n k once there = by (in_parts e (n, k) es there) (λ more. found-once es n k once.1 more)
  where
    other : (b : Bool) → same_name n e.0 ≡ b → find_name es n ≡ Some k → (if b then Some e.1 else find_name es n) ≡ Some k
    other false is found = found
    other true is found = no-some k (sym once.0 ∙ ap (find_name es) (sym (same_name-true n e.0 is)) ∙ found)

    by : ((n, k) ≡ e) ⊎ Contains es (n, k) → (Contains es (n, k) → find_name es n ≡ Some k) → find_name (e ∷ es) n ≡ Some k
    by (inl same) later = ap (λ (x : Name × ItemKind). find_name (x ∷ es) n) (sym same) ∙ ap (λ b. if b then Some k else find_name es n) (same_name-refl n)
    by (inr more) later = other (same_name n e.0) refl (later more)

plain-part : (c : Collection) (t u : AnyType) → Contains (parts c t) u → IsPlainType t
plain-part c (ty.Interface i) u there = in_none u there
plain-part c (ty.Resource r) u there = tt
plain-part c (ty.Func f) u there = tt
plain-part c (ty.Value v) u there = tt
plain-part c (ty.World w) u there = tt
plain-part c (ty.Module k) u there = tt

-- an item that is not fresh mentions what its type does

pub mentions-item : (P : Leaf → Type 0) (t : AnyType → Tree) (b : Bool) (k : ItemKind) → b ≡ false → Mentions P (t (kind_type k)) → Mentions P (item_tree t b k)
mentions-item P t true k wrong h = true-false true refl wrong
mentions-item P t false (kind.TypeItem a) bare h = in_type_item (t a) h
mentions-item P t false (kind.Func f) bare h = in_function_item (t (ty.Func f)) h
mentions-item P t false (kind.Instance i) bare h = in_instance_item (t (ty.Interface i)) h
mentions-item P t false (kind.Component w) bare h = in_component_item (t (ty.World w)) h
mentions-item P t false (kind.Module x) bare h = in_module_item (t (ty.Module x)) h
mentions-item P t false (kind.Value v) bare h = in_value_item (t (ty.Value v)) h

-- inside an interface a resource that is not its own is bound further out

further : (c : Collection) (it : Interface) (m : Bindings) (r : ResourceId) (l : Leaf) → own_name c it.uses it.exports r ≡ None → m r ≡ Some l → inside_interface c it m r ≡ Some (further_out l)
further c it m r l not_own bound =
    ap (λ (o : Option Name). option_case o (option_case (m r) None (λ x. Some (further_out x))) (λ n. Some (record { out = 0; side = exported; path = named n ∷ [] }))) not_own
    ∙ ap (λ (o : Option Leaf). option_case o None (λ x. Some (further_out x))) bound

-- so it is not fresh there

not-fresh : (c : Collection) (m : Bindings) (n : Name) (k : ItemKind) (r : ResourceId) (l : Leaf) → IsFree c (kind_type k) r → m r ≡ Some (further_out l) → binds_here c m exported (named n ∷ []) k ≡ false
not-fresh c m n (kind.TypeItem (ty.Resource q)) r l f bound = ap (is_here exported (named n ∷ [])) (ap m (sym (end_of c (ty.Resource q) r f q refl)) ∙ bound) ∙ not-here exported (named n ∷ []) (Some l)
not-fresh c m n (kind.TypeItem (ty.Value v)) r l f bound = refl
not-fresh c m n (kind.TypeItem (ty.Func g)) r l f bound = refl
not-fresh c m n (kind.TypeItem (ty.Interface i)) r l f bound = refl
not-fresh c m n (kind.TypeItem (ty.World w)) r l f bound = refl
not-fresh c m n (kind.TypeItem (ty.Module x)) r l f bound = refl
not-fresh c m n (kind.Func g) r l f bound = refl
not-fresh c m n (kind.Instance i) r l f bound = refl
not-fresh c m n (kind.Component w) r l f bound = refl
not-fresh c m n (kind.Module x) r l f bound = refl
not-fresh c m n (kind.Value v) r l f bound = refl

exports-there : (c : Collection) (i : InterfaceId) (it : Interface) → item_at c.interfaces i.0 ≡ Some it → interface_exports c i ≡ it.exports
exports-there c i it at = ap (λ (o : Option Interface). option_case o [] (λ x. x.exports)) at

module _ (c : Collection) (wf : IsWellFormed c) (once : ExportsOnce c) (P : Leaf → Type 0) (out : (l : Leaf) → P l → P (further_out l)) where
  -- A free resource that is bound to a leaf for which P holds.
  pub mentions-free : (a : AnyType) (r : ResourceId) → holds_type c a ≡ true → IsFree c a r → (m : Bindings) (l : Leaf) → m r ≡ Some l → P l → Mentions P (held_tree c m a)
  unfolding held_tree
  mentions-free _ _ held (free.itself q) m l bound p = mentioned P (held_tree c m (ty.Resource q)) (free_has c m P wf (ty.Resource q) (resolved c q) l tt held (free.itself q) bound p)
  mentions-free a r held (in_part _ u _ there more) m l bound p = mentioned P (held_tree c m a) (free_has c m P wf a r l (plain-part c a u there) held (in_part a u r there more) bound p)
  mentions-free _ r held (in_export i it n k _ there listed not_own more) m l bound p =
      let inner = inside_interface c it m in
      let bound_inside = further c it m r l not_own bound in
      let found = found-once it.exports n k (once i it there) listed in
      let held_inside = listed-held c wf (ty.Interface i) (n, k) (subst (λ (es : List (Name × ItemKind)). Contains es (n, k)) (sym (exports-there c i it there)) listed) in
      let type = mentions-free (kind_type k) r held_inside more inner (further_out l) bound_inside (out l p) in
      let item = mentions-item P (held_tree c inner) (binds_here c inner exported (named n ∷ []) k) k (not-fresh c inner n k r l more bound_inside) type in
      let tree_of : Name × ItemKind → Tree = (λ e. item_tree (held_tree c inner) (binds_here c inner exported (named e.0 ∷ []) e.1) e.1) in
      let items = items_under (map (λ e. (e.0, tree_of e)) it.exports) in
      let listed_so : items n ≡ item_tree (held_tree c inner) (binds_here c inner exported (named n ∷ []) k) k = items-found tree_of it.exports n ∙ ap (λ (o : Option ItemKind). option_case o absent (λ x. tree_of (n, x))) found in
      subst (Mentions P) (sym (interface-step c wf i it there m)) (in_instance items n (subst (Mentions P) (sym listed_so) item))
