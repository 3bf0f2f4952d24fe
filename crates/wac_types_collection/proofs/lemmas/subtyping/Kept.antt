-- A collection that grows keeps the trees of what it held.
use Rattle.std.proofs.Common.{ℕ, Bool, true, false, not, cond, List, [], ◌∷◌, filter, ◌≡◌, ◌<◌, ◌&&◌, ◌==◌, is_some, is_none, refl, ap, sym, ◌∙◌, Option, Some, None, slice_get}
use Rattle.wac_types_shapes.specs.primitives.Name.{Name, same_name, find_name, option_case, first_some}
use Rattle.wac_types_shapes.specs.primitives.Tree.{Side, imported, exported, Place, Leaf, named, further_out}
use Rattle.wac_types_shapes.specs.declared.shapes.component.ResourceId.{ResourceId}
use Rattle.wac_types_shapes.specs.declared.shapes.component.UsedType.{UsedType}
use Rattle.wac_types_shapes.specs.declared.shapes.component.Interface.{Interface}
use Rattle.wac_types_shapes.specs.declared.shapes.component.«Type».TheVariants as ty
use Rattle.wac_types_shapes.specs.declared.shapes.component.ItemKind.{ItemKind}
use Rattle.wac_types_shapes.specs.declared.shapes.component.ItemKind.TheVariants as kind
use Rattle.wac_types_shapes.specs.shapes.Kinds.{kind_type}
use Rattle.wac_types_collection.specs.declared.collection.collection.Held.{Held}
use Rattle.wac_types_collection.specs.collection.Collection.{Collection, size, used_types, kind_types, IsWellFormed, IsBefore, AreBefore, AddedBefore, IsKeptBy, item_of}
use Rattle.wac_types_collection.specs.collection.Held.{Names, source_of, resolved}
use Rattle.wac_types_collection.specs.collection.Bound.{by_place, held_tree, lists_own, own_name, is_alias, bound_by, bound_in_order, first_bound, lists_type, binds_here, is_here}
use Rattle.wac_types_collection.proofs.lemmas.collection.Growth.{type_within, type_before, keeps_resource, keeps_func, keeps_defined, keeps_interface, keeps_world, keeps_module}
use Rattle.wac_types_collection.proofs.lemmas.collection.Steady.{all_right, resource_same}
use Rattle.wac_types_collection.specs.subtyping.Subtype.{by_name, resource_names, held_name, type_tree}
use Rattle.wac_types_collection.specs.subtyping.Called.{Called, bound_at, or_around, by_binding, resource_name, one_out}
use Rattle.wac_types_collection.specs.subtyping.TreeLaws.{KeepsTrees, GrowthKeepsTrees, KeepsCalledTrees, GrowthKeepsCalledTrees}
use Rattle.wac_types_collection.proofs.lemmas.subtyping.Unfolding.{NamingsAgree, imports_of, exports_of, unfolded_kept}
use Rattle.wac_types_collection.proofs.lemmas.subtyping.Trees.{resolved_held}

-- what was added before something is held
held_there : {A : Type 0} (n : ℕ) (o : Option (Held A)) → AddedBefore n o → (h : Held A) × (o ≡ Some h) × (h.before < n)
held_there n None b = absurd b
held_there n (Some h) b = (h, refl, b)

-- names of resources that agree on what c holds
Agree : {L : Type 0} → Collection → Names L → Names L → Type 0
Agree c m l = (n : ℕ) (r : ResourceId) → IsBefore c n (ty.Resource r) → m r ≡ l r

agree_itself : {L : Type 0} (c : Collection) (m : Names L) → Agree c m m
unfolding Agree
agree_itself c m n r b = refl

module _ (c d : Collection) (wf : IsWellFormed c) (g : IsKeptBy c d) where
  name_kept : {L : Type 0} (n : ℕ) (r : ResourceId) (m l : Names L) → Agree c m l → IsBefore c n (ty.Resource r) → m (resolved c r) ≡ l (resolved d r)
  unfolding Agree
  name_kept n r m l ag b =
      let held = type_within c n (ty.Resource r) b in
      ag (size c) (resolved c r) (type_before c wf (ty.Resource (resolved c r)) (resolved_held c wf r held)) ∙ ap l (sym (resource_same c d wf g r held))

  alias_kept : (n : ℕ) (q : ResourceId) → IsBefore c n (ty.Resource q) → is_alias c q ≡ is_alias d q
  alias_kept n q b =
      let h = held_there n (slice_get c.resources q.0) b in
      ap (λ o. is_some (source_of o)) h.1 ∙ sym (ap (λ o. is_some (source_of o)) (g.resources q.0 h.0 h.1))

  lists_kept : (n : ℕ) (uses : List (Name × UsedType)) (r : ResourceId) (nm : Name) (k : ItemKind) → IsBefore c n (kind_type k) → lists_own c uses r (nm, k) ≡ lists_own d uses r (nm, k)
  lists_kept n uses r nm (kind.TypeItem (ty.Resource q)) b = ap (λ x. (q.0 == r.0) && (not x && is_none (find_name uses nm))) (alias_kept n q b)
  lists_kept n uses r nm _ b = refl

  own_kept : (n : ℕ) (uses : List (Name × UsedType)) (es : List (Name × ItemKind)) (r : ResourceId) → AreBefore c n (kind_types es) → own_name c uses es r ≡ own_name d uses es r
  own_kept n uses [] r b = refl
  own_kept n uses (e ∷ es) r b =
      let x = lists_kept n uses r e.0 e.1 b.0 in
      let y = own_kept n uses es r b.1 in
      (λ i. cond (x i) (Some e.0) (y i))

  bound_kept : (n : ℕ) (uses : List (Name × UsedType)) (side : Side) (nm : Name) (k : ItemKind) (r : ResourceId) → IsBefore c n (kind_type k) → bound_by c uses side (nm, k) r ≡ bound_by d uses side (nm, k) r
  bound_kept n uses side nm (kind.TypeItem t) r b = ap (λ x. cond x (Some (let l : Leaf = record { out = 0; side = side; path = named nm ∷ [] } in l)) None) (lists_kept n uses r nm (kind.TypeItem t) b)
  bound_kept n uses side nm (kind.Instance i) r b =
      let h = held_there n (slice_get c.interfaces i.0) b in
      let F : Option Name → Interface → Option Leaf = λ o it. option_case it.id None (λ id. cond (same_name id nm) (option_case o None (λ q. Some (record { out = 0; side = side; path = named nm ∷ named q ∷ [] }))) None) in
      let w = all_right (IsBefore c h.0.before) (used_types h.0.item.uses) (kind_types h.0.item.exports) (wf.interfaces i.0 h.0 h.1).1 in
      ap (λ o. option_case (item_of o) None (λ it. F (own_name c it.uses it.exports r) it)) h.1
      ∙ ap (λ o. F o h.0.item) (own_kept h.0.before h.0.item.uses h.0.item.exports r w)
      ∙ sym (ap (λ o. option_case (item_of o) None (λ it. F (own_name d it.uses it.exports r) it)) (g.interfaces i.0 h.0 h.1))
  bound_kept n uses side nm _ r b = refl

  order_kept : (n : ℕ) (uses : List (Name × UsedType)) (side : Side) (es : List (Name × ItemKind)) (r : ResourceId) → AreBefore c n (kind_types es) → bound_in_order c uses side es r ≡ bound_in_order d uses side es r
  order_kept n uses side [] r b = refl
  order_kept n uses side (e ∷ es) r b =
      let x = bound_kept n uses side e.0 e.1 r b.0 in
      let y = order_kept n uses side es r b.1 in
      (λ i. first_some (x i) (y i))

  filter_before : (n : ℕ) (p : Name × ItemKind → Bool) (es : List (Name × ItemKind)) → AreBefore c n (kind_types es) → AreBefore c n (kind_types (filter p es))
  filter_before n p [] b = tt
  filter_before n p (e ∷ es) b = by (p e) (filter_before n p es b.1)
    where
      by : (x : Bool) → AreBefore c n (kind_types (filter p es)) → AreBefore c n (kind_types (cond x (e ∷ filter p es) (filter p es)))
      by true r = (b.0, r)
      by false r = r

  first_kept : (n : ℕ) (uses : List (Name × UsedType)) (side : Side) (es : List (Name × ItemKind)) (r : ResourceId) → AreBefore c n (kind_types es) → first_bound c uses side es r ≡ first_bound d uses side es r
  first_kept n uses side es r b =
      let x = order_kept n uses side (filter (λ e. not (lists_type e)) es) r (filter_before n (λ e. not (lists_type e)) es b) in
      let y = order_kept n uses side (filter lists_type es) r (filter_before n lists_type es b) in
      (λ i. first_some (x i) (y i))

  fresh_here : (n : ℕ) (m l : Names Leaf) → Agree c m l → (s : Side) (path : List Place) (k : ItemKind) → IsBefore c n (kind_type k) → binds_here c m s path k ≡ binds_here d l s path k
  fresh_here n m l ag s path (kind.TypeItem (ty.Resource q)) b = ap (is_here s path) (name_kept n q m l ag b)
  fresh_here n m l ag s path _ b = refl

  places_agree : NamingsAgree c d (by_place c) (by_place d) (Agree c)
  unfolding Agree
  places_agree = record {
    name = name_kept;
    in_instance = λ n i b m l ag k r h.
        let own = own_kept n i.uses i.exports r (all_right (IsBefore c n) (used_types i.uses) (kind_types i.exports) b) in
        let out = ag k r h in
        (λ z. option_case (own z) (option_case (out z) None (λ x. Some (further_out x))) (λ x. Some (record { out = 0; side = exported; path = named x ∷ [] })));
    in_imports = λ n w b m l ag k r h. first_kept n w.uses imported w.imports r (imports_of c n w b);
    in_exports = λ n w b m l ag k r h.
        let x = first_kept n w.uses imported w.imports r (imports_of c n w b) in
        let y = first_kept n w.uses exported w.exports r (exports_of c n w b) in
        (λ z. first_some (x z) (y z));
    is_fresh = λ n m l ag s e b. fresh_here n m l ag s (named e.0 ∷ []) e.1 b;
  }

  names_agree : NamingsAgree c d by_name by_name (Agree c)
  names_agree = record {
    name = name_kept;
    in_instance = λ n i b m l ag. ag;
    in_imports = λ n w b m l ag. ag;
    in_exports = λ n w b m l ag. ag;
    is_fresh = λ n m l ag s e b. refl;
  }

  resources_agree : Agree c (resource_names c) (resource_names d)
  unfolding Agree
  resources_agree n r b =
      let h = held_there n (slice_get c.resources r.0) b in
      ap held_name h.1 ∙ sym (ap held_name (g.resources r.0 h.0 h.1))

  trees_kept : KeepsTrees c d
  unfolding type_tree held_tree
  trees_kept = (
    (λ t h. sym (unfolded_kept c d wf g by_name by_name (Agree c) names_agree (resource_names c) (resource_names d) resources_agree t h)),
    (λ m t h. sym (unfolded_kept c d wf g (by_place c) (by_place d) (Agree c) places_agree m m (agree_itself c m) t h)),
  )

  -- names by what binds a resource
  called_kept : (n : ℕ) (r : ResourceId) (o p : Option Leaf) (m l : Names Called) → IsBefore c n (ty.Resource r) → o ≡ p → Agree c m l → or_around c o m r ≡ or_around d p l r
  unfolding Agree
  called_kept n r o p m l b same ag =
      let h = held_there n (slice_get c.resources r.0) b in
      let name : resource_name c r ≡ resource_name d r = ap (λ o. option_case (item_of o) [] (λ it. it.name)) h.1 ∙ sym (ap (λ o. option_case (item_of o) [] (λ it. it.name)) (g.resources r.0 h.0 h.1)) in
      let out = ag n r b in
      (λ i. first_some (option_case (same i) None (λ x. Some (bound_at x (name i)))) (option_case (out i) None (λ x. Some (one_out x))))

  bindings_agree : NamingsAgree c d (by_binding c) (by_binding d) (Agree c)
  unfolding Agree
  bindings_agree = record {
    name = name_kept;
    in_instance = λ n i b m l ag k r h.
        let own = own_kept n i.uses i.exports r (all_right (IsBefore c n) (used_types i.uses) (kind_types i.exports) b) in
        called_kept k r _ _ m l h (λ z. option_case (own z) None (λ x. Some (record { out = 0; side = exported; path = named x ∷ [] }))) ag;
    in_imports = λ n w b m l ag k r h. called_kept k r _ _ m l h (first_kept n w.uses imported w.imports r (imports_of c n w b)) ag;
    in_exports = λ n w b m l ag k r h.
        let x = first_kept n w.uses imported w.imports r (imports_of c n w b) in
        let y = first_kept n w.uses exported w.exports r (exports_of c n w b) in
        called_kept k r _ _ m l h (λ z. first_some (x z) (y z)) ag;
    is_fresh = λ n m l ag s e b. refl;
  }

  called_trees_kept : KeepsCalledTrees c d
  called_trees_kept m t h = sym (unfolded_kept c d wf g (by_binding c) (by_binding d) (Agree c) bindings_agree m m (agree_itself c m) t h)

-- what one collection holds of another keeps its trees, however many additions lie between
pub kept_trees : (c d : Collection) → IsWellFormed c → IsKeptBy c d → KeepsTrees c d × KeepsCalledTrees c d
kept_trees c d wf kept = (trees_kept c d wf kept, called_trees_kept c d wf kept)

pub growth_keeps : (c : Collection) → IsWellFormed c → GrowthKeepsTrees c
growth_keeps c wf = record {
  resource = λ x. trees_kept c _ wf (keeps_resource c x);
  func = λ x. trees_kept c _ wf (keeps_func c x);
  defined = λ x. trees_kept c _ wf (keeps_defined c x);
  interface = λ x. trees_kept c _ wf (keeps_interface c x);
  world = λ x. trees_kept c _ wf (keeps_world c x);
  module_type = λ x. trees_kept c _ wf (keeps_module c x);
}

pub growth_keeps_called : (c : Collection) → IsWellFormed c → GrowthKeepsCalledTrees c
growth_keeps_called c wf = record {
  resource = λ x. called_trees_kept c _ wf (keeps_resource c x);
  func = λ x. called_trees_kept c _ wf (keeps_func c x);
  defined = λ x. called_trees_kept c _ wf (keeps_defined c x);
  interface = λ x. called_trees_kept c _ wf (keeps_interface c x);
  world = λ x. called_trees_kept c _ wf (keeps_world c x);
  module_type = λ x. called_trees_kept c _ wf (keeps_module c x);
}
