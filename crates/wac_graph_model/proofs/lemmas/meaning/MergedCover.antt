-- An item that is a subtype of another has, of each sort, what that one has.
use Rattle.std.proofs.Common.{◌≡◌, ◌≢◌, ℕ, zero, suc, Bool, true, false, cond, nat_lt, List, [], ◌∷◌, ◌++◌, length, map, arith, refl, ap, ◌∙◌, sym, subst, Option, Some, None, ◌⊎◌, inl, inr}
use Rattle.std.specs.Prelude.{slice_get}
use Rattle.wac_types_shapes.specs.primitives.Name.{Name, same_name, find_name, option_case}
use Rattle.wac_types_shapes.specs.shapes.Named.{NoNameTwice}
use Rattle.wac_types_shapes.specs.shapes.Kinds.{kind_type}
use Rattle.wac_types_shapes.proofs.lemmas.shapes.Names.{same_name-true, same_name-refl, found_at}
use Rattle.wac_types_shapes.specs.declared.shapes.component.Interface.{Interface}
use Rattle.wac_types_shapes.specs.declared.shapes.component.InterfaceId.{InterfaceId}
use Rattle.wac_types_shapes.specs.declared.shapes.component.ItemKind.{ItemKind}
use Rattle.wac_types_shapes.specs.declared.shapes.component.ItemKind.TheVariants as kind
use Rattle.wac_types_shapes.specs.declared.shapes.component.ValueType.{ValueType}
use Rattle.wac_types_shapes.specs.declared.shapes.component.«Type».{«Type» as AnyType}
use Rattle.wac_types_shapes.specs.declared.shapes.component.«Type».TheVariants as ty
use Rattle.wac_types_shapes.specs.primitives.Tree.{Side, exported, Place, TypeTree, Tree, absent, instance, fresh, type_equal, function_item, instance_item, component_item, module_item, value_item, items_in}
use Rattle.wac_types_collection.specs.collection.Collection.{Collection, item_of, holds_type, kind_types, used_types, interface_exports, IsWellFormed, IsBefore, AreBefore}
use Rattle.wac_types_collection.specs.declared.collection.collection.Held.{Held}
use Rattle.wac_types_collection.specs.collection.Held.{unfolded, of_held, interface_tree, item_tree, items_under}
use Rattle.wac_types_collection.specs.collection.Bound.{Bindings, by_place, binds_here, held_tree, held_item as placed_item}
use Rattle.wac_types_collection.specs.collection.Names.{ExportsOnce}
use Rattle.wac_types_collection.specs.subtyping.Subtype.{Sub, by_name, resource_names, type_tree, kind_tree, IsSubtype}
use Rattle.wac_types_collection.proofs.lemmas.collection.Growth.{type_within}
use Rattle.wac_types_collection.proofs.lemmas.subtyping.Unfolding.{unfolded_step, type_step}
use Rattle.wac_binary.specs.declared.sorts.Sort.{Sort}
use Rattle.wac_binary.specs.declared.sorts.Sort.TheVariants as sort
use Rattle.wac_binary.specs.HasMeaning.{IsOfSort}
use Rattle.wac_graph_model.specs.meaning.Means.{sort_of_kind}
use Rattle.wac_graph_model.specs.private.meaning.Beginning.{HasInside, itself, inside, item_inside, Covers}

module _ {L : Type 0} (f : Name × ItemKind → TypeTree L) where
  -- the item under the name of an entry
  listed_at : (es : List (Name × ItemKind)) (p : ℕ) (name : Name) (k : ItemKind) → NoNameTwice es → slice_get es p ≡ Some (name, k) → items_under (map (λ e. (e.0, f e)) es) name ≡ f (name, k)
  listed_at [] p name k once at = cc
  listed_at (e ∷ es) zero name k once at =
      let same : e ≡ (name, k) = cc in
      subst (λ x. items_under (map (λ e. (e.0, f e)) (x ∷ es)) name ≡ f (name, k)) (sym same) (ap (λ b. cond b (f (name, k)) (items_under (map (λ e. (e.0, f e)) es) name)) (same_name-refl name))
  listed_at (e ∷ es) (suc p) name k once at = split (same_name name e.0) refl (listed_at es p name k once.1 at) where
    split : (b : Bool) → same_name name e.0 ≡ b → items_under (map (λ e. (e.0, f e)) es) name ≡ f (name, k) → cond (same_name name e.0) (f e) (items_under (map (λ e. (e.0, f e)) es) name) ≡ f (name, k)
    split true is later = absurd (found_at es p name k at (ap (find_name es) (same_name-true name e.0 is) ∙ once.0))
    split false is later = ap (λ b. cond b (f e) (items_under (map (λ e. (e.0, f e)) es) name)) is ∙ later

  -- an item is that of an entry
  listed_from : (es : List (Name × ItemKind)) (name : Name)
      → (items_under (map (λ e. (e.0, f e)) es) name ≡ absent) ⊎ ((p : ℕ) × (k : ItemKind) × (slice_get es p ≡ Some (name, k)) × (items_under (map (λ e. (e.0, f e)) es) name ≡ f (name, k)))
  listed_from [] name = inl refl
  listed_from (e ∷ es) name = split (same_name name e.0) refl (listed_from es name) where
    split : (b : Bool) → same_name name e.0 ≡ b
        → (items_under (map (λ e. (e.0, f e)) es) name ≡ absent) ⊎ ((p : ℕ) × (k : ItemKind) × (slice_get es p ≡ Some (name, k)) × (items_under (map (λ e. (e.0, f e)) es) name ≡ f (name, k)))
        → (cond (same_name name e.0) (f e) (items_under (map (λ e. (e.0, f e)) es) name) ≡ absent)
        ⊎ ((p : ℕ) × (k : ItemKind) × (slice_get (e ∷ es) p ≡ Some (name, k)) × (cond (same_name name e.0) (f e) (items_under (map (λ e. (e.0, f e)) es) name) ≡ f (name, k)))
    split true is later =
        let named : e ≡ (name, e.1) = ap (λ n. (n, e.1)) (sym (same_name-true name e.0 is)) in
        inr (0, e.1, ap Some named, ap (λ b. cond b (f e) (items_under (map (λ e. (e.0, f e)) es) name)) is ∙ ap f named)
    split false is (inl none) = inl (ap (λ b. cond b (f e) (items_under (map (λ e. (e.0, f e)) es) name)) is ∙ none)
    split false is (inr (p, k, at, same)) = inr (suc p, k, at, ap (λ b. cond b (f e) (items_under (map (λ e. (e.0, f e)) es) name)) is ∙ same)

-- what the exports of an interface mention is held
held_export : (c : Collection) → IsWellFormed c → (i : InterfaceId) (h : Held Interface) → slice_get c.interfaces i.0 ≡ Some h → (p : ℕ) (name : Name) (k : ItemKind) → slice_get h.item.exports p ≡ Some (name, k) → holds_type c (kind_type k) ≡ true
held_export c wf i h is p name k at = type_within c h.before (kind_type k) (listed h.item.exports p (behind (used_types h.item.uses) (wf.interfaces i.0 h is).1) at) where
  behind : (ts : List AnyType) → AreBefore c h.before (ts ++ kind_types h.item.exports) → AreBefore c h.before (kind_types h.item.exports)
  behind [] all = all
  behind (t ∷ ts) all = behind ts all.1

  listed : (es : List (Name × ItemKind)) (p : ℕ) → AreBefore c h.before (kind_types es) → slice_get es p ≡ Some (name, k) → IsBefore c h.before (kind_type k)
  listed [] p all at = cc
  listed (e ∷ es) zero all at = let same : e ≡ (name, k) = cc in subst (λ x. IsBefore c h.before (kind_type x.1)) same all.0
  listed (e ∷ es) (suc p) all at = listed es p all.1 at

-- the interface of an export is there
the_interface : (c : Collection) (i : InterfaceId) (p : ℕ) (e : Name × ItemKind) → slice_get (interface_exports c i) p ≡ Some e → (h : Held Interface) × (slice_get c.interfaces i.0 ≡ Some h) × (slice_get h.item.exports p ≡ Some e)
the_interface c i p e at = split (slice_get c.interfaces i.0) at where
  split : (o : Option (Held Interface)) → slice_get (option_case (item_of o) [] (λ x. x.exports)) p ≡ Some e → (h : Held Interface) × (o ≡ Some h) × (slice_get h.item.exports p ≡ Some e)
  split None at = cc
  split (Some h) at = (h, refl, at)

-- the tree of a held item has, under names, what its kind has

module _ (c : Collection) (wf : IsWellFormed c) (once : ExportsOnce c) where
  abbrev item : Bindings → Bool → ItemKind → Tree
  item m b k = item_tree (unfolded (by_place c) c m) b k

  same_sort : (m : Bindings) (b : Bool) (k : ItemKind) → IsOfSort (sort_of_kind k) (item m b k)
  same_sort m true (kind.TypeItem t) = tt
  same_sort m false (kind.TypeItem t) = tt
  same_sort m b (kind.Func f) = tt
  same_sort m b (kind.Instance i) = tt
  same_sort m b (kind.Component w) = tt
  same_sort m b (kind.Module x) = tt
  same_sort m b (kind.Value v) = tt

  has_inside : (k : ItemKind) (names : List Name) (j : ItemKind) → HasInside c k names j → (m : Bindings) (b : Bool) → holds_type c (kind_type k) ≡ true → IsOfSort (sort_of_kind j) (item_inside (item m b k) names)
  has_inside k names j (itself _) m b held = same_sort m b k
  has_inside k names j (inside i p name l _ rest at more) m b held =
      let (h, is, listed) = the_interface c i p (name, l) at in
      let inner : Bindings = (by_place c).in_instance h.item m in
      let flag : Bool = (by_place c).is_fresh inner exported (name, l) in
      let tree : unfolded (by_place c) c m (ty.Interface i) ≡ interface_tree (by_place c) c (unfolded (by_place c) c) m h.item =
      unfolded_step (by_place c) c wf m (ty.Interface i) held ∙ ap (of_held (interface_tree (by_place c) c (unfolded (by_place c) c) m)) is in
      let here : items_in (unfolded (by_place c) c m (ty.Interface i)) name ≡ item inner flag l =
      ap (λ t. items_in t name) tree ∙ listed_at (λ e. item_tree (unfolded (by_place c) c inner) ((by_place c).is_fresh inner exported e) e.1) h.item.exports p name l (once i h.item (ap item_of is)) listed in
      subst (λ t. IsOfSort (sort_of_kind j) (item_inside t rest)) (sym here) (has_inside l rest j more inner flag (held_export c wf i h is p name l listed))

  -- a value type that an interface exports is exported as it is held inside
  pub value_exported : (m : Bindings) (i : InterfaceId) (p : ℕ) (name : Name) (v : ValueType) → slice_get (interface_exports c i) p ≡ Some (name, kind.TypeItem (ty.Value v)) → holds_type c (ty.Interface i) ≡ true
      → (inner : Bindings) × (items_in (held_tree c m (ty.Interface i)) name ≡ type_equal (held_tree c inner (ty.Value v)))
  unfolding held_tree
  value_exported m i p name v at held =
      let (h, is, listed) = the_interface c i p (name, kind.TypeItem (ty.Value v)) at in
      let inner : Bindings = (by_place c).in_instance h.item m in
      let tree : unfolded (by_place c) c m (ty.Interface i) ≡ interface_tree (by_place c) c (unfolded (by_place c) c) m h.item =
      unfolded_step (by_place c) c wf m (ty.Interface i) held ∙ ap (of_held (interface_tree (by_place c) c (unfolded (by_place c) c) m)) is in
      (inner, ap (λ t. items_in t name) tree ∙ listed_at (λ e. item_tree (unfolded (by_place c) c inner) ((by_place c).is_fresh inner exported e) e.1) h.item.exports p name (kind.TypeItem (ty.Value v)) (once i h.item (ap item_of is)) listed)

  pub held_covers : (m : Bindings) (side : Side) (path : List Place) (k : ItemKind) → holds_type c (kind_type k) ≡ true → Covers c k (placed_item c m side path k)
  unfolding held_tree
  held_covers m side path k held names j has = has_inside k names j has m (binds_here c m side path k) held

-- a subtype exports what is exported

-- what stands at the top of a tree, where it is an item
abbrev top : {L : Type 0} → TypeTree L → ℕ
top absent = 1
top fresh = 2
top (type_equal t) = 2
top (function_item t) = 3
top (instance_item t) = 4
top (component_item t) = 5
top (module_item t) = 6
top (value_item t) = 7
top _ = 0

abbrev sort_of_top : ℕ → Sort
sort_of_top (suc (suc (suc zero))) = sort.Func
sort_of_top (suc (suc (suc (suc zero)))) = sort.Instance
sort_of_top (suc (suc (suc (suc (suc zero))))) = sort.Component
sort_of_top (suc (suc (suc (suc (suc (suc zero)))))) = sort.CoreModule
sort_of_top (suc (suc (suc (suc (suc (suc (suc zero))))))) = sort.Value
sort_of_top _ = sort.«Type»

same_top : {L : Type 0} (a b : TypeTree L) → Sub a b → top a ≡ top b
same_top a b (Sub.same _ p) = refl
same_top a b (Sub.instances _ _ f) = refl
same_top a b (Sub.components _ _ _ _ f g) = refl
same_top a b (Sub.modules _ _ _ _ f g) = refl
same_top a b (Sub.type_items _ _ s t) = refl
same_top a b (Sub.instance_items _ _ s) = refl
same_top a b (Sub.component_items _ _ s) = refl
same_top a b (Sub.module_items _ _ s) = refl

of_instances : {L : Type 0} (xs ys : Name → TypeTree L) → Sub (instance xs) (instance ys) → (n : Name) → ys n ≢ absent → Sub (xs n) (ys n)
of_instances xs ys (Sub.same _ p) = absurd p
of_instances xs ys (Sub.instances _ _ f) = f

of_instance_items : {L : Type 0} (a b : TypeTree L) → Sub (instance_item a) (instance_item b) → Sub a b
of_instance_items a b (Sub.same _ p) = absurd p
of_instance_items a b (Sub.instance_items _ _ s) = s

of_type_items : {L : Type 0} (a b : TypeTree L) → Sub (type_equal a) (type_equal b) → Sub a b
of_type_items a b (Sub.same _ p) = absurd p
of_type_items a b (Sub.type_items _ _ s t) = s

top_sort : (c : Collection) (k : ItemKind) → sort_of_top (top (kind_tree c k)) ≡ sort_of_kind k
top_sort c (kind.TypeItem t) = refl
top_sort c (kind.Func f) = refl
top_sort c (kind.Instance i) = refl
top_sort c (kind.Component w) = refl
top_sort c (kind.Module m) = refl
top_sort c (kind.Value v) = refl

-- a kind's item is there
there : (c : Collection) (k : ItemKind) → top (kind_tree c k) ≡ 1 → ⊥
there c (kind.TypeItem t) h = absurd (omega (arith, h))
there c (kind.Func f) h = absurd (omega (arith, h))
there c (kind.Instance i) h = absurd (omega (arith, h))
there c (kind.Component w) h = absurd (omega (arith, h))
there c (kind.Module m) h = absurd (omega (arith, h))
there c (kind.Value v) h = absurd (omega (arith, h))

-- the items that an interface exports
exports_tree : Collection → List (Name × ItemKind) → Name → TypeTree Name
exports_tree c es = items_under (map (λ e. (e.0, kind_tree c e.1)) es)

-- what is exported under a name
exported_at : (c : Collection) (es : List (Name × ItemKind)) (p : ℕ) (name : Name) (k : ItemKind) → NoNameTwice es → slice_get es p ≡ Some (name, k) → exports_tree c es name ≡ kind_tree c k
unfolding exports_tree
exported_at c es p name k once at = listed_at (λ e. kind_tree c e.1) es p name k once at

exported_from : (c : Collection) (es : List (Name × ItemKind)) (name : Name) → (exports_tree c es name ≡ absent) ⊎ ((p : ℕ) × (k : ItemKind) × (slice_get es p ≡ Some (name, k)) × (exports_tree c es name ≡ kind_tree c k))
unfolding exports_tree
exported_from c es name = listed_from (λ e. kind_tree c e.1) es name

instance_tree : (c : Collection) → IsWellFormed c → (i : InterfaceId) (h : Held Interface) → slice_get c.interfaces i.0 ≡ Some h → holds_type c (ty.Interface i) ≡ true → type_tree c (ty.Interface i) ≡ instance (exports_tree c h.item.exports)
unfolding type_tree exports_tree
instance_tree c wf i h is held = type_step c wf (ty.Interface i) held ∙ ap (of_held (interface_tree by_name c (λ m. unfolded by_name c m) (resource_names c))) is

the_held : {A : Type 0} (xs : List A) (i : ℕ) → nat_lt i (length xs) ≡ true → (x : A) × (slice_get xs i ≡ Some x)
the_held [] i h = absurd (grind arith)
the_held (x ∷ xs) zero h = (x, refl)
the_held (x ∷ xs) (suc i) h = the_held xs i (grind arith)

module _ (m c : Collection) (wm : IsWellFormed m) (wc : IsWellFormed c) (once : ExportsOnce c) where
  -- an item of the first kind has, under these names, one of the sort of the second kind
  abbrev Offers : ItemKind → List Name → ItemKind → Type 0
  Offers k names j = (l : ItemKind) × HasInside m k names l × (sort_of_kind l ≡ sort_of_kind j)

  -- each export of an instance of the second collection is one of the first, of a subtype
  pub exports_sub : (i' i : InterfaceId) (p : ℕ) (name : Name) (l : ItemKind) → slice_get (interface_exports c i) p ≡ Some (name, l)
      → holds_type m (ty.Interface i') ≡ true → holds_type c (ty.Interface i) ≡ true → IsSubtype m (kind.Instance i') c (kind.Instance i)
      → (q : ℕ) × (l' : ItemKind) × (slice_get (interface_exports m i') q ≡ Some (name, l')) × (holds_type m (kind_type l') ≡ true) × (holds_type c (kind_type l) ≡ true) × IsSubtype m l' c l
  exports_sub i' i p name l at held held_c sub =
      let (h, is, listed) = the_interface c i p (name, l) at in
      let (h', is') = the_held m.interfaces i'.0 held in
      let xs : Name → TypeTree Name = exports_tree m h'.item.exports in
      let ys : Name → TypeTree Name = exports_tree c h.item.exports in
      let s : Sub (instance xs) (instance ys) = subst (λ t. Sub t (instance ys)) (instance_tree m wm i' h' is' held)
      (subst (λ t. Sub (type_tree m (ty.Interface i')) t) (instance_tree c wc i h is held_c) (of_instance_items (type_tree m (ty.Interface i')) (type_tree c (ty.Interface i)) sub)) in
      let y : ys name ≡ kind_tree c l = exported_at c h.item.exports p name l (once i h.item (ap item_of is)) listed in
      let sub_l : Sub (xs name) (kind_tree c l) = subst (λ t. Sub (xs name) t) y (of_instances xs ys s name (λ none. there c l (ap top (sym y ∙ none)))) in
      split h' is' sub_l (held_export c wc i h is p name l listed) (exported_from m h'.item.exports name) where
        split : (h' : Held Interface) → slice_get m.interfaces i'.0 ≡ Some h' → Sub (exports_tree m h'.item.exports name) (kind_tree c l) → holds_type c (kind_type l) ≡ true
            → (exports_tree m h'.item.exports name ≡ absent) ⊎ ((p : ℕ) × (k : ItemKind) × (slice_get h'.item.exports p ≡ Some (name, k)) × (exports_tree m h'.item.exports name ≡ kind_tree m k))
            → (q : ℕ) × (l' : ItemKind) × (slice_get (interface_exports m i') q ≡ Some (name, l')) × (holds_type m (kind_type l') ≡ true) × (holds_type c (kind_type l) ≡ true) × IsSubtype m l' c l
        split h' is' sub_l held_l (inl none) = absurd (there c l (sym (same_top absent (kind_tree c l) (subst (λ t. Sub t (kind_tree c l)) none sub_l))))
        split h' is' sub_l held_l (inr (q, l', at', same)) =
            (q, l', ap (λ o. slice_get (option_case (item_of o) [] (λ x. x.exports)) q) is' ∙ at', held_export m wm i' h' is' q name l' at', held_l, subst (λ t. Sub t (kind_tree c l)) same sub_l)

  -- what is a subtype of an instance is one
  pub instance_sub : (k : ItemKind) (i : InterfaceId) → IsSubtype m k c (kind.Instance i) → (i' : InterfaceId) × (k ≡ kind.Instance i')
  instance_sub (kind.Instance i') i sub = (i', refl)
  instance_sub (kind.TypeItem t) i sub = absurd (omega (arith, same_top (kind_tree m (kind.TypeItem t)) (kind_tree c (kind.Instance i)) sub))
  instance_sub (kind.Func f) i sub = absurd (omega (arith, same_top (kind_tree m (kind.Func f)) (kind_tree c (kind.Instance i)) sub))
  instance_sub (kind.Component w) i sub = absurd (omega (arith, same_top (kind_tree m (kind.Component w)) (kind_tree c (kind.Instance i)) sub))
  instance_sub (kind.Module x) i sub = absurd (omega (arith, same_top (kind_tree m (kind.Module x)) (kind_tree c (kind.Instance i)) sub))
  instance_sub (kind.Value v) i sub = absurd (omega (arith, same_top (kind_tree m (kind.Value v)) (kind_tree c (kind.Instance i)) sub))

  -- and of a type item, one of a type that is a subtype
  pub type_item_sub : (k : ItemKind) (a : AnyType) → IsSubtype m k c (kind.TypeItem a) → (b : AnyType) × (k ≡ kind.TypeItem b) × Sub (type_tree m b) (type_tree c a)
  type_item_sub (kind.TypeItem b) a sub = (b, refl, of_type_items (type_tree m b) (type_tree c a) sub)
  type_item_sub (kind.Instance i) a sub = absurd (omega (arith, same_top (kind_tree m (kind.Instance i)) (kind_tree c (kind.TypeItem a)) sub))
  type_item_sub (kind.Func f) a sub = absurd (omega (arith, same_top (kind_tree m (kind.Func f)) (kind_tree c (kind.TypeItem a)) sub))
  type_item_sub (kind.Component w) a sub = absurd (omega (arith, same_top (kind_tree m (kind.Component w)) (kind_tree c (kind.TypeItem a)) sub))
  type_item_sub (kind.Module x) a sub = absurd (omega (arith, same_top (kind_tree m (kind.Module x)) (kind_tree c (kind.TypeItem a)) sub))
  type_item_sub (kind.Value v) a sub = absurd (omega (arith, same_top (kind_tree m (kind.Value v)) (kind_tree c (kind.TypeItem a)) sub))

  offers_export : (k : ItemKind) (i : InterfaceId) (p : ℕ) (name : Name) (l j : ItemKind) (rest : List Name) → slice_get (interface_exports c i) p ≡ Some (name, l)
      → ((l' : ItemKind) → holds_type m (kind_type l') ≡ true → holds_type c (kind_type l) ≡ true → IsSubtype m l' c l → Offers l' rest j)
      → holds_type m (kind_type k) ≡ true → holds_type c (ty.Interface i) ≡ true → IsSubtype m k c (kind.Instance i) → Offers k (name ∷ rest) j
  offers_export (kind.Instance i') i p name l j rest at onward held held_c sub =
      let (h, is, listed) = the_interface c i p (name, l) at in
      let (h', is') = the_held m.interfaces i'.0 held in
      let xs : Name → TypeTree Name = exports_tree m h'.item.exports in
      let ys : Name → TypeTree Name = exports_tree c h.item.exports in
      let s : Sub (instance xs) (instance ys) = subst (λ t. Sub t (instance ys)) (instance_tree m wm i' h' is' held)
      (subst (λ t. Sub (type_tree m (ty.Interface i')) t) (instance_tree c wc i h is held_c) (of_instance_items (type_tree m (ty.Interface i')) (type_tree c (ty.Interface i)) sub)) in
      let y : ys name ≡ kind_tree c l = exported_at c h.item.exports p name l (once i h.item (ap item_of is)) listed in
      let sub_l : Sub (xs name) (kind_tree c l) = subst (λ t. Sub (xs name) t) y (of_instances xs ys s name (λ none. there c l (ap top (sym y ∙ none)))) in
      split h' is' sub_l (exported_from m h'.item.exports name) where
        split : (h' : Held Interface) → slice_get m.interfaces i'.0 ≡ Some h' → Sub (exports_tree m h'.item.exports name) (kind_tree c l)
            → (exports_tree m h'.item.exports name ≡ absent) ⊎ ((p : ℕ) × (k : ItemKind) × (slice_get h'.item.exports p ≡ Some (name, k)) × (exports_tree m h'.item.exports name ≡ kind_tree m k)) → Offers (kind.Instance i') (name ∷ rest) j
        split h' is' sub_l (inl none) = absurd (there c l (sym (same_top absent (kind_tree c l) (subst (λ t. Sub t (kind_tree c l)) none sub_l))))
        split h' is' sub_l (inr (q, l', at', same)) =
            let (h, is, listed) = the_interface c i p (name, l) at in
            let (r, has, sorts) = onward l' (held_export m wm i' h' is' q name l' at') (held_export c wc i h is p name l listed) (subst (λ t. Sub t (kind_tree c l)) same sub_l) in
            (r, inside i' q name l' r rest (ap (λ o. slice_get (option_case (item_of o) [] (λ x. x.exports)) q) is' ∙ at') has, sorts)
  offers_export (kind.TypeItem t) i p name l j rest at onward held held_c sub = absurd (omega (arith, same_top (kind_tree m (kind.TypeItem t)) (kind_tree c (kind.Instance i)) sub))
  offers_export (kind.Func f) i p name l j rest at onward held held_c sub = absurd (omega (arith, same_top (kind_tree m (kind.Func f)) (kind_tree c (kind.Instance i)) sub))
  offers_export (kind.Component w) i p name l j rest at onward held held_c sub = absurd (omega (arith, same_top (kind_tree m (kind.Component w)) (kind_tree c (kind.Instance i)) sub))
  offers_export (kind.Module x) i p name l j rest at onward held held_c sub = absurd (omega (arith, same_top (kind_tree m (kind.Module x)) (kind_tree c (kind.Instance i)) sub))
  offers_export (kind.Value v) i p name l j rest at onward held held_c sub = absurd (omega (arith, same_top (kind_tree m (kind.Value v)) (kind_tree c (kind.Instance i)) sub))

  offers : (k j0 : ItemKind) (names : List Name) (j : ItemKind) → HasInside c j0 names j → holds_type m (kind_type k) ≡ true → holds_type c (kind_type j0) ≡ true → IsSubtype m k c j0 → Offers k names j
  offers k j0 names j (itself _) held held_c sub = (k, itself k, sym (top_sort m k) ∙ ap sort_of_top (same_top (kind_tree m k) (kind_tree c j0) sub) ∙ top_sort c j0)
  offers k j0 names j (inside i p name l _ rest at more) held held_c sub = offers_export k i p name l j rest at (λ l' held' held_l sub'. offers l' l rest j more held' held_l sub') held held_c sub

  -- so an item of a subtype has, of each sort, what an item of the other has
  pub subtype_covers : ExportsOnce m → (k j : ItemKind) → holds_type m (kind_type k) ≡ true → holds_type c (kind_type j) ≡ true → IsSubtype m k c j
      → (b : Bindings) (side : Side) (path : List Place) → Covers c j (placed_item m b side path k)
  subtype_covers once_m k j held held_c sub b side path names l has =
      let (r, inside_m, sorts) = offers k j names l has held held_c sub in
      subst (λ t. IsOfSort t (item_inside (placed_item m b side path k) names)) sorts (held_covers m wm once_m b side path k held names r inside_m)
