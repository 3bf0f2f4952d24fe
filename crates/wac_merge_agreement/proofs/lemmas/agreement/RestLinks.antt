-- What entries lead to is what their classes rest on.
use Rattle.std.proofs.Common.{◌≡◌, ◌≢◌, ℕ, true, ◌&&◌, List, [], ◌∷◌, length, Option, Some, None, slice_get, IsSome, refl, ap, sym, ◌∙◌, subst, inl, inr, ◌⊎◌, arith}
use Rattle.std.specs.Prelude.{◌↔◌}
use Rattle.std.specs.List.{Contains}
use Rattle.std.specs.Option.{option_map}
use Rattle.std.proofs.lemmas.Bool.{and_parts, or_cases}
use Rattle.std.proofs.lemmas.Option.{get_or_from_slice_get, slice_get_read, slice_get_within}
use Rattle.wac_types_shapes.specs.primitives.Name.{Name, same_name, find_name, option_case}
use Rattle.wac_types_shapes.specs.primitives.Tree.{Place, TypeTree, Leaf, type_equal, function_item, instance_item, component_item, module_item, value_item}
use Rattle.wac_types_collection.specs.collection.Collection.{Collection, IsWellFormed, item_at}
use Rattle.wac_types_collection.specs.wide.Wide.{UsesWidely, each_once, wide_uses}
use Rattle.wac_types_collection.proofs.lemmas.wide.Members.{in_none, in_first, in_rest, in_parts}
use Rattle.wac_types_collection.proofs.lemmas.wide.Once.{each_new}
use Rattle.wac_types_collection.proofs.lemmas.wide.Wide.{wide_law}
use Rattle.wac_types_collection.specs.collection.Held.{resolved}
use Rattle.wac_types_collection.specs.subtyping.Called.{Called}
use Rattle.wac_types_shapes.specs.declared.shapes.component.InterfaceId.{InterfaceId}
use Rattle.wac_types_shapes.specs.declared.shapes.component.Interface.{Interface}
use Rattle.wac_types_shapes.specs.declared.shapes.component.ResourceId.{ResourceId}
use Rattle.wac_types_shapes.specs.declared.shapes.component.ItemKind.{ItemKind}
use Rattle.wac_types_shapes.specs.declared.shapes.component.ItemKind.TheVariants as kind
use Rattle.wac_types_shapes.specs.declared.shapes.component.«Type».TheVariants as ty
use Rattle.wac_types_shapes.proofs.lemmas.shapes.Names.{same_name-refl, same_name-true}
use Rattle.wac_merge_classes.specs.entries.Agreement.{compared}
use Rattle.wac_merge_classes.specs.entries.Binding.{binding_class, root_bindings}
use Rattle.wac_merge_classes.specs.entries.Bindings.{AreBindings, ClassBindings}
use Rattle.wac_merge_classes.specs.entries.Classes.{AreClasses, Entry, by_names, class_names, is_asked, is_instance, members, names_instance, names_of_classes, same_class, same_track}
use Rattle.wac_merge_classes.specs.terms.ClassOrder.{Mentions, RestsOn, begins_at, by_resource, by_use}
use Rattle.wac_merge_agreement.specs.private.agreement.Compared.{AreCompared}
use Rattle.wac_merge_classes.specs.terms.NoDisagreement.{HasNoDisagreement}
use Rattle.wac_merge_tables.specs.private.tables.Nodes.{Node, Item, a_type, a_func, an_instance, a_component, a_module, a_value, and_optional, item_tree, tree_at, type_of}
use Rattle.wac_merge_agreement.specs.private.agreement.Reach.{Reaches, IsOfClass, in_type_item, in_function_item, in_instance_item, in_component_item, in_module_item, in_value_item}
use Rattle.wac_edges.specs.private.cycles.Numbers.{Has}
use Rattle.wac_merge_agreement.specs.private.agreement.Resting.{EntryLeads, ItemLeads, classes_used, first_class, interface_class, used_classes}
use Rattle.wac_merge_classes.specs.terms.Union.{member_tree}
use Rattle.wac_merge_classes.proofs.lemmas.entries.Canonical.{class_name-asked}
use Rattle.wac_merge_classes.proofs.lemmas.entries.ClassFacts.{class-sym, class-trans, one-position}
use Rattle.wac_edges.proofs.KeySets.{In, has_in, in_has}
use Rattle.wac_merge_classes.proofs.lemmas.entries.Lists.{any-at, any-found, some-at}
use Rattle.wac_merge_agreement.proofs.lemmas.agreement.Reaching.{inside}
use Rattle.wac_merge_agreement.proofs.lemmas.agreement.Resting.{BindsNothing, IsNoResource, Same, class_none, member_resource, same_member, same_member_instance}
use Rattle.wac_merge_agreement.proofs.lemmas.agreement.RestKinds.{all_nothing, filter-at}
use Rattle.wac_merge_classes.proofs.lemmas.terms.Found.{at-filter}
use Rattle.wac_merge_agreement.proofs.lemmas.agreement.RestNames.{compared-same}
use Rattle.wac_merge_agreement.proofs.lemmas.agreement.RestSets.{used_widely}

pub contains_at : {X : Type 0} (xs : List X) (k : ℕ) (x : X) → slice_get xs k ≡ Some x → Contains xs x
contains_at xs k x at = (k, slice_get_within xs k x at, get_or_from_slice_get xs k x x at)

pub at_contains : {X : Type 0} (xs : List X) (x : X) → Contains xs x → (k : ℕ) × (slice_get xs k ≡ Some x)
at_contains xs x (k, low, is) = (k, slice_get_read xs (length xs) k x refl low (sym is))

-- ---- items and their types
module _ (ns : List Node) (b : ℕ) where
  abbrev R : TypeTree Called → Type 0
  R t = Reaches (IsOfClass b) t

  to_item : (x : Item) → R (tree_at ns (type_of x)) → R (item_tree (tree_at ns) x)
  to_item (a_type n) h = in_type_item (tree_at ns n) h
  to_item (a_func n) h = in_function_item (tree_at ns n) h
  to_item (an_instance n) h = in_instance_item (tree_at ns n) h
  to_item (a_component n) h = in_component_item (tree_at ns n) h
  to_item (a_module n) h = in_module_item (tree_at ns n) h
  to_item (a_value n) h = in_value_item (tree_at ns n) h

  of_item : (x : Item) → R (item_tree (tree_at ns) x) → R (tree_at ns (type_of x))
  of_item (a_type n) h = inside (IsOfClass b) (type_equal (tree_at ns n)) h
  of_item (a_func n) h = inside (IsOfClass b) (function_item (tree_at ns n)) h
  of_item (an_instance n) h = inside (IsOfClass b) (instance_item (tree_at ns n)) h
  of_item (a_component n) h = inside (IsOfClass b) (component_item (tree_at ns n)) h
  of_item (a_module n) h = inside (IsOfClass b) (module_item (tree_at ns n)) h
  of_item (a_value n) h = inside (IsOfClass b) (value_item (tree_at ns n)) h

-- ---- uses
module _ (c : Collection) (names : List (Name × ℕ)) where
  -- an interface whose id has a class
  record HasClass (i : InterfaceId) (b : ℕ) : Type 0 where
    pub it : Interface
    pub id : Name
    pub is_held : item_at c.interfaces i.0 ≡ Some it
    pub is_id : it.id ≡ Some id
    pub found : find_name names id ≡ Some b

  has_class : (i : InterfaceId) (b : ℕ) → interface_class c names i ≡ Some b → HasClass i b
  has_class i b h = at (item_at c.interfaces i.0) refl h where
    known : (it : Interface) → item_at c.interfaces i.0 ≡ Some it → (o : Option Name) → it.id ≡ o → option_case o None (λ id. find_name names id) ≡ Some b → HasClass i b
    known it is None has e = cc
    known it is (Some id) has e = record { it = it; id = id; is_held = is; is_id = has; found = e }

    at : (o : Option Interface) → item_at c.interfaces i.0 ≡ o → option_case o None (λ it. option_case it.id None (λ id. find_name names id)) ≡ Some b → HasClass i b
    at None is e = cc
    at (Some it) is e = known it is it.id refl e

  of_class : (i : InterfaceId) (b : ℕ) → HasClass i b → interface_class c names i ≡ Some b
  of_class i b h =
      ap (λ (o : Option Interface). option_case o None (λ it. option_case it.id None (λ id. find_name names id))) h.is_held
      ∙ (ap (λ (o : Option Name). option_case o None (λ id. find_name names id)) h.is_id ∙ h.found)

  in_and : (o : Option ℕ) (ks : List ℕ) (b : ℕ) → In (and_optional o ks) b → (o ≡ Some b) ⊎ In ks b
  in_and None ks b h = inr h
  in_and (Some n) ks b (inl e) = inl (ap (λ x. Some x) (sym e))
  in_and (Some n) ks b (inr r) = inr r

  and_first : (o : Option ℕ) (ks : List ℕ) (b : ℕ) → o ≡ Some b → In (and_optional o ks) b
  and_first None ks b e = cc
  and_first (Some n) ks b e = let same : n ≡ b = cc in inl (sym same)

  and_rest : (o : Option ℕ) (ks : List ℕ) (b : ℕ) → In ks b → In (and_optional o ks) b
  and_rest None ks b h = h
  and_rest (Some n) ks b h = inr h

  find_used : (is : List InterfaceId) (b : ℕ) → In (used_classes c names is) b → (j : InterfaceId) × Contains is j × (interface_class c names j ≡ Some b)
  find_used [] b h = absurd h
  find_used (i ∷ is) b h = elim (in_and (interface_class c names i) (used_classes c names is) b h) [
    | inl e ↦ (i, in_first i is, e)
    | inr r ↦ let w = find_used is b r in (w.0, in_rest i w.0 is w.1, w.2)
  ]

  used_there : (is : List InterfaceId) (j : InterfaceId) (b : ℕ) → Contains is j → interface_class c names j ≡ Some b → In (used_classes c names is) b
  used_there [] j b h known = absurd (in_none j h)
  used_there (i ∷ is) j b h known = elim (in_parts i j is h) [
    | inl same ↦ and_first (interface_class c names i) (used_classes c names is) b (ap (interface_class c names) (sym same) ∙ known)
    | inr r ↦ and_rest (interface_class c names i) (used_classes c names is) b (used_there is j b r known)
  ]

-- ---- names of instances, and of classes, are asked for
asked_instance : (es : List Entry) (n : Name) → names_instance es n ≡ true → is_asked es n ≡ true
asked_instance es n t =
    let w = any-found (λ e. same_name e.name n && is_instance e.kind) es t in
    let p = and_parts (same_name w.1.name n) (is_instance w.1.kind) w.3 in
    any-at (λ e. same_name e.name n) es w.0 w.1 w.2 p.0

asked_class : (es : List Entry) (k : ℕ) (m : Name) → slice_get (class_names by_names es) k ≡ Some m → is_asked es m ≡ true
asked_class es k m at = class_name-asked es es m (any-at (λ n. same_name n m) (names_of_classes by_names es es) k m at (same_name-refl m))

asked_one : (es : List Entry) (n : Name) (k : ℕ) (m : Name) → slice_get (class_names by_names es) k ≡ Some m → same_class by_names es n m ≡ true → is_asked es n ≡ true
asked_one es n k m at t = elim (or_cases (same_name n m) (same_track (by_names.track n) (by_names.track m) && (names_instance es n && names_instance es m)) t) [
  | inl s ↦ subst (λ (x : Name). is_asked es x ≡ true) (sym (same_name-true n m s)) (asked_class es k m at)
  | inr o ↦
      let p = and_parts (same_track (by_names.track n) (by_names.track m)) (names_instance es n && names_instance es m) o in
      asked_instance es n (and_parts (names_instance es n) (names_instance es m) p.1).0
]

-- ---- members of classes, and the classes that they use
module _ (c : Collection) (es : List Entry) (numbers positions : List ℕ) (names : List (Name × ℕ)) (classes : AreClasses by_names es numbers positions names) (wf : IsWellFormed c) where
  -- a member of a class stands somewhere, with the number of the class
  pub record IsMember (a : ℕ) (class : Name) (e : Entry) : Type 0 where
    pub at : ℕ
    pub is_entry : slice_get es at ≡ Some e
    pub is_number : slice_get numbers at ≡ Some a
    pub of : same_class by_names es class e.name ≡ true

  pub is_member : (a : ℕ) (class : Name) (e : Entry) → slice_get (class_names by_names es) a ≡ Some class → Contains (members by_names es class) e → IsMember a class e
  is_member a class e is has =
      let m = at_contains (members by_names es class) e has in
      let w = at-filter (λ y. same_class by_names es class y.name) es m.0 e m.1 in
      let low = slice_get_within es w.0 e w.1 in
      let n = some-at numbers w.0 (omega (arith, classes.counted, low)) in
      let d = classes.numbered w.0 n.0 e w.1 n.1 in
      let same : n.0 ≡ a = one-position by_names es es n.0 a d.0 class d.1 is (class-trans by_names es d.0 e.name class d.2 (class-sym by_names es class e.name w.2)) in
      record { at = w.0; is_entry = w.1; is_number = n.1 ∙ ap (λ (y : ℕ). Some y) same; of = w.2 }

  -- a member that uses an interface of the class b
  pub use_rests : (a b : ℕ) (class : Name) (e : Entry) → a ≢ b → slice_get (class_names by_names es) a ≡ Some class → Contains (members by_names es class) e → (j : InterfaceId) → e.kind ≡ kind.Instance j → Has (classes_used c names j) b
      → RestsOn by_names c es a b
  use_rests a b class e other is_class member j is h =
      let once = each_once (wide_uses c j) in
      let w = find_used c names once b (has_in (used_classes c names once) b h) in
      let u = has_class c names w.0 b w.2 in
      let d = classes.classed u.id b u.found in
      by_use a b class d.0 u.id e j w.0 u.it other is_class d.1 member is (used_widely c wf j w.0 w.1) u.is_held u.is_id (class-sym by_names es d.0 u.id d.2)

  found_class : (id : Name) (b : ℕ) (m : Name) → slice_get (class_names by_names es) b ≡ Some m → same_class by_names es id m ≡ true → is_asked es id ≡ true → find_name names id ≡ Some b
  found_class id b m is one asked = split (find_name names id) refl ((classes.found id).1 asked) where
    split : (o : Option ℕ) → find_name names id ≡ o → IsSome o → find_name names id ≡ Some b
    split None at h = cc
    split (Some k) at h =
        let d = classes.classed id k at in
        let same : k ≡ b = one-position by_names es es k b d.0 m d.1 is (class-trans by_names es d.0 id m d.2 one) in
        at ∙ ap (λ (y : ℕ). Some y) same

  -- the class of an interface that is used
  pub used_class : (b : ℕ) (name_of id : Name) (i j : InterfaceId) (used : Interface) → slice_get (class_names by_names es) b ≡ Some name_of → UsesWidely c i j → item_at c.interfaces j.0 ≡ Some used → used.id ≡ Some id → same_class by_names es id name_of ≡ true
      → Has (classes_used c names i) b
  used_class b name_of id i j used is_other widely is_used has_id one =
      let found = found_class id b name_of is_other one (asked_one es id b name_of is_other one) in
      let known : interface_class c names j ≡ Some b = of_class c names j b (record { it = used; id = id; is_held = is_used; is_id = has_id; found = found }) in
      let among : Contains (each_once (wide_uses c i)) j = each_new [] (wide_uses c i) j ((wide_law c wf i j).0 widely) in
      in_has (classes_used c names i) b (used_there c names (each_once (wide_uses c i)) j b among known)

module _ (ns : List Node) (c : Collection) (es : List Entry) (xs : List Item) (numbers positions : List ℕ) (names : List (Name × ℕ)) (bs : ClassBindings)
    (classes : AreClasses by_names es numbers positions names) (bindings : AreBindings c es bs) (counted : length xs ≡ length es) (items : AreCompared ns c es xs)
    (agree : HasNoDisagreement by_names c es) (wf : IsWellFormed c) where
  abbrev root : ResourceId → Option Leaf
  root = root_bindings by_names c es (λ k. k)

  -- ---- one entry
  module _ (i a b : ℕ) (class : Name) (e : Entry) (x : Item) (at : slice_get es i ≡ Some e) (x_at : slice_get xs i ≡ Some x) (is_class : slice_get (class_names by_names es) a ≡ Some class)
      (of : same_class by_names es class e.name ≡ true) (other : a ≢ b) where
    inside_class : Contains (members by_names es class) e
    inside_class = let w = filter-at (λ y. same_class by_names es class y.name) es i e at of in contains_at (members by_names es class) w.0 e w.1

    -- each class stands at its number
    in_place : (l : ℕ) → (l ≡ b) ↔ (l ≡ b)
    in_place l = (λ h. h, λ h. h)

    abbrev Means : ItemKind → Type 0
    Means k = Mentions (λ l. begins_at b l.path) (member_tree by_names c es class a root k)

    item_is : (k : ItemKind) → e.kind ≡ k → item_tree (tree_at ns) x ≡ compared by_names c es class k
    item_is k is = (items i e x at x_at).is ∙ (compared-same c es e.name class (class-sym by_names es class e.name of) e.kind ∙ ap (compared by_names c es class) is)

    reaches : (k : ItemKind) → e.kind ≡ k → Same b b (member_tree by_names c es class a root k) (compared by_names c es class k) → Means k ↔ Reaches (IsOfClass b) (tree_at ns (type_of x))
    reaches k is same = (
      λ h. of_item ns b x (subst (λ (t : TypeTree Called). Reaches (IsOfClass b) t) (sym (item_is k is)) (same.0 h)),
      λ h. same.1 (subst (λ (t : TypeTree Called). Reaches (IsOfClass b) t) (item_is k is) (to_item ns b x h)),
    )

    of_instance : (j : InterfaceId) → e.kind ≡ kind.Instance j → Means (kind.Instance j) ↔ Reaches (IsOfClass b) (tree_at ns (type_of x))
    of_instance j is = reaches (kind.Instance j) is (same_member_instance b b (λ l. l) in_place by_names c es class a j)

    of_other : (k : ItemKind) → e.kind ≡ k → BindsNothing k → IsNoResource k → Means k ↔ Reaches (IsOfClass b) (tree_at ns (type_of x))
    of_other k is none plain =
        reaches k is
        (same_member b b (λ l. l) in_place by_names c es class a k (class_none by_names c es class (all_nothing c es agree class i e at of (subst (λ (y : ItemKind). BindsNothing y) (sym is) none))) plain)

    first_is : (q : ResourceId) → first_class c bs q ≡ option_map (λ p. p.0) (binding_class by_names c es (resolved c q))
    first_is q = ap (option_map (λ p. p.0)) (bindings.firsts (resolved c q))

    bound_by : (o : Option (ℕ × List Place)) → option_map (λ p. p.0) o ≡ Some b → (p : List Place) × (o ≡ Some (b, p))
    bound_by None e = cc
    bound_by (Some (j, p)) e = let same : j ≡ b = cc in (p, ap (λ (y : ℕ). Some (y, p)) same)

    of_resource : (q : ResourceId) → Means (kind.TypeItem (ty.Resource q)) ↔ (first_class c bs q ≡ Some b)
    of_resource q =
        let m = member_resource b b (λ l. l) in_place by_names c es class a q (λ s. other (sym s)) in (
          λ h. let w = m.0 h in first_is q ∙ ap (option_map (λ p. p.0)) w.1,
          λ h. m.1 (bound_by (binding_class by_names c es (resolved c q)) (sym (first_is q) ∙ h)),
        )

    -- a use of an interface of the class b
    uses : (j : InterfaceId) → e.kind ≡ kind.Instance j → Has (classes_used c names j) b → RestsOn by_names c es a b
    uses = use_rests c es numbers positions names classes wf a b class e other is_class inside_class

    means : (k : ItemKind) → e.kind ≡ k → Means k → RestsOn by_names c es a b
    means k is h = by_resource a b class e other is_class inside_class (subst Means (sym is) h)

    -- what the entry leads to
    pub onward : (k : ItemKind) → e.kind ≡ k → ItemLeads ns c names bs k x b → RestsOn by_names c es a b
    onward (kind.Instance j) is (inl h) = means (kind.Instance j) is ((of_instance j is).1 h)
    onward (kind.Instance j) is (inr h) = uses j is h
    onward (kind.TypeItem (ty.Resource q)) is h = means (kind.TypeItem (ty.Resource q)) is ((of_resource q).1 h)
    onward (kind.TypeItem (ty.Func f)) is h = means (kind.TypeItem (ty.Func f)) is ((of_other (kind.TypeItem (ty.Func f)) is tt tt).1 h)
    onward (kind.TypeItem (ty.Value v)) is h = means (kind.TypeItem (ty.Value v)) is ((of_other (kind.TypeItem (ty.Value v)) is tt tt).1 h)
    onward (kind.TypeItem (ty.Interface j)) is h = means (kind.TypeItem (ty.Interface j)) is ((of_other (kind.TypeItem (ty.Interface j)) is tt tt).1 h)
    onward (kind.TypeItem (ty.World w)) is h = means (kind.TypeItem (ty.World w)) is ((of_other (kind.TypeItem (ty.World w)) is tt tt).1 h)
    onward (kind.TypeItem (ty.Module m)) is h = means (kind.TypeItem (ty.Module m)) is ((of_other (kind.TypeItem (ty.Module m)) is tt tt).1 h)
    onward (kind.Func f) is h = means (kind.Func f) is ((of_other (kind.Func f) is tt tt).1 h)
    onward (kind.Component w) is h = means (kind.Component w) is ((of_other (kind.Component w) is tt tt).1 h)
    onward (kind.Module m) is h = means (kind.Module m) is ((of_other (kind.Module m) is tt tt).1 h)
    onward (kind.Value v) is h = means (kind.Value v) is ((of_other (kind.Value v) is tt tt).1 h)

    -- what it means it leads to
    pub meant : (k : ItemKind) → e.kind ≡ k → Means k → ItemLeads ns c names bs k x b
    meant (kind.Instance j) is h = inl ((of_instance j is).0 h)
    meant (kind.TypeItem (ty.Resource q)) is h = (of_resource q).0 h
    meant (kind.TypeItem (ty.Func f)) is h = (of_other (kind.TypeItem (ty.Func f)) is tt tt).0 h
    meant (kind.TypeItem (ty.Value v)) is h = (of_other (kind.TypeItem (ty.Value v)) is tt tt).0 h
    meant (kind.TypeItem (ty.Interface j)) is h = (of_other (kind.TypeItem (ty.Interface j)) is tt tt).0 h
    meant (kind.TypeItem (ty.World w)) is h = (of_other (kind.TypeItem (ty.World w)) is tt tt).0 h
    meant (kind.TypeItem (ty.Module m)) is h = (of_other (kind.TypeItem (ty.Module m)) is tt tt).0 h
    meant (kind.Func f) is h = (of_other (kind.Func f) is tt tt).0 h
    meant (kind.Component w) is h = (of_other (kind.Component w) is tt tt).0 h
    meant (kind.Module m) is h = (of_other (kind.Module m) is tt tt).0 h
    meant (kind.Value v) is h = (of_other (kind.Value v) is tt tt).0 h

  abbrev Entries : ℕ → ℕ → Type 0
  Entries = EntryLeads ns c es xs numbers names bs (length es)

  leads_rests : (a b : ℕ) → Entries a b → RestsOn by_names c es a b
  leads_rests a b l =
      let d = classes.numbered l.at a l.entry l.is_entry l.is_class in
      onward l.at a b d.0 l.entry l.item l.is_entry l.is_item d.1 d.2 l.other l.entry.kind refl l.leads

  -- a member of a class stands somewhere, with the number of the class and an item
  record IsThere (a : ℕ) (class : Name) (e : Entry) : Type 0 where
    pub at : ℕ
    pub item : Item
    pub is_entry : slice_get es at ≡ Some e
    pub is_item : slice_get xs at ≡ Some item
    pub is_number : slice_get numbers at ≡ Some a
    pub of : same_class by_names es class e.name ≡ true

  is_there : (a : ℕ) (class : Name) (e : Entry) → slice_get (class_names by_names es) a ≡ Some class → Contains (members by_names es class) e → IsThere a class e
  is_there a class e is has =
      let m = is_member c es numbers positions names classes wf a class e is has in
      let low = slice_get_within es m.at e m.is_entry in
      let x = some-at xs m.at (omega (arith, counted, low)) in
      record { at = m.at; item = x.0; is_entry = m.is_entry; is_item = x.1; is_number = m.is_number; of = m.of }

  led : (a b : ℕ) (class : Name) (e : Entry) → a ≢ b → (t : IsThere a class e) → ItemLeads ns c names bs e.kind t.item b → Entries a b
  led a b class e other t h = record {
    at = t.at;
    entry = e;
    item = t.item;
    below = slice_get_within es t.at e t.is_entry;
    is_entry = t.is_entry;
    is_item = t.is_item;
    is_class = t.is_number;
    other = other;
    leads = h;
  }

  rests_leads : (a b : ℕ) → RestsOn by_names c es a b → Entries a b
  rests_leads a b (by_use _ _ class name_of id e i j used other is_class is_other member is widely is_used has_id one) =
      let t = is_there a class e is_class member in
      let all = used_class c es numbers positions names classes wf b name_of id i j used is_other widely is_used has_id one in
      led a b class e other t (subst (λ (y : ItemKind). ItemLeads ns c names bs y t.item b) (sym is) (inr all))
  rests_leads a b (by_resource _ _ class e other is_class member h) =
      let t = is_there a class e is_class member in
      led a b class e other t (meant t.at a b class e t.item t.is_entry t.is_item is_class t.of other e.kind refl h)

  pub entries_rest : (a b : ℕ) → Entries a b ↔ RestsOn by_names c es a b
  entries_rest a b = (leads_rests a b, rests_leads a b)
