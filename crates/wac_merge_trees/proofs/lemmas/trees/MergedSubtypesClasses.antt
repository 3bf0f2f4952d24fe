-- What the members of a class agree in: the parts of its union, and the trees by name of items that are no instances.
use Rattle.std.proofs.Common.{◌≡◌, ℕ, true, false, List, [], map, Option, Some, None, slice_get, refl, sym, ap, ◌∙◌}
use Rattle.std.specs.List.{Contains}
use Rattle.std.specs.Option.{option_map}
use Rattle.wac_types_shapes.specs.primitives.Name.{Name, first_some, option_case}
use Rattle.wac_types_shapes.specs.primitives.Tree.{Leaf, Place, TypeTree, absent, exported, instance, instance_item}
use Rattle.wac_types_collection.specs.collection.Collection.{Collection, HasResource, IsWellFormed, holds_type, interface_exports, item_at}
use Rattle.wac_types_shapes.specs.shapes.Kinds.{kind_type}
use Rattle.wac_types_collection.specs.collection.Held.{Names, item_tree, items_under, resolved, unfolded}
use Rattle.wac_types_shapes.specs.declared.shapes.component.Interface.{Interface}
use Rattle.wac_types_shapes.specs.declared.shapes.component.InterfaceId.{InterfaceId}
use Rattle.wac_types_shapes.specs.declared.shapes.component.ItemKind.{ItemKind}
use Rattle.wac_types_shapes.specs.declared.shapes.component.ItemKind.TheVariants as kind
use Rattle.wac_types_shapes.specs.declared.shapes.component.ResourceId.{ResourceId}
use Rattle.wac_types_shapes.specs.declared.shapes.component.«Type».TheVariants as ty
use Rattle.wac_types_collection.specs.subtyping.Called.{Called, by_binding, called_at, itself, of_class, own_leaf, resource_name}
use Rattle.wac_types_collection.specs.subtyping.Subtype.{IsSubtype, Sub, type_tree, kind_tree, resource_names}
use Rattle.wac_types_collection.proofs.lemmas.subtyping.Relation.{sub_refl}
use Rattle.wac_merge_classes.specs.entries.Agreement.{Agree, called_inside, called_outside, compared}
use Rattle.wac_merge_classes.specs.terms.Became.{IsNew}
use Rattle.wac_merge_classes.specs.entries.Binding.{binding_class, class_binds}
use Rattle.wac_merge_classes.specs.entries.Bindings.{ClassBindings}
use Rattle.wac_merge_classes.specs.entries.Classes.{Entry, NameRules, by_names, same_class}
use Rattle.wac_merge_classes.specs.declared.terms.fresh.Fresh.{Fresh}
use Rattle.wac_merge_classes.specs.declared.terms.parts.Part.{Part}
use Rattle.wac_merge_classes.specs.declared.terms.parts.Union.{Union}
use Rattle.wac_merge_classes.specs.terms.Unions.{part_lists}
use Rattle.wac_merge_classes.proofs.lemmas.terms.Alike.{agree_at}
use Rattle.wac_merge_trees.proofs.lemmas.trees.MergedSubtypes.{AreSubtyped, merged_subtype}
use Rattle.wac_merge_trees.proofs.lemmas.trees.MergedSubtypesKinds.{IsInstance, new_tree, resource_tree}
use Rattle.wac_merge_trees.proofs.lemmas.trees.MergedSubtypesTrees.{sub_to}
use Rattle.wac_merge_trees.proofs.lemmas.trees.MergedSubtypesNames.{KeepsNames, called_name, name_there, same_by_name}
use Rattle.wac_merge_trees.proofs.lemmas.trees.UnionTrees.{part_called}

-- ---- around and inside the members of a class resources keep their names

module _ (rules : NameRules) (c : Collection) (es : List Entry) where
  pub outside_keeps : KeepsNames c (called_outside rules c es)
  outside_keeps r held = ap Some (by (binding_class rules c es r)) where
    by : (o : Option (ℕ × List Place)) → called_name (option_case o (itself r (resource_name c r)) (λ b. of_class b.0 b.1 (resource_name c r))) ≡ resource_name c r
    by None = refl
    by (Some b) = refl

  pub inside_keeps : (class : Name) (it : Interface) → KeepsNames c (called_inside rules c es class it)
  inside_keeps class it r held = by (own_leaf c it r) (class_binds rules c es class r) where
    by : (l : Option Leaf) (o : Option (List Place)) → option_map called_name (first_some (option_case l None (λ x. Some (called_at c r x)))
        (first_some (option_case o None (λ path. Some (called_at c r (record { out = 0; side = exported; path = path })))) (called_outside rules c es r))) ≡ Some (resource_name c r)
    by (Some l) o = refl
    by None (Some path) = refl
    by None None = outside_keeps r held

  -- an instance of a class is compared as its part lists
  pub part_compared : (ps : List Part) (called : ℕ → Names Called) (class : Name) (p : ℕ) (x : Part) (it : Interface) → slice_get ps p ≡ Some x → item_at c.interfaces x.interface.0 ≡ Some it → called p ≡ called_inside rules c es class it
      → compared rules c es class (kind.Instance x.interface) ≡ instance_item (part_called c ps called p)
  part_compared ps called class p x it at item names =
      let lists : part_lists c ps p ≡ it.exports = ap (λ o. option_case o [] (λ (z : Part). interface_exports c z.interface)) at ∙ ap (λ o. option_case o [] (λ (i : Interface). i.exports)) item in
      ap (λ o. option_case o absent (λ (i : Interface). instance_item (instance (items_under (map (λ e. (e.0, item_tree (unfolded (by_binding c) c (called_inside rules c es class i)) false e.1)) i.exports))))) item
      ∙ sym (λ d. instance_item (instance (items_under (map (λ e. (e.0, item_tree (unfolded (by_binding c) c (names d)) false e.1)) (lists d)))))

  -- so two parts agree where the instances do
  pub parts_agree : (ps : List Part) (called : ℕ → Names Called) (class : Name) (p q : ℕ) (x y : Part) (it jt : Interface) → slice_get ps p ≡ Some x → slice_get ps q ≡ Some y
      → item_at c.interfaces x.interface.0 ≡ Some it → item_at c.interfaces y.interface.0 ≡ Some jt → called p ≡ called_inside rules c es class it → called q ≡ called_inside rules c es class jt
      → Agree (compared rules c es class (kind.Instance x.interface)) (compared rules c es class (kind.Instance y.interface)) → Agree (part_called c ps called p) (part_called c ps called q)
  parts_agree ps called class p q x y it jt at there item other names also h =
      agree_at (instance_item (part_called c ps called p)) (instance_item (part_called c ps called q)) (compared rules c es class (kind.Instance x.interface)) (compared rules c es class (kind.Instance y.interface))
      (sym (part_compared ps called class p x it at item names)) (sym (part_compared ps called class q y jt there other also)) h

-- ---- members of a class

-- what a part of the union of a class is of: a member that is an instance
pub record IsOfMember (c : Collection) (es : List Entry) (ps : List Part) (called : ℕ → Names Called) (class : Name) (p : ℕ) : Type 0 where
  pub part : Part
  pub interface : Interface
  pub position : ℕ
  pub entry : Entry
  pub at : slice_get ps p ≡ Some part
  pub item : item_at c.interfaces part.interface.0 ≡ Some interface
  pub calls : called p ≡ called_inside by_names c es class interface
  pub there : slice_get es position ≡ Some entry
  pub is : entry.kind ≡ kind.Instance part.interface
  pub member : same_class by_names es class entry.name ≡ true

-- ---- members that are no instances

module _ (rules : NameRules) (c : Collection) (wf : IsWellFormed c) (es : List Entry) (class : Name) where
  abbrev plain : ItemKind → TypeTree Called
  plain k = item_tree (unfolded (by_binding c) c (called_outside rules c es)) false k

  first_equal : (k : ItemKind) (t : TypeTree Called) → (IsInstance k → ⊥) → Agree (compared rules c es class k) t → plain k ≡ t
  first_equal (kind.Instance i) t never h = absurd (never tt)
  first_equal (kind.TypeItem a) t never h = h
  first_equal (kind.Func x) t never h = h
  first_equal (kind.Component w) t never h = h
  first_equal (kind.Module w) t never h = h
  first_equal (kind.Value v) t never h = h

  no_instance : (k : ItemKind) (o : Option Interface) (g : Interface → TypeTree Called) → (IsInstance k → ⊥) → plain k ≡ option_case o absent (λ it. instance_item (g it)) → ⊥
  no_instance (kind.Instance i) o g never e = never tt
  no_instance (kind.TypeItem a) None g never e = cc
  no_instance (kind.TypeItem a) (Some it) g never e = cc
  no_instance (kind.Func a) None g never e = cc
  no_instance (kind.Func a) (Some it) g never e = cc
  no_instance (kind.Component a) None g never e = cc
  no_instance (kind.Component a) (Some it) g never e = cc
  no_instance (kind.Module a) None g never e = cc
  no_instance (kind.Module a) (Some it) g never e = cc
  no_instance (kind.Value a) None g never e = cc
  no_instance (kind.Value a) (Some it) g never e = cc

  second_equal : (k l : ItemKind) → (IsInstance k → ⊥) → plain k ≡ compared rules c es class l → plain k ≡ plain l
  second_equal k (kind.Instance i) never e =
      absurd (no_instance k (item_at c.interfaces i.0) (λ it. instance (items_under (map (λ x. (x.0, item_tree (unfolded (by_binding c) c (called_inside rules c es class it)) false x.1)) it.exports))) never e)
  second_equal k (kind.TypeItem a) never e = e
  second_equal k (kind.Func x) never e = e
  second_equal k (kind.Component w) never e = e
  second_equal k (kind.Module w) never e = e
  second_equal k (kind.Value v) never e = e

  -- members of which the first is no instance have one tree by name
  pub members_equal : (k l : ItemKind) → (IsInstance k → ⊥) → holds_type c (kind_type k) ≡ true → holds_type c (kind_type l) ≡ true → Agree (compared rules c es class k) (compared rules c es class l) → kind_tree c k ≡ kind_tree c l
  members_equal k l never held also h =
      let keeps = outside_keeps rules c es in
      same_by_name c wf (called_outside rules c es) (called_outside rules c es) k l keeps keeps held also (second_equal k l never (first_equal k (compared rules c es class l) never h))

  -- what has the tree of the first is a subtype of each
  pub class_subtype : (m : Collection) (w k l : ItemKind) → kind_tree m w ≡ kind_tree c k → (IsInstance k → ⊥) → holds_type c (kind_type k) ≡ true → holds_type c (kind_type l) ≡ true → Agree (compared rules c es class k) (compared rules c es class l) → IsSubtype m w c l
  class_subtype m w k l same never held also h =
      sub_to (kind_tree m w) (kind_tree c l) (kind_tree c k) (kind_tree c k) same (sym (members_equal k l never held also h)) (sub_refl (kind_tree c k))

-- the new resource that a class is has the tree of the resource that it binds
pub whole_tree : (c m : Collection) (q r : ResourceId) → HasResource c r → resolved c r ≡ r → IsNew c m q (resource_name c r) → kind_tree m (kind.TypeItem (ty.Resource q)) ≡ kind_tree c (kind.TypeItem (ty.Resource r))
whole_tree c m q r held end new =
    new_tree c m q (resource_name c r) new ∙ sym (resource_tree c r (resource_name c r) (ap (resource_names c) end ∙ name_there c.resources r.0 held))

-- ---- what stands for a class is a subtype of each member

-- any two members of a class agree
abbrev pub MembersAgree : Collection → List Entry → Type 0
MembersAgree c es = (class : Name) (i j : ℕ) (e f : Entry) → slice_get es i ≡ Some e → slice_get es j ≡ Some f → same_class by_names es class e.name ≡ true → same_class by_names es class f.name ≡ true
    → Agree (compared by_names c es class e.kind) (compared by_names c es class f.kind)

module _ (c : Collection) (es : List Entry) (agreed : MembersAgree c es) where
  -- the parts of the union of a class agree
  pub union_agrees : (ps : List Part) (called : ℕ → Names Called) (class : Name) (p q : ℕ) → IsOfMember c es ps called class p → IsOfMember c es ps called class q → Agree (part_called c ps called p) (part_called c ps called q)
  union_agrees ps called class p q a b =
      parts_agree by_names c es ps called class p q a.part b.part a.interface b.interface a.at b.at a.item b.item a.calls b.calls
      (agree_at (compared by_names c es class (kind.Instance a.part.interface)) (compared by_names c es class (kind.Instance b.part.interface)) (compared by_names c es class a.entry.kind) (compared by_names c es class b.entry.kind)
      (ap (compared by_names c es class) (sym a.is)) (ap (compared by_names c es class) (sym b.is))
      (agreed class a.position b.position a.entry b.entry a.there b.there a.member b.member))

  -- the written interface of a class of instances is a subtype of each
  pub instance_subtype : (m : Collection) (roots : List (List InterfaceId)) (us : List Union) (ps : List Part) (bs : ClassBindings) (f : Fresh) (ids : List (Option Name)) (ws : List InterfaceId) (called : ℕ → Names Called)
      → AreSubtyped c m roots us ps bs f ids ws called → (u : ℕ) (x : Union) (w : InterfaceId) (class : Name) → slice_get us u ≡ Some x → slice_get ws u ≡ Some w
      → ((p : ℕ) → Contains x.parts.items p → IsOfMember c es ps called class p) → (p : ℕ) → Contains x.parts.items p → (o : IsOfMember c es ps called class p) → IsSubtype m (kind.Instance w) c o.entry.kind
  instance_subtype m roots us ps bs f ids ws called all u x w class at at_w each p there o =
      let sub = merged_subtype c m roots us ps bs f ids ws called all u x w at at_w (λ a b in_a in_b. union_agrees ps called class a b (each a in_a) (each b in_b)) p o.part there o.at in
      sub_to (kind_tree m (kind.Instance w)) (kind_tree c o.entry.kind) (kind_tree m (kind.Instance w)) (kind_tree c (kind.Instance o.part.interface)) refl (ap (kind_tree c) o.is)
      (Sub.instance_items (type_tree m (ty.Interface w)) (type_tree c (ty.Interface o.part.interface)) sub)

  -- what has the tree of a member that is no instance is a subtype of each member
  pub member_subtype : IsWellFormed c → (m : Collection) (w : ItemKind) (class : Name) (i j : ℕ) (e f : Entry) → slice_get es i ≡ Some e → slice_get es j ≡ Some f → same_class by_names es class e.name ≡ true → same_class by_names es class f.name ≡ true
      → (IsInstance e.kind → ⊥) → holds_type c (kind_type e.kind) ≡ true → holds_type c (kind_type f.kind) ≡ true → kind_tree m w ≡ kind_tree c e.kind → IsSubtype m w c f.kind
  member_subtype wf m w class i j e f at there first second never held also same =
      class_subtype by_names c wf es class m w e.kind f.kind same never held also (agreed class i j e f at there first second)
