-- What the entries of one class have under one name.
use Rattle.std.proofs.Common.{ℕ, ◌≡◌, ◌⊎◌, inl, inr, Bool, true, false, cond, List, [], ◌∷◌, map, length, Option, Some, None, slice_get, refl, ap, sym, ◌∙◌, subst}
use Rattle.std.proofs.Math.Path.{fun_ext}
use Rattle.wac_types_shapes.specs.primitives.Name.{Name, same_name, find_name, option_case, first_some}
use Rattle.wac_types_shapes.specs.primitives.Tree.{TypeTree, Tree, Leaf, Place, Side, imported, exported, position, named, absent, fresh, type_equal, instance, instance_item, further_out, type_in, items_in}
use Rattle.wac_types_shapes.specs.shapes.Kinds.{kind_type}
use Rattle.wac_types_shapes.specs.shapes.Named.{NoNameTwice}
use Rattle.wac_types_shapes.proofs.lemmas.shapes.Names.{find_name-at, same_name-refl, same_name-true}
use Rattle.wac_types_shapes.specs.declared.shapes.component.Interface.{Interface}
use Rattle.wac_types_shapes.specs.declared.shapes.component.InterfaceId.{InterfaceId}
use Rattle.wac_types_shapes.specs.declared.shapes.component.ResourceId.{ResourceId}
use Rattle.wac_types_shapes.specs.declared.shapes.component.ItemKind.{ItemKind}
use Rattle.wac_types_shapes.specs.declared.shapes.component.ItemKind.TheVariants as kind
use Rattle.wac_types_shapes.specs.declared.shapes.component.ValueType.{ValueType}
use Rattle.wac_types_shapes.specs.declared.shapes.component.«Type».{«Type» as AnyType}
use Rattle.wac_types_shapes.specs.declared.shapes.component.«Type».TheVariants as ty
use Rattle.wac_types_collection.specs.declared.collection.collection.Held.{Held}
use Rattle.wac_types_collection.specs.collection.Collection.{Collection, IsWellFormed, IsBefore, holds_all, holds_type, item_at, item_of, kind_types, used_types}
use Rattle.wac_types_collection.specs.collection.Held.{Names, item_tree, items_under, resolved, unfolded}
use Rattle.wac_types_collection.specs.collection.Bound.{Bindings, binds_here, held_item, held_tree, own_name, is_alias, is_here}
use Rattle.wac_types_collection.specs.subtyping.Called.{Called, bound_at, of_class, itself, by_binding, called_at, resource_name}
use Rattle.wac_types_collection.proofs.lemmas.collection.Growth.{all_within}
use Rattle.wac_types_collection.proofs.lemmas.collection.Steady.{all_right}
use Rattle.wac_merge_classes.specs.entries.Agreement.{Agree, AllMembersAgree, called_inside, called_outside, compared}
use Rattle.wac_merge_classes.specs.entries.Binding.{binding_class, class_binds, root_bindings}
use Rattle.wac_merge_classes.specs.entries.Bindings.{AreHeld}
use Rattle.wac_merge_classes.specs.entries.Classes.{Entry, by_names, members, same_class}
use Rattle.wac_merge_classes.specs.terms.Union.{inside_member, member_tree, merged, union_all}
use Rattle.wac_merge_classes.proofs.lemmas.entries.Opening.{below}
use Rattle.wac_merge_classes.proofs.lemmas.entries.Lists.{some-at}
use Rattle.wac_merge_classes.proofs.lemmas.entries.Places.{held_at}
use Rattle.wac_merge_classes.proofs.lemmas.terms.Alike.{agree_at}
use Rattle.wac_merge_classes.proofs.lemmas.terms.Found.{at-filter, find_at, no_some, some_same}
use Rattle.wac_types_collection.proofs.lemmas.collection.Leaves.{own_is_end}
use Rattle.wac_merge_imports.proofs.lemmas.fitting.FittingOwn.{own-found}
use Rattle.wac_encode_imports.proofs.CalledTrees.{called-value, placed, placed-tree}
use Rattle.wac_encode_imports.proofs.Unions.{AreSame, IsTypeOrNone, union-fresh, union-instances, union-same}

-- what is exported is held

pub export-held : (c : Collection) → IsWellFormed c → (i : InterfaceId) (it : Interface) (n : Name) (k : ItemKind) → item_at c.interfaces i.0 ≡ Some it → find_name it.exports n ≡ Some k → holds_type c (kind_type k) ≡ true
export-held c wf i it n k there found = by (slice_get c.interfaces i.0) refl there
  where
    by : (o : Option (Held Interface)) → slice_get c.interfaces i.0 ≡ o → item_of o ≡ Some it → holds_type c (kind_type k) ≡ true
    by None is e = absurd (no_some it e)
    by (Some h) is e =
        let at = find_at it.exports n k found in
        let before = all_right (IsBefore c h.before) (used_types h.item.uses) (kind_types h.item.exports) (wf.interfaces i.0 h is).1 in
        let held = all_within c h.before (kind_types h.item.exports) before in
        held_at c it.exports at.0 (n, k) (subst (λ (x : Interface). holds_all c (kind_types x.exports) ≡ true) (some_same h.item it e) held) at.1

-- items by name

items-at : {L : Type 0} (g : Name → ItemKind → TypeTree L) (es : List (Name × ItemKind)) (n : Name) → items_under (map (λ e. (e.0, g e.0 e.1)) es) n ≡ option_case (find_name es n) absent (g n)
items-at g [] n = refl
items-at g (e ∷ es) n = by (same_name n e.0) refl (items-at g es n)
  where
    by : (b : Bool) → same_name n e.0 ≡ b → items_under (map (λ x. (x.0, g x.0 x.1)) es) n ≡ option_case (find_name es n) absent (g n)
        → (cond b (g e.0 e.1) (items_under (map (λ x. (x.0, g x.0 x.1)) es) n)) ≡ option_case (cond b (Some e.1) (find_name es n)) absent (g n)
    by true is rest = ap (λ m. g m e.1) (sym (same_name-true n e.0 is))
    by false is rest = rest

-- items that agree with a type item

agree-type : (t u : TypeTree Called) → Agree t (type_equal u) → t ≡ type_equal u
agree-type (instance f) u h = h
agree-type (instance_item t) u h = h
agree-type t u h = h

item-type : (t : AnyType → TypeTree Called) (k : ItemKind) (u : TypeTree Called) → item_tree t false k ≡ type_equal u → (a : AnyType) × (k ≡ kind.TypeItem a) × (t a ≡ u)
item-type t (kind.TypeItem a) u e = (a, refl, cc)
item-type t (kind.Func f) u e = cc
item-type t (kind.Instance i) u e = cc
item-type t (kind.Component w) u e = cc
item-type t (kind.Module m) u e = cc
item-type t (kind.Value v) u e = cc

item-there : (t : AnyType → TypeTree Called) (k : ItemKind) → item_tree t false k ≡ absent → ⊥
item-there t (kind.TypeItem a) e = cc
item-there t (kind.Func f) e = cc
item-there t (kind.Instance i) e = cc
item-there t (kind.Component w) e = cc
item-there t (kind.Module m) e = cc
item-there t (kind.Value v) e = cc

-- a type item's tree
type-or-none : (c : Collection) (m : Bindings) (side : Side) (path : List Place) (a : AnyType) → IsTypeOrNone (held_item c m side path (kind.TypeItem a))
type-or-none c m side path a = by (binds_here c m side path (kind.TypeItem a))
  where
    by : (b : Bool) → IsTypeOrNone (cond b fresh (type_equal (held_tree c m a)))
    by true = tt
    by false = tt

module _ (c : Collection) (wf : IsWellFormed c) (es : List Entry) (at : ℕ → ℕ) where
  abbrev pub far : Bindings
  far = root_bindings by_names c es at

  -- the leaf of a resource, by what it is called inside an instance of a class, and outside

  abbrev leaf_inside : Called → Option Leaf
  leaf_inside (bound_at l n) = Some l
  leaf_inside (of_class k path n) = Some (record { out = 1; side = imported; path = position (at k) ∷ path })
  leaf_inside (itself r n) = None

  abbrev leaf_outside : Called → Option Leaf
  leaf_outside (bound_at l n) = Some l
  leaf_outside (of_class k path n) = Some (record { out = 0; side = imported; path = position (at k) ∷ path })
  leaf_outside (itself r n) = None

  abbrev here : List Place → Leaf
  here path = record { out = 0; side = exported; path = path }

  abbrev outside : ℕ × List Place → Leaf
  outside b = record { out = 0; side = imported; path = position (at b.0) ∷ b.1 }

  abbrev called_first : ResourceId → Option (ℕ × List Place) → Called
  called_first r q = option_case q (itself r (resource_name c r)) (λ b. of_class b.0 b.1 (resource_name c r))

  inside-leaves : (class : Name) (it : Interface) (r : ResourceId) → inside_member by_names c es class it far r ≡ option_case (called_inside by_names c es class it r) None leaf_inside
  inside-leaves class it r = by (own_name c it.uses it.exports r) (class_binds by_names c es class r) (binding_class by_names c es r)
    where
      by : (o : Option Name) (p : Option (List Place)) (q : Option (ℕ × List Place))
          → ◌≡◌ {A = Option Leaf} (first_some (option_case o None (λ n. Some (here (named n ∷ [])))) (first_some (option_case p None (λ path. Some (here path))) (option_case (option_case q None (λ b. Some (outside b))) None (λ l. Some (further_out l)))))
          (option_case (first_some (option_case (option_case o None (λ n. Some (here (named n ∷ [])))) None (λ l. Some (called_at c r l))) (first_some (option_case p None (λ path. Some (called_at c r (here path)))) (Some (called_first r q)))) None leaf_inside)
      by (Some n) p q = refl
      by None (Some path) q = refl
      by None None None = refl
      by None None (Some b) = refl

  outside-leaves : (r : ResourceId) → far r ≡ option_case (called_outside by_names c es r) None leaf_outside
  outside-leaves r = by (binding_class by_names c es r)
    where
      by : (q : Option (ℕ × List Place)) → ◌≡◌ {A = Option Leaf} (option_case q None (λ b. Some (outside b))) (leaf_outside (called_first r q))
      by None = refl
      by (Some b) = refl

  called-all : (class : Name) (it : Interface) (r : ResourceId) → (x : Called) × (called_inside by_names c es class it r ≡ Some x)
  called-all class it r =
      by (option_case (option_case (own_name c it.uses it.exports r) None (λ n. Some (here (named n ∷ [])))) None (λ l. Some (called_at c r l))) (option_case (class_binds by_names c es class r) None (λ path. Some (called_at c r (here path)))) (called_first r (binding_class by_names c es r))
    where
      by : (o p : Option Called) (z : Called) → (x : Called) × (first_some o (first_some p (Some z)) ≡ Some x)
      by (Some x) p z = (x, refl)
      by None (Some x) z = (x, refl)
      by None None z = (z, refl)

  -- a type that is called as a value type under what corresponds has its tree

  alike : (f : Called → Option Leaf) (names others : Names Called) (m n : Bindings) → ((r : ResourceId) → m r ≡ option_case (names r) None f) → ((r : ResourceId) → n r ≡ option_case (others r) None f)
      → ((r : ResourceId) → (x : Called) × (names r ≡ Some x)) → (a : AnyType) (v : ValueType) → holds_type c a ≡ true → unfolded (by_binding c) c names a ≡ unfolded (by_binding c) c others (ty.Value v)
      → (w : ValueType) × (a ≡ ty.Value w) × (held_tree c m (ty.Value w) ≡ held_tree c n (ty.Value v))
  alike f names others m n first second all a v held same =
      let w = called-value c names all a others v held same in
      (w.0, w.1, sym (placed-tree f c names m first w.0) ∙ ap (placed f) (ap (unfolded (by_binding c) c names) (sym w.1) ∙ same) ∙ placed-tree f c others n second v)

  module _ (class : Name) where
    abbrev pub inner : Interface → Bindings
    inner it = inside_member by_names c es class it far

    -- what an instance of the class exports under a name, as it is held and as it is compared

    abbrev pub exported_tree : Interface → Name → Tree
    exported_tree it n = option_case (find_name it.exports n) absent (λ k. held_item c (inner it) exported (named n ∷ []) k)

    abbrev called_tree : Interface → Name → TypeTree Called
    called_tree it n = option_case (find_name it.exports n) absent (λ k. item_tree (unfolded (by_binding c) c (called_inside by_names c es class it)) false k)

    member-instance : (p : ℕ) (i : InterfaceId) (it : Interface) → item_at c.interfaces i.0 ≡ Some it → member_tree by_names c es class p far (kind.Instance i) ≡ instance_item (instance (exported_tree it))
    member-instance p i it there =
        ap (λ (o : Option Interface). option_case o absent (λ (x : Interface). instance_item (instance (items_under (map (λ e. (e.0, held_item c (inner x) exported (named e.0 ∷ []) e.1)) x.exports))))) there
        ∙ ap (λ (h : Name → Tree). instance_item (instance h)) (fun_ext (λ n. items-at (λ m k. held_item c (inner it) exported (named m ∷ []) k) it.exports n))

    member-called : (i : InterfaceId) (it : Interface) → item_at c.interfaces i.0 ≡ Some it → compared by_names c es class (kind.Instance i) ≡ instance_item (instance (called_tree it))
    member-called i it there =
        ap (λ (o : Option Interface). option_case o absent (λ (x : Interface). instance_item (instance (items_under (map (λ e. (e.0, item_tree (unfolded (by_binding c) c (called_inside by_names c es class x)) false e.1)) x.exports))))) there
        ∙ ap (λ (h : Name → TypeTree Called). instance_item (instance h)) (fun_ext (λ n. items-at (λ m k. item_tree (unfolded (by_binding c) c (called_inside by_names c es class it)) false k) it.exports n))

    -- under the name of a type item an instance that agrees has a type item that is called the same

    alike-at : (x y : Interface) → Agree (instance_item (instance (called_tree x))) (instance_item (instance (called_tree y))) → (n : Name) (a : AnyType) (k : ItemKind) → find_name y.exports n ≡ Some (kind.TypeItem a) → find_name x.exports n ≡ Some k
        → (b : AnyType) × (k ≡ kind.TypeItem b) × (unfolded (by_binding c) c (called_inside by_names c es class x) b ≡ unfolded (by_binding c) c (called_inside by_names c es class y) a)
    alike-at x y agree n a k mine other =
        let first : called_tree x n ≡ item_tree (unfolded (by_binding c) c (called_inside by_names c es class x)) false k = ap (λ (o : Option ItemKind). option_case o absent (λ j. item_tree (unfolded (by_binding c) c (called_inside by_names c es class x)) false j)) other in
        let second : called_tree y n ≡ type_equal (unfolded (by_binding c) c (called_inside by_names c es class y) a) = ap (λ (o : Option ItemKind). option_case o absent (λ j. item_tree (unfolded (by_binding c) c (called_inside by_names c es class y)) false j)) mine in
        elim (agree n) [
          | inl none ↦ absurd (item-there (unfolded (by_binding c) c (called_inside by_names c es class x)) k (sym first ∙ none))
          | inr rest ↦ elim rest [
            | inl none ↦ absurd (item-there (unfolded (by_binding c) c (called_inside by_names c es class y)) (kind.TypeItem a) (sym second ∙ none))
            | inr both ↦
                item-type (unfolded (by_binding c) c (called_inside by_names c es class x)) k (unfolded (by_binding c) c (called_inside by_names c es class y) a)
                (sym first ∙ agree-type (called_tree x n) (unfolded (by_binding c) c (called_inside by_names c es class y) a) (subst (λ u. Agree (called_tree x n) u) second both))
          ]
        ]

    abbrev pub mates : List Entry
    mates = members by_names es class

    -- an item that is compared as an instance is one

    -- The entry is an instance of an interface of the collection.
    pub record IsInstance (e : Entry) : Type 0 where
      pub id : InterfaceId
      pub interface : Interface
      pub is : e.kind ≡ kind.Instance id
      pub there : item_at c.interfaces id.0 ≡ Some interface

    instance-kind : (k : ItemKind) (t : TypeTree Called) → holds_type c (kind_type k) ≡ true → Agree (compared by_names c es class k) (instance_item t) → (id : InterfaceId) × (it : Interface) × (k ≡ kind.Instance id) × (item_at c.interfaces id.0 ≡ Some it)
    instance-kind (kind.Instance i) t held h = let x = some-at c.interfaces i.0 (below i.0 (length c.interfaces) held) in (i, (x.0).item, refl, ap item_of x.1)
    instance-kind (kind.TypeItem a) t held h = cc
    instance-kind (kind.Func f) t held h = cc
    instance-kind (kind.Component w) t held h = cc
    instance-kind (kind.Module m) t held h = cc
    instance-kind (kind.Value v) t held h = cc

    type-kind : (k : ItemKind) (u : TypeTree Called) → compared by_names c es class k ≡ type_equal u → (a : AnyType) × (k ≡ kind.TypeItem a) × (unfolded (by_binding c) c (called_outside by_names c es) a ≡ u)
    type-kind (kind.TypeItem a) u e = item-type (unfolded (by_binding c) c (called_outside by_names c es)) (kind.TypeItem a) u e
    type-kind (kind.Instance i) u e = absurd (by (item_at c.interfaces i.0) (λ x. instance (items_under (map (λ e. (e.0, item_tree (unfolded (by_binding c) c (called_inside by_names c es class x)) false e.1)) x.exports))) e)
      where
        by : (o : Option Interface) (f : Interface → TypeTree Called) → option_case o absent (λ x. instance_item (f x)) ≡ type_equal u → ⊥
        by None f h = cc
        by (Some x) f h = cc
    type-kind (kind.Func f) u e = cc
    type-kind (kind.Component w) u e = cc
    type-kind (kind.Module m) u e = cc
    type-kind (kind.Value v) u e = cc

    module _ (agreed : AllMembersAgree by_names c es) (all_held : AreHeld c es) (p : ℕ) where
      member-held : (j : ℕ) (e : Entry) → slice_get mates j ≡ Some e → holds_type c (kind_type e.kind) ≡ true
      member-held j e at_j = let x = at-filter (λ (y : Entry). same_class by_names es class y.name) es j e at_j in all_held x.0 e x.1

      members-agree : (j k : ℕ) (x y : Entry) → slice_get mates j ≡ Some x → slice_get mates k ≡ Some y → Agree (compared by_names c es class x.kind) (compared by_names c es class y.kind)
      members-agree j k x y at_j at_k =
          let a = at-filter (λ (z : Entry). same_class by_names es class z.name) es j x at_j in
          let b = at-filter (λ (z : Entry). same_class by_names es class z.name) es k y at_k in
          agreed class a.0 b.0 x y a.1 b.1 a.2 b.2

      abbrev of-member : ItemKind → Tree
      of-member k = member_tree by_names c es class p far k

      -- the exports of an entry that is an instance

      abbrev pub exports_of : Entry → Name → Tree
      exports_of e n = items_in (type_in (of-member e.kind)) n

      as-exports : (e : Entry) (is : IsInstance e) (n : Name) → exports_of e n ≡ exported_tree is.interface n
      as-exports e is n = ap (λ (t : Tree). items_in (type_in t) n) (ap of-member is.is ∙ member-instance p is.id is.interface is.there)

      as-instance : (e : Entry) → IsInstance e → of-member e.kind ≡ instance_item (instance (exports_of e))
      as-instance e is =
          let same = ap of-member is.is ∙ member-instance p is.id is.interface is.there in
          same ∙ ap (λ (t : Tree). instance_item (instance (items_in (type_in t)))) (sym same)

      compared-as : (e : Entry) (is : IsInstance e) → compared by_names c es class e.kind ≡ instance_item (instance (called_tree is.interface))
      compared-as e is = ap (compared by_names c es class) is.is ∙ member-called is.id is.interface is.there

      module _ (j : ℕ) (e : Entry) (at_j : slice_get mates j ≡ Some e) where
        -- a class with an instance has nothing else

        module _ (is : IsInstance e) where
          pub each-instance : (k : ℕ) (y : Entry) → slice_get mates k ≡ Some y → IsInstance y
          each-instance k y at_k =
              let w = instance-kind y.kind (instance (called_tree is.interface)) (member-held k y at_k) (subst (λ u. Agree (compared by_names c es class y.kind) u) (compared-as e is) (members-agree k j y e at_k at_j)) in
              record { id = w.0; interface = w.1; is = w.2; there = w.3 }

          -- The merged item has the union of what the entries export under each name.
          pub merged-instance : merged by_names c es far p class ≡ instance_item (instance (λ n. union_all (map (λ y. exports_of y n) mates)))
          merged-instance = union-instances (λ y. of-member y.kind) exports_of mates (λ k y at_k. as-instance y (each-instance k y at_k)) j e at_j

          pair-agree : (k : ℕ) (y : Entry) → slice_get mates k ≡ Some y → (is_y : IsInstance y) → Agree (instance_item (instance (called_tree is_y.interface))) (instance_item (instance (called_tree is.interface)))
          pair-agree k y at_k is_y =
              agree_at (instance_item (instance (called_tree is_y.interface))) (instance_item (instance (called_tree is.interface))) (compared by_names c es class y.kind) (compared by_names c es class e.kind)
              (sym (compared-as y is_y)) (sym (compared-as e is)) (members-agree k j y e at_k at_j)

          at-name : (it : Interface) (n : Name) (o : Option ItemKind) → find_name it.exports n ≡ o → exported_tree it n ≡ option_case o absent (λ k. held_item c (inner it) exported (named n ∷ []) k)
          at-name it n o found = ap (λ (x : Option ItemKind). option_case x absent (λ k. held_item c (inner it) exported (named n ∷ []) k)) found

          -- Under the name of a type item the others have type items, or nothing.
          others-typed : (n : Name) (a : AnyType) → find_name (is.interface).exports n ≡ Some (kind.TypeItem a) → (k : ℕ) (y : Entry) → slice_get mates k ≡ Some y → IsTypeOrNone (exports_of y n)
          others-typed n a mine k y at_k =
              let is_y = each-instance k y at_k in
              subst IsTypeOrNone (sym (as-exports y is_y n)) (by is_y (find_name (is_y.interface).exports n) refl)
            where
              by : (is_y : IsInstance y) (o : Option ItemKind) → find_name (is_y.interface).exports n ≡ o → IsTypeOrNone (option_case o absent (λ z. held_item c (inner is_y.interface) exported (named n ∷ []) z))
              by is_y None found = tt
              by is_y (Some z) found =
                  let w = alike-at is_y.interface is.interface (pair-agree k y at_k is_y) n a z mine found in
                  subst (λ (x : ItemKind). IsTypeOrNone (held_item c (inner is_y.interface) exported (named n ∷ []) x)) (sym w.1) (type-or-none c (inner is_y.interface) exported (named n ∷ []) w.0)

          own-here : (r : ResourceId) (n : Name) → is_alias c r ≡ false → own_name c (is.interface).uses (is.interface).exports r ≡ Some n → is_here exported (named n ∷ []) (inner is.interface (resolved c r)) ≡ true
          own-here r n plain own =
              ap (λ (q : ResourceId). is_here exported (named n ∷ []) (inner is.interface q)) (own_is_end c is.interface r n own)
              ∙ ap (λ (o : Option Name). is_here exported (named n ∷ []) (first_some (option_case o None (λ m. Some (here (named m ∷ [])))) (first_some (option_case (class_binds by_names c es class r) None (λ path. Some (here path))) (option_case (far r) None (λ l. Some (further_out l)))))) own
              ∙ ap (λ b. cond b true false) (same_name-refl n)

          -- An own resource of one entry is fresh in the union.
          pub own-fresh : NoNameTwice (is.interface).exports → (r : ResourceId) (n : Name) → own_name c (is.interface).uses (is.interface).exports r ≡ Some n → union_all (map (λ y. exports_of y n) mates) ≡ fresh
          own-fresh once r n own =
              let w = own-found c (is.interface).uses (is.interface).exports r n own in
              let found : find_name (is.interface).exports n ≡ Some (kind.TypeItem (ty.Resource r)) = find_name-at (is.interface).exports w.0 n w.1 once w.2 ∙ ap Some (w.3).is in
              union-fresh (λ y. exports_of y n) mates (others-typed n (ty.Resource r) found) j e at_j
              (as-exports e is n ∙ at-name is.interface n (Some (kind.TypeItem (ty.Resource r))) found
              ∙ ap (λ b. cond b fresh (type_equal (held_tree c (inner is.interface) (ty.Resource r)))) (own-here r n (w.3).plain own))

          -- A value type of one entry has its tree in the union.
          pub value-same : (n : Name) (v : ValueType) → find_name (is.interface).exports n ≡ Some (kind.TypeItem (ty.Value v)) → union_all (map (λ y. exports_of y n) mates) ≡ type_equal (held_tree c (inner is.interface) (ty.Value v))
          value-same n v mine = union-same (λ y. exports_of y n) (held_tree c (inner is.interface) (ty.Value v)) mates each j e at_j (as-exports e is n ∙ at-name is.interface n (Some (kind.TypeItem (ty.Value v))) mine)
            where
              by : (k : ℕ) (y : Entry) → slice_get mates k ≡ Some y → (is_y : IsInstance y) (o : Option ItemKind) → find_name (is_y.interface).exports n ≡ o → (exports_of y n ≡ absent) ⊎ (exports_of y n ≡ type_equal (held_tree c (inner is.interface) (ty.Value v)))
              by k y at_k is_y None found = inl (as-exports y is_y n ∙ at-name is_y.interface n None found)
              by k y at_k is_y (Some z) found =
                  let w = alike-at is_y.interface is.interface (pair-agree k y at_k is_y) n (ty.Value v) z mine found in
                  let held = subst (λ (x : ItemKind). holds_type c (kind_type x) ≡ true) w.1 (export-held c wf is_y.id is_y.interface n z is_y.there found) in
                  let x = alike leaf_inside (called_inside by_names c es class is_y.interface) (called_inside by_names c es class is.interface) (inner is_y.interface) (inner is.interface)
                  (inside-leaves class is_y.interface) (inside-leaves class is.interface) (called-all class is_y.interface) w.0 v held w.2 in
                  inr (as-exports y is_y n ∙ at-name is_y.interface n (Some z) found ∙ ap (held_item c (inner is_y.interface) exported (named n ∷ [])) (w.1 ∙ ap kind.TypeItem x.1) ∙ ap type_equal x.2)

              each : AreSame (λ y. exports_of y n) (held_tree c (inner is.interface) (ty.Value v)) mates
              each k y at_k = let is_y = each-instance k y at_k in by k y at_k is_y (find_name (is_y.interface).exports n) refl

        -- a class with a type item has nothing else

        module _ (a : AnyType) (is : e.kind ≡ kind.TypeItem a) where
          each-type : (k : ℕ) (y : Entry) → slice_get mates k ≡ Some y → (b : AnyType) × (y.kind ≡ kind.TypeItem b) × (unfolded (by_binding c) c (called_outside by_names c es) b ≡ unfolded (by_binding c) c (called_outside by_names c es) a)
          each-type k y at_k =
              type-kind y.kind (unfolded (by_binding c) c (called_outside by_names c es) a)
              (agree-type (compared by_names c es class y.kind) (unfolded (by_binding c) c (called_outside by_names c es) a) (subst (λ (x : ItemKind). Agree (compared by_names c es class y.kind) (compared by_names c es class x)) is (members-agree k j y e at_k at_j)))

          -- If one of them is fresh, the merged item is.
          pub resource-fresh : held_item c far imported (position p ∷ []) (kind.TypeItem a) ≡ fresh → merged by_names c es far p class ≡ fresh
          resource-fresh mine = union-fresh (λ y. of-member y.kind) mates each j e at_j (ap of-member is ∙ mine)
            where
              each : (k : ℕ) (y : Entry) → slice_get mates k ≡ Some y → IsTypeOrNone (of-member y.kind)
              each k y at_k =
                  let w = each-type k y at_k in
                  subst (λ (x : ItemKind). IsTypeOrNone (of-member x)) (sym w.1) (type-or-none c far imported (position p ∷ []) w.0)

        -- The merged item of value types has the tree of each.
        pub type-same : (v : ValueType) → e.kind ≡ kind.TypeItem (ty.Value v) → merged by_names c es far p class ≡ type_equal (held_tree c far (ty.Value v))
        type-same v is = union-same (λ y. of-member y.kind) (held_tree c far (ty.Value v)) mates each j e at_j (ap of-member is)
          where
            each : AreSame (λ y. of-member y.kind) (held_tree c far (ty.Value v)) mates
            each k y at_k =
                let w = each-type (ty.Value v) is k y at_k in
                let held = subst (λ (x : ItemKind). holds_type c (kind_type x) ≡ true) w.1 (member-held k y at_k) in
                let x = alike leaf_outside (called_outside by_names c es) (called_outside by_names c es) far far outside-leaves outside-leaves (λ r. (called_first r (binding_class by_names c es r), refl)) w.0 v held w.2 in
                inr (ap of-member (w.1 ∙ ap kind.TypeItem x.1) ∙ ap type_equal x.2)
