-- The item that a class is, from the tree of its union.
use Rattle.std.proofs.Common.{◌≡◌, ℕ, zero, suc, ◌<◌, true, false, List, [], ◌∷◌, map, Option, Some, None, slice_get, refl, sym, ap, ◌∙◌, subst, inl, inr, arith}
use Rattle.std.proofs.lemmas.Bool.{cases_lt}
use Rattle.std.specs.List.{AllZip, Contains}
use Rattle.wac_types_shapes.specs.primitives.Name.{Name, option_case}
use Rattle.wac_types_shapes.specs.primitives.Tree.{TypeTree, Tree, absent, exported, instance, instance_item, named}
use Rattle.wac_types_collection.specs.collection.Collection.{Collection, item_at}
use Rattle.wac_types_collection.specs.collection.Held.{Names, item_tree, items_under, unfolded}
use Rattle.wac_types_collection.specs.collection.Bound.{Bindings, held_item, held_tree, inside_interface}
use Rattle.wac_types_shapes.specs.declared.shapes.component.Interface.{Interface}
use Rattle.wac_types_shapes.specs.declared.shapes.component.InterfaceId.{InterfaceId}
use Rattle.wac_types_shapes.specs.declared.shapes.component.«Type».TheVariants as ty
use Rattle.wac_types_shapes.specs.declared.shapes.component.ItemKind.{ItemKind}
use Rattle.wac_types_shapes.specs.declared.shapes.component.ItemKind.TheVariants as kind
use Rattle.wac_types_collection.specs.subtyping.Called.{Called, by_binding}
use Rattle.wac_merge_classes.specs.entries.Agreement.{Agree, called_inside, compared}
use Rattle.wac_merge_classes.specs.entries.Bindings.{ClassBindings}
use Rattle.wac_merge_classes.specs.terms.Became.{became}
use Rattle.wac_merge_classes.specs.entries.Classes.{Entry, by_names, members, same_class}
use Rattle.wac_merge_classes.specs.terms.NoDisagreement.{HasNoDisagreement}
use Rattle.wac_merge_classes.specs.terms.Renaming.{Fits}
use Rattle.wac_merge_classes.specs.terms.Union.{inside_member, member_tree, merged, union_all}
use Rattle.wac_merge_classes.specs.terms.Unions.{part, part_lists}
use Rattle.wac_merge_classes.specs.declared.terms.fresh.Fresh.{Fresh}
use Rattle.wac_merge_classes.specs.declared.terms.parts.Part.{Part}
use Rattle.wac_merge_classes.specs.declared.terms.parts.Union.{Union}
use Rattle.wac_merge_classes.proofs.lemmas.terms.Alike.{compared_alike}
use Rattle.wac_merge_classes.proofs.lemmas.entries.ClassFacts.{class-sym, class-trans}
use Rattle.wac_merge_classes.proofs.lemmas.terms.Found.{at-filter}
use Rattle.wac_merge_trees.proofs.lemmas.trees.UnionTrees.{part_called, part_tree, union_tree}
use Rattle.wac_merge_trees.proofs.lemmas.trees.UnionTreesHeld.{interface_there, placed_interface, placed_items}
use Rattle.wac_merge_trees.proofs.lemmas.trees.UnionTreesKinds.{MustAgree}
use Rattle.wac_merge_trees.proofs.lemmas.trees.UnionTreesNames.{union_absent, union_instance_items}
use Rattle.wac_merge_trees.proofs.lemmas.trees.UnionTreesNext.{AreMergedUnions}
use Rattle.wac_merge_trees.proofs.lemmas.trees.UnionTreesOwn.{zip_at}
use Rattle.wac_merge_classes.proofs.lemmas.terms.Alike.{agree_itself}
use Rattle.wac_merge_trees.proofs.lemmas.trees.UnionTreesParts.{at_contains, part_exports, zip_map}

-- ---- lists

module _ {A B : Type 0} (f : A → B) where
  map_at : (xs : List A) (i : ℕ) (y : B) → slice_get (map f xs) i ≡ Some y → (x : A) × (slice_get xs i ≡ Some x) × (f x ≡ y)
  map_at [] i y at = cc
  map_at (x ∷ xs) zero y at = let same : f x ≡ y = cc in (x, refl, same)
  map_at (x ∷ xs) (suc i) y at = map_at xs i y at

  at_map : (xs : List A) (i : ℕ) (x : A) → slice_get xs i ≡ Some x → slice_get (map f xs) i ≡ Some (f x)
  at_map [] i x at = cc
  at_map (y ∷ xs) zero x at = let same : y ≡ x = cc in ap (λ z. Some (f z)) same
  at_map (y ∷ xs) (suc i) x at = at_map xs i x at

-- ---- members agree

-- agreement goes both ways
pub agree_back : (t u : TypeTree Called) → Agree t u → Agree u t
agree_back (instance f) (instance g) h = λ n. elim (h n) [
  | inl e ↦ inr (inl e)
  | inr r ↦ elim r [
    | inl e ↦ inl e
    | inr a ↦ inr (inr (agree_back (f n) (g n) a))
  ]
]
agree_back (instance_item t) (instance_item u) h = agree_back t u h
agree_back t u h = subst (λ x. Agree x t) h (agree_itself t)

must_back : (t u : TypeTree Called) → MustAgree t u → MustAgree u t
must_back t u h apart = h (λ a. apart (agree_back t u a))

must_same : (t u a b : TypeTree Called) → t ≡ a → u ≡ b → MustAgree t u → MustAgree a b
must_same t u a b e g h = subst (λ x. MustAgree x b) e (subst (λ x. MustAgree t x) g h)

module _ (c : Collection) (es : List Entry) (none : HasNoDisagreement by_names c es) (class : Name) where
  earlier_agrees : (i j : ℕ) (a b : Entry) → i < j → slice_get es i ≡ Some a → slice_get es j ≡ Some b → same_class by_names es class a.name ≡ true → same_class by_names es class b.name ≡ true
      → MustAgree (compared by_names c es class a.kind) (compared by_names c es class b.kind)
  earlier_agrees i j a b lt at on of_a of_b =
      let back = class-sym by_names es class a.name of_a in
      let one : same_class by_names es a.name b.name ≡ true = class-trans by_names es a.name class b.name back of_b in
      must_same (compared by_names c es a.name a.kind) (compared by_names c es a.name b.kind) (compared by_names c es class a.kind) (compared by_names c es class b.kind)
      (compared_alike c es a.name class back a.kind) (compared_alike c es a.name class back b.kind)
      (λ apart. none i j (record { earlier = a; later = b; at_first = at; at_second = on; before = lt; one_class = one; apart = apart }))

  -- where no entries disagree, the members of a class agree
  pub members_agree : (i j : ℕ) (a b : Entry) → slice_get (members by_names es class) i ≡ Some a → slice_get (members by_names es class) j ≡ Some b
      → MustAgree (compared by_names c es class a.kind) (compared by_names c es class b.kind)
  members_agree i j a b at on =
      let x = at-filter (λ (e : Entry). same_class by_names es class e.name) es i a at in
      let y = at-filter (λ (e : Entry). same_class by_names es class e.name) es j b on in
      elim (cases_lt x.0 y.0) [
        | inl lt ↦ earlier_agrees x.0 y.0 a b lt x.1 y.1 x.2 y.2
        | inr le ↦ elim (cases_lt y.0 x.0) [
          | inl lt ↦ must_back (compared by_names c es class b.kind) (compared by_names c es class a.kind) (earlier_agrees y.0 x.0 b a lt y.1 x.1 y.2 x.2)
          | inr more ↦
              let place : x.0 ≡ y.0 = omega (arith, le, more) in
              let found : Some a ≡ Some b = sym x.1 ∙ (ap (slice_get es) place ∙ y.1) in
              let same : a ≡ b = cc in
              subst (λ (e : Entry). MustAgree (compared by_names c es class a.kind) (compared by_names c es class e.kind)) same (λ apart. apart (agree_itself (compared by_names c es class a.kind)))
        ]
      ]

  -- so do those that are instances of these interfaces
  pub instances_must_agree : (is : List InterfaceId) → map (λ e. e.kind) (members by_names es class) ≡ map kind.Instance is → (a b : ℕ) (i j : InterfaceId) → slice_get is a ≡ Some i → slice_get is b ≡ Some j
      → MustAgree (compared by_names c es class (kind.Instance i)) (compared by_names c es class (kind.Instance j))
  instances_must_agree is kinds a b i j at on =
      let x = member_at is kinds a i at in
      let y = member_at is kinds b j on in
      must_same (compared by_names c es class x.0.kind) (compared by_names c es class y.0.kind) (compared by_names c es class (kind.Instance i)) (compared by_names c es class (kind.Instance j))
      (λ d. compared by_names c es class (x.2 d)) (λ d. compared by_names c es class (y.2 d)) (members_agree a b x.0 y.0 x.1 y.1)
    where
      member_at : (is : List InterfaceId) → map (λ e. e.kind) (members by_names es class) ≡ map kind.Instance is → (a : ℕ) (i : InterfaceId) → slice_get is a ≡ Some i
          → (e : Entry) × (slice_get (members by_names es class) a ≡ Some e) × (e.kind ≡ kind.Instance i)
      member_at is kinds a i at = map_at (λ e. e.kind) (members by_names es class) a (kind.Instance i) (ap (λ l. slice_get l a) kinds ∙ at_map kind.Instance is a i at)

-- ---- members and parts

map_twice : {A B D : Type 0} (g : B → D) (f : A → B) (xs : List A) → map (λ x. g (f x)) xs ≡ map g (map f xs)
map_twice g f [] = refl
map_twice g f (x ∷ xs) = ap (λ r. g (f x) ∷ r) (map_twice g f xs)

-- members that are instances, and the parts whose trees theirs are
united_members : (g : ItemKind → Tree) (h : ℕ → Tree) (es : List Entry) (is : List InterfaceId) (qs : List ℕ) (q : ℕ) (rest : List ℕ) → qs ≡ q ∷ rest → map (λ e. e.kind) es ≡ map kind.Instance is → map (λ i. g (kind.Instance i)) is ≡ map (λ p. instance_item (h p)) qs
    → instance_item (union_all (map h qs)) ≡ union_all (map (λ e. g e.kind) es)
united_members g h es is qs q rest some kinds trees =
    let one : union_all (map (λ p. instance_item (h p)) qs) ≡ union_all (map (λ e. g e.kind) es) = ap union_all (sym trees ∙ (map_twice g kind.Instance is ∙ (ap (map g) (sym kinds) ∙ sym (map_twice g (λ e. e.kind) es)))) in
    ap (λ l. instance_item (union_all (map h l))) some
    ∙ (sym (union_instance_items h q rest)
    ∙ (ap (λ l. union_all (map (λ p. instance_item (h p)) l)) (sym some)
    ∙ one))

module _ (c : Collection) (es : List Entry) (class : Name) (ps : List Part) (k p : ℕ) (i : InterfaceId) (it : Interface) (at : slice_get ps p ≡ Some (part i None k)) (is : item_at c.interfaces i.0 ≡ Some it) where
  -- the tree of a member is that of its part
  pub member_part : (root : Bindings) (position : ℕ) (place : ℕ → Bindings) → place p ≡ inside_member by_names c es class it root → member_tree by_names c es class position root (kind.Instance i) ≡ instance_item (part_tree c ps place p)
  member_part root position place here =
      let lists : it.exports ≡ part_lists c ps p = sym (part_exports c ps p (part i None k) it at is) in
      let back : inside_member by_names c es class it root ≡ place p = sym here in
      ap (λ o. option_case o absent (λ (j : Interface). instance_item (instance (items_under (map (λ e. (e.0, held_item c (inside_member by_names c es class j root) exported (named e.0 ∷ []) e.1)) j.exports))))) is
      ∙ (λ d. instance_item (instance (items_under (map (λ e. (e.0, held_item c (back d) exported (named e.0 ∷ []) e.1)) (lists d)))))

  -- and so is that by which it is compared
  pub compared_part : (called : ℕ → Names Called) → called p ≡ called_inside by_names c es class it → compared by_names c es class (kind.Instance i) ≡ instance_item (part_called c ps called p)
  compared_part called here =
      let lists : it.exports ≡ part_lists c ps p = sym (part_exports c ps p (part i None k) it at is) in
      let back : called_inside by_names c es class it ≡ called p = sym here in
      ap (λ o. option_case o absent (λ (j : Interface). instance_item (instance (items_under (map (λ e. (e.0, item_tree (unfolded (by_binding c) c (called_inside by_names c es class j)) false e.1)) j.exports))))) is
      ∙ (λ d. instance_item (instance (items_under (map (λ e. (e.0, item_tree (unfolded (by_binding c) c (back d)) false e.1)) (lists d)))))

-- ---- classes

some_same : {A : Type 0} (x y : A) → Some x ≡ Some y → x ≡ y
some_same x y e = cc

module _ (c m : Collection) (roots : List (List InterfaceId)) (us : List Union) (ps : List Part) (bs : ClassBindings) (f : Fresh) (ids : List (Option Name)) (ws : List InterfaceId) (place : ℕ → Bindings) (called : ℕ → Names Called)
    (all : AreMergedUnions c m roots us ps bs f ids ws place called) (k : ℕ) (x : Union) (w : InterfaceId) (it : Interface) (at : slice_get us k ≡ Some x) (at_w : slice_get ws k ≡ Some w) (at_it : item_at m.interfaces w.0 ≡ Some it) (around : Bindings)
    (fits : (p : ℕ) → Contains x.parts.items p → Fits c (place p) (inside_interface m it around) (became c ps bs f (Some p))) where
  rooted : (is : List InterfaceId) → slice_get roots k ≡ Some is → AllZip (λ i q. slice_get ps q ≡ Some (part i None k)) is x.parts.items
  rooted is there =
      let r = all.unions.rooted k is there in
      let same : r.0 ≡ x = some_same r.0 x (sym r.1 ∙ at) in
      subst (λ (y : Union). AllZip (λ i q. slice_get ps q ≡ Some (part i None k)) is y.parts.items) same r.2

  parts_some : (first : InterfaceId) (more : List InterfaceId) (qs : List ℕ) → AllZip (λ i q. slice_get ps q ≡ Some (part i None k)) (first ∷ more) qs → (q : ℕ) × (rest : List ℕ) × (qs ≡ q ∷ rest)
  parts_some first more [] z = absurd z
  parts_some first more (q ∷ rest) z = (q, rest, refl)

  -- The item that a class of instances is: that of the interface that its union became.
  pub class_union : (es : List Entry) (class : Name) (root : Bindings) (position : ℕ) (first : InterfaceId) (more : List InterfaceId)
      → map (λ e. e.kind) (members by_names es class) ≡ map kind.Instance (first ∷ more) → slice_get roots k ≡ Some (first ∷ more) → HasNoDisagreement by_names c es
      → ((p : ℕ) (y : Part) (j : Interface) → slice_get ps p ≡ Some y → y.outer ≡ None → y.union ≡ k → item_at c.interfaces y.interface.0 ≡ Some j → (place p ≡ inside_member by_names c es class j root) × (called p ≡ called_inside by_names c es class j))
      → instance_item (held_tree m around (ty.Interface w)) ≡ merged by_names c es root position class
  class_union es class root position first more kinds there none here =
      let R : InterfaceId → ℕ → Type 0 = λ i q. slice_get ps q ≡ Some (part i None k) in
      let zip : AllZip R (first ∷ more) x.parts.items = rooted (first ∷ more) there in
      let some = parts_some first more x.parts.items zip in
      let its : (i : InterfaceId) (q : ℕ) → R i q → (j : Interface) × (item_at c.interfaces i.0 ≡ Some j) = λ i q on. interface_there c i (all.unions.held q (part i None k) on) in
      let trees : (i : InterfaceId) (q : ℕ) → R i q → member_tree by_names c es class position root (kind.Instance i) ≡ instance_item (part_tree c ps place q) = λ i q on.
      let j = its i q on in member_part c es class ps k q i j.0 on j.1 root position place (here q (part i None k) j.0 on refl refl j.1).0 in
      let names : (i : InterfaceId) (q : ℕ) → R i q → compared by_names c es class (kind.Instance i) ≡ instance_item (part_called c ps called q) = λ i q on.
      let j = its i q on in compared_part c es class ps k q i j.0 on j.1 called (here q (part i None k) j.0 on refl refl j.1).1 in
      let agree : (p q : ℕ) → Contains x.parts.items p → Contains x.parts.items q → MustAgree (part_called c ps called p) (part_called c ps called q) = λ p q in_p in_q.
      let a = at_contains x.parts.items p in_p in
      let b = at_contains x.parts.items q in_q in
      let i = zip_at R (first ∷ more) x.parts.items zip a.0 p a.1 in
      let j = zip_at R (first ∷ more) x.parts.items zip b.0 q b.1 in
      must_same (compared by_names c es class (kind.Instance i.0)) (compared by_names c es class (kind.Instance j.0)) (instance_item (part_called c ps called p)) (instance_item (part_called c ps called q))
      (names i.0 p i.2) (names j.0 q j.2) (instances_must_agree c es none class (first ∷ more) kinds a.0 b.0 i.0 j.0 i.1 j.1) in
      ap instance_item (union_tree c m roots us ps bs f ids ws place called all k x w it at at_w at_it around fits agree some.0 some.1 some.2)
      ∙ united_members (member_tree by_names c es class position root) (part_tree c ps place) (members by_names es class) (first ∷ more) x.parts.items some.0 some.1 some.2 kinds
      (zip_map R (λ i. member_tree by_names c es class position root (kind.Instance i)) (λ q. instance_item (part_tree c ps place q)) trees (first ∷ more) x.parts.items zip)

  -- The tree of the interface that is a class's type item: that of the interface that its union became.
  pub class_type : (root : Bindings) (i : InterfaceId) → slice_get roots k ≡ Some (i ∷ [])
      → ((p : ℕ) (y : Part) (j : Interface) → slice_get ps p ≡ Some y → y.outer ≡ None → y.union ≡ k → item_at c.interfaces y.interface.0 ≡ Some j → place p ≡ inside_interface c j root)
      → held_tree m around (ty.Interface w) ≡ held_tree c root (ty.Interface i)
  class_type root i there here = by x.parts.items refl (rooted (i ∷ []) there) where
    by : (qs : List ℕ) → x.parts.items ≡ qs → AllZip (λ i q. slice_get ps q ≡ Some (part i None k)) (i ∷ []) qs → held_tree m around (ty.Interface w) ≡ held_tree c root (ty.Interface i)
    by [] e z = absurd z
    by (q ∷ (p ∷ qs)) e z = absurd z.1
    by (q ∷ []) e z =
        let j = interface_there c i (all.unions.held q (part i None k) z.0) in
        let lists : part_lists c ps q ≡ j.0.exports = part_exports c ps q (part i None k) j.0 z.0 j.1 in
        let bound : place q ≡ inside_interface c j.0 root = here q (part i None k) j.0 z.0 refl refl j.1 in
        let only : (p : ℕ) → Contains x.parts.items p → p ≡ q = λ p within. one p (subst (λ (l : List ℕ). Contains l p) e within) in
        let agree : (p r : ℕ) → Contains x.parts.items p → Contains x.parts.items r → MustAgree (part_called c ps called p) (part_called c ps called r) = λ p r in_p in_r.
        subst (λ y. MustAgree (part_called c ps called p) (part_called c ps called y)) (only p in_p ∙ sym (only r in_r)) (λ apart. apart (agree_itself (part_called c ps called p))) in
        union_tree c m roots us ps bs f ids ws place called all k x w it at at_w at_it around fits agree q [] e
        ∙ (ap (λ qs. union_all (map (part_tree c ps place) qs)) e
        ∙ (union_absent (part_tree c ps place q)
        ∙ ((λ d. instance (items_under (map (λ e. (e.0, held_item c (bound d) exported (named e.0 ∷ []) e.1)) (lists d))))
        ∙ (placed_items c (inside_interface c j.0 root) j.0.exports
        ∙ sym (placed_interface c all.deep root i j.0 j.1)))))
      where
        one : (p : ℕ) → Contains (q ∷ []) p → p ≡ q
        one p within = at_one (at_contains (q ∷ []) p within).0 (at_contains (q ∷ []) p within).1 where
          at_one : (a : ℕ) → slice_get (q ∷ []) a ≡ Some p → p ≡ q
          at_one zero on = sym (some_same q p on)
          at_one (suc a) on = cc
