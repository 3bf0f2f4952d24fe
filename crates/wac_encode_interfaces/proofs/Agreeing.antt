-- What is free in an interface, whole or with its types only, and the trees of its items.
use Rattle.std.proofs.Common.{◌≡◌, Bool, true, false, if◌then◌else◌, List, [], ◌∷◌, map, filter, Option, Some, None, Contains, refl, ap, sym, ◌∙◌, subst, inl, inr}
use Rattle.std.proofs.Math.Path.{fun_ext}
use Rattle.wac_types_shapes.specs.primitives.Name.{Name, same_name, find_name, option_case}
use Rattle.wac_types_shapes.proofs.lemmas.shapes.Names.{find_position}
use Rattle.wac_types_shapes.specs.primitives.Tree.{exported, named, Leaf, Tree, absent, resource, own, instance, type_equal, function_item, instance_item, component_item, module_item, value_item, further_out, inside, items_in, moved}
use Rattle.wac_types_shapes.specs.shapes.Kinds.{kind_type}
use Rattle.wac_types_shapes.specs.declared.shapes.component.ResourceId.{ResourceId}
use Rattle.wac_types_shapes.specs.declared.shapes.component.InterfaceId.{InterfaceId}
use Rattle.wac_types_shapes.specs.declared.shapes.component.Interface.{Interface}
use Rattle.wac_types_shapes.specs.declared.shapes.component.«Type».{«Type» as AnyType}
use Rattle.wac_types_shapes.specs.declared.shapes.component.«Type».TheVariants as ty
use Rattle.wac_types_shapes.specs.declared.shapes.component.ItemKind.{ItemKind}
use Rattle.wac_types_shapes.specs.declared.shapes.component.ItemKind.TheVariants as kind
use Rattle.wac_types_collection.specs.collection.Collection.{Collection, item_at}
use Rattle.wac_types_collection.specs.collection.Held.{items_under, item_tree}
use Rattle.wac_types_collection.specs.collection.Bound.{Bindings, own_name, lists_type, inside_interface, binds_here, held_tree, held_item}
use Rattle.wac_types_collection.proofs.lemmas.wide.Members.{in_first, in_rest, in_none, in_parts, at_in}
use Rattle.wac_encode_stacks.specs.Good.{seen_inside}
use Rattle.wac_encode_stacks.specs.Instances.{Shows}
use Rattle.wac_encode_stacks.specs.Listed.{IsItem}
use Rattle.wac_binary.specs.Unfold.{Bound}
use Rattle.wac_encode_stacks.proofs.Moved.{on, own_leaf, changed, held-moves, moved-id, inside-changed}
use Rattle.wac_encode_stacks.proofs.Whole.{here-inside, items-found}
use Rattle.wac_encode_scopes.proofs.FreeAgreeing.{same-items-in, inner-item, held-agree, held-free}
use Rattle.wac_encode_faults.specs.Free.{IsFree, IsFreeInTypes}
use Rattle.wac_encode_faults.specs.Trees.{item_trees, types_tree}
use Rattle.wac_encode_interfaces.specs.private.Trees.{interface_tree as tree_of_interface, IsInterfaceHeld}

-- interfaces, whole or with their types only

-- The resource is free in an instance of the interface, with its types only or whole.
abbrev pub IsFreeInInterface : Collection → Bool → InterfaceId → ResourceId → Type 0
IsFreeInInterface c true i r = IsFreeInTypes c i r
IsFreeInInterface c false i r = IsFree c (ty.Interface i) r

-- The items of an interface under these bindings outside.
abbrev inner_trees : Collection → Bindings → Interface → List (Name × ItemKind) → List (Name × Tree)
inner_trees c m it es = item_trees c (inside_interface c it m) exported es

in-filtered : (es : List (Name × ItemKind)) (e : Name × ItemKind) → Contains (filter lists_type es) e → Contains es e × (lists_type e ≡ true)
in-filtered [] e h = absurd (in_none e h)
in-filtered (x ∷ es) e h = by (lists_type x) refl h (λ k. in-filtered es e k)
  where
    by : (b : Bool) → lists_type x ≡ b → Contains (if b then x ∷ filter lists_type es else filter lists_type es) e → (Contains (filter lists_type es) e → Contains es e × (lists_type e ≡ true)) → Contains (x ∷ es) e × (lists_type e ≡ true)
    by true is h more = elim (in_parts x e (filter lists_type es) h) [
      | inl same ↦ (subst (λ z. Contains (z ∷ es) e) same (in_first e es), ap lists_type same ∙ is)
      | inr w ↦ let (there, type) = more w in (in_rest x e es there, type)
    ]
    by false is h more = let (there, type) = more h in (in_rest x e es there, type)

different : false ≡ true → ⊥
different h = cc

false-is : {A : Type 0} → false ≡ true → A
false-is h = absurd (different h)

type-of : (k : ItemKind) (n : Name) → lists_type (n, k) ≡ true → (a : AnyType) × (k ≡ kind.TypeItem a)
type-of (kind.TypeItem a) n h = (a, refl)
type-of (kind.Func f) n h = false-is h
type-of (kind.Instance i) n h = false-is h
type-of (kind.Component w) n h = false-is h
type-of (kind.Module w) n h = false-is h
type-of (kind.Value w) n h = false-is h

-- A free resource of a listed type item that is not own is free in the types.
free-type : (c : Collection) (i : InterfaceId) (it : Interface) → item_at c.interfaces i.0 ≡ Some it → (n : Name) (k : ItemKind) → Contains (filter lists_type it.exports) (n, k) → (r : ResourceId) → own_name c it.uses it.exports r ≡ None → IsFree c (kind_type k) r → IsFreeInTypes c i r
free-type c i it at n k there r not_own free =
    let (listed, is_type) = in-filtered it.exports (n, k) there in
    let (a, is) = type-of k n is_type in
    record {
      interface = it;
      there = at;
      name = n;
      type = a;
      listed = subst (λ (j : ItemKind). Contains it.exports (n, j)) is listed;
      not_own = not_own;
      free = subst (λ (j : ItemKind). IsFree c (kind_type j) r) is free;
    }

types-agree : (c : Collection) (m n : Bindings) (i : InterfaceId) → ((r : ResourceId) → IsFreeInTypes c i r → m r ≡ n r) → types_tree c m i ≡ types_tree c n i
types-agree c m n i h = by (item_at c.interfaces i.0) refl
  where
    by : (o : Option Interface) → item_at c.interfaces i.0 ≡ o
        → option_case o absent (λ it. instance (items_under (inner_trees c m it (filter lists_type it.exports)))) ≡ option_case o absent (λ it. instance (items_under (inner_trees c n it (filter lists_type it.exports))))
    by None at = refl
    by (Some it) at =
        let same = same-items-in (λ e. held_item c (inside_interface c it m) exported (named e.0 ∷ []) e.1) (λ e. held_item c (inside_interface c it n) exported (named e.0 ∷ []) e.1) (filter lists_type it.exports)
        (λ e there. inner-item c (held_tree c) (held-agree c) m n it e (λ r not_own free. h r (free-type c i it at e.0 e.1 there r not_own free))) in
        ap (λ (es : List (Name × Tree)). instance (items_under es)) same

-- Bindings that agree on what is free in an instance give it one tree.
pub interface-agree : (c : Collection) (a : Bool) (m n : Bindings) (i : InterfaceId) → ((r : ResourceId) → IsFreeInInterface c a i r → m r ≡ n r) → tree_of_interface c a m i ≡ tree_of_interface c a n i
interface-agree c true m n i h = types-agree c m n i h
interface-agree c false m n i h = held-agree c m n (ty.Interface i) h

-- the types of an interface under changed bindings

moved-items : (f : Leaf → Leaf) (g h : Name × ItemKind → Tree) (es : List (Name × ItemKind)) (n : Name) → ((e : Name × ItemKind) → moved f (g e) ≡ h e) → moved f (items_under (map (λ e. (e.0, g e)) es) n) ≡ items_under (map (λ e. (e.0, h e)) es) n
moved-items f g h [] n same = refl
moved-items f g h (e ∷ es) n same = by (same_name n e.0) (moved-items f g h es n same)
  where
    by : (b : Bool) → moved f (items_under (map (λ x. (x.0, g x)) es) n) ≡ items_under (map (λ x. (x.0, h x)) es) n
        → moved f (if b then g e else items_under (map (λ x. (x.0, g x)) es) n) ≡ (if b then h e else items_under (map (λ x. (x.0, h x)) es) n)
    by true rest = same e
    by false rest = rest

moved-item : (f : Leaf → Leaf) (g h : AnyType → Tree) (b : Bool) (k : ItemKind) → ((a : AnyType) → moved f (g a) ≡ h a) → moved f (item_tree g b k) ≡ item_tree h b k
moved-item f g h true (kind.TypeItem a) same = refl
moved-item f g h false (kind.TypeItem a) same = ap type_equal (same a)
moved-item f g h b (kind.Func k) same = ap function_item (same (ty.Func k))
moved-item f g h b (kind.Instance i) same = ap instance_item (same (ty.Interface i))
moved-item f g h b (kind.Component w) same = ap component_item (same (ty.World w))
moved-item f g h b (kind.Module k) same = ap module_item (same (ty.Module k))
moved-item f g h b (kind.Value v) same = ap value_item (same (ty.Value v))

types-moved : (c : Collection) (f : Leaf → Leaf) (m : Bindings) (i : InterfaceId) → moved f (types_tree c m i) ≡ types_tree c (changed f m) i
types-moved c f m i = by (item_at c.interfaces i.0)
  where
    inner : (it : Interface) (e : Name × ItemKind) → moved (inside f) (held_item c (inside_interface c it m) exported (named e.0 ∷ []) e.1) ≡ held_item c (inside_interface c it (changed f m)) exported (named e.0 ∷ []) e.1
    inner it e =
        moved-item (inside f) (held_tree c (inside_interface c it m)) (held_tree c (inside_interface c it (changed f m))) (binds_here c (inside_interface c it m) exported (named e.0 ∷ []) e.1) e.1
        (λ a. held-moves c (inside f) (inside_interface c it m) a ∙ ap (λ (k : Bindings). held_tree c k a) (inside-changed c it f m))
        ∙ ap (λ b. item_tree (held_tree c (inside_interface c it (changed f m))) b e.1) (here-inside c it (changed f m) m (named e.0 ∷ []) e.1)

    by : (o : Option Interface) → moved f (option_case o absent (λ it. instance (items_under (inner_trees c m it (filter lists_type it.exports))))) ≡ option_case o absent (λ it. instance (items_under (inner_trees c (changed f m) it (filter lists_type it.exports))))
    by None = refl
    by (Some it) = ap instance (fun_ext (λ n. moved-items (inside f) (λ e. held_item c (inside_interface c it m) exported (named e.0 ∷ []) e.1) (λ e. held_item c (inside_interface c it (changed f m)) exported (named e.0 ∷ []) e.1) (filter lists_type it.exports) n (inner it)))

-- An instance whose free resources are bound is held.
pub interface-free : (c : Collection) (a : Bool) (m : Bindings) (i : InterfaceId) → ((r : ResourceId) → IsFreeInInterface c a i r → (l : Leaf) × (m r ≡ Some l)) → IsInterfaceHeld c a m i (tree_of_interface c a m i)
interface-free c false m i bound = held-free c m (ty.Interface i) bound
interface-free c true m i bound = λ f n carries.
    types-agree c n (changed f m) i (λ r free. let at = bound r free in carries r at.0 at.1 ∙ sym (ap (on f) at.1))
    ∙ sym (types-moved c f m i)

-- The tree of an instance that is held.
pub interface-here : (c : Collection) (a : Bool) (m : Bindings) (i : InterfaceId) (t : Tree) → IsInterfaceHeld c a m i t → tree_of_interface c a m i ≡ t
interface-here c a m i t h = h (λ l. l) m (λ r l e. e) ∙ moved-id t (λ l. l) refl

filter-found : (es : List (Name × ItemKind)) (n : Name) (a : AnyType) → find_name es n ≡ Some (kind.TypeItem a) → find_name (filter lists_type es) n ≡ Some (kind.TypeItem a)
filter-found [] n a h = h
filter-found (e ∷ es) n a h = by (same_name n e.0) refl (lists_type e) refl h (λ k. filter-found es n a k)
  where
    is-type : (k : ItemKind) → Some k ≡ Some (kind.TypeItem a) → lists_type (e.0, k) ≡ true
    is-type k h = ap (λ (o : Option ItemKind). option_case o true (λ j. lists_type (e.0, j))) h

    by : (b : Bool) → same_name n e.0 ≡ b → (t : Bool) → lists_type e ≡ t → (if b then Some e.1 else find_name es n) ≡ Some (kind.TypeItem a) → (find_name es n ≡ Some (kind.TypeItem a) → find_name (filter lists_type es) n ≡ Some (kind.TypeItem a))
        → find_name (if t then e ∷ filter lists_type es else filter lists_type es) n ≡ Some (kind.TypeItem a)
    by true same true t h more = ap (λ b. if b then Some e.1 else find_name (filter lists_type es) n) same ∙ h
    by true same false t h more = false-is (sym t ∙ is-type e.1 h)
    by false same true t h more = ap (λ b. if b then Some e.1 else find_name (filter lists_type es) n) same ∙ more h
    by false same false t h more = more h

-- An instance with the types of an interface has all its type items.
pub shows-types : (c : Collection) (m : Bindings) (i : InterfaceId) (it : Interface) (x : Bound) → item_at c.interfaces i.0 ≡ Some it → ((r : ResourceId) → IsFreeInTypes c i r → (l : Leaf) × (m r ≡ Some l)) → IsInterfaceHeld c true m i x.type → Shows c m it x
shows-types c m i it x at bound held n a found =
    subst (IsItem c (inside_interface c it m) exported n (kind.TypeItem a)) (sym there) (by (binds_here c (inside_interface c it m) exported (named n ∷ []) (kind.TypeItem a)) refl)
  where
    tree : x.type ≡ instance (items_under (inner_trees c m it (filter lists_type it.exports)))
    tree = sym (interface-here c true m i x.type held) ∙ ap (λ (o : Option Interface). option_case o absent (λ j. instance (items_under (inner_trees c m j (filter lists_type j.exports))))) at

    kept : (es : List (Name × ItemKind)) → find_name es n ≡ Some (kind.TypeItem a) → find_name (filter lists_type es) n ≡ Some (kind.TypeItem a)
    kept es h = filter-found es n a h

    there : items_in x.type n ≡ held_item c (inside_interface c it m) exported (named n ∷ []) (kind.TypeItem a)
    there = ap (λ (t : Tree). items_in t n) tree
        ∙ items-found (λ e. held_item c (inside_interface c it m) exported (named e.0 ∷ []) e.1) (filter lists_type it.exports) n
        ∙ ap (λ (o : Option ItemKind). option_case o absent (λ k. held_item c (inside_interface c it m) exported (named n ∷ []) k)) (kept it.exports found)

    inside-bound : (r : ResourceId) → IsFree c a r → (l : Leaf) × (inside_interface c it m r ≡ Some l)
    inside-bound r free = by_own (own_name c it.uses it.exports r) refl
      where
        by_own : (o : Option Name) → own_name c it.uses it.exports r ≡ o → (l : Leaf) × (option_case o (seen_inside (m r)) (λ q. Some (own_leaf q)) ≡ Some l)
        by_own (Some q) is = (own_leaf q, refl)
        by_own None is =
            let (j, low, listed) = find_position it.exports n (kind.TypeItem a) found in
            let b = bound r (record { interface = it; there = at; name = n; type = a; listed = at_in it.exports j (n, kind.TypeItem a) listed; not_own = is; free = free }) in
            (further_out b.0, ap seen_inside b.1)

    by : (b : Bool) → binds_here c (inside_interface c it m) exported (named n ∷ []) (kind.TypeItem a) ≡ b → IsItem c (inside_interface c it m) exported n (kind.TypeItem a) (item_tree (held_tree c (inside_interface c it m)) b (kind.TypeItem a))
    by true is = is
    by false is = (is, held-free c (inside_interface c it m) a inside-bound)
