-- The tree of an interface with its types only: its parts are held, and what exports its types has it.
use Rattle.std.specs.Prelude.{ℕ, zero, suc, ◌≡◌, Bool, true, false, List, [], ◌∷◌, filter, Option, Some, None, if◌then◌else◌}
use Rattle.std.proofs.Common.{refl, ap, ◌∙◌, sym}
use Rattle.std.proofs.Math.Path.{fun_ext}
use Rattle.wac_types_shapes.specs.primitives.Name.{Name, find_name, option_case}
use Rattle.wac_types_shapes.specs.primitives.Tree.{Side, exported, Place, named, Leaf, Tree, absent, instance, fresh, type_equal, function_item, instance_item, component_item, module_item, value_item, further_out, inside, moved, items_in, type_in}
use Rattle.wac_types_shapes.specs.shapes.Kinds.{kind_type}
use Rattle.wac_types_shapes.specs.declared.shapes.component.ResourceId.{ResourceId}
use Rattle.wac_types_shapes.specs.declared.shapes.component.InterfaceId.{InterfaceId}
use Rattle.wac_types_shapes.specs.declared.shapes.component.Interface.{Interface}
use Rattle.wac_types_shapes.specs.declared.shapes.component.ItemKind.{ItemKind}
use Rattle.wac_types_shapes.specs.declared.shapes.component.ItemKind.TheVariants as kind
use Rattle.wac_types_shapes.specs.declared.shapes.component.«Type».{«Type» as AnyType}
use Rattle.wac_types_collection.specs.collection.Collection.{Collection, IsWellFormed, item_at}
use Rattle.wac_types_collection.specs.collection.Held.{items_under, item_tree}
use Rattle.wac_types_collection.specs.collection.Bound.{Bindings, own_name, lists_type, inside_interface, binds_here, held_tree, held_item}
use Rattle.wac_encode_stacks.specs.Good.{Carries, Holds, IsHeld}
use Rattle.wac_encode_stacks.specs.private.HeldParts.{HoldsItems}
use Rattle.wac_encode_stacks.specs.Listed.{IsItem, IsUnder, AreListed, HoldsInterface}
use Rattle.wac_encode_stacks.proofs.Moved.{on, changed, own_leaf, held-moves, moved-moved, moved-id, carries-inside}
use Rattle.wac_encode_stacks.proofs.Whole.{items-found, here-inside}
use Rattle.wac_encode_faults.specs.Trees.{item_trees, types_tree}
use Rattle.wac_encode_interfaces.specs.private.Trees.{IsInterfaceHeld}
use Rattle.wac_encode_interfaces.proofs.Shown.{shown}

-- ---- a type that changes inside the interface as it does outside is held there

-- a leaf seen from outside the scope; those that the scope binds are mapped by f
abbrev out_at : (Leaf → Leaf) → ℕ → Side → List Place → Leaf
out_at f zero s p = f (record { out = 0; side = s; path = p })
out_at f (suc o) s p = record { out = o; side = s; path = p }

abbrev outward : (Leaf → Leaf) → Leaf → Leaf
outward f l = out_at f l.out l.side l.path

abbrev from_outside : (Leaf → Leaf) → Leaf → Leaf
from_outside f l = f (further_out l)

outward-inside : (f : Leaf → Leaf) → ◌≡◌ {A = Leaf → Leaf} (λ l. outward f (inside (from_outside f) l)) f
outward-inside f = fun_ext (λ l. by_out l.out l.side l.path)
  where
    by_out : (o : ℕ) (s : Side) (p : List Place) → outward f (inside (from_outside f) (record { out = o; side = s; path = p })) ≡ f (record { out = o; side = s; path = p })
    by_out zero s p = refl
    by_out (suc o) s p = refl

module _ (c : Collection) (it : Interface) (m m' : Bindings) (f : Leaf → Leaf) (x : Carries f (inside_interface c it m) m') where
  -- bindings outside the interface, inside which m' is as it is
  abbrev around_it : Bindings
  around_it r = option_case (own_name c it.uses it.exports r) (m' r) (λ n. on (from_outside f) (m r))

  around-carries : Carries (from_outside f) m around_it
  around-carries r l e = by_case (own_name c it.uses it.exports r) (x r)
    where
      by_case : (o : Option Name) → ((k : Leaf) → option_case o (option_case (m r) None (λ y. Some (further_out y))) (λ n. Some (own_leaf n)) ≡ Some k → m' r ≡ Some (f k)) → option_case o (m' r) (λ n. on (from_outside f) (m r)) ≡ Some (from_outside f l)
      by_case (Some n) h = ap (on (from_outside f)) e
      by_case None h = h (further_out l) (ap (on further_out) e)

  outward-around : changed (outward f) (inside_interface c it around_it) ≡ m'
  outward-around = fun_ext (λ r. by_case r (own_name c it.uses it.exports r) (x r))
    where
      further : (o : Option Leaf) → on (outward f) (option_case o None (λ l. Some (further_out l))) ≡ o
      further None = refl
      further (Some l) = refl

      by_case : (r : ResourceId) (o : Option Name) → ((k : Leaf) → option_case o (option_case (m r) None (λ y. Some (further_out y))) (λ n. Some (own_leaf n)) ≡ Some k → m' r ≡ Some (f k)) → on (outward f) (option_case o (option_case (option_case o (m' r) (λ n. on (from_outside f) (m r))) None (λ y. Some (further_out y))) (λ n. Some (own_leaf n))) ≡ m' r
      by_case r (Some n) h = sym (h (own_leaf n) refl)
      by_case r None h = further (m' r)

held-inside : (c : Collection) (it : Interface) (m : Bindings) (a : AnyType) → ((g : Leaf → Leaf) (n : Bindings) → Carries g m n → held_tree c (inside_interface c it n) a ≡ moved (inside g) (held_tree c (inside_interface c it m) a)) → IsHeld c (inside_interface c it m) a (held_tree c (inside_interface c it m) a)
held-inside c it m a natural f m' x =
    ap (λ (k : Bindings). held_tree c k a) (sym (outward-around c it m m' f x))
    ∙ sym (held-moves c (outward f) (inside_interface c it (around_it c it m m' f x)) a)
    ∙ ap (moved (outward f)) (natural (from_outside f) (around_it c it m m' f x) (around-carries c it m m' f x))
    ∙ moved-moved (held_tree c (inside_interface c it m) a) (outward f) (inside (from_outside f)) f (outward-inside f)

-- ---- the type items

-- the type items by name
abbrev exports_of : Collection → Interface → Bindings → Name → Tree
exports_of c it m = items_under (item_trees c (inside_interface c it m) exported (filter lists_type it.exports))

tree-is : (c : Collection) (m : Bindings) (i : InterfaceId) (it : Interface) → item_at c.interfaces i.0 ≡ Some it → types_tree c m i ≡ instance (exports_of c it m)
tree-is c m i it at = ap (λ (o : Option Interface). option_case o absent (λ (x : Interface). instance (exports_of c x m))) at

module _ (c : Collection) (i : InterfaceId) (it : Interface) (n : Name) (a : AnyType) (m : Bindings) (t : Tree) (at : item_at c.interfaces i.0 ≡ Some it) (found : find_name (filter lists_type it.exports) n ≡ Some (kind.TypeItem a))
    (not_here : (m' : Bindings) → binds_here c (inside_interface c it m') exported (named n ∷ []) (kind.TypeItem a) ≡ false) (h : IsInterfaceHeld c true m i t) where
  item-is : (m' : Bindings) → exports_of c it m' n ≡ type_equal (held_tree c (inside_interface c it m') a)
  item-is m' =
      items-found (λ e. held_item c (inside_interface c it m') exported (named e.0 ∷ []) e.1) (filter lists_type it.exports) n
      ∙ ap (λ (o : Option ItemKind). option_case o absent (λ (k : ItemKind). held_item c (inside_interface c it m') exported (named n ∷ []) k)) found
      ∙ ap (λ (b : Bool). item_tree (held_tree c (inside_interface c it m')) b (kind.TypeItem a)) (not_here m')

  tree-here : t ≡ instance (exports_of c it m)
  tree-here = sym (moved-id t (λ l. l) refl) ∙ sym (h (λ l. l) m (λ r l e. e)) ∙ tree-is c m i it at

  natural : (g : Leaf → Leaf) (m' : Bindings) → Carries g m m' → held_tree c (inside_interface c it m') a ≡ moved (inside g) (held_tree c (inside_interface c it m) a)
  natural g m' x =
      ap type_in (sym (item-is m'))
      ∙ ap (λ (u : Tree). type_in (items_in u n)) (sym (tree-is c m' i it at) ∙ h g m' x ∙ ap (moved g) tree-here)
      ∙ ap (λ (u : Tree). type_in (moved (inside g) u)) (item-is m)

  types-part : Holds c (inside_interface c it m) a
  types-part = (held_tree c (inside_interface c it m) a, held-inside c it m a natural)

-- ---- the items, whole or types only

item-holds : (c : Collection) (m : Bindings) (side : Side) (n : Name) (k : ItemKind) (t : Tree) → IsItem c m side n k t → binds_here c m side (named n ∷ []) k ≡ false → Holds c m (kind_type k)
item-holds c m side n (kind.TypeItem a) fresh h other = let both : true ≡ false = sym h ∙ other in cc
item-holds c m side n (kind.TypeItem a) (type_equal t) h other = (t, h.1)
item-holds c m side n (kind.Func f) (function_item t) h other = (t, h)
item-holds c m side n (kind.Instance i) (instance_item t) h other = (t, h)
item-holds c m side n (kind.Component w) (component_item t) h other = (t, h)
item-holds c m side n (kind.Module k) (module_item t) h other = (t, h)
item-holds c m side n (kind.Value v) (value_item t) h other = (t, h)
item-holds c m side n k t h other = absurd h

-- An exported item that binds no resource is held inside the interface.
pub part-held : HoldsItems → (c : Collection) → IsWellFormed c → (i : InterfaceId) (it : Interface) (b : Bool) (m : Bindings) (t : Tree) (n : Name) (k : ItemKind) → item_at c.interfaces i.0 ≡ Some it → find_name (shown it b) n ≡ Some k → (b ≡ true → lists_type (n, k) ≡ true)
    → ((m' : Bindings) → binds_here c (inside_interface c it m') exported (named n ∷ []) k ≡ false) → IsInterfaceHeld c b m i t → Holds c (inside_interface c it m) (kind_type k)
part-held law c wf i it false m t n k at found type other h = item-holds c (inside_interface c it m) exported n k (items_in t n) (law c wf m i it t n k at found h) (other m)
part-held law c wf i it true m t n (kind.TypeItem a) at found type other h = types-part c i it n a m t at found other h
part-held law c wf i it true m t n (kind.Func f) at found type other h = let none : false ≡ true = type refl in cc
part-held law c wf i it true m t n (kind.Instance j) at found type other h = let none : false ≡ true = type refl in cc
part-held law c wf i it true m t n (kind.Component w) at found type other h = let none : false ≡ true = type refl in cc
part-held law c wf i it true m t n (kind.Module y) at found type other h = let none : false ≡ true = type refl in cc
part-held law c wf i it true m t n (kind.Value v) at found type other h = let none : false ≡ true = type refl in cc

-- ---- what exports the items

item-carried : (c : Collection) (m m' : Bindings) (f : Leaf → Leaf) → Carries f m m' → (side : Side) (n : Name) (k : ItemKind) (t : Tree) → binds_here c m' side (named n ∷ []) k ≡ binds_here c m side (named n ∷ []) k → IsItem c m side n k t → held_item c m' side (named n ∷ []) k ≡ moved f t
item-carried c m m' f x side n (kind.TypeItem a) fresh same h = ap (λ b. if b then fresh else type_equal (held_tree c m' a)) (same ∙ h)
item-carried c m m' f x side n (kind.TypeItem a) (type_equal t) same h = ap (λ b. if b then fresh else type_equal (held_tree c m' a)) (same ∙ h.0) ∙ ap type_equal (h.1 f m' x)
item-carried c m m' f x side n (kind.Func g) (function_item t) same h = ap function_item (h f m' x)
item-carried c m m' f x side n (kind.Instance i) (instance_item t) same h = ap instance_item (h f m' x)
item-carried c m m' f x side n (kind.Component w) (component_item t) same h = ap component_item (h f m' x)
item-carried c m m' f x side n (kind.Module k) (module_item t) same h = ap module_item (h f m' x)
item-carried c m m' f x side n (kind.Value v) (value_item t) same h = ap value_item (h f m' x)
item-carried c m m' f x side n k t same h = absurd h

listed-carried : (c : Collection) (it : Interface) (m m' : Bindings) (f : Leaf → Leaf) → Carries f m m' → (items : Name → Tree) → AreListed c (inside_interface c it m) exported (filter lists_type it.exports) items → (n : Name) → exports_of c it m' n ≡ moved (inside f) (items n)
listed-carried c it m m' f x items h n =
    items-found (λ e. held_item c (inside_interface c it m') exported (named e.0 ∷ []) e.1) (filter lists_type it.exports) n ∙ by_case (find_name (filter lists_type it.exports) n) (items n) (h n)
  where
    by_case : (o : Option ItemKind) (t : Tree) → IsUnder c (inside_interface c it m) exported n o t → option_case o absent (λ k. held_item c (inside_interface c it m') exported (named n ∷ []) k) ≡ moved (inside f) t
    by_case None t u = sym (ap (moved (inside f)) u)
    by_case (Some k) t u = item-carried c (inside_interface c it m) (inside_interface c it m') (inside f) (carries-inside c it f m m' x) exported n k t (here-inside c it m m' (named n ∷ []) k) u

-- An instance type with the exported items has the tree of the interface.
pub exports-held : HoldsInterface → (c : Collection) → IsWellFormed c → (i : InterfaceId) (it : Interface) (b : Bool) (m : Bindings) (items : Name → Tree) → item_at c.interfaces i.0 ≡ Some it → AreListed c (inside_interface c it m) exported (shown it b) items → IsInterfaceHeld c b m i (instance items)
exports-held law c wf i it false m items at listed = law c wf m i it items at listed
exports-held law c wf i it true m items at listed = λ f m' x. tree-is c m' i it at ∙ ap instance (fun_ext (λ n. listed-carried c it m m' f x items listed n))
