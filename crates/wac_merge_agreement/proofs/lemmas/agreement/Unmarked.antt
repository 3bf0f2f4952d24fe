-- A tree whose resources are all bound inside it is the same whatever resources are called outside, and the numbers of
-- worlds with such trees.
use Rattle.std.proofs.Common.{◌≡◌, ℕ, zero, suc, ◌<◌, Bool, true, false, if◌then◌else◌, List, [], ◌∷◌, ◌++◌, map, length, Option, Some, None, ◌⊎◌, inl, inr, refl, sym, ap, ◌∙◌, subst}
use Rattle.std.specs.Prelude.{slice_get}
use Rattle.std.proofs.Math.ListN.{set}
use Rattle.std.specs.List.{All, AllByRecursion}
use Rattle.wac_types_shapes.specs.primitives.Name.{Name, option_case, same_name}
use Rattle.wac_types_shapes.specs.primitives.Tree.{TypeTree, Leaf, Place, absent, resource, own, borrow, instance, component, type_equal, function_item, instance_item, component_item, module_item, value_item}
use Rattle.wac_types_shapes.specs.declared.shapes.component.ItemKind.{ItemKind}
use Rattle.wac_types_shapes.specs.declared.shapes.component.ItemKind.TheVariants as kind
use Rattle.wac_types_shapes.specs.declared.shapes.component.FuncType.{FuncType}
use Rattle.wac_types_shapes.specs.declared.shapes.component.DefinedType.{DefinedType}
use Rattle.wac_types_shapes.specs.declared.shapes.component.DefinedType.TheVariants as def
use Rattle.wac_types_shapes.specs.declared.shapes.component.ResourceId.{ResourceId}
use Rattle.wac_types_shapes.specs.declared.shapes.component.WorldId.{WorldId}
use Rattle.wac_types_shapes.specs.declared.shapes.component.ValueType.{ValueType}
use Rattle.wac_types_shapes.specs.declared.shapes.component.ValueType.TheVariants as val
use Rattle.wac_types_shapes.specs.declared.shapes.component.«Type».{«Type» as AnyType}
use Rattle.wac_types_shapes.specs.declared.shapes.component.«Type».TheVariants as ty
use Rattle.wac_types_collection.specs.declared.collection.collection.Held.{Held}
use Rattle.wac_types_collection.specs.collection.Collection.{Collection, size, seconds, and_maybe, case_values, func_values, defined_values, holds_type}
use Rattle.wac_types_collection.specs.collection.Held.{Names, Unfolding, of_held, items_under, item_tree, option_tree, part_at, func_tree, defined_tree, resolved, step, unfolded_to}
use Rattle.wac_types_collection.specs.collection.Bound.{bound_by_imports, bound_in_world}
use Rattle.wac_types_collection.specs.reach.Reach.{IsIn, AreClosed}
use Rattle.wac_types_collection.specs.subtyping.Called.{Called, bound_at, of_class, itself, one_out, or_around, own_leaf, resource_name, by_binding}
use Rattle.wac_types_collection.proofs.lemmas.subtyping.Unfolding.{func_same, defined_same}
use Rattle.wac_merge_tables.specs.private.tables.Nodes as table
use Rattle.wac_merge_tables.specs.private.tables.Nodes.{Node, type_of, tree_at}
use Rattle.wac_merge_classes.specs.entries.Agreement.{called_outside}
use Rattle.wac_merge_classes.specs.entries.Binding.{binding_class}
use Rattle.wac_merge_classes.specs.entries.Classes.{Entry, by_names}
use Rattle.wac_merge_classes.specs.entries.Scopes.{number_of}
use Rattle.wac_merge_classes.proofs.lemmas.entries.Lists.{push-cases, set-cases}
use Rattle.wac_merge_trees.specs.private.coding.Coding.{tree_in, HasTree}
use Rattle.wac_merge_trees.specs.private.coding.Listings.{AreKnown}
use Rattle.wac_merge_agreement.specs.private.agreement.ReachSteps.{flag_of}
use Rattle.wac_merge_agreement.specs.private.agreement.Marks.{AreMarks, IsInner, is_outer}
use Rattle.wac_merge_agreement.specs.private.agreement.Worlds.{AreAmong, AreWorlds, HasNumberToo, HasUnmarkedToo}
use Rattle.wac_merge_agreement.specs.private.agreement.Compared.{IsItemOf}

-- ---- lists of types

pub at_in : (ts : List AnyType) (i : ℕ) (t : AnyType) → slice_get ts i ≡ Some t → IsIn t ts
at_in [] i t at = cc
at_in (x ∷ ts) zero t at = let same : x ≡ t = cc in inl (sym same)
at_in (x ∷ ts) (suc i) t at = inr (at_in ts i t at)

-- worlds among types of the collection are worlds of the collection
pub worlds_held : (c : Collection) (ts : List AnyType) → AreClosed c ts → (ws : List WorldId) → AreAmong ts ws → AreWorlds c ws
worlds_held c ts closed ws among = λ i d lt. closed.held _ (among i d lt)

-- ---- parts of a tree whose resources are bound inside it
module _ (t : ValueType → TypeTree Called) where
  abbrev In : ValueType → Type 0
  In v = IsInner (t v)

  values_inner : (vs : List ValueType) → ((i : ℕ) → IsInner (part_at (map t vs) i)) → AllByRecursion In vs
  values_inner [] h = tt
  values_inner (v ∷ vs) h = (h 0, values_inner vs (λ i. h (suc i)))

  seconds_inner : (es : List (Name × ValueType)) → ((i : ℕ) → IsInner (part_at (map (λ p. t p.1) es) i)) → AllByRecursion In (seconds es)
  seconds_inner [] h = tt
  seconds_inner (e ∷ es) h = (h 0, seconds_inner es (λ i. h (suc i)))

  optional_inner : (o : Option ValueType) (vs : List ValueType) → IsInner (option_tree t o) → AllByRecursion In vs → AllByRecursion In (and_maybe o vs)
  optional_inner None vs h k = k
  optional_inner (Some v) vs h k = (h, k)

  cases_inner : (es : List (Name × Option ValueType)) → ((i : ℕ) → IsInner (part_at (map (λ e. option_tree t e.1) es) i)) → AllByRecursion In (case_values es)
  cases_inner [] h = tt
  cases_inner (e ∷ es) h = optional_inner e.1 (case_values es) (h 0) (cases_inner es (λ i. h (suc i)))

  func_inner : (f : FuncType) → IsInner (func_tree t f) → AllByRecursion In (func_values f)
  func_inner f h = optional_inner f.result (seconds f.params) h.1 (seconds_inner f.params h.0)

  defined_inner : (d : DefinedType) → IsInner (defined_tree t d) → AllByRecursion In (defined_values d)
  defined_inner (def.Tuple vs) h = values_inner vs h
  defined_inner (def.List v) h = (h, tt)
  defined_inner (def.FixedSizeList v n) h = (h, tt)
  defined_inner (def.Option v) h = (h, tt)
  defined_inner (def.Result ok err) h = optional_inner ok (and_maybe err []) h.0 (optional_inner err [] h.1 tt)
  defined_inner (def.Variant v) h = cases_inner v.cases h
  defined_inner (def.Record r) h = seconds_inner r.fields h
  defined_inner (def.Flags names) h = tt
  defined_inner (def.Enum names) h = tt
  defined_inner (def.Alias v) h = (h, tt)
  defined_inner (def.Stream v) h = optional_inner v [] h tt
  defined_inner (def.Future v) h = optional_inner v [] h tt

all_from : (P Q : ValueType → Type 0) → ((v : ValueType) → P v → Q v) → (vs : List ValueType) → AllByRecursion P vs → AllByRecursion Q vs
all_from P Q f [] h = tt
all_from P Q f (v ∷ vs) h = (f v h.0, all_from P Q f vs h.1)

-- ---- items that are the same where their types are
module _ (a b : AnyType → TypeTree Called) (same : (t : AnyType) → IsInner (a t) → a t ≡ b t) where
  item_kept : (k : ItemKind) → IsInner (item_tree a false k) → item_tree a false k ≡ item_tree b false k
  item_kept (kind.TypeItem t) h = ap type_equal (same t h)
  item_kept (kind.Func f) h = ap function_item (same (ty.Func f) h)
  item_kept (kind.Instance i) h = ap instance_item (same (ty.Interface i) h)
  item_kept (kind.Component w) h = ap component_item (same (ty.World w) h)
  item_kept (kind.Module m) h = ap module_item (same (ty.Module m) h)
  item_kept (kind.Value v) h = ap value_item (same (ty.Value v) h)

  abbrev under : (AnyType → TypeTree Called) → List (Name × ItemKind) → Name → TypeTree Called
  under t es = items_under (map {B = Name × TypeTree Called} (λ e. (e.0, item_tree t false e.1)) es)

  listed_kept : (es : List (Name × ItemKind)) (n : Name) → IsInner (under a es n) → under a es n ≡ under b es n
  listed_kept [] n h = refl
  listed_kept (e ∷ es) n h = split (same_name n e.0) h (listed_kept es n) where
    split : (s : Bool) → IsInner (if s then item_tree a false e.1 else under a es n) → (IsInner (under a es n) → under a es n ≡ under b es n)
        → (if s then item_tree a false e.1 else under a es n) ≡ (if s then item_tree b false e.1 else under b es n)
    split true g more = item_kept e.1 g
    split false g more = more g

-- ---- names that differ only outside

-- the names are the same, or the first is bound outside
abbrev AlikeAt : Option Called → Option Called → Type 0
AlikeAt o p = (o ≡ p) ⊎ ((x : Called) × (o ≡ Some x) × (is_outer x ≡ true))

abbrev Alike : Names Called → Names Called → Type 0
Alike m l = (r : ResourceId) → AlikeAt (m r) (l r)

clash : (b : Bool) → b ≡ true → b ≡ false → ⊥
clash true h e = cc
clash false h e = cc

outer_out : (x : Called) → is_outer x ≡ true → is_outer (one_out x) ≡ true
outer_out (bound_at l n) e = e
outer_out (of_class k path n) e = refl
outer_out (itself r n) e = refl

-- a resource, or a handle to one
name_kept : (wrap : Called → TypeTree Called) → ((x : Called) → IsInner (wrap x) → is_outer x ≡ false) → (o p : Option Called) → AlikeAt o p
    → IsInner (option_case o absent wrap) → option_case o absent wrap ≡ option_case p absent wrap
name_kept wrap reads o p (inl e) h = ap (λ q. option_case q absent wrap) e
name_kept wrap reads o p (inr (x, e, outer)) h = absurd (clash (is_outer x) outer (reads x (subst (λ q. IsInner (option_case q absent wrap)) e h)))

held_kept : {A : Type 0} (f g : A → TypeTree Called) (o : Option (Held A)) → IsInner (of_held f o) → ((h : Held A) → IsInner (f h.item) → f h.item ≡ g h.item) → of_held f o ≡ of_held g o
held_kept f g None inner same = refl
held_kept f g (Some h) inner same = same h inner

module _ (c : Collection) where
  -- one scope further in
  here_alike : (r : ResourceId) (here : Option Leaf) (m l : Names Called) → AlikeAt (m r) (l r) → AlikeAt (or_around c here m r) (or_around c here l r)
  here_alike r (Some leaf) m l a = inl refl
  here_alike r None m l (inl e) = inl (ap (λ o. option_case o None (λ x. Some (one_out x))) e)
  here_alike r None m l (inr (x, e, outer)) = inr (one_out x, ap (λ o. option_case o None (λ x. Some (one_out x))) e, outer_out x outer)

  module _ (u : Unfolding Called) (deeper : (m l : Names Called) (a : AnyType) → Alike m l → IsInner (u m a) → u m a ≡ u l a) where
    values_kept : (m l : Names Called) → Alike m l → (vs : List ValueType) → AllByRecursion (λ v. IsInner (u m (ty.Value v))) vs → AllByRecursion (λ v. u m (ty.Value v) ≡ u l (ty.Value v)) vs
    values_kept m l alike = all_from (λ v. IsInner (u m (ty.Value v))) (λ v. u m (ty.Value v) ≡ u l (ty.Value v)) (λ v h. deeper m l (ty.Value v) alike h)

    step_kept : (m l : Names Called) (a : AnyType) → Alike m l → IsInner (step (by_binding c) c u m a) → step (by_binding c) c u m a ≡ step (by_binding c) c u l a
    step_kept m l (ty.Resource r) alike h = name_kept resource (λ x e. e) (m (resolved c r)) (l (resolved c r)) (alike (resolved c r)) h
    step_kept m l (ty.Value (val.Primitive p)) alike h = refl
    step_kept m l (ty.Value (val.Own r)) alike h = name_kept own (λ x e. e) (m (resolved c r)) (l (resolved c r)) (alike (resolved c r)) h
    step_kept m l (ty.Value (val.Borrow r)) alike h = name_kept borrow (λ x e. e) (m (resolved c r)) (l (resolved c r)) (alike (resolved c r)) h
    step_kept m l (ty.Value (val.Defined d)) alike h = held_kept _ _ (slice_get c.defined d.0) h
        (λ x inner. defined_same (λ v. u m (ty.Value v)) (λ v. u l (ty.Value v)) x.item
        (values_kept m l alike (defined_values x.item) (defined_inner (λ v. u m (ty.Value v)) x.item inner)))
    step_kept m l (ty.Func f) alike h = held_kept _ _ (slice_get c.funcs f.0) h
        (λ x inner. func_same (λ v. u m (ty.Value v)) (λ v. u l (ty.Value v)) x.item
        (values_kept m l alike (func_values x.item) (func_inner (λ v. u m (ty.Value v)) x.item inner)))
    step_kept m l (ty.Interface i) alike h = held_kept _ _ (slice_get c.interfaces i.0) h
        (λ x inner.
        let p = (by_binding c).in_instance x.item m in
        let q = (by_binding c).in_instance x.item l in
        let near : Alike p q = λ r. here_alike r (own_leaf c x.item r) m l (alike r) in
        let e = λ (n : Name). listed_kept (u p) (u q) (λ t g. deeper p q t near g) x.item.exports n (inner n) in
        (λ j. instance (λ n. e n j)))
    step_kept m l (ty.World w) alike h = held_kept _ _ (slice_get c.worlds w.0) h
        (λ x inner.
        let p = (by_binding c).in_imports x.item m in
        let q = (by_binding c).in_imports x.item l in
        let near : Alike p q = λ r. here_alike r (bound_by_imports c x.item r) m l (alike r) in
        let y = λ (n : Name). listed_kept (u p) (u q) (λ t g. deeper p q t near g) x.item.imports n (inner.0 n) in
        let p' = (by_binding c).in_exports x.item m in
        let q' = (by_binding c).in_exports x.item l in
        let far : Alike p' q' = λ r. here_alike r (bound_in_world c x.item r) m l (alike r) in
        let z = λ (n : Name). listed_kept (u p') (u q') (λ t g. deeper p' q' t far g) x.item.exports n (inner.1 n) in
        (λ j. component (λ n. y n j) (λ n. z n j)))
    step_kept m l (ty.Module k) alike h = refl

  kept_to : (k : ℕ) (m l : Names Called) (a : AnyType) → Alike m l → IsInner (unfolded_to (by_binding c) c k m a) → unfolded_to (by_binding c) c k m a ≡ unfolded_to (by_binding c) c k l a
  kept_to zero m l a alike h = refl
  kept_to (suc k) m l a alike h = step_kept (unfolded_to (by_binding c) c k) (kept_to k) m l a alike h

  -- outside an entry each resource is bound outside
  outer_either : (o : Option (ℕ × List Place)) (r : ResourceId) (n : Name) → is_outer (option_case o (itself r n) (λ b. of_class b.0 b.1 n)) ≡ true
  outer_either None r n = refl
  outer_either (Some b) r n = refl

  outside_alike : (es : List Entry) (l : Names Called) → Alike (called_outside by_names c es) l
  outside_alike es l r =
      let n = resource_name c r in
      let o = binding_class by_names c es r in
      inr (option_case o (itself r n) (λ b. of_class b.0 b.1 n), refl, outer_either o r n)

  tree_kept : (es : List Entry) (l : Names Called) (a : AnyType) → IsInner (tree_in c (called_outside by_names c es) a) → tree_in c (called_outside by_names c es) a ≡ tree_in c l a
  unfolding tree_in
  tree_kept es l a h = kept_to (suc (size c)) (called_outside by_names c es) l a (outside_alike es l) h

-- ---- numbers

-- the number of a type item is that of the type
type_number : (t : ℕ → TypeTree Called) (x : table.Item) (a : TypeTree Called) → table.item_tree t x ≡ type_equal a → t (type_of x) ≡ a
type_number t (table.a_type n) a e = cc
type_number t (table.a_func n) a e = cc
type_number t (table.an_instance n) a e = cc
type_number t (table.a_component n) a e = cc
type_number t (table.a_module n) a e = cc
type_number t (table.a_value n) a e = cc

-- a world that is in the table as the item of an entry, whose node has no mark, has its number there, whatever resources
-- are called
module _ (ns : List Node) (c : Collection) (es : List Entry) (name : Name) (w : WorldId) (marks : List Bool) (are : AreMarks ns marks) where
  world_tree : (x : table.Item) → IsItemOf ns c es name (kind.TypeItem (ty.World w)) x → tree_at ns (type_of x) ≡ tree_in c (called_outside by_names c es) (ty.World w)
  unfolding tree_in
  world_tree x is = type_number (tree_at ns) x _ is.is

  world_number : (x : table.Item) → IsItemOf ns c es name (kind.TypeItem (ty.World w)) x → type_of x < length marks → flag_of marks (type_of x) ≡ false
      → (m : Names Called) → HasTree ns (tree_in c m (ty.World w)) (type_of x)
  world_number x is low none m =
      let e = world_tree x is in
      record { there = is.there; is = e ∙ tree_kept c es m (ty.World w) (subst IsInner e (are.inner (type_of x) low none)) }

  pub number_too : (old new : List (Option ℕ)) (x : table.Item) → AreKnown ns c old → IsItemOf ns c es name (kind.TypeItem (ty.World w)) x → type_of x < length marks
      → HasUnmarkedToo marks old w (type_of x) new → AreKnown ns c new
  number_too old new x known is low more = λ v k at m. split v k m (more v k at) where
    split : (v : WorldId) (k : ℕ) (m : Names Called) → (number_of old (ty.World v) ≡ Some k) ⊎ ((v ≡ w) × (k ≡ type_of x) × (flag_of marks (type_of x) ≡ false)) → HasTree ns (tree_in c m (ty.World v)) k
    split v k m (inl e) = known v k e m
    split v k m (inr (same, e, none)) =
        subst (λ (j : ℕ). HasTree ns (tree_in c m (ty.World v)) j) (sym e) (subst (λ (b : WorldId). HasTree ns (tree_in c m (ty.World b)) (type_of x)) (sym same) (world_number x is low none m))

-- ---- one more number

same_world : (v w : WorldId) → v.0 ≡ w.0 → v ≡ w
same_world v w e = λ j. record { 0 = e j }

number_read : (o : Option (Option ℕ)) (k : ℕ) → option_case o None (λ n. n) ≡ Some k → o ≡ Some (Some k)
number_read None k e = cc
number_read (Some n) k e = ap (λ m. Some m) e

-- a place without a number is appended
pub number_pushed : (old xs new : List (Option ℕ)) → new ≡ xs ++ None ∷ [] → ((v : WorldId) (k : ℕ) → number_of xs (ty.World v) ≡ Some k → number_of old (ty.World v) ≡ Some k)
    → (v : WorldId) (k : ℕ) → number_of new (ty.World v) ≡ Some k → number_of old (ty.World v) ≡ Some k
number_pushed old xs new is was v k at = elim (push-cases xs None v.0 (Some k) (ap (λ (l : List (Option ℕ)). slice_get l v.0) (sym is) ∙ number_read (slice_get new v.0) k at)) [
  | inl e ↦ was v k (ap (λ o. option_case o None (λ n. n)) e)
  | inr e ↦ let none : Some k ≡ None = e.1 in cc
]

-- a number is put in its place
pub number_set : (old xs new : List (Option ℕ)) (w : WorldId) (n : ℕ) → new ≡ set xs w.0 (Some n) → ((v : WorldId) (k : ℕ) → number_of xs (ty.World v) ≡ Some k → number_of old (ty.World v) ≡ Some k) → HasNumberToo old w n new
number_set old xs new w n is was v k at = elim (set-cases xs w.0 (Some n) v.0 (Some k) (ap (λ (l : List (Option ℕ)). slice_get l v.0) (sym is) ∙ number_read (slice_get new v.0) k at)) [
  | inl e ↦ inr (same_world v w e.0, (let same : Some k ≡ Some n = e.1 in cc))
  | inr e ↦ inl (was v k (ap (λ o. option_case o None (λ n. n)) e.1))
]

-- a number is put in its place, if its node has no mark
pub number_unmarked : (marks : List Bool) (old new : List (Option ℕ)) (w : WorldId) (n : ℕ) → flag_of marks n ≡ false → HasNumberToo old w n new → HasUnmarkedToo marks old w n new
number_unmarked marks old new w n none h v k at = elim (h v k at) [ inl e ↦ inl e | inr e ↦ inr (e.0, e.1, none) ]
