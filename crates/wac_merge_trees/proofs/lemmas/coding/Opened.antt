-- The scopes that an item opens: what resources are called in them, what they list, and the tree of the item's type from theirs.
use Rattle.std.specs.Global.{Global}
use Rattle.std.proofs.Common.{◌≡◌, ◌≢◌, ℕ, suc, ◌+◌, ◌<◌, true, false, List, [], ◌∷◌, map, length, Vec, Option, Some, None, Contains, slice_get, get_or, refl, sym, ap, ◌∙◌, subst, arith}
use Rattle.std.proofs.Math.Path.{fun_ext}
use Rattle.std.proofs.lemmas.Option.{slice_get_read, slice_get_within}
use Rattle.wac_types_shapes.specs.primitives.Name.{Name, option_case}
use Rattle.wac_types_shapes.specs.primitives.Tree.{TypeTree, instance, component}
use Rattle.wac_types_collection.specs.collection.Collection.{Collection, IsWellFormed, size, item_of, holds_type, holds_all, kind_types, world_imports, world_exports}
use Rattle.wac_types_shapes.specs.shapes.Kinds.{kind_type}
use Rattle.wac_types_collection.specs.collection.Held.{Names, of_held, interface_tree, world_tree, unfolded, items_under, item_tree}
use Rattle.wac_types_collection.specs.collection.Bound.{bound_by_imports, bound_in_world}
use Rattle.wac_types_collection.specs.subtyping.Called.{Called, or_around, own_leaf, by_binding}
use Rattle.wac_types_collection.specs.subtyping.TreeLaws.{IsDeepEnough}
use Rattle.wac_types_collection.specs.declared.collection.collection.Held.{Held}
use Rattle.wac_types_shapes.specs.declared.shapes.component.Interface.{Interface}
use Rattle.wac_types_shapes.specs.declared.shapes.component.InterfaceId.{InterfaceId}
use Rattle.wac_types_shapes.specs.declared.shapes.component.World.{World}
use Rattle.wac_types_shapes.specs.declared.shapes.component.WorldId.{WorldId}
use Rattle.wac_types_shapes.specs.declared.shapes.component.ResourceId.{ResourceId}
use Rattle.wac_types_shapes.specs.declared.shapes.component.«Type».TheVariants as ty
use Rattle.wac_types_shapes.specs.declared.shapes.component.ItemKind.{ItemKind}
use Rattle.wac_types_shapes.specs.declared.shapes.component.ItemKind.TheVariants as kind
use Rattle.wac_types_collection.proofs.lemmas.collection.Growth.{all_within}
use Rattle.wac_merge_trees.specs.declared.coding.calls.Calls.{Calls}
use Rattle.wac_merge_trees.specs.declared.coding.coder.Source.{Source}
use Rattle.wac_merge_tables.specs.declared.tables.nodes.Item.{Item}
use Rattle.wac_merge_classes.specs.declared.entries.scopes.Opener.{Opener}
use Rattle.wac_merge_classes.specs.declared.entries.scopes.Opener.TheVariants as opener
use Rattle.wac_merge_classes.specs.declared.entries.scopes.Scope.{Scope}
use Rattle.wac_merge_classes.specs.entries.Classes.{by_names, class_names, is_instance}
use Rattle.wac_merge_classes.specs.entries.Agreement.{called_outside}
use Rattle.wac_merge_trees.specs.private.coding.CallsView.{names_of, names_in, AreNamed}
use Rattle.wac_merge_trees.specs.private.coding.Coding.{tree_in, source_tree}
use Rattle.wac_merge_trees.specs.private.coding.ItemCoding.{AreItems, component_tree}
use Rattle.wac_merge_trees.specs.private.coding.Listings.{at_scope, AreOpen, IsAroundIn, IsAround, AreListings, AreInnerListings}
use Rattle.wac_merge_tables.specs.private.tables.Nodes.{Node}
use Rattle.wac_merge_classes.specs.entries.Scopes.{listed_in, binds, opened, opened_by, opened_by_type, inside, IsBelow, called_in_root, scope_tree}
use Rattle.wac_merge_classes.proofs.lemmas.entries.Inserting.{of-at}
use Rattle.wac_merge_classes.proofs.lemmas.entries.Opening.{opened-kind, there, lists}
use Rattle.wac_merge_classes.proofs.lemmas.entries.ScopeLaws.{around-same, called-at-root, called-inside}

-- ---- trees

-- inside an instance type and on the two sides of a component type: what is bound there, else what is bound around it
abbrev in_interface : Collection → Names Called → Option (Held Interface) → Names Called
in_interface c m o r = or_around c (option_case (item_of o) None (λ it. own_leaf c it r)) m r

abbrev in_imports : Collection → Names Called → Option (Held World) → Names Called
in_imports c m o r = or_around c (option_case (item_of o) None (λ w. bound_by_imports c w r)) m r

abbrev in_exports : Collection → Names Called → Option (Held World) → Names Called
in_exports c m o r = or_around c (option_case (item_of o) None (λ w. bound_in_world c w r)) m r

-- what is listed, under what resources are called there
abbrev listed_under : Collection → Names Called → List (Name × ItemKind) → Name → TypeTree Called
listed_under c n es = items_under (map (λ e. (e.0, item_tree (unfolded (by_binding c) c n) false e.1)) es)

interface-unfolds : (c : Collection) (m : Names Called) (o : Option (Held Interface)) (h : Held Interface) → o ≡ Some h
    → of_held (interface_tree (by_binding c) c (unfolded (by_binding c) c) m) o ≡ instance (listed_under c (in_interface c m o) (option_case (item_of o) [] (λ x. x.exports)))
interface-unfolds c m None h at = cc
interface-unfolds c m (Some x) h at = refl

world-unfolds : (c : Collection) (m : Names Called) (o : Option (Held World)) (h : Held World) → o ≡ Some h
    → of_held (world_tree (by_binding c) c (unfolded (by_binding c) c) m) o
    ≡ component (listed_under c (in_imports c m o) (option_case (item_of o) [] (λ x. x.imports))) (listed_under c (in_exports c m o) (option_case (item_of o) [] (λ x. x.exports)))
world-unfolds c m None h at = cc
world-unfolds c m (Some x) h at = refl

module _ (c : Collection) (m : Names Called) (deep : IsDeepEnough (by_binding c) c) where
  -- an interface is the instance of what its scope lists
  pub interface-is : (n : Names Called) (i : InterfaceId) → holds_type c (ty.Interface i) ≡ true → ((r : ResourceId) → n r ≡ or_around c (binds c (opener.Interface i) r) m r)
      → scope_tree c n (opener.Interface i) ≡ tree_in c m (ty.Interface i)
  unfolding tree_in
  interface-is n i held named =
      let h = there c.interfaces i.0 held in
      let e : n ≡ (λ r. or_around c (binds c (opener.Interface i) r) m r) = fun_ext named in
      ap (λ x. scope_tree c x (opener.Interface i)) e
      ∙ (sym (interface-unfolds c m (slice_get c.interfaces i.0) h.0 h.1)
      ∙ deep (suc (suc (size c))) (omega arith) m (ty.Interface i) held)

  -- a world is the component of what its two scopes list
  pub world-is : (n l : Names Called) (w : WorldId) → holds_type c (ty.World w) ≡ true → ((r : ResourceId) → n r ≡ or_around c (binds c (opener.Imports w) r) m r)
      → ((r : ResourceId) → l r ≡ or_around c (binds c (opener.Exports w) r) m r)
      → component_tree (tree_in c n) (world_imports c w) (tree_in c l) (world_exports c w) ≡ tree_in c m (ty.World w)
  unfolding tree_in
  world-is n l w held named others =
      let h = there c.worlds w.0 held in
      let e : n ≡ (λ r. or_around c (binds c (opener.Imports w) r) m r) = fun_ext named in
      let f : l ≡ (λ r. or_around c (binds c (opener.Exports w) r) m r) = fun_ext others in
      (λ i. component (listed_under c (e i) (world_imports c w)) (listed_under c (f i) (world_exports c w)))
      ∙ (sym (world-unfolds c m (slice_get c.worlds w.0) h.0 h.1)
      ∙ deep (suc (suc (size c))) (omega arith) m (ty.World w) held)

-- ---- what resources are called

module _ (c : Collection) (s : Calls) (named : AreNamed c s) (around : IsAround s) where
  abbrev in_root : Opener → Names Called
  in_root = called_in_root by_names c s.entries.now named.name s.kind

  called-is : (p : Option ℕ) (r : ResourceId)
      → option_case (slice_get (class_names by_names s.entries.now) s.class) None (λ class. names_of c s.entries.now class s.kind s.scopes.now p r) ≡ names_of c s.entries.now named.name s.kind s.scopes.now p r
  called-is p r = ap (λ o. option_case o None (λ class. names_of c s.entries.now class s.kind s.scopes.now p r)) named.class

  root-is : (k : ItemKind) (o : Opener) (r : ResourceId) → is_instance k ≡ false
      → called_in_root by_names c s.entries.now named.name k o r ≡ or_around c (binds c o r) (called_outside by_names c s.entries.now) r
  root-is (kind.Instance i) o r plain = cc
  root-is (kind.TypeItem t) o r plain = refl
  root-is (kind.Func f) o r plain = refl
  root-is (kind.Component w) o r plain = refl
  root-is (kind.Module k) o r plain = refl
  root-is (kind.Value v) o r plain = refl

  called-there : (p : Option ℕ) → IsAroundIn s.kind p → (i : ℕ) (t : Scope) (r : ResourceId) → slice_get s.scopes.now i ≡ Some t → t.parent ≡ p
      → names_of c s.entries.now named.name s.kind s.scopes.now (Some i) r ≡ or_around c (binds c t.opener r) (names_of c s.entries.now named.name s.kind s.scopes.now p) r
  called-there None plain i t r at outer = called-at-root c (opened_by s.kind) s.scopes.now named.scopes in_root i t r at outer ∙ root-is s.kind t.opener r plain
  called-there (Some p) plain i t r at outer = called-inside c (opened_by s.kind) s.scopes.now named.scopes in_root i p t r at outer

  names-there : (i : ℕ) (t : Scope) (r : ResourceId) → slice_get s.scopes.now i ≡ Some t → t.parent ≡ s.scope → names_in c (at_scope s i) r ≡ or_around c (binds c t.opener r) (names_in c s) r
  names-there i t r at outer =
      called-is (Some i) r
      ∙ (called-there s.scope around i t r at outer
      ∙ around-same c (binds c t.opener r) (names_of c s.entries.now named.name s.kind s.scopes.now s.scope) (names_in c s) r (sym (called-is s.scope r)))

  -- in a scope of this one
  pub inner-names : (o : Opener) (i : ℕ) → slice_get s.scopes.now i ≡ Some (inside s.scope o) → (r : ResourceId) → names_in c (at_scope s i) r ≡ or_around c (binds c o r) (names_in c s) r
  inner-names o i at r = names-there i (inside s.scope o) r at refl

-- the scope of an interface, and the two of a world
pub interface-listed : (k : ItemKind) (id : InterfaceId) → kind_type k ≡ ty.Interface id → Contains (opened_by k) (opener.Interface id)
interface-listed k id is = of-at (opened_by k) 0 (opener.Interface id) (ap (λ l. slice_get l 0) (opened-kind k ∙ ap opened_by_type is))

pub imports-listed : (k : ItemKind) (id : WorldId) → kind_type k ≡ ty.World id → Contains (opened_by k) (opener.Imports id)
imports-listed k id is = of-at (opened_by k) 0 (opener.Imports id) (ap (λ l. slice_get l 0) (opened-kind k ∙ ap opened_by_type is))

pub exports-listed : (k : ItemKind) (id : WorldId) → kind_type k ≡ ty.World id → Contains (opened_by k) (opener.Exports id)
exports-listed k id is = of-at (opened_by k) 1 (opener.Exports id) (ap (λ l. slice_get l 1) (opened-kind k ∙ ap opened_by_type is))

-- ---- what the scopes list

-- what is read at the position of a scope is what it lists, in a source of that scope
pub listing-read : (ns : List Node) (c : Collection) (s : Calls) (i : ℕ) (o : Opener) (ls : List (Vec Item Global)) (xs : Vec Item Global) (ys : List Item) (source : Source) → AreInnerListings ns c s ls → slice_get s.scopes.now i ≡ Some (inside s.scope o)
    → i < length ls → xs ≡ get_or ls i xs → ys ≡ xs.items → source.types.now ≡ c → source.calls.now ≡ at_scope s i → AreItems ns (source_tree source) (listed_in source.types.now o) ys
listing-read ns c s i o ls xs ys source listings there lt read value types calls =
    subst (λ (x : Calls). AreItems ns (tree_in source.types.now (names_in source.types.now x)) (listed_in source.types.now o) ys) (sym calls)
    (subst (λ (d : Collection). AreItems ns (tree_in d (names_in d (at_scope s i))) (listed_in d o) ys) (sym types)
    (subst (λ (l : List Item). AreItems ns (tree_in c (names_in c (at_scope s i))) (listed_in c o) l) (sym value)
    (listings i (inside s.scope o) xs refl there (slice_get_read ls (length ls) i xs refl lt read))))

-- the scope is one of those that are listed
pub listed-within : (s : Calls) (i n : ℕ) (t : Scope) → n ≡ length s.scopes.now → slice_get s.scopes.now i ≡ Some t → i < n
listed-within s i n t counted at = let lt = slice_get_within s.scopes.now i t at in omega (arith, lt, counted)

-- an item of such a type opens a scope
pub interface-opens : (k : ItemKind) (id : InterfaceId) → kind_type k ≡ ty.Interface id → opened_by k ≢ []
interface-opens k id is none = let some : [] ≡ opener.Interface id ∷ [] = sym none ∙ (opened-kind k ∙ ap opened_by_type is) in cc

pub world-opens : (k : ItemKind) (id : WorldId) → kind_type k ≡ ty.World id → opened_by k ≢ []
world-opens k id is none = let some : [] ≡ opener.Imports id ∷ (opener.Exports id ∷ []) = sym none ∙ (opened-kind k ∙ ap opened_by_type is) in cc

-- ---- what a scope lists

-- it is held
pub listed-all : (c : Collection) → IsWellFormed c → (s : Calls) (i : ℕ) (t : Scope) (d : Collection) (es : List (Name × ItemKind)) → AreNamed c s → slice_get s.scopes.now i ≡ Some t → d ≡ c → listed_in c t.opener ≡ es
    → holds_all d (kind_types es) ≡ true
listed-all c wf s i t d es named at same listed =
    let l = lists c wf t.opener (named.scopes.held i t at) in
    subst (λ (x : Collection). holds_all x (kind_types es) ≡ true) (sym same)
    (subst (λ (x : List (Name × ItemKind)). holds_all c (kind_types x) ≡ true) listed (all_within c l.before (kind_types (listed_in c t.opener)) l.listed))

-- the scopes that it opens are there
pub listed-opens : (c : Collection) (s : Calls) (i : ℕ) (t : Scope) (calls : Calls) (es : List (Name × ItemKind)) → AreNamed c s → slice_get s.scopes.now i ≡ Some t → calls ≡ at_scope s i → listed_in c t.opener ≡ es → AreOpen calls (opened es)
listed-opens c s i t calls es named at same listed =
    subst (λ (x : Calls). AreOpen x (opened es)) (sym same) (λ o among. named.nested i t o at (subst (λ (l : List (Name × ItemKind)). Contains (opened l) o) (sym listed) among))

-- what stands behind a scope stands also in it
pub listed-behind : (ns : List Node) (c : Collection) (s : Calls) (i : ℕ) (d : Collection) (calls : Calls) (ls : List (Vec Item Global)) → AreNamed c s → d ≡ c → calls ≡ at_scope s i → AreListings ns c s (i + 1) ls → AreInnerListings ns d calls ls
listed-behind ns c s i d calls ls named types same known =
    subst (λ (x : Calls). AreInnerListings ns d x ls) (sym same) (subst (λ (x : Collection). AreInnerListings ns x (at_scope s i) ls) (sym types) inner) where
      inner : AreInnerListings ns c (at_scope s i) ls
      inner k t xs outer at there = let below : i < k = subst (IsBelow k) outer (named.scopes.around k t at) in known k t xs (omega (arith, below)) at there
