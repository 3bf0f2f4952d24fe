-- Items of a scope while they are listed: the scopes that each opens, and what is listed already.
use Rattle.std.specs.Global.{Global}
use Rattle.std.proofs.Common.{◌≡◌, ℕ, zero, suc, ◌+◌, ◌<◌, true, List, [], ◌∷◌, ◌++◌, take, length, Vec, Option, Some, Contains, slice_get, inl, inr, sym, ap, ◌∙◌, subst, add-one, arith}
use Rattle.std.proofs.Math.ListN.{set}
use Rattle.std.proofs.lemmas.List.Elements.{Contains-append_left, Contains-append_right}
use Rattle.std.specs.List.{AllByRecursion}
use Rattle.std.specs.Option.{option_map}
use Rattle.wac_types_shapes.specs.primitives.Name.{Name}
use Rattle.wac_types_shapes.specs.primitives.Tree.{TypeTree, type_equal, function_item, instance_item, component_item, module_item, value_item}
use Rattle.wac_types_collection.specs.subtyping.Called.{Called}
use Rattle.wac_types_collection.specs.collection.Collection.{Collection, kind_types, holds_type, holds_all}
use Rattle.wac_types_shapes.specs.shapes.Kinds.{kind_type}
use Rattle.wac_types_shapes.specs.declared.shapes.component.ItemKind.{ItemKind}
use Rattle.wac_types_shapes.specs.declared.shapes.component.«Type».{«Type» as AnyType}
use Rattle.wac_types_collection.proofs.lemmas.collection.Growth.{all_from}
use Rattle.wac_types_shapes.proofs.lemmas.shapes.Names.{take_at}
use Rattle.wac_merge_trees.specs.declared.coding.calls.Calls.{Calls}
use Rattle.wac_merge_tables.specs.declared.tables.nodes.Item.{Item}
use Rattle.wac_merge_classes.specs.declared.entries.scopes.Opener.{Opener}
use Rattle.wac_merge_classes.specs.declared.entries.scopes.Scope.{Scope}
use Rattle.wac_merge_trees.specs.private.coding.CallsView.{names_in}
use Rattle.wac_merge_trees.specs.private.coding.Coding.{tree_in, IsGrown}
use Rattle.wac_merge_trees.specs.private.coding.ItemCoding.{HasItem, AreItems}
use Rattle.wac_merge_trees.specs.private.coding.Listings.{at_scope, AreKnown, AreOpen, AreListings, AreInnerListings}
use Rattle.wac_merge_tables.specs.private.tables.NodeViews.{item_view}
use Rattle.wac_merge_tables.specs.private.tables.Nodes.{Node, type_of, item_tree, tree_at}
use Rattle.wac_merge_tables.specs.private.tables.Nodes as table
use Rattle.wac_merge_classes.specs.entries.Scopes.{listed_in, opened_by, opened}
use Rattle.wac_merge_trees.proofs.lemmas.coding.CodingGrowth.{longer, tree_grown}
use Rattle.wac_merge_classes.proofs.lemmas.entries.Lists.{set-cases, zip_all, zip_push}
use Rattle.wac_merge_classes.proofs.lemmas.entries.Opening.{entry-at}

-- ---- what was listed stays as the table grows

module _ (t : AnyType → TypeTree Called) (old new : List Node) (g : IsGrown old new) where
  tree-kept : (x : table.Item) → type_of x < length old → item_tree (tree_at new) x ≡ item_tree (tree_at old) x
  tree-kept (table.a_type n) lt = ap type_equal (g.trees n lt)
  tree-kept (table.a_func n) lt = ap function_item (g.trees n lt)
  tree-kept (table.an_instance n) lt = ap instance_item (g.trees n lt)
  tree-kept (table.a_component n) lt = ap component_item (g.trees n lt)
  tree-kept (table.a_module n) lt = ap module_item (g.trees n lt)
  tree-kept (table.a_value n) lt = ap value_item (g.trees n lt)

  pub item-grown : (k : ItemKind) (x : table.Item) → HasItem old t k x → HasItem new t k x
  item-grown k x h = let l = longer old new g in let low : type_of x < length old = h.there in record { there = omega (arith, l, low); is = tree-kept x h.there ∙ h.is }

  pub items-grown : (es : List (Name × ItemKind)) (xs : List Item) → AreItems old t es xs → AreItems new t es xs
  items-grown es xs h = zip_all (λ e x. HasItem old t e.1 (item_view x)) (λ e x. HasItem new t e.1 (item_view x)) (λ e x k. item-grown e.1 (item_view x) k) es xs h

pub listings-grown : (old new : List Node) (c : Collection) (s : Calls) (ls : List (Vec Item Global)) → IsGrown old new → AreInnerListings old c s ls → AreInnerListings new c s ls
listings-grown old new c s ls g h = λ i t xs inner at there. items-grown (tree_in c (names_in c (at_scope s i))) old new g (listed_in c t.opener) xs.items (h i t xs inner at there)

-- one more item
pub items-more : (t : AnyType → TypeTree Called) (old new : List Node) (es : List (Name × ItemKind)) (i : ℕ) (k : ItemKind) (xs ys : List Item) (x : Item) → IsGrown old new → option_map (λ e. e.1) (slice_get es i) ≡ Some k
    → ys ≡ xs ++ x ∷ [] → AreItems old t (take i es) xs → HasItem new t k (item_view x) → AreItems new t (take (i + 1) es) ys
items-more t old new es i k xs ys x g at is were now =
    let w = entry-at es i k at in
    let last : HasItem new t w.0.1 (item_view x) = subst (λ (y : ItemKind). HasItem new t y (item_view x)) (sym w.2) now in
    subst (λ (l : List Item). AreItems new t (take (i + 1) es) l) (sym is)
    (rw (add-one, take_at es i w.0 w.1) (zip_push (λ e x. HasItem new t e.1 (item_view x)) (take i es) xs w.0 x (items-grown t old new g (take i es) xs were) last))

-- ---- the scopes that one of the items opens

entry-opens : (es : List (Name × ItemKind)) (i : ℕ) (e : Name × ItemKind) (o : Opener) → slice_get es i ≡ Some e → Contains (opened_by e.1) o → Contains (opened es) o
entry-opens [] i e o at there = cc
entry-opens (x ∷ es) zero e o at there =
    let same : x ≡ e = cc in
    Contains-append_left (opened_by x.1) (opened es) o (subst (λ (y : Name × ItemKind). Contains (opened_by y.1) o) (sym same) there)
entry-opens (x ∷ es) (suc i) e o at there = Contains-append_right (opened_by x.1) (opened es) o (entry-opens es i e o at there)

-- they are among those that all of the items open
pub opens-at : (s : Calls) (es : List (Name × ItemKind)) (i : ℕ) (k : ItemKind) → option_map (λ e. e.1) (slice_get es i) ≡ Some k → AreOpen s (opened es) → AreOpen s (opened_by k)
opens-at s es i k at all =
    λ o there.
    let w = entry-at es i k at in
    all o (entry-opens es i w.0 o w.1 (subst (λ (y : ItemKind). Contains (opened_by y) o) (sym w.2) there))

-- ---- worlds with a number

-- their numbers stay as the table grows
pub known-grown : (old new : List Node) (c : Collection) (known : List (Option ℕ)) → IsGrown old new → AreKnown old c known → AreKnown new c known
known-grown old new c known g h = λ w n at m. tree_grown old new _ n g (h w n at m)

-- and where the same is written otherwise
pub known-with : (ns : List Node) (c d : Collection) (s t : Calls) → d ≡ c → t ≡ s → AreKnown ns c s.known.now → AreKnown ns d t.known.now
known-with ns c d s t types calls h =
    subst (λ (x : Calls). AreKnown ns d x.known.now) (sym calls) (subst (λ (b : Collection). AreKnown ns b s.known.now) (sym types) h)

-- ---- what is held

entry-held : (c : Collection) (es : List (Name × ItemKind)) (i : ℕ) (e : Name × ItemKind) → AllByRecursion (λ a. holds_type c a ≡ true) (kind_types es) → slice_get es i ≡ Some e → holds_type c (kind_type e.1) ≡ true
entry-held c [] i e held at = cc
entry-held c (x ∷ es) zero e held at = let same : x ≡ e = cc in subst (λ (y : Name × ItemKind). holds_type c (kind_type y.1) ≡ true) same held.0
entry-held c (x ∷ es) (suc i) e held at = entry-held c es i e held.1 at

pub listed-held : (c : Collection) (es : List (Name × ItemKind)) (i : ℕ) (k : ItemKind) → holds_all c (kind_types es) ≡ true → option_map (λ e. e.1) (slice_get es i) ≡ Some k → holds_type c (kind_type k) ≡ true
listed-held c es i k held at =
    let w = entry-at es i k at in
    subst (λ (y : ItemKind). holds_type c (kind_type y) ≡ true) w.2
    (entry-held c es i w.0 (all_from (holds_type c) (λ a. holds_type c a ≡ true) (λ a h. h) (kind_types es) held) w.1)

-- ---- one more scope whose list is known

pub listings-more : (old new : List Node) (c : Collection) (s : Calls) (i next : ℕ) (ls ms : List (Vec Item Global)) (xs : Vec Item Global) → IsGrown old new → next ≡ i + 1 → AreListings old c s next ls
    → ((t : Scope) → slice_get s.scopes.now i ≡ Some t → AreItems new (tree_in c (names_in c (at_scope s i))) (listed_in c t.opener) xs.items) → ms ≡ set ls i xs → AreListings new c s i ms
listings-more old new c s i next ls ms xs g is known now put =
    λ k t ys le at there.
    elim (set-cases ls i xs k ys (ap (λ (l : List (Vec Item Global)). slice_get l k) (sym put) ∙ there)) [
      | inl e ↦ subst (λ (y : Vec Item Global). AreItems new (tree_in c (names_in c (at_scope s k))) (listed_in c t.opener) y.items) (sym e.1)
          (subst (λ (j : ℕ). AreItems new (tree_in c (names_in c (at_scope s j))) (listed_in c t.opener) xs.items) (sym e.0) (now t (ap (slice_get s.scopes.now) (sym e.0) ∙ at)))
      | inr e ↦ items-grown (tree_in c (names_in c (at_scope s k))) old new g (listed_in c t.opener) ys.items (known k t ys (omega (arith, le, e.0, is)) at e.1)
    ]
