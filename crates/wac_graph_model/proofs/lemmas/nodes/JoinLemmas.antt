-- What edges join they join in a graph with more types, and at nodes of the same kinds and items.
use Rattle.std.proofs.Common.{◌≡◌, ℕ, true, [], refl, ap, ◌∙◌, sym, subst, Option, Some, None}
use Rattle.std.specs.Prelude.{slice_get, IsSomeAnd}
use Rattle.std.specs.Option.{option_and_then}
use Rattle.wac_types_shapes.specs.primitives.Name.{Name}
use Rattle.wac_types_collection.specs.collection.Collection.{Collection, holds_type, interface_exports, world_exports, world_imports, item_at, IsWellFormed}
use Rattle.wac_types_shapes.specs.shapes.Kinds.{kind_type}
use Rattle.wac_types_collection.specs.collection.Package.{PackageParts}
use Rattle.wac_types_collection.specs.subtyping.Subtype.{IsSubtype, type_tree, kind_tree, Sub}
use Rattle.wac_types_shapes.specs.declared.shapes.component.ItemKind.{ItemKind}
use Rattle.wac_types_shapes.specs.declared.shapes.component.ItemKind.TheVariants as item
use Rattle.wac_types_shapes.specs.declared.shapes.component.«Type».{«Type» as AnyType}
use Rattle.wac_types_shapes.specs.declared.shapes.component.«Type».TheVariants as ty
use Rattle.wac_types_shapes.specs.declared.shapes.component.InterfaceId.{InterfaceId}
use Rattle.wac_types_shapes.specs.declared.shapes.component.WorldId.{WorldId}
use Rattle.wac_types_shapes.specs.declared.shapes.component.World.{World}
use Rattle.wac_edges.specs.declared.edges.Label.{Label}
use Rattle.wac_edges.specs.declared.edges.Label.TheVariants as label
use Rattle.wac_graph_model.specs.declared.nodes.packages.PackageId.{PackageId}
use Rattle.wac_graph_model.specs.nodes.Graph as graph
use Rattle.wac_graph_model.specs.nodes.Graph.{Graph, GraphNode, package_at, package_of, exports_of, imports_of}
use Rattle.wac_graph_model.specs.nodes.Sound.{IsSound, IsInstance, Joins}
use Rattle.wac_graph_model.proofs.lemmas.nodes.HeldLemmas.{imports_held}

-- the new collection has all that the old one has
pub record Extends (c d : Collection) : Type 0 where
  pub held : (t : AnyType) → holds_type c t ≡ true → holds_type d t ≡ true
  pub interfaces : (i : InterfaceId) → holds_type c (ty.Interface i) ≡ true → interface_exports d i ≡ interface_exports c i
  pub exports : (w : WorldId) → holds_type c (ty.World w) ≡ true → world_exports d w ≡ world_exports c w
  pub imports : (w : WorldId) → holds_type c (ty.World w) ≡ true → world_imports d w ≡ world_imports c w
  pub trees : (t : AnyType) → holds_type c t ≡ true → type_tree d t ≡ type_tree c t

-- the nodes are the same but for names
pub record AreAlike (a b : GraphNode) : Type 0 where
  pub kind : a.kind ≡ b.kind
  pub item : a.item_kind ≡ b.item_kind
  pub owner : a.owner ≡ b.owner

pub alike_itself : (a : GraphNode) → AreAlike a a
alike_itself a = record { kind = refl; item = refl; owner = refl }

pub alike_exports : (g : Graph) (a b : GraphNode) → AreAlike a b → exports_of g a ≡ exports_of g b
alike_exports g a b same = ap (λ k. exports_of g (record b { item_kind = k })) same.item

pub alike_imports : (g : Graph) (a b : GraphNode) → AreAlike a b → imports_of g a ≡ imports_of g b
alike_imports g a b same = ap (λ o. imports_of g (record b { owner = o })) same.owner

-- an instance imports what the world of its package imports
pub imports_of_package : (g : Graph) (n : GraphNode) (p : PackageParts) → package_of g n ≡ Some p → imports_of g n ≡ world_imports g.types p.world
imports_of_package g n p h = rw h refl

pub imports_of_instance : (g : Graph) (n : GraphNode) (i : IsInstance g n) → imports_of g n ≡ world_imports g.types (i.parts).world
imports_of_instance g n i = imports_of_package g n i.parts (ap (option_and_then (package_at g)) i.owned ∙ i.registered)

-- what edges join they join where the nodes list and are as much
pub joins_kept : (g h : Graph) (l : Label) (s t u v : GraphNode) → AreAlike u s → AreAlike v t → exports_of h u ≡ exports_of g s → (t.kind ≡ graph.instantiation → imports_of h v ≡ imports_of g t)
    → ((i : ℕ) (e : Name × ItemKind) → slice_get (imports_of g t) i ≡ Some e → IsSubtype g.types s.item_kind g.types e.1 → IsSubtype h.types u.item_kind h.types e.1) → Joins g l s t → Joins h l u v
joins_kept g h (label.Alias i) s t u v from to exports imports fits (kind, exported) =
    (to.kind ∙ kind, subst (λ es. IsSomeAnd (slice_get es i) (λ e. v.item_kind ≡ e.1)) (sym exports) (subst (λ k. IsSomeAnd (slice_get (exports_of g s) i) (λ e. k ≡ e.1)) (sym to.item) exported))
joins_kept g h (label.Argument i) s t u v from to exports imports fits (kind, imported) =
    (to.kind ∙ kind, subst (λ es. IsSomeAnd (slice_get es i) (λ e. IsSubtype h.types u.item_kind h.types e.1)) (sym (imports kind)) (still (slice_get (imports_of g t) i) (fits i) imported)) where
      still : (o : Option (Name × ItemKind)) → ((e : Name × ItemKind) → o ≡ Some e → IsSubtype g.types s.item_kind g.types e.1 → IsSubtype h.types u.item_kind h.types e.1)
          → IsSomeAnd o (λ e. IsSubtype g.types s.item_kind g.types e.1) → IsSomeAnd o (λ e. IsSubtype h.types u.item_kind h.types e.1)
      still None _ none = none
      still (Some e) more fits = more e refl fits
joins_kept g h label.Dependency s t u v from to exports imports fits (source, target) = (from.kind ∙ source, to.kind ∙ target)

-- nodes of other names
pub joins_alike : (g : Graph) (l : Label) (s t u v : GraphNode) → AreAlike u s → AreAlike v t → Joins g l s t → Joins g l u v
joins_alike g l s t u v from to h = joins_kept g g l s t u v from to (alike_exports g u s from) (λ _. alike_imports g v t to) (λ i e _ fits. subst (λ k. IsSubtype g.types k g.types e.1) (sym from.item) fits) h

-- the item of a held type has the same tree
tree_kept : (c d : Collection) → Extends c d → (k : ItemKind) → holds_type c (kind_type k) ≡ true → kind_tree d k ≡ kind_tree c k
tree_kept c d more (item.TypeItem t) held = rw (more.trees t held) refl
tree_kept c d more (item.Func f) held = rw (more.trees (ty.Func f) held) refl
tree_kept c d more (item.Instance i) held = rw (more.trees (ty.Interface i) held) refl
tree_kept c d more (item.Component w) held = rw (more.trees (ty.World w) held) refl
tree_kept c d more (item.Module m) held = rw (more.trees (ty.Module m) held) refl
tree_kept c d more (item.Value v) held = rw (more.trees (ty.Value v) held) refl

pub subtype_kept : (c d : Collection) → Extends c d → (a b : ItemKind) → holds_type c (kind_type a) ≡ true → holds_type c (kind_type b) ≡ true → IsSubtype c a c b → IsSubtype d a d b
subtype_kept c d more a b held_a held_b fits = subst (λ t. Sub t (kind_tree d b)) (sym (tree_kept c d more a held_a)) (subst (Sub (kind_tree c a)) (sym (tree_kept c d more b held_b)) fits)

pub exports_same : (c : Collection) (g : Graph) (node : GraphNode) → Extends g.types c → holds_type g.types (kind_type node.item_kind) ≡ true → exports_of (record g { types = c }) node ≡ exports_of g node
exports_same c g node more held = by_kind node.item_kind refl where
  by_kind : (k : ItemKind) → node.item_kind ≡ k → exports_of (record g { types = c }) node ≡ exports_of g node
  by_kind (item.TypeItem t) is = rw is refl
  by_kind (item.Func f) is = rw is refl
  by_kind (item.Component w) is = rw is refl
  by_kind (item.Module m) is = rw is refl
  by_kind (item.Value v) is = rw is refl
  by_kind (item.Instance i) is = rw is (more.interfaces i (sym (ap (λ k. holds_type g.types (kind_type k)) is) ∙ held))

module _ (g : Graph) (s : IsSound g) where
  -- the package of a node is held
  package_held : (o : Option PackageId) (p : PackageParts) → option_and_then (package_at g) o ≡ Some p → holds_type g.types (ty.World p.world) ≡ true
  package_held None p at = cc
  package_held (Some id) p at = (s.packages id p at).0

  pub imports_same : (c : Collection) (node : GraphNode) → Extends g.types c → imports_of (record g { types = c }) node ≡ imports_of g node
  imports_same c node more = by_package (package_of g node) refl where
    by_package : (o : Option PackageParts) → package_of g node ≡ o → imports_of (record g { types = c }) node ≡ imports_of g node
    by_package None is = rw is refl
    by_package (Some p) is = rw is (more.imports p.world (package_held node.owner p is))

  -- what a node's package imports is held
  pub import_kind_held : IsWellFormed g.types → (node : GraphNode) (i : ℕ) (e : Name × ItemKind) → slice_get (imports_of g node) i ≡ Some e → holds_type g.types (kind_type e.1) ≡ true
  import_kind_held well node i e at = by_package (package_of g node) refl where
    in_world : (o : Option World) (w : WorldId) → item_at g.types.worlds w.0 ≡ o → slice_get (world_imports g.types w) i ≡ Some e → holds_type g.types (kind_type e.1) ≡ true
    in_world None w is there = let none : slice_get [] i ≡ Some e = rw is at there in nothing i none where
      nothing : (k : ℕ) → slice_get [] k ≡ Some e → holds_type g.types (kind_type e.1) ≡ true
      nothing k h = cc
    in_world (Some x) w is there = imports_held g.types well w.0 x is i e (rw is at there)

    by_package : (o : Option PackageParts) → package_of g node ≡ o → holds_type g.types (kind_type e.1) ≡ true
    by_package None is = let none : slice_get [] i ≡ Some e = rw is at at in nothing none where
      nothing : slice_get [] i ≡ Some e → holds_type g.types (kind_type e.1) ≡ true
      nothing h = cc
    by_package (Some p) is = in_world (item_at g.types.worlds (p.world).0) p.world refl (rw is at at)

  -- types more
  pub joins_types : (c : Collection) → IsWellFormed g.types → Extends g.types c → (l : Label) (a b : GraphNode) → holds_type g.types (kind_type a.item_kind) ≡ true → Joins g l a b → Joins (record g { types = c }) l a b
  joins_types c well more l a b held h =
      joins_kept g (record g { types = c }) l a b a b (alike_itself a) (alike_itself b) (exports_same c g a more held) (λ _. imports_same c b more)
      (λ i e at fits. subtype_kept g.types c more a.item_kind e.1 held (import_kind_held well b i e at) fits) h
