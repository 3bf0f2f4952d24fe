-- A package that is imported: the component type of its world, and the import.
use Rattle.std.proofs.Common.{◌≡◌, ℕ, true, false, List, [], ◌∷◌, ◌++◌, Option, Some, None, IfSome, IsSomeAnd, Contains, refl, ap, sym, ◌∙◌, subst, slice_get}
use Rattle.wac_types_shapes.specs.primitives.Name.{Name, option_case}
use Rattle.wac_types_shapes.specs.primitives.Tree.{Tree, component_item}
use Rattle.wac_types_shapes.specs.declared.shapes.component.ResourceId.{ResourceId}
use Rattle.wac_types_shapes.specs.declared.shapes.component.World.{World}
use Rattle.wac_types_shapes.specs.declared.shapes.component.WorldId.{WorldId}
use Rattle.wac_types_shapes.specs.declared.shapes.component.ItemKind.TheVariants as kind
use Rattle.wac_types_shapes.specs.declared.shapes.component.«Type».{«Type» as AnyType}
use Rattle.wac_types_shapes.specs.declared.shapes.component.«Type».TheVariants as ty
use Rattle.wac_types_collection.specs.collection.Collection.{Collection, IsWellFormed, AddedBefore, size, item_of, item_at, holds_type}
use Rattle.wac_types_collection.specs.collection.Package.{PackageParts}
use Rattle.wac_types_collection.specs.declared.collection.collection.Held.{Held}
use Rattle.wac_types_collection.proofs.lemmas.collection.Growth.{type_before}
use Rattle.wac_types_collection.specs.collection.Bound.{Bindings, held_tree}
use Rattle.wac_types_collection.proofs.lemmas.wide.Members.{in_none}
use Rattle.wac_binary.specs.declared.sorts.Sort.{Sort}
use Rattle.wac_binary.specs.declared.sorts.Sort.TheVariants as sort
use Rattle.wac_binary.specs.declared.sorts.Description.{Description}
use Rattle.wac_binary.specs.Items.{Item, import_item, nested}
use Rattle.wac_binary.specs.Indexes.{space, indexes}
use Rattle.wac_binary.specs.Meaning.{meaning}
use Rattle.wac_encode_scopes.specs.declared.encodable.Encodable.{Encodable}
use Rattle.wac_encode_scopes.specs.declared.encodable.Encodable.TheVariants.{Builder, Instance, Component}
use Rattle.wac_encode_scopes.specs.declared.state.State.{State}
use Rattle.wac_encode_scopes.specs.Contents.{count_of}
use Rattle.wac_encode_scopes.specs.Roots.{IsRoot, items_of, and_import}
use Rattle.wac_encode_faults.specs.Free.{IsFree, itself, in_part, in_export, parts}
use Rattle.wac_encode_interfaces.specs.private.FreeTrees.{TreesByFree}
use Rattle.wac_encode_interfaces.specs.private.Imports.{ImportsBeside, ImportsOf, IsImportReady}
use Rattle.wac_encode_interfaces.specs.private.Ready.{IsClean}
use Rattle.wac_encode_interfaces.specs.private.WorldTrees.{IsTreeOfItsSides}
use Rattle.wac_encode_interfaces.specs.private.Worlds.{Worlds, HaveWorlds, written_in}
use Rattle.wac_edges.specs.declared.node.NodeId.{NodeId}
use Rattle.wac_graph_model.specs.declared.nodes.options.EncodeOptions.{EncodeOptions}
use Rattle.wac_graph_model.specs.declared.nodes.packages.PackageId.{PackageId}
use Rattle.wac_graph_model.specs.nodes.Graph.{Graph, GraphNode, instantiation, node_at, package_at}
use Rattle.wac_graph_model.specs.nodes.Sound.{IsSound}
use Rattle.wac_graph_model.specs.meaning.Means.{dependency_name, package_bytes, package_import}
use Rattle.wac_graph_model.specs.private.meaning.Encoding.{AddsPackage, adds_nested, adds_import, ImportsPackage}
use Rattle.wac_graph_encode.specs.declared.encoding.writer.GraphWriter.{GraphWriter}
use Rattle.wac_graph_encode.specs.private.encoding.Root.{IsNodeReady, IsOpenRoot, IsPackageReady}
use Rattle.wac_graph_encode.proofs.lemmas.encoding.RootLemmas.{types-added, root-more, open-means}

-- ---- what a component import needs

not-scope : (w : WorldId) (r : ResourceId) (a : AnyType) → a ≡ ty.World w → (c : Collection) → IsFree c a r → ⊥
not-scope w r a is c (itself q) = cc
not-scope w r a is c (in_part t u q there free) = in_none u (subst (λ (x : AnyType). Contains (parts c x) u) is there)
not-scope w r a is c (in_export i it n k q at there own free) = cc

pub world-import-ready : TreesByFree → (g : Graph) (m : Bindings) (ws : Worlds) (s : State) (w : WorldId) → IsOpenRoot g m s → holds_type g.types (ty.World w) ≡ true → IsClean g.types (ty.World w) → HaveWorlds g.types ws (ty.World w)
    → IsImportReady g.types false ws s (kind.Component w)
world-import-ready law g m ws s w open_root held clean worlds = record {
  held = held;
  ready = (m ∷ [], open_root.good, (held_tree g.types m (ty.World w), law.held g.types m (ty.World w) (λ r free. absurd (not-scope w r (ty.World w) refl g.types free))));
  writable = refl;
  clean = clean;
  worlds = worlds;
}

-- ---- the tree of the import

world-alike : IsTreeOfItsSides → (c : Collection) → IsWellFormed c → (w : WorldId) (x : World) → item_at c.worlds w.0 ≡ Some x → (m n : Bindings) → held_tree c m (ty.World w) ≡ held_tree c n (ty.World w)
world-alike law c wf w x at m n = law c wf w x at m ∙ sym (law c wf w x at n)

-- ---- the import of a package

import-added : (x y : Encodable) (n : Name) (d : Description) → IsRoot x → y ≡ and_import n d x → items_of y ≡ items_of x ++ import_item n d ∷ []
import-added x y n d is at = ap items_of at

count-is : (k : ℕ) (x : Encodable) → IsRoot x → count_of k x ≡ indexes k (items_of x)
count-is k (Builder items) is = refl
count-is k (Instance ds) is = absurd is
count-is k (Component ds) is = absurd is

pub imports-open : (g : Graph) (n : Name) (w : WorldId) (old new : State) (i : ℕ) → IsRoot new.here.content → ImportsOf g.types false n (kind.Component w) old new i → (m : Bindings) → IsOpenRoot g m old → IsOpenRoot g m new
imports-open g n w old new i is_root imports m open_root = record { root = is_root; good = (imports m open_root.good refl).onward.0 }

pub beside-root : (n : Name) (w : WorldId) (i : ℕ) (old new : State) → ImportsBeside false n (kind.Component w) i old new → IsRoot new.here.content
beside-root n w i old new h = subst IsRoot (sym h.content) tt

-- The import is that of the package, if it has the package's name and world.
pub imports-package : IsTreeOfItsSides → (g : Graph) → IsWellFormed g.types → (id : PackageId) (n : Name) (w : WorldId) (x : World) (old new : State) (c : ℕ) → item_at (g.types).worlds w.0 ≡ Some x
    → package_import g id ≡ (n, component_item (held_tree g.types (λ _. None) (ty.World w))) ∷ [] → (m : Bindings) → IsOpenRoot g m old
    → ImportsOf g.types false n (kind.Component w) old new c → ImportsBeside false n (kind.Component w) c old new → ImportsPackage g id c (items_of old.here.content) (items_of new.here.content)
imports-package law g wf id n w x old new c at is m open_root imports beside =
    let more = types-added old.here.content beside.between open_root.root beside.types in
    let between = root-more old.here.content beside.between open_root.root beside.types in
    let made = imports m open_root.good refl in
    record {
      types = more.types;
      alone = more.alone;
      name = n;
      description = beside.description;
      added = import-added beside.between new.here.content n beside.description between beside.content ∙ ap (λ (xs : List Item). xs ++ import_item n beside.description ∷ []) more.added;
      sorted = beside.sorted;
      counted = beside.index ∙ ap (λ (t : Sort). count_of (space t) beside.between) beside.sorted ∙ count-is (space sort.Component) beside.between between ∙ ap (indexes (space sort.Component)) more.added;
      meant = λ means. (
        open-means g m new (imports-open g n w old new c (beside-root n w c old new beside) imports m open_root),
        made.imports ∙ ap (λ (t : Tree). (meaning (items_of old.here.content)).imports ++ (n, component_item t) ∷ []) (world-alike law g.types wf w x at m (λ _. None))
            ∙ ap (λ (es : List (Name × Tree)). (meaning (items_of old.here.content)).imports ++ es) (sym is),
      );
    }

-- ---- a package of the graph

world-there : (c : Collection) → IsWellFormed c → (w : WorldId) → holds_type c (ty.World w) ≡ true → (x : World) × (item_at c.worlds w.0 ≡ Some x)
world-there c wf w held = by (slice_get c.worlds w.0) refl (type_before c wf (ty.World w) held) where
  by : (o : Option (Held World)) → slice_get c.worlds w.0 ≡ o → AddedBefore (size c) o → (x : World) × (item_at c.worlds w.0 ≡ Some x)
  by None is b = absurd b
  by (Some h) is b = (h.item, ap item_of is)

import-of : (g : Graph) (id : PackageId) (p : PackageParts) → package_at g id ≡ Some p → package_import g id ≡ (dependency_name (p.name, p.version), component_item (held_tree g.types (λ _. None) (ty.World p.world))) ∷ []
import-of g id p at = ap (λ (o : Option PackageParts). option_case o [] (λ q. (dependency_name (q.name, q.version), component_item (held_tree g.types (λ _. None) (ty.World q.world))) ∷ [])) at

bytes-of : (g : Graph) (id : PackageId) (p : PackageParts) → package_at g id ≡ Some p → package_bytes g id ≡ p.bytes
bytes-of g id p at = ap (λ (o : Option PackageParts). option_case o [] (λ q. q.bytes)) at

-- The component of a package is nested.
pub nests-package : (g : Graph) (o : EncodeOptions) (id : PackageId) (p : PackageParts) (bytes : List ℕ) (c : ℕ) (items items' : List Item) → o.define_components ≡ true → package_at g id ≡ Some p → bytes ≡ p.bytes
    → c ≡ indexes (space sort.Component) items → items' ≡ items ++ nested bytes ∷ [] → AddsPackage g o id c items items'
nests-package g o id p bytes c items items' define at are counted added = adds_nested define counted (added ∙ ap (λ (xs : List ℕ). items ++ nested xs ∷ []) (are ∙ sym (bytes-of g id p at)))

-- It is imported.
pub imports-component : IsTreeOfItsSides → (g : Graph) → IsWellFormed g.types → (o : EncodeOptions) (id : PackageId) (p : PackageParts) (n : Name) (old new : State) (c : ℕ) (m : Bindings) → o.define_components ≡ false → package_at g id ≡ Some p
    → holds_type g.types (ty.World p.world) ≡ true → n ≡ dependency_name (p.name, p.version) → IsOpenRoot g m old
    → ImportsOf g.types false n (kind.Component p.world) old new c → ImportsBeside false n (kind.Component p.world) c old new → AddsPackage g o id c (items_of old.here.content) (items_of new.here.content)
imports-component law g wf o id p n old new c m not_defined at held named open_root imports beside =
    let (x, there) = world-there g.types wf p.world held in
    adds_import not_defined (imports-package law g wf id n p.world x old new c there
    (import-of g id p at ∙ ap (λ (k : Name). (k, component_item (held_tree g.types (λ _. None) (ty.World p.world))) ∷ []) (sym named)) m open_root imports beside)

-- A package of an instantiation can be imported, unless packages are defined.
pub package-ready : (w : GraphWriter) (n : NodeId) (id : PackageId) (p : PackageParts) (s : State) → IsSound w.reader.now → IsSomeAnd (node_at w.reader.now n) (λ node. node.kind ≡ instantiation)
    → IfSome (node_at w.reader.now n) (λ node. node.owner ≡ Some id) → package_at w.reader.now id ≡ Some p
    → IsNodeReady w.reader.now w.define_components (written_in ((w.types.now).worlds.now)) n s → IsPackageReady w p s
package-ready w n id p s sound kind owner at ready = by (node_at w.reader.now n) refl kind owner where
  by : (o : Option GraphNode) → node_at w.reader.now n ≡ o → IsSomeAnd o (λ node. node.kind ≡ instantiation) → IfSome o (λ node. node.owner ≡ Some id) → IsPackageReady w p s
  by None is h i = absurd h
  by (Some node) is h i = record {
    bindings = ready.bindings;
    open_root = ready.open_root;
    meant = ready.meant;
    held = (sound.packages id p at).0;
    clean = λ not_defined. subst (λ (o : Option PackageParts). IfSome o (λ q. IsClean (w.reader.now).types (ty.World q.world))) at ((ready.faultless).imported node id is h i not_defined);
    worlds = λ not_defined. subst (λ (o : Option PackageParts). IfSome o (λ q. HaveWorlds (w.reader.now).types (written_in ((w.types.now).worlds.now)) (ty.World q.world))) at ((ready.worlds).imported node id is h i not_defined);
  }
