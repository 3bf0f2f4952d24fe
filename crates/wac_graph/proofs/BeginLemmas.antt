-- From a graph of which no type that a node needs has a fault to what the writers of imports and nodes need.
use Rattle.std.proofs.Common.{◌≡◌, ◌↔◌, ℕ, zero, suc, Bool, false, List, [], ◌∷◌, Option, Some, None, IfSome, IsSome, refl, ap, ◌∙◌, sym, subst}
use Rattle.std.specs.Prelude.{Contains, IsSomeAnd, slice_get}
use Rattle.std.specs.Option.{option_and_then}
use Rattle.wac_types_shapes.specs.primitives.Name.{option_case}
use Rattle.wac_types_shapes.specs.primitives.Tree.{Leaf, Place, imported, position}
use Rattle.wac_types_shapes.specs.shapes.Kinds.{kind_type}
use Rattle.wac_types_shapes.specs.declared.shapes.component.ItemKind.{ItemKind}
use Rattle.wac_types_shapes.specs.declared.shapes.component.ItemKind.TheVariants as kind
use Rattle.wac_types_shapes.specs.declared.shapes.component.ResourceId.{ResourceId}
use Rattle.wac_types_shapes.specs.declared.shapes.component.«Type».TheVariants as ty
use Rattle.wac_types_collection.specs.collection.Package.{PackageParts}
use Rattle.wac_types_collection.proofs.lemmas.wide.Members.{in_at}
use Rattle.wac_merge_classes.specs.entries.Binding.{binding_class, root_bindings}
use Rattle.wac_merge_classes.specs.entries.Classes.{Entry, by_names, members, same_class}
use Rattle.wac_merge_classes.specs.terms.Merge.{position_in}
use Rattle.wac_merge_imports.proofs.lemmas.fitting.MergedBindingsClasses.{filter-at}
use Rattle.wac_merge.specs.Aggregate.{Aggregate}
use Rattle.wac_merge.specs.ImportFaults.{ImportFaultLaw}
use Rattle.wac_encode_faults.specs.declared.fault.WriteFault.TheVariants as fault
use Rattle.wac_encode_faults.specs.Faults.{IsDefinitionFault, IsImportFault, inside, unbound}
use Rattle.wac_encode_interfaces.specs.private.Imports.{import_sort}
use Rattle.wac_encode_interfaces.specs.private.Ready.{IsClean}
use Rattle.wac_encode_scopes.specs.declared.state.State.{State}
use Rattle.wac_encode_imports.specs.private.Imports.{AreImported, HasNoImportFault}
use Rattle.wac_encode_imports.specs.private.ToldGraph.{HasNoUnbound}
use Rattle.wac_edges.specs.declared.node.NodeId.{NodeId}
use Rattle.wac_graph_model.specs.declared.nodes.packages.PackageId.{PackageId}
use Rattle.wac_edges.specs.Order.{Writes}
use Rattle.wac_graph_model.specs.meaning.Means.{is_import, is_written, sort_of_kind}
use Rattle.wac_graph_model.specs.nodes.Graph as graph
use Rattle.wac_graph_model.specs.nodes.Graph.{Graph, GraphNode, node_at, package_at}
use Rattle.wac_graph_model.specs.nodes.Asked as asked
use Rattle.wac_graph_model.specs.nodes.Entries.{asked_entries, to_merge}
use Rattle.wac_graph_model.specs.nodes.OuterImports.{outer_bindings, outer_entries}
use Rattle.wac_graph_model.specs.nodes.Sound.{IsSound}
use Rattle.wac_graph_model.specs.causes.TypeFaults.{class_bindings, HasNoTypeFault}
use Rattle.wac_graph_model.specs.private.causes.Faultless.{IsFaultless}
use Rattle.wac_graph_reader.proofs.lemmas.writing.FaultlessLemmas.{faultless}
use Rattle.wac_graph_reader.proofs.lemmas.writing.MeansLemmas.{in_order}
use Rattle.wac_graph_encode.specs.declared.places.places.ImportPlaces.{ImportPlaces}
use Rattle.wac_graph_encode.specs.private.encoding.Root.{IsFaultlessNode}
use Rattle.wac_graph_encode.specs.private.places.Places.{IsMergedFor, ArePlaced}
use Rattle.wac_graph.specs.private.Kept.{KeepsImports}

-- ---- bindings
abbrev leaf_at : (ℕ → ℕ) → ℕ × List Place → Leaf
leaf_at at b = record { out = 0; side = imported; path = position (at b.0) ∷ b.1 }

bound_alike : (f h : ℕ → ℕ) (o : Option (ℕ × List Place)) → IsSome (option_case o None (λ b. Some (leaf_at f b))) ↔ IsSome (option_case o None (λ b. Some (leaf_at h b)))
bound_alike f h None = (λ w. w, λ w. w)
bound_alike f h (Some b) = (λ w. refl, λ w. refl)

-- whatever the positions of classes are, the same resources are bound
class_bound : (g : Graph) (at : ℕ → ℕ) (r : ResourceId) → IsSome (root_bindings by_names g.types (outer_entries g) at r) ↔ IsSome (class_bindings g r)
class_bound g at r = bound_alike at (λ k. k) (binding_class by_names g.types (outer_entries g) r)

faultless_at : (g : Graph) → IsSound g → (d : Bool) → HasNoTypeFault g d → (at : ℕ → ℕ) → IsFaultless g d (root_bindings by_names g.types (outer_entries g) at)
faultless_at g sound d none at = faultless g sound d (root_bindings by_names g.types (outer_entries g) at) (class_bound g at) none

-- ---- entries
outer_there : (es : List asked.Entry) (i : ℕ) (e : Entry) → slice_get (to_merge es) i ≡ Some e → (x : asked.Entry) × (slice_get es i ≡ Some x) × (x.kind ≡ e.kind)
outer_there [] i e at = cc
outer_there (x ∷ es) zero e at = let same : ◌≡◌ {A = Entry} (record { name = x.name; kind = x.kind }) e = cc in (x, refl, ap (λ (y : Entry). y.kind) same)
outer_there (x ∷ es) (suc i) e at = outer_there es i e at

-- no import of the merge has a fault
pub no_import_fault : (g : Graph) → IsSound g → ImportFaultLaw → (a : Aggregate) → KeepsImports g a → (d : Bool) × HasNoTypeFault g d → HasNoImportFault a.merge
no_import_fault g sound law a kept (d, none) p e f at h =
    let es = outer_entries g in
    let root = root_bindings by_names g.types es (λ i. i) in
    let w = law by_names g.types es a.merge kept.faults p e f at h in
    let m = in_at (members by_names es e.name) w.0 w.1 in
    let q = filter-at (λ (x : Entry). same_class by_names es e.name x.name) es m.0 w.0 m.2 in
    let x = outer_there (asked_entries g) q.1 w.0 q.2 in
    (faultless_at g sound d none (λ i. i)).imports q.1 x.0 f x.1 (subst (λ (k : ItemKind). IsImportFault g.types root k f) (sym x.2) w.2)

-- no resource of an entry is unbound
pub no_unbound : (g : Graph) → IsSound g → (d : Bool) → HasNoTypeFault g d → (outer : List ℕ) → HasNoUnbound g.types (outer_entries g) outer
no_unbound g sound d none outer e within h =
    let m = in_at (outer_entries g) e within in
    let x = outer_there (asked_entries g) m.0 e m.2 in
    (faultless_at g sound d none (position_in outer)).imports m.0 x.0 fault.UnboundResource x.1
    (subst (λ (k : ItemKind). IsImportFault g.types (outer_bindings g outer) k fault.UnboundResource) (sym x.2) (unbound h))

-- ---- nodes
pub faultless_node : (g : Graph) → IsSound g → (d : Bool) → HasNoTypeFault g d → (outer : List ℕ) (n : NodeId) → IsFaultlessNode g d (outer_bindings g outer) n
faultless_node g sound d none outer n = record {
  defined = λ node t there is typed f h. all.definitions n node f there is (subst (λ (k : ItemKind). IsDefinitionFault g.types (outer_bindings g outer) (kind_type k) f) (sym typed) h);
  imported = λ node id there is owned given. clean node id there is owned given (package_at g id) refl;
} where
  all : IsFaultless g d (outer_bindings g outer)
  all = faultless_at g sound d none (position_in outer)

  clean : (node : GraphNode) (id : PackageId) → node_at g n ≡ Some node → node.kind ≡ graph.instantiation → node.owner ≡ Some id → d ≡ false → (o : Option PackageParts) → package_at g id ≡ o → IfSome o (λ p. IsClean g.types (ty.World p.world))
  clean node id there is owned given None at = tt
  clean node id there is owned given (Some p) at = λ f h. all.packages given n node p f there is (ap (option_and_then (package_at g)) owned ∙ at) (inside f h)

pub nodes_there : (g : Graph) (order : List NodeId) → Writes g.edges (is_written g) order → (n : NodeId) → Contains order n → IsSome (node_at g n)
nodes_there g order writes n within = let m = in_at order n within in by (node_at g n) (in_order g order writes m.0 n m.2) where
  by : (o : Option GraphNode) → IsSomeAnd o (λ node. is_import node.kind ≡ false) → IsSome o
  by None h = absurd h
  by (Some node) h = refl

-- ---- places
same_sort : (k : ItemKind) → import_sort k ≡ sort_of_kind k
same_sort (kind.TypeItem t) = refl
same_sort (kind.Func f) = refl
same_sort (kind.Instance i) = refl
same_sort (kind.Component w) = refl
same_sort (kind.Module m) = refl
same_sort (kind.Value v) = refl

pub placed_imports : (g : Graph) (p : ImportPlaces) (s : State) → IsMergedFor g p.merge → AreImported (p.merge).merge p.places.items s → ArePlaced g p
placed_imports g p s merged h = record {
  merged = merged;
  counted = h.imports.placed;
  sorts = λ i e place there at. h.imports.sorts i e place there at ∙ same_sort e.kind;
}
