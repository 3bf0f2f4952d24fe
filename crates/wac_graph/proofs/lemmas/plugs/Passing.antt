-- The exports of the socket are passed on: no alias is refused but for want of memory.
use Rattle.std.proofs.Common.{◌≡◌, ℕ, suc, List, [], ◌∷◌, ◌++◌, slice_get, refl, ap, ◌∙◌, sym, subst, Option, Some, None, Result, Ok, Err, IfSome, IsSome, is_some, inl, inr}
use Rattle.std.specs.Prelude.{IsSomeAnd}
use Rattle.std.specs.List.{AllByRecursion}
use Rattle.std.specs.FinMap as map
use Rattle.wac_types_shapes.specs.primitives.Name.{Name}
use Rattle.wac_types_shapes.specs.shapes.Named.{named_at, names_of}
use Rattle.wac_types_shapes.proofs.lemmas.shapes.Names.{found_at}
use Rattle.wac_types_shapes.proofs.lemmas.shapes.Under.{nothing_under}
use Rattle.wac_types_shapes.specs.declared.shapes.component.InterfaceId.{InterfaceId}
use Rattle.wac_types_shapes.specs.declared.shapes.component.ItemKind.{ItemKind}
use Rattle.wac_types_shapes.specs.declared.shapes.component.ItemKind.TheVariants.{Instance}
use Rattle.wac_types_collection.specs.collection.Collection.{Collection, interface_exports}
use Rattle.wac_graph_model.specs.declared.nodes.errors.AliasError.{AliasError}
use Rattle.wac_graph_model.specs.declared.nodes.errors.AliasError.TheVariants as alias_error
use Rattle.wac_graph_model.specs.declared.nodes.errors.ExportError.{ExportError}
use Rattle.wac_graph_model.specs.declared.nodes.errors.ExportError.TheVariants as export_error
use Rattle.wac_edges.specs.declared.node.NodeId.{NodeId}
use Rattle.wac_graph_model.specs.nodes.Graph.{Graph, GraphNode, node_at, interface_of, exports_of}
use Rattle.wac_graph_model.specs.nodes.Steps.{Aliases, AliasesOf, GivesAlias, alias_node, export_named, Exports}
use Rattle.wac_graph.specs.declared.plugs.errors.PlugError.{PlugError}
use Rattle.wac_graph.specs.declared.plugs.errors.PlugError.TheVariants.{GraphError}
use Rattle.wac_graph.specs.declared.plugs.errors.PlugFault.TheVariants.{Alias}
use Rattle.wac_graph.specs.plugs.Refusals.{of_alias, of_export}
use Rattle.wac_graph.specs.plugs.Plugging.{Answer, answered, InOrder, PassesOn}
use Rattle.wac_graph.proofs.lemmas.plugs.Wired.{by-eq, insert-other, insert-same, none-some, vacant-keeps}
use Rattle.wac_graph.proofs.lemmas.plugs.Steps.{some-of, alias-keeps, export-keeps}

some-is : {A : Type 0} (a b : A) → Some a ≡ Some b → a ≡ b
some-is a b h = cc

-- the node is an instance of this interface
pub record IsInstanceAt (g : Graph) (s : NodeId) (i : InterfaceId) : Type 0 where
  pub node : GraphNode
  pub there : node_at g s ≡ Some node
  pub kind : node.item_kind ≡ Instance i

-- another node under a vacant number, or the same node by another name, leaves the instance
instance-vacant : (old new : Graph) (s n : NodeId) (i : InterfaceId) (node : GraphNode) → node_at old n ≡ None → new.nodes ≡ map.insert old.nodes n.0 node → IsInstanceAt old s i → IsInstanceAt new s i
instance-vacant old new s n i node vacant is w = record {
  node = w.node;
  there = ap (λ ns. map.get ns s.0) is ∙ vacant-keeps old.nodes n.0 s.0 node w.node vacant w.there;
  kind = w.kind;
}

instance-other : (old new : Graph) (s n : NodeId) (i : InterfaceId) (node other : GraphNode) → node_at old n ≡ Some node → other.item_kind ≡ node.item_kind → new.nodes ≡ map.insert old.nodes n.0 other → IsInstanceAt old s i → IsInstanceAt new s i
instance-other old new s n i node other there kind is w = by-eq s.0 n.0
    (λ same.
    let node_is : node ≡ w.node = some-is node w.node (sym there ∙ ap (map.get old.nodes) (sym same) ∙ w.there) in
    record {
      node = other;
      there = ap (λ ns. map.get ns s.0) is ∙ ap (map.get (map.insert old.nodes n.0 other)) same ∙ insert-same old.nodes n.0 other;
      kind = kind ∙ ap (λ (k : GraphNode). k.item_kind) node_is ∙ w.kind;
    })
    (λ differ. record {
      node = w.node;
      there = ap (λ ns. map.get ns s.0) is ∙ insert-other old.nodes n.0 s.0 other differ ∙ w.there;
      kind = w.kind;
    })

module _ (s : NodeId) (i : InterfaceId) (g : Graph) (name : Name) (w : IsInstanceAt g s i) where
  exports-are : exports_of g w.node ≡ interface_exports g.types i
  exports-are = rw w.kind refl

  -- an export of the instance is aliased, unless there is no memory
  alias-refused : (e : AliasError) (new : Graph) → (named_at 0 name (interface_exports g.types i) ≡ None → ⊥) → Aliases g s name (Err e) new → e ≡ alias_error.OutOfMemory
  alias-refused e new there h = by e (subst (λ o. IfSome o (λ k. AliasesOf g s k name (Err e) new)) w.there h) where
    by : (e : AliasError) → AliasesOf g s w.node name (Err e) new → e ≡ alias_error.OutOfMemory
    by (alias_error.NodeIsNotAnInstance node kind) h =
        let wrong : interface_of (Instance i) ≡ None = ap interface_of (sym w.kind) ∙ h.3 in
        absurd (none-some (interface_of (Instance i)) i wrong refl)
    by (alias_error.InstanceMissingExport node text) h = absurd (there (ap (named_at 0 name) (sym exports-are) ∙ h.4))
    by alias_error.OutOfMemory h = refl

  aliased : (a : NodeId) (new : Graph) → Aliases g s name (Ok a) new → IsInstanceAt new s i
  aliased a new h = at (export_named g w.node name) step.1 where
    step : AliasesOf g s w.node name (Ok a) new
    step = subst (λ o. IfSome o (λ k. AliasesOf g s k name (Ok a) new)) w.there h

    by : (e : ℕ × ItemKind) → GivesAlias g s w.node e.0 e.1 a new → IsInstanceAt new s i
    by e (inl same) = subst (λ (k : Graph). IsInstanceAt k s i) (sym same.1) w
    by e (inr made) = instance-vacant g new s a i (alias_node w.node e.1) made.2 (ap (λ (k : Graph). k.nodes) made.3) w

    at : (o : Option (ℕ × ItemKind)) → IsSomeAnd o (λ e. GivesAlias g s w.node e.0 e.1 a new) → IsInstanceAt new s i
    at None h = absurd h
    at (Some e) h = by e h

exported : (s : NodeId) (i : InterfaceId) (g new : Graph) (a : NodeId) (name : Name) → IsSome (node_at g a) → IsInstanceAt g s i → Exports g a name (Ok tt) new → IsInstanceAt new s i
exported s i g new a name there w h =
    let n = some-of (node_at g a) there in
    let is : new ≡ record g { nodes = map.insert g.nodes a.0 (record (n.0) { export_name = Some name }); exports = g.exports ++ (name, a) ∷ [] } =
    subst (λ o. IfSome o (λ n. new ≡ record g { nodes = map.insert g.nodes a.0 (record n { export_name = Some name }); exports = g.exports ++ (name, a) ∷ [] })) n.1 h.2 in
    instance-other g new s a i n.0 (record (n.0) { export_name = Some name }) n.1 refl (ap (λ (k : Graph). k.nodes) is) w

abbrev pub answer-of : PlugError → Answer
answer-of e = Err e

pub one-error : (e f : PlugError) → answer-of e ≡ answer-of f → e ≡ f
one-error e f h = cc

pub not-ok : (e : PlugError) → answer-of e ≡ Ok tt → ⊥
not-ok e h = cc

memory-is-no-alias : (f : AliasError) → GraphError (Alias f) ≡ of_alias alias_error.OutOfMemory → ⊥
memory-is-no-alias f h = cc

export-is-no-alias : (e : ExportError) (f : AliasError) → GraphError (Alias f) ≡ of_export e → ⊥
export-is-no-alias (export_error.ExportAlreadyExists text node) f h = cc
export-is-no-alias (export_error.InvalidExportName text source) f h = cc
export-is-no-alias export_error.OutOfMemory f h = cc

-- an export is passed on
pub passes-keep : (s : NodeId) (i : InterfaceId) (g new : Graph) (name : Name) → IsInstanceAt g s i → PassesOn s g name (Ok tt) new → IsInstanceAt new s i × (new.types ≡ g.types)
passes-keep s i g new name w (inl h) = absurd (not-ok (of_alias h.0) (sym h.2))
passes-keep s i g new name w (inr h) = by h.3.0 h.3.1 h.3.2 where
  there : IsSome (node_at g s)
  there = ap is_some w.there

  by : (r : Result (Unit {0}) ExportError) → Exports h.1 h.0 name r new → Ok tt ≡ answered of_export r → IsInstanceAt new s i × (new.types ≡ g.types)
  by (Ok tt) step is = (
    exported s i h.1 new h.0 name h.3.3 (aliased s i g name w h.0 h.1 h.2) step,
    (export-keeps h.1 new h.0 name h.3.3 step).types ∙ (alias-keeps g h.1 s name h.0 there h.2).types,
  )
  by (Err e) step is = absurd (not-ok (of_export e) (sym is))

-- these names are exports of the interface
abbrev AreExports : Collection → InterfaceId → List Name → Type 0
AreExports c i names = AllByRecursion (λ name. named_at 0 name (interface_exports c i) ≡ None → ⊥) names

pub never-alias : (s : NodeId) (i : InterfaceId) (f : AliasError) (names : List Name) (g new : Graph) → IsInstanceAt g s i → AreExports g.types i names → InOrder (PassesOn s) g names (answer-of (GraphError (Alias f))) new → ⊥
never-alias s i f [] g new w are h = not-ok (GraphError (Alias f)) h.0
never-alias s i f (name ∷ names) g new w are (inl h) = by h.1 where
  by : PassesOn s g name (answer-of (GraphError (Alias f))) new → ⊥
  by (inl a) =
      let memory = alias-refused s i g name w a.0 new are.0 a.1 in
      memory-is-no-alias f (one-error (GraphError (Alias f)) (of_alias a.0) a.2 ∙ ap of_alias memory)
  by (inr a) = ended a.3.0 a.3.2 where
    ended : (r : Result (Unit {0}) ExportError) → answer-of (GraphError (Alias f)) ≡ answered of_export r → ⊥
    ended (Ok u) is = not-ok (GraphError (Alias f)) is
    ended (Err e) is = export-is-no-alias e f (one-error (GraphError (Alias f)) (of_export e) is)
never-alias s i f (name ∷ names) g new w are (inr h) =
    let kept = passes-keep s i g h.0 name w h.1 in
    never-alias s i f names h.0 new kept.0 (subst (λ c. AreExports c i names) (sym kept.1) are.1) h.2

-- the names of a list are found in it
names-found : (es xs : List (Name × ItemKind)) → ((k : ℕ) (e : Name × ItemKind) → slice_get xs k ≡ Some e → (j : ℕ) × (slice_get es j ≡ Some e)) → AllByRecursion (λ name. named_at 0 name es ≡ None → ⊥) (names_of xs)
names-found es [] at = tt
names-found es (x ∷ xs) at =
    let place = at 0 x refl in
    ((λ none. found_at es place.0 x.0 x.1 place.1 (nothing_under es 0 x.0 none)), names-found es xs (λ k e h. at (suc k) e h))

pub are-exports : (es : List (Name × ItemKind)) → AllByRecursion (λ name. named_at 0 name es ≡ None → ⊥) (names_of es)
are-exports es = names-found es es (λ k e h. (k, h))
