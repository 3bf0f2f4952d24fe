-- The export of a definition keeps the root open, and names its value type.
use Rattle.std.proofs.Common.{◌≡◌, ℕ, suc, ◌<◌, Bool, false, List, [], ◌∷◌, ◌++◌, length, refl, ap, sym, ◌∙◌, subst, arith, Option, Some, None, IfSome, IsSomeAnd}
use Rattle.wac_types_shapes.specs.primitives.Name.{Name}
use Rattle.wac_types_shapes.specs.primitives.Tree.{Tree}
use Rattle.wac_types_shapes.specs.declared.shapes.component.ItemKind.TheVariants as kind
use Rattle.wac_types_shapes.specs.declared.shapes.component.ResourceId.{ResourceId}
use Rattle.wac_types_shapes.specs.declared.shapes.component.ValueType.{ValueType}
use Rattle.wac_types_shapes.specs.declared.shapes.component.«Type».{«Type» as AnyType}
use Rattle.wac_types_shapes.specs.declared.shapes.component.«Type».TheVariants as ty
use Rattle.wac_types_collection.specs.collection.Aliases.{value_resolved}
use Rattle.wac_types_collection.specs.collection.Bound.{Bindings, held_tree}
use Rattle.wac_types_collection.specs.collection.Collection.{Collection, IsWellFormed}
use Rattle.wac_binary.specs.declared.sorts.Sort.TheVariants as sort
use Rattle.wac_binary.specs.HasMeaning.{HasMeaning, IsValue}
use Rattle.wac_binary.specs.Indexes.{space, indexes}
use Rattle.wac_binary.specs.Items.{Item, export_item}
use Rattle.wac_binary.specs.Meaning.{meaning}
use Rattle.wac_binary.specs.Unfold.{Scope}
use Rattle.wac_edges.specs.declared.node.NodeId.{NodeId}
use Rattle.wac_encode_faults.specs.Trees.{definition_tree}
use Rattle.wac_encode_stacks.specs.private.Brought.{GoodOnce}
use Rattle.wac_encode_stacks.specs.Good.{At, IsHeld, innermost, top}
use Rattle.wac_encode_stacks.specs.private.Laws.{StaysOnward}
use Rattle.wac_encode_stacks.proofs.Aliases.{end-held}
use Rattle.wac_encode_stacks.proofs.Grow.{at-type_at}
use Rattle.wac_encode_scopes.specs.declared.state.State.{State}
use Rattle.wac_encode_scopes.specs.Lending.{with_items}
use Rattle.wac_encode_scopes.specs.Roots.{items_of}
use Rattle.wac_encode_scopes.specs.States.{stack, Goes, IsTypeAt}
use Rattle.wac_encode_scopes.proofs.Stepped.{goes-none}
use Rattle.wac_encode_interfaces.specs.private.Definitions.{IsDefinitionAt, IsFaultlessDefinition}
use Rattle.wac_graph_model.specs.nodes.Definitions.{IsResource}
use Rattle.wac_graph_model.specs.nodes.Graph as graph
use Rattle.wac_graph_model.specs.nodes.Graph.{Graph, GraphNode, node_at}
use Rattle.wac_graph_model.specs.nodes.Sound.{IsSound}
use Rattle.wac_graph_encode.specs.private.encoding.Laws.{ExportLaws, GrowthLaws}
use Rattle.wac_graph_encode.specs.private.encoding.Root.{IsFaultlessNode, IsOpenRoot, KeepsRoot, RecordsName}
use Rattle.wac_graph_encode.proofs.lemmas.encoding.RootLemmas.{appended-open, goes-open, open-scope}

-- ---- what is recorded

pub records-none : StaysOnward → (g : Graph) (a : AnyType) (k : ℕ) (s : State) → RecordsName g a k s s
records-none still g a k s = record { content = refl; goes = λ h. goes-none still false s g.types }

pub records-name : (g : Graph) → IsWellFormed g.types → (v : ValueType) (k : ℕ) (old new : State) → new.here.content ≡ old.here.content
    → (IsTypeAt g.types false old (ty.Value (value_resolved g.types v)) k → Goes g.types false old new) → RecordsName g (ty.Value v) k old new
records-name g wf v k old new same goes = record {
  content = same;
  goes = λ h. goes (λ ms good. let at = h v refl ms good in (at.0, end-held g.types wf (top ms) v at.0 at.1, at.2, at.3));
}

-- ---- the exported index

one-more : (items : List Item) (n : Name) (k : ℕ) → indexes (space sort.«Type») (items ++ export_item n sort.«Type» k ∷ []) ≡ suc (indexes (space sort.«Type») items)
one-more [] n k = refl
one-more (x ∷ xs) n k = let rest = one-more xs n k in omega (arith, rest)

export-at : ExportLaws → (items : List Item) (n : Name) (k : ℕ) (t : Tree) → At (meaning items).scope.types k t → At (meaning (items ++ export_item n sort.«Type» k ∷ [])).scope.types (indexes (space sort.«Type») items) t
export-at laws items n k t at =
    let more = items ++ export_item n sort.«Type» k ∷ [] in
    let count = laws.counted more in
    let next = one-more items n k in
    let less : indexes (space sort.«Type») items < length (meaning more).scope.types = omega (arith, count, next) in
    laws.there (meaning more).scope.types (indexes (space sort.«Type») items) less ∙ ap Some (laws.added items n k ∙ at-type_at (meaning items).scope.types k t at)

value-tree : (c : Collection) (m : Bindings) (v : ValueType) → definition_tree c m (ty.Value v) ≡ held_tree c m (ty.Value v)
unfolding definition_tree
value-tree c m v = refl

-- ---- the definition and its export keep the root open

value-held : GrowthLaws → (c : Collection) (m : Bindings) (v : ValueType) → IsFaultlessDefinition c m (ty.Value v) → IsHeld c m (ty.Value v) (held_tree c m (ty.Value v))
value-held laws c m v clean = (laws.free).held c m (ty.Value v) (laws.clean c m (kind.TypeItem (ty.Value v)) clean).parts

-- the export is a name of the value type
named-there : GrowthLaws → (g : Graph) (m : Bindings) (v : ValueType) (n : Name) (k : ℕ) (old new : State) → IsOpenRoot g m old → IsOpenRoot g m new → IsFaultlessDefinition g.types m (ty.Value v) → IsDefinitionAt g.types false old (ty.Value v) k
    → items_of new.here.content ≡ items_of old.here.content ++ export_item n sort.«Type» k ∷ [] → IsTypeAt g.types false new (ty.Value v) (indexes (space sort.«Type») (items_of old.here.content))
named-there laws g m v n k old new was now clean is exported ns good =
    let t = held_tree g.types m (ty.Value v) in
    let i = indexes (space sort.«Type») (items_of old.here.content) in
    let same : (m ∷ []) ≡ ns = laws.once g.types (m ∷ []) ns (stack false new) now.good good in
    let (of, at) = is (m ∷ []) was.good in
    let value : IsValue t = subst IsValue (value-tree g.types m v) of in
    let there : At (meaning (items_of old.here.content)).scope.types k t = subst (λ (w : Scope). At w.types k t) (open-scope false old was.root) (subst (λ (x : Tree). At ((innermost (stack false old)).types) k x) (value-tree g.types m v) at) in
    let after : At (meaning (items_of new.here.content)).scope.types i t = subst (λ (items : List Item). At (meaning items).scope.types i t) (sym exported) (export-at laws.exports (items_of old.here.content) n k t there) in (
      t,
      subst (λ (ms : List Bindings). IsHeld g.types (top ms) (ty.Value v) t) same (value-held laws g.types m v clean),
      value,
      subst (λ (w : Scope). At w.types i t) (sym (open-scope false new now.root)) after,
    )

one-root : GoodOnce → (g : Graph) (m n : Bindings) (s : State) → IsOpenRoot g m s → IsOpenRoot g n s → m ≡ n
one-root once g m n s h i = ap top (once g.types (m ∷ []) (n ∷ []) (stack false s) h.good i.good)

pub definition-keeps : GrowthLaws → (g : Graph) (m : Bindings) (a : AnyType) (n : Name) (k : ℕ) (old mid out new : State) → IsOpenRoot g m old → IsFaultlessDefinition g.types m a
    → Goes g.types false old mid → IsDefinitionAt g.types false mid a k → out ≡ with_items mid (items_of mid.here.content ++ export_item n sort.«Type» k ∷ [])
    → RecordsName g a (indexes (space sort.«Type») (items_of mid.here.content)) out new → KeepsRoot g old new
definition-keeps laws g m a n k old mid out new open_root clean goes is exported records x other means =
    let same : m ≡ x = one-root laws.once g m x old open_root other in
    let two = goes-open g m old mid goes open_root in
    let three = appended-open laws.lent g mid out (export_item n sort.«Type» k ∷ [], exported) m two (subst (λ y. HasMeaning (items_of y)) records.content means) in
    let named = λ (v : ValueType) (value : a ≡ ty.Value v). named-there laws g m v n k mid out two three (subst (IsFaultlessDefinition g.types m) value clean) (subst (λ (b : AnyType). IsDefinitionAt g.types false mid b k) value is) (ap (λ (s : State). items_of s.here.content) exported) in
    subst (λ (y : Bindings). IsOpenRoot g y new) same (goes-open g m out new (records.goes named) three)

-- ---- no resource is defined

pub no-resource : (g : Graph) → IsSound g → (n : NodeId) (t : AnyType) (name : Name) → IsSomeAnd (node_at g n) (λ node. node.kind ≡ graph.definition) → IfSome (node_at g n) (λ node. (node.item_kind ≡ kind.TypeItem t) × (node.first_name ≡ Some name))
    → (r : ResourceId) → t ≡ ty.Resource r → ⊥
no-resource g sound n t name is typed r same = by (node_at g n) refl is typed
  where
    of-type : (a b : AnyType) → kind.TypeItem a ≡ kind.TypeItem b → a ≡ b
    of-type a b h = cc

    by : (o : Option GraphNode) → node_at g n ≡ o → IsSomeAnd o (λ node. node.kind ≡ graph.definition) → IfSome o (λ node. (node.item_kind ≡ kind.TypeItem t) × (node.first_name ≡ Some name)) → ⊥
    by None at h typed = absurd h
    by (Some node) at h typed =
        let under = sound.definitions n node at h in
        under.no_resource (subst IsResource (sym (of-type under.defined t (sym under.typed ∙ typed.0) ∙ same)) tt)

-- ---- the type of a definition has no fault

pub faultless-type : (g : Graph) (define : Bool) (m : Bindings) (n : NodeId) (t : AnyType) (name : Name) → IsSomeAnd (node_at g n) (λ node. node.kind ≡ graph.definition) → IfSome (node_at g n) (λ node. (node.item_kind ≡ kind.TypeItem t) × (node.first_name ≡ Some name))
    → IsFaultlessNode g define m n → IsFaultlessDefinition g.types m t
faultless-type g define m n t name is typed faultless = by (node_at g n) refl is typed
  where
    by : (o : Option GraphNode) → node_at g n ≡ o → IsSomeAnd o (λ node. node.kind ≡ graph.definition) → IfSome o (λ node. (node.item_kind ≡ kind.TypeItem t) × (node.first_name ≡ Some name)) → IsFaultlessDefinition g.types m t
    by None at h typed = absurd h
    by (Some node) at h typed = faultless.defined node t at h typed.0
