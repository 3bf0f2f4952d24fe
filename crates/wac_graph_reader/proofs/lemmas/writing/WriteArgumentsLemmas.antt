-- Steps of writing arguments, instantiations and nodes.
use Rattle.std.proofs.Common.{◌≡◌, ℕ, zero, suc, ◌+◌, ◌<◌, ◌≤◌, true, false, List, [], ◌∷◌, ◌++◌, length, take, drop, refl, ap, ◌∙◌, sym, subst, arith, Option, Some, None, IfSome, IfNone, IsSome, IsSomeAnd, String, Global}
use Rattle.std.specs.Borrow.{Bor}
use Rattle.std.specs.Prelude.{slice_get, slice_set, slice_index_or}
use Rattle.std.proofs.lemmas.Option.{slice_get-get_or}
use Rattle.std.proofs.lemmas.Grind.{get_or_default_zero}
use Rattle.std.specs.Option.{option_map}
use Rattle.std.specs.FinSet as set
use Rattle.std.proofs.Math.Seq.{take-length}
use Rattle.slab.specs.Slab.{get, ContainsKey}
use Rattle.wac_types_shapes.specs.primitives.Name.{Name}
use Rattle.wac_types_shapes.specs.declared.shapes.component.ItemKind.{ItemKind}
use Rattle.wac_binary.specs.declared.sorts.Sort.{Sort}
use Rattle.wac_binary.specs.declared.sorts.Sort.TheVariants as sort
use Rattle.wac_binary.specs.Items.{Item, instantiate}
use Rattle.wac_binary.specs.Indexes.{space, indexes}
use Rattle.wac_binary.specs.Views.{arguments_of}
use Rattle.wac_graph_model.specs.declared.nodes.node.Node.{Node}
use Rattle.wac_graph_model.specs.declared.nodes.node.NodeKind.TheVariants as code
use Rattle.wac_graph_model.specs.declared.nodes.options.EncodeOptions.{EncodeOptions}
use Rattle.wac_graph_model.specs.declared.nodes.packages.PackageId.{PackageId}
use Rattle.wac_types_collection.specs.collection.Bound.{Bindings}
use Rattle.wac_edges.specs.declared.node.NodeId.{NodeId}
use Rattle.wac_edges.specs.declared.edges.Edge.{Edge}
use Rattle.wac_edges.specs.Edge.{argument_edge}
use Rattle.wac_graph_model.specs.nodes.Graph as graph
use Rattle.wac_edges.specs.Edge.{node_number}
use Rattle.wac_graph_model.specs.nodes.Graph.{Graph, GraphNode, node_at, imports_of, IsArgumentOf, IsUnsatisfied}
use Rattle.wac_graph_model.specs.nodes.Nodes.{kind_of}
use Rattle.wac_graph_fields.specs.private.Fields.{Fields, graph_of, Invariant}
use Rattle.wac_graph_model.specs.meaning.Means.{is_import}
use Rattle.wac_graph_model.specs.private.meaning.Encoding.{index_in, HasComponent, HasRoom, Progress}
use Rattle.wac_graph_model.specs.private.meaning.Beginning.{Places}
use Rattle.wac_graph_model.specs.private.meaning.Writing.{IsArgumentItem, AreArgumentItems, WritesNode, writes_instantiation, Wrote}
use Rattle.wac_graph_reader.proofs.lemmas.writing.SourceLemmas.{source_at}
use Rattle.wac_graph_model.proofs.lemmas.nodes.NodeLemmas.{there}
use Rattle.wac_graph_reader.proofs.lemmas.writing.EncodingLemmas as nodes

-- one argument more
push_argument : (g : Graph) (places : Places) (index : NodeId → ℕ) (n : NodeId) (k j : ℕ) (xs : List (Name × ItemKind)) (args : List (Name × Sort × ℕ)) (x : Name × ItemKind) (a : Name × Sort × ℕ) → slice_get xs j ≡ Some x → AreArgumentItems g places index n k (take j xs) args
    → IsArgumentItem g places index n (k + j) x a → AreArgumentItems g places index n k (take (suc j) xs) (args ++ a ∷ [])
push_argument g places index n k j [] args x a at had it = cc
push_argument g places index n k zero (y ∷ ys) [] x a at had it =
    let same : y ≡ x = cc in
    let here : k + 0 ≡ k = omega arith in
    (subst (λ z. IsArgumentItem g places index n z y a) here (subst (λ (z : Name × ItemKind). IsArgumentItem g places index n (k + 0) z a) (sym same) it), tt)
push_argument g places index n k zero (y ∷ ys) (b ∷ args) x a at had it = absurd had
push_argument g places index n k (suc j) (y ∷ ys) [] x a at had it = absurd had
push_argument g places index n k (suc j) (y ∷ ys) (b ∷ args) x a at had it =
    let here : k + suc j ≡ suc k + j = omega arith in
    (had.0, push_argument g places index n (suc k) j ys args x a at had.1 (subst (λ z. IsArgumentItem g places index n z x a) here it))

arguments_last : (args : List (Bor (List ℕ) × Sort × ℕ)) (a : Bor (List ℕ) × Sort × ℕ) → arguments_of (args ++ a ∷ []) ≡ arguments_of args ++ (a.0.now, a.1, a.2) ∷ []
arguments_last [] a = refl
arguments_last (b ∷ args) a = ap (λ xs. (b.0.now, b.1, b.2) ∷ xs) (arguments_last args a)

-- the source of an argument is there
pub argument_there : (a : Fields) → Invariant a → (source n i : ℕ) → set.contains a.edges (argument_edge (node_number source) (node_number n) i) ≡ true → ContainsKey a.nodes source
argument_there a v source n i stands = there a.nodes.slots source ((v.sound).ends (argument_edge (node_number source) (node_number n) i) stands).0

named_entry : (P : Name × ItemKind → Type 0) (o : Option (Name × ItemKind)) (name : Name) → option_map (λ e. e.0) o ≡ Some name → IfSome o P → (x : Name × ItemKind) × (o ≡ Some x) × P x
named_entry P None name h p = cc
named_entry P (Some x) name h p = (x, refl, p)

pub pushed : (g : Graph) (places : Places) (index : NodeId → ℕ) (n i : ℕ) (imports : List (Name × ItemKind)) (args new : List (Bor (List ℕ) × Sort × ℕ)) (name : Bor (List ℕ)) (s : Sort) (k : ℕ)
    → option_map (λ e. e.0) (slice_get imports i) ≡ Some name.now → new ≡ args ++ (name, s, k) ∷ [] → IfSome (slice_get imports i) (λ e. IsArgumentItem g places index (node_number n) i e (name.now, s, k))
    → AreArgumentItems g places index (node_number n) 0 (take i imports) (arguments_of args) → AreArgumentItems g places index (node_number n) 0 (take (i + 1) imports) (arguments_of new)
pushed g places index n i imports args new name s k named grown it before =
    let (x, at, asked) = named_entry (λ e. IsArgumentItem g places index (node_number n) i e (name.now, s, k)) (slice_get imports i) name.now named it in
    let here : i ≡ 0 + i = omega arith in
    let next : suc i ≡ i + 1 = omega arith in
    let one : IsArgumentItem g places index (node_number n) (0 + i) x (name.now, s, k) = subst (λ z. IsArgumentItem g places index (node_number n) z x (name.now, s, k)) here asked in
    subst (λ z. AreArgumentItems g places index (node_number n) 0 (take z imports) (arguments_of new)) next
    (subst (λ z. AreArgumentItems g places index (node_number n) 0 (take (suc i) imports) z) (sym (ap arguments_of grown ∙ arguments_last args (name, s, k)))
    (push_argument g places index (node_number n) 0 i imports (arguments_of args) x (name.now, s, k) at before one))

-- the import at a position of the list that is read
pub at_import : (g : Graph) (n i : ℕ) (imports : List (Name × ItemKind)) (P : Name × ItemKind → Type 0) → IsSomeAnd (node_at g (node_number n)) (λ x. x.kind ≡ graph.instantiation) → IfSome (node_at g (node_number n)) (λ x. imports ≡ imports_of g x)
    → IfSome (node_at g (node_number n)) (λ x. IfSome (slice_get (imports_of g x) i) P) → IfSome (slice_get imports i) P
at_import g n i imports P one are given = by_node (node_at g (node_number n)) one are given where
  by_node : (o : Option GraphNode) → IsSomeAnd o (λ x. x.kind ≡ graph.instantiation) → IfSome o (λ x. imports ≡ imports_of g x) → IfSome o (λ x. IfSome (slice_get (imports_of g x) i) P) → IfSome (slice_get imports i) P
  by_node None h e p = absurd h
  by_node (Some x) h e p = subst (λ es. IfSome (slice_get es i) P) (sym e) p

-- all arguments
pub all_arguments : (g : Graph) (at : Places) (index : NodeId → ℕ) (n i : ℕ) (imports : List (Name × ItemKind)) (args : List (Bor (List ℕ) × Sort × ℕ)) → i ≡ length imports → IfSome (node_at g (node_number n)) (λ x. imports ≡ imports_of g x) → AreArgumentItems g at index (node_number n) 0 (take i imports) (arguments_of args)
    → IfSome (node_at g (node_number n)) (λ x. AreArgumentItems g at index (node_number n) 0 (imports_of g x) (arguments_of args))
all_arguments g at index n i imports args end are items = by_node (node_at g (node_number n)) are where
  whole : AreArgumentItems g at index (node_number n) 0 imports (arguments_of args)
  whole = subst (λ xs. AreArgumentItems g at index (node_number n) 0 xs (arguments_of args)) (ap (λ k. take k imports) end ∙ take-length imports) items

  by_node : (o : Option GraphNode) → IfSome o (λ x. imports ≡ imports_of g x) → IfSome o (λ x. AreArgumentItems g at index (node_number n) 0 (imports_of g x) (arguments_of args))
  by_node None h = tt
  by_node (Some x) h = subst (λ xs. AreArgumentItems g at index (node_number n) 0 xs (arguments_of args)) h whole

-- an instantiation is written after its package's component
pub added_instantiation : (g : Graph) (o : EncodeOptions) (m : Bindings) (at : Places) (n : ℕ) (id : PackageId) (places read : List ℕ) (args given : List (Bor (List ℕ) × Sort × ℕ)) (c : ℕ) (components components' : List (PackageId × ℕ)) (items mid items' : List Item) (i : ℕ)
    → IsSomeAnd (node_at g (node_number n)) (λ x. x.kind ≡ graph.instantiation) → IfSome (node_at g (node_number n)) (λ x. x.owner ≡ Some id) → read ≡ places → given ≡ args
    → IfSome (node_at g (node_number n)) (λ x. AreArgumentItems g at (index_in read) (node_number n) 0 (imports_of g x) (arguments_of args))
    → HasComponent g o id c components components' items mid → items' ≡ mid ++ instantiate c (arguments_of given) ∷ [] → i ≡ indexes (space sort.Instance) mid
    → IfSome (node_at g (node_number n)) (λ x. WritesNode g o m at (node_number n) x (index_in places) components components' items items' i)
added_instantiation g o m at n id places read args given c components components' items mid items' i one owner placed same are has grown counted = by_node (node_at g (node_number n)) one owner are where
  last : items' ≡ mid ++ instantiate c (arguments_of args) ∷ []
  last = grown ∙ ap (λ xs. mid ++ instantiate c (arguments_of xs) ∷ []) same

  by_node : (x : Option GraphNode) → IsSomeAnd x (λ x. x.kind ≡ graph.instantiation) → IfSome x (λ x. x.owner ≡ Some id) → IfSome x (λ x. AreArgumentItems g at (index_in read) (node_number n) 0 (imports_of g x) (arguments_of args))
      → IfSome x (λ x. WritesNode g o m at (node_number n) x (index_in places) components components' items items' i)
  by_node None k w h = tt
  by_node (Some x) k w h = writes_instantiation id c mid (arguments_of args) k w has (subst (λ r. AreArgumentItems g at (index_in r) (node_number n) 0 (imports_of g x) (arguments_of args)) placed h) last counted

-- a node's index is noted
pub noted : (g : Graph) (o : EncodeOptions) (m : Bindings) (at : Places) (n : ℕ) (old new last : Progress) (i k : ℕ) → last ≡ new → k ≡ i → IfSome (node_at g (node_number n)) (λ x. WritesNode g o m at (node_number n) x (index_in old.indexes) old.components new.components old.items new.items i) → new.indexes ≡ old.indexes
    → Wrote g o m at (node_number n) old (record last { indexes = slice_set last.indexes n k })
noted g o m at n old new last i k same placed added kept = by_node (node_at g (node_number n)) added where
  by_node : (x : Option GraphNode) → IfSome x (λ x. WritesNode g o m at (node_number n) x (index_in old.indexes) old.components new.components old.items new.items i)
      → IfSome x (λ x. (j : ℕ) × WritesNode g o m at (node_number n) x (index_in old.indexes) old.components last.components old.items last.items j × (slice_set last.indexes n k ≡ slice_set old.indexes n j))
  by_node None h = tt
  by_node (Some x) h = (
    i,
    subst (λ (p : Progress). WritesNode g o m at (node_number n) x (index_in old.indexes) old.components p.components old.items p.items i) (sym same) h,
    ap (λ (p : Progress). slice_set p.indexes n k) same ∙ ap (λ v. slice_set v n k) kept ∙ ap (λ j. slice_set old.indexes n j) placed,
  )

pub dropped_all : {A : Type 0} (xs : List A) (i : ℕ) → length xs ≤ i → drop i xs ≡ []
dropped_all [] zero h = refl
dropped_all [] (suc i) h = refl
dropped_all (x ∷ xs) zero h = absurd (omega arith)
dropped_all (x ∷ xs) (suc i) h = dropped_all xs i (omega arith)

-- a node that is written is no import
pub not_import : (a : Fields) (n : ℕ) (node : Node) → get a.nodes n ≡ Some node → IsSomeAnd (node_at (graph_of a) (node_number n)) (λ x. is_import x.kind ≡ false) → (name : String Global) → node.kind ≡ code.Import name → ⊥
not_import a n node had written name is = by_kind (nodes.of_node a n node (λ x. is_import x.kind ≡ false) written had) where
  by_kind : is_import (kind_of node.kind) ≡ false → ⊥
  by_kind h = let f : true ≡ false = sym (ap (λ k. is_import (kind_of k)) is) ∙ h in cc

pub element : (xs : List NodeId) (i : ℕ) → i < length xs → slice_get xs i ≡ Some (slice_index_or xs i (node_number 0))
element xs i small = slice_get-get_or xs i (node_number 0) small

-- the source of an edge has an index
pub source_noted : (a : Fields) → Invariant a → (g : Graph) → graph_of a ≡ g → (xs : List ℕ) → HasRoom g xs → (e : Edge) → set.contains a.edges e ≡ true → e.source.0 < length xs
source_noted a v g is xs room e stands = room e.source (subst (λ h. IsSome (node_at h e.source)) is ((v.sound).ends e stands).0)

-- where the indexes are as many there is as much room
pub room_kept : (g : Graph) (xs ys : List ℕ) → length ys ≡ length xs → HasRoom g xs → HasRoom g ys
room_kept g xs ys same room n there = subst (λ k. n.0 < k) (sym same) (room n there)

-- what is read there is the index that is noted
pub index_is : (xs : List ℕ) (n x : ℕ) → n < length xs → x ≡ slice_index_or xs n x → x ≡ index_in xs (node_number n)
index_is xs n x small e = e ∙ get_or_default_zero xs n x small

pub is_there_of : (g : Graph) (n : NodeId) (P : GraphNode → Type 0) → IsSomeAnd (node_at g n) P → IsSome (node_at g n)
is_there_of g n P h = some (node_at g n) h where
  some : (o : Option GraphNode) → IsSomeAnd o P → IsSome o
  some None h = absurd h
  some (Some x) h = refl

-- ---- what an argument is asked with
pub asked_now : (g : Graph) (n i : ℕ) (imports : List (Name × ItemKind)) (name : Name) → IsSomeAnd (node_at g (node_number n)) (λ x. x.kind ≡ graph.instantiation) → IfSome (node_at g (node_number n)) (λ x. imports ≡ imports_of g x) → option_map (λ e. e.0) (slice_get imports i) ≡ Some name
    → IsSomeAnd (node_at g (node_number n)) (λ node. (node.kind ≡ graph.instantiation) × IsSomeAnd (slice_get (imports_of g node) i) (λ e. e.0 ≡ name))
asked_now g n i imports name one are named = by_node (node_at g (node_number n)) one are where
  by_entry : (o : Option (Name × ItemKind)) → option_map (λ e. e.0) o ≡ Some name → IsSomeAnd o (λ e. e.0 ≡ name)
  by_entry None h = cc
  by_entry (Some e) h = let same : e.0 ≡ name = cc in same

  by_node : (o : Option GraphNode) → IsSomeAnd o (λ x. x.kind ≡ graph.instantiation) → IfSome o (λ x. imports ≡ imports_of g x) → IsSomeAnd o (λ node. (node.kind ≡ graph.instantiation) × IsSomeAnd (slice_get (imports_of g node) i) (λ e. e.0 ≡ name))
  by_node None h e = absurd h
  by_node (Some x) h e = (h, subst (λ es. IsSomeAnd (slice_get es i) (λ e. e.0 ≡ name)) e (by_entry (slice_get imports i) named))

module _ (g : Graph) (n i count : ℕ) (sources : List (Option NodeId)) (x : Option NodeId) (counted : length sources ≡ count) (small : i < count) (read : x ≡ slice_index_or sources i x) where
  pub source_set : ((j : ℕ) (s : NodeId) → slice_get sources j ≡ Some (Some s) → IsArgumentOf g (node_number n) j s) → IfSome x (IsArgumentOf g (node_number n) i)
  source_set set_at = by_source x refl where
    by_source : (y : Option NodeId) → x ≡ y → IfSome y (IsArgumentOf g (node_number n) i)
    by_source None is = tt
    by_source (Some s) is = set_at i s (source_at sources count i x (Some s) counted small read is)

  pub source_unset : ((j : ℕ) (s : NodeId) → slice_get sources j ≡ Some None → IsArgumentOf g (node_number n) j s → ⊥) → IfNone x (IsUnsatisfied g (node_number n) i)
  source_unset unset_at = by_source x refl where
    by_source : (y : Option NodeId) → x ≡ y → IfNone y (IsUnsatisfied g (node_number n) i)
    by_source (Some s) is = tt
    by_source None is = λ s given. unset_at i s (source_at sources count i x None counted small read is) given
