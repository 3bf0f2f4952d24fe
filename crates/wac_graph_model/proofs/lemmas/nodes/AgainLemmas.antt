-- What is asked for once more gives what stands, and what is unset right after it was set leaves what stood.
use Rattle.std.proofs.Common.{◌≡◌, ℕ, refl, ap, ◌∙◌, sym, subst, Bool, true, false, not, ◌||◌, ◌&&◌, Option, Some, None, Result, Ok, Err, IfSome, IsSome, IsSomeAnd, inl, inr}
use Rattle.std.specs.FinSet as set
use Rattle.std.specs.Ordering.{eq_by_cmp}
use Rattle.wac_types_shapes.specs.primitives.Name.{Name}
use Rattle.wac_types_shapes.specs.declared.shapes.component.ItemKind.{ItemKind}
use Rattle.wac_types_collection.specs.subtyping.Subtype.{IsSubtype}
use Rattle.wac_edges.specs.declared.edges.Edge.{Edge}
use Rattle.wac_edges.specs.declared.node.NodeId.{NodeId}
use Rattle.wac_edges.specs.Edge.{edge_cmp, argument_edge}
use Rattle.wac_edges.proofs.EdgeLemmas.{edge_cmp_total, exact_edges, edge_cmp-IsAntisymmetric}
use Rattle.wac_graph_model.specs.declared.nodes.errors.AliasError.{AliasError}
use Rattle.wac_graph_model.specs.declared.nodes.errors.AliasError.TheVariants as alias_error
use Rattle.wac_graph_model.specs.declared.nodes.errors.InstantiationArgumentError.{InstantiationArgumentError}
use Rattle.wac_graph_model.specs.declared.nodes.errors.InstantiationArgumentError.TheVariants as argument_error
use Rattle.wac_graph_model.specs.nodes.Graph as graph
use Rattle.wac_graph_model.specs.nodes.Graph.{Graph, GraphNode, node_at, interface_of, IsArgumentOf, IsUnsatisfied}
use Rattle.wac_graph_model.specs.nodes.Sound.{IsSound}
use Rattle.wac_graph_model.specs.nodes.Steps.{Aliases, AliasesOf, GivesAlias, export_named, SetsArgument, SetsOn, GivesArgument, import_named, UnsetsArgument, UnsetsOn}
use Rattle.wac_graph_model.specs.nodes.Stays.{GivesAgain}
use Rattle.wac_graph_model.proofs.lemmas.nodes.StaysLemmas.{alias-stays, argument-stays}

-- adding an edge that isn't there and removing it
pub taken_back : (s : set.FinSet edge_cmp) (e : Edge) → set.contains s e ≡ false → set.remove (set.insert s e) e ≡ s
taken_back s e absent = set.same_set edge_cmp_total edge_cmp-IsAntisymmetric (set.remove (set.insert s e) e) s (λ q.
    set.contains-remove edge_cmp_total (set.insert s e) e q
    ∙ ap (λ b. not (eq_by_cmp edge_cmp q e) && b) (set.contains-insert edge_cmp_total s e q)
    ∙ at q (eq_by_cmp edge_cmp q e) refl) where
      at : (q : Edge) (b : Bool) → eq_by_cmp edge_cmp q e ≡ b → (not b && (b || set.contains s q)) ≡ set.contains s q
      at q true is = sym (ap (λ x. set.contains s x) (exact_edges q e is) ∙ absent)
      at q false is = refl

off : (b : Bool) → (b ≡ true → ⊥) → b ≡ false
off true h = absurd (h refl)
off false h = refl

not_none : {X : Type 0} (o : Option X) → o ≡ None → IsSome o → ⊥
not_none None e h = cc
not_none (Some x) e h = cc

-- the second alias of an export is the first one
alias-again : (mid new : Graph) (instance : NodeId) (source n : GraphNode) (e : ℕ × ItemKind) (name : Name) (first : NodeId) (r : Result NodeId AliasError) → IsSound mid
    → IsSome (interface_of source.item_kind) → n ≡ source → export_named mid n name ≡ Some e → graph.IsAliasOf mid instance e.0 first → AliasesOf mid instance n name r new
    → GivesAgain mid first alias_error.OutOfMemory r new
alias-again mid new instance source n e name first (Ok second) s some same is stood step = gives (subst (λ o. IsSomeAnd o (λ e. GivesAlias mid instance n e.0 e.1 second new)) is step.1) where
  gives : GivesAlias mid instance n e.0 e.1 second new → GivesAgain mid first alias_error.OutOfMemory (Ok second) new
  gives (inl h) = (h.1, inl (ap Ok (s.one_alias instance e.0 second first h.0 stood)))
  gives (inr h) = absurd (h.0 first stood)
alias-again mid new instance source n e name first (Err (alias_error.NodeIsNotAnInstance node kind)) s some same is stood step =
    absurd (not_none (interface_of source.item_kind) (ap (λ (x : GraphNode). interface_of x.item_kind) (sym same) ∙ step.3) some)
alias-again mid new instance source n e name first (Err (alias_error.InstanceMissingExport node text)) s some same is stood step = cc
alias-again mid new instance source n e name first (Err alias_error.OutOfMemory) s some same is stood step = (step, inr refl)

some_of : (o : Option GraphNode) (x y : GraphNode) → o ≡ Some x → o ≡ Some y → x ≡ y
some_of o x y a b = cc

pub second_alias : (old mid new : Graph) (instance : NodeId) (source : GraphNode) (name : Name) (first : NodeId) (r : Result NodeId AliasError) → IsSound mid → node_at old instance ≡ Some source
    → Aliases old instance name (Ok first) mid → Aliases mid instance name r new → GivesAgain mid first alias_error.OutOfMemory r new
second_alias old mid new instance source name first r s there step again =
    let ((n, e, at, is, stood), stays) = alias-stays old mid instance source name first there step in
    let same : n ≡ source = some_of (node_at mid instance) n source at (stays.nodes instance source there) in
    alias-again mid new instance source n e name first r s (subst (λ o. IfSome o (λ n. AliasesOf old instance n name (Ok first) mid)) there step).0 same is stood
    (subst (λ o. IfSome o (λ n. AliasesOf mid instance n name r new)) at again)

-- an argument that is set stays as it is when it is set again
argument-again : (mid new : Graph) (consumer : NodeId) (n given : GraphNode) (e : ℕ × ItemKind) (name : Name) (argument : NodeId) (r : Result (Unit {0}) InstantiationArgumentError)
    → n.kind ≡ graph.instantiation → import_named mid n name ≡ Some e → IsArgumentOf mid consumer e.0 argument → SetsOn mid consumer n name argument given r new
    → (new ≡ mid) × (r ≡ Ok tt)
argument-again mid new consumer n given e name argument (Ok u) kind is stood step = gives (subst (λ o. IsSomeAnd o (λ e. GivesArgument mid consumer argument given.item_kind e.0 e.1 new)) is step.1) where
  gives : GivesArgument mid consumer argument given.item_kind e.0 e.1 new → (new ≡ mid) × (let again : Result (Unit {0}) InstantiationArgumentError = Ok u in again ≡ Ok tt)
  gives (inl h) = (h.1, refl)
  gives (inr h) = absurd (h.0 argument stood)
argument-again mid new consumer n given e name argument (Err (argument_error.NodeIsNotAnInstantiation node)) kind is stood step = absurd (step.2 kind)
argument-again mid new consumer n given e name argument (Err (argument_error.InvalidArgumentName node text of_package)) kind is stood step = cc
argument-again mid new consumer n given e name argument (Err (argument_error.ArgumentAlreadyPassed node text)) kind is stood step =
    absurd ((subst (λ o. IsSomeAnd o (λ e. (IsArgumentOf mid consumer e.0 argument → ⊥) × graph.IsSatisfied mid consumer e.0)) is step.4).0 stood)
argument-again mid new consumer n given e name argument (Err (argument_error.ArgumentTypeMismatch text source)) kind is stood step =
    absurd ((subst (λ o. IsSomeAnd o (λ e. IsUnsatisfied mid consumer e.0 × (IsSubtype mid.types given.item_kind mid.types e.1 → ⊥))) is step.4).0 argument stood)
argument-again mid new consumer n given e name argument (Err argument_error.OutOfMemory) kind is stood step =
    absurd (subst (λ o. IfSome o (λ e. IsArgumentOf mid consumer e.0 argument → ⊥)) is step.2 stood)

sets : (g new : Graph) (consumer argument : NodeId) (n given : GraphNode) (name : Name) (r : Result (Unit {0}) InstantiationArgumentError) → node_at g consumer ≡ Some n → node_at g argument ≡ Some given
    → SetsArgument g consumer name argument r new → SetsOn g consumer n name argument given r new
sets g new consumer argument n given name r there given_there step =
    subst (λ o. IfSome o (λ x. SetsOn g consumer n name argument x r new)) given_there (subst (λ o. IfSome o (λ n. IfSome (node_at g argument) (λ x. SetsOn g consumer n name argument x r new))) there step)

pub second_argument : (old mid new : Graph) (consumer : NodeId) (n : GraphNode) (name : Name) (argument : NodeId) (given : GraphNode) (r : Result (Unit {0}) InstantiationArgumentError)
    → node_at old consumer ≡ Some n → node_at old argument ≡ Some given → SetsArgument old consumer name argument (Ok tt) mid → SetsArgument mid consumer name argument r new
    → (new ≡ mid) × (r ≡ Ok tt)
second_argument old mid new consumer n name argument given r there given_there step again =
    let ((m, e, at, is, stood), stays) = argument-stays old mid consumer n name argument given there given_there step in
    let same : m ≡ n = some_of (node_at mid consumer) m n at (stays.nodes consumer n there) in
    argument-again mid new consumer m given e name argument r (ap (λ (x : GraphNode). x.kind) same ∙ (sets old mid consumer argument n given name (Ok tt) there given_there step).0) is stood
    (sets mid new consumer argument m given name r at (stays.nodes argument given given_there) again)

-- an argument that is set anew and then unset leaves the graph as it was
pub given_back : (old mid new : Graph) (consumer : NodeId) (n : GraphNode) (name : Name) (argument : NodeId) (given : GraphNode)
    → node_at old consumer ≡ Some n → node_at old argument ≡ Some given → SetsArgument old consumer name argument (Ok tt) mid → (mid ≡ old → ⊥) → UnsetsArgument mid consumer name argument (Ok tt) new → new ≡ old
given_back old mid new consumer n name argument given there given_there step differs unset =
    at (import_named old n name) refl (sets old mid consumer argument n given name (Ok tt) there given_there step).1
  where
    Back : Graph → Type 0
    Back g = UnsetsArgument g consumer name argument (Ok tt) new

    unsets : (e : ℕ × ItemKind) → import_named old n name ≡ Some e → IsUnsatisfied old consumer e.0 → Back (record old { edges = set.insert old.edges (argument_edge argument consumer e.0) }) → new ≡ old
    unsets e is free h =
        let on = subst (λ o. IfSome o (λ m. UnsetsOn (record old { edges = set.insert old.edges (argument_edge argument consumer e.0) }) consumer m name argument (Ok tt) new)) there h in
        subst (λ o. IsSomeAnd o (λ e'. new ≡ record old { edges = set.remove (set.insert old.edges (argument_edge argument consumer e.0)) (argument_edge argument consumer e'.0) })) is on.1
        ∙ ap (λ s. record old { edges = s }) (taken_back old.edges (argument_edge argument consumer e.0) (off (set.contains old.edges (argument_edge argument consumer e.0)) (free argument)))

    gives : (e : ℕ × ItemKind) → import_named old n name ≡ Some e → GivesArgument old consumer argument given.item_kind e.0 e.1 mid → new ≡ old
    gives e is (inl h) = absurd (differs h.1)
    gives e is (inr h) = unsets e is h.0 (subst Back h.2 unset)

    at : (o : Option (ℕ × ItemKind)) → import_named old n name ≡ o → IsSomeAnd o (λ e. GivesArgument old consumer argument given.item_kind e.0 e.1 mid) → new ≡ old
    at None is h = absurd h
    at (Some e) is h = gives e is h
