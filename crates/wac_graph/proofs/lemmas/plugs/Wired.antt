-- What the wiring of one match answers, whose import has no argument: want of memory, or that it was made.
use Rattle.std.proofs.Common.{◌≡◌, ◌≢◌, ℕ, cond, true, false, Bool, ◌||◌, refl, ap, ◌∙◌, sym, subst, eqb, Option, Some, None, Result, Ok, Err, IfSome, IsSome, is_some, ◌⊎◌, inl, inr, arith}
use Rattle.std.specs.Prelude.{IsSomeAnd}
use Rattle.std.specs.Ordering.{nat_cmp, eq_by_cmp, is_eq}
use Rattle.std.specs.Cmp.{nat_cmp_total, tied_itself}
use Rattle.std.specs.FinMap as map
use Rattle.std.specs.FinSet as set
use Rattle.std.proofs.lemmas.Bool.{false≢true, eqb-true}
use Rattle.std.proofs.lemmas.Bool.Decides.{nat_tests}
use Rattle.wac_types_shapes.specs.declared.shapes.component.ItemKind.{ItemKind}
use Rattle.wac_types_collection.specs.collection.Collection.{Collection}
use Rattle.wac_types_collection.specs.subtyping.Subtype.{IsSubtype}
use Rattle.wac_edges.specs.declared.edges.Edge.{Edge}
use Rattle.wac_edges.specs.declared.edges.Label.TheVariants.{Alias, Argument}
use Rattle.wac_edges.specs.Edge.{edge_cmp, alias_edge, argument_edge}
use Rattle.wac_edges.proofs.EdgeLemmas.{edge_cmp_total, exact_edges}
use Rattle.wac_graph_model.specs.declared.nodes.errors.AliasError.{AliasError}
use Rattle.wac_graph_model.specs.declared.nodes.errors.AliasError.TheVariants as alias_error
use Rattle.wac_graph_model.specs.declared.nodes.errors.InstantiationArgumentError.{InstantiationArgumentError}
use Rattle.wac_graph_model.specs.declared.nodes.errors.InstantiationArgumentError.TheVariants as argument_error
use Rattle.wac_edges.specs.declared.node.NodeId.{NodeId}
use Rattle.wac_graph_model.specs.nodes.Graph.{Graph, GraphNode, node_at, interface_of, instantiation, IsAliasOf, IsArgumentOf, IsSatisfied, IsUnsatisfied}
use Rattle.wac_graph_model.specs.nodes.Steps.{Aliases, AliasesOf, GivesAlias, alias_node, export_named, SetsArgument, SetsOn, GivesArgument, import_named}
use Rattle.wac_graph.specs.declared.plugs.errors.PlugError.TheVariants.{OutOfMemory}
use Rattle.wac_graph.specs.plugs.Matching.{Match}
use Rattle.wac_graph.specs.plugs.Plugging.{Answer, answered, Wires}
use Rattle.wac_graph.specs.plugs.Refusals.{of_alias, of_argument}

-- the edges of a graph lead from nodes that are there
abbrev pub SourcesThere : Graph → Type 0
SourcesThere g = (e : Edge) → set.contains g.edges e ≡ true → is_some (map.get g.nodes e.source.0) ≡ true

pub none-some : {A : Type 0} (o : Option A) (a : A) → o ≡ None → o ≡ Some a → ⊥
none-some o a p q = let w : None ≡ Some a = sym p ∙ q in cc

pub fresh : (g : Graph) (n : NodeId) → SourcesThere g → node_at g n ≡ None → (e : Edge) → e.source.0 ≡ n.0 → set.contains g.edges e ≡ true → ⊥
fresh g n there vacant e is has = false≢true (sym (ap is_some vacant) ∙ (ap (λ k. is_some (map.get g.nodes k)) (sym is) ∙ there e has))

-- an edge of a set with one edge more
pub added-edge : (s : set.FinSet edge_cmp) (x e : Edge) → set.contains (set.insert s x) e ≡ true → (e ≡ x) ⊎ (set.contains s e ≡ true)
added-edge s x e h = split (eq_by_cmp edge_cmp e x) refl (sym (set.contains-insert edge_cmp_total s x e) ∙ h) where
  split : (b : Bool) → eq_by_cmp edge_cmp e x ≡ b → (b || set.contains s e) ≡ true → (e ≡ x) ⊎ (set.contains s e ≡ true)
  split true is _ = inl (exact_edges e x is)
  split false _ or = inr or

pub new-edge : (s : set.FinSet edge_cmp) (x : Edge) → set.contains (set.insert s x) x ≡ true
new-edge s x = set.contains-insert edge_cmp_total s x x ∙ ap (λ b. b || set.contains s x) (ap is_eq (tied_itself edge_cmp_total x))

pub by-eq : {P : Type 0} (m n : ℕ) → (m ≡ n → P) → (m ≢ n → P) → P
by-eq {P} m n same other = elim (eqb m n) as (λ b. eqb m n ≡ b → P) [ true ↦ λ e. same (eqb-true m n e) | false ↦ λ e. other (grind (arith, nat_tests)) ] refl

pub insert-same : (nodes : map.FinMap nat_cmp GraphNode) (n : ℕ) (node : GraphNode) → map.get (map.insert nodes n node) n ≡ Some node
insert-same nodes n node = let e : eq_by_cmp nat_cmp n n ≡ true = grind (arith, nat_tests) in map.get-insert nat_cmp_total nodes n node n ∙ rw e refl

pub insert-other : (nodes : map.FinMap nat_cmp GraphNode) (n m : ℕ) (node : GraphNode) → m ≢ n → map.get (map.insert nodes n node) m ≡ map.get nodes m
insert-other nodes n m node other = let e : eq_by_cmp nat_cmp m n ≡ false = grind (arith, nat_tests) in map.get-insert nat_cmp_total nodes n node m ∙ rw e refl

-- a node under a vacant number leaves the others
pub vacant-keeps : (nodes : map.FinMap nat_cmp GraphNode) (n m : ℕ) (node x : GraphNode) → map.get nodes n ≡ None → map.get nodes m ≡ Some x → map.get (map.insert nodes n node) m ≡ Some x
vacant-keeps nodes n m node x vacant was = by-eq m n
    (λ same. absurd (none-some (map.get nodes n) x vacant (sym (ap (map.get nodes) same) ∙ was)))
    (λ other. insert-other nodes n m node other ∙ was)

pub insert-there : (nodes : map.FinMap nat_cmp GraphNode) (n : ℕ) (node : GraphNode) (m : ℕ) → is_some (map.get nodes m) ≡ true → is_some (map.get (map.insert nodes n node) m) ≡ true
insert-there nodes n node m h = ap is_some (map.get-insert nat_cmp_total nodes n node m) ∙ by (eq_by_cmp nat_cmp m n) where
  by : (b : Bool) → is_some (cond b (Some node) (map.get nodes m)) ≡ true
  by true = refl
  by false = h

labels-differ : (a b c d : NodeId) (i j : ℕ) → argument_edge a b i ≡ alias_edge c d j → ⊥
labels-differ a b c d i j e = let l : Argument i ≡ Alias j = ap (λ (x : Edge). x.label) e in cc

alias-positions : (a b c d : NodeId) (i j : ℕ) → alias_edge a b i ≡ alias_edge c d j → (a.0 ≡ c.0) × (i ≡ j)
alias-positions a b c d i j e = (ap (λ (x : Edge). x.source.0) e, (let l : Alias i ≡ Alias j = ap (λ (x : Edge). x.label) e in cc))

argument-positions : (a b c d : NodeId) (i j : ℕ) → argument_edge a b i ≡ argument_edge c d j → i ≡ j
argument-positions a b c d i j e = let l : Argument i ≡ Argument j = ap (λ (x : Edge). x.label) e in cc

-- what stands after a match was wired from a node to an import at a position
pub record Wired (g : Graph) (n s : NodeId) (i j : ℕ) (new : Graph) : Type 0 where
  pub types : new.types ≡ g.types
  pub slots : new.slots ≡ g.slots
  pub exports : new.exports ≡ g.exports
  pub sources : SourcesThere new
  pub nodes : (k : NodeId) (x : GraphNode) → node_at g k ≡ Some x → node_at new k ≡ Some x
  pub aliases : (k : NodeId) (p : ℕ) (a : NodeId) → IsAliasOf new k p a → ((k.0 ≡ n.0) × (p ≡ i)) ⊎ IsAliasOf g k p a
  pub only : (q : ℕ) → IsSatisfied new s q → (q ≡ j) ⊎ IsSatisfied g s q

-- a refused argument, as the answer
abbrev refused-by : InstantiationArgumentError → Answer
refused-by e = Err (of_argument e)

module _ (g : Graph) (n s : NodeId) (pn sn : GraphNode) (m : Match) (x y : ℕ × ItemKind)
    (sources : SourcesThere g) (plug_there : node_at g n ≡ Some pn) (socket_there : node_at g s ≡ Some sn)
    (instance : IsSome (interface_of pn.item_kind)) (instantiated : sn.kind ≡ instantiation)
    (exported : export_named g pn m.export ≡ Some x) (imported : import_named g sn m.import ≡ Some y)
    (fits : IsSubtype g.types x.1 g.types y.1) (unaliased : (a : NodeId) → IsAliasOf g n x.0 a → ⊥) (free : IsSatisfied g s y.0 → ⊥) where
  -- a refused alias is want of memory
  alias-refused : (e : AliasError) (new : Graph) → Aliases g n m.export (Err e) new → e ≡ alias_error.OutOfMemory
  alias-refused e new h = by e (subst (λ o. IfSome o (λ k. AliasesOf g n k m.export (Err e) new)) plug_there h) where
    by : (e : AliasError) → AliasesOf g n pn m.export (Err e) new → e ≡ alias_error.OutOfMemory
    by (alias_error.NodeIsNotAnInstance node kind) w = absurd (false≢true (sym (ap is_some w.3) ∙ instance))
    by (alias_error.InstanceMissingExport node text) w = absurd (none-some (export_named g pn m.export) x w.4 exported)
    by alias_error.OutOfMemory w = refl

  -- the alias is new
  abbrev IsMade : NodeId → Graph → Type 0
  IsMade a mid = (node_at g a ≡ None) × (mid ≡ record g { nodes = map.insert g.nodes a.0 (alias_node pn x.1); edges = set.insert g.edges (alias_edge n a x.0); next = mid.next })

  alias-made : (a : NodeId) (mid : Graph) → Aliases g n m.export (Ok a) mid → IsMade a mid
  alias-made a mid h = by (subst (λ o. IsSomeAnd o (λ e. GivesAlias g n pn e.0 e.1 a mid)) exported step.1) where
    step : AliasesOf g n pn m.export (Ok a) mid
    step = subst (λ o. IfSome o (λ k. AliasesOf g n k m.export (Ok a) mid)) plug_there h

    by : GivesAlias g n pn x.0 x.1 a mid → IsMade a mid
    by (inl w) = absurd (unaliased a w.0)
    by (inr w) = (w.2, w.3)

  module _ (a : NodeId) (mid : Graph) (made : IsMade a mid) where
    abbrev argument : Edge
    argument = argument_edge a s y.0

    before : (e : Edge) → set.contains mid.edges e ≡ true → (e ≡ alias_edge n a x.0) ⊎ (set.contains g.edges e ≡ true)
    before e h = added-edge g.edges (alias_edge n a x.0) e (sym (ap (λ (k : Graph). set.contains k.edges e) made.1) ∙ h)

    argument-before : (q : ℕ) (b : NodeId) → IsArgumentOf mid s q b → IsArgumentOf g s q b
    argument-before q b h = elim (before (argument_edge b s q) h) [ inl e ↦ absurd (labels-differ b s n a q x.0 e) | inr old ↦ old ]

    not-given : IsArgumentOf mid s y.0 a → ⊥
    not-given h = fresh g a sources made.0 (argument_edge a s y.0) refl (argument-before y.0 a h)

    sets-on : (r : Result (Unit {0}) InstantiationArgumentError) (new : Graph) → SetsArgument mid s m.import a r new → SetsOn mid s sn m.import a (alias_node pn x.1) r new
    sets-on r new h =
        let socket_then : node_at mid s ≡ Some sn = ap (λ (k : Graph). node_at k s) made.1 ∙ vacant-keeps g.nodes a.0 s.0 (alias_node pn x.1) sn made.0 socket_there in
        let alias_then : node_at mid a ≡ Some (alias_node pn x.1) = ap (λ (k : Graph). node_at k a) made.1 ∙ insert-same g.nodes a.0 (alias_node pn x.1) in
        subst (λ o. IfSome o (λ k. SetsOn mid s sn m.import a k r new)) alias_then (subst (λ o. IfSome o (λ k. IfSome (node_at mid a) (λ given. SetsOn mid s k m.import a given r new))) socket_then h)

    imported-then : import_named mid sn m.import ≡ Some y
    imported-then = ap (λ (k : Graph). import_named k sn m.import) made.1 ∙ imported

    -- a refused argument is want of memory
    argument-refused : (e : InstantiationArgumentError) (new : Graph) → SetsOn mid s sn m.import a (alias_node pn x.1) (Err e) new → refused-by e ≡ Err OutOfMemory
    argument-refused (argument_error.NodeIsNotAnInstantiation node) new w = absurd (w.2 instantiated)
    argument-refused (argument_error.InvalidArgumentName node text of_package) new w = absurd (none-some (import_named mid sn m.import) y w.5 imported-then)
    argument-refused (argument_error.ArgumentAlreadyPassed node text) new w =
        let given = subst (λ o. IsSomeAnd o (λ e. (IsArgumentOf mid s e.0 a → ⊥) × IsSatisfied mid s e.0)) imported-then w.4 in
        absurd (free (given.1.0, argument-before y.0 given.1.0 given.1.1))
    argument-refused (argument_error.ArgumentTypeMismatch text source) new w =
        let misfit = subst (λ o. IsSomeAnd o (λ e. IsUnsatisfied mid s e.0 × (IsSubtype mid.types x.1 mid.types e.1 → ⊥))) imported-then w.4 in
        absurd (misfit.1 (subst (λ (c : Collection). IsSubtype c x.1 c y.1) (sym (ap (λ (k : Graph). k.types) made.1)) fits))
    argument-refused argument_error.OutOfMemory new w = refl

    argument-set : (new : Graph) → SetsOn mid s sn m.import a (alias_node pn x.1) (Ok tt) new → Wired g n s x.0 y.0 new
    argument-set new w = by (subst (λ o. IsSomeAnd o (λ e. GivesArgument mid s a x.1 e.0 e.1 new)) imported-then w.1) where
      by : GivesArgument mid s a x.1 y.0 y.1 new → Wired g n s x.0 y.0 new
      by (inl given) = absurd (not-given given.0)
      by (inr given) = record {
        types = ap (λ (k : Graph). k.types) given.2 ∙ ap (λ (k : Graph). k.types) made.1;
        slots = ap (λ (k : Graph). k.slots) given.2 ∙ ap (λ (k : Graph). k.slots) made.1;
        exports = ap (λ (k : Graph). k.exports) given.2 ∙ ap (λ (k : Graph). k.exports) made.1;
        sources = λ e h. elim (last e h) [
          | inl is ↦ ap (λ (q : Edge). is_some (map.get new.nodes q.source.0)) is ∙ ap is_some (ap (λ ns. map.get ns a.0) nodes_are ∙ insert-same g.nodes a.0 (alias_node pn x.1))
          | inr was ↦ elim (before e was) [
            | inl is ↦ ap (λ (q : Edge). is_some (map.get new.nodes q.source.0)) is ∙ there n.0 (ap is_some plug_there)
            | inr old ↦ there e.source.0 (sources e old)
          ]
        ];
        nodes = λ k z was. ap (λ ns. map.get ns k.0) nodes_are ∙ vacant-keeps g.nodes a.0 k.0 (alias_node pn x.1) z made.0 was;
        aliases = λ k p b h. elim (last (alias_edge k b p) h) [
          | inl is ↦ absurd (labels-differ a s k b y.0 p (sym is))
          | inr was ↦ elim (before (alias_edge k b p) was) [
            | inl is ↦ inl (alias-positions k b n a p x.0 is)
            | inr old ↦ inr old
          ]
        ];
        only = λ q h. elim (last (argument_edge h.0 s q) h.1) [
          | inl is ↦ inl (argument-positions h.0 s a s q y.0 is)
          | inr was ↦ inr (h.0, argument-before q h.0 was)
        ];
      }
        where
          last : (e : Edge) → set.contains new.edges e ≡ true → (e ≡ argument) ⊎ (set.contains mid.edges e ≡ true)
          last e h = added-edge mid.edges argument e (sym (ap (λ (k : Graph). set.contains k.edges e) given.2) ∙ h)

          nodes_are : new.nodes ≡ map.insert g.nodes a.0 (alias_node pn x.1)
          nodes_are = ap (λ (k : Graph). k.nodes) given.2 ∙ ap (λ (k : Graph). k.nodes) made.1

          there : (k : ℕ) → is_some (map.get g.nodes k) ≡ true → is_some (map.get new.nodes k) ≡ true
          there k h = ap (λ ns. is_some (map.get ns k)) nodes_are ∙ insert-there g.nodes a.0 (alias_node pn x.1) k h

  pub wire-answer : (answer : Answer) (new : Graph) → Wires n s g m answer new → (answer ≡ Err OutOfMemory) ⊎ ((answer ≡ Ok tt) × Wired g n s x.0 y.0 new)
  wire-answer answer new (inl h) = inl (h.2 ∙ ap (λ (e : AliasError). let r : Answer = Err (of_alias e) in r) (alias-refused h.0 new h.1))
  wire-answer answer new (inr h) = by h.3.0 (sets-on h.0 h.1 (alias-made h.0 h.1 h.2) h.3.0 new h.3.1) h.3.2 where
    by : (r : Result (Unit {0}) InstantiationArgumentError) → SetsOn h.1 s sn m.import h.0 (alias_node pn x.1) r new → answer ≡ answered of_argument r
        → (answer ≡ Err OutOfMemory) ⊎ ((answer ≡ Ok tt) × Wired g n s x.0 y.0 new)
    by (Ok tt) w is = inr (is, argument-set h.0 h.1 (alias-made h.0 h.1 h.2) new w)
    by (Err e) w is = inl (is ∙ argument-refused h.0 h.1 (alias-made h.0 h.1 h.2) e new w)
