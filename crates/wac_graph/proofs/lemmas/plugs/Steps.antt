-- What the steps of a graph keep: its types, its packages, and that each node is there.
use Rattle.std.proofs.Common.{◌≡◌, ℕ, cond, true, false, Bool, [], ◌∷◌, ◌++◌, refl, ap, ◌∙◌, sym, subst, Option, Some, None, Ok, IfSome, IsSome, is_some, inl, inr, arith}
use Rattle.std.specs.Prelude.{IsSomeAnd}
use Rattle.std.specs.Ordering.{nat_cmp, eq_by_cmp}
use Rattle.std.specs.Cmp.{nat_cmp_total}
use Rattle.std.specs.FinMap as map
use Rattle.std.proofs.lemmas.Bool.{false≢true}
use Rattle.std.proofs.lemmas.Bool.Decides.{nat_tests}
use Rattle.wac_types_shapes.specs.primitives.Name.{Name}
use Rattle.wac_types_shapes.specs.declared.shapes.component.ItemKind.{ItemKind}
use Rattle.wac_edges.specs.declared.node.NodeId.{NodeId}
use Rattle.wac_graph_model.specs.declared.nodes.packages.PackageId.{PackageId}
use Rattle.wac_graph_model.specs.nodes.Graph.{Graph, GraphNode, node_at, package_at}
use Rattle.wac_graph_model.specs.nodes.Steps.{AddsNode, Instantiates, instance_node, Aliases, AliasesOf, GivesAlias, alias_node, export_named, SetsArgument, SetsOn, GivesArgument, import_named, Exports}
use Rattle.wac_graph.specs.plugs.Plugging.{Keeps}
use Rattle.wac_graph.proofs.lemmas.plugs.Wired.{by-eq, insert-same, insert-other, vacant-keeps}

pub some-of : {A : Type 0} (o : Option A) → IsSome o → (a : A) × (o ≡ Some a)
some-of None h = absurd (false≢true h)
some-of (Some a) h = (a, refl)

-- the item and the package of a node
one-node : (o : Option GraphNode) (x y : GraphNode) → o ≡ Some x → o ≡ Some y → (y.item_kind ≡ x.item_kind) × (y.owner ≡ x.owner)
one-node o x y p q = let both : Some y ≡ Some x = sym q ∙ p in let is : y ≡ x = cc in (ap (λ (k : GraphNode). k.item_kind) is, ap (λ (k : GraphNode). k.owner) is)

pub keeps-same : (old new : Graph) → new ≡ old → Keeps old new
keeps-same old new e = record {
  types = ap (λ (g : Graph). g.types) e;
  slots = ap (λ (g : Graph). g.slots) e;
  nodes = λ n h. ap (λ (g : Graph). is_some (node_at g n)) e ∙ h;
  same = λ n x y was now. one-node (node_at new n) x y (ap (λ (g : Graph). node_at g n) e ∙ was) now;
}

pub keeps-trans : (a b c : Graph) → Keeps a b → Keeps b c → Keeps a c
keeps-trans a b c ab bc = record {
  types = bc.types ∙ ab.types;
  slots = bc.slots ∙ ab.slots;
  nodes = λ n h. bc.nodes n (ab.nodes n h);
  same = λ n x z was now.
      let y = some-of (node_at b n) (ab.nodes n (ap is_some was)) in
      let first = ab.same n x y.0 was y.1 in
      let second = bc.same n y.0 z y.1 now in
      (second.0 ∙ first.0, second.1 ∙ first.1);
}

-- one node more, or another in its place
insert-there : (nodes : map.FinMap nat_cmp GraphNode) (n : ℕ) (node : GraphNode) (m : ℕ) → IsSome (map.get nodes m) → IsSome (map.get (map.insert nodes n node) m)
insert-there nodes n node m h = ap is_some (map.get-insert nat_cmp_total nodes n node m) ∙ by (eq_by_cmp nat_cmp m n) where
  by : (b : Bool) → is_some (cond b (Some node) (map.get nodes m)) ≡ true
  by true = refl
  by false = h

insert-new : (nodes : map.FinMap nat_cmp GraphNode) (n : ℕ) (node : GraphNode) → IsSome (map.get (map.insert nodes n node) n)
insert-new nodes n node =
    let e : eq_by_cmp nat_cmp n n ≡ true = grind (arith, nat_tests) in
    ap is_some (map.get-insert nat_cmp_total nodes n node n) ∙ rw e refl

-- a node under a vacant number, or one with its item and its package in its place, leaves the items and the packages of nodes
added-same : (old new : Graph) (n : ℕ) (node : GraphNode) → new.nodes ≡ map.insert old.nodes n node → map.get old.nodes n ≡ None → (m : NodeId) (x y : GraphNode) → node_at old m ≡ Some x → node_at new m ≡ Some y → (y.item_kind ≡ x.item_kind) × (y.owner ≡ x.owner)
added-same old new n node is vacant m x y was now = one-node (map.get new.nodes m.0) x y (ap (λ k. map.get k m.0) is ∙ vacant-keeps old.nodes n m.0 node x vacant was) now

replaced-same : (old new : Graph) (id : ℕ) (n node : GraphNode) → new.nodes ≡ map.insert old.nodes id node → map.get old.nodes id ≡ Some n → node.item_kind ≡ n.item_kind → node.owner ≡ n.owner
    → (m : NodeId) (x y : GraphNode) → node_at old m ≡ Some x → node_at new m ≡ Some y → (y.item_kind ≡ x.item_kind) × (y.owner ≡ x.owner)
replaced-same old new id n node is at item owner m x y was now = by-eq m.0 id
    (λ e.
    let here = one-node (map.get old.nodes id) x n (ap (map.get old.nodes) (sym e) ∙ was) at in
    let there = one-node (map.get new.nodes m.0) node y (ap (λ k. map.get k m.0) is ∙ ap (map.get (map.insert old.nodes id node)) e ∙ insert-same old.nodes id node) now in
    (there.0 ∙ item ∙ here.0, there.1 ∙ owner ∙ here.1))
    (λ other. one-node (map.get new.nodes m.0) x y (ap (λ k. map.get k m.0) is ∙ insert-other old.nodes id m.0 node other ∙ was) now)

-- an instance
pub instance-keeps : (old new : Graph) (id : PackageId) (n : NodeId) → IsSome (package_at old id) → Instantiates old id (Ok n) new → Keeps old new × IsSome (node_at new n)
instance-keeps old new id n there h =
    let p = some-of (package_at old id) there in
    let step : AddsNode old n (instance_node id p.0) new = subst (λ o. IfSome o (λ p. AddsNode old n (instance_node id p) new)) p.1 h in (
      record {
        types = ap (λ (g : Graph). g.types) step.2;
        slots = ap (λ (g : Graph). g.slots) step.2;
        nodes = λ m was. ap (λ (g : Graph). is_some (node_at g m)) step.2 ∙ insert-there old.nodes n.0 (instance_node id p.0) m.0 was;
        same = added-same old new n.0 (instance_node id p.0) (ap (λ (g : Graph). g.nodes) step.2) step.1;
      },
      ap (λ (g : Graph). is_some (node_at g n)) step.2 ∙ insert-new old.nodes n.0 (instance_node id p.0),
    )

-- an alias
alias-given : (old new : Graph) (id : NodeId) (n : GraphNode) (position : ℕ) (kind : ItemKind) (alias : NodeId) → GivesAlias old id n position kind alias new → Keeps old new
alias-given old new id n position kind alias (inl h) = keeps-same old new h.1
alias-given old new id n position kind alias (inr h) = record {
  types = ap (λ (g : Graph). g.types) h.3;
  slots = ap (λ (g : Graph). g.slots) h.3;
  nodes = λ m was. ap (λ (g : Graph). is_some (node_at g m)) h.3 ∙ insert-there old.nodes alias.0 _ m.0 was;
  same = added-same old new alias.0 (alias_node n kind) (ap (λ (g : Graph). g.nodes) h.3) h.2;
}

pub alias-keeps : (old new : Graph) (id : NodeId) (name : Name) (alias : NodeId) → IsSome (node_at old id) → Aliases old id name (Ok alias) new → Keeps old new
alias-keeps old new id name alias there h =
    let n = some-of (node_at old id) there in
    let step : AliasesOf old id n.0 name (Ok alias) new = subst (λ o. IfSome o (λ n. AliasesOf old id n name (Ok alias) new)) n.1 h in
    by n.0 (export_named old n.0 name) step.1
  where
    by : (n : GraphNode) (o : Option (ℕ × ItemKind)) → IsSomeAnd o (λ e. GivesAlias old id n e.0 e.1 alias new) → Keeps old new
    by n None w = absurd w
    by n (Some e) w = alias-given old new id n e.0 e.1 alias w

-- an argument
argument-given : (old new : Graph) (id argument : NodeId) (given : ItemKind) (position : ℕ) (kind : ItemKind) → GivesArgument old id argument given position kind new → Keeps old new
argument-given old new id argument given position kind (inl h) = keeps-same old new h.1
argument-given old new id argument given position kind (inr h) = record {
  types = ap (λ (g : Graph). g.types) h.2;
  slots = ap (λ (g : Graph). g.slots) h.2;
  nodes = λ m was. ap (λ (g : Graph). is_some (node_at g m)) h.2 ∙ was;
  same = λ m x y was now. one-node (node_at new m) x y (ap (λ (g : Graph). node_at g m) h.2 ∙ was) now;
}

pub argument-keeps : (old new : Graph) (id : NodeId) (name : Name) (argument : NodeId) → IsSome (node_at old id) → IsSome (node_at old argument) → SetsArgument old id name argument (Ok tt) new → Keeps old new
argument-keeps old new id name argument there given_there h =
    let n = some-of (node_at old id) there in
    let given = some-of (node_at old argument) given_there in
    let one = subst (λ o. IfSome o (λ n. IfSome (node_at old argument) (λ given. SetsOn old id n name argument given (Ok tt) new))) n.1 h in
    let step : SetsOn old id n.0 name argument given.0 (Ok tt) new = subst (λ o. IfSome o (λ given. SetsOn old id n.0 name argument given (Ok tt) new)) given.1 one in
    by given.0 (import_named old n.0 name) step.1
  where
    by : (given : GraphNode) (o : Option (ℕ × ItemKind)) → IsSomeAnd o (λ e. GivesArgument old id argument given.item_kind e.0 e.1 new) → Keeps old new
    by given None w = absurd w
    by given (Some e) w = argument-given old new id argument given.item_kind e.0 e.1 w

-- an export
pub export-keeps : (old new : Graph) (id : NodeId) (name : Name) → IsSome (node_at old id) → Exports old id name (Ok tt) new → Keeps old new
export-keeps old new id name there h =
    let n = some-of (node_at old id) there in
    let is : new ≡ record old { nodes = map.insert old.nodes id.0 (record (n.0) { export_name = Some name }); exports = old.exports ++ (name, id) ∷ [] } =
    subst (λ o. IfSome o (λ n. new ≡ record old { nodes = map.insert old.nodes id.0 (record n { export_name = Some name }); exports = old.exports ++ (name, id) ∷ [] })) n.1 h.2 in
    record {
      types = ap (λ (g : Graph). g.types) is;
      slots = ap (λ (g : Graph). g.slots) is;
      nodes = λ m was. ap (λ (g : Graph). is_some (node_at g m)) is ∙ insert-there old.nodes id.0 _ m.0 was;
      same = replaced-same old new id.0 n.0 (record (n.0) { export_name = Some name }) (ap (λ (g : Graph). g.nodes) is) n.1 refl refl;
    }
