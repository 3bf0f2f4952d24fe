-- What is in a graph's sets, maps and lists with one thing more.
use Rattle.std.proofs.Common.{◌≡◌, ◌≢◌, ℕ, Bool, true, false, ◌||◌, List, [], ◌∷◌, ◌++◌, length, refl, ap, ◌∙◌, sym, subst, arith, eqb, Some, None, ◌⊎◌, inl, inr}
use Rattle.std.specs.Prelude.{slice_get, IsSomeAnd}
use Rattle.std.specs.Ordering.{nat_cmp, eq_by_cmp, is_eq}
use Rattle.std.specs.Cmp.{nat_cmp_total, tied_itself}
use Rattle.std.specs.FinMap as map
use Rattle.std.specs.FinSet as set
use Rattle.std.proofs.Math.Bool.{or-true}
use Rattle.std.proofs.lemmas.Bool.{eqb-true}
use Rattle.std.proofs.lemmas.Bool.Decides.{nat_tests}
use Rattle.wac_types_shapes.specs.primitives.Name.{Name, find_name}
use Rattle.wac_types_shapes.proofs.lemmas.shapes.Names.{found_at}
use Rattle.wac_types_collection.proofs.lemmas.collection.Growth.{get_where}
use Rattle.wac_edges.specs.declared.edges.Edge.{Edge}
use Rattle.wac_edges.specs.Edge.{edge_cmp}
use Rattle.wac_edges.proofs.EdgeLemmas.{edge_cmp_total, exact_edges}
use Rattle.wac_edges.specs.declared.node.NodeId.{NodeId}
use Rattle.wac_graph_model.specs.nodes.Graph as graph
use Rattle.wac_graph_model.specs.nodes.Graph.{GraphNode}

pub by_eq : {P : Type 0} (m n : ℕ) → (m ≡ n → P) → (m ≢ n → P) → P
by_eq {P} m n same other = elim (eqb m n) as (λ b. eqb m n ≡ b → P) [ true ↦ λ e. same (eqb-true m n e) | false ↦ λ e. other (grind (arith, nat_tests)) ] refl

pub same_id : (m n : NodeId) → m.0 ≡ n.0 → m ≡ n
same_id m n e = λ j. record { 0 = e j }

-- a node is there, or another
pub insert_same : (nodes : map.FinMap nat_cmp GraphNode) (n : ℕ) (node : GraphNode) → map.get (map.insert nodes n node) n ≡ Some node
insert_same nodes n node = let e : eq_by_cmp nat_cmp n n ≡ true = grind (arith, nat_tests) in map.get-insert nat_cmp_total nodes n node n ∙ rw e refl

pub insert_other : (nodes : map.FinMap nat_cmp GraphNode) (n m : ℕ) (node : GraphNode) → m ≢ n → map.get (map.insert nodes n node) m ≡ map.get nodes m
insert_other nodes n m node other = let e : eq_by_cmp nat_cmp m n ≡ false = grind (arith, nat_tests) in map.get-insert nat_cmp_total nodes n node m ∙ rw e refl

-- what is so of the node of a number with one node more was so before, and the other way round, where this holds of that node
pub some_before : (P : GraphNode → Type 0) (nodes : map.FinMap nat_cmp GraphNode) (n : NodeId) (node : GraphNode) (m : NodeId) → (P node → IsSomeAnd (map.get nodes n.0) P) → IsSomeAnd (map.get (map.insert nodes n.0 node) m.0) P → IsSomeAnd (map.get nodes m.0) P
some_before P nodes n node m back h = by_eq m.0 n.0
    (λ same. subst (λ k. IsSomeAnd (map.get nodes k) P) (sym same) (back (subst (λ o. IsSomeAnd o P) (ap (map.get (map.insert nodes n.0 node)) same ∙ insert_same nodes n.0 node) h)))
    (λ differ. subst (λ o. IsSomeAnd o P) (insert_other nodes n.0 m.0 node differ) h)

pub some_after : (P : GraphNode → Type 0) (nodes : map.FinMap nat_cmp GraphNode) (n : NodeId) (node : GraphNode) (m : NodeId) → (IsSomeAnd (map.get nodes n.0) P → P node) → IsSomeAnd (map.get nodes m.0) P → IsSomeAnd (map.get (map.insert nodes n.0 node) m.0) P
some_after P nodes n node m onward h = by_eq m.0 n.0
    (λ same. subst (λ o. IsSomeAnd o P) (sym (ap (map.get (map.insert nodes n.0 node)) same ∙ insert_same nodes n.0 node)) (onward (subst (λ k. IsSomeAnd (map.get nodes k) P) same h)))
    (λ differ. subst (λ o. IsSomeAnd o P) (sym (insert_other nodes n.0 m.0 node differ)) h)

-- it is so of the new node, or was of the old one
pub some_either : (P : GraphNode → Type 0) (nodes : map.FinMap nat_cmp GraphNode) (n : NodeId) (node : GraphNode) (m : NodeId) → IsSomeAnd (map.get (map.insert nodes n.0 node) m.0) P → IsSomeAnd (map.get nodes m.0) P ⊎ ((m ≡ n) × P node)
some_either P nodes n node m h = by_eq m.0 n.0
    (λ same. inr (same_id m n same, subst (λ o. IsSomeAnd o P) (ap (map.get (map.insert nodes n.0 node)) same ∙ insert_same nodes n.0 node) h))
    (λ differ. inl (subst (λ o. IsSomeAnd o P) (insert_other nodes n.0 m.0 node differ) h))

-- the node of a number imports a name
abbrev pub ImportIn : map.FinMap nat_cmp GraphNode → Name → NodeId → Type 0
ImportIn nodes name m = IsSomeAnd (map.get nodes m.0) (λ x. x.kind ≡ graph.import name)

-- what imports a name with one node more did so before, and the other way round, where this is so of that node
pub import_before : (nodes : map.FinMap nat_cmp GraphNode) (n : NodeId) (node : GraphNode) (name : Name) (m : NodeId) → (node.kind ≡ graph.import name → ImportIn nodes name n) → ImportIn (map.insert nodes n.0 node) name m → ImportIn nodes name m
import_before nodes n node name m back h = some_before (λ x. x.kind ≡ graph.import name) nodes n node m back h

pub import_after : (nodes : map.FinMap nat_cmp GraphNode) (n : NodeId) (node : GraphNode) (name : Name) (m : NodeId) → (ImportIn nodes name n → node.kind ≡ graph.import name) → ImportIn nodes name m → ImportIn (map.insert nodes n.0 node) name m
import_after nodes n node name m onward h = some_after (λ x. x.kind ≡ graph.import name) nodes n node m onward h

-- an edge of a set with one edge more
pub added_edge : (s : set.FinSet edge_cmp) (x e : Edge) → set.contains (set.insert s x) e ≡ true → (e ≡ x) ⊎ (set.contains s e ≡ true)
added_edge s x e h = split (eq_by_cmp edge_cmp e x) refl (sym (set.contains-insert edge_cmp_total s x e) ∙ h) where
  split : (b : Bool) → eq_by_cmp edge_cmp e x ≡ b → (b || set.contains s e) ≡ true → (e ≡ x) ⊎ (set.contains s e ≡ true)
  split true is _ = inl (exact_edges e x is)
  split false _ or = inr or

pub new_edge : (s : set.FinSet edge_cmp) (x : Edge) → set.contains (set.insert s x) x ≡ true
new_edge s x = set.contains-insert edge_cmp_total s x x ∙ ap (λ b. b || set.contains s x) (ap is_eq (tied_itself edge_cmp_total x))

pub kept_edge : (s : set.FinSet edge_cmp) (x e : Edge) → set.contains s e ≡ true → set.contains (set.insert s x) e ≡ true
kept_edge s x e h = set.contains-insert edge_cmp_total s x e ∙ (rw h (or-true (eq_by_cmp edge_cmp e x)))

-- at most one, and with one more where there was none
pub one_more : {A : Type 0} (Old New : A → Type 0) (fresh : A) → ((x : A) → New x → Old x ⊎ ((x ≡ fresh) × ((y : A) → Old y → ⊥))) → ((x y : A) → Old x → Old y → x ≡ y) → (x y : A) → New x → New y → x ≡ y
one_more {A} Old New fresh cases one x y p q = both (cases x p) (cases y q) where
  both : Old x ⊎ ((x ≡ fresh) × ((z : A) → Old z → ⊥)) → Old y ⊎ ((y ≡ fresh) × ((z : A) → Old z → ⊥)) → x ≡ y
  both (inl a) (inl b) = one x y a b
  both (inl a) (inr b) = absurd (b.1 x a)
  both (inr a) (inl b) = absurd (a.1 y b)
  both (inr a) (inr b) = a.0 ∙ sym b.0

-- of edges with the ends and labels of a family at most one stands, and with one edge more, where none of the family stood that it is of
pub one_edge : (family : NodeId → Edge) (s : set.FinSet edge_cmp) (x : Edge) (fresh : NodeId) → ((n : NodeId) → family n ≡ x → (n ≡ fresh) × ((m : NodeId) → set.contains s (family m) ≡ true → ⊥))
    → ((n m : NodeId) → set.contains s (family n) ≡ true → set.contains s (family m) ≡ true → n ≡ m) → (n m : NodeId) → set.contains (set.insert s x) (family n) ≡ true → set.contains (set.insert s x) (family m) ≡ true → n ≡ m
one_edge family s x fresh only one n m p q = one_more (λ k. set.contains s (family k) ≡ true) (λ k. set.contains (set.insert s x) (family k) ≡ true) fresh cases one n m p q where
  split : (k : NodeId) → (family k ≡ x) ⊎ (set.contains s (family k) ≡ true) → (set.contains s (family k) ≡ true) ⊎ ((k ≡ fresh) × ((y : NodeId) → set.contains s (family y) ≡ true → ⊥))
  split k (inl is) = inr (only k is)
  split k (inr was) = inl was

  cases : (k : NodeId) → set.contains (set.insert s x) (family k) ≡ true → (set.contains s (family k) ≡ true) ⊎ ((k ≡ fresh) × ((y : NodeId) → set.contains s (family y) ≡ true → ⊥))
  cases k h = split k (added_edge s x (family k) h)

-- a name stands once at most in a list, and with one name more that was not in it
abbrev pub StandsOnce : List (Name × NodeId) → Type 0
StandsOnce es = (name : Name) (i j : ℕ) (n m : NodeId) → slice_get es i ≡ Some (name, n) → slice_get es j ≡ Some (name, m) → i ≡ j

abbrev pair : Name → NodeId → Name × NodeId
pair name n = (name, n)

pub one_name : (es : List (Name × NodeId)) (new : Name) (id : NodeId) → find_name es new ≡ None → StandsOnce es → StandsOnce (es ++ (new, id) ∷ [])
one_name es new id absent one name i j n m p q =
    one_more (λ k. (x : NodeId) × (slice_get es k ≡ Some (name, x))) (λ k. (x : NodeId) × (slice_get (es ++ (new, id) ∷ []) k ≡ Some (name, x))) (length es) cases (λ k l a b. one name k l a.0 b.0 a.1 b.1) i j (n, p) (m, q)
  where
    none : name ≡ new → (k : ℕ) → (x : NodeId) × (slice_get es k ≡ Some (name, x)) → ⊥
    none same k h = found_at es k new h.0 (h.1 ∙ ap (λ t. Some (pair t h.0)) same) absent

    split : (k : ℕ) (x : NodeId) → (slice_get es k ≡ Some (name, x)) ⊎ ((k ≡ length es) × (pair new id ≡ pair name x)) → ((y : NodeId) × (slice_get es k ≡ Some (name, y))) ⊎ ((k ≡ length es) × ((l : ℕ) → (y : NodeId) × (slice_get es l ≡ Some (name, y)) → ⊥))
    split k x (inl was) = inl (x, was)
    split k x (inr (at, is)) = inr (at, none (sym (ap (λ (e : Name × NodeId). e.0) is)))

    cases : (k : ℕ) → (x : NodeId) × (slice_get (es ++ (new, id) ∷ []) k ≡ Some (name, x)) → ((y : NodeId) × (slice_get es k ≡ Some (name, y))) ⊎ ((k ≡ length es) × ((l : ℕ) → (y : NodeId) × (slice_get es l ≡ Some (name, y)) → ⊥))
    cases k h = split k h.0 (get_where es (new, id) k (name, h.0) h.1)
