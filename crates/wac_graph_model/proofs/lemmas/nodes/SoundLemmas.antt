-- The law of graphs holds after each step that adds something.
use Rattle.std.proofs.Common.{◌≡◌, ◌≢◌, ℕ, zero, suc, Bool, true, false, cond, List, [], ◌∷◌, ◌++◌, length, refl, ap, ◌∙◌, sym, subst, ◌==◌, Option, Some, None, IsSome, is_some, ◌⊎◌, inl, inr}
use Rattle.std.specs.Prelude.{slice_get, IsSomeAnd}
use Rattle.std.specs.Ordering.{nat_cmp}
use Rattle.std.specs.FinMap as map
use Rattle.std.specs.FinSet as set
use Rattle.std.proofs.lemmas.Bool.{eqb-true}
use Rattle.wac_types_shapes.specs.primitives.Name.{Name, same_name, find_name}
use Rattle.wac_types_collection.specs.collection.Collection.{Collection, holds_type, IsWellFormed}
use Rattle.wac_types_shapes.specs.shapes.Kinds.{kind_type}
use Rattle.wac_types_collection.specs.collection.Package.{PackageParts, HoldsPackage}
use Rattle.wac_types_shapes.specs.keys.Key.{Key}
use Rattle.wac_types_collection.proofs.lemmas.collection.Growth.{get_grown, get_where}
use Rattle.wac_types_shapes.specs.declared.shapes.component.ItemKind.{ItemKind}
use Rattle.wac_types_shapes.specs.declared.shapes.component.«Type».TheVariants as ty
use Rattle.wac_edges.specs.declared.edges.Edge.{Edge}
use Rattle.wac_edges.specs.declared.edges.Label.{Label}
use Rattle.wac_edges.specs.declared.edges.Label.TheVariants as label
use Rattle.wac_edges.specs.declared.node.NodeId.{NodeId}
use Rattle.wac_graph_model.specs.declared.nodes.packages.PackageId.{PackageId}
use Rattle.wac_graph_model.specs.declared.nodes.packages.Slot.{Slot}
use Rattle.wac_edges.specs.Edge.{edge_cmp, alias_edge, argument_edge}
use Rattle.wac_graph_model.specs.nodes.Graph as graph
use Rattle.wac_graph_model.specs.nodes.Graph.{Graph, GraphNode, node_at, package_at, package_in, export_at, exports_of, imports_of, IsAliasOf, IsArgumentOf, IsRegistered}
use Rattle.wac_graph_model.specs.nodes.Sound.{IsSound, IsInstance, IsAlias, IsTypeUnderName, Joins}
use Rattle.wac_graph_model.proofs.lemmas.nodes.Added.{by_eq, same_id, insert_same, insert_other, some_before, some_either, ImportIn, import_before, added_edge, new_edge, kept_edge, one_more, one_edge, one_name}
use Rattle.wac_graph_model.proofs.lemmas.nodes.JoinLemmas.{Extends, AreAlike, alike_itself, alike_exports, joins_kept, joins_alike, exports_same, joins_types, imports_of_instance}

abbrev entry : Name → NodeId → Name × NodeId
entry name n = (name, n)

there_or_not : (o : Option GraphNode) → o ≡ None → IsSome o → ⊥
there_or_not None is h = cc
there_or_not (Some n) is h = cc

some_is : (o : Option GraphNode) (n : GraphNode) → o ≡ Some n → IsSome o
some_is o n is = ap is_some is

some_same : (o : Option GraphNode) (a b : GraphNode) → o ≡ Some a → o ≡ Some b → a ≡ b
some_same o a b p q = cc

-- edges of two labels
pub argument_is_no_alias : (source target : NodeId) (position : ℕ) (from to : NodeId) (i : ℕ) → argument_edge source target position ≡ alias_edge from to i → ⊥
argument_is_no_alias source target position from to i is = let labels : label.Argument position ≡ label.Alias i = ap (λ (e : Edge). e.label) is in cc

-- what an argument and an alias edge say
argument_parts : (s t : NodeId) (i : ℕ) (source target : NodeId) (position : ℕ) → argument_edge s t i ≡ argument_edge source target position → (s ≡ source) × (t ≡ target) × (i ≡ position)
argument_parts s t i source target position is = (ap (λ (e : Edge). e.source) is, ap (λ (e : Edge). e.target) is, let labels : label.Argument i ≡ label.Argument position = ap (λ (e : Edge). e.label) is in cc)

alias_parts : (s t : NodeId) (i : ℕ) (source target : NodeId) (position : ℕ) → alias_edge s t i ≡ alias_edge source target position → (s ≡ source) × (t ≡ target) × (i ≡ position)
alias_parts s t i source target position is = (ap (λ (e : Edge). e.source) is, ap (λ (e : Edge). e.target) is, let labels : label.Alias i ≡ label.Alias position = ap (λ (e : Edge). e.label) is in cc)

-- an id of which a slot holds the package is of its generation
generation_is : (slot : Slot) (id : PackageId) (p : PackageParts) → package_in (Some slot) id ≡ Some p → id.generation ≡ slot.generation
generation_is slot id p at = split (slot.generation == id.generation) refl at where
  split : (b : Bool) → (slot.generation == id.generation) ≡ b → cond b slot.«package» None ≡ Some p → id.generation ≡ slot.generation
  split true is _ = sym (eqb-true slot.generation id.generation is)
  split false is wrong = cc

-- among edges with one argument more there is one for each import
pub one_argument-more : (edges : set.FinSet edge_cmp) (source target : NodeId) (position : ℕ) → ((other : NodeId) → set.contains edges (argument_edge other target position) ≡ true → ⊥)
    → ((consumer : NodeId) (i : ℕ) (n m : NodeId) → set.contains edges (argument_edge n consumer i) ≡ true → set.contains edges (argument_edge m consumer i) ≡ true → n ≡ m)
    → (consumer : NodeId) (i : ℕ) (n m : NodeId) → set.contains (set.insert edges (argument_edge source target position)) (argument_edge n consumer i) ≡ true → set.contains (set.insert edges (argument_edge source target position)) (argument_edge m consumer i) ≡ true → n ≡ m
one_argument-more edges source target position free one consumer i n m p q =
    one_edge (λ k. argument_edge k consumer i) edges (argument_edge source target position) source only (one consumer i) n m p q
  where
    only : (k : NodeId) → argument_edge k consumer i ≡ argument_edge source target position → (k ≡ source) × ((y : NodeId) → set.contains edges (argument_edge y consumer i) ≡ true → ⊥)
    only k is =
        let (from, to, at) = argument_parts k consumer i source target position is in
        (from, λ y h. free y (ap (λ t. set.contains edges (argument_edge y t position)) (sym to) ∙ (ap (λ j. set.contains edges (argument_edge y consumer j)) (sym at) ∙ h)))

pub one_argument-alias : (edges : set.FinSet edge_cmp) (source target : NodeId) (position : ℕ)
    → ((consumer : NodeId) (i : ℕ) (n m : NodeId) → set.contains edges (argument_edge n consumer i) ≡ true → set.contains edges (argument_edge m consumer i) ≡ true → n ≡ m)
    → (consumer : NodeId) (i : ℕ) (n m : NodeId) → set.contains (set.insert edges (alias_edge source target position)) (argument_edge n consumer i) ≡ true → set.contains (set.insert edges (alias_edge source target position)) (argument_edge m consumer i) ≡ true → n ≡ m
one_argument-alias edges source target position one consumer i n m p q =
    one_edge (λ k. argument_edge k consumer i) edges (alias_edge source target position) n (λ k is. absurd (argument_is_no_alias k consumer i source target position is)) (one consumer i) n m p q

-- and one alias of each export
pub one_alias-more : (edges : set.FinSet edge_cmp) (source target : NodeId) (position : ℕ) → ((other : NodeId) → set.contains edges (alias_edge source other position) ≡ true → ⊥)
    → ((instance : NodeId) (i : ℕ) (n m : NodeId) → set.contains edges (alias_edge instance n i) ≡ true → set.contains edges (alias_edge instance m i) ≡ true → n ≡ m)
    → (instance : NodeId) (i : ℕ) (n m : NodeId) → set.contains (set.insert edges (alias_edge source target position)) (alias_edge instance n i) ≡ true → set.contains (set.insert edges (alias_edge source target position)) (alias_edge instance m i) ≡ true → n ≡ m
one_alias-more edges source target position free one instance i n m p q =
    one_edge (λ k. alias_edge instance k i) edges (alias_edge source target position) target only (one instance i) n m p q
  where
    only : (k : NodeId) → alias_edge instance k i ≡ alias_edge source target position → (k ≡ target) × ((y : NodeId) → set.contains edges (alias_edge instance y i) ≡ true → ⊥)
    only k is =
        let (from, to, at) = alias_parts instance k i source target position is in
        (to, λ y h. free y (ap (λ x. set.contains edges (alias_edge x y position)) (sym from) ∙ (ap (λ j. set.contains edges (alias_edge instance y j)) (sym at) ∙ h)))

pub one_alias-argument : (edges : set.FinSet edge_cmp) (source target : NodeId) (position : ℕ)
    → ((instance : NodeId) (i : ℕ) (n m : NodeId) → set.contains edges (alias_edge instance n i) ≡ true → set.contains edges (alias_edge instance m i) ≡ true → n ≡ m)
    → (instance : NodeId) (i : ℕ) (n m : NodeId) → set.contains (set.insert edges (argument_edge source target position)) (alias_edge instance n i) ≡ true → set.contains (set.insert edges (argument_edge source target position)) (alias_edge instance m i) ≡ true → n ≡ m
one_alias-argument edges source target position one instance i n m p q =
    one_edge (λ k. alias_edge instance k i) edges (argument_edge source target position) n (λ k is. absurd (argument_is_no_alias source target position instance k i (sym is))) (one instance i) n m p q

-- what stands under a name still does in a longer list
find_name-prefix : (es more : List (Name × NodeId)) (name : Name) (n : NodeId) → find_name es name ≡ Some n → find_name (es ++ more) name ≡ Some n
find_name-prefix [] more name n at = cc
find_name-prefix (e ∷ es) more name n at = split (same_name name e.0) (find_name-prefix es more name n) at where
  split : (b : Bool) → (find_name es name ≡ Some n → find_name (es ++ more) name ≡ Some n) → cond b (Some e.1) (find_name es name) ≡ Some n → cond b (Some e.1) (find_name (es ++ more) name) ≡ Some n
  split true rest h = h
  split false rest h = rest h

module _ (g : Graph) (s : IsSound g) where
  -- types more
  pub sound_types : (c : Collection) → IsWellFormed g.types → Extends g.types c → IsSound (record g { types = c })
  sound_types c well more = record {
    ends = s.ends;
    joins = λ e a b stands from to. joins_types g s c well more e.label a b (s.held e.source a from) (s.joins e a b stands from to);
    exported = s.exported;
    held = λ n node there. more.held (kind_type node.item_kind) (s.held n node there);
    packages = λ id p there.
        let h = s.packages id p there in
        (more.held (ty.World p.world) h.0, more.held (ty.Interface p.instance_type) h.1, λ n. ap (λ es. find_name es n) (more.interfaces p.instance_type h.1) ∙ h.2 n ∙ ap (λ es. find_name es n) (sym (more.exports p.world h.0)));
    instances = λ n node there is. let i = s.instances n node there is in record { id = i.id; parts = i.parts; owned = i.owned; registered = i.registered; typed = i.typed };
    aliases = λ n node there is.
        let a = s.aliases n node there is in
        record {
          instance = a.instance;
          source = a.source;
          position = a.position;
          name = a.name;
          aliased = a.aliased;
          there = a.there;
          exported = ap (λ es. slice_get es a.position) (exports_same c g a.source more (s.held a.instance a.source a.there)) ∙ a.exported;
          owned = a.owned;
        };
    one_argument = s.one_argument;
    one_alias = s.one_alias;
    one_source = s.one_source;
    one_import = s.one_import;
    one_definition = s.one_definition;
    one_export = s.one_export;
    one_package = s.one_package;
    first_names = s.first_names;
    definitions = s.definitions;
    vacant = s.vacant;
    vacant_once = s.vacant_once;
  }

  -- a slot more
  pub package_before : (slot : Slot) (id : PackageId) (p : PackageParts) → package_at g id ≡ Some p → package_at (record g { slots = g.slots ++ slot ∷ [] }) id ≡ Some p
  package_before slot id p there = split (slice_get g.slots id.slot) refl there where
    split : (o : Option Slot) → slice_get g.slots id.slot ≡ o → package_in o id ≡ Some p → package_in (slice_get (g.slots ++ slot ∷ []) id.slot) id ≡ Some p
    split None is none = cc
    split (Some x) is at = ap (λ o. package_in o id) (get_grown g.slots slot id.slot x is) ∙ at

  pub package_after : (slot : Slot) (id : PackageId) (p : PackageParts) → package_at (record g { slots = g.slots ++ slot ∷ [] }) id ≡ Some p → (package_at g id ≡ Some p) ⊎ ((id.slot ≡ length g.slots) × (package_in (Some slot) id ≡ Some p))
  package_after slot id p there = split g.slots id.slot there where
    split : (xs : List Slot) (k : ℕ) → package_in (slice_get (xs ++ slot ∷ []) k) id ≡ Some p → (package_in (slice_get xs k) id ≡ Some p) ⊎ ((k ≡ length xs) × (package_in (Some slot) id ≡ Some p))
    split [] zero at = inr (refl, at)
    split [] (suc k) at = inl at
    split (x ∷ xs) zero at = inl at
    split (x ∷ xs) (suc k) at = one (split xs k at) where
      one : (package_in (slice_get xs k) id ≡ Some p) ⊎ ((k ≡ length xs) × (package_in (Some slot) id ≡ Some p)) → (package_in (slice_get xs k) id ≡ Some p) ⊎ ((suc k ≡ suc (length xs)) × (package_in (Some slot) id ≡ Some p))
      one (inl h) = inl h
      one (inr (a, b)) = inr (ap suc a, b)

  -- no package is registered under the key of the slot's
  pub sound_slot : (slot : Slot) → ((id : PackageId) (p : PackageParts) → package_in (Some slot) id ≡ Some p → HoldsPackage g.types p × ((other : PackageId) → IsRegistered g (p.name, p.version) other → ⊥)) → IsSound (record g { slots = g.slots ++ slot ∷ [] })
  sound_slot slot holds = record {
    ends = s.ends;
    joins = λ e a b stands from to. joins_kept g more e.label a b a b (alike_itself a) (alike_itself b) refl (λ is. same_imports b (s.instances e.target b to is)) (λ i x _ fits. fits) (s.joins e a b stands from to);
    exported = s.exported;
    held = s.held;
    packages = λ id p there. split id p (package_after slot id p there);
    instances = λ n node there is. still node (s.instances n node there is);
    aliases = λ n node there is. let a = s.aliases n node there is in record { instance = a.instance; source = a.source; position = a.position; name = a.name; aliased = a.aliased; there = a.there; exported = a.exported; owned = a.owned };
    one_argument = s.one_argument;
    one_alias = s.one_alias;
    one_source = s.one_source;
    one_import = s.one_import;
    one_definition = s.one_definition;
    one_export = s.one_export;
    one_package = λ key id other p q. one_more (IsRegistered g key) (IsRegistered more key) (record { slot = length g.slots; generation = slot.generation }) (cases key) (s.one_package key) id other p q;
    first_names = s.first_names;
    definitions = s.definitions;
    vacant = λ i k at. some_grown k (slice_get g.slots k) refl (s.vacant i k at);
    vacant_once = s.vacant_once;
  } where
    more : Graph
    more = record g { slots = g.slots ++ slot ∷ [] }

    some_grown : (k : ℕ) (o : Option Slot) → slice_get g.slots k ≡ o → IsSomeAnd o (λ x. x.«package» ≡ None) → IsSomeAnd (slice_get (g.slots ++ slot ∷ []) k) (λ x. x.«package» ≡ None)
    some_grown k None is h = absurd h
    some_grown k (Some x) is h = subst (λ o. IsSomeAnd o (λ y. y.«package» ≡ None)) (sym (get_grown g.slots slot k x is)) h

    still : (node : GraphNode) → IsInstance g node → IsInstance (record g { slots = g.slots ++ slot ∷ [] }) node
    still node i = record { id = i.id; parts = i.parts; owned = i.owned; registered = package_before slot i.id i.parts i.registered; typed = i.typed }

    same_imports : (node : GraphNode) → IsInstance g node → imports_of (record g { slots = g.slots ++ slot ∷ [] }) node ≡ imports_of g node
    same_imports node i = imports_of_instance (record g { slots = g.slots ++ slot ∷ [] }) node (still node i) ∙ sym (imports_of_instance g node i)

    split : (id : PackageId) (p : PackageParts) → (package_at g id ≡ Some p) ⊎ ((id.slot ≡ length g.slots) × (package_in (Some slot) id ≡ Some p)) → HoldsPackage g.types p
    split id p (inl was) = s.packages id p was
    split id p (inr (_, now)) = (holds id p now).0

    new_id : (id : PackageId) (p : PackageParts) → id.slot ≡ length g.slots → package_in (Some slot) id ≡ Some p → id ≡ record { slot = length g.slots; generation = slot.generation }
    new_id id p at now = let same = generation_is slot id p now in λ j. record { slot = at j; generation = same j }

    either : (key : Key) (id : PackageId) (p : PackageParts) → (p.name, p.version) ≡ key → (package_at g id ≡ Some p) ⊎ ((id.slot ≡ length g.slots) × (package_in (Some slot) id ≡ Some p))
        → IsRegistered g key id ⊎ ((id ≡ record { slot = length g.slots; generation = slot.generation }) × ((other : PackageId) → IsRegistered g key other → ⊥))
    either key id p is (inl was) = inl (p, was, is)
    either key id p is (inr (at, now)) = inr (new_id id p at now, λ other r. (holds id p now).1 other (subst (λ k. IsRegistered g k other) (sym is) r))

    cases : (key : Key) (id : PackageId) → IsRegistered (record g { slots = g.slots ++ slot ∷ [] }) key id → IsRegistered g key id ⊎ ((id ≡ record { slot = length g.slots; generation = slot.generation }) × ((other : PackageId) → IsRegistered g key other → ⊥))
    cases key id (p, there, is) = either key id p is (package_after slot id p there)

  -- an argument more, for an import that is not satisfied
  pub sound_argument : (source target : NodeId) (position : ℕ) (given consumer : GraphNode) → node_at g source ≡ Some given → node_at g target ≡ Some consumer → Joins g (label.Argument position) given consumer
      → ((other : NodeId) → IsArgumentOf g target position other → ⊥) → IsSound (record g { edges = set.insert g.edges (argument_edge source target position) })
  sound_argument source target position given consumer from to fits free = record {
    ends = λ e stands. ends e (added_edge g.edges (argument_edge source target position) e stands);
    joins = λ e a b stands p q. joins e a b p q (added_edge g.edges (argument_edge source target position) e stands);
    exported = s.exported;
    held = s.held;
    packages = s.packages;
    instances = λ n node there is. let i = s.instances n node there is in record { id = i.id; parts = i.parts; owned = i.owned; registered = i.registered; typed = i.typed };
    aliases = λ n node there is.
        let a = s.aliases n node there is in
        record {
          instance = a.instance;
          source = a.source;
          position = a.position;
          name = a.name;
          aliased = kept_edge g.edges (argument_edge source target position) (alias_edge (a.instance) n a.position) a.aliased;
          there = a.there;
          exported = a.exported;
          owned = a.owned;
        };
    one_argument = one_argument-more g.edges source target position free s.one_argument;
    one_alias = one_alias-argument g.edges source target position s.one_alias;
    one_source = λ n x y i j p q. s.one_source n x y i j (old_alias n x i (added_edge g.edges (argument_edge source target position) (alias_edge x n i) p)) (old_alias n y j (added_edge g.edges (argument_edge source target position) (alias_edge y n j) q));
    one_import = s.one_import;
    one_definition = s.one_definition;
    one_export = s.one_export;
    one_package = s.one_package;
    first_names = s.first_names;
    definitions = s.definitions;
    vacant = s.vacant;
    vacant_once = s.vacant_once;
  } where
    more : Graph
    more = record g { edges = set.insert g.edges (argument_edge source target position) }

    ends : (e : Edge) → (e ≡ argument_edge source target position) ⊎ (set.contains g.edges e ≡ true) → IsSome (node_at g e.source) × IsSome (node_at g e.target)
    ends e (inl is) = (rw is (some_is (node_at g source) given from), rw is (some_is (node_at g target) consumer to))
    ends e (inr was) = s.ends e was

    as_before : (l : Label) (a b : GraphNode) → Joins g l a b → Joins more l a b
    as_before l a b h = joins_kept g more l a b a b (alike_itself a) (alike_itself b) refl (λ _. refl) (λ i x _ fits. fits) h

    joins : (e : Edge) (a b : GraphNode) → node_at g e.source ≡ Some a → node_at g e.target ≡ Some b → (e ≡ argument_edge source target position) ⊎ (set.contains g.edges e ≡ true) → Joins more e.label a b
    joins e a b p q (inr was) = as_before e.label a b (s.joins e a b was p q)
    joins e a b p q (inl is) =
        let a_is : a ≡ given = some_same (map.get g.nodes e.source.0) a given p (ap (λ (x : Edge). map.get g.nodes x.source.0) is ∙ from) in
        let b_is : b ≡ consumer = some_same (map.get g.nodes e.target.0) b consumer q (ap (λ (x : Edge). map.get g.nodes x.target.0) is ∙ to) in
        as_before e.label a b (subst (λ (x : Edge). Joins g x.label a b) (sym is) (subst (λ x. Joins g (label.Argument position) x b) (sym a_is) (subst (λ x. Joins g (label.Argument position) given x) (sym b_is) fits)))

    old_alias : (n x : NodeId) (i : ℕ) → (alias_edge x n i ≡ argument_edge source target position) ⊎ (set.contains g.edges (alias_edge x n i) ≡ true) → IsAliasOf g x i n
    old_alias n x i (inl wrong) = absurd (argument_is_no_alias source target position x n i (sym wrong))
    old_alias n x i (inr was) = was

  -- a node more, and perhaps one edge that makes it an alias
  module _ (n : NodeId) (node : GraphNode) (next : ℕ) (vacant : node_at g n ≡ None) (held : holds_type g.types (kind_type node.item_kind) ≡ true) (first : node.first_name ≡ None) where
    abbrev with_node : set.FinSet edge_cmp → Graph
    with_node edges = record g { nodes = map.insert g.nodes n.0 node; next = next; edges = edges }

    is_other : (m : NodeId) → IsSome (node_at g m) → m.0 ≢ n.0
    is_other m there same = there_or_not (node_at g m) (ap (λ k. map.get g.nodes k) same ∙ vacant) there

    still_there : (m : NodeId) → IsSome (node_at g m) → IsSome (map.get (map.insert g.nodes n.0 node) m.0)
    still_there m there = ap is_some (insert_other g.nodes n.0 m.0 node (is_other m there)) ∙ there

    now_there : IsSome (map.get (map.insert g.nodes n.0 node) n.0)
    now_there = ap is_some (insert_same g.nodes n.0 node)

    -- facts of all nodes
    each_node : (P : NodeId → GraphNode → Type 0) → P n node → ((m : NodeId) (other : GraphNode) → m.0 ≢ n.0 → node_at g m ≡ Some other → P m other)
        → (m : NodeId) (other : GraphNode) → map.get (map.insert g.nodes n.0 node) m.0 ≡ Some other → P m other
    each_node P new old m other there = by_eq m.0 n.0
        (λ same.
        let is : node ≡ other = let e : map.get (map.insert g.nodes n.0 node) n.0 ≡ Some other = ap (map.get (map.insert g.nodes n.0 node)) (sym same) ∙ there in some_same (map.get (map.insert g.nodes n.0 node) n.0) node other (insert_same g.nodes n.0 node) e in
        subst (λ k. P k other) (sym (same_id m n same)) (subst (λ x. P n x) is new))
        (λ differ. old m other differ (sym (insert_other g.nodes n.0 m.0 node differ) ∙ there))

    -- a first name is a definition's that was there
    old_first_names : (m : NodeId) (other : GraphNode) (name : Name) → map.get (map.insert g.nodes n.0 node) m.0 ≡ Some other → other.first_name ≡ Some name → (other.kind ≡ graph.definition) × (export_at g name ≡ Some m)
    old_first_names m other name there = each_node (λ k x. x.first_name ≡ Some name → (x.kind ≡ graph.definition) × (export_at g name ≡ Some k)) (λ is. absurd (no_name (sym first ∙ is))) (λ k x _ at is. s.first_names k x name at is) m other there where
      no_name : None ≡ Some name → ⊥
      no_name h = cc

    old_definitions : (node.kind ≡ graph.definition → ⊥) → (m : NodeId) (other : GraphNode) → map.get (map.insert g.nodes n.0 node) m.0 ≡ Some other → other.kind ≡ graph.definition → IsTypeUnderName other
    old_definitions no_definition = each_node (λ _ x. x.kind ≡ graph.definition → IsTypeUnderName x) (λ is. absurd (no_definition is)) (λ k x _ at is. s.definitions k x at is)

    old_instance : (edges : set.FinSet edge_cmp) (other : GraphNode) → IsInstance g other → IsInstance (with_node edges) other
    old_instance edges other i = record { id = i.id; parts = i.parts; owned = i.owned; registered = i.registered; typed = i.typed }

    old_alias : (edges : set.FinSet edge_cmp) → ((e : Edge) → set.contains g.edges e ≡ true → set.contains edges e ≡ true) → (m : NodeId) (other : GraphNode) → IsAlias g m other → IsAlias (with_node edges) m other
    old_alias edges more m other a = record {
      instance = a.instance;
      source = a.source;
      position = a.position;
      name = a.name;
      aliased = more (alias_edge (a.instance) m a.position) a.aliased;
      there = insert_other g.nodes n.0 (a.instance).0 node (is_other a.instance (some_is (node_at g a.instance) a.source a.there)) ∙ a.there;
      exported = a.exported;
      owned = a.owned;
    }

    old_exports : (i : ℕ) (name : Name) (m : NodeId) → slice_get g.exports i ≡ Some (name, m) → IsSome (map.get (map.insert g.nodes n.0 node) m.0)
    old_exports i name m at = still_there m (s.exported i name m at)

    old_ends : (e : Edge) → set.contains g.edges e ≡ true → IsSome (map.get (map.insert g.nodes n.0 node) e.source.0) × IsSome (map.get (map.insert g.nodes n.0 node) e.target.0)
    old_ends e stands = let h = s.ends e stands in (still_there e.source h.0, still_there e.target h.1)

    -- an edge that stood joins what it joined
    old_node : (m : NodeId) (other : GraphNode) → IsSome (node_at g m) → map.get (map.insert g.nodes n.0 node) m.0 ≡ Some other → node_at g m ≡ Some other
    old_node m other there at = sym (insert_other g.nodes n.0 m.0 node (is_other m there)) ∙ at

    as_before : (edges : set.FinSet edge_cmp) (l : Label) (a b : GraphNode) → Joins g l a b → Joins (with_node edges) l a b
    as_before edges l a b h = joins_kept g (with_node edges) l a b a b (alike_itself a) (alike_itself b) refl (λ _. refl) (λ i x _ fits. fits) h

    old_joins : (edges : set.FinSet edge_cmp) (e : Edge) (a b : GraphNode) → set.contains g.edges e ≡ true → map.get (map.insert g.nodes n.0 node) e.source.0 ≡ Some a → map.get (map.insert g.nodes n.0 node) e.target.0 ≡ Some b → Joins (with_node edges) e.label a b
    old_joins edges e a b stands from to =
        let h = s.ends e stands in
        as_before edges e.label a b (s.joins e a b stands (old_node e.source a h.0 from) (old_node e.target b h.1 to))

    -- a type is defined once where the new node is no definition
    old_definition : (node.kind ≡ graph.definition → ⊥) → (kind : ItemKind) (m o : NodeId) → IsSomeAnd (map.get (map.insert g.nodes n.0 node) m.0) (λ x. (x.kind ≡ graph.definition) × (x.item_kind ≡ kind))
        → IsSomeAnd (map.get (map.insert g.nodes n.0 node) o.0) (λ x. (x.kind ≡ graph.definition) × (x.item_kind ≡ kind)) → m ≡ o
    old_definition other kind m o p q = s.one_definition kind m o (was m p) (was o q) where
      was : (k : NodeId) → IsSomeAnd (map.get (map.insert g.nodes n.0 node) k.0) (λ x. (x.kind ≡ graph.definition) × (x.item_kind ≡ kind)) → IsSomeAnd (map.get g.nodes k.0) (λ x. (x.kind ≡ graph.definition) × (x.item_kind ≡ kind))
      was k h = some_before (λ x. (x.kind ≡ graph.definition) × (x.item_kind ≡ kind)) g.nodes n node k (λ is. absurd (other is.0)) h

    pub sound_node : node.kind ≡ graph.instantiation → IsInstance g node → IsSound (with_node g.edges)
    sound_node kind instance = record {
      ends = old_ends;
      joins = old_joins g.edges;
      exported = old_exports;
      held = each_node (λ _ other. holds_type g.types (kind_type other.item_kind) ≡ true) held (λ m other _ there. s.held m other there);
      packages = s.packages;
      instances = each_node (λ _ other. other.kind ≡ graph.instantiation → IsInstance (with_node g.edges) other) (λ _. old_instance g.edges node instance) (λ m other _ there is. old_instance g.edges other (s.instances m other there is));
      aliases = each_node (λ m other. other.kind ≡ graph.alias → IsAlias (with_node g.edges) m other) (λ wrong. absurd (two_kinds kind wrong)) (λ m other _ there is. old_alias g.edges (λ _ h. h) m other (s.aliases m other there is));
      one_argument = s.one_argument;
      one_alias = s.one_alias;
      one_source = s.one_source;
      one_import = λ name m o p q. s.one_import name m o (import_before g.nodes n node name m (λ is. absurd (no_import kind is)) p) (import_before g.nodes n node name o (λ is. absurd (no_import kind is)) q);
      one_definition = old_definition (λ wrong. no_definition kind wrong);
      one_export = s.one_export;
      one_package = s.one_package;
      first_names = old_first_names;
      definitions = old_definitions (λ wrong. no_definition kind wrong);
      vacant = s.vacant;
      vacant_once = s.vacant_once;
    } where
      two_kinds : {k : graph.Kind} → k ≡ graph.instantiation → k ≡ graph.alias → ⊥
      two_kinds a b = cc

      no_definition : {k : graph.Kind} → k ≡ graph.instantiation → k ≡ graph.definition → ⊥
      no_definition a b = cc

      no_import : {k : graph.Kind} {name : Name} → k ≡ graph.instantiation → k ≡ graph.import name → ⊥
      no_import a b = cc

    -- the new node imports a name that no other imports
    pub sound_import : (name : Name) → node.kind ≡ graph.import name → ((m : NodeId) → ImportIn g.nodes name m → ⊥) → IsSound (with_node g.edges)
    sound_import name kind free = record {
      ends = old_ends;
      joins = old_joins g.edges;
      exported = old_exports;
      held = each_node (λ _ other. holds_type g.types (kind_type other.item_kind) ≡ true) held (λ m other _ there. s.held m other there);
      packages = s.packages;
      instances = each_node (λ _ other. other.kind ≡ graph.instantiation → IsInstance (with_node g.edges) other) (λ wrong. absurd (no_instance wrong kind)) (λ m other _ there is. old_instance g.edges other (s.instances m other there is));
      aliases = each_node (λ m other. other.kind ≡ graph.alias → IsAlias (with_node g.edges) m other) (λ wrong. absurd (no_alias wrong kind)) (λ m other _ there is. old_alias g.edges (λ _ h. h) m other (s.aliases m other there is));
      one_argument = s.one_argument;
      one_alias = s.one_alias;
      one_source = s.one_source;
      one_import = λ other x y p q. one_more (ImportIn g.nodes other) (ImportIn (map.insert g.nodes n.0 node) other) n (cases other) (s.one_import other) x y p q;
      one_definition = old_definition (λ wrong. no_definition wrong kind);
      one_export = s.one_export;
      one_package = s.one_package;
      first_names = old_first_names;
      definitions = old_definitions (λ wrong. no_definition wrong kind);
      vacant = s.vacant;
      vacant_once = s.vacant_once;
    } where
      no_instance : {k : graph.Kind} → k ≡ graph.instantiation → k ≡ graph.import name → ⊥
      no_instance a b = cc

      no_alias : {k : graph.Kind} → k ≡ graph.alias → k ≡ graph.import name → ⊥
      no_alias a b = cc

      no_definition : {k : graph.Kind} → k ≡ graph.definition → k ≡ graph.import name → ⊥
      no_definition a b = cc

      same_import : {k : graph.Kind} (other : Name) → k ≡ graph.import name → k ≡ graph.import other → other ≡ name
      same_import other a b = let e : graph.import other ≡ graph.import name = sym b ∙ a in cc

      split : (other : Name) (x : NodeId) → ImportIn g.nodes other x ⊎ ((x ≡ n) × (node.kind ≡ graph.import other)) → ImportIn g.nodes other x ⊎ ((x ≡ n) × ((y : NodeId) → ImportIn g.nodes other y → ⊥))
      split other x (inl was) = inl was
      split other x (inr (same, is)) = inr (same, λ y h. free y (subst (λ k. ImportIn g.nodes k y) (same_import other kind is) h))

      cases : (other : Name) (x : NodeId) → ImportIn (map.insert g.nodes n.0 node) other x → ImportIn g.nodes other x ⊎ ((x ≡ n) × ((y : NodeId) → ImportIn g.nodes other y → ⊥))
      cases other x h = split other x (some_either (λ k. k.kind ≡ graph.import other) g.nodes n node x h)

    -- the new node is the alias of an export that had none
    pub sound_alias : (instance : NodeId) (source : GraphNode) (position : ℕ) (name : Name) → node.kind ≡ graph.alias → node.owner ≡ source.owner → node_at g instance ≡ Some source → slice_get (exports_of g source) position ≡ Some (name, node.item_kind)
        → ((other : NodeId) → IsAliasOf g instance position other → ⊥) → IsSound (with_node (set.insert g.edges (alias_edge instance n position)))
    sound_alias instance source position name kind owned there exported free =
        let more : set.FinSet edge_cmp = set.insert g.edges (alias_edge instance n position) in
        record {
          ends = λ e stands. ends e (added_edge g.edges (alias_edge instance n position) e stands);
          joins = λ e a b stands p q. joins e a b p q (added_edge g.edges (alias_edge instance n position) e stands);
          exported = old_exports;
          held = each_node (λ _ other. holds_type g.types (kind_type other.item_kind) ≡ true) held (λ m other _ there. s.held m other there);
          packages = s.packages;
          instances = each_node (λ _ other. other.kind ≡ graph.instantiation → IsInstance (with_node more) other) (λ wrong. absurd (two_kinds wrong kind)) (λ m other _ there is. old_instance more other (s.instances m other there is));
          aliases = each_node (λ m other. other.kind ≡ graph.alias → IsAlias (with_node more) m other)
              (λ _. record {
                instance = instance;
                source = source;
                position = position;
                name = name;
                aliased = new_edge g.edges (alias_edge instance n position);
                there = source_there;
                exported = exported;
                owned = owned;
              })
              (λ m other _ other_there is. old_alias more (kept_edge g.edges (alias_edge instance n position)) m other (s.aliases m other other_there is));
          one_argument = one_argument-alias g.edges instance n position s.one_argument;
          one_alias = one_alias-more g.edges instance n position free s.one_alias;
          one_source = λ m x y i j p q. one m x y i j (added_edge g.edges (alias_edge instance n position) (alias_edge x m i) p) (added_edge g.edges (alias_edge instance n position) (alias_edge y m j) q);
          one_import = λ other m o p q. s.one_import other m o (import_before g.nodes n node other m (λ is. absurd (no_import is kind)) p) (import_before g.nodes n node other o (λ is. absurd (no_import is kind)) q);
          one_definition = old_definition (λ wrong. no_definition wrong kind);
          one_export = s.one_export;
          one_package = s.one_package;
          first_names = old_first_names;
          definitions = old_definitions (λ wrong. no_definition wrong kind);
          vacant = s.vacant;
          vacant_once = s.vacant_once;
        } where
          two_kinds : {k : graph.Kind} → k ≡ graph.instantiation → k ≡ graph.alias → ⊥
          two_kinds a b = cc

          no_definition : {k : graph.Kind} → k ≡ graph.definition → k ≡ graph.alias → ⊥
          no_definition a b = cc

          no_import : {k : graph.Kind} {other : Name} → k ≡ graph.import other → k ≡ graph.alias → ⊥
          no_import a b = cc

          source_there : map.get (map.insert g.nodes n.0 node) instance.0 ≡ Some source
          source_there = insert_other g.nodes n.0 instance.0 node (is_other instance (some_is (node_at g instance) source there)) ∙ there

          ends : (e : Edge) → (e ≡ alias_edge instance n position) ⊎ (set.contains g.edges e ≡ true) → IsSome (map.get (map.insert g.nodes n.0 node) e.source.0) × IsSome (map.get (map.insert g.nodes n.0 node) e.target.0)
          ends e (inl is) = (rw is (still_there instance (some_is (node_at g instance) source there)), rw is now_there)
          ends e (inr was) = old_ends e was

          -- the new edge joins the source and its alias
          new_joins : Joins g (label.Alias position) source node
          new_joins = (kind, subst (λ o. IsSomeAnd o (λ e. node.item_kind ≡ e.1)) (sym exported) refl)

          joins : (e : Edge) (a b : GraphNode) → map.get (map.insert g.nodes n.0 node) e.source.0 ≡ Some a → map.get (map.insert g.nodes n.0 node) e.target.0 ≡ Some b → (e ≡ alias_edge instance n position) ⊎ (set.contains g.edges e ≡ true)
              → Joins (with_node (set.insert g.edges (alias_edge instance n position))) e.label a b
          joins e a b p q (inr was) = old_joins (set.insert g.edges (alias_edge instance n position)) e a b was p q
          joins e a b p q (inl is) =
              let nodes : map.FinMap nat_cmp GraphNode = map.insert g.nodes n.0 node in
              let a_is : a ≡ source = some_same (map.get nodes e.source.0) a source p (ap (λ (x : Edge). map.get nodes x.source.0) is ∙ source_there) in
              let b_is : b ≡ node = some_same (map.get nodes e.target.0) b node q (ap (λ (x : Edge). map.get nodes x.target.0) is ∙ insert_same g.nodes n.0 node) in
              as_before (set.insert g.edges (alias_edge instance n position)) e.label a b
              (subst (λ (x : Edge). Joins g x.label a b) (sym is) (subst (λ x. Joins g (label.Alias position) x b) (sym a_is) (subst (λ x. Joins g (label.Alias position) source x) (sym b_is) new_joins)))

          -- the new node had no edges
          none_before : (x : NodeId) (i : ℕ) → set.contains g.edges (alias_edge x n i) ≡ true → ⊥
          none_before x i h = there_or_not (node_at g n) vacant (s.ends (alias_edge x n i) h).1

          parts : (x m : NodeId) (i : ℕ) → alias_edge x m i ≡ alias_edge instance n position → (x ≡ instance) × (m ≡ n) × (i ≡ position)
          parts x m i is = let (from, to, at) = alias_parts x m i instance n position is in (from, to, at)

          one : (m x y : NodeId) (i j : ℕ) → (alias_edge x m i ≡ alias_edge instance n position) ⊎ (set.contains g.edges (alias_edge x m i) ≡ true) → (alias_edge y m j ≡ alias_edge instance n position) ⊎ (set.contains g.edges (alias_edge y m j) ≡ true) → (x ≡ y) × (i ≡ j)
          one m x y i j (inl p) (inl q) = let a = parts x m i p in let b = parts y m j q in (a.0 ∙ sym b.0, a.2 ∙ sym b.2)
          one m x y i j (inl p) (inr q) = let a = parts x m i p in absurd (none_before y j (ap (λ (k : NodeId). set.contains g.edges (alias_edge y k j)) (sym a.1) ∙ q))
          one m x y i j (inr p) (inl q) = let a = parts y m j q in absurd (none_before x i (ap (λ (k : NodeId). set.contains g.edges (alias_edge x k i)) (sym a.1) ∙ p))
          one m x y i j (inr p) (inr q) = s.one_source m x y i j p q

  -- a node is exported by a further name
  pub sound_export : (n : NodeId) (node : GraphNode) (name : Name) → node_at g n ≡ Some node → export_at g name ≡ None → IsSound (record g { nodes = map.insert g.nodes n.0 (record node { export_name = Some name }); exports = g.exports ++ (name, n) ∷ [] })
  sound_export n node name there absent = record {
    ends = λ e stands. let h = s.ends e stands in (still e.source h.0, still e.target h.1);
    joins = λ e a b stands p q.
        let (a_was, a_had, a_like) = before e.source a p in
        let (b_was, b_had, b_like) = before e.target b q in
        joins_kept g more e.label a b a b (alike_itself a) (alike_itself b) refl (λ _. refl) (λ i x _ fits. fits) (joins_alike g e.label a_was b_was a b a_like b_like (s.joins e a_was b_was stands a_had b_had));
    exported = λ i other m at. listed other m (get_where g.exports (name, n) i (other, m) at);
    held = λ m other at. let (was, had, like) = before m other at in ap (λ k. holds_type g.types (kind_type k)) like.item ∙ s.held m was had;
    packages = s.packages;
    instances = λ m other at is. let (was, had, like) = before m other at in let i = s.instances m was had (sym like.kind ∙ is) in record { id = i.id; parts = i.parts; owned = like.owner ∙ i.owned; registered = i.registered; typed = like.item ∙ i.typed };
    aliases = λ m other at is.
        let (was, had, like) = before m other at in
        let a = s.aliases m was had (sym like.kind ∙ is) in
        alias m other was a like (after a.instance a.source a.there);
    one_argument = s.one_argument;
    one_alias = s.one_alias;
    one_source = s.one_source;
    one_import = λ other m o p q. s.one_import other m o (import_before g.nodes n named other m (was_import other) p) (import_before g.nodes n named other o (was_import other) q);
    one_definition = λ kind m o p q. s.one_definition kind m o (was_definition kind m p) (was_definition kind o q);
    one_export = one_name g.exports name n absent s.one_export;
    one_package = s.one_package;
    first_names = λ m other text at is.
        let (was, had, same_kind, same_first, _) = first_before m other at in
        let (kind, exported) = s.first_names m was text had (sym same_first ∙ is) in
        (same_kind ∙ kind, find_name-prefix g.exports ((name, n) ∷ []) text m exported);
    definitions = λ m other at is.
        let (was, had, same_kind, same_first, same_item) = first_before m other at in
        let d = s.definitions m was had (sym same_kind ∙ is) in
        record { defined = d.defined; name = d.name; typed = same_item ∙ d.typed; no_resource = d.no_resource; named = same_first ∙ d.named };
    vacant = s.vacant;
    vacant_once = s.vacant_once;
  } where
    named : GraphNode
    named = record node { export_name = Some name }

    more : Graph
    more = record g { nodes = map.insert g.nodes n.0 (record node { export_name = Some name }); exports = g.exports ++ (name, n) ∷ [] }

    was_import : (other : Name) → node.kind ≡ graph.import other → ImportIn g.nodes other n
    was_import other is = subst (λ o. IsSomeAnd o (λ x. x.kind ≡ graph.import other)) (sym there) is

    was_definition : (kind : ItemKind) (m : NodeId) → IsSomeAnd (map.get (map.insert g.nodes n.0 (record node { export_name = Some name })) m.0) (λ x. (x.kind ≡ graph.definition) × (x.item_kind ≡ kind))
        → IsSomeAnd (map.get g.nodes m.0) (λ x. (x.kind ≡ graph.definition) × (x.item_kind ≡ kind))
    was_definition kind m h = some_before (λ x. (x.kind ≡ graph.definition) × (x.item_kind ≡ kind)) g.nodes n named m (λ is. subst (λ o. IsSomeAnd o (λ x. (x.kind ≡ graph.definition) × (x.item_kind ≡ kind))) (sym there) is) h

    still : (m : NodeId) → IsSome (node_at g m) → IsSome (map.get (map.insert g.nodes n.0 (record node { export_name = Some name })) m.0)
    still m at = by_eq m.0 n.0 (λ same. ap is_some (ap (map.get (map.insert g.nodes n.0 named)) same ∙ insert_same g.nodes n.0 named)) (λ differ. ap is_some (insert_other g.nodes n.0 m.0 named differ) ∙ at)

    -- its kind and its first name are what they were
    first_before : (m : NodeId) (other : GraphNode) → map.get (map.insert g.nodes n.0 (record node { export_name = Some name })) m.0 ≡ Some other → (was : GraphNode) × (node_at g m ≡ Some was) × (other.kind ≡ was.kind) × (other.first_name ≡ was.first_name) × (other.item_kind ≡ was.item_kind)
    first_before m other at = by_eq m.0 n.0
        (λ same.
        let is : other ≡ named = some_same (map.get (map.insert g.nodes n.0 named) n.0) other named (ap (map.get (map.insert g.nodes n.0 named)) (sym same) ∙ at) (insert_same g.nodes n.0 named) in
        (node, ap (map.get g.nodes) same ∙ there, ap (λ (x : GraphNode). x.kind) is, ap (λ (x : GraphNode). x.first_name) is, ap (λ (x : GraphNode). x.item_kind) is))
        (λ differ. (other, sym (insert_other g.nodes n.0 m.0 named differ) ∙ at, refl, refl, refl))

    like_named : AreAlike (record node { export_name = Some name }) node
    like_named = record { kind = refl; item = refl; owner = refl }

    -- what a node was
    before : (m : NodeId) (other : GraphNode) → map.get (map.insert g.nodes n.0 (record node { export_name = Some name })) m.0 ≡ Some other → (was : GraphNode) × (node_at g m ≡ Some was) × AreAlike other was
    before m other at = by_eq m.0 n.0
        (λ same.
        let is : other ≡ named = some_same (map.get (map.insert g.nodes n.0 named) n.0) other named (ap (map.get (map.insert g.nodes n.0 named)) (sym same) ∙ at) (insert_same g.nodes n.0 named) in
        (node, ap (map.get g.nodes) same ∙ there, subst (λ x. AreAlike x node) (sym is) like_named))
        (λ differ. (other, sym (insert_other g.nodes n.0 m.0 named differ) ∙ at, alike_itself other))

    -- what a node is
    after : (m : NodeId) (was : GraphNode) → node_at g m ≡ Some was → (is : GraphNode) × (map.get (map.insert g.nodes n.0 (record node { export_name = Some name })) m.0 ≡ Some is) × AreAlike is was
    after m was had = by_eq m.0 n.0
        (λ same. (
          named,
          ap (map.get (map.insert g.nodes n.0 named)) same ∙ insert_same g.nodes n.0 named,
          subst (AreAlike named) (some_same (node_at g m) node was (ap (map.get g.nodes) same ∙ there) had) like_named,
        ))
        (λ differ. (was, insert_other g.nodes n.0 m.0 named differ ∙ had, alike_itself was))

    alias : (m : NodeId) (other was : GraphNode) (a : IsAlias g m was) → AreAlike other was → (is : GraphNode) × (map.get (map.insert g.nodes n.0 (record node { export_name = Some name })) (a.instance).0 ≡ Some is) × AreAlike is a.source
        → IsAlias (record g { nodes = map.insert g.nodes n.0 (record node { export_name = Some name }); exports = g.exports ++ (name, n) ∷ [] }) m other
    alias m other was a like (is, at, source_like) = record {
      instance = a.instance;
      source = is;
      position = a.position;
      name = a.name;
      aliased = a.aliased;
      there = at;
      exported = ap (λ es. slice_get es a.position) (alike_exports g is a.source source_like) ∙ a.exported ∙ ap (λ k. Some (a.name, k)) (sym like.item);
      owned = like.owner ∙ a.owned ∙ sym source_like.owner;
    }

    listed : (other : Name) (m : NodeId) {i : ℕ} → (slice_get g.exports i ≡ Some (other, m)) ⊎ ((i ≡ length g.exports) × (entry name n ≡ entry other m)) → IsSome (map.get (map.insert g.nodes n.0 (record node { export_name = Some name })) m.0)
    listed other m {i} (inl was) = still m (s.exported i other m was)
    listed other m (inr (_, is)) = still m (ap is_some (ap (λ (x : Name × NodeId). node_at g x.1) (sym is) ∙ there))
