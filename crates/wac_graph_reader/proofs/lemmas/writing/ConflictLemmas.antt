-- Conflicts, as the fields have them.
use Rattle.std.proofs.Common.{lit<, ◌≡◌, ℕ, zero, suc, ◌<◌, ◌≤◌, Bool, true, false, List, [], ◌∷◌, refl, ap, ◌∙◌, sym, subst, arith, Option, Some, None, IfSome, IfNone, IsSomeAnd, inr, length, String, Global, string_bytes}
use Rattle.std.specs.Prelude.{slice_get}
use Rattle.std.specs.Option.{option_map}
use Rattle.std.specs.Map.{lookup}
use Rattle.std.specs.Str.{bytes_eq}
use Rattle.slab.specs.Slab.{get}
use Rattle.wac_types_shapes.specs.primitives.Name.{Name, find_name}
use Rattle.wac_types_collection.specs.collection.Package.{PackageParts}
use Rattle.wac_types_shapes.specs.keys.Key.{Key}
use Rattle.wac_types_shapes.specs.declared.shapes.component.ItemKind.{ItemKind}
use Rattle.wac_graph_model.specs.declared.causes.errors.EncodeError.{EncodeError}
use Rattle.wac_graph_model.specs.declared.nodes.options.EncodeOptions.{EncodeOptions}
use Rattle.wac_graph_model.specs.declared.nodes.node.Node.{Node}
use Rattle.wac_edges.specs.declared.node.NodeId.{NodeId}
use Rattle.wac_graph_model.specs.declared.nodes.node.NodeKind.TheVariants as code
use Rattle.wac_graph_model.specs.nodes.Graph as graph
use Rattle.wac_edges.specs.Edge.{node_number}
use Rattle.wac_graph_model.specs.nodes.Graph.{Graph, GraphNode, node_at, package_of, imports_of}
use Rattle.wac_graph_model.specs.nodes.Nodes.{node_of, kind_of, names_of, satisfied, satisfied_at, has_position, Positions}
use Rattle.wac_graph_fields.specs.private.Fields.{Fields, graph_of, Invariant}
use Rattle.wac_edges.specs.Order.{IsAcyclic}
use Rattle.wac_graph_model.specs.causes.Cause.{IsConflict, IsFirstConflict, HasNoConflict, cause_of, conflict}
use Rattle.wac_graph_model.specs.private.causes.Search.{Clashes, IsFirstOf, IsLowest, IsRefused}
use Rattle.wac_graph_model.proofs.lemmas.causes.StandsLemmas.{stands_conflict}
use Rattle.wac_graph_model.proofs.lemmas.nodes.NodeLemmas.{lookup_text}
use Rattle.wac_graph_reader.proofs.lemmas.writing.EncodingLemmas.{node_is, none_past, by_lt}

entry_at : (o : Option (Name × ItemKind)) (name : Name) → option_map (λ e. e.0) o ≡ Some name → (kind : ItemKind) × (o ≡ Some (name, kind))
entry_at None name h = cc
entry_at (Some (text, kind)) name h = (kind, ap (λ (x : Name). let z : Name × ItemKind = (x, kind) in Some z) (of_some text name h)) where
  of_some : (x y : Name) → Some x ≡ Some y → x ≡ y
  of_some x y e = cc

same_text : (o : Option (Name × ItemKind)) (name text : Name) (kind : ItemKind) → option_map (λ e. e.0) o ≡ Some name → o ≡ Some (text, kind) → text ≡ name
same_text o name text kind named asked = let e : Some text ≡ Some name = sym (ap (option_map (λ x. x.0)) asked) ∙ named in cc

-- the node of the import's name, where its position is not satisfied
module _ (satisfied_in : ℕ → Bool) (imports : List (Name × ItemKind)) (entries : List (String Global × NodeId)) (i : ℕ) (name : Name) (named : option_map (λ e. e.0) (slice_get imports i) ≡ Some name) where
  pub clash_some : satisfied_in i ≡ false → (o : Option NodeId) → o ≡ lookup (λ k. bytes_eq name (string_bytes k)) entries → IfSome o (λ node. Clashes satisfied_in imports (names_of entries) i node)
  clash_some unset None found = tt
  clash_some unset (Some node) found = let (kind, at) = entry_at (slice_get imports i) name named in record {
    name = name;
    kind = kind;
    asked = at;
    unset = unset;
    imported = lookup_text entries name ∙ sym found;
  }

  pub clash_none : (o : Option NodeId) → o ≡ lookup (λ k. bytes_eq name (string_bytes k)) entries → IfNone o ((node : NodeId) → Clashes satisfied_in imports (names_of entries) i node → ⊥)
  clash_none (Some node) found = tt
  clash_none None found = λ node c. none_some (find_name (names_of entries) name) node (lookup_text entries name ∙ sym found) (ap (find_name (names_of entries)) (sym (same_text (slice_get imports i) name c.name c.kind named c.asked)) ∙ c.imported) where
    none_some : (o : Option NodeId) (x : NodeId) → o ≡ None → o ≡ Some x → ⊥
    none_some o x p q = cc

-- nor does one clash that is satisfied
pub no_clash : (satisfied_in : ℕ → Bool) (imports : List (Name × ItemKind)) (nodes : List (Name × NodeId)) (i : ℕ) → satisfied_in i ≡ true → (node : NodeId) → Clashes satisfied_in imports nodes i node → ⊥
no_clash satisfied_in imports nodes i is node c = clash (satisfied_in i) is c.unset where
  clash : (b : Bool) → b ≡ true → b ≡ false → ⊥
  clash true _ h = cc
  clash false h _ = cc

module _ (a : Fields) (v : Invariant a) (n : ℕ) (node : Node) (had : get a.nodes n ≡ Some node) where
  module _ (s : Positions) (is : node.kind ≡ code.Instantiation s) where
    abbrev pub ClashesAt : ℕ → NodeId → Type 0
    ClashesAt i import = Clashes (has_position s) (imports_of (graph_of a) (node_of node)) (names_of a.imports.entries) i import

    marked : (i : ℕ) (b : Bool) → has_position s i ≡ b → satisfied_at (get a.nodes n) i ≡ b
    marked i b h = ap (λ x. satisfied_at x i) had ∙ ap (λ k. satisfied k i) is ∙ h

    pub conflict_of : (i : ℕ) (import : NodeId) → (c : ClashesAt i import) → IsConflict (graph_of a) import (node_number n) i c.name
    conflict_of i import c = record {
      node = node_of node;
      kind = c.kind;
      there = node_is a n (Some node) had;
      instantiated = ap kind_of is;
      asked = c.asked;
      unset = λ source stands. clash (satisfied_at (get a.nodes n) i) (v.marked source (node_number n) i stands) (marked i false c.unset);
      imported = v.importing c.name import c.imported;
    } where
      clash : (b : Bool) → b ≡ true → b ≡ false → ⊥
      clash true _ h = cc
      clash false h _ = cc

    pub clash_of : (i : ℕ) (import : NodeId) (name : Name) → IsConflict (graph_of a) import (node_number n) i name → ClashesAt i import
    clash_of i import name c = record {
      name = name;
      kind = c.kind;
      asked = subst (λ x. slice_get (imports_of (graph_of a) x) i ≡ Some (name, c.kind)) same c.asked;
      unset = gap (has_position s i) refl;
      imported = v.named name import c.imported;
    } where
      same : c.node ≡ node_of node
      same = let e : Some c.node ≡ Some (node_of node) = sym c.there ∙ node_is a n (Some node) had in cc

      gap : (b : Bool) → has_position s i ≡ b → b ≡ false
      gap false _ = refl
      gap true h = let (source, stands) = v.edged (node_number n) i (marked i true h) in absurd (c.unset source stands)

    pub first_of : (i : ℕ) (import : NodeId) → ClashesAt i import → ((j : ℕ) (other : NodeId) → j < i → ClashesAt j other → ⊥) → IsFirstOf (graph_of a) (node_number n) i import
    first_of i import c first = record {
      name = c.name;
      here = conflict_of i import c;
      first = λ other j text h. by_lt j i (λ below. absurd (first j other below (clash_of j other text h))) (λ above. above);
    }

    -- what a look at the imports of the node finds
    module _ (imports : List (Name × ItemKind)) (same : imports ≡ imports_of (graph_of a) (node_of node)) where
      abbrev ClashesIn : ℕ → NodeId → Type 0
      ClashesIn i import = Clashes (has_position s) imports (names_of a.imports.entries) i import

      to_node : (i : ℕ) (import : NodeId) → ClashesIn i import → ClashesAt i import
      to_node i import c = subst (λ xs. Clashes (has_position s) xs (names_of a.imports.entries) i import) same c

      from_node : (i : ℕ) (import : NodeId) → ClashesAt i import → ClashesIn i import
      from_node i import c = subst (λ xs. Clashes (has_position s) xs (names_of a.imports.entries) i import) (sym same) c

      pub first_at : (o : Option (ℕ × NodeId)) → IfSome o (λ c. ClashesIn c.0 c.1) → IfSome o (λ c. (i : ℕ) (import : NodeId) → i < c.0 → ClashesIn i import → ⊥) → IfSome o (λ c. IsFirstOf (graph_of a) (node_number n) c.0 c.1)
      first_at None here first = tt
      first_at (Some c) here first = first_of c.0 c.1 (to_node c.0 c.1 here) (λ j other small h. first j other small (from_node j other h))

      pub none_at : (o : Option (ℕ × NodeId)) → IfNone o ((i : ℕ) (import : NodeId) → ClashesIn i import → ⊥) → IfNone o ((import : NodeId) (i : ℕ) (name : Name) → IsConflict (graph_of a) import (node_number n) i name → ⊥)
      none_at (Some c) none = tt
      none_at None none = λ import i name h. none i import (from_node i import (clash_of i import name h))

  -- another kind of node has no conflict
  pub other_kind : (kind_of node.kind ≡ graph.instantiation → ⊥) → (import : NodeId) (i : ℕ) (name : Name) → IsConflict (graph_of a) import (node_number n) i name → ⊥
  other_kind other import i name c = other (sym (ap (λ x. x.kind) same) ∙ c.instantiated) where
    same : c.node ≡ node_of node
    same = let e : Some c.node ≡ Some (node_of node) = sym c.there ∙ node_is a n (Some node) had in cc

-- nor has a number that is no node's
pub no_node : (a : Fields) (n : ℕ) → get a.nodes n ≡ None → (import : NodeId) (i : ℕ) (name : Name) → IsConflict (graph_of a) import (node_number n) i name → ⊥
no_node a n none import i name c = nothing (node_at (graph_of a) (node_number n)) (node_is a n None none) c.there where
  nothing : (o : Option GraphNode) → o ≡ None → o ≡ Some c.node → ⊥
  nothing o p q = cc

-- there is no conflict where there is none below the capacity
pub no_conflict : (a : Fields) (k : ℕ) → length a.nodes.slots ≤ k → ((m : ℕ) → m < k → (import : NodeId) (i : ℕ) (name : Name) → IsConflict (graph_of a) import (node_number m) i name → ⊥) → HasNoConflict (graph_of a)
no_conflict a k slots below import m i name h = by_lt m.0 k (λ small. below m.0 small import i name h) (λ above. no_node a m.0 (none_past a m.0 (omega arith)) import i name h)

-- no lower node has one
pub is_lowest : (g : Graph) (n : ℕ) → ((m : ℕ) → m < n → (import : NodeId) (i : ℕ) (name : Name) → IsConflict g import (node_number m) i name → ⊥) → IsLowest g n
is_lowest g n below import m i name h = by_lt m.0 n (λ small. absurd (below m.0 small import i name h)) (λ above. above)

pub names_first : (g : Graph) (n i : ℕ) (import : NodeId) (key : Key) → (f : IsFirstOf g (node_number n) i import) → IsLowest g n → IsSomeAnd (package_of g (f.here).node) (λ p. (p.name, p.version) ≡ key) → IsFirstConflict g import (node_number n) key f.name
names_first g n i import key f lowest owned = record {
  position = i;
  conflict = f.here;
  owned = owned;
  lowest = lowest;
  first = f.first;
}

pub refused_first : (g : Graph) → IsAcyclic g.edges → (n : ℕ) (import : NodeId) (e : EncodeError) → (key : Key) × (name : Name) × (cause_of e ≡ Some (conflict import (node_number n) key name)) × IsFirstConflict g import (node_number n) key name → (o : EncodeOptions) → IsRefused g o e
refused_first g acyclic n import e (key, name, names, first) o = inr (conflict import (node_number n) key name, names, lit< tt, stands_conflict g o import (node_number n) key name acyclic first)

some_within : {X : Type 0} (xs : List X) (j : ℕ) (x : X) → slice_get xs j ≡ Some x → j < length xs
some_within [] j x h = cc
some_within (y ∷ ys) zero x h = omega arith
some_within (y ∷ ys) (suc j) x h = let r : j < length ys = some_within ys j x h in omega (arith, r)

-- no import clashes where none of those that are there does
pub none_clashes : (satisfied_in : ℕ → Bool) (imports : List (Name × ItemKind)) (nodes : List (Name × NodeId)) (k : ℕ) → length imports ≤ k → ((j : ℕ) (node : NodeId) → j < k → Clashes satisfied_in imports nodes j node → ⊥)
    → (i : ℕ) (node : NodeId) → Clashes satisfied_in imports nodes i node → ⊥
none_clashes satisfied_in imports nodes k all below i node c = let small : i < length imports = some_within imports i (c.name, c.kind) c.asked in below i node (omega (arith, small, all)) c

-- the first conflict, with the texts that its refusal has
pub named_first : (g : Graph) (n i : ℕ) (import : NodeId) (key : Key) (text : Name) → IsFirstOf g (node_number n) i import → IsLowest g n
    → (imports : List (Name × ItemKind)) → IfSome (node_at g (node_number n)) (λ node. imports ≡ imports_of g node) → option_map (λ e. e.0) (slice_get imports i) ≡ Some text
    → (p : PackageParts) → IfSome (node_at g (node_number n)) (λ node. package_of g node ≡ Some p) → key ≡ (p.name, p.version) → IsFirstConflict g import (node_number n) key text
named_first g n i import key text f lowest imports imports_are named p registered key_is =
    subst (λ t. IsFirstConflict g import (node_number n) key t) same (names_first g n i import key f lowest owned) where
      here : imports ≡ imports_of g (f.here).node
      here = subst (λ o. IfSome o (λ node. imports ≡ imports_of g node)) (f.here).there imports_are

      same : f.name ≡ text
      same = same_text (slice_get imports i) text f.name (f.here).kind named (ap (λ xs. slice_get xs i) here ∙ (f.here).asked)

      of_node : package_of g (f.here).node ≡ Some p
      of_node = subst (λ o. IfSome o (λ node. package_of g node ≡ Some p)) (f.here).there registered

      owned : IsSomeAnd (package_of g (f.here).node) (λ q. (q.name, q.version) ≡ key)
      owned = subst (λ o. IsSomeAnd o (λ q. (q.name, q.version) ≡ key)) (sym of_node) (sym key_is)
