-- Worked examples: graphs of which what is asked for cannot be merged, and the cause that `encode` names.
use Rattle.std.proofs.Common.{◌≡◌, ℕ, zero, suc, ◌<◌, Bool, true, false, if◌then◌else◌, ◌⊎◌, inl, inr, List, [], ◌∷◌, ◌++◌, map, Option, Some, None, codes, slice_get, IsSomeAnd, refl, ap, sym, ◌∙◌, subst, arith}
use Rattle.std.specs.FinMap as finite
use Rattle.std.specs.FinMap.{put}
use Rattle.std.specs.FinSet as set
use Rattle.std.specs.List.{flat_map}
use Rattle.std.specs.Ordering.{nat_cmp, eq_by_cmp}
use Rattle.std.specs.Cmp.{nat_cmp_total}
use Rattle.std.proofs.lemmas.Bool.Decides.{nat_tests}
use Rattle.semver.specs.Order.{strip_zeros}
use Rattle.semver.specs.Parse.{digits_from, scan}
use Rattle.wac_names.specs.Text.{after, before, has}
use Rattle.wac_names.specs.Track.{parts_piece, series}
use Rattle.wac_names.specs.Reading.{is_interface_name, is_label, is_lower_label, is_package, read_track, read_version, version_piece}
use Rattle.wac_types_shapes.specs.primitives.Name.{Name, same_name}
use Rattle.wac_types_shapes.specs.primitives.Tree.{TypeTree, absent, function, function_item, primitive}
use Rattle.wac_types_collection.specs.collection.Collection.{Collection}
use Rattle.wac_types_collection.specs.declared.collection.collection.Held.{Held}
use Rattle.wac_types_shapes.specs.declared.shapes.component.FuncType.{FuncType}
use Rattle.wac_types_shapes.specs.declared.shapes.component.Interface.{Interface}
use Rattle.wac_types_shapes.specs.declared.shapes.component.ItemKind.{ItemKind}
use Rattle.wac_types_shapes.specs.declared.shapes.component.ItemKind.TheVariants as kind
use Rattle.wac_types_shapes.specs.declared.shapes.component.DefinedType.TheVariants as def
use Rattle.wac_types_shapes.specs.declared.primitives.component.PrimitiveType.TheVariants as prim
use Rattle.wac_types_shapes.specs.declared.shapes.component.UsedType.{UsedType}
use Rattle.wac_types_shapes.specs.declared.shapes.component.ValueType.{ValueType}
use Rattle.wac_types_shapes.specs.declared.shapes.component.ValueType.TheVariants as val
use Rattle.wac_types_shapes.specs.declared.shapes.component.World.{World}
use Rattle.wac_types_shapes.specs.declared.shapes.component.«Type».TheVariants as ty
use Rattle.wac_types_shapes.proofs.lemmas.shapes.Names.{same_name-true}
use Rattle.wac_types_collection.specs.subtyping.Called.{Called}
use Rattle.wac_merge_classes.specs.entries.Agreement.{Agree, compared, here, below}
use Rattle.wac_merge_classes.specs.entries.Classes.{by_names, same_class}
use Rattle.wac_merge_classes.specs.entries.Classes as merge
use Rattle.wac_types_collection.specs.wide.Wide.{by_itself}
use Rattle.wac_merge_classes.specs.terms.ClassOrder.{RestsOn, by_use}
use Rattle.wac_edges.specs.cycles.Cycles.{step, further}
use Rattle.wac_merge_classes.specs.terms.NoDisagreement.{HasNoDisagreement}
use Rattle.wac_merge_classes.specs.terms.Faults.{Disagrees, UseEachOther}
use Rattle.wac_edges.specs.declared.edges.Edge.{Edge}
use Rattle.wac_edges.specs.declared.node.NodeId.{NodeId}
use Rattle.wac_graph_model.specs.declared.nodes.options.EncodeOptions.{EncodeOptions}
use Rattle.wac_graph_model.specs.nodes.Graph as graph
use Rattle.wac_edges.specs.Edge.{node_number}
use Rattle.wac_graph_model.specs.nodes.Graph.{Graph, GraphNode, node_at}
use Rattle.wac_edges.specs.Order.{Edges, Leads, IsAcyclic}
use Rattle.wac_graph_model.specs.nodes.Asked.{Entry, asked_by, imported_by}
use Rattle.wac_graph_model.specs.nodes.Entries.{once, with_used, asked_entries, to_merge}
use Rattle.wac_graph_model.specs.causes.Cause.{HasNoConflict, IsMergeConflict, CauseKind, a_disagreement, Occurs, Stands, implicit_merge, explicit_merge, import_circle}
use Rattle.wac_graph_model.proofs.lemmas.causes.StandsLemmas.{stands_implicit, stands_explicit, stands_circle}
use Rattle.wac_graph_tests.proofs.lemmas.examples.Ordered.{edge_cmp_total}
use Rattle.wac_graph_tests.proofs.lemmas.examples.ImportExample.{no_entries, no_items}
use Rattle.wac_graph_tests.proofs.lemmas.examples.Rows.{readme_graph, instance_of_first, instance_of_second, by_two}

-- ---- graphs of two nodes without edges
abbrev no_edges : Edges
no_edges = set.from_list []

clash : {b : Bool} → b ≡ true → b ≡ false → ⊥
clash h k = cc

no_edge : (e : Edge) → set.contains no_edges e ≡ true → ⊥
no_edge e stands = clash stands (set.contains-from_list edge_cmp_total [] e)

none_leads : (ns : List NodeId) (a b : NodeId) → Leads no_edges a ns b → ⊥
none_leads [] a b h = no_edge h.0 h.1
none_leads (c ∷ cs) a b h = no_edge (h.0).0 (h.0).1

no_cycle : IsAcyclic no_edges
no_cycle n h = none_leads h.0 n n h.1

edges_none : set.items no_edges ≡ []
edges_none = no_items (set.items no_edges) (λ e. sym (set.contains-items no_edges e) ∙ set.contains-from_list edge_cmp_total [] e)

module _ (types : Collection) (x y : GraphNode) where
  abbrev nodes : List (ℕ × GraphNode)
  nodes = (0, x) ∷ (1, y) ∷ []

  -- two nodes, with the packages of the first example
  abbrev two_nodes : Graph
  two_nodes = record readme_graph { types = types; nodes = finite.from_entries nodes; next = 2; edges = no_edges }

  entries_are : finite.entries (finite.from_entries {R = nat_cmp} nodes) ≡ nodes
  entries_are =
      finite.entries-insert nat_cmp_total (finite.from_entries ((1, y) ∷ [])) 0 x
      ∙ ap (put nat_cmp 0 x) (finite.entries-insert nat_cmp_total (finite.from_entries []) 1 y ∙ ap (put nat_cmp 1 y) (no_entries (finite.entries (finite.empty {R = nat_cmp})) (sym (finite.len-entries finite.empty) ∙ finite.len-empty nat_cmp GraphNode)))

  at_0 : node_at two_nodes (node_number 0) ≡ Some x
  at_0 = finite.get-from_entries nat_cmp_total nodes 0

  at_1 : node_at two_nodes (node_number 1) ≡ Some y
  at_1 = finite.get-from_entries nat_cmp_total nodes 1

  at_more : (n : ℕ) → node_at two_nodes (node_number (suc (suc n))) ≡ None
  at_more n =
      let a : eq_by_cmp nat_cmp (suc (suc n)) 0 ≡ false = grind (arith, nat_tests) in
      let b : eq_by_cmp nat_cmp (suc (suc n)) 1 ≡ false = grind (arith, nat_tests) in
      finite.get-from_entries nat_cmp_total nodes (suc (suc n)) ∙ rw (a, b) refl

  by_node : (P : NodeId → GraphNode → Type 0) → P (node_number 0) x → P (node_number 1) y → (n : NodeId) (node : GraphNode) → node_at two_nodes n ≡ Some node → P n node
  by_node = by_two two_nodes x y at_0 at_1 at_more

  -- what the nodes ask for
  abbrev asked_by_two : List Entry
  asked_by_two = (asked_by two_nodes 0 (Some x) ++ (asked_by two_nodes 1 (Some y) ++ [])) ++ (imported_by 0 (Some x) ++ (imported_by 1 (Some y) ++ []))

  asked_of_two : asked_entries two_nodes ≡ once (flat_map (with_used types) asked_by_two)
  asked_of_two =
      ap (λ es. once (flat_map (with_used types) (flat_map (λ n. asked_by two_nodes n (node_at two_nodes (node_number n))) (map (λ e. e.0) es) ++ flat_map (λ n. imported_by n (node_at two_nodes (node_number n))) (map (λ e. e.0) es)))) entries_are
      ∙ ap (λ (p : Option GraphNode × Option GraphNode). once (flat_map (with_used types) ((asked_by two_nodes 0 p.0 ++ (asked_by two_nodes 1 p.1 ++ [])) ++ (imported_by 0 p.0 ++ (imported_by 1 p.1 ++ []))))) (λ i. (at_0 i, at_1 i))

  -- two instantiations have no import node, and import nodes no instantiation
  imports_none : (name : Name) (o : Option GraphNode) → ((node : GraphNode) → o ≡ Some node → node.kind ≡ graph.instantiation) → IsSomeAnd o (λ node. node.kind ≡ graph.import name) → ⊥
  imports_none name None all h = h
  imports_none name (Some node) all h = let e : graph.instantiation ≡ graph.import name = sym (all node refl) ∙ h in cc

  no_imports : x.kind ≡ graph.instantiation → y.kind ≡ graph.instantiation → HasNoConflict two_nodes
  no_imports a b import instantiation position name c = imports_none name (node_at two_nodes import) (λ node there. by_node (λ n z. z.kind ≡ graph.instantiation) a b import node there) c.imported

  is_import : (kind : graph.Kind) → (name : Name) × (kind ≡ graph.import name) → kind ≡ graph.instantiation → ⊥
  is_import kind (name, is) wrong = let e : graph.import name ≡ graph.instantiation = sym is ∙ wrong in cc

  no_instantiations : (name : Name) × (x.kind ≡ graph.import name) → (name : Name) × (y.kind ≡ graph.import name) → HasNoConflict two_nodes
  no_instantiations a b import instantiation position name c = is_import (c.node).kind (by_node (λ n z. (text : Name) × (z.kind ≡ graph.import text)) a b instantiation c.node c.there) c.instantiated

-- ---- two functions that differ
abbrev function_of : Option ValueType → ℕ → Held FuncType
function_of result before = record { item = record { params = []; result = result; is_async = false }; before = before }

-- one without a result, and one that gives a bool
abbrev functions : List (Held FuncType)
functions = function_of None 0 ∷ function_of (Some (val.Primitive prim.Bool)) 1 ∷ []

abbrev func : ℕ → ItemKind
func n = kind.Func (record { 0 = n })

abbrev instance_of : ℕ → ItemKind
instance_of n = kind.Instance (record { 0 = n })

abbrev interface_of : Option Name → List (Name × UsedType) → List (Name × ItemKind) → ℕ → Held Interface
interface_of id uses exports before = record { item = record { id = id; uses = uses; exports = exports }; before = before }

abbrev entry : Name → ItemKind → ℕ → Entry
entry n k node = record { name = n; kind = k; node = node }

results_differ : (names : List Name) (parts : ℕ → TypeTree Called) → function_item (function false names parts absent) ≡ function_item (function false names parts (primitive prim.Bool)) → ⊥
results_differ names parts same = cc

-- ---- two instances of packages that import `x`, which is not one function
abbrev importing : ItemKind → ℕ → Held World
importing k before = record { item = record { id = None; uses = []; imports = (codes "x", k) ∷ []; exports = [] }; before = before }

abbrev clashing_types : Collection
clashing_types = record {
  resources = [];
  funcs = functions;
  defined = [];
  modules = [];
  interfaces = interface_of None [] [] 2 ∷ interface_of None [] [] 3 ∷ [];
  worlds = importing (func 0) 4 ∷ importing (func 1) 5 ∷ [];
}

abbrev clashing : Graph
clashing = two_nodes clashing_types instance_of_first instance_of_second

abbrev clashing_entries : List Entry
clashing_entries = entry (codes "x") (func 0) 0 ∷ entry (codes "x") (func 1) 1 ∷ []

-- both are asked for under one name
clashing_asked : asked_entries clashing ≡ clashing_entries
clashing_asked = asked_of_two clashing_types instance_of_first instance_of_second ∙ rw edges_none refl

-- the second does not agree with the first, at the item itself
clashing_disagree : Disagrees by_names clashing_types (to_merge clashing_entries) 0 1 []
clashing_disagree = record {
  is_first = record {
    disagree = record { earlier = record { name = codes "x"; kind = func 0 }; later = record { name = codes "x"; kind = func 1 }; at_first = refl; at_second = refl; before = omega arith; one_class = refl; apart = results_differ _ _ };
    earliest = λ i j d. (let less = d.before in omega (arith, less));
    with_earliest = λ i d. omega arith;
  };
  names = [];
  leads = here _ _ _ (λ no. no) (results_differ _ _);
  path = refl;
}

abbrev clashing_conflict : IsMergeConflict clashing 0 1 []
clashing_conflict = record {
  disagree = subst (λ es. Disagrees by_names clashing_types (to_merge es) 0 1 []) (sym clashing_asked) clashing_disagree;
  earlier = entry (codes "x") (func 0) 0;
  later = entry (codes "x") (func 1) 1;
  at_first = ap (λ es. slice_get es 0) clashing_asked;
  at_second = ap (λ es. slice_get es 1) clashing_asked;
}

-- the second instance is named, with the first
pub clash_stands : (o : EncodeOptions) → Stands clashing o (implicit_merge (codes "x") (node_number 0) (node_number 1) 0 1 [])
clash_stands o = stands_implicit clashing o (codes "x") (node_number 0) (node_number 1) 0 1 [] no_cycle (no_imports clashing_types instance_of_first instance_of_second refl refl) (record {
  conflict = clashing_conflict;
  asked = record { node = instance_of_second; there = at_1 clashing_types instance_of_first instance_of_second; instantiated = refl };
  name = refl;
  by_first = refl;
  by_second = refl;
})

-- so a kind of cause occurs, and bytes are not answered
clash_occurs : (o : EncodeOptions) → ((kind : CauseKind) → Occurs clashing o kind → ⊥) → ⊥
clash_occurs o none = none a_disagreement (clash_stands o).0.0

-- ---- import nodes of two versions of an interface, whose functions `f` differ
abbrev version_types : Collection
version_types = record {
  resources = [];
  funcs = functions;
  defined = [];
  modules = [];
  interfaces = interface_of None [] ((codes "f", func 0) ∷ []) 2 ∷ interface_of None [] ((codes "f", func 1) ∷ []) 3 ∷ [];
  worlds = [];
}

-- an import node of an interface
abbrev import_of : Name → ℕ → GraphNode
import_of name i = record { kind = graph.import name; item_kind = instance_of i; owner = None; name = None; export_name = None; first_name = None }

abbrev earlier_import : GraphNode
earlier_import = import_of (codes "a:b/c@0.2.0") 0

abbrev later_import : GraphNode
later_import = import_of (codes "a:b/c@0.2.1") 1

abbrev versions : Graph
versions = two_nodes version_types earlier_import later_import

abbrev version_entries : List Entry
version_entries = entry (codes "a:b/c@0.2.0") (instance_of 0) 0 ∷ entry (codes "a:b/c@0.2.1") (instance_of 1) 1 ∷ []

version_asked : asked_entries versions ≡ version_entries
version_asked = asked_of_two version_types earlier_import later_import

-- they do not agree where both have the export, and the earlier one has it
both_differ : (names : List Name) (parts : ℕ → TypeTree Called)
    → (function_item (function false names parts absent) ≡ absent) ⊎ ((function_item (function false names parts (primitive prim.Bool)) ≡ absent) ⊎ (function_item (function false names parts absent) ≡ function_item (function false names parts (primitive prim.Bool)))) → ⊥
both_differ names parts (inl h) = cc
both_differ names parts (inr (inl h)) = cc
both_differ names parts (inr (inr h)) = results_differ names parts h

earlier_differs : (names : List Name) (parts : ℕ → TypeTree Called)
    → (function_item (function false names parts absent) ≡ absent) ⊎ (function_item (function false names parts absent) ≡ function_item (function false names parts (primitive prim.Bool))) → ⊥
earlier_differs names parts (inl h) = cc
earlier_differs names parts (inr h) = results_differ names parts h

one_track : same_class by_names (to_merge version_entries) (codes "a:b/c@0.2.0") (codes "a:b/c@0.2.1") ≡ true
unfolding read_track read_version is_interface_name parts_piece version_piece series has before after is_label is_lower_label is_package digits_from scan
one_track = refl

-- the versions are of one track, and the later one does not agree with the earlier one at `f`
version_disagree : Disagrees by_names version_types (to_merge version_entries) 0 1 (codes "f")
version_disagree = record {
  is_first = record {
    disagree = record { earlier = record { name = codes "a:b/c@0.2.0"; kind = instance_of 0 }; later = record { name = codes "a:b/c@0.2.1"; kind = instance_of 1 }; at_first = refl; at_second = refl; before = omega arith; one_class = one_track; apart = λ agree. both_differ _ _ (agree (codes "f")) };
    earliest = λ i j d. (let less = d.before in omega (arith, less));
    with_earliest = λ i d. omega arith;
  };
  names = codes "f" ∷ [];
  leads = below _ _ (record { 0 = 1 }) [] [] (codes "f", func 1) [] refl tt (earlier_differs _ _) (here _ _ _ (λ no. no) (results_differ _ _));
  path = refl;
}

abbrev version_conflict : IsMergeConflict versions 0 1 (codes "f")
version_conflict = record {
  disagree = subst (λ es. Disagrees by_names version_types (to_merge es) 0 1 (codes "f")) (sym version_asked) version_disagree;
  earlier = entry (codes "a:b/c@0.2.0") (instance_of 0) 0;
  later = entry (codes "a:b/c@0.2.1") (instance_of 1) 1;
  at_first = ap (λ es. slice_get es 0) version_asked;
  at_second = ap (λ es. slice_get es 1) version_asked;
}

-- the later import node is named, with the earlier one
pub versions_stand : (o : EncodeOptions) → Stands versions o (explicit_merge (codes "a:b/c@0.2.1") (node_number 1) (node_number 0))
versions_stand o = stands_explicit versions o (codes "a:b/c@0.2.1") (node_number 1) (node_number 0) no_cycle (no_instantiations version_types earlier_import later_import (codes "a:b/c@0.2.0", refl) (codes "a:b/c@0.2.1", refl)) (record {
  first = 0;
  second = 1;
  export = codes "f";
  conflict = version_conflict;
  asked = record { node = later_import; name = codes "a:b/c@0.2.1"; there = at_1 version_types earlier_import later_import; imported = refl };
  name = refl;
  by_node = refl;
  by_other = refl;
})

-- ---- import nodes of two interfaces that use each other, in different versions
abbrev item_of : Name → ℕ → Name × ItemKind
item_of n d = (n, kind.TypeItem (ty.Value (val.Defined (record { 0 = d }))))

abbrev use_of : Name → ℕ → Name × UsedType
use_of n i = (n, record { interface = record { 0 = i }; name = None })

abbrev y_first : Name
y_first = codes "a:b/y@1.0.0"

abbrev x_first : Name
x_first = codes "a:b/x@1.0.0"

abbrev x_later : Name
x_later = codes "a:b/x@1.1.0"

abbrev y_later : Name
y_later = codes "a:b/y@1.1.0"

-- `a:b/x@1.0.0` uses `t` of `a:b/y@1.0.0`, and `a:b/y@1.1.0` uses `u` of `a:b/x@1.1.0`
abbrev circle_types : Collection
circle_types = record {
  resources = [];
  funcs = [];
  defined = record { item = def.Alias (val.Primitive prim.U8); before = 0 } ∷ record { item = def.Alias (val.Primitive prim.Bool); before = 1 } ∷ [];
  modules = [];
  interfaces =
      interface_of (Some y_first) [] (item_of (codes "t") 0 ∷ []) 2
      ∷ interface_of (Some x_first) (use_of (codes "t") 0 ∷ []) (item_of (codes "t") 0 ∷ []) 3
      ∷ interface_of (Some x_later) [] (item_of (codes "u") 1 ∷ []) 4
      ∷ interface_of (Some y_later) (use_of (codes "u") 2 ∷ []) (item_of (codes "u") 1 ∷ []) 5 ∷ [];
  worlds = [];
}

abbrev import_of_x : GraphNode
import_of_x = import_of x_first 1

abbrev import_of_y : GraphNode
import_of_y = import_of y_later 3

abbrev circular : Graph
circular = two_nodes circle_types import_of_x import_of_y

abbrev circle_entries : List Entry
circle_entries = entry y_first (instance_of 0) 0 ∷ entry x_first (instance_of 1) 0 ∷ entry x_later (instance_of 2) 1 ∷ entry y_later (instance_of 3) 1 ∷ []

-- each import comes after the interface that it uses
circle_asked : asked_entries circular ≡ circle_entries
circle_asked = asked_of_two circle_types import_of_x import_of_y

abbrev four : List merge.Entry
four = to_merge circle_entries

some_entry : {a b : merge.Entry} → Some a ≡ Some b → a ≡ b
some_entry e = cc

none_entry : {b : merge.Entry} → None ≡ Some b → ⊥
none_entry e = cc

abbrev merging : Name → ℕ → merge.Entry
merging n i = record { name = n; kind = instance_of i }

by_four : (P : ℕ → merge.Entry → Type 0) → P 0 (merging y_first 0) → P 1 (merging x_first 1) → P 2 (merging x_later 2) → P 3 (merging y_later 3) → (i : ℕ) (e : merge.Entry) → slice_get four i ≡ Some e → P i e
by_four P a b c d zero e is = subst (P 0) (some_entry is) a
by_four P a b c d (suc zero) e is = subst (P 1) (some_entry is) b
by_four P a b c d (suc (suc zero)) e is = subst (P 2) (some_entry is) c
by_four P a b c d (suc (suc (suc zero))) e is = subst (P 3) (some_entry is) d
by_four P a b c d (suc (suc (suc (suc i)))) e is = absurd (none_entry is)

-- no name is `t` and `u`
not_both : (n : Name) → (same_name n (codes "t") ≡ false) ⊎ (same_name n (codes "u") ≡ false)
not_both n = split (same_name n (codes "t")) refl where
  split : (b : Bool) → same_name n (codes "t") ≡ b → (same_name n (codes "t") ≡ false) ⊎ (same_name n (codes "u") ≡ false)
  split false is = inl is
  split true is = inr (ap (λ (m : Name). same_name m (codes "u")) (same_name-true n (codes "t") is))

one_absent : (p q : Bool) (t u : TypeTree Called) → (p ≡ false) ⊎ (q ≡ false) → ((if p then t else absent) ≡ absent) ⊎ (((if q then u else absent) ≡ absent) ⊎ Agree (if p then t else absent) (if q then u else absent))
one_absent p q t u (inl h) = inl (rw h refl)
one_absent p q t u (inr h) = inr (inl (rw h refl))

-- the second entry is later than the first, of its class, and does not agree
abbrev IsApart : ℕ → merge.Entry → ℕ → merge.Entry → Type 0
IsApart i a j b = i < j → same_class by_names four a.name b.name ≡ true → Agree (compared by_names circle_types four a.name a.kind) (compared by_names circle_types four a.name b.kind)

-- two interfaces are of two classes, and two versions of one have no export in common
all_agree : (i : ℕ) (a : merge.Entry) → slice_get four i ≡ Some a → (j : ℕ) (b : merge.Entry) → slice_get four j ≡ Some b → IsApart i a j b
unfolding read_track read_version is_interface_name parts_piece version_piece series has before after is_label is_lower_label is_package digits_from scan
all_agree = by_four (λ i a. (j : ℕ) (b : merge.Entry) → slice_get four j ≡ Some b → IsApart i a j b)
    (by_four (λ j b. IsApart 0 (merging y_first 0) j b)
    (λ less _. absurd (omega (arith, less)))
    (λ _ one. absurd (clash one refl))
    (λ _ one. absurd (clash one refl))
    (λ _ _ n. one_absent (same_name n (codes "t")) (same_name n (codes "u")) _ _ (not_both n)))
    (by_four (λ j b. IsApart 1 (merging x_first 1) j b)
    (λ less _. absurd (omega (arith, less)))
    (λ less _. absurd (omega (arith, less)))
    (λ _ _ n. one_absent (same_name n (codes "t")) (same_name n (codes "u")) _ _ (not_both n))
    (λ _ one. absurd (clash one refl)))
    (by_four (λ j b. IsApart 2 (merging x_later 2) j b)
    (λ less _. absurd (omega (arith, less)))
    (λ less _. absurd (omega (arith, less)))
    (λ less _. absurd (omega (arith, less)))
    (λ _ one. absurd (clash one refl)))
    (by_four (λ j b. IsApart 3 (merging y_later 3) j b)
    (λ less _. absurd (omega (arith, less)))
    (λ less _. absurd (omega (arith, less)))
    (λ less _. absurd (omega (arith, less)))
    (λ less _. absurd (omega (arith, less))))

none_disagrees : HasNoDisagreement by_names circle_types four
none_disagrees i j d = d.apart (all_agree i d.earlier d.at_first j d.later d.at_second d.before d.one_class)

-- the first class, of `a:b/y`, rests on the second by its later version, and the second on the first by its earlier one
y_rests : RestsOn by_names circle_types four 0 1
unfolding read_track read_version is_interface_name parts_piece version_piece series has before after is_label is_lower_label is_package digits_from scan
y_rests = by_use 0 1 y_first x_first x_later (merging y_later 3) (record { 0 = 3 }) (record { 0 = 2 }) _
    (λ h. omega (arith, h)) refl refl (1, omega arith, refl) refl (by_itself (record { 0 = 3 }) (codes "u") (record { interface = record { 0 = 2 }; name = None }) (0, omega arith, refl)) refl refl refl

x_rests : RestsOn by_names circle_types four 1 0
unfolding read_track read_version is_interface_name parts_piece version_piece series has before after is_label is_lower_label is_package digits_from scan
x_rests = by_use 1 0 x_first y_first y_first (merging x_first 1) (record { 0 = 1 }) (record { 0 = 0 }) _
    (λ h. omega (arith, h)) refl refl (0, omega arith, refl) refl (by_itself (record { 0 = 1 }) (codes "t") (record { interface = record { 0 = 0 }; name = None }) (0, omega arith, refl)) refl refl refl

-- the class that is asked for first has the later name
circle_uses : UseEachOther by_names circle_types four y_later
unfolding read_track read_version is_interface_name parts_piece version_piece series has before after is_label is_lower_label is_package digits_from scan strip_zeros
circle_uses = record {
  number = 0;
  class = y_first;
  is_first = record { on = further 0 1 0 y_rests (step 1 0 x_rests); first = λ b _. omega arith };
  numbered = refl;
  named = refl;
}

-- it is named
pub circle_stands : (o : EncodeOptions) → Stands circular o (import_circle y_later)
circle_stands o = stands_circle circular o y_later no_cycle (no_instantiations circle_types import_of_x import_of_y (x_first, refl) (y_later, refl))
    (subst (λ es. HasNoDisagreement by_names circle_types (to_merge es)) (sym circle_asked) none_disagrees) (subst (λ es. UseEachOther by_names circle_types (to_merge es) y_later) (sym circle_asked) circle_uses)
