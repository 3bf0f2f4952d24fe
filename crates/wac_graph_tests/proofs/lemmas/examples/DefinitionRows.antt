-- Worked examples: a definition that is exported twice, an interface that uses a type of another, and a package that is imported.
use Rattle.std.proofs.Common.{◌≡◌, ℕ, suc, false, List, [], ◌∷◌, ◌++◌, map, Option, Some, None, IfSome, codes, refl, ap, sym, ◌∙◌, subst}
use Rattle.std.specs.FinMap as finite
use Rattle.std.specs.List.{flat_map}
use Rattle.std.specs.Prelude.{slice_set}
use Rattle.std.proofs.lemmas.List.{append-nil}
use Rattle.wac_types_shapes.specs.primitives.Name.{Name}
use Rattle.wac_types_shapes.specs.declared.shapes.component.DefinedType.TheVariants as def
use Rattle.wac_types_shapes.specs.declared.shapes.component.ItemKind.TheVariants as item
use Rattle.wac_types_shapes.specs.declared.primitives.component.PrimitiveType.TheVariants as prim
use Rattle.wac_types_shapes.specs.declared.shapes.component.«Type».{«Type» as AnyType}
use Rattle.wac_types_shapes.specs.declared.shapes.component.«Type».TheVariants as ty
use Rattle.wac_types_shapes.specs.declared.shapes.component.ValueType.TheVariants as val
use Rattle.wac_types_collection.specs.collection.Bound.{Bindings, held_tree}
use Rattle.wac_types_collection.specs.collection.Collection.{Collection}
use Rattle.wac_types_shapes.specs.primitives.Tree.{Leaf, Tree, absent, resource, primitive, enum_of, type_equal, component, items_in, type_in}
use Rattle.wac_binary.specs.declared.sorts.Sort.TheVariants as s
use Rattle.wac_binary.specs.Items.{Item, export_item, type_item, value_def, primitive_def}
use Rattle.wac_binary.specs.Meaning.{meaning, stands_for, written, Thing}
use Rattle.wac_edges.specs.declared.node.NodeId.{NodeId}
use Rattle.wac_encode_faults.specs.Sides.{interface_sides}
use Rattle.wac_encode_faults.specs.Trees.{sides_tree, definition_tree}
use Rattle.wac_graph_model.specs.nodes.Asked.{asked, asked_by, imported_by}
use Rattle.wac_graph_model.specs.nodes.OuterImports.{AreOuterImports, outer_bindings}
use Rattle.wac_graph_model.specs.meaning.Defined.{as_new}
use Rattle.wac_graph_model.specs.nodes.Graph as graph
use Rattle.wac_edges.specs.Edge.{node_number}
use Rattle.wac_graph_model.specs.nodes.Graph.{Graph, GraphNode, node_at}
use Rattle.wac_graph_model.specs.meaning.Means.{Means, is_written, instantiations, sort_of_kind, AreInstantiations, IsThing, as_definition, HasItem, shown, export_of, first_export, further_exports, export_item_of, custom_item}
use Rattle.wac_graph_model.specs.private.meaning.Encoding.{index_in}
use Rattle.wac_graph_model.specs.private.meaning.Writing.{WritesTypeWith, WritesNode, writes_definition, Wrote}
use Rattle.wac_graph_model.proofs.lemmas.meaning.DefinedLemmas.{no_names}
use Rattle.wac_graph_model.proofs.lemmas.meaning.AskedLemmas.{no_imports}
use Rattle.wac_graph_tests.proofs.lemmas.examples.OptionRows.{with_one, node_0, by_one, one_in_order, in_one}
use Rattle.wac_graph_model.proofs.lemmas.meaning.OrderLemmas.{one_order}
use Rattle.wac_graph_tests.proofs.lemmas.examples.Rows.{defining, readme_graph}

-- ---- a definition `foo` of an alias of bool, exported as `bar` too
abbrev of_bool : AnyType
of_bool = ty.Value (val.Defined (record { 0 = 0 }))

abbrev defined : GraphNode
defined = record { kind = graph.definition; item_kind = item.TypeItem of_bool; owner = None; name = None; export_name = Some (codes "bar"); first_name = Some (codes "foo") }

abbrev base : Graph
base = record readme_graph {
  types = record { resources = []; funcs = []; defined = record { item = def.Alias (val.Primitive prim.Bool); before = 0 } ∷ []; interfaces = []; worlds = []; modules = [] };
  exports = (codes "foo", node_number 0) ∷ (codes "bar", node_number 0) ∷ [];
  slots = [];
}

abbrev pub defining_bool : Graph
defining_bool = with_one base defined

abbrev pub two_names : List Item
two_names = type_item (value_def (primitive_def prim.Bool)) ∷ export_item (codes "foo") s.«Type» 0 ∷ export_item (codes "bar") s.«Type» 1 ∷ []

-- nothing is asked for by a definition
asks_nothing : asked defining_bool ≡ []
asks_nothing =
    rw (none_of (λ n. asked_by defining_bool n (node_at defining_bool (node_number n))) (λ n. none_asked n (node_at defining_bool (node_number n)) refl) (finite.keys defining_bool.nodes))
    (none_of (λ n. imported_by n (node_at defining_bool (node_number n))) (λ n. none_imported n (node_at defining_bool (node_number n)) refl) (finite.keys defining_bool.nodes)) where
      none_of : {B : Type 0} (f : ℕ → List B) → ((n : ℕ) → f n ≡ []) → (ns : List ℕ) → flat_map f ns ≡ []
      none_of f h [] = refl
      none_of f h (n ∷ ns) = rw (h n) (none_of f h ns)

      none_asked : (n : ℕ) (o : Option GraphNode) → node_at defining_bool (node_number n) ≡ o → asked_by defining_bool n o ≡ []
      none_asked n None is = refl
      none_asked n (Some node) is = by_one base defined (λ k x. asked_by defining_bool k.0 (Some x) ≡ []) refl (node_number n) node is

      none_imported : (n : ℕ) (o : Option GraphNode) → node_at defining_bool (node_number n) ≡ o → imported_by n o ≡ []
      none_imported n None is = refl
      none_imported n (Some node) is = by_one base defined (λ k x. imported_by k.0 (Some x) ≡ []) refl (node_number n) node is

-- what it is
bool_tree : (m : Bindings) → primitive prim.Bool ≡ definition_tree defining_bool.types m of_bool
unfolding definition_tree held_tree
bool_tree m = refl

bool_is : (m : Bindings) → written (primitive prim.Bool) ≡ written (definition_tree defining_bool.types m of_bool)
bool_is m = ap written (bool_tree m)

bool_imports : AreOuterImports defining_bool []
bool_imports = no_imports defining_bool asks_nothing

abbrev bool_at : NodeId → Thing
bool_at n = written (primitive prim.Bool)

-- the other export
bool_further : further_exports defining_bool ≡ (codes "bar", node_number 0) ∷ []
bool_further = rw (node_0 base defined) refl

bool_first : (at : NodeId → Thing) → flat_map (first_export defining_bool at) (node_number 0 ∷ []) ≡ (codes "foo", s.«Type», at (node_number 0)) ∷ []
bool_first at = rw (node_0 base defined) refl

bool_shown : map shown (meaning two_names).exports ≡ (codes "foo", s.«Type», written (primitive prim.Bool)) ∷ flat_map (export_of defining_bool bool_at) ((codes "bar", node_number 0) ∷ [])
bool_shown = rw (node_0 base defined) refl

bool_exports : map shown (meaning two_names).exports ≡ flat_map (first_export defining_bool bool_at) (node_number 0 ∷ []) ++ flat_map (export_of defining_bool bool_at) (further_exports defining_bool)
bool_exports =
    bool_shown ∙ ap (λ es. (codes "foo", s.«Type», written (primitive prim.Bool)) ∷ flat_map (export_of defining_bool bool_at) es) (sym bool_further)
    ∙ ap (λ xs. xs ++ flat_map (export_of defining_bool bool_at) (further_exports defining_bool)) (sym (bool_first bool_at))

bool_written : two_names ≡ (type_item (value_def (primitive_def prim.Bool)) ∷ export_item (codes "foo") s.«Type» 0 ∷ []) ++ flat_map (export_item_of defining_bool (λ n. 1)) ((codes "bar", node_number 0) ∷ [])
bool_written = rw (node_0 base defined) refl

bool_last : two_names ≡ (type_item (value_def (primitive_def prim.Bool)) ∷ export_item (codes "foo") s.«Type» 0 ∷ []) ++ flat_map (export_item_of defining_bool (λ n. 1)) (further_exports defining_bool) ++ map custom_item (meaning two_names).customs
bool_last =
    bool_written ∙ ap (λ es. (type_item (value_def (primitive_def prim.Bool)) ∷ export_item (codes "foo") s.«Type» 0 ∷ []) ++ flat_map (export_item_of defining_bool (λ n. 1)) es) (sym bool_further)
    ∙ sym (append-nil ((type_item (value_def (primitive_def prim.Bool)) ∷ export_item (codes "foo") s.«Type» 0 ∷ []) ++ flat_map (export_item_of defining_bool (λ n. 1)) (further_exports defining_bool)))

pub definition_means : Means two_names defining_bool defining
definition_means = record {
  order = node_number 0 ∷ [];
  in_order = one_in_order base defined refl;
  at = bool_at;
  index = λ n. 1;
  meant = (tt, ((refl, tt), ((refl, tt), tt)));
  classes = [];
  outer = bool_imports;
  imports = refl;
  components = rw (node_0 base defined) refl;
  instances = subst (λ ns. AreInstantiations defining_bool defining 0 bool_at (node_number 0 ∷ []) ns []) (sym no_instances) tt;
  things = by_one base defined (λ n node. IsThing defining_bool [] (outer_bindings defining_bool bool_imports.order) bool_at (node_number 0 ∷ []) n node) (as_definition of_bool refl refl (as_new (bool_is (outer_bindings defining_bool bool_imports.order))));
  stand = by_one base defined (λ n node. stands_for (meaning two_names) (sort_of_kind node.item_kind) 1 ≡ bool_at n) refl;
  exports = bool_exports;
  place = λ n. suc n.0;
  own_items = λ n node there. by_one base defined (λ k x. HasItem two_names x 1 (suc k.0))
      (record { it = export_item (codes "foo") s.«Type» 0; before = type_item (value_def (primitive_def prim.Bool)) ∷ []; after = export_item (codes "bar") s.«Type» 1 ∷ []; split = refl; here = refl; own = refl; adds = refl; counted = refl }) n node there;
  in_place = λ i j n m less a b. in_one i j n m (λ k. suc k.0) less a b;
  names = [];
  named = no_names defining_bool (λ n. 1) (by_one base defined (λ _ node. node.name ≡ None) refl);
  customs = refl;
  body = type_item (value_def (primitive_def prim.Bool)) ∷ export_item (codes "foo") s.«Type» 0 ∷ [];
  last = bool_last;
} where
  no_instances : instantiations defining_bool (node_number 0 ∷ []) ≡ []
  no_instances = rw (node_0 base defined) refl

-- nothing is bound
abbrev unbound : Bindings
unbound r = None

abbrev bool_type : List Item
bool_type = type_item (value_def (primitive_def prim.Bool)) ∷ []

-- the type is written so
bool_type_is_written : WritesTypeWith (definition_tree defining_bool.types unbound of_bool) [] bool_type 0
bool_type_is_written = subst (λ (t : Tree). WritesTypeWith t [] bool_type 0) (bool_tree unbound)
    (record { types = bool_type; alone = (tt, tt); added = refl; there = not_absent; no_resource = λ is. is; meant = λ _. ((tt, tt), refl) }) where
      not_absent : ◌≡◌ {A = Tree} (primitive prim.Bool) absent → ⊥
      not_absent is = cc

-- the definition is written so: the type, and behind it the export by the first name
pub definition_is_written : Wrote defining_bool defining unbound [] (node_number 0) (record { items = []; components = []; indexes = 0 ∷ [] })
    (record { items = type_item (value_def (primitive_def prim.Bool)) ∷ export_item (codes "foo") s.«Type» 0 ∷ []; components = []; indexes = 1 ∷ [] })
definition_is_written = subst
    (λ o. IfSome o (λ node. (i : ℕ)
    × WritesNode defining_bool defining unbound [] (node_number 0) node (index_in (0 ∷ [])) [] [] [] (type_item (value_def (primitive_def prim.Bool)) ∷ export_item (codes "foo") s.«Type» 0 ∷ []) i × (1 ∷ [] ≡ slice_set (0 ∷ []) 0 i)))
    (sym (node_0 base defined))
    (1, writes_definition of_bool (codes "foo") 0 bool_type refl refl refl refl bool_type_is_written refl refl, refl)

-- no type without a tree is written as a definition
pub no_absent_type : (items : List Item) (k : ℕ) → WritesTypeWith absent [] items k → ⊥
no_absent_type items k w = w.there refl

-- nor a resource
pub no_resource_type : (l : Leaf) (items : List Item) (k : ℕ) → WritesTypeWith (resource l) [] items k → ⊥
no_resource_type l items k w = w.no_resource tt

-- items that lose the second name do not mean the graph
pub no_lost_export : Means (type_item (value_def (primitive_def prim.Bool)) ∷ export_item (codes "foo") s.«Type» 0 ∷ []) defining_bool defining → ⊥
no_lost_export m = two_are_not_one (m.exports ∙ ap (λ ns. flat_map (first_export defining_bool m.at) ns ++ flat_map (export_of defining_bool m.at) (further_exports defining_bool)) order_is
    ∙ ap (λ xs. xs ++ flat_map (export_of defining_bool m.at) (further_exports defining_bool)) (bool_first m.at)
    ∙ ap (λ es. (codes "foo", s.«Type», m.at (node_number 0)) ∷ flat_map (export_of defining_bool m.at) es) bool_further ∙ other) where
      other : (codes "foo", s.«Type», m.at (node_number 0)) ∷ flat_map (export_of defining_bool m.at) ((codes "bar", node_number 0) ∷ []) ≡ (codes "foo", s.«Type», m.at (node_number 0)) ∷ (codes "bar", s.«Type», m.at (node_number 0)) ∷ []
      other = rw (node_0 base defined) refl

      order_is : m.order ≡ node_number 0 ∷ []
      order_is = one_order defining_bool.edges (is_written defining_bool) m.order (node_number 0 ∷ []) m.in_order (one_in_order base defined refl)

      two_are_not_one : {A : Type 0} {x y z : A} → x ∷ [] ≡ y ∷ z ∷ [] → ⊥
      two_are_not_one h = cc

-- ---- an interface that uses an enum of another, and lists it: the other is imported, without its function
abbrev using : Collection
using = record {
  resources = [];
  funcs = record { item = record { params = []; result = None; is_async = false }; before = 0 } ∷ [];
  defined = record { item = def.Enum (record { 0 = codes "a" ∷ [] }); before = 1 } ∷ [];
  interfaces =
      record { item = record { id = Some (codes "n:p/j"); uses = []; exports = (codes "t", item.TypeItem (ty.Value (val.Defined (record { 0 = 0 })))) ∷ (codes "g", item.Func (record { 0 = 0 })) ∷ [] }; before = 2 }
      ∷ record { item = record { id = Some (codes "n:p/i"); uses = (codes "t", record { interface = record { 0 = 0 }; name = None }) ∷ []; exports = (codes "t", item.TypeItem (ty.Value (val.Defined (record { 0 = 0 })))) ∷ [] }; before = 3 } ∷ [];
  worlds = [];
  modules = [];
}

abbrev imports_in : Tree → Name → Tree
imports_in (component imports exports) = imports
imports_in _ = λ _. absent

abbrev exports_in : Tree → Name → Tree
exports_in (component imports exports) = exports
exports_in _ = λ _. absent

abbrev of_i : Tree
of_i = sides_tree using (interface_sides using (record { 0 = 1 }))

-- the type stays in what is imported
pub used_type_stays : items_in (type_in (imports_in of_i (codes "n:p/j"))) (codes "t") ≡ type_equal (enum_of (codes "a" ∷ []))
unfolding held_tree
used_type_stays = refl

-- the function is cut
pub used_function_is_cut : items_in (type_in (imports_in of_i (codes "n:p/j"))) (codes "g") ≡ absent
unfolding held_tree
used_function_is_cut = refl

-- the interface is exported whole
pub interface_is_exported : items_in (type_in (exports_in of_i (codes "n:p/i"))) (codes "t") ≡ type_equal (enum_of (codes "a" ∷ []))
unfolding held_tree
interface_is_exported = refl
