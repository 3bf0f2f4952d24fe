-- Worked examples: an import node's index is that of its import, and not that of an alias of it.
use Rattle.std.proofs.Common.{◌≡◌, ℕ, true, false, List, [], ◌∷◌, ◌++◌, length, map, codes, Some, None, refl, ap, sym, ◌∙◌, append_assoc, arith}
use Rattle.std.specs.FinMap as finite
use Rattle.std.specs.FinSet as set
use Rattle.std.specs.List.{flat_map}
use Rattle.std.specs.Prelude.{slice_get}
use Rattle.std.proofs.lemmas.List.{length-append}
use Rattle.std.specs.Cmp.{nat_cmp_total}
use Rattle.wac_types_shapes.specs.declared.shapes.component.ItemKind.TheVariants as item
use Rattle.wac_types_collection.specs.collection.Collection.{empty}
use Rattle.wac_binary.specs.declared.sorts.Sort.TheVariants as s
use Rattle.wac_binary.specs.declared.sorts.Description.TheVariants as e
use Rattle.wac_binary.specs.Items.{Item, core_type, alias_item, outer_alias, import_item, export_item}
use Rattle.wac_binary.specs.Indexes.{space, indexes}
use Rattle.wac_binary.specs.Meaning.{import_at, meaning, stands_for}
use Rattle.wac_edges.specs.declared.node.NodeId.{NodeId}
use Rattle.wac_edges.specs.Edge.{node_number}
use Rattle.wac_graph_model.specs.declared.nodes.options.EncodeOptions.{EncodeOptions}
use Rattle.wac_graph_model.specs.nodes.Graph as graph
use Rattle.wac_graph_model.specs.nodes.Graph.{Graph, GraphNode, node_at}
use Rattle.wac_graph_model.specs.meaning.Means.{Means, HasItem, is_own_item, export_item_of, further_exports, custom_item}

-- the import `m` of a core module, exported as `y`
abbrev import_of_m : GraphNode
import_of_m = record { kind = graph.import (codes "m"); item_kind = item.Module (record { 0 = 0 }); owner = None; name = None; export_name = Some (codes "y"); first_name = None }

abbrev importing : Graph
importing = record { types = empty; nodes = finite.from_entries ((0, import_of_m) ∷ []); next = 1; edges = set.empty; exports = (codes "y", node_number 0) ∷ []; slots = []; vacant = [] }

at_0 : node_at importing (node_number 0) ≡ Some import_of_m
at_0 = finite.get-from_entries nat_cmp_total ((0, import_of_m) ∷ []) 0

-- the import, an outer alias of it with count 0, and the export of the index i
abbrev exporting : ℕ → List Item
exporting i = core_type [] ∷ import_item (codes "m") (e.CoreModule 0) ∷ alias_item (outer_alias s.CoreModule 0 0) ∷ export_item (codes "y") s.CoreModule i ∷ []

-- both indexes refer to the import
import_refers : stands_for (meaning (exporting 0)) s.CoreModule 0 ≡ import_at 0
import_refers = refl

alias_refers : stands_for (meaning (exporting 1)) s.CoreModule 1 ≡ import_at 0
alias_refers = refl

-- the first one is the import's own
own_import : HasItem (exporting 0) import_of_m 0 1
own_import = record {
  it = import_item (codes "m") (e.CoreModule 0);
  before = core_type [] ∷ [];
  after = alias_item (outer_alias s.CoreModule 0 0) ∷ export_item (codes "y") s.CoreModule 0 ∷ [];
  split = refl;
  here = refl;
  own = refl;
  adds = refl;
  counted = refl;
}

one_item : (x y : Item) → Some x ≡ Some y → x ≡ y
one_item x y e = cc

-- no item of its own has index 1
no_own_alias : (before : List Item) (it : Item) (after : List Item) → exporting 1 ≡ before ++ it ∷ after → is_own_item import_of_m import_of_m.kind it ≡ true → 1 ≡ indexes (space s.CoreModule) before → ⊥
no_own_alias [] it after split own counted = let wrong : 1 ≡ 0 = counted in absurd (omega (arith, wrong))
no_own_alias (a ∷ []) it after split own counted =
    let same : core_type [] ≡ a = one_item (core_type []) a (ap (λ xs. slice_get xs 0) split) in
    let wrong : 1 ≡ 0 = counted ∙ ap (λ x. indexes (space s.CoreModule) (x ∷ [])) (sym same) in
    absurd (omega (arith, wrong))
no_own_alias (a ∷ b ∷ []) it after split own counted =
    let same : alias_item (outer_alias s.CoreModule 0 0) ≡ it = one_item (alias_item (outer_alias s.CoreModule 0 0)) it (ap (λ xs. slice_get xs 2) split) in
    let wrong : false ≡ true = ap (is_own_item import_of_m import_of_m.kind) same ∙ own in
    cc
no_own_alias (a ∷ b ∷ c ∷ []) it after split own counted =
    let same : export_item (codes "y") s.CoreModule 1 ≡ it = one_item (export_item (codes "y") s.CoreModule 1) it (ap (λ xs. slice_get xs 3) split) in
    let wrong : false ≡ true = ap (is_own_item import_of_m import_of_m.kind) same ∙ own in
    cc
no_own_alias (a ∷ b ∷ c ∷ d ∷ rest) it after split own counted =
    let long : 4 ≡ length ((a ∷ b ∷ c ∷ d ∷ rest) ++ it ∷ after) = ap length split in
    let sum = length-append (a ∷ b ∷ c ∷ d ∷ rest) (it ∷ after) in
    absurd (omega (arith, long, sum))

-- the last item, and the index that it exports
abbrev last_of : List Item → Item → Item
last_of [] x = x
last_of (x ∷ xs) y = last_of xs x

last-push : (xs : List Item) (x y : Item) → last_of (xs ++ x ∷ []) y ≡ x
last-push [] x y = refl
last-push (z ∷ xs) x y = last-push xs x z

abbrev exported_index : Item → ℕ
exported_index (export_item name t i) = i
exported_index _ = 0

further : further_exports importing ≡ importing.exports
further = rw at_0 refl

exported : (index : NodeId → ℕ) → flat_map (export_item_of importing index) importing.exports ≡ export_item (codes "y") s.CoreModule (index (node_number 0)) ∷ []
exported index = rw at_0 refl

exports_are : (index : NodeId → ℕ) → flat_map (export_item_of importing index) (further_exports importing) ++ map custom_item (meaning (exporting 1)).customs ≡ export_item (codes "y") s.CoreModule (index (node_number 0)) ∷ []
exports_are index = ap (λ es. flat_map (export_item_of importing index) es ++ []) further ∙ ap (λ xs. xs ++ []) (exported index)

-- so the items that export the alias do not mean the graph
no_alias_of_an_import : (o : EncodeOptions) → Means (exporting 1) importing o → ⊥
no_alias_of_an_import o means =
    let x : Item = export_item (codes "y") s.CoreModule (means.index (node_number 0)) in
    let last : exporting 1 ≡ means.body ++ flat_map (export_item_of importing means.index) (further_exports importing) ++ map custom_item (meaning (exporting 1)).customs = means.last in
    let whole : exporting 1 ≡ means.body ++ x ∷ [] =
    last ∙ append_assoc means.body (flat_map (export_item_of importing means.index) (further_exports importing)) (map custom_item (meaning (exporting 1)).customs) ∙ ap (λ xs. means.body ++ xs) (exports_are means.index) in
    let here : 1 ≡ means.index (node_number 0) = ap (λ xs. exported_index (last_of xs x)) whole ∙ ap exported_index (last-push means.body x x) in
    let h = means.own_items (node_number 0) import_of_m at_0 in
    no_own_alias h.before h.it h.after h.split h.own (here ∙ h.counted)
