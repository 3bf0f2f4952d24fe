-- What a merge of all that a graph asks for says of the graph's imports.
use Rattle.std.proofs.Common.{◌≡◌, ℕ, zero, suc, ◌+◌, ◌<◌, Bool, true, false, not, ◌||◌, cond, ◌↔◌, List, [], ◌∷◌, ◌++◌, length, map, refl, ap, ◌∙◌, sym, subst, arith, Option, Some}
use Rattle.std.specs.List.{AllByRecursion, filter, flat_map}
use Rattle.std.specs.Prelude.{slice_get, take, Contains}
use Rattle.std.proofs.lemmas.List.{length-take-le}
use Rattle.std.proofs.lemmas.Option.{slice_get_within, get_or_from_slice_get, slice_get-get_or}
use Rattle.wac_types_shapes.specs.primitives.Name.{Name, same_name}
use Rattle.wac_types_shapes.proofs.lemmas.shapes.Names.{same_name-from, take_at}
use Rattle.wac_types_shapes.specs.primitives.Tree.{imported, position}
use Rattle.wac_types_collection.specs.collection.Collection.{Collection}
use Rattle.wac_types_collection.specs.subtyping.Subtype.{IsSubtype}
use Rattle.wac_merge_classes.specs.entries.Binding.{root_bindings}
use Rattle.wac_merge_classes.specs.entries.Classes.{Entry, NameRules, by_names, same_class, members, newest, canonical, names_of_classes, class_names, is_asked, imported_as, ClassLaws}
use Rattle.wac_merge_classes.specs.terms.ClassOrder.{IsWrittenOrder}
use Rattle.wac_merge_classes.specs.terms.Merge.{Merged, IsMerge}
use Rattle.wac_binary.specs.declared.sorts.Sort.{Sort}
use Rattle.wac_binary.specs.Items.{Item}
use Rattle.wac_edges.specs.declared.node.NodeId.{NodeId}
use Rattle.wac_edges.specs.Order.{Writes}
use Rattle.wac_graph_model.specs.declared.nodes.options.EncodeOptions.{EncodeOptions}
use Rattle.wac_graph_model.specs.nodes.Graph as graph
use Rattle.wac_graph_model.specs.nodes.Graph.{Graph, GraphNode, node_at}
use Rattle.wac_graph_model.specs.nodes.Sound.{IsSound}
use Rattle.wac_graph_model.specs.nodes.OuterImports.{outer_entries, outer_bindings, AreOuterImports, IsImportPlace}
use Rattle.wac_graph_model.specs.meaning.Means.{is_written, sort_of_kind, export_item_of, further_exports, AreNames, Means, name_customs, processor_customs, custom_item}
use Rattle.wac_graph_model.specs.private.meaning.Beginning.{Places, IsPlacedAt, Begins, IsPlacedNode}
use Rattle.wac_graph_model.specs.private.meaning.MergedImports.{merged_item, imports_from, merged_imports, IsMergeOf, IsFoundAt}
use Rattle.wac_graph_model.specs.private.meaning.Encoding.{Progress, index_in, HasRoom}
use Rattle.wac_graph_model.specs.private.meaning.WrittenSoFar.{IsWrittenSoFar}
use Rattle.wac_graph_model.proofs.lemmas.meaning.AskedMembers.{IsIn, in_filter, import_asked}
use Rattle.wac_graph_model.proofs.lemmas.meaning.EncodeLemmas.{written_begins, written_means}
use Rattle.wac_graph_model.proofs.lemmas.meaning.MeaningLemmas.{Laws}
use Rattle.wac_graph_model.proofs.lemmas.meaning.MergedCover.{subtype_covers}

from-length : (m : Merged) (p : ℕ) (es : List Entry) → length (imports_from m p es) ≡ length es
from-length m p [] = refl
from-length m p (e ∷ es) = ap suc (from-length m (suc p) es)

from-at : (m : Merged) (q : ℕ) (es : List Entry) (p : ℕ) (e : Entry) → slice_get es p ≡ Some e → slice_get (imports_from m q es) p ≡ Some (e.name, merged_item m (q + p) e)
from-at m q [] p e at = cc
from-at m q (x ∷ es) zero e at =
    let same : x ≡ e = cc in
    let here : q ≡ q + 0 = omega arith in
    ap (λ z. Some (z.name, merged_item m q z)) same ∙ ap (λ k. Some (e.name, merged_item m k e)) here
from-at m q (x ∷ es) (suc p) e at = let next : suc q + p ≡ q + suc p = omega arith in from-at m (suc q) es p e at ∙ ap (λ k. Some (e.name, merged_item m k e)) next

-- the import at a position
pub merged_at : (m : Merged) (p : ℕ) (e : Entry) → slice_get m.imports p ≡ Some e → slice_get (merged_imports m) p ≡ Some (e.name, merged_item m p e)
merged_at m p e at = let here : 0 + p ≡ p = omega arith in from-at m 0 m.imports p e at ∙ ap (λ k. Some (e.name, merged_item m k e)) here

-- one import more
from_more : (m : Merged) (q : ℕ) (es : List Entry) (e : Entry) → imports_from m q (es ++ e ∷ []) ≡ imports_from m q es ++ (e.name, merged_item m (q + length es) e) ∷ []
from_more m q [] e = let here : q ≡ q + 0 = omega arith in ap (λ k. (e.name, merged_item m k e) ∷ []) here
from_more m q (x ∷ es) e =
    let next : suc q + length es ≡ q + length (x ∷ es) = omega arith in
    ap (λ is. (x.name, merged_item m q x) ∷ is) (from_more m (suc q) es e ∙ ap (λ k. imports_from m (suc q) es ++ (e.name, merged_item m k e) ∷ []) next)

-- the first so many imports, and the next
pub imports_next : (m : Merged) (p : ℕ) (e : Entry) → slice_get m.imports p ≡ Some e → imports_from m 0 (take (suc p) m.imports) ≡ imports_from m 0 (take p m.imports) ++ (e.name, merged_item m p e) ∷ []
imports_next m p e at =
    let count : 0 + length (take p m.imports) ≡ p = omega (arith, length-take-le p m.imports (omega (arith, slice_get_within m.imports p e at))) in
    ap (imports_from m 0) (take_at m.imports p e at) ∙ from_more m 0 (take p m.imports) e ∙ ap (λ k. imports_from m 0 (take p m.imports) ++ (e.name, merged_item m k e) ∷ []) count

the_entry : {A : Type 0} (xs : List A) (p : ℕ) → p < length xs → (x : A) × (slice_get xs p ≡ Some x)
the_entry [] p h = absurd (omega (arith, h))
the_entry (x ∷ xs) zero h = (x, refl)
the_entry (x ∷ xs) (suc p) h = the_entry xs p (omega (arith, h))

one_of : {A : Type 0} (o : Option A) (x y : A) → o ≡ Some x → o ≡ Some y → x ≡ y
one_of o x y a b = cc

-- a class's canonical name is of the class
newest_of : (rules : NameRules) (P : Name → Type 0) (n : Name) (es : List Entry) → P n → AllByRecursion (λ e. P e.name) es → P (newest rules n es)
newest_of rules P n [] here all = here
newest_of rules P n (e ∷ es) here all = newest_of rules P (cond (rules.is_newer e.name n) e.name n) es (either (rules.is_newer e.name n)) all.1 where
  either : (b : Bool) → P (cond b e.name n)
  either true = all.0
  either false = here

all_pass : (test : Entry → Bool) (P : Entry → Type 0) → ((e : Entry) → test e ≡ true → P e) → (es : List Entry) → AllByRecursion P (filter test es)
all_pass test P each [] = tt
all_pass test P each (e ∷ es) = split (test e) refl (all_pass test P each es) where
  split : (b : Bool) → test e ≡ b → AllByRecursion P (filter test es) → AllByRecursion P (cond (test e) (e ∷ filter test es) (filter test es))
  split true is rest = subst (λ b. AllByRecursion P (cond b (e ∷ filter test es) (filter test es))) (sym is) (each e is, rest)
  split false is rest = subst (λ b. AllByRecursion P (cond b (e ∷ filter test es) (filter test es))) (sym is) rest

pub canonical_in : ClassLaws → (es : List Entry) (n : Name) → same_class by_names es n (canonical by_names es n) ≡ true
canonical_in laws es n = newest_of by_names (λ m. same_class by_names es n m ≡ true) n (members by_names es n) (laws.reflexive es n) (all_pass (λ e. same_class by_names es n e.name) (λ e. same_class by_names es n e.name ≡ true) (λ e is. is) es)

-- a written order has the number of each class
abbrev pub OrderHasClasses : Type 0
OrderHasClasses = (c : Collection) (es : List Entry) (order : List ℕ) → IsWrittenOrder by_names c es order → (k : ℕ) → (Contains order k ↔ k < length (class_names by_names es))

contains : (xs : List ℕ) (p k : ℕ) → slice_get xs p ≡ Some k → Contains xs k
contains xs p k at = (p, slice_get_within xs p k at, get_or_from_slice_get xs p k k at)

stands_at : (xs : List ℕ) (k : ℕ) → Contains xs k → IsIn xs k
stands_at xs k (p, within, is) = (p, slice_get-get_or xs p k within ∙ ap Some is)

-- each entry is of a class
module _ (laws : ClassLaws) (es : List Entry) where
  class_of : (xs : List Entry) (x : Entry) → IsIn xs x → (class : Name) × IsIn (names_of_classes by_names es xs) class × (same_class by_names es class x.name ≡ true)
  class_of [] x (i, at) = cc
  class_of (e ∷ xs) x (zero, at) = let same : e ≡ x = cc in (e.name, (0, refl), subst (λ (z : Entry). same_class by_names es e.name z.name ≡ true) same (laws.reflexive es e.name))
  class_of (e ∷ xs) x (suc i, at) = later (class_of xs x (i, at)) where
    later : ((class : Name) × IsIn (names_of_classes by_names es xs) class × (same_class by_names es class x.name ≡ true)) → (class : Name) × IsIn (names_of_classes by_names es (e ∷ xs)) class × (same_class by_names es class x.name ≡ true)
    later (class, within, same) = split (same_class by_names es e.name class) refl where
      split : (b : Bool) → same_class by_names es e.name class ≡ b → (class : Name) × IsIn (names_of_classes by_names es (e ∷ xs)) class × (same_class by_names es class x.name ≡ true)
      split true is = (e.name, (0, refl), laws.transitive es e.name class x.name is same)
      split false is = let (j, there) = in_filter (λ n. not (same_class by_names es e.name n)) (names_of_classes by_names es xs) class within (ap not is) in (class, (suc j, there), same)

  -- a class's name is asked for
  from_filter : (test : Name → Bool) (ns : List Name) (n : Name) → IsIn (filter test ns) n → IsIn ns n
  from_filter test [] n (i, at) = cc
  from_filter test (m ∷ ns) n h = split (test m) h (from_filter test ns n) where
    split : (b : Bool) → IsIn (cond b (m ∷ filter test ns) (filter test ns)) n → (IsIn (filter test ns) n → IsIn ns n) → IsIn (m ∷ ns) n
    split true (zero, at) later = (0, at)
    split true (suc i, at) later = let (j, there) = later (i, at) in (suc j, there)
    split false h later = let (j, there) = later h in (suc j, there)

  name_asked : (xs : List Entry) (class : Name) → IsIn (names_of_classes by_names es xs) class → is_asked xs class ≡ true
  name_asked [] class (i, at) = cc
  name_asked (e ∷ xs) class (zero, at) = let same : e.name ≡ class = cc in ap (λ b. b || is_asked xs class) (same_name-from e.name class same)
  name_asked (e ∷ xs) class (suc i, at) = rw (name_asked xs class (from_filter (λ n. not (same_class by_names es e.name n)) (names_of_classes by_names es xs) class (i, at))) (or_yes (same_name e.name class)) where
    or_yes : (b : Bool) → (b || true) ≡ true
    or_yes true = refl
    or_yes false = refl

entry_asked : (xs : List Entry) (x : Entry) → IsIn xs x → is_asked xs x.name ≡ true
entry_asked [] x (i, at) = cc
entry_asked (e ∷ xs) x (zero, at) = let same : e ≡ x = cc in ap (λ b. b || is_asked xs x.name) (same_name-from e.name x.name (ap (λ (z : Entry). z.name) same))
entry_asked (e ∷ xs) x (suc i, at) = rw (entry_asked xs x (i, at)) (or_yes (same_name e.name x.name)) where
  or_yes : (b : Bool) → (b || true) ≡ true
  or_yes true = refl
  or_yes false = refl

-- the name under which a name that is asked for is imported is the canonical one
pub imported_canonical : (es : List Entry) (x : Entry) → IsIn es x → imported_as by_names es x.name ≡ canonical by_names es x.name
imported_canonical es x within = ap (λ b. cond b (canonical by_names es x.name) x.name) (entry_asked es x within)

module _ (g : Graph) (m : Merged) (merge : IsMerge by_names g.types (outer_entries g) m) where
  -- the merged imports are those of the graph
  pub outer_of_merge : AreOuterImports g (merged_imports m)
  outer_of_merge = record {
    order = merge.order;
    written = merge.written;
    count = from-length m 0 m.imports ∙ merge.count;
    each = λ p k class x placed of_class there.
        let (e, at) = the_entry m.imports p (subst (λ n. p < n) (sym merge.count) (slice_get_within merge.order p k placed)) in
        let is : x ≡ (e.name, merged_item m p e) = one_of (slice_get (merged_imports m) p) x (e.name, merged_item m p e) there (merged_at m p e at) in
        is ∙ ap (λ n. (n, merged_item m p e)) (merge.names p k class e placed of_class at) ∙ ap (λ t. (canonical by_names (outer_entries g) class, t)) (merge.items p k class e placed of_class at);
  }

  -- the import with the canonical name of a name is that into which the name fell
  pub place_of_name : ClassLaws → OrderHasClasses → (p : ℕ) (e : Entry) → slice_get m.imports p ≡ Some e → (name : Name) → e.name ≡ canonical by_names (outer_entries g) name
      → (k : ℕ) × (class : Name) × (slice_get merge.order p ≡ Some k) × (slice_get (class_names by_names (outer_entries g)) k ≡ Some class) × (same_class by_names (outer_entries g) class name ≡ true)
  place_of_name laws has_classes p e at name named =
      let (k, placed) = the_entry merge.order p (subst (λ n. p < n) merge.count (slice_get_within m.imports p e at)) in
      let (class, of_class) = the_entry (class_names by_names (outer_entries g)) k ((has_classes g.types (outer_entries g) merge.order merge.written k).0 (contains merge.order p k placed)) in
      let es = outer_entries g in
      let alike : canonical by_names es class ≡ canonical by_names es name = sym (merge.names p k class e placed of_class at) ∙ named in
      let here : same_class by_names es class (canonical by_names es name) ≡ true = subst (λ n. same_class by_names es class n ≡ true) alike (canonical_in laws es class) in
      let there : same_class by_names es (canonical by_names es name) name ≡ true = laws.symmetric es name (canonical by_names es name) (canonical_in laws es name) in
      (k, class, placed, of_class, laws.transitive es class (canonical by_names es name) name here there)

  pub import_place : ClassLaws → OrderHasClasses → (p : ℕ) (e : Entry) → slice_get m.imports p ≡ Some e → (name : Name) → e.name ≡ canonical by_names (outer_entries g) name → IsImportPlace g name p
  import_place laws has_classes p e at name named =
      let (k, class, placed, of_class, same) = place_of_name laws has_classes p e at name named in
      record { order = merge.order; written = merge.written; number = k; placed = placed; of_class = (class, of_class, same) }

  -- what is asked for has an import under the canonical name of its name
  pub found_name : ClassLaws → OrderHasClasses → (x : Entry) → IsIn (outer_entries g) x → (p : ℕ) × (e : Entry) × (slice_get m.imports p ≡ Some e) × (e.name ≡ canonical by_names (outer_entries g) x.name)
  found_name laws has_classes x within =
      let es = outer_entries g in
      let (class, (k, of_class), same) = class_of laws es es x within in
      let small : k < length (class_names by_names es) = slice_get_within (class_names by_names es) k class of_class in
      let (p, placed) = stands_at merge.order k ((has_classes g.types es merge.order merge.written k).1 small) in
      let (e, at) = the_entry m.imports p (subst (λ n. p < n) (sym merge.count) (slice_get_within merge.order p k placed)) in
      (p, e, at, merge.names p k class e placed of_class at ∙ laws.canonical_alike es class x.name (name_asked laws es es class (k, of_class)) (entry_asked es x within) same)

all_of_filter : (test : Entry → Bool) (P : Entry → Type 0) (es : List Entry) (e : Entry) → AllByRecursion P (filter test es) → IsIn es e → test e ≡ true → P e
all_of_filter test P es e all within passes = let (i, at) = in_filter test es e within passes in each (filter test es) i all at where
  each : (xs : List Entry) (i : ℕ) → AllByRecursion P xs → slice_get xs i ≡ Some e → P e
  each [] i all at = cc
  each (x ∷ xs) zero all at = let same : x ≡ e = cc in subst P same all.0
  each (x ∷ xs) (suc i) all at = each xs i all.1 at

-- the import of what is asked for is a subtype of it
pub found_subtype : ClassLaws → OrderHasClasses → (g : Graph) (m : Merged) → IsMergeOf g m → (x : Entry) → IsIn (outer_entries g) x → (p : ℕ) (e : Entry) → slice_get m.imports p ≡ Some e → e.name ≡ canonical by_names (outer_entries g) x.name → IsSubtype m.types e.kind g.types x.kind
found_subtype laws has_classes g m whole x within p e at named =
    let (k, class, placed, of_class, same) = place_of_name g m whole.merge laws has_classes p e at x.name named in
    all_of_filter (λ y. same_class by_names (outer_entries g) class y.name) (λ member. IsSubtype m.types e.kind g.types member.kind) (outer_entries g) x (whole.merge.subtypes p k class e placed of_class at) within same

placed_node : ClassLaws → OrderHasClasses → (g : Graph) → IsSound g → (m : Merged) → IsMergeOf g m → (places : Places) (index : NodeId → ℕ) (n : NodeId) (node : GraphNode) (name : Name)
    → node_at g n ≡ Some node → node.kind ≡ graph.import name → IsFoundAt g m places name (sort_of_kind node.item_kind) (index n) → (p : ℕ) × IsImportPlace g name p × IsPlacedNode g (merged_imports m) places index n node p
placed_node laws has_classes g sound m whole places index n node name there kind found =
    let p : ℕ = found.p in
    let e : Entry = found.entry in
    let (k, class, placed, of_class, same) = place_of_name g m whole.merge laws has_classes p e found.there name found.named in
    let subtype : IsSubtype m.types e.kind g.types node.item_kind =
    all_of_filter (λ x. same_class by_names (outer_entries g) class x.name) (λ member. IsSubtype m.types e.kind g.types member.kind) (outer_entries g) (record { name = name; kind = node.item_kind })
    (whole.merge.subtypes p k class e placed of_class found.there) (import_asked g n node name there kind) same in (
      p,
      import_place g m whole.merge laws has_classes p e found.there name found.named,
      record {
        placed = found.placed;
        entry = (e.name, merged_item m p e);
        there = merged_at m p e found.there;
        covers = subtype_covers m.types g.types whole.merged_ordered whole.ordered whole.once whole.merged_once e.kind node.item_kind (whole.held p e found.there) (sound.held n node there) subtype
            (root_bindings by_names m.types m.imports (λ i. i)) imported (position p ∷ []);
      },
    )

-- the import of an argument that is not set
pub placed_argument : ClassLaws → OrderHasClasses → (g : Graph) (m : Merged) → IsMerge by_names g.types (outer_entries g) m → (places : Places) (name : Name) (t : Sort) (i : ℕ) → IsFoundAt g m places name t i → IsPlacedAt g places name t i
placed_argument laws has_classes g m merge places name t i found = record { p = found.p; fell = import_place g m merge laws has_classes found.p found.entry found.there name found.named; placed = found.placed }

-- no node is written at the start, after the imports of a merge
pub merged_begins : ClassLaws → OrderHasClasses → (g : Graph) → IsSound g → (m : Merged) → (whole : IsMergeOf g m) → (o : EncodeOptions) (places : Places) (order : List NodeId) (begin : List Item) (indexes : List ℕ)
    → Writes g.edges (is_written g) order → Begins (merged_imports m) places begin → HasRoom g indexes
    → ((n : NodeId) (node : GraphNode) (name : Name) → node_at g n ≡ Some node → node.kind ≡ graph.import name → IsFoundAt g m places name (sort_of_kind node.item_kind) (index_in indexes n))
    → IsWrittenSoFar g o (merged_imports m) (outer_bindings g whole.merge.order) places order [] (record { items = begin; components = []; indexes = indexes })
merged_begins class_laws has_classes g sound m whole o places order begin indexes writes begins room found =
    written_begins g o (merged_imports m) (outer_bindings g whole.merge.order) places order begin indexes writes begins room
    (λ n node name there kind. placed_node class_laws has_classes g sound m whole places (index_in indexes) n node name there kind (found n node name there kind))

-- Where all nodes are written after the imports of a merge of all that is asked for, then the exports, the names and the processor, the items mean the graph.
pub merged_means : Laws → (g : Graph) → IsSound g → (m : Merged) → (whole : IsMergeOf g m) → (o : EncodeOptions) (places : Places) (order : List NodeId) (q : Progress)
    → IsWrittenSoFar g o (merged_imports m) (outer_bindings g whole.merge.order) places order order q
    → (names : List (Sort × ℕ × Name)) → AreNames g (index_in q.indexes) names
    → (items with_names written : List Item) → items ≡ q.items ++ flat_map (export_item_of g (index_in q.indexes)) (further_exports g)
    → with_names ≡ items ++ map custom_item (name_customs names) → written ≡ with_names ++ map custom_item (processor_customs o.processor) → Means written g o
unfolding outer_of_merge
merged_means laws g sound m whole o places order q s names named items with_names written end next last =
    written_means laws g sound o (merged_imports m) (outer_bindings g whole.merge.order) (outer_of_merge g m whole.merge) refl places order q s names named items with_names written end next last
