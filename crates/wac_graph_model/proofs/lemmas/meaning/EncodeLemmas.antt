-- From what is written of a graph so far, behind items that begin with its imports, to items that mean it.
use Rattle.std.proofs.Common.{◌≡◌, ℕ, ◌+◌, ◌<◌, Bool, true, false, ◌||◌, cond, List, [], ◌∷◌, ◌++◌, length, map, refl, ap, ◌∙◌, sym, subst, arith, append_assoc, Option, Some, None, IfSome, IsSome, is_some, inl, inr}
use Rattle.std.specs.List.{flat_map}
use Rattle.std.specs.Prelude.{slice_get, slice_set}
use Rattle.std.proofs.lemmas.Bool.Decides.{nat_tests}
use Rattle.std.proofs.lemmas.List.{append-nil, map-append, length-set, get_or-set_same, get_or-set_other}
use Rattle.std.proofs.lemmas.List.Elements.{filter-append}
use Rattle.std.proofs.lemmas.List.Folds.{list_any-append}
use Rattle.std.proofs.lemmas.Grind.{flat_map-append}
use Rattle.wac_types_shapes.specs.primitives.Name.{Name, option_case}
use Rattle.wac_types_shapes.specs.declared.shapes.component.InterfaceId.{InterfaceId}
use Rattle.wac_types_shapes.specs.declared.shapes.component.ItemKind.{ItemKind}
use Rattle.wac_types_shapes.specs.declared.shapes.component.ItemKind.TheVariants as item
use Rattle.wac_types_shapes.specs.primitives.Tree.{Tree, instance_item}
use Rattle.wac_types_collection.specs.collection.Bound.{Bindings}
use Rattle.wac_binary.specs.declared.sorts.Sort.{Sort}
use Rattle.wac_binary.specs.declared.sorts.Sort.TheVariants as sort
use Rattle.wac_binary.specs.Items.{Item, custom, nested, instantiate, alias_item, export_alias, import_item, export_item}
use Rattle.wac_binary.specs.Indexes.{space, indexes}
use Rattle.wac_binary.specs.Unfold.{bound_at}
use Rattle.wac_binary.specs.Meaning.{Thing, nothing, stands_for, meaning}
use Rattle.wac_binary.specs.HasMeaning.{HasMeaning, IsSomething}
use Rattle.wac_encode_faults.specs.Trees.{definition_tree}
use Rattle.wac_edges.specs.declared.node.NodeId.{NodeId}
use Rattle.wac_graph_model.specs.declared.nodes.packages.PackageId.{PackageId}
use Rattle.wac_graph_model.specs.declared.nodes.options.EncodeOptions.{EncodeOptions}
use Rattle.wac_graph_model.specs.nodes.Graph as graph
use Rattle.wac_graph_model.specs.nodes.Graph.{Graph, GraphNode, Kind, node_at}
use Rattle.wac_graph_model.specs.nodes.OuterImports.{AreOuterImports, outer_bindings}
use Rattle.wac_graph_model.specs.nodes.Sound.{IsSound}
use Rattle.wac_edges.specs.Order.{Writes, IsLowestReady}
use Rattle.wac_graph_model.specs.meaning.Means.{node_is, is_import, is_instantiation, is_written, instantiations, sort_of_kind, with_package, used_after, used_packages, package_bytes, package_components, package_imports, AreInstantiations, IsThing, as_import, HasItem, is_own_item, shown, first_export, export_of, export_item_of, AreNames, Means, further_exports, name_customs, processor_customs, custom_item}
use Rattle.wac_graph_model.specs.private.meaning.Beginning.{Places, HasImport, Begins, Covers, IsPlacedNode}
use Rattle.wac_graph_model.specs.private.meaning.Encoding.{adds_nested, adds_import, HasComponent, Progress, index_in, HasRoom}
use Rattle.wac_graph_model.specs.private.meaning.Writing.{WritesNode, writes_instantiation, writes_alias, writes_definition, Wrote, WroteAll}
use Rattle.wac_graph_model.specs.private.meaning.WrittenSoFar.{ArePlacedNodes, IsWrittenSoFar}
use Rattle.wac_edges.proofs.WrittenOrder.{has, minus, minus-push, minus-true, same, same_itself, now_in, written_left, all_in, slice_get-middle}
use Rattle.wac_graph_model.proofs.lemmas.meaning.ThingLemmas.{Stands, written_node, node_of_written, AreImported}
use Rattle.wac_graph_model.proofs.lemmas.meaning.CoverLemmas.{IsKnown}
use Rattle.wac_graph_model.proofs.lemmas.meaning.MeantLemmas.{meant-push, something, IsAmong, IsFirstAmong, new_name}
use Rattle.wac_graph_model.proofs.lemmas.meaning.FurtherLemmas.{further_there, further_new, further_no_first}
use Rattle.wac_graph_model.proofs.lemmas.meaning.MeaningLemmas.{Laws, export_shown, export_others, custom_rest, indexes-push}
use Rattle.wac_graph_model.proofs.lemmas.meaning.WrittenLemmas.{Written, with_type, with_component, instance_more, alias_more, definition_more, used-append, HasItem-push, used_prefix}
use Rattle.wac_graph_model.proofs.lemmas.meaning.DefinedLemmas.{imported_packages, nested_none, imported_none}

clash : (b : Bool) → b ≡ true → b ≡ false → ⊥
clash true _ h = cc
clash false h _ = cc

the_node : (o : Option GraphNode) → IsSome o → (node : GraphNode) × (o ≡ Some node)
the_node None h = cc
the_node (Some node) h = (node, refl)

one_node : (x y : GraphNode) → Some x ≡ Some y → x ≡ y
one_node x y e = cc

plus_none : (n : ℕ) → n ≡ n + 0
plus_none n = omega arith

-- an import is an import node's own item
own_import : (items : List Item) (node : GraphNode) (name : Name) (i k : ℕ) → node.kind ≡ graph.import name → HasImport items (sort_of_kind node.item_kind) i k → HasItem items node i k
own_import items node name i k kind h = record {
  it = import_item h.name h.description;
  before = h.before;
  after = h.after;
  split = h.split;
  here = h.here;
  own = ap (λ q. is_own_item node q (import_item h.name h.description)) kind;
  adds = ap Some h.sorted;
  counted = h.counted;
}

-- all these nodes are there
abbrev AllThere : Graph → List NodeId → Type 0
AllThere g ns = (n : NodeId) → has ns n ≡ true → (node : GraphNode) × (node_at g n ≡ Some node)

first_there : (g : Graph) (n : NodeId) (ns : List NodeId) → AllThere g (n ∷ ns) → (node : GraphNode) × (node_at g n ≡ Some node)
first_there g n ns all = all n (ap (λ b. b || has ns n) (same_itself n))

rest_there : (g : Graph) (n : NodeId) (ns : List NodeId) → AllThere g (n ∷ ns) → AllThere g ns
rest_there g n ns all k within = all k (or_true (same k n) (has ns k) within) where
  or_true : (a b : Bool) → b ≡ true → (a || b) ≡ true
  or_true true b h = refl
  or_true false b h = h

has_append : (xs ys : List NodeId) (n : NodeId) → has xs n ≡ true → has (xs ++ ys) n ≡ true
has_append xs ys n within = list_any-append (same n) xs ys ∙ ap (λ b. b || has ys n) within

-- the nodes of an order are written
writes_written : (g : Graph) (done rest left : List NodeId) → Writes g.edges (minus (is_written g) done) (rest ++ left) → (n : NodeId) → has rest n ≡ true → is_written g n ≡ true
writes_written g done rest left writes n within = (minus-true (is_written g) done n (written_left g.edges (minus (is_written g) done) (rest ++ left) writes n (has_append rest left n within))).0

writes_there : (g : Graph) (done rest left : List NodeId) → Writes g.edges (minus (is_written g) done) (rest ++ left) → AllThere g rest
writes_there g done rest left writes n within = let (node, there, _) = node_of_written g n (writes_written g done rest left writes n within) in (node, there)

later_there : (g : Graph) (done : List NodeId) (n : NodeId) (rest left : List NodeId) → Writes g.edges (minus (is_written g) (done ++ n ∷ [])) (rest ++ left) → AllThere g rest
later_there g done n rest left writes = writes_there g (done ++ n ∷ []) rest left writes

-- a node is not among the later ones
not_later : (g : Graph) (done : List NodeId) (n : NodeId) (rest left : List NodeId) → Writes g.edges (minus (is_written g) (done ++ n ∷ [])) (rest ++ left) → has rest n ≡ false
not_later g done n rest left writes = split (has rest n) refl where
  split : (b : Bool) → has rest n ≡ b → b ≡ false
  split false _ = refl
  split true is =
      let left_over = written_left g.edges (minus (is_written g) (done ++ n ∷ [])) (rest ++ left) writes n (has_append rest left n is) in
      absurd (clash (has (done ++ n ∷ []) n) (now_in done n) (minus-true (is_written g) (done ++ n ∷ []) n left_over).1)

module _ (g : Graph) (o : EncodeOptions) (bindings : Bindings) (places : Places) where
  -- what is known where a node is written that is there
  abbrev Step : NodeId → Progress → Progress → GraphNode → Type 0
  Step n p q node = (i : ℕ) × WritesNode g o bindings places n node (index_in p.indexes) p.components q.components p.items q.items i × (q.indexes ≡ slice_set p.indexes n.0 i)

  step_of : (n : NodeId) (p q : Progress) (node : GraphNode) → node_at g n ≡ Some node → Wrote g o bindings places n p q → Step n p q node
  step_of n p q node there wrote = subst (λ z. IfSome z (Step n p q)) there wrote

  -- items are only appended
  component_grows : (id : PackageId) (c : ℕ) (components components' : List (PackageId × ℕ)) (items items' : List Item) → HasComponent g o id c components components' items items' → (more : List Item) × (items' ≡ items ++ more)
  component_grows id c components components' items items' (inl (_, _, _, kept)) = ([], kept ∙ sym (append-nil items))
  component_grows id c components components' items items' (inr (_, _, adds_nested _ _ added)) = (nested (package_bytes g id) ∷ [], added)
  component_grows id c components components' items items' (inr (_, _, adds_import _ it)) = (it.types ++ import_item it.name it.description ∷ [], it.added ∙ append_assoc items it.types (import_item it.name it.description ∷ []))

  node_grows : (n : NodeId) (node : GraphNode) (index : NodeId → ℕ) (components components' : List (PackageId × ℕ)) (items items' : List Item) (i : ℕ) → WritesNode g o bindings places n node index components components' items items' i
      → (more : List Item) × (items' ≡ items ++ more)
  node_grows n node index components components' items items' i (writes_instantiation id c mid arguments _ _ has_component _ added _) =
      let (more, grown) = component_grows id c components components' items mid has_component in
      (more ++ instantiate c arguments ∷ [], added ∙ ap (λ its. its ++ instantiate c arguments ∷ []) grown ∙ append_assoc items more (instantiate c arguments ∷ []))
  node_grows n node index components components' items items' i (writes_alias instance source k name _ _ _ _ _ added _) = (alias_item (export_alias (sort_of_kind node.item_kind) (index instance) name) ∷ [], added)
  node_grows n node index components components' items items' i (writes_definition t name k mid _ _ _ _ wrote added _) =
      (wrote.types ++ export_item name sort.«Type» k ∷ [], added ∙ ap (λ its. its ++ export_item name sort.«Type» k ∷ []) wrote.added ∙ append_assoc items wrote.types (export_item name sort.«Type» k ∷ []))

  all_grow : (ns : List NodeId) (p q : Progress) → AllThere g ns → WroteAll g o bindings places ns p q → (more : List Item) × (q.items ≡ p.items ++ more)
  all_grow [] p q all same_ = ([], ap (λ (x : Progress). x.items) same_ ∙ sym (append-nil p.items))
  all_grow (n ∷ ns) p q all (mid, one, later) =
      let (node, there) = first_there g n ns all in
      let (i, adds, now) = step_of n p mid node there one in
      let (more, grown) = node_grows n node (index_in p.indexes) p.components mid.components p.items mid.items i adds in
      let (further, ended) = all_grow ns mid q (rest_there g n ns all) later in
      (more ++ further, ended ∙ ap (λ its. its ++ further) grown ∙ append_assoc p.items more further)

  -- a node that is not among these keeps its index
  index_stays : (ns : List NodeId) (p q : Progress) → AllThere g ns → WroteAll g o bindings places ns p q → (n : NodeId) → has ns n ≡ false → index_in q.indexes n ≡ index_in p.indexes n
  index_stays [] p q all same_ n absent_node = ap (λ (x : Progress). index_in x.indexes n) same_
  index_stays (k ∷ ns) p q all (mid, one, later) n absent_node =
      let (node, there) = first_there g k ns all in
      let (i, adds, now) = step_of k p mid node there one in
      let none = or_none (same n k) (has ns n) absent_node in
      index_stays ns mid q (rest_there g k ns all) later n none.1 ∙ ap (λ xs. index_in xs n) now ∙ set_other i none.0 where
        set_other : (i : ℕ) → same n k ≡ false → index_in (slice_set p.indexes k.0 i) n ≡ index_in p.indexes n
        set_other i other = get_or-set_other p.indexes k.0 n.0 i 0 (λ is. grind (arith, nat_tests))

        or_none : (a b : Bool) → (a || b) ≡ false → (a ≡ false) × (b ≡ false)
        or_none true b h = cc
        or_none false b h = (refl, h)

module _ (laws : Laws) (g : Graph) (sound : IsSound g) (o : EncodeOptions) (order : List NodeId) (at : NodeId → Thing) (classes : List (Name × Tree)) (bindings : Bindings) (places : Places) where
  abbrev pub Done : List NodeId → List Item → List (PackageId × ℕ) → (NodeId → ℕ) → Type 0
  Done done items components index = Written laws g sound o order at classes bindings places done (used_packages g done) items components index

  abbrev owner_of : NodeId → Option PackageId
  owner_of n = option_case (node_at g n) None (λ node. node.owner)

  used_push : (done : List NodeId) (n : NodeId) (b : Bool) → node_is g (λ x. is_instantiation x.kind) n ≡ b → used_packages g (done ++ n ∷ []) ≡ cond b (with_package (used_packages g done) (owner_of n)) (used_packages g done)
  used_push done n b is =
      ap (used_after g []) (filter-append (node_is g (λ x. is_instantiation x.kind)) done (n ∷ []) ∙ ap (λ t. instantiations g done ++ cond t (n ∷ []) []) is)
      ∙ used-append g [] (instantiations g done) (cond b (n ∷ []) []) ∙ last b where
        last : (t : Bool) → used_after g (used_packages g done) (cond t (n ∷ []) []) ≡ cond t (with_package (used_packages g done) (owner_of n)) (used_packages g done)
        last true = refl
        last false = refl

  -- the next node is written
  adds_more : (done later : List NodeId) (n : NodeId) (node : GraphNode) → order ≡ done ++ n ∷ later → IsLowestReady g.edges (minus (is_written g) done) n → node_at g n ≡ Some node
      → (index index' : NodeId → ℕ) (i : ℕ) → index' n ≡ i → ((m : NodeId) → same m n ≡ false → index' m ≡ index m)
      → (components components' : List (PackageId × ℕ)) (items items' : List Item) → WritesNode g o bindings places n node index components components' items items' i
      → (i < indexes (space (sort_of_kind node.item_kind)) items' → stands_for (meaning items') (sort_of_kind node.item_kind) i ≡ at n)
      → Done done items components index → Done (done ++ n ∷ []) items' components' index'
  adds_more done later n node here ready there index index' i now others components components' items items' (writes_alias instance source k name kind aliased source_there exported same added counts) agrees w =
      let test : node_is g (λ x. is_instantiation x.kind) n ≡ false = ap (λ z. option_case z false (λ x. is_instantiation x.kind)) there ∙ ap is_instantiation kind in
      let x : Item = alias_item (export_alias (sort_of_kind node.item_kind) (index instance) name) in
      let agree : i < indexes (space (sort_of_kind node.item_kind)) (items ++ x ∷ []) → stands_for (meaning (items ++ x ∷ [])) (sort_of_kind node.item_kind) i ≡ at n =
      subst (λ its. i < indexes (space (sort_of_kind node.item_kind)) its → stands_for (meaning its) (sort_of_kind node.item_kind) i ≡ at n) added agrees in
      let more = alias_more laws g sound o order at classes bindings places done later n node here ready there index index' i now others (used_packages g done) items components instance source k name w kind aliased source_there exported counts agree in
      subst (λ us. Written laws g sound o order at classes bindings places (done ++ n ∷ []) us items' components' index') (sym (used_push done n false test))
      (subst (λ cs. Written laws g sound o order at classes bindings places (done ++ n ∷ []) (used_packages g done) items' cs index') (sym same)
      (subst (λ its. Written laws g sound o order at classes bindings places (done ++ n ∷ []) (used_packages g done) its components index') (sym added) more))
  adds_more done later n node here ready there index index' i now others components components' items items' (writes_instantiation id c mid arguments kind owned has_component given added counts) agrees w =
      let test : node_is g (λ x. is_instantiation x.kind) n ≡ true = ap (λ z. option_case z false (λ x. is_instantiation x.kind)) there ∙ ap is_instantiation kind in
      let owner : owner_of n ≡ Some id = ap (λ z. option_case z None (λ y. y.owner)) there ∙ owned in
      let used : used_packages g (done ++ n ∷ []) ≡ with_package (used_packages g done) (Some id) = used_push done n true test ∙ ap (with_package (used_packages g done)) owner in
      let (mid_written, (k, at_k, stands)) = with_component laws g sound o order at classes bindings places done (used_packages g done) items mid components components' index id c w has_component in
      let first : slice_get (used_packages g order) k ≡ Some id =
      ap (λ xs. slice_get (used_packages g xs) k) (here ∙ sym (append_assoc done (n ∷ []) later))
      ∙ ap (λ us. slice_get us k) (ap (used_after g []) (filter-append (node_is g (λ x. is_instantiation x.kind)) (done ++ n ∷ []) later) ∙ used-append g [] (instantiations g (done ++ n ∷ [])) (instantiations g later))
      ∙ used_prefix g (used_packages g (done ++ n ∷ [])) (instantiations g later) k id (ap (λ us. slice_get us k) used ∙ at_k) in
      let instance = sound.instances n node there kind in
      let typed : sort_of_kind node.item_kind ≡ sort.Instance = ap sort_of_kind instance.typed in
      let agree : i < indexes (space (sort_of_kind node.item_kind)) (mid ++ instantiate c arguments ∷ []) → stands_for (meaning (mid ++ instantiate c arguments ∷ [])) (sort_of_kind node.item_kind) i ≡ at n =
      subst (λ its. i < indexes (space (sort_of_kind node.item_kind)) its → stands_for (meaning its) (sort_of_kind node.item_kind) i ≡ at n) added agrees in
      let more = instance_more laws g sound o order at classes bindings places done later n node here ready there index index' i now others (with_package (used_packages g done) (Some id)) mid components' id c k arguments mid_written kind owned first stands typed given counts agree in
      subst (λ us. Written laws g sound o order at classes bindings places (done ++ n ∷ []) us items' components' index') (sym used)
      (subst (λ its. Written laws g sound o order at classes bindings places (done ++ n ∷ []) (with_package (used_packages g done) (Some id)) its components' index') (sym added) more)
  adds_more done later n node here ready there index index' i now others components components' items items' (writes_definition t name k mid kind is_type first same wrote added counts) agrees w =
      let test : node_is g (λ x. is_instantiation x.kind) n ≡ false = ap (λ z. option_case z false (λ x. is_instantiation x.kind)) there ∙ ap is_instantiation kind in
      let (mid_written, tree_is) = with_type laws g sound o order at classes bindings places done (used_packages g done) items mid components index (definition_tree g.types bindings t) k w wrote in
      let agree : i < indexes (space (sort_of_kind node.item_kind)) (mid ++ export_item name sort.«Type» k ∷ []) → stands_for (meaning (mid ++ export_item name sort.«Type» k ∷ [])) (sort_of_kind node.item_kind) i ≡ at n =
      subst (λ its. i < indexes (space (sort_of_kind node.item_kind)) its → stands_for (meaning its) (sort_of_kind node.item_kind) i ≡ at n) added agrees in
      let more = definition_more laws g sound o order at classes bindings places done later n node here ready there index index' i now others (used_packages g done) mid components t name k mid_written kind is_type first wrote.there wrote.no_resource tree_is counts agree in
      subst (λ us. Written laws g sound o order at classes bindings places (done ++ n ∷ []) us items' components' index') (sym (used_push done n false test))
      (subst (λ cs. Written laws g sound o order at classes bindings places (done ++ n ∷ []) (used_packages g done) items' cs index') (sym same)
      (subst (λ its. Written laws g sound o order at classes bindings places (done ++ n ∷ []) (used_packages g done) its components index') (sym added) more))

  -- what is to be known of an import node
  abbrev IsPlaced : (NodeId → ℕ) → NodeId → GraphNode → ℕ → Type 0
  IsPlaced index n node p = IsPlacedNode g classes places index n node p

  -- no node is written yet
  nothing_done : (begin : List Item) (index : NodeId → ℕ) → Begins classes places begin → AreImported g (IsPlaced index) at → Done [] begin [] index
  nothing_done begin index begins imports = record {
    nodes = λ n wrong. cc;
    meant = begins.meant;
    imports = begins.imports_are ∙ sym (append-nil classes) ∙ ap (λ is. classes ++ is) (sym (imported_none g o));
    import_count = λ _. ap length begins.imports_are ∙ plus_none (length classes);
    customs = begins.customs;
    exports = ap (map shown) begins.exports;
    bytes = begins.components ∙ sym (nested_none g o);
    packages = refl;
    numbers = λ k e wrong. cc;
    made = subst (λ its. AreInstantiations g o (length classes) at order [] its) (sym begins.instantiations) tt;
    asked_for = begins.stand;
    stand = λ n node here there. stand n node there (an_import n node here);
    things = λ n node here there. thing n node there (an_import n node here);
    known = λ n node here there i is. known n node there i is (an_import n node here);
    place = λ n. (own_at n (node_at g n) refl).0;
    own = λ n node here there. (own_at n (node_at g n) refl).1 node there (an_import n node here);
    in_place = λ i j n m less wrong other. cc;
  } where
    import_of : (k : Kind) → is_import k ≡ true → (name : Name) × (k ≡ graph.import name)
    import_of (graph.import name) h = (name, refl)
    import_of graph.instantiation h = cc
    import_of graph.alias h = cc
    import_of graph.definition h = cc

    an_import : (n : NodeId) (node : GraphNode) → Stands [] n node → (name : Name) × (node.kind ≡ graph.import name)
    an_import n node (inl is) = import_of node.kind is
    an_import n node (inr wrong) = cc

    -- an import node's item is the import
    own_at : (n : NodeId) (o : Option GraphNode) → node_at g n ≡ o → (k : ℕ) × ((node : GraphNode) → o ≡ Some node → (name : Name) × (node.kind ≡ graph.import name) → HasItem begin node (index n) k)
    own_at n None there = (0, λ node wrong import. cc)
    own_at n (Some x) there = by_kind x.kind refl where
      other : (node : GraphNode) → Some x ≡ Some node → is_import x.kind ≡ false → (name : Name) × (node.kind ≡ graph.import name) → HasItem begin node (index n) 0
      other node same no_import (name, kind) = absurd (clash (is_import x.kind) (ap (λ (y : GraphNode). is_import y.kind) (one_node x node same) ∙ ap is_import kind) no_import)

      by_kind : (kind : Kind) → x.kind ≡ kind → (k : ℕ) × ((node : GraphNode) → Some x ≡ Some node → (name : Name) × (node.kind ≡ graph.import name) → HasItem begin node (index n) k)
      by_kind (graph.import name) is =
          let i = imports n x name there is in
          let (k, h) = begins.own i.p (sort_of_kind x.item_kind) (index n) i.known.placed in
          (k, λ node same import. subst (λ (y : GraphNode). HasItem begin y (index n) k) (one_node x node same) (own_import begin x name (index n) k is h))
      by_kind graph.instantiation is = (0, λ node same import. other node same (ap is_import is) import)
      by_kind graph.alias is = (0, λ node same import. other node same (ap is_import is) import)
      by_kind graph.definition is = (0, λ node same import. other node same (ap is_import is) import)

    stand : (n : NodeId) (node : GraphNode) → node_at g n ≡ Some node → (name : Name) × (node.kind ≡ graph.import name)
        → (index n < indexes (space (sort_of_kind node.item_kind)) begin) × (stands_for (meaning begin) (sort_of_kind node.item_kind) (index n) ≡ at n)
    stand n node there (name, kind) =
        let i = imports n node name there kind in
        let s = begins.stand i.p (sort_of_kind node.item_kind) (index n) i.known.placed in
        (s.0, s.1 ∙ sym i.is)

    thing : (n : NodeId) (node : GraphNode) → node_at g n ≡ Some node → (name : Name) × (node.kind ≡ graph.import name) → IsThing g classes bindings at order n node
    thing n node there (name, kind) = let i = imports n node name there kind in as_import name i.p kind i.fell i.is

    known : (n : NodeId) (node : GraphNode) → node_at g n ≡ Some node → (i : InterfaceId) → node.item_kind ≡ item.Instance i → (name : Name) × (node.kind ≡ graph.import name)
        → IsKnown g.types i (bound_at (meaning begin).scope.instances (index n))
    known n node there i is (name, kind) =
        let it = imports n node name there kind in
        let k = it.known in
        let here : slice_get places it.p ≡ Some (sort.Instance, index n) = k.placed ∙ ap (λ (q : ItemKind). Some (sort_of_kind q, index n)) is in
        let same = begins.typed it.p (index n) k.entry here k.there in
        inr (subst (λ (q : ItemKind). Covers g.types q (instance_item (bound_at (meaning begin).scope.instances (index n)).type)) is (subst (λ (x : Tree). Covers g.types node.item_kind x) same k.covers))

  -- all nodes are written, and these exports behind them
  pub record Exported (base : List Item) (es : List (Name × NodeId)) (items : List Item) (index place : NodeId → ℕ) : Type 0 where
    pub split : items ≡ base ++ flat_map (export_item_of g index) es
    pub meant : HasMeaning items
    pub imports : (meaning items).imports ≡ classes ++ package_imports g o order
    pub customs : (meaning items).customs ≡ []
    pub bytes : (meaning items).nested_bytes ≡ package_components g o order
    pub made : AreInstantiations g o (length classes) at order (instantiations g order) (meaning items).instantiations
    pub things : (n : NodeId) (node : GraphNode) → node_at g n ≡ Some node → IsThing g classes bindings at order n node
    pub exports : map shown (meaning items).exports ≡ flat_map (first_export g at) order ++ flat_map (export_of g at) es
    pub stand : (n : NodeId) (node : GraphNode) → node_at g n ≡ Some node
        → (index n < indexes (space (sort_of_kind node.item_kind)) items) × (stands_for (meaning items) (sort_of_kind node.item_kind) (index n) ≡ at n)
    pub own : (n : NodeId) (node : GraphNode) → node_at g n ≡ Some node → HasItem items node (index n) (place n)

  no_exports : (items : List Item) (components : List (PackageId × ℕ)) (index : NodeId → ℕ) → Writes g.edges (is_written g) order → (w : Done order items components index) → Exported items [] items index w.place
  no_exports items components index writes w = record {
    split = rw append-nil refl;
    meant = w.meant;
    imports = w.imports;
    customs = w.customs;
    bytes = w.bytes;
    made = w.made;
    exports = w.exports ∙ sym (append-nil (flat_map (first_export g at) order));
    things = λ n node there. w.things n node (stands n node there) there;
    stand = λ n node there. w.stand n node (stands n node there) there;
    own = λ n node there. w.own n node (stands n node there) there;
  } where
    stands : (n : NodeId) (node : GraphNode) → node_at g n ≡ Some node → Stands order n node
    stands n node there = split (is_import node.kind) refl where
      split : (b : Bool) → is_import node.kind ≡ b → Stands order n node
      split true is = inl is
      split false is = inr (all_in g.edges (is_written g) order [] writes n (written_node g n node there is))

  -- one export more
  export_more : (base : List Item) (es : List (Name × NodeId)) (items : List Item) (index place : NodeId → ℕ) (name : Name) (id : NodeId) (node : GraphNode) → node_at g id ≡ Some node → (IsFirstAmong g order name → ⊥) → (IsAmong es name → ⊥) → Exported base es items index place
      → Exported base (es ++ (name, id) ∷ []) (items ++ export_item name (sort_of_kind node.item_kind) (index id) ∷ []) index place
  export_more base es items index place name id node there no_first new e =
      let t : Sort = sort_of_kind node.item_kind in
      let x : Item = export_item name t (index id) in
      let others = export_others items t (index id) name in
      let one : export_item_of g index (name, id) ≡ x ∷ [] = ap (λ z. option_case z [] (λ z'. export_item name (sort_of_kind z'.item_kind) (index id) ∷ [])) there in
      let two : export_of g at (name, id) ≡ (name, t, at id) ∷ [] = ap (λ z. option_case z [] (λ z'. (name, sort_of_kind z'.item_kind, at id) ∷ [])) there in
      record {
        split = ap (λ xs. xs ++ x ∷ []) e.split ∙ append_assoc base (flat_map (export_item_of g index) es) (x ∷ [])
            ∙ ap (λ ys. base ++ ys) (sym (flat_map-append (export_item_of g index) es ((name, id) ∷ []) ∙ ap (λ ys. flat_map (export_item_of g index) es ++ ys) (rw append-nil one)));
        meant = meant-push items x e.meant (new_name g at items order es name e.exports no_first new, subst IsSomething (sym (e.stand id node there).1) (something g classes bindings at order id node (e.things id node there)));
        imports = others.0 ∙ e.imports;
        bytes = others.1 ∙ e.bytes;
        made = subst (λ made. AreInstantiations g o (length classes) at order (instantiations g order) made) (sym others.2) e.made;
        things = e.things;
        customs = others.3 ∙ e.customs;
        exports = export_shown items t (index id) name ∙ ap (λ xs. xs ++ (name, t, stands_for (meaning items) t (index id)) ∷ []) e.exports
            ∙ ap (λ z. (flat_map (first_export g at) order ++ flat_map (export_of g at) es) ++ (name, t, z) ∷ []) (e.stand id node there).1
            ∙ append_assoc (flat_map (first_export g at) order) (flat_map (export_of g at) es) ((name, t, at id) ∷ [])
            ∙ ap (λ ys. flat_map (first_export g at) order ++ ys) (sym (flat_map-append (export_of g at) es ((name, id) ∷ []) ∙ ap (λ ys. flat_map (export_of g at) es ++ ys) (rw append-nil two)));
        stand = λ n other other_there.
            let s = e.stand n other other_there in
            (indexes_rise (space (sort_of_kind other.item_kind)) items x (index n) s.0, laws.earlier items (x ∷ []) (sort_of_kind other.item_kind) (index n) s.0 ∙ s.1);
        own = λ n other other_there. HasItem-push items x other (index n) (place n) (e.own n other other_there);
      } where
        indexes_rise : (k : ℕ) (its : List Item) (x : Item) (j : ℕ) → j < indexes k its → j < indexes k (its ++ x ∷ [])
        indexes_rise k its x j small = omega (arith, indexes-push k its x)

  -- all nodes are written, all exports behind them, and these custom sections last
  pub record Closed (base : List Item) (customs : List (Name × List ℕ)) (items : List Item) (index place : NodeId → ℕ) : Type 0 where
    pub split : items ≡ base ++ flat_map (export_item_of g index) (further_exports g) ++ map custom_item customs
    pub meant : HasMeaning items
    pub imports : (meaning items).imports ≡ classes ++ package_imports g o order
    pub customs_are : (meaning items).customs ≡ customs
    pub bytes : (meaning items).nested_bytes ≡ package_components g o order
    pub made : AreInstantiations g o (length classes) at order (instantiations g order) (meaning items).instantiations
    pub things : (n : NodeId) (node : GraphNode) → node_at g n ≡ Some node → IsThing g classes bindings at order n node
    pub exports : map shown (meaning items).exports ≡ flat_map (first_export g at) order ++ flat_map (export_of g at) (further_exports g)
    pub stand : (n : NodeId) (node : GraphNode) → node_at g n ≡ Some node
        → (index n < indexes (space (sort_of_kind node.item_kind)) items) × (stands_for (meaning items) (sort_of_kind node.item_kind) (index n) ≡ at n)
    pub own : (n : NodeId) (node : GraphNode) → node_at g n ≡ Some node → HasItem items node (index n) (place n)

  no_customs : (base items : List Item) (index place : NodeId → ℕ) → Exported base (further_exports g) items index place → Closed base [] items index place
  no_customs base items index place e = record {
    split = e.split ∙ sym (append-nil (base ++ flat_map (export_item_of g index) (further_exports g)));
    meant = e.meant;
    imports = e.imports;
    customs_are = e.customs;
    bytes = e.bytes;
    made = e.made;
    exports = e.exports;
    things = e.things;
    stand = e.stand;
    own = e.own;
  }

  -- one custom section more
  custom_more : (base : List Item) (customs : List (Name × List ℕ)) (items : List Item) (index place : NodeId → ℕ) (name : Name) (bytes : List ℕ) → Closed base customs items index place
      → Closed base (customs ++ (name, bytes) ∷ []) (items ++ custom name bytes ∷ []) index place
  custom_more base customs items index place name bytes c =
      let x : Item = custom name bytes in
      let same_rest = custom_rest items name bytes in
      let shown_items : List Item = base ++ flat_map (export_item_of g index) (further_exports g) in
      record {
        split = ap (λ xs. xs ++ x ∷ []) c.split ∙ append_assoc shown_items (map custom_item customs) (x ∷ []) ∙ ap (λ ys. shown_items ++ ys) (sym (map-append custom_item customs ((name, bytes) ∷ [])));
        meant = meant-push items x c.meant tt;
        imports = ap (λ r. r.imports) same_rest ∙ c.imports;
        customs_are = ap (λ r. r.customs) same_rest ∙ ap (λ cs. cs ++ (name, bytes) ∷ []) c.customs_are;
        bytes = ap (λ r. r.nested_bytes) same_rest ∙ c.bytes;
        made = subst (λ made. AreInstantiations g o (length classes) at order (instantiations g order) made) (sym (ap (λ r. r.instantiations) same_rest)) c.made;
        things = c.things;
        exports = ap (λ r. map shown r.exports) same_rest ∙ c.exports;
        stand = λ n node there.
            let s = c.stand n node there in
            (indexes_rise (space (sort_of_kind node.item_kind)) (index n) s.0, laws.earlier items (x ∷ []) (sort_of_kind node.item_kind) (index n) s.0 ∙ s.1);
        own = λ n node there. HasItem-push items x node (index n) (place n) (c.own n node there);
      } where
        indexes_rise : (k : ℕ) (j : ℕ) → j < indexes k items → j < indexes k (items ++ custom name bytes ∷ [])
        indexes_rise k j small = omega (arith, indexes-push k items (custom name bytes))

  -- these custom sections behind those
  customs_more : (base : List Item) (more customs : List (Name × List ℕ)) (items : List Item) (index place : NodeId → ℕ) → Closed base customs items index place → Closed base (customs ++ more) (items ++ map custom_item more) index place
  customs_more base [] customs items index place c =
      subst (λ cs. Closed base cs (items ++ []) index place) (sym (append-nil customs)) (subst (λ its. Closed base customs its index place) (sym (append-nil items)) c)
  customs_more base (e ∷ more) customs items index place c =
      subst (λ cs. Closed base cs (items ++ custom e.0 e.1 ∷ map custom_item more) index place) (append_assoc customs (e ∷ []) more)
      (subst (λ its. Closed base ((customs ++ e ∷ []) ++ more) its index place) (append_assoc items (custom e.0 e.1 ∷ []) (map custom_item more))
      (customs_more base more (customs ++ e ∷ []) (items ++ custom e.0 e.1 ∷ []) index place (custom_more base customs items index place e.0 e.1 c)))

  -- these custom sections are behind all exports
  closed : (base items : List Item) (index place : NodeId → ℕ) (customs : List (Name × List ℕ)) → Exported base (further_exports g) items index place → Closed base customs (items ++ map custom_item customs) index place
  closed base items index place customs e = customs_more base customs [] items index place (no_customs base items index place e)

  -- the items mean the graph
  means : (outer : AreOuterImports g classes) → bindings ≡ outer_bindings g outer.order → (names : List (Sort × ℕ × Name))
      → (base items : List Item) (index place : NodeId → ℕ) → AreNames g index names → Writes g.edges (is_written g) order → Closed base (name_customs names ++ processor_customs o.processor) items index place
      → ((i j : ℕ) (n m : NodeId) → i < j → slice_get order i ≡ Some n → slice_get order j ≡ Some m → place n < place m) → Means items g o
  means outer bound names base items index place named writes e in_place = record {
    order = order;
    in_order = writes;
    at = at;
    index = index;
    meant = e.meant;
    classes = classes;
    outer = outer;
    imports = e.imports;
    components = e.bytes;
    instances = e.made;
    things = λ n node there. subst (λ m. IsThing g classes m at order n node) bound (e.things n node there);
    stand = λ n node there. (e.stand n node there).1;
    exports = e.exports;
    place = place;
    own_items = e.own;
    in_place = in_place;
    names = names;
    named = named;
    customs = e.customs_are;
    body = base;
    last = e.split
        ∙ ap (λ cs. base ++ flat_map (export_item_of g index) (further_exports g) ++ map custom_item cs) (sym e.customs_are);
  }

  -- what nodes refer to is what their indexes refer to in the end
  abbrev IsAt : Progress → Type 0
  IsAt q = (n : NodeId) (node : GraphNode) → node_at g n ≡ Some node → at n ≡ stands_for (meaning q.items) (sort_of_kind node.item_kind) (index_in q.indexes n)

  -- some nodes of an order are written
  some_done : (rest left done : List NodeId) (p q : Progress) → order ≡ done ++ (rest ++ left) → Writes g.edges (minus (is_written g) done) (rest ++ left) → HasRoom g p.indexes → WroteAll g o bindings places rest p q → IsAt q
      → Done done p.items p.components (index_in p.indexes) → Done (done ++ rest) q.items q.components (index_in q.indexes)
  some_done [] left done p q here writes room same_ is_at d =
      subst (λ x. Done (done ++ []) x.items x.components (index_in x.indexes)) (sym same_) (subst (λ xs. Done xs p.items p.components (index_in p.indexes)) (sym (append-nil done)) d)
  some_done (n ∷ rest) left done p q here (ready, further) room (mid, wrote, later) is_at d =
      let (node, there, no_import) = node_of_written g n (minus-true (is_written g) done n ready.here).0 in
      let (i, adds, now) = subst (λ z. IfSome z (λ x. (i : ℕ) × WritesNode g o bindings places n x (index_in p.indexes) p.components mid.components p.items mid.items i × (mid.indexes ≡ slice_set p.indexes n.0 i))) there wrote in
      let small : n.0 < length p.indexes = room n (ap is_some there) in
      let after : Writes g.edges (minus (is_written g) (done ++ n ∷ [])) (rest ++ left) = subst (λ l. Writes g.edges l (rest ++ left)) (sym (minus-push (is_written g) done n)) further in
      let all_there : AllThere g rest = later_there g done n rest left after in
      let (more, grown) = all_grow g o bindings places rest mid q all_there later in
      let has_index : index_in mid.indexes n ≡ i = ap (λ xs. index_in xs n) now ∙ get_or-set_same p.indexes n.0 i 0 small in
      let in_the_end : index_in q.indexes n ≡ i = index_stays g o bindings places rest mid q all_there later n (not_later g done n rest left after) ∙ has_index in
      let agrees : i < indexes (space (sort_of_kind node.item_kind)) mid.items → stands_for (meaning mid.items) (sort_of_kind node.item_kind) i ≡ at n =
      λ less. sym (is_at n node there ∙ ap (stands_for (meaning q.items) (sort_of_kind node.item_kind)) in_the_end ∙ ap (λ its. stands_for (meaning its) (sort_of_kind node.item_kind) i) grown ∙ laws.earlier mid.items more (sort_of_kind node.item_kind) i less) in
      let next : Done (done ++ n ∷ []) mid.items mid.components (index_in mid.indexes) =
      adds_more done (rest ++ left) n node here ready there (index_in p.indexes) (index_in mid.indexes) i has_index
      (λ m other. ap (λ xs. index_in xs m) now ∙ get_or-set_other p.indexes n.0 m.0 i 0 (λ is. grind (arith, nat_tests)))
      p.components mid.components p.items mid.items adds agrees d in
      subst (λ xs. Done xs q.items q.components (index_in q.indexes)) (append_assoc done (n ∷ []) rest)
      (some_done rest left (done ++ n ∷ []) mid q (here ∙ sym (append_assoc done (n ∷ []) (rest ++ left))) after (subst (λ xs. HasRoom g xs) (sym now) (λ m is. omega (arith, room m is, length-set p.indexes n.0 i))) later is_at next)

  -- all exports are written
  all_exported : (base : List Item) (index place : NodeId → ℕ) (rest es : List (Name × NodeId)) (items : List Item) → further_exports g ≡ es ++ rest → Exported base es items index place
      → Exported base (further_exports g) (items ++ flat_map (export_item_of g index) rest) index place
  all_exported base index place [] es items here e =
      subst (λ xs. Exported base xs (items ++ []) index place) (sym (here ∙ append-nil es)) (subst (λ ys. Exported base es ys index place) (sym (append-nil items)) e)
  all_exported base index place (x ∷ rest) es items here e =
      let placed : slice_get (further_exports g) (length es) ≡ Some x = ap (λ xs. slice_get xs (length es)) here ∙ slice_get-middle es x rest in
      let (node, there) = the_node (node_at g x.1) (further_there g sound (length es) x placed) in
      let one : export_item_of g index x ≡ export_item x.0 (sort_of_kind node.item_kind) (index x.1) ∷ [] = ap (λ z. option_case z [] (λ z'. export_item x.0 (sort_of_kind z'.item_kind) (index x.1) ∷ [])) there in
      let next = export_more base es items index place x.0 x.1 node there (λ (m, other, _, other_there, first). further_no_first g sound (length es) x placed m other other_there first) (further_new g sound es x rest here) e in
      subst (λ ys. Exported base (further_exports g) ys index place)
      (append_assoc items (export_item x.0 (sort_of_kind node.item_kind) (index x.1) ∷ []) (flat_map (export_item_of g index) rest) ∙ ap (λ ys. items ++ (ys ++ flat_map (export_item_of g index) rest)) (sym one))
      (all_exported base index place rest (es ++ x ∷ []) (items ++ export_item x.0 (sort_of_kind node.item_kind) (index x.1) ∷ []) (here ∙ sym (append_assoc es (x ∷ []) rest)) next)

  -- all nodes are written
  all_written : (outer : AreOuterImports g classes) → bindings ≡ outer_bindings g outer.order → Writes g.edges (is_written g) order
      → (q : Progress) → Done order q.items q.components (index_in q.indexes) → (names : List (Sort × ℕ × Name)) → AreNames g (index_in q.indexes) names
      → Means ((q.items ++ flat_map (export_item_of g (index_in q.indexes)) (further_exports g)) ++ map custom_item (name_customs names ++ processor_customs o.processor)) g o
  all_written outer bound writes q d names named =
      let e = all_exported q.items (index_in q.indexes) d.place (further_exports g) [] q.items refl (no_exports q.items q.components (index_in q.indexes) writes d) in
      let customs = name_customs names ++ processor_customs o.processor in
      let exported : List Item = q.items ++ flat_map (export_item_of g (index_in q.indexes)) (further_exports g) in
      let c = closed q.items exported (index_in q.indexes) d.place customs e in
      means outer bound names q.items (exported ++ map custom_item customs) (index_in q.indexes) d.place named writes c d.in_place

-- what nodes refer to by these items and indexes
abbrev at_end : Graph → Progress → NodeId → Thing
at_end g q n = option_case (node_at g n) nothing (λ node. stands_for (meaning q.items) (sort_of_kind node.item_kind) (index_in q.indexes n))

at_end_is : (g : Graph) (q : Progress) (n : NodeId) (node : GraphNode) → node_at g n ≡ Some node → at_end g q n ≡ stands_for (meaning q.items) (sort_of_kind node.item_kind) (index_in q.indexes n)
at_end_is g q n node there = ap (λ z. option_case z nothing (λ x. stands_for (meaning q.items) (sort_of_kind x.item_kind) (index_in q.indexes n))) there

module _ (laws : Laws) (g : Graph) (sound : IsSound g) (o : EncodeOptions) (classes : List (Name × Tree)) (bindings : Bindings) (places : Places) (order done : List NodeId) (p : Progress) (s : IsWrittenSoFar g o classes bindings places order done p) where
  abbrev start_of : Progress
  start_of = record { items = s.begin; components = []; indexes = s.indexes }

  writes_split : Writes g.edges (is_written g) (done ++ s.rest)
  writes_split = subst (Writes g.edges (is_written g)) s.split s.in_order

  done_there : AllThere g done
  done_there = writes_there g [] done s.rest writes_split

  -- an import node refers to its class's import
  import_refers : AreImported g (λ n node q. IsPlacedNode g classes places (index_in s.indexes) n node q) (at_end g p)
  import_refers n node name there kind =
      let (q, fell, known) = s.placed n node name there kind in
      let (more, grown) = all_grow g o bindings places done start_of p done_there s.wrote in
      let stands = s.begins.stand q (sort_of_kind node.item_kind) (index_in s.indexes n) known.placed in
      record {
        p = q;
        fell = fell;
        known = known;
        is = at_end_is g p n node there
            ∙ ap (stands_for (meaning p.items) (sort_of_kind node.item_kind)) (index_stays g o bindings places done start_of p done_there s.wrote n (no_import_in (has done n) refl))
            ∙ ap (λ its. stands_for (meaning its) (sort_of_kind node.item_kind) (index_in s.indexes n)) grown
            ∙ laws.earlier s.begin more (sort_of_kind node.item_kind) (index_in s.indexes n) stands.0
            ∙ stands.1;
      } where
        no_import_in : (b : Bool) → has done n ≡ b → b ≡ false
        no_import_in false _ = refl
        no_import_in true within =
            let (other, other_there, no_import) = node_of_written g n (writes_written g [] done s.rest writes_split n within) in
            absurd (clash (is_import node.kind) (ap is_import kind) (ap (λ (x : GraphNode). is_import x.kind) (one_node node other (sym there ∙ other_there)) ∙ no_import))

  so_far : Done laws g sound o order (at_end g p) classes bindings places done p.items p.components (index_in p.indexes)
  so_far =
      some_done laws g sound o order (at_end g p) classes bindings places done s.rest [] start_of p s.split writes_split s.room s.wrote (at_end_is g p)
      (nothing_done laws g sound o order (at_end g p) classes bindings places s.begin (index_in s.indexes) s.begins import_refers)

  -- the items written so far have a meaning
  pub written_meant : HasMeaning p.items
  written_meant = so_far.meant

  -- they import the classes, then the packages so far
  pub written_imports : (meaning p.items).imports ≡ classes ++ imported_packages g o (used_packages g done)
  written_imports = so_far.imports

-- no node is written at the start
pub written_begins : (g : Graph) (o : EncodeOptions) (classes : List (Name × Tree)) (bindings : Bindings) (places : Places) (order : List NodeId) (begin : List Item) (indexes : List ℕ)
    → Writes g.edges (is_written g) order → Begins classes places begin → HasRoom g indexes → ArePlacedNodes g classes places (index_in indexes)
    → IsWrittenSoFar g o classes bindings places order [] (record { items = begin; components = []; indexes = indexes })
written_begins g o classes bindings places order begin indexes writes begins room placed =
    record { in_order = writes; rest = order; split = refl; begin = begin; indexes = indexes; begins = begins; room = room; placed = placed; wrote = refl }

wrote_push : (g : Graph) (o : EncodeOptions) (bindings : Bindings) (places : Places) (ns : List NodeId) (n : NodeId) (p q r : Progress) → WroteAll g o bindings places ns p q → Wrote g o bindings places n q r → WroteAll g o bindings places (ns ++ n ∷ []) p r
wrote_push g o bindings places [] n p q r same_ last = (r, subst (λ x. Wrote g o bindings places n x r) same_ last, refl)
wrote_push g o bindings places (k ∷ ns) n p q r (mid, one, later) last = (mid, one, wrote_push g o bindings places ns n mid q r later last)

-- one more node of the order is written
pub written_next : (g : Graph) (o : EncodeOptions) (classes : List (Name × Tree)) (bindings : Bindings) (places : Places) (order done rest : List NodeId) (n : NodeId) (p q : Progress)
    → order ≡ done ++ n ∷ rest → IsWrittenSoFar g o classes bindings places order done p → Wrote g o bindings places n p q → IsWrittenSoFar g o classes bindings places order (done ++ n ∷ []) q
written_next g o classes bindings places order done rest n p q here s wrote = record {
  in_order = s.in_order;
  rest = rest;
  split = here ∙ sym (append_assoc done (n ∷ []) rest);
  begin = s.begin;
  indexes = s.indexes;
  begins = s.begins;
  room = s.room;
  placed = s.placed;
  wrote = wrote_push g o bindings places done n (record { items = s.begin; components = []; indexes = s.indexes }) p q s.wrote wrote;
}

-- Where all nodes are written, then the exports, the names and the processor, the items mean the graph.
pub written_means : Laws → (g : Graph) → IsSound g → (o : EncodeOptions) (classes : List (Name × Tree)) (bindings : Bindings) → (outer : AreOuterImports g classes) → bindings ≡ outer_bindings g outer.order
    → (places : Places) (order : List NodeId) (q : Progress) → IsWrittenSoFar g o classes bindings places order order q
    → (names : List (Sort × ℕ × Name)) → AreNames g (index_in q.indexes) names
    → (items with_names written : List Item) → items ≡ q.items ++ flat_map (export_item_of g (index_in q.indexes)) (further_exports g)
    → with_names ≡ items ++ map custom_item (name_customs names) → written ≡ with_names ++ map custom_item (processor_customs o.processor) → Means written g o
written_means laws g sound o classes bindings outer bound places order q s names named items with_names written end next last =
    let exported : List Item = q.items ++ flat_map (export_item_of g (index_in q.indexes)) (further_exports g) in
    let whole : written ≡ exported ++ map custom_item (name_customs names ++ processor_customs o.processor) =
    last ∙ ap (λ its. its ++ map custom_item (processor_customs o.processor)) (next ∙ ap (λ its. its ++ map custom_item (name_customs names)) end)
    ∙ append_assoc exported (map custom_item (name_customs names)) (map custom_item (processor_customs o.processor))
    ∙ ap (λ its. exported ++ its) (sym (map-append custom_item (name_customs names) (processor_customs o.processor))) in
    subst (λ its. Means its g o) (sym whole)
    (all_written laws g sound o order (at_end g q) classes bindings places outer bound s.in_order q (so_far laws g sound o classes bindings places order order q s) names named)
