-- What is written of a graph after some of its nodes, behind items that begin with its imports.
use Rattle.std.proofs.Common.{◌≡◌, ℕ, zero, suc, ◌+◌, ◌<◌, Bool, true, false, ◌||◌, cond, List, [], ◌∷◌, ◌++◌, length, map, refl, ap, ◌∙◌, sym, subst, arith, append_assoc, Option, Some, None, ◌⊎◌, inl, inr}
use Rattle.std.specs.List.{AllByRecursion, list_any, flat_map}
use Rattle.std.specs.Prelude.{slice_get}
use Rattle.std.specs.FinSet as set
use Rattle.std.proofs.lemmas.List.{append-nil, length-append, map-append, length-map}
use Rattle.std.proofs.lemmas.List.Elements.{filter-append}
use Rattle.std.proofs.lemmas.Option.{slice_get_within}
use Rattle.std.proofs.lemmas.Grind.{flat_map-append}
use Rattle.wac_types_shapes.specs.primitives.Name.{Name, same_name, option_case}
use Rattle.wac_types_shapes.proofs.lemmas.shapes.Names.{same_name-refl}
use Rattle.wac_types_shapes.specs.declared.shapes.component.InterfaceId.{InterfaceId}
use Rattle.wac_types_shapes.specs.declared.shapes.component.ItemKind.{ItemKind}
use Rattle.wac_types_shapes.specs.declared.shapes.component.«Type».{«Type» as AnyType}
use Rattle.wac_types_shapes.specs.primitives.Tree.{Tree, absent}
use Rattle.wac_types_collection.specs.collection.Bound.{Bindings}
use Rattle.wac_types_collection.specs.collection.Collection.{interface_exports}
use Rattle.wac_types_shapes.specs.declared.shapes.component.ItemKind.TheVariants as item
use Rattle.wac_binary.specs.declared.sorts.Sort.{Sort}
use Rattle.wac_binary.specs.declared.sorts.Sort.TheVariants as sort
use Rattle.wac_binary.specs.declared.sorts.Description.{Description}
use Rattle.wac_binary.specs.Items.{Item, nested, instantiate, alias_item, export_alias, import_item, export_item}
use Rattle.wac_binary.specs.Indexes.{space, indexes, adds, sort_added, described_sort}
use Rattle.wac_binary.specs.Meaning.{Thing, import_at, instance_at, component_at, projection, projected, Instantiation, start, stands_for, meaning}
use Rattle.wac_binary.specs.Unfold.{Bound, type_at, bound_at, described_item}
use Rattle.wac_binary.specs.HasMeaning.{ItemHasMeaning, AllHaveMeaning, HasMeaning, IsResource, IsSomething, HasExport}
use Rattle.wac_encode_faults.specs.Trees.{definition_tree}
use Rattle.wac_edges.specs.declared.edges.Edge.{Edge}
use Rattle.wac_edges.specs.declared.node.NodeId.{NodeId}
use Rattle.wac_graph_model.specs.declared.nodes.options.EncodeOptions.{EncodeOptions}
use Rattle.wac_graph_model.specs.declared.nodes.packages.PackageId.{PackageId}
use Rattle.wac_edges.specs.Edge.{alias_edge, argument_edge}
use Rattle.wac_graph_model.specs.nodes.Graph as graph
use Rattle.wac_graph_model.specs.nodes.Graph.{Graph, GraphNode, Kind, node_at, export_at, imports_of, exports_of, IsAliasOf, IsArgumentOf}
use Rattle.wac_graph_model.specs.nodes.Sound.{IsSound}
use Rattle.wac_edges.specs.Order.{IsLowestReady}
use Rattle.wac_graph_model.specs.meaning.Defined.{IsDefined}
use Rattle.wac_graph_model.specs.meaning.Means.{node_is, is_instantiation, is_written, instantiations, sort_of_kind, same_package, with_package, used_after, used_packages, package_bytes, package_import, package_thing, IsArgument, given, asked, AreArguments, IsInstantiationOf, AreInstantiations, IsThing, as_instantiation, as_definition, as_alias, HasItem, is_first, is_own_item, shown, first_export}
use Rattle.wac_graph_model.specs.private.meaning.Beginning.{Places}
use Rattle.wac_graph_model.specs.private.meaning.Encoding.{AddsPackage, adds_nested, adds_import, HasComponent}
use Rattle.wac_graph_model.specs.private.meaning.Writing.{IsArgumentItem, of_node, of_import, AreArgumentItems, WritesTypeWith}
use Rattle.wac_edges.proofs.WrittenOrder.{has, minus, minus-true, same, same_itself, eqb_same, apart, in_list, in_push, slice_get-middle}
use Rattle.wac_graph_model.proofs.lemmas.meaning.ListLemmas.{slice_get-push, slice_get-prefix, slice_get-map}
use Rattle.wac_graph_model.proofs.lemmas.meaning.TypeThings.{projected_some, type_defined, defined_first}
use Rattle.wac_graph_model.proofs.lemmas.meaning.ThingLemmas.{Stands, node_of_written, stands_apart, stood, ready_sources, place_of}
use Rattle.wac_graph_model.proofs.lemmas.meaning.CoverLemmas.{IsKnown, known_export, known_alias}
use Rattle.wac_graph_model.proofs.lemmas.meaning.MeantLemmas.{meant-push, alias_meant, defined_something, something, IsAmong, IsFirstAmong, new_name}
use Rattle.wac_graph_model.proofs.lemmas.meaning.QuietLemmas.{IsQuiet, quiet_rest, quiet_types, all_behind, first_all}
use Rattle.wac_graph_model.proofs.lemmas.meaning.MeaningLemmas.{Laws, meaning-push, alias_stands, alias_bound, instance_bound, alias_rest, nested_bytes_more, nested_stands, instantiations_more, instance_stands, export_shown, type_export_stands, export_others, made_of, indexes-push, counted_up}
use Rattle.wac_graph_model.proofs.lemmas.meaning.BeginLemmas.{import_rest, import_stands}
use Rattle.wac_graph_model.proofs.lemmas.meaning.DefinedLemmas.{nested_packages, imported_packages, nested_are, imported_nothing, nested_push, nested_thing, nested_nothing, imported_push, imported_thing, package_something, imported_components}

clash : (b : Bool) → b ≡ true → b ≡ false → ⊥
clash true _ h = cc
clash false h _ = cc

same_package_itself : (p : PackageId) → same_package p p ≡ true
same_package_itself p = rw (eqb_same p.slot) (eqb_same p.generation)

pub any_package : (id : PackageId) (xs : List PackageId) (k : ℕ) → slice_get xs k ≡ Some id → list_any (same_package id) xs ≡ true
any_package id [] k h = cc
any_package id (x ∷ xs) zero h = let e : x ≡ id = cc in rw e (ap (λ b. b || list_any (same_package id) xs) (same_package_itself id))
any_package id (x ∷ xs) (suc k) h = rw (any_package id xs k h) (or_yes (same_package id x)) where
  or_yes : (b : Bool) → (b || true) ≡ true
  or_yes true = refl
  or_yes false = refl

any_first : (id : PackageId) (es : List (PackageId × ℕ)) → list_any (λ e. same_package id e.0) es ≡ list_any (same_package id) (map (λ e. e.0) es)
any_first id [] = refl
any_first id (e ∷ es) = ap (λ b. same_package id e.0 || b) (any_first id es)

-- the packages of more nodes begin with those of fewer
pub used-append : (g : Graph) (used : List PackageId) (xs ys : List NodeId) → used_after g used (xs ++ ys) ≡ used_after g (used_after g used xs) ys
used-append g used [] ys = refl
used-append g used (x ∷ xs) ys = used-append g (with_package used (option_case (node_at g x) None (λ node. node.owner))) xs ys

pub used_prefix : (g : Graph) (used : List PackageId) (xs : List NodeId) (k : ℕ) (p : PackageId) → slice_get used k ≡ Some p → slice_get (used_after g used xs) k ≡ Some p
used_prefix g used [] k p h = h
used_prefix g used (x ∷ xs) k p h = used_prefix g (with_package used (owner x)) xs k p (one used (owner x) h) where
  owner : NodeId → Option PackageId
  owner n = option_case (node_at g n) None (λ node. node.owner)

  one : (us : List PackageId) (o : Option PackageId) → slice_get us k ≡ Some p → slice_get (with_package us o) k ≡ Some p
  one us None at = at
  one us (Some q) at = split (list_any (same_package q) us) where
    split : (b : Bool) → slice_get (cond b us (us ++ q ∷ [])) k ≡ Some p
    split true = at
    split false = slice_get-prefix us (q ∷ []) k p at

pub HasItem-push : (items : List Item) (x : Item) (node : GraphNode) (index k : ℕ) → HasItem items node index k → HasItem (items ++ x ∷ []) node index k
HasItem-push items x node index k h = record {
  it = h.it;
  before = h.before;
  after = h.after ++ x ∷ [];
  split = ap (λ xs. xs ++ x ∷ []) h.split ∙ append_assoc h.before (h.it ∷ h.after) (x ∷ []);
  here = h.here;
  own = h.own;
  adds = h.adds;
  counted = h.counted;
}

-- an item's place is within the items
HasItem-within : (items : List Item) (node : GraphNode) (index k : ℕ) → HasItem items node index k → k < length items
HasItem-within items node index k h = omega (arith, ap length h.split, length-append h.before (h.it ∷ h.after), h.here)

module _ (laws : Laws) (g : Graph) (sound : IsSound g) (o : EncodeOptions) (order : List NodeId) (at : NodeId → Thing) (classes : List (Name × Tree)) (bindings : Bindings) (places : Places) where
  -- what a node refers to
  abbrev pub IsNodeThing : NodeId → GraphNode → Type 0
  IsNodeThing n node = IsThing g classes bindings at order n node

  -- these items and indexes say what the nodes written so far stand for; `used` are the packages whose components are written
  pub record Written (done : List NodeId) (used : List PackageId) (items : List Item) (components : List (PackageId × ℕ)) (index : NodeId → ℕ) : Type 0 where
    pub nodes : (n : NodeId) → has done n ≡ true → is_written g n ≡ true
    pub meant : HasMeaning items
    pub imports : (meaning items).imports ≡ classes ++ imported_packages g o used
    pub import_count : o.define_components ≡ false → length (meaning items).imports ≡ length classes + length used
    pub customs : (meaning items).customs ≡ []
    pub exports : map shown (meaning items).exports ≡ flat_map (first_export g at) done
    pub bytes : (meaning items).nested_bytes ≡ nested_packages g o used
    pub packages : map (λ e. e.0) components ≡ used
    pub numbers : (k : ℕ) (e : PackageId × ℕ) → slice_get components k ≡ Some e → (e.1 < indexes (space sort.Component) items) × (stands_for (meaning items) sort.Component e.1 ≡ package_thing o (length classes) k)
    pub made : AreInstantiations g o (length classes) at order (instantiations g done) (meaning items).instantiations
    pub asked_for : (p : ℕ) (t : Sort) (i : ℕ) → slice_get places p ≡ Some (t, i) → (i < indexes (space t) items) × (stands_for (meaning items) t i ≡ import_at p)
    pub stand : (n : NodeId) (node : GraphNode) → Stands done n node → node_at g n ≡ Some node
        → (index n < indexes (space (sort_of_kind node.item_kind)) items) × (stands_for (meaning items) (sort_of_kind node.item_kind) (index n) ≡ at n)
    pub things : (n : NodeId) (node : GraphNode) → Stands done n node → node_at g n ≡ Some node → IsNodeThing n node
    pub known : (n : NodeId) (node : GraphNode) → Stands done n node → node_at g n ≡ Some node → (i : InterfaceId) → node.item_kind ≡ item.Instance i → IsKnown g.types i (bound_at (meaning items).scope.instances (index n))
    pub place : NodeId → ℕ
    pub own : (n : NodeId) (node : GraphNode) → Stands done n node → node_at g n ≡ Some node → HasItem items node (index n) (place n)
    pub in_place : (i j : ℕ) (n m : NodeId) → i < j → slice_get done i ≡ Some n → slice_get done j ≡ Some m → place n < place m

  module _ (done : List NodeId) (used : List PackageId) (items : List Item) (components : List (PackageId × ℕ)) (index : NodeId → ℕ) (w : Written done used items components index) where
    stand-push : (x : Item) (n : NodeId) (node : GraphNode) → Stands done n node → node_at g n ≡ Some node
        → (index n < indexes (space (sort_of_kind node.item_kind)) (items ++ x ∷ [])) × (stands_for (meaning (items ++ x ∷ [])) (sort_of_kind node.item_kind) (index n) ≡ at n)
    stand-push x n node here there =
        let s = w.stand n node here there in
        (omega (arith, s.0, indexes-push (space (sort_of_kind node.item_kind)) items x), laws.earlier items (x ∷ []) (sort_of_kind node.item_kind) (index n) s.0 ∙ s.1)

    known-push : (x : Item) (n : NodeId) (node : GraphNode) → Stands done n node → node_at g n ≡ Some node → (i : InterfaceId) → node.item_kind ≡ item.Instance i → IsKnown g.types i (bound_at (meaning (items ++ x ∷ [])).scope.instances (index n))
    known-push x n node here there i is =
        let within : index n < indexes (space sort.Instance) items = subst (λ (k : ItemKind). index n < indexes (space (sort_of_kind k)) items) is (w.stand n node here there).0 in
        subst (IsKnown g.types i) (sym (laws.bounds_earlier items (x ∷ []) (index n) within)) (w.known n node here there i is)

    asked-push : (x : Item) (p : ℕ) (t : Sort) (i : ℕ) → slice_get places p ≡ Some (t, i) → (i < indexes (space t) (items ++ x ∷ [])) × (stands_for (meaning (items ++ x ∷ [])) t i ≡ import_at p)
    asked-push x p t i placed =
        let s = w.asked_for p t i placed in
        (omega (arith, s.0, indexes-push (space t) items x), laws.earlier items (x ∷ []) t i s.0 ∙ s.1)

    -- a component keeps its index
    kept_number : (x : Item) (k : ℕ) (e : PackageId × ℕ) → slice_get components k ≡ Some e
        → (e.1 < indexes (space sort.Component) (items ++ x ∷ [])) × (stands_for (meaning (items ++ x ∷ [])) sort.Component e.1 ≡ package_thing o (length classes) k)
    kept_number x k e there =
        let n = w.numbers k e there in
        (omega (arith, n.0, indexes-push (space sort.Component) items x), laws.earlier items (x ∷ []) sort.Component e.1 n.0 ∙ n.1)

    -- a type or an alias more
    quiet_more : (x : Item) → IsQuiet x → ItemHasMeaning (meaning items) x → Written done used (items ++ x ∷ []) components index
    quiet_more x quiet meant =
        let same_ = quiet_rest items x quiet in
        record {
          nodes = w.nodes;
          meant = meant-push items x w.meant meant;
          imports = ap (λ r. r.imports) same_ ∙ w.imports;
          import_count = λ not_defined. ap (λ r. length r.imports) same_ ∙ w.import_count not_defined;
          customs = ap (λ r. r.customs) same_ ∙ w.customs;
          exports = ap (λ r. map shown r.exports) same_ ∙ w.exports;
          bytes = ap (λ r. r.nested_bytes) same_ ∙ w.bytes;
          packages = w.packages;
          numbers = kept_number x;
          made = subst (λ made. AreInstantiations g o (length classes) at order (instantiations g done) made) (sym (ap (λ r. r.instantiations) same_)) w.made;
          asked_for = asked-push x;
          stand = stand-push x;
          things = w.things;
          known = known-push x;
          place = w.place;
          own = λ n node here there. HasItem-push items x node (index n) (w.place n) (w.own n node here there);
          in_place = w.in_place;
        }

    -- the component that is added last
    numbers_more : (x : Item) (id : PackageId) (c : ℕ) → (c < indexes (space sort.Component) (items ++ x ∷ [])) × (stands_for (meaning (items ++ x ∷ [])) sort.Component c ≡ package_thing o (length classes) (length components))
        → (k : ℕ) (e : PackageId × ℕ) → (slice_get components k ≡ Some e) ⊎ ((k ≡ length components) × (e ≡ (id, c)))
        → (e.1 < indexes (space sort.Component) (items ++ x ∷ [])) × (stands_for (meaning (items ++ x ∷ [])) sort.Component e.1 ≡ package_thing o (length classes) k)
    numbers_more x id c this k e (inl before) = kept_number x k e before
    numbers_more x id c this k e (inr (last, is)) =
        subst (λ (y : PackageId × ℕ). (y.1 < indexes (space sort.Component) (items ++ x ∷ [])) × (stands_for (meaning (items ++ x ∷ [])) sort.Component y.1 ≡ package_thing o (length classes) k)) (sym is)
        (this.0, this.1 ∙ ap (package_thing o (length classes)) (sym last))

    packages_more : (id : PackageId) (c : ℕ) → map (λ e. e.0) (components ++ (id, c) ∷ []) ≡ used ++ id ∷ []
    packages_more id c = map-append (λ e. e.0) components ((id, c) ∷ []) ∙ ap (λ us. us ++ id ∷ []) w.packages

    many_components : length used ≡ length components
    many_components = ap length (sym w.packages) ∙ length-map components (λ e. e.0)

    -- a nested component more
    component_more : (id : PackageId) → o.define_components ≡ true
        → Written done (used ++ id ∷ []) (items ++ nested (package_bytes g id) ∷ []) (components ++ (id, indexes (space sort.Component) items) ∷ []) index
    component_more id define =
        let x : Item = nested (package_bytes g id) in
        let c : ℕ = indexes (space sort.Component) items in
        let more = nested_bytes_more items (package_bytes g id) in
        let many : length (meaning items).nested_bytes ≡ length components = ap length w.bytes ∙ ap length (nested_are g o define used) ∙ length-map used (package_bytes g) ∙ many_components in
        let stands : stands_for (meaning (items ++ nested (package_bytes g id) ∷ [])) sort.Component (indexes (space sort.Component) items) ≡ package_thing o (length classes) (length components) =
        nested_stands items (package_bytes g id) (indexes (space sort.Component) items) (sym (laws.counted items sort.Component)) ∙ ap component_at many ∙ nested_thing g o define (length classes) (length components) in
        record {
          nodes = w.nodes;
          meant = meant-push items x w.meant tt;
          imports = ap (λ r. r.imports) more ∙ w.imports ∙ ap (λ is. classes ++ is) (imported_nothing g o define used ∙ sym (imported_nothing g o define (used ++ id ∷ [])));
          import_count = λ not_defined. absurd (clash o.define_components define not_defined);
          customs = ap (λ r. r.customs) more ∙ w.customs;
          exports = ap (λ r. map shown r.exports) more ∙ w.exports;
          bytes = ap (λ r. r.nested_bytes) more ∙ ap (λ bs. bs ++ package_bytes g id ∷ []) w.bytes ∙ nested_push g o define used id;
          packages = packages_more id c;
          numbers = λ k e at_k. numbers_more x id c (counted_up sort.Component items x refl, stands) k e (slice_get-push components (id, c) k e at_k);
          made = subst (λ made. AreInstantiations g o (length classes) at order (instantiations g done) made) (sym (ap (λ r. r.instantiations) more)) w.made;
          asked_for = asked-push x;
          stand = stand-push x;
          things = w.things;
          known = known-push x;
          place = w.place;
          own = λ n node here there. HasItem-push items x node (index n) (w.place n) (w.own n node here there);
          in_place = w.in_place;
        }

    -- an imported component more
    import_more : (id : PackageId) (name : Name) (d : Description) → o.define_components ≡ false → described_sort d ≡ sort.Component → ItemHasMeaning (meaning items) (import_item name d)
        → (meaning (items ++ import_item name d ∷ [])).imports ≡ (meaning items).imports ++ package_import g id
        → Written done (used ++ id ∷ []) (items ++ import_item name d ∷ []) (components ++ (id, indexes (space sort.Component) items) ∷ []) index
    import_more id name d not_defined sorted meant listed =
        let x : Item = import_item name d in
        let c : ℕ = indexes (space sort.Component) items in
        let more = import_rest items name d in
        let stands : stands_for (meaning (items ++ import_item name d ∷ [])) sort.Component (indexes (space sort.Component) items) ≡ package_thing o (length classes) (length components) =
        subst (λ t. stands_for (meaning (items ++ import_item name d ∷ [])) t (indexes (space t) items) ≡ import_at (length (meaning items).imports)) sorted (import_stands laws items name d)
        ∙ ap import_at (w.import_count not_defined ∙ ap (λ k. length classes + k) many_components)
        ∙ imported_thing g o not_defined (length classes) (length components) in
        let one_more : length (meaning (items ++ import_item name d ∷ [])).imports ≡ length (meaning items).imports + 1 = ap (λ r. length r.imports) more ∙ length-append (meaning items).imports ((name, described_item (meaning items).scope d) ∷ []) in
        record {
          nodes = w.nodes;
          meant = meant-push items x w.meant meant;
          imports = listed ∙ ap (λ is. is ++ package_import g id) w.imports ∙ append_assoc classes (imported_packages g o used) (package_import g id) ∙ ap (λ is. classes ++ is) (imported_push g o not_defined used id);
          import_count = λ _. omega (arith, one_more, w.import_count not_defined, length-append used (id ∷ []));
          customs = ap (λ r. r.customs) more ∙ w.customs;
          exports = ap (λ r. map shown r.exports) more ∙ w.exports;
          bytes = ap (λ r. r.nested_bytes) more ∙ w.bytes ∙ nested_nothing g o not_defined used ∙ sym (nested_nothing g o not_defined (used ++ id ∷ []));
          packages = packages_more id c;
          numbers = λ k e at_k. numbers_more x id c (counted_up sort.Component items x (ap (λ t. Some (space t)) sorted), stands) k e (slice_get-push components (id, c) k e at_k);
          made = subst (λ made. AreInstantiations g o (length classes) at order (instantiations g done) made) (sym (ap (λ r. r.instantiations) more)) w.made;
          asked_for = asked-push x;
          stand = stand-push x;
          things = w.things;
          known = known-push x;
          place = w.place;
          own = λ n node here there. HasItem-push items x node (index n) (w.place n) (w.own n node here there);
          in_place = w.in_place;
        }

  -- types and aliases more
  quiet_all : (done : List NodeId) (used : List PackageId) (more items : List Item) (components : List (PackageId × ℕ)) (index : NodeId → ℕ) → AllByRecursion IsQuiet more → AllHaveMeaning (meaning items) more
      → Written done used items components index → Written done used (items ++ more) components index
  quiet_all done used [] items components index quiet meant w = subst (λ its. Written done used its components index) (sym (append-nil items)) w
  quiet_all done used (x ∷ more) items components index quiet meant w =
      subst (λ its. Written done used its components index) (append_assoc items (x ∷ []) more)
      (quiet_all done used more (items ++ x ∷ []) components index quiet.1 (subst (λ r. AllHaveMeaning r more) (sym (meaning-push items x)) meant.1) (quiet_more done used items components index w x quiet.0 meant.0))

  -- types alone more, one of which has this tree
  pub with_type : (done : List NodeId) (used : List PackageId) (items mid : List Item) (components : List (PackageId × ℕ)) (index : NodeId → ℕ) (tree : Tree) (k : ℕ)
      → Written done used items components index → WritesTypeWith tree items mid k → Written done used mid components index × (type_at (meaning mid).scope.types k ≡ tree)
  with_type done used items mid components index tree k w t =
      let (meant, typed) = t.meant w.meant in
      let behind : AllHaveMeaning (meaning items) t.types = all_behind start items t.types (subst HasMeaning t.added meant) in
      (subst (λ its. Written done used its components index) (sym t.added) (quiet_all done used t.types items components index (quiet_types t.types t.alone) behind w), typed)

  -- a package's component more
  adds_package : (done : List NodeId) (used : List PackageId) (items mid : List Item) (components : List (PackageId × ℕ)) (index : NodeId → ℕ) (id : PackageId) (c : ℕ) → AddsPackage g o id c items mid
      → Written done used items components index → Written done (used ++ id ∷ []) mid (components ++ (id, c) ∷ []) index
  adds_package done used items mid components index id c (adds_nested define counted added) w =
      subst (λ j. Written done (used ++ id ∷ []) mid (components ++ (id, j) ∷ []) index) (sym counted)
      (subst (λ its. Written done (used ++ id ∷ []) its (components ++ (id, indexes (space sort.Component) items) ∷ []) index) (sym added) (component_more done used items components index w id define))
  adds_package done used items mid components index id c (adds_import not_defined it) w =
      let (meant, listed) = it.meant w.meant in
      let behind : AllHaveMeaning (meaning items) (it.types ++ import_item it.name it.description ∷ []) =
      all_behind start items (it.types ++ import_item it.name it.description ∷ []) (subst HasMeaning (it.added ∙ append_assoc items it.types (import_item it.name it.description ∷ [])) meant) in
      let quiet : Written done used (items ++ it.types) components index = quiet_all done used it.types items components index (quiet_types it.types it.alone) (first_all (meaning items) it.types (import_item it.name it.description ∷ []) behind) w in
      let last : ItemHasMeaning (meaning (items ++ it.types)) (import_item it.name it.description) = (all_behind start (items ++ it.types) (import_item it.name it.description ∷ []) (subst HasMeaning it.added meant)).0 in
      let same : (meaning (items ++ it.types)).imports ≡ (meaning items).imports = quiet.imports ∙ sym w.imports in
      let more : (meaning ((items ++ it.types) ++ import_item it.name it.description ∷ [])).imports ≡ (meaning (items ++ it.types)).imports ++ package_import g id =
      ap (λ its. (meaning its).imports) (sym it.added) ∙ listed ∙ ap (λ is. is ++ package_import g id) (sym same) in
      subst (λ j. Written done (used ++ id ∷ []) mid (components ++ (id, j) ∷ []) index) (sym it.counted)
      (subst (λ its. Written done (used ++ id ∷ []) its (components ++ (id, indexes (space sort.Component) (items ++ it.types)) ∷ []) index) (sym it.added)
      (import_more done used (items ++ it.types) components index quiet id it.name it.description not_defined it.sorted last more))

  -- the component of a package, which is added where it was not
  pub with_component : (done : List NodeId) (used : List PackageId) (items mid : List Item) (components after : List (PackageId × ℕ)) (index : NodeId → ℕ) (id : PackageId) (c : ℕ)
      → Written done used items components index → HasComponent g o id c components after items mid
      → Written done (with_package used (Some id)) mid after index × ((k : ℕ) × (slice_get (with_package used (Some id)) k ≡ Some id) × (stands_for (meaning mid) sort.Component c ≡ package_thing o (length classes) k))
  with_component done used items mid components after index id c w (inl (k, at_k, same, kept)) =
      let there : slice_get used k ≡ Some id = ap (λ us. slice_get us k) (sym w.packages) ∙ slice_get-map (λ e. e.0) components k (id, c) at_k in
      let is : with_package used (Some id) ≡ used = ap (λ b. cond b used (used ++ id ∷ [])) (any_package id used k there) in
      let n = w.numbers k (id, c) at_k in (
        subst (λ us. Written done us mid after index) (sym is) (subst (λ cs. Written done used mid cs index) (sym same) (subst (λ its. Written done used its components index) (sym kept) w)),
        (k, ap (λ us. slice_get us k) is ∙ there, ap (λ its. stands_for (meaning its) sort.Component c) kept ∙ n.1),
      )
  with_component done used items mid components after index id c w (inr (lacking, grown, adds)) =
      let none : list_any (same_package id) used ≡ false = ap (list_any (same_package id)) (sym w.packages) ∙ sym (any_first id components) ∙ lacking in
      let is : with_package used (Some id) ≡ used ++ id ∷ [] = ap (λ b. cond b used (used ++ id ∷ [])) none in
      let more = adds_package done used items mid components index id c adds w in
      let last : slice_get (components ++ (id, c) ∷ []) (length components) ≡ Some (id, c) = slice_get-middle components (id, c) [] in
      let n = more.numbers (length components) (id, c) last in
      let long : length used ≡ length components = ap length (sym w.packages) ∙ length-map components (λ e. e.0) in (
        subst (λ us. Written done us mid after index) (sym is) (subst (λ cs. Written done (used ++ id ∷ []) mid cs index) (sym grown) more),
        (length components, ap (λ us. slice_get us (length components)) is ∙ ap (slice_get (used ++ id ∷ [])) (sym long) ∙ slice_get-middle used id [], n.1),
      )

  -- the next node, with the index at which it stands
  module _ (done later : List NodeId) (n : NodeId) (node : GraphNode) (here : order ≡ done ++ n ∷ later) (ready : IsLowestReady g.edges (minus (is_written g) done) n) (there : node_at g n ≡ Some node) (index index' : NodeId → ℕ) (i : ℕ) (now : index' n ≡ i) (others : (m : NodeId) → same m n ≡ false → index' m ≡ index m) where
    absent_node : has done n ≡ false
    absent_node = (minus-true (is_written g) done n ready.here).1

    source_done : (e : Edge) → set.contains g.edges e ≡ true → e.target ≡ n → (source : GraphNode) → node_at g e.source ≡ Some source → Stands done e.source source
    source_done e stands leads source source_there = ready_sources g done n ready e stands leads source source_there

    -- another node than the next keeps its index
    index_kept : (m : NodeId) (other : GraphNode) → Stands done m other → node_at g m ≡ Some other → index' m ≡ index m
    index_kept m other was other_there = others m (stands_apart g done m n other ready.here other_there was)

    -- facts on each node that stands so far and the next
    each : (P : NodeId → GraphNode → Type 0) → ((m : NodeId) (other : GraphNode) → Stands done m other → node_at g m ≡ Some other → P m other) → P n node
        → (m : NodeId) (other : GraphNode) → Stands (done ++ n ∷ []) m other → node_at g m ≡ Some other → P m other
    each P before last m other within other_there = split (stood done n m other within) where
      split : (m ≡ n) ⊎ Stands done m other → P m other
      split (inl same) =
          let e : node ≡ other = let f : node_at g n ≡ Some other = ap (λ k. node_at g k) (sym same) ∙ other_there in cc in
          subst (λ k. P k other) (sym same) (subst (λ x. P n x) e last)
      split (inr was) = before m other was other_there

    place' : (NodeId → ℕ) → ℕ → NodeId → ℕ
    place' place last m = cond (same m n) last (place m)

    place-here : (place : NodeId → ℕ) (last : ℕ) → place' place last n ≡ last
    unfolding place'
    place-here place last = rw (same_itself n) refl

    place-other : (place : NodeId → ℕ) (last : ℕ) (m : NodeId) → same m n ≡ false → place' place last m ≡ place m
    unfolding place'
    place-other place last m h = rw h refl

    -- the last item is the node's own, and stands after the others
    placed : (used : List PackageId) (items : List Item) (components : List (PackageId × ℕ)) → Written done used items components index → (x : Item) → is_own_item node node.kind x ≡ true → sort_added x ≡ Some (sort_of_kind node.item_kind) → i ≡ indexes (space (sort_of_kind node.item_kind)) items
        → (place : NodeId → ℕ)
        × ((m : NodeId) (other : GraphNode) → Stands (done ++ n ∷ []) m other → node_at g m ≡ Some other → HasItem (items ++ x ∷ []) other (index' m) (place m))
        × ((a b : ℕ) (k m : NodeId) → a < b → slice_get (done ++ n ∷ []) a ≡ Some k → slice_get (done ++ n ∷ []) b ≡ Some m → place k < place m)
    placed used items components w x own sorted counts = (
      place' w.place (length items),
      each (λ m other. HasItem (items ++ x ∷ []) other (index' m) (place' w.place (length items) m))
          (λ m other was other_there.
          subst (λ k. HasItem (items ++ x ∷ []) other (index' m) k) (sym (place-other w.place (length items) m (stands_apart g done m n other ready.here other_there was)))
          (subst (λ k. HasItem (items ++ x ∷ []) other k (w.place m)) (sym (index_kept m other was other_there)) (HasItem-push items x other (index m) (w.place m) (w.own m other was other_there))))
          (subst (λ k. HasItem (items ++ x ∷ []) node (index' n) k) (sym (place-here w.place (length items)))
          (record { it = x; before = items; after = []; split = refl; here = refl; own = own; adds = sorted; counted = now ∙ counts })),
      λ a b k m less at_a at_b. rising a b k m less (slice_get-push done n a k at_a) (slice_get-push done n b m at_b),
    ) where
      within : (k : NodeId) → has done k ≡ true → w.place k < length items
      within k was =
          let (other, other_there, _) = node_of_written g k (w.nodes k was) in
          HasItem-within items other (index k) (w.place k) (w.own k other (inr was) other_there)

      rising : (a b : ℕ) (k m : NodeId) → a < b → (slice_get done a ≡ Some k) ⊎ ((a ≡ length done) × (k ≡ n)) → (slice_get done b ≡ Some m) ⊎ ((b ≡ length done) × (m ≡ n)) → place' w.place (length items) k < place' w.place (length items) m
      rising a b k m less (inl at_a) (inl at_b) =
          let e = place-other w.place (length items) k (apart done k n (in_list done a k at_a) absent_node) in
          let f = place-other w.place (length items) m (apart done m n (in_list done b m at_b) absent_node) in
          let r = w.in_place a b k m less at_a at_b in
          rw (e, f) r
      rising a b k m less (inl at_a) (inr (last, is)) =
          let e = place-other w.place (length items) k (apart done k n (in_list done a k at_a) absent_node) in
          let f = ap (place' w.place (length items)) is ∙ place-here w.place (length items) in
          rw (e, f) (within k (in_list done a k at_a))
      rising a b k m less (inr (first, _)) (inl at_b) = let s = slice_get_within done b m at_b in absurd (omega arith)
      rising a b k m less (inr (first, _)) (inr (last, _)) = absurd (omega arith)

    instantiations-push : (b : Bool) → node_is g (λ x. is_instantiation x.kind) n ≡ b → instantiations g (done ++ n ∷ []) ≡ instantiations g done ++ cond b (n ∷ []) []
    instantiations-push b is = filter-append (node_is g (λ x. is_instantiation x.kind)) done (n ∷ []) ∙ ap (λ t. instantiations g done ++ cond t (n ∷ []) []) is

    kind_test : (k : Bool) → is_instantiation node.kind ≡ k → node_is g (λ x. is_instantiation x.kind) n ≡ k
    kind_test k is = ap (λ o. option_case o false (λ x. is_instantiation x.kind)) there ∙ is

    nodes_more : (used : List PackageId) (items : List Item) (components : List (PackageId × ℕ)) → Written done used items components index → (m : NodeId) → (m ≡ n) ⊎ (has done m ≡ true) → is_written g m ≡ true
    nodes_more used items components w m (inl same) = ap (is_written g) same ∙ (minus-true (is_written g) done n ready.here).0
    nodes_more used items components w m (inr was) = w.nodes m was

    -- what the nodes stand for so far, where this one stands
    stand_more : (used : List PackageId) (items : List Item) (components : List (PackageId × ℕ)) → Written done used items components index → (x : Item)
        → (i < indexes (space (sort_of_kind node.item_kind)) (items ++ x ∷ [])) × (stands_for (meaning (items ++ x ∷ [])) (sort_of_kind node.item_kind) i ≡ at n)
        → (m : NodeId) (other : GraphNode) → Stands (done ++ n ∷ []) m other → node_at g m ≡ Some other
        → (index' m < indexes (space (sort_of_kind other.item_kind)) (items ++ x ∷ [])) × (stands_for (meaning (items ++ x ∷ [])) (sort_of_kind other.item_kind) (index' m) ≡ at m)
    stand_more used items components w x last =
        each (λ m other. (index' m < indexes (space (sort_of_kind other.item_kind)) (items ++ x ∷ [])) × (stands_for (meaning (items ++ x ∷ [])) (sort_of_kind other.item_kind) (index' m) ≡ at m))
        (λ m other was other_there.
        let s = stand-push done used items components index w x m other was other_there in
        subst (λ j. (j < indexes (space (sort_of_kind other.item_kind)) (items ++ x ∷ [])) × (stands_for (meaning (items ++ x ∷ [])) (sort_of_kind other.item_kind) j ≡ at m)) (sym (index_kept m other was other_there)) s)
        (subst (λ j. (j < indexes (space (sort_of_kind node.item_kind)) (items ++ x ∷ [])) × (stands_for (meaning (items ++ x ∷ [])) (sort_of_kind node.item_kind) j ≡ at n)) (sym now) last)

    -- and of which instances something is known
    known_more : (used : List PackageId) (items : List Item) (components : List (PackageId × ℕ)) → Written done used items components index → (x : Item)
        → ((j : InterfaceId) → node.item_kind ≡ item.Instance j → IsKnown g.types j (bound_at (meaning (items ++ x ∷ [])).scope.instances i))
        → (m : NodeId) (other : GraphNode) → Stands (done ++ n ∷ []) m other → node_at g m ≡ Some other
        → (j : InterfaceId) → other.item_kind ≡ item.Instance j → IsKnown g.types j (bound_at (meaning (items ++ x ∷ [])).scope.instances (index' m))
    known_more used items components w x last =
        each (λ m other. (j : InterfaceId) → other.item_kind ≡ item.Instance j → IsKnown g.types j (bound_at (meaning (items ++ x ∷ [])).scope.instances (index' m)))
        (λ m other was other_there j is. subst (λ k. IsKnown g.types j (bound_at (meaning (items ++ x ∷ [])).scope.instances k)) (sym (index_kept m other was other_there)) (known-push done used items components index w x m other was other_there j is))
        (λ j is. subst (λ k. IsKnown g.types j (bound_at (meaning (items ++ x ∷ [])).scope.instances k)) (sym now) (last j is))

    -- and what the nodes refer to
    things_more : (used : List PackageId) (items : List Item) (components : List (PackageId × ℕ)) → Written done used items components index → IsNodeThing n node
        → (k : NodeId) (other : GraphNode) → Stands (done ++ n ∷ []) k other → node_at g k ≡ Some other → IsNodeThing k other
    things_more used items components w this = each (λ k other. IsNodeThing k other) (λ k other was other_there. w.things k other was other_there) this

    -- the index of the node that an item adds
    index_there : (items : List Item) (x : Item) → adds x ≡ Some (space (sort_of_kind node.item_kind)) → i ≡ indexes (space (sort_of_kind node.item_kind)) items → i < indexes (space (sort_of_kind node.item_kind)) (items ++ x ∷ [])
    index_there items x is counts = subst (λ j. j < indexes (space (sort_of_kind node.item_kind)) (items ++ x ∷ [])) (sym counts) (counted_up (sort_of_kind node.item_kind) items x is)

    -- what the node's index refers to after these items is what the node is taken to refer to
    abbrev pub Agrees : List Item → Type 0
    Agrees its = i < indexes (space (sort_of_kind node.item_kind)) its → stands_for (meaning its) (sort_of_kind node.item_kind) i ≡ at n

    -- the exports by first names, with the node's where it has one
    first-push : (o : Option Name) → node.first_name ≡ o → flat_map (first_export g at) (done ++ n ∷ []) ≡ flat_map (first_export g at) done ++ option_case o [] (λ name. (name, sort_of_kind node.item_kind, at n) ∷ [])
    first-push o is =
        flat_map-append (first_export g at) done (n ∷ [])
        ∙ ap (λ es. flat_map (first_export g at) done ++ es)
        (append-nil (first_export g at n) ∙ ap (λ z. option_case z [] (λ x. option_case x.first_name [] (λ name. (name, sort_of_kind x.item_kind, at n) ∷ []))) there
        ∙ ap (λ z. option_case z [] (λ name. (name, sort_of_kind node.item_kind, at n) ∷ [])) is)

    -- only a definition has one
    no_first : (node.kind ≡ graph.definition → ⊥) → flat_map (first_export g at) done ≡ flat_map (first_export g at) (done ++ n ∷ [])
    no_first other = sym (first-push None (split node.first_name refl) ∙ append-nil (flat_map (first_export g at) done)) where
      split : (o : Option Name) → node.first_name ≡ o → o ≡ None
      split None is = refl
      split (Some name) is = absurd (other (sound.first_names n node name there is).0)

    -- an alias is written
    pub alias_more : (used : List PackageId) (items : List Item) (components : List (PackageId × ℕ)) (instance : NodeId) (source : GraphNode) (k : ℕ) (name : Name) → Written done used items components index
        → node.kind ≡ graph.alias → IsAliasOf g instance k n → node_at g instance ≡ Some source → slice_get (exports_of g source) k ≡ Some (name, node.item_kind)
        → i ≡ indexes (space (sort_of_kind node.item_kind)) items → Agrees (items ++ alias_item (export_alias (sort_of_kind node.item_kind) (index instance) name) ∷ [])
        → Written (done ++ n ∷ []) used (items ++ alias_item (export_alias (sort_of_kind node.item_kind) (index instance) name) ∷ []) components index'
    alias_more used items components instance source k name w kind aliased source_there exported counts agrees =
        let t : Sort = sort_of_kind node.item_kind in
        let x : Item = alias_item (export_alias t (index instance) name) in
        let more = alias_rest items t (index instance) name in
        let (place, own, in_place) = placed used items components w x (ap (λ q. is_own_item node q x) kind) refl counts in
        let less = index_there items x refl counts in
        record {
          nodes = λ k within. nodes_more used items components w k (in_push done n k within);
          meant = meant-push items x w.meant (alias_meant items t (index instance) name (subst IsSomething (sym of_instance) source_something) has_export);
          imports = ap (λ r. r.imports) more ∙ w.imports;
          import_count = λ not_defined. ap (λ r. length r.imports) more ∙ w.import_count not_defined;
          customs = ap (λ r. r.customs) more ∙ w.customs;
          exports = ap (λ r. map shown r.exports) more ∙ w.exports ∙ no_first (λ other. two_kinds kind other);
          bytes = ap (λ r. r.nested_bytes) more ∙ w.bytes;
          packages = w.packages;
          numbers = kept_number done used items components index w x;
          made = subst (λ ns. AreInstantiations g o (length classes) at order ns (meaning (items ++ x ∷ [])).instantiations) (sym (instantiations-push false (kind_test false (ap is_instantiation kind)) ∙ rw append-nil refl))
              (subst (λ made. AreInstantiations g o (length classes) at order (instantiations g done) made) (sym (ap (λ r. r.instantiations) more)) w.made);
          asked_for = asked-push done used items components index w x;
          stand = stand_more used items components w x (less, agrees less);
          things = things_more used items components w (as_alias instance source k name kind aliased source_there exported (is_projection less));
          known = known_more used items components w x here_known;
          place = place;
          own = own;
          in_place = in_place;
        } where
          two_kinds : {q : Kind} → q ≡ graph.alias → q ≡ graph.definition → ⊥
          two_kinds a b = cc

          -- what is no instance exports nothing
          no_exports : (z : GraphNode) → exports_of g z ≡ [] → slice_get (exports_of g z) k ≡ Some (name, node.item_kind) → ⊥
          no_exports z none found = nothing_there (exports_of g z) none found where
            nothing_there : (es : List (Name × ItemKind)) → es ≡ [] → slice_get es k ≡ Some (name, node.item_kind) → ⊥
            nothing_there [] none found = cc
            nothing_there (e ∷ es) none found = cc

          exports_are : (z : GraphNode) (j : InterfaceId) → z.item_kind ≡ item.Instance j → exports_of g z ≡ interface_exports g.types j
          exports_are z j is = rw is refl

          -- an interface of which the source is an instance
          instance_of : (q : ItemKind) (z : GraphNode) → z.item_kind ≡ q → slice_get (exports_of g z) k ≡ Some (name, node.item_kind) → (j : InterfaceId) × (z.item_kind ≡ item.Instance j) × (slice_get (interface_exports g.types j) k ≡ Some (name, node.item_kind))
          instance_of (item.TypeItem t) z is found = absurd (no_exports z (rw is refl) found)
          instance_of (item.Func f) z is found = absurd (no_exports z (rw is refl) found)
          instance_of (item.Instance j) z is found = (j, is, subst (λ (es : List (Name × ItemKind)). slice_get es k ≡ Some (name, node.item_kind)) (exports_are z j is) found)
          instance_of (item.Component u) z is found = absurd (no_exports z (rw is refl) found)
          instance_of (item.Module m) z is found = absurd (no_exports z (rw is refl) found)
          instance_of (item.Value v) z is found = absurd (no_exports z (rw is refl) found)

          source_stands : Stands done instance source
          source_stands = source_done (alias_edge instance n k) aliased refl source source_there

          source_something : IsSomething (at instance)
          source_something = something g classes bindings at order instance source (w.things instance source source_stands source_there)

          -- the instance stands
          of_instance : stands_for (meaning items) sort.Instance (index instance) ≡ at instance
          of_instance =
              let (j, is, _) = instance_of source.item_kind source refl exported in
              ap (λ q. stands_for (meaning items) (sort_of_kind q) (index instance)) (sym is) ∙ (w.stand instance source source_stands source_there).1

          -- and may have the export
          has_export : HasExport (sort_of_kind node.item_kind) (bound_at (meaning items).scope.instances (index instance)).type name
          has_export =
              let (j, is, found) = instance_of source.item_kind source refl exported in
              known_export g.types j (bound_at (meaning items).scope.instances (index instance)) k name node.item_kind (w.known instance source source_stands source_there j is) found

          here_known : (l : InterfaceId) → node.item_kind ≡ item.Instance l → IsKnown g.types l (bound_at (meaning (items ++ alias_item (export_alias (sort_of_kind node.item_kind) (index instance) name) ∷ [])).scope.instances i)
          here_known l is_instance =
              let (j, is, found) = instance_of source.item_kind source refl exported in
              let b = bound_at (meaning items).scope.instances (index instance) in
              let here : IsKnown g.types l (bound_at (meaning (items ++ alias_item (export_alias sort.Instance (index instance) name) ∷ [])).scope.instances (indexes (space sort.Instance) items)) =
              subst (IsKnown g.types l) (sym (alias_bound laws items (index instance) name))
              (known_alias g.types j l b k name (w.known instance source source_stands source_there j is) (found ∙ ap (λ (q : ItemKind). Some (name, q)) is_instance)) in
              subst (λ q. IsKnown g.types l (bound_at (meaning (items ++ alias_item (export_alias (sort_of_kind node.item_kind) (index instance) name) ∷ [])).scope.instances q)) (sym counts)
              (subst (λ (q : ItemKind). IsKnown g.types l (bound_at (meaning (items ++ alias_item (export_alias (sort_of_kind q) (index instance) name) ∷ [])).scope.instances (indexes (space (sort_of_kind q)) items))) (sym is_instance) here)

          -- the alias refers to the export
          is_projection : i < indexes (space (sort_of_kind node.item_kind)) (items ++ alias_item (export_alias (sort_of_kind node.item_kind) (index instance) name) ∷ []) → at n ≡ projection (at instance) name
          is_projection less =
              let t : Sort = sort_of_kind node.item_kind in
              sym (agrees less)
              ∙ ap (stands_for (meaning (items ++ alias_item (export_alias t (index instance) name) ∷ [])) t) counts
              ∙ alias_stands items t (index instance) name (indexes (space t) items) (sym (laws.counted items t)) has_export
              ∙ ap (λ z. projected z name) of_instance
              ∙ projected_some (at instance) name source_something

    -- an instantiation is written
    pub instance_more : (used : List PackageId) (items : List Item) (components : List (PackageId × ℕ)) (id : PackageId) (c k : ℕ) (arguments : List (Name × Sort × ℕ)) → Written done used items components index
        → node.kind ≡ graph.instantiation → node.owner ≡ Some id → slice_get (used_packages g order) k ≡ Some id → stands_for (meaning items) sort.Component c ≡ package_thing o (length classes) k
        → sort_of_kind node.item_kind ≡ sort.Instance
        → AreArgumentItems g places index n 0 (imports_of g node) arguments
        → i ≡ indexes (space sort.Instance) items → Agrees (items ++ instantiate c arguments ∷ [])
        → Written (done ++ n ∷ []) used (items ++ instantiate c arguments ∷ []) components index'
    instance_more used items components id c k arguments w kind owned first stands typed given_items counts agrees =
        let x : Item = instantiate c arguments in
        let more = instantiations_more items c arguments in
        let counted : i ≡ indexes (space (sort_of_kind node.item_kind)) items = counts ∙ ap (λ t. indexes (space t) items) (sym typed) in
        let (place, own, in_place) = placed used items components w x (ap (λ q. is_own_item node q x) kind) (ap Some (sym typed)) counted in
        let less = index_there items x (ap (λ t. Some (space t)) (sym typed)) counted in
        record {
          nodes = λ k within. nodes_more used items components w k (in_push done n k within);
          meant = meant-push items x w.meant (subst IsSomething (sym stands) (package_something g o (length classes) k), arguments_meant 0 (imports_of g node) arguments given_items);
          imports = ap (λ r. r.imports) more ∙ w.imports;
          import_count = λ not_defined. ap (λ r. length r.imports) more ∙ w.import_count not_defined;
          customs = ap (λ r. r.customs) more ∙ w.customs;
          exports = ap (λ r. map shown r.exports) more ∙ w.exports ∙ no_first (λ other. two_kinds kind other);
          bytes = ap (λ r. r.nested_bytes) more ∙ w.bytes;
          packages = w.packages;
          numbers = kept_number done used items components index w x;
          made = subst (λ ns. AreInstantiations g o (length classes) at order ns (meaning (items ++ x ∷ [])).instantiations) (sym (instantiations-push true (kind_test true (ap is_instantiation kind))))
              (subst (λ made. AreInstantiations g o (length classes) at order (instantiations g done ++ n ∷ []) made) (sym (ap (λ r. r.instantiations) more))
              (are_push (instantiations g done) (meaning items).instantiations w.made this));
          asked_for = asked-push done used items components index w x;
          stand = stand_more used items components w x (less, agrees less);
          things = things_more used items components w (as_instantiation (length (instantiations g done)) kind (place_of g order done later n node here there kind) (is_instance less));
          known = known_more used items components w x
              (λ j is. inl (ap (λ k. (bound_at (meaning (items ++ x ∷ [])).scope.instances k).type) counts ∙ ap (λ (b : Bound). b.type) (instance_bound laws items c arguments)));
          place = place;
          own = own;
          in_place = in_place;
        } where
          two_kinds : {q : Kind} → q ≡ graph.instantiation → q ≡ graph.definition → ⊥
          two_kinds a b = cc

          are_push : (ns : List NodeId) (its : List Instantiation) → AreInstantiations g o (length classes) at order ns its → IsInstantiationOf g o (length classes) at order n (made_of (meaning items) c arguments)
              → AreInstantiations g o (length classes) at order (ns ++ n ∷ []) (its ++ made_of (meaning items) c arguments ∷ [])
          are_push [] [] h it = (it, tt)
          are_push [] (y ∷ its) h it = absurd h
          are_push (k ∷ ns) [] h it = absurd h
          are_push (k ∷ ns) (y ∷ its) h it = (h.0, are_push ns its h.1 it)

          are_many : (ns : List NodeId) (its : List Instantiation) → AreInstantiations g o (length classes) at order ns its → length its ≡ length ns
          are_many [] [] h = refl
          are_many [] (y ∷ its) h = absurd h
          are_many (k ∷ ns) [] h = absurd h
          are_many (k ∷ ns) (y ∷ its) h = ap suc (are_many ns its h.1)

          node_stands : (j : ℕ) (source : NodeId) (other : GraphNode) (a : Name × Sort × ℕ) → IsArgumentOf g n j source → node_at g source ≡ Some other → a.1 ≡ sort_of_kind other.item_kind → a.2 ≡ index source → stands_for (meaning items) a.1 a.2 ≡ at source
          node_stands j source other a set_ other_there of_sort at_index =
              let s = w.stand source other (source_done (argument_edge source n j) set_ refl other other_there) other_there in
              ap (λ t. stands_for (meaning items) t a.2) of_sort ∙ ap (stands_for (meaning items) (sort_of_kind other.item_kind)) at_index ∙ s.1

          argument_named : (j : ℕ) (e : Name × ItemKind) (a : Name × Sort × ℕ) → IsArgumentItem g places index n j e a → a.0 ≡ e.0
          argument_named j e a (of_node source other is set_ other_there of_sort at_index) = is
          argument_named j e a (of_import is unset_ of_sort there_) = is

          argument_thing : (j : ℕ) (e : Name × ItemKind) (a : Name × Sort × ℕ) → IsArgumentItem g places index n j e a → IsArgument g at n j e a.1 (stands_for (meaning items) a.1 a.2)
          argument_thing j e a (of_node source other is set_ other_there of_sort at_index) =
              subst (λ t. IsArgument g at n j e a.1 t) (sym (node_stands j source other a set_ other_there of_sort at_index))
              (subst (λ s. IsArgument g at n j e s (at source)) (sym of_sort) (given source other set_ other_there))
          argument_thing j e a (of_import is unset_ of_sort there_) =
              subst (λ t. IsArgument g at n j e a.1 t) (sym (w.asked_for there_.p a.1 a.2 there_.placed).1)
              (subst (λ s. IsArgument g at n j e s (import_at there_.p)) (sym of_sort) (asked there_.p unset_ there_.fell))

          argument_meant : (j : ℕ) (e : Name × ItemKind) (a : Name × Sort × ℕ) → IsArgumentItem g places index n j e a → IsSomething (stands_for (meaning items) a.1 a.2)
          argument_meant j e a (of_node source other is set_ other_there of_sort at_index) = subst IsSomething (sym (node_stands j source other a set_ other_there of_sort at_index))
              (something g classes bindings at order source other (w.things source other (source_done (argument_edge source n j) set_ refl other other_there) other_there))
          argument_meant j e a (of_import is unset_ of_sort there_) = subst IsSomething (sym (w.asked_for there_.p a.1 a.2 there_.placed).1) tt

          arguments_meant : (j : ℕ) (imports : List (Name × ItemKind)) (as_ : List (Name × Sort × ℕ)) → AreArgumentItems g places index n j imports as_ → AllByRecursion (λ a. IsSomething (stands_for (meaning items) a.1 a.2)) as_
          arguments_meant j [] [] h = tt
          arguments_meant j [] (a ∷ as_) h = absurd h
          arguments_meant j (e ∷ imports) [] h = absurd h
          arguments_meant j (e ∷ imports) (a ∷ as_) h = (argument_meant j e a h.0, arguments_meant (suc j) imports as_ h.1)

          are_arguments : (j : ℕ) (imports : List (Name × ItemKind)) (as_ : List (Name × Sort × ℕ)) → AreArgumentItems g places index n j imports as_ → AreArguments g at n j imports (map (λ a. (a.0, a.1, stands_for (meaning items) a.1 a.2)) as_)
          are_arguments j [] [] h = tt
          are_arguments j [] (a ∷ as_) h = absurd h
          are_arguments j (e ∷ imports) [] h = absurd h
          are_arguments j (e ∷ imports) (a ∷ as_) h = (argument_named j e a h.0, argument_thing j e a h.0, are_arguments (suc j) imports as_ h.1)

          this : IsInstantiationOf g o (length classes) at order n (made_of (meaning items) c arguments)
          this = record { node = node; there = there; owner = id; owned = owned; place = k; used = first; component = stands; arguments = are_arguments 0 (imports_of g node) arguments given_items }

          -- the index refers to the instantiation
          is_instance : i < indexes (space (sort_of_kind node.item_kind)) (items ++ instantiate c arguments ∷ []) → at n ≡ instance_at (length (instantiations g done))
          is_instance less =
              sym (agrees less)
              ∙ ap (λ t. stands_for (meaning (items ++ instantiate c arguments ∷ [])) t i) typed
              ∙ ap (stands_for (meaning (items ++ instantiate c arguments ∷ [])) sort.Instance) counts
              ∙ instance_stands items c arguments (indexes (space sort.Instance) items) (sym (laws.counted items sort.Instance))
              ∙ ap instance_at (are_many (instantiations g done) (meaning items).instantiations w.made)

    -- a definition is exported by its first name
    pub definition_more : (used : List PackageId) (items : List Item) (components : List (PackageId × ℕ)) (t : AnyType) (name : Name) (k : ℕ) → Written done used items components index
        → node.kind ≡ graph.definition → node.item_kind ≡ item.TypeItem t → node.first_name ≡ Some name
        → (definition_tree g.types bindings t ≡ absent → ⊥) → (IsResource (definition_tree g.types bindings t) → ⊥) → type_at (meaning items).scope.types k ≡ definition_tree g.types bindings t
        → i ≡ indexes (space sort.«Type») items → Agrees (items ++ export_item name sort.«Type» k ∷ [])
        → Written (done ++ n ∷ []) used (items ++ export_item name sort.«Type» k ∷ []) components index'
    definition_more used items components t name k w kind is_type first no_absent no_resource tree_is counts agrees =
        let x : Item = export_item name sort.«Type» k in
        let more = export_others items sort.«Type» k name in
        let own_name : is_first node name ≡ true = ap (λ o. option_case o false (same_name name)) first ∙ same_name-refl name in
        let counted : i ≡ indexes (space (sort_of_kind node.item_kind)) items = counts ∙ ap (λ z. indexes (space z) items) (sym typed) in
        let (place, own, in_place) = placed used items components w x (ap (λ q. is_own_item node q x) kind ∙ own_name) (ap Some (sym typed)) counted in
        let less = index_there items x (ap (λ z. Some (space z)) (sym typed)) counted in
        let exported : map shown (meaning (items ++ x ∷ [])).exports ≡ flat_map (first_export g at) done ++ (name, sort_of_kind node.item_kind, at n) ∷ [] =
        export_shown items sort.«Type» k name
        ∙ ap (λ es. es ++ (name, sort.«Type», stands_for (meaning items) sort.«Type» k) ∷ []) w.exports
        ∙ ap (λ z. flat_map (first_export g at) done ++ (name, sort.«Type», z) ∷ []) (sym (is_that less))
        ∙ ap (λ z. flat_map (first_export g at) done ++ (name, z, at n) ∷ []) (sym typed) in
        record {
          nodes = λ k within. nodes_more used items components w k (in_push done n k within);
          meant = meant-push items x w.meant
              (new_name g at items done [] name (w.exports ∙ sym (append-nil (flat_map (first_export g at) done))) not_first no_others, defined_something classes (definition_tree g.types bindings t) (stands_for (meaning items) sort.«Type» k) defined);
          imports = more.0 ∙ w.imports;
          import_count = λ not_defined. ap length more.0 ∙ w.import_count not_defined;
          customs = more.3 ∙ w.customs;
          exports = exported ∙ sym (first-push (Some name) first);
          bytes = more.1 ∙ w.bytes;
          packages = w.packages;
          numbers = kept_number done used items components index w x;
          made = subst (λ ns. AreInstantiations g o (length classes) at order ns (meaning (items ++ x ∷ [])).instantiations) (sym (instantiations-push false (kind_test false (ap is_instantiation kind)) ∙ rw append-nil refl))
              (subst (λ made. AreInstantiations g o (length classes) at order (instantiations g done) made) (sym more.2) w.made);
          asked_for = asked-push done used items components index w x;
          stand = stand_more used items components w x (less, agrees less);
          things = things_more used items components w (as_definition t kind is_type (subst (IsDefined classes (definition_tree g.types bindings t)) (sym (is_that less)) defined));
          known = known_more used items components w x (λ j is. absurd (no_instance is_type is));
          place = place;
          own = own;
          in_place = in_place;
        } where
          typed : sort_of_kind node.item_kind ≡ sort.«Type»
          typed = ap sort_of_kind is_type

          no_instance : {q : ItemKind} {j : InterfaceId} → q ≡ item.TypeItem t → q ≡ item.Instance j → ⊥
          no_instance a b = cc

          no_others : IsAmong [] name → ⊥
          no_others (j, l, wrong) = cc

          not_first : IsFirstAmong g done name → ⊥
          not_first (l, other, within, other_there, also) =
              let e : l ≡ n = one_node (export_at g name) (sound.first_names l other name other_there also).1 (sound.first_names n node name there first).1 in
              clash (has done n) (ap (has done) (sym e) ∙ within) absent_node where
                one_node : (z : Option NodeId) → z ≡ Some l → z ≡ Some n → l ≡ n
                one_node z a b = cc

          -- the type is new, or that of an import of a class
          defined : IsDefined classes (definition_tree g.types bindings t) (stands_for (meaning items) sort.«Type» k)
          defined =
              let found : IsDefined (meaning items).imports (type_at (meaning items).scope.types k) (stands_for (meaning items) sort.«Type» k) =
              type_defined items k (λ none. no_absent (sym tree_is ∙ none)) (λ is. no_resource (subst IsResource tree_is is)) in
              defined_first classes (imported_packages g o used) (imported_components g o used) (definition_tree g.types bindings t) (stands_for (meaning items) sort.«Type» k)
              (subst (λ is. IsDefined is (definition_tree g.types bindings t) (stands_for (meaning items) sort.«Type» k)) w.imports
              (subst (λ tree. IsDefined (meaning items).imports tree (stands_for (meaning items) sort.«Type» k)) tree_is found))

          -- the export refers to the type
          is_that : i < indexes (space (sort_of_kind node.item_kind)) (items ++ export_item name sort.«Type» k ∷ []) → at n ≡ stands_for (meaning items) sort.«Type» k
          is_that less =
              sym (agrees less)
              ∙ ap (λ z. stands_for (meaning (items ++ export_item name sort.«Type» k ∷ [])) z i) typed
              ∙ ap (stands_for (meaning (items ++ export_item name sort.«Type» k ∷ [])) sort.«Type») counts
              ∙ type_export_stands items k name (indexes (space sort.«Type») items) (sym (laws.counted items sort.«Type»))
