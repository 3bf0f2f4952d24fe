-- The outer names of a graph that is written: those of its imports, and the names of its exports in order.
use Rattle.std.proofs.Common.{◌≡◌, ℕ, suc, Bool, true, false, cond, IsTrue, List, [], ◌∷◌, ◌++◌, length, map, Option, Some, None, IfSome, IsSome, refl, ap, ◌∙◌, sym, subst, inl, inr}
use Rattle.std.specs.List.{flat_map}
use Rattle.std.specs.Prelude.{slice_get}
use Rattle.std.proofs.lemmas.List.{map-append}
use Rattle.wac_types_shapes.specs.primitives.Name.{Name, option_case}
use Rattle.wac_types_shapes.specs.primitives.Tree.{Tree, component_item}
use Rattle.wac_types_shapes.specs.declared.shapes.component.«Type».TheVariants.{World}
use Rattle.wac_types_collection.specs.collection.Bound.{held_tree}
use Rattle.wac_types_collection.specs.collection.Package.{PackageParts}
use Rattle.wac_binary.specs.declared.sorts.Sort.{Sort}
use Rattle.wac_binary.specs.Items.{Item}
use Rattle.wac_binary.specs.Meaning.{Thing, Export, meaning}
use Rattle.wac_edges.specs.declared.node.NodeId.{NodeId}
use Rattle.wac_edges.specs.Order.{Writes}
use Rattle.wac_graph_model.specs.declared.nodes.options.EncodeOptions.{EncodeOptions}
use Rattle.wac_graph_model.specs.declared.nodes.packages.PackageId.{PackageId}
use Rattle.wac_graph_model.specs.nodes.Graph.{Graph, GraphNode, node_at, package_at}
use Rattle.wac_graph_reader.specs.private.reading.PackageNames.{package_names, packages_names}
use Rattle.wac_graph_model.specs.nodes.OuterImports.{AreOuterImports}
use Rattle.wac_graph_model.specs.nodes.Sound.{IsSound}
use Rattle.wac_graph_model.specs.meaning.Means.{dependency_name, is_written, package_import, package_imports, used_packages, further_exports, first_export, sort_of_kind, shown, export_of, Means}
use Rattle.wac_graph_model.proofs.lemmas.meaning.FurtherLemmas.{further_there}
use Rattle.wac_graph_model.proofs.lemmas.meaning.OrderLemmas.{one_order}
use Rattle.wac_graph_model.specs.private.meaning.MergedImports.{imports_from, merged_imports}
use Rattle.wac_graph_model.proofs.lemmas.meaning.MergeLemmas.{OrderHasClasses, outer_of_merge}
use Rattle.wac_merge_classes.specs.entries.Classes.{Entry, ClassLaws}
use Rattle.wac_merge_classes.specs.terms.Merge.{Merged, import_entries}
use Rattle.wac_types_shapes.specs.declared.shapes.component.ItemKind.{ItemKind}
use Rattle.wac_merge.specs.Aggregate.{Aggregate}
use Rattle.wac_graph_encode.specs.private.places.Places.{IsMergedFor, import_texts, names_of}
use Rattle.wac_graph_encode.proofs.lemmas.places.OuterLemmas.{one_outer}
use Rattle.wac_names.specs.validation.FirstFault.{Fault, IsFirstFault, IsRefusal, fault_view}
use Rattle.wac_names.specs.validation.Valid.{AreValid}
use Rattle.wac_names.specs.declared.validation.fault.ValidationError.{ValidationError}
use Rattle.wac_names.specs.declared.validation.fault.ValidationError.TheVariants as validation
use Rattle.wac_graph_model.specs.declared.causes.errors.EncodeError.{EncodeError}
use Rattle.wac_graph_model.specs.causes.Cause.{Cause, cycle, conflict, implicit_merge, explicit_merge, import_circle, unwritable, invalid, an_invalid_name, kind_of_cause, IsNamed, Stands, cause_of, AnswersFor}
use Rattle.wac_graph_model.specs.private.causes.Faults.{validation_failure}
use Rattle.wac_graph_model.specs.causes.OuterNames.{first_name_of, written_exports, AreOuterNames, import_names, export_names, IsOuterFault}
use Rattle.wac_graph_model.specs.private.causes.Search.{NamesFault}
use Rattle.wac_graph_model.proofs.lemmas.causes.StandsLemmas.{stands_invalid, invalid_alone}
use Rattle.wac_graph_reader.proofs.lemmas.writing.CauseLemmas.{IsChecked}

module _ (g : Graph) (o : EncodeOptions) (laws : ClassLaws) (has_classes : OrderHasClasses) (classes : List (Name × Tree)) (outer : AreOuterImports g classes) (order : List NodeId) (writes : Writes g.edges (is_written g) order) where
  abbrev outside : List NodeId → List Name
  outside ns = map (λ (e : Name × Tree). e.0) (package_imports g o ns)

  abbrev names : List Name
  names = map (λ (e : Name × Tree). e.0) classes ++ outside order

  same_order : (ns : List NodeId) → Writes g.edges (is_written g) ns → ns ≡ order
  same_order ns w = one_order g.edges (is_written g) ns order w writes

  all_imports : (others : List (Name × Tree)) → AreOuterImports g others → (ns : List NodeId) → Writes g.edges (is_written g) ns → map (λ (e : Name × Tree). e.0) (others ++ package_imports g o ns) ≡ names
  all_imports others are ns w =
      map-append (λ (e : Name × Tree). e.0) others (package_imports g o ns)
      ∙ ap (λ (xs : List (Name × Tree)). map (λ (e : Name × Tree). e.0) xs ++ outside ns) (one_outer laws has_classes g others classes are outer)
      ∙ ap (λ ks. map (λ (e : Name × Tree). e.0) classes ++ outside ks) (same_order ns w)

  -- these are its outer names
  names_now : AreOuterNames g o names (written_exports g order)
  names_now = record {
    order = order;
    in_order = writes;
    classes = classes;
    outer = outer;
    imported = sym (all_imports classes outer order writes);
    exported = refl;
  }

  -- and no others are
  outer_imports : (imports exports : List Name) → AreOuterNames g o imports exports → imports ≡ names
  outer_imports imports exports named = named.imported ∙ all_imports named.classes named.outer named.order named.in_order

  outer_exports : (imports exports : List Name) → AreOuterNames g o imports exports → exports ≡ written_exports g order
  outer_exports imports exports named = named.exported ∙ ap (written_exports g) (same_order named.order named.in_order)

  -- a fault of these is one of the graph
  pub fault_now : (f : Fault) → IsFirstFault names (written_exports g order) f → IsOuterFault g o f
  fault_now f first = record { imports = names; exports = written_exports g order; named = names_now; first = first }

  -- and the other way
  pub now_fault : (f : Fault) → IsOuterFault g o f → IsFirstFault names (written_exports g order) f
  now_fault f is = subst (λ xs. IsFirstFault xs (written_exports g order) f) (outer_imports is.imports is.exports is.named)
      (subst (λ ys. IsFirstFault is.imports ys f) (outer_exports is.imports is.exports is.named) is.first)

  -- ---- the names of items that mean it
  shown_names : (es : List Export) → map (λ (e : Export). e.name) es ≡ map (λ (x : Name × Sort × Thing). x.0) (map shown es)
  shown_names [] = refl
  shown_names (e ∷ es) = ap (λ r. e.name ∷ r) (shown_names es)

  -- the first name of a definition
  first_shown : (at : NodeId → Thing) (n : NodeId) (x : Option GraphNode) → node_at g n ≡ x → map (λ (x : Name × Sort × Thing). x.0) (first_export g at n) ≡ first_name_of g n
  first_shown at n None is = rw is refl
  first_shown at n (Some node) is = rw is (named node.first_name) where
    named : (o : Option Name) → map (λ (x : Name × Sort × Thing). x.0) (option_case o [] (λ name. (name, sort_of_kind node.item_kind, at n) ∷ [])) ≡ option_case o [] (λ name. name ∷ [])
    named None = refl
    named (Some name) = refl

  first_names : (at : NodeId → Thing) (ns : List NodeId) → map (λ (x : Name × Sort × Thing). x.0) (flat_map (first_export g at) ns) ≡ flat_map (first_name_of g) ns
  first_names at [] = refl
  first_names at (n ∷ ns) =
      map-append (λ (x : Name × Sort × Thing). x.0) (first_export g at n) (flat_map (first_export g at) ns)
      ∙ ap (λ xs. xs ++ map (λ (x : Name × Sort × Thing). x.0) (flat_map (first_export g at) ns)) (first_shown at n (node_at g n) refl)
      ∙ ap (λ ys. first_name_of g n ++ ys) (first_names at ns)

  exported_names : (at : NodeId → Thing) (es : List (Name × NodeId)) → ((i : ℕ) (x : Name × NodeId) → slice_get es i ≡ Some x → IsSome (node_at g x.1))
      → map (λ (x : Name × Sort × Thing). x.0) (flat_map (export_of g at) es) ≡ map (λ (e : Name × NodeId). e.0) es
  exported_names at [] there = refl
  exported_names at (e ∷ es) there = one (node_at g e.1) refl (there 0 e refl) (exported_names at es (λ i x h. there (suc i) x h)) where
    one : (x : Option GraphNode) → node_at g e.1 ≡ x → IsSome x → map (λ (x : Name × Sort × Thing). x.0) (flat_map (export_of g at) es) ≡ map (λ (x : Name × NodeId). x.0) es
        → map (λ (x : Name × Sort × Thing). x.0) (flat_map (export_of g at) (e ∷ es)) ≡ map (λ (x : Name × NodeId). x.0) (e ∷ es)
    one None is h rest = cc
    one (Some node) is h rest = rw is (ap (λ r. e.0 ∷ r) rest)

  pub items_import : (items : List Item) → Means items g o → import_names items ≡ names
  items_import items m = ap (λ (xs : List (Name × Tree)). map (λ e. e.0) xs) m.imports ∙ all_imports m.classes m.outer m.order m.in_order

  pub items_export : IsSound g → (items : List Item) → Means items g o → export_names items ≡ written_exports g order
  items_export sound items m =
      shown_names (meaning items).exports
      ∙ ap (λ (xs : List (Name × Sort × Thing)). map (λ e. e.0) xs) m.exports
      ∙ map-append (λ (x : Name × Sort × Thing). x.0) (flat_map (first_export g m.at) m.order) (flat_map (export_of g m.at) (further_exports g))
      ∙ ap (λ xs. xs ++ map (λ (x : Name × Sort × Thing). x.0) (flat_map (export_of g m.at) (further_exports g))) (first_names m.at m.order)
      ∙ ap (λ ys. flat_map (first_name_of g) m.order ++ ys) (exported_names m.at (further_exports g) (further_there g sound))
      ∙ ap (written_exports g) (same_order m.order m.in_order)

-- ---- what is answered of names

-- a refusal of names names their one fault
pub refusal_names : (P : Fault → Type 0) → ((f other : Fault) → P f → P other → f ≡ other) → (r : ValidationError) → IsRefusal P r → NamesFault P (validation_failure r)
refusal_names P one (validation.Fault f) h = inr (fault_view f, refl, h, λ other is. one other (fault_view f) is h)
refusal_names P one validation.OutOfMemory h = inl refl

-- as many imports as there are
pub merged_count : (m : Merged) (p : ℕ) (es : List Entry) → length (imports_from m p es) ≡ length es
merged_count m p [] = refl
merged_count m p (e ∷ es) = ap suc (merged_count m (suc p) es)

-- the names of imports, as entries or not
pub entry_names : (es : List (Name × ItemKind)) → map (λ (e : Name × ItemKind). e.0) es ≡ names_of (import_entries es)
entry_names [] = refl
entry_names (e ∷ es) = ap (λ ns. e.0 ∷ ns) (entry_names es)

-- the names of a merge's imports are those that are listed
named_from : (m : Merged) (p : ℕ) (es : List Entry) → map (λ (e : Name × Tree). e.0) (imports_from m p es) ≡ names_of es
named_from m p [] = refl
named_from m p (e ∷ es) = ap (λ ns. e.name ∷ ns) (named_from m (suc p) es)

-- the names of the imports of packages
names_of_packages : (g : Graph) (ids : List PackageId) → map (λ (e : Name × Tree). e.0) (flat_map (package_import g) ids) ≡ packages_names g ids
names_of_packages g [] = refl
names_of_packages g (id ∷ ids) = map-append (λ (e : Name × Tree). e.0) (package_import g id) (flat_map (package_import g) ids) ∙ (λ i. one (package_at g id) i ++ names_of_packages g ids i) where
  one : (o : Option PackageParts) → map (λ (e : Name × Tree). e.0) (option_case o [] (λ p. (dependency_name (p.name, p.version), component_item (held_tree g.types (λ _. None) (World p.world))) ∷ []))
      ≡ option_case o [] (λ p. dependency_name (p.name, p.version) ∷ [])
  one None = refl
  one (Some p) = refl

outside_names : (g : Graph) (o : EncodeOptions) (order : List NodeId) → map (λ (e : Name × Tree). e.0) (package_imports g o order) ≡ package_names g o.define_components order
outside_names g o order = by o.define_components where
  by : (b : Bool) → map (λ (e : Name × Tree). e.0) (cond b [] (flat_map (package_import g) (used_packages g order))) ≡ cond b [] (packages_names g (used_packages g order))
  by true = refl
  by false = names_of_packages g (used_packages g order)

module _ (g : Graph) (sound : IsSound g) (o : EncodeOptions) (laws : ClassLaws) (has_classes : OrderHasClasses) (a : Aggregate) (merged : IsMergedFor g a) (order : List NodeId) (writes : Writes g.edges (is_written g) order) where
  abbrev imports : List Name
  imports = import_texts g (a.merge).imports o.define_components order

  abbrev AreWrong : Fault → Type 0
  AreWrong = IsFirstFault imports (written_exports g order)

  outer : AreOuterImports g (merged_imports a.merge)
  outer = outer_of_merge g a.merge (merged.whole).merge

  named : map (λ (e : Name × Tree). e.0) (merged_imports a.merge) ++ map (λ (e : Name × Tree). e.0) (package_imports g o order) ≡ imports
  named = ap (λ (xs : List Name). xs ++ map (λ (e : Name × Tree). e.0) (package_imports g o order)) (named_from a.merge 0 (a.merge).imports) ∙ ap (λ (xs : List Name). names_of (a.merge).imports ++ xs) (outside_names g o order)

  from_graph : (f : Fault) → IsOuterFault g o f → AreWrong f
  from_graph f is = subst (λ ns. IsFirstFault ns (written_exports g order) f) named (now_fault g o laws has_classes (merged_imports a.merge) outer order writes f is)

  of_graph : (f : Fault) → AreWrong f → IsOuterFault g o f
  of_graph f is = fault_now g o laws has_classes (merged_imports a.merge) outer order writes f (subst (λ ns. IsFirstFault ns (written_exports g order) f) (sym named) is)

  -- items that mean the graph have these names
  pub items_valid : IsTrue o.validate → (IsTrue o.validate → AreValid imports (written_exports g order)) → (items : List Item) → Means items g o → AreValid (import_names items) (export_names items)
  items_valid asked valid items m =
      subst (λ xs. AreValid xs (export_names items)) (sym (items_import g o laws has_classes (merged_imports a.merge) outer order writes items m ∙ named))
      (subst (λ ys. AreValid imports ys) (sym (items_export g o laws has_classes (merged_imports a.merge) outer order writes sound items m)) (valid asked))

  -- names that were looked at are not at fault
  pub names_valid : (IsTrue o.validate → (f : Fault) → AreWrong f → ⊥) → IsTrue o.validate → (f : Fault) → IsOuterFault g o f → ⊥
  names_valid none asked f is = none asked f (from_graph f is)

  -- the fault that is named stands
  pub fault_stands : IsChecked g o → (e : EncodeError) → IsTrue o.validate → NamesFault AreWrong e → IfSome (cause_of e) (Stands g o)
  fault_stands h e asked (inl is) = subst (λ x. IfSome (cause_of x) (Stands g o)) (sym is) tt
  fault_stands h e asked (inr (f, names, first, one)) = subst (λ x. IfSome x (Stands g o)) (sym names) (stands_invalid g o f h.0 h.1 h.2 h.3 asked (of_graph f first))

  -- and what stands is named
  pub fault_answers : IsChecked g o → (e : EncodeError) → NamesFault AreWrong e → (cause : Cause) → Stands g o cause → AnswersFor cause e
  fault_answers h e (inl is) cause s = inr (inl is)
  fault_answers h e (inr (f, names, first, one)) cause s = named cause (invalid_alone g o h.0 h.1 h.2 h.3 (kind_of_cause cause) s.0.0) s.1 where
    named : (cause : Cause) → kind_of_cause cause ≡ an_invalid_name → IsNamed g o cause → AnswersFor cause e
    named (cycle node) k is = cc
    named (conflict import instantiation key name) k is = cc
    named (implicit_merge import first second p q export) k is = cc
    named (explicit_merge import node other) k is = cc
    named (import_circle import) k is = cc
    named (unwritable node fault) k is = cc
    named (invalid other) k is = inl (names ∙ ap (λ x. Some (invalid x)) (sym (one other (from_graph other is))))
