-- Where no type that nodes need has a fault, no import, definition or package has one, under whatever binds what classes bind.
use Rattle.std.proofs.Common.{◌≡◌, ◌↔◌, ◌⊎◌, inl, inr, ℕ, zero, suc, Bool, true, false, not, cond, ◌&&◌, List, [], ◌∷◌, ◌++◌, map, Option, Some, None, IsSome, is_some, refl, ap, ◌∙◌, sym, subst, arith}
use Rattle.std.specs.Prelude.{slice_get, filter}
use Rattle.std.specs.List.{AllByRecursion, flat_map}
use Rattle.std.specs.FinMap as finite
use Rattle.std.proofs.lemmas.Bool.{false≢true}
use Rattle.std.proofs.lemmas.Bool.Decides.{nat_tests}
use Rattle.wac_types_shapes.specs.primitives.Name.{Name, same_name, option_case}
use Rattle.wac_types_shapes.specs.primitives.Tree.{Leaf}
use Rattle.wac_types_shapes.specs.shapes.Kinds.{kind_type}
use Rattle.wac_types_shapes.specs.declared.shapes.component.InterfaceId.{InterfaceId}
use Rattle.wac_types_shapes.specs.declared.shapes.component.ItemKind.{ItemKind}
use Rattle.wac_types_shapes.specs.declared.shapes.component.ItemKind.TheVariants as kind
use Rattle.wac_types_shapes.specs.declared.shapes.component.ResourceId.{ResourceId}
use Rattle.wac_types_shapes.specs.declared.shapes.component.«Type».{«Type» as AnyType}
use Rattle.wac_types_collection.specs.collection.Bound.{Bindings}
use Rattle.wac_types_collection.specs.collection.Collection.{Collection}
use Rattle.wac_types_collection.specs.collection.Package.{PackageParts}
use Rattle.wac_encode_faults.specs.declared.fault.WriteFault.{WriteFault}
use Rattle.wac_encode_faults.specs.declared.faults.Role.{Role}
use Rattle.wac_encode_faults.specs.declared.faults.Role.TheVariants as role
use Rattle.wac_encode_faults.specs.Faults.{HasFault, IsImportFault, own, unbound, inside, IsDefinedFault, IsDefinitionFault}
use Rattle.wac_encode_faults.specs.Free.{IsUnbound}
use Rattle.wac_encode_faults.specs.Sides.{Sides, defined_sides}
use Rattle.wac_edges.specs.declared.node.NodeId.{NodeId}
use Rattle.wac_edges.specs.Edge.{node_number}
use Rattle.wac_graph_model.specs.nodes.Graph as graph
use Rattle.wac_graph_model.specs.nodes.Graph.{Graph, GraphNode, Kind, node_at, package_of}
use Rattle.wac_graph_model.specs.nodes.Asked.{Entry, asked_by, imported_by, asked}
use Rattle.wac_graph_model.specs.nodes.Entries.{used_by, with_used, same_instance, asks_again, once, asked_entries}
use Rattle.wac_graph_model.specs.nodes.Sound.{IsSound}
use Rattle.wac_graph_model.specs.causes.Cause.{AsksImplicitly, AsksExplicitly}
use Rattle.wac_graph_model.specs.causes.TypeFaults.{class_bindings, imported_package, wanted_by, wanted_at, wanted_entries, role_of, role_of_kind, HasNoTypeFault}
use Rattle.wac_graph_model.specs.private.causes.Faultless.{IsFaultless}
use Rattle.wac_graph_fields.specs.private.EntriesLeft.{by_node, row_entry, asked_at, imported_at}
use Rattle.wac_graph_fields.specs.private.ImportsLeft.{node_left}
use Rattle.wac_graph_fields.proofs.EntryLists.{all_joined}
use Rattle.wac_graph_model.proofs.lemmas.meaning.AskedMembers.{IsIn, in_filter, node_there}
use Rattle.wac_graph_reader.proofs.lemmas.writing.AskingWalk.{first_entries, wanted_asked}
use Rattle.wac_graph_reader.proofs.lemmas.writing.AskedHeld.{asking_nodes}

-- ---- lists
module _ {A : Type 0} where
  all_of : (P : A → Type 0) → ((x : A) → P x) → (xs : List A) → AllByRecursion P xs
  all_of P f [] = tt
  all_of P f (x ∷ xs) = (f x, all_of P f xs)

  all_in : (P : A → Type 0) (xs : List A) (x : A) → AllByRecursion P xs → IsIn xs x → P x
  all_in P [] x h (i, at) = cc
  all_in P (y ∷ xs) x h (zero, at) = let same : y ≡ x = cc in subst P same h.0
  all_in P (y ∷ xs) x h (suc i, at) = all_in P xs x h.1 (i, at)

  in_before : (xs ys : List A) (x : A) → IsIn xs x → IsIn (xs ++ ys) x
  in_before [] ys x (i, at) = cc
  in_before (y ∷ xs) ys x (zero, at) = (0, at)
  in_before (y ∷ xs) ys x (suc i, at) = let (j, there) = in_before xs ys x (i, at) in (suc j, there)

  in_behind : (xs ys : List A) (x : A) → IsIn ys x → IsIn (xs ++ ys) x
  in_behind [] ys x h = h
  in_behind (y ∷ xs) ys x h = let (j, there) = in_behind xs ys x h in (suc j, there)

  in_parts : (xs ys : List A) (x : A) → IsIn (xs ++ ys) x → IsIn xs x ⊎ IsIn ys x
  in_parts [] ys x h = inr h
  in_parts (y ∷ xs) ys x (zero, at) = inl (0, at)
  in_parts (y ∷ xs) ys x (suc i, at) = elim (in_parts xs ys x (i, at)) [ inl w ↦ inl (suc w.0, w.1) | inr h ↦ inr h ]

  of_filter : (test : A → Bool) (xs : List A) (x : A) → IsIn (filter test xs) x → IsIn xs x
  of_filter test [] x (i, at) = cc
  of_filter test (y ∷ xs) x h = by (test y) h (λ w. of_filter test xs x w) where
    by : (b : Bool) → IsIn (cond b (y ∷ filter test xs) (filter test xs)) x → (IsIn (filter test xs) x → IsIn xs x) → IsIn (y ∷ xs) x
    by true (zero, at) later = (0, at)
    by true (suc i, at) later = let (j, there) = later (i, at) in (suc j, there)
    by false w later = let (j, there) = later w in (suc j, there)

module _ {A B : Type 0} (f : A → List B) where
  in_flat : (xs : List A) (x : A) (y : B) → IsIn xs x → IsIn (f x) y → IsIn (flat_map f xs) y
  in_flat [] x y (i, at) h = cc
  in_flat (z ∷ xs) x y (zero, at) h = let same : z ≡ x = cc in in_before (f z) (flat_map f xs) y (subst (λ w. IsIn (f w) y) (sym same) h)
  in_flat (z ∷ xs) x y (suc i, at) h = in_behind (f z) (flat_map f xs) y (in_flat xs x y (i, at) h)

  of_flat : (xs : List A) (y : B) → IsIn (flat_map f xs) y → (x : A) × IsIn xs x × IsIn (f x) y
  of_flat [] y (i, at) = cc
  of_flat (x ∷ xs) y h = elim (in_parts (f x) (flat_map f xs) y h) [
    | inl w ↦ (x, (0, refl), w)
    | inr w ↦ let v = of_flat xs y w in (v.0, (suc (v.1).0, (v.1).1), v.2)
  ]

-- ---- of equal instances the first is kept
abbrev IsInstance : ItemKind → Type 0
IsInstance k = (i : InterfaceId) × (k ≡ kind.Instance i)

same_instances : (a b : ItemKind) → same_instance a b ≡ true → (a ≡ b) × IsInstance a
same_instances (kind.Instance i) (kind.Instance j) h = (ap kind.Instance (same (let e : i.0 ≡ j.0 = grind (arith, nat_tests) in e)), (i, refl)) where
  same : i.0 ≡ j.0 → i ≡ j
  same e = λ k. record { 0 = e k }
same_instances a b h = cc

second_true : (a b : Bool) → (a && b) ≡ true → b ≡ true
second_true true true h = refl
second_true true false h = cc
second_true false b h = cc

kept_once : (es : List Entry) (e : Entry) → IsIn es e → (x : Entry) × IsIn (once es) x × (x.kind ≡ e.kind) × ((x ≡ e) ⊎ IsInstance x.kind)
kept_once [] e (i, at) = cc
kept_once (y ∷ es) e (zero, at) = let same : y ≡ e = cc in (y, (0, refl), ap (λ (z : Entry). z.kind) same, inl same)
kept_once (y ∷ es) e (suc i, at) = later (kept_once es e (i, at)) where
  later : ((x : Entry) × IsIn (once es) x × (x.kind ≡ e.kind) × ((x ≡ e) ⊎ IsInstance x.kind)) → (x : Entry) × IsIn (y ∷ filter (λ x. not (asks_again y x)) (once es)) x × (x.kind ≡ e.kind) × ((x ≡ e) ⊎ IsInstance x.kind)
  later (x, within, kinds, which) = split (asks_again y x) refl where
    split : (b : Bool) → asks_again y x ≡ b → (x : Entry) × IsIn (y ∷ filter (λ x. not (asks_again y x)) (once es)) x × (x.kind ≡ e.kind) × ((x ≡ e) ⊎ IsInstance x.kind)
    split true again =
        let (same, is) = same_instances y.kind x.kind (second_true (same_name y.name x.name) (same_instance y.kind x.kind) again) in
        (y, (0, refl), same ∙ kinds, inr is)
    split false new = let (j, there) = in_filter (λ x. not (asks_again y x)) (once es) x within (ap not new) in (x, (suc j, there), kinds, which)

of_once : (es : List Entry) (e : Entry) → IsIn (once es) e → IsIn es e
of_once [] e (i, at) = cc
of_once (y ∷ es) e (zero, at) = (0, at)
of_once (y ∷ es) e (suc i, at) = let (j, there) = of_once es e (of_filter (λ x. not (asks_again y x)) (once es) e (i, at)) in (suc j, there)

-- ---- who needs what
abbrev IsTypeItem : ItemKind → Type 0
IsTypeItem k = (t : AnyType) × (k ≡ kind.TypeItem t)

no_instance : (k : ItemKind) → IsTypeItem k → IsInstance k → ⊥
no_instance k (t, is) (i, of) = let wrong : kind.TypeItem t ≡ kind.Instance i = sym is ∙ of in cc

module _ (g : Graph) (sound : IsSound g) (d : Bool) where
  abbrev IsImported : ℕ → Type 0
  IsImported n = role_of (node_at g (node_number n)) ≡ role.Imported

  -- what is needed is to be imported, or it is the type of a definition
  abbrev IsNeeded : Entry → Type 0
  IsNeeded e = IsImported e.node ⊎ IsTypeItem e.kind

  with_used_needed : (e : Entry) → IsNeeded e → AllByRecursion IsNeeded (with_used g.types e)
  with_used_needed e (inl is) = all_joined IsNeeded (map (by_node e.node) (used_by g.types e.kind)) (e ∷ []) (all_map (used_by g.types e.kind)) (inl is, tt) where
    all_map : (us : List (Name × ItemKind)) → AllByRecursion IsNeeded (map (by_node e.node) us)
    all_map [] = tt
    all_map (u ∷ us) = (inl is, all_map us)
  with_used_needed e (inr (t, is)) =
      subst (λ (us : List (Name × ItemKind)). AllByRecursion IsNeeded (map (by_node e.node) us ++ e ∷ [])) (sym (ap (used_by g.types) is)) (inr (t, is), tt)

  all_used_needed : (es : List Entry) → AllByRecursion IsNeeded es → AllByRecursion IsNeeded (flat_map (with_used g.types) es)
  all_used_needed [] h = tt
  all_used_needed (e ∷ es) h = all_joined IsNeeded (with_used g.types e) (flat_map (with_used g.types) es) (with_used_needed e h.0) (all_used_needed es h.1)

  module _ (n : ℕ) where
    rows_needed : IsImported n → (rows : List (Name × ItemKind × Option NodeId)) → AllByRecursion IsNeeded (map (row_entry n) rows)
    rows_needed is [] = tt
    rows_needed is (r ∷ rows) = (inl is, rows_needed is rows)

    package_needed : IsImported n → (o : Option PackageParts) → AllByRecursion IsNeeded (cond d [] (option_case o [] (λ p. record { name = []; kind = kind.Component p.world; node = n } ∷ [])))
    package_needed is o = by d o where
      by : (b : Bool) (o : Option PackageParts) → AllByRecursion IsNeeded (cond b [] (option_case o [] (λ p. record { name = []; kind = kind.Component p.world; node = n } ∷ [])))
      by true o = tt
      by false None = tt
      by false (Some p) = (inl is, tt)

    wanted_needed : AllByRecursion IsNeeded (wanted_at g d n)
    wanted_needed = by (node_at g (node_number n)) refl where
      by : (o : Option GraphNode) → node_at g (node_number n) ≡ o → AllByRecursion IsNeeded (wanted_by g d n o)
      by None at = tt
      by (Some node) at = of_kind node.kind refl where
        imported : node.kind ≡ graph.instantiation → IsImported n
        imported is = ap role_of at ∙ ap role_of_kind is

        of_kind : (k : Kind) → node.kind ≡ k → AllByRecursion IsNeeded (wanted_by g d n (Some node))
        of_kind graph.instantiation is =
            subst (AllByRecursion IsNeeded) (sym (wanted_asked g d n (Some node) node refl is))
            (all_joined IsNeeded (asked_by g n (Some node)) (imported_package g d n node)
            (subst (AllByRecursion IsNeeded) (sym (first_entries g n (Some node))) (rows_needed (imported is) (node_left g n 0 (Some node)))) (package_needed (imported is) (package_of g node)))
        of_kind graph.definition is = let under = sound.definitions (node_number n) node at is in rw is (inr (under.defined, under.typed), tt)
        of_kind (graph.import name) is = let here : IsImported n = ap role_of at ∙ ap role_of_kind is in rw is (inl here, tt)
        of_kind graph.alias is = rw is tt

  numbers_needed : (ns : List ℕ) → AllByRecursion IsNeeded (flat_map (wanted_at g d) ns)
  numbers_needed [] = tt
  numbers_needed (n ∷ ns) = all_joined IsNeeded (wanted_at g d n) (flat_map (wanted_at g d) ns) (wanted_needed n) (numbers_needed ns)

  abbrev keys : List ℕ
  keys = finite.keys g.nodes

  abbrev needed : List Entry
  needed = flat_map (with_used g.types) (flat_map (wanted_at g d) keys)

  all_needed : AllByRecursion IsNeeded needed
  all_needed = all_used_needed (flat_map (wanted_at g d) keys) (numbers_needed keys)

  -- what is needed has one that is checked, of its kind and in its role
  abbrev IsChecked : ItemKind → Role → Type 0
  IsChecked k r = (i : ℕ) × (w : Entry) × (slice_get (wanted_entries g d) i ≡ Some w) × (w.kind ≡ k) × (role_of (node_at g (node_number w.node)) ≡ r)

  in_needed : (a e : Entry) → IsIn (flat_map (wanted_at g d) keys) a → IsIn (with_used g.types a) e → IsIn needed e
  in_needed a e within used = in_flat (with_used g.types) (flat_map (wanted_at g d) keys) a e within used

  itself_used : (a : Entry) → IsIn (with_used g.types a) a
  itself_used a = in_behind (map (by_node a.node) (used_by g.types a.kind)) (a ∷ []) a (0, refl)

  import_checked : (e : Entry) → IsImported e.node → IsIn needed e → IsChecked e.kind role.Imported
  import_checked e is within =
      let w = kept_once needed e within in
      ((w.1).0, w.0, (w.1).1, w.2, by w.0 w.3 (all_in IsNeeded needed w.0 all_needed (of_once needed w.0 w.1))) where
        by : (x : Entry) → (x ≡ e) ⊎ IsInstance x.kind → IsNeeded x → IsImported x.node
        by x (inl same) h = subst (λ (y : Entry). IsImported y.node) (sym same) is
        by x (inr of) (inl here) = here
        by x (inr of) (inr ty) = absurd (no_instance x.kind ty of)

  definition_checked : (e : Entry) → IsTypeItem e.kind → IsIn needed e → IsChecked e.kind (role_of (node_at g (node_number e.node)))
  definition_checked e ty within =
      let w = kept_once needed e within in
      ((w.1).0, w.0, (w.1).1, w.2, by w.0 w.2 w.3) where
        by : (x : Entry) → x.kind ≡ e.kind → (x ≡ e) ⊎ IsInstance x.kind → role_of (node_at g (node_number x.node)) ≡ role_of (node_at g (node_number e.node))
        by x kinds (inl same) = ap (λ (y : Entry). role_of (node_at g (node_number y.node))) same
        by x kinds (inr (i, of)) = absurd (no_instance e.kind ty (i, sym kinds ∙ of))

  -- ---- the three sorts of what is needed
  nothing_in : (e : Entry) → IsIn [] e → ⊥
  nothing_in e (i, at) = cc

  asks : (e : Entry) (n : ℕ) (o : Option GraphNode) → IsIn (asked_by g n o) e → IsIn (wanted_by g d n o) e
  asks e n None h = absurd (nothing_in e h)
  asks e n (Some node) h = of_kind node.kind refl h where
    of_kind : (k : Kind) → node.kind ≡ k → IsIn (asked_by g n (Some node)) e → IsIn (wanted_by g d n (Some node)) e
    of_kind graph.instantiation is h = subst (λ (es : List Entry). IsIn es e) (sym (wanted_asked g d n (Some node) node refl is)) (in_before (asked_by g n (Some node)) (imported_package g d n node) e h)
    of_kind graph.definition is h = let none : asked_by g n (Some node) ≡ [] = rw is refl in absurd (nothing_in e (subst (λ (es : List Entry). IsIn es e) none h))
    of_kind (graph.import name) is h = let none : asked_by g n (Some node) ≡ [] = rw is refl in absurd (nothing_in e (subst (λ (es : List Entry). IsIn es e) none h))
    of_kind graph.alias is h = let none : asked_by g n (Some node) ≡ [] = rw is refl in absurd (nothing_in e (subst (λ (es : List Entry). IsIn es e) none h))

  imports : (e : Entry) (n : ℕ) (o : Option GraphNode) → IsIn (imported_by n o) e → IsIn (wanted_by g d n o) e
  imports e n None h = absurd (nothing_in e h)
  imports e n (Some node) h = of_kind node.kind refl h where
    of_kind : (k : Kind) → node.kind ≡ k → IsIn (imported_by n (Some node)) e → IsIn (wanted_by g d n (Some node)) e
    of_kind (graph.import name) is h = let same : imported_by n (Some node) ≡ wanted_by g d n (Some node) = rw is refl in subst (λ (es : List Entry). IsIn es e) same h
    of_kind graph.instantiation is h = let none : imported_by n (Some node) ≡ [] = rw is refl in absurd (nothing_in e (subst (λ (es : List Entry). IsIn es e) none h))
    of_kind graph.definition is h = let none : imported_by n (Some node) ≡ [] = rw is refl in absurd (nothing_in e (subst (λ (es : List Entry). IsIn es e) none h))
    of_kind graph.alias is h = let none : imported_by n (Some node) ≡ [] = rw is refl in absurd (nothing_in e (subst (λ (es : List Entry). IsIn es e) none h))

  asked_in : (e : Entry) → IsIn (asked g) e → IsIn (flat_map (wanted_at g d) keys) e
  asked_in e h = elim (in_parts (flat_map (asked_at g) keys) (flat_map (imported_at g) keys) e h) [
    | inl w ↦ let v = of_flat (asked_at g) keys e w in in_flat (wanted_at g d) keys v.0 e v.1 (asks e v.0 (node_at g (node_number v.0)) v.2)
    | inr w ↦ let v = of_flat (imported_at g) keys e w in in_flat (wanted_at g d) keys v.0 e v.1 (imports e v.0 (node_at g (node_number v.0)) v.2)
  ]

  asked_checked : (i : ℕ) (e : Entry) → slice_get (asked_entries g) i ≡ Some e → IsChecked e.kind role.Imported
  asked_checked i e at =
      let v = of_flat (with_used g.types) (asked g) e (of_once (flat_map (with_used g.types) (asked g)) e (i, at)) in
      import_checked e (imported (all_in (λ (x : Entry). AsksImplicitly g (node_number x.node) ⊎ AsksExplicitly g (node_number x.node)) (asked_entries g) e (asking_nodes g) (i, at))) (in_needed v.0 e (asked_in v.0 v.1) v.2) where
        imported : AsksImplicitly g (node_number e.node) ⊎ AsksExplicitly g (node_number e.node) → IsImported e.node
        imported (inl h) = ap role_of h.there ∙ ap role_of_kind h.instantiated
        imported (inr h) = ap role_of h.there ∙ ap role_of_kind h.imported

  module _ (n : NodeId) (node : GraphNode) (there : node_at g n ≡ Some node) where
    in_wanted : (e : Entry) → IsIn (wanted_by g d n.0 (Some node)) e → IsIn (flat_map (wanted_at g d) keys) e
    in_wanted e h = in_flat (wanted_at g d) keys n.0 e (node_there g n node there) (subst (λ o. IsIn (wanted_by g d n.0 o) e) (sym there) h)

    defined_checked : node.kind ≡ graph.definition → IsChecked node.item_kind role.Defined
    defined_checked is =
        let e : Entry = record { name = []; kind = node.item_kind; node = n.0 } in
        let under = sound.definitions n node there is in
        subst (IsChecked node.item_kind) (ap role_of there ∙ defines)
        (definition_checked e (under.defined, under.typed) (in_needed e e (in_wanted e here) (itself_used e))) where
          defines : role_of (Some node) ≡ role.Defined
          defines = ap role_of_kind is

          here : IsIn (wanted_by g d n.0 (Some node)) (record { name = []; kind = node.item_kind; node = n.0 })
          here = rw is (0, refl)

    package_checked : d ≡ false → (p : PackageParts) → node.kind ≡ graph.instantiation → package_of g node ≡ Some p → IsChecked (kind.Component p.world) role.Imported
    package_checked given p is has =
        let e : Entry = record { name = []; kind = kind.Component p.world; node = n.0 } in
        import_checked e (ap role_of there ∙ ap role_of_kind is) (in_needed e e (in_wanted e here) (itself_used e)) where
          one : imported_package g d n.0 node ≡ record { name = []; kind = kind.Component p.world; node = n.0 } ∷ []
          one = ap (λ b. imported_package g b n.0 node) given ∙ ap (λ (o : Option PackageParts). option_case o [] (λ x. record { name = []; kind = kind.Component x.world; node = n.0 } ∷ [])) has

          here : IsIn (wanted_by g d n.0 (Some node)) (record { name = []; kind = kind.Component p.world; node = n.0 })
          here =
              subst (λ (es : List Entry). IsIn es (record { name = []; kind = kind.Component p.world; node = n.0 })) (sym (wanted_asked g d n.0 (Some node) node refl is))
              (in_behind (asked_by g n.0 (Some node)) (imported_package g d n.0 node) (record { name = []; kind = kind.Component p.world; node = n.0 })
              (subst (λ (es : List Entry). IsIn es (record { name = []; kind = kind.Component p.world; node = n.0 })) (sym one) (0, refl)))

-- ---- only whether a resource is bound counts
module _ (c : Collection) (m root : Bindings) (same : (r : ResourceId) → IsSome (m r) ↔ IsSome (root r)) where
  none_too : (r : ResourceId) → m r ≡ None → root r ≡ None
  none_too r none = by (root r) refl where
    by : (o : Option Leaf) → root r ≡ o → o ≡ None
    by None is = refl
    by (Some l) is =
        let bound : IsSome (m r) = (same r).1 (ap is_some is) in
        absurd (false≢true (sym (ap is_some none) ∙ bound))

  unbound_too : (t : AnyType) → IsUnbound c m t → IsUnbound c root t
  unbound_too t h = (h.0, h.1, none_too h.0 h.2)

  import_fault_too : (k : ItemKind) (f : WriteFault) → IsImportFault c m k f → IsImportFault c root k f
  import_fault_too k f (own x is) = own x is
  import_fault_too k f (unbound h) = unbound (unbound_too (kind_type k) h)
  import_fault_too k f (inside x h) = inside x h

  defined_fault_too : (t : AnyType) (o : Option Sides) (f : WriteFault) → IsDefinedFault c m t o f → IsDefinedFault c root t o f
  defined_fault_too t (Some s) f h = h
  defined_fault_too t None f h = (unbound_too t h.0, h.1)

  definition_fault_too : (t : AnyType) (f : WriteFault) → IsDefinitionFault c m t f → IsDefinitionFault c root t f
  definition_fault_too t f (inl h) = inl h
  definition_fault_too t f (inr h) = inr (defined_fault_too t (defined_sides c t) f h)

pub faultless : (g : Graph) → IsSound g → (d : Bool) (m : Bindings) → ((r : ResourceId) → IsSome (m r) ↔ IsSome (class_bindings g r)) → HasNoTypeFault g d → IsFaultless g d m
faultless g sound d m same none = record {
  imports = λ i e f at h. imported e.kind (asked_checked g sound d i e at) f h;
  definitions = λ n node f there is h. defined node.item_kind (defined_checked g sound d n node there is) f h;
  packages = λ given n node p f there is has h. imported (kind.Component p.world) (package_checked g sound d n node there given p is has) f h;
} where
  refute : (k : ItemKind) (r : Role) → IsChecked g sound d k r → (f : WriteFault) → HasFault g.types (class_bindings g) r k f → ⊥
  refute k r (i, w, at, kinds, roles) f h =
      none i w f at (subst (λ (q : Role). HasFault g.types (class_bindings g) q w.kind f) (sym roles) (subst (λ (x : ItemKind). HasFault g.types (class_bindings g) r x f) (sym kinds) h))

  imported : (k : ItemKind) → IsChecked g sound d k role.Imported → (f : WriteFault) → IsImportFault g.types m k f → ⊥
  imported k checked f h = refute k role.Imported checked f (import_fault_too g.types m (class_bindings g) same k f h)

  defined : (k : ItemKind) → IsChecked g sound d k role.Defined → (f : WriteFault) → IsDefinitionFault g.types m (kind_type k) f → ⊥
  defined k checked f h = refute k role.Defined checked f (definition_fault_too g.types m (class_bindings g) same (kind_type k) f h)
