-- What a graph asks for has its import nodes.
use Rattle.std.proofs.Common.{◌≡◌, ℕ, zero, suc, ◌+◌, Bool, true, false, not, ◌&&◌, ◌||◌, cond, List, [], ◌∷◌, ◌++◌, map, refl, ap, ◌∙◌, sym, subst, arith, Some, is_some}
use Rattle.std.specs.List.{list_any, flat_map, filter}
use Rattle.std.specs.Prelude.{slice_get}
use Rattle.std.specs.FinMap as finite
use Rattle.std.specs.Ordering.{nat_cmp, eq_by_cmp}
use Rattle.std.proofs.lemmas.Bool.Decides.{nat_tests}
use Rattle.wac_types_shapes.specs.primitives.Name.{Name, same_name}
use Rattle.wac_types_shapes.proofs.lemmas.shapes.Names.{same_name-true}
use Rattle.wac_types_shapes.specs.declared.shapes.component.InterfaceId.{InterfaceId}
use Rattle.wac_types_shapes.specs.declared.shapes.component.ItemKind.{ItemKind}
use Rattle.wac_types_shapes.specs.declared.shapes.component.ItemKind.TheVariants as kind
use Rattle.wac_edges.specs.declared.node.NodeId.{NodeId}
use Rattle.wac_edges.specs.Edge.{node_number}
use Rattle.wac_graph_model.specs.nodes.Graph as graph
use Rattle.wac_graph_model.specs.nodes.Graph.{Graph, GraphNode, node_at, imports_of}
use Rattle.wac_graph_model.specs.nodes.Asked.{Entry, is_satisfied, unsatisfied, asked_by, imported_by, asked}
use Rattle.wac_graph_model.specs.nodes.Entries.{with_used, same_instance, asks_again, once}
use Rattle.wac_graph_model.specs.nodes.OuterImports.{outer_entries}

-- an element stands somewhere in a list
abbrev pub IsIn : {A : Type 0} → List A → A → Type 0
IsIn xs x = (i : ℕ) × (slice_get xs i ≡ Some x)

in_first : {A : Type 0} (xs ys : List A) (x : A) → IsIn xs x → IsIn (xs ++ ys) x
in_first [] ys x (i, at) = cc
in_first (y ∷ xs) ys x (zero, at) = (0, at)
in_first (y ∷ xs) ys x (suc i, at) = let (j, there) = in_first xs ys x (i, at) in (suc j, there)

in_second : {A : Type 0} (xs ys : List A) (x : A) → IsIn ys x → IsIn (xs ++ ys) x
in_second [] ys x h = h
in_second (y ∷ xs) ys x h = let (j, there) = in_second xs ys x h in (suc j, there)

in_flat : {A B : Type 0} (f : A → List B) (xs : List A) (x : A) (y : B) → IsIn xs x → IsIn (f x) y → IsIn (flat_map f xs) y
in_flat f [] x y (i, at) h = cc
in_flat f (z ∷ xs) x y (zero, at) h = let same : z ≡ x = cc in in_first (f z) (flat_map f xs) y (subst (λ w. IsIn (f w) y) (sym same) h)
in_flat f (z ∷ xs) x y (suc i, at) h = in_second (f z) (flat_map f xs) y (in_flat f xs x y (i, at) h)

in_map : {A B : Type 0} (f : A → B) (xs : List A) (x : A) → IsIn xs x → IsIn (map f xs) (f x)
in_map f [] x (i, at) = cc
in_map f (y ∷ xs) x (zero, at) = let same : y ≡ x = cc in (0, ap (λ z. Some (f z)) same)
in_map f (y ∷ xs) x (suc i, at) = let (j, there) = in_map f xs x (i, at) in (suc j, there)

pub in_filter : {A : Type 0} (test : A → Bool) (xs : List A) (x : A) → IsIn xs x → test x ≡ true → IsIn (filter test xs) x
in_filter test [] x (i, at) passes = cc
in_filter test (y ∷ xs) x (zero, at) passes =
    let same : y ≡ x = cc in
    (0, ap (λ b. slice_get (cond b (y ∷ filter test xs) (filter test xs)) 0) (ap test same ∙ passes) ∙ ap Some same)
in_filter test (y ∷ xs) x (suc i, at) passes = behind (test y) (in_filter test xs x (i, at) passes) where
  behind : (b : Bool) → IsIn (filter test xs) x → IsIn (cond b (y ∷ filter test xs) (filter test xs)) x
  behind true (j, there) = (suc j, there)
  behind false h = h

in_numbers : (ks : List ℕ) (n : ℕ) → list_any (eq_by_cmp nat_cmp n) ks ≡ true → IsIn ks n
in_numbers [] n h = cc
in_numbers (k ∷ ks) n h = split (eq_by_cmp nat_cmp n k) refl h (in_numbers ks n) where
  split : (b : Bool) → eq_by_cmp nat_cmp n k ≡ b → (b || list_any (eq_by_cmp nat_cmp n) ks) ≡ true → (list_any (eq_by_cmp nat_cmp n) ks ≡ true → IsIn ks n) → IsIn (k ∷ ks) n
  split true is _ later = let same : k ≡ n = grind (arith, nat_tests) in (0, ap Some same)
  split false is h later = let (i, at) = later h in (suc i, at)

-- what is asked for again is what was asked for
same_instance-kind : (a b : ItemKind) → same_instance a b ≡ true → a ≡ b
same_instance-kind (kind.Instance i) (kind.Instance j) h = ap kind.Instance (same i j (let e : i.0 ≡ j.0 = grind (arith, nat_tests) in e)) where
  same : (i j : InterfaceId) → i.0 ≡ j.0 → i ≡ j
  same i j e = λ k. record { 0 = e k }
same_instance-kind a b h = cc

both : (a b : Bool) → (a && b) ≡ true → (a ≡ true) × (b ≡ true)
both true true h = (refl, refl)
both true false h = cc
both false b h = cc

-- an entry of what is asked for, or one of its name and kind
kept_once : (es : List Entry) (e : Entry) → IsIn es e → (x : Entry) × IsIn (once es) x × (x.name ≡ e.name) × (x.kind ≡ e.kind)
kept_once [] e (i, at) = cc
kept_once (y ∷ es) e (zero, at) = let same : y ≡ e = cc in (y, (0, refl), ap (λ (z : Entry). z.name) same, ap (λ (z : Entry). z.kind) same)
kept_once (y ∷ es) e (suc i, at) = later (kept_once es e (i, at)) where
  later : ((x : Entry) × IsIn (once es) x × (x.name ≡ e.name) × (x.kind ≡ e.kind)) → (x : Entry) × IsIn (y ∷ filter (λ x. not (asks_again y x)) (once es)) x × (x.name ≡ e.name) × (x.kind ≡ e.kind)
  later (x, within, named, kinds) = split (asks_again y x) refl where
    split : (b : Bool) → asks_again y x ≡ b → (x : Entry) × IsIn (y ∷ filter (λ x. not (asks_again y x)) (once es)) x × (x.name ≡ e.name) × (x.kind ≡ e.kind)
    split true again =
        let (names, instances) = both (same_name y.name x.name) (same_instance y.kind x.kind) again in
        (y, (0, refl), same_name-true y.name x.name names ∙ named, same_instance-kind y.kind x.kind instances ∙ kinds)
    split false new = let (j, there) = in_filter (λ x. not (asks_again y x)) (once es) x within (ap not new) in (x, (suc j, there), named, kinds)

-- what a node asks for is among all that is asked for
asked_outer : (g : Graph) (e : Entry) → IsIn (asked g) e → IsIn (outer_entries g) (record { name = e.name; kind = e.kind })
asked_outer g e asks =
    let used : IsIn (flat_map (with_used g.types) (asked g)) e = in_flat (with_used g.types) (asked g) e e asks (in_second _ (e ∷ []) e (0, refl)) in
    let (x, within, named, kinds) = kept_once (flat_map (with_used g.types) (asked g)) e used in
    of_entry x named kinds (in_map (λ e. record { name = e.name; kind = e.kind }) (once (flat_map (with_used g.types) (asked g))) x within) where
      of_entry : (x : Entry) → x.name ≡ e.name → x.kind ≡ e.kind → IsIn (outer_entries g) (record { name = x.name; kind = x.kind }) → IsIn (outer_entries g) (record { name = e.name; kind = e.kind })
      of_entry x named kinds h = subst (λ (k : ItemKind). IsIn (outer_entries g) (record { name = e.name; kind = k })) kinds (subst (λ (n : Name). IsIn (outer_entries g) (record { name = n; kind = x.kind })) named h)

pub node_there : (g : Graph) (n : NodeId) (node : GraphNode) → node_at g n ≡ Some node → IsIn (finite.keys g.nodes) n.0
node_there g n node there = in_numbers (finite.keys g.nodes) n.0 (sym (finite.contains_key-keys g.nodes n.0) ∙ ap is_some there)

-- an import node is asked for, under its name
pub import_asked : (g : Graph) (n : NodeId) (node : GraphNode) (name : Name) → node_at g n ≡ Some node → node.kind ≡ graph.import name → IsIn (outer_entries g) (record { name = name; kind = node.item_kind })
import_asked g n node name there is =
    let e : Entry = record { name = name; kind = node.item_kind; node = n.0 } in
    let by : IsIn (imported_by n.0 (node_at g (node_number n.0))) e = subst (λ o. IsIn (imported_by n.0 o) e) (sym there) here in
    asked_outer g e (in_second (flat_map (λ n. asked_by g n (node_at g (node_number n))) (finite.keys g.nodes)) (flat_map (λ n. imported_by n (node_at g (node_number n))) (finite.keys g.nodes)) e
    (in_flat (λ n. imported_by n (node_at g (node_number n))) (finite.keys g.nodes) n.0 e (node_there g n node there) by)) where
      here : IsIn (imported_by n.0 (Some node)) (record { name = name; kind = node.item_kind; node = n.0 })
      here = rw is (0, refl)

unsatisfied_has : (g : Graph) (n i j : ℕ) (imports : List (Name × ItemKind)) (name : Name) (k : ItemKind) → slice_get imports j ≡ Some (name, k) → is_satisfied g n (i + j) ≡ false → IsIn (unsatisfied g n i imports) (record { name = name; kind = k; node = n })
unsatisfied_has g n i j [] name k at free = cc
unsatisfied_has g n i zero (e ∷ imports) name k at free =
    let same : e ≡ (name, k) = cc in
    let here : i ≡ i + 0 = omega arith in
    (0, ap (λ b. slice_get (cond b (unsatisfied g n (suc i) imports) (record { name = e.0; kind = e.1; node = n } ∷ unsatisfied g n (suc i) imports)) 0) (ap (is_satisfied g n) here ∙ free) ∙ ap (λ (x : Name × ItemKind). Some (entry_of x)) same) where
      entry_of : Name × ItemKind → Entry
      entry_of x = record { name = x.0; kind = x.1; node = n }
unsatisfied_has g n i (suc j) (e ∷ imports) name k at free =
    let next : suc i + j ≡ i + suc j = omega arith in
    behind (is_satisfied g n i) (unsatisfied_has g n (suc i) j imports name k at (ap (is_satisfied g n) next ∙ free)) where
      behind : (b : Bool) → IsIn (unsatisfied g n (suc i) imports) (record { name = name; kind = k; node = n })
          → IsIn (cond b (unsatisfied g n (suc i) imports) (record { name = e.0; kind = e.1; node = n } ∷ unsatisfied g n (suc i) imports)) (record { name = name; kind = k; node = n })
      behind true h = h
      behind false (l, there) = (suc l, there)

-- and so is what an instantiation imports and no argument satisfies, under the world's own spelling
pub unset_asked : (g : Graph) (n : NodeId) (node : GraphNode) → node_at g n ≡ Some node → node.kind ≡ graph.instantiation → (i : ℕ) (name : Name) (k : ItemKind) → slice_get (imports_of g node) i ≡ Some (name, k) → is_satisfied g n.0 i ≡ false
    → IsIn (outer_entries g) (record { name = name; kind = k })
unset_asked g n node there is i name k at free =
    let e : Entry = record { name = name; kind = k; node = n.0 } in
    let by : IsIn (asked_by g n.0 (node_at g (node_number n.0))) e = subst (λ o. IsIn (asked_by g n.0 o) e) (sym there) here in
    asked_outer g e (in_first (flat_map (λ n. asked_by g n (node_at g (node_number n))) (finite.keys g.nodes)) (flat_map (λ n. imported_by n (node_at g (node_number n))) (finite.keys g.nodes)) e
    (in_flat (λ n. asked_by g n (node_at g (node_number n))) (finite.keys g.nodes) n.0 e (node_there g n node there) by)) where
      here : IsIn (asked_by g n.0 (Some node)) (record { name = name; kind = k; node = n.0 })
      here = let z : i ≡ 0 + i = omega arith in rw is (unsatisfied_has g n.0 0 i (imports_of g node) name k at (ap (is_satisfied g n.0) (sym z) ∙ free))
