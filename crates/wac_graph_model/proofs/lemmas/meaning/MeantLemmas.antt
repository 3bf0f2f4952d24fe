-- The items that are written of a graph have a meaning: each index that they use is there.
use Rattle.std.proofs.Common.{◌≡◌, ℕ, suc, Bool, true, false, ◌||◌, List, [], ◌∷◌, ◌++◌, map, refl, ap, ◌∙◌, sym, subst, Option, Some, None}
use Rattle.std.specs.List.{list_any, flat_map}
use Rattle.std.specs.Prelude.{slice_get}
use Rattle.std.proofs.lemmas.List.{map-append}
use Rattle.std.proofs.lemmas.List.Folds.{list_any-append}
use Rattle.wac_types_shapes.specs.primitives.Name.{Name, same_name, option_case}
use Rattle.wac_types_shapes.proofs.lemmas.shapes.Names.{same_name-true}
use Rattle.wac_types_shapes.specs.primitives.Tree.{Tree}
use Rattle.wac_types_collection.specs.collection.Bound.{Bindings}
use Rattle.wac_binary.specs.declared.sorts.Sort.{Sort}
use Rattle.wac_binary.specs.declared.sorts.Sort.TheVariants as sort
use Rattle.wac_binary.specs.Items.{Item, alias_item, export_alias}
use Rattle.wac_binary.specs.Unfold.{bound_at}
use Rattle.wac_binary.specs.Meaning.{Thing, import_at, Root, Export, start, stands_for, read, read_all, meaning}
use Rattle.wac_binary.specs.HasMeaning.{ItemHasMeaning, AllHaveMeaning, HasMeaning, IsSomething, HasExport, IsNew}
use Rattle.wac_edges.specs.declared.node.NodeId.{NodeId}
use Rattle.wac_graph_model.specs.nodes.Graph.{Graph, GraphNode, node_at}
use Rattle.wac_encode_faults.specs.Trees.{definition_tree}
use Rattle.wac_graph_model.specs.meaning.Defined.{IsDefined, as_new, as_listed}
use Rattle.wac_graph_model.specs.meaning.Means.{sort_of_kind, IsThing, as_import, as_instantiation, as_definition, as_alias, shown, first_export, export_of}
use Rattle.wac_graph_model.proofs.lemmas.meaning.TypeThings.{along_something}
use Rattle.wac_edges.proofs.WrittenOrder.{has, same, same_itself}

-- one more item that has a meaning
all_push : (r : Root) (items : List Item) (x : Item) → AllHaveMeaning r items → ItemHasMeaning (read_all r items) x → AllHaveMeaning r (items ++ x ∷ [])
all_push r [] x h it = (it, tt)
all_push r (y ∷ items) x h it = (h.0, all_push (read r y) items x h.1 it)

pub meant-push : (items : List Item) (x : Item) → HasMeaning items → ItemHasMeaning (meaning items) x → HasMeaning (items ++ x ∷ [])
meant-push items x h it = all_push start items x h it

-- an alias of an export that an instance may have has a meaning, where the instance is there
pub alias_meant : (items : List Item) (t : Sort) (i : ℕ) (n : Name) → IsSomething (stands_for (meaning items) sort.Instance i) → HasExport t (bound_at (meaning items).scope.instances i).type n
    → ItemHasMeaning (meaning items) (alias_item (export_alias t i n))
alias_meant items t i n there has = (there, has)

-- what a definition refers to is something
pub defined_something : (imports : List (Name × Tree)) (tree : Tree) (x : Thing) → IsDefined imports tree x → IsSomething x
defined_something imports tree x (as_new is) = subst IsSomething (sym is) tt
defined_something imports tree x (as_listed p names entry there item is) = subst IsSomething (sym is) (along_something (import_at p) names tt)

-- what a node refers to is something
pub something : (g : Graph) (imports : List (Name × Tree)) (m : Bindings) (at : NodeId → Thing) (order : List NodeId) (n : NodeId) (node : GraphNode) → IsThing g imports m at order n node → IsSomething (at n)
something g imports m at order n node (as_import name p kind place is) = subst IsSomething (sym is) tt
something g imports m at order n node (as_instantiation k kind place is) = subst IsSomething (sym is) tt
something g imports m at order n node (as_definition t kind item is) = defined_something imports (definition_tree g.types m t) (at n) is
something g imports m at order n node (as_alias instance source i name kind aliased there exported is) = subst IsSomething (sym is) tt

-- a name that is not among those of these exports is new
abbrev pub IsAmong : List (Name × NodeId) → Name → Type 0
IsAmong es name = (i : ℕ) × (n : NodeId) × (slice_get es i ≡ Some (name, n))

abbrev entry_of : Name → NodeId → Name × NodeId
entry_of name n = (name, n)

none_named : (g : Graph) (at : NodeId → Thing) (es : List (Name × NodeId)) (name : Name) → (IsAmong es name → ⊥) → list_any (same_name name) (map (λ e. e.0) (flat_map (export_of g at) es)) ≡ false
none_named g at [] name free = refl
none_named g at (e ∷ es) name free = split (node_at g e.1) (none_named g at es name (λ h. free (suc h.0, h.1, h.2))) where
  differs : (b : Bool) → same_name name e.0 ≡ b → b ≡ false
  differs true is = absurd (free (0, e.1, ap (λ (t : Name). Some (entry_of t e.1)) (sym (same_name-true name e.0 is))))
  differs false is = refl

  split : (o : Option GraphNode) → list_any (same_name name) (map (λ e. e.0) (flat_map (export_of g at) es)) ≡ false
      → list_any (same_name name) (map (λ x. x.0) (option_case o [] (λ node. (e.0, sort_of_kind node.item_kind, at e.1) ∷ []) ++ flat_map (export_of g at) es)) ≡ false
  split None rest = rest
  split (Some node) rest = ap (λ b. b || list_any (same_name name) (map (λ x. x.0) (flat_map (export_of g at) es))) (differs (same_name name e.0) refl) ∙ rest

-- a name that is none of these definitions' first names
abbrev pub IsFirstAmong : Graph → List NodeId → Name → Type 0
IsFirstAmong g ns name = (m : NodeId) × (node : GraphNode) × (has ns m ≡ true) × (node_at g m ≡ Some node) × (node.first_name ≡ Some name)

none_first : (g : Graph) (at : NodeId → Thing) (ns : List NodeId) (name : Name) → (IsFirstAmong g ns name → ⊥) → list_any (same_name name) (map (λ e. e.0) (flat_map (first_export g at) ns)) ≡ false
none_first g at [] name free = refl
none_first g at (n ∷ ns) name free = split (node_at g n) refl (none_first g at ns name (λ (m, node, within, there, first). free (m, node, or_true (same m n) (has ns m) within, there, first))) where
  or_true : (a b : Bool) → b ≡ true → (a || b) ≡ true
  or_true true b h = refl
  or_true false b h = h

  differs : (node : GraphNode) (first : Name) → node_at g n ≡ Some node → node.first_name ≡ Some first → (b : Bool) → same_name name first ≡ b → b ≡ false
  differs node first there is false _ = refl
  differs node first there is true same_ = absurd (free (n, node, ap (λ b. b || has ns n) (same_itself n), there, is ∙ ap (λ (t : Name). Some t) (sym (same_name-true name first same_))))

  by_first : (node : GraphNode) → node_at g n ≡ Some node → (o : Option Name) → node.first_name ≡ o → list_any (same_name name) (map (λ e. e.0) (flat_map (first_export g at) ns)) ≡ false
      → list_any (same_name name) (map (λ x. x.0) (option_case o [] (λ first. (first, sort_of_kind node.item_kind, at n) ∷ []) ++ flat_map (first_export g at) ns)) ≡ false
  by_first node there None is rest = rest
  by_first node there (Some first) is rest = ap (λ b. b || list_any (same_name name) (map (λ x. x.0) (flat_map (first_export g at) ns))) (differs node first there is (same_name name first) refl) ∙ rest

  split : (o : Option GraphNode) → node_at g n ≡ o → list_any (same_name name) (map (λ e. e.0) (flat_map (first_export g at) ns)) ≡ false
      → list_any (same_name name) (map (λ x. x.0) (option_case o [] (λ node. option_case node.first_name [] (λ first. (first, sort_of_kind node.item_kind, at n) ∷ [])) ++ flat_map (first_export g at) ns)) ≡ false
  split None there rest = rest
  split (Some node) there rest = by_first node there node.first_name refl rest

names_shown : (es : List Export) → map (λ (e : Export). e.name) es ≡ map (λ e. e.0) (map shown es)
names_shown [] = refl
names_shown (e ∷ es) = ap (λ (ns : List Name). e.name ∷ ns) (names_shown es)

-- a name that is neither of these is new behind the exports of both
pub new_name : (g : Graph) (at : NodeId → Thing) (items : List Item) (ns : List NodeId) (es : List (Name × NodeId)) (name : Name) → map shown (meaning items).exports ≡ flat_map (first_export g at) ns ++ flat_map (export_of g at) es
    → (IsFirstAmong g ns name → ⊥) → (IsAmong es name → ⊥) → IsNew name (map (λ (e : Export). e.name) (meaning items).exports)
new_name g at items ns es name exported no_first free =
    ap (list_any (same_name name)) (names_shown (meaning items).exports ∙ ap (map (λ e. e.0)) exported ∙ map-append (λ e. e.0) (flat_map (first_export g at) ns) (flat_map (export_of g at) es))
    ∙ list_any-append (same_name name) (map (λ e. e.0) (flat_map (first_export g at) ns)) (map (λ e. e.0) (flat_map (export_of g at) es))
    ∙ ap (λ b. b || list_any (same_name name) (map (λ e. e.0) (flat_map (export_of g at) es))) (none_first g at ns name no_first)
    ∙ none_named g at es name free
