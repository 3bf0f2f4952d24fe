-- The tree of a written union is the union of its parts' trees.
use Rattle.std.proofs.Common.{◌≡◌, ℕ, zero, suc, ◌+◌, ◌<◌, ◌≤◌, false, List, [], ◌∷◌, map, length, Option, Some, slice_get, sym, ap, ◌∙◌, subst, arith}
use Rattle.std.proofs.Math.Path.{fun_ext}
use Rattle.std.proofs.lemmas.Option.{slice_get_within}
use Rattle.std.specs.List.{AllZip, Contains}
use Rattle.wac_types_shapes.specs.primitives.Name.{Name}
use Rattle.wac_types_shapes.specs.primitives.Tree.{TypeTree, Tree, absent, exported, instance, named}
use Rattle.wac_types_collection.specs.collection.Collection.{Collection, item_at}
use Rattle.wac_types_collection.specs.collection.Held.{Names, item_tree, items_under, unfolded}
use Rattle.wac_types_collection.specs.collection.Bound.{Bindings, held_item, held_tree, inside_interface}
use Rattle.wac_types_shapes.specs.declared.shapes.component.Interface.{Interface}
use Rattle.wac_types_shapes.specs.declared.shapes.component.InterfaceId.{InterfaceId}
use Rattle.wac_types_shapes.specs.declared.shapes.component.«Type».TheVariants as ty
use Rattle.wac_types_collection.specs.subtyping.Called.{Called, by_binding}
use Rattle.wac_merge_classes.specs.entries.Agreement.{Agree}
use Rattle.wac_merge_classes.specs.entries.Bindings.{ClassBindings}
use Rattle.wac_merge_classes.specs.terms.Became.{became}
use Rattle.wac_merge_classes.specs.terms.Renaming.{Fits}
use Rattle.wac_merge_classes.specs.terms.Union.{union_all}
use Rattle.wac_merge_classes.specs.terms.Unions.{part_lists}
use Rattle.wac_merge_classes.specs.terms.Writing.{IsWrittenExport}
use Rattle.wac_merge_classes.specs.declared.terms.fresh.Fresh.{Fresh}
use Rattle.wac_merge_classes.specs.declared.terms.parts.Part.{Part}
use Rattle.wac_merge_classes.specs.declared.terms.parts.Union.{Union}
use Rattle.wac_merge_trees.proofs.lemmas.trees.UnionTreesHeld.{called_items, placed_interface, placed_items}
use Rattle.wac_merge_trees.proofs.lemmas.trees.UnionTreesNames.{union_instances}
use Rattle.wac_merge_trees.proofs.lemmas.trees.UnionTreesNext.{AreMergedUnions, HoldsAt, names_are}
use Rattle.wac_merge_trees.proofs.lemmas.trees.UnionTreesParts.{called_part, placed_part}

-- what a part lists, where its resources are bound so
abbrev pub part_tree : Collection → List Part → (ℕ → Bindings) → ℕ → Tree
part_tree c ps place p = instance (items_under (map (λ e. (e.0, held_item c (place p) exported (named e.0 ∷ []) e.1)) (part_lists c ps p)))

-- the same under what resources are called
abbrev pub part_called : Collection → List Part → (ℕ → Names Called) → ℕ → TypeTree Called
part_called c ps called p = instance (items_under (map (λ e. (e.0, item_tree (unfolded (by_binding c) c (called p)) false e.1)) (part_lists c ps p)))

some_same : {A : Type 0} (x y : A) → Some x ≡ Some y → x ≡ y
some_same x y e = cc

module _ (c m : Collection) (roots : List (List InterfaceId)) (us : List Union) (ps : List Part) (bs : ClassBindings) (f : Fresh) (ids : List (Option Name)) (ws : List InterfaceId) (place : ℕ → Bindings) (called : ℕ → Names Called)
    (all : AreMergedUnions c m roots us ps bs f ids ws place called) where
  -- one union, where those behind it are so
  one_holds : (u : ℕ) → ((v : ℕ) → u < v → HoldsAt c m us ps bs f ws place called v) → HoldsAt c m us ps bs f ws place called u
  one_holds u below x w it at at_w at_it around fits agree =
      let written = all.written.written u x at in
      let id : written.0 ≡ w = some_same written.0 w (sym written.2 ∙ at_w) in
      let same : written.1 ≡ it = some_same written.1 it (sym written.3 ∙ (ap (λ (y : InterfaceId). item_at m.interfaces y.0) id ∙ at_it)) in
      let used : it.uses ≡ [] = ap (λ (y : Interface). y.uses) (sym same) ∙ written.4 in
      let zip : AllZip (IsWrittenExport c m ps bs f ws u) x.exports it.exports = subst (λ (y : Interface). AllZip (IsWrittenExport c m ps bs f ws u) x.exports y.exports) same written.6 in
      placed_interface m all.merged_deep around w it at_it
      ∙ names_are c m roots us ps bs f ids ws place called all u x it around at used zip fits agree below

  -- from the last union to the first
  holds_from : (k u : ℕ) → length us ≤ u + k → HoldsAt c m us ps bs f ws place called u
  holds_from zero u most = λ x w it at at_w at_it around fits agree. let low = slice_get_within us u x at in absurd (omega (arith, low, most))
  holds_from (suc k) u most = one_holds u (λ v lt. holds_from k v (omega (arith, lt, most)))

  -- by name, also where a union has no parts
  pub union_names : (u : ℕ) → HoldsAt c m us ps bs f ws place called u
  union_names u = holds_from (length us) u (omega arith)

  -- the tree of the interface that a union became
  pub union_tree : (u : ℕ) (x : Union) (w : InterfaceId) (it : Interface) → slice_get us u ≡ Some x → slice_get ws u ≡ Some w → item_at m.interfaces w.0 ≡ Some it → (around : Bindings)
      → ((p : ℕ) → Contains x.parts.items p → Fits c (place p) (inside_interface m it around) (became c ps bs f (Some p)))
      → ((p q : ℕ) → Contains x.parts.items p → Contains x.parts.items q → (Agree (part_called c ps called p) (part_called c ps called q) → ⊥) → ⊥)
      → (first : ℕ) (rest : List ℕ) → x.parts.items ≡ first ∷ rest
      → held_tree m around (ty.Interface w) ≡ union_all (map (part_tree c ps place) x.parts.items)
  union_tree u x w it at at_w at_it around fits agree first rest some =
      let to : (p : ℕ) → part_called c ps called p ≡ instance (called_part c ps called p) = λ p. called_items c (called p) (part_lists c ps p) in
      let on : part_tree c ps place ≡ (λ p. instance (placed_part c ps place p)) = fun_ext (λ p. placed_items c (place p) (part_lists c ps p)) in
      union_names u x w it at at_w at_it around fits
      (λ p q a b apart. agree p q a b (λ h. apart (subst (λ y. Agree y (instance (called_part c ps called q))) (to p) (subst (λ y. Agree (part_called c ps called p) y) (to q) h))))
      ∙ (ap (λ qs. instance (λ n. union_all (map (λ p. placed_part c ps place p n) qs))) some
      ∙ (sym (union_instances (placed_part c ps place) first rest)
      ∙ (ap (λ qs. union_all (map (λ p. instance (placed_part c ps place p)) qs)) (sym some)
      ∙ ap (λ g. union_all (map g x.parts.items)) (sym on))))

  -- that of one without parts
  pub union_tree_none : (u : ℕ) (x : Union) (w : InterfaceId) (it : Interface) → slice_get us u ≡ Some x → slice_get ws u ≡ Some w → item_at m.interfaces w.0 ≡ Some it → (around : Bindings) → x.parts.items ≡ []
      → held_tree m around (ty.Interface w) ≡ instance (λ n. absent)
  union_tree_none u x w it at at_w at_it around none =
      union_names u x w it at at_w at_it around (λ p within. nowhere p within) (λ p q a b. nowhere p a)
      ∙ ap (λ qs. instance (λ n. union_all (map (λ p. placed_part c ps place p n) qs))) none
    where
      nowhere : {A : Type 0} (p : ℕ) → Contains x.parts.items p → A
      nowhere p (k, low, is) = let len : length x.parts.items ≡ 0 = ap length none in absurd (omega (arith, low, len))
