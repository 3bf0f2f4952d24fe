-- The items that classes are, from what their unions became and what fits at the root.
use Rattle.std.proofs.Common.{◌≡◌, ℕ, true, false, cond, List, [], ◌∷◌, map, Option, Some, None, slice_get, refl, sym, ap, ◌∙◌, subst}
use Rattle.std.specs.List.{AllZip, Contains}
use Rattle.wac_types_shapes.specs.primitives.Name.{Name, option_case}
use Rattle.wac_types_shapes.specs.primitives.Tree.{instance_item}
use Rattle.wac_types_collection.specs.collection.Collection.{Collection, IsWellFormed, item_at}
use Rattle.wac_types_collection.specs.collection.Bound.{Bindings, by_place, held_tree, inside_interface}
use Rattle.wac_types_collection.specs.collection.Held.{Names}
use Rattle.wac_types_collection.specs.collection.Uses.{IsSound}
use Rattle.wac_types_shapes.specs.declared.shapes.component.Interface.{Interface}
use Rattle.wac_types_shapes.specs.declared.shapes.component.InterfaceId.{InterfaceId}
use Rattle.wac_types_shapes.specs.declared.shapes.component.«Type».TheVariants as ty
use Rattle.wac_types_shapes.specs.declared.shapes.component.ItemKind.TheVariants as kind
use Rattle.wac_types_collection.specs.subtyping.Called.{Called, by_binding}
use Rattle.wac_types_collection.specs.subtyping.TreeLaws.{IsDeepEnough}
use Rattle.wac_merge_classes.specs.entries.Agreement.{called_inside}
use Rattle.wac_merge_classes.specs.entries.Bindings.{ClassBindings}
use Rattle.wac_merge_classes.specs.terms.Became.{AreFresh, became}
use Rattle.wac_merge_classes.specs.entries.Classes.{Entry, by_names, class_names, members, names_instance}
use Rattle.wac_merge_classes.specs.terms.NoDisagreement.{HasNoDisagreement}
use Rattle.wac_merge_classes.specs.terms.Renaming.{Fits}
use Rattle.wac_types_collection.specs.private.subtyping.Extended.{IsExtended}
use Rattle.wac_merge_classes.specs.terms.Union.{inside_member, merged}
use Rattle.wac_merge_classes.specs.terms.Unions.{AreUnions, part}
use Rattle.wac_merge_classes.specs.terms.Writing.{AreWritten}
use Rattle.wac_merge_classes.specs.declared.terms.fresh.Fresh.{Fresh}
use Rattle.wac_merge_classes.specs.declared.terms.parts.Part.{Part}
use Rattle.wac_merge_classes.specs.declared.terms.parts.Union.{Union}
use Rattle.wac_merge_trees.proofs.lemmas.trees.UnionTreesClasses.{class_type, class_union}
use Rattle.wac_merge_trees.proofs.lemmas.trees.UnionTreesHeld.{interface_there}
use Rattle.wac_merge_trees.proofs.lemmas.trees.UnionTreesNext.{AllFitInside, AreMergedUnions, fit_inside}
use Rattle.wac_merge_trees.proofs.lemmas.trees.UnionTreesOwn.{zip_at}
use Rattle.wac_merge_trees.proofs.lemmas.trees.UnionTreesParts.{at_contains}
use Rattle.wac_merge_trees.proofs.lemmas.trees.UnionTreesPlaces.{are_nested, calls_in, outermost_names, places_in}

-- in an outermost part, of a class and of an interface
abbrev pub at_part : {A : Type 0} → Collection → List Entry → A → (Name → Interface → A) → Part → A
at_part c es none names x = option_case (slice_get (class_names by_names es) x.union) none (λ class. option_case (item_at c.interfaces x.interface.0) none (λ it. names class it))

-- where resources are bound in the interface of a member
abbrev pub member_place : Collection → List Entry → Bindings → Name → Interface → Bindings
member_place c es root class it = cond (names_instance es class) (inside_member by_names c es class it root) (inside_interface c it root)

abbrev pub merged_places : Collection → List Entry → List Part → Bindings → ℕ → Bindings
merged_places c es ps root = places_in c ps (at_part c es (λ r. None) (member_place c es root))

abbrev pub merged_calls : Collection → List Entry → List Part → ℕ → Names Called
merged_calls c es ps = calls_in c ps (at_part c es (λ r. None) (λ class it. called_inside by_names c es class it))

at_part_is : {A : Type 0} (c : Collection) (es : List Entry) (none : A) (names : Name → Interface → A) (x : Part) (k : ℕ) (class : Name) (it : Interface) → x.union ≡ k → slice_get (class_names by_names es) k ≡ Some class → item_at c.interfaces x.interface.0 ≡ Some it
    → at_part c es none names x ≡ names class it
at_part_is c es none names x k class it of_k numbered is =
    ap (λ o. option_case o none (λ d. option_case (item_at c.interfaces x.interface.0) none (λ j. names d j))) (ap (slice_get (class_names by_names es)) of_k ∙ numbered)
    ∙ ap (λ o. option_case o none (λ j. names class j)) is

some_same : {A : Type 0} (x y : A) → Some x ≡ Some y → x ≡ y
some_same x y e = cc

module _ (c m : Collection) (roots : List (List InterfaceId)) (us : List Union) (ps : List Part) (bs : ClassBindings) (f : Fresh) (ids : List (Option Name)) (ws : List InterfaceId)
    (unions : AreUnions c roots us ps) (fresh : AreFresh c us bs f m) (written : AreWritten c m us ps bs f ids ws) (extended : IsExtended c m) (wf : IsWellFormed c) (sound : IsSound c) (wfm : IsWellFormed m)
    (deep : IsDeepEnough (by_place c) c) (merged_deep : IsDeepEnough (by_place m) m) (named_deep : IsDeepEnough (by_binding c) c) (fit : AllFitInside c m ps bs f ws)
    (es : List Entry) (root : Bindings) where
  merged_unions : AreMergedUnions c m roots us ps bs f ids ws (merged_places c es ps root) (merged_calls c es ps)
  merged_unions =
      let place = merged_places c es ps root in
      let called = merged_calls c es ps in
      let nested = are_nested c ps (at_part c es (λ r. None) (member_place c es root)) (at_part c es (λ r. None) (λ class it. called_inside by_names c es class it)) unions.around in
      record {
        unions = unions;
        fresh = fresh;
        written = written;
        extended = extended;
        ordered = wf;
        sound = sound;
        merged = wfm;
        deep = deep;
        merged_deep = merged_deep;
        named_deep = named_deep;
        nested = nested;
        inside = fit_inside c m roots us ps bs f ws place called unions nested fit;
      }

  module _ (k : ℕ) (class : Name) (numbered : slice_get (class_names by_names es) k ≡ Some class) (x : Union) (w : InterfaceId) (it : Interface) (at : slice_get us k ≡ Some x) (at_w : slice_get ws k ≡ Some w) (at_it : item_at m.interfaces w.0 ≡ Some it) (around : Bindings) where
    placed_is : (p : ℕ) (y : Part) (j : Interface) → slice_get ps p ≡ Some y → y.outer ≡ None → y.union ≡ k → item_at c.interfaces y.interface.0 ≡ Some j → merged_places c es ps root p ≡ member_place c es root class j
    placed_is p y j on outer of_k is =
        outermost_names c ps (inside_interface c) (at_part c es (λ r. None) (member_place c es root)) p y on outer
        ∙ at_part_is c es (λ r. None) (member_place c es root) y k class j of_k numbered is

    called_is : (p : ℕ) (y : Part) (j : Interface) → slice_get ps p ≡ Some y → y.outer ≡ None → y.union ≡ k → item_at c.interfaces y.interface.0 ≡ Some j → merged_calls c es ps p ≡ called_inside by_names c es class j
    called_is p y j on outer of_k is =
        outermost_names c ps (λ i n. (by_binding c).in_instance i n) (at_part c es (λ r. None) (λ class it. called_inside by_names c es class it)) p y on outer
        ∙ at_part_is c es (λ r. None) (λ class it. called_inside by_names c es class it) y k class j of_k numbered is

    fits_here : (i : InterfaceId) (p : ℕ) (j : Interface) → slice_get ps p ≡ Some (part i None k) → item_at c.interfaces i.0 ≡ Some j → Fits c (member_place c es root class j) (inside_interface m it around) (became c ps bs f (Some p))
        → Fits c (merged_places c es ps root p) (inside_interface m it around) (became c ps bs f (Some p))
    fits_here i p j on is h = subst (λ (n : Bindings). Fits c n (inside_interface m it around) (became c ps bs f (Some p))) (sym (placed_is p (part i None k) j on refl refl is)) h

    -- what fits at the root fits in each part of the class
    fits_in : (is : List InterfaceId) → slice_get roots k ≡ Some is
        → ((p : ℕ) (y : Part) (j : Interface) → slice_get ps p ≡ Some y → y.outer ≡ None → y.union ≡ k → item_at c.interfaces y.interface.0 ≡ Some j → Fits c (member_place c es root class j) (inside_interface m it around) (became c ps bs f (Some p)))
        → (p : ℕ) → Contains x.parts.items p → Fits c (merged_places c es ps root p) (inside_interface m it around) (became c ps bs f (Some p))
    fits_in is there fits p within =
        let R : InterfaceId → ℕ → Type 0 = λ i q. slice_get ps q ≡ Some (part i None k) in
        let r = unions.rooted k is there in
        let same : r.0 ≡ x = some_same r.0 x (sym r.1 ∙ at) in
        let zip : AllZip R is x.parts.items = subst (λ (y : Union). AllZip R is y.parts.items) same r.2 in
        let a = at_contains x.parts.items p within in
        let z = zip_at R is x.parts.items zip a.0 p a.1 in
        let j = interface_there c z.0 (unions.held p (part z.0 None k) z.2) in
        fits_here z.0 p j.0 z.2 j.1 (fits p (part z.0 None k) j.0 z.2 refl refl j.1)

    -- The item that a class of instances is.
    pub instances_merged : names_instance es class ≡ true → HasNoDisagreement by_names c es → (position : ℕ) (first : InterfaceId) (more : List InterfaceId)
        → map (λ e. e.kind) (members by_names es class) ≡ map kind.Instance (first ∷ more) → slice_get roots k ≡ Some (first ∷ more)
        → ((p : ℕ) (y : Part) (j : Interface) → slice_get ps p ≡ Some y → y.outer ≡ None → y.union ≡ k → item_at c.interfaces y.interface.0 ≡ Some j → Fits c (inside_member by_names c es class j root) (inside_interface m it around) (became c ps bs f (Some p)))
        → instance_item (held_tree m around (ty.Interface w)) ≡ merged by_names c es root position class
    instances_merged of_instances agree position first more kinds there fits =
        let to : (j : Interface) → member_place c es root class j ≡ inside_member by_names c es class j root = λ j. ap (λ b. cond b (inside_member by_names c es class j root) (inside_interface c j root)) of_instances in
        class_union c m roots us ps bs f ids ws (merged_places c es ps root) (merged_calls c es ps) merged_unions k x w it at at_w at_it around
        (fits_in (first ∷ more) there (λ p y j on outer of_k is. subst (λ (n : Bindings). Fits c n (inside_interface m it around) (became c ps bs f (Some p))) (sym (to j)) (fits p y j on outer of_k is)))
        es class root position first more kinds there agree
        (λ p y j on outer of_k is. (placed_is p y j on outer of_k is ∙ to j, called_is p y j on outer of_k is))

    -- The tree of the interface that a class's type item is.
    pub type_merged : names_instance es class ≡ false → (i : InterfaceId) → slice_get roots k ≡ Some (i ∷ [])
        → ((p : ℕ) (y : Part) (j : Interface) → slice_get ps p ≡ Some y → y.outer ≡ None → y.union ≡ k → item_at c.interfaces y.interface.0 ≡ Some j → Fits c (inside_interface c j root) (inside_interface m it around) (became c ps bs f (Some p)))
        → held_tree m around (ty.Interface w) ≡ held_tree c root (ty.Interface i)
    type_merged of_none i there fits =
        let to : (j : Interface) → member_place c es root class j ≡ inside_interface c j root = λ j. ap (λ b. cond b (inside_member by_names c es class j root) (inside_interface c j root)) of_none in
        class_type c m roots us ps bs f ids ws (merged_places c es ps root) (merged_calls c es ps) merged_unions k x w it at at_w at_it around
        (fits_in (i ∷ []) there (λ p y j on outer of_k is. subst (λ (n : Bindings). Fits c n (inside_interface m it around) (became c ps bs f (Some p))) (sym (to j)) (fits p y j on outer of_k is)))
        root i there
        (λ p y j on outer of_k is. placed_is p y j on outer of_k is ∙ to j)
