-- Samples: exports with ascribed types, instances of exports, what is three components deep, and components as arguments.
use Rattle.std.proofs.Common.{◌≡◌, ℕ, zero, suc, List, [], ◌∷◌, Some, None, Bool, true, false, refl, ap, sym, subst, ◌∙◌, ⊎_elim, if◌then◌else◌}
use Rattle.wac_component.proofs.component_types.Cases.{names1, names2}
use Rattle.wac_component.proofs.component_types.Terms.{context_after, at, component_eq, component_item_eq, instance_eq, only_eq, with_resource, of_type, none, inst, eqr, export_of, item_in, IsValid, import_nowhere, fits_eq, first_name, apart_numbers, a, b, f, i, q, r, x, path, path2, maker_parts, alias_of, defined, both}
use Rattle.wac_component.proofs.component_types.Arguments.{imports_i, imports_i_eq}
use Rattle.wac_component.proofs.component_types.Invalid.{is_nothing}
use Rattle.wac_component.proofs.component_types.Resources.{sealed, offered}
use Rattle.wac_component.proofs.component_types.Wrong.{fresh_if, equal_if, export_true, seen_inside_true, found, name_of}
use Rattle.wac_types_shapes.specs.primitives.Name.{Name, same_name}
use Rattle.wac_types_shapes.specs.primitives.Tree.{Side, imported, exported, Place, position, named, Leaf, Tree, absent, primitive, component, fresh, resource, type_equal, component_item}
use Rattle.wac_binary.specs.Items.{value_def, primitive_def, instance_def, component_def, decls, import_decl, outer_alias}
use Rattle.wac_binary.specs.Unfold.{described_item}
use Rattle.wac_component.specs.Parts.{Part, parts, component_part, instantiate_part, exports_part, alias_part, component_alias, type_part, import_part, export_part}
use Rattle.wac_component.specs.Open.{nowhere, bound_here, bound_item, with_resources_of}
use Rattle.wac_component.specs.Context.{items_named, indexed_item}
use Rattle.wac_component.specs.ItemSubtype.{any_imports, import_asked, IsItemSubtype, same, components}
use Rattle.wac_component.specs.ResourceNames.{component_type, IsComponentType, named_first, is_export_at, resource_in, paths_below, seen_inside, seen_inside_from}
use Rattle.wac_types_shapes.specs.declared.primitives.component.PrimitiveType.{PrimitiveType}
use Rattle.wac_types_shapes.specs.declared.primitives.component.PrimitiveType.TheVariants as p
use Rattle.wac_binary.specs.declared.sorts.Sort.TheVariants as s
use Rattle.wac_binary.specs.declared.sorts.Description.TheVariants as e

-- A name that exports give is on their side.
named_side : (paths : List (List Place)) (ex : Name → Tree) (l : Leaf) → (named_first nowhere paths ex l).side ≡ exported
named_side [] ex l = refl
named_side (q ∷ qs) ex l = by_test (named_side qs ex l) (is_export_at (resource_in ex q) l.path)
  where
    by_test : (named_first nowhere qs ex l).side ≡ exported → (t : Bool) → (if t then bound_here exported q else named_first nowhere qs ex l).side ≡ exported
    by_test rest true = refl
    by_test rest false = rest

inside_side : (n : Name) (l : Leaf) → (seen_inside n l).side ≡ l.side
inside_side n l = by_parts l.out l.side l.path
  where
    by_name : (m : Name) (p : Place) (ps : List Place) (t : Bool) → (if t then bound_here exported (p ∷ ps) else record { out = 1; side = exported; path = named m ∷ p ∷ ps }).side ≡ exported
    by_name m p ps true = refl
    by_name m p ps false = refl

    by_parts : (o : ℕ) (side : Side) (p : List Place) → (seen_inside_from n o side p).side ≡ side
    by_parts zero exported (named m ∷ p ∷ ps) = by_name m p ps (same_name m n)
    by_parts zero exported [] = refl
    by_parts zero exported (named m ∷ []) = refl
    by_parts zero exported (position k ∷ ps) = refl
    by_parts zero imported p = refl
    by_parts (suc o) side p = refl

sides_apart : imported ≡ exported → ⊥
sides_apart h = cc h

-- 3. What is exported with `sub` is another resource than the one that it was.
pub sealed_wrong : (im ex : Name → Tree) → ex b ≡ eqr exported 0 (path a) → IsComponentType (context_after sealed) (component im ex) → ⊥
sealed_wrong im ex eb h = ⊎_elim (λ e. no_name (ap (λ l. first_name l.path) e)) (λ e. cc e) (found h.0 (items_named (context_after sealed).exports) (bound_here exported (position 2 ∷ [])) (path a) (sym (equal_if (is_export_at l (path b)) (at exported 0 (path a)) l (sym eb ∙ ap (λ t. export_of t b []) (h.1 nowhere)))))
  where
    l : Leaf
    l = name_of sealed h.0 (position 2 ∷ [])

    no_name : ◌≡◌ {A = ℕ} 0 97 → ⊥
    no_name = apart_numbers 0 97 refl

-- 15. An imported resource that is exported again with `sub`: a new one.
abbrev pub again_sub : List Part
again_sub = type_part (instance_def (decls with_resource)) ∷ import_part i (e.Instance 0) ∷ alias_of of_type 0 r ∷ export_part r of_type 1 (Some e.Fresh) ∷ []

abbrev pub again_sub_tree : Tree
again_sub_tree = component imports_i (items_named ((r, fresh) ∷ []))

again_sub_typed : (z : Leaf) → component_type z (path r ∷ []) (context_after again_sub) ≡ again_sub_tree
again_sub_typed z = component_eq imports_i_eq (names1 r refl (λ n h. rw h refl))

pub again_sub_is : IsComponentType (context_after again_sub) again_sub_tree
again_sub_is = (path r ∷ [], λ z. sym (again_sub_typed z))

pub again_sub_valid : IsValid again_sub
again_sub_valid = assumption (import_nowhere, same (eqr imported 0 (path2 i r)))

pub again_sub_wrong : (im ex : Name → Tree) → ex r ≡ eqr imported 0 (path2 i r) → IsComponentType (context_after again_sub) (component im ex) → ⊥
again_sub_wrong im ex er h =
    let l = name_of again_sub h.0 (position 3 ∷ []) in
    sides_apart (ap (λ l. l.side) (equal_if (is_export_at l (path r)) (at imported 0 (path2 i r)) l (sym er ∙ ap (λ t. export_of t r []) (h.1 nowhere))) ∙ named_side h.0 (items_named (context_after again_sub).exports) (bound_here exported (position 3 ∷ [])))

-- .. and an imported instance that is exported again, with an instance type in which the resource is `sub`.
abbrev pub again_sealed : List Part
again_sealed = type_part (instance_def (decls with_resource)) ∷ import_part i (e.Instance 0) ∷ export_part i s.Instance 0 (Some (e.Instance 0)) ∷ []

abbrev pub again_sealed_tree : Tree
again_sealed_tree = component imports_i imports_i

again_sealed_typed : (z : Leaf) → component_type z (path2 i r ∷ []) (context_after again_sealed) ≡ again_sealed_tree
again_sealed_typed z = component_eq imports_i_eq (names1 i (instance_eq (names2 r f refl (only_eq refl (λ k. refl)) (λ n h k. rw (k, h) refl))) (λ n h. rw h refl))

pub again_sealed_is : IsComponentType (context_after again_sealed) again_sealed_tree
again_sealed_is = (path2 i r ∷ [], λ z. sym (again_sealed_typed z))

abbrev described : Tree
described = described_item (context_after (type_part (instance_def (decls with_resource)) ∷ [])).scope (e.Instance 0)

abbrev imported_i : Tree
imported_i = indexed_item (context_after (type_part (instance_def (decls with_resource)) ∷ import_part i (e.Instance 0) ∷ [])) s.Instance 0

imported_eq : imported_i ≡ both (eqr imported 1 (path2 i r)) (at imported 1 (path2 i r))
imported_eq = instance_eq (names2 r f refl (only_eq refl (λ k. refl)) (λ n h k. rw (k, h) refl))

-- The imported instance, with its own resources in place of those of the type.
matched_eq : with_resources_of imported_i described ≡ both (eqr imported 1 (path2 i r)) (at imported 1 (path2 i r))
matched_eq = instance_eq (names2 r f refl (only_eq refl (λ k. refl)) (λ n h k. rw (k, h) refl))

pub again_sealed_valid : IsValid again_sealed
again_sealed_valid = (
  assumption refl,
  (
    (refl, tt, import_nowhere),
    (
      (refl, tt, (tt, fits_eq imported_i (with_resources_of imported_i described) (imported_eq ∙ sym matched_eq))),
      tt,
    ),
  ),
)

pub again_sealed_wrong : (im ex : Name → Tree) → item_in (ex i) r ≡ eqr imported 1 (path2 i r) → IsComponentType (context_after again_sealed) (component im ex) → ⊥
again_sealed_wrong im ex ei h =
    let l = name_of again_sealed h.0 (position 2 ∷ path r) in
    sides_apart (ap (λ l. l.side) (equal_if (is_export_at (seen_inside i l) (path r)) (at imported 1 (path2 i r)) (seen_inside i l) (sym ei ∙ ap (λ t. export_of t i (r ∷ [])) (h.1 nowhere))) ∙ inside_side i l ∙ named_side h.0 (items_named (context_after again_sealed).exports) (bound_here exported (position 2 ∷ path r)))

-- 16. An instance of exports.
abbrev pub loose : List Part
loose = defined ∷ export_part a of_type 0 None ∷ exports_part ((r, of_type, 0) ∷ (x, of_type, 1) ∷ []) ∷ export_part i s.Instance 0 None ∷ []

abbrev pub loose_tree : Tree
loose_tree = component none (items_named ((a, fresh) ∷ (i, inst ((r, eqr exported 1 (path a)) ∷ (x, eqr exported 1 (path a)) ∷ [])) ∷ []))

loose_typed : (z : Leaf) → component_type z (path a ∷ []) (context_after loose) ≡ loose_tree
loose_typed z = component_eq refl (names2 a i refl (instance_eq (names2 r x refl refl (λ n h k. rw (h, k) refl))) (λ n h k. rw (h, k) refl))

pub loose_is : IsComponentType (context_after loose) loose_tree
loose_is = (path a ∷ [], λ z. sym (loose_typed z))

pub loose_valid : IsValid loose
loose_valid = assumption refl

-- 17. A resource that is made three components deep, taken out by aliases.
abbrev nested : List Part → Name → List Part
nested ps n = component_part (parts ps) ∷ instantiate_part 0 [] ∷ export_part n s.Instance 0 None ∷ []

abbrev pub deep : List Part
deep = component_part (parts (nested (nested maker_parts a) b)) ∷ instantiate_part 0 [] ∷ export_part x s.Instance 0 None ∷ alias_of s.Instance 0 b ∷ alias_of s.Instance 2 a ∷ alias_of of_type 3 r ∷ export_part r of_type 0 None ∷ []

abbrev deep_path : List Place
deep_path = named x ∷ named b ∷ named a ∷ named r ∷ []

abbrev pub deep_tree : Tree
deep_tree = component none (items_named ((x, inst ((b, inst ((a, inst ((r, fresh) ∷ [])) ∷ [])) ∷ [])) ∷ (r, eqr exported 0 deep_path) ∷ []))

deep_typed : (z : Leaf) → component_type z (deep_path ∷ []) (context_after deep) ≡ deep_tree
deep_typed z = component_eq refl (names2 x r (instance_eq (names1 b (instance_eq (names1 a (instance_eq (names1 r refl (λ n h. rw h refl))) (λ n h. rw h refl))) (λ n h. rw h refl))) refl (λ n h k. rw (h, k) refl))

pub deep_is : IsComponentType (context_after deep) deep_tree
deep_is = (deep_path ∷ [], λ z. sym (deep_typed z))

-- .. it is one resource.
pub deep_wrong : (im ex : Name → Tree) → ex r ≡ fresh → item_in (item_in (item_in (ex x) b) a) r ≡ fresh → IsComponentType (context_after deep) (component im ex) → ⊥
deep_wrong im ex er ex_ h = not_there (subst (λ w. is_export_at (seen_inside a (seen_inside b (seen_inside x w))) (path r) ≡ true) is_r inner)
  where
    l : Leaf
    l = name_of deep h.0 (position 1 ∷ position 1 ∷ position 1 ∷ position 0 ∷ [])

    is_r : l ≡ bound_here exported (path r)
    is_r = export_true l (path r) (fresh_if (is_export_at l (path r)) l (sym er ∙ ap (λ t. export_of t r []) (h.1 nowhere)))

    inner : is_export_at (seen_inside a (seen_inside b (seen_inside x l))) (path r) ≡ true
    inner = fresh_if (is_export_at (seen_inside a (seen_inside b (seen_inside x l))) (path r)) (seen_inside a (seen_inside b (seen_inside x l))) (sym ex_ ∙ ap (λ t. export_of t x (b ∷ a ∷ r ∷ [])) (h.1 nowhere))

    not_there : false ≡ true → ⊥
    not_there h = cc h

-- 18. Outer aliases two components out and one.
abbrev prim : PrimitiveType → Part
prim t = type_part (value_def (primitive_def t))

abbrev outer : ℕ → ℕ → Part
outer k n = alias_part (component_alias (outer_alias of_type k n))

abbrev innermost : List Part
innermost = outer 2 1 ∷ outer 1 0 ∷ export_part a of_type 0 None ∷ export_part b of_type 1 None ∷ []

abbrev between : List Part
between = prim p.String ∷ component_part (parts innermost) ∷ export_part x s.Component 0 None ∷ []

abbrev pub reaching_two : List Part
reaching_two = prim p.U8 ∷ prim p.U16 ∷ component_part (parts between) ∷ export_part x s.Component 0 None ∷ []

abbrev component_with : List (Name × Tree) → Tree
component_with es = component_item (component none (items_named es))

abbrev pub reaching_two_tree : Tree
reaching_two_tree = component none (items_named ((x, component_with ((x, component_with ((a, type_equal (primitive p.U16)) ∷ (b, type_equal (primitive p.String)) ∷ [])) ∷ [])) ∷ []))

reaching_two_typed : (z : Leaf) → component_type z [] (context_after reaching_two) ≡ reaching_two_tree
reaching_two_typed z = component_eq refl (names1 x (component_item_eq refl (names1 x (component_item_eq refl (names2 a b refl refl (λ n h k. rw (h, k) refl))) (λ n h. rw h refl))) (λ n h. rw h refl))

pub reaching_two_is : IsComponentType (context_after reaching_two) reaching_two_tree
reaching_two_is = ([], λ z. sym (reaching_two_typed z))

-- 19. A component as an argument that imports less than was asked: valid.
abbrev asking : Part
asking = component_part (parts (type_part (component_def (decls (import_decl r e.Fresh ∷ []))) ∷ import_part q (e.Component 0) ∷ []))

abbrev pub importing_less : List Part
importing_less = asking ∷ component_part (parts []) ∷ instantiate_part 0 ((q, s.Component, 1) ∷ []) ∷ []

abbrev no_imports : Name → Tree
no_imports = items_named []

pub less_fits : IsItemSubtype (component_item (component no_imports no_imports)) (component_item (component (items_named ((r, fresh) ∷ [])) no_imports))
less_fits = components _ _ _ _ (λ n ne. absurd (ne refl)) (λ n ne. absurd (ne refl))

-- .. and one that imports more: not.
abbrev pub importing_more : List Part
importing_more = asking ∷ component_part (parts (import_part r e.Fresh ∷ import_part x e.Fresh ∷ [])) ∷ instantiate_part 0 ((q, s.Component, 1) ∷ []) ∷ []

-- A component that imports `x` is only a subtype of one that does.
abbrev AsksX : Tree → Tree → Type 0
AsksX (component_item (component xi xe)) (component_item (component yi ye)) = xi x ≡ fresh → yi x ≡ absent → ⊥
AsksX _ t = Unit

asks_x : (u t : Tree) → IsItemSubtype u t → AsksX u t
asks_x u t (same w) = self w
  where
    self : (v : Tree) → AsksX v v
    self (component_item (component im ex)) = λ h k. cc (sym h ∙ k)
    self _ = tt
asks_x u t (components xi xe yi ye p o) = λ h k. is_something (is_nothing absent (import_asked (any_imports yi) x fresh)
    (subst (λ v. IsItemSubtype (bound_item imported x v) (import_asked (any_imports yi) x fresh)) k
    (subst (λ w. IsItemSubtype (any_imports yi x) (import_asked (any_imports yi) x w)) h (p x (λ z. not_absent (sym h ∙ z))))))
  where
    is_something : {l : Leaf} → type_equal (resource l) ≡ absent → ⊥
    is_something h = cc h

    not_absent : ◌≡◌ {A = Tree} fresh absent → ⊥
    not_absent h = cc h
asks_x u t _ = tt

pub importing_more_invalid : IsValid importing_more → ⊥
importing_more_invalid h = asks_x _ _ (h.1.1.0.1 q (λ ne. cc ne)) refl refl

-- Wrong types of these.

-- The resource that the instance of exports lists is the exported one.
pub loose_wrong : (im ex : Name → Tree) → ex a ≡ fresh → item_in (ex i) r ≡ fresh → IsComponentType (context_after loose) (component im ex) → ⊥
loose_wrong im ex ea ei h = a_i (ap (λ l. first_name l.path) (sym (export_true l (path a) (fresh_if (is_export_at l (path a)) l (sym ea ∙ ap (λ t. export_of t a []) (h.1 nowhere)))) ∙ seen_inside_true i r l (fresh_if (is_export_at (seen_inside i l) (path r)) (seen_inside i l) (sym ei ∙ ap (λ t. export_of t i (r ∷ [])) (h.1 nowhere)))))
  where
    l : Leaf
    l = name_of loose h.0 (position 0 ∷ [])

    a_i : ◌≡◌ {A = ℕ} 97 105 → ⊥
    a_i = apart_numbers 97 105 refl

-- The export of a component that is an item.
abbrev inner_export : Tree → Name → Tree
inner_export (component_item (component im ex)) n = ex n
inner_export _ n = absent

-- The aliases are of the types two components out and one, each by its own index.
pub reaching_two_wrong : (im ex : Name → Tree) → inner_export (inner_export (ex x) x) a ≡ type_equal (primitive p.String) → IsComponentType (context_after reaching_two) (component im ex) → ⊥
reaching_two_wrong im ex e h = cc (sym e ∙ ap (λ t. inner_export (inner_export (export_of t x []) x) a) (h.1 nowhere))

-- A resource of a component that is exported itself is named by that component's exports.
pub offered_wrong : (im ex : Name → Tree) → inner_export (ex a) r ≡ eqr exported 0 (path x) → IsComponentType (context_after offered) (component im ex) → ⊥
offered_wrong im ex e h = ⊎_elim (λ k. no_name (ap (λ l. first_name l.path) k)) (λ k. cc k) (found (paths_below a h.0) exports (bound_here exported (position 0 ∷ [])) (path x) (sym (equal_if (is_export_at l (path r)) (at exported 0 (path x)) l (sym e ∙ ap (λ t. inner_export (export_of t a []) r) (h.1 nowhere)))))
  where
    exports : Name → Tree
    exports = items_named (context_after maker_parts).exports

    l : Leaf
    l = named_first nowhere (paths_below a h.0) exports (bound_here exported (position 0 ∷ []))

    no_name : ◌≡◌ {A = ℕ} 0 120 → ⊥
    no_name = apart_numbers 0 120 refl
