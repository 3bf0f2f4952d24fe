-- Samples: instances of components with arguments.
use Rattle.std.proofs.Common.{◌≡◌, ℕ, List, [], ◌∷◌, None, refl, ap, sym, ◌∙◌}
use Rattle.wac_component.proofs.component_types.Cases.{names1, names2}
use Rattle.wac_component.proofs.component_types.Terms.{no_module_type, context_after, at, component_eq, component_item_eq, instance_eq, only_eq, with_resource, of_type, none, inst, eqr, fn, IsValid, import_nowhere, has_type, all1, args1, args2, is_only, fits_eq, when1, apart_numbers, leaf_names, first_name, a, b, f, g, i, j, q, r, x, y, path, path2, alias_of, own_type, func_type, defined, both}
use Rattle.wac_types_shapes.specs.primitives.Name.{Name}
use Rattle.wac_types_shapes.specs.primitives.Tree.{imported, exported, Place, position, Leaf, Tree, primitive, own, component, fresh, type_equal}
use Rattle.wac_binary.specs.Items.{value_def, primitive_def, instance_def, component_def, Decl, decls, type_decl, export_decl, import_decl, alias_decl, outer_alias}
use Rattle.wac_component.specs.Parts.{Part, parts, component_part, instantiate_part, alias_part, component_alias, type_part, import_part, export_part}
use Rattle.wac_component.specs.Context.{empty_context, after_parts, items_named}
use Rattle.wac_component.specs.ResourceNames.{component_type, IsComponentType}
use Rattle.wac_component.specs.Valid.{MentionsNothingMade, HasComponentType}
use Rattle.wac_binary.specs.Unfold.{described_item}
use Rattle.wac_component.specs.ItemSubtype.{same, instances, components}
use Rattle.wac_types_shapes.specs.declared.primitives.component.PrimitiveType.TheVariants as p
use Rattle.wac_binary.specs.declared.sorts.Sort.TheVariants as s
use Rattle.wac_binary.specs.declared.sorts.Description.TheVariants as e

-- 8. An argument instance with more exports than asked, which the nested component exports again: what it asked for.
abbrev pub asks_r : List Decl
asks_r = export_decl r e.Fresh ∷ []

abbrev pub passes_on_parts : List Part
passes_on_parts = type_part (instance_def (decls asks_r)) ∷ import_part x (e.Instance 0) ∷ export_part y s.Instance 0 None ∷ []

abbrev pub passes_on : Part
passes_on = component_part (parts passes_on_parts)

abbrev pub larger : List Part
larger = type_part (instance_def (decls with_resource)) ∷ import_part i (e.Instance 0) ∷ passes_on ∷ instantiate_part 0 ((x, s.Instance, 0) ∷ []) ∷ alias_of s.Instance 1 y ∷ export_part y s.Instance 2 None ∷ []

abbrev pub imports_i : Name → Tree
imports_i = items_named ((i, both fresh (at exported 0 (path r))) ∷ [])

abbrev pub larger_tree : Tree
larger_tree = component imports_i (items_named ((y, inst ((r, eqr imported 1 (path2 i r)) ∷ [])) ∷ []))

pub imports_i_eq : items_named (context_after larger).imports ≡ imports_i
imports_i_eq = names1 i (instance_eq (names2 r f refl (only_eq refl (λ k. refl)) (λ n h k. rw (k, h) refl))) (λ n h. rw h refl)

larger_typed : (z : Leaf) (paths : List (List Place)) → component_type z paths (context_after larger) ≡ larger_tree
larger_typed z paths = component_eq imports_i_eq (names1 y (instance_eq (names1 r refl (λ n h. rw h refl))) (λ n h. rw h refl))

asks_nowhere : MentionsNothingMade (described_item (context_after (type_part (instance_def (decls asks_r)) ∷ [])).scope (e.Instance 0))
asks_nowhere = instance_eq (names1 r refl (λ n h. rw h refl))

abbrev passes_on_tree : Tree
passes_on_tree = component (items_named (context_after passes_on_parts).imports) (items_named ((y, inst ((r, eqr imported 1 (path2 x r)) ∷ [])) ∷ []))

passes_on_typed : (z : Leaf) → component_type z [] (context_after passes_on_parts) ≡ passes_on_tree
passes_on_typed z = component_eq refl (names1 y (instance_eq (names1 r refl (λ n h. rw h refl))) (λ n h. rw h refl))

passes_on_has : HasComponentType (context_after passes_on_parts)
passes_on_has = (passes_on_tree, ([], λ z. sym (passes_on_typed z)))

pub larger_valid : IsValid larger
larger_valid = (
  assumption refl,
  (
    (refl, tt, import_nowhere),
    (
      (
        (assumption refl, ((refl, tt, asks_nowhere), assumption refl)),
        passes_on_has,
      ),
      (
        ((tt, refl, tt), args1 _ _ x (instances _ _ (all1 _ r (same (eqr imported 1 (path2 i r))) (λ n h. rw h refl))) (λ n h. rw h refl)),
        assumption refl,
      ),
    ),
  ),
)

-- 9. A component as an argument, which exports more than asked.
abbrev pub taker_parts : List Part
taker_parts = type_part (component_def (decls (import_decl r e.Fresh ∷ export_decl a (e.Equal 0) ∷ []))) ∷ import_part q (e.Component 0) ∷
    defined ∷ export_part b of_type 1 None ∷ instantiate_part 0 ((r, of_type, 1) ∷ []) ∷ alias_of of_type 0 a ∷ export_part a of_type 3 None ∷ []

abbrev pub taker : Part
taker = component_part (parts taker_parts)

abbrev pub giver_parts : List Part
giver_parts = import_part r e.Fresh ∷ export_part a of_type 0 None ∷ export_part x of_type 0 None ∷ []

abbrev pub giver : Part
giver = component_part (parts giver_parts)

abbrev pub handed : List Part
handed = taker ∷ giver ∷ instantiate_part 0 ((q, s.Component, 1) ∷ []) ∷ export_part i s.Instance 0 None ∷ []

abbrev pub handed_tree : Tree
handed_tree = component none (items_named ((i, inst ((b, fresh) ∷ (a, eqr exported 0 (path b)) ∷ [])) ∷ []))

handed_typed : (z : Leaf) → component_type z (path2 i b ∷ []) (context_after handed) ≡ handed_tree
handed_typed z = component_eq refl (names1 i (instance_eq (names2 b a refl refl (λ n h k. rw (h, k) refl))) (λ n h. rw h refl))

taken_nowhere : MentionsNothingMade (described_item (context_after (type_part (component_def (decls (import_decl r e.Fresh ∷ export_decl a (e.Equal 0) ∷ []))) ∷ [])).scope (e.Component 0))
taken_nowhere = component_item_eq (names1 r refl (λ n h. rw h refl)) (names1 a refl (λ n h. rw h refl))

pub handed_valid : IsValid handed
handed_valid = (
  (
    (
      assumption refl,
      (
        (refl, tt, taken_nowhere),
        (
          assumption refl,
          (
            assumption refl,
            (
              ((tt, refl, tt), args1 _ _ r (same (eqr exported 0 (position 2 ∷ []))) (λ n h. rw h refl)),
              assumption refl,
            ),
          ),
        ),
      ),
    ),
    has_type (context_after taker_parts) (path b ∷ []) ((b, fresh) ∷ (a, eqr exported 0 (path b)) ∷ []) (λ z. component_eq refl (names2 b a refl refl (λ n h k. rw (h, k) refl))),
  ),
  (
    (assumption refl, has_type (context_after giver_parts) [] ((a, eqr imported 0 (path r)) ∷ (x, eqr imported 0 (path r)) ∷ []) (λ z. component_eq refl (names2 a x refl refl (λ n h k. rw (h, k) refl)))),
    (
      (
        (tt, refl, tt),
        args1 _ _ q (components _ _ _ _ (when1 _ _ _ r (same (eqr imported 0 (path r))) (λ n h. rw h refl)) (when1 _ _ _ a (same (eqr imported 0 (path r))) (λ n h. rw h refl))) (λ n h. rw h refl),
      ),
      assumption refl,
    ),
  ),
)

-- 10. A function argument over a resource that is another argument.
abbrev pub caller_parts : List Part
caller_parts = import_part r e.Fresh ∷ own_type 0 ∷ func_type 1 ∷ import_part f (e.Func 2) ∷ export_part g s.Func 0 None ∷ []

abbrev pub caller : Part
caller = component_part (parts caller_parts)

abbrev pub called : List Part
called = type_part (instance_def (decls with_resource)) ∷ import_part i (e.Instance 0) ∷ caller ∷ alias_of of_type 0 r ∷ alias_of s.Func 0 f ∷ instantiate_part 0 ((r, of_type, 1) ∷ (f, s.Func, 0) ∷ []) ∷ alias_of s.Func 1 g ∷ export_part g s.Func 1 None ∷ []

abbrev pub called_tree : Tree
called_tree = component imports_i (items_named ((g, fn (at imported 0 (path2 i r))) ∷ []))

called_typed : (z : Leaf) (paths : List (List Place)) → component_type z paths (context_after called) ≡ called_tree
called_typed z paths = component_eq imports_i_eq (names1 g (only_eq refl (λ k. refl)) (λ n h. rw h refl))

called_nowhere : MentionsNothingMade (described_item (context_after (import_part r e.Fresh ∷ own_type 0 ∷ func_type 1 ∷ [])).scope (e.Func 2))
called_nowhere = only_eq {t = own (at imported 0 (path r))} refl (λ k. refl) ∙ sym (only_eq refl (λ k. refl))

pub called_valid : IsValid called
called_valid = (
  assumption refl,
  (
    (refl, tt, import_nowhere),
    (
      (
        (assumption refl, (assumption refl, (assumption refl, ((refl, assumption refl, called_nowhere), assumption refl)))),
        has_type (context_after caller_parts) [] ((g, fn (at imported 0 (path r))) ∷ []) (λ z. component_eq refl (names1 g (only_eq refl (λ k. refl)) (λ n h. rw h refl))),
      ),
      (
        tt,
        (
          tt,
          (
            (
              (tt, refl, (tt, refl, tt)),
              args2 _ _ r f (same (eqr imported 0 (path2 i r))) (fits_eq _ _ (only_eq {t = own (at imported 0 (path2 i r))} refl (λ k. refl) ∙ sym (only_eq refl (λ k. refl)))) (λ n h k. rw (h, k) refl),
            ),
            assumption refl,
          ),
        ),
      ),
    ),
  ),
)

j_i : ◌≡◌ {A = ℕ} 106 105 → ⊥
j_i = apart_numbers 106 105 refl

-- .. and over a resource of another instance: not valid.
abbrev pub miscalled : List Part
miscalled = type_part (instance_def (decls with_resource)) ∷ import_part i (e.Instance 0) ∷ import_part j (e.Instance 0) ∷ caller ∷ alias_of of_type 1 r ∷ alias_of s.Func 0 f ∷ instantiate_part 0 ((r, of_type, 1) ∷ (f, s.Func, 0) ∷ []) ∷ []

pub miscalled_invalid : IsValid miscalled → ⊥
miscalled_invalid h = j_i (ap (λ t. first_name (leaf_names t)) (is_only _ _ (h.1.1.1.1.1.1.0.1 f (λ ne. cc ne))))

-- 11. A nested component that exports its import again.
abbrev pub returner : List Part
returner = import_part x e.Fresh ∷ export_part y of_type 0 None ∷ []

abbrev pub returned : List Part
returned = defined ∷ export_part a of_type 0 None ∷ component_part (parts returner) ∷ instantiate_part 0 ((x, of_type, 0) ∷ []) ∷ export_part j s.Instance 0 None ∷ []

abbrev pub returned_tree : Tree
returned_tree = component none (items_named ((a, fresh) ∷ (j, inst ((y, eqr exported 1 (path a)) ∷ [])) ∷ []))

returned_typed : (z : Leaf) → component_type z (path a ∷ []) (context_after returned) ≡ returned_tree
returned_typed z = component_eq refl (names2 a j refl (instance_eq (names1 y refl (λ n h. rw h refl))) (λ n h k. rw (h, k) refl))

pub returned_valid : IsValid returned
returned_valid = (
  assumption refl,
  (
    assumption refl,
    (
      (assumption refl, has_type (context_after returner) [] ((y, eqr imported 0 (path x)) ∷ []) (λ z. component_eq refl (names1 y refl (λ n h. rw h refl)))),
      (
        ((tt, refl, tt), args1 _ _ x (same (eqr exported 0 (position 0 ∷ []))) (λ n h. rw h refl)),
        assumption refl,
      ),
    ),
  ),
)

-- 7. An outer alias of a resource: not valid.
abbrev pub reaching : List Part
reaching = defined ∷ component_part (parts (alias_part (component_alias (outer_alias of_type 1 0)) ∷ [])) ∷ []

pub reaching_invalid : IsValid reaching → ⊥
reaching_invalid h = cc (ap (λ t. first_name (leaf_names t)) h.1.0.0.0.2)

-- .. of a type without a resource: valid.
abbrev pub reaching_value : List Part
reaching_value = type_part (value_def (primitive_def p.U8)) ∷ component_part (parts (alias_part (component_alias (outer_alias of_type 1 0)) ∷ export_part a of_type 0 None ∷ [])) ∷ []

pub reaching_value_valid : IsValid reaching_value
reaching_value_valid = (assumption refl, ((assumption refl, has_type (after_parts no_module_type (parts (alias_part (component_alias (outer_alias of_type 1 0)) ∷ export_part a of_type 0 None ∷ [])) empty_context (context_after (type_part (value_def (primitive_def p.U8)) ∷ []) ∷ [])) [] ((a, type_equal (primitive p.U8)) ∷ []) (λ z. component_eq refl (names1 a refl (λ n h. rw h refl)))), assumption refl))

-- .. and one from a component type in an instance type.
abbrev pub reaching_type : List Part
reaching_type = defined ∷ type_part (instance_def (decls (type_decl (component_def (decls (alias_decl (outer_alias of_type 2 0) ∷ []))) ∷ []))) ∷ []

pub reaching_type_invalid : IsValid reaching_type → ⊥
reaching_type_invalid h = cc (ap (λ t. first_name (leaf_names t)) h.1.0.1.0.0)

pub larger_is : IsComponentType (context_after larger) larger_tree
larger_is = ([], λ z. sym (larger_typed z []))

pub handed_is : IsComponentType (context_after handed) handed_tree
handed_is = (path2 i b ∷ [], λ z. sym (handed_typed z))

pub called_is : IsComponentType (context_after called) called_tree
called_is = ([], λ z. sym (called_typed z []))

pub returned_is : IsComponentType (context_after returned) returned_tree
returned_is = (path a ∷ [], λ z. sym (returned_typed z))
