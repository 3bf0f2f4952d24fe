-- Samples: parts, their types, and that they are valid.
use Rattle.std.proofs.Common.{◌≡◌, ℕ, List, [], ◌∷◌, Some, None, refl, ap, sym, ◌≢◌, length}
use Rattle.wac_component.proofs.component_types.Cases.{names1, names2, names3}
use Rattle.wac_component.proofs.component_types.Terms.{context_after, at, component_eq, component_item_eq, instance_eq, only_eq, with_resource, of_type, none, inst, eqr, IsValid, maker_has, import_nowhere, apart_numbers, a, b, f, i, r, x, path, path2, maker, alias_of, own_type, defined, both}
use Rattle.wac_types_shapes.specs.primitives.Name.{Name}
use Rattle.wac_types_shapes.specs.primitives.Tree.{imported, exported, Place, position, Leaf, Tree, absent, own, component, fresh, type_equal, component_item}
use Rattle.wac_binary.specs.Items.{instance_def, component_def, decls, export_decl}
use Rattle.wac_component.specs.Parts.{Part, instantiate_part, type_part, import_part, export_part}
use Rattle.wac_component.specs.Context.{items_named}
use Rattle.wac_component.specs.ResourceNames.{component_type, IsComponentType}
use Rattle.wac_component.specs.Valid.{MentionsNothingMade}
use Rattle.wac_component.specs.ItemSubtype.{IsItemSubtype, same}
use Rattle.wac_binary.specs.declared.sorts.Sort.TheVariants as s
use Rattle.wac_binary.specs.declared.sorts.Description.TheVariants as e

-- A component without imports wants no arguments.
no_arguments : (n : Name) → ◌≢◌ {A = Tree} absent absent → IsItemSubtype absent absent
no_arguments n h = same absent

-- 1. A resource imported and exported again.
abbrev pub again : List Part
again = type_part (instance_def (decls with_resource)) ∷ import_part i (e.Instance 0) ∷ export_part i s.Instance 0 None ∷ alias_of of_type 0 r ∷ export_part r of_type 1 None ∷ []

abbrev pub again_tree : Tree
again_tree = component
    (items_named ((i, both fresh (at exported 0 (path r))) ∷ []))
    (items_named ((i, both (eqr imported 1 (path2 i r)) (at imported 1 (path2 i r))) ∷ (r, eqr imported 0 (path2 i r)) ∷ []))

again_typed : (z : Leaf) (paths : List (List Place)) → component_type z paths (context_after again) ≡ again_tree
again_typed z paths = component_eq
    (names1 i (instance_eq (names2 r f refl (only_eq refl (λ k. refl)) (λ n h k. rw (k, h) refl))) (λ n h. rw h refl))
    (names2 i r (instance_eq (names2 r f refl (only_eq refl (λ k. refl)) (λ n h k. rw (k, h) refl))) refl (λ n h k. rw (h, k) refl))

pub again_is : IsComponentType (context_after again) again_tree
again_is = ([], λ z. sym (again_typed z []))

pub again_valid : IsValid again
again_valid = assumption import_nowhere

-- 2. A resource of an instance of a nested component, exported under two names and in the instance.
abbrev pub two : List Part
two = maker ∷ instantiate_part 0 [] ∷ alias_of of_type 0 r ∷ export_part a of_type 0 None ∷ export_part b of_type 0 None ∷ export_part i s.Instance 0 None ∷ []

abbrev pub two_tree : Tree
two_tree = component none (items_named ((a, fresh) ∷ (b, eqr exported 0 (path a)) ∷ (i, inst ((r, eqr exported 1 (path a)) ∷ [])) ∷ []))

two_typed : (z : Leaf) → component_type z (path a ∷ []) (context_after two) ≡ two_tree
two_typed z = component_eq refl (names3 a b i refl refl (instance_eq (names1 r refl (λ n h. rw h refl))) (λ n h k l. rw (h, k, l) refl))

pub two_is : IsComponentType (context_after two) two_tree
two_is = (path a ∷ [], λ z. sym (two_typed z))

pub two_valid : IsValid two
two_valid = assumption (no_arguments, maker_has)

-- .. and named by the instance.
abbrev pub two_tree_inner : Tree
two_tree_inner = component none (items_named ((a, eqr exported 0 (path2 i r)) ∷ (b, eqr exported 0 (path2 i r)) ∷ (i, inst ((r, fresh) ∷ [])) ∷ []))

two_typed_inner : (z : Leaf) → component_type z (path2 i r ∷ []) (context_after two) ≡ two_tree_inner
two_typed_inner z = component_eq refl (names3 a b i refl refl (instance_eq (names1 r refl (λ n h. rw h refl))) (λ n h k l. rw (h, k, l) refl))

-- 3. A resource exported without an ascription, and again with `sub`: another resource to the user.
abbrev pub sealed : List Part
sealed = defined ∷ export_part a of_type 0 None ∷ export_part b of_type 0 (Some e.Fresh) ∷ own_type 2 ∷ export_part i of_type 3 None ∷ []

abbrev pub sealed_tree : Tree
sealed_tree = component none (items_named ((a, fresh) ∷ (b, fresh) ∷ (i, type_equal (own (at exported 0 (path b)))) ∷ []))

sealed_typed : (z : Leaf) → component_type z (path a ∷ path b ∷ []) (context_after sealed) ≡ sealed_tree
sealed_typed z = component_eq refl (names3 a b i refl refl refl (λ n h k l. rw (h, k, l) refl))

pub sealed_valid : IsValid sealed
sealed_valid = assumption (same (eqr exported 0 (position 0 ∷ [])))

-- .. and with `eq`: the same.
abbrev pub transparent : List Part
transparent = defined ∷ export_part a of_type 0 None ∷ export_part b of_type 0 (Some (e.Equal 1)) ∷ []

abbrev pub transparent_tree : Tree
transparent_tree = component none (items_named ((a, fresh) ∷ (b, eqr exported 0 (path a)) ∷ []))

transparent_typed : (z : Leaf) → component_type z (path a ∷ []) (context_after transparent) ≡ transparent_tree
transparent_typed z = component_eq refl (names2 a b refl refl (λ n h k. rw (h, k) refl))

pub transparent_valid : IsValid transparent
transparent_valid = assumption (same (eqr exported 0 (position 0 ∷ [])))

-- 5. An instance exported twice.
abbrev pub twice : List Part
twice = maker ∷ instantiate_part 0 [] ∷ export_part a s.Instance 0 None ∷ export_part b s.Instance 0 None ∷ []

abbrev pub twice_tree : Tree
twice_tree = component none (items_named ((a, inst ((r, fresh) ∷ [])) ∷ (b, inst ((r, eqr exported 1 (path2 a r)) ∷ [])) ∷ []))

twice_typed : (z : Leaf) → component_type z (path2 a r ∷ []) (context_after twice) ≡ twice_tree
twice_typed z = component_eq refl (names2 a b (instance_eq (names1 r refl (λ n h. rw h refl))) (instance_eq (names1 r refl (λ n h. rw h refl))) (λ n h k. rw (h, k) refl))

-- 6. An imported component instantiated twice.
abbrev pub apart : List Part
apart = type_part (component_def (decls (export_decl r e.Fresh ∷ []))) ∷ import_part x (e.Component 0) ∷ instantiate_part 0 [] ∷ instantiate_part 0 [] ∷ export_part a s.Instance 0 None ∷ export_part b s.Instance 1 None ∷ []

abbrev pub apart_tree : Tree
apart_tree = component (items_named ((x, component_item (component none (items_named ((r, fresh) ∷ [])))) ∷ [])) (items_named ((a, inst ((r, fresh) ∷ [])) ∷ (b, inst ((r, fresh) ∷ [])) ∷ []))

apart_typed : (z : Leaf) → component_type z (path2 a r ∷ path2 b r ∷ []) (context_after apart) ≡ apart_tree
apart_typed z = component_eq (names1 x refl (λ n h. rw h refl)) (names2 a b (instance_eq (names1 r refl (λ n h. rw h refl))) (instance_eq (names1 r refl (λ n h. rw h refl))) (λ n h k. rw (h, k) refl))

component_nowhere : MentionsNothingMade (component_item (component none (items_named ((r, fresh) ∷ []))))
component_nowhere = component_item_eq refl (names1 r refl (λ n h. rw h refl))

pub apart_valid : IsValid apart
apart_valid = assumption (no_arguments, component_nowhere)

pub sealed_is : IsComponentType (context_after sealed) sealed_tree
sealed_is = (path a ∷ path b ∷ [], λ z. sym (sealed_typed z))

pub transparent_is : IsComponentType (context_after transparent) transparent_tree
transparent_is = (path a ∷ [], λ z. sym (transparent_typed z))

pub twice_is : IsComponentType (context_after twice) twice_tree
twice_is = (path2 a r ∷ [], λ z. sym (twice_typed z))

pub apart_is : IsComponentType (context_after apart) apart_tree
apart_is = (path2 a r ∷ path2 b r ∷ [], λ z. sym (apart_typed z))

-- A nested component that is exported itself.
abbrev pub offered : List Part
offered = maker ∷ export_part a s.Component 0 None ∷ []

abbrev pub offered_tree : Tree
offered_tree = component none (items_named ((a, component_item (component none (items_named ((r, fresh) ∷ [])))) ∷ []))

offered_typed : (z : Leaf) → component_type z (path2 a r ∷ []) (context_after offered) ≡ offered_tree
offered_typed z = component_eq refl (names1 a (component_item_eq refl (names1 r refl (λ n h. rw h refl))) (λ n h. rw h refl))

pub offered_is : IsComponentType (context_after offered) offered_tree
offered_is = (path2 a r ∷ [], λ z. sym (offered_typed z))

-- An import over a resource that the component defines: not valid.
abbrev pub early : List Part
early = defined ∷ own_type 0 ∷ import_part a (e.Equal 1) ∷ []

pub early_invalid : IsValid early → ⊥
early_invalid h = apart_numbers 0 1 refl (ap length_of h.1.1.0.2)
  where
    length_of : Tree → ℕ
    length_of (type_equal (own l)) = length l.path
    length_of _ = 0
