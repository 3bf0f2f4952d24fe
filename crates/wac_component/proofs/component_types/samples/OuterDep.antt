-- outer-dep.wasm: read from its bytes, it has this type.
use Rattle.std.proofs.Common.{◌≡◌, [], ◌∷◌, Ok, codes, refl, sym, true}
use Rattle.wac_component.proofs.Computing.{read}
use Rattle.wac_component.proofs.samples.OuterDep.{outer_dep_bytes}
use Rattle.wac_component.proofs.component_types.Terms.{no_module_type, component_eq, component_item_eq, instance_eq}
use Rattle.wac_component.proofs.component_types.Equal.{got, IsTypeOfBytes, idx_nil, idx_cons, func_eq, type_eq, record_eq, n1, n2}
use Rattle.wac_types_shapes.specs.primitives.Tree.{Leaf, Tree, primitive, record_of, function, instance, component, type_equal, function_item, instance_item, component_item}
use Rattle.wac_binary.specs.Unfold.{type_at}
use Rattle.wac_component.specs.Parts.{Parts}
use Rattle.wac_component.specs.Reading.{parts_of}
use Rattle.wac_component.specs.Context.{empty_context, items_named, after_parts}
use Rattle.wac_component.specs.ResourceNames.{component_type}
use Rattle.wac_types_shapes.specs.declared.primitives.component.PrimitiveType.TheVariants as p

abbrev outer_dep_parts : Parts
unfolding read
outer_dep_parts = got (parts_of outer_dep_bytes)

abbrev pub outer_dep_tree : Tree
outer_dep_tree = (component (items_named (((codes "n:p/a"), (instance_item (instance (items_named (((codes "f"), (function_item (function true ((codes "x") ∷ []) (type_at ((record_of ((codes "a") ∷ []) (type_at ((primitive p.U8) ∷ []))) ∷ [])) (record_of ((codes "a") ∷ []) (type_at ((primitive p.U8) ∷ [])))))) ∷ ((codes "t"), (type_equal (record_of ((codes "a") ∷ []) (type_at ((primitive p.U8) ∷ []))))) ∷ []))))) ∷ ((codes "unlocked-dep=<x:y@{>=1.0.0}>"), (component_item (component (items_named (((codes "n:p/a"), (instance_item (instance (items_named (((codes "f"), (function_item (function true ((codes "x") ∷ []) (type_at ((record_of ((codes "a") ∷ []) (type_at ((primitive p.U8) ∷ []))) ∷ [])) (record_of ((codes "a") ∷ []) (type_at ((primitive p.U8) ∷ [])))))) ∷ ((codes "t"), (type_equal (record_of ((codes "a") ∷ []) (type_at ((primitive p.U8) ∷ []))))) ∷ []))))) ∷ [])) (items_named (((codes "n:p/b"), (instance_item (instance (items_named (((codes "f"), (function_item (function true ((codes "x") ∷ []) (type_at ((record_of ((codes "a") ∷ []) (type_at ((primitive p.U8) ∷ []))) ∷ [])) (record_of ((codes "a") ∷ []) (type_at ((primitive p.U8) ∷ [])))))) ∷ ((codes "t"), (type_equal (record_of ((codes "a") ∷ []) (type_at ((primitive p.U8) ∷ []))))) ∷ []))))) ∷ []))))) ∷ [])) (items_named (((codes "n:p/c"), (instance_item (instance (items_named (((codes "f"), (function_item (function true ((codes "x") ∷ []) (type_at ((record_of ((codes "a") ∷ []) (type_at ((primitive p.U8) ∷ []))) ∷ [])) (record_of ((codes "a") ∷ []) (type_at ((primitive p.U8) ∷ [])))))) ∷ ((codes "t"), (type_equal (record_of ((codes "a") ∷ []) (type_at ((primitive p.U8) ∷ []))))) ∷ []))))) ∷ [])))

outer_dep_read : parts_of outer_dep_bytes ≡ Ok outer_dep_parts
unfolding read
outer_dep_read = refl

outer_dep_typed : (z : Leaf) → component_type z ([]) (after_parts no_module_type outer_dep_parts empty_context []) ≡ outer_dep_tree
unfolding read
outer_dep_typed z = component_eq (n2 (codes "n:p/a") (codes "unlocked-dep=<x:y@{>=1.0.0}>") (instance_eq (n2 (codes "f") (codes "t") (func_eq (idx_cons ([]) (record_eq (idx_cons ([]) refl (idx_nil (λ i. refl)))) (idx_nil (λ i. refl))) (record_eq (idx_cons ([]) refl (idx_nil (λ i. refl))))) (type_eq (record_eq (idx_cons ([]) refl (idx_nil (λ i. refl))))) (λ n h0 h1. rw (h0, h1) refl))) (component_item_eq (n1 (codes "n:p/a") (instance_eq (n2 (codes "f") (codes "t") (func_eq (idx_cons ([]) (record_eq (idx_cons ([]) refl (idx_nil (λ i. refl)))) (idx_nil (λ i. refl))) (record_eq (idx_cons ([]) refl (idx_nil (λ i. refl))))) (type_eq (record_eq (idx_cons ([]) refl (idx_nil (λ i. refl))))) (λ n h0 h1. rw (h0, h1) refl))) (λ n h0. rw h0 refl)) (n1 (codes "n:p/b") (instance_eq (n2 (codes "f") (codes "t") (func_eq (idx_cons ([]) (record_eq (idx_cons ([]) refl (idx_nil (λ i. refl)))) (idx_nil (λ i. refl))) (record_eq (idx_cons ([]) refl (idx_nil (λ i. refl))))) (type_eq (record_eq (idx_cons ([]) refl (idx_nil (λ i. refl))))) (λ n h0 h1. rw (h0, h1) refl))) (λ n h0. rw h0 refl))) (λ n h0 h1. rw (h0, h1) refl)) (n1 (codes "n:p/c") (instance_eq (n2 (codes "f") (codes "t") (func_eq (idx_cons ([]) (record_eq (idx_cons ([]) refl (idx_nil (λ i. refl)))) (idx_nil (λ i. refl))) (record_eq (idx_cons ([]) refl (idx_nil (λ i. refl))))) (type_eq (record_eq (idx_cons ([]) refl (idx_nil (λ i. refl))))) (λ n h0 h1. rw (h0, h1) refl))) (λ n h0. rw h0 refl))

pub outer_dep_is : IsTypeOfBytes outer_dep_bytes outer_dep_tree
outer_dep_is = (outer_dep_parts, outer_dep_read, (([]), λ z. sym (outer_dep_typed z)))
