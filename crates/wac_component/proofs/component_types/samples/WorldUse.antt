-- world-use.wasm: read from its bytes, it has this type.
use Rattle.std.proofs.Common.{◌≡◌, [], ◌∷◌, Ok, codes, refl, sym, false}
use Rattle.wac_component.proofs.Computing.{read}
use Rattle.wac_component.proofs.samples.WorldUse.{world_use_bytes}
use Rattle.wac_component.proofs.component_types.Terms.{no_module_type, at, component_eq, instance_eq}
use Rattle.wac_component.proofs.component_types.Equal.{got, IsTypeOfBytes, idx_nil, idx_cons, func_eq, type_eq, record_eq, variant_eq, list_eq, result_eq, n1, n4, n8}
use Rattle.wac_types_shapes.specs.primitives.Tree.{imported, exported, named, Leaf, Tree, absent, resource, primitive, own, borrow, record_of, variant_of, list_of, result_of, function, instance, component, fresh, type_equal, function_item, instance_item}
use Rattle.wac_binary.specs.Unfold.{type_at}
use Rattle.wac_component.specs.Parts.{Parts}
use Rattle.wac_component.specs.Reading.{parts_of}
use Rattle.wac_component.specs.Context.{empty_context, items_named, after_parts}
use Rattle.wac_component.specs.ResourceNames.{component_type}
use Rattle.wac_types_shapes.specs.declared.primitives.component.PrimitiveType.TheVariants as p

abbrev world_use_parts : Parts
unfolding read
world_use_parts = got (parts_of world_use_bytes)

abbrev pub world_use_tree : Tree
world_use_tree = (component (items_named (((codes "bucket"), (type_equal (resource (at imported 0 (named (codes "my:kv/store@1.2.0") ∷ named (codes "bucket") ∷ []))))) ∷ ((codes "ee"), (type_equal (record_of ((codes "key") ∷ (codes "value") ∷ []) (type_at ((primitive p.String) ∷ (list_of (primitive p.U8)) ∷ []))))) ∷ ((codes "log"), (function_item (function false ((codes "b") ∷ (codes "e") ∷ []) (type_at ((borrow (at imported 0 (named (codes "my:kv/store@1.2.0") ∷ named (codes "bucket") ∷ []))) ∷ (record_of ((codes "key") ∷ (codes "value") ∷ []) (type_at ((primitive p.String) ∷ (list_of (primitive p.U8)) ∷ []))) ∷ [])) absent))) ∷ ((codes "my:kv/store@1.2.0"), (instance_item (instance (items_named (((codes "[constructor]bucket"), (function_item (function false ((codes "name") ∷ []) (type_at ((primitive p.String) ∷ [])) (own (at exported 0 (named (codes "bucket") ∷ [])))))) ∷ ((codes "[method]bucket.get"), (function_item (function false ((codes "self") ∷ (codes "k") ∷ []) (type_at ((borrow (at exported 0 (named (codes "bucket") ∷ []))) ∷ (primitive p.String) ∷ [])) (result_of (record_of ((codes "key") ∷ (codes "value") ∷ []) (type_at ((primitive p.String) ∷ (list_of (primitive p.U8)) ∷ []))) (variant_of ((codes "missing") ∷ (codes "other") ∷ []) (type_at (absent ∷ (primitive p.String) ∷ []))))))) ∷ ((codes "[static]bucket.all"), (function_item (function false ([]) (type_at ([])) (list_of (own (at exported 0 (named (codes "bucket") ∷ []))))))) ∷ ((codes "bucket"), fresh) ∷ ((codes "drop-all"), (function_item (function false ((codes "b") ∷ []) (type_at ((own (at exported 0 (named (codes "bucket") ∷ []))) ∷ [])) absent))) ∷ ((codes "entry"), (type_equal (record_of ((codes "key") ∷ (codes "value") ∷ []) (type_at ((primitive p.String) ∷ (list_of (primitive p.U8)) ∷ []))))) ∷ ((codes "failure"), (type_equal (variant_of ((codes "missing") ∷ (codes "other") ∷ []) (type_at (absent ∷ (primitive p.String) ∷ []))))) ∷ ((codes "key"), (type_equal (primitive p.String))) ∷ []))))) ∷ [])) (items_named (((codes "run"), (function_item (function false ((codes "e") ∷ []) (type_at ((record_of ((codes "key") ∷ (codes "value") ∷ []) (type_at ((primitive p.String) ∷ (list_of (primitive p.U8)) ∷ []))) ∷ [])) (own (at imported 0 (named (codes "my:kv/store@1.2.0") ∷ named (codes "bucket") ∷ [])))))) ∷ [])))

world_use_read : parts_of world_use_bytes ≡ Ok world_use_parts
unfolding read
world_use_read = refl

world_use_typed : (z : Leaf) → component_type z ([]) (after_parts no_module_type world_use_parts empty_context []) ≡ world_use_tree
unfolding read
world_use_typed z = component_eq (n4 (codes "bucket") (codes "ee") (codes "log") (codes "my:kv/store@1.2.0") refl (type_eq (record_eq (idx_cons ((list_of (primitive p.U8)) ∷ []) refl (idx_cons ([]) (list_eq refl) (idx_nil (λ i. refl)))))) (func_eq (idx_cons ((record_of ((codes "key") ∷ (codes "value") ∷ []) (type_at ((primitive p.String) ∷ (list_of (primitive p.U8)) ∷ []))) ∷ []) refl (idx_cons ([]) (record_eq (idx_cons ((list_of (primitive p.U8)) ∷ []) refl (idx_cons ([]) (list_eq refl) (idx_nil (λ i. refl))))) (idx_nil (λ i. refl)))) refl) (instance_eq (n8 (codes "[constructor]bucket") (codes "[method]bucket.get") (codes "[static]bucket.all") (codes "bucket") (codes "drop-all") (codes "entry") (codes "failure") (codes "key") (func_eq (idx_cons ([]) refl (idx_nil (λ i. refl))) refl) (func_eq (idx_cons ((primitive p.String) ∷ []) refl (idx_cons ([]) refl (idx_nil (λ i. refl)))) (result_eq (record_eq (idx_cons ((list_of (primitive p.U8)) ∷ []) refl (idx_cons ([]) (list_eq refl) (idx_nil (λ i. refl))))) (variant_eq (idx_cons ((primitive p.String) ∷ []) refl (idx_cons ([]) refl (idx_nil (λ i. refl))))))) (func_eq (idx_nil (λ i. refl)) (list_eq refl)) refl (func_eq (idx_cons ([]) refl (idx_nil (λ i. refl))) refl) (type_eq (record_eq (idx_cons ((list_of (primitive p.U8)) ∷ []) refl (idx_cons ([]) (list_eq refl) (idx_nil (λ i. refl)))))) (type_eq (variant_eq (idx_cons ((primitive p.String) ∷ []) refl (idx_cons ([]) refl (idx_nil (λ i. refl)))))) (type_eq refl) (λ n h0 h1 h2 h3 h4 h5 h6 h7. rw (h0, h1, h2, h3, h4, h5, h6, h7) refl))) (λ n h0 h1 h2 h3. rw (h0, h1, h2, h3) refl)) (n1 (codes "run") (func_eq (idx_cons ([]) (record_eq (idx_cons ((list_of (primitive p.U8)) ∷ []) refl (idx_cons ([]) (list_eq refl) (idx_nil (λ i. refl))))) (idx_nil (λ i. refl))) refl) (λ n h0. rw h0 refl))

pub world_use_is : IsTypeOfBytes world_use_bytes world_use_tree
world_use_is = (world_use_parts, world_use_read, (([]), λ z. sym (world_use_typed z)))
