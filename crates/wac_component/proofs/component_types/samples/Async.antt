-- async.wasm: read from its bytes, it has this type.
use Rattle.std.proofs.Common.{◌≡◌, [], ◌∷◌, Ok, codes, refl, sym, true, false}
use Rattle.wac_component.proofs.Computing.{read}
use Rattle.wac_component.proofs.samples.Async.{async_bytes}
use Rattle.wac_component.proofs.component_types.Terms.{no_module_type, at, component_eq, instance_eq}
use Rattle.wac_component.proofs.component_types.Equal.{got, IsTypeOfBytes, idx_nil, idx_cons, func_eq, type_eq, tuple_eq, flist_eq, stream_eq, future_eq, result_eq, n1, n2, n5}
use Rattle.wac_types_shapes.specs.primitives.Tree.{imported, exported, named, Leaf, Tree, absent, resource, primitive, own, fixed_list_of, tuple_of, enum_of, result_of, stream_of, future_of, function, instance, component, fresh, type_equal, function_item, instance_item}
use Rattle.wac_binary.specs.Unfold.{type_at}
use Rattle.wac_component.specs.Parts.{Parts}
use Rattle.wac_component.specs.Reading.{parts_of}
use Rattle.wac_component.specs.Context.{empty_context, items_named, after_parts}
use Rattle.wac_component.specs.ResourceNames.{component_type}
use Rattle.wac_types_shapes.specs.declared.primitives.component.PrimitiveType.TheVariants as p

abbrev async_parts : Parts
unfolding read
async_parts = got (parts_of async_bytes)

abbrev pub async_tree : Tree
async_tree = (component (items_named (((codes "wasi:http/types@0.3.0"), (instance_item (instance (items_named (((codes "[static]body.new"), (function_item (function false ((codes "s") ∷ (codes "t") ∷ []) (type_at ((stream_of (primitive p.U8)) ∷ (future_of (result_of absent (enum_of ((codes "ok") ∷ (codes "bad") ∷ [])))) ∷ [])) (tuple_of 2 (type_at ((own (at exported 0 (named (codes "body") ∷ []))) ∷ (future_of absent) ∷ [])))))) ∷ ((codes "body"), fresh) ∷ ((codes "code"), (type_equal (enum_of ((codes "ok") ∷ (codes "bad") ∷ [])))) ∷ ((codes "fixed"), (function_item (function false ((codes "a") ∷ []) (type_at ((fixed_list_of 4 (primitive p.F32)) ∷ [])) (stream_of absent)))) ∷ ((codes "send"), (function_item (function true ((codes "b") ∷ []) (type_at ((own (at exported 0 (named (codes "body") ∷ []))) ∷ [])) (result_of (own (at exported 0 (named (codes "body") ∷ []))) (primitive p.ErrorContext))))) ∷ []))))) ∷ [])) (items_named (((codes "my:app/handler"), (instance_item (instance (items_named (((codes "body"), (type_equal (resource (at imported 1 (named (codes "wasi:http/types@0.3.0") ∷ named (codes "body") ∷ []))))) ∷ ((codes "handle"), (function_item (function true ((codes "b") ∷ []) (type_at ((own (at imported 1 (named (codes "wasi:http/types@0.3.0") ∷ named (codes "body") ∷ []))) ∷ [])) (result_of (own (at imported 1 (named (codes "wasi:http/types@0.3.0") ∷ named (codes "body") ∷ []))) absent)))) ∷ []))))) ∷ [])))

async_read : parts_of async_bytes ≡ Ok async_parts
unfolding read
async_read = refl

async_typed : (z : Leaf) → component_type z ((named (codes "my:app/handler") ∷ named (codes "body") ∷ []) ∷ []) (after_parts no_module_type async_parts empty_context []) ≡ async_tree
unfolding read
async_typed z = component_eq (n1 (codes "wasi:http/types@0.3.0") (instance_eq (n5 (codes "[static]body.new") (codes "body") (codes "code") (codes "fixed") (codes "send") (func_eq (idx_cons ((future_of (result_of absent (enum_of ((codes "ok") ∷ (codes "bad") ∷ [])))) ∷ []) (stream_eq refl) (idx_cons ([]) (future_eq (result_eq refl refl)) (idx_nil (λ i. refl)))) (tuple_eq (idx_cons ((future_of absent) ∷ []) refl (idx_cons ([]) (future_eq refl) (idx_nil (λ i. refl)))))) refl (type_eq refl) (func_eq (idx_cons ([]) (flist_eq refl) (idx_nil (λ i. refl))) (stream_eq refl)) (func_eq (idx_cons ([]) refl (idx_nil (λ i. refl))) (result_eq refl refl)) (λ n h0 h1 h2 h3 h4. rw (h0, h1, h2, h3, h4) refl))) (λ n h0. rw h0 refl)) (n1 (codes "my:app/handler") (instance_eq (n2 (codes "body") (codes "handle") refl (func_eq (idx_cons ([]) refl (idx_nil (λ i. refl))) (result_eq refl refl)) (λ n h0 h1. rw (h0, h1) refl))) (λ n h0. rw h0 refl))

pub async_is : IsTypeOfBytes async_bytes async_tree
async_is = (async_parts, async_read, (((named (codes "my:app/handler") ∷ named (codes "body") ∷ []) ∷ []), λ z. sym (async_typed z)))
