-- label-resource-outside.wasm: read from its bytes, it has this type.
use Rattle.std.proofs.Common.{◌≡◌, ℕ, List, [], ◌∷◌, Ok, codes, refl, sym, false}
use Rattle.std.proofs.Math.Path.{fun_ext}
use Rattle.wac_component.proofs.Computing.{read}
use Rattle.wac_component.proofs.component_types.Terms.{no_module_type, at, component_eq, instance_eq}
use Rattle.wac_component.proofs.component_types.Equal.{got, IsTypeOfBytes, idx_nil, idx_cons, func_eq, n1, n3}
use Rattle.wac_types_shapes.specs.primitives.Tree.{imported, named, Leaf, Tree, absent, own, function, instance, component, fresh, function_item, instance_item}
use Rattle.wac_binary.specs.Unfold.{type_at}
use Rattle.wac_component.specs.Parts.{Parts}
use Rattle.wac_component.specs.Reading.{parts_of}
use Rattle.wac_component.specs.Context.{empty_context, items_named, after_parts}
use Rattle.wac_component.specs.ResourceNames.{component_type}

-- label-resource-outside.wasm: 74 bytes
abbrev label_resource_outside_bytes : List ℕ
label_resource_outside_bytes = (codes "\0asm\r\0\u{1}\0\u{7}\t\u{1}B\u{1}\u{4}\0\u{1}r\u{3}\u{1}\n\u{19}\u{2}\0\u{7}primary\u{5}\0\0\tsecondary\u{5}\0\u{6}\u{6}\u{1}\u{3}\0\0\u{1}r\u{7}\n\u{2}i\u{1}@\u{1}\u{1}x\u{2}\u{1}\0\n\u{6}\u{1}\0\u{1}f\u{1}\u{3}")

abbrev label_resource_outside_parts : Parts
unfolding read
label_resource_outside_parts = got (parts_of label_resource_outside_bytes)

abbrev pub label_resource_outside_tree : Tree
label_resource_outside_tree = (component (items_named (((codes "f"), (function_item (function false ((codes "x") ∷ []) (type_at ((own (at imported 0 (named (codes "primary") ∷ named (codes "r") ∷ []))) ∷ [])) absent))) ∷ ((codes "primary"), (instance_item (instance (items_named (((codes "r"), fresh) ∷ []))))) ∷ ((codes "secondary"), (instance_item (instance (items_named (((codes "r"), fresh) ∷ []))))) ∷ [])) (items_named ([])))

label_resource_outside_read : parts_of label_resource_outside_bytes ≡ Ok label_resource_outside_parts
unfolding read
label_resource_outside_read = refl

label_resource_outside_typed : (z : Leaf) → component_type z ([]) (after_parts no_module_type label_resource_outside_parts empty_context []) ≡ label_resource_outside_tree
unfolding read
label_resource_outside_typed z = component_eq (n3 (codes "f") (codes "primary") (codes "secondary") (func_eq (idx_cons ([]) refl (idx_nil (λ i. refl))) refl) (instance_eq (n1 (codes "r") refl (λ n h0. rw h0 refl))) (instance_eq (n1 (codes "r") refl (λ n h0. rw h0 refl))) (λ n h0 h1 h2. rw (h0, h1, h2) refl)) (fun_ext (λ n. refl))

pub label_resource_outside_is : IsTypeOfBytes label_resource_outside_bytes label_resource_outside_tree
label_resource_outside_is = (label_resource_outside_parts, label_resource_outside_read, (([]), λ z. sym (label_resource_outside_typed z)))
