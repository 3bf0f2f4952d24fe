-- labels.wasm: read from its bytes, it has this type.
use Rattle.std.proofs.Common.{◌≡◌, [], ◌∷◌, Ok, codes, refl, sym, false}
use Rattle.std.proofs.Math.Path.{fun_ext}
use Rattle.wac_component.proofs.Computing.{read}
use Rattle.wac_component.proofs.samples.Labels.{labels_bytes}
use Rattle.wac_component.proofs.component_types.Terms.{no_module_type, component_eq, instance_eq}
use Rattle.wac_component.proofs.component_types.Equal.{got, IsTypeOfBytes, idx_nil, idx_cons, func_eq, type_eq, n2}
use Rattle.wac_types_shapes.specs.primitives.Tree.{Leaf, Tree, absent, enum_of, function, instance, component, type_equal, function_item, instance_item}
use Rattle.wac_binary.specs.Unfold.{type_at}
use Rattle.wac_component.specs.Parts.{Parts}
use Rattle.wac_component.specs.Reading.{parts_of}
use Rattle.wac_component.specs.Context.{empty_context, items_named, after_parts}
use Rattle.wac_component.specs.ResourceNames.{component_type}

abbrev labels_parts : Parts
unfolding read
labels_parts = got (parts_of labels_bytes)

abbrev pub labels_tree : Tree
labels_tree = (component (items_named (((codes "primary"), (instance_item (instance (items_named (((codes "level"), (type_equal (enum_of ((codes "debug") ∷ (codes "info") ∷ [])))) ∷ ((codes "log"), (function_item (function false ((codes "l") ∷ []) (type_at ((enum_of ((codes "debug") ∷ (codes "info") ∷ [])) ∷ [])) absent))) ∷ []))))) ∷ ((codes "secondary"), (instance_item (instance (items_named (((codes "level"), (type_equal (enum_of ((codes "debug") ∷ (codes "info") ∷ [])))) ∷ ((codes "log"), (function_item (function false ((codes "l") ∷ []) (type_at ((enum_of ((codes "debug") ∷ (codes "info") ∷ [])) ∷ [])) absent))) ∷ []))))) ∷ [])) (items_named ([])))

labels_read : parts_of labels_bytes ≡ Ok labels_parts
unfolding read
labels_read = refl

labels_typed : (z : Leaf) → component_type z ([]) (after_parts no_module_type labels_parts empty_context []) ≡ labels_tree
unfolding read
labels_typed z = component_eq (n2 (codes "primary") (codes "secondary") (instance_eq (n2 (codes "level") (codes "log") (type_eq refl) (func_eq (idx_cons ([]) refl (idx_nil (λ i. refl))) refl) (λ n h0 h1. rw (h0, h1) refl))) (instance_eq (n2 (codes "level") (codes "log") (type_eq refl) (func_eq (idx_cons ([]) refl (idx_nil (λ i. refl))) refl) (λ n h0 h1. rw (h0, h1) refl))) (λ n h0 h1. rw (h0, h1) refl)) (fun_ext (λ n. refl))

pub labels_is : IsTypeOfBytes labels_bytes labels_tree
labels_is = (labels_parts, labels_read, (([]), λ z. sym (labels_typed z)))
