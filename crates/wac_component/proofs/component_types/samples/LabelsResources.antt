-- labels-resources.wasm: read from its bytes, it has this type.
use Rattle.std.proofs.Common.{◌≡◌, [], ◌∷◌, Ok, codes, refl, sym}
use Rattle.std.proofs.Math.Path.{fun_ext}
use Rattle.wac_component.proofs.Computing.{read}
use Rattle.wac_component.proofs.samples.LabelsResources.{labels_resources_bytes}
use Rattle.wac_component.proofs.component_types.Terms.{no_module_type, component_eq, instance_eq}
use Rattle.wac_component.proofs.component_types.Equal.{got, IsTypeOfBytes, n1, n2}
use Rattle.wac_types_shapes.specs.primitives.Tree.{Leaf, Tree, instance, component, fresh, instance_item}
use Rattle.wac_component.specs.Parts.{Parts}
use Rattle.wac_component.specs.Reading.{parts_of}
use Rattle.wac_component.specs.Context.{empty_context, items_named, after_parts}
use Rattle.wac_component.specs.ResourceNames.{component_type}

abbrev labels_resources_parts : Parts
unfolding read
labels_resources_parts = got (parts_of labels_resources_bytes)

abbrev pub labels_resources_tree : Tree
labels_resources_tree = (component (items_named (((codes "primary"), (instance_item (instance (items_named (((codes "r"), fresh) ∷ []))))) ∷ ((codes "secondary"), (instance_item (instance (items_named (((codes "r"), fresh) ∷ []))))) ∷ [])) (items_named ([])))

labels_resources_read : parts_of labels_resources_bytes ≡ Ok labels_resources_parts
unfolding read
labels_resources_read = refl

labels_resources_typed : (z : Leaf) → component_type z ([]) (after_parts no_module_type labels_resources_parts empty_context []) ≡ labels_resources_tree
unfolding read
labels_resources_typed z = component_eq (n2 (codes "primary") (codes "secondary") (instance_eq (n1 (codes "r") refl (λ n h0. rw h0 refl))) (instance_eq (n1 (codes "r") refl (λ n h0. rw h0 refl))) (λ n h0 h1. rw (h0, h1) refl)) (fun_ext (λ n. refl))

pub labels_resources_is : IsTypeOfBytes labels_resources_bytes labels_resources_tree
labels_resources_is = (labels_resources_parts, labels_resources_read, (([]), λ z. sym (labels_resources_typed z)))
