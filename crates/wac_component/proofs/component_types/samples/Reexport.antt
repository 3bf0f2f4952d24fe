-- reexport.wasm: read from its bytes, it has this type.
use Rattle.std.proofs.Common.{◌≡◌, [], ◌∷◌, Ok, codes, refl, sym, false}
use Rattle.wac_component.proofs.Computing.{read}
use Rattle.wac_component.proofs.samples.Reexport.{reexport_bytes}
use Rattle.wac_component.proofs.component_types.Terms.{no_module_type, at, component_eq, instance_eq}
use Rattle.wac_component.proofs.component_types.Equal.{got, IsTypeOfBytes, idx_nil, idx_cons, func_eq, n1, n2}
use Rattle.wac_types_shapes.specs.primitives.Tree.{imported, exported, named, Leaf, Tree, absent, resource, own, function, instance, component, fresh, type_equal, function_item, instance_item}
use Rattle.wac_binary.specs.Unfold.{type_at}
use Rattle.wac_component.specs.Parts.{Parts}
use Rattle.wac_component.specs.Reading.{parts_of}
use Rattle.wac_component.specs.Context.{empty_context, items_named, after_parts}
use Rattle.wac_component.specs.ResourceNames.{component_type}

abbrev reexport_parts : Parts
unfolding read
reexport_parts = got (parts_of reexport_bytes)

abbrev pub reexport_tree : Tree
reexport_tree = (component (items_named (((codes "n:p/i"), (instance_item (instance (items_named (((codes "f"), (function_item (function false ((codes "x") ∷ []) (type_at ((own (at exported 0 (named (codes "r") ∷ []))) ∷ [])) absent))) ∷ ((codes "r"), fresh) ∷ []))))) ∷ [])) (items_named (((codes "n:p/i"), (instance_item (instance (items_named (((codes "f"), (function_item (function false ((codes "x") ∷ []) (type_at ((own (at imported 1 (named (codes "n:p/i") ∷ named (codes "r") ∷ []))) ∷ [])) absent))) ∷ ((codes "r"), (type_equal (resource (at imported 1 (named (codes "n:p/i") ∷ named (codes "r") ∷ []))))) ∷ []))))) ∷ ((codes "r"), (type_equal (resource (at imported 0 (named (codes "n:p/i") ∷ named (codes "r") ∷ []))))) ∷ [])))

reexport_read : parts_of reexport_bytes ≡ Ok reexport_parts
unfolding read
reexport_read = refl

reexport_typed : (z : Leaf) → component_type z ((named (codes "n:p/i") ∷ named (codes "r") ∷ []) ∷ (named (codes "r") ∷ []) ∷ []) (after_parts no_module_type reexport_parts empty_context []) ≡ reexport_tree
unfolding read
reexport_typed z = component_eq (n1 (codes "n:p/i") (instance_eq (n2 (codes "f") (codes "r") (func_eq (idx_cons ([]) refl (idx_nil (λ i. refl))) refl) refl (λ n h0 h1. rw (h0, h1) refl))) (λ n h0. rw h0 refl)) (n2 (codes "n:p/i") (codes "r") (instance_eq (n2 (codes "f") (codes "r") (func_eq (idx_cons ([]) refl (idx_nil (λ i. refl))) refl) refl (λ n h0 h1. rw (h0, h1) refl))) refl (λ n h0 h1. rw (h0, h1) refl))

pub reexport_is : IsTypeOfBytes reexport_bytes reexport_tree
reexport_is = (reexport_parts, reexport_read, (((named (codes "n:p/i") ∷ named (codes "r") ∷ []) ∷ (named (codes "r") ∷ []) ∷ []), λ z. sym (reexport_typed z)))
