-- padded.wasm: read from its bytes, it has this type.
use Rattle.std.proofs.Common.{◌≡◌, [], ◌∷◌, Ok, codes, refl, sym, false}
use Rattle.std.proofs.Math.Path.{fun_ext}
use Rattle.wac_component.proofs.Computing.{read}
use Rattle.wac_component.proofs.samples.Padded.{padded_bytes}
use Rattle.wac_component.proofs.component_types.Terms.{no_module_type, component_eq}
use Rattle.wac_component.proofs.component_types.Equal.{got, IsTypeOfBytes, idx_nil, func_eq, n1}
use Rattle.wac_types_shapes.specs.primitives.Tree.{Leaf, Tree, absent, function, component, function_item}
use Rattle.wac_binary.specs.Unfold.{type_at}
use Rattle.wac_component.specs.Parts.{Parts}
use Rattle.wac_component.specs.Reading.{parts_of}
use Rattle.wac_component.specs.Context.{empty_context, items_named, after_parts}
use Rattle.wac_component.specs.ResourceNames.{component_type}

abbrev padded_parts : Parts
unfolding read
padded_parts = got (parts_of padded_bytes)

abbrev pub padded_tree : Tree
padded_tree = (component (items_named (((codes "x"), (function_item (function false ([]) (type_at ([])) absent))) ∷ [])) (items_named ([])))

padded_read : parts_of padded_bytes ≡ Ok padded_parts
unfolding read
padded_read = refl

padded_typed : (z : Leaf) → component_type z ([]) (after_parts no_module_type padded_parts empty_context []) ≡ padded_tree
unfolding read
padded_typed z = component_eq (n1 (codes "x") (func_eq (idx_nil (λ i. refl)) refl) (λ n h0. rw h0 refl)) (fun_ext (λ n. refl))

pub padded_is : IsTypeOfBytes padded_bytes padded_tree
padded_is = (padded_parts, padded_read, (([]), λ z. sym (padded_typed z)))
