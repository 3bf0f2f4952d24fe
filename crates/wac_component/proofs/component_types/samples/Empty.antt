-- empty.wasm: read from its bytes, it has this type.
use Rattle.std.proofs.Common.{◌≡◌, [], ◌∷◌, Ok, refl, sym}
use Rattle.std.proofs.Math.Path.{fun_ext}
use Rattle.wac_component.proofs.Computing.{read}
use Rattle.wac_component.proofs.samples.Empty.{empty_bytes}
use Rattle.wac_component.proofs.component_types.Terms.{no_module_type, component_eq}
use Rattle.wac_component.proofs.component_types.Equal.{got, IsTypeOfBytes}
use Rattle.wac_types_shapes.specs.primitives.Tree.{Leaf, Tree, component}
use Rattle.wac_component.specs.Parts.{Parts}
use Rattle.wac_component.specs.Reading.{parts_of}
use Rattle.wac_component.specs.Context.{empty_context, items_named, after_parts}
use Rattle.wac_component.specs.ResourceNames.{component_type}

abbrev empty_parts : Parts
unfolding read
empty_parts = got (parts_of empty_bytes)

abbrev pub empty_tree : Tree
empty_tree = (component (items_named ([])) (items_named ([])))

empty_read : parts_of empty_bytes ≡ Ok empty_parts
unfolding read
empty_read = refl

empty_typed : (z : Leaf) → component_type z ([]) (after_parts no_module_type empty_parts empty_context []) ≡ empty_tree
unfolding read
empty_typed z = component_eq (fun_ext (λ n. refl)) (fun_ext (λ n. refl))

pub empty_is : IsTypeOfBytes empty_bytes empty_tree
empty_is = (empty_parts, empty_read, (([]), λ z. sym (empty_typed z)))
