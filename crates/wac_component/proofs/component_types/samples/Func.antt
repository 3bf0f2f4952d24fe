-- func.wasm: read from its bytes, it has this type.
use Rattle.std.proofs.Common.{◌≡◌, [], ◌∷◌, Ok, codes, refl, sym, false}
use Rattle.std.proofs.Math.Path.{fun_ext}
use Rattle.wac_component.proofs.Computing.{read}
use Rattle.wac_component.proofs.samples.Func.{func_bytes}
use Rattle.wac_component.proofs.component_types.Terms.{no_module_type, component_eq}
use Rattle.wac_component.proofs.component_types.Equal.{got, IsTypeOfBytes, idx_nil, func_eq, n1}
use Rattle.wac_types_shapes.specs.primitives.Tree.{Leaf, Tree, absent, function, component, function_item}
use Rattle.wac_binary.specs.Unfold.{type_at}
use Rattle.wac_component.specs.Parts.{Parts}
use Rattle.wac_component.specs.Reading.{parts_of}
use Rattle.wac_component.specs.Context.{empty_context, items_named, after_parts}
use Rattle.wac_component.specs.ResourceNames.{component_type}

abbrev func_parts : Parts
unfolding read
func_parts = got (parts_of func_bytes)

abbrev pub func_tree : Tree
func_tree = (component (items_named ([])) (items_named (((codes "run"), (function_item (function false ([]) (type_at ([])) absent))) ∷ [])))

func_read : parts_of func_bytes ≡ Ok func_parts
unfolding read
func_read = refl

func_typed : (z : Leaf) → component_type z ([]) (after_parts no_module_type func_parts empty_context []) ≡ func_tree
unfolding read
func_typed z = component_eq (fun_ext (λ n. refl)) (n1 (codes "run") (func_eq (idx_nil (λ i. refl)) refl) (λ n h0. rw h0 refl))

pub func_is : IsTypeOfBytes func_bytes func_tree
func_is = (func_parts, func_read, (([]), λ z. sym (func_typed z)))
