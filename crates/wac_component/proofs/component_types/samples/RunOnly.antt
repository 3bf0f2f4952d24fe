-- run-only.wasm: read from its bytes, it has this type.
use Rattle.std.proofs.Common.{◌≡◌, [], ◌∷◌, Ok, codes, refl, sym, false}
use Rattle.std.proofs.Math.Path.{fun_ext}
use Rattle.wac_component.proofs.Computing.{read}
use Rattle.wac_component.proofs.samples.RunOnly.{run_only_bytes}
use Rattle.wac_component.proofs.component_types.Terms.{no_module_type, component_eq, instance_eq}
use Rattle.wac_component.proofs.component_types.Equal.{got, IsTypeOfBytes, idx_nil, func_eq, result_eq, n1}
use Rattle.wac_types_shapes.specs.primitives.Tree.{Leaf, Tree, absent, result_of, function, instance, component, function_item, instance_item}
use Rattle.wac_binary.specs.Unfold.{type_at}
use Rattle.wac_component.specs.Parts.{Parts}
use Rattle.wac_component.specs.Reading.{parts_of}
use Rattle.wac_component.specs.Context.{empty_context, items_named, after_parts}
use Rattle.wac_component.specs.ResourceNames.{component_type}

abbrev run_only_parts : Parts
unfolding read
run_only_parts = got (parts_of run_only_bytes)

abbrev pub run_only_tree : Tree
run_only_tree = (component (items_named ([])) (items_named (((codes "wasi:cli/run@0.2.0"), (instance_item (instance (items_named (((codes "run"), (function_item (function false ([]) (type_at ([])) (result_of absent absent)))) ∷ []))))) ∷ [])))

run_only_read : parts_of run_only_bytes ≡ Ok run_only_parts
unfolding read
run_only_read = refl

run_only_typed : (z : Leaf) → component_type z ([]) (after_parts no_module_type run_only_parts empty_context []) ≡ run_only_tree
unfolding read
run_only_typed z = component_eq (fun_ext (λ n. refl)) (n1 (codes "wasi:cli/run@0.2.0") (instance_eq (n1 (codes "run") (func_eq (idx_nil (λ i. refl)) (result_eq refl refl)) (λ n h0. rw h0 refl))) (λ n h0. rw h0 refl))

pub run_only_is : IsTypeOfBytes run_only_bytes run_only_tree
run_only_is = (run_only_parts, run_only_read, (([]), λ z. sym (run_only_typed z)))
