-- From bytes to the type: the component that imports an interface and exports it again, and its resource as a type.
use Rattle.std.proofs.Common.{◌≡◌, List, [], ◌∷◌, None, Ok, codes, refl, sym, false}
use Rattle.wac_component.proofs.component_types.Cases.{names1, names2}
use Rattle.wac_component.proofs.Computing.{read}
use Rattle.wac_component.proofs.samples.Reexport.{reexport_bytes}
use Rattle.wac_component.proofs.component_types.Terms.{no_module_type, context_after, at, component_eq, instance_eq, only_eq, with_resource, of_type, eqr, both, IsValid, import_nowhere, f, r, path, path2, alias_of}
use Rattle.wac_types_shapes.specs.primitives.Name.{Name}
use Rattle.wac_types_shapes.specs.primitives.Tree.{imported, exported, Leaf, Tree, component, fresh}
use Rattle.wac_binary.specs.Items.{instance_def, decls}
use Rattle.wac_component.specs.Parts.{Part, parts, type_part, import_part, export_part}
use Rattle.wac_component.specs.Reading.{parts_of}
use Rattle.wac_component.specs.Context.{items_named}
use Rattle.wac_component.specs.ResourceNames.{component_type}
use Rattle.wac_component.specs.ComponentType.{IsComponentOf}
use Rattle.wac_component.specs.Valid.{IsValidComponent}
use Rattle.wac_binary.specs.declared.sorts.Sort.TheVariants as s
use Rattle.wac_binary.specs.declared.sorts.Description.TheVariants as e

abbrev ni : Name
ni = codes "n:p/i"

abbrev pub real : List Part
real = type_part (instance_def (decls with_resource)) ∷ import_part ni (e.Instance 0) ∷ export_part ni s.Instance 0 None ∷ alias_of of_type 0 r ∷ export_part r of_type 1 None ∷ []

pub bytes_read : parts_of reexport_bytes ≡ Ok (parts real)
unfolding read
bytes_read = refl

abbrev pub real_tree : Tree
real_tree = component
    (items_named ((ni, both fresh (at exported 0 (path r))) ∷ []))
    (items_named ((ni, both (eqr imported 1 (path2 ni r)) (at imported 1 (path2 ni r))) ∷ (r, eqr imported 0 (path2 ni r)) ∷ []))

real_typed : (z : Leaf) → component_type z [] (context_after real) ≡ real_tree
real_typed z = component_eq
    (names1 ni (instance_eq (names2 r f refl (only_eq refl (λ k. refl)) (λ n h k. rw (k, h) refl))) (λ n h. rw h refl))
    (names2 ni r (instance_eq (names2 r f refl (only_eq refl (λ k. refl)) (λ n h k. rw (k, h) refl))) refl (λ n h k. rw (h, k) refl))

real_valid : IsValid real
real_valid = assumption import_nowhere

pub real_is : IsComponentOf no_module_type reexport_bytes real_tree
real_is = (parts real, bytes_read, real_valid, ([], λ z. sym (real_typed z)))

pub real_valid_component : IsValidComponent no_module_type (parts real)
real_valid_component = (real_valid, (real_tree, ([], λ z. sym (real_typed z))))
