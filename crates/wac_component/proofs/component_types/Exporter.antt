-- A component in the manner of wit-component, from its bytes to its type: an interface with a resource is exported.
use Rattle.std.proofs.Common.{◌≡◌, ℕ, suc, List, [], ◌∷◌, Ok, codes, refl, sym, arith, ◌∙◌, false}
use Rattle.wac_component.proofs.component_types.Cases.{names1, names2}
use Rattle.wac_component.proofs.Computing.{read}
use Rattle.wac_component.proofs.component_types.Equal.{got}
use Rattle.wac_component.proofs.component_types.Terms.{no_module_type, at, component_eq, instance_eq, only_eq, eqr, both, has_type, args2, fits_eq, fn, f, r, path, path2}
use Rattle.wac_types_shapes.specs.primitives.Name.{Name}
use Rattle.wac_types_shapes.specs.primitives.Tree.{imported, exported, position, Leaf, Tree, absent, own, function, function_item, component, fresh}
use Rattle.wac_component.specs.Reading.{parts_of}
use Rattle.wac_component.specs.ResourceNames.{component_type}
use Rattle.wac_component.specs.ComponentType.{IsComponentOf}
use Rattle.wac_component.specs.Parts.{Parts, nothing, more, component_part}
use Rattle.wac_component.specs.Context.{empty_context, items_named, after_parts}
use Rattle.wac_component.specs.Valid.{PartsAreValid, HasComponentType}
use Rattle.wac_component.specs.ItemSubtype.{same}

abbrev ni : Name
ni = codes "n:p/i"

abbrev bytes : List ℕ
bytes = (codes "\0asm\r\0\u{1}\0\u{1}á\u{1}\0asm\u{1}\0\0\0\u{1}\u{11}\u{3}`\u{1}\u{7f}\u{1}\u{7f}`\u{4}\u{7f}\u{7f}\u{7f}\u{7f}\u{1}\u{7f}`\0\0\u{2}b\u{3}\r[export]n:p/i\u{f}[resource-new]r\0\0\r[export]n:p/i\u{f}[resource-rep]r\0\0\r[export]n:p/i\u{10}[resource-drop]r\0\0\u{3}\u{5}\u{4}\0\0\u{1}\u{2}\u{5}\u{3}\u{1}\0\u{1}\u{7}A\u{5}\u{7}n:p/i#f\0\u{3}\rn:p/i#[dtor]r\0\u{4}\u{c}cabi_realloc\0\u{5}\u{b}_initialize\0\u{6}\u{6}memory\u{2}\0\n\u{11}\u{4}\u{3}\0\0\u{b}\u{3}\0\0\u{b}\u{3}\0\0\u{b}\u{3}\0\0\u{b}\u{1}4\0asm\u{1}\0\0\0\u{1}\u{6}\u{1}`\u{2}\u{7f}\u{7f}\0\u{3}\u{2}\u{1}\0\u{4}\u{5}\u{1}p\u{1}\u{1}\u{1}\u{7}\u{10}\u{2}\u{1}0\0\0\u{8}$imports\u{1}\0\n\u{5}\u{1}\u{3}\0\0\u{b}\u{1}0\0asm\u{1}\0\0\0\u{1}\u{6}\u{1}`\u{2}\u{7f}\u{7f}\0\u{2}\u{15}\u{2}\0\u{1}0\0\0\0\u{8}$imports\u{1}p\u{1}\u{1}\u{1}\t\u{7}\u{1}\0A\0\u{b}\u{1}\0\u{2}\u{4}\u{1}\0\u{1}\0\u{6}\u{7}\u{1}\0\0\u{1}\0\u{1}0\u{7}\u{5}\u{1}?\u{7f}\u{1}\0\u{8}\u{7}\u{3}\u{2}\0\u{4}\0\u{3}\0\u{2}M\u{2}\u{1}\u{3}\u{f}[resource-new]r\0\u{1}\u{f}[resource-rep]r\0\u{2}\u{10}[resource-drop]r\0\u{3}\0\0\u{1}\r[export]n:p/i\u{12}\u{1}\u{6}<\u{4}\0\u{2}\u{1}\u{2}\u{6}memory\0\0\u{1}\u{2}\u{c}cabi_realloc\0\u{1}\u{1}\0\u{8}$imports\0\0\u{1}\u{2}\rn:p/i#[dtor]r\u{2}\u{18}\u{2}\u{1}\u{2}\u{8}$imports\u{1}\0\u{1}0\0\u{5}\0\u{2}\u{1}\0\u{12}\u{3}\u{7}\n\u{2}i\0@\u{1}\u{1}x\u{1}\u{1}\0\u{6}\r\u{1}\0\0\u{1}\u{2}\u{7}n:p/i#f\u{8}\u{b}\u{1}\0\0\u{6}\u{3}\u{3}\0\u{4}\u{4}\0\u{2}\u{4}\\\0asm\r\0\u{1}\0\n\u{12}\u{1}\0\rimport-type-r\u{3}\u{1}\u{7}\n\u{2}i\0@\u{1}\u{1}x\u{1}\u{1}\0\n\u{12}\u{1}\0\rimport-func-f\u{1}\u{2}\u{b}\u{7}\u{1}\0\u{1}r\u{3}\0\0\u{7}\n\u{2}i\u{3}@\u{1}\u{1}x\u{4}\u{1}\0\u{b}\t\u{1}\0\u{1}f\u{1}\0\u{1}\u{1}\u{5}\u{5}$\u{1}\0\0\u{2}\rimport-func-f\u{1}\0\rimport-type-r\u{3}\0\u{b}\u{b}\u{1}\0\u{5}n:p/i\u{5}\0\0\0/\tproducers\u{1}\u{c}processed-by\u{1}\rwit-component\u{7}0.200.0")

abbrev pub wit : Parts
unfolding read
wit = got (parts_of bytes)

pub bytes_read : parts_of bytes ≡ Ok wit
unfolding read
bytes_read = refl

abbrev pub wit_tree : Tree
wit_tree = component (λ n. absent) (items_named ((ni, both fresh (at exported 0 (path r))) ∷ []))

wit_typed : (z : Leaf) → component_type z (path2 ni r ∷ []) (after_parts no_module_type wit empty_context []) ≡ wit_tree
unfolding read
wit_typed z = component_eq refl (names1 ni (instance_eq (names2 r f refl (only_eq refl (λ k. refl)) (λ n h k. rw (k, h) refl))) (λ n h. rw h refl))

abbrev it : Name
it = codes "import-type-r"

abbrev fu : Name
fu = codes "import-func-f"

-- The parts of the nested component.
abbrev nested_in : Parts → Parts
nested_in nothing = nothing
nested_in (more (component_part ps) rest) = ps
nested_in (more p rest) = nested_in rest

abbrev inner : Parts
unfolding read
inner = nested_in wit

-- A function over this resource is the same, however it was come by.
func_is : {g h : ℕ → Tree} (l : Leaf) → g 0 ≡ own l → ((k : ℕ) → g (suc k) ≡ absent) → h 0 ≡ own l → ((k : ℕ) → h (suc k) ≡ absent) → function_item (function false (codes "x" ∷ []) g absent) ≡ function_item (function false (codes "x" ∷ []) h absent)
func_is l p q o s = only_eq p q ∙ sym (only_eq o s)

inner_has : HasComponentType (after_parts no_module_type inner empty_context [])
unfolding read
inner_has = has_type (after_parts no_module_type inner empty_context []) [] ((r, eqr imported 0 (path it)) ∷ (f, fn (at imported 0 (path it))) ∷ []) (λ z. component_eq refl (names2 r f refl (only_eq refl (λ k. refl)) (λ n h k. rw (h, k) refl)))

inner_valid : PartsAreValid no_module_type inner empty_context []
unfolding read
inner_valid = (
  (refl, tt, refl),
  (
    assumption refl,
    (
      assumption refl,
      (
        (refl, tt, func_is (at imported 0 (path it)) refl (λ k. refl) refl (λ k. refl)),
        (
          (refl, tt, tt),
          (
            assumption refl,
            (
              assumption refl,
              (
                (refl, tt, (tt, fits_eq _ _ (func_is (at imported 0 (path it)) refl (λ k. refl) refl (λ k. refl)))),
                tt,
              ),
            ),
          ),
        ),
      ),
    ),
  ),
)

wit_valid : PartsAreValid no_module_type wit empty_context []
unfolding read
wit_valid = (
  tt,
  (
    tt,
    (
      tt,
      (
        omega arith,
        (
          omega arith,
          (
            omega arith,
            (
              assumption refl,
              (
                assumption refl,
                (
                  assumption refl,
                  (
                    omega arith,
                    (
                      omega arith,
                      (
                        omega arith,
                        (
                          omega arith,
                          (
                            omega arith,
                            (
                              omega arith,
                              (
                                omega arith,
                                (
                                  omega arith,
                                  (
                                    assumption refl,
                                    (
                                      assumption refl,
                                      (
                                        omega arith,
                                        (
                                          (omega arith, omega arith, tt),
                                          (
                                            (inner_valid, inner_has),
                                            (
                                              ((tt, refl, (tt, refl, tt)), args2 _ _ it fu (same (eqr exported 0 (position 5 ∷ []))) (fits_eq _ _ (func_is (at exported 0 (position 5 ∷ [])) refl (λ k. refl) refl (λ k. refl))) (λ n h k. rw (h, k) refl)),
                                              ((refl, tt, tt), (tt, tt)),
                                            ),
                                          ),
                                        ),
                                      ),
                                    ),
                                  ),
                                ),
                              ),
                            ),
                          ),
                        ),
                      ),
                    ),
                  ),
                ),
              ),
            ),
          ),
        ),
      ),
    ),
  ),
)

pub wit_is : IsComponentOf no_module_type bytes wit_tree
wit_is = (wit, bytes_read, wit_valid, (path2 ni r ∷ [], λ z. sym (wit_typed z)))
