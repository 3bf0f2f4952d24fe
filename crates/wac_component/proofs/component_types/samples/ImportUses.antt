-- import-uses.wasm: read from its bytes, it has this type.
use Rattle.std.proofs.Common.{◌≡◌, ℕ, List, [], ◌∷◌, Ok, codes, refl, sym, false}
use Rattle.wac_component.proofs.Computing.{read}
use Rattle.wac_component.proofs.component_types.Terms.{no_module_type, at, component_eq, instance_eq}
use Rattle.wac_component.proofs.component_types.Equal.{got, IsTypeOfBytes, idx_nil, idx_cons, func_eq, type_eq, record_eq, variant_eq, list_eq, result_eq, n1, n2, n4, n8}
use Rattle.wac_types_shapes.specs.primitives.Tree.{imported, exported, named, Leaf, Tree, absent, resource, primitive, own, borrow, record_of, variant_of, list_of, result_of, function, instance, component, fresh, type_equal, function_item, instance_item}
use Rattle.wac_binary.specs.Unfold.{type_at}
use Rattle.wac_component.specs.Parts.{Parts}
use Rattle.wac_component.specs.Reading.{parts_of}
use Rattle.wac_component.specs.Context.{empty_context, items_named, after_parts}
use Rattle.wac_component.specs.ResourceNames.{component_type}
use Rattle.wac_types_shapes.specs.declared.primitives.component.PrimitiveType.TheVariants as p

-- import-uses.wasm: 1411 bytes
abbrev import_uses_bytes : List ℕ
import_uses_bytes = (codes "\0asm\r\0\u{1}\0\u{7}á\u{1}\u{1}B\u{14}\u{1}s\u{4}\0\u{3}key\u{3}\0\0\u{1}p}\u{1}r\u{2}\u{3}key\u{1}\u{5}value\u{2}\u{4}\0\u{5}entry\u{3}\0\u{3}\u{1}q\u{2}\u{7}missing\0\0\u{5}other\u{1}s\0\u{4}\0\u{7}failure\u{3}\0\u{5}\u{4}\0\u{6}bucket\u{3}\u{1}\u{1}i\u{7}\u{1}@\u{1}\u{4}names\0\u{8}\u{4}\0\u{13}[constructor]bucket\u{1}\t\u{1}h\u{7}\u{1}j\u{1}\u{4}\u{1}\u{6}\u{1}@\u{2}\u{4}self\n\u{1}k\u{1}\0\u{b}\u{4}\0\u{12}[method]bucket.get\u{1}\u{c}\u{1}p\u{8}\u{1}@\0\0\r\u{4}\0\u{12}[static]bucket.all\u{1}\u{e}\u{1}@\u{1}\u{1}b\u{8}\u{1}\0\u{4}\0\u{8}drop-all\u{1}\u{f}\n\u{16}\u{1}\0\u{11}my:kv/store@1.2.0\u{5}\0\u{6}\u{14}\u{2}\u{3}\0\0\u{6}bucket\u{3}\0\0\u{5}entry\u{7}H\u{1}B\t\u{2}\u{3}\u{2}\u{1}\u{1}\u{4}\0\u{6}bucket\u{3}\0\0\u{2}\u{3}\u{2}\u{1}\u{2}\u{4}\0\u{2}e2\u{3}\0\u{2}\u{1}r\u{1}\u{1}e\u{3}\u{4}\0\u{5}fancy\u{3}\0\u{4}\u{1}h\u{1}\u{1}@\u{2}\u{1}b\u{6}\u{1}f\u{5}\u{1}\0\u{4}\0\u{3}put\u{1}\u{7}\n\u{16}\u{1}\0\u{11}my:kv/cache@1.0.0\u{5}\u{3}\u{1}Á\u{2}\0asm\u{1}\0\0\0\u{1}\u{16}\u{4}`\u{2}\u{7f}\u{7f}\0`\u{1}\u{7f}\u{1}\u{7f}`\u{4}\u{7f}\u{7f}\u{7f}\u{7f}\u{1}\u{7f}`\0\0\u{2}Ö\u{1}\u{6}\u{11}my:kv/store@1.2.0\u{13}[constructor]bucket\0\0\u{11}my:kv/store@1.2.0\u{12}[method]bucket.get\0\0\u{11}my:kv/store@1.2.0\u{12}[static]bucket.all\0\0\u{11}my:kv/store@1.2.0\u{8}drop-all\0\0\u{11}my:kv/store@1.2.0\u{15}[resource-drop]bucket\0\0\u{11}my:kv/cache@1.0.0\u{3}put\0\0\u{3}\u{4}\u{3}\u{1}\u{2}\u{3}\u{5}\u{3}\u{1}\0\u{1}\u{7},\u{4}\u{2}go\0\u{6}\u{c}cabi_realloc\0\u{7}\u{b}_initialize\0\u{8}\u{6}memory\u{2}\0\n\r\u{3}\u{3}\0\0\u{b}\u{3}\0\0\u{b}\u{3}\0\0\u{b}\u{1}X\0asm\u{1}\0\0\0\u{1}\u{6}\u{1}`\u{2}\u{7f}\u{7f}\0\u{3}\u{6}\u{5}\0\0\0\0\0\u{4}\u{5}\u{1}p\u{1}\u{5}\u{5}\u{7} \u{6}\u{1}0\0\0\u{1}1\0\u{1}\u{1}2\0\u{2}\u{1}3\0\u{3}\u{1}4\0\u{4}\u{8}$imports\u{1}\0\n\u{15}\u{5}\u{3}\0\0\u{b}\u{3}\0\0\u{b}\u{3}\0\0\u{b}\u{3}\0\0\u{b}\u{3}\0\0\u{b}\u{1}H\0asm\u{1}\0\0\0\u{1}\u{6}\u{1}`\u{2}\u{7f}\u{7f}\0\u{2})\u{6}\0\u{1}0\0\0\0\u{1}1\0\0\0\u{1}2\0\0\0\u{1}3\0\0\0\u{1}4\0\0\0\u{8}$imports\u{1}p\u{1}\u{5}\u{5}\t\u{b}\u{1}\0A\0\u{b}\u{5}\0\u{1}\u{2}\u{3}\u{4}\u{2}\u{4}\u{1}\0\u{1}\0\u{6}\u{19}\u{4}\0\0\u{1}\0\u{1}0\0\0\u{1}\0\u{1}1\0\0\u{1}\0\u{1}2\0\0\u{1}\0\u{1}3\u{8}\u{3}\u{1}\u{3}\u{1}\u{2}f\u{1}\u{1}\u{5}\u{13}[constructor]bucket\0\0\u{12}[method]bucket.get\0\u{1}\u{12}[static]bucket.all\0\u{2}\u{8}drop-all\0\u{3}\u{15}[resource-drop]bucket\0\u{4}\u{6}\u{7}\u{1}\0\0\u{1}\0\u{1}4\u{2}4\u{2}\u{1}\u{1}\u{3}put\0\u{5}\0\0\u{2}\u{11}my:kv/store@1.2.0\u{12}\u{1}\u{11}my:kv/cache@1.0.0\u{12}\u{2}\u{6}A\u{4}\0\u{2}\u{1}\u{3}\u{6}memory\0\0\u{1}\u{3}\u{c}cabi_realloc\0\u{1}\u{1}\0\u{8}$imports\u{1}\0\0\u{13}[constructor]bucket\u{8}\n\u{1}\u{1}\0\0\u{3}\u{3}\0\u{4}\u{6}\0\u{6}\u{17}\u{1}\u{1}\0\0\u{12}[method]bucket.get\u{8}\n\u{1}\u{1}\0\u{1}\u{3}\u{3}\0\u{4}\u{6}\0\u{6}\u{17}\u{1}\u{1}\0\0\u{12}[static]bucket.all\u{8}\n\u{1}\u{1}\0\u{2}\u{3}\u{3}\0\u{4}\u{6}\0\u{6}\r\u{1}\u{1}\0\0\u{8}drop-all\u{8}\n\u{1}\u{1}\0\u{3}\u{3}\u{3}\0\u{4}\u{6}\0\u{6}\u{8}\u{1}\u{1}\0\u{1}\u{3}put\u{8}\n\u{1}\u{1}\0\u{4}\u{3}\u{3}\0\u{4}\u{6}\0\u{2}(\u{2}\u{1}\u{6}\u{8}$imports\u{1}\0\u{1}0\0\u{7}\u{1}1\0\u{8}\u{1}2\0\t\u{1}3\0\n\u{1}4\0\u{b}\0\u{2}\u{1}\0\u{12}\u{4}\u{7}\n\u{2}ps@\u{1}\u{1}xy\0\u{4}\u{6}\u{8}\u{1}\0\0\u{1}\u{3}\u{2}go\u{8}\u{b}\u{1}\0\0\u{c}\u{3}\u{3}\0\u{4}\u{6}\0\u{5}\u{b}\u{8}\u{1}\0\u{2}go\u{1}\u{5}\0\0/\tproducers\u{1}\u{c}processed-by\u{1}\rwit-component\u{7}0.200.0")

abbrev import_uses_parts : Parts
unfolding read
import_uses_parts = got (parts_of import_uses_bytes)

abbrev pub import_uses_tree : Tree
import_uses_tree = (component (items_named (((codes "my:kv/cache@1.0.0"), (instance_item (instance (items_named (((codes "bucket"), (type_equal (resource (at imported 1 (named (codes "my:kv/store@1.2.0") ∷ named (codes "bucket") ∷ []))))) ∷ ((codes "e2"), (type_equal (record_of ((codes "key") ∷ (codes "value") ∷ []) (type_at ((primitive p.String) ∷ (list_of (primitive p.U8)) ∷ []))))) ∷ ((codes "fancy"), (type_equal (record_of ((codes "e") ∷ []) (type_at ((record_of ((codes "key") ∷ (codes "value") ∷ []) (type_at ((primitive p.String) ∷ (list_of (primitive p.U8)) ∷ []))) ∷ []))))) ∷ ((codes "put"), (function_item (function false ((codes "b") ∷ (codes "f") ∷ []) (type_at ((borrow (at imported 1 (named (codes "my:kv/store@1.2.0") ∷ named (codes "bucket") ∷ []))) ∷ (record_of ((codes "e") ∷ []) (type_at ((record_of ((codes "key") ∷ (codes "value") ∷ []) (type_at ((primitive p.String) ∷ (list_of (primitive p.U8)) ∷ []))) ∷ []))) ∷ [])) absent))) ∷ []))))) ∷ ((codes "my:kv/store@1.2.0"), (instance_item (instance (items_named (((codes "[constructor]bucket"), (function_item (function false ((codes "name") ∷ []) (type_at ((primitive p.String) ∷ [])) (own (at exported 0 (named (codes "bucket") ∷ [])))))) ∷ ((codes "[method]bucket.get"), (function_item (function false ((codes "self") ∷ (codes "k") ∷ []) (type_at ((borrow (at exported 0 (named (codes "bucket") ∷ []))) ∷ (primitive p.String) ∷ [])) (result_of (record_of ((codes "key") ∷ (codes "value") ∷ []) (type_at ((primitive p.String) ∷ (list_of (primitive p.U8)) ∷ []))) (variant_of ((codes "missing") ∷ (codes "other") ∷ []) (type_at (absent ∷ (primitive p.String) ∷ []))))))) ∷ ((codes "[static]bucket.all"), (function_item (function false ([]) (type_at ([])) (list_of (own (at exported 0 (named (codes "bucket") ∷ []))))))) ∷ ((codes "bucket"), fresh) ∷ ((codes "drop-all"), (function_item (function false ((codes "b") ∷ []) (type_at ((own (at exported 0 (named (codes "bucket") ∷ []))) ∷ [])) absent))) ∷ ((codes "entry"), (type_equal (record_of ((codes "key") ∷ (codes "value") ∷ []) (type_at ((primitive p.String) ∷ (list_of (primitive p.U8)) ∷ []))))) ∷ ((codes "failure"), (type_equal (variant_of ((codes "missing") ∷ (codes "other") ∷ []) (type_at (absent ∷ (primitive p.String) ∷ []))))) ∷ ((codes "key"), (type_equal (primitive p.String))) ∷ []))))) ∷ [])) (items_named (((codes "go"), (function_item (function false ((codes "x") ∷ []) (type_at ((primitive p.U32) ∷ [])) (list_of (primitive p.String))))) ∷ [])))

import_uses_read : parts_of import_uses_bytes ≡ Ok import_uses_parts
unfolding read
import_uses_read = refl

import_uses_typed : (z : Leaf) → component_type z ([]) (after_parts no_module_type import_uses_parts empty_context []) ≡ import_uses_tree
unfolding read
import_uses_typed z = component_eq (n2 (codes "my:kv/cache@1.0.0") (codes "my:kv/store@1.2.0") (instance_eq (n4 (codes "bucket") (codes "e2") (codes "fancy") (codes "put") refl (type_eq (record_eq (idx_cons ((list_of (primitive p.U8)) ∷ []) refl (idx_cons ([]) (list_eq refl) (idx_nil (λ i. refl)))))) (type_eq (record_eq (idx_cons ([]) (record_eq (idx_cons ((list_of (primitive p.U8)) ∷ []) refl (idx_cons ([]) (list_eq refl) (idx_nil (λ i. refl))))) (idx_nil (λ i. refl))))) (func_eq (idx_cons ((record_of ((codes "e") ∷ []) (type_at ((record_of ((codes "key") ∷ (codes "value") ∷ []) (type_at ((primitive p.String) ∷ (list_of (primitive p.U8)) ∷ []))) ∷ []))) ∷ []) refl (idx_cons ([]) (record_eq (idx_cons ([]) (record_eq (idx_cons ((list_of (primitive p.U8)) ∷ []) refl (idx_cons ([]) (list_eq refl) (idx_nil (λ i. refl))))) (idx_nil (λ i. refl)))) (idx_nil (λ i. refl)))) refl) (λ n h0 h1 h2 h3. rw (h0, h1, h2, h3) refl))) (instance_eq (n8 (codes "[constructor]bucket") (codes "[method]bucket.get") (codes "[static]bucket.all") (codes "bucket") (codes "drop-all") (codes "entry") (codes "failure") (codes "key") (func_eq (idx_cons ([]) refl (idx_nil (λ i. refl))) refl) (func_eq (idx_cons ((primitive p.String) ∷ []) refl (idx_cons ([]) refl (idx_nil (λ i. refl)))) (result_eq (record_eq (idx_cons ((list_of (primitive p.U8)) ∷ []) refl (idx_cons ([]) (list_eq refl) (idx_nil (λ i. refl))))) (variant_eq (idx_cons ((primitive p.String) ∷ []) refl (idx_cons ([]) refl (idx_nil (λ i. refl))))))) (func_eq (idx_nil (λ i. refl)) (list_eq refl)) refl (func_eq (idx_cons ([]) refl (idx_nil (λ i. refl))) refl) (type_eq (record_eq (idx_cons ((list_of (primitive p.U8)) ∷ []) refl (idx_cons ([]) (list_eq refl) (idx_nil (λ i. refl)))))) (type_eq (variant_eq (idx_cons ((primitive p.String) ∷ []) refl (idx_cons ([]) refl (idx_nil (λ i. refl)))))) (type_eq refl) (λ n h0 h1 h2 h3 h4 h5 h6 h7. rw (h0, h1, h2, h3, h4, h5, h6, h7) refl))) (λ n h0 h1. rw (h0, h1) refl)) (n1 (codes "go") (func_eq (idx_cons ([]) refl (idx_nil (λ i. refl))) (list_eq refl)) (λ n h0. rw h0 refl))

pub import_uses_is : IsTypeOfBytes import_uses_bytes import_uses_tree
import_uses_is = (import_uses_parts, import_uses_read, (([]), λ z. sym (import_uses_typed z)))
