-- Worked examples: which items are in the format.
use Rattle.std.specs.Prelude.{◌≡◌, ◌^◌, true, false, List, [], ◌∷◌, ◌++◌}
use Rattle.std.proofs.Common.{sym, ◌∙◌, refl, arith}
use Rattle.std.proofs.lemmas.Bool.{false≢true}
use Rattle.std.specs.Str.{chars, is_utf8}
use Rattle.std.specs.Char.{encode_utf8}
use Rattle.wac_types_shapes.specs.declared.primitives.component.PrimitiveType.TheVariants.{Bool}
use Rattle.wac_binary.specs.declared.sorts.Sort.TheVariants as s
use Rattle.wac_binary.specs.declared.types.ComponentValType.TheVariants.{Primitive}
use Rattle.wac_binary.specs.Leb.{groups, leb}
use Rattle.wac_binary.specs.Bytes.{preamble, bytes_of}
use Rattle.wac_binary.specs.Items.{Item, nested, instantiate, alias_item, export_alias, type_item, value_def, enum_def, fixed_list_def}
use Rattle.wac_binary.specs.Format.{IsText, AreBytes, AreInFormat}

-- an enum whose label is the byte ff
abbrev enum_of_ff : List Item
enum_of_ff = type_item (value_def (enum_def ((0xff ∷ []) ∷ []))) ∷ []

enum_of_ff_bytes : bytes_of enum_of_ff ≡ preamble ++ (0x07 ∷ 0x05 ∷ 0x01 ∷ 0x6d ∷ 0x01 ∷ 0x01 ∷ 0xff ∷ [])
unfolding groups leb bytes_of
enum_of_ff_bytes = refl

not_utf8 : is_utf8 (0xff ∷ []) ≡ false
unfolding is_utf8 chars encode_utf8
not_utf8 = refl

pub no_label_that_is_not_utf8 : AreInFormat enum_of_ff → ⊥
no_label_that_is_not_utf8 valid = false≢true (sym not_utf8 ∙ valid.0.0)

-- a list of 2 ^ 40 elements, whose bytes are 67 7f 80 80 80 80 80 20
abbrev long_list : List Item
long_list = type_item (value_def (fixed_list_def (Primitive Bool) (2 ^ 40))) ∷ []

pub no_size_of_more_than_32_bits : AreInFormat long_list → ⊥
no_size_of_more_than_32_bits valid = let small = valid.0.1 in absurd (omega (arith, small))

-- two packages, an instance of the first, its `a` given to the second as `b`
abbrev readme : List Item
readme = nested preamble ∷ instantiate 0 [] ∷ alias_item (export_alias s.Func 0 (97 ∷ [])) ∷ nested preamble ∷ instantiate 1 ((98 ∷ [], s.Func, 0) ∷ []) ∷ []

text_a : IsText (97 ∷ [])
unfolding is_utf8 chars encode_utf8
text_a = refl

text_b : IsText (98 ∷ [])
unfolding is_utf8 chars encode_utf8
text_b = refl

pub readme_in_format : AreInFormat readme
readme_in_format =
    let bytes : AreBytes preamble = (omega arith, (omega arith, (omega arith, (omega arith, (omega arith, (omega arith, (omega arith, (omega arith, tt)))))))) in
    (bytes, ((omega arith, tt), ((omega arith, text_a), (bytes, ((omega arith, ((text_b, omega arith), tt)), tt)))))
