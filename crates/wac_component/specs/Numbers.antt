-- Numbers, names, vectors and optional parts.
use Rattle.std.specs.Prelude.{ℕ, zero, suc, ◌+◌, ◌*◌, ◌%◌, List, [], ◌∷◌, Bool, true, false, Option, Some, None, ltb, if◌then◌else◌}
use Rattle.std.specs.Str.{is_utf8}
use Rattle.wac_component.specs.declared.fault.TextFault.TheVariants.{LongNumber, NotUtf8, UnknownByte, Unsupported}
use Rattle.wac_component.specs.declared.fault.Feature.TheVariants.{NameForm}
use Rattle.wac_types_shapes.specs.primitives.Name.{Name}
use Rattle.wac_component.specs.Reader.{Reader, done, fails, ◌>>=◌, made, byte, chosen, one_of, one_in, all_at}

-- A number in LEB128, not only in its shortest form. At most k bytes precede the last one, which is below `limit`, and below `last` if k bytes precede it.
-- A last byte from `limit` on stands for a negative number.
unfoldable pub leb_at : (limit last : ℕ) → ℕ → Reader ℕ
leb_at limit last zero = do
  b ← byte
  if ltb b last then done b else fails LongNumber
leb_at limit last (suc k) = do
  b ← byte
  if ltb b 128 then (if ltb b limit then done b else fails UnknownByte) else made (λ n. b % 128 + 128 * n) (leb_at limit last k)

-- `u32`: at most five bytes, of which the fifth has four bits.
unfoldable pub number_at : Reader ℕ
number_at = leb_at 128 16 4

-- `u64`: at most ten bytes, of which the tenth has one bit.
unfoldable pub number64_at : Reader ℕ
number64_at = leb_at 128 2 9

-- `s33` that is not negative: bit 6 of the last byte is the sign.
unfoldable pub signed_at : Reader ℕ
signed_at = leb_at 64 16 4

-- This many bytes.
unfoldable pub bytes_at : ℕ → Reader (List ℕ)
bytes_at n = all_at byte n

-- A size, and the bytes of that size.
unfoldable pub sized_at : Reader (List ℕ)
sized_at = do
  n ← number_at
  bytes_at n

-- A name: its size, and its bytes, which are UTF-8 (`core:name`, `label'`).
unfoldable pub name_at : Reader Name
name_at = do
  name ← sized_at
  if is_utf8 name then done name else fails NotUtf8

-- The name of an import or export (`importname'`, `exportname'`): the forms 00 and 01 mean the same, all others are left out.
unfoldable pub extern_name_at : Reader Name
extern_name_at = do
  b ← byte
  chosen (fails (Unsupported NameForm)) ((0, name_at) ∷ (1, name_at) ∷ []) b

-- `vec`
unfoldable pub vector_at : {A : Type 0} → Reader A → Reader (List A)
vector_at r = do
  n ← number_at
  all_at r n

-- `?`
unfoldable pub optional_at : {A : Type 0} → Reader A → Reader (Option A)
optional_at r = one_of ((0, done None) ∷ (1, made Some r) ∷ [])

unfoldable pub flag_at : Reader Bool
flag_at = one_in ((0, false) ∷ (1, true) ∷ [])
