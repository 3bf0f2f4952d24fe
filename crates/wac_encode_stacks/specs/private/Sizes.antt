-- The size of what is written in a scope.
use Rattle.std.specs.Prelude.{ℕ, ◌+◌, ◌≤◌, ◌<◌, ◌^◌, List, length}
use Rattle.std.specs.List.{flat_map, sum_by}
use Rattle.wac_binary.specs.Items.{Item}
use Rattle.wac_binary.specs.Bytes.{decl_bytes, item_bytes, bytes_of}
use Rattle.wac_binary.specs.Fits.{Fits, DeclarationsFit}
use Rattle.wac_encode_stacks.specs.Scopes.{Content, declarations, root}

-- The bytes of an item of the root, with at most 11 for the head of a section of its own.
abbrev pub item_size : Item → ℕ
item_size i = 11 + length (item_bytes i)

-- The size of a content: the bytes of declarations, or at least the bytes of the root's sections.
abbrev pub size_of : Content → ℕ
size_of (declarations ds) = length (flat_map decl_bytes ds)
size_of (root items) = sum_by item_size items

-- The content can be written: its sizes, counts and indexes fit in 32 bits.
abbrev pub ContentFits : Content → Type 0
ContentFits (declarations ds) = DeclarationsFit ds
ContentFits (root items) = Fits items

-- Items that fit have no more bytes than their size and the preamble.
abbrev pub BytesAreLess : Type 0
BytesAreLess = (items : List Item) → Fits items → length (bytes_of items) ≤ 8 + sum_by item_size items

-- A content of fewer than 2 ^ 32 bytes fits.
abbrev pub SmallFits : Type 0
SmallFits = (x : Content) → size_of x < 2 ^ 32 → ContentFits x
