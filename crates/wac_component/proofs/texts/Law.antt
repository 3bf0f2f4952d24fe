-- What is written is read: the bytes of items are read as the parts of the items.
use Rattle.std.proofs.Common.{◌≡◌, ℕ, suc, List, [], ◌∷◌, ◌++◌, length, Ok, refl, ap, ◌∙◌, arith}
use Rattle.std.specs.List.{AllByRecursion, flat_map}
use Rattle.wac_binary.specs.Items.{Item}
use Rattle.wac_binary.specs.Bytes.{sections, section_bytes, bytes_of, preamble}
use Rattle.wac_binary.specs.Fits.{SectionFits, Fits}
use Rattle.wac_binary.specs.Format.{AreInFormat}
use Rattle.wac_component.specs.Parts.{Part, parts}
use Rattle.wac_component.specs.Reader.{elements}
use Rattle.wac_component.specs.Reading.{section_at, preamble_at, parts_at, parts_of}
use Rattle.wac_component.specs.Reading.{sections as tables}
use Rattle.wac_component.specs.Written.{ReadsWithin}
use Rattle.wac_component.proofs.texts.Sections.{AllRead, read_none, holds_alone, sections_again}

all_read : (depth : ℕ) (items : List Item) (ps : List Part) → AllByRecursion SectionFits (sections items) → AreInFormat items → ReadsWithin depth items ps → AllRead depth (sections items) ps
all_read depth [] [] f h w = read_none depth
all_read depth [] (p ∷ ps) f h w = absurd w
all_read depth (i ∷ items) [] f h w = absurd w
all_read depth (i ∷ items) (p ∷ ps) f h w = sections_again depth _ (p ∷ []) items ps (holds_alone depth i p h.0 w.0) h.1 w.1 f

component_again : (depth : ℕ) (bytes : List ℕ) (found : List (List Part)) → elements (section_at (tables depth (parts_at depth))) (length bytes) bytes ≡ Ok (found, []) → parts_at (suc depth) (preamble ++ bytes) ≡ Ok (parts (flat_map (λ qs. qs) found))
unfolding parts_at preamble_at
component_again depth bytes found e = rw e refl

-- The bytes of items that fit and are in the format are read as the parts of the items, if nested components are read,
-- and types are nested, at most `depth` deep.
pub written_is_read : (depth : ℕ) (items : List Item) (ps : List Part) → Fits items → AreInFormat items → ReadsWithin depth items ps → parts_at (suc depth) (bytes_of items) ≡ Ok (parts ps)
unfolding bytes_of
written_is_read depth items ps f h w =
    let a = all_read depth items ps f.sections_fit h w in
    component_again depth (flat_map section_bytes (sections items)) a.found (a.read (length (flat_map section_bytes (sections items))) (omega arith)) ∙ ap (λ (qs : List Part). Ok (parts qs)) a.all

-- The same at the depth to which components are read.
pub written_is_read_whole : (items : List Item) (ps : List Part) → Fits items → AreInFormat items → ReadsWithin 99 items ps → parts_of (bytes_of items) ≡ Ok (parts ps)
unfolding parts_of
written_is_read_whole items ps f h w = written_is_read 99 items ps f h w
