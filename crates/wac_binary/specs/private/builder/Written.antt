-- The list of items with given bytes, of which there is at most one.
use Rattle.std.specs.Prelude.{◌≡◌, ℕ, ◌<◌, List, ◌++◌, Option, slice_index}
use Rattle.std.specs.List.{flat_map}
use Rattle.std.specs.Coded.{Coded-set, coded_list, coded_ℕ}
use Rattle.std.proofs.Common.{sym, ◌∙◌}
use mathlib.Core.HLevel.{is_prop→PathP}
use Rattle.wac_binary.specs.Items.{Item}
use Rattle.wac_binary.specs.Bytes.{section_bytes, preamble, bytes_of}
use Rattle.wac_binary.specs.Indexes.{indexes}
use Rattle.wac_binary.specs.Fits.{Fits}
use Rattle.wac_binary.specs.Format.{AreInFormat}
use Rattle.wac_binary.specs.private.LastSection.{one, closed, open_section}
use Rattle.wac_binary.specs.private.sections.OpenSection.{section_of, begun}
use Rattle.wac_binary.specs.private.OneText.{one_reading}
use Rattle.wac_binary.specs.declared.sections.section.Open.{Open}

-- All bytes of a component that is being written, with its open section.
abbrev pub whole : List ℕ → Option Open → List ℕ → List ℕ
whole bytes open_one things = begun bytes ++ flat_map section_bytes (one (section_of open_one things))

-- The list of items with these bytes.
pub record Written (bytes : List ℕ) (open_one : Option Open) (things : List ℕ) : Type 0 where
  pub list : List Item
  pub text : bytes_of list ≡ whole bytes open_one things

pub Written_prop : (bytes : List ℕ) (open_one : Option Open) (things : List ℕ) → IsProp (Written bytes open_one things)
Written_prop bytes open_one things a b =
    let p : a.list ≡ b.list = one_reading a.list b.list (a.text ∙ sym b.text) in
    let q = is_prop→PathP (λ i. bytes_of (p i) ≡ whole bytes open_one things) (λ i. Coded-set (coded_list coded_ℕ) (bytes_of (p i)) (whole bytes open_one things)) a.text b.text in
    λ i. record { list = p i; text = q i }

pub items : {bytes : List ℕ} {open_one : Option Open} {things : List ℕ} → Written bytes open_one things → List Item
items w = w.list

pub items_are : {bytes : List ℕ} {open_one : Option Open} {things : List ℕ} (w : Written bytes open_one things) (xs : List Item) → bytes_of xs ≡ whole bytes open_one things → items w ≡ xs
unfolding items
items_are w xs h = one_reading w.list xs (w.text ∙ sym h)

pub text_is : {bytes : List ℕ} {open_one : Option Open} {things : List ℕ} (w : Written bytes open_one things) → bytes_of (items w) ≡ whole bytes open_one things
unfolding items
text_is w = w.text

-- The finished sections, the open section and the indexes of these items, which fit 32-bit sizes and are in the format.
pub record State (xs : List Item) (bytes things counts : List ℕ) (open_one : Option Open) : Type 0 where
  pub bytes_are : begun bytes ≡ preamble ++ flat_map section_bytes (closed xs)
  pub open_is : section_of open_one things ≡ open_section xs
  pub counted : (k : ℕ) → k < 7 → slice_index counts k ≡ indexes k xs
  pub fits : Fits xs
  pub in_format : AreInFormat xs
