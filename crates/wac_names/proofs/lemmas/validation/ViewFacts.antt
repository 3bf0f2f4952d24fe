-- The texts at positions of lists of the code.
use Rattle.std.proofs.Common.{◌≡◌, ℕ, ◌<◌, List, [], length, slice_index_or, sym, ap, ◌∙◌}
use Rattle.std.proofs.lemmas.List.{get_or-map, length-map}
use Rattle.std.specs.Borrow.{Bor}
use Rattle.wac_names.specs.NameView.{text_of}
use Rattle.wac_names.specs.declared.name.ComponentName.{ComponentName}
use Rattle.wac_names.specs.validation.Valid.{Text, at}
use Rattle.wac_names.specs.private.validation.Views.{name_texts, texts}

pub at-texts : (written : List (Bor Text)) (i : ℕ) (t : Bor Text) → i < length written → at (texts written) i ≡ (slice_index_or written i t).now
at-texts written i t h = get_or-map (λ (x : Bor Text). x.now) written i t [] h

pub at-names : (names : List ComponentName) (i : ℕ) (n : ComponentName) → i < length names → n ≡ slice_index_or names i n → at (name_texts names) i ≡ text_of n
at-names names i n h e = get_or-map text_of names i n [] h ∙ ap text_of (sym e)

pub length-texts : (written : List (Bor Text)) → length (texts written) ≡ length written
length-texts written = length-map written (λ (x : Bor Text). x.now)

pub length-names : (names : List ComponentName) → length (name_texts names) ≡ length names
length-names names = length-map names text_of
