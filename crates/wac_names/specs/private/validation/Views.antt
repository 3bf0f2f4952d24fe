-- The texts that Rust values represent.
use Rattle.std.specs.Prelude.{List, map}
use Rattle.std.specs.Borrow.{Bor}
use Rattle.wac_names.specs.NameView.{text_of}
use Rattle.wac_names.specs.declared.name.ComponentName.{ComponentName}
use Rattle.wac_names.specs.validation.Valid.{Text}

-- The texts that borrowed texts represent.
abbrev pub texts : List (Bor Text) → List Text
texts names = map (λ name. name.now) names

-- The texts of names.
abbrev pub name_texts : List ComponentName → List Text
name_texts names = map text_of names
