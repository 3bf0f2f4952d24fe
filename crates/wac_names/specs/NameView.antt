-- The definition that the Rust type of names represents.
use Rattle.std.specs.Prelude.{ℕ, List}
use Rattle.wac_names.specs.Name.{Name}
use Rattle.wac_names.specs.Views.{kind_view}
use Rattle.wac_names.specs.declared.name.ComponentName.{ComponentName}

-- The text and the kind of a name, as bytes.
abbrev pub name_view : ComponentName → Name
name_view n = record { text = n.text.now; kind = kind_view n.kind }

-- The text of a name.
abbrev pub text_of : ComponentName → List ℕ
text_of n = n.text.now
