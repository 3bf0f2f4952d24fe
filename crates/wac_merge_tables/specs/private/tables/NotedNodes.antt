-- Lists and options recorded by the number of their part. Only contracts inside the merge cite this file.
use Rattle.std.specs.Prelude.{ℕ, ◌≡◌, List, Option, Some, slice_get}
use Rattle.wac_merge_tables.specs.private.tables.Nodes.{Node, IsTable, of_list, of_option}
use Rattle.wac_merge_tables.specs.private.tables.Numbers.{number_at}

-- The number recorded for a part is that of the node made of it.
abbrev pub AreOver : (ℕ → Node) → List Node → List (Option ℕ) → Type 0
AreOver over ns noted = (part i : ℕ) → number_at noted part ≡ Some i → slice_get ns i ≡ Some (over part)

-- A table, and the lists and options that are recorded.
pub record IsNoted (ns : List Node) (over_list over_option : List (Option ℕ)) : Type 0 where
  pub table : IsTable ns
  pub lists : AreOver of_list ns over_list
  pub options : AreOver of_option ns over_option
