-- Whether the entries of each class agree.
use Rattle.std.specs.Prelude.{ℕ, List}
use Rattle.wac_types_collection.specs.collection.Collection.{Collection}
use Rattle.wac_merge_classes.specs.entries.Agreement.{IsDisagreement}
use Rattle.wac_merge_classes.specs.entries.Classes.{Entry, NameRules}

-- No entry disagrees with an earlier entry of its class.
abbrev pub HasNoDisagreement : NameRules → Collection → List Entry → Type 0
HasNoDisagreement rules c es = (i j : ℕ) → IsDisagreement rules c es i j → ⊥
