use Rattle.std.proofs.Common.{◌≡◌, ℕ, ◌<◌, take}
use Rattle.wac_names.specs.validation.Valid.{IsName, at}
use Rattle.wac_names.specs.private.validation.Views.{name_texts, texts}
use Rattle.wac_names.proofs.validation.naming.names_of.Given as goal

abbrev pub invariant-loop-text : goal.invariant-loop-text
invariant-loop-text l =
    (name_texts l.names.items ≡ texts (take l.text-index l.written))
    × ((k : ℕ) → k < l.text-index → IsName (at (texts l.written) k))
