-- Items that are appended to the root.
use Rattle.std.specs.Prelude.{◌≡◌, List, ◌++◌}
use Rattle.wac_binary.specs.Items.{Item}
use Rattle.wac_encode_scopes.specs.declared.state.State.{State}
use Rattle.wac_encode_scopes.specs.Lending.{with_items}
use Rattle.wac_encode_scopes.specs.Roots.{items_of}

-- Items are appended to the root, and nothing else changes.
abbrev pub AppendsItems : State → State → Type 0
AppendsItems old new = (more : List Item) × (new ≡ with_items old (items_of old.here.content ++ more))
