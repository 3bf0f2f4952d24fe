-- The component of a state, lent to a caller that appends items to it.
use Rattle.std.specs.Prelude.{Bool, List, ◌++◌}
use Rattle.std.specs.Borrow.{Lends, MutBor, Fml}
use Rattle.wac_types_collection.specs.collection.Collection.{Collection}
use Rattle.wac_types_collection.specs.collection.Bound.{Bindings}
use Rattle.wac_binary.specs.Items.{Item}
use Rattle.wac_binary.specs.HasMeaning.{HasMeaning}
use Rattle.wac_binary.specs.contracts.builder.builder.ComponentBuilder.{the_row as builder_row}
use Rattle.wac_encode_stacks.specs.Good.{Keeps}
use Rattle.wac_encode_scopes.specs.Lending.{with_items}
use Rattle.wac_encode.specs.declared.state.State.{State}
use Rattle.wac_encode.specs.contracts.state.State.{the_row as state_row}
use Rattle.wac_encode.specs.Root.{written_items, component_scope, IsStateFor}

-- The state with these items. All records are kept.
abbrev pub with_component : State → List Item → State
with_component s items = record s { scopes = with_items s.scopes items }

-- The state ends with the items that the borrower leaves.
abbrev pub LendsComponent : MutBor State → MutBor (List Item) → Fml
LendsComponent s r = Lends state_row builder_row s r (with_component s.now)

-- Items may be appended to the component if all items then have a meaning. Each index refers to what it referred to.
abbrev pub StaysWhenLent : Type 0
StaysWhenLent = (s : State) (more : List Item) (c : Collection) (b : Bool) (m : Bindings) → IsStateFor c b m s → HasMeaning (written_items s ++ more)
    → IsStateFor c b m (with_component s (written_items s ++ more)) × Keeps (component_scope s) (component_scope (with_component s (written_items s ++ more)))
