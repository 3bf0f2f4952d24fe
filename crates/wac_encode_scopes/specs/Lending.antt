-- The component that is written in the root, lent to a caller that appends items to it.
use Rattle.std.specs.Prelude.{◌≡◌, Bool, List, ◌∷◌, ◌++◌}
use Rattle.std.specs.Borrow.{Lends, MutBor, Fml}
use Rattle.wac_types_collection.specs.collection.Collection.{Collection}
use Rattle.wac_types_collection.specs.collection.Bound.{Bindings}
use Rattle.wac_binary.specs.Items.{Item}
use Rattle.wac_binary.specs.HasMeaning.{HasMeaning}
use Rattle.wac_binary.specs.contracts.builder.builder.ComponentBuilder.{the_row as builder_row}
use Rattle.wac_encode_scopes.specs.declared.encodable.Encodable.{Encodable}
use Rattle.wac_encode_scopes.specs.declared.encodable.Encodable.TheVariants.{Builder}
use Rattle.wac_encode_scopes.specs.declared.scope.Scope.{Scope}
use Rattle.wac_encode_scopes.specs.declared.state.State.{State}
use Rattle.wac_encode_scopes.specs.contracts.encodable.Encodable.{the_row as encodable_row}
use Rattle.wac_encode_scopes.specs.contracts.scope.Scope.{the_row as scope_row}
use Rattle.wac_encode_scopes.specs.contracts.state.State.{the_row as state_row}
use Rattle.wac_encode_scopes.specs.States.{stack}
use Rattle.wac_encode_stacks.specs.Good.{Good, Onward}

-- The scope with these items as its content; then the state whose innermost scope has them. All records are kept.
abbrev pub scope_with : Scope → List Item → Scope
scope_with s items = record s { content = Builder items }

abbrev pub with_items : State → List Item → State
with_items s items = record s { here = scope_with s.here items }

-- The content, the scope and the state end with the items that the borrower leaves.
abbrev pub LendsContent : MutBor Encodable → MutBor (List Item) → Fml
LendsContent x r = Lends encodable_row builder_row x r Builder

abbrev pub LendsScope : MutBor Scope → MutBor (List Item) → Fml
LendsScope x r = Lends scope_row builder_row x r (scope_with x.now)

abbrev pub LendsRoot : MutBor State → MutBor (List Item) → Fml
LendsRoot x r = Lends state_row builder_row x r (with_items x.now)

-- Items may be appended to the root if all items then have a meaning.
abbrev pub GoesOnLent : Type 0
GoesOnLent = (s : State) (items more : List Item) → s.here.content ≡ Builder items → HasMeaning (items ++ more)
    → (c : Collection) (b : Bool) (m : Bindings) (ms : List Bindings) → Good c (m ∷ ms) (stack b s) → Onward c (m ∷ ms) (stack b s) (stack b (with_items s (items ++ more)))
