-- The resources of a collection that a state binds, or those that it does not bind; private functions alone cite this.
use Rattle.std.specs.Prelude.{ℕ, ◌≡◌, ◌<◌, ◌⊎◌, ◌↔◌, Bool, true, List, Contains, is_some}
use Rattle.wac_types_shapes.specs.declared.shapes.component.ResourceId.{ResourceId}
use Rattle.wac_types_shapes.specs.declared.shapes.component.«Type».TheVariants as ty
use Rattle.wac_types_collection.specs.collection.Collection.{Collection, holds_type}
use Rattle.wac_types_collection.specs.collection.Bound.{Bindings}
use Rattle.wac_encode.specs.declared.state.State.{State}
use Rattle.wac_encode.specs.Root.{IsStateFor}

-- The resource is bound if is_bound, or else it is not.
abbrev pub HasBinding : Bindings → Bool → ResourceId → Type 0
HasBinding m is_bound r = is_some (m r) ≡ is_bound

-- The answer is whether the resource is bound so.
abbrev pub SaysBinding : Bool → Bool → State → ResourceId → Bool → Type 0
SaysBinding b is_bound s r answer = (c : Collection) (m : Bindings) → IsStateFor c b m s → (answer ≡ true) ↔ HasBinding m is_bound r

-- The resource is added if it is bound so.
abbrev pub AddsIf : Bool → Bool → State → ResourceId → List ResourceId → List ResourceId → Type 0
AddsIf b is_bound s q old new = (c : Collection) (m : Bindings) → IsStateFor c b m s → (r : ResourceId) → Contains new r ↔ (Contains old r ⊎ ((r ≡ q) × HasBinding m is_bound r))

-- These are the resources with an id below n that are bound so. They are of the collection.
pub record AreBelow (types : Collection) (b is_bound : Bool) (s : State) (n : ℕ) (found : List ResourceId) : Type 0 where
  pub held : (r : ResourceId) → r.0 < n → holds_type types (ty.Resource r) ≡ true
  pub are : (c : Collection) (m : Bindings) → IsStateFor c b m s → (r : ResourceId) → Contains found r ↔ ((r.0 < n) × HasBinding m is_bound r)

-- These are the resources of the collection that are bound so.
abbrev pub AreBoundAs : Collection → Bool → Bool → State → List ResourceId → Type 0
AreBoundAs types b is_bound s found = (c : Collection) (m : Bindings) → IsStateFor c b m s → (r : ResourceId) → Contains found r ↔ ((holds_type types (ty.Resource r) ≡ true) × HasBinding m is_bound r)
