-- Laws of what is paid, which the rooms above cite. Only contracts inside the encoder cite this file.
use Rattle.std.specs.Prelude.{ℕ, ◌≡◌, ◌+◌, ◌*◌, ◌≤◌, Bool, List, [], ◌∷◌, ◌++◌}
use Rattle.wac_types_shapes.specs.declared.shapes.component.«Type».{«Type» as AnyType}
use Rattle.wac_types_collection.specs.collection.Collection.{Collection}
use Rattle.wac_types_weight.specs.Text.{own_texts}
use Rattle.wac_encode_scopes.specs.declared.state.State.{State}
use Rattle.wac_encode_scopes.specs.Books.{opened}
use Rattle.wac_encode_scopes.specs.States.{Goes}
use Rattle.wac_encode_scopes.specs.private.Listing.{ClosesInto}
use Rattle.wac_encode_scopes.specs.private.Paid.{IsOpenType, MayEnclose, IsPriced, IsPaid, HasNoRoom, all_paid, total, rate}

-- Two calls cost what each costs; n may be more.
abbrev pub PaysBoth : Type 0
PaysBoth = (c : Collection) (b : Bool) (ts : List AnyType) (n k : ℕ) (s t u : State) → IsPaid c b ts n s t → IsPaid c b ts k t u → IsPaid c b ts (n + k) s u

abbrev pub NoRoomBefore : Type 0
NoRoomBefore = (c : Collection) (b : Bool) (ts : List AnyType) (n k : ℕ) (s t : State) → IsPaid c b ts n s t → HasNoRoom c b ts k t → HasNoRoom c b ts (n + k) s

abbrev pub PaysUpTo : Type 0
PaysUpTo = (c : Collection) (b : Bool) (ts : List AnyType) (n k : ℕ) (s t : State) → n ≤ k → IsPaid c b ts n s t → IsPaid c b ts k s t

abbrev pub NoRoomUpTo : Type 0
NoRoomUpTo = (c : Collection) (b : Bool) (ts : List AnyType) (n k : ℕ) (s : State) → n ≤ k → HasNoRoom c b ts n s → HasNoRoom c b ts k s

-- What is paid without types is paid with any.
abbrev pub PaysWithMore : Type 0
PaysWithMore = (c : Collection) (b : Bool) (ts : List AnyType) (n : ℕ) (s t : State) → IsPaid c b [] n s t → IsPaid c b ts n s t

abbrev pub NoRoomWithMore : Type 0
NoRoomWithMore = (c : Collection) (b : Bool) (ts : List AnyType) (n : ℕ) (s : State) → HasNoRoom c b [] n s → HasNoRoom c b ts n s

-- A call that changes nothing costs nothing.
abbrev pub PaysNothing : Type 0
PaysNothing = (c : Collection) (b : Bool) (ts : List AnyType) (s : State) → IsPaid c b ts 0 s s

-- No type pays more than the rate of its weight: all that types add is bounded by their weight.
abbrev pub PaysAtMost : Type 0
PaysAtMost = (c : Collection) (b : Bool) (ts : List AnyType) (s : State) → all_paid c b (opened b s.here) ts ≤ rate b (opened b s.here).content * own_texts c ts

abbrev pub AddsAtMost : Type 0
AddsAtMost = (c : Collection) (b : Bool) (ts : List AnyType) (n : ℕ) (s t : State) → IsPaid c b ts n s t → total c b t ≤ total c b s + rate b (opened b s.here).content * own_texts c ts + n

-- What is priced stays so.
abbrev pub StaysPriced : Type 0
StaysPriced = (c : Collection) (b : Bool) (s t : State) → Goes c b s t → IsPriced b s → IsPriced b t

-- An open type may be opened inside a scope that may enclose it. A closed one leaves what was priced.
abbrev pub OpensPriced : Type 0
OpensPriced = (b : Bool) (s t : State) → t.around.items ≡ s.around.items ++ s.here ∷ [] → IsOpenType t.here.content → MayEnclose b s.here.content → IsPriced b s → IsPriced b t

abbrev pub ClosesPriced : Type 0
ClosesPriced = (b : Bool) (s t : State) → ClosesInto s t → IsPriced b s → IsPriced b t
