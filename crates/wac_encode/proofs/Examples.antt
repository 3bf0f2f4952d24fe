-- Worked examples: the faults that a call names, and the bindings under which a state is right.
use Rattle.std.specs.Prelude.{Result, Ok, Err}
use Rattle.std.proofs.Common.{◌≡◌, ◌≤◌, ℕ, Bool, true, false, [], ◌∷◌, Some, None, Contains, inl, inr, refl, ap, lit<, arith}
use Rattle.wac_types_shapes.specs.primitives.Name.{Name}
use Rattle.wac_types_shapes.specs.primitives.Tree.{imported, named, Leaf}
use Rattle.wac_types_shapes.specs.declared.shapes.component.FuncTypeId.{FuncTypeId}
use Rattle.wac_types_shapes.specs.declared.shapes.component.InterfaceId.{InterfaceId}
use Rattle.wac_types_shapes.specs.declared.shapes.component.ResourceId.{ResourceId}
use Rattle.wac_types_shapes.specs.declared.shapes.component.UsedType.{UsedType}
use Rattle.wac_types_shapes.specs.declared.shapes.component.World.{World}
use Rattle.wac_types_shapes.specs.declared.shapes.component.WorldId.{WorldId}
use Rattle.wac_types_shapes.specs.declared.shapes.component.ItemKind.TheVariants as kind
use Rattle.wac_types_shapes.specs.declared.shapes.component.ValueType.TheVariants as val
use Rattle.wac_types_shapes.specs.declared.shapes.component.«Type».TheVariants as ty
use Rattle.wac_types_collection.specs.declared.collection.collection.Held.{Held}
use Rattle.wac_types_collection.specs.collection.Collection.{Collection, empty}
use Rattle.wac_types_collection.specs.collection.Bound.{Bindings}
use Rattle.wac_encode_faults.specs.declared.fault.EncodeFault.{EncodeFault}
use Rattle.wac_encode_faults.specs.declared.fault.EncodeFault.TheVariants as error
use Rattle.wac_encode_faults.specs.declared.fault.WriteFault.{WriteFault}
use Rattle.wac_encode_faults.specs.declared.fault.WriteFault.TheVariants as fault
use Rattle.wac_encode_faults.specs.Faults.{fault_rank, IsFaultInside}
use Rattle.wac_encode_faults.specs.Faults as faults
use Rattle.wac_encode_faults.specs.Free.{IsFree, of_import}
use Rattle.wac_encode_faults.specs.Free as free
use Rattle.wac_encode_faults.proofs.NestedFaults.{fault_scope}
use Rattle.wac_encode_stacks.specs.private.Brought.{GoodOnce}
use Rattle.wac_encode_stacks.specs.Good.{nothing_bound, top}
use Rattle.wac_encode_scopes.specs.Books.{opened}
use Rattle.wac_encode_scopes.specs.States.{stack}
use Rattle.wac_encode.specs.declared.state.State.{State}
use Rattle.wac_encode.specs.Errors.{HasTypeFault, NamesLowest}
use Rattle.wac_encode.specs.Root.{IsStateFor}

abbrev held : {A : Type 0} → A → Held A
held a = record { item = a; before = 0 }

abbrev r : Name
r = 114 ∷ []

abbrev res : ResourceId
res = record { 0 = 0 }

abbrev fn : FuncTypeId
fn = record { 0 = 0 }

abbrev leaf : Leaf
leaf = record { out = 0; side = imported; path = named r ∷ [] }

-- The resource is imported.
abbrev r_bound : Bindings
r_bound q = Some leaf

-- ---- a function over an own resource
abbrev over_own : Collection
over_own = record empty {
  resources = held (record { name = r; alias = None }) ∷ [];
  funcs = held (record { params = (120 ∷ [], val.Own res) ∷ []; result = None; is_async = false }) ∷ [];
}

r_free : IsFree over_own (ty.Func fn) res
r_free = free.in_part (ty.Func fn) (ty.Value (val.Own res)) res (0, lit< tt, refl) (free.in_part (ty.Value (val.Own res)) (ty.Resource res) res (0, lit< tt, refl) (free.itself res))

none_inside : (f : WriteFault) → IsFaultInside over_own (ty.Func fn) f → ⊥
none_inside f inside = let e : false ≡ true = fault_scope over_own (ty.Func fn) f inside in cc

-- The answers of a call that writes it, where resources are bound by m.
abbrev Answers : Bindings → Result ℕ EncodeFault → Type 0
Answers m = NamesLowest (HasTypeFault over_own m (ty.Func fn))

-- where nothing is bound, it has this fault and no other
pub unbound : HasTypeFault over_own nothing_bound (ty.Func fn) fault.UnboundResource
unbound = inl ((res, r_free, refl), refl)

pub unbound_alone : (f : WriteFault) → HasTypeFault over_own nothing_bound (ty.Func fn) f → f ≡ fault.UnboundResource
unbound_alone f (inl h) = h.1
unbound_alone f (inr h) = absurd (none_inside f h)

-- which is named
pub named_unbound : Answers nothing_bound (Err (error.Write fault.UnboundResource))
named_unbound = (unbound, λ other h. let same : fault_rank other ≡ 1 = ap fault_rank (unbound_alone other h) in omega (arith, same))

-- neither another one, nor an index, nor that a size does not fit
pub not_another : Answers nothing_bound (Err (error.Write fault.NestedItem)) → ⊥
not_another h = let low : 4 ≤ 1 = h.1 fault.UnboundResource unbound in omega (arith, low)

pub not_written : Answers nothing_bound (Ok 0) → ⊥
not_written h = h fault.UnboundResource unbound

pub not_too_large : Answers nothing_bound (Err error.TooLarge) → ⊥
not_too_large h = h fault.UnboundResource unbound

-- where the resource is bound, there is no fault
pub bound_has_none : (f : WriteFault) → HasTypeFault over_own r_bound (ty.Func fn) f → ⊥
bound_has_none f (inl h) = let e : Some leaf ≡ None = h.0.2 in cc
bound_has_none f (inr h) = none_inside f h

pub written : Answers r_bound (Ok 0)
written = bound_has_none

pub not_named : Answers r_bound (Err (error.Write fault.UnboundResource)) → ⊥
not_named h = bound_has_none fault.UnboundResource h.0

-- ---- a world that uses r of j, imports r, and does not import j: it has two faults, of which the lower one is named
abbrev use_of_j : UsedType
use_of_j = record { interface = record { 0 = 0 }; name = None }

abbrev using_world : World
using_world = record { id = None; uses = (r, use_of_j) ∷ []; imports = (r, kind.TypeItem (ty.Resource res)) ∷ []; exports = [] }

abbrev using : Collection
using = record empty {
  resources = held (record { name = r; alias = None }) ∷ [];
  interfaces = held (record { id = Some (106 ∷ []); uses = []; exports = (r, kind.TypeItem (ty.Resource res)) ∷ [] }) ∷ [];
  worlds = held using_world ∷ [];
}

abbrev world : WorldId
world = record { 0 = 0 }

none_listed : (x : InterfaceId) → Contains [] x → ⊥
none_listed x (n, p, e) = omega (arith, p)

-- a component type sees nothing outside it: the fault is there whatever is bound
pub using_unbound : (m : Bindings) → HasTypeFault using m (ty.World world) fault.UnboundResource
using_unbound m = inr (
  ty.World world,
  faults.itself (ty.World world) (ty.World world) refl,
  faults.of_world world fault.UnboundResource (faults.unbound using_world refl (record { side = imported; name = r }, res, of_import r (kind.TypeItem (ty.Resource res)) res (0, lit< tt, refl) (free.itself res), refl)),
)

pub using_unlisted : (m : Bindings) → HasTypeFault using m (ty.World world) fault.UnlistedDependency
using_unlisted m = inr (
  ty.World world,
  faults.itself (ty.World world) (ty.World world) refl,
  faults.of_world world fault.UnlistedDependency (faults.unlisted (faults.by_world r use_of_j (0, lit< tt, refl) (none_listed (record { 0 = 0 })))),
)

abbrev UsingAnswers : Bindings → Result ℕ EncodeFault → Type 0
UsingAnswers m = NamesLowest (HasTypeFault using m (ty.World world))

pub not_the_higher : (m : Bindings) → UsingAnswers m (Err (error.Write fault.UnlistedDependency)) → ⊥
not_the_higher m h = let low : 7 ≤ 1 = h.1 fault.UnboundResource (using_unbound m) in omega (arith, low)

-- ---- states
-- a state in which no resource is recorded is right where nothing is bound alone
pub nothing_recorded : (c : Collection) (b : Bool) (m : Bindings) (s : State) → ((q : ResourceId) → (opened b s.scopes.here).binds q ≡ None) → IsStateFor c b m s → (q : ResourceId) → m q ≡ None
nothing_recorded c b m s none h q = h.good.0.unbound q (none q)

pub not_where_bound : (c : Collection) (b : Bool) (s : State) → ((q : ResourceId) → (opened b s.scopes.here).binds q ≡ None) → IsStateFor c b r_bound s → ⊥
not_where_bound c b s none h = let e : Some leaf ≡ None = nothing_recorded c b r_bound s none h res in cc

-- the bindings are those of the state
pub bindings_of_state : GoodOnce → (c : Collection) (b : Bool) (m n : Bindings) (s : State) → IsStateFor c b m s → IsStateFor c b n s → m ≡ n
bindings_of_state once c b m n s h g = ap top (once c (m ∷ []) (n ∷ []) (stack b s.scopes) h.good g.good)
