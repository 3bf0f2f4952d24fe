-- Lists of types that cover what is written, part by part.
use Rattle.std.specs.Prelude.{ℕ, zero, suc, ◌≡◌, Bool, true, List, [], ◌∷◌, length, Option, Some, None, slice_get}
use Rattle.std.specs.List.{AllByRecursion}
use Rattle.std.proofs.Common.{refl, ap, ◌∙◌, sym, subst, inl, inr}
use Rattle.std.proofs.lemmas.Bool.{ltb-true}
use Rattle.wac_types_shapes.specs.primitives.Name.{Name, option_case}
use Rattle.wac_types_shapes.specs.declared.shapes.component.ResourceId.{ResourceId}
use Rattle.wac_types_shapes.specs.declared.shapes.component.DefinedTypeId.{DefinedTypeId}
use Rattle.wac_types_shapes.specs.declared.shapes.component.DefinedType.{DefinedType}
use Rattle.wac_types_shapes.specs.declared.shapes.component.FuncTypeId.{FuncTypeId}
use Rattle.wac_types_shapes.specs.declared.shapes.component.FuncType.{FuncType}
use Rattle.wac_types_shapes.specs.declared.shapes.component.ValueType.{ValueType}
use Rattle.wac_types_shapes.specs.declared.shapes.component.ValueType.TheVariants as val
use Rattle.wac_types_shapes.specs.declared.shapes.component.«Type».{«Type» as AnyType}
use Rattle.wac_types_shapes.specs.declared.shapes.component.«Type».TheVariants as ty
use Rattle.wac_types_collection.specs.collection.Collection.{Collection, item_at, holds_type, value_types, seconds, and_maybe, func_values, func_mentions, defined_values, defined_mentions}
use Rattle.wac_types_collection.specs.collection.Held.{source_of, resolved}
use Rattle.wac_types_collection.specs.collection.Aliases.{value_resolved}
use Rattle.wac_types_collection.specs.reach.Reach.{IsIn}
use Rattle.wac_types_weight.specs.private.Laws.{Covers, CoversMention, CoversEnd, CoversResource}
use Rattle.wac_encode_scopes.specs.declared.state.State.{State}
use Rattle.wac_encode_scopes.specs.private.Paid.{IsPaid, IsPriced, IsOwnResource, CoversPart, CoversAll}
use Rattle.wac_encode_scopes.specs.private.Parts.{parts}
use Rattle.wac_encode_scopes.proofs.PartLists.{part-in}
use Rattle.wac_encode_scopes.proofs.Paying.{pays-both, priced-stays}
use Rattle.wac_encode_values.specs.private.Parts.{WaitsFor, AreWaiting}
use Rattle.wac_encode_values.specs.declared.task.Task.{Task}
use Rattle.wac_encode_values.proofs.Waiting.{UnderWay}
use Rattle.wac_binary.specs.declared.types.ComponentValType.{ComponentValType}
use Rattle.std.proofs.Common.{is_some}

-- a handle's resource

pub own-covers : CoversMention → CoversResource → (c : Collection) (ts : List AnyType) (r end : ResourceId) → end ≡ resolved c r → Covers c ts (ty.Value (val.Own r)) → Covers c ts (ty.Resource end)
own-covers mention resource c ts r end is h = subst (λ (z : ResourceId). Covers c ts (ty.Resource z)) (sym is) (resource c ts r (mention c ts (ty.Value (val.Own r)) (ty.Resource r) refl h (inl refl)))

pub borrow-covers : CoversMention → CoversResource → (c : Collection) (ts : List AnyType) (r end : ResourceId) → end ≡ resolved c r → Covers c ts (ty.Value (val.Borrow r)) → Covers c ts (ty.Resource end)
borrow-covers mention resource c ts r end is h = subst (λ (z : ResourceId). Covers c ts (ty.Resource z)) (sym is) (resource c ts r (mention c ts (ty.Value (val.Borrow r)) (ty.Resource r) refl h (inl refl)))

pub end-own : (c : Collection) (r end : ResourceId) → holds_type c (ty.Resource end) ≡ holds_type c (ty.Resource r) → holds_type c (ty.Resource r) ≡ true → source_of (slice_get c.resources end.0) ≡ None → IsOwnResource c end
end-own c r end same held none = (ltb-true end.0 (length c.resources) (same ∙ held), ap is_some none)

-- the end of a value type's aliases
pub end-covers : CoversEnd → (c : Collection) (ts : List AnyType) (v w : ValueType) → value_resolved c v ≡ w → Covers c ts (ty.Value v) → Covers c ts (ty.Value w)
end-covers law c ts v w is h = subst (λ (z : ValueType). Covers c ts (ty.Value z)) is (law c ts v h)

-- the parts of a definition and of a function type

each-in : (vs : List ValueType) (us : List AnyType) → ((t : AnyType) → IsIn t (value_types vs) → IsIn t us) → AllByRecursion (λ u. IsIn (ty.Value u) us) vs
each-in [] us f = tt
each-in (v ∷ vs) us f = (f (ty.Value v) (inl refl), each-in vs us (λ t h. f t (inr h)))

pub part-covers : CoversMention → (c : Collection) (ts : List AnyType) (d : DefinedTypeId) (x : DefinedType) (k : ℕ) (v : ValueType) → item_at c.defined d.0 ≡ Some x → slice_get (parts x) k ≡ Some (Some v) → Covers c ts (ty.Value (val.Defined d)) → Covers c ts (ty.Value v)
part-covers mention c ts d x k v at part h =
    let there : IsIn (ty.Value v) (defined_mentions x) = part-in (λ u. IsIn (ty.Value u) (defined_mentions x)) x k v (each-in (defined_values x) (defined_mentions x) (λ t g. g)) part in
    mention c ts (ty.Value (val.Defined d)) (ty.Value v) refl h (subst (λ (o : Option DefinedType). IsIn (ty.Value v) (option_case o [] defined_mentions)) (sym at) there)

pub next-covers : CoversMention → (c : Collection) (ts : List AnyType) (d : DefinedTypeId) (x : DefinedType) (k : ℕ) (p : Option ValueType) → item_at c.defined d.0 ≡ Some x → slice_get (parts x) k ≡ Some p → Covers c ts (ty.Value (val.Defined d)) → CoversPart c ts p
next-covers mention c ts d x k None at part h = tt
next-covers mention c ts d x k (Some v) at part h = part-covers mention c ts d x k v at part h

params-in : (P : ValueType → Type 0) (es : List (Name × ValueType)) (o : Option ValueType) → AllByRecursion P (and_maybe o (seconds es)) → AllByRecursion P (seconds es)
params-in P es None h = h
params-in P es (Some v) h = h.1

in-all : (vs : List ValueType) (us : List AnyType) → AllByRecursion (λ u. IsIn (ty.Value u) us) vs → (t : AnyType) → IsIn t (value_types vs) → IsIn t us
in-all [] us h t g = absurd g
in-all (v ∷ vs) us h t (inl e) = subst (λ (z : AnyType). IsIn z us) (sym e) h.0
in-all (v ∷ vs) us h t (inr g) = in-all vs us h.1 t g

func-in : (c : Collection) (f : FuncTypeId) (x : FuncType) (t : AnyType) → item_at c.funcs f.0 ≡ Some x → IsIn t (func_mentions x) → IsIn t (option_case (item_at c.funcs f.0) [] func_mentions)
func-in c f x t at h = subst (λ (o : Option FuncType). IsIn t (option_case o [] func_mentions)) (sym at) h

pub params-covers : CoversMention → (c : Collection) (ts : List AnyType) (f : FuncTypeId) (x : FuncType) → item_at c.funcs f.0 ≡ Some x → Covers c ts (ty.Func f) → CoversAll c ts (value_types (seconds x.params))
params-covers mention c ts f x at h u g =
    mention c ts (ty.Func f) u refl h (func-in c f x u at (in-all (seconds x.params) (func_mentions x) (params-in (λ v. IsIn (ty.Value v) (func_mentions x)) x.params x.result (each-in (func_values x) (func_mentions x) (λ t i. i))) u g))

result-in : (P : ValueType → Type 0) (v : ValueType) (vs : List ValueType) → AllByRecursion P (and_maybe (Some v) vs) → P v
result-in P v vs h = h.0

pub result-covers : CoversMention → (c : Collection) (ts : List AnyType) (f : FuncTypeId) (x : FuncType) → item_at c.funcs f.0 ≡ Some x → Covers c ts (ty.Func f) → CoversPart c ts x.result
result-covers mention c ts f x at h = by_result x.result (each-in (func_values x) (func_mentions x) (λ t i. i))
  where
    by_result : (o : Option ValueType) → AllByRecursion (λ v. IsIn (ty.Value v) (func_mentions x)) (and_maybe o (seconds x.params)) → CoversPart c ts o
    by_result None g = tt
    by_result (Some v) g = mention c ts (ty.Func f) (ty.Value v) refl h (func-in c f x (ty.Value v) at (result-in (λ u. IsIn (ty.Value u) (func_mentions x)) v (seconds x.params) g))

pub param-covers : (c : Collection) (ts : List AnyType) (es : List (Name × ValueType)) (k : ℕ) (e : Name × ValueType) → CoversAll c ts (value_types (seconds es)) → slice_get es k ≡ Some e → Covers c ts (ty.Value e.1)
param-covers c ts es k e h at = h (ty.Value e.1) (second-in es k e at)
  where
    some-is : (u v : Name × ValueType) → Some u ≡ Some v → u ≡ v
    some-is u v e = cc

    second-in : (xs : List (Name × ValueType)) (i : ℕ) (x : Name × ValueType) → slice_get xs i ≡ Some x → IsIn (ty.Value x.1) (value_types (seconds xs))
    second-in [] i x g = let no_some : None ≡ Some x = g in cc
    second-in (y ∷ xs) zero x g = inl (ap (λ (z : Name × ValueType). ty.Value z.1) (sym (some-is y x g)))
    second-in (y ∷ xs) (suc i) x g = inr (second-in xs i x g)

-- definitions that wait

waits-covers : CoversMention → CoversEnd → (c : Collection) (ts : List AnyType) (d e : DefinedTypeId) (ps : List (Option ComponentValType)) → WaitsFor c d ps e → Covers c ts (ty.Value (val.Defined d)) → Covers c ts (ty.Value (val.Defined e))
waits-covers mention end c ts d e ps w h = end-covers end c ts w.value (val.Defined e) w.end (part-covers mention c ts d w.definition (length ps) w.value w.found w.part h)

pub waiting-covers : CoversMention → CoversEnd → (c : Collection) (b : Bool) (s : State) (us : List AnyType) (d e : DefinedTypeId) (ts : List Task) → AreWaiting c b s d ts e → Covers c us (ty.Value (val.Defined d)) → Covers c us (ty.Value (val.Defined e))
waiting-covers mention end c b s us d e [] w h = subst (λ (z : DefinedTypeId). Covers c us (ty.Value (val.Defined z))) (sym w) h
waiting-covers mention end c b s us d e (t ∷ ts) w h =
    waiting-covers mention end c b s us w.3 e ts w.5 (waits-covers mention end c us t.id w.3 t.parts.items w.4 (subst (λ (z : DefinedTypeId). Covers c us (ty.Value (val.Defined z))) (sym w.0) h))

-- what is paid so far for a definition
abbrev pub PaidSoFar : Collection → Bool → State → State → DefinedTypeId → Type 0
PaidSoFar c b old now d = (ts : List AnyType) → Covers c ts (ty.Value (val.Defined d)) → IsPriced b old → IsPaid c b ts 0 old now

-- and for parameters
abbrev pub ParamsPaid : Collection → Bool → State → State → List (Name × ValueType) → Type 0
ParamsPaid c b old now es = (ts : List AnyType) → CoversAll c ts (value_types (seconds es)) → IsPriced b old → IsPaid c b ts 0 old now

-- a definition that is under way is covered, and what is paid for it is paid for the first
pub task-covers : CoversMention → CoversEnd → (c : Collection) (b : Bool) (old now : State) (us : List AnyType) (d : DefinedTypeId) (ts : List Task) (t : Task) → UnderWay c b old now d ts t → Covers c us (ty.Value (val.Defined d)) → Covers c us (ty.Value (val.Defined t.id))
task-covers mention end c b old now us d ts t under h = waiting-covers mention end c b now us d t.id ts under.waits h

pub paid-step : CoversMention → CoversEnd → (c : Collection) (b : Bool) (old now new : State) (d : DefinedTypeId) (ts : List Task) (t : Task) → UnderWay c b old now d ts t → PaidSoFar c b old now d → PaidSoFar c b now new t.id → PaidSoFar c b old new d
paid-step mention end c b old now new d ts t under before step us covers priced =
    pays-both c b us 0 0 old now new (before us covers priced) (step us (task-covers mention end c b old now us d ts t under covers) (priced-stays b old now under.goes.types priced))
