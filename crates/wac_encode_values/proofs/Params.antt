-- Function types with their parameters and results as they are written.
use Rattle.std.specs.Prelude.{ℕ, ◌≡◌, Bool, List, [], ◌∷◌, ◌++◌, ◌+◌, take, Option, Some, slice_get}
use Rattle.std.specs.List.{AllZip}
use Rattle.std.specs.Borrow.{Bor}
use Rattle.std.proofs.Common.{sym, subst}
use Rattle.wac_types_shapes.specs.primitives.Name.{Name}
use Rattle.wac_types_shapes.specs.declared.shapes.component.FuncType.{FuncType}
use Rattle.wac_types_shapes.specs.declared.shapes.component.ValueType.{ValueType}
use Rattle.wac_types_shapes.specs.declared.shapes.component.«Type».{«Type» as AnyType}
use Rattle.wac_types_shapes.specs.declared.shapes.component.«Type».TheVariants as ty
use Rattle.wac_types_collection.specs.collection.Collection.{Collection}
use Rattle.wac_binary.specs.declared.types.ComponentValType.{ComponentValType}
use Rattle.wac_binary.specs.Items.{func_def}
use Rattle.wac_binary.specs.Views.{named}
use Rattle.wac_encode_stacks.specs.Good.{top, innermost}
use Rattle.wac_encode_stacks.specs.private.Parts.{Is}
use Rattle.wac_encode_stacks.specs.private.Laws.{StaysIs, Follows}
use Rattle.wac_encode_stacks.specs.private.Brought.{GoodOnce}
use Rattle.wac_encode_scopes.specs.declared.state.State.{State}
use Rattle.wac_encode_scopes.specs.States.{stack, Goes, SaysWrittenFunc}
use Rattle.wac_encode_scopes.proofs.Stepped.{goes-both}
use Rattle.wac_encode_values.specs.private.Values.{IsReady}
use Rattle.wac_encode_values.specs.private.Parts.{IsParam, MaybeWrittenAs, AreReady, IsPartReady}
use Rattle.wac_encode_values.proofs.Ready.{ready-on, written-on}
use Rattle.wac_encode_values.proofs.Made.{zip-as, zip-map, zip-further, maybe-is}

pub params-on : GoodOnce → StaysIs → (c : Collection) (b : Bool) (s s' : State) (a : AnyType) → IsReady c b s a → Goes c b s s' → (es : List (Name × ValueType)) (ys : List (Bor (List ℕ) × ComponentValType)) → AllZip (IsParam c b s) es ys → AllZip (IsParam c b s') es ys
params-on once stays c b s s' a r g es ys z = zip-as (IsParam c b s) (IsParam c b s') (λ e y h. (h.0, written-on once stays c b s s' a e.1 y.1 r g h.1)) es ys z

pub func-says : (c : Collection) (b : Bool) (s : State) (x : FuncType) (a : Bool) (xs ys : List (Bor (List ℕ) × ComponentValType)) (y : Option ComponentValType) → a ≡ x.is_async → ys ≡ xs → AllZip (IsParam c b s) x.params xs → MaybeWrittenAs c b s x.result y → SaysWrittenFunc c b s x (func_def a (named ys) y)
func-says c b s x a xs ys y is same z r ms good = (
  is,
  zip-map (IsParam c b s) (λ e u. (u.0 ≡ e.0) × Is c (top ms) (innermost (stack b s)) (ty.Value e.1) u.1) (λ u. (u.0.now, u.1)) (λ e u h. (h.0, h.1 ms good)) x.params ys (subst (λ (zs : List (Bor (List ℕ) × ComponentValType)). AllZip (IsParam c b s) x.params zs) (sym same) z),
  maybe-is c b s ms good x.result y r,
)

-- the parameters so far
abbrev pub ParamsSoFar : Collection → Bool → State → State → List (Name × ValueType) → ℕ → List (Bor (List ℕ) × ComponentValType) → Type 0
ParamsSoFar c b old now es i ys = Goes c b old now × AllZip (IsParam c b now) (take i es) ys

pub params-first : (c : Collection) (b : Bool) (s : State) (es : List (Name × ValueType)) (ys : List (Bor (List ℕ) × ComponentValType)) → Goes c b s s → ys ≡ [] → ParamsSoFar c b s s es 0 ys
params-first c b s es ys g is = (g, subst (λ (zs : List (Bor (List ℕ) × ComponentValType)). AllZip (IsParam c b s) (take 0 es) zs) (sym is) tt)

pub params-more : GoodOnce → StaysIs → Follows → (c : Collection) (b : Bool) (old now new : State) (es : List (Name × ValueType)) (i : ℕ) (e : Name × ValueType) (y : Bor (List ℕ) × ComponentValType) (ys zs : List (Bor (List ℕ) × ComponentValType)) → AreReady c b old es → slice_get es i ≡ Some e → ParamsSoFar c b old now es i ys → Goes c b now new → IsParam c b new e y → zs ≡ ys ++ y ∷ [] → ParamsSoFar c b old new es (i + 1) zs
params-more once stays follows c b old now new es i e y ys zs ready at h g w is = (
  goes-both follows c b old now new h.0 g,
  zip-further (IsParam c b new) es ys zs i e y at is (params-on once stays c b now new (ty.Value e.1) (ready-on c b old now (ty.Value e.1) h.0 (ready i e at).1) g (take i es) ys h.1) w,
)

pub param-ready : (c : Collection) (b : Bool) (old now : State) (es : List (Name × ValueType)) (i : ℕ) (e : Name × ValueType) → AreReady c b old es → slice_get es i ≡ Some e → Goes c b old now → IsReady c b now (ty.Value e.1)
param-ready c b old now es i e ready at g = ready-on c b old now (ty.Value e.1) g (ready i e at).1

pub part-ready-on : (c : Collection) (b : Bool) (s s' : State) (p : Option ValueType) → Goes c b s s' → IsPartReady c b s p → IsPartReady c b s' p
part-ready-on c b s s' p g h v is = ((h v is).0, ready-on c b s s' (ty.Value v) g (h v is).1)
