-- What definitions and function types mention is of the collection, and may be written if they may be.
use Rattle.std.specs.Prelude.{ℕ, zero, suc, ◌≡◌, Bool, true, List, [], ◌∷◌, Option, Some, None, slice_get}
use Rattle.std.specs.List.{AllByRecursion}
use Rattle.std.proofs.Common.{refl, ap, ◌∙◌, subst}
use Rattle.wac_types_shapes.specs.primitives.Name.{Name}
use Rattle.wac_types_shapes.specs.declared.shapes.component.DefinedType.{DefinedType}
use Rattle.wac_types_shapes.specs.declared.shapes.component.DefinedTypeId.{DefinedTypeId}
use Rattle.wac_types_shapes.specs.declared.shapes.component.FuncType.{FuncType}
use Rattle.wac_types_shapes.specs.declared.shapes.component.FuncTypeId.{FuncTypeId}
use Rattle.wac_types_shapes.specs.declared.shapes.component.ValueType.{ValueType}
use Rattle.wac_types_shapes.specs.declared.shapes.component.ValueType.TheVariants as val
use Rattle.wac_types_shapes.specs.declared.shapes.component.«Type».TheVariants as ty
use Rattle.wac_types_collection.specs.declared.collection.collection.Held.{Held}
use Rattle.wac_types_collection.specs.collection.Collection.{Collection, IsWellFormed, IsBefore, and_maybe, seconds, func_values, defined_values, value_types, item_at, item_of, holds_value}
use Rattle.wac_types_collection.proofs.lemmas.collection.Growth.{value_within}
use Rattle.wac_encode_stacks.specs.Good.{Holds, top}
use Rattle.wac_encode_stacks.specs.private.HeldParts.{HoldsParts, HoldsFuncParts}
use Rattle.wac_encode_scopes.specs.declared.state.State.{State}
use Rattle.wac_encode_scopes.specs.private.Parts.{parts}
use Rattle.wac_encode_scopes.proofs.PartLists.{part-in}
use Rattle.wac_encode_values.specs.private.Values.{IsReady}
use Rattle.wac_encode_values.specs.private.Parts.{IsPartReady, AreReady}
use Rattle.wac_encode_values.proofs.Ready.{ready-part}

all-held : (c : Collection) (n : ℕ) (vs : List ValueType) → AllByRecursion (IsBefore c n) (value_types vs) → AllByRecursion (λ u. holds_value c u ≡ true) vs
all-held c n [] h = tt
all-held c n (v ∷ vs) h = (value_within c n v h.0, all-held c n vs h.1)

held-item : {A : Type 0} (o : Option (Held A)) (x : A) → item_of o ≡ Some x → (h : Held A) × (o ≡ Some h) × (h.item ≡ x)
held-item None x e = let no_some : None ≡ Some x = e in cc
held-item (Some h) x e = (h, refl, (let is : h.item ≡ x = cc in is))

pub part-held : (c : Collection) → IsWellFormed c → (d : DefinedTypeId) (x : DefinedType) (k : ℕ) (v : ValueType) → item_at c.defined d.0 ≡ Some x → slice_get (parts x) k ≡ Some (Some v) → holds_value c v ≡ true
part-held c wf d x k v at part =
    let h = held-item (slice_get c.defined d.0) x at in
    part-in (λ u. holds_value c u ≡ true) x k v (subst (λ (y : DefinedType). AllByRecursion (λ u. holds_value c u ≡ true) (defined_values y)) h.2 (all-held c h.0.before (defined_values h.0.item) (wf.defined d.0 h.0 h.1).1)) part

-- the part at a position
pub part-ready : HoldsParts → (c : Collection) → IsWellFormed c → (b : Bool) (s : State) (d : DefinedTypeId) (x : DefinedType) (k : ℕ) (p : Option ValueType) → item_at c.defined d.0 ≡ Some x → slice_get (parts x) k ≡ Some p → IsReady c b s (ty.Value (val.Defined d)) → IsPartReady c b s p
part-ready law c wf b s d x k p at part r v is =
    let here : slice_get (parts x) k ≡ Some (Some v) = part ∙ ap (λ (o : Option ValueType). Some o) is in
    (part-held c wf d x k v at here, ready-part law c wf b s d x k v at here r)

-- parameters and results

behind : (P : ValueType → Type 0) (o : Option ValueType) (vs : List ValueType) → AllByRecursion P (and_maybe o vs) → AllByRecursion P vs
behind P None vs h = h
behind P (Some v) vs h = h.1

param-in : (P : ValueType → Type 0) (es : List (Name × ValueType)) (k : ℕ) (e : Name × ValueType) → AllByRecursion P (seconds es) → slice_get es k ≡ Some e → P e.1
param-in P [] k e h at = let no_some : None ≡ Some e = at in cc
param-in P (x ∷ es) zero e h at = let same : x ≡ e = cc in subst (λ (y : Name × ValueType). P y.1) same h.0
param-in P (x ∷ es) (suc k) e h at = param-in P es k e h.1 at

result-in : (P : ValueType → Type 0) (o : Option ValueType) (vs : List ValueType) (v : ValueType) → AllByRecursion P (and_maybe o vs) → o ≡ Some v → P v
result-in P None vs v h is = let no_some : None ≡ Some v = is in cc
result-in P (Some w) vs v h is = let same : w ≡ v = cc in subst P same h.0

func-held : (c : Collection) → IsWellFormed c → (f : FuncTypeId) (x : FuncType) → item_at c.funcs f.0 ≡ Some x → AllByRecursion (λ u. holds_value c u ≡ true) (func_values x)
func-held c wf f x at =
    let h = held-item (slice_get c.funcs f.0) x at in
    subst (λ (y : FuncType). AllByRecursion (λ u. holds_value c u ≡ true) (func_values y)) h.2 (all-held c h.0.before (func_values h.0.item) (wf.funcs f.0 h.0 h.1).1)

pub params-ready : HoldsFuncParts → (c : Collection) → IsWellFormed c → (b : Bool) (s : State) (f : FuncTypeId) (x : FuncType) → item_at c.funcs f.0 ≡ Some x → IsReady c b s (ty.Func f) → AreReady c b s x.params
params-ready law c wf b s f x at r k e here = (
  param-in (λ u. holds_value c u ≡ true) x.params k e (behind (λ u. holds_value c u ≡ true) x.result (seconds x.params) (func-held c wf f x at)) here,
  (r.0, r.1, param-in (λ u. Holds c (top r.0) (ty.Value u)) x.params k e (behind (λ u. Holds c (top r.0) (ty.Value u)) x.result (seconds x.params) (law c wf (top r.0) f x at r.2)) here),
)

pub result-ready : HoldsFuncParts → (c : Collection) → IsWellFormed c → (b : Bool) (s : State) (f : FuncTypeId) (x : FuncType) → item_at c.funcs f.0 ≡ Some x → IsReady c b s (ty.Func f) → IsPartReady c b s x.result
result-ready law c wf b s f x at r v is = (
  result-in (λ u. holds_value c u ≡ true) x.result (seconds x.params) v (func-held c wf f x at) is,
  (r.0, r.1, result-in (λ u. Holds c (top r.0) (ty.Value u)) x.result (seconds x.params) v (law c wf (top r.0) f x at r.2) is),
)
