-- The resources of a collection that are bound, or those that are not.
use Rattle.std.proofs.Common.{ℕ, zero, suc, ◌+◌, ◌<◌, ◌≡◌, ◌⊎◌, inl, inr, Bool, true, false, not, List, [], ◌∷◌, length, Contains, Option, Some, None, refl, ap, sym, ◌∙◌, subst, arith}
use Rattle.std.specs.Prelude.{◌↔◌, is_some, nat_lt, IsSome}
use Rattle.indexmap.specs.IndexSet.{insert_key}
use Rattle.wac_types_shapes.specs.contracts.shapes.component.ResourceIdPartialEq.TheImpl as IdEq
use Rattle.wac_types_shapes.specs.primitives.Tree.{Leaf}
use Rattle.wac_types_shapes.specs.declared.shapes.component.ResourceId.{ResourceId}
use Rattle.wac_types_shapes.specs.declared.shapes.component.«Type».TheVariants as ty
use Rattle.wac_types_collection.specs.collection.Collection.{Collection, holds_type}
use Rattle.wac_types_collection.specs.collection.Bound.{Bindings}
use Rattle.wac_types_collection.proofs.lemmas.collection.Steady.{within}
use Rattle.wac_types_collection.proofs.lemmas.wide.Members.{in_none}
use Rattle.wac_encode_faults.proofs.FreeParts.{inserted_law}
use Rattle.wac_encode_stacks.specs.Good.{Good, top}
use Rattle.wac_encode_scopes.specs.States.{stack}
use Rattle.wac_encode.specs.declared.state.State.{State}
use Rattle.wac_encode.specs.Root.{IsStateFor}
use Rattle.wac_encode.specs.private.Resources.{AddsIf, AreBelow, AreBoundAs, HasBinding, SaysBinding}

-- whether a resource is bound

no-true : false ≡ true → ⊥
no-true h = cc

pub says-bound : (b is_bound : Bool) (s : State) (r : ResourceId) → ((c : Collection) (ms : List Bindings) → Good c ms (stack b s.scopes) → (l : Leaf) × (top ms r ≡ Some l)) → SaysBinding b is_bound s r is_bound
says-bound b is_bound s r bound c m h = by is_bound (m r) (bound c (m ∷ []) h.good)
  where
    by : (k : Bool) (o : Option Leaf) → (l : Leaf) × (o ≡ Some l) → (k ≡ true) ↔ (is_some o ≡ k)
    by true o (l, is) = (λ t. ap is_some is, λ t. refl)
    by false o (l, is) = (λ t. absurd (no-true t), λ t. absurd (no-true (sym t ∙ ap is_some is)))

pub says-unbound : (b is_bound : Bool) (s : State) (r : ResourceId) → ((c : Collection) (ms : List Bindings) → Good c ms (stack b s.scopes) → top ms r ≡ None) → SaysBinding b is_bound s r (not is_bound)
says-unbound b is_bound s r unbound c m h = by is_bound (m r) (unbound c (m ∷ []) h.good)
  where
    by : (k : Bool) (o : Option Leaf) → o ≡ None → (not k ≡ true) ↔ (is_some o ≡ k)
    by true o is = (λ t. absurd (no-true t), λ t. absurd (no-true (sym (ap is_some is) ∙ t)))
    by false o is = (λ t. ap is_some is, λ t. refl)

-- one resource more, or none

pub adds-none : (b is_bound : Bool) (s : State) (q : ResourceId) (found : List ResourceId) (x : Bool) → SaysBinding b is_bound s q x → x ≡ false → AddsIf b is_bound s q found found
adds-none b is_bound s q found x says is c m h r = (
  λ has. inl has,
  λ has. elim has [
    | inl w ↦ w
    | inr w ↦ absurd (no-true (sym is ∙ (says c m h).1 (subst (HasBinding m is_bound) w.0 w.1)))
  ],
)

pub adds-one : (b is_bound : Bool) (s : State) (q : ResourceId) (old new : List ResourceId) (x : Bool) → SaysBinding b is_bound s q x → x ≡ true → new ≡ insert_key (IdEq.ghosts).eq old q → AddsIf b is_bound s q old new
adds-one b is_bound s q old new x says is grown c m h r = (
  λ has. elim ((inserted_law old new q grown r).0 has) [
    | inl w ↦ inl w
    | inr w ↦ inr (w, subst (HasBinding m is_bound) (sym w) ((says c m h).0 is))
  ],
  λ has. (inserted_law old new q grown r).1 (elim has [ inl w ↦ inl w | inr w ↦ inr w.0 ]),
)

-- all of them

pub below-first : (types : Collection) (b is_bound : Bool) (s : State) (found : List ResourceId) → found ≡ [] → AreBelow types b is_bound s 0 found
below-first types b is_bound s found is = record {
  held = λ r low. absurd (omega (arith, low));
  are = λ c m h r. (λ has. absurd (in_none r (subst (λ (xs : List ResourceId). Contains xs r) is has)), λ has. absurd (let low = has.0 in omega (arith, low)));
}

same-id : (r : ResourceId) (n : ℕ) → r.0 ≡ n → r ≡ record { 0 = n }
same-id r n is = ap (λ (k : ℕ). record { 0 = k }) is

last-or : (k n : ℕ) → k < n + 1 → (k < n) ⊎ (k ≡ n)
last-or zero zero low = inr refl
last-or zero (suc n) low = inl (omega arith)
last-or (suc k) zero low = absurd (omega (arith, low))
last-or (suc k) (suc n) low = elim (last-or k n (omega (arith, low))) [ inl l ↦ inl (omega (arith, l)) | inr e ↦ inr (ap suc e) ]

pub below-next : (types : Collection) (b is_bound : Bool) (s : State) (n k : ℕ) (found more : List ResourceId) → k ≡ n + 1 → holds_type types (ty.Resource (record { 0 = n })) ≡ true → AreBelow types b is_bound s n found → AddsIf b is_bound s (record { 0 = n }) found more
    → AreBelow types b is_bound s k more
below-next types b is_bound s n k found more one holds was adds = record {
  held = λ r low. by r (last-or r.0 n (subst (λ (x : ℕ). r.0 < x) one low));
  are = λ c m h r. (
    λ has. elim ((adds c m h r).0 has) [
      | inl w ↦ let at = (was.are c m h r).0 w in let low = at.0 in (omega (arith, low, one), at.1)
      | inr w ↦ let same = ap (λ (x : ResourceId). x.0) w.0 in (omega (arith, same, one), w.1)
    ],
    λ has. (adds c m h r).1 (elim (last-or r.0 n (subst (λ (x : ℕ). r.0 < x) one has.0)) [
      | inl l ↦ inl ((was.are c m h r).1 (l, has.1))
      | inr e ↦ inr (same-id r n e, has.1)
    ]),
  );
}
  where
    by : (r : ResourceId) → (r.0 < n) ⊎ (r.0 ≡ n) → holds_type types (ty.Resource r) ≡ true
    by r (inl low) = was.held r low
    by r (inr is) = subst (λ (x : ResourceId). holds_type types (ty.Resource x) ≡ true) (sym (same-id r n is)) holds

less : (k n size : ℕ) → nat_lt n size ≡ false → k < size → k < n
less k n size past low = let not_less : nat_lt n size ≡ false = past in grind arith

pub below-all : (types : Collection) (b is_bound : Bool) (s : State) (n : ℕ) (found : List ResourceId) → holds_type types (ty.Resource (record { 0 = n })) ≡ false → AreBelow types b is_bound s n found → AreBoundAs types b is_bound s found
below-all types b is_bound s n found past was c m h r = (
  λ has. let at = (was.are c m h r).0 has in (was.held r at.0, at.1),
  λ has. (was.are c m h r).1 (less r.0 n (length types.resources) past (within r.0 (length types.resources) has.0), has.1),
)

-- as bindings

held-some : (c : Collection) (b : Bool) (m : Bindings) (s : State) (r : ResourceId) → IsStateFor c b m s → is_some (m r) ≡ true → holds_type c (ty.Resource r) ≡ true
held-some c b m s r h some = by (m r) refl some
  where
    by : (o : Option Leaf) → m r ≡ o → is_some o ≡ true → holds_type c (ty.Resource r) ≡ true
    by None is t = absurd (no-true t)
    by (Some l) is t = h.held r l is

pub bound-set : (c : Collection) (b : Bool) (m : Bindings) (s : State) (found : List ResourceId) → AreBoundAs c b true s found → IsStateFor c b m s → (r : ResourceId) → Contains found r ↔ IsSome (m r)
bound-set c b m s found are h r = (λ has. ((are c m h r).0 has).1, λ some. (are c m h r).1 (held-some c b m s r h some, some))
