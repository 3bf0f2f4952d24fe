-- What is found of a resource.
use Rattle.std.specs.Prelude.{IfSome}
use Rattle.std.proofs.Common.{ℕ, zero, suc, ◌≡◌, ◌≤◌, Bool, List, [], ◌∷◌, length, Option, Some, None, refl, sym, ◌∙◌, subst}
use Rattle.wac_types_shapes.specs.primitives.Tree.{resource}
use Rattle.wac_types_shapes.specs.declared.shapes.component.ResourceId.{ResourceId}
use Rattle.wac_types_collection.specs.collection.Collection.{Collection}
use Rattle.wac_types_collection.specs.collection.Bound.{Bindings}
use Rattle.wac_binary.specs.Unfold.{Scope}
use Rattle.wac_encode_stacks.specs.private.Brought.{FindsOrUnbound}
use Rattle.wac_encode_stacks.specs.Good.{Stands}
use Rattle.wac_encode_stacks.specs.private.Laws.{Reaches}
use Rattle.wac_encode_stacks.specs.private.Parts.{IsReached}
use Rattle.wac_encode_stacks.specs.Scopes.{Where}
use Rattle.wac_encode_scopes.specs.declared.scope.Scope.{Scope as OpenScope}
use Rattle.wac_encode_scopes.specs.Books.{opened}
use Rattle.wac_encode_scopes.specs.States.{outward, stack, IsPlace}
use Rattle.wac_encode.specs.declared.state.ResourcePlace.{ResourcePlace}
use Rattle.wac_encode.specs.declared.state.State.{State}
use Rattle.wac_encode.specs.Root.{IsStateFor, IsResourcePlace}
use Rattle.wac_encode.specs.private.Places.{place_in}
use Rattle.wac_encode.proofs.Roots.{alone, innermost-is}

-- What holds of the place that the scopes find holds of the resource's place.
pub place-some : (P : ResourcePlace → Type 0) (o : Option (ℕ × ℕ × Bool)) (r : Option ResourcePlace) → r ≡ place_in o → IfSome o (λ f. P (record { out = f.0; index = f.1; is_type = f.2 })) → IfSome r P
place-some P o r is h = subst (λ (x : Option ResourcePlace). IfSome x P) (sym is) (by o h)
  where
    by : (o : Option (ℕ × ℕ × Bool)) → IfSome o (λ f. P (record { out = f.0; index = f.1; is_type = f.2 })) → IfSome (place_in o) P
    by None h = tt
    by (Some f) h = h

pub place-none : (o : Option (ℕ × ℕ × Bool)) (r : Option ResourcePlace) → r ≡ place_in o → r ≡ None → o ≡ None
place-none None r is none = refl
place-none (Some f) r is none = let no : Some (record { out = f.0; index = f.1; is_type = f.2 }) ≡ None = sym is ∙ none in cc

-- The only open scope is 0 scopes out.
pub found-place : Reaches → (c : Collection) (b : Bool) (m : Bindings) (s : State) (r : ResourceId) (k i : ℕ) (is_type : Bool) → IsStateFor c b m s
    → (w : Where) × IsReached (stack b s.scopes) r k w × IsPlace w i is_type → IsResourcePlace m s r (record { out = k; index = i; is_type = is_type })
found-place reaches c b m s r zero i is_type h (w, reached, place) =
    let at = reaches c (m ∷ []) (stack b s.scopes) r 0 w h.good reached in
    record {
      here = refl;
      leaf = at.0;
      bound = at.1;
      place = w;
      index = place;
      stands = subst (λ (x : Scope). Stands x (resource at.0) w) (innermost-is b s.scopes h.root) at.2;
    }
found-place reaches c b m s r (suc k) i is_type h (w, reached, place) =
    absurd (subst (λ (ss : List OpenScope). IsReached (outward b ss) r k w) (alone c b m s h) reached.1)

pub one-scope : (c : Collection) (b : Bool) (m : Bindings) (s : State) (n : ℕ) → IsStateFor c b m s → n ≤ length (stack b s.scopes) → n ≤ 1
one-scope c b m s n h low = subst (λ (ss : List OpenScope). n ≤ length (opened b s.scopes.here ∷ outward b ss)) (alone c b m s h) low

pub not-found : FindsOrUnbound → (c : Collection) (b : Bool) (m : Bindings) (s : State) (r : ResourceId) → ((k : ℕ) (w : Where) → IsReached (stack b s.scopes) r k w → ⊥) → IsStateFor c b m s → m r ≡ None
not-found finds c b m s r none h = finds c (m ∷ []) (stack b s.scopes) r h.good none
