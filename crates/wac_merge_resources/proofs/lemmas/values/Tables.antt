-- What stands under a value type in a table, and what one more listing leaves there.
use Rattle.std.proofs.Common.{◌≡◌, nat_eq, Bool, true, false, cond, ◌==◌, List, [], ◌∷◌, map, Option, Some, None, refl, sym, ap, ◌∙◌, inl, inr}
use Rattle.std.specs.Map.{lookup}
use Rattle.std.specs.Option.{option_map}
use Rattle.std.proofs.lemmas.Bool.{cases_Bool, eqb-true}
use Rattle.wac_types_shapes.specs.declared.shapes.component.DefinedTypeId.{DefinedTypeId}
use Rattle.wac_merge_classes.specs.private.terms.ValueBindings.{find_value}
use Rattle.wac_merge_resources.specs.private.values.Listings.{Found, Takes, better, found, only, stays}

pub same_id : (q d : DefinedTypeId) → nat_eq q.0 d.0 ≡ true → q ≡ d
same_id q d e = rw (eqb-true q.0 d.0 e) refl

-- ---- maps

-- what a map finds
pub find-lookup : {A V : Type 0} (view : V → A) (es : List (DefinedTypeId × V)) (d : DefinedTypeId)
    → find_value (map (λ e. (e.0, view e.1)) es) d ≡ option_map view (lookup (λ q. nat_eq d.0 q.0) es)
find-lookup view [] d = refl
find-lookup view (e ∷ es) d = by (nat_eq d.0 e.0.0) (find-lookup view es d) where
  by : (b : Bool) → find_value (map (λ e. (e.0, view e.1)) es) d ≡ option_map view (lookup (λ q. nat_eq d.0 q.0) es)
      → cond b (Some (view e.1)) (find_value (map (λ e. (e.0, view e.1)) es) d) ≡ option_map view (cond b (Some e.1) (lookup (λ q. nat_eq d.0 q.0) es))
  by true h = refl
  by false h = h

-- what stands there, seen otherwise
pub find-map : {A B : Type 0} (f : A → B) (es : List (DefinedTypeId × A)) (d : DefinedTypeId) → find_value (map (λ e. (e.0, f e.1)) es) d ≡ option_map f (find_value es d)
find-map f [] d = refl
find-map f (e ∷ es) d = by (d.0 == e.0.0) (find-map f es d) where
  by : (b : Bool) → find_value (map (λ e. (e.0, f e.1)) es) d ≡ option_map f (find_value es d)
      → cond b (Some (f e.1)) (find_value (map (λ e. (e.0, f e.1)) es) d) ≡ option_map f (cond b (Some e.1) (find_value es d))
  by true h = refl
  by false h = h

map-cond : {A V : Type 0} (view : V → A) (b : Bool) (v : V) (o : Option V) → option_map view (cond b (Some v) o) ≡ cond b (Some (view v)) (option_map view o)
map-cond view true v o = refl
map-cond view false v o = refl

-- a map in which a value type has a value
pub find-put : {A V : Type 0} (view : V → A) (old new : List (DefinedTypeId × V)) (q : DefinedTypeId) (v : V)
    → ((d : DefinedTypeId) → lookup (λ p. nat_eq d.0 p.0) new ≡ cond (nat_eq q.0 d.0) (Some v) (lookup (λ p. nat_eq d.0 p.0) old))
    → (d : DefinedTypeId) → find_value (map (λ e. (e.0, view e.1)) new) d ≡ cond (nat_eq q.0 d.0) (Some (view v)) (find_value (map (λ e. (e.0, view e.1)) old) d)
find-put view old new q v put d =
    find-lookup view new d ∙ ap (option_map view) (put d) ∙ map-cond view (nat_eq q.0 d.0) v (lookup (λ p. nat_eq d.0 p.0) old)
    ∙ ap (cond (nat_eq q.0 d.0) (Some (view v))) (sym (find-lookup view old d))

-- ---- one listing

-- whether what is known stays does not depend on the path
pub stays-anywhere : (o : Option Found) (f : Found) → stays o f ≡ stays o (found f.used f.class [])
stays-anywhere None f = refl
stays-anywhere (Some a) f = refl

pub better-stays : (o : Option Found) (f : Found) → stays o f ≡ true → better o (Some f) ≡ o
better-stays o f h = ap (λ b. cond b o (Some f)) h

pub better-goes : (o : Option Found) (f : Found) → stays o f ≡ false → better o (Some f) ≡ Some f
better-goes o f h = ap (λ b. cond b o (Some f)) h

-- what is known stays
pub put-behind : (t : List (DefinedTypeId × Found)) (q : DefinedTypeId) (f : Found) → stays (find_value t q) f ≡ true → Takes t (only q f) t
put-behind t q f h d = elim (cases_Bool (nat_eq q.0 d.0)) [
  | inl e ↦
      sym (ap (λ b. better (find_value t d) (cond b (Some f) None)) e
      ∙ better-stays (find_value t d) f (ap (λ x. stays (find_value t x) f) (sym (same_id q d e)) ∙ h))
  | inr e ↦ sym (ap (λ b. better (find_value t d) (cond b (Some f) None)) e)
]

-- what is found comes first
pub put-before : (old new : List (DefinedTypeId × Found)) (q : DefinedTypeId) (f : Found) → stays (find_value old q) f ≡ false
    → ((d : DefinedTypeId) → find_value new d ≡ cond (nat_eq q.0 d.0) (Some f) (find_value old d)) → Takes old (only q f) new
put-before old new q f h put d = elim (cases_Bool (nat_eq q.0 d.0)) [
  | inl e ↦
      put d ∙ ap (λ b. cond b (Some f) (find_value old d)) e
      ∙ sym (ap (λ b. better (find_value old d) (cond b (Some f) None)) e
      ∙ better-goes (find_value old d) f (ap (λ x. stays (find_value old x) f) (sym (same_id q d e)) ∙ h))
  | inr e ↦ put d ∙ ap (λ b. cond b (Some f) (find_value old d)) e ∙ sym (ap (λ b. better (find_value old d) (cond b (Some f) None)) e)
]

pub takes-same : (old new : List (DefinedTypeId × Found)) (f g : DefinedTypeId → Option Found) → ((d : DefinedTypeId) → f d ≡ g d) → Takes old f new → Takes old g new
takes-same old new f g same x d = x d ∙ ap (better (find_value old d)) (same d)

pub takes-nothing : (t : List (DefinedTypeId × Found)) (more : DefinedTypeId → Option Found) → ((d : DefinedTypeId) → more d ≡ None) → Takes t more t
takes-nothing t more none d = sym (ap (better (find_value t d)) (none d))
