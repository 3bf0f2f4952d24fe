-- The component as the only open scope, and types that are written into it.
use Rattle.std.proofs.Common.{◌≡◌, Bool, not, List, [], ◌∷◌, ◌++◌, Some, None, refl, ap, sym, ◌∙◌, subst, arith}
use Rattle.std.specs.List.{AllByRecursion, AllZip}
use Rattle.std.proofs.lemmas.List.{append-nil}
use Rattle.wac_types_collection.specs.collection.Collection.{Collection}
use Rattle.wac_types_collection.specs.collection.Bound.{Bindings}
use Rattle.wac_binary.specs.Items.{Item}
use Rattle.wac_binary.specs.Meaning.{meaning}
use Rattle.wac_binary.specs.Unfold.{Scope}
use Rattle.wac_encode_stacks.specs.private.Beside.{GoesOnBeside}
use Rattle.wac_encode_stacks.specs.Good.{Good, Keeps, Onward, innermost}
use Rattle.wac_encode_stacks.specs.Scopes.{Open, Stack, envs, scope_of}
use Rattle.wac_encode_scopes.specs.declared.encodable.Encodable.{Encodable}
use Rattle.wac_encode_scopes.specs.declared.encodable.Encodable.TheVariants.{Builder, Instance, Component}
use Rattle.wac_encode_scopes.specs.declared.scope.Scope.{Scope as OpenScope}
use Rattle.wac_encode_scopes.specs.declared.state.State.{State as Scopes}
use Rattle.wac_encode_scopes.specs.Books.{opened}
use Rattle.wac_encode_scopes.specs.Contents.{AddsTypes, IsTypeItem, content_of}
use Rattle.wac_encode_scopes.specs.Lending.{GoesOnLent}
use Rattle.wac_encode_scopes.specs.Roots.{IsRoot, items_of}
use Rattle.wac_encode_scopes.specs.States.{outward, stack, AllAddTypes, Goes}
use Rattle.wac_encode_scopes.proofs.Stepped.{same-stack}
use Rattle.wac_encode_interfaces.specs.private.Refused.{AreStillOpen, BeginsWith, KeepsScopes}
use Rattle.wac_encode_interfaces.proofs.Refused.{keeps-none, keeps-types}
use Rattle.wac_encode.specs.declared.state.State.{State}
use Rattle.wac_encode.specs.Lending.{StaysWhenLent, with_component}
use Rattle.wac_encode.specs.Root.{written_items, component_scope, IsStateFor, KeepsOldItems, KeepsOther, WritesTypes, outermost}

pub no-some : {A : Type 0} → (x : A) → None ≡ Some x → ⊥
no-some x is = cc

-- the content of a root

pub root-is : (x : Encodable) → IsRoot x → x ≡ Builder (items_of x)
root-is (Builder items) h = refl
root-is (Instance ds) h = absurd h
root-is (Component ds) h = absurd h

pub innermost-is : (b : Bool) (s : Scopes) → IsRoot s.here.content → innermost (stack b s) ≡ (meaning (items_of s.here.content)).scope
innermost-is b s is = ap (λ (x : Encodable). scope_of (content_of x) (envs (outward b s.around.items))) (root-is s.here.content is)

pub root-more : (x y : Encodable) → IsRoot x → AddsTypes x y → IsRoot y
root-more (Builder xs) (Builder ys) is h = tt
root-more (Builder xs) (Instance ds) is h = absurd h
root-more (Builder xs) (Component ds) is h = absurd h
root-more (Instance ds) y is h = absurd is
root-more (Component ds) y is h = absurd is

pub types-added : (x y : Encodable) → IsRoot x → AddsTypes x y → (more : List Item) × (items_of y ≡ items_of x ++ more) × AllByRecursion IsTypeItem more
types-added (Builder xs) (Builder ys) is h = h
types-added (Builder xs) (Instance ds) is h = absurd h
types-added (Builder xs) (Component ds) is h = absurd h
types-added (Instance ds) y is h = absurd is
types-added (Component ds) y is h = absurd is

-- no scope is open around the component

one-open : (c : Collection) (os : Stack) (o : Open) → Good c [] (os ++ o ∷ []) → ⊥
one-open c [] o h = h
one-open c (x ∷ os) o h = h

none-open : (c : Collection) (b : Bool) (ss : List OpenScope) → Good c [] (outward b ss) → ss ≡ []
none-open c b [] h = refl
none-open c b (s ∷ ss) h = absurd (one-open c (outward b ss) (opened b s) h)

pub alone : (c : Collection) (b : Bool) (m : Bindings) (s : State) → IsStateFor c b m s → s.scopes.around.items ≡ []
alone c b m s h = none-open c b s.scopes.around.items h.good.1

-- what an error leaves

outer : (ss : List OpenScope) (t k : OpenScope) (zs : List OpenScope) → ss ++ t ∷ [] ≡ k ∷ zs → outermost ss t ≡ k.content
outer [] t k zs is = let same : t ≡ k = cc in ap (λ (x : OpenScope). x.content) same
outer (s ∷ ss) t k zs is = let same : s ≡ k = cc in ap (λ (x : OpenScope). x.content) same

begins-root : (x y : Encodable) → IsRoot x → BeginsWith x y → (more : List Item) × (items_of y ≡ items_of x ++ more)
begins-root (Builder xs) (Builder ys) is h = h
begins-root (Builder xs) (Instance ds) is h = absurd h
begins-root (Builder xs) (Component ds) is h = absurd h
begins-root (Instance ds) y is h = absurd is
begins-root (Component ds) y is h = absurd is

first-kept : (here : OpenScope) (s : Scopes) → IsRoot here.content → AreStillOpen (here ∷ []) s → (more : List Item) × (items_of (outermost s.around.items s.here) ≡ items_of here.content ++ more)
first-kept here s root r = by r.kept r.scopes r.contents
  where
    by : (kept : List OpenScope) → s.around.items ++ s.here ∷ [] ≡ kept ++ r.inner → AllZip (λ x y. BeginsWith x.content y.content) (here ∷ []) kept
        → (more : List Item) × (items_of (outermost s.around.items s.here) ≡ items_of here.content ++ more)
    by [] is h = absurd h
    by (k ∷ ks) is h =
        let begins = begins-root here.content k.content root h.0 in
        (begins.0, ap items_of (outer s.around.items s.here k (ks ++ r.inner) is) ∙ begins.1)

pub keeps-old : (c : Collection) (b : Bool) (m : Bindings) (old new : State) → IsStateFor c b m old → KeepsScopes old.scopes new.scopes → KeepsOldItems old new
keeps-old c b m old new h keeps =
    first-kept old.scopes.here new.scopes h.root (subst (λ (ss : List OpenScope). AreStillOpen (ss ++ old.scopes.here ∷ []) new.scopes) (alone c b m old h) keeps)

pub keeps-old-types : (c : Collection) (b : Bool) (m : Bindings) (old new : State) → IsStateFor c b m old → AllAddTypes old.scopes new.scopes → KeepsOldItems old new
keeps-old-types c b m old new h adds = keeps-old c b m old new h (keeps-types old.scopes new.scopes adds)

pub keeps-all-old : (c : Collection) (b : Bool) (m : Bindings) (s : State) → IsStateFor c b m s → KeepsOldItems s s
keeps-all-old c b m s h = keeps-old c b m s s h (keeps-none s.scopes)

-- types are written

pub state-on : (c : Collection) (b : Bool) (n : Bindings) (old new : State) → Goes c b old.scopes new.scopes → IsStateFor c b n old → IsStateFor c b n new
state-on c b n old new goes h = record {
  root = root-more old.scopes.here.content new.scopes.here.content h.root goes.types.0;
  good = (goes.onward (n ∷ []) h.good).0;
  held = h.held;
}

pub other-on : GoesOnBeside → (c : Collection) (b : Bool) (m : Bindings) (old new : State) → IsStateFor c b m old → Goes c b old.scopes new.scopes → KeepsOther b old new
other-on beside c b m old new h goes d n other = record {
  root = root-more old.scopes.here.content new.scopes.here.content h.root goes.types.0;
  good =
      subst (Good d (n ∷ [])) (sym goes.other)
      (beside c d (m ∷ []) (n ∷ []) (stack b old.scopes) (stack b new.scopes) (stack (not b) old.scopes) (same-stack b (not b) old.scopes) (goes.onward (m ∷ []) h.good) other.good).0.0;
  held = other.held;
}

pub keeps-on : (b : Bool) (c : Collection) (ms : Bindings) (old new : State) → IsRoot old.scopes.here.content → IsRoot new.scopes.here.content → Onward c (ms ∷ []) (stack b old.scopes) (stack b new.scopes) → Keeps (component_scope old) (component_scope new)
keeps-on b c m old new root more on =
    subst (λ (w : Scope). Keeps w (component_scope new)) (innermost-is b old.scopes root)
    (subst (λ (w : Scope). Keeps (innermost (stack b old.scopes)) w) (innermost-is b new.scopes more) on.1.0.keeps)

pub writes-types : GoesOnBeside → (c : Collection) (b : Bool) (m : Bindings) (old new : State) → IsStateFor c b m old → Goes c b old.scopes new.scopes → WritesTypes c b old new
writes-types beside c b m old new h goes =
    let more = types-added old.scopes.here.content new.scopes.here.content h.root goes.types.0 in
    record {
      more = more.0;
      types = more.2;
      added = more.1;
      keeps = keeps-on b c m old new h.root (root-more old.scopes.here.content new.scopes.here.content h.root goes.types.0) (goes.onward (m ∷ []) h.good);
      state = λ n is. state-on c b n old new goes is;
      other = other-on beside c b m old new h goes;
    }

-- Nothing is written.
pub writes-none : (c : Collection) (b : Bool) (s : State) → WritesTypes c b s s
writes-none c b s = record {
  more = [];
  types = tt;
  added = sym (append-nil (written_items s));
  keeps = record { core_types = λ i t h. h; types = λ i t h. h; instances = λ i x h. h; modules = omega arith; components = omega arith };
  state = λ m h. h;
  other = λ d m h. h;
}

-- the component is lent

pub lent : GoesOnLent → StaysWhenLent
lent law s more c b m h means =
    let items = written_items s in
    let on = law s.scopes items more (root-is s.scopes.here.content h.root) means c b m [] h.good in
    let new = with_component s (items ++ more) in
    (record { root = tt; good = on.0; held = h.held }, keeps-on b c m s new h.root tt on)
