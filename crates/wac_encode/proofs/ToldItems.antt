-- What a state records of an item that it is told of.
use Rattle.std.specs.Prelude.{◌==◌, is_some}
use Rattle.std.proofs.Common.{ℕ, ◌≡◌, Bool, true, false, not, if◌then◌else◌, List, [], ◌∷◌, Option, Some, None, slice_get, refl, ap, sym, ◌∙◌, subst}
use Rattle.std.proofs.Math.Path.{fun_ext}
use Rattle.wac_types_shapes.specs.primitives.Name.{Name, option_case, first_some}
use Rattle.wac_types_shapes.specs.primitives.Tree.{Leaf, Tree, resource}
use Rattle.wac_types_shapes.specs.declared.shapes.component.DefinedTypeId.{DefinedTypeId}
use Rattle.wac_types_shapes.specs.declared.shapes.component.Interface.{Interface}
use Rattle.wac_types_shapes.specs.declared.shapes.component.InterfaceId.{InterfaceId}
use Rattle.wac_types_shapes.specs.declared.shapes.component.ModuleTypeId.{ModuleTypeId}
use Rattle.wac_types_shapes.specs.declared.shapes.component.ResourceId.{ResourceId}
use Rattle.wac_types_shapes.specs.declared.shapes.component.ValueType.{ValueType}
use Rattle.wac_types_shapes.specs.declared.shapes.component.ItemKind.{ItemKind}
use Rattle.wac_types_shapes.specs.declared.shapes.component.ItemKind.TheVariants as kind
use Rattle.wac_types_shapes.specs.declared.shapes.component.«Type».{«Type» as AnyType}
use Rattle.wac_types_shapes.specs.declared.shapes.component.«Type».TheVariants as ty
use Rattle.wac_types_collection.specs.collection.Collection.{Collection, IsWellFormed, HasInterface, holds_type, item_at}
use Rattle.wac_types_collection.specs.collection.Held.{resolved}
use Rattle.wac_types_collection.specs.collection.Bound.{Bindings, own_name}
use Rattle.wac_binary.specs.Unfold.{Scope, Bound}
use Rattle.wac_encode_stacks.specs.private.Beside.{GoesOnBeside}
use Rattle.wac_encode_stacks.specs.private.Brought.{GoodOnce}
use Rattle.wac_encode_stacks.specs.Good.{At, Good, IsHeld, IsOf, innermost, top}
use Rattle.wac_encode_stacks.specs.Instances.{taken_leaf}
use Rattle.wac_encode_stacks.specs.Listed.{calling}
use Rattle.wac_encode_stacks.specs.Scopes.{Open, listed}
use Rattle.wac_encode_stacks.proofs.Aliases.{end-held}
use Rattle.wac_encode_scopes.specs.declared.scope.Scope.{Scope as OpenScope}
use Rattle.wac_encode_scopes.specs.Books.{opened}
use Rattle.wac_encode_scopes.specs.private.Told.{TellsItems}
use Rattle.wac_encode_scopes.specs.private.Listing.{BindsType}
use Rattle.wac_encode_scopes.specs.Roots.{IsRoot, items_of}
use Rattle.wac_encode_scopes.specs.States.{outward, stack, Goes, IsRecordedAt, IsTypeAt, RecordsHere}
use Rattle.wac_encode_scopes.specs.private.Telling.{is_one_of, telling, with_own_names, TellsInstance}
use Rattle.wac_encode_interfaces.proofs.Besides.{same-items}
use Rattle.wac_encode.specs.declared.state.State.{State}
use Rattle.wac_encode.specs.Named.{HasNameIn}
use Rattle.wac_encode.specs.Root.{component_scope, IsStateFor, KeepsOther}
use Rattle.wac_encode.specs.Told.{NamesDefinition, StandsFor, StandsForType, TellsItem, and_told, leaf_in, told_bindings}
use Rattle.wac_encode.specs.private.Ready.{IsRecordable, type_end}
use Rattle.wac_encode.specs.private.Resources.{AreBoundAs}
use Rattle.wac_encode.proofs.HeldItems.{id-is, interface-there, no-some, no-true, of-one, one-of, own-held}
use Rattle.wac_encode.proofs.ItemNames.{instance-named, type-named}
use Rattle.wac_encode.proofs.Roots.{alone, innermost-is, other-on, state-on}

-- bindings that an item does not change

told-same : (c : Collection) (w : Scope) (item : ItemKind) (k : ℕ) (m : Bindings) → ((r : ResourceId) → m r ≡ None → told_bindings c w item k r ≡ None) → and_told c w item k m ≡ m
told-same c w item k m none = fun_ext (λ r. by r (m r) refl)
  where
    by : (r : ResourceId) (o : Option Leaf) → m r ≡ o → first_some (m r) (told_bindings c w item k r) ≡ m r
    by r None is = ap (λ (x : Option Leaf). first_some x (told_bindings c w item k r)) is ∙ none r is ∙ sym is
    by r (Some l) is = ap (λ (x : Option Leaf). first_some x (told_bindings c w item k r)) is ∙ sym is

-- A type item that is recorded binds nothing, and so does one of a core module.
told-type : (c : Collection) (w : Scope) (a : AnyType) (k : ℕ) → IsRecordable a → (r : ResourceId) → told_bindings c w (kind.TypeItem a) k r ≡ None
told-type c w (ty.Resource q) k h r = absurd h
told-type c w (ty.Module x) k h r = absurd h
told-type c w (ty.Func f) k h r = refl
told-type c w (ty.Value v) k h r = refl
told-type c w (ty.Interface i) k h r = refl
told-type c w (ty.World x) k h r = refl

-- Another resource is not bound by a resource.
told-other : (c : Collection) (w : Scope) (q : ResourceId) (k : ℕ) (r : ResourceId) → (r ≡ q → ⊥) → told_bindings c w (kind.TypeItem (ty.Resource q)) k r ≡ None
told-other c w q k r other = by ((resolved c q).0 == q.0) (r.0 == q.0) refl
  where
    by : (x y : Bool) → (r.0 == q.0) ≡ y → (if x then (if y then leaf_in (slice_get w.types k) else None) else None) ≡ None
    by true true is = absurd (other (id-is r q is))
    by true false is = refl
    by false y is = refl

-- nothing changes

pub tells-none : (c : Collection) (b : Bool) (item : ItemKind) (k : ℕ) (s : State) → ((m : Bindings) → IsStateFor c b m s → (r : ResourceId) → m r ≡ None → told_bindings c (component_scope s) item k r ≡ None)
    → ((m : Bindings) (d : DefinedTypeId) → NamesDefinition c m item d → HasNameIn b s d) → TellsItem c b item k s s
tells-none c b item k s none named = record {
  unchanged = refl;
  named = λ m h d names. named m d names;
  state = λ m h. subst (λ (n : Bindings). IsStateFor c b n s) (sym (told-same c (component_scope s) item k m (none m h))) h;
  other = λ d m h. h;
}

pub tells-module : (c : Collection) (b : Bool) (a : AnyType) (x : ModuleTypeId) (k : ℕ) (s : State) → a ≡ ty.Module x → TellsItem c b (kind.TypeItem a) k s s
tells-module c b a x k s is = subst (λ (t : AnyType). TellsItem c b (kind.TypeItem t) k s s) (sym is) (tells-none c b (kind.TypeItem (ty.Module x)) k s (λ m h r none. refl) (λ m d names. absurd names))

pub tells-other : (c : Collection) (b : Bool) (item : ItemKind) (k : ℕ) (s : State) → ((i : InterfaceId) → item ≡ kind.Instance i → ⊥) → ((a : AnyType) → item ≡ kind.TypeItem a → ⊥) → TellsItem c b item k s s
tells-other c b (kind.Instance i) k s one two = absurd (one i refl)
tells-other c b (kind.TypeItem a) k s one two = absurd (two a refl)
tells-other c b (kind.Func f) k s one two = tells-none c b (kind.Func f) k s (λ m h r none. refl) (λ m d names. absurd names)
tells-other c b (kind.Component w) k s one two = tells-none c b (kind.Component w) k s (λ m h r none. refl) (λ m d names. absurd names)
tells-other c b (kind.Module x) k s one two = tells-none c b (kind.Module x) k s (λ m h r none. refl) (λ m d names. absurd names)
tells-other c b (kind.Value v) k s one two = tells-none c b (kind.Value v) k s (λ m h r none. refl) (λ m d names. absurd names)

pub tells-as : (c : Collection) (b : Bool) (item other : ItemKind) (k : ℕ) (old new : State) → item ≡ other → TellsItem c b other k old new → TellsItem c b item k old new
tells-as c b item other k old new is h = subst (λ (x : ItemKind). TellsItem c b x k old new) (sym is) h

pub stands-as : (c : Collection) (b : Bool) (item other : ItemKind) (k : ℕ) (s : State) → item ≡ other → (m : Bindings) × IsStateFor c b m s × StandsFor c m (component_scope s) item k → (m : Bindings) × IsStateFor c b m s × StandsFor c m (component_scope s) other k
stands-as c b item other k s is (m, state, stands) = (m, state, subst (λ (x : ItemKind). StandsFor c m (component_scope s) x k) is stands)

-- a type is recorded

pub recordable : (a : AnyType) → ((r : ResourceId) → a ≡ ty.Resource r → ⊥) → ((x : ModuleTypeId) → a ≡ ty.Module x → ⊥) → IsRecordable a
recordable (ty.Resource r) one two = one r refl
recordable (ty.Module x) one two = two x refl
recordable (ty.Func f) one two = tt
recordable (ty.Value v) one two = tt
recordable (ty.Interface i) one two = tt
recordable (ty.World w) one two = tt

pub tells-again : (c : Collection) (b : Bool) (a t : AnyType) (k i : ℕ) (s : State) → IsRecordable a → t ≡ type_end c a → IsRecordedAt b s.scopes t listed i → TellsItem c b (kind.TypeItem a) k s s
tells-again c b a t k i s plain is at = tells-none c b (kind.TypeItem a) k s (λ m h r none. told-type c (component_scope s) a k plain r) (λ m d names. type-named c b a t i s is at m d names)

pub end-plain : (c : Collection) (a : AnyType) → ((v : ValueType) → a ≡ ty.Value v → ⊥) → a ≡ type_end c a
end-plain c (ty.Value v) other = absurd (other v refl)
end-plain c (ty.Resource r) other = refl
end-plain c (ty.Func f) other = refl
end-plain c (ty.Interface i) other = refl
end-plain c (ty.World w) other = refl
end-plain c (ty.Module x) other = refl

pub kind-as : (a t : AnyType) → a ≡ t → kind.TypeItem a ≡ kind.TypeItem t
kind-as a t is = ap kind.TypeItem is

-- The index refers to the type under which the item is recorded.
at-end : (c : Collection) → IsWellFormed c → (m : Bindings) (w : Scope) (a : AnyType) (k : ℕ) → IsRecordable a → StandsForType c m w a k → (t : Tree) × IsHeld c m (type_end c a) t × IsOf (type_end c a) t × At w.types k t
at-end c wf m w (ty.Resource r) k plain h = absurd plain
at-end c wf m w (ty.Module x) k plain h = absurd plain
at-end c wf m w (ty.Func f) k plain h = h
at-end c wf m w (ty.Interface i) k plain h = h
at-end c wf m w (ty.World x) k plain h = h
at-end c wf m w (ty.Value v) k plain (t, held, sort, at) = (t, end-held c wf m v t held, sort, at)

pub type-stands : GoodOnce → (c : Collection) → IsWellFormed c → (b : Bool) (a t : AnyType) (k : ℕ) (s : State) → t ≡ type_end c a → IsRecordable a → (m : Bindings) × IsStateFor c b m s × StandsFor c m (component_scope s) (kind.TypeItem a) k → IsTypeAt c b s.scopes t k
type-stands once c wf b a t k s is plain (m, h, stands) ms good =
    let at = at-end c wf m (component_scope s) a k plain stands in
    let same = once c (m ∷ []) ms (stack b s.scopes) h.good good in
    subst (λ (x : AnyType). (u : Tree) × IsHeld c (top ms) x u × IsOf x u × At ((innermost (stack b s.scopes)).types) k u) (sym is)
    (at.0, subst (λ (ns : List Bindings). IsHeld c (top ns) (type_end c a) at.0) same at.1, at.2, subst (λ (w : Scope). At w.types k at.0) (sym (innermost-is b s.scopes h.root)) at.3)

pub tells-type : GoesOnBeside → (c : Collection) (b : Bool) (a t : AnyType) (k : ℕ) (f : Open → Open) (old new : State) → IsRecordable a → t ≡ type_end c a → (m : Bindings) × IsStateFor c b m old × StandsFor c m (component_scope old) (kind.TypeItem a) k
    → Goes c b old.scopes new.scopes → RecordsHere b f old.scopes new.scopes → IsRecordedAt b new.scopes t listed k → TellsItem c b (kind.TypeItem a) k old new
tells-type beside c b a t k f old new plain end (m, is, stands) goes records at = record {
  unchanged = ap items_of records.content;
  named = λ n h d names. type-named c b a t k new end at n d names;
  state = λ n h.
      subst (λ (x : Bindings). IsStateFor c b x new) (sym (told-same c (component_scope old) (kind.TypeItem a) k n (λ r none. told-type c (component_scope old) a k plain r)))
      (state-on c b n old new goes h);
  other = other-on beside c b m old new is goes;
}

-- the other collection's records

pub other-records : (b : Bool) (f : Open → Open) (old new : State) → RecordsHere b f old.scopes new.scopes → KeepsOther b old new
other-records b f old new records d n h = record {
  root = subst IsRoot (sym records.content) h.root;
  good =
      subst (Good d (n ∷ []))
      (sym (ap (λ (o : Open). o ∷ outward (not b) new.scopes.around.items) records.other ∙ ap (λ (ss : List OpenScope). opened (not b) old.scopes.here ∷ outward (not b) ss) (same-items new.scopes old.scopes records.around)))
      h.good;
  held = h.held;
}

-- a resource is bound

pub tells-alias : (c : Collection) (b : Bool) (q : ResourceId) (k : ℕ) (s : State) → ((resolved c q).0 == q.0) ≡ false → TellsItem c b (kind.TypeItem (ty.Resource q)) k s s
tells-alias c b q k s alias = tells-none c b (kind.TypeItem (ty.Resource q)) k s (λ m h r none.
    ap (λ (x : Bool). if x then (if r.0 == q.0 then leaf_in (slice_get (component_scope s).types k) else None) else None) alias) (λ m d names. absurd names)

pub tells-bound : (c : Collection) (b : Bool) (q : ResourceId) (k : ℕ) (s : State) → ((d : Collection) (ms : List Bindings) → Good d ms (stack b s.scopes) → (l : Leaf) × (top ms q ≡ Some l)) → TellsItem c b (kind.TypeItem (ty.Resource q)) k s s
tells-bound c b q k s bound = tells-none c b (kind.TypeItem (ty.Resource q)) k s (λ m h r none.
    told-other c (component_scope s) q k r (λ same.
    let at = bound c (m ∷ []) h.good in
    no-some at.0 (sym none ∙ ap m same ∙ at.1)))
    (λ m d names. absurd names)

module _ (c : Collection) (b : Bool) (q : ResourceId) (k : ℕ) (old : State) (l : Leaf) (at : At ((component_scope old).types) k (resource l)) (end : ((resolved c q).0 == q.0) ≡ true) where
  called : (n : Bindings) → n q ≡ None → calling q l n ≡ and_told c (component_scope old) (kind.TypeItem (ty.Resource q)) k n
  called n none = fun_ext (λ r. by r (r.0 == q.0) refl)
    where
      told : ResourceId → Bool → Bool → Option Leaf
      told r x y = if x then (if y then leaf_in (slice_get (component_scope old).types k) else None) else None

      last : (o : Option Leaf) → o ≡ first_some o None
      last None = refl
      last (Some x) = refl

      by : (r : ResourceId) (y : Bool) → (r.0 == q.0) ≡ y → (if r.0 == q.0 then Some l else n r) ≡ first_some (n r) (told r ((resolved c q).0 == q.0) (r.0 == q.0))
      by r true is =
          ap (λ (y : Bool). if y then Some l else n r) is
          ∙ sym (ap leaf_in at)
          ∙ sym (ap (λ (y : Bool). told r true y) is)
          ∙ sym (ap (λ (x : Bool). told r x (r.0 == q.0)) end)
          ∙ sym (ap (λ (o : Option Leaf). first_some o (told r ((resolved c q).0 == q.0) (r.0 == q.0))) (ap n (id-is r q is) ∙ none))
      by r false is =
          ap (λ (y : Bool). if y then Some l else n r) is
          ∙ last (n r)
          ∙ sym (ap (λ (x : Bool). first_some (n r) (told r x false)) end)
          ∙ sym (ap (λ (y : Bool). first_some (n r) (told r ((resolved c q).0 == q.0) y)) is)

  held-called : (n : Bindings) → ((r : ResourceId) (x : Leaf) → n r ≡ Some x → holds_type c (ty.Resource r) ≡ true) → holds_type c (ty.Resource q) ≡ true → (r : ResourceId) (x : Leaf) → calling q l n r ≡ Some x → holds_type c (ty.Resource r) ≡ true
  held-called n held holds r x is = by (r.0 == q.0) refl is
    where
      by : (y : Bool) → (r.0 == q.0) ≡ y → (if y then Some l else n r) ≡ Some x → holds_type c (ty.Resource r) ≡ true
      by true same e = subst (λ (z : ResourceId). holds_type c (ty.Resource z) ≡ true) (sym (id-is r q same)) holds
      by false same e = held r x e

pub tells-resource : (c : Collection) (b : Bool) (q : ResourceId) (k : ℕ) (f : Open → Open) (old new : State) → holds_type c (ty.Resource q) ≡ true → ((resolved c q).0 == q.0) ≡ true
    → ((d : Collection) (ms : List Bindings) → Good d ms (stack b old.scopes) → top ms q ≡ None) → (m : Bindings) × IsStateFor c b m old × StandsFor c m (component_scope old) (kind.TypeItem (ty.Resource q)) k
    → BindsType b q k old.scopes new.scopes → RecordsHere b f old.scopes new.scopes → TellsItem c b (kind.TypeItem (ty.Resource q)) k old new
tells-resource c b q k f old new holds end unbound (m, is, stands) binds records =
    let (l, at) = stands (id-is (resolved c q) q end) (unbound c (m ∷ []) is.good) in
    record {
      unchanged = ap items_of records.content;
      named = λ n h d names. absurd names;
      state = λ n h.
          let none = unbound c (n ∷ []) h.good in
          let there = subst (λ (w : Scope). At w.types k (resource l)) (sym (innermost-is b old.scopes h.root)) at in
          let on = binds c n l (alone c b n old h) h.good none there in
          subst (λ (x : Bindings). IsStateFor c b x new) (called c b q k old l at end n none)
          (record { root = subst IsRoot (sym records.content) h.root; good = on.0; held = held-called c b q k old l at end n h.held holds });
      other = other-records b f old new records;
    }

-- an instance is told

module _ (c : Collection) (wf : IsWellFormed c) (b : Bool) (i : InterfaceId) (it : Interface) (at : item_at c.interfaces i.0 ≡ Some it) (k : ℕ) (old : State) (m : Bindings) (h : IsStateFor c b m old) (x : Bound) (here : At ((component_scope old).instances) k x)
    (free : List ResourceId) (are : AreBoundAs c b false old free) where
  abbrev item : ItemKind
  item = kind.Instance i

  abbrev own : ResourceId → Option Name
  own r = own_name c it.uses it.exports r

  abbrev leaf : Name → Option Leaf
  leaf n = Some (taken_leaf x n)

  told-own : (r : ResourceId) → told_bindings c (component_scope old) item k r ≡ option_case (own r) None leaf
  told-own r =
      ap (λ (o : Option Interface). option_case o None (λ y. option_case (slice_get (component_scope old).instances k) None (λ z. option_case (own_name c y.uses y.exports r) None (λ n. Some (taken_leaf z n))))) at
      ∙ ap (λ (o : Option Bound). option_case o None (λ z. option_case (own r) None (λ n. Some (taken_leaf z n)))) here

  one-in : (r : ResourceId) → is_one_of free r ≡ true → is_some (m r) ≡ false
  one-in r test = ((are c m h r).0 (one-of free r test)).1

  in-one : (r : ResourceId) (n : Name) → own r ≡ Some n → m r ≡ None → is_one_of free r ≡ true
  in-one r n named none = of-one free r ((are c m h r).1 (own-held c wf i it at r n named, ap is_some none))

  pub own-none : (r : ResourceId) (n : Name) → is_one_of free r ≡ true → own r ≡ Some n → m r ≡ None
  own-none r n test named = by (m r) (one-in r test)
    where
      by : (o : Option Leaf) → is_some o ≡ false → o ≡ None
      by None is = refl
      by (Some l) is = absurd (no-true (sym is))

  pub same-told : with_own_names c it.uses it.exports (is_one_of free) (taken_leaf x) m ≡ and_told c (component_scope old) item k m
  same-told = fun_ext (λ r. by r (m r) refl (is_one_of free r) refl)
    where
      told : ResourceId → Option Leaf
      told r = told_bindings c (component_scope old) item k r

      none : (r : ResourceId) → m r ≡ None → is_one_of free r ≡ false → (o : Option Name) → own r ≡ o → None ≡ option_case o None leaf
      none r is test None named = refl
      none r is test (Some n) named = absurd (no-true (sym test ∙ in-one r n named is))

      by : (r : ResourceId) (o : Option Leaf) → m r ≡ o → (t : Bool) → is_one_of free r ≡ t → (if is_one_of free r then option_case (own r) (m r) leaf else m r) ≡ first_some (m r) (told r)
      by r (Some l) is true test = absurd (no-true (sym (one-in r test) ∙ ap is_some is))
      by r (Some l) is false test = ap (λ (t : Bool). if t then option_case (own r) (m r) leaf else m r) test ∙ is ∙ sym (ap (λ (o : Option Leaf). first_some o (told r)) is)
      by r None is true test =
          ap (λ (t : Bool). if t then option_case (own r) (m r) leaf else m r) test ∙ ap (λ (o : Option Leaf). option_case (own r) o leaf) is
          ∙ sym (told-own r) ∙ sym (ap (λ (o : Option Leaf). first_some o (told r)) is)
      by r None is false test =
          ap (λ (t : Bool). if t then option_case (own r) (m r) leaf else m r) test ∙ is ∙ none r is test (own r) refl
          ∙ sym (told-own r) ∙ sym (ap (λ (o : Option Leaf). first_some o (told r)) is)

  pub held-told : (r : ResourceId) (l : Leaf) → and_told c (component_scope old) item k m r ≡ Some l → holds_type c (ty.Resource r) ≡ true
  held-told r l is = by (m r) refl (own r) refl is
    where
      by : (o : Option Leaf) → m r ≡ o → (n : Option Name) → own r ≡ n → first_some (m r) (told_bindings c (component_scope old) item k r) ≡ Some l → holds_type c (ty.Resource r) ≡ true
      by (Some y) bound n named e = h.held r y bound
      by None bound (Some n) named e = own-held c wf i it at r n named
      by None bound None named e =
          absurd (no-some l (sym (ap (λ (o : Option Leaf). first_some o (told_bindings c (component_scope old) item k r)) bound ∙ told-own r ∙ ap (λ (o : Option Name). option_case o None leaf) named) ∙ e))

pub tells-instance : GoodOnce → (c : Collection) → IsWellFormed c → (b : Bool) (i : InterfaceId) (k : ℕ) (free : List ResourceId) (old new : State) → HasInterface c i → AreBoundAs c b false old free
    → (m : Bindings) × IsStateFor c b m old × StandsFor c m (component_scope old) (kind.Instance i) k
    → ((it : Interface) → item_at c.interfaces i.0 ≡ Some it → TellsInstance c b it (is_one_of free) k old.scopes new.scopes)
    → ((it : Interface) → item_at c.interfaces i.0 ≡ Some it → TellsItems c b it (is_one_of free) k old.scopes new.scopes) → TellsItem c b (kind.Instance i) k old new
tells-instance once c wf b i k free old new has are (m, is, stands) tells records =
    let (it, at) = interface-there c.interfaces i.0 has in
    let (x, here, shows) = stands it at in
    let items = records it at in
    let recorded = items.records in
    let there = subst (λ (w : Scope). At w.instances k x) (sym (innermost-is b old.scopes is.root)) here in
    let on = tells it at m [] x is.good there shows (λ r n test named. (own-none c wf b i it at k old m is x here free are r n test named, refl)) in
    let state : IsStateFor c b (and_told c (component_scope old) (kind.Instance i) k m) new = record {
      root = subst IsRoot (sym recorded.content) is.root;
      good = subst (λ (n : Bindings). Good c (n ∷ []) (stack b new.scopes)) (same-told c wf b i it at k old m is x here free are) on.0;
      held = held-told c wf b i it at k old m is x here free are;
    } in
    record {
      unchanged = ap items_of recorded.content;
      named = λ n h d names.
          let told = records names.interface names.there in
          instance-named c wf b i k old new n h free are d names told.told told.apart (told.records).here;
      state = λ n h.
          let same : m ≡ n = ap top (once c (m ∷ []) (n ∷ []) (stack b old.scopes) is.good h.good) in
          subst (λ (y : Bindings). IsStateFor c b (and_told c (component_scope old) (kind.Instance i) k y) new) same state;
      other = other-records b (telling c it (is_one_of free) items.told k) old new recorded;
    }
