-- Components that are written by hand.
use Rattle.std.specs.Prelude.{ℕ, ◌≡◌, Bool, true, List, [], ◌∷◌, ◌++◌, length, Option, Some, None, Result, Ok, Err, OnOk, IfOk}
use Rattle.std.proofs.Common.{refl, ap, sym, ◌∙◌, subst, inl}
use Rattle.wac_types_shapes.specs.primitives.Name.{Name}
use Rattle.wac_types_shapes.specs.primitives.Tree.{imported, Leaf}
use Rattle.wac_types_shapes.specs.declared.shapes.component.DefinedType.{DefinedType}
use Rattle.wac_types_shapes.specs.declared.shapes.component.DefinedTypeId.{DefinedTypeId}
use Rattle.wac_types_shapes.specs.declared.shapes.component.Interface.{Interface}
use Rattle.wac_types_shapes.specs.declared.shapes.component.InterfaceId.{InterfaceId}
use Rattle.wac_types_shapes.specs.declared.shapes.component.ItemKind.{ItemKind}
use Rattle.wac_types_shapes.specs.declared.shapes.component.ItemKind.TheVariants as kind
use Rattle.wac_types_shapes.specs.declared.shapes.component.ResourceId.{ResourceId}
use Rattle.wac_types_shapes.specs.declared.shapes.component.ValueType.{ValueType}
use Rattle.wac_types_shapes.specs.declared.shapes.component.«Type».{«Type» as AnyType}
use Rattle.wac_types_shapes.specs.declared.shapes.component.«Type».TheVariants as ty
use Rattle.wac_types_collection.specs.collection.Collection.{Collection, IsWellFormed, holds_type, item_at, with_defined}
use Rattle.wac_types_collection.specs.collection.Bound.{Bindings, held_tree}
use Rattle.wac_binary.specs.Unfold.{Bound, Scope}
use Rattle.wac_binary.specs.HasMeaning.{IsInstance}
use Rattle.wac_binary.specs.Indexes.{space, indexes}
use Rattle.wac_binary.specs.Items.{Item, import_item}
use Rattle.wac_binary.specs.Meaning.{meaning}
use Rattle.wac_binary.specs.declared.sorts.Description.TheVariants as described
use Rattle.wac_binary.specs.declared.sorts.Sort.TheVariants as sort
use Rattle.wac_binary.specs.declared.types.ComponentValType.{ComponentValType}
use Rattle.wac_binary.specs.declared.types.ComponentValType.TheVariants.{Index}
use Rattle.wac_encode_faults.specs.declared.fault.EncodeFault.{EncodeFault}
use Rattle.wac_encode_faults.specs.declared.fault.WriteFault.TheVariants as fault
use Rattle.wac_encode_faults.specs.Faults.{IsLowest}
use Rattle.wac_encode_faults.specs.Free.{IsFree}
use Rattle.wac_encode_stacks.specs.Good.{At, Good, IsHeld, Means, Onward}
use Rattle.wac_encode_stacks.specs.Instances.{ImportsInstance, ShowsWhole, holding, import_leaf, position_of}
use Rattle.wac_encode_stacks.specs.Listed.{calling}
use Rattle.wac_encode_stacks.specs.Scopes.{Open, next_instance}
use Rattle.wac_encode_stacks.proofs.Whole.{interface-step}
use Rattle.wac_encode_scopes.specs.declared.encodable.Encodable.{Encodable}
use Rattle.wac_encode_scopes.specs.declared.scope.Scope.{Scope as OpenScope}
use Rattle.wac_encode_scopes.specs.Books.{opened}
use Rattle.wac_encode_scopes.specs.Contents.{content_of}
use Rattle.wac_encode_scopes.specs.States.{outward}
use Rattle.wac_encode_scopes.proofs.FreeAgreeing.{held-free}
use Rattle.wac_encode.specs.declared.state.State.{State}
use Rattle.wac_encode.specs.Errors.{HasTypeFault, NamesLowest}
use Rattle.wac_encode.specs.Growth.{AllKeepItems, StaysWhenGrown}
use Rattle.wac_encode.specs.Imported.{ImportsBound}
use Rattle.wac_encode.specs.Lending.{StaysWhenLent, with_component}
use Rattle.wac_encode.specs.Root.{component_scope, written_items, IsStateFor, RefersToType, WritesTypes}
use Rattle.wac_encode.specs.Told.{and_told, StandsFor, TellsItem}
use Rattle.wac_encode.proofs.Roots.{alone, root-is}
use Rattle.wac_encode_tests.specs.private.ByHand.{IsReadyFor}
use Rattle.wac_encode_tests.proofs.RootItems.{if-ok-is, interface-at, interface-there, on-ok-is}

-- the collection of an encoder

pub held-as : (c u : Collection) (a : AnyType) → u ≡ c → holds_type c a ≡ true → holds_type u a ≡ true
held-as c u a p h = subst (λ (x : Collection). holds_type x a ≡ true) (sym p) h

pub ready-as : (c u : Collection) (b d : Bool) (s : State) → u ≡ c → d ≡ b → IsReadyFor c b s → IsReadyFor u d s
ready-as c u b d s p q h = subst (λ (x : Collection). IsReadyFor x d s) (sym p) (subst (λ (e : Bool). IsReadyFor c e s) (sym q) h)

pub ready-back : (c u : Collection) (b d : Bool) (s : State) → u ≡ c → d ≡ b → IsReadyFor u d s → IsReadyFor c b s
ready-back c u b d s p q h = subst (λ (x : Collection). IsReadyFor x b s) p (subst (λ (e : Bool). IsReadyFor u e s) q h)

-- types that are written

writes-ready : (c : Collection) (b : Bool) (s t : State) → WritesTypes c b s t → IsReadyFor c b s → IsReadyFor c b t
writes-ready c b s t w h = (h.0, w.state h.0 h.1)

pub ok-ready : {T E : Type 0} → (c : Collection) (b : Bool) (s t : State) (r : Result T E) → OnOk r (WritesTypes c b s t) → IsReadyFor c b s → OnOk r (IsReadyFor c b t)
ok-ready {T} {E} c b s t (Ok x) w h = writes-ready c b s t w h
ok-ready {T} {E} c b s t (Err e) w h = tt

pub ready-after : {T E : Type 0} → (c u : Collection) (b d : Bool) (t : State) (r : Result T E) (x : T) → u ≡ c → d ≡ b → r ≡ Ok x → OnOk r (IsReadyFor u d t) → IsReadyFor c b t
ready-after {T} {E} c u b d t r x p q is h = ready-back c u b d t p q (on-ok-is r x is h)

pub writes-after : {T E : Type 0} → (c u : Collection) (b d : Bool) (s t : State) (r : Result T E) (x : T) → u ≡ c → d ≡ b → r ≡ Ok x → OnOk r (WritesTypes u d s t) → IsReadyFor c b s → IsReadyFor c b t
writes-after {T} {E} c u b d s t r x p q is w h = ready-back c u b d t p q (writes-ready u d s t (on-ok-is r x is w) (ready-as c u b d s p q h))

-- resources that are imported

imports-ready : (c : Collection) (b : Bool) (n : Name) (r : ResourceId) (m : Bindings) (o : Option Leaf) (s t : State) (k : ℕ) → ImportsBound c b n r m o s t k → IsReadyFor c b t
imports-ready c b n r m (Some l) s t k h = (m, h.state)
imports-ready c b n r m None s t k h = (calling r (import_leaf (written_items s)) m, h.state)

-- The import of a resource, whatever is bound before.
abbrev Imports : Collection → Bool → Name → ResourceId → State → State → ℕ → Type 0
Imports c b n r s t k = (m : Bindings) → IsStateFor c b m s → ImportsBound c b n r m (m r) s t k

pub import-after : {E : Type 0} → (c u : Collection) (b d : Bool) (n : Name) (r : ResourceId) (s t : State) (res : Result ℕ E) (k : ℕ) → u ≡ c → d ≡ b → res ≡ Ok k → IfOk res (Imports u d n r s t) → IsReadyFor c b s → IsReadyFor c b t
import-after {E} c u b d n r s t res k p q is imports h = ready-back c u b d t p q (imports-ready u d n r before.0 (before.0 r) s t k (if-ok-is (Imports u d n r s t) res k is imports before.0 before.1))
  where
    before : IsReadyFor u d s
    before = ready-as c u b d s p q h

-- types without a fault

bound-then : (c : Collection) (m : Bindings) (a : AnyType) → IsLowest (HasTypeFault c m a) None → (r : ResourceId) → IsFree c a r → (l : Leaf) × (m r ≡ Some l)
bound-then c m a low r free = by (m r) refl
  where
    by : (o : Option Leaf) → m r ≡ o → (l : Leaf) × (m r ≡ Some l)
    by (Some l) is = (l, is)
    by None is = absurd (low fault.UnboundResource (inl ((r, free, is), refl)))

-- value types that are told of

value-stands : (c : Collection) (m : Bindings) (w : Scope) (v : ValueType) (i : ℕ) → IsLowest (HasTypeFault c m (ty.Value v)) None → Means w (held_tree c m (ty.Value v)) (Index i) → StandsFor c m w (kind.TypeItem (ty.Value v)) i
value-stands c m w v i low means = (held_tree c m (ty.Value v), held-free c m (ty.Value v) (bound-then c m (ty.Value v) low), means.1, means.0)

-- The type index stands for the value type.
abbrev IsNameOf : Collection → Bool → State → ValueType → ℕ → Type 0
IsNameOf c b s v i = (m : Bindings) × IsStateFor c b m s × StandsFor c m (component_scope s) (kind.TypeItem (ty.Value v)) i

-- A value type that is used so means itself, whatever is bound.
abbrev MeansItself : Collection → Bool → State → ValueType → ComponentValType → Type 0
MeansItself c b s v x = (m : Bindings) → IsStateFor c b m s → Means (component_scope s) (held_tree c m (ty.Value v)) x

-- An error of a value type names its lowest fault, whatever is bound.
abbrev NamesFault : Collection → Bool → State → ValueType → Result ComponentValType EncodeFault → Type 0
NamesFault c b s v r = (m : Bindings) → IsStateFor c b m s → NamesLowest (HasTypeFault c m (ty.Value v)) r

pub value-named : (c u : Collection) (b d : Bool) (s t : State) (v : ValueType) (r : Result ComponentValType EncodeFault) (x : ComponentValType) (i : ℕ) → u ≡ c → d ≡ b → r ≡ Ok x → x ≡ Index i
    → OnOk r (WritesTypes u d s t) → IfOk r (MeansItself u d t v) → NamesFault u d s v r → IsReadyFor c b s → IsNameOf c b t v i
value-named c u b d s t v r x i p q is at writes means faults h = subst (λ (y : Collection). IsNameOf y b t v i) p (subst (λ (e : Bool). IsNameOf u e t v i) q (before.0, after, value-stands u before.0 (component_scope t) v i low there))
  where
    before : IsReadyFor u d s
    before = ready-as c u b d s p q h

    after : IsStateFor u d before.0 t
    after = let w : WritesTypes u d s t = on-ok-is r x is writes in w.state before.0 before.1

    low : IsLowest (HasTypeFault u before.0 (ty.Value v)) None
    low = subst (λ (o : Result ComponentValType EncodeFault). NamesLowest (HasTypeFault u before.0 (ty.Value v)) o) is (faults before.0 before.1)

    there : Means (component_scope t) (held_tree u before.0 (ty.Value v)) (Index i)
    there = subst (λ (y : ComponentValType). Means (component_scope t) (held_tree u before.0 (ty.Value v)) y) at (if-ok-is (MeansItself u d t v) r x is means before.0 after)

pub told-ready : (c : Collection) (b : Bool) (item : ItemKind) (k : ℕ) (s t : State) → TellsItem c b item k s t → IsReadyFor c b s → IsReadyFor c b t
told-ready c b item k s t tells h = (and_told c (component_scope s) item k h.0, tells.state h.0 h.1)

-- instances that are told of

-- The component with an import of an instance.
abbrev importing : Name → ℕ → State → State
importing n k s = with_component s (written_items s ++ import_item n (described.Instance k) ∷ [])

module _ (lent : StaysWhenLent) (imports : ImportsInstance) (whole : ShowsWhole) (c : Collection) (wf : IsWellFormed c) (b : Bool) (m : Bindings) (s : State) (i : InterfaceId) (it : Interface) (n : Name) (k : ℕ) (there : item_at c.interfaces i.0 ≡ Some it)
    (h : IsStateFor c b m s) (low : IsLowest (HasTypeFault c m (ty.Interface i)) None) (at : At (component_scope s).types k (held_tree c m (ty.Interface i))) where
  abbrev here : Open
  here = opened b s.scopes.here

  abbrev more : List Item
  more = written_items s ++ import_item n (described.Instance k) ∷ []

  abbrev shown : Bound
  shown = record { type = held_tree c m (ty.Interface i); side = imported; path = position_of (written_items s) ∷ [] }

  no-others : s.scopes.around.items ≡ []
  no-others = alone c b m s h

  good-here : Good c (m ∷ []) (here ∷ [])
  good-here = subst (λ (ss : List OpenScope). Good c (m ∷ []) (here ∷ outward b ss)) no-others h.good

  good-root : Good c (m ∷ []) (holding (written_items s) here ∷ [])
  good-root = subst (λ (x : Encodable). Good c (m ∷ []) (record here { content = content_of x } ∷ [])) (root-is s.scopes.here.content h.root) good-here

  is-instance : IsInstance (held_tree c m (ty.Interface i))
  is-instance = subst IsInstance (sym (interface-step c wf i it there m)) tt

  held-then : IsHeld c m (ty.Interface i) (held_tree c m (ty.Interface i))
  held-then = held-free c m (ty.Interface i) (bound-then c m (ty.Interface i) low)

  step : Onward c (m ∷ []) (holding (written_items s) here ∷ []) (holding more here ∷ [])
      × At ((meaning more).scope.instances) (next_instance (holding (written_items s) here)) shown
  step = imports c m (written_items s) here n k (held_tree c m (ty.Interface i)) good-root is-instance at

  state-then : IsStateFor c b m (importing n k s)
  state-then = (lent s (import_item n (described.Instance k) ∷ []) c b m h step.0.0.0.meaning).0

  stands-then : StandsFor c m (component_scope (importing n k s)) (kind.Instance i) (indexes (space sort.Instance) (written_items s))
  stands-then x found = (shown, step.1, whole c wf m i x shown found held-then)

-- The index stands for the instance.
abbrev IsInstanceAt : Collection → Bool → State → InterfaceId → ℕ → Type 0
IsInstanceAt c b s i j = (m : Bindings) × IsStateFor c b m s × StandsFor c m (component_scope s) (kind.Instance i) j

-- The index refers to the interface, whatever is bound.
abbrev RefersToInterface : Collection → Bool → State → InterfaceId → ℕ → Type 0
RefersToInterface c b s i k = (m : Bindings) → IsStateFor c b m s → RefersToType c m (ty.Interface i) s k

-- An error of an interface names its lowest fault, whatever is bound.
abbrev NamesInterfaceFault : Collection → Bool → State → InterfaceId → Result ℕ EncodeFault → Type 0
NamesInterfaceFault c b s i r = (m : Bindings) → IsStateFor c b m s → NamesLowest (HasTypeFault c m (ty.Interface i)) r

pub instance-stands : StaysWhenLent → ImportsInstance → ShowsWhole → (c u : Collection) → IsWellFormed c → (b d : Bool) (s t : State) (i : InterfaceId) (n : Name) (r : Result ℕ EncodeFault) (k j : ℕ) (xs ys : List Item) → u ≡ c → d ≡ b → r ≡ Ok k
    → xs ≡ written_items t → ys ≡ xs ++ import_item n (described.Instance k) ∷ [] → j ≡ indexes (space sort.Instance) xs → holds_type c (ty.Interface i) ≡ true
    → OnOk r (WritesTypes u d s t) → IfOk r (RefersToInterface u d t i) → NamesInterfaceFault u d s i r → IsReadyFor c b s → IsInstanceAt c b (with_component t ys) i j
instance-stands lent imports whole c u wf b d s t i n r k j xs ys p q is from to index holds writes refers faults h =
    subst (λ (y : Collection). IsInstanceAt y b (with_component t ys) i j) p
    (subst (λ (x : Bool). IsInstanceAt u x (with_component t ys) i j) q
    (subst (λ (zs : List Item). IsInstanceAt u d (with_component t zs) i j) (sym (to ∙ ap (λ (zs : List Item). zs ++ import_item n (described.Instance k) ∷ []) from))
    (subst (IsInstanceAt u d (importing n k t) i) (sym (index ∙ ap (indexes (space sort.Instance)) from))
    (before.0, state-then lent imports whole u wf-u d before.0 t i found.0 n k found.1 after low there, stands-then lent imports whole u wf-u d before.0 t i found.0 n k found.1 after low there))))
  where
    wf-u : IsWellFormed u
    wf-u = subst IsWellFormed (sym p) wf

    found : (it : Interface) × (item_at u.interfaces i.0 ≡ Some it)
    found = interface-at u i (interface-there u i (held-as c u (ty.Interface i) p holds))

    before : IsReadyFor u d s
    before = ready-as c u b d s p q h

    after : IsStateFor u d before.0 t
    after = let w : WritesTypes u d s t = on-ok-is r k is writes in w.state before.0 before.1

    low : IsLowest (HasTypeFault u before.0 (ty.Interface i)) None
    low = subst (λ (o : Result ℕ EncodeFault). NamesLowest (HasTypeFault u before.0 (ty.Interface i)) o) is (faults before.0 before.1)

    there : At (component_scope t).types k (held_tree u before.0 (ty.Interface i))
    there = if-ok-is (RefersToInterface u d t i) r k is refers before.0 after

-- a type that is added to the collection

pub grown-ready : {E : Type 0} → StaysWhenGrown → AllKeepItems → (c d : Collection) (b : Bool) (s : State) (x : DefinedType) (r : Result DefinedTypeId E) (id : DefinedTypeId) → r ≡ Ok id → IfOk r (λ i. (i.0 ≡ length c.defined) × (d ≡ with_defined c x)) → IsWellFormed c → IsReadyFor c b s → IsReadyFor d b s
grown-ready grows keeps c d b s x r id ok added wf h =
    let is : (id.0 ≡ length c.defined) × (d ≡ with_defined c x) = subst (λ q. IfOk q (λ i. (i.0 ≡ length c.defined) × (d ≡ with_defined c x))) ok added in
    (h.0, subst (λ (y : Collection). IsStateFor y b h.0 s) (sym is.1) (grows c (with_defined c x) b h.0 s wf ((keeps c).defined x) h.1))
