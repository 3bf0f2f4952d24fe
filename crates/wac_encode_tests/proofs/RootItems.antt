-- The root of open scopes, into which items are written.
use Rattle.std.specs.Prelude.{ℕ, zero, suc, length, ◌<◌, ◌≡◌, ◌==◌, ◌||◌, ◌↔◌, Bool, true, false, if◌then◌else◌, is_some, List, [], ◌∷◌, ◌++◌, Option, Some, None, Result, Ok, OnOk, IfOk, IsSome, Contains}
use Rattle.std.specs.List.{AllZip}
use Rattle.std.proofs.lemmas.Bool.{eqb-true}
use Rattle.std.proofs.Common.{refl, ap, ◌∙◌, sym, subst, arith, inl, inr}
use Rattle.indexmap.specs.IndexSet.{insert_key}
use Rattle.wac_types_shapes.specs.contracts.shapes.component.ResourceIdPartialEq.TheImpl as IdEq
use Rattle.wac_types_shapes.specs.primitives.Name.{Name}
use Rattle.wac_types_shapes.specs.primitives.Tree.{imported, Leaf, Place}
use Rattle.wac_types_shapes.specs.shapes.Kinds.{kind_type}
use Rattle.wac_types_shapes.specs.declared.shapes.component.ResourceId.{ResourceId}
use Rattle.wac_types_shapes.specs.declared.shapes.component.InterfaceId.{InterfaceId}
use Rattle.wac_types_shapes.specs.declared.shapes.component.Interface.{Interface}
use Rattle.wac_types_shapes.specs.declared.shapes.component.ItemKind.{ItemKind}
use Rattle.wac_types_shapes.specs.declared.shapes.component.ItemKind.TheVariants as kind
use Rattle.wac_types_shapes.specs.declared.shapes.component.«Type».{«Type» as AnyType}
use Rattle.wac_types_shapes.specs.declared.shapes.component.«Type».TheVariants as ty
use Rattle.wac_types_collection.specs.declared.collection.collection.Held.{Held}
use Rattle.wac_types_collection.specs.collection.Collection.{Collection, IsWellFormed, HasInterface, holds_type, item_at}
use Rattle.wac_types_collection.specs.collection.Bound.{Bindings, binds_here, held_tree}
use Rattle.wac_types_collection.proofs.lemmas.wide.Members.{in_none, in_first, in_one}
use Rattle.wac_binary.specs.Unfold.{Bound}
use Rattle.wac_encode_stacks.specs.Scopes.{Open, Stack}
use Rattle.wac_encode_stacks.specs.Good.{Good, nothing_bound, top}
use Rattle.wac_encode_stacks.specs.Instances.{Shows, ShowsWhole, taken_leaf}
use Rattle.wac_encode_scopes.specs.declared.encodable.Encodable.{Encodable}
use Rattle.wac_encode_scopes.specs.declared.encodable.Encodable.TheVariants.{Builder, Instance, Component}
use Rattle.wac_encode_scopes.specs.declared.scope.Scope.{Scope}
use Rattle.wac_encode_scopes.specs.declared.state.State.{State}
use Rattle.wac_encode_scopes.specs.Contents.{AddsTypes}
use Rattle.wac_encode_scopes.specs.Books.{opened}
use Rattle.wac_encode_scopes.specs.Roots.{IsRoot}
use Rattle.wac_encode_scopes.specs.States.{outward, stack, AllAddTypes}
use Rattle.wac_encode_scopes.specs.private.Telling.{is_one_of, with_own_names, MayBind, TellsInstance}
use Rattle.wac_encode_faults.specs.declared.fault.WriteFault.{WriteFault}
use Rattle.wac_encode_faults.specs.declared.faults.Role.TheVariants as role
use Rattle.wac_encode_faults.specs.Faults.{import_fault, IsLowest, HasFault, IsImportFault, own, unbound, inside}
use Rattle.wac_encode_faults.specs.Free.{IsFree}
use Rattle.wac_encode_faults.proofs.FreeParts.{inserted_law}
use Rattle.wac_encode_interfaces.specs.private.Imports.{ImportsBeside, ImportsOf, IsImportReady, next_place}
use Rattle.wac_encode_interfaces.specs.private.Ready.{IsClean}
use Rattle.wac_encode_interfaces.specs.private.Worlds.{HaveWorlds, written_in}
use Rattle.wac_encode_interfaces.specs.declared.worlds.WorldTypes.{WorldTypes}
use Rattle.wac_encode_scopes.proofs.FreeAgreeing.{held-free}
use Rattle.wac_encode_interfaces.proofs.Bound.{any-in, in-any}
use Rattle.wac_encode_scopes.proofs.OtherOwn.{resource-inserted}
use Rattle.wac_encode_tests.specs.private.Opened.{item_resource, IsRootOf, IsImported, BindsAll, BindsNoneOf, CanImport}

-- results that are in order

pub on-ok-is : {T E P : Type 0} → (r : Result T E) (x : T) → r ≡ Ok x → OnOk r P → P
on-ok-is {T} {E} {P} r x is h = subst (λ (q : Result T E). OnOk q P) is h

pub if-ok-is : {T E : Type 0} (Q : T → Type 0) (r : Result T E) (x : T) → r ≡ Ok x → IfOk r Q → Q x
if-ok-is {T} {E} Q r x is h = subst (λ (q : Result T E). IfOk q Q) is h

-- sets of resources

same-id : (r q : ResourceId) → (r.0 == q.0) ≡ true → q ≡ r
same-id r q h = ap (λ (n : ℕ). record { 0 = n }) (sym (eqb-true r.0 q.0 h))

pub one-in : (rs : List ResourceId) (r : ResourceId) → is_one_of rs r ≡ true → Contains rs r
one-in rs r h = let found = any-in (λ (q : ResourceId). r.0 == q.0) rs h in subst (λ (q : ResourceId). Contains rs q) (same-id r found.0 found.2) found.1

in-one : (rs : List ResourceId) (r : ResourceId) → Contains rs r → is_one_of rs r ≡ true
in-one rs r there = in-any (λ (q : ResourceId). r.0 == q.0) rs r there (let e : (r.0 == r.0) ≡ true = grind arith in e)

pub bound-none : (b : Bool) (s : State) → BindsAll b s []
bound-none b s r there = absurd (in_none r there)

pub bound-empty : (b : Bool) (s : State) (rs : List ResourceId) → rs ≡ [] → BindsAll b s rs
bound-empty b s rs is = subst (BindsAll b s) (sym is) (bound-none b s)

pub bound-more : (b : Bool) (s : State) (old new : List ResourceId) (q : ResourceId) → new ≡ insert_key (IdEq.ghosts).eq old q → ((c : Collection) (ms : List Bindings) → Good c ms (stack b s) → (l : Leaf) × (top ms q ≡ Some l)) → BindsAll b s old → BindsAll b s new
bound-more b s old new q is here h r there = elim ((inserted_law old new q is r).0 there) [
  | inl w ↦ h r w
  | inr w ↦ subst (λ (x : ResourceId). (c : Collection) (ms : List Bindings) → Good c ms (stack b s) → (l : Leaf) × (top ms x ≡ Some l)) (sym w) here
]

pub none-of-none : (b : Bool) (s : State) → BindsNoneOf b s []
none-of-none b s r there = absurd (let e : false ≡ true = there in cc)

pub none-of-empty : (b : Bool) (s : State) (rs : List ResourceId) → rs ≡ [] → BindsNoneOf b s rs
none-of-empty b s rs is = subst (BindsNoneOf b s) (sym is) (none-of-none b s)

pub none-of-more : (b : Bool) (s : State) (old new : List ResourceId) (q : ResourceId) → new ≡ insert_key (IdEq.ghosts).eq old q → ((c : Collection) (ms : List Bindings) → Good c ms (stack b s) → top ms q ≡ None) → BindsNoneOf b s old → BindsNoneOf b s new
none-of-more b s old new q is here h r there = by (is_one_of old r) refl
  where
    Free : ResourceId → Type 0
    Free x = (c : Collection) (ms : List Bindings) → Good c ms (stack b s) → top ms x ≡ None

    last : is_one_of old r ≡ false → (r.0 == q.0) ≡ true
    last miss = ap (λ (k : Bool). k || (r.0 == q.0)) (sym miss) ∙ sym (resource-inserted old new q is r) ∙ there

    by : (k : Bool) → is_one_of old r ≡ k → Free r
    by true hit = h r hit
    by false miss = subst Free (same-id r q (last miss)) here

-- an item without a fault

pub some-leaf : Leaf
some-leaf = record { out = 0; side = imported; path = [] }

abbrev pub bindings-of : List ResourceId → Bindings
bindings-of rs r = if is_one_of rs r then Some some-leaf else None

pub in-bindings : (rs : List ResourceId) (r : ResourceId) → Contains rs r ↔ IsSome (bindings-of rs r)
in-bindings rs r = (λ there. to (is_one_of rs r) (in-one rs r there), λ is. one-in rs r (from (is_one_of rs r) is))
  where
    to : (b : Bool) → b ≡ true → is_some (if b then Some some-leaf else None) ≡ true
    to true e = refl
    to false e = let same : false ≡ true = e in cc

    from : (b : Bool) → is_some (if b then Some some-leaf else None) ≡ true → b ≡ true
    from true e = refl
    from false e = e

pub importable : (c : Collection) (b : Bool) (s : State) (k : ItemKind) (rs : List ResourceId) → BindsAll b s rs
    → ((root : Bindings) → ((r : ResourceId) → Contains rs r ↔ IsSome (root r)) → IsLowest (HasFault c root role.Imported k) None) → CanImport c b s k
importable c b s k rs bound none = record {
  binds = λ r free. by r free (is_one_of rs r) refl;
  writable = writes (import_fault k) refl;
  clean = λ f is. none-of f (inside f is);
}
  where
    none-of : (f : WriteFault) → IsImportFault c (bindings-of rs) k f → ⊥
    none-of = none (bindings-of rs) (in-bindings rs)

    writes : (o : Option WriteFault) → import_fault k ≡ o → import_fault k ≡ None
    writes None is = is
    writes (Some f) is = absurd (none-of f (own f is))

    by : (r : ResourceId) → IsFree c (kind_type k) r → (y : Bool) → is_one_of rs r ≡ y → (ms : List Bindings) → Good c ms (stack b s) → (l : Leaf) × (top ms r ≡ Some l)
    by r free true hit ms g = bound r (one-in rs r hit) c ms g
    by r free false miss ms g = absurd (none-of _ (unbound (r, free, ap (λ (y : Bool). if y then Some some-leaf else None) miss)))

pub importable-by : {E : Type 0} → (c : Collection) (b : Bool) (s : State) (k : ItemKind) (rs : List ResourceId) → BindsAll b s rs → (res : Result (Option WriteFault) E) (x : Option WriteFault) → res ≡ Ok x
    → IfOk res (λ o. (root : Bindings) → ((r : ResourceId) → Contains rs r ↔ IsSome (root r)) → IsLowest (HasFault c root role.Imported k) o) → x ≡ None → CanImport c b s k
importable-by {E} c b s k rs bound res x is all none =
    importable c b s k rs bound (subst (λ (o : Option WriteFault). (root : Bindings) → ((r : ResourceId) → Contains rs r ↔ IsSome (root r)) → IsLowest (HasFault c root role.Imported k) o) none
    (if-ok-is (λ (o : Option WriteFault). (root : Bindings) → ((r : ResourceId) → Contains rs r ↔ IsSome (root r)) → IsLowest (HasFault c root role.Imported k) o) res x is all))

pub import-ready : (c u : Collection) (b d : Bool) (ws vs : WorldTypes) (s : State) (k : ItemKind) (a : AnyType) → u ≡ c → d ≡ b → vs ≡ ws → a ≡ kind_type k → holds_type c a ≡ true → IsRootOf c b s → CanImport c b s k
    → ((t : AnyType) → Contains (a ∷ []) t → HaveWorlds c (written_in ws) t) → IsImportReady u d (written_in vs) s k
import-ready c u b d ws vs s k a p q w is held r can there =
    subst (λ (x : Collection). IsImportReady x d (written_in vs) s k) (sym p)
    (subst (λ (e : Bool). IsImportReady c e (written_in vs) s k) (sym q)
    (subst (λ (z : WorldTypes). IsImportReady c b (written_in z) s k) (sym w) (record {
      held = subst (λ (t : AnyType). holds_type c t ≡ true) is held;
      ready = (r.bindings, r.good, (held_tree c (top r.bindings) (kind_type k), held-free c (top r.bindings) (kind_type k) (λ x free. can.binds x free r.bindings r.good)));
      writable = can.writable;
      clean = can.clean;
      worlds = subst (HaveWorlds c (written_in ws)) is (there a (in_first a []));
    })))

pub unbound-less : (b : Bool) (s : State) (rs : List ResourceId) → BindsAll b s rs → (c : Collection) (ms : List Bindings) → Good c ms (stack b s) → (r : ResourceId) → top ms r ≡ None → bindings-of rs r ≡ None
unbound-less b s rs bound c ms g r none = by (is_one_of rs r) refl
  where
    by : (y : Bool) → is_one_of rs r ≡ y → bindings-of rs r ≡ None
    by true hit = let l = bound r (one-in rs r hit) c ms g in absurd (let wrong : Some l.0 ≡ None = sym l.1 ∙ none in cc)
    by false miss = ap (λ (y : Bool). if y then Some some-leaf else None) miss

-- the root after types, and after an import

abbrev Added : Scope → Scope → Type 0
Added s t = AddsTypes s.content t.content

none-added : (ys : List Scope) → AllZip Added [] ys → ys ≡ []
none-added [] h = refl
none-added (y ∷ ys) h = absurd h

pub bottom-types : (s t : State) → AllAddTypes s t → s.around.items ≡ [] → t.around.items ≡ []
bottom-types s t h is = none-added t.around.items (subst (λ (xs : List Scope). AllZip Added xs t.around.items) is h.1)

pub root-types : (x y : Encodable) → AddsTypes x y → IsRoot x → IsRoot y
root-types (Builder xs) (Builder ys) h r = tt
root-types (Builder xs) (Instance ys) h r = absurd h
root-types (Builder xs) (Component ys) h r = absurd h
root-types (Instance xs) y h r = absurd r
root-types (Component xs) y h r = absurd r

not-here : (c : Collection) (m : Bindings) (p : List Place) (k : ItemKind) → item_resource k ≡ None → binds_here c m imported p k ≡ false
not-here c m p (kind.TypeItem (ty.Resource r)) none = let wrong : Some r ≡ None = none in cc
not-here c m p (kind.TypeItem (ty.Value v)) none = refl
not-here c m p (kind.TypeItem (ty.Func f)) none = refl
not-here c m p (kind.TypeItem (ty.Interface i)) none = refl
not-here c m p (kind.TypeItem (ty.World w)) none = refl
not-here c m p (kind.TypeItem (ty.Module i)) none = refl
not-here c m p (kind.Func f) none = refl
not-here c m p (kind.Instance i) none = refl
not-here c m p (kind.Component w) none = refl
not-here c m p (kind.Module i) none = refl
not-here c m p (kind.Value v) none = refl

no-more : (c : Collection) (ms : List Bindings) → Good c ms [] → ms ≡ []
no-more c [] g = refl
no-more c (m ∷ ms) g = absurd g

never : (c : Collection) (xs : Stack) (x : Open) → Good c [] (xs ++ x ∷ []) → ⊥
never c [] x g = g
never c (y ∷ ys) x g = g

pub no-scopes : (c : Collection) (b : Bool) (ss : List Scope) → Good c [] (outward b ss) → ss ≡ []
no-scopes c b [] g = refl
no-scopes c b (s ∷ ss) g = absurd (never c (outward b ss) (opened b s) g)

pub new-root : (c : Collection) (b : Bool) (s : State) → Good c (nothing_bound ∷ []) (stack b s) → s.here.content ≡ Builder [] → IsRootOf c b s
new-root c b s g is = record {
  bindings = nothing_bound ∷ [];
  good = g;
  root = subst IsRoot (sym is) tt;
  bottom = no-scopes c b s.around.items g.1;
}

abbrev AfterImport : Collection → Bool → State → ItemKind → ℕ → Type 0
AfterImport c b s k i = IsRootOf c b s × IsImported c b s k i

pub item-imported : (c u : Collection) (b d : Bool) (n : Name) (k : ItemKind) (i : ℕ) (s t : State) → u ≡ c → d ≡ b → IsRootOf c b s → item_resource k ≡ None → ImportsOf u d n k s t i → ImportsBeside d n k i s t → AfterImport c b t k i
item-imported c u b d n k i s t p q r none imports beside = by r.bindings r.good
  where
    same : ImportsOf c b n k s t i
    same = subst (λ (x : Collection). ImportsOf x b n k s t i) p (subst (λ (e : Bool). ImportsOf u e n k s t i) q imports)

    by : (ms : List Bindings) → Good c ms (stack b s) → AfterImport c b t k i
    by [] g = absurd g
    by (m ∷ ms) g =
        let alone : ms ≡ [] = no-more c ms (subst (λ (ss : List Scope). Good c ms (outward b ss)) r.bottom g.1) in
        let good : Good c (m ∷ []) (stack b s) = subst (λ (xs : List Bindings). Good c (m ∷ xs) (stack b s)) alone g in
        let step = same m good (not-here c m (next_place s ∷ []) k none) in (
          record {
            bindings = m ∷ [];
            good = step.onward.0;
            root = subst IsRoot (sym beside.content) tt;
            bottom = no-scopes c b t.around.items step.onward.0.1;
          },
          (m, next_place s, step.onward.0, step.refers),
        )

pub instance-told : ShowsWhole → (c : Collection) → IsWellFormed c → (b : Bool) (u v : State) (i : InterfaceId) (it : Interface) (j : ℕ) (rs : List ResourceId)
    → item_at c.interfaces i.0 ≡ Some it → BindsNoneOf b u rs → IsRootOf c b u → IsImported c b u (kind.Instance i) j → TellsInstance c b it (is_one_of rs) j u v → AllAddTypes u v → IsRootOf c b v
instance-told whole c wf b u v i it j rs at free r is tells types =
    let m = is.0 in
    let g : Good c (m ∷ []) (stack b u) = is.2 in
    let here = is.3 in
    let x : Bound = record { type = here.0; side = imported; path = is.1 ∷ [] } in
    let shows : Shows c m it x = whole c wf m i it x at here.1 in
    let bind : MayBind c it (is_one_of rs) m [] = λ q w one named. (free q one c (m ∷ []) g, refl) in
    let told = tells m [] x g here.2 shows bind in
    record {
      bindings = with_own_names c it.uses it.exports (is_one_of rs) (taken_leaf x) m ∷ [];
      good = told.0;
      root = root-types u.here.content v.here.content types.0 r.root;
      bottom = bottom-types u v types r.bottom;
    }

pub held-one : (c : Collection) (a : AnyType) → holds_type c a ≡ true → (t : AnyType) → Contains (a ∷ []) t → holds_type c t ≡ true
held-one c a h t there = subst (λ (x : AnyType). holds_type c x ≡ true) (sym (in_one a t there)) h

pub clean-one : (c : Collection) (a : AnyType) → IsClean c a → (t : AnyType) → Contains (a ∷ []) t → IsClean c t
clean-one c a h t there = subst (λ (x : AnyType). IsClean c x) (sym (in_one a t there)) h

-- an id in range has an item

item-there : {A : Type 0} (xs : List (Held A)) (i : ℕ) → i < length xs → (x : A) × (item_at xs i ≡ Some x)
item-there [] i lt = absurd (omega (arith, lt))
item-there (x ∷ xs) zero lt = (x.item, refl)
item-there (x ∷ xs) (suc i) lt = item-there xs i (omega (arith, lt))

pub interface-there : (c : Collection) (i : InterfaceId) → holds_type c (ty.Interface i) ≡ true → HasInterface c i
interface-there c i h = grind (arith, h)

pub interface-at : (c : Collection) (i : InterfaceId) → HasInterface c i → (it : Interface) × (item_at c.interfaces i.0 ≡ Some it)
interface-at c i h = item-there c.interfaces i.0 h
