-- What the writer of imports gives to each import.
use Rattle.std.specs.List.{list_any}
use Rattle.std.proofs.Common.{ℕ, length, ◌≡◌, Bool, true, false, Option, Some, None, Result, Ok, Err, IfOk, OnOk, refl, ap, sym, ◌∙◌, subst}
use Rattle.wac_types_shapes.specs.primitives.Name.{Name}
use Rattle.wac_types_shapes.specs.declared.shapes.component.Interface.{Interface}
use Rattle.wac_types_shapes.specs.declared.shapes.component.InterfaceId.{InterfaceId}
use Rattle.wac_types_shapes.specs.declared.shapes.component.ItemKind.{ItemKind}
use Rattle.wac_types_shapes.specs.declared.shapes.component.ItemKind.TheVariants as kind
use Rattle.wac_types_shapes.specs.declared.shapes.component.ResourceId.{ResourceId}
use Rattle.wac_types_shapes.specs.declared.shapes.component.«Type».TheVariants as ty
use Rattle.wac_types_collection.specs.collection.Collection.{Collection, HasInterface, holds_type, item_at, item_of}
use Rattle.wac_types_collection.proofs.lemmas.collection.Steady.{within}
use Rattle.wac_types_collection.specs.collection.Held.{resolved}
use Rattle.wac_merge_classes.specs.entries.Bindings.{first_in}
use Rattle.wac_merge_classes.specs.terms.Merge.{Merged}
use Rattle.wac_merge_classes.proofs.lemmas.entries.Lists.{some-at}
use Rattle.wac_binary.specs.declared.sorts.Description.TheVariants as e
use Rattle.wac_binary.specs.Indexes.{space, described_sort}
use Rattle.wac_encode_stacks.specs.Instances.{ShowsWhole, ListsImport}
use Rattle.wac_encode_scopes.specs.declared.state.State.{State}
use Rattle.wac_encode_scopes.specs.private.Closed.{AreClosedTypes}
use Rattle.wac_encode_scopes.specs.Contents.{count_of}
use Rattle.wac_encode_scopes.specs.Roots.{ImportsResource, and_import}
use Rattle.wac_encode_scopes.specs.private.Telling.{TellsInstance, telling}
use Rattle.wac_encode_scopes.specs.private.Told.{TellsItems}
use Rattle.wac_encode_interfaces.specs.private.FreeTrees.{TreesByFree}
use Rattle.wac_encode_interfaces.specs.private.Imports.{ImportsBeside, ImportsOf, IsImportReady}
use Rattle.wac_encode_interfaces.specs.private.Worlds.{written_in}
use Rattle.wac_encode_imports.specs.declared.import.ImportWriter.{ImportWriter}
use Rattle.wac_encode_imports.specs.private.Imports.{merged_bindings}
use Rattle.wac_encode_imports.specs.private.Classes.{interface_of, is_class, is_first_of, resource_of}
use Rattle.wac_encode_imports.specs.private.Written.{is_bound_at, IsImportWriter, MayWrite, WritesImport}
use Rattle.wac_encode_imports.proofs.Bound.{no-some, one-some}
use Rattle.wac_encode_imports.proofs.Looked.{any-first, first-is}
use Rattle.wac_encode_imports.proofs.Next.{IsOwnTest, fresh-brings, instance-brings, other-brings}
use Rattle.wac_encode_imports.proofs.Ready.{BindsNoFree, instance-other, plain-other, ready}

-- the collection and the book of the writer are the merge's

ready-as : (x : ImportWriter) (m : Merged) (h : IsImportWriter x m) (s : State) (k : ItemKind) → IsImportReady m.types true (written_in x.writer.worlds.now) s k → IsImportReady x.writer.types.now x.writer.merged (written_in x.writer.worlds.now) s k
ready-as x m h s k r =
    subst (λ (b : Bool). IsImportReady x.writer.types.now b (written_in x.writer.worlds.now) s k) (sym h.merged)
    (subst (λ (c : Collection). IsImportReady c true (written_in x.writer.worlds.now) s k) (sym h.of_types) r)

pub imports-as : (x : ImportWriter) (m : Merged) (h : IsImportWriter x m) (n : Name) (k : ItemKind) (old new : State) (i : ℕ) → ImportsOf x.writer.types.now x.writer.merged n k old new i → ImportsOf m.types true n k old new i
imports-as x m h n k old new i r =
    subst (λ (c : Collection). ImportsOf c true n k old new i) h.of_types
    (subst (λ (b : Bool). ImportsOf x.writer.types.now b n k old new i) h.merged r)

beside-as : (x : ImportWriter) (m : Merged) (h : IsImportWriter x m) (n : Name) (k : ItemKind) (i : ℕ) (old new : State) → ImportsBeside x.writer.merged n k i old new → ImportsBeside true n k i old new
beside-as x m h n k i old new r = subst (λ (b : Bool). ImportsBeside b n k i old new) h.merged r

-- readiness

pub ready-other : (x : ImportWriter) (p : ℕ) (n : Name) (k : ItemKind) (s : State) → TreesByFree → (may : MayWrite x p n k s) → BindsNoFree may.0 (written_in x.writer.worlds.now) (may.2).writable p (record { name = n; kind = k }) (may.3).there
    → IsImportReady x.writer.types.now x.writer.merged (written_in x.writer.worlds.now) s k
ready-other x p n k s trees may other =
    ready-as x may.0 may.2 s k
    (ready may.0 (written_in x.writer.worlds.now) (may.2).writable p (record { name = n; kind = k }) (may.3).there other trees s (may.3).written.good)

pub ready-instance : (x : ImportWriter) (p : ℕ) (n : Name) (j : InterfaceId) (s : State) → TreesByFree → MayWrite x p n (kind.Instance j) s → IsImportReady x.writer.types.now x.writer.merged (written_in x.writer.worlds.now) s (kind.Instance j)
ready-instance x p n j s trees may =
    ready-other x p n (kind.Instance j) s trees may (instance-other may.0 (written_in x.writer.worlds.now) (may.2).writable p n j (may.3).there)

pub ready-plain : (x : ImportWriter) (p : ℕ) (n : Name) (k : ItemKind) (s : State) → TreesByFree → (may : MayWrite x p n k s) → interface_of k ≡ None
    → ((m : Merged) → IsImportWriter x m → (q : ResourceId) → resource_of k ≡ Some q → is_bound_at p (merged_bindings m (resolved m.types q)) ≡ false)
    → IsImportReady x.writer.types.now x.writer.merged (written_in x.writer.worlds.now) s k
ready-plain x p n k s trees may bare other =
    ready-other x p n k s trees may (λ r f. plain-other may.0 (written_in x.writer.worlds.now) (may.2).writable p n k (may.3).there bare (other may.0 may.2) r)

-- what is written

pub writes-plain : (x : ImportWriter) (p : ℕ) (n : Name) (k : ItemKind) (old new : State) (i : ℕ) → TreesByFree → interface_of k ≡ None
    → ((m : Merged) → IsImportWriter x m → (q : ResourceId) → resource_of k ≡ Some q → is_bound_at p (merged_bindings m (resolved m.types q)) ≡ false)
    → ImportsOf x.writer.types.now x.writer.merged n k old new i → ImportsBeside x.writer.merged n k i old new → WritesImport x p n k old new i
writes-plain x p n k old new i trees bare other imports beside m h places may =
    let ws = written_in x.writer.worlds.now in
    let none : (r : ResourceId) → is_bound_at p (merged_bindings m r) ≡ false = (λ r. plain-other m ws h.writable p n k may.there bare (other m h) r) in
    other-brings m ws h.writable p n k may.there (λ r f. none r) trees places old new i may.written (imports-as x m h n k old new i imports) none (beside-as x m h n k i old new beside)

pub interface-there : (c : Collection) (j : InterfaceId) → holds_type c (ty.Interface j) ≡ true → (it : Interface) × (item_at c.interfaces j.0 ≡ Some it)
interface-there c j held =
    let x = some-at c.interfaces j.0 (within j.0 (length c.interfaces) held) in
    (x.0.item, ap item_of x.1)

-- The resources that the code finds are those that the import binds.
own-test : (x : ImportWriter) (m : Merged) (h : IsImportWriter x m) (p : ℕ) (it : Interface) (test : ResourceId → Bool) → ((r : ResourceId) → test r ≡ list_any (is_first_of x.bindings.now p r) it.exports) → IsOwnTest m p it test
own-test x m h p it test is r q own = is r ∙ any-first x.bindings.now p m.types it.uses it.exports r q own ∙ first-is m x.bindings.now h.bindings p r

pub writes-instance : (x : ImportWriter) (p : ℕ) (n : Name) (j : InterfaceId) (test : ResourceId → Bool) (old mid new : State) (i : ℕ) → TreesByFree → ShowsWhole
    → ((it : Interface) → item_at x.types.now.interfaces j.0 ≡ Some it → TellsInstance x.types.now true it test i mid new)
    → ((it : Interface) → item_at x.types.now.interfaces j.0 ≡ Some it → TellsItems x.types.now true it test i mid new)
    → ((it : Interface) → item_at x.types.now.interfaces j.0 ≡ Some it → (r : ResourceId) → test r ≡ list_any (is_first_of x.bindings.now p r) it.exports)
    → ImportsOf x.writer.types.now x.writer.merged n (kind.Instance j) old mid i → ImportsBeside x.writer.merged n (kind.Instance j) i old mid → WritesImport x p n (kind.Instance j) old new i
writes-instance x p n j test old mid new i trees whole tells records is imports beside m h places may =
    let ws = written_in x.writer.worlds.now in
    let it = interface-there m.types j ((h.writable).held p (record { name = n; kind = kind.Instance j }) may.there) in
    let at : item_at x.types.now.interfaces j.0 ≡ Some it.0 = ap (λ (c : Collection). item_at c.interfaces j.0) h.types ∙ it.1 in
    let told : TellsInstance m.types true it.0 test i mid new = subst (λ (c : Collection). TellsInstance c true it.0 test i mid new) h.types (tells it.0 at) in
    let items = records it.0 at in
    instance-brings m ws h.writable p n j may.there it.0 it.1 test (own-test x m h p it.0 test (is it.0 at)) whole trees places (telling x.types.now it.0 test items.told i) old mid new i may.written (imports-as x m h n (kind.Instance j) old mid i imports) (beside-as x m h n (kind.Instance j) i old mid beside) told items.records

pub instance-held : (x : ImportWriter) (p : ℕ) (n : Name) (j : InterfaceId) (s : State) → MayWrite x p n (kind.Instance j) s → HasInterface x.types.now j
instance-held x p n j s may =
    subst (λ (c : Collection). HasInterface c j) (sym (may.2).types)
    (within j.0 (length may.0.types.interfaces) (((may.2).writable).held p (record { name = n; kind = kind.Instance j }) (may.3).there))

pub instance-closed : (x : ImportWriter) (p : ℕ) (n : Name) (j : InterfaceId) (s : State) → MayWrite x p n (kind.Instance j) s → AreClosedTypes x.types.now x.closed.now
instance-closed x p n j s may = subst (λ (c : Collection). AreClosedTypes c x.closed.now) (sym (may.2).types) (may.2).closed

pub writes-fresh : (x : ImportWriter) (p : ℕ) (n : Name) (q end : ResourceId) (old new : State) (i : ℕ) → ListsImport
    → ((m : Merged) → IsImportWriter x m → (end ≡ resolved m.types q) × (is_bound_at p (merged_bindings m (resolved m.types q)) ≡ true))
    → ImportsResource true end old new i → new.here.content ≡ and_import n e.Fresh old.here.content → i ≡ count_of (space (described_sort e.Fresh)) old.here.content → WritesImport x p n (kind.TypeItem (ty.Resource q)) old new i
writes-fresh x p n q end old new i lists of imports content index m h places may =
    let ws = written_in x.writer.worlds.now in
    let (is, made) = of m h in
    fresh-brings m ws h.writable p n q may.there made lists places old new i may.written (subst (λ (r : ResourceId). ImportsResource true r old new i) is imports) content index

-- results of calls

pub none-of : {A : Type 0} → (o : Option A) → ((x : A) → o ≡ Some x → ⊥) → o ≡ None
none-of None h = refl
none-of (Some x) h = absurd (h x refl)

pub if-ok : {A E : Type 0} → (P Q : A → Type 0) (r : Result A E) → ((x : A) → P x → Q x) → IfOk r P → IfOk r Q
if-ok P Q (Ok x) f h = f x h
if-ok P Q (Err e) f h = tt

pub if-two : {A E : Type 0} → (P Q R : A → Type 0) (r : Result A E) → ((x : A) → P x → Q x → R x) → IfOk r P → IfOk r Q → IfOk r R
if-two P Q R (Ok x) f g h = f x g h
if-two P Q R (Err e) f g h = tt

pub if-three : {A E : Type 0} → (P Q R : A → Type 0) (S : Type 0) (r : Result A E) → ((x : A) → P x → Q x → S → R x) → IfOk r P → IfOk r Q → OnOk r S → IfOk r R
if-three P Q R S (Ok x) f g h k = f x g h k
if-three P Q R S (Err e) f g h k = tt

-- which resource is fresh

first-here : (x : ImportWriter) (m : Merged) (h : IsImportWriter x m) (p : ℕ) (q end : ResourceId) (b : Bool) → end ≡ resolved x.types.now q → is_class p (first_in x.bindings.now end) ≡ b → (end ≡ resolved m.types q) × (is_bound_at p (merged_bindings m (resolved m.types q)) ≡ b)
first-here x m h p q end b is first =
    let same : end ≡ resolved m.types q = is ∙ ap (λ (c : Collection). resolved c q) h.types in
    (same, ap (λ (r : ResourceId). is_bound_at p (merged_bindings m r)) (sym same) ∙ sym (first-is m x.bindings.now h.bindings p end) ∙ first)

pub made-here : (x : ImportWriter) (p : ℕ) (q end : ResourceId) → end ≡ resolved x.types.now q → is_class p (first_in x.bindings.now end) ≡ true → (m : Merged) → IsImportWriter x m → (end ≡ resolved m.types q) × (is_bound_at p (merged_bindings m (resolved m.types q)) ≡ true)
made-here x p q end is first m h = first-here x m h p q end true is first

pub alias-other : (x : ImportWriter) (p : ℕ) (q end : ResourceId) → end ≡ resolved x.types.now q → is_class p (first_in x.bindings.now end) ≡ false
    → (m : Merged) → IsImportWriter x m → (r : ResourceId) → resource_of (kind.TypeItem (ty.Resource q)) ≡ Some r → is_bound_at p (merged_bindings m (resolved m.types r)) ≡ false
alias-other x p q end is first m h r same =
    ap (λ (z : ResourceId). is_bound_at p (merged_bindings m (resolved m.types z))) (sym (one-some q r same)) ∙ (first-here x m h p q end false is first).1

-- the sorts of imports

pub instance-is : (k : ItemKind) (i : InterfaceId) → interface_of k ≡ Some i → k ≡ kind.Instance i
instance-is (kind.Instance j) i h = ap kind.Instance (one-some j i h)
instance-is (kind.TypeItem t) i h = no-some i h
instance-is (kind.Func f) i h = no-some i h
instance-is (kind.Component w) i h = no-some i h
instance-is (kind.Module x) i h = no-some i h
instance-is (kind.Value v) i h = no-some i h

pub resource-is : (k : ItemKind) (r : ResourceId) → resource_of k ≡ Some r → k ≡ kind.TypeItem (ty.Resource r)
resource-is (kind.TypeItem (ty.Resource q)) r h = ap (λ (z : ResourceId). kind.TypeItem (ty.Resource z)) (one-some q r h)
resource-is (kind.TypeItem (ty.Value v)) r h = no-some r h
resource-is (kind.TypeItem (ty.Func f)) r h = no-some r h
resource-is (kind.TypeItem (ty.Interface i)) r h = no-some r h
resource-is (kind.TypeItem (ty.World w)) r h = no-some r h
resource-is (kind.TypeItem (ty.Module x)) r h = no-some r h
resource-is (kind.Func f) r h = no-some r h
resource-is (kind.Instance i) r h = no-some r h
resource-is (kind.Component w) r h = no-some r h
resource-is (kind.Module x) r h = no-some r h
resource-is (kind.Value v) r h = no-some r h
