-- Answers of calls, by what they are paid.
use Rattle.std.specs.Prelude.{ℕ, zero, suc, ◌≡◌, ◌≤◌, ◌<◌, ◌+◌, ◌*◌, ◌^◌, Bool, true, false, List, [], ◌∷◌, ◌++◌, length, Option, Some, Result, Ok, Err, IfErr, IsErrAnd}
use Rattle.std.specs.List.{AllZip, AllByRecursion, sum_by}
use Rattle.std.proofs.Common.{refl, ap, ◌∙◌, sym, subst, arith, inl}
use Rattle.std.proofs.lemmas.Bool.{lt-ltb}
use Rattle.std.proofs.lemmas.List.{length-append}
use Rattle.wac_types_shapes.specs.primitives.Name.{Name, option_case}
use Rattle.wac_types_shapes.specs.primitives.Tree.{Side}
use Rattle.wac_types_shapes.specs.declared.shapes.component.ItemKind.{ItemKind}
use Rattle.wac_types_shapes.specs.declared.shapes.component.ItemKind.TheVariants as kind
use Rattle.wac_types_shapes.specs.declared.shapes.component.Interface.{Interface}
use Rattle.wac_types_shapes.specs.declared.shapes.component.InterfaceId.{InterfaceId}
use Rattle.wac_types_shapes.specs.declared.shapes.component.ResourceId.{ResourceId}
use Rattle.wac_types_shapes.specs.declared.shapes.component.«Type».{«Type» as AnyType}
use Rattle.wac_types_shapes.specs.declared.shapes.component.«Type».TheVariants as ty
use Rattle.wac_types_collection.specs.declared.collection.collection.Held.{Held}
use Rattle.wac_types_collection.specs.collection.Collection.{Collection, HasInterface, holds_type, item_at}
use Rattle.wac_types_weight.specs.Weight.{named_parts}
use Rattle.wac_types_weight.specs.Text.{entry_weight}
use Rattle.wac_types_weight.specs.private.Laws.{Covers}
use Rattle.wac_binary.specs.Items.{Decl}
use Rattle.wac_binary.specs.declared.fault.BinaryFault.{BinaryFault}
use Rattle.wac_binary.specs.declared.fault.BinaryFault.TheVariants.{TooLarge, OutOfMemory}
use Rattle.wac_binary.specs.declared.sorts.Description.{Description}
use Rattle.wac_encode_scopes.specs.declared.encodable.Encodable.{Encodable}
use Rattle.wac_encode_scopes.specs.declared.encodable.Encodable.TheVariants.{Builder, Instance, Component}
use Rattle.wac_encode_scopes.specs.declared.scope.Scope.{Scope}
use Rattle.wac_encode_scopes.specs.declared.state.State.{State}
use Rattle.wac_encode_scopes.specs.Books.{opened}
use Rattle.wac_encode_scopes.specs.Contents.{AddsTypes, and_item, content_of}
use Rattle.wac_encode_scopes.specs.States.{AllAddTypes}
use Rattle.wac_encode_scopes.specs.private.Components.{IsComponentType}
use Rattle.wac_encode_scopes.specs.private.Limits.{IsLarge, IsTooLarge}
use Rattle.wac_encode_scopes.specs.private.Paid.{ArePriced, AreUnrecorded, ClosesPaid, HasNoRoom, IsAnswerPaid, IsFaultPaid, IsOpenType, IsPaid, IsPriced, MayEnclose, PaidFor, PayMoreIn, Prices, primitive_cost, too_large, telling_cost, prices, rate, total}
use Rattle.wac_encode_scopes.specs.private.Listing.{ClosesInto}
use Rattle.wac_encode_scopes.specs.private.Telling.{is_one_of}
use Rattle.wac_encode_scopes.proofs.Paying.{no-room-before, no-room-up-to, no-room-with-more, pays-both, pays-nothing, pays-up-to, pays-with-more}
use Rattle.wac_encode_interfaces.specs.private.Items.{AddsBeside}
use Rattle.wac_encode_interfaces.specs.private.Levels.{AreLevels, IsLevelContent}
use Rattle.wac_encode_interfaces.specs.private.Paid.{HasNoRoomToClose, MayHold, SizedWithin, told_cost}
use Rattle.wac_encode_interfaces.proofs.Besides.{same-items}
use Rattle.wac_encode_interfaces.proofs.Costs.{telling-less}

-- A call that changes nothing costs no more than anything.
pub pays-any : (c : Collection) (b : Bool) (ts : List AnyType) (n : ℕ) (s : State) → IsPaid c b ts n s s
pays-any c b ts n s = pays-up-to c b ts 0 n s s (omega arith) (pays-nothing c b ts s)

pub up-to-answer : {T : Type 0} (c : Collection) (b : Bool) (ts : List AnyType) (n k : ℕ) (s t : State) (r : Result T BinaryFault) → n ≤ k → IsAnswerPaid c b ts n s t r → IsAnswerPaid c b ts k s t r
up-to-answer c b ts n k s t (Ok x) le h = pays-up-to c b ts n k s t le h
up-to-answer c b ts n k s t (Err TooLarge) le h = no-room-up-to c b ts n k s le h
up-to-answer c b ts n k s t (Err OutOfMemory) le h = tt

pub with-more-answer : {T : Type 0} (c : Collection) (b : Bool) (ts : List AnyType) (n : ℕ) (s t : State) (r : Result T BinaryFault) → IsAnswerPaid c b [] n s t r → IsAnswerPaid c b ts n s t r
with-more-answer c b ts n s t (Ok x) h = pays-with-more c b ts n s t h
with-more-answer c b ts n s t (Err TooLarge) h = no-room-with-more c b ts n s h
with-more-answer c b ts n s t (Err OutOfMemory) h = tt

pub same-answer : {T : Type 0} (c : Collection) (b : Bool) (ts : List AnyType) (n k : ℕ) (s t : State) (r : Result T BinaryFault) → n ≡ k → IsAnswerPaid c b ts n s t r → IsAnswerPaid c b ts k s t r
same-answer c b ts n k s t r is h = subst (λ (m : ℕ). IsAnswerPaid c b ts m s t r) is h

pub paid-for-as : {T : Type 0} (c d : Collection) (b a : Bool) (x : AnyType) (n : ℕ) (s t : State) (r : Result T BinaryFault) → d ≡ c → a ≡ b → PaidFor d a x n s t r → PaidFor c b x n s t r
paid-for-as c d b a x n s t r is same h = subst (λ (z : Collection). PaidFor z b x n s t r) is (subst (λ (z : Bool). PaidFor d z x n s t r) same h)

-- what types cost under an equal collection: after a call that answers, and its fault
pub paid-as : (c d : Collection) (b a : Bool) (x : AnyType) (n : ℕ) (s t : State) → d ≡ c → a ≡ b → ((ts : List AnyType) → Covers d ts x → IsPriced a s → IsPaid d a ts n s t) → (ts : List AnyType) → Covers c ts x → IsPriced b s → IsPaid c b ts n s t
paid-as c d b a x n s t is same h =
    subst (λ (z : Collection). (ts : List AnyType) → Covers z ts x → IsPriced b s → IsPaid z b ts n s t) is (subst (λ (z : Bool). (ts : List AnyType) → Covers d ts x → IsPriced z s → IsPaid d z ts n s t) same h)

pub fault-as : (c d : Collection) (b a : Bool) (x : AnyType) (n : ℕ) (s : State) (e : BinaryFault) → d ≡ c → a ≡ b → ((ts : List AnyType) → Covers d ts x → IsPriced a s → IsFaultPaid d a ts n s e) → (ts : List AnyType) → Covers c ts x → IsPriced b s → IsFaultPaid c b ts n s e
fault-as c d b a x n s e is same h =
    subst (λ (z : Collection). (ts : List AnyType) → Covers z ts x → IsPriced b s → IsFaultPaid z b ts n s e) is (subst (λ (z : Bool). (ts : List AnyType) → Covers d ts x → IsPriced z s → IsFaultPaid d z ts n s e) same h)

-- the exit of a `?`, by the fault
pub exit-room : {U : Type 0} (c : Collection) (b : Bool) (ts : List AnyType) (n : ℕ) (s u : State) (e : BinaryFault) (r : Result U BinaryFault) → IsErrAnd r (λ y. y ≡ e) → (e ≡ TooLarge → HasNoRoom c b ts n s) → IsAnswerPaid c b ts n s u r
exit-room c b ts n s u e (Ok x) h g = absurd h
exit-room c b ts n s u e (Err TooLarge) h g = g (sym h)
exit-room c b ts n s u e (Err OutOfMemory) h g = tt

-- a fault that is known to be `TooLarge`
pub no-room-of : (c : Collection) (b : Bool) (ts : List AnyType) (n : ℕ) (s : State) (e : BinaryFault) → e ≡ TooLarge → IsFaultPaid c b ts n s e → HasNoRoom c b ts n s
no-room-of c b ts n s e is h = subst (λ (y : BinaryFault). IsFaultPaid c b ts n s y) is h

-- which scopes may be the root

abbrev pub AreOpen : List Scope → Type 0
AreOpen ss = AllByRecursion (λ (s : Scope). IsOpenType s.content) ss

open-more : (x y : Encodable) → AddsTypes x y → IsOpenType x → IsOpenType y
open-more (Builder xs) y a h = absurd h
open-more (Instance xs) (Instance ys) a h = tt
open-more (Component xs) (Component ys) a h = tt
open-more (Instance xs) (Builder ys) a h = absurd a
open-more (Instance xs) (Component ys) a h = absurd a
open-more (Component xs) (Builder ys) a h = absurd a
open-more (Component xs) (Instance ys) a h = absurd a

enclose-more : (b : Bool) (x y : Encodable) → AddsTypes x y → MayEnclose b x → MayEnclose b y
enclose-more true x y a h = tt
enclose-more false x y a h = open-more x y a h

pub open-encloses : (b : Bool) (x : Encodable) → IsOpenType x → MayEnclose b x
open-encloses true x h = tt
open-encloses false x h = h

pub component-open : (x : Encodable) → IsComponentType x → IsOpenType x
component-open (Builder xs) h = absurd h
component-open (Instance xs) h = absurd h
component-open (Component xs) h = tt

pub level-open : (x : Encodable) → IsLevelContent x → IsOpenType x
level-open (Builder xs) h = absurd h.0
level-open (Instance xs) h = tt
level-open (Component xs) h = absurd h.0

all-open-more : (ss ts : List Scope) → AllZip (λ s t. AddsTypes s.content t.content) ss ts → AreOpen ss → AreOpen ts
all-open-more [] [] a h = tt
all-open-more (s ∷ ss) (t ∷ ts) a h = (open-more s.content t.content a.0 h.0, all-open-more ss ts a.1 h.1)
all-open-more [] (t ∷ ts) a h = absurd a
all-open-more (s ∷ ss) [] a h = absurd a

all-open-both : (ss ts : List Scope) → AreOpen ss → AreOpen ts → AreOpen (ss ++ ts)
all-open-both [] ts g h = h
all-open-both (s ∷ ss) ts g h = (g.0, all-open-both ss ts g.1 h)

levels-open : (ss : List Scope) → AllByRecursion (λ (s : Scope). IsLevelContent s.content) ss → AreOpen ss
levels-open [] h = tt
levels-open (s ∷ ss) h = (level-open s.content h.0, levels-open ss h.1)

-- Open types are open over scopes that stay.
base-priced : (b : Bool) (ss : List Scope) (s : Scope) (ts : List Scope) → AllZip (λ s t. AddsTypes s.content t.content) (ss ++ s ∷ []) ts → ArePriced b ss s.content → MayEnclose b s.content → (us : List Scope) → AreOpen us → (x : Encodable) → IsOpenType x → ArePriced b (ts ++ us) x
base-priced b [] s (t ∷ []) z p may us all x o = (enclose-more b s.content t.content z.0 may, all, o)
base-priced b [] s [] z p may us all x o = absurd z
base-priced b [] s (t ∷ u ∷ ts) z p may us all x o = absurd z.1
base-priced b (y ∷ ys) s [] z p may us all x o = absurd z
base-priced b (y ∷ ys) s (t ∷ ts) z p may us all x o = (enclose-more b y.content t.content z.0 p.0, all-open-both ts us (all-open-more (ys ++ s ∷ []) ts z.1 (all-open-both ys (s ∷ []) p.1 (p.2, tt))) all, o)

pub levels-priced : (b : Bool) (n : ℕ) (old s : State) → AreLevels b n old s → IsPriced b old → MayEnclose b old.here.content → IsPriced b s
levels-priced b n old s a p may =
    subst (λ (ss : List Scope). ArePriced b ss s.here.content) (sym a.around) (base-priced b old.around.items old.here a.base a.types p may a.levels (levels-open a.levels a.contents) s.here.content (level-open s.here.content a.here))

open-rest : (ss ts : List Scope) → AreOpen (ss ++ ts) → AreOpen ts
open-rest [] ts h = h
open-rest (s ∷ ss) ts h = open-rest ss ts h.1

-- Scopes inside the bottom one are open types.
pub inner-open : (b : Bool) (base inner : List Scope) (x : Encodable) (n : ℕ) → length base ≡ n + 1 → ArePriced b (base ++ inner) x → AreOpen inner
inner-open b [] inner x n long p = let none : 0 ≡ n + 1 = long in absurd (omega (arith, none))
inner-open b (y ∷ ys) inner x n long p = open-rest ys inner p.1

-- An item that is added keeps which scopes may be the root.
priced-with : (b : Bool) (ss ts : List Scope) (x y : Encodable) → AllZip (λ s t. AddsTypes s.content t.content) ss ts → (IsOpenType x → IsOpenType y) → ArePriced b ss x → ArePriced b ts y
priced-with b [] [] x y a f h = tt
priced-with b (s ∷ ss) (t ∷ ts) x y a f h = (enclose-more b s.content t.content a.0 h.0, all-open-more ss ts a.1 h.1, f h.2)
priced-with b [] (t ∷ ts) x y a f h = absurd a
priced-with b (s ∷ ss) [] x y a f h = absurd a

open-item : (side : Side) (n : Name) (d : Description) (x : Encodable) → IsOpenType x → IsOpenType (and_item side n d x)
open-item side n d (Builder xs) h = absurd h
open-item side n d (Instance ds) h = tt
open-item side n d (Component ds) h = tt

pub open-beside : (b : Bool) (side : Side) (n : Name) (s t : State) → AddsBeside b side n s t → IsOpenType s.here.content → IsOpenType t.here.content
open-beside b side n s t h o = subst IsOpenType (sym h.content) (open-item side n h.description h.between (open-more s.here.content h.between h.types o))

pub priced-beside : (b : Bool) (side : Side) (n : Name) (s t : State) → AddsBeside b side n s t → IsPriced b s → IsPriced b t
priced-beside b side n s t h p = priced-with b s.around.items t.around.items s.here.content t.here.content h.around (open-beside b side n s t h) p

-- without enclosing scopes

pub priced-alone : (b : Bool) (s : State) → s.around.items ≡ [] → IsPriced b s
priced-alone b s none = subst (λ (ss : List Scope). ArePriced b ss s.here.content) (sym none) tt

still-none : (c : Collection) (b : Bool) (ss ts : List Scope) → AllZip (PayMoreIn c b) ss ts → ss ≡ [] → ts ≡ []
still-none c b [] [] h none = refl
still-none c b [] (t ∷ ts) h none = absurd h
still-none c b (s ∷ ss) ts h none = let no : s ∷ ss ≡ [] = none in cc

pub alone-after : (c : Collection) (b : Bool) (ts : List AnyType) (n : ℕ) (s t : State) → IsPaid c b ts n s t → s.around.items ≡ [] → t.around.items ≡ []
alone-after c b ts n s t h none = still-none c b s.around.items t.around.items h.around none

-- kinds of contents

pub prices-added : (b : Bool) (x y : Encodable) → AddsTypes x y → prices b (content_of y) ≡ prices b (content_of x)
prices-added true (Builder xs) (Builder ys) h = refl
prices-added false (Builder xs) (Builder ys) h = refl
prices-added true (Instance xs) (Instance ys) h = refl
prices-added false (Instance xs) (Instance ys) h = refl
prices-added true (Component xs) (Component ys) h = refl
prices-added false (Component xs) (Component ys) h = refl
prices-added b (Builder xs) (Instance ys) h = absurd h
prices-added b (Builder xs) (Component ys) h = absurd h
prices-added b (Instance xs) (Builder ys) h = absurd h
prices-added b (Instance xs) (Component ys) h = absurd h
prices-added b (Component xs) (Builder ys) h = absurd h
prices-added b (Component xs) (Instance ys) h = absurd h

pub rate-added : (b : Bool) (x y : Encodable) → AddsTypes x y → rate b (content_of y) ≡ rate b (content_of x)
rate-added true (Builder xs) (Builder ys) h = refl
rate-added false (Builder xs) (Builder ys) h = refl
rate-added true (Instance xs) (Instance ys) h = refl
rate-added false (Instance xs) (Instance ys) h = refl
rate-added true (Component xs) (Component ys) h = refl
rate-added false (Component xs) (Component ys) h = refl
rate-added b (Builder xs) (Instance ys) h = absurd h
rate-added b (Builder xs) (Component ys) h = absurd h
rate-added b (Instance xs) (Builder ys) h = absurd h
rate-added b (Instance xs) (Component ys) h = absurd h
rate-added b (Component xs) (Builder ys) h = absurd h
rate-added b (Component xs) (Instance ys) h = absurd h

pub rate-open : (b : Bool) (x : Encodable) → IsOpenType x → rate b (content_of x) ≡ 27
rate-open b (Builder xs) h = absurd h
rate-open true (Instance xs) h = refl
rate-open false (Instance xs) h = refl
rate-open true (Component xs) h = refl
rate-open false (Component xs) h = refl

-- What an instance costs to tell depends on the prices alone.
pub telling-same : (c : Collection) (b : Bool) (ts : List AnyType) (n : ℕ) (s t : State) (es : List (Name × ItemKind)) → IsPaid c b ts n s t → telling_cost b (content_of t.here.content) es ≡ telling_cost b (content_of s.here.content) es
telling-same c b ts n s t es h = ap (λ (p : Prices). sum_by (λ (e : Name × ItemKind). p.alias + 2 * length e.0) es) h.priced

-- A number that alone comes to 2 ^ 32.
room-sum : (m t r n : ℕ) → m ≤ t + n → m + 0 ≤ t + r * 0 + n
room-sum m t r n h = omega (arith, h)

pub no-room-by : (c : Collection) (b : Bool) (n : ℕ) (s : State) → 2 ^ 32 ≤ total c b s + n → HasNoRoom c b [] n s
no-room-by c b n s h = too_large (room-sum (2 ^ 32) (total c b s) (rate b (opened b s.here).content) n h)

-- A primitive type costs the same after types are appended.
pub primitive-same : (s t : State) → AllAddTypes s t → 0 + primitive_cost (content_of t.here.content) ≡ primitive_cost (content_of s.here.content)
primitive-same s t types = plus (primitive_cost (content_of t.here.content)) ∙ kind-same s.here.content t.here.content types.0
  where
    plus : (n : ℕ) → 0 + n ≡ n
    plus n = omega arith

    kind-same : (x y : Encodable) → AddsTypes x y → primitive_cost (content_of y) ≡ primitive_cost (content_of x)
    kind-same (Builder xs) (Builder ys) h = refl
    kind-same (Instance xs) (Instance ys) h = refl
    kind-same (Component xs) (Component ys) h = refl
    kind-same (Builder xs) (Instance ys) h = absurd h
    kind-same (Builder xs) (Component ys) h = absurd h
    kind-same (Instance xs) (Builder ys) h = absurd h
    kind-same (Instance xs) (Component ys) h = absurd h
    kind-same (Component xs) (Builder ys) h = absurd h
    kind-same (Component xs) (Instance ys) h = absurd h

-- An item is added to the innermost scope.
pub priced-list : (b : Bool) (side : Side) (n : Name) (d : Description) (s t : State) → t.around ≡ s.around → t.here.content ≡ and_item side n d s.here.content → IsPriced b s → IsPriced b t
priced-list b side n d s t around content p =
    subst (λ (x : Encodable). ArePriced b t.around.items x) (sym content)
    (subst (λ (ss : List Scope). ArePriced b ss (and_item side n d s.here.content)) (sym (same-items t s around)) (by_around s.around.items p))
  where
    by_around : (ss : List Scope) → ArePriced b ss s.here.content → ArePriced b ss (and_item side n d s.here.content)
    by_around [] q = tt
    by_around (y ∷ ys) q = (q.0, q.1, open-item side n d s.here.content q.2)

-- A type is written, an item is added after it, and the item is recorded.
module _ (c : Collection) (b : Bool) (ts : List AnyType) (n k : ℕ) where
  turned : n + k ≤ k + n
  turned = omega arith

  first-less : n ≤ k + n
  first-less = omega arith

  pub plain-no-room : (s : State) → HasNoRoom c b ts n s → HasNoRoom c b ts (k + n) s
  plain-no-room s h = no-room-up-to c b ts n (k + n) s first-less h

  pub listed-paid : (s t u : State) → IsPaid c b ts n s t → IsPaid c b [] k t u → IsPaid c b ts (k + n) s u
  listed-paid s t u g h = pays-up-to c b ts (n + k) (k + n) s u turned (pays-both c b ts n k s t u g (pays-with-more c b ts k t u h))

  pub listed-no-room : (s t : State) → IsPaid c b ts n s t → HasNoRoom c b [] k t → HasNoRoom c b ts (k + n) s
  listed-no-room s t g h = no-room-up-to c b ts (n + k) (k + n) s turned (no-room-before c b ts n k s t g (no-room-with-more c b ts k t h))

  pub added-paid : (s t u v : State) → IsPaid c b ts n s t → IsPaid c b [] k t u → IsPaid c b [] 0 u v → IsPaid c b ts (k + n) s v
  added-paid s t u v g h l = pays-up-to c b ts ((k + n) + 0) (k + n) s v none-more (pays-both c b ts (k + n) 0 s u v (listed-paid s t u g h) (pays-with-more c b ts 0 u v l))
    where
      none-more : (k + n) + 0 ≤ k + n
      none-more = omega arith

  pub added-no-room : (s t u : State) → IsPaid c b ts n s t → IsPaid c b [] k t u → HasNoRoom c b [] 0 u → HasNoRoom c b ts (k + n) s
  added-no-room s t u g h l = no-room-up-to c b ts ((k + n) + 0) (k + n) s none-more (no-room-before c b ts (k + n) 0 s u (listed-paid s t u g h) (no-room-with-more c b ts 0 u l))
    where
      none-more : (k + n) + 0 ≤ k + n
      none-more = omega arith

-- the exit of a `?`

pub exit-large : {U : Type 0} (e : BinaryFault) (r : Result U BinaryFault) → IsErrAnd r (λ y. y ≡ e) → IsTooLarge r → e ≡ TooLarge
exit-large e (Ok x) h g = absurd h
exit-large e (Err TooLarge) h g = sym h
exit-large e (Err OutOfMemory) h g = absurd g

pub large-of : (e : BinaryFault) → e ≡ TooLarge → IsLarge e
large-of e is = subst IsLarge (sym is) tt

pub not-large : {U : Type 0} (r : Result U BinaryFault) → IsErrAnd r (λ y. y ≡ OutOfMemory) → IsTooLarge r → ⊥
not-large (Ok x) h g = absurd h
not-large (Err TooLarge) h g = let both : TooLarge ≡ OutOfMemory = h in cc
not-large (Err OutOfMemory) h g = absurd g

-- instances that are told

there-at : (xs : List (Held Interface)) (i : ℕ) → i < length xs → (it : Interface) × (item_at xs i ≡ Some it)
there-at [] i h = absurd (omega (arith, h))
there-at (x ∷ xs) zero h = (x.item, refl)
there-at (x ∷ xs) (suc i) h = there-at xs i (omega (arith, h))

pub interface-there : (c : Collection) (i : InterfaceId) → HasInterface c i → (it : Interface) × (item_at c.interfaces i.0 ≡ Some it)
interface-there c i held = there-at c.interfaces i.0 held

pub entries-are : (c : Collection) (i : InterfaceId) (it : Interface) → item_at c.interfaces i.0 ≡ Some it → entry_weight c (ty.Interface i) ≡ named_parts it.exports
entries-are c i it at = ap (λ (o : Option Interface). named_parts (option_case o [] (λ x. x.exports))) at

pub told-answer : {T : Type 0} (c : Collection) (b : Bool) (k : ItemKind) (i : InterfaceId) (it : Interface) (s t : State) (r : Result T BinaryFault) → k ≡ kind.Instance i → item_at c.interfaces i.0 ≡ Some it → IsOpenType s.here.content → IsAnswerPaid c b [] (telling_cost b (content_of s.here.content) it.exports) s t r
    → IsAnswerPaid c b [] (told_cost c k) s t r
told-answer c b k i it s t r is at o h =
    same-answer c b [] (told_cost c (kind.Instance i)) (told_cost c k) s t r (sym (ap (told_cost c) is))
    (up-to-answer c b [] (telling_cost b (content_of s.here.content) it.exports) (told_cost c (kind.Instance i)) s t r
    (subst (λ (n : ℕ). telling_cost b (content_of s.here.content) it.exports ≤ 10 * n) (sym (entries-are c i it at)) (telling-less b s.here.content it.exports o)) h)

pub none-unrecorded : (b : Bool) (s : State) (rs : List ResourceId) → rs ≡ [] → AreUnrecorded b s rs
none-unrecorded b s rs none r h = let no : false ≡ true = ap (λ (qs : List ResourceId). is_one_of qs r) (sym none) ∙ h in cc

-- a level that is closed

pub closes-no-room : (c : Collection) (b : Bool) (s t : State) (e : BinaryFault) → e ≡ TooLarge → ClosesPaid {T = ℕ} c b s t (Err e) → HasNoRoomToClose c b s
closes-no-room c b s t e is h = inl (subst (λ (y : BinaryFault). ClosesPaid {T = ℕ} c b s t (Err y)) is h)

pub closed-shorter : (s u : State) → ClosesInto s u → length u.around.items ≤ length s.around.items
closed-shorter s u h =
    let long = ap (λ (ss : List Scope). length ss) h.1 ∙ length-append u.around.items (h.0 ∷ []) in
    omega (arith, long)

pub more-room : (s n : ℕ) → 2 ^ 32 ≤ n → 2 ^ 32 ≤ s + n
more-room s n h = more (2 ^ 32) s n h
  where
    more : (m t k : ℕ) → m ≤ k → m ≤ t + k
    more m t k g = omega (arith, g)

pub turned-sum : (n k : ℕ) → n + k ≡ k + n
turned-sum n k = omega arith

pub first-no-room : (c : Collection) (b : Bool) (ts : List AnyType) (n k : ℕ) (s : State) → HasNoRoom c b ts n s → HasNoRoom c b ts (n + k) s
first-no-room c b ts n k s h = no-room-up-to c b ts n (n + k) s (omega arith) h

-- the exit of a `?` after a call that only takes memory, in place of declarations
pub none-sized : (h n : ℕ) (r : Result (List Decl) BinaryFault) → IsErrAnd r (λ y. y ≡ OutOfMemory) → SizedWithin h n r
none-sized h n (Ok ds) g = absurd g
none-sized h n (Err TooLarge) g = let both : TooLarge ≡ OutOfMemory = g in cc
none-sized h n (Err OutOfMemory) g = tt

pub interface-holds : (c : Collection) (i : InterfaceId) → HasInterface c i → holds_type c (ty.Interface i) ≡ true
interface-holds c i held = lt-ltb i.0 (length c.interfaces) held

pub same-less : (n m : ℕ) → n ≡ m → n ≤ m
same-less n m is = omega (arith, is)

-- There is no room where the cost alone comes to 2 ^ 32.
pub no-room-alone : (c : Collection) (b : Bool) (ts : List AnyType) (n : ℕ) (s : State) → 2 ^ 32 ≤ n → HasNoRoom c b ts n s
no-room-alone c b ts n s h = no-room-with-more c b ts n s (no-room-by c b n s (more-room (total c b s) n h))

pub memory-error : {U : Type 0} (r : Result U BinaryFault) → IsErrAnd r (λ y. y ≡ OutOfMemory) → IfErr r (λ e. e ≡ OutOfMemory)
memory-error (Ok x) h = absurd h
memory-error (Err e) h = h

pub open-holds : (b : Bool) (x : Encodable) (t : AnyType) → IsOpenType x → MayHold b x t
open-holds b x (ty.Interface i) o = open-encloses b x o
open-holds b x (ty.Resource r) o = tt
open-holds b x (ty.Func f) o = tt
open-holds b x (ty.Value v) o = tt
open-holds b x (ty.World w) o = tt
open-holds b x (ty.Module m) o = tt
