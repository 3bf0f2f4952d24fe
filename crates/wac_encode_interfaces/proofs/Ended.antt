-- Levels that go on and end, until the interface is written.
use Rattle.std.specs.Prelude.{◌+◌, ◌-◌, ◌*◌, ◌<◌, ◌≤◌, slice_index}
use Rattle.std.specs.List.{AllZip}
use Rattle.std.proofs.Common.{ℕ, zero, suc, ◌≡◌, Bool, true, false, List, [], ◌∷◌, ◌++◌, length, reverse, slice_get, Option, Some, None, refl, ap, sym, ◌∙◌, subst, arith, add-one}
use Rattle.std.proofs.lemmas.List.{reverse-append}
use Rattle.std.proofs.lemmas.Option.{slice_get-get_or}
use Rattle.wac_types_shapes.specs.primitives.Name.{Name, option_case}
use Rattle.wac_types_shapes.specs.primitives.Tree.{exported, Tree, instance}
use Rattle.wac_types_shapes.specs.declared.shapes.component.InterfaceId.{InterfaceId}
use Rattle.wac_types_shapes.specs.declared.shapes.component.Interface.{Interface}
use Rattle.wac_types_shapes.specs.declared.shapes.component.ItemKind.{ItemKind}
use Rattle.wac_types_shapes.specs.declared.shapes.component.«Type».TheVariants as ty
use Rattle.wac_types_collection.specs.declared.collection.collection.Held.{Held}
use Rattle.wac_types_collection.specs.collection.Collection.{Collection, IsWellFormed, HasInterface, AddedBefore, IsBefore, item_at}
use Rattle.wac_types_collection.specs.collection.Bound.{Bindings}
use Rattle.wac_binary.specs.HasMeaning.{IsInstance}
use Rattle.wac_encode_stacks.specs.Scopes.{How, Stack}
use Rattle.wac_encode_stacks.specs.Good.{At, Good, innermost, top}
use Rattle.wac_encode_stacks.specs.private.Laws.{Follows}
use Rattle.wac_encode_stacks.specs.Listed.{AreListed, FreshInInterface, HoldsInterface, ListsInAnyOrder, ListsOneMore}
use Rattle.wac_encode_stacks.specs.private.Brought.{GoodOnce}
use Rattle.wac_encode_scopes.specs.declared.encodable.Encodable.{Encodable}
use Rattle.wac_encode_scopes.specs.declared.encodable.Encodable.TheVariants.{Builder, Instance, Component}
use Rattle.wac_encode_scopes.specs.declared.scope.Scope.{Scope}
use Rattle.wac_encode_scopes.specs.declared.state.State.{State}
use Rattle.wac_encode_scopes.specs.Contents.{AddsTypes, HasSide, IsInstanceType}
use Rattle.wac_encode_scopes.specs.private.Interfaces.{BeginsInterface}
use Rattle.wac_encode_scopes.specs.private.Listing.{Closes, ClosesInto, IsNonempty}
use Rattle.wac_encode_scopes.specs.States.{stack, Goes, IsRecordedAt}
use Rattle.wac_encode_scopes.proofs.Stepped.{goes-both}
use Rattle.wac_encode_stacks.proofs.Unfolded.{held_item}
use Rattle.wac_encode_values.proofs.Waiting.{unit, effort, waits-less}
use Rattle.wac_encode_order.specs.private.Interfaces.{comes_later}
use Rattle.wac_encode_interfaces.specs.private.Refused.{KeepsScopes}
use Rattle.wac_encode_interfaces.specs.private.Trees.{IsInterfaceHeld}
use Rattle.wac_encode_interfaces.specs.private.Ready.{IsInterfaceAt, IsInterfaceReady}
use Rattle.wac_encode_interfaces.specs.private.Items.{AddsBeside, AddsItem, HasInterfaceOf}
use Rattle.wac_encode_interfaces.specs.private.Worlds.{Worlds}
use Rattle.wac_encode_interfaces.specs.declared.level.Level.{Level}
use Rattle.wac_encode_interfaces.specs.private.Nests.{IsLevel, IsNewLevel, IsNextItem, following, listed_items, WaitsFor, IsNest, Nest, IsUnderWay, KeepsLevels, IsClosedInto, IsEnded, HasNext}
use Rattle.wac_encode_interfaces.proofs.Refused.{keeps-none as scopes-none, keeps-both as scopes-both}
use Rattle.wac_encode_interfaces.proofs.Nests.{one-interface, goes-on, nest-first, nest-inner, nest-exported, nest-closed, nest-ended}
use Rattle.wac_encode_interfaces.proofs.Shown.{shown, contains-at, all-listed, unlisted, unbound}
use Rattle.wac_encode_interfaces.proofs.TypesTree.{exports-held}
use Rattle.wac_encode_interfaces.proofs.Parts.{nest-inside, nest-listed, next-before, next-once, interface-type}

-- ---- an item is exported, and what it exports is recorded

pub export-keeps : ListsOneMore → FreshInInterface → (c : Collection) (b : Bool) (s t u : State) (l : Level) (n : Name) (k : ItemKind) (j : ℕ) → IsNextItem c l n k → AddsItem c b exported n k s t j → AddsBeside b exported n s t → Goes c b t u → KeepsLevels c b s l u (following l)
export-keeps law fresh c b s t u l n k j x adds beside goes i cut old ks h =
    goes-on c b i cut old (following l) ks t u (nest-exported law c b cut i n k j old s t l x ks (unlisted c l h.2.0 n k x) (unbound c l h.2.0 n k x fresh) adds beside h) goes

pub keeps-none : (c : Collection) (b : Bool) (s : State) (l : Level) → KeepsLevels c b s l s l
keeps-none c b s l i cut old ks h = h

pub keeps-both : (c : Collection) (b : Bool) (s t u : State) (l m n : Level) → KeepsLevels c b s l t m → KeepsLevels c b t m u n → KeepsLevels c b s l u n
keeps-both c b s t u l m n g h i cut old ks nest = h i cut old ks (g i cut old ks nest)

-- ---- what a level's scope is

exports-side : (x : Encodable) → IsInstanceType x → HasSide exported x
exports-side (Instance ds) h = tt
exports-side (Builder is) h = absurd h
exports-side (Component ds) h = absurd h

pub level-side : (c : Collection) (b : Bool) (ws : Worlds) (s : State) (l : Level) (ks : List Level) → IsUnderWay c b ws s l ks → HasSide exported s.here.content
level-side c b ws s l ks u = exports-side s.here.content u.3.0.here.0

some-around : (xs : List Scope) (x : Scope) (base levels : List Scope) → AllZip (λ s t. AddsTypes s.content t.content) (xs ++ x ∷ []) base → IsNonempty (base ++ levels)
some-around [] x [] levels h = absurd h
some-around [] x (y ∷ base) levels h = tt
some-around (z ∷ xs) x [] levels h = absurd h
some-around (z ∷ xs) x (y ∷ base) levels h = tt

pub level-around : (c : Collection) (b : Bool) (ws : Worlds) (s : State) (l : Level) (ks : List Level) → IsUnderWay c b ws s l ks → IsNonempty s.around.items
level-around c b ws s l ks u = let a = u.3.0 in subst IsNonempty (sym a.around) (some-around u.2.around.items u.2.here a.base a.levels a.types)

-- ---- a level that is closed

abbrev pub Closed : Collection → Bool → State → Level → ℕ → Type 0
Closed c b t l k = (ns : List Bindings) × Good c ns (stack b t) × ((tree : Tree) × IsInterfaceHeld c l.types_only (top ns) l.interface tree × IsInstance tree × At ((innermost (stack b t)).types) k tree)

pub closed-level : ListsInAnyOrder → HoldsInterface → (c : Collection) → IsWellFormed c → (b : Bool) (i : InterfaceId) (cut : Bool) (old s t : State) (l : Level) (ks : List Level) (k : ℕ) → Nest c b i cut old l ks s → IsInterfaceReady c b old cut i → IsEnded l → Closes s t k → Closed c b t l k
closed-level order law c wf b i cut old s t l ks k nest ready ended closes =
    let at = nest.1 ready.bindings ready.good in
    by ks at.0 at.1 at.2
  where
    two : (js : List Level) (inner m : Bindings) (ms : List Bindings) → Good c (inner ∷ m ∷ ms) (stack b s) → IsNest c i cut ready.bindings (stack b old) l js (inner ∷ m ∷ ms) (stack b s) → Closed c b t l k
    two js inner m ms good down =
        let h : IsLevel c l = nest.2.0 in
        let items = (innermost (stack b s)).exports in
        let inside = nest-inside c i cut ready.bindings (stack b old) l js inner (m ∷ ms) (stack b s) down in
        let listed = nest-listed c i cut ready.bindings (stack b old) l js inner (m ∷ ms) (stack b s) down in
        let on = closes c b inner m ms good in
        let all : AreListed c inner exported (shown h.it l.types_only) items = order c inner exported (listed_items c h.it l) (shown h.it l.types_only) items (listed h.it h.interface) (all-listed c l h ended) in
        let held = exports-held law c wf l.interface h.it l.types_only m items h.interface (subst (λ (y : Bindings). AreListed c y exported (shown h.it l.types_only) items) (inside h.it h.interface) all) in
        (m ∷ ms, on.0.0, (instance items, held, tt, on.1))

    by : (js : List Level) (ms : List Bindings) → Good c ms (stack b s) → IsNest c i cut ready.bindings (stack b old) l js ms (stack b s) → Closed c b t l k
    by js [] good down = absurd good
    by js (inner ∷ m ∷ ms) good down = two js inner m ms good down
    by [] (inner ∷ []) good down = absurd (subst (λ (ns : List Bindings). Good c ns (stack b old)) (sym down.2) ready.good)
    by (j ∷ []) (inner ∷ []) good down = absurd down.4
    by (j ∷ q ∷ js) (inner ∷ []) good down = absurd down.4

pub closed-at : GoodOnce → (c : Collection) (b : Bool) (t u : State) (l : Level) (k : ℕ) → Closed c b t l k → Goes c b t u → IsInterfaceAt c b u l.types_only l.interface k
closed-at once c b t u l k closed goes ns good =
    let on = goes.onward closed.0 closed.1 in
    let same = once c closed.0 ns (stack b u) on.0 good in
    let x = closed.2 in
    (x.0, subst (λ (zs : List Bindings). IsInterfaceHeld c l.types_only (top zs) l.interface x.0) same x.1, x.2, on.1.0.keeps.types k x.0 x.3)

outermost : (c : Collection) (i : InterfaceId) (cut : Bool) (ms0 : List Bindings) (st0 : Stack) (l : Level) (ms : List Bindings) (st : Stack) → IsNest c i cut ms0 st0 l [] ms st → (l.interface ≡ i) × (l.types_only ≡ cut)
outermost c i cut ms0 st0 l (m ∷ ms) (o ∷ os) h = (h.0, h.1)
outermost c i cut ms0 st0 l [] st h = absurd h
outermost c i cut ms0 st0 l (m ∷ ms) [] h = absurd h

pub closed-into : Follows → (c : Collection) (b : Bool) (i : InterfaceId) (cut : Bool) (old s t u : State) (l : Level) (ks : List Level) (k : ℕ) → Nest c b i cut old l ks s → IsInterfaceReady c b old cut i → Closes s t k → ClosesInto s t → Goes c b t u → IsInterfaceAt c b u l.types_only l.interface k → IsClosedInto c b i cut old ks u k
closed-into follows c b i cut old s t u l [] k nest ready closes into goes at =
    let down = nest.1 ready.bindings ready.good in
    let same = outermost c i cut ready.bindings (stack b old) l down.0 (stack b s) down.2 in (
      goes-both follows c b old t u (nest-ended c b cut i old s t l k closes into nest) goes,
      subst (λ (x : Bool). IsInterfaceAt c b u x i k) same.1 (subst (λ (j : InterfaceId). IsInterfaceAt c b u l.types_only j k) same.0 at),
    )
closed-into follows c b i cut old s t u l (j ∷ ks) k nest ready closes into goes at = goes-on c b i cut old j ks t u (nest-closed c b cut i old s t l j ks k closes into nest) goes

-- ---- the level that waited for it

abbrev IsWaiting : Collection → Level → Level → Type 0
IsWaiting c outer l = WaitsFor c outer l.interface × (l.types_only ≡ false)

waiting-by : (c : Collection) (i : InterfaceId) (cut : Bool) (ms0 : List Bindings) (st0 : Stack) (l outer : Level) (ks : List Level) (ms : List Bindings) (st : Stack) → IsNest c i cut ms0 st0 l (outer ∷ ks) ms st → IsWaiting c outer l
waiting-by c i cut ms0 st0 l outer ks (m ∷ ms) (o ∷ os) h = (h.3, h.0)
waiting-by c i cut ms0 st0 l outer ks [] st h = absurd h
waiting-by c i cut ms0 st0 l outer ks (m ∷ ms) [] h = absurd h

pub is-waiting : (c : Collection) (b : Bool) (i : InterfaceId) (cut : Bool) (old s : State) (l outer : Level) (ks : List Level) → Nest c b i cut old l (outer ∷ ks) s → IsInterfaceReady c b old cut i → IsWaiting c outer l
is-waiting c b i cut old s l outer ks nest ready = let down = nest.1 ready.bindings ready.good in waiting-by c i cut ready.bindings (stack b old) l outer ks down.0 (stack b s) down.2

get-within : {A : Type 0} (xs : List A) (i : ℕ) (x : A) → slice_get xs i ≡ Some x → i < length xs
get-within [] i x h = let no : None ≡ Some x = h in cc
get-within (y ∷ xs) zero x h = omega arith
get-within (y ∷ xs) (suc i) x h = let less = get-within xs i x h in omega (arith, less)

pub waits-left : (c : Collection) (l : Level) (i : InterfaceId) → WaitsFor c l i → l.next < length l.order.items
waits-left c l i w = get-within l.order.items l.next w.2.position w.2.next

-- ---- the levels that wait, the innermost last

pub innermost-last : (ls : List Level) (l : Level) → reverse (ls ++ l ∷ []) ≡ l ∷ reverse ls
innermost-last ls l = reverse-append ls (l ∷ [])

-- ---- how much is left to do

abbrev pub rank : Collection → InterfaceId → ℕ
rank c i = option_case (slice_get c.interfaces i.0) 0 (λ h. h.before)

abbrev pub load : Collection → List Level → ℕ
load c [] = 0
load c (l ∷ ls) = effort (rank c l.interface) (suc l.next) + load c ls

load-more : (c : Collection) (ls : List Level) (l : Level) → load c (ls ++ l ∷ []) ≡ load c ls + effort (rank c l.interface) (suc l.next)
load-more c [] l = omega arith
load-more c (k ∷ ls) l = let n = load-more c ls l in omega (arith, n)

rank-before : (c : Collection) (n : ℕ) (o : Option (Held Interface)) → AddedBefore n o → option_case o 0 (λ h. h.before) < n
rank-before c n None h = absurd h
rank-before c n (Some x) h = h

waited-below : (c : Collection) → IsWellFormed c → (l : Level) → IsLevel c l → (i : InterfaceId) → WaitsFor c l i → rank c i < rank c l.interface
waited-below c wf l h i w =
    let b = next-before c wf l h w.0 w.1 w.2 in
    let here : IsBefore c b.0.before (ty.Interface i) = subst (IsBefore c b.0.before) (interface-type w.1 i w.3) b.2 in
    subst (λ (n : ℕ). rank c i < n) (sym (ap (λ (o : Option (Held Interface)). option_case o 0 (λ h. h.before)) b.1)) (rank-before c b.0.before (slice_get c.interfaces i.0) here)

-- A level waits for an interface inside it.
pub inner-less : (c : Collection) → IsWellFormed c → (ws vs : List Level) (l filled outer inner : Level) (i : InterfaceId) → IsLevel c filled → WaitsFor c filled i → filled.interface ≡ l.interface → l.next ≤ filled.next → outer ≡ filled → vs ≡ ws ++ outer ∷ [] → inner.interface ≡ i → inner.next ≡ 0
    → load c vs + effort (rank c inner.interface) inner.next < load c ws + effort (rank c l.interface) l.next
inner-less c wf ws vs l filled outer inner i h w same further is more at none =
    let low : rank c i < rank c l.interface = subst (λ (j : InterfaceId). rank c i < rank c j) same (waited-below c wf filled h i w) in
    let less = waits-less (load c ws) (rank c l.interface) (rank c i) l.next filled.next further w.4 low in
    let last : load c vs ≡ load c ws + effort (rank c l.interface) (suc filled.next) =
    ap (load c) (more ∙ ap (λ (k : Level). ws ++ k ∷ []) is) ∙ load-more c ws filled ∙ ap (λ (j : InterfaceId). load c ws + effort (rank c j) (suc filled.next)) same in
    subst (λ (n : ℕ). n + effort (rank c inner.interface) inner.next < load c ws + effort (rank c l.interface) l.next) (sym last)
    (subst (λ (j : InterfaceId). (load c ws + effort (rank c l.interface) (suc filled.next)) + effort (rank c j) inner.next < load c ws + effort (rank c l.interface) l.next) (sym at)
    (subst (λ (n : ℕ). (load c ws + effort (rank c l.interface) (suc filled.next)) + effort (rank c i) n < load c ws + effort (rank c l.interface) l.next) (sym none) less))

-- A level is ended, and the one that waited for it exported its next item.
pub ended-less : (c : Collection) (ws vs : List Level) (l outer next : Level) → ws ≡ vs ++ outer ∷ [] → next ≡ following outer → load c vs + effort (rank c next.interface) next.next < load c ws + effort (rank c l.interface) l.next
ended-less c ws vs l outer next last is =
    let more : load c ws ≡ load c vs + effort (rank c outer.interface) (suc outer.next) = ap (load c) last ∙ load-more c vs outer in
    let here : effort (rank c next.interface) next.next ≡ effort (rank c outer.interface) (suc outer.next) = ap (λ (k : Level). effort (rank c k.interface) k.next) is in
    less (load c vs) (load c ws) (effort (rank c next.interface) next.next) (effort (rank c outer.interface) (suc outer.next)) ((18446744073709551616 - l.next) * unit (rank c l.interface)) more here
  where
    less : (v w n o y : ℕ) → w ≡ v + o → n ≡ o → v + n < w + suc y
    less v w n o y more same = omega (arith, more, same)

-- ---- the next item, as it is found

pub level-within : (c : Collection) (l : Level) → IsLevel c l → HasInterface c l.interface
level-within c l h = let at = held_item (slice_get c.interfaces l.interface.0) h.it h.interface in get-within c.interfaces l.interface.0 at.0 at.1

pub known-next : (c : Collection) (b : Bool) (s : State) (l : Level) (n : Name) (k : ItemKind) → IsNextItem c l n k → HasInterfaceOf b s k → HasNext c b s l
known-next c b s l n k x has m d y = subst (HasInterfaceOf b s) (next-once c l n m k d x y) has

-- ---- a step of filling

pub record Filling (c : Collection) (b : Bool) (old : State) (first : Level) (now : State) (l : Level) : Type 0 where
  pub keeps : KeepsLevels c b old first now l
  pub same : l.interface ≡ first.interface
  pub further : first.next ≤ l.next
  pub kept : KeepsScopes old now

pub filling-none : (c : Collection) (b : Bool) (s : State) (l : Level) → Filling c b s l s l
filling-none c b s l = record { keeps = keeps-none c b s l; same = refl; further = omega arith; kept = scopes-none s }

pub filling-on : (c : Collection) (b : Bool) (old s t : State) (first l m : Level) → Filling c b old first s l → KeepsLevels c b s l t m → m ≡ following l → KeepsScopes s t → Filling c b old first t m
filling-on c b old s t first l m f keeps is kept = record {
  keeps = keeps-both c b old s t first l m f.keeps keeps;
  same = ap (λ (k : Level). k.interface) is ∙ f.same;
  further =
      let next : m.next ≡ suc l.next = ap (λ (k : Level). k.next) is in
      let before = f.further in
      omega (arith, next, before);
  kept = scopes-both old s t f.kept kept;
}

pub filling-less : (l m : Level) → m ≡ following l → l.next < length l.order.items → length m.order.items - m.next < length l.order.items - l.next
filling-less l m is left =
    let next : m.next ≡ suc l.next = ap (λ (k : Level). k.next) is in
    let order : length m.order.items ≡ length l.order.items = ap (λ (k : Level). length k.order.items) is in
    omega (arith, next, order, left)

option-within : (o : Option (Name × ItemKind)) (f : Name × ItemKind → Bool) → option_case o false f ≡ true → (e : Name × ItemKind) × (o ≡ Some e)
option-within None f h = let no : false ≡ true = h in cc
option-within (Some e) f h = (e, refl)

pub position-within : (c : Collection) (l : Level) → IsLevel c l → (it : Interface) → item_at c.interfaces l.interface.0 ≡ Some it → (p : ℕ) → slice_get l.order.items l.next ≡ Some p → p < length it.exports
position-within c l h it at p next =
    let e = option-within (slice_get h.it.exports p) (comes_later c h.it l.types_only) ((h.each p).0 (contains-at l.order.items l.next p next)) in
    subst (λ (u : Interface). p < length u.exports) (one-interface c l.interface h.it it h.interface at) (get-within h.it.exports p e.0 e.1)

pub next-place : (shown_ items : List ℕ) (n : ℕ) → shown_ ≡ items → n < length items → slice_get items n ≡ Some (slice_index shown_ n)
next-place shown_ items n is low = subst (λ (ns : List ℕ). slice_get ns n ≡ Some (slice_index shown_ n)) is (slice_get-get_or shown_ n 0 (subst (λ (ns : List ℕ). n < length ns) (sym is) low))

-- ---- levels that are opened

pub first-nest : (c : Collection) (b : Bool) (i : InterfaceId) (cut : Bool) (s t : State) (l : Level) → IsNewLevel i cut l → IsLevel c l → ((it : Interface) → item_at c.interfaces i.0 ≡ Some it → BeginsInterface c b it s t) → Nest c b i cut s l [] t
first-nest c b i cut s t l new is begins =
    subst (λ (j : InterfaceId). Nest c b j cut s l [] t) new.0
    (nest-first c b cut is.it s t l is is.interface new.1 new.2 (begins is.it (subst (λ (j : InterfaceId). item_at c.interfaces j.0 ≡ Some is.it) new.0 is.interface)))

pub inner-nest : (c : Collection) (b : Bool) (i : InterfaceId) (cut : Bool) (old s t : State) (k l : Level) (ks : List Level) (j : InterfaceId) → Nest c b i cut old k ks s → WaitsFor c k j → IsNewLevel j false l → IsLevel c l → ((it : Interface) → item_at c.interfaces j.0 ≡ Some it → BeginsInterface c b it s t) → Nest c b i cut old l (k ∷ ks) t
inner-nest c b i cut old s t k l ks j nest waits new is begins =
    nest-inner c b cut i is.it old s t k l ks is is.interface new.1 new.2 (subst (WaitsFor c k) (sym new.0) waits)
    (begins is.it (subst (λ (x : InterfaceId). item_at c.interfaces x.0 ≡ Some is.it) new.0 is.interface)) nest

-- ---- the level that goes on after the innermost one is closed

module _ (c : Collection) (b : Bool) (i : InterfaceId) (cut : Bool) (old s t : State) (l outer : Level) (ws us : List Level) (k : ℕ) (last : ws ≡ us ++ outer ∷ []) (ready : IsInterfaceReady c b old cut i) where
  waits-innermost : reverse ws ≡ outer ∷ reverse us
  waits-innermost = ap (λ (ls : List Level). reverse ls) last ∙ innermost-last us outer

  pub outer-nest : IsClosedInto c b i cut old (reverse ws) t k → Nest c b i cut old outer (reverse us) t
  outer-nest h = subst (λ (ks : List Level). IsClosedInto c b i cut old ks t k) waits-innermost h

  pub outer-waits : Nest c b i cut old l (reverse ws) s → WaitsFor c outer l.interface × (l.types_only ≡ false)
  outer-waits nest = is-waiting c b i cut old s l outer (reverse us) (subst (λ (ks : List Level). Nest c b i cut old l ks s) waits-innermost nest) ready

pub inner-waits : (c : Collection) (b : Bool) (i : InterfaceId) (cut : Bool) (old s : State) (l outer : Level) (ws vs : List Level) → vs ≡ ws ++ outer ∷ [] → Nest c b i cut old l (outer ∷ reverse ws) s → Nest c b i cut old l (reverse vs) s
inner-waits c b i cut old s l outer ws vs more nest = subst (λ (ks : List Level). Nest c b i cut old l ks s) (sym (ap (λ (ls : List Level). reverse ls) more ∙ innermost-last ws outer)) nest

pub last-closed : (c : Collection) (b : Bool) (i : InterfaceId) (cut : Bool) (old t : State) (ws : List Level) (k : ℕ) → ws ≡ [] → IsClosedInto c b i cut old (reverse ws) t k → Goes c b old t × IsInterfaceAt c b t cut i k
last-closed c b i cut old t ws k none h = subst (λ (ls : List Level). IsClosedInto c b i cut old (reverse ls) t k) none h

pub last-level : (c : Collection) (b : Bool) (i : InterfaceId) (cut : Bool) (old s : State) (l : Level) (ws : List Level) → ws ≡ [] → Nest c b i cut old l (reverse ws) s → IsInterfaceReady c b old cut i → (l.interface ≡ i) × (l.types_only ≡ cut)
last-level c b i cut old s l ws none nest ready =
    let here = subst (λ (ls : List Level). Nest c b i cut old l (reverse ls) s) none nest in
    let down = here.1 ready.bindings ready.good in
    outermost c i cut ready.bindings (stack b old) l down.0 (stack b s) down.2

pub recorded-as : (c : Collection) (b cut : Bool) (i : InterfaceId) (t : State) (l : Level) (k : ℕ) → (l.interface ≡ i) × (l.types_only ≡ cut) → (l.types_only ≡ false → (how : How) × IsRecordedAt b t (ty.Interface l.interface) how k) → cut ≡ false → (how : How) × IsRecordedAt b t (ty.Interface i) how k
recorded-as c b cut i t l k same recorded whole = subst (λ (j : InterfaceId). (how : How) × IsRecordedAt b t (ty.Interface j) how k) same.0 (recorded (same.1 ∙ whole))

pub one-further : (c : Collection) (b : Bool) (s t : State) (l : Level) → KeepsLevels c b s l t (following l) → KeepsLevels c b s l t (record l { next = l.next + 1 })
one-further c b s t l h = subst (KeepsLevels c b s l t) (ap (λ (n : ℕ). record l { next = n }) (sym (add-one l.next))) h

pub opened-inside : (c : Collection) (b : Bool) (i : InterfaceId) (cut : Bool) (old s t : State) (l inner outer new : Level) (ws vs : List Level) (j : InterfaceId) → Nest c b i cut old l (reverse ws) s → WaitsFor c l j → IsNewLevel j false inner → IsLevel c inner
    → ((it : Interface) → item_at c.interfaces j.0 ≡ Some it → BeginsInterface c b it s t) → outer ≡ l → new ≡ inner → vs ≡ ws ++ outer ∷ [] → Nest c b i cut old new (reverse vs) t
opened-inside c b i cut old s t l inner outer new ws vs j nest waits fresh is begins same after more =
    subst (λ (k : Level). Nest c b i cut old k (reverse vs) t) (sym after)
    (inner-waits c b i cut old t inner l ws vs (more ∙ ap (λ (k : Level). ws ++ k ∷ []) same) (inner-nest c b i cut old s t l inner (reverse ws) j nest waits fresh is begins))
