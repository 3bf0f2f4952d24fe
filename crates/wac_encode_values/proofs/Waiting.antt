-- Definitions that wait for others, and how much is left to do.
use Rattle.std.specs.Prelude.{ℕ, zero, suc, ◌+◌, ◌-◌, ◌*◌, ◌<◌, ◌≤◌, ◌^◌, ◌≡◌, Bool, true, false, nat_eq, List, [], ◌∷◌, ◌++◌, length, take, Option, Some, None, slice_get}
use Rattle.std.specs.List.{AllZip}
use Rattle.std.proofs.Common.{refl, ap, ◌∙◌, sym, subst, arith}
use Rattle.wac_types_shapes.specs.primitives.Name.{option_case}
use Rattle.wac_types_shapes.specs.declared.shapes.component.DefinedType.{DefinedType}
use Rattle.wac_types_shapes.specs.declared.shapes.component.DefinedTypeId.{DefinedTypeId}
use Rattle.wac_types_shapes.specs.declared.shapes.component.ValueType.{ValueType}
use Rattle.wac_types_shapes.specs.declared.shapes.component.ValueType.TheVariants as val
use Rattle.wac_types_shapes.specs.declared.shapes.component.«Type».TheVariants as ty
use Rattle.wac_types_collection.specs.collection.Collection.{Collection, IsWellFormed, item_at}
use Rattle.wac_binary.specs.declared.types.ComponentValType.{ComponentValType}
use Rattle.wac_encode_stacks.specs.private.Laws.{StaysIs, IsItsEnd, Follows}
use Rattle.wac_encode_stacks.specs.private.Brought.{GoodOnce}
use Rattle.wac_encode_stacks.specs.private.HeldParts.{HoldsParts}
use Rattle.wac_encode_scopes.specs.declared.state.State.{State}
use Rattle.wac_encode_scopes.specs.States.{Goes}
use Rattle.wac_encode_scopes.specs.private.Parts.{parts}
use Rattle.wac_encode_scopes.proofs.PartLists.{part-end-below}
use Rattle.wac_encode_values.specs.private.Values.{IsWrittenAs}
use Rattle.wac_encode_values.specs.private.Parts.{MaybeWrittenAs, CanBegin, WaitsFor, IsPartReady, AreFirstParts, AreParts, AreWaiting, IsAdded, IsFilled}
use Rattle.wac_encode_values.specs.declared.task.Task.{Task}
use Rattle.wac_encode_values.proofs.Ready.{ready-on, maybe-on, ready-end, ready-part, written-end}
use Rattle.wac_encode_scopes.proofs.Stepped.{goes-both}
use Rattle.wac_encode_values.proofs.Members.{part-ready}
use Rattle.wac_encode_values.proofs.Made.{zip-as, zip-more}

-- from step to step

pub begin-on : (c : Collection) (b : Bool) (s s' : State) (d : DefinedTypeId) → Goes c b s s' → CanBegin c b s d → CanBegin c b s' d
begin-on c b s s' d g h = record { held = h.held; plain = h.plain; ready = ready-on c b s s' (ty.Value (val.Defined d)) g h.ready }

pub first-on : GoodOnce → StaysIs → (c : Collection) (b : Bool) (s s' : State) (d e : DefinedTypeId) (ps : List (Option ComponentValType)) → CanBegin c b s d → Goes c b s s' → AreFirstParts c b s e ps → AreFirstParts c b s' e ps
first-on once stays c b s s' d e ps begin g h x at = zip-as (MaybeWrittenAs c b s) (MaybeWrittenAs c b s') (maybe-on once stays c b s s' (ty.Value (val.Defined d)) begin.ready g) (take (length ps) (parts x)) ps (h x at)

pub waiting-on : GoodOnce → StaysIs → (c : Collection) (b : Bool) (s s' : State) (d e : DefinedTypeId) (ts : List Task) → Goes c b s s' → AreWaiting c b s d ts e → AreWaiting c b s' d ts e
waiting-on once stays c b s s' d e [] g h = h
waiting-on once stays c b s s' d e (t ∷ ts) g h = (h.0, begin-on c b s s' t.id g h.1, first-on once stays c b s s' t.id t.id t.parts.items h.1 g h.2, h.3, h.4, waiting-on once stays c b s s' h.3 e ts g h.5)

-- one more waits, or the last waits no longer

pub waiting-more : (c : Collection) (b : Bool) (s : State) (d e : DefinedTypeId) (ts : List Task) (t : Task) → AreWaiting c b s d ts t.id → CanBegin c b s t.id → AreFirstParts c b s t.id t.parts.items → WaitsFor c t.id t.parts.items e → AreWaiting c b s d (ts ++ t ∷ []) e
waiting-more c b s d e [] t h begin first waits = (h, begin, first, e, waits, refl)
waiting-more c b s d e (u ∷ ts) t h begin first waits = (h.0, h.1, h.2, h.3, h.4, waiting-more c b s h.3 e ts t h.5 begin first waits)

abbrev pub LastWaits : Collection → Bool → State → DefinedTypeId → List Task → Task → DefinedTypeId → Type 0
LastWaits c b s d ts t e = AreWaiting c b s d ts t.id × CanBegin c b s t.id × AreFirstParts c b s t.id t.parts.items × WaitsFor c t.id t.parts.items e

pub waiting-last : (c : Collection) (b : Bool) (s : State) (d e : DefinedTypeId) (ts : List Task) (t : Task) → AreWaiting c b s d (ts ++ t ∷ []) e → LastWaits c b s d ts t e
waiting-last c b s d e [] t h = (h.0, h.1, h.2, subst (WaitsFor c t.id t.parts.items) (sym h.5) h.4)
waiting-last c b s d e (u ∷ ts) t h = let l = waiting-last c b s h.3 e ts t h.5 in ((h.0, h.1, h.2, h.3, h.4, l.0), l.1, l.2, l.3)

pub waiting-none : (c : Collection) (b : Bool) (s : State) (d e : DefinedTypeId) (ts : List Task) → ts ≡ [] → AreWaiting c b s d ts e → e ≡ d
waiting-none c b s d e ts is h = subst (λ (us : List Task). AreWaiting c b s d us e) is h

-- what a definition waits for may be written
pub begin-part : HoldsParts → (c : Collection) → IsWellFormed c → (b : Bool) (s : State) (d e : DefinedTypeId) (ps : List (Option ComponentValType)) → CanBegin c b s d → WaitsFor c d ps e → CanBegin c b s e
begin-part law c wf b s d e ps begin w = record {
  held = w.held;
  plain = w.plain;
  ready = ready-end c wf b s w.value (val.Defined e) (sym w.end) (ready-part law c wf b s d w.definition (length ps) w.value w.found w.part begin.ready);
}

long-one : {A : Type 0} (xs : List A) (x : A) → length (xs ++ x ∷ []) ≡ suc (length xs)
long-one [] x = refl
long-one (y ∷ xs) x = ap suc (long-one xs x)

-- one more part
pub first-more : (c : Collection) (b : Bool) (s : State) (d : DefinedTypeId) (x : DefinedType) (p : Option ValueType) (q : Option ComponentValType) (ps qs : List (Option ComponentValType)) → item_at c.defined d.0 ≡ Some x → slice_get (parts x) (length ps) ≡ Some p → MaybeWrittenAs c b s p q → qs ≡ ps ++ q ∷ [] → AreFirstParts c b s d ps → AreFirstParts c b s d qs
first-more c b s d x p q ps qs at here w is h = subst (AreFirstParts c b s d) (sym is) (λ y found.
    let both : Some x ≡ Some y = sym at ∙ found in
    let same : x ≡ y = cc in
    subst (λ (n : ℕ). AllZip (MaybeWrittenAs c b s) (take n (parts y)) (ps ++ q ∷ [])) (sym (long-one ps q))
    (zip-more (MaybeWrittenAs c b s) (parts y) ps (length ps) p q (subst (λ (z : DefinedType). slice_get (parts z) (length ps) ≡ Some p) same here) (h y found) w))

pub none-first : (c : Collection) (b : Bool) (s : State) (d : DefinedTypeId) (ps : List (Option ComponentValType)) → ps ≡ [] → AreFirstParts c b s d ps
none-first c b s d ps is = subst (AreFirstParts c b s d) (sym is) (λ x at. tt)

-- all parts are there if there is no next one
take-all : {A : Type 0} (xs : List A) (n : ℕ) → slice_get xs n ≡ None → take n xs ≡ xs
take-all [] zero e = refl
take-all [] (suc n) e = refl
take-all (x ∷ xs) zero e = let no_some : Some x ≡ None = e in cc
take-all {A} (x ∷ xs) (suc n) e = ap (λ (ys : List A). x ∷ ys) (take-all xs n e)

pub all-parts : (c : Collection) (b : Bool) (s : State) (d : DefinedTypeId) (x : DefinedType) (ps : List (Option ComponentValType)) → item_at c.defined d.0 ≡ Some x → slice_get (parts x) (length ps) ≡ None → AreFirstParts c b s d ps → AreParts c b s d ps
all-parts c b s d x ps at none h y found =
    let both : Some x ≡ Some y = sym at ∙ found in
    let same : x ≡ y = cc in
    subst (λ (os : List (Option ValueType)). AllZip (MaybeWrittenAs c b s) os ps) (take-all (parts y) (length ps) (subst (λ (z : DefinedType). slice_get (parts z) (length ps) ≡ None) same none)) (h y found)

-- the definition that the last one waited for is written
pub part-written : IsItsEnd → (c : Collection) → IsWellFormed c → (b : Bool) (s : State) (d e : DefinedTypeId) (ps qs : List (Option ComponentValType)) (x : ComponentValType) → WaitsFor c d ps e → IsWrittenAs c b s (val.Defined e) x → qs ≡ ps ++ Some x ∷ [] → AreFirstParts c b s d ps → AreFirstParts c b s d qs
part-written law c wf b s d e ps qs x w h is first = first-more c b s d w.definition (Some w.value) (Some x) ps qs w.found w.part (written-end law c wf b s w.value (val.Defined e) x (sym w.end) h) is first

-- a step of filling

abbrev pub parts_of : Collection → DefinedTypeId → List (Option ValueType)
parts_of c d = option_case (item_at c.defined d.0) [] parts

pub parts-of : (c : Collection) (d : DefinedTypeId) (x : DefinedType) → item_at c.defined d.0 ≡ Some x → parts_of c d ≡ parts x
parts-of c d x at = ap (λ (o : Option DefinedType). option_case o [] parts) at

within : {A : Type 0} (xs : List A) (n : ℕ) (x : A) → slice_get xs n ≡ Some x → n < length xs
within [] n x e = let no_some : None ≡ Some x = e in cc
within (y ∷ xs) zero x e = omega arith
within (y ∷ xs) (suc n) x e = let lt = within xs n x e in omega (arith, lt)

pub fewer-parts : (c : Collection) (d : DefinedTypeId) (x : DefinedType) (p : Option ValueType) (q : Option ComponentValType) (ps qs : List (Option ComponentValType)) → item_at c.defined d.0 ≡ Some x → slice_get (parts x) (length ps) ≡ Some p → qs ≡ ps ++ q ∷ [] → length (parts_of c d) - length qs < length (parts_of c d) - length ps
fewer-parts c d x p q ps qs at here is =
    let same = ap (λ (os : List (Option ValueType)). length os) (parts-of c d x at) in
    let lt = within (parts x) (length ps) p here in
    let n = ap (λ (os : List (Option ComponentValType)). length os) is ∙ long-one ps q in
    omega (arith, same, lt, n)

pub longer : (q : Option ComponentValType) (os ps qs : List (Option ComponentValType)) → length os ≤ length ps → qs ≡ ps ++ q ∷ [] → length os ≤ length qs
longer q os ps qs le is = let n = ap (λ (zs : List (Option ComponentValType)). length zs) is ∙ long-one ps q in omega (arith, le, n)

pub waits-for : (c : Collection) (b : Bool) (s : State) (d e : DefinedTypeId) (x : DefinedType) (p : Option ValueType) (ps qs : List (Option ComponentValType)) → item_at c.defined d.0 ≡ Some x → slice_get (parts x) (length ps) ≡ Some p → length ps + 1 < 2 ^ 64 → IsAdded c b s p ps qs (Some e) → AreFirstParts c b s d ps → IsFilled c b s d qs (Some e)
waits-for c b s d e x p ps qs at here small h first = subst (λ (zs : List (Option ComponentValType)). AreFirstParts c b s d zs × WaitsFor c d zs e) (sym h.0) (
  first,
  record {
    definition = x;
    found = at;
    value = h.1;
    part = here ∙ ap (λ (o : Option ValueType). Some o) h.2;
    end = h.3;
    plain = h.4;
    held = h.5;
    small = small;
  },
)

-- how much is left to do: a definition outweighs all that may be done for those before it

abbrev pub unit : ℕ → ℕ
unit zero = 1
unit (suc n) = suc (suc (18446744073709551616 * unit n))

abbrev pub effort : ℕ → ℕ → ℕ
effort d n = suc ((18446744073709551616 - n) * unit d)

-- of those that wait, from the part behind the one that they wait for on
abbrev pub load : List Task → ℕ
load [] = 0
load (t ∷ ts) = effort t.id.0 (suc (length t.parts.items)) + load ts

load-more : (ts : List Task) (t : Task) → load (ts ++ t ∷ []) ≡ load ts + effort t.id.0 (suc (length t.parts.items))
load-more [] t = omega arith
load-more (u ∷ ts) t = let n = load-more ts t in omega (arith, n)

-- what is before counts less
unit-below : (d e : ℕ) → e < d → suc (suc (18446744073709551616 * unit e)) ≤ unit d
unit-below zero e lt = absurd (omega (arith, lt))
unit-below (suc d) e lt = by_place (λ below. unit-below d e below) (nat_eq e d) refl
  where
    by_place : (e < d → suc (suc (18446744073709551616 * unit e)) ≤ unit d) → (t : Bool) → nat_eq e d ≡ t → suc (suc (18446744073709551616 * unit e)) ≤ suc (suc (18446744073709551616 * unit d))
    by_place rest true same = let here : e ≡ d = grind arith in subst (λ (k : ℕ). suc (suc (18446744073709551616 * unit e)) ≤ suc (suc (18446744073709551616 * unit k))) here (omega arith)
    by_place rest false other = let below : e < d = grind (arith, lt, other) in let less = rest below in omega (arith, less)

more-left : (p q n : ℕ) → p ≤ q → p * n ≤ q * n
more-left zero q n le = omega arith
more-left (suc p) zero n le = absurd (omega (arith, le))
more-left (suc p) (suc q) n le = let less = more-left p q n (omega (arith, le)) in omega (arith, less)

suc-times : (k u : ℕ) → suc k * u ≡ u + k * u
suc-times k u = omega arith

one-part : (n u : ℕ) → n + 1 < 2 ^ 64 → (18446744073709551616 - n) * u ≡ u + (18446744073709551616 - suc n) * u
one-part n u small = let one : 18446744073709551616 - n ≡ suc (18446744073709551616 - suc n) = omega (arith, small) in ap (λ (k : ℕ). k * u) one ∙ suc-times (18446744073709551616 - suc n) u

-- a definition waits for one before it
pub waits-less : (l : ℕ) (d e n m : ℕ) → n ≤ m → m + 1 < 2 ^ 64 → e < d → (l + effort d (suc m)) + effort e 0 < l + effort d n
waits-less l d e n m le small below =
    let one = one-part m (unit d) small in
    let more = more-left (18446744073709551616 - m) (18446744073709551616 - n) (unit d) (omega (arith, le)) in
    let less = unit-below d e below in
    arithmetic l ((18446744073709551616 - suc m) * unit d) ((18446744073709551616 - m) * unit d) ((18446744073709551616 - n) * unit d) (unit d) (18446744073709551616 * unit e) one more less
  where
    arithmetic : (l a z y u w : ℕ) → z ≡ u + a → z ≤ y → suc (suc w) ≤ u → (l + suc a) + suc w < l + suc y
    arithmetic l a z y u w one more less = omega (arith, one, more, less)

pub waiting-less : (ts : List Task) (t : Task) (d e n : ℕ) → t.id.0 ≡ d → n ≤ length t.parts.items → length t.parts.items + 1 < 2 ^ 64 → e < d → load (ts ++ t ∷ []) + effort e 0 < load ts + effort d n
waiting-less ts t d e n is le small below = subst (λ (k : ℕ). k + effort e 0 < load ts + effort d n) (sym (load-more ts t)) (subst (λ (k : ℕ). (load ts + effort k (suc (length t.parts.items))) + effort e 0 < load ts + effort d n) (sym is) (waits-less (load ts) d e n (length t.parts.items) le small below))

pub written-less : (ts : List Task) (t : Task) (qs : List (Option ComponentValType)) (x : Option ComponentValType) (d n : ℕ) → qs ≡ t.parts.items ++ x ∷ [] → load ts + effort t.id.0 (length qs) < load (ts ++ t ∷ []) + effort d n
written-less ts t qs x d n is =
    let long = ap (λ (zs : List (Option ComponentValType)). length zs) is ∙ long-one t.parts.items x in
    let less = load-more ts t in
    subst (λ (k : ℕ). load ts + effort t.id.0 k < load (ts ++ t ∷ []) + effort d n) (sym long) (arithmetic (load ts) (effort t.id.0 (suc (length t.parts.items))) (load (ts ++ t ∷ [])) ((18446744073709551616 - n) * unit d) less)
  where
    arithmetic : (l a z y : ℕ) → z ≡ l + a → l + a < z + suc y
    arithmetic l a z y e = omega (arith, e)

pub waited-below : (c : Collection) → IsWellFormed c → (d e : DefinedTypeId) (ps : List (Option ComponentValType)) → WaitsFor c d ps e → e.0 < d.0
waited-below c wf d e ps w = part-end-below c wf d w.definition (length ps) w.value e w.found w.part w.end

-- between two steps: the definitions in ts wait, the last for that of t
pub record UnderWay (c : Collection) (b : Bool) (old now : State) (d : DefinedTypeId) (ts : List Task) (t : Task) : Type 0 where
  pub goes : Goes c b old now
  pub waits : AreWaiting c b now d ts t.id
  pub begin : CanBegin c b now t.id
  pub first : AreFirstParts c b now t.id t.parts.items

pub under-way-first : (c : Collection) (b : Bool) (s : State) (d : DefinedTypeId) (ts : List Task) (t : Task) → Goes c b s s → CanBegin c b s d → ts ≡ [] → t.id ≡ d → t.parts.items ≡ [] → UnderWay c b s s d ts t
under-way-first c b s d ts t g begin is same none = record {
  goes = g;
  waits = subst (λ (us : List Task). AreWaiting c b s d us t.id) (sym is) same;
  begin = subst (CanBegin c b s) (sym same) begin;
  first = none-first c b s t.id t.parts.items none;
}

-- the definition waits for another
pub missing-step : GoodOnce → StaysIs → HoldsParts → Follows → (c : Collection) → IsWellFormed c → (b : Bool) (old now new : State) (d e : DefinedTypeId) (ts us : List Task) (t u w : Task) → UnderWay c b old now d ts t → Goes c b now new → AreFirstParts c b new t.id w.parts.items × WaitsFor c t.id w.parts.items e → w.id ≡ t.id → us ≡ ts ++ w ∷ [] → u.id ≡ e → u.parts.items ≡ [] → UnderWay c b old new d us u
missing-step once stays law follows c wf b old now new d e ts us t u w h g a same more is none =
    let back = sym same in
    let begin : CanBegin c b new w.id = subst (CanBegin c b new) back (begin-on c b now new t.id g h.begin) in
    let waits : WaitsFor c w.id w.parts.items e = subst (λ (k : DefinedTypeId). WaitsFor c k w.parts.items e) back a.1 in
    record {
      goes = goes-both follows c b old now new h.goes g;
      waits = subst (λ (zs : List Task). AreWaiting c b new d zs u.id) (sym more) (subst (λ (k : DefinedTypeId). AreWaiting c b new d (ts ++ w ∷ []) k) (sym is)
          (waiting-more c b new d e ts w (subst (AreWaiting c b new d ts) back (waiting-on once stays c b now new d t.id ts g h.waits)) begin (subst (λ (k : DefinedTypeId). AreFirstParts c b new k w.parts.items) back a.0) waits));
      begin = subst (CanBegin c b new) (sym is) (begin-part law c wf b new w.id e w.parts.items begin waits);
      first = none-first c b new u.id u.parts.items none;
    }

pub missing-less : (c : Collection) → IsWellFormed c → (e : DefinedTypeId) (ts us : List Task) (t u w : Task) → WaitsFor c t.id w.parts.items e → length t.parts.items ≤ length w.parts.items → w.id ≡ t.id → us ≡ ts ++ w ∷ [] → u.id ≡ e → u.parts.items ≡ [] → load us + effort u.id.0 (length u.parts.items) < load ts + effort t.id.0 (length t.parts.items)
missing-less c wf e ts us t u w waits le same more is none =
    let less = waiting-less ts w t.id.0 e.0 (length t.parts.items) (ap (λ (k : DefinedTypeId). k.0) same) le waits.small (waited-below c wf t.id e w.parts.items waits) in
    subst (λ (zs : List Task). load zs + effort u.id.0 (length u.parts.items) < load ts + effort t.id.0 (length t.parts.items)) (sym more)
    (subst (λ (k : DefinedTypeId). load (ts ++ w ∷ []) + effort k.0 (length u.parts.items) < load ts + effort t.id.0 (length t.parts.items)) (sym is)
    (subst (λ (ps : List (Option ComponentValType)). load (ts ++ w ∷ []) + effort e.0 (length ps) < load ts + effort t.id.0 (length t.parts.items)) (sym none) less))

-- the definition is written, and the last that waits goes on
pub written-step : GoodOnce → StaysIs → IsItsEnd → Follows → (c : Collection) → IsWellFormed c → (b : Bool) (old now new : State) (d : DefinedTypeId) (ts us : List Task) (t u w : Task) (x : ComponentValType) → UnderWay c b old now d ts t → Goes c b now new → IsWrittenAs c b new (val.Defined t.id) x → ts ≡ us ++ w ∷ [] → u.id ≡ w.id → u.parts.items ≡ w.parts.items ++ Some x ∷ [] → UnderWay c b old new d us u
written-step once stays law follows c wf b old now new d ts us t u w x h g written last same more =
    let l = waiting-last c b new d t.id us w (subst (λ (zs : List Task). AreWaiting c b new d zs t.id) last (waiting-on once stays c b now new d t.id ts g h.waits)) in
    record {
      goes = goes-both follows c b old now new h.goes g;
      waits = subst (AreWaiting c b new d us) (sym same) l.0;
      begin = subst (CanBegin c b new) (sym same) l.1;
      first = subst (λ (k : DefinedTypeId). AreFirstParts c b new k u.parts.items) (sym same) (part-written law c wf b new w.id t.id w.parts.items u.parts.items x l.3 written more l.2);
    }

pub written-smaller : (ts us : List Task) (t u w : Task) (x : Option ComponentValType) → ts ≡ us ++ w ∷ [] → u.id ≡ w.id → u.parts.items ≡ w.parts.items ++ x ∷ [] → load us + effort u.id.0 (length u.parts.items) < load ts + effort t.id.0 (length t.parts.items)
written-smaller ts us t u w x last same more =
    subst (λ (zs : List Task). load us + effort u.id.0 (length u.parts.items) < load zs + effort t.id.0 (length t.parts.items)) (sym last)
    (subst (λ (k : DefinedTypeId). load us + effort k.0 (length u.parts.items) < load (us ++ w ∷ []) + effort t.id.0 (length t.parts.items)) (sym same) (written-less us w u.parts.items x t.id.0 (length t.parts.items) more))

-- the definition is written, and none waits
pub written-last : (c : Collection) (b : Bool) (old now new : State) (d : DefinedTypeId) (ts : List Task) (t : Task) (x : ComponentValType) → UnderWay c b old now d ts t → ts ≡ [] → IsWrittenAs c b new (val.Defined t.id) x → IsWrittenAs c b new (val.Defined d) x
written-last c b old now new d ts t x h none w = subst (λ (k : DefinedTypeId). IsWrittenAs c b new (val.Defined k) x) (waiting-none c b now d t.id ts none h.waits) w

-- a step of filling

pub record Filling (c : Collection) (b : Bool) (old now : State) (d : DefinedTypeId) (os ps : List (Option ComponentValType)) : Type 0 where
  pub goes : Goes c b old now
  pub first : AreFirstParts c b now d ps
  pub longer : length os ≤ length ps

pub filling-first : (c : Collection) (b : Bool) (s : State) (d : DefinedTypeId) (ps : List (Option ComponentValType)) → Goes c b s s → AreFirstParts c b s d ps → Filling c b s s d ps ps
filling-first c b s d ps g h = record { goes = g; first = h; longer = omega arith }

pub filling-ready : HoldsParts → (c : Collection) → IsWellFormed c → (b : Bool) (old now : State) (d : DefinedTypeId) (os ps : List (Option ComponentValType)) (x : DefinedType) (p : Option ValueType) → CanBegin c b old d → Filling c b old now d os ps → item_at c.defined d.0 ≡ Some x → slice_get (parts x) (length ps) ≡ Some p → IsPartReady c b now p
filling-ready law c wf b old now d os ps x p begin h at here = part-ready law c wf b now d x (length ps) p at here (ready-on c b old now (ty.Value (val.Defined d)) h.goes begin.ready)

pub filling-step : GoodOnce → StaysIs → Follows → (c : Collection) (b : Bool) (old now new : State) (d : DefinedTypeId) (os ps qs : List (Option ComponentValType)) (x : DefinedType) (p : Option ValueType) → CanBegin c b old d → Filling c b old now d os ps → item_at c.defined d.0 ≡ Some x → slice_get (parts x) (length ps) ≡ Some p → Goes c b now new → IsAdded c b new p ps qs None → Filling c b old new d os qs
filling-step once stays follows c b old now new d os ps qs x p begin h at here g a = record {
  goes = goes-both follows c b old now new h.goes g;
  first = first-more c b new d x p a.0 ps qs at here a.2 a.1 (first-on once stays c b now new d d ps (begin-on c b old now d h.goes begin) g h.first);
  longer = longer a.0 os ps qs h.longer a.1;
}

pub filling-waits : GoodOnce → StaysIs → (c : Collection) (b : Bool) (old now new : State) (d e : DefinedTypeId) (os ps qs : List (Option ComponentValType)) (x : DefinedType) (p : Option ValueType) → CanBegin c b old d → Filling c b old now d os ps → item_at c.defined d.0 ≡ Some x → slice_get (parts x) (length ps) ≡ Some p → length ps + 1 < 2 ^ 64 → Goes c b now new → IsAdded c b new p ps qs (Some e) → IsFilled c b new d qs (Some e)
filling-waits once stays c b old now new d e os ps qs x p begin h at here small g a = waits-for c b new d e x p ps qs at here small a (first-on once stays c b now new d d ps (begin-on c b old now d h.goes begin) g h.first)
