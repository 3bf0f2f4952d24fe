-- What calls on the open scopes cost, and the laws of that.
use Rattle.std.specs.Prelude.{ℕ, zero, suc, ◌≡◌, ◌≤◌, ◌<◌, ◌+◌, ◌*◌, ◌^◌, Bool, true, false, List, [], ◌∷◌, length, Option, Some, None, Result, Ok, Err, OnOk, IfErr, IsErrAnd, slice_get, if◌then◌else◌}
use Rattle.std.specs.List.{AllByRecursion, AllZip, sum_by}
use Rattle.std.proofs.Common.{refl, ap, ◌∙◌, sym, subst, arith, le_refl, le_trans}
use Rattle.std.proofs.Math.ListN.{set}
use Rattle.std.proofs.lemmas.List.Sums.{sum_by-cons, sum_by-le-sum_by}
use Rattle.wac_types_shapes.specs.primitives.Name.{option_case}
use Rattle.wac_types_shapes.specs.declared.shapes.component.ResourceId.{ResourceId}
use Rattle.wac_types_shapes.specs.declared.shapes.component.DefinedTypeId.{DefinedTypeId}
use Rattle.wac_types_shapes.specs.declared.shapes.component.Resource.{Resource}
use Rattle.wac_types_shapes.specs.declared.shapes.component.DefinedType.{DefinedType}
use Rattle.wac_types_shapes.specs.declared.shapes.component.ValueType.TheVariants as val
use Rattle.wac_types_shapes.specs.declared.shapes.component.«Type».{«Type» as AnyType}
use Rattle.wac_types_shapes.specs.declared.shapes.component.«Type».TheVariants as ty
use Rattle.wac_types_collection.specs.collection.Collection.{Collection, item_at, HasDefined}
use Rattle.wac_types_collection.specs.declared.collection.collection.Held.{Held}
use Rattle.wac_types_weight.specs.Weight.{defined_parts}
use Rattle.wac_types_weight.specs.Text.{own_text, own_texts}
use Rattle.wac_binary.specs.Items.{Alias}
use Rattle.wac_binary.specs.declared.fault.BinaryFault.{BinaryFault}
use Rattle.wac_binary.specs.declared.fault.BinaryFault.TheVariants.{TooLarge, OutOfMemory}
use Rattle.wac_encode_scopes.specs.declared.book.Book.{Book}
use Rattle.wac_encode_scopes.specs.declared.encodable.Encodable.{Encodable}
use Rattle.wac_encode_scopes.specs.declared.encodable.Encodable.TheVariants.{Builder, Instance, Component}
use Rattle.wac_encode_scopes.specs.declared.scope.Scope.{Scope}
use Rattle.wac_encode_scopes.specs.declared.state.State.{State}
use Rattle.wac_encode_scopes.specs.Contents.{content_of, and_alias_of, AddsTypes}
use Rattle.wac_encode_scopes.specs.Books.{recorded, opened}
use Rattle.wac_encode_scopes.specs.States.{outward, AllAddTypes}
use Rattle.wac_encode_scopes.specs.private.Paid.{charge, total, prices, rate, paid_for, all_paid, PayMoreIn, IsPaid, HasNoRoom, too_large, too_deep, IsOpenType, MayEnclose, ArePriced, IsPriced, IsAnswerPaid, IsFaultPaid, IsOwnResource}
use Rattle.wac_encode_scopes.specs.private.Limits.{IsTooLarge}
use Rattle.wac_encode_scopes.specs.private.PaidLaws.{PaysBoth, NoRoomBefore, PaysUpTo, NoRoomUpTo, PaysWithMore, NoRoomWithMore, PaysNothing, PaysAtMost, AddsAtMost, StaysPriced}
use Rattle.wac_encode_scopes.proofs.Limits.{small-or}
use Rattle.wac_encode_scopes.proofs.Opened.{book-kept}
use Rattle.wac_encode_scopes.proofs.Stepped.{Added}
use Rattle.wac_encode_scopes.proofs.Sums.{outward-sum, set-sum, member-le}
use Rattle.wac_encode_scopes.proofs.Charges.{same-prices, same-rate, rate-all, Pays}
use Rattle.wac_encode_scopes.proofs.Changes.{IsDeclared, EntriesPay}
use Rattle.wac_encode_stacks.specs.Scopes.{Open, and_alias}
use Rattle.wac_encode_stacks.specs.private.Sizes.{size_of, ContentFits, SmallFits}

-- sums of all open scopes

pub total-is : (c : Collection) (b : Bool) (s : State) → total c b s ≡ charge c b (opened b s.here) + sum_by (charge c b) (outward b s.around.items)
total-is c b s = sum_by-cons (charge c b) (opened b s.here) (outward b s.around.items)

pub around-is : (c : Collection) (b : Bool) (ss : List Scope) → sum_by (charge c b) (outward b ss) ≡ sum_by (λ (s : Scope). charge c b (opened b s)) ss
around-is c b ss = outward-sum (charge c b) b ss

here-sum : (new old x y z w a d n : ℕ) → new ≡ x + z → old ≡ y + w → z ≡ w → x + a ≤ y + d + n → new + a ≤ old + d + n
here-sum new old x y z w a d n e f g h = omega (arith, e, f, g, h)

around-sum : (new old x z w p q a d n : ℕ) → new ≡ x + z → old ≡ x + w → z + p ≡ w + q → q ≤ p + n → a ≡ d → new + a ≤ old + d + n
around-sum new old x z w p q a d n e f g h k = omega (arith, e, f, g, h, k)

zip-same : (c : Collection) (b : Bool) (ss : List Scope) → AllZip (PayMoreIn c b) ss ss
zip-same c b [] = tt
zip-same c b (s ∷ ss) = (λ a. le_refl (paid_for c b (opened b s) a), zip-same c b ss)

zip-then : (c : Collection) (b : Bool) (ss ts us : List Scope) → AllZip (PayMoreIn c b) ss ts → AllZip (PayMoreIn c b) ts us → AllZip (PayMoreIn c b) ss us
zip-then c b [] [] [] g h = tt
zip-then c b (s ∷ ss) (t ∷ ts) (u ∷ us) g h = (λ a. le_trans (g.0 a) (h.0 a), zip-then c b ss ts us g.1 h.1)
zip-then c b [] (t ∷ ts) us g h = absurd g
zip-then c b (s ∷ ss) [] us g h = absurd g
zip-then c b [] [] (u ∷ us) g h = absurd h
zip-then c b (s ∷ ss) (t ∷ ts) [] g h = absurd h

zip-long : (c : Collection) (b : Bool) (ss ts : List Scope) → AllZip (PayMoreIn c b) ss ts → length ts ≡ length ss
zip-long c b [] [] g = refl
zip-long c b (s ∷ ss) (t ∷ ts) g = ap suc (zip-long c b ss ts g.1)
zip-long c b [] (t ∷ ts) g = absurd g
zip-long c b (s ∷ ss) [] g = absurd g

zip-one : (c : Collection) (b : Bool) (ss : List Scope) (i : ℕ) (x y : Scope) → slice_get ss i ≡ Some x → PayMoreIn c b x y → AllZip (PayMoreIn c b) ss (set ss i y)
zip-one c b [] i x y at h = let no_some : None ≡ Some x = at in cc
zip-one c b (s ∷ ss) zero x y at h = let same : s ≡ x = some-is s x at in (subst (λ (z : Scope). PayMoreIn c b z y) (sym same) h, zip-same c b ss)
  where
    some-is : (u v : Scope) → Some u ≡ Some v → u ≡ v
    some-is u v e = cc
zip-one c b (s ∷ ss) (suc i) x y at h = (λ a. le_refl (paid_for c b (opened b s) a), zip-one c b ss i x y at h)

-- a change of the innermost scope, and of one around it

pub paid-here : (c : Collection) (b : Bool) (ts : List AnyType) (n : ℕ) (s t : State) → t.around.items ≡ s.around.items → Pays c b ts n (opened b s.here) (opened b t.here) → IsPaid c b ts n s t
paid-here c b ts n s t same p = record {
  pays = here-sum (total c b t) (total c b s) (charge c b (opened b t.here)) (charge c b (opened b s.here)) (sum_by (charge c b) (outward b t.around.items)) (sum_by (charge c b) (outward b s.around.items)) (all_paid c b (opened b s.here) ts) (all_paid c b (opened b t.here) ts) n
      (total-is c b t) (total-is c b s) (ap (λ (ss : List Scope). sum_by (charge c b) (outward b ss)) same) p.pays;
  more = p.more;
  around = subst (λ (ss : List Scope). AllZip (PayMoreIn c b) s.around.items ss) (sym same) (zip-same c b s.around.items);
  priced = same-prices b (opened b s.here).content (opened b t.here).content p.kind;
  rated = same-rate b (opened b s.here).content (opened b t.here).content p.kind;
}

pub paid-around : (c : Collection) (b : Bool) (ts : List AnyType) (n : ℕ) (s t : State) (i : ℕ) (x y : Scope) → i < length s.around.items → t.here ≡ s.here → slice_get s.around.items i ≡ Some x → t.around.items ≡ set s.around.items i y → Pays c b [] n (opened b x) (opened b y) → IsPaid c b ts n s t
paid-around c b ts n s t i x y lt same at items p =
    let here : opened b t.here ≡ opened b s.here = ap (opened b) same in
    record {
      pays = around-sum (total c b t) (total c b s) (charge c b (opened b s.here)) (sum_by (λ (z : Scope). charge c b (opened b z)) (set s.around.items i y)) (sum_by (λ (z : Scope). charge c b (opened b z)) s.around.items) (charge c b (opened b x)) (charge c b (opened b y)) (all_paid c b (opened b s.here) ts) (all_paid c b (opened b t.here) ts) n
          (total-is c b t ∙ ap (λ (o : Open). charge c b o + sum_by (charge c b) (outward b t.around.items)) here ∙ ap (λ (z : ℕ). charge c b (opened b s.here) + z) (around-is c b t.around.items ∙ ap (λ (ss : List Scope). sum_by (λ (z : Scope). charge c b (opened b z)) ss) items))
          (total-is c b s ∙ ap (λ (z : ℕ). charge c b (opened b s.here) + z) (around-is c b s.around.items))
          (set-sum (λ (z : Scope). charge c b (opened b z)) s.around.items i x y lt at)
          (plain (charge c b (opened b y)) (charge c b (opened b x)) n p.pays)
          (ap (λ (o : Open). all_paid c b o ts) (sym here));
      more = λ a. subst (λ (o : Open). paid_for c b (opened b s.here) a ≤ paid_for c b o a) (sym here) (le_refl (paid_for c b (opened b s.here) a));
      around = subst (λ (ss : List Scope). AllZip (PayMoreIn c b) s.around.items ss) (sym items) (zip-one c b s.around.items i x y at p.more);
      priced = ap (λ (o : Open). prices b o.content) here;
      rated = ap (λ (o : Open). rate b o.content) here;
    }
  where
    plain : (u v k : ℕ) → u + 0 ≤ v + 0 + k → u ≤ v + k
    plain u v k h = omega (arith, h)

-- no room

room-sum : (m k t x z new a d r n : ℕ) → m ≤ k → k ≤ new → t ≡ x + z → new + a ≤ x + d + n → d ≤ r → m + a ≤ t + r + n
room-sum m k t x z new a d r n e f g h i = omega (arith, e, f, g, h, i)

pub no-room-here : SmallFits → (c : Collection) (b : Bool) (ts : List AnyType) (n : ℕ) (s : State) (p : Open) → Pays c b ts n (opened b s.here) p → (ContentFits p.content → ⊥) → HasNoRoom c b ts n s
no-room-here fits c b ts n s p pays none =
    too_large (room-sum (2 ^ 32) (size_of p.content) (total c b s) (charge c b (opened b s.here)) (sum_by (charge c b) (outward b s.around.items)) (charge c b p) (all_paid c b (opened b s.here) ts) (all_paid c b p ts) (rate b (opened b s.here).content * own_texts c ts) n
    (small-or (size_of p.content) (ContentFits p.content) (fits p.content) none) (charge-more c b p) (total-is c b s) pays.pays
    (subst (λ (r : ℕ). all_paid c b p ts ≤ r * own_texts c ts) (same-rate b (opened b s.here).content p.content pays.kind) (rate-all c b p ts)))
  where
    charge-more : (d : Collection) (e : Bool) (q : Open) → size_of q.content ≤ charge d e q
    charge-more d e q = omega arith

around-room : (m k t x w v new a r n : ℕ) → m ≤ k → k ≤ new → t ≡ x + w → v ≤ w → new ≤ v + n → a ≤ r → m + a ≤ t + r + n
around-room m k t x w v new a r n e f g h i j = omega (arith, e, f, g, h, i, j)

pub no-room-around : SmallFits → (c : Collection) (b : Bool) (ts : List AnyType) (n : ℕ) (s : State) (i : ℕ) (x : Scope) (p : Open) → slice_get s.around.items i ≡ Some x → Pays c b [] n (opened b x) p → (ContentFits p.content → ⊥) → HasNoRoom c b ts n s
no-room-around fits c b ts n s i x p at pays none =
    too_large (around-room (2 ^ 32) (size_of p.content) (total c b s) (charge c b (opened b s.here)) (sum_by (λ (z : Scope). charge c b (opened b z)) s.around.items) (charge c b (opened b x)) (charge c b p) (all_paid c b (opened b s.here) ts) (rate b (opened b s.here).content * own_texts c ts) n
    (small-or (size_of p.content) (ContentFits p.content) (fits p.content) none) (charge-more c b p)
    (total-is c b s ∙ ap (λ (z : ℕ). charge c b (opened b s.here) + z) (around-is c b s.around.items))
    (member-le (λ (z : Scope). charge c b (opened b z)) s.around.items i x at)
    (plain (charge c b p) (charge c b (opened b x)) n pays.pays)
    (rate-all c b (opened b s.here) ts))
  where
    charge-more : (d : Collection) (e : Bool) (q : Open) → size_of q.content ≤ charge d e q
    charge-more d e q = omega arith

    plain : (u v k : ℕ) → u + 0 ≤ v + 0 + k → u ≤ v + k
    plain u v k h = omega (arith, h)

-- the laws

both-sum : (t u v a d e n k : ℕ) → u + a ≤ t + d + n → v + d ≤ u + e + k → v + a ≤ t + e + (n + k)
both-sum t u v a d e n k g h = omega (arith, g, h)

pub pays-both : PaysBoth
pays-both c b ts n k s t u g h = record {
  pays = both-sum (total c b s) (total c b t) (total c b u) (all_paid c b (opened b s.here) ts) (all_paid c b (opened b t.here) ts) (all_paid c b (opened b u.here) ts) n k g.pays h.pays;
  more = λ a. le_trans (g.more a) (h.more a);
  around = zip-then c b s.around.items t.around.items u.around.items g.around h.around;
  priced = h.priced ∙ g.priced;
  rated = h.rated ∙ g.rated;
}

before-sum : (m s t a d r n k : ℕ) → t + a ≤ s + d + n → m + d ≤ t + r + k → m + a ≤ s + r + (n + k)
before-sum m s t a d r n k g h = omega (arith, g, h)

pub no-room-before : NoRoomBefore
no-room-before c b ts n k s t g (too_large h) =
    too_large (before-sum (2 ^ 32) (total c b s) (total c b t) (all_paid c b (opened b s.here) ts) (all_paid c b (opened b t.here) ts) (rate b (opened b s.here).content * own_texts c ts) n k g.pays
    (subst (λ (r : ℕ). 2 ^ 32 + all_paid c b (opened b t.here) ts ≤ total c b t + r * own_texts c ts + k) g.rated h))
no-room-before c b ts n k s t g (too_deep h) = let same = zip-long c b s.around.items t.around.items g.around in too_deep (omega (arith, h, same))

up-to-sum : (x y n k : ℕ) → n ≤ k → x ≤ y + n → x ≤ y + k
up-to-sum x y n k h g = omega (arith, h, g)

pub pays-up-to : PaysUpTo
pays-up-to c b ts n k s t le g = record {
  pays = up-to-sum (total c b t + all_paid c b (opened b s.here) ts) (total c b s + all_paid c b (opened b t.here) ts) n k le g.pays;
  more = g.more;
  around = g.around;
  priced = g.priced;
  rated = g.rated;
}

pub no-room-up-to : NoRoomUpTo
no-room-up-to c b ts n k s le (too_large h) = too_large (up-to-sum (2 ^ 32 + all_paid c b (opened b s.here) ts) (total c b s + rate b (opened b s.here).content * own_texts c ts) n k le h)
no-room-up-to c b ts n k s le (too_deep h) = too_deep (up-to-sum (2 ^ 32) (length s.around.items) n k le h)

more-sum : (t s a d n : ℕ) → t + 0 ≤ s + 0 + n → a ≤ d → t + a ≤ s + d + n
more-sum t s a d n g h = omega (arith, g, h)

pub pays-with-more : PaysWithMore
pays-with-more c b ts n s t g = record {
  pays = more-sum (total c b t) (total c b s) (all_paid c b (opened b s.here) ts) (all_paid c b (opened b t.here) ts) n g.pays (sum_by-le-sum_by (paid_for c b (opened b s.here)) (paid_for c b (opened b t.here)) ts g.more);
  more = g.more;
  around = g.around;
  priced = g.priced;
  rated = g.rated;
}

room-more : (m s z a r n : ℕ) → m + 0 ≤ s + z + n → z ≡ 0 → a ≤ r → m + a ≤ s + r + n
room-more m s z a r n g e h = omega (arith, g, e, h)

nothing-owned : (r : ℕ) → r * 0 ≡ 0
nothing-owned r = omega arith

pub no-room-with-more : NoRoomWithMore
no-room-with-more c b ts n s (too_large h) =
    too_large (room-more (2 ^ 32) (total c b s) (rate b (opened b s.here).content * 0) (all_paid c b (opened b s.here) ts) (rate b (opened b s.here).content * own_texts c ts) n h (nothing-owned (rate b (opened b s.here).content)) (rate-all c b (opened b s.here) ts))
no-room-with-more c b ts n s (too_deep h) = too_deep h

same-sum : (t a : ℕ) → t + a ≤ t + a + 0
same-sum t a = omega arith

pub pays-nothing : PaysNothing
pays-nothing c b ts s = record {
  pays = same-sum (total c b s) (all_paid c b (opened b s.here) ts);
  more = λ a. le_refl (paid_for c b (opened b s.here) a);
  around = zip-same c b s.around.items;
  priced = refl;
  rated = refl;
}

pub pays-at-most : PaysAtMost
pays-at-most c b ts s = rate-all c b (opened b s.here) ts

adds-sum : (t s a d r n : ℕ) → t + a ≤ s + d + n → d ≤ r → t ≤ s + r + n
adds-sum t s a d r n g h = omega (arith, g, h)

pub adds-at-most : AddsAtMost
adds-at-most c b ts n s t g =
    adds-sum (total c b t) (total c b s) (all_paid c b (opened b s.here) ts) (all_paid c b (opened b t.here) ts) (rate b (opened b s.here).content * own_texts c ts) n g.pays
    (subst (λ (r : ℕ). all_paid c b (opened b t.here) ts ≤ r * own_texts c ts) g.rated (rate-all c b (opened b t.here) ts))

-- which scopes may be the root stays so

open-stays : (x y : Encodable) → AddsTypes x y → IsOpenType x → IsOpenType y
open-stays (Instance xs) (Instance ys) a h = tt
open-stays (Component xs) (Component ys) a h = tt
open-stays (Builder xs) y a h = absurd h
open-stays (Instance xs) (Builder ys) a h = absurd a
open-stays (Instance xs) (Component ys) a h = absurd a
open-stays (Component xs) (Builder ys) a h = absurd a
open-stays (Component xs) (Instance ys) a h = absurd a

enclose-stays : (b : Bool) (x y : Encodable) → AddsTypes x y → MayEnclose b x → MayEnclose b y
enclose-stays true x y a h = tt
enclose-stays false x y a h = open-stays x y a h

all-open-stay : (ss ts : List Scope) → AllZip Added ss ts → AllByRecursion (λ (s : Scope). IsOpenType s.content) ss → AllByRecursion (λ (s : Scope). IsOpenType s.content) ts
all-open-stay [] [] a h = tt
all-open-stay (s ∷ ss) (t ∷ ts) a h = (open-stays s.content t.content a.0 h.0, all-open-stay ss ts a.1 h.1)
all-open-stay [] (t ∷ ts) a h = absurd a
all-open-stay (s ∷ ss) [] a h = absurd a

all-priced-stay : (b : Bool) (ss ts : List Scope) (x y : Encodable) → AllZip Added ss ts → AddsTypes x y → ArePriced b ss x → ArePriced b ts y
all-priced-stay b [] [] x y a e h = tt
all-priced-stay b (s ∷ ss) (t ∷ ts) x y a e h = (enclose-stays b s.content t.content a.0 h.0, all-open-stay ss ts a.1 h.1, open-stays x y e h.2)
all-priced-stay b [] (t ∷ ts) x y a e h = absurd a
all-priced-stay b (s ∷ ss) [] x y a e h = absurd a

pub priced-stays : (b : Bool) (s t : State) → AllAddTypes s t → IsPriced b s → IsPriced b t
priced-stays b s t a h = all-priced-stay b s.around.items t.around.items s.here.content t.here.content a.1 a.0 h

pub stays-priced : StaysPriced
stays-priced c b s t goes h = priced-stays b s t goes.types h

pub priced-open : (b : Bool) (ss : List Scope) (x : Encodable) → 0 < length ss → ArePriced b ss x → IsOpenType x
priced-open b [] x lt h = absurd (omega (arith, lt))
priced-open b (s ∷ ss) x lt h = h.2

open-at : (ss : List Scope) (i : ℕ) (x : Scope) → slice_get ss i ≡ Some x → AllByRecursion (λ (s : Scope). IsOpenType s.content) ss → IsOpenType x.content
open-at [] i x at h = let no_some : None ≡ Some x = at in cc
open-at (s ∷ ss) zero x at h = subst (λ (z : Scope). IsOpenType z.content) (some-is s x at) h.0
  where
    some-is : (u v : Scope) → Some u ≡ Some v → u ≡ v
    some-is u v e = cc
open-at (s ∷ ss) (suc i) x at h = open-at ss i x at h.1

open-encloses : (b : Bool) (x : Encodable) → IsOpenType x → MayEnclose b x
open-encloses true x h = tt
open-encloses false x h = h

priced-at : (b : Bool) (ss : List Scope) (y : Encodable) (i : ℕ) (x : Scope) → slice_get ss i ≡ Some x → ArePriced b ss y → MayEnclose b x.content
priced-at b [] y i x at h = let no_some : None ≡ Some x = at in cc
priced-at b (s ∷ ss) y zero x at h = subst (λ (z : Scope). MayEnclose b z.content) (some-is s x at) h.0
  where
    some-is : (u v : Scope) → Some u ≡ Some v → u ≡ v
    some-is u v e = cc
priced-at b (s ∷ ss) y (suc i) x at h = open-encloses b x.content (open-at ss i x at h.1)

entries-pay : (b : Bool) (x : Encodable) → MayEnclose b x → EntriesPay b (content_of x)
entries-pay true (Builder xs) h = tt
entries-pay true (Instance ds) h = tt
entries-pay true (Component ds) h = tt
entries-pay false (Builder xs) h = absurd h
entries-pay false (Instance ds) h = tt
entries-pay false (Component ds) h = tt

pub around-pays : (b : Bool) (s : State) (i : ℕ) (x : Scope) → slice_get s.around.items i ≡ Some x → IsPriced b s → EntriesPay b (content_of x.content)
around-pays b s i x at h = entries-pay b x.content (priced-at b s.around.items s.here.content i x at h)

pub open-declared : (x : Encodable) → IsOpenType x → IsDeclared (content_of x)
open-declared (Builder xs) h = absurd h
open-declared (Instance ds) h = tt
open-declared (Component ds) h = tt

-- answers of calls

pub answer : {T : Type 0} (c : Collection) (b : Bool) (ts : List AnyType) (n : ℕ) (s t : State) (r : Result T BinaryFault) → OnOk r (IsPaid c b ts n s t) → (IsTooLarge r → HasNoRoom c b ts n s) → IsAnswerPaid c b ts n s t r
answer c b ts n s t (Ok x) h g = h
answer c b ts n s t (Err TooLarge) h g = g tt
answer c b ts n s t (Err OutOfMemory) h g = tt

-- the innermost scope becomes p, or p does not fit
pub here-answer : SmallFits → {T : Type 0} (c : Collection) (b : Bool) (ts : List AnyType) (n : ℕ) (s : State) (here : Scope) (p : Open) (r : Result T BinaryFault) → OnOk r (opened b here ≡ p) → (IsTooLarge r → ContentFits p.content → ⊥) → Pays c b ts n (opened b s.here) p → IsAnswerPaid c b ts n s (record s { here = here }) r
here-answer fits c b ts n s here p (Ok x) is none pays = paid-here c b ts n s (record s { here = here }) refl (subst (λ (o : Open). Pays c b ts n (opened b s.here) o) (sym is) pays)
here-answer fits c b ts n s here p (Err TooLarge) is none pays = no-room-here fits c b ts n s p pays (none tt)
here-answer fits c b ts n s here p (Err OutOfMemory) is none pays = tt

pub then-answer : {T : Type 0} (c : Collection) (b : Bool) (ts : List AnyType) (n k : ℕ) (s t u : State) (r : Result T BinaryFault) → IsPaid c b ts n s t → IsAnswerPaid c b ts k t u r → IsAnswerPaid c b ts (n + k) s u r
then-answer c b ts n k s t u (Ok x) g h = pays-both c b ts n k s t u g h
then-answer c b ts n k s t u (Err TooLarge) g h = no-room-before c b ts n k s t g h
then-answer c b ts n k s t u (Err OutOfMemory) g h = tt

-- the exit of a `?` after a call that was answered so
pub exit-answer : {U : Type 0} (c : Collection) (b : Bool) (ts : List AnyType) (n : ℕ) (s u : State) (e : BinaryFault) (r : Result U BinaryFault) → IsErrAnd r (λ y. y ≡ e) → IsFaultPaid c b ts n s e → IsAnswerPaid c b ts n s u r
exit-answer c b ts n s u e (Ok x) h g = absurd h
exit-answer c b ts n s u e (Err y) h g = subst (λ (z : BinaryFault). IsFaultPaid c b ts n s z) (sym h) g

then-fault : (c : Collection) (b : Bool) (ts : List AnyType) (n k : ℕ) (s t : State) (e : BinaryFault) → IsPaid c b ts n s t → IsFaultPaid c b ts k t e → IsFaultPaid c b ts (n + k) s e
then-fault c b ts n k s t TooLarge g h = no-room-before c b ts n k s t g h
then-fault c b ts n k s t OutOfMemory g h = tt

-- and after one call that was paid
pub exit-then : {U : Type 0} (c : Collection) (b : Bool) (ts : List AnyType) (n k : ℕ) (s t u : State) (e : BinaryFault) (r : Result U BinaryFault) → IsErrAnd r (λ y. y ≡ e) → IsPaid c b ts n s t → IsFaultPaid c b ts k t e → IsAnswerPaid c b ts (n + k) s u r
exit-then c b ts n k s t u e r h g f = exit-answer c b ts (n + k) s u e r h (then-fault c b ts n k s t e g f)

-- the exit of a `?` after a call that only takes memory
pub memory-answer : {U : Type 0} (c : Collection) (b : Bool) (ts : List AnyType) (n : ℕ) (s u : State) (e : BinaryFault) (r : Result U BinaryFault) → IsErrAnd r (λ y. y ≡ e) → e ≡ OutOfMemory → IsAnswerPaid c b ts n s u r
memory-answer c b ts n s u e (Ok x) h g = absurd h
memory-answer c b ts n s u e (Err TooLarge) h g = let both : TooLarge ≡ OutOfMemory = h ∙ g in cc
memory-answer c b ts n s u e (Err OutOfMemory) h g = tt

-- only memory was taken
pub records-answer : {T : Type 0} (c : Collection) (b : Bool) (ts : List AnyType) (n : ℕ) (s t : State) (r : Result T BinaryFault) → OnOk r (IsPaid c b ts n s t) → IfErr r (λ e. e ≡ OutOfMemory) → IsAnswerPaid c b ts n s t r
records-answer c b ts n s t (Ok x) h g = h
records-answer c b ts n s t (Err TooLarge) h g = let both : TooLarge ≡ OutOfMemory = g in cc
records-answer c b ts n s t (Err OutOfMemory) h g = tt

-- contents and weights

pub content-alias : (a : Alias) (x : Encodable) → content_of (and_alias_of a x) ≡ and_alias a (content_of x)
content-alias a (Builder items) = refl
content-alias a (Instance ds) = refl
content-alias a (Component ds) = refl

pub opened-written : (b : Bool) (s : Scope) (x : Encodable) → opened b (record s { content = x }) ≡ record (opened b s) { content = content_of x }
opened-written b s x = ap (λ (k : Book). recorded k (content_of x)) (book-kept b s x)

item-there : {A : Type 0} (xs : List (Held A)) (i : ℕ) → i < length xs → (x : A) × (item_at xs i ≡ Some x)
item-there [] i lt = absurd (omega (arith, lt))
item-there (x ∷ xs) zero lt = (x.item, refl)
item-there (x ∷ xs) (suc i) lt = item-there xs i (omega (arith, lt))

pub resource-weighs : (c : Collection) (r : ResourceId) → IsOwnResource c r → own_text c (ty.Resource r) ≡ 1
resource-weighs c r own =
    let x = item-there c.resources r.0 own.0 in
    ap (λ (b : Bool). if b then 0 else option_case (item_at c.resources r.0) 0 (λ z. 1)) own.1 ∙ ap (λ (o : Option Resource). option_case o 0 (λ z. 1)) x.1

pub defined-weighs : (c : Collection) (d : DefinedTypeId) → HasDefined c d → 1 ≤ own_text c (ty.Value (val.Defined d))
defined-weighs c d lt =
    let x = item-there c.defined d.0 lt in
    let weight : own_text c (ty.Value (val.Defined d)) ≡ 1 + defined_parts x.0 = ap (λ (o : Option DefinedType). option_case o 0 (λ z. 1 + defined_parts z)) x.1 in
    omega (arith, weight)
