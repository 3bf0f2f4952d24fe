-- What is put in a table stands there.
use Rattle.std.proofs.Common.{◌≡◌, ℕ, zero, suc, ◌<◌, ◌≤◌, List, [], ◌∷◌, ◌++◌, inl, inr, length, take, Option, Some, None, refl, ap, sym, ◌∙◌, subst, arith}
use Rattle.std.specs.Prelude.{slice_get}
use Rattle.std.specs.List.{AllByRecursion}
use Rattle.wac_types_shapes.specs.primitives.Name.{Name, option_case}
use Rattle.wac_merge_tables.specs.private.tables.Nodes.{Item, Node}
use Rattle.wac_merge_classes.proofs.lemmas.entries.Lists.{at-push, at-end}
use Rattle.wac_merge_classes.proofs.lemmas.terms.Found.{no_some, some_same}
use Rattle.wac_merge_agreement.specs.private.agreeing.Fitting.{exports_of}
use Rattle.wac_merge_agreement.specs.private.agreeing.Rows.{Spot, Row, Table, IsFree, IsLonger, here, there, IsPut, ArePut, members_put, exports_put, all_put}
use Rattle.wac_merge_agreement.specs.private.agreeing.Groups.{AreOrdered}
use Rattle.wac_merge_agreement.proofs.lemmas.agreeing.Comparing.{all_at, all_of}

pub all_push : {A : Type 0} (P : A → Type 0) (xs : List A) (x : A) → AllByRecursion P xs → P x → AllByRecursion P (xs ++ x ∷ [])
all_push P [] x h last = (last, tt)
all_push P (y ∷ xs) x h last = (h.0, all_push P xs x h.1 last)

-- ---- puts in turn
pub puts_more : (ps : List (Spot × Row)) (p : Spot × Row) (old mid new : Table) → ArePut old ps mid → IsPut mid p.0 p.1 new → ArePut old (ps ++ p ∷ []) new
puts_more [] p old mid new is one = (new, subst (λ (t : Table). IsPut t p.0 p.1 new) is one, refl)
puts_more (q ∷ ps) p old mid new (next, first, rest) one = (next, first, puts_more ps p next mid new rest one)

pub puts_on : (ps qs : List (Spot × Row)) (old mid new : Table) → ArePut old ps mid → ArePut mid qs new → ArePut old (ps ++ qs) new
puts_on [] qs old mid new is rest = subst (λ (t : Table). ArePut t qs new) is rest
puts_on (p ∷ ps) qs old mid new (next, first, more) rest = (next, first, puts_on ps qs next mid new more rest)

-- ---- what holds of all that is put
abbrev pub AllRows : (Spot → Row → Type 0) → Table → Type 0
AllRows P t = AllByRecursion (λ g. AllByRecursion (P g.0) g.1) t

longer_all : (P : Spot → Row → Type 0) (s : Spot) (r : Row) (t u : Table) → IsLonger s r t u → P s r → AllRows P t → AllRows P u
longer_all P s r _ _ (here rows t) one h = (all_push (P s) rows r h.0 one, h.1)
longer_all P s r _ _ (there g t u next) one h = (h.0, longer_all P s r t u next one h.1)

put_all : (P : Spot → Row → Type 0) (s : Spot) (r : Row) (t u : Table) → IsPut t s r u → P s r → AllRows P t → AllRows P u
put_all P s r t u (inl next) one h = longer_all P s r t u next one h
put_all P s r t u (inr (_, is)) one h = subst (AllRows P) (sym is) (all_push (λ (g : Spot × List Row). AllByRecursion (P g.0) g.1) t (s, r ∷ []) h (one, tt))

pub puts_all : (P : Spot → Row → Type 0) (ps : List (Spot × Row)) (t u : Table) → ArePut t ps u → AllByRecursion (λ p. P p.0 p.1) ps → AllRows P t → AllRows P u
puts_all P [] t u is all h = subst (AllRows P) (sym is) h
puts_all P (p ∷ ps) t u (mid, one, rest) all h = puts_all P ps mid u rest all.1 (put_all P p.0 p.1 t mid one all.0 h)

-- ---- some are at each spot
abbrev pub AreSome : Table → Type 0
AreSome t = AllByRecursion (λ g. 0 < length g.1) t

some_push : (rows : List Row) (r : Row) → 0 < length (rows ++ r ∷ [])
some_push [] r = omega arith
some_push (q ∷ rows) r = omega arith

longer_some : (s : Spot) (r : Row) (t u : Table) → IsLonger s r t u → AreSome t → AreSome u
longer_some s r _ _ (here rows t) h = (some_push rows r, h.1)
longer_some s r _ _ (there g t u next) h = (h.0, longer_some s r t u next h.1)

pub puts_some : (ps : List (Spot × Row)) (t u : Table) → ArePut t ps u → AreSome t → AreSome u
puts_some [] t u is h = subst AreSome (sym is) h
puts_some (p ∷ ps) t u (mid, one, rest) h = puts_some ps mid u rest (next one) where
  next : IsPut t p.0 p.1 mid → AreSome mid
  next (inl one) = longer_some p.0 p.1 t mid one h
  next (inr (_, is)) = subst AreSome (sym is) (all_push (λ (g : Spot × List Row). 0 < length g.1) t (p.0, p.1 ∷ []) h (omega arith))

-- ---- in order
pub ordered_push : (rows : List Row) (r : Row) → AreOrdered rows → AllByRecursion (λ q. q.0 ≤ r.0) rows → AreOrdered (rows ++ r ∷ [])
ordered_push [] r h low = (tt, tt)
ordered_push (q ∷ rows) r h low = (all_push (λ (p : Row). q.0 ≤ p.0) rows r h.0 low.0, ordered_push rows r h.1 low.1)

abbrev Below : ℕ → Table → Type 0
Below m t = AllRows (λ s q. q.0 ≤ m) t

abbrev OrderedIn : Table → Type 0
OrderedIn t = AllByRecursion (λ g. AreOrdered g.1) t

longer_ordered : (s : Spot) (r : Row) (t u : Table) → IsLonger s r t u → OrderedIn t → Below r.0 t → OrderedIn u
longer_ordered s r _ _ (here rows t) h low = (ordered_push rows r h.0 low.0, h.1)
longer_ordered s r _ _ (there g t u next) h low = (h.0, longer_ordered s r t u next h.1 low.1)

put_ordered : (s : Spot) (r : Row) (t u : Table) → IsPut t s r u → OrderedIn t → Below r.0 t → OrderedIn u
put_ordered s r t u (inl next) h low = longer_ordered s r t u next h low
put_ordered s r t u (inr (_, is)) h low = subst OrderedIn (sym is) (all_push (λ (g : Spot × List Row). AreOrdered g.1) t (s, r ∷ []) h (tt, tt))

-- the first entry is no less than a number, and each no less than the one before
abbrev pub FromOn : ℕ → List (Spot × Row) → Type 0
FromOn m [] = Unit {0}
FromOn m (p ∷ ps) = (m ≤ p.1.0) × FromOn p.1.0 ps

raised : (m l : ℕ) (t : Table) → m ≤ l → Below m t → Below l t
raised m l t low h = all_of (λ (g : Spot × List Row) k. all_of (λ (q : Row) (less : q.0 ≤ m). omega (arith, less, low)) g.1 k) t h

pub puts_ordered : (m : ℕ) (ps : List (Spot × Row)) (t u : Table) → ArePut t ps u → FromOn m ps → OrderedIn t → Below m t → OrderedIn u
puts_ordered m [] t u is from h low = subst OrderedIn (sym is) h
puts_ordered m (p ∷ ps) t u (mid, one, rest) from h low =
    let high = raised m p.1.0 t from.0 low in
    puts_ordered p.1.0 ps mid u rest from.1 (put_ordered p.0 p.1 t mid one h high) (put_all (λ s q. q.0 ≤ p.1.0) p.0 p.1 t mid one (omega arith) high)

from_less : (m l : ℕ) (ps : List (Spot × Row)) → m ≤ l → FromOn l ps → FromOn m ps
from_less m l [] low h = tt
from_less m l (p ∷ ps) low h = let first = h.0 in (omega (arith, low, first), h.1)

pub members_from : (i : ℕ) (xs : List Item) (cs : List ℕ) → FromOn i (members_put i xs cs)
members_from i [] cs = tt
members_from i (x ∷ xs) [] = tt
members_from i (x ∷ xs) (c ∷ cs) = (omega arith, from_less i (suc i) (members_put (suc i) xs cs) (omega arith) (members_from (suc i) xs cs))

exports_from : (m e : ℕ) (es : List (Name × Item)) (rest : List (Spot × Row)) → m ≤ e → FromOn e rest → FromOn m (exports_put e es ++ rest)
exports_from m e [] rest low h = from_less m e rest low h
exports_from m e (x ∷ es) rest low h = (low, exports_from e e es rest (omega arith) h)

from_one : (ns : List Node) (m : ℕ) (r : Row) (rest : List (Spot × Row)) (o : Option (List (Name × Item))) → m ≤ r.0 → FromOn r.0 rest → FromOn m (option_case o [] (exports_put r.0) ++ rest)
from_one ns m r rest None low h = from_less m r.0 rest low h
from_one ns m r rest (Some es) low h = exports_from m r.0 es rest low h

pub all_put_from : (ns : List Node) (m : ℕ) (rs : List Row) → AreOrdered rs → AllByRecursion (λ q. m ≤ q.0) rs → FromOn m (all_put ns rs)
all_put_from ns m [] ordered low = tt
all_put_from ns m (r ∷ rs) ordered low = from_one ns m r (all_put ns rs) (exports_of ns r.1) low.0 (all_put_from ns r.0 rs ordered.1 ordered.0)

-- ---- what is put stands at its spot
abbrev pub HasRow : Table → Spot → Row → Type 0
HasRow t s r = (k : ℕ) × (rows : List Row) × (l : ℕ) × (slice_get t k ≡ Some (s, rows)) × (slice_get rows l ≡ Some r)

longer_has : (s : Spot) (r : Row) (t u : Table) → IsLonger s r t u → HasRow u s r
longer_has s r _ _ (here rows t) = (0, rows ++ r ∷ [], length rows, refl, at-end rows r)
longer_has s r _ _ (there g t u next) = let (k, rows, l, at, is) = longer_has s r t u next in (suc k, rows, l, at, is)

longer_kept : (s : Spot) (r : Row) (t u : Table) (z : Spot) (q : Row) → IsLonger s r t u → HasRow t z q → HasRow u z q
longer_kept s r _ _ z q (here rows t) (zero, those, l, at, is) =
    let same : ◌≡◌ {A = Spot × List Row} (s, rows) (z, those) = some_same (s, rows) (z, those) at in
    (0, those ++ r ∷ [], l, ap (λ (g : Spot × List Row). Some (g.0, g.1 ++ r ∷ [])) same, at-push those r l q is)
longer_kept s r _ _ z q (here rows t) (suc k, those, l, at, is) = (suc k, those, l, at, is)
longer_kept s r _ _ z q (there g t u next) (zero, those, l, at, is) = (0, those, l, at, is)
longer_kept s r _ _ z q (there g t u next) (suc k, those, l, at, is) =
    let (j, rows, m, there_at, found) = longer_kept s r t u z q next (k, those, l, at, is) in (suc j, rows, m, there_at, found)

put_has : (s : Spot) (r : Row) (t u : Table) → IsPut t s r u → HasRow u s r
put_has s r t u (inl next) = longer_has s r t u next
put_has s r t u (inr (_, is)) = (length t, r ∷ [], 0, subst (λ (l : Table). slice_get l (length t) ≡ Some (s, r ∷ [])) (sym is) (at-end t (s, r ∷ [])), refl)

put_kept : (s : Spot) (r : Row) (t u : Table) (z : Spot) (q : Row) → IsPut t s r u → HasRow t z q → HasRow u z q
put_kept s r t u z q (inl next) h = longer_kept s r t u z q next h
put_kept s r t u z q (inr (_, is)) (k, rows, l, at, found) = (k, rows, l, subst (λ (w : Table). slice_get w k ≡ Some (z, rows)) (sym is) (at-push t (s, r ∷ []) k (z, rows) at), found)

puts_kept : (ps : List (Spot × Row)) (t u : Table) (z : Spot) (q : Row) → ArePut t ps u → HasRow t z q → HasRow u z q
puts_kept [] t u z q is h = subst (λ (w : Table). HasRow w z q) (sym is) h
puts_kept (p ∷ ps) t u z q (mid, one, rest) h = puts_kept ps mid u z q rest (put_kept p.0 p.1 t mid z q one h)

pub puts_has : (ps : List (Spot × Row)) (t u : Table) (k : ℕ) (s : Spot) (r : Row) → ArePut t ps u → slice_get ps k ≡ Some (s, r) → HasRow u s r
puts_has [] t u k s r is at = absurd (no_some (s, r) at)
puts_has (p ∷ ps) t u zero s r (mid, one, rest) at =
    let same : p ≡ (s, r) = some_same p (s, r) at in
    subst (λ (z : Spot × Row). HasRow u z.0 z.1) same (puts_kept ps mid u p.0 p.1 rest (put_has p.0 p.1 t mid one))
puts_has (p ∷ ps) t u (suc k) s r (mid, one, rest) at = puts_has ps mid u k s r rest at

-- ---- each spot is there once
abbrev Once : Table → Type 0
Once [] = Unit {0}
Once (g ∷ t) = IsFree t g.0 × Once t

longer_free : (s : Spot) (r : Row) (t u : Table) (z : Spot) → IsLonger s r t u → IsFree t z → IsFree u z
longer_free s r _ _ z (here rows t) h = h
longer_free s r _ _ z (there g t u next) h = (h.0, longer_free s r t u z next h.1)

longer_once : (s : Spot) (r : Row) (t u : Table) → IsLonger s r t u → Once t → Once u
longer_once s r _ _ (here rows t) h = h
longer_once s r _ _ (there g t u next) h = (longer_free s r t u g.0 next h.0, longer_once s r t u next h.1)

once_push : (t : Table) (g : Spot × List Row) → Once t → IsFree t g.0 → Once (t ++ g ∷ [])
once_push [] g h free = (tt, tt)
once_push (f ∷ t) g h free = (all_push (λ (e : Spot × List Row). e.0 ≡ f.0 → ⊥) t g h.0 (λ same. free.0 (sym same)), once_push t g h.1 free.1)

puts_once : (ps : List (Spot × Row)) (t u : Table) → ArePut t ps u → Once t → Once u
puts_once [] t u is h = subst Once (sym is) h
puts_once (p ∷ ps) t u (mid, one, rest) h = puts_once ps mid u rest (next one) where
  next : IsPut t p.0 p.1 mid → Once mid
  next (inl one) = longer_once p.0 p.1 t mid one h
  next (inr (free, is)) = subst Once (sym is) (once_push t (p.0, p.1 ∷ []) h free)

once_at : (t : Table) (k l : ℕ) (s : Spot) (a b : List Row) → Once t → slice_get t k ≡ Some (s, a) → slice_get t l ≡ Some (s, b) → a ≡ b
once_at [] k l s a b h at also = absurd (no_some (s, a) at)
once_at (g ∷ t) zero zero s a b h at also = ap (λ (e : Spot × List Row). e.1) (some_same (s, a) (s, b) (sym at ∙ also))
once_at (g ∷ t) zero (suc l) s a b h at also =
    absurd (all_at (λ (e : Spot × List Row). e.0 ≡ g.0 → ⊥) t l (s, b) h.0 also (ap (λ (e : Spot × List Row). e.0) (sym (some_same g (s, a) at))))
once_at (g ∷ t) (suc k) zero s a b h at also =
    absurd (all_at (λ (e : Spot × List Row). e.0 ≡ g.0 → ⊥) t k (s, a) h.0 at (ap (λ (e : Spot × List Row). e.0) (sym (some_same g (s, b) also))))
once_at (g ∷ t) (suc k) (suc l) s a b h at also = once_at t k l s a b h.1 at also

-- two that are put at one spot stand there together
pub both_there : (ps : List (Spot × Row)) (u : Table) (i j : ℕ) (s : Spot) (r q : Row) → ArePut [] ps u → slice_get ps i ≡ Some (s, r) → slice_get ps j ≡ Some (s, q)
    → (k : ℕ) × (rows : List Row) × (l m : ℕ) × (slice_get u k ≡ Some (s, rows)) × (slice_get rows l ≡ Some r) × (slice_get rows m ≡ Some q)
both_there ps u i j s r q are first second =
    let (k, rows, l, at, is) = puts_has ps [] u i s r are first in
    let (o, those, m, also, so) = puts_has ps [] u j s q are second in
    let same : those ≡ rows = once_at u o k s those rows (puts_once ps [] u are tt) also at in
    (k, rows, l, m, at, is, subst (λ (w : List Row). slice_get w m ≡ Some q) same so)

-- ---- the first of a list
pub taken : {A : Type 0} (xs : List A) (i : ℕ) → length xs ≤ i → take i xs ≡ xs
taken [] zero h = refl
taken [] (suc i) h = refl
taken (x ∷ xs) zero h = absurd (omega (arith, h))
taken (x ∷ xs) (suc i) h = ap (λ l. x ∷ l) (taken xs i (omega (arith, h)))

pub none_put : (ps : List (Spot × Row)) (t u : Table) → u ≡ t → ArePut t (take 0 ps) u
none_put [] t u is = is
none_put (p ∷ ps) t u is = is

puts_split : (ps qs : List (Spot × Row)) (t u : Table) → ArePut t (ps ++ qs) u → (mid : Table) × ArePut t ps mid × ArePut mid qs u
puts_split [] qs t u h = (t, refl, h)
puts_split (p ∷ ps) qs t u (mid, one, rest) = let (m, a, b) = puts_split ps qs mid u rest in (m, (mid, one, a), b)

-- what one instance more exports
pub put_row : (ns : List Node) (rs : List Row) (r : Row) (t u v : Table) → ArePut t (all_put ns rs) u → ArePut u (option_case (exports_of ns r.1) [] (exports_put r.0)) v → ArePut t (all_put ns (rs ++ r ∷ [])) v
put_row ns [] r t u v h k =
    puts_on (option_case (exports_of ns r.1) [] (exports_put r.0)) [] t v v (subst (λ (w : Table). ArePut w (option_case (exports_of ns r.1) [] (exports_put r.0)) v) h k) refl
put_row ns (q ∷ rs) r t u v h k =
    let (mid, a, b) = puts_split (option_case (exports_of ns q.1) [] (exports_put q.0)) (all_put ns rs) t u h in
    puts_on (option_case (exports_of ns q.1) [] (exports_put q.0)) (all_put ns (rs ++ r ∷ [])) t mid v a (put_row ns rs r mid u v b k)

-- what an entry's instance exports, and nothing where it is none
pub some_put : (e : ℕ) (o : Option (List (Name × Item))) (es : List (Name × Item)) (t u v : Table) → o ≡ Some es → v ≡ u → ArePut t (exports_put e es) u → ArePut t (option_case o [] (exports_put e)) v
some_put e o es t u v is now h =
    subst (λ (p : Option (List (Name × Item))). ArePut t (option_case p [] (exports_put e)) v) (sym is) (subst (λ (w : Table). ArePut t (exports_put e es) w) (sym now) h)

pub no_put : (e : ℕ) (o : Option (List (Name × Item))) (t v : Table) → o ≡ None → v ≡ t → ArePut t (option_case o [] (exports_put e)) v
no_put e o t v is now = subst (λ (p : Option (List (Name × Item))). ArePut t (option_case p [] (exports_put e)) v) (sym is) now

pub none_put_rows : (ns : List Node) (rs : List Row) (u : Table) → u ≡ [] → ArePut [] (all_put ns (take 0 rs)) u
none_put_rows ns [] u is = is
none_put_rows ns (r ∷ rs) u is = is
