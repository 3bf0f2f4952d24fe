-- The steps by which numbers are put in order: what comes out where they are all done.
use Rattle.std.proofs.Common.{◌≡◌, ℕ, zero, suc, ◌+◌, ◌-◌, ◌*◌, ◌<◌, ◌≤◌, Bool, true, false, List, [], ◌∷◌, ◌++◌, length, replicate, take, slice_get, Some, Contains, refl, ap, sym, ◌∙◌, subst, ◌⊎◌, inl, inr, arith, append_assoc, length-append, suc-mul}
use Rattle.std.proofs.Math.ListN.{length-set, length-replicate}
use Rattle.std.specs.Prelude.{◌↔◌, slice_index, slice_index_or, slice_set}
use Rattle.std.specs.BTreeSet.{BTreeSet}
use Rattle.std.proofs.lemmas.Option.{get_or_from_slice_get, slice_get_read}
use Rattle.std.proofs.Math.Seq.{take-suc}
use Rattle.wac_edges.specs.declared.arranged.Step.{Step}
use Rattle.wac_edges.specs.declared.arranged.Step.TheVariants.{Open, Place}
use Rattle.wac_edges.specs.Arranged.{Arranges, done, there, new, Selects, AreAll}
use Rattle.wac_edges.specs.cycles.Cycles.{Path, step, further, IsStep, AreWithin, HasNoCycle}
use Rattle.wac_edges.specs.private.cycles.Numbers.{AreBelow, Has}
use Rattle.wac_edges.specs.private.cycles.CycleSearch.{is_reached}
use Rattle.wac_edges.specs.private.Arranging.{openings}
use Rattle.wac_edges.proofs.lemmas.cycles.CycleSearch.{unreached}
use Rattle.wac_edges.proofs.KeySets.{In, has_in}
use Rattle.wac_edges.proofs.ArrangedLaws.{in_front, in_behind, in_either, contains_in, in_contains, selects_alike, selects_in, selects_long}

-- ---- what comes out
module _ (rests : ℕ → ℕ → Type 0) (all : List ℕ) where
  -- from what is placed to what is placed once the steps are done, the last step first
  abbrev pub Finishes : List Step → List ℕ → List ℕ → Type 0
  Finishes [] placed order = placed ≡ order
  Finishes (Open n ∷ ts) placed order = (mid : List ℕ) × Finishes ts placed mid × Arranges rests all mid (n ∷ []) order
  Finishes (Place n ∷ ts) placed order = (mid : List ℕ) × Finishes ts placed mid × (mid ++ n ∷ [] ≡ order)

  finish_split : (xs ys : List Step) (placed order : List ℕ) → Finishes (xs ++ ys) placed order → (mid : List ℕ) × Finishes ys placed mid × Finishes xs mid order
  finish_split [] ys placed order f = (order, f, refl)
  finish_split (Open n ∷ xs) ys placed order (m, f, a) = let w = finish_split xs ys placed m f in (w.0, w.1, (m, w.2, a))
  finish_split (Place n ∷ xs) ys placed order (m, f, e) = let w = finish_split xs ys placed m f in (w.0, w.1, (m, w.2, e))

  finish_joined : (xs ys : List Step) (placed mid order : List ℕ) → Finishes ys placed mid → Finishes xs mid order → Finishes (xs ++ ys) placed order
  finish_joined [] ys placed mid order f e = subst (λ l. Finishes ys placed l) e f
  finish_joined (Open n ∷ xs) ys placed mid order f (m, g, a) = (m, finish_joined xs ys placed mid m f g, a)
  finish_joined (Place n ∷ xs) ys placed mid order f (m, g, e) = (m, finish_joined xs ys placed mid m f g, e)

  arranges_joined : (placed xs mid ys after : List ℕ) → Arranges rests all placed xs mid → Arranges rests all mid ys after → Arranges rests all placed (xs ++ ys) after
  arranges_joined placed xs mid ys after (done p) b = b
  arranges_joined placed xs mid ys after (there p a n l c r) b = there p after n (l ++ ys) c (arranges_joined p l a ys after r b)
  arranges_joined placed xs mid ys after (new p under before a n l c s u r) b = new p under before after n (l ++ ys) c s u (arranges_joined (before ++ n ∷ []) l a ys after r b)

  -- numbers that are to be opened are arranged
  pub opened_arranges : (ns placed order : List ℕ) → Finishes (openings ns) placed order → Arranges rests all placed ns order
  opened_arranges [] placed order e = subst (λ l. Arranges rests all placed [] l) e (done placed)
  opened_arranges (n ∷ ns) placed order f =
      let w = finish_split (openings ns) (Open n ∷ []) placed order f in
      arranges_joined placed (n ∷ []) w.0 ns order (subst (λ l. Arranges rests all l (n ∷ []) w.0) (sym w.1.1) w.1.2) (opened_arranges ns w.0 order w.2)

  finish_there : (left : List Step) (n : ℕ) (placed order : List ℕ) → Contains placed n → Finishes left placed order → Finishes (left ++ Open n ∷ []) placed order
  finish_there left n placed order c f = finish_joined left (Open n ∷ []) placed placed order (placed, refl, there placed placed n [] c (done placed)) f

  finish_new : (left : List Step) (n : ℕ) (under placed order : List ℕ) → (Contains placed n → ⊥) → Selects (rests n) all under
      → Finishes (left ++ Place n ∷ openings under) placed order → Finishes (left ++ Open n ∷ []) placed order
  finish_new left n under placed order c s f =
      let w = finish_split left (Place n ∷ openings under) placed order f in
      let before = w.1.0 in
      let one : Arranges rests all placed (n ∷ []) w.0 =
      subst (λ l. Arranges rests all placed (n ∷ []) l) w.1.2 (new placed under before (before ++ n ∷ []) n [] c s (opened_arranges under placed before w.1.1) (done (before ++ n ∷ []))) in
      finish_joined left (Open n ∷ []) placed w.0 order (placed, refl, one) w.2

  finish_placed : (left : List Step) (n : ℕ) (placed order : List ℕ) → Finishes left (placed ++ n ∷ []) order → Finishes (left ++ Place n ∷ []) placed order
  finish_placed left n placed order f = finish_joined left (Place n ∷ []) placed (placed ++ n ∷ []) order (placed, refl, refl) f

  -- ---- on account of which number a step is to be done: the nearest below it that is to be placed
  abbrev pub Hangs : (ℕ → Type 0) → List Step → Type 0
  Hangs P [] = Unit {0}
  Hangs P (Open n ∷ ts) = P n × Hangs P ts
  Hangs P (Place n ∷ ts) = P n × Hangs (rests n) ts

  -- the number is to be placed
  abbrev pub Waits : List Step → ℕ → Type 0
  Waits [] m = ⊥
  Waits (Open n ∷ ts) m = Waits ts m
  Waits (Place n ∷ ts) m = (m ≡ n) ⊎ Waits ts m

  hang_front : (P : ℕ → Type 0) (left ts : List Step) → Hangs P (left ++ ts) → Hangs P left
  hang_front P [] ts h = tt
  hang_front P (Open n ∷ left) ts h = (h.0, hang_front P left ts h.1)
  hang_front P (Place n ∷ left) ts h = (h.0, hang_front (rests n) left ts h.1)

  hang_opened : (P : ℕ → Type 0) (ns : List ℕ) (ts : List Step) → ((q : ℕ) → In ns q → P q) → Hangs P ts → Hangs P (openings ns ++ ts)
  hang_opened P [] ts f h = h
  hang_opened P (n ∷ ns) ts f h = subst (λ l. Hangs P l) (sym (append_assoc (openings ns) (Open n ∷ []) ts)) (hang_opened P ns (Open n ∷ ts) (λ q w. f q (inr w)) (f n (inl refl), h))

  pub hang_openings : (P : ℕ → Type 0) (ns : List ℕ) → ((q : ℕ) → In ns q → P q) → Hangs P (openings ns)
  hang_openings P [] f = tt
  hang_openings P (n ∷ ns) f = hang_opened P ns (Open n ∷ []) (λ q w. f q (inr w)) (f n (inl refl), tt)

  hang_new : (P : ℕ → Type 0) (left : List Step) (n : ℕ) (under : List ℕ) → ((q : ℕ) → In under q → rests n q) → Hangs P (left ++ Open n ∷ []) → Hangs P (left ++ Place n ∷ openings under)
  hang_new P [] n under f h = (h.0, hang_openings (rests n) under f)
  hang_new P (Open x ∷ left) n under f h = (h.0, hang_new P left n under f h.1)
  hang_new P (Place x ∷ left) n under f h = (h.0, hang_new (rests x) left n under f h.1)

  hang_reach : (x : ℕ) (left : List Step) (n : ℕ) → Hangs (rests x) (left ++ Open n ∷ []) → Path rests x n
  hang_reach x [] n h = step x n h.0
  hang_reach x (Open y ∷ left) n h = hang_reach x left n h.1
  hang_reach x (Place y ∷ left) n h = further x y n h.0 (hang_reach y left n h.1)

  -- what is to be placed below a step depends on its number through others
  hang_through : (P : ℕ → Type 0) (left : List Step) (n m : ℕ) → Hangs P (left ++ Open n ∷ []) → Waits left m → Path rests m n
  hang_through P [] n m h w = absurd w
  hang_through P (Open x ∷ left) n m h w = hang_through P left n m h.1 w
  hang_through P (Place x ∷ left) n m h (inl e) = subst (λ k. Path rests k n) (sym e) (hang_reach x left n h.1)
  hang_through P (Place x ∷ left) n m h (inr w) = hang_through (rests x) left n m h.1 w

  waits_either : (xs ys : List Step) (m : ℕ) → Waits (xs ++ ys) m → Waits xs m ⊎ Waits ys m
  waits_either [] ys m w = inr w
  waits_either (Open x ∷ xs) ys m w = waits_either xs ys m w
  waits_either (Place x ∷ xs) ys m (inl e) = inl (inl e)
  waits_either (Place x ∷ xs) ys m (inr w) = on (waits_either xs ys m w) where
    on : Waits xs m ⊎ Waits ys m → ((m ≡ x) ⊎ Waits xs m) ⊎ Waits ys m
    on (inl v) = inl (inr v)
    on (inr v) = inr v

  waits_front : (xs ys : List Step) (m : ℕ) → Waits xs m → Waits (xs ++ ys) m
  waits_front [] ys m w = absurd w
  waits_front (Open x ∷ xs) ys m w = waits_front xs ys m w
  waits_front (Place x ∷ xs) ys m (inl e) = inl e
  waits_front (Place x ∷ xs) ys m (inr w) = inr (waits_front xs ys m w)

  waits_behind : (xs ys : List Step) (m : ℕ) → Waits ys m → Waits (xs ++ ys) m
  waits_behind [] ys m w = w
  waits_behind (Open x ∷ xs) ys m w = waits_behind xs ys m w
  waits_behind (Place x ∷ xs) ys m w = inr (waits_behind xs ys m w)

  waits_opened : (ns : List ℕ) (m : ℕ) → Waits (openings ns) m → ⊥
  waits_opened [] m w = w
  waits_opened (n ∷ ns) m w = on (waits_either (openings ns) (Open n ∷ []) m w) (λ v. waits_opened ns m v) where
    on : Waits (openings ns) m ⊎ Waits (Open n ∷ []) m → (Waits (openings ns) m → ⊥) → ⊥
    on (inl v) none = none v
    on (inr v) none = v

-- ---- numbers of steps
abbrev pub step_number : Step → ℕ
step_number (Open n) = n
step_number (Place n) = n

-- the steps are of such numbers
abbrev pub AreLow : ℕ → List Step → Type 0
AreLow k [] = Unit {0}
AreLow k (t ∷ ts) = (step_number t < k) × AreLow k ts

low_joined : (k : ℕ) (xs ys : List Step) → AreLow k xs → AreLow k ys → AreLow k (xs ++ ys)
low_joined k [] ys a b = b
low_joined k (x ∷ xs) ys a b = (a.0, low_joined k xs ys a.1 b)

low_front : (k : ℕ) (xs ys : List Step) → AreLow k (xs ++ ys) → AreLow k xs
low_front k [] ys a = tt
low_front k (x ∷ xs) ys a = (a.0, low_front k xs ys a.1)

pub low_last : (k : ℕ) (xs : List Step) (t : Step) → AreLow k (xs ++ t ∷ []) → step_number t < k
low_last k [] t a = a.0
low_last k (x ∷ xs) t a = low_last k xs t a.1

low_opened : (k : ℕ) (ns : List ℕ) → ((q : ℕ) → In ns q → q < k) → AreLow k (openings ns)
low_opened k [] f = tt
low_opened k (n ∷ ns) f = low_joined k (openings ns) (Open n ∷ []) (low_opened k ns (λ q w. f q (inr w))) (f n (inl refl), tt)

openings_long : (ns : List ℕ) → length (openings ns) ≡ length ns
openings_long [] = refl
openings_long (n ∷ ns) = let a = length-append (openings ns) (Open n ∷ []) in let b = openings_long ns in omega (arith, a, b)

-- the last number is opened before the others
openings_push : (ns : List ℕ) (n : ℕ) → openings (ns ++ n ∷ []) ≡ Open n ∷ openings ns
openings_push [] n = refl
openings_push (m ∷ ns) n = ap (λ l. l ++ Open m ∷ []) (openings_push ns n)

pub open_next : (ns : List ℕ) (i : ℕ) (steps more all : List Step) → 0 < i → i ≤ length ns → more ≡ steps ++ Open (slice_index ns (i - 1)) ∷ [] → steps ++ openings (take i ns) ≡ all → more ++ openings (take (i - 1) ns) ≡ all
open_next ns i steps more all some within is old =
    let n = slice_index ns (i - 1) in
    let rest = openings (take (i - 1) ns) in
    let next : i ≡ suc (i - 1) = omega (arith, some) in
    let parts : take i ns ≡ take (i - 1) ns ++ n ∷ [] = ap (λ k. take k ns) next ∙ take-suc ns (i - 1) 0 (omega (arith, some, within)) in
    ap (λ l. l ++ rest) is ∙ (append_assoc steps (Open n ∷ []) rest ∙ (ap (λ l. steps ++ l) (sym (openings_push (take (i - 1) ns) n) ∙ ap openings (sym parts)) ∙ old))

-- ---- flags
flag_same : (r : List Bool) (b : ℕ) → b < length r → is_reached (slice_set r b true) b ≡ true
flag_same [] b low = absurd (omega arith)
flag_same (x ∷ r) zero low = refl
flag_same (x ∷ r) (suc b) low = flag_same r b (omega arith)

flag_kept : (r : List Bool) (b m : ℕ) → is_reached r m ≡ true → is_reached (slice_set r b true) m ≡ true
flag_kept [] b m h = h
flag_kept (x ∷ r) zero zero h = refl
flag_kept (x ∷ r) zero (suc m) h = h
flag_kept (x ∷ r) (suc b) zero h = h
flag_kept (x ∷ r) (suc b) (suc m) h = flag_kept r b m h

flag_only : (r : List Bool) (b m : ℕ) → is_reached (slice_set r b true) m ≡ true → (is_reached r m ≡ true) ⊎ (m ≡ b)
flag_only [] b m h = inl h
flag_only (x ∷ r) zero zero h = inr refl
flag_only (x ∷ r) zero (suc m) h = inl h
flag_only (x ∷ r) (suc b) zero h = inl h
flag_only (x ∷ r) (suc b) (suc m) h = more (flag_only r b m h) where
  more : (is_reached r m ≡ true) ⊎ (m ≡ b) → (is_reached r m ≡ true) ⊎ (suc m ≡ suc b)
  more (inl was) = inl was
  more (inr is) = inr (ap suc is)

flag_fewer : (r : List Bool) (b : ℕ) → b < length r → is_reached r b ≡ false → suc (unreached (slice_set r b true)) ≡ unreached r
flag_fewer [] b low e = absurd (omega arith)
flag_fewer (true ∷ r) zero low e = cc
flag_fewer (false ∷ r) zero low e = refl
flag_fewer (true ∷ r) (suc b) low e = flag_fewer r b (omega arith) e
flag_fewer (false ∷ r) (suc b) low e = ap suc (flag_fewer r b (omega arith) e)

flag_none : (k m : ℕ) → is_reached (replicate k false) m ≡ true → ⊥
flag_none zero m h = cc
flag_none (suc k) zero h = cc
flag_none (suc k) (suc m) h = flag_none k m h

-- ---- the numbers while they are put in order
module _ (rests : List (BTreeSet ℕ)) (all : List ℕ) where
  -- What comes out where the steps are done is in order, what was opened is placed or waits, and steps are below what rests on them.
  pub record IsArranging (opened : List Bool) (steps : List Step) (order : List ℕ) : Type 0 where
    pub long : length opened ≡ length rests
    pub low : AreLow (length rests) steps
    pub hangs : Hangs (IsStep rests) all (λ n. Unit {0}) steps
    pub placed : (m : ℕ) → In order m → is_reached opened m ≡ true
    pub waits : (m : ℕ) → Waits (IsStep rests) all steps m → is_reached opened m ≡ true
    pub known : (m : ℕ) → is_reached opened m ≡ true → In order m ⊎ Waits (IsStep rests) all steps m
    pub ends : (after : List ℕ) → Finishes (IsStep rests) all steps order after → Arranges (IsStep rests) all [] all after

  abbrev Rest : ℕ → ℕ → Type 0
  Rest = IsStep rests

  -- at first all are to be opened
  pub first_step : (opened : List Bool) → AreAll (length rests) all → opened ≡ replicate (length rests) false → IsArranging opened (openings all) []
  first_step opened each is = record {
    long = ap length is ∙ length-replicate (length rests) false;
    low = low_opened (length rests) all (λ q w. (each q).0 (in_contains all q w));
    hangs = hang_openings Rest all (λ n. Unit {0}) all (λ q w. tt);
    placed = λ m w. absurd w;
    waits = λ m w. absurd (waits_opened Rest all all m w);
    known = λ m h. absurd (flag_none (length rests) m (subst (λ r. is_reached r m ≡ true) is h));
    ends = λ after f. opened_arranges Rest all all [] after f;
  }

  module _ (opened : List Bool) (left : List Step) (order : List ℕ) (n : ℕ) where
    -- its turn had come: it is placed, since none rests on itself through others
    next_there : HasNoCycle rests → IsArranging opened (left ++ Open n ∷ []) order → is_reached opened n ≡ true → IsArranging opened left order
    next_there ordered old is = record {
      long = old.long;
      low = low_front (length rests) left (Open n ∷ []) old.low;
      hangs = hang_front Rest all (λ m. Unit {0}) left (Open n ∷ []) old.hangs;
      placed = old.placed;
      waits = λ m w. old.waits m (waits_front Rest all left (Open n ∷ []) m w);
      known = λ m h. still m (old.known m h);
      ends = λ after f. old.ends after (finish_there Rest all left n order after (in_contains order n (here (old.known n is))) f);
    } where
      parted : (m : ℕ) → Waits Rest all (left ++ Open n ∷ []) m → Waits Rest all left m
      parted m w = on (waits_either Rest all left (Open n ∷ []) m w) where
        on : Waits Rest all left m ⊎ ⊥ → Waits Rest all left m
        on (inl v) = v
        on (inr v) = absurd v

      still : (m : ℕ) → In order m ⊎ Waits Rest all (left ++ Open n ∷ []) m → In order m ⊎ Waits Rest all left m
      still m (inl h) = inl h
      still m (inr w) = inr (parted m w)

      here : In order n ⊎ Waits Rest all (left ++ Open n ∷ []) n → In order n
      here (inl h) = h
      here (inr w) = absurd (ordered n (hang_through Rest all (λ m. Unit {0}) left n n old.hangs (parted n w)))

    -- it is opened
    next_new : AreWithin rests → (under : List ℕ) → Selects (Rest n) all under → IsArranging opened (left ++ Open n ∷ []) order → n < length opened → is_reached opened n ≡ false
        → IsArranging (slice_set opened n true) (left ++ Place n ∷ openings under) order
    next_new within under s old low none = record {
      long = length-set opened n true ∙ old.long;
      low = low_joined (length rests) left (Place n ∷ openings under) (low_front (length rests) left (Open n ∷ []) old.low)
          (omega (arith, low, old.long), low_opened (length rests) under (λ q w. within n q (selects_in (Rest n) all under s q w).1));
      hangs = hang_new Rest all (λ m. Unit {0}) left n under (λ q w. (selects_in (Rest n) all under s q w).1) old.hangs;
      placed = λ m h. flag_kept opened n m (old.placed m h);
      waits = λ m w. waiting m (waits_either Rest all left (Place n ∷ openings under) m w);
      known = λ m h. still m (flag_only opened n m h);
      ends = λ after f. old.ends after (finish_new Rest all left n under order after (λ c. apart (contains_in order n c)) s f);
    } where
      apart : In order n → ⊥
      apart h = let wrong : false ≡ true = sym none ∙ old.placed n h in cc

      waiting : (m : ℕ) → Waits Rest all left m ⊎ ((m ≡ n) ⊎ Waits Rest all (openings under) m) → is_reached (slice_set opened n true) m ≡ true
      waiting m (inl w) = flag_kept opened n m (old.waits m (waits_front Rest all left (Open n ∷ []) m w))
      waiting m (inr (inl e)) = subst (λ k. is_reached (slice_set opened n true) k ≡ true) (sym e) (flag_same opened n low)
      waiting m (inr (inr w)) = absurd (waits_opened Rest all under m w)

      moved : (m : ℕ) → Waits Rest all left m ⊎ ⊥ → Waits Rest all (left ++ Place n ∷ openings under) m
      moved m (inl v) = waits_front Rest all left (Place n ∷ openings under) m v
      moved m (inr v) = absurd v

      was : (m : ℕ) → In order m ⊎ Waits Rest all (left ++ Open n ∷ []) m → In order m ⊎ Waits Rest all (left ++ Place n ∷ openings under) m
      was m (inl h) = inl h
      was m (inr w) = inr (moved m (waits_either Rest all left (Open n ∷ []) m w))

      still : (m : ℕ) → (is_reached opened m ≡ true) ⊎ (m ≡ n) → In order m ⊎ Waits Rest all (left ++ Place n ∷ openings under) m
      still m (inl h) = was m (old.known m h)
      still m (inr e) = inr (waits_behind Rest all left (Place n ∷ openings under) m (inl e))

    -- it is placed
    next_placed : IsArranging opened (left ++ Place n ∷ []) order → IsArranging opened left (order ++ n ∷ [])
    next_placed old = record {
      long = old.long;
      low = low_front (length rests) left (Place n ∷ []) old.low;
      hangs = hang_front Rest all (λ m. Unit {0}) left (Place n ∷ []) old.hangs;
      placed = λ m h. was m (in_either order (n ∷ []) m h);
      waits = λ m w. old.waits m (waits_front Rest all left (Place n ∷ []) m w);
      known = λ m h. still m (old.known m h);
      ends = λ after f. old.ends after (finish_placed Rest all left n order after f);
    } where
      was : (m : ℕ) → In order m ⊎ ((m ≡ n) ⊎ ⊥) → is_reached opened m ≡ true
      was m (inl h) = old.placed m h
      was m (inr (inl e)) = old.waits m (waits_behind Rest all left (Place n ∷ []) m (inl e))
      was m (inr (inr b)) = absurd b

      moved : (m : ℕ) → Waits Rest all left m ⊎ ((m ≡ n) ⊎ ⊥) → In (order ++ n ∷ []) m ⊎ Waits Rest all left m
      moved m (inl v) = inr v
      moved m (inr (inl e)) = inl (in_behind order (n ∷ []) m (inl e))
      moved m (inr (inr b)) = absurd b

      still : (m : ℕ) → In order m ⊎ Waits Rest all (left ++ Place n ∷ []) m → In (order ++ n ∷ []) m ⊎ Waits Rest all left m
      still m (inl h) = inl (in_front order (n ∷ []) m h)
      still m (inr w) = moved m (waits_either Rest all left (Place n ∷ []) m w)

  -- ---- what is left to do
  abbrev pub left_to_do : List Bool → List Step → ℕ
  left_to_do opened steps = unreached opened * suc (length all) + length steps

  less_new : (opened : List Bool) (left : List Step) (n : ℕ) (under : List ℕ) → Selects (Rest n) all under → n < length opened → is_reached opened n ≡ false
      → left_to_do (slice_set opened n true) (left ++ Place n ∷ openings under) < left_to_do opened (left ++ Open n ∷ [])
  less_new opened left n under s low none =
      let fewer : suc (unreached (slice_set opened n true)) ≡ unreached opened = flag_fewer opened n low none in
      let product : unreached opened * suc (length all) ≡ unreached (slice_set opened n true) * suc (length all) + suc (length all) =
      ap (λ k. k * suc (length all)) (sym fewer) ∙ suc-mul (unreached (slice_set opened n true)) (suc (length all)) in
      let short : length under ≤ length all = selects_long (Rest n) all under s in
      let a = length-append left (Place n ∷ openings under) in
      let b = length-append left (Open n ∷ []) in
      let d = openings_long under in
      omega (arith, product, short, a, b, d)

  -- ---- the step that is taken
  module _ (opened : List Bool) (steps left : List Step) (order : List ℕ) (n : ℕ) where
    pub there_next : HasNoCycle rests → steps ≡ left ++ Open n ∷ [] → IsArranging opened steps order → is_reached opened n ≡ true → IsArranging opened left order
    there_next ordered popped old is = next_there opened left order n ordered (subst (λ (ts : List Step). IsArranging opened ts order) popped old) is

    pub placed_next : (more : List ℕ) → steps ≡ left ++ Place n ∷ [] → more ≡ order ++ n ∷ [] → IsArranging opened steps order → IsArranging opened left more
    placed_next more popped is old = subst (λ (o : List ℕ). IsArranging opened left o) (sym is) (next_placed opened left order n (subst (λ (ts : List Step). IsArranging opened ts order) popped old))

    module _ (set : BTreeSet ℕ) (under : List ℕ) (new_steps : List Step) (popped : steps ≡ left ++ Open n ∷ []) (made : new_steps ≡ left ++ Place n ∷ openings under) (at : slice_get rests n ≡ Some set) (s : Selects (λ b. Has set.keys b) all under)
        (old : IsArranging opened steps order) (closed : is_reached opened n ≡ false) where
      leads_set : (b : ℕ) → Has set.keys b ↔ Rest n b
      leads_set b = (λ h. (set, at, h), λ l. back l) where
        back : Rest n b → Has set.keys b
        back (other, there_, h) =
            let known : Some other ≡ Some set = sym there_ ∙ at in
            let same : other ≡ set = cc in
            subst (λ (x : BTreeSet ℕ). Has x.keys b) same h

      selected : Selects (Rest n) all under
      selected = selects_alike (λ b. Has set.keys b) (Rest n) leads_set all under s

      low : n < length opened
      low = let less = low_last (length rests) left (Open n) (subst (λ (ts : List Step). AreLow (length rests) ts) popped old.low) in let long = old.long in omega (arith, less, long)

      pub open_arranges : AreWithin rests → IsArranging (slice_set opened n true) new_steps order
      open_arranges within =
          subst (λ (ts : List Step). IsArranging (slice_set opened n true) ts order) (sym made)
          (next_new opened left order n within under selected (subst (λ (ts : List Step). IsArranging opened ts order) popped old) low closed)

      pub open_less : left_to_do (slice_set opened n true) new_steps < left_to_do opened steps
      open_less =
          subst (λ (ts : List Step). left_to_do (slice_set opened n true) ts < left_to_do opened steps) (sym made)
          (subst (λ (ts : List Step). left_to_do (slice_set opened n true) (left ++ Place n ∷ openings under) < left_to_do opened ts) (sym popped) (less_new opened left n under selected low closed))

-- a number that is to be opened
pub low_taken : (k : ℕ) (left steps : List Step) (t : Step) (n : ℕ) → steps ≡ left ++ t ∷ [] → t ≡ Open n → AreLow k steps → n < k
low_taken k left steps t n popped is low = subst (λ (x : Step). step_number x < k) is (low_last k left t (subst (λ (ts : List Step). AreLow k ts) popped low))

-- the flag that is read
pub flag_read : (r : List Bool) (n : ℕ) (b : Bool) → n < length r → b ≡ slice_index_or r n b → is_reached r n ≡ b
flag_read r n b low is = get_or_from_slice_get r n b false (slice_get_read r (length r) n b refl low is)

-- all are below where they are those below
pub all_below : (k : ℕ) (ns : List ℕ) → AreAll k ns → AreBelow k ns
all_below k ns each q h = (each q).0 (in_contains ns q (has_in ns q h))
