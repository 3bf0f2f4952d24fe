-- What is kept of the names so far decides whether the next one clashes with one of them.
use Rattle.std.proofs.Common.{◌≡◌, ℕ, ◌+◌, ◌<◌, Bool, true, false, List, length, slice_index_or, Option, Some, None, IfSome, refl, sym, ap, ◌∙◌, subst, arith, ◌⊎◌, inl, inr, below_more}
use Rattle.std.proofs.lemmas.Bool.{both_ways}
use Rattle.std.proofs.lemmas.Map.{update_same, update_other}
use Rattle.std.proofs.lemmas.Slice.Eq.{bytes_eq-Decides}
use Rattle.std.specs.Map.{update}
use Rattle.std.specs.Str.{bytes_eq}
use Rattle.wac_names.specs.Clash.{Clash}
use Rattle.wac_names.specs.private.validation.Earlier.{AreOrdered, HasPosition, with_position}
use Rattle.wac_names.specs.validation.FirstFault.{IsFirstClash}
use Rattle.wac_names.specs.private.validation.Key.{HasKey}
use Rattle.wac_names.specs.validation.Valid.{Text, at, AreApartTo}
use Rattle.wac_names.specs.declared.validation.earlier.Alike.{Alike}
use Rattle.wac_names.specs.NameView.{text_of}
use Rattle.wac_names.specs.declared.name.ComponentName.{ComponentName}
use Rattle.wac_names.specs.private.validation.Views.{name_texts}
use Rattle.wac_names.proofs.lemmas.validation.ViewFacts.{at-names, length-names}
use Rattle.wac_names.proofs.lemmas.validation.KeyFacts.{AreDecided, clash-key, one_key, three_clash}

-- the first n names have keys, and under each key stand the positions of the names that have it; no two of them clash
pub record Remembers (names : List Text) (n : ℕ) (f : Text → Option Alike) : Type 0 where
  pub keyed : (k : ℕ) → k < n → (q : Text) × HasKey (at names k) q
  pub all : (k : ℕ) (q : Text) → k < n → HasKey (at names k) q → HasPosition (f q) k
  pub own : (k : ℕ) (q : Text) → HasPosition (f q) k → (k < n) × HasKey (at names k) q
  pub ordered : (q : Text) → AreOrdered (f q)
  pub apart : AreApartTo names n

nothing-at : (o : Option Alike) (k : ℕ) → o ≡ None → HasPosition o k → ⊥
nothing-at o k e h = subst (λ (z : Option Alike). HasPosition z k) e h

nothing-ordered : (o : Option Alike) → o ≡ None → AreOrdered o
nothing-ordered o e = subst AreOrdered (sym e) tt

pub remembers-nothing : (names : List Text) (f : Text → Option Alike) → ((q : Text) → f q ≡ None) → Remembers names 0 f
remembers-nothing names f none = record {
  keyed = λ k h. absurd (omega arith);
  all = λ k q h a. absurd (omega arith);
  own = λ k q h. absurd (nothing-at (f q) k (none q) h);
  ordered = λ q. nothing-ordered (f q) (none q);
  apart = λ i j a b. absurd (omega arith);
}

-- ---- one position more

some-same : (i j : ℕ) → Some i ≡ Some j → i ≡ j
some-same i j e = cc

none-some : (i : ℕ) → None ≡ Some i → ⊥
none-some i e = cc

gains : (o : Option Alike) (n k : ℕ) → HasPosition (Some (with_position o n)) k → HasPosition o k ⊎ (n ≡ k)
gains None n k (inl e) = inr e
gains None n k (inr e) = absurd (none-some k e)
gains (Some a) n k (inl e) = inl (inl e)
gains (Some a) n k (inr e) = inr (some-same n k e)

has_new : (o : Option Alike) (n : ℕ) → HasPosition (Some (with_position o n)) n
has_new None n = inl refl
has_new (Some a) n = inr refl

-- two positions stand there
abbrev IsFull : Option Alike → Type 0
IsFull o = (a : Alike) × (s : ℕ) × (o ≡ Some a) × (a.second ≡ Some s)

keeps : (o : Option Alike) (n k : ℕ) → ¬ IsFull o → HasPosition o k → HasPosition (Some (with_position o n)) k
keeps None n k room h = absurd h
keeps (Some a) n k room (inl e) = inl e
keeps (Some a) n k room (inr e) = absurd (room (a, k, refl, e))

orders : (o : Option Alike) (n : ℕ) → ((k : ℕ) → HasPosition o k → k < n) → AreOrdered (Some (with_position o n))
orders None n below = tt
orders (Some a) n below = below a.first (inl refl)

in_order : (o : Option Alike) (a : Alike) (s : ℕ) → o ≡ Some a → a.second ≡ Some s → AreOrdered o → a.first < s
in_order o a s e f h =
    let g : AreOrdered (Some a) = subst AreOrdered e h in
    subst (λ (z : Option ℕ). IfSome z (λ second. a.first < second)) f g

pub full_first : (o : Option Alike) (a : Alike) → o ≡ Some a → HasPosition o a.first
full_first o a e = subst (λ (z : Option Alike). HasPosition z a.first) (sym e) (inl refl)

pub full_second : (o : Option Alike) (a : Alike) (s : ℕ) → o ≡ Some a → a.second ≡ Some s → HasPosition o s
full_second o a s e f = subst (λ (z : Option Alike). HasPosition z s) (sym e) (inr f)

-- where the next name clashes with none of its key, there is room for it
room : (names : List Text) (n : ℕ) (f : Text → Option Alike) (q : Text) → Remembers names n f → HasKey (at names n) q
    → ((k : ℕ) → HasPosition (f q) k → ¬ Clash (at names k) (at names n)) → ¬ IsFull (f q)
room names n f q m key none w =
    let one = m.own w.0.first q (full_first (f q) w.0 w.2) in
    let other = m.own w.1 q (full_second (f q) w.0 w.1 w.2 w.3) in
    three_clash (at names w.0.first) (at names w.1) (at names n) q one.1 other.1 key
    (m.apart w.0.first w.1 (in_order (f q) w.0 w.1 w.2 w.3 (m.ordered q)) other.0)
    (none w.0.first (full_first (f q) w.0 w.2)) (none w.1 (full_second (f q) w.0 w.1 w.2 w.3))

-- a name before that clashes with the next one stands under its key
pub clash-remembered : AreDecided → (names : List Text) (n : ℕ) (f : Text → Option Alike) (q : Text) → Remembers names n f → HasKey (at names n) q
    → (i : ℕ) → i < n → Clash (at names i) (at names n) → HasPosition (f q) i
clash-remembered d names n f q m key i h c =
    let w = m.keyed i h in
    let same : w.0 ≡ q = clash-key d (at names i) (at names n) w.0 q w.1 key c in
    m.all i q h (subst (λ (z : Text). HasKey (at names i) z) same w.1)

-- ---- one name more

changed-by : (f g : Text → Option Alike) (q : Text) (w : Option Alike) (r : Text) (b : Bool) → bytes_eq q r ≡ b → g r ≡ update bytes_eq f q w r
    → ((q ≡ r) × (g r ≡ w)) ⊎ ((q ≡ r → ⊥) × (g r ≡ f r))
changed-by f g q w r true e h = inl ((bytes_eq-Decides q r).0 e, h ∙ update_same bytes_eq f q w r e)
changed-by f g q w r false e h = inr (λ s. both_ways (bytes_eq q r) e ((bytes_eq-Decides q r).1 s), h ∙ update_other bytes_eq f q w r e)

-- what stands under a key after a change at one
changed : (f g : Text → Option Alike) (q : Text) (w : Option Alike) → ((r : Text) → g r ≡ update bytes_eq f q w r) → (r : Text)
    → ((q ≡ r) × (g r ≡ w)) ⊎ ((q ≡ r → ⊥) × (g r ≡ f r))
changed f g q w h r = changed-by f g q w r (bytes_eq q r) refl (h r)

key_at : (names : List Text) (k : ℕ) (q r : Text) → q ≡ r → HasKey (at names k) q → HasKey (at names k) r
key_at names k q r e h = subst (λ (z : Text). HasKey (at names k) z) e h

own-kept : (names : List Text) (n : ℕ) (r : Text) (k : ℕ) → (k < n) × HasKey (at names k) r → (k < n + 1) × HasKey (at names k) r
own-kept names n r k h = let b : k < n = h.0 in (omega arith, h.1)

own-gained : (names : List Text) (n : ℕ) (o : Option Alike) (q r : Text) → ((k : ℕ) → HasPosition o k → (k < n) × HasKey (at names k) q) → HasKey (at names n) q
    → (k : ℕ) → q ≡ r → HasPosition o k ⊎ (n ≡ k) → (k < n + 1) × HasKey (at names k) r
own-gained names n o q r own key k e (inl p) = own-kept names n r k ((own k p).0, key_at names k q r e (own k p).1)
own-gained names n o q r own key k e (inr s) =
    (omega (arith, s), key_at names k q r e (subst (λ (i : ℕ). HasKey (at names i) q) s key))

all-before : (names : List Text) (n : ℕ) (f g : Text → Option Alike) (q : Text) → Remembers names n f → ¬ IsFull (f q)
    → ((r : Text) → g r ≡ update bytes_eq f q (Some (with_position (f q) n)) r)
    → (k : ℕ) → k < n → (r : Text) → HasKey (at names k) r → HasPosition (g r) k
all-before names n f g q m free h k b r key =
    elim (changed f g q (Some (with_position (f q) n)) h r) [
      | inl w ↦ subst (λ (z : Option Alike). HasPosition z k) (sym w.1) (keeps (f q) n k free (m.all k q b (key_at names k r q (sym w.0) key)))
      | inr w ↦ subst (λ (z : Option Alike). HasPosition z k) (sym w.1) (m.all k r b key)
    ]

all-here : AreDecided → (names : List Text) (n : ℕ) (f g : Text → Option Alike) (q : Text) → HasKey (at names n) q
    → ((r : Text) → g r ≡ update bytes_eq f q (Some (with_position (f q) n)) r)
    → (r : Text) → HasKey (at names n) r → HasPosition (g r) n
all-here d names n f g q key h r other =
    elim (changed f g q (Some (with_position (f q) n)) h r) [
      | inl w ↦ subst (λ (z : Option Alike). HasPosition z n) (sym w.1) (has_new (f q) n)
      | inr w ↦ absurd (w.0 (one_key d (at names n) q r key other))
    ]

own-more : (names : List Text) (n : ℕ) (f g : Text → Option Alike) (q : Text) → Remembers names n f → HasKey (at names n) q
    → ((r : Text) → g r ≡ update bytes_eq f q (Some (with_position (f q) n)) r)
    → (k : ℕ) (r : Text) → HasPosition (g r) k → (k < n + 1) × HasKey (at names k) r
own-more names n f g q m key h k r p =
    elim (changed f g q (Some (with_position (f q) n)) h r) [
      | inl w ↦ own-gained names n (f q) q r (λ i o. m.own i q o) key k w.0 (gains (f q) n k (subst (λ (z : Option Alike). HasPosition z k) w.1 p))
      | inr w ↦ own-kept names n r k (m.own k r (subst (λ (z : Option Alike). HasPosition z k) w.1 p))
    ]

ordered-more : (names : List Text) (n : ℕ) (f g : Text → Option Alike) (q : Text) → Remembers names n f
    → ((r : Text) → g r ≡ update bytes_eq f q (Some (with_position (f q) n)) r) → (r : Text) → AreOrdered (g r)
ordered-more names n f g q m h r =
    elim (changed f g q (Some (with_position (f q) n)) h r) [
      | inl w ↦ subst AreOrdered (sym w.1) (orders (f q) n (λ k p. (m.own k q p).0))
      | inr w ↦ subst AreOrdered (sym w.1) (m.ordered r)
    ]

apart-more : AreDecided → (names : List Text) (n : ℕ) (f : Text → Option Alike) (q : Text) → Remembers names n f → HasKey (at names n) q
    → ((k : ℕ) → HasPosition (f q) k → ¬ Clash (at names k) (at names n)) → (j : ℕ) → j < n + 1 → (i : ℕ) → i < j → ¬ Clash (at names i) (at names j)
apart-more d names n f q m key none =
    below_more (λ j. (i : ℕ) → i < j → ¬ Clash (at names i) (at names j)) n (λ j b i a. m.apart i j a b)
    (λ i a c. none i (clash-remembered d names n f q m key i a c) c)

pub remembers-more : AreDecided → (names : List Text) (n : ℕ) (f g : Text → Option Alike) (q : Text) → Remembers names n f → HasKey (at names n) q
    → ((k : ℕ) → HasPosition (f q) k → ¬ Clash (at names k) (at names n))
    → ((r : Text) → g r ≡ update bytes_eq f q (Some (with_position (f q) n)) r) → Remembers names (n + 1) g
remembers-more d names n f g q m key none h =
    let before = all-before names n f g q m (room names n f q m key none) h in
    let every = below_more (λ k. (r : Text) → HasKey (at names k) r → HasPosition (g r) k) n before (all-here d names n f g q key h) in
    let apart = apart-more d names n f q m key none in
    record {
      keyed = below_more (λ k. (r : Text) × HasKey (at names k) r) n m.keyed (q, key);
      all = λ k r b a. every k b r a;
      own = own-more names n f g q m key h;
      ordered = ordered-more names n f g q m h;
      apart = λ i j a b. apart j b i a;
    }

-- ---- the first clash

pub first_clash-found : AreDecided → (names : List Text) (n : ℕ) (f : Text → Option Alike) (q : Text) → Remembers names n f → n < length names → HasKey (at names n) q
    → (first : ℕ) → HasPosition (f q) first → Clash (at names first) (at names n)
    → ((i : ℕ) → HasPosition (f q) i → i < first → ¬ Clash (at names i) (at names n))
    → (first < n) × IsFirstClash names (at names first) (at names n)
first_clash-found d names n f q m b key first p c least =
    let below : first < n = (m.own first q p).0 in (
      below,
      record {
        one = first;
        other = n;
        ordered = below;
        within = b;
        first_named = refl;
        second_named = refl;
        clashes = c;
        earliest_second = m.apart;
        earliest_first = λ i h e. least i (clash-remembered d names n f q m key i (omega (arith, h, below)) e) h e;
      },
    )

-- ---- the positions under a key, the least first

pub first_least : (o : Option Alike) (a : Alike) (i : ℕ) → o ≡ Some a → AreOrdered o → HasPosition o i → i < a.first → ⊥
first_least o a i e ordered p h =
    elim (subst (λ (z : Option Alike). HasPosition z i) e p) [
      | inl s ↦ omega (arith, s, h)
      | inr s ↦ (let b : a.first < i = in_order o a i e s ordered in omega (arith, b, h))
    ]

pub second_least : (o : Option Alike) (a : Alike) (s i : ℕ) (P : ℕ → Type 0) → o ≡ Some a → a.second ≡ Some s → ¬ P a.first → HasPosition o i → i < s → ¬ P i
second_least o a s i P e f none p h =
    elim (subst (λ (z : Option Alike). HasPosition z i) e p) [
      | inl g ↦ subst (λ (j : ℕ). ¬ P j) g none
      | inr g ↦ (let same : s ≡ i = some-same s i (sym f ∙ g) in absurd (omega (arith, same, h)))
    ]

-- ---- the same of names as the code has them

next_key : (names : List ComponentName) (n : ℕ) (name : ComponentName) (key : Text) → n < length names → name ≡ slice_index_or names n name
    → HasKey (text_of name) key → HasKey (at (name_texts names) n) key
next_key names n name key b e h = subst (λ (t : Text). HasKey t key) (sym (at-names names n name b e)) h

same_positions : (f : Text → Option Alike) (o : Option Alike) (q key : Text) → q ≡ key → o ≡ f q → o ≡ f key
same_positions f o q key e h = h ∙ ap f e

pub found : AreDecided → (names : List ComponentName) (n : ℕ) (name : ComponentName) (f : Text → Option Alike) (o : Option Alike) (q key : Text) (first : ℕ)
    → Remembers (name_texts names) n f → n < length names → name ≡ slice_index_or names n name → HasKey (text_of name) key → q ≡ key → o ≡ f q
    → HasPosition o first × Clash (at (name_texts names) first) (text_of name)
    × ((i : ℕ) → HasPosition o i → i < first → ¬ Clash (at (name_texts names) i) (text_of name))
    → (first < n) × (n < length names) × IsFirstClash (name_texts names) (at (name_texts names) first) (at (name_texts names) n)
found d names n name f o q key first m b e k s t w =
    let here : at (name_texts names) n ≡ text_of name = at-names names n name b e in
    let same : o ≡ f key = same_positions f o q key s t in
    let within : n < length (name_texts names) = subst (λ (l : ℕ). n < l) (sym (length-names names)) b in
    let r = first_clash-found d (name_texts names) n f key m within (next_key names n name key b e k) first
    (subst (λ (z : Option Alike). HasPosition z first) same w.0)
    (subst (λ (t : Text). Clash (at (name_texts names) first) t) (sym here) w.1)
    (λ i p h c. w.2 i (subst (λ (z : Option Alike). HasPosition z i) (sym same) p) h (subst (λ (t : Text). Clash (at (name_texts names) i) t) here c)) in
    (r.0, b, r.1)

pub more : AreDecided → (names : List ComponentName) (n : ℕ) (name : ComponentName) (f g : Text → Option Alike) (o : Option Alike) (q key : Text) (w : Alike)
    → Remembers (name_texts names) n f → n < length names → name ≡ slice_index_or names n name → HasKey (text_of name) key → q ≡ key → o ≡ f q
    → ((i : ℕ) → HasPosition o i → ¬ Clash (at (name_texts names) i) (text_of name)) → w ≡ with_position o n
    → ((r : Text) → g r ≡ update bytes_eq f key (Some w) r) → Remembers (name_texts names) (n + 1) g
more d names n name f g o q key w m b e k s t none is h =
    let here : at (name_texts names) n ≡ text_of name = at-names names n name b e in
    let same : o ≡ f key = same_positions f o q key s t in
    let put : w ≡ with_position (f key) n = is ∙ ap (λ (z : Option Alike). with_position z n) same in
    remembers-more d (name_texts names) n f g key m (next_key names n name key b e k)
    (λ i p c. none i (subst (λ (z : Option Alike). HasPosition z i) (sym same) p) (subst (λ (t : Text). Clash (at (name_texts names) i) t) here c))
    (λ r. h r ∙ ap (λ (z : Alike). update bytes_eq f key (Some z) r) put)
