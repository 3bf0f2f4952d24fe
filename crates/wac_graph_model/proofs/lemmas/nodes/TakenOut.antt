-- What is left of exports of which some are taken out.
use Rattle.std.proofs.Common.{◌≡◌, ◌≢◌, ℕ, zero, suc, ◌-◌, ◌<◌, ◌≤◌, ◌==◌, Bool, true, false, cond, List, [], ◌∷◌, length, take, slice_get, slice_set, refl, ap, ◌∙◌, sym, arith, Option, Some, None, get_or}
use Rattle.std.specs.Prelude.{swap_remove}
use Rattle.std.proofs.lemmas.Bool.Decides.{nat_tests}
use Rattle.std.proofs.lemmas.Option.{slice_get_within, slice_get-get_or}
use Rattle.wac_types_shapes.specs.primitives.Name.{Name, find_name}
use Rattle.wac_types_shapes.proofs.lemmas.shapes.Names.{found_at, find_position}
use Rattle.wac_edges.specs.declared.node.NodeId.{NodeId}
use Rattle.wac_graph_model.specs.nodes.TakenOut.{taken_at, taken_below, without}
use Rattle.wac_graph_model.proofs.lemmas.nodes.Added.{by_eq, StandsOnce}

-- k and l change places
abbrev pub turn : ℕ → ℕ → ℕ → ℕ
turn k l i = cond (i == k) l (cond (i == l) k i)

turn_first : (k l : ℕ) → turn k l k ≡ l
turn_first k l = let e : (k == k) ≡ true = grind (arith, nat_tests) in ap (λ b. cond b l (cond (k == l) k k)) e

turn_last : (k l : ℕ) → turn k l l ≡ k
turn_last k l = by_eq l k
    (λ same. ap (turn k l) same ∙ turn_first k l ∙ same)
    (λ differ. let e : (l == k) ≡ false = grind (arith, nat_tests) in let f : (l == l) ≡ true = grind (arith, nat_tests) in ap (λ b. cond b l (cond (l == l) k l)) e ∙ ap (λ b. cond b k l) f)

turn_other : (k l i : ℕ) → i ≢ k → i ≢ l → turn k l i ≡ i
turn_other k l i p q = let e : (i == k) ≡ false = grind (arith, nat_tests) in let f : (i == l) ≡ false = grind (arith, nat_tests) in ap (λ b. cond b l (cond (i == l) k i)) e ∙ ap (λ b. cond b k i) f

turn_back : (k l i : ℕ) → turn k l (turn k l i) ≡ i
turn_back k l i = by_eq i k
    (λ same. ap (turn k l) (ap (turn k l) same ∙ turn_first k l) ∙ turn_last k l ∙ sym same)
    (λ first. by_eq i l
    (λ same. ap (turn k l) (ap (turn k l) same ∙ turn_last k l) ∙ turn_first k l ∙ sym same)
    (λ last. ap (turn k l) (turn_other k l i first last) ∙ turn_other k l i first last))

turn_apart : (k l i j : ℕ) → turn k l i ≡ turn k l j → i ≡ j
turn_apart k l i j same = sym (turn_back k l i) ∙ ap (turn k l) same ∙ turn_back k l j

module _ {X : Type 0} where
  get-set_same : (xs : List X) (k : ℕ) (x y : X) → slice_get xs k ≡ Some x → slice_get (slice_set xs k y) k ≡ Some y
  get-set_same [] k x y h = cc
  get-set_same (z ∷ xs) zero x y h = refl
  get-set_same (z ∷ xs) (suc k) x y h = get-set_same xs k x y h

  get-set_other : (xs : List X) (k i : ℕ) (y : X) → i ≢ k → slice_get (slice_set xs k y) i ≡ slice_get xs i
  get-set_other [] k i y differ = refl
  get-set_other (z ∷ xs) zero zero y differ = absurd (differ refl)
  get-set_other (z ∷ xs) zero (suc i) y differ = refl
  get-set_other (z ∷ xs) (suc k) zero y differ = refl
  get-set_other (z ∷ xs) (suc k) (suc i) y differ = get-set_other xs k i y (λ same. differ (ap suc same))

  get-take : (n : ℕ) (xs : List X) (i : ℕ) → i < n → slice_get (take n xs) i ≡ slice_get xs i
  get-take zero xs i h = absurd (omega arith)
  get-take (suc n) [] i h = refl
  get-take (suc n) (x ∷ xs) zero h = refl
  get-take (suc n) (x ∷ xs) (suc i) h = get-take n xs i (omega arith)

  take_within : (n : ℕ) (xs : List X) (i : ℕ) (x : X) → slice_get (take n xs) i ≡ Some x → i < n
  take_within zero xs i x h = cc
  take_within (suc n) [] i x h = cc
  take_within (suc n) (y ∷ xs) zero x h = omega arith
  take_within (suc n) (y ∷ xs) (suc i) x h = let small = take_within n xs i x h in omega (arith, small)

  some_same : {o : Option X} {x y : X} → o ≡ Some x → o ≡ Some y → x ≡ y
  some_same p q = cc

  -- what the list without an entry has
  module _ (xs : List X) (k : ℕ) (x : X) (at : slice_get xs k ≡ Some x) where
    abbrev pub last_place : ℕ
    last_place = length xs - 1

    abbrev pub last : X
    last = get_or xs last_place x

    inside : last_place < length xs
    inside = let small = slice_get_within xs k x at in omega (arith, small)

    last_at : slice_get xs last_place ≡ Some last
    last_at = slice_get-get_or xs last_place x inside

    now_at : (i : ℕ) → i < last_place → slice_get (swap_remove xs k x) i ≡ slice_get (slice_set xs k last) i
    now_at i small = get-take last_place (slice_set xs k last) i small

    pub was_at : (i : ℕ) (y : X) → slice_get (swap_remove xs k x) i ≡ Some y → slice_get xs (turn k last_place i) ≡ Some y
    was_at i y h =
        let small : i < last_place = take_within last_place (slice_set xs k last) i y h in
        let set_at : slice_get (slice_set xs k last) i ≡ Some y = sym (now_at i small) ∙ h in
        by_eq i k
        (λ same.
        let is : last ≡ y = some_same (get-set_same xs k x last at) (ap (slice_get (slice_set xs k last)) (sym same) ∙ set_at) in
        ap (slice_get xs) (ap (turn k last_place) same ∙ turn_first k last_place) ∙ last_at ∙ ap Some is)
        (λ differ. ap (slice_get xs) (turn_other k last_place i differ (λ e. absurd (omega (arith, small, e)))) ∙ sym (get-set_other xs k i last differ) ∙ set_at)

    pub still_at : (j : ℕ) (y : X) → slice_get xs j ≡ Some y → j ≢ k → (i : ℕ) × (slice_get (swap_remove xs k x) i ≡ Some y)
    still_at j y h other =
        let within = slice_get_within xs j y h in
        let first = slice_get_within xs k x at in
        by_eq j last_place
        (λ same.
        let small : k < last_place = omega (arith, within, first, same, other) in
        let is : last ≡ y = some_same last_at (ap (slice_get xs) (sym same) ∙ h) in
        (k, now_at k small ∙ get-set_same xs k x last at ∙ ap Some is))
        (λ differ. let small : j < last_place = omega (arith, within, differ) in (j, now_at j small ∙ get-set_other xs k j last other ∙ h))

-- of the list that is left: where each of its entries stood, and what is there still
pub record Left (gone : NodeId → Bool) (old new : List (Name × NodeId)) : Type 0 where
  pub place : ℕ → ℕ
  pub apart : (i j : ℕ) → place i ≡ place j → i ≡ j
  pub was : (i : ℕ) (e : Name × NodeId) → slice_get new i ≡ Some e → slice_get old (place i) ≡ Some e
  pub still : (j : ℕ) (e : Name × NodeId) → slice_get old j ≡ Some e → gone e.1 ≡ false → (i : ℕ) × (slice_get new i ≡ Some e)

pub left_itself : (gone : NodeId → Bool) (es : List (Name × NodeId)) → Left gone es es
left_itself gone es = record { place = λ i. i; apart = λ i j h. h; was = λ i e h. h; still = λ j e h _. (j, h) }

left_through : (gone : NodeId → Bool) (a b c : List (Name × NodeId)) → Left gone a b → Left gone b c → Left gone a c
left_through gone a b c ab bc = record {
  place = λ i. ab.place (bc.place i);
  apart = λ i j h. bc.apart i j (ab.apart (bc.place i) (bc.place j) h);
  was = λ i e h. ab.was (bc.place i) e (bc.was i e h);
  still = λ j e h stays. let (i, at) = ab.still j e h stays in bc.still i e at stays;
}

one_taken : (gone : NodeId → Bool) (k : ℕ) (es : List (Name × NodeId)) → Left gone es (taken_at gone k (slice_get es k) es)
one_taken gone k es = by_entry (slice_get es k) refl where
  by_gone : (e : Name × NodeId) → slice_get es k ≡ Some e → (b : Bool) → gone e.1 ≡ b → Left gone es (cond b (swap_remove es k e) es)
  by_gone e at false is = left_itself gone es
  by_gone e at true is = record {
    place = turn k (length es - 1);
    apart = turn_apart k (length es - 1);
    was = was_at es k e at;
    still = λ j x h stays. still_at es k e at j x h (λ same. different (some_same at (ap (slice_get es) (sym same) ∙ h)) is stays);
  } where
    different : {x y : Name × NodeId} → x ≡ y → gone x.1 ≡ true → gone y.1 ≡ false → ⊥
    different {x} {y} same p q = wrong (sym p ∙ ap (λ (z : Name × NodeId). gone z.1) same ∙ q) where
      wrong : true ≡ false → ⊥
      wrong h = cc

  by_entry : (o : Option (Name × NodeId)) → slice_get es k ≡ o → Left gone es (taken_at gone k o es)
  by_entry None at = left_itself gone es
  by_entry (Some e) at = by_gone e at (gone e.1) refl

pub left_below : (gone : NodeId → Bool) (k : ℕ) (es : List (Name × NodeId)) → Left gone es (taken_below gone k es)
left_below gone zero es = left_itself gone es
left_below gone (suc k) es = left_through gone es (taken_at gone k (slice_get es k) es) (taken_below gone (suc k) es) (one_taken gone k es) (left_below gone k (taken_at gone k (slice_get es k) es))

pub left_without : (gone : NodeId → Bool) (es : List (Name × NodeId)) → Left gone es (without gone es)
left_without gone es = left_below gone (length es) es

-- no entry from position k on is of such a node
abbrev StaysFrom : (NodeId → Bool) → ℕ → List (Name × NodeId) → Type 0
StaysFrom gone k es = (i : ℕ) (e : Name × NodeId) → k ≤ i → slice_get es i ≡ Some e → gone e.1 ≡ false

one_less : (gone : NodeId → Bool) (k : ℕ) (es : List (Name × NodeId)) → StaysFrom gone (suc k) es → StaysFrom gone k (taken_at gone k (slice_get es k) es)
one_less gone k es later = by_entry (slice_get es k) refl where
  by_gone : (e : Name × NodeId) → slice_get es k ≡ Some e → (b : Bool) → gone e.1 ≡ b → StaysFrom gone k (cond b (swap_remove es k e) es)
  by_gone e at false is i x from h = by_eq i k
      (λ same. ap (λ (z : Name × NodeId). gone z.1) (some_same h (ap (slice_get es) same ∙ at)) ∙ is)
      (λ differ. later i x (omega (arith, from, differ)) h)
  by_gone e at true is i x from h =
      let place : ℕ = length es - 1 in
      let small : i < place = take_within place (slice_set es k (get_or es place e)) i x h in
      by_eq i k
      (λ same. later place x (omega (arith, small, same)) (ap (slice_get es) (sym (ap (turn k place) same ∙ turn_first k place)) ∙ was_at es k e at i x h))
      (λ differ. later i x (omega (arith, from, differ)) (ap (slice_get es) (sym (turn_other k place i differ (λ e. absurd (omega (arith, small, e))))) ∙ was_at es k e at i x h))

  by_entry : (o : Option (Name × NodeId)) → slice_get es k ≡ o → StaysFrom gone k (taken_at gone k o es)
  by_entry None at = λ i x from h. by_eq i k
      (λ same. absurd (nothing (sym at ∙ ap (slice_get es) (sym same) ∙ h)))
      (λ differ. later i x (omega (arith, from, differ)) h) where
        nothing : {x : Name × NodeId} → None ≡ Some x → ⊥
        nothing h = cc
  by_entry (Some e) at = by_gone e at (gone e.1) refl

none_from : (gone : NodeId → Bool) (k : ℕ) (es : List (Name × NodeId)) → StaysFrom gone k es → StaysFrom gone 0 (taken_below gone k es)
none_from gone zero es later = later
none_from gone (suc k) es later = none_from gone k (taken_at gone k (slice_get es k) es) (one_less gone k es later)

-- none of what is left is of such a node
pub none_without : (gone : NodeId → Bool) (es : List (Name × NodeId)) (i : ℕ) (e : Name × NodeId) → slice_get (without gone es) i ≡ Some e → gone e.1 ≡ false
none_without gone es i e h = none_from gone (length es) es past i e (omega arith) h where
  past : StaysFrom gone (length es) es
  past j x from at = let small = slice_get_within es j x at in absurd (omega (arith, from, small))

-- what is found under a name is found among what is left, where it is none of such nodes and each name stands once
pub found_left : (gone : NodeId → Bool) (es left : List (Name × NodeId)) → Left gone es left → StandsOnce es → (name : Name) (n : NodeId) → find_name es name ≡ Some n → gone n ≡ false → find_name left name ≡ Some n
found_left gone es left l once name n found stays =
    let (j, _, at) = find_position es name n found in
    let (i, there) = l.still j (name, n) at stays in
    by_found j at i there (find_name left name) refl where
      by_found : (j : ℕ) → slice_get es j ≡ Some (name, n) → (i : ℕ) → slice_get left i ≡ Some (name, n) → (o : Option NodeId) → find_name left name ≡ o → o ≡ Some n
      by_found j at i there None none = absurd (found_at left i name n there none)
      by_found j at i there (Some m) is =
          let (k, _, here) = find_position left name m is in
          let was = l.was k (name, m) here in
          ap (λ (e : Name × NodeId). Some e.1) (some_same was (ap (slice_get es) (once name (l.place k) j m n was at) ∙ at))
