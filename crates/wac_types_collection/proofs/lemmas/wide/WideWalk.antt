-- The walk that finds wide uses: what is pending, and what was seen.
use Rattle.std.proofs.Common.{ℕ, zero, suc, ◌+◌, ◌-◌, ◌*◌, ◌<◌, ◌≤◌, true, false, Bool, if◌then◌else◌, List, [], ◌∷◌, ◌++◌, length, reverse, drop, Contains, Some, ◌≡◌, ◌⊎◌, inl, inr, refl, ap, sym, ◌∙◌, subst, arith, flat_map, slice_get, append_assoc, length-append}
use Rattle.std.specs.Prelude.{Result, Ok, Err, OnOk}
use Rattle.std.specs.Option.{option_map}
use Rattle.std.proofs.Math.Nat.{suc-mul}
use Rattle.std.proofs.lemmas.List.{reverse-append, reverse-reverse, length-reverse, append-nil, drop_all}
use Rattle.wac_types_shapes.specs.primitives.Name.{Name, option_case}
use Rattle.wac_types_shapes.specs.declared.shapes.component.Interface.{Interface}
use Rattle.wac_types_shapes.specs.declared.shapes.component.InterfaceId.{InterfaceId}
use Rattle.wac_types_shapes.specs.declared.shapes.component.ItemKind.{ItemKind}
use Rattle.wac_types_shapes.specs.declared.shapes.component.ItemKind.TheVariants as kind
use Rattle.wac_types_collection.specs.declared.collection.collection.Held.{Held}
use Rattle.wac_types_collection.specs.collection.Collection.{Collection, IsWellFormed, HasInterface, item_of, interface_exports}
use Rattle.wac_types_collection.proofs.lemmas.reach.Lists.{drop_second}
use Rattle.wac_types_collection.specs.wide.Wide.{interface_uses, used_interfaces, instance_of, instances_of, UsesWidely, wide_uses, is_among, with_each}
use Rattle.wac_types_collection.specs.private.wide.WideWalk.{AreWhole}
use Rattle.wac_types_collection.specs.wide.Wide.{AreThere}
use Rattle.wac_types_collection.proofs.lemmas.wide.Members.{in_none, in_first, in_rest, in_one, in_left, in_right, in_either, flat_joined}
use Rattle.wac_types_collection.proofs.lemmas.wide.Wide.{IsBelow, instance_below, not_below_itself, below_below, below_there, wide_unfolds, wide_law}
use Rattle.wac_types_collection.proofs.lemmas.wide.Once.{among_in, each_old, each_new, each_only, each_joined, each_known}

-- What an interface uses widely is among the used ones, or some of the first pending interfaces use it, all of them below that interface.
pub record IsOpen (c : Collection) (used pending : List InterfaceId) (v : InterfaceId) : Type 0 where
  pub first : List InterfaceId
  pub rest : List InterfaceId
  pub parts : pending ≡ first ++ rest
  pub below : (x : InterfaceId) → Contains first x → IsBelow c x v
  pub found : (k : InterfaceId) → UsesWidely c v k → Contains used k ⊎ Contains (flat_map (wide_uses c) first) k

-- The state of a walk that adds to old ones what the roots use widely; the next pending interface is the first.
pub record IsWalk (c : Collection) (old roots used seen pending : List InterfaceId) : Type 0 where
  pub order : with_each used (flat_map (wide_uses c) pending) ≡ with_each old (flat_map (wide_uses c) roots)
  pub opened : (v : InterfaceId) → Contains seen v → IsOpen c used pending v
  pub seen_there : AreThere c seen
  pub pending_there : AreThere c pending

-- the beginning
pub first_walk : (c : Collection) (old seen roots : List InterfaceId) → AreWhole c seen old → AreThere c seen → AreThere c roots → IsWalk c old roots old seen roots
first_walk c old seen roots whole there pending = record {
  order = refl;
  opened = λ v h. record { first = []; rest = roots; parts = refl; below = λ x n. absurd (in_none x n); found = λ k u. inl (whole v k h u) };
  seen_there = there;
  pending_there = pending;
}

module _ (c : Collection) (wf : IsWellFormed c) where
  -- an interface that was seen and is next is done
  done : (used rest : List InterfaceId) (v : InterfaceId) → IsOpen c used (v ∷ rest) v → (k : InterfaceId) → UsesWidely c v k → Contains used k
  done used rest v o k u = by o.first o.parts o.below (o.found k u)
    where
      by : (first : List InterfaceId) → v ∷ rest ≡ first ++ o.rest → ((x : InterfaceId) → Contains first x → IsBelow c x v) → Contains used k ⊎ Contains (flat_map (wide_uses c) first) k → Contains used k
      by [] parts below (inl h) = h
      by [] parts below (inr n) = absurd (in_none k n)
      by (x ∷ xs) parts below h = let same : v ≡ x = first_of v x rest (xs ++ o.rest) parts in absurd (not_below_itself c v (below v (subst (λ z. Contains (z ∷ xs) v) same (in_first v xs))))
        where
          first_of : (a b : InterfaceId) (ps qs : List InterfaceId) → a ∷ ps ≡ b ∷ qs → a ≡ b
          first_of a b ps qs e = cc

  -- what was open while v was next is open when other interfaces stand in its place that use widely what v uses
  module _ (used new rest inner : List InterfaceId) (v : InterfaceId) (grown : (k : InterfaceId) → Contains used k → Contains new k)
      (below : (x : InterfaceId) → Contains inner x → IsBelow c x v) (finds : (k : InterfaceId) → UsesWidely c v k → Contains new k ⊎ Contains (flat_map (wide_uses c) inner) k) where
    still_open : (u : InterfaceId) → IsOpen c used (v ∷ rest) u → IsOpen c new (inner ++ rest) u
    still_open u o = by o.first o.parts o.below o.found
      where
        by : (first : List InterfaceId) → v ∷ rest ≡ first ++ o.rest → ((x : InterfaceId) → Contains first x → IsBelow c x u)
            → ((k : InterfaceId) → UsesWidely c u k → Contains used k ⊎ Contains (flat_map (wide_uses c) first) k) → IsOpen c new (inner ++ rest) u
        by [] parts low found = record {
          first = [];
          rest = inner ++ rest;
          parts = refl;
          below = λ x n. absurd (in_none x n);
          found = λ k w. elim (found k w) [ inl h ↦ inl (grown k h) | inr n ↦ inr n ];
        }
        by (x ∷ xs) parts low found = record {
          first = inner ++ xs;
          rest = o.rest;
          parts = ap (λ l. inner ++ l) (tail_is v x rest (xs ++ o.rest) parts) ∙ sym (append_assoc inner xs o.rest);
          below = λ y h. elim (in_either inner xs y h) [
            | inl w ↦ below_below c y v u (below y w) (low v (subst (λ z. Contains (z ∷ xs) v) (head_is v x rest (xs ++ o.rest) parts) (in_first v xs)))
            | inr w ↦ low y (in_rest x y xs w)
          ];
          found = λ k w. elim (found k w) [
            | inl h ↦ inl (grown k h)
            | inr h ↦ elim (in_either (wide_uses c x) (flat_map (wide_uses c) xs) k h) [
              | inl a ↦ elim (finds k ((wide_law c wf v k).1 (subst (λ z. Contains (wide_uses c z) k) (sym (head_is v x rest (xs ++ o.rest) parts)) a))) [
                | inl b ↦ inl b
                | inr b ↦ inr (subst (λ l. Contains l k) (sym (flat_joined (wide_uses c) inner xs)) (in_left (flat_map (wide_uses c) inner) (flat_map (wide_uses c) xs) k b))
              ]
              | inr a ↦ inr (subst (λ l. Contains l k) (sym (flat_joined (wide_uses c) inner xs)) (in_right (flat_map (wide_uses c) inner) (flat_map (wide_uses c) xs) k a))
            ]
          ];
        }
          where
            head_is : (a b : InterfaceId) (ps qs : List InterfaceId) → a ∷ ps ≡ b ∷ qs → a ≡ b
            head_is a b ps qs e = cc

            tail_is : (a b : InterfaceId) (ps qs : List InterfaceId) → a ∷ ps ≡ b ∷ qs → ps ≡ qs
            tail_is a b ps qs e = cc

  module _ (old roots used seen rest : List InterfaceId) (v : InterfaceId) (w : IsWalk c old roots used seen (v ∷ rest)) where
    -- past an interface that was seen
    pub passed : Contains seen v → IsWalk c old roots used seen rest
    passed there = record {
      order = sym (skip (wide_uses c v) (λ k h. done used rest v (w.opened v there) k ((wide_law c wf v k).1 h))) ∙ w.order;
      opened = λ u h. still_open used used rest [] v (λ k g. g) (λ x n. absurd (in_none x n)) (λ k g. inl (done used rest v (w.opened v there) k g)) u (w.opened u h);
      seen_there = w.seen_there;
      pending_there = λ u h. w.pending_there u (in_rest v u rest h);
    }
      where
        skip : (is : List InterfaceId) → ((k : InterfaceId) → Contains is k → Contains used k) → with_each used (is ++ flat_map (wide_uses c) rest) ≡ with_each used (flat_map (wide_uses c) rest)
        skip is known = each_joined used is (flat_map (wide_uses c) rest) ∙ ap (λ l. with_each l (flat_map (wide_uses c) rest)) (each_known used is known)

    -- past one that was not: its own uses are used, and its instances are next
    abbrev own : List InterfaceId
    own = used_interfaces (interface_uses c v)

    abbrev inner : List InterfaceId
    inner = instances_of (interface_exports c v)

    pub entered : IsWalk c old roots (with_each used own) (with_each seen (v ∷ [])) (inner ++ rest)
    entered = record {
      order = in_order ∙ w.order;
      opened = λ u h. elim (each_only seen (v ∷ []) u h) [ inl g ↦ further u (w.opened u g) | inr g ↦ subst (λ z. IsOpen c (with_each used own) (inner ++ rest) z) (sym (in_one v u g)) itself ];
      seen_there = λ u h. elim (each_only seen (v ∷ []) u h) [ inl g ↦ w.seen_there u g | inr g ↦ subst (HasInterface c) (sym (in_one v u g)) (w.pending_there v (in_first v rest)) ];
      pending_there = λ u h. elim (in_either inner rest u h) [ inl g ↦ below_there c u v (instance_below c wf v u g) | inr g ↦ w.pending_there u (in_rest v u rest g) ];
    }
      where
        in_order : with_each (with_each used own) (flat_map (wide_uses c) (inner ++ rest)) ≡ with_each used (wide_uses c v ++ flat_map (wide_uses c) rest)
        in_order =
            sym (each_joined used own (flat_map (wide_uses c) (inner ++ rest)))
            ∙ ap (with_each used) (ap (λ l. own ++ l) (flat_joined (wide_uses c) inner rest) ∙ sym (append_assoc own (flat_map (wide_uses c) inner) (flat_map (wide_uses c) rest)) ∙ ap (λ l. l ++ flat_map (wide_uses c) rest) (sym (wide_unfolds c wf v)))

        finds : (k : InterfaceId) → UsesWidely c v k → Contains (with_each used own) k ⊎ Contains (flat_map (wide_uses c) inner) k
        finds k u = elim (in_either own (flat_map (wide_uses c) inner) k (subst (λ l. Contains l k) (wide_unfolds c wf v) ((wide_law c wf v k).0 u))) [
          | inl h ↦ inl (each_new used own k h)
          | inr h ↦ inr h
        ]

        further : (u : InterfaceId) → IsOpen c used (v ∷ rest) u → IsOpen c (with_each used own) (inner ++ rest) u
        further = still_open used (with_each used own) rest inner v (λ k g. each_old used own k g) (λ x g. instance_below c wf v x g) finds

        itself : IsOpen c (with_each used own) (inner ++ rest) v
        itself = record { first = inner; rest = rest; parts = refl; below = λ x g. instance_below c wf v x g; found = finds }

-- the end
pub walk_done : (c : Collection) (old roots used seen : List InterfaceId) → IsWalk c old roots used seen [] → (used ≡ with_each old (flat_map (wide_uses c) roots)) × AreWhole c seen used × AreThere c seen
walk_done c old roots used seen w = (w.order, λ v k h u. by v k (w.opened v h) u, w.seen_there)
  where
    by : (v k : InterfaceId) → IsOpen c used [] v → UsesWidely c v k → Contains used k
    by v k o u = at o.first o.parts (o.found k u)
      where
        at : (first : List InterfaceId) → [] ≡ first ++ o.rest → Contains used k ⊎ Contains (flat_map (wide_uses c) first) k → Contains used k
        at [] parts (inl h) = h
        at [] parts (inr n) = absurd (in_none k n)
        at (x ∷ xs) parts h = cc

-- ---- one interface visited
pub popped_there : (c : Collection) (old roots used seen popped : List InterfaceId) (v : InterfaceId) → IsWalk c old roots used seen (reverse (popped ++ v ∷ [])) → HasInterface c v
popped_there c old roots used seen popped v walk = walk.pending_there v (subst (λ l. Contains l v) (sym (reverse-append popped (v ∷ []))) (in_first v (reverse popped)))

pub length_one_more : (is : List InterfaceId) (i : InterfaceId) → is_among is i ≡ false → length (with_each is (i ∷ [])) ≡ suc (length is)
length_one_more is i e =
    let l = length-append is (i ∷ []) in
    let grown : with_each is (i ∷ []) ≡ is ++ i ∷ [] = ap (λ b. if b then is else is ++ i ∷ []) e in
    ap length grown ∙ omega (arith, l)

-- the number of all instances that interfaces export
pub most : List (Held Interface) → ℕ
most [] = 0
most (h ∷ hs) = length (instances_of h.item.exports) + most hs

within_most : (hs : List (Held Interface)) (k : ℕ) → length (instances_of (option_case (item_of (slice_get hs k)) [] (λ x. x.exports))) ≤ most hs
unfolding most
within_most [] k = omega arith
within_most (h ∷ hs) zero = omega arith
within_most (h ∷ hs) (suc k) = let l = within_most hs k in omega (arith, l)

instances_few : (c : Collection) (i : InterfaceId) → length (instances_of (interface_exports c i)) ≤ most c.interfaces
instances_few c i = within_most c.interfaces i.0

-- (a product is one number here)
pub more_less : (x p q : ℕ) → p < q → x + p < x + q
more_less x p q l = omega (arith, l)

one_fewer : (x k q e : ℕ) → e ≤ k → x + (q + e) < (x + suc k) + suc q
one_fewer x k q e small = omega (arith, small)

fewer : (n s k q e : ℕ) → suc s ≤ n → e ≤ k → (n - suc s) * suc k + (q + e) < (n - s) * suc k + suc q
fewer n s k q e low small =
    let one : n - s ≡ suc (n - suc s) = omega (arith, low) in
    let times : suc (n - suc s) * suc k ≡ (n - suc s) * suc k + suc k = suc-mul (n - suc s) (suc k) in
    subst (λ m. (n - suc s) * suc k + (q + e) < m * suc k + suc q) (sym one)
    (subst (λ m. (n - suc s) * suc k + (q + e) < m + suc q) (sym times) (one_fewer ((n - suc s) * suc k) k q e small))

module _ (c : Collection) (wf : IsWellFormed c) (old roots used seen popped newly seen_now pending_now : List InterfaceId) (v : InterfaceId)
    (walk : IsWalk c old roots used seen (reverse (popped ++ v ∷ []))) (seen_is : seen_now ≡ with_each seen (v ∷ []))
    (known : is_among seen v ≡ true → (newly ≡ used) × (pending_now ≡ popped))
    (new : is_among seen v ≡ false → (newly ≡ with_each used (used_interfaces (interface_uses c v))) × (pending_now ≡ popped ++ reverse (instances_of (interface_exports c v)))) where
  next_first : IsWalk c old roots used seen (v ∷ reverse popped)
  next_first = subst (IsWalk c old roots used seen) (reverse-append popped (v ∷ [])) walk

  pub visited : IsWalk c old roots newly seen_now (reverse pending_now)
  visited = by (is_among seen v) refl
    where
      by : (b : Bool) → is_among seen v ≡ b → IsWalk c old roots newly seen_now (reverse pending_now)
      by true e =
          let (same, left) = known e in
          let there = among_in seen v e in
          let kept : seen_now ≡ seen = seen_is ∙ each_known seen (v ∷ []) (λ k h. subst (Contains seen) (sym (in_one v k h)) there) in
          let past = passed c wf old roots used seen (reverse popped) v next_first there in
          subst (λ l. IsWalk c old roots l seen_now (reverse pending_now)) (sym same)
          (subst (λ l. IsWalk c old roots used l (reverse pending_now)) (sym kept)
          (subst (λ l. IsWalk c old roots used seen (reverse l)) (sym left) past))
      by false e =
          let (same, left) = new e in
          let inner = instances_of (interface_exports c v) in
          let turned : reverse pending_now ≡ inner ++ reverse popped = ap reverse left ∙ reverse-append popped (reverse inner) ∙ ap (λ l. l ++ reverse popped) (reverse-reverse inner) in
          let past = entered c wf old roots used seen (reverse popped) v next_first in
          subst (λ l. IsWalk c old roots l seen_now (reverse pending_now)) (sym same)
          (subst (λ l. IsWalk c old roots (with_each used (used_interfaces (interface_uses c v))) l (reverse pending_now)) (sym seen_is)
          (subst (λ l. IsWalk c old roots (with_each used (used_interfaces (interface_uses c v))) (with_each seen (v ∷ [])) l) (sym turned) past))

  pub visited_less : length seen_now ≤ length c.interfaces
      → (length c.interfaces - length seen_now) * suc (most c.interfaces) + length pending_now < (length c.interfaces - length seen) * suc (most c.interfaces) + length (popped ++ v ∷ [])
  visited_less small = by (is_among seen v) refl
    where
      long : length (popped ++ v ∷ []) ≡ suc (length popped)
      long = let l = length-append popped (v ∷ []) in omega (arith, l)

      by : (b : Bool) → is_among seen v ≡ b
          → (length c.interfaces - length seen_now) * suc (most c.interfaces) + length pending_now < (length c.interfaces - length seen) * suc (most c.interfaces) + length (popped ++ v ∷ [])
      by true e =
          let (same, left) = known e in
          let there = among_in seen v e in
          let kept : seen_now ≡ seen = seen_is ∙ each_known seen (v ∷ []) (λ k h. subst (Contains seen) (sym (in_one v k h)) there) in
          let count = ap length left in
          let less = more_less ((length c.interfaces - length seen) * suc (most c.interfaces)) (length pending_now) (length (popped ++ v ∷ [])) (omega (arith, count, long)) in
          subst (λ l. (length c.interfaces - length l) * suc (most c.interfaces) + length pending_now < (length c.interfaces - length seen) * suc (most c.interfaces) + length (popped ++ v ∷ [])) (sym kept) less
      by false e =
          let (same, left) = new e in
          let inner = instances_of (interface_exports c v) in
          let more = ap length seen_is ∙ length_one_more seen v e in
          let count = ap length left ∙ length-append popped (reverse inner) ∙ ap (λ n. length popped + n) (length-reverse inner) in
          let less = fewer (length c.interfaces) (length seen) (most c.interfaces) (length popped) (length inner) (omega (arith, small, more)) (instances_few c v) in
          subst (λ n. (length c.interfaces - n) * suc (most c.interfaces) + length pending_now < (length c.interfaces - length seen) * suc (most c.interfaces) + length (popped ++ v ∷ [])) (sym more)
          (subst (λ n. (length c.interfaces - suc (length seen)) * suc (most c.interfaces) + n < (length c.interfaces - length seen) * suc (most c.interfaces) + length (popped ++ v ∷ [])) (sym count)
          (subst (λ n. (length c.interfaces - suc (length seen)) * suc (most c.interfaces) + (length popped + length inner) < (length c.interfaces - length seen) * suc (most c.interfaces) + n) (sym long) less))

-- ---- instances appended, the last first
one_reversed : (k : ItemKind) → reverse (instance_of k) ≡ instance_of k
one_reversed (kind.Instance i) = refl
one_reversed (kind.TypeItem t) = refl
one_reversed (kind.Func f) = refl
one_reversed (kind.Component w) = refl
one_reversed (kind.Module m) = refl
one_reversed (kind.Value v) = refl

pub pushed_first : (es : List (Name × ItemKind)) (n : ℕ) (start : List InterfaceId) → n ≡ length es → start ≡ start ++ reverse (instances_of (drop n es))
pushed_first es n start long = sym (append-nil start) ∙ ap (λ l. start ++ reverse (instances_of l)) (sym (drop_all n es (omega (arith, long))))

pub pushed_next : (es : List (Name × ItemKind)) (left low : ℕ) (v : ItemKind) (start before now : List InterfaceId) → suc low ≡ left → option_map (λ e. e.1) (slice_get es low) ≡ Some v
    → before ≡ start ++ reverse (instances_of (drop left es)) → now ≡ before ++ instance_of v → now ≡ start ++ reverse (instances_of (drop low es))
pushed_next es left low v start before now next at was is =
    let (n, parts) = drop_second es low v at in
    let further : low + 1 ≡ left = omega (arith, next) in
    let rest = instances_of (drop left es) in
    let all : instances_of (drop low es) ≡ instance_of v ++ rest = ap instances_of parts ∙ ap (λ k. instance_of v ++ instances_of (drop k es)) further in
    let turned : reverse (instances_of (drop low es)) ≡ reverse rest ++ instance_of v = ap reverse all ∙ reverse-append (instance_of v) rest ∙ ap (λ l. reverse rest ++ l) (one_reversed v) in
    is ∙ ap (λ l. l ++ instance_of v) was ∙ append_assoc start (reverse rest) (instance_of v) ∙ ap (λ l. start ++ l) (sym turned)

pub pushed_all : (es : List (Name × ItemKind)) (left : ℕ) (start now : List InterfaceId) → left ≤ 0 → now ≡ start ++ reverse (instances_of (drop left es)) → now ≡ start ++ reverse (instances_of es)
pushed_all es left start now none is = let zero_is : left ≡ 0 = omega (arith, none) in is ∙ ap (λ k. start ++ reverse (instances_of (drop k es))) zero_is

-- instances of items of the collection are of the collection
pub empty_is : (is : List InterfaceId) → length is ≡ 0 → is ≡ []
empty_is [] h = refl
empty_is (i ∷ is) h = cc

-- of two facts of one result
pub on_ok_both : {T E P Q R : Type 0} (r : Result T E) → (P → Q → R) → OnOk r P → OnOk r Q → OnOk r R
on_ok_both (Ok x) f p q = f p q
on_ok_both (Err e) f p q = tt
