-- The walk that puts interfaces in order: what is done, what was seen, and which steps are pending.
use Rattle.std.proofs.Common.{ℕ, zero, suc, ◌+◌, ◌-◌, ◌*◌, ◌<◌, ◌≤◌, true, false, Bool, if◌then◌else◌, List, [], ◌∷◌, ◌++◌, take, drop, length, append_assoc, reverse, Contains, Option, Some, None, ◌≡◌, ◌⊎◌, inl, inr, refl, ap, sym, ◌∙◌, subst, arith, slice_get, length-append}
use Rattle.std.specs.Prelude.{Result, Ok, Err, OnOk}
use Rattle.std.specs.Option.{option_map}
use Rattle.std.proofs.Math.Nat.{suc-mul}
use Rattle.std.proofs.lemmas.List.{reverse-append, reverse-reverse, append-nil, map-append}
use Rattle.wac_types_shapes.specs.primitives.Name.{Name, option_case}
use Rattle.wac_types_shapes.specs.shapes.Kinds.{kind_type}
use Rattle.wac_types_shapes.specs.declared.shapes.component.Interface.{Interface}
use Rattle.wac_types_shapes.specs.declared.shapes.component.InterfaceId.{InterfaceId}
use Rattle.wac_types_shapes.specs.declared.shapes.component.ItemKind.{ItemKind}
use Rattle.wac_types_shapes.specs.declared.shapes.component.«Type».{«Type» as AnyType}
use Rattle.wac_types_shapes.specs.declared.shapes.component.«Type».TheVariants as ty
use Rattle.wac_types_collection.specs.declared.collection.collection.Held.{Held}
use Rattle.wac_types_collection.specs.collection.Collection.{Collection, IsWellFormed, IsBefore, HasInterface, item_of, kind_types, used_types}
use Rattle.wac_types_collection.proofs.lemmas.collection.Growth.{get_where}
use Rattle.wac_types_collection.proofs.lemmas.reach.Lists.{drop_second}
use Rattle.wac_encode_faults.specs.declared.order.Step.{Step}
use Rattle.wac_encode_faults.specs.declared.order.Step.TheVariants as step
use Rattle.wac_types_collection.specs.wide.Wide.{is_among, with_each}
use Rattle.wac_types_collection.specs.wide.Wide.{AreThere}
use Rattle.wac_encode_faults.specs.private.Order.{children, id_of, interface_of, interfaces_of, steps_into, IsOrdered, Takes}
use Rattle.wac_types_collection.proofs.lemmas.wide.Members.{in_none, in_first, in_rest, in_parts, in_one, in_right, in_either, in_map, map_in, flat_in, in_reversed}
use Rattle.wac_types_collection.proofs.lemmas.wide.Wide.{IsBelow, all_at, all_right, added_at, not_below_itself, below_below, below_there}
use Rattle.wac_types_collection.proofs.lemmas.wide.WideWalk.{length_one_more, more_less}
use Rattle.wac_types_collection.proofs.lemmas.wide.Once.{among_in, each_old, each_new, each_only, each_known}

-- ---- children are below
pub interface_is : (t : AnyType) (j : InterfaceId) → Contains (interface_of t) j → t ≡ ty.Interface j
interface_is (ty.Interface i) j h = ap ty.Interface (sym (in_one i j h))
interface_is (ty.World w) j h = absurd (in_none j h)
interface_is (ty.Resource r) j h = absurd (in_none j h)
interface_is (ty.Func f) j h = absurd (in_none j h)
interface_is (ty.Value v) j h = absurd (in_none j h)
interface_is (ty.Module m) j h = absurd (in_none j h)

pub child_below : (c : Collection) → IsWellFormed c → (i j : InterfaceId) → Contains (children c i) j → IsBelow c j i
child_below c wf i j w = by (slice_get c.interfaces i.0) refl w
  where
    by : (o : Option (Held Interface)) → slice_get c.interfaces i.0 ≡ o → Contains (interfaces_of (option_case (item_of o) [] (λ x. x.exports))) j → IsBelow c j i
    by None is h = absurd (in_none j h)
    by (Some x) is h =
        let (e, there, here) = flat_in (λ (e : Name × ItemKind). interface_of (kind_type e.1)) x.item.exports j h in
        let before = subst (IsBefore c x.before) (interface_is (kind_type e.1) j here)
        (all_at (IsBefore c x.before) x.item.exports e (all_right (IsBefore c x.before) (used_types x.item.uses) (kind_types x.item.exports) (wf.interfaces i.0 x is).1) there) in
        let (low, low_at, less) = added_at x.before (slice_get c.interfaces j.0) before in
        record { lower = low; higher = x; lower_at = low_at; higher_at = is; less = less }

-- ---- what is open
-- The interface is done, or is that of one of the steps.
abbrev pub IsPending : List InterfaceId → List Step → InterfaceId → Type 0
IsPending done steps u = Contains done u ⊎ ((g : Step) × Contains steps g × (id_of g ≡ u))

-- Where an interface is left: the steps before are below it, and its children are done or among them.
abbrev IsOpenAt : Collection → List InterfaceId → List Step → Step → Type 0
IsOpenAt c done above (step.Enter u) = Unit {0}
IsOpenAt c done above (step.Leave v) = ((g : Step) → Contains above g → IsBelow c (id_of g) v) × ((u : InterfaceId) → Contains (children c v) u → IsPending done above u)

abbrev pub IsOpenFrom : Collection → List InterfaceId → List Step → List Step → Type 0
IsOpenFrom c done above [] = Unit {0}
IsOpenFrom c done above (f ∷ todo) = IsOpenAt c done above f × IsOpenFrom c done (f ∷ above) todo

-- Other steps stand for those before, and more is done.
record IsCovered (c : Collection) (done new : List InterfaceId) (above over : List Step) : Type 0 where
  pub grown : (k : InterfaceId) → Contains done k → Contains new k
  pub cover : (g : Step) → Contains above g → IsPending new over (id_of g)
  pub low : (v : InterfaceId) → ((g : Step) → Contains above g → IsBelow c (id_of g) v) → (g : Step) → Contains over g → IsBelow c (id_of g) v

pending_more : (done : List InterfaceId) (steps : List Step) (f : Step) (u : InterfaceId) → IsPending done steps u → IsPending done (f ∷ steps) u
pending_more done steps f u (inl h) = inl h
pending_more done steps f u (inr w) = inr (w.0, in_rest f w.0 steps w.1, w.2)

covered_more : (c : Collection) (done new : List InterfaceId) (above over : List Step) (f : Step) → IsCovered c done new above over → IsCovered c done new (f ∷ above) (f ∷ over)
covered_more c done new above over f k = record {
  grown = k.grown;
  cover = λ g h. elim (in_parts f g above h) [
    | inl same ↦ inr (f, in_first f over, ap id_of (sym same))
    | inr w ↦ pending_more new over f (id_of g) (k.cover g w)
  ];
  low = λ v all g h. elim (in_parts f g over h) [
    | inl same ↦ subst (λ z. IsBelow c (id_of z) v) (sym same) (all f (in_first f above))
    | inr w ↦ k.low v (λ e n. all e (in_rest f e above n)) g w
  ];
}

moved_at : (c : Collection) (done new : List InterfaceId) (above over : List Step) (f : Step) → IsCovered c done new above over → IsOpenAt c done above f → IsOpenAt c new over f
moved_at c done new above over (step.Enter u) k h = tt
moved_at c done new above over (step.Leave v) k h = (λ g w. k.low v h.0 g w, λ u w. kid u (h.1 u w))
  where
    kid : (u : InterfaceId) → IsPending done above u → IsPending new over u
    kid u (inl d) = inl (k.grown u d)
    kid u (inr w) = subst (IsPending new over) w.2 (k.cover w.0 w.1)

moved : (c : Collection) (done new : List InterfaceId) (todo above over : List Step) → IsCovered c done new above over → IsOpenFrom c done above todo → IsOpenFrom c new over todo
moved c done new [] above over k h = tt
moved c done new (f ∷ todo) above over k h = (moved_at c done new above over f k h.0, moved c done new todo (f ∷ above) (f ∷ over) (covered_more c done new above over f k) h.1)

-- no step before where an interface is left is of that interface
not_above : (c : Collection) (done : List InterfaceId) (todo above : List Step) (u : InterfaceId) (g : Step) → IsOpenFrom c done above todo → Contains todo (step.Leave u) → Contains above g → id_of g ≡ u → ⊥
not_above c done [] above u g h w there same = in_none (step.Leave u) w
not_above c done (f ∷ todo) above u g h w there same = elim (in_parts f (step.Leave u) todo w) [
  | inl e ↦ not_below_itself c u (subst (λ z. IsBelow c z u) same ((subst (IsOpenAt c done above) (sym e) h.0).0 g there))
  | inr k ↦ not_above c done todo (f ∷ above) u g h.1 k (in_rest f g above there) same
]

-- all of these are steps into interfaces
abbrev pub AreEnters : List Step → Type 0
AreEnters steps = (g : Step) → Contains steps g → (u : InterfaceId) × (g ≡ step.Enter u)

open_enter : (c : Collection) (done : List InterfaceId) (above : List Step) (g : Step) (u : InterfaceId) → g ≡ step.Enter u → IsOpenAt c done above g
open_enter c done above g u e = subst (IsOpenAt c done above) (sym e) tt

enters_open : (c : Collection) (done : List InterfaceId) (inner above todo : List Step) → AreEnters inner
    → ((over : List Step) → ((g : Step) → Contains over g → Contains above g ⊎ Contains inner g) → ((g : Step) → Contains above g ⊎ Contains inner g → Contains over g) → IsOpenFrom c done over todo)
    → IsOpenFrom c done above (inner ++ todo)
enters_open c done [] above todo enters rest = rest above (λ g h. inl h) (λ g h. elim h [ inl w ↦ w | inr n ↦ absurd (in_none g n) ])
enters_open c done (f ∷ inner) above todo enters rest = (
  (let (u, e) = enters f (in_first f inner) in open_enter c done above f u e),
  enters_open c done inner (f ∷ above) todo (λ g h. enters g (in_rest f g inner h)) (λ over from to. rest over
      (λ g h. elim (from g h) [
        | inl w ↦ elim (in_parts f g above w) [ inl same ↦ inr (subst (λ z. Contains (z ∷ inner) g) same (in_first g inner)) | inr k ↦ inl k ]
        | inr w ↦ inr (in_rest f g inner w)
      ])
      (λ g h. to g (elim h [
        | inl w ↦ inl (in_rest f g above w)
        | inr w ↦ elim (in_parts f g inner w) [ inl same ↦ inl (subst (λ z. Contains (z ∷ above) g) same (in_first g above)) | inr k ↦ inr k ]
      ]))),
)

-- ---- the state of the walk
pub record IsOrdering (c : Collection) (roots done seen : List InterfaceId) (todo : List Step) : Type 0 where
  pub sorted : IsOrdered c done
  pub seen_in : (v : InterfaceId) → Contains seen v → Contains done v ⊎ Contains todo (step.Leave v)
  pub opened : IsOpenFrom c done [] todo
  pub roots_in : (k : InterfaceId) → Contains roots k → IsPending done todo k
  pub steps_there : (g : Step) → Contains todo g → HasInterface c (id_of g)
  pub done_there : AreThere c done
  pub seen_there : AreThere c seen

differ : (u v : InterfaceId) → step.Leave u ≡ step.Enter v → ⊥
differ u v e = cc

one_left : (u v : InterfaceId) → step.Leave u ≡ step.Leave v → u ≡ v
one_left u v e = cc

module _ (c : Collection) (wf : IsWellFormed c) (roots done seen : List InterfaceId) (rest : List Step) (v : InterfaceId) where
  module _ (o : IsOrdering c roots done seen (step.Enter v ∷ rest)) where
    deeper : (u : InterfaceId) → Contains (step.Enter v ∷ rest) (step.Leave u) → Contains rest (step.Leave u)
    deeper u h = elim (in_parts (step.Enter v) (step.Leave u) rest h) [ inl e ↦ absurd (differ u v e) | inr w ↦ w ]

    -- an interface that was seen
    pub skipped : Contains seen v → IsOrdering c roots done seen rest
    skipped there = record {
      sorted = o.sorted;
      seen_in = λ u h. elim (o.seen_in u h) [ inl w ↦ inl w | inr w ↦ inr (deeper u w) ];
      opened = moved c done done rest (step.Enter v ∷ []) [] (record {
        grown = λ k h. h;
        cover = λ g h. inl (subst (λ z. Contains done (id_of z)) (sym (in_one (step.Enter v) g h)) is_done);
        low = λ u all g n. absurd (in_none g n);
      }) o.opened.1;
      roots_in = λ k h. root k (o.roots_in k h);
      steps_there = λ g h. o.steps_there g (in_rest (step.Enter v) g rest h);
      done_there = o.done_there;
      seen_there = o.seen_there;
    }
      where
        is_done : Contains done v
        is_done = elim (o.seen_in v there) [
          | inl w ↦ w
          | inr w ↦ absurd (not_above c done rest (step.Enter v ∷ []) v (step.Enter v) o.opened.1 (deeper v w) (in_first (step.Enter v) []) refl)
        ]

        root : (k : InterfaceId) → IsPending done (step.Enter v ∷ rest) k → IsPending done rest k
        root k (inl w) = inl w
        root k (inr w) = elim (in_parts (step.Enter v) w.0 rest w.1) [
          | inl e ↦ inl (subst (Contains done) (ap id_of (sym e) ∙ w.2) is_done)
          | inr h ↦ inr (w.0, h, w.2)
        ]

    -- one that was not: its children come before it is left
    pub entered : (inner : List Step) → AreEnters inner → ((g : Step) → Contains inner g → Contains (children c v) (id_of g)) → ((u : InterfaceId) → Contains (children c v) u → (g : Step) × Contains inner g × (id_of g ≡ u))
        → IsOrdering c roots done (with_each seen (v ∷ [])) (inner ++ step.Leave v ∷ rest)
    entered inner enters kids all = record {
      sorted = o.sorted;
      seen_in = λ u h. elim (each_only seen (v ∷ []) u h) [
        | inl w ↦ elim (o.seen_in u w) [ inl k ↦ inl k | inr k ↦ inr (in_right inner (step.Leave v ∷ rest) (step.Leave u) (in_rest (step.Leave v) (step.Leave u) rest (deeper u k))) ]
        | inr w ↦ inr (in_right inner (step.Leave v ∷ rest) (step.Leave u) (subst (λ z. Contains (step.Leave v ∷ rest) (step.Leave z)) (sym (in_one v u w)) (in_first (step.Leave v) rest)))
      ];
      opened = enters_open c done inner [] (step.Leave v ∷ rest) enters (λ over from to. (left over from to, further over from to));
      roots_in = λ k h. root k (o.roots_in k h);
      steps_there = λ g h. elim (in_either inner (step.Leave v ∷ rest) g h) [
        | inl w ↦ below_there c (id_of g) v (child_below c wf v (id_of g) (kids g w))
        | inr w ↦ elim (in_parts (step.Leave v) g rest w) [
          | inl e ↦ subst (λ z. HasInterface c (id_of z)) (sym e) (o.steps_there (step.Enter v) (in_first (step.Enter v) rest))
          | inr k ↦ o.steps_there g (in_rest (step.Enter v) g rest k)
        ]
      ];
      done_there = o.done_there;
      seen_there = λ u h. elim (each_only seen (v ∷ []) u h) [ inl w ↦ o.seen_there u w | inr w ↦ subst (HasInterface c) (sym (in_one v u w)) (o.steps_there (step.Enter v) (in_first (step.Enter v) rest)) ];
    }
      where
        low : (over : List Step) → ((g : Step) → Contains over g → Contains [] g ⊎ Contains inner g) → (g : Step) → Contains over g → IsBelow c (id_of g) v
        low over from g h = elim (from g h) [ inl n ↦ absurd (in_none g n) | inr w ↦ child_below c wf v (id_of g) (kids g w) ]

        left : (over : List Step) → ((g : Step) → Contains over g → Contains [] g ⊎ Contains inner g) → ((g : Step) → Contains [] g ⊎ Contains inner g → Contains over g) → IsOpenAt c done over (step.Leave v)
        left over from to = (λ g h. low over from g h, λ u h. let w = all u h in inr (w.0, to w.0 (inr w.1), w.2))

        further : (over : List Step) → ((g : Step) → Contains over g → Contains [] g ⊎ Contains inner g) → ((g : Step) → Contains [] g ⊎ Contains inner g → Contains over g) → IsOpenFrom c done (step.Leave v ∷ over) rest
        further over from to = moved c done done rest (step.Enter v ∷ []) (step.Leave v ∷ over) (record {
          grown = λ k h. h;
          cover = λ g h. inr (step.Leave v, in_first (step.Leave v) over, ap id_of (sym (in_one (step.Enter v) g h)));
          low = λ u every g h. elim (in_parts (step.Leave v) g over h) [
            | inl e ↦ subst (λ z. IsBelow c (id_of z) u) (sym e) (every (step.Enter v) (in_first (step.Enter v) []))
            | inr w ↦ below_below c (id_of g) v u (low over from g w) (every (step.Enter v) (in_first (step.Enter v) []))
          ];
        }) o.opened.1

        root : (k : InterfaceId) → IsPending done (step.Enter v ∷ rest) k → IsPending done (inner ++ step.Leave v ∷ rest) k
        root k (inl w) = inl w
        root k (inr w) = elim (in_parts (step.Enter v) w.0 rest w.1) [
          | inl e ↦ inr (step.Leave v, in_right inner (step.Leave v ∷ rest) (step.Leave v) (in_first (step.Leave v) rest), ap id_of (sym e) ∙ w.2)
          | inr h ↦ inr (w.0, in_right inner (step.Leave v ∷ rest) w.0 (in_rest (step.Leave v) w.0 rest h), w.2)
        ]

  -- an interface that is left is after its children
  module _ (o : IsOrdering c roots done seen (step.Leave v ∷ rest)) where
    kids_done : (u : InterfaceId) → Contains (children c v) u → Contains done u
    kids_done u h = elim (o.opened.0.1 u h) [ inl w ↦ w | inr w ↦ absurd (in_none w.0 w.1) ]

    pub is_left : IsOrdering c roots (with_each done (v ∷ [])) seen rest
    is_left = record {
      sorted = after (is_among done v) refl;
      seen_in = λ u h. elim (o.seen_in u h) [
        | inl w ↦ inl (each_old done (v ∷ []) u w)
        | inr w ↦ elim (in_parts (step.Leave v) (step.Leave u) rest w) [
          | inl e ↦ inl (subst (Contains (with_each done (v ∷ []))) (sym (one_left u v e)) now)
          | inr k ↦ inr k
        ]
      ];
      opened = moved c done (with_each done (v ∷ [])) rest (step.Leave v ∷ []) [] (record {
        grown = λ k h. each_old done (v ∷ []) k h;
        cover = λ g h. inl (subst (λ z. Contains (with_each done (v ∷ [])) (id_of z)) (sym (in_one (step.Leave v) g h)) now);
        low = λ u all g n. absurd (in_none g n);
      }) o.opened.1;
      roots_in = λ k h. root k (o.roots_in k h);
      steps_there = λ g h. o.steps_there g (in_rest (step.Leave v) g rest h);
      done_there = λ u h. elim (each_only done (v ∷ []) u h) [ inl w ↦ o.done_there u w | inr w ↦ subst (HasInterface c) (sym (in_one v u w)) (o.steps_there (step.Leave v) (in_first (step.Leave v) rest)) ];
      seen_there = o.seen_there;
    }
      where
        now : Contains (with_each done (v ∷ [])) v
        now = each_new done (v ∷ []) v (in_first v [])

        root : (k : InterfaceId) → IsPending done (step.Leave v ∷ rest) k → IsPending (with_each done (v ∷ [])) rest k
        root k (inl w) = inl (each_old done (v ∷ []) k w)
        root k (inr w) = elim (in_parts (step.Leave v) w.0 rest w.1) [
          | inl e ↦ inl (subst (Contains (with_each done (v ∷ []))) (ap id_of (sym e) ∙ w.2) now)
          | inr h ↦ inr (w.0, h, w.2)
        ]

        take_same : (xs : List InterfaceId) (y : InterfaceId) (p : ℕ) (x : InterfaceId) → slice_get xs p ≡ Some x → take p (xs ++ y ∷ []) ≡ take p xs
        take_same [] y p x e = cc
        take_same (z ∷ xs) y zero x e = refl
        take_same (z ∷ xs) y (suc p) x e = ap (λ l. z ∷ l) (take_same xs y p x e)

        take_whole : (xs : List InterfaceId) (y : InterfaceId) → take (length xs) (xs ++ y ∷ []) ≡ xs
        take_whole [] y = refl
        take_whole (z ∷ xs) y = ap (λ l. z ∷ l) (take_whole xs y)

        pushed : IsOrdered c (done ++ v ∷ [])
        pushed p i j at h = elim (get_where done v p i at) [
          | inl old ↦ subst (λ l. Contains l j) (sym (take_same done v p i old)) (o.sorted p i j old h)
          | inr e ↦ subst (λ (q : ℕ). Contains (take q (done ++ v ∷ [])) j) (sym e.0) (subst (λ l. Contains l j) (sym (take_whole done v)) (kids_done j (subst (λ z. Contains (children c z) j) (sym e.1) h)))
        ]

        after : (b : Bool) → is_among done v ≡ b → IsOrdered c (with_each done (v ∷ []))
        after true e = subst (IsOrdered c) (sym (ap (λ b. if b then done else done ++ v ∷ []) e)) o.sorted
        after false e = subst (IsOrdered c) (sym (ap (λ b. if b then done else done ++ v ∷ []) e)) pushed

-- ---- the beginning
enters_are : (is : List InterfaceId) → AreEnters (steps_into is)
enters_are is g h = let w = map_in (λ i. step.Enter i) is g h in (w.0, w.2)

turned_enters : (is : List InterfaceId) → AreEnters (reverse (steps_into is))
turned_enters is g h = let w = map_in (λ i. step.Enter i) is g (in_reversed (steps_into is) g h) in (w.0, w.2)

in_turned : {A : Type 0} (xs : List A) (x : A) → Contains xs x → Contains (reverse xs) x
in_turned xs x h = in_reversed (reverse xs) x (subst (λ l. Contains l x) (sym (reverse-reverse xs)) h)

pub first_order : (c : Collection) (done seen roots : List InterfaceId) → done ≡ [] → seen ≡ [] → AreThere c roots → IsOrdering c roots done seen (reverse (steps_into roots))
first_order c done seen roots none_done none_seen there = record {
  sorted = λ p i j at h. absurd (no_place p i (subst (λ l. slice_get l p ≡ Some i) none_done at));
  seen_in = λ v h. absurd (in_none v (subst (λ l. Contains l v) none_seen h));
  opened = subst (IsOpenFrom c done []) (append-nil (reverse (steps_into roots))) (enters_open c done (reverse (steps_into roots)) [] [] (turned_enters roots) (λ over from to. tt));
  roots_in = λ k h. inr (step.Enter k, in_turned (steps_into roots) (step.Enter k) (in_map (λ i. step.Enter i) roots k h), refl);
  steps_there = λ g h. let w = map_in (λ i. step.Enter i) roots g (in_reversed (steps_into roots) g h) in subst (λ z. HasInterface c (id_of z)) (sym w.2) (there w.0 w.1);
  done_there = λ v h. absurd (in_none v (subst (λ l. Contains l v) none_done h));
  seen_there = λ v h. absurd (in_none v (subst (λ l. Contains l v) none_seen h));
}
  where
    no_place : (p : ℕ) (i : InterfaceId) → slice_get [] p ≡ Some i → ⊥
    no_place p i e = cc

-- ---- one step
one_left_fewer : (x k q e : ℕ) → e ≤ k → x + (q + suc e) < (x + suc k) + suc q
one_left_fewer x k q e small = omega (arith, small)

fewer_left : (n s k q e : ℕ) → suc s ≤ n → e ≤ k → (n - suc s) * suc k + (q + suc e) < (n - s) * suc k + suc q
fewer_left n s k q e low small =
    let one : n - s ≡ suc (n - suc s) = omega (arith, low) in
    let times : suc (n - suc s) * suc k ≡ (n - suc s) * suc k + suc k = suc-mul (n - suc s) (suc k) in
    subst (λ m. (n - suc s) * suc k + (q + suc e) < m * suc k + suc q) (sym one)
    (subst (λ m. (n - suc s) * suc k + (q + suc e) < m + suc q) (sym times) (one_left_fewer ((n - suc s) * suc k) k q e small))

pub most_listed : List (Held Interface) → ℕ
most_listed [] = 0
most_listed (h ∷ hs) = length (interfaces_of h.item.exports) + most_listed hs

within_listed : (hs : List (Held Interface)) (k : ℕ) → length (interfaces_of (option_case (item_of (slice_get hs k)) [] (λ x. x.exports))) ≤ most_listed hs
unfolding most_listed
within_listed [] k = omega arith
within_listed (h ∷ hs) zero = omega arith
within_listed (h ∷ hs) (suc k) = let l = within_listed hs k in omega (arith, l)

length_steps : (is : List InterfaceId) → length (steps_into is) ≡ length is
length_steps [] = refl
length_steps (i ∷ is) = ap suc (length_steps is)

module _ (c : Collection) (wf : IsWellFormed c) (roots done seen done_now seen_now : List InterfaceId) (popped pending_now : List Step) where
  pub popped_there : (f : Step) → IsOrdering c roots done seen (reverse (popped ++ f ∷ [])) → HasInterface c (id_of f)
  popped_there f o = o.steps_there f (subst (λ l. Contains l f) (sym (reverse-append popped (f ∷ []))) (in_first f (reverse popped)))

  pub stepped : (f : Step) → IsOrdering c roots done seen (reverse (popped ++ f ∷ [])) → Takes c f done seen popped done_now seen_now pending_now → IsOrdering c roots done_now seen_now (reverse pending_now)
  stepped (step.Leave v) o t =
      let first = subst (IsOrdering c roots done seen) (reverse-append popped (step.Leave v ∷ [])) o in
      let past = is_left c wf roots done seen (reverse popped) v first in
      subst (λ l. IsOrdering c roots l seen_now (reverse pending_now)) (sym t.0)
      (subst (λ l. IsOrdering c roots (with_each done (v ∷ [])) l (reverse pending_now)) (sym t.1)
      (subst (λ l. IsOrdering c roots (with_each done (v ∷ [])) seen (reverse l)) (sym t.2) past))
  stepped (step.Enter v) o t = by (is_among seen v) refl
    where
      first : IsOrdering c roots done seen (step.Enter v ∷ reverse popped)
      first = subst (IsOrdering c roots done seen) (reverse-append popped (step.Enter v ∷ [])) o

      kid : (g : Step) → Contains (reverse (steps_into (children c v))) g → Contains (children c v) (id_of g)
      kid g h = let w = map_in (λ i. step.Enter i) (children c v) g (in_reversed (steps_into (children c v)) g h) in subst (λ z. Contains (children c v) (id_of z)) (sym w.2) w.1

      all : (u : InterfaceId) → Contains (children c v) u → (g : Step) × Contains (reverse (steps_into (children c v))) g × (id_of g ≡ u)
      all u h = (step.Enter u, in_turned (steps_into (children c v)) (step.Enter u) (in_map (λ i. step.Enter i) (children c v) u h), refl)

      by : (b : Bool) → is_among seen v ≡ b → IsOrdering c roots done_now seen_now (reverse pending_now)
      by true e =
          let there = among_in seen v e in
          let kept : seen_now ≡ seen = t.1 ∙ each_known seen (v ∷ []) (λ k h. subst (Contains seen) (sym (in_one v k h)) there) in
          let past = skipped c wf roots done seen (reverse popped) v first there in
          subst (λ l. IsOrdering c roots l seen_now (reverse pending_now)) (sym t.0)
          (subst (λ l. IsOrdering c roots done l (reverse pending_now)) (sym kept)
          (subst (λ l. IsOrdering c roots done seen (reverse l)) (sym (t.2 e)) past))
      by false e =
          let turned : reverse pending_now ≡ reverse (steps_into (children c v)) ++ step.Leave v ∷ reverse popped =
          ap reverse (t.3 e) ∙ reverse-append (popped ++ step.Leave v ∷ []) (steps_into (children c v)) ∙ ap (λ l. reverse (steps_into (children c v)) ++ l) (reverse-append popped (step.Leave v ∷ [])) in
          let past = entered c wf roots done seen (reverse popped) v first (reverse (steps_into (children c v))) (turned_enters (children c v)) kid all in
          subst (λ l. IsOrdering c roots l seen_now (reverse pending_now)) (sym t.0)
          (subst (λ l. IsOrdering c roots done l (reverse pending_now)) (sym t.1)
          (subst (λ l. IsOrdering c roots done (with_each seen (v ∷ [])) l) (sym turned) past))

  pub stepped_less : (f : Step) → Takes c f done seen popped done_now seen_now pending_now → length seen_now ≤ length c.interfaces
      → (length c.interfaces - length seen_now) * suc (most_listed c.interfaces) + length pending_now < (length c.interfaces - length seen) * suc (most_listed c.interfaces) + length (popped ++ f ∷ [])
  stepped_less (step.Leave v) t small =
      let long = length-append popped (step.Leave v ∷ []) in
      let count = ap length t.2 in
      subst (λ l. (length c.interfaces - length l) * suc (most_listed c.interfaces) + length pending_now < (length c.interfaces - length seen) * suc (most_listed c.interfaces) + length (popped ++ step.Leave v ∷ [])) (sym t.1) (more_less ((length c.interfaces - length seen) * suc (most_listed c.interfaces)) (length pending_now) (length (popped ++ step.Leave v ∷ [])) (omega (arith, long, count)))
  stepped_less (step.Enter v) t small = by (is_among seen v) refl
    where
      long : length (popped ++ step.Enter v ∷ []) ≡ suc (length popped)
      long = let l = length-append popped (step.Enter v ∷ []) in omega (arith, l)

      by : (b : Bool) → is_among seen v ≡ b
          → (length c.interfaces - length seen_now) * suc (most_listed c.interfaces) + length pending_now < (length c.interfaces - length seen) * suc (most_listed c.interfaces) + length (popped ++ step.Enter v ∷ [])
      by true e =
          let there = among_in seen v e in
          let kept : seen_now ≡ seen = t.1 ∙ each_known seen (v ∷ []) (λ k h. subst (Contains seen) (sym (in_one v k h)) there) in
          let count = ap length (t.2 e) in
          let less = more_less ((length c.interfaces - length seen) * suc (most_listed c.interfaces)) (length pending_now) (length (popped ++ step.Enter v ∷ [])) (omega (arith, count, long)) in
          subst (λ l. (length c.interfaces - length l) * suc (most_listed c.interfaces) + length pending_now < (length c.interfaces - length seen) * suc (most_listed c.interfaces) + length (popped ++ step.Enter v ∷ [])) (sym kept) less
      by false e =
          let kids = children c v in
          let more = ap length t.1 ∙ length_one_more seen v e in
          let one = length-append popped (step.Leave v ∷ []) in
          let two = length-append (popped ++ step.Leave v ∷ []) (steps_into kids) in
          let three = length_steps kids in
          let four = ap length (t.3 e) in
          let count : length pending_now ≡ length popped + suc (length kids) = omega (arith, one, two, three, four) in
          let less = fewer_left (length c.interfaces) (length seen) (most_listed c.interfaces) (length popped) (length kids) (omega (arith, small, more)) (within_listed c.interfaces v.0) in
          subst (λ n. (length c.interfaces - n) * suc (most_listed c.interfaces) + length pending_now < (length c.interfaces - length seen) * suc (most_listed c.interfaces) + length (popped ++ step.Enter v ∷ [])) (sym more)
          (subst (λ n. (length c.interfaces - suc (length seen)) * suc (most_listed c.interfaces) + n < (length c.interfaces - length seen) * suc (most_listed c.interfaces) + length (popped ++ step.Enter v ∷ [])) (sym count)
          (subst (λ n. (length c.interfaces - suc (length seen)) * suc (most_listed c.interfaces) + (length popped + suc (length kids)) < (length c.interfaces - length seen) * suc (most_listed c.interfaces) + n) (sym long) less))

pub no_steps : (steps : List Step) → length steps ≡ 0 → steps ≡ []
no_steps [] h = refl
no_steps (f ∷ steps) h = cc

pub on_ok_three : {T E P Q R S : Type 0} (r : Result T E) → (P → Q → R → S) → OnOk r P → OnOk r Q → OnOk r R → OnOk r S
on_ok_three (Ok x) f p q s = f p q s
on_ok_three (Err e) f p q s = tt

pub steps_next : (es : List (Name × ItemKind)) (n : ℕ) (v : ItemKind) (pending now all : List Step) → option_map (λ e. e.1) (slice_get es n) ≡ Some v → now ≡ pending ++ steps_into (interface_of (kind_type v))
    → pending ++ steps_into (interfaces_of (drop n es)) ≡ all → now ++ steps_into (interfaces_of (drop (n + 1) es)) ≡ all
steps_next es n v pending now all at is was =
    let (a, parts) = drop_second es n v at in
    let here = steps_into (interface_of (kind_type v)) in
    let rest = interfaces_of (drop (n + 1) es) in
    let whole : steps_into (interfaces_of (drop n es)) ≡ here ++ steps_into rest = ap (λ xs. steps_into (interfaces_of xs)) parts ∙ map-append (λ i. step.Enter i) (interface_of (kind_type v)) rest in
    ap (λ l. l ++ steps_into rest) is ∙ append_assoc pending here (steps_into rest) ∙ ap (λ l. pending ++ l) (sym whole) ∙ was

-- ---- the end
pub order_done : (c : Collection) (roots done seen : List InterfaceId) → IsOrdering c roots done seen [] → (k : InterfaceId) → Contains roots k → Contains done k
order_done c roots done seen o k h = elim (o.roots_in k h) [ inl w ↦ w | inr w ↦ absurd (in_none w.0 w.1) ]
