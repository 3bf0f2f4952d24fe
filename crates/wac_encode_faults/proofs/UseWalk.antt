-- The walk that finds what interfaces use, each after those that it uses itself: what is done, and which steps are pending.
use Rattle.std.proofs.Common.{ℕ, zero, suc, ◌+◌, ◌<◌, Bool, true, false, List, [], ◌∷◌, ◌++◌, length, append_assoc, reverse, Contains, ◌≡◌, ◌⊎◌, inl, inr, refl, ap, sym, ◌∙◌, subst, arith, flat_map, slice_get, length-append}
use Rattle.std.proofs.lemmas.List.{reverse-append, reverse-reverse, append-nil}
use Rattle.wac_types_shapes.specs.declared.shapes.component.InterfaceId.{InterfaceId}
use Rattle.wac_types_collection.specs.collection.Collection.{Collection, IsWellFormed, HasInterface, size}
use Rattle.wac_types_collection.specs.wide.Wide.{AreThere, interface_uses, used_interfaces, is_among, with_each, each_once}
use Rattle.wac_types_collection.proofs.lemmas.wide.Members.{in_none, in_first, in_rest, in_parts, in_one, in_either, map_in, in_flat, flat_in, flat_same, flat_joined}
use Rattle.wac_types_collection.proofs.lemmas.wide.Once.{among_in, each_old, each_new, each_only, each_joined, each_known}
use Rattle.wac_encode_faults.specs.declared.order.Step.{Step}
use Rattle.wac_encode_faults.specs.declared.order.Step.TheVariants as step
use Rattle.wac_encode_faults.specs.Sides.{reached_to, reached}
use Rattle.wac_encode_faults.specs.private.Order.{id_of, steps_into, TakesUse}
use Rattle.wac_encode_faults.proofs.Reached.{IsDeep, none_before, used_deep, there_deep, used_there}

-- ---- what is reached
reached_nothing : (d : ℕ) (c : Collection) → reached_to d c [] ≡ []
reached_nothing zero c = refl
reached_nothing (suc d) c = refl

pub reached_joined : (d : ℕ) (c : Collection) (is js : List InterfaceId) → reached_to d c (is ++ js) ≡ reached_to d c is ++ reached_to d c js
reached_joined zero c is js = refl
reached_joined (suc d) c is js = flat_joined (λ i. reached_to d c (used_interfaces (interface_uses c i)) ++ i ∷ []) is js

pub reached_within : (d : ℕ) (c : Collection) (is : List InterfaceId) (i k : InterfaceId) → Contains is i → Contains (reached_to d c (i ∷ [])) k → Contains (reached_to d c is) k
reached_within zero c is i k there h = absurd (in_none k h)
reached_within (suc d) c is i k there h =
    let (j, among, here) = flat_in (λ i. reached_to d c (used_interfaces (interface_uses c i)) ++ i ∷ []) (i ∷ []) k h in
    in_flat (λ i. reached_to d c (used_interfaces (interface_uses c i)) ++ i ∷ []) is j k (subst (Contains is) (sym (in_one i j among)) there) here

-- any greater depth reaches the same
module _ (c : Collection) (wf : IsWellFormed c) where
  steady : (d : ℕ) (is : List InterfaceId) → ((i : InterfaceId) → Contains is i → IsDeep c d i) → reached_to d c is ≡ reached_to (suc d) c is
  steady zero [] deep = refl
  steady zero (i ∷ is) deep = absurd (none_before (slice_get c.interfaces i.0) (deep i (in_first i is)))
  steady (suc d) is deep =
      flat_same (λ i. reached_to d c (used_interfaces (interface_uses c i)) ++ i ∷ []) (λ i. reached_to (suc d) c (used_interfaces (interface_uses c i)) ++ i ∷ []) is
      (λ i h. ap (λ l. l ++ i ∷ []) (steady d (used_interfaces (interface_uses c i)) (λ u g. used_deep c wf d i u (deep i h) g)))

  pub unfolds : (i : InterfaceId) → HasInterface c i → reached c (i ∷ []) ≡ reached c (used_interfaces (interface_uses c i)) ++ i ∷ []
  unfolds i there =
      steady (size c) (i ∷ []) (λ k h. there_deep c wf k (subst (HasInterface c) (sym (in_one i k h)) there))
      ∙ append-nil (reached_to (size c) c (used_interfaces (interface_uses c i)) ++ i ∷ [])

-- The interfaces include what each of them uses itself.
abbrev pub IsClosed : Collection → List InterfaceId → Type 0
IsClosed c done = (j k : InterfaceId) → Contains done j → Contains (used_interfaces (interface_uses c j)) k → Contains done k

inside : (c : Collection) (done : List InterfaceId) → IsClosed c done → (d : ℕ) (is : List InterfaceId) (k : InterfaceId) → ((i : InterfaceId) → Contains is i → Contains done i) → Contains (reached_to d c is) k → Contains done k
inside c done closed zero is k all h = absurd (in_none k h)
inside c done closed (suc d) is k all h =
    let (i, there, here) = flat_in (λ i. reached_to d c (used_interfaces (interface_uses c i)) ++ i ∷ []) is k h in
    elim (in_either (reached_to d c (used_interfaces (interface_uses c i))) (i ∷ []) k here) [
      | inl g ↦ inside c done closed d (used_interfaces (interface_uses c i)) k (λ u w. closed i u (all i there) w) g
      | inr g ↦ subst (Contains done) (sym (in_one i k g)) (all i there)
    ]

-- ---- what steps add
-- The interfaces that a step adds: what the interface reaches, or the interface alone.
abbrev pub added_by : Collection → Step → List InterfaceId
added_by c (step.Enter i) = reached c (i ∷ [])
added_by c (step.Leave i) = i ∷ []

entered_list : (c : Collection) (is : List InterfaceId) → flat_map (added_by c) (steps_into is) ≡ reached c is
entered_list c [] = sym (reached_nothing (size c) c)
entered_list c (i ∷ is) = ap (λ l. reached c (i ∷ []) ++ l) (entered_list c is) ∙ sym (reached_joined (size c) c (i ∷ []) is)

-- Twice what an interface reaches that is entered, and one for each that is left.
abbrev pub weight : Collection → Step → ℕ
weight c (step.Enter i) = length (reached c (i ∷ [])) + length (reached c (i ∷ []))
weight c (step.Leave i) = 1

abbrev pub weigh : Collection → List Step → ℕ
weigh c [] = 0
weigh c (g ∷ gs) = weight c g + weigh c gs

sums : (a b d e : ℕ) → b ≡ d + e → a + b ≡ (a + d) + e
sums a b d e h = omega (arith, h)

nothing_more : (a : ℕ) → a ≡ 0 + a
nothing_more a = omega arith

weigh_joined : (c : Collection) (xs ys : List Step) → weigh c (xs ++ ys) ≡ weigh c xs + weigh c ys
weigh_joined c [] ys = nothing_more (weigh c ys)
weigh_joined c (x ∷ xs) ys = sums (weight c x) (weigh c (xs ++ ys)) (weigh c xs) (weigh c ys) (weigh_joined c xs ys)

doubled : (a b s w : ℕ) → s ≡ a + b → w ≡ b + b → (a + a) + w ≡ s + s
doubled a b s w e f = omega (arith, e, f)

weigh_enters : (c : Collection) (is : List InterfaceId) → weigh c (steps_into is) ≡ length (reached c is) + length (reached c is)
weigh_enters c [] = sym (ap (λ l. length l + length l) (reached_nothing (size c) c))
weigh_enters c (i ∷ is) =
    let long = ap length (reached_joined (size c) c (i ∷ []) is) ∙ length-append (reached c (i ∷ [])) (reached c is) in
    doubled (length (reached c (i ∷ []))) (length (reached c is)) (length (reached c (i ∷ is))) (weigh c (steps_into is)) long (weigh_enters c is)

-- ---- what is open
-- Where an interface is left, those that it uses are done or come before.
abbrev IsOpenAt : Collection → List InterfaceId → List InterfaceId → Step → Type 0
IsOpenAt c done above (step.Enter u) = Unit {0}
IsOpenAt c done above (step.Leave v) = (u : InterfaceId) → Contains (used_interfaces (interface_uses c v)) u → Contains done u ⊎ Contains above u

abbrev pub IsOpenFrom : Collection → List InterfaceId → List InterfaceId → List Step → Type 0
IsOpenFrom c done above [] = Unit {0}
IsOpenFrom c done above (f ∷ todo) = IsOpenAt c done above f × IsOpenFrom c done (id_of f ∷ above) todo

module _ (c : Collection) (done new : List InterfaceId) (grown : (k : InterfaceId) → Contains done k → Contains new k) where
  moved_at : (above over : List InterfaceId) (f : Step) → ((u : InterfaceId) → Contains above u → Contains new u ⊎ Contains over u) → IsOpenAt c done above f → IsOpenAt c new over f
  moved_at above over (step.Enter u) cover h = tt
  moved_at above over (step.Leave v) cover h = λ u w. elim (h u w) [ inl d ↦ inl (grown u d) | inr a ↦ cover u a ]

  moved : (todo : List Step) (above over : List InterfaceId) → ((u : InterfaceId) → Contains above u → Contains new u ⊎ Contains over u) → IsOpenFrom c done above todo → IsOpenFrom c new over todo
  moved [] above over cover h = tt
  moved (f ∷ todo) above over cover h = (
    moved_at above over f cover h.0,
    moved todo (id_of f ∷ above) (id_of f ∷ over) (λ u w. elim (in_parts (id_of f) u above w) [
      | inl same ↦ inr (subst (λ z. Contains (z ∷ over) u) same (in_first u over))
      | inr k ↦ elim (cover u k) [ inl d ↦ inl d | inr a ↦ inr (in_rest (id_of f) u over a) ]
    ]) h.1,
  )

enters_open : (c : Collection) (done is above : List InterfaceId) (todo : List Step)
    → ((over : List InterfaceId) → ((u : InterfaceId) → Contains above u ⊎ Contains is u → Contains over u) → IsOpenFrom c done over todo) → IsOpenFrom c done above (steps_into is ++ todo)
enters_open c done [] above todo rest = rest above (λ u h. elim h [ inl w ↦ w | inr n ↦ absurd (in_none u n) ])
enters_open c done (i ∷ is) above todo rest = (
  tt,
  enters_open c done is (i ∷ above) todo (λ over to. rest over (λ u h. to u (elim h [
    | inl w ↦ inl (in_rest i u above w)
    | inr w ↦ elim (in_parts i u is w) [ inl same ↦ inl (subst (λ z. Contains (z ∷ above) u) same (in_first u above)) | inr k ↦ inr k ]
  ]))),
)

-- ---- the state of the walk
pub record IsUseWalk (c : Collection) (roots done : List InterfaceId) (todo : List Step) : Type 0 where
  pub order : with_each done (flat_map (added_by c) todo) ≡ each_once (reached c roots)
  pub closed : IsClosed c done
  pub opened : IsOpenFrom c done [] todo
  pub there : (g : Step) → Contains todo g → HasInterface c (id_of g)

module _ (c : Collection) (wf : IsWellFormed c) (roots done : List InterfaceId) (rest : List Step) (v : InterfaceId) where
  -- an interface that is done
  pub skipped : IsUseWalk c roots done (step.Enter v ∷ rest) → Contains done v → IsUseWalk c roots done rest
  skipped w there = record {
    order = sym (each_joined done (reached c (v ∷ [])) (flat_map (added_by c) rest) ∙ ap (λ l. with_each l (flat_map (added_by c) rest)) (each_known done (reached c (v ∷ [])) (λ k h. known k h))) ∙ w.order;
    closed = w.closed;
    opened = moved c done done (λ k h. h) rest (v ∷ []) [] (λ u h. inl (subst (Contains done) (sym (in_one v u h)) there)) w.opened.1;
    there = λ g h. w.there g (in_rest (step.Enter v) g rest h);
  }
    where
      known : (k : InterfaceId) → Contains (reached c (v ∷ [])) k → Contains done k
      known k h = inside c done w.closed (size c) (v ∷ []) k (λ i g. subst (Contains done) (sym (in_one v i g)) there) h

  -- one that is not: those that it uses come before it is left
  pub entered : IsUseWalk c roots done (step.Enter v ∷ rest) → IsUseWalk c roots done (steps_into (used_interfaces (interface_uses c v)) ++ step.Leave v ∷ rest)
  entered w = record {
    order = ap (with_each done) (whole ∙ sym (ap (λ l. l ++ flat_map (added_by c) rest) (unfolds c wf v here) ∙ append_assoc (reached c (used_interfaces (interface_uses c v))) (v ∷ []) (flat_map (added_by c) rest))) ∙ w.order;
    closed = w.closed;
    opened = enters_open c done (used_interfaces (interface_uses c v)) [] (step.Leave v ∷ rest) (λ over to. (
      λ u h. inr (to u (inr h)),
      moved c done done (λ k h. h) rest (v ∷ []) (v ∷ over) (λ u h. inr (subst (λ z. Contains (z ∷ over) u) (in_one v u h) (in_first u over))) w.opened.1,
    ));
    there = λ g h. elim (in_either (steps_into (used_interfaces (interface_uses c v))) (step.Leave v ∷ rest) g h) [
      | inl k ↦ let (u, among, is) = map_in (λ i. step.Enter i) (used_interfaces (interface_uses c v)) g k in subst (λ z. HasInterface c (id_of z)) (sym is) (used_there c wf v u here among)
      | inr k ↦ elim (in_parts (step.Leave v) g rest k) [
        | inl e ↦ subst (λ z. HasInterface c (id_of z)) (sym e) here
        | inr n ↦ w.there g (in_rest (step.Enter v) g rest n)
      ]
    ];
  }
    where
      here : HasInterface c v
      here = w.there (step.Enter v) (in_first (step.Enter v) rest)

      whole : flat_map (added_by c) (steps_into (used_interfaces (interface_uses c v)) ++ step.Leave v ∷ rest) ≡ reached c (used_interfaces (interface_uses c v)) ++ v ∷ flat_map (added_by c) rest
      whole =
          flat_joined (added_by c) (steps_into (used_interfaces (interface_uses c v))) (step.Leave v ∷ rest)
          ∙ ap (λ l. l ++ v ∷ flat_map (added_by c) rest) (entered_list c (used_interfaces (interface_uses c v)))

  -- one that is left
  pub is_left : IsUseWalk c roots done (step.Leave v ∷ rest) → IsUseWalk c roots (with_each done (v ∷ [])) rest
  is_left w = record {
    order = w.order;
    closed = λ j k h g. elim (each_only done (v ∷ []) j h) [
      | inl x ↦ each_old done (v ∷ []) k (w.closed j k x g)
      | inr x ↦ elim (w.opened.0 k (subst (λ z. Contains (used_interfaces (interface_uses c z)) k) (in_one v j x) g)) [ inl d ↦ each_old done (v ∷ []) k d | inr n ↦ absurd (in_none k n) ]
    ];
    opened = moved c done (with_each done (v ∷ [])) (λ k h. each_old done (v ∷ []) k h) rest (v ∷ []) [] (λ u h. inl (each_new done (v ∷ []) u h)) w.opened.1;
    there = λ g h. w.there g (in_rest (step.Leave v) g rest h);
  }

-- ---- the beginning
pub first_walk : (c : Collection) (roots done : List InterfaceId) → done ≡ [] → AreThere c roots → IsUseWalk c roots done (reverse (reverse (steps_into roots)))
first_walk c roots done none all = subst (IsUseWalk c roots done) (sym (reverse-reverse (steps_into roots))) (record {
  order = ap (λ l. with_each l (flat_map (added_by c) (steps_into roots))) none ∙ ap each_once (entered_list c roots);
  closed = λ j k h g. absurd (in_none j (subst (λ l. Contains l j) none h));
  opened = subst (IsOpenFrom c done []) (append-nil (steps_into roots)) (enters_open c done roots [] [] (λ over to. tt));
  there = λ g h. let (u, among, is) = map_in (λ i. step.Enter i) roots g h in subst (λ z. HasInterface c (id_of z)) (sym is) (all u among);
})

-- ---- one step
less_by_one : (a b : ℕ) → b ≡ 1 + a → a < b
less_by_one a b h = omega (arith, h)

less_skipped : (a b m l : ℕ) → b ≡ (m + m) + a → m ≡ l + 1 → a < b
less_skipped a b m l h e = omega (arith, h, e)

less_entered : (a b m l s r : ℕ) → a ≡ s + (1 + r) → s ≡ l + l → b ≡ (m + m) + r → m ≡ l + 1 → a < b
less_entered a b m l s r h i j e = omega (arith, h, i, j, e)

module _ (c : Collection) (wf : IsWellFormed c) (roots done done_now : List InterfaceId) (popped pending_now : List Step) where
  pub popped_there : (f : Step) → IsUseWalk c roots done (reverse (popped ++ f ∷ [])) → HasInterface c (id_of f)
  popped_there f w = w.there f (subst (λ l. Contains l f) (sym (reverse-append popped (f ∷ []))) (in_first f (reverse popped)))

  turned : (v : InterfaceId) → pending_now ≡ (popped ++ step.Leave v ∷ []) ++ reverse (steps_into (used_interfaces (interface_uses c v)))
      → reverse pending_now ≡ steps_into (used_interfaces (interface_uses c v)) ++ step.Leave v ∷ reverse popped
  turned v e =
      let inner = steps_into (used_interfaces (interface_uses c v)) in
      ap reverse e ∙ reverse-append (popped ++ step.Leave v ∷ []) (reverse inner) ∙ ap (λ l. l ++ reverse (popped ++ step.Leave v ∷ [])) (reverse-reverse inner)
      ∙ ap (λ l. inner ++ l) (reverse-append popped (step.Leave v ∷ []))

  pub stepped : (f : Step) → IsUseWalk c roots done (reverse (popped ++ f ∷ [])) → TakesUse c f done popped done_now pending_now → IsUseWalk c roots done_now (reverse pending_now)
  stepped (step.Leave v) w t =
      let first = subst (IsUseWalk c roots done) (reverse-append popped (step.Leave v ∷ [])) w in
      subst (λ l. IsUseWalk c roots l (reverse pending_now)) (sym t.0)
      (subst (λ l. IsUseWalk c roots (with_each done (v ∷ [])) (reverse l)) (sym t.1) (is_left c wf roots done (reverse popped) v first))
  stepped (step.Enter v) w t = by (is_among done v) refl
    where
      first : IsUseWalk c roots done (step.Enter v ∷ reverse popped)
      first = subst (IsUseWalk c roots done) (reverse-append popped (step.Enter v ∷ [])) w

      by : (b : Bool) → is_among done v ≡ b → IsUseWalk c roots done_now (reverse pending_now)
      by true e =
          subst (λ l. IsUseWalk c roots l (reverse pending_now)) (sym t.0)
          (subst (λ l. IsUseWalk c roots done (reverse l)) (sym (t.1 e)) (skipped c wf roots done (reverse popped) v first (among_in done v e)))
      by false e =
          subst (λ l. IsUseWalk c roots l (reverse pending_now)) (sym t.0)
          (subst (IsUseWalk c roots done) (sym (turned v (t.2 e))) (entered c wf roots done (reverse popped) v first))

  pub stepped_less : (f : Step) → IsUseWalk c roots done (reverse (popped ++ f ∷ [])) → TakesUse c f done popped done_now pending_now → weigh c (reverse pending_now) < weigh c (reverse (popped ++ f ∷ []))
  stepped_less (step.Leave v) w t =
      let whole = ap (weigh c) (reverse-append popped (step.Leave v ∷ [])) in
      less_by_one (weigh c (reverse pending_now)) (weigh c (reverse (popped ++ step.Leave v ∷ []))) (whole ∙ ap (λ l. 1 + weigh c (reverse l)) (sym t.1))
  stepped_less (step.Enter v) w t = by (is_among done v) refl
    where
      whole : weigh c (reverse (popped ++ step.Enter v ∷ [])) ≡ (length (reached c (v ∷ [])) + length (reached c (v ∷ []))) + weigh c (reverse popped)
      whole = ap (weigh c) (reverse-append popped (step.Enter v ∷ []))

      count : length (reached c (v ∷ [])) ≡ length (reached c (used_interfaces (interface_uses c v))) + 1
      count =
          ap length (unfolds c wf v (popped_there (step.Enter v) w)) ∙ length-append (reached c (used_interfaces (interface_uses c v))) (v ∷ [])

      by : (b : Bool) → is_among done v ≡ b → weigh c (reverse pending_now) < weigh c (reverse (popped ++ step.Enter v ∷ []))
      by true e =
          less_skipped (weigh c (reverse pending_now)) (weigh c (reverse (popped ++ step.Enter v ∷ []))) (length (reached c (v ∷ []))) (length (reached c (used_interfaces (interface_uses c v))))
          (whole ∙ ap (λ l. (length (reached c (v ∷ [])) + length (reached c (v ∷ []))) + weigh c (reverse l)) (sym (t.1 e))) count
      by false e =
          let inner = steps_into (used_interfaces (interface_uses c v)) in
          less_entered (weigh c (reverse pending_now)) (weigh c (reverse (popped ++ step.Enter v ∷ []))) (length (reached c (v ∷ []))) (length (reached c (used_interfaces (interface_uses c v)))) (weigh c inner) (weigh c (reverse popped))
          (ap (weigh c) (turned v (t.2 e)) ∙ weigh_joined c inner (step.Leave v ∷ reverse popped)) (weigh_enters c (used_interfaces (interface_uses c v))) whole count

-- ---- steps appended, the last first
pub turned_first : (none : List InterfaceId) (start : List Step) → none ≡ [] → start ≡ start ++ reverse (steps_into none)
turned_first none start e = sym (append-nil start) ∙ ap (λ l. start ++ reverse (steps_into l)) (sym e)

pub turned_next : (all was : List InterfaceId) (i : InterfaceId) (start before now : List Step) → all ≡ i ∷ was → before ≡ start ++ reverse (steps_into was) → now ≡ before ++ step.Enter i ∷ []
    → now ≡ start ++ reverse (steps_into all)
turned_next all was i start before now parts earlier is =
    let last : reverse (steps_into all) ≡ reverse (steps_into was) ++ step.Enter i ∷ [] = ap (λ l. reverse (steps_into l)) parts ∙ reverse-append (step.Enter i ∷ []) (steps_into was) in
    is ∙ ap (λ l. l ++ step.Enter i ∷ []) earlier ∙ append_assoc start (reverse (steps_into was)) (step.Enter i ∷ []) ∙ ap (λ l. start ++ l) (sym last)
