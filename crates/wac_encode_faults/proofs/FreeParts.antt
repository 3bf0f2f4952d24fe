-- Free resources of types that are no interfaces.
use Rattle.std.proofs.Common.{ℕ, zero, suc, ◌+◌, ◌≤◌, Bool, true, false, ◌||◌, cond, eq-eqb, if◌then◌else◌, List, [], ◌∷◌, ◌++◌, length, take, Contains, Option, Some, None, ◌≡◌, ◌⊎◌, ◌↔◌, inl, inr, refl, ap, sym, ◌∙◌, subst, arith, slice_get}
use Rattle.std.specs.List.{list_any}
use Rattle.std.proofs.lemmas.Bool.{eqb-true}
use Rattle.std.proofs.lemmas.List.{take_all}
use Rattle.indexmap.specs.IndexSet.{insert_key}
use Rattle.wac_types_shapes.specs.primitives.Name.{option_case}
use Rattle.wac_types_shapes.specs.contracts.shapes.component.ResourceIdPartialEq.TheImpl as IdEq
use Rattle.wac_types_shapes.specs.declared.shapes.component.DefinedType.{DefinedType}
use Rattle.wac_types_shapes.specs.declared.shapes.component.FuncType.{FuncType}
use Rattle.wac_types_shapes.specs.declared.shapes.component.InterfaceId.{InterfaceId}
use Rattle.wac_types_shapes.specs.declared.shapes.component.ResourceId.{ResourceId}
use Rattle.wac_types_shapes.specs.declared.shapes.component.ValueType.{ValueType}
use Rattle.wac_types_shapes.specs.declared.shapes.component.ValueType.TheVariants as val
use Rattle.wac_types_shapes.specs.declared.shapes.component.«Type».{«Type» as AnyType}
use Rattle.wac_types_shapes.specs.declared.shapes.component.«Type».TheVariants as ty
use Rattle.wac_types_collection.specs.collection.Collection.{Collection, holds_type, item_at, value_types, func_mentions, defined_mentions}
use Rattle.wac_types_collection.specs.collection.Held.{resolved}
use Rattle.wac_types_collection.specs.reach.Reach.{IsIn}
use Rattle.wac_encode_faults.specs.Free.{parts, IsFree, in_part}
use Rattle.wac_encode_faults.specs.Free as free
use Rattle.wac_types_collection.specs.private.reach.Found.{with_all}
use Rattle.wac_types_collection.proofs.lemmas.reach.Lists.{all_new, all_only}
use Rattle.wac_encode_faults.specs.private.Sets.{IsFreeInOne}
use Rattle.wac_encode_faults.proofs.Taken.{none_taken, taken_next}
use Rattle.wac_encode_faults.specs.private.Near.{IsPart, first, onward, IsResolved, HasResolved}
use Rattle.wac_types_collection.proofs.lemmas.wide.Members.{in_none, in_first, in_rest, in_parts, in_one, in_left, in_right, in_either}

-- ---- a set of resources with one more
pub same_id : (r q : ResourceId) → (IdEq.ghosts).eq r q ≡ true → r ≡ q
same_id r q e = ap (λ n. record { 0 = n }) (eqb-true r.0 q.0 e)

pub any_in : (rs : List ResourceId) (r : ResourceId) → list_any ((IdEq.ghosts).eq r) rs ≡ true → Contains rs r
any_in [] r e = cc
any_in (q ∷ rs) r e = by ((IdEq.ghosts).eq r q) refl e (λ h. any_in rs r h)
  where
    by : (b : Bool) → (IdEq.ghosts).eq r q ≡ b → (b || list_any ((IdEq.ghosts).eq r) rs) ≡ true → (list_any ((IdEq.ghosts).eq r) rs ≡ true → Contains rs r) → Contains (q ∷ rs) r
    by true same _ _ = subst (λ z. Contains (z ∷ rs) r) (same_id r q same) (in_first r rs)
    by false _ h rest = in_rest q r rs (rest h)

pub inserted_law : (rs now : List ResourceId) (q : ResourceId) → now ≡ insert_key (IdEq.ghosts).eq rs q → (r : ResourceId) → Contains now r ↔ (Contains rs r ⊎ (r ≡ q))
inserted_law rs now q is r = by (list_any ((IdEq.ghosts).eq q) rs) refl is
  where
    by : (b : Bool) → list_any ((IdEq.ghosts).eq q) rs ≡ b → now ≡ (if b then rs else rs ++ q ∷ []) → Contains now r ↔ (Contains rs r ⊎ (r ≡ q))
    by true e same = (λ h. inl (subst (λ l. Contains l r) same h), λ h. subst (λ l. Contains l r) (sym same) (elim h [ inl w ↦ w | inr w ↦ subst (Contains rs) (sym w) (any_in rs q e) ]))
    by false e same = (
      λ h. elim (in_either rs (q ∷ []) r (subst (λ l. Contains l r) same h)) [ inl w ↦ inl w | inr w ↦ inr (in_one q r w) ],
      λ h. subst (λ l. Contains l r) (sym same) (elim h [ inl w ↦ in_left rs (q ∷ []) r w | inr w ↦ in_right rs (q ∷ []) r (subst (λ z. Contains (z ∷ []) r) w (in_first r [])) ]),
    )

pub one_resource : (a b : ResourceId) → ty.Resource a ≡ ty.Resource b → a ≡ b
one_resource a b e = cc

pub added_resource : (c : Collection) (rs now : List ResourceId) (t : AnyType) (q : ResourceId) → t ≡ ty.Resource q → now ≡ insert_key (IdEq.ghosts).eq rs (resolved c q) → (r : ResourceId)
    → Contains now r ↔ (Contains rs r ⊎ IsResolved c t r)
added_resource c rs now t q is grown r = (
  λ h. elim ((inserted_law rs now (resolved c q) grown r).0 h) [ inl w ↦ inl w | inr w ↦ inr (q, is, w) ],
  λ h. (inserted_law rs now (resolved c q) grown r).1 (elim h [ inl w ↦ inl w | inr w ↦ inr (w.2 ∙ ap (resolved c) (one_resource w.0 q (sym w.1 ∙ is))) ]),
)

pub added_nothing : (c : Collection) (rs : List ResourceId) (t : AnyType) → ((q : ResourceId) → t ≡ ty.Resource q → ⊥) → (r : ResourceId) → Contains rs r ↔ (Contains rs r ⊎ IsResolved c t r)
added_nothing c rs t other r = (λ h. inl h, λ h. elim h [ inl w ↦ w | inr w ↦ absurd (other w.0 w.1) ])

-- ---- those of several types
-- What is added of the first types.
abbrev pub AreAdded : Collection → List ResourceId → List AnyType → ℕ → List ResourceId → Type 0
AreAdded c old ts n now = (r : ResourceId) → Contains now r ↔ (Contains old r ⊎ HasResolved c (take n ts) r)

nothing_taken : (ts : List AnyType) (t : AnyType) → IsIn t (take 0 ts) → ⊥
nothing_taken [] t h = h
nothing_taken (u ∷ ts) t h = h

pub added_first : (c : Collection) (old : List ResourceId) (ts : List AnyType) → AreAdded c old ts 0 old
added_first c old ts r = (λ h. inl h, λ h. elim h [ inl w ↦ w | inr w ↦ let (t, there, which) = w in absurd (nothing_taken ts t there) ])

in_take_suc : (ts : List AnyType) (n : ℕ) (u t : AnyType) → slice_get ts n ≡ Some u → IsIn t (take (suc n) ts) ↔ (IsIn t (take n ts) ⊎ (t ≡ u))
in_take_suc [] n u t at = cc
in_take_suc (x ∷ ts) zero u t at = (
  λ h. elim h [ inl e ↦ inr (e ∙ same at) | inr n ↦ absurd (nothing_taken ts t n) ],
  λ h. elim h [ inl n ↦ absurd n | inr e ↦ inl (e ∙ sym (same at)) ],
)
  where
    same : Some x ≡ Some u → x ≡ u
    same e = cc
in_take_suc (x ∷ ts) (suc n) u t at =
    let rest = in_take_suc ts n u t at in (
      λ h. elim h [ inl e ↦ inl (inl e) | inr w ↦ elim (rest.0 w) [ inl k ↦ inl (inr k) | inr e ↦ inr e ] ],
      λ h. elim h [ inl w ↦ elim w [ inl e ↦ inl e | inr k ↦ inr (rest.1 (inl k)) ] | inr e ↦ inr (rest.1 (inr e)) ],
    )

in_take : (ts : List AnyType) (n : ℕ) (u t : AnyType) → slice_get ts n ≡ Some u → IsIn t (take (n + 1) ts) ↔ (IsIn t (take n ts) ⊎ (t ≡ u))
in_take ts n u t at =
    let more : suc n ≡ n + 1 = omega arith in
    subst (λ k. IsIn t (take k ts) ↔ (IsIn t (take n ts) ⊎ (t ≡ u))) more (in_take_suc ts n u t at)

pub added_next : (c : Collection) (old before now : List ResourceId) (ts : List AnyType) (n : ℕ) (u : AnyType) → slice_get ts n ≡ Some u → AreAdded c old ts n before
    → ((r : ResourceId) → Contains now r ↔ (Contains before r ⊎ IsResolved c u r)) → AreAdded c old ts (n + 1) now
added_next c old before now ts n u at was step r = (to, from)
  where
    to : Contains now r → Contains old r ⊎ HasResolved c (take (n + 1) ts) r
    to h = elim ((step r).0 h) [
      | inl w ↦ elim ((was r).0 w) [ inl k ↦ inl k | inr k ↦ let (s, there, which) = k in inr (s, (in_take ts n u s at).1 (inl there), which) ]
      | inr w ↦ inr (u, (in_take ts n u u at).1 (inr refl), w)
    ]

    from : Contains old r ⊎ HasResolved c (take (n + 1) ts) r → Contains now r
    from (inl w) = (step r).1 (inl ((was r).1 (inl w)))
    from (inr w) =
        let (s, there, which) = w in
        elim ((in_take ts n u s at).0 there) [
          | inl k ↦ (step r).1 (inl ((was r).1 (inr (s, k, which))))
          | inr e ↦ (step r).1 (inr (subst (λ z. IsResolved c z r) e which))
        ]

pub added_all : (c : Collection) (old now : List ResourceId) (ts : List AnyType) (n : ℕ) → length ts ≤ n → AreAdded c old ts n now → (r : ResourceId) → Contains now r ↔ (Contains old r ⊎ HasResolved c ts r)
added_all c old now ts n past added r = subst (λ l. Contains now r ↔ (Contains old r ⊎ HasResolved c l r)) (take_all n ts past) (added r)

-- ---- free resources
pub one_held : (c : Collection) (t : AnyType) (start : List AnyType) → start ≡ t ∷ [] → holds_type c t ≡ true → (u : AnyType) → IsIn u start → holds_type c u ≡ true
one_held c t start one held u h = elim (subst (IsIn u) one h) [ inl e ↦ subst (λ z. holds_type c z ≡ true) (sym e) held | inr n ↦ absurd n ]

is_contained : (ts : List AnyType) (t : AnyType) → IsIn t ts → Contains ts t
is_contained [] t h = absurd h
is_contained (u ∷ ts) t (inl e) = subst (λ z. Contains (z ∷ ts) t) e (in_first t ts)
is_contained (u ∷ ts) t (inr h) = in_rest u t ts (is_contained ts t h)

pub contained_is : (ts : List AnyType) (t : AnyType) → Contains ts t → IsIn t ts
contained_is [] t h = absurd (in_none t h)
contained_is (u ∷ ts) t h = elim (in_parts u t ts h) [ inl e ↦ inl e | inr w ↦ inr (contained_is ts t w) ]

NoInterface : AnyType → Type 0
NoInterface t = (i : InterfaceId) → t ≡ ty.Interface i → ⊥

value_no_interface : (vs : List ValueType) (t : AnyType) → IsIn t (value_types vs) → NoInterface t
unfolding NoInterface
value_no_interface [] t h = absurd h
value_no_interface (v ∷ vs) t (inl e) = λ i is. let wrong : ty.Value v ≡ ty.Interface i = sym e ∙ is in cc
value_no_interface (v ∷ vs) t (inr h) = value_no_interface vs t h

resource_no_interface : (q : ResourceId) (t : AnyType) → IsIn t (ty.Resource q ∷ []) → NoInterface t
unfolding NoInterface
resource_no_interface q t (inl e) = λ i is. let wrong : ty.Resource q ≡ ty.Interface i = sym e ∙ is in cc
resource_no_interface q t (inr n) = absurd n

part_no_interface : (c : Collection) (t u : AnyType) → IsIn u (parts c t) → NoInterface u
part_no_interface c (ty.Func f) u h = by (item_at c.funcs f.0) h
  where
    by : (o : Option FuncType) → IsIn u (option_case o [] func_mentions) → NoInterface u
    by None w = absurd w
    by (Some x) w = value_no_interface _ u w
part_no_interface c (ty.Value (val.Primitive p)) u h = absurd h
part_no_interface c (ty.Value (val.Own q)) u h = resource_no_interface q u h
part_no_interface c (ty.Value (val.Borrow q)) u h = resource_no_interface q u h
part_no_interface c (ty.Value (val.Defined d)) u h = by (item_at c.defined d.0) h
  where
    by : (o : Option DefinedType) → IsIn u (option_case o [] defined_mentions) → NoInterface u
    by None w = absurd w
    by (Some x) w = value_no_interface _ u w
part_no_interface c (ty.Interface i) u h = absurd h
part_no_interface c (ty.World w) u h = absurd h
part_no_interface c (ty.Resource r) u h = absurd h
part_no_interface c (ty.Module m) u h = absurd h

lifted : (c : Collection) (t u s : AnyType) → IsIn u (parts c t) → IsPart c (u ∷ []) s → IsPart c (t ∷ []) s
lifted c t u s h (first _ (inl e)) = subst (IsPart c (t ∷ [])) (sym e) (onward t u (first t (inl refl)) h)
lifted c t u s h (first _ (inr n)) = absurd n
lifted c t u s h (onward v _ p w) = onward v s (lifted c t u v h p) w

free_part : (c : Collection) (t s : AnyType) (r : ResourceId) → IsPart c (t ∷ []) s → IsFree c s r → IsFree c t r
free_part c t s r (first _ (inl e)) f = subst (λ z. IsFree c z r) e f
free_part c t s r (first _ (inr n)) f = absurd n
free_part c t s r (onward u _ p h) f = free_part c t u r p (in_part u s r (is_contained (parts c u) s h) f)

-- The type is made of a resource with this end.
IsMadeOf : Collection → AnyType → ResourceId → Type 0
IsMadeOf c t r = (q : ResourceId) × IsPart c (t ∷ []) (ty.Resource q) × (r ≡ resolved c q)

made_of : (c : Collection) (t : AnyType) (r : ResourceId) → NoInterface t → IsFree c t r → IsMadeOf c t r
unfolding IsMadeOf NoInterface
made_of c _ _ other (free.itself q) = (q, first (ty.Resource q) (inl refl), refl)
made_of c t r other (free.in_part _ u _ h f) =
    let here = contained_is (parts c t) u h in
    let w = made_of c u r (part_no_interface c t u here) f in
    (w.0, lifted c t u (ty.Resource w.0) here w.1, w.2)
made_of c _ r other (free.in_export i it n k _ at h own f) = absurd (other i refl)

of_made : (c : Collection) (t : AnyType) (r : ResourceId) → IsMadeOf c t r → IsFree c t r
unfolding IsMadeOf
of_made c t r w = free_part c t (ty.Resource w.0) r w.1 (subst (IsFree c (ty.Resource w.0)) (sym w.2) (free.itself w.0))

pub free_law : (c : Collection) (t : AnyType) (old now : List ResourceId) (start found slice : List AnyType) → ((i : InterfaceId) → t ≡ ty.Interface i → ⊥) → start ≡ t ∷ [] → slice ≡ found
    → ((s : AnyType) → IsIn s found ↔ IsPart c start s) → ((r : ResourceId) → Contains now r ↔ (Contains old r ⊎ HasResolved c slice r)) → (r : ResourceId) → Contains now r ↔ (Contains old r ⊎ IsFree c t r)
unfolding IsMadeOf NoInterface
free_law c t old now start found slice other one same all added r = (to, from)
  where
    to : Contains now r → Contains old r ⊎ IsFree c t r
    to h = elim ((added r).0 h) [ inl w ↦ inl w | inr w ↦ inr (made w) ]
      where
        made : HasResolved c slice r → IsFree c t r
        made w =
            let (s, there, which) = w in
            let (q, is, end) = which in
            of_made c t r (q, subst (λ l. IsPart c l (ty.Resource q)) one ((all (ty.Resource q)).0 (subst (IsIn (ty.Resource q)) same (subst (λ z. IsIn z slice) is there))), end)

    from : Contains old r ⊎ IsFree c t r → Contains now r
    from (inl w) = (added r).1 (inl w)
    from (inr w) =
        let m = made_of c t r other w in
        (added r).1 (inr (ty.Resource m.0, subst (IsIn (ty.Resource m.0)) (sym same) ((all (ty.Resource m.0)).1 (subst (λ l. IsPart c l (ty.Resource m.0)) (sym one) m.1)), (m.0, refl, m.2)))

-- what holds of the end of each resource among the parts of a type holds of its free resources
pub free_among : (c : Collection) (ts : List AnyType) (P : ResourceId → Type 0) → ((t u : AnyType) → IsIn t ts → IsIn u (parts c t) → IsIn u ts) → ((q : ResourceId) → IsIn (ty.Resource q) ts → P (resolved c q))
    → (t : AnyType) (r : ResourceId) → ((i : InterfaceId) → t ≡ ty.Interface i → ⊥) → IsIn t ts → IsFree c t r → P r
unfolding NoInterface
free_among c ts P closed each _ _ other there (free.itself q) = each q there
free_among c ts P closed each t r other there (free.in_part _ u _ h f) =
    let here = contained_is (parts c t) u h in
    free_among c ts P closed each u r (part_no_interface c t u here) (closed t u there here) f
free_among c ts P closed each _ r other there (free.in_export i it n k _ at h own f) = absurd (other i refl)

-- ---- free resources of several types
part_root : (c : Collection) (ts : List AnyType) (t : AnyType) → IsPart c ts t → (s : AnyType) × IsIn s ts × IsPart c (s ∷ []) t
part_root c ts t (first _ h) = (t, h, first t (inl refl))
part_root c ts t (onward u _ p h) = let (s, here, r) = part_root c ts u p in (s, here, onward u t r h)

part_of : (c : Collection) (ts : List AnyType) (s t : AnyType) → IsIn s ts → IsPart c (s ∷ []) t → IsPart c ts t
part_of c ts s t here (first _ (inl e)) = first t (subst (λ z. IsIn z ts) (sym e) here)
part_of c ts s t here (first _ (inr n)) = absurd n
part_of c ts s t here (onward u _ p h) = onward u t (part_of c ts s u here p) h

pub frees_law : (c : Collection) (ts : List AnyType) (old now : List ResourceId) (start found slice : List AnyType) → ((t : AnyType) → IsIn t ts → (i : InterfaceId) → t ≡ ty.Interface i → ⊥) → start ≡ with_all [] ts → slice ≡ found
    → ((s : AnyType) → IsIn s found ↔ IsPart c start s) → ((r : ResourceId) → Contains now r ↔ (Contains old r ⊎ HasResolved c slice r)) → (r : ResourceId) → Contains now r ↔ (Contains old r ⊎ IsFreeInOne c ts r)
unfolding IsMadeOf NoInterface
frees_law c ts old now start found slice other begun same all added r = (to, from)
  where
    in_start : (s : AnyType) → IsIn s start → IsIn s ts
    in_start s h = elim (all_only [] ts s (subst (IsIn s) begun h)) [ inl n ↦ absurd n | inr w ↦ w ]

    made : HasResolved c slice r → IsFreeInOne c ts r
    made w =
        let (t, there, which) = w in
        let (q, is, end) = which in
        let (s, here, part) = part_root c start (ty.Resource q) ((all (ty.Resource q)).0 (subst (IsIn (ty.Resource q)) same (subst (λ z. IsIn z slice) is there))) in
        (s, in_start s here, of_made c s r (q, part, end))

    to : Contains now r → Contains old r ⊎ IsFreeInOne c ts r
    to h = elim ((added r).0 h) [ inl w ↦ inl w | inr w ↦ inr (made w) ]

    from : Contains old r ⊎ IsFreeInOne c ts r → Contains now r
    from (inl w) = (added r).1 (inl w)
    from (inr w) =
        let (t, here, free) = w in
        let m = made_of c t r (other t here) free in
        let begins = subst (IsIn t) (sym begun) (all_new [] ts t here) in
        (added r).1 (inr (ty.Resource m.0, subst (IsIn (ty.Resource m.0)) (sym same) ((all (ty.Resource m.0)).1 (part_of c start t (ty.Resource m.0) begins m.1)), (m.0, refl, m.2)))

-- ---- sets of resources
pub resource_itself : (r : ResourceId) → (IdEq.ghosts).eq r r ≡ true
resource_itself r = eq-eqb r.0 r.0 refl

pub in_any : (rs : List ResourceId) (r : ResourceId) → Contains rs r → list_any ((IdEq.ghosts).eq r) rs ≡ true
in_any [] r h = absurd (in_none r h)
in_any (q ∷ rs) r h = elim (in_parts q r rs h) [
  | inl e ↦ ap (λ b. b || list_any ((IdEq.ghosts).eq r) rs) (subst (λ (z : ResourceId). (IdEq.ghosts).eq r z ≡ true) e (resource_itself r))
  | inr w ↦ by ((IdEq.ghosts).eq r q) (in_any rs r w)
]
  where
    by : (b : Bool) → list_any ((IdEq.ghosts).eq r) rs ≡ true → (b || list_any ((IdEq.ghosts).eq r) rs) ≡ true
    by true _ = refl
    by false k = k

removed_law : (rs now : List ResourceId) (q : ResourceId)
    → ((r : ResourceId) → list_any ((IdEq.ghosts).eq r) now ≡ cond ((IdEq.ghosts).eq q r) false (list_any ((IdEq.ghosts).eq r) rs)) → (r : ResourceId) → Contains now r ↔ (Contains rs r × (q ≡ r → ⊥))
removed_law rs now q all r = (λ h. to ((IdEq.ghosts).eq q r) refl h, λ h. from ((IdEq.ghosts).eq q r) refl h)
  where
    here : (b : Bool) → (IdEq.ghosts).eq q r ≡ b → list_any ((IdEq.ghosts).eq r) now ≡ cond b false (list_any ((IdEq.ghosts).eq r) rs)
    here b e = all r ∙ ap (λ a. cond a false (list_any ((IdEq.ghosts).eq r) rs)) e

    to : (b : Bool) → (IdEq.ghosts).eq q r ≡ b → Contains now r → Contains rs r × (q ≡ r → ⊥)
    to true e h = let wrong : true ≡ false = sym (in_any now r h) ∙ here true e in cc
    to false e h = (any_in rs r (sym (here false e) ∙ in_any now r h), λ same. let wrong : true ≡ false = sym (subst (λ (z : ResourceId). (IdEq.ghosts).eq q z ≡ true) same (resource_itself q)) ∙ e in cc)

    from : (b : Bool) → (IdEq.ghosts).eq q r ≡ b → Contains rs r × (q ≡ r → ⊥) → Contains now r
    from true e (h, other) = absurd (other (same_id q r e))
    from false e (h, other) = any_in now r (here false e ∙ in_any rs r h)

-- without a resource, if there is one
pub removed_one : (rs now : List ResourceId) (o : Option ResourceId) (q : ResourceId) → o ≡ Some q
    → ((r : ResourceId) → list_any ((IdEq.ghosts).eq r) now ≡ cond ((IdEq.ghosts).eq q r) false (list_any ((IdEq.ghosts).eq r) rs)) → (r : ResourceId) → Contains now r ↔ (Contains rs r × (o ≡ Some r → ⊥))
removed_one rs now o q is all r =
    let law = removed_law rs now q all r in (
      λ h. let w = law.0 h in (w.0, λ e. w.1 (same (sym is ∙ e))),
      λ h. law.1 (h.0, λ e. h.1 (is ∙ ap Some e)),
    )
  where
    same : Some q ≡ Some r → q ≡ r
    same e = cc

-- ---- with those of another
-- What is there with the first resources added.
abbrev pub AreJoined : List ResourceId → List ResourceId → ℕ → List ResourceId → Type 0
AreJoined old rs n now = (r : ResourceId) → Contains now r ↔ (Contains old r ⊎ Contains (take n rs) r)

pub joined_first : (old rs : List ResourceId) → AreJoined old rs 0 old
joined_first old rs r = (λ h. inl h, λ h. elim h [ inl w ↦ w | inr n ↦ absurd (none_taken rs r n) ])

pub joined_next : (old before now rs : List ResourceId) (n : ℕ) (q : ResourceId) → slice_get rs n ≡ Some q → AreJoined old rs n before → now ≡ insert_key (IdEq.ghosts).eq before q → AreJoined old rs (n + 1) now
joined_next old before now rs n q at was is r =
    let step = inserted_law before now q is r in
    let next = taken_next rs n q r at in (
      λ h. elim (step.0 h) [
        | inl w ↦ elim ((was r).0 w) [ inl k ↦ inl k | inr k ↦ inr (next.1 (inl k)) ]
        | inr e ↦ inr (next.1 (inr e))
      ],
      λ h. elim h [
        | inl w ↦ step.1 (inl ((was r).1 (inl w)))
        | inr w ↦ elim (next.0 w) [ inl k ↦ step.1 (inl ((was r).1 (inr k))) | inr e ↦ step.1 (inr e) ]
      ],
    )

pub joined_all : (old now rs : List ResourceId) (n : ℕ) → length rs ≤ n → AreJoined old rs n now → (r : ResourceId) → Contains now r ↔ (Contains old r ⊎ Contains rs r)
joined_all old now rs n past all r = subst (λ l. Contains now r ↔ (Contains old r ⊎ Contains l r)) (take_all n rs past) (all r)

-- either of two may be the one that is added to
pub joined_turned : (old set mid slice now : List ResourceId) → mid ≡ set → slice ≡ old → ((r : ResourceId) → Contains now r ↔ (Contains mid r ⊎ Contains slice r)) → (r : ResourceId) → Contains now r ↔ (Contains old r ⊎ Contains set r)
joined_turned old set mid slice now is was added r = (
  λ h. elim ((added r).0 h) [ inl w ↦ inr (subst (λ l. Contains l r) is w) | inr w ↦ inl (subst (λ l. Contains l r) was w) ],
  λ h. (added r).1 (elim h [ inl w ↦ inr (subst (λ l. Contains l r) (sym was) w) | inr w ↦ inl (subst (λ l. Contains l r) (sym is) w) ]),
)

pub joined_same : (old set slice now : List ResourceId) → slice ≡ set → ((r : ResourceId) → Contains now r ↔ (Contains old r ⊎ Contains slice r)) → (r : ResourceId) → Contains now r ↔ (Contains old r ⊎ Contains set r)
joined_same old set slice now is added r = subst (λ l. Contains now r ↔ (Contains old r ⊎ Contains l r)) is (added r)
