-- Uses that are kept one after another are the first of each name that can be, in order.
use Rattle.std.proofs.Common.{◌≡◌, ◌<◌, ◌⊎◌, inl, inr, ℕ, suc, Bool, true, false, not, cond, ◌&&◌, is_some, List, [], ◌∷◌, ◌++◌, fold, length, slice_get, Option, Some, None, refl, sym, ap, ◌∙◌, subst, arith}
use Rattle.std.proofs.lemmas.Bool.{and_parts, false≢true}
use Rattle.std.proofs.lemmas.Option.{slice_get_within}
use Rattle.wac_types_shapes.specs.primitives.Name.{Name, find_name, option_case}
use Rattle.wac_types_shapes.specs.declared.shapes.component.InterfaceId.{InterfaceId}
use Rattle.wac_types_shapes.specs.declared.shapes.component.UsedType.{UsedType}
use Rattle.wac_types_shapes.specs.declared.shapes.component.ItemKind.{ItemKind}
use Rattle.wac_types_shapes.proofs.lemmas.shapes.Names.{found_at}
use Rattle.wac_types_collection.specs.collection.Collection.{Collection}
use Rattle.wac_types_collection.specs.collection.Uses.{is_listed_as_used, is_there, is_used_by_id}
use Rattle.wac_types_collection.proofs.lemmas.collection.Growth.{get_grown, get_new, get_where}
use Rattle.wac_merge_classes.specs.entries.Classes.{Entry, NameRules}
use Rattle.wac_merge_classes.proofs.lemmas.terms.Found.{find_at, no_some, one_some, some_same}
use Rattle.wac_merge_unions.specs.uses.KeptUses.{AreKept, IsFirstKept, IsKept, IsLeftOut, imported_interface, lists_resource, of_interface}
use Rattle.wac_merge_unions.specs.uses.KeptUses.IsLeftOut.{not_before, hides, has_no_id, lists_none, differs}
use Rattle.wac_merge_unions.specs.uses.Using.{kept_use, kept_uses, may_use, with_use}

-- the first of a name that is kept
record IsFirst (f : Name × UsedType → Option UsedType) (us : List (Name × UsedType)) (k : ℕ) (n : Name) (v : UsedType) : Type 0 where
  use_there : UsedType
  at : slice_get us k ≡ Some (n, use_there)
  is : f (n, use_there) ≡ Some v
  first : (j : ℕ) (u : UsedType) → j < k → slice_get us j ≡ Some (n, u) → f (n, u) ≡ None

-- what is kept of uses so far
record Walked (f : Name × UsedType → Option UsedType) (us kept : List (Name × UsedType)) : Type 0 where
  sound : (p : ℕ) (n : Name) (v : UsedType) → slice_get kept p ≡ Some (n, v) → (k : ℕ) × IsFirst f us k n v
  complete : (k : ℕ) (n : Name) (v : UsedType) → IsFirst f us k n v → (p : ℕ) × (slice_get kept p ≡ Some (n, v))
  none : (n : Name) (j : ℕ) (u : UsedType) → find_name kept n ≡ None → slice_get us j ≡ Some (n, u) → f (n, u) ≡ None
  ordered : (p q k l : ℕ) (n o : Name) (v w : UsedType) → slice_get kept p ≡ Some (n, v) → slice_get kept q ≡ Some (o, w) → IsFirst f us k n v → IsFirst f us l o w → p < q → k < l

module _ (f : Name × UsedType → Option UsedType) (us : List (Name × UsedType)) (e : Name × UsedType) where
  grown : (k : ℕ) (n : Name) (v : UsedType) → IsFirst f us k n v → IsFirst f (us ++ e ∷ []) k n v
  grown k n v h = record {
    use_there = h.use_there;
    at = get_grown us e k (n, h.use_there) h.at;
    is = h.is;
    first = λ j u less there. elim (get_where us e j (n, u) there) [
      | inl at ↦ h.first j u less at
      | inr last ↦ absurd (let within = slice_get_within us k (n, h.use_there) h.at in let at : j ≡ length us = last.0 in omega (arith, less, within, at))
    ];
  }

  shrunk : (k : ℕ) (n : Name) (v : UsedType) → IsFirst f (us ++ e ∷ []) k n v → IsFirst f us k n v ⊎ ((k ≡ length us) × (e.0 ≡ n) × (f e ≡ Some v))
  shrunk k n v h = elim (get_where us e k (n, h.use_there) h.at) [
    | inl at ↦ inl (record { use_there = h.use_there; at = at; is = h.is; first = λ j u less there. h.first j u less (get_grown us e j (n, u) there) })
    | inr last ↦ inr (last.0, ap (λ x. x.0) last.1, ap f last.1 ∙ h.is)
  ]

  module _ (kept : List (Name × UsedType)) (so_far : Walked f us kept) where
    -- one more that is not kept
    not-new : ((k : ℕ) (n : Name) (v : UsedType) → IsFirst f (us ++ e ∷ []) k n v → k ≡ length us → e.0 ≡ n → f e ≡ Some v → ⊥) → (find_name kept e.0 ≡ None → f e ≡ None) → Walked f (us ++ e ∷ []) kept
    not-new never unkept = record {
      sound = λ p n v at. let w = so_far.sound p n v at in (w.0, grown w.0 n v w.1);
      complete = λ k n v h. so_far.complete k n v (old k n v h);
      none = λ n j u missing at. elim (get_where us e j (n, u) at) [
        | inl there ↦ so_far.none n j u missing there
        | inr last ↦ let same : e ≡ (n, u) = last.1 in ap f (sym same) ∙ unkept (ap (λ (x : Name × UsedType). find_name kept x.0) same ∙ missing)
      ];
      ordered = λ p q k l n o v w here there a b less. so_far.ordered p q k l n o v w here there (old k n v a) (old l o w b) less;
    } where
      old : (k : ℕ) (n : Name) (v : UsedType) → IsFirst f (us ++ e ∷ []) k n v → IsFirst f us k n v
      old k n v h = elim (shrunk k n v h) [
        | inl g ↦ g
        | inr last ↦ absurd (never k n v h last.0 last.1 last.2)
      ]

    -- the name is there already
    taken : (x : UsedType) → find_name kept e.0 ≡ Some x → Walked f (us ++ e ∷ []) kept
    taken x there = not-new never (λ missing. absurd (no_some x (sym missing ∙ there))) where
      never : (k : ℕ) (n : Name) (v : UsedType) → IsFirst f (us ++ e ∷ []) k n v → k ≡ length us → e.0 ≡ n → f e ≡ Some v → ⊥
      never k n v h end name is =
          let found = find_at kept e.0 x there in
          let w = so_far.sound found.0 e.0 x found.1 in
          let g = w.1 in
          let within = slice_get_within us w.0 (e.0, g.use_there) g.at in
          let less : w.0 < k = omega (arith, within, end) in
          let none : f (n, g.use_there) ≡ None = h.first w.0 g.use_there less (get_grown us e w.0 (n, g.use_there) (g.at ∙ ap (λ m. Some (m, g.use_there)) name)) in
          no_some x (sym none ∙ (ap (λ m. f (m, g.use_there)) (sym name) ∙ g.is))

    -- one more that is kept
    new : (w : UsedType) → f e ≡ Some w → find_name kept e.0 ≡ None → Walked f (us ++ e ∷ []) (kept ++ (e.0, w) ∷ [])
    new w is missing = record {
      sound = λ p n v at. elim (get_where kept (e.0, w) p (n, v) at) [
        | inl there ↦ let x = so_far.sound p n v there in (x.0, grown x.0 n v x.1)
        | inr end ↦ subst (λ (x : Name × UsedType). (k : ℕ) × IsFirst f (us ++ e ∷ []) k x.0 x.1) end.1 (length us, last)
      ];
      complete = λ k n v h. elim (shrunk k n v h) [
        | inl g ↦ let x = so_far.complete k n v g in (x.0, get_grown kept (e.0, w) x.0 (n, v) x.1)
        | inr end ↦
            let name : e.0 ≡ n = end.1 in
            let value : w ≡ v = one_some (f e) w v is end.2 in
            (length kept, get_new kept (e.0, w) ∙ (λ i. Some (name i, value i)))
      ];
      none = λ n j u no at. elim (get_where us e j (n, u) at) [
        | inl there ↦ so_far.none n j u (none-before n no) there
        | inr end ↦
            let name : e.0 ≡ n = ap (λ x. x.0) end.1 in
            absurd (found_at (kept ++ (e.0, w) ∷ []) (length kept) n w (get_new kept (e.0, w) ∙ ap (λ m. Some (m, w)) name) no)
      ];
      ordered = λ p q k l n o v x here there a b less. elim (get_where kept (e.0, w) p (n, v) here) [
        | inl at ↦ elim (get_where kept (e.0, w) q (o, x) there) [
          | inl at-q ↦ so_far.ordered p q k l n o v x at at-q (old p k n v at a) (old q l o x at-q b) less
          | inr end ↦
              let g = old p k n v at a in
              let within = slice_get_within us k (n, g.use_there) g.at in
              elim (shrunk l o x b) [
                | inl h ↦
                    let found = so_far.complete l o x h in
                    let name : e.0 ≡ o = ap (λ y. y.0) end.1 in
                    absurd (found_at kept found.0 o x found.1 (ap (find_name kept) (sym name) ∙ missing))
                | inr last ↦ let l-is : l ≡ length us = last.0 in omega (arith, within, l-is)
              ]
        ]
        | inr end ↦
            let p-is : p ≡ length kept = end.0 in
            let q-in : q < length (kept ++ (e.0, w) ∷ []) = slice_get_within (kept ++ (e.0, w) ∷ []) q (o, x) there in
            let one : length (kept ++ (e.0, w) ∷ []) ≡ suc (length kept) = longer kept (e.0, w) in
            absurd (omega (arith, less, p-is, q-in, one))
      ];
    } where
      longer : (xs : List (Name × UsedType)) (y : Name × UsedType) → length (xs ++ y ∷ []) ≡ suc (length xs)
      longer [] y = refl
      longer (x ∷ xs) y = ap suc (longer xs y)

      last : IsFirst f (us ++ e ∷ []) (length us) e.0 w
      last = record {
        use_there = e.1;
        at = get_new us e;
        is = is;
        first = λ j u less there. elim (get_where us e j (e.0, u) there) [
          | inl at ↦ so_far.none e.0 j u missing at
          | inr end ↦ absurd (let at : j ≡ length us = end.0 in omega (arith, less, at))
        ];
      }

      none-before : (n : Name) → find_name (kept ++ (e.0, w) ∷ []) n ≡ None → find_name kept n ≡ None
      none-before n missing-there = by (find_name kept n) refl where
        by : (o : Option UsedType) → find_name kept n ≡ o → find_name kept n ≡ None
        by None is = is
        by (Some x) is = let found = find_at kept n x is in absurd (found_at (kept ++ (e.0, w) ∷ []) found.0 n x (get_grown kept (e.0, w) found.0 (n, x) found.1) missing-there)

      -- what stood before is not the one more
      old : (p k : ℕ) (n : Name) (v : UsedType) → slice_get kept p ≡ Some (n, v) → IsFirst f (us ++ e ∷ []) k n v → IsFirst f us k n v
      old p k n v at h = elim (shrunk k n v h) [
        | inl g ↦ g
        | inr end ↦ let name : e.0 ≡ n = end.1 in absurd (found_at kept p n v at (ap (find_name kept) (sym name) ∙ missing))
      ]

    one-more : Walked f (us ++ e ∷ []) (with_use kept e.0 (f e))
    one-more = by (f e) refl where
      there : (w : UsedType) (o : Option UsedType) → f e ≡ Some w → find_name kept e.0 ≡ o → Walked f (us ++ e ∷ []) (cond (is_some o) kept (kept ++ (e.0, w) ∷ []))
      there w None is missing = new w is missing
      there w (Some x) is found = taken x found

      by : (o : Option UsedType) → f e ≡ o → Walked f (us ++ e ∷ []) (with_use kept e.0 o)
      by None is = not-new (λ k n v h last name kept-as. no_some v (sym is ∙ kept-as)) (λ missing. is)
      by (Some w) is = there w (find_name kept e.0) is refl

append-twice : {A : Type 0} (xs ys zs : List A) → (xs ++ ys) ++ zs ≡ xs ++ (ys ++ zs)
append-twice [] ys zs = refl
append-twice (x ∷ xs) ys zs = ap (λ l. x ∷ l) (append-twice xs ys zs)

append-none : {A : Type 0} (xs : List A) → xs ++ [] ≡ xs
append-none [] = refl
append-none (x ∷ xs) = ap (λ ys. x ∷ ys) (append-none xs)

walk : (f : Name × UsedType → Option UsedType) (us kept more : List (Name × UsedType)) → Walked f us kept → Walked f (us ++ more) (fold (λ kept e. with_use kept e.0 (f e)) kept more)
walk f us kept [] so_far = subst (λ l. Walked f l kept) (sym (append-none us)) so_far
walk f us kept (e ∷ more) so_far =
    let after = fold (λ kept e. with_use kept e.0 (f e)) (with_use kept e.0 (f e)) more in
    subst (λ l. Walked f l after) (append-twice us (e ∷ []) more) (walk f (us ++ e ∷ []) (with_use kept e.0 (f e)) more (one-more f us e kept so_far))

walked : (f : Name × UsedType → Option UsedType) (us : List (Name × UsedType)) → Walked f us (fold (λ kept e. with_use kept e.0 (f e)) [] us)
walked f us = walk f [] [] us (record {
  sound = λ p n v at. absurd (no_some (n, v) at);
  complete = λ k n v h. absurd (no_some (n, h.use_there) h.at);
  none = λ n j u missing at. absurd (no_some (n, u) at);
  ordered = λ p q k l n o v w here there a b less. absurd (no_some (n, v) here);
})

module _ (rules : NameRules) (c : Collection) (es : List Entry) (m : Collection) (imports : List Entry) (listed : List (Name × ItemKind)) where
  abbrev Kept : Name → UsedType → UsedType → Type 0
  Kept = IsKept rules c es m imports listed

  abbrev LeftOut : Name → UsedType → Type 0
  LeftOut = IsLeftOut rules c es m imports listed

  abbrev kept-as : Name × UsedType → Option UsedType
  kept-as = kept_use rules c es m imports listed

  abbrev as-used : Name → UsedType → Option InterfaceId → Option UsedType
  as-used n u o = option_case o None (λ i. cond (may_use m listed (n, of_interface i u)) (Some (of_interface i u)) None)

  may : (n : Name) (v : UsedType) → lists_resource m listed n ≡ false → is_used_by_id m v ≡ true → is_there m (n, v) ≡ true → is_listed_as_used m listed (n, v) ≡ true → may_use m listed (n, v) ≡ true
  may n v own id there alike = (λ i. not (own i) && (id i && (there i && alike i)))

  kept-some : (n : Name) (u v : UsedType) → Kept n u v → kept-as (n, u) ≡ Some v
  kept-some n u v h =
      let same : of_interface v.interface u ≡ v = (λ i. record { interface = v.interface; name = sym h.named i }) in
      ap (as-used n u) h.before ∙ (ap (λ x. cond (may_use m listed (n, x)) (Some x) None) same ∙ ap (λ b. cond b (Some v) None) (may n v h.own h.identified h.there h.alike))

  parts : (n : Name) (u : UsedType) (i : InterfaceId) → imported_interface rules c es imports u.interface ≡ Some i → (v : UsedType) → of_interface i u ≡ v → may_use m listed (n, of_interface i u) ≡ true → Kept n u v
  parts n u i at v same is =
      let used = of_interface i u in
      let first = and_parts (not (lists_resource m listed n)) (is_used_by_id m used && (is_there m (n, used) && is_listed_as_used m listed (n, used))) is in
      let second = and_parts (is_used_by_id m used) (is_there m (n, used) && is_listed_as_used m listed (n, used)) first.1 in
      let third = and_parts (is_there m (n, used)) (is_listed_as_used m listed (n, used)) second.1 in
      let here : Kept n u used = record { before = at; named = refl; own = no (lists_resource m listed n) first.0; identified = second.0; there = third.0; alike = third.1 } in
      subst (Kept n u) same here where
        no : (b : Bool) → not b ≡ true → b ≡ false
        no true h = absurd (false≢true h)
        no false h = refl

  some-kept : (n : Name) (u v : UsedType) → kept-as (n, u) ≡ Some v → Kept n u v
  some-kept n u v = by (imported_interface rules c es imports u.interface) refl where
    which : (i : InterfaceId) (b : Bool) → imported_interface rules c es imports u.interface ≡ Some i → may_use m listed (n, of_interface i u) ≡ b → cond b (Some (of_interface i u)) None ≡ Some v → Kept n u v
    which i true at is h = parts n u i at v (some_same (of_interface i u) v h) is
    which i false at is h = absurd (no_some v h)

    by : (o : Option InterfaceId) → imported_interface rules c es imports u.interface ≡ o → as-used n u o ≡ Some v → Kept n u v
    by None at h = absurd (no_some v h)
    by (Some i) at h = which i (may_use m listed (n, of_interface i u)) at refl h

  -- ---- what is left out

  module _ (n : Name) (u : UsedType) (i : InterfaceId) (at : imported_interface rules c es imports u.interface ≡ Some i) where
    why-not : (own : Bool) → lists_resource m listed n ≡ own → (id : Bool) → is_used_by_id m (of_interface i u) ≡ id → (there : Bool) → is_there m (n, of_interface i u) ≡ there
        → (alike : Bool) → is_listed_as_used m listed (n, of_interface i u) ≡ alike → (not own && (id && (there && alike))) ≡ false → LeftOut n u
    why-not true own id ids there theres alike alikes h = hides own
    why-not false own false ids there theres alike alikes h = has_no_id i at ids
    why-not false own true ids false theres alike alikes h = lists_none i at theres
    why-not false own true ids true theres false alikes h = differs i at theres alikes
    why-not false own true ids true theres true alikes h = absurd (false≢true (sym h))

    may-not : may_use m listed (n, of_interface i u) ≡ false → LeftOut n u
    may-not = why-not (lists_resource m listed n) refl (is_used_by_id m (of_interface i u)) refl (is_there m (n, of_interface i u)) refl (is_listed_as_used m listed (n, of_interface i u)) refl

  none-left : (n : Name) (u : UsedType) → kept-as (n, u) ≡ None → LeftOut n u
  none-left n u = by (imported_interface rules c es imports u.interface) refl where
    which : (i : InterfaceId) (b : Bool) → imported_interface rules c es imports u.interface ≡ Some i → may_use m listed (n, of_interface i u) ≡ b → cond b (Some (of_interface i u)) None ≡ None → LeftOut n u
    which i true at is h = absurd (no_some (of_interface i u) (sym h))
    which i false at is h = may-not n u i at is

    by : (o : Option InterfaceId) → imported_interface rules c es imports u.interface ≡ o → as-used n u o ≡ None → LeftOut n u
    by None at h = not_before at
    by (Some i) at h = which i (may_use m listed (n, of_interface i u)) at refl h

  -- where this is left out, no use of it is kept
  left-none : (n : Name) (u : UsedType) → LeftOut n u → kept-as (n, u) ≡ None
  left-none n u left = by (kept-as (n, u)) refl where
    by : (o : Option UsedType) → kept-as (n, u) ≡ o → kept-as (n, u) ≡ None
    by None is = is
    by (Some v) is = absurd (apart v (some-kept n u v is) left) where
      apart : (v : UsedType) → Kept n u v → LeftOut n u → ⊥
      apart v k (not_before at) = no_some v.interface (sym at ∙ k.before)
      apart v k (hides own) = false≢true (sym k.own ∙ own)
      apart v k (has_no_id i at is) = false≢true (sym is ∙ (ap (is_used_by_id m) (same i at k) ∙ k.identified)) where
        same : (i : InterfaceId) → imported_interface rules c es imports u.interface ≡ Some i → Kept n u v → of_interface i u ≡ v
        same i at k = let interface = one_some (imported_interface rules c es imports u.interface) i v.interface at k.before in (λ j. record { interface = interface j; name = sym k.named j })
      apart v k (lists_none i at is) = false≢true (sym is ∙ (ap (λ (x : UsedType). is_there m (n, x)) (same i at k) ∙ k.there)) where
        same : (i : InterfaceId) → imported_interface rules c es imports u.interface ≡ Some i → Kept n u v → of_interface i u ≡ v
        same i at k = let interface = one_some (imported_interface rules c es imports u.interface) i v.interface at k.before in (λ j. record { interface = interface j; name = sym k.named j })
      apart v k (differs i at there is) = false≢true (sym is ∙ (ap (λ (x : UsedType). is_listed_as_used m listed (n, x)) (same i at k) ∙ k.alike)) where
        same : (i : InterfaceId) → imported_interface rules c es imports u.interface ≡ Some i → Kept n u v → of_interface i u ≡ v
        same i at k = let interface = one_some (imported_interface rules c es imports u.interface) i v.interface at k.before in (λ j. record { interface = interface j; name = sym k.named j })

  module _ (us : List (Name × UsedType)) where
    to-first : (k : ℕ) (n : Name) (v : UsedType) → IsFirstKept rules c es m imports listed us k n v → IsFirst kept-as us k n v
    to-first k n v h = record { use_there = h.use_there; at = h.at; is = kept-some n h.use_there v h.kept; first = λ j u less at. left-none n u (h.first j u less at) }

    from-first : (k : ℕ) (n : Name) (v : UsedType) → IsFirst kept-as us k n v → IsFirstKept rules c es m imports listed us k n v
    from-first k n v h = record { use_there = h.use_there; at = h.at; kept = some-kept n h.use_there v h.is; first = λ j u less at. none-left n u (h.first j u less at) }

    -- what is kept one after another is the first of each name that can be, in order
    pub kept-first : AreKept rules c es m imports listed us (kept_uses rules c es m imports listed us)
    kept-first =
        let w = walked kept-as us in
        record {
          each = λ n v. (
            λ at. let x = w.sound at.0 n v at.1 in (x.0, from-first x.0 n v x.1),
            λ h. w.complete h.0 n v (to-first h.0 n v h.1),
          );
          ordered = λ p q k l n o v x here there a b less. w.ordered p q k l n o v x here there (to-first k n v a) (to-first l o x b) less;
        }
