-- New resources, as they are added one by one.
use Rattle.std.proofs.Common.{◌≡◌, ◌≢◌, ◌↔◌, ℕ, zero, suc, ◌+◌, ◌<◌, ◌≤◌, nat_eq, Bool, true, false, cond, List, [], ◌∷◌, ◌++◌, length, Option, Some, None, IsSome, is_some, refl, sym, ap, ◌∙◌, subst, inl, inr, ◌⊎◌, arith}
use Rattle.std.specs.Prelude.{slice_get}
use Rattle.std.proofs.Math.ListN.{set}
use Rattle.std.proofs.lemmas.Bool.{cases_Bool, eq-eqb, eqb-true, false≢true}
use Rattle.std.proofs.lemmas.List.{length-append}
use Rattle.std.proofs.lemmas.Option.{slice_get_within}
use Rattle.wac_types_shapes.specs.primitives.Name.{Name, same_name, find_name, option_case, first_some}
use Rattle.wac_types_collection.specs.collection.Collection.{Collection, IsWellFormed, size, with_resource}
use Rattle.wac_types_collection.specs.collection.Held.{resolved_in, source_of}
use Rattle.wac_types_collection.specs.subtyping.Called.{resource_name}
use Rattle.wac_types_collection.specs.subtyping.Subtype.{held_name}
use Rattle.wac_types_shapes.specs.declared.shapes.component.Resource.{Resource}
use Rattle.wac_types_shapes.specs.declared.shapes.component.ResourceId.{ResourceId}
use Rattle.wac_types_shapes.proofs.lemmas.shapes.Names.{same_name-from, same_name-true}
use Rattle.wac_merge_classes.specs.entries.Bindings.{ClassBindings, first_in}
use Rattle.wac_merge_classes.specs.terms.Became.{AreFresh, IsNew}
use Rattle.wac_merge_resources.specs.private.renaming.FreshSteps.{AreAllOwn, AreOwn, AreWhole, IsOwn, IsWhole, StayWhole, own_under, whole_under}
use Rattle.wac_types_collection.specs.private.subtyping.Extended.{IsExtended}
use Rattle.wac_merge_classes.specs.declared.terms.fresh.Fresh.{Fresh}
use Rattle.wac_merge_classes.specs.declared.terms.parts.Export.{Export}
use Rattle.wac_merge_classes.specs.declared.terms.parts.Union.{Union}
use Rattle.wac_merge_tables.proofs.lemmas.made.Extending.{Keeps, kept_low}
use Rattle.wac_merge_resources.proofs.lemmas.renaming.StillRenamed.{still_new}
use Rattle.wac_merge_classes.proofs.lemmas.entries.Lists.{at-end, at-push, push-cases, set-cases, some-at}

some-same : {A : Type 0} (x y : A) → Some x ≡ Some y → x ≡ y
some-same x y e = cc

pub is-some : {A : Type 0} (o : Option A) (x : A) → o ≡ Some x → IsSome o
is-some o x e = ap is_some e

pub some-of : {A : Type 0} (o : Option A) → IsSome o → (x : A) × (o ≡ Some x)
some-of None h = absurd (false≢true h)
some-of (Some x) h = (x, refl)

-- ---- one new resource

itself-in : (m : Collection) (n : ℕ) (q : ResourceId) → source_of (slice_get m.resources q.0) ≡ None → resolved_in n m q ≡ q
itself-in m zero q none = refl
itself-in m (suc n) q none = ap (λ o. option_case o q (λ s. resolved_in n m s)) none

pub new-added : (c m : Collection) (x : Resource) (q : ResourceId) → x.alias ≡ None → q.0 ≡ length c.resources → m ≡ with_resource c x → IsNew c m q x.name
new-added c m x q plain at is = subst (λ (d : Collection). IsNew c d q x.name) (sym is) (record {
  added = omega (arith, at);
  there = slice_get_within (with_resource c x).resources q.0 (record { item = x; before = size c }) there;
  itself = itself-in (with_resource c x) (length (with_resource c x).resources) q (ap source_of there ∙ ap (λ a. option_case a None (λ s. Some s.source)) plain);
  named = ap held_name there;
})
  where
    there : slice_get (c.resources ++ record { item = x; before = size c } ∷ []) q.0 ≡ Some (record { item = x; before = size c })
    there = ap (slice_get (c.resources ++ record { item = x; before = size c } ∷ [])) at ∙ at-end c.resources (record { item = x; before = size c })

longer : {A : Type 0} (xs ys : List A) → Keeps xs ys → length xs ≤ length ys
longer xs ys k = by (length xs) refl where
  by : (n : ℕ) → length xs ≡ n → n ≤ length ys
  by zero e = omega arith
  by (suc n) e = let h = kept_low xs ys k n (omega (arith, e)) in omega (arith, h)

-- what is new behind a collection is new behind one that it begins with
pub new-since : (a b m : Collection) (q : ResourceId) (n : Name) → IsExtended a b → IsNew b m q n → IsNew a m q n
new-since a b m q n x new =
    let le = longer a.resources b.resources x.kept.resources in
    let low = new.added in
    record { added = omega (arith, le, low); there = new.there; itself = new.itself; named = new.named }

-- what is new behind a collection is not what was there
pub not-before : (m more : Collection) (q : ResourceId) (n : Name) → q.0 < length m.resources → IsNew m more q n → ⊥
not-before m more q n low new = let high = new.added in omega (arith, low, high)

-- ---- one more under a name

pub find-push : {V : Type 0} (es : List (Name × V)) (n m : Name) (v : V) → find_name (es ++ (n, v) ∷ []) m ≡ first_some (find_name es m) (cond (same_name m n) (Some v) None)
find-push [] n m v = refl
find-push (e ∷ es) n m v = by (same_name m e.0) (find-push es n m v) where
  by : (b : Bool) → find_name (es ++ (n, v) ∷ []) m ≡ first_some (find_name es m) (cond (same_name m n) (Some v) None)
      → cond b (Some e.1) (find_name (es ++ (n, v) ∷ []) m) ≡ first_some (cond b (Some e.1) (find_name es m)) (cond (same_name m n) (Some v) None)
  by true h = refl
  by false h = h

pub find-kept : {V : Type 0} (es : List (Name × V)) (n m : Name) (v w : V) → find_name es m ≡ Some w → find_name (es ++ (n, v) ∷ []) m ≡ Some w
find-kept es n m v w h = find-push es n m v ∙ ap (λ o. first_some o (cond (same_name m n) (Some v) None)) h

pub find-cases : {V : Type 0} (es : List (Name × V)) (n m : Name) (v w : V) → find_name (es ++ (n, v) ∷ []) m ≡ Some w → (find_name es m ≡ Some w) ⊎ ((find_name es m ≡ None) × (m ≡ n) × (w ≡ v))
find-cases es n m v w h = by (find_name es m) refl (same_name m n) refl where
  by : (o : Option _) → find_name es m ≡ o → (b : Bool) → same_name m n ≡ b → (find_name es m ≡ Some w) ⊎ ((find_name es m ≡ None) × (m ≡ n) × (w ≡ v))
  by (Some x) e b t = let same : Some x ≡ Some w = sym (find-kept es n m v x e) ∙ h in inl (e ∙ same)
  by None e true t =
      let same : Some v ≡ Some w = sym (find-push es n m v ∙ ap (λ o. first_some o (cond (same_name m n) (Some v) None)) e ∙ ap (λ b. cond b (Some v) None) t) ∙ h in
      inr (e, same_name-true m n t, sym (some-same v w same))
  by None e false t =
      let same : None ≡ Some w = sym (find-push es n m v ∙ ap (λ o. first_some o (cond (same_name m n) (Some v) None)) e ∙ ap (λ b. cond b (Some v) None) t) ∙ h in
      cc

pub find-end : {V : Type 0} (es : List (Name × V)) (n m : Name) (v : V) → m ≡ n → IsSome (find_name (es ++ (n, v) ∷ []) m)
find-end es n m v same = by (find_name es m) refl where
  by : (o : Option _) → find_name es m ≡ o → IsSome (find_name (es ++ (n, v) ∷ []) m)
  by (Some x) e = is-some (find_name (es ++ (n, v) ∷ []) m) x (find-kept es n m v x e)
  by None e =
      is-some (find_name (es ++ (n, v) ∷ []) m) v
      (find-push es n m v ∙ ap (λ o. first_some o (cond (same_name m n) (Some v) None)) e ∙ ap (λ b. cond b (Some v) None) (same_name-from m n same))

-- ---- own resources of one union

pub own-none : (a m : Collection) → AreOwn a [] [] m
own-none a m = record {
  listed = λ n. ((λ h. absurd (false≢true h)), (λ h. absurd (no h.0 h.1)));
  new = λ n q e. cc;
  once = λ n o q e f. cc;
}
  where
    no : (x : Export) → None ≡ Some x → ⊥
    no x e = cc

module _ (a m : Collection) (es : List (Name × Export)) (own : List (Name × ResourceId)) (n : Name) (e : Export) (were : AreOwn a es own m) where
  -- one that is no own resource
  pub own-left : e.is_own ≡ false → AreOwn a (es ++ (n, e) ∷ []) own m
  own-left not = record {
    listed = λ k. ((λ h. let w = (were.listed k).0 h in (w.0, find-kept es n k e w.0 w.1, w.2)), (λ h. back k h.0 h.1 h.2));
    new = were.new;
    once = were.once;
  }
    where
      back : (k : Name) (x : Export) → find_name (es ++ (n, e) ∷ []) k ≡ Some x → x.is_own ≡ true → IsSome (find_name own k)
      back k x at is = elim (find-cases es n k e x at) [
        | inl old ↦ (were.listed k).1 (x, old, is)
        | inr new ↦ absurd (false≢true (sym not ∙ (ap (λ (y : Export). y.is_own) (sym new.2) ∙ is)))
      ]

  -- one that is
  pub own-put : (more : Collection) → IsExtended a m → IsExtended m more → IsWellFormed m → find_name es n ≡ None → (q : ResourceId) → e.is_own ≡ true → IsNew m more q n → AreOwn a (es ++ (n, e) ∷ []) (own ++ (n, q) ∷ []) more
  own-put more before x wf free q is new = record {
    listed = λ k. ((λ h. let w = some-of (find_name (own ++ (n, q) ∷ []) k) h in to k w.0 w.1), (λ h. back k h.0 h.1 h.2));
    new = λ k r at. elim (find-cases own n k q r at) [
      | inl old ↦ still_new m more x wf a r k (were.new k r old)
      | inr w ↦ subst (λ (y : Name). IsNew a more r y) (sym w.1) (subst (λ (y : ResourceId). IsNew a more y n) (sym w.2) (new-since a m more q n before new))
    ];
    once = λ k o r at also. both k o r (find-cases own n k q r at) (find-cases own n o q r also);
  }
    where
      to : (k : Name) (r : ResourceId) → find_name (own ++ (n, q) ∷ []) k ≡ Some r → IsOwn (es ++ (n, e) ∷ []) k
      to k r at = elim (find-cases own n k q r at) [
        | inl old ↦ let w = (were.listed k).0 (is-some (find_name own k) r old) in (w.0, find-kept es n k e w.0 w.1, w.2)
        | inr w ↦ (
          e,
          find-push es n k e ∙ ap (λ o. first_some o (cond (same_name k n) (Some e) None)) (ap (find_name es) w.1 ∙ free) ∙ ap (λ b. cond b (Some e) None) (same_name-from k n w.1),
          is,
        )
      ]

      back : (k : Name) (x : Export) → find_name (es ++ (n, e) ∷ []) k ≡ Some x → x.is_own ≡ true → IsSome (find_name (own ++ (n, q) ∷ []) k)
      back k x at own_is = elim (find-cases es n k e x at) [
        | inl old ↦ let w = some-of (find_name own k) ((were.listed k).1 (x, old, own_is)) in is-some (find_name (own ++ (n, q) ∷ []) k) w.0 (find-kept own n k q w.0 w.1)
        | inr new ↦ find-end own n k q new.1
      ]

      both : (k o : Name) (r : ResourceId) → (find_name own k ≡ Some r) ⊎ ((find_name own k ≡ None) × (k ≡ n) × (r ≡ q)) → (find_name own o ≡ Some r) ⊎ ((find_name own o ≡ None) × (o ≡ n) × (r ≡ q)) → k ≡ o
      both k o r (inl x) (inl y) = were.once k o r x y
      both k o r (inl x) (inr y) = absurd (not-before m more q n (subst (λ (z : ResourceId). z.0 < length m.resources) y.2 (were.new k r x).there) new)
      both k o r (inr x) (inl y) = absurd (not-before m more q n (subst (λ (z : ResourceId). z.0 < length m.resources) x.2 (were.new o r y).there) new)
      both k o r (inr x) (inr y) = x.1 ∙ sym y.1

-- ---- those of all unions

own-cases : (os : List (List (Name × ResourceId))) (o : List (Name × ResourceId)) (u : ℕ) (n : Name) (q : ResourceId) → own_under (os ++ o ∷ []) u n ≡ Some q → (own_under os u n ≡ Some q) ⊎ ((u ≡ length os) × (find_name o n ≡ Some q))
own-cases os o u n q at = by (slice_get (os ++ o ∷ []) u) refl at where
  by : (x : Option (List (Name × ResourceId))) → slice_get (os ++ o ∷ []) u ≡ x → option_case x None (λ m. find_name m n) ≡ Some q → (own_under os u n ≡ Some q) ⊎ ((u ≡ length os) × (find_name o n ≡ Some q))
  by None e h = cc
  by (Some m) e h = elim (push-cases os o u m e) [
    | inl old ↦ inl (ap (λ y. option_case y None (λ z. find_name z n)) old ∙ h)
    | inr new ↦ inr (new.0, ap (λ (z : List (Name × ResourceId)). find_name z n) (sym new.1) ∙ h)
  ]

pub all-none : (a m : Collection) → AreAllOwn a [] [] m
all-none a m = record {
  counted = refl;
  listed = λ u x n at. cc;
  new = λ u n q e. cc;
  once = λ u v n o q e f. cc;
}

module _ (a m more : Collection) (us : List Union) (os : List (List (Name × ResourceId))) (x : Union) (own : List (Name × ResourceId)) (before : IsExtended a m) (grown : IsExtended m more) (wf : IsWellFormed m)
    (were : AreAllOwn a us os m) (are : AreOwn m x.exports own more) where
  pub all-more : AreAllOwn a (us ++ x ∷ []) (os ++ own ∷ []) more
  all-more = record {
    counted = length-append os (own ∷ []) ∙ ap (λ k. k + 1) were.counted ∙ sym (length-append us (x ∷ []));
    listed = λ u y n at. elim (push-cases us x u y at) [
      | inl old ↦ subst (λ (o : Option ResourceId). IsSome o ↔ IsOwn y.exports n) (sym (old-under u n (slice_get_within us u y old))) (were.listed u y n old)
      | inr w ↦
          subst (λ (z : Union). IsSome (own_under (os ++ own ∷ []) u n) ↔ IsOwn z.exports n) (sym w.1)
          (subst (λ (o : Option ResourceId). IsSome o ↔ IsOwn x.exports n) (sym (ap (λ y. option_case y None (λ z. find_name z n)) (ap (slice_get (os ++ own ∷ [])) (w.0 ∙ sym were.counted) ∙ at-end os own))) (are.listed n))
    ];
    new = λ u n q at. elim (own-cases os own u n q at) [
      | inl old ↦ still_new m more grown wf a q n (were.new u n q old)
      | inr w ↦ new-since a m more q n before (are.new n q w.1)
    ];
    once = λ u v n o q at also. both u v n o q (own-cases os own u n q at) (own-cases os own v o q also);
  }
    where
      old-under : (u : ℕ) (n : Name) → u < length us → own_under (os ++ own ∷ []) u n ≡ own_under os u n
      old-under u n low = let w = some-at os u (let c = were.counted in omega (arith, low, c)) in ap (λ y. option_case y None (λ z. find_name z n)) (at-push os own u w.0 w.1 ∙ sym w.1)

      both : (u v : ℕ) (n o : Name) (q : ResourceId) → (own_under os u n ≡ Some q) ⊎ ((u ≡ length os) × (find_name own n ≡ Some q)) → (own_under os v o ≡ Some q) ⊎ ((v ≡ length os) × (find_name own o ≡ Some q)) → (u ≡ v) × (n ≡ o)
      both u v n o q (inl y) (inl z) = were.once u v n o q y z
      both u v n o q (inl y) (inr z) = absurd (not-before m more q o (were.new u n q y).there (are.new o q z.1))
      both u v n o q (inr y) (inl z) = absurd (not-before m more q n (were.new v o q z).there (are.new n q y.1))
      both u v n o q (inr y) (inr z) = (y.0 ∙ sym z.0, are.once n o q y.1 z.1)

-- ---- those that classes are

pub at-whole : (ws : List (Option ResourceId)) (k : ℕ) (q : ResourceId) → whole_under ws k ≡ Some q → slice_get ws k ≡ Some (Some q)
at-whole ws k q e = by (slice_get ws k) refl e where
  by : (x : Option (Option ResourceId)) → slice_get ws k ≡ x → option_case x None (λ o. o) ≡ Some q → slice_get ws k ≡ Some (Some q)
  by None at h = cc
  by (Some o) at h = at ∙ ap (λ y. Some y) h

pub whole-at : (ws : List (Option ResourceId)) (k : ℕ) (q : ResourceId) → slice_get ws k ≡ Some (Some q) → whole_under ws k ≡ Some q
whole-at ws k q e = ap (λ x. option_case x None (λ o. o)) e

set-here : {A : Type 0} (xs : List A) (k : ℕ) (y : A) → k < length xs → slice_get (set xs k y) k ≡ Some y
set-here [] k y low = absurd (omega (arith, low))
set-here (x ∷ xs) zero y low = refl
set-here (x ∷ xs) (suc k) y low = set-here xs k y (omega (arith, low))

set-other : {A : Type 0} (xs : List A) (k l : ℕ) (y x : A) → l ≢ k → slice_get xs l ≡ Some x → slice_get (set xs k y) l ≡ Some x
set-other [] k l y x other at = cc
set-other (z ∷ xs) zero zero y x other at = absurd (other refl)
set-other (z ∷ xs) zero (suc l) y x other at = at
set-other (z ∷ xs) (suc k) zero y x other at = at
set-other (z ∷ xs) (suc k) (suc l) y x other at = set-other xs k l y x (λ e. other (ap suc e)) at

module _ (ws : List (Option ResourceId)) (k : ℕ) (q : ResourceId) (low : k < length ws) where
  pub whole-here : IsWhole (set ws k (Some q)) k
  whole-here = (q, whole-at (set ws k (Some q)) k q (set-here ws k (Some q) low))

  pub whole-stays : StayWhole ws (set ws k (Some q))
  whole-stays l w = elim (cases_Bool (nat_eq l k)) [
    | inl t ↦ subst (IsWhole (set ws k (Some q))) (sym (eqb-true l k t)) whole-here
    | inr f ↦ (w.0, whole-at (set ws k (Some q)) l w.0 (set-other ws k l (Some q) (Some w.0) (λ e. false≢true (sym f ∙ eq-eqb l k e)) (at-whole ws l w.0 w.1)))
  ]

  set-whole : (l : ℕ) (p : ResourceId) → whole_under (set ws k (Some q)) l ≡ Some p → ((l ≡ k) × (p ≡ q)) ⊎ (whole_under ws l ≡ Some p)
  set-whole l p at = elim (set-cases ws k (Some q) l (Some p) (at-whole (set ws k (Some q)) l p at)) [
    | inl w ↦ inl (w.0, some-same p q w.1)
    | inr w ↦ inr (whole-at ws l p w.1)
  ]

  -- one more
  pub whole-put : (a m more c : Collection) (bs : ClassBindings) (r : ResourceId) → IsExtended a m → IsExtended m more → IsWellFormed m → first_in bs r ≡ Some (k, []) → IsNew m more q (resource_name c r)
      → AreWhole a c bs ws m → AreWhole a c bs (set ws k (Some q)) more
  whole-put a m more c bs r before x wf first new were = record {
    new = λ l p at. elim (set-whole l p at) [
      | inl w ↦ (r, first ∙ ap (λ j. Some (j, [])) (sym w.0), subst (λ (y : ResourceId). IsNew a more y (resource_name c r)) (sym w.1) (new-since a m more q (resource_name c r) before new))
      | inr old ↦ let w = were.new l p old in (w.0, w.1, still_new m more x wf a p (resource_name c w.0) w.2)
    ];
    once = λ l j p at also. both l j p (set-whole l p at) (set-whole j p also);
  }
    where
      gone : (l : ℕ) (p : ResourceId) → whole_under ws l ≡ Some p → p ≡ q → ⊥
      gone l p old same = let w = were.new l p old in not-before m more q (resource_name c r) (subst (λ (z : ResourceId). z.0 < length m.resources) same w.2.there) new

      both : (l j : ℕ) (p : ResourceId) → ((l ≡ k) × (p ≡ q)) ⊎ (whole_under ws l ≡ Some p) → ((j ≡ k) × (p ≡ q)) ⊎ (whole_under ws j ≡ Some p) → l ≡ j
      both l j p (inl y) (inl z) = y.0 ∙ sym z.0
      both l j p (inl y) (inr z) = absurd (gone j p z y.1)
      both l j p (inr y) (inl z) = absurd (gone l p y z.1)
      both l j p (inr y) (inr z) = were.once l j p y z

pub whole-none : (a c m : Collection) (bs : ClassBindings) (ws : List (Option ResourceId)) → ((k : ℕ) → IsWhole ws k → ⊥) → AreWhole a c bs ws m
whole-none a c m bs ws none = record {
  new = λ k q at. absurd (none k (q, at));
  once = λ k l q at also. absurd (none k (q, at));
}

pub stays-some : (ws : List (Option ResourceId)) (k : ℕ) (o : Option ResourceId) → slice_get ws k ≡ Some o → IsSome o → IsWhole ws k
stays-some ws k None at h = absurd (false≢true h)
stays-some ws k (Some q) at h = (q, whole-at ws k q at)

-- ---- all new resources

pub are-fresh : (c a m more : Collection) (us : List Union) (bs : ClassBindings) (f : Fresh) → IsExtended c a → IsExtended a m → IsExtended m more → IsWellFormed m → AreAllOwn a us f.own.items m → AreWhole m c bs f.whole.items more
    → ((k : ℕ) (r : ResourceId) → first_in bs r ≡ Some (k, []) → IsWhole f.whole.items k) → AreFresh c us bs f more
are-fresh c a m more us bs f x y z wf own whole all = record {
  listed = own.listed;
  own = λ u n q at. new-since c a more q n x (still_new m more z wf a q n (own.new u n q at));
  bound = all;
  whole = λ k q at. let w = whole.new k q at in (w.0, w.1, new-since c a more q (resource_name c w.0) x (new-since a m more q (resource_name c w.0) y w.2));
  once = own.once;
  once_whole = whole.once;
  apart = λ k u n q at also. let w = whole.new k q at in not-before m more q (resource_name c w.0) (own.new u n q also).there w.2;
}

-- ---- none yet

pub none-begun : (ws : List (Option ResourceId)) → ws ≡ [] → (k : ℕ) → IsWhole ws k → ⊥
none-begun ws is k w = let h = at-whole ws k w.0 w.1 in no (ap (λ (l : List (Option ResourceId)). slice_get l k) (sym is) ∙ h) where
  no : None ≡ Some (Some w.0) → ⊥
  no e = cc

pub none-push : (ws : List (Option ResourceId)) → ((k : ℕ) → IsWhole ws k → ⊥) → (k : ℕ) → IsWhole (ws ++ None ∷ []) k → ⊥
none-push ws none k w = elim (push-cases ws None k (Some w.0) (at-whole (ws ++ None ∷ []) k w.0 w.1)) [
  | inl old ↦ none k (w.0, whole-at ws k w.0 old)
  | inr new ↦ no new.1
]
  where
    no : Some w.0 ≡ None → ⊥
    no e = cc
