-- Instances, put into the list of their names.
use Rattle.std.proofs.Common.{◌≡◌, ℕ, ◌+◌, suc, Bool, true, false, cond, List, Vec, [], ◌∷◌, ◌++◌, take, slice_get, Option, Some, None, inl, inr, refl, sym, ap, ◌∙◌, arith}
use Rattle.std.specs.Global.{Global}
use Rattle.std.specs.Prelude.{◌⊎◌}
use Rattle.std.proofs.Math.ListN.{length-set, set}
use Rattle.std.proofs.lemmas.Bool.{cases_Bool}
use Rattle.std.proofs.lemmas.List.{append_assoc, append-nil}
use Rattle.std.proofs.lemmas.Option.{slice_get_within}
use Rattle.wac_types_shapes.specs.primitives.Name.{Name, find_name, option_case, same_name}
use Rattle.wac_types_shapes.specs.shapes.Named.{NoNameTwice, named_at}
use Rattle.wac_types_shapes.specs.declared.shapes.component.Interface.{Interface}
use Rattle.wac_types_shapes.specs.declared.shapes.component.InterfaceId.{InterfaceId}
use Rattle.wac_types_shapes.specs.declared.shapes.component.ItemKind.{ItemKind}
use Rattle.wac_types_shapes.specs.declared.shapes.component.ItemKind.TheVariants as kind
use Rattle.wac_types_shapes.proofs.lemmas.shapes.Names.{find_position, found_at, named_at-at, named_at-none, same_name-from, same_name-true, take_at}
use Rattle.wac_types_collection.specs.collection.Collection.{Collection, item_at}
use Rattle.wac_merge_classes.proofs.lemmas.entries.Lists.{set-cases, some-at}
use Rattle.wac_merge_classes.proofs.lemmas.terms.Found.{no_some, one_some, some_same}
use Rattle.wac_merge_unions.specs.uses.KeptUses.{with_instance}
use Rattle.wac_merge_unions.specs.uses.Using.{HaveListed, HaveMore}
use Rattle.wac_merge_unions.proofs.lemmas.uses.Inside.{named-next}

-- the instance under a name among items
abbrev under : List (Name × ItemKind) → Name → List InterfaceId
under xs n = option_case (find_name xs n) [] (λ x. with_instance x [])

one-under : (n o : Name) (k : ItemKind) (b : Bool) → same_name n o ≡ b → under ((o, k) ∷ []) n ≡ cond b (with_instance k []) []
one-under n o k true is = ap (λ t. option_case (cond t (Some k) None) [] (λ x. with_instance x [])) is
one-under n o k false is = ap (λ t. option_case (cond t (Some k) None) [] (λ x. with_instance x [])) is

find-append : (ys zs : List (Name × ItemKind)) (n : Name) → find_name (ys ++ zs) n ≡ option_case (find_name ys n) (find_name zs n) (λ k. Some k)
find-append [] zs n = refl
find-append (y ∷ ys) zs n = by (same_name n y.0) (find-append ys zs n) where
  by : (b : Bool) → find_name (ys ++ zs) n ≡ option_case (find_name ys n) (find_name zs n) (λ k. Some k)
      → cond b (Some y.1) (find_name (ys ++ zs) n) ≡ option_case (cond b (Some y.1) (find_name ys n)) (find_name zs n) (λ k. Some k)
  by true rest = refl
  by false rest = rest

-- where a name stands
pub where-named : (es : List (Name × ItemKind)) (n : Name) → NoNameTwice es → ((named_at 0 n es ≡ None) × (find_name es n ≡ None)) ⊎ ((j : ℕ) × (k : ItemKind) × (slice_get es j ≡ Some (n, k)) × (named_at 0 n es ≡ Some (j, k)))
where-named es n once = by (find_name es n) refl where
  by : (o : Option ItemKind) → find_name es n ≡ o → ((named_at 0 n es ≡ None) × (find_name es n ≡ None)) ⊎ ((j : ℕ) × (k : ItemKind) × (slice_get es j ≡ Some (n, k)) × (named_at 0 n es ≡ Some (j, k)))
  by None is = inl (named_at-none es 0 n is, is)
  by (Some k) is =
      let p = find_position es n k is in
      let plus : 0 + p.0 ≡ p.0 = omega arith in
      inr (p.0, k, p.2, named_at-at es 0 p.0 n k once p.2 ∙ ap (λ j. Some (j, k)) plus)

pub found-place : (es : List (Name × ItemKind)) (n : Name) → NoNameTwice es → (e : ℕ × ItemKind) → Some e ≡ named_at 0 n es → (k : ItemKind) × (slice_get es e.0 ≡ Some (n, k))
found-place es n once e is = by (where-named es n once) where
  by : ((named_at 0 n es ≡ None) × (find_name es n ≡ None)) ⊎ ((j : ℕ) × (k : ItemKind) × (slice_get es j ≡ Some (n, k)) × (named_at 0 n es ≡ Some (j, k))) → (k : ItemKind) × (slice_get es e.0 ≡ Some (n, k))
  by (inl none) = absurd (no_some e (sym (is ∙ none.0)))
  by (inr at) = (at.1, ap (λ (x : ℕ × ItemKind). slice_get es x.0) (some_same e (at.0, at.1) (is ∙ at.3)) ∙ at.2)

pub not-found : (es : List (Name × ItemKind)) (n : Name) → NoNameTwice es → named_at 0 n es ≡ None → find_name es n ≡ None
not-found es n once is = by (where-named es n once) where
  by : ((named_at 0 n es ≡ None) × (find_name es n ≡ None)) ⊎ ((j : ℕ) × (k : ItemKind) × (slice_get es j ≡ Some (n, k)) × (named_at 0 n es ≡ Some (j, k))) → find_name es n ≡ None
  by (inl none) = none.1
  by (inr at) = absurd (no_some (at.0, at.1) (sym is ∙ at.3))

module _ (es : List (Name × ItemKind)) where
  -- nothing more
  same-lists : (xs : List (Name × ItemKind)) (old : List (Vec InterfaceId Global)) → ((j : ℕ) (n : Name) (k : ItemKind) → slice_get es j ≡ Some (n, k) → under xs n ≡ []) → HaveMore es xs old old
  same-lists xs old none = record {
    counted = refl;
    each = λ j n k a b here at there. ap (λ (v : Vec InterfaceId Global). v.items) (one_some (slice_get old j) b a there at) ∙ (sym (append-nil a.items) ∙ ap (λ l. a.items ++ l) (sym (none j n k here)));
  }

  pub more-nothing : (xs : List (Name × ItemKind)) (old : List (Vec InterfaceId Global)) → xs ≡ [] → HaveMore es xs old old
  more-nothing xs old is = same-lists xs old (λ j n k here. ap (λ ys. under ys n) is)

  pub more-plain : (o : Name) (x : ItemKind) (old : List (Vec InterfaceId Global)) → ((i : InterfaceId) → x ≡ kind.Instance i → ⊥) → HaveMore es ((o, x) ∷ []) old old
  more-plain o x old plain = same-lists ((o, x) ∷ []) old (λ j n k here. elim (cases_Bool (same_name n o)) [
    | inl t ↦ one-under n o x true t ∙ no-instance x plain
    | inr f ↦ one-under n o x false f
  ]) where
    no-instance : (x : ItemKind) → ((i : InterfaceId) → x ≡ kind.Instance i → ⊥) → with_instance x [] ≡ []
    no-instance (kind.Instance i) none = absurd (none i refl)
    no-instance (kind.TypeItem t) none = refl
    no-instance (kind.Func f) none = refl
    no-instance (kind.Component w) none = refl
    no-instance (kind.Module y) none = refl
    no-instance (kind.Value v) none = refl

  pub more-unnamed : (o : Name) (x : ItemKind) (old : List (Vec InterfaceId Global)) → find_name es o ≡ None → HaveMore es ((o, x) ∷ []) old old
  more-unnamed o x old none = same-lists ((o, x) ∷ []) old (λ j n k here. elim (cases_Bool (same_name n o)) [
    | inl t ↦ absurd (found_at es j o k (here ∙ ap (λ (y : Name). Some (y, k)) (same_name-true n o t)) none)
    | inr f ↦ one-under n o x false f
  ])

  -- one more in its list
  pub more-named : (o : Name) (i : InterfaceId) (old : List (Vec InterfaceId Global)) (p : ℕ) (y : ItemKind) (v w : Vec InterfaceId Global) → NoNameTwice es → slice_get es p ≡ Some (o, y) → slice_get old p ≡ Some v → w.items ≡ v.items ++ i ∷ []
      → HaveMore es ((o, kind.Instance i) ∷ []) old (set old p w)
  more-named o i old p y v w once at v-at more = record {
    counted = length-set old p w;
    each = λ j n k a b here a-at b-at. elim (set-cases old p w j b b-at) [
      | inl one ↦
          let place = one.0 in
          let same : ◌≡◌ {A = Name × ItemKind} (n, k) (o, y) = one_some (slice_get es p) (n, k) (o, y) (ap (slice_get es) (sym place) ∙ here) at in
          let name : n ≡ o = ap (λ (e : Name × ItemKind). e.0) same in
          let a-is : v ≡ a = one_some (slice_get old p) v a v-at (ap (slice_get old) (sym place) ∙ a-at) in
          ap (λ (z : Vec InterfaceId Global). z.items) one.1 ∙ (more ∙ ((λ t. (a-is t).items ++ i ∷ []) ∙ ap (λ l. a.items ++ l) (sym (one-under n o (kind.Instance i) true (same_name-from n o name)))))
      | inr other ↦
          let a-is : b ≡ a = one_some (slice_get old j) b a other.1 a-at in
          elim (cases_Bool (same_name n o)) [
            | inl t ↦ absurd (other.0 (one-place j p k y here (at ∙ ap (λ (z : Name). Some (z, y)) (sym (same_name-true n o t)))))
            | inr f ↦ ap (λ (z : Vec InterfaceId Global). z.items) a-is ∙ (sym (append-nil a.items) ∙ ap (λ l. a.items ++ l) (sym (one-under n o (kind.Instance i) false f)))
          ]
    ];
  } where
    position : Option (ℕ × ItemKind) → ℕ
    position None = 0
    position (Some e) = e.0

    one-place : {n : Name} (j q : ℕ) (k z : ItemKind) → slice_get es j ≡ Some (n, k) → slice_get es q ≡ Some (n, z) → j ≡ q
    one-place {n} j q k z j-at q-at =
        let both = ap position (sym (named_at-at es 0 j n k once j-at) ∙ named_at-at es 0 q n z once q-at) in
        omega (arith, both)

  -- one item more
  pub more-next : (xs : List (Name × ItemKind)) (p : ℕ) (e : Name × ItemKind) (first old new : List (Vec InterfaceId Global)) → slice_get xs p ≡ Some e → find_name (take p xs) e.0 ≡ None
      → HaveMore es (take p xs) first old → HaveMore es (e ∷ []) old new → HaveMore es (take (suc p) xs) first new
  more-next xs p e first old new at none before after = record {
    counted = after.counted ∙ before.counted;
    each = λ j n k a c here a-at c-at.
        let low = slice_get_within first j a a-at in
        let count = before.counted in
        let b = some-at old j (omega (arith, low, count)) in
        after.each j n k b.0 c here b.1 c-at
        ∙ (ap (λ l. l ++ under (e ∷ []) n) (before.each j n k a b.0 here a-at b.1)
        ∙ (append_assoc a.items (under (take p xs) n) (under (e ∷ []) n) ∙ ap (λ l. a.items ++ l) (sym (both n) ∙ ap (λ ys. under ys n) (sym (take_at xs p e at)))));
  } where
    both : (n : Name) → under (take p xs ++ e ∷ []) n ≡ under (take p xs) n ++ under (e ∷ []) n
    both n = ap (λ o. option_case o [] (λ x. with_instance x [])) (find-append (take p xs) (e ∷ []) n) ∙ by (find_name (take p xs) n) refl where
      by : (o : Option ItemKind) → find_name (take p xs) n ≡ o → option_case (option_case o (find_name (e ∷ []) n) (λ k. Some k)) [] (λ x. with_instance x []) ≡ option_case o [] (λ x. with_instance x []) ++ under (e ∷ []) n
      by None is = refl
      by (Some k) is = elim (cases_Bool (same_name n e.0)) [
        | inl t ↦ absurd (no_some k (sym none ∙ (ap (find_name (take p xs)) (sym (same_name-true n e.0 t)) ∙ is)))
        | inr f ↦ sym (ap (λ l. with_instance k [] ++ l) (one-under n e.0 e.1 false f) ∙ append-nil (with_instance k []))
      ]

  -- one interface more
  pub listed-next : (c : Collection) (is : List InterfaceId) (q : ℕ) (i : InterfaceId) (it : Interface) (old new : List (Vec InterfaceId Global)) → slice_get is q ≡ Some i → item_at c.interfaces i.0 ≡ Some it
      → HaveListed c (take q is) es old → HaveMore es it.exports old new → HaveListed c (take (suc q) is) es new
  listed-next c is q i it old new at there have more = record {
    counted = more.counted ∙ have.counted;
    each = λ j n k w here w-at.
        let low = slice_get_within new j w w-at in
        let count = more.counted in
        let v = some-at old j (omega (arith, low, count)) in
        more.each j n k v.0 w here v.1 w-at ∙ (ap (λ l. l ++ under it.exports n) (have.each j n k v.0 here v.1) ∙ sym (named-next c is q i it n (find_name it.exports n) at there refl));
  }
