-- What a comparison at one spot, and at several, keeps and shows.
use Rattle.std.proofs.Common.{◌≡◌, ℕ, zero, suc, ◌<◌, ◌≤◌, List, [], ◌∷◌, ◌⊎◌, inl, inr, length, take, Some, refl, ap, sym, ◌∙◌, subst, arith}
use Rattle.std.specs.Prelude.{slice_get}
use Rattle.std.specs.List.{AllByRecursion}
use Rattle.wac_merge_tables.specs.private.tables.Nodes.{Item, Node, type_of, IsTable}
use Rattle.wac_merge_classes.proofs.lemmas.entries.Lists.{push-cases, at-push}
use Rattle.wac_merge_classes.proofs.lemmas.terms.Found.{no_some, some_same, one_some}
use Rattle.wac_merge_agreement.specs.private.agreeing.Apart.{AreApart, ItemsAgree}
use Rattle.wac_merge_agreement.specs.private.agreeing.Rows.{Row, Spot, Table, groups_view}
use Rattle.wac_merge_agreement.specs.private.agreeing.Groups.{AreOrdered, AreRows, AreTogether, Compares, ComparesAll, none, more, HasBy, IsGroup, IsGrouped, IsHandled, IsKnown, IsNoLater}
use Rattle.wac_merge_agreement.specs.declared.agreeing.agreement.Walk.{Walk}
use Rattle.wac_merge_agreement.proofs.lemmas.agreeing.Comparing.{agree_same, all_at, all_from, unfit_apart}
use Rattle.wac_merge_agreement.proofs.lemmas.agreeing.Grouping.{all_halves, IsApart, IsPlaced, no_later_on, split_first, split_in, split_open, split_ordered, split_placed, split_told}

-- ---- growth
pub record Grown (w v : Walk) : Type 0 where
  pub groups : (k : ℕ) (g : List Row) → slice_get (groups_view w.groups.keys) k ≡ Some g → slice_get (groups_view v.groups.keys) k ≡ Some g
  pub first : (b : ℕ × ℕ) → w.first ≡ Some b → (c : ℕ × ℕ) × (v.first ≡ Some c) × IsNoLater c b

pub grown_same : (w : Walk) → Grown w w
grown_same w = record { groups = λ k g at. at; first = λ b is. (b, is, inr (refl, omega arith)) }

pub grown_on : (u v w : Walk) → Grown u v → Grown v w → Grown u w
grown_on u v w g h = record {
  groups = λ k z at. h.groups k z (g.groups k z at);
  first = λ b is. let (c, so, low) = g.first b is in let (d, then, less) = h.first c so in (d, then, no_later_on d c b less low);
}

abbrev pub HandledIn : Walk → ℕ × ℕ → Item → Item → Type 0
HandledIn w pair x y = IsHandled (groups_view w.groups.keys) w.first pair x y

pub handled_more : (w v : Walk) (pair : ℕ × ℕ) (x y : Item) → Grown w v → HandledIn w pair x y → HandledIn v pair x y
handled_more w v pair x y g (inl same) = inl same
handled_more w v pair x y g (inr (inl (b, is, low))) = let (c, so, less) = g.first b is in inr (inl (c, so, no_later_on c b pair less low))
handled_more w v pair x y g (inr (inr (k, z, at, a, b))) = inr (inr (k, z, g.groups k z at, a, b))

-- ---- order
pub led : (rows : List Row) (k : ℕ) (r q : Row) → AreOrdered rows → slice_get rows zero ≡ Some r → slice_get rows k ≡ Some q → r.0 ≤ q.0
led [] k r q h first at = absurd (no_some r first)
led (p ∷ rows) zero r q h first at = let same : ◌≡◌ {A = ℕ} r.0 q.0 = ap (λ (z : Row). z.0) (some_same r q (sym first ∙ at)) in omega (arith, same)
led (p ∷ rows) (suc k) r q h first at = subst (λ (z : Row). z.0 ≤ q.0) (some_same p r first) (all_at (λ (z : Row). p.0 ≤ z.0) rows k q h.0 at)

-- of a list with one place at most, what stands there is one
only_place : (g : List Row) (k l : ℕ) (r q : Row) → length g ≤ 1 → slice_get g k ≡ Some r → slice_get g l ≡ Some q → r ≡ q
only_place [] k l r q few at also = absurd (no_some r at)
only_place (p ∷ []) zero zero r q few at also = some_same r q (sym at ∙ also)
only_place (p ∷ []) (suc k) l r q few at also = absurd (no_some r at)
only_place (p ∷ []) zero (suc l) r q few at also = absurd (no_some q also)
only_place (p ∷ z ∷ g) k l r q few at also = absurd (omega (arith, few))

last_or : (a b : ℕ) → a ≤ b → (a < b) ⊎ (a ≡ b)
last_or zero zero h = inr refl
last_or zero (suc b) h = inl (omega arith)
last_or (suc a) zero h = absurd (omega (arith, h))
last_or (suc a) (suc b) h = step (last_or a b (omega (arith, h))) where
  step : (a < b) ⊎ (a ≡ b) → (suc a < suc b) ⊎ (suc a ≡ suc b)
  step (inl less) = inl (omega (arith, less))
  step (inr same) = inr (ap suc same)

-- ---- one spot
pub record HasCompared (ns : List Node) (items : List Item) (classes : List ℕ) (rows : List Row) (w v : Walk) : Type 0 where
  pub known : IsKnown ns items classes v
  pub grown : Grown w v
  pub handled : (i j : ℕ) (x y : Item) → i < j → HasBy rows i x → HasBy rows j y → HandledIn v (i, j) x y

module _ (ns : List Node) (table : IsTable ns) (items : List Item) (classes : List ℕ) where
  module _ (rows : List Row) (w v : Walk) (are : AreRows ns items classes rows) (did : Compares ns w rows v) where
    low_at : (k : ℕ) (r : Row) → slice_get rows k ≡ Some r → type_of r.1 < length ns
    low_at k r at = all_at (λ (q : Row). type_of q.1 < length ns) rows k r are.full.1 at

    -- what is told disagrees
    apart_of : (b : ℕ × ℕ) → IsApart ns did.holder did.held rows b → AreApart ns items classes b.0 b.1
    apart_of b h = subst (λ (p : ℕ × ℕ). AreApart ns items classes p.0 p.1) (sym h.is) conflict where
      t : AreTogether ns items classes (did.holder, did.held) (h.entry, h.item)
      t = are.together 0 h.position (did.holder, did.held) (h.entry, h.item) did.at h.at

      never : ItemsAgree ns t.first t.second → ⊥
      never agree = unfit_apart ns table did.held h.item (low_at 0 (did.holder, did.held) did.at) (low_at h.position (h.entry, h.item) h.at) h.unfit (t.agree agree)

      earlier : (did.holder < h.entry) ⊎ (did.holder ≡ h.entry) → did.holder < h.entry
      earlier (inl less) = less
      earlier (inr same) = absurd (never (agree_same ns table t.first t.second (one_some (slice_get items h.entry) t.first t.second (ap (slice_get items) (sym same) ∙ t.at_first) t.at_second)))

      conflict : AreApart ns items classes did.holder h.entry
      conflict = record {
        earlier = t.first;
        later = t.second;
        class = t.class;
        at_first = t.at_first;
        at_second = t.at_second;
        class_of_first = t.class_of_first;
        class_of_second = t.class_of_second;
        before = earlier (last_or did.holder h.entry (led rows h.position (did.holder, did.held) (h.entry, h.item) are.ordered did.at h.at));
        apart = never;
      }

    group_of : 1 < length did.group → IsGroup ns items classes did.group
    group_of several = (
      record {
        full = (omega (arith, several), all_from (λ (r : Row). type_of r.1 < length ns) did.group (λ k r at. let (l, is) = inside k r at in low_at l r is));
        ordered = split_ordered ns did.holder did.held w.first rows did.group v.first did.splits are.ordered;
        together = λ k l r q at also. let (m, is) = inside k r at in let (o, so) = inside l q also in are.together m o r q is so;
      },
      split_open ns did.holder did.held w.first rows did.group v.first did.splits several,
    ) where
      inside : (k : ℕ) (r : Row) → slice_get did.group k ≡ Some r → (l : ℕ) × (slice_get rows l ≡ Some r)
      inside k r at = split_in ns did.holder did.held w.first rows did.group v.first did.splits k r at

    kept_groups : (k : ℕ) (g : List Row) → slice_get (groups_view w.groups.keys) k ≡ Some g → slice_get (groups_view v.groups.keys) k ≡ Some g
    kept_groups k g at = go did.grouped where
      go : IsGrouped (groups_view w.groups.keys) did.group (groups_view v.groups.keys) → slice_get (groups_view v.groups.keys) k ≡ Some g
      go (inl (_, is)) = subst (λ (l : List (List Row)). slice_get l k ≡ Some g) (sym is) at
      go (inr (_, _, inl is)) = subst (λ (l : List (List Row)). slice_get l k ≡ Some g) (sym is) at
      go (inr (_, _, inr is)) = subst (λ (l : List (List Row)). slice_get l k ≡ Some g) (sym is) (at-push (groups_view w.groups.keys) did.group k g at)

    pub compared : IsKnown ns items classes w → HasCompared ns items classes rows w v
    compared known = record {
      known = record { groups = λ k g at. groups did.grouped k g at; first = λ b is. told b (split_told ns did.holder did.held w.first rows did.group v.first did.splits b is) };
      grown = record { groups = kept_groups; first = split_first ns did.holder did.held w.first rows did.group v.first did.splits };
      handled = λ i j x y less a b. handled i j x y less a b;
    } where
      told : (b : ℕ × ℕ) → (w.first ≡ Some b) ⊎ IsApart ns did.holder did.held rows b → AreApart ns items classes b.0 b.1
      told b (inl is) = known.first b is
      told b (inr h) = apart_of b h

      groups : IsGrouped (groups_view w.groups.keys) did.group (groups_view v.groups.keys) → (k : ℕ) (g : List Row) → slice_get (groups_view v.groups.keys) k ≡ Some g → IsGroup ns items classes g
      groups (inl (_, is)) k g at = known.groups k g (subst (λ (l : List (List Row)). slice_get l k ≡ Some g) is at)
      groups (inr (_, _, inl is)) k g at = known.groups k g (subst (λ (l : List (List Row)). slice_get l k ≡ Some g) is at)
      groups (inr (several, _, inr is)) k g at = go (push-cases (groups_view w.groups.keys) did.group k g (subst (λ (l : List (List Row)). slice_get l k ≡ Some g) is at)) where
        go : (slice_get (groups_view w.groups.keys) k ≡ Some g) ⊎ ((k ≡ length (groups_view w.groups.keys)) × (g ≡ did.group)) → IsGroup ns items classes g
        go (inl h) = known.groups k g h
        go (inr (_, same)) = subst (λ (z : List Row). IsGroup ns items classes z) (sym same) (group_of several)

      placed : (e : ℕ) (x : Item) → (h : HasBy rows e x) → IsPlaced did.holder did.group v.first (h.earliest, x)
      placed e x h = split_placed ns did.holder did.held w.first rows did.group v.first did.splits h.position (h.earliest, x) (led rows h.position (did.holder, did.held) (h.earliest, x) are.ordered did.at h.at) h.at

      by : (e : ℕ) (x : Item) (l : ℕ) → l ≤ e → HasBy did.group l x → HasBy did.group e x
      by e x l low h = record { position = h.position; earliest = h.earliest; at = h.at; before = let b = h.before in omega (arith, b, low) }

      -- both are in the group, or it has one alone, so they are one
      joined : (i j : ℕ) (x y : Item) → HasBy did.group i x → HasBy did.group j y → IsGrouped (groups_view w.groups.keys) did.group (groups_view v.groups.keys) → HandledIn v (i, j) x y
      joined i j x y a b (inl (few, _)) = inl (ap (λ (r : Row). r.1) (only_place did.group a.position b.position (a.earliest, x) (b.earliest, y) few a.at b.at))
      joined i j x y a b (inr (_, (k, at), _)) = inr (inr (k, did.group, at, a, b))

      later : (f j i : ℕ) → f ≤ j → did.holder ≤ i → (f < j) ⊎ (f ≡ j) → IsNoLater (did.holder, f) (i, j)
      later f j i low first (inl less) = inl less
      later f j i low first (inr same) = inr (same, first)

      both : (i j : ℕ) (x y : Item) → i < j → (a : HasBy rows i x) → (b : HasBy rows j y) → IsPlaced did.holder did.group v.first (a.earliest, x) → IsPlaced did.holder did.group v.first (b.earliest, y) → HandledIn v (i, j) x y
      both i j x y less a b (inl h) (inl k) = joined i j x y (by i x a.earliest a.before h) (by j y b.earliest b.before k) did.grouped
      both i j x y less a b (inr (p, is, low)) k = let e = a.before in inr (inl (p, is, no_later_on p (did.holder, a.earliest) (i, j) low (inl (omega (arith, e, less)))))
      both i j x y less a b (inl h) (inr (p, is, low)) =
          let e = a.before in
          let f = led rows a.position (did.holder, did.held) (a.earliest, x) are.ordered did.at a.at in
          inr (inl (p, is, no_later_on p (did.holder, b.earliest) (i, j) low (later b.earliest j i b.before (omega (arith, e, f)) (last_or b.earliest j b.before))))

      handled : (i j : ℕ) (x y : Item) → i < j → HasBy rows i x → HasBy rows j y → HandledIn v (i, j) x y
      handled i j x y less a b = both i j x y less a b (placed i x a) (placed j y b)

-- ---- several spots
pub record HaveCompared (ns : List Node) (items : List Item) (classes : List ℕ) (t : Table) (w v : Walk) : Type 0 where
  pub known : IsKnown ns items classes v
  pub grown : Grown w v
  pub handled : (k : ℕ) (s : Spot) (rows : List Row) (i j : ℕ) (x y : Item) → slice_get t k ≡ Some (s, rows) → i < j → HasBy rows i x → HasBy rows j y → HandledIn v (i, j) x y

module _ (ns : List Node) (table : IsTable ns) (items : List Item) (classes : List ℕ) where
  pub compared_all : (w v : Walk) (t : Table) → IsKnown ns items classes w → AllByRecursion (λ g. AreRows ns items classes g.1) t → ComparesAll ns w t v → HaveCompared ns items classes t w v
  compared_all w _ _ known are none = record { known = known; grown = grown_same w; handled = λ k s rows i j x y at less a b. absurd (no_some (s, rows) at) }
  compared_all w _ _ known are (more t s rows mid new before one) =
      let (all, last) = all_halves (λ (g : Spot × List Row). AreRows ns items classes g.1) t (s, rows) are in
      let h = compared_all w mid t known all before in
      let l = compared ns table items classes rows mid new last one h.known in
      record {
        known = l.known;
        grown = grown_on w mid new h.grown l.grown;
        handled = λ k z those i j x y at less a b. which t s rows mid new h l k z those i j x y less a b (push-cases t (s, rows) k (z, those) at);
      } where
        which : (t : Table) (s : Spot) (rows : List Row) (mid new : Walk) → HaveCompared ns items classes t w mid → HasCompared ns items classes rows mid new → (k : ℕ) (z : Spot) (those : List Row) (i j : ℕ) (x y : Item) → i < j → HasBy those i x → HasBy those j y
            → (slice_get t k ≡ Some (z, those)) ⊎ ((k ≡ length t) × ◌≡◌ {A = Spot × List Row} (z, those) (s, rows)) → HandledIn new (i, j) x y
        which t s rows mid new h l k z those i j x y less a b (inl at) = handled_more mid new (i, j) x y l.grown (h.handled k z those i j x y at less a b)
        which t s rows mid new h l k z those i j x y less a b (inr (_, is)) =
            let same : those ≡ rows = ap (λ (g : Spot × List Row). g.1) is in
            l.handled i j x y less (subst (λ (q : List Row). HasBy q i x) same a) (subst (λ (q : List Row). HasBy q j y) same b)

pub none_compared : (ns : List Node) (w : Walk) (t : Table) → ComparesAll ns w (take 0 t) w
none_compared ns w [] = none
none_compared ns w (g ∷ t) = none
