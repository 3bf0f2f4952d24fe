-- In written order the item of a class mentions what it binds itself and what classes before it bind.
use Rattle.std.proofs.Common.{◌≡◌, ◌≢◌, ℕ, zero, suc, ◌<◌, ◌≤◌, ◌==◌, cond, false, true, length, List, [], ◌∷◌, ◌⊎◌, inl, inr, map, Option, Some, None, slice_get, refl, sym, ap, ◌∙◌, subst, arith}
use Rattle.std.specs.Prelude.{◌↔◌, Contains}
use Rattle.std.specs.Ordering.{nat_cmp}
use Rattle.std.specs.declared.cmp.Ordering.{Ordering}
use Rattle.std.specs.declared.cmp.Ordering.TheVariants.{Less, Equal, Greater}
use Rattle.std.proofs.lemmas.Bool.{cases_Bool, eq-eqb, eqb-true, false≢true}
use Rattle.std.proofs.lemmas.Cmp.{ranked}
use Rattle.wac_types_shapes.specs.primitives.Name.{Name}
use Rattle.wac_types_shapes.specs.primitives.Tree.{Leaf, Tree, absent, fresh, type_equal, instance, instance_item}
use Rattle.wac_types_collection.specs.collection.Collection.{Collection}
use Rattle.wac_types_shapes.specs.declared.shapes.component.ResourceId.{ResourceId}
use Rattle.wac_types_shapes.specs.declared.shapes.component.«Type».TheVariants as ty
use Rattle.wac_types_shapes.specs.declared.shapes.component.ItemKind.{ItemKind}
use Rattle.wac_types_shapes.specs.declared.shapes.component.ItemKind.TheVariants as kind
use Rattle.wac_merge_classes.specs.entries.Binding.{class_binds, root_bindings}
use Rattle.wac_merge_classes.specs.entries.Classes.{Entry, by_names, class_names, members, same_class}
use Rattle.wac_merge_classes.specs.terms.ClassOrder.{IsWrittenOrder, Mentions, RestsOn, begins_at, by_resource, in_instance, in_instance_item}
use Rattle.wac_merge_classes.specs.terms.Merge.{position_in}
use Rattle.wac_merge_classes.specs.terms.NoDisagreement.{HasNoDisagreement}
use Rattle.wac_merge_classes.specs.terms.Union.{member_tree, merged, union, union_all}
use Rattle.wac_merge_classes.proofs.lemmas.terms.Found.{at-filter, no_some, some_same}
use Rattle.wac_merge_classes.specs.terms.Faults.{HasNoCircle}
use Rattle.wac_edges.specs.Arranged.{IsOnce}
use Rattle.wac_edges.proofs.ArrangedLaws.{contains_in, in_at}
use Rattle.wac_merge_agreement.proofs.lemmas.agreement.OrderLaws.{order_each, order_once}
use Rattle.wac_merge.proofs.OrderOnce.{order_rests}
use Rattle.wac_merge_agreement.proofs.lemmas.agreement.Resting.{BindsNothing, IsNoResource, class_none, holding, member_resource, same_member, same_member_instance}
use Rattle.wac_merge_agreement.proofs.lemmas.agreement.RestCircles.{member_quiet, rests_low}
use Rattle.wac_merge_agreement.proofs.lemmas.agreement.RestLinks.{at_contains, contains_at}
use Rattle.wac_merge_agreement.proofs.lemmas.agreement.RestKinds.{all_nothing}

-- ---- what a union mentions one of its parts does
module _ (P : Leaf → Type 0) where
  pub union_mentions : (t u : Tree) → Mentions P (union t u) → Mentions P t ⊎ Mentions P u
  union_mentions absent u h = inr h
  union_mentions (type_equal t) fresh h = absurd (holding P fresh h)
  union_mentions (instance f) (instance g) h = let w = holding P (instance (λ n. union (f n) (g n))) h in below w.0 (union_mentions (f w.0) (g w.0) w.1) where
    below : (n : Name) → Mentions P (f n) ⊎ Mentions P (g n) → Mentions P (instance f) ⊎ Mentions P (instance g)
    below n (inl w) = inl (in_instance f n w)
    below n (inr w) = inr (in_instance g n w)
  union_mentions (instance_item t) (instance_item u) h = below (union_mentions t u (holding P (instance_item (union t u)) h)) where
    below : Mentions P t ⊎ Mentions P u → Mentions P (instance_item t) ⊎ Mentions P (instance_item u)
    below (inl w) = inl (in_instance_item t w)
    below (inr w) = inr (in_instance_item u w)
  union_mentions t u h = inl h

  pub all_mention : {A : Type 0} (f : A → Tree) (xs : List A) → Mentions P (union_all (map f xs)) → (i : ℕ) × (x : A) × (slice_get xs i ≡ Some x) × Mentions P (f x)
  all_mention f [] h = absurd (holding P absent h)
  all_mention f (x ∷ xs) h = by (union_mentions (f x) (union_all (map f xs)) h) (λ w. all_mention f xs w) where
    by : Mentions P (f x) ⊎ Mentions P (union_all (map f xs)) → (Mentions P (union_all (map f xs)) → (i : ℕ) × (y : _) × (slice_get xs i ≡ Some y) × Mentions P (f y))
        → (i : ℕ) × (y : _) × (slice_get (x ∷ xs) i ≡ Some y) × Mentions P (f y)
    by (inl w) more = (0, x, refl, w)
    by (inr w) more = let z = more w in (suc z.0, z.1, z.2, z.3)

-- ---- positions in an order
position_at : (order : List ℕ) (j k d : ℕ) → position_in order k ≡ j → slice_get order j ≡ Some d → k ≡ d
position_at [] j k d is at = absurd (no_some d at)
position_at (x ∷ order) j k d is at = elim (cases_Bool (x == k)) [
  | inl t ↦ first j (sym (ap (λ b. cond b 0 (suc (position_in order k))) t) ∙ is) at (eqb-true x k t)
  | inr f ↦ later j (sym (ap (λ b. cond b 0 (suc (position_in order k))) f) ∙ is) at (λ i same there. position_at order i k d same there)
]
  where
    first : (j : ℕ) → 0 ≡ j → slice_get (x ∷ order) j ≡ Some d → x ≡ k → k ≡ d
    first zero is at same = sym same ∙ some_same x d at
    first (suc j) is at same = absurd (omega (arith, is))

    later : (j : ℕ) → suc (position_in order k) ≡ j → slice_get (x ∷ order) j ≡ Some d → ((i : ℕ) → position_in order k ≡ i → slice_get order i ≡ Some d → k ≡ d) → k ≡ d
    later zero is at more = absurd (omega (arith, is))
    later (suc j) is at more = more j (omega (arith, is)) at

position_of : (order : List ℕ) (k i : ℕ) → slice_get order i ≡ Some k → slice_get order (position_in order k) ≡ Some k
position_of [] k i at = absurd (no_some k at)
position_of (x ∷ order) k i at = elim (cases_Bool (x == k)) [
  | inl t ↦ ap (λ b. slice_get (x ∷ order) (cond b 0 (suc (position_in order k)))) t ∙ ap Some (eqb-true x k t)
  | inr f ↦ ap (λ b. slice_get (x ∷ order) (cond b 0 (suc (position_in order k)))) f ∙ next i at f (λ j there. position_of order k j there)
]
  where
    next : (i : ℕ) → slice_get (x ∷ order) i ≡ Some k → (x == k) ≡ false → ((j : ℕ) → slice_get order j ≡ Some k → slice_get order (position_in order k) ≡ Some k) → slice_get order (position_in order k) ≡ Some k
    next zero at f more = absurd (false≢true (sym f ∙ eq-eqb x k (some_same x k at)))
    next (suc j) at f more = more j at

-- ---- members of classes
module _ (c : Collection) (es : List Entry) (agree : HasNoDisagreement by_names c es) (ends : HasNoCircle by_names c es) (order : List ℕ) (written : IsWrittenOrder by_names c es order) where
  has : (k : ℕ) → (Contains order k ↔ k < length (class_names by_names es))
  has = order_each by_names es c order written

  once : IsOnce order
  once = order_once by_names es c order written ends

  abbrev place : ℕ → ℕ
  place = position_in order

  abbrev root : ResourceId → Option Leaf
  root = root_bindings by_names c es place

  abbrev Means : ℕ → Tree → Type 0
  Means j t = Mentions (λ l. begins_at j l.path) t

  placed : (k i : ℕ) → slice_get order i ≡ Some k → place k ≡ i
  placed k i at = once (place k) i k (position_of order k i at) at

  -- the class that stands at a position
  meets : (j d : ℕ) → slice_get order j ≡ Some d → (k : ℕ) → (place k ≡ j) ↔ (k ≡ d)
  meets j d at k = (λ is. position_at order j k d is at, λ same. ap place same ∙ placed d j at)

  in_place : (d k : ℕ) → (k ≡ d) ↔ (k ≡ d)
  in_place d k = (λ h. h, λ h. h)

  -- past the last class nothing is bound
  none_past : (j : ℕ) → slice_get order j ≡ None → (k : ℕ) → k < length (class_names by_names es) → place k ≡ j → ⊥
  none_past j none k low is =
      let w = in_at order k (contains_in order k ((has k).1 low)) in
      no_some k (sym none ∙ ap (slice_get order) (sym is ∙ placed k w.0 w.1) ∙ w.1)

  module _ (p k : ℕ) (class : Name) (e : Entry) (at : slice_get order p ≡ Some k) (known : slice_get (class_names by_names es) k ≡ Some class) (member : Contains (members by_names es class) e) where
    there : (i : ℕ) × (slice_get es i ≡ Some e) × (same_class by_names es class e.name ≡ true)
    there = let m = at_contains (members by_names es class) e member in at-filter (λ (y : Entry). same_class by_names es class y.name) es m.0 e m.1

    nothing : BindsNothing e.kind → (r : ResourceId) → class_binds by_names c es class r ≡ None
    nothing none = class_none by_names c es class (all_nothing c es agree class there.0 e there.1 there.2 none)

    -- what stands at a position is mentioned as the class's number is where each class stands at its number
    module _ (j d : ℕ) (found : slice_get order j ≡ Some d) (apart : j ≢ p) (other : d ≢ k) where
      abbrev To : ItemKind → Type 0
      To x = Means j (member_tree by_names c es class p root x) → Means d (member_tree by_names c es class k (root_bindings by_names c es (λ l. l)) x)

      to_plain : (x : ItemKind) → e.kind ≡ x → BindsNothing x → IsNoResource x → To x
      to_plain x is none plain h =
          let binds = nothing (subst (λ (y : ItemKind). BindsNothing y) (sym is) none) in
          (same_member d d (λ l. l) (in_place d) by_names c es class k x binds plain).1 ((same_member j d place (meets j d found) by_names c es class p x binds plain).0 h)

      to_number : (x : ItemKind) → e.kind ≡ x → To x
      to_number (kind.Instance i) is h =
          (same_member_instance d d (λ l. l) (in_place d) by_names c es class k i).1 ((same_member_instance j d place (meets j d found) by_names c es class p i).0 h)
      to_number (kind.TypeItem (ty.Resource q)) is h =
          (member_resource d d (λ l. l) (in_place d) by_names c es class k q other).1 ((member_resource j d place (meets j d found) by_names c es class p q apart).0 h)
      to_number (kind.TypeItem (ty.Func f)) is h = to_plain (kind.TypeItem (ty.Func f)) is tt tt h
      to_number (kind.TypeItem (ty.Value v)) is h = to_plain (kind.TypeItem (ty.Value v)) is tt tt h
      to_number (kind.TypeItem (ty.Interface i)) is h = to_plain (kind.TypeItem (ty.Interface i)) is tt tt h
      to_number (kind.TypeItem (ty.World w)) is h = to_plain (kind.TypeItem (ty.World w)) is tt tt h
      to_number (kind.TypeItem (ty.Module m)) is h = to_plain (kind.TypeItem (ty.Module m)) is tt tt h
      to_number (kind.Func f) is h = to_plain (kind.Func f) is tt tt h
      to_number (kind.Component w) is h = to_plain (kind.Component w) is tt tt h
      to_number (kind.Module m) is h = to_plain (kind.Module m) is tt tt h
      to_number (kind.Value v) is h = to_plain (kind.Value v) is tt tt h

      earlier : Means j (member_tree by_names c es class p root e.kind) → j < p
      earlier h =
          let rests : RestsOn by_names c es k d = by_resource k d class e (λ same. other (sym same)) known member (to_number e.kind refl h) in
          let w = order_rests c es order written p k d rests (rests_low c es k d rests) at in
          let same : w.0 ≡ j = once w.0 j d w.2 found in
          omega (arith, w.1, same)

    -- a member's item mentions no class that stands behind its own
    pub member_mentions : (j : ℕ) → Means j (member_tree by_names c es class p root e.kind) → j ≤ p
    member_mentions j h = by (slice_get order j) refl (nat_cmp j p) refl where
      by : (o : Option ℕ) → slice_get order j ≡ o → (z : Ordering) → z ≡ nat_cmp j p → j ≤ p
      by None none z is = absurd (member_quiet c es place j (none_past j none) class p e.kind h)
      by (Some d) found Less is = let less : j < p = ranked j p Less is in omega (arith, less)
      by (Some d) found Equal is = let same : j ≡ p = ranked j p Equal is in omega (arith, same)
      by (Some d) found Greater is =
          let more : p < j = ranked j p Greater is in
          let apart : j ≢ p = λ same. omega (arith, more, same) in
          let other : d ≢ k = λ same. apart (once j p k (found ∙ ap Some same) at) in
          let less = earlier j d found apart other h in
          absurd (omega (arith, less, more))

  -- nor does the item of a class
  pub merged_mentions : (p k : ℕ) (class : Name) → slice_get order p ≡ Some k → slice_get (class_names by_names es) k ≡ Some class → (j : ℕ) → Means j (merged by_names c es root p class) → j ≤ p
  merged_mentions p k class at known j h =
      let (i, e, there, w) = all_mention (λ (l : Leaf). begins_at j l.path) (λ (e : Entry). member_tree by_names c es class p root e.kind) (members by_names es class) h in
      member_mentions p k class e at known (contains_at (members by_names es class) i e there) j w
