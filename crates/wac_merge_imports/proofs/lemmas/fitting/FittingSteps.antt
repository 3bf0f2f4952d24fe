-- What a resource becomes, step by step, and that it is no own resource of another union.
use Rattle.std.proofs.Common.{◌≡◌, ℕ, zero, suc, ◌+◌, ◌<◌, List, [], ◌∷◌, slice_get, Option, Some, None, refl, sym, ap, ◌∙◌, subst, arith}
use Rattle.wac_types_shapes.specs.primitives.Name.{Name, option_case}
use Rattle.wac_types_shapes.specs.primitives.Tree.{Place, position, named}
use Rattle.wac_types_collection.specs.collection.Collection.{Collection, HasResource}
use Rattle.wac_types_shapes.specs.declared.shapes.component.InterfaceId.{InterfaceId}
use Rattle.wac_types_shapes.specs.declared.shapes.component.ResourceId.{ResourceId}
use Rattle.wac_merge_classes.specs.declared.terms.fresh.Fresh.{Fresh}
use Rattle.wac_merge_classes.specs.declared.terms.parts.Part.{Part}
use Rattle.wac_merge_classes.specs.declared.terms.parts.Union.{Union}
use Rattle.wac_merge_classes.specs.terms.Became.{AreFresh, became_in_class, became_outside, became_to, new_at, or_itself, own_in, own_of_part}
use Rattle.wac_merge_classes.specs.entries.Binding.{binding_from, class_binds}
use Rattle.wac_merge_classes.specs.entries.Bindings.{AreBindings, ClassBindings, first_in, path_in}
use Rattle.wac_merge_classes.specs.entries.Classes.{Entry, NameRules, by_names, class_names}
use Rattle.wac_merge_classes.specs.entries.Places.{find_resource}
use Rattle.wac_merge_classes.specs.terms.Unions.{AreAround, AreUnions}
use Rattle.wac_merge_classes.proofs.lemmas.terms.Found.{no_some, some_same}

-- ---- the class that binds a resource first

abbrev pub Bound : Type 0
Bound = ℕ × List Place

abbrev pub bound : ℕ → List Place → Bound
bound k path = (k, path)

pub pair-same : (k l : ℕ) (a b : List Place) → Some (bound k a) ≡ Some (bound l b) → (k ≡ l) × (a ≡ b)
pair-same k l a b e = let same : bound k a ≡ bound l b = some_same (bound k a) (bound l b) e in (ap (λ x. x.0) same, ap (λ x. x.1) same)

-- it binds it
pub first-path : (bs : ClassBindings) (r : ResourceId) (k : ℕ) (path : List Place) → first_in bs r ≡ Some (k, path) → path_in bs k r ≡ Some path
first-path bs r k path e = go (find_resource bs.firsts r) e where
  inner : (j : ℕ) (o : Option (List Place)) → path_in bs j r ≡ o → option_case o None (λ p. Some (bound j p)) ≡ Some (bound k path) → path_in bs k r ≡ Some path
  inner j None is e = absurd (no_some (bound k path) e)
  inner j (Some p) is e =
      let same = pair-same j k p path e in
      ap (λ i. path_in bs i r) (sym same.0) ∙ is ∙ ap Some same.1

  go : (o : Option ℕ) → option_case o None (λ k. option_case (path_in bs k r) None (λ path. Some (bound k path))) ≡ Some (bound k path) → path_in bs k r ≡ Some path
  go None e = absurd (no_some (bound k path) e)
  go (Some j) e = inner j (path_in bs j r) refl e

-- a class of those that are gone through
pub record IsBinding (rules : NameRules) (c : Collection) (es : List Entry) (classes : List Name) (r : ResourceId) (j : ℕ) (path : List Place) : Type 0 where
  pub class : Name
  pub at : slice_get classes j ≡ Some class
  pub binds : class_binds rules c es class r ≡ Some path

pub binding-at : (rules : NameRules) (c : Collection) (es : List Entry) (i : ℕ) (classes : List Name) (r : ResourceId) (k : ℕ) (path : List Place) → binding_from rules c es i classes r ≡ Some (k, path)
    → (j : ℕ) × (k ≡ i + j) × IsBinding rules c es classes r j path
binding-at rules c es i [] r k path e = absurd (no_some (bound k path) e)
binding-at rules c es i (class ∷ rest) r k path e = go (λ h. binding-at rules c es (suc i) rest r k path h) (class_binds rules c es class r) refl e where
  go : (binding_from rules c es (suc i) rest r ≡ Some (k, path) → (j : ℕ) × (k ≡ suc i + j) × IsBinding rules c es rest r j path)
      → (o : Option (List Place)) → class_binds rules c es class r ≡ o → option_case o (binding_from rules c es (suc i) rest r) (λ p. Some (bound i p)) ≡ Some (bound k path)
      → (j : ℕ) × (k ≡ i + j) × IsBinding rules c es (class ∷ rest) r j path
  go later None is e =
      let w = later e in
      let count : k ≡ i + suc w.0 = omega (arith, w.1) in
      (suc w.0, count, record { class = (w.2).class; at = (w.2).at; binds = (w.2).binds })
  go later (Some p) is e =
      let same = pair-same i k p path e in
      let count : k ≡ i + 0 = omega (arith, same.0) in
      (0, count, record { class = class; at = refl; binds = is ∙ ap Some same.1 })

-- it is one of the classes
pub first-class : (c : Collection) (es : List Entry) (bs : ClassBindings) → AreBindings c es bs → (r : ResourceId) (k : ℕ) (path : List Place) → first_in bs r ≡ Some (k, path)
    → IsBinding by_names c es (class_names by_names es) r k path
first-class c es bs bindings r k path e =
    let w = binding-at by_names c es 0 (class_names by_names es) r k path (sym (bindings.firsts r) ∙ e) in
    let count : w.0 ≡ k = omega (arith, w.1) in
    subst (λ j. IsBinding by_names c es (class_names by_names es) r j path) count w.2

-- ---- what a resource becomes in a part

module _ (c : Collection) (ps : List Part) (bs : ClassBindings) (f : Fresh) where
  -- around a part
  abbrev pub around_part : (ℕ → ResourceId) → ResourceId → Part → ResourceId
  around_part g r x = option_case x.outer (became_in_class bs f x.union r) g

  -- in a part
  abbrev pub within_part : (ℕ → ResourceId) → ResourceId → Part → ResourceId
  within_part g r x = option_case (own_of_part c x r) (around_part g r x) (λ n. or_itself r (own_in f x.union n))

  module _ (p : ℕ) (y : Part) (at : slice_get ps p ≡ Some y) where
    pub in-part : (k : ℕ) (r : ResourceId) → became_to (suc k) c ps bs f p r ≡ within_part (λ o. became_to k c ps bs f o r) r y
    in-part k r = ap (λ (w : Option Part). option_case w r (within_part (λ o. became_to k c ps bs f o r) r)) at

    pub in-part-own : (k : ℕ) (r q : ResourceId) (n : Name) → own_of_part c y r ≡ Some n → own_in f y.union n ≡ Some q → became_to (suc k) c ps bs f p r ≡ q
    in-part-own k r q n own new =
        in-part k r ∙ ap (λ (o : Option Name). option_case o (around_part (λ o. became_to k c ps bs f o r) r y) (λ n. or_itself r (own_in f y.union n))) own ∙ ap (or_itself r) new

    pub in-part-around : (k : ℕ) (r : ResourceId) → own_of_part c y r ≡ None → became_to (suc k) c ps bs f p r ≡ around_part (λ o. became_to k c ps bs f o r) r y
    in-part-around k r own = in-part k r ∙ ap (λ (o : Option Name). option_case o (around_part (λ o. became_to k c ps bs f o r) r y) (λ n. or_itself r (own_in f y.union n))) own

  -- no more steps are taken than parts lie around
  pub enough : AreAround ps → (k j p : ℕ) → p < k → p < j → (r : ResourceId) → became_to k c ps bs f p r ≡ became_to j c ps bs f p r
  enough around zero j p lt less r = absurd (omega (arith, lt))
  enough around (suc k) zero p lt less r = absurd (omega (arith, less))
  enough around (suc k) (suc j) p lt less r = go (λ o h g. enough around k j o h g r) (slice_get ps p) refl where
    go : ((o : ℕ) → o < k → o < j → became_to k c ps bs f o r ≡ became_to j c ps bs f o r) → (w : Option Part) → slice_get ps p ≡ w
        → option_case w r (within_part (λ o. became_to k c ps bs f o r) r) ≡ option_case w r (within_part (λ o. became_to j c ps bs f o r) r)
    go ih None at = refl
    go ih (Some x) at = ap (λ (v : ResourceId). option_case (own_of_part c x r) v (λ n. or_itself r (own_in f x.union n))) (inner x.outer refl) where
      inner : (o : Option ℕ) → x.outer ≡ o → option_case o (became_in_class bs f x.union r) (λ o. became_to k c ps bs f o r) ≡ option_case o (became_in_class bs f x.union r) (λ o. became_to j c ps bs f o r)
      inner None e = refl
      inner (Some o) e = let below = around p o x at e in ih o (omega (arith, lt, below)) (omega (arith, less, below))

-- ---- what a resource becomes is no own resource of another union

module _ (c m : Collection) (us : List Union) (ps : List Part) (bs : ClassBindings) (f : Fresh) (fresh : AreFresh c us bs f m) (v : ℕ) where
  -- it is no own resource of the union
  abbrev pub IsOther : ResourceId → Type 0
  IsOther t = (n : Name) → own_in f v n ≡ Some t → ⊥

  old-other : (t : ResourceId) → HasResource c t → IsOther t
  old-other t held n own = let added = (fresh.own v n t own).added in omega (arith, held, added)

  itself-other : (t : ResourceId) (o : Option ResourceId) → HasResource c t → ((q : ResourceId) → o ≡ Some q → IsOther q) → IsOther (or_itself t o)
  itself-other t None held other = old-other t held
  itself-other t (Some q) held other = other q refl

  own-other : (u : ℕ) (n : Name) (q : ResourceId) → (u ≡ v → ⊥) → own_in f u n ≡ Some q → IsOther q
  own-other u n q apart is o own = apart (fresh.once u v n o q is own).0

  new-other : (k : ℕ) (path : List Place) (q : ResourceId) → (k ≡ v → ⊥) → new_at f k path ≡ Some q → IsOther q
  new-other k [] q apart is = λ n own. fresh.apart k v n q is own
  new-other k (position i ∷ path) q apart is = absurd (no_some q is)
  new-other k (named n ∷ []) q apart is = own-other k n q apart is
  new-other k (named n ∷ p ∷ path) q apart is = absurd (no_some q is)

  module _ (s : ResourceId) (held : HasResource c s) (elsewhere : (k : ℕ) (path : List Place) → first_in bs s ≡ Some (k, path) → k ≡ v → ⊥) where
    pub outside-other : IsOther (became_outside bs f s)
    outside-other = go (first_in bs s) refl where
      go : (o : Option (ℕ × List Place)) → first_in bs s ≡ o → IsOther (option_case o s (λ b. or_itself s (new_at f b.0 b.1)))
      go None e = old-other s held
      go (Some b) e = itself-other s (new_at f b.0 b.1) held (λ q is. new-other b.0 b.1 q (elsewhere b.0 b.1 e) is)

    pub class-other : (k : ℕ) → (k ≡ v → ⊥) → IsOther (became_in_class bs f k s)
    class-other k apart = go (path_in bs k s) where
      go : (o : Option (List Place)) → IsOther (option_case o (became_outside bs f s) (λ path. or_itself s (new_at f k path)))
      go None = outside-other
      go (Some path) = itself-other s (new_at f k path) held (λ q is. new-other k path q apart is)

    module _ (roots : List (List InterfaceId)) (unions : AreUnions c roots us ps) where
      -- nor in the parts of earlier unions
      pub part-other : (k p : ℕ) → ((y : Part) → slice_get ps p ≡ Some y → y.union < v) → IsOther (became_to k c ps bs f p s)
      part-other zero p before = old-other s held
      part-other (suc k) p before = go (λ o h. part-other k o h) (slice_get ps p) refl where
        go : ((o : ℕ) → ((y : Part) → slice_get ps o ≡ Some y → y.union < v) → IsOther (became_to k c ps bs f o s)) → (w : Option Part) → slice_get ps p ≡ w
            → IsOther (option_case w s (within_part c ps bs f (λ o. became_to k c ps bs f o s) s))
        go ih None at = old-other s held
        go ih (Some y) at = by (own_of_part c y s) where
          apart : y.union ≡ v → ⊥
          apart e = let less = before y at in omega (arith, e, less)

          outer : (o : Option ℕ) → y.outer ≡ o → IsOther (option_case o (became_in_class bs f y.union s) (λ o. became_to k c ps bs f o s))
          outer None e = class-other y.union apart
          outer (Some o) e = ih o (λ z there. let later = (unions.inner p o y z at e there).1 in let less = before y at in omega (arith, later, less))

          by : (o : Option Name) → IsOther (option_case o (around_part c ps bs f (λ o. became_to k c ps bs f o s) s y) (λ n. or_itself s (own_in f y.union n)))
          by None = outer y.outer refl
          by (Some n) = itself-other s (own_in f y.union n) held (λ q is. own-other y.union n q apart is)
