-- What resources become, as parts are walked outwards.
use Rattle.std.proofs.Common.{◌≡◌, ℕ, zero, suc, ◌<◌, ◌≤◌, List, [], ◌∷◌, ◌++◌, take, length, Option, Some, None, slice_get, get_or, refl, sym, ap, ◌∙◌, subst, arith, inl, inr}
use Rattle.std.proofs.lemmas.Option.{slice_get_read, slice_get_within}
use Rattle.std.specs.Option.{unwrap_or}
use Rattle.wac_types_shapes.specs.primitives.Name.{Name, option_case}
use Rattle.wac_types_shapes.specs.primitives.Tree.{Leaf, exported, named}
use Rattle.wac_types_collection.specs.collection.Collection.{Collection, item_at}
use Rattle.wac_types_collection.specs.collection.Bound.{own_name}
use Rattle.wac_types_collection.specs.subtyping.Called.{own_leaf}
use Rattle.wac_types_shapes.specs.declared.shapes.component.Interface.{Interface}
use Rattle.wac_types_shapes.specs.declared.shapes.component.ResourceId.{ResourceId}
use Rattle.wac_types_shapes.proofs.lemmas.shapes.Names.{take_at}
use Rattle.wac_types_collection.specs.subtyping.CalledViews.{path_view}
use Rattle.wac_merge_classes.specs.entries.Places.{find_resource, leaf_at, place_view}
use Rattle.wac_merge_classes.specs.entries.Bindings.{ClassBindings}
use Rattle.wac_merge_classes.specs.terms.Became.{AreBoundParts, became, became_in_class, became_to, new_at, or_itself, own_in, own_of_part}
use Rattle.wac_merge_classes.specs.terms.Unions.{AreAround, IsPart}
use Rattle.wac_merge_classes.specs.declared.entries.bound.Place.{Place as APlace}
use Rattle.wac_merge_classes.specs.declared.terms.fresh.Fresh.{Fresh}
use Rattle.wac_merge_classes.specs.declared.terms.parts.Part.{Part}
use Rattle.wac_merge_classes.proofs.lemmas.entries.Lists.{at-end, at-push, push-cases, some-at}

some-same : {A : Type 0} (x y : A) → Some x ≡ Some y → x ≡ y
some-same x y e = cc

-- ---- a walk outwards

-- a walk from a part has come to another: the resource becomes there what it becomes where the walk began
pub record IsAround (c : Collection) (ps : List Part) (bounds : List (List (ResourceId × Leaf))) (bs : ClassBindings) (f : Fresh) (start position : ℕ) (r : ResourceId) : Type 0 where
  pub near : position < length ps
  pub bound : position < length bounds
  pub depth : ℕ
  pub deep : position ≤ depth
  pub same : became c ps bs f (Some start) r ≡ became_to (suc depth) c ps bs f position r

module _ (c : Collection) (ps : List Part) (bounds : List (List (ResourceId × Leaf))) (bs : ClassBindings) (f : Fresh) (are : AreBoundParts c ps bounds) where
  bound-near : (p : ℕ) (x : Part) → slice_get ps p ≡ Some x → p < length bounds
  bound-near p x at = let w = are p x at in slice_get_within bounds p w.0 w.1

  pub around-start : (start : ℕ) (r : ResourceId) → IsPart ps (Some start) → IsAround c ps bounds bs f start start r
  around-start start r low =
      let x = some-at ps start low in
      record { near = low; bound = bound-near start x.0 x.1; depth = start; deep = omega arith; same = refl }

  module _ (start position : ℕ) (r : ResourceId) (x : Part) (m : List (ResourceId × Leaf)) (at : slice_get ps position ≡ Some x) (read : m ≡ get_or bounds position m) (was : IsAround c ps bounds bs f start position r) where
    binds : find_resource m r ≡ option_case (item_at c.interfaces x.interface.0) None (λ it. own_leaf c it r)
    binds =
        let w = are position x at in
        let same : w.0 ≡ m = some-same w.0 m (sym w.1 ∙ slice_get_read bounds (length bounds) position m refl was.bound read) in
        subst (λ (y : List (ResourceId × Leaf)). find_resource y r ≡ option_case (item_at c.interfaces x.interface.0) None (λ it. own_leaf c it r)) same (w.2 r)

    here : became c ps bs f (Some start) r ≡ option_case (own_of_part c x r) (option_case x.outer (became_in_class bs f x.union r) (λ o. became_to was.depth c ps bs f o r)) (λ n. or_itself r (own_in f x.union n))
    here = was.same ∙ ap (λ o. option_case o r (λ y. option_case (own_of_part c y r) (option_case y.outer (became_in_class bs f y.union r) (λ q. became_to was.depth c ps bs f q r)) (λ n. or_itself r (own_in f y.union n)))) at

    -- the leaf of a name
    leafed : (o : Option Interface) → option_case o None (λ it. own_leaf c it r) ≡ option_case (option_case o None (λ it. own_name c it.uses it.exports r)) None (λ n. Some (leaf_at exported (named n ∷ [])))
    leafed None = refl
    leafed (Some it) = refl

    -- a part that binds it
    pub around-bound : (l : APlace) → find_resource m r ≡ Some (place_view l) → became c ps bs f (Some start) r ≡ or_itself r (new_at f x.union (path_view l.path.items))
    around-bound l is = by (own_of_part c x r) refl (sym (leafed (item_at c.interfaces x.interface.0)) ∙ sym binds ∙ is) where
      by : (o : Option Name) → own_of_part c x r ≡ o → option_case (own_of_part c x r) None (λ n. Some (leaf_at exported (named n ∷ []))) ≡ Some (place_view l)
          → became c ps bs f (Some start) r ≡ or_itself r (new_at f x.union (path_view l.path.items))
      by None own e = absurd (no (sym (ap (λ o. option_case o None (λ n. Some (leaf_at exported (named n ∷ [])))) own) ∙ e)) where
        no : None ≡ Some (place_view l) → ⊥
        no e = cc
      by (Some n) own e =
          let leaf : leaf_at exported (named n ∷ []) ≡ place_view l = some-same _ _ (sym (ap (λ o. option_case o None (λ y. Some (leaf_at exported (named y ∷ [])))) own) ∙ e) in
          here
          ∙ ap (λ o. option_case o (option_case x.outer (became_in_class bs f x.union r) (λ q. became_to was.depth c ps bs f q r)) (λ y. or_itself r (own_in f x.union y))) own
          ∙ ap (λ path. or_itself r (new_at f x.union path)) (ap (λ (y : Leaf). y.path) leaf)

    unbound : find_resource m r ≡ None → own_of_part c x r ≡ None
    unbound none = by (own_of_part c x r) (sym (leafed (item_at c.interfaces x.interface.0)) ∙ sym binds ∙ none) where
      by : (o : Option Name) → option_case o None (λ n. Some (leaf_at exported (named n ∷ []))) ≡ None → o ≡ None
      by None e = refl
      by (Some n) e = cc

    -- an outermost part that does not
    pub around-past : x.outer ≡ None → find_resource m r ≡ None → became c ps bs f (Some start) r ≡ became_in_class bs f x.union r
    around-past outer none =
        here
        ∙ ap (λ o. option_case o (option_case x.outer (became_in_class bs f x.union r) (λ q. became_to was.depth c ps bs f q r)) (λ y. or_itself r (own_in f x.union y))) (unbound none)
        ∙ ap (λ o. option_case o (became_in_class bs f x.union r) (λ q. became_to was.depth c ps bs f q r)) outer

    module _ (around : AreAround ps) where
      -- another part that does not
      pub around-on : (o : ℕ) → x.outer ≡ Some o → find_resource m r ≡ None → IsAround c ps bounds bs f start o r
      around-on o outer none =
          let below : o < position = around position o x at outer in
          go was.depth was.deep below
          (here
          ∙ ap (λ y. option_case y (option_case x.outer (became_in_class bs f x.union r) (λ q. became_to was.depth c ps bs f q r)) (λ n. or_itself r (own_in f x.union n))) (unbound none)
          ∙ ap (λ y. option_case y (became_in_class bs f x.union r) (λ q. became_to was.depth c ps bs f q r)) outer)
        where
          go : (d : ℕ) → position ≤ d → o < position → became c ps bs f (Some start) r ≡ became_to d c ps bs f o r → IsAround c ps bounds bs f start o r
          go zero deep below same = absurd (omega (arith, deep, below))
          go (suc d) deep below same =
              let w = was.near in
              let v = was.bound in
              record { near = omega (arith, below, w); bound = omega (arith, below, v); depth = d; deep = omega (arith, below, deep); same = same }

-- ---- what parts bind

-- one more part
pub bounds-more : (c : Collection) (ps : List Part) (bounds : List (List (ResourceId × Leaf))) (i : ℕ) (x : Part) (m : List (ResourceId × Leaf)) → length bounds ≡ i → AreBoundParts c (take i ps) bounds → slice_get ps i ≡ Some x
    → ((r : ResourceId) → find_resource m r ≡ option_case (item_at c.interfaces x.interface.0) None (λ it. own_leaf c it r)) → AreBoundParts c (take (suc i) ps) (bounds ++ m ∷ [])
bounds-more c ps bounds i x m count are at finds p y here = elim (push-cases (take i ps) x p y (ap (λ l. slice_get l p) (sym (take_at ps i x at)) ∙ here)) [
  | inl old ↦ let w = are p y old in (w.0, at-push bounds m p w.0 w.1, w.2)
  | inr new ↦ (
    m,
    ap (slice_get (bounds ++ m ∷ [])) (new.0 ∙ taken ps i x at ∙ sym count) ∙ at-end bounds m,
    λ r. finds r ∙ ap (λ (z : Part). option_case (item_at c.interfaces z.interface.0) None (λ it. own_leaf c it r)) (sym new.1),
  )
]
  where
    taken : {A : Type 0} (xs : List A) (k : ℕ) (a : A) → slice_get xs k ≡ Some a → length (take k xs) ≡ k
    taken [] k a e = cc e
    taken (b ∷ xs) zero a e = refl
    taken (b ∷ xs) (suc k) a e = ap suc (taken xs k a e)

-- what a slice of parts is read with
abbrev pub no-part : Part
no-part = record { interface = record { 0 = 0 }; outer = None; union = 0 }

pub itself-or : (o : Option ResourceId) (r : ResourceId) → unwrap_or o r ≡ or_itself r o
itself-or None r = refl
itself-or (Some q) r = refl
