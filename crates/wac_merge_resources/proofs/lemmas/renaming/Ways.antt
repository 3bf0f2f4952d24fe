-- The way out of a part: where it leads, and what resources become there.
use Rattle.std.proofs.Common.{◌≡◌, ℕ, ◌<◌, List, [], ◌∷◌, ◌++◌, inl, inr, ◌⊎◌, length, Option, Some, None, slice_get, get_or, refl, sym, ap, ◌∙◌, subst, arith}
use Rattle.std.proofs.lemmas.Option.{slice_get-get_or}
use Rattle.wac_types_shapes.specs.primitives.Tree.{Leaf}
use Rattle.wac_types_collection.specs.collection.Collection.{Collection}
use Rattle.wac_types_shapes.specs.declared.shapes.component.ResourceId.{ResourceId}
use Rattle.wac_merge_classes.specs.entries.Bindings.{ClassBindings}
use Rattle.wac_merge_classes.specs.entries.Places.{find_resource}
use Rattle.wac_merge_classes.proofs.lemmas.entries.Lists.{push-cases}
use Rattle.wac_merge_classes.specs.terms.Became.{AreBoundParts}
use Rattle.wac_merge_classes.specs.terms.Unions.{AreAround}
use Rattle.wac_merge_classes.specs.declared.terms.fresh.Fresh.{Fresh}
use Rattle.wac_merge_classes.specs.declared.terms.parts.Part.{Part}
use Rattle.wac_merge_resources.specs.private.renaming.Ways.{LeadsOut, outermost, binding, beyond, HaveWays}
use Rattle.wac_merge_resources.proofs.lemmas.renaming.BecameWalks.{IsAround, around-on}

some-same : {A : Type 0} (x y : A) → Some x ≡ Some y → x ≡ y
some-same x y e = cc

module _ (ps : List Part) (bounds : List (List (ResourceId × Leaf))) where
  -- where there is no way out there is no part around
  pub ends : (o w : Option ℕ) → LeadsOut ps bounds o w → w ≡ None → o ≡ None
  ends o w outermost e = refl
  ends o w (binding p b) e = cc
  ends o w (beyond p x q at empty deep) e = cc

  -- the same of what stands at the position
  pub at-one : (i : ℕ) (y : Part) (w : Option ℕ) → slice_get ps i ≡ Some y → LeadsOut ps bounds y.outer w → (x : Part) → slice_get ps i ≡ Some x → LeadsOut ps bounds x.outer w
  at-one i y w at leads x there = subst (λ (z : Part). LeadsOut ps bounds z.outer w) (some-same y x (sym at ∙ there)) leads

  pub nowhere : (o w : Option ℕ) → o ≡ None → w ≡ None → LeadsOut ps bounds o w
  nowhere o w none is = subst (λ (x : Option ℕ). LeadsOut ps bounds x w) (sym none) (subst (λ (x : Option ℕ). LeadsOut ps bounds None x) (sym is) outermost)

  pub through : (i p : ℕ) (y : Part) (w : Option ℕ) → slice_get ps i ≡ Some y → y.outer ≡ Some p → LeadsOut ps bounds (Some p) w → (x : Part) → slice_get ps i ≡ Some x → LeadsOut ps bounds x.outer w
  through i p y w at inside leads = at-one i y w at (subst (λ (o : Option ℕ). LeadsOut ps bounds o w) (sym inside) leads)

  no-entry : (b : List (ResourceId × Leaf)) → length b ≡ 0 → b ≡ []
  no-entry [] e = refl
  no-entry (x ∷ b) e = absurd (omega (arith, e))

  -- a part that binds something
  pub to-binding : (p : ℕ) (b : List (ResourceId × Leaf)) → slice_get bounds p ≡ Some b → (length b ≡ 0 → ⊥) → LeadsOut ps bounds (Some p) (Some p)
  to-binding p b at some = binding p (λ x there none. absurd (some (ap (λ (l : List (ResourceId × Leaf)). length l) (some-same b [] (sym at ∙ none)))))

  module _ (ws : List (Option ℕ)) (have : HaveWays ps bounds ws) where
    -- an outermost part
    pub to-outermost : (p : ℕ) → slice_get ws p ≡ Some None → LeadsOut ps bounds (Some p) (Some p)
    to-outermost p at = binding p (λ x there none. ends x.outer None (have p x None there at) refl)

    -- past a part that binds nothing
    pub to-beyond : (p : ℕ) (x : Part) (b : List (ResourceId × Leaf)) (q : ℕ) → slice_get ps p ≡ Some x → slice_get bounds p ≡ Some b → length b ≡ 0 → slice_get ws p ≡ Some (Some q) → LeadsOut ps bounds (Some p) (Some q)
    to-beyond p x b q there at none way = beyond p x q there (at ∙ ap (λ l. Some l) (no-entry b none)) (have p x (Some q) there way)

    pub ways-more : (i : ℕ) (w : Option ℕ) → length ws ≡ i → ((x : Part) → slice_get ps i ≡ Some x → LeadsOut ps bounds x.outer w) → HaveWays ps bounds (ws ++ w ∷ [])
    ways-more i w count leads = λ j x v there found. one j x v there (push-cases ws w j v found) where
      one : (j : ℕ) (x : Part) (v : Option ℕ) → slice_get ps j ≡ Some x → (slice_get ws j ≡ Some v) ⊎ ((j ≡ length ws) × (v ≡ w)) → LeadsOut ps bounds x.outer v
      one j x v there (inl before) = have j x v there before
      one j x v there (inr (last, same)) =
          subst (λ (y : Option ℕ). LeadsOut ps bounds x.outer y) (sym same) (leads x (sym (ap (λ (n : ℕ). slice_get ps n) (last ∙ count)) ∙ there))

  module _ (around : AreAround ps) where
    -- it leads to an earlier part
    pub way-below : (o w : Option ℕ) → LeadsOut ps bounds o w → (i : ℕ) → ((p : ℕ) → o ≡ Some p → p < i) → (q : ℕ) → w ≡ Some q → q < i
    way-below o w outermost i below q e = cc
    way-below o w (binding p b) i below q e = below q e
    way-below o w (beyond p x u at empty deep) i below q e =
        let here : p < i = below p refl in
        way-below x.outer (Some u) deep i (λ o inside. let further : o < p = around p o x at inside in omega (arith, here, further)) q e

    module _ (c : Collection) (bs : ClassBindings) (f : Fresh) (are : AreBoundParts c ps bounds) (start : ℕ) (r : ResourceId) where
      -- a resource that a part does not bind becomes there what it becomes where the way leads
      pub around-way : (o w : Option ℕ) → LeadsOut ps bounds o w → (position : ℕ) (x : Part) (m : List (ResourceId × Leaf)) → slice_get ps position ≡ Some x → m ≡ get_or bounds position m → IsAround c ps bounds bs f start position r
          → x.outer ≡ o → find_resource m r ≡ None → (q : ℕ) → w ≡ Some q → IsAround c ps bounds bs f start q r
      around-way o w outermost position x m at read was outer none q e = cc
      around-way o w (binding p b) position x m at read was outer none q e =
          subst (λ (k : ℕ). IsAround c ps bounds bs f start k r) (some-same p q e) (around-on c ps bounds bs f are start position r x m at read was around p outer none)
      around-way o w (beyond p y u there empty deep) position x m at read was outer none q e =
          let next = around-on c ps bounds bs f are start position r x m at read was around p outer none in
          around-way y.outer (Some u) deep p y [] there (some-same [] (get_or bounds p []) (sym empty ∙ slice_get-get_or bounds p [] next.bound)) next refl refl q e
