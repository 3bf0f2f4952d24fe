-- What resources become is held, is no alias, and has their names.
use Rattle.std.proofs.Common.{◌≡◌, ℕ, zero, suc, ◌<◌, List, [], length, slice_get, Option, Some, None, refl, sym, ap, ◌∙◌, subst, inl, inr, arith}
use Rattle.std.proofs.lemmas.Option.{slice_get_within}
use Rattle.wac_types_shapes.specs.primitives.Name.{Name, option_case}
use Rattle.wac_types_shapes.specs.primitives.Tree.{Place}
use Rattle.wac_types_collection.specs.collection.Collection.{Collection, HasResource, IsWellFormed, item_at}
use Rattle.wac_types_collection.specs.collection.Held.{resolved, resolved_in, source_of}
use Rattle.wac_types_collection.specs.collection.Bound.{own_name}
use Rattle.wac_types_collection.specs.collection.Uses.{IsSound}
use Rattle.wac_types_shapes.specs.declared.shapes.component.Interface.{Interface}
use Rattle.wac_types_shapes.specs.declared.shapes.component.InterfaceId.{InterfaceId}
use Rattle.wac_types_shapes.specs.declared.shapes.component.ResourceId.{ResourceId}
use Rattle.wac_types_collection.specs.subtyping.Called.{resource_name}
use Rattle.wac_types_collection.specs.subtyping.Subtype.{held_name, resource_names}
use Rattle.wac_merge_classes.specs.declared.terms.fresh.Fresh.{Fresh}
use Rattle.wac_merge_classes.specs.declared.terms.parts.Part.{Part}
use Rattle.wac_merge_classes.specs.declared.terms.parts.Union.{Union}
use Rattle.wac_merge_classes.specs.terms.Became.{AreFresh, IsNew, became, became_in_class, became_outside, became_to, new_at, or_itself, own_in, own_of_part, whole_in}
use Rattle.wac_merge_classes.specs.entries.Bindings.{AreBindings, ClassBindings, first_in, path_in}
use Rattle.wac_merge_classes.specs.entries.Classes.{Entry, by_names, class_names}
use Rattle.wac_merge_classes.specs.private.terms.MergedKinds.{AreNamedAlike}
use Rattle.wac_merge_classes.specs.terms.Renaming.{AreEnds}
use Rattle.wac_types_collection.specs.private.subtyping.Extended.{IsExtended}
use Rattle.wac_merge_classes.specs.terms.Unions.{AreUnions}
use Rattle.wac_merge_imports.proofs.lemmas.fitting.BecameEndsNames.{IsPathOf, class-bound, held-name, interface-names}
use Rattle.wac_merge_classes.proofs.lemmas.terms.Found.{no_some}
use Rattle.wac_merge_imports.proofs.lemmas.fitting.FittingOwn.{end-no-source}
use Rattle.wac_merge_imports.proofs.lemmas.fitting.FittingSteps.{around_part, first-class, first-path, within_part}
use Rattle.wac_merge_classes.proofs.lemmas.entries.Lists.{some-at}
use Rattle.wac_merge_classes.proofs.lemmas.entries.Walking.{resolved-held}

pub no-source : (c : Collection) (n : ℕ) (r : ResourceId) → source_of (slice_get c.resources r.0) ≡ None → resolved_in n c r ≡ r
no-source c zero r e = refl
no-source c (suc n) r e = ap (λ (o : Option ResourceId). option_case o r (λ s. resolved_in n c s)) e

module _ (c m : Collection) (es : List Entry) (roots : List (List InterfaceId)) (us : List Union) (ps : List Part) (bs : ClassBindings) (f : Fresh)
    (wf : IsWellFormed c) (sound : IsSound c) (extended : IsExtended c m) (bindings : AreBindings c es bs) (counted : length roots ≡ length (class_names by_names es))
    (unions : AreUnions c roots us ps) (fresh : AreFresh c us bs f m) (alike : AreNamedAlike c es) where
  -- it is held, is no alias, and has the resource's name
  abbrev IsEnd : ResourceId → ResourceId → Type 0
  IsEnd s t = HasResource m t × (resolved m t ≡ t) × (resource_names m t ≡ resource_names c s)

  new-end : (s q : ResourceId) (n : Name) → resource_names c s ≡ Some n → IsNew c m q n → IsEnd s q
  new-end s q n name new = (new.there, new.itself, new.named ∙ sym name)

  module _ (s : ResourceId) (held : HasResource c s) (end : source_of (slice_get c.resources s.0) ≡ None) where
    itself-end : IsEnd s s
    itself-end =
        let w = some-at c.resources s.0 held in
        let there = (extended.kept).resources s.0 w.0 w.1 in
        let same : slice_get m.resources s.0 ≡ slice_get c.resources s.0 = there ∙ sym w.1 in
        (slice_get_within m.resources s.0 w.0 there, no-source m (length m.resources) s (ap source_of same ∙ end), ap held_name same)

    or-end : (o : Option ResourceId) → ((q : ResourceId) → o ≡ Some q → IsEnd s q) → IsEnd s (or_itself s o)
    or-end None new = itself-end
    or-end (Some q) new = new q refl

    own-end : (u : ℕ) (n : Name) → resource_names c s ≡ Some n → IsEnd s (or_itself s (own_in f u n))
    own-end u n name = or-end (own_in f u n) (λ q is. new-end s q n name (fresh.own u n q is))

    module _ (k : ℕ) (class : Name) (at : slice_get (class_names by_names es) k ≡ Some class) where
      whole-end : path_in bs k s ≡ Some [] → IsEnd s (or_itself s (whole_in f k))
      whole-end is = or-end (whole_in f k) (λ q new. by q (fresh.whole k q new)) where
        by : (q : ResourceId) → (r : ResourceId) × (first_in bs r ≡ Some (k, [])) × IsNew c m q (resource_name c r) → IsEnd s q
        by q (r, first, new) =
            let same = alike k class s r at (sym (bindings.paths k class s at) ∙ is) (sym (bindings.paths k class r at) ∙ first-path bs r k [] first) in
            new-end s q (resource_name c r) (held-name c s held ∙ ap Some same) new

      -- what a class has
      new-at-end : (path : List Place) → path_in bs k s ≡ Some path → IsPathOf c s path → IsEnd s (or_itself s (new_at f k path))
      new-at-end path is (inl bare) = subst (λ (l : List Place). IsEnd s (or_itself s (new_at f k l))) (sym bare) (whole-end (is ∙ ap Some bare))
      new-at-end path is (inr w) = subst (λ (l : List Place). IsEnd s (or_itself s (new_at f k l))) (sym w.1) (own-end k w.0 w.2)

    outside-end : IsEnd s (became_outside bs f s)
    outside-end = go (first_in bs s) refl where
      go : (o : Option (ℕ × List Place)) → first_in bs s ≡ o → IsEnd s (option_case o s (λ b. or_itself s (new_at f b.0 b.1)))
      go None e = itself-end
      go (Some b) e =
          let w = first-class c es bs bindings s b.0 b.1 e in
          new-at-end b.0 w.class w.at b.1 (first-path bs s b.0 b.1 e) (class-bound c sound by_names es w.class s b.1 w.binds)

    class-end : (k : ℕ) → k < length roots → IsEnd s (became_in_class bs f k s)
    class-end k lt = go (path_in bs k s) refl where
      go : (o : Option (List Place)) → path_in bs k s ≡ o → IsEnd s (option_case o (became_outside bs f s) (λ path. or_itself s (new_at f k path)))
      go None is = outside-end
      go (Some path) is =
          let class = some-at (class_names by_names es) k (omega (arith, lt, counted)) in
          new-at-end k class.0 class.1 path is (class-bound c sound by_names es class.0 s path (sym (bindings.paths k class.0 s class.1) ∙ is))

    part-name : (x : Part) (n : Name) → own_of_part c x s ≡ Some n → resource_names c s ≡ Some n
    part-name x n own = go (item_at c.interfaces (x.interface).0) refl own where
      go : (o : Option Interface) → item_at c.interfaces (x.interface).0 ≡ o → option_case o None (λ it. own_name c it.uses it.exports s) ≡ Some n → resource_names c s ≡ Some n
      go None at e = absurd (no_some n e)
      go (Some it) at e = interface-names c sound (x.interface).0 it at s n e

    part-end : (k p : ℕ) → IsEnd s (became_to k c ps bs f p s)
    part-end zero p = itself-end
    part-end (suc k) p = go (λ o. part-end k o) (slice_get ps p) refl where
      go : ((o : ℕ) → IsEnd s (became_to k c ps bs f o s)) → (w : Option Part) → slice_get ps p ≡ w → IsEnd s (option_case w s (within_part c ps bs f (λ o. became_to k c ps bs f o s) s))
      go ih None at = itself-end
      go ih (Some x) at = by (own_of_part c x s) refl where
        outer : (o : Option ℕ) → x.outer ≡ o → IsEnd s (option_case o (became_in_class bs f x.union s) (λ o. became_to k c ps bs f o s))
        outer None e = class-end x.union (unions.outermost p x at e)
        outer (Some o) e = ih o

        by : (o : Option Name) → own_of_part c x s ≡ o → IsEnd s (option_case o (around_part c ps bs f (λ o. became_to k c ps bs f o s) s x) (λ n. or_itself s (own_in f x.union n)))
        by None own = outer x.outer refl
        by (Some n) own = own-end x.union n (part-name x n own)

    became-end : (part : Option ℕ) → IsEnd s (became c ps bs f part s)
    became-end None = outside-end
    became-end (Some p) = part-end (suc p) p

  -- in each part, and outside of all
  pub became-ends : (part : Option ℕ) → AreEnds c m (became c ps bs f part)
  became-ends part r held = became-end (resolved c r) (resolved-held c wf r held) (end-no-source c wf r held) part
