-- The way out of three scopes, each inside the one before it, of which the outermost alone binds something.
use Rattle.std.proofs.Common.{◌≡◌, ◌+◌, ℕ, zero, suc, List, [], ◌∷◌, Option, Some, None, refl, ap, sym, ◌∙◌, subst, codes}
use Rattle.std.specs.Prelude.{slice_get}
use Rattle.wac_types_shapes.specs.declared.shapes.component.ResourceId.{ResourceId}
use Rattle.wac_types_shapes.specs.primitives.Tree.{Leaf, exported, named}
use Rattle.wac_merge_classes.specs.declared.entries.outward.Outward.{Outward}
use Rattle.wac_merge_classes.specs.declared.entries.scopes.Opener.TheVariants as opener
use Rattle.wac_merge_classes.specs.declared.entries.scopes.Scope.{Scope}
use Rattle.wac_merge_classes.specs.private.entries.Ways.{LeadsOut, outermost, binding, beyond, AreOutward}
use Rattle.wac_merge_tests.proofs.lemmas.examples.Apart.{no_entry, one_entry, two_numbers}

-- ---- the scopes, and what each binds

abbrev scope_in : Option ℕ → Scope
scope_in parent = record { opener = opener.Interface (record { 0 = 0 }); parent = parent }

abbrev scopes : List Scope
scopes = scope_in None ∷ scope_in (Some 0) ∷ scope_in (Some 1) ∷ []

abbrev a_resource : ResourceId × Leaf
a_resource = (record { 0 = 0 }, record { out = 0; side = exported; path = named (codes "r") ∷ [] })

abbrev bound : List (List (ResourceId × Leaf))
bound = (a_resource ∷ []) ∷ [] ∷ [] ∷ []

abbrev way : ℕ → ℕ → Outward
way position out = record { position = position; out = out }

-- ---- what holds

-- nothing is around the outermost; the next one's way leads to it, and that of the innermost past the one around it, which binds nothing
abbrev ways : List (Option Outward)
ways = None ∷ Some (way 0 1) ∷ Some (way 0 2) ∷ []

not_empty : Some (a_resource ∷ []) ≡ Some [] → ⊥
not_empty is = cc

to_outermost : LeadsOut scopes bound (Some 0) (Some (way 0 1))
to_outermost = binding 0 (λ s at empty. absurd (not_empty empty))

past_the_second : LeadsOut scopes bound (Some 1) (Some (way 0 2))
past_the_second = beyond 1 (scope_in (Some 0)) (way 0 1) refl refl to_outermost

pub ways_out : AreOutward scopes bound ways
ways_out = record { counted = refl; ways = each } where
  leads : (s t : Scope) (w v : Option Outward) → LeadsOut scopes bound t.parent v → Some t ≡ Some s → Some v ≡ Some w → LeadsOut scopes bound s.parent w
  leads s t w v out scope same = subst (λ (x : Scope). LeadsOut scopes bound x.parent w) (one_entry t s scope) (subst (LeadsOut scopes bound t.parent) (one_entry v w same) out)

  each : (i : ℕ) (s : Scope) (w : Option Outward) → slice_get scopes i ≡ Some s → slice_get ways i ≡ Some w → LeadsOut scopes bound s.parent w
  each zero s w at there = leads s (scope_in None) w None outermost at there
  each (suc zero) s w at there = leads s (scope_in (Some 0)) w (Some (way 0 1)) to_outermost at there
  each (suc (suc zero)) s w at there = leads s (scope_in (Some 1)) w (Some (way 0 2)) past_the_second at there
  each (suc (suc (suc i))) s w at there = absurd (no_entry s at)

-- ---- what is refused

-- the ways are the only ones
only_to_outermost : (o : Option ℕ) (w : Option Outward) → LeadsOut scopes bound o w → o ≡ Some 0 → w ≡ Some (way 0 1)
only_to_outermost _ _ outermost is = absurd (no_entry 0 is)
only_to_outermost _ _ (binding p stops) is = ap (λ (q : ℕ). Some (way q 1)) (one_entry p 0 is)
only_to_outermost _ _ (beyond p s w at empty further) is = absurd (not_empty (ap (slice_get bound) (sym (one_entry p 0 is)) ∙ empty))

pub only_past_the_second : (o : Option ℕ) (w : Option Outward) → LeadsOut scopes bound o w → o ≡ Some 1 → w ≡ Some (way 0 2)
only_past_the_second _ _ outermost is = absurd (no_entry 1 is)
only_past_the_second _ _ (binding p stops) is = absurd (inside (subst Stops (one_entry p 1 is) stops (scope_in (Some 0)) refl refl)) where
  Stops : ℕ → Type 0
  Stops q = (s : Scope) → slice_get scopes q ≡ Some s → slice_get bound q ≡ Some [] → s.parent ≡ None

  inside : let parent : Option ℕ = Some 0 in parent ≡ None → ⊥
  inside none = no_entry 0 (sym none)
only_past_the_second _ _ (beyond p s w at empty further) is = ap (λ (v : Outward). Some (way v.position (v.out + 1))) (one_entry w (way 0 1) (only_to_outermost s.parent (Some w) further parent)) where
  parent : s.parent ≡ Some 0
  parent = ap (λ (x : Scope). x.parent) (one_entry s (scope_in (Some 0)) (sym at ∙ ap (slice_get scopes) (one_entry p 1 is)))

module _ (w : Outward) (h : AreOutward scopes bound (None ∷ Some (way 0 1) ∷ Some w ∷ [])) where
  innermost_way : w ≡ way 0 2
  innermost_way = one_entry w (way 0 2) (only_past_the_second (Some 1) (Some w) (h.ways 2 (scope_in (Some 1)) (Some w) refl refl) refl)

-- the innermost's way does not end at the scope around it, which binds nothing
pub no_way_to_what_binds_nothing : AreOutward scopes bound (None ∷ Some (way 0 1) ∷ Some (way 1 1) ∷ []) → ⊥
no_way_to_what_binds_nothing h = two_numbers 1 0 refl (ap (λ (w : Outward). w.position) (innermost_way (way 1 1) h))

-- nor is the outermost one scope out of it
pub no_way_that_is_shorter : AreOutward scopes bound (None ∷ Some (way 0 1) ∷ Some (way 0 1) ∷ []) → ⊥
no_way_that_is_shorter h = two_numbers 1 2 refl (ap (λ (w : Outward). w.out) (innermost_way (way 0 1) h))

-- and each scope has one
pub no_way_missing : AreOutward scopes bound (None ∷ Some (way 0 1) ∷ []) → ⊥
no_way_missing h = two_numbers 2 3 refl h.counted
