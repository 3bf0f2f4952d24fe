-- A state that is right for a collection is right for each collection that has its items with the same ids.
use Rattle.std.proofs.Common.{ℕ, zero, suc, ◌≡◌, ◌<◌, Bool, true, List, [], ◌∷◌, length, Option, Some, None, slice_get, refl, ap, sym, ◌∙◌, subst, arith}
use Rattle.std.specs.Prelude.{nat_lt}
use Rattle.std.proofs.lemmas.Bool.{lt-ltb, ltb-true}
use Rattle.std.proofs.lemmas.Option.{slice_get_within}
use Rattle.wac_types_shapes.specs.primitives.Name.{option_case}
use Rattle.wac_types_shapes.specs.primitives.Tree.{Leaf, Tree, absent}
use Rattle.wac_types_shapes.specs.declared.shapes.component.DefinedTypeId.{DefinedTypeId}
use Rattle.wac_types_shapes.specs.declared.shapes.component.FuncTypeId.{FuncTypeId}
use Rattle.wac_types_shapes.specs.declared.shapes.component.InterfaceId.{InterfaceId}
use Rattle.wac_types_shapes.specs.declared.shapes.component.Resource.{Resource}
use Rattle.wac_types_shapes.specs.declared.shapes.component.ResourceId.{ResourceId}
use Rattle.wac_types_shapes.specs.declared.shapes.component.WorldId.{WorldId}
use Rattle.wac_types_shapes.specs.declared.shapes.component.ValueType.{ValueType}
use Rattle.wac_types_shapes.specs.declared.shapes.component.ValueType.TheVariants as val
use Rattle.wac_types_shapes.specs.declared.shapes.component.«Type».{«Type» as AnyType}
use Rattle.wac_types_shapes.specs.declared.shapes.component.«Type».TheVariants as ty
use Rattle.wac_types_collection.specs.declared.collection.collection.Held.{Held}
use Rattle.wac_types_collection.specs.collection.Bound.{Bindings, by_place, held_tree}
use Rattle.wac_types_collection.specs.collection.Collection.{Collection, IsKeptBy, IsWellFormed, holds_type, size}
use Rattle.wac_types_collection.specs.collection.Held.{of_held, func_tree, defined_tree, interface_tree, resolved, resolved_in, source_of, unfolded_to, world_tree}
use Rattle.wac_types_collection.proofs.lemmas.collection.Growth.{keeps_defined, keeps_func, keeps_interface, keeps_module, keeps_resource, keeps_world}
use Rattle.wac_types_collection.proofs.lemmas.subtyping.Kept.{kept_trees}
use Rattle.wac_binary.specs.HasMeaning.{IsComponent, IsFunction, IsInstance, IsValue}
use Rattle.wac_encode_stacks.specs.Good.{Good, GoodScope, IsHeld, IsOf, nothing_bound}
use Rattle.wac_encode_stacks.specs.Scopes.{Open, Stack, envs}
use Rattle.wac_encode_stacks.proofs.HeldParts.{handles-are-bound}
use Rattle.wac_encode_stacks.proofs.Moved.{held-here}
use Rattle.wac_encode_scopes.specs.Books.{opened}
use Rattle.wac_encode_scopes.specs.States.{outward, stack}
use Rattle.wac_encode.specs.Growth.{KeepsItems, StaysWhenGrown}
use Rattle.wac_encode.specs.Root.{IsStateFor}

-- what has a tree is of the collection

in-range : {A : Type 0} (xs : List A) (i : ℕ) (o : Option A) → slice_get xs i ≡ o → (o ≡ None → ⊥) → nat_lt i (length xs) ≡ true
in-range xs i None is some = absurd (some refl)
in-range xs i (Some x) is some = lt-ltb i (length xs) (slice_get_within xs i x is)

-- A resource that is not of the collection is the end of its aliases.
out-of-range : (c : Collection) (r : ResourceId) → slice_get c.resources r.0 ≡ None → (n : ℕ) → resolved_in n c r ≡ r
out-of-range c r none zero = refl
out-of-range c r none (suc n) = ap (λ (o : Option (Held Resource)). option_case (source_of o) r (λ source. resolved_in n c source)) none

end-held : (c : Collection) (r : ResourceId) → holds_type c (ty.Resource (resolved c r)) ≡ true → holds_type c (ty.Resource r) ≡ true
end-held c r held = by (slice_get c.resources r.0) refl
  where
    by : (o : Option (Held Resource)) → slice_get c.resources r.0 ≡ o → nat_lt r.0 (length c.resources) ≡ true
    by (Some h) is = lt-ltb r.0 (length c.resources) (slice_get_within c.resources r.0 h is)
    by None is = subst (λ (q : ResourceId). nat_lt q.0 (length c.resources) ≡ true) (out-of-range c r is (length c.resources)) held

module _ (c : Collection) (m : Bindings) (bound : (r : ResourceId) (l : Leaf) → m r ≡ Some l → holds_type c (ty.Resource r) ≡ true) where
  defined-absent : (d : DefinedTypeId) → slice_get c.defined d.0 ≡ None → held_tree c m (ty.Value (val.Defined d)) ≡ absent
  unfolding held_tree
  defined-absent d none = ap (of_held (defined_tree (λ v. unfolded_to (by_place c) c (size c) m (ty.Value v)))) none

  func-absent : (f : FuncTypeId) → slice_get c.funcs f.0 ≡ None → held_tree c m (ty.Func f) ≡ absent
  unfolding held_tree
  func-absent f none = ap (of_held (func_tree (λ v. unfolded_to (by_place c) c (size c) m (ty.Value v)))) none

  interface-absent : (i : InterfaceId) → slice_get c.interfaces i.0 ≡ None → held_tree c m (ty.Interface i) ≡ absent
  unfolding held_tree
  interface-absent i none = ap (of_held (interface_tree (by_place c) c (unfolded_to (by_place c) c (size c)) m)) none

  world-absent : (w : WorldId) → slice_get c.worlds w.0 ≡ None → held_tree c m (ty.World w) ≡ absent
  unfolding held_tree
  world-absent w none = ap (of_held (world_tree (by_place c) c (unfolded_to (by_place c) c (size c)) m)) none

  value-held : (v : ValueType) (t : Tree) → IsHeld c m (ty.Value v) t → IsValue t → holds_type c (ty.Value v) ≡ true
  value-held (val.Primitive p) t h is = refl
  value-held (val.Own r) t h is = let b = (handles-are-bound c m r).0 (t, h) in end-held c r (bound (resolved c r) b.0 b.1)
  value-held (val.Borrow r) t h is = let b = (handles-are-bound c m r).1 (t, h) in end-held c r (bound (resolved c r) b.0 b.1)
  value-held (val.Defined d) t h is = in-range c.defined d.0 (slice_get c.defined d.0) refl (λ none. subst IsValue (sym (held-here c m (ty.Value (val.Defined d)) t h) ∙ defined-absent d none) is)

  type-held : (a : AnyType) (t : Tree) → IsHeld c m a t → IsOf a t → holds_type c a ≡ true
  type-held (ty.Value v) t h is = value-held v t h is
  type-held (ty.Func f) t h is = in-range c.funcs f.0 (slice_get c.funcs f.0) refl (λ none. subst IsFunction (sym (held-here c m (ty.Func f) t h) ∙ func-absent f none) is)
  type-held (ty.Interface i) t h is = in-range c.interfaces i.0 (slice_get c.interfaces i.0) refl (λ none. subst IsInstance (sym (held-here c m (ty.Interface i) t h) ∙ interface-absent i none) is)
  type-held (ty.World w) t h is = in-range c.worlds w.0 (slice_get c.worlds w.0) refl (λ none. subst IsComponent (sym (held-here c m (ty.World w) t h) ∙ world-absent w none) is)
  type-held (ty.Resource r) t h is = absurd is
  type-held (ty.Module k) t h is = absurd is

  -- growth

  module _ (d : Collection) (wf : IsWellFormed c) (kept : IsKeptBy c d) where
    grown : (a : AnyType) (t : Tree) → IsHeld c m a t → IsOf a t → IsHeld d m a t
    grown a t h is f n carries = (kept_trees c d wf kept).0.1 n a (type-held a t h is) ∙ h f n carries

    grown-scope : (mo : Bindings) (o : Open) (os : Stack) → GoodScope c m mo o (envs os) → GoodScope d m mo o (envs os)
    grown-scope mo o os g = record {
      meaning = g.meaning;
      bottom = g.bottom;
      binds = g.binds;
      unbound = g.unbound;
      passing = g.passing;
      types = λ a x at. let w = g.types a x at in (w.0, grown a w.0 w.1 w.2, w.2, w.3);
      exports = λ e w at. let x = g.exports e w at in (x.0, grown (ty.Value (val.Defined e)) x.0 x.1 x.2, x.2, x.3);
    }

bottom-only : (c d : Collection) (os : Stack) → Good c [] os → Good d [] os
bottom-only c d [] h = tt
bottom-only c d (o ∷ os) h = absurd h

some-there : {A : Type 0} (xs : List A) (i : ℕ) → i < length xs → (x : A) × (slice_get xs i ≡ Some x)
some-there [] i low = absurd (omega (arith, low))
some-there (x ∷ xs) zero low = (x, refl)
some-there (x ∷ xs) (suc i) low = some-there xs i (omega (arith, low))

resource-kept : (c d : Collection) → IsKeptBy c d → (r : ResourceId) → holds_type c (ty.Resource r) ≡ true → holds_type d (ty.Resource r) ≡ true
resource-kept c d kept r held =
    let w = some-there c.resources r.0 (ltb-true r.0 (length c.resources) held) in
    lt-ltb r.0 (length d.resources) (slice_get_within d.resources r.0 w.0 (kept.resources r.0 w.0 w.1))

pub state-grown : StaysWhenGrown
state-grown c d b m s wf kept h = record {
  root = h.root;
  good = (
    grown-scope c m h.held d wf kept nothing_bound (opened b s.scopes.here) (outward b s.scopes.around.items) (h.good).0,
    bottom-only c d (outward b s.scopes.around.items) (h.good).1,
  );
  held = λ r l bound. resource-kept c d kept r (h.held r l bound);
}

pub keeps-items : (c : Collection) → KeepsItems c
keeps-items c = record {
  resource = keeps_resource c;
  func = keeps_func c;
  defined = keeps_defined c;
  interface = keeps_interface c;
  world = keeps_world c;
  module_type = keeps_module c;
}
