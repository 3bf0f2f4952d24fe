-- The resources to which the recursion of trees gives no leaf are the free ones that are not bound.
use Rattle.std.proofs.Common.{◌≡◌, ◌⊎◌, inl, inr, List, [], ◌∷◌, ◌++◌, Option, Some, None, Contains, refl, ap, sym, ◌∙◌, subst, append-nil}
use Rattle.wac_types_shapes.specs.primitives.Name.{Name, option_case, first_some}
use Rattle.wac_types_shapes.specs.primitives.Tree.{imported, exported, Leaf, further_out}
use Rattle.wac_types_shapes.specs.shapes.Kinds.{kind_type}
use Rattle.wac_types_shapes.specs.declared.shapes.component.FuncType.{FuncType}
use Rattle.wac_types_shapes.specs.declared.shapes.component.DefinedType.{DefinedType}
use Rattle.wac_types_shapes.specs.declared.shapes.component.Interface.{Interface}
use Rattle.wac_types_shapes.specs.declared.shapes.component.InterfaceId.{InterfaceId}
use Rattle.wac_types_shapes.specs.declared.shapes.component.ItemKind.{ItemKind}
use Rattle.wac_types_shapes.specs.declared.shapes.component.ItemKind.TheVariants as kind
use Rattle.wac_types_shapes.specs.declared.shapes.component.ResourceId.{ResourceId}
use Rattle.wac_types_shapes.specs.declared.shapes.component.ValueType.{ValueType}
use Rattle.wac_types_shapes.specs.declared.shapes.component.ValueType.TheVariants as val
use Rattle.wac_types_shapes.specs.declared.shapes.component.World.{World}
use Rattle.wac_types_shapes.specs.declared.shapes.component.WorldId.{WorldId}
use Rattle.wac_types_shapes.specs.declared.shapes.component.«Type».{«Type» as AnyType}
use Rattle.wac_types_shapes.specs.declared.shapes.component.«Type».TheVariants as ty
use Rattle.wac_types_collection.specs.collection.Collection.{Collection, item_at, value_types, func_values, func_mentions, defined_values, defined_mentions}
use Rattle.wac_types_collection.specs.collection.Bound.{Bindings, inside_interface, own_name, first_bound, bound_by_imports, bound_in_world}
use Rattle.wac_types_collection.proofs.lemmas.wide.Members.{in_none, in_one, in_parts, in_left, in_right, in_either}
use Rattle.wac_encode_stacks.specs.Good.{seen_inside}
use Rattle.wac_encode_stacks.proofs.Moved.{own_leaf}
use Rattle.wac_encode_faults.specs.Faults as faults
use Rattle.wac_encode_faults.specs.Faults.{IsInside, IsListed, listed_items}
use Rattle.wac_encode_faults.specs.Free as free
use Rattle.wac_encode_faults.specs.Free.{parts, IsFree, SideItem, IsFreeInItem}
use Rattle.wac_encode_faults.specs.Sides.{world_sides, side_bindings, import_bindings, export_bindings}
use Rattle.wac_encode_interfaces.specs.private.Leaves as leaves
use Rattle.wac_encode_interfaces.specs.private.Leaves.{HasNoLeaf, IsUnboundInWorld, LeavesByFree}

-- bindings inside an interface

unbound-inside : (o : Option Name) (b : Option Leaf) → option_case o (seen_inside b) (λ q. Some (own_leaf q)) ≡ None → (o ≡ None) × (b ≡ None)
unbound-inside None None h = (refl, refl)
unbound-inside None (Some l) h = let no : Some (further_out l) ≡ None = h in cc
unbound-inside (Some q) b h = let no : Some (own_leaf q) ≡ None = h in cc

inside-unbound : (o : Option Name) (b : Option Leaf) → o ≡ None → b ≡ None → option_case o (seen_inside b) (λ q. Some (own_leaf q)) ≡ None
inside-unbound None None g h = refl
inside-unbound None (Some l) g h = let no : Some l ≡ None = h in cc
inside-unbound (Some q) b g h = let no : Some q ≡ None = g in cc

-- what function types and value types mention is no world

abbrev IsPlain : AnyType → Type 0
IsPlain (ty.Value v) = Unit {0}
IsPlain (ty.Resource r) = Unit {0}
IsPlain _ = ⊥

values-plain : (vs : List ValueType) (u : AnyType) → Contains (value_types vs) u → IsPlain u
values-plain [] u h = absurd (in_none u h)
values-plain (v ∷ vs) u h = elim (in_parts (ty.Value v) u (value_types vs) h) [
  | inl same ↦ subst IsPlain (sym same) tt
  | inr w ↦ values-plain vs u w
]

funcs-plain : (o : Option FuncType) (u : AnyType) → Contains (option_case o [] func_mentions) u → IsPlain u
funcs-plain None u h = absurd (in_none u h)
funcs-plain (Some x) u h = values-plain (func_values x) u h

defined-plain : (o : Option DefinedType) (u : AnyType) → Contains (option_case o [] defined_mentions) u → IsPlain u
defined-plain None u h = absurd (in_none u h)
defined-plain (Some x) u h = values-plain (defined_values x) u h

parts-plain : (c : Collection) (t u : AnyType) → Contains (parts c t) u → IsPlain u
parts-plain c (ty.Func f) u h = funcs-plain (item_at c.funcs f.0) u h
parts-plain c (ty.Value (val.Primitive p)) u h = absurd (in_none u h)
parts-plain c (ty.Value (val.Own r)) u h = subst IsPlain (sym (in_one (ty.Resource r) u h)) tt
parts-plain c (ty.Value (val.Borrow r)) u h = subst IsPlain (sym (in_one (ty.Resource r) u h)) tt
parts-plain c (ty.Value (val.Defined d)) u h = defined-plain (item_at c.defined d.0) u h
parts-plain c (ty.Resource r) u h = absurd (in_none u h)
parts-plain c (ty.Interface i) u h = absurd (in_none u h)
parts-plain c (ty.World w) u h = absurd (in_none u h)
parts-plain c (ty.Module m) u h = absurd (in_none u h)

plain-lists : (c : Collection) (u : AnyType) (k : ItemKind) → IsPlain u → IsListed k (listed_items c u) → ⊥
plain-lists c (ty.Value v) k plain h = in_none (h.0, k) h.1
plain-lists c (ty.Resource r) k plain h = in_none (h.0, k) h.1
plain-lists c (ty.Func f) k plain h = plain
plain-lists c (ty.Interface i) k plain h = plain
plain-lists c (ty.World w) k plain h = plain
plain-lists c (ty.Module m) k plain h = plain

plain-inside : (c : Collection) (s u : AnyType) (w : WorldId) → s ≡ ty.World w → IsPlain u → IsInside c s u → ⊥
plain-inside c s u w is plain (faults.itself _ _ e) = subst IsPlain (sym e ∙ is) plain
plain-inside c s u w is plain (faults.in_item _ _ k listed more) = plain-lists c u k plain listed

-- the sides of a world

import-side : (c : Collection) (x : World) (r : ResourceId) → import_bindings c (world_sides x) r ≡ bound_by_imports c x r
import-side c x r = ap (λ (es : List (Name × ItemKind)). first_bound c x.uses imported es r) (append-nil x.imports)

export-side : (c : Collection) (x : World) (r : ResourceId) → export_bindings c (world_sides x) r ≡ bound_in_world c x r
export-side c x r = ap (λ (o : Option Leaf). first_some o (first_bound c x.uses exported x.exports r)) (import-side c x r)

abbrev exports-in : Option Interface → List (Name × ItemKind)
exports-in o = option_case o [] (λ (x : Interface). x.exports)

abbrev items-in : Option World → List (Name × ItemKind)
items-in o = option_case o [] (λ (x : World). x.imports) ++ option_case o [] (λ (x : World). x.exports)

module _ (c : Collection) where
  -- ---- what has no leaf is free

  further : (t : AnyType) (k : ItemKind) (r : ResourceId) → IsListed k (listed_items c t) → IsUnboundInWorld c (kind_type k) r → IsUnboundInWorld c t r
  further t k r listed w = record {
    world = w.world;
    inside = faults.in_item (ty.World w.world) t k listed w.inside;
    item = w.item;
    there = w.there;
    place = w.place;
    free = w.free;
    unbound = w.unbound;
  }

  in-interface : (i : InterfaceId) (it : Interface) (n : Name) (k : ItemKind) → item_at c.interfaces i.0 ≡ Some it → Contains it.exports (n, k) → IsListed k (listed_items c (ty.Interface i))
  in-interface i it n k at listed = (n, subst (λ (o : Option Interface). Contains (exports-in o) (n, k)) (sym at) listed)

  in-world : (w : WorldId) (x : World) (n : Name) (k : ItemKind) → item_at c.worlds w.0 ≡ Some x → Contains (x.imports ++ x.exports) (n, k) → IsListed k (listed_items c (ty.World w))
  in-world w x n k at listed = (n, subst (λ (o : Option World). Contains (items-in o) (n, k)) (sym at) listed)

  here : (w : WorldId) (x : World) (y : SideItem) (r : ResourceId) → item_at c.worlds w.0 ≡ Some x → IsFreeInItem c (world_sides x) y r → side_bindings c (world_sides x) y.side r ≡ None → IsUnboundInWorld c (ty.World w) r
  here w x y r at is_free none = record {
    world = w;
    inside = faults.itself (ty.World w) (ty.World w) refl;
    item = x;
    there = at;
    place = y;
    free = is_free;
    unbound = none;
  }

  abbrev IsFreeOrInside : Bindings → AnyType → ResourceId → Type 0
  IsFreeOrInside m t r = (IsFree c t r × (m r ≡ None)) ⊎ IsUnboundInWorld c t r

  to : (m : Bindings) (t : AnyType) (r : ResourceId) → HasNoLeaf c m t r → IsFreeOrInside m t r
  to m _ _ (leaves.itself _ q none) = inl (free.itself q, none)
  to m t r (leaves.in_part _ _ u _ there more) = by (to m u r more)
    where
      by : IsFreeOrInside m u r → IsFreeOrInside m t r
      by (inl w) = inl (free.in_part t u r there w.0, w.1)
      by (inr w) = absurd (plain-inside c (ty.World w.world) u w.world refl (parts-plain c t u there) w.inside)
  to m _ r (leaves.in_interface _ i it n k _ at listed more) = by (to (inside_interface c it m) (kind_type k) r more)
    where
      by : IsFreeOrInside (inside_interface c it m) (kind_type k) r → IsFreeOrInside m (ty.Interface i) r
      by (inl w) = let none = unbound-inside (own_name c it.uses it.exports r) (m r) w.1 in inl (free.in_export i it n k r at listed none.0 w.0, none.1)
      by (inr w) = inr (further (ty.Interface i) k r (in-interface i it n k at listed) w)
  to m _ r (leaves.in_imports _ w x n k _ at listed more) = by (to (bound_by_imports c x) (kind_type k) r more)
    where
      by : IsFreeOrInside (bound_by_imports c x) (kind_type k) r → IsFreeOrInside m (ty.World w) r
      by (inl v) = inr (here w x (record { side = imported; name = n }) r at (free.of_import n k r listed v.0) (import-side c x r ∙ v.1))
      by (inr v) = inr (further (ty.World w) k r (in-world w x n k at (in_left x.imports x.exports (n, k) listed)) v)
  to m _ r (leaves.in_exports _ w x n k _ at listed more) = by (to (bound_in_world c x) (kind_type k) r more)
    where
      by : IsFreeOrInside (bound_in_world c x) (kind_type k) r → IsFreeOrInside m (ty.World w) r
      by (inl v) = inr (here w x (record { side = exported; name = n }) r at (free.of_export n k r listed v.0) (export-side c x r ∙ v.1))
      by (inr v) = inr (further (ty.World w) k r (in-world w x n k at (in_right x.imports x.exports (n, k) listed)) v)

  -- ---- what is free and not bound has no leaf

  of-free : (t : AnyType) (r : ResourceId) → IsFree c t r → (m : Bindings) → m r ≡ None → HasNoLeaf c m t r
  of-free _ _ (free.itself q) m none = leaves.itself m q none
  of-free t r (free.in_part _ u _ there more) m none = leaves.in_part m t u r there (of-free u r more m none)
  of-free _ r (free.in_export i it n k _ at listed not_own more) m none =
      leaves.in_interface m i it n k r at listed (of-free (kind_type k) r more (inside_interface c it m) (inside-unbound (own_name c it.uses it.exports r) (m r) not_own none))

  of-item : (w : WorldId) (x : World) → item_at c.worlds w.0 ≡ Some x → (y : SideItem) (r : ResourceId) → IsFreeInItem c (world_sides x) y r → side_bindings c (world_sides x) y.side r ≡ None → (m : Bindings) → HasNoLeaf c m (ty.World w) r
  of-item w x at _ r (free.of_import n k _ listed more) none m = leaves.in_imports m w x n k r at listed (of-free (kind_type k) r more (bound_by_imports c x) (sym (import-side c x r) ∙ none))
  of-item w x at _ r (free.of_additional n i _ listed more) none m = absurd (in_none (n, kind.Instance i) listed)
  of-item w x at _ r (free.of_export n k _ listed more) none m = leaves.in_exports m w x n k r at listed (of-free (kind_type k) r more (bound_in_world c x) (sym (export-side c x r) ∙ none))

  of-listed : (t : AnyType) (k : ItemKind) (r : ResourceId) → IsListed k (listed_items c t) → ((m : Bindings) → HasNoLeaf c m (kind_type k) r) → (m : Bindings) → HasNoLeaf c m t r
  of-listed (ty.Interface i) k r h inner m = by (item_at c.interfaces i.0) refl h.1
    where
      by : (o : Option Interface) → item_at c.interfaces i.0 ≡ o → Contains (exports-in o) (h.0, k) → HasNoLeaf c m (ty.Interface i) r
      by None at listed = absurd (in_none (h.0, k) listed)
      by (Some it) at listed = leaves.in_interface m i it h.0 k r at listed (inner (inside_interface c it m))
  of-listed (ty.World w) k r h inner m = by (item_at c.worlds w.0) refl h.1
    where
      by : (o : Option World) → item_at c.worlds w.0 ≡ o → Contains (items-in o) (h.0, k) → HasNoLeaf c m (ty.World w) r
      by None at listed = absurd (in_none (h.0, k) listed)
      by (Some x) at listed = elim (in_either x.imports x.exports (h.0, k) listed) [
        | inl v ↦ leaves.in_imports m w x h.0 k r at v (inner (bound_by_imports c x))
        | inr v ↦ leaves.in_exports m w x h.0 k r at v (inner (bound_in_world c x))
      ]
  of-listed (ty.Resource q) k r h inner m = absurd (in_none (h.0, k) h.1)
  of-listed (ty.Func f) k r h inner m = absurd (in_none (h.0, k) h.1)
  of-listed (ty.Value v) k r h inner m = absurd (in_none (h.0, k) h.1)
  of-listed (ty.Module q) k r h inner m = absurd (in_none (h.0, k) h.1)

  of-inside : (s t : AnyType) (r : ResourceId) → ((m : Bindings) → HasNoLeaf c m s r) → IsInside c s t → (m : Bindings) → HasNoLeaf c m t r
  of-inside s t r inner (faults.itself _ _ e) m = subst (λ (z : AnyType). HasNoLeaf c m z r) e (inner m)
  of-inside s t r inner (faults.in_item _ _ k listed more) m = of-listed t k r listed (of-inside s (kind_type k) r inner more) m

  from : (m : Bindings) (t : AnyType) (r : ResourceId) → IsFreeOrInside m t r → HasNoLeaf c m t r
  from m t r (inl w) = of-free t r w.0 m w.1
  from m t r (inr w) = of-inside (ty.World w.world) t r (of-item w.world w.item w.there w.place r w.free w.unbound) w.inside m

pub leaves_by_free : LeavesByFree
leaves_by_free c m t r = (to c m t r, from c m t r)
