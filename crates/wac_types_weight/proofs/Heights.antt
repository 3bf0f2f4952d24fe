-- How long chains of mentions are.
use Rattle.std.proofs.Common.{ℕ, suc, ◌<◌, ◌≤◌, Bool, true, false, List, [], ◌∷◌, Option, Some, None, ◌≡◌, ◌⊎◌, inl, inr, refl, ap, sym, ◌∙◌, subst, arith, slice_get}
use Rattle.wac_types_shapes.specs.primitives.Name.{option_case}
use Rattle.wac_types_shapes.specs.declared.shapes.component.Resource.{Resource}
use Rattle.wac_types_shapes.specs.declared.shapes.component.ResourceAlias.{ResourceAlias}
use Rattle.wac_types_shapes.specs.declared.shapes.component.InterfaceId.{InterfaceId}
use Rattle.wac_types_shapes.specs.declared.shapes.component.ValueType.TheVariants as val
use Rattle.wac_types_shapes.specs.declared.shapes.component.«Type».{«Type» as AnyType}
use Rattle.wac_types_shapes.specs.declared.shapes.component.«Type».TheVariants as ty
use Rattle.wac_types_collection.specs.declared.collection.collection.Held.{Held}
use Rattle.wac_types_collection.specs.collection.Collection.{Collection, IsWellFormed, Each, AreBefore, IsBefore, AddedBefore, holds_type, item_of, size, alias_types, owner_types, resource_mentions, func_mentions, defined_mentions, interface_mentions, world_mentions}
use Rattle.wac_types_collection.specs.reach.Reach.{IsIn, mentions}
use Rattle.wac_types_collection.specs.subtyping.Ranks.{rank_of_held, type_rank}
use Rattle.wac_types_collection.proofs.lemmas.collection.Growth.{type_before}
use Rattle.wac_types_collection.proofs.lemmas.subtyping.Unfolding.{before_rank}
use Rattle.wac_types_weight.specs.Weight.{is_scope}

-- A handle is one higher than its resource, and so is each type that is no resource.
pub height : Collection → AnyType → ℕ
height c (ty.Resource r) = type_rank c (ty.Resource r)
height c t = suc (type_rank c t)

pub height_less : (c : Collection) (t : AnyType) → height c t ≤ suc (type_rank c t)
unfolding height
height_less c (ty.Resource r) = omega arith
height_less c (ty.Func f) = omega arith
height_less c (ty.Value v) = omega arith
height_less c (ty.Interface i) = omega arith
height_less c (ty.World w) = omega arith
height_less c (ty.Module m) = omega arith

-- ---- no rank is over the number of items
held_rank : {A : Type 0} (N : ℕ) (xs : List (Held A)) (i : ℕ) → Each xs (λ h. h.before < N) → rank_of_held (slice_get xs i) ≤ N
held_rank N xs i each = by (slice_get xs i) refl
  where
    by : (o : Option (Held _)) → slice_get xs i ≡ o → rank_of_held o ≤ N
    by None is = omega arith
    by (Some h) is = let l = each i h is in omega (arith, l)

pub rank_most : (c : Collection) → IsWellFormed c → (t : AnyType) → type_rank c t ≤ size c
rank_most c wf (ty.Resource r) = held_rank (size c) c.resources r.0 (λ j x is. (wf.resources j x is).0)
rank_most c wf (ty.Func f) = held_rank (size c) c.funcs f.0 (λ j x is. (wf.funcs j x is).0)
rank_most c wf (ty.Value (val.Primitive p)) = omega arith
rank_most c wf (ty.Value (val.Own r)) = held_rank (size c) c.resources r.0 (λ j x is. (wf.resources j x is).0)
rank_most c wf (ty.Value (val.Borrow r)) = held_rank (size c) c.resources r.0 (λ j x is. (wf.resources j x is).0)
rank_most c wf (ty.Value (val.Defined d)) = held_rank (size c) c.defined d.0 (λ j x is. (wf.defined j x is).0)
rank_most c wf (ty.Interface i) = held_rank (size c) c.interfaces i.0 (λ j x is. (wf.interfaces j x is).0)
rank_most c wf (ty.World w) = held_rank (size c) c.worlds w.0 (λ j x is. (wf.worlds j x is).0)
rank_most c wf (ty.Module m) = held_rank (size c) c.modules m.0 (λ j x is. wf.modules j x is)

pub height_most : (c : Collection) → IsWellFormed c → (t : AnyType) → height c t ≤ suc (size c)
height_most c wf t = let a = height_less c t in let b = rank_most c wf t in omega (arith, a, b)

-- ---- what a type mentions is lower
in_before : (c : Collection) (n : ℕ) (ts : List AnyType) (t : AnyType) → AreBefore c n ts → IsIn t ts → IsBefore c n t
in_before c n [] t h w = absurd w
in_before c n (x ∷ ts) t h (inl e) = subst (IsBefore c n) (sym e) h.0
in_before c n (x ∷ ts) t h (inr w) = in_before c n ts t h.1 w

item_less : {A : Type 0} (c : Collection) (f : A → List AnyType) (xs : List (Held A)) (i : ℕ) → Each xs (λ h. (h.before < size c) × AreBefore c h.before (f h.item)) → (u : AnyType)
    → IsIn u (option_case (item_of (slice_get xs i)) [] f) → type_rank c u < rank_of_held (slice_get xs i)
item_less c f xs i each u w = by (slice_get xs i) refl w
  where
    by : (o : Option (Held _)) → slice_get xs i ≡ o → IsIn u (option_case (item_of o) [] f) → type_rank c u < rank_of_held o
    by None is w = absurd w
    by (Some h) is w = let l = before_rank c h.before u (in_before c h.before (f h.item) u (each i h is).1 w) in omega (arith, l)

-- a resource mentions resources, and interfaces
owner_scope : (o : Option InterfaceId) (u : AnyType) → IsIn u (owner_types o) → is_scope u ≡ true
owner_scope None u w = absurd w
owner_scope (Some i) u (inl e) = ap is_scope e
owner_scope (Some i) u (inr w) = absurd w

true_not : (b : Bool) → b ≡ true → b ≡ false → ⊥
true_not b t f = let no : true ≡ false = sym t ∙ f in cc

source_height : (c : Collection) (o : Option ResourceAlias) (u : AnyType) → IsIn u (alias_types o) → is_scope u ≡ false → height c u ≡ type_rank c u
unfolding height
source_height c None u w plain = absurd w
source_height c (Some a) u (inl e) plain = subst (λ z. height c z ≡ type_rank c z) (sym e) refl
source_height c (Some a) u (inr w) plain = absurd (true_not (is_scope u) (owner_scope a.owner u w) plain)

resource_height : (c : Collection) (o : Option (Held Resource)) (u : AnyType) → IsIn u (option_case (item_of o) [] resource_mentions) → is_scope u ≡ false → height c u ≡ type_rank c u
resource_height c None u w plain = absurd w
resource_height c (Some h) u w plain = source_height c h.item.alias u w plain

pub mention_lower : (c : Collection) → IsWellFormed c → (t u : AnyType) → IsIn u (mentions c t) → is_scope u ≡ false → height c u < height c t
unfolding height
mention_lower c wf (ty.Resource r) u w plain =
    let l = item_less c resource_mentions c.resources r.0 wf.resources u w in
    let e = resource_height c (slice_get c.resources r.0) u w plain in
    omega (arith, l, e)
mention_lower c wf (ty.Func f) u w plain = let l = item_less c func_mentions c.funcs f.0 wf.funcs u w in let h = height_less c u in omega (arith, l, h)
mention_lower c wf (ty.Value (val.Primitive p)) u w plain = absurd w
mention_lower c wf (ty.Value (val.Own r)) u (inl e) plain = let s : height c u ≡ type_rank c (ty.Resource r) = ap (height c) e in omega (arith, s)
mention_lower c wf (ty.Value (val.Own r)) u (inr w) plain = absurd w
mention_lower c wf (ty.Value (val.Borrow r)) u (inl e) plain = let s : height c u ≡ type_rank c (ty.Resource r) = ap (height c) e in omega (arith, s)
mention_lower c wf (ty.Value (val.Borrow r)) u (inr w) plain = absurd w
mention_lower c wf (ty.Value (val.Defined d)) u w plain = let l = item_less c defined_mentions c.defined d.0 wf.defined u w in let h = height_less c u in omega (arith, l, h)
mention_lower c wf (ty.Interface i) u w plain = let l = item_less c interface_mentions c.interfaces i.0 wf.interfaces u w in let h = height_less c u in omega (arith, l, h)
mention_lower c wf (ty.World v) u w plain = let l = item_less c world_mentions c.worlds v.0 wf.worlds u w in let h = height_less c u in omega (arith, l, h)
mention_lower c wf (ty.Module m) u w plain = absurd w

-- an interface or a world that is mentioned has a lower rank, and so has what an interface or a world mentions
resource_rank : (c : Collection) (r u : AnyType) → u ≡ r → is_scope r ≡ false → is_scope u ≡ true → ⊥
resource_rank c r u e plain scope = true_not (is_scope u) scope (ap is_scope e ∙ plain)

pub scope_lower : (c : Collection) → IsWellFormed c → (t u : AnyType) → IsIn u (mentions c t) → (is_scope u ≡ true) ⊎ (is_scope t ≡ true) → type_rank c u < type_rank c t
scope_lower c wf (ty.Resource r) u w s = item_less c resource_mentions c.resources r.0 wf.resources u w
scope_lower c wf (ty.Func f) u w s = item_less c func_mentions c.funcs f.0 wf.funcs u w
scope_lower c wf (ty.Value (val.Primitive p)) u w s = absurd w
scope_lower c wf (ty.Value (val.Own r)) u (inl e) (inl s) = absurd (resource_rank c (ty.Resource r) u e refl s)
scope_lower c wf (ty.Value (val.Own r)) u (inl e) (inr s) = let no : false ≡ true = s in cc
scope_lower c wf (ty.Value (val.Own r)) u (inr w) s = absurd w
scope_lower c wf (ty.Value (val.Borrow r)) u (inl e) (inl s) = absurd (resource_rank c (ty.Resource r) u e refl s)
scope_lower c wf (ty.Value (val.Borrow r)) u (inl e) (inr s) = let no : false ≡ true = s in cc
scope_lower c wf (ty.Value (val.Borrow r)) u (inr w) s = absurd w
scope_lower c wf (ty.Value (val.Defined d)) u w s = item_less c defined_mentions c.defined d.0 wf.defined u w
scope_lower c wf (ty.Interface i) u w s = item_less c interface_mentions c.interfaces i.0 wf.interfaces u w
scope_lower c wf (ty.World v) u w s = item_less c world_mentions c.worlds v.0 wf.worlds u w
scope_lower c wf (ty.Module m) u w s = absurd w

-- no type mentions one of a higher rank
pub mention_rank : (c : Collection) → IsWellFormed c → (t u : AnyType) → IsIn u (mentions c t) → type_rank c u ≤ type_rank c t
mention_rank c wf (ty.Value (val.Own r)) u (inl e) = let s : type_rank c u ≡ type_rank c (ty.Resource r) = ap (type_rank c) e in omega (arith, s)
mention_rank c wf (ty.Value (val.Own r)) u (inr w) = absurd w
mention_rank c wf (ty.Value (val.Borrow r)) u (inl e) = let s : type_rank c u ≡ type_rank c (ty.Resource r) = ap (type_rank c) e in omega (arith, s)
mention_rank c wf (ty.Value (val.Borrow r)) u (inr w) = absurd w
mention_rank c wf (ty.Value (val.Primitive p)) u w = absurd w
mention_rank c wf (ty.Value (val.Defined d)) u w = let l = item_less c defined_mentions c.defined d.0 wf.defined u w in omega (arith, l)
mention_rank c wf (ty.Resource r) u w = let l = item_less c resource_mentions c.resources r.0 wf.resources u w in omega (arith, l)
mention_rank c wf (ty.Func f) u w = let l = item_less c func_mentions c.funcs f.0 wf.funcs u w in omega (arith, l)
mention_rank c wf (ty.Interface i) u w = let l = item_less c interface_mentions c.interfaces i.0 wf.interfaces u w in omega (arith, l)
mention_rank c wf (ty.World v) u w = let l = item_less c world_mentions c.worlds v.0 wf.worlds u w in omega (arith, l)
mention_rank c wf (ty.Module m) u w = absurd w

-- ---- a type of the collection has a rank
ranked : {A : Type 0} (n : ℕ) (o : Option (Held A)) → AddedBefore n o → 1 ≤ rank_of_held o
ranked n None b = absurd b
ranked n (Some h) b = omega arith

pub scope_ranked : (c : Collection) → IsWellFormed c → (t : AnyType) → holds_type c t ≡ true → is_scope t ≡ true → 1 ≤ type_rank c t
scope_ranked c wf (ty.Interface i) held s = ranked (size c) (slice_get c.interfaces i.0) (type_before c wf (ty.Interface i) held)
scope_ranked c wf (ty.World w) held s = ranked (size c) (slice_get c.worlds w.0) (type_before c wf (ty.World w) held)
scope_ranked c wf (ty.Resource r) held s = cc
scope_ranked c wf (ty.Func f) held s = cc
scope_ranked c wf (ty.Value v) held s = cc
scope_ranked c wf (ty.Module m) held s = cc
