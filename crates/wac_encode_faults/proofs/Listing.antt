-- What is listed, and the interfaces and worlds among it.
use Rattle.std.proofs.Common.{ℕ, zero, suc, ◌+◌, ◌≤◌, ◌≡◌, ◌⊎◌, inl, inr, refl, ap, sym, ◌∙◌, subst, List, [], ◌∷◌, ◌++◌, Option, Some, None, length, take, drop, true, arith}
use Rattle.std.specs.Prelude.{◌↔◌, slice_get}
use Rattle.std.specs.Option.{option_map}
use Rattle.std.proofs.lemmas.List.{take_all}
use Rattle.wac_types_collection.proofs.lemmas.wide.Members.{in_none, in_first, in_rest, in_parts, in_left as in_joined_left, in_right as in_joined_right, in_either as in_joined}
use Rattle.wac_types_shapes.specs.primitives.Name.{Name, option_case}
use Rattle.wac_types_shapes.specs.shapes.Kinds.{kind_type}
use Rattle.wac_types_shapes.specs.declared.shapes.component.ItemKind.{ItemKind}
use Rattle.wac_types_shapes.specs.declared.shapes.component.«Type».{«Type» as AnyType}
use Rattle.wac_types_shapes.specs.declared.shapes.component.«Type».TheVariants as ty
use Rattle.wac_types_shapes.specs.declared.shapes.component.Interface.{Interface}
use Rattle.wac_types_shapes.specs.declared.shapes.component.InterfaceId.{InterfaceId}
use Rattle.wac_types_shapes.specs.declared.shapes.component.World.{World}
use Rattle.wac_types_shapes.specs.declared.shapes.component.WorldId.{WorldId}
use Rattle.wac_types_collection.specs.collection.Collection.{Collection, item_at, kind_types, used_types, interface_exports, world_imports, world_exports}
use Rattle.wac_types_collection.specs.reach.Reach.{IsIn, mentions}
use Rattle.wac_types_collection.specs.private.reach.Found.{with_all}
use Rattle.wac_types_collection.proofs.lemmas.reach.Lists.{in_left, in_right, in_either, drop_second}
use Rattle.wac_encode_faults.specs.declared.fault.WriteFault.{WriteFault}
use Rattle.wac_encode_faults.specs.Faults.{listed_items, IsListed, listed_fault, IsLowest, IsFaultOfListed}
use Rattle.wac_encode_faults.specs.private.Search.{is_scope, scope_of, scopes_of, inner_scopes}

pub listed_left : (k : ItemKind) (es fs : List (Name × ItemKind)) → IsListed k es → IsListed k (es ++ fs)
listed_left k es fs (n, h) = (n, in_joined_left es fs (n, k) h)

pub listed_right : (k : ItemKind) (es fs : List (Name × ItemKind)) → IsListed k fs → IsListed k (es ++ fs)
listed_right k es fs (n, h) = (n, in_joined_right es fs (n, k) h)

pub listed_either : (k : ItemKind) (es fs : List (Name × ItemKind)) → IsListed k (es ++ fs) → IsListed k es ⊎ IsListed k fs
listed_either k es fs (n, h) = elim (in_joined es fs (n, k) h) [ inl x ↦ inl (n, x) | inr y ↦ inr (n, y) ]

-- the first item, and one of the others
listed_first : (e : Name × ItemKind) (es : List (Name × ItemKind)) → IsListed e.1 (e ∷ es)
listed_first e es = (e.0, in_first e es)

listed_rest : (k : ItemKind) (e : Name × ItemKind) (es : List (Name × ItemKind)) → IsListed k es → IsListed k (e ∷ es)
listed_rest k e es (n, h) = (n, in_rest e (n, k) es h)

listed_parts : (k : ItemKind) (e : Name × ItemKind) (es : List (Name × ItemKind)) → IsListed k (e ∷ es) → (k ≡ e.1) ⊎ IsListed k es
listed_parts k e es (n, h) = elim (in_parts e (n, k) es h) [ inl same ↦ inl (ap (λ (z : Name × ItemKind). z.1) same) | inr w ↦ inr (n, w) ]

pub listed_none : (k : ItemKind) → IsListed k [] → ⊥
listed_none k (n, h) = in_none (n, k) h

-- the faults of two lists are those of both
pub fault_of_both : (es fs : List (Name × ItemKind)) (f : WriteFault) → (IsFaultOfListed es f ⊎ IsFaultOfListed fs f) ↔ IsFaultOfListed (es ++ fs) f
fault_of_both es fs f = (to, from)
  where
    to : IsFaultOfListed es f ⊎ IsFaultOfListed fs f → IsFaultOfListed (es ++ fs) f
    to (inl (k, l, e)) = (k, listed_left k es fs l, e)
    to (inr (k, l, e)) = (k, listed_right k es fs l, e)

    from : IsFaultOfListed (es ++ fs) f → IsFaultOfListed es f ⊎ IsFaultOfListed fs f
    from (k, l, e) = elim (listed_either k es fs l) [ inl x ↦ inl (k, x, e) | inr y ↦ inr (k, y, e) ]

-- the first items with one more
take_one : (es : List (Name × ItemKind)) (i : ℕ) (v : ItemKind) → option_map (λ e. e.1) (slice_get es i) ≡ Some v → (name : Name) × (take (suc i) es ≡ take i es ++ (name, v) ∷ [])
take_one [] i v h = cc
take_one (e ∷ es) zero v h = (e.0, ap (λ z. (e.0, z) ∷ []) (inner h))
  where
    inner : Some e.1 ≡ Some v → e.1 ≡ v
    inner h = cc
take_one (e ∷ es) (suc i) v h = let (name, is) = take_one es i v h in (name, ap (λ xs. e ∷ xs) is)

pub fault_of_next : (es : List (Name × ItemKind)) (i : ℕ) (v : ItemKind) → option_map (λ e. e.1) (slice_get es i) ≡ Some v → (f : WriteFault)
    → (IsFaultOfListed (take i es) f ⊎ (listed_fault v ≡ Some f)) ↔ IsFaultOfListed (take (i + 1) es) f
fault_of_next es i v h f =
    let (name, is) = take_one es i v h in
    let more : suc i ≡ i + 1 = omega arith in
    let whole = sym is ∙ ap (λ n. take n es) more in
    (λ w. subst (λ xs. IsFaultOfListed xs f) whole (to name w), λ w. from name (subst (λ xs. IsFaultOfListed xs f) (sym whole) w))
  where
    to : (name : Name) → IsFaultOfListed (take i es) f ⊎ (listed_fault v ≡ Some f) → IsFaultOfListed (take i es ++ (name, v) ∷ []) f
    to name (inl (k, l, e)) = (k, listed_left k (take i es) ((name, v) ∷ []) l, e)
    to name (inr e) = (v, listed_right v (take i es) ((name, v) ∷ []) (listed_first (name, v) []), e)

    from : (name : Name) → IsFaultOfListed (take i es ++ (name, v) ∷ []) f → IsFaultOfListed (take i es) f ⊎ (listed_fault v ≡ Some f)
    from name (k, l, e) = elim (listed_either k (take i es) ((name, v) ∷ []) l) [
      | inl x ↦ inl (k, x, e)
      | inr w ↦ elim (listed_parts k (name, v) [] w) [ inl same ↦ inr (ap listed_fault (sym same) ∙ e) | inr n ↦ absurd (listed_none k n) ]
    ]

-- what a type lists
pub listed_interface : (c : Collection) (t : AnyType) (i : InterfaceId) (it : Interface) → t ≡ ty.Interface i → item_at c.interfaces i.0 ≡ Some it → listed_items c t ≡ it.exports
listed_interface c t i it is at = ap (listed_items c) is ∙ ap (λ (o : Option Interface). option_case o [] (λ x. x.exports)) at

pub listed_world : (c : Collection) (t : AnyType) (i : WorldId) (it : World) → t ≡ ty.World i → item_at c.worlds i.0 ≡ Some it → listed_items c t ≡ it.imports ++ it.exports
listed_world c t i it is at = ap (listed_items c) is ∙ ap (λ (o : Option World). option_case o [] (λ x. x.imports) ++ option_case o [] (λ x. x.exports)) at

pub nothing_listed : (c : Collection) (t : AnyType) → ((i : InterfaceId) → t ≡ ty.Interface i → ⊥) → ((i : WorldId) → t ≡ ty.World i → ⊥) → listed_items c t ≡ []
nothing_listed c (ty.Interface i) not_interface not_world = absurd (not_interface i refl)
nothing_listed c (ty.World i) not_interface not_world = absurd (not_world i refl)
nothing_listed c (ty.Resource r) not_interface not_world = refl
nothing_listed c (ty.Func r) not_interface not_world = refl
nothing_listed c (ty.Value r) not_interface not_world = refl
nothing_listed c (ty.Module r) not_interface not_world = refl

pub inner_world : (c : Collection) (t : AnyType) (i : WorldId) (it : World) → t ≡ ty.World i → item_at c.worlds i.0 ≡ Some it → inner_scopes c t ≡ scopes_of it.imports ++ scopes_of it.exports
inner_world c t i it is at = ap (inner_scopes c) is ∙ ap (λ (o : Option World). scopes_of (option_case o [] (λ x. x.imports)) ++ scopes_of (option_case o [] (λ x. x.exports))) at

-- those of all of them
pub fault_of_taken : (es : List (Name × ItemKind)) (i : ℕ) (o : Option WriteFault) → length es ≤ i → IsLowest (IsFaultOfListed (take i es)) o → IsLowest (IsFaultOfListed es) o
fault_of_taken es i o past low = subst (λ xs. IsLowest (IsFaultOfListed xs) o) (take_all i es past) low

-- what is put for a type, and then for others
pub scope_first : (ts : List AnyType) (t : AnyType) (us : List AnyType) → with_all (with_all ts (scope_of t)) us ≡ with_all ts (scope_of t ++ us)
scope_first ts (ty.Interface i) us = refl
scope_first ts (ty.World w) us = refl
scope_first ts (ty.Resource r) us = refl
scope_first ts (ty.Func r) us = refl
scope_first ts (ty.Value r) us = refl
scope_first ts (ty.Module r) us = refl

-- two lists of which nothing is left are empty
pub both_none : {A : Type 0} (xs ys : List A) → ((xs ≡ []) × (ys ≡ [])) ↔ (xs ++ ys ≡ [])
both_none [] ys = (λ h. h.1, λ h. (refl, h))
both_none (x ∷ xs) ys = (λ h. cc, λ h. cc)

-- the scopes of listed items, where those before one have none
pub scopes_past : (es : List (Name × ItemKind)) (i : ℕ) (v : ItemKind) → option_map (λ e. e.1) (slice_get es i) ≡ Some v → scopes_of (drop i es) ≡ scopes_of es
    → scopes_of es ≡ scope_of (kind_type v) ++ scopes_of (drop (i + 1) es)
scopes_past es i v at before = let (_, is) = drop_second es i v at in sym before ∙ ap scopes_of is

-- the scope of a type is that type, and what lists nothing has none
in_scope : (s t : AnyType) → IsIn s (scope_of t) → s ≡ t
in_scope s (ty.Interface i) (inl e) = e
in_scope s (ty.Interface i) (inr n) = absurd n
in_scope s (ty.World w) (inl e) = e
in_scope s (ty.World w) (inr n) = absurd n
in_scope s (ty.Resource r) n = absurd n
in_scope s (ty.Func r) n = absurd n
in_scope s (ty.Value r) n = absurd n
in_scope s (ty.Module r) n = absurd n

pub scope_itself : (t : AnyType) → (is_scope t ≡ true) ↔ IsIn t (scope_of t)
scope_itself (ty.Interface i) = (λ e. inl refl, λ h. refl)
scope_itself (ty.World w) = (λ e. inl refl, λ h. refl)
scope_itself (ty.Resource r) = (λ e. cc, λ n. absurd n)
scope_itself (ty.Func r) = (λ e. cc, λ n. absurd n)
scope_itself (ty.Value r) = (λ e. cc, λ n. absurd n)
scope_itself (ty.Module r) = (λ e. cc, λ n. absurd n)

pub scope_there : (s t : AnyType) → IsIn s (scope_of t) → (s ≡ t) × (is_scope s ≡ true)
scope_there s t h = let same = in_scope s t h in (same, (scope_itself s).1 (subst (λ z. IsIn s (scope_of z)) (sym same) h))

pub scope_or_nothing : (c : Collection) (t : AnyType) → IsIn t (scope_of t) ⊎ ((listed_items c t ≡ []) × (scope_of t ≡ []))
scope_or_nothing c (ty.Interface i) = inl (inl refl)
scope_or_nothing c (ty.World w) = inl (inl refl)
scope_or_nothing c (ty.Resource r) = inr (refl, refl)
scope_or_nothing c (ty.Func r) = inr (refl, refl)
scope_or_nothing c (ty.Value r) = inr (refl, refl)
scope_or_nothing c (ty.Module r) = inr (refl, refl)

pub scope_listed : (k : ItemKind) (es : List (Name × ItemKind)) (s : AnyType) → IsListed k es → IsIn s (scope_of (kind_type k)) → IsIn s (scopes_of es)
scope_listed k [] s h w = absurd (listed_none k h)
scope_listed k (e ∷ es) s h w = elim (listed_parts k e es h) [
  | inl same ↦ in_left s (scope_of (kind_type e.1)) (scopes_of es) (subst (λ z. IsIn s (scope_of (kind_type z))) same w)
  | inr more ↦ in_right s (scope_of (kind_type e.1)) (scopes_of es) (scope_listed k es s more w)
]

pub listed_scope : (es : List (Name × ItemKind)) (s : AnyType) → IsIn s (scopes_of es) → (k : ItemKind) × IsListed k es × (s ≡ kind_type k)
listed_scope [] s h = absurd h
listed_scope (e ∷ es) s h = elim (in_either s (scope_of (kind_type e.1)) (scopes_of es) h) [
  | inl w ↦ (e.1, listed_first e es, in_scope s (kind_type e.1) w)
  | inr w ↦ let (k, l, same) = listed_scope es s w in (k, listed_rest k e es l, same)
]

-- the scopes inside a type are those of the items that it lists
pub inner_of_listed : (c : Collection) (t : AnyType) (k : ItemKind) (s : AnyType) → IsListed k (listed_items c t) → IsIn s (scope_of (kind_type k)) → IsIn s (inner_scopes c t)
inner_of_listed c (ty.Interface i) k s h w = scope_listed k (interface_exports c i) s h w
inner_of_listed c (ty.World i) k s h w = elim (listed_either k (world_imports c i) (world_exports c i) h) [
  | inl x ↦ in_left s (scopes_of (world_imports c i)) (scopes_of (world_exports c i)) (scope_listed k (world_imports c i) s x w)
  | inr y ↦ in_right s (scopes_of (world_imports c i)) (scopes_of (world_exports c i)) (scope_listed k (world_exports c i) s y w)
]
inner_of_listed c (ty.Resource r) k s h w = absurd (listed_none k h)
inner_of_listed c (ty.Func r) k s h w = absurd (listed_none k h)
inner_of_listed c (ty.Value r) k s h w = absurd (listed_none k h)
inner_of_listed c (ty.Module r) k s h w = absurd (listed_none k h)

pub listed_of_inner : (c : Collection) (t s : AnyType) → IsIn s (inner_scopes c t) → (k : ItemKind) × IsListed k (listed_items c t) × (s ≡ kind_type k)
listed_of_inner c (ty.Interface i) s h = listed_scope (interface_exports c i) s h
listed_of_inner c (ty.World i) s h = elim (in_either s (scopes_of (world_imports c i)) (scopes_of (world_exports c i)) h) [
  | inl x ↦ let (k, l, same) = listed_scope (world_imports c i) s x in (k, listed_left k (world_imports c i) (world_exports c i) l, same)
  | inr y ↦ let (k, l, same) = listed_scope (world_exports c i) s y in (k, listed_right k (world_imports c i) (world_exports c i) l, same)
]
listed_of_inner c (ty.Resource r) s h = absurd h
listed_of_inner c (ty.Func r) s h = absurd h
listed_of_inner c (ty.Value r) s h = absurd h
listed_of_inner c (ty.Module r) s h = absurd h

-- they are mentioned
kinds_of_scopes : (es : List (Name × ItemKind)) (s : AnyType) → IsIn s (scopes_of es) → IsIn s (kind_types es)
kinds_of_scopes [] s h = absurd h
kinds_of_scopes (e ∷ es) s h = elim (in_either s (scope_of (kind_type e.1)) (scopes_of es) h) [ inl w ↦ inl (in_scope s (kind_type e.1) w) | inr w ↦ inr (kinds_of_scopes es s w) ]

pub inner_mentioned : (c : Collection) (t s : AnyType) → IsIn s (inner_scopes c t) → IsIn s (mentions c t)
inner_mentioned c (ty.Interface i) s h = by (item_at c.interfaces i.0) h
  where
    by : (o : Option Interface) → IsIn s (scopes_of (option_case o [] (λ x. x.exports))) → IsIn s (option_case o [] (λ x. used_types x.uses ++ kind_types x.exports))
    by None w = absurd w
    by (Some it) w = in_right s (used_types it.uses) (kind_types it.exports) (kinds_of_scopes it.exports s w)
inner_mentioned c (ty.World i) s h = by (item_at c.worlds i.0) h
  where
    by : (o : Option World) → IsIn s (scopes_of (option_case o [] (λ x. x.imports)) ++ scopes_of (option_case o [] (λ x. x.exports)))
        → IsIn s (option_case o [] (λ x. used_types x.uses ++ (kind_types x.imports ++ kind_types x.exports)))
    by None w = absurd w
    by (Some it) w = in_right s (used_types it.uses) (kind_types it.imports ++ kind_types it.exports)
        (elim (in_either s (scopes_of it.imports) (scopes_of it.exports) w) [
          | inl x ↦ in_left s (kind_types it.imports) (kind_types it.exports) (kinds_of_scopes it.imports s x)
          | inr y ↦ in_right s (kind_types it.imports) (kind_types it.exports) (kinds_of_scopes it.exports s y)
        ])
inner_mentioned c (ty.Resource r) s h = absurd h
inner_mentioned c (ty.Func r) s h = absurd h
inner_mentioned c (ty.Value r) s h = absurd h
inner_mentioned c (ty.Module r) s h = absurd h

-- what a type lists inside is an interface or a world
pub scopes_are : (es : List (Name × ItemKind)) (s : AnyType) → IsIn s (scopes_of es) → is_scope s ≡ true
scopes_are [] s h = absurd h
scopes_are (e ∷ es) s h = elim (in_either s (scope_of (kind_type e.1)) (scopes_of es) h) [ inl w ↦ (scope_there s (kind_type e.1) w).1 | inr w ↦ scopes_are es s w ]

pub inner_is_scope : (c : Collection) (t s : AnyType) → IsIn s (inner_scopes c t) → is_scope s ≡ true
inner_is_scope c (ty.Interface i) s h = scopes_are (interface_exports c i) s h
inner_is_scope c (ty.World i) s h = elim (in_either s (scopes_of (world_imports c i)) (scopes_of (world_exports c i)) h) [
  | inl x ↦ scopes_are (world_imports c i) s x
  | inr y ↦ scopes_are (world_exports c i) s y
]
inner_is_scope c (ty.Resource r) s h = absurd h
inner_is_scope c (ty.Func r) s h = absurd h
inner_is_scope c (ty.Value r) s h = absurd h
inner_is_scope c (ty.Module r) s h = absurd h
