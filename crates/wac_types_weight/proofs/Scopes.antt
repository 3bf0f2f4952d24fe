-- Interfaces and worlds where they are written, and the weight of a type by its parts.
use Rattle.std.proofs.Common.{ℕ, zero, suc, ◌+◌, ◌<◌, ◌≤◌, Bool, true, false, if◌then◌else◌, List, [], ◌∷◌, ◌++◌, length, flat_map, Contains, Option, Some, None, ◌≡◌, inl, inr, refl, ap, sym, ◌∙◌, subst, arith, nat_lt}
use Rattle.std.specs.List.{sum_by}
use Rattle.std.proofs.lemmas.List.Elements.{filter-append}
use Rattle.std.proofs.lemmas.List.Sums.{sum_by-append}
use Rattle.wac_types_shapes.specs.primitives.Name.{Name, option_case}
use Rattle.wac_types_shapes.specs.shapes.Kinds.{kind_type}
use Rattle.wac_types_shapes.specs.declared.shapes.component.Interface.{Interface}
use Rattle.wac_types_shapes.specs.declared.shapes.component.ItemKind.{ItemKind}
use Rattle.wac_types_shapes.specs.declared.shapes.component.Resource.{Resource}
use Rattle.wac_types_shapes.specs.declared.shapes.component.UsedType.{UsedType}
use Rattle.wac_types_shapes.specs.declared.shapes.component.World.{World}
use Rattle.wac_types_shapes.specs.declared.shapes.component.«Type».{«Type» as AnyType}
use Rattle.wac_types_shapes.specs.declared.shapes.component.«Type».TheVariants as ty
use Rattle.wac_types_collection.specs.declared.collection.collection.Held.{Held}
use Rattle.wac_types_collection.specs.collection.Bound.{is_alias}
use Rattle.wac_types_collection.specs.collection.Collection.{Collection, IsWellFormed, item_at, size, holds_type, used_types, kind_types, interface_mentions, world_mentions}
use Rattle.wac_types_collection.specs.reach.Reach.{mentions, IsIn}
use Rattle.wac_types_collection.specs.subtyping.Ranks.{type_rank}
use Rattle.wac_types_collection.specs.wide.Wide.{interface_uses, world_uses}
use Rattle.wac_types_collection.proofs.lemmas.collection.Steady.{within}
use Rattle.wac_types_collection.proofs.lemmas.reach.Lists.{in_right}
use Rattle.wac_types_collection.proofs.lemmas.reach.Reaching.{mentioned_held}
use Rattle.wac_types_weight.specs.Weight.{named_part, named_parts, interface_parts, world_parts, own, owns, is_scope, scopes, scopes_in, near, near_all, weight_to, weight}
use Rattle.wac_types_weight.specs.Text.{item_types, entry_weight, own_text, own_texts, scope_weight_to, scope_weight}
use Rattle.wac_types_weight.specs.private.Laws.{Covers, WeighsItsParts, ScopeWeighsItsParts, PlainHasNone, OwnHasItems, TextIsLess, NestsLess}
use Rattle.wac_types_weight.proofs.Sums.{sum_in, sum_same, term_less, sum_filter, filter_in}
use Rattle.wac_types_weight.proofs.Heights.{rank_most, scope_lower, mention_rank, scope_ranked}
use Rattle.wac_types_weight.proofs.Near.{to_contains, from_contains, mentions_in, near_holds, near_closed, near_there, near-is-least}

-- ---- what an interface or a world mentions
unfoldable pub uses_of : Collection → AnyType → List (Name × UsedType)
uses_of c (ty.Interface i) = interface_uses c i
uses_of c (ty.World w) = world_uses c w
uses_of c t = []

pub kinds_append : (es fs : List (Name × ItemKind)) → kind_types (es ++ fs) ≡ kind_types es ++ kind_types fs
kinds_append [] fs = refl
kinds_append (e ∷ es) fs = ap (λ l. kind_type e.1 ∷ l) (kinds_append es fs)

-- uses first, then items
pub mentions_are : (c : Collection) (t : AnyType) → is_scope t ≡ true → mentions c t ≡ used_types (uses_of c t) ++ item_types c t
unfolding uses_of
mentions_are c (ty.Interface i) s = by (item_at c.interfaces i.0)
  where
    by : (o : Option Interface) → option_case o [] interface_mentions ≡ used_types (option_case o [] (λ x. x.uses)) ++ kind_types (option_case o [] (λ x. x.exports))
    by None = refl
    by (Some x) = refl
mentions_are c (ty.World w) s = by (item_at c.worlds w.0)
  where
    by : (o : Option World) → option_case o [] world_mentions ≡ used_types (option_case o [] (λ x. x.uses)) ++ kind_types (option_case o [] (λ x. x.imports) ++ option_case o [] (λ x. x.exports))
    by None = refl
    by (Some x) = ap (λ l. used_types x.uses ++ l) (sym (kinds_append x.imports x.exports))
mentions_are c (ty.Resource r) s = let no : false ≡ true = s in cc
mentions_are c (ty.Func f) s = let no : false ≡ true = s in cc
mentions_are c (ty.Value v) s = let no : false ≡ true = s in cc
mentions_are c (ty.Module m) s = let no : false ≡ true = s in cc

pub item_scope : (c : Collection) (t u : AnyType) → IsIn u (item_types c t) → is_scope t ≡ true
item_scope c (ty.Interface i) u h = refl
item_scope c (ty.World w) u h = refl
item_scope c (ty.Resource r) u h = absurd h
item_scope c (ty.Func f) u h = absurd h
item_scope c (ty.Value v) u h = absurd h
item_scope c (ty.Module m) u h = absurd h

pub item_mentioned : (c : Collection) (t u : AnyType) → IsIn u (item_types c t) → IsIn u (mentions c t)
item_mentioned c t u h = subst (λ l. IsIn u l) (sym (mentions_are c t (item_scope c t u h))) (in_right u (used_types (uses_of c t)) (item_types c t) h)

pub item_rank : (c : Collection) → IsWellFormed c → (t u : AnyType) → IsIn u (item_types c t) → type_rank c u < type_rank c t
item_rank c wf t u h = scope_lower c wf t u (item_mentioned c t u h) (inr (item_scope c t u h))

pub item_held : (c : Collection) → IsWellFormed c → (t u : AnyType) → holds_type c t ≡ true → IsIn u (item_types c t) → holds_type c u ≡ true
item_held c wf t u held h = mentioned_held c wf t u held (item_mentioned c t u h)

-- ---- the depth does not count where it suffices
plain_none : (c : Collection) (n : ℕ) (t : AnyType) → is_scope t ≡ false → scope_weight_to n c t ≡ 0
plain_none c zero t is = refl
plain_none c (suc n) t is = ap (λ b. if b then 1 + entry_weight c t + (own_texts c (near_all c (item_types c t)) + sum_by (scope_weight_to n c) (item_types c t)) else 0) is

unranked : (c : Collection) → IsWellFormed c → (t : AnyType) → holds_type c t ≡ true → type_rank c t ≤ 0 → (b : Bool) → is_scope t ≡ b → is_scope t ≡ false
unranked c wf t held low true is = let some = scope_ranked c wf t held is in absurd (omega (arith, some, low))
unranked c wf t held low false is = is

pub scope_steady : (c : Collection) → IsWellFormed c → (n m : ℕ) (t : AnyType) → holds_type c t ≡ true → type_rank c t ≤ n → type_rank c t ≤ m → scope_weight_to n c t ≡ scope_weight_to m c t
scope_steady c wf zero m t held low less = sym (plain_none c m t (unranked c wf t held low (is_scope t) refl))
scope_steady c wf (suc n) zero t held low less = plain_none c (suc n) t (unranked c wf t held less (is_scope t) refl)
scope_steady c wf (suc n) (suc m) t held low less =
    ap (λ s. if is_scope t then 1 + entry_weight c t + (own_texts c (near_all c (item_types c t)) + s) else 0)
    (sum_same (scope_weight_to n c) (scope_weight_to m c) (item_types c t) (inner (scope_steady c wf n m)))
  where
    inner : ((u : AnyType) → holds_type c u ≡ true → type_rank c u ≤ n → type_rank c u ≤ m → scope_weight_to n c u ≡ scope_weight_to m c u) → (u : AnyType) → Contains (item_types c t) u → scope_weight_to n c u ≡ scope_weight_to m c u
    inner deeper u h =
        let w = from_contains u (item_types c t) h in
        let lower = item_rank c wf t u w in
        deeper u (item_held c wf t u held w) (omega (arith, lower, low)) (omega (arith, lower, less))

-- the whole weight at each depth that suffices
pub scope_at : (c : Collection) → IsWellFormed c → (n : ℕ) (t : AnyType) → holds_type c t ≡ true → type_rank c t ≤ n → scope_weight c t ≡ scope_weight_to n c t
unfolding scope_weight
scope_at c wf n t held low = scope_steady c wf (suc (size c)) n t held (let most = rank_most c wf t in omega (arith, most)) low

pub scope-weighs-its-parts : ScopeWeighsItsParts
unfolding scope_weight
scope-weighs-its-parts c t wf held is =
    let same = sum_same (scope_weight_to (size c) c) (scope_weight c) (item_types c t) inner in
    let whole : scope_weight_to (suc (size c)) c t ≡ 1 + entry_weight c t + (own_texts c (near_all c (item_types c t)) + sum_by (scope_weight_to (size c) c) (item_types c t)) =
    ap (λ b. if b then 1 + entry_weight c t + (own_texts c (near_all c (item_types c t)) + sum_by (scope_weight_to (size c) c) (item_types c t)) else 0) is in
    whole ∙ ap (λ s. 1 + entry_weight c t + (own_texts c (near_all c (item_types c t)) + s)) same
  where
    inner : (u : AnyType) → Contains (item_types c t) u → scope_weight_to (size c) c u ≡ scope_weight c u
    inner u h = sym (scope_at c wf (size c) u (item_held c wf t u held (from_contains u (item_types c t) h)) (rank_most c wf u))

pub plain-has-none : PlainHasNone
unfolding scope_weight
plain-has-none c t is = plain_none c (suc (size c)) t is

pub nests-less : NestsLess
nests-less c t u wf held is h =
    let whole = scope-weighs-its-parts c t wf held is in
    let one = term_less (scope_weight c) (item_types c t) u (to_contains u (item_types c t) h) in
    omega (arith, whole, one)

-- ---- what is written of a type is a part of its own weight
some_item : {A : Type 0} (xs : List (Held A)) (i : ℕ) → nat_lt i (length xs) ≡ true → (x : A) × (item_at xs i ≡ Some x)
some_item [] i h = let l = within i 0 h in absurd (omega (arith, l))
some_item (x ∷ xs) zero h = (x.item, refl)
some_item (x ∷ xs) (suc i) h = some_item xs i (grind arith)

pub own-has-items : OwnHasItems
own-has-items c (ty.Interface i) held is =
    let (x, at) = some_item c.interfaces i.0 held in
    let a : own c (ty.Interface i) ≡ 1 + interface_parts x = ap (λ o. option_case o 0 (λ y. 1 + interface_parts y)) at in
    let b : entry_weight c (ty.Interface i) ≡ named_parts x.exports = ap (λ o. named_parts (option_case o [] (λ y. y.exports))) at in
    omega (arith, a, b)
own-has-items c (ty.World w) held is =
    let (x, at) = some_item c.worlds w.0 held in
    let a : own c (ty.World w) ≡ 1 + world_parts x = ap (λ o. option_case o 0 (λ y. 1 + world_parts y)) at in
    let b : entry_weight c (ty.World w) ≡ named_parts (x.imports ++ x.exports) = ap (λ o. named_parts (option_case o [] (λ y. y.imports) ++ option_case o [] (λ y. y.exports))) at in
    let both : named_parts (x.imports ++ x.exports) ≡ named_parts x.imports + named_parts x.exports = sum_by-append named_part x.imports x.exports in
    omega (arith, a, b, both)
own-has-items c (ty.Resource r) held is = let no : false ≡ true = is in cc
own-has-items c (ty.Func f) held is = let no : false ≡ true = is in cc
own-has-items c (ty.Value v) held is = let no : false ≡ true = is in cc
own-has-items c (ty.Module m) held is = let no : false ≡ true = is in cc

pub own_text_less : (c : Collection) (t : AnyType) → own_text c t ≤ own c t
own_text_less c (ty.Resource r) = by (is_alias c r) (item_at c.resources r.0)
  where
    by : (b : Bool) (o : Option Resource) → (if b then 0 else option_case o 0 (λ x. 1)) ≤ option_case o 0 (λ x. 1 + length x.name)
    by true o = omega arith
    by false None = omega arith
    by false (Some x) = omega arith
own_text_less c (ty.Func f) = omega arith
own_text_less c (ty.Value v) = omega arith
own_text_less c (ty.Interface i) = omega arith
own_text_less c (ty.World w) = omega arith
own_text_less c (ty.Module m) = omega arith

-- what is near the items of a type is near the type
pub near_items_less : (c : Collection) → IsWellFormed c → (t : AnyType) → own_texts c (near_all c (item_types c t)) ≤ owns c (near c t)
near_items_less c wf t =
    let least = near-is-least c (item_types c t) (near c t) covered in
    let less = sum_in (own_text c) (own c) (near c t) (λ u h. own_text_less c u) in
    omega (arith, least, less)
  where
    covered : (u : AnyType) → IsIn u (item_types c t) → Covers c (near c t) u
    covered u h = record { closed = near_closed c wf (mentions c t); there = λ is. near_there c (mentions c t) u (item_mentioned c t u h) is }

-- ---- interfaces and worlds among mentions
unfoldable pub scoped : (AnyType → ℕ) → AnyType → ℕ
scoped f u = if is_scope u then f u else 0

-- what types mention has all that the first mentions, and of that the types of its items
pub mentions_less : (c : Collection) (f : AnyType → ℕ) (t : AnyType) → is_scope t ≡ true
    → sum_by (scoped f) (used_types (uses_of c t)) + sum_by (scoped f) (item_types c t) ≤ sum_by f (scopes_in c (t ∷ near c t))
unfolding scoped
mentions_less c f t is =
    let split : scopes_in c (t ∷ near c t) ≡ scopes (mentions c t) ++ scopes (flat_map (mentions c) (near c t)) = filter-append is_scope (mentions c t) (flat_map (mentions c) (near c t)) in
    let whole : sum_by f (scopes_in c (t ∷ near c t)) ≡ sum_by f (scopes (mentions c t) ++ scopes (flat_map (mentions c) (near c t))) = ap (sum_by f) split in
    let parts = sum_by-append f (scopes (mentions c t)) (scopes (flat_map (mentions c) (near c t))) in
    let first : sum_by f (scopes (mentions c t)) ≡ sum_by (scoped f) (mentions c t) = sum_filter is_scope f (mentions c t) in
    let here : sum_by (scoped f) (mentions c t) ≡ sum_by (scoped f) (used_types (uses_of c t) ++ item_types c t) = ap (sum_by (scoped f)) (mentions_are c t is) in
    let both = sum_by-append (scoped f) (used_types (uses_of c t)) (item_types c t) in
    omega (arith, whole, parts, first, here, both)

-- ---- the weight by its parts
scope_in_held : (c : Collection) → IsWellFormed c → (t u : AnyType) → holds_type c t ≡ true → IsIn u (t ∷ near c t) → (holds_type c u ≡ true) × (type_rank c u ≤ type_rank c t)
scope_in_held c wf t u held (inl e) = subst (λ z. (holds_type c z ≡ true) × (type_rank c z ≤ type_rank c t)) (sym e) (held, omega arith)
scope_in_held c wf t u held (inr h) = near_holds c (λ z. (holds_type c z ≡ true) × (type_rank c z ≤ type_rank c t)) on (mentions c t) (λ z w is. (mentioned_held c wf t z held w, mention_rank c wf t z w)) u h
  where
    on : (s z : AnyType) → (holds_type c s ≡ true) × (type_rank c s ≤ type_rank c t) → IsIn z (mentions c s) → is_scope z ≡ false → (holds_type c z ≡ true) × (type_rank c z ≤ type_rank c t)
    on s z p w is = (mentioned_held c wf s z p.0 w, let a = mention_rank c wf s z w in let b = p.1 in omega (arith, a, b))

-- an interface or a world that a type or what is near it mentions has a lower rank
pub mentioned_scope : (c : Collection) → IsWellFormed c → (t u : AnyType) → holds_type c t ≡ true → Contains (scopes_in c (t ∷ near c t)) u → (holds_type c u ≡ true) × (is_scope u ≡ true) × (type_rank c u < type_rank c t)
mentioned_scope c wf t u held h =
    let (there, is) = filter_in is_scope (flat_map (mentions c) (t ∷ near c t)) u h in
    let (s, among, w) = mentions_in c u (t ∷ near c t) (from_contains u (flat_map (mentions c) (t ∷ near c t)) there) in
    let (held_there, low) = scope_in_held c wf t s held among in
    let less = scope_lower c wf s u w (inl is) in
    (mentioned_held c wf s u held_there w, is, omega (arith, low, less))

weight_steady : (c : Collection) → IsWellFormed c → (n m : ℕ) (t : AnyType) → holds_type c t ≡ true → type_rank c t < n → type_rank c t < m → weight_to n c t ≡ weight_to m c t
weight_steady c wf zero m t held low less = absurd (omega (arith, low))
weight_steady c wf (suc n) zero t held low less = absurd (omega (arith, less))
weight_steady c wf (suc n) (suc m) t held low less =
    ap (λ s. own c t + owns c (near c t) + s) (sum_same (weight_to n c) (weight_to m c) (scopes_in c (t ∷ near c t)) (inner (weight_steady c wf n m)))
  where
    inner : ((u : AnyType) → holds_type c u ≡ true → type_rank c u < n → type_rank c u < m → weight_to n c u ≡ weight_to m c u) → (u : AnyType) → Contains (scopes_in c (t ∷ near c t)) u → weight_to n c u ≡ weight_to m c u
    inner deeper u h =
        let (held_there, is, lower) = mentioned_scope c wf t u held h in
        deeper u held_there (omega (arith, lower, low)) (omega (arith, lower, less))

pub weighs-its-parts : WeighsItsParts
unfolding weight
weighs-its-parts c t wf held = ap (λ s. own c t + owns c (near c t) + s) (sum_same (weight_to (size c) c) (weight_to (suc (size c)) c) (scopes_in c (t ∷ near c t)) inner)
  where
    inner : (u : AnyType) → Contains (scopes_in c (t ∷ near c t)) u → weight_to (size c) c u ≡ weight_to (suc (size c)) c u
    inner u h =
        let (held_there, is, lower) = mentioned_scope c wf t u held h in
        let most = rank_most c wf t in
        weight_steady c wf (size c) (suc (size c)) u held_there (omega (arith, lower, most)) (omega (arith, lower, most))

-- ---- the weight where it is written is a part of it
pub scope_less : (n : ℕ) (c : Collection) → IsWellFormed c → (t : AnyType) → holds_type c t ≡ true → scope_weight_to n c t ≤ weight_to n c t
unfolding scoped
scope_less zero c wf t held = omega arith
scope_less (suc n) c wf t held = by (is_scope t) refl (sum_in (scope_weight_to n c) (scoped (weight_to n c)) (item_types c t) (inner (scope_less n c wf)))
  where
    each : (u : AnyType) (b : Bool) → is_scope u ≡ b → scope_weight_to n c u ≤ weight_to n c u → scope_weight_to n c u ≤ (if b then weight_to n c u else 0)
    each u true is less = less
    each u false is less = let none = plain_none c n u is in omega (arith, none)

    inner : ((u : AnyType) → holds_type c u ≡ true → scope_weight_to n c u ≤ weight_to n c u) → (u : AnyType) → Contains (item_types c t) u → scope_weight_to n c u ≤ scoped (weight_to n c) u
    inner deeper u h = each u (is_scope u) refl (deeper u (item_held c wf t u held (from_contains u (item_types c t) h)))

    by : (b : Bool) → is_scope t ≡ b → sum_by (scope_weight_to n c) (item_types c t) ≤ sum_by (scoped (weight_to n c)) (item_types c t)
        → (if b then 1 + entry_weight c t + (own_texts c (near_all c (item_types c t)) + sum_by (scope_weight_to n c) (item_types c t)) else 0) ≤ weight_to (suc n) c t
    by true is inside =
        let items = own-has-items c t held is in
        let nearby = near_items_less c wf t in
        let all = mentions_less c (weight_to n c) t is in
        omega (arith, items, nearby, inside, all)
    by false is inside = omega arith

pub text-is-less : TextIsLess
unfolding scope_weight weight
text-is-less c t wf held = scope_less (suc (size c)) c wf t held
