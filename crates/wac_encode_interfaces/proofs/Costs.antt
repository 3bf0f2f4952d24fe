-- What items, interfaces and worlds may cost, by their weights.
use Rattle.std.specs.Prelude.{ℕ, ◌≡◌, ◌≤◌, ◌+◌, ◌*◌, Bool, true, false, List, [], ◌∷◌, ◌++◌, length, Option, Some, None}
use Rattle.std.specs.List.{sum_by}
use Rattle.std.proofs.Common.{refl, ap, ◌∙◌, sym, subst, arith}
use Rattle.std.proofs.lemmas.List.Sums.{sum_by-cons, sum_by-append}
use Rattle.wac_types_shapes.specs.primitives.Name.{Name, option_case}
use Rattle.wac_types_shapes.specs.shapes.Kinds.{kind_type}
use Rattle.wac_types_shapes.specs.declared.shapes.component.InterfaceId.{InterfaceId}
use Rattle.wac_types_shapes.specs.declared.shapes.component.WorldId.{WorldId}
use Rattle.wac_types_shapes.specs.declared.shapes.component.World.{World}
use Rattle.wac_types_shapes.specs.declared.shapes.component.ItemKind.{ItemKind}
use Rattle.wac_types_shapes.specs.declared.shapes.component.ItemKind.TheVariants as kind
use Rattle.wac_types_shapes.specs.declared.shapes.component.«Type».{«Type» as AnyType}
use Rattle.wac_types_shapes.specs.declared.shapes.component.«Type».TheVariants as ty
use Rattle.wac_types_collection.specs.collection.Collection.{Collection, IsWellFormed, holds_type, item_at, kind_types, interface_exports, world_imports, world_exports}
use Rattle.wac_types_weight.specs.Weight.{named_part, named_parts, near_all}
use Rattle.wac_types_weight.specs.Text.{own_texts, entry_weight, inner_weight, scope_weight}
use Rattle.wac_types_weight.specs.private.Laws.{ScopeWeighsItsParts}
use Rattle.wac_binary.specs.Items.{Decl}
use Rattle.wac_encode_stacks.specs.Scopes.{declarations}
use Rattle.wac_encode_scopes.specs.declared.encodable.Encodable.{Encodable}
use Rattle.wac_encode_scopes.specs.declared.encodable.Encodable.TheVariants.{Builder, Instance, Component}
use Rattle.wac_encode_scopes.specs.Contents.{content_of}
use Rattle.wac_encode_scopes.specs.private.Paid.{IsOpenType, item_cost, interface_cost, prices, telling_cost, type_cost, world_cost}
use Rattle.wac_encode_faults.specs.Sides.{world_sides}
use Rattle.wac_encode_interfaces.specs.private.Paid.{added_cost, additional_cost, inside_cost, listed_cost, side_cost, sides_cost, told_cost}
use Rattle.wac_encode_interfaces.specs.private.Parts.{interface_of}

-- items of a side

pub side-plain : (c : Collection) (n : Name) (k : ItemKind) → side_cost c n k false ≡ item_cost c (n, k)
side-plain c n (kind.TypeItem t) = refl
side-plain c n (kind.Func f) = refl
side-plain c n (kind.Instance i) = refl
side-plain c n (kind.Component w) = refl
side-plain c n (kind.Module m) = refl
side-plain c n (kind.Value v) = refl

pub side-other : (c : Collection) (n : Name) (k : ItemKind) (additional : Bool) → interface_of k ≡ None → side_cost c n k additional ≡ item_cost c (n, k)
side-other c n (kind.TypeItem t) additional none = refl
side-other c n (kind.Func f) additional none = refl
side-other c n (kind.Instance i) additional none = let no : Some i ≡ None = none in cc
side-other c n (kind.Component w) additional none = refl
side-other c n (kind.Module m) additional none = refl
side-other c n (kind.Value v) additional none = refl

-- types that items mention, in open types

described-same : (c : Collection) (ds : List Decl) (t : AnyType) → type_cost c (declarations ds) t ≡ type_cost c (declarations []) t
described-same c ds (ty.Resource r) = refl
described-same c ds (ty.Func f) = refl
described-same c ds (ty.Value v) = refl
described-same c ds (ty.Interface i) = refl
described-same c ds (ty.World w) = refl
described-same c ds (ty.Module m) = refl

pub described : (c : Collection) (x : Encodable) (t : AnyType) → IsOpenType x → type_cost c (content_of x) t ≡ type_cost c (declarations []) t
described c (Builder items) t h = absurd h
described c (Instance ds) t h = described-same c ds t
described c (Component ds) t h = described-same c ds t

-- interfaces and worlds

scope-sum : (s e n : ℕ) → s ≡ 1 + e + n → (17 + 12 * e + 27 * n) + (10 + 15 * e) ≤ 27 * s
scope-sum s e n h = omega (arith, h)

pub interface-room : ScopeWeighsItsParts → (c : Collection) → IsWellFormed c → (i : InterfaceId) → holds_type c (ty.Interface i) ≡ true → interface_cost c i + (10 + 15 * entry_weight c (ty.Interface i)) ≤ 27 * scope_weight c (ty.Interface i)
interface-room law c wf i held = scope-sum (scope_weight c (ty.Interface i)) (entry_weight c (ty.Interface i)) (inner_weight c (ty.Interface i)) (law c (ty.Interface i) wf held refl)

pub world-room : ScopeWeighsItsParts → (c : Collection) → IsWellFormed c → (w : WorldId) → holds_type c (ty.World w) ≡ true → world_cost c w + (10 + 15 * entry_weight c (ty.World w)) ≤ 27 * scope_weight c (ty.World w)
world-room law c wf w held = scope-sum (scope_weight c (ty.World w)) (entry_weight c (ty.World w)) (inner_weight c (ty.World w)) (law c (ty.World w) wf held refl)

-- items

none-sum : (n s : ℕ) → (10 + 2 * n + 0 + 0) + 0 ≤ 12 * (1 + n) + 27 * s
none-sum n s = omega arith

value-sum : (n s : ℕ) → (10 + 2 * n + 2 + 0) + 0 ≤ 12 * (1 + n) + 27 * s
value-sum n s = omega arith

type-sum : (n s i e : ℕ) → i + (10 + 15 * e) ≤ 27 * s → (10 + 2 * n + 0 + 0) + i ≤ 12 * (1 + n) + 27 * s
type-sum n s i e h = omega (arith, h)

instance-sum : (n s i e : ℕ) → i + (10 + 15 * e) ≤ 27 * s → (10 + 2 * n + 0 + 10 * e) + i ≤ 12 * (1 + n) + 27 * s
instance-sum n s i e h = omega (arith, h)

world-sum : (n s i e : ℕ) → i + (10 + 15 * e) ≤ 27 * s → (10 + 2 * n + i + 0) + 0 ≤ 12 * (1 + n) + 27 * s
world-sum n s i e h = omega (arith, h)

-- An item pays for its interface too.
pub added-less : ScopeWeighsItsParts → (c : Collection) → IsWellFormed c → (n : Name) (k : ItemKind) → holds_type c (kind_type k) ≡ true → added_cost c (n, k) + inside_cost c (kind_type k) ≤ item_cost c (n, k)
added-less law c wf n (kind.TypeItem (ty.Resource r)) held = none-sum (length n) (scope_weight c (ty.Resource r))
added-less law c wf n (kind.TypeItem (ty.Func f)) held = none-sum (length n) (scope_weight c (ty.Func f))
added-less law c wf n (kind.TypeItem (ty.Value v)) held = value-sum (length n) (scope_weight c (ty.Value v))
added-less law c wf n (kind.TypeItem (ty.Interface i)) held = type-sum (length n) (scope_weight c (ty.Interface i)) (interface_cost c i) (entry_weight c (ty.Interface i)) (interface-room law c wf i held)
added-less law c wf n (kind.TypeItem (ty.World w)) held = world-sum (length n) (scope_weight c (ty.World w)) (world_cost c w) (entry_weight c (ty.World w)) (world-room law c wf w held)
added-less law c wf n (kind.TypeItem (ty.Module m)) held = none-sum (length n) (scope_weight c (ty.Module m))
added-less law c wf n (kind.Func f) held = none-sum (length n) (scope_weight c (ty.Func f))
added-less law c wf n (kind.Instance i) held = instance-sum (length n) (scope_weight c (ty.Interface i)) (interface_cost c i) (entry_weight c (ty.Interface i)) (interface-room law c wf i held)
added-less law c wf n (kind.Component w) held = world-sum (length n) (scope_weight c (ty.World w)) (world_cost c w) (entry_weight c (ty.World w)) (world-room law c wf w held)
added-less law c wf n (kind.Module m) held = none-sum (length n) (scope_weight c (ty.Module m))
added-less law c wf n (kind.Value v) held = value-sum (length n) (scope_weight c (ty.Value v))

-- The cost of an item in an open type, without what aliases of its exports may cost.
pub bare-less : (c : Collection) (n : Name) (k : ItemKind) → 10 + 2 * length n + type_cost c (declarations []) (kind_type k) ≤ added_cost c (n, k)
bare-less c n k = more (10 + 2 * length n + type_cost c (declarations []) (kind_type k)) (told_cost c k)
  where
    more : (x y : ℕ) → x ≤ x + y
    more x y = omega arith

-- an instance with what is told of it

tell-sum : (t u n p q : ℕ) → u ≡ (9 + 2 * n) + t → q ≡ (1 + n) + p → t ≤ 10 * p → u ≤ 10 * q
tell-sum t u n p q e h g = omega (arith, e, h, g)

told-listed : (es : List (Name × ItemKind)) → sum_by (λ e. 9 + 2 * length e.0) es ≤ 10 * named_parts es
told-listed [] = omega arith
told-listed (e ∷ es) =
    tell-sum (sum_by (λ (x : Name × ItemKind). 9 + 2 * length x.0) es) (sum_by (λ (x : Name × ItemKind). 9 + 2 * length x.0) (e ∷ es)) (length e.0) (named_parts es) (named_parts (e ∷ es))
    (sum_by-cons (λ (x : Name × ItemKind). 9 + 2 * length x.0) e es) (sum_by-cons named_part e es) (told-listed es)

alias-open : (b : Bool) (ds : List Decl) → (prices b (declarations ds)).alias ≡ 9
alias-open true ds = refl
alias-open false ds = refl

telling-listed : (b : Bool) (ds : List Decl) (es : List (Name × ItemKind)) → telling_cost b (declarations ds) es ≤ 10 * named_parts es
telling-listed b ds es = subst (λ (k : ℕ). sum_by (λ (e : Name × ItemKind). k + 2 * length e.0) es ≤ 10 * named_parts es) (sym (alias-open b ds)) (told-listed es)

pub telling-less : (b : Bool) (x : Encodable) (es : List (Name × ItemKind)) → IsOpenType x → telling_cost b (content_of x) es ≤ 10 * named_parts es
telling-less b (Builder items) es h = absurd h
telling-less b (Instance ds) es h = telling-listed b ds es
telling-less b (Component ds) es h = telling-listed b ds es

-- An instance that is written, listed and told costs no more than its item.
pub instance-less : ScopeWeighsItsParts → (c : Collection) → IsWellFormed c → (n : Name) (i : InterfaceId) (additional : Bool) → holds_type c (ty.Interface i) ≡ true
    → (10 + 2 * length n + interface_cost c i) + 10 * entry_weight c (ty.Interface i) ≤ side_cost c n (kind.Instance i) additional
instance-less law c wf n i true held = same (10 + 2 * length n + interface_cost c i + 10 * entry_weight c (ty.Interface i))
  where
    same : (x : ℕ) → x ≤ x
    same x = omega arith
instance-less law c wf n i false held = all (length n) (scope_weight c (ty.Interface i)) (interface_cost c i) (entry_weight c (ty.Interface i)) (interface-room law c wf i held)
  where
    all : (m s x e : ℕ) → x + (10 + 15 * e) ≤ 27 * s → (10 + 2 * m + x) + 10 * e ≤ 12 * (1 + m) + 27 * s
    all m s x e h = omega (arith, h)

-- all items

cons-sum : (l m n s p q x y : ℕ) → m ≡ (12 * (1 + n) + 27 * s) + l → q ≡ (1 + n) + p → y ≡ s + x → l ≡ 12 * p + 27 * x → m ≡ 12 * q + 27 * y
cons-sum l m n s p q x y e f g h = omega (arith, e, f, g, h)

pub items-cost : (c : Collection) (es : List (Name × ItemKind)) → listed_cost c es ≡ 12 * named_parts es + 27 * sum_by (scope_weight c) (kind_types es)
items-cost c [] = refl
items-cost c (e ∷ es) =
    cons-sum (listed_cost c es) (listed_cost c (e ∷ es)) (length e.0) (scope_weight c (kind_type e.1)) (named_parts es) (named_parts (e ∷ es)) (sum_by (scope_weight c) (kind_types es)) (sum_by (scope_weight c) (kind_types (e ∷ es)))
    (sum_by-cons (item_cost c) e es) (sum_by-cons named_part e es) (sum_by-cons (scope_weight c) (kind_type e.1) (kind_types es)) (items-cost c es)

parts-sum : (l e o s : ℕ) → l ≡ 12 * e + 27 * s → 17 + 12 * e + 27 * (o + s) ≡ 17 + l + 27 * o
parts-sum l e o s h = omega (arith, h)

-- What the items of an interface cost, and what is near them, with the head.
pub interface-items : (c : Collection) (i : InterfaceId) → interface_cost c i ≡ 17 + listed_cost c (interface_exports c i) + 27 * own_texts c (near_all c (kind_types (interface_exports c i)))
interface-items c i =
    let es = interface_exports c i in
    parts-sum (listed_cost c es) (named_parts es) (own_texts c (near_all c (kind_types es))) (sum_by (scope_weight c) (kind_types es)) (items-cost c es)

pub world-items : (c : Collection) (w : WorldId) → world_cost c w ≡ 17 + listed_cost c (world_imports c w ++ world_exports c w) + 27 * own_texts c (near_all c (kind_types (world_imports c w ++ world_exports c w)))
world-items c w =
    let es = world_imports c w ++ world_exports c w in
    parts-sum (listed_cost c es) (named_parts es) (own_texts c (near_all c (kind_types es))) (sum_by (scope_weight c) (kind_types es)) (items-cost c es)

pub listed-both : (c : Collection) (xs ys : List (Name × ItemKind)) → listed_cost c (xs ++ ys) ≡ listed_cost c xs + listed_cost c ys
listed-both c xs ys = sum_by-append (item_cost c) xs ys

pub world-lists : (c : Collection) (w : WorldId) (x : World) → item_at c.worlds w.0 ≡ Some x → world_imports c w ++ world_exports c w ≡ x.imports ++ x.exports
world-lists c w x at = ap (λ (o : Option World). option_case o [] (λ y. y.imports) ++ option_case o [] (λ y. y.exports)) at

sides-sum : (w l m n z o : ℕ) → w ≡ 17 + l + 27 * o → l ≡ m + n → z ≡ 0 → 17 + (m + z + n + 27 * o) ≡ w
sides-sum w l m n z o e f g = omega (arith, e, f, g)

-- The sides of a world cost what the world does, without the head.
pub world-sides-cost : (c : Collection) (w : WorldId) (x : World) → item_at c.worlds w.0 ≡ Some x → 17 + sides_cost c (world_sides x) ≡ world_cost c w
world-sides-cost c w x at =
    let whole : world_cost c w ≡ 17 + listed_cost c (x.imports ++ x.exports) + 27 * own_texts c (near_all c (kind_types (x.imports ++ x.exports))) =
    world-items c w ∙ ap (λ (es : List (Name × ItemKind)). 17 + listed_cost c es + 27 * own_texts c (near_all c (kind_types es))) (world-lists c w x at) in
    sides-sum (world_cost c w) (listed_cost c (x.imports ++ x.exports)) (listed_cost c x.imports) (listed_cost c x.exports) (additional_cost c []) (own_texts c (near_all c (kind_types (x.imports ++ x.exports)))) whole (listed-both c x.imports x.exports) refl
