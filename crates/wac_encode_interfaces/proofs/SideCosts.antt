-- What the items of component types cost, and how many bytes a component type has.
use Rattle.std.specs.Prelude.{ℕ, zero, suc, ◌≡◌, ◌≤◌, ◌<◌, ◌+◌, ◌*◌, ◌^◌, nat_le, Bool, true, false, List, [], ◌∷◌, ◌++◌, length, take, drop, Option, Some, None, Result, Ok, Err, IsErrAnd, slice_get, Contains}
use Rattle.std.specs.BTreeSet.{BTreeSet}
use Rattle.std.specs.List.{AllByRecursion, flat_map, sum_by}
use Rattle.std.proofs.Common.{refl, ap, ◌∙◌, sym, subst, arith, inl, inr, le_refl, add-one}
use Rattle.std.proofs.lemmas.Bool.{le-leb, lt-leb}
use Rattle.std.proofs.lemmas.List.Sums.{sum_by-cons, sum_by-take-le}
use Rattle.wac_types_shapes.specs.primitives.Name.{Name, option_case}
use Rattle.wac_types_shapes.specs.primitives.Tree.{Side, imported, exported}
use Rattle.wac_types_shapes.specs.shapes.Kinds.{kind_type}
use Rattle.wac_types_shapes.specs.declared.shapes.component.Interface.{Interface}
use Rattle.wac_types_shapes.specs.declared.shapes.component.InterfaceId.{InterfaceId}
use Rattle.wac_types_shapes.specs.declared.shapes.component.ItemKind.{ItemKind}
use Rattle.wac_types_shapes.specs.declared.shapes.component.ItemKind.TheVariants as kind
use Rattle.wac_types_shapes.specs.declared.shapes.component.ResourceId.{ResourceId}
use Rattle.wac_types_shapes.specs.declared.shapes.component.«Type».{«Type» as AnyType}
use Rattle.wac_types_shapes.specs.declared.shapes.component.«Type».TheVariants as ty
use Rattle.wac_types_collection.specs.collection.Collection.{Collection, IsWellFormed, holds_type, item_at, kind_types}
use Rattle.wac_types_collection.specs.reach.Reach.{IsIn}
use Rattle.wac_types_collection.proofs.lemmas.wide.Members.{in_left, in_right}
use Rattle.wac_types_collection.proofs.lemmas.wide.Wide.{all_at}
use Rattle.wac_types_weight.specs.Weight.{is_scope, near_all}
use Rattle.wac_types_weight.specs.Text.{entry_weight, own_texts, scope_weight}
use Rattle.wac_types_weight.specs.private.Laws.{Covers, NearIsClosed, ScopeWeighsItsParts}
use Rattle.wac_binary.specs.Items.{Decl}
use Rattle.wac_binary.specs.Bytes.{decl_bytes}
use Rattle.wac_binary.specs.declared.fault.BinaryFault.{BinaryFault}
use Rattle.wac_binary.specs.declared.fault.BinaryFault.TheVariants.{TooLarge, OutOfMemory}
use Rattle.wac_encode_stacks.specs.Scopes.{declarations}
use Rattle.wac_encode_stacks.specs.private.Sizes.{size_of}
use Rattle.wac_encode_scopes.specs.declared.encodable.Encodable.{Encodable}
use Rattle.wac_encode_scopes.specs.declared.encodable.Encodable.TheVariants.{Builder, Instance, Component}
use Rattle.wac_encode_scopes.specs.declared.scope.Scope.{Scope}
use Rattle.wac_encode_scopes.specs.declared.state.State.{State}
use Rattle.wac_encode_scopes.specs.Books.{opened}
use Rattle.wac_encode_scopes.specs.Contents.{content_of, declarations_of}
use Rattle.wac_encode_scopes.specs.States.{outward}
use Rattle.wac_encode_scopes.specs.private.Components.{IsComponentType}
use Rattle.wac_encode_scopes.specs.private.Paid.{HasNoRoom, IsOpenType, IsPaid, IsPriced, all_paid, charge, interface_cost, item_cost, pending, rate, sum_below, telling_cost, too_deep, too_large, total, type_cost}
use Rattle.wac_encode_scopes.proofs.Paying.{adds-at-most, no-room-before, no-room-up-to, no-room-with-more, pays-both, pays-nothing, pays-up-to, pays-with-more}
use Rattle.wac_encode_faults.specs.Sides.{Sides}
use Rattle.wac_encode_interfaces.specs.declared.sides.Parts.{Parts}
use Rattle.wac_encode_interfaces.specs.private.Ordered.{IsOrdered, first_number, side_list}
use Rattle.wac_encode_interfaces.specs.private.Paid.{CoversSides, SizedWithin, added_cost, additional_cost, inside_cost, listed_cost, part_at, part_cost, side_cost, side_total, side_types}
use Rattle.wac_encode_interfaces.specs.private.Parts.{ArePlanned, sides_in}
use Rattle.wac_encode_interfaces.specs.private.Worlds.{Worlds}
use Rattle.wac_encode_interfaces.specs.private.Written.{IsItemOf}
use Rattle.wac_encode_interfaces.proofs.Answered.{alone-after, component-open, entries-are, priced-alone, rate-open, telling-same}
use Rattle.wac_encode_interfaces.proofs.Costs.{added-less, bare-less, described, instance-less, side-plain, telling-less}
use Rattle.wac_encode_interfaces.proofs.Shown.{contains-at}
use Rattle.wac_encode_interfaces.proofs.Sided.{export-item, import-item}
use Rattle.wac_encode_interfaces.proofs.Totals.{below-list, below-parted, once-below, take-next}

-- ---- one item

fresh-sum : (n s : ℕ) → 10 + 2 * n ≤ 12 * (1 + n) + 27 * s
fresh-sum n s = omega arith

-- A fresh resource.
pub fresh-less : (c : Collection) (n : Name) (r : ResourceId) → 10 + 2 * length n ≤ side_cost c n (kind.TypeItem (ty.Resource r)) false
fresh-less c n r = fresh-sum (length n) (scope_weight c (ty.Resource r))

-- An item with its interface.
module _ (law : ScopeWeighsItsParts) (c : Collection) (wf : IsWellFormed c) (b : Bool) (ts : List AnyType) (n : Name) (k : ItemKind) (held : holds_type c (kind_type k) ≡ true) (s m : State) (o : IsOpenType m.here.content) where
  abbrev pub inside : ℕ
  inside = inside_cost c (kind_type k)

  abbrev pub added : ℕ
  added = 10 + 2 * length n + type_cost c (content_of m.here.content) (kind_type k)

  other-less : inside + added ≤ side_cost c n k false
  other-less =
      let same = ap (λ (z : ℕ). 10 + 2 * length n + z) (described c m.here.content (kind_type k) o) in
      let bare = bare-less c n k in
      let less = added-less law c wf n k held in
      subst (λ (z : ℕ). inside + added ≤ z) (sym (side-plain c n k)) (all-sum inside added (10 + 2 * length n + type_cost c (declarations []) (kind_type k)) (added_cost c (n, k)) (item_cost c (n, k)) same bare less)
    where
      all-sum : (i a x y z : ℕ) → a ≡ x → x ≤ y → y + i ≤ z → i + a ≤ z
      all-sum i a x y z e g h = omega (arith, e, g, h)

  inside-less : inside ≤ side_cost c n k false
  inside-less = let all = other-less in omega (arith, all)

  pub other-no-room : HasNoRoom c b [] inside s → HasNoRoom c b ts (side_cost c n k false) s
  other-no-room h = no-room-up-to c b ts inside (side_cost c n k false) s inside-less (no-room-with-more c b ts inside s h)

  pub added-no-room-after : IsPaid c b [] inside s m → HasNoRoom c b ts added m → HasNoRoom c b ts (side_cost c n k false) s
  added-no-room-after g h = no-room-up-to c b ts (inside + added) (side_cost c n k false) s other-less (no-room-before c b ts inside added s m (pays-with-more c b ts inside s m g) h)

  pub other-paid : (u : State) → IsPaid c b [] inside s m → IsPaid c b ts added m u → IsPaid c b ts (side_cost c n k false) s u
  other-paid u g h = pays-up-to c b ts (inside + added) (side_cost c n k false) s u other-less (pays-both c b ts inside added s m u (pays-with-more c b ts inside s m g) h)

-- There is none for its interface.
pub inside-no-room : ScopeWeighsItsParts → (c : Collection) → IsWellFormed c → (b : Bool) (ts : List AnyType) (n : Name) (k : ItemKind) → holds_type c (kind_type k) ≡ true → (s : State) → HasNoRoom c b [] (inside_cost c (kind_type k)) s → HasNoRoom c b ts (side_cost c n k false) s
inside-no-room law c wf b ts n k held s h =
    no-room-up-to c b ts (inside_cost c (kind_type k)) (side_cost c n k false) s
    (subst (λ (z : ℕ). inside_cost c (kind_type k) ≤ z) (sym (side-plain c n k)) (less (added_cost c (n, k)) (inside_cost c (kind_type k)) (item_cost c (n, k)) (added-less law c wf n k held)))
    (no-room-with-more c b ts (inside_cost c (kind_type k)) s h)
  where
    less : (a i z : ℕ) → a + i ≤ z → i ≤ z
    less a i z g = omega (arith, g)

-- An instance that is listed, and then told.
pub told-less : ScopeWeighsItsParts → (c : Collection) → IsWellFormed c → (b : Bool) (n : Name) (i : InterfaceId) (additional : Bool) → holds_type c (ty.Interface i) ≡ true → (it : Interface) → item_at c.interfaces i.0 ≡ Some it → (k : ℕ) (s m : State) → IsPaid c b [] k s m → IsComponentType s.here.content
    → (10 + 2 * length n + interface_cost c i) + telling_cost b (content_of m.here.content) it.exports ≤ side_cost c n (kind.Instance i) additional
told-less law c wf b n i additional held it at k s m paid is =
    let told : telling_cost b (content_of m.here.content) it.exports ≤ 10 * entry_weight c (ty.Interface i) =
    subst (λ (z : ℕ). z ≤ 10 * entry_weight c (ty.Interface i)) (sym (telling-same c b [] k s m it.exports paid))
    (subst (λ (z : ℕ). telling_cost b (content_of s.here.content) it.exports ≤ 10 * z) (sym (entries-are c i it at)) (telling-less b s.here.content it.exports (component-open s.here.content is))) in
    all-sum (10 + 2 * length n + interface_cost c i) (telling_cost b (content_of m.here.content) it.exports) (10 * entry_weight c (ty.Interface i)) (side_cost c n (kind.Instance i) additional) told (instance-less law c wf n i additional held)
  where
    all-sum : (x t e z : ℕ) → t ≤ e → x + e ≤ z → x + t ≤ z
    all-sum x t e z g h = omega (arith, g, h)

pub listed-less : ScopeWeighsItsParts → (c : Collection) → IsWellFormed c → (n : Name) (i : InterfaceId) (additional : Bool) → holds_type c (ty.Interface i) ≡ true → 10 + 2 * length n + interface_cost c i ≤ side_cost c n (kind.Instance i) additional
listed-less law c wf n i additional held = less (10 + 2 * length n + interface_cost c i) (10 * entry_weight c (ty.Interface i)) (side_cost c n (kind.Instance i) additional) (instance-less law c wf n i additional held)
  where
    less : (x e z : ℕ) → x + e ≤ z → x ≤ z
    less x e z h = omega (arith, h)

-- ---- the items of a side

every : (us vs : List AnyType) → ((t : AnyType) → IsIn t us → IsIn t vs) → AllByRecursion (λ t. IsIn t vs) us
every [] vs f = tt
every (u ∷ us) vs f = (f u (inl refl), every us vs (λ t h. f t (inr h)))

pub contained-in : (es : List (Name × ItemKind)) (n : Name) (k : ItemKind) → Contains es (n, k) → IsIn (kind_type k) (kind_types es)
contained-in es n k h = all_at (λ t. IsIn t (kind_types es)) es (n, k) (every (kind_types es) (kind_types es) (λ t g. g)) h

module _ (c : Collection) (b : Bool) (ws : Worlds) (x : Parts) (planned : ArePlanned c ws x) (ts : List AnyType) (covers : CoversSides c ts (sides_in x)) where
  item-covers : (side : Side) (n : Name) (k : ItemKind) (a : Bool) → IsItemOf (sides_in x) side n k a → Covers c ts (kind_type k)
  item-covers imported n k false item = record { closed = covers.closed; there = λ plain. covers.there (kind_type k) (contained-in ((sides_in x).imports ++ (sides_in x).exports) n k (in_left (sides_in x).imports (sides_in x).exports (n, k) item)) plain }
  item-covers imported n k true item =
      let found = planned.writable.instances n k item in
      record { closed = covers.closed; there = λ plain. (let scope : true ≡ false = ap (λ (j : ItemKind). is_scope (kind_type j)) (sym found.1) ∙ plain in cc) }
  item-covers exported n k false item = record { closed = covers.closed; there = λ plain. covers.there (kind_type k) (contained-in ((sides_in x).imports ++ (sides_in x).exports) n k (in_right (sides_in x).imports (sides_in x).exports (n, k) item)) plain }
  item-covers exported n k true item = absurd item

  pub part-covers : (side : Side) (p : ℕ) (n : Name) (k : ItemKind) → slice_get (side_list x side) p ≡ Some (n, k) → Covers c ts (kind_type k)
  part-covers imported p n k at = item-covers imported n k (nat_le (length x.listed.now) p) (import-item c b ws x planned p n k (nat_le (length x.listed.now) p) at refl)
  part-covers exported p n k at = item-covers exported n k false (export-item c b ws x planned p n k at)

-- What all items cost.
plain-all : (c : Collection) (es : List (Name × ItemKind)) → sum_by (λ e. side_cost c e.0 e.1 false) es ≡ listed_cost c es
plain-all c [] = refl
plain-all c (e ∷ es) =
    sum_by-cons (λ (x : Name × ItemKind). side_cost c x.0 x.1 false) e es
    ∙ ap (λ (z : ℕ). z + sum_by (λ (x : Name × ItemKind). side_cost c x.0 x.1 false) es) (side-plain c e.0 e.1)
    ∙ ap (λ (z : ℕ). item_cost c e + z) (plain-all c es)
    ∙ sym (sum_by-cons (item_cost c) e es)

side-is : (c : Collection) (x : Parts) (side : Side) → sum_below (part_at c x side) (length (side_list x side)) ≡ side_total c x side
side-is c x imported =
    let own = length x.listed.now in
    below-parted (λ (e : Name × ItemKind) (a : Bool). side_cost c e.0 e.1 a) (λ (q : ℕ). nat_le own q) own x.imports.now (λ q lt. lt-leb own q lt) (λ q le. le-leb own q le)
    ∙ ap (λ (z : ℕ). z + additional_cost c (drop own x.imports.now)) (plain-all c (take own x.imports.now))
side-is c x exported = below-list (λ (e : Name × ItemKind). side_cost c e.0 e.1 false) x.exports.now ∙ plain-all c x.exports.now

pub side-room : (c : Collection) (x : Parts) (side : Side) (steps : List (BTreeSet ℕ)) (order : List ℕ) → IsOrdered steps (first_number x side) (length (side_list x side)) order → sum_by (part_at c x side) order ≤ side_total c x side
side-room c x side steps order h =
    subst (λ (z : ℕ). sum_by (part_at c x side) order ≤ z) (side-is c x side)
    (once-below (part_at c x side) (length (side_list x side)) order (λ i p at. (h.each p).0 (contains-at order i p at)) h.once)

pub part-is : (c : Collection) (x : Parts) (side : Side) (p : ℕ) (n : Name) (k : ItemKind) → slice_get (side_list x side) p ≡ Some (n, k) → part_at c x side p ≡ part_cost c x side p n k
part-is c x side p n k at = ap (λ (o : Option (Name × ItemKind)). option_case o 0 (λ e. part_cost c x side p e.0 e.1)) at

pub item-there-at : (es : List (Name × ItemKind)) (p : ℕ) → p < length es → (n : Name) × (k : ItemKind) × (slice_get es p ≡ Some (n, k))
item-there-at [] p lt = absurd (omega (arith, lt))
item-there-at ((n, k) ∷ es) zero lt = (n, k, refl)
item-there-at (e ∷ es) (suc p) lt = item-there-at es p (omega (arith, lt))

-- ---- a component type

-- A list that covers the sides, and weighs no more than what is near them.
pub sides-covered : NearIsClosed → (c : Collection) → IsWellFormed c → (s : Sides) → (ts : List AnyType) × CoversSides c ts s × (own_texts c ts ≤ own_texts c (near_all c (side_types s)))
sides-covered near c wf s = by_types (side_types s) refl
  where
    least : (m : ℕ) → 0 ≤ m
    least m = omega arith

    none-is : (us : List AnyType) → us ≡ [] → (t : AnyType) → IsIn t us → ⊥
    none-is [] e t h = h
    none-is (u ∷ us) e t h = let no : u ∷ us ≡ [] = e in cc

    by_types : (us : List AnyType) → side_types s ≡ us → (ts : List AnyType) × CoversSides c ts s × (own_texts c ts ≤ own_texts c (near_all c (side_types s)))
    by_types [] is = ([], record { closed = λ t u h. absurd h; there = λ t h. absurd (none-is (side_types s) is t h) }, least (own_texts c (near_all c (side_types s))))
    by_types (u ∷ us) is =
        let here : IsIn u (side_types s) = subst (IsIn u) (sym is) (inl refl) in
        (near_all c (side_types s), record { closed = (near c (side_types s) wf u here).closed; there = λ t h. (near c (side_types s) wf t h).there }, le_refl (own_texts c (near_all c (side_types s))))

component-size : (x : Encodable) → IsComponentType x → size_of (content_of x) ≡ length (flat_map decl_bytes (declarations_of x))
component-size (Component ds) h = refl
component-size (Builder items) h = absurd h
component-size (Instance ds) h = absurd h

size-less : (c : Collection) (b : Bool) (s : State) → size_of (content_of s.here.content) ≤ total c b s
size-less c b s =
    head (total c b s) (size_of (content_of s.here.content)) (pending c b (opened b s.here)) (sum_by (charge c b) (outward b s.around.items))
    (sum_by-cons (charge c b) (opened b s.here) (outward b s.around.items))
  where
    head : (t z p r : ℕ) → t ≡ (z + p) + r → z ≤ t
    head t z p r h = omega (arith, h)

-- All that is written of two sides, in a component type that was begun.
module _ (c : Collection) (b : Bool) (ts near : List AnyType) (n : ℕ) (s : State) (begun : total c b s ≡ 0) (content : s.here.content ≡ Component []) (light : own_texts c ts ≤ own_texts c near) where
  abbrev pub all-cost : ℕ
  all-cost = n + 27 * own_texts c near

  rate-is : rate b (opened b s.here).content ≡ 27
  rate-is = rate-open b s.here.content (component-open s.here.content (subst IsComponentType (sym content) tt))

  pub component-sized : (t : State) → IsPaid c b ts n s t → IsComponentType t.here.content → (ds : List Decl) → ds ≡ declarations_of t.here.content → 0 + length (flat_map decl_bytes ds) ≤ all-cost
  component-sized t paid is ds declared =
      let most = subst (λ (r : ℕ). total c b t ≤ total c b s + r * own_texts c ts + n) rate-is (adds-at-most c b ts n s t paid) in
      let size = component-size t.here.content is in
      let bytes : length (flat_map decl_bytes ds) ≡ length (flat_map decl_bytes (declarations_of t.here.content)) = ap (λ (es : List Decl). length (flat_map decl_bytes es)) declared in
      sized (length (flat_map decl_bytes ds)) (length (flat_map decl_bytes (declarations_of t.here.content))) (size_of (content_of t.here.content)) (total c b t) (total c b s) (own_texts c ts) (own_texts c near) n bytes size (size-less c b t) most begun light
    where
      sized : (l m z t s o r n : ℕ) → l ≡ m → z ≡ m → z ≤ t → t ≤ s + 27 * o + n → s ≡ 0 → o ≤ r → 0 + l ≤ n + 27 * r
      sized l m z t s o r n e f g h i j = omega (arith, e, f, g, h, i, j)

  pub component-no-room : s.around.items ≡ [] → HasNoRoom c b ts n s → 2 ^ 32 ≤ all-cost
  component-no-room around (too_large h) =
      let full = subst (λ (r : ℕ). 2 ^ 32 + all_paid c b (opened b s.here) ts ≤ total c b s + r * own_texts c ts + n) rate-is h in
      filled (2 ^ 32) (all_paid c b (opened b s.here) ts) (total c b s) (own_texts c ts) (own_texts c near) n full begun light
    where
      filled : (m a s o r n : ℕ) → m + a ≤ s + 27 * o + n → s ≡ 0 → o ≤ r → m ≤ n + 27 * r
      filled m a s o r n e f g = omega (arith, e, f, g)
  component-no-room around (too_deep h) = deep (2 ^ 32) (length s.around.items) n (own_texts c near) h (ap (λ (ss : List Scope). length ss) around)
    where
      deep : (m s n r : ℕ) → m ≤ s + n → s ≡ 0 → m ≤ n + 27 * r
      deep m s n r e f = omega (arith, e, f)

-- ---- answers with bytes

pub exit-sized : (h n : ℕ) (e : BinaryFault) (r : Result (List Decl) BinaryFault) → IsErrAnd r (λ y. y ≡ e) → (e ≡ TooLarge → 2 ^ 32 ≤ n) → SizedWithin h n r
exit-sized h n e (Ok ds) g f = absurd g
exit-sized h n e (Err TooLarge) g f = f (sym g)
exit-sized h n e (Err OutOfMemory) g f = tt

-- ---- the loop over the items of a side

-- The items at the first positions of an order are paid.
abbrev pub SidePaid : Collection → Bool → Parts → Side → List ℕ → ℕ → State → State → Type 0
SidePaid c b x side order i old now = (ts : List AnyType) → CoversSides c ts (sides_in x) → IsPaid c b ts (sum_by (part_at c x side) (take i order)) old now

module _ (c : Collection) (b : Bool) (ws : Worlds) (x : Parts) (planned : ArePlanned c ws x) (side : Side) (steps : List (BTreeSet ℕ)) (order : List ℕ) (ordered : IsOrdered steps (first_number x side) (length (side_list x side)) order) (old : State) (around : old.around.items ≡ []) where
  take-none : (f : ℕ → ℕ) (ps : List ℕ) → sum_by f (take 0 ps) ≡ 0
  take-none f [] = refl
  take-none f (p ∷ ps) = refl

  pub side-begun : SidePaid c b x side order 0 old old
  side-begun ts covers = subst (λ (n : ℕ). IsPaid c b ts n old old) (sym (take-none (part_at c x side) order)) (pays-nothing c b ts old)

  item-at : (i p : ℕ) → slice_get order i ≡ Some p → (n : Name) × (k : ItemKind) × (slice_get (side_list x side) p ≡ Some (n, k))
  item-at i p at = item-there-at (side_list x side) p ((ordered.each p).0 (contains-at order i p at))

  more-sum : (i p : ℕ) (n : Name) (k : ItemKind) → slice_get order i ≡ Some p → slice_get (side_list x side) p ≡ Some (n, k) → sum_by (part_at c x side) (take i order) + part_cost c x side p n k ≡ sum_by (part_at c x side) (take (i + 1) order)
  more-sum i p n k at here =
      ap (λ (z : ℕ). sum_by (part_at c x side) (take i order) + z) (sym (part-is c x side p n k here))
      ∙ sym (take-next (part_at c x side) order i p at)
      ∙ ap (λ (m : ℕ). sum_by (part_at c x side) (take m order)) (sym (add-one i))

  pub side-further : (now new : State) (i p : ℕ) → slice_get order i ≡ Some p → SidePaid c b x side order i old now
      → ((n : Name) (k : ItemKind) (ts : List AnyType) → slice_get (side_list x side) p ≡ Some (n, k) → Covers c ts (kind_type k) → IsPriced b now → IsPaid c b ts (part_cost c x side p n k) now new) → SidePaid c b x side order (i + 1) old new
  side-further now new i p at before step ts covers =
      let (n, k, here) = item-at i p at in
      let paid = before ts covers in
      subst (λ (z : ℕ). IsPaid c b ts z old new) (more-sum i p n k at here)
      (pays-both c b ts (sum_by (part_at c x side) (take i order)) (part_cost c x side p n k) old now new paid
      (step n k ts here (part-covers c b ws x planned ts covers side p n k here) (priced-alone b now (alone-after c b ts (sum_by (part_at c x side) (take i order)) old now paid around))))

  first-room : (i : ℕ) → sum_by (part_at c x side) (take i order) ≤ side_total c x side
  first-room i =
      let all = side-room c x side steps order ordered in
      let some = sum_by-take-le (part_at c x side) order i in
      omega (arith, all, some)

  pub side-ended : (now : State) (i : ℕ) → SidePaid c b x side order i old now → (ts : List AnyType) → CoversSides c ts (sides_in x) → IsPaid c b ts (side_total c x side) old now
  side-ended now i before ts covers = pays-up-to c b ts (sum_by (part_at c x side) (take i order)) (side_total c x side) old now (first-room i) (before ts covers)

  pub side-no-room : (now : State) (i p : ℕ) → slice_get order i ≡ Some p → SidePaid c b x side order i old now → (ts : List AnyType) → CoversSides c ts (sides_in x)
      → ((n : Name) (k : ItemKind) → slice_get (side_list x side) p ≡ Some (n, k) → Covers c ts (kind_type k) → IsPriced b now → HasNoRoom c b ts (part_cost c x side p n k) now) → HasNoRoom c b ts (side_total c x side) old
  side-no-room now i p at before ts covers none =
      let (n, k, here) = item-at i p at in
      let paid = before ts covers in
      no-room-up-to c b ts (sum_by (part_at c x side) (take i order) + part_cost c x side p n k) (side_total c x side) old
      (subst (λ (z : ℕ). z ≤ side_total c x side) (sym (more-sum i p n k at here)) (first-room (i + 1)))
      (no-room-before c b ts (sum_by (part_at c x side) (take i order)) (part_cost c x side p n k) old now paid
      (none n k here (part-covers c b ws x planned ts covers side p n k here) (priced-alone b now (alone-after c b ts (sum_by (part_at c x side) (take i order)) old now paid around))))
