-- What open levels are charged, from step to step, until the interface is written.
use Rattle.std.specs.Prelude.{ℕ, zero, suc, ◌≡◌, ◌≤◌, ◌<◌, ◌+◌, ◌-◌, ◌*◌, ◌^◌, ◌⊎◌, ◌&&◌, ◌||◌, Bool, true, false, not, List, [], ◌∷◌, ◌++◌, length, Option, Some, None, is_none, slice_get, if◌then◌else◌}
use Rattle.std.specs.List.{AllZip, sum_by}
use Rattle.std.proofs.Common.{refl, ap, ◌∙◌, sym, subst, arith, le_refl, le_trans, ⊎_elim, inl, inr}
use Rattle.std.proofs.lemmas.List.{append_assoc, append-nil, length-append}
use Rattle.std.proofs.lemmas.List.Sums.{sum_by-take-le, sum_by-cons, sum_by-append, sum_by_push, sum_by-le-sum_by}
use Rattle.std.proofs.lemmas.Option.{none-some, slice_get_within}
use Rattle.wac_types_shapes.specs.primitives.Name.{Name, find_name, option_case}
use Rattle.wac_types_shapes.specs.shapes.Kinds.{kind_type}
use Rattle.wac_types_shapes.specs.declared.shapes.component.InterfaceId.{InterfaceId}
use Rattle.wac_types_shapes.specs.declared.shapes.component.Interface.{Interface}
use Rattle.wac_types_shapes.specs.declared.shapes.component.ItemKind.{ItemKind}
use Rattle.wac_types_shapes.specs.declared.shapes.component.ItemKind.TheVariants as kind
use Rattle.wac_types_shapes.specs.declared.shapes.component.ResourceId.{ResourceId}
use Rattle.wac_types_shapes.specs.declared.shapes.component.UsedType.{UsedType}
use Rattle.wac_types_shapes.specs.declared.shapes.component.«Type».{«Type» as AnyType}
use Rattle.wac_types_shapes.specs.declared.shapes.component.«Type».TheVariants as ty
use Rattle.wac_types_collection.specs.collection.Collection.{Collection, IsWellFormed, holds_type, item_at, kind_types, interface_exports}
use Rattle.wac_types_collection.specs.collection.Bound.{is_alias, lists_type}
use Rattle.wac_types_collection.specs.reach.Reach.{IsIn}
use Rattle.wac_types_weight.specs.Weight.{near_all}
use Rattle.wac_types_weight.specs.Text.{own_texts, scope_weight}
use Rattle.wac_types_weight.specs.private.Laws.{Covers, NearIsClosed, ScopeWeighsItsParts}
use Rattle.wac_encode_order.specs.private.Interfaces.{comes_later, is_later_at}
use Rattle.wac_encode_stacks.specs.Scopes.{Open, declarations}
use Rattle.wac_encode_scopes.specs.declared.scope.Scope.{Scope}
use Rattle.wac_encode_scopes.specs.declared.state.State.{State}
use Rattle.wac_encode_scopes.specs.Books.{opened}
use Rattle.wac_encode_scopes.specs.Contents.{content_of}
use Rattle.wac_encode_scopes.specs.States.{AllAddTypes, outward}
use Rattle.wac_encode_scopes.specs.private.Interfaces.{BeginsInterface, own_in, own_item, own_items}
use Rattle.wac_encode_scopes.specs.private.Paid.{sum_below, ArePriced, HasNoRoom, IsOpenType, IsPaid, IsPriced, PayMore, PayMoreIn, all_paid, charge, if_some, interface_cost, item_cost, paid_for, rate, too_deep, too_large, total, type_cost}
use Rattle.wac_encode_scopes.proofs.Charges.{rate-all}
use Rattle.wac_encode_scopes.proofs.Sums.{below-le, below-plus, outward-sum}
use Rattle.wac_encode_interfaces.specs.declared.level.Level.{Level}
use Rattle.wac_encode_interfaces.specs.private.Nests.{IsLevel, IsNewLevel, IsNextItem, WaitsFor, following, interface_of}
use Rattle.wac_encode_interfaces.specs.private.Paid.{CoversItems, HasNoRoomLeft, HasNoRoomToClose, PaysClosed, PaysItems, added_cost, cost_at, exported_cost, inside_cost, listed_cost, next_cost, ordered_cost, own_cost, told_cost}
use Rattle.wac_encode_scopes.proofs.Paying.{no-room-before, no-room-up-to, no-room-with-more, pays-both, pays-nothing, pays-up-to, pays-with-more}
use Rattle.wac_encode_interfaces.proofs.Answered.{AreOpen, inner-open, no-room-by, prices-added, rate-added, rate-open}
use Rattle.wac_encode_interfaces.proofs.Costs.{added-less, described, interface-items}
use Rattle.wac_encode_interfaces.proofs.Parts.{next-type-held}
use Rattle.wac_encode_interfaces.proofs.Shown.{contains-at}
use Rattle.wac_encode_interfaces.proofs.Totals.{below-list, once-below, take-next, take-room}

-- ---- what a level costs at most

-- What is near the items of an interface.
abbrev pub near_items : Collection → InterfaceId → List AnyType
near_items c i = near_all c (kind_types (interface_exports c i))

-- An own resource costs this, in an item or not.
abbrev own-part : Collection → Interface → Name × ItemKind → ℕ
own-part c it e = if_some (own_in c it.uses e) (12 * (1 + length e.0))

some-most : {A : Type 0} (o : Option A) (x y : ℕ) → x ≤ y → if_some o x ≤ y
some-most None x y h = omega arith
some-most (Some a) x y h = h

own-part-less : (c : Collection) (it : Interface) (e : Name × ItemKind) → own-part c it e ≤ item_cost c e
own-part-less c it e = some-most (own_in c it.uses e) (12 * (1 + length e.0)) (item_cost c e) (first (12 * (1 + length e.0)) (27 * scope_weight c (kind_type e.1)))
  where
    first : (x y : ℕ) → x ≤ x + y
    first x y = omega arith

own-list : (c : Collection) (uses : List (Name × UsedType)) (es : List (Name × ItemKind)) → sum_by (λ e. 12 * (1 + length e.0)) (own_items c uses es) ≡ sum_by (λ e. if_some (own_in c uses e) (12 * (1 + length e.0))) es
own-list c uses [] = refl
own-list c uses (e ∷ es) =
    sum_by-append (λ (x : Name × ItemKind). 12 * (1 + length x.0)) (own_item c uses e) (own_items c uses es)
    ∙ ap (λ (z : ℕ). z + sum_by (λ (x : Name × ItemKind). 12 * (1 + length x.0)) (own_items c uses es)) (here (own_in c uses e))
    ∙ ap (λ (z : ℕ). if_some (own_in c uses e) (12 * (1 + length e.0)) + z) (own-list c uses es)
    ∙ sym (sum_by-cons (λ (x : Name × ItemKind). if_some (own_in c uses x) (12 * (1 + length x.0))) e es)
  where
    plus : (n : ℕ) → n + 0 ≡ n
    plus n = omega arith

    here : (o : Option ResourceId) → sum_by (λ (x : Name × ItemKind). 12 * (1 + length x.0)) (option_case o [] (λ r. e ∷ [])) ≡ if_some o (12 * (1 + length e.0))
    here None = refl
    here (Some r) = sum_by-cons (λ (x : Name × ItemKind). 12 * (1 + length x.0)) e [] ∙ plus (12 * (1 + length e.0))

-- An item that comes later is no own resource.
later-other : (c : Collection) (it : Interface) (cut : Bool) (e : Name × ItemKind) → comes_later c it cut e ≡ true → own-part c it e ≡ 0
later-other c it cut (n, kind.TypeItem (ty.Resource r)) h = by_case (not (is_alias c r) && is_none (find_name it.uses n)) refl h
  where
    by_case : (a : Bool) → (not (is_alias c r) && is_none (find_name it.uses n)) ≡ a → (not a && (lists_type (n, kind.TypeItem (ty.Resource r)) || not cut)) ≡ true → if_some (if a then Some r else None) (12 * (1 + length n)) ≡ 0
    by_case true is g = let no : false ≡ true = g in cc
    by_case false is g = refl
later-other c it cut (n, kind.TypeItem (ty.Func f)) h = refl
later-other c it cut (n, kind.TypeItem (ty.Value v)) h = refl
later-other c it cut (n, kind.TypeItem (ty.Interface i)) h = refl
later-other c it cut (n, kind.TypeItem (ty.World w)) h = refl
later-other c it cut (n, kind.TypeItem (ty.Module m)) h = refl
later-other c it cut (n, kind.Func f) h = refl
later-other c it cut (n, kind.Instance i) h = refl
later-other c it cut (n, kind.Component w) h = refl
later-other c it cut (n, kind.Module m) h = refl
later-other c it cut (n, kind.Value v) h = refl

-- The items of an interface at positions, besides the own resources.
module _ (c : Collection) (it : Interface) where
  abbrev pub whole : ℕ → ℕ
  whole p = option_case (slice_get it.exports p) 0 (item_cost c)

  abbrev owned : ℕ → ℕ
  owned p = option_case (slice_get it.exports p) 0 (own-part c it)

  abbrev other : ℕ → ℕ
  other p = whole p - owned p

  owned-less : (p : ℕ) → owned p ≤ whole p
  owned-less p = by_item (slice_get it.exports p)
    where
      by_item : (o : Option (Name × ItemKind)) → option_case o 0 (own-part c it) ≤ option_case o 0 (item_cost c)
      by_item None = omega arith
      by_item (Some e) = own-part-less c it e

  later-whole : (cut : Bool) (p : ℕ) → is_later_at c it cut p ≡ true → whole p ≤ other p
  later-whole cut p h = nothing-less (whole p) (owned p) (none-owned (slice_get it.exports p) h)
    where
      nothing-less : (w o : ℕ) → o ≡ 0 → w ≤ w - o
      nothing-less w o g = omega (arith, g)

      none-owned : (o : Option (Name × ItemKind)) → option_case o false (comes_later c it cut) ≡ true → option_case o 0 (own-part c it) ≡ 0
      none-owned None g = refl
      none-owned (Some e) g = later-other c it cut e g

  later-within : (cut : Bool) (p : ℕ) → is_later_at c it cut p ≡ true → p < length it.exports
  later-within cut p h = let e = there (slice_get it.exports p) h in slice_get_within it.exports p e.0 e.1
    where
      there : (o : Option (Name × ItemKind)) → option_case o false (comes_later c it cut) ≡ true → (e : Name × ItemKind) × (o ≡ Some e)
      there None g = let no : false ≡ true = g in cc
      there (Some e) g = (e, refl)

  all-later : (cut : Bool) (ps : List ℕ) → ((i p : ℕ) → slice_get ps i ≡ Some p → is_later_at c it cut p ≡ true) → sum_by whole ps ≤ sum_by other ps
  all-later cut [] h = le_refl 0
  all-later cut (p ∷ ps) h =
      both (sum_by whole (p ∷ ps)) (sum_by other (p ∷ ps)) (whole p) (other p) (sum_by whole ps) (sum_by other ps)
      (sum_by-cons whole p ps) (sum_by-cons other p ps) (later-whole cut p (h 0 p refl)) (all-later cut ps (λ i q at. h (suc i) q at))
    where
      both : (x y w o t u : ℕ) → x ≡ w + t → y ≡ o + u → w ≤ o → t ≤ u → x ≤ y
      both x y w o t u f g j k = omega (arith, f, g, j, k)

  -- Own resources, and others in an order without repetition, cost no more than all items.
  pub order-room : (cut : Bool) (ps : List ℕ) → ((i p : ℕ) → slice_get ps i ≡ Some p → is_later_at c it cut p ≡ true) → ((i j p : ℕ) → slice_get ps i ≡ Some p → slice_get ps j ≡ Some p → i ≡ j)
      → sum_by (λ e. 12 * (1 + length e.0)) (own_items c it.uses it.exports) + sum_by whole ps ≤ listed_cost c it.exports
  order-room cut ps later once =
      room-sum (sum_by (λ (e : Name × ItemKind). 12 * (1 + length e.0)) (own_items c it.uses it.exports)) (sum_by whole ps) (sum_by other ps) (sum_below other (length it.exports)) (sum_below owned (length it.exports)) (sum_below whole (length it.exports)) (sum_below (λ p. other p + owned p) (length it.exports))
      (sum_by (own-part c it) it.exports) (listed_cost c it.exports) (all-later cut ps later) (once-below other (length it.exports) ps (λ i p at. later-within cut p (later i p at)) once) (own-list c it.uses it.exports) (below-list (own-part c it) it.exports)
      (below-list (item_cost c) it.exports) (below-plus other owned (length it.exports)) (below-le (λ p. other p + owned p) whole (length it.exports) (λ p. parts-less (whole p) (owned p) (owned-less p)))
    where
      parts-less : (w o : ℕ) → o ≤ w → (w - o) + o ≤ w
      parts-less w o h = omega (arith, h)

      room-sum : (own w r below_other below_owned below_whole below_both e l : ℕ) → w ≤ r → r ≤ below_other → own ≡ e → below_owned ≡ e → below_whole ≡ l → below_both ≡ below_other + below_owned → below_both ≤ below_whole → own + w ≤ l
      room-sum own w r below_other below_owned below_whole below_both e l f g h i j k m = omega (arith, f, g, h, i, j, k, m)

exports-are : (c : Collection) (i : InterfaceId) (it : Interface) → item_at c.interfaces i.0 ≡ Some it → interface_exports c i ≡ it.exports
exports-are c i it at = ap (λ (o : Option Interface). option_case o [] (λ x. x.exports)) at

pub level-order : (c : Collection) (l : Level) → IsLevel c l → own_cost c l.interface + ordered_cost c l ≤ listed_cost c (interface_exports c l.interface)
level-order c l h =
    let same = exports-are c l.interface h.it h.interface in
    let room = order-room c h.it l.types_only l.order.items (λ i p at. (h.each p).0 (contains-at l.order.items i p at)) h.once in
    let own : own_cost c l.interface ≡ sum_by (λ (e : Name × ItemKind). 12 * (1 + length e.0)) (own_items c h.it.uses h.it.exports) = ap (λ (o : Option Interface). option_case o 0 (λ it. sum_by (λ (e : Name × ItemKind). 12 * (1 + length e.0)) (own_items c it.uses it.exports))) h.interface in
    let ordered : ordered_cost c l ≡ sum_by (whole c h.it) l.order.items = ap (λ (es : List (Name × ItemKind)). sum_by (λ (p : ℕ). option_case (slice_get es p) 0 (item_cost c)) l.order.items) same in
    let listed : listed_cost c (interface_exports c l.interface) ≡ listed_cost c h.it.exports = ap (listed_cost c) same in
    order-sum (own_cost c l.interface) (ordered_cost c l) (listed_cost c (interface_exports c l.interface)) (sum_by (λ (e : Name × ItemKind). 12 * (1 + length e.0)) (own_items c h.it.uses h.it.exports)) (sum_by (whole c h.it) l.order.items) (listed_cost c h.it.exports) room own ordered listed
  where
    order-sum : (o r l own whole listed : ℕ) → own + whole ≤ listed → o ≡ own → r ≡ whole → l ≡ listed → o + r ≤ l
    order-sum o r l own whole listed f g h k = omega (arith, f, g, h, k)

most-sum : (own e n o nr i l : ℕ) → i ≡ 17 + l + 27 * nr → own + o ≤ l → e + n ≤ o → own + e + n + 27 * nr + 17 ≤ i
most-sum own e n o nr i l f g h = omega (arith, f, g, h)

-- All that a level may cost, with the head of its type.
pub level-most : (c : Collection) (l : Level) → IsLevel c l → (n : ℕ) → exported_cost c l + n ≤ ordered_cost c l → own_cost c l.interface + exported_cost c l + n + 27 * own_texts c (near_items c l.interface) + 17 ≤ interface_cost c l.interface
level-most c l h n room =
    most-sum (own_cost c l.interface) (exported_cost c l) n (ordered_cost c l) (own_texts c (near_items c l.interface)) (interface_cost c l.interface) (listed_cost c (interface_exports c l.interface))
    (interface-items c l.interface) (level-order c l h) room

-- ---- the next item

pub next-is : (c : Collection) (l : Level) (n : Name) (k : ItemKind) (x : IsNextItem c l n k) → cost_at c l.interface x.position ≡ item_cost c (n, k)
next-is c l n k x =
    let at : slice_get (interface_exports c l.interface) x.position ≡ Some (n, k) = ap (λ (es : List (Name × ItemKind)). slice_get es x.position) (exports-are c l.interface x.it x.interface) ∙ x.item in
    ap (λ (o : Option (Name × ItemKind)). option_case o 0 (item_cost c)) at

-- The item that a level waits for pays for the interface.
pub waits-pays : ScopeWeighsItsParts → (c : Collection) → IsWellFormed c → (l : Level) (n : Name) (k : ItemKind) → IsNextItem c l n k → (i : InterfaceId) → interface_of k ≡ Some i → holds_type c (kind_type k) ≡ true → added_cost c (n, k) + interface_cost c i ≤ item_cost c (n, k)
waits-pays law c wf l n k x i is held = subst (λ (z : ℕ). added_cost c (n, k) + z ≤ item_cost c (n, k)) (inside k is) (added-less law c wf n k held)
  where
    one-some : (j k : InterfaceId) → Some j ≡ Some k → j ≡ k
    one-some j k e = cc

    inside : (j : ItemKind) → interface_of j ≡ Some i → inside_cost c (kind_type j) ≡ interface_cost c i
    inside (kind.Instance j) h = ap (interface_cost c) (one-some j i h)
    inside (kind.TypeItem (ty.Interface j)) h = ap (interface_cost c) (one-some j i h)
    inside (kind.TypeItem (ty.Resource r)) h = let no : None ≡ Some i = h in cc
    inside (kind.TypeItem (ty.Func f)) h = let no : None ≡ Some i = h in cc
    inside (kind.TypeItem (ty.Value v)) h = let no : None ≡ Some i = h in cc
    inside (kind.TypeItem (ty.World w)) h = let no : None ≡ Some i = h in cc
    inside (kind.TypeItem (ty.Module m)) h = let no : None ≡ Some i = h in cc
    inside (kind.Func f) h = let no : None ≡ Some i = h in cc
    inside (kind.Component w) h = let no : None ≡ Some i = h in cc
    inside (kind.Module m) h = let no : None ≡ Some i = h in cc
    inside (kind.Value v) h = let no : None ≡ Some i = h in cc

-- ---- levels that wait, with their scopes, the outermost first

abbrev pub level_cost : Collection → Bool → Level → Open → ℕ
level_cost c b l o = own_cost c l.interface + exported_cost c l + all_paid c b o (near_items c l.interface)

abbrev pub waiting_cost : Collection → Bool → List Level → List Scope → ℕ
waiting_cost c b [] ss = 0
waiting_cost c b (l ∷ ls) [] = 0
waiting_cost c b (l ∷ ls) (s ∷ ss) = level_cost c b l (opened b s) + waiting_cost c b ls ss

-- The levels lead from an interface to one inside it: each waits for the interface of the next.
abbrev pub LeadInto : Collection → InterfaceId → List Level → InterfaceId → Type 0
LeadInto c i [] j = i ≡ j
LeadInto c i (l ∷ ls) j = (l.interface ≡ i) × IsLevel c l × (x : InterfaceId) × WaitsFor c l x × LeadInto c x ls j

-- The types of all items of a level are of the collection.
abbrev pub HoldsNext : Collection → Type 0
HoldsNext c = (l : Level) → IsLevel c l → (n : Name) (k : ItemKind) → IsNextItem c l n k → holds_type c (kind_type k) ≡ true

paid-most : (c : Collection) (b : Bool) (s : Scope) (ts : List AnyType) → IsOpenType s.content → all_paid c b (opened b s) ts ≤ 27 * own_texts c ts
paid-most c b s ts o = subst (λ (r : ℕ). all_paid c b (opened b s) ts ≤ r * own_texts c ts) (rate-open b s.content o) (rate-all c b (opened b s) ts)

added-some : (c : Collection) (e : Name × ItemKind) → 10 ≤ added_cost c e
added-some c e = some (length e.0) (type_cost c (declarations []) (kind_type e.1)) (told_cost c e.1)
  where
    some : (x y z : ℕ) → 10 ≤ 10 + 2 * x + y + z
    some x y z = omega arith

-- A level that waits has room for the interface.
level-room : ScopeWeighsItsParts → (c : Collection) → IsWellFormed c → HoldsNext c → (b : Bool) (l : Level) (s : Scope) → IsLevel c l → IsOpenType s.content → (x : InterfaceId) → WaitsFor c l x → level_cost c b l (opened b s) + interface_cost c x + 1 ≤ interface_cost c l.interface
level-room law c wf holds b l s h o x w =
    let pays = waits-pays law c wf l w.0 w.1 w.2 x w.3 (holds l h w.0 w.1 w.2) in
    let it : cost_at c l.interface w.2.position ≡ item_cost c (w.0, w.1) = next-is c l w.0 w.1 w.2 in
    let next : exported_cost c l + item_cost c (w.0, w.1) ≤ ordered_cost c l = subst (λ (z : ℕ). exported_cost c l + z ≤ ordered_cost c l) it (take-room (cost_at c l.interface) l.order.items l.next w.2.position w.2.next) in
    let most = level-most c l h (item_cost c (w.0, w.1)) next in
    all-sum (own_cost c l.interface) (exported_cost c l) (all_paid c b (opened b s) (near_items c l.interface)) (interface_cost c x) (interface_cost c l.interface) (own_texts c (near_items c l.interface)) (item_cost c (w.0, w.1)) (added_cost c (w.0, w.1)) most pays (added-some c (w.0, w.1)) (paid-most c b s (near_items c l.interface) o)
  where
    all-sum : (own e p x i nr it add : ℕ) → own + e + it + 27 * nr + 17 ≤ i → add + x ≤ it → 10 ≤ add → p ≤ 27 * nr → own + e + p + x + 1 ≤ i
    all-sum own e p x i nr it add f g h k = omega (arith, f, g, h, k)

chain-sum : (v w x j n i : ℕ) → v + x + 1 ≤ i → w + j + n ≤ x → (v + w) + j + suc n ≤ i
chain-sum v w x j n i g h = omega (arith, g, h)

-- All levels that wait have room for the innermost interface.
pub chain-room : ScopeWeighsItsParts → (c : Collection) → IsWellFormed c → HoldsNext c → (b : Bool) (i : InterfaceId) (ls : List Level) (ss : List Scope) (j : InterfaceId) → LeadInto c i ls j → AreOpen ss → length ss ≡ length ls → waiting_cost c b ls ss + interface_cost c j + length ls ≤ interface_cost c i
chain-room law c wf holds b i [] ss j h o long = subst (λ (k : InterfaceId). 0 + interface_cost c k + 0 ≤ interface_cost c i) h (same (interface_cost c i))
  where
    same : (n : ℕ) → 0 + n + 0 ≤ n
    same n = omega arith
chain-room law c wf holds b i (l ∷ ls) [] j h o long = let no : 0 ≡ suc (length ls) = long in absurd (omega (arith, no))
chain-room law c wf holds b i (l ∷ ls) (s ∷ ss) j h o long =
    let one = level-room law c wf holds b l s h.1 o.0 h.2 h.3 in
    let same : suc (length ss) ≡ suc (length ls) = long in
    let rest = chain-room law c wf holds b h.2 ls ss j h.4 o.1 (omega (arith, same)) in
    subst (λ (k : InterfaceId). (level_cost c b l (opened b s) + waiting_cost c b ls ss) + interface_cost c j + suc (length ls) ≤ interface_cost c k) h.0
    (chain-sum (level_cost c b l (opened b s)) (waiting_cost c b ls ss) (interface_cost c h.2) (interface_cost c j) (length ls) (interface_cost c l.interface) one rest)

pub waiting-snoc : (c : Collection) (b : Bool) (ls : List Level) (ss : List Scope) (l : Level) (s : Scope) → length ss ≡ length ls → waiting_cost c b (ls ++ l ∷ []) (ss ++ s ∷ []) ≡ waiting_cost c b ls ss + level_cost c b l (opened b s)
waiting-snoc c b [] [] l s long = flip (level_cost c b l (opened b s))
  where
    flip : (n : ℕ) → n + 0 ≡ 0 + n
    flip n = omega arith
waiting-snoc c b [] (t ∷ ss) l s long = let no : suc (length ss) ≡ 0 = long in absurd (omega (arith, no))
waiting-snoc c b (k ∷ ls) [] l s long = let no : 0 ≡ suc (length ls) = long in absurd (omega (arith, no))
waiting-snoc c b (k ∷ ls) (t ∷ ss) l s long =
    let same : suc (length ss) ≡ suc (length ls) = long in
    let rest = waiting-snoc c b ls ss l s (omega (arith, same)) in
    shift (level_cost c b k (opened b t)) (waiting_cost c b (ls ++ l ∷ []) (ss ++ s ∷ [])) (waiting_cost c b ls ss) (level_cost c b l (opened b s)) rest
  where
    shift : (x y z w : ℕ) → y ≡ z + w → x + y ≡ (x + z) + w
    shift x y z w h = omega (arith, h)

pub lead-snoc : (c : Collection) (i : InterfaceId) (ls : List Level) (l : Level) (x : InterfaceId) → LeadInto c i ls l.interface → IsLevel c l → WaitsFor c l x → LeadInto c i (ls ++ l ∷ []) x
lead-snoc c i [] l x h level w = (sym h, level, x, w, refl)
lead-snoc c i (k ∷ ls) l x h level w = (h.0, h.1, h.2, h.3, lead-snoc c h.2 ls l x h.4 level w)

pub lead-back : (c : Collection) (i : InterfaceId) (ls : List Level) (l : Level) (j : InterfaceId) → LeadInto c i (ls ++ l ∷ []) j → LeadInto c i ls l.interface × IsLevel c l × WaitsFor c l j
lead-back c i [] l j h = (sym h.0, h.1, subst (WaitsFor c l) h.4 h.3)
lead-back c i (k ∷ ls) l j h = let back = lead-back c h.2 ls l j h.4 in ((h.0, h.1, h.2, h.3, back.0), back.1, back.2)

-- ---- types pay more

pub all-more : (c : Collection) (b : Bool) (o p : Open) (ts : List AnyType) → PayMore c b o p → all_paid c b o ts ≤ all_paid c b p ts
all-more c b o p ts h = sum_by-le-sum_by (paid_for c b o) (paid_for c b p) ts h

level-more : (c : Collection) (b : Bool) (l : Level) (s t : Scope) → PayMoreIn c b s t → level_cost c b l (opened b s) ≤ level_cost c b l (opened b t)
level-more c b l s t h = more (own_cost c l.interface + exported_cost c l) (all_paid c b (opened b s) (near_items c l.interface)) (all_paid c b (opened b t) (near_items c l.interface)) (all-more c b (opened b s) (opened b t) (near_items c l.interface) h)
  where
    more : (x y z : ℕ) → y ≤ z → x + y ≤ x + z
    more x y z g = omega (arith, g)

waiting-more : (c : Collection) (b : Bool) (ls : List Level) (ss ts : List Scope) → AllZip (PayMoreIn c b) ss ts → waiting_cost c b ls ss ≤ waiting_cost c b ls ts
waiting-more c b [] ss ts h = le_refl 0
waiting-more c b (l ∷ ls) [] [] h = le_refl 0
waiting-more c b (l ∷ ls) (s ∷ ss) (t ∷ ts) h = both (level_cost c b l (opened b s)) (level_cost c b l (opened b t)) (waiting_cost c b ls ss) (waiting_cost c b ls ts) (level-more c b l s t h.0) (waiting-more c b ls ss ts h.1)
  where
    both : (x y z w : ℕ) → x ≤ y → z ≤ w → x + z ≤ y + w
    both x y z w g k = omega (arith, g, k)
waiting-more c b (l ∷ ls) [] (t ∷ ts) h = absurd h
waiting-more c b (l ∷ ls) (s ∷ ss) [] h = absurd h

abbrev MoreIn : Collection → Bool → List Scope → List Scope → Type 0
MoreIn c b ss ts = AllZip (PayMoreIn c b) ss ts

pay-same : (c : Collection) (b : Bool) (ss : List Scope) → MoreIn c b ss ss
pay-same c b [] = tt
pay-same c b (s ∷ ss) = (λ a. le_refl (paid_for c b (opened b s) a), pay-same c b ss)

pay-then : (c : Collection) (b : Bool) (ss ts us : List Scope) → MoreIn c b ss ts → MoreIn c b ts us → MoreIn c b ss us
pay-then c b [] [] [] g h = tt
pay-then c b (s ∷ ss) (t ∷ ts) (u ∷ us) g h = (λ a. le_trans (g.0 a) (h.0 a), pay-then c b ss ts us g.1 h.1)
pay-then c b [] (t ∷ ts) us g h = absurd g
pay-then c b (s ∷ ss) [] us g h = absurd g
pay-then c b [] [] (u ∷ us) g h = absurd h
pay-then c b (s ∷ ss) (t ∷ ts) [] g h = absurd h

pay-long : (c : Collection) (b : Bool) (ss ts : List Scope) → MoreIn c b ss ts → length ts ≡ length ss
pay-long c b [] [] g = refl
pay-long c b (s ∷ ss) (t ∷ ts) g = ap suc (pay-long c b ss ts g.1)
pay-long c b [] (t ∷ ts) g = absurd g
pay-long c b (s ∷ ss) [] g = absurd g

record PaySplit (c : Collection) (b : Bool) (xs ys zs : List Scope) : Type 0 where
  pub front : List Scope
  pub rest : List Scope
  pub is : zs ≡ front ++ rest
  pub first : MoreIn c b xs front
  pub second : MoreIn c b ys rest

pay-split : (c : Collection) (b : Bool) (xs ys zs : List Scope) → MoreIn c b (xs ++ ys) zs → PaySplit c b xs ys zs
pay-split c b [] ys zs h = record { front = []; rest = zs; is = refl; first = tt; second = h }
pay-split c b (x ∷ xs) ys (z ∷ zs) h =
    let r = pay-split c b xs ys zs h.1 in
    record { front = z ∷ r.front; rest = r.rest; is = ap (λ (ws : List Scope). z ∷ ws) r.is; first = (h.0, r.first); second = r.second }
pay-split c b (x ∷ xs) ys [] h = absurd h

-- ---- all open scopes

abbrev charges : Collection → Bool → List Scope → ℕ
charges c b ss = sum_by (λ (s : Scope). charge c b (opened b s)) ss

total-is : (c : Collection) (b : Bool) (s : State) → total c b s ≡ charge c b (opened b s.here) + charges c b s.around.items
total-is c b s = sum_by-cons (charge c b) (opened b s.here) (outward b s.around.items) ∙ ap (λ (z : ℕ). charge c b (opened b s.here) + z) (outward-sum (charge c b) b s.around.items)

-- A scope is opened.
pub total-opened : (c : Collection) (b : Bool) (s t : State) → t.around.items ≡ s.around.items ++ s.here ∷ [] → total c b t ≡ charge c b (opened b t.here) + total c b s
total-opened c b s t around =
    let new = total-is c b t in
    let old = total-is c b s in
    let more : charges c b t.around.items ≡ charges c b s.around.items + charge c b (opened b s.here) = ap (charges c b) around ∙ sum_by_push (λ (z : Scope). charge c b (opened b z)) s.around.items s.here in
    sums (total c b t) (total c b s) (charge c b (opened b t.here)) (charge c b (opened b s.here)) (charges c b t.around.items) (charges c b s.around.items) new old more
  where
    sums : (t s x y z w : ℕ) → t ≡ x + z → s ≡ y + w → z ≡ w + y → t ≡ x + s
    sums t s x y z w e f g = omega (arith, e, f, g)

-- ---- the invariant

-- What is charged since the first level was opened is what the levels may have cost, and e.
pub record LevelsPaid (c : Collection) (b : Bool) (i : InterfaceId) (old : State) (e : ℕ) (l : Level) (ws : List Level) (s : State) : Type 0 where
  pub base : List Scope
  pub inner : List Scope
  pub around : s.around.items ≡ base ++ inner
  pub count : length inner ≡ length ws
  pub more : AllZip (PayMoreIn c b) (old.around.items ++ old.here ∷ []) base
  pub paid : total c b s ≤ total c b old + (waiting_cost c b ws inner + level_cost c b l (opened b s.here)) + e
  pub inside : LeadInto c i ws l.interface
  pub level : IsLevel c l

base-long : (c : Collection) (b : Bool) (i : InterfaceId) (old : State) (e : ℕ) (l : Level) (ws : List Level) (s : State) (p : LevelsPaid c b i old e l ws s) → length p.base ≡ length old.around.items + 1
base-long c b i old e l ws s p = pay-long c b (old.around.items ++ old.here ∷ []) p.base p.more ∙ length-append old.around.items (old.here ∷ [])

waiting-open : (c : Collection) (b : Bool) (i : InterfaceId) (old : State) (e : ℕ) (l : Level) (ws : List Level) (s : State) (p : LevelsPaid c b i old e l ws s) → IsPriced b s → AreOpen p.inner
waiting-open c b i old e l ws s p priced = inner-open b p.base p.inner s.here.content (length old.around.items) (base-long c b i old e l ws s p) (subst (λ (ss : List Scope). ArePriced b ss s.here.content) p.around priced)

-- The first level.
pub levels-begin : (c : Collection) (b : Bool) (i : InterfaceId) (s t : State) (l : Level) → t.around.items ≡ s.around.items ++ s.here ∷ [] → charge c b (opened b t.here) ≤ own_cost c i → l.interface ≡ i → IsLevel c l → LevelsPaid c b i s 0 l [] t
levels-begin c b i s t l around charged is level = record {
  base = s.around.items ++ s.here ∷ [];
  inner = [];
  around = around ∙ sym (append-nil (s.around.items ++ s.here ∷ []));
  count = refl;
  more = pay-same c b (s.around.items ++ s.here ∷ []);
  paid = first-sum (total c b t) (total c b s) (charge c b (opened b t.here)) (own_cost c i) (own_cost c l.interface) (exported_cost c l) (all_paid c b (opened b t.here) (near_items c l.interface)) (total-opened c b s t around) charged (ap (own_cost c) is);
  inside = sym is;
  level = level;
}
  where
    first-sum : (t s x o p e a : ℕ) → t ≡ x + s → x ≤ o → p ≡ o → t ≤ s + (0 + (p + e + a)) + 0
    first-sum t s x o p e a f g h = omega (arith, f, g, h)

-- A level inside the innermost one.
pub levels-deeper : (c : Collection) (b : Bool) (i : InterfaceId) (old : State) (l : Level) (ws : List Level) (s t : State) (m : Level) → LevelsPaid c b i old 0 l ws s → t.around.items ≡ s.around.items ++ s.here ∷ [] → charge c b (opened b t.here) ≤ own_cost c m.interface
    → WaitsFor c l m.interface → IsLevel c m → LevelsPaid c b i old 0 m (ws ++ l ∷ []) t
levels-deeper c b i old l ws s t m p around charged waits level = record {
  base = p.base;
  inner = p.inner ++ s.here ∷ [];
  around = around ∙ ap (λ (ss : List Scope). ss ++ s.here ∷ []) p.around ∙ append_assoc p.base p.inner (s.here ∷ []);
  count = length-append p.inner (s.here ∷ []) ∙ ap (λ (n : ℕ). n + 1) p.count ∙ sym (length-append ws (l ∷ []));
  more = p.more;
  paid = deeper-sum (total c b t) (total c b s) (total c b old) (charge c b (opened b t.here)) (own_cost c m.interface) (exported_cost c m) (all_paid c b (opened b t.here) (near_items c m.interface)) (waiting_cost c b ws p.inner) (level_cost c b l (opened b s.here)) (waiting_cost c b (ws ++ l ∷ []) (p.inner ++ s.here ∷ []))
      (total-opened c b s t around) charged p.paid (waiting-snoc c b ws p.inner l s.here p.count);
  inside = lead-snoc c i ws l m.interface p.inside p.level waits;
  level = level;
}
  where
    deeper-sum : (t s z x o e a w v u : ℕ) → t ≡ x + s → x ≤ o → s ≤ z + (w + v) + 0 → u ≡ w + v → t ≤ z + (u + (o + e + a)) + 0
    deeper-sum t s z x o e a w v u f g h k = omega (arith, f, g, h, k)

-- Items of the innermost level.
pub levels-further : (c : Collection) (b : Bool) (i : InterfaceId) (old : State) (e : ℕ) (l : Level) (ws : List Level) (s t : State) (m : Level) (n : ℕ) → LevelsPaid c b i old e l ws s → m.interface ≡ l.interface → IsLevel c m → exported_cost c l + n + e ≤ exported_cost c m
    → IsPaid c b (near_items c l.interface) n s t → LevelsPaid c b i old 0 m ws t
levels-further c b i old e l ws s t m n p same level more_items pays =
    let sp = pay-split c b p.base p.inner t.around.items (subst (λ (ss : List Scope). MoreIn c b ss t.around.items) p.around pays.around) in
    record {
      base = sp.front;
      inner = sp.rest;
      around = sp.is;
      count = pay-long c b p.inner sp.rest sp.second ∙ p.count;
      more = pay-then c b (old.around.items ++ old.here ∷ []) p.base sp.front p.more sp.first;
      paid = further-sum (total c b t) (total c b s) (total c b old) (waiting_cost c b ws p.inner) (waiting_cost c b ws sp.rest) (own_cost c l.interface) (own_cost c m.interface) (exported_cost c l) (exported_cost c m) (all_paid c b (opened b s.here) (near_items c l.interface)) (all_paid c b (opened b t.here) (near_items c l.interface)) (all_paid c b (opened b t.here) (near_items c m.interface)) n e
          pays.pays p.paid (waiting-more c b ws p.inner sp.rest sp.second) (ap (own_cost c) same) (ap (λ (j : InterfaceId). all_paid c b (opened b t.here) (near_items c j)) same) more_items;
      inside = subst (LeadInto c i ws) (sym same) p.inside;
      level = level;
    }
  where
    further-sum : (t s z w v o q x y a d f n e : ℕ) → t + a ≤ s + d + n → s ≤ z + (w + (o + x + a)) + e → w ≤ v → q ≡ o → f ≡ d → x + n + e ≤ y → t ≤ z + (v + (q + y + f)) + 0
    further-sum t s z w v o q x y a d f n e h1 h2 h3 h4 h5 h6 = omega (arith, h1, h2, h3, h4, h5, h6)

-- ---- no room

-- There is no room for what is left of the innermost level: then there was none for the interface.
pub levels-no-room : ScopeWeighsItsParts → (c : Collection) → IsWellFormed c → HoldsNext c → (b : Bool) (i : InterfaceId) (old : State) (e : ℕ) (l : Level) (ws : List Level) (s : State) (n : ℕ) → LevelsPaid c b i old e l ws s → IsPriced b s → IsOpenType s.here.content → exported_cost c l + (n + e) ≤ ordered_cost c l
    → HasNoRoom c b (near_items c l.interface) n s → HasNoRoom c b [] (interface_cost c i) old
levels-no-room law c wf holds b i old e l ws s n p priced o room (too_large h) =
    let chain = chain-room law c wf holds b i ws p.inner l.interface p.inside (waiting-open c b i old e l ws s p priced) p.count in
    let most = level-most c l p.level (n + e) room in
    let full : 2 ^ 32 + all_paid c b (opened b s.here) (near_items c l.interface) ≤ total c b s + 27 * own_texts c (near_items c l.interface) + n =
    subst (λ (r : ℕ). 2 ^ 32 + all_paid c b (opened b s.here) (near_items c l.interface) ≤ total c b s + r * own_texts c (near_items c l.interface) + n) (rate-open b s.here.content o) h in
    no-room-by c b (interface_cost c i) old
    (full-sum (2 ^ 32) (all_paid c b (opened b s.here) (near_items c l.interface)) (total c b s) (own_texts c (near_items c l.interface)) n (total c b old) (waiting_cost c b ws p.inner) (own_cost c l.interface) (exported_cost c l) e (interface_cost c l.interface) (length ws) (interface_cost c i) full p.paid most chain)
  where
    full-sum : (m a s r n z w o x e y k i : ℕ) → m + a ≤ s + 27 * r + n → s ≤ z + (w + (o + x + a)) + e → o + x + (n + e) + 27 * r + 17 ≤ y → w + y + k ≤ i → m ≤ z + i
    full-sum m a s r n z w o x e y k i f g h j = omega (arith, f, g, h, j)
levels-no-room law c wf holds b i old e l ws s n p priced o room (too_deep h) =
    let chain = chain-room law c wf holds b i ws p.inner l.interface p.inside (waiting-open c b i old e l ws s p priced) p.count in
    let most = level-most c l p.level (n + e) room in
    let long = base-long c b i old e l ws s p in
    let all = ap (λ (ss : List Scope). length ss) p.around ∙ length-append p.base p.inner in
    let count = p.count in
    too_deep (long-sum (2 ^ 32) (length s.around.items) (length p.base) (length p.inner) (length old.around.items) (length ws) n e (own_cost c l.interface) (exported_cost c l) (own_texts c (near_items c l.interface)) (interface_cost c l.interface) (waiting_cost c b ws p.inner) (interface_cost c i) h all long count most chain)
  where
    long-sum : (m s x k y w n e o z r j v i : ℕ) → m ≤ s + n → s ≡ x + k → x ≡ y + 1 → k ≡ w → o + z + (n + e) + 27 * r + 17 ≤ j → v + j + w ≤ i → m ≤ y + i
    long-sum m s x k y w n e o z r j v i f g h l a d = omega (arith, f, g, h, l, a, d)

-- There is none to open a level for an interface that the innermost level waits for.
pub inner-no-room : ScopeWeighsItsParts → (c : Collection) → IsWellFormed c → HoldsNext c → (b : Bool) (i : InterfaceId) (old : State) (l : Level) (ws : List Level) (s : State) (j : InterfaceId) → LevelsPaid c b i old 0 l ws s → IsPriced b s → IsOpenType s.here.content → WaitsFor c l j → 2 ^ 32 ≤ interface_cost c j → HasNoRoom c b [] (interface_cost c i) old
inner-no-room law c wf holds b i old l ws s j p priced o waits h =
    let chain = chain-room law c wf holds b i ws p.inner l.interface p.inside (waiting-open c b i old 0 l ws s p priced) p.count in
    let one = level-room law c wf holds b l s.here p.level o j waits in
    no-room-by c b (interface_cost c i) old (open-sum (2 ^ 32) (interface_cost c j) (level_cost c b l (opened b s.here)) (interface_cost c l.interface) (waiting_cost c b ws p.inner) (length ws) (interface_cost c i) (total c b old) h one chain)
  where
    open-sum : (m x v y w k i z : ℕ) → m ≤ x → v + x + 1 ≤ y → w + y + k ≤ i → m ≤ z + i
    open-sum m x v y w k i z f g h = omega (arith, f, g, h)

-- There is none to close the innermost level.
pub close-no-room : ScopeWeighsItsParts → (c : Collection) → IsWellFormed c → HoldsNext c → (b : Bool) (i : InterfaceId) (old : State) (l : Level) (ws : List Level) (s : State) → LevelsPaid c b i old 0 l ws s → IsPriced b s → IsOpenType s.here.content → exported_cost c l ≤ ordered_cost c l → HasNoRoomToClose c b s → HasNoRoom c b [] (interface_cost c i) old
close-no-room law c wf holds b i old l ws s p priced o room h = ⊎_elim (by-size p) (by-depth p) h
  where
    room-none : exported_cost c l + 0 ≤ ordered_cost c l
    room-none = let r = room in omega (arith, r)

    plus-none : (m n : ℕ) → m ≤ n → m ≤ n + 0
    plus-none m n g = omega (arith, g)

    size-sum : (m s z w o x a r y k i : ℕ) → m ≤ s + 17 → s ≤ z + (w + (o + x + a)) + 0 → a ≤ 27 * r → o + x + 0 + 27 * r + 17 ≤ y → w + y + k ≤ i → m ≤ z + i
    size-sum m s z w o x a r y k i f g h j l = omega (arith, f, g, h, j, l)

    by-size : LevelsPaid c b i old 0 l ws s → 2 ^ 32 ≤ total c b s + 17 → HasNoRoom c b [] (interface_cost c i) old
    by-size q g =
        let chain = chain-room law c wf holds b i ws q.inner l.interface q.inside (waiting-open c b i old 0 l ws s q priced) q.count in
        let most = level-most c l q.level 0 room-none in
        let paid = paid-most c b s.here (near_items c l.interface) o in
        no-room-by c b (interface_cost c i) old
        (size-sum (2 ^ 32) (total c b s) (total c b old) (waiting_cost c b ws q.inner) (own_cost c l.interface) (exported_cost c l) (all_paid c b (opened b s.here) (near_items c l.interface)) (own_texts c (near_items c l.interface)) (interface_cost c l.interface) (length ws) (interface_cost c i) g q.paid paid most chain)

    by-depth : LevelsPaid c b i old 0 l ws s → 2 ^ 32 ≤ length s.around.items → HasNoRoom c b [] (interface_cost c i) old
    by-depth q g = levels-no-room law c wf holds b i old 0 l ws s 0 q priced o room-none (too_deep (plus-none (2 ^ 32) (length s.around.items) g))

-- ---- the innermost level is closed

last-of : (ss : List Scope) (n : ℕ) → length ss ≡ n + 1 → (ts : List Scope) × (t : Scope) × (ss ≡ ts ++ t ∷ [])
last-of [] n long = let no : 0 ≡ n + 1 = long in absurd (omega (arith, no))
last-of (s ∷ []) n long = ([], s, refl)
last-of (s ∷ t ∷ ss) zero long = let no : suc (suc (length ss)) ≡ 0 + 1 = long in absurd (omega (arith, no))
last-of (s ∷ t ∷ ss) (suc n) long =
    let same : suc (suc (length ss)) ≡ suc n + 1 = long in
    let rest = last-of (t ∷ ss) n (omega (arith, same)) in
    (s ∷ rest.0, rest.1, ap (λ (xs : List Scope). s ∷ xs) rest.2)

-- The level that waited goes on. It still has to pay for the interface.
pub levels-closed : (c : Collection) (b : Bool) (i : InterfaceId) (old : State) (l outer : Level) (us ws : List Level) (s t : State) → ws ≡ us ++ outer ∷ [] → LevelsPaid c b i old 0 l ws s → IsOpenType s.here.content → exported_cost c l ≤ ordered_cost c l → PaysClosed c b s t → LevelsPaid c b i old (interface_cost c l.interface) outer us t
levels-closed c b i old l outer us ws s t last p o room closed =
    let long : length p.inner ≡ length us + 1 = p.count ∙ ap (λ (ls : List Level). length ls) last ∙ length-append us (outer ∷ []) in
    let parts = last-of p.inner (length us) long in
    let short : length parts.0 ≡ length us = one-less (length p.inner) (length parts.0) (length us) long (ap (λ (ss : List Scope). length ss) parts.2 ∙ length-append parts.0 (parts.1 ∷ [])) in
    let scopes : s.around.items ≡ (p.base ++ parts.0) ++ parts.1 ∷ [] = p.around ∙ ap (λ (ss : List Scope). p.base ++ ss) parts.2 ∙ sym (append_assoc p.base parts.0 (parts.1 ∷ [])) in
    let after = closed.1 parts.1 (p.base ++ parts.0) scopes in
    let back = lead-back c i us outer l.interface (subst (λ (ls : List Level). LeadInto c i ls l.interface) last p.inside) in
    let waiting : waiting_cost c b ws p.inner ≡ waiting_cost c b us parts.0 + level_cost c b outer (opened b parts.1) =
    ap (λ (ls : List Level). waiting_cost c b ls p.inner) last ∙ ap (λ (ss : List Scope). waiting_cost c b (us ++ outer ∷ []) ss) parts.2 ∙ waiting-snoc c b us parts.0 outer parts.1 short in
    let most = level-most c l p.level 0 (plus-none (exported_cost c l) (ordered_cost c l) room) in
    record {
      base = p.base;
      inner = parts.0;
      around = after.1;
      count = short;
      more = p.more;
      paid = closed-sum (total c b t) (total c b s) (total c b old) (waiting_cost c b ws p.inner) (waiting_cost c b us parts.0) (level_cost c b outer (opened b parts.1)) (level_cost c b outer (opened b t.here)) (own_cost c l.interface) (exported_cost c l) (all_paid c b (opened b s.here) (near_items c l.interface)) (own_texts c (near_items c l.interface)) (interface_cost c l.interface)
          closed.0 p.paid waiting (level-more c b outer parts.1 t.here after.0) (paid-most c b s.here (near_items c l.interface) o) most;
      inside = back.0;
      level = back.1;
    }
  where
    one-less : (n k m : ℕ) → n ≡ m + 1 → n ≡ k + 1 → k ≡ m
    one-less n k m e f = omega (arith, e, f)

    plus-none : (m n : ℕ) → m ≤ n → m + 0 ≤ n
    plus-none m n g = omega (arith, g)

    closed-sum : (t s z w v x y o e a r i : ℕ) → t ≤ s + 17 → s ≤ z + (w + (o + e + a)) + 0 → w ≡ v + x → x ≤ y → a ≤ 27 * r → o + e + 0 + 27 * r + 17 ≤ i → t ≤ z + (v + y) + i
    closed-sum t s z w v x y o e a r i f g h j k l = omega (arith, f, g, h, j, k, l)

-- The interface is written.
pub levels-ended : (c : Collection) (b : Bool) (i : InterfaceId) (old : State) (l : Level) (ws : List Level) (s t : State) → ws ≡ [] → LevelsPaid c b i old 0 l ws s → IsOpenType s.here.content → exported_cost c l ≤ ordered_cost c l → PaysClosed c b s t → AllAddTypes old t → IsPaid c b [] (interface_cost c i) old t
levels-ended c b i old l ws s t none p o room closed types =
    let empty : p.inner ≡ [] = no-scopes p.inner (p.count ∙ ap (λ (ls : List Level). length ls) none) in
    let sp = pay-split c b old.around.items (old.here ∷ []) p.base p.more in
    let one = only-one sp.rest sp.second in
    let scopes : s.around.items ≡ sp.front ++ one.0 ∷ [] = p.around ∙ ap (λ (ss : List Scope). p.base ++ ss) empty ∙ append-nil p.base ∙ sp.is ∙ ap (λ (ss : List Scope). sp.front ++ ss) one.1 in
    let after = closed.1 one.0 sp.front scopes in
    let waiting : waiting_cost c b ws p.inner ≡ 0 = ap (λ (ls : List Level). waiting_cost c b ls p.inner) none in
    let same : i ≡ l.interface = subst (λ (ls : List Level). LeadInto c i ls l.interface) none p.inside in
    let most = level-most c l p.level 0 (plus-none (exported_cost c l) (ordered_cost c l) room) in
    record {
      pays = ended-sum (total c b t) (total c b s) (total c b old) (waiting_cost c b ws p.inner) (own_cost c l.interface) (exported_cost c l) (all_paid c b (opened b s.here) (near_items c l.interface)) (own_texts c (near_items c l.interface)) (interface_cost c l.interface) (interface_cost c i)
          closed.0 p.paid waiting (paid-most c b s.here (near_items c l.interface) o) most (ap (interface_cost c) same);
      more = λ a. le_trans (one.2 a) (after.0 a);
      around = subst (λ (ss : List Scope). MoreIn c b old.around.items ss) (sym after.1) sp.first;
      priced = prices-added b old.here.content t.here.content types.0;
      rated = rate-added b old.here.content t.here.content types.0;
    }
  where
    no-scopes : (ss : List Scope) → length ss ≡ 0 → ss ≡ []
    no-scopes [] h = refl
    no-scopes (x ∷ ss) h = let no : suc (length ss) ≡ 0 = h in absurd (omega (arith, no))

    only-one : (zs : List Scope) → MoreIn c b (old.here ∷ []) zs → (z : Scope) × (zs ≡ z ∷ []) × PayMoreIn c b old.here z
    only-one (z ∷ []) h = (z, refl, h.0)
    only-one [] h = absurd h
    only-one (z ∷ y ∷ zs) h = absurd h.1

    plus-none : (m n : ℕ) → m ≤ n → m + 0 ≤ n
    plus-none m n g = omega (arith, g)

    ended-sum : (t s z w o e a r j i : ℕ) → t ≤ s + 17 → s ≤ z + (w + (o + e + a)) + 0 → w ≡ 0 → a ≤ 27 * r → o + e + 0 + 27 * r + 17 ≤ j → i ≡ j → t + 0 ≤ z + 0 + i
    ended-sum t s z w o e a r j i f g h k l m = omega (arith, f, g, h, k, l, m)

-- ---- what calls answer

pub exported-less : (c : Collection) (l : Level) → exported_cost c l ≤ ordered_cost c l
exported-less c l = sum_by-take-le (cost_at c l.interface) l.order.items l.next

pub holds-next : (c : Collection) → IsWellFormed c → HoldsNext c
holds-next c wf l h n k x = next-type-held c wf l h n k x

-- What is near the items covers them.
pub near-covers : NearIsClosed → (c : Collection) → IsWellFormed c → (i : InterfaceId) → CoversItems c (near_items c i) i
near-covers law c wf i t h = law c (kind_types (interface_exports c i)) wf t h

kind-in : (es : List (Name × ItemKind)) (p : ℕ) (n : Name) (k : ItemKind) → slice_get es p ≡ Some (n, k) → IsIn (kind_type k) (kind_types es)
kind-in [] p n k at = absurd (none-some (n, k) at)
kind-in (e ∷ es) zero n k at = let same : e ≡ (n, k) = cc in inl (ap (λ (x : Name × ItemKind). kind_type x.1) (sym same))
kind-in (e ∷ es) (suc p) n k at = inr (kind-in es p n k at)

pub next-covers : (c : Collection) (ts : List AnyType) (l : Level) (n : Name) (k : ItemKind) → IsNextItem c l n k → CoversItems c ts l.interface → Covers c ts (kind_type k)
next-covers c ts l n k x covers = covers (kind_type k) (subst (λ (es : List (Name × ItemKind)). IsIn (kind_type k) (kind_types es)) (sym (exports-are c l.interface x.it x.interface)) (kind-in x.it.exports x.position n k x.item))

next-cost-is : (c : Collection) (l : Level) (n : Name) (k : ItemKind) → IsNextItem c l n k → next_cost c l ≡ added_cost c (n, k)
next-cost-is c l n k x =
    let at : slice_get (interface_exports c l.interface) x.position ≡ Some (n, k) = ap (λ (es : List (Name × ItemKind)). slice_get es x.position) (exports-are c l.interface x.it x.interface) ∙ x.item in
    ap (λ (o : Option ℕ). option_case o 0 (λ p. option_case (slice_get (interface_exports c l.interface) p) 0 (added_cost c))) x.next
    ∙ ap (λ (o : Option (Name × ItemKind)). option_case o 0 (added_cost c)) at

-- An item that is exported, and told if it is an instance.
module _ (c : Collection) (b : Bool) (ts : List AnyType) (l : Level) (n : Name) (k : ItemKind) (x : IsNextItem c l n k) (s : State) (o : IsOpenType s.here.content) where
  abbrev pub first_cost : ℕ
  first_cost = 10 + 2 * length n + type_cost c (content_of s.here.content) (kind_type k)

  cost-is : first_cost + told_cost c k ≡ next_cost c l
  cost-is = ap (λ (z : ℕ). 10 + 2 * length n + z + told_cost c k) (described c s.here.content (kind_type k) o) ∙ sym (next-cost-is c l n k x)

  first-less : first_cost ≤ next_cost c l
  first-less = let is = cost-is in omega (arith, is)

  pub export-paid : (m u : State) → IsPaid c b ts first_cost s m → IsPaid c b [] (told_cost c k) m u → IsPaid c b ts (next_cost c l) s u
  export-paid m u g h = subst (λ (z : ℕ). IsPaid c b ts z s u) cost-is (pays-both c b ts first_cost (told_cost c k) s m u g (pays-with-more c b ts (told_cost c k) m u h))

  pub export-no-room : HasNoRoom c b ts first_cost s → HasNoRoom c b ts (next_cost c l) s
  export-no-room h = no-room-up-to c b ts first_cost (next_cost c l) s first-less h

  pub tell-no-room : (m : State) → IsPaid c b ts first_cost s m → HasNoRoom c b [] (told_cost c k) m → HasNoRoom c b ts (next_cost c l) s
  tell-no-room m g h = subst (λ (z : ℕ). HasNoRoom c b ts z s) cost-is (no-room-before c b ts first_cost (told_cost c k) s m g (no-room-with-more c b ts (told_cost c k) m h))

-- The next item of a level pays for itself.
pub next-less : ScopeWeighsItsParts → (c : Collection) → IsWellFormed c → (l : Level) → IsLevel c l → (n : Name) (k : ItemKind) → IsNextItem c l n k → next_cost c l ≤ item_cost c (n, k)
next-less law c wf l h n k x =
    let is = next-cost-is c l n k x in
    let less = added-less law c wf n k (next-type-held c wf l h n k x) in
    omega (arith, is, less)

pub following-is : (c : Collection) (l : Level) (n : Name) (k : ItemKind) → IsNextItem c l n k → exported_cost c (following l) ≡ exported_cost c l + item_cost c (n, k)
following-is c l n k x = take-next (cost_at c l.interface) l.order.items l.next x.position x.next ∙ ap (λ (z : ℕ). exported_cost c l + z) (next-is c l n k x)

pub following-room : (c : Collection) (l : Level) (n : Name) (k : ItemKind) → IsNextItem c l n k → exported_cost c l + item_cost c (n, k) ≤ ordered_cost c l
following-room c l n k x = subst (λ (z : ℕ). exported_cost c l + z ≤ ordered_cost c l) (next-is c l n k x) (take-room (cost_at c l.interface) l.order.items l.next x.position x.next)

-- A level is filled, item by item.
pub record FillingPaid (c : Collection) (b : Bool) (old : State) (first : Level) (now : State) (l : Level) : Type 0 where
  pub paid : PaysItems c b old first now l
  pub priced : IsPriced b old → IsPriced b now
  pub ordered : ordered_cost c l ≡ ordered_cost c first

pub filling-begun : (c : Collection) (b : Bool) (s : State) (l : Level) → FillingPaid c b s l s l
filling-begun c b s l = record { paid = λ ts covers priced. (0, plus (exported_cost c l), pays-nothing c b ts s); priced = λ h. h; ordered = refl }
  where
    plus : (n : ℕ) → n + 0 ≡ n
    plus n = omega arith

module _ (law : ScopeWeighsItsParts) (c : Collection) (wf : IsWellFormed c) (b : Bool) (old now : State) (first l : Level) (same : l.interface ≡ first.interface) (level : IsLevel c l) (n : Name) (k : ItemKind) (x : IsNextItem c l n k) (f : FillingPaid c b old first now l) where
  covers-there : (ts : List AnyType) → CoversItems c ts first.interface → CoversItems c ts l.interface
  covers-there ts covers = subst (CoversItems c ts) (sym same) covers

  pub filling-further : (new : State) (m : Level) → m ≡ following l → ((ts : List AnyType) → CoversItems c ts l.interface → IsPriced b now → IsPaid c b ts (next_cost c l) now new) → (IsPriced b now → IsPriced b new) → FillingPaid c b old first new m
  filling-further new m is step priced = record {
    paid = λ ts covers p.
        (let before = f.paid ts covers p in
        let step_paid = pays-up-to c b ts (next_cost c l) (item_cost c (n, k)) now new (next-less law c wf l level n k x) (step ts (covers-there ts covers) (f.priced p)) in
        (before.0 + item_cost c (n, k), sum-is (exported_cost c first) before.0 (item_cost c (n, k)) (exported_cost c l) (exported_cost c m) before.1 (ap (exported_cost c) is ∙ following-is c l n k x), pays-both c b ts before.0 (item_cost c (n, k)) old now new before.2 step_paid));
    priced = λ p. priced (f.priced p);
    ordered = ap (ordered_cost c) is ∙ f.ordered;
  }
    where
      sum-is : (e p i l m : ℕ) → e + p ≡ l → m ≡ l + i → e + (p + i) ≡ m
      sum-is e p i l m g h = omega (arith, g, h)

  pub filling-no-room : ((ts : List AnyType) → CoversItems c ts l.interface → IsPriced b now → HasNoRoom c b ts (next_cost c l) now) → HasNoRoomLeft c b old first
  filling-no-room none ts covers p =
      let before = f.paid ts covers p in
      let room = following-room c l n k x in
      let less = next-less law c wf l level n k x in
      (before.0 + next_cost c l, sum-less (exported_cost c first) before.0 (next_cost c l) (item_cost c (n, k)) (exported_cost c l) (ordered_cost c l) (ordered_cost c first) before.1 room less f.ordered, no-room-before c b ts before.0 (next_cost c l) old now before.2 (none ts (covers-there ts covers) (f.priced p)))
    where
      sum-less : (e p x i l o q : ℕ) → e + p ≡ l → l + i ≤ o → x ≤ i → o ≡ q → e + (p + x) ≤ q
      sum-less e p x i l o q g h j m = omega (arith, g, h, j, m)

-- ---- steps of the loop over levels

begun-around : (c : Collection) (b : Bool) (i : InterfaceId) (s t : State) (l : Level) → l.interface ≡ i → IsLevel c l → ((it : Interface) → item_at c.interfaces i.0 ≡ Some it → BeginsInterface c b it s t) → t.around.items ≡ s.around.items ++ s.here ∷ []
begun-around c b i s t l is level begins = (begins level.it (subst (λ (j : InterfaceId). item_at c.interfaces j.0 ≡ Some level.it) is level.interface)).around

pub levels-first : (c : Collection) (b : Bool) (i : InterfaceId) (cut : Bool) (s t : State) (l : Level) → IsNewLevel i cut l → IsLevel c l → ((it : Interface) → item_at c.interfaces i.0 ≡ Some it → BeginsInterface c b it s t) → charge c b (opened b t.here) ≤ own_cost c i → LevelsPaid c b i s 0 l [] t
levels-first c b i cut s t l new level begins charged = levels-begin c b i s t l (begun-around c b i s t l new.0 level begins) charged new.0 level

pub levels-filled : NearIsClosed → (c : Collection) → IsWellFormed c → (b : Bool) (i : InterfaceId) (old : State) (l : Level) (ws : List Level) (s t : State) (m : Level) → LevelsPaid c b i old 0 l ws s → IsPriced b s → PaysItems c b s l t m → m.interface ≡ l.interface → IsLevel c m → LevelsPaid c b i old 0 m ws t
levels-filled near c wf b i old l ws s t m p priced pays same level =
    let step = pays (near_items c l.interface) (near-covers near c wf l.interface) priced in
    levels-further c b i old 0 l ws s t m step.0 p same level (less (exported_cost c l) step.0 (exported_cost c m) step.1) step.2
  where
    less : (e n f : ℕ) → e + n ≡ f → e + n + 0 ≤ f
    less e n f h = omega (arith, h)

pub levels-opened : (c : Collection) (b : Bool) (i : InterfaceId) (old s t : State) (l inner outer new : Level) (ws vs : List Level) (j : InterfaceId) → LevelsPaid c b i old 0 l ws s → WaitsFor c l j → IsNewLevel j false inner → IsLevel c inner
    → ((it : Interface) → item_at c.interfaces j.0 ≡ Some it → BeginsInterface c b it s t) → charge c b (opened b t.here) ≤ own_cost c j → outer ≡ l → new ≡ inner → vs ≡ ws ++ outer ∷ [] → LevelsPaid c b i old 0 new vs t
levels-opened c b i old s t l inner outer new ws vs j p waits fresh level begins charged same after last =
    subst (λ (k : Level). LevelsPaid c b i old 0 k vs t) (sym after)
    (subst (λ (ls : List Level). LevelsPaid c b i old 0 inner ls t) (sym (last ∙ ap (λ (k : Level). ws ++ k ∷ []) same))
    (levels-deeper c b i old l ws s t inner p (begun-around c b j s t inner fresh.0 level begins) (subst (λ (k : InterfaceId). charge c b (opened b t.here) ≤ own_cost c k) (sym fresh.0) charged) (subst (WaitsFor c l) (sym fresh.0) waits) level))

-- The level that waited exports the item with the interface.
pub levels-exported : ScopeWeighsItsParts → (c : Collection) → IsWellFormed c → (b : Bool) (i j : InterfaceId) (old : State) (outer : Level) (us : List Level) (t u : State) (m : Level) → LevelsPaid c b i old (interface_cost c j) outer us t → WaitsFor c outer j → m ≡ following outer → IsLevel c m
    → IsPaid c b (near_items c outer.interface) (next_cost c outer) t u → LevelsPaid c b i old 0 m us u
levels-exported law c wf b i j old outer us t u m p waits is level pays =
    levels-further c b i old (interface_cost c j) outer us t u m (next_cost c outer) p (ap (λ (k : Level). k.interface) is) level
    (waited-less (exported_cost c outer) (next_cost c outer) (added_cost c (waits.0, waits.1)) (interface_cost c j) (item_cost c (waits.0, waits.1)) (exported_cost c m) (next-cost-is c outer waits.0 waits.1 waits.2)
    (waits-pays law c wf outer waits.0 waits.1 waits.2 j waits.3 (next-type-held c wf outer p.level waits.0 waits.1 waits.2)) (ap (exported_cost c) is ∙ following-is c outer waits.0 waits.1 waits.2)) pays
  where
    waited-less : (e x a y i f : ℕ) → x ≡ a → a + y ≤ i → f ≡ e + i → e + x + y ≤ f
    waited-less e x a y i f g h k = omega (arith, g, h, k)

-- There is no room for that item.
pub waited-no-room : ScopeWeighsItsParts → (c : Collection) → IsWellFormed c → (b : Bool) (i j : InterfaceId) (old : State) (outer : Level) (us : List Level) (t : State) → LevelsPaid c b i old (interface_cost c j) outer us t → IsPriced b t → IsOpenType t.here.content → WaitsFor c outer j
    → HasNoRoom c b (near_items c outer.interface) (next_cost c outer) t → HasNoRoom c b [] (interface_cost c i) old
waited-no-room law c wf b i j old outer us t p priced o waits none =
    levels-no-room law c wf (holds-next c wf) b i old (interface_cost c j) outer us t (next_cost c outer) p priced o
    (waited-room (exported_cost c outer) (next_cost c outer) (added_cost c (waits.0, waits.1)) (interface_cost c j) (item_cost c (waits.0, waits.1)) (ordered_cost c outer) (next-cost-is c outer waits.0 waits.1 waits.2)
    (waits-pays law c wf outer waits.0 waits.1 waits.2 j waits.3 (next-type-held c wf outer p.level waits.0 waits.1 waits.2)) (following-room c outer waits.0 waits.1 waits.2)) none
  where
    waited-room : (e x a y i o : ℕ) → x ≡ a → a + y ≤ i → e + i ≤ o → e + (x + y) ≤ o
    waited-room e x a y i o g h k = omega (arith, g, h, k)

-- There is no room for what is left of the innermost level.
pub left-no-room : ScopeWeighsItsParts → NearIsClosed → (c : Collection) → IsWellFormed c → (b : Bool) (i : InterfaceId) (old : State) (l : Level) (ws : List Level) (s : State) → LevelsPaid c b i old 0 l ws s → IsPriced b s → IsOpenType s.here.content → HasNoRoomLeft c b s l → HasNoRoom c b [] (interface_cost c i) old
left-no-room law near c wf b i old l ws s p priced o left =
    let none = left (near_items c l.interface) (near-covers near c wf l.interface) priced in
    levels-no-room law c wf (holds-next c wf) b i old 0 l ws s none.0 p priced o (plus (exported_cost c l) none.0 (ordered_cost c l) none.1) none.2
  where
    plus : (e n o : ℕ) → e + n ≤ o → e + (n + 0) ≤ o
    plus e n o h = omega (arith, h)

-- A closed instance type is recorded.
pub closed-recorded : (c : Collection) (b : Bool) (s u v : State) → PaysClosed c b s u → IsPaid c b [] 0 u v → v.around.items ≡ u.around.items → PaysClosed c b s v
closed-recorded c b s u v closed paid same = (
  both (total c b v) (total c b u) (total c b s) paid.pays closed.0,
  λ outer rest is. (let after = closed.1 outer rest is in ((λ a. le_trans (after.0 a) (paid.more a)), same ∙ after.1)),
)
  where
    both : (v u s : ℕ) → v + 0 ≤ u + 0 + 0 → u ≤ s + 17 → v ≤ s + 17
    both v u s g h = omega (arith, g, h)

pub record-no-room : (c : Collection) (b : Bool) (s u : State) → PaysClosed c b s u → length u.around.items ≤ length s.around.items → HasNoRoom c b [] 0 u → HasNoRoomToClose c b s
record-no-room c b s u closed shorter (too_large h) = inl (large-sum (2 ^ 32) (total c b u) (total c b s) (rate b (opened b u.here).content) h closed.0)
  where
    large-sum : (m u s r : ℕ) → m + 0 ≤ u + r * 0 + 0 → u ≤ s + 17 → m ≤ s + 17
    large-sum m u s r g k = omega (arith, g, k)
record-no-room c b s u closed shorter (too_deep h) = inr (deep-sum (2 ^ 32) (length u.around.items) (length s.around.items) h shorter)
  where
    deep-sum : (m u s : ℕ) → m ≤ u + 0 → u ≤ s → m ≤ s
    deep-sum m u s g k = omega (arith, g, k)

-- The level has a next item.
pub next-there : (c : Collection) (l : Level) → IsLevel c l → l.next < length l.order.items → (n : Name) × (k : ItemKind) × IsNextItem c l n k
next-there c l h low =
    let p = position l.order.items l.next low in
    let e = there (slice_get h.it.exports p.0) ((h.each p.0).0 (contains-at l.order.items l.next p.0 p.1)) in
    (e.0, e.1, record { it = h.it; interface = h.interface; position = p.0; next = p.1; item = e.2 })
  where
    there : (o : Option (Name × ItemKind)) → option_case o false (comes_later c h.it l.types_only) ≡ true → (n : Name) × (k : ItemKind) × (o ≡ Some (n, k))
    there None g = let no : false ≡ true = g in cc
    there (Some (n, k)) g = (n, k, refl)

    position : (ps : List ℕ) (i : ℕ) → i < length ps → (p : ℕ) × (slice_get ps i ≡ Some p)
    position [] i lt = absurd (omega (arith, lt))
    position (p ∷ ps) zero lt = (p, refl)
    position (p ∷ ps) (suc i) lt = position ps i (omega (arith, lt))
