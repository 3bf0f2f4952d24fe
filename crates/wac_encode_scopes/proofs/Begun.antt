-- What the instance type of an interface is charged when it is opened.
use Rattle.std.specs.Prelude.{ℕ, suc, ◌≡◌, ◌≤◌, ◌+◌, ◌*◌, ◌^◌, Bool, List, [], ◌∷◌, ◌++◌, length, take, slice_get, Option, Some, None}
use Rattle.std.specs.List.{flat_map, sum_by}
use Rattle.std.proofs.Common.{refl, ap, ◌∙◌, sym, subst, arith, length-append}
use Rattle.std.proofs.lemmas.List.Sums.{sum_by-cons, sum_by-take-le}
use Rattle.wac_types_shapes.specs.primitives.Name.{Name, option_case}
use Rattle.wac_types_shapes.specs.declared.shapes.component.ResourceId.{ResourceId}
use Rattle.wac_types_shapes.specs.declared.shapes.component.InterfaceId.{InterfaceId}
use Rattle.wac_types_shapes.specs.declared.shapes.component.UsedType.{UsedType}
use Rattle.wac_types_shapes.specs.declared.shapes.component.Interface.{Interface}
use Rattle.wac_types_shapes.specs.declared.shapes.component.ItemKind.{ItemKind}
use Rattle.wac_types_shapes.specs.declared.shapes.component.«Type».TheVariants as ty
use Rattle.wac_types_collection.specs.collection.Collection.{Collection, item_at}
use Rattle.wac_types_collection.specs.collection.Bound.{own_name}
use Rattle.wac_types_weight.specs.Weight.{named_part, named_parts}
use Rattle.wac_types_weight.specs.Text.{entry_weight}
use Rattle.wac_binary.specs.declared.sorts.Description.TheVariants as d
use Rattle.wac_binary.specs.Items.{Decl, export_decl, Item}
use Rattle.wac_binary.specs.Bytes.{text, described, decl_bytes}
use Rattle.wac_encode_scopes.specs.declared.encodable.Encodable.{Encodable}
use Rattle.wac_encode_scopes.specs.declared.encodable.Encodable.TheVariants.{Instance}
use Rattle.wac_encode_scopes.specs.declared.state.State.{State}
use Rattle.wac_encode_scopes.specs.Contents.{content_of}
use Rattle.wac_encode_scopes.specs.declared.scope.Scope.{Scope}
use Rattle.wac_encode_scopes.specs.Books.{opened}
use Rattle.wac_encode_scopes.specs.States.{outward}
use Rattle.wac_encode_scopes.specs.private.Interfaces.{own_in, own_items, fresh_exports, RecordsOwn, BeginsInterface}
use Rattle.wac_encode_scopes.specs.private.Paid.{prices, alias_cost, charge, total, if_some, interface_cost, ArePriced, IsUncharged}
use Rattle.wac_encode_scopes.specs.private.Steps.{exporting, empty_scope}
use Rattle.wac_encode_scopes.proofs.Limits.{small-or}
use Rattle.wac_encode_scopes.proofs.Owned.{content-step}
use Rattle.wac_encode_scopes.proofs.Paying.{total-is}
use Rattle.wac_encode_scopes.proofs.Sums.{below-le}
use Rattle.wac_encode_scopes.proofs.Tolls.{below-none}
use Rattle.wac_encode_stacks.specs.Scopes.{Content, declarations, root, Where, Open}
use Rattle.wac_encode_stacks.specs.private.Sizes.{size_of, ContentFits, SmallFits}
use Rattle.wac_encode_stacks.proofs.Sizes.{text_short}

fresh-bytes : (n : Name) → length (decl_bytes (export_decl n d.Fresh)) ≡ 4 + length (text n)
fresh-bytes n = let both = length-append (text n) (described d.Fresh) in omega (arith, both)

-- the fresh exports are paid by their entries
fresh-size : (es : List (Name × ItemKind)) → size_of (declarations (fresh_exports es)) ≤ sum_by (λ e. 12 * (1 + length e.0)) es
fresh-size [] = omega arith
fresh-size (e ∷ es) =
    let both = length-append (decl_bytes (export_decl e.0 d.Fresh)) (flat_map decl_bytes (fresh_exports es)) in
    let one = fresh-bytes e.0 in
    let short = text_short e.0 in
    let sum = sum_by-cons (λ (x : Name × ItemKind). 12 * (1 + length x.0)) e es in
    let rest = fresh-size es in
    omega (arith, both, one, short, sum, rest)

-- item by item
abbrev own-size : Collection → List (Name × UsedType) → Name × ItemKind → ℕ
own-size c uses e = if_some (own_in c uses e) (4 + length (text e.0))

own-sizes : (c : Collection) (uses : List (Name × UsedType)) (es : List (Name × ItemKind)) → size_of (declarations (fresh_exports (own_items c uses es))) ≡ sum_by (own-size c uses) es
own-sizes c uses [] = refl
own-sizes c uses (e ∷ es) = by_own (own_in c uses e) refl (own-sizes c uses es) ∙ sym (sum_by-cons (own-size c uses) e es)
  where
    by_own : (a : Option ResourceId) → own_in c uses e ≡ a → size_of (declarations (fresh_exports (own_items c uses es))) ≡ sum_by (own-size c uses) es → size_of (declarations (fresh_exports (own_items c uses (e ∷ es)))) ≡ own-size c uses e + sum_by (own-size c uses) es
    by_own None h ih =
        let items : own_items c uses (e ∷ es) ≡ own_items c uses es = ap (λ (o : Option ResourceId). option_case o [] (λ r. e ∷ []) ++ own_items c uses es) h in
        let size : size_of (declarations (fresh_exports (own_items c uses (e ∷ es)))) ≡ size_of (declarations (fresh_exports (own_items c uses es))) = ap (λ (l : List (Name × ItemKind)). size_of (declarations (fresh_exports l))) items in
        let none : own-size c uses e ≡ 0 = ap (λ (o : Option ResourceId). if_some o (4 + length (text e.0))) h in
        omega (arith, size, none, ih)
    by_own (Some r) h ih =
        let items : own_items c uses (e ∷ es) ≡ e ∷ own_items c uses es = ap (λ (o : Option ResourceId). option_case o [] (λ q. e ∷ []) ++ own_items c uses es) h in
        let size : size_of (declarations (fresh_exports (own_items c uses (e ∷ es)))) ≡ size_of (declarations (fresh_exports (e ∷ own_items c uses es))) = ap (λ (l : List (Name × ItemKind)). size_of (declarations (fresh_exports l))) items in
        let both = length-append (decl_bytes (export_decl e.0 d.Fresh)) (flat_map decl_bytes (fresh_exports (own_items c uses es))) in
        let one = fresh-bytes e.0 in
        let some : own-size c uses e ≡ 4 + length (text e.0) = ap (λ (o : Option ResourceId). if_some o (4 + length (text e.0))) h in
        omega (arith, size, both, one, some, ih)

-- the first items are no larger than all
take-size : (c : Collection) (uses : List (Name × UsedType)) (es : List (Name × ItemKind)) (k : ℕ) → size_of (declarations (fresh_exports (own_items c uses (take k es)))) ≤ size_of (declarations (fresh_exports (own_items c uses es)))
take-size c uses es k =
    let part = own-sizes c uses (take k es) in
    let all = own-sizes c uses es in
    let less = sum_by-take-le (own-size c uses) es k in
    omega (arith, part, all, less)

-- one more item does not fit
pub next-large : SmallFits → (c : Collection) (uses : List (Name × UsedType)) (es : List (Name × ItemKind)) (i k : ℕ) (x : Name × ItemKind) (old : Encodable) → k ≡ suc i → slice_get es i ≡ Some x → old ≡ Instance (fresh_exports (own_items c uses (take i es))) → (ContentFits (content_of (exporting (own_in c uses x) x.0 old)) → ⊥)
    → 2 ^ 32 ≤ size_of (declarations (fresh_exports (own_items c uses es)))
next-large fits c uses es i k x old one at is none =
    let next = content-step c uses es i k x old (exporting (own_in c uses x) x.0 old) one at is refl in
    let part = declarations (fresh_exports (own_items c uses (take k es))) in
    let large = small-or (size_of part) (ContentFits part) (fits part) (subst (λ (y : Encodable). ContentFits (content_of y) → ⊥) next none) in
    let less = take-size c uses es k in
    omega (arith, large, less)

-- a resource that is exported did not fit
pub fresh-none : (o : Option ResourceId) (r : ResourceId) (n : Name) (x : Encodable) → o ≡ Some r → (ContentFits (content_of (exporting (Some r) n x)) → ⊥) → ContentFits (content_of (exporting o n x)) → ⊥
fresh-none o r n x is none = subst (λ (a : Option ResourceId). ContentFits (content_of (exporting a n x)) → ⊥) (sym is) none

-- nothing recorded is an export
no-cost : (k : ℕ) (c : Collection) (it : Interface) (o : Open) → RecordsOwn c it o → (r : ResourceId) → alias_cost k (o.binds r) ≤ 0
no-cost k c it o records r = by_own (own_name c it.uses it.exports r) refl
  where
    by_own : (a : Option Name) → own_name c it.uses it.exports r ≡ a → alias_cost k (o.binds r) ≤ 0
    by_own None h = let cost : alias_cost k (o.binds r) ≡ 0 = ap (alias_cost k) (records.others r h) in omega (arith, cost)
    by_own (Some n) h = let i = records.own r n h in let cost : alias_cost k (o.binds r) ≡ 0 = ap (alias_cost k) i.1 in omega (arith, cost)

pub begins-paid : (c : Collection) (b : Bool) (it : Interface) (old new : State) → BeginsInterface c b it old new → charge c b (opened b new.here) ≤ sum_by (λ e. 12 * (1 + length e.0)) (own_items c it.uses it.exports)
begins-paid c b it old new begins =
    let o = opened b new.here in
    let k = (prices b o.content).alias in
    let size : size_of o.content ≡ size_of (declarations (fresh_exports (own_items c it.uses it.exports))) = ap (λ (x : Encodable). size_of (content_of x)) begins.content in
    let paid = fresh-size (own_items c it.uses it.exports) in
    let rs = below-le (λ n. alias_cost k (o.binds (record { 0 = n }))) (λ n. 0) (length c.resources) (λ n. no-cost k c it o begins.recorded (record { 0 = n })) in
    let ds = below-le (λ n. alias_cost k (o.exports (record { 0 = n }))) (λ n. 0) (length c.defined) (λ n. no-export k (o.exports (record { 0 = n })) (begins.recorded.none.exports (record { 0 = n }))) in
    let rs_none = below-none (length c.resources) in
    let ds_none = below-none (length c.defined) in
    omega (arith, size, paid, rs, ds, rs_none, ds_none)
  where
    no-export : (m : ℕ) (w : Option Where) → w ≡ None → alias_cost m w ≤ 0
    no-export m w h = let cost : alias_cost m w ≡ 0 = ap (alias_cost m) h in omega (arith, cost)

-- the entries of an interface weigh at least its fresh exports
entries-least : (c : Collection) (uses : List (Name × UsedType)) (es : List (Name × ItemKind)) → sum_by (own-size c uses) es ≤ 12 * named_parts es
entries-least c uses [] = omega arith
entries-least c uses (e ∷ es) =
    let own = sum_by-cons (own-size c uses) e es in
    let all = sum_by-cons {X = Name × ItemKind} named_part e es in
    let one = by_own (own_in c uses e) in
    let rest = entries-least c uses es in
    omega (arith, own, all, one, rest)
  where
    by_own : (a : Option ResourceId) → if_some a (4 + length (text e.0)) ≤ 12 * (1 + length e.0)
    by_own None = omega arith
    by_own (Some r) = let short = text_short e.0 in omega (arith, short)

pub interface-room : (c : Collection) (i : InterfaceId) (it : Interface) → item_at c.interfaces i.0 ≡ Some it → 2 ^ 32 ≤ size_of (declarations (fresh_exports (own_items c it.uses it.exports))) → 2 ^ 32 ≤ interface_cost c i
interface-room c i it at large =
    let size = own-sizes c it.uses it.exports in
    let least = entries-least c it.uses it.exports in
    let entries : entry_weight c (ty.Interface i) ≡ named_parts it.exports = ap (λ (o : Option Interface). named_parts (option_case o [] (λ x. x.exports))) at in
    omega (arith, large, size, least, entries)

-- one scope in which nothing is written or recorded

nothing-charged : (c : Collection) (b : Bool) (x : Content) (passes : Bool) → size_of x ≡ 0 → charge c b (empty_scope x passes) ≡ 0
nothing-charged c b x passes none = let rs = below-none (length c.resources) in let ds = below-none (length c.defined) in omega (arith, none, rs, ds)

zero-sum : (t x z : ℕ) → t ≡ x + z → x ≡ 0 → z ≡ 0 → t ≡ 0
zero-sum t x z e f g = omega (arith, e, f, g)

alone-uncharged : (c : Collection) (b : Bool) (s : State) (x : Content) (passes : Bool) → s.around.items ≡ [] → opened b s.here ≡ empty_scope x passes → size_of x ≡ 0 → IsUncharged c b s
alone-uncharged c b s x passes alone is none = (
  zero-sum (total c b s) (charge c b (opened b s.here)) (sum_by (charge c b) (outward b s.around.items)) (total-is c b s) (ap (charge c b) is ∙ nothing-charged c b x passes none) (ap (λ (ss : List Scope). sum_by (charge c b) (outward b ss)) alone),
  alone,
  subst (λ (ss : List Scope). ArePriced b ss s.here.content) (sym alone) tt,
)

pub root-uncharged : (c : Collection) (b : Bool) (s : State) (items : List Item) (passes : Bool) → s.around.items ≡ [] → opened b s.here ≡ empty_scope (root items) passes → items ≡ [] → IsUncharged c b s
root-uncharged c b s items passes alone is none = alone-uncharged c b s (root items) passes alone is (ap (λ (l : List Item). size_of (root l)) none)

pub component-uncharged : (c : Collection) (b : Bool) (s : State) (ds : List Decl) (passes : Bool) → s.around.items ≡ [] → opened b s.here ≡ empty_scope (declarations ds) passes → ds ≡ [] → IsUncharged c b s
component-uncharged c b s ds passes alone is none = alone-uncharged c b s (declarations ds) passes alone is (ap (λ (l : List Decl). size_of (declarations l)) none)
