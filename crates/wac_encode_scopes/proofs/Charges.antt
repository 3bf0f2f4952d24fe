-- What an open scope is charged and what types have paid in it, before and after one change of the scope.
use Rattle.std.specs.Prelude.{ℕ, ◌≡◌, ◌≤◌, ◌<◌, ◌+◌, ◌*◌, ◌==◌, Bool, true, false, List, length, Option, Some, None, if◌then◌else◌}
use Rattle.std.proofs.Common.{refl, ap, ◌∙◌, sym, subst, arith, le_refl, mul-le-mul_right, add-mul, add-le-add}
use Rattle.std.proofs.lemmas.Bool.{eqb-true}
use Rattle.std.proofs.lemmas.List.Sums.{sum_by-le-sum_by}
use Rattle.wac_types_shapes.specs.primitives.Name.{Name, option_case}
use Rattle.wac_types_shapes.specs.declared.shapes.component.ResourceId.{ResourceId}
use Rattle.wac_types_shapes.specs.declared.shapes.component.DefinedTypeId.{DefinedTypeId}
use Rattle.wac_types_shapes.specs.declared.shapes.component.ValueType.TheVariants as val
use Rattle.wac_types_shapes.specs.declared.shapes.component.«Type».{«Type» as AnyType}
use Rattle.wac_types_shapes.specs.declared.shapes.component.«Type».TheVariants as ty
use Rattle.wac_types_collection.specs.collection.Collection.{Collection}
use Rattle.wac_types_collection.specs.collection.Uses.{same_type}
use Rattle.wac_types_collection.specs.reach.Reach.{IsIn}
use Rattle.wac_types_collection.proofs.lemmas.collection.Ids.{same_type-true}
use Rattle.wac_types_weight.specs.Text.{own_text, own_texts}
use Rattle.wac_encode_scopes.specs.private.Paid.{sum_below, Prices, prices, rate, alias_cost, charge, if_some, if_index, paid_by, paid_at, paid_for, all_paid, PayMore}
use Rattle.wac_encode_scopes.proofs.Sums.{below-le, below-plus, only, only-here, gain-all, rated-all}
use Rattle.wac_encode_stacks.specs.Scopes.{Content, declarations, root, Where, at_type, at_export, How, defined, brought, listed, Indexed, Open, bind_at, index_at, export_at}
use Rattle.wac_encode_stacks.specs.private.Sizes.{size_of}

-- contents of one kind have the same prices

abbrev pub SameKind : Content → Content → Type 0
SameKind (declarations ds) (declarations es) = Unit {0}
SameKind (root xs) (root ys) = Unit {0}
SameKind _ _ = ⊥

pub same-prices : (b : Bool) (x y : Content) → SameKind x y → prices b y ≡ prices b x
same-prices true (declarations ds) (declarations es) h = refl
same-prices false (declarations ds) (declarations es) h = refl
same-prices true (root xs) (root ys) h = refl
same-prices false (root xs) (root ys) h = refl
same-prices b (declarations ds) (root ys) h = absurd h
same-prices b (root xs) (declarations es) h = absurd h

pub same-rate : (b : Bool) (x y : Content) → SameKind x y → rate b y ≡ rate b x
same-rate true (declarations ds) (declarations es) h = refl
same-rate false (declarations ds) (declarations es) h = refl
same-rate true (root xs) (root ys) h = refl
same-rate false (root xs) (root ys) h = refl
same-rate b (declarations ds) (root ys) h = absurd h
same-rate b (root xs) (declarations es) h = absurd h

pub same-kind : (x : Content) → SameKind x x
same-kind (declarations ds) = tt
same-kind (root xs) = tt

-- what aliases of recorded exports may still cost, at k for each besides its name

abbrev pub costs : ℕ → Collection → Open → ℕ
costs k c o = sum_below (λ n. alias_cost k (o.binds (record { 0 = n }))) (length c.resources) + sum_below (λ n. alias_cost k (o.exports (record { 0 = n }))) (length c.defined)

pub costs-less : (k : ℕ) (c : Collection) (o p : Open) → ((r : ResourceId) → alias_cost k (p.binds r) ≤ alias_cost k (o.binds r)) → ((d : DefinedTypeId) → alias_cost k (p.exports d) ≤ alias_cost k (o.exports d)) → costs k c p ≤ costs k c o
costs-less k c o p binds exports =
    let rs = below-le (λ n. alias_cost k (p.binds (record { 0 = n }))) (λ n. alias_cost k (o.binds (record { 0 = n }))) (length c.resources) (λ n. binds (record { 0 = n })) in
    let ds = below-le (λ n. alias_cost k (p.exports (record { 0 = n }))) (λ n. alias_cost k (o.exports (record { 0 = n }))) (length c.defined) (λ n. exports (record { 0 = n })) in
    omega (arith, rs, ds)

-- an export that is aliased costs nothing more
freed : (k : ℕ) (f : ℕ → Option Where) (a i j : ℕ) (n : Name) (m : ℕ) → a < m → f a ≡ Some (at_export j n) → sum_below (λ q. alias_cost k (if q == a then Some (at_type i) else f q)) m + (k + 2 * length n) ≤ sum_below (λ q. alias_cost k (f q)) m
freed k f a i j n m lt at =
    let both = below-plus (λ q. alias_cost k (if q == a then Some (at_type i) else f q)) (only a (k + 2 * length n)) m in
    let less = below-le (λ q. alias_cost k (if q == a then Some (at_type i) else f q) + only a (k + 2 * length n) q) (λ q. alias_cost k (f q)) m (λ q. by_case q (q == a) refl) in
    let one = only-here a (k + 2 * length n) m lt in
    omega (arith, both, less, one)
  where
    by_case : (q : ℕ) (b : Bool) → (q == a) ≡ b → alias_cost k (if b then Some (at_type i) else f q) + (if b then k + 2 * length n else 0) ≤ alias_cost k (f q)
    by_case q true e = let cost : alias_cost k (f q) ≡ k + 2 * length n = ap (alias_cost k) (ap f (eqb-true q a e) ∙ at) in omega (arith, cost)
    by_case q false e = omega arith

pub costs-settled : (k : ℕ) (c : Collection) (o p : Open) (r : ResourceId) (i j : ℕ) (n : Name) → r.0 < length c.resources → o.binds r ≡ Some (at_export j n) → p.binds ≡ (λ (q : ResourceId). if q.0 == r.0 then Some (at_type i) else o.binds q) → p.exports ≡ o.exports → costs k c p + (k + 2 * length n) ≤ costs k c o
costs-settled k c o p r i j n lt at binds exports =
    let rs = freed k (λ q. o.binds (record { 0 = q })) r.0 i j n (length c.resources) lt at in
    let new : sum_below (λ q. alias_cost k (p.binds (record { 0 = q }))) (length c.resources) ≡ sum_below (λ q. alias_cost k (if q == r.0 then Some (at_type i) else o.binds (record { 0 = q }))) (length c.resources) = ap (λ (f : ResourceId → Option Where). sum_below (λ q. alias_cost k (f (record { 0 = q }))) (length c.resources)) binds in
    let ds : sum_below (λ q. alias_cost k (p.exports (record { 0 = q }))) (length c.defined) ≡ sum_below (λ q. alias_cost k (o.exports (record { 0 = q }))) (length c.defined) = ap (λ (f : DefinedTypeId → Option Where). sum_below (λ q. alias_cost k (f (record { 0 = q }))) (length c.defined)) exports in
    omega (arith, rs, new, ds)

pub costs-settled-value : (k : ℕ) (c : Collection) (o p : Open) (d : DefinedTypeId) (i j : ℕ) (n : Name) → d.0 < length c.defined → o.exports d ≡ Some (at_export j n) → p.binds ≡ o.binds → p.exports ≡ (λ (q : DefinedTypeId). if q.0 == d.0 then Some (at_type i) else o.exports q) → costs k c p + (k + 2 * length n) ≤ costs k c o
costs-settled-value k c o p d i j n lt at binds exports =
    let ds = freed k (λ q. o.exports (record { 0 = q })) d.0 i j n (length c.defined) lt at in
    let new : sum_below (λ q. alias_cost k (p.exports (record { 0 = q }))) (length c.defined) ≡ sum_below (λ q. alias_cost k (if q == d.0 then Some (at_type i) else o.exports (record { 0 = q }))) (length c.defined) = ap (λ (f : DefinedTypeId → Option Where). sum_below (λ q. alias_cost k (f (record { 0 = q }))) (length c.defined)) exports in
    let rs : sum_below (λ q. alias_cost k (p.binds (record { 0 = q }))) (length c.resources) ≡ sum_below (λ q. alias_cost k (o.binds (record { 0 = q }))) (length c.resources) = ap (λ (f : ResourceId → Option Where). sum_below (λ q. alias_cost k (f (record { 0 = q }))) (length c.resources)) binds in
    omega (arith, ds, new, rs)

-- a recorded place at a type index costs nothing
pub cost-at : (k i : ℕ) (b : Bool) (w : Option Where) → alias_cost k (if b then Some (at_type i) else w) ≤ alias_cost k w
cost-at k i true w = omega arith
cost-at k i false w = omega arith

-- what a type has paid

-- for its own index, by how it is recorded
abbrev pub index_paid : Prices → AnyType → Option Indexed → ℕ
index_paid q (ty.Value (val.Own r)) x = if_some x q.handle
index_paid q (ty.Value (val.Borrow r)) x = if_some x q.handle
index_paid q (ty.Value (val.Defined d)) x = option_case x 0 (λ y. paid_by q y.how)
index_paid q (ty.Func f) x = if_some x q.definition
index_paid q a x = 0

pub paid-more-at : (q : Prices) (o p : Open) → ((r : ResourceId) → if_index (o.binds r) q.place ≤ if_index (p.binds r) q.place) → ((a : AnyType) → index_paid q a (o.types a) ≤ index_paid q a (p.types a)) → ((d : DefinedTypeId) → if_index (o.exports d) q.settled ≤ if_index (p.exports d) q.settled) → (t : AnyType) → paid_at q o t ≤ paid_at q p t
paid-more-at q o p binds types exports (ty.Resource r) = let a = binds r in let x = types (ty.Value (val.Own r)) in let y = types (ty.Value (val.Borrow r)) in omega (arith, a, x, y)
paid-more-at q o p binds types exports (ty.Value (val.Defined d)) = let x = types (ty.Value (val.Defined d)) in let y = exports d in omega (arith, x, y)
paid-more-at q o p binds types exports (ty.Func f) = types (ty.Func f)
paid-more-at q o p binds types exports _ = omega arith

pub pay-more : (c : Collection) (b : Bool) (o p : Open) → SameKind o.content p.content → ((t : AnyType) → paid_at (prices b o.content) o t ≤ paid_at (prices b o.content) p t) → PayMore c b o p
pay-more c b o p same h t = subst (λ (q : Prices). paid_for c b o t ≤ paid_at q p t * own_text c t) (sym (same-prices b o.content p.content same)) (mul-le-mul_right (own_text c t) (h t))

if-index-most : (w : Option Where) (x : ℕ) → if_index w x ≤ x
if-index-most None x = omega arith
if-index-most (Some (at_type i)) x = omega arith
if-index-most (Some (at_export j n)) x = omega arith

pub if-some-most : (w : Option Indexed) (x : ℕ) → if_some w x ≤ x
if-some-most None x = omega arith
if-some-most (Some y) x = omega arith

index-at-most : (i x : ℕ) (b : Bool) (w : Option Where) → if_index w x ≤ if_index (if b then Some (at_type i) else w) x
index-at-most i x true w = if-index-most w x
index-at-most i x false w = omega arith

paid-by-most : (q : Prices) (how : How) → paid_by q how ≤ q.definition + q.name
paid-by-most q defined = omega arith
paid-by-most q brought = omega arith
paid-by-most q listed = omega arith

pub recorded-most : (q : Prices) (x : Option Indexed) → option_case x 0 (λ y. paid_by q y.how) ≤ q.definition + q.name
recorded-most q None = omega arith
recorded-most q (Some y) = paid-by-most q y.how

paid-within : (q : Prices) (o : Open) (t : AnyType) (r : ℕ) → q.place + q.handle + q.handle ≤ r → q.definition + q.name + q.settled ≤ r → paid_at q o t ≤ r
paid-within q o (ty.Resource x) r h g =
    let a = if-index-most (o.binds x) q.place in
    let y = if-some-most (o.types (ty.Value (val.Own x))) q.handle in
    let z = if-some-most (o.types (ty.Value (val.Borrow x))) q.handle in
    omega (arith, a, y, z, h)
paid-within q o (ty.Value (val.Defined d)) r h g =
    let a = recorded-most q (o.types (ty.Value (val.Defined d))) in
    let y = if-index-most (o.exports d) q.settled in
    omega (arith, a, y, g)
paid-within q o (ty.Func f) r h g = let a = if-some-most (o.types (ty.Func f)) q.definition in omega (arith, a, g)
paid-within q o _ r h g = omega arith

rate-most : (b : Bool) (x : Content) (o : Open) (t : AnyType) → paid_at (prices b x) o t ≤ rate b x
rate-most true (declarations ds) o t = paid-within (prices true (declarations ds)) o t 27 (omega arith) (omega arith)
rate-most false (declarations ds) o t = paid-within (prices false (declarations ds)) o t 27 (omega arith) (omega arith)
rate-most true (root items) o t = paid-within (prices true (root items)) o t 34 (omega arith) (omega arith)
rate-most false (root items) o t = paid-within (prices false (root items)) o t 54 (omega arith) (omega arith)

-- no list of types has paid more than its rate
pub rate-all : (c : Collection) (b : Bool) (o : Open) (ts : List AnyType) → all_paid c b o ts ≤ rate b o.content * own_texts c ts
rate-all c b o ts = rated-all (paid_for c b o) (own_text c) (rate b o.content) ts (λ t. mul-le-mul_right (own_text c t) (rate-most b o.content o t))

-- one change of a scope

-- A scope is charged no more than these types pay newly, and n.
pub record Pays (c : Collection) (b : Bool) (ts : List AnyType) (n : ℕ) (o p : Open) : Type 0 where
  pub pays : charge c b p + all_paid c b o ts ≤ charge c b o + all_paid c b p ts + n
  pub more : PayMore c b o p
  pub kind : SameKind o.content p.content

charge-is : (c : Collection) (b : Bool) (o p : Open) → SameKind o.content p.content → charge c b p ≡ size_of p.content + costs (prices b o.content).alias c p
charge-is c b o p same = ap (λ (q : Prices). size_of p.content + costs q.alias c p) (same-prices b o.content p.content same)

free-sum : (new old a d n x y : ℕ) → new ≡ x → old ≡ y → x ≤ y + n → a ≤ d → new + a ≤ old + d + n
free-sum new old a d n x y e f h g = omega (arith, e, f, h, g)

gain-sum : (new old a d n x y g : ℕ) → new ≡ x → old ≡ y → x ≤ y + g + n → a + g ≤ d → new + a ≤ old + d + n
gain-sum new old a d n x y g e f h k = omega (arith, e, f, h, k)

-- nothing is paid for it
pub pays-free : (c : Collection) (b : Bool) (ts : List AnyType) (n : ℕ) (o p : Open) → SameKind o.content p.content → size_of p.content + costs (prices b o.content).alias c p ≤ size_of o.content + costs (prices b o.content).alias c o + n → ((t : AnyType) → paid_at (prices b o.content) o t ≤ paid_at (prices b o.content) p t) → Pays c b ts n o p
pays-free c b ts n o p same less h =
    let more = pay-more c b o p same h in
    record {
      pays = free-sum (charge c b p) (charge c b o) (all_paid c b o ts) (all_paid c b p ts) n (size_of p.content + costs (prices b o.content).alias c p) (size_of o.content + costs (prices b o.content).alias c o) (charge-is c b o p same) refl less (sum_by-le-sum_by (paid_for c b o) (paid_for c b p) ts more);
      more = more;
      kind = same;
    }

-- the type t pays g for it
pub pays-gain : (c : Collection) (b : Bool) (ts : List AnyType) (n g : ℕ) (t : AnyType) (o p : Open) → SameKind o.content p.content → IsIn t ts → size_of p.content + costs (prices b o.content).alias c p ≤ size_of o.content + costs (prices b o.content).alias c o + g + n → ((u : AnyType) → paid_at (prices b o.content) o u ≤ paid_at (prices b o.content) p u) → paid_at (prices b o.content) o t * own_text c t + g ≤ paid_at (prices b o.content) p t * own_text c t → Pays c b ts n o p
pays-gain c b ts n g t o p same there less h gain =
    let more = pay-more c b o p same h in
    let paid : paid_for c b o t + g ≤ paid_for c b p t = subst (λ (q : Prices). paid_for c b o t + g ≤ paid_at q p t * own_text c t) (sym (same-prices b o.content p.content same)) gain in
    record {
      pays = gain-sum (charge c b p) (charge c b o) (all_paid c b o ts) (all_paid c b p ts) n (size_of p.content + costs (prices b o.content).alias c p) (size_of o.content + costs (prices b o.content).alias c o) g (charge-is c b o p same) refl less (gain-all (paid_for c b o) (paid_for c b p) t g ts more there paid);
      more = more;
      kind = same;
    }

-- what a type with this weight pays more: from y on, x more
pub gain-times : (x y g w : ℕ) → g ≤ x * w → y * w + g ≤ (y + x) * w
gain-times x y g w h = subst (λ (v : ℕ). y * w + g ≤ v) (sym (add-mul y x w)) (add-le-add (le_refl (y * w)) h)

-- records

pub index-more : (q : Prices) (a : AnyType) (how : How) (i : ℕ) (o : Open) → index_paid q a (o.types a) ≤ index_paid q a (Some (record { index = i; how = how })) → (e : AnyType) → index_paid q e (o.types e) ≤ index_paid q e ((index_at a how i o).types e)
index-more q a how i o h e = by_case (same_type e a) refl
  where
    by_case : (b : Bool) → same_type e a ≡ b → index_paid q e (o.types e) ≤ index_paid q e (if b then Some (record { index = i; how = how }) else o.types e)
    by_case true same = subst (λ (z : AnyType). index_paid q z (o.types z) ≤ index_paid q z (Some (record { index = i; how = how }))) (sym (same_type-true e a same)) h
    by_case false same = le_refl (index_paid q e (o.types e))

pub binds-more : (x i : ℕ) (r : ResourceId) (o : Open) (q : ResourceId) → if_index (o.binds q) x ≤ if_index ((bind_at r (at_type i) o).binds q) x
binds-more x i r o q = index-at-most i x (q.0 == r.0) (o.binds q)

pub exports-more : (x i : ℕ) (d : DefinedTypeId) (o : Open) (q : DefinedTypeId) → if_index (o.exports q) x ≤ if_index ((export_at d (at_type i) o).exports q) x
exports-more x i d o q = index-at-most i x (q.0 == d.0) (o.exports q)
