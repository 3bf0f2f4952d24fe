-- What the changes of an open scope cost, one after the other, and by which type each is paid.
use Rattle.std.specs.Prelude.{ℕ, ◌≡◌, ◌≤◌, ◌<◌, ◌+◌, ◌*◌, ◌^◌, ◌==◌, ◌⊎◌, Bool, true, false, List, length, Option, Some, None}
use Rattle.std.proofs.Common.{refl, ap, ◌∙◌, sym, subst, arith, le_refl, le_trans, mul-le-mul_right, inl, inr}
use Rattle.wac_types_shapes.specs.primitives.Name.{Name, option_case}
use Rattle.wac_types_shapes.specs.declared.shapes.component.ResourceId.{ResourceId}
use Rattle.wac_types_shapes.specs.declared.shapes.component.DefinedTypeId.{DefinedTypeId}
use Rattle.wac_types_shapes.specs.declared.shapes.component.FuncTypeId.{FuncTypeId}
use Rattle.wac_types_shapes.specs.declared.shapes.component.FuncType.{FuncType}
use Rattle.wac_types_shapes.specs.declared.shapes.component.DefinedType.{DefinedType}
use Rattle.wac_types_shapes.specs.declared.shapes.component.ValueType.{ValueType}
use Rattle.wac_types_shapes.specs.declared.shapes.component.ValueType.TheVariants as val
use Rattle.wac_types_shapes.specs.declared.shapes.component.«Type».{«Type» as AnyType}
use Rattle.wac_types_shapes.specs.declared.shapes.component.«Type».TheVariants as ty
use Rattle.wac_types_collection.specs.collection.Collection.{Collection, item_at}
use Rattle.wac_types_collection.specs.reach.Reach.{IsIn}
use Rattle.wac_types_weight.specs.Weight.{named_parts, defined_parts}
use Rattle.wac_types_weight.specs.Text.{own_text}
use Rattle.wac_binary.specs.declared.sorts.Sort.TheVariants as s
use Rattle.wac_binary.specs.Items.{ValueDef, own_def, borrow_def, value_def, TypeDef, Alias, export_alias, outer_alias}
use Rattle.wac_binary.specs.Bytes.{value_def_bytes, type_bytes, alias_bytes}
use Rattle.wac_encode_scopes.specs.States.{named_of, named_by, named_in}
use Rattle.wac_encode_scopes.specs.private.Paid.{Prices, prices, alias_cost, if_some, if_index, paid_by, paid_at, IsSizedAs, IsFuncSizedAs}
use Rattle.wac_encode_scopes.proofs.Brought.{brought_with, exported-here}
use Rattle.wac_encode_scopes.proofs.Stepped.{bring_with, bound-there, indexed-there, and_value, and_func}
use Rattle.wac_encode_scopes.proofs.Charges.{SameKind, costs, costs-less, costs-settled, costs-settled-value, cost-at, index_paid, paid-more-at, index-more, binds-more, exports-more, Pays, pays-free, pays-gain, gain-times}
use Rattle.wac_encode_stacks.specs.Scopes.{Content, declarations, root, Where, at_type, at_export, How, defined, brought, listed, Indexed, Open, next_type, and_def, and_alias, with_def, with_alias_of, bind_at, index_at}
use Rattle.wac_encode_stacks.specs.private.Inside.{aliased_there}
use Rattle.wac_encode_stacks.specs.private.Brought.{aliased_value}
use Rattle.wac_encode_stacks.specs.private.Sizes.{size_of}
use Rattle.wac_encode_stacks.proofs.Sizes.{head_of, size_def, size_alias, unsigned_short, outer_alias_short, export_alias_short}

-- contents of open types, and of the root

abbrev pub IsDeclared : Content → Type 0
IsDeclared (declarations ds) = Unit {0}
IsDeclared (root items) = ⊥

abbrev pub open_prices : Prices
open_prices = record { place = 13; handle = 7; definition = 14; name = 13; settled = 0; alias = 9 }

open-prices : (b : Bool) (x : Content) → IsDeclared x → prices b x ≡ open_prices
open-prices true (declarations ds) h = refl
open-prices false (declarations ds) h = refl
open-prices b (root items) h = absurd h

open-head : (x : Content) → IsDeclared x → head_of x ≡ 1
open-head (declarations ds) h = refl
open-head (root items) h = absurd h

-- In a content of this kind entries pay for aliases. Only the root is not, for the graph's own types.
abbrev pub EntriesPay : Bool → Content → Type 0
EntriesPay b (declarations ds) = Unit {0}
EntriesPay true (root items) = Unit {0}
EntriesPay false (root items) = ⊥

entry-alias : (b : Bool) (x : Content) → EntriesPay b x → (prices b x).alias ≡ head_of x + 8
entry-alias true (declarations ds) h = refl
entry-alias false (declarations ds) h = refl
entry-alias true (root items) h = refl
entry-alias false (root items) h = absurd h

abbrev pub user_prices : Prices
user_prices = record { place = 20; handle = 17; definition = 24; name = 0; settled = 20; alias = 0 }

pub who-pays : (b : Bool) (x : Content) → EntriesPay b x ⊎ ((prices b x ≡ user_prices) × (head_of x ≡ 11))
who-pays true (declarations ds) = inl tt
who-pays false (declarations ds) = inl tt
who-pays true (root items) = inl tt
who-pays false (root items) = inr (refl, refl)

pub kind-def : (t : TypeDef) (x : Content) → SameKind x (and_def t x)
kind-def t (declarations ds) = tt
kind-def t (root items) = tt

kind-alias : (a : Alias) (x : Content) → SameKind x (and_alias a x)
kind-alias a (declarations ds) = tt
kind-alias a (root items) = tt

-- what is paid more by x, at weight w

gain-exact : (x y z g w : ℕ) → z ≡ y + x → g ≤ x * w → y * w + g ≤ z * w
gain-exact x y z g w e h = subst (λ (v : ℕ). y * w + g ≤ v * w) (sym e) (gain-times x y g w h)

times-one : (x g w : ℕ) → g ≤ x → w ≡ 1 → g ≤ x * w
times-one x g w h e = subst (λ (v : ℕ). g ≤ x * v) (sym e) (omega (arith, h))

-- at least x more
gain-least : (y x z g w : ℕ) → y + x ≤ z → g ≤ x * w → y * w + g ≤ z * w
gain-least y x z g w e h = le_trans (gain-times x y g w h) (mul-le-mul_right w e)

-- where only the content costs more
no-more : (x y k g : ℕ) → x ≤ y + g → x + k ≤ y + k + g + 0
no-more x y k g h = omega (arith, h)

-- content alone

pub pays-grown : (c : Collection) (b : Bool) (ts : List AnyType) (n : ℕ) (o : Open) (x : Content) → SameKind o.content x → size_of x ≤ size_of o.content + n → Pays c b ts n o (record o { content = x })
pays-grown c b ts n o x same less = pays-free c b ts n o (record o { content = x }) same (omega (arith, less)) (λ t. le_refl (paid_at (prices b o.content) o t))

-- a resource is recorded at an index, and the content may grow
pub pays-bound : (c : Collection) (b : Bool) (ts : List AnyType) (n i : ℕ) (r : ResourceId) (o : Open) (x : Content) → SameKind o.content x → size_of x ≤ size_of o.content + n → Pays c b ts n o (bind_at r (at_type i) (record o { content = x }))
pays-bound c b ts n i r o x same less =
    let q = prices b o.content in
    let p = bind_at r (at_type i) (record o { content = x }) in
    let cost = costs-less q.alias c o p (λ z. cost-at q.alias i (z.0 == r.0) (o.binds z)) (λ d. le_refl (alias_cost q.alias (o.exports d))) in
    pays-free c b ts n o p same (omega (arith, less, cost))
    (paid-more-at q o p (λ z. binds-more q.place i r o z) (λ a. le_refl (index_paid q a (o.types a))) (λ d. le_refl (if_index (o.exports d) q.settled)))

-- a type is recorded at an index, and the content may grow
pub pays-indexed : (c : Collection) (b : Bool) (ts : List AnyType) (n i : ℕ) (a : AnyType) (how : How) (o : Open) (x : Content) → SameKind o.content x → size_of x ≤ size_of o.content + n
    → index_paid (prices b o.content) a (o.types a) ≤ index_paid (prices b o.content) a (Some (record { index = i; how = how })) → Pays c b ts n o (index_at a how i (record o { content = x }))
pays-indexed c b ts n i a how o x same less more =
    let q = prices b o.content in
    let p = index_at a how i (record o { content = x }) in
    pays-free c b ts n o p same (omega (arith, less))
    (paid-more-at q o p (λ z. le_refl (if_index (o.binds z) q.place)) (index-more q a how i o more) (λ d. le_refl (if_index (o.exports d) q.settled)))

-- an outer alias of a resource, which the resource pays
pub pays-outer : (c : Collection) (b : Bool) (ts : List AnyType) (o : Open) (r : ResourceId) (count index : ℕ) → IsDeclared o.content → count < 2 ^ 32 → index < 2 ^ 32 → o.binds r ≡ None → own_text c (ty.Resource r) ≡ 1 → IsIn (ty.Resource r) ts
    → Pays c b ts 0 o (bring_with r count index o)
pays-outer c b ts o r count index is_open few near none own there =
    let q = prices b o.content in
    let a = outer_alias s.Type count index in
    let p = bring_with r count index o in
    let i = next_type o in
    let size = size_alias a o.content in
    let head = open-head o.content is_open in
    let short = outer_alias_short count index few near in
    let cost = costs-less q.alias c o p (λ z. cost-at q.alias i (z.0 == r.0) (o.binds z)) (λ d. le_refl (alias_cost q.alias (o.exports d))) in
    let place : q.place ≡ 13 = ap (λ (z : Prices). z.place) (open-prices b o.content is_open) in
    let old : if_index (o.binds r) q.place ≡ 0 = ap (λ (w : Option Where). if_index w q.place) none in
    let new : if_index (p.binds r) q.place ≡ q.place = ap (λ (w : Option Where). if_index w q.place) (bound-there r (at_type i) (with_alias_of a o)) in
    pays-gain c b ts 0 13 (ty.Resource r) o p (kind-alias a o.content) there (omega (arith, size, head, short, cost))
    (paid-more-at q o p (λ z. binds-more q.place i r o z) (λ e. le_refl (index_paid q e (o.types e))) (λ d. le_refl (if_index (o.exports d) q.settled)))
    (gain-exact q.place (paid_at q o (ty.Resource r)) (paid_at q p (ty.Resource r)) 13 (own_text c (ty.Resource r)) (omega (arith, old, new)) (times-one q.place 13 (own_text c (ty.Resource r)) (omega (arith, place)) own))

-- a handle, which its resource pays

handle-size : (q : Prices) (b : Bool) (x : Content) (y : ValueDef) → q ≡ prices b x → length (value_def_bytes y) ≤ 6 → size_of (and_def (value_def y) x) ≤ size_of x + q.handle
handle-size q true (declarations ds) y e short = let size = size_def (value_def y) (declarations ds) in let seven : q.handle ≡ 7 = ap (λ (z : Prices). z.handle) e in omega (arith, size, seven, short)
handle-size q false (declarations ds) y e short = let size = size_def (value_def y) (declarations ds) in let seven : q.handle ≡ 7 = ap (λ (z : Prices). z.handle) e in omega (arith, size, seven, short)
handle-size q true (root items) y e short = let size = size_def (value_def y) (root items) in let more : q.handle ≡ 17 = ap (λ (z : Prices). z.handle) e in omega (arith, size, more, short)
handle-size q false (root items) y e short = let size = size_def (value_def y) (root items) in let more : q.handle ≡ 17 = ap (λ (z : Prices). z.handle) e in omega (arith, size, more, short)

handle-bytes : (i : ℕ) → i < 2 ^ 32 → (length (value_def_bytes (own_def i)) ≤ 6) × (length (value_def_bytes (borrow_def i)) ≤ 6)
handle-bytes i h = let short = unsigned_short i h in (omega (arith, short), omega (arith, short))

-- of the types at whose index the resource pays, v is recorded newly
module _ (c : Collection) (b : Bool) (ts : List AnyType) (o : Open) (r : ResourceId) (v : ValueType) (y : ValueDef) (own : own_text c (ty.Resource r) ≡ 1) (there : IsIn (ty.Resource r) ts) (none : o.types (ty.Value v) ≡ None) (short : length (value_def_bytes y) ≤ 6) where
  abbrev with_handle : Open
  with_handle = and_value v y o

  abbrev at : Prices
  at = prices b o.content

  pub pays-handle : index_paid at (ty.Value v) None ≡ 0 → paid_at at with_handle (ty.Resource r) ≡ paid_at at o (ty.Resource r) + at.handle → Pays c b ts 0 o with_handle
  pays-handle zero_before more =
      let size = handle-size at b o.content y refl short in
      let nothing : index_paid at (ty.Value v) (o.types (ty.Value v)) ≡ 0 = ap (index_paid at (ty.Value v)) none ∙ zero_before in
      pays-gain c b ts 0 at.handle (ty.Resource r) o with_handle (kind-def (value_def y) o.content) there (omega (arith, size))
      (paid-more-at at o with_handle (λ z. le_refl (if_index (o.binds z) at.place)) (index-more at (ty.Value v) defined (next_type o) o (omega (arith, nothing))) (λ d. le_refl (if_index (o.exports d) at.settled)))
      (gain-exact at.handle (paid_at at o (ty.Resource r)) (paid_at at with_handle (ty.Resource r)) at.handle (own_text c (ty.Resource r)) more (times-one at.handle at.handle (own_text c (ty.Resource r)) (le_refl at.handle) own))

pub pays-own : (c : Collection) (b : Bool) (ts : List AnyType) (o : Open) (r : ResourceId) (i : ℕ) → i < 2 ^ 32 → own_text c (ty.Resource r) ≡ 1 → IsIn (ty.Resource r) ts → o.types (ty.Value (val.Own r)) ≡ None → Pays c b ts 0 o (and_value (val.Own r) (own_def i) o)
pays-own c b ts o r i h own there none =
    let q = prices b o.content in
    let p = and_value (val.Own r) (own_def i) o in
    let old : if_some (o.types (ty.Value (val.Own r))) q.handle ≡ 0 = ap (λ (x : Option Indexed). if_some x q.handle) none in
    let new : if_some (p.types (ty.Value (val.Own r))) q.handle ≡ q.handle = ap (λ (x : Option Indexed). if_some x q.handle) (indexed-there b (ty.Value (val.Own r)) defined (next_type o) (with_def (value_def (own_def i)) o) p refl) in
    pays-handle c b ts o r (val.Own r) (own_def i) own there none (handle-bytes i h).0 refl (omega (arith, old, new))

pub pays-borrow : (c : Collection) (b : Bool) (ts : List AnyType) (o : Open) (r : ResourceId) (i : ℕ) → i < 2 ^ 32 → own_text c (ty.Resource r) ≡ 1 → IsIn (ty.Resource r) ts → o.types (ty.Value (val.Borrow r)) ≡ None → Pays c b ts 0 o (and_value (val.Borrow r) (borrow_def i) o)
pays-borrow c b ts o r i h own there none =
    let q = prices b o.content in
    let p = and_value (val.Borrow r) (borrow_def i) o in
    let old : if_some (o.types (ty.Value (val.Borrow r))) q.handle ≡ 0 = ap (λ (x : Option Indexed). if_some x q.handle) none in
    let new : if_some (p.types (ty.Value (val.Borrow r))) q.handle ≡ q.handle = ap (λ (x : Option Indexed). if_some x q.handle) (indexed-there b (ty.Value (val.Borrow r)) defined (next_type o) (with_def (value_def (borrow_def i)) o) p refl) in
    pays-handle c b ts o r (val.Borrow r) (borrow_def i) own there none (handle-bytes i h).1 refl (omega (arith, old, new))

-- a definition, which it pays itself

def-size : (b : Bool) (x : Content) (t : TypeDef) (w : ℕ) → 1 ≤ w → length (type_bytes t) ≤ 13 * w → size_of (and_def t x) ≤ size_of x + (prices b x).definition * w
def-size true (declarations ds) t w one sized = let size = size_def t (declarations ds) in omega (arith, size, one, sized)
def-size false (declarations ds) t w one sized = let size = size_def t (declarations ds) in omega (arith, size, one, sized)
def-size true (root items) t w one sized = let size = size_def t (root items) in omega (arith, size, one, sized)
def-size false (root items) t w one sized = let size = size_def t (root items) in omega (arith, size, one, sized)

weight-of : (c : Collection) (d : DefinedTypeId) (x : DefinedType) → item_at c.defined d.0 ≡ Some x → own_text c (ty.Value (val.Defined d)) ≡ 1 + defined_parts x
weight-of c d x at = ap (λ (o : Option DefinedType). option_case o 0 (λ z. 1 + defined_parts z)) at

func-weight : (c : Collection) (f : FuncTypeId) (x : FuncType) → item_at c.funcs f.0 ≡ Some x → own_text c (ty.Func f) ≡ 1 + named_parts x.params
func-weight c f x at = ap (λ (o : Option FuncType). option_case o 0 (λ z. 1 + named_parts z.params)) at

pub pays-defined : (c : Collection) (b : Bool) (ts : List AnyType) (o : Open) (d : DefinedTypeId) (x : DefinedType) (y : ValueDef) → item_at c.defined d.0 ≡ Some x → IsSizedAs x y → o.types (ty.Value (val.Defined d)) ≡ None → IsIn (ty.Value (val.Defined d)) ts → Pays c b ts 0 o (and_value (val.Defined d) y o)
pays-defined c b ts o d x y at sized none there =
    let q = prices b o.content in
    let a = ty.Value (val.Defined d) in
    let p = and_value (val.Defined d) y o in
    let w = own_text c a in
    let weight : w ≡ 1 + defined_parts x = weight-of c d x at in
    let size = def-size b o.content (value_def y) w (omega (arith, weight)) (subst (λ (z : ℕ). length (value_def_bytes y) ≤ 13 * z) (sym weight) sized) in
    let old : option_case (o.types a) 0 (λ z. paid_by q z.how) ≡ 0 = ap (λ (z : Option Indexed). option_case z 0 (λ u. paid_by q u.how)) none in
    let new : option_case (p.types a) 0 (λ z. paid_by q z.how) ≡ q.definition = ap (λ (z : Option Indexed). option_case z 0 (λ u. paid_by q u.how)) (indexed-there b a defined (next_type o) (with_def (value_def y) o) p refl) in
    pays-gain c b ts 0 (q.definition * w) a o p (kind-def (value_def y) o.content) there (no-more (size_of p.content) (size_of o.content) (costs q.alias c o) (q.definition * w) size)
    (paid-more-at q o p (λ z. le_refl (if_index (o.binds z) q.place)) (index-more q a defined (next_type o) o (omega (arith, old))) (λ e. le_refl (if_index (o.exports e) q.settled)))
    (gain-exact q.definition (paid_at q o a) (paid_at q p a) (q.definition * w) w (omega (arith, old, new)) (le_refl (q.definition * w)))

pub pays-func : (c : Collection) (b : Bool) (ts : List AnyType) (o : Open) (f : FuncTypeId) (x : FuncType) (t : TypeDef) → item_at c.funcs f.0 ≡ Some x → IsFuncSizedAs x t → o.types (ty.Func f) ≡ None → IsIn (ty.Func f) ts → Pays c b ts 0 o (and_func f t o)
pays-func c b ts o f x t at sized none there =
    let q = prices b o.content in
    let a = ty.Func f in
    let p = and_func f t o in
    let w = own_text c a in
    let weight : w ≡ 1 + named_parts x.params = func-weight c f x at in
    let size = def-size b o.content t w (omega (arith, weight)) (subst (λ (z : ℕ). length (type_bytes t) ≤ 13 * z) (sym weight) sized) in
    let old : if_some (o.types a) q.definition ≡ 0 = ap (λ (z : Option Indexed). if_some z q.definition) none in
    let new : if_some (p.types a) q.definition ≡ q.definition = ap (λ (z : Option Indexed). if_some z q.definition) (indexed-there b a defined (next_type o) (with_def t o) p refl) in
    pays-gain c b ts 0 (q.definition * w) a o p (kind-def t o.content) there (no-more (size_of p.content) (size_of o.content) (costs q.alias c o) (q.definition * w) size)
    (paid-more-at q o p (λ z. le_refl (if_index (o.binds z) q.place)) (index-more q a defined (next_type o) o (omega (arith, old))) (λ e. le_refl (if_index (o.exports e) q.settled)))
    (gain-exact q.definition (paid_at q o a) (paid_at q p a) (q.definition * w) w (omega (arith, old, new)) (le_refl (q.definition * w)))

-- an outer alias of a value type, which pays for its name

abbrev IsUnnamed : Option Indexed → Type 0
IsUnnamed None = Unit {0}
IsUnnamed (Some x) = x.how ≡ defined

how-unnamed : (how : How) (i : ℕ) (w : Option Where) → named_by how i w ≡ None → how ≡ defined
how-unnamed defined i w h = refl
how-unnamed brought i w h = let no : Some (at_type i) ≡ None = h in cc
how-unnamed listed i w h = let no : Some (at_type i) ≡ None = h in cc

of-unnamed : (x : Option Indexed) (w : Option Where) → named_of x w ≡ None → IsUnnamed x
of-unnamed None w h = tt
of-unnamed (Some x) w h = how-unnamed x.how x.index w h

unnamed-paid : (q : Prices) (x : Option Indexed) → IsUnnamed x → option_case x 0 (λ z. paid_by q z.how) ≤ q.definition
unnamed-paid q None h = omega arith
unnamed-paid q (Some x) h = subst (λ (how : How). paid_by q how ≤ q.definition) (sym h) (le_refl q.definition)

pub pays-brought : (c : Collection) (b : Bool) (ts : List AnyType) (o : Open) (d : DefinedTypeId) (count index : ℕ) → IsDeclared o.content → count < 2 ^ 32 → index < 2 ^ 32 → named_in d o ≡ None → 1 ≤ own_text c (ty.Value (val.Defined d)) → IsIn (ty.Value (val.Defined d)) ts → Pays c b ts 0 o (brought_with d count index o)
pays-brought c b ts o d count index is_open few near none weighs there =
    let q = prices b o.content in
    let e = outer_alias s.Type count index in
    let a = ty.Value (val.Defined d) in
    let p = brought_with d count index o in
    let w = own_text c a in
    let size = size_alias e o.content in
    let head = open-head o.content is_open in
    let short = outer_alias_short count index few near in
    let name : q.name ≡ 13 = ap (λ (z : Prices). z.name) (open-prices b o.content is_open) in
    let old = unnamed-paid q (o.types a) (of-unnamed (o.types a) (o.exports d) none) in
    let new : option_case (p.types a) 0 (λ z. paid_by q z.how) ≡ q.definition + q.name = ap (λ (z : Option Indexed). option_case z 0 (λ u. paid_by q u.how)) (indexed-there b a brought (next_type o) (with_alias_of e o) p refl) in
    let thirteen : 13 ≤ q.name * w = subst (λ (z : ℕ). 13 ≤ z * w) (sym name) (omega (arith, weighs)) in
    pays-gain c b ts 0 13 a o p (kind-alias e o.content) there (omega (arith, size, head, short))
    (paid-more-at q o p (λ z. le_refl (if_index (o.binds z) q.place)) (index-more q a brought (next_type o) o (omega (arith, old))) (λ z. le_refl (if_index (o.exports z) q.settled)))
    (gain-least (paid_at q o a) q.name (paid_at q p a) 13 w (omega (arith, old, new)) thirteen)

-- an alias of an instance's export: its entry pays, or the resource or value type

abbrev IsPaidOff : Collection → Open → Open → ℕ → ℕ → Type 0
IsPaidOff c o p k n = costs k c p + (k + 2 * n) ≤ costs k c o

entry-pays : (c : Collection) (b : Bool) (o p : Open) (j : ℕ) (n : Name) → EntriesPay b o.content → j < 2 ^ 32 → p.content ≡ and_alias (export_alias s.Type j n) o.content → IsPaidOff c o p (prices b o.content).alias (length n) → size_of p.content + costs (prices b o.content).alias c p ≤ size_of o.content + costs (prices b o.content).alias c o + 0
entry-pays c b o p j n pay small is off =
    let price = entry-alias b o.content pay in
    let size : size_of p.content ≡ size_of o.content + head_of o.content + length (alias_bytes (export_alias s.Type j n)) = ap size_of is ∙ size_alias (export_alias s.Type j n) o.content in
    let short = export_alias_short j n small in
    omega (arith, price, size, short, off)

user-pays : (c : Collection) (b : Bool) (o p : Open) (j : ℕ) (n : Name) → prices b o.content ≡ user_prices → head_of o.content ≡ 11 → j < 2 ^ 32 → p.content ≡ and_alias (export_alias s.Type j n) o.content → IsPaidOff c o p (prices b o.content).alias (length n) → size_of p.content + costs (prices b o.content).alias c p ≤ size_of o.content + costs (prices b o.content).alias c o + 19 + 0
user-pays c b o p j n price head small is off =
    let size : size_of p.content ≡ size_of o.content + head_of o.content + length (alias_bytes (export_alias s.Type j n)) = ap size_of is ∙ size_alias (export_alias s.Type j n) o.content in
    let short = export_alias_short j n small in
    omega (arith, head, size, short, off)

pub pays-settled : (c : Collection) (b : Bool) (ts : List AnyType) (o : Open) (r : ResourceId) (j : ℕ) (n : Name) → r.0 < length c.resources → o.binds r ≡ Some (at_export j n) → j < 2 ^ 32 → EntriesPay b o.content → Pays c b ts 0 o (aliased_there r j n o)
pays-settled c b ts o r j n lt at small pay =
    let q = prices b o.content in
    let p = aliased_there r j n o in
    let i = next_type o in
    pays-free c b ts 0 o p (kind-alias (export_alias s.Type j n) o.content) (entry-pays c b o p j n pay small refl (costs-settled q.alias c o p r i j n lt at refl refl))
    (paid-more-at q o p (λ z. binds-more q.place i r o z) (λ e. le_refl (index_paid q e (o.types e))) (λ d. le_refl (if_index (o.exports d) q.settled)))

pub pays-settled-user : (c : Collection) (b : Bool) (ts : List AnyType) (o : Open) (r : ResourceId) (j : ℕ) (n : Name) → r.0 < length c.resources → o.binds r ≡ Some (at_export j n) → j < 2 ^ 32 → prices b o.content ≡ user_prices → head_of o.content ≡ 11 → own_text c (ty.Resource r) ≡ 1 → IsIn (ty.Resource r) ts → Pays c b ts 0 o (aliased_there r j n o)
pays-settled-user c b ts o r j n lt at small price head own there =
    let q = prices b o.content in
    let p = aliased_there r j n o in
    let i = next_type o in
    let place : q.place ≡ 20 = ap (λ (z : Prices). z.place) price in
    let old : if_index (o.binds r) q.place ≡ 0 = ap (λ (w : Option Where). if_index w q.place) at in
    let new : if_index (p.binds r) q.place ≡ q.place = ap (λ (w : Option Where). if_index w q.place) (bound-there r (at_type i) (with_alias_of (export_alias s.Type j n) o)) in
    pays-gain c b ts 0 19 (ty.Resource r) o p (kind-alias (export_alias s.Type j n) o.content) there (user-pays c b o p j n price head small refl (costs-settled q.alias c o p r i j n lt at refl refl))
    (paid-more-at q o p (λ z. binds-more q.place i r o z) (λ e. le_refl (index_paid q e (o.types e))) (λ d. le_refl (if_index (o.exports d) q.settled)))
    (gain-exact q.place (paid_at q o (ty.Resource r)) (paid_at q p (ty.Resource r)) 19 (own_text c (ty.Resource r)) (omega (arith, old, new)) (times-one q.place 19 (own_text c (ty.Resource r)) (omega (arith, place)) own))

pub pays-settled-value : (c : Collection) (b : Bool) (ts : List AnyType) (o : Open) (d : DefinedTypeId) (j : ℕ) (n : Name) → d.0 < length c.defined → o.exports d ≡ Some (at_export j n) → j < 2 ^ 32 → EntriesPay b o.content → Pays c b ts 0 o (aliased_value d j n o)
pays-settled-value c b ts o d j n lt at small pay =
    let q = prices b o.content in
    let p = aliased_value d j n o in
    let i = next_type o in
    pays-free c b ts 0 o p (kind-alias (export_alias s.Type j n) o.content) (entry-pays c b o p j n pay small refl (costs-settled-value q.alias c o p d i j n lt at refl refl))
    (paid-more-at q o p (λ z. le_refl (if_index (o.binds z) q.place)) (λ e. le_refl (index_paid q e (o.types e))) (λ z. exports-more q.settled i d o z))

pub pays-settled-value-user : (c : Collection) (b : Bool) (ts : List AnyType) (o : Open) (d : DefinedTypeId) (j : ℕ) (n : Name) → d.0 < length c.defined → o.exports d ≡ Some (at_export j n) → j < 2 ^ 32 → prices b o.content ≡ user_prices → head_of o.content ≡ 11 → 1 ≤ own_text c (ty.Value (val.Defined d)) → IsIn (ty.Value (val.Defined d)) ts → Pays c b ts 0 o (aliased_value d j n o)
pays-settled-value-user c b ts o d j n lt at small price head weighs there =
    let q = prices b o.content in
    let a = ty.Value (val.Defined d) in
    let p = aliased_value d j n o in
    let w = own_text c a in
    let i = next_type o in
    let more : q.settled ≡ 20 = ap (λ (z : Prices). z.settled) price in
    let old : if_index (o.exports d) q.settled ≡ 0 = ap (λ (z : Option Where). if_index z q.settled) at in
    let new : if_index (p.exports d) q.settled ≡ q.settled = ap (λ (z : Option Where). if_index z q.settled) (exported-here d (at_type i) (with_alias_of (export_alias s.Type j n) o)) in
    let nineteen : 19 ≤ q.settled * w = subst (λ (z : ℕ). 19 ≤ z * w) (sym more) (omega (arith, weighs)) in
    pays-gain c b ts 0 19 a o p (kind-alias (export_alias s.Type j n) o.content) there (user-pays c b o p j n price head small refl (costs-settled-value q.alias c o p d i j n lt at refl refl))
    (paid-more-at q o p (λ z. le_refl (if_index (o.binds z) q.place)) (λ e. le_refl (index_paid q e (o.types e))) (λ z. exports-more q.settled i d o z))
    (gain-exact q.settled (paid_at q o a) (paid_at q p a) 19 w (omega (arith, old, new)) nineteen)
