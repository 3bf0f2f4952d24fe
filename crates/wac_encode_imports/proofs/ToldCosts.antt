-- What later aliases of what the imports export may cost, in the records of the graph's own types.
use Rattle.std.proofs.Common.{ℕ, zero, suc, ◌+◌, ◌*◌, ◌≤◌, Bool, true, false, not, ◌&&◌, if◌then◌else◌, List, [], ◌∷◌, length, Contains, Option, Some, None, ◌≡◌, refl, ap, sym, ◌∙◌, subst, arith, slice_get, take, add-one}
use Rattle.std.specs.Prelude.{◌==◌, is_none}
use Rattle.std.specs.List.{sum_by}
use Rattle.std.proofs.lemmas.Bool.{eqb-true, eq-eqb}
use Rattle.std.proofs.lemmas.List.Sums.{sum_by-cons}
use Rattle.wac_types_shapes.specs.primitives.Name.{Name, option_case, first_some, find_name}
use Rattle.wac_types_shapes.specs.primitives.Tree.{Tree, absent, resource, primitive, own, borrow, record_of, variant_of, list_of, fixed_list_of, tuple_of, flags_of, enum_of, option_of, result_of, stream_of, future_of, function, instance, component, module_of, fresh, type_equal, function_item, instance_item, component_item, module_item, value_item, Leaf, Place, named, moved}
use Rattle.wac_types_shapes.specs.shapes.Kinds.{kind_type}
use Rattle.wac_types_shapes.specs.declared.shapes.component.DefinedTypeId.{DefinedTypeId}
use Rattle.wac_types_shapes.specs.declared.shapes.component.Interface.{Interface}
use Rattle.wac_types_shapes.specs.declared.shapes.component.InterfaceId.{InterfaceId}
use Rattle.wac_types_shapes.specs.declared.shapes.component.ItemKind.{ItemKind}
use Rattle.wac_types_shapes.specs.declared.shapes.component.ItemKind.TheVariants as kind
use Rattle.wac_types_shapes.specs.declared.shapes.component.ResourceId.{ResourceId}
use Rattle.wac_types_shapes.specs.declared.shapes.component.UsedType.{UsedType}
use Rattle.wac_types_shapes.specs.declared.shapes.component.ValueType.TheVariants as val
use Rattle.wac_types_shapes.specs.declared.shapes.component.«Type».{«Type» as AnyType}
use Rattle.wac_types_shapes.specs.declared.shapes.component.«Type».TheVariants as ty
use Rattle.wac_types_collection.specs.collection.Collection.{Collection, item_at}
use Rattle.wac_types_collection.specs.collection.Bound.{is_alias, lists_own, own_name, held_tree}
use Rattle.wac_types_collection.proofs.lemmas.wide.Members.{in_first, in_rest}
use Rattle.wac_types_weight.specs.Weight.{named_part, named_parts}
use Rattle.wac_types_weight.specs.Text.{items_of, entry_weight}
use Rattle.wac_types_weight.proofs.Sums.{sum_in, sum_both, sum_scaled, term_less, filter_in}
use Rattle.wac_merge_classes.specs.entries.Binding.{kind_binds, first_binds, class_binds, binding_from, binding_class}
use Rattle.wac_merge_classes.specs.entries.Classes.{Entry, by_names, same_class, class_names, members, same_track}
use Rattle.wac_merge.specs.MergedPlaces.{IsRootPlace}
use Rattle.wac_binary.specs.HasMeaning.{IsValue}
use Rattle.wac_encode_stacks.specs.Good.{Good, nothing_bound}
use Rattle.wac_encode_stacks.specs.Scopes.{Where, at_type, at_export, How, Open, bind_at, index_at, export_at}
use Rattle.wac_encode_scopes.specs.declared.encodable.Encodable.{Encodable}
use Rattle.wac_encode_scopes.specs.declared.encodable.Encodable.TheVariants.{Builder, Instance, Component}
use Rattle.wac_encode_scopes.specs.declared.state.State.{State}
use Rattle.wac_encode_scopes.specs.Books.{opened}
use Rattle.wac_encode_scopes.specs.Contents.{content_of}
use Rattle.wac_encode_scopes.specs.Roots.{IsRoot}
use Rattle.wac_encode_scopes.specs.States.{RecordsHere, stack}
use Rattle.wac_encode_scopes.specs.private.Paid.{sum_below, prices, alias_cost, pending}
use Rattle.wac_encode_scopes.proofs.Sums.{below-le, below-plus, only, only-most}
use Rattle.wac_encode_scopes.proofs.Tolls.{below-none}
use Rattle.wac_encode_imports.specs.declared.told.Teller.{Teller}
use Rattle.wac_encode_imports.specs.private.Told.{IsTeller, AreOwnNames, BindsNames, IsBlank, TellsWithin, entries_items}
use Rattle.wac_encode_imports.proofs.Placed.{binding-same}

-- ---- sums
module _ {A : Type 0} where
  below-swap : (h : ℕ → A → ℕ) (n : ℕ) (xs : List A) → sum_below (λ q. sum_by (h q) xs) n ≡ sum_by (λ x. sum_below (λ q. h q x) n) xs
  below-swap h zero xs = sym (nothing xs)
    where
      nothing : (xs : List A) → sum_by (λ x. 0) xs ≡ 0
      nothing [] = refl
      nothing (x ∷ xs) = let rest = nothing xs in omega (arith, rest, sum_by-cons (λ y. 0) x xs)
  below-swap h (suc n) xs = let rest = below-swap h n xs in let both = sum_both (h n) (λ x. sum_below (λ q. h q x) n) xs in omega (arith, rest, both)

no-price : (x : Encodable) → IsRoot x → (prices false (content_of x)).alias ≡ 0
no-price (Builder items) is = refl
no-price (Instance ds) is = absurd is
no-price (Component ds) is = absurd is

none-below : (m n : ℕ) → sum_below (λ q. 0) m ≤ n
none-below m n = let zero = below-none m in omega (arith, zero)

-- ---- nothing is recorded at first
empty-collection : Collection
empty-collection = record { resources = []; funcs = []; defined = []; interfaces = []; worlds = []; modules = [] }

absent-there : (d : DefinedTypeId) → held_tree empty-collection nothing_bound (ty.Value (val.Defined d)) ≡ absent
unfolding held_tree empty-collection
absent-there d = refl

no-value : (t : Tree) → IsValue t → moved (λ (l : Leaf). l) t ≡ absent → ⊥
no-value (primitive p) value is = cc
no-value (own l) value is = cc
no-value (borrow l) value is = cc
no-value (record_of names parts) value is = cc
no-value (variant_of names parts) value is = cc
no-value (list_of u) value is = cc
no-value (fixed_list_of n u) value is = cc
no-value (tuple_of n parts) value is = cc
no-value (flags_of names) value is = cc
no-value (enum_of names) value is = cc
no-value (option_of u) value is = cc
no-value (result_of u v) value is = cc
no-value (stream_of u) value is = cc
no-value (future_of u) value is = cc
no-value absent value is = absurd value
no-value (resource l) value is = absurd value
no-value (function a names ps r) value is = absurd value
no-value (instance items) value is = absurd value
no-value (component i e) value is = absurd value
no-value (module_of i e) value is = absurd value
no-value fresh value is = absurd value
no-value (type_equal u) value is = absurd value
no-value (function_item u) value is = absurd value
no-value (instance_item u) value is = absurd value
no-value (component_item u) value is = absurd value
no-value (module_item u) value is = absurd value
no-value (value_item u) value is = absurd value

pub no-exports : (b : Bool) (s : State) → ((c : Collection) → Good c (nothing_bound ∷ []) (stack b s)) → (d : DefinedTypeId) → (opened b s.here).exports d ≡ None
no-exports b s good d = by ((opened b s.here).exports d) refl
  where
    by : (o : Option Where) → (opened b s.here).exports d ≡ o → (opened b s.here).exports d ≡ None
    by None is = is
    by (Some w) is =
        let (t, held, value, stands) = (good empty-collection).0.exports d w is in
        let same : held_tree empty-collection nothing_bound (ty.Value (val.Defined d)) ≡ moved (λ (l : Leaf). l) t = held (λ l. l) nothing_bound (λ r l at. at) in
        absurd (no-value t value (sym same ∙ absent-there d))

pub no-binds : (c : Collection) (b : Bool) (s : State) → Good c (nothing_bound ∷ []) (stack b s) → (r : ResourceId) → (opened b s.here).binds r ≡ None
no-binds c b s good r = by ((opened b s.here).binds r) refl
  where
    none : (l : Leaf) → None ≡ Some l → ⊥
    none l e = cc

    by : (o : Option Where) → (opened b s.here).binds r ≡ o → (opened b s.here).binds r ≡ None
    by None is = is
    by (Some w) is = let (l, bound, stands) = good.0.binds r w is in absurd (none l bound)

-- ---- what one more record costs
pub tells-same : (c : Collection) (s : State) → TellsWithin c 0 s s
tells-same c s is = omega arith

pub tells-then : (c : Collection) (n k : ℕ) (s t u : State) → t.here.content ≡ s.here.content → TellsWithin c n s t → TellsWithin c k t u → TellsWithin c (n + k) s u
tells-then c n k s t u same a b is =
    let first = a is in
    let rest = b (subst IsRoot (sym same) is) in
    omega (arith, first, rest)

pub tells-more : (c : Collection) (n k : ℕ) (s t : State) → n ≤ k → TellsWithin c n s t → TellsWithin c k s t
tells-more c n k s t less a is = let paid = a is in omega (arith, paid, less)

pub tells-typed : (c : Collection) (a : AnyType) (h : How) (i : ℕ) (s t : State) → RecordsHere false (index_at a h i) s t → TellsWithin c 0 s t
tells-typed c a h i s t records is = let same = ap (pending c false) records.here in omega (arith, same)

pub tells-exported : (c : Collection) (d : DefinedTypeId) (j : ℕ) (n : Name) (s t : State) → RecordsHere false (export_at d (at_export j n)) s t → TellsWithin c (2 * length n) s t
tells-exported c d j n s t records is =
    let o = opened false s.here in
    let k = (prices false o.content).alias in
    let new : ℕ → ℕ = λ q. alias_cost k (if q == d.0 then Some (at_export j n) else o.exports (record { 0 = q })) in
    let old : ℕ → ℕ = λ q. alias_cost k (o.exports (record { 0 = q })) in
    let same = ap (pending c false) records.here in
    let free = no-price s.here.content is in
    let less = below-le new (λ q. old q + only d.0 (k + 2 * length n) q) (length c.defined) (λ q. one k o q (q == d.0) refl) in
    let plus = below-plus old (only d.0 (k + 2 * length n)) (length c.defined) in
    let most = only-most d.0 (k + 2 * length n) (length c.defined) in
    omega (arith, same, free, less, plus, most)
  where
    one : (k : ℕ) (o : Open) (q : ℕ) (b : Bool) → (q == d.0) ≡ b → alias_cost k (if q == d.0 then Some (at_export j n) else o.exports (record { 0 = q })) ≤ alias_cost k (o.exports (record { 0 = q })) + only d.0 (k + 2 * length n) q
    one k o q true is =
        let left = ap (λ (b : Bool). alias_cost k (if b then Some (at_export j n) else o.exports (record { 0 = q }))) is in
        let right = ap (λ (b : Bool). if b then k + 2 * length n else 0) is in
        omega (arith, left, right)
    one k o q false is =
        let left = ap (λ (b : Bool). alias_cost k (if b then Some (at_export j n) else o.exports (record { 0 = q }))) is in
        omega (arith, left)

-- ---- an own resource is that of an item of an entry
is_item_of : ℕ → Name × ItemKind → Bool
is_item_of q (n, kind.TypeItem (ty.Resource r)) = q == r.0
is_item_of q x = false

item_own : ℕ → Name × ItemKind → ℕ
item_own q (n, kind.TypeItem (ty.Resource r)) = only r.0 (2 * length n) q
item_own q x = 0

item-counts : (q : ℕ) (x : Name × ItemKind) → is_item_of q x ≡ true → item_own q x ≡ 2 * length x.0
unfolding is_item_of item_own
item-counts q (n, kind.TypeItem (ty.Resource r)) is = ap (λ (b : Bool). if b then 2 * length n else 0) is
item-counts q (n, kind.TypeItem (ty.Func f)) is = let no : false ≡ true = is in cc
item-counts q (n, kind.TypeItem (ty.Value v)) is = let no : false ≡ true = is in cc
item-counts q (n, kind.TypeItem (ty.Interface i)) is = let no : false ≡ true = is in cc
item-counts q (n, kind.TypeItem (ty.World w)) is = let no : false ≡ true = is in cc
item-counts q (n, kind.TypeItem (ty.Module k)) is = let no : false ≡ true = is in cc
item-counts q (n, kind.Func f) is = let no : false ≡ true = is in cc
item-counts q (n, kind.Instance i) is = let no : false ≡ true = is in cc
item-counts q (n, kind.Component w) is = let no : false ≡ true = is in cc
item-counts q (n, kind.Module k) is = let no : false ≡ true = is in cc
item-counts q (n, kind.Value v) is = let no : false ≡ true = is in cc

item-once : (x : Name × ItemKind) (m : ℕ) → sum_below (λ q. item_own q x) m ≤ 2 * length x.0
unfolding item_own
item-once (n, kind.TypeItem (ty.Resource r)) m = only-most r.0 (2 * length n) m
item-once (n, kind.TypeItem (ty.Func f)) m = none-below m (2 * length n)
item-once (n, kind.TypeItem (ty.Value v)) m = none-below m (2 * length n)
item-once (n, kind.TypeItem (ty.Interface i)) m = none-below m (2 * length n)
item-once (n, kind.TypeItem (ty.World w)) m = none-below m (2 * length n)
item-once (n, kind.TypeItem (ty.Module k)) m = none-below m (2 * length n)
item-once (n, kind.Func f) m = none-below m (2 * length n)
item-once (n, kind.Instance i) m = none-below m (2 * length n)
item-once (n, kind.Component w) m = none-below m (2 * length n)
item-once (n, kind.Module k) m = none-below m (2 * length n)
item-once (n, kind.Value v) m = none-below m (2 * length n)

lists-item : (c : Collection) (uses : List (Name × UsedType)) (r : ResourceId) (x : Name × ItemKind) → lists_own c uses r x ≡ true → is_item_of r.0 x ≡ true
unfolding is_item_of
lists-item c uses r (n, kind.TypeItem (ty.Resource q)) is = eq-eqb r.0 q.0 (sym (eqb-true q.0 r.0 (first (q.0 == r.0) (not (is_alias c q) && is_none (find_name uses n)) is)))
  where
    first : (a b : Bool) → (a && b) ≡ true → a ≡ true
    first true b h = refl
    first false b h = cc
lists-item c uses r (n, kind.TypeItem (ty.Func f)) is = let no : false ≡ true = is in cc
lists-item c uses r (n, kind.TypeItem (ty.Value v)) is = let no : false ≡ true = is in cc
lists-item c uses r (n, kind.TypeItem (ty.Interface i)) is = let no : false ≡ true = is in cc
lists-item c uses r (n, kind.TypeItem (ty.World w)) is = let no : false ≡ true = is in cc
lists-item c uses r (n, kind.TypeItem (ty.Module k)) is = let no : false ≡ true = is in cc
lists-item c uses r (n, kind.Func f) is = let no : false ≡ true = is in cc
lists-item c uses r (n, kind.Instance i) is = let no : false ≡ true = is in cc
lists-item c uses r (n, kind.Component w) is = let no : false ≡ true = is in cc
lists-item c uses r (n, kind.Module k) is = let no : false ≡ true = is in cc
lists-item c uses r (n, kind.Value v) is = let no : false ≡ true = is in cc

-- an item of this name that is the resource
HasOwnItem : List (Name × ItemKind) → ResourceId → Name → Type 0
HasOwnItem es r n = (x : Name × ItemKind) × Contains es x × (x.0 ≡ n) × (is_item_of r.0 x ≡ true)

own-item : (c : Collection) (uses : List (Name × UsedType)) (es : List (Name × ItemKind)) (r : ResourceId) (n : Name) → own_name c uses es r ≡ Some n → HasOwnItem es r n
unfolding HasOwnItem
own-item c uses [] r n is = let no : None ≡ Some n = is in cc
own-item c uses (e ∷ es) r n is = by (lists_own c uses r e) refl is (λ h. own-item c uses es r n h)
  where
    one : (x y : Name) → Some x ≡ Some y → x ≡ y
    one x y h = cc

    by : (b : Bool) → lists_own c uses r e ≡ b → (if b then Some e.0 else own_name c uses es r) ≡ Some n → (own_name c uses es r ≡ Some n → (x : Name × ItemKind) × Contains es x × (x.0 ≡ n) × (is_item_of r.0 x ≡ true))
        → (x : Name × ItemKind) × Contains (e ∷ es) x × (x.0 ≡ n) × (is_item_of r.0 x ≡ true)
    by true lists same rest = (e, in_first e es, one e.0 n same, lists-item c uses r e lists)
    by false lists same rest = let (x, among, name, item) = rest same in (x, in_rest e x es among, name, item)

module _ (c : Collection) (r : ResourceId) (n : Name) (rest : List Place) where
  Pays : Entry → Type 0
  Pays e = HasOwnItem (items_of c (kind_type e.kind)) r n

  some-path : (path : List Place) → Some path ≡ Some (named n ∷ rest) → path ≡ named n ∷ rest
  some-path path h = cc

  head-name : (q : Name) → named q ∷ [] ≡ named n ∷ rest → q ≡ n
  head-name q h = cc

  kind-own : (class : Name) (e : Entry) (k : ItemKind) → e.kind ≡ k → kind_binds by_names c class k r ≡ Some (named n ∷ rest) → Pays e
  unfolding Pays HasOwnItem
  kind-own class e (kind.Instance i) is bound = by_it (item_at c.interfaces i.0) refl bound
    where
      own_it : (it : Interface) → item_at c.interfaces i.0 ≡ Some it → (o : Option Name) → own_name c it.uses it.exports r ≡ o → option_case o None (λ q. Some (named q ∷ [])) ≡ Some (named n ∷ rest) → HasOwnItem (items_of c (kind_type e.kind)) r n
      own_it it at None mine h = let no : None ≡ Some (named n ∷ rest) = h in cc
      own_it it at (Some q) mine h =
          let name : q ≡ n = head-name q (some-path (named q ∷ []) h) in
          let listed : items_of c (kind_type e.kind) ≡ it.exports = ap (λ x. items_of c (kind_type x)) is ∙ ap (λ o. option_case o [] (λ (x : Interface). x.exports)) at in
          subst (λ es. HasOwnItem es r n) (sym listed) (own-item c it.uses it.exports r n (mine ∙ ap Some name))

      of_track : (it : Interface) → item_at c.interfaces i.0 ≡ Some it → (b : Bool) → (if b then option_case (own_name c it.uses it.exports r) None (λ q. Some (named q ∷ [])) else None) ≡ Some (named n ∷ rest) → HasOwnItem (items_of c (kind_type e.kind)) r n
      of_track it at true h = own_it it at (own_name c it.uses it.exports r) refl h
      of_track it at false h = let no : None ≡ Some (named n ∷ rest) = h in cc

      by_id : (it : Interface) → item_at c.interfaces i.0 ≡ Some it → (o : Option Name)
          → option_case o None (λ id. if same_track (by_names.track id) (by_names.track class) then option_case (own_name c it.uses it.exports r) None (λ q. Some (named q ∷ [])) else None) ≡ Some (named n ∷ rest) → HasOwnItem (items_of c (kind_type e.kind)) r n
      by_id it at None h = let no : None ≡ Some (named n ∷ rest) = h in cc
      by_id it at (Some id) h = of_track it at (same_track (by_names.track id) (by_names.track class)) h

      by_it : (o : Option Interface) → item_at c.interfaces i.0 ≡ o
          → option_case o None (λ it. option_case it.id None (λ id. if same_track (by_names.track id) (by_names.track class) then option_case (own_name c it.uses it.exports r) None (λ q. Some (named q ∷ [])) else None)) ≡ Some (named n ∷ rest) → HasOwnItem (items_of c (kind_type e.kind)) r n
      by_it None at h = let no : None ≡ Some (named n ∷ rest) = h in cc
      by_it (Some it) at h = by_id it at it.id h
  kind-own class e (kind.TypeItem (ty.Resource q)) is bound = by ((q.0 == r.0) && not (is_alias c q)) bound
    where
      by : (b : Bool) → (if b then Some [] else None) ≡ Some (named n ∷ rest) → HasOwnItem (items_of c (kind_type e.kind)) r n
      by true h = let no : [] ≡ named n ∷ rest = some-path [] h in cc
      by false h = let no : None ≡ Some (named n ∷ rest) = h in cc
  kind-own class e (kind.TypeItem (ty.Func f)) is bound = let no : None ≡ Some (named n ∷ rest) = bound in cc
  kind-own class e (kind.TypeItem (ty.Value v)) is bound = let no : None ≡ Some (named n ∷ rest) = bound in cc
  kind-own class e (kind.TypeItem (ty.Interface i)) is bound = let no : None ≡ Some (named n ∷ rest) = bound in cc
  kind-own class e (kind.TypeItem (ty.World w)) is bound = let no : None ≡ Some (named n ∷ rest) = bound in cc
  kind-own class e (kind.TypeItem (ty.Module k)) is bound = let no : None ≡ Some (named n ∷ rest) = bound in cc
  kind-own class e (kind.Func f) is bound = let no : None ≡ Some (named n ∷ rest) = bound in cc
  kind-own class e (kind.Component w) is bound = let no : None ≡ Some (named n ∷ rest) = bound in cc
  kind-own class e (kind.Module k) is bound = let no : None ≡ Some (named n ∷ rest) = bound in cc
  kind-own class e (kind.Value v) is bound = let no : None ≡ Some (named n ∷ rest) = bound in cc

  first-own : (class : Name) (es : List Entry) → first_binds by_names c class es r ≡ Some (named n ∷ rest) → (e : Entry) × Contains es e × Pays e
  first-own class [] is = let no : None ≡ Some (named n ∷ rest) = is in cc
  first-own class (e ∷ es) is = by (kind_binds by_names c class e.kind r) refl is (λ h. first-own class es h)
    where
      by : (o : Option (List Place)) → kind_binds by_names c class e.kind r ≡ o → first_some o (first_binds by_names c class es r) ≡ Some (named n ∷ rest) → (first_binds by_names c class es r ≡ Some (named n ∷ rest) → (x : Entry) × Contains es x × Pays x) → (x : Entry) × Contains (e ∷ es) x × Pays x
      by (Some path) bound h later = (e, in_first e es, kind-own class e e.kind refl (bound ∙ h))
      by None bound h later = let (x, among, pays) = later h in (x, in_rest e x es among, pays)

  no-pair : (x : ℕ × List Place) → None ≡ Some x → ⊥
  no-pair x h = cc

  class-own : (es : List Entry) (k : ℕ) (classes : List Name) (j : ℕ) → binding_from by_names c es k classes r ≡ Some (j, named n ∷ rest) → (e : Entry) × Contains es e × Pays e
  class-own es k [] j is = absurd (no-pair (j, named n ∷ rest) is)
  class-own es k (class ∷ classes) j is = by (class_binds by_names c es class r) refl is (λ h. class-own es (suc k) classes j h)
    where
      paths : (x y : ℕ × List Place) → Some x ≡ Some y → x ≡ y
      paths x y h = cc

      by : (o : Option (List Place)) → class_binds by_names c es class r ≡ o → option_case o (binding_from by_names c es (suc k) classes r) (λ path. Some (k, path)) ≡ Some (j, named n ∷ rest) → (binding_from by_names c es (suc k) classes r ≡ Some (j, named n ∷ rest) → (e : Entry) × Contains es e × Pays e) → (e : Entry) × Contains es e × Pays e
      by None bound h later = later h
      by (Some path) bound h later =
          let path_is : path ≡ named n ∷ rest = ap (λ (z : ℕ × List Place). z.1) (paths (k, path) (j, named n ∷ rest) h) in
          let (e, among, pays) = first-own class (members by_names es class) (bound ∙ ap Some path_is) in
          (e, (filter_in (λ (x : Entry). same_class by_names es class x.name) es e among).0, pays)

entry_own : Collection → ℕ → Entry → ℕ
entry_own c q e = sum_by (item_own q) (items_of c (kind_type e.kind))

entry-pays : (c : Collection) (r : ResourceId) (n : Name) (rest : List Place) (e : Entry) → Pays c r n rest e → 2 * length n ≤ entry_own c r.0 e
unfolding entry_own Pays HasOwnItem
entry-pays c r n rest e pays =
    let (x, among, name, item) = pays in
    let term = term_less (item_own r.0) (items_of c (kind_type e.kind)) x among in
    let counts = item-counts r.0 x item in
    let same = ap (λ (z : Name). length z) name in
    omega (arith, term, counts, same)

entry-once : (c : Collection) (m : ℕ) (e : Entry) → sum_below (λ q. entry_own c q e) m ≤ 2 * entry_weight c (kind_type e.kind)
unfolding entry_own
entry-once c m e =
    let es = items_of c (kind_type e.kind) in
    let swap = below-swap item_own m es in
    let less = sum_in (λ x. sum_below (λ q. item_own q x) m) (λ x. 2 * named_part x) es (λ x h. let once = item-once x m in omega (arith, once)) in
    let scaled = sum_scaled 2 (λ (x : Name × ItemKind). named_part x) es in
    omega (arith, swap, less, scaled)

-- what the bindings of own resources may cost
pub own-pending : (t : Teller) (is : IsTeller t) (s : State) → IsRoot s.here.content → AreOwnNames t s → ((d : DefinedTypeId) → (opened false s.here).exports d ≡ None) → pending t.types.now false (opened false s.here) ≤ 2 * entries_items t.types.now t.merge.now.entries
own-pending t is s bottom mine none =
    let c = t.types.now in
    let es = t.merge.now.entries in
    let o = opened false s.here in
    let k = (prices false o.content).alias in
    let free = no-price s.here.content bottom in
    let rs = length c.resources in
    let ds = length c.defined in
    let exports = below-le (λ q. alias_cost k (o.exports (record { 0 = q }))) (λ q. 0) ds (λ q. let same = ap (alias_cost k) (none (record { 0 = q })) in omega (arith, same)) in
    let zero = below-none ds in
    let binds = below-le (λ q. alias_cost k (o.binds (record { 0 = q }))) (λ q. sum_by (entry_own c q) es) rs (λ q. bound k free (record { 0 = q }) (o.binds (record { 0 = q })) refl) in
    let swap = below-swap (entry_own c) rs es in
    let less = sum_in (λ e. sum_below (λ q. entry_own c q e) rs) (λ (e : Entry). 2 * entry_weight c (kind_type e.kind)) es (λ e h. entry-once c rs e) in
    let scaled = sum_scaled 2 (λ (e : Entry). entry_weight c (kind_type e.kind)) es in
    omega (arith, exports, zero, binds, swap, less, scaled)
  where
    bound : (k : ℕ) → k ≡ 0 → (r : ResourceId) (w : Option Where) → (opened false s.here).binds r ≡ w → alias_cost k ((opened false s.here).binds r) ≤ sum_by (entry_own t.types.now r.0) t.merge.now.entries
    bound k free r None at = let same = ap (alias_cost k) at in omega (arith, same)
    bound k free r (Some (at_type i)) at = let same = ap (alias_cost k) at in omega (arith, same)
    bound k free r (Some (at_export j n)) at =
        let same = ap (alias_cost k) at in
        let (number, rest, first) = mine r j n at in
        let here = sym (binding-same t.types.now t.merge.now.merge.types t.merge.now.entries r (λ class. is.bound.same class r) 0 (class_names by_names t.merge.now.entries)) ∙ first in
        let (e, among, pays) = class-own t.types.now r n rest t.merge.now.entries 0 (class_names by_names t.merge.now.entries) number here in
        let cost = entry-pays t.types.now r n rest e pays in
        let term = term_less (entry_own t.types.now r.0) t.merge.now.entries e among in
        omega (arith, same, cost, term, free)

-- ---- the names of bound resources
pub names-same : (t : Teller) (s : State) → BindsNames t s s
names-same t s = record { names = λ mine. mine; exports = λ d. refl; content = refl }

pub names-then : (t : Teller) (a b d : State) → BindsNames t a b → BindsNames t b d → BindsNames t a d
names-then t a b d x y = record { names = λ mine. y.names (x.names mine); exports = λ q. y.exports q ∙ x.exports q; content = y.content ∙ x.content }

module _ (t : Teller) (r : ResourceId) (s u : State) where
  -- a place that is no export of this name is what it was, or the new one
  other-place : (w : Where) → RecordsHere false (bind_at r w) s u → ((j : ℕ) (n : Name) → w ≡ at_export j n → (k : ℕ) × (rest : List Place) × (binding_class by_names (t.merge.now.merge).types t.merge.now.entries r ≡ Some (k, named n ∷ rest))) → BindsNames t s u
  other-place w records new = record { names = λ mine q j n at. by q j n mine (q.0 == r.0) refl (sym (ap (λ (o : Open). o.binds q) records.here) ∙ at); exports = λ d. ap (λ (o : Open). o.exports d) records.here; content = records.content }
    where
      one : (x y : Where) → Some x ≡ Some y → x ≡ y
      one x y h = cc

      same-resource : (q : ResourceId) → q.0 ≡ r.0 → q ≡ r
      same-resource q e = ap (λ (k : ℕ). let it : ResourceId = record { 0 = k } in it) e

      by : (q : ResourceId) (j : ℕ) (n : Name) → AreOwnNames t s → (b : Bool) → (q.0 == r.0) ≡ b → (if q.0 == r.0 then Some w else (opened false s.here).binds q) ≡ Some (at_export j n)
          → (k : ℕ) × (rest : List Place) × (binding_class by_names (t.merge.now.merge).types t.merge.now.entries q ≡ Some (k, named n ∷ rest))
      by q j n mine true is at =
          let here : w ≡ at_export j n = one w (at_export j n) (sym (ap (λ (b : Bool). if b then Some w else (opened false s.here).binds q) is) ∙ at) in
          let (k, rest, first) = new j n here in
          (k, rest, ap (λ (x : ResourceId). binding_class by_names (t.merge.now.merge).types t.merge.now.entries x) (same-resource q (eqb-true q.0 r.0 is)) ∙ first)
      by q j n mine false is at = mine q j n (sym (ap (λ (b : Bool). if b then Some w else (opened false s.here).binds q) is) ∙ at)

  pub names-type : (i : ℕ) → RecordsHere false (bind_at r (at_type i)) s u → BindsNames t s u
  names-type i records = other-place (at_type i) records (λ j n same. absurd (apart j n same))
    where
      apart : (j : ℕ) (n : Name) → at_type i ≡ at_export j n → ⊥
      apart j n h = cc

  pub names-export : (p : ℕ) (path : List Place) (h : IsRootPlace by_names t.merge.now.entries t.merge.now.merge r p path) (name : Name) (rest : List Place) → path ≡ named name ∷ rest → (i : ℕ) → RecordsHere false (bind_at r (at_export i name)) s u → BindsNames t s u
  names-export p path h name rest is i records = other-place (at_export i name) records (λ j n same. (h.number, rest, h.first ∙ ap (λ (x : List Place). Some (h.number, x)) (is ∙ ap (λ (z : Name). named z ∷ rest) (name-is j n same))))
    where
      name-is : (j : ℕ) (n : Name) → at_export i name ≡ at_export j n → name ≡ n
      name-is j n h = cc

-- ---- loops
pub taken-more : {A : Type 0} (f : A → ℕ) (xs : List A) (i : ℕ) (x : A) → slice_get xs i ≡ Some x → sum_by f (take (i + 1) xs) ≡ sum_by f (take i xs) + f x
taken-more {A = A} f xs i x at = ap (λ n. sum_by f (take n xs)) (add-one i) ∙ by xs i at
  where
    by : (ys : List A) (q : ℕ) → slice_get ys q ≡ Some x → sum_by f (take (suc q) ys) ≡ sum_by f (take q ys) + f x
    by [] q at = cc
    by (y ∷ ys) zero at = let same : y ≡ x = cc in let cost = ap f same in omega (arith, cost, sum_by-cons f y [])
    by (y ∷ ys) (suc q) at = let rest = by ys q at in omega (arith, rest, sum_by-cons f y (take (suc q) ys), sum_by-cons f y (take q ys))

pub entry-items : (c : Collection) (e : Entry) (i : InterfaceId) (it : Interface) → e.kind ≡ kind.Instance i → item_at c.interfaces i.0 ≡ Some it → entry_weight c (kind_type e.kind) ≡ named_parts it.exports
entry-items c e i it is at = ap (λ k. entry_weight c (kind_type k)) is ∙ ap (λ o. named_parts (option_case o [] (λ (x : Interface). x.exports))) at

-- ---- all that is told
pub all-told : (t : Teller) → IsTeller t → (a b d : State) → IsBlank a → IsRoot a.here.content → BindsNames t a b → TellsWithin t.types.now (2 * entries_items t.types.now t.merge.now.entries) b d
    → pending t.types.now false (opened false d.here) ≤ 4 * entries_items t.types.now t.merge.now.entries
all-told t is a b d blank bottom names paid =
    let still = subst IsRoot (sym names.content) bottom in
    let mine = names.names (λ r j n at. absurd (unbound r j n (sym (no-binds t.types.now false a (blank t.types.now) r) ∙ at))) in
    let none : (q : DefinedTypeId) → (opened false b.here).exports q ≡ None = (λ q. names.exports q ∙ no-exports false a blank q) in
    let bound = own-pending t is b still mine none in
    let more = paid still in
    omega (arith, bound, more)
  where
    unbound : (r : ResourceId) (j : ℕ) (n : Name) → None ≡ Some (at_export j n) → ⊥
    unbound r j n h = cc
