-- What a scope may be charged later for the exports of an instance that it records.
use Rattle.std.specs.Prelude.{ℕ, zero, suc, ◌≡◌, ◌≤◌, ◌+◌, ◌*◌, ◌==◌, ◌&&◌, ◌||◌, Bool, true, false, List, [], ◌∷◌, length, Option, Some, None, is_none, if◌then◌else◌}
use Rattle.std.specs.List.{sum_by}
use Rattle.std.proofs.Common.{refl, ap, ◌∙◌, sym, subst, arith, le_refl}
use Rattle.std.proofs.lemmas.List.Sums.{sum_by-cons}
use Rattle.wac_types_shapes.specs.primitives.Name.{Name, option_case}
use Rattle.wac_types_shapes.specs.declared.shapes.component.ResourceId.{ResourceId}
use Rattle.wac_types_shapes.specs.declared.shapes.component.DefinedTypeId.{DefinedTypeId}
use Rattle.wac_types_shapes.specs.declared.shapes.component.UsedType.{UsedType}
use Rattle.wac_types_shapes.specs.declared.shapes.component.Interface.{Interface}
use Rattle.wac_types_shapes.specs.declared.shapes.component.ItemKind.{ItemKind}
use Rattle.wac_types_shapes.specs.declared.shapes.component.ItemKind.TheVariants as kind
use Rattle.wac_types_shapes.specs.declared.shapes.component.ValueType.TheVariants as val
use Rattle.wac_types_shapes.specs.declared.shapes.component.«Type».TheVariants as ty
use Rattle.wac_types_collection.specs.collection.Collection.{Collection}
use Rattle.wac_types_collection.specs.collection.Bound.{lists_own, own_name}
use Rattle.wac_encode_scopes.specs.States.{named_of, named_in}
use Rattle.wac_encode_scopes.specs.private.Interfaces.{own_in}
use Rattle.wac_encode_scopes.specs.private.Paid.{prices, sum_below, alias_cost, if_some, if_index, telling_cost}
use Rattle.wac_encode_scopes.specs.private.Telling.{definition_in, value_name, telling}
use Rattle.wac_encode_scopes.proofs.Types.{eqb-swap}
use Rattle.wac_encode_scopes.proofs.Owned.{own-lists, own-none}
use Rattle.wac_encode_scopes.proofs.Told.{named-some}
use Rattle.wac_encode_scopes.proofs.Sums.{below-le, below-plus, only, only-most}
use Rattle.wac_encode_scopes.proofs.Charges.{same-kind, costs, index_paid, paid-more-at, Pays, pays-free}
use Rattle.wac_encode_stacks.specs.Scopes.{Where, at_export, Open}

-- an alias of an export under this name, if there is one
abbrev named-cost : ℕ → Option Name → ℕ
named-cost k o = option_case o 0 (λ n. k + 2 * length n)

abbrev item-cost : ℕ → Name × ItemKind → ℕ
item-cost k e = k + 2 * length e.0

pub below-none : (m : ℕ) → sum_below (λ n. 0) m ≡ 0
below-none zero = omega arith
below-none (suc m) = let rest = below-none m in omega (arith, rest)

one-name : (k : ℕ) (b : Bool) (n : Name) (rest : Option Name) → named-cost k (if b then Some n else rest) ≤ named-cost k rest + (if b then k + 2 * length n else 0)
one-name k true n rest = omega arith
one-name k false n rest = omega arith

same-name-cost : (k : ℕ) (b : Bool) (n : Name) (rest : Option Name) → b ≡ false → named-cost k (if b then Some n else rest) ≤ named-cost k rest
same-name-cost k true n rest h = let both : true ≡ false = h in cc
same-name-cost k false n rest h = omega arith

-- one item names one resource, or one value type
module _ (k : ℕ) (f g : ℕ → Option Name) (test : ℕ → Bool) (e : Name × ItemKind) (m : ℕ) (is : (n : ℕ) → f n ≡ (if test n then Some e.0 else g n)) where
  named-none : ((n : ℕ) → test n ≡ false) → sum_below (λ n. named-cost k (f n)) m ≤ sum_below (λ n. named-cost k (g n)) m
  named-none none = below-le (λ n. named-cost k (f n)) (λ n. named-cost k (g n)) m (λ n. subst (λ (o : Option Name). named-cost k o ≤ named-cost k (g n)) (sym (is n)) (same-name-cost k (test n) e.0 (g n) (none n)))

  named-one : (a : ℕ) → ((n : ℕ) → test n ≡ (n == a)) → sum_below (λ n. named-cost k (f n)) m ≤ item-cost k e + sum_below (λ n. named-cost k (g n)) m
  named-one a one =
      let less = below-le (λ n. named-cost k (f n)) (λ n. named-cost k (g n) + only a (item-cost k e) n) m
      (λ n. subst (λ (o : Option Name). named-cost k o ≤ named-cost k (g n) + only a (item-cost k e) n) (sym (is n))
      (subst (λ (b : Bool). named-cost k (if test n then Some e.0 else g n) ≤ named-cost k (g n) + (if b then item-cost k e else 0)) (one n) (one-name k (test n) e.0 (g n)))) in
      let both = below-plus (λ n. named-cost k (g n)) (only a (item-cost k e)) m in
      let most = only-most a (item-cost k e) m in
      omega (arith, less, both, most)

own-sum : (k : ℕ) (c : Collection) (uses : List (Name × UsedType)) (es : List (Name × ItemKind)) (m : ℕ) → sum_below (λ n. named-cost k (own_name c uses es (record { 0 = n }))) m ≤ sum_by (λ e. if_some (own_in c uses e) (item-cost k e)) es
own-sum k c uses [] m = let none = below-none m in omega (arith, none)
own-sum k c uses (e ∷ es) m = by_own (own_in c uses e) refl (own-sum k c uses es m)
  where
    here : (a : Option ResourceId) → own_in c uses e ≡ a → sum_by (λ x. if_some (own_in c uses x) (item-cost k x)) (e ∷ es) ≡ if_some a (item-cost k e) + sum_by (λ x. if_some (own_in c uses x) (item-cost k x)) es
    here a h = sum_by-cons (λ x. if_some (own_in c uses x) (item-cost k x)) e es ∙ ap (λ (o : Option ResourceId). if_some o (item-cost k e) + sum_by (λ x. if_some (own_in c uses x) (item-cost k x)) es) h

    by_own : (a : Option ResourceId) → own_in c uses e ≡ a → sum_below (λ n. named-cost k (own_name c uses es (record { 0 = n }))) m ≤ sum_by (λ x. if_some (own_in c uses x) (item-cost k x)) es
        → sum_below (λ n. named-cost k (own_name c uses (e ∷ es) (record { 0 = n }))) m ≤ sum_by (λ x. if_some (own_in c uses x) (item-cost k x)) (e ∷ es)
    by_own None h ih =
        let sum = here None h in
        let less = named-none k (λ n. own_name c uses (e ∷ es) (record { 0 = n })) (λ n. own_name c uses es (record { 0 = n })) (λ n. lists_own c uses (record { 0 = n }) e) e m (λ n. refl) (λ n. own-none c uses e.0 e.1 h (record { 0 = n })) in
        omega (arith, sum, less, ih)
    by_own (Some r) h ih =
        let sum = here (Some r) h in
        let less = named-one k (λ n. own_name c uses (e ∷ es) (record { 0 = n })) (λ n. own_name c uses es (record { 0 = n })) (λ n. lists_own c uses (record { 0 = n }) e) e m (λ n. refl) r.0 (λ n. own-lists c uses e.0 e.1 r h (record { 0 = n }) ∙ eqb-swap r.0 n) in
        omega (arith, sum, less, ih)

value-sum : (k : ℕ) (c : Collection) (es : List (Name × ItemKind)) (m : ℕ) → sum_below (λ n. named-cost k (value_name c es (record { 0 = n }))) m ≤ sum_by (λ e. if_some (definition_in c e) (item-cost k e)) es
value-sum k c [] m = let none = below-none m in omega (arith, none)
value-sum k c (e ∷ es) m = by_value (definition_in c e) refl (value-sum k c es m)
  where
    here : (a : Option DefinedTypeId) → definition_in c e ≡ a → sum_by (λ x. if_some (definition_in c x) (item-cost k x)) (e ∷ es) ≡ if_some a (item-cost k e) + sum_by (λ x. if_some (definition_in c x) (item-cost k x)) es
    here a h = sum_by-cons (λ x. if_some (definition_in c x) (item-cost k x)) e es ∙ ap (λ (o : Option DefinedTypeId). if_some o (item-cost k e) + sum_by (λ x. if_some (definition_in c x) (item-cost k x)) es) h

    by_value : (a : Option DefinedTypeId) → definition_in c e ≡ a → sum_below (λ n. named-cost k (value_name c es (record { 0 = n }))) m ≤ sum_by (λ x. if_some (definition_in c x) (item-cost k x)) es
        → sum_below (λ n. named-cost k (value_name c (e ∷ es) (record { 0 = n }))) m ≤ sum_by (λ x. if_some (definition_in c x) (item-cost k x)) (e ∷ es)
    by_value None h ih =
        let sum = here None h in
        let less = named-none k (λ n. value_name c (e ∷ es) (record { 0 = n })) (λ n. value_name c es (record { 0 = n })) (λ n. option_case (definition_in c e) false (λ q. q.0 == n)) e m (λ n. refl) (λ n. ap (λ (o : Option DefinedTypeId). option_case o false (λ q. q.0 == n)) h) in
        omega (arith, sum, less, ih)
    by_value (Some d) h ih =
        let sum = here (Some d) h in
        let less = named-one k (λ n. value_name c (e ∷ es) (record { 0 = n })) (λ n. value_name c es (record { 0 = n })) (λ n. option_case (definition_in c e) false (λ q. q.0 == n)) e m (λ n. refl) d.0 (λ n. ap (λ (o : Option DefinedTypeId). option_case o false (λ q. q.0 == n)) h ∙ eqb-swap d.0 n) in
        omega (arith, sum, less, ih)

some-most : {A : Type 0} (o : Option A) (x : ℕ) → if_some o x ≤ x
some-most None x = omega arith
some-most (Some y) x = omega arith

-- an item is a resource or a value type
item-once : (k : ℕ) (c : Collection) (uses : List (Name × UsedType)) (e : Name × ItemKind) → if_some (own_in c uses e) (item-cost k e) + if_some (definition_in c e) (item-cost k e) ≤ item-cost k e
item-once k c uses (n, kind.TypeItem (ty.Resource r)) = let most = some-most (own_in c uses (n, kind.TypeItem (ty.Resource r))) (k + 2 * length n) in omega (arith, most)
item-once k c uses (n, kind.TypeItem (ty.Value v)) = let most = some-most (definition_in c (n, kind.TypeItem (ty.Value v))) (k + 2 * length n) in omega (arith, most)
item-once k c uses (n, _) = omega arith

items-once : (k : ℕ) (c : Collection) (uses : List (Name × UsedType)) (es : List (Name × ItemKind)) → sum_by (λ e. if_some (own_in c uses e) (item-cost k e)) es + sum_by (λ e. if_some (definition_in c e) (item-cost k e)) es ≤ sum_by (item-cost k) es
items-once k c uses [] = omega arith
items-once k c uses (e ∷ es) =
    let own = sum_by-cons (λ x. if_some (own_in c uses x) (item-cost k x)) e es in
    let value = sum_by-cons (λ x. if_some (definition_in c x) (item-cost k x)) e es in
    let all = sum_by-cons (item-cost k) e es in
    let one = item-once k c uses e in
    let rest = items-once k c uses es in
    omega (arith, own, value, all, one, rest)

-- a place that is told
told-cost : (k j : ℕ) (b : Bool) (a : Option Name) (w : Option Where) → alias_cost k (if b then option_case a w (λ n. Some (at_export j n)) else w) ≤ alias_cost k w + named-cost k a
told-cost k j true None w = omega arith
told-cost k j true (Some n) w = omega arith
told-cost k j false a w = omega arith

module _ (c : Collection) (it : Interface) (own : ResourceId → Bool) (test : DefinedTypeId → Bool) (j : ℕ) (o : Open) where
  abbrev told_open : Open
  told_open = telling c it own test j o

  costs-told : (k : ℕ) → costs k c told_open ≤ costs k c o + sum_by (item-cost k) it.exports
  costs-told k =
      let rs = below-le (λ n. alias_cost k (told_open.binds (record { 0 = n }))) (λ n. alias_cost k (o.binds (record { 0 = n })) + named-cost k (own_name c it.uses it.exports (record { 0 = n }))) (length c.resources)
      (λ n. told-cost k j (own (record { 0 = n })) (own_name c it.uses it.exports (record { 0 = n })) (o.binds (record { 0 = n }))) in
      let ds = below-le (λ n. alias_cost k (told_open.exports (record { 0 = n }))) (λ n. alias_cost k (o.exports (record { 0 = n })) + named-cost k (value_name c it.exports (record { 0 = n }))) (length c.defined)
      (λ n. told-cost k j (test (record { 0 = n }) && is_none (named_of (o.types (ty.Value (val.Defined (record { 0 = n })))) (o.exports (record { 0 = n })))) (value_name c it.exports (record { 0 = n })) (o.exports (record { 0 = n }))) in
      let rs_both = below-plus (λ n. alias_cost k (o.binds (record { 0 = n }))) (λ n. named-cost k (own_name c it.uses it.exports (record { 0 = n }))) (length c.resources) in
      let ds_both = below-plus (λ n. alias_cost k (o.exports (record { 0 = n }))) (λ n. named-cost k (value_name c it.exports (record { 0 = n }))) (length c.defined) in
      let owned = own-sum k c it.uses it.exports (length c.resources) in
      let values = value-sum k c it.exports (length c.defined) in
      let once = items-once k c it.uses it.exports in
      omega (arith, rs, ds, rs_both, ds_both, owned, values, once)

  bind-more : (x : ℕ) → ((r : ResourceId) → own r ≡ true → o.binds r ≡ None) → (r : ResourceId) → if_index (o.binds r) x ≤ if_index (told_open.binds r) x
  bind-more x none r = by_own (own r) refl
    where
      by_own : (b : Bool) → own r ≡ b → if_index (o.binds r) x ≤ if_index (if b then option_case (own_name c it.uses it.exports r) (o.binds r) (λ n. Some (at_export j n)) else o.binds r) x
      by_own true h = let nothing : if_index (o.binds r) x ≡ 0 = ap (λ (w : Option Where). if_index w x) (none r h) in omega (arith, nothing)
      by_own false h = le_refl (if_index (o.binds r) x)

  unnamed-export : (x : ℕ) (d : DefinedTypeId) → is_none (named_in d o) ≡ true → if_index (o.exports d) x ≡ 0
  unnamed-export x d h = by_export (o.exports d) (none-of (named_in d o) h)
    where
      none-of : (w : Option Where) → is_none w ≡ true → w ≡ None
      none-of None e = refl
      none-of (Some w) e = let both : false ≡ true = e in cc

      by_export : (w : Option Where) → named_of (o.types (ty.Value (val.Defined d))) w ≡ None → if_index w x ≡ 0
      by_export None e = refl
      by_export (Some w) e = absurd (named-some (o.types (ty.Value (val.Defined d))) w e)

  export-more : (x : ℕ) (d : DefinedTypeId) → if_index (o.exports d) x ≤ if_index (told_open.exports d) x
  export-more x d = by_test (test d) (is_none (named_in d o)) refl
    where
      by_test : (a b : Bool) → is_none (named_in d o) ≡ b → if_index (o.exports d) x ≤ if_index (if a && b then option_case (value_name c it.exports d) (o.exports d) (λ n. Some (at_export j n)) else o.exports d) x
      by_test false b h = le_refl (if_index (o.exports d) x)
      by_test true false h = le_refl (if_index (o.exports d) x)
      by_test true true h = let nothing = unnamed-export x d h in omega (arith, nothing)

  -- the entries of the instance pay for aliases of them
  pub pays-told : (b : Bool) → ((r : ResourceId) → own r ≡ true → o.binds r ≡ None) → Pays c b [] (telling_cost b o.content it.exports) o told_open
  pays-told b none =
      let q = prices b o.content in
      let cost = costs-told q.alias in
      pays-free c b [] (telling_cost b o.content it.exports) o told_open (same-kind o.content) (omega (arith, cost))
      (paid-more-at q o told_open (bind-more q.place none) (λ a. le_refl (index_paid q a (o.types a))) (export-more q.settled))
