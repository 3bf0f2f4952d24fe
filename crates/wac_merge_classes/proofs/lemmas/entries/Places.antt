-- What one more item binds, behind what was known.
use Rattle.std.proofs.Common.{◌≡◌, ℕ, zero, suc, ◌<◌, arith, nat_eq, Bool, true, false, not, cond, ◌&&◌, ◌==◌, List, [], ◌∷◌, ◌++◌, length, map, filter, take, slice_get, Option, Some, None, is_some, is_none, refl, sym, ap, ◌∙◌, subst, inl, inr}
use Rattle.std.specs.Borrow.{Bor}
use Rattle.std.specs.List.{AllByRecursion}
use Rattle.std.specs.Map.{lookup}
use Rattle.std.specs.Option.{option_map, option_copied}
use Rattle.std.specs.Prelude.{string_bytes}
use Rattle.std.specs.declared.string.String.{String}
use Rattle.std.proofs.lemmas.List.{map-append}
use Rattle.std.proofs.lemmas.Bool.{cases_Bool, eqb-true, ltb-true, false≢true, and_parts as both}
use Rattle.std.proofs.lemmas.List.Elements.{filter-append}
use Rattle.wac_types_shapes.specs.primitives.Name.{Name, same_name, find_name, option_case, first_some}
use Rattle.wac_types_shapes.specs.primitives.Tree.{Side, named, Leaf}
use Rattle.wac_types_collection.specs.collection.Collection.{Collection, IsBefore, IsWellFormed, holds_all, holds_type, item_at, kind_types, used_types}
use Rattle.wac_types_shapes.specs.shapes.Kinds.{kind_type}
use Rattle.wac_types_collection.specs.collection.Held.{Names}
use Rattle.wac_types_collection.specs.collection.Bound.{is_alias, lists_own, own_name, bound_by, bound_in_order, lists_type, first_bound}
use Rattle.wac_types_collection.specs.declared.collection.collection.Held.{Held}
use Rattle.wac_types_shapes.specs.declared.shapes.component.ResourceId.{ResourceId}
use Rattle.wac_types_shapes.specs.declared.shapes.component.Interface.{Interface}
use Rattle.wac_types_shapes.specs.declared.shapes.component.InterfaceId.{InterfaceId}
use Rattle.wac_types_shapes.specs.declared.shapes.component.WorldId.{WorldId}
use Rattle.wac_types_shapes.specs.declared.shapes.component.World.{World}
use Rattle.wac_types_shapes.specs.declared.shapes.component.UsedType.{UsedType}
use Rattle.wac_types_shapes.specs.declared.shapes.component.«Type».TheVariants as ty
use Rattle.wac_types_shapes.specs.declared.shapes.component.ItemKind.{ItemKind}
use Rattle.wac_types_shapes.specs.declared.shapes.component.ItemKind.TheVariants as kind
use Rattle.wac_types_collection.proofs.lemmas.collection.Growth.{all_within}
use Rattle.wac_types_shapes.proofs.lemmas.shapes.Names.{take_at}
use Rattle.wac_types_collection.specs.subtyping.CalledViews.{path_view}
use Rattle.wac_merge_classes.specs.entries.Places.{Adds, bound_by_instance, find_resource, given_path, leaf_at, only, own_at, own_resource, under}

-- ---- what is known, and more behind it

pub first-none : {A : Type 0} (o : Option A) → first_some o None ≡ o
first-none None = refl
first-none (Some a) = refl

pub first-assoc : {A : Type 0} (o p q : Option A) → first_some (first_some o p) q ≡ first_some o (first_some p q)
first-assoc None p q = refl
first-assoc (Some a) p q = refl

-- nothing comes behind
pub adds-nothing : {A : Type 0} (m : List (ResourceId × A)) (more : Names A) → ((r : ResourceId) → more r ≡ None) → Adds m more m
adds-nothing m more none r = sym (ap (first_some (find_resource m r)) (none r) ∙ first-none (find_resource m r))

-- one after another
pub adds-then : {A : Type 0} (a b d : List (ResourceId × A)) (f g : Names A) → Adds a f b → Adds b g d → Adds a (λ r. first_some (f r) (g r)) d
adds-then a b d f g x y r = y r ∙ ap (λ o. first_some o (g r)) (x r) ∙ first-assoc (find_resource a r) (f r) (g r)

-- the same comes behind
pub adds-same : {A : Type 0} (a b : List (ResourceId × A)) (f g : Names A) → ((r : ResourceId) → f r ≡ g r) → Adds a f b → Adds a g b
adds-same a b f g same x r = x r ∙ ap (first_some (find_resource a r)) (same r)

-- ---- one resource in a map

same_id : (q r : ResourceId) → nat_eq q.0 r.0 ≡ true → q ≡ r
same_id q r e = rw (eqb-true q.0 r.0 e) refl

known : {A : Type 0} (o p : Option A) → is_some o ≡ true → o ≡ first_some o p
known None p e = absurd (false≢true e)
known (Some x) p e = refl

missing : {A : Type 0} (o : Option A) → is_some o ≡ false → o ≡ None
missing None e = refl
missing (Some x) e = absurd (false≢true (sym e))

-- a resource that is there
pub only-there : {A : Type 0} (m : List (ResourceId × A)) (q : ResourceId) (a : A) → is_some (find_resource m q) ≡ true → Adds m (only q a) m
only-there m q a there r = elim (cases_Bool (nat_eq q.0 r.0)) [
  | inl t ↦ known (find_resource m r) (only q a r) (ap (λ x. is_some (find_resource m x)) (sym (same_id q r t)) ∙ there)
  | inr f ↦ sym (ap (λ b. first_some (find_resource m r) (cond b (Some a) None)) f ∙ first-none (find_resource m r))
]

-- a new one
pub only-new : {A : Type 0} (old new : List (ResourceId × A)) (q : ResourceId) (a : A) → is_some (find_resource old q) ≡ false
    → ((r : ResourceId) → find_resource new r ≡ cond (nat_eq q.0 r.0) (Some a) (find_resource old r)) → Adds old (only q a) new
only-new old new q a none put r = elim (cases_Bool (nat_eq q.0 r.0)) [
  | inl t ↦
      put r ∙ ap (λ b. cond b (Some a) (find_resource old r)) t
      ∙ sym (ap (λ o. first_some o (only q a r)) (missing (find_resource old r) (ap (λ x. is_some (find_resource old x)) (sym (same_id q r t)) ∙ none)) ∙ ap (λ b. cond b (Some a) None) t)
  | inr f ↦
      put r ∙ ap (λ b. cond b (Some a) (find_resource old r)) f
      ∙ sym (ap (λ b. first_some (find_resource old r) (cond b (Some a) None)) f ∙ first-none (find_resource old r))
]

-- what a map finds
pub find-lookup : {A V : Type 0} (view : V → A) (es : List (ResourceId × V)) (r : ResourceId)
    → find_resource (map (λ e. (e.0, view e.1)) es) r ≡ option_map view (lookup (λ q. nat_eq r.0 q.0) es)
find-lookup view [] r = refl
find-lookup view (e ∷ es) r = by (nat_eq r.0 e.0.0) (find-lookup view es r) where
  by : (b : Bool) → find_resource (map (λ e. (e.0, view e.1)) es) r ≡ option_map view (lookup (λ q. nat_eq r.0 q.0) es)
      → cond b (Some (view e.1)) (find_resource (map (λ e. (e.0, view e.1)) es) r) ≡ option_map view (cond b (Some e.1) (lookup (λ q. nat_eq r.0 q.0) es))
  by true h = refl
  by false h = h

map-some : {A V : Type 0} (view : V → A) (o : Option V) → is_some (option_map view o) ≡ is_some o
map-some view None = refl
map-some view (Some v) = refl

-- whether a map finds something
pub find-some : {A V : Type 0} (view : V → A) (es : List (ResourceId × V)) (m : List (ResourceId × A)) (r : ResourceId) (b : Bool) → map (λ e. (e.0, view e.1)) es ≡ m
    → b ≡ is_some (lookup (λ q. nat_eq r.0 q.0) es) → is_some (find_resource m r) ≡ b
find-some view es m r b is found = ap (λ x. is_some (find_resource x r)) (sym is) ∙ ap is_some (find-lookup view es r) ∙ map-some view (lookup (λ q. nat_eq r.0 q.0) es) ∙ sym found

map-cond : {A V : Type 0} (view : V → A) (b : Bool) (v : V) (o : Option V) → option_map view (cond b (Some v) o) ≡ cond b (Some (view v)) (option_map view o)
map-cond view true v o = refl
map-cond view false v o = refl

-- a map in which a resource has a value
pub find-put : {A V : Type 0} (view : V → A) (old new : List (ResourceId × V)) (q : ResourceId) (v : V)
    → ((r : ResourceId) → lookup (λ p. nat_eq r.0 p.0) new ≡ cond (nat_eq q.0 r.0) (Some v) (lookup (λ p. nat_eq r.0 p.0) old))
    → (r : ResourceId) → find_resource (map (λ e. (e.0, view e.1)) new) r ≡ cond (nat_eq q.0 r.0) (Some (view v)) (find_resource (map (λ e. (e.0, view e.1)) old) r)
find-put view old new q v put r =
    find-lookup view new r ∙ ap (option_map view) (put r) ∙ map-cond view (nat_eq q.0 r.0) v (lookup (λ p. nat_eq r.0 p.0) old)
    ∙ ap (cond (nat_eq q.0 r.0) (Some (view v))) (sym (find-lookup view old r))

-- ---- own resources

-- the test that a resource passes where this one is listed
abbrev is_it : Option ResourceId → ResourceId → Bool
is_it None r = false
is_it (Some q) r = q.0 == r.0

nothing : (b : Bool) → ◌≡◌ {A = Option ResourceId} (cond b None None) None
nothing true = refl
nothing false = refl

module _ (c : Collection) (uses : List (Name × UsedType)) where
  -- what an item lists as its own
  lists : (n : Name) (q r : ResourceId) (o : Option UsedType) (b : Bool) → ((q.0 == r.0) && (not b && is_none o)) ≡ is_it (cond (is_some o) None (cond b None (Some q))) r
  lists n q r None true = by (q.0 == r.0) where
    by : (b : Bool) → (b && false) ≡ false
    by true = refl
    by false = refl
  lists n q r None false = by (q.0 == r.0) where
    by : (b : Bool) → (b && true) ≡ b
    by true = refl
    by false = refl
  lists n q r (Some u) b = by (q.0 == r.0) b where
    by : (b d : Bool) → (b && (not d && false)) ≡ false
    by true true = refl
    by true false = refl
    by false d = refl

  other : (n : Name) (r : ResourceId) → false ≡ is_it (cond (is_some (find_name uses n)) None None) r
  other n r = sym (ap (λ o. is_it o r) (nothing (is_some (find_name uses n))))

  own-lists : (e : Name × ItemKind) (r : ResourceId) → lists_own c uses r e ≡ is_it (own_resource c uses e) r
  own-lists (n, kind.TypeItem (ty.Resource q)) r = lists n q r (find_name uses n) (is_alias c q)
  own-lists (n, kind.TypeItem (ty.Func x)) r = other n r
  own-lists (n, kind.TypeItem (ty.Value x)) r = other n r
  own-lists (n, kind.TypeItem (ty.Interface x)) r = other n r
  own-lists (n, kind.TypeItem (ty.World x)) r = other n r
  own-lists (n, kind.TypeItem (ty.Module x)) r = other n r
  own-lists (n, kind.Func x) r = other n r
  own-lists (n, kind.Instance x) r = other n r
  own-lists (n, kind.Component x) r = other n r
  own-lists (n, kind.Module x) r = other n r
  own-lists (n, kind.Value x) r = other n r

  -- those of some items, then those of others
  own-append : (xs ys : List (Name × ItemKind)) (r : ResourceId) → own_name c uses (xs ++ ys) r ≡ first_some (own_name c uses xs r) (own_name c uses ys r)
  own-append [] ys r = refl
  own-append (x ∷ xs) ys r = by (lists_own c uses r x) (own-append xs ys r) where
    by : (b : Bool) → own_name c uses (xs ++ ys) r ≡ first_some (own_name c uses xs r) (own_name c uses ys r)
        → cond b (Some x.0) (own_name c uses (xs ++ ys) r) ≡ first_some (cond b (Some x.0) (own_name c uses xs r)) (own_name c uses ys r)
    by true h = refl
    by false h = h

  module _ (side : Side) (outer : Option Name) where
    case-append : (o p : Option Name) → option_case (first_some o p) None (λ n. Some (leaf_at side (under outer n)))
        ≡ first_some (option_case o None (λ n. Some (leaf_at side (under outer n)))) (option_case p None (λ n. Some (leaf_at side (under outer n))))
    case-append None p = refl
    case-append (Some n) p = refl

    -- one more item
    pub own-more : (es : List (Name × ItemKind)) (i : ℕ) (e : Name × ItemKind) → slice_get es i ≡ Some e → (r : ResourceId)
        → own_at c uses side outer (take (suc i) es) r ≡ first_some (own_at c uses side outer (take i es) r) (own_at c uses side outer (e ∷ []) r)
    own-more es i e at r =
        ap (λ l. own_at c uses side outer l r) (take_at es i e at)
        ∙ ap (λ o. option_case o None (λ n. Some (leaf_at side (under outer n)))) (own-append (take i es) (e ∷ []) r)
        ∙ case-append (own_name c uses (take i es) r) (own_name c uses (e ∷ []) r)

    -- one item alone
    pub own-one : (e : Name × ItemKind) (o : Option ResourceId) → own_resource c uses e ≡ o → (r : ResourceId)
        → own_at c uses side outer (e ∷ []) r ≡ option_case o None (λ q. only q (leaf_at side (under outer e.0)) r)
    own-one e o is r = ap (λ b. option_case (cond b (Some e.0) None) None (λ n. Some (leaf_at side (under outer n)))) (own-lists e r ∙ ap (λ x. is_it x r) is) ∙ by o where
      by : (o : Option ResourceId) → option_case (cond (is_it o r) (Some e.0) None) None (λ n. Some (leaf_at side (under outer n))) ≡ option_case o None (λ q. only q (leaf_at side (under outer e.0)) r)
      by None = refl
      by (Some q) = last (q.0 == r.0) where
        last : (b : Bool) → option_case (cond b (Some e.0) None) None (λ n. Some (leaf_at side (under outer n))) ≡ cond b (Some (leaf_at side (under outer e.0))) None
        last true = refl
        last false = refl

    -- one more item, of which this is the own resource
    pub own-step : (es : List (Name × ItemKind)) (i : ℕ) (n : Name) (k : ItemKind) (start old new : List (ResourceId × Leaf)) (o : Option ResourceId)
        → slice_get es i ≡ Some (n, k) → own_resource c uses (n, k) ≡ o → Adds start (own_at c uses side outer (take i es)) old
        → Adds old (λ r. option_case o None (λ q. only q (leaf_at side (under outer n)) r)) new → Adds start (own_at c uses side outer (take (suc i) es)) new
    own-step es i n k start old new o at is x y =
        adds-same start new (λ r. first_some (own_at c uses side outer (take i es) r) (option_case o None (λ q. only q (leaf_at side (under outer n)) r))) (own_at c uses side outer (take (suc i) es))
        (λ r. sym (own-more es i (n, k) at r ∙ ap (first_some (own_at c uses side outer (take i es) r)) (own-one (n, k) o is r)))
        (adds-then start old new (own_at c uses side outer (take i es)) (λ r. option_case o None (λ q. only q (leaf_at side (under outer n)) r)) x y)

    -- one more item, which has none
    pub own-stays : (es : List (Name × ItemKind)) (i : ℕ) (n : Name) (k : ItemKind) (start old new : List (ResourceId × Leaf)) (o : Option ResourceId)
        → slice_get es i ≡ Some (n, k) → own_resource c uses (n, k) ≡ o → ((q : ResourceId) → o ≡ Some q → ⊥) → Adds start (own_at c uses side outer (take i es)) old
        → new ≡ old → Adds start (own_at c uses side outer (take (suc i) es)) new
    own-stays es i n k start old new None at is none x same =
        own-step es i n k start old new None at is x (subst (λ (m : List (ResourceId × Leaf)). Adds old (λ r. None) m) (sym same) (adds-nothing old (λ r. None) (λ r. refl)))
    own-stays es i n k start old new (Some q) at is none x same = absurd (none q refl)

-- ---- what the imports or the exports of a world bind

module _ (c : Collection) (uses : List (Name × UsedType)) (side : Side) where
  abbrev pub instances : List (Name × ItemKind) → Names Leaf
  instances es r = bound_in_order c uses side (filter (λ e. not (lists_type e)) es) r

  order-append : (xs ys : List (Name × ItemKind)) (r : ResourceId) → bound_in_order c uses side (xs ++ ys) r ≡ first_some (bound_in_order c uses side xs r) (bound_in_order c uses side ys r)
  order-append [] ys r = refl
  order-append (x ∷ xs) ys r =
      ap (first_some (bound_by c uses side x r)) (order-append xs ys r)
      ∙ sym (first-assoc (bound_by c uses side x r) (bound_in_order c uses side xs r) (bound_in_order c uses side ys r))

  instance-one : (e : Name × ItemKind) (r : ResourceId) → instances (e ∷ []) r ≡ bound_by_instance c side e r
  instance-one (n, kind.TypeItem x) r = refl
  instance-one (n, kind.Func x) r = refl
  instance-one (n, kind.Instance x) r = first-none (bound_by c uses side (n, kind.Instance x) r)
  instance-one (n, kind.Component x) r = refl
  instance-one (n, kind.Module x) r = refl
  instance-one (n, kind.Value x) r = refl

  -- one more item
  pub instances-more : (es : List (Name × ItemKind)) (i : ℕ) (e : Name × ItemKind) → slice_get es i ≡ Some e → (r : ResourceId)
      → instances (take (suc i) es) r ≡ first_some (instances (take i es) r) (bound_by_instance c side e r)
  instances-more es i e at r =
      ap (λ l. instances l r) (take_at es i e at)
      ∙ ap (λ l. bound_in_order c uses side l r) (filter-append (λ x. not (lists_type x)) (take i es) (e ∷ []))
      ∙ order-append (filter (λ x. not (lists_type x)) (take i es)) (filter (λ x. not (lists_type x)) (e ∷ [])) r
      ∙ ap (first_some (instances (take i es) r)) (instance-one e r)

  pub instances-step : (es : List (Name × ItemKind)) (i : ℕ) (e : Name × ItemKind) (start old new : List (ResourceId × Leaf)) → slice_get es i ≡ Some e → Adds start (instances (take i es)) old
      → Adds old (bound_by_instance c side e) new → Adds start (instances (take (suc i) es)) new
  instances-step es i e start old new at x y =
      adds-same start new (λ r. first_some (instances (take i es) r) (bound_by_instance c side e r)) (instances (take (suc i) es)) (λ r. sym (instances-more es i e at r))
      (adds-then start old new (instances (take i es)) (bound_by_instance c side e) x y)

  -- type items bind their own resources
  types-own : (es : List (Name × ItemKind)) (r : ResourceId) → bound_in_order c uses side (filter lists_type es) r ≡ own_at c uses side None es r
  types-own [] r = refl
  types-own ((n, kind.TypeItem t) ∷ es) r = by (lists_own c uses r (n, kind.TypeItem t)) (types-own es r) where
    by : (b : Bool) → bound_in_order c uses side (filter lists_type es) r ≡ own_at c uses side None es r
        → first_some (cond b (Some (leaf_at side (named n ∷ []))) None) (bound_in_order c uses side (filter lists_type es) r)
        ≡ option_case (cond b (Some n) (own_name c uses es r)) None (λ m. Some (leaf_at side (named m ∷ [])))
    by true h = refl
    by false h = h
  types-own ((n, kind.Func x) ∷ es) r = types-own es r
  types-own ((n, kind.Instance x) ∷ es) r = types-own es r
  types-own ((n, kind.Component x) ∷ es) r = types-own es r
  types-own ((n, kind.Module x) ∷ es) r = types-own es r
  types-own ((n, kind.Value x) ∷ es) r = types-own es r

  -- the instances, and then the type items
  pub all-listed : (es : List (Name × ItemKind)) (a b d : List (ResourceId × Leaf)) → Adds a (instances es) b → Adds b (own_at c uses side None es) d → Adds a (first_bound c uses side es) d
  all-listed es a b d x y =
      adds-same a d (λ r. first_some (instances es r) (own_at c uses side None es r)) (first_bound c uses side es)
      (λ r. ap (first_some (instances es r)) (sym (types-own es r))) (adds-then a b d (instances es) (own_at c uses side None es) x y)

-- an instance of an interface with an id
module _ (c : Collection) (side : Side) (n : Name) (k : ItemKind) (i : InterfaceId) (it : Interface) (id : Name) (is : k ≡ kind.Instance i) (at : item_at c.interfaces i.0 ≡ Some it) (has : it.id ≡ Some id) where
  instance-leaves : (r : ResourceId) → bound_by_instance c side (n, k) r ≡ cond (same_name id n) (own_at c it.uses side (Some n) it.exports r) None
  instance-leaves r =
      ap (λ (x : ItemKind). bound_by_instance c side (n, x) r) is
      ∙ ap (λ (x : Option Interface). option_case x None (λ y. option_case y.id None (λ m. cond (same_name m n) (own_at c y.uses side (Some n) y.exports r) None))) at
      ∙ ap (λ (x : Option Name). option_case x None (λ m. cond (same_name m n) (own_at c it.uses side (Some n) it.exports r) None)) has

  -- under its id
  pub instance-under : same_name id n ≡ true → (r : ResourceId) → own_at c it.uses side (Some n) it.exports r ≡ bound_by_instance c side (n, k) r
  instance-under t r = sym (instance-leaves r ∙ ap (λ b. cond b (own_at c it.uses side (Some n) it.exports r) None) t)

  -- under another name
  pub instance-other : same_name id n ≡ false → (r : ResourceId) → bound_by_instance c side (n, k) r ≡ None
  instance-other f r = instance-leaves r ∙ ap (λ b. cond b (own_at c it.uses side (Some n) it.exports r) None) f

-- ---- what is held

-- what an item of a held list is of
pub held_at : (c : Collection) (es : List (Name × ItemKind)) (i : ℕ) (e : Name × ItemKind) → holds_all c (kind_types es) ≡ true → slice_get es i ≡ Some e → holds_type c (kind_type e.1) ≡ true
held_at c [] i e h at = cc at
held_at c (x ∷ es) zero e h at =
    let same : x ≡ e = cc in
    ap (λ (y : Name × ItemKind). holds_type c (kind_type y.1)) (sym same) ∙ (both (holds_type c (kind_type x.1)) (holds_all c (kind_types es)) h).0
held_at c (x ∷ es) (suc i) e h at = held_at c es i e (both (holds_type c (kind_type x.1)) (holds_all c (kind_types es)) h).1 at

-- where no resource is held, held items list none as their own
module _ (c : Collection) (uses : List (Name × UsedType)) (empty : length c.resources ≡ 0) where
  own-nothing : (es : List (Name × ItemKind)) → holds_all c (kind_types es) ≡ true → (r : ResourceId) → own_name c uses es r ≡ None
  own-nothing [] held r = refl
  own-nothing ((n, kind.TypeItem (ty.Resource q)) ∷ es) held r =
      let within : q.0 < length c.resources = ltb-true q.0 (length c.resources) (both (holds_type c (ty.Resource q)) (holds_all c (kind_types es)) held).0 in
      absurd (omega (arith, empty, within))
  own-nothing ((n, kind.TypeItem (ty.Func x)) ∷ es) held r = own-nothing es (both (holds_type c (ty.Func x)) (holds_all c (kind_types es)) held).1 r
  own-nothing ((n, kind.TypeItem (ty.Value x)) ∷ es) held r = own-nothing es (both (holds_type c (ty.Value x)) (holds_all c (kind_types es)) held).1 r
  own-nothing ((n, kind.TypeItem (ty.Interface x)) ∷ es) held r = own-nothing es (both (holds_type c (ty.Interface x)) (holds_all c (kind_types es)) held).1 r
  own-nothing ((n, kind.TypeItem (ty.World x)) ∷ es) held r = own-nothing es (both (holds_type c (ty.World x)) (holds_all c (kind_types es)) held).1 r
  own-nothing ((n, kind.TypeItem (ty.Module x)) ∷ es) held r = own-nothing es (both (holds_type c (ty.Module x)) (holds_all c (kind_types es)) held).1 r
  own-nothing ((n, kind.Func x) ∷ es) held r = own-nothing es (both (holds_type c (kind_type (kind.Func x))) (holds_all c (kind_types es)) held).1 r
  own-nothing ((n, kind.Instance x) ∷ es) held r = own-nothing es (both (holds_type c (kind_type (kind.Instance x))) (holds_all c (kind_types es)) held).1 r
  own-nothing ((n, kind.Component x) ∷ es) held r = own-nothing es (both (holds_type c (kind_type (kind.Component x))) (holds_all c (kind_types es)) held).1 r
  own-nothing ((n, kind.Module x) ∷ es) held r = own-nothing es (both (holds_type c (kind_type (kind.Module x))) (holds_all c (kind_types es)) held).1 r
  own-nothing ((n, kind.Value x) ∷ es) held r = own-nothing es (both (holds_type c (kind_type (kind.Value x))) (holds_all c (kind_types es)) held).1 r

  -- and so nothing comes behind what is known
  pub adds-no-own : (side : Side) (outer : Option Name) (es : List (Name × ItemKind)) (m : List (ResourceId × Leaf)) → holds_all c (kind_types es) ≡ true → Adds m (own_at c uses side outer es) m
  adds-no-own side outer es m held =
      adds-nothing m (own_at c uses side outer es) (λ r. ap (λ o. option_case o None (λ n. Some (leaf_at side (under outer n)))) (own-nothing es held r))

behind : {A : Type 0} (P : A → Type 0) (xs ys : List A) → AllByRecursion P (xs ++ ys) → AllByRecursion P ys
behind P [] ys h = h
behind P (x ∷ xs) ys h = behind P xs ys h.1

before : {A : Type 0} (P : A → Type 0) (xs ys : List A) → AllByRecursion P (xs ++ ys) → AllByRecursion P xs
before P [] ys h = tt
before P (x ∷ xs) ys h = (h.0, before P xs ys h.1)

item-held : {A : Type 0} (xs : List (Held A)) (i : ℕ) (a : A) → item_at xs i ≡ Some a → (h : Held A) × (slice_get xs i ≡ Some h) × (h.item ≡ a)
item-held [] i a e = cc e
item-held (x ∷ xs) zero a e = (x, refl, inner e) where
  inner : Some x.item ≡ Some a → x.item ≡ a
  inner e = cc
item-held (x ∷ xs) (suc i) a e = item-held xs i a e

-- what a held interface and a held world list is held
pub exports_held : (c : Collection) → IsWellFormed c → (i : InterfaceId) (it : Interface) → item_at c.interfaces i.0 ≡ Some it → holds_all c (kind_types it.exports) ≡ true
exports_held c wf i it at =
    let w = item-held c.interfaces i.0 it at in
    let h = (wf.interfaces i.0 w.0 w.1).1 in
    subst (λ (x : Interface). holds_all c (kind_types x.exports) ≡ true) w.2
    (all_within c (w.0).before (kind_types (w.0).item.exports) (behind (IsBefore c (w.0).before) (used_types (w.0).item.uses) (kind_types (w.0).item.exports) h))

-- and so are the interfaces from which a held interface uses types
pub uses_held : (c : Collection) → IsWellFormed c → (i : InterfaceId) (it : Interface) → item_at c.interfaces i.0 ≡ Some it → holds_all c (used_types it.uses) ≡ true
uses_held c wf i it at =
    let w = item-held c.interfaces i.0 it at in
    let h = (wf.interfaces i.0 w.0 w.1).1 in
    subst (λ (x : Interface). holds_all c (used_types x.uses) ≡ true) w.2
    (all_within c (w.0).before (used_types (w.0).item.uses) (before (IsBefore c (w.0).before) (used_types (w.0).item.uses) (kind_types (w.0).item.exports) h))

module _ (c : Collection) (wf : IsWellFormed c) (i : WorldId) (world : World) (at : item_at c.worlds i.0 ≡ Some world) where
  pub imports_held : holds_all c (kind_types world.imports) ≡ true
  imports_held =
      let w = item-held c.worlds i.0 world at in
      let x = (w.0).item in
      let h = (wf.worlds i.0 w.0 w.1).1 in
      let rest = behind (IsBefore c (w.0).before) (used_types x.uses) (kind_types x.imports ++ kind_types x.exports) h in
      subst (λ (x : World). holds_all c (kind_types x.imports) ≡ true) w.2 (all_within c (w.0).before (kind_types x.imports) (before (IsBefore c (w.0).before) (kind_types x.imports) (kind_types x.exports) rest))

  pub world_exports_held : holds_all c (kind_types world.exports) ≡ true
  world_exports_held =
      let w = item-held c.worlds i.0 world at in
      let x = (w.0).item in
      let h = (wf.worlds i.0 w.0 w.1).1 in
      let rest = behind (IsBefore c (w.0).before) (used_types x.uses) (kind_types x.imports ++ kind_types x.exports) h in
      subst (λ (x : World). holds_all c (kind_types x.exports) ≡ true) w.2 (all_within c (w.0).before (kind_types x.exports) (behind (IsBefore c (w.0).before) (kind_types x.imports) (kind_types x.exports) rest))

-- ---- paths

pub path-more : {B : Type 0} (path : List (String B)) (names : List (Bor (List ℕ))) (i : ℕ) (s : String B) (n : Bor (List ℕ)) → path_view path ≡ given_path (take i names) → slice_get names i ≡ Some n
    → string_bytes s ≡ n.now → path_view (path ++ s ∷ []) ≡ given_path (take (suc i) names)
path-more path names i s n known at text =
    map-append (λ (x : String _). named (string_bytes x)) path (s ∷ [])
    ∙ (λ j. known j ++ named (text j) ∷ [])
    ∙ sym (ap given_path (take_at names i n at) ∙ map-append (λ (x : Bor (List ℕ)). named x.now) (take i names) (n ∷ []))

-- what a borrowed answer stands for
pub map-copied : {A V : Type 0} (view : V → A) (o : Option (Bor V)) → option_map (λ p. view p.now) o ≡ option_map view (option_copied o)
map-copied view None = refl
map-copied view (Some v) = refl
