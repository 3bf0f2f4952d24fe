-- What items of the sides of a component type bind.
use Rattle.std.specs.List.{list_any}
use Rattle.std.proofs.Common.{ℕ, zero, suc, ◌≡◌, ◌&&◌, ◌||◌, Bool, true, false, not, if◌then◌else◌, List, [], ◌∷◌, ◌++◌, filter, Option, Some, None, Contains, refl, ap, sym, ◌∙◌, subst, inl, inr, ◌⊎◌}
use Rattle.std.proofs.Math.Path.{fun_ext}
use Rattle.std.proofs.lemmas.List.Folds.{list_any-append}
use Rattle.wac_types_shapes.specs.primitives.Name.{Name, same_name, find_name, option_case, first_some}
use Rattle.wac_types_shapes.proofs.lemmas.shapes.Names.{same_name-true, same_name-refl}
use Rattle.wac_types_shapes.specs.primitives.Tree.{Side, imported, exported, Place, named, Leaf}
use Rattle.wac_types_shapes.specs.shapes.Named.{NoNameTwice}
use Rattle.wac_types_shapes.proofs.lemmas.shapes.Names.{find_name-at}
use Rattle.wac_types_shapes.specs.declared.shapes.component.ResourceId.{ResourceId}
use Rattle.wac_types_shapes.specs.declared.shapes.component.InterfaceId.{InterfaceId}
use Rattle.wac_types_shapes.specs.declared.shapes.component.Interface.{Interface}
use Rattle.wac_types_shapes.specs.declared.shapes.component.UsedType.{UsedType}
use Rattle.wac_types_shapes.specs.declared.shapes.component.ItemKind.{ItemKind}
use Rattle.wac_types_shapes.specs.declared.shapes.component.ItemKind.TheVariants as kind
use Rattle.wac_types_shapes.specs.declared.shapes.component.«Type».{«Type» as AnyType}
use Rattle.wac_types_collection.specs.collection.Collection.{Collection, item_at}
use Rattle.wac_types_collection.specs.collection.Bound.{Bindings, lists_own, lists_type, own_name, bound_by, bound_in_order, first_bound, same_side}
use Rattle.wac_types_collection.proofs.lemmas.wide.Members.{in_first, in_rest, in_none, in_parts, in_left, in_right, in_at}
use Rattle.wac_encode_faults.specs.Sides.{Sides, all_imports, import_bindings, export_bindings, side_bindings}
use Rattle.wac_encode_faults.specs.Free.{SideItem, IsFreeInItem}
use Rattle.wac_encode_faults.specs.Faults.{unbound}
use Rattle.wac_encode_faults.specs.declared.fault.WriteFault.TheVariants as fault
use Rattle.wac_encode_faults.specs.Cycle.{IsBindingOf, ItemDependsOn, by_resource}
use Rattle.wac_encode_interfaces.specs.private.Ready.{AreSidesClean}
use Rattle.wac_encode_interfaces.specs.private.Written.{side_item, begins_with, is_bound_at, bound_so_far, IsItemOf}

pub true-false : {A : Type 0} (b : Bool) → b ≡ true → b ≡ false → A
true-false b t f = let no : true ≡ false = sym t ∙ f in absurd (different no)
  where
    different : true ≡ false → ⊥
    different h = cc

pub no-some : {A : Type 0} (x : A) → None ≡ Some x → ⊥
no-some x h = cc

pub one-some : {A : Type 0} (x y : A) → Some x ≡ Some y → x ≡ y
one-some x y h = cc

-- both of two tests
pub both-true : (a b : Bool) → (a && b) ≡ true → (a ≡ true) × (b ≡ true)
both-true true b h = (refl, h)
both-true false b h = true-false false h refl

pub true-both : (a b : Bool) → a ≡ true → b ≡ true → (a && b) ≡ true
true-both a b h k = ap (λ x. x && b) h ∙ k

pub same-sides : (a b : Side) → same_side a b ≡ true → a ≡ b
same-sides imported imported h = refl
same-sides exported exported h = refl
same-sides imported exported h = true-false false h refl
same-sides exported imported h = true-false false h refl

pub side-itself : (a : Side) → same_side a a ≡ true
side-itself imported = refl
side-itself exported = refl

-- lists

pub any-in : {A : Type 0} (p : A → Bool) (xs : List A) → list_any p xs ≡ true → (x : A) × Contains xs x × (p x ≡ true)
any-in p [] h = true-false false h refl
any-in {A} p (x ∷ xs) h = by (p x) refl h (λ k. any-in p xs k)
  where
    by : (b : Bool) → p x ≡ b → (b || list_any p xs) ≡ true → (list_any p xs ≡ true → (y : A) × Contains xs y × (p y ≡ true)) → (y : A) × Contains (x ∷ xs) y × (p y ≡ true)
    by true is h more = (x, in_first x xs, is)
    by false is h more = let (y, there, at) = more h in (y, in_rest x y xs there, at)

pub in-any : {A : Type 0} (p : A → Bool) (xs : List A) (x : A) → Contains xs x → p x ≡ true → list_any p xs ≡ true
in-any p [] x there h = absurd (in_none x there)
in-any p (y ∷ xs) x there h = elim (in_parts y x xs there) [
  | inl e ↦ ap (λ b. b || list_any p xs) (ap p (sym e) ∙ h)
  | inr w ↦ or-true (p y) (list_any p xs) (in-any p xs x w h)
]
  where
    or-true : (a b : Bool) → b ≡ true → (a || b) ≡ true
    or-true true b k = refl
    or-true false b k = k

in-filter : {A : Type 0} (p : A → Bool) (xs : List A) (x : A) → Contains (filter p xs) x → Contains xs x
in-filter p [] x h = h
in-filter p (y ∷ xs) x h = by (p y) h (λ k. in-filter p xs x k)
  where
    by : (b : Bool) → Contains (if b then y ∷ filter p xs else filter p xs) x → (Contains (filter p xs) x → Contains xs x) → Contains (y ∷ xs) x
    by true h more = elim (in_parts y x (filter p xs) h) [
      | inl e ↦ subst (λ z. Contains (z ∷ xs) x) e (in_first x xs)
      | inr w ↦ in_rest y x xs (more w)
    ]
    by false h more = in_rest y x xs (more h)

-- Where no name is twice, an item is the only one under its name.
pub found-in : {A : Type 0} (es : List (Name × A)) (n : Name) (k : A) → NoNameTwice es → Contains es (n, k) → find_name es n ≡ Some k
found-in es n k once there = let (j, low, at) = in_at es (n, k) there in find_name-at es j n k once at

pub one-kind : {A : Type 0} (es : List (Name × A)) (n : Name) (k j : A) → NoNameTwice es → Contains es (n, k) → Contains es (n, j) → k ≡ j
one-kind es n k j once first second = one-some k j (sym (found-in es n k once first) ∙ found-in es n j once second)

-- bindings that items make

-- An item of these makes the binding.
abbrev Makes : Collection → List (Name × UsedType) → Side → List (Name × ItemKind) → ResourceId → Leaf → Type 0
Makes c uses side es r l = (e : Name × ItemKind) × Contains es e × (bound_by c uses side e r ≡ Some l)

order-makes : (c : Collection) (uses : List (Name × UsedType)) (side : Side) (es : List (Name × ItemKind)) (r : ResourceId) (l : Leaf) → bound_in_order c uses side es r ≡ Some l → Makes c uses side es r l
order-makes c uses side [] r l h = absurd (no-some l h)
order-makes c uses side (e ∷ es) r l h = by (bound_by c uses side e r) refl h (λ k. order-makes c uses side es r l k)
  where
    by : (o : Option Leaf) → bound_by c uses side e r ≡ o → first_some o (bound_in_order c uses side es r) ≡ Some l → (bound_in_order c uses side es r ≡ Some l → Makes c uses side es r l) → Makes c uses side (e ∷ es) r l
    by (Some k) is h more = (e, in_first e es, is ∙ h)
    by None is h more = let (d, there, at) = more h in (d, in_rest e d es there, at)

first-makes : (c : Collection) (uses : List (Name × UsedType)) (side : Side) (es : List (Name × ItemKind)) (r : ResourceId) (l : Leaf) → first_bound c uses side es r ≡ Some l → Makes c uses side es r l
first-makes c uses side es r l h = by (bound_in_order c uses side (filter (λ e. not (lists_type e)) es) r) refl h
  where
    by : (o : Option Leaf) → bound_in_order c uses side (filter (λ e. not (lists_type e)) es) r ≡ o → first_some o (bound_in_order c uses side (filter lists_type es) r) ≡ Some l → Makes c uses side es r l
    by (Some k) is h = let (e, there, at) = order-makes c uses side (filter (λ e. not (lists_type e)) es) r k is in (e, in-filter (λ e. not (lists_type e)) es e there, at ∙ h)
    by None is h = let (e, there, at) = order-makes c uses side (filter lists_type es) r l h in (e, in-filter lists_type es e there, at)

-- The binding of a type item is at the item; that of an instance at an export of it.
abbrev IsPlacedAt : Side → Name → Leaf → Type 0
IsPlacedAt side n l = (l.side ≡ side) × (rest : List Place) × (l.path ≡ named n ∷ rest)

pub type-leaf : (c : Collection) (uses : List (Name × UsedType)) (side : Side) (n : Name) (t : AnyType) (r : ResourceId) (l : Leaf) → bound_by c uses side (n, kind.TypeItem t) r ≡ Some l
    → (lists_own c uses r (n, kind.TypeItem t) ≡ true) × (Some (record { out = 0; side = side; path = named n ∷ [] }) ≡ Some l)
type-leaf c uses side n t r l h = by (lists_own c uses r (n, kind.TypeItem t)) h
  where
    by : (b : Bool) → (if b then Some (record { out = 0; side = side; path = named n ∷ [] }) else None) ≡ Some l → (b ≡ true) × (Some (record { out = 0; side = side; path = named n ∷ [] }) ≡ Some l)
    by true h = (refl, h)
    by false h = absurd (no-some l h)

abbrev export_leaf : Side → Name → Name → Leaf
export_leaf side n q = record { out = 0; side = side; path = named n ∷ named q ∷ [] }

pub instance-leaf : (c : Collection) (uses : List (Name × UsedType)) (side : Side) (n : Name) (i : InterfaceId) (r : ResourceId) (l : Leaf) → bound_by c uses side (n, kind.Instance i) r ≡ Some l
    → (it : Interface) × (item_at c.interfaces i.0 ≡ Some it) × (q : Name) × (own_name c it.uses it.exports r ≡ Some q) × (Some (export_leaf side n q) ≡ Some l)
instance-leaf c uses side n i r l h = by (item_at c.interfaces i.0) refl h
  where
    by-own : (b : Bool) (o : Option Name) → (if b then option_case o None (λ q. Some (export_leaf side n q)) else None) ≡ Some l → (q : Name) × (o ≡ Some q) × (Some (export_leaf side n q) ≡ Some l)
    by-own true (Some q) h = (q, refl, h)
    by-own true None h = absurd (no-some l h)
    by-own false o h = absurd (no-some l h)

    by-id : (d : Option Name) (o : Option Name) → option_case d None (λ id. if same_name id n then option_case o None (λ q. Some (export_leaf side n q)) else None) ≡ Some l → (q : Name) × (o ≡ Some q) × (Some (export_leaf side n q) ≡ Some l)
    by-id None o h = absurd (no-some l h)
    by-id (Some id) o h = by-own (same_name id n) o h

    by : (o : Option Interface) → item_at c.interfaces i.0 ≡ o
        → option_case o None (λ it. option_case it.id None (λ id. if same_name id n then option_case (own_name c it.uses it.exports r) None (λ q. Some (export_leaf side n q)) else None)) ≡ Some l
        → (it : Interface) × (o ≡ Some it) × (q : Name) × (own_name c it.uses it.exports r ≡ Some q) × (Some (export_leaf side n q) ≡ Some l)
    by None is h = absurd (no-some l h)
    by (Some it) is h = let (q, own, leaf) = by-id it.id (own_name c it.uses it.exports r) h in (it, refl, q, own, leaf)

placed : (side : Side) (n : Name) (rest : List Place) (l : Leaf) → Some (record { out = 0; side = side; path = named n ∷ rest }) ≡ Some l → IsPlacedAt side n l
placed side n rest l h =
    let same = one-some (record { out = 0; side = side; path = named n ∷ rest }) l h in
    (ap (λ (x : Leaf). x.side) (sym same), rest, ap (λ (x : Leaf). x.path) (sym same))

bound-placed : (c : Collection) (uses : List (Name × UsedType)) (side : Side) (n : Name) (k : ItemKind) (r : ResourceId) (l : Leaf) → bound_by c uses side (n, k) r ≡ Some l → IsPlacedAt side n l
bound-placed c uses side n (kind.TypeItem t) r l h = placed side n [] l (type-leaf c uses side n t r l h).1
bound-placed c uses side n (kind.Instance i) r l h = let (it, at, q, own, leaf) = instance-leaf c uses side n i r l h in placed side n (named q ∷ []) l leaf
bound-placed c uses side n (kind.Func f) r l h = absurd (no-some l h)
bound-placed c uses side n (kind.Component w) r l h = absurd (no-some l h)
bound-placed c uses side n (kind.Module w) r l h = absurd (no-some l h)
bound-placed c uses side n (kind.Value w) r l h = absurd (no-some l h)

-- the binding is at the item, as a test and as a fact

pub test-binding : (l : Leaf) (x : SideItem) → is_bound_at (Some l) x ≡ true → IsBindingOf x l
test-binding l x h = let (sides, path) = both-true (same_side l.side x.side) (begins_with x.name l.path) h in let (rest, is) = begun l.path path in (same-sides l.side x.side sides, rest, is)
  where
    begun : (p : List Place) → begins_with x.name p ≡ true → (rest : List Place) × (p ≡ named x.name ∷ rest)
    begun [] h = true-false false h refl
    begun (named k ∷ rest) h = (rest, ap (λ (y : Name). named y ∷ rest) (same_name-true k x.name h))
    begun (p ∷ rest) h = true-false false h refl

pub binding-test : (l : Leaf) (x : SideItem) → IsBindingOf x l → is_bound_at (Some l) x ≡ true
binding-test l x h =
    true-both (same_side l.side x.side) (begins_with x.name l.path)
    (ap (λ (a : Side). same_side a x.side) h.0 ∙ side-itself x.side)
    (ap (λ (p : List Place). begins_with x.name p) h.2 ∙ same_name-refl x.name)

-- A binding is at one item.
pub one-item : (l : Leaf) (x y : SideItem) → IsBindingOf x l → IsBindingOf y l → x ≡ y
one-item l x y h k = both (sym h.0 ∙ k.0) (names x.name y.name h.1 k.1 (sym h.2 ∙ k.2))
  where
    names : (a b : Name) (p q : List Place) → named a ∷ p ≡ named b ∷ q → a ≡ b
    names a b p q e = cc

    both : x.side ≡ y.side → x.name ≡ y.name → x ≡ y
    both e f = (λ i. record { side = e i; name = f i })

-- the final bindings

module _ (c : Collection) (s : Sides) where
  -- The items of a side.
  abbrev pub items_of_side : Side → List (Name × ItemKind)
  items_of_side imported = all_imports s
  items_of_side exported = s.exports

  -- The binding is made by an item of this side under this name.
  abbrev IsMadeAt : SideItem → ResourceId → Leaf → Type 0
  IsMadeAt x r l = (e : Name × ItemKind) × Contains (items_of_side x.side) e × (bound_by c s.uses x.side e r ≡ Some l) × (x.name ≡ e.0) × IsBindingOf x l

  pub made-somewhere : (r : ResourceId) (l : Leaf) → export_bindings c s r ≡ Some l → (x : SideItem) × IsMadeAt x r l
  made-somewhere r l h = by (import_bindings c s r) refl h
    where
      by : (o : Option Leaf) → import_bindings c s r ≡ o → first_some o (first_bound c s.uses exported s.exports r) ≡ Some l → (x : SideItem) × IsMadeAt x r l
      by (Some k) is h =
          let (e, there, at) = first-makes c s.uses imported (all_imports s) r k is in
          (side_item imported e.0, (e, there, at ∙ h, refl, bound-placed c s.uses imported e.0 e.1 r l (at ∙ h)))
      by None is h =
          let (e, there, at) = first-makes c s.uses exported s.exports r l h in
          (side_item exported e.0, (e, there, at, refl, bound-placed c s.uses exported e.0 e.1 r l at))

  -- The binding that is at an item is made by it.
  pub made-at : (x : SideItem) (r : ResourceId) → is_bound_at (export_bindings c s r) x ≡ true
      → (e : Name × ItemKind) × Contains (items_of_side x.side) e × (bound_by c s.uses x.side e r ≡ export_bindings c s r) × (x.name ≡ e.0)
  made-at x r h = by (export_bindings c s r) refl h
    where
      by : (o : Option Leaf) → export_bindings c s r ≡ o → is_bound_at o x ≡ true → (e : Name × ItemKind) × Contains (items_of_side x.side) e × (bound_by c s.uses x.side e r ≡ o) × (x.name ≡ e.0)
      by None is h = true-false false h refl
      by (Some l) is h =
          let (y, made) = made-somewhere r l is in
          let (e, there, at, name, binding) = made in
          let same = one-item l y x binding (test-binding l x h) in
          (e, subst (λ (z : SideItem). Contains (items_of_side z.side) e) same there, subst (λ (z : SideItem). bound_by c s.uses z.side e r ≡ Some l) same at, ap (λ (z : SideItem). z.name) (sym same) ∙ name)

  -- an item of a side

  pub item-there : (side : Side) (n : Name) (k : ItemKind) (additional : Bool) → IsItemOf s side n k additional → Contains (items_of_side side) (n, k)
  item-there imported n k false h = in_left s.imports s.additional (n, k) h
  item-there imported n k true h = in_right s.imports s.additional (n, k) h
  item-there exported n k false h = h
  item-there exported n k true h = absurd h

  module _ (imports_once : NoNameTwice (all_imports s)) (exports_once : NoNameTwice s.exports) where
    once-on : (side : Side) → NoNameTwice (items_of_side side)
    once-on imported = imports_once
    once-on exported = exports_once

    pub bound-at : (side : Side) (n : Name) (k : ItemKind) (additional : Bool) (r : ResourceId) → IsItemOf s side n k additional → is_bound_at (export_bindings c s r) (side_item side n) ≡ true → bound_by c s.uses side (n, k) r ≡ export_bindings c s r
    bound-at side n k additional r item h =
        let (e, there, at, name) = made-at (side_item side n) r h in
        let here : Contains (items_of_side side) (n, e.1) = subst (λ (x : Name). Contains (items_of_side side) (x, e.1)) (sym name) there in
        let same = one-kind (items_of_side side) n k e.1 (once-on side) (item-there side n k additional item) here in
        (λ i. bound_by c s.uses side (name i, same i) r) ∙ at

  -- bindings so far

  far-next : (xs : List SideItem) (x : SideItem) (m : Bindings) → ((r : ResourceId) → is_bound_at (export_bindings c s r) x ≡ true → m r ≡ export_bindings c s r)
      → ((r : ResourceId) → is_bound_at (export_bindings c s r) x ≡ false → m r ≡ bound_so_far c s xs r) → (r : ResourceId) → m r ≡ bound_so_far c s (xs ++ x ∷ []) r
  far-next xs x m here there r = by (is_bound_at (export_bindings c s r) x) refl
    where
      or-last : (a b : Bool) → b ≡ true → (a || (b || false)) ≡ true
      or-last true b h = refl
      or-last false b h = ap (λ z. z || false) h

      or-first : (a b : Bool) → b ≡ false → (a || (b || false)) ≡ a
      or-first true b h = refl
      or-first false b h = ap (λ z. z || false) h

      by : (b : Bool) → is_bound_at (export_bindings c s r) x ≡ b → m r ≡ bound_so_far c s (xs ++ x ∷ []) r
      by true is = here r is ∙ sym (ap (λ z. if z then export_bindings c s r else None) (list_any-append (is_bound_at (export_bindings c s r)) xs (x ∷ []) ∙ or-last (list_any (is_bound_at (export_bindings c s r)) xs) (is_bound_at (export_bindings c s r) x) is))
      by false is = there r is ∙ sym (ap (λ z. if z then export_bindings c s r else None) (list_any-append (is_bound_at (export_bindings c s r)) xs (x ∷ []) ∙ or-first (list_any (is_bound_at (export_bindings c s r)) xs) (is_bound_at (export_bindings c s r) x) is))

  -- With one more item, the bindings are these m.
  pub bound-next : (xs : List SideItem) (x : SideItem) (m : Bindings) → ((r : ResourceId) → is_bound_at (export_bindings c s r) x ≡ true → m r ≡ export_bindings c s r)
      → ((r : ResourceId) → is_bound_at (export_bindings c s r) x ≡ false → m r ≡ bound_so_far c s xs r) → m ≡ bound_so_far c s (xs ++ x ∷ [])
  bound-next xs x m here there = fun_ext (far-next xs x m here there)

  -- What a new item binds is not bound yet.
  pub unbound-yet : (xs : List SideItem) (x : SideItem) (r : ResourceId) → (Contains xs x → ⊥) → is_bound_at (export_bindings c s r) x ≡ true → bound_so_far c s xs r ≡ None
  unbound-yet xs x r new h = by (list_any (is_bound_at (export_bindings c s r)) xs) refl
    where
      same-item : (o : Option Leaf) (y : SideItem) → is_bound_at o x ≡ true → is_bound_at o y ≡ true → x ≡ y
      same-item None y a b = true-false false a refl
      same-item (Some l) y a b = one-item l x y (test-binding l x a) (test-binding l y b)

      by : (b : Bool) → list_any (is_bound_at (export_bindings c s r)) xs ≡ b → (if b then export_bindings c s r else None) ≡ None
      by false is = refl
      by true is =
          let (y, there, at) = any-in (is_bound_at (export_bindings c s r)) xs is in
          absurd (new (subst (Contains xs) (sym (same-item (export_bindings c s r) y h at)) there))

  -- what an item depends on is bound

  pub side-final : (side : Side) (r : ResourceId) (l : Leaf) → side_bindings c s side r ≡ Some l → export_bindings c s r ≡ Some l
  side-final imported r l h = ap (λ (o : Option Leaf). first_some o (first_bound c s.uses exported s.exports r)) h
  side-final exported r l h = h

  -- A free resource of the next item that this does not bind itself is bound already, as it is in the end.
  pub bound-before : AreSidesClean c s → (xs : List SideItem) (x : SideItem) → ((y : SideItem) → ItemDependsOn c s x y → Contains xs y) → (r : ResourceId) → IsFreeInItem c s x r → is_bound_at (export_bindings c s r) x ≡ false
      → (l : Leaf) × (bound_so_far c s xs r ≡ Some l) × (side_bindings c s x.side r ≡ Some l)
  bound-before clean xs x after r free not_here = by (side_bindings c s x.side r) refl
    where
      by : (o : Option Leaf) → side_bindings c s x.side r ≡ o → (l : Leaf) × (bound_so_far c s xs r ≡ Some l) × (o ≡ Some l)
      by None is = absurd (clean fault.UnboundResource (unbound (x, r, free, is)))
      by (Some l) is =
          let final = side-final x.side r l is in
          let (y, made) = made-somewhere r l final in
          let (e, there, at, name, binding) = made in
          let test : is_bound_at (export_bindings c s r) y ≡ true = ap (λ (o : Option Leaf). is_bound_at o y) final ∙ binding-test l y binding in
          let other : x ≡ y → ⊥ = (λ same. true-false (is_bound_at (export_bindings c s r) x) (subst (λ (z : SideItem). is_bound_at (export_bindings c s r) z ≡ true) (sym same) test) not_here) in
          let before = after y (by_resource x y r l other free is binding) in
          (l, ap (λ b. if b then export_bindings c s r else None) (in-any (is_bound_at (export_bindings c s r)) xs y before test) ∙ final, refl)

-- The binding of an import is on the side of the imports.
pub imports-bound : (c : Collection) (s : Sides) (r : ResourceId) (l : Leaf) → import_bindings c s r ≡ Some l → l.side ≡ imported
imports-bound c s r l h =
    let (e, there, at) = first-makes c s.uses imported (all_imports s) r l h in
    (bound-placed c s.uses imported e.0 e.1 r l at).0
