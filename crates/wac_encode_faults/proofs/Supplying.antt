-- Which items bind and supply, against their numbers.
use Rattle.std.proofs.Common.{ℕ, ◌+◌, Bool, true, false, if◌then◌else◌, List, [], ◌∷◌, length, Contains, Option, Some, None, ◌≡◌, ◌⊎◌, ◌↔◌, inl, inr, refl, ap, sym, ◌∙◌, subst, arith, slice_get}
use Rattle.std.specs.Prelude.{IsSome}
use Rattle.std.specs.List.{list_any}
use Rattle.std.proofs.lemmas.List.{take-append-drop}
use Rattle.wac_types_shapes.specs.primitives.Name.{Name, same_name}
use Rattle.wac_types_shapes.specs.primitives.Tree.{Side, imported, exported, Leaf, Place, named}
use Rattle.wac_types_shapes.specs.shapes.Named.{NoNameTwice}
use Rattle.wac_types_shapes.specs.declared.shapes.component.InterfaceId.{InterfaceId}
use Rattle.wac_types_shapes.specs.declared.shapes.component.ItemKind.{ItemKind}
use Rattle.wac_types_shapes.specs.declared.shapes.component.ItemKind.TheVariants as kind
use Rattle.wac_types_shapes.specs.declared.shapes.component.ResourceId.{ResourceId}
use Rattle.wac_types_shapes.specs.declared.shapes.component.UsedType.{UsedType}
use Rattle.wac_types_collection.specs.collection.Collection.{Collection}
use Rattle.wac_types_collection.specs.collection.Bound.{Bindings, first_bound}
use Rattle.wac_types_collection.proofs.lemmas.wide.Members.{in_none, in_one, at_in, in_at, flat_in, in_flat}
use Rattle.wac_encode_faults.specs.Cycle.{numbered_items, IsListedAs, Supplies, as_import, as_export, IsBindingOf, owner_of, IsOwner, AreOwners}
use Rattle.wac_encode_faults.specs.Free.{SideItem}
use Rattle.wac_encode_faults.specs.Sides.{Sides, all_imports, listed_interface, listed_interfaces, side_bindings, import_bindings, export_bindings, parted_sides, under_id}
use Rattle.wac_encode_faults.specs.private.Owners.{bound_then, AddsSideOwners, AddsSuppliers, IsListedTo}
use Rattle.wac_encode_faults.specs.private.Search.{IsIdOf}
use Rattle.wac_encode_faults.specs.private.Sets.{value_of}
use Rattle.wac_encode_faults.proofs.Dependencies.{id_law}
use Rattle.wac_encode_faults.proofs.Numbered.{one_value, within_list, one_place, import_item, export_item, numbers, import_at, export_at, one_number, numbered_imports, numbered_exports, all_numbered}
use Rattle.wac_encode_faults.proofs.Owning.{owners_as}

-- ---- a binding is of one item
-- The item of this side and name.
abbrev item_of : Side → Name → SideItem
item_of a n = record { side = a; name = n }

pub one_binding : (x y : SideItem) (l : Leaf) → IsBindingOf x l → IsBindingOf y l → x ≡ y
one_binding x y l (side, rest, path) (other, more, place) = λ i. item_of ((sym side ∙ other) i) (inner x.name y.name rest more (sym path ∙ place) i)
  where
    inner : (m n : Name) (p q : List Place) → named m ∷ p ≡ named n ∷ q → m ≡ n
    inner m n p q h = cc

-- ---- an interface that is listed under its id
listed_id : (c : Collection) (n : Name) (i j : InterfaceId) → Contains (listed_interface c (n, kind.Instance i)) j → (j ≡ i) × IsIdOf c n i
listed_id c n i j h = by (list_any (λ (e : Name × ItemKind). same_name n e.0) (under_id c i)) refl h
  where
    by : (b : Bool) → list_any (λ (e : Name × ItemKind). same_name n e.0) (under_id c i) ≡ b → Contains (if b then i ∷ [] else []) j → (j ≡ i) × IsIdOf c n i
    by true is h = (in_one i j h, (id_law c n i).1 is)
    by false is h = absurd (in_none j h)

pub listed_kind : (c : Collection) (e : Name × ItemKind) (j : InterfaceId) → Contains (listed_interface c e) j → e.1 ≡ kind.Instance j
listed_kind c (n, kind.Instance i) j h = ap kind.Instance (sym (listed_id c n i j h).0)
listed_kind c (n, kind.TypeItem t) j h = absurd (in_none j h)
listed_kind c (n, kind.Func f) j h = absurd (in_none j h)
listed_kind c (n, kind.Component w) j h = absurd (in_none j h)
listed_kind c (n, kind.Module m) j h = absurd (in_none j h)
listed_kind c (n, kind.Value v) j h = absurd (in_none j h)

one_name : (c : Collection) (m n : Name) (j : InterfaceId) → Contains (listed_interface c (m, kind.Instance j)) j → Contains (listed_interface c (n, kind.Instance j)) j → m ≡ n
one_name c m n j first second = inner (sym (listed_id c m j j first).1 ∙ (listed_id c n j j second).1)
  where
    inner : Some m ≡ Some n → m ≡ n
    inner e = cc

-- an item that lists an interface is its instance under its id
as_listed : (c : Collection) (items : List (Name × ItemKind)) (e : Name × ItemKind) (j : InterfaceId) → Contains items e → Contains (listed_interface c e) j → IsListedAs c items e.0 j
as_listed c items e j there h =
    let is = listed_kind c e j h in (
      subst (λ (k : ItemKind). Contains items (e.0, k)) is there,
      subst (λ (k : ItemKind). Contains (listed_interface c (e.0, k)) j) is h,
    )

-- ---- the numbers of those that supply
module _ (c : Collection) (first : ℕ) (items : List (Name × ItemKind)) (once : NoNameTwice items) (old now : List (InterfaceId × ℕ)) (adds : AddsSuppliers c first items old now) where
  -- of one that is listed
  listed_number : (i : ℕ) (n : Name) (j : InterfaceId) → slice_get items i ≡ Some (n, kind.Instance j) → Contains (listed_interface c (n, kind.Instance j)) j → value_of old j ≡ None → value_of now j ≡ Some (first + i)
  listed_number i n j at h none = by (value_of now j) refl (adds.noted j (first + i) (i, (n, kind.Instance j), within_list items i (n, kind.Instance j) at, at, h, refl))
    where
      same : (m : ℕ) → IsListedTo c first items (length items) j m → m ≡ first + i
      same m (k, e, low, there, g, is) =
          let kept = listed_kind c e j g in
          let named_as : e.0 ≡ n = one_name c e.0 n j (subst (λ (z : ItemKind). Contains (listed_interface c (e.0, z)) j) kept g) h in
          is ∙ ap (λ (p : ℕ). first + p) (one_place items once k i e (n, kind.Instance j) there at named_as)

      by : (o : Option ℕ) → value_of now j ≡ o → IsSome (value_of now j) → value_of now j ≡ Some (first + i)
      by None is some = let wrong : false ≡ true = subst IsSome is some in cc
      by (Some m) is some = elim (adds.sound j m is) [
        | inl w ↦ let wrong : None ≡ Some m = sym none ∙ w in cc
        | inr w ↦ is ∙ ap Some (same m w.1)
      ]

  -- one that has a number had it, or is listed there
  number_listed : (j : InterfaceId) (b : ℕ) → value_of now j ≡ Some b
      → (value_of old j ≡ Some b) ⊎ ((i : ℕ) × (e : Name × ItemKind) × (value_of old j ≡ None) × (slice_get items i ≡ Some e) × Contains (listed_interface c e) j × (b ≡ first + i))
  number_listed j b h = elim (adds.sound j b h) [
    | inl w ↦ inl w
    | inr w ↦ let (i, e, low, at, g, is) = w.1 in inr (i, e, w.0, at, g, is)
  ]

supply_parts : (c : Collection) (s : Sides) (side : Side) (y : SideItem) (j : InterfaceId) → Supplies c s side y j
    → ((n : Name) × (y ≡ item_of imported n) × IsListedAs c (all_imports s) n j)
    ⊎ ((n : Name) × (side ≡ exported) × (y ≡ item_of exported n) × IsListedAs c s.exports n j × (Contains (listed_interfaces c (all_imports s)) j → ⊥))
supply_parts c s _ _ _ (as_import side n i listed) = inl (n, refl, listed)
supply_parts c s _ _ _ (as_export n i listed other) = inr (n, refl, refl, listed, other)

module _ (c : Collection) (uses : List (Name × UsedType)) (own : ℕ) (imports exports : List (Name × ItemKind)) where
  abbrev s : Sides
  s = parted_sides uses own imports exports

  abbrev all : List SideItem
  all = numbers imports exports

  -- The map has the numbers of the items that supply a side.
  abbrev pub AreSupplied : Side → List (InterfaceId × ℕ) → Type 0
  AreSupplied side suppliers = (j : InterfaceId) (b : ℕ) → (value_of suppliers j ≡ Some b) ↔ ((y : SideItem) × (slice_get all b ≡ Some y) × Supplies c s side y j)

  -- The map has the numbers of the items that bind for a side.
  abbrev pub AreBoundAt : Side → List (ResourceId × ℕ) → Type 0
  AreBoundAt side owners = (r : ResourceId) (b : ℕ) → (owner_of owners r ≡ Some b) ↔ ((y : SideItem) × (l : Leaf) × (slice_get all b ≡ Some y) × (side_bindings c s side r ≡ Some l) × IsBindingOf y l)

  -- ---- owners
  import_owners : (start owners : List (ResourceId × ℕ)) → start ≡ [] → AddsSideOwners c uses 0 imports start owners → AreOwners all (import_bindings c s) owners
  import_owners start owners none adds =
      owners_as all (bound_then (λ r. None) (first_bound c uses imported imports)) (import_bindings c s) owners (λ r. ap (λ l. first_bound c uses imported l r) (sym (take-append-drop own imports)))
      (adds all imported (λ r. None) (numbered_imports imports exports) (λ r. subst (λ l. IsOwner all (owner_of l r) None) (sym none) refl))

  export_owners : (old owners : List (ResourceId × ℕ)) → AddsSideOwners c uses (length imports) exports old owners → AreOwners all (import_bindings c s) old → AreOwners all (export_bindings c s) owners
  export_owners old owners adds owned =
      owners_as all (bound_then (import_bindings c s) (first_bound c uses exported exports)) (export_bindings c s) owners (λ r. refl)
      (adds all exported (import_bindings c s) (numbered_exports imports exports) owned)

  pub numbered_owners : (start mid owners : List (ResourceId × ℕ)) → start ≡ [] → AddsSideOwners c uses 0 imports start mid → AddsSideOwners c uses (length imports) exports mid owners → AreOwners (numbered_items s) (export_bindings c s) owners
  numbered_owners start mid owners none first second =
      subst (λ l. AreOwners l (export_bindings c s) owners) (sym (all_numbered imports exports uses own)) (export_owners mid owners second (import_owners start mid none first))

  module _ (imports_once : NoNameTwice imports) (exports_once : NoNameTwice exports) where
    unique : (a b : ℕ) (x : SideItem) → slice_get all a ≡ Some x → slice_get all b ≡ Some x → a ≡ b
    unique = one_number imports exports imports_once exports_once

    owned_at : (m : Bindings) (owners : List (ResourceId × ℕ)) → AreOwners all m owners → (r : ResourceId) (b : ℕ)
        → (owner_of owners r ≡ Some b) ↔ ((y : SideItem) × (l : Leaf) × (slice_get all b ≡ Some y) × (m r ≡ Some l) × IsBindingOf y l)
    owned_at m owners owned r b = (to, from)
      where
        to : owner_of owners r ≡ Some b → (y : SideItem) × (l : Leaf) × (slice_get all b ≡ Some y) × (m r ≡ Some l) × IsBindingOf y l
        to h = let (l, y, bound, at, binding) = subst (λ o. IsOwner all o (m r)) h (owned r) in (y, l, at, bound, binding)

        from : (y : SideItem) × (l : Leaf) × (slice_get all b ≡ Some y) × (m r ≡ Some l) × IsBindingOf y l → owner_of owners r ≡ Some b
        from (y, l, at, bound, binding) = by (owner_of owners r) refl (owned r)
          where
            by : (o : Option ℕ) → owner_of owners r ≡ o → IsOwner all (owner_of owners r) (m r) → owner_of owners r ≡ Some b
            by None is owner = let wrong : None ≡ Some l = sym (subst (λ o. IsOwner all o (m r)) is owner) ∙ bound in cc
            by (Some n) is owner =
                let (k, x, there, here, other) = subst (λ o. IsOwner all o (m r)) is owner in
                let same : x ≡ y = one_binding x y l (subst (IsBindingOf x) (one_value (m r) k l there bound) other) binding in
                is ∙ ap Some (unique n b y (subst (λ z. slice_get all n ≡ Some z) same here) at)

    pub imports_bound : (start owners : List (ResourceId × ℕ)) → start ≡ [] → AddsSideOwners c uses 0 imports start owners → AreBoundAt imported owners
    imports_bound start owners none adds = owned_at (import_bindings c s) owners (import_owners start owners none adds)

    pub exports_bound : (start old owners : List (ResourceId × ℕ)) → start ≡ [] → AddsSideOwners c uses 0 imports start old → AddsSideOwners c uses (length imports) exports old owners → AreBoundAt exported owners
    exports_bound start old owners none first adds = owned_at (export_bindings c s) owners (export_owners old owners adds (import_owners start old none first))

    -- ---- suppliers
    module _ (start suppliers : List (InterfaceId × ℕ)) (none : start ≡ []) (adds : AddsSuppliers c 0 imports start suppliers) where
      begun : (j : InterfaceId) → value_of start j ≡ None
      begun j = ap (λ l. value_of l j) none

      plain : (i : ℕ) → 0 + i ≡ i
      plain i = omega arith

      supplied_import : (j : InterfaceId) (b : ℕ) → value_of suppliers j ≡ Some b → (e : Name × ItemKind) × (slice_get imports b ≡ Some e) × Contains (listed_interface c e) j
      supplied_import j b h = elim (number_listed c 0 imports imports_once start suppliers adds j b h) [
        | inl w ↦ let wrong : None ≡ Some b = sym (begun j) ∙ w in cc
        | inr w ↦ (w.1, subst (λ (n : ℕ). slice_get imports n ≡ Some w.1) (sym (w.5 ∙ plain w.0)) w.3, w.4)
      ]

      import_supplied : (j : InterfaceId) (n : Name) (b : ℕ) → IsListedAs c imports n j → slice_get all b ≡ Some (item_of imported n) → value_of suppliers j ≡ Some b
      import_supplied j n b (there, h) at =
          let (i, low, here) = in_at imports (n, kind.Instance j) there in
          let same : i ≡ b = unique i b (item_of imported n) (import_at imports exports i (n, kind.Instance j) here) at in
          listed_number c 0 imports imports_once start suppliers adds i n j here h (begun j) ∙ ap Some (plain i ∙ same)

      whole : all_imports s ≡ imports
      whole = take-append-drop own imports

      pub imports_supplied : AreSupplied imported suppliers
      imports_supplied j b = (to, from)
        where
          to : value_of suppliers j ≡ Some b → (y : SideItem) × (slice_get all b ≡ Some y) × Supplies c s imported y j
          to h =
              let (e, at, g) = supplied_import j b h in
              (import_item e, import_at imports exports b e at, as_import imported e.0 j (subst (λ l. IsListedAs c l e.0 j) (sym whole) (as_listed c imports e j (at_in imports b e at) g)))

          from : (y : SideItem) × (slice_get all b ≡ Some y) × Supplies c s imported y j → value_of suppliers j ≡ Some b
          from (y, at, supplies) = elim (supply_parts c s imported y j supplies) [
            | inl w ↦ import_supplied j w.0 b (subst (λ l. IsListedAs c l w.0 j) whole w.2) (subst (λ z. slice_get all b ≡ Some z) w.1 at)
            | inr w ↦ absurd (sides_apart w.1)
          ]
            where
              sides_apart : imported ≡ exported → ⊥
              sides_apart e = cc

      module _ (now : List (InterfaceId × ℕ)) (more : AddsSuppliers c (length imports) exports suppliers now) where
        -- an interface that an import lists has a number
        import_numbered : (j : InterfaceId) → Contains (listed_interfaces c (all_imports s)) j → value_of suppliers j ≡ None → ⊥
        import_numbered j h empty =
            let (e, there, g) = flat_in (listed_interface c) imports j (subst (λ l. Contains (listed_interfaces c l) j) whole h) in
            let (i, low, at) = in_at imports e there in
            let listed = as_listed c imports e j there g in
            let wrong : None ≡ Some i = sym empty ∙ import_supplied j e.0 i listed (import_at imports exports i e at) in
            cc

        not_numbered : (j : InterfaceId) → (Contains (listed_interfaces c (all_imports s)) j → ⊥) → value_of suppliers j ≡ None
        not_numbered j other = by (value_of suppliers j) refl
          where
            by : (o : Option ℕ) → value_of suppliers j ≡ o → value_of suppliers j ≡ None
            by None is = is
            by (Some m) is =
                let (e, at, g) = supplied_import j m is in
                absurd (other (subst (λ l. Contains (listed_interfaces c l) j) (sym whole) (in_flat (listed_interface c) imports e j (at_in imports m e at) g)))

        pub exports_supplied : AreSupplied exported now
        exports_supplied j b = (to, from)
          where
            to : value_of now j ≡ Some b → (y : SideItem) × (slice_get all b ≡ Some y) × Supplies c s exported y j
            to h = elim (number_listed c (length imports) exports exports_once suppliers now more j b h) [
              | inl w ↦
                  let (e, at, g) = supplied_import j b w in
                  (import_item e, import_at imports exports b e at, as_import exported e.0 j (subst (λ l. IsListedAs c l e.0 j) (sym whole) (as_listed c imports e j (at_in imports b e at) g)))
              | inr w ↦ (
                export_item w.1,
                subst (λ (n : ℕ). slice_get all n ≡ Some (export_item w.1)) (sym w.5) (export_at imports exports w.0 w.1 w.3),
                as_export w.1.0 j (as_listed c exports w.1 j (at_in exports w.0 w.1 w.3) w.4) (λ l. import_numbered j l w.2),
              )
            ]

            from : (y : SideItem) × (slice_get all b ≡ Some y) × Supplies c s exported y j → value_of now j ≡ Some b
            from (y, at, supplies) = elim (supply_parts c s exported y j supplies) [
              | inl w ↦ more.kept j b (import_supplied j w.0 b (subst (λ l. IsListedAs c l w.0 j) whole w.2) (subst (λ z. slice_get all b ≡ Some z) w.1 at))
              | inr w ↦ of_export w.0 w.2 w.3 w.4
            ]
              where
                of_export : (n : Name) → y ≡ item_of exported n → IsListedAs c exports n j → (Contains (listed_interfaces c (all_imports s)) j → ⊥) → value_of now j ≡ Some b
                of_export n is (there, h) other =
                    let (i, low, here) = in_at exports (n, kind.Instance j) there in
                    let same : length imports + i ≡ b = unique (length imports + i) b (item_of exported n) (export_at imports exports i (n, kind.Instance j) here) (subst (λ z. slice_get all b ≡ Some z) is at) in
                    listed_number c (length imports) exports exports_once suppliers now more i n j here h (not_numbered j other) ∙ ap Some same
