-- The faults of component types with additional imports.
use Rattle.std.proofs.Common.{ℕ, ◌+◌, ◌≤◌, Bool, true, false, if◌then◌else◌, is_some, List, [], ◌∷◌, ◌++◌, length, take, Contains, Option, Some, None, IsTrue, ◌≡◌, ◌⊎◌, ◌↔◌, inl, inr, refl, ap, sym, ◌∙◌, subst, slice_get, arith}
use Rattle.std.specs.Option.{option_map}
use Rattle.std.proofs.lemmas.List.{take_all}
use Rattle.wac_types_shapes.specs.primitives.Name.{Name, option_case}
use Rattle.wac_types_shapes.specs.shapes.Kinds.{kind_type}
use Rattle.wac_types_shapes.specs.declared.shapes.component.Interface.{Interface}
use Rattle.wac_types_shapes.specs.declared.shapes.component.InterfaceId.{InterfaceId}
use Rattle.wac_types_shapes.specs.declared.shapes.component.ItemKind.{ItemKind}
use Rattle.wac_types_shapes.specs.declared.shapes.component.ItemKind.TheVariants as kind
use Rattle.wac_types_shapes.specs.declared.shapes.component.ModuleTypeId.{ModuleTypeId}
use Rattle.wac_types_shapes.specs.declared.shapes.component.UsedType.{UsedType}
use Rattle.wac_types_shapes.specs.declared.shapes.component.«Type».{«Type» as AnyType}
use Rattle.wac_types_shapes.specs.declared.shapes.component.«Type».TheVariants as ty
use Rattle.wac_types_collection.specs.collection.Collection.{Collection, IsWellFormed, holds_type, item_at, interface_exports, used_types, kind_types}
use Rattle.wac_types_collection.specs.reach.Reach.{IsIn}
use Rattle.wac_types_collection.specs.private.reach.Found.{with_all}
use Rattle.wac_types_collection.specs.wide.Wide.{AreThere}
use Rattle.wac_types_collection.proofs.lemmas.reach.Lists.{in_right as is_in_right, all_old, all_new, all_only}
use Rattle.wac_types_collection.proofs.lemmas.reach.Reaching.{mentioned_held}
use Rattle.wac_types_collection.proofs.lemmas.wide.Members.{in_none, in_first, in_flat, flat_in}
use Rattle.wac_encode_faults.specs.declared.fault.WriteFault.{WriteFault}
use Rattle.wac_encode_faults.specs.declared.fault.WriteFault.TheVariants as fault
use Rattle.wac_encode_faults.specs.Cycle.{HasItemCycle}
use Rattle.wac_encode_faults.specs.Faults.{fault_rank, IsLowest, IsListed, listed_fault, IsFaultOfListed, IsFaultInside, HasNameTwice, of_import, of_additional, IsSidesFault, unbound, of_items, twice, cycle}
use Rattle.wac_encode_faults.specs.Free.{HasUnboundItem}
use Rattle.wac_encode_faults.specs.Sides.{Sides, under_id}
use Rattle.wac_encode_faults.specs.private.Binding.{sides_with}
use Rattle.wac_encode_faults.specs.private.Roots.{IsFaultInsideOne, IsTypeUnderId, IsTypeOfAdditional, IsFaultOfParts, IsFaultOfNames}
use Rattle.wac_encode_faults.specs.private.Search.{AreHeld, is_scope, scopes_of, lower_of, sides_of}
use Rattle.wac_encode_faults.proofs.Completed.{less_true}
use Rattle.wac_encode_faults.proofs.Dependencies.{second_at, in_kinds}
use Rattle.wac_encode_faults.proofs.Listing.{fault_of_both, listed_left, listed_right, listed_either, scope_itself, scope_listed, listed_scope, scopes_are}
use Rattle.wac_encode_faults.proofs.Lowest.{lowest_same, lowest_of_both, lowest_if}
use Rattle.wac_encode_faults.proofs.NestedFaults.{fault_scope}
use Rattle.wac_encode_faults.proofs.Taken.{none_taken, taken_next}
use Rattle.wac_encode_faults.proofs.TypeItems.{under_some, under_none, has_some, has_none, under_same}

no_fault_of : (f : WriteFault) → None ≡ Some f → ⊥
no_fault_of f e = cc

-- ---- types of type items
module _ (item : ItemKind) (old : List AnyType) where
  pub type_added : (u : AnyType) (now : List AnyType) → item ≡ kind.TypeItem u → now ≡ with_all old (u ∷ []) → (t : AnyType) → IsIn t now ↔ (IsIn t old ⊎ (item ≡ kind.TypeItem t))
  type_added u now is adds t = (
    λ h. elim (all_only old (u ∷ []) t (subst (IsIn t) adds h)) [ inl w ↦ inl w | inr w ↦ elim w [ inl e ↦ inr (is ∙ ap kind.TypeItem (sym e)) | inr n ↦ absurd n ] ],
    λ h. subst (IsIn t) (sym adds) (elim h [ inl w ↦ all_old old (u ∷ []) t w | inr e ↦ all_new old (u ∷ []) t (inl (one (sym e ∙ is))) ]),
  )
    where
      one : kind.TypeItem t ≡ kind.TypeItem u → t ≡ u
      one e = cc

  pub no_type_added : ((u : AnyType) → item ≡ kind.TypeItem u → ⊥) → (t : AnyType) → IsIn t old ↔ (IsIn t old ⊎ (item ≡ kind.TypeItem t))
  no_type_added other t = (λ h. inl h, λ h. elim h [ inl w ↦ w | inr e ↦ absurd (other t e) ])

-- The types of the first items that are type items were added.
abbrev pub AreTypesAdded : List (Name × ItemKind) → ℕ → List AnyType → List AnyType → Type 0
AreTypesAdded items n old now = (t : AnyType) → IsIn t now ↔ (IsIn t old ⊎ IsListed (kind.TypeItem t) (take n items))

pub types_first : (items : List (Name × ItemKind)) (old : List AnyType) → AreTypesAdded items 0 old old
types_first items old t = (λ h. inl h, λ h. elim h [ inl w ↦ w | inr w ↦ absurd (none_taken items (w.0, kind.TypeItem t) w.1) ])

pub types_next : (items : List (Name × ItemKind)) (n : ℕ) (v : ItemKind) (old before now : List AnyType) → option_map (λ e. e.1) (slice_get items n) ≡ Some v → AreTypesAdded items n old before
    → ((t : AnyType) → IsIn t now ↔ (IsIn t before ⊎ (v ≡ kind.TypeItem t))) → AreTypesAdded items (n + 1) old now
types_next items n v old before now at was step t =
    let (m, here) = second_at items n v at in (
      λ h. elim ((step t).0 h) [
        | inl w ↦ elim ((was t).0 w) [ inl k ↦ inl k | inr k ↦ inr (k.0, (taken_next items n (m, v) (k.0, kind.TypeItem t) here).1 (inl k.1)) ]
        | inr e ↦ inr (m, subst (λ (k : ItemKind). Contains (take (n + 1) items) (m, k)) e ((taken_next items n (m, v) (m, v) here).1 (inr refl)))
      ],
      λ h. elim h [
        | inl w ↦ (step t).1 (inl ((was t).1 (inl w)))
        | inr w ↦ elim ((taken_next items n (m, v) (w.0, kind.TypeItem t) here).0 w.1) [
          | inl k ↦ (step t).1 (inl ((was t).1 (inr (w.0, k))))
          | inr same ↦ (step t).1 (inr (sym (ap (λ (z : Name × ItemKind). z.1) same)))
        ]
      ],
    )

pub types_all : (items : List (Name × ItemKind)) (n : ℕ) (old now : List AnyType) → length items ≤ n → AreTypesAdded items n old now → (t : AnyType) → IsIn t now ↔ (IsIn t old ⊎ IsListed (kind.TypeItem t) items)
types_all items n old now past all t = subst (λ l. IsIn t now ↔ (IsIn t old ⊎ IsListed (kind.TypeItem t) l)) (take_all n items past) (all t)

-- ---- under an id
module _ (c : Collection) (i : InterfaceId) (it : Interface) (at : item_at c.interfaces i.0 ≡ Some it) where
  exports_are : interface_exports c i ≡ it.exports
  exports_are = ap (λ (o : Option Interface). option_case o [] (λ x. x.exports)) at

  pub under_types : is_some it.id ≡ true → (old now : List AnyType) → ((t : AnyType) → IsIn t now ↔ (IsIn t old ⊎ IsListed (kind.TypeItem t) it.exports)) → (t : AnyType) → IsIn t now ↔ (IsIn t old ⊎ IsTypeUnderId c i t)
  under_types has old now added t =
      let (id, is) = has_some c i it at has in
      let there = subst (λ l. Contains l (id, kind.Instance i)) (sym (under_some c i it at id is)) (in_first (id, kind.Instance i) []) in (
        λ h. elim ((added t).0 h) [ inl w ↦ inl w | inr w ↦ inr (id, there, subst (IsListed (kind.TypeItem t)) (sym exports_are) w) ],
        λ h. (added t).1 (elim h [ inl w ↦ inl w | inr w ↦ inr (subst (IsListed (kind.TypeItem t)) exports_are w.2) ]),
      )

  pub under_no_types : is_some it.id ≡ false → (old : List AnyType) (t : AnyType) → IsIn t old ↔ (IsIn t old ⊎ IsTypeUnderId c i t)
  under_no_types has old t =
      (λ h. inl h, λ h. elim h [ inl w ↦ w | inr w ↦ absurd (in_none (w.0, kind.Instance i) (subst (λ l. Contains l (w.0, kind.Instance i)) (under_none c i it at (has_none c i it at has)) w.1)) ])

-- The types of the first additional imports were added.
abbrev pub AreTypesUnder : Collection → List InterfaceId → ℕ → List AnyType → List AnyType → Type 0
AreTypesUnder c is n old now = (t : AnyType) → IsIn t now ↔ (IsIn t old ⊎ IsTypeOfAdditional c (take n is) t)

pub types_under_first : (c : Collection) (is : List InterfaceId) (old : List AnyType) → AreTypesUnder c is 0 old old
types_under_first c is old t = (λ h. inl h, λ h. elim h [ inl w ↦ w | inr w ↦ absurd (none_taken is w.0 w.1) ])

pub types_under_next : (c : Collection) (is : List InterfaceId) (n : ℕ) (i : InterfaceId) (old before now : List AnyType) → slice_get is n ≡ Some i → AreTypesUnder c is n old before
    → ((t : AnyType) → IsIn t now ↔ (IsIn t before ⊎ IsTypeUnderId c i t)) → AreTypesUnder c is (n + 1) old now
types_under_next c is n i old before now at was step t = (
  λ h. elim ((step t).0 h) [
    | inl w ↦ elim ((was t).0 w) [ inl k ↦ inl k | inr k ↦ inr (k.0, (taken_next is n i k.0 at).1 (inl k.1), k.2) ]
    | inr w ↦ inr (i, (taken_next is n i i at).1 (inr refl), w)
  ],
  λ h. elim h [
    | inl w ↦ (step t).1 (inl ((was t).1 (inl w)))
    | inr w ↦ elim ((taken_next is n i w.0 at).0 w.1) [
      | inl k ↦ (step t).1 (inl ((was t).1 (inr (w.0, k, w.2))))
      | inr same ↦ (step t).1 (inr (subst (λ z. IsTypeUnderId c z t) same w.2))
    ]
  ],
)

pub types_under_all : (c : Collection) (is : List InterfaceId) (n : ℕ) (old now : List AnyType) → length is ≤ n → AreTypesUnder c is n old now → (t : AnyType) → IsIn t now ↔ (IsIn t old ⊎ IsTypeOfAdditional c is t)
types_under_all c is n old now past all t = subst (λ l. IsIn t now ↔ (IsIn t old ⊎ IsTypeOfAdditional c l t)) (take_all n is past) (all t)

-- ---- the types of the sides
-- The types are those of type items of additional imports, and the interfaces and worlds of imports and exports.
abbrev pub AreRoots : Collection → List (Name × ItemKind) → List InterfaceId → List (Name × ItemKind) → List AnyType → Type 0
AreRoots c imports is exports roots = (t : AnyType) → IsIn t roots ↔ (IsTypeOfAdditional c is t ⊎ (IsIn t (scopes_of imports) ⊎ IsIn t (scopes_of exports)))

pub roots_are : (c : Collection) (imports : List (Name × ItemKind)) (is : List InterfaceId) (exports : List (Name × ItemKind)) (start types more roots : List AnyType) → start ≡ []
    → ((t : AnyType) → IsIn t types ↔ (IsIn t start ⊎ IsTypeOfAdditional c is t)) → more ≡ with_all types (scopes_of imports) → roots ≡ with_all more (scopes_of exports) → AreRoots c imports is exports roots
roots_are c imports is exports start types more roots none added first second t = (
  λ h. elim (all_only more (scopes_of exports) t (subst (IsIn t) second h)) [
    | inl w ↦ elim (all_only types (scopes_of imports) t (subst (IsIn t) first w)) [
      | inl k ↦ elim ((added t).0 k) [ inl n ↦ absurd (subst (IsIn t) none n) | inr g ↦ inl g ]
      | inr k ↦ inr (inl k)
    ]
    | inr w ↦ inr (inr w)
  ],
  λ h. subst (IsIn t) (sym second) (elim h [
    | inl w ↦ all_old more (scopes_of exports) t (subst (IsIn t) (sym first) (all_old types (scopes_of imports) t ((added t).1 (inr w))))
    | inr w ↦ elim w [
      | inl k ↦ all_old more (scopes_of exports) t (subst (IsIn t) (sym first) (all_new types (scopes_of imports) t k))
      | inr k ↦ all_new more (scopes_of exports) t k
    ]
  ]),
)

module _ (c : Collection) (imports : List (Name × ItemKind)) (is : List InterfaceId) (exports : List (Name × ItemKind)) (roots : List AnyType) (are : AreRoots c imports is exports roots) where
  -- they are of the collection
  type_held : IsWellFormed c → AreThere c is → (t : AnyType) → IsTypeOfAdditional c is t → holds_type c t ≡ true
  type_held wf there t (i, among, (n, under, (m, listed))) =
      mentioned_held c wf (ty.Interface i) t (less_true i.0 (length c.interfaces) (there i among)) (by (item_at c.interfaces i.0) listed)
    where
      by : (o : Option Interface) → Contains {X = Name × ItemKind} (option_case o [] (λ x. x.exports)) (m, kind.TypeItem t) → IsIn t (option_case o [] (λ x. used_types x.uses ++ kind_types x.exports))
      by None h = absurd (in_none (m, kind.TypeItem t) h)
      by (Some it) h = is_in_right t (used_types it.uses) (kind_types it.exports) (in_kinds it.exports (m, kind.TypeItem t) h)

  scope_held : (items : List (Name × ItemKind)) → AreHeld c items → (t : AnyType) → IsIn t (scopes_of items) → holds_type c t ≡ true
  scope_held items held t h = let (k, listed, same) = listed_scope items t h in subst (λ z. holds_type c z ≡ true) (sym same) (held (listed.0, k) listed.1)

  pub roots_held : IsWellFormed c → AreHeld c imports → AreThere c is → AreHeld c exports → (t : AnyType) → IsIn t roots → holds_type c t ≡ true
  roots_held wf imported there exported t h = elim ((are t).0 h) [
    | inl w ↦ type_held wf there t w
    | inr w ↦ elim w [ inl k ↦ scope_held imports imported t k | inr k ↦ scope_held exports exported t k ]
  ]

  -- ---- the faults of parts
  -- One of the types is a core module type.
  abbrev pub HasModuleType : Type 0
  HasModuleType = (m : ModuleTypeId) × IsIn (ty.Module m) roots

  module_fault : (t : AnyType) (f : WriteFault) → listed_fault (kind.TypeItem t) ≡ Some f → (m : ModuleTypeId) × (t ≡ ty.Module m) × (fault.ModuleAsType ≡ f)
  module_fault (ty.Module m) f e = (m, refl, one e)
    where
      one : Some fault.ModuleAsType ≡ Some f → fault.ModuleAsType ≡ f
      one x = cc
  module_fault (ty.Interface i) f e = absurd (no_fault_of f e)
  module_fault (ty.World w) f e = absurd (no_fault_of f e)
  module_fault (ty.Resource r) f e = absurd (no_fault_of f e)
  module_fault (ty.Func r) f e = absurd (no_fault_of f e)
  module_fault (ty.Value r) f e = absurd (no_fault_of f e)

  module _ (uses : List (Name × UsedType)) where
    abbrev s : Sides
    s = sides_with c uses imports is exports

    of_type : (t : AnyType) (f : WriteFault) → IsTypeOfAdditional c is t → (listed_fault (kind.TypeItem t) ≡ Some f) ⊎ IsFaultInside c t f → IsFaultOfParts c s f
    of_type t f (i, among, (n, under, listed)) g = inr (n, i, in_flat (under_id c) is i (n, kind.Instance i) among under, (t, listed, g))

    type_of : (n : Name) (i : InterfaceId) (t : AnyType) → Contains s.additional (n, kind.Instance i) → IsListed (kind.TypeItem t) (interface_exports c i) → IsTypeOfAdditional c is t
    type_of n i t there listed =
        let (j, among, here) = flat_in (under_id c) is (n, kind.Instance i) there in
        let same = under_same c i j n here in
        (i, subst (Contains is) (sym same) among, (n, subst (λ z. Contains (under_id c z) (n, kind.Instance i)) (sym same) here, listed))

    not_scope : (m : ModuleTypeId) → is_scope (ty.Module m) ≡ true → ⊥
    not_scope m e = cc

    of_module : (f : WriteFault) → HasModuleType → fault.ModuleAsType ≡ f → IsFaultOfParts c s f
    of_module f (m, h) same = elim ((are (ty.Module m)).0 h) [
      | inl w ↦ of_type (ty.Module m) f w (inl (ap Some same))
      | inr w ↦ elim w [ inl k ↦ absurd (not_scope m (scopes_are imports (ty.Module m) k)) | inr k ↦ absurd (not_scope m (scopes_are exports (ty.Module m) k)) ]
    ]

    of_inside : (f : WriteFault) → IsFaultInsideOne c roots f → IsFaultOfParts c s f
    of_inside f (t, h, g) = elim ((are t).0 h) [
      | inl w ↦ of_type t f w (inr g)
      | inr w ↦ elim w [
        | inl k ↦ let (j, listed, same) = listed_scope imports t k in inl (inr (j, listed_left j imports exports listed, subst (λ z. IsFaultInside c z f) same g))
        | inr k ↦ let (j, listed, same) = listed_scope exports t k in inl (inr (j, listed_right j imports exports listed, subst (λ z. IsFaultInside c z f) same g))
      ]
    ]

    inside_of : (k : ItemKind) (f : WriteFault) → IsListed k (imports ++ exports) → IsFaultInside c (kind_type k) f → IsFaultInsideOne c roots f
    inside_of k f listed g =
        let here = (scope_itself (kind_type k)).0 (fault_scope c (kind_type k) f g) in (
          kind_type k,
          (are (kind_type k)).1 (inr (elim (listed_either k imports exports listed) [
            | inl w ↦ inl (scope_listed k imports (kind_type k) w here)
            | inr w ↦ inr (scope_listed k exports (kind_type k) w here)
          ])),
          g,
        )

    -- The fault was found.
    abbrev Found : WriteFault → Type 0
    Found f = ((IsFaultOfListed imports f ⊎ IsFaultOfListed exports f) ⊎ (HasModuleType × (fault.ModuleAsType ≡ f))) ⊎ IsFaultInsideOne c roots f

    parts_found : (f : WriteFault) → IsFaultOfParts c s f → Found f
    parts_found f (inl (inl l)) = inl (inl ((fault_of_both imports exports f).1 l))
    parts_found f (inl (inr (k, listed, g))) = inr (inside_of k f listed g)
    parts_found f (inr (n, i, there, (t, listed, inl e))) =
        let (m, is_module, same) = module_fault t f e in
        inl (inr ((m, subst (λ z. IsIn z roots) is_module ((are t).1 (inl (type_of n i t there listed)))), same))
    parts_found f (inr (n, i, there, (t, listed, inr g))) = inr (t, (are t).1 (inl (type_of n i t there listed)), g)

    found_parts : (f : WriteFault) → Found f → IsFaultOfParts c s f
    found_parts f (inl (inl l)) = inl (inl ((fault_of_both imports exports f).0 l))
    found_parts f (inl (inr (h, same))) = of_module f h same
    found_parts f (inr g) = of_inside f g

    pub lowest_of_parts : (a b : Option WriteFault) (is_there : Bool) (d e : Option WriteFault) → IsLowest (IsFaultOfListed imports) a → IsLowest (IsFaultOfListed exports) b → IsTrue is_there ↔ HasModuleType
        → d ≡ (if is_there then Some fault.ModuleAsType else None) → IsLowest (IsFaultInsideOne c roots) e → IsLowest (IsFaultOfParts c s) (lower_of (lower_of (lower_of a b) d) e)
    lowest_of_parts a b is_there d e first second decided is inside =
        lowest_same Found (IsFaultOfParts c s) (lower_of (lower_of (lower_of a b) d) e) (λ f. (found_parts f, parts_found f))
        (lowest_of_both (λ f. (IsFaultOfListed imports f ⊎ IsFaultOfListed exports f) ⊎ (HasModuleType × (fault.ModuleAsType ≡ f))) (IsFaultInsideOne c roots) (lower_of (lower_of a b) d) e
        (lowest_of_both (λ f. IsFaultOfListed imports f ⊎ IsFaultOfListed exports f) (λ f. HasModuleType × (fault.ModuleAsType ≡ f)) (lower_of a b) d
        (lowest_of_both (IsFaultOfListed imports) (IsFaultOfListed exports) a b first second) (lowest_if HasModuleType fault.ModuleAsType is_there d decided is)) inside)

-- ---- the faults of names
-- No name is there twice, whatever the other parts are.
twice_same : (c : Collection) (uses : List (Name × UsedType)) (imports : List (Name × ItemKind)) (is : List InterfaceId) (exports : List (Name × ItemKind)) → HasNameTwice (sides_of c imports is) ↔ HasNameTwice (sides_with c uses imports is exports)
twice_same c uses imports is exports = (to, from)
  where
    to : HasNameTwice (sides_of c imports is) → HasNameTwice (sides_with c uses imports is exports)
    to (of_import n k i a b) = of_import n k i a b
    to (of_additional n i j a b other) = of_additional n i j a b other

    from : HasNameTwice (sides_with c uses imports is exports) → HasNameTwice (sides_of c imports is)
    from (of_import n k i a b) = of_import n k i a b
    from (of_additional n i j a b other) = of_additional n i j a b other

module _ (c : Collection) (uses : List (Name × UsedType)) (imports : List (Name × ItemKind)) (is : List InterfaceId) (exports : List (Name × ItemKind)) where
  abbrev all : Sides
  all = sides_with c uses imports is exports

  pub names_twice : HasNameTwice (sides_of c imports is) → IsLowest (IsFaultOfNames c all) (Some fault.InterfaceTwice)
  names_twice h = (inl ((twice_same c uses imports is exports).0 h, refl), λ other f. low other f)
    where
      low : (other : WriteFault) → IsFaultOfNames c all other → fault_rank fault.InterfaceTwice ≤ fault_rank other
      low other (inl w) = let ranks = ap fault_rank w.1 in omega (arith, ranks)
      low other (inr w) = let ranks = ap fault_rank w.1 in omega (arith, ranks)

  pub names_once : (HasNameTwice (sides_of c imports is) → ⊥) → (b : Bool) (o : Option WriteFault) → IsTrue b ↔ HasItemCycle c all → o ≡ (if b then Some fault.TypesUseEachOther else None) → IsLowest (IsFaultOfNames c all) o
  names_once once b o decided result =
      lowest_same (λ f. HasItemCycle c all × (fault.TypesUseEachOther ≡ f)) (IsFaultOfNames c all) o
      (λ f. (λ w. inr w, λ h. elim h [ inl w ↦ absurd (once ((twice_same c uses imports is exports).1 w.0)) | inr w ↦ w ])) (lowest_if (HasItemCycle c all) fault.TypesUseEachOther b o decided result)

-- ---- all faults of a component type
module _ (c : Collection) (s : Sides) where
  pub sides_unbound : HasUnboundItem c s → IsLowest (IsSidesFault c s) (Some fault.UnboundResource)
  sides_unbound h = (unbound h, λ other f. low other)
    where
      low : (other : WriteFault) → fault_rank fault.UnboundResource ≤ fault_rank other
      low fault.UnboundResource = omega arith
      low fault.ModuleAsType = omega arith
      low fault.UnnamedDefinition = omega arith
      low fault.NestedItem = omega arith
      low fault.ValueItem = omega arith
      low fault.UnlistedDependency = omega arith
      low fault.InterfaceTwice = omega arith
      low fault.TypesUseEachOther = omega arith

  pub sides_bound : (HasUnboundItem c s → ⊥) → (a b : Option WriteFault) → IsLowest (IsFaultOfParts c s) a → IsLowest (IsFaultOfNames c s) b → IsLowest (IsSidesFault c s) (lower_of a b)
  sides_bound none a b parts names =
      lowest_same (λ f. IsFaultOfParts c s f ⊎ IsFaultOfNames c s f) (IsSidesFault c s) (lower_of a b) (λ f. (to f, from f)) (lowest_of_both (IsFaultOfParts c s) (IsFaultOfNames c s) a b parts names)
    where
      to : (f : WriteFault) → IsFaultOfParts c s f ⊎ IsFaultOfNames c s f → IsSidesFault c s f
      to f (inl (inl h)) = of_items f h
      to f (inl (inr (n, i, there, h))) = of_additional n i f there h
      to f (inr (inl (h, same))) = subst (IsSidesFault c s) same (twice h)
      to f (inr (inr (h, same))) = subst (IsSidesFault c s) same (cycle h)

      from : (f : WriteFault) → IsSidesFault c s f → IsFaultOfParts c s f ⊎ IsFaultOfNames c s f
      from _ (unbound h) = absurd (none h)
      from _ (of_items f h) = inl (inl h)
      from _ (of_additional n i f there h) = inl (inr (n, i, there, h))
      from _ (twice h) = inr (inl (h, refl))
      from _ (cycle h) = inr (inr (h, refl))
