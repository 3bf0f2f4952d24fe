-- The items of a side are written one after another.
use Rattle.std.proofs.Common.{ℕ, zero, suc, ◌≡◌, ◌+◌, ◌<◌, ◌≤◌, ◌⊎◌, ◌↔◌, Bool, true, false, List, [], ◌∷◌, ◌++◌, take, drop, length, slice_get, Option, Some, None, Contains, refl, ap, sym, ◌∙◌, subst, inl, inr, arith}
use Rattle.std.specs.BTreeSet.{BTreeSet}
use Rattle.std.proofs.lemmas.List.{append_assoc, append-nil, take-append-drop}
use Rattle.wac_types_shapes.specs.primitives.Name.{Name, first_some}
use Rattle.wac_types_shapes.specs.primitives.Tree.{Side, imported, exported, Leaf}
use Rattle.wac_types_shapes.specs.shapes.Named.{NoNameTwice}
use Rattle.wac_types_shapes.proofs.lemmas.shapes.Names.{take_at}
use Rattle.wac_types_shapes.specs.declared.shapes.component.InterfaceId.{InterfaceId}
use Rattle.wac_types_shapes.specs.declared.shapes.component.ResourceId.{ResourceId}
use Rattle.wac_types_shapes.specs.declared.shapes.component.ItemKind.{ItemKind}
use Rattle.wac_types_shapes.specs.declared.shapes.component.ItemKind.TheVariants as kind
use Rattle.wac_types_collection.specs.collection.Collection.{Collection}
use Rattle.wac_types_collection.proofs.lemmas.wide.Members.{in_none, in_parts, in_left, in_right, in_either, at_in, in_at}
use Rattle.wac_edges.specs.cycles.Cycles.{IsStep, Path, step, further, HasNoCycle}
use Rattle.wac_encode_scopes.specs.declared.state.State.{State}
use Rattle.wac_encode_faults.specs.Sides.{Sides, all_imports, import_bindings, export_bindings, side_bindings}
use Rattle.wac_encode_faults.specs.Free.{SideItem, IsFreeInItem}
use Rattle.wac_encode_faults.specs.Cycle.{ItemUses, Supplies, as_import, as_export, IsBindingOf, ItemDependsOn, by_use, by_resource, LeadsToItem, one, more, HasItemCycle, numbered_items, DependsByNumber}
use Rattle.wac_encode_interfaces.specs.declared.sides.Parts.{Parts}
use Rattle.wac_encode_interfaces.specs.private.Written.{side_item, items_written, IsWritten, IsNext}
use Rattle.wac_encode_interfaces.specs.private.Parts.{sides_in}
use Rattle.wac_encode_interfaces.specs.private.Ordered.{side_list, first_number, IsOrdered, AreDependencies, IsBefore, IsSideWritten}
use Rattle.wac_encode_interfaces.proofs.Bound.{one-some, no-some, one-item, made-somewhere, items_of_side, side-final, imports-bound}
use Rattle.wac_encode_interfaces.proofs.Arranging.{items-next, position-written, written-position}
use Rattle.wac_encode_interfaces.proofs.Numbers.{first_of, number-at, one-place, one-number, sides-differ}

-- parts and sides

pub all-imports-are : (x : Parts) → all_imports (sides_in x) ≡ x.imports.now
all-imports-are x = take-append-drop (length x.listed.now) x.imports.now

pub side-list-is : (c : Collection) (x : Parts) (side : Side) → items_of_side c (sides_in x) side ≡ side_list x side
side-list-is c x imported = all-imports-are x
side-list-is c x exported = refl

pub first-is : (x : Parts) (side : Side) → first_of (sides_in x) side ≡ first_number x side
first-is x imported = refl
first-is x exported = ap (λ (es : List (Name × ItemKind)). length es) (all-imports-are x)

-- what an item depends on is an item

module _ (c : Collection) (s : Sides) where
  abbrev IsThere : SideItem → Type 0
  IsThere y = (e : Name × ItemKind) × Contains (items_of_side c s y.side) e × (y.name ≡ e.0)

  supplied-there : (side : Side) (y : SideItem) (i : InterfaceId) → Supplies c s side y i → IsThere y
  supplied-there _ _ _ (as_import side n i listed) = ((n, kind.Instance i), listed.0, refl)
  supplied-there _ _ _ (as_export n i listed none) = ((n, kind.Instance i), listed.0, refl)

  pub depends-there : (x y : SideItem) → ItemDependsOn c s x y → IsThere y
  depends-there _ _ (by_use x y i other uses supplies) = supplied-there x.side y i supplies
  depends-there _ _ (by_resource x y r l other free is binding) =
      let (z, makes) = made-somewhere c s r l (side-final c s x.side r l is) in
      let (e, there, at, name, made) = makes in
      let same = one-item l z y made binding in
      subst IsThere same (e, there, name)

  supplied-import : (side : Side) (y : SideItem) (i : InterfaceId) → side ≡ imported → Supplies c s side y i → y.side ≡ imported
  supplied-import _ _ _ is (as_import side n i listed) = refl
  supplied-import _ _ _ is (as_export n i listed none) = absurd (sides-differ (sym is))

  -- An import depends on imports alone.
  pub imports-alone : (x y : SideItem) → x.side ≡ imported → ItemDependsOn c s x y → y.side ≡ imported
  imports-alone _ _ is (by_use x y i other uses supplies) = supplied-import x.side y i is supplies
  imports-alone _ _ is (by_resource x y r l other free at binding) =
      let here : import_bindings c s r ≡ Some l = subst (λ (a : Side). side_bindings c s a r ≡ Some l) is at in
      sym binding.0 ∙ imports-bound c s r l here

  -- no cycle

  number-leads : (steps : List (BTreeSet ℕ)) → ((a b : ℕ) → IsStep steps a b ↔ DependsByNumber c s a b) → (a b : ℕ) → Path (IsStep steps) a b
      → (x y : SideItem) × (slice_get (numbered_items s) a ≡ Some x) × (slice_get (numbered_items s) b ≡ Some y) × LeadsToItem c s x y
  number-leads steps are _ _ (step a b is) = let (x, y, here, there, depends) = (are a b).0 is in (x, y, here, there, one x y depends)
  number-leads steps are _ _ (further a b d is path) =
      let (x, y, here, there, depends) = (are a b).0 is in
      let (z, w, first, last, leads) = number-leads steps are b d path in
      let same : z ≡ y = one-some z y (sym first ∙ there) in
      (x, w, here, last, more x y w depends (subst (λ (v : SideItem). LeadsToItem c s v w) same leads))

  pub no-cycle : (steps : List (BTreeSet ℕ)) → ((a b : ℕ) → IsStep steps a b ↔ DependsByNumber c s a b) → (HasItemCycle c s → ⊥) → HasNoCycle steps
  no-cycle steps are none n back =
      let (x, y, here, there, leads) = number-leads steps are n n back in
      none (x, subst (λ (z : SideItem). LeadsToItem c s x z) (one-some y x (sym there ∙ here)) leads)

-- positions

taken-before : (xs : List ℕ) (i p : ℕ) → Contains (take i xs) p → (j : ℕ) × (j < i) × (slice_get xs j ≡ Some p)
taken-before [] zero p h = absurd (in_none p h)
taken-before [] (suc i) p h = absurd (in_none p h)
taken-before (x ∷ xs) zero p h = absurd (in_none p h)
taken-before (x ∷ xs) (suc i) p h = elim (in_parts x p (take i xs) h) [
  | inl e ↦ (zero, first i, ap Some (sym e))
  | inr w ↦ let (j, low, at) = taken-before xs i p w in (suc j, later j i low, at)
]
  where
    first : (i : ℕ) → 0 < suc i
    first i = omega arith

    later : (j i : ℕ) → j < i → suc j < suc i
    later j i h = omega (arith, h)

take-none : (xs : List ℕ) → take 0 xs ≡ []
take-none [] = refl
take-none (x ∷ xs) = refl

below-itself : (i : ℕ) → i < i → ⊥
below-itself i h = absurd (omega (arith, h))

side-of : (a b : Side) → (a ≡ b) ⊎ (a ≡ b → ⊥)
side-of imported imported = inl refl
side-of exported exported = inl refl
side-of imported exported = inr sides-differ
side-of exported imported = inr (λ e. sides-differ (sym e))

module _ (c : Collection) (b : Bool) (x : Parts) (steps : List (BTreeSet ℕ)) (are : AreDependencies c x steps) (imports_once : NoNameTwice (all_imports (sides_in x))) (exports_once : NoNameTwice (sides_in x).exports) (side : Side) where
  abbrev items : List (Name × ItemKind)
  items = side_list x side

  once : NoNameTwice items
  once = by side
    where
      by : (a : Side) → NoNameTwice (side_list x a)
      by imported = subst NoNameTwice (all-imports-are x) imports_once
      by exported = exports_once

  number : (p : ℕ) (e : Name × ItemKind) → slice_get items p ≡ Some e → slice_get (numbered_items (sides_in x)) (first_number x side + p) ≡ Some (side_item side e.0)
  number p e at =
      subst (λ (n : ℕ). slice_get (numbered_items (sides_in x)) (n + p) ≡ Some (side_item side e.0)) (first-is x side)
      (number-at (sides_in x) c side p e (subst (λ (es : List (Name × ItemKind)). slice_get es p ≡ Some e) (sym (side-list-is c x side)) at))

  module _ (base : List SideItem) (before : IsBefore c x side base) (order : List ℕ) (ordered : IsOrdered steps (first_number x side) (length items) order) where
    abbrev so_far : ℕ → List SideItem
    so_far i = base ++ items_written side items (take i order)

    not-twice : (i p q : ℕ) (e : Name × ItemKind) (n : Name) (k : ItemKind) → slice_get order i ≡ Some p → slice_get items p ≡ Some (n, k) → Contains (take i order) q → slice_get items q ≡ Some e → n ≡ e.0 → ⊥
    not-twice i p q e n k at here there also name =
        let same = one-place items once p q (n, k) e here also name in
        let (j, low, place) = taken-before order i q there in
        let equal = ordered.once j i p (place ∙ ap Some (sym same)) at in
        below-itself i (subst (λ (m : ℕ). m < i) equal low)

    -- The item at the next position is next.
    pub side-next : (i p : ℕ) (n : Name) (k : ItemKind) (st : State) → slice_get order i ≡ Some p → slice_get items p ≡ Some (n, k) → IsSideWritten c b x side base (take i order) st → IsNext c b (sides_in x) (so_far i) (side_item side n) st
    side-next i p n k st at here was = record { written = was; new = fresh_one; after = met }
      where
        fresh_one : Contains (so_far i) (side_item side n) → ⊥
        fresh_one h = elim (in_either base (items_written side items (take i order)) (side_item side n) h) [
          | inl w ↦ before.apart (side_item side n) w refl
          | inr w ↦
              let (q, e, there, also, is) = written-position side items (take i order) (side_item side n) w in
              not-twice i p q e n k at here there also (ap (λ (y : SideItem). y.name) is)
        ]

        on-side : (y : SideItem) → ItemDependsOn c (sides_in x) (side_item side n) y → y.side ≡ side → Contains (items_written side items (take i order)) y
        on-side y depends same =
            let (e, there, name) = depends-there c (sides_in x) (side_item side n) y depends in
            let listed : Contains items e = subst (λ (es : List (Name × ItemKind)). Contains es e) (side-list-is c x side) (subst (λ (a : Side). Contains (items_of_side c (sides_in x) a) e) same there) in
            let (q, low, also) = in_at items e listed in
            let is : y ≡ side_item side e.0 = (λ j. record { side = same j; name = name j }) in
            let numbered : slice_get (numbered_items (sides_in x)) (first_number x side + q) ≡ Some y = number q e also ∙ ap Some (sym is) in
            let leads = (are (first_number x side + p) (first_number x side + q)).1 (side_item side n, y, number p (n, k) here, numbered, depends) in
            subst (Contains (items_written side items (take i order))) (sym is) (position-written side items (take i order) q e (ordered.after i p q at low leads) also)

        met : (y : SideItem) → ItemDependsOn c (sides_in x) (side_item side n) y → Contains (so_far i) y
        met y depends = elim (side-of y.side side) [
          | inl same ↦ in_right base (items_written side items (take i order)) y (on-side y depends same)
          | inr other ↦ in_left base (items_written side items (take i order)) y (before.others n y depends other)
        ]

    -- It is written: so are the items up to the next position.
    pub side-more : (i p : ℕ) (n : Name) (k : ItemKind) (st : State) → slice_get order i ≡ Some p → slice_get items p ≡ Some (n, k) → IsWritten c b (sides_in x) (so_far i ++ side_item side n ∷ []) st → IsSideWritten c b x side base (take (i + 1) order) st
    side-more i p n k st at here was =
        let count : suc i ≡ i + 1 = omega arith in
        let taken : take i order ++ p ∷ [] ≡ take (i + 1) order = sym (take_at order i p at) ∙ ap (λ (m : ℕ). take m order) count in
        let list : so_far i ++ side_item side n ∷ [] ≡ base ++ items_written side items (take (i + 1) order) =
        append_assoc base (items_written side items (take i order)) (side_item side n ∷ [])
        ∙ ap (λ (ys : List SideItem). base ++ ys) (sym (items-next side items (take i order) p (n, k) here) ∙ ap (items_written side items) taken) in
        subst (λ (xs : List SideItem). IsWritten c b (sides_in x) xs st) list was

  -- Before the first position nothing of the side is written.
  pub side-first : (base : List SideItem) (order : List ℕ) (st : State) → IsWritten c b (sides_in x) base st → IsSideWritten c b x side base (take 0 order) st
  side-first base order st was = subst (λ (xs : List SideItem). IsWritten c b (sides_in x) xs st) (sym (ap (λ (ps : List ℕ). base ++ items_written side items ps) (take-none order) ∙ append-nil base)) was

-- the turn

pub begin-imports : (c : Collection) (x : Parts) → IsBefore c x imported []
begin-imports c x = record {
  apart = λ y there same. in_none y there;
  others = λ n y depends other. absurd (other (imports-alone c (sides_in x) (side_item imported n) y refl depends));
}

pub begin-exports : (c : Collection) (x : Parts) (done : List ℕ) → ((k : ℕ) → k < length x.imports.now → Contains done k) → IsBefore c x exported (items_written imported x.imports.now done)
begin-exports c x done all = record { apart = apart_from; others = others_there }
  where
    apart_from : (y : SideItem) → Contains (items_written imported x.imports.now done) y → y.side ≡ exported → ⊥
    apart_from y there same = let (p, e, at, also, is) = written-position imported x.imports.now done y there in sides-differ (ap (λ (z : SideItem). z.side) (sym is) ∙ same)

    import-there : (y : SideItem) (e : Name × ItemKind) → y.side ≡ imported → Contains (items_of_side c (sides_in x) y.side) e → y.name ≡ e.0 → Contains (items_written imported x.imports.now done) y
    import-there y e same there name =
        let listed : Contains x.imports.now e = subst (λ (es : List (Name × ItemKind)). Contains es e) (all-imports-are x) (subst (λ (a : Side). Contains (items_of_side c (sides_in x) a) e) same there) in
        let (q, low, also) = in_at x.imports.now e listed in
        let is : y ≡ side_item imported e.0 = (λ j. record { side = same j; name = name j }) in
        subst (Contains (items_written imported x.imports.now done)) (sym is) (position-written imported x.imports.now done q e (all q low) also)

    by-side : (y : SideItem) (e : Name × ItemKind) (a : Side) → y.side ≡ a → (y.side ≡ exported → ⊥) → Contains (items_of_side c (sides_in x) y.side) e → y.name ≡ e.0 → Contains (items_written imported x.imports.now done) y
    by-side y e imported same other there name = import-there y e same there name
    by-side y e exported same other there name = absurd (other same)

    others_there : (n : Name) (y : SideItem) → ItemDependsOn c (sides_in x) (side_item exported n) y → (y.side ≡ exported → ⊥) → Contains (items_written imported x.imports.now done) y
    others_there n y depends other =
        let (e, there, name) = depends-there c (sides_in x) (side_item exported n) y depends in
        by-side y e y.side refl other there name

-- The items at all positions are those of the side.
pub all-positions : (side : Side) (es : List (Name × ItemKind)) (done : List ℕ) → ((k : ℕ) → k < length es → Contains done k) → (e : Name × ItemKind) → Contains es e → Contains (items_written side es done) (side_item side e.0)
all-positions side es done all e there =
    let (q, low, at) = in_at es e there in
    position-written side es done q e (all q low) at
