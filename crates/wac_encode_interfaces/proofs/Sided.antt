-- Both sides of a component type are written.
use Rattle.std.proofs.Common.{ℕ, zero, suc, ◌≡◌, ◌+◌, ◌-◌, ◌<◌, ◌≤◌, ◌⊎◌, ◌↔◌, Bool, true, false, nat_le, List, [], ◌∷◌, ◌++◌, take, drop, length, slice_get, Option, Some, None, Contains, refl, ap, sym, ◌∙◌, subst, inl, inr, arith}
use Rattle.std.specs.BTreeSet.{BTreeSet}
use Rattle.std.proofs.lemmas.List.{take_all, take-append-drop}
use Rattle.wac_types_shapes.specs.primitives.Name.{Name}
use Rattle.wac_types_shapes.specs.primitives.Tree.{Side, imported, exported, Tree, component}
use Rattle.wac_types_shapes.specs.shapes.Kinds.{kind_type}
use Rattle.wac_types_shapes.specs.shapes.Named.{NoNameTwice}
use Rattle.wac_types_shapes.specs.declared.shapes.component.ItemKind.{ItemKind}
use Rattle.wac_types_collection.specs.collection.Collection.{Collection, holds_type}
use Rattle.wac_types_collection.proofs.lemmas.wide.Members.{in_left, in_right, in_either, at_in}
use Rattle.wac_edges.specs.cycles.Cycles.{IsStep, HasNoCycle}
use Rattle.wac_encode_stacks.specs.Good.{innermost}
use Rattle.wac_encode_scopes.specs.declared.state.State.{State}
use Rattle.wac_encode_scopes.specs.States.{stack}
use Rattle.wac_encode_faults.specs.declared.fault.WriteFault.TheVariants as fault
use Rattle.wac_encode_faults.specs.Faults.{cycle}
use Rattle.wac_encode_faults.specs.Sides.{Sides, all_imports}
use Rattle.wac_encode_faults.specs.Free.{SideItem}
use Rattle.wac_encode_faults.specs.Cycle.{numbered_items}
use Rattle.wac_encode_interfaces.specs.declared.sides.Parts.{Parts}
use Rattle.wac_encode_interfaces.specs.private.Given.{AreHeldItems}
use Rattle.wac_encode_faults.specs.Trees.{sides_tree}
use Rattle.wac_encode_interfaces.specs.private.Worlds.{Worlds}
use Rattle.wac_encode_interfaces.specs.private.Written.{side_item, items_written, IsItemOf, IsWritten, AreWritable}
use Rattle.wac_encode_interfaces.specs.private.Parts.{sides_in, ArePlanned, MayFollow, WritesItem}
use Rattle.wac_encode_interfaces.specs.private.Ordered.{side_list, first_number, is_additional, IsOrdered, AreDependencies, IsBefore, IsSideWritten, MayBegin, WritesSide, AreSidesWritten}
use Rattle.wac_encode_interfaces.proofs.Bound.{no-some}
use Rattle.wac_encode_interfaces.proofs.SideTrees.{all-written}
use Rattle.wac_encode_interfaces.proofs.Numbers.{number-at}
use Rattle.wac_encode_interfaces.proofs.Turns.{all-imports-are, side-list-is, first-is, no-cycle, side-first, side-next, side-more, begin-imports, begin-exports, all-positions}

pub at-below : {A : Type 0} (xs : List A) (i : ℕ) → i < length xs → (x : A) × (slice_get xs i ≡ Some x)
at-below [] i h = absurd (omega (arith, h))
at-below (x ∷ xs) zero h = (x, refl)
at-below (x ∷ xs) (suc i) h = at-below xs i (less (length xs) h)
  where
    less : (n : ℕ) → suc i < suc n → i < n
    less n h = omega (arith, h)

taken-length : {A : Type 0} (n : ℕ) (xs : List A) → length (take n xs) ≤ length xs
taken-length zero [] = omega arith
taken-length (suc n) [] = omega arith
taken-length zero (x ∷ xs) = omega arith
taken-length (suc n) (x ∷ xs) = more (length (take n xs)) (length xs) (taken-length n xs)
  where
    more : (a b : ℕ) → a ≤ b → suc a ≤ suc b
    more a b h = omega (arith, h)

taken-at : {A : Type 0} (xs : List A) (m p : ℕ) (x : A) → slice_get xs p ≡ Some x → nat_le m p ≡ false → slice_get (take m xs) p ≡ Some x
taken-at [] m p x at low = absurd (no-some x at)
taken-at (y ∷ xs) zero p x at low = absurd (grind arith)
taken-at (y ∷ xs) (suc m) zero x at low = at
taken-at (y ∷ xs) (suc m) (suc p) x at low = taken-at xs m p x at (grind arith)

dropped-in : {A : Type 0} (xs : List A) (m p : ℕ) (x : A) → slice_get xs p ≡ Some x → nat_le m p ≡ true → Contains (drop m xs) x
dropped-in xs zero p x at high = at_in xs p x at
dropped-in [] (suc m) p x at high = at_in [] p x at
dropped-in (y ∷ xs) (suc m) zero x at high = absurd (grind arith)
dropped-in (y ∷ xs) (suc m) (suc p) x at high = dropped-in xs m p x at (grind arith)

-- What a turn of the loop over a side's order knows.
abbrev pub SideSoFar : Collection → Bool → Parts → Side → List ℕ → ℕ → State → State → Type 0
SideSoFar c b x side order i old now = (base : List SideItem) → IsBefore c x side base → IsWritten c b (sides_in x) base old → IsSideWritten c b x side base (take i order) now

module _ (c : Collection) (b : Bool) (ws : Worlds) (x : Parts) (planned : ArePlanned c ws x) (steps : List (BTreeSet ℕ)) (are : AreDependencies c x steps) where
  abbrev can : AreWritable c ws (sides_in x)
  can = planned.writable

  module _ (side : Side) (order : List ℕ) (ordered : IsOrdered steps (first_number x side) (length (side_list x side)) order) where
    pub so-far-first : (old : State) → SideSoFar c b x side order 0 old old
    so-far-first old base before was = side-first c b x steps are can.imports_once can.exports_once side base order old was

    pub position-below : (i p : ℕ) → slice_get order i ≡ Some p → p < length (side_list x side)
    position-below i p at = (ordered.each p).0 (at_in order i p at)

    pub so-far-may : (i p : ℕ) (n : Name) (k : ItemKind) (old now : State) → MayBegin c b x side old → SideSoFar c b x side order i old now → slice_get order i ≡ Some p → slice_get (side_list x side) p ≡ Some (n, k) → MayFollow c b x side n now
    so-far-may i p n k old now begins so_far at here =
        let (base, before, was) = begins in
        (base ++ items_written side (side_list x side) (take i order), side-next c b x steps are can.imports_once can.exports_once side base before order ordered i p n k now at here (so_far base before was))

    pub so-far-more : (i p : ℕ) (old now new : State) → SideSoFar c b x side order i old now → slice_get order i ≡ Some p → ((n : Name) (k : ItemKind) → slice_get (side_list x side) p ≡ Some (n, k) → WritesItem c b x side n now new) → SideSoFar c b x side order (i + 1) old new
    so-far-more i p old now new so_far at writes base before was =
        let (item, here) = at-below (side_list x side) p (position-below i p at) in
        let now_written = so_far base before was in
        side-more c b x steps are can.imports_once can.exports_once side base before order ordered i p item.0 item.1 new at here
        (writes item.0 item.1 here (base ++ items_written side (side_list x side) (take i order))
        (side-next c b x steps are can.imports_once can.exports_once side base before order ordered i p item.0 item.1 now at here now_written))

    pub so-far-all : (i : ℕ) (old now : State) → length order ≤ i → SideSoFar c b x side order i old now → WritesSide c b x side old now
    so-far-all i old now past so_far base before was =
        (take i order, (λ k low. subst (λ (ks : List ℕ). Contains ks k) (sym (take_all i order past)) ((ordered.each k).1 low)), so_far base before was)

  -- both sides

  pub turn : (old mid : State) → IsWritten c b (sides_in x) [] old → WritesSide c b x imported old mid → MayBegin c b x exported mid
  turn old mid was writes =
      let (done, all, written) = writes [] (begin-imports c x) was in
      (items_written imported x.imports.now done, begin-exports c x done all, written)

  pub begins : (old : State) → IsWritten c b (sides_in x) [] old → MayBegin c b x imported old
  begins old was = ([], begin-imports c x, was)

  pub both-written : (old mid new : State) → IsWritten c b (sides_in x) [] old → WritesSide c b x imported old mid → WritesSide c b x exported mid new → AreSidesWritten c b x new
  both-written old mid new was first second =
      let (done, all, written) = first [] (begin-imports c x) was in
      let (more, rest, end) = second (items_written imported x.imports.now done) (begin-exports c x done all) written in
      (items_written imported x.imports.now done ++ items_written exported x.exports.now more, everything done more all rest, end)
    where
      everything : (done more : List ℕ) → ((k : ℕ) → k < length x.imports.now → Contains done k) → ((k : ℕ) → k < length x.exports.now → Contains more k) → (side : Side) (e : Name × ItemKind) → Contains (side_list x side) e
          → Contains (items_written imported x.imports.now done ++ items_written exported x.exports.now more) (side_item side e.0)
      everything done more all rest imported e there = in_left (items_written imported x.imports.now done) (items_written exported x.exports.now more) (side_item imported e.0) (all-positions imported x.imports.now done all e there)
      everything done more all rest exported e there = in_right (items_written imported x.imports.now done) (items_written exported x.exports.now more) (side_item exported e.0) (all-positions exported x.exports.now more rest e there)

  -- what the order asks

  pub clean-steps : HasNoCycle steps
  clean-steps = no-cycle c (sides_in x) steps are (λ round. can.clean fault.TypesUseEachOther (cycle round))

module _ (c : Collection) (b : Bool) (ws : Worlds) (x : Parts) (planned : ArePlanned c ws x) where
  abbrev may : AreWritable c ws (sides_in x)
  may = planned.writable

  pub listed-held : AreHeldItems c x.listed.now
  listed-held e there = may.held imported e.0 e.1 false (subst (λ (es : List (Name × ItemKind)). Contains es e) (sym planned.listed) there)

  pub exports-held : AreHeldItems c x.exports.now
  exports-held e there = may.held exported e.0 e.1 false there

  pub imports-held : AreHeldItems c x.imports.now
  imports-held e there = elim (in_either (take (length x.listed.now) x.imports.now) (drop (length x.listed.now) x.imports.now) e (subst (λ (es : List (Name × ItemKind)). Contains es e) (sym (all-imports-are x)) there)) [
    | inl w ↦ may.held imported e.0 e.1 false w
    | inr w ↦ may.held imported e.0 e.1 true w
  ]

  pub listed-fit : length x.listed.now ≤ length x.imports.now
  listed-fit = subst (λ (es : List (Name × ItemKind)). length es ≤ length x.imports.now) planned.listed (taken-length (length x.listed.now) x.imports.now)

  -- an item at a position

  pub import-item : (p : ℕ) (n : Name) (k : ItemKind) (a : Bool) → slice_get x.imports.now p ≡ Some (n, k) → a ≡ nat_le (length x.listed.now) p → IsItemOf (sides_in x) imported n k a
  import-item p n k a at is = by a is
    where
      in-taken : (xs : List (Name × ItemKind)) (m p : ℕ) → slice_get xs p ≡ Some (n, k) → nat_le m p ≡ false → Contains (take m xs) (n, k)
      in-taken xs m p at low = at_in (take m xs) p (n, k) (taken-at xs m p (n, k) at low)

      by : (a : Bool) → a ≡ nat_le (length x.listed.now) p → IsItemOf (sides_in x) imported n k a
      by false is = in-taken x.imports.now (length x.listed.now) p at (sym is)
      by true is = dropped-in x.imports.now (length x.listed.now) p (n, k) at (sym is)

  pub export-item : (p : ℕ) (n : Name) (k : ItemKind) → slice_get x.exports.now p ≡ Some (n, k) → IsItemOf (sides_in x) exported n k false
  export-item p n k at = at_in x.exports.now p (n, k) at

  pub number-of : (side : Side) (p : ℕ) (n : Name) (k : ItemKind) → slice_get (side_list x side) p ≡ Some (n, k) → slice_get (numbered_items (sides_in x)) (first_number x side + p) ≡ Some (side_item side n)
  number-of side p n k at =
      subst (λ (m : ℕ). slice_get (numbered_items (sides_in x)) (m + p) ≡ Some (side_item side n)) (first-is x side)
      (number-at (sides_in x) c side p (n, k) (subst (λ (es : List (Name × ItemKind)). slice_get es p ≡ Some (n, k)) (sym (side-list-is c x side)) at))

  -- The finished component type has the tree of the sides.
  pub finished : (st : State) → AreSidesWritten c b x st → component ((innermost (stack b st)).imports) ((innermost (stack b st)).exports) ≡ sides_tree c (sides_in x)
  finished st done =
      let (xs, all, was) = done in
      all-written c b (sides_in x) xs st was (λ side e there. all side e (subst (λ (es : List (Name × ItemKind)). Contains es e) (side-list-is c x side) there))
