-- `==` tells names of resources apart by what they stand for.
use Rattle.std.proofs.Common.{◌≡◌, true, nat_eq, [], refl, ap, eq-eqb}
use Rattle.std.proofs.lemmas.Bool.{eqb-true, and_parts as both}
use Rattle.std.specs.Cmp.Lexicographic.{pointwise}
use Rattle.std.specs.Prelude.{string_bytes}
use Rattle.wac_types_shapes.specs.primitives.Name.{Name}
use Rattle.wac_types_shapes.specs.primitives.Tree.{imported, Place, position, named, Leaf}
use Rattle.wac_types_collection.specs.subtyping.Called as spec
use Rattle.wac_types_shapes.specs.declared.shapes.component.ResourceId.{ResourceId}
use Rattle.wac_types_collection.specs.contracts.subtyping.called.CalledPartialEq.TheImpl as CalledEq
use Rattle.wac_types_collection.specs.contracts.subtyping.called.SidePartialEq.TheImpl as SideEq
use Rattle.wac_types_collection.specs.declared.subtyping.called.Side.{Side as ASide}
use Rattle.wac_types_collection.specs.declared.subtyping.called.Side.TheVariants.{Imported, Exported}
use Rattle.wac_types_collection.specs.declared.subtyping.called.Called.{Called}
use Rattle.wac_types_collection.specs.declared.subtyping.called.Called.TheVariants as called
use Rattle.wac_types_collection.specs.subtyping.CalledViews.{side_view, path_view, called_view}
use Rattle.wac_types_collection.proofs.lemmas.subtyping.Telling.{Tells, and_true, list_same, list_itself, Text, text_eq, text_tells}

side_there : (a b : ASide) → (SideEq.ghosts).eq a b ≡ true → side_view a ≡ side_view b
side_there Imported Imported e = refl
side_there Exported Exported e = refl
side_there _ _ e = cc e

side_back : (a b : ASide) → side_view a ≡ side_view b → (SideEq.ghosts).eq a b ≡ true
side_back Imported Imported e = refl
side_back Exported Exported e = refl
side_back _ _ e = cc e

abbrev place_view : Text → Place
place_view s = named (string_bytes s)

abbrev name_in : Place → Name
name_in (named n) = n
name_in (position i) = []

places_tell : Tells place_view text_eq
places_tell x y = (λ e. ap named ((text_tells x y).0 e), λ e. (text_tells x y).1 (ap name_in e))

abbrev leaf_in : spec.Called → Leaf
leaf_in (spec.bound_at l n) = l
leaf_in x = record { out = 0; side = imported; path = [] }

resource_there : (a b : ResourceId) → nat_eq a.0 b.0 ≡ true → a ≡ b
resource_there a b e = rw (eqb-true a.0 b.0 e) refl

pub called_there : (a b : Called) → (CalledEq.ghosts).eq a b ≡ true → called_view a ≡ called_view b
called_there (called.Bound o s p n) (called.Bound q t r m) e =
    let (x, rest) = both (nat_eq o q) _ e in
    let (y, more) = both ((SideEq.ghosts).eq s t) _ rest in
    let (z, w) = both (pointwise text_eq p.items r.items) (text_eq n m) more in
    rw (eqb-true o q x, side_there s t y, list_same place_view text_eq places_tell p.items r.items z, (text_tells n m).0 w) refl
called_there (called.OfClass k p n) (called.OfClass l r m) e =
    let (x, rest) = both (nat_eq k l) _ e in
    let (z, w) = both (pointwise text_eq p.items r.items) (text_eq n m) rest in
    rw (eqb-true k l x, list_same place_view text_eq places_tell p.items r.items z, (text_tells n m).0 w) refl
called_there (called.Itself a n) (called.Itself b m) e =
    let (x, w) = both (nat_eq a.0 b.0) (text_eq n m) e in
    rw (resource_there a b x, (text_tells n m).0 w) refl
called_there _ _ e = cc e

pub called_back : (a b : Called) → called_view a ≡ called_view b → (CalledEq.ghosts).eq a b ≡ true
called_back (called.Bound o s p n) (called.Bound q t r m) e =
    and_true (nat_eq o q) _ (eq-eqb o q (out e)) (and_true ((SideEq.ghosts).eq s t) _ (side_back s t (side e)) (and_true (pointwise text_eq p.items r.items) (text_eq n m) (list_itself place_view text_eq places_tell p.items r.items (path e)) ((text_tells n m).1 (name e)))) where
      V : Type 0
      V = called_view (called.Bound o s p n) ≡ called_view (called.Bound q t r m)

      out : V → o ≡ q
      out e = ap (λ x. (leaf_in x).out) e

      side : V → side_view s ≡ side_view t
      side e = ap (λ x. (leaf_in x).side) e

      path : V → path_view p.items ≡ path_view r.items
      path e = ap (λ x. (leaf_in x).path) e

      name : V → string_bytes n ≡ string_bytes m
      name e = cc
called_back (called.OfClass k p n) (called.OfClass l r m) e =
    and_true (nat_eq k l) _ (eq-eqb k l (class e)) (and_true (pointwise text_eq p.items r.items) (text_eq n m) (list_itself place_view text_eq places_tell p.items r.items (path e)) ((text_tells n m).1 (name e))) where
      V : Type 0
      V = called_view (called.OfClass k p n) ≡ called_view (called.OfClass l r m)

      class : V → k ≡ l
      class e = cc

      path : V → path_view p.items ≡ path_view r.items
      path e = cc

      name : V → string_bytes n ≡ string_bytes m
      name e = cc
called_back (called.Itself a n) (called.Itself b m) e = and_true (nat_eq a.0 b.0) (text_eq n m) (eq-eqb a.0 b.0 (itself e)) ((text_tells n m).1 (name e)) where
  V : Type 0
  V = called_view (called.Itself a n) ≡ called_view (called.Itself b m)

  itself : V → a.0 ≡ b.0
  itself e = cc

  name : V → string_bytes n ≡ string_bytes m
  name e = cc
called_back _ _ e = cc e

pub called_tells : Tells called_view (CalledEq.ghosts).eq
called_tells x y = (called_there x y, called_back x y)
