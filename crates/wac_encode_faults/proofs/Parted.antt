-- Sides whose imports and additional imports are given in one list.
use Rattle.std.proofs.Common.{ℕ, ◌≤◌, true, List, [], ◌∷◌, ◌++◌, length, take, drop, Contains, Option, Some, None, ◌≡◌, inl, inr, refl, ap, sym, ◌∙◌, subst, flat_map, arith}
use Rattle.std.proofs.lemmas.List.{take_all, drop_all}
use Rattle.wac_types_shapes.specs.primitives.Name.{Name, option_case}
use Rattle.wac_types_shapes.specs.shapes.Kinds.{kind_type}
use Rattle.wac_types_shapes.specs.declared.shapes.component.Interface.{Interface}
use Rattle.wac_types_shapes.specs.declared.shapes.component.InterfaceId.{InterfaceId}
use Rattle.wac_types_shapes.specs.declared.shapes.component.ItemKind.{ItemKind}
use Rattle.wac_types_shapes.specs.declared.shapes.component.ItemKind.TheVariants as kind
use Rattle.wac_types_shapes.specs.declared.shapes.component.UsedType.{UsedType}
use Rattle.wac_types_collection.specs.collection.Collection.{Collection, item_at, holds_type}
use Rattle.wac_types_collection.specs.wide.Wide.{AreThere}
use Rattle.wac_types_collection.proofs.lemmas.wide.Members.{in_none, in_one, in_either, flat_in}
use Rattle.wac_encode_faults.specs.Sides.{Sides, parted_sides, under_id}
use Rattle.wac_encode_faults.specs.private.Binding.{sides_with}
use Rattle.wac_encode_faults.specs.private.Search.{AreHeld}
use Rattle.wac_encode_faults.proofs.Completed.{less_true}

-- The sides with these parts.
abbrev pub sides_of_parts : List (Name × UsedType) → List (Name × ItemKind) → List (Name × ItemKind) → List (Name × ItemKind) → Sides
sides_of_parts uses imports additional exports = record { imports = imports; additional = additional; exports = exports; uses = uses }

take_joined : {A : Type 0} (xs ys : List A) → take (length xs) (xs ++ ys) ≡ xs
take_joined [] ys = refl
take_joined (x ∷ xs) ys = ap (λ l. x ∷ l) (take_joined xs ys)

drop_joined : {A : Type 0} (xs ys : List A) → drop (length xs) (xs ++ ys) ≡ ys
drop_joined [] ys = refl
drop_joined (x ∷ xs) ys = drop_joined xs ys

-- of two lists
pub parted_joined : (uses : List (Name × UsedType)) (imports additional exports : List (Name × ItemKind)) → parted_sides uses (length imports) (imports ++ additional) exports ≡ sides_of_parts uses imports additional exports
parted_joined uses imports additional exports =
    ap (λ l. sides_of_parts uses l (drop (length imports) (imports ++ additional)) exports) (take_joined imports additional) ∙ ap (λ l. sides_of_parts uses imports l exports) (drop_joined imports additional)

-- of imports alone
pub parted_whole : (uses : List (Name × UsedType)) (imports exports : List (Name × ItemKind)) → parted_sides uses (length imports) imports exports ≡ sides_of_parts uses imports [] exports
parted_whole uses imports exports =
    let past : length imports ≤ length imports = omega arith in
    ap (λ l. sides_of_parts uses l (drop (length imports) imports) exports) (take_all (length imports) imports past) ∙ ap (λ l. sides_of_parts uses imports l exports) (drop_all (length imports) imports past)

-- of imports and interfaces
pub parted_with : (c : Collection) (uses : List (Name × UsedType)) (own : ℕ) (imports all exports : List (Name × ItemKind)) (is slice : List InterfaceId) → own ≡ length imports → slice ≡ is → all ≡ imports ++ flat_map (under_id c) slice
    → parted_sides uses own all exports ≡ sides_with c uses imports is exports
parted_with c uses own imports all exports is slice first same joined =
    ap (λ n. parted_sides uses n all exports) first ∙ ap (λ l. parted_sides uses (length imports) l exports) (joined ∙ ap (λ l. imports ++ flat_map (under_id c) l) same) ∙ parted_joined uses imports (flat_map (under_id c) is) exports

under_kind : (c : Collection) (i : InterfaceId) (e : Name × ItemKind) → Contains (under_id c i) e → e.1 ≡ kind.Instance i
under_kind c i e h = by (item_at c.interfaces i.0) h
  where
    of_id : (o : Option Name) → Contains {X = Name × ItemKind} (option_case o [] (λ id. (id, kind.Instance i) ∷ [])) e → e.1 ≡ kind.Instance i
    of_id None h = absurd (in_none e h)
    of_id (Some id) h = ap (λ (z : Name × ItemKind). z.1) (in_one (id, kind.Instance i) e h)

    by : (o : Option Interface) → Contains {X = Name × ItemKind} (option_case o [] (λ it. option_case it.id [] (λ id. (id, kind.Instance i) ∷ []))) e → e.1 ≡ kind.Instance i
    by None h = absurd (in_none e h)
    by (Some it) h = of_id it.id h

-- all imports are of the collection
pub joined_held : (c : Collection) (imports : List (Name × ItemKind)) (is : List InterfaceId) (all : List (Name × ItemKind)) → AreHeld c imports → AreThere c is → all ≡ imports ++ flat_map (under_id c) is → AreHeld c all
joined_held c imports is all held there joined e h = elim (in_either imports (flat_map (under_id c) is) e (subst (λ l. Contains l e) joined h)) [
  | inl w ↦ held e w
  | inr w ↦
      let (i, among, here) = flat_in (under_id c) is e w in
      subst (λ k. holds_type c (kind_type k) ≡ true) (sym (under_kind c i e here)) (less_true i.0 (length c.interfaces) (there i among))
]
