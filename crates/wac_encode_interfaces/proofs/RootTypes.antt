-- The types of a component type's items.
use Rattle.std.proofs.Common.{ℕ, zero, suc, ◌+◌, true, List, [], ◌∷◌, ◌++◌, drop, append_assoc, Contains, Option, Some, ◌≡◌, ◌⊎◌, inl, inr, ap, sym, ◌∙◌, subst, arith, slice_get, flat_map}
use Rattle.wac_types_shapes.specs.primitives.Name.{Name, option_case}
use Rattle.wac_types_shapes.specs.shapes.Kinds.{kind_type}
use Rattle.wac_types_shapes.specs.declared.shapes.component.Interface.{Interface}
use Rattle.wac_types_shapes.specs.declared.shapes.component.InterfaceId.{InterfaceId}
use Rattle.wac_types_shapes.specs.declared.shapes.component.ItemKind.{ItemKind}
use Rattle.wac_types_shapes.specs.declared.shapes.component.ItemKind.TheVariants as kind
use Rattle.wac_types_shapes.specs.declared.shapes.component.«Type».{«Type» as AnyType}
use Rattle.wac_types_shapes.specs.declared.shapes.component.«Type».TheVariants as ty
use Rattle.wac_types_collection.specs.collection.Collection.{Collection, IsWellFormed, holds_type, interface_exports}
use Rattle.wac_types_collection.proofs.lemmas.wide.Members.{in_none, in_first, in_one, in_left, in_right, in_either, in_flat, flat_in}
use Rattle.wac_encode_faults.specs.Sides.{under_id}
use Rattle.wac_encode_faults.specs.private.Ids.{HasInterfaceId, HaveIds}
use Rattle.wac_encode_faults.specs.Faults.{IsListed, IsSidesFault}
use Rattle.wac_encode_interfaces.specs.declared.sides.Sides.{Sides as GivenSides}
use Rattle.wac_encode_interfaces.specs.private.Given.{sides_of, AreHeldSides, HaveSidesWorlds}
use Rattle.wac_encode_interfaces.specs.private.Ready.{IsClean, AreSidesClean}
use Rattle.wac_encode_interfaces.specs.private.Worlds.{Worlds, HaveWorlds}
use Rattle.wac_encode_interfaces.specs.private.Roots.{item_root, type_item_root, additional_roots, side_roots}
use Rattle.wac_encode_interfaces.proofs.InnerTypes.{listed-held}

-- ---- lists that grow by the parts of another
pub grown-by : {A B : Type 0} (f : A → List B) (x : A) (part rest : List A) (before now all : List B) → part ≡ x ∷ rest → now ≡ before ++ f x → before ++ flat_map f part ≡ all → now ++ flat_map f rest ≡ all
grown-by f x part rest before now all parts is was =
    ap (λ l. l ++ flat_map f rest) is ∙ append_assoc before (f x) (flat_map f rest) ∙ ap (λ l. before ++ flat_map f l) (sym parts) ∙ was

pub rest-at : {A : Type 0} (xs : List A) (n : ℕ) (x : A) → slice_get xs n ≡ Some x → drop n xs ≡ x ∷ drop (n + 1) xs
rest-at [] n x h = cc
rest-at (y ∷ xs) zero x h = ap (λ z. z ∷ xs) (first h)
  where
    first : Some y ≡ Some x → y ≡ x
    first h = cc
rest-at (y ∷ xs) (suc n) x h =
    let same : suc (n + 1) ≡ suc n + 1 = omega arith in
    rest-at xs n x h ∙ ap (λ (m : ℕ). x ∷ drop m (y ∷ xs)) same

-- ---- the types of sides
type-item-is : (k : ItemKind) (t : AnyType) → Contains (type_item_root k) t → k ≡ kind.TypeItem t
type-item-is (kind.TypeItem u) t h = ap kind.TypeItem (sym (in_one u t h))
type-item-is (kind.Func f) t h = absurd (in_none t h)
type-item-is (kind.Instance i) t h = absurd (in_none t h)
type-item-is (kind.Component w) t h = absurd (in_none t h)
type-item-is (kind.Module m) t h = absurd (in_none t h)
type-item-is (kind.Value v) t h = absurd (in_none t h)

-- an import or export, or a type item of an additional import
abbrev pub IsRootAmong : Collection → List (Name × ItemKind) → List (Name × ItemKind) → List InterfaceId → AnyType → Type 0
IsRootAmong c imports exports additional t = ((e : Name × ItemKind) × (Contains imports e ⊎ Contains exports e) × (kind_type e.1 ≡ t))
    ⊎ ((i : InterfaceId) × Contains additional i × IsListed (kind.TypeItem t) (interface_exports c i))

abbrev pub IsRoot : Collection → GivenSides → AnyType → Type 0
IsRoot c x t = IsRootAmong c x.imports.now x.exports.now x.additional.now t

of-items : (es : List (Name × ItemKind)) (t : AnyType) → Contains (flat_map item_root es) t → (e : Name × ItemKind) × Contains es e × (kind_type e.1 ≡ t)
of-items es t h = let (e, there, here) = flat_in item_root es t h in (e, there, sym (in_one (kind_type e.1) t here))

pub root-among : (c : Collection) (imports exports : List (Name × ItemKind)) (additional : List InterfaceId) (t : AnyType) → Contains ((flat_map item_root imports ++ flat_map item_root exports) ++ flat_map (additional_roots c) additional) t
    → IsRootAmong c imports exports additional t
root-among c imports exports additional t h = elim (in_either (flat_map item_root imports ++ flat_map item_root exports) (flat_map (additional_roots c) additional) t h) [
  | inl own ↦ elim (in_either (flat_map item_root imports) (flat_map item_root exports) t own) [
    | inl l ↦ (let (e, there, is) = of-items imports t l in inl (e, inl there, is))
    | inr r ↦ (let (e, there, is) = of-items exports t r in inl (e, inr there, is))
  ]
  | inr more ↦ (let (i, there, here) = flat_in (additional_roots c) additional t more in
      let (e, listed, one) = flat_in (λ (e : Name × ItemKind). type_item_root e.1) (interface_exports c i) t here in
      inr (i, there, (e.0, subst (λ (k : ItemKind). Contains (interface_exports c i) (e.0, k)) (type-item-is e.1 t one) listed)))
]

root-is : (c : Collection) (x : GivenSides) (t : AnyType) → Contains (side_roots c x) t → IsRoot c x t
root-is c x t h = root-among c x.imports.now x.exports.now x.additional.now t h

pub roots-held : (c : Collection) → IsWellFormed c → (x : GivenSides) → AreHeldSides c x → (t : AnyType) → Contains (side_roots c x) t → holds_type c t ≡ true
roots-held c wf x held t h = by (root-is c x t h)
  where
    by : IsRoot c x t → holds_type c t ≡ true
    by (inl (e, inl l, is)) = subst (λ z. holds_type c z ≡ true) is (held.imports e l)
    by (inl (e, inr r, is)) = subst (λ z. holds_type c z ≡ true) is (held.exports e r)
    by (inr (i, there, (n, listed))) = listed-held c wf (ty.Interface i) (n, kind.TypeItem t) listed

pub id-there : (c : Collection) (i : InterfaceId) → HasInterfaceId c i → (n : Name) × Contains (under_id c i) (n, kind.Instance i)
id-there c i (x, n, at, id) =
    let is : under_id c i ≡ (n, kind.Instance i) ∷ [] = ap (λ (o : Option Interface). option_case o [] (λ it. option_case it.id [] (λ id. (id, kind.Instance i) ∷ []))) at ∙ ap (λ (o : Option Name). option_case o [] (λ id. (id, kind.Instance i) ∷ [])) id in
    (n, subst (λ es. Contains es (n, kind.Instance i)) (sym is) (in_first (n, kind.Instance i) []))

pub roots-clean : (c : Collection) (x : GivenSides) → HaveIds c x.additional.now → AreSidesClean c (sides_of c x) → (t : AnyType) → Contains (side_roots c x) t → IsClean c t
roots-clean c x named clean t h = by (root-is c x t h)
  where
    item : (e : Name × ItemKind) → Contains (x.imports.now ++ x.exports.now) e → IsClean c (kind_type e.1)
    item e there f fault = clean f (IsSidesFault.of_items f (inr (e.1, (e.0, there), fault)))

    by : IsRoot c x t → IsClean c t
    by (inl (e, inl l, is)) = subst (IsClean c) is (item e (in_left x.imports.now x.exports.now e l))
    by (inl (e, inr r, is)) = subst (IsClean c) is (item e (in_right x.imports.now x.exports.now e r))
    by (inr (i, there, listed)) = λ f fault.
        let (n, under) = id-there c i (named i there) in
        clean f (IsSidesFault.of_additional n i f (in_flat (under_id c) x.additional.now i (n, kind.Instance i) there under) (t, listed, inr fault))

pub roots-worlds : (c : Collection) (ws : Worlds) (x : GivenSides) → ((t : AnyType) → Contains (side_roots c x) t → HaveWorlds c ws t) → HaveSidesWorlds c ws x
roots-worlds c ws x have = record {
  imports = λ e h. have (kind_type e.1) (in_left own more (kind_type e.1) (in_left first second (kind_type e.1) (in_flat item_root x.imports.now e (kind_type e.1) h (in_first (kind_type e.1) []))));
  exports = λ e h. have (kind_type e.1) (in_left own more (kind_type e.1) (in_right first second (kind_type e.1) (in_flat item_root x.exports.now e (kind_type e.1) h (in_first (kind_type e.1) []))));
  additional = λ i h t l. have t (in_right own more t (in_flat (additional_roots c) x.additional.now i t h (in_flat (λ (e : Name × ItemKind). type_item_root e.1) (interface_exports c i) (l.0, kind.TypeItem t) t l.1 (in_first t []))));
}
  where
    first : List AnyType
    first = flat_map item_root x.imports.now

    second : List AnyType
    second = flat_map item_root x.exports.now

    own : List AnyType
    own = flat_map item_root x.imports.now ++ flat_map item_root x.exports.now

    more : List AnyType
    more = flat_map (additional_roots c) x.additional.now
