-- A component type is begun and finished.
use Rattle.std.proofs.Common.{ℕ, ◌≡◌, ◌+◌, ◌<◌, Bool, true, false, List, [], ◌∷◌, ◌++◌, take, drop, length, arith, Option, Some, None, Contains, refl, ap, sym, ◌∙◌, subst, inl, inr}
use Rattle.std.specs.List.{flat_map}
use Rattle.std.proofs.Math.Path.{fun_ext}
use Rattle.wac_types_shapes.specs.primitives.Name.{Name, option_case}
use Rattle.wac_types_shapes.specs.primitives.Tree.{Side, imported, exported, Tree, absent, component}
use Rattle.wac_types_shapes.specs.shapes.Kinds.{kind_type}
use Rattle.wac_types_shapes.specs.shapes.Named.{NoNameTwice}
use Rattle.wac_types_shapes.specs.declared.shapes.component.InterfaceId.{InterfaceId}
use Rattle.wac_types_shapes.specs.declared.shapes.component.Interface.{Interface}
use Rattle.wac_types_shapes.specs.declared.shapes.component.ItemKind.{ItemKind}
use Rattle.wac_types_shapes.specs.declared.shapes.component.ItemKind.TheVariants as kind
use Rattle.wac_types_shapes.specs.declared.shapes.component.«Type».TheVariants as ty
use Rattle.wac_types_collection.specs.collection.Collection.{Collection, item_at, holds_type}
use Rattle.wac_types_collection.specs.collection.Bound.{Bindings}
use Rattle.wac_types_collection.specs.wide.Wide.{AreThere}
use Rattle.wac_types_collection.proofs.lemmas.wide.Members.{in_none, in_one, in_either, flat_in}
use Rattle.wac_encode_stacks.specs.Scopes.{scope_of, envs}
use Rattle.wac_encode_stacks.specs.Good.{Good, innermost, nothing_bound}
use Rattle.wac_encode_stacks.specs.Listed.{on_side}
use Rattle.wac_encode_scopes.specs.declared.encodable.Encodable.{Encodable}
use Rattle.wac_encode_scopes.specs.declared.encodable.Encodable.TheVariants.{Component}
use Rattle.wac_encode_scopes.specs.declared.state.State.{State}
use Rattle.wac_encode_scopes.specs.private.Components.{IsComponentType}
use Rattle.wac_encode_scopes.specs.Contents.{content_of}
use Rattle.wac_encode_scopes.specs.States.{outward, stack}
use Rattle.wac_encode_faults.specs.Sides.{Sides, all_imports, parted_sides, export_bindings, under_id}
use Rattle.wac_encode_faults.specs.Cycle.{numbered_items, AreOwners}
use Rattle.wac_encode_interfaces.specs.declared.sides.Sides.{Sides as GivenSides}
use Rattle.wac_encode_interfaces.specs.declared.sides.Parts.{Parts}
use Rattle.wac_encode_interfaces.specs.private.Given.{sides_of, AreHeldItems, AreHeldSides, HaveSidesWorlds}
use Rattle.wac_encode_interfaces.specs.private.Ready.{AreSidesClean}
use Rattle.wac_encode_interfaces.specs.private.Worlds.{Worlds, HaveWorlds, HaveInterfaceWorlds}
use Rattle.wac_encode_interfaces.specs.private.Written.{bound_so_far, listed_so_far, IsWritten, IsItemOf, AreWritable}
use Rattle.wac_encode_interfaces.specs.private.Parts.{sides_in, ArePlanned}
use Rattle.wac_encode_interfaces.proofs.Bound.{no-some}
use Rattle.wac_encode_interfaces.proofs.Items.{bottom-alone}

-- Nothing is written in a component type that is begun.
pub start-written : (c : Collection) (b : Bool) (s : Sides) (st : State) → Good c (nothing_bound ∷ []) (stack b st) → st.here.content ≡ Component [] → IsWritten c b s [] st
start-written c b s st good content = record {
  around = bottom-alone c b nothing_bound st good;
  content = subst IsComponentType (sym content) tt;
  good = subst (λ (m : Bindings). Good c (m ∷ []) (stack b st)) nothing good;
  listed = λ side n. ap (λ (x : Encodable). on_side side (scope_of (content_of x) (envs (outward b st.around.items))) n) content ∙ none-listed side n;
}
  where
    nothing : nothing_bound ≡ bound_so_far c s []
    nothing = fun_ext (λ r. refl)

    none-listed : (side : Side) (n : Name) → on_side side (scope_of (content_of (Component [])) (envs (outward b st.around.items))) n ≡ listed_so_far c s [] side n
    none-listed imported n = refl
    none-listed exported n = refl

-- the sides as they are given

pub under-instance : (c : Collection) (i : InterfaceId) (e : Name × ItemKind) → Contains (under_id c i) e → e.1 ≡ kind.Instance i
under-instance c i e h = by (item_at c.interfaces i.0) h
  where
    by-id : (d : Option Name) → Contains {X = Name × ItemKind} (option_case d [] (λ id. (id, kind.Instance i) ∷ [])) e → e.1 ≡ kind.Instance i
    by-id None h = absurd (in_none e h)
    by-id (Some id) h = ap (λ (x : Name × ItemKind). x.1) (in_one (id, kind.Instance i) e h)

    by : (o : Option Interface) → Contains {X = Name × ItemKind} (option_case o [] (λ it. option_case it.id [] (λ id. (id, kind.Instance i) ∷ []))) e → e.1 ≡ kind.Instance i
    by None h = absurd (in_none e h)
    by (Some it) h = by-id it.id h

pub one-instance : (i j : InterfaceId) → kind.Instance i ≡ kind.Instance j → i ≡ j
one-instance i j h = cc

module _ (c : Collection) (ws : Worlds) (x : GivenSides) (held : AreHeldSides c x) (clean : AreSidesClean c (sides_of c x)) (worlds : HaveSidesWorlds c ws x) where
  additional-from : (n : Name) (k : ItemKind) → Contains (flat_map (under_id c) x.additional.now) (n, k) → (i : InterfaceId) × Contains x.additional.now i × (k ≡ kind.Instance i)
  additional-from n k h = let (i, there, at) = flat_in (under_id c) x.additional.now (n, k) h in (i, there, under-instance c i (n, k) at)

  there-holds : (i : InterfaceId) → i.0 < length c.interfaces → holds_type c (ty.Interface i) ≡ true
  there-holds i h = grind arith

  additional-held : (n : Name) (k : ItemKind) → Contains (flat_map (under_id c) x.additional.now) (n, k) → holds_type c (kind_type k) ≡ true
  additional-held n k h = let (i, among, is) = additional-from n k h in ap (λ (j : ItemKind). holds_type c (kind_type j)) is ∙ there-holds i (held.additional i among)

  -- All imports are of the collection.
  pub joined-held : (es : List (Name × ItemKind)) → es ≡ x.imports.now ++ flat_map (under_id c) x.additional.now → AreHeldItems c es
  joined-held es is e there = elim (in_either x.imports.now (flat_map (under_id c) x.additional.now) e (subst (λ (l : List (Name × ItemKind)). Contains l e) is there)) [
    | inl w ↦ held.imports e w
    | inr w ↦ additional-held e.0 e.1 w
  ]

  pub writable : NoNameTwice (all_imports (sides_of c x)) → NoNameTwice x.exports.now → AreWritable c ws (sides_of c x)
  writable imports_once exports_once = record {
    imports_once = imports_once;
    exports_once = exports_once;
    instances = λ n k there. let (i, among, is) = additional-from n k there in (i, is);
    held = held-item;
    worlds = item-worlds;
    types_worlds = λ n i there. let (j, among, is) = additional-from n (kind.Instance i) there in worlds.additional i (subst (Contains x.additional.now) (sym (one-instance i j is)) among);
    clean = clean;
  }
    where
      held-item : (side : Side) (n : Name) (k : ItemKind) (additional : Bool) → IsItemOf (sides_of c x) side n k additional → holds_type c (kind_type k) ≡ true
      held-item imported n k false item = held.imports (n, k) item
      held-item imported n k true item = additional-held n k item
      held-item exported n k false item = held.exports (n, k) item
      held-item exported n k true item = absurd item

      item-worlds : (side : Side) (n : Name) (k : ItemKind) → IsItemOf (sides_of c x) side n k false → HaveWorlds c ws (kind_type k)
      item-worlds imported n k item = worlds.imports (n, k) item
      item-worlds exported n k item = worlds.exports (n, k) item

-- parts

taken-first : (xs ys : List (Name × ItemKind)) → take (length xs) (xs ++ ys) ≡ xs
taken-first [] ys = refl
taken-first (x ∷ xs) ys = ap (λ (zs : List (Name × ItemKind)). x ∷ zs) (taken-first xs ys)

dropped-first : (xs ys : List (Name × ItemKind)) → drop (length xs) (xs ++ ys) ≡ ys
dropped-first [] ys = refl
dropped-first (x ∷ xs) ys = dropped-first xs ys

-- The parts of given sides.
pub parts-are : (c : Collection) (x : GivenSides) (y : Parts) → y.uses.now ≡ x.uses.now → y.listed.now ≡ x.imports.now → y.imports.now ≡ x.imports.now ++ flat_map (under_id c) x.additional.now → y.exports.now ≡ x.exports.now → sides_in y ≡ sides_of c x
parts-are c x y uses listed all exports =
    let first : take (length y.listed.now) y.imports.now ≡ x.imports.now = (λ i. take (length (listed i)) (all i)) ∙ taken-first x.imports.now (flat_map (under_id c) x.additional.now) in
    let rest : drop (length y.listed.now) y.imports.now ≡ flat_map (under_id c) x.additional.now = (λ i. drop (length (listed i)) (all i)) ∙ dropped-first x.imports.now (flat_map (under_id c) x.additional.now) in
    (λ i. record { imports = first i; additional = rest i; exports = exports i; uses = uses i })

-- The parts of given sides can be written.
pub planned-parts : (c : Collection) (ws : Worlds) (x : GivenSides) → AreHeldSides c x → AreSidesClean c (sides_of c x) → HaveSidesWorlds c ws x → (y : Parts) (uses : y.uses.now ≡ x.uses.now) (listed : y.listed.now ≡ x.imports.now)
    (all : y.imports.now ≡ x.imports.now ++ flat_map (under_id c) x.additional.now) (exports : y.exports.now ≡ x.exports.now) → NoNameTwice y.imports.now → NoNameTwice x.exports.now
    → ((own : ℕ) → AreOwners (numbered_items (parted_sides y.uses.now own y.imports.now y.exports.now)) (export_bindings c (parted_sides y.uses.now own y.imports.now y.exports.now)) y.owners.now.entries) → ArePlanned c ws y
planned-parts c ws x held clean worlds y uses listed all exports imports_once exports_once owners = record {
  listed = (λ i. take (length (listed i)) (all i)) ∙ taken-first x.imports.now (flat_map (under_id c) x.additional.now) ∙ sym listed;
  writable = subst (λ (s : Sides). AreWritable c ws s) (sym (parts-are c x y uses listed all exports)) (writable c ws x held clean worlds (subst NoNameTwice all imports_once) exports_once);
  owners = owners (length y.listed.now);
}

-- The sides with all imports in one list are the given sides.
pub parted-are : (c : Collection) (x : GivenSides) (imports : List (Name × ItemKind)) → imports ≡ x.imports.now ++ flat_map (under_id c) x.additional.now → parted_sides x.uses.now (length x.imports.now) imports x.exports.now ≡ sides_of c x
parted-are c x imports all =
    let first : take (length x.imports.now) imports ≡ x.imports.now = ap (λ (es : List (Name × ItemKind)). take (length x.imports.now) es) all ∙ taken-first x.imports.now (flat_map (under_id c) x.additional.now) in
    let rest : drop (length x.imports.now) imports ≡ flat_map (under_id c) x.additional.now = ap (λ (es : List (Name × ItemKind)). drop (length x.imports.now) es) all ∙ dropped-first x.imports.now (flat_map (under_id c) x.additional.now) in
    (λ i. record { imports = first i; additional = rest i; exports = x.exports.now; uses = x.uses.now })
