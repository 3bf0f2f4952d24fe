-- The sides of definitions, and the types inside them.
use Rattle.std.proofs.Common.{ℕ, ◌≡◌, ◌<◌, nat_lt, true, List, [], ◌∷◌, length, Option, Some, None, Contains, refl, ap, sym, ◌∙◌, subst, inr, flat_map, arith}
use Rattle.wac_types_shapes.specs.primitives.Name.{Name, option_case}
use Rattle.wac_types_shapes.specs.shapes.Kinds.{kind_type}
use Rattle.wac_types_shapes.specs.declared.shapes.component.InterfaceId.{InterfaceId}
use Rattle.wac_types_shapes.specs.declared.shapes.component.ItemKind.{ItemKind}
use Rattle.wac_types_shapes.specs.declared.shapes.component.ItemKind.TheVariants as kind
use Rattle.wac_types_shapes.specs.declared.shapes.component.UsedType.{UsedType}
use Rattle.wac_types_shapes.specs.declared.shapes.component.World.{World}
use Rattle.wac_types_shapes.specs.declared.shapes.component.WorldId.{WorldId}
use Rattle.wac_types_shapes.specs.declared.shapes.component.«Type».{«Type» as AnyType}
use Rattle.wac_types_shapes.specs.declared.shapes.component.«Type».TheVariants as ty
use Rattle.wac_types_collection.specs.collection.Collection.{Collection, IsWellFormed, HasInterface, item_at, holds_type}
use Rattle.wac_types_collection.specs.wide.Wide.{each_once, wide_uses}
use Rattle.wac_types_collection.proofs.lemmas.wide.Members.{in_none, in_one, in_flat, flat_in}
use Rattle.wac_encode_faults.specs.Faults.{IsDefinedFault}
use Rattle.wac_encode_faults.specs.private.Ids.{HaveIds}
use Rattle.wac_encode_faults.specs.Sides.{Sides, under_id, reached, unlisted, id_or_empty, interface_sides, completed_sides, defined_sides}
use Rattle.wac_encode_interfaces.specs.declared.sides.Sides.{Sides as GivenSides}
use Rattle.wac_encode_interfaces.specs.private.Definitions.{HaveWorldsInside, AreDefinitionRoots}
use Rattle.wac_encode_interfaces.specs.private.Given.{sides_of, AreHeldItems, AreHeldSides, HaveSidesWorlds}
use Rattle.wac_encode_interfaces.specs.private.Worlds.{Worlds}
use Rattle.wac_encode_interfaces.specs.private.Defined.{AreSideRoots, AreDefinedRoots}
use Rattle.wac_encode_interfaces.specs.private.Roots.{side_roots}
use Rattle.wac_encode_interfaces.proofs.Begun.{under-instance, one-instance}
use Rattle.wac_encode_interfaces.proofs.RootTypes.{id-there, roots-held, roots-clean, roots-worlds}

-- ---- what the sides of a definition list

pub none-items : (c : Collection) (es : List (Name × ItemKind)) → es ≡ [] → AreHeldItems c es
none-items c es none e h = absurd (in_none e (subst (λ (l : List (Name × ItemKind)). Contains l e) none h))

there-holds : (c : Collection) (i : InterfaceId) → HasInterface c i → holds_type c (ty.Interface i) ≡ true
there-holds c i h = less i.0 (length c.interfaces) h
  where
    less : (a b : ℕ) → a < b → nat_lt a b ≡ true
    less a b l = grind arith

pub one-items : (c : Collection) (i : InterfaceId) (n : Name) (es : List (Name × ItemKind)) → HasInterface c i → es ≡ (n, kind.Instance i) ∷ [] → AreHeldItems c es
one-items c i n es there is e h =
    subst (λ (x : Name × ItemKind). holds_type c (kind_type x.1) ≡ true) (sym (in_one (n, kind.Instance i) e (subst (λ (l : List (Name × ItemKind)). Contains l e) is h))) (there-holds c i there)

-- Sides of which the additional imports are interfaces.
abbrev pub sides_from : Collection → List (Name × ItemKind) → List InterfaceId → List (Name × ItemKind) → List (Name × UsedType) → Sides
sides_from c imports additional exports uses = record { imports = imports; additional = flat_map (under_id c) additional; exports = exports; uses = uses }

pub interface-sides : (c : Collection) (i : InterfaceId) (imports : List (Name × ItemKind)) (additional : List InterfaceId) (exports : List (Name × ItemKind)) (uses : List (Name × UsedType)) (keys : List InterfaceId)
    → imports ≡ [] → uses ≡ [] → exports ≡ (id_or_empty c i, kind.Instance i) ∷ [] → additional ≡ keys → keys ≡ each_once (reached c (wide_uses c i)) → sides_from c imports additional exports uses ≡ interface_sides c i
interface-sides c i imports additional exports uses keys no_imports no_uses one given are =
    let all = given ∙ are in
    (λ k. record { imports = no_imports k; additional = flat_map (under_id c) (all k); exports = one k; uses = no_uses k })

pub world-sides : (c : Collection) (x : World) (additional keys : List InterfaceId) → additional ≡ keys → keys ≡ unlisted c x → sides_from c x.imports additional x.exports x.uses ≡ completed_sides c x
world-sides c x additional keys given are =
    let all = given ∙ are in
    (λ k. record { imports = x.imports; additional = flat_map (under_id c) (all k); exports = x.exports; uses = x.uses })

pub world-defined : (c : Collection) (w : WorldId) (x : World) → item_at c.worlds w.0 ≡ Some x → defined_sides c (ty.World w) ≡ Some (completed_sides c x)
world-defined c w x at = ap (λ (o : Option World). option_case o None (λ y. Some (completed_sides c y))) at

pub one-sides : (s t : Sides) → Some s ≡ Some t → s ≡ t
one-sides s t h = cc

-- ---- the worlds inside sides, as they are given

module _ (c : Collection) (ws : Worlds) (x : GivenSides) where
  pub worlds-given : HaveIds c x.additional.now → HaveWorldsInside c ws (sides_of c x) → HaveSidesWorlds c ws x
  worlds-given named have = record {
    imports = have.imports;
    exports = have.exports;
    additional = λ i there. let (n, under) = id-there c i (named i there) in have.additional n i (in_flat (under_id c) x.additional.now i (n, kind.Instance i) there under);
  }

  pub worlds-inside : HaveSidesWorlds c ws x → HaveWorldsInside c ws (sides_of c x)
  worlds-inside have = record {
    imports = have.imports;
    exports = have.exports;
    additional = λ n i there.
        let (j, among, at) = flat_in (under_id c) x.additional.now (n, kind.Instance i) there in
        have.additional i (subst (Contains x.additional.now) (sym (one-instance i j (under-instance c j (n, kind.Instance i) at))) among);
  }

-- ---- the types inside which worlds are written

pub are-roots : (c : Collection) → IsWellFormed c → (x : GivenSides) → AreHeldSides c x → HaveIds c x.additional.now → AreSideRoots c (sides_of c x) (side_roots c x)
are-roots c wf x held named = record {
  held = roots-held c wf x held;
  clean = λ clean. roots-clean c x named clean;
  enough = λ ws have. worlds-inside c ws x (roots-worlds c ws x have);
}

no-some : {A : Type 0} (x : A) → None ≡ Some x → ⊥
no-some x h = cc

pub definition-roots : (c : Collection) (a : AnyType) (roots : List AnyType) → AreDefinedRoots c a roots → (s : Sides) → defined_sides c a ≡ Some s → AreDefinitionRoots c a roots
definition-roots c a roots are s is = record {
  held = (are s is).held;
  clean = λ root clean. (are s is).clean (λ f h. clean f (inr (subst (λ (o : Option Sides). IsDefinedFault c root a o f) (sym is) h)));
  enough = λ ws have t at. (are t at).enough ws have;
}

pub no-roots : (c : Collection) (a : AnyType) (roots : List AnyType) → roots ≡ [] → defined_sides c a ≡ None → AreDefinitionRoots c a roots
no-roots c a roots empty none = record {
  held = λ t h. absurd (in_none t (subst (λ (l : List AnyType). Contains l t) empty h));
  clean = λ root clean t h. absurd (in_none t (subst (λ (l : List AnyType). Contains l t) empty h));
  enough = λ ws have s at. absurd (no-some s (sym none ∙ at));
}

pub no-sides : (c : Collection) (a : AnyType) → ((i : InterfaceId) → a ≡ ty.Interface i → ⊥) → ((w : WorldId) → a ≡ ty.World w → ⊥) → defined_sides c a ≡ None
no-sides c (ty.Interface i) one two = absurd (one i refl)
no-sides c (ty.World w) one two = absurd (two w refl)
no-sides c (ty.Resource r) one two = refl
no-sides c (ty.Func f) one two = refl
no-sides c (ty.Value v) one two = refl
no-sides c (ty.Module m) one two = refl
