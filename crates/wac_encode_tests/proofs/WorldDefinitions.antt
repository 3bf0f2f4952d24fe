-- Worlds that are defined without a fault.
use Rattle.std.specs.Prelude.{◌≡◌, ◌↔◌, true, false, List, [], Option, Some, None, Result, Ok, IfOk, IsSome, Contains}
use Rattle.std.specs.List.{flat_map}
use Rattle.std.proofs.Common.{sym, subst}
use Rattle.indexmap.specs.IndexSet.{IndexSet}
use Rattle.wac_types_shapes.specs.primitives.Name.{Name, option_case}
use Rattle.wac_types_shapes.specs.declared.shapes.component.InterfaceId.{InterfaceId}
use Rattle.wac_types_shapes.specs.declared.shapes.component.ItemKind.{ItemKind}
use Rattle.wac_types_shapes.specs.declared.shapes.component.ItemKind.TheVariants as kind
use Rattle.wac_types_shapes.specs.declared.shapes.component.ResourceId.{ResourceId}
use Rattle.wac_types_shapes.specs.declared.shapes.component.World.{World}
use Rattle.wac_types_shapes.specs.declared.shapes.component.WorldId.{WorldId}
use Rattle.wac_types_shapes.specs.declared.shapes.component.«Type».TheVariants as ty
use Rattle.wac_types_collection.specs.collection.Collection.{Collection, IsWellFormed, item_at}
use Rattle.wac_types_collection.specs.collection.Bound.{Bindings}
use Rattle.wac_types_collection.specs.wide.Wide.{AreThere}
use Rattle.wac_types_collection.proofs.lemmas.wide.Members.{in_none, in_left, in_right}
use Rattle.wac_encode_stacks.specs.Good.{nothing_bound}
use Rattle.wac_encode_faults.specs.declared.fault.WriteFault.{WriteFault}
use Rattle.wac_encode_faults.specs.declared.faults.Role.TheVariants as role
use Rattle.wac_encode_faults.specs.Faults.{IsLowest, HasFault}
use Rattle.wac_encode_faults.specs.Sides.{Sides, under_id, unlisted, completed_sides}
use Rattle.wac_encode_interfaces.specs.private.Clean.{AreCleanOrBound, IsCleanDefinition, IsDefinitionOfNoFault}
use Rattle.wac_encode_interfaces.specs.private.Given.{AreHeldSides, HaveSidesWorlds}
use Rattle.wac_encode_interfaces.specs.private.Ready.{AreSidesClean}
use Rattle.wac_encode_interfaces.specs.private.Worlds.{written_in}
use Rattle.wac_encode_interfaces.specs.declared.sides.Sides.{Sides as GivenSides}
use Rattle.wac_encode_interfaces.specs.declared.worlds.WorldTypes.{WorldTypes}
use Rattle.wac_encode_interfaces.proofs.WorldsAhead.{world-held-items, worlds-as}
use Rattle.wac_encode_tests.proofs.RootItems.{if-ok-is}

-- no resource is bound

none-bound : (rs : List ResourceId) → rs ≡ [] → (r : ResourceId) → Contains rs r ↔ IsSome (nothing_bound r)
none-bound rs empty r = (λ there. absurd (in_none r (subst (λ (l : List ResourceId). Contains l r) empty there)), λ some. let wrong : false ≡ true = some in cc)

-- a definition without a fault

-- The lowest fault of a world's definition, in a root that binds these resources.
abbrev IsFaultOfWorld : Collection → List ResourceId → WorldId → Option WriteFault → Type 0
IsFaultOfWorld c rs w o = (root : Bindings) → ((r : ResourceId) → Contains rs r ↔ IsSome (root r)) → IsLowest (HasFault c root role.Defined (kind.Component w)) o

pub definable : {E : Type 0} → IsDefinitionOfNoFault → (c : Collection) (w : WorldId) (rs : List ResourceId) → rs ≡ [] → (res : Result (Option WriteFault) E) (x : Option WriteFault) → res ≡ Ok x → IfOk res (IsFaultOfWorld c rs w) → x ≡ None
    → IsCleanDefinition c nothing_bound (ty.World w)
definable {E} law c w rs empty res x is all none =
    law c nothing_bound (kind.Component w) (subst (λ (o : Option WriteFault). IsFaultOfWorld c rs w o) none (if-ok-is (IsFaultOfWorld c rs w) res x is all) nothing_bound (none-bound rs empty))

-- the interfaces that a definition imports in addition

pub set-is : {E S : Type 0} (P : List InterfaceId → Type 0) (res : Result (IndexSet InterfaceId S) E) (x : IndexSet InterfaceId S) → res ≡ Ok x → IfOk res (λ s. P s.keys) → P x.keys
set-is {E} {S} P res x is h = if-ok-is (λ (s : IndexSet InterfaceId S). P s.keys) res x is h

-- the sides of a world's definition

abbrev pub sides-with : Collection → World → List InterfaceId → Sides
sides-with c x ids = record { imports = x.imports; additional = flat_map (under_id c) ids; exports = x.exports; uses = x.uses }

pub held-world : {s : GivenSides} (c : Collection) → IsWellFormed c → (w : WorldId) (x : World) → item_at c.worlds w.0 ≡ Some x → s.imports.now ≡ x.imports → s.exports.now ≡ x.exports → AreThere c s.additional.now → AreHeldSides c s
held-world {s} c wf w x at imports exports there = record {
  imports = λ e h. world-held-items c wf w x at e (in_left x.imports x.exports e (subst (λ (es : List (Name × ItemKind)). Contains es e) imports h));
  exports = λ e h. world-held-items c wf w x at e (in_right x.imports x.exports e (subst (λ (es : List (Name × ItemKind)). Contains es e) exports h));
  additional = there;
}

pub clean-world : (c : Collection) (m : Bindings) (w : WorldId) (x : World) (ids : List InterfaceId) → IsCleanDefinition c m (ty.World w) → item_at c.worlds w.0 ≡ Some x → ids ≡ unlisted c x → AreSidesClean c (sides-with c x ids)
clean-world c m w x ids clean at is =
    subst (λ (l : List InterfaceId). AreSidesClean c (sides-with c x l)) (sym is)
    (subst (λ (o : Option World). AreCleanOrBound c m (ty.World w) (option_case o None (λ y. Some (completed_sides c y)))) at clean.parts)

-- as a writer of the same collection says it

pub clean-as : (c d : Collection) (x : World) (ids : List InterfaceId) → d ≡ c → AreSidesClean c (sides-with c x ids) → AreSidesClean d (sides-with d x ids)
clean-as c d x ids same h = subst (λ (z : Collection). AreSidesClean z (sides-with z x ids)) (sym same) h

pub inner-as : {E : Type 0} {s : GivenSides} (c d : Collection) (res : Result WorldTypes E) (ws vs : WorldTypes) → res ≡ Ok ws → d ≡ c → vs ≡ ws → IfOk res (λ us. HaveSidesWorlds c (written_in us) s) → HaveSidesWorlds d (written_in vs) s
inner-as {E} {s} c d res ws vs is same writer h = worlds-as c d ws vs same writer (if-ok-is (λ (us : WorldTypes). HaveSidesWorlds c (written_in us) s) res ws is h)
