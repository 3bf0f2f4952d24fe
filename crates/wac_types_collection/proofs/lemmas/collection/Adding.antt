-- A collection keeps its laws as items are added against which nothing stands.
use Rattle.std.proofs.Common.{ℕ, zero, suc, Bool, true, false, List, [], ◌∷◌, ◌++◌, ◌≡◌, refl, sym, ◌∙◌, subst, Option, Some, None}
use Rattle.wac_types_shapes.specs.primitives.Name.{first_some}
use Rattle.wac_types_shapes.specs.shapes.Named.{NoNameTwice}
use Rattle.wac_types_collection.specs.declared.collection.collection.Held.{Held}
use Rattle.wac_types_collection.specs.declared.collection.collection.AddTypeError.{AddTypeError}
use Rattle.wac_types_shapes.specs.declared.shapes.component.Resource.{Resource}
use Rattle.wac_types_shapes.specs.declared.shapes.component.FuncType.{FuncType}
use Rattle.wac_types_shapes.specs.declared.shapes.component.DefinedType.{DefinedType}
use Rattle.wac_types_shapes.specs.declared.shapes.component.Interface.{Interface}
use Rattle.wac_types_shapes.specs.declared.shapes.component.World.{World}
use Rattle.wac_types_shapes.specs.declared.shapes.core_types.ModuleType.{ModuleType}
use Rattle.wac_types_collection.specs.collection.Collection.{Collection, size, Each, IsKeptBy, resource_mentions, func_mentions, defined_mentions, interface_mentions, world_mentions, holds_all, with_resource, with_func, with_defined, with_interface, with_world, with_module, item_at}
use Rattle.wac_types_collection.specs.collection.Names.{HasDistinctNames}
use Rattle.wac_types_collection.specs.collection.Uses.{interface_fault, world_fault, unless, IsSound}
use Rattle.wac_types_collection.specs.private.collection.Lawful.{IsLawful}
use Rattle.wac_types_collection.proofs.lemmas.collection.Growth.{added, each_grown, all_before, keeps_resource, keeps_func, keeps_defined, keeps_interface, keeps_world, keeps_module, resource_well_formed, func_well_formed, defined_well_formed, interface_well_formed, world_well_formed, module_well_formed}
use Rattle.wac_types_collection.proofs.lemmas.collection.Steady.{interface_same, world_same}

-- against an item that stands in the way of none all mentions are held
held_then : (b : Bool) (e : AddTypeError) (o : Option AddTypeError) → first_some (unless b e) o ≡ None → b ≡ true
held_then true e o h = refl
held_then false e o h = cc

-- what holds of each item of a list, and of one after them
module _ {A : Type 0} (P : A → Type 0) where
  items_grown : (xs : List (Held A)) (y : Held A) → ((i : ℕ) (x : A) → item_at xs i ≡ Some x → P x) → P y.item → (i : ℕ) (x : A) → item_at (xs ++ y ∷ []) i ≡ Some x → P x
  items_grown [] y each new zero x is = subst P (same y.item x is) new
    where
      same : (u v : A) → Some u ≡ Some v → u ≡ v
      same u v h = cc
  items_grown [] y each new (suc i) x is = each i x is
  items_grown (z ∷ xs) y each new zero x is = each zero x is
  items_grown (z ∷ xs) y each new (suc i) x is = items_grown xs y (λ j. each (suc j)) new i x is

-- the names of a collection with the same interfaces and worlds
names_still : (c d : Collection) → d.interfaces ≡ c.interfaces → d.worlds ≡ c.worlds → HasDistinctNames c → HasDistinctNames d
names_still c d is ws h = record {
  interfaces = λ i it at. h.interfaces i it (subst (λ (xs : List (Held Interface)). item_at xs i.0 ≡ Some it) is at);
  worlds = λ i w at. h.worlds i w (subst (λ (xs : List (Held World)). item_at xs i.0 ≡ Some w) ws at);
}

module _ (c d : Collection) (law : IsLawful c) (g : IsKeptBy c d) where
  interfaces_still : Each c.interfaces (λ h. interface_fault d h.item ≡ None)
  interfaces_still i h is = interface_same c d law.ordered g h.before h.item (law.ordered.interfaces i h is).1 ∙ law.sound.interfaces i h is

  worlds_still : Each c.worlds (λ h. world_fault d h.item ≡ None)
  worlds_still i h is = world_same c d law.ordered g h.before h.item (law.ordered.worlds i h is).1 ∙ law.sound.worlds i h is

  interface_new : (x : Interface) → interface_fault c x ≡ None → interface_fault d x ≡ None
  interface_new x h = interface_same c d law.ordered g (size c) x (all_before c law.ordered (interface_mentions x) (held_then _ _ _ h)) ∙ h

  world_new : (x : World) → world_fault c x ≡ None → world_fault d x ≡ None
  world_new x h = world_same c d law.ordered g (size c) x (all_before c law.ordered (world_mentions x) (held_then _ _ _ h)) ∙ h

  sound_still : d.interfaces ≡ c.interfaces → d.worlds ≡ c.worlds → IsSound d
  sound_still is ws = record {
    interfaces = subst (λ (xs : List (Held Interface)). Each xs (λ h. interface_fault d h.item ≡ None)) (sym is) interfaces_still;
    worlds = subst (λ (xs : List (Held World)). Each xs (λ h. world_fault d h.item ≡ None)) (sym ws) worlds_still;
  }

pub resource_lawful : (c : Collection) → IsLawful c → (x : Resource) → holds_all c (resource_mentions x) ≡ true → IsLawful (with_resource c x)
resource_lawful c law x h = record { ordered = resource_well_formed c law.ordered x h; sound = sound_still c (with_resource c x) law (keeps_resource c x) refl refl; named = names_still c (with_resource c x) refl refl law.named }

pub func_lawful : (c : Collection) → IsLawful c → (x : FuncType) → holds_all c (func_mentions x) ≡ true → IsLawful (with_func c x)
func_lawful c law x h = record { ordered = func_well_formed c law.ordered x h; sound = sound_still c (with_func c x) law (keeps_func c x) refl refl; named = names_still c (with_func c x) refl refl law.named }

pub defined_lawful : (c : Collection) → IsLawful c → (x : DefinedType) → holds_all c (defined_mentions x) ≡ true → IsLawful (with_defined c x)
defined_lawful c law x h = record { ordered = defined_well_formed c law.ordered x h; sound = sound_still c (with_defined c x) law (keeps_defined c x) refl refl; named = names_still c (with_defined c x) refl refl law.named }

pub module_lawful : (c : Collection) → IsLawful c → (x : ModuleType) → IsLawful (with_module c x)
module_lawful c law x = record { ordered = module_well_formed c law.ordered x; sound = sound_still c (with_module c x) law (keeps_module c x) refl refl; named = names_still c (with_module c x) refl refl law.named }

pub interface_lawful : (c : Collection) → IsLawful c → (x : Interface) → interface_fault c x ≡ None → NoNameTwice x.exports → IsLawful (with_interface c x)
interface_lawful c law x h once =
    let d = with_interface c x in
    let g = keeps_interface c x in
    let sound : IsSound d = record { interfaces = each_grown _ c.interfaces _ (interfaces_still c d law g) (interface_new c d law g x h); worlds = worlds_still c d law g } in
    let named : HasDistinctNames d = record {
      interfaces = λ i it at. items_grown (λ (y : Interface). NoNameTwice y.exports) c.interfaces (added c x) (λ j. law.named.interfaces (record { 0 = j })) once i.0 it at;
      worlds = law.named.worlds;
    } in
    record { ordered = interface_well_formed c law.ordered x (held_then _ _ _ h); sound = sound; named = named }

pub world_lawful : (c : Collection) → IsLawful c → (x : World) → world_fault c x ≡ None → NoNameTwice x.imports × NoNameTwice x.exports → IsLawful (with_world c x)
world_lawful c law x h once =
    let d = with_world c x in
    let g = keeps_world c x in
    let sound : IsSound d = record { interfaces = interfaces_still c d law g; worlds = each_grown _ c.worlds _ (worlds_still c d law g) (world_new c d law g x h) } in
    let named : HasDistinctNames d = record {
      interfaces = law.named.interfaces;
      worlds = λ i w at. items_grown (λ (y : World). NoNameTwice y.imports × NoNameTwice y.exports) c.worlds (added c x) (λ j. law.named.worlds (record { 0 = j })) once i.0 w at;
    } in
    record { ordered = world_well_formed c law.ordered x (held_then _ _ _ h); sound = sound; named = named }

-- where no fault is found there is none
pub no_fault : (o p : Option AddTypeError) → ((x : AddTypeError) → o ≡ Some x → ⊥) → o ≡ p → p ≡ None
no_fault None p f e = sym e
no_fault (Some x) p f e = absurd (f x refl)
