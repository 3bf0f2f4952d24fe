-- How interfaces are put in order; private functions alone cite this.
use Rattle.std.specs.Prelude.{ℕ, ◌≡◌, true, false, List, [], ◌∷◌, ◌++◌, map, take, reverse, Some, slice_get, Contains}
use Rattle.std.specs.List.{flat_map}
use Rattle.wac_types_shapes.specs.primitives.Name.{Name}
use Rattle.wac_types_shapes.specs.shapes.Kinds.{kind_type}
use Rattle.wac_types_shapes.specs.declared.shapes.component.InterfaceId.{InterfaceId}
use Rattle.wac_types_shapes.specs.declared.shapes.component.ItemKind.{ItemKind}
use Rattle.wac_types_shapes.specs.declared.shapes.component.«Type».{«Type» as AnyType}
use Rattle.wac_types_shapes.specs.declared.shapes.component.«Type».TheVariants as ty
use Rattle.wac_types_collection.specs.collection.Collection.{Collection, interface_exports}
use Rattle.wac_encode_faults.specs.declared.order.Step.{Step}
use Rattle.wac_encode_faults.specs.declared.order.Step.TheVariants as step
use Rattle.wac_types_collection.specs.wide.Wide.{interface_uses, used_interfaces, is_among, with_each}

-- The interface, if the type is one.
abbrev pub interface_of : AnyType → List InterfaceId
interface_of (ty.Interface i) = i ∷ []
interface_of (ty.World w) = []
interface_of (ty.Resource r) = []
interface_of (ty.Func f) = []
interface_of (ty.Value v) = []
interface_of (ty.Module m) = []

-- The interfaces that are types of the items.
abbrev pub interfaces_of : List (Name × ItemKind) → List InterfaceId
interfaces_of items = flat_map (λ e. interface_of (kind_type e.1)) items

-- The interfaces that are types of an interface's exports.
abbrev pub children : Collection → InterfaceId → List InterfaceId
children c i = interfaces_of (interface_exports c i)

-- Each interface is after its children.
abbrev pub IsOrdered : Collection → List InterfaceId → Type 0
IsOrdered c is = (p : ℕ) (i j : InterfaceId) → slice_get is p ≡ Some i → Contains (children c i) j → Contains (take p is) j

-- Steps into interfaces.
abbrev pub steps_into : List InterfaceId → List Step
steps_into is = map (λ i. step.Enter i) is

-- The interface of a step.
abbrev pub id_of : Step → InterfaceId
id_of (step.Enter i) = i
id_of (step.Leave i) = i

-- What a step does with the interfaces that are done and those that were seen, and with the steps that are pending.
abbrev pub Takes : Collection → Step → List InterfaceId → List InterfaceId → List Step → List InterfaceId → List InterfaceId → List Step → Type 0
Takes c (step.Enter i) done seen pending done_now seen_now pending_now =
    (done_now ≡ done) × (seen_now ≡ with_each seen (i ∷ [])) × (is_among seen i ≡ true → pending_now ≡ pending)
    × (is_among seen i ≡ false → pending_now ≡ (pending ++ step.Leave i ∷ []) ++ steps_into (children c i))
Takes c (step.Leave i) done seen pending done_now seen_now pending_now = (done_now ≡ with_each done (i ∷ [])) × (seen_now ≡ seen) × (pending_now ≡ pending)

-- What a step into or out of an interface that others use does with the interfaces that are done, and with the steps that are pending.
abbrev pub TakesUse : Collection → Step → List InterfaceId → List Step → List InterfaceId → List Step → Type 0
TakesUse c (step.Enter i) done pending done_now pending_now =
    (done_now ≡ done) × (is_among done i ≡ true → pending_now ≡ pending)
    × (is_among done i ≡ false → pending_now ≡ (pending ++ step.Leave i ∷ []) ++ reverse (steps_into (used_interfaces (interface_uses c i))))
TakesUse c (step.Leave i) done pending done_now pending_now = (done_now ≡ with_each done (i ∷ [])) × (pending_now ≡ pending)
