-- Resources that the component imports.
use Rattle.std.specs.Prelude.{ℕ, ◌≡◌, Bool, List, [], ◌∷◌, ◌++◌, Option, Some, None}
use Rattle.std.specs.List.{AllByRecursion}
use Rattle.wac_types_shapes.specs.primitives.Name.{Name}
use Rattle.wac_types_shapes.specs.primitives.Tree.{Leaf, Tree, fresh, type_equal, resource}
use Rattle.wac_types_shapes.specs.declared.shapes.component.ResourceId.{ResourceId}
use Rattle.wac_types_collection.specs.collection.Collection.{Collection}
use Rattle.wac_types_collection.specs.collection.Held.{resolved}
use Rattle.wac_types_collection.specs.collection.Bound.{Bindings}
use Rattle.wac_binary.specs.declared.sorts.Description.{Description}
use Rattle.wac_binary.specs.Items.{Item, import_item}
use Rattle.wac_binary.specs.Meaning.{meaning}
use Rattle.wac_encode_faults.specs.declared.fault.WriteFault.{WriteFault}
use Rattle.wac_encode_faults.specs.declared.fault.WriteFault.TheVariants as fault
use Rattle.wac_encode_stacks.specs.Good.{At, Keeps}
use Rattle.wac_encode_stacks.specs.Instances.{import_leaf}
use Rattle.wac_encode_stacks.specs.Listed.{calling}
use Rattle.wac_encode_scopes.specs.Contents.{IsTypeItem}
use Rattle.wac_encode.specs.declared.state.State.{State}
use Rattle.wac_encode.specs.Root.{written_items, component_scope, IsStateFor, KeepsOther}

-- A resource that is an alias and whose source is not bound is not imported.
abbrev pub HasImportedFault : Collection → Bindings → ResourceId → WriteFault → Type 0
HasImportedFault c m r f = (f ≡ fault.UnboundResource) × (m (resolved c r) ≡ None) × (resolved c r ≡ r → ⊥)

-- An import is appended, after types and aliases of types. Each index refers to what it referred to.
pub record AppendsImport (b : Bool) (name : Name) (old new : State) : Type 0 where
  pub between : List Item
  pub types : AllByRecursion IsTypeItem between
  pub description : Description
  pub added : written_items new ≡ (written_items old ++ between) ++ import_item name description ∷ []
  pub keeps : Keeps (component_scope old) (component_scope new)
  pub other : KeepsOther b old new

-- The component imports a type item with this tree under the name. Its type index k refers to the resource with this leaf. Then resources are
-- bound by m.
pub record ImportsTypeItem (c : Collection) (b : Bool) (name : Name) (t : Tree) (l : Leaf) (m : Bindings) (old new : State) (k : ℕ) : Type 0 where
  pub state : IsStateFor c b m new
  pub imports : (meaning (written_items new)).imports ≡ (meaning (written_items old)).imports ++ (name, t) ∷ []
  pub index : At ((component_scope new).types) k (resource l)

-- The import of a resource: equal to what the resource is bound to, or else fresh, and then the resource is bound to the import.
abbrev pub ImportsBound : Collection → Bool → Name → ResourceId → Bindings → Option Leaf → State → State → ℕ → Type 0
ImportsBound c b name r m (Some l) old new k = ImportsTypeItem c b name (type_equal (resource l)) l m old new k
ImportsBound c b name r m None old new k =
    ImportsTypeItem c b name fresh (import_leaf (written_items old)) (calling r (import_leaf (written_items old)) m) old new k
