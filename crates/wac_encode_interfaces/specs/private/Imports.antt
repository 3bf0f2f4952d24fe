-- Items that the root imports.
use Rattle.std.specs.Prelude.{ℕ, ◌≡◌, Bool, true, false, not, List, [], ◌∷◌, ◌++◌, Option, Some, None}
use Rattle.wac_types_shapes.specs.primitives.Name.{Name}
use Rattle.wac_types_shapes.specs.primitives.Tree.{imported, Place, Tree}
use Rattle.wac_types_shapes.specs.shapes.Kinds.{kind_type}
use Rattle.wac_types_shapes.specs.declared.shapes.component.ItemKind.{ItemKind}
use Rattle.wac_types_shapes.specs.declared.shapes.component.ItemKind.TheVariants as kind
use Rattle.wac_types_shapes.specs.declared.shapes.component.ModuleTypeId.{ModuleTypeId}
use Rattle.wac_types_shapes.specs.declared.shapes.component.«Type».TheVariants as ty
use Rattle.wac_types_collection.specs.collection.Collection.{Collection, holds_type}
use Rattle.wac_types_collection.specs.collection.Bound.{Bindings, binds_here, held_item}
use Rattle.wac_binary.specs.declared.sorts.Description.{Description}
use Rattle.wac_binary.specs.declared.sorts.Description.TheVariants as e
use Rattle.wac_binary.specs.declared.sorts.Sort.{Sort}
use Rattle.wac_binary.specs.declared.sorts.Sort.TheVariants as sort
use Rattle.wac_binary.specs.Indexes.{space, described_sort}
use Rattle.wac_binary.specs.Meaning.{meaning}
use Rattle.wac_binary.specs.HasMeaning.{IsModule}
use Rattle.wac_binary.specs.Unfold.{Scope}
use Rattle.wac_encode_stacks.specs.Good.{At, Good, innermost, IsHeld, Onward}
use Rattle.wac_encode_stacks.specs.private.Beside.{all_written_as}
use Rattle.wac_encode_stacks.specs.Instances.{position_of}
use Rattle.wac_encode_scopes.specs.declared.encodable.Encodable.{Encodable}
use Rattle.wac_encode_scopes.specs.declared.state.State.{State}
use Rattle.wac_encode_scopes.specs.Contents.{AddsTypes, count_of}
use Rattle.wac_encode_scopes.specs.Roots.{items_of, and_import}
use Rattle.wac_encode_scopes.specs.States.{stack, IsTypeAt}
use Rattle.wac_encode_values.specs.private.Values.{IsReady}
use Rattle.wac_encode_faults.specs.Faults.{import_fault}
use Rattle.wac_encode_interfaces.specs.private.Items.{DescribesItem}
use Rattle.wac_encode_interfaces.specs.private.Ready.{IsClean}
use Rattle.wac_encode_interfaces.specs.private.Worlds.{Worlds, HaveWorlds}

-- An item can be imported, if it is no fresh resource: the resources that it mentions are bound, neither it nor anything
-- inside it has a fault, and the worlds inside are written.
pub record IsImportReady (c : Collection) (b : Bool) (ws : Worlds) (s : State) (k : ItemKind) : Type 0 where
  pub held : holds_type c (kind_type k) ≡ true
  pub ready : IsReady c b s (kind_type k)
  pub writable : import_fault k ≡ None
  pub clean : IsClean c (kind_type k)
  pub worlds : HaveWorlds c ws (kind_type k)

-- The type of a core module.
abbrev pub module_type_of : ItemKind → Option ModuleTypeId
module_type_of (kind.Module m) = Some m
module_type_of k = None

-- The core type index in the innermost scope refers to the type of the core module, under all bindings.
abbrev pub IsModuleAt : Collection → Bool → State → ModuleTypeId → ℕ → Type 0
IsModuleAt c b s k i = (t : Tree) × ((m : Bindings) → IsHeld c m (ty.Module k) t) × IsModule t × At ((innermost (stack b s)).core_types) i t

-- The description of the item as an import has an index in the innermost scope that refers to the item's type.
abbrev pub DescribesImport : Collection → Bool → State → ItemKind → Description → Type 0
DescribesImport c b s (kind.Component w) d = (i : ℕ) × (d ≡ e.Component i) × IsTypeAt c b s (ty.World w) i
DescribesImport c b s (kind.Module k) d = (i : ℕ) × (d ≡ e.CoreModule i) × IsModuleAt c b s k i
DescribesImport c b s (kind.TypeItem a) d = DescribesItem c b s (kind.TypeItem a) d
DescribesImport c b s (kind.Func f) d = DescribesItem c b s (kind.Func f) d
DescribesImport c b s (kind.Instance i) d = DescribesItem c b s (kind.Instance i) d
DescribesImport c b s (kind.Value v) d = ⊥

-- The sort of the index that an import adds.
abbrev pub import_sort : ItemKind → Sort
import_sort (kind.TypeItem t) = sort.«Type»
import_sort (kind.Func f) = sort.Func
import_sort (kind.Instance i) = sort.Instance
import_sort (kind.Component w) = sort.Component
import_sort (kind.Module m) = sort.CoreModule
import_sort (kind.Value v) = sort.Value

-- The index of an imported type item refers to its type, and that of an imported instance to the import at this place.
abbrev pub RefersToImport : Collection → Bindings → Scope → Place → ItemKind → ℕ → Type 0
RefersToImport c m w p (kind.TypeItem a) i = (t : Tree) × IsHeld c m a t × At w.types i t
RefersToImport c m w p (kind.Instance j) i = (t : Tree) × IsHeld c m (ty.Interface j) t × At w.instances i (record { type = t; side = imported; path = p ∷ [] })
RefersToImport c m w p k i = Unit {0}

-- The place of the root's next import.
abbrev pub next_place : State → Place
next_place s = position_of (items_of s.here.content)

-- The root, whose resources are bound by m, imports an item under a name, with the item's tree. The item has the index i.
pub record ImportsTree (c : Collection) (b : Bool) (n : Name) (k : ItemKind) (i : ℕ) (m : Bindings) (old new : State) : Type 0 where
  pub onward : Onward c (m ∷ []) (stack b old) (stack b new)
  pub imports : (meaning (items_of new.here.content)).imports ≡ (meaning (items_of old.here.content)).imports ++ (n, held_item c m imported (next_place old ∷ []) k) ∷ []
  pub refers : RefersToImport c m (innermost (stack b new)) (next_place old) k i

-- The root imports an item, which is no fresh resource.
abbrev pub ImportsOf : Collection → Bool → Name → ItemKind → State → State → ℕ → Type 0
ImportsOf c b n k old new i = (m : Bindings) → Good c (m ∷ []) (stack b old) → binds_here c m imported (next_place old ∷ []) k ≡ false → ImportsTree c b n k i m old new

-- An import is added to the content of the root, after types and aliases of types, and has the index i of its sort. What is
-- recorded of the other collection is unchanged.
pub record ImportsBeside (b : Bool) (n : Name) (k : ItemKind) (i : ℕ) (old new : State) : Type 0 where
  pub other : stack (not b) new ≡ all_written_as (stack b new) (stack (not b) old)
  pub between : Encodable
  pub types : AddsTypes old.here.content between
  pub description : Description
  pub content : new.here.content ≡ and_import n description between
  pub sorted : described_sort description ≡ import_sort k
  pub index : i ≡ count_of (space (described_sort description)) between
