-- How much is written in the root, besides its imports; only contracts inside the encoder cite this.
use Rattle.std.specs.Prelude.{ℕ, ◌+◌, ◌^◌, ◌≤◌, ◌<◌, ◌≡◌, false, if◌then◌else◌, List, Result, Ok, Err}
use Rattle.std.specs.List.{AllByRecursion}
use Rattle.wac_types_shapes.specs.primitives.Name.{Name}
use Rattle.wac_types_collection.specs.collection.Collection.{Collection}
use Rattle.wac_types_collection.specs.collection.Package.{PackageParts}
use Rattle.wac_binary.specs.declared.sorts.Sort.{Sort}
use Rattle.wac_encode_scopes.specs.declared.state.State.{State}
use Rattle.wac_encode_scopes.specs.private.Paid.{total}
use Rattle.wac_graph_model.specs.declared.causes.errors.EncodeError.{EncodeError}
use Rattle.wac_graph_model.specs.declared.causes.errors.EncodeError.TheVariants as error
use Rattle.wac_graph_model.specs.declared.nodes.options.EncodeOptions.{EncodeOptions}
use Rattle.wac_graph_model.specs.nodes.Graph.{Graph}
use Rattle.wac_graph_model.specs.private.weight.Costs.{component_cost}
use Rattle.wac_graph_model.specs.private.weight.Written.{components_cost, slots_cost}
use Rattle.wac_graph_reader.specs.declared.reading.encoder.Encoder.{Encoder}

-- The call charges the root at most n for the types of the collection. If the error is `TooLarge`, the root is charged
-- 2 ^ 32 or more with n.
abbrev pub CostsWithin : {T : Type 0} → Collection → ℕ → State → State → Result T EncodeError → Type 0
CostsWithin c n old new (Ok x) = total c false new ≤ total c false old + n
CostsWithin c n old new (Err e) = e ≡ error.TooLarge → 2 ^ 32 ≤ total c false old + n

-- The same of a call that may write a package, which is paid by its slot.
abbrev pub CostsWithPackages : {T : Type 0} → Graph → EncodeOptions → ℕ → Encoder → Encoder → Result T EncodeError → Type 0
CostsWithPackages g o n old new (Ok x) = total g.types false new.state + components_cost g o old.components ≤ total g.types false old.state + n + components_cost g o new.components
CostsWithPackages g o n old new (Err e) = e ≡ error.TooLarge → 2 ^ 32 + components_cost g o old.components ≤ total g.types false old.state + n + slots_cost g o

-- The component type of a package's world, if packages are not defined.
abbrev pub world_part : Graph → EncodeOptions → PackageParts → ℕ
world_part g o p = if o.define_components then 0 else component_cost g.types p.world

-- The indexes of arguments fit in 32 bits.
abbrev pub AreShortArguments : List (Name × Sort × ℕ) → Type 0
AreShortArguments given = AllByRecursion (λ a. a.2 < 2 ^ 32) given
