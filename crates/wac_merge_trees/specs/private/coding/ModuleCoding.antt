-- Imports and exports of core modules, sorted by name. Only contracts inside the merge cite this file.
use Rattle.std.specs.Prelude.{◌≡◌, ◌≢◌, if◌then◌else◌, List, [], ◌∷◌, map, string_bytes}
use Rattle.std.specs.List.{AllByRecursion}
use Rattle.std.specs.declared.string.String.{String}
use Rattle.std.specs.declared.alloc.Global.{Global}
use Rattle.std.specs.BTreeMap.{BTreeMap}
use Rattle.wac_types_shapes.specs.primitives.Name.{Name, same_name}
use Rattle.wac_types_shapes.specs.shapes.Imports.{Pair, same_pair}
use Rattle.wac_types_shapes.specs.primitives.Core.{CoreItem, no_item}
use Rattle.wac_types_collection.specs.collection.Held as held
use Rattle.wac_types_shapes.specs.declared.shapes.core_types.CoreExtern.{CoreExtern}
use Rattle.wac_merge_tables.specs.declared.tables.nodes.Core.{Core}
use Rattle.wac_merge_tables.specs.private.tables.Nodes.{core_under, core_under_both, Sorted, AreCoreItems}
use Rattle.wac_merge_tables.specs.private.tables.NodeViews.{core_view, core_items}

-- The same exports, sorted.
pub record AreCores (items : List (Name × CoreExtern)) (es : List (Name × CoreItem)) : Type 0 where
  pub sorted : AreCoreItems es
  pub under : (n : Name) → core_under es n ≡ held.core_under items n

-- The same imports by module, sorted. Each module has an import.
pub record AreImports (imports : List (Pair × CoreExtern)) (es : List (Name × List (Name × CoreItem))) : Type 0 where
  pub sorted : Sorted es
  pub each : AllByRecursion (λ e. AreCoreItems e.1 × (e.1 ≢ [])) es
  pub under : (m n : Name) → core_under_both es m n ≡ held.core_imports imports m n

-- The view of the first value under a name.
abbrev pub look : {V T : Type 0} → T → (V → T) → List (String Global × V) → Name → T
look none view [] n = none
look none view (e ∷ es) n = if same_name n (string_bytes e.0) then view e.1 else look none view es n

-- Imports by module and then by name, as ordered maps.
abbrev pub Maps : Type 0
Maps = List (String Global × BTreeMap (String Global) Core)

-- The import under a module and a name.
abbrev pub in_maps : Maps → Name → Name → CoreItem
in_maps = look (λ n. no_item) (λ items. look no_item core_view items.entries)

-- The new maps have one more import, under its module and name.
abbrev pub PutsUnder : Maps → Maps → Name → Name → CoreItem → Type 0
PutsUnder old new m n x = (a b : Name) → in_maps new a b ≡ (if same_pair a b (m, n) then x else in_maps old a b)

-- Each module has an import.
abbrev pub AreFull : Maps → Type 0
AreFull es = AllByRecursion (λ e. e.1.entries ≢ []) es

-- The maps as lists.
abbrev pub maps_items : Maps → List (Name × List (Name × CoreItem))
maps_items es = map (λ e. (string_bytes e.0, core_items e.1.entries)) es
