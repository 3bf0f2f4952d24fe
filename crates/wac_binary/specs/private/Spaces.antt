-- The numbers of the index spaces.
use Rattle.std.specs.Prelude.{ℕ}
use Rattle.wac_binary.specs.declared.sorts.IndexSpace.{IndexSpace}
use Rattle.wac_binary.specs.declared.sorts.IndexSpace.TheVariants as i

-- The number of an index space.
abbrev pub number : IndexSpace → ℕ
number i.CoreModules = 0
number i.Funcs = 1
number i.Values = 2
number i.Types = 3
number i.Components = 4
number i.Instances = 5
number i.CoreTypes = 6
