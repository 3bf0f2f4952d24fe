-- Borrowed keys of packages.
use Rattle.std.specs.Option.{option_map}
use Rattle.semver.specs.Identifiers.{parts_of}
use Rattle.wac_types_shapes.specs.keys.Key.{Key}
use Rattle.wac_graph_model.specs.declared.nodes.packages.BorrowedPackageKey.{BorrowedPackageKey}

-- The key with the borrowed name and version.
abbrev pub borrowed_key : BorrowedPackageKey → Key
borrowed_key k = (k.name.now, option_map (λ v. parts_of v.now) k.version)
