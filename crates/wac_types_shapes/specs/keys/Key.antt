-- The key of a package: equality, order, hash and text.
use Rattle.std.specs.Prelude.{ℕ, ◌&&◌, ◌++◌, Bool, List, [], ◌∷◌, Option, nat_eq}
use Rattle.std.specs.Cmp.Lexicographic.{pointwise, slice_cmp}
use Rattle.std.specs.Ordering.{nat_cmp, ordering_then}
use Rattle.std.specs.declared.cmp.Ordering.{Ordering}
use Rattle.std.specs.Option.{option_eq, option_cmp}
use Rattle.std.specs.Hash as fed
use Rattle.semver.specs.Identifiers.{parts_text}
use Rattle.semver.specs.Order.{pre_cmp, build_cmp}
use Rattle.wac_types_shapes.specs.primitives.Name.{Name, option_case}

-- A version: major, minor, patch, pre-release, build metadata.
abbrev pub VersionParts : Type 0
VersionParts = ℕ × ℕ × ℕ × List ℕ × List ℕ

-- A name, with or without a version.
abbrev pub Key : Type 0
Key = Name × Option VersionParts

-- Two versions are the same if each part is; build metadata counts.
abbrev pub same_version : VersionParts → VersionParts → Bool
same_version a b = nat_eq a.0 b.0 && (nat_eq a.1 b.1 && (nat_eq a.2 b.2 && (pointwise nat_eq a.3 b.3 && pointwise nat_eq a.4 b.4)))

-- Two keys are the same if both have the same name, and the same version or none.
abbrev pub same_key : Key → Key → Bool
same_key a b = pointwise nat_eq a.0 b.0 && option_eq same_version a.1 b.1

-- Versions are ordered by their numbers, then pre-release, then build metadata.
abbrev pub version_cmp : VersionParts → VersionParts → Ordering
version_cmp a b = ordering_then (nat_cmp a.0 b.0) (ordering_then (nat_cmp a.1 b.1) (ordering_then (nat_cmp a.2 b.2) (ordering_then (pre_cmp a.3 b.3) (build_cmp a.4 b.4))))

-- Keys are ordered by name, then by version. No version comes before any.
abbrev pub key_cmp : Key → Key → Ordering
key_cmp a b = ordering_then (slice_cmp nat_cmp a.0 b.0) (option_cmp version_cmp a.1 b.1)

-- The input of the hash of a version.
abbrev pub version_writes : VersionParts → fed.HashWrites
version_writes v = fed.u64 v.0 ++ (fed.u64 v.1 ++ (fed.u64 v.2 ++ (fed.str v.3 ++ fed.str v.4)))

-- The input of the hash of a key.
abbrev pub key_writes : Key → fed.HashWrites
key_writes k = fed.str k.0 ++ fed.option version_writes k.1

-- The text of a key: `name` or `name@version`.
abbrev pub key_text : Key → List ℕ
key_text k = k.0 ++ option_case k.1 [] (λ v. 64 ∷ parts_text v)
