-- The definitions that the Rust types of kinds and tracks represent, with pieces as bytes.
use Rattle.std.specs.Prelude.{ℕ, List, Option}
use Rattle.std.specs.Option.{option_copied, option_map}
use Rattle.wac_names.specs.Kind as spec
use Rattle.wac_names.specs.Track as tracks
use Rattle.wac_names.specs.declared.tracks.Track.{Track}
use Rattle.wac_names.specs.declared.tracks.Track.TheVariants as track
use Rattle.wac_names.specs.declared.kind.ComponentNameKind.{ComponentNameKind}
use Rattle.wac_names.specs.declared.kind.ComponentNameKind.TheVariants as kind
use Rattle.wac_names.specs.declared.kind.DependencyName.{DependencyName}
use Rattle.wac_names.specs.declared.kind.DependencyName.TheVariants as dependency
use Rattle.wac_names.specs.declared.kind.HashName.{HashName}
use Rattle.wac_names.specs.declared.kind.InterfaceName.{InterfaceName}
use Rattle.wac_names.specs.declared.kind.PackageName.{PackageName}
use Rattle.wac_names.specs.declared.kind.UrlName.{UrlName}
use Rattle.wac_names.specs.declared.kind.VersionRange.{VersionRange}
use Rattle.wac_names.specs.declared.kind.VersionRange.TheVariants as range

-- The package that a value represents.
abbrev pub package_view : PackageName → spec.Package
package_view p = record { namespace = p.namespace.now; name = p.name.now }

-- The range that a value represents.
abbrev pub range_view : VersionRange → spec.Range
range_view range.Any = spec.any
range_view (range.AtLeast low) = spec.at_least low.now
range_view (range.Below high) = spec.below high.now
range_view (range.Between low high) = spec.between low.now high.now

-- The package of an interface name.
abbrev pub interface_package : InterfaceName → spec.Package
interface_package i = package_view i.package

-- The interface of an interface name.
abbrev pub interface_name : InterfaceName → List ℕ
interface_name i = i.interface.now

-- The version of an interface name.
abbrev pub interface_version : InterfaceName → Option (List ℕ)
interface_version i = option_copied i.version

-- The kind that an interface name represents.
abbrev pub interface_view : InterfaceName → spec.Kind
interface_view i = spec.interface (interface_package i) (interface_name i) (interface_version i)

-- The kind that a dependency represents.
abbrev pub dependency_view : DependencyName → spec.Kind
dependency_view (dependency.Unlocked p r) = spec.unlocked (package_view p) (option_map range_view r)
dependency_view (dependency.Locked p v h) = spec.locked (package_view p) (option_copied v) (option_copied h)

-- The location of a URL.
abbrev pub url_text : UrlName → List ℕ
url_text u = u.url.now

-- The hash of a URL.
abbrev pub url_integrity : UrlName → Option (List ℕ)
url_integrity u = option_copied u.integrity

-- The text of a hash.
abbrev pub hash_text : HashName → List ℕ
hash_text h = h.text.now

-- The kind that a URL represents.
abbrev pub url_view : UrlName → spec.Kind
url_view u = spec.url (url_text u) (url_integrity u)

-- The kind that a value represents.
abbrev pub kind_view : ComponentNameKind → spec.Kind
kind_view (kind.Label l) = spec.label l.now
kind_view (kind.Constructor r) = spec.constructor r.now
kind_view (kind.Method r n) = spec.method r.now n.now
kind_view (kind.Static r n) = spec.static r.now n.now
kind_view (kind.Interface i) = interface_view i
kind_view (kind.Dependency d) = dependency_view d
kind_view (kind.Url u) = url_view u
kind_view (kind.Hash h) = spec.hash (hash_text h)

-- The track that a value represents.
abbrev pub track_view : Track → tracks.Track
track_view (track.Text t) = tracks.whole t.now
track_view (track.Major n m) = tracks.major n.now m
track_view (track.Minor n m) = tracks.minor n.now m
track_view (track.Patch n m) = tracks.patch n.now m
