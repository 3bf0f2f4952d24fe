use Rattle.std.proofs.Common.{◌≡◌, Option, Some, None, refl, ◌∙◌}
use Rattle.std.specs.Option.{option_cmp, option_map}
use Rattle.semver.specs.declared.Version.{Version}
use Rattle.semver.specs.Identifiers.{parts_of}
use Rattle.semver.specs.contracts.VersionOrd as order
use Rattle.wac_names.specs.Reading.{read_version}
use Rattle.wac_names.specs.Track.{version_cmp}
use Rattle.wac_names.proofs.TrackFacts.{version-had}
use Rattle.wac_names.proofs.tracks.compare_versions.Goals as goal

-- versions are compared as their parts are
compared : (a b : Option Version) → option_cmp (order.TheImpl.cmp-value).it a b ≡ option_cmp version_cmp (option_map parts_of a) (option_map parts_of b)
compared None None = refl
compared None (Some y) = refl
compared (Some x) None = refl
compared (Some x) (Some y) = refl

pub returns-clause-value : goal.returns-clause-value
returns-clause-value c =
    let a = c.args.a.now in
    let b = c.args.b.now in
    (read_version a, read_version b, version-had a, version-had b, c.cmp.ensures ∙ (compared c.in_ok-a.a c.in_ok-b.b ∙ rw (c.in_ok-a.ensures.value, c.in_ok-b.ensures.value) refl))
