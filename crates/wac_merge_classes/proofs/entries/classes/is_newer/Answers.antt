use Rattle.std.proofs.Common.{◌≡◌, refl, ap, ◌∙◌}
use Rattle.std.specs.Option.{option_cmp}
use Rattle.std.specs.declared.cmp.Ordering.{Ordering}
use Rattle.std.specs.declared.cmp.Ordering.TheVariants.{Less, Equal, Greater}
use Rattle.std.specs.Ordering.{is_gt}
use Rattle.wac_names.specs.Track.{version_cmp}
use Rattle.wac_names.specs.Reading.{read_version}
use Rattle.wac_names.proofs.TrackFacts.{version-had}
use Rattle.wac_names.proofs.VersionOrder as order
use Rattle.wac_merge_classes.specs.entries.Classes.{is_greater}
use Rattle.wac_merge_classes.proofs.entries.classes.is_newer.Goals as goal

greater : (o : Ordering) → is_gt o ≡ is_greater o
greater Less = refl
greater Equal = refl
greater Greater = refl

pub returns : goal.returns
returns c =
    let v = c.in_ok-compare_versions.ensures.value in
    let a = c.args.a.now in
    let b = c.args.b.now in
    let first : v.0 ≡ read_version a = order.laws.one a v.0 (read_version a) v.2 (version-had a) in
    let second : v.1 ≡ read_version b = order.laws.one b v.1 (read_version b) v.3 (version-had b) in
    c.is_gt.ensures ∙ (greater c.in_ok-compare_versions.field-0 ∙ ap is_greater (v.4 ∙ (λ i. option_cmp version_cmp (first i) (second i))))
