use Rattle.std.proofs.Common.{◌≡◌, Bool, true, false, not, refl, sym, ap, ◌∙◌, subst}
use Rattle.wac_names.specs.Reading.{read_track}
use Rattle.wac_names.specs.Track.{HasTrack}
use Rattle.wac_names.specs.Views.{track_view}
use Rattle.wac_types_shapes.specs.primitives.Name.{Name, option_case}
use Rattle.wac_merge_classes.specs.entries.Classes.{by_names, same_track}
use Rattle.wac_merge_classes.specs.terms.Merge.{is_on_track}
use Rattle.wac_merge_classes.proofs.lemmas.entries.ClassPaths.{track-test}
use Rattle.wac_merge_imports.proofs.unions.merged.is_on_track.Goals as goal

twice : (b : Bool) → not (not b) ≡ b
twice true = refl
twice false = refl

pub returns : goal.returns
returns c class on =
    let of_id = λ (id : Name). same_track (read_track id) (read_track class) in
    sym (ap (is_on_track by_names c.args.types.now class) c.in-Instance.is
    ∙ ap (λ o. option_case o false (λ it. option_case it.id false of_id)) c.index.ensures
    ∙ ap (λ o. option_case o false of_id) c.in-Some.is
    ∙ track-test c.in_ok-new.field-0 c.args.track.now c.in-Some.text class (not c.eq.result) (subst (λ (n : Name). HasTrack n (track_view c.in_ok-new.field-0)) c.as_str.ensures c.in_ok-new.ensures.value) on (ap not c.eq.ensures)
    ∙ twice c.eq.result)
