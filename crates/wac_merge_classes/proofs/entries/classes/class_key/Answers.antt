use Rattle.std.proofs.Common.{◌≡◌, true, is_some, sym, ap, ◌∙◌}
use Rattle.std.specs.Option.{option_copied}
use Rattle.wac_types_shapes.specs.primitives.Name.{find_name}
use Rattle.wac_names.specs.Views.{track_view}
use Rattle.wac_names.proofs.TrackFacts.{had-track}
use Rattle.wac_merge_classes.proofs.entries.classes.class_key.Goals as goal

pub returns-in_ok-new-in-Some : goal.returns-in_ok-new-in-Some
returns-in_ok-new-in-Some c =
    let found : is_some (find_name c.args.instances.now c.args.name.now) ≡ true = sym (ap is_some c.get.ensures) ∙ ap (λ o. is_some (option_copied o)) c.in-Some.is in
    rw found (rw (← had-track c.args.name.now (track_view c.in_ok-new-in-Some.field-0) c.in_ok-new-in-Some.ensures.value) c.to_key.ensures)
