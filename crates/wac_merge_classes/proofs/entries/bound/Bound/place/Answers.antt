use Rattle.std.proofs.Common.{ap, sym, ◌∙◌}
use Rattle.std.specs.Option.{option_map}
use Rattle.wac_merge_classes.specs.entries.Places.{find_resource, place_view}
use Rattle.wac_merge_classes.proofs.lemmas.entries.Places.{find-lookup, map-copied}
use Rattle.wac_merge_classes.proofs.entries.bound.Bound.place.Goals as goal

pub returns : goal.returns
returns c =
    map-copied place_view c.get.result ∙ ap (option_map place_view) c.get.ensures.value ∙ sym (find-lookup place_view c.self.inside.places.entries c.args.resource)
    ∙ ap (λ m. find_resource m c.args.resource) c.self.view_is
