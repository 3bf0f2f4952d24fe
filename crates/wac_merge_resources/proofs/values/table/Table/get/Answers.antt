use Rattle.std.proofs.Common.{ap, sym, ◌∙◌}
use Rattle.std.specs.Option.{option_map}
use Rattle.wac_merge_classes.proofs.lemmas.entries.Places.{map-copied}
use Rattle.wac_merge_classes.specs.private.terms.ValueBindings.{find_value}
use Rattle.wac_merge_resources.specs.private.values.Listings.{listing_view}
use Rattle.wac_merge_resources.proofs.lemmas.values.Tables.{find-lookup}
use Rattle.wac_merge_resources.proofs.values.table.Table.get.Goals as goal

pub returns : goal.returns
returns c =
    map-copied listing_view c.get.result ∙ ap (option_map listing_view) c.get.ensures.value ∙ sym (find-lookup listing_view c.self.inside.listings.entries c.args.value)
    ∙ ap (λ m. find_value m c.args.value) c.self.view_is
