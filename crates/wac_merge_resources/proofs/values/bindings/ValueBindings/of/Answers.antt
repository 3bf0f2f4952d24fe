use Rattle.std.proofs.Common.{◌≡◌, Some, sym, ap, ◌∙◌}
use Rattle.std.specs.Option.{option_copied, option_map}
use Rattle.std.specs.Prelude.{string_bytes}
use Rattle.wac_merge_classes.specs.private.terms.ValueBindings.{find_value}
use Rattle.wac_merge_resources.specs.private.values.Bound.{binding_view}
use Rattle.wac_merge_resources.specs.private.values.Listings.{path_of, place}
use Rattle.wac_merge_resources.proofs.lemmas.values.Tables.{find-map}
use Rattle.wac_merge_resources.proofs.values.bindings.ValueBindings.of.Goals as goal
use Rattle.wac_merge_resources.proofs.values.bindings.ValueBindings.of.Goals.{in-Some, in-None}

pub returns-in_err-listing : goal.returns-in_err-listing
returns-in_err-listing c =
    ap (option_map binding_view) c.from_residual.ensures
    ∙ ap (option_map place) c.in_err-listing.ensures
    ∙ sym (ap (λ m. find_value m c.args.value) (sym c.self.view_is) ∙ find-map place c.self.inside.table c.args.value)

pub returns : goal.returns
returns c =
    let name : path_of (option_copied c.match-listing.name) ≡ path_of (option_map string_bytes c.in_ok-listing.listing.now.name) = elim c.match-listing.branch [
      | in-Some w ↦
          ap (λ o. path_of (option_copied o)) w.name-is ∙ ap (λ n. path_of (Some n)) w.as_str.ensures.value
          ∙ sym (ap (λ o. path_of (option_map string_bytes o)) w.in-Some.is)
      | in-None w ↦ ap (λ o. path_of (option_copied o)) w.name-is ∙ sym (ap (λ o. path_of (option_map string_bytes o)) w.in-None.is)
    ] in
    ap (λ p. Some (c.in_ok-listing.listing.now.class, p)) name
    ∙ ap (option_map place) c.in_ok-listing.ensures
    ∙ sym (ap (λ m. find_value m c.args.value) (sym c.self.view_is) ∙ find-map place c.self.inside.table c.args.value)
