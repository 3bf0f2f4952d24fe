use Rattle.std.proofs.Common.{ap, ◌∙◌}
use Rattle.std.proofs.lemmas.Result.{on_ok_weaker}
use Rattle.wac_types_collection.specs.private.reach.Found.{with_all}
use Rattle.wac_encode_faults.specs.private.Binding.{others_alone}
use Rattle.wac_encode_faults.proofs.Mentioned.{nothing_before}
use Rattle.wac_encode_faults.proofs.FreeParts.{frees_law}
use Rattle.wac_encode_faults.proofs.TypeItems.{alone_held, alone_no_interface}
use Rattle.wac_encode_faults.proofs.type_items.add_free_of_others_alone.Goals as goal

pub add_all_parts-requires-clause-held : goal.add_all_parts-requires-clause-held
add_all_parts-requires-clause-held c = alone_held c.args.types.now c.args.items.now c.add_others_alone.new.found.keys (c.in_ok-add_others_alone.ensures ∙ ap (λ ts. with_all ts (others_alone c.args.items.now)) c.new-found.ensures.empty) c.requires

pub add_all_parts-requires-clause-before : goal.add_all_parts-requires-clause-before
add_all_parts-requires-clause-before c = nothing_before c.args.types.now c.add_others_alone.new.found.keys

pub returns : goal.returns
returns c =
    on_ok_weaker c.add_resources.result (λ added.
    frees_law c.args.types.now (others_alone c.args.items.now) c.args.resources.now.keys c.add_resources.new.resources.keys c.add_others_alone.new.found.keys c.add_all_parts.new.found.keys c.as_slice.result.now
    (alone_no_interface c.args.items.now) (c.in_ok-add_others_alone.ensures ∙ ap (λ ts. with_all ts (others_alone c.args.items.now)) c.new-found.ensures.empty) c.as_slice.ensures.keys c.in_ok-add_all_parts.ensures.parts added)
    c.add_resources.ensures
