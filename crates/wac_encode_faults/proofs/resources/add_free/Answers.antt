use Rattle.std.proofs.Common.{◌∷◌, [], ap, ◌∙◌}
use Rattle.std.proofs.lemmas.Result.{on_ok_weaker}
use Rattle.wac_types_collection.specs.private.reach.Found.{with_all}
use Rattle.wac_encode_faults.proofs.Mentioned.{nothing_before}
use Rattle.wac_encode_faults.proofs.FreeParts.{one_held, free_law}
use Rattle.wac_encode_faults.proofs.resources.add_free.Goals as goal

pub add_all_parts-requires-clause-held : goal.add_all_parts-requires-clause-held
add_all_parts-requires-clause-held c = one_held c.args.types.now c.args.ty c.insert.new.self.keys (c.in_ok-insert.ensures.keys ∙ ap (λ ts. with_all ts (c.args.ty ∷ [])) c.new-found.ensures.empty) c.requires.held

pub add_all_parts-requires-clause-before : goal.add_all_parts-requires-clause-before
add_all_parts-requires-clause-before c = nothing_before c.args.types.now c.insert.new.self.keys

pub returns : goal.returns
returns c =
    on_ok_weaker c.add_resources.result (λ added.
    free_law c.args.types.now c.args.ty c.args.resources.now.keys c.add_resources.new.resources.keys c.insert.new.self.keys c.add_all_parts.new.found.keys c.as_slice.result.now c.requires.other
    (c.in_ok-insert.ensures.keys ∙ ap (λ ts. with_all ts (c.args.ty ∷ [])) c.new-found.ensures.empty) c.as_slice.ensures.keys c.in_ok-add_all_parts.ensures.parts added)
    c.add_resources.ensures
