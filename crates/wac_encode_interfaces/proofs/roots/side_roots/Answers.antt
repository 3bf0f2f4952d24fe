use Rattle.std.proofs.Common.{ap, ◌∙◌, ◌++◌, flat_map}
use Rattle.wac_encode_interfaces.specs.private.Roots.{item_root, additional_roots}
use Rattle.wac_encode_interfaces.proofs.roots.side_roots.Goals as goal

pub returns : goal.returns
returns c =
    let x = c.args.sides.now in
    c.in_ok-push_additional.ensures ∙ ap (λ l. l ++ flat_map (additional_roots c.args.types.now) x.additional.now)
    (c.in_ok-push_items-2.ensures ∙ ap (λ l. l ++ flat_map item_root x.exports.now) (c.in_ok-push_items.ensures ∙ ap (λ l. l ++ flat_map item_root x.imports.now) c.new-found.ensures.items))
