use Rattle.std.proofs.Common.{◌∙◌}
use Rattle.wac_encode_order.proofs.Merges.{types-taken}
use Rattle.wac_encode_order.proofs.side.type_order.Goals as goal

pub returns : goal.returns
returns c = types-taken c.args.types.now c.args.items.now c.as_slice.result.now c.in_ok-plain.plain.items (c.as_slice.ensures.value ∙ c.in_ok-chosen.ensures) c.in_ok-plain.ensures c.as_slice-2.result.now c.as_slice-2.ensures.value c.with_resources.result c.with_resources.ensures
