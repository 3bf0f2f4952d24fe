use Rattle.wac_encode_stacks.proofs.HeldParts.{held-carried, held-further-in, held-under-more, holds-parts, holds-func-parts, holds-items, handles-are-bound, resource-is-bound}
use Rattle.wac_encode_stacks.proofs.HeldValues.{holds-value}
use Rattle.wac_encode_stacks.proofs.laws.part_law.Goals as goal

pub returns : goal.returns
returns c = record {
  held_carried = held-carried;
  held_further_in = held-further-in;
  held_under_more = held-under-more;
  holds_value = holds-value;
  holds_parts = holds-parts;
  holds_func_parts = holds-func-parts;
  holds_items = holds-items;
  handles_are_bound = handles-are-bound;
  resource_is_bound = resource-is-bound;
}
