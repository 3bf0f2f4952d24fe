use Rattle.wac_types_weight.proofs.Near.{near-is-closed, covers-end, covers-resource, covers-mention, near-is-least, near-together}
use Rattle.wac_types_weight.proofs.Scopes.{weighs-its-parts, scope-weighs-its-parts, plain-has-none, own-has-items, text-is-less, nests-less}
use Rattle.wac_types_weight.proofs.Uses.{uses-are-less, world-uses-are-less}
use Rattle.wac_types_weight.proofs.laws.weight_law.Goals as goal

pub returns : goal.returns
returns c = record {
  weighs_its_parts = weighs-its-parts;
  near_is_closed = near-is-closed;
  covers_end = covers-end;
  covers_resource = covers-resource;
  covers_mention = covers-mention;
  near_is_least = near-is-least;
  near_together = near-together;
  scope_weighs_its_parts = scope-weighs-its-parts;
  plain_has_none = plain-has-none;
  own_has_items = own-has-items;
  text_is_less = text-is-less;
  nests_less = nests-less;
  uses_are_less = uses-are-less;
  world_uses_are_less = world-uses-are-less;
}
