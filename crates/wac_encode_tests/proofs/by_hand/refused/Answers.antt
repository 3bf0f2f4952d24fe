use Rattle.std.proofs.Common.{◌∙◌, sym, rules}
use Rattle.wac_encode_stacks.specs.Good.{nothing_bound}
use Rattle.wac_encode_tests.proofs.HandWritten.{held-as, ready-as}
use Rattle.wac_encode_tests.proofs.by_hand.refused.Goals as goal

pub ty-written-requires-clause-held : goal.ty-written-requires-clause-held
ty-written-requires-clause-held g c = held-as c.args.items.now.types c.new-encoder.result.types.now c.ty-ty.result c.new-encoder.ensures.types (sym c.contains.ensures ∙ search rules)

pub ty-written-requires-clause-state : goal.ty-written-requires-clause-state
ty-written-requires-clause-state g c =
    ready-as c.args.items.now.types c.new-encoder.result.types.now c.args.merged c.new-encoder.result.merged c.new-state.result c.new-encoder.ensures.types c.new-encoder.ensures.merged
    (nothing_bound, c.new-state.ensures.state c.args.items.now.types c.args.merged)
