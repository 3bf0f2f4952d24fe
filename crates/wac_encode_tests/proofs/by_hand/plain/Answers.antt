use Rattle.std.proofs.Common.{◌∙◌, sym, rules}
use Rattle.wac_encode_tests.proofs.HandWritten.{held-as, ready-after, ready-as}
use Rattle.wac_encode_tests.proofs.by_hand.plain.Goals as goal

pub as_it_is-written-requires-clause-held : goal.as_it_is-written-requires-clause-held
as_it_is-written-requires-clause-held g c = held-as c.args.items.now.types c.new-encoder.result.types.now c.ty-ty.result c.new-encoder.ensures.types (sym c.contains.ensures ∙ search rules)

pub as_it_is-written-requires-clause-ready : goal.as_it_is-written-requires-clause-ready
as_it_is-written-requires-clause-ready g c = ready-as c.args.items.now.types c.new-encoder.result.types.now c.args.merged c.new-encoder.result.merged c.args.state.now c.new-encoder.ensures.types c.new-encoder.ensures.merged c.requires

pub returns : goal.returns
returns g c =
    ready-after c.args.items.now.types c.new-encoder.result.types.now c.args.merged c.new-encoder.result.merged c.as_it_is-written.new.state c.as_it_is-written.result c.expect.result c.new-encoder.ensures.types c.new-encoder.ensures.merged
    c.expect.ensures c.as_it_is-written.ensures
