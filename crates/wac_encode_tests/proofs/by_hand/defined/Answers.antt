use Rattle.std.proofs.Common.{◌∙◌, sym, rules}
use Rattle.wac_encode_tests.proofs.HandWritten.{held-as, ready-after, ready-as}
use Rattle.wac_encode_tests.proofs.by_hand.defined.Goals as goal

pub definition-written-requires-clause-held : goal.definition-written-requires-clause-held
definition-written-requires-clause-held g c = held-as c.args.items.now.types c.new-encoder.result.types.now c.ty-ty.result c.new-encoder.ensures.types (sym c.contains.ensures ∙ search rules)

pub definition-written-requires-clause-ready : goal.definition-written-requires-clause-ready
definition-written-requires-clause-ready g c = ready-as c.args.items.now.types c.new-encoder.result.types.now c.args.merged c.new-encoder.result.merged c.args.state.now c.new-encoder.ensures.types c.new-encoder.ensures.merged c.requires

pub returns : goal.returns
returns g c =
    ready-after c.args.items.now.types c.new-encoder.result.types.now c.args.merged c.new-encoder.result.merged c.definition-written.new.state c.definition-written.result c.expect.result c.new-encoder.ensures.types c.new-encoder.ensures.merged
    c.expect.ensures c.definition-written.ensures
