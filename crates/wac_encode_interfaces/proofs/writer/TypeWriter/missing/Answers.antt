use Rattle.std.proofs.Common.{sym, ◌∙◌}
use Rattle.wac_encode_interfaces.proofs.Parts.{no-interface, has-interface}
use Rattle.wac_encode_interfaces.proofs.Ended.{known-next}
use Rattle.wac_encode_interfaces.proofs.writer.TypeWriter.missing.Goals as goal

pub returns-in_default-clause-known : goal.returns-in_default-clause-known
returns-in_default-clause-known c = λ is. known-next c.args.self.now.types.now c.args.self.now.merged c.args.state.now c.args.level.now c.next_item-item.result.0.now c.next_item-item.result.1 c.next_item-item.ensures (no-interface c.args.self.now.merged c.args.state.now c.next_item-item.result.1 (sym c.interface_of.ensures ∙ c.in_default.is))

pub returns-in-Some-index-clause-known : goal.returns-in-Some-index-clause-known
returns-in-Some-index-clause-known c = λ is. known-next c.args.self.now.types.now c.args.self.now.merged c.args.state.now c.args.level.now c.next_item-item.result.0.now c.next_item-item.result.1 c.next_item-item.ensures
    (has-interface c.args.self.now.merged c.args.state.now c.next_item-item.result.1 c.in-Some.inside (sym c.interface_of.ensures ∙ c.in-Some.is) (c.in-Some-index.ensures.some.0, c.in-Some-index.field-0, c.in-Some-index.ensures.some.1))

pub returns-in-None-clause-waits : goal.returns-in-None-clause-waits
returns-in-None-clause-waits c = (c.next_item-item.result.0.now, c.next_item-item.result.1, c.next_item-item.ensures, sym c.interface_of.ensures ∙ c.in-Some.is, c.requires.small)
