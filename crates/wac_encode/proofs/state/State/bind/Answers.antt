use Rattle.std.proofs.Common.{sym, ◌∙◌}
use Rattle.wac_encode.specs.Told.{TellsItem}
use Rattle.wac_encode.proofs.Results.{encoded-no-write, ok-encoded}
use Rattle.wac_encode.proofs.Roots.{keeps-old-types}
use Rattle.wac_encode.proofs.Results.{err-of}
use Rattle.wac_encode.proofs.state.State.bind.Goals as goal

pub returns-clause-tells : goal.returns-clause-tells
returns-clause-tells c = ok-encoded (TellsItem c.args.types.now c.args.merged c.args.item c.args.index c.args.self.now c.bind_item.new.self) c.bind_item.result c.encode_result.result c.encode_result.ensures c.bind_item.ensures.tells

pub returns-clause-fault : goal.returns-clause-fault
returns-clause-fault c = λ w is. encoded-no-write c.bind_item.result w (sym c.encode_result.ensures ∙ is)

pub returns-clause-refused : goal.returns-clause-refused
returns-clause-refused c = err-of c.encode_result.result (keeps-old-types c.args.types.now c.args.merged c.requires.stands.0 c.args.self.now c.bind_item.new.self c.requires.stands.1 c.bind_item.ensures.types)
