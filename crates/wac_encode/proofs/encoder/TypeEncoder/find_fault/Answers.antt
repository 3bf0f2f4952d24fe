use Rattle.wac_encode.proofs.Results.{if-ok}
use Rattle.wac_encode.proofs.BoundResources.{bound-set}
use Rattle.wac_encode.proofs.encoder.TypeEncoder.find_fault.Goals as goal

pub returns : goal.returns
returns c = if-ok _ _ c.lowest_fault.result (λ o h m is. h m (bound-set c.args.self.now.types.now c.args.self.now.merged m c.args.state.now c.in_ok-bound.bound.keys c.in_ok-bound.ensures is)) c.lowest_fault.ensures
