use Rattle.wac_encode_faults.proofs.Bounding.{none_bound}
use Rattle.wac_encode_faults.proofs.bound_types.BoundTypes.new.Goals as goal

pub returns : goal.returns
returns c = λ types bound. none_bound types bound c.new.result.keys c.new.ensures.empty
