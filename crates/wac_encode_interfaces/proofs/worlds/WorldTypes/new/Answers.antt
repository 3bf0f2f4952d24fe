use Rattle.std.proofs.Common.{ap}
use Rattle.std.specs.Map.{lookup}
use Rattle.wac_types_shapes.specs.contracts.shapes.component.WorldIdPartialEq.TheImpl as IdEq
use Rattle.wac_encode_interfaces.proofs.worlds.WorldTypes.new.Goals as goal

pub returns : goal.returns
returns c = λ w. ap (lookup ((IdEq.ghosts).eq w)) c.new.ensures.empty
