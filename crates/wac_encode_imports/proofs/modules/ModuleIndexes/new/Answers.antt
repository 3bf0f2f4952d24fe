use Rattle.std.proofs.Common.{ap}
use Rattle.std.specs.Map.{lookup}
use Rattle.wac_types_shapes.specs.contracts.shapes.component.ModuleTypeIdPartialEq.TheImpl as IdEq
use Rattle.wac_encode_imports.proofs.modules.ModuleIndexes.new.Goals as goal

pub returns : goal.returns
returns c = λ k. ap (lookup ((IdEq.ghosts).eq k)) c.new.ensures.empty
