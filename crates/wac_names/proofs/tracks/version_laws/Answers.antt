use Rattle.wac_names.proofs.VersionOrder.{laws}
use Rattle.wac_names.proofs.tracks.version_laws.Goals as goal

pub returns : goal.returns
returns c = laws
