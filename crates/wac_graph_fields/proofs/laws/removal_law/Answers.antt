use Rattle.wac_graph_fields.proofs.RemovalLaws.{is_gone, is_there, is_unsatisfied}
use Rattle.wac_graph_fields.proofs.laws.removal_law.Goals as goal

pub returns : goal.returns
returns c = record { gone = is_gone; stays = is_there; unsatisfied = is_unsatisfied }
