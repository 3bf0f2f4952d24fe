use Rattle.wac_graph_fields.proofs.UnregisteredLaws.{spent_invalid, spent_same, spent_registers, spent_frees, spent_still}
use Rattle.wac_graph_fields.proofs.laws.unregistered_law.Goals as goal

pub returns : goal.returns
returns c = record {
  spent = λ old new id s there step. spent_frees old new s id there step.slot;
  invalid = spent_invalid;
  registers = spent_registers;
  unregisters = λ old new id other s there h step. spent_still old new s id other there h step.slot;
  others = spent_same;
}
