use Rattle.std.proofs.lemmas.Result.{on_ok_weaker}
use Rattle.wac_encode_faults.proofs.cycle.add_import_dependencies.Goals as goal

pub returns-clause-owners : goal.returns-clause-owners
returns-clause-owners c = on_ok_weaker c.add_steps_of_imports.result (λ steps. c.in_ok-note_side_owners.ensures) c.add_steps_of_imports.ensures

pub returns-clause-suppliers : goal.returns-clause-suppliers
returns-clause-suppliers c = on_ok_weaker c.add_steps_of_imports.result (λ steps. c.in_ok-note_suppliers.ensures) c.add_steps_of_imports.ensures
