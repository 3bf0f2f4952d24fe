use Rattle.wac_encode_imports.proofs.modules.ModuleIndexes.insert.Goals as goal

pub returns-clause-inserted : goal.returns-clause-inserted
returns-clause-inserted c = λ k. c.in_ok-insert.ensures.updates.0 k
