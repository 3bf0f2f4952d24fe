use Rattle.std.proofs.Common.{[]}
use Rattle.wac_binary.specs.private.declarations.WrittenModule.{ModuleState}
use Rattle.wac_binary.proofs.lemmas.declarations.ModuleLaws.{module_none, module_listed, module_kept}
use Rattle.wac_binary.proofs.declarations.module_type.ModuleType.new.Goals as goal

none : (c : goal.After-result-1) → ModuleState [] c.new.result.items 0 0
none c = rw c.new.ensures.items module_none

pub invariant_of-result-2 : goal.invariant_of-result-2
invariant_of-result-2 c = module_kept (none c) _

pub returns : goal.returns
returns c = module_listed (none c) _
