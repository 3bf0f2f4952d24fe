use Rattle.wac_encode_stacks.proofs.Modules.{defines-module, holds-module}
use Rattle.wac_encode_stacks.proofs.laws.module_law.Goals as goal

pub returns : goal.returns
returns c = record {
  defines_module = defines-module c.binary_laws.ensures.reads;
  holds_module = holds-module;
}
