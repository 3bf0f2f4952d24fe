use Rattle.wac_encode_stacks.proofs.Instances.{shows-whole, has-own, has-exported}
use Rattle.wac_encode_stacks.proofs.laws.instance_law.Goals as goal

pub returns : goal.returns
returns c = record {
  shows_whole = shows-whole;
  has_own = has-own;
  has_exported = has-exported;
}
