use Rattle.wac_encode_stacks.proofs.Brought.{good-once, finds-or-unbound, knows-type, knows-export, settles-value-there, brings-from, still-pass}
use Rattle.wac_encode_stacks.proofs.laws.bringing_law.Goals as goal

pub returns : goal.returns
returns c = record {
  good_once = good-once;
  finds_or_unbound = finds-or-unbound;
  knows_type = knows-type;
  knows_export = knows-export;
  settles_value_there = settles-value-there c.binary_laws.ensures.reads;
  brings_from = brings-from c.binary_laws.ensures.reads;
  still_pass = still-pass;
}
