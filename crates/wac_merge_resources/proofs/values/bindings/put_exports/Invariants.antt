use Rattle.std.proofs.Common.{take}
use Rattle.wac_merge_resources.specs.private.values.Listings.{Takes, exported, has_value}
use Rattle.wac_merge_resources.proofs.values.bindings.put_exports.Given as goal

abbrev pub invariant-loop-i : goal.invariant-loop-i
invariant-loop-i l = Takes l.initial.table (exported l.types (has_value l.used.keys) l.class (take l.i l.exports)) l.table
