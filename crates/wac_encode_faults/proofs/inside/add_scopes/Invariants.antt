use Rattle.std.proofs.Common.{◌≡◌, drop}
use Rattle.wac_types_collection.specs.private.reach.Found.{with_all}
use Rattle.wac_encode_faults.specs.private.Search.{scopes_of}
use Rattle.wac_encode_faults.proofs.inside.add_scopes.Given as goal

abbrev pub invariant-loop-i : goal.invariant-loop-i
invariant-loop-i l = with_all l.found.keys (scopes_of (drop l.i l.items)) ≡ with_all l.initial.found.keys (scopes_of l.items)
