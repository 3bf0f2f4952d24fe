use Rattle.std.proofs.Common.{◌≡◌, take, flat_map}
use Rattle.wac_encode_faults.specs.private.Search.{named, IsNoImport}
use Rattle.wac_encode_faults.proofs.Dependencies.{AllBefore}
use Rattle.wac_encode_faults.proofs.names.has_name_twice.Given as goal

abbrev pub invariant-loop-i : goal.invariant-loop-i
invariant-loop-i l = record {
  named : l.names ≡ flat_map (named l.fn.types) (take l.i l.fn.additional.keys);
  other : AllBefore (IsNoImport l.fn.types l.fn.imports) l.fn.additional.keys l.i;
}
