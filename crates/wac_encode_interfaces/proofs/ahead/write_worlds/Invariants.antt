use Rattle.wac_encode_interfaces.specs.private.Worlds.{AreWorldTypes, written_in}
use Rattle.wac_encode_interfaces.proofs.WorldsAhead.{HaveFirst}
use Rattle.wac_encode_interfaces.specs.private.Paid.{AreSmallWorlds}
use Rattle.wac_encode_interfaces.proofs.ahead.write_worlds.Given as goal

abbrev pub invariant-loop-i : goal.invariant-loop-i
invariant-loop-i l = record {
  written : AreWorldTypes l.fn.types (written_in l.written);
  sizes : AreSmallWorlds l.fn.types (written_in l.written);
  first : HaveFirst l.fn.types (written_in l.written) l.fn.order l.i;
}
