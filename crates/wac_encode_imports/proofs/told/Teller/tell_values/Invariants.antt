use Rattle.std.proofs.Common.{◌*◌, take}
use Rattle.wac_types_weight.specs.Weight.{named_parts}
use Rattle.wac_encode_imports.specs.private.Told.{KeepsGood, TellsWithin}
use Rattle.wac_encode_imports.proofs.told.Teller.tell_values.Given as goal

abbrev pub invariant-loop-i : goal.invariant-loop-i
invariant-loop-i l = KeepsGood l.fn.self l.initial.state l.state × TellsWithin l.fn.self.types.now (2 * named_parts (take l.i l.fn.interface.exports)) l.initial.state l.state
