use Rattle.std.proofs.Common.{◌*◌, take}
use Rattle.wac_encode_imports.specs.private.Told.{KeepsGood, TellsWithin, entries_items}
use Rattle.wac_encode_imports.proofs.told.Teller.tell_entries.Given as goal

abbrev pub invariant-loop-i : goal.invariant-loop-i
invariant-loop-i l = KeepsGood l.fn.self l.initial.state l.state × TellsWithin l.fn.self.types.now (2 * entries_items l.fn.self.types.now (take l.i l.fn.self.merge.now.entries)) l.initial.state l.state
