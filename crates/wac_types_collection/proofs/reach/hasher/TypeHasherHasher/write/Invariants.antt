use Rattle.std.proofs.Common.{◌≡◌, take, fold}
use Rattle.wac_types_collection.specs.private.reach.Hashing.{step}
use Rattle.wac_types_collection.proofs.reach.hasher.TypeHasherHasher.write.Given as goal

abbrev pub invariant-loop-byte : goal.invariant-loop-byte
invariant-loop-byte l = l.self ≡ fold step l.fn.self (take l.byte-index l.bytes)
