use Rattle.std.proofs.Common.{◌∙◌, ap, sym}
use Rattle.std.specs.Hash.{le_bytes}
use Rattle.std.proofs.lemmas.Nat.{from_le_bytes-to_le_bytes_8}
use Rattle.wac_types_collection.specs.private.reach.Hashing.{step}
use Rattle.wac_types_collection.proofs.reach.hasher.TypeHasherHasher.write_usize.Goals as goal

pub returns : goal.returns
unfolding le_bytes
returns c = c.put.ensures ∙ ap (step c.args.self.now) (sym (from_le_bytes-to_le_bytes_8 c.args.i c.ranges.i.fits))
