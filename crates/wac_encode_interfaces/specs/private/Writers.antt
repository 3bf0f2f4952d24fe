-- What holds of a writer of types.
use Rattle.std.specs.Prelude.{◌≡◌}
use Rattle.wac_encode_scopes.specs.private.Closed.{AreClosedTypes}
use Rattle.wac_encode_interfaces.specs.declared.writer.TypeWriter.{TypeWriter}
use Rattle.wac_encode_interfaces.specs.private.Paid.{AreSmallWorlds}
use Rattle.wac_encode_interfaces.specs.private.Worlds.{AreWorldTypes, written_in}

-- The writer of value types has the same collection, and what the writer is given of the collection is true.
pub record IsWriter (w : TypeWriter) : Type 0 where
  pub types : w.values.types.now ≡ w.types.now
  pub same_closed : w.values.closed.now ≡ w.closed.now
  pub merged : w.values.merged ≡ w.merged
  pub closed : AreClosedTypes w.types.now w.closed.now
  pub worlds : AreWorldTypes w.types.now (written_in w.worlds.now)
  pub small : AreSmallWorlds w.types.now (written_in w.worlds.now)
