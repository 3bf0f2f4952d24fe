use Rattle.std.proofs.Common.{sym, ◌∙◌, subst}
use Rattle.wac_types_collection.specs.collection.Collection.{Collection}
use Rattle.wac_encode_scopes.specs.private.Closed.{AreClosedTypes}
use Rattle.wac_encode_interfaces.specs.private.Paid.{AreSmallWorlds}
use Rattle.wac_encode_interfaces.specs.private.Worlds.{AreWorldTypes, written_in}
use Rattle.wac_encode_interfaces.specs.declared.worlds.WorldTypes.{WorldTypes}
use Rattle.wac_encode_imports.specs.private.Written.{AreWritable}
use Rattle.wac_encode_imports.proofs.import.ImportWriter.new.Goals as goal

pub returns-clause-writer : goal.returns-clause-writer
returns-clause-writer c = λ m is closed bindings worlds sizes writable. record {
  types = is;
  writer = c.new.ensures.writer (subst (λ (x : Collection). AreClosedTypes x c.args.closed.now) (sym is) closed) (subst (λ (x : Collection). AreWorldTypes x (written_in c.args.worlds.now)) (sym is) worlds) (subst (λ (x : Collection). AreSmallWorlds x (written_in c.args.worlds.now)) (sym is) sizes);
  of_types = c.new.ensures.types ∙ is;
  merged = c.new.ensures.merged;
  closed = closed;
  bindings = bindings;
  writable = subst (λ (ws : WorldTypes). AreWritable m (written_in ws)) (sym c.new.ensures.worlds) writable;
}
