-- Where nothing is imported no import is in conflict.
use Rattle.std.proofs.Common.{◌≡◌, length}
use Rattle.wac_graph_model.specs.causes.Cause.{HasNoConflict}
use Rattle.wac_graph_fields.specs.private.Fields.{Fields, graph_of, Invariant}
use Rattle.wac_graph_reader.proofs.lemmas.writing.NoImportLemmas.{no_import}

pub no_imports : (a : Fields) → Invariant a → length a.imports.entries ≡ 0 → HasNoConflict (graph_of a)
no_imports a v none import instantiation position name c = no_import a v none name import c.imported
