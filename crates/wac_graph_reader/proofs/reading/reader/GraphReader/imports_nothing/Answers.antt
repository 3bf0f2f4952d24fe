use Rattle.std.proofs.Common.{subst}
use Rattle.wac_graph_model.specs.nodes.Graph.{IsImportOf}
use Rattle.wac_graph_reader.specs.private.reading.Inside.{fields_of}
use Rattle.wac_graph_reader.proofs.lemmas.writing.NoImportLemmas.{no_import, none_imported}
use Rattle.wac_graph_reader.proofs.reading.reader.GraphReader.imports_nothing.Goals as goal

pub returns : goal.returns
returns c = (
  λ nothing name n is. no_import (fields_of c.self.inside) c.self.invariant (c.is_empty.ensures.0 nothing) name n (rw (← c.self.view_is) at is),
  λ none. c.is_empty.ensures.1 (none_imported (fields_of c.self.inside) c.self.invariant (λ name n is. none name n (subst (λ g. IsImportOf g name n) c.self.view_is is))),
)
