-- The value of an encoder.
use Rattle.wac_graph_reader.specs.declared.reading.encoder.Encoder.{Encoder}
use Rattle.wac_graph_model.specs.private.meaning.Encoding.{Progress}
use Rattle.wac_encode_scopes.specs.Roots.{items_of}

-- The state of writing that the encoder has.
abbrev pub progress : Encoder → Progress
progress e = record { items = items_of e.state.here.content; components = e.components; indexes = e.indexes.items }
