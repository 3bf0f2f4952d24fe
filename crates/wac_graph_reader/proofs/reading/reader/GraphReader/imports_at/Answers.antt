use Rattle.std.proofs.Common.{ap, sym, ◌∙◌}
use Rattle.wac_types_collection.specs.collection.Collection.{item_at}
use Rattle.wac_graph_fields.specs.private.Fields.{graph_of}
use Rattle.wac_graph_reader.proofs.lemmas.writing.EncodingLemmas.{world_registered, imports_now}
use Rattle.wac_graph_reader.specs.private.reading.Inside.{fields_of}
use Rattle.wac_graph_reader.proofs.reading.reader.GraphReader.imports_at.Goals as goal

pub index-requires : goal.index-requires
index-requires c = rw c.ty.ensures (world_registered (fields_of c.self.inside) c.self.invariant c.package_of.result.0 c.package_of.result.1.now (rw (← c.self.view_is) at c.package_of.ensures.registered))

pub returns : goal.returns
returns c = rw (← c.self.view_is) (imports_now (graph_of (fields_of c.self.inside)) c.args.n c.package_of.result.0 c.package_of.result.1.now c.index.result.now (rw (← c.self.view_is) at c.package_of.ensures.owner) (rw (← c.self.view_is) at c.package_of.ensures.registered)
    (ap (λ w. item_at (c.self.inside.types.now).worlds w.0) (sym c.ty.ensures) ∙ c.index.ensures))
