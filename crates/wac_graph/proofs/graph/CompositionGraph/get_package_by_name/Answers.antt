use Rattle.std.proofs.Common.{Some, None}
use Rattle.wac_graph_model.specs.private.nodes.PackageKeys.{borrowed_key}
use Rattle.wac_graph_fields.proofs.StepLemmas.{found_registered, found_package}
use Rattle.wac_graph.specs.private.Inside.{fields_of}
use Rattle.wac_graph.proofs.graph.CompositionGraph.get_package_by_name.Goals as goal

pub index-requires : goal.index-requires
index-requires c = rw (← c.self.view_is) (found_package (fields_of c.self.inside) c.self.invariant (borrowed_key c.from_name_and_version-key.result) c.in_ok-id.field-0.now c.in_ok-id.ensures.value)

pub returns-in_err-id-clause-registered : goal.returns-in_err-id-clause-registered
returns-in_err-id-clause-registered c =
    rw (c.from_residual.ensures, ← c.self.view_is, ← c.from_name_and_version-key.ensures)
    (found_registered (fields_of c.self.inside) c.self.invariant (borrowed_key c.from_name_and_version-key.result) None c.in_err-id.ensures.value)

pub returns-clause-registered : goal.returns-clause-registered
returns-clause-registered c =
    rw (← c.self.view_is, ← c.from_name_and_version-key.ensures)
    (found_registered (fields_of c.self.inside) c.self.invariant (borrowed_key c.from_name_and_version-key.result) (Some c.in_ok-id.field-0.now) c.in_ok-id.ensures.value)
