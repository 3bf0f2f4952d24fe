use Rattle.std.proofs.Common.{ap, sym, refl, subst, ◌∙◌, MatchOption, is_some}
use Rattle.std.proofs.lemmas.Result.{err_from_is_err_and}
use Rattle.wac_names.specs.Faults.{HasFault}
use Rattle.wac_edges.specs.Edge.{node_number}
use Rattle.wac_graph_model.specs.nodes.Definitions.{IsResource}
use Rattle.wac_graph_model.specs.nodes.ExternName.{IsImportName}
use Rattle.wac_graph_model.proofs.lemmas.nodes.NodeLemmas.{lookup_text}
use Rattle.wac_graph_fields.proofs.GraphLemmas.{defined_there, defined_nowhere}
use Rattle.wac_graph_fields.specs.private.Fields.{graph_of}
use Rattle.wac_graph.specs.private.Inside.{fields_of}
use Rattle.wac_graph.proofs.DefiningLemmas.{no_resource}
use Rattle.wac_graph.proofs.graph.CompositionGraph.check_definition.Goals as goal

pub returns-then-is_defined : goal.returns-then-is_defined
returns-then-is_defined c =
    let (q, there) = c.if-is_defined.ensures.there in
    rw (← c.self.view_is) (refl, (node_number q, defined_there (graph_of (fields_of c.self.inside)) c.self.inside.nodes refl c.args.ty (node_number q) there))

pub returns-in-Resource : goal.returns-in-Resource
returns-in-Resource c =
    rw (← c.self.view_is) (refl, defined_nowhere (graph_of (fields_of c.self.inside)) c.self.inside.nodes refl c.args.ty c.if-is_defined.ensures.absent, subst IsResource (sym c.in-Resource.is) tt)

pub returns-in_err-name : goal.returns-in_err-name
returns-in_err-name c =
    let p = err_from_is_err_and c.from_residual.result c.from_residual.ensures.1 in
    rw (p.1, p.2, ← c.self.view_is) (refl, defined_nowhere (graph_of (fields_of c.self.inside)) c.self.inside.nodes refl c.args.ty c.if-is_defined.ensures.absent, no_resource c.args.ty c.in_default.not-Resource)

pub returns-in-Some : goal.returns-in-Some
returns-in-Some c = (
  refl,
  c.in_ok-name.ensures.ok,
  rw (← c.self.view_is) (defined_nowhere (graph_of (fields_of c.self.inside)) c.self.inside.nodes refl c.args.ty c.if-is_defined.ensures.absent),
  no_resource c.args.ty c.in_default.not-Resource,
  rw (← c.self.view_is) (ap is_some (lookup_text c.self.inside.exports.entries c.args.name.now ∙ sym c.in-Some.ensures.value)),
)

pub returns-in_err-source : goal.returns-in_err-source
returns-in_err-source c =
    let p = err_from_is_err_and c.from_residual-in_err-source.result c.from_residual-in_err-source.ensures.1 in
    rw (p.1, p.2, ← c.self.view_is) (refl, defined_nowhere (graph_of (fields_of c.self.inside)) c.self.inside.nodes refl c.args.ty c.if-is_defined.ensures.absent, no_resource c.args.ty c.in_default.not-Resource)

pub returns-in_err-name-2 : goal.returns-in_err-name-2
returns-in_err-name-2 c =
    let p = err_from_is_err_and c.from_residual-in_err-name-2.result c.from_residual-in_err-name-2.ensures.1 in
    rw (p.1, p.2, ← c.self.view_is) (refl, defined_nowhere (graph_of (fields_of c.self.inside)) c.self.inside.nodes refl c.args.ty c.if-is_defined.ensures.absent, no_resource c.args.ty c.in_default.not-Resource)

pub returns-in-Some-2 : goal.returns-in-Some-2
returns-in-Some-2 c = (
  refl,
  c.in_ok-name-2.ensures.ok,
  rw (← c.self.view_is) (defined_nowhere (graph_of (fields_of c.self.inside)) c.self.inside.nodes refl c.args.ty c.if-is_defined.ensures.absent),
  no_resource c.args.ty c.in_default.not-Resource,
  rw (← c.self.view_is) (lookup_text c.self.inside.exports.entries c.args.name.now ∙ sym c.in_default-get.ensures.value),
  subst (λ o. MatchOption o (IsImportName c.args.name.now) (HasFault c.args.name.now)) c.in-Some-2.is c.in_ok-source.ensures,
)

pub returns : goal.returns
returns c = (
  rw (← c.self.view_is) (defined_nowhere (graph_of (fields_of c.self.inside)) c.self.inside.nodes refl c.args.ty c.if-is_defined.ensures.absent),
  no_resource c.args.ty c.in_default.not-Resource,
  rw (← c.self.view_is) (lookup_text c.self.inside.exports.entries c.args.name.now ∙ sym c.in_default-get.ensures.value),
  subst (λ o. MatchOption o (IsImportName c.args.name.now) (HasFault c.args.name.now)) c.in_default-2.is c.in_ok-source.ensures,
)
