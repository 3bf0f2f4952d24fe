use Rattle.std.proofs.Common.{subst, sym, Ok}
use Rattle.wac_types_shapes.specs.primitives.Name.{Name}
use Rattle.wac_types_shapes.specs.declared.shapes.component.ItemKind.{ItemKind}
use Rattle.wac_graph_model.specs.nodes.Steps.{Aliases}
use Rattle.wac_graph.specs.private.plugs.Positions.{HasExport}
use Rattle.wac_graph.proofs.PositionLemmas.{if_ok}
use Rattle.wac_graph.proofs.positions.alias_export_at.Goals as goal

pub alias_at-requires-clause-export : goal.alias_at-requires-clause-export
alias_at-requires-clause-export c =
    let e = c.requires.export in
    (e.0, subst (λ k. HasExport c.args.graph.now c.args.instance e.0 c.args.position k) (sym (c.export_kind-kind.ensures e.0 e.1 e.2)) e.2)

pub returns-clause-step : goal.returns-clause-step
returns-clause-step c =
    if_ok c.alias_at.result (λ alias. (name : Name) → HasExport c.args.graph.now c.args.instance name c.args.position c.export_kind-kind.result → Aliases c.args.graph.now c.args.instance name (Ok alias) c.alias_at.new.self)
    (λ alias. (name : Name) (kind : ItemKind) → HasExport c.args.graph.now c.args.instance name c.args.position kind → Aliases c.args.graph.now c.args.instance name (Ok alias) c.alias_at.new.self)
    (λ alias made name kind has. made name (subst (λ k. HasExport c.args.graph.now c.args.instance name c.args.position k) (sym (c.export_kind-kind.ensures name kind has)) has)) c.alias_at.ensures.step
