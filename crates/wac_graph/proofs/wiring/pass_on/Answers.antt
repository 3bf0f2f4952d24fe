use Rattle.wac_graph.proofs.lemmas.plugs.Made.{passes-made, passes-refused, passes-keeps}
use Rattle.wac_graph.proofs.wiring.pass_on.Goals as goal

pub returns-in_err-export-clause-step : goal.returns-in_err-export-clause-step
returns-in_err-export-clause-step c =
    passes-refused c.args.socket c.args.graph.now c.alias_instance_export.new.self c.export.new.self c.args.name.now c.in_ok-alias.alias c.requires c.in_ok-alias.ensures.step c.in_ok-alias.ensures.there
    (c.in_err-export.field-0).0 c.from_residual-in_err-export.result c.in_err-export.ensures.step c.from_residual-in_err-export.ensures.1

pub returns-clause-step : goal.returns-clause-step
returns-clause-step c = passes-made c.args.socket c.args.graph.now c.alias_instance_export.new.self c.export.new.self c.args.name.now c.in_ok-alias.alias c.requires c.in_ok-alias.ensures.step c.in_ok-alias.ensures.there c.in_ok-export.ensures.step

pub returns-clause-kept : goal.returns-clause-kept
returns-clause-kept c =
    passes-keeps c.args.socket c.args.graph.now c.alias_instance_export.new.self c.export.new.self c.args.name.now c.in_ok-alias.alias c.requires c.in_ok-alias.ensures.step c.in_ok-alias.ensures.there c.in_ok-export.ensures.step
