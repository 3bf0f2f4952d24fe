use Rattle.wac_graph.proofs.lemmas.plugs.Targets.{found-target, track-target, then-ok}
use Rattle.wac_graph.proofs.plugs.matching.target.Goals as goal

pub returns-in-Some-clause-target : goal.returns-in-Some-clause-target
returns-in-Some-clause-target c = found-target c.args.imports.now c.args.name.now (c.in-Some.position, c.in-Some.field-0-1.now) c.in-Some.ensures

pub returns-clause-target : goal.returns-clause-target
returns-clause-target c = then-ok c.first_on_track.result (track-target c.args.imports.now c.args.name.now c.in_default.ensures) c.first_on_track.ensures.first
