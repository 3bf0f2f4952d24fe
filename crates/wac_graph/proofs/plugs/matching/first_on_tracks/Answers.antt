use Rattle.std.proofs.Common.{◌∙◌}
use Rattle.wac_graph.proofs.lemmas.plugs.Firsts.{first-next}
use Rattle.wac_graph.proofs.plugs.matching.first_on_tracks.Goals as goal

pub loop-i-preserved : goal.loop-i-preserved
loop-i-preserved c =
    first-next c.args.imports.now c.loop-i.i c.name_at.result.now c.as_str.result.now c.loop-i.firsts c.put_first.new.firsts c.name_at.ensures (c.as_str.ensures.value ∙ c.in_ok-key.ensures) c.loop-i.invariant c.in_ok-put_first.ensures
