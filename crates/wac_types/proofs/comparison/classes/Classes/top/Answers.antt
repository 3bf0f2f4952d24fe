use Rattle.std.proofs.Common.{sym, ap}
use Rattle.std.proofs.lemmas.Option.{slice_get_within}
use Rattle.std.specs.Option.{option_map}
use Rattle.wac_types.proofs.lemmas.comparison.Joining.{leads_above}
use Rattle.wac_types.proofs.comparison.classes.Classes.top.Goals as goal

pub loop-above-preserved : goal.loop-above-preserved
loop-above-preserved c =
    let h = c.loop-above.invariant in
    let at = sym c.in-Some.ensures.entry in
    (ap (option_map (λ e. e.1)) at, slice_get_within c.args.self.now.links.entries c.loop-above.link.above _ at, leads_above c.args.self.now.links.entries c.args.position c.loop-above.top c.loop-above.link h.2 h.0)
