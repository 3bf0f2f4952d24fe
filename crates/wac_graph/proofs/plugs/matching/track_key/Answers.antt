use Rattle.wac_names.specs.Views.{track_view}
use Rattle.wac_names.proofs.TrackFacts.{had-track}
use Rattle.wac_graph.proofs.plugs.matching.track_key.Goals as goal

pub returns : goal.returns
returns c = rw (← had-track c.args.name.now (track_view c.in_ok-new.field-0) c.in_ok-new.ensures.value) c.to_key.ensures
