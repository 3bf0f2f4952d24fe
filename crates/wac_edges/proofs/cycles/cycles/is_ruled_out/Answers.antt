use Rattle.std.proofs.Common.{◌<◌, length, get_or, refl, arith}
use Rattle.std.proofs.lemmas.Bool.{OnTrue_at, OnTrue_from}
use Rattle.std.proofs.lemmas.Bool.Decides.{nat_tests}
use Rattle.std.proofs.lemmas.Option.{slice_get_read}
use Rattle.wac_edges.proofs.lemmas.cycles.CycleSearch.{below_kept, within_set, ruled_out}
use Rattle.wac_edges.proofs.cycles.cycles.is_ruled_out.Goals as goal

pub highest-requires : goal.highest-requires
highest-requires c =
    let targets = c.args.targets.now in
    below_kept (length targets) (length c.args.ranks.now) c.index-targets-n.result.keys c.requires.long
    (within_set targets c.args.n c.index-targets-n.result c.requires.within (slice_get_read targets (length targets) c.args.n c.index-targets-n.result refl c.requires.small c.index-targets-n.is))

pub returns : goal.returns
returns c =
    let targets = c.args.targets.now in
    let ranks = c.args.ranks.now in
    OnTrue_from _ _ (λ is.
    let low : c.highest.result < get_or ranks c.args.n 0 = grind (arith, nat_tests) in
    ruled_out targets ranks c.args.n c.highest.result c.index-targets-n.result (OnTrue_at c.if-not-descends.false c.requires.descends)
    (slice_get_read targets (length targets) c.args.n c.index-targets-n.result refl c.requires.small c.index-targets-n.is) c.highest.ensures low)
