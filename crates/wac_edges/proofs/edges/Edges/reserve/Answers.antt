use Rattle.std.proofs.Common.{sym, subst}
use Rattle.slab.specs.Slab.{Slab, get}
use Rattle.wac_edges.specs.declared.records.Record.{Record}
use Rattle.wac_edges.specs.private.Aliases.{AreNoted}
use Rattle.wac_edges.specs.private.Records.{AreListed, RiseUnless}
use Rattle.wac_edges.proofs.edges.Edges.reserve.Goals as goal

pub invariant_of-self : goal.invariant_of-self
invariant_of-self c =
    subst (λ (s : Slab Record). AreListed (get s) c.self.inside.firsts.items × AreNoted c.self.inside.crowded.items c.self.inside.aliases (get s) × RiseUnless c.self.inside.falls (get s)) (sym c.reserve.ensures.rest_kept) c.self.invariant
