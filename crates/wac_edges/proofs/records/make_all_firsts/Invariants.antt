use Rattle.std.proofs.Common.{◌≡◌, ℕ, vec_len}
use Rattle.wac_edges.specs.declared.edges.End.{End}
use Rattle.wac_edges.specs.private.Records.{first_at}
use Rattle.wac_edges.proofs.AddingLemmas.{HaveFirstsAmong}
use Rattle.wac_edges.proofs.records.make_all_firsts.Given as goal

abbrev pub invariant-loop-edge : goal.invariant-loop-edge
invariant-loop-edge l =
    ((end : End) (n : ℕ) → first_at end l.firsts.items n ≡ first_at end l.fn.firsts.items n) × HaveFirstsAmong (vec_len l.firsts) l.edges l.edge-index
